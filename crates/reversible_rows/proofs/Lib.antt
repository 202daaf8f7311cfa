mod ChangeLemmas
mod NewKeys
mod OverlayLemmas
