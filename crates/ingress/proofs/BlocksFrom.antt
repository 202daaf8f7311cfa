-- The blocks of sources, source by source.
use Rattle.std.proofs.Common.{◌≡◌, ℕ, ◌+◌, ◌<◌, if◌then◌else◌, List, [], ◌∷◌, ◌++◌, length, get_or, take, Option, None}
use Rattle.std.proofs.Common.{Some, refl, sym, ap, subst, ◌∙◌}
use Rattle.std.specs.Option.{option_and_then}
use Rattle.std.specs.List.{filter_map, cons_option, AllByRecursion}
use Rattle.std.proofs.lemmas.Bool.{eq-eqb}
use Rattle.std.proofs.lemmas.List.{take_more, append-nil}
use Rattle.std.proofs.lemmas.List.Elements.{filter_map-append}
use Rattle.rtcp_codec.specs.declared.report.ReportBlock.{ReportBlock}
use Rattle.rtcp_codec.specs.Report.{FitsLost}
use Rattle.desk_rows.specs.declared.row.Member.{Member}
use Rattle.desk_rows.specs.declared.row.Source.{Source}
use Rattle.ingress.specs.declared.known.OriginKey.{OriginKey}
use Rattle.ingress.specs.Stories.{Story}
use Rattle.ingress.specs.Sources.{Origin, Known, story_at}
use Rattle.ingress.specs.Reported.{block_on, block_from, blocks_of}
use Rattle.ingress.specs.inner.SourceEntries.{EntryOf, Keeps}
use Rattle.ingress.specs.inner.Holding.{Holds, key_of, kept_at}
use Rattle.ingress.proofs.Courses.{KeepsAny}
use Rattle.ingress.proofs.KnownSources.{kept_story}

-- the origin of a member's source
abbrev pub origin : Member → Source → Origin
origin m s = record { address = m.address; ssrc = s.ssrc }

known_block : (ssrc moment : ℕ) (k : EntryOf) (story : Option Story) (r : Option ReportBlock) → KeepsAny (Some k) story
    → ((story : Story) → Keeps k story → r ≡ block_on ssrc moment story)
    → r ≡ option_and_then (block_on ssrc moment) story
known_block ssrc moment k None r h is = absurd h
known_block ssrc moment k (Some story) r h is = is story h

no_block : (ssrc moment : ℕ) (story : Option Story) → KeepsAny None story
    → None ≡ option_and_then (block_on ssrc moment) story
no_block ssrc moment None h = refl
no_block ssrc moment (Some story) h = absurd h

own : (moment : ℕ) (known : List Known) (m : Member) (s : Source) → s.member ≡ m.member
    → block_from moment known m s ≡ option_and_then (block_on s.ssrc moment) (story_at (origin m s) known)
own moment known m s is =
    ap (λ b. if b then option_and_then (block_on s.ssrc moment) (story_at (origin m s) known) else None)
    (eq-eqb s.member m.member is)

pub from_kept : (moment : ℕ) (es : List (OriginKey × EntryOf)) (known : List Known) (m : Member) (s : Source)
    (k : EntryOf) (r : Option ReportBlock)
    → s.member ≡ m.member → Holds es known → kept_at (key_of (origin m s)) es ≡ Some k
    → ((story : Story) → Keeps k story → r ≡ block_on s.ssrc moment story) → r ≡ block_from moment known m s
from_kept moment es known m s k r is h at told =
    known_block s.ssrc moment k (story_at (origin m s) known) r
    (subst (λ (o : Option EntryOf). KeepsAny o (story_at (origin m s) known)) at (kept_story (origin m s) es known h))
    told
    ∙ sym (own moment known m s is)

pub from_none : (moment : ℕ) (es : List (OriginKey × EntryOf)) (known : List Known) (m : Member) (s : Source)
    → s.member ≡ m.member → Holds es known → kept_at (key_of (origin m s)) es ≡ None
    → None ≡ block_from moment known m s
from_none moment es known m s is h at =
    no_block s.ssrc moment (story_at (origin m s) known)
    (subst (λ (o : Option EntryOf). KeepsAny o (story_at (origin m s) known)) at (kept_story (origin m s) es known h))
    ∙ sym (own moment known m s is)

-- ---- one more source

blocks_up_to : (moment : ℕ) (known : List Known) (m : Member) (ss : List Source) (i : ℕ) (d : Source) → i < length ss
    → blocks_of (take (i + 1) ss) moment known m
    ≡ blocks_of (take i ss) moment known m ++ cons_option (block_from moment known m (get_or ss i d)) []
blocks_up_to moment known m ss i d lt =
    ap (filter_map (block_from moment known m)) (take_more ss i d lt)
    ∙ filter_map-append (block_from moment known m) (take i ss) (get_or ss i d ∷ [])

pub blocks_more : (moment : ℕ) (known : List Known) (m : Member) (ss : List Source) (i : ℕ) (d : Source)
    (b : ReportBlock)
    → i < length ss → Some b ≡ block_from moment known m (get_or ss i d)
    → blocks_of (take (i + 1) ss) moment known m ≡ blocks_of (take i ss) moment known m ++ b ∷ []
blocks_more moment known m ss i d b lt some =
    blocks_up_to moment known m ss i d lt
    ∙ ap (λ o. blocks_of (take i ss) moment known m ++ cons_option o []) (sym some)

pub blocks_same : (moment : ℕ) (known : List Known) (m : Member) (ss : List Source) (i : ℕ) (d : Source) → i < length ss
    → None ≡ block_from moment known m (get_or ss i d)
    → blocks_of (take (i + 1) ss) moment known m ≡ blocks_of (take i ss) moment known m
blocks_same moment known m ss i d lt none =
    blocks_up_to moment known m ss i d lt
    ∙ ap (λ o. blocks_of (take i ss) moment known m ++ cons_option o []) (sym none)
    ∙ append-nil (blocks_of (take i ss) moment known m)

pub all_fit : (bs : List ReportBlock) (b : ReportBlock) → AllByRecursion (λ x. FitsLost x.lost) bs → FitsLost b.lost
    → AllByRecursion (λ x. FitsLost x.lost) (bs ++ b ∷ [])
all_fit [] b h p = (p, tt)
all_fit (x ∷ bs) b h p = (h.0, all_fit bs b h.1 p)
