-- What is kept of many senders, by their last use (own).
use Rattle.std.specs.Prelude.{◌≡◌, ◌⊎◌, ℕ, ◌+◌, ◌-◌, ◌^◌, min, List, [], ◌∷◌, ◌++◌, Option, None, Some}
use Rattle.std.specs.Map.{lookup}
use Rattle.lru.specs.LruCache.{lru_cache, put_entries}
use Rattle.bridge_stats.specs.declared.taken.TakenIn.{TakenIn}
use Rattle.bridge_stats.specs.declared.sender.Sender.{Sender}
use Rattle.bridge_stats.specs.declared.stranger.StrangerNumbers.{StrangerNumbers}
use Rattle.bridge_stats.specs.Counts.{so_many}
use Rattle.bridge_stats.specs.Senders.{same_sender}

-- the most sources that are kept
abbrev pub most_sources : ℕ
most_sources = 5120

-- the most senders that are no source
abbrev pub most_strangers : ℕ
most_strangers = 64

-- what is kept, the latest first, and how many datagrams were left out since memory was refused
pub record TableOf (Kept : Type 0) : Type 0 where
  pub entries : List (Sender × Kept)
  pub left_out : ℕ

-- with this kept of a sender, before the others; of the most that may be kept, the one that was used last is forgotten
abbrev pub with_kept : {Kept : Type 0} → ℕ → Sender → Kept → TableOf Kept → TableOf Kept
with_kept most sender kept old = record {
  entries = put_entries same_sender (lru_cache old.entries most) sender kept;
  left_out = old.left_out;
}

-- with one more left out
abbrev pub with_left_out : {Kept : Type 0} → TableOf Kept → TableOf Kept
with_left_out old = record { entries = old.entries; left_out = so_many (old.left_out + 1) }

-- This is kept of a sender, or it is left out and counted. It is left out only where nothing was kept of the sender.
abbrev pub IsKept : {Kept : Type 0} → ℕ → Sender → Kept → TableOf Kept → TableOf Kept → Type 0
IsKept most sender kept old new =
    (new ≡ with_kept most sender kept old)
    ⊎ ((new ≡ with_left_out old) × (lookup (same_sender sender) old.entries ≡ None))

-- the datagrams of a source, none where nothing is kept
abbrev pub or_none : Option (List TakenIn) → List TakenIn
or_none None = []
or_none (Some all) = all

-- One more datagram came of a source.
abbrev pub IsSourceNoted : Sender → TakenIn → TableOf (List TakenIn) → TableOf (List TakenIn) → Type 0
IsSourceNoted sender taken old new =
    IsKept most_sources sender (or_none (lookup (same_sender sender) old.entries) ++ taken ∷ []) old new

-- how many packets came of a sender, none where nothing is kept
abbrev pub packets_before : Option StrangerNumbers → ℕ
packets_before None = 0
packets_before (Some numbers) = numbers.packets

-- One more packet with this payload type came of a sender that is no source.
abbrev pub IsMet : Sender → (pt : ℕ) → TableOf StrangerNumbers → TableOf StrangerNumbers → Type 0
IsMet sender pt old new =
    IsKept most_strangers sender
    (record { pt = pt; packets = so_many (packets_before (lookup (same_sender sender) old.entries) + 1) }) old new
