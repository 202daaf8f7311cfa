-- Where streams stand among those that are kept.
use Rattle.std.specs.Prelude.{◌≡◌, ℕ, zero, suc, ◌≤◌, List, [], ◌∷◌, Some, slice_get, ⊤}
use Rattle.lane_wire.specs.declared.stream_numbers.KeptStream.{KeptStream}

-- A stream stands at this place.
abbrev pub Stands : (ssrc place : ℕ) → List (ℕ × KeptStream) → Type 0
Stands ssrc place entries = (kept : KeptStream) × (slice_get entries place ≡ Some (ssrc, kept))

-- The last news of the stream at this place have this number.
abbrev pub HasLast : (place last : ℕ) → List (ℕ × KeptStream) → Type 0
HasLast place last entries = (e : ℕ × KeptStream) × (slice_get entries place ≡ Some e) × (e.1.last ≡ last)

-- The last news of so many streams, from the first one on, are not before those of this number.
abbrev pub AreLater : (many last : ℕ) → List (ℕ × KeptStream) → Type 0
AreLater zero last entries = ⊤
AreLater (suc many) last [] = ⊤
AreLater (suc many) last (e ∷ entries) = (last ≤ e.1.last) × AreLater many last entries
