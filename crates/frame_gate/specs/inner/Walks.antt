-- How a walk stands to the divided run.
use Rattle.std.specs.Prelude.{◌≡◌, ℕ, ◌+◌, Bool, true, false, not, if◌then◌else◌, ◌&&◌, nat_eq, List, [], ◌∷◌, ◌++◌}
use Rattle.std.specs.Prelude.{length, map, Option, None, Some}
use Rattle.std.specs.List.{list_any}
use Rattle.frame_gate.specs.Packets.{NumberedPacket, frame_packet}
use Rattle.frame_gate.specs.Frame.{WholeFrame, marker_is_early}
use Rattle.frame_gate.specs.declared.walk.Walk.{Walk}
use Rattle.frame_gate.specs.Runs.{is_empty, is_full, full, differs, ends, Divided, joined, next_in, frames_in, IsRow}

abbrev pub tells_apart_at : Option ℕ → NumberedPacket → Bool
tells_apart_at None p = false
tells_apart_at (Some ts) p = is_full p && not (nat_eq ts p.ts)

abbrev pub is_nil : {X : Type 0} → List X → Bool
is_nil [] = true
is_nil (x ∷ xs) = false

-- The walk has come along a run from the cut that is divided so far, over what `at` finds; all frames given before,
-- those here included, are the earlier ones and those of the run.
pub record Stands (at : ℕ → Option NumberedPacket) (cut : ℕ) (given earlier : List WholeFrame) (d : Divided) (w : Walk)
    (out : List WholeFrame) : Type 0 where
  pub after : w.after ≡ cut + length (joined d.closed) + length d.unclosed
  pub next : w.next ≡ next_in cut d
  pub first : w.first ≡ is_nil d.closed
  pub stamp : (p : NumberedPacket) → differs d.unclosed p ≡ tells_apart_at w.stamp p
  pub piece : w.first ≡ false → IsRow at w.next d.unclosed
  pub frames : given ++ out ≡ earlier ++ frames_in d

-- the walk after a division
abbrev pub closed_at : Walk → Walk
closed_at w = record { next = w.after; after = w.after; first = false; stamp = None }

-- the walk after one more packet of the piece
abbrev pub joined_at : Walk → NumberedPacket → Walk
joined_at w p = record {
  next = if w.first then w.after + 1 else w.next;
  after = w.after + 1;
  first = w.first;
  stamp = if is_empty p then w.stamp else Some p.ts;
}

-- No packet ends the piece.
abbrev pub GoesOn : List NumberedPacket → Type 0
GoesOn piece = list_any ends piece ≡ false

-- No packet but the last one may have ended the piece.
abbrev pub MayEnd : List NumberedPacket → Type 0
MayEnd piece = marker_is_early (map frame_packet (full piece)) ≡ false
