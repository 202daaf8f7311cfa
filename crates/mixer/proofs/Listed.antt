-- Lists by their places.
use Rattle.std.proofs.Common.{◌≡◌, ℕ, ℤ, pos, ◌<◌, List, [], ◌∷◌, length, map, filter, cond, Bool, true, false, suc}
use Rattle.std.proofs.Common.{refl, slice_index_or, sym, ap, ◌∙◌, arith, Option, None, Some}
use Rattle.std.specs.List.{range_with_len}
use Rattle.std.proofs.lemmas.List.{ext_get_or}
use Rattle.std.proofs.lemmas.List.FromFn.{length-map-range_with_len, get_or-map-range_with_len}
use Rattle.playout.specs.Playout.{Play, present}
use Rattle.playout.specs.Calls.{PlaysOut}
use Rattle.topology.specs.declared.hearing.AudioSource.{AudioSource}
use Rattle.topology.specs.Mixes.{in_room}
use Rattle.mixer.specs.inner.Rooms.{of_room}
use Rattle.desk_rows.specs.Desk.{Desk}
use Rattle.topology.specs.Looking.{room_rate}
use Rattle.mixer.specs.Hearing.{Given, Voice, voice_at, voice_of, sample_in, filled_in}

-- so many values, each that of a function at its place
pub listed : (f : ℕ → ℤ) (out : List ℤ) (n : ℕ) → length out ≡ n
    → ((i : ℕ) → i < n → slice_index_or out i (pos 0) ≡ f i) → out ≡ map f (range_with_len 0 n)
listed f out n long same =
    ext_get_or (pos 0) out (map f (range_with_len 0 n)) (long ∙ sym (length-map-range_with_len f 0 n))
    (λ i l.
    same i (omega (arith, long))
    ∙ sym (get_or-map-range_with_len f 0 n i i (pos 0) (omega (arith, long)) (omega arith)))

-- what a playout shows of a tick
pub shown : (play : Option Play) (out : List ℤ) (count n : ℕ) → length out ≡ n → PlaysOut play out count
    → out ≡ map (sample_in play) (range_with_len 0 n)
shown None out count n long t = listed (sample_in None) out n long (λ i l. t.0 i (omega (arith, long)))
shown (Some play) out count n long t = listed (sample_in (Some play)) out n long (λ i l. t.0 i (omega (arith, long)))

pub counted : (play : Option Play) (out : List ℤ) (count n : ℕ) → length out ≡ n → PlaysOut play out count
    → count ≡ filled_in play n
counted None out count n long t = t.1
counted (Some play) out count n long t = t.1 ∙ ap (present play.pairs play.position) long

-- what a source sounds like in its room
pub in_its_room : (d : Desk) (given : List Given) (s : AudioSource) (rate : ℕ) (v : Voice) → v ≡ voice_at rate given s
    → rate ≡ room_rate d s.room → v ≡ voice_of d given s
in_its_room d given s rate v is same = is ∙ ap (λ r. voice_at r given s) same

-- the source of a voice
abbrev pub source_of : Voice → AudioSource
source_of v = v.source

-- the voices of a room are as many as its sources
pub as_many_voices : (room : ℕ) (vs : List Voice)
    → length (of_room room vs) ≡ length (filter (in_room room) (map source_of vs))
as_many_voices room [] = refl
as_many_voices room (v ∷ vs) = by (in_room room v.source) (as_many_voices room vs)
  where
    by : (b : Bool) → length (of_room room vs) ≡ length (filter (in_room room) (map source_of vs))
        → length (cond b (v ∷ of_room room vs) (of_room room vs))
        ≡ length
        (cond b (v.source ∷ filter (in_room room) (map source_of vs)) (filter (in_room room) (map source_of vs)))
    by true e = ap suc e
    by false e = e
