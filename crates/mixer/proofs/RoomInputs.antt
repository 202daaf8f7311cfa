-- The inputs of a room, voice by voice.
use Rattle.std.proofs.Common.{◌≡◌, ℕ, ◌+◌, ◌<◌, ◌≤◌, true, false, subst, arith, drop, ◌⊎◌, inl, inr, List, [], ◌∷◌}
use Rattle.std.proofs.Common.{◌++◌, length, map, take, slice_index_or, ap, sym, ◌∙◌, cond, append-nil}
use Rattle.std.proofs.lemmas.List.{map_push}
use Rattle.std.proofs.lemmas.List.Elements.{All-from_recursion, filter_more}
use Rattle.mix_minus.specs.declared.input.Input.{Input}
use Rattle.mixer.specs.Hearing.{Voice}
use Rattle.std.specs.List.{AllByRecursion}
use Rattle.std.proofs.lemmas.Bool.{eqb-true}
use Rattle.media_items.specs.Formats.{tick_at}
use Rattle.mix_minus.specs.Mix.{ReachTo}
use Rattle.desk_rows.specs.Desk.{Desk}
use Rattle.topology.specs.Looking.{room_rate}
use Rattle.mixer.specs.inner.Rooms.{Plain, plain, plain_voice, is_of, of_room, AreLong}
use Rattle.mixer.proofs.StreamSteps.{tells}
use Rattle.mixer.proofs.HeardOf.{first}

-- one more voice, of the room
pub kept : (room n : ℕ) (xs : List Input) (x : Input) (vs : List Voice) (d : Voice) → n < length vs
    → is_of room (slice_index_or vs n d) ≡ true → plain x ≡ plain_voice (slice_index_or vs n d)
    → map plain xs ≡ map plain_voice (of_room room (take n vs))
    → map plain (xs ++ x ∷ []) ≡ map plain_voice (of_room room (take (n + 1) vs))
kept room n xs x vs d l here same so =
    map_push plain xs x
    ∙ ap (λ ps. ps ++ plain x ∷ []) so
    ∙ ap (λ p. map plain_voice (of_room room (take n vs)) ++ p ∷ []) same
    ∙ sym (map_push plain_voice (of_room room (take n vs)) (slice_index_or vs n d))
    ∙ ap (map plain_voice) (sym (filter_more (is_of room) vs n d l
    ∙ ap (λ b. of_room room (take n vs) ++ cond b (slice_index_or vs n d ∷ []) []) here))

-- one more voice, of another room
pub skipped : (room n : ℕ) (vs : List Voice) (d : Voice) → n < length vs → is_of room (slice_index_or vs n d) ≡ false
    → of_room room (take (n + 1) vs) ≡ of_room room (take n vs)
skipped room n vs d l other =
    filter_more (is_of room) vs n d l
    ∙ ap (λ b. of_room room (take n vs) ++ cond b (slice_index_or vs n d ∷ []) []) other
    ∙ append-nil (of_room room (take n vs))

-- ---- how long they are

-- the voice has so many samples
abbrev IsLong : ℕ → Voice → Type 0
IsLong places v = length v.samples ≡ places

long_of : (d : Desk) (room : ℕ) (vs : List Voice) → AreLong d vs
    → AllByRecursion (IsLong (tick_at (room_rate d room))) (of_room room vs)
long_of d room [] long = tt
long_of d room (v ∷ vs) long = by (tells (is_of room v)) (long_of d room vs long.1)
  where
    P : Voice → Type 0
    P = IsLong (tick_at (room_rate d room))

    by : (is_of room v ≡ true) ⊎ (is_of room v ≡ false) → AllByRecursion P (of_room room vs)
        → AllByRecursion P (cond (is_of room v) (v ∷ of_room room vs) (of_room room vs))
    by (inl here) rest =
        subst (λ b. AllByRecursion P (cond b (v ∷ of_room room vs) (of_room room vs))) (sym here)
        (long.0 ∙ ap (λ r. tick_at (room_rate d r)) (eqb-true v.source.room room here), rest)
    by (inr other) rest =
        subst (λ b. AllByRecursion P (cond b (v ∷ of_room room vs) (of_room room vs))) (sym other) rest

reach_by : (places : ℕ) (inputs : List Input) (ws : List Voice) → map plain inputs ≡ map plain_voice ws
    → AllByRecursion (IsLong places) ws
    → AllByRecursion (λ (i : Input). places ≤ length i.samples.now) inputs
reach_by places [] ws same long = tt
reach_by places (i ∷ is) [] same long = absurd (omega (arith, ap length same))
reach_by places (i ∷ is) (w ∷ ws) same long =
    let head : plain i ≡ plain_voice w = ap (first (plain i)) same in
    (omega (arith, ap (λ (p : Plain). length p.samples) head, long.0), reach_by places is ws (ap (drop 1) same) long.1)

-- inputs of a room are as long as its tick
pub reach_of : (d : Desk) (room : ℕ) (vs : List Voice) (inputs : List Input) → AreLong d vs
    → map plain inputs ≡ map plain_voice (of_room room vs) → ReachTo (tick_at (room_rate d room)) inputs
reach_of d room vs inputs long same =
    All-from_recursion (λ (i : Input). tick_at (room_rate d room) ≤ length i.samples.now) inputs
    (reach_by (tick_at (room_rate d room)) inputs (of_room room vs) same (long_of d room vs long))
