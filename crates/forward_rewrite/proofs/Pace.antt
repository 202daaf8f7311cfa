-- The packets of a mix over its ticks.
use Rattle.std.proofs.Common.{◌≡◌, ℕ, zero, suc, ◌+◌, ◌%◌, ◌^◌, Bool, true, false, not, List, [], ◌∷◌, ◌++◌, length}
use Rattle.std.proofs.Common.{map, Option, None, Some, refl, ap, ◌∙◌, arith, subst}
use Rattle.std.specs.Prelude.{IfSome, is_some}
use Rattle.std.specs.List.{slice_get}
use Rattle.media_items.specs.Formats.{tick_at, tick_of}
use Rattle.forward_rewrite.specs.declared.tick_time.TickTime.{TickTime}
use Rattle.forward_rewrite.specs.Sending.{Numbered}
use Rattle.forward_rewrite.specs.Mixes.{Sound, MixTick, sounding, mix_packet, packets_in, mixed, mixed_from, begun}
use Rattle.forward_rewrite.specs.Mixes.{mix_list, units_of}
use Rattle.forward_rewrite.specs.laws.MixLaws.{silent_at, any, KeepsPace}
use Rattle.forward_rewrite.proofs.Mixing.{ended, units-cons, from-append, begun_then, begun-append}

-- the packet at a place has that place behind the first number
abbrev NumberedAt : ℕ → List Numbered → ℕ → Type 0
NumberedAt number packets k = IfSome (slice_get packets k) (λ (p : Numbered). p.number ≡ (number + k) % 2 ^ 16)

-- behind a packet or none
behind_one : (ssrc number ts : ℕ) (marker : Bool) (sound : Option Sound) (rest : ℕ → List Numbered)
    → ((n k : ℕ) → NumberedAt n (rest n) k) → (k : ℕ)
    → (let sent = packets_in ssrc number ts marker sound in NumberedAt number (sent ++ rest (number + length sent)) k)
behind_one ssrc number ts marker None rest all k =
    subst (λ n. NumberedAt n (rest (number + 0)) k) (omega arith) (all (number + 0) k)
behind_one ssrc number ts marker (Some sound) rest all zero = omega arith
behind_one ssrc number ts marker (Some sound) rest all (suc k) =
    subst (λ n. IfSome (slice_get (rest (number + 1)) k) (λ (p : Numbered). p.number ≡ n % 2 ^ 16)) (omega arith)
    (all (number + 1) k)

pub numbered_on : (ssrc number ts : ℕ) (spoke : Bool) (xs : List MixTick) (k : ℕ)
    → NumberedAt number (mixed ssrc number ts spoke xs) k
numbered_on ssrc number ts spoke [] k = tt
numbered_on ssrc number ts spoke (x ∷ xs) k =
    let here = ts + tick_at x.rate in
    behind_one ssrc number here (not spoke) x.sound (λ n. mixed ssrc n here (is_some x.sound) xs)
    (λ n. numbered_on ssrc n here (is_some x.sound) xs) k

pub numbered_from : (ssrc first_seq first_ts : ℕ) (xs : List MixTick) (k : ℕ)
    → NumberedAt first_seq (mixed_from ssrc first_seq first_ts xs) k
numbered_from ssrc first_seq first_ts [] k = tt
numbered_from ssrc first_seq first_ts (x ∷ xs) k =
    behind_one ssrc first_seq first_ts true x.sound (λ n. mixed ssrc n first_ts (is_some x.sound) xs)
    (λ n. numbered_on ssrc n first_ts (is_some x.sound) xs) k

-- the first sound
begun-first : (silences : List TickTime) (tick : MixTick)
    → begun (map silent_at silences ++ tick ∷ []) ≡ begun (tick ∷ [])
begun-first [] tick = refl
begun-first (s ∷ ss) tick = begun-first ss tick

pub first_packet : (ssrc first_seq first_ts : ℕ) (silences : List TickTime) (sound : Sound) (moment : ℕ)
    → mix_list ssrc first_seq first_ts (map silent_at silences ++ sounding sound moment ∷ [])
    ≡ mix_packet ssrc first_seq first_ts true sound ∷ []
first_packet ssrc first_seq first_ts silences sound moment =
    ap (mixed_from ssrc first_seq first_ts) (begun-first silences (sounding sound moment))

-- the next sound after silent ticks
after_pause : (ssrc number ts : ℕ) (pauses : List TickTime) (later : Sound) (moment : ℕ)
    → mixed ssrc number ts false (map silent_at pauses ++ sounding later moment ∷ [])
    ≡ mix_packet ssrc number (ts + units_of (map silent_at pauses) + tick_of later.format) true later ∷ []
after_pause ssrc number ts [] later moment = ap (λ t. mix_packet ssrc number t true later ∷ []) (omega arith)
after_pause ssrc number ts (p ∷ ps) later moment =
    let units = units-cons (silent_at p) (map silent_at ps) in
    let here = ts + tick_at p.rate in
    let zero : number + 0 ≡ number = omega arith in
    let same : here + units_of (map silent_at ps) + tick_of later.format
    ≡ ts + units_of (map silent_at (p ∷ ps)) + tick_of later.format =
    omega (arith, units) in
    ap (λ n. mixed ssrc n here false (map silent_at ps ++ sounding later moment ∷ [])) zero
    ∙ after_pause ssrc number here ps later moment
    ∙ ap (λ t. mix_packet ssrc number t true later ∷ []) same

-- and after a sound
after_sound : (ssrc number ts : ℕ) (pauses : List TickTime) (later : Sound) (moment : ℕ)
    → mixed ssrc number ts true (map silent_at pauses ++ sounding later moment ∷ [])
    ≡ mix_packet ssrc number (ts + units_of (map silent_at pauses) + tick_of later.format) (any pauses) later ∷ []
after_sound ssrc number ts [] later moment = ap (λ t. mix_packet ssrc number t false later ∷ []) (omega arith)
after_sound ssrc number ts (p ∷ ps) later moment = after_pause ssrc number ts (p ∷ ps) later moment

-- a sound among what begins with a sound, and what comes behind it
from_sound : (ssrc first_seq first_ts : ℕ) (bs : List MixTick) (sound : Sound) (moment : ℕ) (pauses : List TickTime)
    (later : Sound) (later_moment : ℕ)
    → (let rest = map silent_at pauses ++ sounding later later_moment ∷ [] in
    let sent = mixed_from ssrc first_seq first_ts bs in
    let number = first_seq + length sent in
    (ts : ℕ) × (marker : Bool) × (mixed_from ssrc first_seq first_ts (begun_then bs (sounding sound moment ∷ rest))
    ≡ sent
    ++ mix_packet ssrc number ts marker sound
    ∷ mix_packet ssrc (number + 1) (ts + units_of (map silent_at pauses) + tick_of later.format) (any pauses) later
    ∷ []))
from_sound ssrc first_seq first_ts [] sound moment pauses later later_moment = (
  first_ts,
  true,
  ap (λ ps. mix_packet ssrc first_seq first_ts true sound ∷ ps)
      (after_sound ssrc (first_seq + 1) first_ts pauses later later_moment)
      ∙ (let same : first_seq ≡ first_seq + 0 = omega arith in
      ap
      (λ n.
      mix_packet ssrc n first_ts true sound
      ∷ mix_packet ssrc (n + 1) (first_ts + units_of (map silent_at pauses) + tick_of later.format) (any pauses) later
      ∷ [])
      same),
)
from_sound ssrc first_seq first_ts (b ∷ bs) sound moment pauses later later_moment =
    let rest = map silent_at pauses ++ sounding later later_moment ∷ [] in
    let sent = mixed_from ssrc first_seq first_ts (b ∷ bs) in
    let number = first_seq + length sent in
    let spoke = ended (is_some b.sound) bs in
    let ts = first_ts + units_of bs + tick_of sound.format in (
      ts,
      not spoke,
      from-append ssrc first_seq first_ts b bs (sounding sound moment ∷ rest)
          ∙ ap (λ ps. sent ++ mix_packet ssrc number ts (not spoke) sound ∷ ps)
          (after_sound ssrc (number + 1) ts pauses later later_moment),
    )

pub keeps_pace : (ssrc first_seq first_ts : ℕ) (before : List MixTick) (sound : Sound) (moment : ℕ)
    (pauses : List TickTime) (later : Sound) (later_moment : ℕ)
    → KeepsPace ssrc first_seq first_ts before sound moment pauses later later_moment
keeps_pace ssrc first_seq first_ts before sound moment pauses later later_moment =
    let rest = map silent_at pauses ++ sounding later later_moment ∷ [] in
    let here = from_sound ssrc first_seq first_ts (begun before) sound moment pauses later later_moment in
    record {
      ts = here.0;
      marker = here.1;
      packets = ap (mixed_from ssrc first_seq first_ts) (begun-append before (sounding sound moment ∷ rest)) ∙ here.2;
    }
