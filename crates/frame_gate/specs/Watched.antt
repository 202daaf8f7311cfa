-- A gate as time passes: which missing numbers it asks for again, and which one it gives up (own).
use Rattle.std.specs.Prelude.{◌≡◌, ℕ, ℤ, ◌+◌, Bool, true, ◌||◌, ◌&&◌, not, if◌then◌else◌, ◌++◌, nat_eq, nat_le, nat_lt}
use Rattle.std.specs.Prelude.{is_some, count_by, take, List, [], ◌∷◌, Option, None, Some, option_map, filter, map, fold}
use Rattle.frame_gate.specs.Packets.{NumberedPacket, ext_of}
use Rattle.frame_gate.specs.Frame.{WholeFrame}
use Rattle.frame_gate.specs.Epochs.{Epoch, blank, greatest, frames_of, epoch_after, gives_up}
use Rattle.frame_gate.specs.GivenUp.{missing_in, given_up}

-- an epoch, the greatest number that was taken at each of the last waits, the last wait first, whether the source
-- answers, and how often the gate gave up: at a packet or at a wait, once however many numbers it gave up there
pub record Watch : Type 0 where
  pub epoch : Epoch
  pub marks : List ℕ
  pub answers : Bool
  pub gaps : ℕ

-- A number is waited for at so many waits. At one each 20 ms that is half a second.
abbrev pub most_waits : ℕ
most_waits = 25

-- Where the source does not answer, it is a tenth of a second.
abbrev pub short_waits : ℕ
short_waits = 5

-- how many waits a number is waited for
abbrev pub limit_of : Bool → ℕ
limit_of answers = if answers then most_waits else short_waits

-- at how many of the waits a number that is missing now was missing
abbrev pub age : List ℕ → ℕ → ℕ
age marks n = count_by (λ mark. nat_lt n mark) marks

-- A number is asked for again after 40, 100, 220 and 420 ms.
abbrev pub is_asked : List ℕ → ℕ → Bool
is_asked marks n =
    nat_eq (age marks n) 2 || (nat_eq (age marks n) 5 || (nat_eq (age marks n) 11 || nat_eq (age marks n) 21))

-- It was waited for long enough.
abbrev pub is_lost : ℕ → List ℕ → ℕ → Bool
is_lost limit marks n = nat_le limit (age marks n)

-- the last of these
abbrev pub last_among : List ℕ → Option ℕ
last_among numbers = fold (λ last n. Some n) None numbers

-- the greatest number that was waited for long enough; those below it were, too
abbrev pub lost_in : Watch → Option ℕ
lost_in w = last_among (filter (is_lost (limit_of w.answers) w.marks) (missing_in w.epoch))

-- the first of these
abbrev pub first_among : List ℕ → Option ℕ
first_among [] = None
first_among (n ∷ numbers) = Some n

-- At how many of the waits the first missing number was missing. The others were missing at no more of them.
abbrev pub waits_in : Watch → Option ℕ
waits_in w = option_map (age w.marks) (first_among (missing_in w.epoch))

-- one more, if this is so
abbrev pub one_more_if : Bool → ℕ → ℕ
one_more_if is_so count = if is_so then count + 1 else count

-- the epoch once it is given up
abbrev pub giving_up : Epoch → Option ℕ → Epoch
giving_up e None = e
giving_up e (Some n) = given_up e n

-- after a wait
abbrev pub waited : Watch → Watch
waited w = record {
  epoch = giving_up w.epoch (lost_in w);
  marks = take most_waits (greatest w.epoch.taken ∷ w.marks);
  answers = w.answers && not (is_some (lost_in w));
  gaps = one_more_if (is_some (lost_in w)) w.gaps;
}

-- Whether the source answers, after a packet. It does once a packet comes that is behind the greatest number of one of
-- the last waits, as a missing one is; a late one and a doubled old one are, too. It does not where a number is given
-- up.
abbrev pub answers_with : Watch → NumberedPacket → Bool
answers_with w p = (w.answers || nat_le 1 (age w.marks p.number)) && not (gives_up w.epoch p)

-- after a packet
abbrev pub watch_next : Watch → NumberedPacket → Watch
watch_next w p = record {
  epoch = epoch_after w.epoch p;
  marks = w.marks;
  answers = answers_with w p;
  gaps = one_more_if (gives_up w.epoch p) w.gaps;
}

-- the frames that were closed, the numbers that are asked for again, and whether one was given up, so that a new
-- picture is needed
pub record Waited : Type 0 where
  pub frames : List WholeFrame
  pub nacks : List ℤ
  pub pli : Bool

-- This is the answer to a wait.
pub record AnswersWait (w : Watch) (a : Waited) : Type 0 where
  pub frames : frames_of (giving_up w.epoch (lost_in w)) ≡ frames_of w.epoch ++ a.frames
  pub nacks : a.nacks ≡ map ext_of (filter (is_asked w.marks) (missing_in w.epoch))
  pub pli : a.pli ≡ is_some (lost_in w)

-- what comes to a gate: a packet, or a wait
pub data GateEvent : Type 0 where
  came : (packet : NumberedPacket) → GateEvent
  wait : GateEvent

-- a gate to which nothing came. A source is thought to answer.
abbrev pub unwatched : Watch
unwatched = record { epoch = blank; marks = []; answers = true; gaps = 0 }

-- after one more of these
abbrev pub watch_on : Watch → GateEvent → Watch
watch_on w (came p) = watch_next w p
watch_on w wait = waited w

-- after these
abbrev pub watch_of : List GateEvent → Watch
watch_of events = fold watch_on unwatched events
