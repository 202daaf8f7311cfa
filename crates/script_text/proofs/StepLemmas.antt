-- Octets lead from place to place.
use Rattle.std.proofs.Common.{◌≡◌, ℕ, ◌+◌, ◌-◌, ◌<◌, List, [], ◌∷◌, ◌++◌, length, take, drop, Option, Some, None}
use Rattle.std.proofs.Common.{Result, Ok, Err, Bool, true, false, cond, eqb, get_or, inl, inr, refl, sym, ap, ◌∙◌}
use Rattle.std.proofs.Common.{subst, append_assoc, arith, ◌≤◌, nat_lt, codes, if◌then◌else◌}
use Rattle.std.specs.Str.{bytes_eq}
use Rattle.std.specs.List.{onto_first, All}
use Rattle.std.specs.Result.{MatchResult, is_ok, is_err}
use Rattle.std.specs.Str.Lines.{strip_carriage_return}
use Rattle.std.proofs.lemmas.Bool.{lt-ltb, ltb-true, cases_Bool, eqb-true}
use Rattle.std.proofs.lemmas.List.{append-nil, length-append, length-take, take_more, take-append-drop}
use Rattle.std.proofs.lemmas.List.Elements.{All-push}
use Rattle.std.proofs.lemmas.List.Splits.{slice_split_at, slice_split_none}
use Rattle.desk_text.specs.declared.fault.Fault.TheVariants.{LineTooLong}
use Rattle.desk_text.specs.Lines.{parts_of, lines_by, whole, ended, limit_of}
use Rattle.script_text.specs.declared.fault.RunFault.{RunFault}
use Rattle.desk_edit.specs.declared.refusal.Refusal.{Refusal}
use Rattle.desk_edit.specs.Calls.{CallHistory, refusal_of, after_call as history_after}
use Rattle.media_items.specs.Inputs.{Input}
use Rattle.script_text.specs.declared.fault.RunFault.TheVariants as errors
use Rattle.script_text.specs.Decodings.{Decoding, DecodesRequest, DecodesLines}
use Rattle.script_text.specs.Bridge.{Bridge, begun_bridge, answer_begin, answer_call, after_item, after_items, knowing}
use Rattle.bridge_core.specs.Steps.{CoreOf}
use Rattle.script_text.specs.Bridge.{taken_at, waited_at, origin_at, answer_text, bridge_after}
use Rattle.script_text.proofs.ItemLemmas.{limit_least}
use Rattle.script_text.proofs.FirstLineLemmas.{hears_at}
use Rattle.script_text.specs.Requests.{Request, Nothing, Begin, Desk, Item, Rx, Wait, Report, Show, line_request}
use Rattle.script_text.specs.ItemLines.{request_of}
use Rattle.script_text.specs.FirstLine.{request_at}
use Rattle.script_text.specs.Output.{RunOutput, nothing, told, stopped, continues, outcome_of}
use Rattle.script_text.specs.inner.Steps.{Held, place_of, Place, to_come, Goes, StepFails, DecodesComing, StepEnds}
use Rattle.script_text.specs.inner.Steps.{LineEnds, FinishEnds}

abbrev pub NoLf : List ℕ → Type 0
NoLf octets = All (λ b. eqb b 10 ≡ false) octets

-- ---- the first line

parts_some : (text : List ℕ) → (part : List ℕ) × (parts : List (List ℕ)) × (parts_of text ≡ part ∷ parts)
parts_some [] = ([], [], refl)
parts_some (x ∷ xs) = more (eqb x 10) x (parts_of xs) (parts_some xs)
  where
    more : (b : Bool) (x : ℕ) (parts : List (List ℕ))
        → (word : List ℕ) × (words : List (List ℕ)) × (parts ≡ word ∷ words)
        → (word : List ℕ) × (words : List (List ℕ)) × (cond b ([] ∷ parts) (onto_first x parts) ≡ word ∷ words)
    more true x parts h = ([], parts, refl)
    more false x parts h = (x ∷ h.0, h.1, ap (onto_first x) h.2)

-- an LF ends the line before it
pub lines_lf : (last : List ℕ → List (List ℕ)) (pending tail : List ℕ) → NoLf pending
    → lines_by last (parts_of (pending ++ 10 ∷ tail)) ≡ strip_carriage_return pending ∷ lines_by last (parts_of tail)
lines_lf last pending tail nolf =
    rw (slice_split_at (λ b. eqb b 10) pending 10 tail nolf refl)
    (lines_next last pending (parts_of tail) (parts_some tail))
  where
    lines_next : (last : List ℕ → List (List ℕ)) (part : List ℕ) (parts : List (List ℕ))
        → (word : List ℕ) × (words : List (List ℕ)) × (parts ≡ word ∷ words)
        → lines_by last (part ∷ parts) ≡ strip_carriage_return part ∷ lines_by last parts
    lines_next last part parts h = rw h.2 refl

-- with no LF there is one part
pub lines_none : (last : List ℕ → List (List ℕ)) (pending : List ℕ) → NoLf pending
    → lines_by last (parts_of (pending ++ [])) ≡ last pending
lines_none last pending nolf = rw (append-nil pending, slice_split_none (λ b. eqb b 10) pending nolf) refl

-- ---- one octet

pub told_told : (s t : List ℕ) (o : RunOutput) → told s (told t o) ≡ told (s ++ t) o
told_told s t o = ap (λ (u : List ℕ). record { text = u; fault = o.fault }) (sym (append_assoc s t o.text))

pub kept_goes : (place : Place) (x : ℕ) → Goes place (x ∷ []) (record place { pending = place.pending ++ x ∷ [] }) []
kept_goes place x last tail =
    ap (λ (t : List ℕ). outcome_of place.bridge place.line (lines_by last (parts_of t)))
    (sym (append_assoc place.pending (x ∷ []) tail))

pub none_ended : (place : Place) → NoLf place.pending → to_come ended place [] ≡ nothing
unfolding outcome_of
none_ended place nolf = rw (lines_none ended place.pending nolf) refl

pub lf_comes : (place : Place) (last : List ℕ → List (List ℕ)) (tail : List ℕ) → NoLf place.pending
    → to_come last place (10 ∷ tail)
    ≡ continues place.line place.bridge (request_at place.line (strip_carriage_return place.pending))
    (λ d. outcome_of d (place.line + 1) (lines_by last (parts_of tail)))
unfolding outcome_of
lf_comes place last tail nolf = rw (lines_lf last place.pending tail nolf) refl

-- what is held behind a line that was answered
abbrev pub next_line : Held → CoreOf → Held
next_line held core = record { core = core; line = held.line + 1; pending = [] }

-- ---- what comes is heard

-- the decoding stays as it is
items_wire : (bridge : Bridge) (items : List Input) → (after_items bridge items).decoding ≡ bridge.decoding
items_wire bridge [] = refl
items_wire bridge (item ∷ items) = items_wire (after_item bridge item) items

call_wire : (bridge : Bridge) (next : CallHistory) (why : Option Refusal)
    → (answer_call bridge next why).1.decoding ≡ bridge.decoding
call_wire bridge next None = refl
call_wire bridge next (Some why) = refl

begin_wire : (bridge : Bridge) (renews : Bool) → (answer_begin bridge renews).1.decoding ≡ bridge.decoding
begin_wire bridge true = refl
begin_wire bridge false = refl

same_wire : (bridge : Bridge) (request : Request) → (bridge_after bridge request).decoding ≡ bridge.decoding
same_wire bridge Nothing = refl
same_wire bridge (Begin who renews) = begin_wire (begun_bridge bridge.decoding who) renews
same_wire bridge Show = refl
same_wire bridge (Desk op call) = call_wire bridge (history_after bridge.calls call) (refusal_of bridge.calls call)
same_wire bridge (Item item) = refl
same_wire bridge (Report moment) = refl
same_wire bridge (Wait moment from ssrc) =
    let here = waited_at bridge moment (origin_at from ssrc) in
    items_wire (knowing here.1 bridge) here.0.items
same_wire bridge (Rx moment from octets) =
    items_wire (knowing (taken_at bridge moment from octets).1 bridge) (taken_at bridge moment from octets).0.items

-- the line that an LF ends, and those behind it
pub first_heard : (decoding : Decoding) (number : ℕ) (pending tail line : List ℕ) → NoLf pending
    → line ≡ strip_carriage_return pending → DecodesLines decoding (lines_by whole (parts_of (pending ++ 10 ∷ tail)))
    → DecodesRequest decoding (request_at number line)
first_heard decoding number pending tail line nolf is h =
    hears_at decoding number line (rw is (subst (DecodesLines decoding) (lines_lf whole pending tail nolf) h).0)

others_heard : (decoding : Decoding) (pending tail : List ℕ) → NoLf pending
    → DecodesLines decoding (lines_by whole (parts_of (pending ++ 10 ∷ tail)))
    → DecodesLines decoding (lines_by whole (parts_of tail))
others_heard decoding pending tail nolf h = (subst (DecodesLines decoding) (lines_lf whole pending tail nolf) h).1

-- the line that the end of the input ends
pub last_heard : (decoding : Decoding) (number : ℕ) (pending line : List ℕ) → NoLf pending → line ≡ pending
    → DecodesLines decoding (lines_by whole (parts_of (pending ++ [])))
    → DecodesRequest decoding (request_at number line)
last_heard decoding number pending line nolf is h =
    hears_at decoding number line (rw is (subst (DecodesLines decoding) (lines_none whole pending nolf) h).0)

-- with one more octet
pub kept_heard : (decoding : Decoding) (pending tail : List ℕ) (x : ℕ)
    → DecodesLines decoding (lines_by whole (parts_of (pending ++ x ∷ tail)))
    → DecodesLines decoding (lines_by whole (parts_of ((pending ++ x ∷ []) ++ tail)))
kept_heard decoding pending tail x h =
    subst (λ (t : List ℕ). DecodesLines decoding (lines_by whole (parts_of t)))
    (sym (append_assoc pending (x ∷ []) tail)) h

line_step : (held new : Held) (bridge : Bridge) (core : CoreOf) (tail sent : List ℕ) (r : Result (Unit {0}) RunFault)
    → NoLf held.pending → DecodesComing bridge.decoding held (10 ∷ tail)
    → LineEnds bridge held.line (strip_carriage_return held.pending) core sent r
    → MatchResult r (λ _. new ≡ next_line held core) (λ _. Unit {0})
    → StepEnds (place_of held bridge) (10 ∷ []) tail new sent r
line_step held new bridge core behind sent (Ok u) nolf heard h is =
    let others =
    subst (λ (decoding : Decoding). DecodesLines decoding (lines_by whole (parts_of behind)))
    (sym (same_wire bridge h.0)) (others_heard bridge.decoding held.pending behind nolf heard) in
    rw is (
      bridge_after bridge h.0,
      h.2,
      (λ last tail. lf_comes (place_of held bridge) last tail nolf ∙ (rw (h.1, h.3) refl)),
      others,
    )
line_step held new bridge core behind sent (Err (errors.Script n word fault)) nolf heard h is = λ tail.
    lf_comes (place_of held bridge) whole tail nolf ∙ rw (h.1, h.0, h.2) refl
line_step held new bridge core behind sent (Err errors.Write) nolf heard h is = λ tail.
    let others = outcome_of (bridge_after bridge h.0) (held.line + 1) (lines_by whole (parts_of tail)) in
    let answered : to_come whole (place_of held bridge) (10 ∷ tail) ≡ told (answer_text bridge h.0) others =
    lf_comes (place_of held bridge) whole tail nolf ∙ rw h.1 refl in (
      h.2.0,
      h.2.1 ++ others.text,
      ap (λ (o : RunOutput). o.text) answered
          ∙ (ap (λ (t : List ℕ). t ++ others.text) h.2.2 ∙ append_assoc sent (h.2.0 ∷ h.2.1) others.text),
    )
line_step held new bridge core behind sent (Err errors.Read) nolf heard h is = h
line_step held new bridge core behind sent (Err errors.OutOfMemory) nolf heard h is =
    ([], (10 ∷ [], refl), none_ended (place_of held bridge) nolf ∙ rw h refl)

pub line_answered : (held new : Held) (bridge : Bridge) (core : CoreOf) (line tail sent : List ℕ)
    (r : Result (Unit {0}) RunFault)
    → NoLf held.pending → DecodesComing bridge.decoding held (10 ∷ tail) → line ≡ strip_carriage_return held.pending
    → LineEnds bridge held.line line core sent r → MatchResult r (λ _. new ≡ next_line held core) (λ _. Unit {0})
    → StepEnds (place_of held bridge) (10 ∷ []) tail new sent r
line_answered held new bridge core line tail sent r nolf heard stripped h is =
    line_step held new bridge core tail sent r nolf heard
    (subst (λ (l : List ℕ). LineEnds bridge held.line l core sent r) stripped h) is

pub pushed : {T E : Type 0} (r : Result T E) (a b c : List ℕ) → false ≡ is_err r → a ≡ cond (is_ok r) b c → a ≡ b
pushed (Ok x) a b c e h = h
pushed (Err x) a b c e h = absurd cc

-- ---- the end of the input

last_comes : (place : Place) → NoLf place.pending
    → to_come whole place [] ≡ continues place.line place.bridge (request_at place.line place.pending) (λ d. nothing)
unfolding outcome_of
last_comes place nolf = rw (lines_none whole place.pending nolf) refl

finish_step : (place : Place) (core : CoreOf) (sent : List ℕ) (r : Result (Unit {0}) RunFault) → NoLf place.pending
    → LineEnds place.bridge place.line place.pending core sent r → FinishEnds place sent r
finish_step place core sent (Ok u) nolf h =
    last_comes place nolf
    ∙ (rw (h.1, h.3)
    (ap (λ (t : List ℕ). record { text = t; fault = None }) (append-nil (answer_text place.bridge h.0))))
finish_step place core sent (Err (errors.Script n word fault)) nolf h = last_comes place nolf ∙ rw (h.1, h.0, h.2) refl
finish_step place core sent (Err errors.Write) nolf h = (
  h.2.0,
  h.2.1,
  ap (λ (o : RunOutput). o.text) (last_comes place nolf) ∙ (rw h.1 (append-nil (answer_text place.bridge h.0) ∙ h.2.2)),
)
finish_step place core sent (Err errors.Read) nolf h = h
finish_step place core sent (Err errors.OutOfMemory) nolf h = none_ended place nolf ∙ rw h refl

pub finished : (held : Held) (bridge : Bridge) (core : CoreOf) (line sent : List ℕ) (r : Result (Unit {0}) RunFault)
    → NoLf held.pending → line ≡ held.pending → LineEnds bridge held.line line core sent r
    → FinishEnds (place_of held bridge) sent r
finished held bridge core line sent r nolf whole_line h =
    finish_step (place_of held bridge) core sent r nolf
    (subst (λ (l : List ℕ). LineEnds bridge held.line l core sent r) whole_line h)

-- ---- a line that is too long

-- the first five octets of a line stay as they are
front_kept : (xs ys : List ℕ) → 5 ≤ length xs → take 5 (xs ++ ys) ≡ take 5 xs
front_kept [] ys long = absurd (omega arith)
front_kept (a ∷ []) ys long = absurd (omega arith)
front_kept (a ∷ b ∷ []) ys long = absurd (omega arith)
front_kept (a ∷ b ∷ c ∷ []) ys long = absurd (omega arith)
front_kept (a ∷ b ∷ c ∷ d ∷ []) ys long = absurd (omega arith)
front_kept (a ∷ b ∷ c ∷ d ∷ e ∷ xs) ys long = refl

limit_kept : (xs ys : List ℕ) → 5 ≤ length xs → limit_of (xs ++ ys) ≡ limit_of xs
limit_kept xs ys long =
    ap (λ (t : List ℕ). if bytes_eq t (codes "item ") then 8388608 else 65536) (front_kept xs ys long)

-- it is so also where octets at the end are dropped
limit_cut : (n : ℕ) (line : List ℕ) → 5 ≤ length (take n line) → limit_of (take n line) ≡ limit_of line
limit_cut n line long =
    sym (limit_kept (take n line) (drop n line) long) ∙ ap limit_of (take-append-drop n line)

-- a line is too long, and so it is with octets behind it
abbrev IsLong : List ℕ → Type 0
IsLong line = limit_of line < length line

stripped_long : (line : List ℕ) → limit_of line + 1 < length line → IsLong (strip_carriage_return line)
stripped_long line long = short_by_one (eqb (get_or line (length line - 1) 0) 13) line long
  where
    short_by_one : (b : Bool) (line : List ℕ) → limit_of line + 1 < length line
        → IsLong (cond b (take (length line - 1) line) line)
    short_by_one true line long =
        let size = length-take (length line - 1) line in
        let least = limit_least line in
        rw (limit_cut (length line - 1) line (omega (arith, size, least, long))) (omega (arith, size, long))
    short_by_one false line long = omega (arith, long)

long_first : (text pending : List ℕ) → NoLf pending → limit_of pending + 1 < length pending
    → (line : List ℕ) × (lines : List (List ℕ)) × (lines_by whole (parts_of (pending ++ text)) ≡ line ∷ lines)
    × IsLong line
long_first [] pending nolf long = (pending, [], lines_none whole pending nolf, omega (arith, long))
long_first (x ∷ xs) pending nolf long =
    elim (cases_Bool (eqb x 10)) [
      | inl is ↦
          let e : x ≡ 10 = eqb-true x 10 is in (
            strip_carriage_return pending,
            lines_by whole (parts_of xs),
            rw e (lines_lf whole pending xs nolf),
            stripped_long pending long,
          )
      | inr isnt ↦
          let least = limit_least pending in
          let more : limit_of (pending ++ x ∷ []) + 1 < length (pending ++ x ∷ []) =
          rw (limit_kept pending (x ∷ []) (omega (arith, least, long)))
          (omega (arith, long, length-append pending (x ∷ []))) in
          let h =
          long_first xs (pending ++ x ∷ []) (All-push (λ b. eqb b 10 ≡ false) pending x nolf isnt) more in (
            h.0,
            h.1,
            ap (λ (t : List ℕ). lines_by whole (parts_of t)) (sym (append_assoc pending (x ∷ []) xs)) ∙ h.2,
            h.3,
          )
    ]

long_request : (number : ℕ) (line : List ℕ) → IsLong line → request_at number line ≡ Err (0, LineTooLong)
unfolding line_request
long_request number line long = rw (lt-ltb (limit_of line) (length line) long) refl

pub too_long : (place : Place) (text : List ℕ) → NoLf place.pending
    → nat_lt (limit_of place.pending + 1) (length place.pending) ≡ true
    → to_come whole place text ≡ stopped place.line 0 LineTooLong
unfolding outcome_of
too_long place text nolf long =
    let h = long_first text place.pending nolf (ltb-true (limit_of place.pending + 1) (length place.pending) long) in
    rw (h.2, long_request place.line h.0 h.3) refl

-- ---- one stretch of octets, and then another

pub goes_then : (a b c : Place) (xs ys s t : List ℕ) → Goes a xs b s → Goes b ys c t → Goes a (xs ++ ys) c (s ++ t)
goes_then a b c xs ys s t h k = λ last tail.
    ap (to_come last a) (append_assoc xs ys tail)
    ∙ (h last (ys ++ tail) ∙ (ap (told s) (k last tail) ∙ told_told s t (to_come last c tail)))

pub fails_then : (a b : Place) (xs ys s t : List ℕ) (e : RunFault) → Goes a xs b s → StepFails b ys t e
    → StepFails a (xs ++ ys) (s ++ t) e
fails_then a b xs ys s t (errors.Script n word fault) h k = λ tail.
    ap (to_come whole a) (append_assoc xs ys tail)
    ∙ (h whole (ys ++ tail) ∙ (ap (told s) (k tail) ∙ told_told s t (stopped n word fault)))
fails_then a b xs ys s t errors.Write h k = λ tail. (
  (k tail).0,
  (k tail).1,
  ap (λ (o : RunOutput). o.text) (ap (to_come whole a) (append_assoc xs ys tail) ∙ h whole (ys ++ tail))
      ∙ (ap (λ (u : List ℕ). s ++ u) (k tail).2 ∙ sym (append_assoc s t ((k tail).0 ∷ (k tail).1))),
)
fails_then a b xs ys s t errors.Read h k = k
fails_then a b xs ys s t errors.OutOfMemory h k = (
  xs ++ k.0,
  (k.1.0, ap (λ (u : List ℕ). xs ++ u) k.1.1 ∙ sym (append_assoc xs k.0 k.1.0)),
  h ended k.0 ∙ ap (told s) k.2,
)

-- what stands behind octets that ended a run
pub step_more : (a : Place) (xs ys s : List ℕ) (e : RunFault) → StepFails a xs s e → StepFails a (xs ++ ys) s e
step_more a xs ys s (errors.Script n word fault) h = λ tail.
    ap (to_come whole a) (append_assoc xs ys tail) ∙ h (ys ++ tail)
step_more a xs ys s errors.Write h = λ tail. (
  (h (ys ++ tail)).0,
  (h (ys ++ tail)).1,
  ap (λ (o : RunOutput). o.text) (ap (to_come whole a) (append_assoc xs ys tail)) ∙ (h (ys ++ tail)).2,
)
step_more a xs ys s errors.Read h = h
step_more a xs ys s errors.OutOfMemory h =
    (h.0, (h.1.0 ++ ys, ap (λ (u : List ℕ). u ++ ys) h.1.1 ∙ append_assoc h.0 h.1.0 ys), h.2)

-- ---- a loop over octets

-- one more octet
pub goes_more : (a b c : Place) (octets s t : List ℕ) (i x : ℕ) → x ≡ get_or octets i 0 → i < length octets
    → Goes a (take i octets) b s → Goes b (x ∷ []) c t → Goes a (take (i + 1) octets) c (s ++ t)
goes_more a b c octets s t i x is lt h k =
    let one : take i octets ++ x ∷ [] ≡ take (i + 1) octets = rw is (sym (take_more octets i 0 lt)) in
    subst (λ (xs : List ℕ). Goes a xs c (s ++ t)) one (goes_then a b c (take i octets) (x ∷ []) s t h k)

-- an octet at which the run failed
pub fails_at : (a b : Place) (octets s t : List ℕ) (i x : ℕ) (e : RunFault) → x ≡ get_or octets i 0 → i < length octets
    → Goes a (take i octets) b s → StepFails b (x ∷ []) t e → StepFails a octets (s ++ t) e
fails_at a b octets s t i x e is lt h k =
    let one : take i octets ++ x ∷ [] ≡ take (i + 1) octets = rw is (sym (take_more octets i 0 lt)) in
    let so_far : StepFails a (take (i + 1) octets) (s ++ t) e =
    subst (λ (xs : List ℕ). StepFails a xs (s ++ t) e) one (fails_then a b (take i octets) (x ∷ []) s t e h k) in
    subst (λ (xs : List ℕ). StepFails a xs (s ++ t) e) (take-append-drop (i + 1) octets)
    (step_more a (take (i + 1) octets) (drop (i + 1) octets) (s ++ t) e so_far)

pub goes_none : (a : Place) → Goes a [] a []
goes_none a last tail = refl
