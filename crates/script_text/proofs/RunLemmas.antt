-- A run, read by read.
use Rattle.std.proofs.Common.{◌≡◌, ℕ, List, [], ◌∷◌, ◌++◌, Option, Some, None, Result, Ok, Err, refl, sym, ap, ◌∙◌}
use Rattle.std.proofs.Common.{subst, append_assoc}
use Rattle.std.specs.Prelude.{IfSome}
use Rattle.std.specs.Io.KnownBytes.{Appends, Consumes, IsAtEnd}
use Rattle.std.proofs.lemmas.List.{append-nil}
use Rattle.desk_text.specs.Lines.{lines_of, whole, ended}
use Rattle.script_text.specs.declared.fault.RunFault.{RunFault}
use Rattle.script_text.specs.declared.fault.RunFault.TheVariants as errors
use Rattle.script_text.specs.Decodings.{Decoding, DecodesLines}
use Rattle.script_text.specs.Output.{RunOutput, nothing, told, stopped, outcome_of, output_of, ended_output_of, RunEnds}
use Rattle.script_text.specs.Bridge.{Bridge, opening_bridge}
use Rattle.script_text.specs.inner.Steps.{Stands}
use Rattle.script_text.specs.inner.Steps.{Held, Place, place_of, opening, IsOpening, IsMidLine, DecodesComing, to_come}
use Rattle.script_text.specs.inner.Steps.{Goes, StepFails, Steps, FinishEnds, Finishes}
use Rattle.script_text.proofs.Known.{Appends-then, Appends-same, Appends-none}
use Rattle.script_text.proofs.StepLemmas.{goes_then, fails_then, goes_none, none_ended}

pub if_some : {A : Type 0} (o : Option A) (P : A → Type 0) → ((x : A) → o ≡ Some x → P x) → IfSome o P
if_some None P h = tt
if_some (Some x) P h = h x refl

pub Consumes-then : (a b c : Option (List ℕ)) (x y : List ℕ) → Consumes a b x → Consumes b c y → Consumes a c (x ++ y)
Consumes-then None b c x y h k = tt
Consumes-then (Some xs) None c x y h k = absurd h
Consumes-then (Some xs) (Some ys) None x y h k = k
Consumes-then (Some xs) (Some ys) (Some zs) x y h k = h ∙ (ap (λ (t : List ℕ). x ++ t) k ∙ sym (append_assoc x y zs))

some_same : (x y : List ℕ) (o : Option (List ℕ)) → o ≡ Some x → o ≡ Some y → x ≡ y
some_same x y o e f = let both : Some x ≡ Some y = sym e ∙ f in cc

none_left_at : (rest : List ℕ) (left : Option (List ℕ)) → left ≡ Some rest → IsAtEnd left → rest ≡ []
none_left_at rest None e h = absurd cc
none_left_at rest (Some xs) e h = let same : xs ≡ rest = cc in sym same ∙ h

-- what was read led here, and what it gave is out; what is left is heard
abbrev pub SoFar : Decoding → List ℕ → Option (List ℕ) → Option (List ℕ) → Option (List ℕ) → Held → Type 0
SoFar decoding input left before now held =
    (seen : List ℕ) × (sent : List ℕ) × (bridge : Bridge) × Stands held.core bridge × Consumes (Some input) left seen
    × Appends before now sent × Goes (opening decoding) seen (place_of held bridge) sent
    × ((rest : List ℕ) → left ≡ Some rest → DecodesComing bridge.decoding held rest)

pub at_first : (decoding : Decoding) (input : List ℕ) → DecodesLines decoding (lines_of input)
    → (left before : Option (List ℕ)) (held : Held) → IsOpening held → left ≡ Some input
    → SoFar decoding input left before before held
at_first decoding input heard left before held h e = (
  [],
  [],
  opening_bridge decoding,
  h.0 decoding,
  rw e refl,
  Appends-none before,
  rw (h.1, h.2) (goes_none (opening decoding)),
  λ rest is.
      (let same : input ≡ rest = some_same input rest left e is in
      rw h.2 (subst (λ (t : List ℕ). DecodesLines decoding (lines_of t)) same heard)),
)

-- the whole of the input, where what is left is known
all_of : (input seen : List ℕ) (left : Option (List ℕ)) → Consumes (Some input) left seen
    → (rest : List ℕ) × (left ≡ Some rest) × (input ≡ seen ++ rest)
all_of input seen None h = absurd h
all_of input seen (Some rest) h = (rest, refl, h)

-- what comes with the next octets, and behind them
coming : (decoding : Decoding) (input : List ℕ) (left left2 before now : Option (List ℕ)) (held : Held)
    (octets : List ℕ) (h : SoFar decoding input left before now held)
    → Consumes left left2 octets
    → (rest : List ℕ) × (left2 ≡ Some rest) × DecodesComing h.2.decoding held (octets ++ rest)
coming decoding input left left2 before now held octets h c =
    let a = all_of input h.0 left h.4 in
    let d : Consumes (Some a.0) left2 octets = subst (λ (l : Option (List ℕ)). Consumes l left2 octets) a.1 c in
    let b = all_of a.0 octets left2 d in
    (b.0, b.1, subst (DecodesComing h.2.decoding held) b.2 (h.7 a.0 a.1))

pub goes_on : (decoding : Decoding) (input : List ℕ) (left left2 before mid now : Option (List ℕ)) (held new : Held)
    (octets : List ℕ)
    → SoFar decoding input left before mid held → Consumes left left2 octets → Steps held octets new mid now (Ok tt)
    → SoFar decoding input left2 before now new
goes_on decoding input left left2 before mid now held new octets h c k =
    let more = coming decoding input left left2 before mid held octets h c in
    let s = k h.2 more.0 more.2 h.3 in (
      h.0 ++ octets,
      h.1 ++ s.0,
      s.2.0,
      s.2.1,
      Consumes-then (Some input) left left2 h.0 octets h.4 c,
      Appends-then before mid now h.1 s.0 h.5 s.1,
      goes_then (opening decoding) (place_of held h.2) (place_of new s.2.0) h.0 octets h.1 s.0 h.6 s.2.2,
      λ rest is. subst (DecodesComing s.2.0.decoding new) (some_same more.0 rest left2 more.1 is) s.2.3,
    )

-- nothing came
pub waits : (decoding : Decoding) (input : List ℕ) (left left2 before now : Option (List ℕ)) (held : Held)
    → SoFar decoding input left before now held → Consumes left left2 [] → SoFar decoding input left2 before now held
waits decoding input left left2 before now held h c = (
  h.0,
  h.1,
  h.2,
  h.3,
  subst (λ (xs : List ℕ). Consumes (Some input) left2 xs) (append-nil h.0)
      (Consumes-then (Some input) left left2 h.0 [] h.4 c),
  h.5,
  h.6,
  λ rest is.
      (let more = coming decoding input left left2 before now held [] h c in
      subst (DecodesComing h.2.decoding held) (some_same more.0 rest left2 more.1 is) more.2),
)

fails_with : (decoding : Decoding) (input octets rest sent : List ℕ) (left before now : Option (List ℕ)) (e : RunFault)
    → Consumes (Some input) left octets → input ≡ octets ++ rest → Appends before now sent
    → StepFails (opening decoding) octets sent e → RunEnds decoding input left before now (Err e)
fails_with decoding input octets rest sent left before now (errors.Script n word fault) seen is a h =
    let out : output_of decoding input ≡ told sent (stopped n word fault) = ap (output_of decoding) is ∙ h rest in (
      ap (λ (o : RunOutput). o.fault) out,
      Appends-same before now sent (output_of decoding input).text
          (sym (ap (λ (o : RunOutput). o.text) out ∙ append-nil sent)) a,
    )
fails_with decoding input octets rest sent left before now errors.Write seen is a h =
    (sent, ((h rest).0, (h rest).1, ap (λ (o : RunOutput). o.text) (ap (output_of decoding) is) ∙ (h rest).2), a)
fails_with decoding input octets rest sent left before now errors.Read seen is a h = absurd h
fails_with decoding input octets rest sent left before now errors.OutOfMemory seen is a h = (
  octets,
  seen,
  h.0,
  h.1,
  ap (λ (o : RunOutput). o.fault) h.2,
  Appends-same before now sent (ended_output_of decoding h.0).text (sym (ap (λ (o : RunOutput). o.text) h.2)) a,
)

pub run_fails : (decoding : Decoding) (input : List ℕ) (left left2 before mid now : Option (List ℕ)) (held new : Held)
    (octets : List ℕ) (e : RunFault)
    → SoFar decoding input left before mid held → Consumes left left2 octets → Steps held octets new mid now (Err e)
    → RunEnds decoding input left2 before now (Err e)
run_fails decoding input left left2 before mid now held new octets e h c k =
    let more = coming decoding input left left2 before mid held octets h c in
    let s = k h.2 more.0 more.2 h.3 in
    let seen = Consumes-then (Some input) left left2 h.0 octets h.4 c in
    let all = all_of input (h.0 ++ octets) left2 seen in
    fails_with decoding input (h.0 ++ octets) all.0 (h.1 ++ s.0) left2 before now e seen all.2
    (Appends-then before mid now h.1 s.0 h.5 s.1)
    (fails_then (opening decoding) (place_of held h.2) h.0 octets h.1 s.0 e h.6 s.2)

nothing_more : (decoding : Decoding) (input : List ℕ) (left before now : Option (List ℕ)) (held : Held)
    (h : SoFar decoding input left before now held)
    → IsMidLine held → ended_output_of decoding h.0 ≡ told h.1 nothing
nothing_more decoding input left before now held h none =
    ap (to_come ended (opening decoding)) (sym (append-nil h.0))
    ∙ (h.6 ended [] ∙ ap (told h.1) (none_ended (place_of held h.2) none))

-- the reader failed
pub run_read : (decoding : Decoding) (input : List ℕ) (left before now : Option (List ℕ)) (held : Held)
    → SoFar decoding input left before now held → IsMidLine held
    → RunEnds decoding input left before now (Err errors.Read)
run_read decoding input left before now held h none =
    let out = nothing_more decoding input left before now held h none in (
      h.0,
      h.4,
      ap (λ (o : RunOutput). o.fault) out,
      Appends-same before now h.1 (ended_output_of decoding h.0).text
          (sym (ap (λ (o : RunOutput). o.text) out ∙ append-nil h.1)) h.5,
    )

-- memory ran out before the next octets came
pub run_starved : (decoding : Decoding) (input : List ℕ) (left before now : Option (List ℕ)) (held : Held)
    → SoFar decoding input left before now held → IsMidLine held
    → RunEnds decoding input left before now (Err errors.OutOfMemory)
run_starved decoding input left before now held h none =
    let out = nothing_more decoding input left before now held h none in (
      h.0,
      h.4,
      h.0,
      ([], sym (append-nil h.0)),
      ap (λ (o : RunOutput). o.fault) out,
      Appends-same before now h.1 (ended_output_of decoding h.0).text
          (sym (ap (λ (o : RunOutput). o.text) out ∙ append-nil h.1)) h.5,
    )

-- the reader is at its end
ends_with : (decoding : Decoding) (input sent : List ℕ) (left before now : Option (List ℕ)) (place : Place) (t : List ℕ)
    (r : Result (Unit {0}) RunFault)
    → Consumes (Some input) left input → IsAtEnd left → Goes (opening decoding) input place sent
    → Appends before now (sent ++ t) → FinishEnds place t r → RunEnds decoding input left before now r
ends_with decoding input sent left before now place t (Ok u) seen at_end h a k =
    let out : output_of decoding input ≡ told sent (record { text = t; fault = None }) =
    ap (output_of decoding) (sym (append-nil input)) ∙ (h whole [] ∙ ap (told sent) k) in (
      at_end,
      ap (λ (o : RunOutput). o.fault) out,
      Appends-same before now (sent ++ t) (output_of decoding input).text (sym (ap (λ (o : RunOutput). o.text) out)) a,
    )
ends_with decoding input sent left before now place t (Err (errors.Script n word fault)) seen at_end h a k =
    let out : output_of decoding input ≡ told sent (told t (stopped n word fault)) =
    ap (output_of decoding) (sym (append-nil input)) ∙ (h whole [] ∙ ap (told sent) k) in (
      ap (λ (o : RunOutput). o.fault) out,
      Appends-same before now (sent ++ t) (output_of decoding input).text
          (sym (ap (λ (o : RunOutput). o.text) out ∙ ap (λ (x : List ℕ). sent ++ x) (append-nil t))) a,
    )
ends_with decoding input sent left before now place t (Err errors.Write) seen at_end h a k =
    let out : output_of decoding input ≡ told sent (to_come whole place []) =
    ap (output_of decoding) (sym (append-nil input)) ∙ h whole [] in (
      sent ++ t,
      (
        k.0,
        k.1,
        ap (λ (o : RunOutput). o.text) out
            ∙ (ap (λ (x : List ℕ). sent ++ x) k.2 ∙ sym (append_assoc sent t (k.0 ∷ k.1))),
      ),
      a,
    )
ends_with decoding input sent left before now place t (Err errors.Read) seen at_end h a k = absurd k
ends_with decoding input sent left before now place t (Err errors.OutOfMemory) seen at_end h a k =
    let out : ended_output_of decoding input ≡ told sent (record { text = t; fault = None }) =
    ap (ended_output_of decoding) (sym (append-nil input)) ∙ (h ended [] ∙ ap (told sent) k) in (
      input,
      seen,
      input,
      ([], sym (append-nil input)),
      ap (λ (o : RunOutput). o.fault) out,
      Appends-same before now (sent ++ t) (ended_output_of decoding input).text
          (sym (ap (λ (o : RunOutput). o.text) out))
          a,
    )

seen_all : (input seen : List ℕ) (left : Option (List ℕ)) → Consumes (Some input) left seen → IsAtEnd left
    → seen ≡ input
seen_all input seen None h k = absurd h
seen_all input seen (Some rest) h k = sym (h ∙ (ap (λ (t : List ℕ). seen ++ t) k ∙ append-nil seen))

pub run_ends : (decoding : Decoding) (input : List ℕ) (left left2 before mid now : Option (List ℕ)) (held : Held)
    (r : Result (Unit {0}) RunFault)
    → SoFar decoding input left before mid held → Consumes left left2 [] → IsAtEnd left2 → Finishes held mid now r
    → RunEnds decoding input left2 before now r
run_ends decoding input left left2 before mid now held r h c at_end k =
    let more = coming decoding input left left2 before mid held [] h c in
    let s = k h.2 (subst (DecodesComing h.2.decoding held) (none_left_at more.0 left2 more.1 at_end) more.2) h.3 in
    let read = Consumes-then (Some input) left left2 h.0 [] h.4 c in
    let same = seen_all input (h.0 ++ []) left2 read at_end in
    ends_with decoding input h.1 left2 before now (place_of held h.2) s.0 r
    (subst (λ (xs : List ℕ). Consumes (Some input) left2 xs) same read) at_end
    (subst (λ (xs : List ℕ). Goes (opening decoding) xs (place_of held h.2) h.1) (sym (append-nil h.0) ∙ same) h.6)
    (Appends-then before mid now h.1 s.0 h.5 s.1) s.2

pub no_memory : (decoding : Decoding) (input : List ℕ) (before : Option (List ℕ))
    → RunEnds decoding input (Some input) before before (Err errors.OutOfMemory)
unfolding outcome_of
no_memory decoding input before = ([], refl, [], ([], refl), refl, Appends-none before)

-- ---- the same, as a run says it

pub no_memory_exit : (left before : Option (List ℕ))
    → IfSome left (λ input.
    (decoding : Decoding) → DecodesLines decoding (lines_of input)
    → RunEnds decoding input left before before (Err errors.OutOfMemory))
no_memory_exit left before =
    if_some left
    (λ input.
    (decoding : Decoding) → DecodesLines decoding (lines_of input)
    → RunEnds decoding input left before before (Err errors.OutOfMemory)) (λ input e decoding heard.
    subst (λ (l : Option (List ℕ)). RunEnds decoding input l before before (Err errors.OutOfMemory)) (sym e)
    (no_memory decoding input before))

pub fails_exit : (first left left2 before mid now : Option (List ℕ)) (held new : Held) (octets : List ℕ) (e : RunFault)
    → ((decoding : Decoding) (input : List ℕ) → DecodesLines decoding (lines_of input) → first ≡ Some input
    → SoFar decoding input left before mid held)
    → Consumes left left2 octets → Steps held octets new mid now (Err e)
    → IfSome first (λ input.
    (decoding : Decoding) → DecodesLines decoding (lines_of input) → RunEnds decoding input left2 before now (Err e))
fails_exit first left left2 before mid now held new octets e h c k =
    if_some first
    (λ input.
    (decoding : Decoding) → DecodesLines decoding (lines_of input) → RunEnds decoding input left2 before now (Err e))
    (λ input is decoding heard.
    run_fails decoding input left left2 before mid now held new octets e (h decoding input heard is) c k)

pub ends_exit : (first left left2 before mid now : Option (List ℕ)) (held : Held) (r : Result (Unit {0}) RunFault)
    → ((decoding : Decoding) (input : List ℕ) → DecodesLines decoding (lines_of input) → first ≡ Some input
    → SoFar decoding input left before mid held)
    → Consumes left left2 [] → IsAtEnd left2 → Finishes held mid now r
    → IfSome first (λ input.
    (decoding : Decoding) → DecodesLines decoding (lines_of input) → RunEnds decoding input left2 before now r)
ends_exit first left left2 before mid now held r h c at_end k =
    if_some first
    (λ input.
    (decoding : Decoding) → DecodesLines decoding (lines_of input) → RunEnds decoding input left2 before now r)
    (λ input is decoding heard.
    run_ends decoding input left left2 before mid now held r (h decoding input heard is) c at_end k)

pub read_exit : (first left left2 before now : Option (List ℕ)) (held : Held)
    → ((decoding : Decoding) (input : List ℕ) → DecodesLines decoding (lines_of input) → first ≡ Some input
    → SoFar decoding input left before now held)
    → Consumes left left2 [] → IsMidLine held
    → IfSome first (λ input.
    (decoding : Decoding) → DecodesLines decoding (lines_of input)
    → RunEnds decoding input left2 before now (Err errors.Read))
read_exit first left left2 before now held h c none =
    if_some first
    (λ input.
    (decoding : Decoding) → DecodesLines decoding (lines_of input)
    → RunEnds decoding input left2 before now (Err errors.Read)) (λ input is decoding heard.
    run_read decoding input left2 before now held
    (waits decoding input left left2 before now held (h decoding input heard is) c) none)

pub starved_exit : (first left left2 before now : Option (List ℕ)) (held : Held)
    → ((decoding : Decoding) (input : List ℕ) → DecodesLines decoding (lines_of input) → first ≡ Some input
    → SoFar decoding input left before now held)
    → Consumes left left2 [] → IsMidLine held
    → IfSome first (λ input.
    (decoding : Decoding) → DecodesLines decoding (lines_of input)
    → RunEnds decoding input left2 before now (Err errors.OutOfMemory))
starved_exit first left left2 before now held h c none =
    if_some first
    (λ input.
    (decoding : Decoding) → DecodesLines decoding (lines_of input)
    → RunEnds decoding input left2 before now (Err errors.OutOfMemory)) (λ input is decoding heard.
    run_starved decoding input left2 before now held
    (waits decoding input left left2 before now held (h decoding input heard is) c) none)

pub stays_exit : (first left before now : Option (List ℕ)) (held : Held)
    → ((decoding : Decoding) (input : List ℕ) → DecodesLines decoding (lines_of input) → first ≡ Some input
    → SoFar decoding input left before now held)
    → IsMidLine held
    → IfSome first (λ input.
    (decoding : Decoding) → DecodesLines decoding (lines_of input)
    → RunEnds decoding input left before now (Err errors.Read))
stays_exit first left before now held h none =
    if_some first
    (λ input.
    (decoding : Decoding) → DecodesLines decoding (lines_of input)
    → RunEnds decoding input left before now (Err errors.Read))
    (λ input is decoding heard. run_read decoding input left before now held (h decoding input heard is) none)

-- ---- a script in memory

pub same_fault : {T : Type 0} (x y : RunFault) (r : Result T RunFault) → r ≡ Err x → r ≡ Err y → x ≡ y
same_fault x y r e f = cc

all_taken : (input : List ℕ) → Consumes (Some input) (Some []) input
all_taken input = sym (append-nil input)

started : (decoding : Decoding) (input : List ℕ) → DecodesLines decoding (lines_of input)
    → (before : Option (List ℕ)) (held : Held) → IsOpening held → SoFar decoding input (Some input) before before held
started decoding input heard before held h = at_first decoding input heard (Some input) before held h refl

-- its octets ended the run
pub fed_fails : (decoding : Decoding) (input : List ℕ) → DecodesLines decoding (lines_of input)
    → (held new : Held) (before now : Option (List ℕ)) (e : RunFault) → IsOpening held
    → Steps held input new before now (Err e) → RunEnds decoding input (Some []) before now (Err e)
fed_fails decoding input heard held new before now e h k =
    run_fails decoding input (Some input) (Some []) before before now held new input e
    (started decoding input heard before held h) (all_taken input) k

-- its end did
pub fed_ends : (decoding : Decoding) (input : List ℕ) → DecodesLines decoding (lines_of input)
    → (held new : Held) (before mid now : Option (List ℕ)) (r : Result (Unit {0}) RunFault) → IsOpening held
    → Steps held input new before mid (Ok tt) → Finishes new mid now r → RunEnds decoding input (Some []) before now r
fed_ends decoding input heard held new before mid now r h k f =
    run_ends decoding input (Some []) (Some []) before mid now new r
    (goes_on decoding input (Some input) (Some []) before before mid held new input
    (started decoding input heard before held h) (all_taken input) k)
    refl refl f
