-- Deeds that are told one after another.
use Rattle.std.proofs.Common.{◌≡◌, ◌≤◌, ℕ, ◌+◌, ◌-◌, List, [], ◌∷◌, ◌++◌, length, take, drop, refl, sym}
use Rattle.std.proofs.Common.{ap, ◌∙◌, append_assoc, arith}
use Rattle.std.proofs.lemmas.List.{append-nil, drop-append-le, take-append-le, length-drop}
use Rattle.std.specs.Prelude.{max, Result, Ok, Err, OnOk}
use mathlib.Core.List.{IsPrefix}
use Rattle.call_history.specs.AcceptedCall.{AcceptedOf}
use Rattle.operator_desk.specs.Entry.{EntryOf}
use Rattle.operator_desk.specs.PastCalls.{made_from, made_of}
use Rattle.operator_desk.proofs.PastLemmas.{made-append, length-made}
use Rattle.trace_text.specs.declared.speaker.Speaker.{Speaker}
use Rattle.trace_text.specs.declared.told.Told.{Told}
use Rattle.trace_scripts.specs.Scripts.{DoneAt, between, deed_text, script_lines, told_after, ScriptNow}
use Rattle.trace_scripts.specs.Scripts.{ScriptGoesOn}

-- the lines of deeds, and of those behind them
pub lines-append : (s : Speaker) (told : ℕ) (xs ys : List DoneAt) (calls : List AcceptedOf)
    → script_lines s told (xs ++ ys) calls
    ≡ script_lines s told xs calls ++ script_lines s (told_after told xs) ys calls
lines-append s told [] ys calls = refl
lines-append s told (x ∷ xs) ys calls =
    ap (λ (t : List ℕ). deed_text s told x calls ++ t) (lines-append s (max told x.version) xs ys calls)
    ∙ sym (append_assoc (deed_text s told x calls) (script_lines s (max told x.version) xs calls)
    (script_lines s (told_after told (x ∷ xs)) ys calls))

pub told-append : (told : ℕ) (xs ys : List DoneAt) → told_after told (xs ++ ys) ≡ told_after (told_after told xs) ys
told-append told [] ys = refl
told-append told (x ∷ xs) ys = told-append (max told x.version) xs ys

pub prefix_same : (xs : List EntryOf) → IsPrefix xs xs
prefix_same xs = ([], append-nil xs)

pub prefix_both : (xs ys zs : List EntryOf) → IsPrefix xs ys → IsPrefix ys zs → IsPrefix xs zs
prefix_both xs ys zs g h =
    (g.0 ++ h.0, sym (append_assoc xs g.0 h.0) ∙ (ap (λ (l : List EntryOf). l ++ h.0) g.1 ∙ h.1))

-- the calls that lead to a version are those of any log that goes on
pub between_same : (seen log : List EntryOf) (told version : ℕ) → IsPrefix seen log → told ≤ length seen
    → version ≤ length seen → between told version (made_of log) ≡ between told version (made_of seen)
between_same seen log told version g less few =
    let rest = made_from (1 + length seen) g.0 in
    let many : length (made_of seen) ≡ length seen = length-made 1 seen in
    ap (λ (l : List EntryOf). between told version (made_of l)) (sym g.1)
    ∙ (ap (between told version) (made-append 1 seen g.0)
    ∙ (ap (take (version - told)) (drop-append-le told (made_of seen) rest (omega (arith, many, less)))
    ∙ take-append-le (version - told) (drop told (made_of seen)) rest
    (let left = length-drop told (made_of seen) in omega (arith, many, left, few))))

-- nothing more was told
pub nothing_told : (old : ScriptNow) → ScriptGoesOn old old
nothing_told old = record {
  more = [];
  came = sym (append-nil old.came);
  seen = prefix_same old.seen;
  told = refl;
  text = λ log g. sym (append-nil old.text);
}

-- what is told after one another
pub both_told : (a b c : ScriptNow) → ScriptGoesOn a b → ScriptGoesOn b c → ScriptGoesOn a c
both_told a b c g h =
    let speaker : b.told.speaker ≡ a.told.speaker = ap (λ (t : Told). t.speaker) g.told in
    let calls : b.told.calls ≡ told_after a.told.calls g.more = ap (λ (t : Told). t.calls) g.told in
    record {
      more = g.more ++ h.more;
      came = h.came ∙ (ap (λ (l : List DoneAt). l ++ h.more) g.came ∙ append_assoc a.came g.more h.more);
      seen = prefix_both a.seen b.seen c.seen g.seen h.seen;
      told =
          h.told
          ∙ (ap (λ (t : Told). record t { calls = told_after t.calls h.more }) g.told
          ∙ ap (λ (n : ℕ). record a.told { calls = n }) (sym (told-append a.told.calls g.more h.more)));
      text = λ log p.
          h.text log p
          ∙ (ap (λ (t : List ℕ). t ++ script_lines b.told.speaker b.told.calls h.more (made_of log))
          (g.text log (prefix_both b.seen c.seen log h.seen p))
          ∙ (append_assoc a.text (script_lines a.told.speaker a.told.calls g.more (made_of log))
          (script_lines b.told.speaker b.told.calls h.more (made_of log))
          ∙ ap (λ (t : List ℕ). a.text ++ t)
          (ap (λ (s : Speaker). script_lines a.told.speaker a.told.calls g.more (made_of log)
          ++ script_lines s b.told.calls h.more (made_of log)) speaker
          ∙ (ap (λ (n : ℕ). script_lines a.told.speaker a.told.calls g.more (made_of log)
          ++ script_lines a.told.speaker n h.more (made_of log)) calls
          ∙ sym (lines-append a.told.speaker a.told.calls g.more h.more (made_of log))))));
    }

-- what follows from what holds where it succeeds
pub where_ok : {T E : Type 0} {A B : Type 0} (r : Result T E) → (A → B) → OnOk r A → OnOk r B
where_ok (Ok x) f h = f h
where_ok (Err e) f h = tt
