use Rattle.std.proofs.Common.{◌≡◌, ℕ, ◌+◌, ◌<◌, List, ◌++◌, [], ◌∷◌, length, take, drop, arith, get_or, refl, sym, ap}
use Rattle.std.proofs.Common.{◌∙◌, subst, append_assoc}
use Rattle.std.proofs.lemmas.List.{take_more, take_all, take-append-drop}
use Rattle.script_text.specs.inner.Steps.{Goes, DecodesComing, place_of}
use Rattle.script_text.proofs.Known.{Appends-then, Appends-none}
use Rattle.script_text.proofs.StepLemmas.{goes_more, fails_at, goes_none}
use Rattle.script_text.proofs.script.Script.feed.Goals as goal

-- one octet, and what comes behind it
one_more : (octets : List ℕ) (i : ℕ) (tail : List ℕ) → i < length octets
    → take (i + 1) octets ++ tail ≡ take i octets ++ get_or octets i 0 ∷ tail
one_more octets i tail lt =
    ap (λ (t : List ℕ). t ++ tail) (take_more octets i 0 lt)
    ∙ append_assoc (take i octets) (get_or octets i 0 ∷ []) tail

one_of : (octets : List ℕ) (i : ℕ) (tail : List ℕ) → i < length octets
    → octets ++ tail ≡ take i octets ++ get_or octets i 0 ∷ (drop (i + 1) octets ++ tail)
one_of octets i tail lt =
    ap (λ (t : List ℕ). t ++ tail) (sym (take-append-drop (i + 1) octets))
    ∙ (append_assoc (take (i + 1) octets) (drop (i + 1) octets) tail
    ∙ one_more octets i (drop (i + 1) octets ++ tail) lt)

pub loop-octet-init : goal.loop-octet-init
loop-octet-init g c = record {
  midline = c.requires.midline;
  line = omega arith;
  step = λ first tail heard stands.
      ([], first, stands, Appends-none _, goes_none (place_of c.args.self.now first), heard);
}

pub returns-in-Err-clause-step : goal.returns-in-Err-clause-step
returns-in-Err-clause-step g c = λ first tail heard stands.
    let octets = c.args.octets.now in
    let i = c.loop-octet.octet-index in
    let rest = drop (i + 1) octets ++ tail in
    let before =
    c.loop-octet.invariant.step first (get_or octets i 0 ∷ rest)
    (subst (DecodesComing first.decoding c.args.self.now) (one_of octets i tail c.loop-octet-test.true) heard) stands in
    let h = c.in-Err.ensures.step before.1 rest before.5 before.2 in (
      before.0 ++ h.0,
      Appends-then _ _ _ _ _ before.3 h.1,
      fails_at (place_of c.args.self.now first) (place_of c.loop-octet.self before.1) c.args.octets.now before.0 h.0
          c.loop-octet.octet-index (get_or c.args.octets.now c.loop-octet.octet-index 0) c.in-Err.fault refl
          c.loop-octet-test.true before.4 h.2,
    )

pub loop-octet-preserved : goal.loop-octet-preserved
loop-octet-preserved g c = record {
  midline = c.octet.ensures.midline;
  line = omega (arith, c.octet.ensures.line, c.loop-octet.invariant.line);
  step = λ first tail heard stands.
      let octets = c.args.octets.now in
      let i = c.loop-octet.octet-index in
      let before =
      c.loop-octet.invariant.step first (get_or octets i 0 ∷ tail)
      (subst (DecodesComing first.decoding c.args.self.now) (one_more octets i tail c.loop-octet-test.true) heard)
      stands in
      let h = c.in_default.ensures.step before.1 tail before.5 before.2 in (
        before.0 ++ h.0,
        h.2.0,
        h.2.1,
        Appends-then _ _ _ _ _ before.3 h.1,
        goes_more (place_of c.args.self.now first) (place_of c.loop-octet.self before.1)
            (place_of c.octet.new.self h.2.0) c.args.octets.now before.0 h.0 c.loop-octet.octet-index
            (get_or c.args.octets.now c.loop-octet.octet-index 0) refl c.loop-octet-test.true before.4 h.2.2,
        h.2.3,
      );
}

pub returns-clause-step : goal.returns-clause-step
returns-clause-step g c = λ first tail heard stands.
    let all = take_all c.loop-octet.octet-index c.args.octets.now c.loop-octet-test.false in
    let h =
    c.loop-octet.invariant.step first tail
    (subst (λ (t : List ℕ). DecodesComing first.decoding c.args.self.now (t ++ tail)) (sym all) heard) stands in (
      h.0,
      h.3,
      (
        h.1,
        h.2,
        subst (λ (t : List ℕ). Goes (place_of c.args.self.now first) t (place_of c.loop-octet.self h.1) h.0) all h.4,
        h.5,
      ),
    )
