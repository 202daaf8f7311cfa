use Rattle.std.proofs.Common.{◌≡◌, ◌+◌, ◌-◌, ◌*◌, ◌≤◌, ℕ, ℤ, List, ap, sym, subst, arith}
use Rattle.std.proofs.Math.Nat.{mul-add}
use Rattle.std.proofs.lemmas.Option.{IfSome_then}
use Rattle.rtcp_codec.specs.declared.report.ReportBlock.{ReportBlock}
use Rattle.source_valid.specs.Stretches.{expected_of, received_of}
use Rattle.worked_media.proofs.source_laws.tells_no_more_than_was_lost.Goals as goal

grow : (f a b m : ℕ) → f * b ≤ m → f * (a + b) ≤ f * a + m
grow f a b m le = let parts = mul-add f a b in omega (arith, parts, le)

pub returns : goal.returns
returns c = IfSome_then c.block.result c.block.ensures (λ b told before s later given valid parts.
    let block = ap (λ (b : ReportBlock). b.fraction) (told before s given valid) in
    let expected = expected_of s.base s.accepted in
    let then = expected_of s.base s.told in
    let received = received_of s.accepted - received_of s.told in
    let sum : then + (expected - then) ≡ expected =
    subst
    (λ (all : List ℤ).
    expected_of s.base s.told + (expected_of s.base all - expected_of s.base s.told) ≡ expected_of s.base all)
    (sym parts) (c.intervals.ensures s.base s.told later) in
    let most : b.fraction * (expected - then) ≤ 256 * (expected - then - received) =
    subst (λ n. n * (expected - then) ≤ 256 * (expected - then - received)) (sym block)
    (c.losses.ensures.not_more (expected - then) received) in
    subst (λ n. b.fraction * n ≤ b.fraction * then + 256 * (expected - then - received)) sum
    (grow b.fraction then (expected - then) (256 * (expected - then - received)) most))
