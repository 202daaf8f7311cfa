use Rattle.std.proofs.Common.{◌≡◌, [], ◌∷◌, List, Result, Ok, Err, OnErr, refl, ap, sym, subst, ◌∙◌}
use Rattle.std.specs.Prelude.{option_to_list, option_map}
use Rattle.ingress.specs.Sources.{Origin}
use Rattle.media_front.specs.Waits.{HaveWaitedInPart}
use Rattle.media_front.specs.inner.Origins.{origin_of, origin_in}
use Rattle.media_front.proofs.front.MediaFront.wait_row.Goals as goal

in_part : {A B C D E F : Type 0} (r : Result A B) → (C → D → E → F) → OnErr r C → OnErr r D → OnErr r E → OnErr r F
in_part (Ok a) f c d e = tt {0}
in_part (Err b) f c d e = f c d e

pub returns-in-Some-clause-err : goal.returns-in-Some-clause-err
returns-in-Some-clause-err g c =
    let desk = c.args.rows.now in
    let o : Origin = record { address = c.in-Some.address; ssrc = c.in-Some.ssrc } in
    let before = g.W.Wire.attempts c.args.wire.now in
    let after = g.W.Wire.attempts c.wait.new.wire in
    let one : o ∷ [] ≡ option_to_list (origin_in desk c.args.row.now) =
    ap option_to_list (ap (option_map origin_of) (sym c.in-Some.is) ∙ c.origin_in.ensures) in
    subst
    (λ (os : List Origin).
    OnErr c.wait.result (HaveWaitedInPart desk c.args.now os c.args.self.now c.wait.new.self before after))
    one
    (in_part c.wait.result (λ unfed unsent ingress. record {
      first = [];
      next = o;
      rest = [];
      order = refl;
      behind = c.args.self.now;
      waited = ap (λ w. (c.args.self.now, w)) (sym unsent);
      unfed = unfed;
      ingress = ingress;
    }) c.wait.ensures.err c.wait.ensures.unsent c.wait.ensures.ingress)
