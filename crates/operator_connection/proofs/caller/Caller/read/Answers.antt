use Rattle.std.proofs.Common.{◌≡◌, ℕ, Bool, take, sym, subst, ◌∙◌}
use Rattle.std.specs.Bool.{MatchBool}
use Rattle.operator_connection.specs.Connection.{HasRead}
use Rattle.operator_connection.specs.Deeds.{HearsPiece, HearsRead}
use Rattle.operator_connection.proofs.CallerLemmas.{positive}
use Rattle.operator_connection.proofs.caller.Caller.read.Goals as goal

pub returns-then-count-gt0 : goal.returns-then-count-gt0
returns-then-count-gt0 g c =
    let replies = g.D.LineDesk.replies c.args.now in
    let shows = g.D.LineDesk.shows in
    let d = c.args.desk.now in
    let e = c.hear.new.desk in
    let old = c.args.self.now.connection in
    let mid = c.read_piece.new.self.connection in
    let new = c.hear.new.self.connection in
    let chunk = c.read_piece.new.self.chunk in
    let octets = take c.count-count.result chunk in
    subst (λ (b : Bool). MatchBool b (HearsRead replies shows c.args.now d e old new) ((e ≡ d) × (new ≡ old)))
    (sym (sym c.may_read.ensures ∙ c.if-not-may_read.false)) (record {
      came = c.read_piece.result;
      octets = octets;
      mid = mid;
      read =
          subst (λ (k : ℕ). HasRead c.read_piece.result (take k chunk) c.args.now old mid)
          (sym c.count-count.ensures) c.read_piece.ensures.read;
      hears =
          subst
          (λ (b : Bool). MatchBool b (HearsPiece replies shows c.args.now octets d e mid new) ((e ≡ d) × (new ≡ mid)))
          (sym (positive c.count-count.result _ c.if-count-gt0.true c.count-count.ensures)) c.hear.ensures;
    })
