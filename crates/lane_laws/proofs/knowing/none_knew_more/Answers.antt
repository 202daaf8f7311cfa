use Rattle.std.proofs.Common.{◌≡◌, ◌<◌, ℕ, length, rules, subst}
use Rattle.lane_laws.proofs.KnownLemmas.{FirstKnown, first_more, all_known, knew_more, its_publisher, one_more}
use Rattle.lane_laws.proofs.knowing.none_knew_more.Goals as goal

pub knew_no_more-requires : goal.knew_no_more-requires
knew_no_more-requires g c =
    let ends = c.args.ends.now.items in
    let few : c.loop-at.at < length ends = search rules in
    record {
      publisher =
          its_publisher g.P.Pace.answers g.S.Sink.taken c.args.last.now.publisher ends c.requires.ended c.loop-at.at
          c.index.result.now few c.index.ensures;
    }

pub loop-at-preserved : goal.loop-at-preserved
loop-at-preserved g c =
    let ends = c.args.ends.now.items in
    let lists = c.args.last.now.lists in
    let few : c.loop-at.at < length ends = search rules in
    subst (λ (n : ℕ). FirstKnown n lists ends) (one_more c.loop-at.at)
    (first_more c.loop-at.at lists ends c.index.result.now c.loop-at.invariant few c.index.ensures
    c.if-not-knew_no_more.ensures.known)

pub returns-then-not-knew_no_more-clause-more : goal.returns-then-not-knew_no_more-clause-more
returns-then-not-knew_no_more-clause-more g c =
    let ends = c.args.ends.now.items in
    let few : c.loop-at.at < length ends = search rules in
    knew_more c.loop-at.at c.args.last.now.lists ends c.index.result.now few c.index.ensures
    c.if-not-knew_no_more.ensures.more

pub returns-clause-known : goal.returns-clause-known
returns-clause-known g c =
    let ends = c.args.ends.now.items in
    let all : c.loop-at.at ≡ length ends = search rules in
    all_known c.args.last.now.lists ends
    (subst (λ (n : ℕ). FirstKnown n c.args.last.now.lists ends) all c.loop-at.invariant)
