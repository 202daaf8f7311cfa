use Rattle.std.proofs.Common.{◌≡◌, ◌∙◌, ◌++◌, ◌∷◌, [], length, All, ap, sym, subst, arith, append_assoc, length-append}
use Rattle.std.proofs.lemmas.List.Elements.{All-append}
use Rattle.std.specs.Vec.Iter.{into_iter_items}
use Rattle.media_front.proofs.PlaceLemmas.{All_at}
use Rattle.media_front.proofs.StartLemmas.{All_one}
use Rattle.media_front.proofs.starting.outfits_for.Goals as goal

pub bounds-signals-at : goal.bounds-signals-at
bounds-signals-at g c =
    let k = c.loop-sink.invariant in
    let next = c.in-Some.ensures.steps in
    let done = c.loop-sink.yielded in
    let is : done ++ c.in-Some.sink ∷ into_iter_items c.next.new.self ≡ c.args.sinks.items =
    ap (λ l. done ++ l) (sym next.0) ∙ k.left in
    let one =
    All_at (λ sink. g.S.Sink.taken sink ≡ []) done (into_iter_items c.next.new.self) c.args.sinks.items c.in-Some.sink
    is c.requires.untaken in
    omega (arith, k.at, one.0, c.requires.many, c.args.sinks.ok)

pub overflow_add-at : goal.overflow_add-at
overflow_add-at g c =
    let k = c.loop-sink.invariant in
    let next = c.in-Some.ensures.steps in
    let done = c.loop-sink.yielded in
    let is : done ++ c.in-Some.sink ∷ into_iter_items c.next.new.self ≡ c.args.sinks.items =
    ap (λ l. done ++ l) (sym next.0) ∙ k.left in
    let one =
    All_at (λ sink. g.S.Sink.taken sink ≡ []) done (into_iter_items c.next.new.self) c.args.sinks.items c.in-Some.sink
    is c.requires.untaken in
    omega (arith, k.at, one.0, c.args.sinks.small, c.args.sinks.ok)

pub push_reserved-requires : goal.push_reserved-requires
push_reserved-requires g c =
    let k = c.loop-sink.invariant in
    let next = c.in-Some.ensures.steps in
    let done = c.loop-sink.yielded in
    let is : done ++ c.in-Some.sink ∷ into_iter_items c.next.new.self ≡ c.args.sinks.items =
    ap (λ l. done ++ l) (sym next.0) ∙ k.left in
    let one =
    All_at (λ sink. g.S.Sink.taken sink ≡ []) done (into_iter_items c.next.new.self) c.args.sinks.items c.in-Some.sink
    is c.requires.untaken in
    omega (arith, k.at, k.many, k.capacity, one.0, c.requires.many, c.args.sinks.ok, c.in_ok-outfits.ensures.exact)

pub loop-sink-preserved : goal.loop-sink-preserved
loop-sink-preserved g c =
    let k = c.loop-sink.invariant in
    let next = c.in-Some.ensures.steps in
    let done = c.loop-sink.yielded in
    let is : done ++ c.in-Some.sink ∷ into_iter_items c.next.new.self ≡ c.args.sinks.items =
    ap (λ l. done ++ l) (sym next.0) ∙ k.left in
    let one =
    All_at (λ sink. g.S.Sink.taken sink ≡ []) done (into_iter_items c.next.new.self) c.args.sinks.items c.in-Some.sink
    is c.requires.untaken in
    record {
      at = omega (arith, k.at, length-append done (c.in-Some.sink ∷ []));
      left = append_assoc done (c.in-Some.sink ∷ []) _ ∙ is;
      len = omega (arith, k.len, next.1, ap length next.0);
      many = omega (arith, c.push_reserved.ensures.len, k.many);
      capacity = c.push_reserved.ensures.capacity ∙ k.capacity;
      untaken = subst (All (λ x. g.S.Sink.taken x.1 ≡ [])) (sym c.push_reserved.ensures.items)
          (All-append (λ x. g.S.Sink.taken x.1 ≡ []) c.loop-sink.outfits.items _ k.untaken
          (All_one (λ x. g.S.Sink.taken x.1 ≡ []) _ one.1));
    }
