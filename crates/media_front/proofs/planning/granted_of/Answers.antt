use Rattle.std.proofs.Common.{◌≡◌, ◌∙◌, true, List, ap, sym}
use Rattle.std.specs.List.{list_all}
use Rattle.std.specs.declared.alloc.Global.{Global}
use Rattle.rate_limiter.specs.declared.bucket.Bucket.{Bucket}
use Rattle.media_items.specs.Inputs.{input_of}
use Rattle.media_items.specs.declared.item.Item.{Item}
use Rattle.media_front.specs.inner.Plans.{is_free}
use Rattle.media_front.proofs.PlanLemmas.{all_free, free_after, free_limited}
use Rattle.media_front.proofs.planning.granted_of.Goals as goal

pub returns-then-are_free-clause-granted : goal.returns-then-are_free-clause-granted
returns-then-are_free-clause-granted c =
    let free : list_all (λ (item : Item Global). is_free (input_of item)) c.args.items.items ≡ true =
    ap (list_all (λ (item : Item Global). is_free (input_of item))) (sym c.deref.ensures.value)
    ∙ (sym c.are_free.ensures ∙ c.if-are_free.true) in
    sym (all_free input_of c.args.cost c.args.moment c.args.items.items c.args.draft.now.after free)

pub returns-then-are_free-clause-after : goal.returns-then-are_free-clause-after
returns-then-are_free-clause-after c =
    let free : list_all (λ (item : Item Global). is_free (input_of item)) c.args.items.items ≡ true =
    ap (list_all (λ (item : Item Global). is_free (input_of item))) (sym c.deref.ensures.value)
    ∙ (sym c.are_free.ensures ∙ c.if-are_free.true) in
    ap (λ (a : List Bucket). record c.args.draft.now { after = a })
    (sym (free_after input_of c.args.cost c.args.moment c.args.items.items c.args.draft.now.after free))

pub returns-then-are_free-clause-counted : goal.returns-then-are_free-clause-counted
returns-then-are_free-clause-counted c =
    let free : list_all (λ (item : Item Global). is_free (input_of item)) c.args.items.items ≡ true =
    ap (list_all (λ (item : Item Global). is_free (input_of item))) (sym c.deref.ensures.value)
    ∙ (sym c.are_free.ensures ∙ c.if-are_free.true) in
    sym
    (free_limited input_of c.args.cost c.args.moment c.args.items.items c.args.draft.now.after c.args.limited.now free)
