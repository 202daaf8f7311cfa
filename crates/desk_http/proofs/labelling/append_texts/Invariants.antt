-- What is written and what is left make all texts.
use Rattle.std.proofs.Common.{◌≡◌, ◌++◌, drop}
use Rattle.std.specs.List.{flat_map}
use Rattle.desk_http.proofs.labelling.append_texts.Given as goal

abbrev pub invariant-loop-text : goal.invariant-loop-text
invariant-loop-text l =
    l.out.items ++ flat_map (λ text. text.now) (drop l.text-index l.texts)
    ≡ l.fn.out.items ++ flat_map (λ text. text.now) l.texts
