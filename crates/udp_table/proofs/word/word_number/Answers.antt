use Rattle.std.proofs.Common.{◌∙◌, sym, ap, Some, get_or}
use Rattle.std.proofs.lemmas.List.Sums.{fold_more}
use Rattle.udp_table.specs.Words.{number_with}
use Rattle.udp_table.proofs.word.word_number.Goals as goal

pub loop-octet-preserved : goal.loop-octet-preserved
loop-octet-preserved c =
    c.number_with-number.ensures
    ∙ (ap (λ n. number_with n (get_or c.args.word.now c.loop-octet.octet-index 0)) c.loop-octet.invariant
    ∙ sym (fold_more number_with (Some 0) c.args.word.now c.loop-octet.octet-index 0 c.loop-octet-test.true))
