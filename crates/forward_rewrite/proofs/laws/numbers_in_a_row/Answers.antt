use Rattle.std.proofs.Common.{◌+◌, ◌%◌, ◌^◌, length}
use Rattle.forward_rewrite.specs.Timestamps.{stamped}
use Rattle.forward_rewrite.specs.RoutedList.{parts, packets_of}
use Rattle.forward_rewrite.proofs.Numbers.{lead-numbered}
use Rattle.forward_rewrite.proofs.Rows.{lead-in_a_row}
use Rattle.forward_rewrite.proofs.Whole.{first_number}
use Rattle.forward_rewrite.proofs.laws.numbers_in_a_row.Goals as goal

pub returns-clause-row : goal.returns-clause-row
returns-clause-row c ssrc first_seq first_ts sendings =
    let ps = parts (stamped first_ts sendings) in
    lead-in_a_row (packets_of ssrc first_seq first_ts sendings) (first_seq % 2 ^ 16) ((first_seq + length ps) % 2 ^ 16)
    (lead-numbered ssrc first_seq ps)

pub returns-clause-first : goal.returns-clause-first
returns-clause-first c ssrc first_seq first_ts sendings =
    first_number ssrc first_seq (parts (stamped first_ts sendings))
