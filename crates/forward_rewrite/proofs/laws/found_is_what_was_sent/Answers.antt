use Rattle.std.proofs.Common.{refl}
use Rattle.retransmit.specs.Window.{window_size, latest, is_for}
use Rattle.forward_rewrite.specs.RoutedList.{packets_of}
use Rattle.forward_rewrite.proofs.Found.{found_there, found_again}
use Rattle.forward_rewrite.proofs.laws.found_is_what_was_sent.Goals as goal

pub returns-clause-found : goal.returns-clause-found
returns-clause-found c ssrc first_seq first_ts sendings number owner p is =
    let sent = packets_of ssrc first_seq first_ts sendings in
    let found = found_there (is_for number owner) (latest window_size sent) p is in
    let asked = (c.owners_are_told_apart.ensures number owner p).0 found.1 in
    record {
      there = found.0;
      alone =
          c.found_is_the_only_one.ensures sent number owner p
          (c.numbers_in_a_row.ensures.row ssrc first_seq first_ts sendings) is;
      number_is = asked.0;
      owner_is = asked.1;
    }

pub returns-clause-all : goal.returns-clause-all
returns-clause-all c ssrc first_seq first_ts sendings p there =
    let sent = packets_of ssrc first_seq first_ts sendings in
    let row = c.numbers_in_a_row.ensures.row ssrc first_seq first_ts sendings in
    found_again p.number p.owner (latest window_size sent) p there refl
    ((c.owners_are_told_apart.ensures p.number p.owner p).1 (refl, refl))
    (λ y is. c.found_is_the_only_one.ensures sent p.number p.owner y row is)
