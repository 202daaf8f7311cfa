use Rattle.std.proofs.Common.{◌++◌, List, ℕ, ap, ◌∙◌, arith}
use Rattle.std.specs.Fmt.{decimal}
use Rattle.desk_calls.specs.declared.reply.Reply.TheVariants.{Accepted}
use Rattle.desk_text.specs.Text.{reply_text}
use Rattle.worked_bridge.proofs.Spoken.{on_ok}
use Rattle.worked_bridge.proofs.script_laws.reads_back_the_number_of_a_call.Goals as goal

pub returns : goal.returns
returns c = on_ok c.print_reply.result (λ told.
    let no = c.args.no in (
      decimal no,
      told ∙ ap (λ (front : List ℕ). front ++ reply_text (Accepted no)) c.requires,
      c.number_words.ensures.read 18446744073709551615 no (omega arith) (omega (arith, c.ranges.no.fits)),
    ))
    c.print_reply.ensures.ok
