use Rattle.std.proofs.Common.{◌++◌, List, [], ◌∷◌, ℕ, pos, Some, ap, ◌∙◌}
use Rattle.std.specs.Fmt.{digits, signed_decimal}
use Rattle.bridge_core.specs.Sent.{Sent}
use Rattle.script_text.specs.SentLines.{sent_text}
use Rattle.worked_bridge.proofs.Spoken.{on_ok}
use Rattle.worked_bridge.proofs.script_laws.reads_back_the_number_of_a_noted_packet.Goals as goal

pub returns : goal.returns
unfolding digits
returns c = on_ok c.print_egress.result (λ told.
    let ext = c.args.ext in (
      signed_decimal ext,
      told
          ∙ ap (λ (sent : Sent). c.args.out.now.items ++ sent_text sent) c.requires.note
          ∙ ap
          (λ (front : List ℕ).
          front
          ++ sent_text (Sent.note (record {
            version = 6;
            item = 2;
            from = record { ip = 10 ∷ 0 ∷ 0 ∷ 2 ∷ []; port = 5000 };
            note = record { out_ssrc = 501; fraction = 0; lost = pos 0; source = Some (101, ext) };
          })))
          c.requires.behind,
      c.ext_words.ensures.read ext,
    ))
    c.print_egress.ensures.ok
