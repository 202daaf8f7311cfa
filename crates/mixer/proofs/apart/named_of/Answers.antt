use Rattle.std.proofs.Common.{◌++◌, take, sym, ap, ◌∙◌}
use Rattle.rtp_codec.specs.Packet.{number_octets}
use Rattle.mix_minus.specs.Mix.{present_in}
use Rattle.mixer.proofs.InFull.{there_more, there_same}
use Rattle.mixer.proofs.NamedOctets.{octets-push}
use Rattle.mixer.proofs.apart.named_of.Goals as goal
use Rattle.mixer.proofs.apart.named_of.Goals.{then-inputs-i-gt0+in_ok-extend_from_slice, else-inputs-i-gt0}

pub loop-i-preserved : goal.loop-i-preserved
loop-i-preserved g c =
    let n = c.loop-i.i in
    let inputs = c.args.inputs.now in
    elim c.if-inputs-i-gt0.branch [
      | then-inputs-i-gt0+in_ok-extend_from_slice w ↦
          ap (λ v. v.items) w.named-is ∙ w.in_ok-extend_from_slice.ensures.items
          ∙ ap (λ xs. xs ++ w.to_be_bytes.result) c.loop-i.invariant
          ∙ ap (λ xs. number_octets (present_in (take n inputs)) ++ xs) w.to_be_bytes.ensures
          ∙ sym (octets-push (present_in (take n inputs)) _)
          ∙ ap number_octets (sym (there_more n inputs _ c.loop-i-test.true w.if-inputs-i-gt0.true))
      | else-inputs-i-gt0 w ↦
          ap (λ v. v.items) w.named-is
          ∙ c.loop-i.invariant
          ∙ ap number_octets (sym (there_same n inputs _ c.loop-i-test.true w.if-inputs-i-gt0.false))
    ]
