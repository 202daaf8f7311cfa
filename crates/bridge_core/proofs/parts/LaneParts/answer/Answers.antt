use Rattle.std.proofs.Common.{List, ℕ, ℤ, map, refl, ap, sym, subst, ◌∙◌}
use Rattle.std.specs.Prelude.{IfOk}
use Rattle.std.proofs.lemmas.Result.{IfOk-weaker}
use Rattle.media_items.specs.Inputs.{Input, input_of}
use Rattle.bridge_core.specs.declared.parts.LaneParts.{LaneParts}
use Rattle.bridge_core.specs.Sent.{sent_of}
use Rattle.bridge_core.specs.inner.Parts.{PartsAnswer}
use Rattle.bridge_core.proofs.PartsLaws.{ok_by_video, ok_by_sound, ok_by_tick, by_note, by_loss, by_renewing}
use Rattle.bridge_core.proofs.parts.LaneParts.answer.Goals as goal

pub returns-in-Frame-clause-sends : goal.returns-in-Frame-clause-sends
returns-in-Frame-clause-sends g c =
    let at = c.args.visit.now in
    let old = c.args.self.now in
    let new : LaneParts _ = record { video = c.frame.new.self; audio = old.audio } in
    subst (λ (input : Input). IfOk c.frame.result (λ sent. PartsAnswer at old new input (map sent_of sent.items)))
    (sym (ap input_of c.in-Frame.is))
    (ok_by_video c.frame.result (λ sent. map sent_of sent.items) at old new (Input.frame c.in-Frame.frame) refl refl
    c.frame.ensures.sends)

pub returns-in-Audio-clause-sends : goal.returns-in-Audio-clause-sends
returns-in-Audio-clause-sends g c =
    let at = c.args.visit.now in
    let old = c.args.self.now in
    let new : LaneParts _ = record { video = old.video; audio = c.put_sound.new.mixer } in
    let sound = λ (samples : List ℤ).
    Input.audio record {
      source = c.in-Audio.ssrc;
      address = c.in-Audio.address;
      rate = c.in-Audio.rate;
      ts = c.in-Audio.ts;
      samples = samples;
    } in
    subst (λ (input : Input). IfOk c.put_sound.result (λ sent. PartsAnswer at old new input (map sent_of sent.items)))
    (ap sound c.deref.ensures.value ∙ sym (ap input_of c.in-Audio.is))
    (ok_by_sound c.put_sound.result (λ sent. map sent_of sent.items) at old new
    (record {
      source = c.in-Audio.ssrc;
      address = c.in-Audio.address;
      rate = c.in-Audio.rate;
      ts = c.in-Audio.ts;
      samples = c.deref.result.now;
    })
    refl c.put_sound.ensures.given c.put_sound.ensures.nothing)

pub returns-in-Tick-clause-sends : goal.returns-in-Tick-clause-sends
returns-in-Tick-clause-sends g c =
    let at = c.args.visit.now in
    let old = c.args.self.now in
    let new : LaneParts _ = record { video = old.video; audio = c.send_mixes.new.mixer } in
    subst (λ (input : Input). IfOk c.send_mixes.result (λ sent. PartsAnswer at old new input (map sent_of sent.items)))
    (sym (ap input_of c.in-Tick.is))
    (ok_by_tick c.send_mixes.result (λ sent. map sent_of sent.items) at old new c.in-Tick.moment refl
    c.send_mixes.ensures.ticks)

pub returns-in-Nack-clause-sends : goal.returns-in-Nack-clause-sends
returns-in-Nack-clause-sends g c =
    let at = c.args.visit.now in
    let old = c.args.self.now in
    let asked = λ (numbers : List ℕ).
    Input.nack record { from = c.in-Nack.from; out_ssrc = c.in-Nack.out_ssrc; numbers = numbers } in
    subst (λ (input : Input). IfOk c.nack.result (λ sent. PartsAnswer at old old input (map sent_of sent.items)))
    (ap asked c.deref-in-Nack.ensures.value ∙ sym (ap input_of c.in-Nack.is))
    (ok_by_video c.nack.result (λ sent. map sent_of sent.items) at old old (asked c.deref-in-Nack.result.now) refl refl
    c.nack.ensures)

pub returns-in-Block-clause-sends : goal.returns-in-Block-clause-sends
returns-in-Block-clause-sends g c =
    let at = c.args.visit.now in
    let old = c.args.self.now in
    subst (λ (input : Input). IfOk c.note_block.result (λ sent. PartsAnswer at old old input (map sent_of sent.items)))
    (sym (ap input_of c.in-Block.is))
    (IfOk-weaker c.note_block.result _ _
    (λ sent is.
    by_note at old (record { from = c.in-Block.from; block = c.in-Block.block }) (map sent_of sent.items) is)
    c.note_block.ensures)

pub returns-in-Pli-clause-sends : goal.returns-in-Pli-clause-sends
returns-in-Pli-clause-sends g c =
    let at = c.args.visit.now in
    let old = c.args.self.now in
    subst (λ (input : Input). IfOk c.pass_up.result (λ sent. PartsAnswer at old old input (map sent_of sent.items)))
    (sym (ap input_of c.in-Pli.is))
    (IfOk-weaker c.pass_up.result _ _
    (λ sent is.
    by_loss at old (record { from = c.in-Pli.from; out_ssrc = c.in-Pli.out_ssrc }) (map sent_of sent.items) is)
    c.pass_up.ensures)

pub returns-in-Report-clause-sends : goal.returns-in-Report-clause-sends
returns-in-Report-clause-sends g c =
    let at = c.args.visit.now in
    let old = c.args.self.now in
    subst (λ (input : Input). IfOk c.report.result (λ sent. PartsAnswer at old old input (map sent_of sent.items)))
    (sym (ap input_of c.in-Report.is)) c.report.ensures

pub returns-in-Renew-clause-sends : goal.returns-in-Renew-clause-sends
returns-in-Renew-clause-sends g c =
    let at = c.args.visit.now in
    let old = c.args.self.now in
    let new : LaneParts _ = record { video = old.video; audio = c.renew_sound.new.mixer } in
    subst (λ (input : Input). PartsAnswer at old new input (map sent_of c.renew_sound.result.items))
    (sym (ap input_of c.in-Renew.is))
    (subst (PartsAnswer at old new Input.renew) (sym c.renew_sound.ensures.nothing)
    (by_renewing at old new c.renew_sound.ensures.given refl))
