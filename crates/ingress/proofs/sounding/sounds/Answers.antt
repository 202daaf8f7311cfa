use Rattle.std.proofs.Common.{◌∙◌, ap, sym, is_some, if◌then◌else◌, []}
use Rattle.std.specs.List.{list_all}
use Rattle.media_items.specs.Inputs.{is_sized}
use Rattle.ingress.specs.Energy.{count_of_samples, no_sound}
use Rattle.media_items.specs.Formats.{samples_of_packet}
use Rattle.ingress.specs.Media.{sound_of}
use Rattle.ingress.specs.inner.MediaPackets.{incoming_of}
use Rattle.ingress.proofs.Results.{from_fact}
use Rattle.ingress.proofs.Sized.{sized_sound}
use Rattle.ingress.proofs.sounding.sounds.Goals as goal

pub returns-in-Some-clause-items : goal.returns-in-Some-clause-items
returns-in-Some-clause-items g c =
    let some = sym c.accepted.ensures ∙ c.in-Some.is in
    from_fact c.sound_of.result c.sound_of.ensures.items
    (λ heard is.
    is ∙ sym (ap (λ o. if is_some o then sound_of c.args.format (incoming_of c.args.incoming) else []) some))

pub returns-in-Some-clause-sized : goal.returns-in-Some-clause-sized
returns-in-Some-clause-sized g c =
    from_fact c.sound_of.result c.sound_of.ensures.items
    (λ heard is. ap (list_all is_sized) is ∙ sized_sound c.args.format (incoming_of c.args.incoming) c.requires)

pub returns-in-Some-clause-sound : goal.returns-in-Some-clause-sound
returns-in-Some-clause-sound g c =
    let some = sym c.accepted.ensures ∙ c.in-Some.is in
    let samples = samples_of_packet c.args.format (incoming_of c.args.incoming).packet.payload in
    from_fact c.sound_of.result c.sound_of.ensures.sound
    (λ heard is. is ∙ sym (ap (λ o. if is_some o then count_of_samples samples else no_sound) some))
