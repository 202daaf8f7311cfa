use Rattle.media_items.specs.Inputs.{Sound}
use Rattle.bridge_core.proofs.Sized.{sized_sound}
use Rattle.bridge_core.proofs.audio.put_sound.Goals as goal

pub put-requires-clause-least : goal.put-requires-clause-least
put-requires-clause-least g c =
    let sound : Sound =
    record {
      source = c.args.source;
      address = c.args.address.now;
      rate = c.args.block.rate;
      ts = c.args.block.ts;
      samples = c.args.block.samples.now;
    } in
    (sized_sound sound c.requires).0

pub put-requires-clause-most : goal.put-requires-clause-most
put-requires-clause-most g c =
    let sound : Sound =
    record {
      source = c.args.source;
      address = c.args.address.now;
      rate = c.args.block.rate;
      ts = c.args.block.ts;
      samples = c.args.block.samples.now;
    } in
    (sized_sound sound c.requires).1

pub put-requires-clause-some : goal.put-requires-clause-some
put-requires-clause-some g c =
    let sound : Sound =
    record {
      source = c.args.source;
      address = c.args.address.now;
      rate = c.args.block.rate;
      ts = c.args.block.ts;
      samples = c.args.block.samples.now;
    } in
    (sized_sound sound c.requires).2

pub put-requires-clause-few : goal.put-requires-clause-few
put-requires-clause-few g c =
    let sound : Sound =
    record {
      source = c.args.source;
      address = c.args.address.now;
      rate = c.args.block.rate;
      ts = c.args.block.ts;
      samples = c.args.block.samples.now;
    } in
    (sized_sound sound c.requires).3
