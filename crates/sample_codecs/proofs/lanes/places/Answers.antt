use Rattle.sample_codecs.proofs.SideBySide.{floats_asked, bits_asked, narrow_asked, places_are}
use Rattle.sample_codecs.proofs.lanes.places.Goals as goal

pub int_to_float-kept : goal.int_to_float-kept
int_to_float-kept c = floats_asked c.args.biased c.requires

pub float_to_bits-kept : goal.float_to_bits-kept
float_to_bits-kept c = bits_asked c.args.biased c.requires

pub overflow_cast-result : goal.overflow_cast-result
overflow_cast-result c = narrow_asked c.args.biased c.fits-biased.0 c.requires

pub returns : goal.returns
returns c = places_are c.args.biased c.fits-biased.0 c.requires
