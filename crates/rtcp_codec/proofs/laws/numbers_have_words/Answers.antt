use Rattle.rtcp_codec.proofs.Packable.{words_for}
use Rattle.rtcp_codec.proofs.laws.numbers_have_words.Goals as goal

pub returns : goal.returns
returns c numbers fit = words_for numbers fit
