use Rattle.ingress.proofs.Voices.{the_voice}
use Rattle.ingress.proofs.laws.voices_are_there.Goals as goal

pub returns : goal.returns
returns c asker = the_voice c.numbers_have_words.ensures asker
