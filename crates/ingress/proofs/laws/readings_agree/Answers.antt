use Rattle.ingress.proofs.Read.{one_reading}
use Rattle.ingress.proofs.laws.readings_agree.Goals as goal

pub returns : goal.returns
returns c octets r s is other = one_reading octets r s is other
