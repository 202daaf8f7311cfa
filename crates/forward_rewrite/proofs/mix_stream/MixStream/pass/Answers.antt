use Rattle.forward_rewrite.proofs.Mixing.{gives_silence}
use Rattle.forward_rewrite.proofs.mix_stream.MixStream.pass.Goals as goal

pub returns-clause-gives : goal.returns-clause-gives
returns-clause-gives c =
    gives_silence c.args.self.now c.pass_by_fields.new.self c.args.rate c.args.moment c.pass_by_fields.ensures
