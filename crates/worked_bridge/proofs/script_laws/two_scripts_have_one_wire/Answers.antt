use Rattle.desk_text.specs.Lines.{lines_of}
use Rattle.worked_bridge.proofs.script_laws.two_scripts_have_one_wire.Goals as goal

pub returns : goal.returns
returns c =
    let decoding = c.scripts_are_heard.ensures in
    let first = c.in_ok-one.ensures.ok.each decoding.0 (decoding.1 (lines_of c.args.first.now)) in
    let second = c.in_ok-other.ensures.ok.each decoding.0 (decoding.1 (lines_of c.args.second.now)) in
    (decoding.0, first.1, second.1)
