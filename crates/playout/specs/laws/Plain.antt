-- What becomes of a source whose playout never begins anew by its tally.
use Rattle.std.specs.Prelude.{ℕ, if◌then◌else◌, List, Option, None, Some, fold}
use Rattle.rtp_codec.specs.declared.address.Address.{Address}
use Rattle.playout.specs.Playout.{Play}
use Rattle.playout.specs.Calls.{play_put, play_ticked}
use Rattle.playout.specs.Playouts.{AudioEvent, PutOf, TakeAll, Renewing, same_source}

-- the playout of one source, after one more of these: a put where it is the source's own, and each take
abbrev pub plain_next : ℕ → Address → Option Play → AudioEvent → Option Play
plain_next source address play (PutOf other at rate ts samples) =
    if same_source other at source address then Some (play_put rate play ts samples) else play
plain_next source address play TakeAll = play_ticked play
plain_next source address play Renewing = play

-- the playout of a source that has had these
abbrev pub plain_on : ℕ → Address → List AudioEvent → Option Play
plain_on source address events = fold (plain_next source address) None events
