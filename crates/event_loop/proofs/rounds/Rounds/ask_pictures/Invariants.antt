use Rattle.std.proofs.Common.{◌≡◌, List, map, take}
use Rattle.std.specs.Prelude.{Bool}
use Rattle.picture_requests.specs.declared.source.VideoSource.{VideoSource}
use Rattle.event_loop.specs.Turns.{HaveDone}
use Rattle.event_loop.specs.Shapes.{picture_at}
use Rattle.event_loop.proofs.rounds.Rounds.ask_pictures.Given as goal

-- so far the first of the sources were asked for pictures
abbrev pub invariant-loop-source : goal.invariant-loop-source
invariant-loop-source g l =
    (asked : List (VideoSource × Bool))
    × (map (λ (a : VideoSource × Bool). a.0) asked ≡ take l.source-index l.source-items)
    × HaveDone (map (picture_at l.now) asked) l.fn.self.state l.self.state
