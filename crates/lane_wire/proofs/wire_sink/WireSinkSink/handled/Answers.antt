use Rattle.std.proofs.Common.{◌∙◌, [], ◌∷◌, ◌++◌, map, List, ap, sym}
use Rattle.std.proofs.lemmas.List.{map-append}
use Rattle.media_workers.specs.LaneRuns.{Versioned, handled_by}
use Rattle.lane_wire.specs.Handlings.{versioned_item}
use Rattle.lane_wire.specs.Sinks.{SinkOf}
use Rattle.lane_wire.proofs.wire_sink.WireSinkSink.handled.Goals as goal

pub returns-clause-heard : goal.returns-clause-heard
returns-clause-heard g c l is =
    ap (λ (xs : List Versioned). xs ++ handled_by c.args.version c.args.item ∷ [])
    (is ∙ ap (λ (s : SinkOf g.row.W.Denot). map versioned_item s.handled.handled) (sym c.self.view_is))
    ∙ (sym (map-append versioned_item c.self.inside.handled.handled _)
    ∙ ap (map versioned_item) (sym c.note.ensures.handled))
