-- What a packet frees at its gate.
use Rattle.std.specs.Prelude.{List, [], Option, None, Some}
use Rattle.frame_gate.specs.Frame.{WholeFrame}
use Rattle.ingress.specs.inner.SourceEntries.{AdmissionOf}

-- the frames that a packet frees; none where no packet is ready for a gate
abbrev pub freed_by : Option AdmissionOf → List WholeFrame
freed_by None = []
freed_by (Some a) = a.prepared.prepared.answer.frames
