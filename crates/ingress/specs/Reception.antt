-- How a source is received (jitter: RFC 3550 A.8; what its gate tells is own).
use Rattle.std.specs.Prelude.{ℕ, List, length, Option, None, Some, option_map}
use Rattle.rtcp_codec.specs.declared.report.ReportBlock.{ReportBlock}
use Rattle.frame_gate.specs.Epochs.{frames_of}
use Rattle.frame_gate.specs.Watched.{watch_of, waits_in}
use Rattle.frame_gate.specs.Waits.{so_many}
use Rattle.ingress.specs.declared.reception.Reception.{Reception}
use Rattle.ingress.specs.Stories.{Story, gate_epoch}
use Rattle.ingress.specs.Sources.{Origin, Known, story_at}
use Rattle.ingress.specs.Reported.{block_on}

-- the jitter that a report block tells; 0 where there is none
abbrev pub jitter_in : Option ReportBlock → ℕ
jitter_in None = 0
jitter_in (Some block) = block.jitter

-- how the source of a story is received: its clock rate in Hz, the jitter that a report block tells of it now, and of
-- its epoch how many whole frames its gate gave, how often the gate gave up, and how long it has waited
abbrev pub reception_of : Story → Reception
reception_of story = record {
  rate = story.rate;
  jitter = jitter_in (block_on 0 0 story);
  frames = so_many (length (frames_of (gate_epoch story)));
  gaps = so_many (watch_of story.gate_events).gaps;
  waits = waits_in (watch_of story.gate_events);
}

-- how the source at an origin is received; none where it is not known
abbrev pub reception_at : Origin → List Known → Option Reception
reception_at o known = option_map reception_of (story_at o known)
