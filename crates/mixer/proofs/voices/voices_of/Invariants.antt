-- What there is are the voices of the sources so far.
use Rattle.std.proofs.Common.{◌≡◌, List, map, take}
use Rattle.playout.specs.Playouts.{Has}
use Rattle.mixer.specs.Hearing.{Given, to_playouts, voice_of}
use Rattle.mixer.specs.inner.Rooms.{AreLong, IsRate}
use Rattle.mixer.proofs.voices.voices_of.Given as goal

abbrev pub invariant-loop-source : goal.invariant-loop-source
invariant-loop-source g l = record {
  heard : (given : List Given) → Has l.playouts (map to_playouts given)
      → l.voices.items ≡ map (voice_of l.rows given) (take l.source-index l.sources);
  sources : map (λ v. v.source) l.voices.items ≡ take l.source-index l.sources;
  long : AreLong l.rows l.voices.items;
  last : IsRate l.rows l.last;
}
