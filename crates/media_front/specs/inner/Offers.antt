-- What a parcel makes of the lanes of a bridge.
use Rattle.std.specs.Prelude.{◌≡◌, ℕ, false, List, Some, OnOk, IfErr, Result, slice_get, slice_set}
use Rattle.media_workers.specs.declared.parcel.Parcel.{Parcel}
use Rattle.media_workers.specs.Ports.{PortOf, accept}

-- The lane of this number accepted the parcel, or handed it back, and then nothing changed.
pub record IsOffered {P S : Type 0} (old : List (PortOf P S)) (lane : ℕ) (parcel : Parcel)
    (answer : Result (Unit {0}) Parcel) (new : List (PortOf P S)) : Type 0 where
  pub ok : OnOk answer ((port : PortOf P S) → slice_get old lane ≡ Some port →
      (port.closed ≡ false) × (new ≡ slice_set old lane (accept parcel port)))
  pub err : IfErr answer (λ (back : Parcel). (back ≡ parcel) × (new ≡ old))
