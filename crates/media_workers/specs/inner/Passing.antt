-- When a lane may take a parcel, by what its signal knows (own).
use Rattle.std.specs.Prelude.{ℕ, ◌+◌, ◌-◌, ◌^◌, min, Bool, ◌||◌, nat_le}
use Rattle.media_workers.specs.declared.signal_state.SignalState.{SignalState}

-- the lane may take so many parcels: the signal was raised for as many, or is open
abbrev pub lets_pass : ℕ → SignalState → Bool
lets_pass parcels state = nat_le parcels state.parcels || state.is_open

-- the signal was raised for so many parcels more, as far as 64 bits count
abbrev pub raised_for : ℕ → SignalState → SignalState
raised_for parcels state = record { parcels = min (state.parcels + parcels) (2 ^ 64 - 1); is_open = state.is_open }
