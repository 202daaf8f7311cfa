-- Which outgoing streams are a lane's (own).
use Rattle.std.specs.Prelude.{ℕ, ◌%◌, Bool, nat_eq}

-- the lane, of so many, has the stream with this SSRC
abbrev pub is_mine : ℕ → ℕ → ℕ → Bool
is_mine lane lanes ssrc = nat_eq (ssrc % lanes) lane
