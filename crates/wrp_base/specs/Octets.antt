-- Octets: numbers below 256, and how many of them a frame has room for (this project's profile).
use Rattle.std.specs.Prelude.{ℕ, ◌<◌, List, slice_index}

-- the octets that a frame has room for
abbrev pub frame_room : ℕ
frame_room = 256

-- each number is an octet
abbrev pub AreOctets : List ℕ → Type 0
AreOctets octets = (i : ℕ) → slice_index octets i < 256
