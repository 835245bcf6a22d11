-- How large the numbers of a world can get: no sum of them leaves 128 bits (this project's profile).
use Rattle.std.specs.Prelude.{ℕ, ℤ, ◌≤◌, ◌+◌, ◌*◌, ◌^◌, unsigned_abs}

-- a true time, or a one-way delay, in tau
abbrev pub IsTime : ℤ → Type 0
IsTime t = unsigned_abs t ≤ 2 ^ 100

-- the one-way delay of a fibre, in tau
abbrev pub IsDelay : ℤ → Type 0
IsDelay delay = unsigned_abs delay ≤ 2 ^ 99

-- the offset of a clock from true time, in tau
abbrev pub IsOff : ℤ → Type 0
IsOff off = unsigned_abs off ≤ 2 ^ 124

-- what a clock reads, or the phase between two clocks, in tau
abbrev pub IsReading : ℤ → Type 0
IsReading reading = unsigned_abs reading ≤ 2 ^ 125

-- How they grow with events: each moves a time or a delay by less than 2^63, and an offset by at most 2^92

abbrev pub IsTimeBy : ℕ → ℤ → Type 0
IsTimeBy events t = unsigned_abs t ≤ 2 ^ 92 + 2 ^ 63 * events

-- a true time minus the life of a frame
abbrev pub IsHorizonBy : ℕ → ℤ → Type 0
IsHorizonBy events t = unsigned_abs t ≤ 2 ^ 93 + 2 ^ 63 * events

abbrev pub IsOffBy : ℕ → ℤ → Type 0
IsOffBy events off = unsigned_abs off ≤ 2 ^ 92 * (events + 1)

abbrev pub IsDelayBy : ℕ → ℤ → Type 0
IsDelayBy events delay = unsigned_abs delay ≤ 2 ^ 63 * (events + 1)

-- a time plus a delay that includes the delays of two modules
abbrev pub IsDueBy : ℕ → ℤ → Type 0
IsDueBy events due = unsigned_abs due ≤ 2 ^ 93 + 2 ^ 64 * (events + 1)
