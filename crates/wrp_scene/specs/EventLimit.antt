-- How many events a run by a scenario may have (this project's profile).
use Rattle.std.specs.Prelude.{ℕ, ◌-◌, ◌^◌}

-- the number that no event may reach; events are counted from 1
abbrev pub event_limit : ℕ
event_limit = 2 ^ 32 - 1
