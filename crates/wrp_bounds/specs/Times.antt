-- The times that a network's bounds and inequalities speak of, in tau (this project's profile).
use Rattle.std.specs.Prelude.{ℕ, ℤ, ◌+◌, ◌*◌, unsigned_abs}
use Rattle.wrp_network.specs.declared.configuration.NetCfg.{NetCfg}

-- a time in ns, in tau
abbrev pub tau_of_ns : ℤ → ℕ
tau_of_ns ns = 65_536_000 * unsigned_abs ns

-- the shortest time from one tick of a node to the next
abbrev pub shortest_tick : NetCfg → ℕ
shortest_tick net = tau_of_ns net.dmin_ns

-- the longest time from one tick of a node to the next
abbrev pub longest_tick : NetCfg → ℕ
longest_tick net = tau_of_ns net.dmax_ns

-- the life of a frame
abbrev pub frame_life : NetCfg → ℕ
frame_life net = tau_of_ns net.life_ns

-- the greatest one-way delay
abbrev pub reach : NetCfg → ℕ
reach net = tau_of_ns net.reach_ns

-- the longest time from one good sample to the next
abbrev pub gap_time : NetCfg → ℕ
gap_time net = (unsigned_abs net.gap + 1) * longest_tick net

-- the longest time from a measurement's stamps to its last use
abbrev pub age_time : NetCfg → ℕ
age_time net = (unsigned_abs net.age + 2) * longest_tick net + frame_life net

-- the longest time that a node is in HOLDOVER
abbrev pub held_time : NetCfg → ℕ
held_time net = (unsigned_abs net.holdover + 1) * longest_tick net
