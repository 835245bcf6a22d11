-- The nine inequalities that a network must pass, in the order in which they are tried (this
-- project's profile).
use Rattle.std.specs.Prelude.{ℕ, ℤ, pos, ◌≡◌, ◌+◌, ◌-◌, ◌*◌, ◌<◌, ◌≤◌, min, unsigned_abs, Bool, not, int_lt, List, [], ◌∷◌, ◌++◌, Option, None, Some, Result, Ok, Err}
use Rattle.std.specs.List.{filter_map, enumerate_from}
use Rattle.std.specs.Option.{option_map}
use Rattle.wrp_network.specs.declared.configuration.NetCfg.{NetCfg}
use Rattle.wrp_network.specs.declared.network.NodeCfg.{NodeCfg}
use Rattle.wrp_base.specs.Clock.{period_of}
use Rattle.wrp_network.specs.Network.{node_count}
use Rattle.wrp_bounds.specs.declared.inequality.Clash.{Clash}
use Rattle.wrp_bounds.specs.declared.inequality.Order.{Order}
use Rattle.wrp_bounds.specs.declared.inequality.Order.TheVariants.{Less, AtMost, More}
use Rattle.wrp_bounds.specs.declared.inequality.Inequality.{Inequality}
use Rattle.wrp_bounds.specs.declared.numbers.HopNumbers.{HopNumbers}
use Rattle.wrp_bounds.specs.Hop.{gap_motion, detector_error}
use Rattle.wrp_bounds.specs.Bounds.{numbers_of}
use Rattle.wrp_bounds.specs.Times.{shortest_tick, longest_tick, frame_life, reach, gap_time}

-- an inequality of this number: how its left side has to lie to its right one
abbrev pub inequality : ℕ → ℕ → Order → ℕ → Inequality
inequality number left order right =
    record { number = number; left = pos left; order = order; right = pos right }

-- the left side lies to the right one as this order wants it
abbrev pub is_ordered : Order → ℤ → ℤ → Bool
is_ordered Less left right = int_lt left right
is_ordered AtMost left right = not (int_lt right left)
is_ordered More left right = int_lt right left

-- an inequality whose sides do not lie so
abbrev pub is_broken : Inequality → Bool
is_broken i = not (is_ordered i.order i.left i.right)

-- the quiet time outlasts the lives of two frames, one after the other
unfoldable pub quiet_time : NetCfg → Inequality
quiet_time net =
    inequality 1 ((unsigned_abs net.quiet - 1) * shortest_tick net) More (2 * frame_life net)

-- HOLDOVER outlasts the lease that a node below still has
unfoldable pub holdover_time : NetCfg → Inequality
holdover_time net =
    inequality 2 ((unsigned_abs net.holdover - 1) * shortest_tick net) More
    ((unsigned_abs net.lease + 1) * longest_tick net + frame_life net)

-- between two good samples the phase moves so little that its whole periods are known
unfoldable pub phase_room : NetCfg → HopNumbers → Inequality
phase_room net hop =
    inequality 3 (2 * gap_motion hop + 4 * detector_error hop) Less (period_of net.clock)

-- the shortest tick is no longer than the longest
unfoldable pub tick_times : NetCfg → Inequality
tick_times net = inequality 4 (shortest_tick net) AtMost (longest_tick net)

-- after a failure a slave waits at least for the quiet time
unfoldable pub holdoff_time : NetCfg → Inequality
holdoff_time net = inequality 5 (unsigned_abs net.quiet) AtMost (unsigned_abs net.holdoff)

-- a frame lives at least until it has arrived
unfoldable pub flight_time : NetCfg → Inequality
flight_time net = inequality 6 (reach net) AtMost (frame_life net)

-- the lock detector unlocks below the count at which it locks
unfoldable pub lock_counts : NetCfg → Inequality
lock_counts net =
    inequality 7 (unsigned_abs net.delock_samples) Less (unsigned_abs net.lock_samples)

-- a sequenceId does not come again while a frame of it, or a sample that goes with it, is about
unfoldable pub id_reuse : NetCfg → Inequality
id_reuse net =
    inequality 8
    (65_000 * min (unsigned_abs net.sync) (unsigned_abs net.delay) * shortest_tick net) More
    (unsigned_abs net.ring * gap_time net + 4 * frame_life net)

-- the delays of two ports leave room for a fibre
unfoldable pub port_delays : NetCfg → Inequality
port_delays net = inequality 9 (net.tx_max + net.rx_max + 2 * net.e_db) AtMost (reach net)

-- the third inequality at a node, if it has a parent
unfoldable pub phase_room_of : NetCfg → ℕ → Option Inequality
phase_room_of net n = option_map (phase_room net) (numbers_of net n)

-- the third inequality at these nodes, the first of which has this number
abbrev pub phase_rooms_from : NetCfg → ℕ → List NodeCfg → List Inequality
phase_rooms_from net n nodes =
    filter_map (λ place. phase_room_of net place.0) (enumerate_from n nodes)

-- the third inequality at each node that has a parent, in file order
abbrev pub phase_rooms : NetCfg → List Inequality
phase_rooms net = phase_rooms_from net 0 net.nodes.items

-- all inequalities, by number
unfoldable pub inequalities : NetCfg → List Inequality
inequalities net =
    (quiet_time net ∷ (holdover_time net ∷ [])) ++ phase_rooms net ++
    (tick_times net ∷ (holdoff_time net ∷ (flight_time net ∷
    (lock_counts net ∷ (id_reuse net ∷ (port_delays net ∷ []))))))

-- what is reported of an inequality that is broken
abbrev pub clash_of : Inequality → Clash
clash_of i = record { number = i.number; left = i.left; right = i.right }

-- the answer if this inequality is the first that is broken, or none is
abbrev pub answer_of : Option Inequality → Result (Unit {0}) Clash
answer_of None = Ok tt
answer_of (Some i) = Err (clash_of i)

-- the network keeps all nine inequalities, the third at each node that has a parent
pub record KeepsInequalities (net : NetCfg) : Type 0 where
  pub quiet_time : 2 * frame_life net < (unsigned_abs net.quiet - 1) * shortest_tick net
  pub holdover_time :
      (unsigned_abs net.lease + 1) * longest_tick net + frame_life net
      < (unsigned_abs net.holdover - 1) * shortest_tick net
  pub phase_room :
      (n : ℕ) (hop : HopNumbers) → n < node_count net → numbers_of net n ≡ Some hop →
      2 * gap_motion hop + 4 * detector_error hop < period_of net.clock
  pub tick_times : shortest_tick net ≤ longest_tick net
  pub holdoff_time : unsigned_abs net.quiet ≤ unsigned_abs net.holdoff
  pub flight_time : reach net ≤ frame_life net
  pub lock_counts : unsigned_abs net.delock_samples < unsigned_abs net.lock_samples
  pub id_reuse :
      unsigned_abs net.ring * gap_time net + 4 * frame_life net
      < 65_000 * min (unsigned_abs net.sync) (unsigned_abs net.delay) * shortest_tick net
  pub port_delays : net.tx_max + net.rx_max + 2 * net.e_db ≤ reach net
