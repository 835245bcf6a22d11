-- Which events can come to a network: those that a line can express (this project's profile).
use Rattle.std.specs.Prelude.{ℕ, ℤ, pos, ◌≡◌, ◌≢◌, ◌≤◌, ◌≤ℤ◌, ◌<◌, ◌^◌, ◌%◌, unsigned_abs, true, List, length}
use Rattle.std.specs.List.{AllByRecursion, AllPairs}
use Rattle.wrp_network.specs.declared.configuration.NetCfg.{NetCfg}
use Rattle.wrp_base.specs.declared.time.Raw.{Raw}
use Rattle.wrp_network.specs.Network.{node_count}
use Rattle.wrp_base.specs.Ranges.{IsAmong, IsFromTo}
use Rattle.wrp_base.specs.Octets.{AreOctets}
use Rattle.wrp_caldb.specs.Name.{is_name}
use Rattle.wrp_course.specs.declared.event.Event.{Event}
use Rattle.wrp_course.specs.declared.event.Event.TheVariants.{Pass, Tick, Sample, Depart, Arrive, Deliver, Noise, Down, Up, Cut, Join}
use Rattle.wrp_course.specs.declared.event.Swap.{Swap}

-- how many links a network has
abbrev pub link_count : NetCfg → ℕ
link_count cfg = length cfg.links.items

-- a raw stamp in its ranges
pub record IsRaw (raw : Raw) : Type 0 where
  pub rising : IsAmong 1 9_223_372_036_854_775_807 raw.rising
  pub falling : IsAmong 1 9_223_372_036_854_775_807 raw.falling
  pub tag : raw.tag ≤ 16_383

-- the time of a stamp: 0 to 2^92 tau, a multiple of 1,000
pub record IsTime (time : ℤ) : Type 0 where
  pub least : pos 0 ≤ℤ time
  pub greatest : unsigned_abs time ≤ 2 ^ 92
  pub whole : unsigned_abs time % 1_000 ≡ 0

-- a change, in tau: within 2^63 - 1
abbrev pub IsChange : ℤ → Type 0
IsChange z = unsigned_abs z ≤ 9_223_372_036_854_775_807

-- the changes of a fibre's delays, down and up
abbrev pub IsMove : ℤ × ℤ → Type 0
IsMove move = IsChange move.0 × IsChange move.1

-- one drift for each node, and one move for each link
pub record IsPass (cfg : NetCfg) (dt : ℤ) (drifts : List ℤ) (moves : List (ℤ × ℤ)) : Type 0 where
  pub span : IsFromTo 1 9_223_372_036_854_775_807 dt
  pub nodes : length drifts ≡ node_count cfg
  pub links : length moves ≡ link_count cfg
  pub drift : AllByRecursion IsChange drifts
  pub move : AllByRecursion IsMove moves

-- a port's number, a module's name, and its true delays, in tau: 0 to 10^12
pub record IsSwap (swap : Swap) : Type 0 where
  pub port : swap.port ≤ 65_535
  pub name : is_name swap.name.bytes ≡ true
  pub tx : swap.tx ≤ 1_000_000_000_000
  pub rx : swap.rx ≤ 1_000_000_000_000

-- swaps that name each port once
pub record AreSwaps (swaps : List Swap) : Type 0 where
  pub each : AllByRecursion IsSwap swaps
  pub apart : AllPairs (λ a b. a.port ≢ b.port) swaps

-- a line can express the event: its numbers are in the ranges of a line, its nodes and links are the network's, and it
-- has one drift for each node and one move for each link
abbrev pub IsEventOf : NetCfg → Event → Type 0
IsEventOf cfg (Pass dt drifts fibres) = IsPass cfg dt drifts.items fibres.items
IsEventOf cfg (Tick node) = node < node_count cfg
IsEventOf cfg (Sample node base bits) = (node < node_count cfg) × (base ≤ 16_383)
IsEventOf cfg (Depart node port stamp) = (node < node_count cfg) × IsTime stamp
IsEventOf cfg (Arrive frame raw) = IsRaw raw
IsEventOf cfg (Deliver frame) = Unit {0}
IsEventOf cfg (Noise node port octets raw) = (node < node_count cfg) × IsRaw raw
IsEventOf cfg (Down node) = node < node_count cfg
IsEventOf cfg (Up node off swaps) =
    (node < node_count cfg) × (unsigned_abs off ≤ 2 ^ 90) × AreSwaps swaps.items
IsEventOf cfg (Cut link) = link < link_count cfg
IsEventOf cfg (Join link ms sm) =
    (link < link_count cfg) × IsFromTo 0 9_223_372_036_854_775_807 ms
    × IsFromTo 0 9_223_372_036_854_775_807 sm

-- the event's numbers fit the types that hold them
abbrev pub FitsEvent : Event → Type 0
FitsEvent (Sample node base bits) = bits < 2 ^ 64
FitsEvent (Depart node port stamp) = port < 2 ^ 16
FitsEvent (Arrive frame raw) = frame < 2 ^ 32
FitsEvent (Deliver frame) = frame < 2 ^ 32
FitsEvent (Noise node port octets raw) =
    (port < 2 ^ 16) × (AreOctets octets.items × (length octets.items ≤ 256))
FitsEvent (Up node off swaps) = length swaps.items ≤ 18
FitsEvent _ = Unit {0}
