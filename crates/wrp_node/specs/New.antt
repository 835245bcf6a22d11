-- A node before any input: what its settings have to meet, and what each of its ports is.
use Rattle.std.specs.Prelude.{◌≡◌, ◌≢◌, ℤ, pos, ◌≤◌, List, [], ◌∷◌, Option, None, Some}
use Rattle.std.specs.List.{AllByRecursion}
use Rattle.wrp_data.specs.Counters.{no_counts}
use Rattle.wrp_data.specs.declared.datasets.PortDs.{PortDs}
use Rattle.wrp_law.specs.Law.{LawOf}
use Rattle.wrp_node.specs.declared.interface.NodeSet.{NodeSet}
use Rattle.wrp_node.specs.declared.place.PortPlace.{PortPlace}
use Rattle.wrp_node.specs.NodeAt.{NodeSetting, setting_by}
use Rattle.wrp_port.specs.PortAt.{StandsFor as PortStandsFor}
use Rattle.wrp_servo.specs.Sizes.{FitsServoSet}

-- the ports are of different numbers
abbrev pub OfDifferentNumbers : List PortDs → Type 0
OfDifferentNumbers [] = Unit {0}
OfDifferentNumbers (ds ∷ ports) = AllByRecursion (λ other. other.own.port ≢ ds.own.port) ports × OfDifferentNumbers ports

-- each count that a port is set to is at least 1, and the ring has 1 to 4096 places
pub record FitsPorts (set : NodeSet) : Type 0 where
  pub quiet : 1 ≤ set.link.quiet
  pub wait : 1 ≤ set.link.wait
  pub lock_wait : 1 ≤ set.link.lock_wait
  pub announce : 1 ≤ set.sched.announce
  pub sync : 1 ≤ set.sched.sync
  pub delay : 1 ≤ set.sched.delay
  pub lease : 1 ≤ set.sched.lease
  pub ring_least : 1 ≤ set.ring
  pub ring_most : set.ring ≤ 4096

-- what a node may be set to: what its ports and its servo may, ports of different numbers, and at least one tick from one track report to the next
pub record FitsNodeSet (set : NodeSet) : Type 0 where
  pub ports : FitsPorts set
  pub servo : FitsServoSet set.servo
  pub numbers : OfDifferentNumbers set.ports.items
  pub report : 1 ≤ set.report

-- the least delay both ways, in tau, in the range of the law; 0 if there is no law
abbrev pub low_of : {F : Type 0} → Option (LawOf F) → ℤ
low_of None = pos 0
low_of (Some law) = law.lo

-- the greatest delay both ways, in tau, in the range of the law; 0 if there is no law
abbrev pub high_of : {F : Type 0} → Option (LawOf F) → ℤ
high_of None = pos 0
high_of (Some law) = law.hi

-- the setting of a node that is set to this, with this law
abbrev pub node_setting_of : {F : Type 0} → NodeSet → Option (LawOf F) → NodeSetting
node_setting_of set law = record { set = set; lo = low_of law; hi = high_of law }

-- a port that was given no input
pub record IsNewPlace (set : NodeSet) (ds : PortDs) (place : PortPlace) : Type 0 where
  pub number : place.number ≡ ds.own.port
  pub set_is : place.port.set ≡ setting_by set ds
  pub told : PortStandsFor place.port []
  pub counters : place.counters ≡ no_counts
