-- A link of a world that is served well comes up within a stated time of its carriers, in every run (this project's profile).
use Rattle.std.specs.Prelude.{◌≡◌, ℕ, pos, ◌+◌, ◌*◌, ◌+ℤ◌, ◌<ℤ◌, unsigned_abs, true, false, List, [], Some}
use Rattle.wrp_base.specs.declared.link.LinkState.TheVariants.{LinkOn}
use Rattle.wrp_base.specs.declared.link.Module.{Module}
use Rattle.wrp_base.specs.declared.link.Role.{Role}
use Rattle.wrp_bounds.specs.Times.{shortest_tick, longest_tick}
use Rattle.wrp_link.specs.declared.interface.LinkSet.{LinkSet}
use Rattle.wrp_link_up_laws.specs.Pace.{Pace, Outlasts, OutlastsInTurn, time_to_up, time_in_turn}
use Rattle.wrp_node.specs.Set.{link_set_of}
use Rattle.wrp_course.specs.LinkEnds.{in_place}
use Rattle.wrp_course.specs.Run.{Happened, world_after}
use Rattle.wrp_course.specs.Runs.{IsRun}
use Rattle.wrp_course.specs.SameHandshake.{state_at}
use Rattle.wrp_course.specs.Setting.{link_of}
use Rattle.wrp_course.specs.WorldAt.{has_carrier}
use Rattle.wrp_comes_up_laws.specs.Served.{Throughout, InTurn, IsServed, Beginning, LongestWaits, events_of, world_of}

-- the carriers of a White Rabbit link of the network come, with modules that are listed at both ends
pub record IsLit (l : Beginning) : Type 0 where
  pub there : link_of l.s l.k ≡ Some l.link
  pub wr : l.link.wr ≡ true
  pub dark : has_carrier l.s (world_after l.s l.before) l.k ≡ false
  pub listed : (role : Role) → (own : Module) × (in_place l.s (world_of l []) l.k role ≡ Some own)

-- the ticks from an Announce of a master to its next
abbrev pub announces_each : Beginning → ℕ
announces_each l = unsigned_abs l.s.cfg.announce

-- the longest waits of the link by itself, in tau: the premise on ticks gives dmax, and the master's schedule how
-- soon an offer comes
abbrev pub pace_of : Beginning → LongestWaits → Pace
pace_of l waits =
    record {
      dmax = longest_tick l.s.cfg;
      delay = waits.delay;
      announce = announces_each l * longest_tick l.s.cfg + waits.delay;
      lock = waits.lock;
    }

-- the counts of both ends
abbrev pub counts_of : Beginning → LinkSet
counts_of l = link_set_of l.s.cfg

-- more than this time passed since the carriers came
abbrev pub IsPast : Beginning → List Happened → ℕ → Type 0
IsPast l since time = ((world_of l []).time +ℤ pos time) <ℤ (world_of l since).time

-- both ends of the link are in WR_LINK_ON
pub record IsUp (l : Beginning) (since : List Happened) : Type 0 where
  pub master : state_at l.s (world_of l since) l.link.upper l.link.upper_port ≡ LinkOn
  pub slave : state_at l.s (world_of l since) l.link.lower l.link.lower_port ≡ LinkOn

-- a link that is served well is up once more than the stated time passed, and after each later event for as long as it
-- is served well
abbrev pub ComesUp : Type 0
ComesUp =
    (l : Beginning) (since : List Happened) (waits : LongestWaits) →
    IsRun l.s (events_of l since) → IsLit l →
    Throughout (IsServed waits l) since →
    Outlasts (shortest_tick l.s.cfg) (pace_of l waits) (counts_of l) (counts_of l) →
    IsPast l since (time_to_up (pace_of l waits) (counts_of l) (counts_of l)) →
    IsUp l since

-- if no CALIBRATED overtakes a CALIBRATE it is up sooner, and needs no retries
abbrev pub ComesUpInTurn : Type 0
ComesUpInTurn =
    (l : Beginning) (since : List Happened) (waits : LongestWaits) →
    IsRun l.s (events_of l since) → IsLit l →
    Throughout (IsServed waits l) since →
    Throughout (InTurn l) since →
    OutlastsInTurn (shortest_tick l.s.cfg) (pace_of l waits) (counts_of l) →
    IsPast l since (time_in_turn (pace_of l waits) (counts_of l) (counts_of l)) →
    IsUp l since

-- both times in the counts of the network file
pub record TimesAre (l : Beginning) (waits : LongestWaits) : Type 0 where
  pub any_order :
      time_to_up (pace_of l waits) (counts_of l) (counts_of l)
      ≡ ((counts_of l).quiet + 2 * (counts_of l).wait + 2 + announces_each l) * longest_tick l.s.cfg + 7 * waits.delay + waits.lock
  pub in_turn :
      time_in_turn (pace_of l waits) (counts_of l) (counts_of l)
      ≡ ((counts_of l).quiet + 2 + announces_each l) * longest_tick l.s.cfg + 7 * waits.delay + waits.lock

abbrev pub TimesInCounts : Type 0
TimesInCounts = (l : Beginning) (waits : LongestWaits) → TimesAre l waits
