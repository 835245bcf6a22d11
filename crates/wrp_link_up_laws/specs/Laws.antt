-- A link with good delivery comes up within a stated time of its carriers. This project's profile.
use Rattle.std.specs.Prelude.{◌≡◌, ℕ, ℤ, pos, ◌+ℤ◌, ◌<ℤ◌, true, List, ◌∷◌, ◌++◌, Some}
use Rattle.wrp_base.specs.declared.link.LinkState.TheVariants.{LinkOn}
use Rattle.wrp_base.specs.declared.link.Module.{Module}
use Rattle.wrp_link.specs.declared.interface.LinkSet.{LinkSet}
use Rattle.wrp_handshake_laws.specs.Ends.{BothPorts, Change, Lights, AllMayCome, OutlivesFrames, ends_after, new_ends}
use Rattle.wrp_link_up_laws.specs.Pace.{Pace, Outlasts, OutlastsInTurn, IsGood, AllInTurn, time_to_up, time_in_turn}

-- a link from its first change on, with all that happens before its carriers come and since, the newest first
pub record LinkRun : Type 0 where
  -- the counts of either end, and the modules in place there, both listed
  pub of_master : LinkSet
  pub of_slave : LinkSet
  pub at_master : Module
  pub at_slave : Module
  pub start : ℤ
  pub before : List Change
  pub since : List Change

-- the carriers come at both ends
abbrev pub lights : LinkRun → Change
lights run = Lights (Some run.at_master) (Some run.at_slave)

-- the ends before anything happened
abbrev pub new : LinkRun → BothPorts
new run = new_ends run.of_master run.of_slave run.start

-- all that happens, the newest first
abbrev pub changes : LinkRun → List Change
changes run = run.since ++ lights run ∷ run.before

-- the ends before the carriers come, as they came, and after all
abbrev pub dark : LinkRun → BothPorts
dark run = ends_after (new run) run.before

abbrev pub lit : LinkRun → BothPorts
lit run = ends_after (new run) (lights run ∷ run.before)

abbrev pub last : LinkRun → BothPorts
last run = ends_after (new run) (changes run)

-- what both laws require: White Rabbit at both ends, quiet times that outlive two frames, changes that may come, and
-- good delivery since the carriers came
pub record IsServed (life dmin : ℕ) (pace : Pace) (run : LinkRun) : Type 0 where
  pub master_wr : run.of_master.wr ≡ true
  pub slave_wr : run.of_slave.wr ≡ true
  pub master_quiet : OutlivesFrames life dmin run.of_master
  pub slave_quiet : OutlivesFrames life dmin run.of_slave
  pub come : AllMayCome life dmin (new run) (changes run)
  pub good : IsGood pace (lit run) run.since

-- the timers of both ends outlast what they wait for
pub record BothOutlast (dmin : ℕ) (pace : Pace) (run : LinkRun) : Type 0 where
  pub master : Outlasts dmin pace run.of_master run.of_slave
  pub slave : Outlasts dmin pace run.of_slave run.of_master

-- the same if no CALIBRATED overtakes a CALIBRATE, as it is since the carriers came
pub record BothInTurn (dmin : ℕ) (pace : Pace) (run : LinkRun) : Type 0 where
  pub master : OutlastsInTurn dmin pace run.of_master
  pub slave : OutlastsInTurn dmin pace run.of_slave
  pub in_turn : AllInTurn (lit run) run.since

-- more than this time passed since the carriers came
abbrev pub IsPast : LinkRun → ℕ → Type 0
IsPast run time = ((dark run).time +ℤ pos time) <ℤ (last run).time

-- both ends of a link are in WR_LINK_ON
pub record IsUp (ends : BothPorts) : Type 0 where
  pub master : ends.master.link.state ≡ LinkOn
  pub slave : ends.slave.link.state ≡ LinkOn

-- a link that is served well is up once more than the stated time passed, and at each later moment for as long as it is
-- served well
abbrev pub ComesUp : Type 0
ComesUp =
    (life dmin : ℕ) (pace : Pace) (run : LinkRun) →
    IsServed life dmin pace run →
    BothOutlast dmin pace run →
    IsPast run (time_to_up pace run.of_master run.of_slave) →
    IsUp (last run)

-- if no CALIBRATED overtakes a CALIBRATE it is up sooner, and needs no retries
abbrev pub ComesUpInTurn : Type 0
ComesUpInTurn =
    (life dmin : ℕ) (pace : Pace) (run : LinkRun) →
    IsServed life dmin pace run →
    BothInTurn dmin pace run →
    IsPast run (time_in_turn pace run.of_master run.of_slave) →
    IsUp (last run)
