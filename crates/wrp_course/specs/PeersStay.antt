-- How each end of a link stays in the handshake that the other relies on, after every event of every run (this project's
-- profile).
use Rattle.std.specs.Prelude.{◌≡◌, ℕ, ℤ, ◌≤ℤ◌, List, Some}
use Rattle.std.specs.List.{AllByRecursion}
use Rattle.wrp_base.specs.declared.link.LinkState.TheVariants.{Idle, Present, SLock}
use Rattle.wrp_base.specs.declared.link.Role.TheVariants.{Master, Slave}
use Rattle.wrp_base.specs.declared.message.WrMsg.TheVariants.{Lock as LOCK, Locked as LOCKED}
use Rattle.wrp_network.specs.declared.network.LinkCfg.{LinkCfg}
use Rattle.wrp_handshake_laws.specs.Laws.{Moved}
use Rattle.wrp_course.specs.LinkEnds.{port_at}
use Rattle.wrp_course.specs.Run.{Happened, world_after}
use Rattle.wrp_course.specs.Runs.{IsRun}
use Rattle.wrp_course.specs.Setting.{Setting, end_of, link_of}
use Rattle.wrp_course.specs.WorldAt.{WorldAt}

-- the two ends of a link of a world; a message that moved one of them in its present stretch is given with the true time
-- at which the other sent it
pub record PeersStay (s : Setting) (w : WorldAt) (k : ℕ) (link : LinkCfg) : Type 0 where
  -- from the LOCK that moved the slave on, the master begins no new stretch while the slave stays in its own: it left IDLE
  -- no later than it sent that LOCK
  pub master :
      (at : ℤ) → Moved (port_at s w k Slave (end_of Slave link)) LOCK at →
      AllByRecursion (λ mark. mark.from ≡ Idle → mark.at ≤ℤ at) (w.end_at k Master).marks
  -- from the LOCKED that moved the master on, the slave comes from PRESENT to S_LOCK in no other stretch while the master
  -- stays in its own: it did so no later than it sent that LOCKED
  pub slave :
      (at : ℤ) → Moved (port_at s w k Master (end_of Master link)) LOCKED at →
      AllByRecursion (λ mark. mark.from ≡ Present → mark.to ≡ SLock → mark.at ≤ℤ at) (w.end_at k Slave).marks

-- this holds of each link, after every event of every run
abbrev pub PeersStayInTheHandshake : Type 0
PeersStayInTheHandshake =
    (s : Setting) (events : List Happened) (k : ℕ) (link : LinkCfg) → IsRun s events → link_of s k ≡ Some link →
    PeersStay s (world_after s events) k link
