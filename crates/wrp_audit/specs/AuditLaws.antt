-- What holds of every audit (this project's profile).
use Rattle.std.specs.Prelude.{◌≡◌, ℕ, List, Result}
use Rattle.wrp_base.specs.declared.message.PtpMsg.{PtpMsg}
use Rattle.wrp_frame.specs.declared.fault.FrameFault.{FrameFault}
use Rattle.wrp_course.specs.declared.event.Event.{Event}
use Rattle.wrp_course.specs.Premises.{checks_of}
use Rattle.wrp_course.specs.Run.{Happened, IsSaid, world_after}
use Rattle.wrp_course.specs.Setting.{Setting}
use Rattle.wrp_audit.specs.Audited.{IsAudit}
use Rattle.wrp_audit.specs.AuditText.{audit_lines, given_lines}
use Rattle.wrp_network_world.specs.Counts.{all_counts}

-- two runs write the same, leave the same counters, and try each event alike
pub record AreOneAudit (s : Setting) (events others : List Happened) : Type 0 where
  pub lines : audit_lines s events ≡ audit_lines s others
  pub given : (n : ℕ) → given_lines s n events ≡ given_lines s n others
  pub counts : all_counts s (world_after s events) ≡ all_counts s (world_after s others)
  pub tried :
      (e : Event) (a b : Result PtpMsg FrameFault) → IsSaid e a → IsSaid e b
      → checks_of s (world_after s events) a e ≡ checks_of s (world_after s others) b e

-- the same record lines have one run, whatever is noted apart from its octets and its measurements
abbrev pub OneAudit : Type 0
OneAudit =
    (s : Setting) (lines : List (List ℕ)) (events others : List Happened) →
    IsAudit s lines events → IsAudit s lines others → AreOneAudit s events others
