-- What can take the lines of an audit (this project's profile).
use Rattle.std.specs.Prelude.{ℤ}
use Rattle.wrp_trace.specs.Places.{IsPlaceOf}
use Rattle.wrp_audit.specs.declared.audit_lines.AuditLines.{AuditLines}
use Rattle.wrp_audit.specs.AuditStands.{CanAudit}

-- its network can take an event, and its place can hold the network's events
pub record CanRead {F : Type 0} (pre : F → ℤ → Type 0) (post : F → ℤ → ℤ → Type 0)
    (held : AuditLines F) : Type 0 where
  pub network : CanAudit pre post held.network
  pub place : IsPlaceOf held.network.world.plant.net.cfg held.place
