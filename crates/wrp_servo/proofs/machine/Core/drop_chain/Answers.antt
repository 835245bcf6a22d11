use Rattle.std.proofs.Common.{sym, subst, ap, ◌∙◌}
use Rattle.wrp_servo.specs.declared.machine.Core.{Core}
use Rattle.wrp_servo.specs.Sizes.{HasRoom}
use Rattle.wrp_servo.proofs.Rooms.{ended_room, ended_u}
use Rattle.wrp_servo.proofs.machine.Core.drop_chain.Goals as goal

pub returns-clause-room : goal.returns-clause-room
returns-clause-room c r = subst HasRoom (sym c.end.ensures) (ended_room c.args.self.now r)

pub returns-clause-u : goal.returns-clause-u
returns-clause-u c = ap (λ (v : Core). v.phase.u) c.end.ensures ∙ ended_u c.args.self.now
