-- The world is new, and its laws are the laws of the links.
use Rattle.wrp_audit.proofs.NewAudit.{new_can, new_has}
use Rattle.wrp_audit.proofs.audit.AuditedNetwork.new.Goals as goal

pub returns-clause-ready : goal.returns-clause-ready
returns-clause-ready g c =
    new_can c.args.net c.args.laws.items _ c.requires.laws c.in_ok-world.ensures.valid c.in_ok-world.ensures.laws c.in_ok-world.ensures.net c.requires.emit c.in_ok-bounds.ensures

pub returns-clause-taken : goal.returns-clause-taken
returns-clause-taken g c =
    new_has c.args.net c.args.laws.items _ c.requires.laws c.requires.accepted.tree c.in_ok-world.ensures.stands c.in_ok-world.ensures.net

pub returns-clause-none : goal.returns-clause-none
returns-clause-none g c = c.in_ok-world.ensures.stands.plant.count

pub new-requires-clause-laws : goal.new-requires-clause-laws
new-requires-clause-laws g c = λ n law is. (c.requires.laws.each n law is).fits
