use Rattle.std.proofs.Common.{subst, ℤ, arith}
use Rattle.wrp_course.specs.declared.event.Event.TheVariants.{Depart}
use Rattle.wrp_changes.specs.Giving.{Gives, entries_of}
use Rattle.wrp_changes.proofs.Departing.{on_ok}
use Rattle.wrp_plant.proofs.SignedReads.{read}
use Rattle.wrp_changes.proofs.giving.list_departure.Goals as goal

pub returns : goal.returns
returns c =
    on_ok c.list.result c.list.ensures (λ h. h (Depart c.args.n c.args.port c.args.stamp)
    (subst (λ (z : ℤ). Gives c.args.plant.now (Depart c.args.n c.args.port z) (entries_of c.gift_of_departure.result))
    (read c.args.stamp (omega (arith, c.requires.stamp.greatest))) c.gift_of_departure.ensures))
