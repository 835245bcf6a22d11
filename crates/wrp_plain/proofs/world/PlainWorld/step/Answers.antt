-- What an accepted event gives is true.
use Rattle.std.proofs.Common.{◌≡◌, None, ap, ◌∙◌, sym, subst, rules}
use Rattle.wrp_plain.specs.declared.event.PlainSeen.{PlainSeen}
use Rattle.wrp_plain.specs.Measurement.{HasRanges}
use Rattle.wrp_plain.specs.Premises.{broken_by}
use Rattle.wrp_plain.specs.World.{WorldAt, TellsTruth}
use Rattle.wrp_plain.proofs.Worth.{tells_truth}
use Rattle.wrp_plain.proofs.History.{kept_after}
use Rattle.wrp_plain.proofs.world.PlainWorld.step.Goals as goal

pub returns-clause-truth : goal.returns-clause-truth
returns-clause-truth c set off events had =
    let kept : broken_by c.args.self.now.servo.set c.args.self.now.off c.args.self.now.since c.args.e.now ≡ None = search rules in
    let same : c.self.inside.servo.set ≡ set = ap (λ (w : WorldAt). w.servo.set) c.self.view_is ∙ had.servo.set_is in
    let P : PlainSeen → Type 0 = λ s. TellsTruth set events c.args.e.now s in
    subst P (sym (c.take.ensures.seen set off events had))
    (tells_truth set off events (subst HasRanges same c.self.invariant.0) had.accepted c.args.e.now c.requires.fields
    (kept_after set off events c.args.self.now c.args.e.now had kept))
