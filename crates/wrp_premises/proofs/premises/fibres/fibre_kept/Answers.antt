use Rattle.std.proofs.Common.{◌∙◌, ap, ap₂, to_z, of_z, arith}
use Rattle.std.specs.Int.{w128}
use Rattle.wrp_course.specs.Checks.{told_of}
use Rattle.wrp_course.specs.Premises.{fibre_by}
use Rattle.wrp_plant.proofs.SignedReads.{read}
use Rattle.wrp_course.proofs.Told.{made_where}
use Rattle.wrp_premises.proofs.premises.fibres.fibre_kept.Goals as goal

pub returns-then-fibre : goal.returns-then-fibre
returns-then-fibre c =
    let most = read c.args.most (omega (arith, c.requires.most)) in
    let down = read c.args.down (omega (arith, c.requires.sizes.0)) in
    let up = read c.args.up (omega (arith, c.requires.sizes.1)) in
    c.joined_kept.ensures
    ∙ ap₂ (λ d u. told_of (fibre_by (to_z w128 (of_z w128 c.args.most)) c.args.fibre.now d u c.args.link.now)) down up
    ∙ ap (λ m. told_of (fibre_by m c.args.fibre.now c.args.down c.args.up c.args.link.now)) most
    ∙ made_where c.args.fibre.now.joined (fibre_by c.args.most c.args.fibre.now c.args.down c.args.up c.args.link.now) c.if-fibre.true
