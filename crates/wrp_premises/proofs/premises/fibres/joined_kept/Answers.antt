use Rattle.std.proofs.Common.{◌≡◌, ◌∙◌, ap, ap₂, sym, ◌∷◌, [], ℤ, pos, ◌≤◌, ◌^◌, unsigned_abs, to_z, of_z, FitsSigned, arith}
use Rattle.std.proofs.lemmas.Int.{ints, to_z-of_z}
use Rattle.std.specs.Int.{w64, w128}
use Rattle.std.specs.Int.Signed.{lt_z}
use Rattle.wrp_course.specs.Checks.{told_of, at_least, at_most, size_of}
use Rattle.wrp_course.specs.Premises.{asymmetry}
use Rattle.wrp_premises.proofs.JoinedLinks.{ms_low, sm_low, down_long, up_long, both_short, last_check}
use Rattle.wrp_plant.proofs.SignedReads.{read}
use Rattle.wrp_premises.proofs.premises.fibres.joined_kept.Goals as goal

kappa : (k : ℤ) → unsigned_abs k ≤ 2 ^ 38 → to_z w64 (of_z w64 k) ≡ k
kappa k limit =
    let fits : FitsSigned w64 k = omega (arith, ints) in
    to_z-of_z w64 k fits

pub returns-then-fibre-lt0 : goal.returns-then-fibre-lt0
returns-then-fibre-lt0 c =
    let ms = read c.args.fibre.now.ms (omega (arith, c.requires.ms)) in
    ms_low c.args.most c.args.fibre.now c.args.down c.args.up c.args.link.now c.at_least.result
    (sym (ap (λ z. lt_z z (pos 0)) ms) ∙ c.if-fibre-lt0.true)
    (c.at_least.ensures ∙ ap (λ z. told_of (at_least 5 z (pos 0) ∷ [])) ms)

pub returns-then-fibre-lt0-2 : goal.returns-then-fibre-lt0-2
returns-then-fibre-lt0-2 c =
    let ms = read c.args.fibre.now.ms (omega (arith, c.requires.ms)) in
    let sm = read c.args.fibre.now.sm (omega (arith, c.requires.sm)) in
    sm_low c.args.most c.args.fibre.now c.args.down c.args.up c.args.link.now c.at_least-then-fibre-lt0-2.result
    (sym (ap (λ z. lt_z z (pos 0)) ms) ∙ c.if-fibre-lt0.false)
    (sym (ap (λ z. lt_z z (pos 0)) sm) ∙ c.if-fibre-lt0-2.true)
    (c.at_least-then-fibre-lt0-2.ensures ∙ ap (λ z. told_of (at_least 5 z (pos 0) ∷ [])) sm)

pub returns-then-most-down : goal.returns-then-most-down
returns-then-most-down c =
    let ms = read c.args.fibre.now.ms (omega (arith, c.requires.ms)) in
    let sm = read c.args.fibre.now.sm (omega (arith, c.requires.sm)) in
    let most = read c.args.most (omega (arith, c.requires.most)) in
    let down = read c.args.down (omega (arith, c.requires.sizes.0)) in
    down_long c.args.most c.args.fibre.now c.args.down c.args.up c.args.link.now c.at_most.result
    (sym (ap (λ z. lt_z z (pos 0)) ms) ∙ c.if-fibre-lt0.false)
    (sym (ap (λ z. lt_z z (pos 0)) sm) ∙ c.if-fibre-lt0-2.false)
    (sym (ap₂ (λ y z. lt_z y z) most down) ∙ c.if-most-down.true)
    (c.at_most.ensures ∙ ap₂ (λ z y. told_of (at_most 5 z y ∷ [])) down most)

pub returns-then-most-up : goal.returns-then-most-up
returns-then-most-up c =
    let ms = read c.args.fibre.now.ms (omega (arith, c.requires.ms)) in
    let sm = read c.args.fibre.now.sm (omega (arith, c.requires.sm)) in
    let most = read c.args.most (omega (arith, c.requires.most)) in
    let down = read c.args.down (omega (arith, c.requires.sizes.0)) in
    let up = read c.args.up (omega (arith, c.requires.sizes.1)) in
    up_long c.args.most c.args.fibre.now c.args.down c.args.up c.args.link.now c.at_most-then-most-up.result
    (sym (ap (λ z. lt_z z (pos 0)) ms) ∙ c.if-fibre-lt0.false)
    (sym (ap (λ z. lt_z z (pos 0)) sm) ∙ c.if-fibre-lt0-2.false)
    (sym (ap₂ (λ y z. lt_z y z) most down) ∙ c.if-most-down.false)
    (sym (ap₂ (λ y z. lt_z y z) most up) ∙ c.if-most-up.true)
    (c.at_most-then-most-up.ensures ∙ ap₂ (λ z y. told_of (at_most 5 z y ∷ [])) up most)

pub returns : goal.returns
returns c =
    let ms = read c.args.fibre.now.ms (omega (arith, c.requires.ms)) in
    let sm = read c.args.fibre.now.sm (omega (arith, c.requires.sm)) in
    let most = read c.args.most (omega (arith, c.requires.most)) in
    let down = read c.args.down (omega (arith, c.requires.sizes.0)) in
    let up = read c.args.up (omega (arith, c.requires.sizes.1)) in
    both_short c.args.most c.args.fibre.now c.args.down c.args.up c.args.link.now c.at_most-2.result
    (sym (ap (λ z. lt_z z (pos 0)) ms) ∙ c.if-fibre-lt0.false)
    (sym (ap (λ z. lt_z z (pos 0)) sm) ∙ c.if-fibre-lt0-2.false)
    (sym (ap₂ (λ y z. lt_z y z) most down) ∙ c.if-most-down.false)
    (sym (ap₂ (λ y z. lt_z y z) most up) ∙ c.if-most-up.false)
    (last_check c.args.fibre.now c.args.link.now c.at_most-2.result _ _ c.at_most-2.ensures
    (to_z-of_z w128 c.size.result (record { sfits = c.size.type_inv }) ∙ c.size.ensures
    ∙ ap size_of (read c.asymmetry.result c.asymmetry.ensures.size ∙ c.asymmetry.ensures.value
    ∙ ap₂ (λ y z. asymmetry (to_z w64 (of_z w64 c.args.link.now.kappa)) y z) ms sm
    ∙ ap (λ k. asymmetry k c.args.fibre.now.ms c.args.fibre.now.sm) (kappa c.args.link.now.kappa c.requires.link.kappa)))
    (to_z-of_z w128 c.slack.result (record { sfits = c.slack.type_inv }) ∙ c.slack.ensures))
