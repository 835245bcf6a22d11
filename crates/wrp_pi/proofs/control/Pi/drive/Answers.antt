-- Each number on the way is the exact one, since it fits.
use Rattle.std.proofs.Common.{pos, ◌+ℤ◌, ◌*ℤ◌, w64, w32, ◌∙◌, ap}
use Rattle.std.proofs.lemmas.Int.{to_z-of_z}
use Rattle.std.specs.Int.{w128}
use Rattle.wrp_base.specs.Division.{floor_quotient}
use Rattle.wrp_pi.specs.Loop.{Loop, drive}
use Rattle.wrp_pi.proofs.control.Pi.drive.Goals as goal

pub returns : goal.returns
returns c =
    let raised = to_z-of_z w128 c.from.result (record { sfits = c.from.type_inv }) ∙ c.from.ensures ∙ to_z-of_z w64 c.args.raised c.ranges.raised in
    let ki = to_z-of_z w128 c.from-2.result (record { sfits = c.from-2.type_inv }) ∙ c.from-2.ensures in
    let e = to_z-of_z w128 c.from-3.result (record { sfits = c.from-3.type_inv }) ∙ c.from-3.ensures ∙ to_z-of_z w32 c.args.e c.ranges.e in
    let kp = to_z-of_z w128 c.from-4.result (record { sfits = c.from-4.type_inv }) ∙ c.from-4.ensures in
    let bias = to_z-of_z w128 c.from-5.result (record { sfits = c.from-5.type_inv }) ∙ c.from-5.ensures in
    let integral = to_z-of_z w128 c.product-integral.result (record { sfits = c.product-integral.type_inv }) ∙ c.product-integral.ensures.value ∙ (λ i. raised i *ℤ ki i) in
    let proportional = to_z-of_z w128 c.product-proportional.result (record { sfits = c.product-proportional.type_inv }) ∙ c.product-proportional.ensures.value ∙ (λ i. e i *ℤ kp i) in
    let both = to_z-of_z w128 c.sum.result (record { sfits = c.sum.type_inv }) ∙ c.sum.ensures.value ∙ (λ i. integral i +ℤ proportional i) in
    let quotient = to_z-of_z w128 c.floor_div-quotient.result (record { sfits = c.floor_div-quotient.type_inv }) ∙ c.floor_div-quotient.ensures.value ∙ (λ i. floor_quotient (both i) (pos 4096)) in
    to_z-of_z w128 c.sum-2.result (record { sfits = c.sum-2.type_inv }) ∙ c.sum-2.ensures.value ∙ (λ i. quotient i +ℤ bias i)
    ∙ ap (λ (v : Loop). drive v.gains c.args.raised c.args.e) c.self.view_is

pub sum-requires-clause-a : goal.sum-requires-clause-a
sum-requires-clause-a c = rw (to_z-of_z w128 c.product-integral.result (record { sfits = c.product-integral.type_inv })) c.product-integral.ensures.size

pub sum-requires-clause-b : goal.sum-requires-clause-b
sum-requires-clause-b c = rw (to_z-of_z w128 c.product-proportional.result (record { sfits = c.product-proportional.type_inv })) c.product-proportional.ensures.size
