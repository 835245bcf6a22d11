use Rattle.std.proofs.Common.{◌≡◌, ◌+◌, ◌*◌, refl, ap, arith}
use Rattle.wrp_course.specs.Given.{goes_from}
use Rattle.wrp_changes.specs.Giving.{at_numbers}
use Rattle.wrp_course.specs.Setting.{from_on}
use Rattle.wrp_changes.proofs.Carried.{ports_more}
use Rattle.wrp_changes.proofs.Listing.{adds_as, adds_none}
use Rattle.wrp_changes.proofs.giving.down.goes_at_ports.Goals as goal

pub loop-i-init : goal.loop-i-init
loop-i-init c = adds_none c.args.plant.now 0 _ _ (λ s w h. refl)

pub loop-i-preserved : goal.loop-i-preserved
loop-i-preserved c = ports_more c.args.plant.now (λ s w. w) (λ s w. goes_from s) c.args.n c.loop-i.i (c.loop-i.i + 1) _ _ _ refl c.loop-i.invariant c.in_ok-goes_at_port.ensures

pub returns : goal.returns
returns c =
    let last : c.loop-i.i ≡ 18 = omega arith in
    adds_as c.args.plant.now (2 * c.loop-i.i) 36 _ _ _ _ (omega (arith, last)) (λ s w h. ap (λ k. at_numbers s w (goes_from s) c.args.n (from_on k 1)) last) c.loop-i.invariant
