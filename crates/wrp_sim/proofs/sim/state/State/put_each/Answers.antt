use Rattle.std.proofs.Common.{rules, ◌≡◌, ◌∙◌, refl, ap, sym, ℕ, ℤ, ◌≤◌, length, map, take_all, to_z, of_z, FitsSigned, arith}
use Rattle.std.proofs.lemmas.Int.{to_z-of_z}
use Rattle.std.specs.Int.{w64}
use Rattle.wrp_course.specs.Setting.{from_on, nodes_of}
use Rattle.wrp_sim.specs.Rules.{drift_over}
use Rattle.wrp_sim.proofs.Seen.{nodes_are}
use Rattle.wrp_sim.proofs.SimLists.{take_next}
use Rattle.wrp_sim.proofs.sim.state.State.put_each.Goals as goal

pub loop-n-init : goal.loop-n-init
loop-n-init g c s w h = refl

pub loop-n-preserved : goal.loop-n-preserved
loop-n-preserved g c s w h =
    let fits : FitsSigned w64 c.drift.result = search rules in
    let dt : ℤ = to_z w64 (of_z w64 c.args.dt) in
    take_next (drift_over c.args.self.now.scene s w dt) c.loop-n.drifts c.loop-n.n (to_z w64 (of_z w64 c.drift.result)) (omega arith)
    (to_z-of_z w64 c.drift.result fits ∙ c.drift.ensures s w h ∙ ap (λ (n : ℕ). drift_over c.args.self.now.scene s w dt n) c.as_number.ensures)
    (c.loop-n.invariant s w h)

pub returns : goal.returns
returns g c s w h =
    let dt : ℤ = to_z w64 (of_z w64 c.args.dt) in
    let past : length c.loop-n.drifts ≤ c.loop-n.n = omega arith in
    let count : c.loop-n.n ≡ length c.args.world.now.nodes = omega (arith, c.requires.places) in
    sym (take_all c.loop-n.n c.loop-n.drifts past)
    ∙ c.loop-n.invariant s w h
    ∙ ap (λ (n : ℕ). map (drift_over c.args.self.now.scene s w dt) (from_on n 0)) count
    ∙ ap (map (drift_over c.args.self.now.scene s w dt)) (nodes_are _ _ s w c.args.world.now c.requires.valid h)
    ∙ ap (λ (t : ℤ). map (drift_over c.args.self.now.scene s w t) (nodes_of s)) (to_z-of_z w64 c.args.dt c.ranges.dt)
