use Rattle.std.proofs.Common.{◌≡◌, ◌∙◌, ap, ℤ, drop, length, map, arith}
use Rattle.std.proofs.lemmas.Int.{to_z-of_z}
use Rattle.std.proofs.lemmas.List.{take_at}
use Rattle.std.specs.Int.{w64}
use Rattle.wrp_course.specs.Setting.{nodes_of}
use Rattle.wrp_sim.specs.Rules.{drift_over}
use Rattle.wrp_sim.proofs.sim.state.State.put_drifts.Goals as goal

pub returns : goal.returns
returns g c s w h =
    let count : length c.put_each.new.drifts ≡ length c.make_room.new.drifts.items =
    omega (arith, c.put_each.auto.drifts, ap length c.as_mut_slice.ensures.value) in
    take_at c.put_each.new.drifts (drop (length c.put_each.new.drifts) c.make_room.new.drifts.items) (length c.make_room.new.drifts.items) count
    ∙ c.put_each.ensures s w h
    ∙ ap (λ (t : ℤ). map (drift_over c.args.self.now.scene s w t) (nodes_of s)) (to_z-of_z w64 c.args.dt c.ranges.dt)
