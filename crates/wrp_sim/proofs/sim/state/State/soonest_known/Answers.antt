use Rattle.std.proofs.Common.{◌∙◌, ap, ap₂, ℤ, fold, to_z, of_z, arith}
use Rattle.std.proofs.lemmas.Int.{ints, to_z-of_z}
use Rattle.std.proofs.lemmas.Option.{slice_get_within}
use Rattle.std.specs.Int.{w128}
use Rattle.wrp_network.specs.declared.configuration.NetCfg.{NetCfg}
use Rattle.wrp_network.specs.Network.{node_count}
use Rattle.wrp_plant.proofs.SignedReads.{read}
use Rattle.wrp_sim.specs.Rules.{sooner, tick_times}
use Rattle.wrp_sim.proofs.NextMoments.{soonest_known}
use Rattle.wrp_sim.proofs.sim.state.State.soonest_known.Goals as goal

pub returns-then-is_up_at-clause-value : goal.returns-then-is_up_at-clause-value
returns-then-is_up_at-clause-value g c s w at h i =
    read c.sooner.result (omega (arith, c.sooner.ensures.size)) ∙ c.sooner.ensures.value
    ∙ ap₂ (λ (x y : ℤ). sooner x y (to_z w128 (of_z w128 c.args.time))) (read c.args.now (omega (arith, c.requires.now))) (read c.args.other (omega (arith, c.requires.other)))
    ∙ ap (sooner c.args.now c.args.other) (to_z-of_z w128 c.args.time c.ranges.time)
    ∙ soonest_known s w at c.args.self.now.tick_at c.args.now c.args.other c.args.n c.args.time
    (c.requires.fits.ticks ∙ ap (λ (cfg : NetCfg). node_count cfg) h.plant.cfg) i.ticks c.requires.next
    (slice_get_within c.args.self.now.tick_at c.args.n c.args.time c.requires.next.there)
    (c.is_up_at.ensures s w h c.if-is_up_at.true) c.requires.later

pub returns-then-is_up_at-clause-later : goal.returns-then-is_up_at-clause-later
returns-then-is_up_at-clause-later g c =
    let now = read c.args.now (omega (arith, c.requires.now)) in
    let soonest = read c.sooner.result (omega (arith, c.sooner.ensures.size)) in
    omega (arith, ints, now, soonest, c.sooner.ensures.later)

pub returns-then-is_up_at-clause-most : goal.returns-then-is_up_at-clause-most
returns-then-is_up_at-clause-most g c =
    let other = read c.args.other (omega (arith, c.requires.other)) in
    let soonest = read c.sooner.result (omega (arith, c.sooner.ensures.size)) in
    omega (arith, ints, other, soonest, c.sooner.ensures.most)

pub returns-else-is_up_at-clause-value : goal.returns-else-is_up_at-clause-value
returns-else-is_up_at-clause-value g c s w at h i =
    read c.soonest_of_all.result (omega (arith, c.soonest_of_all.ensures.size)) ∙ c.soonest_of_all.ensures.value s w at h i
    ∙ ap₂ (λ (t b : ℤ). fold (sooner t) b (tick_times s w at)) (read c.args.now (omega (arith, c.requires.now))) (read c.args.other (omega (arith, c.requires.other)))

pub returns-else-is_up_at-clause-later : goal.returns-else-is_up_at-clause-later
returns-else-is_up_at-clause-later g c =
    let now = read c.args.now (omega (arith, c.requires.now)) in
    let soonest = read c.soonest_of_all.result (omega (arith, c.soonest_of_all.ensures.size)) in
    omega (arith, ints, now, soonest, c.soonest_of_all.ensures.later)

pub returns-else-is_up_at-clause-most : goal.returns-else-is_up_at-clause-most
returns-else-is_up_at-clause-most g c =
    let other = read c.args.other (omega (arith, c.requires.other)) in
    let soonest = read c.soonest_of_all.result (omega (arith, c.soonest_of_all.ensures.size)) in
    omega (arith, ints, other, soonest, c.soonest_of_all.ensures.most)
