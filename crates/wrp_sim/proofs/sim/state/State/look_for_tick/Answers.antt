use Rattle.std.proofs.Common.{◌≤◌, ◌∙◌, ap, sym, find, ℕ, length, arith}
use Rattle.wrp_course.specs.Setting.{from_on}
use Rattle.wrp_sim.specs.Rules.{ticks_now}
use Rattle.wrp_sim.proofs.NextMoments.{skips_ticks}
use Rattle.wrp_sim.proofs.Seen.{nodes_are}
use Rattle.wrp_sim.proofs.SimLists.{find_end, found_at, passed_at}
use Rattle.wrp_sim.proofs.sim.state.State.look_for_tick.Goals as goal

pub loop-n-init : goal.loop-n-init
loop-n-init g c s w at h i =
    let count : c.node_count-count.result ≤ length c.args.self.now.tick_at =
    omega (arith, c.node_count-count.ensures.value, c.requires.valid.node_count, c.requires.fits.ticks) in
    skips_ticks w at c.args.self.now.tick_at c.node_count-count.result c.args.start count i.ticks (c.requires.earlier s w h)

pub returns-then-ticks_now-clause-value : goal.returns-then-ticks_now-clause-value
returns-then-ticks_now-clause-value g c s w at h i =
    sym (found_at (ticks_now w at) c.node_count-count.result c.loop-n.n c.loop-n-test.true (sym (c.ticks_now.ensures s w at h i) ∙ c.if-ticks_now.true))
    ∙ c.loop-n.invariant s w at h i
    ∙ ap (λ (n : ℕ). find (ticks_now w at) (from_on n 0)) c.node_count-count.ensures.value
    ∙ ap (find (ticks_now w at)) (nodes_are _ _ s w c.args.world.now c.requires.valid h)

pub loop-n-preserved : goal.loop-n-preserved
loop-n-preserved g c s w at h i =
    sym (passed_at (ticks_now w at) c.node_count-count.result c.loop-n.n c.loop-n-test.true (sym (c.ticks_now.ensures s w at h i) ∙ c.if-ticks_now.false))
    ∙ c.loop-n.invariant s w at h i

pub returns-clause-value : goal.returns-clause-value
returns-clause-value g c s w at h i =
    sym (find_end (ticks_now w at) c.node_count-count.result c.loop-n.n c.loop-n-test.false)
    ∙ c.loop-n.invariant s w at h i
    ∙ ap (λ (n : ℕ). find (ticks_now w at) (from_on n 0)) c.node_count-count.ensures.value
    ∙ ap (find (ticks_now w at)) (nodes_are _ _ s w c.args.world.now c.requires.valid h)
