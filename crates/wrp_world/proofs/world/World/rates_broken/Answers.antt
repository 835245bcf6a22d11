use Rattle.std.proofs.Common.{◌∙◌, sym, ap, flat_map, length, to_z, of_z}
use Rattle.std.proofs.lemmas.Int.{to_z-of_z}
use Rattle.std.specs.Int.{w64}
use Rattle.wrp_network.specs.declared.configuration.NetCfg.{NetCfg}
use Rattle.wrp_course.specs.Checks.{told_of}
use Rattle.wrp_course.specs.Premises.{rate_kept}
use Rattle.wrp_course.specs.Setting.{from_on, nodes_of}
use Rattle.wrp_premises.proofs.Counting.{range_end, range_more}
use Rattle.wrp_course.proofs.Told.{ends, goes_on}
use Rattle.wrp_world.proofs.world.World.rates_broken.Goals as goal

pub returns-in-Some : goal.returns-in-Some
returns-in-Some g c s w h =
    ends _ _ _ _ c.in-Some.breach (c.loop-n.invariant s w h)
    (range_more (rate_kept s w (to_z w64 (of_z w64 c.args.dt)) c.args.drifts.now.items) c.node_count-count.result c.loop-n.n c.loop-n-test.true)
    (sym (c.rate_broken.ensures s w h) ∙ c.in-Some.is)
    ∙ ap (λ n. told_of (flat_map (rate_kept s w (to_z w64 (of_z w64 c.args.dt)) c.args.drifts.now.items) (from_on n 0)))
    (c.node_count-count.ensures.value ∙ c.requires.valid.node_count ∙ ap (λ (cfg : NetCfg). length cfg.nodes.items) h.plant.cfg)
    ∙ ap (λ t. told_of (flat_map (rate_kept s w t c.args.drifts.now.items) (nodes_of s))) (to_z-of_z w64 c.args.dt c.ranges.dt)

pub loop-n-preserved : goal.loop-n-preserved
loop-n-preserved g c s w h =
    goes_on _ _ _ _ (c.loop-n.invariant s w h)
    (range_more (rate_kept s w (to_z w64 (of_z w64 c.args.dt)) c.args.drifts.now.items) c.node_count-count.result c.loop-n.n c.loop-n-test.true)
    (sym (c.rate_broken.ensures s w h) ∙ c.in_default.is)

pub returns : goal.returns
returns g c s w h =
    sym (range_end (rate_kept s w (to_z w64 (of_z w64 c.args.dt)) c.args.drifts.now.items) c.node_count-count.result c.loop-n.n c.loop-n-test.false)
    ∙ c.loop-n.invariant s w h
    ∙ ap (λ n. told_of (flat_map (rate_kept s w (to_z w64 (of_z w64 c.args.dt)) c.args.drifts.now.items) (from_on n 0)))
    (c.node_count-count.ensures.value ∙ c.requires.valid.node_count ∙ ap (λ (cfg : NetCfg). length cfg.nodes.items) h.plant.cfg)
    ∙ ap (λ t. told_of (flat_map (rate_kept s w t c.args.drifts.now.items) (nodes_of s))) (to_z-of_z w64 c.args.dt c.ranges.dt)
