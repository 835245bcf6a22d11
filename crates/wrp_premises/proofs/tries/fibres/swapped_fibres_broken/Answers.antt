use Rattle.std.proofs.Common.{◌∙◌, sym, ap, flat_map, length}
use Rattle.wrp_network.specs.declared.configuration.NetCfg.{NetCfg}
use Rattle.wrp_course.specs.Checks.{told_of}
use Rattle.wrp_course.specs.declared.event.Event.TheVariants.{Up}
use Rattle.wrp_course.specs.Moved.{moved}
use Rattle.wrp_course.specs.Premises.{fibre_kept}
use Rattle.wrp_course.specs.Setting.{from_on}
use Rattle.wrp_premises.proofs.Counting.{range_end, range_more}
use Rattle.wrp_course.proofs.Told.{ends, goes_on}
use Rattle.wrp_premises.proofs.tries.fibres.swapped_fibres_broken.Goals as goal

pub returns-in-Some : goal.returns-in-Some
returns-in-Some c s w off h =
    ends _ _ _ _ c.in-Some.breach (c.loop-k.invariant s w off h)
    (range_more (fibre_kept s (moved s w (Up c.args.n off c.args.swaps.now))) c.link_count-count.result c.loop-k.k c.loop-k-test.true)
    (sym (c.swapped_fibre_broken.ensures s w off h) ∙ c.in-Some.is)
    ∙ ap (λ n. told_of (flat_map (fibre_kept s (moved s w (Up c.args.n off c.args.swaps.now))) (from_on n 0)))
    (c.link_count-count.ensures ∙ ap (λ (cfg : NetCfg). length cfg.links.items) h.cfg)

pub loop-k-preserved : goal.loop-k-preserved
loop-k-preserved c s w off h =
    goes_on _ _ _ _ (c.loop-k.invariant s w off h)
    (range_more (fibre_kept s (moved s w (Up c.args.n off c.args.swaps.now))) c.link_count-count.result c.loop-k.k c.loop-k-test.true)
    (sym (c.swapped_fibre_broken.ensures s w off h) ∙ c.in_default.is)

pub returns : goal.returns
returns c s w off h =
    sym (range_end (fibre_kept s (moved s w (Up c.args.n off c.args.swaps.now))) c.link_count-count.result c.loop-k.k c.loop-k-test.false)
    ∙ c.loop-k.invariant s w off h
    ∙ ap (λ n. told_of (flat_map (fibre_kept s (moved s w (Up c.args.n off c.args.swaps.now))) (from_on n 0)))
    (c.link_count-count.ensures ∙ ap (λ (cfg : NetCfg). length cfg.links.items) h.cfg)
