use Rattle.std.proofs.Common.{◌∙◌, sym, ap, slice_get, ◌==◌}
use Rattle.wrp_network.specs.declared.configuration.NetCfg.{NetCfg}
use Rattle.wrp_course.specs.declared.event.Event.TheVariants.{Up}
use Rattle.wrp_course.specs.Moved.{moved, swap_at}
use Rattle.wrp_premises.specs.Tried.{delays_after}
use Rattle.wrp_plant.specs.Plant.{delays_in}
use Rattle.wrp_premises.proofs.TriedFibres.{up_with}
use Rattle.wrp_premises.proofs.tries.fibres.swapped_fibre_broken.Goals as goal

pub returns : goal.returns
returns c s w off h =
    c.delays_broken.ensures s w (moved s w (Up c.args.n off c.args.swaps.now)) h
    (up_with s w c.args.k c.args.n off c.args.swaps.now c.span-span.result.now c.link_cfg-link.result.now c.delays_at-master.result c.delays_at-slave.result
    (h.spans c.args.k c.span-span.result.now c.span-span.ensures.value)
    (ap (λ (cfg : NetCfg). slice_get cfg.links.items c.args.k) (sym h.cfg) ∙ c.link_cfg-link.ensures.value)
    (c.delays_at-master.ensures
    ∙ ap (λ xs. delays_after (c.link_cfg-link.result.now.upper == c.args.n) (swap_at c.link_cfg-link.result.now.upper_port xs) (delays_in c.span-span.result.now.master)) c.as_slice.ensures.value)
    (c.delays_at-slave.ensures
    ∙ ap (λ xs. delays_after (c.link_cfg-link.result.now.lower == c.args.n) (swap_at c.link_cfg-link.result.now.lower_port xs) (delays_in c.span-span.result.now.slave)) c.as_slice-2.ensures.value))
