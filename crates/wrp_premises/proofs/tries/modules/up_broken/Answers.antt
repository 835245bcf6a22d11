use Rattle.std.proofs.Common.{◌∙◌, sym, ap, ap₂, ◌∷◌, [], not, map, flat_map, arith}
use Rattle.std.specs.Option.{option_or}
use Rattle.wrp_course.specs.Checks.{told_of, needs}
use Rattle.wrp_course.specs.declared.event.Event.TheVariants.{Up}
use Rattle.wrp_course.specs.Moved.{moved}
use Rattle.wrp_course.specs.Premises.{fibre_kept, module_kept, swap_is_placed, true_at_top}
use Rattle.wrp_course.specs.Setting.{links_of}
use Rattle.wrp_premises.proofs.Counting.{told_five}
use Rattle.wrp_plant.proofs.SignedReads.{read}
use Rattle.wrp_premises.proofs.tries.modules.up_broken.Goals as goal

pub returns : goal.returns
returns c s w says h =
    c.or-4.ensures ∙ ap₂ option_or
    (c.or-3.ensures ∙ ap₂ option_or
    (c.or-2.ensures ∙ ap₂ option_or
    (c.or.ensures ∙ ap₂ option_or
    (c.top_broken-top.ensures s w h ∙ ap (λ o. told_of (true_at_top s c.args.n o ∷ [])) (read c.args.off (omega (arith, c.requires.off))))
    (c.swapped_fibres_broken-fibres.ensures s w c.args.off h))
    (c.modules_broken-modules.ensures s w h ∙ ap (λ xs. told_of (flat_map (module_kept s c.args.n) xs)) c.as_slice.ensures.value))
    (c.ports_broken-ports.ensures s w h ∙ ap (λ xs. told_of (map (swap_is_placed s c.args.n) xs)) c.as_slice-2.ensures.value))
    (c.up_again_broken-up.ensures s w h)
    ∙ sym (told_five (true_at_top s c.args.n c.args.off) (flat_map (fibre_kept s (moved s w (Up c.args.n c.args.off c.args.swaps.now))) (links_of s))
    (flat_map (module_kept s c.args.n) c.args.swaps.now.items) (map (swap_is_placed s c.args.n) c.args.swaps.now.items) (needs (not (w.clock c.args.n).up) ∷ []))
