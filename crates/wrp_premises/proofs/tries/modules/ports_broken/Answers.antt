use Rattle.std.proofs.Common.{◌∙◌, sym, ap, ◌∷◌, []}
use Rattle.wrp_course.specs.Checks.{told_of}
use Rattle.wrp_course.specs.Premises.{swap_is_placed}
use Rattle.wrp_course.proofs.Told.{map_more, map_end, ends, goes_on}
use Rattle.wrp_premises.proofs.tries.modules.ports_broken.Goals as goal

pub returns-in-Some : goal.returns-in-Some
returns-in-Some c s w h =
    ends _ _ _ _ c.in-Some.breach (c.loop-swap.invariant s w h)
    (map_more (swap_is_placed s c.args.n) c.args.swaps.now c.loop-swap.swap-index c.swap-item.result c.loop-swap-test.true)
    (sym (c.port_broken.ensures s w h ∙ ap (λ x. told_of (swap_is_placed s c.args.n x ∷ [])) c.swap-item.is) ∙ c.in-Some.is)

pub loop-swap-preserved : goal.loop-swap-preserved
loop-swap-preserved c s w h =
    goes_on _ _ _ _ (c.loop-swap.invariant s w h)
    (map_more (swap_is_placed s c.args.n) c.args.swaps.now c.loop-swap.swap-index c.swap-item.result c.loop-swap-test.true)
    (sym (c.port_broken.ensures s w h ∙ ap (λ x. told_of (swap_is_placed s c.args.n x ∷ [])) c.swap-item.is) ∙ c.in_default.is)

pub returns : goal.returns
returns c s w h =
    sym (map_end (swap_is_placed s c.args.n) c.args.swaps.now c.loop-swap.swap-index c.loop-swap-test.false) ∙ c.loop-swap.invariant s w h
