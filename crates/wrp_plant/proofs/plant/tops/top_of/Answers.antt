use Rattle.std.proofs.Common.{◌∙◌, sym, arith, below_more}
use Rattle.wrp_plant.proofs.Grandmasters.{none_there, some_there, top_there}
use Rattle.wrp_plant.proofs.plant.tops.top_of.Goals as goal

pub loop-n-init : goal.loop-n-init
loop-n-init c m h = absurd (omega (arith, h))

pub loop-n-preserved : goal.loop-n-preserved
loop-n-preserved c = below_more _ _ c.loop-n.invariant (some_there _ (sym c.has_none_above.ensures ∙ c.if-has_none_above.false))

pub returns-then-has_none_above : goal.returns-then-has_none_above
returns-then-has_none_above c = (omega arith, none_there _ (sym c.has_none_above.ensures ∙ c.if-has_none_above.true))

pub unreachable-requires : goal.unreachable-requires
unreachable-requires c = top_there c.args.cfg.now c.requires (λ m h. c.loop-n.invariant m (omega (arith, h)))
