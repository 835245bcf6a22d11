-- The sum so far and what is left make the path, link by link.
use Rattle.std.proofs.Common.{arith, sym}
use Rattle.wrp_bounds.specs.Bounds.{path_of}
use Rattle.wrp_bounds.proofs.WayUp.{sum_on, sum_at_top, sum_at_end}
use Rattle.wrp_bounds.proofs.bounds.path_sum.Goals as goal

pub loop-passed-init : goal.loop-passed-init
unfolding path_of
loop-passed-init c = record { sum = omega arith; node = c.requires.node; size = omega arith }

pub loop-passed-preserved : goal.loop-passed-preserved
loop-passed-preserved c = record {
  sum = sum_on c.args.cfg.now c.loop-passed.at c.in-Some.link.now c.loop-passed.passed c.loop-passed.sum c.hop_over.result c.held_motion.result _ c.loop-passed-test.true c.loop-passed.invariant.sum c.in-Some.ensures.value c.hop_over.ensures.value c.held_motion.ensures.value;
  node = c.in-Some.ensures.placed.upper;
  size = omega (arith, c.hop_over.ensures.size, c.held_motion.ensures.size);
}

pub returns-in-None-clause-value : goal.returns-in-None-clause-value
returns-in-None-clause-value c =
    sum_at_top c.args.cfg.now c.loop-passed.at _ c.loop-passed.sum _ c.loop-passed.invariant.sum (sym c.in-None.ensures.value)

pub returns-clause-value : goal.returns-clause-value
returns-clause-value c =
    sum_at_end c.args.cfg.now c.loop-passed.at c.loop-passed.passed c.loop-passed.sum _ c.loop-passed-test.false c.loop-passed.invariant.sum
