use Rattle.std.proofs.Common.{sym, subst, ℕ, List, [], ◌∷◌, arith, rules}
use Rattle.std.specs.List.{AllByRecursion}
use Rattle.wrp_base.proofs.Lists.{all_append}
use Rattle.arrayvec.specs.ArrayVec.{ArrayVec}
use Rattle.wrp_loop.specs.Calls.{Grew, IsFrame, taken_calls}
use Rattle.wrp_loop.proofs.Adding.{adds_one, cut_taken, stopped, taken_more, told_none, told_some}
use Rattle.wrp_loop.proofs.arrival.take_all.Goals as goal

pub returns-then-not-branch-clause-calls : goal.returns-then-not-branch-clause-calls
returns-then-not-branch-clause-calls g c =
    subst (Grew (g.N.Link.told c.args.link.now) (g.N.Link.told c.recv.new.self)) (sym (stopped c.args.to 16 c.taking.got.items (omega (arith, c.taking-test.true, c.len.ensures.value))))
    (adds_one _ _ _ _ _ c.taking.invariant.told (told_none _ _ _ _ _ c.if-not-branch.true c.in_ok-recv.ensures.tells))

pub taking-preserved : goal.taking-preserved
taking-preserved g c = record {
  few = search rules;
  frames = subst (AllByRecursion IsFrame) (search rules) (all_append IsFrame c.taking.got.items (c.recv.new.out ∷ []) c.taking.invariant.frames (c.frame_fits.ensures, tt));
  told = subst (λ (got : List (ArrayVec ℕ)). Grew (g.N.Link.told c.args.link.now) (g.N.Link.told c.recv.new.self) (taken_calls c.args.to got)) (search rules)
      (subst (Grew (g.N.Link.told c.args.link.now) (g.N.Link.told c.recv.new.self)) (sym (taken_more c.args.to c.taking.got.items c.recv.new.out))
      (adds_one _ _ _ _ _ c.taking.invariant.told (told_some c.args.to _ c.recv.new.out _ _ c.if-not-branch.false c.in_ok-recv.ensures.tells)));
  faults = search rules;
}

pub returns-in_err-recv-clause-cut : goal.returns-in_err-recv-clause-cut
returns-in_err-recv-clause-cut g c =
    cut_taken _ c.args.to c.taking.got.items _ _ _ c.taking.invariant.told c.in_err-recv.ensures.tells (omega (arith, c.taking-test.true, c.len.ensures.value)) c.taking.invariant.frames
