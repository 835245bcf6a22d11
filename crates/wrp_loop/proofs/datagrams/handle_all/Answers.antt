-- One more is handled, or all were.
use Rattle.std.proofs.Common.{◌≡◌, ◌∙◌, ◌+◌, suc, refl, subst, true, Bool, arith, rules}
use Rattle.wrp_loop.specs.LoopStands.{HandledOne}
use Rattle.wrp_loop.proofs.Fates.{all_first, first_at, full_first, more_first, none_first}
use Rattle.wrp_loop.proofs.datagrams.handle_all.Goals as goal

pub loop-frame-init : goal.loop-frame-init
loop-frame-init g c = record {
  valid = c.requires.valid;
  fits = c.requires.fits;
  net = refl;
  laws = refl;
  sim = refl;
  few = omega arith;
  more = omega arith;
  handled = λ x k way carries. none_first _ x c.args.network.now c.args.course.now k way c.args.route c.args.got.now c.args.text.now.items carries;
}

pub handle-requires-clause-room : goal.handle-requires-clause-room
handle-requires-clause-room g c =
    let few = c.loop-frame.invariant.few in
    let most = c.requires.most in
    let room = c.requires.room in
    let test = c.loop-frame-test.true in
    omega (arith, few, most, room, test)

pub handle-requires-clause-carried : goal.handle-requires-clause-carried
handle-requires-clause-carried g c =
    let k = c.requires.carried in
    let first = c.loop-frame.invariant.handled k.0 k.1 k.2 k.3 in
    (k.0, first.now, k.2, first.carries)

pub loop-frame-preserved : goal.loop-frame-preserved
loop-frame-preserved g c =
    let goes : c.in_ok-handle.field-0 ≡ true = search rules in
    record {
      valid = c.handle.ensures.valid;
      fits = c.in_ok-handle.ensures.fits;
      net = c.handle.ensures.net ∙ c.loop-frame.invariant.net;
      laws = c.handle.ensures.laws ∙ c.loop-frame.invariant.laws;
      sim = c.handle.ensures.sim ∙ c.loop-frame.invariant.sim;
      few = let few = c.loop-frame.invariant.few in let one = c.handle.ensures.few in omega (arith, few, one);
      more = let more = c.loop-frame.invariant.more in let one = c.handle.ensures.more in omega (arith, more, one);
      handled = λ x k way carries.
          let first = c.loop-frame.invariant.handled x k way carries in
          first_at (λ f x y. g.F.Fn.post f (x, tt) y) x c.handle.new.network c.handle.new.course k way c.args.route c.args.got.now (suc c.loop-frame.frame-index) (c.loop-frame.frame-index + 1) c.args.text.now.items c.handle.new.text.items (omega arith)
          (more_first _ x c.loop-frame.network c.handle.new.network c.loop-frame.course c.handle.new.course k way c.args.route c.args.got.now c.loop-frame.frame-index c.frame-item.result _ _ _ c.loop-frame-test.true c.frame-item.is first
          (subst (λ (b : Bool). HandledOne (λ f x y. g.F.Fn.post f (x, tt) y) x c.handle.new.network c.handle.new.course first.now way c.args.route c.frame-item.result b c.loop-frame.text.items c.handle.new.text.items) goes
          (c.in_ok-handle.ensures.handled x first.now way first.carries)));
    }

pub returns-then-not-branch-clause-handled : goal.returns-then-not-branch-clause-handled
returns-then-not-branch-clause-handled g c = λ x k way carries.
    let first = c.loop-frame.invariant.handled x k way carries in
    full_first _ x c.loop-frame.network c.handle.new.network c.loop-frame.course c.handle.new.course k way c.args.route c.args.got.now c.loop-frame.frame-index c.frame-item.result _ _ _ c.loop-frame-test.true c.frame-item.is first
    (subst (λ (b : Bool). HandledOne (λ f x y. g.F.Fn.post f (x, tt) y) x c.handle.new.network c.handle.new.course first.now way c.args.route c.frame-item.result b c.loop-frame.text.items c.handle.new.text.items) c.if-not-branch.true
    (c.in_ok-handle.ensures.handled x first.now way first.carries))

pub returns-clause-handled : goal.returns-clause-handled
returns-clause-handled g c = λ x k way carries.
    all_first _ x c.loop-frame.network c.loop-frame.course k way c.args.route c.args.got.now c.loop-frame.frame-index _ _ c.loop-frame-test.false (c.loop-frame.invariant.handled x k way carries)
