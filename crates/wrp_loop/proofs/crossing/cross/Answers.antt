-- The frame flies, so it has a way and octets.
use Rattle.wrp_loop.specs.LoopStands.{CutOffBy}
use Rattle.wrp_loop.proofs.Happening.{in_any_fault}
use Rattle.wrp_loop.proofs.Crossings.{cut_off_by, exchanged_by, few_octets, no_octets, no_route}
use Rattle.wrp_loop.proofs.crossing.cross.Goals as goal

pub unreachable-requires : goal.unreachable-requires
unreachable-requires g c = no_route _ c.args.world.now c.args.number c.requires.flies c.in-None.ensures

pub unreachable-requires-in-None-frame : goal.unreachable-requires-in-None-frame
unreachable-requires-in-None-frame g c = no_octets _ c.args.world.now c.args.number c.requires.flies c.in-None-frame.ensures

pub exchange-requires : goal.exchange-requires
exchange-requires g c = few_octets _ c.args.world.now c.args.number _ c.requires.flies c.in-Some-frame.ensures

pub returns-clause-calls : goal.returns-clause-calls
returns-clause-calls g c = exchanged_by _ c.args.world.now c.args.number _ _ _ _ _ c.in-Some.ensures c.in-Some-frame.ensures c.in_ok-got.ensures.calls c.in_ok-got.ensures.frames

pub returns-in_err-got-clause-cut : goal.returns-in_err-got-clause-cut
returns-in_err-got-clause-cut g c =
    in_any_fault (CutOffBy (λ f x y. g.F.Fn.post f (x, tt) y) c.args.world.now c.args.number (g.N.Link.told c.args.link.now) (g.N.Link.told c.exchange.new.link)) _
    (cut_off_by _ c.args.world.now c.args.number _ _ _ _ c.in-Some.ensures c.in-Some-frame.ensures c.in_err-got.ensures.cut)
