-- Memory is taken for all that the event needs, or nothing changes; then the nodes take the inputs.
use Rattle.std.proofs.Common.{◌∙◌, sym, subst, to_z, of_z}
use Rattle.std.proofs.lemmas.Int.{to_z-of_z}
use Rattle.std.specs.Int.{w128}
use Rattle.wrp_world.specs.StandsFor.{IsValid}
use Rattle.wrp_world.specs.Step.{StaysSo}
use Rattle.wrp_world.specs.Take.{TakenSo}
use Rattle.wrp_world.proofs.Inside.{plant_is, world_of}
use Rattle.wrp_world.proofs.KeptFibres.{moved_keeps, stays_keeps}
use Rattle.wrp_world.proofs.WorldSteps.{begun_asks, begun_of, begun_valid, event_taken, lists_read, may_move, stays_valid, world_stays}
use Rattle.wrp_changes.proofs.Refusals.{on_err}
use Rattle.wrp_world.proofs.world.World.take_so.Goals as goal

pub returns-in_err-begin-clause-valid : goal.returns-in_err-begin-clause-valid
returns-in_err-begin-clause-valid g c =
    stays_valid _ _ (world_of c.self.inside.plant c.self.inside.nodes.items) c.begin.new.plant c.in_err-begin.ensures.stays c.begin.ensures.fits c.begin.ensures.net c.in_err-begin.ensures.count
    (subst (λ w. IsValid (λ f x. g.F.Fn.pre f (x, tt)) (λ f x y. g.F.Fn.post f (x, tt) y) w) (sym c.self.view_is) c.requires.valid)

pub returns-in_err-begin-clause-stays : goal.returns-in_err-begin-clause-stays
returns-in_err-begin-clause-stays g c =
    on_err c.from_residual.result
    (subst (λ w. StaysSo (λ f x y. g.F.Fn.post f (x, tt) y) w (world_of c.begin.new.plant c.self.inside.nodes.items)) c.self.view_is
    (world_stays _ (world_of c.self.inside.plant c.self.inside.nodes.items) c.begin.new.plant c.in_err-begin.ensures.stays))

pub give_all-requires-clause-valid : goal.give_all-requires-clause-valid
give_all-requires-clause-valid g c =
    let begun = begun_of _ _ c.args.event.now (to_z w128 (of_z w128 c.put_out_at-put.result)) c.args.self.now c.self.inside.plant c.begin.new.plant c.self.inside.nodes.items c.begin.new.outs.items
    c.self.view_is c.requires.valid c.requires.accepted
    (lists_read c.self.inside.plant c.args.event.now _ (to_z w128 (of_z w128 c.put_out_at-put.result)) c.begin.new.outs.items (to_z-of_z w128 c.put_out_at-put.result (record { sfits = c.put_out_at-put.type_inv }) ∙ c.put_out_at-put.ensures) c.in_ok-begin.ensures.gifts)
    c.in_ok-begin.ensures.is c.in_ok-begin.ensures.events c.begin.ensures.net c.begin.ensures.fits c.in_ok-begin.ensures.still in
    begun_valid _ _ c.args.event.now (to_z w128 (of_z w128 c.put_out_at-put.result)) (world_of c.self.inside.plant c.self.inside.nodes.items) c.begin.new.plant c.begin.new.outs.items begun

pub give_all-requires-clause-asks : goal.give_all-requires-clause-asks
give_all-requires-clause-asks g c =
    let begun = begun_of _ _ c.args.event.now (to_z w128 (of_z w128 c.put_out_at-put.result)) c.args.self.now c.self.inside.plant c.begin.new.plant c.self.inside.nodes.items c.begin.new.outs.items
    c.self.view_is c.requires.valid c.requires.accepted
    (lists_read c.self.inside.plant c.args.event.now _ (to_z w128 (of_z w128 c.put_out_at-put.result)) c.begin.new.outs.items (to_z-of_z w128 c.put_out_at-put.result (record { sfits = c.put_out_at-put.type_inv }) ∙ c.put_out_at-put.ensures) c.in_ok-begin.ensures.gifts)
    c.in_ok-begin.ensures.is c.in_ok-begin.ensures.events c.begin.ensures.net c.begin.ensures.fits c.in_ok-begin.ensures.still in
    begun_asks _ _ c.args.event.now (to_z w128 (of_z w128 c.put_out_at-put.result)) (world_of c.self.inside.plant c.self.inside.nodes.items) c.begin.new.plant c.begin.new.outs.items begun

pub returns-clause-steps : goal.returns-clause-steps
returns-clause-steps g c =
    let begun = begun_of _ _ c.args.event.now (to_z w128 (of_z w128 c.put_out_at-put.result)) c.args.self.now c.self.inside.plant c.begin.new.plant c.self.inside.nodes.items c.begin.new.outs.items
    c.self.view_is c.requires.valid c.requires.accepted
    (lists_read c.self.inside.plant c.args.event.now _ (to_z w128 (of_z w128 c.put_out_at-put.result)) c.begin.new.outs.items (to_z-of_z w128 c.put_out_at-put.result (record { sfits = c.put_out_at-put.type_inv }) ∙ c.put_out_at-put.ensures) c.in_ok-begin.ensures.gifts)
    c.in_ok-begin.ensures.is c.in_ok-begin.ensures.events c.begin.ensures.net c.begin.ensures.fits c.in_ok-begin.ensures.still in
    subst (λ w. TakenSo (λ f x y. g.F.Fn.post f (x, tt) y) c.args.event.now w c.give_all.new.self c.give_all.new.outs.items) c.self.view_is
    (event_taken _ _ c.args.event.now (to_z w128 (of_z w128 c.put_out_at-put.result)) (world_of c.self.inside.plant c.self.inside.nodes.items) c.begin.new.plant c.begin.new.outs.items c.give_all.new.outs.items c.give_all.new.self begun c.give_all.ensures.gave)

pub invariant_of-self : goal.invariant_of-self
invariant_of-self g c =
    let v = c.requires.valid in
    let is = plant_is _ v.setting v.state c.args.self.now c.self.inside.plant c.self.inside.nodes.items c.self.view_is v.stands in
    stays_keeps c.self.inside.plant c.begin.new.plant v.setting v.state c.self.invariant is c.begin.ensures.fits.span_count (c.in_err-begin.ensures.stays v.setting v.state is)

pub invariant_of-self-2 : goal.invariant_of-self-2
invariant_of-self-2 g c =
    let can = c.requires.accepted in
    let is = plant_is _ can.setting can.state c.args.self.now c.self.inside.plant c.self.inside.nodes.items c.self.view_is can.stands in
    moved_keeps c.self.inside.plant c.begin.new.plant c.args.event.now can.says can.setting can.state c.self.invariant is can.accepted c.begin.ensures.fits.span_count
    (c.in_ok-begin.ensures.is can.setting can.state (may_move can.setting can.state can.says c.args.event.now can.accepted) is)
