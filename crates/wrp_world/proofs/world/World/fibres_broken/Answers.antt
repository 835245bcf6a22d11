-- If no fibre changes, none is refused, since each fibre kept its premise before.
use Rattle.std.proofs.Common.{subst, ◌≡◌, pos}
use Rattle.wrp_course.specs.Moved.{move_of}
use Rattle.wrp_world.proofs.Inside.{fits_within, plant_is}
use Rattle.wrp_world.proofs.KeptFibres.{still_told}
use Rattle.wrp_world.proofs.world.World.fibres_broken.Goals as goal

pub moved_fibres_broken-requires : goal.moved_fibres_broken-requires
moved_fibres_broken-requires g c = fits_within c.self.inside.plant c.self.inside.nodes.items c.args.self.now c.self.view_is c.requires.plant

pub returns-then-all_stay : goal.returns-then-all_stay
returns-then-all_stay g c s w dt drifts h =
    still_told c.self.inside.plant s w dt drifts c.args.moves.now c.self.invariant
    (plant_is _ s w c.args.self.now c.self.inside.plant c.self.inside.nodes.items c.self.view_is h)
    (λ k. subst (λ xs. move_of xs k ≡ (pos 0, pos 0)) c.as_slice.ensures.value (c.all_stay.ensures c.if-all_stay.true k))

pub returns-else-all_stay : goal.returns-else-all_stay
returns-else-all_stay g c s w dt drifts h =
    c.moved_fibres_broken.ensures s w dt drifts (plant_is _ s w c.args.self.now c.self.inside.plant c.self.inside.nodes.items c.self.view_is h)
