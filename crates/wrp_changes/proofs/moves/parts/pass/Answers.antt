use Rattle.std.proofs.Common.{refl, sym, subst, ap, ◌+ℤ◌}
use Rattle.std.proofs.lemmas.Int.{to_z-of_z}
use Rattle.std.specs.Int.{w64}
use Rattle.wrp_flights.specs.Frames.{Passes}
use Rattle.wrp_changes.specs.Moves.{Changed, Drifts, Moves, EachBecame}
use Rattle.wrp_plant.proofs.Sizing.{delay_size, time_size}
use Rattle.wrp_changes.proofs.moves.parts.pass.Goals as goal

pub move_fibres-requires : goal.move_fibres-requires
move_fibres-requires c k x e =
    (delay_size c.args.plant.now.events x.fibre.ms c.requires.fits.events (c.requires.fits.spans k x e).ms, delay_size c.args.plant.now.events x.fibre.sm c.requires.fits.events (c.requires.fits.spans k x e).sm)

pub count_later-requires-clause-time : goal.count_later-requires-clause-time
count_later-requires-clause-time c = time_size c.args.plant.now.events c.args.plant.now.time c.requires.fits.events c.requires.fits.time

pub returns : goal.returns
returns c =
    subst (Changed _ _ _ _ c.args.plant.now) (sym c.count_later.ensures)
    (record {
      cfg = refl;
      db = refl;
      time = ap (λ d. c.args.plant.now.time +ℤ d) (to_z-of_z w64 c.args.dt c.ranges.dt);
      count = refl;
      of_clocks = subst (λ l. EachBecame (Drifts l) c.args.plant.now.clocks.items c.drift.new.clocks.items) c.as_slice.ensures.value c.drift.ensures;
      of_spans = subst (λ l. EachBecame (Moves l) c.args.plant.now.spans.items c.move_fibres.new.spans.items) c.as_slice-2.ensures.value c.move_fibres.ensures;
      of_frames = subst (λ d. Passes (c.args.plant.now.frames.horizon +ℤ d) c.args.plant.now.frames c.pass.new.self) (to_z-of_z w64 c.args.dt c.ranges.dt) c.pass.ensures;
      spare = refl;
      last_put = refl;
      top = refl;
    })
