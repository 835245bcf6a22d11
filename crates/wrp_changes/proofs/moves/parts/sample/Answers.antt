use Rattle.std.proofs.Common.{refl, sym, subst, arith}
use Rattle.wrp_changes.specs.Moves.{Changed}
use Rattle.wrp_changes.proofs.moves.parts.sample.Goals as goal

pub sampled-requires-clause-few : goal.sampled-requires-clause-few
sampled-requires-clause-few c n x e = omega (arith, (c.requires.fits.clocks n x e).samples, c.requires.few)

pub returns : goal.returns
returns c =
    subst (Changed _ _ _ _ c.args.plant.now) (sym c.count.ensures)
    (record { cfg = refl; db = refl; time = refl; count = refl; of_clocks = c.sampled.ensures; of_spans = refl; of_frames = refl; spare = refl; last_put = refl; top = refl })
