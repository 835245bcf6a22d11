use Rattle.std.proofs.Common.{refl, sym, subst, to_z, of_z}
use Rattle.std.proofs.lemmas.Int.{to_z-of_z}
use Rattle.std.specs.Int.{w128}
use Rattle.wrp_changes.specs.Moves.{At, Changed, Joins, EachBecame}
use Rattle.wrp_changes.proofs.moves.parts.join.Goals as goal

pub returns : goal.returns
returns c =
    subst (Changed _ _ _ _ c.args.plant.now) (sym c.count.ensures)
    (record {
      cfg = refl;
      db = refl;
      time = refl;
      count = refl;
      of_clocks = refl;
      of_spans =
          subst (λ z. EachBecame (At c.args.k (Joins z c.args.sm)) c.args.plant.now.spans.items c.join.new.spans.items) (to_z-of_z w128 c.args.ms c.ranges.ms)
          (subst (λ z. EachBecame (At c.args.k (Joins (to_z w128 (of_z w128 c.args.ms)) z)) c.args.plant.now.spans.items c.join.new.spans.items) (to_z-of_z w128 c.args.sm c.ranges.sm) c.join.ensures);
      of_frames = refl;
      spare = refl;
      last_put = refl;
      top = refl;
    })
