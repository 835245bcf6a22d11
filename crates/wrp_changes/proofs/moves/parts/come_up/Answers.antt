use Rattle.std.proofs.Common.{◌≡◌, ℕ, ℤ, List, refl, sym, subst, to_z, of_z, arith}
use Rattle.std.proofs.lemmas.Int.{to_z-of_z}
use Rattle.std.specs.Int.{w128}
use Rattle.wrp_course.specs.declared.clocks.ClockState.{ClockState}
use Rattle.wrp_changes.specs.Moves.{At, Changed, ComesUp, SwapsAt, EachBecame}
use Rattle.wrp_plant.proofs.SignedReads.{read}
use Rattle.wrp_changes.proofs.moves.parts.come_up.Goals as goal

read_both : (k : ℕ) (xs ys : List ClockState) (off now y z : ℤ) → y ≡ off → z ≡ now → EachBecame (At k (ComesUp y z)) xs ys → EachBecame (At k (ComesUp off now)) xs ys
read_both k xs ys off now y z e f t =
    subst (λ a. EachBecame (At k (ComesUp a now)) xs ys) e (subst (λ b. EachBecame (At k (ComesUp y b)) xs ys) f t)

pub returns : goal.returns
returns c =
    subst (Changed _ _ _ _ c.args.plant.now) (sym c.count.ensures)
    (record {
      cfg = refl;
      db = refl;
      time = refl;
      count = refl;
      of_clocks =
          read_both c.args.n c.args.plant.now.clocks.items c.come_up.new.clocks.items c.args.off c.args.plant.now.time
          (to_z w128 (of_z w128 c.args.off)) (to_z w128 (of_z w128 c.args.plant.now.time))
          (to_z-of_z w128 c.args.off c.ranges.off) (read c.args.plant.now.time (omega (arith, c.requires.time))) c.come_up.ensures;
      of_spans =
          subst (λ l. EachBecame (SwapsAt c.args.n l c.args.plant.now.net.cfg.links.items) c.args.plant.now.spans.items c.put_modules.new.spans.items)
          c.as_slice.ensures.value c.put_modules.ensures;
      of_frames = refl;
      spare = refl;
      last_put = refl;
      top = refl;
    })
