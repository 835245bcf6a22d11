use Rattle.std.proofs.Common.{◌≡◌, List, subst, refl, reverse, arith}
use Rattle.std.proofs.lemmas.Grind.{common_steps}
use Rattle.std.proofs.lemmas.Int.{to_z-of_z}
use Rattle.std.proofs.lemmas.List.{take_all}
use Rattle.std.proofs.lemmas.Option.{gets}
use Rattle.std.specs.List.{slice_get}
use Rattle.wrp_base.specs.declared.link.Mark.{Mark}
use Rattle.wrp_check.proofs.Entering.{EnteredSoFar, enters, passes_by, no_mark, next_mark, missing_is}
use Rattle.wrp_check.proofs.movers.missing.Goals.{then-entered-states+then-enters, else-entered-states, else-entered-states-via-then-entered-states+else-enters, else-entered-states-via-else-entered-states}
use Rattle.wrp_check.proofs.movers.missing.Goals as goal
use mir.Syntax.{w128}
use mir.Val.{SFits}

pub loop-mark-preserved : goal.loop-mark-preserved
loop-mark-preserved c =
    elim c.if-entered-states.branch [
      | then-entered-states+then-enters w ↦
          let both = w.if-enters.ensures.0 refl in
          next_mark _ _ _ _ _ _ _ w.entered-is c.loop-mark-test.true (enters _ _ _ _ _ w.if-entered-states.true both.0 both.1 c.loop-mark.invariant)
      | else-entered-states w ↦
          elim w.else-entered-states.branch [
            | else-entered-states-via-then-entered-states+else-enters w' ↦
                next_mark _ _ _ _ _ _ _ w.entered-is c.loop-mark-test.true (passes_by _ _ _ _ _ (λ lt is by. let never = w'.if-enters.ensures.1 (is, by) in cc) c.loop-mark.invariant)
            | else-entered-states-via-else-entered-states w' ↦
                next_mark _ _ _ _ no_mark _ _ w.entered-is c.loop-mark-test.true (passes_by _ _ _ _ _ (λ lt is by. absurd (omega (arith, w'.if-entered-states.false))) c.loop-mark.invariant)
          ]
    ]

pub returns : goal.returns
returns c =
    let fits : SFits w128 c.args.time = c.ranges.time in
    let h = simp to_z-of_z at c.loop-mark.invariant in
    let whole : EnteredSoFar c.args.time c.args.states.now (reverse c.args.stretch.now) c.loop-mark.entered =
    subst (λ (ms : List Mark). EnteredSoFar c.args.time c.args.states.now (reverse ms) c.loop-mark.entered) (take_all _ _ c.loop-mark-test.false) h in
    let got : c.copied.result ≡ slice_get c.args.states.now c.loop-mark.entered = grind (arith, common_steps, gets) in
    rw got (missing_is _ _ _ _ whole)
