use Rattle.std.proofs.Common.{refl, reverse, rules}
use Rattle.std.proofs.lemmas.Int.{to_z-of_z}
use Rattle.wrp_check.specs.Stretches.{LiesIn}
use Rattle.wrp_check.proofs.Backwards.{All-none, All-one, All-at}
use Rattle.wrp_check.proofs.movers.all_sent_in.Goals.{in-Some+else-not-lies_in, in_default}
use Rattle.wrp_check.proofs.movers.all_sent_in.Goals as goal
use mir.Syntax.{w128}
use mir.Val.{SFits}

pub returns-then-not-lies_in : goal.returns-then-not-lies_in
returns-then-not-lies_in c =
    let fits : SFits w128 c.in-Some.at = search rules in
    let lies = simp to_z-of_z at c.if-not-lies_in.ensures in (
      λ h. cc,
      λ all. lies.1 (All-at (λ found. LiesIn found.1 (reverse c.args.stretch.now)) _ _ _ _ c.loop-mark-test.true c.in-Some.ensures all),
    )

pub loop-mark-preserved : goal.loop-mark-preserved
loop-mark-preserved c =
    elim c.match-mover.branch [
      | in-Some+else-not-lies_in w ↦
          let fits : SFits w128 w.in-Some.at = search rules in
          let lies = simp to_z-of_z at w.if-not-lies_in.ensures in
          All-one (λ found. LiesIn found.1 (reverse c.args.stretch.now)) _ _ _ _ c.loop-mark-test.true w.in-Some.ensures (lies.0 refl) c.loop-mark.invariant
      | in_default w ↦
          All-none (λ found. LiesIn found.1 (reverse c.args.stretch.now)) _ _ _ c.loop-mark-test.true w.in_default.ensures c.loop-mark.invariant
    ]
