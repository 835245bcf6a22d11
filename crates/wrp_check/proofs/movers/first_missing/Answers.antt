use Rattle.std.proofs.Common.{subst, reverse, take, drop, ◌+◌, List, rules}
use Rattle.std.proofs.lemmas.Int.{to_z-of_z}
use Rattle.wrp_base.specs.declared.link.LinkState.{LinkState}
use Rattle.wrp_check.specs.Handshake.{IsBacked}
use Rattle.wrp_check.specs.Judged.{Lacks}
use Rattle.wrp_check.specs.Stretches.{Entered, movers_of}
use Rattle.wrp_check.proofs.Backwards.{All-none, All-one, movers_all}
use Rattle.wrp_check.proofs.movers.first_missing.Goals.{in-Some+in_default-missing, in_default}
use Rattle.wrp_check.proofs.movers.first_missing.Goals as goal
use mir.Syntax.{w128}
use mir.Val.{SFits}

pub loop-mark-preserved : goal.loop-mark-preserved
loop-mark-preserved c =
    elim c.match-mover.branch [
      | in-Some+in_default-missing w ↦
          let fits : SFits w128 w.in-Some.at = search rules in
          let entered = simp to_z-of_z at w.in_default-missing.ensures in
          All-one (λ found. IsBacked c.args.role (reverse c.args.stretch.now) found) _ _ _ _ c.loop-mark-test.true w.in-Some.ensures
          (subst (λ (ss : List LinkState). Entered w.in-Some.at (reverse ss) (reverse c.args.stretch.now)) w.required.ensures entered)
          c.loop-mark.invariant
      | in_default w ↦
          All-none (λ found. IsBacked c.args.role (reverse c.args.stretch.now) found) _ _ _ c.loop-mark-test.true w.in_default.ensures c.loop-mark.invariant
    ]

pub returns-in-Some-missing : goal.returns-in-Some-missing
returns-in-Some-missing c =
    let fits : SFits w128 c.in-Some.at = search rules in
    let lacks = simp to_z-of_z at c.in-Some-missing.ensures in
    record {
      later = movers_of (reverse (drop (c.loop-mark.mark-index + 1) c.args.own.now));
      mover = (c.in-Some.message, c.in-Some.at);
      earlier = movers_of (reverse (take c.loop-mark.mark-index c.args.own.now));
      splits = movers_all _ _ _ _ c.loop-mark-test.true c.in-Some.ensures;
      backed = c.loop-mark.invariant;
      lacks = subst (λ (ss : List LinkState). Lacks ss c.in-Some.at (reverse c.args.stretch.now) c.in-Some-missing.state) c.required.ensures lacks;
    }
