use Rattle.std.proofs.Common.{◌≡◌, length, ap, reverse, rules}
use Rattle.std.proofs.lemmas.Int.{to_z-of_z}
use Rattle.std.proofs.lemmas.List.{nil_from_length}
use Rattle.wrp_check.specs.Stretches.{stretches_of}
use Rattle.wrp_check.proofs.Splitting.{one_passed, all_passed}
use Rattle.wrp_check.proofs.stretch.stretch_with.Goals as goal
use mir.Syntax.{w128}
use mir.Val.{SFits}

pub loop-older-preserved : goal.loop-older-preserved
loop-older-preserved c =
    one_passed _ _ _ _ _ c.split_newest.ensures.stretches (λ lies. let never = c.if-lies_in.ensures.1 lies in cc) c.loop-older.invariant

pub returns : goal.returns
returns c =
    let fits : SFits w128 c.args.time = c.ranges.time in
    let h = simp to_z-of_z at c.loop-older.invariant in
    let none : length c.loop-older.older.now ≡ 0 = search rules in
    all_passed _ _ _ (ap (λ ms. stretches_of (reverse ms)) (nil_from_length _ none)) h
