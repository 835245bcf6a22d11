use Rattle.std.proofs.Common.{◌≡◌, ap, refl, reverse, rules}
use Rattle.std.proofs.lemmas.Int.{to_z-of_z}
use Rattle.wrp_check.specs.Stretches.{stretches_of, newest_of}
use Rattle.wrp_check.proofs.Verdicts.{no_stretch, not_all, sent_in, misses, is_same}
use Rattle.wrp_check.proofs.judging.judgement.Goals as goal
use mir.Syntax.{w128}
use mir.Val.{SFits}

pub returns-in_default-stretch_with : goal.returns-in_default-stretch_with
returns-in_default-stretch_with c =
    let fits : SFits w128 c.in-Some.at = search rules in
    let none = simp to_z-of_z at c.in_default-stretch_with.ensures in
    (c.if-not-leads_on.ensures.0 refl, λ stretch. no_stretch _ _ stretch _ _ (ap newest_of c.split_newest.ensures.stretches) c.in-Some.ensures none)

pub returns-then-not-all_sent_in : goal.returns-then-not-all_sent_in
returns-then-not-all_sent_in c =
    let fits : SFits w128 c.in-Some.at = search rules in
    let found = simp to_z-of_z at c.in-Some-stretch_with.ensures in (
      c.if-not-leads_on.ensures.0 refl,
      λ stretch. not_all _ _ stretch _ _ _ (ap newest_of c.split_newest.ensures.stretches) c.in-Some.ensures found (λ all. let never = c.if-not-all_sent_in.ensures.1 all in cc),
    )

pub returns-in-Some-first_missing : goal.returns-in-Some-first_missing
returns-in-Some-first_missing c =
    let fits : SFits w128 c.in-Some.at = search rules in
    let found = simp to_z-of_z at c.in-Some-stretch_with.ensures in
    let is : newest_of (stretches_of (reverse c.args.own.now)) ≡ reverse c.split_newest.result.1.now = ap newest_of c.split_newest.ensures.stretches in (
      c.if-not-leads_on.ensures.0 refl,
      misses _ _ _ _ _ _ is (sent_in _ _ _ _ _ is c.in-Some.ensures found (c.if-not-all_sent_in.ensures.0 refl)) c.in-Some-first_missing.ensures,
    )

pub returns-in-None : goal.returns-in-None
returns-in-None c =
    let fits : SFits w128 c.in-Some.at = search rules in
    let found = simp to_z-of_z at c.in-Some-stretch_with.ensures in
    let is : newest_of (stretches_of (reverse c.args.own.now)) ≡ reverse c.split_newest.result.1.now = ap newest_of c.split_newest.ensures.stretches in (
      c.if-not-leads_on.ensures.0 refl,
      is_same _ _ _ _ _ is (sent_in _ _ _ _ _ is c.in-Some.ensures found (c.if-not-all_sent_in.ensures.0 refl)) c.in-None.ensures,
    )
