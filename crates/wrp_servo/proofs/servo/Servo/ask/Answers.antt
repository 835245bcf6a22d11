-- What a measurement does and answers, by its row.
use Rattle.std.proofs.Common.{◌≡◌, ℕ, ℤ, pos, Bool, true, false, cond, Option, None, Some, to_z, of_z, refl, sym, ap, ap₂, subst, ◌∙◌, ◌≤ℤ◌, SFits, rules}
use Rattle.std.proofs.lemmas.Int.{to_z-of_z}
use Rattle.std.specs.Int.{w64, w128}
use Rattle.wrp_base.specs.declared.link.Deltas.{Deltas}
use Rattle.wrp_base.specs.declared.measurement.ChainNews.{ChainNews}
use Rattle.wrp_base.specs.declared.measurement.Four.{Four}
use Rattle.wrp_servo.specs.declared.interface.ServoOut.{ServoOut}
use Rattle.wrp_servo.specs.declared.machine.Core.{Core}
use Rattle.wrp_servo.specs.Call.{CallMeasured, ServoSetting}
use Rattle.wrp_servo.specs.Measuring.{answered, answered_cycles, by_measured, cycles_in, deltas_in_chain, is_in, kept_of, placed, x_of}
use Rattle.wrp_servo.specs.Sampling.{est_of}
use Rattle.wrp_servo.specs.Servo.{ServoOf, answer_to, news_of, plain_out, refused_by}
use Rattle.wrp_servo.specs.Table.{ended}
use Rattle.wrp_servo.proofs.servo.Servo.ask.Goals as goal

-- without a chain nothing changes
stays : (lo hi : ℤ) (v : Core) (f : Four) (y : ℤ) → deltas_in_chain v ≡ None → v ≡ by_measured lo hi v f y
stays lo hi v f y e = sym (ap (answered lo hi v f y) e)

-- and the law is not asked
not_asked : (v : Core) (d : Deltas) → deltas_in_chain v ≡ None → deltas_in_chain v ≡ Some d → ⊥
not_asked v d e is = cc

-- and no step is commanded
ignored : (x : ServoSetting) (v : Core) (f : Four) (before after : Option ℕ) (chain : ChainNews) (out : ServoOut) → deltas_in_chain v ≡ None → before ≡ v.first → after ≡ v.first → chain ≡ news_of before after → out ≡ plain_out (pos 0) chain None → out ≡ answer_to x v (CallMeasured f (pos 0))
ignored x v f before after chain out e p q r s =
    s ∙ ap (λ (n : ChainNews). plain_out (pos 0) n None) (r ∙ ap₂ news_of p q)
    ∙ sym (ap (λ (o : Option Deltas). plain_out (answered_cycles x.lo x.hi v f (pos 0) o) (news_of v.first (answered x.lo x.hi v f (pos 0) o).first) (refused_by x f o)) e)

-- in a chain the law's range decides
decided : (lo hi : ℤ) (v : Core) (f : Four) (y : ℤ) (d : Deltas) (b : Bool) (new : Core) → deltas_in_chain v ≡ Some d → is_in lo hi (x_of d f) ≡ b → new ≡ cond b (placed v (kept_of f d y)) (ended v) → new ≡ by_measured lo hi v f y
decided lo hi v f y d b new e t n = n ∙ sym (ap (answered lo hi v f y) e ∙ ap (λ (c : Bool). cond c (placed v (kept_of f d y)) (ended v)) t)

-- and it is refused, if it is out of the range
refused : (x : ServoSetting) (v : Core) (f : Four) (d : Deltas) (before after : Option ℕ) (chain : ChainNews) (out : ServoOut) → deltas_in_chain v ≡ Some d → is_in x.lo x.hi (x_of d f) ≡ false → before ≡ v.first → after ≡ (ended v).first → chain ≡ news_of before after → out ≡ plain_out (pos 0) chain (Some 14) → out ≡ answer_to x v (CallMeasured f (pos 0))
refused x v f d before after chain out e t p q r s =
    s ∙ ap (λ (n : ChainNews). plain_out (pos 0) n (Some 14)) (r ∙ ap₂ news_of p q)
    ∙ sym (ap (λ (o : Option Deltas). plain_out (answered_cycles x.lo x.hi v f (pos 0) o) (news_of v.first (answered x.lo x.hi v f (pos 0) o).first) (refused_by x f o)) e
    ∙ ap (λ (b : Bool). plain_out (cond b (cycles_in v (est_of v.phase.u (kept_of f d (pos 0))) v.state) (pos 0)) (news_of v.first (cond b (placed v (kept_of f d (pos 0))) (ended v)).first) (cond b None (Some 14))) t)

-- nothing was returned for x
is_out : (b : Bool) (z : ℤ) (told : Option ℤ) → told ≡ None → told ≡ cond b (Some z) None → b ≡ false
is_out true z told e f = cc
is_out false z told e f = refl

pub ask_law-requires-clause-law : goal.ask_law-requires-clause-law
ask_law-requires-clause-law g c = c.requires.law

pub ask_law-requires-clause-x : goal.ask_law-requires-clause-x
ask_law-requires-clause-x g c =
    let fits : SFits w64 c.in-Some-x_in.x = search rules in
    to_z-of_z w64 c.in-Some-x_in.x fits ∙ c.in-Some-x_in.ensures.some.0 ∙ to_z-of_z w128 c.x_by.result (record { sfits = c.x_by.type_inv }) ∙ c.x_by.ensures.value

pub ask_law-requires-clause-lo : goal.ask_law-requires-clause-lo
ask_law-requires-clause-lo g c =
    let fits : SFits w64 c.in-Some-x_in.x = search rules in
    subst (λ (z : ℤ). c.args.self.now.law.lo ≤ℤ z) (sym (to_z-of_z w64 c.in-Some-x_in.x fits)) c.in-Some-x_in.ensures.some.1

pub ask_law-requires-clause-hi : goal.ask_law-requires-clause-hi
ask_law-requires-clause-hi g c =
    let fits : SFits w64 c.in-Some-x_in.x = search rules in
    subst (λ (z : ℤ). z ≤ℤ c.args.self.now.law.hi) (sym (to_z-of_z w64 c.in-Some-x_in.x fits)) c.in-Some-x_in.ensures.some.2

pub returns-in-None-clause-answer : goal.returns-in-None-clause-answer
returns-in-None-clause-answer g c = λ d is t.
    absurd (not_asked c.args.self.now.core d (ap (λ (s : ServoOf g.row.F.Denot). deltas_in_chain s.core) (sym c.self.view_is) ∙ sym c.deltas_in_chain.ensures ∙ c.in-None.is) is)

pub returns-in-None-clause-core : goal.returns-in-None-clause-core
returns-in-None-clause-core g c =
    stays c.args.self.now.law.lo c.args.self.now.law.hi c.args.self.now.core c.args.four.now (pos 0)
    (ap (λ (s : ServoOf g.row.F.Denot). deltas_in_chain s.core) (sym c.self.view_is) ∙ sym c.deltas_in_chain.ensures ∙ c.in-None.is)

pub returns-in-None-clause-out : goal.returns-in-None-clause-out
returns-in-None-clause-out g c =
    let core = ap (λ (s : ServoOf g.row.F.Denot). s.core) c.self.view_is in
    let first = ap (λ (v : Core). v.first) core in
    ignored (record { set = c.args.self.now.core.set; lo = c.args.self.now.law.lo; hi = c.args.self.now.law.hi }) c.args.self.now.core c.args.four.now c.first-before.result c.first.result c.news.result c.plain_out.result
    (ap deltas_in_chain (sym core) ∙ sym c.deltas_in_chain.ensures ∙ c.in-None.is) (c.first-before.ensures ∙ first) (c.first.ensures ∙ first) c.news.ensures c.plain_out.ensures

pub returns-in-Some-x_in-clause-core : goal.returns-in-Some-x_in-clause-core
returns-in-Some-x_in-clause-core g c =
    decided c.args.self.now.law.lo c.args.self.now.law.hi c.args.self.now.core c.args.four.now c.ask_law.result.1 c.in-Some.deltas true c.ask_law.new.self.core
    (ap (λ (s : ServoOf g.row.F.Denot). deltas_in_chain s.core) (sym c.self.view_is) ∙ sym c.deltas_in_chain.ensures ∙ c.in-Some.is)
    (ap (is_in c.args.self.now.law.lo c.args.self.now.law.hi) (sym c.x_by.ensures.value ∙ sym (to_z-of_z w128 c.x_by.result (record { sfits = c.x_by.type_inv }))) ∙ c.in-Some-x_in.ensures.some.3) c.ask_law.ensures.core

pub returns-in-Some-x_in-clause-out : goal.returns-in-Some-x_in-clause-out
returns-in-Some-x_in-clause-out g c = c.ask_law.ensures.out

pub returns-in-None-x_in-clause-law : goal.returns-in-None-x_in-clause-law
returns-in-None-x_in-clause-law g c = ap (λ (s : ServoOf g.row.F.Denot). s.law) c.self.view_is

pub returns-in-None-x_in-clause-core : goal.returns-in-None-x_in-clause-core
returns-in-None-x_in-clause-core g c =
    let core = ap (λ (s : ServoOf g.row.F.Denot). s.core) c.self.view_is in
    let x = to_z-of_z w128 c.x_by.result (record { sfits = c.x_by.type_inv }) ∙ c.x_by.ensures.value in
    let out = is_out (is_in c.args.self.now.law.lo c.args.self.now.law.hi (to_z w128 (of_z w128 c.x_by.result))) (to_z w128 (of_z w128 c.x_by.result)) c.x_in.result c.in-None-x_in.is c.x_in.ensures.value in
    decided c.args.self.now.law.lo c.args.self.now.law.hi c.args.self.now.core c.args.four.now (pos 0) c.in-Some.deltas false c.refuse.new.self
    (ap deltas_in_chain (sym core) ∙ sym c.deltas_in_chain.ensures ∙ c.in-Some.is) (ap (is_in c.args.self.now.law.lo c.args.self.now.law.hi) (sym x) ∙ out) (c.refuse.ensures ∙ ap ended core)

pub returns-in-None-x_in-clause-out : goal.returns-in-None-x_in-clause-out
returns-in-None-x_in-clause-out g c =
    let core = ap (λ (s : ServoOf g.row.F.Denot). s.core) c.self.view_is in
    let x = to_z-of_z w128 c.x_by.result (record { sfits = c.x_by.type_inv }) ∙ c.x_by.ensures.value in
    let out = is_out (is_in c.args.self.now.law.lo c.args.self.now.law.hi (to_z w128 (of_z w128 c.x_by.result))) (to_z w128 (of_z w128 c.x_by.result)) c.x_in.result c.in-None-x_in.is c.x_in.ensures.value in
    refused (record { set = c.args.self.now.core.set; lo = c.args.self.now.law.lo; hi = c.args.self.now.law.hi }) c.args.self.now.core c.args.four.now c.in-Some.deltas c.first-before.result c.first-in-None-x_in.result c.news-in-None-x_in.result c.plain_out-in-None-x_in.result
    (ap deltas_in_chain (sym core) ∙ sym c.deltas_in_chain.ensures ∙ c.in-Some.is) (ap (is_in c.args.self.now.law.lo c.args.self.now.law.hi) (sym x) ∙ out)
    (c.first-before.ensures ∙ ap (λ (v : Core). v.first) core) (c.first-in-None-x_in.ensures ∙ ap (λ (v : Core). v.first) c.refuse.ensures ∙ ap (λ (v : Core). (ended v).first) core) c.news-in-None-x_in.ensures c.plain_out-in-None-x_in.ensures
