-- In a world whose nodes have laws that fit the links above them, the answers of the laws are near the exact fraction.
use Rattle.std.proofs.Common.{◌≡◌, inl, inr, ap, sym, subst, ℕ, ℤ, ◌+ℤ◌, ◌-ℤ◌, ◌*ℤ◌, pos, ◌*◌, ◌≤◌, ◌<◌, ◌^◌, ◌≤ℤ◌, unsigned_abs, List, length, Option, None, Some, is_some, false, arith}
use Rattle.std.proofs.lemmas.Option.{slice_get_cases}
use Rattle.wrp_network.specs.declared.configuration.NetCfg.{NetCfg}
use Rattle.wrp_network.specs.declared.network.LinkCfg.{LinkCfg}
use Rattle.wrp_network.specs.Network.{link_above, node_count}
use Rattle.wrp_bounds.specs.Bounds.{numbers_of}
use Rattle.wrp_bounds.specs.declared.numbers.HopNumbers.{HopNumbers}
use Rattle.wrp_config.proofs.Lists.{map_at}
use Rattle.wrp_law.specs.declared.delay.LawKind.{LawKind}
use Rattle.wrp_law.specs.declared.delay.LawKind.TheVariants.{Linear}
use Rattle.wrp_law.specs.Law.{IsNear, LawOf}
use Rattle.wrp_node.specs.Control.{ServoIs, ToldServo, law_in}
use Rattle.wrp_node.specs.NodeAt.{NodeAt, servo_setting_of}
use Rattle.wrp_node.specs.StandsFor.{NodeOf}
use Rattle.wrp_servo.specs.Call.{Call, ServoSetting}
use Rattle.wrp_servo.specs.Servo.{AllAnswered}
use Rattle.wrp_tracking_laws.specs.ErrorSum.{IsShare}
use Rattle.wrp_course.specs.Run.{IsAnswered}
use Rattle.wrp_course.specs.Runs.{IsNetwork}
use Rattle.wrp_course.specs.Setting.{Setting, node_setting_of}
use Rattle.wrp_course.specs.WorldAt.{WorldAt}
use Rattle.wrp_bound_laws.specs.Fours.{IsNearAnswer}
use Rattle.wrp_bound_laws.proofs.Hops.HopsUp.{inside_below}
use Rattle.wrp_bound_laws.proofs.Runs.NearAnswers.{HopOf, each_call, hop_of, near_calls}
use Rattle.wrp_world.specs.InTrueRun.{HasFittingLaws}
use Rattle.wrp_world.specs.New.{FitsLaw}
use Rattle.wrp_world.specs.StandsFor.{NodeIs, StandsFor, WorldOf}

-- One answer of a law

no_worse : (z : ℤ) (err most least : ℕ) → unsigned_abs z ≤ 2 ^ 40 * err → err ≤ most → least ≡ most → unsigned_abs z ≤ 2 ^ 40 * least
no_worse z err most least h few same = omega (arith, h, few, same)

pub share_of : (hop : HopNumbers) (kappa : ℤ) (err most : ℕ) (x y : ℤ) → hop.kappa ≡ kappa → hop.law_err ≡ most → err ≤ most → IsNear (Linear kappa) err x y → IsShare hop hop.law_err y x
share_of hop kappa err most x y same even few near =
    subst (λ (k : ℤ). IsNear (Linear k) hop.law_err x y) (sym same)
    (no_worse ((pos (2 ^ 40) *ℤ y) -ℤ (x *ℤ (pos (2 ^ 39) +ℤ kappa))) err most hop.law_err near few even)

law_near : {F : Type 0} (pre : F → ℤ → Type 0) (post : F → ℤ → ℤ → Type 0) (cfg : NetCfg) (n : ℕ) (law : LawOf F) → FitsLaw pre post cfg n (Some law) →
    (hop : HopNumbers) (x y : ℤ) → numbers_of cfg n ≡ Some hop → law.lo ≤ℤ x → x ≤ℤ law.hi → post law.closure x y → IsShare hop hop.law_err y x
law_near pre post cfg n law fits hop x y numbers low high answer =
    let it : HopOf cfg n hop = hop_of cfg n hop numbers in
    share_of hop it.link.kappa law.err it.link.law_err x y it.kappa it.error (fits.err it.link it.above)
    (subst (λ (k : LawKind). IsNear k law.err x y) (fits.kind it.link it.above) (fits.fact.near x y low high answer))

-- The answers of a node

-- if no link is above a node, its answers need not be near anything
none_above : (s : Setting) (n : ℕ) → ((link : LinkCfg) → link_above s.cfg n ≡ Some link → ⊥) → (a y : ℤ) → IsNearAnswer s n a y
none_above s n none a y = λ hop numbers. let it : HopOf s.cfg n hop = hop_of s.cfg n hop numbers in absurd (none it.link it.above)

no_link : (o : Option LinkCfg) (link : LinkCfg) → false ≡ is_some o → o ≡ Some link → ⊥
no_link None link h e = cc
no_link (Some other) link h e = cc

told_near : {F : Type 0} (pre : F → ℤ → Type 0) (post : F → ℤ → ℤ → Type 0) (s : Setting) (n : ℕ) (told : Option (ToldServo F)) (calls : List Call) →
    FitsLaw pre post s.cfg n (law_in (record { told = told; bias = 0 })) → ServoIs post (node_setting_of s n) calls told → AllAnswered (IsNearAnswer s n) (servo_setting_of (node_setting_of s n)) calls
told_near pre post s n None calls fits stands =
    each_call (IsNearAnswer s n) (servo_setting_of (node_setting_of s n)) (none_above s n (λ link above. no_link (link_above s.cfg n) link fits.place above)) calls
told_near pre post s n (Some t) calls fits stands =
    let setting : ServoSetting = servo_setting_of (node_setting_of s n) in
    let low : setting.lo ≡ t.servo.law.lo = ap (λ (x : ServoSetting). x.lo) stands.1.servo.fixed in
    let high : setting.hi ≡ t.servo.law.hi = ap (λ (x : ServoSetting). x.hi) stands.1.servo.fixed in
    near_calls (post t.servo.law.closure) (IsNearAnswer s n) setting
    (λ a y least most answer. λ hop numbers.
    law_near pre post s.cfg n t.servo.law fits hop a y numbers (subst (λ (z : ℤ). z ≤ℤ a) low least) (subst (λ (z : ℤ). a ≤ℤ z) high most) answer)
    calls stands.1.servo.answered

node_near : {F : Type 0} (pre : F → ℤ → Type 0) (post : F → ℤ → ℤ → Type 0) (s : Setting) (w : WorldAt) (n : ℕ) (node : NodeOf F) →
    FitsLaw pre post s.cfg n (law_in node.control) → NodeIs post s w n node → AllAnswered (IsNearAnswer s n) (servo_setting_of (node_setting_of s n)) (w.node n).calls
node_near pre post s w n node fits is =
    subst (λ (at : NodeAt). AllAnswered (IsNearAnswer s n) (servo_setting_of (node_setting_of s n)) at.calls) (sym is.at)
    (told_near pre post s n node.control.told _ fits is.stands.is_at.control.servo)

beyond : (a b n : ℕ) → a ≡ b → a ≤ n → n < b → ⊥
beyond a b n same past inside = omega (arith, same, past, inside)

-- this holds of each node, by its number
pub answers_near : {F : Type 0} (pre : F → ℤ → Type 0) (post : F → ℤ → ℤ → Type 0) (s : Setting) (w : WorldAt) (world : WorldOf F) →
    IsNetwork s → HasFittingLaws pre post s.cfg world → StandsFor post s w world → IsAnswered (IsNearAnswer s) s w
answers_near {F} pre post s w world network laws stands n =
    elim (slice_get_cases world.nodes n).1 [
      | inl found ↦
          let node : NodeOf F = found.0 in
          node_near pre post s w n node
          (laws.each n (law_in node.control) (map_at (λ (m : NodeOf F). law_in m.control) world.nodes n node found.2))
          (stands.nodes n node found.2)
      | inr past ↦
          each_call (IsNearAnswer s n) (servo_setting_of (node_setting_of s n))
          (none_above s n (λ link above. beyond (length world.nodes) (node_count s.cfg) n laws.count past.0 (inside_below s network n link above)))
          (w.node n).calls
    ]
