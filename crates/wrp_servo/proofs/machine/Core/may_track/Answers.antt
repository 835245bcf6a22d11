-- TRACK may be entered if and only if the three tests hold, in their order.
use Rattle.std.proofs.Common.{◌≡◌, ℤ, ◌-◌, Bool, true, false, ◌&&◌, nat_le, to_z, of_z, SFits, rules, ap, ap₂, sym, ◌∙◌}
use Rattle.std.proofs.lemmas.Int.{to_z-of_z}
use Rattle.std.specs.Int.{w128}
use Rattle.wrp_servo.specs.Sampling.{is_within, residual, is_calm}
use Rattle.wrp_servo.proofs.machine.Core.may_track.Goals as goal

-- the test of the residual
near : (limit x r : ℤ) (b : Bool) → SFits w128 limit → SFits w128 r → r ≡ x → b ≡ is_within (to_z w128 (of_z w128 limit)) (to_z w128 (of_z w128 r)) → is_within limit x ≡ b
near limit x r b f g e is = sym (is ∙ ap₂ is_within (to_z-of_z w128 limit f) (to_z-of_z w128 r g ∙ e))

-- the first test does not hold
first : (a b c d : Bool) → a ≡ false → d ≡ false → d ≡ (a && (b && c))
first a b c d p q = rw (p, q)

-- the first one holds, and the second does not
second : (a b c d : Bool) → a ≡ true → b ≡ false → d ≡ b → d ≡ (a && (b && c))
second a b c d p q e = rw (p, e, q)

-- the first two hold
third : (a b c d : Bool) → a ≡ true → b ≡ true → d ≡ c → d ≡ (a && (b && c))
third a b c d p q e = rw (p, q, e)

pub returns-then-is_calm : goal.returns-then-is_calm
returns-then-is_calm c =
    let fits : SFits w128 c.args.self.now.set.track_tau = search rules in
    let x = residual c.args.self.now.phase c.args.kept.now in
    third (is_within c.args.self.now.set.track_tau x) (is_calm c.args.self.now) (nat_le (c.args.self.now.ticks - c.args.kept.now.four.tick) c.args.self.now.set.age) _
    (near c.args.self.now.set.track_tau x c.residual.result c.is_within.result fits (record { sfits = c.residual.type_inv }) c.residual.ensures.value c.is_within.ensures ∙ c.if-is_within.true)
    (sym c.is_calm.ensures ∙ c.if-is_calm.true) (ap (λ n. nat_le n c.args.self.now.set.age) c.saturating_sub.ensures)

pub returns-else-is_calm : goal.returns-else-is_calm
returns-else-is_calm c =
    let fits : SFits w128 c.args.self.now.set.track_tau = search rules in
    let x = residual c.args.self.now.phase c.args.kept.now in
    second (is_within c.args.self.now.set.track_tau x) (is_calm c.args.self.now) (nat_le (c.args.self.now.ticks - c.args.kept.now.four.tick) c.args.self.now.set.age) c.is_calm.result
    (near c.args.self.now.set.track_tau x c.residual.result c.is_within.result fits (record { sfits = c.residual.type_inv }) c.residual.ensures.value c.is_within.ensures ∙ c.if-is_within.true)
    (sym c.is_calm.ensures ∙ c.if-is_calm.false) c.is_calm.ensures

pub returns-else-is_within : goal.returns-else-is_within
returns-else-is_within c =
    let fits : SFits w128 c.args.self.now.set.track_tau = search rules in
    let x = residual c.args.self.now.phase c.args.kept.now in
    first (is_within c.args.self.now.set.track_tau x) (is_calm c.args.self.now) (nat_le (c.args.self.now.ticks - c.args.kept.now.four.tick) c.args.self.now.set.age) c.is_within.result
    (near c.args.self.now.set.track_tau x c.residual.result c.is_within.result fits (record { sfits = c.residual.type_inv }) c.residual.ensures.value c.is_within.ensures ∙ c.if-is_within.false) c.if-is_within.false
