-- The error goes in front of the earlier ones, and the value is the value of the drive.
use Rattle.std.proofs.Common.{◌≡◌, ℤ, ◌^◌, ◌≤◌, Bool, true, false, if◌then◌else◌, unsigned_abs, w64, w32, SFits, to_z, of_z, ◌∙◌, sym, ap, subst, arith}
use Rattle.std.proofs.lemmas.Int.{ints, to_z-of_z}
use Rattle.std.specs.Int.{saturate_unsigned, w16, w128}
use Rattle.wrp_pi.specs.Loop.{Loop, raised, drive, is_frozen}
use Rattle.wrp_pi.proofs.LoopLaws.{Adds-updated, value_at-stands}
use Rattle.wrp_pi.proofs.control.Pi.update.Goals as goal

-- an accumulated error fits
fits : (a : ℤ) → unsigned_abs a ≤ 2 ^ 40 → SFits w64 a
fits a small = omega (arith, ints)

-- either of two small numbers is small
either : (test : Bool) (a b : ℤ) → unsigned_abs a ≤ 2 ^ 40 → unsigned_abs b ≤ 2 ^ 40 → unsigned_abs (if test then a else b) ≤ 2 ^ 40
either true a b small small' = small
either false a b small small' = small'

-- the accumulated error before, as it is read
before_is : (c : goal.After-within_range) → to_z w64 (of_z w64 c.self.inside.accumulated) ≡ c.args.self.now.accumulated
before_is c = to_z-of_z w64 c.self.inside.accumulated (fits c.self.inside.accumulated c.self.invariant) ∙ ap (λ (v : Loop). v.accumulated) c.self.view_is

-- the accumulated error with one more, as it is computed
raised_is : (c : goal.After-within_range) → to_z w64 (of_z w64 c.raise-raised.result) ≡ raised c.args.self.now.accumulated c.args.e
raised_is c =
    to_z-of_z w64 c.raise-raised.result (record { sfits = c.raise-raised.type_inv }) ∙ c.raise-raised.ensures.value
    ∙ (λ i. raised (before_is c i) (to_z-of_z w32 c.args.e c.ranges.e i))

-- the drive, as it is computed
drive_is : (c : goal.After-within_range) → to_z w128 (of_z w128 c.drive-drive.result) ≡ drive c.args.self.now.gains (raised c.args.self.now.accumulated c.args.e) c.args.e
drive_is c =
    to_z-of_z w128 c.drive-drive.result (record { sfits = c.drive-drive.type_inv }) ∙ c.drive-drive.ensures
    ∙ (λ i. drive c.args.self.now.gains (raised_is c i) (to_z-of_z w32 c.args.e c.ranges.e i))

-- the accumulated error that is kept, of these two as they are read
kept_is : (c : goal.After-within_range) → to_z w64 (of_z w64 c.keep-self-inside.result) ≡ (if is_frozen (to_z w128 (of_z w128 c.drive-drive.result)) (to_z w32 (of_z w32 c.args.e)) then to_z w64 (of_z w64 c.self.inside.accumulated) else to_z w64 (of_z w64 c.raise-raised.result))
kept_is c = to_z-of_z w64 c.keep-self-inside.result (record { sfits = c.keep-self-inside.type_inv }) ∙ c.keep-self-inside.ensures

pub returns-clause-value : goal.returns-clause-value
returns-clause-value c =
    let kept = kept_is c ∙ (λ i. if is_frozen (drive_is c i) (to_z-of_z w32 c.args.e c.ranges.e i) then before_is c i else raised_is c i) in
    λ i. record { gains = (c.self.view_is i).gains; accumulated = kept i }

pub returns-clause-stands : goal.returns-clause-stands
returns-clause-stands c = Adds-updated _ _ _ (returns-clause-value c)

pub returns-clause-dac : goal.returns-clause-dac
returns-clause-dac c = c.within_range.ensures ∙ ap (saturate_unsigned w16) (drive_is c)

pub returns-clause-drives : goal.returns-clause-drives
returns-clause-drives c = λ errors stands. returns-clause-dac c ∙ value_at-stands c.args.self.now errors c.args.e stands

pub invariant_of-self : goal.invariant_of-self
invariant_of-self c =
    let before = to_z w64 (of_z w64 c.self.inside.accumulated) in
    let more = to_z w64 (of_z w64 c.raise-raised.result) in
    let before_small : unsigned_abs before ≤ 2 ^ 40 = rw (to_z-of_z w64 _ (fits c.self.inside.accumulated c.self.invariant)) c.self.invariant in
    let more_small : unsigned_abs more ≤ 2 ^ 40 = rw (to_z-of_z w64 _ (fits c.raise-raised.result c.raise-raised.ensures.size)) c.raise-raised.ensures.size in
    subst (λ (a : ℤ). unsigned_abs a ≤ 2 ^ 40) (sym (kept_is c))
    (either (is_frozen (to_z w128 (of_z w128 c.drive-drive.result)) (to_z w32 (of_z w32 c.args.e))) before more before_small more_small)
