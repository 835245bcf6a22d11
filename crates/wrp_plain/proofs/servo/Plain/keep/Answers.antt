-- A measurement is kept in front of the others.
use Rattle.std.proofs.Common.{ℕ, zero, suc, ℤ, pos, ◌≢◌, List, [], sym, ◌≡◌, ◌≤◌, ◌^◌, ◌∷◌, take, ap, ◌∙◌, arith, to_z, of_z, FitsSigned, unsigned_abs}
use Rattle.std.specs.Int.{w64, w128}
use Rattle.std.proofs.lemmas.Int.{to_z-of_z, fits_signed_from_abs}
use Rattle.circular_buffer.specs.Buffer.{Buffer}
use Rattle.wrp_plain.specs.declared.kept.Kept.{Kept}
use Rattle.wrp_plain.specs.Measurement.{base_of}
use Rattle.wrp_plain.specs.StandsFor.{IsKept, marks_from}
use Rattle.wrp_plain.proofs.Adding.{Adds-measured, pushed}
use Rattle.wrp_plain.proofs.servo.Plain.keep.Goals as goal

le_same : (n : ℕ) → n ≤ n
le_same n = omega arith

fits_last : (a : ℤ) → unsigned_abs a ≤ 2 ^ 60 → FitsSigned w64 a
fits_last a h = fits_signed_from_abs w64 a (omega arith)

fits_base : (a : ℤ) → unsigned_abs a ≤ 2 ^ 64 → FitsSigned w128 a
fits_base a h = fits_signed_from_abs w128 a (omega arith)

pub invariant_of-self : goal.invariant_of-self
invariant_of-self c =
    let kept : Kept = record { est = c.args.est; base = c.base.result; ticks = c.self.inside.ticks; before = c.self.inside.last } in
    let est : to_z w128 (of_z w128 c.args.est) ≡ c.args.est = to_z-of_z w128 c.args.est c.ranges.est in
    let base : to_z w128 (of_z w128 c.base.result) ≡ c.base.result = to_z-of_z w128 c.base.result (fits_base c.base.result c.base.ensures.small) in
    let last : to_z w64 (of_z w64 c.self.inside.last) ≡ c.self.inside.last = to_z-of_z w64 c.self.inside.last (fits_last c.self.inside.last c.self.invariant.3) in
    let is_kept : IsKept c.self.inside.ticks kept =
    record { est = c.requires.est; base = c.base.ensures.small; ticks_passed = le_same c.self.inside.ticks; before = c.self.invariant.3 } in
    let items = simp (est, base, last) at c.push_front-oldest.ensures.items in
    let stays = pushed c.push_front-oldest.new.self c.self.inside.ring.capacity c.self.inside.set.ring c.self.inside.ticks kept c.self.inside.ring.items
    items c.self.invariant.1 is_kept c.self.invariant.4 in
    (c.self.invariant.0, stays.0, stays.1, omega arith, stays.2)

pub returns-clause-stands : goal.returns-clause-stands
returns-clause-stands c =
    let kept : Kept = record { est = c.args.est; base = c.base.result; ticks = c.self.inside.ticks; before = c.self.inside.last } in
    let est : to_z w128 (of_z w128 c.args.est) ≡ c.args.est = to_z-of_z w128 c.args.est c.ranges.est in
    let round : to_z w128 (of_z w128 c.args.round) ≡ c.args.round = to_z-of_z w128 c.args.round c.ranges.round in
    let base : to_z w128 (of_z w128 c.base.result) ≡ c.base.result = to_z-of_z w128 c.base.result (fits_base c.base.result c.base.ensures.small) in
    let last : to_z w64 (of_z w64 c.self.inside.last) ≡ c.self.inside.last = to_z-of_z w64 c.self.inside.last (fits_last c.self.inside.last c.self.invariant.3) in
    let items = simp (est, base, last) at c.push_front-oldest.ensures.items in
    Adds-measured c.self.inside.set c.self.inside.ring.items c.push_front-oldest.new.self.items c.self.inside.last c.self.inside.ticks
    c.args.est c.base.result c.args.round c.args.self.now c.self.view_is
    (ap (λ (b : Buffer Kept). b.items) items ∙ ap (λ (n : ℕ). take n (kept ∷ c.self.inside.ring.items)) c.self.invariant.1)
    (c.base.ensures.value ∙ ap (base_of c.args.self.now.set) round)

-- a ring with room keeps the newest
newest : (cap ticks : ℕ) (kept : Kept) (ring : List Kept) → 1 ≤ cap → marks_from (pos 0) ticks (take cap (kept ∷ ring)) ≢ []
newest zero ticks kept ring h e = absurd (omega arith)
newest (suc n) ticks kept ring h e = cc

pub returns-clause-some : goal.returns-clause-some
returns-clause-some c e =
    newest c.self.inside.ring.capacity c.self.inside.ticks _ c.self.inside.ring.items
    (rw c.self.invariant.1 c.self.invariant.0.ring.0)
    (ap (λ (b : Buffer Kept). marks_from (pos 0) c.self.inside.ticks b.items) (sym c.push_front-oldest.ensures.items) ∙ e)
