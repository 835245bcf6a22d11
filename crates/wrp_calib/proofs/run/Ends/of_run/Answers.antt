-- The ends of a run are its two measured delays.
use Rattle.std.proofs.Common.{◌≡◌, ℕ, ℤ, pos, ◌^◌, ◌<◌, ◌≤◌, ◌+ℤ◌, ◌-ℤ◌, unsigned_abs, List, length, get_or, FitsSigned, to_z, of_z, refl, ap, ap₂, ◌∙◌, sym, subst, arith}
use Rattle.std.specs.Int.{w64, w128}
use Rattle.std.proofs.lemmas.Int.{to_z-of_z, fits_signed_from_abs}
use Rattle.wrp_calib.specs.declared.span.Span.{Span}
use Rattle.wrp_calib.specs.declared.run.Ends.{Ends}
use Rattle.wrp_calib.specs.Span.{point, IsSmall}
use Rattle.wrp_calib.proofs.run.Ends.of_run.Goals as goal

-- the ends of two intervals
ends_of : Span → Span → Ends
ends_of down up = record { down = down; up = up }

-- a number of the run, as it is read
read_at : (t : List ℤ) (k : ℕ) → ((n : ℕ) (d : ℤ) → n < length t → unsigned_abs (get_or t n d) ≤ 2 ^ 60) → length t ≡ 5 → k < 5 →
    to_z w64 (of_z w64 (get_or t k (pos 0))) ≡ get_or t k (pos 0)
read_at t k small five h =
    let s : unsigned_abs (get_or t k (pos 0)) ≤ 2 ^ 60 = small k (pos 0) (omega arith) in
    to_z-of_z w64 (get_or t k (pos 0)) (fits_signed_from_abs w64 (get_or t k (pos 0)) (omega arith))

-- which is small
small_at : (t : List ℤ) (k : ℕ) → ((n : ℕ) (d : ℤ) → n < length t → unsigned_abs (get_or t n d) ≤ 2 ^ 60) → length t ≡ 5 → k < 5 →
    unsigned_abs (to_z w64 (of_z w64 (get_or t k (pos 0)))) ≤ 2 ^ 60
small_at t k small five h = rw (read_at t k small five h) (small k (pos 0) (omega arith))

-- the interval of a number, as it is read
point_is : (s : Span) (r a : ℤ) → FitsSigned w128 r → s ≡ point (to_z w128 (of_z w128 r)) → r ≡ a → s ≡ point a
point_is s r a fits e is = e ∙ ap point (to_z-of_z w128 r fits ∙ is)

-- the ends of a small number
point_small : (s : Span) (r : ℤ) → s ≡ point r → unsigned_abs r ≤ 2 ^ 62 → IsSmall 62 s
point_small s r e h = subst (IsSmall 62) (sym e) (h, h)

pub down_delay-down-requires-clause-t1 : goal.down_delay-down-requires-clause-t1
down_delay-down-requires-clause-t1 c = small_at c.args.t.now 0 c.requires c.told-t (omega arith)

pub down_delay-down-requires-clause-t2 : goal.down_delay-down-requires-clause-t2
down_delay-down-requires-clause-t2 c = small_at c.args.t.now 1 c.requires c.told-t (omega arith)

pub down_delay-down-requires-clause-skew : goal.down_delay-down-requires-clause-skew
down_delay-down-requires-clause-skew c = small_at c.args.t.now 4 c.requires c.told-t (omega arith)

pub up_delay-up-requires-clause-t3 : goal.up_delay-up-requires-clause-t3
up_delay-up-requires-clause-t3 c = small_at c.args.t.now 2 c.requires c.told-t (omega arith)

pub up_delay-up-requires-clause-t4 : goal.up_delay-up-requires-clause-t4
up_delay-up-requires-clause-t4 c = small_at c.args.t.now 3 c.requires c.told-t (omega arith)

pub up_delay-up-requires-clause-skew : goal.up_delay-up-requires-clause-skew
up_delay-up-requires-clause-skew c = small_at c.args.t.now 4 c.requires c.told-t (omega arith)

pub returns-clause-value : goal.returns-clause-value
unfolding ends_of
returns-clause-value c kind =
    let t = c.args.t.now in
    let minus = λ (a b : ℤ). a -ℤ b in
    let skew = read_at t 4 c.requires c.told-t (omega arith) in
    ap₂ ends_of
    (point_is c.at.result c.down_delay-down.result _ (record { sfits = c.down_delay-down.type_inv }) c.at.ensures
    (c.down_delay-down.ensures.value
    ∙ ap₂ minus (ap₂ minus (read_at t 1 c.requires c.told-t (omega arith)) (read_at t 0 c.requires c.told-t (omega arith))) skew))
    (point_is c.at-2.result c.up_delay-up.result _ (record { sfits = c.up_delay-up.type_inv }) c.at-2.ensures
    (c.up_delay-up.ensures.value
    ∙ ap₂ (λ (a b : ℤ). a +ℤ b) (ap₂ minus (read_at t 3 c.requires c.told-t (omega arith)) (read_at t 2 c.requires c.told-t (omega arith))) skew))

pub returns-clause-small : goal.returns-clause-small
returns-clause-small c = (
  point_small c.at.result c.down_delay-down.result
      (point_is c.at.result c.down_delay-down.result _ (record { sfits = c.down_delay-down.type_inv }) c.at.ensures refl) c.down_delay-down.ensures.small,
  point_small c.at-2.result c.up_delay-up.result
      (point_is c.at-2.result c.up_delay-up.result _ (record { sfits = c.up_delay-up.type_inv }) c.at-2.ensures refl) c.up_delay-up.ensures.small,
)
