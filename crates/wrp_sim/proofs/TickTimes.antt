-- The tick times of nodes.
use Rattle.std.proofs.Common.{◌≡◌, refl, sym, subst, ℕ, ◌==◌, ℤ, Bool, true, false, if◌then◌else◌, List, slice_set, eq-eqb, eqb-true}
use Rattle.wrp_plant.specs.Plant.{Each}
use Rattle.wrp_course.specs.Setting.{Setting}
use Rattle.wrp_sim.specs.Rules.{drawn_tick, with_tick}
use Rattle.wrp_sim.specs.SimAt.{SimAt}
use Rattle.wrp_sim.proofs.SimLists.{each_set}

where_same : (b : Bool) (x y z : ℤ) → b ≡ true → x ≡ y → x ≡ (if b then y else z)
where_same b x y z e f = subst (λ v. x ≡ (if v then y else z)) (sym e) f

where_other : (b : Bool) (x y z : ℤ) → (b ≡ true → ⊥) → x ≡ z → x ≡ (if b then y else z)
where_other true x y z e f = absurd (e refl)
where_other false x y z e f = f

pub ticks_set : (s : Setting) (now : ℤ) (n : ℕ) (at : SimAt) (xs : List ℤ) (y : ℤ) → Each (λ m x. x ≡ at.tick_at m) xs → y ≡ drawn_tick s now at.state →
    Each (λ m x. x ≡ (with_tick s now n at).tick_at m) (slice_set xs n y)
ticks_set s now n at xs y h e =
    each_set (λ m x. x ≡ at.tick_at m) (λ m x. x ≡ (with_tick s now n at).tick_at m) xs n y h
    (where_same (n == n) y (drawn_tick s now at.state) (at.tick_at n) (eq-eqb n n refl) e)
    (λ m x other g. where_other (m == n) x (drawn_tick s now at.state) (at.tick_at m) (λ k. other (eqb-true m n k)) g)
