-- A quotient rounded up is the least whole number that is at least the exact one.
use Rattle.std.proofs.Common.{◌≡◌, ℕ, zero, suc, ◌+◌, ◌*◌, ◌/◌, ◌%◌, ◌<◌, refl, ap, arith}
use Rattle.std.proofs.Math.Nat.{div-add-mod, mod-lt, zero-div}
use Rattle.wrp_bounds.specs.Motion.{rounded_up}
use Rattle.wrp_bounds.specs.Laws.{RoundsUp}

-- one more than the quotient of one less
rounded_up-suc : (n d : ℕ) → rounded_up (suc n) d ≡ suc (n / d)
unfolding rounded_up
rounded_up-suc n d = refl

-- none of nothing
rounded_up-zero : (d : ℕ) → rounded_up 0 d ≡ 0
unfolding rounded_up
rounded_up-zero d = let none : 0 / d ≡ 0 = zero-div d in rw none refl

pub rounded_up-next : RoundsUp
rounded_up-next zero d positive =
    let none : d * rounded_up 0 d ≡ d * 0 = ap (λ (q : ℕ). d * q) (rounded_up-zero d) in
    (omega arith, omega arith)
rounded_up-next (suc n) d positive =
    let whole : d * (n / d) + n % d ≡ n = div-add-mod n d in
    let left : n % d < d = mod-lt n positive in
    let more : d * rounded_up (suc n) d ≡ d * suc (n / d) = ap (λ (q : ℕ). d * q) (rounded_up-suc n d) in
    (omega arith, omega arith)
