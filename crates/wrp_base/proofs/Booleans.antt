-- Small laws of Booleans.
use Rattle.std.proofs.Common.{Bool, false, refl, true, ◌&&◌, ◌≡◌}

pub not_both : (b : Bool) → b ≡ true → b ≡ false → ⊥
not_both b e f = cc

pub and_first : (a b : Bool) → (a && b) ≡ true → a ≡ true
and_first true b h = refl
and_first false b h = h

pub and_second : (a b : Bool) → (a && b) ≡ true → b ≡ true
and_second true b h = h
and_second false b h = absurd (cc h)
