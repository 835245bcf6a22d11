-- The next moment is the least of the moments after now.
use Rattle.std.proofs.Common.{◌≡◌, ◌∙◌, ◌⊎◌, inl, inr, refl, sym, suc, ◌^◌, ◌&&◌, ℤ, pos, ◌+ℤ◌, ◌<ℤ◌, ◌≤ℤ◌, Bool, true, false, if◌then◌else◌, List, [], ◌∷◌, fold, arith}
use Rattle.std.specs.List.{AllByRecursion, Contains}
use Rattle.std.specs.Int.Signed.{lt_z}
use Rattle.std.proofs.lemmas.Int.{ints}
use Rattle.wrp_sim.specs.Rules.{next_moment, sooner}
use Rattle.wrp_answer_laws.specs.Moments.{NextIsLeast}

-- the sooner of two is no later than either, after now, and one of them
record IsSooner (now best moment got : ℤ) : Type 0 where
  after : now <ℤ got
  most : got ≤ℤ best
  least : now <ℤ moment → got ≤ℤ moment
  is : (got ≡ best) ⊎ (got ≡ moment)

one_of : (b : Bool) (best moment : ℤ) → ((if b then moment else best) ≡ best) ⊎ ((if b then moment else best) ≡ moment)
one_of true best moment = inr refl
one_of false best moment = inl refl

no_later : (now best moment : ℤ) → now <ℤ best → now <ℤ moment → sooner now best moment ≤ℤ moment
no_later now best moment h k = grind (arith, ints)

sooner_is : (now best moment : ℤ) → now <ℤ best → IsSooner now best moment (sooner now best moment)
sooner_is now best moment h = record {
  after = grind (arith, ints);
  most = grind (arith, ints);
  least = λ k. no_later now best moment h k;
  is = one_of (lt_z now moment && lt_z moment best) best moment;
}

-- the least of some moments, with the best so far among them
record Least (now best : ℤ) (times : List ℤ) (got : ℤ) : Type 0 where
  after : now <ℤ got
  most : got ≤ℤ best
  is : (got ≡ best) ⊎ Contains times got
  least : AllByRecursion (λ time. now <ℤ time → got ≤ℤ time) times

no_more : (a b c : ℤ) → a ≤ℤ b → b ≤ℤ c → a ≤ℤ c
no_more a b c h k = omega (arith, ints, h, k)

found_by : (best moment sooner got : ℤ) (times : List ℤ) → (sooner ≡ best) ⊎ (sooner ≡ moment) → (got ≡ sooner) ⊎ Contains times got
    → (got ≡ best) ⊎ Contains (moment ∷ times) got
found_by best moment sooner got times one (inr there) = let below = there.1 in inr (suc there.0, omega (arith, below), there.2)
found_by best moment sooner got times (inl old) (inl same) = inl (same ∙ old)
found_by best moment sooner got times (inr new) (inl same) = inr (0, omega arith, sym (same ∙ new))

least_of : (now best : ℤ) (times : List ℤ) → now <ℤ best → Least now best times (fold (sooner now) best times)
least_of now best [] h = record { after = h; most = omega (arith, ints); is = inl refl; least = tt }
least_of now best (moment ∷ times) h =
    let next : ℤ = sooner now best moment in
    let one : IsSooner now best moment next = sooner_is now best moment h in
    let rest : Least now next times (fold (sooner now) next times) = least_of now next times one.after in
    record {
      after = rest.after;
      most = no_more (fold (sooner now) next times) next best rest.most one.most;
      is = found_by best moment next (fold (sooner now) next times) times one.is rest.is;
      least = (λ k. no_more (fold (sooner now) next times) next moment rest.most (one.least k), rest.least);
    }

far_on : (now : ℤ) → now <ℤ (now +ℤ pos (2 ^ 62))
far_on now = omega (arith, ints)

pub next_is_least : NextIsLeast
next_is_least now times =
    let it : Least now (now +ℤ pos (2 ^ 62)) times (next_moment now times) = least_of now (now +ℤ pos (2 ^ 62)) times (far_on now) in
    record { after = it.after; most = it.most; is = it.is; least = it.least }
