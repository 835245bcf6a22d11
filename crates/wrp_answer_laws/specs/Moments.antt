-- The next moment of a simulation is the least of the moments after now (this project's profile).
use Rattle.std.specs.Prelude.{◌≡◌, ◌⊎◌, ℤ, pos, ◌+ℤ◌, ◌<ℤ◌, ◌≤ℤ◌, ◌^◌, List}
use Rattle.std.specs.List.{AllByRecursion, Contains}
use Rattle.wrp_sim.specs.Rules.{next_moment}

-- a moment after now and at most 2^62 tau after it: it is one of these, or the last moment of that time, and none
-- of these that is after now is sooner
pub record IsNextMoment (now : ℤ) (times : List ℤ) (moment : ℤ) : Type 0 where
  pub after : now <ℤ moment
  pub most : moment ≤ℤ (now +ℤ pos (2 ^ 62))
  pub is : (moment ≡ now +ℤ pos (2 ^ 62)) ⊎ Contains times moment
  pub least : AllByRecursion (λ time. now <ℤ time → moment ≤ℤ time) times

-- the next moment is that
abbrev pub NextIsLeast : Type 0
NextIsLeast = (now : ℤ) (times : List ℤ) → IsNextMoment now times (next_moment now times)
