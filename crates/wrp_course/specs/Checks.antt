-- What a premise compares: each premise is a list of checks, in the order in which they are tried (this project's profile).
use Rattle.std.specs.Prelude.{◌≡◌, ◌&&◌, ℕ, ℤ, pos, unsigned_abs, not, Bool, true, false, Option, List, option_map}
use Rattle.std.specs.Int.Signed.{le_z}
use Rattle.std.specs.List.{AllByRecursion, find}
use Rattle.wrp_course.specs.declared.breach.Breach.{Breach}

-- one comparison: the number of its premise, whether it fails, and its two sides
pub record Check : Type 0 where
  pub premise : ℕ
  pub fails : Bool
  pub shown : ℤ
  pub bound : ℤ

-- shown must be at most the bound
abbrev pub at_most : ℕ → ℤ → ℤ → Check
at_most premise shown bound =
    record { premise = premise; fails = not (le_z shown bound); shown = shown; bound = bound }

-- shown must be at least the bound
abbrev pub at_least : ℕ → ℤ → ℤ → Check
at_least premise shown bound =
    record { premise = premise; fails = not (le_z bound shown); shown = shown; bound = bound }

-- a check that is made only if it has something to check
abbrev pub only_where : Bool → Check → Check
only_where exists check = record check { fails = exists && check.fails }

-- the size of a difference, without its sign, in the same unit
abbrev pub size_of : ℤ → ℤ
size_of x = pos (unsigned_abs x)

-- 13, NotUp: what the event needs is there
abbrev pub needs : Bool → Check
needs holds = record { premise = 13; fails = not holds; shown = pos 0; bound = pos 1 }

-- 11, NotSent: there is no such frame; shown is its number, and bound the last number that was given
abbrev pub not_sent : ℕ → ℕ → Check
not_sent number last = record { premise = 11; fails = true; shown = pos number; bound = pos last }

-- a check holds: its comparison does not fail
abbrev pub Holds : Check → Type 0
Holds check = check.fails ≡ false

-- no check fails
abbrev pub AllHold : List Check → Type 0
AllHold checks = AllByRecursion Holds checks

-- the first that fails
abbrev pub first_broken : List Check → Option Check
first_broken checks = find (λ check. check.fails) checks

-- what is reported of a check that fails: its premise and its two sides
abbrev pub breach_of : Check → Breach
breach_of check = record { premise = check.premise; shown = check.shown; bound = check.bound }

-- what is reported of these checks: the first that fails, if one does
abbrev pub told_of : List Check → Option Breach
told_of checks = option_map breach_of (first_broken checks)
