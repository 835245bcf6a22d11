-- The numbered calls of an object in memory, and which of them fail (this project's profile).
use Rattle.std.specs.Prelude.{ℕ, ◌+◌, min, List, Contains}
use Rattle.wrp_io.specs.Faults.{greatest_count}

-- one more, up to the greatest count
abbrev pub one_more : ℕ → ℕ
one_more count = min (count + 1) greatest_count

-- how many calls were made, the numbers of those that fail, counted from 1, and how many failed
pub record CallsAt : Type 0 where
  pub made : ℕ
  pub fails : List ℕ
  pub faults : ℕ

-- no calls yet
abbrev pub no_calls : List ℕ → CallsAt
no_calls fails = record { made = 0; fails = fails; faults = 0 }

-- the next call is one of those that fail
abbrev pub IsListed : CallsAt → Type 0
IsListed calls = Contains calls.fails (one_more calls.made)

-- the calls, and one more that answered Ok
abbrev pub after_good : CallsAt → CallsAt
after_good calls = record calls { made = one_more calls.made }

-- the calls, and one more that failed
abbrev pub after_fault : CallsAt → CallsAt
after_fault calls = record calls { made = one_more calls.made; faults = one_more calls.faults }
