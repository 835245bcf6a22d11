-- The counters of a port: one number for each reason, in the order of the reasons (this project's
-- profile).
use Rattle.std.specs.Prelude.{◌≡◌, ℕ, ◌+◌, ◌-◌, ◌^◌, ◌≤◌, ◌==◌, min, List, length, map, filter, count_by, replicate, slice_index, slice_set, nat_lt}
use Rattle.wrp_data.specs.declared.reason.Reason.{Reason}
use Rattle.wrp_data.specs.Reason.{number_of, reasons}

-- nothing was counted
abbrev pub no_counts : List ℕ
no_counts = replicate 15 0

-- the greatest number that a counter reaches
abbrev pub greatest_count : ℕ
greatest_count = 2 ^ 32 - 1

-- the counter of the reason of this number
abbrev pub count_at : List ℕ → ℕ → ℕ
count_at counters reason = slice_index counters (reason - 1)

-- the counters after a reason was counted: its own is raised by one, up to the greatest number
abbrev pub counts_after : List ℕ → ℕ → List ℕ
counts_after counters reason =
    slice_set counters (reason - 1) (min (count_at counters reason + 1) greatest_count)

-- how often a reason is among these, held at the greatest number of a counter
abbrev pub times_among : List ℕ → ℕ → ℕ
times_among counted reason = min (count_by (λ r. r == reason) counted) greatest_count

-- the counters stand for the reasons that were counted, newest first: each is the number of times that its own reason
-- was counted
pub record StandsFor (counters counted : List ℕ) : Type 0 where
  pub one_each : length counters ≡ 15
  pub times : (reason : ℕ) → 1 ≤ reason → reason ≤ 15 → count_at counters reason ≡ times_among counted reason

-- some reasons, each with its counter, if that is not 0
abbrev pub nonzero_among : List Reason → List ℕ → List (Reason × ℕ)
nonzero_among some counters =
    filter (λ c. nat_lt 0 c.1) (map (λ reason. (reason, count_at counters (number_of reason))) some)

-- the counters that are not 0, each with its reason, in the order of the reasons
unfoldable pub nonzero_counts : List ℕ → List (Reason × ℕ)
nonzero_counts counters = nonzero_among reasons counters
