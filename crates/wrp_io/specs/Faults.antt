-- Counts of faults: the count of an object rises if and only if a call of it fails (this project's profile).
use Rattle.std.specs.Prelude.{◌≡◌, ◌≢◌, ◌⊎◌, ℕ, ◌-◌, ◌^◌, ◌<◌, ◌≤◌, Result, Err, IsErr, OnOk}
use Rattle.wrp_io.specs.declared.link.StartFault.{StartFault}
use Rattle.wrp_io.specs.declared.link.StartFault.TheVariants.{Failed}

-- the greatest u64, at which a count stays
abbrev pub greatest_count : ℕ
greatest_count = 2 ^ 64 - 1

-- the count rose, or stayed at its greatest value
abbrev pub Rose : ℕ → ℕ → Type 0
Rose before now = (before < now) ⊎ ((before ≡ greatest_count) × (now ≡ greatest_count))

-- the count never falls and is never above the greatest u64, at which it stays; a call that answers Ok leaves it as it
-- was, and one that failed raised it
pub record HasCause {T E : Type 0} (before now : ℕ) (result : Result T E) : Type 0 where
  pub within : now ≤ greatest_count
  pub later : before ≤ now
  pub stays : before ≡ greatest_count → now ≡ greatest_count
  pub kept : OnOk result (now ≡ before)
  pub rose : IsErr result → Rose before now

-- the same at a start: running out of memory is no failure, and leaves the count as it was
pub record HasStartCause (before now : ℕ) (result : Result (Unit {0}) StartFault) : Type 0 where
  pub within : now ≤ greatest_count
  pub later : before ≤ now
  pub stays : before ≡ greatest_count → now ≡ greatest_count
  pub kept : result ≢ Err Failed → now ≡ before
  pub rose : result ≡ Err Failed → Rose before now
