-- Rates: how far the clocks and the fibre of a hop moved between two moments (this project's profile).
use Rattle.std.specs.Prelude.{ℕ, ℤ, pos, ◌≡◌, ◌*◌, ◌≤◌, ◌+ℤ◌, ◌-ℤ◌, unsigned_abs}
use Rattle.wrp_bounds.specs.declared.numbers.HopNumbers.{HopNumbers}
use Rattle.wrp_tracking_laws.specs.Moment.{Moment}

-- a quantity moved in this time at most at a rate in 10^-12
abbrev pub MovedBy : (rate time : ℕ) → (before later : ℤ) → Type 0
MovedBy rate time before later =
    unsigned_abs (later -ℤ before) * 1_000_000_000_000 ≤ rate * time

-- b is a time after a, in which the parent and both ways of the fibre kept their rates: the node's own
-- clock need not, since a Sync may depart before the chain began
pub record KeepsParentRate (hop : HopNumbers) (a b : Moment) (time : ℕ) : Type 0 where
  pub later : b.time ≡ a.time +ℤ pos time
  pub parent : MovedBy hop.parent.rate time a.parent b.parent
  pub down : MovedBy 2 time a.down b.down
  pub up : MovedBy 2 time a.up b.up

-- the same, and the node's own clock kept its rate too
pub record KeepsRates (hop : HopNumbers) (a b : Moment) (time : ℕ) : Type 0 where
  pub above : KeepsParentRate hop a b time
  pub own : MovedBy hop.own.rate time a.own b.own
