-- The true values of a node's link at one moment (this project's profile). An offset is how far a clock
-- is ahead of the true time.
use Rattle.std.specs.Prelude.{ℕ, ℤ, ◌+ℤ◌, ◌-ℤ◌, ◌≤◌, List}
use Rattle.wrp_tracking_laws.specs.History.{Was, EachStep, IsSlow}

-- the true time, the node's ticks, the offsets of the node and of its parent, and the delays of the way
-- down and of the way up with their ports
pub record Moment : Type 0 where
  pub time : ℤ
  pub ticks : ℕ
  pub own : ℤ
  pub parent : ℤ
  pub down : ℤ
  pub up : ℤ

-- the true phase: the offset from the parent, and the way down
abbrev pub phase_at : Moment → ℤ
phase_at m = (m.own -ℤ m.parent) +ℤ m.down

-- both ways of the link with their ports
abbrev pub ways_at : Moment → ℤ
ways_at m = m.down +ℤ m.up

-- a quantity of the link moves from a to b at most at this rate, in 10^-12
abbrev pub MovesSlowly : ℕ → (Moment → ℤ) → Moment → Moment → Type 0
MovesSlowly rate quantity a b = IsSlow (λ m. m.time) rate quantity a b

-- what moves slowly in each step moves slowly between any two moments
abbrev pub SlowBetween : Type 0
SlowBetween =
    (rate i j : ℕ) (quantity : Moment → ℤ) (x y : Moment) (history : List Moment) →
    Was history i x → Was history j y → i ≤ j →
    EachStep (MovesSlowly rate quantity) i history →
    MovesSlowly rate quantity x y
