-- What an event does to the parts of a plant, as the code keeps them (this project's profile).
use Rattle.std.specs.Prelude.{◌≡◌, ◌+◌, ◌==◌, ◌||◌, ◌≤◌, ◌+ℤ◌, ◌^◌, ℕ, ℤ, Bool, true, false, unsigned_abs, List, [], length, Option, None, Some, option_map, slice_get, vec_len, vec_capacity}
use Rattle.wrp_base.specs.declared.link.Role.TheVariants.{Master, Slave}
use Rattle.wrp_network.specs.declared.network.LinkCfg.{LinkCfg}
use Rattle.wrp_course.specs.declared.clocks.ClockState.{ClockState}
use Rattle.wrp_plant.specs.declared.ends.EndState.{EndState}
use Rattle.wrp_plant.specs.declared.ends.Span.{Span}
use Rattle.wrp_course.specs.declared.event.Swap.{Swap}
use Rattle.wrp_course.specs.declared.fibres.FibreState.{FibreState}
use Rattle.wrp_flights.specs.Frames.{FramesAt}
use Rattle.wrp_plant.specs.declared.plant.Plant.{Plant}
use Rattle.wrp_course.specs.Moved.{drift_of, move_of, swap_at}
use Rattle.wrp_course.specs.Setting.{end_of, is_of}

-- two lists of the same length: each element of the second comes from the element at the same place in the first, by R
abbrev pub EachBecame : {A : Type 0} → (ℕ → A → A → Type 0) → List A → List A → Type 0
EachBecame {A} R xs ys = (length ys ≡ length xs) × ((n : ℕ) (y : A) → slice_get ys n ≡ Some y → (x : A) × (slice_get xs n ≡ Some x) × R n x y)

-- a change that is made if the test is true; otherwise nothing changes
abbrev pub Where : {A : Type 0} → Bool → (A → A → Type 0) → A → A → Type 0
Where true C old new = C old new
Where false C old new = new ≡ old

-- only the element at this place changes
abbrev pub At : {A : Type 0} → ℕ → (A → A → Type 0) → ℕ → A → A → Type 0
At k C n old new = Where (n == k) C old new

abbrev pub Stays : {A : Type 0} → ℕ → A → A → Type 0
Stays n old new = new ≡ old

-- Clocks

pub record Drifts (drifts : List ℤ) (n : ℕ) (old new : ClockState) : Type 0 where
  pub clock : new ≡ record old { off = old.off +ℤ drift_of drifts n }
  pub size : unsigned_abs (drift_of drifts n) ≤ 2 ^ 63

abbrev pub Samples : (old new : ClockState) → Type 0
Samples old new = new ≡ record old { samples = old.samples + 1 }

abbrev pub GoesDown : (old new : ClockState) → Type 0
GoesDown old new = new ≡ record old { up = false }

abbrev pub ComesUp : (off now : ℤ) → (old new : ClockState) → Type 0
ComesUp off now old new = new ≡ record { up = true; off = off; ticked = now; samples = 0 }

-- Fibres and ends

-- the fibre of a link becomes this one, and both its ends stay as they are
pub record HasFibre (after : FibreState) (old new : Span) : Type 0 where
  pub fibre : new.fibre ≡ after
  pub master : new.master ≡ old.master
  pub slave : new.slave ≡ old.slave

pub record Moves (moves : List (ℤ × ℤ)) (k : ℕ) (old new : Span) : Type 0 where
  pub span : HasFibre (record old.fibre { ms = old.fibre.ms +ℤ (move_of moves k).0; sm = old.fibre.sm +ℤ (move_of moves k).1 }) old new
  pub down : unsigned_abs (move_of moves k).0 ≤ 2 ^ 63
  pub up : unsigned_abs (move_of moves k).1 ≤ 2 ^ 63

abbrev pub Joins : (ms sm : ℤ) → (old new : Span) → Type 0
Joins ms sm old new = HasFibre (record { joined = true; ms = ms; sm = sm }) old new

-- the frames that waited at an end are lost
pub record Empties (old new : EndState) : Type 0 where
  pub name : new.name ≡ old.name
  pub tx : new.tx ≡ old.tx
  pub rx : new.rx ≡ old.rx
  pub waiting : new.waiting.items ≡ []
  pub len : vec_len new.waiting ≡ 0
  pub room : vec_capacity new.waiting ≡ vec_capacity old.waiting
  pub marks : new.marks ≡ old.marks

-- the fibre of a link becomes this one, and the frames that waited at both ends are lost
pub record Loses (after : FibreState) (old new : Span) : Type 0 where
  pub fibre : new.fibre ≡ after
  pub master : Empties old.master new.master
  pub slave : Empties old.slave new.slave

abbrev pub Cuts : (old new : Span) → Type 0
Cuts old new = Loses (record old.fibre { joined = false }) old new

abbrev pub Drops : (old new : Span) → Type 0
Drops old new = Loses old.fibre old new

-- an end of this link, if there is one, belongs to this node
abbrev pub touches_in : ℕ → Option LinkCfg → Bool
touches_in n link = is_of n (option_map (end_of Master) link) || is_of n (option_map (end_of Slave) link)

-- the same at the links of a node
abbrev pub DropsAt : ℕ → List LinkCfg → ℕ → (old new : Span) → Type 0
DropsAt n links k old new = Where (touches_in n (slice_get links k)) Drops old new

-- Modules that are installed

-- a module is installed at an end
pub record Put (swap : Swap) (old new : EndState) : Type 0 where
  pub name : new.name.bytes ≡ swap.name.bytes
  pub tx : new.tx ≡ swap.tx
  pub rx : new.rx ≡ swap.rx
  pub waiting : new.waiting ≡ old.waiting
  pub marks : new.marks ≡ old.marks

abbrev pub Swapped : Option Swap → (old new : EndState) → Type 0
Swapped None old new = new ≡ old
Swapped (Some swap) old new = Put swap old new

-- the same at the ends of a link that belong to a node
pub record SwapsSpan (n : ℕ) (link : LinkCfg) (swaps : List Swap) (old new : Span) : Type 0 where
  pub fibre : new.fibre ≡ old.fibre
  pub master : Where (link.upper == n) (Swapped (swap_at link.upper_port swaps)) old.master new.master
  pub slave : Where (link.lower == n) (Swapped (swap_at link.lower_port swaps)) old.slave new.slave

abbrev pub SwapsIn : ℕ → List Swap → Option LinkCfg → (old new : Span) → Type 0
SwapsIn n swaps None old new = new ≡ old
SwapsIn n swaps (Some link) old new = SwapsSpan n link swaps old new

abbrev pub SwapsAt : ℕ → List Swap → List LinkCfg → ℕ → (old new : Span) → Type 0
SwapsAt n swaps links k old new = SwapsIn n swaps (slice_get links k) old new

-- All parts

abbrev pub Same : {A : Type 0} → (old new : List A) → Type 0
Same old new = new ≡ old

abbrev pub SameFrames : (old new : FramesAt) → Type 0
SameFrames old new = new ≡ old

-- what an event did to a plant: these changes of its clocks, links and frames, and its new time
pub record Changed (clocks : List ClockState → List ClockState → Type 0) (spans : List Span → List Span → Type 0) (frames : FramesAt → FramesAt → Type 0) (now : ℤ) (old new : Plant) : Type 0 where
  pub cfg : new.net.cfg ≡ old.net.cfg
  pub db : new.net.db ≡ old.net.db
  pub time : new.time ≡ now
  pub count : new.events ≡ old.events + 1
  pub of_clocks : clocks old.clocks.items new.clocks.items
  pub of_spans : spans old.spans.items new.spans.items
  pub of_frames : frames old.frames new.frames
  pub spare : new.spare ≡ old.spare
  pub last_put : new.last_put ≡ old.last_put
  pub top : new.top ≡ old.top
