-- The change that an event makes by itself leaves the memory that was taken, and steps no clock.
use Rattle.std.proofs.Common.{◌≡◌, ◌∙◌, ap, sym, subst, ℕ, ◌+◌, ◌*◌, ◌==◌, ◌≤◌, ◌^◌, ℤ, Bool, true, false, List, Option, None, Some, slice_get, vec_len, vec_capacity, unsigned_abs, arith}
use Rattle.wrp_network.specs.declared.network.LinkCfg.{LinkCfg}
use Rattle.wrp_course.specs.declared.clocks.ClockState.{ClockState}
use Rattle.wrp_plant.specs.declared.ends.EndState.{EndState}
use Rattle.wrp_plant.specs.declared.ends.Span.{Span}
use Rattle.wrp_course.specs.declared.event.Swap.{Swap}
use Rattle.wrp_course.specs.declared.fibres.FibreState.{FibreState}
use Rattle.wrp_flights.specs.Frames.{FramesAt}
use Rattle.wrp_plant.specs.declared.plant.Plant.{Plant}
use Rattle.wrp_course.specs.Moved.{swap_at}
use Rattle.wrp_changes.specs.Moves.{EachBecame, Same, Where, At, Changed, HasFibre, Moves, Joins, Empties, Loses, Cuts, Drops, DropsAt, touches_in, Swapped, SwapsIn, SwapsAt}
use Rattle.wrp_plant.specs.Plant.{Each, FitsPlant}
use Rattle.wrp_changes.specs.PlantTold.{NoneStepped}
use Rattle.wrp_plant.specs.EndRoom.{HasEndRoom, HasSpanRoom}
use Rattle.wrp_changes.specs.Room.{HasRoom}
use Rattle.wrp_changes.proofs.Turned.{each_turned}

emptied_room : (k : ℕ) (x y : EndState) → Empties x y → HasEndRoom k x → HasEndRoom k y
emptied_room k x y r h = record {
  waiting = omega (arith, h.waiting, r.len, r.room);
  marks = subst (λ m. vec_len m + k ≤ vec_capacity m) (sym r.marks) h.marks;
}

same_span : (k : ℕ) (after : FibreState) (x y : Span) → HasFibre after x y → HasSpanRoom k x → HasSpanRoom k y
same_span k after x y r h = record { master = subst (HasEndRoom k) (sym r.master) h.master; slave = subst (HasEndRoom k) (sym r.slave) h.slave }

lost_span : (k : ℕ) (after : FibreState) (x y : Span) → Loses after x y → HasSpanRoom k x → HasSpanRoom k y
lost_span k after x y r h =
    record { master = emptied_room k x.master y.master r.master h.master; slave = emptied_room k x.slave y.slave r.slave h.slave }

pub where_room : {A : Type 0} (b : Bool) (C : A → A → Type 0) (P : A → Type 0) (x y : A) → Where b C x y → (C x y → P x → P y) → P x → P y
where_room true C P x y r f h = f r h
where_room false C P x y r f h = subst P (sym r) h

swapped_room : (k : ℕ) (swap : Option Swap) (x y : EndState) → Swapped swap x y → HasEndRoom k x → HasEndRoom k y
swapped_room k None x y r h = subst (HasEndRoom k) (sym r) h
swapped_room k (Some swap) x y r h = record {
  waiting = subst (λ v. vec_len v + 4 * k ≤ vec_capacity v) (sym r.waiting) h.waiting;
  marks = subst (λ m. vec_len m + k ≤ vec_capacity m) (sym r.marks) h.marks;
}

swaps_room : (k n : ℕ) (swaps : List Swap) (o : Option LinkCfg) (x y : Span) → SwapsIn n swaps o x y → HasSpanRoom k x → HasSpanRoom k y
swaps_room k n swaps None x y r h = subst (HasSpanRoom k) (sym r) h
swaps_room k n swaps (Some link) x y r h = record {
  master = where_room (link.upper == n) (Swapped (swap_at link.upper_port swaps)) (HasEndRoom k) x.master y.master r.master (swapped_room k (swap_at link.upper_port swaps) x.master y.master) h.master;
  slave = where_room (link.lower == n) (Swapped (swap_at link.lower_port swaps)) (HasEndRoom k) x.slave y.slave r.slave (swapped_room k (swap_at link.lower_port swaps) x.slave y.slave) h.slave;
}

-- Each event

abbrev Clocks : Type 1
Clocks = List ClockState → List ClockState → Type 0

abbrev Frames : Type 1
Frames = FramesAt → FramesAt → Type 0

pub same_room : (C : Clocks) (F : Frames) (t : ℤ) (old new : Plant) → Changed C Same F t old new → (k : ℕ) → HasRoom k old → HasRoom k new
same_room C F t old new c k h = subst (Each (λ i. HasSpanRoom k)) (sym c.of_spans) h

turned_room : (R : ℕ → Span → Span → Type 0) (C : Clocks) (F : Frames) (t : ℤ) (old new : Plant) → Changed C (EachBecame R) F t old new → (k : ℕ) →
    ((i : ℕ) (x y : Span) → R i x y → HasSpanRoom k x → HasSpanRoom k y) → HasRoom k old → HasRoom k new
turned_room R C F t old new c k f h = each_turned R (λ i. HasSpanRoom k) (λ i. HasSpanRoom k) old.spans.items new.spans.items c.of_spans f h

pub pass_room : (moves : List (ℤ × ℤ)) (C : Clocks) (F : Frames) (t : ℤ) (old new : Plant) → Changed C (EachBecame (Moves moves)) F t old new → (k : ℕ) → HasRoom k old → HasRoom k new
pass_room moves C F t old new c k h = turned_room (Moves moves) C F t old new c k (λ i x y r p. same_span k _ x y r.span p) h

pub join_room : (l : ℕ) (ms sm : ℤ) (C : Clocks) (F : Frames) (t : ℤ) (old new : Plant) → Changed C (EachBecame (At l (Joins ms sm))) F t old new → (k : ℕ) → HasRoom k old → HasRoom k new
join_room l ms sm C F t old new c k h =
    turned_room (At l (Joins ms sm)) C F t old new c k (λ i x y r p. where_room (i == l) (Joins ms sm) (HasSpanRoom k) x y r (λ q. same_span k _ x y q) p) h

pub cut_room : (l : ℕ) (C : Clocks) (F : Frames) (t : ℤ) (old new : Plant) → Changed C (EachBecame (At l Cuts)) F t old new → (k : ℕ) → HasRoom k old → HasRoom k new
cut_room l C F t old new c k h =
    turned_room (At l Cuts) C F t old new c k (λ i x y r p. where_room (i == l) Cuts (HasSpanRoom k) x y r (λ q. lost_span k _ x y q) p) h

pub down_room : (n : ℕ) (links : List LinkCfg) (C : Clocks) (F : Frames) (t : ℤ) (old new : Plant) → Changed C (EachBecame (DropsAt n links)) F t old new → (k : ℕ) → HasRoom k old → HasRoom k new
down_room n links C F t old new c k h =
    turned_room (DropsAt n links) C F t old new c k
    (λ i x y r p. where_room (touches_in n (slice_get links i)) Drops (HasSpanRoom k) x y r (λ q. lost_span k _ x y q) p) h

pub up_room : (n : ℕ) (swaps : List Swap) (links : List LinkCfg) (C : Clocks) (F : Frames) (t : ℤ) (old new : Plant) → Changed C (EachBecame (SwapsAt n swaps links)) F t old new → (k : ℕ) → HasRoom k old → HasRoom k new
up_room n swaps links C F t old new c k h =
    turned_room (SwapsAt n swaps links) C F t old new c k (λ i x y r p. swaps_room k n swaps (slice_get links i) x y r p) h

-- No clock is stepped

off_still : (e f : ℕ) (off : ℤ) → f ≡ e + 1 → unsigned_abs off ≤ 2 ^ 92 * (e + 1) → unsigned_abs off ≤ 2 ^ 92 * f
off_still e f off s h = rw s h

pub none_stepped : (S : List Span → List Span → Type 0) (F : Frames) (t : ℤ) (old new : Plant) → Changed Same S F t old new → FitsPlant old → NoneStepped new
none_stepped S F t old new c f n x e =
    off_still old.events new.events x.off c.count (f.clocks n x (ap (λ l. slice_get l n) (sym c.of_clocks) ∙ e)).off
