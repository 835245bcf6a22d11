-- After the change that an event makes by itself, no waiting frame was put out after the last put time.
use Rattle.std.proofs.Common.{◌≡◌, ◌∙◌, ap, sym, subst, ℕ, suc, ◌==◌, ℤ, pos, ◌+ℤ◌, ◌≤ℤ◌, List, [], ◌∷◌, Option, None, Some, slice_get, drop, arith}
use Rattle.std.proofs.lemmas.Int.{ints}
use Rattle.std.proofs.lemmas.Option.{none-some}
use Rattle.wrp_base.specs.declared.link.Role.{Role}
use Rattle.wrp_base.specs.declared.link.Role.TheVariants.{Master, Slave}
use Rattle.wrp_network.specs.declared.network.LinkCfg.{LinkCfg}
use Rattle.wrp_course.specs.declared.clocks.ClockState.{ClockState}
use Rattle.wrp_course.specs.declared.event.Swap.{Swap}
use Rattle.wrp_course.specs.declared.fibres.FibreState.{FibreState}
use Rattle.wrp_course.specs.declared.place.Place.{Place}
use Rattle.wrp_course.specs.Moved.{swap_at}
use Rattle.wrp_course.specs.Setting.{is_role}
use Rattle.wrp_flights.specs.Frames.{FramesAt}
use Rattle.wrp_plant.specs.declared.ends.EndState.{EndState}
use Rattle.wrp_plant.specs.declared.ends.PutOut.{PutOut}
use Rattle.wrp_plant.specs.declared.ends.Span.{Span}
use Rattle.wrp_plant.specs.declared.plant.Plant.{Plant}
use Rattle.wrp_plant.specs.EndRoom.{PutBy, SpanPutBy}
use Rattle.wrp_changes.specs.Flights.{LosesOldest, TakesOldest}
use Rattle.wrp_changes.specs.Moves.{EachBecame, Same, At, Changed, HasFibre, Moves, Joins, Empties, Loses, Cuts, Drops, DropsAt, touches_in, Swapped, SwapsIn, SwapsAt}
use Rattle.wrp_plant.specs.Plant.{Each}
use Rattle.wrp_changes.proofs.RoomKept.{where_room}
use Rattle.wrp_changes.proofs.Turned.{each_turned}

emptied_put : (z : ℤ) (x y : EndState) → Empties x y → PutBy z x → PutBy z y
emptied_put z x y r h i out g = absurd (none-some out (sym (ap (λ l. slice_get l i) r.waiting) ∙ g))

pub same_waiting : (z : ℤ) (x y : EndState) → y.waiting.items ≡ x.waiting.items → PutBy z x → PutBy z y
same_waiting z x y e h i out g = h i out (sym (ap (λ l. slice_get l i) e) ∙ g)

same_span : (z : ℤ) (after : FibreState) (x y : Span) → HasFibre after x y → SpanPutBy z x → SpanPutBy z y
same_span z after x y r h = record { master = subst (PutBy z) (sym r.master) h.master; slave = subst (PutBy z) (sym r.slave) h.slave }

lost_span : (z : ℤ) (after : FibreState) (x y : Span) → Loses after x y → SpanPutBy z x → SpanPutBy z y
lost_span z after x y r h =
    record { master = emptied_put z x.master y.master r.master h.master; slave = emptied_put z x.slave y.slave r.slave h.slave }

swapped_put : (z : ℤ) (swap : Option Swap) (x y : EndState) → Swapped swap x y → PutBy z x → PutBy z y
swapped_put z None x y r h = subst (PutBy z) (sym r) h
swapped_put z (Some swap) x y r h = same_waiting z x y (ap (λ v. v.items) r.waiting) h

swaps_put : (z : ℤ) (n : ℕ) (swaps : List Swap) (o : Option LinkCfg) (x y : Span) → SwapsIn n swaps o x y → SpanPutBy z x → SpanPutBy z y
swaps_put z n swaps None x y r h = subst (SpanPutBy z) (sym r) h
swaps_put z n swaps (Some link) x y r h = record {
  master = where_room (link.upper == n) (Swapped (swap_at link.upper_port swaps)) (PutBy z) x.master y.master r.master (swapped_put z (swap_at link.upper_port swaps) x.master y.master) h.master;
  slave = where_room (link.lower == n) (Swapped (swap_at link.lower_port swaps)) (PutBy z) x.slave y.slave r.slave (swapped_put z (swap_at link.lower_port swaps) x.slave y.slave) h.slave;
}

-- Each event

abbrev Clocks : Type 1
Clocks = List ClockState → List ClockState → Type 0

abbrev Frames : Type 1
Frames = FramesAt → FramesAt → Type 0

pub same_puts : (z : ℤ) (C : Clocks) (F : Frames) (t : ℤ) (old new : Plant) → Changed C Same F t old new →
    Each (λ k. SpanPutBy z) old.spans.items → Each (λ k. SpanPutBy z) new.spans.items
same_puts z C F t old new c h = subst (Each (λ k. SpanPutBy z)) (sym c.of_spans) h

turned_puts : (z : ℤ) (R : ℕ → Span → Span → Type 0) (C : Clocks) (F : Frames) (t : ℤ) (old new : Plant) → Changed C (EachBecame R) F t old new →
    ((i : ℕ) (x y : Span) → R i x y → SpanPutBy z x → SpanPutBy z y) →
    Each (λ k. SpanPutBy z) old.spans.items → Each (λ k. SpanPutBy z) new.spans.items
turned_puts z R C F t old new c f h = each_turned R (λ i. SpanPutBy z) (λ i. SpanPutBy z) old.spans.items new.spans.items c.of_spans f h

pub pass_puts : (z : ℤ) (moves : List (ℤ × ℤ)) (C : Clocks) (F : Frames) (t : ℤ) (old new : Plant) → Changed C (EachBecame (Moves moves)) F t old new →
    Each (λ k. SpanPutBy z) old.spans.items → Each (λ k. SpanPutBy z) new.spans.items
pass_puts z moves C F t old new c h = turned_puts z (Moves moves) C F t old new c (λ i x y r p. same_span z _ x y r.span p) h

pub join_puts : (z : ℤ) (l : ℕ) (ms sm : ℤ) (C : Clocks) (F : Frames) (t : ℤ) (old new : Plant) → Changed C (EachBecame (At l (Joins ms sm))) F t old new →
    Each (λ k. SpanPutBy z) old.spans.items → Each (λ k. SpanPutBy z) new.spans.items
join_puts z l ms sm C F t old new c h =
    turned_puts z (At l (Joins ms sm)) C F t old new c (λ i x y r p. where_room (i == l) (Joins ms sm) (SpanPutBy z) x y r (λ q. same_span z _ x y q) p) h

pub cut_puts : (z : ℤ) (l : ℕ) (C : Clocks) (F : Frames) (t : ℤ) (old new : Plant) → Changed C (EachBecame (At l Cuts)) F t old new →
    Each (λ k. SpanPutBy z) old.spans.items → Each (λ k. SpanPutBy z) new.spans.items
cut_puts z l C F t old new c h =
    turned_puts z (At l Cuts) C F t old new c (λ i x y r p. where_room (i == l) Cuts (SpanPutBy z) x y r (λ q. lost_span z _ x y q) p) h

pub down_puts : (z : ℤ) (n : ℕ) (links : List LinkCfg) (C : Clocks) (F : Frames) (t : ℤ) (old new : Plant) → Changed C (EachBecame (DropsAt n links)) F t old new →
    Each (λ k. SpanPutBy z) old.spans.items → Each (λ k. SpanPutBy z) new.spans.items
down_puts z n links C F t old new c h =
    turned_puts z (DropsAt n links) C F t old new c
    (λ i x y r p. where_room (touches_in n (slice_get links i)) Drops (SpanPutBy z) x y r (λ q. lost_span z _ x y q) p) h

pub up_puts : (z : ℤ) (n : ℕ) (swaps : List Swap) (links : List LinkCfg) (C : Clocks) (F : Frames) (t : ℤ) (old new : Plant) →
    Changed C (EachBecame (SwapsAt n swaps links)) F t old new → Each (λ k. SpanPutBy z) old.spans.items → Each (λ k. SpanPutBy z) new.spans.items
up_puts z n swaps links C F t old new c h =
    turned_puts z (SwapsAt n swaps links) C F t old new c (λ i x y r p. swaps_put z n swaps (slice_get links i) x y r p) h

-- A departure

behind_put : (z : ℤ) (xs : List PutOut) → ((i : ℕ) (out : PutOut) → slice_get xs i ≡ Some out → out.at ≤ℤ z) →
    (i : ℕ) (out : PutOut) → slice_get (drop 1 xs) i ≡ Some out → out.at ≤ℤ z
behind_put z [] h i out g = h i out g
behind_put z (x ∷ xs) h i out g = h (suc i) out g

oldest_put : (z : ℤ) (x y : EndState) → LosesOldest x y → PutBy z x → PutBy z y
oldest_put z x y r h i out g = behind_put z x.waiting.items h i out (sym (ap (λ l. slice_get l i) r.waiting) ∙ g)

taken_put : (z : ℤ) (role : Role) (x y : Span) → TakesOldest role x y → SpanPutBy z x → SpanPutBy z y
taken_put z role x y r h = record {
  master = where_room (is_role role Master) LosesOldest (PutBy z) x.master y.master r.master (oldest_put z x.master y.master) h.master;
  slave = where_room (is_role role Slave) LosesOldest (PutBy z) x.slave y.slave r.slave (oldest_put z x.slave y.slave) h.slave;
}

pub depart_puts : (z : ℤ) (place : Place) (C : Clocks) (F : Frames) (t : ℤ) (old new : Plant) → Changed C (EachBecame (At place.link (TakesOldest place.role))) F t old new →
    Each (λ k. SpanPutBy z) old.spans.items → Each (λ k. SpanPutBy z) new.spans.items
depart_puts z place C F t old new c h =
    turned_puts z (At place.link (TakesOldest place.role)) C F t old new c
    (λ i x y r p. where_room (i == place.link) (TakesOldest place.role) (SpanPutBy z) x y r (λ q. taken_put z place.role x y q) p) h

-- Times

pub later_still : (a b c : ℤ) → a ≤ℤ b → b ≤ℤ c → a ≤ℤ c
later_still a b c h k = omega (arith, ints, h, k)

pub passed : (a d : ℤ) → pos 0 ≤ℤ d → a ≤ℤ (a +ℤ d)
passed a d h = omega (arith, ints, h)
