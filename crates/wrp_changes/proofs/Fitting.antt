-- The change that an event makes by itself keeps the numbers of a plant in range.
use Rattle.std.proofs.Common.{◌≡◌, ◌∙◌, refl, ap, sym, subst, ℕ, ◌+◌, ◌<◌, ◌≤◌, ◌^◌, ◌==◌, ℤ, pos, ◌+ℤ◌, ◌≤ℤ◌, Bool, true, false, List, length, slice_get, Option, None, Some, unsigned_abs, arith}
use Rattle.std.proofs.lemmas.Int.{ints}
use Rattle.std.proofs.lemmas.Option.{none-some}
use Rattle.wrp_network.specs.declared.configuration.NetCfg.{NetCfg}
use Rattle.wrp_network.specs.declared.network.LinkCfg.{LinkCfg}
use Rattle.wrp_network.specs.Network.{IsGrandmaster}
use Rattle.wrp_caldb.specs.Database.{Database}
use Rattle.wrp_config.specs.Accepted.{IsAccepted}
use Rattle.wrp_course.specs.declared.clocks.ClockState.{ClockState}
use Rattle.wrp_plant.specs.declared.ends.EndState.{EndState}
use Rattle.wrp_plant.specs.declared.ends.Span.{Span}
use Rattle.wrp_plant.specs.declared.ends.PutOut.{PutOut}
use Rattle.wrp_course.specs.declared.event.Swap.{Swap}
use Rattle.wrp_course.specs.declared.fibres.FibreState.{FibreState}
use Rattle.wrp_flights.specs.declared.departed.Departed.{Departed}
use Rattle.wrp_flights.specs.Departed.{lost}
use Rattle.wrp_flights.specs.Frames.{FramesAt, Passes, Turned, at, sent_at}
use Rattle.wrp_flights.specs.Losing.{is_at_node, loses_link, loses_node}
use Rattle.wrp_flights.proofs.Staying.{CameFrom, came_from, kept_is_it}
use Rattle.wrp_plant.specs.declared.plant.Plant.{Plant}
use Rattle.wrp_course.specs.Moved.{drift_of, move_of, swap_at}
use Rattle.wrp_changes.specs.Moves.{EachBecame, Same, SameFrames, Where, At, Changed, Drifts, Samples, GoesDown, Moves, Joins, Empties, Cuts, Drops, DropsAt, touches_in, ComesUp, Swapped, SwapsIn, SwapsAt}
use Rattle.wrp_plant.specs.Plant.{Each, FitsClock, FitsDeparted, FitsEnd, FitsFrames, FitsPlant, FitsSpan}
use Rattle.wrp_plant.specs.Sizes.{IsTimeBy, IsHorizonBy, IsOffBy, IsDelayBy, IsDueBy}
use Rattle.wrp_plant.specs.EndRoom.{SpanPutBy}
use Rattle.wrp_changes.specs.Room.{HasRoom}
use Rattle.wrp_changes.proofs.PutsKept.{cut_puts, down_puts, join_puts, later_still, pass_puts, passed, same_puts, up_puts}
use Rattle.wrp_plant.proofs.Sizing.{never_later}
use Rattle.wrp_changes.proofs.RoomKept.{cut_room, down_room, join_room, pass_room, same_room, up_room}
use Rattle.wrp_changes.proofs.Turned.{each_turned, each_same}

-- One more event

pub time_more : (e : ℕ) (t : ℤ) → IsTimeBy e t → IsTimeBy (e + 1) t
time_more e t h = omega arith

off_more : (e : ℕ) (t : ℤ) → IsOffBy e t → IsOffBy (e + 1) t
off_more e t h = omega arith

pub delay_more : (e : ℕ) (t : ℤ) → IsDelayBy e t → IsDelayBy (e + 1) t
delay_more e t h = omega arith

pub due_more : (e : ℕ) (t : ℤ) → IsDueBy e t → IsDueBy (e + 1) t
due_more e t h = omega arith

pub abs_sum : (a b : ℤ) → unsigned_abs (a +ℤ b) ≤ unsigned_abs a + unsigned_abs b
abs_sum a b = omega (arith, ints)

pub time_later : (e : ℕ) (t d : ℤ) → IsTimeBy e t → unsigned_abs d ≤ 2 ^ 63 → IsTimeBy (e + 1) (t +ℤ d)
time_later e t d h k = omega (arith, abs_sum t d)

off_moved : (e : ℕ) (t d : ℤ) → IsOffBy e t → unsigned_abs d ≤ 2 ^ 63 → IsOffBy (e + 1) (t +ℤ d)
off_moved e t d h k = omega (arith, abs_sum t d)

delay_moved : (e : ℕ) (t d : ℤ) → IsDelayBy e t → unsigned_abs d ≤ 2 ^ 63 → IsDelayBy (e + 1) (t +ℤ d)
delay_moved e t d h k = omega (arith, abs_sum t d)

clock_more : (e : ℕ) (x : ClockState) → FitsClock e x → FitsClock (e + 1) x
clock_more e x h = record { off = off_more e x.off h.off; ticked = time_more e x.ticked h.ticked; samples = omega (arith, h.samples) }

pub end_more : (e : ℕ) (x : EndState) → FitsEnd e x → FitsEnd (e + 1) x
end_more e x h = record { waiting = λ i out g. time_more e out.at (h.waiting i out g) }

pub span_more : (e : ℕ) (x : Span) → FitsSpan e x → FitsSpan (e + 1) x
span_more e x h = record {
  ms = delay_more e x.fibre.ms h.ms;
  sm = delay_more e x.fibre.sm h.sm;
  master = end_more e x.master h.master;
  slave = end_more e x.slave h.slave;
}

pub frame_more : (links e : ℕ) (x : Departed) → FitsDeparted links e x → FitsDeparted links (e + 1) x
frame_more links e x h = record { link = h.link; sent = time_more e x.sent h.sent; due = due_more e x.due h.due; raw = h.raw }

-- All parts

abbrev pub ClocksFit : ℕ → List ClockState → Type 0
ClocksFit e xs = Each (λ n. FitsClock e) xs

abbrev pub SpansFit : ℕ → List Span → Type 0
SpansFit e xs = Each (λ k. FitsSpan e) xs

-- Frames

pub frames_more : (links e : ℕ) (frames : FramesAt) → FitsFrames links e frames → FitsFrames links (e + 1) frames
frames_more links e frames h = record {
  horizon = omega (arith, h.horizon);
  count = omega (arith, h.count);
  sent = λ i t g. time_more e t (h.sent i t g);
  each = λ i d g. frame_more links e d (h.each i d g);
}

same_frames : (links e : ℕ) (old new : FramesAt) → new ≡ old → FitsFrames links e old → FitsFrames links (e + 1) new
same_frames links e old new s h = subst (FitsFrames links (e + 1)) (sym s) (frames_more links e old h)

-- frames that change, each according to its number
pub turned_fit : (links e : ℕ) (change : ℕ → Departed → Departed) (old new : FramesAt) → Turned change old new →
    ((i : ℕ) (d : Departed) → FitsDeparted links e d → FitsDeparted links (e + 1) (change i d)) → FitsFrames links e old → FitsFrames links (e + 1) new
turned_fit links e change old new t more h = record {
  horizon = subst (IsHorizonBy (e + 1)) (sym t.horizon) (omega (arith, h.horizon));
  count = let same : length new.sent ≡ length old.sent = ap length t.sent in omega (arith, same, h.count);
  sent = λ i x g. time_more e x (h.sent i x (sym (ap (sent_at i) t.sent) ∙ g));
  each = λ i d g.
      let it : CameFrom old.horizon (change i) (at i old.kept) d = came_from old.horizon (change i) (at i old.kept) d (sym (t.kept i) ∙ g) in
      subst (FitsDeparted links (e + 1)) it.same (more i it.from (h.each i it.from it.was));
}

horizon_later : (e : ℕ) (t d : ℤ) → IsHorizonBy e t → unsigned_abs d ≤ 2 ^ 63 → IsHorizonBy (e + 1) (t +ℤ d)
horizon_later e t d h k = omega (arith, abs_sum t d)

-- time passes
passed_fit : (links e : ℕ) (dt : ℤ) (old new : FramesAt) → Passes (old.horizon +ℤ dt) old new → unsigned_abs dt ≤ 2 ^ 63 → FitsFrames links e old → FitsFrames links (e + 1) new
passed_fit links e dt old new p l h = record {
  horizon = subst (IsHorizonBy (e + 1)) (sym p.horizon_is) (horizon_later e old.horizon dt h.horizon l);
  count = let same : length new.sent ≡ length old.sent = ap length p.sent in omega (arith, same, h.count);
  sent = λ i x g. time_more e x (h.sent i x (sym (ap (sent_at i) p.sent) ∙ g));
  each = λ i d g. frame_more links e d (h.each i d (kept_is_it (old.horizon +ℤ dt) (at i old.kept) d (sym (p.kept i) ∙ g)).0);
}

pub plant_fits : (C : List ClockState → List ClockState → Type 0) (S : List Span → List Span → Type 0) (F : FramesAt → FramesAt → Type 0)
    (t : ℤ) (old new : Plant) → Changed C S F t old new → FitsPlant old → old.events + 1 < 2 ^ 32 → IsTimeBy (old.events + 1) t →
    length new.clocks.items ≡ length old.clocks.items → length new.spans.items ≡ length old.spans.items →
    ClocksFit (old.events + 1) new.clocks.items → SpansFit (old.events + 1) new.spans.items →
    FitsFrames (length old.net.cfg.links.items) (old.events + 1) new.frames → HasRoom old.spare new →
    Each (λ k. SpanPutBy old.last_put) new.spans.items → old.time ≤ℤ t → FitsPlant new
plant_fits C S F t old new c f few ht hc hs clocks spans frames room puts later = record {
  accepted = subst (λ (g : NetCfg). IsAccepted g new.net.db) (sym c.cfg) (subst (λ (d : Database). IsAccepted old.net.cfg d) (sym c.db) f.accepted);
  clock_count = hc ∙ f.clock_count ∙ ap (λ (g : NetCfg). length g.nodes.items) (sym c.cfg);
  span_count = hs ∙ f.span_count ∙ ap (λ (g : NetCfg). length g.links.items) (sym c.cfg);
  events = subst (λ n. n < 2 ^ 32) (sym c.count) few;
  time = subst (λ z. IsTimeBy new.events z) (sym c.time) (subst (λ n. IsTimeBy n t) (sym c.count) ht);
  clocks = subst (λ n. ClocksFit n new.clocks.items) (sym c.count) clocks;
  spans = subst (λ n. SpansFit n new.spans.items) (sym c.count) spans;
  frames = subst (λ (g : NetCfg). FitsFrames (length g.links.items) new.events new.frames) (sym c.cfg) (subst (λ n. FitsFrames (length old.net.cfg.links.items) n new.frames) (sym c.count) frames);
  room = subst (λ n. HasRoom n new) (sym c.spare) room;
  puts = subst (λ z. Each (λ k. SpanPutBy z) new.spans.items) (sym c.last_put) puts;
  put = subst (λ z. z ≤ℤ new.time) (sym c.last_put) (subst (λ z. old.last_put ≤ℤ z) (sym c.time) (later_still old.last_put old.time t f.put later));
  top = subst (λ (g : NetCfg). IsGrandmaster g new.top) (sym c.cfg) (subst (IsGrandmaster old.net.cfg) (sym c.top) f.top);
}

pub same_clocks : (e : ℕ) (xs ys : List ClockState) → ys ≡ xs → ClocksFit e xs → ClocksFit (e + 1) ys
same_clocks e xs ys s h = each_same (λ n. FitsClock e) (λ n. FitsClock (e + 1)) xs ys s (λ n x k. clock_more e x k) h

pub same_spans : (e : ℕ) (xs ys : List Span) → ys ≡ xs → SpansFit e xs → SpansFit (e + 1) ys
same_spans e xs ys s h = each_same (λ n. FitsSpan e) (λ n. FitsSpan (e + 1)) xs ys s (λ n x k. span_more e x k) h

-- What changes

pub where_fits : {A : Type 0} (b : Bool) (C : A → A → Type 0) (P Q : A → Type 0) (x y : A) → Where b C x y → (C x y → P x → Q y) → (P x → Q x) → P x → Q y
where_fits true C P Q x y r f g p = f r p
where_fits false C P Q x y r f g p = subst Q (sym r) (g p)

drift_fits : (e : ℕ) (drifts : List ℤ) (n : ℕ) (x y : ClockState) → Drifts drifts n x y → FitsClock e x → FitsClock (e + 1) y
drift_fits e drifts n x y r h =
    subst (FitsClock (e + 1)) (sym r.clock)
    (record { off = off_moved e x.off (drift_of drifts n) h.off r.size; ticked = time_more e x.ticked h.ticked; samples = omega (arith, h.samples) })

move_fits : (e : ℕ) (moves : List (ℤ × ℤ)) (k : ℕ) (x y : Span) → Moves moves k x y → FitsSpan e x → FitsSpan (e + 1) y
move_fits e moves k x y r h = record {
  ms = subst (λ (f : FibreState). IsDelayBy (e + 1) f.ms) (sym r.span.fibre) (delay_moved e x.fibre.ms (move_of moves k).0 h.ms r.down);
  sm = subst (λ (f : FibreState). IsDelayBy (e + 1) f.sm) (sym r.span.fibre) (delay_moved e x.fibre.sm (move_of moves k).1 h.sm r.up);
  master = subst (FitsEnd (e + 1)) (sym r.span.master) (end_more e x.master h.master);
  slave = subst (FitsEnd (e + 1)) (sym r.span.slave) (end_more e x.slave h.slave);
}

sample_fits : (e : ℕ) (x y : ClockState) → Samples x y → FitsClock e x → FitsClock (e + 1) y
sample_fits e x y r h =
    subst (FitsClock (e + 1)) (sym r) (record { off = off_more e x.off h.off; ticked = time_more e x.ticked h.ticked; samples = omega (arith, h.samples) })

down_fits : (e : ℕ) (x y : ClockState) → GoesDown x y → FitsClock e x → FitsClock (e + 1) y
down_fits e x y r h =
    subst (FitsClock (e + 1)) (sym r) (record { off = off_more e x.off h.off; ticked = time_more e x.ticked h.ticked; samples = omega (arith, h.samples) })

delay_first : (e : ℕ) (d : ℤ) → unsigned_abs d ≤ 2 ^ 63 → IsDelayBy (e + 1) d
delay_first e d h = omega arith

join_fits : (e : ℕ) (ms sm : ℤ) (x y : Span) → unsigned_abs ms ≤ 2 ^ 63 → unsigned_abs sm ≤ 2 ^ 63 → Joins ms sm x y → FitsSpan e x → FitsSpan (e + 1) y
join_fits e ms sm x y a b r h = record {
  ms = subst (λ (f : FibreState). IsDelayBy (e + 1) f.ms) (sym r.fibre) (delay_first e ms a);
  sm = subst (λ (f : FibreState). IsDelayBy (e + 1) f.sm) (sym r.fibre) (delay_first e sm b);
  master = subst (FitsEnd (e + 1)) (sym r.master) (end_more e x.master h.master);
  slave = subst (FitsEnd (e + 1)) (sym r.slave) (end_more e x.slave h.slave);
}

emptied_fits : (e : ℕ) (x y : EndState) → Empties x y → FitsEnd e x → FitsEnd (e + 1) y
emptied_fits e x y r h = record {
  waiting = λ i out g. absurd (none-some out (sym (ap (λ l. slice_get l i) r.waiting) ∙ g));
}

cut_fits : (e : ℕ) (x y : Span) → Cuts x y → FitsSpan e x → FitsSpan (e + 1) y
cut_fits e x y r h = record {
  ms = subst (λ (f : FibreState). IsDelayBy (e + 1) f.ms) (sym r.fibre) (delay_more e x.fibre.ms h.ms);
  sm = subst (λ (f : FibreState). IsDelayBy (e + 1) f.sm) (sym r.fibre) (delay_more e x.fibre.sm h.sm);
  master = emptied_fits e x.master y.master r.master h.master;
  slave = emptied_fits e x.slave y.slave r.slave h.slave;
}

drop_fits : (e : ℕ) (x y : Span) → Drops x y → FitsSpan e x → FitsSpan (e + 1) y
drop_fits e x y r h = record {
  ms = subst (λ (f : FibreState). IsDelayBy (e + 1) f.ms) (sym r.fibre) (delay_more e x.fibre.ms h.ms);
  sm = subst (λ (f : FibreState). IsDelayBy (e + 1) f.sm) (sym r.fibre) (delay_more e x.fibre.sm h.sm);
  master = emptied_fits e x.master y.master r.master h.master;
  slave = emptied_fits e x.slave y.slave r.slave h.slave;
}

lost_fits : (links e : ℕ) (b : Bool) (x y : Departed) → y ≡ lost b x → FitsDeparted links e x → FitsDeparted links (e + 1) y
lost_fits links e b x y r h =
    subst (FitsDeparted links (e + 1)) (sym r) (record { link = h.link; sent = time_more e x.sent h.sent; due = due_more e x.due h.due; raw = h.raw })

-- Each event

pub tick_fits : (old new : Plant) → Changed Same Same SameFrames old.time old new → old.events + 1 < 2 ^ 32 → FitsPlant old → FitsPlant new
tick_fits old new c few f =
    plant_fits _ _ _ _ old new c f few (time_more old.events old.time f.time) (ap length c.of_clocks) (ap length c.of_spans)
    (same_clocks old.events old.clocks.items new.clocks.items c.of_clocks f.clocks)
    (same_spans old.events old.spans.items new.spans.items c.of_spans f.spans)
    (same_frames (length old.net.cfg.links.items) old.events old.frames new.frames c.of_frames f.frames)
    (same_room _ _ _ old new c old.spare f.room) (same_puts old.last_put _ _ _ old new c f.puts) (never_later old.time)

pub pass_fits : (drifts : List ℤ) (moves : List (ℤ × ℤ)) (dt : ℤ) (old new : Plant) → unsigned_abs dt ≤ 2 ^ 63 → pos 0 ≤ℤ dt →
    Changed (EachBecame (Drifts drifts)) (EachBecame (Moves moves)) (Passes (old.frames.horizon +ℤ dt)) (old.time +ℤ dt) old new → old.events + 1 < 2 ^ 32 → FitsPlant old → FitsPlant new
pass_fits drifts moves dt old new h l c few f =
    plant_fits _ _ _ _ old new c f few (time_later old.events old.time dt f.time h) c.of_clocks.0 c.of_spans.0
    (each_turned (Drifts drifts) (λ n. FitsClock old.events) (λ n. FitsClock (old.events + 1)) old.clocks.items new.clocks.items c.of_clocks (λ n x y r k. drift_fits old.events drifts n x y r k) f.clocks)
    (each_turned (Moves moves) (λ n. FitsSpan old.events) (λ n. FitsSpan (old.events + 1)) old.spans.items new.spans.items c.of_spans (λ n x y r k. move_fits old.events moves n x y r k) f.spans)
    (passed_fit (length old.net.cfg.links.items) old.events dt old.frames new.frames c.of_frames h f.frames)
    (pass_room moves _ _ _ old new c old.spare f.room) (pass_puts old.last_put moves _ _ _ old new c f.puts) (passed old.time dt l)

pub sampled_fits : (n : ℕ) (old new : Plant) → Changed (EachBecame (At n Samples)) Same SameFrames old.time old new → old.events + 1 < 2 ^ 32 → FitsPlant old → FitsPlant new
sampled_fits n old new c few f =
    plant_fits _ _ _ _ old new c f few (time_more old.events old.time f.time) c.of_clocks.0 (ap length c.of_spans)
    (each_turned (At n Samples) (λ n. FitsClock old.events) (λ n. FitsClock (old.events + 1)) old.clocks.items new.clocks.items c.of_clocks
    (λ m x y r k. where_fits (m == n) Samples (FitsClock old.events) (FitsClock (old.events + 1)) x y r (sample_fits old.events x y) (clock_more old.events x) k) f.clocks)
    (same_spans old.events old.spans.items new.spans.items c.of_spans f.spans)
    (same_frames (length old.net.cfg.links.items) old.events old.frames new.frames c.of_frames f.frames)
    (same_room _ _ _ old new c old.spare f.room) (same_puts old.last_put _ _ _ old new c f.puts) (never_later old.time)

pub joined_fits : (l : ℕ) (ms sm : ℤ) (old new : Plant) → unsigned_abs ms ≤ 2 ^ 63 → unsigned_abs sm ≤ 2 ^ 63 →
    Changed Same (EachBecame (At l (Joins ms sm))) SameFrames old.time old new → old.events + 1 < 2 ^ 32 → FitsPlant old → FitsPlant new
joined_fits l ms sm old new a b c few f =
    plant_fits _ _ _ _ old new c f few (time_more old.events old.time f.time) (ap length c.of_clocks) c.of_spans.0
    (same_clocks old.events old.clocks.items new.clocks.items c.of_clocks f.clocks)
    (each_turned (At l (Joins ms sm)) (λ n. FitsSpan old.events) (λ n. FitsSpan (old.events + 1)) old.spans.items new.spans.items c.of_spans
    (λ m x y r k. where_fits (m == l) (Joins ms sm) (FitsSpan old.events) (FitsSpan (old.events + 1)) x y r (join_fits old.events ms sm x y a b) (span_more old.events x) k) f.spans)
    (same_frames (length old.net.cfg.links.items) old.events old.frames new.frames c.of_frames f.frames)
    (join_room l ms sm _ _ _ old new c old.spare f.room) (join_puts old.last_put l ms sm _ _ _ old new c f.puts) (never_later old.time)

pub cut_off_fits : (l : ℕ) (old new : Plant) → Changed Same (EachBecame (At l Cuts)) (Turned (loses_link l)) old.time old new → old.events + 1 < 2 ^ 32 → FitsPlant old → FitsPlant new
cut_off_fits l old new c few f =
    plant_fits _ _ _ _ old new c f few (time_more old.events old.time f.time) (ap length c.of_clocks) c.of_spans.0
    (same_clocks old.events old.clocks.items new.clocks.items c.of_clocks f.clocks)
    (each_turned (At l Cuts) (λ n. FitsSpan old.events) (λ n. FitsSpan (old.events + 1)) old.spans.items new.spans.items c.of_spans
    (λ m x y r k. where_fits (m == l) Cuts (FitsSpan old.events) (FitsSpan (old.events + 1)) x y r (cut_fits old.events x y) (span_more old.events x) k) f.spans)
    (turned_fit (length old.net.cfg.links.items) old.events (loses_link l) old.frames new.frames c.of_frames
    (λ i d k. lost_fits (length old.net.cfg.links.items) old.events (d.link == l) d (loses_link l i d) refl k) f.frames)
    (cut_room l _ _ _ old new c old.spare f.room) (cut_puts old.last_put l _ _ _ old new c f.puts) (never_later old.time)

pub gone_down_fits : (n : ℕ) (links : List LinkCfg) (old new : Plant) →
    Changed (EachBecame (At n GoesDown)) (EachBecame (DropsAt n links)) (Turned (loses_node n links)) old.time old new → old.events + 1 < 2 ^ 32 → FitsPlant old → FitsPlant new
gone_down_fits n links old new c few f =
    plant_fits _ _ _ _ old new c f few (time_more old.events old.time f.time) c.of_clocks.0 c.of_spans.0
    (each_turned (At n GoesDown) (λ n. FitsClock old.events) (λ n. FitsClock (old.events + 1)) old.clocks.items new.clocks.items c.of_clocks
    (λ m x y r k. where_fits (m == n) GoesDown (FitsClock old.events) (FitsClock (old.events + 1)) x y r (down_fits old.events x y) (clock_more old.events x) k) f.clocks)
    (each_turned (DropsAt n links) (λ n. FitsSpan old.events) (λ n. FitsSpan (old.events + 1)) old.spans.items new.spans.items c.of_spans
    (λ m x y r k. where_fits (touches_in n (slice_get links m)) Drops (FitsSpan old.events) (FitsSpan (old.events + 1)) x y r (drop_fits old.events x y) (span_more old.events x) k) f.spans)
    (turned_fit (length old.net.cfg.links.items) old.events (loses_node n links) old.frames new.frames c.of_frames
    (λ i d k. lost_fits (length old.net.cfg.links.items) old.events (is_at_node n links d.link) d (loses_node n links i d) refl k) f.frames)
    (down_room n links _ _ _ old new c old.spare f.room) (down_puts old.last_put n links _ _ _ old new c f.puts) (never_later old.time)

-- Modules that are installed

put_fits : (e : ℕ) (swap : Option Swap) (x y : EndState) → Swapped swap x y → FitsEnd e x → FitsEnd (e + 1) y
put_fits e None x y r h = subst (FitsEnd (e + 1)) (sym r) (end_more e x h)
put_fits e (Some swap) x y r h = record {
  waiting = subst (λ (l : List PutOut). Each (λ i out. IsTimeBy (e + 1) out.at) l) (sym (ap (λ v. v.items) r.waiting)) (λ i out g. time_more e out.at (h.waiting i out g));
}

put_span_fits : (e n : ℕ) (swaps : List Swap) (o : Option LinkCfg) (x y : Span) → SwapsIn n swaps o x y → FitsSpan e x → FitsSpan (e + 1) y
put_span_fits e n swaps None x y r h = subst (FitsSpan (e + 1)) (sym r) (span_more e x h)
put_span_fits e n swaps (Some link) x y r h = record {
  ms = subst (λ (f : FibreState). IsDelayBy (e + 1) f.ms) (sym r.fibre) (delay_more e x.fibre.ms h.ms);
  sm = subst (λ (f : FibreState). IsDelayBy (e + 1) f.sm) (sym r.fibre) (delay_more e x.fibre.sm h.sm);
  master = where_fits (link.upper == n) (Swapped (swap_at link.upper_port swaps)) (FitsEnd e) (FitsEnd (e + 1)) x.master y.master r.master
      (put_fits e (swap_at link.upper_port swaps) x.master y.master) (end_more e x.master) h.master;
  slave = where_fits (link.lower == n) (Swapped (swap_at link.lower_port swaps)) (FitsEnd e) (FitsEnd (e + 1)) x.slave y.slave r.slave
      (put_fits e (swap_at link.lower_port swaps) x.slave y.slave) (end_more e x.slave) h.slave;
}

off_first : (e : ℕ) (off : ℤ) → unsigned_abs off ≤ 2 ^ 90 → IsOffBy (e + 1) off
off_first e off h = omega arith

up_fits : (e : ℕ) (off now : ℤ) (x y : ClockState) → unsigned_abs off ≤ 2 ^ 90 → IsTimeBy e now → ComesUp off now x y → FitsClock (e + 1) y
up_fits e off now x y a b r =
    subst (FitsClock (e + 1)) (sym r) (record { off = off_first e off a; ticked = time_more e now b; samples = omega arith })

pub come_up_fits : (n : ℕ) (off : ℤ) (swaps : List Swap) (links : List LinkCfg) (old new : Plant) → unsigned_abs off ≤ 2 ^ 90 →
    Changed (EachBecame (At n (ComesUp off old.time))) (EachBecame (SwapsAt n swaps links)) SameFrames old.time old new → old.events + 1 < 2 ^ 32 → FitsPlant old → FitsPlant new
come_up_fits n off swaps links old new a c few f =
    plant_fits _ _ _ _ old new c f few (time_more old.events old.time f.time) c.of_clocks.0 c.of_spans.0
    (each_turned (At n (ComesUp off old.time)) (λ n. FitsClock old.events) (λ n. FitsClock (old.events + 1)) old.clocks.items new.clocks.items c.of_clocks
    (λ m x y r k. where_fits (m == n) (ComesUp off old.time) (FitsClock old.events) (FitsClock (old.events + 1)) x y r
    (λ z l. up_fits old.events off old.time x y a f.time z) (clock_more old.events x) k) f.clocks)
    (each_turned (SwapsAt n swaps links) (λ n. FitsSpan old.events) (λ n. FitsSpan (old.events + 1)) old.spans.items new.spans.items c.of_spans
    (λ m x y r k. put_span_fits old.events n swaps (slice_get links m) x y r k) f.spans)
    (same_frames (length old.net.cfg.links.items) old.events old.frames new.frames c.of_frames f.frames)
    (up_room n swaps links _ _ _ old new c old.spare f.room) (up_puts old.last_put n swaps links _ _ _ old new c f.puts) (never_later old.time)
