-- The change that an event makes by itself: the plant changes as its state does.
use Rattle.std.proofs.Common.{◌≡◌, ◌∙◌, refl, ap, ap₂, sym, subst, ℕ, ◌+◌, ◌==◌, ◌||◌, ◌&&◌, ℤ, pos, ◌+ℤ◌, ◌≤ℤ◌, Bool, true, false, if◌then◌else◌, List, [], slice_get, Option, None, Some, option_map}
use Rattle.std.proofs.lemmas.Bool.{true≢false}
use Rattle.std.specs.List.{AllZip}
use Rattle.arrayvec.specs.ArrayVec.{ArrayVec}
use Rattle.std.specs.Option.{is_some, option_map_or}
use Rattle.wrp_network.specs.declared.configuration.NetCfg.{NetCfg}
use Rattle.wrp_base.specs.declared.link.Role.{Role}
use Rattle.wrp_base.specs.declared.link.Role.TheVariants.{Master, Slave}
use Rattle.wrp_network.specs.declared.network.LinkCfg.{LinkCfg}
use Rattle.wrp_base.specs.declared.time.Raw.{Raw}
use Rattle.wrp_network.specs.Network.{End}
use Rattle.wrp_node.proofs.Telling.{either_same}
use Rattle.wrp_course.specs.declared.clocks.ClockState.{ClockState}
use Rattle.wrp_plant.specs.declared.ends.EndState.{EndState}
use Rattle.wrp_plant.specs.declared.ends.Span.{Span}
use Rattle.wrp_plant.specs.declared.ends.PutOut.{PutOut}
use Rattle.wrp_course.specs.declared.event.Event.{Event}
use Rattle.wrp_course.specs.declared.event.Event.TheVariants.{Pass, Tick, Sample, Deliver, Noise, Down, Up, Cut, Join}
use Rattle.wrp_course.specs.declared.event.Swap.{Swap}
use Rattle.wrp_course.specs.declared.fibres.FibreState.{FibreState}
use Rattle.wrp_flights.specs.declared.departed.Departed.{Departed}
use Rattle.wrp_flights.specs.Departed.{lost}
use Rattle.wrp_flights.specs.Frames.{FramesAt, Passes, Turned}
use Rattle.wrp_flights.specs.Losing.{is_at_node, loses_link, loses_node, touches as touches_link}
use Rattle.wrp_plant.specs.declared.plant.Plant.{Plant}
use Rattle.wrp_course.specs.Moved.{moved, removed, loses, touches, drift_of, move_of, swap_at, with_swap}
use Rattle.wrp_changes.specs.Moves.{EachBecame, Same, SameFrames, Where, At, Changed, Drifts, Samples, GoesDown, Moves, Joins, Empties, Loses, Cuts, Drops, DropsAt, touches_in, ComesUp, Swapped, SwapsIn, SwapsAt}
use Rattle.wrp_plant.specs.Plant.{Each, EndIs, PutOutIs, SpanIs, DepartedIs, FramesAre, PlantIs}
use Rattle.wrp_course.specs.Setting.{Setting, end_of, is_of}
use Rattle.wrp_course.specs.WorldAt.{WorldAt, EndAt, FrameAt}
use Rattle.wrp_changes.proofs.FramesTurned.{ChangeIs, frames_passed, frames_turned, kept_frames}
use Rattle.wrp_plant.proofs.KeptSince.{on_alike}
use Rattle.wrp_changes.proofs.Turned.{each_turned, each_same}
use Rattle.wrp_plant.proofs.NewPlants.{emptied_list}

-- Frames

lost_frame : (s : Setting) (e : Event) (f : FrameAt) (d : Departed) (b : Bool) → b ≡ loses s e f.link → DepartedIs f d → DepartedIs (removed s e f) (lost b d)
lost_frame s e f d b h k = record {
  link = k.link;
  by = k.by;
  octets = k.octets;
  says = k.says;
  sent = k.sent;
  due = k.due;
  arrival = k.arrival;
  gone = ap₂ (λ x y. x || y) k.gone (ap₂ (λ x y. x && y) h (sym (on_alike f d k)));
}

off_removed : (g l o : Bool) → (if g then false else (if l then false else true)) ≡ false →
    (if g || (o && (if g then false else (if l then false else true))) then false else (if l then false else true)) ≡ false
off_removed true l o e = refl
off_removed false true true e = refl
off_removed false true false e = refl
off_removed false false o e = absurd (true≢false e)

removed_is : (s : Setting) (e : Event) (change : Departed → Departed) (b : Departed → Bool) → ((d : Departed) → change d ≡ lost (b d) d) →
    ((f : FrameAt) (d : Departed) → DepartedIs f d → b d ≡ loses s e f.link) → ChangeIs (removed s e) change
removed_is s e change b same h = record {
  sent = λ f. refl;
  off = λ f off. off_removed f.gone (is_some f.arrival) (loses s e f.link) off;
  is = λ f d k. subst (DepartedIs (removed s e f)) (sym (same d)) (lost_frame s e f d (b d) (h f d k) k);
}

-- All parts

pub plant_is : (s : Setting) (w v : WorldAt) (C : List ClockState → List ClockState → Type 0) (S : List Span → List Span → Type 0)
    (F : FramesAt → FramesAt → Type 0) (t : ℤ) (old new : Plant) → Changed C S F t old new → PlantIs s w old →
    t ≡ v.time → v.count ≡ w.count + 1 → Each (λ n clock. clock ≡ v.clock n) new.clocks.items → Each (SpanIs v) new.spans.items →
    FramesAre s v new.frames → PlantIs s v new
plant_is s w v C S F t old new c h time count clocks spans frames = record {
  cfg = c.cfg ∙ h.cfg;
  db = c.db ∙ h.db;
  time = c.time ∙ time;
  count = c.count ∙ ap (λ n. n + 1) h.count ∙ sym count;
  clocks = clocks;
  spans = spans;
  frames = frames;
}

-- Nothing but the count

still_is : (s : Setting) (e : Event) (w v : WorldAt) (old new : Plant) → Changed Same Same SameFrames old.time old new → PlantIs s w old →
    w.time ≡ v.time → v.count ≡ w.count + 1 → ((m : ℕ) → w.clock m ≡ v.clock m) → ((l : ℕ) → w.fibre l ≡ v.fibre l) →
    ((l : ℕ) (r : Role) → w.end_at l r ≡ v.end_at l r) → ((k : ℕ) → loses s e k ≡ false) → v.departed ≡ w.departed →
    ((i : ℕ) → v.frame i ≡ option_map (removed s e) (w.frame i)) → PlantIs s v new
still_is s e w v old new c h time count clock fibre end none departed frame =
    plant_is s w v _ _ _ _ old new c h (h.time ∙ time) count
    (each_same (λ m k. k ≡ w.clock m) (λ m k. k ≡ v.clock m) old.clocks.items new.clocks.items c.of_clocks (λ m x k. k ∙ clock m) h.clocks)
    (each_same (SpanIs w) (SpanIs v) old.spans.items new.spans.items c.of_spans
    (λ l x k. record {
      fibre = k.fibre ∙ fibre l;
      master = subst (λ (a : EndAt). EndIs a x.master) (end l Master) k.master;
      slave = subst (λ (a : EndAt). EndIs a x.slave) (end l Slave) k.slave;
    }) h.spans)
    (kept_frames s e w v old.frames new.frames c.of_frames none (sym time) departed frame h.frames)

pub tick_is : (s : Setting) (w : WorldAt) (n : ℕ) (old new : Plant) → Changed Same Same SameFrames old.time old new → PlantIs s w old →
    PlantIs s (moved s w (Tick n)) new
tick_is s w n old new c h =
    still_is s (Tick n) w (moved s w (Tick n)) old new c h refl refl (λ m. refl) (λ l. refl) (λ l r. refl) (λ k. refl) refl (λ i. refl)

pub deliver_is : (s : Setting) (w : WorldAt) (j : ℕ) (old new : Plant) → Changed Same Same SameFrames old.time old new → PlantIs s w old →
    PlantIs s (moved s w (Deliver j)) new
deliver_is s w j old new c h =
    still_is s (Deliver j) w (moved s w (Deliver j)) old new c h refl refl (λ m. refl) (λ l. refl) (λ l r. refl) (λ k. refl) refl (λ i. refl)

pub noise_is : (s : Setting) (w : WorldAt) (n p : ℕ) (octets : ArrayVec ℕ) (raw : Raw) (old new : Plant) →
    Changed Same Same SameFrames old.time old new → PlantIs s w old → PlantIs s (moved s w (Noise n p octets raw)) new
noise_is s w n p octets raw old new c h =
    still_is s (Noise n p octets raw) w (moved s w (Noise n p octets raw)) old new c h refl refl (λ m. refl) (λ l. refl) (λ l r. refl) (λ k. refl) refl (λ i. refl)

-- Time

pub pass_is : (s : Setting) (w : WorldAt) (dt : ℤ) (drifts : ArrayVec ℤ) (moves : ArrayVec (ℤ × ℤ)) (old new : Plant) → pos 0 ≤ℤ dt →
    Changed (EachBecame (Drifts drifts.items)) (EachBecame (Moves moves.items)) (Passes (old.frames.horizon +ℤ dt)) (old.time +ℤ dt) old new → PlantIs s w old →
    PlantIs s (moved s w (Pass dt drifts moves)) new
pass_is s w dt drifts moves old new later c h =
    plant_is s w (moved s w (Pass dt drifts moves)) _ _ _ _ old new c h (ap (λ t. t +ℤ dt) h.time) refl
    (each_turned (Drifts drifts.items) (λ n clock. clock ≡ w.clock n) (λ n clock. clock ≡ (moved s w (Pass dt drifts moves)).clock n) old.clocks.items new.clocks.items c.of_clocks
    (λ n x y r e. r.clock ∙ ap (λ (k : ClockState). record k { off = k.off +ℤ drift_of drifts.items n }) e) h.clocks)
    (each_turned (Moves moves.items) (SpanIs w) (SpanIs (moved s w (Pass dt drifts moves))) old.spans.items new.spans.items c.of_spans
    (λ k x y r e. record {
      fibre = r.span.fibre ∙ ap (λ (f : FibreState). record f { ms = f.ms +ℤ (move_of moves.items k).0; sm = f.sm +ℤ (move_of moves.items k).1 }) e.fibre;
      master = subst (EndIs _) (sym r.span.master) e.master;
      slave = subst (EndIs _) (sym r.span.slave) e.slave;
    }) h.spans)
    (frames_passed s (Pass dt drifts moves) w (moved s w (Pass dt drifts moves)) dt old.frames new.frames c.of_frames later (λ k. refl) refl refl (λ i. refl) h.frames)

-- One clock

where_clock : (b : Bool) (g : ClockState → ClockState) (x y k : ClockState) → Where b (λ old new. new ≡ g old) x y → x ≡ k → y ≡ (if b then g k else k)
where_clock true g x y k r e = r ∙ ap g e
where_clock false g x y k r e = r ∙ e

pub sample_is : (s : Setting) (w : WorldAt) (n base bits : ℕ) (old new : Plant) →
    Changed (EachBecame (At n Samples)) Same SameFrames old.time old new → PlantIs s w old → PlantIs s (moved s w (Sample n base bits)) new
sample_is s w n base bits old new c h =
    plant_is s w (moved s w (Sample n base bits)) _ _ _ _ old new c h h.time refl
    (each_turned (At n Samples) (λ m clock. clock ≡ w.clock m) (λ m clock. clock ≡ (moved s w (Sample n base bits)).clock m) old.clocks.items new.clocks.items c.of_clocks
    (λ m x y r e. where_clock (m == n) (λ (k : ClockState). record k { samples = k.samples + 1 }) x y (w.clock m) r e) h.clocks)
    (each_same (SpanIs w) (SpanIs (moved s w (Sample n base bits))) old.spans.items new.spans.items c.of_spans (λ k x e. record { fibre = e.fibre; master = e.master; slave = e.slave }) h.spans)
    (kept_frames s (Sample n base bits) w (moved s w (Sample n base bits)) old.frames new.frames c.of_frames (λ k. refl) refl refl (λ i. refl) h.frames)

-- One link

join_span : (b : Bool) (after f : FibreState) (m a : EndAt) (x y : Span) → Where b (λ old new. (new.fibre ≡ after) × (new.master ≡ old.master) × (new.slave ≡ old.slave)) x y → x.fibre ≡ f →
    EndIs m x.master → EndIs a x.slave → (y.fibre ≡ (if b then after else f)) × EndIs m y.master × EndIs a y.slave
join_span true after f m a x y r e p q = (r.0, subst (EndIs m) (sym r.1) p, subst (EndIs a) (sym r.2) q)
join_span false after f m a x y r e p q =
    (ap (λ (z : Span). z.fibre) r ∙ e, subst (λ (z : Span). EndIs m z.master) (sym r) p, subst (λ (z : Span). EndIs a z.slave) (sym r) q)

joins_by : (b : Bool) (ms sm : ℤ) (x y : Span) → Where b (Joins ms sm) x y →
    Where b (λ old new. (new.fibre ≡ (record { joined = true; ms = ms; sm = sm })) × (new.master ≡ old.master) × (new.slave ≡ old.slave)) x y
joins_by true ms sm x y r = (r.fibre, r.master, r.slave)
joins_by false ms sm x y r = r

pub join_is : (s : Setting) (w : WorldAt) (k : ℕ) (ms sm : ℤ) (old new : Plant) →
    Changed Same (EachBecame (At k (Joins ms sm))) SameFrames old.time old new → PlantIs s w old → PlantIs s (moved s w (Join k ms sm)) new
join_is s w k ms sm old new c h =
    plant_is s w (moved s w (Join k ms sm)) _ _ _ _ old new c h h.time refl
    (each_same (λ m clock. clock ≡ w.clock m) (λ m clock. clock ≡ (moved s w (Join k ms sm)).clock m) old.clocks.items new.clocks.items c.of_clocks (λ m x e. e) h.clocks)
    (each_turned (At k (Joins ms sm)) (SpanIs w) (SpanIs (moved s w (Join k ms sm))) old.spans.items new.spans.items c.of_spans
    (λ l x y r e.
    let j = join_span (l == k) (record { joined = true; ms = ms; sm = sm }) (w.fibre l) _ _ x y (joins_by (l == k) ms sm x y r) e.fibre e.master e.slave in
    record { fibre = j.0; master = j.1; slave = j.2 }) h.spans)
    (kept_frames s (Join k ms sm) w (moved s w (Join k ms sm)) old.frames new.frames c.of_frames (λ l. refl) refl refl (λ i. refl) h.frames)

-- The frames that wait and those on a fibre are lost

emptied : (at : EndAt) (x y : EndState) → Empties x y → EndIs at x → EndIs (record at { waiting = [] }) y
emptied at x y r h = record {
  name = ap (λ n. n.bytes) r.name ∙ h.name;
  tx = r.tx ∙ h.tx;
  rx = r.rx ∙ h.rx;
  waiting = emptied_list y.waiting.items r.waiting;
  marks = ap (λ m. m.items) r.marks ∙ h.marks;
}

lose_span : (b : Bool) (g : FibreState → FibreState) (f : FibreState) (m a : EndAt) (x y : Span) → Where b (λ old new. Loses (g old.fibre) old new) x y → x.fibre ≡ f →
    EndIs m x.master → EndIs a x.slave →
    (y.fibre ≡ (if b then g f else f)) × EndIs (if b then record m { waiting = [] } else m) y.master × EndIs (if b then record a { waiting = [] } else a) y.slave
lose_span true g f m a x y r e p q = (r.fibre ∙ ap g e, emptied m x.master y.master r.master p, emptied a x.slave y.slave r.slave q)
lose_span false g f m a x y r e p q =
    (ap (λ (z : Span). z.fibre) r ∙ e, subst (λ (z : Span). EndIs m z.master) (sym r) p, subst (λ (z : Span). EndIs a z.slave) (sym r) q)

pub cut_is : (s : Setting) (w : WorldAt) (k : ℕ) (old new : Plant) →
    Changed Same (EachBecame (At k Cuts)) (Turned (loses_link k)) old.time old new → PlantIs s w old → PlantIs s (moved s w (Cut k)) new
cut_is s w k old new c h =
    plant_is s w (moved s w (Cut k)) _ _ _ _ old new c h h.time refl
    (each_same (λ m clock. clock ≡ w.clock m) (λ m clock. clock ≡ (moved s w (Cut k)).clock m) old.clocks.items new.clocks.items c.of_clocks (λ m x e. e) h.clocks)
    (each_turned (At k Cuts) (SpanIs w) (SpanIs (moved s w (Cut k))) old.spans.items new.spans.items c.of_spans
    (λ l x y r e.
    let j = lose_span (l == k) (λ (f : FibreState). record f { joined = false }) (w.fibre l) _ _ x y r e.fibre e.master e.slave in
    record { fibre = j.0; master = j.1; slave = j.2 }) h.spans)
    (frames_turned s w (moved s w (Cut k)) (λ i. removed s (Cut k)) (loses_link k) old.frames new.frames c.of_frames refl refl (λ i. refl)
    (λ i. removed_is s (Cut k) (loses_link k i) (λ d. d.link == k) (λ d. refl) (λ f d r. ap (λ l. l == k) r.link)) h.frames)

touched : (s : Setting) (cfg : NetCfg) (n k : ℕ) → cfg ≡ s.cfg → touches_in n (slice_get cfg.links.items k) ≡ touches s n k
touched s cfg n k e = ap (λ (c : NetCfg). touches_in n (slice_get c.links.items k)) e

at_node : (n : ℕ) (o : Option LinkCfg) → option_map_or (touches_link n) o false ≡ touches_in n o
at_node n None = refl
at_node n (Some link) = refl

pub down_is : (s : Setting) (w : WorldAt) (n : ℕ) (old new : Plant) →
    Changed (EachBecame (At n GoesDown)) (EachBecame (DropsAt n old.net.cfg.links.items)) (Turned (loses_node n old.net.cfg.links.items)) old.time old new → PlantIs s w old →
    PlantIs s (moved s w (Down n)) new
down_is s w n old new c h =
    plant_is s w (moved s w (Down n)) _ _ _ _ old new c h h.time refl
    (each_turned (At n GoesDown) (λ m clock. clock ≡ w.clock m) (λ m clock. clock ≡ (moved s w (Down n)).clock m) old.clocks.items new.clocks.items c.of_clocks
    (λ m x y r e. where_clock (m == n) (λ (k : ClockState). record k { up = false }) x y (w.clock m) r e) h.clocks)
    (each_turned (DropsAt n old.net.cfg.links.items) (SpanIs w) (SpanIs (moved s w (Down n))) old.spans.items new.spans.items c.of_spans
    (λ l x y r e.
    let j = lose_span (touches s n l) (λ (f : FibreState). f) (w.fibre l) _ _ x y (subst (λ b. Where b Drops x y) (touched s old.net.cfg n l h.cfg) r) e.fibre e.master e.slave in
    record { fibre = j.0 ∙ either_same (touches s n l) (w.fibre l); master = j.1; slave = j.2 }) h.spans)
    (frames_turned s w (moved s w (Down n)) (λ i. removed s (Down n)) (loses_node n old.net.cfg.links.items) old.frames new.frames c.of_frames refl refl (λ i. refl)
    (λ i. removed_is s (Down n) (loses_node n old.net.cfg.links.items i) (λ d. is_at_node n old.net.cfg.links.items d.link) (λ d. refl)
    (λ f d r. at_node n (slice_get old.net.cfg.links.items d.link) ∙ touched s old.net.cfg n d.link h.cfg ∙ ap (touches s n) r.link)) h.frames)

-- Modules that are installed

put_end : (swap : Option Swap) (at : EndAt) (x y : EndState) → Swapped swap x y → EndIs at x → EndIs (with_swap swap at) y
put_end None at x y r h = subst (EndIs at) (sym r) h
put_end (Some swap) at x y r h = record {
  name = r.name;
  tx = r.tx;
  rx = r.rx;
  waiting = subst (λ (l : List PutOut). AllZip PutOutIs at.waiting l) (sym (ap (λ v. v.items) r.waiting)) h.waiting;
  marks = ap (λ m. m.items) r.marks ∙ h.marks;
}

put_at_end : (b : Bool) (swap : Option Swap) (at : EndAt) (x y : EndState) → Where b (Swapped swap) x y → EndIs at x →
    EndIs (if b then with_swap swap at else at) y
put_at_end true swap at x y r h = put_end swap at x y r h
put_at_end false swap at x y r h = subst (EndIs at) (sym r) h

abbrev end_up : ℕ → List Swap → Role → Option LinkCfg → EndAt → EndAt
end_up n swaps r o at =
    if is_of n (option_map (end_of r) o) then with_swap (swap_at (option_map_or (λ (end : End). end.port) (option_map (end_of r) o) 0) swaps) at else at

put_span : (n : ℕ) (swaps : List Swap) (o : Option LinkCfg) (f : FibreState) (m a : EndAt) (x y : Span) → SwapsIn n swaps o x y → x.fibre ≡ f →
    EndIs m x.master → EndIs a x.slave → (y.fibre ≡ f) × EndIs (end_up n swaps Master o m) y.master × EndIs (end_up n swaps Slave o a) y.slave
put_span n swaps None f m a x y r e p q =
    (ap (λ (z : Span). z.fibre) r ∙ e, subst (λ (z : Span). EndIs m z.master) (sym r) p, subst (λ (z : Span). EndIs a z.slave) (sym r) q)
put_span n swaps (Some link) f m a x y r e p q = (
  r.fibre ∙ e,
  put_at_end (link.upper == n) (swap_at link.upper_port swaps) m x.master y.master r.master p,
  put_at_end (link.lower == n) (swap_at link.lower_port swaps) a x.slave y.slave r.slave q,
)

abbrev fresh : ℤ → ℤ → ClockState
fresh off now = record { up = true; off = off; ticked = now; samples = 0 }

pub up_is : (s : Setting) (w : WorldAt) (n : ℕ) (off : ℤ) (swaps : ArrayVec Swap) (old new : Plant) →
    Changed (EachBecame (At n (ComesUp off old.time))) (EachBecame (SwapsAt n swaps.items old.net.cfg.links.items)) SameFrames old.time old new → PlantIs s w old →
    PlantIs s (moved s w (Up n off swaps)) new
up_is s w n off swaps old new c h =
    plant_is s w (moved s w (Up n off swaps)) _ _ _ _ old new c h h.time refl
    (each_turned (At n (ComesUp off old.time)) (λ m clock. clock ≡ w.clock m) (λ m clock. clock ≡ (moved s w (Up n off swaps)).clock m) old.clocks.items new.clocks.items c.of_clocks
    (λ m x y r e. where_clock (m == n) (λ (k : ClockState). fresh off old.time) x y (w.clock m) r e
    ∙ ap (λ t. if m == n then fresh off t else w.clock m) h.time) h.clocks)
    (each_turned (SwapsAt n swaps.items old.net.cfg.links.items) (SpanIs w) (SpanIs (moved s w (Up n off swaps))) old.spans.items new.spans.items c.of_spans
    (λ l x y r e.
    let j = put_span n swaps.items (slice_get s.cfg.links.items l) (w.fibre l) _ _ x y
    (subst (λ (g : NetCfg). SwapsIn n swaps.items (slice_get g.links.items l) x y) h.cfg r) e.fibre e.master e.slave in
    record { fibre = j.0; master = j.1; slave = j.2 }) h.spans)
    (kept_frames s (Up n off swaps) w (moved s w (Up n off swaps)) old.frames new.frames c.of_frames (λ l. refl) refl refl (λ i. refl) h.frames)
