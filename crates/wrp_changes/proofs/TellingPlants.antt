-- How the step of a node changes a plant: it changes as its state does, its numbers stay in range, and there is room
-- for the remaining steps.
use Rattle.std.proofs.Common.{◌≡◌, ◌∙◌, refl, ap, sym, subst, ℕ, zero, suc, ◌+◌, ◌*◌, ◌==◌, ◌≤◌, ◌<◌, ◌^◌, ◌⊎◌, inl, inr, ℤ, pos, ◌+ℤ◌, ◌*ℤ◌, ◌≤ℤ◌, unsigned_abs, Bool, true, false, if◌then◌else◌, List, [], ◌∷◌, ◌++◌, length, map, Option, None, Some, slice_get, arith, lit<}
use Rattle.std.proofs.Math.Nat.{mul-le-mul}
use Rattle.std.proofs.lemmas.Int.{unsigned_abs-mul}
use Rattle.std.proofs.lemmas.Bool.{true≢false}
use Rattle.std.proofs.lemmas.Option.{none-some, same_Some}
use Rattle.wrp_base.specs.Clock.{period_of}
use Rattle.wrp_network.specs.declared.configuration.NetCfg.{NetCfg}
use Rattle.wrp_base.specs.declared.time.Clock.{Clock}
use Rattle.wrp_base.specs.declared.time.Clock.TheVariants.{Mhz125, Mhz62}
use Rattle.wrp_network.specs.declared.network.LinkCfg.{LinkCfg}
use Rattle.wrp_network.specs.Network.{IsGrandmaster}
use Rattle.wrp_caldb.specs.Database.{Database}
use Rattle.wrp_config.specs.Accepted.{IsAccepted}
use Rattle.wrp_node.specs.declared.interface.Input.{Input}
use Rattle.wrp_node.specs.declared.interface.Input.TheVariants.{Tick, Sample, Frame, Sent, Carrier, Reset}
use Rattle.wrp_node.specs.declared.interface.Output.{Output}
use Rattle.wrp_node.specs.Node.{is_tick}
use Rattle.wrp_node.specs.NodeAt.{Taken}
use Rattle.wrp_node.specs.Sends.{frames_at}
use Rattle.wrp_node.specs.Telling.{Step}
use Rattle.wrp_course.specs.declared.clocks.ClockState.{ClockState}
use Rattle.wrp_plant.specs.declared.ends.EndState.{EndState}
use Rattle.wrp_plant.specs.declared.ends.PutOut.{PutOut}
use Rattle.wrp_plant.specs.declared.ends.Span.{Span}
use Rattle.wrp_course.specs.declared.fibres.FibreState.{FibreState}
use Rattle.wrp_plant.specs.declared.plant.Plant.{Plant}
use Rattle.wrp_changes.specs.declared.telling.News.{News}
use Rattle.wrp_course.proofs.DroppedFrames.{still}
use Rattle.wrp_changes.proofs.RoomKept.{where_room}
use Rattle.wrp_course.specs.Given.{Given, clock_told, stepped_by, ticked_by}
use Rattle.wrp_node.specs.declared.interface.Output.TheVariants.{Send, Step as StepOf}
use Rattle.wrp_plant.specs.EndRoom.{PutBy, SpanPutBy}
use Rattle.wrp_changes.specs.Room.{HasRoom}
use Rattle.wrp_changes.proofs.PutsKept.{later_still}
use Rattle.wrp_plant.proofs.Sizing.{never_later}
use Rattle.wrp_changes.specs.Moves.{Where, At}
use Rattle.wrp_plant.specs.Plant.{Each, FitsClock, FitsEnd, FitsFrames, FitsPlant, FitsSpan, FramesAre, PlantIs, SpanIs}
use Rattle.wrp_changes.specs.PlantTold.{IsStepOf, MayStep, Steps, Told, TellsIn, TellsPort, TellsAt, cycles_in, less_one, put_at, sends}
use Rattle.wrp_course.specs.Setting.{Setting}
use Rattle.wrp_plant.specs.Sizes.{IsDelayBy, IsOffBy, IsTimeBy}
use Rattle.wrp_course.specs.WorldAt.{WorldAt}
use Rattle.wrp_changes.proofs.Fitting.{abs_sum}
use Rattle.wrp_changes.proofs.Turned.{each_turned}
use Rattle.wrp_changes.proofs.TellingEnds.{span_is}

-- The clock

ticks_alike : (input : Input) (b : Bool) (now time before : ℤ) → b ≡ is_tick input → now ≡ time → (if b then now else before) ≡ ticked_by input time before
ticks_alike Tick b now time before e t = rw e t
ticks_alike (Sample n base bits) b now time before e t = rw e refl
ticks_alike (Frame p octets raw sample) b now time before e t = rw e refl
ticks_alike (Sent p seq delay stamp) b now time before e t = rw e refl
ticks_alike (Carrier p up m) b now time before e t = rw e refl
ticks_alike Reset b now time before e t = rw e refl

abbrev stepped : ClockState → ℤ → ℤ → ClockState
stepped c off ticked = record c { off = off; ticked = ticked }

clock_where : (b : Bool) (C : ClockState → ClockState → Type 0) (x y k after : ClockState) → Where b C x y → (C x y → y ≡ after) → x ≡ k → y ≡ (if b then after else k)
clock_where true C x y k after r f e = f r
clock_where false C x y k after r f e = r ∙ e

clock_is : (s : Setting) (v : WorldAt) (g : Given) (step : Step) (cycles now : ℤ) (kind : Clock) (ticked : Bool) (x y k : ClockState) →
    cycles ≡ step.cycles → now ≡ v.time → kind ≡ s.cfg.clock → ticked ≡ is_tick g.input → x ≡ k → Steps cycles now (period_of kind) ticked x y →
    y ≡ clock_told s v g step.cycles k
clock_is s v g step cycles now kind ticked x y k c t p i e r =
    r
    ∙ ap (λ z. stepped x (x.off +ℤ (z *ℤ pos (period_of kind))) (if ticked then now else x.ticked)) c
    ∙ ap (λ z. stepped x (x.off +ℤ (step.cycles *ℤ pos (period_of z))) (if ticked then now else x.ticked)) p
    ∙ ap (λ z. stepped x (x.off +ℤ (step.cycles *ℤ pos (period_of s.cfg.clock))) z) (ticks_alike g.input ticked now v.time x.ticked i t)
    ∙ ap (clock_told s v g step.cycles) e

-- All parts

pub told_is : (s : Setting) (v : WorldAt) (g : Given) (taken : Taken) (step : Step) (news : News) (outs : List Output) (old new : Plant) →
    Told news outs old new → PlantIs s v old → IsStepOf s v g step news outs → PlantIs s (stepped_by s v g taken step) new
told_is s v g taken step news outs old new c h q = record {
  cfg = c.cfg ∙ h.cfg;
  db = c.db ∙ h.db;
  time = c.time ∙ h.time;
  count = c.count ∙ h.count;
  clocks =
      each_turned (At news.node (Steps (cycles_in outs) old.time (period_of old.net.cfg.clock) news.ticked)) (λ n clock. clock ≡ v.clock n)
      (λ n clock. clock ≡ (stepped_by s v g taken step).clock n) old.clocks.items new.clocks.items c.of_clocks
      (λ n x y r e. clock_where (n == g.to) (Steps (cycles_in outs) old.time (period_of old.net.cfg.clock) news.ticked) x y (v.clock n) (clock_told s v g step.cycles (v.clock n))
      (subst (λ d. Where (n == d) (Steps (cycles_in outs) old.time (period_of old.net.cfg.clock) news.ticked) x y) (sym q.node) r)
      (clock_is s v g step (cycles_in outs) old.time old.net.cfg.clock news.ticked x y (v.clock n) q.cycles h.time (ap (λ (k : NetCfg). k.clock) h.cfg) q.ticked e) e) h.clocks;
  spans =
      each_turned (TellsAt old.time news outs old.net.cfg.links.items) (SpanIs v) (SpanIs (stepped_by s v g taken step)) old.spans.items new.spans.items c.of_spans
      (λ k x y r e.
      let j = span_is s v g step news outs old.time (slice_get s.cfg.links.items k) (v.fibre k) _ _ x y h.time q.node q.by (q.ports k)
      (subst (λ (n : NetCfg). TellsIn old.time news outs (slice_get n.links.items k) x y) h.cfg r) e.fibre e.master e.slave in
      record { fibre = j.0; master = j.1; slave = j.2 }) h.spans;
  frames = subst (FramesAre s (stepped_by s v g taken step)) (sym c.of_frames) (record { horizon = h.frames.horizon; count = h.frames.count; sent = h.frames.sent; each = h.frames.each });
}

-- Ranges

period_size : (kind : Clock) → period_of kind ≤ 2 ^ 30
period_size Mhz125 = lit< tt
period_size Mhz62 = lit< tt

step_size : (cycles : ℤ) (period : ℕ) → unsigned_abs cycles ≤ 2 ^ 62 → period ≤ 2 ^ 30 → unsigned_abs (cycles *ℤ pos period) ≤ 2 ^ 92
step_size cycles period h k =
    let size : unsigned_abs (cycles *ℤ pos period) ≤ 2 ^ 62 * 2 ^ 30 = rw unsigned_abs-mul (mul-le-mul h k) in
    omega (arith, size)

off_stepped : (e : ℕ) (off d : ℤ) → unsigned_abs off ≤ 2 ^ 92 * e → unsigned_abs d ≤ 2 ^ 92 → IsOffBy e (off +ℤ d)
off_stepped e off d h k = omega (arith, abs_sum off d, h, k)

-- a clock with this offset may be stepped
abbrev MayMove : ℕ → ℤ → ℤ → Type 0
MayMove e cycles off = (cycles ≡ pos 0) ⊎ ((unsigned_abs cycles ≤ 2 ^ 62) × (unsigned_abs off ≤ 2 ^ 92 * e))

off_fits : (e : ℕ) (off cycles : ℤ) (kind : Clock) → IsOffBy e off → MayMove e cycles off → IsOffBy e (off +ℤ (cycles *ℤ pos (period_of kind)))
off_fits e off cycles kind h (inl z) = subst (λ c. IsOffBy e (off +ℤ (c *ℤ pos (period_of kind)))) (sym z) (subst (IsOffBy e) (sym (still off (period_of kind))) h)
off_fits e off cycles kind h (inr k) = off_stepped e off (cycles *ℤ pos (period_of kind)) k.1 (step_size cycles (period_of kind) k.0 (period_size kind))

either : (P : ℤ → Type 0) (b : Bool) (x y : ℤ) → P x → P y → P (if b then x else y)
either P true x y h k = h
either P false x y h k = k

clock_fits : (e : ℕ) (cycles now : ℤ) (kind : Clock) (ticked : Bool) (x y : ClockState) → IsTimeBy e now → MayMove e cycles x.off →
    Steps cycles now (period_of kind) ticked x y → FitsClock e x → FitsClock e y
clock_fits e cycles now kind ticked x y t m r h =
    subst (FitsClock e) (sym r)
    (record {
      off = off_fits e x.off cycles kind h.off m;
      ticked = either (IsTimeBy e) ticked now x.ticked t h.ticked;
      samples = h.samples;
    })

puts_fit : (e : ℕ) (now : ℤ) → IsTimeBy e now → (fs : List (List ℕ)) → Each (λ i out. IsTimeBy e out.at) (map (put_at now) fs)
puts_fit e now t [] i out g = absurd (none-some out g)
puts_fit e now t (f ∷ fs) zero out g = subst (λ (o : PutOut). IsTimeBy e o.at) (same_Some (put_at now f) out g) t
puts_fit e now t (f ∷ fs) (suc i) out g = puts_fit e now t fs i out g

each_append : {A : Type 0} (P : A → Type 0) (xs ys : List A) → Each (λ i. P) xs → Each (λ i. P) ys → Each (λ i. P) (xs ++ ys)
each_append P [] ys h k i x e = k i x e
each_append P (z ∷ xs) ys h k zero x e = h zero x e
each_append P (z ∷ xs) ys h k (suc i) x e = each_append P xs ys (λ j y f. h (suc j) y f) k i x e

end_fits : (e : ℕ) (now : ℤ) (news : News) (outs : List Output) (p : ℕ) (x y : EndState) → IsTimeBy e now → TellsPort now news outs p x y → FitsEnd e x → FitsEnd e y
end_fits e now news outs p x y t r h = record {
  waiting =
      subst (λ (l : List PutOut). Each (λ i out. IsTimeBy e out.at) l) (sym r.waiting)
      (each_append (λ (out : PutOut). IsTimeBy e out.at) x.waiting.items (map (put_at now) (frames_at p outs)) h.waiting (puts_fit e now t (frames_at p outs)));
}

span_fits : (e : ℕ) (now : ℤ) (news : News) (outs : List Output) (o : Option LinkCfg) (x y : Span) → IsTimeBy e now → TellsIn now news outs o x y → FitsSpan e x → FitsSpan e y
span_fits e now news outs None x y t r h = subst (FitsSpan e) (sym r) h
span_fits e now news outs (Some link) x y t r h = record {
  ms = subst (λ (f : FibreState). IsDelayBy e f.ms) (sym r.fibre) h.ms;
  sm = subst (λ (f : FibreState). IsDelayBy e f.sm) (sym r.fibre) h.sm;
  master = where_room (link.upper == news.node) (TellsPort now news outs link.upper_port) (FitsEnd e) x.master y.master r.master (end_fits e now news outs link.upper_port x.master y.master t) h.master;
  slave = where_room (link.lower == news.node) (TellsPort now news outs link.lower_port) (FitsEnd e) x.slave y.slave r.slave (end_fits e now news outs link.lower_port x.slave y.slave t) h.slave;
}

move_at : (outs : List Output) (old : Plant) (n : ℕ) (x : ClockState) → slice_get old.clocks.items n ≡ Some x → MayStep outs old → MayMove old.events (cycles_in outs) x.off
move_at outs old n x e (inl z) = inl z
move_at outs old n x e (inr k) = inr (k.0, k.1 n x e)

told_clocks : (news : News) (outs : List Output) (old new : Plant) → Told news outs old new → MayStep outs old → FitsPlant old →
    Each (λ n. FitsClock old.events) new.clocks.items
told_clocks news outs old new c m f n y e =
    let it = c.of_clocks.1 n y e in
    where_room (n == news.node) (Steps (cycles_in outs) old.time (period_of old.net.cfg.clock) news.ticked) (FitsClock old.events) it.0 y it.2
    (λ r h. clock_fits old.events (cycles_in outs) old.time old.net.cfg.clock news.ticked it.0 y f.time (move_at outs old n it.0 it.1 m) r h) (f.clocks n it.0 it.1)

-- The room for the remaining steps, and when a frame was last put out

pub spare_kept : (old new : Plant) → ((k : ℕ) → HasRoom (k + 1) old → HasRoom k new) → HasRoom 1 old → (n : ℕ) → HasRoom n old → HasRoom (less_one n) new
spare_kept old new room one zero h = room 0 one
spare_kept old new room one (suc n) h = let next : suc n ≡ n + 1 = omega arith in room n (subst (λ k. HasRoom k old) next h)

put_by_now : (b : Bool) (before now : ℤ) → before ≤ℤ now → (if b then now else before) ≤ℤ now
put_by_now true before now h = never_later now
put_by_now false before now h = h

put_no_sooner : (b : Bool) (before now : ℤ) → before ≤ℤ now → before ≤ℤ (if b then now else before)
put_no_sooner true before now h = h
put_no_sooner false before now h = never_later before

-- a frame that is sent is put out now; if none is sent, no more frames wait
sent_by : (now z : ℤ) → now ≤ℤ z → (fs : List (List ℕ)) (i : ℕ) (out : PutOut) → slice_get (map (put_at now) fs) i ≡ Some out → out.at ≤ℤ z
sent_by now z h [] i out g = absurd (none-some out g)
sent_by now z h (f ∷ fs) zero out g = subst (λ (o : PutOut). o.at ≤ℤ z) (same_Some (put_at now f) out g) h
sent_by now z h (f ∷ fs) (suc i) out g = sent_by now z h fs i out g

pub none_sent : (p : ℕ) (outs : List Output) → sends outs ≡ false → frames_at p outs ≡ []
none_sent p [] e = refl
none_sent p (Send q frame ∷ outs) e = absurd (true≢false e)
none_sent p (StepOf cycles ∷ outs) e = none_sent p outs e
none_sent p (out ∷ outs) e = none_sent p outs e

sent_put : (b : Bool) (before now : ℤ) (outs : List Output) (p i : ℕ) (out : PutOut) → sends outs ≡ b →
    slice_get (map (put_at now) (frames_at p outs)) i ≡ Some out → out.at ≤ℤ (if b then now else before)
sent_put true before now outs p i out e g = sent_by now now (never_later now) (frames_at p outs) i out g
sent_put false before now outs p i out e g = absurd (none-some out (sym (ap (λ fs. slice_get (map (put_at now) fs) i) (none_sent p outs e)) ∙ g))

put_append : (z : ℤ) (xs ys : List PutOut) → ((i : ℕ) (out : PutOut) → slice_get xs i ≡ Some out → out.at ≤ℤ z) →
    ((i : ℕ) (out : PutOut) → slice_get ys i ≡ Some out → out.at ≤ℤ z) → (i : ℕ) (out : PutOut) → slice_get (xs ++ ys) i ≡ Some out → out.at ≤ℤ z
put_append z [] ys h k i out e = k i out e
put_append z (x ∷ xs) ys h k zero out e = h zero out e
put_append z (x ∷ xs) ys h k (suc i) out e = put_append z xs ys (λ j y f. h (suc j) y f) k i out e

end_put : (b : Bool) (before now : ℤ) (news : News) (outs : List Output) (p : ℕ) (x y : EndState) → sends outs ≡ b → before ≤ℤ now →
    TellsPort now news outs p x y → PutBy before x → PutBy (if b then now else before) y
end_put b before now news outs p x y e l r h i out g =
    put_append (if b then now else before) x.waiting.items (map (put_at now) (frames_at p outs))
    (λ j o f. later_still o.at before (if b then now else before) (h j o f) (put_no_sooner b before now l))
    (λ j o f. sent_put b before now outs p j o e f) i out (sym (ap (λ l. slice_get l i) r.waiting) ∙ g)

later_put : (b : Bool) (before now : ℤ) (x : EndState) → before ≤ℤ now → PutBy before x → PutBy (if b then now else before) x
later_put b before now x l h i out g = later_still out.at before (if b then now else before) (h i out g) (put_no_sooner b before now l)

where_put : (c b : Bool) (before now : ℤ) (news : News) (outs : List Output) (p : ℕ) (x y : EndState) → sends outs ≡ b → before ≤ℤ now →
    Where c (TellsPort now news outs p) x y → PutBy before x → PutBy (if b then now else before) y
where_put true b before now news outs p x y e l r h = end_put b before now news outs p x y e l r h
where_put false b before now news outs p x y e l r h = subst (PutBy (if b then now else before)) (sym r) (later_put b before now x l h)

span_put_by : (b : Bool) (before now : ℤ) (news : News) (outs : List Output) (o : Option LinkCfg) (x y : Span) → sends outs ≡ b → before ≤ℤ now →
    TellsIn now news outs o x y → SpanPutBy before x → SpanPutBy (if b then now else before) y
span_put_by b before now news outs None x y e l r h =
    subst (SpanPutBy (if b then now else before)) (sym r) (record { master = later_put b before now x.master l h.master; slave = later_put b before now x.slave l h.slave })
span_put_by b before now news outs (Some link) x y e l r h = record {
  master = where_put (link.upper == news.node) b before now news outs link.upper_port x.master y.master e l r.master h.master;
  slave = where_put (link.lower == news.node) b before now news outs link.lower_port x.slave y.slave e l r.slave h.slave;
}

span_put : (b : Bool) (before after now : ℤ) (news : News) (outs : List Output) (o : Option LinkCfg) (x y : Span) → sends outs ≡ b →
    after ≡ (if b then now else before) → before ≤ℤ now → TellsIn now news outs o x y → SpanPutBy before x → SpanPutBy after y
span_put b before after now news outs o x y e put l r h = subst (λ z. SpanPutBy z y) (sym put) (span_put_by b before now news outs o x y e l r h)

pub told_fits : (news : News) (outs : List Output) (old new : Plant) → Told news outs old new → MayStep outs old →
    (HasRoom old.spare old → HasRoom new.spare new) → new.last_put ≡ (if sends outs then old.time else old.last_put) → FitsPlant old → FitsPlant new
told_fits news outs old new c m spare put f = record {
  accepted = subst (λ (g : NetCfg). IsAccepted g new.net.db) (sym c.cfg) (subst (λ (d : Database). IsAccepted old.net.cfg d) (sym c.db) f.accepted);
  clock_count = c.of_clocks.0 ∙ f.clock_count ∙ ap (λ (g : NetCfg). length g.nodes.items) (sym c.cfg);
  span_count = c.of_spans.0 ∙ f.span_count ∙ ap (λ (g : NetCfg). length g.links.items) (sym c.cfg);
  events = subst (λ n. n < 2 ^ 32) (sym c.count) f.events;
  time = subst (λ z. IsTimeBy new.events z) (sym c.time) (subst (λ n. IsTimeBy n old.time) (sym c.count) f.time);
  clocks = subst (λ e. Each (λ n. FitsClock e) new.clocks.items) (sym c.count) (told_clocks news outs old new c m f);
  spans =
      subst (λ e. Each (λ n. FitsSpan e) new.spans.items) (sym c.count)
      (each_turned (TellsAt old.time news outs old.net.cfg.links.items) (λ n. FitsSpan old.events) (λ n. FitsSpan old.events) old.spans.items new.spans.items c.of_spans
      (λ k x y r h. span_fits old.events old.time news outs (slice_get old.net.cfg.links.items k) x y f.time r h) f.spans);
  frames =
      subst (λ (g : NetCfg). FitsFrames (length g.links.items) new.events new.frames) (sym c.cfg)
      (subst (λ n. FitsFrames (length old.net.cfg.links.items) n new.frames) (sym c.count) (subst (FitsFrames (length old.net.cfg.links.items) old.events) (sym c.of_frames) f.frames));
  room = spare f.room;
  puts =
      each_turned (TellsAt old.time news outs old.net.cfg.links.items) (λ n. SpanPutBy old.last_put) (λ n. SpanPutBy new.last_put) old.spans.items new.spans.items c.of_spans
      (λ k x y r h. span_put (sends outs) old.last_put new.last_put old.time news outs (slice_get old.net.cfg.links.items k) x y refl put f.put r h) f.puts;
  put = subst (λ z. new.last_put ≤ℤ z) (sym c.time) (subst (λ z. z ≤ℤ old.time) (sym put) (put_by_now (sends outs) old.last_put old.time f.put));
  top = subst (λ (g : NetCfg). IsGrandmaster g new.top) (sym c.cfg) (subst (IsGrandmaster old.net.cfg) (sym c.top) f.top);
}
