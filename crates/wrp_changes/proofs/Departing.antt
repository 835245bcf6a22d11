-- A frame that departs: the plant changes as its state does, and its numbers stay in range.
use Rattle.std.proofs.Common.{◌≡◌, ◌∙◌, refl, ap, ap₂, sym, subst, ℕ, zero, suc, ◌+◌, ◌*◌, ◌<◌, ◌≤◌, ◌^◌, ◌==◌, ◌&&◌, ℤ, pos, ◌+ℤ◌, ◌-ℤ◌, unsigned_abs, Bool, true, false, if◌then◌else◌, List, [], ◌∷◌, ◌++◌, length, drop, slice_get, Option, None, Some, IfSome, OnOk, Result, Ok, Err, option_map, vec_len, vec_capacity, arith}
use Rattle.std.proofs.lemmas.Int.{ints}
use Rattle.std.specs.List.{AllZip}
use Rattle.std.proofs.lemmas.Bool.{true≢false}
use Rattle.std.proofs.lemmas.Option.{same_Some}
use Rattle.wrp_base.specs.declared.link.Role.{Role}
use Rattle.wrp_bounds.specs.Times.{frame_life}
use Rattle.wrp_base.specs.declared.link.Role.TheVariants.{Master, Slave}
use Rattle.wrp_plant.specs.declared.ends.EndState.{EndState}
use Rattle.wrp_plant.specs.declared.ends.PutOut.{PutOut}
use Rattle.wrp_plant.specs.declared.ends.Span.{Span}
use Rattle.wrp_course.specs.declared.event.Event.TheVariants.{Depart}
use Rattle.wrp_course.specs.declared.fibres.FibreState.{FibreState}
use Rattle.wrp_flights.specs.declared.departed.Departed.{Departed}
use Rattle.wrp_flights.specs.Departed.{is_on}
use Rattle.wrp_flights.specs.Frames.{Departs, FramesAt, Puts, at, sent_at}
use Rattle.wrp_course.specs.declared.place.Place.{Place}
use Rattle.wrp_plant.specs.declared.plant.Plant.{Plant}
use Rattle.wrp_changes.specs.Flights.{LosesOldest, TakesOldest, delay_in, departed_of, leaving}
use Rattle.wrp_course.specs.Moved.{behind_first, departing, is_place, moved, one_more, waiting_at}
use Rattle.wrp_changes.specs.Moves.{At, Changed, Same, SameFrames, EachBecame, Where}
use Rattle.wrp_plant.specs.Plant.{DepartedIs, Each, EndIs, FitsDeparted, FitsEnd, FitsFrames, FitsPlant, FitsSpan, FramesAre, MaybeIs, PlantIs, PutOutIs, SpanIs, end_in, kept_since}
use Rattle.wrp_plant.specs.EndRoom.{HasEndRoom, HasSpanRoom}
use Rattle.wrp_changes.specs.Room.{HasRoom}
use Rattle.wrp_course.specs.Setting.{Setting, is_role, place_of}
use Rattle.wrp_plant.specs.Sizes.{IsDelayBy, IsDueBy, IsHorizonBy, IsTimeBy}
use Rattle.wrp_course.specs.WorldAt.{EndAt, FrameAt, Sending, WorldAt, delay_from, is_on_fibre}
use Rattle.wrp_plant.proofs.EachLists.{length_push, turned_about}
use Rattle.wrp_changes.proofs.FramesTurned.{frames_same}
use Rattle.wrp_plant.proofs.KeptSince.{on_since, since_some}
use Rattle.wrp_changes.proofs.PutsKept.{depart_puts}
use Rattle.wrp_plant.proofs.Sizing.{never_later}
use Rattle.wrp_changes.proofs.Fitting.{frame_more, frames_more, plant_fits, same_clocks, span_more, time_more, delay_more, end_more, where_fits}
use Rattle.wrp_changes.proofs.Moving.{plant_is}
use Rattle.wrp_plant.proofs.Standing.{down_told, end_told}
use Rattle.wrp_changes.proofs.Turned.{each_same, each_turned}
use Rattle.wrp_plant.proofs.OldestFrames.{fits_end}

-- Ends

abbrev behind : EndAt → EndAt
behind e = record e { waiting = behind_first e.waiting }

zip_behind : (ws : List Sending) (xs : List PutOut) → AllZip PutOutIs ws xs → AllZip PutOutIs (behind_first ws) (drop 1 xs)
zip_behind [] [] h = h
zip_behind [] (x ∷ xs) h = absurd h
zip_behind (w ∷ ws) [] h = absurd h
zip_behind (w ∷ ws) (x ∷ xs) h = h.1

end_behind : (at : EndAt) (x y : EndState) → LosesOldest x y → EndIs at x → EndIs (behind at) y
end_behind at x y r h = record {
  name = ap (λ n. n.bytes) r.name ∙ h.name;
  tx = r.tx ∙ h.tx;
  rx = r.rx ∙ h.rx;
  waiting = subst (λ (l : List PutOut). AllZip PutOutIs (behind_first at.waiting) l) (sym r.waiting) (zip_behind at.waiting x.waiting.items h.waiting);
  marks = ap (λ m. m.items) r.marks ∙ h.marks;
}

end_where : (b : Bool) (at : EndAt) (x y : EndState) → Where b LosesOldest x y → EndIs at x → EndIs (if b then behind at else at) y
end_where true at x y r h = end_behind at x y r h
end_where false at x y r h = subst (EndIs at) (sym r) h

abbrev Taken : Bool → Role → FibreState → EndAt → EndAt → Span → Type 0
Taken c role f m a y =
    (y.fibre ≡ f) × EndIs (if c && is_role role Master then behind m else m) y.master × EndIs (if c && is_role role Slave then behind a else a) y.slave

taken_span : (b : Bool) (role : Role) (f : FibreState) (m a : EndAt) (x y : Span) → Where b (TakesOldest role) x y → x.fibre ≡ f → EndIs m x.master → EndIs a x.slave → Taken b role f m a y
taken_span true role f m a x y r e p q =
    (r.fibre ∙ e, end_where (is_role role Master) m x.master y.master r.master p, end_where (is_role role Slave) a x.slave y.slave r.slave q)
taken_span false role f m a x y r e p q =
    (ap (λ (z : Span). z.fibre) r ∙ e, subst (λ (z : Span). EndIs m z.master) (sym r) p, subst (λ (z : Span). EndIs a z.slave) (sym r) q)

-- Frames

get_last : (xs : List ℤ) (t : ℤ) → slice_get (xs ++ (t ∷ [])) (length xs) ≡ Some t
get_last [] t = refl
get_last (x ∷ xs) t = get_last xs t

get_other : (xs : List ℤ) (t : ℤ) (i : ℕ) → (i ≡ length xs → ⊥) → slice_get (xs ++ (t ∷ [])) i ≡ slice_get xs i
get_other [] t zero h = absurd (h refl)
get_other [] t (suc i) h = refl
get_other (x ∷ xs) t zero h = refl
get_other (x ∷ xs) t (suc i) h = get_other xs t i (λ e. h (ap suc e))

is_next : (i n : ℕ) → (suc i == (n + 1)) ≡ true → i ≡ n
is_next i n e = grind (arith, e)

not_next : (i n : ℕ) → (suc i == (n + 1)) ≡ false → i ≡ n → ⊥
not_next i n e f = grind (arith, e, f)

not_first : (n : ℕ) → (zero == (n + 1)) ≡ true → ⊥
not_first n e = grind (arith, e)

-- the time at which the frame of a number was put out, after one more departed
sent_more : (xs : List ℤ) (t : ℤ) (k : ℕ) (b : Bool) → (k == (length xs + 1)) ≡ b → sent_at k (xs ++ (t ∷ [])) ≡ (if b then Some t else sent_at k xs)
sent_more xs t zero true e = absurd (not_first (length xs) e)
sent_more xs t zero false e = refl
sent_more xs t (suc i) true e = ap (slice_get (xs ++ (t ∷ []))) (is_next i (length xs) e) ∙ get_last xs t
sent_more xs t (suc i) false e = get_other xs t i (not_next i (length xs) e)

if_sent : (b : Bool) (f : FrameAt) (o : Option FrameAt) (t : ℤ) → t ≡ f.sending.at →
    (if b then Some t else option_map (λ g. g.sending.at) o) ≡ option_map (λ g. g.sending.at) (if b then Some f else o)
if_sent true f o t e = ap Some e
if_sent false f o t e = refl

if_kept : (h : ℤ) (b : Bool) (f : FrameAt) (d : Departed) (o : Option FrameAt) (q : Option Departed) → is_on_fibre (Some f) ≡ true → DepartedIs f d →
    MaybeIs DepartedIs (kept_since h o) q → MaybeIs DepartedIs (kept_since h (if b then Some f else o)) (if b then Some d else q)
if_kept h true f d o q on k m = subst (λ p. MaybeIs DepartedIs p (Some d)) (sym (since_some h f (on_since h f on))) k
if_kept h false f d o q on k m = m

abbrev FramesNow : Setting → WorldAt → Place → ℤ → List Sending → FramesAt → Type 0
FramesNow s w place stamp ws frames =
    (frames.horizon ≡ w.time -ℤ pos (frame_life s.cfg)) × (length frames.sent ≡ one_more ws w.departed)
    × ((i : ℕ) → sent_at i frames.sent ≡ option_map (λ f. f.sending.at) (departing w (Some place) stamp ws i))
    × ((i : ℕ) → MaybeIs DepartedIs (kept_since frames.horizon (departing w (Some place) stamp ws i)) (at i frames.kept))

one_put : (s : Setting) (w : WorldAt) (f : FrameAt) (d : Departed) (old new : FramesAt) → FramesAre s w old → is_on_fibre (Some f) ≡ true → DepartedIs f d → Puts d old new →
    (new.horizon ≡ w.time -ℤ pos (frame_life s.cfg)) × (length new.sent ≡ w.departed + 1)
    × ((i : ℕ) → sent_at i new.sent ≡ option_map (λ g. g.sending.at) (if i == (w.departed + 1) then Some f else w.frame i))
    × ((i : ℕ) → MaybeIs DepartedIs (kept_since new.horizon (if i == (w.departed + 1) then Some f else w.frame i)) (at i new.kept))
one_put s w f d old new h on k p = (
  p.horizon ∙ h.horizon,
  ap length p.sent ∙ length_push old.sent d.sent ∙ ap (λ n. n + 1) h.count,
  λ i.
      ap (sent_at i) p.sent ∙ sent_more old.sent d.sent i (i == (length old.sent + 1)) refl
      ∙ ap₂ (λ (b : Bool) (o : Option ℤ). if b then Some d.sent else o) (ap (λ n. i == (n + 1)) h.count) (h.sent i)
      ∙ if_sent (i == (w.departed + 1)) f (w.frame i) d.sent k.sent,
  λ i.
      subst (λ x. MaybeIs DepartedIs (kept_since x (if i == (w.departed + 1) then Some f else w.frame i)) (at i new.kept)) (sym p.horizon)
      (subst (λ q. MaybeIs DepartedIs (kept_since old.horizon (if i == (w.departed + 1) then Some f else w.frame i)) q)
      (sym (p.kept i ∙ ap (λ n. if i == (n + 1) then Some d else at i old.kept) h.count))
      (if_kept old.horizon (i == (w.departed + 1)) f d (w.frame i) (at i old.kept) on k (h.each i))),
)

frames_grow : (s : Setting) (w : WorldAt) (place : Place) (stamp : ℤ) (ws : List Sending) (old new : FramesAt) (d : Option Departed) → FramesAre s w old →
    MaybeIs DepartedIs (leaving w place stamp ws) d → Departs d old new → FramesNow s w place stamp ws new
frames_grow s w place stamp [] old new None h k p = subst (FramesNow s w place stamp []) (sym p) (h.horizon, h.count, h.sent, h.each)
frames_grow s w place stamp [] old new (Some d) h k p = absurd k
frames_grow s w place stamp (oldest ∷ rest) old new None h k p = absurd k
frames_grow s w place stamp (oldest ∷ rest) old new (Some d) h k p = one_put s w _ d old new h refl k p

-- All parts

abbrev FramesOf : Setting → WorldAt → Option Place → ℤ → FramesAt → Type 0
FramesOf s w o stamp frames =
    (frames.horizon ≡ w.time -ℤ pos (frame_life s.cfg)) × (length frames.sent ≡ one_more (waiting_at w o) w.departed)
    × ((i : ℕ) → sent_at i frames.sent ≡ option_map (λ f. f.sending.at) (departing w o stamp (waiting_at w o) i))
    × ((i : ℕ) → MaybeIs DepartedIs (kept_since frames.horizon (departing w o stamp (waiting_at w o) i)) (at i frames.kept))

abbrev SpanOf : WorldAt → Option Place → ℕ → Span → Type 0
SpanOf w o k y =
    (y.fibre ≡ w.fibre k) × EndIs (if is_place o k Master then behind (w.end_at k Master) else w.end_at k Master) y.master
    × EndIs (if is_place o k Slave then behind (w.end_at k Slave) else w.end_at k Slave) y.slave

span_of : (w : WorldAt) (place : Place) (k : ℕ) (x y : Span) → Where (k == place.link) (TakesOldest place.role) x y → SpanIs w k x → SpanOf w (Some place) k y
span_of w place k x y r h =
    subst (λ c. Taken c place.role (w.fibre k) (w.end_at k Master) (w.end_at k Slave) y) (turned_about k place.link)
    (taken_span (k == place.link) place.role (w.fibre k) (w.end_at k Master) (w.end_at k Slave) x y r h.fibre h.master h.slave)

pub depart_is : (s : Setting) (w : WorldAt) (n p : ℕ) (stamp : ℤ) (place : Place) (d : Option Departed) (old new : Plant) →
    Changed Same (EachBecame (At place.link (TakesOldest place.role))) (Departs d) old.time old new → place_of s n p ≡ Some place →
    MaybeIs DepartedIs (leaving w place stamp (w.end_at place.link place.role).waiting) d → PlantIs s w old → PlantIs s (moved s w (Depart n p stamp)) new
depart_is s w n p stamp place d old new c e k h =
    let frames : FramesOf s w (place_of s n p) stamp new.frames =
    subst (λ o. FramesOf s w o stamp new.frames) (sym e)
    (frames_grow s w place stamp (w.end_at place.link place.role).waiting old.frames new.frames d h.frames k c.of_frames) in
    plant_is s w (moved s w (Depart n p stamp)) _ _ _ _ old new c h h.time refl
    (each_same (λ m clock. clock ≡ w.clock m) (λ m clock. clock ≡ (moved s w (Depart n p stamp)).clock m) old.clocks.items new.clocks.items c.of_clocks (λ m x q. q) h.clocks)
    (each_turned (At place.link (TakesOldest place.role)) (SpanIs w) (SpanIs (moved s w (Depart n p stamp))) old.spans.items new.spans.items c.of_spans
    (λ l x y r q. let j = subst (λ o. SpanOf w o l y) (sym e) (span_of w place l x y r q) in record { fibre = j.0; master = j.1; slave = j.2 }) h.spans)
    (record { horizon = frames.0; count = frames.1; sent = frames.2; each = frames.3 })

-- a port that belongs to no link
abbrev NoneOf : Option Place → WorldAt → ℤ → Type 0
NoneOf o w stamp =
    (one_more (waiting_at w o) w.departed ≡ w.departed) × ((i : ℕ) → departing w o stamp (waiting_at w o) i ≡ w.frame i) × ((k : ℕ) (r : Role) → is_place o k r ≡ false)

none_of : (w : WorldAt) (stamp : ℤ) → NoneOf None w stamp
none_of w stamp = (refl, λ i. refl, λ k r. refl)

end_same : (b : Bool) (at : EndAt) (x : EndState) → b ≡ false → EndIs at x → EndIs (if b then behind at else at) x
end_same true at x e h = absurd (true≢false e)
end_same false at x e h = h

pub none_departs_is : (s : Setting) (w : WorldAt) (n p : ℕ) (stamp : ℤ) (old new : Plant) → Changed Same Same SameFrames old.time old new → place_of s n p ≡ None →
    PlantIs s w old → PlantIs s (moved s w (Depart n p stamp)) new
none_departs_is s w n p stamp old new c e h =
    let o : NoneOf (place_of s n p) w stamp = subst (λ q. NoneOf q w stamp) (sym e) (none_of w stamp) in
    plant_is s w (moved s w (Depart n p stamp)) _ _ _ _ old new c h h.time refl
    (each_same (λ m clock. clock ≡ w.clock m) (λ m clock. clock ≡ (moved s w (Depart n p stamp)).clock m) old.clocks.items new.clocks.items c.of_clocks (λ m x q. q) h.clocks)
    (each_same (SpanIs w) (SpanIs (moved s w (Depart n p stamp))) old.spans.items new.spans.items c.of_spans
    (λ k x q. record {
      fibre = q.fibre;
      master = end_same (is_place (place_of s n p) k Master) (w.end_at k Master) x.master (o.2 k Master) q.master;
      slave = end_same (is_place (place_of s n p) k Slave) (w.end_at k Slave) x.slave (o.2 k Slave) q.slave;
    }) h.spans)
    (frames_same s w (moved s w (Depart n p stamp)) old.frames new.frames c.of_frames refl o.0 o.1 h.frames)

-- The frame that departs

departed_is : (w : WorldAt) (place : Place) (stamp due : ℤ) (ws : List Sending) (xs : List PutOut) → due ≡ w.time +ℤ delay_from w place.link place.role → AllZip PutOutIs ws xs →
    MaybeIs DepartedIs (leaving w place stamp ws) (departed_of place due xs)
departed_is w place stamp due [] [] e h = tt
departed_is w place stamp due [] (x ∷ xs) e h = absurd h
departed_is w place stamp due (m ∷ ws) [] e h = absurd h
departed_is w place stamp due (m ∷ ws) (x ∷ xs) e h = record {
  link = refl;
  by = refl;
  octets = h.0.octets;
  says = h.0.says;
  sent = h.0.at;
  due = e;
  arrival = tt;
  gone = refl;
}

pub leaving_is : (w : WorldAt) (place : Place) (stamp due : ℤ) (span : Span) (q : Option Departed) → SpanIs w place.link span → due ≡ w.time +ℤ delay_from w place.link place.role →
    q ≡ departed_of place due (end_in span place.role).waiting.items → MaybeIs DepartedIs (leaving w place stamp (w.end_at place.link place.role).waiting) q
leaving_is w place stamp due span q h e f =
    let end : EndIs (w.end_at place.link place.role) (end_in span place.role) = end_told w place.link span place.role h in
    subst (MaybeIs DepartedIs (leaving w place stamp (w.end_at place.link place.role).waiting)) (sym f)
    (departed_is w place stamp due (w.end_at place.link place.role).waiting (end_in span place.role).waiting.items e end.waiting)

pub delay_told : (w : WorldAt) (k : ℕ) (span : Span) (role : Role) → SpanIs w k span → delay_in span role ≡ delay_from w k role
delay_told w k span Master h = down_told w k span h
delay_told w k span Slave h =
    ap₂ (λ x y. x +ℤ pos y) (ap₂ (λ x f. pos x +ℤ f) h.slave.tx (ap (λ (f : FibreState). f.sm) h.fibre)) h.master.rx

departed_fits : (links e : ℕ) (place : Place) (due : ℤ) (xs : List PutOut) → place.link < links → IsDueBy (e + 1) due → Each (λ i out. IsTimeBy e out.at) xs →
    IfSome (departed_of place due xs) (FitsDeparted links (e + 1))
departed_fits links e place due [] l d h = tt
departed_fits links e place due (x ∷ xs) l d h = record { link = l; sent = time_more e x.at (h zero x refl); due = d; raw = tt }

departed_on : (place : Place) (due : ℤ) (xs : List PutOut) → IfSome (departed_of place due xs) (λ d. is_on d ≡ true)
departed_on place due [] = tt
departed_on place due (x ∷ xs) = refl

-- a frame that departs is on a fibre
pub leaving_on : (place : Place) (due : ℤ) (xs : List PutOut) (q : Option Departed) → q ≡ departed_of place due xs → IfSome q (λ d. is_on d ≡ true)
leaving_on place due xs q f = subst (λ r. IfSome r (λ d. is_on d ≡ true)) (sym f) (departed_on place due xs)

pub leaving_fits : (links e : ℕ) (place : Place) (due : ℤ) (span : Span) (q : Option Departed) → place.link < links → IsDueBy (e + 1) due → FitsSpan e span →
    q ≡ departed_of place due (end_in span place.role).waiting.items → IfSome q (FitsDeparted links (e + 1))
leaving_fits links e place due span q l d h f =
    let end : FitsEnd e (end_in span place.role) = fits_end e span place.role h in
    subst (λ r. IfSome r (FitsDeparted links (e + 1))) (sym f) (departed_fits links e place due (end_in span place.role).waiting.items l d end.waiting)

pub due_fits : (e : ℕ) (t d : ℤ) → IsTimeBy e t → unsigned_abs d ≤ 2 ^ 63 * (e + 1) + 2 ^ 65 → IsDueBy (e + 1) (t +ℤ d)
due_fits e t d a h = let s : unsigned_abs (t +ℤ d) ≤ unsigned_abs t + unsigned_abs d = omega (arith, ints) in omega (arith, s, a, h)

-- Sizes and memory

behind_fits : (e : ℕ) (xs : List PutOut) → Each (λ i out. IsTimeBy e out.at) xs → Each (λ i out. IsTimeBy (e + 1) out.at) (drop 1 xs)
behind_fits e [] h i out g = time_more e out.at (h i out g)
behind_fits e (x ∷ xs) h i out g = time_more e out.at (h (suc i) out g)

end_fits : (e : ℕ) (x y : EndState) → LosesOldest x y → FitsEnd e x → FitsEnd (e + 1) y
end_fits e x y r h = record { waiting = subst (λ (l : List PutOut). Each (λ i out. IsTimeBy (e + 1) out.at) l) (sym r.waiting) (behind_fits e x.waiting.items h.waiting) }

span_fits : (e : ℕ) (role : Role) (x y : Span) → TakesOldest role x y → FitsSpan e x → FitsSpan (e + 1) y
span_fits e role x y r h = record {
  ms = subst (λ (f : FibreState). IsDelayBy (e + 1) f.ms) (sym r.fibre) (delay_more e x.fibre.ms h.ms);
  sm = subst (λ (f : FibreState). IsDelayBy (e + 1) f.sm) (sym r.fibre) (delay_more e x.fibre.sm h.sm);
  master = where_fits (is_role role Master) LosesOldest (FitsEnd e) (FitsEnd (e + 1)) x.master y.master r.master (end_fits e x.master y.master) (end_more e x.master) h.master;
  slave = where_fits (is_role role Slave) LosesOldest (FitsEnd e) (FitsEnd (e + 1)) x.slave y.slave r.slave (end_fits e x.slave y.slave) (end_more e x.slave) h.slave;
}

sent_fits : (e : ℕ) (xs : List ℤ) (t : ℤ) → IsTimeBy (e + 1) t → ((i : ℕ) (x : ℤ) → sent_at i xs ≡ Some x → IsTimeBy e x) →
    (i : ℕ) (x : ℤ) → sent_at i (xs ++ (t ∷ [])) ≡ Some x → IsTimeBy (e + 1) x
sent_fits e xs t a h i x g = by_test (i == (length xs + 1)) (sym (sent_more xs t i (i == (length xs + 1)) refl) ∙ g) where
  by_test : (b : Bool) → (if b then Some t else sent_at i xs) ≡ Some x → IsTimeBy (e + 1) x
  by_test true f = subst (IsTimeBy (e + 1)) (same_Some t x f) a
  by_test false f = time_more e x (h i x f)

one_fits : (links e : ℕ) (d : Departed) (old new : FramesAt) → Puts d old new → FitsDeparted links (e + 1) d → FitsFrames links e old → FitsFrames links (e + 1) new
one_fits links e d old new p k f = record {
  horizon = subst (IsHorizonBy (e + 1)) (sym p.horizon) (frames_more links e old f).horizon;
  count = let same : length new.sent ≡ length old.sent + 1 = ap length p.sent ∙ length_push old.sent d.sent in omega (arith, same, f.count);
  sent = λ i x g. sent_fits e old.sent d.sent k.sent f.sent i x (sym (ap (sent_at i) p.sent) ∙ g);
  each = λ i x g. kept_at i x (i == (length old.sent + 1)) (sym (p.kept i) ∙ g);
} where
  kept_at : (i : ℕ) (x : Departed) (b : Bool) → (if b then Some d else at i old.kept) ≡ Some x → FitsDeparted links (e + 1) x
  kept_at i x true g = subst (FitsDeparted links (e + 1)) (same_Some d x g) k
  kept_at i x false g = frame_more links e x (f.each i x g)

departs_fit : (links e : ℕ) (d : Option Departed) (old new : FramesAt) → Departs d old new → IfSome d (FitsDeparted links (e + 1)) → FitsFrames links e old → FitsFrames links (e + 1) new
departs_fit links e None old new p k f = subst (FitsFrames links (e + 1)) (sym p) (frames_more links e old f)
departs_fit links e (Some d) old new p k f = one_fits links e d old new p k f

end_room : (k : ℕ) (x y : EndState) → LosesOldest x y → HasEndRoom k x → HasEndRoom k y
end_room k x y r h = record {
  waiting = omega (arith, h.waiting, r.len, r.room);
  marks = subst (λ m. vec_len m + k ≤ vec_capacity m) (sym r.marks) h.marks;
}

span_room : (k : ℕ) (role : Role) (x y : Span) → TakesOldest role x y → HasSpanRoom k x → HasSpanRoom k y
span_room k role x y r h = record {
  master = where_fits (is_role role Master) LosesOldest (HasEndRoom k) (HasEndRoom k) x.master y.master r.master (end_room k x.master y.master) (λ q. q) h.master;
  slave = where_fits (is_role role Slave) LosesOldest (HasEndRoom k) (HasEndRoom k) x.slave y.slave r.slave (end_room k x.slave y.slave) (λ q. q) h.slave;
}

pub depart_room : (place : Place) (d : Option Departed) (old new : Plant) → Changed Same (EachBecame (At place.link (TakesOldest place.role))) (Departs d) old.time old new →
    (k : ℕ) → HasRoom k old → HasRoom k new
depart_room place d old new c k h =
    each_turned (At place.link (TakesOldest place.role)) (λ i. HasSpanRoom k) (λ i. HasSpanRoom k) old.spans.items new.spans.items c.of_spans
    (λ i x y r p. where_fits (i == place.link) (TakesOldest place.role) (HasSpanRoom k) (HasSpanRoom k) x y r (span_room k place.role x y) (λ q. q) p) h

pub depart_fits : (place : Place) (d : Option Departed) (old new : Plant) → Changed Same (EachBecame (At place.link (TakesOldest place.role))) (Departs d) old.time old new →
    IfSome d (FitsDeparted (length old.net.cfg.links.items) (old.events + 1)) → old.events + 1 < 2 ^ 32 → FitsPlant old → FitsPlant new
depart_fits place d old new c k few f =
    plant_fits _ _ _ _ old new c f few (time_more old.events old.time f.time) (ap length c.of_clocks) c.of_spans.0
    (same_clocks old.events old.clocks.items new.clocks.items c.of_clocks f.clocks)
    (each_turned (At place.link (TakesOldest place.role)) (λ n. FitsSpan old.events) (λ n. FitsSpan (old.events + 1)) old.spans.items new.spans.items c.of_spans
    (λ m x y r h. where_fits (m == place.link) (TakesOldest place.role) (FitsSpan old.events) (FitsSpan (old.events + 1)) x y r (span_fits old.events place.role x y) (span_more old.events x) h) f.spans)
    (departs_fit (length old.net.cfg.links.items) old.events d old.frames new.frames c.of_frames k f.frames)
    (depart_room place d old new c old.spare f.room) (depart_puts old.last_put place _ _ _ old new c f.puts) (never_later old.time)

-- What follows if a call returns Ok

pub on_ok : {A E P Q : Type 0} (r : Result A E) → OnOk r P → (P → Q) → OnOk r Q
on_ok (Ok x) h f = f h
on_ok (Err e) h f = tt

pub due_size : (e : ℕ) (t : ℤ) → e < 2 ^ 32 → IsDueBy (e + 1) t → unsigned_abs t ≤ 2 ^ 126
due_size e t h k = omega arith
