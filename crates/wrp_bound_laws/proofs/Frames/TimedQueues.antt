-- Stamped messages of an end of a link wait, and depart, in the order in which they were put out: each departs once.
use Rattle.std.proofs.Common.{◌≡◌, ◌⊎◌, inl, inr, ◌∙◌, refl, ap, sym, subst, ℕ, ◌+◌, ◌<◌, ◌≤◌, ◌==◌, ◌&&◌, ◌||◌, nat_lt, ℤ, Bool, true, false, if◌then◌else◌, List, [], ◌∷◌, ◌++◌, map, Option, None, Some, option_map, Result, arith}
use Rattle.std.proofs.lemmas.Bool.{eqb-true}
use Rattle.std.specs.List.{AllByRecursion}
use Rattle.std.proofs.lemmas.Option.{same_Some}
use Rattle.wrp_base.specs.declared.link.Role.{Role}
use Rattle.wrp_base.specs.declared.link.Role.TheVariants.{Master, Slave}
use Rattle.wrp_base.specs.declared.message.PtpMsg.{PtpMsg}
use Rattle.wrp_network.specs.declared.network.LinkCfg.{LinkCfg}
use Rattle.wrp_base.specs.declared.time.Raw.{Raw}
use Rattle.wrp_base.proofs.Naturals.{eq_self}
use Rattle.wrp_frame.specs.declared.fault.FrameFault.{FrameFault}
use Rattle.wrp_node.specs.declared.interface.Input.TheVariants.{Tick as TickInput}
use Rattle.wrp_node.specs.SetLaws.{EndsAreSet}
use Rattle.wrp_port.specs.Outputs.{where_due}
use Rattle.wrp_course.specs.declared.event.Event.{Event}
use Rattle.wrp_course.specs.declared.event.Event.TheVariants.{Tick, Depart, Arrive, Down, Up, Cut}
use Rattle.wrp_course.specs.declared.event.Swap.{Swap}
use Rattle.wrp_course.specs.declared.place.Place.{Place}
use Rattle.wrp_course.proofs.RunFrames.{with_swap_waiting}
use Rattle.wrp_course.specs.Given.{Given, given_by, given_plain, gives, gives_all, sending, step_of, taken_of, world_step}
use Rattle.wrp_course.specs.Moved.{arrived, behind_first, departing, frame_after, is_place, loses, moved, port_number, removed, samples_at, swap_at, waiting_at, with_swap}
use Rattle.wrp_course.specs.Run.{Happened, world_after}
use Rattle.wrp_course.specs.RunLaws.{HasTimes}
use Rattle.wrp_course.specs.Runs.{IsRun, WasPutOut}
use Rattle.wrp_course.specs.Setting.{Setting, end_at, end_of, node_setting_of, is_of, is_role, link_of, place_of}
use Rattle.wrp_course.specs.WorldAt.{EndAt, FrameAt, Sending, WorldAt, is_on_fibre}
use Rattle.wrp_course.proofs.RunFlights.{frames_have_times, times_keep}
use Rattle.wrp_bound_laws.specs.SequenceIds.{IsTimed}
use Rattle.wrp_bound_laws.proofs.Schedules.IdsSent.{NoneSent, Where}
use Rattle.wrp_bound_laws.proofs.Frames.InOrder.{Numbered, all_numbered}
use Rattle.wrp_bound_laws.proofs.Nodes.Inputs.{IsNoTick, IsNoTickOf, To, gives_to, no_tick_to, tick_or_not}
use Rattle.wrp_course.proofs.RunSent.{told_there}
use Rattle.wrp_bound_laws.proofs.Runs.Suffixes.{run_before}
use Rattle.wrp_bound_laws.proofs.Frames.TimedTicks.{SendsOne, is_due_then, no_tick_where, sends_then, timed_then}

-- In their order

-- of two that are stamped the first was put out before the second
abbrev Before : Role → Sending → Sending → Type 0
Before r x y = IsTimed r x.message.body → IsTimed r y.message.body → x.moment < y.moment

abbrev Ahead : Role → Sending → List Sending → Type 0
Ahead r x ys = AllByRecursion (Before r x) ys

abbrev Rising : Role → List Sending → Type 0
Rising r [] = Unit {0}
Rising r (x ∷ xs) = Ahead r x xs × Rising r xs

-- of this end
abbrev FrameAhead : Role → ℕ → List Sending → Option FrameAt → Type 0
FrameAhead r k ys None = Unit {0}
FrameAhead r k ys (Some f) = f.link ≡ k → f.by ≡ r → Ahead r f.sending ys

abbrev Apart : Role → ℕ → Option FrameAt → Option FrameAt → Type 0
Apart r k None p = Unit {0}
Apart r k (Some f) None = Unit {0}
Apart r k (Some f) (Some g) = f.link ≡ k → f.by ≡ r → g.link ≡ k → g.by ≡ r → Before r f.sending g.sending

-- what waits and what departed is in that order
record InLine (r : Role) (k : ℕ) (waiting : List Sending) (frame : ℕ → Option FrameAt) : Type 0 where
  rising : Rising r waiting
  ahead : (i : ℕ) → FrameAhead r k waiting (frame i)
  apart : (i j : ℕ) → i < j → Apart r k (frame i) (frame j)

abbrev InLineAt : Role → WorldAt → ℕ → Type 0
InLineAt r w k = InLine r k (w.end_at k r).waiting w.frame

-- Lists

behind_ahead : (r : Role) (x : Sending) (ys : List Sending) → Ahead r x ys → Ahead r x (behind_first ys)
behind_ahead r x [] h = h
behind_ahead r x (y ∷ ys) h = h.1

behind_rising : (r : Role) (ys : List Sending) → Rising r ys → Rising r (behind_first ys)
behind_rising r [] h = h
behind_rising r (y ∷ ys) h = h.1

behind_frame : (r : Role) (k : ℕ) (ys : List Sending) (o : Option FrameAt) → FrameAhead r k ys o → FrameAhead r k (behind_first ys) o
behind_frame r k ys None h = h
behind_frame r k ys (Some f) h = λ l b. behind_ahead r f.sending ys (h l b)

none_frame : (r : Role) (k : ℕ) (o : Option FrameAt) → FrameAhead r k [] o
none_frame r k None = tt
none_frame r k (Some f) = λ l b. tt

both_ahead : (r : Role) (x : Sending) (ys zs : List Sending) → Ahead r x ys → Ahead r x zs → Ahead r x (ys ++ zs)
both_ahead r x [] zs h k = k
both_ahead r x (y ∷ ys) zs h k = (h.0, both_ahead r x ys zs h.1 k)

both_rising : (r : Role) (xs ys : List Sending) → Rising r xs → AllByRecursion (λ x. Ahead r x ys) xs → Rising r ys → Rising r (xs ++ ys)
both_rising r [] ys h a k = k
both_rising r (x ∷ xs) ys h a k = (both_ahead r x xs ys h.0 a.0, both_rising r xs ys h.1 a.1 k)

both_frame : (r : Role) (k : ℕ) (xs ys : List Sending) (o : Option FrameAt) → FrameAhead r k xs o → FrameAhead r k ys o → FrameAhead r k (xs ++ ys) o
both_frame r k xs ys None h a = tt
both_frame r k xs ys (Some f) h a = λ l b. both_ahead r f.sending xs ys (h l b) (a l b)

-- New messages

-- none of them is stamped
none_ahead : (r : Role) (v : WorldAt) (x : Sending) (ms : List PtpMsg) → Where NoneSent r ms → Ahead r x (map (sending v) ms)
none_ahead r v x [] none = tt
none_ahead r v x (m ∷ ms) none = (λ a b. absurd (none.0 b), none_ahead r v x ms none.1)

not_ahead : (r : Role) (x : Sending) (ys : List Sending) → (IsTimed r x.message.body → ⊥) → Ahead r x ys
not_ahead r x [] h = tt
not_ahead r x (y ∷ ys) h = (λ a b. absurd (h a), not_ahead r x ys h)

none_rising : (r : Role) (v : WorldAt) (ms : List PtpMsg) → Where NoneSent r ms → Rising r (map (sending v) ms)
none_rising r v [] none = tt
none_rising r v (m ∷ ms) none = (not_ahead r (sending v m) (map (sending v) ms) none.0, none_rising r v ms none.1)

-- they are later
later_ahead : (r : Role) (v : WorldAt) (x : Sending) (ms : List PtpMsg) → x.moment < v.count → Ahead r x (map (sending v) ms)
later_ahead r v x [] less = tt
later_ahead r v x (m ∷ ms) less = (λ a b. less, later_ahead r v x ms less)

due_rising : (r : Role) (v : WorldAt) (before : List PtpMsg) (due : Bool) (m : PtpMsg) → Where NoneSent r before → Rising r (map (sending v) (before ++ where_due due m))
due_rising r v [] true m none = (tt, tt)
due_rising r v [] false m none = tt
due_rising r v (x ∷ before) due m none = (not_ahead r (sending v x) (map (sending v) (before ++ where_due due m)) none.0, due_rising r v before due m none.1)

-- what is new comes after what waited and what departed
record Fits (r : Role) (k : ℕ) (waiting new : List Sending) (frame : ℕ → Option FrameAt) : Type 0 where
  waits : AllByRecursion (λ x. Ahead r x new) waiting
  frames : (i : ℕ) → FrameAhead r k new (frame i)
  rising : Rising r new

more_in_line : (r : Role) (k : ℕ) (waiting new : List Sending) (frame : ℕ → Option FrameAt) → InLine r k waiting frame → Fits r k waiting new frame → InLine r k (waiting ++ new) frame
more_in_line r k waiting new frame h fits = record {
  rising = both_rising r waiting new h.rising fits.waits fits.rising;
  ahead = λ i. both_frame r k waiting new (frame i) (h.ahead i) (fits.frames i);
  apart = h.apart;
}

all_waits : (r : Role) (waiting new : List Sending) → ((x : Sending) → Ahead r x new) → AllByRecursion (λ x. Ahead r x new) waiting
all_waits r [] new f = tt
all_waits r (x ∷ xs) new f = (f x, all_waits r xs new f)

any_frame : (r : Role) (k : ℕ) (new : List Sending) (o : Option FrameAt) → ((x : Sending) → Ahead r x new) → FrameAhead r k new o
any_frame r k new None f = tt
any_frame r k new (Some g) f = λ l b. f g.sending

-- An input that is no tick

given_line : (r : Role) (s : Setting) (y : ℤ) (v : WorldAt) (g : Given) (k : ℕ) (link : LinkCfg) → link_of s k ≡ Some link → ((end_of r link).node ≡ g.to → IsNoTick g.input) → InLineAt r v k → InLineAt r (gives s y v g) k
given_line r s y v g k link is none h =
    told_there (λ e. InLine r k e.waiting v.frame) s y v g k r link is h
    (λ here.
    let ms : List PtpMsg = (step_of s y v g).sends (end_of r link).port in
    let quiet : Where NoneSent r ms = no_tick_where (node_setting_of s g.to) (taken_of y g) (v.node g.to) r (end_of r link).port (none here) in
    more_in_line r k (v.end_at k r).waiting (map (sending v) ms) v.frame h (record {
      waits = all_waits r (v.end_at k r).waiting (map (sending v) ms) (λ x. none_ahead r v x ms quiet);
      frames = λ i. any_frame r k (map (sending v) ms) (v.frame i) (λ x. none_ahead r v x ms quiet);
      rising = none_rising r v ms quiet;
    }))

all_given_line : (r : Role) (s : Setting) (y : ℤ) (gs : List Given) (v : WorldAt) (k : ℕ) (link : LinkCfg) → link_of s k ≡ Some link → To IsNoTick (end_of r link).node gs → InLineAt r v k → InLineAt r (gives_all s y v gs) k
all_given_line r s y [] v k link is none h = h
all_given_line r s y (g ∷ gs) v k link is none h = all_given_line r s y gs (gives s y v g) k link is none.1 (given_line r s y v g k link is none.0 h)

-- A tick of the node

less_next : (a b : ℕ) → a ≤ b → a < b + 1
less_next a b h = omega (arith, h)

known_waits : (r : Role) (v : WorldAt) (ms : List PtpMsg) (waiting : List Sending) → ((x : Sending) → WasPutOut x waiting → x.moment < v.count) → AllByRecursion (λ x. Ahead r x (map (sending v) ms)) waiting
known_waits r v ms [] f = tt
known_waits r v ms (x ∷ xs) f = (later_ahead r v x ms (f x (inl refl)), known_waits r v ms xs (λ z put. f z (inr put)))

known_frame : (r : Role) (v : WorldAt) (k : ℕ) (ms : List PtpMsg) (o : Option FrameAt) → ((f : FrameAt) → o ≡ Some f → f.sending.moment < v.count) → FrameAhead r k (map (sending v) ms) o
known_frame r v k ms None f = tt
known_frame r v k ms (Some g) f = λ l b. later_ahead r v g.sending ms (f g refl)

sent_early : (w : WorldAt) (f : FrameAt) → HasTimes w f → f.sending.moment < w.count + 1
sent_early w f h = let a : f.sending.moment ≤ f.moment = h.sent_before in let b : f.moment ≤ w.count = h.departed_before in omega (arith, a, b)

removed_ahead : (r : Role) (s : Setting) (e : Event) (k : ℕ) (ys : List Sending) (o : Option FrameAt) → FrameAhead r k ys o → FrameAhead r k ys (option_map (removed s e) o)
removed_ahead r s e k ys None h = h
removed_ahead r s e k ys (Some f) h = h

tick_line : (r : Role) → EndsAreSet → (s : Setting) (says : Result PtpMsg FrameFault) (y : ℤ) (before : List Happened) (k : ℕ) (link : LinkCfg) → IsRun s before → link_of s k ≡ Some link → InLineAt r (moved s (world_after s before) (Tick (end_of r link).node)) k →
    InLineAt r (world_step s says y (world_after s before) (Tick (end_of r link).node)) k
tick_line r ends s says y before k link run is h =
    let w : WorldAt = world_after s before in
    let v : WorldAt = moved s w (Tick (end_of r link).node) in
    let g : Given = given_plain (end_of r link).node TickInput in
    let ms : List PtpMsg = (step_of s y v g).sends (end_of r link).port in
    let one : SendsOne r ms (is_due_then s w r link) (timed_then s w r link) = sends_then ends s run.network w y k r link is in
    told_there (λ e. InLine r k e.waiting v.frame) s y v g k r link is h
    (λ here.
    more_in_line r k (v.end_at k r).waiting (map (sending v) ms) v.frame h (record {
      waits =
          known_waits r v ms (v.end_at k r).waiting
          (λ x put. less_next x.moment w.count ((times_keep s before run.each run.accepted).sent k r x ((times_keep s before run.each run.accepted).known.waits k r x put)).1);
      frames = λ i. removed_ahead r s (Tick (end_of r link).node) k (map (sending v) ms) (w.frame i) (known_frame r v k ms (w.frame i) (λ f there. sent_early w f (frames_have_times s before i f run there)));
      rising = subst (λ l. Rising r (map (sending v) l)) (sym one.is) (due_rising r v one.before (is_due_then s w r link) (timed_then s w r link) one.none);
    }))

-- What an event changes by itself

removed_apart : (r : Role) (s : Setting) (e : Event) (k : ℕ) (o p : Option FrameAt) → Apart r k o p → Apart r k (option_map (removed s e) o) (option_map (removed s e) p)
removed_apart r s e k None p h = tt
removed_apart r s e k (Some f) None h = tt
removed_apart r s e k (Some f) (Some g) h = h

removed_line : (r : Role) (s : Setting) (e : Event) (k : ℕ) (waiting : List Sending) (frame : ℕ → Option FrameAt) → InLine r k waiting frame → InLine r k waiting (λ i. option_map (removed s e) (frame i))
removed_line r s e k waiting frame h = record {
  rising = h.rising;
  ahead = λ i. removed_ahead r s e k waiting (frame i) (h.ahead i);
  apart = λ i j less. removed_apart r s e k (frame i) (frame j) (h.apart i j less);
}

lost_line : (r : Role) (k : ℕ) (b : Bool) (e : EndAt) (frame : ℕ → Option FrameAt) → InLine r k e.waiting frame → InLine r k (if b then record e { waiting = [] } else e).waiting frame
lost_line r k true e frame h = record { rising = tt; ahead = λ i. none_frame r k (frame i); apart = h.apart }
lost_line r k false e frame h = h

swapped_line : (r : Role) (k : ℕ) (b : Bool) (o : Option Swap) (e : EndAt) (frame : ℕ → Option FrameAt) → InLine r k e.waiting frame → InLine r k (if b then with_swap o e else e).waiting frame
swapped_line r k true o e frame h = subst (λ l. InLine r k l frame) (sym (with_swap_waiting o e)) h
swapped_line r k false o e frame h = h

-- an arrival
arrived_where : (r : Role) (k : ℕ) (ys : List Sending) (b : Bool) (f g : FrameAt) → FrameAhead r k ys (Some f) → FrameAhead r k ys (Some g) → FrameAhead r k ys (Some (if b then f else g))
arrived_where r k ys true f g h i = h
arrived_where r k ys false f g h i = i

arrived_ahead : (r : Role) (s : Setting) (w : WorldAt) (m : ℕ) (raw : Raw) (k : ℕ) (ys : List Sending) (i : ℕ) (q o : Option FrameAt) → FrameAhead r k ys o → FrameAhead r k ys (arrived s w m raw q i o)
arrived_ahead r s w m raw k ys i None o h = h
arrived_ahead r s w m raw k ys i (Some x) None h = h
arrived_ahead r s w m raw k ys i (Some x) (Some f) h =
    arrived_where r k ys (i == m) (record f { arrival = Some (record { raw = raw; sample = samples_at s w x; at = w.time; moment = w.count }) })
    (record f { gone = f.gone || (is_on_fibre (Some f) && (nat_lt i m && ((f.link == x.link) && is_role f.by x.by))) }) h h

first_where : (r : Role) (k : ℕ) (b : Bool) (f g : FrameAt) (p : Option FrameAt) → Apart r k (Some f) p → Apart r k (Some g) p → Apart r k (Some (if b then f else g)) p
first_where r k true f g p h i = h
first_where r k false f g p h i = i

second_where : (r : Role) (k : ℕ) (b : Bool) (o : Option FrameAt) (f g : FrameAt) → Apart r k o (Some f) → Apart r k o (Some g) → Apart r k o (Some (if b then f else g))
second_where r k true o f g h i = h
second_where r k false o f g h i = i

arrived_first : (r : Role) (s : Setting) (w : WorldAt) (m : ℕ) (raw : Raw) (k i : ℕ) (q o p : Option FrameAt) → Apart r k o p → Apart r k (arrived s w m raw q i o) p
arrived_first r s w m raw k i None o p h = h
arrived_first r s w m raw k i (Some x) None p h = h
arrived_first r s w m raw k i (Some x) (Some f) None h = tt
arrived_first r s w m raw k i (Some x) (Some f) (Some g) h = first_where r k (i == m) _ _ (Some g) h h

arrived_second : (r : Role) (s : Setting) (w : WorldAt) (m : ℕ) (raw : Raw) (k j : ℕ) (q o p : Option FrameAt) → Apart r k o p → Apart r k o (arrived s w m raw q j p)
arrived_second r s w m raw k j None o p h = h
arrived_second r s w m raw k j (Some x) o None h = h
arrived_second r s w m raw k j (Some x) None (Some g) h = tt
arrived_second r s w m raw k j (Some x) (Some f) (Some g) h = second_where r k (j == m) (Some f) _ _ h h

arrived_line : (r : Role) (s : Setting) (w : WorldAt) (m : ℕ) (raw : Raw) (k : ℕ) (waiting : List Sending) → InLine r k waiting w.frame → InLine r k waiting (λ i. arrived s w m raw (w.frame m) i (w.frame i))
arrived_line r s w m raw k waiting h = record {
  rising = h.rising;
  ahead = λ i. arrived_ahead r s w m raw k waiting i (w.frame m) (w.frame i) (h.ahead i);
  apart = λ i j less.
      arrived_first r s w m raw k i (w.frame m) (w.frame i) (arrived s w m raw (w.frame m) j (w.frame j))
      (arrived_second r s w m raw k j (w.frame m) (w.frame i) (w.frame j) (h.apart i j less));
}

-- a departure
left_line : (r : Role) (k : ℕ) (b : Bool) (e : EndAt) (frame : ℕ → Option FrameAt) → InLine r k e.waiting frame → InLine r k (if b then record e { waiting = behind_first e.waiting } else e).waiting frame
left_line r k true e frame h = record { rising = behind_rising r e.waiting h.rising; ahead = λ i. behind_frame r k e.waiting (frame i) (h.ahead i); apart = h.apart }
left_line r k false e frame h = h

ahead_if : (r : Role) (k : ℕ) (ys : List Sending) (b : Bool) (new : FrameAt) (o : Option FrameAt) → FrameAhead r k ys (Some new) → FrameAhead r k ys o → FrameAhead r k ys (if b then Some new else o)
ahead_if r k ys true new o h i = h
ahead_if r k ys false new o h i = i

none_apart : (r : Role) (k : ℕ) (o : Option FrameAt) → Apart r k o None
none_apart r k None = tt
none_apart r k (Some f) = tt

beyond : (departed count j : ℕ) (o : Option FrameAt) → departed < j → Numbered departed count j o → o ≡ None
beyond departed count j None less h = refl
beyond departed count j (Some f) less h = absurd (let le : j ≤ departed = h.0 in omega (arith, less, le))

apart_if : (r : Role) (k d i j : ℕ) (a b : Bool) (new : FrameAt) (o p : Option FrameAt) → (a ≡ true → i ≡ d) → (b ≡ true → j ≡ d) → i < j → (d < j → p ≡ None) → Apart r k o (Some new) → Apart r k o p → Apart r k (if a then Some new else o) (if b then Some new else p)
apart_if r k d i j true true new o p e f less past new_behind old = absurd (let i_is : i ≡ d = e refl in let j_is : j ≡ d = f refl in omega (arith, less, i_is, j_is))
apart_if r k d i j true false new o p e f less past new_behind old = subst (Apart r k (Some new)) (sym (past (let i_is : i ≡ d = e refl in omega (arith, less, i_is)))) (none_apart r k (Some new))
apart_if r k d i j false true new o p e f less past new_behind old = new_behind
apart_if r k d i j false false new o p e f less past new_behind old = old

new_apart : (r : Role) (k : ℕ) (z : Place) (new : FrameAt) (ys : List Sending) (o : Option FrameAt) → ((new.link ≡ k) → (new.by ≡ r) → (rest : List Sending) × (ys ≡ new.sending ∷ rest)) → FrameAhead r k ys o → Apart r k o (Some new)
new_apart r k z new ys None first h = tt
new_apart r k z new ys (Some f) first h = λ l b l2 b2. let it : (rest : List Sending) × (ys ≡ new.sending ∷ rest) = first l2 b2 in (subst (Ahead r f.sending) it.1 (h l b)).0

own_role : (r : Role) → is_role r r ≡ true
own_role Master = refl
own_role Slave = refl

place_is : (r : Role) (z : Place) (k : ℕ) → z.link ≡ k → z.role ≡ r → is_place (Some z) k r ≡ true
place_is r z k l c = ap (λ i. (i == k) && is_role z.role r) l ∙ ap (λ q. (k == k) && is_role q r) c ∙ ap (λ b. b && is_role r r) (eq_self k) ∙ own_role r

first_ahead : (r : Role) (x : Sending) (ys rest : List Sending) → ys ≡ x ∷ rest → Rising r ys → Ahead r x (behind_first ys)
first_ahead r x ys rest e h = subst (λ l. Ahead r x (behind_first l)) (sym e) (subst (Rising r) e h).0

waiting_where : (r : Role) (k : ℕ) (b : Bool) (x : Sending) (e : EndAt) → b ≡ true → Ahead r x (behind_first e.waiting) → Ahead r x (if b then record e { waiting = behind_first e.waiting } else e).waiting
waiting_where r k true x e is h = h
waiting_where r k false x e is h = absurd cc

queue_there : (r : Role) (w : WorldAt) (z : Place) (k : ℕ) (queue : List Sending) → (w.end_at z.link z.role).waiting ≡ queue → z.link ≡ k → z.role ≡ r → (w.end_at k r).waiting ≡ queue
queue_there r w z k queue e l c = ap (λ q. (w.end_at k q).waiting) (sym c) ∙ ap (λ i. (w.end_at i z.role).waiting) (sym l) ∙ e

depart_some : (r : Role) (s : Setting) (w : WorldAt) (stamp : ℤ) (k : ℕ) (z : Place) (queue : List Sending) → ((i : ℕ) → Numbered w.departed w.count i (w.frame i)) → (w.end_at z.link z.role).waiting ≡ queue → InLineAt r w k →
    InLine r k (if is_place (Some z) k r then record (w.end_at k r) { waiting = behind_first (w.end_at k r).waiting } else w.end_at k r).waiting (departing w (Some z) stamp queue)
depart_some r s w stamp k z [] numbered e h = left_line r k (is_place (Some z) k r) (w.end_at k r) w.frame h
depart_some r s w stamp k z (x ∷ rest) numbered e h =
    let old : InLine r k (if is_place (Some z) k r then record (w.end_at k r) { waiting = behind_first (w.end_at k r).waiting } else w.end_at k r).waiting w.frame = left_line r k (is_place (Some z) k r) (w.end_at k r) w.frame h in
    let d : ℕ = w.departed + 1 in
    record {
      rising = old.rising;
      ahead = λ i.
          ahead_if r k (if is_place (Some z) k r then record (w.end_at k r) { waiting = behind_first (w.end_at k r).waiting } else w.end_at k r).waiting (i == d) _ (w.frame i)
          (λ l c.
          waiting_where r k (is_place (Some z) k r) x (w.end_at k r) (place_is r z k l c)
          (first_ahead r x (w.end_at k r).waiting rest (queue_there r w z k (x ∷ rest) e l c) h.rising)) (old.ahead i);
      apart = λ i j less.
          apart_if r k d i j (i == d) (j == d) _ (w.frame i) (w.frame j) (λ t. eqb-true i d t) (λ t. eqb-true j d t) less
          (λ past. beyond w.departed w.count j (w.frame j) (past_it w.departed j past) (numbered j))
          (new_apart r k z _ (w.end_at k r).waiting (w.frame i) (λ l c. (rest, queue_there r w z k (x ∷ rest) e l c)) (h.ahead i)) (h.apart i j less);
    }
  where
    past_it : (d j : ℕ) → d + 1 < j → d < j
    past_it d j h = omega (arith, h)

depart_line : (r : Role) (s : Setting) (w : WorldAt) (stamp : ℤ) (k : ℕ) (o : Option Place) → ((i : ℕ) → Numbered w.departed w.count i (w.frame i)) → InLineAt r w k →
    InLine r k (if is_place o k r then record (w.end_at k r) { waiting = behind_first (w.end_at k r).waiting } else w.end_at k r).waiting (departing w o stamp (waiting_at w o))
depart_line r s w stamp k None numbered h = h
depart_line r s w stamp k (Some z) numbered h = depart_some r s w stamp k z (w.end_at z.link z.role).waiting numbered refl h

moved_line : (r : Role) (s : Setting) (w : WorldAt) (e : Event) (k : ℕ) → ((i : ℕ) → Numbered w.departed w.count i (w.frame i)) → InLineAt r w k → InLineAt r (moved s w e) k
moved_line r s w (Depart n p stamp) k numbered h = depart_line r s w stamp k (place_of s n p) numbered h
moved_line r s w (Arrive m raw) k numbered h = arrived_line r s w m raw k (w.end_at k r).waiting h
moved_line r s w (Up n off swaps) k numbered h =
    swapped_line r k (is_of n (end_at s k r)) (swap_at (port_number s k r) swaps.items) (w.end_at k r) (frame_after s w (Up n off swaps)) (removed_line r s (Up n off swaps) k (w.end_at k r).waiting w.frame h)
moved_line r s w (Down n) k numbered h = lost_line r k (loses s (Down n) k) (w.end_at k r) (frame_after s w (Down n)) (removed_line r s (Down n) k (w.end_at k r).waiting w.frame h)
moved_line r s w (Cut l) k numbered h = lost_line r k (loses s (Cut l) k) (w.end_at k r) (frame_after s w (Cut l)) (removed_line r s (Cut l) k (w.end_at k r).waiting w.frame h)
moved_line r s w e k numbered h = removed_line r s e k (w.end_at k r).waiting w.frame h

-- Each event

other_line : (r : Role) (s : Setting) (says : Result PtpMsg FrameFault) (y : ℤ) (w : WorldAt) (e : Event) (k : ℕ) (link : LinkCfg) → link_of s k ≡ Some link → IsNoTickOf (end_of r link).node e → InLineAt r (moved s w e) k → InLineAt r (world_step s says y w e) k
other_line r s says y w e k link is none h = all_given_line r s y (given_by s w (moved s w e) says e) (moved s w e) k link is (gives_to IsNoTick s w (moved s w e) says (end_of r link).node e (no_tick_to (end_of r link).node e none)) h

event_line : (r : Role) → EndsAreSet → (s : Setting) (says : Result PtpMsg FrameFault) (y : ℤ) (before : List Happened) (e : Event) (k : ℕ) (link : LinkCfg) → IsRun s before → link_of s k ≡ Some link → InLineAt r (moved s (world_after s before) e) k → InLineAt r (world_step s says y (world_after s before) e) k
event_line r ends s says y before e k link run is h = elim (tick_or_not (end_of r link).node e) [
  | inl tick ↦
      subst (λ t. InLineAt r (world_step s says y (world_after s before) t) k) (sym tick)
      (tick_line r ends s says y before k link run is (subst (λ t. InLineAt r (moved s (world_after s before) t) k) tick h))
  | inr none ↦ other_line r s says y (world_after s before) e k link is none h
]

in_line : (r : Role) → EndsAreSet → (s : Setting) (events : List Happened) (k : ℕ) (link : LinkCfg) → IsRun s events → link_of s k ≡ Some link → InLineAt r (world_after s events) k
in_line r ends s [] k link run is = record { rising = tt; ahead = λ i. tt; apart = λ i j less. tt }
in_line r ends s (h ∷ before) k link run is =
    event_line r ends s h.says h.answer before h.event k link (run_before s h before run) is
    (moved_line r s (world_after s before) h.event k (λ i. all_numbered s before i) (in_line r ends s before k link (run_before s h before run) is))

-- two frames of one of them are one
pub three_ways : (i j : ℕ) → (i < j) ⊎ ((i ≡ j) ⊎ (j < i))
three_ways i j = grind (arith)

not_less : (a b : ℕ) → a < b → a ≡ b → ⊥
not_less a b h e = omega (arith, h, e)

pub departs_once : EndsAreSet → (s : Setting) (events : List Happened) (k : ℕ) (r : Role) (link : LinkCfg) (i j : ℕ) (f g : FrameAt) → IsRun s events → link_of s k ≡ Some link → (world_after s events).frame i ≡ Some f → (world_after s events).frame j ≡ Some g →
    f.link ≡ k → f.by ≡ r → g.link ≡ k → g.by ≡ r → IsTimed r f.sending.message.body → f.sending ≡ g.sending → f ≡ g
departs_once ends s events k r link i j f g run is at_i at_j fl fb gl gb timed same =
    let w : WorldAt = world_after s events in
    let line : InLineAt r w k = in_line r ends s events k link run is in
    let other : IsTimed r g.sending.message.body = subst (λ (x : Sending). IsTimed r x.message.body) same timed in
    elim (three_ways i j) [
      | inl less ↦
          absurd (not_less f.sending.moment g.sending.moment
          (subst (λ o. Apart r k o (Some g)) at_i (subst (λ o. Apart r k (w.frame i) o) at_j (line.apart i j less)) fl fb gl gb timed other) (ap (λ (x : Sending). x.moment) same))
      | inr more ↦ elim more [
        | inl one ↦ same_Some f g (sym at_i ∙ ap w.frame one ∙ at_j)
        | inr greater ↦
            absurd (not_less g.sending.moment f.sending.moment
            (subst (λ o. Apart r k o (Some f)) at_j (subst (λ o. Apart r k (w.frame j) o) at_i (line.apart j i greater)) gl gb fl fb other timed) (ap (λ (x : Sending). x.moment) (sym same)))
      ]
    ]
