-- Frames depart in the order of their numbers, and frames of one way of a link arrive in that order.
use Rattle.std.proofs.Common.{◌≡◌, ◌∙◌, refl, ap, sym, subst, ℕ, ◌+◌, ◌<◌, ◌≤◌, ◌==◌, ◌&&◌, ◌||◌, nat_lt, ℤ, Bool, true, false, if◌then◌else◌, is_some, List, [], ◌∷◌, Option, None, Some, option_map, Result, arith}
use Rattle.std.proofs.lemmas.Bool.{eqb-true, false≢true, or_left}
use Rattle.std.specs.Prelude.{IfSome}
use Rattle.std.proofs.lemmas.Option.{none-some, same_Some}
use Rattle.wrp_base.specs.declared.link.Role.{Role}
use Rattle.wrp_base.specs.declared.link.Role.TheVariants.{Master, Slave}
use Rattle.wrp_base.specs.declared.message.PtpMsg.{PtpMsg}
use Rattle.wrp_base.specs.declared.time.Raw.{Raw}
use Rattle.wrp_base.proofs.Naturals.{eq_self}
use Rattle.wrp_frame.specs.declared.fault.FrameFault.{FrameFault}
use Rattle.wrp_course.specs.declared.event.Event.{Event}
use Rattle.wrp_course.specs.declared.event.Event.TheVariants.{Depart, Arrive}
use Rattle.wrp_course.specs.declared.place.Place.{Place}
use Rattle.wrp_course.specs.Checks.{AllHold}
use Rattle.wrp_course.specs.Given.{Given, given_by, gives, gives_all}
use Rattle.wrp_course.specs.Moved.{arrived, departed_after, departing, frame_after, moved, one_more, removed, samples_at, waiting_at}
use Rattle.wrp_course.specs.Premises.{Accepts, arrive_checks}
use Rattle.wrp_course.specs.Run.{AllAccepted, Happened, world_after}
use Rattle.wrp_course.specs.Setting.{Setting, is_role, place_of}
use Rattle.wrp_course.specs.WorldAt.{Arrival, FrameAt, Sending, WorldAt, is_on_fibre}
use Rattle.wrp_bound_laws.specs.FlightOrder.{FramesArriveInOrder, FramesDepartInOrder}
use Rattle.wrp_bound_laws.proofs.Runs.Suffixes.{all_given_count}

-- What is known of a frame: it was numbered, and departed and arrived before now

abbrev pub Past : ℕ → Option Arrival → Type 0
Past count o = IfSome o (λ a. a.moment < count)

abbrev pub Numbered : (departed count : ℕ) → ℕ → Option FrameAt → Type 0
Numbered departed count i None = Unit {0}
Numbered departed count i (Some f) = (i ≤ departed) × (f.moment < count) × Past count f.arrival

-- and of two frames: the one of the lesser number departed first; and if the other one of the same way arrived, it
-- arrived before, or never does
abbrev ArrivedBefore : Option Arrival → Bool → ℕ → Type 0
ArrivedBefore (Some a) gone moment = a.moment < moment
ArrivedBefore None gone moment = gone ≡ true

abbrev OneWay : FrameAt → FrameAt → Type 0
OneWay f g = f.link ≡ g.link → f.by ≡ g.by → IfSome g.arrival (λ b. ArrivedBefore f.arrival f.gone b.moment)

abbrev InOrder : Option FrameAt → Option FrameAt → Type 0
InOrder None p = Unit {0}
InOrder (Some f) None = Unit {0}
InOrder (Some f) (Some g) = (f.moment < g.moment) × OneWay f g

-- One event more

later_past : (count : ℕ) (o : Option Arrival) → Past count o → Past (count + 1) o
later_past count None h = tt
later_past count (Some a) h = omega arith

numbered_later : (departed more count i : ℕ) (f : FrameAt) (gone : Bool) → departed ≤ more → Numbered departed count i (Some f) → Numbered more (count + 1) i (Some (record f { gone = gone }))
numbered_later departed more count i f gone le h = (omega arith, omega arith, later_past count f.arrival h.2)

numbered_on : (departed more count i : ℕ) (o : Option FrameAt) → departed ≤ more → Numbered departed count i o → Numbered more (count + 1) i o
numbered_on departed more count i None le h = tt
numbered_on departed more count i (Some f) le h = (omega arith, omega arith, later_past count f.arrival h.2)

numbered_removed : (s : Setting) (e : Event) (departed count i : ℕ) (o : Option FrameAt) → Numbered departed count i o → Numbered departed (count + 1) i (option_map (removed s e) o)
numbered_removed s e departed count i None h = tt
numbered_removed s e departed count i (Some f) h = numbered_later departed departed count i f (removed s e f).gone (omega arith) h

-- a departure
numbered_if : (departed count i : ℕ) (b : Bool) (f : FrameAt) (o : Option FrameAt) → (b ≡ true → Numbered departed count i (Some f)) → Numbered departed count i o → Numbered departed count i (if b then Some f else o)
numbered_if departed count i true f o h k = h refl
numbered_if departed count i false f o h k = k

numbered_departing : (w : WorldAt) (place : Option Place) (stamp : ℤ) (queue : List Sending) (i : ℕ) → Numbered w.departed w.count i (w.frame i) → Numbered (one_more queue w.departed) (w.count + 1) i (departing w place stamp queue i)
numbered_departing w None stamp [] i h = numbered_on w.departed w.departed w.count i (w.frame i) (omega arith) h
numbered_departing w None stamp (oldest ∷ rest) i h = numbered_on w.departed (w.departed + 1) w.count i (w.frame i) (omega arith) h
numbered_departing w (Some place) stamp [] i h = numbered_on w.departed w.departed w.count i (w.frame i) (omega arith) h
numbered_departing w (Some place) stamp (oldest ∷ rest) i h =
    numbered_if (w.departed + 1) (w.count + 1) i (i == (w.departed + 1)) _ (w.frame i)
    (λ b. (last i (w.departed + 1) (eqb-true i (w.departed + 1) b), omega arith, tt))
    (numbered_on w.departed (w.departed + 1) w.count i (w.frame i) (omega arith) h)
  where
    last : (a b : ℕ) → a ≡ b → a ≤ b
    last a b e = omega (arith, e)

-- an arrival
numbered_either : (departed count i : ℕ) (b : Bool) (f g : FrameAt) → Numbered departed count i (Some f) → Numbered departed count i (Some g) → Numbered departed count i (Some (if b then f else g))
numbered_either departed count i true f g h k = h
numbered_either departed count i false f g h k = k

numbered_arrived : (s : Setting) (w : WorldAt) (j : ℕ) (raw : Raw) (o : Option FrameAt) (i : ℕ) (p : Option FrameAt) → Numbered w.departed w.count i p → Numbered w.departed (w.count + 1) i (arrived s w j raw o i p)
numbered_arrived s w j raw (Some g) i (Some f) h =
    numbered_either w.departed (w.count + 1) i (i == j) (record f { arrival = Some (record { raw = raw; sample = samples_at s w g; at = w.time; moment = w.count }) }) _
    (omega arith, omega arith, omega arith)
    (numbered_later w.departed w.departed w.count i f (f.gone || (is_on_fibre (Some f) && (nat_lt i j && ((f.link == g.link) && is_role f.by g.by)))) (omega arith) h)
numbered_arrived s w j raw (Some g) i None h = tt
numbered_arrived s w j raw None i p h = numbered_on w.departed w.departed w.count i p (omega arith) h

numbered_event : (s : Setting) (w : WorldAt) (e : Event) (i : ℕ) → Numbered w.departed w.count i (w.frame i) → Numbered (departed_after s w e) (w.count + 1) i (frame_after s w e i)
numbered_event s w (Depart n p stamp) i h = numbered_departing w (place_of s n p) stamp (waiting_at w (place_of s n p)) i h
numbered_event s w (Arrive j raw) i h = numbered_arrived s w j raw (w.frame j) i (w.frame i) h
numbered_event s w e i h = numbered_removed s e w.departed w.count i (w.frame i) h

-- Two frames in an event

-- a frame as it was, except that it may be gone now
abbrev with_gone : FrameAt → Bool → FrameAt
with_gone f gone = record f { gone = gone }

before_still : (o : Option Arrival) (old new : Bool) (moment : ℕ) → (old ≡ true → new ≡ true) → ArrivedBefore o old moment → ArrivedBefore o new moment
before_still (Some a) old new moment h k = k
before_still None old new moment h k = h k

one_way_still : (o p : Option Arrival) (old new : Bool) → (old ≡ true → new ≡ true) → IfSome p (λ b. ArrivedBefore o old b.moment) → IfSome p (λ b. ArrivedBefore o new b.moment)
one_way_still o None old new h k = tt
one_way_still o (Some b) old new h k = before_still o old new b.moment h k

order_still : (f g : FrameAt) (gone other : Bool) → (f.gone ≡ true → gone ≡ true) → InOrder (Some f) (Some g) → InOrder (Some (with_gone f gone)) (Some (with_gone g other))
order_still f g gone other h k = (k.0, λ l b. one_way_still f.arrival g.arrival f.gone gone h (k.1 l b))

order_removed : (s : Setting) (e : Event) (o p : Option FrameAt) → InOrder o p → InOrder (option_map (removed s e) o) (option_map (removed s e) p)
order_removed s e None p h = tt
order_removed s e (Some f) None h = tt
order_removed s e (Some f) (Some g) h = order_still f g (removed s e f).gone (removed s e g).gone (or_left f.gone _) h

-- a departure
too_big : (i j n : ℕ) → i < j → i ≡ n + 1 → j ≤ n → ⊥
too_big i j n l e h = omega (arith, l, e, h)

order_where : (w : WorldAt) (i j : ℕ) (new : FrameAt) (b c : Bool) (o p : Option FrameAt) → (i == (w.departed + 1)) ≡ b → (j == (w.departed + 1)) ≡ c → i < j → new.moment ≡ w.count → new.arrival ≡ None → Numbered w.departed w.count i o → Numbered w.departed w.count j p →
    InOrder o p → InOrder (if b then Some new else o) (if c then Some new else p)
order_where w i j new true true o p e f l m a x y h = absurd (same_number i j (w.departed + 1) l (eqb-true i (w.departed + 1) e) (eqb-true j (w.departed + 1) f))
  where
    same_number : (a b c : ℕ) → a < b → a ≡ c → b ≡ c → ⊥
    same_number a b c l e f = omega (arith, l, e, f)
order_where w i j new true false o None e f l m a x y h = tt
order_where w i j new true false o (Some g) e f l m a x y h = absurd (too_big i j w.departed l (eqb-true i (w.departed + 1) e) y.0)
order_where w i j new false true None p e f l m a x y h = tt
order_where w i j new false true (Some old) p e f l m a x y h =
    (subst (λ z. old.moment < z) (sym m) x.1, λ k r. subst (λ z. IfSome z (λ b. ArrivedBefore old.arrival old.gone b.moment)) (sym a) tt)
order_where w i j new false false o p e f l m a x y h = h

order_departing : (w : WorldAt) (place : Option Place) (stamp : ℤ) (queue : List Sending) (i j : ℕ) → i < j → Numbered w.departed w.count i (w.frame i) → Numbered w.departed w.count j (w.frame j) → InOrder (w.frame i) (w.frame j) →
    InOrder (departing w place stamp queue i) (departing w place stamp queue j)
order_departing w None stamp queue i j l x y h = h
order_departing w (Some place) stamp [] i j l x y h = h
order_departing w (Some place) stamp (oldest ∷ rest) i j l x y h =
    order_where w i j _ (i == (w.departed + 1)) (j == (w.departed + 1)) (w.frame i) (w.frame j) refl refl l refl refl x y h

-- an arrival

-- the frame that arrives was on its fibre
pub on_fibre : (s : Setting) (w : WorldAt) (m : ℕ) (raw : Raw) (b : Bool) (o : Option FrameAt) → AllHold (arrive_checks s w m raw b o) → b ≡ true
on_fibre s w m raw true o a = refl
on_fibre s w m raw false o a = absurd (false≢true (sym a.0))

pub flies : (f : FrameAt) → is_on_fibre (Some f) ≡ true → (f.gone ≡ false) × (f.arrival ≡ None)
flies f e = flying f.gone f.arrival e
  where
    flying : (gone : Bool) (o : Option Arrival) → (if gone then false else (if is_some o then false else true)) ≡ true → (gone ≡ false) × (o ≡ None)
    flying true o e = absurd (false≢true e)
    flying false None e = (refl, refl)
    flying false (Some a) e = absurd (false≢true e)

same_way : (r q : Role) → r ≡ q → is_role r q ≡ true
same_way Master Master e = refl
same_way Slave Slave e = refl
same_way Master Slave e = cc
same_way Slave Master e = cc

-- one that is overtaken never arrives
overtaken : (f : FrameAt) (i m : ℕ) (g : FrameAt) → i < m → f.link ≡ g.link → f.by ≡ g.by → f.arrival ≡ None → (f.gone || (is_on_fibre (Some f) && (nat_lt i m && ((f.link == g.link) && is_role f.by g.by)))) ≡ true
overtaken f i m g l k r none =
    gone_now f.gone (is_on_fibre (Some f)) (nat_lt i m) (f.link == g.link) (is_role f.by g.by) (λ here. ap (λ o. if f.gone then false else (if is_some o then false else true)) none ∙ ap (λ b. if b then false else true) here)
    (less_is i m l) (ap (λ z. z == g.link) k ∙ eq_self g.link) (same_way f.by g.by r)
  where
    less_is : (a b : ℕ) → a < b → nat_lt a b ≡ true
    less_is a b l = grind (arith, l)

    gone_now : (a b c d e : Bool) → (a ≡ false → b ≡ true) → c ≡ true → d ≡ true → e ≡ true → (a || (b && (c && (d && e)))) ≡ true
    gone_now true b c d e h x y z = refl
    gone_now false true true true true h x y z = refl
    gone_now false false c d e h x y z = absurd (false≢true (h refl))
    gone_now false true false d e h x y z = absurd (false≢true x)
    gone_now false true true false e h x y z = absurd (false≢true y)
    gone_now false true true true false h x y z = absurd (false≢true z)

before_now : (o : Option Arrival) (gone : Bool) (count : ℕ) → Past count o → (o ≡ None → gone ≡ true) → ArrivedBefore o gone count
before_now (Some a) gone count past h = past
before_now None gone count past h = h refl

-- what happened to two frames, by which of them arrives
order_arriving : (s : Setting) (w : WorldAt) (m : ℕ) (raw : Raw) (x : FrameAt) (i j : ℕ) (f g : FrameAt) (b c : Bool) → (i == m) ≡ b → (j == m) ≡ c → i < j → (i ≡ m → is_on_fibre (Some f) ≡ true) → (j ≡ m → x ≡ g) → Numbered w.departed w.count i (Some f) →
    InOrder (Some f) (Some g) →
    InOrder
    (Some (if b then record f { arrival = Some (record { raw = raw; sample = samples_at s w x; at = w.time; moment = w.count }) } else record f { gone = f.gone || (is_on_fibre (Some f) && (nat_lt i m && ((f.link == x.link) && is_role f.by x.by))) }))
    (Some (if c then record g { arrival = Some (record { raw = raw; sample = samples_at s w x; at = w.time; moment = w.count }) } else record g { gone = g.gone || (is_on_fibre (Some g) && (nat_lt j m && ((g.link == x.link) && is_role g.by x.by))) }))
order_arriving s w m raw x i j f g true true e d l fly is n h = absurd (not_less i j m l (eqb-true i m e) (eqb-true j m d))
  where
    not_less : (a b c : ℕ) → a < b → a ≡ c → b ≡ c → ⊥
    not_less a b c l e f = omega (arith, l, e, f)
order_arriving s w m raw x i j f g true false e d l fly is n h =
    (h.0, λ k r. never_both f.arrival f.gone g.arrival (flies f (fly (eqb-true i m e))) (h.1 k r))
  where
    never_both : (o : Option Arrival) (gone : Bool) (p : Option Arrival) → ((gone ≡ false) × (o ≡ None)) → IfSome p (λ b. ArrivedBefore o gone b.moment) → IfSome p (λ b. w.count < b.moment)
    never_both None gone (Some b) k t = absurd (false≢true (sym k.0 ∙ t))
    never_both (Some a) gone (Some b) k t = absurd (none-some a (sym k.1))
    never_both o gone None k t = tt
order_arriving s w m raw x i j f g false true e d l fly is n h =
    let here : x ≡ g = is (eqb-true j m d) in (
      h.0,
      λ k r. before_now f.arrival (f.gone || (is_on_fibre (Some f) && (nat_lt i m && ((f.link == x.link) && is_role f.by x.by)))) w.count n.2
          (λ none. overtaken f i m x (subst (λ z. i < z) (eqb-true j m d) l) (k ∙ ap (λ (z : FrameAt). z.link) (sym here)) (r ∙ ap (λ (z : FrameAt). z.by) (sym here)) none),
    )
order_arriving s w m raw x i j f g false false e d l fly is n h =
    let over : Bool = is_on_fibre (Some f) && (nat_lt i m && ((f.link == x.link) && is_role f.by x.by)) in
    let other : Bool = is_on_fibre (Some g) && (nat_lt j m && ((g.link == x.link) && is_role g.by x.by)) in
    order_still f g (f.gone || over) (g.gone || other) (or_left f.gone over) h

order_arrived : (s : Setting) (w : WorldAt) (says : Result PtpMsg FrameFault) (m : ℕ) (raw : Raw) (i j : ℕ) (q o p : Option FrameAt) → Accepts s w says (Arrive m raw) → w.frame m ≡ q → w.frame i ≡ o → w.frame j ≡ p → i < j → Numbered w.departed w.count i o → InOrder o p →
    InOrder (arrived s w m raw q i o) (arrived s w m raw q j p)
order_arrived s w says m raw i j None o p a at_m at_i at_j l n h = h
order_arrived s w says m raw i j (Some x) None p a at_m at_i at_j l n h = tt
order_arrived s w says m raw i j (Some x) (Some f) None a at_m at_i at_j l n h = tt
order_arrived s w says m raw i j (Some x) (Some f) (Some g) a at_m at_i at_j l n h =
    order_arriving s w m raw x i j f g (i == m) (j == m) refl refl l
    (λ e. ap is_on_fibre (sym at_i ∙ ap w.frame e) ∙ on_fibre s w m raw (is_on_fibre (w.frame m)) (w.frame m) a)
    (λ e. same_Some x g (sym at_m ∙ sym (ap w.frame e) ∙ at_j)) n h

order_event : (s : Setting) (w : WorldAt) (says : Result PtpMsg FrameFault) (e : Event) (i j : ℕ) → Accepts s w says e → i < j → Numbered w.departed w.count i (w.frame i) → Numbered w.departed w.count j (w.frame j) → InOrder (w.frame i) (w.frame j) →
    InOrder (frame_after s w e i) (frame_after s w e j)
order_event s w says (Depart n p stamp) i j a l x y h = order_departing w (place_of s n p) stamp (waiting_at w (place_of s n p)) i j l x y h
order_event s w says (Arrive m raw) i j a l x y h = order_arrived s w says m raw i j (w.frame m) (w.frame i) (w.frame j) a refl refl refl l x h
order_event s w says e i j a l x y h = order_removed s e (w.frame i) (w.frame j) h

-- Every run

pub given_frame : (s : Setting) (y : ℤ) (gs : List Given) (v : WorldAt) (i : ℕ) → ((gives_all s y v gs).frame i ≡ v.frame i) × ((gives_all s y v gs).departed ≡ v.departed)
given_frame s y [] v i = (refl, refl)
given_frame s y (g ∷ gs) v i = given_frame s y gs (gives s y v g) i

pub all_numbered : (s : Setting) (events : List Happened) (i : ℕ) → Numbered (world_after s events).departed (world_after s events).count i ((world_after s events).frame i)
all_numbered s [] i = tt
all_numbered s (h ∷ before) i =
    let w : WorldAt = world_after s before in
    let v : WorldAt = moved s w h.event in
    let gs : List Given = given_by s w v h.says h.event in
    let same : _ = given_frame s h.answer gs v i in
    subst (λ o. Numbered (world_after s (h ∷ before)).departed (world_after s (h ∷ before)).count i o) (sym same.0)
    (subst (λ d. Numbered d (world_after s (h ∷ before)).count i (v.frame i)) (sym same.1)
    (subst (λ c. Numbered v.departed c i (v.frame i)) (sym (all_given_count s h.answer gs v)) (numbered_event s w h.event i (all_numbered s before i))))

all_ordered : (s : Setting) (events : List Happened) (i j : ℕ) → AllAccepted s events → i < j → InOrder ((world_after s events).frame i) ((world_after s events).frame j)
all_ordered s [] i j a l = tt
all_ordered s (h ∷ before) i j a l =
    let w : WorldAt = world_after s before in
    let v : WorldAt = moved s w h.event in
    let gs : List Given = given_by s w v h.says h.event in
    subst (λ o. InOrder o ((world_after s (h ∷ before)).frame j)) (sym (given_frame s h.answer gs v i).0)
    (subst (InOrder (v.frame i)) (sym (given_frame s h.answer gs v j).0)
    (order_event s w h.says h.event i j a.0 l (all_numbered s before i) (all_numbered s before j) (all_ordered s before i j a.1 l)))

both_known : (s : Setting) (events : List Happened) (i j : ℕ) (f g : FrameAt) → AllAccepted s events → (world_after s events).frame i ≡ Some f → (world_after s events).frame j ≡ Some g → i < j → InOrder (Some f) (Some g)
both_known s events i j f g a at_i at_j l = subst (λ o. InOrder o (Some g)) at_i (subst (InOrder ((world_after s events).frame i)) at_j (all_ordered s events i j a l))

pub frames_depart_in_order : FramesDepartInOrder
frames_depart_in_order s events i j f g run at_i at_j l = (both_known s events i j f g run.accepted at_i at_j l).0

arrive_by : (o p : Option Arrival) (gone : Bool) → IfSome p (λ b. ArrivedBefore o gone b.moment) → IfSome o (λ a. IfSome p (λ b. a.moment < b.moment))
arrive_by None p gone h = tt
arrive_by (Some a) None gone h = tt
arrive_by (Some a) (Some b) gone h = h

pub frames_arrive_in_order : FramesArriveInOrder
frames_arrive_in_order s events i j f g run at_i at_j l k r = arrive_by f.arrival g.arrival f.gone ((both_known s events i j f g run.accepted at_i at_j l).1 k r)
