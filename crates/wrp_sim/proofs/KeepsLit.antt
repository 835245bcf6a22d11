-- What is on a fibre is on a link that has its carrier; and so is what waits, after every event of every run.
use Rattle.std.proofs.Common.{◌≡◌, ◌∙◌, refl, sym, subst, ℕ, ◌+◌, ◌==◌, ◌&&◌, ◌||◌, ℤ, nat_lt, Bool, true, false, if◌then◌else◌, List, [], ◌∷◌, Option, None, Some, option_map, Result}
use Rattle.std.specs.Option.{is_some}
use Rattle.std.proofs.lemmas.Bool.{not-false}
use Rattle.wrp_base.specs.declared.message.PtpMsg.{PtpMsg}
use Rattle.wrp_base.specs.declared.time.Raw.{Raw}
use Rattle.wrp_network.specs.Network.{End}
use Rattle.wrp_base.proofs.Booleans.{not_both}
use Rattle.wrp_frame.specs.declared.fault.FrameFault.{FrameFault}
use Rattle.wrp_node.specs.NodeAt.{link_at}
use Rattle.wrp_course.specs.declared.event.Event.{Event}
use Rattle.wrp_course.specs.declared.event.Event.TheVariants.{Pass, Tick, Sample, Depart, Arrive, Deliver, Noise, Down, Up, Cut, Join}
use Rattle.wrp_course.specs.declared.place.Place.{Place}
use Rattle.wrp_course.specs.Checks.{AllHold}
use Rattle.wrp_course.proofs.RunChanges.{still_up}
use Rattle.wrp_course.proofs.RunStamps.{all_given_frame}
use Rattle.wrp_course.specs.Given.{Given, given_by, gives_all, world_step}
use Rattle.wrp_course.specs.Moved.{arrived, departing, frame_after, loses, moved, removed, samples_at, waiting_at}
use Rattle.wrp_course.specs.Premises.{Accepts, depart_checks}
use Rattle.wrp_course.specs.Run.{Happened, world_after}
use Rattle.wrp_course.specs.Runs.{IsRun}
use Rattle.wrp_course.specs.SameHandshake.{CarriersAreTheLinks}
use Rattle.wrp_course.specs.Setting.{Setting, is_role, place_of}
use Rattle.wrp_course.specs.WorldAt.{Arrival, FrameAt, Sending, WorldAt, has_carrier, is_on_fibre, new_world}
use Rattle.wrp_course.proofs.RunNetwork.{LinkEnd, link_end}
use Rattle.wrp_course.proofs.RunSettled.{all_given_carrier, passed_carrier, sampled_carrier}
use Rattle.wrp_sim.proofs.KeepsWaits.{PortsDark, WaitsLit, step_waits, still_joined, uncut_carrier, untouched_carrier}

-- Frames on a fibre

abbrev FrameLit : Setting → WorldAt → Option FrameAt → Type 0
FrameLit s w None = Unit {0}
FrameLit s w (Some f) = is_on_fibre (Some f) ≡ true → has_carrier s w f.link ≡ true

abbrev pub FibresLit : Setting → WorldAt → Type 0
FibresLit s w = (i : ℕ) → FrameLit s w (w.frame i)

-- carriers that stay
abbrev Stays : Setting → (w v : WorldAt) → Type 0
Stays s w v = (k : ℕ) → has_carrier s w k ≡ true → has_carrier s v k ≡ true

frame_stays : (s : Setting) (w v : WorldAt) (o : Option FrameAt) → Stays s w v → FrameLit s w o → FrameLit s v o
frame_stays s w v None stays h = tt
frame_stays s w v (Some f) stays h = λ on. stays f.link (h on)

abbrev on_by : (gone arrived : Bool) → Bool
on_by gone arrived = if gone then false else (if arrived then false else true)

on_both : (gone arrived lost : Bool) → on_by (gone || (lost && on_by gone arrived)) arrived ≡ true → (on_by gone arrived ≡ true) × (lost ≡ false)
on_both true arrived lost e = absurd (not_both false e refl)
on_both false true true e = absurd (not_both false e refl)
on_both false true false e = absurd (not_both false e refl)
on_both false false true e = absurd (not_both false e refl)
on_both false false false e = (refl, refl)

-- a frame that is on a fibre still was on it, and was not lost
still_on : (f : FrameAt) (lost : Bool) → is_on_fibre (Some (record f { gone = f.gone || (lost && is_on_fibre (Some f)) })) ≡ true → (is_on_fibre (Some f) ≡ true) × (lost ≡ false)
still_on f lost on = on_both f.gone (is_some f.arrival) lost on

on_older : (gone arrived more : Bool) → on_by (gone || (on_by gone arrived && more)) arrived ≡ true → on_by gone arrived ≡ true
on_older true arrived more e = absurd (not_both false e refl)
on_older false true more e = e
on_older false false more e = refl

still_older : (f : FrameAt) (more : Bool) → is_on_fibre (Some (record f { gone = f.gone || (is_on_fibre (Some f) && more) })) ≡ true → is_on_fibre (Some f) ≡ true
still_older f more on = on_older f.gone (is_some f.arrival) more on

-- a frame that arrived is on no fibre
not_on : (gone : Bool) → on_by gone true ≡ true → ⊥
not_on true e = not_both false e refl
not_on false e = not_both false e refl

frame_if : (s : Setting) (v : WorldAt) (b : Bool) (o p : Option FrameAt) → FrameLit s v o → FrameLit s v p → FrameLit s v (if b then o else p)
frame_if s v true o p x y = x
frame_if s v false o p x y = y

departs_lit : (s : Setting) (w v : WorldAt) (n : ℕ) (place : Option Place) (stamp : ℤ) (i : ℕ) (queue : List Sending) → Stays s w v → AllHold (depart_checks s w n stamp place queue) → FrameLit s w (w.frame i) →
    FrameLit s v (departing w place stamp queue i)
departs_lit s w v n None stamp i queue stays a h = frame_stays s w v (w.frame i) stays h
departs_lit s w v n (Some place) stamp i [] stays a h = frame_stays s w v (w.frame i) stays h
departs_lit s w v n (Some place) stamp i (oldest ∷ rest) stays a h =
    frame_if s v (i == (w.departed + 1)) (Some _) (w.frame i) (λ on. stays place.link (not-false (has_carrier s w place.link) a.1.1.0)) (frame_stays s w v (w.frame i) stays h)

comes_lit : (s : Setting) (v : WorldAt) (f : FrameAt) (b : Bool) (a : Arrival) (more : Bool) → FrameLit s v (Some f) →
    FrameLit s v (Some (if b then record f { arrival = Some a } else record f { gone = f.gone || (is_on_fibre (Some f) && more) }))
comes_lit s v f true a more h = λ on. absurd (not_on f.gone on)
comes_lit s v f false a more h = λ on. h (still_older f more on)

arrived_lit : (s : Setting) (w v : WorldAt) (j : ℕ) (raw : Raw) (g : Option FrameAt) (i : ℕ) (o : Option FrameAt) → Stays s w v → FrameLit s w o → FrameLit s v (arrived s w j raw g i o)
arrived_lit s w v j raw (Some g) i (Some f) stays h =
    comes_lit s v f (i == j) (record { raw = raw; sample = samples_at s w g; at = w.time; moment = w.count }) (nat_lt i j && ((f.link == g.link) && is_role f.by g.by))
    (frame_stays s w v (Some f) stays h)
arrived_lit s w v j raw None i None stays h = tt
arrived_lit s w v j raw None i (Some f) stays h = frame_stays s w v (Some f) stays h
arrived_lit s w v j raw (Some g) i None stays h = tt

-- if a carrier stays unless the event takes it away
removed_lit : (s : Setting) (w v : WorldAt) (e : Event) (o : Option FrameAt) → ((k : ℕ) → loses s e k ≡ false → has_carrier s w k ≡ true → has_carrier s v k ≡ true) → FrameLit s w o → FrameLit s v (option_map (removed s e) o)
removed_lit s w v e None stays h = tt
removed_lit s w v e (Some f) stays h =
    λ on.
    let both : (is_on_fibre (Some f) ≡ true) × (loses s e f.link ≡ false) = still_on f (loses s e f.link) on in
    stays f.link both.1 (h both.0)

moved_fibres : (s : Setting) (w : WorldAt) (says : Result PtpMsg FrameFault) (e : Event) → Accepts s w says e → FibresLit s w → (i : ℕ) → FrameLit s (moved s w e) (frame_after s w e i)
moved_fibres s w says (Depart n p stamp) a h i =
    departs_lit s w (moved s w (Depart n p stamp)) n (place_of s n p) stamp i (waiting_at w (place_of s n p)) (λ k c. c) a (h i)
moved_fibres s w says (Arrive j raw) a h i = arrived_lit s w (moved s w (Arrive j raw)) j raw (w.frame j) i (w.frame i) (λ k c. c) (h i)
moved_fibres s w says (Pass dt drifts fibres) a h i =
    removed_lit s w (moved s w (Pass dt drifts fibres)) (Pass dt drifts fibres) (w.frame i) (λ k l c. passed_carrier s w dt drifts fibres k ∙ c) (h i)
moved_fibres s w says (Sample n base bits) a h i =
    removed_lit s w (moved s w (Sample n base bits)) (Sample n base bits) (w.frame i) (λ k l c. sampled_carrier s w n base bits k ∙ c) (h i)
moved_fibres s w says (Tick n) a h i = removed_lit s w (moved s w (Tick n)) (Tick n) (w.frame i) (λ k l c. c) (h i)
moved_fibres s w says (Deliver j) a h i = removed_lit s w (moved s w (Deliver j)) (Deliver j) (w.frame i) (λ k l c. c) (h i)
moved_fibres s w says (Noise n p octets raw) a h i = removed_lit s w (moved s w (Noise n p octets raw)) (Noise n p octets raw) (w.frame i) (λ k l c. c) (h i)
moved_fibres s w says (Down n) a h i = removed_lit s w (moved s w (Down n)) (Down n) (w.frame i) (λ k l c. untouched_carrier s w n k l ∙ c) (h i)
moved_fibres s w says (Up n off swaps) a h i = removed_lit s w (moved s w (Up n off swaps)) (Up n off swaps) (w.frame i) (λ k l c. still_up s w n off swaps k c) (h i)
moved_fibres s w says (Cut j) a h i = removed_lit s w (moved s w (Cut j)) (Cut j) (w.frame i) (λ k l c. uncut_carrier s w j k l ∙ c) (h i)
moved_fibres s w says (Join j ms sm) a h i = removed_lit s w (moved s w (Join j ms sm)) (Join j ms sm) (w.frame i) (λ k l c. still_joined s w j ms sm k c) (h i)

pub step_fibres : (s : Setting) (says : Result PtpMsg FrameFault) (y : ℤ) (w : WorldAt) (e : Event) → Accepts s w says e → FibresLit s w → FibresLit s (world_step s says y w e)
step_fibres s says y w e a h i =
    let v : WorldAt = moved s w e in
    let gs : List Given = given_by s w v says e in
    subst (FrameLit s (gives_all s y v gs)) (sym (all_given_frame s y gs v i))
    (frame_stays s v (gives_all s y v gs) (v.frame i) (λ k c. all_given_carrier s y gs v k ∙ c) (moved_fibres s w says e a h i))

-- Every run

pub record IsLit (s : Setting) (w : WorldAt) : Type 0 where
  pub waits : WaitsLit s w
  pub fibres : FibresLit s w

pub new_lit : (s : Setting) → IsLit s (new_world s)
new_lit s = record { waits = λ k r c. refl; fibres = λ i. tt }

pub step_lit : (s : Setting) (says : Result PtpMsg FrameFault) (y : ℤ) (w : WorldAt) (e : Event) → PortsDark s w → Accepts s w says e → IsLit s w → IsLit s (world_step s says y w e)
step_lit s says y w e dark a h = record { waits = step_waits s says y w e dark h.waits; fibres = step_fibres s says y w e a h.fibres }

-- ports have their carriers if their links have theirs
pub ports_dark : CarriersAreTheLinks → (s : Setting) (events : List Happened) → IsRun s events → PortsDark s (world_after s events)
ports_dark carriers s events run k r end is c =
    let it : LinkEnd s k r end = link_end s k r end is in
    subst (λ (x : End). (link_at (s.set x.node) ((world_after s events).node x.node) x.port).carrier ≡ false) it.end_is
    (carriers s events k r it.link run it.there ∙ c)

pub run_lit : CarriersAreTheLinks → (s : Setting) (events : List Happened) → IsRun s events → IsLit s (world_after s events)
run_lit carriers s [] run = new_lit s
run_lit carriers s (h ∷ before) run =
    let older : IsRun s before = record { network = run.network; each = run.each.1; accepted = run.accepted.1 } in
    step_lit s h.says h.answer (world_after s before) h.event (ports_dark carriers s before older) run.accepted.0 (run_lit carriers s before older)
