-- What holds of times, frames and modules after every event of every run.
use Rattle.std.proofs.Common.{◌≡◌, ◌∙◌, refl, sym, subst, ℕ, ℤ, pos, ◌+ℤ◌, ◌≤ℤ◌, not, Bool, true, false, if◌then◌else◌, List, [], ◌∷◌, ◌++◌, map, flat_map, Option, None, Some, option_map, Result, arith}
use Rattle.std.proofs.lemmas.Bool.{eqb-true, and_parts, true≢false}
use Rattle.std.proofs.lemmas.Int.{ints}
use Rattle.arrayvec.specs.ArrayVec.{ArrayVec as Items}
use Rattle.std.specs.List.{AllByRecursion}
use Rattle.wrp_base.specs.declared.link.Role.{Role}
use Rattle.wrp_base.specs.declared.link.Role.TheVariants.{Master, Slave}
use Rattle.wrp_base.specs.declared.message.PtpMsg.{PtpMsg}
use Rattle.wrp_network.specs.declared.network.LinkCfg.{LinkCfg}
use Rattle.wrp_base.proofs.Integers.{int_le_self, int_le_trans}
use Rattle.wrp_frame.specs.declared.fault.FrameFault.{FrameFault}
use Rattle.wrp_course.specs.declared.event.Event.{Event}
use Rattle.wrp_course.specs.declared.event.Event.TheVariants.{Pass, Depart, Down, Up, Cut}
use Rattle.wrp_course.specs.declared.event.Swap.{Swap}
use Rattle.wrp_course.specs.EventAt.{IsEventOf}
use Rattle.wrp_course.specs.Given.{Given, given_by, gives, gives_all, step_of, world_step}
use Rattle.wrp_course.specs.Moved.{moved, end_after, is_place, loses, swap_at, port_number, with_swap, behind_first}
use Rattle.wrp_course.specs.Checks.{Holds, needs}
use Rattle.wrp_course.specs.Premises.{Accepts, fibre_kept, module_kept, swap_is_placed}
use Rattle.wrp_course.specs.Run.{Happened, world_after}
use Rattle.wrp_course.specs.RunLaws.{ModulesStay, SameModule, TimeNeverFalls}
use Rattle.wrp_course.specs.Runs.{AllEvents}
use Rattle.wrp_course.specs.Setting.{Setting, end_at, end_of, is_of, link_of, links_of, place_of}
use Rattle.wrp_course.specs.WorldAt.{EndAt, WorldAt, ends_are_up, has_carrier}
use Rattle.wrp_course.proofs.RunFrames.{told_either}

-- Time

pub all_given_time : (s : Setting) (y : ℤ) (gs : List Given) (v : WorldAt) → (gives_all s y v gs).time ≡ v.time
all_given_time s y [] v = refl
all_given_time s y (g ∷ gs) v = all_given_time s y gs (gives s y v g)

later : (t dt : ℤ) → pos 1 ≤ℤ dt → t ≤ℤ (t +ℤ dt)
later t dt h = omega (arith, ints, h)

pub moved_time : (s : Setting) (w : WorldAt) (e : Event) → IsEventOf s.cfg e → w.time ≤ℤ (moved s w e).time
moved_time s w (Pass dt drifts fibres) h = later w.time dt h.span.0
moved_time s w _ h = int_le_self w.time

pub step_time : (s : Setting) (says : Result PtpMsg FrameFault) (y : ℤ) (w : WorldAt) (e : Event) → IsEventOf s.cfg e → w.time ≤ℤ (world_step s says y w e).time
step_time s says y w e h =
    subst (λ t. w.time ≤ℤ t) (sym (all_given_time s y (given_by s w (moved s w e) says e) (moved s w e))) (moved_time s w e h)

times_rise : (s : Setting) (newer older : List Happened) → AllEvents s.cfg (newer ++ older) → (world_after s older).time ≤ℤ (world_after s (newer ++ older)).time
times_rise s [] older each = int_le_self (world_after s older).time
times_rise s (h ∷ newer) older each =
    int_le_trans (world_after s older).time (world_after s (newer ++ older)).time (world_after s (h ∷ (newer ++ older))).time
    (times_rise s newer older each.1) (step_time s h.says h.answer (world_after s (newer ++ older)) h.event each.0)

pub time_never_falls : TimeNeverFalls
time_never_falls s newer older run = times_rise s newer older run.each

-- Modules

pub same_module : (e : EndAt) → SameModule e e
same_module e = record { name = refl; tx = refl; rx = refl }

module_by : (a b c : EndAt) → SameModule a b → SameModule b c → SameModule a c
module_by a b c h k = record { name = k.name ∙ h.name; tx = k.tx ∙ h.tx; rx = k.rx ∙ h.rx }

given_module : (s : Setting) (y : ℤ) (v : WorldAt) (g : Given) (k : ℕ) (r : Role) → SameModule (v.end_at k r) ((gives s y v g).end_at k r)
given_module s y v g k r =
    told_either (λ e. SameModule (v.end_at k r) e) s v g (step_of s y v g) k r (end_at s k r) (same_module (v.end_at k r))
    (λ end. record { name = refl; tx = refl; rx = refl })

pub all_given_module : (s : Setting) (y : ℤ) (gs : List Given) (v : WorldAt) (k : ℕ) (r : Role) → SameModule (v.end_at k r) ((gives_all s y v gs).end_at k r)
all_given_module s y [] v k r = same_module (v.end_at k r)
all_given_module s y (g ∷ gs) v k r =
    module_by (v.end_at k r) ((gives s y v g).end_at k r) ((gives_all s y (gives s y v g) gs).end_at k r) (given_module s y v g k r)
    (all_given_module s y gs (gives s y v g) k r)

pub one_module : (b : Bool) (e f : EndAt) → SameModule f e → SameModule f (if b then e else f)
one_module true e f h = h
one_module false e f h = same_module f

pub end_up : (w : WorldAt) (r : Role) (o : Option LinkCfg) (n : ℕ) → ends_are_up w.clock o ≡ true → is_of n (option_map (end_of r) o) ≡ true → (w.clock n).up ≡ true
end_up w r None n e f = absurd (true≢false (sym e))
end_up w Master (Some link) n e f =
    subst (λ m. (w.clock m).up ≡ true) (eqb-true link.upper n f) (and_parts (w.clock link.upper).up (w.clock link.lower).up e).0
end_up w Slave (Some link) n e f =
    subst (λ m. (w.clock m).up ≡ true) (eqb-true link.lower n f) (and_parts (w.clock link.upper).up (w.clock link.lower).up e).1

pub not_up : (up : Bool) → up ≡ true → not (not up) ≡ false → ⊥
not_up up e f = cc

swapped_where : (b : Bool) (e f : EndAt) → (b ≡ true → ⊥) → SameModule f (if b then e else f)
swapped_where true e f h = absurd (h refl)
swapped_where false e f h = same_module f

pub all_right : {A : Type 0} (P : A → Type 0) (xs ys : List A) → AllByRecursion P (xs ++ ys) → AllByRecursion P ys
all_right P [] ys h = h
all_right P (x ∷ xs) ys h = all_right P xs ys h.1

-- the last check of a node that comes up
pub comes_up_down : (s : Setting) (w : WorldAt) (says : Result PtpMsg FrameFault) (n : ℕ) (off : ℤ) (swaps : Items Swap) → Accepts s w says (Up n off swaps) → not (not (w.clock n).up) ≡ false
comes_up_down s w says n off swaps a =
    let v : WorldAt = moved s w (Up n off swaps) in
    (all_right Holds (map (swap_is_placed s n) swaps.items) (needs (not (w.clock n).up) ∷ [])
    (all_right Holds (flat_map (module_kept s n) swaps.items) (map (swap_is_placed s n) swaps.items ++ (needs (not (w.clock n).up) ∷ []))
    (all_right Holds (flat_map (fibre_kept s v) (links_of s)) (flat_map (module_kept s n) swaps.items ++ (map (swap_is_placed s n) swaps.items ++ (needs (not (w.clock n).up) ∷ []))) a.1))).0

pub moved_module : (s : Setting) (w : WorldAt) (says : Result PtpMsg FrameFault) (e : Event) (k : ℕ) (r : Role) → Accepts s w says e → has_carrier s w k ≡ true → SameModule (w.end_at k r) (end_after s w e k r)
moved_module s w says (Depart n p stamp) k r a c =
    one_module (is_place (place_of s n p) k r) (record (w.end_at k r) { waiting = behind_first (w.end_at k r).waiting }) (w.end_at k r) (record { name = refl; tx = refl; rx = refl })
moved_module s w says (Up n off swaps) k r a c =
    swapped_where (is_of n (end_at s k r)) (with_swap (swap_at (port_number s k r) swaps.items) (w.end_at k r)) (w.end_at k r)
    (λ b. not_up (w.clock n).up (end_up w r (link_of s k) n (and_parts (w.fibre k).joined (ends_are_up w.clock (link_of s k)) c).1 b) (comes_up_down s w says n off swaps a))
moved_module s w says (Down n) k r a c = one_module (loses s (Down n) k) (record (w.end_at k r) { waiting = [] }) (w.end_at k r) (record { name = refl; tx = refl; rx = refl })
moved_module s w says (Cut l) k r a c = one_module (loses s (Cut l) k) (record (w.end_at k r) { waiting = [] }) (w.end_at k r) (record { name = refl; tx = refl; rx = refl })
moved_module s w says _ k r a c = same_module (w.end_at k r)

pub modules_stay : ModulesStay
modules_stay s h before k r run c =
    let w : WorldAt = world_after s before in
    let v : WorldAt = moved s w h.event in
    module_by (w.end_at k r) (v.end_at k r) ((world_after s (h ∷ before)).end_at k r) (moved_module s w h.says h.event k r run.accepted.0 c)
    (all_given_module s h.answer (given_by s w v h.says h.event) v k r)
