-- A joined fibre keeps its reach, and the way down its share of both, in every run.
use Rattle.std.proofs.Common.{◌≡◌, inl, inr, ◌∙◌, refl, ap, sym, subst, ℕ, ◌*◌, ◌^◌, ◌<◌, ℤ, pos, ◌+ℤ◌, unsigned_abs, Bool, true, false, if◌then◌else◌, List, [], ◌∷◌, ◌++◌, length, map, flat_map, Some, Option, Result}
use Rattle.std.proofs.lemmas.Bool.Decides.{eqb_tells}
use Rattle.std.proofs.lemmas.Option.{slice_get_within}
use Rattle.std.specs.Option.{option_map_or}
use Rattle.wrp_base.specs.declared.link.Role.TheVariants.{Master, Slave}
use Rattle.wrp_base.specs.declared.message.PtpMsg.{PtpMsg}
use Rattle.wrp_network.specs.declared.network.LinkCfg.{LinkCfg}
use Rattle.wrp_bounds.specs.Times.{reach}
use Rattle.wrp_frame.specs.declared.fault.FrameFault.{FrameFault}
use Rattle.wrp_course.specs.declared.event.Event.{Event}
use Rattle.wrp_course.specs.declared.event.Event.TheVariants.{Pass, Depart, Up, Cut, Join}
use Rattle.wrp_course.specs.declared.fibres.FibreState.{FibreState}
use Rattle.wrp_course.specs.Checks.{AllHold, Check, Holds, only_where}
use Rattle.wrp_course.proofs.Bounds.{holds_most}
use Rattle.wrp_course.specs.Given.{Given, given_by, gives, gives_all}
use Rattle.wrp_course.specs.Moved.{behind_first, loses, is_place, moved}
use Rattle.wrp_course.specs.Premises.{Accepts, asymmetry, fibre_by, fibre_checks, fibre_kept, fibre_rate, rate_kept, tick_late}
use Rattle.wrp_course.specs.Run.{Happened, world_after}
use Rattle.wrp_course.specs.RunLaws.{SameModule}
use Rattle.wrp_course.specs.Runs.{IsRun}
use Rattle.wrp_course.specs.Setting.{Setting, link_of, links_of, nodes_of, place_of}
use Rattle.wrp_course.specs.WorldAt.{EndAt, Sending, WorldAt, delay_from}
use Rattle.wrp_course.proofs.RunTimes.{all_given_module, all_right}
use Rattle.wrp_bound_laws.specs.Fibres.{FibresKeepTheirShare}
use Rattle.wrp_bound_laws.proofs.Motion.OnTime.{first_part}
use Rattle.wrp_bound_laws.proofs.Motion.Slow.{check_says, flat_from}
use Rattle.wrp_bound_laws.proofs.Runs.Suffixes.{run_before}

-- What the checks of a fibre are about

abbrev kept_with : Setting → ℕ → FibreState → (down up : ℤ) → List Check
kept_with s k fibre down up = map (only_where fibre.joined) (option_map_or (λ link. fibre_by (pos (reach s.cfg)) fibre down up link) (link_of s k) [])

down_same : (w v : WorldAt) (k : ℕ) → v.fibre k ≡ w.fibre k → SameModule (w.end_at k Master) (v.end_at k Master) → SameModule (w.end_at k Slave) (v.end_at k Slave) → delay_from v k Master ≡ delay_from w k Master
down_same w v k f m t =
    ap (λ x. (pos x +ℤ (v.fibre k).ms) +ℤ pos (v.end_at k Slave).rx) m.tx
    ∙ ap (λ (x : FibreState). (pos (w.end_at k Master).tx +ℤ x.ms) +ℤ pos (v.end_at k Slave).rx) f
    ∙ ap (λ x. (pos (w.end_at k Master).tx +ℤ (w.fibre k).ms) +ℤ pos x) t.rx

up_same : (w v : WorldAt) (k : ℕ) → v.fibre k ≡ w.fibre k → SameModule (w.end_at k Master) (v.end_at k Master) → SameModule (w.end_at k Slave) (v.end_at k Slave) → delay_from v k Slave ≡ delay_from w k Slave
up_same w v k f m t =
    ap (λ x. (pos x +ℤ (v.fibre k).sm) +ℤ pos (v.end_at k Master).rx) t.tx
    ∙ ap (λ (x : FibreState). (pos (w.end_at k Slave).tx +ℤ x.sm) +ℤ pos (v.end_at k Master).rx) f
    ∙ ap (λ x. (pos (w.end_at k Slave).tx +ℤ (w.fibre k).sm) +ℤ pos x) m.rx

pub same_kept : (s : Setting) (w v : WorldAt) (k : ℕ) → v.fibre k ≡ w.fibre k → SameModule (w.end_at k Master) (v.end_at k Master) → SameModule (w.end_at k Slave) (v.end_at k Slave) → AllHold (fibre_kept s w k) → AllHold (fibre_kept s v k)
same_kept s w v k f m t h =
    subst (λ d. AllHold (kept_with s k (v.fibre k) d (delay_from v k Slave))) (sym (down_same w v k f m t))
    (subst (λ u. AllHold (kept_with s k (v.fibre k) (delay_from w k Master) u)) (sym (up_same w v k f m t))
    (subst (λ x. AllHold (kept_with s k x (delay_from w k Master) (delay_from w k Slave))) (sym f) h))

-- Inputs that are given change none of it

given_fibre : (s : Setting) (y : ℤ) (gs : List Given) (v : WorldAt) (k : ℕ) → (gives_all s y v gs).fibre k ≡ v.fibre k
given_fibre s y [] v k = refl
given_fibre s y (g ∷ gs) v k = given_fibre s y gs (gives s y v g) k

pub given_kept : (s : Setting) (y : ℤ) (gs : List Given) (v : WorldAt) (k : ℕ) → AllHold (fibre_kept s v k) → AllHold (fibre_kept s (gives_all s y v gs) k)
given_kept s y gs v k h = same_kept s v (gives_all s y v gs) k (given_fibre s y gs v k) (all_given_module s y gs v k Master) (all_given_module s y gs v k Slave) h

-- Events

module_where : (b : Bool) (e : EndAt) (waiting : List Sending) → SameModule e (if b then record e { waiting = waiting } else e)
module_where true e waiting = record { name = refl; tx = refl; rx = refl }
module_where false e waiting = record { name = refl; tx = refl; rx = refl }

pub none_checked : (cs : List Check) → AllHold (map (only_where false) cs)
none_checked [] = tt
none_checked (c ∷ cs) = (refl, none_checked cs)

pass_part : (s : Setting) (w v : WorldAt) (dt : ℤ) (drifts : List ℤ) (moves : List (ℤ × ℤ)) →
    AllHold (map (tick_late s w dt) (nodes_of s) ++ (flat_map (rate_kept s w dt drifts) (nodes_of s) ++ (flat_map (fibre_rate dt moves) (links_of s) ++ flat_map (fibre_kept s v) (links_of s)))) → AllHold (flat_map (fibre_kept s v) (links_of s))
pass_part s w v dt drifts moves h =
    all_right Holds (flat_map (fibre_rate dt moves) (links_of s)) (flat_map (fibre_kept s v) (links_of s))
    (all_right Holds (flat_map (rate_kept s w dt drifts) (nodes_of s)) (flat_map (fibre_rate dt moves) (links_of s) ++ flat_map (fibre_kept s v) (links_of s))
    (all_right Holds (map (tick_late s w dt) (nodes_of s)) (flat_map (rate_kept s w dt drifts) (nodes_of s) ++ (flat_map (fibre_rate dt moves) (links_of s) ++ flat_map (fibre_kept s v) (links_of s))) h))

is_there : (s : Setting) (k : ℕ) (link : LinkCfg) → link_of s k ≡ Some link → k < length s.cfg.links.items
is_there s k link is = slice_get_within s.cfg.links.items k link is

still_kept : (s : Setting) (w : WorldAt) (e : Event) (k : ℕ) → (moved s w e).fibre k ≡ w.fibre k → SameModule (w.end_at k Master) ((moved s w e).end_at k Master) → SameModule (w.end_at k Slave) ((moved s w e).end_at k Slave) → AllHold (fibre_kept s w k) →
    AllHold (fibre_kept s (moved s w e) k)
still_kept s w e k f m t h = same_kept s w (moved s w e) k f m t h

pub moved_kept : (s : Setting) (w : WorldAt) (says : Result PtpMsg FrameFault) (e : Event) (k : ℕ) (link : LinkCfg) → link_of s k ≡ Some link → Accepts s w says e → AllHold (fibre_kept s w k) → AllHold (fibre_kept s (moved s w e) k)
moved_kept s w says (Pass dt drifts fibres) k link is a h =
    let v : WorldAt = moved s w (Pass dt drifts fibres) in
    flat_from (fibre_kept s v) (length s.cfg.links.items) k (pass_part s w v dt drifts.items fibres.items a) (is_there s k link is)
moved_kept s w says (Up m off swaps) k link is a h =
    let v : WorldAt = moved s w (Up m off swaps) in
    flat_from (fibre_kept s v) (length s.cfg.links.items) k (first_part (flat_map (fibre_kept s v) (links_of s)) _ a.1) (is_there s k link is)
moved_kept s w says (Join l ms sm) k link is a h =
    let v : WorldAt = moved s w (Join l ms sm) in
    elim (eqb_tells k l) [
      | inl x ↦ subst (λ i. AllHold (fibre_kept s v i)) (sym x.1) (first_part (fibre_kept s v l) _ a)
      | inr x ↦
          still_kept s w (Join l ms sm) k (ap (λ b. if b then record { joined = true; ms = ms; sm = sm } else w.fibre k) x.0)
          (module_where (loses s (Join l ms sm) k) (w.end_at k Master) []) (module_where (loses s (Join l ms sm) k) (w.end_at k Slave) []) h
    ]
moved_kept s w says (Cut l) k link is a h =
    let v : WorldAt = moved s w (Cut l) in
    elim (eqb_tells k l) [
      | inl x ↦
          subst (λ b. AllHold (map (only_where (if b then record (w.fibre k) { joined = false } else w.fibre k).joined) (option_map_or (fibre_checks s v k) (link_of s k) []))) (sym x.0)
          (none_checked (option_map_or (fibre_checks s v k) (link_of s k) []))
      | inr x ↦
          still_kept s w (Cut l) k (ap (λ b. if b then record (w.fibre k) { joined = false } else w.fibre k) x.0)
          (module_where (loses s (Cut l) k) (w.end_at k Master) []) (module_where (loses s (Cut l) k) (w.end_at k Slave) []) h
    ]
moved_kept s w says (Depart m p stamp) k link is a h =
    still_kept s w (Depart m p stamp) k refl (module_where (is_place (place_of s m p) k Master) (w.end_at k Master) (behind_first (w.end_at k Master).waiting))
    (module_where (is_place (place_of s m p) k Slave) (w.end_at k Slave) (behind_first (w.end_at k Slave).waiting)) h
moved_kept s w says e k link is a h = still_kept s w e k refl (module_where (loses s e k) (w.end_at k Master) []) (module_where (loses s e k) (w.end_at k Slave) []) h

kept_over : (s : Setting) (events : List Happened) (k : ℕ) (link : LinkCfg) → link_of s k ≡ Some link → IsRun s events → AllHold (fibre_kept s (world_after s events) k)
kept_over s [] k link is run = none_checked (option_map_or (fibre_checks s (world_after s []) k) (link_of s k) [])
kept_over s (h ∷ before) k link is run =
    let w : WorldAt = world_after s before in
    let v : WorldAt = moved s w h.event in
    given_kept s h.answer (given_by s w v h.says h.event) v k (moved_kept s w h.says h.event k link is run.accepted.0 (kept_over s before k link is (run_before s h before run)))

-- What they say

pub fibres_keep_their_share : FibresKeepTheirShare
fibres_keep_their_share s events k link run is joined =
    let w : WorldAt = world_after s events in
    let all : AllHold (map (only_where true) (option_map_or (fibre_checks s w k) (link_of s k) [])) =
    subst (λ b. AllHold (map (only_where b) (option_map_or (fibre_checks s w k) (link_of s k) []))) joined (kept_over s events k link is run) in
    let h : AllHold (map (only_where true) (fibre_checks s w k link)) = subst (λ (o : Option LinkCfg). AllHold (map (only_where true) (option_map_or (fibre_checks s w k) o []))) is all in
    record {
      down = holds_most (pos 0) (w.fibre k).ms h.0;
      up = holds_most (pos 0) (w.fibre k).sm h.1.0;
      reach_down = holds_most (delay_from w k Master) (pos (reach s.cfg)) h.1.1.0;
      reach_up = holds_most (delay_from w k Slave) (pos (reach s.cfg)) h.1.1.1.0;
      share = check_says (unsigned_abs (asymmetry link.kappa (w.fibre k).ms (w.fibre k).sm)) (2 ^ 40 * link.e_asym) h.1.1.1.1.0;
    }
