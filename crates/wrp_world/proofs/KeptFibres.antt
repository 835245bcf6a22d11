-- The fibres of a world's links keep their premise: before any event, and after each event and step of a node. So if none
-- changes, none has to be looked at.
use Rattle.std.proofs.Common.{◌≡◌, ◌∙◌, refl, ap, ap₂, sym, subst, ℕ, zero, suc, ◌+◌, ◌<◌, ◌≤◌, ◌⊎◌, inl, inr, ℤ, pos, ◌+ℤ◌, List, [], ◌∷◌, length, map, flat_map, None, Some, slice_get, Result, arith}
use Rattle.std.proofs.lemmas.Int.{ints}
use Rattle.std.proofs.lemmas.Option.{slice_get_within}
use Rattle.std.specs.Option.{option_map_or, option_or}
use Rattle.arrayvec.specs.ArrayVec.{ArrayVec}
use Rattle.wrp_base.proofs.Lists.{has_item}
use Rattle.wrp_base.specs.declared.link.Role.TheVariants.{Master, Slave}
use Rattle.wrp_base.specs.declared.message.PtpMsg.{PtpMsg}
use Rattle.wrp_network.specs.declared.configuration.NetCfg.{NetCfg}
use Rattle.wrp_network.specs.declared.network.LinkCfg.{LinkCfg}
use Rattle.wrp_bounds.specs.Times.{reach}
use Rattle.wrp_frame.specs.declared.fault.FrameFault.{FrameFault}
use Rattle.wrp_course.specs.Checks.{AllHold, Check, only_where, told_of}
use Rattle.wrp_course.specs.declared.event.Event.{Event}
use Rattle.wrp_course.specs.declared.event.Event.TheVariants.{Pass}
use Rattle.wrp_course.specs.declared.fibres.FibreState.{FibreState}
use Rattle.wrp_course.specs.Given.{Given, gives}
use Rattle.wrp_course.specs.Moved.{move_of, moved}
use Rattle.wrp_course.specs.Premises.{Accepts, fibre_by, fibre_checks, fibre_kept}
use Rattle.wrp_course.specs.Setting.{Setting, from_on, link_of, links_of}
use Rattle.wrp_course.specs.WorldAt.{WorldAt, delay_from, new_world}
use Rattle.wrp_course.proofs.Told.{holds_first, told_append}
use Rattle.wrp_plant.specs.declared.ends.Span.{Span}
use Rattle.wrp_plant.specs.declared.plant.Plant.{Plant}
use Rattle.wrp_plant.specs.Plant.{PlantIs, SpanIs, up_in}
use Rattle.wrp_plant.proofs.Standing.{down_told}
use Rattle.wrp_bound_laws.proofs.Motion.Fibres.{given_kept, moved_kept, none_checked, same_kept}
use Rattle.wrp_world.specs.KeepsFibres.{KeepsFibres}

-- The same in each state that a plant stands for

abbrev kept_with : NetCfg → ℕ → FibreState → (down up : ℤ) → List Check
kept_with cfg k fibre down up = map (only_where fibre.joined) (option_map_or (λ link. fibre_by (pos (reach cfg)) fibre down up link) (slice_get cfg.links.items k) [])

up_told : (w : WorldAt) (k : ℕ) (span : Span) → SpanIs w k span → up_in span ≡ delay_from w k Slave
up_told w k span h = ap₂ (λ x y. x +ℤ pos y) (ap₂ (λ x f. pos x +ℤ f) h.slave.tx (ap (λ (f : FibreState). f.sm) h.fibre)) h.master.rx

same_checks : (s t : Setting) (v w : WorldAt) (k : ℕ) (span : Span) → s.cfg ≡ t.cfg → SpanIs v k span → SpanIs w k span → AllHold (fibre_kept s v k) → AllHold (fibre_kept t w k)
same_checks s t v w k span c h g a =
    subst (λ (cfg : NetCfg). AllHold (kept_with cfg k (w.fibre k) (delay_from w k Master) (delay_from w k Slave))) c
    (subst (λ d. AllHold (kept_with s.cfg k (w.fibre k) d (delay_from w k Slave))) (sym (down_told v k span h) ∙ down_told w k span g)
    (subst (λ u. AllHold (kept_with s.cfg k (w.fibre k) (delay_from v k Master) u)) (sym (up_told v k span h) ∙ up_told w k span g)
    (subst (λ (f : FibreState). AllHold (kept_with s.cfg k f (delay_from v k Master) (delay_from v k Slave))) (sym h.fibre ∙ g.fibre) a)))

in_plant : (plant : Plant) (s : Setting) (v : WorldAt) → length plant.spans.items ≡ length plant.net.cfg.links.items → PlantIs s v plant →
    ((k : ℕ) (link : LinkCfg) → link_of s k ≡ Some link → AllHold (fibre_kept s v k)) → KeepsFibres plant
in_plant plant s v count h kept t w g k link is =
    let cfg : s.cfg ≡ t.cfg = sym h.cfg ∙ g.cfg in
    let here : link_of s k ≡ Some link = ap (λ (c : NetCfg). slice_get c.links.items k) cfg ∙ is in
    let there : k < length plant.spans.items =
    subst (λ n. k < n) (sym count) (subst (λ (c : NetCfg). k < length c.links.items) (sym h.cfg) (slice_get_within s.cfg.links.items k link here)) in
    let it : (x : Span) × (slice_get plant.spans.items k ≡ Some x) = has_item plant.spans.items k there in
    same_checks s t v w k it.0 cfg (h.spans k it.0 it.1) (g.spans k it.0 it.1) (kept k link here)

-- Before any event, after an accepted event, after a step of a node, and if nothing changes

pub new_keeps : (plant : Plant) (s : Setting) → length plant.spans.items ≡ length plant.net.cfg.links.items → PlantIs s (new_world s) plant → KeepsFibres plant
new_keeps plant s count h = in_plant plant s (new_world s) count h (λ k link is. none_checked (option_map_or (fibre_checks s (new_world s) k) (link_of s k) []))

pub moved_keeps : (old new : Plant) (e : Event) (says : Result PtpMsg FrameFault) (s : Setting) (w : WorldAt) → KeepsFibres old → PlantIs s w old → Accepts s w says e →
    length new.spans.items ≡ length new.net.cfg.links.items → PlantIs s (moved s w e) new → KeepsFibres new
moved_keeps old new e says s w kept h a count g = in_plant new s (moved s w e) count g (λ k link is. moved_kept s w says e k link is a (kept s w h k link is))

pub given_keeps : (old new : Plant) (s : Setting) (w : WorldAt) (y : ℤ) (g : Given) → KeepsFibres old → PlantIs s w old →
    length new.spans.items ≡ length new.net.cfg.links.items → PlantIs s (gives s y w g) new → KeepsFibres new
given_keeps old new s w y g kept h count p = in_plant new s (gives s y w g) count p (λ k link is. given_kept s y (g ∷ []) w k (kept s w h k link is))

pub stays_keeps : (old new : Plant) (s : Setting) (w : WorldAt) → KeepsFibres old → PlantIs s w old →
    length new.spans.items ≡ length new.net.cfg.links.items → PlantIs s w new → KeepsFibres new
stays_keeps old new s w kept h count g = in_plant new s w count g (λ k link is. kept s w h k link is)

-- Fibres that do not change

abbrev Stays : List (ℤ × ℤ) → ℕ → Type 0
Stays moves k = move_of moves k ≡ (pos 0, pos 0)

no_more : (z : ℤ) → z ≡ z +ℤ pos 0
no_more z = omega (arith, ints)

still_fibre : (fibre : FibreState) (m : ℤ × ℤ) → m ≡ (pos 0, pos 0) → record fibre { ms = fibre.ms +ℤ m.0; sm = fibre.sm +ℤ m.1 } ≡ fibre
still_fibre fibre m e =
    sym (ap₂ (λ a b. record fibre { ms = a; sm = b }) (no_more fibre.ms) (no_more fibre.sm)
    ∙ ap (λ (x : ℤ × ℤ). record fibre { ms = fibre.ms +ℤ x.0; sm = fibre.sm +ℤ x.1 }) (sym e))

all_told : (cs : List Check) → AllHold cs → told_of cs ≡ None
all_told [] h = refl
all_told (c ∷ cs) h = sym (holds_first c cs h.0) ∙ all_told cs h.1

none_told : (f : ℕ → List Check) (k i : ℕ) → ((j : ℕ) → j < i + k → AllHold (f j)) → told_of (flat_map f (from_on k i)) ≡ None
none_told f zero i h = refl
none_told f (suc k) i h =
    told_append (f i) (flat_map f (from_on k (i + 1)))
    ∙ ap (λ o. option_or o (told_of (flat_map f (from_on k (i + 1))))) (all_told (f i) (h i (omega arith)))
    ∙ none_told f k (i + 1) (λ j l. h j (omega (arith, l)))

pub still_told : (plant : Plant) (s : Setting) (w : WorldAt) (dt : ℤ) (drifts : ArrayVec ℤ) (moves : ArrayVec (ℤ × ℤ)) → KeepsFibres plant → PlantIs s w plant →
    ((k : ℕ) → Stays moves.items k) → None ≡ told_of (flat_map (fibre_kept s (moved s w (Pass dt drifts moves))) (links_of s))
still_told plant s w dt drifts moves kept h stay =
    let v : WorldAt = moved s w (Pass dt drifts moves) in
    sym (none_told (fibre_kept s v) (length s.cfg.links.items) 0
    (λ k l.
    let it : (link : LinkCfg) × (slice_get s.cfg.links.items k ≡ Some link) = has_item s.cfg.links.items k (omega (arith, l)) in
    same_kept s w v k (still_fibre (w.fibre k) (move_of moves.items k) (stay k)) (record { name = refl; tx = refl; rx = refl }) (record { name = refl; tx = refl; rx = refl })
    (kept s w h k it.0 it.1)))
