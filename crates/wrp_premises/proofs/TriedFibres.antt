-- The checks of the delays that a link would have after an event.
use Rattle.std.proofs.Common.{◌≡◌, ◌∙◌, refl, ap, ap₂, sym, subst, ℕ, ◌^◌, ◌<◌, ◌≤◌, ◌==◌, ℤ, pos, ◌+ℤ◌, unsigned_abs, Bool, true, false, if◌then◌else◌, List, [], map, Option, None, Some, option_map, arith}
use Rattle.std.proofs.lemmas.Bool.{eq-eqb}
use Rattle.std.specs.Option.{option_map_or}
use Rattle.arrayvec.specs.ArrayVec.{ArrayVec}
use Rattle.wrp_base.specs.declared.link.Role.TheVariants.{Master, Slave}
use Rattle.wrp_network.specs.declared.network.LinkCfg.{LinkCfg}
use Rattle.wrp_bounds.specs.Times.{reach}
use Rattle.wrp_course.specs.Checks.{told_of, only_where}
use Rattle.wrp_course.specs.declared.breach.Breach.{Breach}
use Rattle.wrp_plant.specs.declared.ends.Delays.{Delays}
use Rattle.wrp_plant.specs.declared.ends.EndState.{EndState}
use Rattle.wrp_plant.specs.declared.ends.Span.{Span}
use Rattle.wrp_course.specs.declared.event.Event.TheVariants.{Pass, Join, Up}
use Rattle.wrp_course.specs.declared.event.Swap.{Swap}
use Rattle.wrp_course.specs.declared.fibres.FibreState.{FibreState}
use Rattle.wrp_course.specs.Moved.{moved, swap_at, with_swap}
use Rattle.wrp_plant.specs.Plant.{EndIs, SpanIs, delays_in, moved_fibre}
use Rattle.wrp_course.specs.Premises.{fibre_by, fibre_checks, fibre_kept}
use Rattle.wrp_course.specs.Setting.{Setting, end_of, is_of, link_of}
use Rattle.wrp_plant.specs.Sizes.{IsDelayBy}
use Rattle.wrp_premises.specs.Tried.{EndHas, LinkHas, delays_after}
use Rattle.wrp_course.specs.WorldAt.{EndAt, WorldAt, delay_from}

-- the delay down and the delay up
down_has : (v : WorldAt) (k : ℕ) (fibre : FibreState) (master slave : Delays) → LinkHas v k fibre master slave →
    ((pos master.tx +ℤ fibre.ms) +ℤ pos slave.rx) ≡ delay_from v k Master
down_has v k fibre master slave h =
    ap₂ (λ x y. x +ℤ pos y) (ap₂ (λ x f. pos x +ℤ f) h.master.tx (ap (λ (f : FibreState). f.ms) h.fibre)) h.slave.rx

up_has : (v : WorldAt) (k : ℕ) (fibre : FibreState) (master slave : Delays) → LinkHas v k fibre master slave →
    ((pos slave.tx +ℤ fibre.sm) +ℤ pos master.rx) ≡ delay_from v k Slave
up_has v k fibre master slave h =
    ap₂ (λ x y. x +ℤ pos y) (ap₂ (λ x f. pos x +ℤ f) h.slave.tx (ap (λ (f : FibreState). f.sm) h.fibre)) h.master.rx

-- the parts that the code compares are the parts of the state
pub delays_told : (s : Setting) (v : WorldAt) (k : ℕ) (most down up : ℤ) (fibre : FibreState) (master slave : Delays) (link : LinkCfg) (r : Option Breach) →
    r ≡ told_of (map (only_where fibre.joined) (fibre_by most fibre down up link)) → most ≡ pos (reach s.cfg) → LinkHas v k fibre master slave →
    down ≡ (pos master.tx +ℤ fibre.ms) +ℤ pos slave.rx → up ≡ (pos slave.tx +ℤ fibre.sm) +ℤ pos master.rx → link_of s k ≡ Some link →
    r ≡ told_of (fibre_kept s v k)
delays_told s v k most down up fibre master slave link r e f h d u l =
    e ∙ ap (λ m. told_of (map (only_where fibre.joined) (fibre_by m fibre down up link))) f
    ∙ ap₂ (λ x y. told_of (map (only_where fibre.joined) (fibre_by (pos (reach s.cfg)) fibre x y link))) (d ∙ down_has v k fibre master slave h) (u ∙ up_has v k fibre master slave h)
    ∙ ap (λ (g : FibreState). told_of (map (only_where g.joined) (fibre_by (pos (reach s.cfg)) g (delay_from v k Master) (delay_from v k Slave) link))) h.fibre
    ∙ sym (ap (λ o. told_of (map (only_where (v.fibre k).joined) (option_map_or (fibre_checks s v k) o []))) l)

-- the ends as they are
end_has : (at : EndAt) (end : EndState) (delays : Delays) → EndIs at end → delays ≡ delays_in end → EndHas at delays
end_has at end delays h e = record { tx = ap (λ (d : Delays). d.tx) e ∙ h.tx; rx = ap (λ (d : Delays). d.rx) e ∙ h.rx }

-- A link that is joined

abbrev pub joined_fibre : (ms sm : ℤ) → FibreState
joined_fibre ms sm = record { joined = true; ms = ms; sm = sm }

pub joined_has : (s : Setting) (w : WorldAt) (k : ℕ) (ms sm : ℤ) (span : Span) (fibre : FibreState) (master slave : Delays) → SpanIs w k span →
    fibre ≡ joined_fibre ms sm → master ≡ delays_in span.master → slave ≡ delays_in span.slave → LinkHas (moved s w (Join k ms sm)) k fibre master slave
joined_has s w k ms sm span fibre master slave h e p q = record {
  fibre = e ∙ sym (ap (λ b. if b then joined_fibre ms sm else w.fibre k) (eq-eqb k k refl));
  master = end_has (w.end_at k Master) span.master master h.master p;
  slave = end_has (w.end_at k Slave) span.slave slave h.slave q;
}

-- Delays that change

pub moved_has : (s : Setting) (w : WorldAt) (k : ℕ) (dt : ℤ) (drifts : ArrayVec ℤ) (moves : ArrayVec (ℤ × ℤ)) (span : Span) (fibre : FibreState) (master slave : Delays) →
    SpanIs w k span → fibre ≡ moved_fibre moves.items k span.fibre → master ≡ delays_in span.master → slave ≡ delays_in span.slave →
    LinkHas (moved s w (Pass dt drifts moves)) k fibre master slave
moved_has s w k dt drifts moves span fibre master slave h e p q = record {
  fibre = e ∙ ap (moved_fibre moves.items k) h.fibre;
  master = end_has (w.end_at k Master) span.master master h.master p;
  slave = end_has (w.end_at k Slave) span.slave slave h.slave q;
}

pub small_delay : (events : ℕ) (d : ℤ) → events < 2 ^ 32 → IsDelayBy events d → unsigned_abs d ≤ 2 ^ 98
small_delay events d h k = omega arith

-- Modules that are installed

swapped_has : (b : Bool) (swap : Option Swap) (at : EndAt) (old new : Delays) → EndHas at old → new ≡ delays_after b swap old →
    EndHas (if b then with_swap swap at else at) new
swapped_has true None at old new h e = record { tx = ap (λ (d : Delays). d.tx) e ∙ h.tx; rx = ap (λ (d : Delays). d.rx) e ∙ h.rx }
swapped_has true (Some swap) at old new h e = record { tx = ap (λ (d : Delays). d.tx) e; rx = ap (λ (d : Delays). d.rx) e }
swapped_has false swap at old new h e = record { tx = ap (λ (d : Delays). d.tx) e ∙ h.tx; rx = ap (λ (d : Delays). d.rx) e ∙ h.rx }

-- the same at the ends of a link, if there is one
abbrev master_at : ℕ → List Swap → EndAt → Option LinkCfg → EndAt
master_at n swaps at o =
    if is_of n (option_map (end_of Master) o) then with_swap (swap_at (option_map_or (λ end. end.port) (option_map (end_of Master) o) 0) swaps) at else at

abbrev slave_at : ℕ → List Swap → EndAt → Option LinkCfg → EndAt
slave_at n swaps at o =
    if is_of n (option_map (end_of Slave) o) then with_swap (swap_at (option_map_or (λ end. end.port) (option_map (end_of Slave) o) 0) swaps) at else at

pub up_with : (s : Setting) (w : WorldAt) (k n : ℕ) (off : ℤ) (swaps : ArrayVec Swap) (span : Span) (link : LinkCfg) (master slave : Delays) →
    SpanIs w k span → link_of s k ≡ Some link → master ≡ delays_after (link.upper == n) (swap_at link.upper_port swaps.items) (delays_in span.master) →
    slave ≡ delays_after (link.lower == n) (swap_at link.lower_port swaps.items) (delays_in span.slave) →
    LinkHas (moved s w (Up n off swaps)) k span.fibre master slave
up_with s w k n off swaps span link master slave h l p q = record {
  fibre = h.fibre;
  master = subst (λ o. EndHas (master_at n swaps.items (w.end_at k Master) o) master) (sym l)
      (swapped_has (link.upper == n) (swap_at link.upper_port swaps.items) (w.end_at k Master) (delays_in span.master) master
      (end_has (w.end_at k Master) span.master (delays_in span.master) h.master refl) p);
  slave = subst (λ o. EndHas (slave_at n swaps.items (w.end_at k Slave) o) slave) (sym l)
      (swapped_has (link.lower == n) (swap_at link.lower_port swaps.items) (w.end_at k Slave) (delays_in span.slave) slave
      (end_has (w.end_at k Slave) span.slave (delays_in span.slave) h.slave refl) q);
}
