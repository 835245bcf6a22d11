-- The first port that has something to send.
use Rattle.std.proofs.Common.{◌≡◌, ◌∙◌, refl, ap, ap₂, sym, subst, ℕ, ◌≤◌, ◌^◌, ◌*◌, nat_lt, ℤ, unsigned_abs, Bool, true, false, if◌then◌else◌, Option, None, Some, IfSome, option_map, option_and_then, arith}
use Rattle.std.proofs.lemmas.Option.{none-some, same_Some}
use Rattle.wrp_base.specs.Clock.{period_of}
use Rattle.wrp_base.specs.declared.link.Role.{Role}
use Rattle.wrp_network.specs.declared.network.LinkCfg.{LinkCfg}
use Rattle.wrp_base.specs.declared.time.Clock.{Clock}
use Rattle.wrp_base.specs.declared.time.Clock.TheVariants.{Mhz125, Mhz62}
use Rattle.wrp_course.specs.declared.event.Event.TheVariants.{Depart}
use Rattle.wrp_course.specs.Setting.{Setting, end_of, link_of}
use Rattle.wrp_course.specs.WorldAt.{WorldAt, reading}
use Rattle.wrp_sim.specs.declared.sim.departing.Departure.{Departure}
use Rattle.wrp_sim.specs.Departures.{IsReadable, departure_by, departure_from, first_of_two, standing, told_at, told_end}
use Rattle.wrp_sim.specs.Numbers.{drawn_stamp, is_within}
use Rattle.wrp_sim.specs.Rules.{after_draw, comes, departs_from, stamp_room}
use Rattle.wrp_sim.specs.SimAt.{SimAt}
use Rattle.wrp_sim.proofs.Cells.{within_least, within_most}

pub readable : (clock : Clock) (at : ℤ) → is_within clock at ≡ true → IsReadable at
readable Mhz125 at e = let most : unsigned_abs at ≤ 2 ^ 62 * period_of Mhz125 = within_most Mhz125 at e in record { least = within_least Mhz125 at e; greatest = omega (arith, most) }
readable Mhz62 at e = let most : unsigned_abs at ≤ 2 ^ 62 * period_of Mhz62 = within_most Mhz62 at e in record { least = within_least Mhz62 at e; greatest = omega (arith, most) }

-- the port at an end of a link, by the reading of its node's clock

there_by : (s : Setting) (w : WorldAt) (k : ℕ) (r : Role) (link : LinkCfg) (clock : Clock) (at : ℤ) → link_of s k ≡ Some link → clock ≡ s.cfg.clock →
    at ≡ reading w (end_of r link).node →
    told_at s w k r ≡ (if is_within clock at then Some (departure_by (end_of r link).node at (end_of r link).port) else None)
there_by s w k r link clock at e f g =
    ap (λ (l : Option LinkCfg). option_and_then (told_end s w) (option_map (end_of r) l)) e
    ∙ sym (ap₂ (λ (x : Clock) (y : ℤ). if is_within x y then Some (departure_by (end_of r link).node y (end_of r link).port) else None) f g)

pub told_there : (s : Setting) (w : WorldAt) (k : ℕ) (r : Role) (link : LinkCfg) (clock : Clock) (at : ℤ) (port : ℕ × ℕ) → link_of s k ≡ Some link → clock ≡ s.cfg.clock →
    port ≡ ((end_of r link).node, (end_of r link).port) → at ≡ reading w port.0 → is_within clock at ≡ true → Some (departure_by port.0 at port.1) ≡ told_at s w k r
told_there s w k r link clock at port e f is g told =
    ap (λ (x : ℕ × ℕ). Some (departure_by x.0 at x.1)) is
    ∙ sym (there_by s w k r link clock at e f (g ∙ ap (λ (x : ℕ × ℕ). reading w x.0) is)
    ∙ ap (λ (b : Bool). if b then Some (departure_by (end_of r link).node at (end_of r link).port) else None) told)

pub untold_there : (s : Setting) (w : WorldAt) (k : ℕ) (r : Role) (link : LinkCfg) (clock : Clock) (at : ℤ) (port : ℕ × ℕ) → link_of s k ≡ Some link → clock ≡ s.cfg.clock →
    port ≡ ((end_of r link).node, (end_of r link).port) → at ≡ reading w port.0 → is_within clock at ≡ false → None ≡ told_at s w k r
untold_there s w k r link clock at port e f is g told =
    sym (there_by s w k r link clock at e f (g ∙ ap (λ (x : ℕ × ℕ). reading w x.0) is)
    ∙ ap (λ (b : Bool). if b then Some (departure_by (end_of r link).node at (end_of r link).port) else None) told)

-- if something holds for each of two ports that is there, it holds for the one that comes first

one_of : (P : Departure → Type 0) (a b : Departure) (first : Bool) → P a → P b → IfSome (if first then Some b else Some a) P
one_of P a b true h k = k
one_of P a b false h k = h

both_of : (P : Departure → Type 0) (a b : Option Departure) → IfSome a P → IfSome b P → IfSome (first_of_two a b) P
both_of P None b h k = k
both_of P (Some a) None h k = h
both_of P (Some a) (Some b) h k = one_of P a b (nat_lt (standing b) (standing a)) h k

pub of_both : (P : Departure → Type 0) (a b first : Option Departure) → first ≡ first_of_two a b → IfSome a P → IfSome b P → IfSome first P
of_both P a b first e h k = subst (λ o. IfSome o P) (sym e) (both_of P a b h k)

-- its frame departs
pub departs_then : (s : Setting) (w : WorldAt) (at : SimAt) (o : Option (ℕ × ℕ)) (from : Departure) → Some from ≡ option_map (departure_from w) o →
    option_and_then (departs_from s w at) o
    ≡ comes (Depart from.node from.port (drawn_stamp (stamp_room s from.node) from.at at.state)) (after_draw at)
departs_then s w at None from e = absurd (none-some from (sym e))
departs_then s w at (Some port) from e =
    sym (ap (λ (d : Departure). comes (Depart d.node d.port (drawn_stamp (stamp_room s d.node) d.at at.state)) (after_draw at)) (same_Some from (departure_from w port) e))

pub departs_none : (s : Setting) (w : WorldAt) (at : SimAt) (o : Option (ℕ × ℕ)) → None ≡ option_map (departure_from w) o → option_and_then (departs_from s w at) o ≡ None
departs_none s w at None e = refl
departs_none s w at (Some port) e = absurd (none-some (departure_from w port) e)
