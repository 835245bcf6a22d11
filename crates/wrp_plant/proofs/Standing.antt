-- The parts of a plant are the parts of the state that it stands for.
use Rattle.std.proofs.Common.{◌≡◌, ◌∙◌, refl, ap, ap₂, sym, subst, ℕ, ℤ, pos, ◌+ℤ◌, ◌&&◌, Bool, true, false, if◌then◌else◌, Option, None, Some}
use Rattle.wrp_network.specs.declared.network.LinkCfg.{LinkCfg}
use Rattle.wrp_base.specs.declared.link.Role.{Role}
use Rattle.wrp_base.specs.declared.link.Role.TheVariants.{Master, Slave}
use Rattle.wrp_bounds.specs.Times.{shortest_tick, longest_tick}
use Rattle.wrp_course.specs.declared.clocks.ClockState.{ClockState}
use Rattle.wrp_plant.specs.declared.ends.Span.{Span}
use Rattle.wrp_course.specs.declared.fibres.FibreState.{FibreState}
use Rattle.wrp_plant.specs.Plant.{SpanIs, EndIs, down_in, end_in}
use Rattle.wrp_course.specs.Setting.{Setting}
use Rattle.wrp_course.specs.Views.{tick_due}
use Rattle.wrp_course.specs.WorldAt.{WorldAt, delay_from, ends_are_up}

-- the true one-way delay down
pub down_told : (w : WorldAt) (k : ℕ) (span : Span) → SpanIs w k span → down_in span ≡ delay_from w k Master
down_told w k span h =
    ap₂ (λ x y. x +ℤ pos y) (ap₂ (λ x f. pos x +ℤ f) h.master.tx (ap (λ (f : FibreState). f.ms) h.fibre)) h.slave.rx

pub up_told : (clock : ℕ → ClockState) (o : Option LinkCfg) (link : LinkCfg) (a b : Bool) → o ≡ Some link →
    a ≡ (clock link.upper).up → b ≡ (clock link.lower).up → (a && b) ≡ ends_are_up clock o
up_told clock o link a b e f g = ap₂ (λ x y. x && y) f g ∙ sym (ap (ends_are_up clock) e)

-- the end with this role
pub end_told : (w : WorldAt) (k : ℕ) (span : Span) (role : Role) → SpanIs w k span → EndIs (w.end_at k role) (end_in span role)
end_told w k span Master h = h.master
end_told w k span Slave h = h.slave

-- when a node may tick next
pub due_up : (s : Setting) (w : WorldAt) (n : ℕ) (clock : ClockState) (a b : ℤ) → clock ≡ w.clock n → clock.up ≡ true →
    a ≡ clock.ticked +ℤ pos (shortest_tick s.cfg) → b ≡ clock.ticked +ℤ pos (longest_tick s.cfg) → Some (a, b) ≡ tick_due s w n
due_up s w n clock a b k up e f =
    subst (λ (c : ClockState). ◌≡◌ {A = Option (ℤ × ℤ)} (Some (a, b)) (if c.up then Some (c.ticked +ℤ pos (shortest_tick s.cfg), c.ticked +ℤ pos (longest_tick s.cfg)) else None)) k
    (rw up (ap₂ (λ x y. Some (x, y)) e f))

pub due_down : (s : Setting) (w : WorldAt) (n : ℕ) (clock : ClockState) → clock ≡ w.clock n → clock.up ≡ false → None ≡ tick_due s w n
due_down s w n clock k down =
    subst (λ (c : ClockState). ◌≡◌ {A = Option (ℤ × ℤ)} None (if c.up then Some (c.ticked +ℤ pos (shortest_tick s.cfg), c.ticked +ℤ pos (longest_tick s.cfg)) else None)) k
    (rw down refl)
