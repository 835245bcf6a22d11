-- An event that breaks no premise keeps all three, and one that keeps them breaks none.
use Rattle.std.proofs.Common.{◌≡◌, refl, ap, ◌∙◌, ℕ, ◌+◌, ◌-◌, ◌&&◌, ◌≤◌, unsigned_abs, nat_lt, Bool, true, false, cond, List, length, Option, None, Some, arith}
use Rattle.std.specs.Option.{option_or}
use Rattle.wrp_l1sync.specs.declared.event.L1Event.TheVariants.{Pass, Tick, Enable, Disable, Own, Deliver}
use Rattle.wrp_l1sync.specs.declared.event.Limits.{Limits}
use Rattle.wrp_l1sync.specs.declared.event.Sent.{Sent}
use Rattle.wrp_l1sync.specs.declared.event.Side.{Side}
use Rattle.wrp_l1sync.specs.declared.event.Side.TheVariants.{A, B}
use Rattle.wrp_l1sync.specs.Inputs.{is_enabled}
use Rattle.wrp_l1sync.specs.Pair.{History, Timed, delivery_breach, handed, inputs_of, is_side, last_of, late_by, not_sent, other, sent_at, side_of, too_old}
use Rattle.wrp_l1sync.specs.Premises.{EventsAreTakenExactly, IsInTime, WasSent}

-- nothing is reported only if a test fails
from_none : {X : Type 0} (b : Bool) (x : X) → cond b (Some x) None ≡ None → b ≡ false
from_none true x e = absurd (cc e)
from_none false x e = refl

to_none : {X : Type 0} (b : Bool) (x : X) → b ≡ false → cond b (Some x) None ≡ None
to_none true x e = absurd (cc e)
to_none false x e = refl

both_none : {X : Type 0} (a b : Option X) → option_or a b ≡ None → (a ≡ None) × (b ≡ None)
both_none None b e = (refl, e)
both_none (Some x) b e = absurd (cc e)

-- ---- time

in_time : (dmax time last : ℕ) (enabled : Bool) → (enabled && nat_lt dmax (time - last)) ≡ false → enabled ≡ true → time ≤ last + dmax
in_time dmax time last true e is = grind (arith)
in_time dmax time last false e is = absurd (cc is)

not_late : (dmax time last : ℕ) (enabled : Bool) → (enabled ≡ true → time ≤ last + dmax) → (enabled && nat_lt dmax (time - last)) ≡ false
not_late dmax time last true h = let within : time ≤ last + dmax = h refl in grind (arith, within)
not_late dmax time last false h = refl

end_in_time : (limits : Limits) (time : ℕ) (timed : List Timed) → late_by limits.dmax time (is_enabled (inputs_of timed)) (last_of timed) ≡ None →
    IsInTime limits time timed
end_in_time limits time timed e = in_time limits.dmax time (last_of timed) (is_enabled (inputs_of timed)) (from_none _ _ e)

end_not_late : (limits : Limits) (time : ℕ) (timed : List Timed) → IsInTime limits time timed →
    late_by limits.dmax time (is_enabled (inputs_of timed)) (last_of timed) ≡ None
end_not_late limits time timed h = to_none _ _ (not_late limits.dmax time (last_of timed) (is_enabled (inputs_of timed)) h)

on_side : (h : History) (limits : Limits) (time : ℕ) → IsInTime limits time h.a → IsInTime limits time h.b → (side : Side) → IsInTime limits time (handed side h)
on_side h limits time a b A = a
on_side h limits time a b B = b

-- ---- messages

the_other : (by to : Side) → is_side by to ≡ false → by ≡ other to
the_other A A e = absurd (cc e)
the_other A B e = refl
the_other B A e = refl
the_other B B e = absurd (cc e)

no_side : (to : Side) → is_side (other to) to ≡ false
no_side A = refl
no_side B = refl

not_less : (life now at : ℕ) → nat_lt life (now - at) ≡ false → now ≤ at + life
not_less life now at e = grind (arith)

not_more : (life now at : ℕ) → now ≤ at + life → nat_lt life (now - at) ≡ false
not_more life now at h = grind (arith)

-- past a refusal that does not come
past : {X : Type 0} (b : Bool) (x : X) (rest : Option X) → cond b (Some x) rest ≡ None → (b ≡ false) × (rest ≡ None)
past true x rest e = absurd (cc e)
past false x rest e = (refl, e)

onward : {X : Type 0} (b : Bool) (x : X) (rest : Option X) → b ≡ false → rest ≡ None → cond b (Some x) rest ≡ None
onward true x rest e none = absurd (cc e)
onward false x rest e none = none

was_sent : (limits : Limits) (h : History) (to : Side) (k : ℕ) (found : Option Sent) → sent_at h.sent k ≡ found →
    delivery_breach limits.life h.time to k (length h.sent) found ≡ None → WasSent limits h to k
was_sent limits h to k None at e = absurd (cc e)
was_sent limits h to k (Some sent) at e =
    let tests = past (is_side sent.by to) (not_sent k (length h.sent)) (too_old limits.life (h.time - sent.at)) e in
    record {
      message = sent;
      numbered = at;
      by_other = the_other sent.by to tests.0;
      young = not_less limits.life h.time sent.at (from_none _ _ tests.1);
    }

may_come : (limits : Limits) (h : History) (to : Side) (k : ℕ) → WasSent limits h to k →
    delivery_breach limits.life h.time to k (length h.sent) (sent_at h.sent k) ≡ None
may_come limits h to k was =
    let side : is_side was.message.by to ≡ false = ap (λ by. is_side by to) was.by_other ∙ no_side to in
    rw was.numbered
    (onward (is_side was.message.by to) (not_sent k (length h.sent)) (too_old limits.life (h.time - was.message.at)) side
    (to_none _ _ (not_more limits.life h.time was.message.at was.young)))

pub events_are_taken_exactly : EventsAreTakenExactly
events_are_taken_exactly limits h (Pass dt) =
    let time = h.time + unsigned_abs dt in
    let late = λ (timed : List Timed). late_by limits.dmax time (is_enabled (inputs_of timed)) (last_of timed) in (
      λ e. let tests = both_none (late h.a) (late h.b) e in
          on_side h limits time (end_in_time limits time h.a tests.0) (end_in_time limits time h.b tests.1),
      λ keeps. rw (end_not_late limits time h.a (keeps A)) (end_not_late limits time h.b (keeps B)),
    )
events_are_taken_exactly limits h (Tick number) = (λ e. tt, λ keeps. refl)
events_are_taken_exactly limits h (Enable number) = (λ e. tt, λ keeps. refl)
events_are_taken_exactly limits h (Disable number) = (λ e. tt, λ keeps. refl)
events_are_taken_exactly limits h (Own number message) = (λ e. tt, λ keeps. refl)
events_are_taken_exactly limits h (Deliver number k) =
    (λ e. was_sent limits h (side_of number) k (sent_at h.sent k) refl e, λ keeps. may_come limits h (side_of number) k keeps)
