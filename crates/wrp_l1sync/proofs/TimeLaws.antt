-- What the premises keep of the times of an end: its last tick or enabling is past, and at most dmax ago while it is enabled.
use Rattle.std.proofs.Common.{◌≡◌, subst, refl, ℕ, ◌+◌, ◌≤◌, not, Bool, true, false, if◌then◌else◌, List, [], ◌∷◌, Option, None, Some, arith}
use Rattle.wrp_l1sync.specs.declared.event.L1Event.{L1Event}
use Rattle.wrp_l1sync.specs.declared.event.L1Event.TheVariants.{Pass}
use Rattle.wrp_l1sync.specs.declared.event.Limits.{Limits}
use Rattle.wrp_l1sync.specs.declared.event.Side.{Side}
use Rattle.wrp_l1sync.specs.declared.event.Side.TheVariants.{A, B}
use Rattle.wrp_l1sync.specs.declared.interface.L1In.{L1In}
use Rattle.wrp_l1sync.specs.declared.interface.L1In.TheVariants as given
use Rattle.wrp_l1sync.specs.Inputs.{is_enabled}
use Rattle.wrp_l1sync.specs.Pair.{AreAccepted, History, Timed, breach_of, elapsed, grown, handed, handing_of, history, input_to, inputs_of, last_of, with_input}
use Rattle.wrp_l1sync.specs.Premises.{IsInTime}
use Rattle.wrp_l1sync.proofs.PremiseLaws.{events_are_taken_exactly}

-- what an end was handed, with one more event
pub grown_to : (interval : ℕ) (h : History) (event : L1Event) (side : Side) →
    with_input h.time (handed side h) (input_to side (handing_of h.sent event)) ≡ handed side (grown interval h event)
grown_to interval h event A = refl
grown_to interval h event B = refl

-- the last tick or enabling of an end is past, and its next tick is not late
pub record Recent (limits : Limits) (now : ℕ) (timed : List Timed) : Type 0 where
  pub past : last_of timed ≤ now
  pub due : IsInTime limits now timed

recent_tick : (limits : Limits) (now : ℕ) (timed : List Timed) (b : Bool) → is_enabled (inputs_of timed) ≡ b → Recent limits now timed →
    ((if b then now else last_of timed) ≤ now)
    × (is_enabled (inputs_of timed) ≡ true → now ≤ (if b then now else last_of timed) + limits.dmax)
recent_tick limits now timed true is r = (omega arith, λ on. omega arith)
recent_tick limits now timed false is r = (r.past, r.due)

recent_enable : (limits : Limits) (now : ℕ) (timed : List Timed) (b : Bool) → is_enabled (inputs_of timed) ≡ b → Recent limits now timed →
    ((if not b then now else last_of timed) ≤ now) × (now ≤ (if not b then now else last_of timed) + limits.dmax)
recent_enable limits now timed true is r = (r.past, r.due is)
recent_enable limits now timed false is r = (omega arith, omega arith)

recent_input : (limits : Limits) (now : ℕ) (timed : List Timed) (input : L1In) → Recent limits now timed →
    Recent limits now (record { at = now; input = input } ∷ timed)
recent_input limits now timed given.Tick r =
    let both = recent_tick limits now timed (is_enabled (inputs_of timed)) refl r in
    record { past = both.0; due = both.1 }
recent_input limits now timed given.Enable r =
    let both = recent_enable limits now timed (is_enabled (inputs_of timed)) refl r in
    record { past = both.0; due = λ on. both.1 }
recent_input limits now timed given.Disable r = record { past = r.past; due = λ on. absurd cc }
recent_input limits now timed (given.Own message) r = record { past = r.past; due = r.due }
recent_input limits now timed (given.Msg message) r = record { past = r.past; due = r.due }

recent_if : (limits : Limits) (now : ℕ) (timed : List Timed) (o : Option L1In) → Recent limits now timed → Recent limits now (with_input now timed o)
recent_if limits now timed None r = r
recent_if limits now timed (Some input) r = recent_input limits now timed input r

recent_event : (limits : Limits) (h : History) (side : Side) (event : L1Event) → breach_of limits h event ≡ None → Recent limits h.time (handed side h) →
    Recent limits (h.time + elapsed event) (with_input h.time (handed side h) (input_to side (handing_of h.sent event)))
recent_event limits h side (Pass dt) none r = record {
  past = let past : last_of (handed side h) ≤ h.time = r.past in omega arith;
  due = (events_are_taken_exactly limits h (Pass dt)).0 none side;
}
recent_event limits h side event none r =
    let timed : List Timed = with_input h.time (handed side h) (input_to side (handing_of h.sent event)) in
    let still : h.time ≡ h.time + 0 = omega arith in
    subst (λ (now : ℕ). Recent limits now timed) still (recent_if limits h.time (handed side h) (input_to side (handing_of h.sent event)) r)

-- after every list of accepted events, at either end
pub recent : (limits : Limits) (events : List L1Event) (side : Side) → AreAccepted limits events →
    Recent limits (history limits.interval events).time (handed side (history limits.interval events))
recent limits [] A accepted = record { past = omega arith; due = λ on. absurd cc }
recent limits [] B accepted = record { past = omega arith; due = λ on. absurd cc }
recent limits (event ∷ before) side accepted =
    let h : History = history limits.interval before in
    subst (λ (timed : List Timed). Recent limits (h.time + elapsed event) timed) (grown_to limits.interval h event side)
    (recent_event limits h side event accepted.0 (recent limits before side accepted.1))
