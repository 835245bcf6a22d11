-- If no frame is lost and none comes twice, the simulator hands a frame over right after its arrival.
use Rattle.std.proofs.Common.{◌≡◌, ◌∙◌, refl, ap, ap₂, sym, ℕ, ◌%◌, ℤ, pos, ◌+ℤ◌, Bool, false, List, ◌∷◌, find, Option, None, Some, option_and_then, arith}
use Rattle.std.proofs.lemmas.Int.{ints}
use Rattle.std.proofs.lemmas.Option.{none-some}
use Rattle.std.specs.Int.Signed.{lt_z}
use Rattle.wrp_base.specs.declared.time.Raw.{Raw}
use Rattle.wrp_course.specs.declared.event.Event.TheVariants.{Arrive, Deliver}
use Rattle.wrp_course.specs.Moved.{moved}
use Rattle.wrp_course.specs.Setting.{Setting}
use Rattle.wrp_course.specs.WorldAt.{WorldAt}
use Rattle.wrp_scene.specs.Scenario.{SceneAt}
use Rattle.wrp_sim.specs.Draws.{drawn, next_state}
use Rattle.wrp_sim.specs.Numbers.{is_drawn}
use Rattle.wrp_sim.specs.Rules.{Next, after_arrival, after_draw, begins, departs, departs_from, departs_now, drawn_times, fails, first_of, later_rules, next_of, ports_of, rest_of, times_of}
use Rattle.wrp_sim.specs.SimAt.{SimAt}
use Rattle.wrp_sim.proofs.KeepsStart.{quiet_rest}
use Rattle.wrp_sim.proofs.KeepsState.{AllQuiet}
use Rattle.wrp_lossless_laws.proofs.Owing.{handing, owing, paid}
use Rattle.wrp_lossless_laws.proofs.Settling.{later_next, none_begun, quiet_fails, quiet_stays}

-- What is drawn

-- a chance of 0 in 1000 never comes
not_below : (n : ℕ) → lt_z (pos 0 +ℤ pos n) (pos 0) ≡ false
not_below n = grind (arith, ints)

never : (state : ℕ) → is_drawn 0 state ≡ false
never state = not_below (drawn state % 1_000)

pub once : (scene : SceneAt) (state : ℕ) → scene.loss ≡ 0 → scene.repeat ≡ 0 → drawn_times scene state ≡ 1
once scene state loss repeat =
    ap₂ (λ (lost more : Bool). times_of lost more)
    (ap (λ (permille : ℕ). is_drawn permille state) loss ∙ never state)
    (ap (λ (permille : ℕ). is_drawn permille (next_state state)) repeat ∙ never (next_state state))

-- After an arrival

-- the state of the simulator then, except for the frame that arrived
abbrev pub arrived_at : Setting → WorldAt → SimAt → SimAt
arrived_at s w at = after_draw (after_draw (rest_of s w at))

pub owes_then : (scene : SceneAt) (s : Setting) (w : WorldAt) (at : SimAt) (i : ℕ) → scene.loss ≡ 0 → scene.repeat ≡ 0 →
    record (after_arrival scene i (rest_of s w at)) { ticked = None } ≡ owing i (arrived_at s w at)
owes_then scene s w at i loss repeat =
    ap (λ (times : ℕ). record (arrived_at s w at) { ticked = None; arrived = handing i times }) (once scene at.state loss repeat)

-- a port that had nothing to send has nothing to send then
none_departs : (s : Setting) (w v : WorldAt) (at now : SimAt) (o : Option (ℕ × ℕ)) → option_and_then (departs_from s w at) o ≡ None →
    option_and_then (departs_from s v now) o ≡ None
none_departs s w v at now None e = refl
none_departs s w v at now (Some port) e = absurd (none-some _ (sym e))

-- the frame is handed over next
pub hands_next : (scene : SceneAt) (s : Setting) (w : WorldAt) (due : Option (ℕ × ℤ)) (at : SimAt) (i : ℕ) (raw : Raw) → begins scene s w at ≡ None →
    fails scene s w at ≡ None → departs s w (rest_of s w at) ≡ None →
    next_of scene s (moved s w (Arrive i raw)) due (owing i (arrived_at s w at)) ≡ Some (record { event = Deliver i; at = paid i (arrived_at s w at) })
hands_next scene s w due at i raw begun fault stays =
    let v : WorldAt = moved s w (Arrive i raw) in
    let now : SimAt = owing i (arrived_at s w at) in
    let quiet : AllQuiet s w.time (rest_of s w at).faults = quiet_rest scene s w at fault in
    let none : departs s v now ≡ None = none_departs s w v (rest_of s w at) now (find (departs_now s w) (ports_of s)) stays in
    later_next scene s v due now (none_begun scene s w v at now begun refl) (quiet_fails scene s v now quiet)
    ∙ ap (λ (a : SimAt). first_of (later_rules scene s v due a)) (quiet_stays s v now quiet)
    ∙ hands_first (departs s v now) _ _ none
  where
    hands_first : (o : Option Next) (e : Next) (rules : List (Option Next)) → o ≡ None → first_of (None ∷ (o ∷ (Some e ∷ rules))) ≡ Some e
    hands_first o e rules none = ap (λ (p : Option Next). first_of (None ∷ (p ∷ (Some e ∷ rules)))) none
