-- How far a clock with this steering moves, or a clock whose node is down.
use Rattle.std.proofs.Common.{◌≡◌, ◌∙◌, ap, sym, ℕ, ℤ, pos, Bool, true, false, if◌then◌else◌, None, Some}
use Rattle.std.proofs.lemmas.Option.{none-some, same_Some}
use Rattle.wrp_course.specs.Setting.{Setting}
use Rattle.wrp_course.specs.WorldAt.{WorldAt}
use Rattle.wrp_scene.specs.Scenario.{SceneAt, free_of}
use Rattle.wrp_world.specs.declared.steer.Steer.{Steer}
use Rattle.wrp_world.specs.Steered.{steering_in, steering_of}
use Rattle.wrp_sim.specs.Numbers.{drift_at, held_to, own_rate}
use Rattle.wrp_sim.specs.Rules.{clock_rate, drift_over}

-- the rate of a clock with this steering
abbrev pub rate_by : SceneAt → Setting → ℕ → Steer → ℤ
rate_by scene s n it = held_to it.kept (own_rate (free_of scene n) it.dac s.cfg.bias)

up_moves : (up : Bool) (rate : Steer → ℤ) (dt r : ℤ) (it x : Steer) → Some it ≡ (if up then Some x else None) → r ≡ drift_at dt (rate it) →
    r ≡ (if up then drift_at dt (rate x) else pos 0)
up_moves true rate dt r it x e f = f ∙ ap (λ (y : Steer). drift_at dt (rate y)) (same_Some it x e)
up_moves false rate dt r it x e f = absurd (none-some it (sym e))

down_stays : (up : Bool) (moved : ℤ) (x : Steer) → None ≡ (if up then Some x else None) → pos 0 ≡ (if up then moved else pos 0)
down_stays true moved x e = absurd (none-some x e)
down_stays false moved x e = λ i. pos 0

pub steered_moves : (scene : SceneAt) (s : Setting) (w : WorldAt) (dt r : ℤ) (n : ℕ) (it : Steer) → Some it ≡ steering_of s w n →
    r ≡ drift_at dt (rate_by scene s n it) → r ≡ drift_over scene s w dt n
steered_moves scene s w dt r n it e f = up_moves (w.clock n).up (rate_by scene s n) dt r it (steering_in s w n) e f

pub down_over : (scene : SceneAt) (s : Setting) (w : WorldAt) (dt : ℤ) (n : ℕ) → None ≡ steering_of s w n → pos 0 ≡ drift_over scene s w dt n
down_over scene s w dt n e = down_stays (w.clock n).up (drift_at dt (clock_rate scene s w n)) (steering_in s w n) e
