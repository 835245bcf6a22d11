-- The checks of rates hold, if clocks drift by their rates and fibres do not move.
use Rattle.std.proofs.Common.{◌≡◌, refl, sym, subst, ℕ, zero, suc, ◌+◌, ◌*◌, ◌≤◌, ℤ, pos, ◌-ℤ◌, ◌*ℤ◌, ◌≤ℤ◌, unsigned_abs, Bool, true, false, if◌then◌else◌, List, map, Option, None, Some, slice_get, length, arith}
use Rattle.std.proofs.lemmas.Int.{ints}
use Rattle.std.specs.Option.{option_map_or}
use Rattle.wrp_base.specs.Held.{held_within}
use Rattle.wrp_network.specs.Network.{node_count}
use Rattle.wrp_base.specs.Ranges.{IsFromTo}
use Rattle.wrp_node.specs.declared.interface.NodeSet.{NodeSet}
use Rattle.wrp_node.specs.NodeAt.{dac_of}
use Rattle.wrp_course.specs.Checks.{AllHold}
use Rattle.wrp_course.specs.EventAt.{IsChange}
use Rattle.wrp_course.specs.Moved.{drift_of, move_of}
use Rattle.wrp_course.specs.Premises.{fibre_rate, parts, rate_checks, rate_kept, rate_of, rate_of_fibre}
use Rattle.wrp_course.specs.Runs.{IsNetwork}
use Rattle.wrp_course.specs.Setting.{Setting, node_setting_of, from_on, links_of, nodes_of}
use Rattle.wrp_course.specs.WorldAt.{WorldAt}
use Rattle.wrp_sim.specs.Numbers.{drift_at, held_to}
use Rattle.wrp_sim.specs.Rules.{clock_rate, drift_over}
use Rattle.wrp_scene.specs.Scenario.{IsFree, IsSceneOf, SceneAt, free_of}
use Rattle.wrp_sim.proofs.KeepsDac.{dac_small}
use Rattle.wrp_sim.proofs.KeepsNumbers.{drift_within, held_less, held_most}
use Rattle.wrp_sim.proofs.KeepsChecks.{listed_at, not_more}

-- Drifts

nothing_times : (n : ℕ) → unsigned_abs (pos 0) * parts ≤ n
nothing_times n = omega arith

still_rate : (dt : ℤ) (o : Option ℕ) → AllHold (rate_checks (pos 0) dt o)
still_rate dt None = tt
still_rate dt (Some rate) = (not_more (unsigned_abs (pos 0) * parts) (rate * unsigned_abs dt) (nothing_times (rate * unsigned_abs dt)), tt)

held_rate : (dt rate : ℤ) (o : Option ℕ) → AllHold (rate_checks (drift_at dt (held_to o rate)) dt o)
held_rate dt rate None = tt
held_rate dt rate (Some most) = (
  not_more (unsigned_abs (drift_at dt (held_within (pos most) rate)) * parts) (most * unsigned_abs dt)
      (drift_within dt (held_within (pos most) rate) most (held_most most rate)),
  tt,
)

drift_where : (P : ℤ → Type 0) (b : Bool) (x : ℤ) → P x → P (pos 0) → P (if b then x else pos 0)
drift_where P true x h k = h
drift_where P false x h k = k

-- what holds for a node's drift, and for 0, holds for the drift that is listed for the node
got_by : (P : ℤ → Type 0) (f : ℕ → ℤ) (count first i : ℕ) → P (pos 0) → P (f (first + i)) → P (option_map_or (λ x. x) (slice_get (map f (from_on count first)) i) (pos 0))
got_by P f zero first i h k = h
got_by P f (suc count) first zero h k = subst (λ j. P (f j)) (let e : first + zero ≡ first = omega arith in e) k
got_by P f (suc count) first (suc i) h k = got_by P f count (first + 1) i h (subst (λ j. P (f j)) (let e : first + suc i ≡ (first + 1) + i = omega arith in e) k)

pub drift_got : (P : ℤ → Type 0) (f : ℕ → ℤ) (s : Setting) (n : ℕ) → P (pos 0) → P (f n) → P (drift_of (map f (nodes_of s)) n)
drift_got P f s n h k = got_by P f (node_count s.cfg) 0 n h (subst (λ j. P (f j)) (let e : n ≡ 0 + n = omega arith in e) k)

pub rate_holds : (scene : SceneAt) (s : Setting) (w : WorldAt) (dt : ℤ) (n : ℕ) → AllHold (rate_kept s w dt (map (drift_over scene s w dt) (nodes_of s)) n)
rate_holds scene s w dt n =
    drift_got (λ x. AllHold (rate_checks x dt (rate_of s w n))) (drift_over scene s w dt) s n (still_rate dt (rate_of s w n))
    (drift_where (λ x. AllHold (rate_checks x dt (rate_of s w n))) (w.clock n).up (drift_at dt (clock_rate scene s w n))
    (held_rate dt (free_of scene n -ℤ (pos 10 *ℤ (pos (dac_of (node_setting_of s n) (w.node n)) -ℤ s.cfg.bias))) (rate_of s w n)) (still_rate dt (rate_of s w n)))

no_move : (moves : List (ℤ × ℤ)) (k : ℕ) → move_of moves k ≡ (pos 0, pos 0) → (dt : ℤ) → AllHold (fibre_rate dt moves k)
no_move moves k e dt =
    subst (λ (m : ℤ × ℤ). AllHold (rate_of_fibre dt m)) (sym e) (
      not_more (unsigned_abs (pos 0) * parts) (2 * unsigned_abs dt) (nothing_times (2 * unsigned_abs dt)),
      (not_more (unsigned_abs (pos 0) * parts) (2 * unsigned_abs dt) (nothing_times (2 * unsigned_abs dt)), tt),
    )

still_got : (count first i : ℕ) → option_map_or (λ (m : ℤ × ℤ). m) (slice_get (map (λ (k : ℕ). (pos 0, pos 0)) (from_on count first)) i) (pos 0, pos 0) ≡ (pos 0, pos 0)
still_got zero first i = refl
still_got (suc count) first zero = refl
still_got (suc count) first (suc i) = still_got count (first + 1) i

pub still_fibres : (s : Setting) (k : ℕ) → move_of (map (λ (l : ℕ). (pos 0, pos 0)) (links_of s)) k ≡ (pos 0, pos 0)
still_fibres s k = still_got (length s.cfg.links.items) 0 k

pub fibres_hold : (s : Setting) (dt : ℤ) (k : ℕ) → AllHold (fibre_rate dt (map (λ (l : ℕ). (pos 0, pos 0)) (links_of s)) k)
fibres_hold s dt k = no_move (map (λ (l : ℕ). (pos 0, pos 0)) (links_of s)) k (still_fibres s k) dt

-- drifts in the range of a line

size_of_bias : (bias : ℤ) → pos 0 ≤ℤ bias → bias ≤ℤ pos 65535 → unsigned_abs bias ≤ 65535
size_of_bias bias h k = grind (arith, ints)

rate_small : (free bias : ℤ) (dac : ℕ) → unsigned_abs free ≤ 100_000 → dac ≤ 65535 → pos 0 ≤ℤ bias → bias ≤ℤ pos 65535 → unsigned_abs (free -ℤ (pos 10 *ℤ (pos dac -ℤ bias))) ≤ 1_000_000
rate_small free bias dac h k l m = grind (arith, ints)

held_small : (o : Option ℕ) (rate : ℤ) → unsigned_abs rate ≤ 1_000_000 → unsigned_abs (held_to o rate) ≤ 1_000_000
held_small None rate h = h
held_small (Some most) rate h = let k : unsigned_abs (held_within (pos most) rate) ≤ unsigned_abs rate = held_less most rate in omega (arith, h, k)

change_small : (drift dt : ℤ) → unsigned_abs drift * 1_000_000_000_000 ≤ 1_000_000 * unsigned_abs dt → unsigned_abs dt ≤ 9_223_372_036_854_775_807 → IsChange drift
change_small drift dt h k = omega (arith, h, k)

no_change : IsChange (pos 0)
no_change = omega arith

pub drift_small : (scene : SceneAt) (s : Setting) → IsNetwork s → IsSceneOf s.cfg scene → (w : WorldAt) (dt : ℤ) → unsigned_abs dt ≤ 9_223_372_036_854_775_807 → (n : ℕ) → IsChange (drift_over scene s w dt n)
drift_small scene s net fits w dt short n =
    let bias : IsFromTo 0 65_535 s.cfg.bias = net.accepted.ranges.bias in
    let set : (s.set n).servo.bias ≤ 65535 = subst (λ (x : NodeSet). x.servo.bias ≤ 65535) (sym (net.set n)) (size_of_bias s.cfg.bias bias.0 bias.1) in
    let free : unsigned_abs (free_of scene n) ≤ 100_000 = listed_at IsFree scene.frees n (pos 0) (omega arith) fits.free in
    let rate : unsigned_abs (clock_rate scene s w n) ≤ 1_000_000 =
    held_small (rate_of s w n) (free_of scene n -ℤ (pos 10 *ℤ (pos (dac_of (node_setting_of s n) (w.node n)) -ℤ s.cfg.bias)))
    (rate_small (free_of scene n) s.cfg.bias (dac_of (node_setting_of s n) (w.node n)) free (dac_small (node_setting_of s n) (w.node n) set) bias.0 bias.1) in
    drift_where IsChange (w.clock n).up (drift_at dt (clock_rate scene s w n))
    (change_small (drift_at dt (clock_rate scene s w n)) dt (drift_within dt (clock_rate scene s w n) 1_000_000 rate) short) no_change
