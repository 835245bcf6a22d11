-- The rule of samples.
use Rattle.std.proofs.Common.{◌≡◌, refl, sym, subst, ℕ, ◌+◌, ◌≤◌, ◌<◌, ℤ, pos, neg_ℤ, ◌+ℤ◌, ◌-ℤ◌, ◌≤ℤ◌, unsigned_abs, true, [], ◌∷◌, map, None, Some, arith}
use Rattle.std.proofs.lemmas.Int.{ints}
use Rattle.std.specs.Option.{option_and_then, option_map_or}
use Rattle.std.proofs.lemmas.Option.{none-some}
use Rattle.wrp_base.specs.declared.link.Role.TheVariants.{Master, Slave}
use Rattle.wrp_network.specs.declared.network.LinkCfg.{LinkCfg}
use Rattle.wrp_network.specs.Network.{node_count}
use Rattle.wrp_base.proofs.Integers.{le_plus}
use Rattle.wrp_base.proofs.Naturals.{nat_le_self}
use Rattle.wrp_course.specs.Checks.{AllHold, only_where, needs}
use Rattle.wrp_course.specs.Premises.{beat_by, beat_checks, sample_checks}
use Rattle.wrp_course.specs.Setting.{Setting, above, link_of, of_node}
use Rattle.wrp_course.specs.WorldAt.{WorldAt, delay_from, has_carrier}
use Rattle.wrp_sim.specs.Draws.{drawn, drawn_from}
use Rattle.wrp_sim.specs.Numbers.{base_before, bits_behind, drawn_zeros}
use Rattle.wrp_sim.specs.Rules.{after_draw, comes, delay_down, first_entry, sample_below, sample_of, samples, step_below}
use Rattle.wrp_scene.specs.Scenario.{SceneAt, ms_of}
use Rattle.wrp_sim.specs.SimAt.{SimAt}
use Rattle.wrp_sim.proofs.KeepsChecks.{beat_holds, both_hold, of_node_within, stands_holds, where_hold}
use Rattle.wrp_sim.proofs.KeepsGood.{GoodIf, Moment, carried, good, if_good, then_good}
use Rattle.wrp_sim.proofs.KeepsNumbers.{drawn_most}
use Rattle.wrp_sim.proofs.KeepsState.{Keeps, step_hands}
use Rattle.wrp_sim.proofs.KeepsStamps.{even_ends}

-- the delay down is the scenario's, with the delays of the first modules
delay_is : (scene : SceneAt) (s : Setting) (w : WorldAt) (at : SimAt) (k : ℕ) → Keeps scene s w at → (w.fibre k).joined ≡ true → delay_from w k Master ≡ delay_down scene s k
delay_is scene s w at k h joined =
    let tx : (w.end_at k Master).tx ≡ option_map_or (λ m. m.tx) (first_entry s k Master) 0 = (h.modules k Master).tx in
    let rx : (w.end_at k Slave).rx ≡ option_map_or (λ m. m.rx) (first_entry s k Slave) 0 = (h.modules k Slave).rx in
    let ms : (w.fibre k).ms ≡ ms_of s.cfg scene k = (h.fibres k joined).0 in
    λ i. (pos (tx i) +ℤ ms i) +ℤ pos (rx i)

zeros_in : (beat : ℕ) (d : ℤ) → beat ≤ 24 → neg_ℤ (pos beat) ≤ℤ d → d ≤ℤ pos beat → (unsigned_abs (pos 32 +ℤ d) ≤ 64) × (32 ≤ unsigned_abs (pos 32 +ℤ d) + beat) × (unsigned_abs (pos 32 +ℤ d) ≤ 32 + beat)
zeros_in beat d small least most = (grind (arith, ints), grind (arith, ints), grind (arith, ints))

pub zeros_fit : (beat state : ℕ) → beat ≤ 24 → (drawn_zeros beat state ≤ 64) × (32 ≤ drawn_zeros beat state + beat) × (drawn_zeros beat state ≤ 32 + beat)
zeros_fit beat state small =
    zeros_in beat (drawn_from (neg_ℤ (pos beat)) (pos beat) state) small (le_plus (neg_ℤ (pos beat)) _) (drawn_most (neg_ℤ (pos beat)) (pos beat) (drawn state) (even_ends beat))

base_small : (step : ℕ) → base_before step ≤ 16_383
base_small step = omega arith

sample_holds : (scene : SceneAt) (s : Setting) (w : WorldAt) (at : SimAt) (n k state : ℕ) (link : LinkCfg) → Moment scene s w → Keeps scene s w at → has_carrier s w k ≡ true → link_of s k ≡ Some link → above s n ≡ Some k →
    AllHold (sample_checks s w n (base_before (step_below scene s w k link)) (bits_behind (drawn_zeros (of_node (λ node. node.beat) s n) state)) (above s n))
sample_holds scene s w at n k state link m h lit there is =
    let base : ℕ = base_before (step_below scene s w k link) in
    let beat : ℕ = of_node (λ node. node.beat) s n in
    let bits : ℕ = bits_behind (drawn_zeros beat state) in
    let small : beat ≤ 24 = of_node_within (λ x. x ≤ 24) (λ node. node.beat) s n (omega arith) (λ node e. (m.net.accepted.ranges.nodes n node e).beat) in
    let fit : (drawn_zeros beat state ≤ 64) × (32 ≤ drawn_zeros beat state + beat) × (drawn_zeros beat state ≤ 32 + beat) = zeros_fit beat state small in
    let joined : (w.fibre k).joined ≡ true = (carried s w k lit).joined in
    let off : ℤ = (w.clock link.lower).off -ℤ (w.clock link.upper).off in
    let beats : AllHold (beat_checks s w n base bits k link) =
    subst (λ d. AllHold (beat_by s.cfg.clock beat base bits (off +ℤ d))) (sym (delay_is scene s w at k h joined))
    (beat_holds s.cfg.clock beat (drawn_zeros beat state) (off +ℤ delay_down scene s k) fit.0 fit.1 fit.2) in
    subst (λ o. AllHold (sample_checks s w n base bits o)) (sym is)
    (both_hold (map (only_where (has_carrier s w k)) (option_map_or (beat_checks s w n base bits k) (link_of s k) [])) (needs (has_carrier s w k) ∷ [])
    (where_hold (has_carrier s w k) (option_map_or (beat_checks s w n base bits k) (link_of s k) [])
    (subst (λ o. AllHold (option_map_or (beat_checks s w n base bits k) o [])) (sym there) beats))
    (stands_holds (has_carrier s w k) lit, tt))

sample_good : (scene : SceneAt) (s : Setting) (w : WorldAt) (at : SimAt) (n k : ℕ) (link : LinkCfg) → Moment scene s w → Keeps scene s w at → n < node_count s.cfg → has_carrier s w k ≡ true → link_of s k ≡ Some link → above s n ≡ Some k →
    GoodIf scene s w (comes (sample_of scene s w n k link at.state) (after_draw at))
sample_good scene s w at n k link m h below lit there is =
    let new : SimAt = record (after_draw at) { ticked = None } in
    good scene s w (sample_of scene s w n k link at.state) at new h (below, base_small (step_below scene s w k link)) (λ says. sample_holds scene s w at n k at.state link m h lit there is) (λ d. absurd d)
    (record {
      swaps = tt;
      fibres = tt;
      young = tt;
      ticks = h.ticks;
      begun = nat_le_self at.begun;
      most = h.waits.most;
      turn = tt;
      faults = h.faults;
      ticked = λ j e. absurd (none-some j e);
      handed = λ says y t. step_hands s says y w (sample_of scene s w n k link at.state) at new tt h.young refl refl (h.handed t);
    })

pub samples_good : (scene : SceneAt) (s : Setting) (w : WorldAt) (at : SimAt) → Moment scene s w → Keeps scene s w at → GoodIf scene s w (samples scene s w at)
samples_good scene s w at m h =
    then_good scene s w (λ n. option_and_then (λ k. sample_below scene s w at n k) (above s n)) at.ticked
    (λ n e. then_good scene s w (λ k. sample_below scene s w at n k) (above s n)
    (λ k is. if_good scene s w (has_carrier s w k) (option_and_then (λ link. comes (sample_of scene s w n k link at.state) (after_draw at)) (link_of s k)) None
    (λ lit. then_good scene s w (λ link. comes (sample_of scene s w n k link at.state) (after_draw at)) (link_of s k)
    (λ link there. sample_good scene s w at n k link m h (h.ticked n e) lit there is))
    (λ dark. tt)))
