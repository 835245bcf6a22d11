-- The checks of the rates of clocks, and of time that passes.
use Rattle.std.proofs.Common.{◌≡◌, ◌∙◌, refl, ap, ap₂, sym, subst, ℕ, ◌≤◌, ◌*◌, ℤ, pos, unsigned_abs, ◌+◌, Bool, true, false, not, if◌then◌else◌, List, [], ◌∷◌, length, map, flat_map, Option, None, Some, IfSome, slice_get, arith}
use Rattle.std.proofs.lemmas.Int.{ints}
use Rattle.std.specs.Int.Signed.{le_z}
use Rattle.std.specs.Option.{is_some, option_map_or}
use Rattle.wrp_base.specs.declared.link.ServoState.{ServoState}
use Rattle.wrp_network.specs.declared.network.NodeCfg.{NodeCfg}
use Rattle.wrp_network.specs.Network.{link_above}
use Rattle.wrp_servo.specs.Sampling.{is_holdover}
use Rattle.wrp_node.specs.NodeAt.{locked_of, state_of}
use Rattle.wrp_course.specs.Checks.{told_of}
use Rattle.wrp_course.specs.declared.clocks.ClockState.{ClockState}
use Rattle.wrp_plant.specs.Plant.{Each}
use Rattle.wrp_course.specs.Premises.{fibre_rate, late_by, moves_at, rate_checks, rate_of, rate_of_fibre, tick_late}
use Rattle.wrp_course.specs.Setting.{Setting, node_setting_of, from_on, links_of, nodes_of}
use Rattle.wrp_premises.specs.Tried.{kept_rate, steered_rate}
use Rattle.wrp_course.specs.WorldAt.{WorldAt}
use Rattle.wrp_course.proofs.Told.{holds_first}
use Rattle.wrp_premises.proofs.Counting.{flat_numbers, map_numbers}

-- The rate that a clock keeps

turned : (b : Bool) (x : Option ℕ) → (if b then x else None) ≡ (if not b then None else x)
turned true x = refl
turned false x = refl

-- as the network and the node give it
abbrev rate_in : (top up locked holdover : Bool) → (slew held : ℕ) → Option ℕ
rate_in top up locked holdover slew held =
    if top then Some 0 else (if not up then None else (if locked then Some slew else (if holdover then Some held else None)))

pub rate_told : (s : Setting) (w : WorldAt) (n : ℕ) (top up locked : Bool) (state : ServoState) (node : NodeCfg) (r : Option ℕ) →
    r ≡ kept_rate top up (steered_rate locked state node) → top ≡ not (is_some (link_above s.cfg n)) → up ≡ (w.clock n).up →
    locked ≡ locked_of (node_setting_of s n) (w.node n) → state ≡ state_of (node_setting_of s n) (w.node n) → slice_get s.cfg.nodes.items n ≡ Some node →
    r ≡ rate_of s w n
rate_told s w n top up locked state node r e t u l h g =
    e ∙ ap (λ o. if top then Some 0 else o) (turned up (steered_rate locked state node))
    ∙ ap₂ (λ a b. rate_in a b locked (is_holdover state) node.slew node.held) t u
    ∙ ap₂ (λ a b. rate_in (not (is_some (link_above s.cfg n))) (w.clock n).up a (is_holdover b) node.slew node.held) l h
    ∙ ap₂ (λ a b. rate_in (not (is_some (link_above s.cfg n))) (w.clock n).up (locked_of (node_setting_of s n) (w.node n)) (is_holdover (state_of (node_setting_of s n) (w.node n))) a b)
    (sym (ap (λ o. option_map_or (λ (x : NodeCfg). x.slew) o 0) g)) (sym (ap (λ o. option_map_or (λ (x : NodeCfg). x.held) o 0) g))

steered_small : (locked holdover : Bool) (slew held most : ℕ) → slew ≤ most → held ≤ most →
    IfSome (if locked then Some slew else (if holdover then Some held else None)) (λ r. r ≤ most)
steered_small true holdover slew held most a b = a
steered_small false true slew held most a b = b
steered_small false false slew held most a b = tt

kept_small : (top up : Bool) (o : Option ℕ) (most : ℕ) → IfSome o (λ r. r ≤ most) → IfSome (kept_rate top up o) (λ r. r ≤ most)
kept_small true up o most h = omega arith
kept_small false true o most h = h
kept_small false false o most h = tt

pub rate_small : (top up locked : Bool) (state : ServoState) (node : NodeCfg) (r : Option ℕ) → r ≡ kept_rate top up (steered_rate locked state node) →
    node.slew ≤ 1_000_000_000 → node.held ≤ 1_000_000_000 → IfSome r (λ x. x ≤ 1_000_000_000)
rate_small top up locked state node r e a b =
    subst (λ o. IfSome o (λ x. x ≤ 1_000_000_000)) (sym e)
    (kept_small top up (steered_rate locked state node) 1_000_000_000 (steered_small locked (is_holdover state) node.slew node.held 1_000_000_000 a b))

-- Clocks and fibres, as elements of lists

abbrev numbers : ℕ → List ℕ
numbers m = from_on m 0

from_first : (k : ℕ) → k ≡ 0 + k
from_first k = omega arith

pub late_told : (s : Setting) (w : WorldAt) (dt : ℤ) (clocks : List ClockState) → length clocks ≡ length s.cfg.nodes.items →
    Each (λ n clock. clock ≡ w.clock n) clocks → (most later : ℤ) → ((n : ℕ) → late_by most later (w.clock n) ≡ tick_late s w dt n) →
    told_of (map (late_by most later) clocks) ≡ told_of (map (tick_late s w dt) (nodes_of s))
late_told s w dt clocks e h most later g =
    ap told_of (map_numbers (late_by most later) (tick_late s w dt) clocks 0
    (λ k x f. ap (late_by most later) (h k x f) ∙ g k ∙ ap (tick_late s w dt) (from_first k))
    ∙ ap (λ m. map (tick_late s w dt) (numbers m)) e)

pub rates_told : (s : Setting) (dt : ℤ) (moves : List (ℤ × ℤ)) → length moves ≡ length s.cfg.links.items →
    told_of (flat_map (rate_of_fibre dt) moves) ≡ told_of (flat_map (fibre_rate dt moves) (links_of s))
rates_told s dt moves e =
    ap told_of (flat_numbers (rate_of_fibre dt) (fibre_rate dt moves) moves 0
    (λ k x f. ap (rate_of_fibre dt) (sym (ap (λ o. option_map_or (λ move. move) o (pos 0, pos 0)) f)) ∙ ap (fibre_rate dt moves) (from_first k))
    ∙ ap (λ m. flat_map (fibre_rate dt moves) (numbers m)) e)

-- What does not move keeps every rate

never_more : (x : ℕ) → not (le_z (pos 0) (pos x)) ≡ false
never_more x = grind (arith, ints)

pub still_move : (premise rate : ℕ) (dt : ℤ) → (moves_at premise (pos 0) dt rate).fails ≡ false
still_move premise rate dt = never_more (rate * unsigned_abs dt)

pub still_clock : (drift dt : ℤ) (rate : Option ℕ) → drift ≡ pos 0 → None ≡ told_of (rate_checks drift dt rate)
still_clock drift dt None e = refl
still_clock drift dt (Some rate) e = subst (λ d. None ≡ told_of (rate_checks d dt (Some rate))) (sym e) (holds_first (moves_at 3 (pos 0) dt rate) [] (still_move 3 rate dt))

pub still_fibre : (move : ℤ × ℤ) (dt : ℤ) → move ≡ (pos 0, pos 0) → None ≡ told_of (rate_of_fibre dt move)
still_fibre move dt e =
    subst (λ m. None ≡ told_of (rate_of_fibre dt m)) (sym e)
    (holds_first (moves_at 4 (pos 0) dt 2) [] (still_move 4 2 dt) ∙ holds_first (moves_at 4 (pos 0) dt 2) (moves_at 4 (pos 0) dt 2 ∷ []) (still_move 4 2 dt))
