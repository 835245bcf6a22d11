-- The checks of a tick and of a sample.
use Rattle.std.proofs.Common.{◌≡◌, ◌∙◌, refl, ap, ap₂, sym, ℕ, ℤ, pos, Bool, true, false, List, [], ◌∷◌, ◌++◌, map, Option, None, Some}
use Rattle.std.specs.Option.{option_or, option_map_or}
use Rattle.wrp_network.specs.declared.network.LinkCfg.{LinkCfg}
use Rattle.wrp_base.specs.declared.time.Clock.{Clock}
use Rattle.wrp_bounds.specs.Times.{shortest_tick}
use Rattle.wrp_course.specs.Checks.{Check, told_of, needs, only_where}
use Rattle.wrp_course.specs.declared.breach.Breach.{Breach}
use Rattle.wrp_course.specs.declared.clocks.ClockState.{ClockState}
use Rattle.wrp_course.specs.Premises.{early_by, tick_early, beat_by, beat_checks, sample_checks}
use Rattle.wrp_course.specs.Setting.{Setting, link_of, of_node}
use Rattle.wrp_course.specs.WorldAt.{WorldAt, has_carrier, phase_of}
use Rattle.wrp_course.proofs.Told.{told_standing, made, not_made, told_append}

pub early_told : (s : Setting) (w : WorldAt) (n : ℕ) (least now : ℤ) (clock : ClockState) (r : Option Breach) →
    r ≡ told_of (early_by least now clock ∷ []) → least ≡ pos (shortest_tick s.cfg) → now ≡ w.time → clock ≡ w.clock n →
    r ≡ told_of (tick_early s w n ∷ [])
early_told s w n least now clock r e f g h =
    e ∙ ap₂ (λ l t. told_of (early_by l t clock ∷ [])) f g ∙ ap (λ k. told_of (early_by (pos (shortest_tick s.cfg)) w.time k ∷ [])) h

-- a sample over a link with its carrier, and over a link without
carried : (b : Bool) (checks : List Check) → b ≡ true → told_of (map (only_where b) checks ++ (needs b ∷ [])) ≡ told_of checks
carried b checks e = rw e (told_standing (map (only_where true) checks) ∙ ap told_of (made checks))

none_or : {A : Type 0} (a b : Option A) → a ≡ None → option_or a b ≡ b
none_or a b e = rw e refl

pub dark : (b : Bool) (checks : List Check) → b ≡ false → told_of (map (only_where b) checks ++ (needs b ∷ [])) ≡ told_of (needs false ∷ [])
dark b checks e =
    rw e (told_append (map (only_where false) checks) (needs false ∷ []) ∙ none_or (told_of (map (only_where false) checks)) (told_of (needs false ∷ [])) (not_made checks))

pub beat_told : (s : Setting) (w : WorldAt) (n base bits k : ℕ) (link : LinkCfg) (clock : Clock) (beat : ℕ) (phase : ℤ) (r : Option Breach) →
    r ≡ told_of (beat_by clock beat base bits phase) → has_carrier s w k ≡ true → link_of s k ≡ Some link → clock ≡ s.cfg.clock →
    beat ≡ of_node (λ node. node.beat) s n → phase ≡ phase_of w k link → r ≡ told_of (sample_checks s w n base bits (Some k))
beat_told s w n base bits k link clock beat phase r e up l f g h =
    e ∙ ap (λ c. told_of (beat_by c beat base bits phase)) f
    ∙ ap₂ (λ b p. told_of (beat_by s.cfg.clock b base bits p)) g h
    ∙ sym (carried (has_carrier s w k) (option_map_or (beat_checks s w n base bits k) (link_of s k) []) up
    ∙ ap (λ o. told_of (option_map_or (beat_checks s w n base bits k) o [])) l)

pub beat_dark : (s : Setting) (w : WorldAt) (n base bits k : ℕ) (r : Option Breach) →
    r ≡ told_of (needs false ∷ []) → has_carrier s w k ≡ false → r ≡ told_of (sample_checks s w n base bits (Some k))
beat_dark s w n base bits k r e off =
    e ∙ sym (dark (has_carrier s w k) (option_map_or (beat_checks s w n base bits k) (link_of s k) []) off)
