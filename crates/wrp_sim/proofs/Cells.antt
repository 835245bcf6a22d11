-- Signed numbers as the code has them, and the sizes of what the rules compute.
use Rattle.std.proofs.Common.{◌≡◌, ◌∙◌, refl, ap, ap₂, sym, ℕ, zero, suc, ◌*◌, ◌≤◌, ◌^◌, ℤ, pos, ◌≤ℤ◌, unsigned_abs, Bool, true, false, if◌then◌else◌, List, [], ◌∷◌, Option, None, Some, option_map, option_and_then, slice_get, unwrap_or, arith}
use Rattle.std.proofs.lemmas.Int.{ints}
use Rattle.std.proofs.lemmas.Option.{none-some, same_Some}
use Rattle.std.specs.List.{AllByRecursion}
use Rattle.wrp_base.specs.Clock.{period_of}
use Rattle.wrp_base.specs.declared.link.Role.{Role}
use Rattle.wrp_network.specs.Network.{End}
use Rattle.wrp_base.specs.declared.time.Clock.{Clock}
use Rattle.wrp_base.specs.declared.time.Clock.TheVariants.{Mhz125, Mhz62}
use Rattle.wrp_base.specs.declared.time.Raw.{Raw}
use Rattle.wrp_stamp.specs.Merge.{transition_of}
use Rattle.wrp_course.specs.Setting.{Setting, end_at}
use Rattle.wrp_course.specs.WorldAt.{WorldAt, reading}
use Rattle.wrp_sim.specs.Numbers.{is_within, raw_at}
use Rattle.wrp_sim.specs.Rules.{first_entry, raw_by, raw_to}
use Rattle.wrp_scene.specs.Scenario.{IsFree}

-- readings that a stamp can show

pub within_least : (clock : Clock) (at : ℤ) → is_within clock at ≡ true → pos 0 ≤ℤ at
within_least Mhz125 at e = grind (arith, ints)
within_least Mhz62 at e = grind (arith, ints)

pub within_most : (clock : Clock) (at : ℤ) → is_within clock at ≡ true → unsigned_abs at ≤ 2 ^ 62 * period_of clock
within_most Mhz125 at e = grind (arith, ints)
within_most Mhz62 at e = grind (arith, ints)

-- the raw stamp at an end of a link

there_is : (node : ℕ) (o : Option End) → option_map (λ end. end.node) o ≡ Some node → (end : End) × (o ≡ Some end) × (end.node ≡ node)
there_is node None e = absurd (none-some node e)
there_is node (Some end) e = (end, refl, same_Some end.node node e)

at_end : (s : Setting) (w : WorldAt) (k : ℕ) (r : Role) (node : ℕ) (at : ℤ) (clock : Clock) → option_map (λ end. end.node) (end_at s k r) ≡ Some node →
    at ≡ reading w node → clock ≡ s.cfg.clock →
    raw_to s w k r ≡ (if is_within clock at then Some (raw_at clock (transition_of (first_entry s k r)) at) else None)
at_end s w k r node at clock e f g =
    let it : (end : End) × (end_at s k r ≡ Some end) × (end.node ≡ node) = there_is node (end_at s k r) e in
    ap (option_and_then (raw_by s w k r)) it.1
    ∙ sym (ap₂ (λ (x : Clock) (y : ℤ). if is_within x y then Some (raw_at x (transition_of (first_entry s k r)) y) else None) g (f ∙ ap (reading w) (sym it.2)))

pub raw_there : (s : Setting) (w : WorldAt) (k : ℕ) (r : Role) (node : ℕ) (at : ℤ) (clock : Clock) (t : ℕ) (raw : Raw) → option_map (λ end. end.node) (end_at s k r) ≡ Some node →
    at ≡ reading w node → clock ≡ s.cfg.clock → t ≡ transition_of (first_entry s k r) → is_within clock at ≡ true → raw ≡ raw_at clock t at →
    Some raw ≡ raw_to s w k r
raw_there s w k r node at clock t raw e f g h told is =
    ap Some (is ∙ ap (λ n. raw_at clock n at) h)
    ∙ sym (ap (λ (b : Bool). if b then Some (raw_at clock (transition_of (first_entry s k r)) at) else None) told)
    ∙ sym (at_end s w k r node at clock e f g)

pub raw_untold : (s : Setting) (w : WorldAt) (k : ℕ) (r : Role) (node : ℕ) (at : ℤ) (clock : Clock) → option_map (λ end. end.node) (end_at s k r) ≡ Some node →
    at ≡ reading w node → clock ≡ s.cfg.clock → is_within clock at ≡ false → None ≡ raw_to s w k r
raw_untold s w k r node at clock e f g told =
    sym (ap (λ (b : Bool). if b then Some (raw_at clock (transition_of (first_entry s k r)) at) else None) told)
    ∙ sym (at_end s w k r node at clock e f g)

-- rates of scenarios are small
pub small_free : (rates : List ℤ) (n : ℕ) → AllByRecursion IsFree rates → unsigned_abs (unwrap_or (slice_get rates n) (pos 0)) ≤ 100_000
small_free [] n h = omega arith
small_free (r ∷ rates) zero h = h.0
small_free (r ∷ rates) (suc n) h = small_free rates n h.1
