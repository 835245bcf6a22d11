-- What the laws of the links answer in a run is near the exact fraction, if each law answers so in its range.
use Rattle.std.proofs.Common.{◌≡◌, refl, ap, sym, ℕ, ℤ, pos, ◌≤ℤ◌, Option, None, Some, List, [], ◌∷◌, true, arith}
use Rattle.std.specs.Prelude.{int_le, option_and_then, slice_get}
use Rattle.std.specs.Option.{option_map_or}
use Rattle.std.proofs.lemmas.Bool.{and_parts}
use Rattle.std.proofs.lemmas.Int.{ints}
use Rattle.wrp_network.specs.declared.configuration.NetCfg.{NetCfg}
use Rattle.wrp_network.specs.declared.network.LinkCfg.{LinkCfg}
use Rattle.wrp_network.specs.declared.network.NodeCfg.{NodeCfg}
use Rattle.wrp_network.specs.Network.{link_above}
use Rattle.wrp_bounds.specs.Bounds.{numbers_between, numbers_of, numbers_over}
use Rattle.wrp_bounds.specs.declared.numbers.HopNumbers.{HopNumbers}
use Rattle.wrp_servo.specs.Call.{Call, CallSample, CallMeasured, CallTick, CallLease, CallLink, CallCarrier, CallReset, ServoSetting}
use Rattle.wrp_servo.specs.Measuring.{is_in, x_of}
use Rattle.wrp_servo.specs.Servo.{AllAnswered}

-- The numbers of a hop

-- of which link they are
pub record HopOf (cfg : NetCfg) (n : ℕ) (hop : HopNumbers) : Type 0 where
  pub link : LinkCfg
  pub above : link_above cfg n ≡ Some link
  pub kappa : hop.kappa ≡ link.kappa
  pub error : hop.law_err ≡ link.law_err

between_nodes : (cfg : NetCfg) (link : LinkCfg) (own parent : Option NodeCfg) (hop : HopNumbers) → numbers_between cfg link own parent ≡ Some hop → (hop.kappa ≡ link.kappa) × (hop.law_err ≡ link.law_err)
between_nodes cfg link (Some own) (Some parent) hop e =
    (sym (ap (λ (o : Option HopNumbers). option_map_or (λ (h : HopNumbers). h.kappa) o (pos 0)) e), sym (ap (λ (o : Option HopNumbers). option_map_or (λ (h : HopNumbers). h.law_err) o 0) e))
between_nodes cfg link None parent hop e = absurd (cc)
between_nodes cfg link (Some own) None hop e = absurd (cc)

over_link : (cfg : NetCfg) (link : LinkCfg) (hop : HopNumbers) → numbers_over cfg link ≡ Some hop → (hop.kappa ≡ link.kappa) × (hop.law_err ≡ link.law_err)
unfolding numbers_over
over_link cfg link hop e = between_nodes cfg link (slice_get cfg.nodes.items link.lower) (slice_get cfg.nodes.items link.upper) hop e

hop_with : (cfg : NetCfg) (n : ℕ) (hop : HopNumbers) (o : Option LinkCfg) → link_above cfg n ≡ o → option_and_then (numbers_over cfg) o ≡ Some hop → HopOf cfg n hop
hop_with cfg n hop None above e = absurd (cc)
hop_with cfg n hop (Some link) above e =
    let parts : (hop.kappa ≡ link.kappa) × (hop.law_err ≡ link.law_err) = over_link cfg link hop e in
    record { link = link; above = above; kappa = parts.0; error = parts.1 }

pub hop_of : (cfg : NetCfg) (n : ℕ) (hop : HopNumbers) → numbers_of cfg n ≡ Some hop → HopOf cfg n hop
hop_of cfg n hop e = hop_with cfg n hop (link_above cfg n) refl e

-- What was answered

in_range : (lo hi x : ℤ) → is_in lo hi x ≡ true → (lo ≤ℤ x) × (x ≤ℤ hi)
in_range lo hi x is =
    let parts : (int_le lo x ≡ true) × (int_le x hi ≡ true) = and_parts (int_le lo x) (int_le x hi) is in
    let low : int_le lo x ≡ true = parts.0 in
    let high : int_le x hi ≡ true = parts.1 in
    (grind (arith, ints), grind (arith, ints))

-- if each answer in the range is like this, so is each answer of a list of calls
pub near_calls : (P Q : ℤ → ℤ → Type 0) (x : ServoSetting) → ((a y : ℤ) → x.lo ≤ℤ a → a ≤ℤ x.hi → P a y → Q a y) → (calls : List Call) → AllAnswered P x calls → AllAnswered Q x calls
near_calls P Q x f [] h = tt
near_calls P Q x f (CallMeasured four y ∷ calls) h = (
  λ d is range. let within = in_range x.lo x.hi (x_of d four) range in f (x_of d four) y within.0 within.1 (h.0 d is range),
  near_calls P Q x f calls h.1,
)
near_calls P Q x f (CallSample n base bits ∷ calls) h = near_calls P Q x f calls h
near_calls P Q x f (CallTick ∷ calls) h = near_calls P Q x f calls h
near_calls P Q x f (CallLease fresh ∷ calls) h = near_calls P Q x f calls h
near_calls P Q x f (CallLink on ∷ calls) h = near_calls P Q x f calls h
near_calls P Q x f (CallCarrier up ∷ calls) h = near_calls P Q x f calls h
near_calls P Q x f (CallReset ∷ calls) h = near_calls P Q x f calls h

-- what holds of every answer holds of each answer of a list of calls
pub each_call : (Q : ℤ → ℤ → Type 0) (x : ServoSetting) → ((a y : ℤ) → Q a y) → (calls : List Call) → AllAnswered Q x calls
each_call Q x f [] = tt
each_call Q x f (CallMeasured four y ∷ calls) = (λ d is range. f (x_of d four) y, each_call Q x f calls)
each_call Q x f (CallSample n base bits ∷ calls) = each_call Q x f calls
each_call Q x f (CallTick ∷ calls) = each_call Q x f calls
each_call Q x f (CallLease fresh ∷ calls) = each_call Q x f calls
each_call Q x f (CallLink on ∷ calls) = each_call Q x f calls
each_call Q x f (CallCarrier up ∷ calls) = each_call Q x f calls
each_call Q x f (CallReset ∷ calls) = each_call Q x f calls
