-- Events that bring a node no sample: its chain was there before them, and it has as many samples as it had.
use Rattle.std.proofs.Common.{◌≡◌, inl, inr, ◌∙◌, refl, ap, ℕ, ◌+◌, ◌==◌, ℤ, true, false, if◌then◌else◌, List, [], ◌∷◌}
use Rattle.std.proofs.lemmas.Bool.Decides.{eqb_tells}
use Rattle.wrp_base.proofs.Naturals.{eq_self}
use Rattle.wrp_node.specs.NodeAt.{NodeAt, servo_setting_of}
use Rattle.wrp_servo.specs.Call.{run}
use Rattle.wrp_servo.specs.Laws.{ChainSince}
use Rattle.wrp_course.specs.declared.clocks.ClockState.{ClockState}
use Rattle.wrp_course.specs.declared.event.Event.{Event}
use Rattle.wrp_course.specs.declared.event.Event.TheVariants.{Pass, Tick, Sample, Depart, Arrive, Deliver, Noise, Down, Up, Cut, Join}
use Rattle.wrp_bound_laws.proofs.Motion.NodeSteps.{Stands}
use Rattle.wrp_course.specs.Given.{Given, clock_told, given_by, gives, gives_all, step_of}
use Rattle.wrp_course.specs.Moved.{moved}
use Rattle.wrp_course.specs.Run.{Happened, world_after}
use Rattle.wrp_course.specs.Setting.{Setting, node_setting_of}
use Rattle.wrp_course.specs.WorldAt.{WorldAt}
use Rattle.wrp_bound_laws.specs.Rates.{HasChain}
use Rattle.wrp_bound_laws.proofs.Nodes.Inputs.{GivesTo, node_kept}
use Rattle.wrp_bound_laws.proofs.Samples.LiveChains.{IsNoSampleInput, input_stood}

abbrev pub IsNoSampleOf : ℕ → Event → Type 0
IsNoSampleOf n (Sample m base bits) = n ≡ m → ⊥
IsNoSampleOf n _ = Unit {0}

pub no_sample_to : (n : ℕ) (e : Event) → IsNoSampleOf n e → GivesTo IsNoSampleInput n e
no_sample_to n (Tick m) h = λ is. tt
no_sample_to n (Sample m base bits) h = λ is number. absurd (h is)
no_sample_to n (Depart m p stamp) h = λ q seq delay t. tt
no_sample_to n (Deliver i) h = λ q octets raw sample. tt
no_sample_to n (Noise m p octets raw) h = λ sample. tt
no_sample_to n (Down m) h = λ q. tt
no_sample_to n (Up m off swaps) h = (λ is. tt, λ q own_module. tt)
no_sample_to n (Cut k) h = λ q. tt
no_sample_to n (Join k ms sm) h = λ q own_module. tt
no_sample_to n (Pass dt drifts fibres) h = tt
no_sample_to n (Arrive i raw) h = tt

pub stood_before : ChainSince → (s : Setting) (h : Happened) (before : List Happened) (n : ℕ) → IsNoSampleOf n h.event → HasChain s n (h ∷ before) → HasChain s n before
stood_before law s h before n none =
    node_kept (λ (m : NodeAt). Stands (run (servo_setting_of (node_setting_of s n)) m.calls) → HasChain s n before) IsNoSampleInput s h.says h.answer (world_after s before) h.event n
    (λ t m q old. input_stood law (node_setting_of s n) ((world_after s before).node n).calls t m q old) (no_sample_to n h.event none) (λ chain. chain)

-- The samples so far of a node

given_samples : (s : Setting) (y : ℤ) (v : WorldAt) (g : Given) (n : ℕ) → ((gives s y v g).clock n).samples ≡ (v.clock n).samples
given_samples s y v g n =
    let told : ClockState = clock_told s v g (step_of s y v g).cycles (v.clock n) in
    elim (eqb_tells n g.to) [ inl x ↦ ap (λ b. (if b then told else v.clock n).samples) x.0 | inr x ↦ ap (λ b. (if b then told else v.clock n).samples) x.0 ]

pub all_given_samples : (s : Setting) (y : ℤ) (gs : List Given) (v : WorldAt) (n : ℕ) → ((gives_all s y v gs).clock n).samples ≡ (v.clock n).samples
all_given_samples s y [] v n = refl
all_given_samples s y (g ∷ gs) v n = all_given_samples s y gs (gives s y v g) n ∙ given_samples s y v g n

-- as many as the event by itself leaves
pub samples_then : (s : Setting) (h : Happened) (before : List Happened) (n : ℕ) → ((world_after s (h ∷ before)).clock n).samples ≡ ((moved s (world_after s before) h.event).clock n).samples
samples_then s h before n =
    let w : WorldAt = world_after s before in
    all_given_samples s h.answer (given_by s w (moved s w h.event) h.says h.event) (moved s w h.event) n

-- an event that brings the node no sample, and in which it does not start
abbrev pub IsLowOf : ℕ → Event → Type 0
IsLowOf n (Sample m base bits) = n ≡ m → ⊥
IsLowOf n (Up m off swaps) = n ≡ m → ⊥
IsLowOf n _ = Unit {0}

low_samples : (s : Setting) (w : WorldAt) (e : Event) (n : ℕ) → IsLowOf n e → ((moved s w e).clock n).samples ≡ (w.clock n).samples
low_samples s w (Sample m base bits) n h = elim (eqb_tells n m) [
  | inl x ↦ absurd (h x.1)
  | inr x ↦ ap (λ b. (if b then record (w.clock n) { samples = (w.clock n).samples + 1 } else w.clock n).samples) x.0
]
low_samples s w (Up m off swaps) n h = elim (eqb_tells n m) [
  | inl x ↦ absurd (h x.1)
  | inr x ↦ ap (λ b. (if b then record { up = true; off = off; ticked = w.time; samples = 0 } else w.clock n).samples) x.0
]
low_samples s w (Down m) n h = elim (eqb_tells n m) [
  | inl x ↦ ap (λ b. (if b then record (w.clock n) { up = false } else w.clock n).samples) x.0
  | inr x ↦ ap (λ b. (if b then record (w.clock n) { up = false } else w.clock n).samples) x.0
]
low_samples s w _ n h = refl

-- a sample of the node is one more
pub sampled_samples : (s : Setting) (w : WorldAt) (n m base bits : ℕ) → n ≡ m → ((moved s w (Sample m base bits)).clock n).samples ≡ (w.clock n).samples + 1
sampled_samples s w n m base bits same = ap (λ b. (if b then record (w.clock n) { samples = (w.clock n).samples + 1 } else w.clock n).samples) (ap (λ i. i == m) same ∙ eq_self m)

-- the samples so far of a node stay in such an event
pub low_stay : (s : Setting) (h : Happened) (before : List Happened) (n : ℕ) → IsLowOf n h.event → ((world_after s (h ∷ before)).clock n).samples ≡ ((world_after s before).clock n).samples
low_stay s h before n low = samples_then s h before n ∙ low_samples s (world_after s before) h.event n low

pub low_none : (n : ℕ) (e : Event) → IsLowOf n e → IsNoSampleOf n e
low_none n (Sample m base bits) h = h
low_none n (Up m off swaps) h = tt
low_none n _ h = tt
