-- What a step of a node adds to what its ports were given.
use Rattle.std.proofs.Common.{◌≡◌, ℕ, List, ◌∷◌, Some}
use Rattle.wrp_node.specs.declared.interface.Input.{Input}
use Rattle.wrp_node.specs.declared.interface.Input.TheVariants.{Tick, Sample as SampleInput, Frame, Sent, Carrier, Reset}
use Rattle.wrp_node.specs.NodeAt.{NodeSetting, NodeAt, Taken}
use Rattle.wrp_node.specs.NodeStep.{servo_ticked, tick_of, stepped, node_step, message_of}
use Rattle.wrp_node.specs.Telling.{answer_of, settled}
use Rattle.wrp_port.specs.declared.interface.PortIn.{PortIn}
use Rattle.wrp_port.specs.declared.interface.PortIn.TheVariants.{Msg, Lease, Tick as PortTick, Sent as PortSent, Carrier as PortCarrier, Sample, Chain, Reset as PortReset}
use Rattle.wrp_servo.specs.Call.{CallSample}
use Rattle.wrp_bound_laws.proofs.Nodes.Inputs.{IsNoTick}
use Rattle.wrp_bound_laws.proofs.Schedules.ScheduleLinks.{IsNoTickThere}
use Rattle.wrp_bound_laws.proofs.Nodes.StepTold.{KeptByNews, before_tick, carrier_told, frame_told, out_told, sample_told, sent_told, settled_told, tick_told}

-- what a port is given in addition to the input itself: a turn of its lease, and what the servo answers
abbrev pub IsAside : PortIn → Type 0
IsAside Lease = Unit {0}
IsAside (Sample number phase) = Unit {0}
IsAside (Chain news) = Unit {0}
IsAside _ = ⊥

-- what an input of this kind keeps
abbrev pub KeptIn : (PortIn → Type 0) → (List PortIn → Type 0) → Type 0
KeptIn C P = (told : List PortIn) (input : PortIn) → C input → P told → P (input ∷ told)

pub aside_kept : (P : List PortIn → Type 0) → KeptIn IsNoTickThere P → KeptIn IsAside P
aside_kept P k told Lease c h = k told Lease tt h
aside_kept P k told (Sample number phase) c h = k told (Sample number phase) tt h
aside_kept P k told (Chain news) c h = k told (Chain news) tt h
aside_kept P k told (Msg m stamp tick) c h = absurd c
aside_kept P k told (PortTick locked certain) c h = absurd c
aside_kept P k told (PortSent delay seq stamp tick) c h = absurd c
aside_kept P k told (PortCarrier up own_module) c h = absurd c
aside_kept P k told PortReset c h = absurd c

-- A tick

-- before the ports' own
pub told_before : (P : List PortIn → Type 0) → KeptIn IsAside P → (fixed : NodeSetting) (n : NodeAt) (p : ℕ) → P (n.told p) → P ((servo_ticked fixed n).node.told p)
told_before P k fixed n p h = before_tick P (λ told news x. k told (Chain news) tt x) (λ told x. k told Lease tt x) fixed n p h

-- and from then on
pub told_after : (Q : List PortIn → Type 0) → KeptIn IsAside Q → (fixed : NodeSetting) (t : Taken) (n : NodeAt) (p : ℕ) → t.input ≡ Tick →
    Q (tick_of fixed (servo_ticked fixed n).node ∷ (servo_ticked fixed n).node.told p) → Q ((node_step fixed t n).node.told p)
told_after Q k fixed t n p is h = tick_told Q (λ told news x. k told (Chain news) tt x) fixed t n p is h

-- Any other input

pub told_kept : (P : List PortIn → Type 0) → KeptIn IsNoTickThere P → (fixed : NodeSetting) (t : Taken) (n : NodeAt) (p : ℕ) → IsNoTick t.input → P (n.told p) → P ((node_step fixed t n).node.told p)
told_kept P k fixed t n p none h = by_input t.input none
  where
    news : KeptByNews P
    news told x g = k told (Chain x) tt g

    by_input : (input : Input) → IsNoTick input → P ((settled fixed (stepped fixed input t.says t.answer n)).node.told p)
    by_input Tick plain = absurd plain
    by_input (SampleInput number base bits) plain =
        sample_told P news fixed t.says t.answer n p number base bits
        (out_told P news (λ told i phase g. k told (Sample i phase) tt g) (answer_of fixed (Some (CallSample number base bits)) n.calls) number (n.told p) h) h
    by_input (Frame q octets raw sample) plain = frame_told P news fixed n p q t.says raw sample t.answer (λ m says same hears. k (n.told p) (message_of fixed n p m raw sample) tt h) h
    by_input (Sent q seq delay stamp) plain = sent_told P news fixed n p q seq delay stamp (λ e. k (n.told p) (PortSent delay seq stamp n.ticks) tt h) h
    by_input (Carrier q up own_module) plain = carrier_told P news fixed n p q up own_module (k (n.told p) (PortCarrier up own_module) tt h) h
    by_input Reset plain = settled_told P news fixed (stepped fixed Reset t.says t.answer n) p (k (n.told p) PortReset tt h)
