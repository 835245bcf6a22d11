-- What a step of a node puts out: at most one step of its clock, and a report of TRACK only at a tick.
use Rattle.std.proofs.Common.{◌≡◌, ◌∙◌, refl, ap, sym, ℕ, suc, ◌==◌, ◌&&◌, ◌%◌, ℤ, pos, negsuc, ◌+ℤ◌, unsigned_abs, Bool, true, false, if◌then◌else◌, List, [], ◌∷◌, ◌++◌, map, flat_map, Option, None, Some, arith}
use Rattle.std.specs.List.{AllByRecursion}
use Rattle.std.proofs.lemmas.Bool.{eqb-true}
use Rattle.std.proofs.lemmas.Int.{ints}
use Rattle.wrp_base.specs.declared.link.LinkWord.{LinkWord}
use Rattle.wrp_base.specs.declared.link.ServoState.{ServoState}
use Rattle.wrp_base.specs.declared.message.PtpMsg.{PtpMsg}
use Rattle.wrp_base.proofs.Lists.{all_append}
use Rattle.wrp_link.specs.Table.{word_of}
use Rattle.wrp_node.specs.declared.interface.Input.{Input}
use Rattle.wrp_node.specs.declared.interface.Input.TheVariants.{Tick as TickInput, Sample, Frame, Sent, Carrier, Reset}
use Rattle.wrp_node.specs.declared.interface.Output.{Output}
use Rattle.wrp_node.specs.declared.interface.Output.TheVariants.{Send, Step as StepOf, Dac, Report}
use Rattle.wrp_node.specs.declared.interface.Report.TheVariants.{Link, Servo, Track}
use Rattle.wrp_node.specs.NodeAt.{NodeAt, NodeSetting, est_of, link_at, numbers_of, state_of}
use Rattle.wrp_node.specs.NodeRun.{dac_out, est_out, frame_out, outputs_of, rank_of, port_out, servo_out, step_out, track_out, word_out}
use Rattle.wrp_node.specs.Telling.{Step}
use Rattle.wrp_port.specs.Outputs.{is_word}
use Rattle.wrp_servo.specs.Table.{is_track}
use Rattle.wrp_printed_laws.specs.Offsets.{total}

-- an output that is neither a step of the clock nor a report of the servo
abbrev pub IsOther : Output → Type 0
IsOther (StepOf cycles) = ⊥
IsOther (Report (Servo state)) = ⊥
IsOther (Report (Track est)) = ⊥
IsOther _ = Unit {0}

-- something holds for each of these
abbrev pub Others : (Output → Type 0) → Type 0
Others P = (o : Output) → IsOther o → P o

-- What holds of each part

pub dac_all : (P : Output → Type 0) → Others P → (dac : Option ℕ) → AllByRecursion P (dac_out dac)
dac_all P others None = tt
dac_all P others (Some value) = (others (Dac value) tt, tt)

frames_all : (P : Output → Type 0) → Others P → (p : ℕ) (messages : List PtpMsg) → AllByRecursion P (map (frame_out p) messages)
frames_all P others p [] = tt
frames_all P others p (m ∷ messages) = (others (frame_out p m) tt, frames_all P others p messages)

word_if : (P : Output → Type 0) → Others P → (b : Bool) (p : ℕ) (word : LinkWord) → AllByRecursion P (if b then [] else Report (Link p word) ∷ [])
word_if P others true p word = tt
word_if P others false p word = (others (Report (Link p word)) tt, tt)

pub ports_all : (P : Output → Type 0) → Others P → (fixed : NodeSetting) (before : NodeAt) (s : Step) (ps : List ℕ)
    → AllByRecursion P (flat_map (port_out fixed before s) ps)
ports_all P others fixed before s [] = tt
ports_all P others fixed before s (p ∷ ps) =
    let old : LinkWord = word_of (link_at fixed.set before p) in
    let new : LinkWord = word_of (link_at fixed.set s.node p) in
    all_append P (port_out fixed before s p) (flat_map (port_out fixed before s) ps)
    (all_append P (word_out p old new) (map (frame_out p) (s.sends p)) (word_if P others (is_word old new) p new) (frames_all P others p (s.sends p)))
    (ports_all P others fixed before s ps)

est_all : (P : Output → Type 0) → ((est : ℤ) → P (Report (Track est))) → (o : Option ℤ) → AllByRecursion P (est_out o)
est_all P h None = tt
est_all P h (Some est) = (h est, tt)

track_if : (P : Output → Type 0) → ((est : ℤ) → P (Report (Track est))) → (b : Bool) (o : Option ℤ) → AllByRecursion P (if b then est_out o else [])
track_if P h true o = est_all P h o
track_if P h false o = tt

pub track_all : (P : Output → Type 0) → ((est : ℤ) → P (Report (Track est))) → (fixed : NodeSetting) (input : Input) (n : NodeAt)
    → AllByRecursion P (track_out fixed input n)
track_all P h fixed TickInput n = track_if P h (is_track (state_of fixed n) && (n.ticks % fixed.set.report == 0)) (est_of fixed n)
track_all P h fixed (Sample number base bits) n = tt
track_all P h fixed (Frame p octets raw sample) n = tt
track_all P h fixed (Sent p seq delay stamp) n = tt
track_all P h fixed (Carrier p up own_module) n = tt
track_all P h fixed Reset n = tt

servo_if : (P : Output → Type 0) → ((state : ServoState) → P (Report (Servo state))) → (b : Bool) (state : ServoState)
    → AllByRecursion P (if b then [] else Report (Servo state) ∷ [])
servo_if P h true state = tt
servo_if P h false state = (h state, tt)

servo_all : (P : Output → Type 0) → ((state : ServoState) → P (Report (Servo state))) → (before after : ServoState) → AllByRecursion P (servo_out before after)
servo_all P h before after = servo_if P h (rank_of before == rank_of after) after

step_if : (P : Output → Type 0) (cycles : ℤ) → P (StepOf cycles) → (b : Bool) → AllByRecursion P (if b then [] else StepOf cycles ∷ [])
step_if P cycles h true = tt
step_if P cycles h false = (h, tt)

-- all of them
pub outputs_all : (P : Output → Type 0) → Others P → ((state : ServoState) → P (Report (Servo state)))
    → (fixed : NodeSetting) (input : Input) (before : NodeAt) (s : Step) → P (StepOf s.cycles) → AllByRecursion P (track_out fixed input s.node) →
    AllByRecursion P (outputs_of fixed input before s)
outputs_all P others states fixed input before s step tracks =
    let servo : List Output = servo_out (state_of fixed before) (state_of fixed s.node) in
    let ports : List Output = flat_map (port_out fixed before s) (numbers_of fixed.set) in
    all_append P (step_out s.cycles ++ dac_out s.dac ++ servo ++ ports) (track_out fixed input s.node)
    (all_append P (step_out s.cycles ++ dac_out s.dac ++ servo) ports
    (all_append P (step_out s.cycles ++ dac_out s.dac) servo
    (all_append P (step_out s.cycles) (dac_out s.dac) (step_if P s.cycles step (unsigned_abs s.cycles == 0)) (dac_all P others s.dac))
    (servo_all P states (state_of fixed before) (state_of fixed s.node)))
    (ports_all P others fixed before s (numbers_of fixed.set)))
    tracks

-- at an input that is not a tick there is no report of TRACK
abbrev pub IsNoTick : Input → Type 0
IsNoTick TickInput = ⊥
IsNoTick _ = Unit {0}

pub no_track : (P : Output → Type 0) (fixed : NodeSetting) (input : Input) (n : NodeAt) → IsNoTick input → AllByRecursion P (track_out fixed input n)
no_track P fixed TickInput n h = absurd h
no_track P fixed (Sample number base bits) n h = tt
no_track P fixed (Frame p octets raw sample) n h = tt
no_track P fixed (Sent p seq delay stamp) n h = tt
no_track P fixed (Carrier p up own_module) n h = tt
no_track P fixed Reset n h = tt

-- The periods that the outputs of a step give

abbrev pub periods : Output → ℤ
periods (StepOf cycles) = cycles
periods _ = pos 0

abbrev IsStill : Output → Type 0
IsStill o = periods o ≡ pos 0

others_still : Others IsStill
others_still (StepOf cycles) h = absurd h
others_still (Send p frame) h = refl
others_still (Dac value) h = refl
others_still (Report (Link p word)) h = refl
others_still (Report (Servo state)) h = absurd h
others_still (Report (Track est)) h = absurd h

plus_nothing : (z x : ℤ) → x ≡ pos 0 → z +ℤ x ≡ z
plus_nothing z x e = omega (arith, ints, e)

both_nothing : (x y : ℤ) → x ≡ pos 0 → y ≡ pos 0 → x +ℤ y ≡ pos 0
both_nothing x y e f = omega (arith, ints, e, f)

still_total : (outs : List Output) → AllByRecursion IsStill outs → total periods outs ≡ pos 0
still_total [] h = refl
still_total (o ∷ outs) h = both_nothing (periods o) (total periods outs) h.0 (still_total outs h.1)

no_size : (z : ℤ) → (unsigned_abs z == 0) ≡ true → z ≡ pos 0
no_size (pos n) e = ap (λ (m : ℕ). pos m) (eqb-true n 0 e)
no_size (negsuc n) e = absurd (omega (arith, eqb-true (suc n) 0 e))

step_total : (cycles : ℤ) (b : Bool) → (unsigned_abs cycles == 0) ≡ b → total periods (if b then [] else StepOf cycles ∷ []) ≡ cycles
step_total cycles true is = sym (no_size cycles is)
step_total cycles false is = plus_nothing cycles (pos 0) refl

more_still : (xs ys : List Output) → AllByRecursion IsStill ys → total periods (xs ++ ys) ≡ total periods xs
more_still [] ys h = still_total ys h
more_still (x ∷ xs) ys h = ap (λ (z : ℤ). periods x +ℤ z) (more_still xs ys h)

-- they are those of its step
pub outputs_total : (fixed : NodeSetting) (input : Input) (before : NodeAt) (s : Step) → total periods (outputs_of fixed input before s) ≡ s.cycles
outputs_total fixed input before s =
    let servo : List Output = servo_out (state_of fixed before) (state_of fixed s.node) in
    let ports : List Output = flat_map (port_out fixed before s) (numbers_of fixed.set) in
    more_still (step_out s.cycles ++ dac_out s.dac ++ servo ++ ports) (track_out fixed input s.node) (track_all IsStill (λ est. refl) fixed input s.node)
    ∙ more_still (step_out s.cycles ++ dac_out s.dac ++ servo) ports (ports_all IsStill others_still fixed before s (numbers_of fixed.set))
    ∙ more_still (step_out s.cycles ++ dac_out s.dac) servo (servo_all IsStill (λ state. refl) (state_of fixed before) (state_of fixed s.node))
    ∙ more_still (step_out s.cycles) (dac_out s.dac) (dac_all IsStill others_still s.dac)
    ∙ step_total s.cycles (unsigned_abs s.cycles == 0) refl
