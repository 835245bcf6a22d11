-- What a node's step reports of the words of its ports; only a frame brings a port to WR_LINK_ON.
use Rattle.std.proofs.Common.{◌≡◌, ◌∙◌, refl, ap, subst, ℕ, ℤ, ◌==◌, Bool, true, false, if◌then◌else◌, nat_lt, List, [], ◌∷◌, ◌++◌, map, flat_map, Option, None, Some, Result, arith}
use Rattle.std.specs.List.{AllByRecursion, list_any}
use Rattle.std.proofs.lemmas.Bool.{or_right}
use Rattle.wrp_base.specs.declared.link.LinkState.{LinkState}
use Rattle.wrp_base.specs.declared.link.LinkState.TheVariants.{Idle, Present, SLock, MLock, Locked, Calibration, Calibrated, RespCalib, LinkOn}
use Rattle.wrp_base.specs.declared.link.LinkWord.{LinkWord}
use Rattle.wrp_base.specs.declared.link.LinkWord.TheVariants.{Down, Quiet, Ptp, In}
use Rattle.wrp_base.specs.declared.message.PtpMsg.{PtpMsg}
use Rattle.wrp_base.proofs.Lists.{all_append, all_weaker}
use Rattle.wrp_frame.specs.declared.fault.FrameFault.{FrameFault}
use Rattle.wrp_link.specs.declared.interface.LinkIn.{LinkIn}
use Rattle.wrp_link.specs.declared.interface.LinkIn.TheVariants as link_in
use Rattle.wrp_link.specs.LinkAt.{LinkAt, Waiting}
use Rattle.wrp_link.specs.Rows.{Row, NoRow, Stays, Moves, Keeps, Resends, Fails, Waits, Counts, CarrierComes, CarrierGoes, resent, row_of, tick_row, timer_row, under}
use Rattle.wrp_link.specs.Table.{after, by_row, counted, word_in, word_of}
use Rattle.wrp_node.specs.declared.interface.Input.{Input}
use Rattle.wrp_node.specs.declared.interface.Input.TheVariants.{Tick, Sample, Frame, Sent, Carrier, Reset}
use Rattle.wrp_node.specs.declared.interface.Output.{Output}
use Rattle.wrp_node.specs.declared.interface.Output.TheVariants.{Step as StepOf, Dac, Report}
use Rattle.wrp_node.specs.declared.interface.Report.TheVariants.{Link, Servo}
use Rattle.wrp_node.specs.LinkNews.{LinkNews, Nothing, Given, Renewed, StepGivesLinks, link_after, news_at}
use Rattle.wrp_node.specs.NodeAt.{Taken, NodeSetting, NodeAt, numbers_of, setting_of, link_at, state_of, est_of}
use Rattle.wrp_node.specs.NodeRun.{dac_out, est_out, frame_out, outputs_of, port_out, servo_out, step_out, track_out, word_out}
use Rattle.wrp_node.specs.NodeStep.{node_step}
use Rattle.wrp_node.specs.StepLaws.{is_frame}
use Rattle.wrp_node.specs.Telling.{Step}
use Rattle.wrp_port.specs.declared.setting.Setting.{Setting}
use Rattle.wrp_port.specs.Outputs.{is_word}

-- Lists

-- if what each of some numbers gives holds, all that they give holds
all_numbers : (P : Output → Type 0) (f : ℕ → List Output) (qs : List ℕ) → ((p : ℕ) → list_any (λ q. q == p) qs ≡ true → AllByRecursion P (f p)) → AllByRecursion P (flat_map f qs)
all_numbers P f [] h = tt
all_numbers P f (q ∷ qs) h =
    all_append P (f q) (flat_map f qs) (h q (let same : (q == q) ≡ true = grind arith in rw same refl))
    (all_numbers P f qs (λ p among. h p (or_right (q == p) (list_any (λ r. r == p) qs) among)))

-- Reports

-- the port is one of the node's, and its word is this after the step, and was another before it
pub record ReportsWord (fixed : NodeSetting) (before : NodeAt) (s : Step) (p : ℕ) (word : LinkWord) : Type 0 where
  pub port : list_any (λ q. q == p) (numbers_of fixed.set) ≡ true
  pub is : word_of (link_at fixed.set s.node p) ≡ word
  pub other : is_word (word_of (link_at fixed.set before p)) word ≡ false

abbrev pub WordSo : NodeSetting → NodeAt → Step → Output → Type 0
WordSo fixed before s (Report (Link p word)) = ReportsWord fixed before s p word
WordSo fixed before s _ = Unit {0}

unless : (P : Output → Type 0) (b : Bool) (o : Output) → (b ≡ false → P o) → AllByRecursion P (if b then [] else o ∷ [])
unless P true o h = tt
unless P false o h = (h refl, tt)

dac_so : (P : Output → Type 0) → ((value : ℕ) → P (Dac value)) → (o : Option ℕ) → AllByRecursion P (dac_out o)
dac_so P h None = tt
dac_so P h (Some value) = (h value, tt)

est_so : (fixed : NodeSetting) (before : NodeAt) (s : Step) (o : Option ℤ) → AllByRecursion (WordSo fixed before s) (est_out o)
est_so fixed before s None = tt
est_so fixed before s (Some est) = (tt, tt)

est_where : (fixed : NodeSetting) (before : NodeAt) (s : Step) (b : Bool) (o : Option ℤ) → AllByRecursion (WordSo fixed before s) (if b then est_out o else [])
est_where fixed before s true o = est_so fixed before s o
est_where fixed before s false o = tt

track_so : (fixed : NodeSetting) (before : NodeAt) (s : Step) (input : Input) (n : NodeAt) → AllByRecursion (WordSo fixed before s) (track_out fixed input n)
track_so fixed before s Tick n = est_where fixed before s _ (est_of fixed n)
track_so fixed before s (Sample number base bits) n = tt
track_so fixed before s (Frame p octets raw sample) n = tt
track_so fixed before s (Sent p seq delay stamp) n = tt
track_so fixed before s (Carrier p up own_module) n = tt
track_so fixed before s Reset n = tt

frames_so : (fixed : NodeSetting) (before : NodeAt) (s : Step) (p : ℕ) (ms : List PtpMsg) → AllByRecursion (WordSo fixed before s) (map (frame_out p) ms)
frames_so fixed before s p [] = tt
frames_so fixed before s p (m ∷ ms) = (tt, frames_so fixed before s p ms)

port_so : (fixed : NodeSetting) (before : NodeAt) (s : Step) (p : ℕ) → list_any (λ q. q == p) (numbers_of fixed.set) ≡ true → AllByRecursion (WordSo fixed before s) (port_out fixed before s p)
port_so fixed before s p among =
    let was : LinkWord = word_of (link_at fixed.set before p) in
    let word : LinkWord = word_of (link_at fixed.set s.node p) in
    all_append (WordSo fixed before s) (word_out p was word) (map (frame_out p) (s.sends p))
    (unless (WordSo fixed before s) (is_word was word) (Report (Link p word)) (λ other. record { port = among; is = refl; other = other }))
    (frames_so fixed before s p (s.sends p))

pub outputs_so : (fixed : NodeSetting) (input : Input) (before : NodeAt) (s : Step) → AllByRecursion (WordSo fixed before s) (outputs_of fixed input before s)
outputs_so fixed input before s =
    let P : Output → Type 0 = WordSo fixed before s in
    let steps : List Output = step_out s.cycles in
    let dacs : List Output = dac_out s.dac in
    let servo : List Output = servo_out (state_of fixed before) (state_of fixed s.node) in
    let ports : List Output = flat_map (port_out fixed before s) (numbers_of fixed.set) in
    let track : List Output = track_out fixed input s.node in
    all_append P (((steps ++ dacs) ++ servo) ++ ports) track
    (all_append P ((steps ++ dacs) ++ servo) ports
    (all_append P (steps ++ dacs) servo
    (all_append P steps dacs (unless P _ (StepOf s.cycles) (λ e. tt)) (dac_so P (λ value. tt) s.dac))
    (unless P _ (Report (Servo (state_of fixed s.node))) (λ e. tt)))
    (all_numbers P (port_out fixed before s) (numbers_of fixed.set) (port_so fixed before s)))
    (track_so fixed before s input s.node)

-- A link that is on

pub record IsLit (l : LinkAt) : Type 0 where
  pub carrier : l.carrier ≡ true
  pub on : l.state ≡ LinkOn

quiet_or : (b : Bool) → (if b then Ptp else Quiet) ≡ In LinkOn → ⊥
quiet_or true e = cc
quiet_or false e = cc

on_with : (b : Bool) (state : LinkState) (quiet : ℕ) → (if b then word_in state quiet else Down) ≡ In LinkOn → (b ≡ true) × (state ≡ LinkOn)
on_with false state quiet e = absurd (let f : Down ≡ In LinkOn = e in cc)
on_with true Idle quiet e = absurd (quiet_or (quiet == 0) e)
on_with true Present quiet e = absurd (let f : In Present ≡ In LinkOn = e in cc)
on_with true SLock quiet e = absurd (let f : In SLock ≡ In LinkOn = e in cc)
on_with true MLock quiet e = absurd (let f : In MLock ≡ In LinkOn = e in cc)
on_with true Locked quiet e = absurd (let f : In Locked ≡ In LinkOn = e in cc)
on_with true Calibration quiet e = absurd (let f : In Calibration ≡ In LinkOn = e in cc)
on_with true Calibrated quiet e = absurd (let f : In Calibrated ≡ In LinkOn = e in cc)
on_with true RespCalib quiet e = absurd (let f : In RespCalib ≡ In LinkOn = e in cc)
on_with true LinkOn quiet e = (refl, refl)

pub word_on : (l : LinkAt) → word_of l ≡ In LinkOn → IsLit l
word_on l e = let both : (l.carrier ≡ true) × (l.state ≡ LinkOn) = on_with l.carrier l.state l.quiet e in record { carrier = both.0; on = both.1 }

lit_word : (l : LinkAt) → IsLit l → word_of l ≡ In LinkOn
lit_word l h = ap (λ (b : Bool). if b then word_in l.state l.quiet else Down) h.carrier ∙ ap (λ (state : LinkState). word_in state l.quiet) h.on

-- rows that lead to another state
abbrev IsCalm : Row → Type 0
IsCalm (Moves next sends) = next ≡ LinkOn → ⊥
IsCalm (Keeps tx rx next sends) = next ≡ LinkOn → ⊥
IsCalm _ = Unit {0}

pub idle_on : Idle ≡ LinkOn → ⊥
idle_on e = cc

counted_lit : (l : LinkAt) (state : LinkState) → IsLit (counted l state) → IsLit l
counted_lit l Idle h = record { carrier = h.carrier; on = h.on }
counted_lit l LinkOn h = record { carrier = h.carrier; on = h.on }
counted_lit l Present h = h
counted_lit l SLock h = h
counted_lit l MLock h = h
counted_lit l Locked h = h
counted_lit l Calibration h = h
counted_lit l Calibrated h = h
counted_lit l RespCalib h = h

calm_lit : (l : LinkAt) (row : Row) → IsCalm row → IsLit (by_row l row) → IsLit l
calm_lit l NoRow calm h = h
calm_lit l (Stays sends) calm h = h
calm_lit l (Moves next sends) calm h = absurd (calm h.on)
calm_lit l (Keeps tx rx next sends) calm h = absurd (calm h.on)
calm_lit l (Resends sends) calm h = record { carrier = h.carrier; on = h.on }
calm_lit l Fails calm h = absurd (idle_on h.on)
calm_lit l Waits calm h = record { carrier = h.carrier; on = h.on }
calm_lit l Counts calm h = counted_lit l l.state h
calm_lit l (CarrierComes own_module) calm h = absurd (idle_on h.on)
calm_lit l CarrierGoes calm h = absurd (idle_on h.on)

calm_under : (b : Bool) (row : Row) → IsCalm row → IsCalm (under b row)
calm_under true row h = h
calm_under false row h = tt

calm_if : (b : Bool) (one other : Row) → IsCalm one → IsCalm other → IsCalm (if b then one else other)
calm_if true one other h k = h
calm_if false one other h k = k

calm_timer : (l : LinkAt) (o : Option Waiting) → IsCalm (timer_row l o)
calm_timer l None = tt
calm_timer l (Some w) =
    calm_if (w.ticks == 1) (if nat_lt 0 w.retries then Resends (resent l l.state) else Fails) Waits
    (calm_if (nat_lt 0 w.retries) (Resends (resent l l.state)) Fails tt tt) tt

calm_tick : (l : LinkAt) (state : LinkState) (locked : Bool) → IsCalm (tick_row l state locked)
calm_tick l Idle locked = tt
calm_tick l LinkOn locked = tt
calm_tick l SLock true = λ e. let f : Locked ≡ LinkOn = e in cc
calm_tick l SLock false = calm_timer l l.waiting
calm_tick l Calibration locked = λ e. let f : Calibrated ≡ LinkOn = e in cc
calm_tick l Present locked = calm_timer l l.waiting
calm_tick l MLock locked = calm_timer l l.waiting
calm_tick l Locked locked = calm_timer l l.waiting
calm_tick l Calibrated locked = calm_timer l l.waiting
calm_tick l RespCalib locked = calm_timer l l.waiting

-- what is no message leaves no other link on
abbrev IsCalmInput : LinkIn → Type 0
IsCalmInput (link_in.Msg message) = ⊥
IsCalmInput (link_in.Announce suffix) = ⊥
IsCalmInput _ = Unit {0}

input_lit : (l : LinkAt) (input : LinkIn) → IsCalmInput input → IsLit (after l input) → IsLit l
input_lit l (link_in.Msg message) calm h = absurd calm
input_lit l (link_in.Announce suffix) calm h = absurd calm
input_lit l (link_in.Tick locked) calm h =
    calm_lit l (row_of l (link_in.Tick locked)) (calm_under l.carrier (tick_row l l.state locked) (calm_tick l l.state locked)) h
input_lit l link_in.CarrierDown calm h = calm_lit l (row_of l link_in.CarrierDown) (calm_under l.carrier CarrierGoes tt) h
input_lit l (link_in.CarrierUp own_module) calm h = calm_lit l (row_of l (link_in.CarrierUp own_module)) tt h

abbrev IsCalmNews : LinkNews → Type 0
IsCalmNews (Given input) = IsCalmInput input
IsCalmNews _ = Unit {0}

news_lit : (set : Setting) (l : LinkAt) (news : LinkNews) → IsCalmNews news → IsLit (link_after set l news) → IsLit l
news_lit set l Nothing calm h = h
news_lit set l (Given input) calm h = input_lit l input calm h
news_lit set l Renewed calm h = absurd (idle_on h.on)

calm_where : (b : Bool) (news : LinkNews) → IsCalmNews news → IsCalmNews (if b then news else Nothing)
calm_where true news h = h
calm_where false news h = tt

calm_input : (fixed : NodeSetting) (n : NodeAt) (input : Input) (says : Result PtpMsg FrameFault) (p : ℕ) → is_frame input ≡ false → IsCalmNews (news_at fixed n input says p)
calm_input fixed n Tick says p e = tt
calm_input fixed n (Sample number base bits) says p e = tt
calm_input fixed n (Frame q octets raw sample) says p e = absurd (let f : true ≡ false = e in cc)
calm_input fixed n (Sent q seq delay stamp) says p e = tt
calm_input fixed n (Carrier q true own_module) says p e = calm_where (p == q) (Given (link_in.CarrierUp own_module)) tt
calm_input fixed n (Carrier q false own_module) says p e = calm_where (p == q) (Given link_in.CarrierDown) tt
calm_input fixed n Reset says p e = tt

-- an output that does not report WR_LINK_ON
abbrev pub NotOn : Output → Type 0
NotOn (Report (Link p (In LinkOn))) = ⊥
NotOn _ = Unit {0}

same_word : is_word (In LinkOn) (In LinkOn) ≡ false → ⊥
same_word e = let f : true ≡ false = e in cc

not_on : StepGivesLinks → (fixed : NodeSetting) (t : Taken) (n : NodeAt) → is_frame t.input ≡ false → (o : Output) → WordSo fixed n (node_step fixed t n) o → NotOn o
not_on links fixed t n e (Report (Link p (In LinkOn))) h =
    let lit : IsLit (link_at fixed.set (node_step fixed t n).node p) = word_on (link_at fixed.set (node_step fixed t n).node p) h.is in
    let by_news : IsLit (link_after (setting_of fixed.set p) (link_at fixed.set n p) (news_at fixed n t.input t.says p)) = subst IsLit (links fixed t n p) lit in
    let was : IsLit (link_at fixed.set n p) =
    news_lit (setting_of fixed.set p) (link_at fixed.set n p) (news_at fixed n t.input t.says p) (calm_input fixed n t.input t.says p e) by_news in
    same_word (subst (λ (w : LinkWord). is_word w (In LinkOn) ≡ false) (lit_word (link_at fixed.set n p) was) h.other)
not_on links fixed t n e _ h = tt

-- an input that is no frame brings no port to WR_LINK_ON
pub quiet_step : StepGivesLinks → (fixed : NodeSetting) (t : Taken) (n : NodeAt) → is_frame t.input ≡ false → AllByRecursion NotOn (outputs_of fixed t.input n (node_step fixed t n))
quiet_step links fixed t n e =
    all_weaker (WordSo fixed n (node_step fixed t n)) NotOn (not_on links fixed t n e) (outputs_of fixed t.input n (node_step fixed t n)) (outputs_so fixed t.input n (node_step fixed t n))
