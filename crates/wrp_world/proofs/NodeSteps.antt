-- The step of a node that took its input: what is reported of it to the rest of the world is the step of the
-- definition.
use Rattle.std.proofs.Common.{◌≡◌, ◌∙◌, refl, ap, ap₂, sym, subst, ℕ, zero, suc, ◌==◌, ◌||◌, ◌≤◌, ◌^◌, ◌⊎◌, inl, inr, ℤ, pos, unsigned_abs, Bool, true, false, if◌then◌else◌, List, [], ◌∷◌, ◌++◌, length, map, flat_map, Option, None, Some, option_map, slice_get, Result, arith}
use Rattle.std.proofs.lemmas.Int.{ints}
use Rattle.std.specs.List.{AllByRecursion, AllZip, list_any}
use Rattle.std.proofs.lemmas.Bool.{false≢true, or_right}
use Rattle.std.proofs.lemmas.Option.{none-some, same_Some}
use Rattle.wrp_network.specs.declared.configuration.NetCfg.{NetCfg}
use Rattle.wrp_base.specs.declared.link.Role.{Role}
use Rattle.wrp_base.specs.declared.link.Role.TheVariants.{Master, Slave}
use Rattle.wrp_base.specs.declared.message.PtpMsg.{PtpMsg}
use Rattle.wrp_network.specs.declared.network.LinkCfg.{LinkCfg}
use Rattle.wrp_network.specs.Network.{End, NamesNoPortTwice}
use Rattle.wrp_base.proofs.Lists.{length_map}
use Rattle.wrp_data.specs.declared.datasets.PortDs.{PortDs}
use Rattle.wrp_frame.specs.declared.fault.FrameFault.{FrameFault}
use Rattle.wrp_frame.specs.SentOctets.{octets_of}
use Rattle.wrp_link.specs.Table.{word_of}
use Rattle.wrp_node.specs.declared.interface.Input.{Input}
use Rattle.wrp_node.specs.declared.interface.Input.TheVariants.{Tick, Sample, Frame, Sent, Carrier, Reset}
use Rattle.wrp_node.specs.declared.interface.NodeSet.{NodeSet}
use Rattle.wrp_node.specs.declared.interface.Output.{Output}
use Rattle.wrp_node.specs.declared.interface.Output.TheVariants.{Send, Step as StepOf, Dac, Report as ReportOf}
use Rattle.wrp_node.specs.declared.interface.Report.TheVariants.{Servo}
use Rattle.wrp_node.specs.NodeAt.{NodeSetting, NodeAt, Taken, numbers_of, link_at, state_of}
use Rattle.wrp_node.specs.NodeRun.{IsSaid, dac_out, est_out, node_after, outputs_of, port_out, servo_out, step_out, track_out, word_out, rank_of as place_in, frame_out}
use Rattle.wrp_node.specs.Node.{is_tick}
use Rattle.wrp_node.specs.NodeStep.{node_step}
use Rattle.wrp_node.specs.New.{OfDifferentNumbers}
use Rattle.wrp_node.specs.Sends.{frames_at, is_own_port}
use Rattle.wrp_node.specs.Set.{master_at, slave_at, ports_at, set_of}
use Rattle.wrp_node.specs.Spelled.{AreSpelled}
use Rattle.wrp_node.specs.StandsFor.{IsAt, NodeOf, StandsFor as NodeStandsFor, Steps}
use Rattle.wrp_node.specs.States.{state_at}
use Rattle.wrp_node.specs.StepLaws.{is_frame, ticks_by}
use Rattle.wrp_node.specs.Telling.{Step}
use Rattle.wrp_node.proofs.OwnPorts.{different_numbers}
use Rattle.wrp_node.proofs.Sends.{sends_are_put_out}
use Rattle.wrp_node.proofs.Spelling.{among_is_port}
use Rattle.wrp_node.proofs.StepLaws.{commands_are_held, only_frames_say, sends_are_few, ticks_are_counted}
use Rattle.wrp_node.proofs.Indexing.{eq_is}
use Rattle.wrp_node.proofs.OneRun.{ok_of}
use Rattle.wrp_course.specs.declared.node_out.NodeOut.{NodeOut}
use Rattle.wrp_changes.specs.declared.telling.News.{News}
use Rattle.wrp_changes.specs.Gifts.{IsRead}
use Rattle.wrp_course.specs.Given.{Given, mover_of, step_of, taken_of}
use Rattle.wrp_world.specs.Taking.{Asks, IsNewsOf}
use Rattle.wrp_changes.specs.PlantTold.{IsPortOf, IsSent, IsStepOf, MayStep, NoneStepped, SendsFew, cycles_in}
use Rattle.wrp_course.specs.Setting.{Setting, end_at, end_of, node_setting_of}
use Rattle.wrp_world.specs.StandsFor.{WorldOf}
use Rattle.wrp_course.specs.WorldAt.{WorldAt}

-- What is noted with an input

pub read_is_said : (put : ℤ) (says : Result PtpMsg FrameFault) (at : ℤ) (input : Input) → IsRead put says at input → IsSaid input says
read_is_said put says at (Frame p octets raw sample) h = h.0
read_is_said put says at Tick h = tt
read_is_said put says at (Sample n base bits) h = tt
read_is_said put says at (Sent p seq delay stamp) h = tt
read_is_said put says at (Carrier p up m) h = tt
read_is_said put says at Reset h = tt

pub said_is_read : (put : ℤ) (says : Result PtpMsg FrameFault) (input : Input) → IsSaid input says → IsRead put says put input
said_is_read put says (Frame p octets raw sample) h = (h, refl)
said_is_read put says Tick h = tt
said_is_read put says (Sample n base bits) h = tt
said_is_read put says (Sent p seq delay stamp) h = tt
said_is_read put says (Carrier p up m) h = tt
said_is_read put says Reset h = tt

abbrev pub took : Input → Result PtpMsg FrameFault → ℤ → Taken
took input says answer = record { input = input; says = says; answer = answer }

-- an input has only one step: what is noted with it does not matter unless it is a frame
same_step : (fixed : NodeSetting) (n : NodeAt) (input : Input) (says other : Result PtpMsg FrameFault) (y answer : ℤ) →
    IsSaid input says → IsSaid input other → (is_frame input ≡ true → y ≡ answer) →
    node_step fixed (took input other y) n ≡ node_step fixed (took input says answer) n
same_step fixed n (Frame p octets raw sample) says other y answer h k e =
    ap₂ (λ (r : Result PtpMsg FrameFault) (z : ℤ). node_step fixed (took (Frame p octets raw sample) r z) n) (ok_of octets.items other k says h) (e refl)
same_step fixed n Tick says other y answer h k e = only_frames_say fixed n Tick other says y answer refl
same_step fixed n (Sample m base bits) says other y answer h k e = only_frames_say fixed n (Sample m base bits) other says y answer refl
same_step fixed n (Sent p seq delay stamp) says other y answer h k e = only_frames_say fixed n (Sent p seq delay stamp) other says y answer refl
same_step fixed n (Carrier p up m) says other y answer h k e = only_frames_say fixed n (Carrier p up m) other says y answer refl
same_step fixed n Reset says other y answer h k e = only_frames_say fixed n Reset other says y answer refl

-- A node of a state took an input: n is the state's node, which these inputs made
pub record NodeStepped {F : Type 0} (post : F → ℤ → ℤ → Type 0) (fixed : NodeSetting) (n : NodeAt) (inputs : List Taken) (t : Taken) (node : NodeOf F) (put_out : List Output) : Type 0 where
  pub outputs : put_out ≡ outputs_of fixed t.input n (node_step fixed t n)
  pub at : (node_step fixed t n).node ≡ node_after fixed (t ∷ inputs)
  pub stands : NodeStandsFor post fixed node (t ∷ inputs)
  pub spelled : (p : ℕ) → is_own_port fixed p ≡ true → AreSpelled ((node_step fixed t n).sends p)

stepped_after : {F : Type 0} (post : F → ℤ → ℤ → Type 0) (fixed : NodeSetting) (inputs : List Taken) (input : Input) (says other : Result PtpMsg FrameFault) (y answer : ℤ) (old new : NodeOf F) (put_out : List Output) →
    Steps post old new (took input says answer) put_out → NodeStandsFor post fixed old inputs → IsSaid input other → (is_frame input ≡ true → y ≡ answer) →
    NodeStepped post fixed (node_after fixed inputs) inputs (took input other y) new put_out
stepped_after post fixed inputs input says other y answer old new put_out h st k e =
    let same : node_step fixed (took input other y) (node_after fixed inputs) ≡ node_step fixed (took input says answer) (node_after fixed inputs) =
    same_step fixed (node_after fixed inputs) input says other y answer h.said k e in
    record {
      outputs = h.outputs fixed inputs st ∙ ap (outputs_of fixed input (node_after fixed inputs)) (sym same);
      at = refl;
      stands = record {
        said = (k, st.said);
        is_at = subst (λ (m : NodeAt). IsAt post fixed m new) (sym (ap (λ (q : Step). q.node) same)) (h.stands fixed inputs st).is_at;
      };
      spelled = λ p here. subst (λ (q : Step). AreSpelled (q.sends p)) (sym same) (h.spelled fixed inputs st p here);
    }

pub node_stepped : {F : Type 0} (post : F → ℤ → ℤ → Type 0) (fixed : NodeSetting) (n : NodeAt) (inputs : List Taken) (input : Input) (says other : Result PtpMsg FrameFault) (y answer : ℤ) (old new : NodeOf F) (put_out : List Output) →
    Steps post old new (took input says answer) put_out → n ≡ node_after fixed inputs → NodeStandsFor post fixed old inputs → IsSaid input other → (is_frame input ≡ true → y ≡ answer) →
    NodeStepped post fixed n inputs (took input other y) new put_out
node_stepped post fixed n inputs input says other y answer old new put_out h at st k e =
    subst (λ (m : NodeAt). NodeStepped post fixed m inputs (took input other y) new put_out) (sym at)
    (stepped_after post fixed inputs input says other y answer old new put_out h st k e)

-- The clock step among the outputs

abbrev NoStep : Output → Type 0
NoStep (StepOf cycles) = ⊥
NoStep out = Unit {0}

none_in : (outs : List Output) → AllByRecursion NoStep outs → cycles_in outs ≡ pos 0
none_in [] h = refl
none_in (Send p frame ∷ outs) h = none_in outs h.1
none_in (StepOf cycles ∷ outs) h = absurd h.0
none_in (Dac value ∷ outs) h = none_in outs h.1
none_in (ReportOf report ∷ outs) h = none_in outs h.1

both : (xs ys : List Output) → AllByRecursion NoStep xs → AllByRecursion NoStep ys → AllByRecursion NoStep (xs ++ ys)
both [] ys h k = k
both (x ∷ xs) ys h k = (h.0, both xs ys h.1 k)

no_step_where : (b : Bool) (out : Output) → NoStep out → AllByRecursion NoStep (if b then [] else out ∷ [])
no_step_where true out h = tt
no_step_where false out h = (h, tt)

no_step_dac : (dac : Option ℕ) → AllByRecursion NoStep (dac_out dac)
no_step_dac None = tt
no_step_dac (Some value) = (tt, tt)

no_step_frames : (p : ℕ) (ms : List PtpMsg) → AllByRecursion NoStep (map (frame_out p) ms)
no_step_frames p [] = tt
no_step_frames p (m ∷ ms) = (tt, no_step_frames p ms)

no_step_est : (est : Option ℤ) → AllByRecursion NoStep (est_out est)
no_step_est None = tt
no_step_est (Some est) = (tt, tt)

no_step_track_where : (b : Bool) (est : Option ℤ) → AllByRecursion NoStep (if b then est_out est else [])
no_step_track_where true est = no_step_est est
no_step_track_where false est = tt

no_step_track : (fixed : NodeSetting) (input : Input) (n : NodeAt) → AllByRecursion NoStep (track_out fixed input n)
no_step_track fixed Tick n = no_step_track_where _ _
no_step_track fixed (Sample m base bits) n = tt
no_step_track fixed (Frame p octets raw sample) n = tt
no_step_track fixed (Sent p seq delay stamp) n = tt
no_step_track fixed (Carrier p up m) n = tt
no_step_track fixed Reset n = tt

no_step_port : (fixed : NodeSetting) (before : NodeAt) (s : Step) (p : ℕ) → AllByRecursion NoStep (port_out fixed before s p)
no_step_port fixed before s p =
    both (word_out p (word_of (link_at fixed.set before p)) (word_of (link_at fixed.set s.node p))) (map (frame_out p) (s.sends p))
    (no_step_where _ _ tt) (no_step_frames p (s.sends p))

no_step_ports : (fixed : NodeSetting) (before : NodeAt) (s : Step) (ps : List ℕ) → AllByRecursion NoStep (flat_map (port_out fixed before s) ps)
no_step_ports fixed before s [] = tt
no_step_ports fixed before s (p ∷ ps) =
    both (port_out fixed before s p) (flat_map (port_out fixed before s) ps) (no_step_port fixed before s p) (no_step_ports fixed before s ps)

is_zero : (n : ℕ) → (n == 0) ≡ true → n ≡ 0
is_zero n e = grind (arith, e)

zero_size : (c : ℤ) → (unsigned_abs c == 0) ≡ true → pos 0 ≡ c
zero_size c e = let h : unsigned_abs c ≡ 0 = is_zero (unsigned_abs c) e in omega (arith, ints, h)

step_where : (b : Bool) (c : ℤ) → (unsigned_abs c == 0) ≡ b → cycles_in (if b then [] else StepOf c ∷ []) ≡ c
step_where true c e = zero_size c e
step_where false c e = refl

-- outputs after others, with no clock step among them
none_behind : (xs ys : List Output) → AllByRecursion NoStep ys → cycles_in (xs ++ ys) ≡ cycles_in xs
none_behind [] ys h = none_in ys h
none_behind (Send p frame ∷ xs) ys h = none_behind xs ys h
none_behind (StepOf cycles ∷ xs) ys h = refl
none_behind (Dac value ∷ xs) ys h = none_behind xs ys h
none_behind (ReportOf report ∷ xs) ys h = none_behind xs ys h

four_behind : (a b c d e : List Output) → AllByRecursion NoStep b → AllByRecursion NoStep c → AllByRecursion NoStep d → AllByRecursion NoStep e →
    cycles_in (a ++ b ++ c ++ d ++ e) ≡ cycles_in a
four_behind a b c d e hb hc hd he =
    none_behind (a ++ b ++ c ++ d) e he ∙ none_behind (a ++ b ++ c) d hd ∙ none_behind (a ++ b) c hc ∙ none_behind a b hb

pub cycles_out : (fixed : NodeSetting) (input : Input) (before : NodeAt) (s : Step) → cycles_in (outputs_of fixed input before s) ≡ s.cycles
cycles_out fixed input before s =
    four_behind (step_out s.cycles) (dac_out s.dac) (servo_out (state_of fixed before) (state_of fixed s.node)) (flat_map (port_out fixed before s) (numbers_of fixed.set)) (track_out fixed input s.node)
    (no_step_dac s.dac) (no_step_where (place_in (state_of fixed before) == place_in (state_of fixed s.node)) (ReportOf (Servo (state_of fixed s.node))) tt)
    (no_step_ports fixed before s (numbers_of fixed.set)) (no_step_track fixed input s.node)
    ∙ step_where (unsigned_abs s.cycles == 0) s.cycles refl

-- The frames among the outputs

are_sent : (ms : List PtpMsg) → AreSpelled ms → AllZip IsSent ms (map octets_of ms)
are_sent [] h = tt
are_sent (m ∷ ms) h = (record { octets = refl; says = h.0 }, are_sent ms h.1)

where_true : {A : Type 0} (b : Bool) (x y : A) → b ≡ true → (if b then x else y) ≡ x
where_true b x y e = rw e refl

few_where : (b : Bool) (ms : List PtpMsg) → length ms ≤ 4 → length (if b then map octets_of ms else []) ≤ 4
few_where true ms h = let e : length (map octets_of ms) ≡ length ms = length_map octets_of ms in omega (arith, e, h)
few_where false ms h = omega arith

-- The ports at the ends of links

abbrev has_port : ℕ → List PortDs → Bool
has_port p ports = list_any (λ (ds : PortDs). ds.own.port == p) ports

or_first : (a b c : Bool) → (a || b) ≡ true → (b ≡ true → c ≡ true) → (a || c) ≡ true
or_first true b c h k = refl
or_first false b c h k = k h

or_one : (b : Bool) → b ≡ true → (b || false) ≡ true
or_one true h = refl
or_one false h = h

any_first : (p : ℕ) (xs ys : List PortDs) → has_port p xs ≡ true → has_port p (xs ++ ys) ≡ true
any_first p [] ys h = absurd (false≢true h)
any_first p (x ∷ xs) ys h = or_first (x.own.port == p) (has_port p xs) (has_port p (xs ++ ys)) h (any_first p xs ys)

any_later : (p : ℕ) (xs ys : List PortDs) → has_port p ys ≡ true → has_port p (xs ++ ys) ≡ true
any_later p [] ys h = h
any_later p (x ∷ xs) ys h = or_right (x.own.port == p) (has_port p (xs ++ ys)) (any_later p xs ys h)

one_port : (p : ℕ) (ds : PortDs) (b : Bool) → b ≡ true → (ds.own.port == p) ≡ true → has_port p (if b then ds ∷ [] else []) ≡ true
one_port p ds true e h = or_one (ds.own.port == p) h
one_port p ds false e h = absurd (false≢true e)

end_of_link : (net : NetCfg) (n : ℕ) (link : LinkCfg) (r : Role) → (end_of r link).node ≡ n → has_port (end_of r link).port (ports_at net n link) ≡ true
end_of_link net n link Master e =
    any_first link.upper_port (if link.upper == n then master_at net link ∷ [] else []) (if link.lower == n then slave_at net link ∷ [] else [])
    (one_port link.upper_port (master_at net link) (link.upper == n) (eq_is link.upper n e) (eq_is link.upper_port link.upper_port refl))
end_of_link net n link Slave e =
    any_later link.lower_port (if link.upper == n then master_at net link ∷ [] else []) (if link.lower == n then slave_at net link ∷ [] else [])
    (one_port link.lower_port (slave_at net link) (link.lower == n) (eq_is link.lower n e) (eq_is link.lower_port link.lower_port refl))

end_among : (net : NetCfg) (n : ℕ) (links : List LinkCfg) (k : ℕ) (r : Role) (end : End) → option_map (end_of r) (slice_get links k) ≡ Some end → end.node ≡ n →
    has_port end.port (flat_map (ports_at net n) links) ≡ true
end_among net n [] k r end e h = absurd (none-some end e)
end_among net n (link ∷ links) zero r end e h =
    let same : end_of r link ≡ end = same_Some (end_of r link) end e in
    any_first end.port (ports_at net n link) (flat_map (ports_at net n) links)
    (subst (λ (x : End). x.node ≡ n → has_port x.port (ports_at net n link) ≡ true) same (end_of_link net n link r) h)
end_among net n (link ∷ links) (suc k) r end e h =
    any_later end.port (ports_at net n link) (flat_map (ports_at net n) links) (end_among net n links k r end e h)

-- each end of a link that belongs to a node is one of the node's ports
pub end_is_port : (s : Setting) (n k : ℕ) (r : Role) (end : End) → s.set n ≡ set_of s.cfg n → end_at s k r ≡ Some end → end.node ≡ n →
    is_own_port (node_setting_of s n) end.port ≡ true
end_is_port s n k r end set e h = ap (λ (x : NodeSet). has_port end.port x.ports.items) set ∙ end_among s.cfg n s.cfg.links.items k r end e h

pub ports_differ : (s : Setting) (n : ℕ) → s.set n ≡ set_of s.cfg n → NamesNoPortTwice s.cfg → OfDifferentNumbers (s.set n).ports.items
ports_differ s n set once = subst (λ (x : NodeSet). OfDifferentNumbers x.ports.items) (sym set) (different_numbers s.cfg n once)

-- What is reported

-- the facts of a step: a node with a setting took an input, and this is reported of it
pub record SteppedAt {F : Type 0} (post : F → ℤ → ℤ → Type 0) (s : Setting) (v : WorldAt) (put y : ℤ) (g : Given) (old new : NodeOf F) (out : NodeOut) (put_out : List Output) (news : News) : Type 0 where
  pub set : s.set g.to ≡ set_of s.cfg g.to
  pub once : NamesNoPortTwice s.cfg
  pub node : out.node ≡ g.to
  pub input : out.input ≡ g.input
  pub read : IsRead put g.says g.at g.input
  pub at : v.node g.to ≡ node_after (node_setting_of s g.to) (v.inputs g.to)
  pub before : NodeStandsFor post (node_setting_of s g.to) old (v.inputs g.to)
  pub stepped : NodeStepped post (node_setting_of s g.to) (v.node g.to) (v.inputs g.to) (taken_of y g) new put_out
  pub news_is : IsNewsOf post put old new out news

frames_are : {F : Type 0} (post : F → ℤ → ℤ → Type 0) (s : Setting) (v : WorldAt) (put y : ℤ) (g : Given) (old new : NodeOf F) (out : NodeOut) (put_out : List Output) (news : News) →
    SteppedAt post s v put y g old new out put_out news → (p : ℕ) →
    frames_at p put_out ≡ (if is_own_port (node_setting_of s g.to) p then map octets_of ((step_of s y v g).sends p) else [])
frames_are post s v put y g old new out put_out news h p =
    ap (frames_at p) h.stepped.outputs
    ∙ sends_are_put_out (node_setting_of s g.to) (taken_of y g) (v.node g.to) p (ports_differ s g.to h.set h.once)

port_told : {F : Type 0} (post : F → ℤ → ℤ → Type 0) (s : Setting) (v : WorldAt) (put y : ℤ) (g : Given) (old new : NodeOf F) (out : NodeOut) (put_out : List Output) (news : News) →
    SteppedAt post s v put y g old new out put_out news → (p : ℕ) → is_own_port (node_setting_of s g.to) p ≡ true → IsPortOf s v g (step_of s y v g) news put_out p
port_told post s v put y g old new out put_out news h p here = record {
  frames =
      subst (λ (fs : List (List ℕ)). AllZip IsSent ((step_of s y v g).sends p) fs)
      (sym (frames_are post s v put y g old new out put_out news h p ∙ where_true (is_own_port (node_setting_of s g.to) p) (map octets_of ((step_of s y v g).sends p)) [] here))
      (are_sent ((step_of s y v g).sends p) (h.stepped.spelled p here));
  before =
      h.news_is.before p (among_is_port (node_setting_of s g.to) old.parts.ports p h.before.is_at.parts.numbers ∙ here) (node_setting_of s g.to) (v.inputs g.to) h.before
      ∙ ap (state_at p (node_setting_of s g.to)) (sym h.at);
  after =
      h.news_is.after p (among_is_port (node_setting_of s g.to) new.parts.ports p h.stepped.stands.is_at.parts.numbers ∙ here) (node_setting_of s g.to) (taken_of y g ∷ v.inputs g.to) h.stepped.stands
      ∙ ap (state_at p (node_setting_of s g.to)) (sym h.stepped.at);
}

-- it is the step of the definition
pub is_step_of : {F : Type 0} (post : F → ℤ → ℤ → Type 0) (s : Setting) (v : WorldAt) (put y : ℤ) (g : Given) (old new : NodeOf F) (out : NodeOut) (put_out : List Output) (news : News) →
    SteppedAt post s v put y g old new out put_out news → IsStepOf s v g (step_of s y v g) news put_out
is_step_of post s v put y g old new out put_out news h = record {
  node = sym (h.news_is.node ∙ h.node);
  ticked = h.news_is.ticked ∙ ap is_tick h.input;
  cycles = ap cycles_in h.stepped.outputs ∙ cycles_out (node_setting_of s g.to) g.input (v.node g.to) (step_of s y v g);
  by = h.news_is.by g (subst (IsRead put g.says g.at) (sym h.input) h.read) ∙ ap (mover_of g) h.input;
  ports = λ k r end e own. port_told post s v put y g old new out put_out news h end.port (end_is_port s g.to k r end h.set e own);
}

-- What the report requires

pub sends_few : {F : Type 0} (post : F → ℤ → ℤ → Type 0) (s : Setting) (v : WorldAt) (put y : ℤ) (g : Given) (old new : NodeOf F) (out : NodeOut) (put_out : List Output) (news : News) →
    SteppedAt post s v put y g old new out put_out news → SendsFew put_out
sends_few post s v put y g old new out put_out news h p =
    subst (λ (fs : List (List ℕ)). length fs ≤ 4) (sym (frames_are post s v put y g old new out put_out news h p))
    (few_where (is_own_port (node_setting_of s g.to) p) ((step_of s y v g).sends p) (sends_are_few (node_setting_of s g.to) (taken_of y g) (v.node g.to) p))

asked : {F : Type 0} (world : WorldOf F) (input : Input) (cycles : ℤ) → Asks world input → (is_frame input ≡ false → cycles ≡ pos 0) → unsigned_abs cycles ≤ 2 ^ 62 →
    (cycles ≡ pos 0) ⊎ ((unsigned_abs cycles ≤ 2 ^ 62) × NoneStepped world.plant)
asked world (Frame p octets raw sample) cycles a h k = inr (k, a)
asked world Tick cycles a h k = inl (h refl)
asked world (Sample n base bits) cycles a h k = inl (h refl)
asked world (Sent p seq delay stamp) cycles a h k = inl (h refl)
asked world (Carrier p up m) cycles a h k = inl (h refl)
asked world Reset cycles a h k = inl (h refl)

pub may_step : {F : Type 0} (post : F → ℤ → ℤ → Type 0) (s : Setting) (v : WorldAt) (put y : ℤ) (g : Given) (old new : NodeOf F) (out : NodeOut) (put_out : List Output) (news : News) (world : WorldOf F) →
    SteppedAt post s v put y g old new out put_out news → Asks world out.input → MayStep put_out world.plant
may_step post s v put y g old new out put_out news world h a =
    let e : cycles_in put_out ≡ (step_of s y v g).cycles = ap cycles_in h.stepped.outputs ∙ cycles_out (node_setting_of s g.to) g.input (v.node g.to) (step_of s y v g) in
    let held = commands_are_held (node_setting_of s g.to) (taken_of y g) (v.node g.to) in
    subst (λ c. (c ≡ pos 0) ⊎ ((unsigned_abs c ≤ 2 ^ 62) × NoneStepped world.plant)) (sym e)
    (asked world g.input (step_of s y v g).cycles (subst (Asks world) h.input a) held.by_frame held.held)

-- How the ticks of a node are counted
pub ticks_told : {F : Type 0} (post : F → ℤ → ℤ → Type 0) (s : Setting) (v : WorldAt) (put y : ℤ) (g : Given) (old new : NodeOf F) (out : NodeOut) (put_out : List Output) (news : News) →
    SteppedAt post s v put y g old new out put_out news → new.parts.ticks ≡ ticks_by out.input old.parts.ticks
ticks_told post s v put y g old new out put_out news h =
    h.stepped.stands.is_at.parts.ticks
    ∙ sym (ap (λ (m : NodeAt). m.ticks) h.stepped.at)
    ∙ ticks_are_counted (node_setting_of s g.to) (taken_of y g) (v.node g.to)
    ∙ ap₂ (λ (i : Input) (m : NodeAt). ticks_by i m.ticks) (sym h.input) h.at
    ∙ ap (ticks_by out.input) (sym h.before.is_at.parts.ticks)
