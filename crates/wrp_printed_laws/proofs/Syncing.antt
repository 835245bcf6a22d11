-- Each step of a clock is printed while the last printed state of its servo is SYNC_TAI or SYNC_NSEC: the last
-- printed state is the one that the servo is in, because each change of it is printed.
use Rattle.std.proofs.Common.{◌≡◌, ◌⊎◌, inl, inr, ◌∙◌, refl, ap, sym, subst, append-nil, append_assoc, ℕ, ◌<◌, ◌==◌, ℤ, pos, unsigned_abs, Bool, true, false, if◌then◌else◌, is_some, List, [], ◌∷◌, ◌++◌, flat_map, Some, codes}
use Rattle.std.specs.Fmt.{decimal}
use Rattle.std.specs.List.{AllByRecursion}
use Rattle.std.proofs.lemmas.Bool.{eqb-true, false≢true}
use Rattle.std.proofs.lemmas.Bool.Decides.{eqb_tells}
use Rattle.std.proofs.lemmas.Grind.{flat_map-append}
use Rattle.wrp_base.specs.declared.link.ServoState.{ServoState}
use Rattle.wrp_base.specs.declared.link.ServoState.TheVariants.{Uninit, SyncTai, SyncNsec, SyncPhase, WaitStable, Track as Tracking, Holdover}
use Rattle.wrp_network.specs.Network.{name_at, node_count}
use Rattle.wrp_base.proofs.Lists.{all_append, heads, tails}
use Rattle.wrp_bounds.specs.Bounds.{path_of}
use Rattle.wrp_caldb.specs.Name.{same_name}
use Rattle.wrp_config.specs.Accepted.{HasNames}
use Rattle.wrp_lines.specs.Lines.{output_line, output_words}
use Rattle.wrp_lines.specs.Words.{servo_word}
use Rattle.wrp_node.specs.declared.interface.Input.{Input}
use Rattle.wrp_node.specs.declared.interface.Output.{Output}
use Rattle.wrp_node.specs.declared.interface.Output.TheVariants.{Send, Step as StepOf, Dac, Report}
use Rattle.wrp_node.specs.declared.interface.Report.TheVariants.{Link, Servo, Track}
use Rattle.wrp_node.specs.NodeAt.{NodeAt, NodeSetting, numbers_of, slave_of, state_of}
use Rattle.wrp_node.specs.NodeRun.{dac_out, new_node, outputs_of, rank_of, port_out, servo_out, step_out, track_out}
use Rattle.wrp_node.specs.StepLaws.{CommandsAreHeld}
use Rattle.wrp_node.specs.Telling.{Step}
use Rattle.wrp_course.specs.Given.{Given, given_by, gives, gives_all, node_step_of, step_of, steps_of, taken_of}
use Rattle.wrp_course.specs.Moved.{moved}
use Rattle.wrp_course.specs.Run.{Happened, world_after}
use Rattle.wrp_course.specs.Runs.{IsRun}
use Rattle.wrp_course.specs.Setting.{Setting, node_setting_of}
use Rattle.wrp_course.specs.WorldAt.{WorldAt}
use Rattle.wrp_printed_laws.specs.Laws.{PrintsStates, StepsComeSynced, lines_in, output_lines, step_lines}
use Rattle.wrp_printed_laws.specs.Steps.{IsLastState, SaysState, StepsAreSynced}
use Rattle.wrp_printed_laws.specs.Words.{Reads}
use Rattle.wrp_printed_laws.proofs.Commands.{IsMeant, IsSync, commands_meant}
use Rattle.wrp_printed_laws.proofs.Names.{same_node}
use Rattle.wrp_printed_laws.proofs.Outputs.{Others, dac_all, ports_all, track_all}
use Rattle.wrp_trace.proofs.GivenWithin.{AllWithin, given_within}
use Rattle.wrp_printed_laws.proofs.Words.{output_reads}
use Rattle.wrp_lines.proofs.LineWords.{at_word}

-- One more line

-- the place of a line in a list with one more line at its end
abbrev Placed : List (List ℕ) → List ℕ → (before later : List (List ℕ)) → List ℕ → Type 0
Placed lines x before later line =
    ((lines ≡ before) × (x ≡ line)) ⊎ ((rest : List (List ℕ)) × (lines ≡ before ++ line ∷ rest))

no_more : (before later : List (List ℕ)) (line : List ℕ) → [] ≡ before ++ line ∷ later → ⊥
no_more [] later line e = cc
no_more (b ∷ before) later line e = cc

placed : (lines : List (List ℕ)) (x : List ℕ) (before later : List (List ℕ)) (line : List ℕ) → lines ++ x ∷ [] ≡ before ++ line ∷ later
    → Placed lines x before later line
placed [] x [] later line e = inl (refl, heads x line [] later e)
placed [] x (b ∷ before) later line e = absurd (no_more before later line (tails x b [] (before ++ line ∷ later) e))
placed (y ∷ lines) x [] later line e = inr (lines, ap (λ (l : List ℕ). l ∷ lines) (heads y line (lines ++ x ∷ []) later e))
placed (y ∷ lines) x (b ∷ before) later line e = elim (placed lines x before later line (tails y b (lines ++ x ∷ []) (before ++ line ∷ later) e)) [
  | inl it ↦ inl (ap (λ (l : List (List ℕ)). y ∷ l) it.0 ∙ ap (λ (l : List ℕ). l ∷ before) (heads y b (lines ++ x ∷ []) (before ++ line ∷ later) e), it.1)
  | inr it ↦ inr (it.0, ap (λ (l : List (List ℕ)). y ∷ l) it.1 ∙ ap (λ (l : List ℕ). l ∷ (before ++ line ∷ it.0)) (heads y b (lines ++ x ∷ []) (before ++ line ∷ later) e))
]

-- if the line is a step, it comes in this way
abbrev Sync : List ℕ → List (List ℕ) → Type 0
Sync node lines = IsLastState node (codes "sync-tai") lines ⊎ IsLastState node (codes "sync-nsec") lines

abbrev ComesSynced : List (List ℕ) → List ℕ → Type 0
ComesSynced lines x = (node tick cycles : List ℕ) → Reads x (node ∷ tick ∷ codes "step" ∷ cycles ∷ []) → Sync node lines

one_more : (lines : List (List ℕ)) (x : List ℕ) → StepsAreSynced lines → ComesSynced lines x → StepsAreSynced (lines ++ x ∷ [])
one_more lines x steps comes before later line node tick cycles e reads = elim (placed lines x before later line e) [
  | inl it ↦
      subst (Sync node) it.0
      (comes node tick cycles (subst (λ (l : List ℕ). Reads l (node ∷ tick ∷ codes "step" ∷ cycles ∷ [])) (sym it.1) reads))
  | inr it ↦ steps before it.0 line node tick cycles it.1 reads
]

-- States

-- a node's servo is in its first state, or its last printed state is this
abbrev Told : List (List ℕ) → List ℕ → ServoState → Type 0
Told lines node state = (state ≡ Uninit) ⊎ IsLastState node (servo_word state) lines

abbrev SaysNone : List ℕ → List ℕ → Type 0
SaysNone node line = (any : List ℕ) → SaysState node any line → ⊥

stays_last : (lines : List (List ℕ)) (x node state : List ℕ) → SaysNone node x → IsLastState node state lines → IsLastState node state (lines ++ x ∷ [])
stays_last lines x node state none is = record {
  before = is.before;
  line = is.line;
  later = is.later ++ x ∷ [];
  divided = ap (λ (l : List (List ℕ)). l ++ x ∷ []) is.divided ∙ append_assoc is.before (is.line ∷ is.later) (x ∷ []);
  says = is.says;
  last = all_append (SaysNone node) is.later (x ∷ []) is.last (none, tt);
}

stays_told : (lines : List (List ℕ)) (x node : List ℕ) (state : ServoState) → SaysNone node x → Told lines node state → Told (lines ++ x ∷ []) node state
stays_told lines x node state none (inl first) = inl first
stays_told lines x node state none (inr is) = inr (stays_last lines x node (servo_word state) none is)

now_told : (lines : List (List ℕ)) (x node : List ℕ) (state : ServoState) → SaysState node (servo_word state) x → Told (lines ++ x ∷ []) node state
now_told lines x node state says = inr (record { before = lines; line = x; later = []; divided = refl; says = says; last = tt })

-- in a state in which steps are commanded
synced : (lines : List (List ℕ)) (node : List ℕ) (state : ServoState) → IsSync state → Told lines node state → Sync node lines
synced lines node state (inl is) (inl first) = absurd (let f : Uninit ≡ SyncTai = sym first ∙ is in cc)
synced lines node state (inr is) (inl first) = absurd (let f : Uninit ≡ SyncNsec = sym first ∙ is in cc)
synced lines node state (inl is) (inr last) = inl (subst (λ (st : ServoState). IsLastState node (servo_word st) lines) is last)
synced lines node state (inr is) (inr last) = inr (subst (λ (st : ServoState). IsLastState node (servo_word st) lines) is last)

-- The lines of outputs

abbrev words_at : Setting → WorldAt → ℕ → Output → List (List ℕ)
words_at s w m o = name_at s.cfg m ∷ decimal (w.node m).ticks ∷ output_words o (pos (path_of s.cfg m)) (Some (w.clock m).off)

abbrev line_at : Setting → WorldAt → ℕ → Output → List ℕ
line_at s w m o = output_line s.cfg m (w.node m).ticks o (Some (w.clock m).off)

at_reads : (s : Setting) (w : WorldAt) (m : ℕ) (o : Output) → HasNames s.cfg → Reads (line_at s w m o) (words_at s w m o)
at_reads s w m o names = output_reads (name_at s.cfg m) (w.node m).ticks o (pos (path_of s.cfg m)) (Some (w.clock m).off) (at_word s.cfg names m)

abbrev first_of : List (List ℕ) → List ℕ
first_of [] = []
first_of (word ∷ words) = word

abbrev rest_of : List (List ℕ) → List (List ℕ)
rest_of [] = []
rest_of (word ∷ words) = words

abbrev third_of : List (List ℕ) → List ℕ
third_of words = first_of (rest_of (rest_of words))

-- the third word of an output's line
abbrev kind_of : Output → List ℕ
kind_of (Send p frame) = codes "send"
kind_of (StepOf cycles) = codes "step"
kind_of (Dac value) = codes "dac"
kind_of (Report (Link p word)) = codes "link"
kind_of (Report (Servo state)) = codes "servo"
kind_of (Report (Track est)) = codes "track"

kind_is : (s : Setting) (w : WorldAt) (m : ℕ) (o : Output) → third_of (words_at s w m o ++ [] ∷ []) ≡ kind_of o
kind_is s w m (Send p frame) = refl
kind_is s w m (StepOf cycles) = refl
kind_is s w m (Dac value) = refl
kind_is s w m (Report (Link p word)) = refl
kind_is s w m (Report (Servo state)) = refl
kind_is s w m (Report (Track est)) = refl

-- a line of another kind does not read like this
other_kind : (s : Setting) (w : WorldAt) (m : ℕ) (o : Output) (node tick kind : List ℕ) (more : List (List ℕ)) → HasNames s.cfg
    → same_name (kind_of o) kind ≡ false → same_name kind kind ≡ true →
    Reads (line_at s w m o) (node ∷ tick ∷ kind ∷ more) → ⊥
other_kind s w m o node tick kind more names other own reads =
    let same : kind_of o ≡ kind = sym (kind_is s w m o) ∙ ap third_of (sym (at_reads s w m o names) ∙ reads) in
    false≢true (sym other ∙ ap (λ (k : List ℕ). same_name k kind) same ∙ own)

-- neither a step of the clock nor a state of a servo
abbrev IsQuiet : Output → Type 0
IsQuiet o = (same_name (kind_of o) (codes "step") ≡ false) × (same_name (kind_of o) (codes "servo") ≡ false)

others_quiet : Others IsQuiet
others_quiet (StepOf cycles) h = absurd h
others_quiet (Send p frame) h = (refl, refl)
others_quiet (Dac value) h = (refl, refl)
others_quiet (Report (Link p word)) h = (refl, refl)
others_quiet (Report (Servo state)) h = absurd h
others_quiet (Report (Track est)) h = absurd h

-- What holds of the lines so far

-- each step came in sync, and the last printed state of each node is its state
record Holds (s : Setting) (lines : List (List ℕ)) (state : ℕ → ServoState) : Type 0 where
  steps : StepsAreSynced lines
  told : (n : ℕ) → n < node_count s.cfg → Told lines (name_at s.cfg n) (state n)

-- a line that says no state
plain_line : (s : Setting) (lines : List (List ℕ)) (state : ℕ → ServoState) (x : List ℕ) → ComesSynced lines x → ((node : List ℕ) → SaysNone node x)
    → Holds s lines state → Holds s (lines ++ x ∷ []) state
plain_line s lines state x comes none holds = record {
  steps = one_more lines x holds.steps comes;
  told = λ n below. stays_told lines x (name_at s.cfg n) (state n) (none (name_at s.cfg n)) (holds.told n below);
}

says_no_state : (s : Setting) (w : WorldAt) (m : ℕ) (o : Output) → HasNames s.cfg → same_name (kind_of o) (codes "servo") ≡ false → (node : List ℕ)
    → SaysNone node (line_at s w m o)
says_no_state s w m o names other node any says = other_kind s w m o node says.0 (codes "servo") (any ∷ []) names other refl says.1

says_no_step : (s : Setting) (w : WorldAt) (m : ℕ) (o : Output) (lines : List (List ℕ)) → HasNames s.cfg → same_name (kind_of o) (codes "step") ≡ false
    → ComesSynced lines (line_at s w m o)
says_no_step s w m o lines names other node tick cycles reads = absurd (other_kind s w m o node tick (codes "step") (cycles ∷ []) names other refl reads)

-- if it is printed
if_printed : (s : Setting) (lines : List (List ℕ)) (state : ℕ → ServoState) (b : Bool) (x : List ℕ) → Holds s (lines ++ x ∷ []) state → Holds s lines state
    → Holds s (lines ++ (if b then x ∷ [] else [])) state
if_printed s lines state true x h k = h
if_printed s lines state false x h k = subst (λ (l : List (List ℕ)). Holds s l state) (sym (append-nil lines)) k

quiet_outs : (p : Output → Bool) (s : Setting) (w : WorldAt) (m : ℕ) (state : ℕ → ServoState) (outs : List Output) (lines : List (List ℕ)) → HasNames s.cfg
    → AllByRecursion IsQuiet outs → Holds s lines state →
    Holds s (lines ++ flat_map (output_lines p s w m) outs) state
quiet_outs p s w m state [] lines names quiet holds = subst (λ (l : List (List ℕ)). Holds s l state) (sym (append-nil lines)) holds
quiet_outs p s w m state (o ∷ outs) lines names quiet holds =
    subst (λ (l : List (List ℕ)). Holds s l state) (append_assoc lines (output_lines p s w m o) (flat_map (output_lines p s w m) outs))
    (quiet_outs p s w m state outs (lines ++ output_lines p s w m o) names quiet.1
    (if_printed s lines state (p o) (line_at s w m o)
    (plain_line s lines state (line_at s w m o) (says_no_step s w m o lines names quiet.0.0) (says_no_state s w m o names quiet.0.1) holds) holds))

-- a step of the clock

step_line : (p : Output → Bool) (s : Setting) (w : WorldAt) (m : ℕ) (state : ℕ → ServoState) (cycles : ℤ) (lines : List (List ℕ)) → HasNames s.cfg
    → m < node_count s.cfg → IsSync (state m) → Holds s lines state →
    Holds s (lines ++ line_at s w m (StepOf cycles) ∷ []) state
step_line p s w m state cycles lines names below sync holds =
    let x : List ℕ = line_at s w m (StepOf cycles) in
    plain_line s lines state x
    (λ node tick words reads.
    let same : name_at s.cfg m ≡ node = ap first_of (sym (at_reads s w m (StepOf cycles) names) ∙ reads) in
    subst (λ (name : List ℕ). Sync name lines) same (synced lines (name_at s.cfg m) (state m) sync (holds.told m below)))
    (says_no_state s w m (StepOf cycles) names refl) holds

step_by : (p : Output → Bool) (s : Setting) (w : WorldAt) (m : ℕ) (state : ℕ → ServoState) (cycles : ℤ) (lines : List (List ℕ)) (b : Bool)
    → (unsigned_abs cycles == 0) ≡ b → HasNames s.cfg → m < node_count s.cfg → IsMeant (state m) cycles → Holds s lines state →
    Holds s (lines ++ flat_map (output_lines p s w m) (if b then [] else StepOf cycles ∷ [])) state
step_by p s w m state cycles lines true is names below meant holds = subst (λ (l : List (List ℕ)). Holds s l state) (sym (append-nil lines)) holds
step_by p s w m state cycles lines false is names below (inl none) holds =
    absurd (false≢true (sym is ∙ ap (λ (z : ℤ). unsigned_abs z == 0) none))
step_by p s w m state cycles lines false is names below (inr sync) holds =
    let x : List ℕ = line_at s w m (StepOf cycles) in
    subst (λ (l : List (List ℕ)). Holds s (lines ++ l) state) (sym (append-nil (if p (StepOf cycles) then x ∷ [] else [])))
    (if_printed s lines state (p (StepOf cycles)) x (step_line p s w m state cycles lines names below sync holds) holds)

-- a state of the servo

-- the states after a node's step
abbrev Becomes : ℕ → ServoState → (state next : ℕ → ServoState) → Type 0
Becomes m after state next = (next m ≡ after) × ((n : ℕ) → (n ≡ m → ⊥) → next n ≡ state n)

servo_line : (s : Setting) (w : WorldAt) (m : ℕ) (state next : ℕ → ServoState) (after : ServoState) (lines : List (List ℕ)) → HasNames s.cfg
    → Becomes m after state next → Holds s lines state →
    Holds s (lines ++ line_at s w m (Report (Servo after)) ∷ []) next
servo_line s w m state next after lines names becomes holds =
    let o : Output = Report (Servo after) in
    let x : List ℕ = line_at s w m o in
    record {
      steps = one_more lines x holds.steps (says_no_step s w m o lines names refl);
      told = λ n below. elim (eqb_tells n m) [
        | inl it ↦
            subst (Told (lines ++ x ∷ []) (name_at s.cfg n)) (sym (ap next it.1 ∙ becomes.0))
            (now_told lines x (name_at s.cfg n) after (
              decimal (w.node m).ticks,
              subst (λ (i : ℕ). Reads x (name_at s.cfg i ∷ decimal (w.node m).ticks ∷ codes "servo" ∷ servo_word after ∷ [])) (sym it.1) (at_reads s w m o names),
            ))
        | inr it ↦
            subst (Told (lines ++ x ∷ []) (name_at s.cfg n)) (sym (becomes.1 n it.1))
            (stays_told lines x (name_at s.cfg n) (state n)
            (λ any says. it.1 (sym (same_node s.cfg names m n below (ap first_of (sym (at_reads s w m o names) ∙ says.1)))))
            (holds.told n below))
      ];
    }

-- the same states, if no state is printed
same_states : (s : Setting) (lines : List (List ℕ)) (m : ℕ) (state next : ℕ → ServoState) (after : ServoState) → state m ≡ after → Becomes m after state next
    → Holds s lines state → Holds s lines next
same_states s lines m state next after same becomes holds = record {
  steps = holds.steps;
  told = λ n below. elim (eqb_tells n m) [
    | inl it ↦ subst (Told lines (name_at s.cfg n)) (ap state it.1 ∙ same ∙ sym becomes.0 ∙ ap next (sym it.1)) (holds.told n below)
    | inr it ↦ subst (Told lines (name_at s.cfg n)) (sym (becomes.1 n it.1)) (holds.told n below)
  ];
}

-- states with the same number are the same
abbrev state_in : ℕ → ServoState
state_in k =
    if k == 0 then Uninit
    else (if k == 1 then SyncTai
    else (if k == 2 then SyncNsec
    else (if k == 3 then SyncPhase
    else (if k == 4 then WaitStable
    else (if k == 5 then Tracking else Holdover)))))

in_place : (state : ServoState) → state_in (rank_of state) ≡ state
in_place Uninit = refl
in_place SyncTai = refl
in_place SyncNsec = refl
in_place SyncPhase = refl
in_place WaitStable = refl
in_place Tracking = refl
in_place Holdover = refl

place_one : (a b : ServoState) → rank_of a ≡ rank_of b → a ≡ b
place_one a b e = sym (in_place a) ∙ ap state_in e ∙ in_place b

servo_by : (p : Output → Bool) (s : Setting) (w : WorldAt) (m : ℕ) (state next : ℕ → ServoState) (before after : ServoState) (lines : List (List ℕ)) (b : Bool)
    → (rank_of before == rank_of after) ≡ b → PrintsStates p → HasNames s.cfg → state m ≡ before →
    Becomes m after state next → Holds s lines state → Holds s (lines ++ flat_map (output_lines p s w m) (if b then [] else Report (Servo after) ∷ [])) next
servo_by p s w m state next before after lines true is prints names was becomes holds =
    subst (λ (l : List (List ℕ)). Holds s l next) (sym (append-nil lines))
    (same_states s lines m state next after (was ∙ place_one before after (eqb-true (rank_of before) (rank_of after) is)) becomes holds)
servo_by p s w m state next before after lines false is prints names was becomes holds =
    let x : List ℕ = line_at s w m (Report (Servo after)) in
    subst (λ (b : Bool). Holds s (lines ++ ((if b then x ∷ [] else []) ++ [])) next) (sym (prints.states after))
    (servo_line s w m state next after lines names becomes holds)

-- All outputs of a step

behind : (p : Output → Bool) (s : Setting) (w : WorldAt) (m : ℕ) (state : ℕ → ServoState) (lines : List (List ℕ)) (xs ys : List Output)
    → Holds s ((lines ++ flat_map (output_lines p s w m) xs) ++ flat_map (output_lines p s w m) ys) state →
    Holds s (lines ++ flat_map (output_lines p s w m) (xs ++ ys)) state
behind p s w m state lines xs ys holds =
    let f : Output → List (List ℕ) = output_lines p s w m in
    subst (λ (l : List (List ℕ)). Holds s l state)
    (append_assoc lines (flat_map f xs) (flat_map f ys) ∙ ap (λ (l : List (List ℕ)). lines ++ l) (sym (flat_map-append f xs ys))) holds

outputs_hold : (p : Output → Bool) (s : Setting) (w : WorldAt) (m : ℕ) (state next : ℕ → ServoState) (fixed : NodeSetting) (input : Input) (before : NodeAt)
    (step : Step) (lines : List (List ℕ))
    → PrintsStates p → HasNames s.cfg → m < node_count s.cfg →
    state m ≡ state_of fixed before → IsMeant (state m) step.cycles → Becomes m (state_of fixed step.node) state next → Holds s lines state
    → Holds s (lines ++ flat_map (output_lines p s w m) (outputs_of fixed input before step)) next
outputs_hold p s w m state next fixed input before step lines prints names below was meant becomes holds =
    let f : Output → List (List ℕ) = output_lines p s w m in
    let dac : List Output = dac_out step.dac in
    let servo : List Output = servo_out (state_of fixed before) (state_of fixed step.node) in
    let ports : List Output = flat_map (port_out fixed before step) (numbers_of fixed.set) in
    let track : List Output = track_out fixed input step.node in
    let a : List Output = step_out step.cycles in
    let stepped : Holds s (lines ++ flat_map f a) state =
    step_by p s w m state step.cycles lines (unsigned_abs step.cycles == 0) refl names below meant holds in
    let driven : Holds s (lines ++ flat_map f (a ++ dac)) state =
    behind p s w m state lines a dac (quiet_outs p s w m state dac (lines ++ flat_map f a) names (dac_all IsQuiet others_quiet step.dac) stepped) in
    let changed : Holds s (lines ++ flat_map f (a ++ dac ++ servo)) next =
    behind p s w m next lines (a ++ dac) servo
    (servo_by p s w m state next (state_of fixed before) (state_of fixed step.node) (lines ++ flat_map f (a ++ dac)) (rank_of (state_of fixed before) == rank_of (state_of fixed step.node)) refl prints names was becomes driven) in
    let told : Holds s (lines ++ flat_map f (a ++ dac ++ servo ++ ports)) next =
    behind p s w m next lines (a ++ dac ++ servo) ports
    (quiet_outs p s w m next ports (lines ++ flat_map f (a ++ dac ++ servo)) names (ports_all IsQuiet others_quiet fixed before step (numbers_of fixed.set)) changed) in
    behind p s w m next lines (a ++ dac ++ servo ++ ports) track
    (quiet_outs p s w m next track (lines ++ flat_map f (a ++ dac ++ servo ++ ports)) names (track_all IsQuiet (λ est. (refl, refl)) fixed input step.node) told)

-- Events

abbrev state_at : Setting → WorldAt → ℕ → ServoState
state_at s v n = state_of (node_setting_of s n) (v.node n)

becomes_by : (s : Setting) (y : ℤ) (v : WorldAt) (g : Given)
    → Becomes g.to (state_of (node_setting_of s g.to) (step_of s y v g).node) (state_at s v) (state_at s (gives s y v g))
becomes_by s y v g = (
  ap (λ (b : Bool). state_of (node_setting_of s g.to) (if b then (step_of s y v g).node else v.node g.to)) (own g.to),
  λ n other. ap (λ (b : Bool). state_of (node_setting_of s n) (if b then (step_of s y v g).node else v.node n)) (unlike n g.to other),
)
  where
    own : (m : ℕ) → (m == m) ≡ true
    own m = elim (eqb_tells m m) [ inl it ↦ it.0 | inr it ↦ absurd (it.1 refl) ]

    unlike : (n m : ℕ) → (n ≡ m → ⊥) → (n == m) ≡ false
    unlike n m other = elim (eqb_tells n m) [ inl it ↦ absurd (other it.1) | inr it ↦ it.0 ]

given_hold : CommandsAreHeld → (p : Output → Bool) (s : Setting) (y : ℤ) (w : WorldAt) (gs : List Given) (v : WorldAt) (lines : List (List ℕ)) → PrintsStates p
    → HasNames s.cfg → AllWithin s gs → Holds s lines (state_at s v) →
    Holds s (lines ++ flat_map (step_lines p s w) (steps_of s y v gs)) (state_at s (gives_all s y v gs))
given_hold commands p s y w [] v lines prints names within holds = subst (λ (l : List (List ℕ)). Holds s l (state_at s v)) (sym (append-nil lines)) holds
given_hold commands p s y w (g ∷ gs) v lines prints names within holds =
    let next : WorldAt = gives s y v g in
    let one : List (List ℕ) = step_lines p s w (node_step_of s y v g) in
    subst (λ (l : List (List ℕ)). Holds s l (state_at s (gives_all s y next gs))) (append_assoc lines one (flat_map (step_lines p s w) (steps_of s y next gs)))
    (given_hold commands p s y w gs next (lines ++ one) prints names within.1
    (outputs_hold p s w g.to (state_at s v) (state_at s next) (node_setting_of s g.to) g.input (v.node g.to) (step_of s y v g) lines prints names within.0 refl
    (commands_meant commands (node_setting_of s g.to) (taken_of y g) (v.node g.to)) (becomes_by s y v g) holds))

first_state : (fixed : NodeSetting) → state_of fixed new_node ≡ Uninit
first_state fixed = by (is_some (slave_of fixed.set))
  where
    by : (b : Bool) → (if b then Uninit else Uninit) ≡ Uninit
    by true = refl
    by false = refl

no_lines : (before later : List (List ℕ)) (line : List ℕ) → [] ≡ before ++ line ∷ later → ⊥
no_lines [] later line e = cc
no_lines (b ∷ before) later line e = cc

all_hold : CommandsAreHeld → (p : Output → Bool) (s : Setting) (events : List Happened) → PrintsStates p → IsRun s events
    → Holds s (lines_in p s events) (state_at s (world_after s events))
all_hold commands p s [] prints run = record {
  steps = λ before later line node tick cycles e reads. absurd (no_lines before later line e);
  told = λ n below. inl (first_state (node_setting_of s n));
}
all_hold commands p s (h ∷ before) prints run =
    let w : WorldAt = world_after s before in
    let v : WorldAt = moved s w h.event in
    given_hold commands p s h.answer (world_after s (h ∷ before)) (given_by s w v h.says h.event) v (lines_in p s before) prints run.network.accepted.names
    (given_within s w v h.says h.event run.network.accepted.tree run.each.0)
    (all_hold commands p s before prints (record { network = run.network; each = run.each.1; accepted = run.accepted.1 }))

pub steps_come_synced : CommandsAreHeld → StepsComeSynced
steps_come_synced commands p s events prints run = (all_hold commands p s events prints run).steps
