-- The same events make the same world, except for answers of the law that nobody asked for; its nodes make the same
-- steps, and the same premise is the first that an event breaks.
use Rattle.std.proofs.Common.{◌≡◌, ◌∙◌, refl, ap, ap₂, sym, subst, ℕ, ℤ, Bool, true, false, ◌==◌, if◌then◌else◌, List, [], ◌∷◌, ◌++◌, flat_map, map, is_some, Result, arith}
use Rattle.wrp_base.specs.declared.link.ServoState.TheVariants.{Uninit}
use Rattle.wrp_base.specs.declared.message.PtpMsg.{PtpMsg}
use Rattle.wrp_base.proofs.Naturals.{eq_self}
use Rattle.wrp_frame.specs.declared.fault.FrameFault.{FrameFault}
use Rattle.wrp_node.proofs.OneRun.{SameServo, SameStep, Answered, with_calls, step_with, step_alike, before_step, put_out_same, ok_of}
use Rattle.wrp_node.specs.NodeAt.{Taken, NodeSetting, NodeAt, servo_setting_of, slave_of, locked_of, state_of}
use Rattle.wrp_node.specs.OneRun.{answers_by}
use Rattle.wrp_node.specs.Telling.{Step}
use Rattle.wrp_servo.specs.Call.{Call}
use Rattle.wrp_servo.specs.declared.machine.Core.{Core}
use Rattle.wrp_servo.specs.Servo.{AllAnswered}
use Rattle.wrp_servo.specs.Told.{ToldLast}
use Rattle.wrp_course.specs.Checks.{Check}
use Rattle.wrp_course.specs.declared.event.Event.{Event}
use Rattle.wrp_course.specs.declared.event.Event.TheVariants.{Pass, Tick, Sample, Depart, Arrive, Deliver, Noise, Down, Up, Cut, Join}
use Rattle.wrp_course.specs.Given.{Given, given_by, gives, gives_all, node_step_of, steps_of, step_of, stepped_by, taken_of, world_step, event_steps}
use Rattle.wrp_course.specs.Moved.{moved}
use Rattle.wrp_course.specs.Premises.{checks_of, rate_kept, tick_late, fibre_rate, fibre_kept}
use Rattle.wrp_course.specs.Run.{AllSaid, Happened, IsAnswered, IsSaid, world_after, steps_at}
use Rattle.wrp_course.specs.Setting.{Setting, node_setting_of, nodes_of, links_of}
use Rattle.wrp_course.specs.WorldAt.{WorldAt}
use Rattle.wrp_one_world_laws.specs.OneWorld.{Alike, OneWorld, SameEvents, answers_of, with_all}

-- each measurement of a node has the law's answer
abbrev AnsweredAt : (ℕ → ℤ → ℤ) → Setting → WorldAt → ℕ → Type 0
AnsweredAt law s w n = AllAnswered (answers_by (law n)) (servo_setting_of (node_setting_of s n)) (w.node n).calls

-- An event by itself

moved_alike : (s : Setting) (v : WorldAt) (calls : ℕ → List Call) (inputs : ℕ → List Taken) (e : Event) → moved s (with_all calls inputs v) e ≡ with_all calls inputs (moved s v e)
moved_alike s v calls inputs (Pass dt drifts fibres) = refl
moved_alike s v calls inputs (Tick n) = refl
moved_alike s v calls inputs (Sample n base bits) = refl
moved_alike s v calls inputs (Depart n p stamp) = refl
moved_alike s v calls inputs (Arrive i raw) = refl
moved_alike s v calls inputs (Deliver i) = refl
moved_alike s v calls inputs (Noise n p octets raw) = refl
moved_alike s v calls inputs (Down n) = refl
moved_alike s v calls inputs (Up n off swaps) = refl
moved_alike s v calls inputs (Cut k) = refl
moved_alike s v calls inputs (Join k ms sm) = refl

given_alike : (s : Setting) (v w : WorldAt) (calls others : ℕ → List Call) (inputs taken : ℕ → List Taken) (says : Result PtpMsg FrameFault) (e : Event) →
    given_by s (with_all calls inputs v) (with_all others taken w) says e ≡ given_by s v w says e
given_alike s v w calls others inputs taken says (Pass dt drifts fibres) = refl
given_alike s v w calls others inputs taken says (Tick n) = refl
given_alike s v w calls others inputs taken says (Sample n base bits) = refl
given_alike s v w calls others inputs taken says (Depart n p stamp) = refl
given_alike s v w calls others inputs taken says (Arrive i raw) = refl
given_alike s v w calls others inputs taken says (Deliver i) = refl
given_alike s v w calls others inputs taken says (Noise n p octets raw) = refl
given_alike s v w calls others inputs taken says (Down n) = refl
given_alike s v w calls others inputs taken says (Up n off swaps) = refl
given_alike s v w calls others inputs taken says (Cut k) = refl
given_alike s v w calls others inputs taken says (Join k ms sm) = refl

-- A step of a node

-- the lists after it: of this node these, and of the other nodes as before
abbrev at_node : {A : Type 0} → ℕ → A → (ℕ → A) → ℕ → A
at_node m new old n = if n == m then new else old n

node_at : (m : ℕ) (c : List Call) (calls : ℕ → List Call) (r : NodeAt) (node : ℕ → NodeAt) (n : ℕ) →
    (if n == m then with_calls c r else with_calls (calls n) (node n)) ≡ with_calls (at_node m c calls n) (if n == m then r else node n)
node_at m c calls r node n =
    elim (n == m) as (λ (b : Bool). (if b then with_calls c r else with_calls (calls n) (node n)) ≡ with_calls (if b then c else calls n) (if b then r else node n)) [
      | true ↦ refl
      | false ↦ refl
    ]

stepped_alike : (s : Setting) (v : WorldAt) (calls : ℕ → List Call) (inputs : ℕ → List Taken) (g : Given) (t u : Taken) (r : Step) (c : List Call) →
    stepped_by s (with_all calls inputs v) g u (step_with c r)
    ≡ with_all (at_node g.to c calls) (λ n. if n == g.to then u ∷ inputs n else inputs n) (stepped_by s v g t r)
stepped_alike s v calls inputs g t u r c =
    ap (λ (nodes : ℕ → NodeAt). record (stepped_by s v g t r) { node = nodes; inputs = λ n. if n == g.to then u ∷ inputs n else inputs n })
    (λ i n. node_at g.to c calls r.node v.node n i)

servo_at_node : (s : Setting) (v : WorldAt) (calls : ℕ → List Call) (m : ℕ) (r : NodeAt) (c : List Call) → ((n : ℕ) → SameServo (node_setting_of s n) (v.node n).calls (calls n)) →
    SameServo (node_setting_of s m) r.calls c → (n : ℕ) → SameServo (node_setting_of s n) (if n == m then r else v.node n).calls (at_node m c calls n)
servo_at_node s v calls m r c all one n = go (n == m) refl
  where
    go : (b : Bool) → (n == m) ≡ b → SameServo (node_setting_of s n) (if b then r else v.node n).calls (if b then c else calls n)
    go true is = let same : m ≡ n = grind (arith, is) in subst (λ (k : ℕ). SameServo (node_setting_of s k) r.calls c) same one
    go false is = all n

-- what the node that is given an input holds after it
after_given : (law : ℕ → ℤ → ℤ) → (s : Setting) (y : ℤ) (v : WorldAt) (g : Given) → AnsweredAt law s (gives s y v g) g.to → Answered (law g.to) (node_setting_of s g.to) (step_of s y v g)
after_given law s y v g a =
    subst (λ (b : Bool). AllAnswered (answers_by (law g.to)) (servo_setting_of (node_setting_of s g.to)) (if b then (step_of s y v g).node else v.node g.to).calls) (eq_self g.to) a

before_given : (law : ℕ → ℤ → ℤ) → (s : Setting) (y : ℤ) (v : WorldAt) (g : Given) → IsAnswered (answers_of law) s (gives s y v g) → IsAnswered (answers_of law) s v
before_given law s y v g all n = go (n == g.to) refl (all n)
  where
    go : (b : Bool) → (n == g.to) ≡ b → AllAnswered (answers_by (law n)) (servo_setting_of (node_setting_of s n)) (if b then (step_of s y v g).node else v.node n).calls → AnsweredAt law s v n
    go true is a =
        let same : g.to ≡ n = grind (arith, is) in
        subst (AnsweredAt law s v) same
        (before_step (law g.to) (node_setting_of s g.to) (taken_of y g) (v.node g.to) (after_given law s y v g (all g.to)))
    go false is a = a

before_all : (law : ℕ → ℤ → ℤ) → (s : Setting) (y : ℤ) (v : WorldAt) (gs : List Given) → IsAnswered (answers_of law) s (gives_all s y v gs) → IsAnswered (answers_of law) s v
before_all law s y v [] a = a
before_all law s y v (g ∷ gs) a = before_given law s y v g (before_all law s y (gives s y v g) gs a)

-- one input more at two such worlds: the step is alike, and the worlds after it are
record Gives (s : Setting) (y z : ℤ) (v w : WorldAt) (g : Given) : Type 0 where
  worlds : Alike s (gives s y v g) (gives s z w g)
  steps : node_step_of s y v g ≡ node_step_of s z w g

with_given : (law : ℕ → ℤ → ℤ) → ToldLast → (s : Setting) (y z : ℤ) (v : WorldAt) (calls : ℕ → List Call) (inputs : ℕ → List Taken) (g : Given) → ((n : ℕ) → SameServo (node_setting_of s n) (v.node n).calls (calls n)) →
    IsAnswered (answers_of law) s (gives s y v g) → IsAnswered (answers_of law) s (gives s z (with_all calls inputs v) g) → Gives s y z v (with_all calls inputs v) g
with_given law last s y z v calls inputs g servo a b =
    let fixed : NodeSetting = node_setting_of s g.to in
    let step : SameStep fixed (step_of s y v g) (step_of s z (with_all calls inputs v) g) =
    step_alike last (law g.to) fixed g.input g.says y z (v.node g.to) (calls g.to) (servo g.to) (after_given law s y v g (a g.to)) (after_given law s z (with_all calls inputs v) g (b g.to)) in
    record {
      worlds = record {
        calls = at_node g.to step.calls calls;
        inputs = λ n. if n == g.to then taken_of z g ∷ inputs n else inputs n;
        is = ap (stepped_by s (with_all calls inputs v) g (taken_of z g)) step.is
            ∙ stepped_alike s v calls inputs g (taken_of y g) (taken_of z g) (step_of s y v g) step.calls;
        servo = servo_at_node s v calls g.to (step_of s y v g).node step.calls servo step.servo;
      };
      steps = ap (λ outs. record { node = g.to; input = g.input; outs = outs })
          (put_out_same fixed g.input g.input (v.node g.to) (with_calls (calls g.to) (v.node g.to)) (step_of s y v g) (step_of s z (with_all calls inputs v) g) refl
          (record { calls = calls g.to; is = refl; servo = servo g.to }) step);
    }

given_one : (law : ℕ → ℤ → ℤ) → ToldLast → (s : Setting) (y z : ℤ) (v w : WorldAt) (g : Given) → Alike s v w → IsAnswered (answers_of law) s (gives s y v g) → IsAnswered (answers_of law) s (gives s z w g) → Gives s y z v w g
given_one law last s y z v w g h a b =
    subst (λ (k : WorldAt). Gives s y z v k g) (sym h.is)
    (with_given law last s y z v h.calls h.inputs g h.servo a (subst (λ (k : WorldAt). IsAnswered (answers_of law) s (gives s z k g)) h.is b))

-- all inputs of an event
record GivesAll (s : Setting) (y z : ℤ) (v w : WorldAt) (gs : List Given) : Type 0 where
  worlds : Alike s (gives_all s y v gs) (gives_all s z w gs)
  steps : steps_of s y v gs ≡ steps_of s z w gs

given_all : (law : ℕ → ℤ → ℤ) → ToldLast → (s : Setting) (y z : ℤ) (v w : WorldAt) (gs : List Given) → Alike s v w → IsAnswered (answers_of law) s (gives_all s y v gs) → IsAnswered (answers_of law) s (gives_all s z w gs) →
    GivesAll s y z v w gs
given_all law last s y z v w [] h a b = record { worlds = h; steps = refl }
given_all law last s y z v w (g ∷ gs) h a b =
    let one : Gives s y z v w g = given_one law last s y z v w g h (before_all law s y (gives s y v g) gs a) (before_all law s z (gives s z w g) gs b) in
    let rest : GivesAll s y z (gives s y v g) (gives s z w g) gs = given_all law last s y z (gives s y v g) (gives s z w g) gs one.worlds a b in
    record { worlds = rest.worlds; steps = ap₂ (λ step steps. step ∷ steps) one.steps rest.steps }

-- What the octets of a Noise say is one, and has no effect in other events

said_same : (s : Setting) (v w : WorldAt) (e : Event) (a b : Result PtpMsg FrameFault) → IsSaid e a → IsSaid e b → given_by s v w a e ≡ given_by s v w b e
said_same s v w (Pass dt drifts fibres) a b p q = refl
said_same s v w (Tick n) a b p q = refl
said_same s v w (Sample n base bits) a b p q = refl
said_same s v w (Depart n port stamp) a b p q = refl
said_same s v w (Arrive i raw) a b p q = refl
said_same s v w (Deliver i) a b p q = refl
said_same s v w (Noise n port octets raw) a b p q = ap (λ says. given_by s v w says (Noise n port octets raw)) (ok_of octets.items a p b q)
said_same s v w (Down n) a b p q = refl
said_same s v w (Up n off swaps) a b p q = refl
said_same s v w (Cut k) a b p q = refl
said_same s v w (Join k ms sm) a b p q = refl

tried_same : (s : Setting) (w : WorldAt) (e : Event) (a b : Result PtpMsg FrameFault) → IsSaid e a → IsSaid e b → checks_of s w a e ≡ checks_of s w b e
tried_same s w (Pass dt drifts fibres) a b p q = refl
tried_same s w (Tick n) a b p q = refl
tried_same s w (Sample n base bits) a b p q = refl
tried_same s w (Depart n port stamp) a b p q = refl
tried_same s w (Arrive i raw) a b p q = refl
tried_same s w (Deliver i) a b p q = refl
tried_same s w (Noise n port octets raw) a b p q = ap (λ says. checks_of s w says (Noise n port octets raw)) (ok_of octets.items a p b q)
tried_same s w (Down n) a b p q = refl
tried_same s w (Up n off swaps) a b p q = refl
tried_same s w (Cut k) a b p q = refl
tried_same s w (Join k ms sm) a b p q = refl

-- Premises

pub locked_same : (fixed : NodeSetting) (n : NodeAt) (calls : List Call) → SameServo fixed n.calls calls → locked_of fixed (with_calls calls n) ≡ locked_of fixed n
locked_same fixed n calls h = ap (λ (v : Core). if is_some (slave_of fixed.set) then v.phase.lock.locked else false) (sym h)

pub state_same : (fixed : NodeSetting) (n : NodeAt) (calls : List Call) → SameServo fixed n.calls calls → state_of fixed (with_calls calls n) ≡ state_of fixed n
state_same fixed n calls h = ap (λ (v : Core). if is_some (slave_of fixed.set) then v.state else Uninit) (sym h)

rate_same : (s : Setting) (v : WorldAt) (calls : ℕ → List Call) (inputs : ℕ → List Taken) (dt : ℤ) (drifts : List ℤ) → ((n : ℕ) → SameServo (node_setting_of s n) (v.node n).calls (calls n)) → (n : ℕ) →
    rate_kept s (with_all calls inputs v) dt drifts n ≡ rate_kept s v dt drifts n
rate_same s v calls inputs dt drifts servo n = rw (locked_same (node_setting_of s n) (v.node n) (calls n) (servo n), state_same (node_setting_of s n) (v.node n) (calls n) (servo n)) refl

checks_alike : (s : Setting) (v : WorldAt) (calls : ℕ → List Call) (inputs : ℕ → List Taken) (says : Result PtpMsg FrameFault) (e : Event) → ((n : ℕ) → SameServo (node_setting_of s n) (v.node n).calls (calls n)) →
    checks_of s (with_all calls inputs v) says e ≡ checks_of s v says e
checks_alike s v calls inputs says (Pass dt drifts fibres) servo =
    ap (λ (rates : List Check). map (tick_late s v dt) (nodes_of s) ++ (rates ++ (flat_map (fibre_rate dt fibres.items) (links_of s) ++ flat_map (fibre_kept s (moved s v (Pass dt drifts fibres))) (links_of s))))
    (λ i. flat_map (λ n. rate_same s v calls inputs dt drifts.items servo n i) (nodes_of s))
checks_alike s v calls inputs says (Tick n) servo = refl
checks_alike s v calls inputs says (Sample n base bits) servo = refl
checks_alike s v calls inputs says (Depart n p stamp) servo = refl
checks_alike s v calls inputs says (Arrive i raw) servo = refl
checks_alike s v calls inputs says (Deliver i) servo = refl
checks_alike s v calls inputs says (Noise n p octets raw) servo = refl
checks_alike s v calls inputs says (Down n) servo = refl
checks_alike s v calls inputs says (Up n off swaps) servo = refl
checks_alike s v calls inputs says (Cut k) servo = refl
checks_alike s v calls inputs says (Join k ms sm) servo = refl

-- in alike worlds an event is tried alike, whatever is noted with the octets of a Noise that they say
pub checks_one : (s : Setting) (v w : WorldAt) (e : Event) (a b : Result PtpMsg FrameFault) → Alike s v w → IsSaid e a → IsSaid e b → checks_of s v a e ≡ checks_of s w b e
checks_one s v w e a b h p q =
    sym (checks_alike s v h.calls h.inputs a e h.servo) ∙ ap (λ (k : WorldAt). checks_of s k a e) (sym h.is) ∙ tried_same s w e a b p q

-- A whole event

record OneStep (s : Setting) (v w : WorldAt) (h k : Happened) : Type 0 where
  worlds : Alike s (world_step s h.says h.answer v h.event) (world_step s k.says k.answer w k.event)
  steps : event_steps s h.says h.answer v h.event ≡ event_steps s k.says k.answer w k.event

-- the same event in alike worlds
same_event : (law : ℕ → ℤ → ℤ) → ToldLast → (s : Setting) (v w : WorldAt) (e : Event) (a b : Result PtpMsg FrameFault) (y z : ℤ) → Alike s v w → IsSaid e a → IsSaid e b →
    IsAnswered (answers_of law) s (world_step s a y v e) → IsAnswered (answers_of law) s (world_step s b z w e) →
    OneStep s v w (record { event = e; says = a; answer = y }) (record { event = e; says = b; answer = z })
same_event law last s v w e a b y z h p q c d =
    let own : WorldAt = moved s v e in
    let other : WorldAt = moved s w e in
    let gs : List Given = given_by s v own a e in
    let after : Alike s own other = record {
      calls = h.calls;
      inputs = h.inputs;
      is = ap (λ (k : WorldAt). moved s k e) h.is ∙ moved_alike s v h.calls h.inputs e;
      servo = h.servo;
    } in
    let given : given_by s w other b e ≡ gs =
    ap (λ (k : WorldAt). given_by s k (moved s k e) b e) h.is
    ∙ ap (λ (k : WorldAt). given_by s (with_all h.calls h.inputs v) k b e) (moved_alike s v h.calls h.inputs e)
    ∙ given_alike s v own h.calls h.calls h.inputs h.inputs b e
    ∙ said_same s v own e b a q p in
    let all : GivesAll s y z own other gs = given_all law last s y z own other gs after c (subst (λ (l : List Given). IsAnswered (answers_of law) s (gives_all s z other l)) given d) in
    record {
      worlds = subst (λ (l : List Given). Alike s (gives_all s y own gs) (gives_all s z other l)) (sym given) all.worlds;
      steps = all.steps ∙ ap (steps_of s z other) (sym given);
    }

one_step : (law : ℕ → ℤ → ℤ) → ToldLast → (s : Setting) (v w : WorldAt) (h k : Happened) → Alike s v w → h.event ≡ k.event → IsSaid h.event h.says → IsSaid k.event k.says →
    IsAnswered (answers_of law) s (world_step s h.says h.answer v h.event) → IsAnswered (answers_of law) s (world_step s k.says k.answer w k.event) → OneStep s v w h k
one_step law last s v w h k alike same p q c d =
    subst (λ (e : Event). OneStep s v w h (record { event = e; says = k.says; answer = k.answer })) same
    (same_event law last s v w h.event h.says k.says h.answer k.answer alike p (subst (λ (e : Event). IsSaid e k.says) (sym same) q) c
    (subst (λ (e : Event). IsAnswered (answers_of law) s (world_step s k.says k.answer w e)) (sym same) d))

-- Runs

-- what was answered before the newest event
before_event : (law : ℕ → ℤ → ℤ) → (s : Setting) (h : Happened) (w : WorldAt) → IsAnswered (answers_of law) s (world_step s h.says h.answer w h.event) → IsAnswered (answers_of law) s w
before_event law s h w a n = before_all law s h.answer (moved s w h.event) (given_by s w (moved s w h.event) h.says h.event) a n

pub before_newest : (law : ℕ → ℤ → ℤ) → (s : Setting) (h : Happened) (before : List Happened) → IsAnswered (answers_of law) s (world_after s (h ∷ before)) → IsAnswered (answers_of law) s (world_after s before)
before_newest law s h before a = before_event law s h (world_after s before) a

pub alike_after : (law : ℕ → ℤ → ℤ) → ToldLast → (s : Setting) (events others : List Happened) → SameEvents events others → AllSaid events → AllSaid others →
    IsAnswered (answers_of law) s (world_after s events) → IsAnswered (answers_of law) s (world_after s others) → Alike s (world_after s events) (world_after s others)
alike_after law last s [] [] same p q a b = record { calls = λ n. []; inputs = λ n. []; is = refl; servo = λ n. refl }
alike_after law last s [] (k ∷ others) same p q a b = absurd same
alike_after law last s (h ∷ events) [] same p q a b = absurd same
alike_after law last s (h ∷ events) (k ∷ others) same p q a b =
    (one_step law last s (world_after s events) (world_after s others) h k
    (alike_after law last s events others same.1 p.1 q.1 (before_newest law s h events a) (before_newest law s k others b))
    same.0 p.0 q.0 a b).worlds

pub steps_after : (law : ℕ → ℤ → ℤ) → ToldLast → (s : Setting) (events others : List Happened) (h k : Happened) → SameEvents (h ∷ events) (k ∷ others) → AllSaid (h ∷ events) → AllSaid (k ∷ others) →
    IsAnswered (answers_of law) s (world_after s (h ∷ events)) → IsAnswered (answers_of law) s (world_after s (k ∷ others)) → steps_at s events h ≡ steps_at s others k
steps_after law last s events others h k same p q a b =
    (one_step law last s (world_after s events) (world_after s others) h k
    (alike_after law last s events others same.1 p.1 q.1 (before_newest law s h events a) (before_newest law s k others b))
    same.0 p.0 q.0 a b).steps

pub one_world : ToldLast → OneWorld
one_world last law s events others same p q a b = record {
  after = alike_after law last s events others same p q a b;
  steps = λ h k one say told first other. steps_after law last s events others h k (one, same) (say, p) (told, q) first other;
  tried = λ e c d say told. checks_one s (world_after s events) (world_after s others) e c d (alike_after law last s events others same p q a b) say told;
}
