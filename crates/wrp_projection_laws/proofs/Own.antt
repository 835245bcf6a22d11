-- What the events of a run give a node, and what it puts out, among what all nodes are given and put out.
use Rattle.std.proofs.Common.{◌≡◌, ◌∙◌, refl, ap, ap₂, sym, subst, append_assoc, append-nil, ℕ, ℤ, ◌==◌, Bool, true, false, if◌then◌else◌, List, [], ◌∷◌, ◌++◌, map, flat_map, Option, None, Some, Result}
use Rattle.std.specs.List.{concat, filter}
use Rattle.std.specs.Option.{option_map_or}
use Rattle.std.proofs.lemmas.Bool.{eqb-true}
use Rattle.std.proofs.lemmas.Grind.{flat_map-append}
use Rattle.std.proofs.lemmas.List.Elements.{filter-append}
use Rattle.std.proofs.lemmas.List.Folds.{flat_map-map}
use Rattle.wrp_network.specs.declared.configuration.NetCfg.{NetCfg}
use Rattle.wrp_base.specs.declared.link.Role.TheVariants.{Master}
use Rattle.wrp_base.specs.declared.message.Body.{Body}
use Rattle.wrp_base.specs.declared.message.Body.TheVariants.{Sync, DelayReq, FollowUp, DelayResp, Announce, Signal}
use Rattle.wrp_base.specs.declared.message.PtpMsg.{PtpMsg}
use Rattle.wrp_network.specs.Network.{End}
use Rattle.wrp_base.specs.Link.{other_of}
use Rattle.wrp_base.proofs.Naturals.{eq_self}
use Rattle.wrp_caldb.specs.Database.{Database}
use Rattle.wrp_frame.specs.declared.fault.FrameFault.{FrameFault}
use Rattle.wrp_node.proofs.StepLaws.{ticks_are_counted}
use Rattle.wrp_node.specs.declared.interface.Input.{Input}
use Rattle.wrp_node.specs.declared.interface.Input.TheVariants as inputs
use Rattle.wrp_node.specs.declared.interface.Output.{Output}
use Rattle.wrp_node.specs.NodeAt.{NodeAt, Taken, numbers_of}
use Rattle.wrp_node.specs.NodeRun.{node_after, outputs_at, outputs_of}
use Rattle.wrp_node.specs.NodeStep.{node_step}
use Rattle.wrp_node.specs.StepLaws.{ticks_by}
use Rattle.wrp_trace.specs.Printing.{line_of}
use Rattle.wrp_trace.specs.LineSetting.{LineSetting, line_setting_in}
use Rattle.wrp_course.specs.declared.event.Event.{Event}
use Rattle.wrp_course.specs.declared.event.Event.TheVariants.{Pass, Tick, Sample, Depart, Arrive, Deliver, Noise, Down, Up, Cut, Join}
use Rattle.wrp_plant.proofs.EachLists.{turned_about}
use Rattle.wrp_course.specs.Given.{Given, NodeStepAt, at_ports, comes_from, delivered, delivered_by, delivered_to, given_by, gives, gives_all, goes_from, node_step_of, sent_oldest, step_of, steps_of, taken_of, told_sending}
use Rattle.wrp_course.specs.Moved.{moved, waiting_at}
use Rattle.wrp_course.specs.Run.{Happened, steps_at, world_after}
use Rattle.wrp_course.specs.Setting.{Setting, end_at, node_setting_of, place_of}
use Rattle.wrp_course.specs.WorldAt.{Arrival, FrameAt, Sending, WorldAt, has_carrier}
use Rattle.wrp_network_world.specs.NetworkSetting.{setting_at}
use Rattle.wrp_audit.specs.AuditText.{audit_lines, given_line, given_lines, step_lines}
use Rattle.wrp_replay.specs.DownLaw.{node_setting_at}
use Rattle.wrp_replay.specs.NodeText.{output_lines}
use Rattle.wrp_network_world.proofs.WorldRuns.{made_after, made_given}
use Rattle.wrp_records.proofs.Reaching.{concat-snoc}
use Rattle.wrp_projection_laws.specs.Projection.{PutOut, audit_line, of_node, replay_line}
use Rattle.wrp_projection_laws.proofs.Written.{record_of, records_of, written}
use Rattle.wrp_course.proofs.RunGifts.{AllGiven, all_if, comes_all, goes_all, ports_all}

-- Numbers

-- The record lines of what a node is given

one_by : (site : LineSetting) (b : Bool) (t : Taken) (inputs : List Taken)
    → concat (records_of site inputs) ++ (if b then line_of site t.input ++ 10 ∷ [] else []) ≡ concat (records_of site (if b then t ∷ inputs else inputs))
one_by site true t inputs = sym (concat-snoc (records_of site inputs) (record_of site t))
one_by site false t inputs = append-nil (concat (records_of site inputs))

given_one : (s : Setting) (n : ℕ) (y : ℤ) (v : WorldAt) (g : Given) →
    concat (records_of (line_setting_in s n) (v.inputs n)) ++ given_line s n (node_step_of s y v g)
    ≡ concat (records_of (line_setting_in s n) ((gives s y v g).inputs n))
given_one s n y v g =
    ap (λ (b : Bool). concat (records_of (line_setting_in s n) (v.inputs n)) ++ (if b then line_of (line_setting_in s n) g.input ++ 10 ∷ [] else []))
    (turned_about g.to n)
    ∙ one_by (line_setting_in s n) (n == g.to) (taken_of y g) (v.inputs n)

given_all : (s : Setting) (n : ℕ) (y : ℤ) (v : WorldAt) (gs : List Given) →
    concat (records_of (line_setting_in s n) (v.inputs n)) ++ flat_map (given_line s n) (steps_of s y v gs)
    ≡ concat (records_of (line_setting_in s n) ((gives_all s y v gs).inputs n))
given_all s n y v [] = append-nil (concat (records_of (line_setting_in s n) (v.inputs n)))
given_all s n y v (g ∷ gs) =
    sym
    (append_assoc (concat (records_of (line_setting_in s n) (v.inputs n))) (given_line s n (node_step_of s y v g)) (flat_map (given_line s n) (steps_of s y (gives s y v g) gs)))
    ∙ ap (λ (l : List ℕ). l ++ flat_map (given_line s n) (steps_of s y (gives s y v g) gs)) (given_one s n y v g) ∙ given_all s n y (gives s y v g) gs

pub given_are : (s : Setting) (n : ℕ) (events : List Happened)
    → given_lines s n events ≡ concat (records_of (line_setting_in s n) ((world_after s events).inputs n))
given_are s n [] = refl
given_are s n (h ∷ before) =
    let w : WorldAt = world_after s before in
    ap (λ (l : List ℕ). l ++ flat_map (given_line s n) (steps_at s before h)) (given_are s n before)
    ∙ given_all s n h.answer (moved s w h.event) (given_by s w (moved s w h.event) h.says h.event)

-- What is put out, in its order

abbrev put_at : WorldAt → ℕ → Output → PutOut
put_at w n o = record { node = n; tick = (w.node n).ticks; off = (w.clock n).off; output = o }

abbrev pub put_in : WorldAt → NodeStepAt → List PutOut
put_in w step = map (put_at w step.node) step.outs

abbrev pub put_out_by : Setting → List Happened → List PutOut
put_out_by s [] = []
put_out_by s (h ∷ before) = put_out_by s before ++ flat_map (put_in (world_after s (h ∷ before))) (steps_at s before h)

-- the lines of all that is put out

step_are : (s : Setting) (w : WorldAt) (step : NodeStepAt) → flat_map (audit_line s.cfg) (put_in w step) ≡ step_lines s w step
step_are s w step = flat_map-map (audit_line s.cfg) (put_at w step.node) step.outs

steps_are : (s : Setting) (w : WorldAt) (steps : List NodeStepAt) → flat_map (audit_line s.cfg) (flat_map (put_in w) steps) ≡ flat_map (step_lines s w) steps
steps_are s w [] = refl
steps_are s w (step ∷ steps) =
    flat_map-append (audit_line s.cfg) (put_in w step) (flat_map (put_in w) steps) ∙ ap₂ (λ (a b : List ℕ). a ++ b) (step_are s w step) (steps_are s w steps)

pub audit_is : (s : Setting) (events : List Happened) → audit_lines s events ≡ flat_map (audit_line s.cfg) (put_out_by s events)
audit_is s [] = refl
audit_is s (h ∷ before) =
    let w : WorldAt = world_after s (h ∷ before) in
    ap₂ (λ (a b : List ℕ). a ++ b) (audit_is s before) (sym (steps_are s w (steps_at s before h)))
    ∙ sym (flat_map-append (audit_line s.cfg) (put_out_by s before) (flat_map (put_in w) (steps_at s before h)))

-- Ticks: an input after another one of the same event is a carrier

abbrev Stays : Input → Type 0
Stays inputs.Tick = ⊥
Stays inputs.Reset = ⊥
Stays _ = Unit {0}

abbrev AllStay : List Given → Type 0
AllStay gs = AllGiven Stays gs

abbrev Late : List Given → Type 0
Late [] = Unit {0}
Late (g ∷ gs) = AllStay gs × Late gs

late_if : (gs : List Given) → AllStay gs → Late gs
late_if [] h = tt
late_if (g ∷ gs) h = (h.1, late_if gs h.1)

told_late : (n p seq : ℕ) (stamp : ℤ) (samples : ℕ) (body : Body) → Late (told_sending n p seq stamp samples body)
told_late n p seq stamp samples (Sync origin) = (tt, tt)
told_late n p seq stamp samples (DelayReq origin) = (tt, tt)
told_late n p seq stamp samples (FollowUp precise) = tt
told_late n p seq stamp samples (DelayResp receive requesting) = tt
told_late n p seq stamp samples (Announce origin utc p1 quality p2 gm steps source suffix) = tt
told_late n p seq stamp samples (Signal target message) = tt

oldest_late : (n p : ℕ) (stamp : ℤ) (samples : ℕ) (waiting : List Sending) → Late (sent_oldest n p stamp samples waiting)
oldest_late n p stamp samples [] = tt
oldest_late n p stamp samples (oldest ∷ rest) = told_late n p oldest.message.head.seq stamp samples oldest.message.body

arrival_late : (f : FrameAt) (a : Arrival) (o : Option End) → Late (option_map_or (λ (end : End). delivered_to f a end.node end.port) o [])
arrival_late f a None = tt
arrival_late f a (Some end) = (tt, tt)

delivery_late : (s : Setting) (f : FrameAt) (o : Option Arrival) → Late (delivered_by s f o)
delivery_late s f None = tt
delivery_late s f (Some a) = arrival_late f a (end_at s f.link (other_of f.by))

frame_late : (s : Setting) (o : Option FrameAt) → Late (delivered s o)
frame_late s None = tt
frame_late s (Some f) = delivery_late s f f.arrival

late_given : (s : Setting) (w v : WorldAt) (says : Result PtpMsg FrameFault) (e : Event) → Late (given_by s w v says e)
late_given s w v says (Pass dt drifts fibres) = tt
late_given s w v says (Tick n) = (tt, tt)
late_given s w v says (Sample n base bits) = (tt, tt)
late_given s w v says (Depart n p stamp) = oldest_late n p stamp (w.clock n).samples (waiting_at w (place_of s n p))
late_given s w v says (Arrive i raw) = tt
late_given s w v says (Deliver i) = frame_late s (w.frame i)
late_given s w v says (Noise n p octets raw) = (tt, tt)
late_given s w v says (Down n) =
    late_if (at_ports s w (goes_from s) n) (ports_all Stays s w (goes_from s) n (numbers_of (s.set n)) (goes_all Stays (λ p. tt) s))
late_given s w v says (Up n off swaps) =
    let stay = ports_all Stays s v (comes_from s v) n (numbers_of (s.set n)) (comes_all Stays (λ p m. tt) s v) in
    (stay, late_if (at_ports s v (comes_from s v) n) stay)
late_given s w v says (Cut k) =
    late_if (if has_carrier s w k then goes_from s k Master else [])
    (all_if Stays (has_carrier s w k) (goes_from s k Master) (goes_all Stays (λ p. tt) s k Master))
late_given s w v says (Join k ms sm) =
    late_if (if has_carrier s v k then comes_from s v k Master else [])
    (all_if Stays (has_carrier s v k) (comes_from s v k Master) (comes_all Stays (λ p m. tt) s v k Master))

stays_by : (x : Input) (ticks : ℕ) → Stays x → ticks_by x ticks ≡ ticks
stays_by inputs.Tick ticks h = absurd h
stays_by (inputs.Sample n base bits) ticks h = refl
stays_by (inputs.Frame p octets raw sample) ticks h = refl
stays_by (inputs.Sent p seq delay stamp) ticks h = refl
stays_by (inputs.Carrier p up m) ticks h = refl
stays_by inputs.Reset ticks h = absurd h

one_stays : (s : Setting) (y : ℤ) (v : WorldAt) (g : Given) (n : ℕ) (b : Bool) → (n == g.to) ≡ b → Stays g.input
    → (if b then (step_of s y v g).node else v.node n).ticks ≡ (v.node n).ticks
one_stays s y v g n true is stays =
    ticks_are_counted (node_setting_of s g.to) (taken_of y g) (v.node g.to) ∙ stays_by g.input (v.node g.to).ticks stays
    ∙ ap (λ m. (v.node m).ticks) (sym (eqb-true n g.to is))
one_stays s y v g n false is stays = refl

all_stay : (s : Setting) (y : ℤ) (v : WorldAt) (gs : List Given) (n : ℕ) → AllStay gs → ((gives_all s y v gs).node n).ticks ≡ (v.node n).ticks
all_stay s y v [] n h = refl
all_stay s y v (g ∷ gs) n h = all_stay s y (gives s y v g) gs n h.1 ∙ one_stays s y v g n (n == g.to) refl h.0

-- What one node puts out among it

const_filter : (test : PutOut → Bool) (made : Output → PutOut) (b : Bool) → ((o : Output) → test (made o) ≡ b) → (outs : List Output)
    → filter test (map made outs) ≡ (if b then map made outs else [])
const_filter test made true same [] = refl
const_filter test made false same [] = refl
const_filter test made true same (o ∷ outs) = rw (same o) (ap (λ (xs : List PutOut). made o ∷ xs) (const_filter test made true same outs))
const_filter test made false same (o ∷ outs) = rw (same o) (const_filter test made false same outs)

abbrev Made : Setting → WorldAt → Type 0
Made s v = (n : ℕ) → v.node n ≡ node_after (node_setting_of s n) (v.inputs n)

-- a step of the node itself
own_step : (cfg : NetCfg) (db : Database) (y : ℤ) (v w : WorldAt) (g : Given) → Made (setting_at cfg db) v
    → ((gives (setting_at cfg db) y v g).node g.to).ticks ≡ (w.node g.to).ticks
    → written (line_setting_in (setting_at cfg db) g.to) (v.inputs g.to) ++ flat_map (replay_line cfg) (of_node g.to (put_in w (node_step_of (setting_at cfg db) y v g)))
    ≡ written (line_setting_in (setting_at cfg db) g.to) (taken_of y g ∷ v.inputs g.to)
own_step cfg db y v w g made ticks =
    let s : Setting = setting_at cfg db in
    let site : LineSetting = line_setting_in s g.to in
    let t : Taken = taken_of y g in
    let outs : List Output = (node_step_of s y v g).outs in
    let all : of_node g.to (put_in w (node_step_of s y v g)) ≡ put_in w (node_step_of s y v g) =
    const_filter (λ x. x.node == g.to) (put_at w g.to) true (λ o. eq_self g.to) outs in
    let lines : flat_map (replay_line cfg) (put_in w (node_step_of s y v g)) ≡ output_lines site (w.node g.to).ticks outs =
    flat_map-map (replay_line cfg) (put_at w g.to) outs in
    let after : (step_of s y v g).node ≡ node_after (node_setting_at site) (t ∷ v.inputs g.to) =
    ap (λ (node : NodeAt). (node_step (node_setting_of s g.to) t node).node) (made g.to) in
    let given : (gives s y v g).node g.to ≡ (step_of s y v g).node = ap (λ (b : Bool). if b then (step_of s y v g).node else v.node g.to) (eq_self g.to) in
    let tick : (w.node g.to).ticks ≡ (node_after (node_setting_at site) (t ∷ v.inputs g.to)).ticks =
    sym ticks ∙ ap (λ (node : NodeAt). node.ticks) (given ∙ after) in
    let put : outs ≡ outputs_at (node_setting_at site) (v.inputs g.to) t =
    ap (λ (node : NodeAt). outputs_of (node_setting_of s g.to) g.input node (node_step (node_setting_of s g.to) t node)) (made g.to) in
    ap (λ (l : List ℕ). written site (v.inputs g.to) ++ l) (ap (flat_map (replay_line cfg)) all ∙ lines ∙ ap₂ (output_lines site) tick put)

abbrev Own : NetCfg → Database → ℤ → WorldAt → WorldAt → Given → ℕ → Type 0
Own cfg db y v w g n =
    written (line_setting_in (setting_at cfg db) n) (v.inputs n) ++ flat_map (replay_line cfg) (of_node n (put_in w (node_step_of (setting_at cfg db) y v g)))
    ≡ written (line_setting_in (setting_at cfg db) n) ((gives (setting_at cfg db) y v g).inputs n)

own_one : (cfg : NetCfg) (db : Database) (y : ℤ) (v w : WorldAt) (g : Given) (n : ℕ) → Made (setting_at cfg db) v
    → ((gives (setting_at cfg db) y v g).node n).ticks ≡ (w.node n).ticks → Own cfg db y v w g n
own_one cfg db y v w g n made ticks = go (n == g.to) refl
  where
    s : Setting
    s = setting_at cfg db

    go : (b : Bool) → (n == g.to) ≡ b → Own cfg db y v w g n
    go true is =
        let same : n ≡ g.to = eqb-true n g.to is in
        subst (Own cfg db y v w g) (sym same)
        (own_step cfg db y v w g made (subst (λ m. ((gives s y v g).node m).ticks ≡ (w.node m).ticks) same ticks)
        ∙ ap (λ (b : Bool). written (line_setting_in s g.to) (if b then taken_of y g ∷ v.inputs g.to else v.inputs g.to)) (sym (eq_self g.to)))
    go false is =
        ap (λ (xs : List PutOut). written (line_setting_in s n) (v.inputs n) ++ flat_map (replay_line cfg) xs)
        (const_filter (λ x. x.node == n) (put_at w g.to) false (λ o. turned_about g.to n ∙ is) (node_step_of s y v g).outs)
        ∙ append-nil (written (line_setting_in s n) (v.inputs n))
        ∙ ap (λ (b : Bool). written (line_setting_in s n) (if b then taken_of y g ∷ v.inputs n else v.inputs n)) (sym is)

own_all : (cfg : NetCfg) (db : Database) (y : ℤ) (v : WorldAt) (gs : List Given) (n : ℕ) → Made (setting_at cfg db) v → Late gs
    → written (line_setting_in (setting_at cfg db) n) (v.inputs n)
    ++ flat_map (replay_line cfg) (of_node n (flat_map (put_in (gives_all (setting_at cfg db) y v gs)) (steps_of (setting_at cfg db) y v gs)))
    ≡ written (line_setting_in (setting_at cfg db) n) ((gives_all (setting_at cfg db) y v gs).inputs n)
own_all cfg db y v [] n made late = append-nil (written (line_setting_in (setting_at cfg db) n) (v.inputs n))
own_all cfg db y v (g ∷ gs) n made late =
    let s : Setting = setting_at cfg db in
    let next : WorldAt = gives s y v g in
    let w : WorldAt = gives_all s y next gs in
    let first : List PutOut = put_in w (node_step_of s y v g) in
    let rest : List PutOut = flat_map (put_in w) (steps_of s y next gs) in
    let front : List ℕ = written (line_setting_in s n) (v.inputs n) in
    let one : Own cfg db y v w g n = own_one cfg db y v w g n made (sym (all_stay s y next gs n late.0)) in
    ap (λ (l : List ℕ). front ++ l)
    (ap (flat_map (replay_line cfg)) (filter-append (λ x. x.node == n) first rest) ∙ flat_map-append (replay_line cfg) (of_node n first) (of_node n rest))
    ∙ sym (append_assoc front (flat_map (replay_line cfg) (of_node n first)) (flat_map (replay_line cfg) (of_node n rest)))
    ∙ ap (λ (l : List ℕ). l ++ flat_map (replay_line cfg) (of_node n rest)) one
    ∙ own_all cfg db y next gs n (made_given s y v g made) late.1

pub own_lines : (cfg : NetCfg) (db : Database) (n : ℕ) (events : List Happened)
    → flat_map (replay_line cfg) (of_node n (put_out_by (setting_at cfg db) events)) ≡ written (line_setting_in (setting_at cfg db) n) ((world_after (setting_at cfg db) events).inputs n)
own_lines cfg db n [] = refl
own_lines cfg db n (h ∷ before) =
    let s : Setting = setting_at cfg db in
    let w : WorldAt = world_after s before in
    let v : WorldAt = moved s w h.event in
    let gs : List Given = given_by s w v h.says h.event in
    let new : List PutOut = flat_map (put_in (world_after s (h ∷ before))) (steps_at s before h) in
    ap (flat_map (replay_line cfg)) (filter-append (λ x. x.node == n) (put_out_by s before) new)
    ∙ flat_map-append (replay_line cfg) (of_node n (put_out_by s before)) (of_node n new)
    ∙ ap (λ (l : List ℕ). l ++ flat_map (replay_line cfg) (of_node n new)) (own_lines cfg db n before)
    ∙ own_all cfg db h.answer v gs n (λ m. made_after s before m) (late_given s w v h.says h.event)
