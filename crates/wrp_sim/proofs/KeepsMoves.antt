-- What the events of a simulator make of clocks, modules, fibres and frames.
use Rattle.std.proofs.Common.{◌≡◌, ◌∙◌, refl, ap, sym, subst, ℕ, ◌+◌, ◌==◌, ◌&&◌, ◌||◌, ◌≤◌, ℤ, pos, ◌+ℤ◌, ◌≤ℤ◌, nat_lt, Bool, true, false, if◌then◌else◌, List, [], ◌∷◌, Option, None, Some, option_map, Result, arith}
use Rattle.std.proofs.lemmas.Bool.{eqb-true}
use Rattle.std.proofs.lemmas.Int.{ints}
use Rattle.std.specs.Option.{option_map_or}
use Rattle.wrp_base.specs.declared.link.Role.{Role}
use Rattle.wrp_base.specs.declared.link.Role.TheVariants.{Master}
use Rattle.wrp_base.specs.declared.message.PtpMsg.{PtpMsg}
use Rattle.wrp_base.specs.declared.time.Raw.{Raw}
use Rattle.wrp_base.proofs.Booleans.{not_both}
use Rattle.wrp_base.proofs.Integers.{int_plus_zero}
use Rattle.wrp_base.proofs.Naturals.{le_of_same}
use Rattle.wrp_bounds.specs.Times.{reach}
use Rattle.wrp_frame.specs.declared.fault.FrameFault.{FrameFault}
use Rattle.wrp_node.specs.declared.interface.Input.{Input}
use Rattle.wrp_node.specs.declared.interface.Input.TheVariants.{Tick as TickInput, Sample as SampleInput, Frame, Sent, Carrier, Reset}
use Rattle.wrp_node.specs.NodeAt.{numbers_of}
use Rattle.wrp_course.specs.declared.clocks.ClockState.{ClockState}
use Rattle.wrp_course.specs.declared.event.Event.{Event}
use Rattle.wrp_course.specs.declared.event.Event.TheVariants.{Pass, Tick, Sample, Depart, Arrive, Deliver, Noise, Down, Up, Cut, Join}
use Rattle.wrp_course.specs.declared.event.Swap.{Swap}
use Rattle.wrp_course.specs.declared.fibres.FibreState.{FibreState}
use Rattle.wrp_course.specs.declared.place.Place.{Place}
use Rattle.wrp_course.proofs.RunMoves.{ticked_where}
use Rattle.wrp_course.proofs.RunSettled.{up_told}
use Rattle.wrp_course.proofs.RunTicks.{NoTick, told_same}
use Rattle.wrp_course.specs.Given.{Given, at_ports, clock_told, comes_from, delivered, given, given_by, given_plain, gives, gives_all, goes_from, sent_oldest, step_of, ticked_by, world_step}
use Rattle.wrp_course.specs.Moved.{arrived, behind_first, departed_after, departing, end_after, fibre_after, frame_after, is_place, loses, move_of, moved, one_more, port_number, removed, samples_at, swap_at, waiting_at, with_swap}
use Rattle.wrp_course.specs.RunLaws.{SameModule}
use Rattle.wrp_course.specs.Setting.{Setting, end_at, is_of, is_role, place_of}
use Rattle.wrp_course.specs.WorldAt.{Arrival, EndAt, FrameAt, Sending, WorldAt, delay_from, first_name, has_carrier, is_on_fibre, new_world}
use Rattle.wrp_course.proofs.RunGifts.{AllGiven, all_if, comes_all, delivered_all, goes_all, ports_all, sent_all}
use Rattle.wrp_course.proofs.RunTimes.{all_given_module, one_module, same_module}
use Rattle.wrp_sim.specs.Rules.{first_entry}
use Rattle.wrp_scene.specs.Scenario.{SceneAt, ms_of, sm_of}

-- Clocks: which nodes are up, and when each ticked last

abbrev pub up_after : WorldAt → Event → ℕ → Bool
up_after w (Down m) n = if n == m then false else (w.clock n).up
up_after w (Up m off swaps) n = if n == m then true else (w.clock n).up
up_after w _ n = (w.clock n).up

abbrev pub last_after : WorldAt → Event → ℕ → ℤ
last_after w (Tick m) n = if n == m then w.time else (w.clock n).ticked
last_after w (Up m off swaps) n = if n == m then w.time else (w.clock n).ticked
last_after w _ n = (w.clock n).ticked

up_where : (b : Bool) (c d : ClockState) → (if b then c else d).up ≡ (if b then c.up else d.up)
up_where true c d = refl
up_where false c d = refl

given_up : (s : Setting) (y : ℤ) (gs : List Given) (v : WorldAt) (n : ℕ) → ((gives_all s y v gs).clock n).up ≡ (v.clock n).up
given_up s y [] v n = refl
given_up s y (g ∷ gs) v n =
    given_up s y gs (gives s y v g) n ∙ up_told (n == g.to) (clock_told s v g (step_of s y v g).cycles (v.clock n)) (v.clock n) refl

moved_up : (s : Setting) (w : WorldAt) (e : Event) (n : ℕ) → ((moved s w e).clock n).up ≡ up_after w e n
moved_up s w (Down m) n = up_where (n == m) (record (w.clock n) { up = false }) (w.clock n)
moved_up s w (Up m off swaps) n = up_where (n == m) (record { up = true; off = off; ticked = w.time; samples = 0 }) (w.clock n)
moved_up s w (Sample m base bits) n = up_told (n == m) (record (w.clock n) { samples = (w.clock n).samples + 1 }) (w.clock n) refl
moved_up s w (Pass dt drifts fibres) n = refl
moved_up s w (Tick m) n = refl
moved_up s w (Depart m p stamp) n = refl
moved_up s w (Arrive i raw) n = refl
moved_up s w (Deliver i) n = refl
moved_up s w (Noise m p octets raw) n = refl
moved_up s w (Cut k) n = refl
moved_up s w (Join k ms sm) n = refl

pub step_up : (s : Setting) (says : Result PtpMsg FrameFault) (y : ℤ) (w : WorldAt) (e : Event) (n : ℕ) → ((world_step s says y w e).clock n).up ≡ up_after w e n
step_up s says y w e n = given_up s y (given_by s w (moved s w e) says e) (moved s w e) n ∙ moved_up s w e n

-- inputs that are not a tick

no_tick : (input : Input) (time before : ℤ) → NoTick input → ticked_by input time before ≡ before
no_tick TickInput time before h = absurd h
no_tick (SampleInput number base bits) time before h = refl
no_tick (Frame p octets raw sample) time before h = refl
no_tick (Sent p seq delay stamp) time before h = refl
no_tick (Carrier p up own_module) time before h = refl
no_tick Reset time before h = refl

given_last : (s : Setting) (y : ℤ) (gs : List Given) (v : WorldAt) (n : ℕ) → AllGiven NoTick gs → ((gives_all s y v gs).clock n).ticked ≡ (v.clock n).ticked
given_last s y [] v n h = refl
given_last s y (g ∷ gs) v n h =
    given_last s y gs (gives s y v g) n h.1
    ∙ told_same (n == g.to) (clock_told s v g (step_of s y v g).cycles (v.clock n)) (v.clock n) (no_tick g.input v.time (v.clock n).ticked h.0)

pub step_last : (s : Setting) (says : Result PtpMsg FrameFault) (y : ℤ) (w : WorldAt) (e : Event) (n : ℕ) → ((world_step s says y w e).clock n).ticked ≡ last_after w e n
step_last s says y w (Tick m) n =
    let v : WorldAt = moved s w (Tick m) in
    let g : Given = given_plain m TickInput in
    ticked_where (n == m) (clock_told s v g (step_of s y v g).cycles (w.clock n)) (w.clock n)
step_last s says y w (Up m off swaps) n =
    let v : WorldAt = moved s w (Up m off swaps) in
    given_last s y (given_plain m Reset ∷ at_ports s v (comes_from s v) m) v n
    (tt, ports_all NoTick s v (comes_from s v) m (numbers_of (s.set m)) (λ k r. comes_all NoTick (λ p o. tt) s v k r))
    ∙ ticked_where (n == m) (record { up = true; off = off; ticked = w.time; samples = 0 }) (w.clock n)
step_last s says y w (Sample m base bits) n =
    let v : WorldAt = moved s w (Sample m base bits) in
    given_last s y (given_plain m (SampleInput (v.clock m).samples base bits) ∷ []) v n (tt, tt)
    ∙ told_same (n == m) (record (w.clock n) { samples = (w.clock n).samples + 1 }) (w.clock n) refl
step_last s says y w (Depart m p stamp) n =
    given_last s y (sent_oldest m p stamp (w.clock m).samples (waiting_at w (place_of s m p))) (moved s w (Depart m p stamp)) n
    (sent_all NoTick (λ q seq delay t. tt) m p stamp (w.clock m).samples (waiting_at w (place_of s m p)))
step_last s says y w (Deliver i) n =
    given_last s y (delivered s (w.frame i)) (moved s w (Deliver i)) n (delivered_all NoTick (λ p octets raw sample. tt) s (w.frame i))
step_last s says y w (Noise m p octets raw) n =
    given_last s y (given m (Frame p octets raw (w.clock m).samples) says ∷ []) (moved s w (Noise m p octets raw)) n (tt, tt)
step_last s says y w (Down m) n =
    given_last s y (at_ports s w (goes_from s) m) (moved s w (Down m)) n
    (ports_all NoTick s w (goes_from s) m (numbers_of (s.set m)) (λ k r. goes_all NoTick (λ p. tt) s k r))
    ∙ told_same (n == m) (record (w.clock n) { up = false }) (w.clock n) refl
step_last s says y w (Cut k) n =
    given_last s y (if has_carrier s w k then goes_from s k Master else []) (moved s w (Cut k)) n
    (all_if NoTick (has_carrier s w k) (goes_from s k Master) (goes_all NoTick (λ p. tt) s k Master))
step_last s says y w (Join k ms sm) n =
    let v : WorldAt = moved s w (Join k ms sm) in
    given_last s y (if has_carrier s v k then comes_from s v k Master else []) v n
    (all_if NoTick (has_carrier s v k) (comes_from s v k Master) (comes_all NoTick (λ p o. tt) s v k Master))
step_last s says y w (Pass dt drifts fibres) n = refl
step_last s says y w (Arrive i raw) n = refl

-- Modules: those that the file names stay in place, with the delays of their entries

pub record IsFirst (s : Setting) (k : ℕ) (r : Role) (e : EndAt) : Type 0 where
  pub name : e.name ≡ first_name s k r
  pub tx : e.tx ≡ option_map_or (λ m. m.tx) (first_entry s k r) 0
  pub rx : e.rx ≡ option_map_or (λ m. m.rx) (first_entry s k r) 0

abbrev pub FirstModules : Setting → WorldAt → Type 0
FirstModules s w = (k : ℕ) (r : Role) → IsFirst s k r (w.end_at k r)

pub new_modules : (s : Setting) → FirstModules s (new_world s)
new_modules s k r = record { name = refl; tx = refl; rx = refl }

same_first : (s : Setting) (k : ℕ) (r : Role) (e f : EndAt) → SameModule e f → IsFirst s k r e → IsFirst s k r f
same_first s k r e f same h = record { name = same.name ∙ h.name; tx = same.tx ∙ h.tx; rx = same.rx ∙ h.rx }

-- an event that puts no module in place
abbrev pub NoSwaps : Event → Type 0
NoSwaps (Up n off swaps) = swaps.items ≡ []
NoSwaps _ = Unit {0}

moved_modules : (s : Setting) (w : WorldAt) (e : Event) (k : ℕ) (r : Role) → NoSwaps e → SameModule (w.end_at k r) (end_after s w e k r)
moved_modules s w (Depart n p stamp) k r h =
    one_module (is_place (place_of s n p) k r) (record (w.end_at k r) { waiting = behind_first (w.end_at k r).waiting }) (w.end_at k r) (record { name = refl; tx = refl; rx = refl })
moved_modules s w (Up n off swaps) k r h =
    one_module (is_of n (end_at s k r)) (with_swap (swap_at (port_number s k r) swaps.items) (w.end_at k r)) (w.end_at k r)
    (subst (λ (xs : List Swap). SameModule (w.end_at k r) (with_swap (swap_at (port_number s k r) xs) (w.end_at k r))) (sym h) (same_module (w.end_at k r)))
moved_modules s w (Down n) k r h = one_module (loses s (Down n) k) (record (w.end_at k r) { waiting = [] }) (w.end_at k r) (record { name = refl; tx = refl; rx = refl })
moved_modules s w (Cut l) k r h = one_module (loses s (Cut l) k) (record (w.end_at k r) { waiting = [] }) (w.end_at k r) (record { name = refl; tx = refl; rx = refl })
moved_modules s w _ k r h = same_module (w.end_at k r)

pub moved_first : (s : Setting) (w : WorldAt) (e : Event) → NoSwaps e → FirstModules s w → FirstModules s (moved s w e)
moved_first s w e none h k r = same_first s k r (w.end_at k r) (end_after s w e k r) (moved_modules s w e k r none) (h k r)

pub step_modules : (s : Setting) (says : Result PtpMsg FrameFault) (y : ℤ) (w : WorldAt) (e : Event) → NoSwaps e → FirstModules s w → FirstModules s (world_step s says y w e)
step_modules s says y w e none h k r =
    let v : WorldAt = moved s w e in
    let gs : List Given = given_by s w v says e in
    same_first s k r (v.end_at k r) ((gives_all s y v gs).end_at k r) (all_given_module s y gs v k r)
    (same_first s k r (w.end_at k r) (v.end_at k r) (moved_modules s w e k r none) (h k r))

-- Fibres: a joined link has the delays of the scenario

abbrev HasDelays : SceneAt → Setting → ℕ → FibreState → Type 0
HasDelays scene s k f = f.joined ≡ true → (f.ms ≡ ms_of s.cfg scene k) × (f.sm ≡ sm_of s.cfg scene k)

abbrev pub SceneFibres : SceneAt → Setting → WorldAt → Type 0
SceneFibres scene s w = (k : ℕ) → HasDelays scene s k (w.fibre k)

pub new_fibres : (scene : SceneAt) (s : Setting) → SceneFibres scene s (new_world s)
new_fibres scene s k e = absurd (not_both false e refl)

-- an event by which no fibre moves, and links are joined only with the scenario's delays
abbrev pub MovesNoFibre : SceneAt → Setting → Event → Type 0
MovesNoFibre scene s (Pass dt drifts fibres) = (k : ℕ) → move_of fibres.items k ≡ (pos 0, pos 0)
MovesNoFibre scene s (Join k ms sm) = (ms ≡ ms_of s.cfg scene k) × (sm ≡ sm_of s.cfg scene k)
MovesNoFibre scene s _ = Unit {0}

fibre_where : (P : FibreState → Type 0) (b : Bool) (f g : FibreState) → (b ≡ true → P f) → P g → P (if b then f else g)
fibre_where P true f g h i = h refl
fibre_where P false f g h i = i

moved_fibre : (scene : SceneAt) (s : Setting) (w : WorldAt) (e : Event) (k : ℕ) → MovesNoFibre scene s e → HasDelays scene s k (w.fibre k) → HasDelays scene s k (fibre_after w e k)
moved_fibre scene s w (Pass dt drifts fibres) k none h =
    λ j.
    let both : ((w.fibre k).ms ≡ ms_of s.cfg scene k) × ((w.fibre k).sm ≡ sm_of s.cfg scene k) = h j in (
      ap (λ (m : ℤ × ℤ). (w.fibre k).ms +ℤ m.0) (none k) ∙ int_plus_zero (w.fibre k).ms ∙ both.0,
      ap (λ (m : ℤ × ℤ). (w.fibre k).sm +ℤ m.1) (none k) ∙ int_plus_zero (w.fibre k).sm ∙ both.1,
    )
moved_fibre scene s w (Cut l) k none h = fibre_where (HasDelays scene s k) (k == l) (record (w.fibre k) { joined = false }) (w.fibre k) (λ b j. absurd (not_both false j refl)) h
moved_fibre scene s w (Join l ms sm) k none h =
    fibre_where (HasDelays scene s k) (k == l) (record { joined = true; ms = ms; sm = sm }) (w.fibre k)
    (λ b j. subst (λ x. (ms ≡ ms_of s.cfg scene x) × (sm ≡ sm_of s.cfg scene x)) (sym (eqb-true k l b)) none) h
moved_fibre scene s w (Tick n) k none h = h
moved_fibre scene s w (Sample n base bits) k none h = h
moved_fibre scene s w (Depart n p stamp) k none h = h
moved_fibre scene s w (Arrive i raw) k none h = h
moved_fibre scene s w (Deliver i) k none h = h
moved_fibre scene s w (Noise n p octets raw) k none h = h
moved_fibre scene s w (Down n) k none h = h
moved_fibre scene s w (Up n off swaps) k none h = h

pub moved_scene : (scene : SceneAt) (s : Setting) (w : WorldAt) (e : Event) → MovesNoFibre scene s e → SceneFibres scene s w → SceneFibres scene s (moved s w e)
moved_scene scene s w e none h k = moved_fibre scene s w e k none (h k)

pub all_given_fibre : (s : Setting) (y : ℤ) (gs : List Given) (v : WorldAt) (k : ℕ) → (gives_all s y v gs).fibre k ≡ v.fibre k
all_given_fibre s y [] v k = refl
all_given_fibre s y (g ∷ gs) v k = all_given_fibre s y gs (gives s y v g) k

pub step_fibre : (scene : SceneAt) (s : Setting) (says : Result PtpMsg FrameFault) (y : ℤ) (w : WorldAt) (e : Event) → MovesNoFibre scene s e → SceneFibres scene s w → SceneFibres scene s (world_step s says y w e)
step_fibre scene s says y w e none h k =
    subst (HasDelays scene s k) (sym (all_given_fibre s y (given_by s w (moved s w e) says e) (moved s w e) k)) (moved_fibre scene s w e k none (h k))

-- Frames: each has a number that was given, departed as it was sent, and is due no later than a reach after

abbrev pub FrameKept : Setting → (departed i : ℕ) → Option FrameAt → Type 0
FrameKept s departed i None = Unit {0}
FrameKept s departed i (Some f) = (i ≤ departed) × (f.sending.at ≡ f.at) × (f.due ≤ℤ (f.at +ℤ pos (reach s.cfg)))

abbrev pub FramesYoung : Setting → WorldAt → Type 0
FramesYoung s w = (i : ℕ) → FrameKept s w.departed i (w.frame i)

abbrev pub LeavesYoung : Setting → WorldAt → Option Place → List Sending → Type 0
LeavesYoung s w (Some place) (oldest ∷ rest) = (oldest.at ≡ w.time) × (delay_from w place.link place.role ≤ℤ pos (reach s.cfg))
LeavesYoung s w _ _ = Unit {0}

-- an event by which frames depart only as they are sent
abbrev pub DepartsYoung : Setting → WorldAt → Event → Type 0
DepartsYoung s w (Depart n p stamp) = LeavesYoung s w (place_of s n p) (waiting_at w (place_of s n p))
DepartsYoung s w _ = Unit {0}

more_frames : (s : Setting) (d e i : ℕ) (o : Option FrameAt) → d ≤ e → FrameKept s d i o → FrameKept s e i o
more_frames s d e i None h k = tt
more_frames s d e i (Some f) h k = (omega (arith, h, k.0), k.1, k.2)

few_more : (d : ℕ) (queue : List Sending) → d ≤ one_more queue d
few_more d [] = omega arith
few_more d (x ∷ queue) = omega arith

kept_where : (s : Setting) (d i : ℕ) (b : Bool) (o p : Option FrameAt) → (b ≡ true → FrameKept s d i o) → FrameKept s d i p → FrameKept s d i (if b then o else p)
kept_where s d i true o p x y = x refl
kept_where s d i false o p x y = y

due_by : (now delay most : ℤ) → delay ≤ℤ most → (now +ℤ delay) ≤ℤ (now +ℤ most)
due_by now delay most h = omega (arith, ints, h)

leaves_kept : (s : Setting) (w : WorldAt) (place : Option Place) (stamp : ℤ) (i : ℕ) (queue : List Sending) → LeavesYoung s w place queue → FrameKept s w.departed i (w.frame i) →
    FrameKept s (one_more queue w.departed) i (departing w place stamp queue i)
leaves_kept s w None stamp i queue h k = more_frames s w.departed (one_more queue w.departed) i (w.frame i) (few_more w.departed queue) k
leaves_kept s w (Some place) stamp i [] h k = k
leaves_kept s w (Some place) stamp i (oldest ∷ rest) h k =
    kept_where s (w.departed + 1) i (i == (w.departed + 1)) (Some _) (w.frame i)
    (λ b. (le_of_same i (w.departed + 1) (eqb-true i (w.departed + 1) b), h.0, due_by w.time (delay_from w place.link place.role) (pos (reach s.cfg)) h.1))
    (more_frames s w.departed (w.departed + 1) i (w.frame i) (few_more w.departed (oldest ∷ rest)) k)

comes_kept : (s : Setting) (d i : ℕ) (f : FrameAt) (b : Bool) (a : Arrival) (gone : Bool) → FrameKept s d i (Some f) → FrameKept s d i (Some (if b then record f { arrival = Some a } else record f { gone = gone }))
comes_kept s d i f true a gone h = h
comes_kept s d i f false a gone h = h

arrived_kept : (s : Setting) (w : WorldAt) (d j : ℕ) (raw : Raw) (g : Option FrameAt) (i : ℕ) (o : Option FrameAt) → FrameKept s d i o → FrameKept s d i (arrived s w j raw g i o)
arrived_kept s w d j raw (Some g) i (Some f) h =
    comes_kept s d i f (i == j) (record { raw = raw; sample = samples_at s w g; at = w.time; moment = w.count })
    (f.gone || (is_on_fibre (Some f) && (nat_lt i j && ((f.link == g.link) && is_role f.by g.by)))) h
arrived_kept s w d j raw None i None h = h
arrived_kept s w d j raw None i (Some f) h = h
arrived_kept s w d j raw (Some g) i None h = h

removed_kept : (s : Setting) (d i : ℕ) (e : Event) (o : Option FrameAt) → FrameKept s d i o → FrameKept s d i (option_map (removed s e) o)
removed_kept s d i e None h = h
removed_kept s d i e (Some f) h = h

moved_kept : (s : Setting) (w : WorldAt) (e : Event) (i : ℕ) → DepartsYoung s w e → FrameKept s w.departed i (w.frame i) → FrameKept s (departed_after s w e) i (frame_after s w e i)
moved_kept s w (Depart n p stamp) i young h = leaves_kept s w (place_of s n p) stamp i (waiting_at w (place_of s n p)) young h
moved_kept s w (Arrive j raw) i young h = arrived_kept s w w.departed j raw (w.frame j) i (w.frame i) h
moved_kept s w (Pass dt drifts fibres) i young h = removed_kept s w.departed i (Pass dt drifts fibres) (w.frame i) h
moved_kept s w (Tick n) i young h = removed_kept s w.departed i (Tick n) (w.frame i) h
moved_kept s w (Sample n base bits) i young h = removed_kept s w.departed i (Sample n base bits) (w.frame i) h
moved_kept s w (Deliver j) i young h = removed_kept s w.departed i (Deliver j) (w.frame i) h
moved_kept s w (Noise n p octets raw) i young h = removed_kept s w.departed i (Noise n p octets raw) (w.frame i) h
moved_kept s w (Down n) i young h = removed_kept s w.departed i (Down n) (w.frame i) h
moved_kept s w (Up n off swaps) i young h = removed_kept s w.departed i (Up n off swaps) (w.frame i) h
moved_kept s w (Cut l) i young h = removed_kept s w.departed i (Cut l) (w.frame i) h
moved_kept s w (Join l ms sm) i young h = removed_kept s w.departed i (Join l ms sm) (w.frame i) h

given_kept : (s : Setting) (y : ℤ) (gs : List Given) (v : WorldAt) (i : ℕ) → FrameKept s v.departed i (v.frame i) → FrameKept s (gives_all s y v gs).departed i ((gives_all s y v gs).frame i)
given_kept s y [] v i h = h
given_kept s y (g ∷ gs) v i h = given_kept s y gs (gives s y v g) i h

pub step_young : (s : Setting) (says : Result PtpMsg FrameFault) (y : ℤ) (w : WorldAt) (e : Event) → DepartsYoung s w e → FramesYoung s w → FramesYoung s (world_step s says y w e)
step_young s says y w e young h i = given_kept s y (given_by s w (moved s w e) says e) (moved s w e) i (moved_kept s w e i young (h i))

pub new_young : (s : Setting) → FramesYoung s (new_world s)
new_young s i = tt
