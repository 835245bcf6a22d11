-- What holds for a simulator and its world at every moment.
use Rattle.std.proofs.Common.{◌≡◌, ◌∙◌, refl, ap, sym, subst, ℕ, zero, ◌+◌, ◌==◌, ◌≤◌, ◌<◌, ℤ, pos, ◌+ℤ◌, ◌≤ℤ◌, Bool, true, false, if◌then◌else◌, List, [], ◌∷◌, Option, None, Some, option_map, Result, arith}
use Rattle.std.proofs.lemmas.Bool.{eqb-true}
use Rattle.std.specs.Int.Signed.{le_z}
use Rattle.std.specs.List.{AllByRecursion}
use Rattle.std.proofs.lemmas.Option.{none-some}
use Rattle.wrp_base.specs.declared.message.PtpMsg.{PtpMsg}
use Rattle.wrp_network.specs.Network.{node_count}
use Rattle.wrp_base.proofs.Booleans.{not_both}
use Rattle.wrp_base.proofs.Naturals.{nat_le_trans, not_next}
use Rattle.wrp_bounds.specs.Times.{longest_tick, shortest_tick}
use Rattle.wrp_frame.specs.declared.fault.FrameFault.{FrameFault}
use Rattle.wrp_course.specs.declared.event.Event.{Event}
use Rattle.wrp_course.specs.declared.event.Event.TheVariants.{Pass, Tick, Sample, Depart, Arrive, Deliver, Noise, Down, Up, Cut, Join}
use Rattle.wrp_course.specs.declared.fibres.FibreState.{FibreState}
use Rattle.wrp_course.specs.EventAt.{link_count}
use Rattle.wrp_course.proofs.RunChanges.{joined_where, still_up}
use Rattle.wrp_course.proofs.RunStamps.{all_given_frame}
use Rattle.wrp_course.specs.Given.{Given, given_by, world_step}
use Rattle.wrp_course.specs.Moved.{departing, moved, removed, time_after, waiting_at}
use Rattle.wrp_course.specs.declared.place.Place.{Place}
use Rattle.wrp_course.specs.Setting.{Setting, place_of}
use Rattle.wrp_course.specs.WorldAt.{Arrival, FrameAt, Sending, WorldAt, has_carrier, new_world}
use Rattle.wrp_course.proofs.RunSettled.{all_given_carrier, sampled_carrier}
use Rattle.wrp_course.proofs.RunTimes.{all_given_time}
use Rattle.wrp_scene.specs.declared.scene.fault.Fault.{Fault}
use Rattle.wrp_sim.specs.Rules.{fault_time}
use Rattle.wrp_scene.specs.Scenario.{IsFault, IsSceneOf, SceneAt}
use Rattle.wrp_sim.specs.SimAt.{SimAt, new_sim}
use Rattle.wrp_sim.proofs.KeepsWaits.{still_joined}
use Rattle.wrp_sim.proofs.KeepsMoves.{DepartsYoung, FirstModules, FrameKept, FramesYoung, MovesNoFibre, NoSwaps, SceneFibres, all_given_fibre, last_after, new_fibres, new_modules, new_young, step_fibre, step_last, step_modules, step_up, step_young, up_after}

-- a tick comes from the least to the most after the last one, and not before now
pub record TicksBy (least most : ℕ) (last now tick : ℤ) : Type 0 where
  pub least_after : (last +ℤ pos least) ≤ℤ tick
  pub most_after : tick ≤ℤ (last +ℤ pos most)
  pub later : now ≤ℤ tick

-- each node that is up ticks next within those times
abbrev pub TicksKept : Setting → WorldAt → (ℕ → ℤ) → Type 0
TicksKept s w tick_at =
    (n : ℕ) → (w.clock n).up ≡ true → TicksBy (shortest_tick s.cfg) (longest_tick s.cfg) (w.clock n).ticked w.time (tick_at n)

-- before their turn at the start links are cut, and nodes are down
pub record Waits (s : Setting) (w : WorldAt) (begun : ℕ) : Type 0 where
  pub most : begun ≤ link_count s.cfg + node_count s.cfg
  pub links : (k : ℕ) → begun ≤ k → (w.fibre k).joined ≡ false
  pub nodes : (n : ℕ) → begun ≤ link_count s.cfg + n → (w.clock n).up ≡ false

-- a frame arrived now, over a link that has its carrier
pub record IsHere (s : Setting) (w : WorldAt) (i : ℕ) : Type 0 where
  pub frame : FrameAt
  pub is : w.frame i ≡ Some frame
  pub arrival : Arrival
  pub arrived : frame.arrival ≡ Some arrival
  pub now : arrival.at ≡ w.time
  pub lit : has_carrier s w frame.link ≡ true

-- no fault's time has come
abbrev pub AllQuiet : Setting → ℤ → List Fault → Type 0
AllQuiet s now faults = AllByRecursion (λ (f : Fault). le_z (fault_time s f) now ≡ false) faults

-- the frame that is still handed over is here, and no fault comes before
pub record HandsOver (s : Setting) (w : WorldAt) (at : SimAt) : Type 0 where
  pub here : IsHere s w at.arrived.frame
  pub quiet : AllQuiet s w.time at.faults

pub record Keeps (scene : SceneAt) (s : Setting) (w : WorldAt) (at : SimAt) : Type 0 where
  pub modules : FirstModules s w
  pub fibres : SceneFibres scene s w
  pub young : FramesYoung s w
  pub ticks : TicksKept s w at.tick_at
  pub waits : Waits s w at.begun
  pub faults : AllByRecursion (IsFault s.cfg) at.faults
  pub ticked : (n : ℕ) → at.ticked ≡ Some n → n < node_count s.cfg
  pub handed : 0 < at.arrived.times → HandsOver s w at

-- Before any event

not_positive : 0 < zero → ⊥
not_positive h = omega (arith, h)

pub new_keeps : (scene : SceneAt) (s : Setting) (seed : ℕ) → IsSceneOf s.cfg scene → Keeps scene s (new_world s) (new_sim scene seed)
new_keeps scene s seed fits = record {
  modules = new_modules s;
  fibres = new_fibres scene s;
  young = new_young s;
  ticks = λ n up. absurd (not_both false up refl);
  waits = record { most = omega arith; links = λ k h. refl; nodes = λ n h. refl };
  faults = fits.fault;
  ticked = λ n e. absurd (none-some n e);
  handed = λ h. absurd (not_positive h);
}

-- Time

pub step_time_is : (s : Setting) (says : Result PtpMsg FrameFault) (y : ℤ) (w : WorldAt) (e : Event) → (world_step s says y w e).time ≡ time_after w e
step_time_is s says y w e = all_given_time s y (given_by s w (moved s w e) says e) (moved s w e)

-- Ticks

abbrev pub TicksAfter : Setting → WorldAt → Event → (ℕ → ℤ) → Type 0
TicksAfter s w e tick_at =
    (n : ℕ) → up_after w e n ≡ true → TicksBy (shortest_tick s.cfg) (longest_tick s.cfg) (last_after w e n) (time_after w e) (tick_at n)

pub step_ticks : (s : Setting) (says : Result PtpMsg FrameFault) (y : ℤ) (w : WorldAt) (e : Event) (tick_at : ℕ → ℤ) → TicksAfter s w e tick_at → TicksKept s (world_step s says y w e) tick_at
step_ticks s says y w e tick_at h n up =
    let v : WorldAt = world_step s says y w e in
    subst (λ t. TicksBy (shortest_tick s.cfg) (longest_tick s.cfg) (v.clock n).ticked t (tick_at n)) (sym (step_time_is s says y w e))
    (subst (λ t. TicksBy (shortest_tick s.cfg) (longest_tick s.cfg) t (time_after w e) (tick_at n)) (sym (step_last s says y w e n))
    (h n (sym (step_up s says y w e n) ∙ up)))

-- The start

abbrev pub joined_after : WorldAt → Event → ℕ → Bool
joined_after w (Cut l) k = if k == l then false else (w.fibre k).joined
joined_after w (Join l ms sm) k = if k == l then true else (w.fibre k).joined
joined_after w _ k = (w.fibre k).joined

moved_joined : (s : Setting) (w : WorldAt) (e : Event) (k : ℕ) → ((moved s w e).fibre k).joined ≡ joined_after w e k
moved_joined s w (Cut l) k = joined_where (k == l) (record (w.fibre k) { joined = false }) (w.fibre k)
moved_joined s w (Join l ms sm) k = joined_where (k == l) (record { joined = true; ms = ms; sm = sm }) (w.fibre k)
moved_joined s w (Pass dt drifts fibres) k = refl
moved_joined s w (Tick n) k = refl
moved_joined s w (Sample n base bits) k = refl
moved_joined s w (Depart n p stamp) k = refl
moved_joined s w (Arrive i raw) k = refl
moved_joined s w (Deliver i) k = refl
moved_joined s w (Noise n p octets raw) k = refl
moved_joined s w (Down n) k = refl
moved_joined s w (Up n off swaps) k = refl

-- a link that is joined, or a node that comes up, has had its turn
abbrev pub HadTurn : Setting → Event → (begun : ℕ) → Type 0
HadTurn s (Join l ms sm) begun = l < begun
HadTurn s (Up m off swaps) begun = link_count s.cfg + m < begun
HadTurn s _ begun = Unit {0}

above_not : (k l b : ℕ) → l < b → b ≤ k → (k == l) ≡ true → ⊥
above_not k l b h i e = let same : k ≡ l = eqb-true k l e in omega (arith, h, i, same)

above_other : (c n m b : ℕ) → c + m < b → b ≤ c + n → (n == m) ≡ true → ⊥
above_other c n m b h i e = let same : n ≡ m = eqb-true n m e in omega (arith, h, i, same)

neither : (b x y : Bool) → (b ≡ true → ⊥) → y ≡ false → (if b then x else y) ≡ false
neither true x y h e = absurd (h refl)
neither false x y h e = e

either_false : (b y : Bool) → y ≡ false → (if b then false else y) ≡ false
either_false true y e = refl
either_false false y e = e

joined_waits : (s : Setting) (w : WorldAt) (e : Event) (old new : ℕ) → old ≤ new → HadTurn s e new → Waits s w old → (k : ℕ) → new ≤ k → joined_after w e k ≡ false
joined_waits s w (Cut l) old new more turn h k above = either_false (k == l) (w.fibre k).joined (h.links k (nat_le_trans old new k more above))
joined_waits s w (Join l ms sm) old new more turn h k above =
    neither (k == l) true (w.fibre k).joined (above_not k l new turn above) (h.links k (nat_le_trans old new k more above))
joined_waits s w (Pass dt drifts fibres) old new more turn h k above = h.links k (nat_le_trans old new k more above)
joined_waits s w (Tick n) old new more turn h k above = h.links k (nat_le_trans old new k more above)
joined_waits s w (Sample n base bits) old new more turn h k above = h.links k (nat_le_trans old new k more above)
joined_waits s w (Depart n p stamp) old new more turn h k above = h.links k (nat_le_trans old new k more above)
joined_waits s w (Arrive i raw) old new more turn h k above = h.links k (nat_le_trans old new k more above)
joined_waits s w (Deliver i) old new more turn h k above = h.links k (nat_le_trans old new k more above)
joined_waits s w (Noise n p octets raw) old new more turn h k above = h.links k (nat_le_trans old new k more above)
joined_waits s w (Down n) old new more turn h k above = h.links k (nat_le_trans old new k more above)
joined_waits s w (Up n off swaps) old new more turn h k above = h.links k (nat_le_trans old new k more above)

up_waits : (s : Setting) (w : WorldAt) (e : Event) (old new : ℕ) → old ≤ new → HadTurn s e new → Waits s w old → (n : ℕ) → new ≤ link_count s.cfg + n → up_after w e n ≡ false
up_waits s w (Down m) old new more turn h n above = either_false (n == m) (w.clock n).up (h.nodes n (nat_le_trans old new (link_count s.cfg + n) more above))
up_waits s w (Up m off swaps) old new more turn h n above =
    neither (n == m) true (w.clock n).up (above_other (link_count s.cfg) n m new turn above) (h.nodes n (nat_le_trans old new (link_count s.cfg + n) more above))
up_waits s w (Pass dt drifts fibres) old new more turn h n above = h.nodes n (nat_le_trans old new (link_count s.cfg + n) more above)
up_waits s w (Tick m) old new more turn h n above = h.nodes n (nat_le_trans old new (link_count s.cfg + n) more above)
up_waits s w (Sample m base bits) old new more turn h n above = h.nodes n (nat_le_trans old new (link_count s.cfg + n) more above)
up_waits s w (Depart m p stamp) old new more turn h n above = h.nodes n (nat_le_trans old new (link_count s.cfg + n) more above)
up_waits s w (Arrive i raw) old new more turn h n above = h.nodes n (nat_le_trans old new (link_count s.cfg + n) more above)
up_waits s w (Deliver i) old new more turn h n above = h.nodes n (nat_le_trans old new (link_count s.cfg + n) more above)
up_waits s w (Noise m p octets raw) old new more turn h n above = h.nodes n (nat_le_trans old new (link_count s.cfg + n) more above)
up_waits s w (Cut l) old new more turn h n above = h.nodes n (nat_le_trans old new (link_count s.cfg + n) more above)
up_waits s w (Join l ms sm) old new more turn h n above = h.nodes n (nat_le_trans old new (link_count s.cfg + n) more above)

pub step_waits : (s : Setting) (says : Result PtpMsg FrameFault) (y : ℤ) (w : WorldAt) (e : Event) (old new : ℕ) → old ≤ new → new ≤ link_count s.cfg + node_count s.cfg → HadTurn s e new → Waits s w old →
    Waits s (world_step s says y w e) new
step_waits s says y w e old new more most turn h = record {
  most = most;
  links = λ k above.
      ap (λ (f : FibreState). f.joined) (all_given_fibre s y (given_by s w (moved s w e) says e) (moved s w e) k)
      ∙ moved_joined s w e k ∙ joined_waits s w e old new more turn h k above;
  nodes = λ n above. step_up s says y w e n ∙ up_waits s w e old new more turn h n above;
}

-- A frame that is here stays here after an event that takes no time and no carrier, and is not an
-- arrival

-- events after which a frame stays here
abbrev pub IsGentle : Event → Type 0
IsGentle (Pass dt drifts fibres) = ⊥
IsGentle (Arrive i raw) = ⊥
IsGentle (Down n) = ⊥
IsGentle (Cut l) = ⊥
IsGentle _ = Unit {0}

-- frame i after the event, if it was f
pub record StaysHere (s : Setting) (v : WorldAt) (i : ℕ) (f : FrameAt) : Type 0 where
  pub frame : FrameAt
  pub is : v.frame i ≡ Some frame
  pub link : frame.link ≡ f.link
  pub arrival : frame.arrival ≡ f.arrival

removed_stays : (s : Setting) (w : WorldAt) (e : Event) (v : WorldAt) (i : ℕ) (f : FrameAt) → v.frame i ≡ option_map (removed s e) (w.frame i) → w.frame i ≡ Some f → StaysHere s v i f
removed_stays s w e v i f h is = record { frame = removed s e f; is = h ∙ ap (option_map (removed s e)) is; link = refl; arrival = refl }

other_where : (b : Bool) (o p : Option FrameAt) → (b ≡ true → ⊥) → (if b then o else p) ≡ p
other_where true o p h = absurd (h refl)
other_where false o p h = refl

departing_other : (w : WorldAt) (place : Option Place) (stamp : ℤ) (queue : List Sending) (i : ℕ) → i ≤ w.departed → departing w place stamp queue i ≡ w.frame i
departing_other w None stamp queue i h = refl
departing_other w (Some place) stamp [] i h = refl
departing_other w (Some place) stamp (oldest ∷ rest) i h = other_where (i == (w.departed + 1)) (Some _) (w.frame i) (not_next i w.departed h)

numbered : (s : Setting) (d i : ℕ) (o : Option FrameAt) (f : FrameAt) → o ≡ Some f → FrameKept s d i o → i ≤ d
numbered s d i o f e h = (subst (FrameKept s d i) e h).0

moved_stays : (s : Setting) (w : WorldAt) (e : Event) (i : ℕ) (f : FrameAt) → IsGentle e → FramesYoung s w → w.frame i ≡ Some f → StaysHere s (moved s w e) i f
moved_stays s w (Depart n p stamp) i f gentle young is = record {
  frame = f;
  is = departing_other w (place_of s n p) stamp (waiting_at w (place_of s n p)) i (numbered s w.departed i (w.frame i) f is (young i)) ∙ is;
  link = refl;
  arrival = refl;
}
moved_stays s w (Tick n) i f gentle young is = removed_stays s w (Tick n) (moved s w (Tick n)) i f refl is
moved_stays s w (Sample n base bits) i f gentle young is = removed_stays s w (Sample n base bits) (moved s w (Sample n base bits)) i f refl is
moved_stays s w (Deliver j) i f gentle young is = removed_stays s w (Deliver j) (moved s w (Deliver j)) i f refl is
moved_stays s w (Noise n p octets raw) i f gentle young is = removed_stays s w (Noise n p octets raw) (moved s w (Noise n p octets raw)) i f refl is
moved_stays s w (Up n off swaps) i f gentle young is = removed_stays s w (Up n off swaps) (moved s w (Up n off swaps)) i f refl is
moved_stays s w (Join l ms sm) i f gentle young is = removed_stays s w (Join l ms sm) (moved s w (Join l ms sm)) i f refl is
moved_stays s w (Pass dt drifts fibres) i f gentle young is = absurd gentle
moved_stays s w (Arrive j raw) i f gentle young is = absurd gentle
moved_stays s w (Down n) i f gentle young is = absurd gentle
moved_stays s w (Cut l) i f gentle young is = absurd gentle

gentle_carrier : (s : Setting) (w : WorldAt) (e : Event) (k : ℕ) → IsGentle e → has_carrier s w k ≡ true → has_carrier s (moved s w e) k ≡ true
gentle_carrier s w (Up n off swaps) k gentle c = still_up s w n off swaps k c
gentle_carrier s w (Join l ms sm) k gentle c = still_joined s w l ms sm k c
gentle_carrier s w (Sample n base bits) k gentle c = sampled_carrier s w n base bits k ∙ c
gentle_carrier s w (Tick n) k gentle c = c
gentle_carrier s w (Depart n p stamp) k gentle c = c
gentle_carrier s w (Deliver j) k gentle c = c
gentle_carrier s w (Noise n p octets raw) k gentle c = c
gentle_carrier s w (Pass dt drifts fibres) k gentle c = absurd gentle
gentle_carrier s w (Arrive j raw) k gentle c = absurd gentle
gentle_carrier s w (Down n) k gentle c = absurd gentle
gentle_carrier s w (Cut l) k gentle c = absurd gentle

gentle_time : (w : WorldAt) (e : Event) → IsGentle e → time_after w e ≡ w.time
gentle_time w (Pass dt drifts fibres) gentle = absurd gentle
gentle_time w (Tick n) gentle = refl
gentle_time w (Sample n base bits) gentle = refl
gentle_time w (Depart n p stamp) gentle = refl
gentle_time w (Arrive i raw) gentle = refl
gentle_time w (Deliver i) gentle = refl
gentle_time w (Noise n p octets raw) gentle = refl
gentle_time w (Down n) gentle = refl
gentle_time w (Up n off swaps) gentle = refl
gentle_time w (Cut l) gentle = refl
gentle_time w (Join l ms sm) gentle = refl

pub step_same_time : (s : Setting) (says : Result PtpMsg FrameFault) (y : ℤ) (w : WorldAt) (e : Event) → IsGentle e → (world_step s says y w e).time ≡ w.time
step_same_time s says y w e gentle = step_time_is s says y w e ∙ gentle_time w e gentle

pub step_here : (s : Setting) (says : Result PtpMsg FrameFault) (y : ℤ) (w : WorldAt) (e : Event) (i : ℕ) → IsGentle e → FramesYoung s w → IsHere s w i → IsHere s (world_step s says y w e) i
step_here s says y w e i gentle young h =
    let v : WorldAt = moved s w e in
    let gs : List Given = given_by s w v says e in
    let stays : StaysHere s v i h.frame = moved_stays s w e i h.frame gentle young h.is in
    record {
      frame = stays.frame;
      is = all_given_frame s y gs v i ∙ stays.is;
      arrival = h.arrival;
      arrived = stays.arrival ∙ h.arrived;
      now = h.now ∙ sym (step_same_time s says y w e gentle);
      lit = all_given_carrier s y gs v stays.frame.link ∙ gentle_carrier s w e stays.frame.link gentle (ap (has_carrier s w) stays.link ∙ h.lit);
    }

pub step_hands : (s : Setting) (says : Result PtpMsg FrameFault) (y : ℤ) (w : WorldAt) (e : Event) (old new : SimAt) → IsGentle e → FramesYoung s w → new.arrived.frame ≡ old.arrived.frame → new.faults ≡ old.faults →
    HandsOver s w old → HandsOver s (world_step s says y w e) new
step_hands s says y w e old new gentle young frame faults h = record {
  here = subst (IsHere s (world_step s says y w e)) (sym frame) (step_here s says y w e old.arrived.frame gentle young h.here);
  quiet = subst (λ t. AllQuiet s t new.faults) (sym (step_same_time s says y w e gentle)) (subst (AllQuiet s w.time) (sym faults) h.quiet);
}

-- A whole step

pub record StepKeeps (scene : SceneAt) (s : Setting) (w : WorldAt) (e : Event) (old new : SimAt) : Type 0 where
  pub swaps : NoSwaps e
  pub fibres : MovesNoFibre scene s e
  pub young : DepartsYoung s w e
  pub ticks : TicksAfter s w e new.tick_at
  pub begun : old.begun ≤ new.begun
  pub most : new.begun ≤ link_count s.cfg + node_count s.cfg
  pub turn : HadTurn s e new.begun
  pub faults : AllByRecursion (IsFault s.cfg) new.faults
  pub ticked : (n : ℕ) → new.ticked ≡ Some n → n < node_count s.cfg
  pub handed : (says : Result PtpMsg FrameFault) (y : ℤ) → 0 < new.arrived.times → HandsOver s (world_step s says y w e) new

pub step_keeps : (scene : SceneAt) (s : Setting) (says : Result PtpMsg FrameFault) (y : ℤ) (w : WorldAt) (e : Event) (old new : SimAt) → StepKeeps scene s w e old new → Keeps scene s w old →
    Keeps scene s (world_step s says y w e) new
step_keeps scene s says y w e old new h keeps = record {
  modules = step_modules s says y w e h.swaps keeps.modules;
  fibres = step_fibre scene s says y w e h.fibres keeps.fibres;
  young = step_young s says y w e h.young keeps.young;
  ticks = step_ticks s says y w e new.tick_at h.ticks;
  waits = step_waits s says y w e old.begun new.begun h.begun h.most h.turn keeps.waits;
  faults = h.faults;
  ticked = h.ticked;
  handed = h.handed says y;
}
