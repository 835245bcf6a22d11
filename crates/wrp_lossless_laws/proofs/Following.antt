-- Round by round, the events of a loop over a link that loses nothing are the events of a second simulator, which
-- runs by itself. It has the state of the loop's own simulator, except for a frame that the loop's simulator still
-- has to hand over, and for faults that do not apply.
use Rattle.std.proofs.Common.{◌≡◌, ◌∙◌, ◌⊎◌, inl, inr, refl, ap, sym, subst, ℕ, ℤ, ◌*◌, List, [], ◌∷◌, ◌++◌, append_assoc, append-nil, true, Option, None, Some, Result}
use Rattle.arrayvec.specs.ArrayVec.{ArrayVec}
use Rattle.wrp_base.specs.declared.message.PtpMsg.{PtpMsg}
use Rattle.wrp_base.specs.declared.time.Raw.{Raw}
use Rattle.wrp_frame.specs.declared.fault.FrameFault.{FrameFault}
use Rattle.wrp_course.specs.declared.event.Event.{Event}
use Rattle.wrp_course.specs.declared.event.Event.TheVariants.{Arrive, Deliver}
use Rattle.wrp_course.specs.EventAt.{link_count}
use Rattle.wrp_course.specs.Premises.{Accepts}
use Rattle.wrp_course.specs.Run.{Happened, world_after}
use Rattle.wrp_course.specs.Runs.{IsNetwork}
use Rattle.wrp_course.specs.Setting.{Setting}
use Rattle.wrp_course.specs.Views.{IsNextArrival}
use Rattle.wrp_course.specs.WorldAt.{FrameAt, WorldAt, is_on_fibre}
use Rattle.wrp_due_laws.proofs.Arriving.{next_arrival}
use Rattle.wrp_io.specs.declared.link.LinkCall.{LinkCall}
use Rattle.wrp_io.specs.declared.link.LinkCall.TheVariants.{Start}
use Rattle.wrp_io.specs.Link.{frame_of}
use Rattle.wrp_scene.specs.Scenario.{IsSceneOf, SceneAt}
use Rattle.wrp_sim.specs.Keeps.{SimRunsAreRuns}
use Rattle.wrp_sim.specs.Rules.{Next, after_arrival, begins, fails, next_of, rest_of}
use Rattle.wrp_sim.specs.SimAt.{SimAt}
use Rattle.wrp_sim.specs.SimRun.{Gives, GivesEvent, IsSimRun}
use Rattle.wrp_loop.specs.declared.fate.Fate.{Fate}
use Rattle.wrp_loop.specs.declared.fate.Fate.TheVariants.{Handed}
use Rattle.wrp_loop.specs.Datagrams.{IsWayOf}
use Rattle.wrp_loop.specs.LoopEnds.{NextIsTooMany}
use Rattle.wrp_loop.specs.LoopRun.{Carried, ComesBetween, Dropped, FollowsFate, FrameCarried, FrameLeftOut, Full, Goes, Going, HandlesAll, IsCounted, IsPlain, IsRound, LoopAt, Loops, On, Plain, PlainComes, Plan, Round, events_at, happened, loop_start, with_between, with_event, without_frame, world_at}
use Rattle.wrp_lossless_laws.specs.LosesNothing.{LosesNothing}
use Rattle.wrp_lossless_laws.proofs.Choosing.{Flying, HandedSo, both_handed, fate_is, none_handed, plain_handed}
use Rattle.wrp_lossless_laws.proofs.HandingOver.{arrived_at, hands_next, owes_then}
use Rattle.wrp_lossless_laws.proofs.Owing.{Owed, Hands, Same, owed_next, owes_some, owing, paid}
use Rattle.wrp_lossless_laws.proofs.Settling.{ArrivesNext, dropped_next, settled_next}
use Rattle.wrp_lossless_laws.proofs.Taking.{IsEmptied, TakenOne, taken_by}

-- The loop's simulator, and the second one

-- the loop's simulator still has to hand over a frame that the second one handed over
pub record Owes (loop sim : SimAt) : Type 0 where
  pub number : ℕ
  pub rest : SimAt
  pub owes : loop ≡ owing number rest
  pub paid : sim ≡ paid number rest

-- the loop's simulator has dropped the faults that do not apply, and the second one has not yet
pub record Drops (scene : SceneAt) (s : Setting) (w : WorldAt) (loop sim : SimAt) : Type 0 where
  pub is : loop ≡ rest_of s w sim
  pub begun : begins scene s w sim ≡ None
  pub fault : fails scene s w sim ≡ None

-- both give the same next event
abbrev pub IsSettled : SceneAt → Setting → WorldAt → (loop sim : SimAt) → Type 0
IsSettled scene s w loop sim = (loop ≡ sim) ⊎ Drops scene s w loop sim

pub record Agrees (scene : SceneAt) (s : Setting) (w : WorldAt) (loop sim : SimAt) : Type 0 where
  pub none : sim.arrived.times ≡ 0
  pub which : IsSettled scene s w loop sim ⊎ Owes loop sim

gives_same : (scene : SceneAt) (s : Setting) (w : WorldAt) (loop sim : SimAt) (next : Option Next) → IsSettled scene s w loop sim →
    Gives scene s w loop next → Gives scene s w sim next
gives_same scene s w loop sim next (inl same) g = subst (λ (k : SimAt). Gives scene s w k next) same g
gives_same scene s w loop sim next (inr drops) g = record {
  due = g.due;
  first = g.first;
  next = g.next ∙ ap (next_of scene s w g.due) drops.is ∙ dropped_next scene s w g.due sim drops.begun drops.fault;
}

owed_of : (scene : SceneAt) (s : Setting) (w : WorldAt) (loop sim : SimAt) (next : Next) → (o : Owes loop sim) → (g : Gives scene s w loop (Some next)) →
    Owed scene s w g.due o.number o.rest next
owed_of scene s w loop sim next o g = owed_next scene s w g.due o.number o.rest next (g.next ∙ ap (next_of scene s w g.due) o.owes)

gives_paid : (scene : SceneAt) (s : Setting) (w : WorldAt) (loop sim : SimAt) (m n : Next) → (o : Owes loop sim) → (g : Gives scene s w loop (Some m)) →
    Some n ≡ next_of scene s w g.due (paid o.number o.rest) → Gives scene s w sim (Some n)
gives_paid scene s w loop sim m n o g is = record { due = g.due; first = g.first; next = is ∙ ap (next_of scene s w g.due) (sym o.paid) }

-- How far a loop has come

-- the premises of the law, and that a simulated run is a run
pub record Premises (x : Plan) : Type 0 where
  pub net : IsNetwork x.setting
  pub fits : IsSceneOf x.setting.cfg x.scene
  pub loss : x.scene.loss ≡ 0
  pub repeat : x.scene.repeat ≡ 0
  pub runs : SimRunsAreRuns

-- its events are a simulated run
pub record Follows (x : Plan) (l : LoopAt) : Type 0 where
  pub sim : SimAt
  pub run : IsSimRun x.scene x.setting x.seed (events_at l) sim
  pub agrees : Agrees x.scene x.setting (world_at x l) l.at sim
  pub handed : HandedSo x.setting (events_at l)
  pub unforged : l.forged ≡ 0

-- they are also a simulated run if the number of the next event is too great
pub record Stops (x : Plan) (l : LoopAt) : Type 0 where
  pub sim : SimAt
  pub run : IsSimRun x.scene x.setting x.seed (events_at l) sim
  pub next : Next
  pub gives : Gives x.scene x.setting (world_at x l) sim (Some next)
  pub unforged : l.forged ≡ 0

abbrev pub FollowsTo : Plan → Going → Type 0
FollowsTo x (On l) = Follows x l
FollowsTo x (Full l) = Stops x l

pub starts : (x : Plan) → Follows x (loop_start x)
starts x = record {
  sim = (loop_start x).at;
  run = refl;
  agrees = record { none = refl; which = inl (inl refl) };
  handed = none_handed x.setting;
  unforged = refl;
}

-- An event that is not an arrival and hands no frame over

abbrev next_with : Event → SimAt → Next
next_with e at = record { event = e; at = at }

arrives_not : (e : Event) (i : ℕ) (raw : Raw) → e ≡ Arrive i raw → IsPlain e → ⊥
arrives_not e i raw same plain = subst IsPlain same plain

delivers_not : (e : Event) (i : ℕ) → e ≡ Deliver i → IsPlain e → ⊥
delivers_not e i same plain = subst IsPlain same plain

-- the second simulator gives it too, and then both agree again
record GivesPlain (scene : SceneAt) (s : Setting) (w v : WorldAt) (sim new : SimAt) (e : Event) : Type 0 where
  at : SimAt
  gives : GivesEvent scene s w sim e at
  agrees : Agrees scene s v new at

plain_settled : (scene : SceneAt) (s : Setting) (w v : WorldAt) (sim new : SimAt) (e : Event) → sim.arrived.times ≡ 0 → IsPlain e →
    GivesEvent scene s w sim e new → GivesPlain scene s w v sim new e
plain_settled scene s w v sim new e none plain g =
    elim (settled_next scene s w g.due sim (next_with e new) none g.next) [
      | inl next ↦ record { at = new; gives = g; agrees = record { none = ap (λ arrived. arrived.times) next.arrived ∙ none; which = inl (inl refl) } }
      | inr next ↦ absurd (arrives_not e next.number next.raw (ap (λ (n : Next). n.event) next.is) plain)
    ]

plain_owed : (scene : SceneAt) (s : Setting) (w v : WorldAt) (loop sim new : SimAt) (e : Event) → IsPlain e → (o : Owes loop sim) →
    (g : GivesEvent scene s w loop e new) → Owed scene s w g.due o.number o.rest (next_with e new) →
    GivesPlain scene s w v sim new e
plain_owed scene s w v loop sim new e plain o g (Same n both is) = record {
  at = n.at;
  gives = subst (λ (k : Event). GivesEvent scene s w sim k n.at) both.event (gives_paid scene s w loop sim (next_with e new) n o g is);
  agrees = record {
    none = ap (λ (k : SimAt). k.arrived.times) both.second;
    which = inr (record { number = o.number; rest = both.rest; owes = both.first; paid = both.second });
  };
}
plain_owed scene s w v loop sim new e plain o g (Hands is begun fault) = absurd (delivers_not e o.number (ap (λ (n : Next). n.event) is) plain)

gives_plain : (scene : SceneAt) (s : Setting) (w v : WorldAt) (loop sim new : SimAt) (e : Event) → IsPlain e → Agrees scene s w loop sim →
    GivesEvent scene s w loop e new → GivesPlain scene s w v sim new e
gives_plain scene s w v loop sim new e plain agrees g =
    elim agrees.which [
      | inl settled ↦ plain_settled scene s w v sim new e agrees.none plain (gives_same scene s w loop sim (Some (next_with e new)) settled g)
      | inr o ↦ plain_owed scene s w v loop sim new e plain o g (owed_of scene s w loop sim (next_with e new) o g)
    ]

plain_follows : (x : Plan) (l : LoopAt) (next : Going) → Follows x l → PlainComes x l next → FollowsTo x next
plain_follows x l next h r =
    let s : Setting = x.setting in
    let now : LoopAt = with_event r.newest r.new l in
    let it : GivesPlain x.scene s (world_at x l) (world_at x now) h.sim r.new r.newest.event =
    gives_plain x.scene s (world_at x l) (world_at x now) l.at h.sim r.new r.newest.event r.plain h.agrees r.gives in
    let on : Follows x now = record {
      sim = it.at;
      run = (h.sim, h.run, it.gives);
      agrees = it.agrees;
      handed = plain_handed s (events_at l) r.newest.event r.newest.says r.newest.answer r.plain h.handed;
      unforged = h.unforged;
    } in
    subst (FollowsTo x) (sym r.leads) on

-- The loop leaves out a frame of its simulator: it was handed over before

drop_settled : (scene : SceneAt) (s : Setting) (w : WorldAt) (sim new : SimAt) (i : ℕ) → sim.arrived.times ≡ 0 → GivesEvent scene s w sim (Deliver i) new → ⊥
drop_settled scene s w sim new i none g =
    elim (settled_next scene s w g.due sim (next_with (Deliver i) new) none g.next) [
      | inl next ↦ next.plain
      | inr next ↦ absurd (let same : Deliver i ≡ Arrive next.number next.raw = ap (λ (n : Next). n.event) next.is in cc)
    ]

drop_owed : (scene : SceneAt) (s : Setting) (w : WorldAt) (loop sim new : SimAt) (i : ℕ) → (o : Owes loop sim) → (due : Option (ℕ × ℤ)) →
    Owed scene s w due o.number o.rest (next_with (Deliver i) new) → Drops scene s w new sim
drop_owed scene s w loop sim new i o due (Same n both is) = absurd both.plain
drop_owed scene s w loop sim new i o due (Hands is begun fault) = record {
  is = ap (λ (n : Next). n.at) is ∙ ap (rest_of s w) (sym o.paid);
  begun = ap (begins scene s w) o.paid ∙ begun;
  fault = ap (fails scene s w) o.paid ∙ fault;
}

gives_drop : (scene : SceneAt) (s : Setting) (w : WorldAt) (loop sim new : SimAt) (i : ℕ) → Agrees scene s w loop sim →
    GivesEvent scene s w loop (Deliver i) new → Drops scene s w new sim
gives_drop scene s w loop sim new i agrees g =
    elim agrees.which [
      | inl settled ↦ absurd (drop_settled scene s w sim new i agrees.none (gives_same scene s w loop sim (Some (next_with (Deliver i) new)) settled g))
      | inr o ↦ drop_owed scene s w loop sim new i o g.due (owed_of scene s w loop sim (next_with (Deliver i) new) o g)
    ]

dropped_follows : (x : Plan) (l : LoopAt) (next : Going) → Follows x l → FrameLeftOut x l next → FollowsTo x next
dropped_follows x l next h r =
    let on : Follows x (without_frame r.number r.new l) = record {
      sim = h.sim;
      run = h.run;
      agrees = record { none = h.agrees.none; which = inl (inr (gives_drop x.scene x.setting (world_at x l) l.at h.sim r.new r.number h.agrees r.gives)) };
      handed = h.handed;
      unforged = h.unforged;
    } in
    subst (FollowsTo x) (sym r.leads) on

-- A frame arrives and is handed over

-- the second simulator gives the arrival, by rule 6
record GivesFrame (scene : SceneAt) (s : Setting) (w : WorldAt) (sim new : SimAt) (i : ℕ) (raw : Raw) : Type 0 where
  gives : GivesEvent scene s w sim (Arrive i raw) new
  next : ArrivesNext scene s w gives.due sim (next_with (Arrive i raw) new)

frame_owed : (scene : SceneAt) (s : Setting) (w : WorldAt) (i : ℕ) (raw : Raw) (new : SimAt) (number : ℕ) (rest : SimAt) (due : Option (ℕ × ℤ)) →
    Owed scene s w due number rest (next_with (Arrive i raw) new) → ⊥
frame_owed scene s w i raw new number rest due (Same n both is) = both.plain
frame_owed scene s w i raw new number rest due (Hands is begun fault) = absurd (let same : Arrive i raw ≡ Deliver number = ap (λ (n : Next). n.event) is in cc)

frame_settled : (scene : SceneAt) (s : Setting) (w : WorldAt) (sim new : SimAt) (i : ℕ) (raw : Raw) → sim.arrived.times ≡ 0 →
    GivesEvent scene s w sim (Arrive i raw) new → GivesFrame scene s w sim new i raw
frame_settled scene s w sim new i raw none g =
    elim (settled_next scene s w g.due sim (next_with (Arrive i raw) new) none g.next) [
      | inl next ↦ absurd next.plain
      | inr next ↦ record { gives = g; next = next }
    ]

gives_frame : (scene : SceneAt) (s : Setting) (w : WorldAt) (loop sim new : SimAt) (i : ℕ) (raw : Raw) → Agrees scene s w loop sim →
    GivesEvent scene s w loop (Arrive i raw) new → GivesFrame scene s w sim new i raw
gives_frame scene s w loop sim new i raw agrees g =
    elim agrees.which [
      | inl settled ↦ frame_settled scene s w sim new i raw agrees.none (gives_same scene s w loop sim (Some (next_with (Arrive i raw) new)) settled g)
      | inr o ↦ absurd (frame_owed scene s w i raw new o.number o.rest g.due (owed_of scene s w loop sim (next_with (Arrive i raw) new) o g))
    ]

-- the frame that arrives is the one that is due, and it is on its fibre
same_number : (scene : SceneAt) (s : Setting) (w : WorldAt) (sim new : SimAt) (i : ℕ) (raw : Raw) → (g : GivesFrame scene s w sim new i raw) → g.next.number ≡ i
same_number scene s w sim new i raw g = let same : Arrive i raw ≡ Arrive g.next.number g.next.raw = ap (λ (n : Next). n.event) g.next.is in cc

flies_now : (scene : SceneAt) (s : Setting) (w : WorldAt) (sim new : SimAt) (i : ℕ) (raw : Raw) → (g : GivesFrame scene s w sim new i raw) →
    is_on_fibre (w.frame i) ≡ true
flies_now scene s w sim new i raw g =
    subst (λ (k : ℕ). is_on_fibre (w.frame k) ≡ true) (same_number scene s w sim new i raw g) (subst (IsNextArrival w) g.next.due_is g.gives.first).2

owes_now : (scene : SceneAt) (s : Setting) (w : WorldAt) (sim new : SimAt) (i : ℕ) (raw : Raw) → scene.loss ≡ 0 → scene.repeat ≡ 0 →
    (g : GivesFrame scene s w sim new i raw) → new ≡ owing i (arrived_at s w sim)
owes_now scene s w sim new i raw loss repeat g =
    ap (λ (n : Next). n.at) g.next.is
    ∙ ap (λ (k : ℕ). record (after_arrival scene k (rest_of s w sim)) { ticked = None }) (same_number scene s w sim new i raw g)
    ∙ owes_then scene s w sim i loss repeat

-- after the arrival the second simulator hands the frame over
gives_then : (scene : SceneAt) (s : Setting) (events : List Happened) (sim new : SimAt) (i : ℕ) (raw : Raw) (says : Result PtpMsg FrameFault) (y : ℤ) →
    scene.loss ≡ 0 → scene.repeat ≡ 0 → GivesFrame scene s (world_after s events) sim new i raw →
    GivesEvent scene s (world_after s (happened (Arrive i raw) says y ∷ events)) new (Deliver i) (paid i (arrived_at s (world_after s events) sim))
gives_then scene s events sim new i raw says y loss repeat g =
    let w : WorldAt = world_after s events in
    let now : List Happened = happened (Arrive i raw) says y ∷ events in
    let due = next_arrival s now in
    record {
      due = due.0;
      first = due.1;
      next = sym (ap (next_of scene s (world_after s now) due.0) (owes_now scene s w sim new i raw loss repeat g)
          ∙ hands_next scene s w due.0 sim i raw g.next.begun g.next.fault g.next.departs);
    }

-- the arrival, and the frame that the second simulator hands over next
record Handing (x : Plan) (l : LoopAt) (sim : SimAt) (i : ℕ) (raw : Raw) (new : SimAt) (says : Result PtpMsg FrameFault) (y : ℤ) : Type 0 where
  frame : GivesFrame x.scene x.setting (world_at x l) sim new i raw
  run : IsSimRun x.scene x.setting x.seed (happened (Arrive i raw) says y ∷ events_at l) new
  owes : new ≡ owing i (arrived_at x.setting (world_at x l) sim)
  gives : GivesEvent x.scene x.setting (world_after x.setting (happened (Arrive i raw) says y ∷ events_at l)) new (Deliver i)
      (paid i (arrived_at x.setting (world_at x l) sim))

hands_frame : (x : Plan) (l : LoopAt) (h : Follows x l) (i : ℕ) (raw : Raw) (new : SimAt) (says : Result PtpMsg FrameFault) (y : ℤ) → Premises x →
    GivesEvent x.scene x.setting (world_at x l) l.at (Arrive i raw) new → Handing x l h.sim i raw new says y
hands_frame x l h i raw new says y p g =
    let frame : GivesFrame x.scene x.setting (world_at x l) h.sim new i raw = gives_frame x.scene x.setting (world_at x l) l.at h.sim new i raw h.agrees g in
    record {
      frame = frame;
      run = (h.sim, h.run, frame.gives);
      owes = owes_now x.scene x.setting (world_at x l) h.sim new i raw p.loss p.repeat frame;
      gives = gives_then x.scene x.setting (events_at l) h.sim new i raw says y p.loss p.repeat frame;
    }

-- the world accepts it
accepts_frame : (x : Plan) (l : LoopAt) (sim : SimAt) (i : ℕ) (raw : Raw) (new : SimAt) (says noted : Result PtpMsg FrameFault) (y : ℤ) → Premises x →
    Handing x l sim i raw new says y →
    Accepts x.setting (world_after x.setting (happened (Arrive i raw) says y ∷ events_at l)) noted (Deliver i)
accepts_frame x l sim i raw new says noted y p h =
    (p.runs x.scene x.setting x.seed (happened (Deliver i) noted y ∷ (happened (Arrive i raw) says y ∷ events_at l))
    (paid i (arrived_at x.setting (world_at x l) sim)) p.net p.fits (new, h.run, h.gives)).accepted.0

came_follows : (x : Plan) (l : LoopAt) (h : Follows x l) (i : ℕ) (f : FrameAt) (raw : Raw) (new : SimAt) (says : Result PtpMsg FrameFault) (y : ℤ)
    (next : Going) → Flying x.setting (events_at l) i f → Handing x l h.sim i raw new says y →
    ComesBetween (with_event (happened (Arrive i raw) says y) new l) (Deliver i) next → FollowsTo x next
came_follows x l h i f raw new says y next flies g (inl full) =
    let stops : Stops x (with_event (happened (Arrive i raw) says y) new l) = record {
      sim = new;
      run = g.run;
      next = next_with (Deliver i) (paid i (arrived_at x.setting (world_at x l) h.sim));
      gives = g.gives;
      unforged = h.unforged;
    } in
    subst (FollowsTo x) (sym full.1) stops
came_follows x l h i f raw new says y next flies g (inr came) =
    let now : LoopAt = with_between (happened (Deliver i) came.1 came.2) (with_event (happened (Arrive i raw) says y) new l) in
    let rest : SimAt = arrived_at x.setting (world_at x l) h.sim in
    let on : Follows x now = record {
      sim = paid i rest;
      run = (new, g.run, g.gives);
      agrees = record { none = refl; which = inr (record { number = i; rest = rest; owes = g.owes; paid = refl }) };
      handed = both_handed x.setting (events_at l) i f raw says came.1 y came.2 flies h.handed;
      unforged = h.unforged;
    } in
    subst (FollowsTo x) (sym came.4) on

carried_follows : (x : Plan) (l : LoopAt) (made : List LinkCall) (next : Going) → Premises x → Follows x l → (r : FrameCarried x l made next) →
    TakenOne (frame_of r.octets) r.got → FollowsTo x next
carried_follows x l made next p h r one =
    let s : Setting = x.setting in
    let i : ℕ = r.number in
    let raw : Raw = r.arrives.raw in
    let f : FrameAt = r.arrives.frame in
    let new : SimAt = r.arrives.new in
    let now : LoopAt = with_event (happened (Arrive i raw) r.says r.answer) new l in
    let g : Handing x l h.sim i raw new r.says r.answer = hands_frame x l h i raw new r.says r.answer p r.arrives.gives in
    let flies : Flying s (events_at l) i f = record { is = r.arrives.is; on = flies_now x.scene s (world_at x l) h.sim new i raw g.frame } in
    let handled : HandlesAll x r.way (one.frame ∷ []) (On now) next =
    subst (λ (got : List (ArrayVec ℕ)). HandlesAll x r.way got (On now) next) one.one r.handled in
    let fate : handled.1.0 ≡ Handed i =
    fate_is s (events_at l) r.way one.frame.items i f raw r.says r.answer handled.1.0 h.handed flies (subst (IsWayOf s f r.way) (sym one.same) r.arrives.way_is)
    (λ noted. accepts_frame x l h.sim i raw new r.says noted r.answer p g) handled.1.1 in
    let comes : ComesBetween now (Deliver i) handled.0 = subst (λ (k : Fate). FollowsFate r.way one.frame now k handled.0) fate handled.1.2 in
    subst (FollowsTo x) (sym handled.2) (came_follows x l h i f raw new r.says r.answer handled.0 flies g comes)

-- All rounds

no_calls : (before made : List LinkCall) → made ≡ [] → IsEmptied before → IsEmptied (before ++ made)
no_calls before made none emptied = subst IsEmptied (sym (ap (λ (calls : List LinkCall). before ++ calls) none ∙ append-nil before)) emptied

round_follows : (x : Plan) (l : LoopAt) (r : Round) (all before made later : List LinkCall) (next : Going) → Premises x → LosesNothing all →
    IsEmptied before → all ≡ before ++ (made ++ later) → Follows x l → IsRound x l r made next →
    FollowsTo x next × IsEmptied (before ++ made)
round_follows x l Plain all before made later next p loses emptied is h r = (plain_follows x l next h r.1, no_calls before made r.0 emptied)
round_follows x l Dropped all before made later next p loses emptied is h r = (dropped_follows x l next h r.1, no_calls before made r.0 emptied)
round_follows x l Carried all before made later next p loses emptied is h r =
    let it = taken_by all before later made r.way r.octets r.got loses emptied r.made is in
    (carried_follows x l made next p h r it.0, it.1)

goes_follow : (x : Plan) (now : Going) (rounds : List Round) (all before calls : List LinkCall) (last : Going) → Premises x → LosesNothing all →
    IsEmptied before → all ≡ before ++ calls → FollowsTo x now → Goes x now rounds calls last → FollowsTo x last
goes_follow x now [] all before calls last p loses emptied is h g = subst (FollowsTo x) (sym g.1) h
goes_follow x (Full l) (r ∷ rounds) all before calls last p loses emptied is h g = absurd g
goes_follow x (On l) (r ∷ rounds) all before calls last p loses emptied is h g =
    let parts : all ≡ before ++ (g.1 ++ g.2) = is ∙ ap (λ (k : List LinkCall). before ++ k) g.4 in
    let it : FollowsTo x g.0 × IsEmptied (before ++ g.1) = round_follows x l r all before g.1 g.2 g.0 p loses emptied parts h g.3 in
    goes_follow x g.0 rounds all (before ++ g.1) g.2 last p loses it.1 (parts ∙ sym (append_assoc before g.1 g.2)) it.0 g.5

pub loop_follows : (x : Plan) (calls : List LinkCall) (last : Going) → Premises x → LosesNothing calls → Loops x calls last → FollowsTo x last
loop_follows x calls last p loses loops =
    let first : List LinkCall = Start (2 * link_count x.setting.cfg) ∷ [] in
    goes_follow x (On (loop_start x)) loops.rounds calls first loops.later last p loses (λ end. refl) loops.told (starts x) loops.goes

-- Ends

-- if the loop's simulator gives no event any more, the second one gives none
pub over_follows : (x : Plan) (l : LoopAt) (h : Follows x l) → Gives x.scene x.setting (world_at x l) l.at None →
    Gives x.scene x.setting (world_at x l) h.sim None
over_follows x l h g =
    let w : WorldAt = world_at x l in
    elim h.agrees.which [
      | inl settled ↦ gives_same x.scene x.setting w l.at h.sim None settled g
      | inr o ↦ absurd (owes_some x.scene x.setting w g.due o.number o.rest (g.next ∙ ap (next_of x.scene x.setting w g.due) o.owes))
    ]

large_owed : (x : Plan) (l : LoopAt) (sim : SimAt) (next : Next) → IsCounted next.event → (o : Owes l.at sim) →
    (g : Gives x.scene x.setting (world_at x l) l.at (Some next)) → Owed x.scene x.setting (world_at x l) g.due o.number o.rest next →
    (other : Next) × Gives x.scene x.setting (world_at x l) sim (Some other)
large_owed x l sim next counted o g (Same n both is) = (n, gives_paid x.scene x.setting (world_at x l) l.at sim next n o g is)
large_owed x l sim next counted o g (Hands is begun fault) = absurd (subst IsCounted (ap (λ (n : Next). n.event) is) counted)

-- if it gives an event that is counted, the second one gives an event
pub large_follows : (x : Plan) (l : LoopAt) (h : Follows x l) → NextIsTooMany x l → (other : Next) × Gives x.scene x.setting (world_at x l) h.sim (Some other)
large_follows x l h large =
    let w : WorldAt = world_at x l in
    elim h.agrees.which [
      | inl settled ↦ (large.next, gives_same x.scene x.setting w l.at h.sim (Some large.next) settled large.gives)
      | inr o ↦ large_owed x l h.sim large.next large.counted o large.gives (owed_of x.scene x.setting w l.at h.sim large.next o large.gives)
    ]
