-- No event of a loop breaks a premise.
use Rattle.std.proofs.Common.{◌≡◌, ◌∙◌, inl, inr, refl, ap, sym, subst, ℕ, ◌+◌, ℤ, true, List, [], ◌∷◌, Some, Result}
use Rattle.arrayvec.specs.ArrayVec.{ArrayVec}
use Rattle.wrp_base.specs.declared.message.PtpMsg.{PtpMsg}
use Rattle.wrp_base.specs.Link.{other_of}
use Rattle.wrp_frame.specs.declared.fault.FrameFault.{FrameFault}
use Rattle.wrp_io.specs.declared.link.LinkCall.{LinkCall}
use Rattle.wrp_course.specs.declared.event.Event.{Event}
use Rattle.wrp_course.specs.declared.event.Event.TheVariants.{Arrive, Deliver, Noise}
use Rattle.wrp_course.specs.EventAt.{IsEventOf}
use Rattle.wrp_course.specs.Premises.{Accepts}
use Rattle.wrp_course.specs.Run.{Happened, IsSaid}
use Rattle.wrp_course.specs.Runs.{IsNetwork, IsRun}
use Rattle.wrp_course.specs.Setting.{end_at}
use Rattle.wrp_course.specs.WorldAt.{FrameAt, has_carrier}
use Rattle.std.proofs.lemmas.Option.{same_Some}
use Rattle.wrp_sim.specs.Keeps.{EventsAreAccepted, IsDriven, MayBeBetween}
use Rattle.wrp_scene.specs.Scenario.{IsSceneOf}
use Rattle.wrp_sim.specs.SimAt.{SimAt}
use Rattle.wrp_loop.specs.declared.fate.Fate.{Fate}
use Rattle.wrp_loop.specs.declared.fate.Fate.TheVariants.{Handed, Forged, Noisy}
use Rattle.wrp_loop.specs.Datagrams.{IsFate, Way}
use Rattle.wrp_loop.specs.Laws.{LoopKeepsTheBounds}
use Rattle.wrp_loop.specs.LoopRun.{Carried, ComesBetween, Dropped, FollowsFate, Full, GivesNext, Goes, Going, HandlesAll, IsRound, LoopAt, On, Plain, Plan, Round, events_at, happened, loop_start, noise_stamp, place, with_between, with_event, world_at}
use Rattle.wrp_loop.proofs.Accepting.{IsStill, arriving, deliver_accepted, noise_accepted, noise_is_event, still_carrier}

abbrev IsGood : Plan → LoopAt → Type 0
IsGood x l = IsRun x.setting (events_at l) × IsDriven x.scene x.setting x.seed l.turns l.at

-- datagrams that came this way are handled, over a link that has its carrier
record IsLive (x : Plan) (way : Way) (l : LoopAt) : Type 0 where
  pub good : IsGood x l
  pub lit : has_carrier x.setting (world_at x l) way.link ≡ true
  pub to : end_at x.setting way.link (other_of way.by) ≡ Some way.to

abbrev IsLiveTo : Plan → Way → Going → Type 0
IsLiveTo x way (On l) = IsLive x way l
IsLiveTo x way (Full l) = IsGood x l

-- an event that comes between, and keeps all premises
came_between : (x : Plan) (way : Way) (l : LoopAt) (e : Event) (next : Going) → IsLive x way l → IsEventOf x.setting.cfg e → MayBeBetween e → IsStill e →
    ((says : Result PtpMsg FrameFault) → IsSaid e says → Accepts x.setting (world_at x l) says e) → ComesBetween l e next → IsLiveTo x way next
came_between x way l e next live event may still accepted (inl full) = subst (IsLiveTo x way) (sym full.1) live.good
came_between x way l e next live event may still accepted (inr came) =
    let h : Happened = happened e came.1 came.2 in
    let keeps : Accepts x.setting (world_at x l) came.1 e = accepted came.1 came.3 in
    let on : IsLive x way (with_between h l) = record {
      good = (
        record { network = live.good.0.network; each = (event, live.good.0.each); accepted = (keeps, live.good.0.accepted) },
        (live.good.1, may, (event, keeps)),
      );
      lit = still_carrier x.setting came.1 came.2 (world_at x l) e way.link still ∙ live.lit;
      to = live.to;
    } in
    subst (IsLiveTo x way) (sym came.4) on

by_fate : (x : Plan) (way : Way) (frame : ArrayVec ℕ) (l : LoopAt) (fate : Fate) (next : Going) → IsNetwork x.setting → IsLive x way l → IsFate x.setting (events_at l) way frame.items fate →
    FollowsFate way frame l fate next → IsLiveTo x way next
by_fate x way frame l (Handed i) next net live is f =
    came_between x way l (Deliver i) next live tt tt tt (λ says said. deliver_accepted x.setting (world_at x l) way frame.items i says is.such live.lit) f
by_fate x way frame l Forged next net live is f =
    let on : IsLive x way (record l { forged = l.forged + 1 }) = record { good = live.good; lit = live.lit; to = live.to } in
    subst (IsLiveTo x way) (sym f) on
by_fate x way frame l Noisy next net live is f =
    came_between x way l (Noise way.to.node way.to.port frame noise_stamp) next live (noise_is_event x.setting net way.link (other_of way.by) way.to frame live.to) tt tt
    (λ says said. noise_accepted x.setting net (world_at x l) way.link (other_of way.by) way.to frame noise_stamp says live.to said is.1 live.lit) f

good_in : (x : Plan) (way : Way) (going : Going) → IsLiveTo x way going → IsGood x (place going)
good_in x way (On l) live = live.good
good_in x way (Full l) good = good

all_good : (x : Plan) (way : Way) (got : List (ArrayVec ℕ)) (now last : Going) → IsNetwork x.setting → IsLiveTo x way now → HandlesAll x way got now last → IsLiveTo x way last
all_good x way [] now last net live h = subst (IsLiveTo x way) (sym h) live
all_good x way (frame ∷ got) (Full l) last net live h = subst (IsLiveTo x way) (sym h) live
all_good x way (frame ∷ got) (On l) last net live h =
    all_good x way got h.0 last net (by_fate x way frame l h.1.0 h.0 net live h.1.1 h.1.2) h.2

-- an event of the simulator
comes_good : EventsAreAccepted → (x : Plan) (l : LoopAt) (e : Event) (new : SimAt) (says : Result PtpMsg FrameFault) (answer : ℤ) → IsNetwork x.setting → IsSceneOf x.setting.cfg x.scene → IsGood x l → GivesNext x l e new →
    IsGood x (with_event (happened e says answer) new l)
comes_good sim x l e new says answer net fits good gives =
    let it = sim x.scene x.setting x.seed l.turns l.at new e says net fits good.1 gives in
    (record { network = net; each = (it.0, good.0.each); accepted = (it.1, good.0.accepted) }, (l.at, good.1, gives))

round_good : EventsAreAccepted → (x : Plan) (l : LoopAt) (r : Round) (made : List LinkCall) (next : Going) → IsNetwork x.setting → IsSceneOf x.setting.cfg x.scene → IsGood x l → IsRound x l r made next → IsGood x (place next)
round_good sim x l Plain made next net fits good h =
    subst (λ (k : Going). IsGood x (place k)) (sym h.1.leads) (comes_good sim x l h.1.newest.event h.1.new h.1.newest.says h.1.newest.answer net fits good h.1.gives)
round_good sim x l Dropped made next net fits good h =
    subst (λ (k : Going). IsGood x (place k)) (sym h.1.leads) (good.0, (l.at, good.1, h.1.gives))
round_good sim x l Carried made next net fits good h =
    let e : Event = Arrive h.number h.arrives.raw in
    let came : IsGood x (with_event (happened e h.says h.answer) h.arrives.new l) = comes_good sim x l e h.arrives.new h.says h.answer net fits good h.arrives.gives in
    let it = arriving x.setting (world_at x l) h.number h.arrives.raw h.says came.0.accepted.0 in
    let frame : it.frame ≡ h.arrives.frame = same_Some it.frame h.arrives.frame (sym it.is ∙ h.arrives.is) in
    let lit : has_carrier x.setting (world_at x l) h.way.link ≡ true =
    ap (has_carrier x.setting (world_at x l)) (h.arrives.way_is.link_is ∙ sym (ap (λ (f : FrameAt). f.link) frame)) ∙ it.lit in
    good_in x h.way next
    (all_good x h.way h.got (On (with_event (happened e h.says h.answer) h.arrives.new l)) next net
    (record { good = came; lit = still_carrier x.setting h.says h.answer (world_at x l) e h.way.link tt ∙ lit; to = h.arrives.way_is.to_is }) h.handled)

goes_good : EventsAreAccepted → (x : Plan) (now : Going) (rounds : List Round) (calls : List LinkCall) (last : Going) → IsNetwork x.setting → IsSceneOf x.setting.cfg x.scene → IsGood x (place now) → Goes x now rounds calls last →
    IsGood x (place last)
goes_good sim x now [] calls last net fits good g = subst (λ (k : Going). IsGood x (place k)) (sym g.1) good
goes_good sim x (Full l) (r ∷ rounds) calls last net fits good g = absurd g
goes_good sim x (On l) (r ∷ rounds) calls last net fits good g =
    goes_good sim x g.0 rounds g.2 last net fits (round_good sim x l r g.1 g.0 net fits good g.3) g.5

pub loop_keeps_the_bounds : EventsAreAccepted → LoopKeepsTheBounds
loop_keeps_the_bounds sim x calls last net fits h =
    let start : IsGood x (loop_start x) = (record { network = net; each = tt; accepted = tt }, refl) in
    goes_good sim x (On (loop_start x)) h.rounds h.later last net fits start h.goes
