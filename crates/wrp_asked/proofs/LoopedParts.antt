-- The events of a run over a link are a run of its network, and carry the parts of the aim.
use Rattle.std.proofs.Common.{◌≡◌, inl, inr, refl, sym, subst, true, ℕ, zero, suc, ◌<◌, ◌≤◌, ◌^◌, Option, None, Some, option_map, List, [], ◌∷◌, ◌++◌, length, arith}
use Rattle.std.specs.List.{AllByRecursion}
use Rattle.arrayvec.specs.ArrayVec.{ArrayVec}
use Rattle.wrp_base.specs.declared.link.Role.{Role}
use Rattle.wrp_base.specs.declared.link.Role.TheVariants.{Master, Slave}
use Rattle.wrp_network.specs.declared.network.LinkCfg.{LinkCfg}
use Rattle.wrp_network.specs.Network.{End, HasLinkRanges}
use Rattle.wrp_base.specs.Link.{other_of}
use Rattle.wrp_network_text.specs.SameAnswer.{ReadingIsAccepted}
use Rattle.wrp_course.specs.declared.event.Event.{Event}
use Rattle.wrp_course.specs.declared.event.Event.TheVariants.{Deliver}
use Rattle.wrp_course.specs.Run.{AllAccepted, Happened, world_after}
use Rattle.wrp_course.specs.Runs.{IsNetwork}
use Rattle.wrp_course.specs.Setting.{Setting, end_of, link_of}
use Rattle.wrp_io.specs.declared.link.LinkCall.{LinkCall}
use Rattle.wrp_loop.specs.Calls.{IsFrame, IsFrameCall, most_taken, receptions}
use Rattle.wrp_loop.specs.Datagrams.{Way}
use Rattle.wrp_loop.specs.declared.fate.Fate.{Fate}
use Rattle.wrp_loop.specs.declared.fate.Fate.TheVariants.{Handed, Forged, Noisy}
use Rattle.wrp_loop.specs.Laws.{LoopKeepsTheBounds}
use Rattle.wrp_loop.specs.LoopRun.{Carried, ComesBetween, Dropped, FollowsFate, Full, Goes, Going, HandlesAll, IsRound, LoopAt, Loops, On, Plain, Plan, Round, events_at, place}
use Rattle.wrp_asked.specs.LoopHeadline.{LoopedEventsCarryParts}
use Rattle.wrp_loop.specs.Loops.{plan_of}
use Rattle.wrp_asked.proofs.HeadlineParts.{network_of, parts_of}
use Rattle.wrp_simulate.proofs.MadeFit.{FitsSave, event_fits, fewer, given_fits, numbered}
use Rattle.wrp_simulate.proofs.ScenesFit.{scenario_fits}
use Rattle.wrp_asked.proofs.HopsHold.{HopLaws, hops_hold}
use Rattle.wrp_asked.proofs.TracksHold.{RunsNear, laws_of, tracks_hold}
use Rattle.wrp_asked.specs.Input.{network_text}
use Rattle.wrp_sim.specs.Keeps.{Between, Comes, IsDriven, LeftOut, Silent, Turn, events_of}
use Rattle.wrp_scene.specs.Scenario.{SceneAt}
use Rattle.wrp_sim.specs.SimAt.{SimAt}
use Rattle.wrp_bound_laws.specs.Chains.{AllFit}
use Rattle.wrp_world.specs.EventHolds.{LinksHoldInRuns, TracksHoldInRuns}

-- What comes between the events of the simulator

-- the numbers of what came between fit, except the number of a frame
abbrev FitBetween : List Turn → Type 0
FitBetween [] = Unit {0}
FitBetween (Between h ∷ turns) = FitsSave h.event × FitBetween turns
FitBetween (Comes h ∷ turns) = FitBetween turns
FitBetween (LeftOut i ∷ turns) = FitBetween turns
FitBetween (Silent ∷ turns) = FitBetween turns

abbrev FitsAt : Going → Type 0
FitsAt now = FitBetween (place now).turns

between_fits : (l : LoopAt) (e : Event) (next : Going) → FitsSave e → ComesBetween l e next → FitsAt (On l) → FitsAt next
between_fits l e next fits (inl full) h = subst FitsAt (sym full.1) h
between_fits l e next fits (inr came) h = subst FitsAt (sym came.4) (fits, h)

follows_fits : (way : Way) (frame : ArrayVec ℕ) (l : LoopAt) (fate : Fate) (next : Going) → way.to.port < 2 ^ 16 → IsFrame frame
    → FollowsFate way frame l fate next → FitsAt (On l) → FitsAt next
follows_fits way frame l (Handed i) next port is f h = between_fits l (Deliver i) next tt f h
follows_fits way frame l Forged next port is f h = subst FitsAt (sym f) h
follows_fits way frame l Noisy next port is f h = between_fits l _ next (port, is) f h

all_fit : (x : Plan) (way : Way) (got : List (ArrayVec ℕ)) (now last : Going) → way.to.port < 2 ^ 16 → AllByRecursion IsFrame got
    → HandlesAll x way got now last → FitsAt now → FitsAt last
all_fit x way [] now last port are f h = subst FitsAt (sym f) h
all_fit x way (frame ∷ got) (Full l) last port are f h = subst FitsAt (sym f) h
all_fit x way (frame ∷ got) (On l) last port are f h =
    all_fit x way got f.0 last port are.1 f.2 (follows_fits way frame l f.1.0 f.0 port are.0 f.1.2 h)

-- Frames that were received

few_more : (room : ℕ) (frame : ArrayVec ℕ) (got : List (ArrayVec ℕ)) → length (frame ∷ got) ≤ suc room → length got ≤ room
few_more room frame got few = omega (arith, few)

none_fit : (frame : ArrayVec ℕ) (got : List (ArrayVec ℕ)) → length (frame ∷ got) ≤ zero → ⊥
none_fit frame got few = omega (arith, few)

received : (end room : ℕ) (got : List (ArrayVec ℕ)) → length got ≤ room → AllByRecursion IsFrameCall (receptions end room got) → AllByRecursion IsFrame got
received end room [] few all = tt
received end zero (frame ∷ got) few all = absurd (none_fit frame got few)
received end (suc room) (frame ∷ got) few all = (all.0, received end room got (few_more room frame got few) all.1)

-- of calls in a row
all_parts : (a b : List LinkCall) → AllByRecursion IsFrameCall (a ++ b) → AllByRecursion IsFrameCall a × AllByRecursion IsFrameCall b
all_parts [] b all = (tt, all)
all_parts (call ∷ a) b all = let rest = all_parts a b all.1 in ((all.0, rest.0), rest.1)

-- Ports

port_of : (s : Setting) → IsNetwork s → (k : ℕ) (r : Role) (o : Option LinkCfg) (end : End) → link_of s k ≡ o → option_map (end_of r) o ≡ Some end
    → end.port < 2 ^ 16
port_of s net k r None end is found = absurd (cc)
port_of s net k Master (Some link) end is found =
    let range : HasLinkRanges link = net.accepted.ranges.links k link is in
    let most = range.upper_port.1 in
    let same : end_of Master link ≡ end = cc in
    subst (λ (e : End). e.port < 2 ^ 16) same (omega (arith, most))
port_of s net k Slave (Some link) end is found =
    let range : HasLinkRanges link = net.accepted.ranges.links k link is in
    let most = range.lower_port.1 in
    let same : end_of Slave link ≡ end = cc in
    subst (λ (e : End). e.port < 2 ^ 16) same (omega (arith, most))

-- Rounds

round_fits : (x : Plan) → IsNetwork x.setting → (l : LoopAt) (r : Round) (calls : List LinkCall) (next : Going) → AllByRecursion IsFrameCall calls
    → IsRound x l r calls next → FitsAt (On l) → FitsAt next
round_fits x net l Plain calls next all r h = subst FitsAt (sym r.1.leads) h
round_fits x net l Dropped calls next all r h = subst FitsAt (sym r.1.leads) h
round_fits x net l Carried calls next all r h =
    let port = port_of x.setting net r.way.link (other_of r.way.by) (link_of x.setting r.way.link) r.way.to refl r.arrives.way_is.to_is in
    let made = subst (AllByRecursion IsFrameCall) r.made all in
    all_fit x r.way r.got _ next port (received _ most_taken r.got r.few made.1) r.handled h

goes_fit : (x : Plan) → IsNetwork x.setting → (now : Going) (rounds : List Round) (calls : List LinkCall) (last : Going) → AllByRecursion IsFrameCall calls
    → Goes x now rounds calls last → FitsAt now → FitsAt last
goes_fit x net now [] calls last all g h = subst FitsAt (sym g.1) h
goes_fit x net (Full l) (r ∷ rounds) calls last all g h = absurd g
goes_fit x net (On l) (r ∷ rounds) calls last all g h =
    let parts = all_parts g.1 g.2 (subst (AllByRecursion IsFrameCall) g.4 all) in
    goes_fit x net g.0 rounds g.2 last parts.1 g.5 (round_fits x net l r g.1 g.0 parts.0 g.3 h)

loops_fit : (x : Plan) → IsNetwork x.setting → (calls : List LinkCall) (last : Going) → AllByRecursion IsFrameCall calls → Loops x calls last → FitsAt last
loops_fit x net calls last all loops = goes_fit x net _ loops.rounds loops.later last (subst (AllByRecursion IsFrameCall) loops.told all).1 loops.goes tt

-- All events

driven_fit : (scene : SceneAt) (s : Setting) (seed : ℕ) (turns : List Turn) (at : SimAt) → IsDriven scene s seed turns at → AllAccepted s (events_of turns)
    → length (events_of turns) < 2 ^ 32 → FitBetween turns → AllFit (events_of turns)
driven_fit scene s seed [] at driven accepted few fit = tt
driven_fit scene s seed (Comes h ∷ turns) at driven accepted few fit =
    let before : List Happened = events_of turns in (
      event_fits s (world_after s before) h.says h.event (length before) (numbered s before) (fewer h before few) accepted.0 (given_fits scene s (world_after s before) driven.0 at h.event driven.2),
      driven_fit scene s seed turns driven.0 driven.1 accepted.1 (fewer h before few) fit,
    )
driven_fit scene s seed (LeftOut i ∷ turns) at driven accepted few fit = driven_fit scene s seed turns driven.0 driven.1 accepted few fit
driven_fit scene s seed (Silent ∷ turns) at driven accepted few fit = driven_fit scene s seed turns driven.0 driven.1 accepted few fit
driven_fit scene s seed (Between h ∷ turns) at driven accepted few fit =
    let before : List Happened = events_of turns in (
      event_fits s (world_after s before) h.says h.event (length before) (numbered s before) (fewer h before few) accepted.0 fit.0,
      driven_fit scene s seed turns at driven.0 accepted.1 (fewer h before few) fit.1,
    )

-- How many there are

abbrev pub FewAt : Going → Type 0
FewAt now = length (events_at (place now)) < 2 ^ 32

between_few : (l : LoopAt) (e : Event) (next : Going) → ComesBetween l e next → FewAt (On l) → FewAt next
between_few l e next (inl full) h = subst FewAt (sym full.1) h
between_few l e next (inr came) h = subst FewAt (sym came.4) (let room = came.0 in omega (arith, room))

follows_few : (way : Way) (frame : ArrayVec ℕ) (l : LoopAt) (fate : Fate) (next : Going) → FollowsFate way frame l fate next → FewAt (On l) → FewAt next
follows_few way frame l (Handed i) next f h = between_few l (Deliver i) next f h
follows_few way frame l Forged next f h = subst FewAt (sym f) h
follows_few way frame l Noisy next f h = between_few l _ next f h

all_few : (x : Plan) (way : Way) (got : List (ArrayVec ℕ)) (now last : Going) → HandlesAll x way got now last → FewAt now → FewAt last
all_few x way [] now last f h = subst FewAt (sym f) h
all_few x way (frame ∷ got) (Full l) last f h = subst FewAt (sym f) h
all_few x way (frame ∷ got) (On l) last f h = all_few x way got f.0 last f.2 (follows_few way frame l f.1.0 f.0 f.1.2 h)

round_few : (x : Plan) (l : LoopAt) (r : Round) (calls : List LinkCall) (next : Going) → IsRound x l r calls next → FewAt (On l) → FewAt next
round_few x l Plain calls next r h = subst FewAt (sym r.1.leads) (let room = r.1.room in omega (arith, room))
round_few x l Dropped calls next r h = subst FewAt (sym r.1.leads) h
round_few x l Carried calls next r h = all_few x r.way r.got _ next r.handled (let room = r.arrives.room in omega (arith, room))

goes_few : (x : Plan) (now : Going) (rounds : List Round) (calls : List LinkCall) (last : Going) → Goes x now rounds calls last → FewAt now → FewAt last
goes_few x now [] calls last g h = subst FewAt (sym g.1) h
goes_few x (Full l) (r ∷ rounds) calls last g h = absurd g
goes_few x (On l) (r ∷ rounds) calls last g h = goes_few x g.0 rounds g.2 last g.5 (round_few x l r g.1 g.0 g.3 h)

-- so few are the events of a run over a link
pub loops_few : (x : Plan) (calls : List LinkCall) (last : Going) → Loops x calls last → FewAt last
loops_few x calls last loops = goes_few x _ loops.rounds loops.later last loops.goes (omega arith)

-- All parts

pub frames_first : (calls first later : List LinkCall) → calls ≡ first ++ later → AllByRecursion IsFrameCall calls → AllByRecursion IsFrameCall first
frames_first calls first later all are = (all_parts first later (subst (AllByRecursion IsFrameCall) all are)).0

pub looped_events_carry_parts : LoopKeepsTheBounds → ReadingIsAccepted → LinksHoldInRuns → TracksHoldInRuns → HopLaws → LoopedEventsCarryParts
looped_events_carry_parts keeps accepted links tracks hops asked input calls s last came =
    let x : Plan = plan_of s came.scene came.seed in
    let net : IsNetwork s = network_of accepted (network_text input) s came.asks.2 in
    let kept = keeps x came.first last net (scenario_fits s _ came.scene came.said) came.loops in
    let near : RunsNear s (events_at (place last)) = record {
      run = kept.0;
      fit =
          driven_fit came.scene s came.seed (place last).turns (place last).at kept.1 kept.0.accepted (loops_few x came.first last came.loops)
          (loops_fit x net came.first last came.frames came.loops);
      answered = came.answered;
      near = laws_of accepted (network_text input) s came.asks.2;
    } in
    let events : List Happened = events_at (place last) in
    record {
      run = kept.0;
      fit = near.fit;
      parts = parts_of (λ o. true) links s events kept.0 (tracks_hold tracks (λ o. true) s events near) (hops_hold hops s events near);
    }
