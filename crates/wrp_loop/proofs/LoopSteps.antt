-- A run over a link as it goes on, round by round, and what the output is when it ends.
use Rattle.std.proofs.Common.{◌≡◌, ◌∙◌, inl, inr, refl, ap, sym, subst, append-nil, true, false, ℕ, ℤ, Bool, Option, None, Some, Ok, List, [], ◌++◌, length, map, take}
use Rattle.std.specs.Io.KnownBytes.{Appends, Consumes, IsAtEnd}
use Rattle.std.specs.List.{AllByRecursion}
use Rattle.std.proofs.KnownBytes.{Appends-nil, Appends-trans}
use Rattle.wrp_network.specs.Network.{IsTree, node_count}
use Rattle.wrp_config.specs.declared.network.Network.{Network}
use Rattle.wrp_course.specs.Run.{world_after}
use Rattle.wrp_course.specs.Setting.{Setting}
use Rattle.wrp_course.specs.WorldAt.{new_world}
use Rattle.wrp_law.specs.Law.{LawOf}
use Rattle.wrp_io.specs.declared.link.LinkCall.{LinkCall}
use Rattle.wrp_io.specs.Faults.{Rose}
use Rattle.wrp_loop.specs.declared.network.LoopCourse.{LoopCourse}
use Rattle.wrp_loop.specs.declared.network.LoopedNetwork.{LoopedNetwork}
use Rattle.wrp_loop.specs.declared.outcome.Rounded.{Rounded}
use Rattle.wrp_loop.specs.declared.outcome.Rounded.TheVariants as rounded
use Rattle.wrp_base.proofs.Lists.{all_append}
use Rattle.wrp_loop.specs.Calls.{Grew, IsFrameCall}
use Rattle.wrp_loop.specs.Laws.{Ending, EndsAs, Large, Over}
use Rattle.wrp_loop.specs.LoopEnds.{CallFails, EndsLarge, EndsOver}
use Rattle.wrp_loop.specs.LoopRun.{Full, Going, LoopAt, Loops, On, Plan, events_at, place, world_at}
use Rattle.wrp_scene.specs.EventLimit.{event_limit}
use Rattle.wrp_loop.specs.LoopText.{loop_text}
use Rattle.wrp_loop.specs.LoopStands.{ArrivalFails}
use Rattle.wrp_loop.specs.SoFar.{Begins, CameSoFar, ComesShort, EndedSo, Leads, RoundLacks}
use Rattle.wrp_loop.proofs.Leading.{adds_more}
use Rattle.wrp_records.specs.declared.status.Status.{Status}
use Rattle.wrp_records.specs.declared.status.Status.TheVariants.{Done, LinkFault, OutOfMemory, ReadFault, TooLarge, WriteFault}
use Rattle.wrp_records.specs.Engine.{Finishes}
use Rattle.wrp_records.specs.Lines.{content_of, lines_of}
use Rattle.wrp_records.specs.Passages.{FailsBy, IsSound, Passage}
use Rattle.wrp_records.specs.Reader.{ReaderAt}
use Rattle.wrp_records.specs.Stream.{Handles, Handling, large_line}
use Rattle.wrp_records.specs.Taking.{AppendsPart}
use Rattle.wrp_records.proofs.Passed.{passes_nothing, passes_stopped}
use Rattle.wrp_network_world.specs.NetworkSetting.{setting_in}
use Rattle.wrp_loop.specs.LoopPasses.{ClosesLoop, IsUncalled, LoopPasses, Ran, RanDue, RanSo, Rounding}
use Rattle.wrp_loop.specs.Loops.{IsLawful, IsShort, closing_lines, plan_of}
use Rattle.wrp_scene_records.specs.ScenarioStands.{ClosesLarge}
use Rattle.wrp_scene_records.specs.Scenarios.{IsScenario, SimAccepts, SimRefuses, scenario_of}
use Rattle.wrp_network_world.specs.LawsFit.{LawsFit, HasLawOf}
use Rattle.wrp_network_world.proofs.WorldRuns.{answered, made_after}
use Rattle.wrp_network_world.proofs.NewWorld.{laws_are, new_stands}
use Rattle.wrp_scene_records.proofs.Finishing.{finishes_after}
use Rattle.wrp_scene.specs.Scenario.{IsSceneOf, SceneAt, new_scene}
use Rattle.wrp_sim.specs.Sim.{SimIs}
use Rattle.wrp_sim.specs.SimAt.{new_sim}
use Rattle.wrp_world.specs.HasLaws.{HasLaws}
use Rattle.wrp_world.specs.New.{setting_of}
use Rattle.wrp_world.specs.StandsFor.{IsValid, StandsFor, WorldOf}

-- with no calls, what a link shows is unchanged
pub no_calls : (told : Option (List LinkCall)) → Grew told told []
no_calls None = refl
no_calls (Some calls) = ap Some (sym (append-nil calls))

-- each measurement has the answer of its link's law
pub lawful : {F : Type 0} {post : F → ℤ → ℤ → Type 0} (net : Network) (l : LoopAt) (world : WorldOf F) → IsTree net.cfg → length world.nodes ≡ node_count net.cfg
    → StandsFor post (setting_in net) (world_after (setting_in net) (events_at l)) world → HasLawOf post (setting_in net) world → IsLawful (setting_in net) l
lawful {post = post} net l world tree count stands laws =
    answered {post = post} net (world_after (setting_in net) (events_at l)) world tree count stands laws (made_after (setting_in net) (events_at l))

pub lawful_here : {F : Type 0} {pre : F → ℤ → Type 0} {post : F → ℤ → ℤ → Type 0} (net : Network) (l : LoopAt) (world : WorldOf F) → IsValid pre post world → world.plant.net ≡ net
    → StandsFor post (setting_in net) (world_after (setting_in net) (events_at l)) world → HasLawOf post (setting_in net) world → IsLawful (setting_in net) l
lawful_here {post = post} net l world valid is stands laws =
    lawful {post = post} net l world (subst (λ (k : Network). IsTree k.cfg) is valid.plant.accepted.tree) (valid.node_count ∙ ap (λ (k : Network). node_count k.cfg) is) stands laws

-- A loop that came so far

-- it went on, or is over: the calls, the text of its events, and the world after them
pub record Came {F : Type 0} (post : F → ℤ → ℤ → Type 0) (x : Plan) (network : LoopedNetwork F) (before told : Option (List LinkCall)) (text : List ℕ) : Type 0 where
  pub last : Going
  pub calls : List LinkCall
  pub adds : Grew before told calls
  pub loops : Loops x calls last
  pub frames : AllByRecursion IsFrameCall calls
  pub is : text ≡ loop_text x.setting (events_at (place last))
  pub stands : StandsFor post x.setting (world_at x (place last)) network.world

pub came_on : {F : Type 0} {post : F → ℤ → ℤ → Type 0} (x : Plan) (network : LoopedNetwork F) (course : LoopCourse) (before told : Option (List LinkCall)) (text : List ℕ) → CameSoFar post x network course before told text → Came post x network before told text
came_on x network course before told text h = record { last = On h.at; calls = h.calls; adds = h.adds; loops = h.loops; frames = h.frames; is = h.is; stands = h.stands.0.stands }

pub came_to : {F : Type 0} {post : F → ℤ → ℤ → Type 0} (ending : Ending) (x : Plan) (network : LoopedNetwork F) (course : LoopCourse) (before told : Option (List LinkCall)) (text : List ℕ)
    → EndedSo post (λ y calls last. EndsAs y calls ending last) x network course before told text → Came post x network before told text
came_to Over x network course before told text h = record { last = h.last; calls = h.calls; adds = h.adds; loops = h.ends.0; frames = h.frames; is = h.is; stands = h.stands }
came_to Large x network course before told text h = record { last = h.last; calls = h.calls; adds = h.adds; loops = h.ends.0; frames = h.frames; is = h.is; stands = h.stands }

-- a round went on, or ended the loop
pub came_by : {F : Type 0} {post : F → ℤ → ℤ → Type 0} (x : Plan) (network : LoopedNetwork F) (course : LoopCourse) (before told : Option (List LinkCall)) (written waits now : List ℕ) (rounded : Rounded)
    → Leads post x network course before told written waits now (Ok rounded) → Came post x network before told (written ++ now)
came_by {post = post} x network course before told written waits now rounded.GoesOn h = came_on {post = post} x network course before told (written ++ now) h
came_by {post = post} x network course before told written waits now rounded.Over h = came_to {post = post} Over x network course before told (written ++ now) h.1
came_by {post = post} x network course before told written waits now rounded.TooLarge h = came_to {post = post} Large x network course before told (written ++ now) h

-- if memory runs out, a loop counts as it is
short_of : (x : Plan) (calls : List LinkCall) (last : Going) → Loops x calls last → IsShort x calls last
short_of x calls (On l) loops = record { before = calls; made = []; all = sym (append-nil calls); loops = loops; which = inl refl }
short_of x calls (Full l) loops = loops

-- Rounds

pub begins_rounding : {F : Type 0} {post : F → ℤ → ℤ → Type 0} (x : Plan) (network : LoopedNetwork F) (course : LoopCourse) (before told : Option (List LinkCall)) (held : Option (List ℕ)) (waiting : List ℕ)
    → CameSoFar post x network course before told [] → waiting ≡ [] → Rounding post x network course before told held held waiting
begins_rounding {post = post} x network course before told held waiting came none =
    record { written = []; wrote = Appends-nil held; came = subst (CameSoFar post x network course before told) (sym none) came }

-- what waited was written
pub writes_all : {F : Type 0} {post : F → ℤ → ℤ → Type 0} (x : Plan) (network : LoopedNetwork F) (course : LoopCourse) (before told : Option (List LinkCall)) (held mid now : Option (List ℕ)) (written text left : List ℕ)
    → Appends held mid written → CameSoFar post x network course before told (written ++ text) → Appends mid now text → left ≡ [] → Rounding post x network course before told held now left
writes_all {post = post} x network course before told held mid now written text left wrote came all none = record {
  written = written ++ text;
  wrote = Appends-trans held mid now written text wrote all;
  came = subst (CameSoFar post x network course before told) (sym (append-nil (written ++ text)) ∙ ap (λ (l : List ℕ). (written ++ text) ++ l) (sym none)) came;
}

-- Ends

-- memory ran out, after lines that were written
pub lacks : {F : Type 0} {post : F → ℤ → ℤ → Type 0} (s : Setting) (scene : SceneAt) (seed : ℕ) (network : LoopedNetwork F) (before told : Option (List LinkCall)) (held now : Option (List ℕ)) (written : List ℕ)
    → (came : Came post (plan_of s scene seed) network before told written) → IsLawful s (place came.last) → Appends held now written → Ran s scene seed before told held now OutOfMemory
lacks s scene seed network before told held now written came law wrote = record {
  calls = came.calls;
  text = written;
  called = came.adds;
  wrote = wrote;
  so = λ lines said. inr (record { scene = scene; said = said; last = came.last; short = short_of (plan_of s scene seed) came.calls came.last came.loops; frames = came.frames; answered = law }, came.is);
}

-- memory ran out in a round, after lines that were written
pub stops_short : (s : Setting) (scene : SceneAt) (seed : ℕ) (before told : Option (List LinkCall)) (held now : Option (List ℕ)) (written : List ℕ) (l : LoopAt) (calls : List LinkCall)
    → Grew before told calls → ComesShort (plan_of s scene seed) calls l → AllByRecursion IsFrameCall calls → IsLawful s l → written ≡ loop_text s (events_at l) → Appends held now written → Ran s scene seed before told held now OutOfMemory
stops_short s scene seed before told held now written l calls adds short frames law is wrote = record {
  calls = calls;
  text = written;
  called = adds;
  wrote = wrote;
  so = λ lines said. inr (record { scene = scene; said = said; last = On l; short = short; frames = frames; answered = law }, is);
}

-- a call failed in a round
pub fails_so : (s : Setting) (scene : SceneAt) (seed : ℕ) (before told : Option (List LinkCall)) (held now : Option (List ℕ)) (written : List ℕ) (l : LoopAt) (calls : List LinkCall)
    → Grew before told calls → CallFails (plan_of s scene seed) calls l → AllByRecursion IsFrameCall calls → IsLawful s l → written ≡ loop_text s (events_at l) → Appends held now written → Ran s scene seed before told held now LinkFault
fails_so s scene seed before told held now written l calls adds fails frames law is wrote = record {
  calls = calls;
  text = written;
  called = adds;
  wrote = wrote;
  so = λ lines said. inr (record { scene = scene; said = said; at = l; fails = fails; frames = frames; answered = law }, is);
}

-- the lines of a loop that came so far are all written
all_written : {F : Type 0} {post : F → ℤ → ℤ → Type 0} (x : Plan) (network : LoopedNetwork F) (course : LoopCourse) (before told : Option (List LinkCall)) (held now : Option (List ℕ)) (waiting : List ℕ) → waiting ≡ []
    → (so_far : Rounding post x network course before told held now waiting) → so_far.written ≡ loop_text x.setting (events_at so_far.came.at)
all_written x network course before told held now waiting none so_far =
    sym (append-nil so_far.written) ∙ ap (λ (l : List ℕ). so_far.written ++ l) (sym none) ∙ so_far.came.is

-- a call of the next arrival failed
pub round_failed : {F : Type 0} {post : F → ℤ → ℤ → Type 0} (s : Setting) (scene : SceneAt) (seed : ℕ) (network : LoopedNetwork F) (course : LoopCourse) (before mid told : Option (List LinkCall)) (held now : Option (List ℕ)) (waiting : List ℕ)
    → waiting ≡ [] → (so_far : Rounding post (plan_of s scene seed) network course before mid held now waiting) → IsLawful s so_far.came.at → ArrivalFails (plan_of s scene seed) so_far.came.at mid told
    → Ran s scene seed before told held now LinkFault
round_failed {post = post} s scene seed network course before mid told held now waiting none so_far law r =
    fails_so s scene seed before told held now so_far.written so_far.came.at (so_far.came.calls ++ r.calls)
    (adds_more before mid told so_far.came.calls r.calls so_far.came.adds r.adds)
    (record {
      before = so_far.came.calls;
      cut = r.calls;
      all = refl;
      loops = so_far.came.loops;
      number = r.number;
      way = r.way;
      octets = r.octets;
      arrives = r.arrives;
      fails = r.cut;
    }) (all_append IsFrameCall so_far.came.calls r.calls so_far.came.frames r.frames) law (all_written {post = post} (plan_of s scene seed) network course before mid held now waiting none so_far) so_far.wrote

-- memory ran out in the next round
pub round_lacks : {F : Type 0} {post : F → ℤ → ℤ → Type 0} (s : Setting) (scene : SceneAt) (seed : ℕ) (network : LoopedNetwork F) (course : LoopCourse) (before mid told : Option (List LinkCall)) (held now : Option (List ℕ)) (waiting : List ℕ)
    → waiting ≡ [] → (so_far : Rounding post (plan_of s scene seed) network course before mid held now waiting) → IsLawful s so_far.came.at → RoundLacks (plan_of s scene seed) so_far.came.at mid told
    → Ran s scene seed before told held now OutOfMemory
round_lacks {post = post} s scene seed network course before mid told held now waiting none so_far law r =
    stops_short s scene seed before told held now so_far.written so_far.came.at (so_far.came.calls ++ r.calls)
    (adds_more before mid told so_far.came.calls r.calls so_far.came.adds r.adds)
    (record { before = so_far.came.calls; made = r.calls; all = refl; loops = so_far.came.loops; which = r.which }) (all_append IsFrameCall so_far.came.calls r.calls so_far.came.frames r.frames) law
    (all_written {post = post} (plan_of s scene seed) network course before mid held now waiting none so_far) so_far.wrote

-- a write failed: a part of the lines of the events so far is written
pub unwritten : {F : Type 0} {post : F → ℤ → ℤ → Type 0} (s : Setting) (scene : SceneAt) (seed : ℕ) (network : LoopedNetwork F) (before told : Option (List LinkCall)) (held mid now : Option (List ℕ)) (written text : List ℕ)
    → (came : Came post (plan_of s scene seed) network before told (written ++ text)) → IsLawful s (place came.last) → Appends held mid written → AppendsPart mid now text → Ran s scene seed before told held now WriteFault
unwritten s scene seed network before told held mid now written text came law wrote part =
    let all = finishes_after OutOfMemory WriteFault held mid now written text wrote (inr (refl, part)) in
    go (written ++ text) came.is all
  where
    go : (due : List ℕ) → due ≡ loop_text s (events_at (place came.last)) → Finishes OutOfMemory WriteFault held now due → Ran s scene seed before told held now WriteFault
    go due is (inl bad) = let e = bad.0 in absurd (cc)
    go due is (inr cut) = record {
      calls = came.calls;
      text = take cut.1.0 due;
      called = came.adds;
      wrote = cut.1.1;
      so = λ lines said. inr (
        OutOfMemory,
        due,
        cut.1.0,
        refl,
        inr (record { scene = scene; said = said; last = came.last; short = short_of (plan_of s scene seed) came.calls came.last came.loops; frames = came.frames; answered = law }, is),
      );
    }

-- the last lines are written after the others, or a part of them is
ends_with : (s : Setting) (scene : SceneAt) (seed : ℕ) (before told : Option (List LinkCall)) (held mid now : Option (List ℕ)) (due status : Status) (written last : List ℕ) (calls : List LinkCall)
    → Grew before told calls → Appends held mid written → Finishes due status mid now last
    → ((lines : List (List ℕ)) → IsScenario s lines scene → RanDue s seed lines calls due (written ++ last)) → ((lines : List (List ℕ)) → IsScenario s lines scene → RanSo s seed lines calls due (written ++ last))
    → Ran s scene seed before told held now status
ends_with s scene seed before told held mid now due status written last calls adds wrote how part whole = elim (finishes_after due status held mid now written last wrote how) [
  | inl all ↦ subst (Ran s scene seed before told held now) (sym all.0) (record { calls = calls; text = written ++ last; called = adds; wrote = all.1; so = whole })
  | inr cut ↦ subst (Ran s scene seed before told held now) (sym cut.0) (record {
    calls = calls;
    text = take cut.1.0 (written ++ last);
    called = adds;
    wrote = cut.1.1;
    so = λ lines said. inr (due, written ++ last, cut.1.0, refl, part lines said);
  })
]

-- no event comes any more
pub over_ran : {F : Type 0} {post : F → ℤ → ℤ → Type 0} (s : Setting) (scene : SceneAt) (seed : ℕ) (network : LoopedNetwork F) (course : LoopCourse) (before told : Option (List LinkCall)) (held mid now : Option (List ℕ)) (written waiting : List ℕ)
    (status : Status) → (ended : EndedSo post EndsOver (plan_of s scene seed) network course before told written) → IsLawful s (place ended.last) → Appends held mid written → waiting ≡ []
    → ClosesLoop s (place ended.last) status mid now waiting → Ran s scene seed before told held now status
unfolding came_to
over_ran {post = post} s scene seed network course before told held mid now written waiting status ended law wrote none (inl memory) =
    subst (Ran s scene seed before told held now) (sym memory.0)
    (lacks {post = post} s scene seed network before told held now written (came_to {post = post} Over (plan_of s scene seed) network course before told written ended) law
    (subst (λ (k : Option (List ℕ)). Appends held k written) (sym memory.1) wrote))
over_ran s scene seed network course before told held mid now written waiting status ended law wrote none (inr how) =
    ends_with s scene seed before told held mid now Done status written (closing_lines s (place ended.last)) ended.calls ended.adds wrote
    (subst (λ (l : List ℕ). Finishes Done status mid now (l ++ closing_lines s (place ended.last))) none how)
    (λ lines said. (record { scene = scene; said = said; last = ended.last; ends = ended.ends; frames = ended.frames; answered = law }, ap (λ (l : List ℕ). l ++ closing_lines s (place ended.last)) ended.is))
    (λ lines said. (record { scene = scene; said = said; last = ended.last; ends = ended.ends; frames = ended.frames; answered = law }, ap (λ (l : List ℕ). l ++ closing_lines s (place ended.last)) ended.is))

-- the next event has too great a number
pub large_ran : {F : Type 0} {post : F → ℤ → ℤ → Type 0} (s : Setting) (scene : SceneAt) (seed : ℕ) (network : LoopedNetwork F) (course : LoopCourse) (before told : Option (List LinkCall)) (held mid now : Option (List ℕ)) (written waiting : List ℕ)
    (status : Status) → (ended : EndedSo post EndsLarge (plan_of s scene seed) network course before told written) → IsLawful s (place ended.last) → Appends held mid written → waiting ≡ []
    → ClosesLarge status mid now waiting → Ran s scene seed before told held now status
unfolding came_to
large_ran {post = post} s scene seed network course before told held mid now written waiting status ended law wrote none (inl memory) =
    subst (Ran s scene seed before told held now) (sym memory.0)
    (lacks {post = post} s scene seed network before told held now written (came_to {post = post} Large (plan_of s scene seed) network course before told written ended) law
    (subst (λ (k : Option (List ℕ)). Appends held k written) (sym memory.1) wrote))
large_ran s scene seed network course before told held mid now written waiting status ended law wrote none (inr how) =
    ends_with s scene seed before told held mid now TooLarge status written (large_line event_limit) ended.calls ended.adds wrote
    (subst (λ (l : List ℕ). Finishes TooLarge status mid now (l ++ large_line event_limit)) none how)
    (λ lines said. (record { scene = scene; said = said; last = ended.last; ends = ended.ends; frames = ended.frames; answered = law }, ap (λ (l : List ℕ). l ++ large_line event_limit) ended.is))
    (λ lines said. (record { scene = scene; said = said; last = ended.last; ends = ended.ends; frames = ended.frames; answered = law }, ap (λ (l : List ℕ). l ++ large_line event_limit) ended.is))

-- the line that names the number of an event is no fault of a link
pub large_unlinked : (status : Status) (before now : Option (List ℕ)) (waiting : List ℕ) → ClosesLarge status before now waiting → status ≡ LinkFault → ⊥
large_unlinked status before now waiting (inl memory) is = let both : OutOfMemory ≡ LinkFault = sym memory.0 ∙ is in cc
large_unlinked status before now waiting (inr (inl all)) is = let both : TooLarge ≡ LinkFault = sym all.0 ∙ is in cc
large_unlinked status before now waiting (inr (inr cut)) is = let both : WriteFault ≡ LinkFault = sym cut.0 ∙ is in cc

-- Before the first round

-- memory ran out
pub nothing_ran : (s : Setting) (scene : SceneAt) (seed : ℕ) (before told : Option (List LinkCall)) (held now : Option (List ℕ)) → Grew before told [] → Appends held now [] → Ran s scene seed before told held now OutOfMemory
nothing_ran s scene seed before told held now adds wrote = record { calls = []; text = []; called = adds; wrote = wrote; so = λ lines said. inl (refl, refl) }

-- the sink failed at the empty piece
pub not_open : (s : Setting) (scene : SceneAt) (seed : ℕ) (before told : Option (List LinkCall)) (held now : Option (List ℕ)) → Grew before told [] → Appends held now [] → Ran s scene seed before told held now WriteFault
not_open s scene seed before told held now adds wrote = record { calls = []; text = []; called = adds; wrote = wrote; so = λ lines said. inl (refl, refl) }

-- the link did not start
pub not_started : (s : Setting) (scene : SceneAt) (seed : ℕ) (before told : Option (List LinkCall)) (held now : Option (List ℕ)) → Grew before told [] → Appends held now [] → Ran s scene seed before told held now LinkFault
not_started s scene seed before told held now adds wrote = record { calls = []; text = []; called = adds; wrote = wrote; so = λ lines said. inl (refl, refl) }

-- the sink took the empty piece, and the network ran
pub ran_open : (s : Setting) (scene : SceneAt) (seed : ℕ) (before told : Option (List LinkCall)) (held mid now : Option (List ℕ)) (status : Status) → Appends held mid [] → Ran s scene seed before told mid now status
    → Ran s scene seed before told held now status
ran_open s scene seed before told held mid now status none ran =
    record { calls = ran.calls; text = ran.text; called = ran.called; wrote = Appends-trans held mid now [] ran.text none ran.wrote; so = ran.so }

-- With the records

-- they were all read, and the network ran
pub passes_ran : (s : Setting) (scene : SceneAt) (seed : ℕ) (T : List (List ℕ) → Type 0) (source : Passage (List ℕ)) (link : Passage (List LinkCall)) (held middle now : Option (List ℕ)) (faults faults_between faults_now : ℕ) (rest : List ℕ)
    (had_ended : Bool) (r : ReaderAt) (status : Status) → Handling (SimAccepts s) (SimRefuses s) T rest r source.before source.now held middle Done → ((lines : List (List ℕ)) → T lines → IsScenario s lines scene)
    → Ran s scene seed link.before link.now middle now status → (r.ended ≡ true → IsAtEnd source.now) → (had_ended ≡ true → r.ended ≡ true) → IsSound source → (status ≡ ReadFault → ⊥) → faults_between ≡ faults
    → FailsBy WriteFault status (record { before = middle; now = now; faults = faults_between; faults_now = faults_now }) → FailsBy LinkFault status link
    → LoopPasses s seed source (record { before = held; now = now; faults = faults; faults_now = faults_now }) link rest had_ended r.ended status
passes_ran s scene seed T source link held middle now faults faults_between faults_now rest had_ended r status h says ran at_end stays sound never kept write linked =
    let none : h.text ≡ [] = h.stands.1.accepted.2 in
    record {
      given = h.given;
      octets = ran.text;
      calls = ran.calls;
      taken = h.taken;
      wrote = Appends-trans held middle now [] ran.text (subst (Appends held middle) none h.written) ran.wrote;
      called = ran.called;
      stands = inr (
        h.stands.0.ended,
        subst (Handles (SimAccepts s) (lines_of (rest ++ h.given))) none h.stands.1,
        ran.so (map content_of (lines_of (rest ++ h.given))) (says (map content_of (lines_of (rest ++ h.given))) (h.done refl)),
      );
      at_end = at_end;
      stays = stays;
      read = record { failed = λ is. absurd (never is); sound = λ other. sound };
      write = record {
        failed = λ is. subst (λ (n : ℕ). Rose n faults_now) kept (write.failed is);
        sound = λ other. write.sound other ∙ kept;
      };
      linked = linked;
    }

-- they were not, and no call was made
pub passes_unran : (s : Setting) (seed : ℕ) (T : List (List ℕ) → Type 0) (source sink : Passage (List ℕ)) (link : Passage (List LinkCall)) (rest : List ℕ) (had_ended : Bool) (r : ReaderAt) (status : Status)
    → Handling (SimAccepts s) (SimRefuses s) T rest r source.before source.now sink.before sink.now status → (status ≡ Done → ⊥) → (r.ended ≡ true → IsAtEnd source.now) → (had_ended ≡ true → r.ended ≡ true)
    → (status ≡ ReadFault → r.ended ≡ false) → FailsBy ReadFault status source → FailsBy WriteFault status sink → (status ≡ LinkFault → ⊥) → link.now ≡ link.before → IsSound link
    → LoopPasses s seed source sink link rest had_ended r.ended status
passes_unran s seed T source sink link rest had_ended r status h other at_end stays goes read write never same sound =
    let passes = passes_stopped (scenario_of s) T source sink rest had_ended r status h other at_end stays goes read write in
    record {
      given = passes.given;
      octets = passes.octets;
      calls = [];
      taken = passes.taken;
      wrote = passes.wrote;
      called = same ∙ no_calls link.before;
      stands = inl (refl, passes.stands);
      at_end = passes.at_end;
      stays = passes.stays;
      read = passes.read;
      write = passes.write;
      linked = record { failed = λ is. absurd (never is); sound = λ one. sound };
    }

-- nothing was taken or written, because memory ran out
pub passes_none : (s : Setting) (seed : ℕ) (source sink : Passage (List ℕ)) (link : Passage (List LinkCall)) (rest : List ℕ) (ended : Bool) → Consumes source.before source.now [] → Appends sink.before sink.now [] → link.now ≡ link.before
    → (ended ≡ true → IsAtEnd source.now) → IsSound source → IsSound sink → IsSound link → LoopPasses s seed source sink link rest ended ended OutOfMemory
passes_none s seed source sink link rest ended taken wrote same at_end read write linked =
    let passes = passes_nothing (scenario_of s) source sink rest ended (new_scene s.cfg, refl, refl) taken wrote at_end read write in
    record {
      given = passes.given;
      octets = passes.octets;
      calls = [];
      taken = passes.taken;
      wrote = passes.wrote;
      called = same ∙ no_calls link.before;
      stands = inl (refl, passes.stands);
      at_end = passes.at_end;
      stays = passes.stays;
      read = passes.read;
      write = passes.write;
      linked = record { failed = λ is. cc; sound = λ other. linked };
    }

-- no run ends as a refusal
pub ran_called : (s : Setting) (seed : ℕ) (lines : List (List ℕ)) (calls : List LinkCall) (status : Status) (text : List ℕ) → RanSo s seed lines calls status text → IsUncalled status → ⊥
ran_called s seed lines calls Done text so un = un
ran_called s seed lines calls TooLarge text so un = un
ran_called s seed lines calls WriteFault text so un = un
ran_called s seed lines calls LinkFault text so un = un
ran_called s seed lines calls OutOfMemory text so un = un
ran_called s seed lines calls _ text so un = so

-- A new network

pub own_laws : {F : Type 0} {pre : F → ℤ → Type 0} {post : F → ℤ → ℤ → Type 0} (net : Network) (laws : List (Option (LawOf F))) (world : WorldOf F) → LawsFit pre post net laws → HasLaws laws world → IsValid pre post world → world.plant.net ≡ net
    → HasLawOf post (setting_in world.plant.net) world
own_laws {pre = pre} {post = post} net laws world fit has valid is =
    subst (λ (k : Network). HasLawOf post (setting_in k) world) (sym is) (laws_are {pre = pre} {post = post} net laws world fit has (valid.node_count ∙ ap (λ (k : Network). node_count k.cfg) is))

-- before its first event
pub first_loop : {F : Type 0} {pre : F → ℤ → Type 0} {post : F → ℤ → ℤ → Type 0} (net : Network) (laws : List (Option (LawOf F))) (scene : SceneAt) (seed : ℕ) (network : LoopedNetwork F) (course : LoopCourse) → LawsFit pre post net laws → IsTree net.cfg
    → network.world.plant.net ≡ net → StandsFor post (setting_of net.cfg net.db laws) (new_world (setting_of net.cfg net.db laws)) network.world → IsSceneOf net.cfg scene → SimIs (new_sim scene seed) course.sim → course.sim.scene ≡ scene
    → course.events ≡ 0 → course.forged ≡ 0 → course.index.came.items ≡ [] → course.index.handed.items ≡ [] → Begins post (plan_of (setting_in network.world.plant.net) scene seed) network course
first_loop {pre = pre} {post = post} net laws scene seed network course fit tree is stands fits sim same events forged came handed = record {
  stands = subst (λ (k : Network). StandsFor post (setting_in k) (new_world (setting_in k)) network.world) (sym is) (new_stands {pre = pre} {post = post} net laws network.world fit tree stands);
  fits = subst (λ (k : Network). IsSceneOf k.cfg scene) (sym is) fits;
  sim = sim;
  scene = same;
  events = events;
  forged = forged;
  came = came;
  handed = handed;
}
