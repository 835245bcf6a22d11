-- An event that is taken continues a run, if it keeps all premises in the run's last state.
use Rattle.std.proofs.Common.{◌≡◌, ℤ, List, ◌∷◌, Result}
use Rattle.wrp_base.specs.declared.message.PtpMsg.{PtpMsg}
use Rattle.wrp_frame.specs.declared.fault.FrameFault.{FrameFault}
use Rattle.wrp_course.specs.declared.event.Event.{Event}
use Rattle.wrp_course.specs.declared.node_out.NodeOut.{NodeOut}
use Rattle.wrp_course.specs.EventAt.{FitsEvent, IsEventOf}
use Rattle.wrp_course.specs.Premises.{Accepts}
use Rattle.wrp_course.specs.Run.{Happened, IsSaid, world_after}
use Rattle.wrp_course.specs.Setting.{Setting}
use Rattle.wrp_world.specs.EventHolds.{LinksHoldInRuns, TracksHoldInRuns}
use Rattle.wrp_world.specs.InRun.{InRun}
use Rattle.wrp_world.specs.InTrueRun.{InTrueRun}
use Rattle.wrp_world.specs.StandsFor.{WorldOf}
use Rattle.wrp_world.specs.Step.{MayCome}
use Rattle.wrp_world.specs.Take.{CanHappen, CanHappenSo, Taken, Takes, TakesLinksOn, TakesRunsOn, TakesTruthOn}
use Rattle.wrp_world.specs.Taking.{laws_of}
use Rattle.wrp_world.proofs.RunsOn.{goes_on}
use Rattle.wrp_world.proofs.TrueRuns.{event_in, laws_kept, true_run}

-- given what its octets say
pub can_so : {F : Type 0} (post : F → ℤ → ℤ → Type 0) (world : WorldOf F) (e : Event) (says : Result PtpMsg FrameFault) → IsSaid e says → CanHappen post world e → CanHappenSo post world e
can_so post world e says said h = record {
  says = says;
  said = said;
  setting = h.setting;
  state = h.state;
  stands = h.stands;
  accepted = h.accepted says said;
}

taken_adds : {F : Type 0} (post : F → ℤ → ℤ → Type 0) (s : Setting) (events : List Happened) (e : Event) (says : Result PtpMsg FrameFault) (answer : ℤ) (old new : WorldOf F) (outs : List NodeOut) →
    InRun post s events old → IsEventOf s.cfg e → Takes post e says answer old new outs → Accepts s (world_after s events) says e →
    InRun post s (record { event = e; says = says; answer = answer } ∷ events) new
taken_adds post s events e says answer old new outs h event takes accepted = record {
  run = record { network = h.run.network; each = (event, h.run.each); accepted = (accepted, h.run.accepted) };
  stands = takes.stands s (world_after s events) h.stands accepted;
}

pub takes_runs_on : {F : Type 0} (post : F → ℤ → ℤ → Type 0) (e : Event) (old new : WorldOf F) (outs : List NodeOut) →
    LinksHoldInRuns → MayCome old e → Taken post e old new outs → TakesRunsOn post e old new
takes_runs_on post e old new outs law may (says, answer, takes) s events h keeps =
    goes_on post e says answer new s events law
    (taken_adds post s events e says answer old new outs h (event_in post s events e old h may) takes (keeps says takes.said))

pub takes_links_on : {F : Type 0} (post : F → ℤ → ℤ → Type 0) (e : Event) (old new : WorldOf F) (outs : List NodeOut) →
    LinksHoldInRuns → MayCome old e → Taken post e old new outs → TakesLinksOn post e old new outs
takes_links_on post e old new outs links may (says, answer, takes) s events h keeps =
    let run : InRun post s (record { event = e; says = says; answer = answer } ∷ events) new =
    taken_adds post s events e says answer old new outs h (event_in post s events e old h may) takes (keeps says takes.said) in
    record {
      says = says;
      answer = answer;
      said = takes.said;
      run = run;
      steps = takes.seen s (world_after s events) h.stands (keeps says takes.said);
      links = links s (record { event = e; says = says; answer = answer }) events run.run;
    }

pub takes_truth_on : {F : Type 0} (pre : F → ℤ → Type 0) (post : F → ℤ → ℤ → Type 0) (e : Event) (old new : WorldOf F) (outs : List NodeOut) →
    LinksHoldInRuns → TracksHoldInRuns → MayCome old e → FitsEvent e → laws_of new ≡ laws_of old → Taken post e old new outs → TakesTruthOn pre post e old new outs
takes_truth_on pre post e old new outs links tracks may fits same (says, answer, takes) s events h keeps =
    let run : InRun post s (record { event = e; says = says; answer = answer } ∷ events) new =
    taken_adds post s events e says answer old new outs h.run (event_in post s events e old h.run may) takes (keeps says takes.said) in
    let on : InTrueRun pre post s (record { event = e; says = says; answer = answer } ∷ events) new =
    record { run = run; fit = (fits, h.fit); laws = laws_kept pre post s.cfg old new same h.laws } in
    record {
      says = says;
      answer = answer;
      said = takes.said;
      run = on;
      steps = takes.seen s (world_after s events) h.run.stands (keeps says takes.said);
      links = links s (record { event = e; says = says; answer = answer }) events run.run;
      tracks = tracks s (record { event = e; says = says; answer = answer }) events (true_run pre post s (record { event = e; says = says; answer = answer } ∷ events) new on);
    }
