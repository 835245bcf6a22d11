-- The event of a step continues a run.
use Rattle.std.proofs.Common.{subst, ℤ, List, ◌∷◌, Result}
use Rattle.wrp_network.specs.declared.configuration.NetCfg.{NetCfg}
use Rattle.wrp_base.specs.declared.message.PtpMsg.{PtpMsg}
use Rattle.wrp_frame.specs.declared.fault.FrameFault.{FrameFault}
use Rattle.wrp_course.specs.declared.event.Event.{Event}
use Rattle.wrp_course.specs.declared.node_out.NodeOut.{NodeOut}
use Rattle.wrp_course.specs.EventAt.{IsEventOf}
use Rattle.wrp_world.specs.EventHolds.{LinksHoldInRuns}
use Rattle.wrp_world.specs.InRun.{InRun}
use Rattle.wrp_course.specs.Run.{Happened}
use Rattle.wrp_world.specs.RunsOn.{GoesOn, RunsOn}
use Rattle.wrp_course.specs.Setting.{Setting}
use Rattle.wrp_world.specs.StandsFor.{WorldOf}
use Rattle.wrp_world.specs.Step.{MayCome, Stepped}
use Rattle.wrp_world.proofs.InRuns.{step_adds_to_run}

pub goes_on : {F : Type 0} (post : F → ℤ → ℤ → Type 0) (e : Event) (says : Result PtpMsg FrameFault) (answer : ℤ) (new : WorldOf F) (s : Setting) (events : List Happened) →
    LinksHoldInRuns → InRun post s (record { event = e; says = says; answer = answer } ∷ events) new → GoesOn post s e events new
goes_on post e says answer new s events law h = record {
  says = says;
  answer = answer;
  run = h;
  handshakes = (law s (record { event = e; says = says; answer = answer }) events h.run).handshakes;
}

pub runs_on : {F : Type 0} (post : F → ℤ → ℤ → Type 0) (e : Event) (old new : WorldOf F) (outs : List NodeOut) →
    LinksHoldInRuns → MayCome old e → Stepped post e old new outs → RunsOn post e old new
runs_on post e old new outs law may (says, answer, steps) s events h =
    let event : IsEventOf s.cfg e = subst (λ (cfg : NetCfg). IsEventOf cfg e) h.stands.plant.cfg may.event in
    goes_on post e says answer new s events law (step_adds_to_run post s events e says answer old new outs h event steps)
