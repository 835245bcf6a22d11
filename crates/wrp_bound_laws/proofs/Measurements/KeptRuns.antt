-- The delay of the measurement that is held was computed from the deltas of the link as it is now, with an answer that
-- is near.
use Rattle.std.proofs.Common.{◌≡◌, sym, subst, ℕ, ℤ, List, [], ◌∷◌, ◌++◌, Some}
use Rattle.wrp_base.specs.declared.measurement.Four.{Four}
use Rattle.wrp_node.specs.NodeAt.{NodeAt, Taken, deltas_in, servo_setting_of, slave_of}
use Rattle.wrp_node.specs.NodeRun.{node_after}
use Rattle.wrp_servo.specs.Call.{Call, CallSample, CallMeasured, CallTick, CallLease, CallLink, CallCarrier, CallReset, ServoSetting, run as servo_after}
use Rattle.wrp_servo.specs.Measuring.{is_in, x_of}
use Rattle.wrp_servo.specs.Servo.{AllAnswered, IsAnswer}
use Rattle.wrp_tracking_laws.specs.ServoGives.{WasMeasured}
use Rattle.wrp_node.proofs.Hearing.{is_true}
use Rattle.wrp_course.specs.Run.{world_after}
use Rattle.wrp_course.specs.Setting.{node_setting_of}
use Rattle.wrp_bound_laws.specs.Fours.{KeptIsReckoned, IsNearAnswer}
use Rattle.wrp_bound_laws.proofs.Measurements.FourEvents.{only_below}
use Rattle.wrp_bound_laws.proofs.Nodes.FourSteps.{IsOnlySlave}
use Rattle.wrp_bound_laws.proofs.Measurements.KeptDeltas.{DeltaLaws, IsReckonedBy, KnowsDeltas, Reckons, node_knows, node_reckons}
use Rattle.wrp_bound_laws.proofs.Runs.NodeRuns.{node_is}
use Rattle.wrp_bound_laws.proofs.SyncPairs.SyncGiven.{slave_at}

-- The answer with a measurement among the calls is one of the law's

answer_within : (answers : ℤ → ℤ → Type 0) (x : ServoSetting) (since before : List Call) (f : Four) (y : ℤ) → AllAnswered answers x (since ++ CallMeasured f y ∷ before) → IsAnswer answers x (servo_after x before) f y
answer_within answers x [] before f y h = h.0
answer_within answers x (CallSample n base bits ∷ since) before f y h = answer_within answers x since before f y h
answer_within answers x (CallMeasured g z ∷ since) before f y h = answer_within answers x since before f y h.1
answer_within answers x (CallTick ∷ since) before f y h = answer_within answers x since before f y h
answer_within answers x (CallLease fresh ∷ since) before f y h = answer_within answers x since before f y h
answer_within answers x (CallLink on ∷ since) before f y h = answer_within answers x since before f y h
answer_within answers x (CallCarrier up ∷ since) before f y h = answer_within answers x since before f y h
answer_within answers x (CallReset ∷ since) before f y h = answer_within answers x since before f y h

pub kept_is_reckoned : DeltaLaws → KeptIsReckoned
kept_is_reckoned laws s events k link hop kept run answered is numbers stands =
    let n : ℕ = link.lower in
    let node : NodeAt = (world_after s events).node n in
    let x : ServoSetting = servo_setting_of (node_setting_of s n) in
    let inputs : List Taken = (world_after s events).inputs n in
    let made : node ≡ node_after (node_setting_of s n) inputs = node_is s events n in
    let slave : slave_of (s.set n) ≡ Some link.lower_port = slave_at s run.network k link is in
    let only : IsOnlySlave (node_setting_of s n) link.lower_port = only_below s run.network k link is in
    let by : IsReckonedBy x node.calls kept = subst (λ (m : NodeAt). Reckons x m.calls) (sym made) (node_reckons laws (node_setting_of s n) link.lower_port slave only inputs) kept stands in
    let was : WasMeasured x node.calls kept = by.was in
    let here : deltas_in (s.set n) node ≡ Some was.deltas = subst (KnowsDeltas (node_setting_of s n)) (sym made) (node_knows laws (node_setting_of s n) link.lower_port slave only inputs) was.deltas by.told in
    let told : IsAnswer (IsNearAnswer s n) x (servo_after x was.before) kept.four was.answer =
    answer_within (IsNearAnswer s n) x was.since was.before kept.four was.answer (subst (AllAnswered (IsNearAnswer s n) x) was.splits (answered n)) in (
      was.deltas,
      here,
      record {
        answer = was.answer;
        delay = was.delay;
        near = told was.deltas was.in_chain (is_true (is_in x.lo x.hi (x_of was.deltas kept.four)) was.in_range) hop numbers;
      },
    )
