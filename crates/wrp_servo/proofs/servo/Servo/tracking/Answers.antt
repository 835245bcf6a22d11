-- The state after the list of calls is TRACK if and only if looking back finds it.
use Rattle.std.proofs.Common.{◌≡◌, ◌↔◌, Bool, true, ap, ◌∙◌, sym, arith}
use Rattle.std.specs.Bool.{IsTrue}
use Rattle.wrp_servo.specs.declared.machine.Core.{Core}
use Rattle.wrp_servo.specs.Call.{run}
use Rattle.wrp_servo.specs.LookBack.{enters_track, leaves_track}
use Rattle.wrp_servo.specs.Since.{Since}
use Rattle.wrp_servo.specs.Table.{is_track}
use Rattle.wrp_servo.proofs.BothLaws.{track_stands_since}
use Rattle.wrp_servo.proofs.servo.Servo.tracking.Goals as goal

is_true : (b : Bool) → b ≡ true → IsTrue b
is_true b h = grind arith

true_is : (b : Bool) → IsTrue b → b ≡ true
true_is b h = grind arith

pub returns-clause-since : goal.returns-clause-since
returns-clause-since g c = λ x calls stands.
    let same : c.is_in_track.result ≡ is_track (run x calls).state =
    c.is_in_track.ensures ∙ ap (λ (v : Core). is_track v.state) stands.core in
    let since : (is_track (run x calls).state ≡ true) ↔ Since (enters_track x) (leaves_track x) calls = track_stands_since x calls in
    (λ h. since.0 (sym same ∙ true_is c.is_in_track.result h), λ s. is_true c.is_in_track.result (same ∙ since.1 s))
