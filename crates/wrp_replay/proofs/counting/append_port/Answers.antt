-- Each reason has its line.
use Rattle.wrp_replay.proofs.CountLemmas.{all_reasons, reason_less, no_reason}
use Rattle.wrp_replay.proofs.counting.append_port.Goals as goal

pub loop-reason-init : goal.loop-reason-init
loop-reason-init g c = λ fixed inputs stands. all_reasons _ _ _ _

pub loop-reason-preserved : goal.loop-reason-preserved
loop-reason-preserved g c = λ fixed inputs stands.
    reason_less _ _ _ _ _ _ _ _ _ c.loop-reason-test.true (c.loop-reason.invariant fixed inputs stands) c.number-number.ensures.value
    (c.count-value.ensures fixed inputs stands) c.in_ok-append_count.ensures

pub returns : goal.returns
returns g c = λ fixed inputs stands. no_reason _ _ _ _ _ _ c.loop-reason-test.false (c.loop-reason.invariant fixed inputs stands)
