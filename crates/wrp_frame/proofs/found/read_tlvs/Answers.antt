use Rattle.std.proofs.lemmas.Result.{err_from_is_err_and}
use Rattle.wrp_frame.proofs.Walk.{walk_on, walk_fails, typed}
use Rattle.std.proofs.Common.{◌≡◌, ap, ◌∙◌}
use Rattle.wrp_frame.specs.declared.found.Found.{Found}
use Rattle.wrp_frame.specs.Found.{joined, with_first}
use Rattle.wrp_tlv.specs.WhiteRabbitList.{read_of}
use Rattle.wrp_frame.proofs.found.read_tlvs.Goals as goal

pub returns-in_err-tlv-clause-err : goal.returns-in_err-tlv-clause-err
returns-in_err-tlv-clause-err c =
    let p = err_from_is_err_and c.from_residual.result c.from_residual.ensures.1 in
    rw (p.1, p.2) (c.in_err-tlv.ensures.err.0, walk_fails _ _ _ c.loop-at.invariant c.loop-at-test.true c.in_err-tlv.ensures.err.1)

pub loop-at-preserved : goal.loop-at-preserved
loop-at-preserved c =
    let follows : (later : Found) → joined c.add-found.result later ≡ joined c.loop-at.found (with_first (read_of (typed c.args.part.now c.in_ok-tlv.tlv)) later) =
    λ later. c.add-found.ensures later ∙ ap (λ read. joined c.loop-at.found (with_first read later)) c.read_value.ensures in
    walk_on _ _ _ _ _ c.loop-at.invariant c.loop-at-test.true c.in_ok-tlv.ensures.ok follows
