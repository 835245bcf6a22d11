-- The event goes in front of the earlier ones, what looking back finds is answered, and an end that is up
-- has a peer that sent what it says.
use Rattle.std.proofs.Common.{◌≡◌, ◌∷◌}
use Rattle.std.proofs.lemmas.Result.{IfOk-weaker}
use Rattle.wrp_l1sync.specs.Pair.{told_breach, noted, handing_of, out_at, answer_of, history}
use Rattle.wrp_l1sync.proofs.PairLaws.{breach_looked_back, answer_looked_back, accepted_looked_back, Adds-event, same_limits, silent_looked_back}
use Rattle.wrp_l1sync.proofs.TheoremLaws.{up_is_carried}
use Rattle.wrp_l1sync.proofs.pair.L1Pair.step.Goals as goal

pub returns-clause-limits : goal.returns-clause-limits
returns-clause-limits c =
    same_limits c.args.self.now c.try_step.new.self c.args.e.now c.try_step.result c.try_step.ensures.pair c.try_step.ensures.refused

pub returns-clause-broken : goal.returns-clause-broken
returns-clause-broken c events stands =
    breach_looked_back c.args.self.now events c.args.e.now (told_breach c.try_step.result) c.try_step.ensures.broken stands

pub returns-clause-out : goal.returns-clause-out
returns-clause-out c events stands =
    IfOk-weaker c.try_step.result
    (λ out. out ≡ out_at (noted c.args.self.now c.args.e.now) (handing_of (noted c.args.self.now c.args.e.now).sent c.args.e.now))
    (λ out. out ≡ answer_of c.args.self.now.limits (history c.args.self.now.limits.interval events) c.args.e.now)
    (λ out is. answer_looked_back c.args.self.now events c.args.e.now out is stands)
    c.try_step.ensures.out

pub returns-clause-stands : goal.returns-clause-stands
returns-clause-stands c ok =
    Adds-event c.args.self.now c.try_step.new.self c.args.e.now c.try_step.result (c.try_step.ensures.pair ok) c.try_step.ensures.broken ok

pub returns-clause-up : goal.returns-clause-up
returns-clause-up c events side stands ok =
    up_is_carried c.args.self.now.limits (c.args.e.now ∷ events) side
    (accepted_looked_back c.args.self.now events c.args.e.now c.try_step.result c.try_step.ensures.broken ok stands)

pub returns-clause-silent : goal.returns-clause-silent
returns-clause-silent c events stands kept none =
    silent_looked_back c.args.self.now events c.args.e.now c.try_step.result c.try_step.ensures.silent stands kept none
