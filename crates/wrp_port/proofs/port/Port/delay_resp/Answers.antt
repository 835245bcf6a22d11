-- The four of the calls with this one in front.
use Rattle.std.proofs.Common.{◌≡◌, ◌∙◌, ℕ, ℤ, Bool, is_some, ◌∷◌, rules, arith}
use Rattle.std.proofs.lemmas.Grind.{common_steps}
use Rattle.wrp_exch.specs.Call.{CallResp}
use Rattle.wrp_exch.specs.DelayPair.{answered_pair}
use Rattle.wrp_exch.specs.Exchange.{StandsFor as ExchangeStandsFor}
use Rattle.wrp_port.specs.Wire.{earlier_by}
use Rattle.wrp_port.proofs.port.Port.delay_resp.Goals as goal

pub returns-clause-measured : goal.returns-clause-measured
returns-clause-measured c calls stands =
    let ring : ℕ = c.args.self.now.set.ring in
    let time : ℤ = earlier_by c.args.receive c.args.head.now.correction in
    let pairs : Bool = is_some (answered_pair ring calls c.args.head.now.seq time) in
    let made : c.resp-made.result ≡ pairs = first_of (search rules, grind (arith, common_steps)) in
    let after : ExchangeStandsFor ring c.resp-made.new.self (CallResp c.args.head.now.seq time ∷ calls) = first_of (search rules, grind (arith, common_steps)) in
    c.using.ensures.measured ∙ c.four_where-measured.ensures.value ring (CallResp c.args.head.now.seq time ∷ calls) pairs after made
