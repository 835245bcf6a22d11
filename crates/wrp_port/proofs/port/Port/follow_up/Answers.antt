-- The four of the calls with this one in front.
use Rattle.std.proofs.Common.{◌≡◌, ◌∙◌, ℕ, ℤ, Bool, is_some, ◌∷◌, rules, arith}
use Rattle.std.proofs.lemmas.Grind.{common_steps}
use Rattle.wrp_exch.specs.Call.{CallFollowUp}
use Rattle.wrp_exch.specs.SyncPair.{followed_pair}
use Rattle.wrp_exch.specs.Exchange.{StandsFor as ExchangeStandsFor}
use Rattle.wrp_port.specs.Wire.{later_by}
use Rattle.wrp_port.proofs.port.Port.follow_up.Goals as goal

pub returns-clause-measured : goal.returns-clause-measured
returns-clause-measured c calls stands =
    let ring : ℕ = c.args.self.now.set.ring in
    let time : ℤ = later_by c.args.precise c.args.head.now.correction in
    let pairs : Bool = is_some (followed_pair ring calls c.args.head.now.seq time) in
    let made : c.follow_up-made.result ≡ pairs = first_of (search rules, grind (arith, common_steps)) in
    let after : ExchangeStandsFor ring c.follow_up-made.new.self (CallFollowUp c.args.head.now.seq time ∷ calls) = first_of (search rules, grind (arith, common_steps)) in
    c.using.ensures.measured ∙ c.four_where-measured.ensures.value ring (CallFollowUp c.args.head.now.seq time ∷ calls) pairs after made
