-- A chain that started, or that ended.
use Rattle.std.proofs.Common.{sym, subst}
use Rattle.wrp_base.specs.declared.measurement.ChainNews.{ChainNews}
use Rattle.wrp_base.specs.declared.measurement.ChainNews.TheVariants.{Started, Ended}
use Rattle.wrp_node.specs.Parts.{PartsIn, told_only}
use Rattle.wrp_node.specs.Telling.{with_news}
use Rattle.wrp_node.proofs.Telling.{chain_told, none_told}
use Rattle.wrp_node.proofs.parts.Parts.give_news.Goals as goal

pub returns-in-Same : goal.returns-in-Same
returns-in-Same c fixed before s h =
    subst (λ (news : ChainNews). PartsIn fixed before (told_only c.args.slave (with_news news) fixed s) c.args.self.now) (sym c.in-Same.is)
    (none_told fixed before s c.args.slave c.args.self.now h)

pub returns-in-Started : goal.returns-in-Started
returns-in-Started c fixed before s h =
    subst (λ (news : ChainNews). PartsIn fixed before (told_only c.args.slave (with_news news) fixed s) c.give_chain.new.self) (sym c.in-Started.is)
    (chain_told fixed before s c.args.slave (Started c.in-Started.n) c.give_chain.new.self (c.give_chain.ensures fixed before s h))

pub returns-in-Ended : goal.returns-in-Ended
returns-in-Ended c fixed before s h =
    subst (λ (news : ChainNews). PartsIn fixed before (told_only c.args.slave (with_news news) fixed s) c.give_chain-in-Ended.new.self) (sym c.in-Ended.is)
    (chain_told fixed before s c.args.slave Ended c.give_chain-in-Ended.new.self (c.give_chain-in-Ended.ensures fixed before s h))
