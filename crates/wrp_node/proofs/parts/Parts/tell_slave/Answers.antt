-- The chain, the sample, and the refusal.
use Rattle.std.proofs.Common.{◌∙◌, sym}
use Rattle.wrp_node.specs.Parts.{told_only}
use Rattle.wrp_node.specs.Telling.{with_news, with_sample}
use Rattle.wrp_node.proofs.Telling.{to_slave}
use Rattle.wrp_node.proofs.parts.Parts.tell_slave.Goals as goal

pub returns-in-Some : goal.returns-in-Some
returns-in-Some c fixed before s h =
    to_slave fixed before s c.in-Some.slave c.args.number c.args.out.now c.count.new.self (sym h.slave ∙ c.in-Some.is)
    (c.count.ensures fixed before (told_only c.in-Some.slave (with_sample c.args.out.now.unwrapped c.args.number) fixed (told_only c.in-Some.slave (with_news c.args.out.now.chain) fixed s))
    (c.give_sample.ensures fixed before (told_only c.in-Some.slave (with_news c.args.out.now.chain) fixed s)
    (c.give_news.ensures fixed before s h)))
