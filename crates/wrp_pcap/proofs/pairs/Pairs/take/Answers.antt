-- The verdict is the expected one, and what is kept stands for one more message.
use Rattle.std.proofs.Common.{◌∙◌, refl}
use Rattle.wrp_pcap.proofs.Standing.{told_is, stands_for_more}
use Rattle.wrp_pcap.proofs.pairs.Pairs.take.Goals as goal

pub returns-clause-verdict : goal.returns-clause-verdict
returns-clause-verdict c before stands =
    c.told-told.ensures ∙ told_is c.args.self.now before c.args.m.now.head.source c.args.n c.args.m.now.body stands

pub returns-clause-adds : goal.returns-clause-adds
returns-clause-adds c before stands above ok =
    stands_for_more c.args.self.now _ before (record { number = c.args.n; message = c.args.m.now }) (c.in_ok-keep.ensures.ok refl) stands above
