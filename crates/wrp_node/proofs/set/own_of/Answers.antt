-- domainNumber is read as it is.
use Rattle.std.proofs.Common.{lit<, ap}
use Rattle.wrp_node.specs.Set.{identity_of}
use Rattle.wrp_node.proofs.Ranges.{read_between}
use Rattle.wrp_node.proofs.set.own_of.Goals as goal

pub returns : goal.returns
returns c =
    let net = c.args.net.now in
    cc (read_between 0 255 net.domain c.requires.domain (lit< tt), ap (identity_of net) c.way_up-way.ensures.top)
