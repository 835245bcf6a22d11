-- If the table has no entry, the chain is the chain of no messages.
use Rattle.wrp_pcap.proofs.Table.{none_found, shown_empty}
use Rattle.wrp_pcap.proofs.pairs.Pairs.chain.Goals as goal

pub returns-in-None : goal.returns-in-None
returns-in-None c =
    let m = c.args.master in
    let s = c.args.slave in
    let pairs = c.args.self.now in
    shown_empty m s c.new.result pairs (none_found m s c.key.result pairs c.key.ensures c.in-None.ensures.value) (c.new.ensures m s)
