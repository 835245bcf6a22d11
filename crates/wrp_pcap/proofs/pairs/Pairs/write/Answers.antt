-- The chain is written through its entry.
use Rattle.wrp_pcap.proofs.Table.{puts_at, put_written, put_room, room_at}
use Rattle.wrp_pcap.specs.declared.pairs.Pairs.{Pairs}
use Rattle.wrp_pcap.proofs.pairs.Pairs.write.Goals as goal

pub returns-in-Some : goal.returns-in-Some
returns-in-Some c =
    let m = c.args.master in
    let s = c.args.slave in
    let old = c.args.self.now in
    let new : Pairs = record { chains = c.get_mut.follows.lender c.args.chain } in
    let written = c.get_mut.follows.holds c.args.chain in
    let puts = puts_at m s c.key.result c.args.chain old new c.key.ensures (written.3 (room_at m s c.key.result old c.key.ensures c.requires)) in
    record {
      chains = put_written m s c.args.chain old new puts;
      room = put_room m s c.args.chain old new puts;
    }
