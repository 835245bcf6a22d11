-- A chain of no messages that was put in because there was none.
use Rattle.std.proofs.Common.{sym}
use Rattle.wrp_pcap.proofs.Table.{none_at, puts_at, put_empty}
use Rattle.wrp_pcap.specs.declared.pairs.Pairs.{Pairs}
use Rattle.wrp_pcap.proofs.pairs.Pairs.open.Goals as goal

pub returns-in_ok-insert-clause-chains : goal.returns-in_ok-insert-clause-chains
returns-in_ok-insert-clause-chains c =
    let m = c.args.master in
    let s = c.args.slave in
    let old = c.args.self.now in
    let new : Pairs = record { chains = c.insert.new.self } in
    put_empty m s c.new.result old new (puts_at m s c.key-key.result c.new.result old new c.key-key.ensures c.in_ok-insert.ensures.updates)
    (none_at m s c.key-key.result old c.key-key.ensures (sym c.if-not-contains_key.ensures)) (c.new.ensures m s)
