-- One more message is sent, and one less is left.
use Rattle.std.proofs.Common.{◌≤◌, length, ap, lit<, arith}
use Rattle.std.proofs.lemmas.List.{length-append}
use Rattle.wrp_base.specs.declared.message.WrMsg.TheVariants.{Present}
use Rattle.wrp_port.specs.Messages.{signals_of}
use Rattle.wrp_port.proofs.Signals.{none_sent, one_sent, all_sent}
use Rattle.wrp_port.proofs.messages.send_signals.Goals as goal

pub loop-message-init : goal.loop-message-init
loop-message-init c = (none_sent c.args.set.now c.args.first c.args.messages.now.items c.args.sends.now.items c.requires, ap length c.requires)

pub push-requires : goal.push-requires
push-requires c = (lit< tt, omega arith)

pub loop-message-preserved : goal.loop-message-preserved
loop-message-preserved c = (
  one_sent c.args.set.now c.loop-message.seq c.loop-message.message-index c.as_slice-message-items.result.now c.args.messages.now.items
      c.loop-message.sends.items c.push.new.self.items (signals_of c.args.set.now c.args.first c.args.messages.now.items) c.signal.result Present
      c.loop-message-test.true c.as_slice-message-items.ensures.value c.push.ensures.items c.signal.ensures c.loop-message.invariant.0,
  omega (arith, simp length-append at (ap length c.push.ensures.items)),
)

pub returns-clause-value : goal.returns-clause-value
returns-clause-value c =
    let past : length c.args.messages.now.items ≤ c.loop-message.message-index = omega (arith, ap length c.as_slice-message-items.ensures.value) in
    all_sent c.args.set.now c.loop-message.seq c.loop-message.message-index c.args.messages.now.items c.loop-message.sends.items
    (signals_of c.args.set.now c.args.first c.args.messages.now.items) past c.loop-message.invariant.0

pub returns-clause-room : goal.returns-clause-room
returns-clause-room c = omega arith
