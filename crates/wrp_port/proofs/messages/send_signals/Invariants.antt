-- What is sent so far, with the messages that are left, is what all messages are sent as.
use Rattle.std.proofs.Common.{◌≡◌, ◌++◌, length, drop}
use Rattle.wrp_port.specs.Messages.{signals_of}
use Rattle.wrp_port.proofs.messages.send_signals.Given as goal

abbrev pub invariant-loop-message : goal.invariant-loop-message
invariant-loop-message l =
    (l.sends.items ++ signals_of l.set l.seq (drop l.message-index l.messages.items) ≡ signals_of l.set l.first l.messages.items)
    × (length l.sends.items ≡ l.message-index)
