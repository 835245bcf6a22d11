use Rattle.std.proofs.Common.{rules}
use Rattle.wrp_network_text.proofs.OneReading.{one_reading}
use Rattle.wrp_network_text.proofs.reading.NetworkReadNetwork.read.Goals as goal

pub returns-in-Ok-clause-only : goal.returns-in-Ok-clause-only
returns-in-Ok-clause-only c other is =
    one_reading c.args.bytes.now other c.answer_for.result is (search rules)
