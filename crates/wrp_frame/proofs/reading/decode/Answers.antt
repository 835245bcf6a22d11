use Rattle.wrp_frame.proofs.Exact.{exactly_spelled, exactly_refused}
use Rattle.std.proofs.Common.{arith}
use Rattle.wrp_frame.proofs.SoundMessages.{spelled_is_sound}
use Rattle.wrp_frame.proofs.reading.decode.Goals as goal

pub returns-clause-spelled : goal.returns-clause-spelled
returns-clause-spelled c message = exactly_spelled _ _ c.read_message.ensures.ok c.read_message.ensures.err message

pub returns-clause-refused : goal.returns-clause-refused
returns-clause-refused c fault = exactly_refused _ _ c.read_message.ensures.ok c.read_message.ensures.err fault

pub returns-clause-sound : goal.returns-clause-sound
returns-clause-sound c = spelled_is_sound _ _ (λ i. omega (arith, c.type_inv.bytes i)) c.read_message.ensures.ok
