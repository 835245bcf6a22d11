use Rattle.std.proofs.Common.{Some, refl, ap, ◌∙◌}
use Rattle.wrp_pcap.proofs.content.content_of.Goals as goal

pub returns-in-None : goal.returns-in-None
returns-in-None c = c.in-None.ensures.none.0 refl

pub returns-in-Some-Ok : goal.returns-in-Some-Ok
returns-in-Some-Ok c = (c.message_in.ensures.message c.in-Some-Ok.message).0 (c.in-Some-Ok.is ∙ ap Some c.in-Some-Ok.field-0-is)

pub returns-in-Some-Err : goal.returns-in-Some-Err
returns-in-Some-Err c = (c.message_in.ensures.fault c.in-Some-Err.fault).0 (c.in-Some-Err.is ∙ ap Some c.in-Some-Err.field-0-is)
