-- By what each event makes of a clock, and by what its line says of it.
use Rattle.wrp_printed_laws.proofs.Following.{offsets_follow}
use Rattle.wrp_printed_laws.proofs.offsets_follow.Goals as goal

pub returns : goal.returns
returns c = offsets_follow c.commands_are_held.ensures c.ticks_are_counted.ensures
