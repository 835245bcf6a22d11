-- The octets of the message are the octets of the frame, which spell it.
use Rattle.std.proofs.Common.{ℕ, List, subst}
use Rattle.wrp_frame.specs.Grammar.{Spells}
use Rattle.wrp_node.proofs.place.PortPlace.frame.Goals as goal

pub returns-clause-spelled : goal.returns-clause-spelled
returns-clause-spelled c = subst (λ (octets : List ℕ). Spells octets c.args.message.now) c.encode.ensures.octets c.encode.ensures.spelled
