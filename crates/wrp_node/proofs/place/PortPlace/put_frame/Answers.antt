-- The frame of the message.
use Rattle.std.proofs.Common.{◌∙◌, ap, ◌++◌, ◌∷◌, []}
use Rattle.wrp_node.specs.declared.interface.Output.{Output}
use Rattle.wrp_node.proofs.place.PortPlace.put_frame.Goals as goal

pub returns-clause-items : goal.returns-clause-items
returns-clause-items c = c.push.ensures.items ∙ ap (λ (x : Output). c.args.outs.now.items ++ (x ∷ [])) c.frame.ensures.value
