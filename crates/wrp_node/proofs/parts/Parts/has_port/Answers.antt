-- A port is found if and only if its number is among them.
use Rattle.std.proofs.Common.{◌≡◌, ◌∙◌, refl, sym, ap, Option, None, Some, is_some}
use Rattle.std.specs.Option.{option_map}
use Rattle.wrp_node.proofs.Finding.{some_is_among}
use Rattle.wrp_node.proofs.parts.Parts.has_port.Goals as goal

some_mapped : {A B : Type 0} (f : A → B) (o : Option A) → is_some (option_map f o) ≡ is_some o
some_mapped f None = refl
some_mapped f (Some x) = refl

pub returns : goal.returns
returns c = c.is_some.ensures ∙ sym (some_mapped (λ place. place.now) c.place.result) ∙ ap is_some c.place.ensures ∙ some_is_among c.args.port c.args.self.now.ports
