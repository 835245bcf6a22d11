-- The port of the swap is one that no earlier swap has.
use Rattle.std.proofs.Common.{◌∙◌, ap}
use Rattle.std.specs.Prelude.{◌==◌}
use Rattle.std.specs.List.{list_any}
use Rattle.wrp_trace.proofs.events.swaps.swap_at.Goals as goal

pub returns-clause-new : goal.returns-clause-new
returns-clause-new c =
    ap (λ port. list_any (λ other. other.port == port) c.args.swaps.now) c.in_ok-swap.ensures.port ∙ c.in_ok-port.ensures.new
