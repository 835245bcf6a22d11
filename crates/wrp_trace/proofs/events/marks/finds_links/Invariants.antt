use Rattle.std.proofs.Common.{ℕ, ◌<◌}
use Rattle.wrp_network.specs.declared.network.LinkCfg.{LinkCfg}
use Rattle.wrp_network.specs.Network.{IsLink}
use Rattle.wrp_trace.specs.declared.events.marks.Named.TheVariants.{Link}
use Rattle.wrp_trace.specs.Places.{StandsFor}
use Rattle.wrp_trace.proofs.events.marks.finds_links.Given as goal

-- the names of the links before stand for them
abbrev pub invariant-loop-at : goal.invariant-loop-at
invariant-loop-at l =
    (k : ℕ) (link : LinkCfg) → k < l.at → IsLink l.cfg k link → StandsFor l.cfg link.name.bytes (Link k)
