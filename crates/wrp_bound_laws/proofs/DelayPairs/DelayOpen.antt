-- A slave's port takes messages in a chain of its node's servo.
use Rattle.std.proofs.Common.{◌≡◌, ◌∙◌, refl, ℕ, List, Some}
use Rattle.wrp_base.specs.declared.link.Role.TheVariants.{Slave}
use Rattle.wrp_network.specs.declared.network.LinkCfg.{LinkCfg}
use Rattle.wrp_link.specs.LinkAt.{LinkAt}
use Rattle.wrp_node.specs.Laws.{StepSettles}
use Rattle.wrp_node.specs.NodeAt.{link_at}
use Rattle.wrp_servo.specs.Laws.{ChainHasSignals}
use Rattle.wrp_course.specs.Run.{Happened, world_after}
use Rattle.wrp_course.specs.Runs.{IsRun}
use Rattle.wrp_course.specs.Setting.{Setting, link_of}
use Rattle.wrp_bound_laws.specs.Leases.{IsCarried}
use Rattle.wrp_bound_laws.specs.Rates.{HasChain}
use Rattle.wrp_bound_laws.specs.SequenceIds.{IsOpenAt}
use Rattle.wrp_bound_laws.proofs.Samples.ChainLinks.{chain_on, on_open}
use Rattle.wrp_bound_laws.proofs.Schedules.OpenPorts.{QuietLaws}

-- the laws that this rests on
pub record OpenLaws : Type 0 where
  pub quiet : QuietLaws
  pub settles : StepSettles
  pub signals : ChainHasSignals

pub chain_open : OpenLaws → (s : Setting) (events : List Happened) (k : ℕ) (link : LinkCfg) → IsRun s events → link_of s k ≡ Some link → IsCarried s k events → HasChain s link.lower events → IsOpenAt s link Slave events
chain_open laws s events k link run is carried chain =
    let l : LinkAt = link_at (s.set link.lower) ((world_after s events).node link.lower) link.lower_port in
    on_open l l.carrier refl (laws.quiet.carriers s events k Slave link run is ∙ carried) (chain_on laws.settles laws.signals s events k link run.network is chain)
