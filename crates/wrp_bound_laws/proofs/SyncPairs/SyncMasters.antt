-- A link's master in a chain of the slave's servo, and when it puts out a Sync: its port takes messages.
use Rattle.std.proofs.Common.{◌≡◌, ◌∙◌, refl, sym, subst, ℕ, true, List, [], ◌∷◌, ◌++◌, Some}
use Rattle.wrp_base.specs.declared.link.LinkState.TheVariants.{LinkOn}
use Rattle.wrp_base.specs.declared.link.Role.TheVariants.{Master}
use Rattle.wrp_network.specs.declared.network.LinkCfg.{LinkCfg}
use Rattle.wrp_bounds.specs.Times.{frame_life, shortest_tick}
use Rattle.wrp_handshake_laws.specs.Ends.{BothPorts}
use Rattle.wrp_handshake_laws.specs.Laws.{SlaveOnWithItsMaster}
use Rattle.wrp_link.specs.LinkAt.{LinkAt}
use Rattle.wrp_node.specs.NodeAt.{link_at}
use Rattle.wrp_course.specs.LinkEnds.{ends_at}
use Rattle.wrp_course.specs.Run.{Happened, world_after}
use Rattle.wrp_course.specs.Runs.{IsRun}
use Rattle.wrp_course.specs.SameHandshake.{LinksCanBe}
use Rattle.wrp_course.specs.Setting.{Setting, link_of}
use Rattle.wrp_course.specs.WorldAt.{Sending, WorldAt}
use Rattle.wrp_bound_laws.specs.Leases.{FollowsSource, IsCarried}
use Rattle.wrp_bound_laws.specs.Moments.{AtEach}
use Rattle.wrp_bound_laws.specs.Rates.{HasChain}
use Rattle.wrp_bound_laws.specs.SequenceIds.{IsOpenAt}
use Rattle.wrp_bound_laws.proofs.Samples.ChainLinks.{chain_on, on_open}
use Rattle.wrp_bound_laws.proofs.Samples.ChainSources.{ChainLaws, chain_has_source}
use Rattle.wrp_bound_laws.proofs.Frames.Sendings.{PutOutIn}
use Rattle.wrp_bound_laws.proofs.Runs.Suffixes.{at_newest, run_before}
use Rattle.wrp_bound_laws.proofs.SyncPairs.SyncGiven.{IsSync}
use Rattle.wrp_bound_laws.proofs.Frames.TimedTicks.{SentTimed, sent_timed}

-- the laws that this rests on
pub record MasterLaws : Type 0 where
  pub chains : ChainLaws
  pub links : LinksCanBe
  pub together : SlaveOnWithItsMaster

pub master_open : MasterLaws → (s : Setting) (events : List Happened) (k : ℕ) (link : LinkCfg) → IsRun s events → link_of s k ≡ Some link → HasChain s link.lower events → IsOpenAt s link Master events
master_open laws s events k link run is chain =
    let w : WorldAt = world_after s events in
    let below : (link_at (s.set link.lower) (w.node link.lower) link.lower_port).state ≡ LinkOn = chain_on laws.chains.settles laws.chains.signals s events k link run.network is chain in
    let f : FollowsSource s events k link = chain_has_source laws.chains s events k link run is chain in
    let carried : IsCarried s k events = subst (IsCarried s k) (sym f.splits) (at_newest (IsCarried s k) f.newer f.older f.carried) in
    let m : LinkAt = link_at (s.set link.upper) (w.node link.upper) link.upper_port in
    let lit : m.carrier ≡ true = laws.chains.lease.quiet.carriers s events k Master link run is ∙ carried in
    let ends : BothPorts = ends_at s w k link in
    on_open m m.carrier refl lit (laws.together (frame_life s.cfg) (shortest_tick s.cfg) ends (laws.links s events k link run is) below lit)

pub master_open_each : MasterLaws → (s : Setting) (newer older : List Happened) (k : ℕ) (link : LinkCfg) → IsRun s (newer ++ older) → link_of s k ≡ Some link → AtEach (HasChain s link.lower) newer older → AtEach (IsOpenAt s link Master) newer older
master_open_each laws s [] older k link run is h = master_open laws s older k link run is h
master_open_each laws s (x ∷ newer) older k link run is h =
    (master_open laws s (x ∷ (newer ++ older)) k link run is h.0, master_open_each laws s newer older k link (run_before s x (newer ++ older) run) is h.1)

-- When it puts out a Sync

pub sent_sync : MasterLaws → (s : Setting) (older : List Happened) (k : ℕ) (link : LinkCfg) (x : Sending) → link_of s k ≡ Some link → IsSync x.message.body → PutOutIn s older k Master x → SentTimed s older Master link x
sent_sync laws s older k link x is sync put = sent_timed laws.chains.lease.quiet.links s older k Master link x is sync put
