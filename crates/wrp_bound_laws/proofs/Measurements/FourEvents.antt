-- The measurement that a node holds was brought in an event of the run, and is held since: it is of all pieces that the
-- port's exchange was given up to then.
use Rattle.std.proofs.Common.{◌≡◌, inl, inr, ◌∙◌, refl, ap, sym, subst, ℕ, ℤ, List, [], ◌∷◌, ◌++◌, Option, None, Some, Result}
use Rattle.std.specs.Option.{option_map_or}
use Rattle.std.proofs.lemmas.Option.{none-some}
use Rattle.wrp_base.specs.declared.message.PtpMsg.{PtpMsg}
use Rattle.wrp_network.specs.declared.network.LinkCfg.{LinkCfg}
use Rattle.wrp_network.specs.Network.{End}
use Rattle.wrp_base.specs.Link.{other_of}
use Rattle.wrp_bounds.specs.declared.numbers.HopNumbers.{HopNumbers}
use Rattle.wrp_exch.specs.Exchange.{four_of}
use Rattle.wrp_frame.specs.declared.fault.FrameFault.{FrameFault}
use Rattle.wrp_node.specs.declared.interface.NodeSet.{NodeSet}
use Rattle.wrp_node.specs.NodeAt.{NodeAt, port_of, servo_at, servo_setting_of, slave_of}
use Rattle.wrp_servo.specs.declared.machine.Measurement.{Measurement}
use Rattle.wrp_course.specs.declared.event.Event.{Event}
use Rattle.wrp_course.specs.declared.event.Event.TheVariants.{Pass, Tick, Sample, Depart, Arrive, Deliver, Noise, Down, Up, Cut, Join}
use Rattle.wrp_bound_laws.proofs.SyncPairs.SyncGiven.{slave_at}
use Rattle.wrp_course.specs.Given.{Given, delivered, delivered_by, delivered_to, gives_all, given_by, taken_of, world_step}
use Rattle.wrp_course.specs.Moved.{moved}
use Rattle.wrp_course.specs.Run.{Happened, world_after}
use Rattle.wrp_course.specs.Runs.{IsNetwork}
use Rattle.wrp_course.specs.Setting.{Setting, end_at, node_setting_of, link_of}
use Rattle.wrp_course.specs.WorldAt.{Arrival, FrameAt, WorldAt}
use Rattle.wrp_bound_laws.specs.Chains.{ChainRuns}
use Rattle.wrp_bound_laws.specs.Exchanges.{IsInChain, exchange_at, ring_below}
use Rattle.wrp_bound_laws.specs.Fours.{IsKept}
use Rattle.wrp_bound_laws.specs.Moments.{AtEach}
use Rattle.wrp_bound_laws.specs.Rates.{HasChain}
use Rattle.wrp_bound_laws.proofs.Measurements.FourCalls.{kept_stands}
use Rattle.wrp_bound_laws.proofs.Measurements.FourInputs.{IsNoFrame, StoodOrNew, other_stood, stood_or_new}
use Rattle.wrp_bound_laws.proofs.Runs.FourParts.{begun}
use Rattle.wrp_bound_laws.proofs.Measurements.FourPorts.{slave_alone}
use Rattle.wrp_bound_laws.proofs.Nodes.FourSteps.{IsOnlySlave}
use Rattle.wrp_bound_laws.proofs.Nodes.Inputs.{GivesTo, node_given, node_kept}

-- The slave port of the node below a link

pub only_below : (s : Setting) → IsNetwork s → (k : ℕ) (link : LinkCfg) → link_of s k ≡ Some link → IsOnlySlave (node_setting_of s link.lower) link.lower_port
only_below s net k link is q role =
    slave_alone s.cfg link.lower link.lower_port q net.accepted.tree (sym (ap (λ (x : NodeSet). slave_of x) (net.set link.lower)) ∙ slave_at s net k link is)
    (sym (ap (λ (x : NodeSet). (port_of x q).role) (net.set link.lower)) ∙ role)

-- An event that gives a node at most one input

abbrev IsFew : List Given → Type 0
IsFew [] = Unit {0}
IsFew (g ∷ []) = Unit {0}
IsFew (g ∷ (h ∷ gs)) = ⊥

few_given : (s : Setting) (y : ℤ) (v : WorldAt) (n p : ℕ) (gs : List Given) → slave_of (s.set n) ≡ Some p → IsOnlySlave (node_setting_of s n) p → IsFew gs → StoodOrNew (node_setting_of s n) p (v.node n) ((gives_all s y v gs).node n)
few_given s y v n p [] slave only few = λ k e. inl e
few_given s y v n p (g ∷ []) slave only few =
    node_given (λ (m : NodeAt). StoodOrNew (node_setting_of s n) p (v.node n) m) s y v g n (λ e. stood_or_new (node_setting_of s n) p (taken_of y g) (v.node n) slave only) (λ k e. inl e)
few_given s y v n p (g ∷ (h ∷ gs)) slave only few = absurd few

few_end : (f : FrameAt) (a : Arrival) (o : Option End) → IsFew (option_map_or (λ end. delivered_to f a end.node end.port) o [])
few_end f a None = tt
few_end f a (Some end) = tt

few_arrived : (s : Setting) (f : FrameAt) (o : Option Arrival) → IsFew (delivered_by s f o)
few_arrived s f None = tt
few_arrived s f (Some a) = few_end f a (end_at s f.link (other_of f.by))

few_delivered : (s : Setting) (o : Option FrameAt) → IsFew (delivered s o)
few_delivered s None = tt
few_delivered s (Some f) = few_arrived s f f.arrival

-- An event that gives it no frame

abbrev GivesNoFrame : Event → Type 0
GivesNoFrame (Deliver i) = ⊥
GivesNoFrame (Noise m p octets raw) = ⊥
GivesNoFrame _ = Unit {0}

no_frame_to : (n : ℕ) (e : Event) → GivesNoFrame e → GivesTo IsNoFrame n e
no_frame_to n (Tick m) h = λ is. tt
no_frame_to n (Sample m base bits) h = λ is number. tt
no_frame_to n (Depart m p stamp) h = λ q seq delay t. tt
no_frame_to n (Deliver i) h = absurd h
no_frame_to n (Noise m p octets raw) h = absurd h
no_frame_to n (Down m) h = λ q. tt
no_frame_to n (Up m off swaps) h = (λ is. tt, λ q own_module. tt)
no_frame_to n (Cut k) h = λ q. tt
no_frame_to n (Join k ms sm) h = λ q own_module. tt
no_frame_to n (Pass dt drifts fibres) h = tt
no_frame_to n (Arrive i raw) h = tt

unframed : (s : Setting) (says : Result PtpMsg FrameFault) (y : ℤ) (w : WorldAt) (e : Event) (n p : ℕ) → GivesNoFrame e → StoodOrNew (node_setting_of s n) p (w.node n) ((world_step s says y w e).node n)
unframed s says y w e n p none k is =
    inl (node_kept (λ (m : NodeAt). (j : Measurement) → (servo_at (node_setting_of s n) m).kept ≡ Some j → (servo_at (node_setting_of s n) (w.node n)).kept ≡ Some j) IsNoFrame s says y w e n
    (λ t m q h. other_stood (node_setting_of s n) (servo_at (node_setting_of s n) (w.node n)).kept t m q h) (no_frame_to n e none) (λ j f. f) k is)

-- Any event

event_new : (s : Setting) (says : Result PtpMsg FrameFault) (y : ℤ) (w : WorldAt) (e : Event) (n p : ℕ) → slave_of (s.set n) ≡ Some p → IsOnlySlave (node_setting_of s n) p → StoodOrNew (node_setting_of s n) p (w.node n) ((world_step s says y w e).node n)
event_new s says y w (Deliver i) n p slave only = few_given s y (moved s w (Deliver i)) n p (delivered s (w.frame i)) slave only (few_delivered s (w.frame i))
event_new s says y w (Noise m q octets raw) n p slave only = few_given s y (moved s w (Noise m q octets raw)) n p (given_by s w (moved s w (Noise m q octets raw)) says (Noise m q octets raw)) slave only tt
event_new s says y w e n p slave only = unframed s says y w e n p tt

-- Over a run

-- the measurement is held since an event, and is of all pieces that were given up to then
pub record KeptFrom (s : Setting) (events : List Happened) (link : LinkCfg) (kept : Measurement) : Type 0 where
  pub since : List Happened
  pub earlier : List Happened
  pub splits : events ≡ since ++ earlier
  pub stands : AtEach (λ (l : List Happened). IsKept s link.lower l kept) since earlier
  pub four : four_of (ring_below s link) (exchange_at s link earlier) ≡ Some kept.four

pub kept_from : (s : Setting) → IsNetwork s → (events : List Happened) (k : ℕ) (link : LinkCfg) (kept : Measurement) → link_of s k ≡ Some link → IsKept s link.lower events kept → KeptFrom s events link kept
kept_from s net [] k link kept is stands = absurd (none-some kept stands)
kept_from s net (h ∷ before) k link kept is stands =
    elim (event_new s h.says h.answer (world_after s before) h.event link.lower link.lower_port (slave_at s net k link is) (only_below s net k link is) kept stands) [
      | inl was ↦
          let it : KeptFrom s before link kept = kept_from s net before k link kept is was in
          record {
            since = h ∷ it.since;
            earlier = it.earlier;
            splits = ap (λ (l : List Happened). h ∷ l) it.splits;
            stands = (subst (λ (l : List Happened). IsKept s link.lower (h ∷ l) kept) it.splits stands, it.stands);
            four = it.four;
          }
      | inr new ↦ record { since = []; earlier = h ∷ before; splits = refl; stands = stands; four = new }
    ]

-- In the chain

each_chain : (s : Setting) (n : ℕ) (kept : Measurement) (since earlier : List Happened) → AtEach (λ (l : List Happened). IsKept s n l kept) since earlier → AtEach (HasChain s n) since earlier
each_chain s n kept [] earlier h = kept_stands (servo_setting_of (node_setting_of s n)) ((world_after s earlier).node n).calls kept h
each_chain s n kept (x ∷ since) earlier h = (kept_stands (servo_setting_of (node_setting_of s n)) ((world_after s (x ∷ (since ++ earlier))).node n).calls kept h.0, each_chain s n kept since earlier h.1)

pub kept_in_chain : (s : Setting) (events : List Happened) (k : ℕ) (link : LinkCfg) (hop : HopNumbers) (chain : ChainRuns s events k link hop) (kept : Measurement) → (it : KeptFrom s events link kept) → IsInChain chain it.since it.earlier
kept_in_chain s events k link hop chain kept it = record {
  splits = it.splits;
  begun =
      begun (HasChain s link.lower) it.since it.earlier chain.newer chain.start chain.before (each_chain s link.lower kept it.since it.earlier it.stands) (sym it.splits ∙ chain.splits) chain.begins;
}
