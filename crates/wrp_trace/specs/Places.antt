-- A `pass` that is written into a place where its changes remain: which changes it holds, and for which nodes and
-- links something is said (this project's profile).
use Rattle.std.specs.Prelude.{◌≡◌, ◌<◌, ℕ, ℤ, pos, if◌then◌else◌, Bool, true, false, Option, None, Some, unwrap_or, Result, Ok, Err, List, [], ◌∷◌, length, slice_get, slice_set}
use Rattle.std.specs.List.{AllByRecursion}
use Rattle.wrp_network.specs.declared.configuration.NetCfg.{NetCfg}
use Rattle.wrp_base.specs.declared.fault.TraceFault.{TraceFault}
use Rattle.wrp_network.specs.declared.network.LinkCfg.{LinkCfg}
use Rattle.wrp_network.specs.declared.network.NodeCfg.{NodeCfg}
use Rattle.wrp_network.specs.Network.{IsLink, IsNode, node_count}
use Rattle.wrp_config.specs.Names.{node_named, link_named}
use Rattle.wrp_course.specs.declared.event.Event.{Event}
use Rattle.wrp_course.specs.declared.event.Event.TheVariants.{Pass}
use Rattle.wrp_course.specs.EventAt.{link_count}
use Rattle.wrp_fields.specs.Reading.{◌>>=◌}
use Rattle.wrp_trace.specs.Changes.{SaidAt, said_once}
use Rattle.wrp_trace.specs.declared.events.marks.Marks.{Marks}
use Rattle.wrp_trace.specs.declared.events.marks.Named.{Named}
use Rattle.wrp_trace.specs.declared.events.marks.Named.TheVariants.{Node, Link, Nothing}
use Rattle.wrp_trace.specs.declared.events.place.EventPlace.{EventPlace}
use Rattle.wrp_trace.specs.declared.events.place.Part.{Part}
use Rattle.wrp_trace.specs.declared.events.place.Part.TheVariants.{Passing, Ticking, Sampling, Other}

-- For one kind, nodes or links: a mark and a change for each

-- what is said of each: its change if it is marked, otherwise nothing
abbrev pub said_in : {X : Type 0} → List Bool → List X → List (Option X)
said_in [] changes = []
said_in (mark ∷ marks) [] = []
said_in (mark ∷ marks) (x ∷ changes) = (if mark then Some x else None) ∷ said_in marks changes

-- the change of each one that is not marked is this
abbrev pub RestsAt : {X : Type 0} → X → List Bool → List X → Type 0
RestsAt rest [] changes = Unit {0}
RestsAt rest (mark ∷ marks) [] = Unit {0}
RestsAt rest (mark ∷ marks) (x ∷ changes) = (mark ≡ false → x ≡ rest) × RestsAt rest marks changes

-- none is marked
abbrev pub NoneMarked : List Bool → Type 0
NoneMarked marks = AllByRecursion (λ mark. mark ≡ false) marks

-- whether the node or link with this number is marked
abbrev pub is_marked : List Bool → ℕ → Bool
is_marked marks n = unwrap_or (slice_get marks n) false

-- what is said, with one change more; a repeated name is a fault
abbrev pub said_also : {X : Type 0} → ℕ → List (Option X) → ℕ → Option X → Result (List (Option X)) TraceFault
said_also place said n change = do
  x ← said_once place said n change
  Ok (slice_set said n (Some x))

-- what is said after a call that may end in a fault
abbrev pub said_then : {X : Type 0} → Result (Unit {0}) TraceFault → List (Option X) → Result (List (Option X)) TraceFault
said_then (Ok done) said = Ok said
said_then (Err fault) said = Err fault

-- For both kinds

-- what is said by the marks and the changes
abbrev pub said_by : Marks → List ℤ → List (ℤ × ℤ) → SaidAt
said_by marks drifts moves = record {
  drifts = said_in marks.nodes.items drifts;
  moves = said_in marks.links.items moves;
}

-- there is a mark and a change for each node and each link of the network, and what is not marked does not change
pub record Holds (cfg : NetCfg) (marks : Marks) (drifts : List ℤ) (moves : List (ℤ × ℤ)) : Type 0 where
  pub nodes : length marks.nodes.items ≡ node_count cfg
  pub links : length marks.links.items ≡ link_count cfg
  pub clocks : length drifts ≡ node_count cfg
  pub fibres : length moves ≡ link_count cfg
  pub clocks_rest : RestsAt (pos 0) marks.nodes.items drifts
  pub fibres_rest : RestsAt (pos 0, pos 0) marks.links.items moves

-- what a name stands for in a network
abbrev pub StandsFor : NetCfg → List ℕ → Named → Type 0
StandsFor cfg name (Node n) = (n < node_count cfg) × (node_named cfg name ≡ Some n)
StandsFor cfg name (Link l) =
    (l < link_count cfg) × (node_named cfg name ≡ None) × (link_named cfg name ≡ Some l)
StandsFor cfg name Nothing = (node_named cfg name ≡ None) × (link_named cfg name ≡ None)

-- the name of each node stands for that node
abbrev pub FindsNodes : NetCfg → Type 0
FindsNodes cfg = (n : ℕ) (node : NodeCfg) → IsNode cfg n node → StandsFor cfg node.name.bytes (Node n)

-- the name of each link stands for that link
abbrev pub FindsLinks : NetCfg → Type 0
FindsLinks cfg = (l : ℕ) (link : LinkCfg) → IsLink cfg l link → StandsFor cfg link.name.bytes (Link l)

-- both
pub record FindsEach (cfg : NetCfg) : Type 0 where
  pub nodes : FindsNodes cfg
  pub links : FindsLinks cfg

-- The parts of a `pass`

-- how far the clocks move; an event that is no `pass` has no drifts
abbrev pub drifts_in : Event → List ℤ
drifts_in (Pass dt drifts fibres) = drifts.items
drifts_in _ = []

-- how far the fibres' delays move
abbrev pub moves_in : Event → List (ℤ × ℤ)
moves_in (Pass dt drifts fibres) = fibres.items
moves_in _ = []

-- how much true time passes
abbrev pub span_in : Event → ℤ
span_in (Pass dt drifts fibres) = dt
span_in _ = pos 0

-- the event is a `pass`
abbrev pub AsPass : Event → Type 0
AsPass (Pass dt drifts fibres) = Unit {0}
AsPass _ = ⊥

-- only the drifts of an event changed
pub record OnlyDrifts (old new : Event) : Type 0 where
  pub moves : moves_in new ≡ moves_in old
  pub span : span_in new ≡ span_in old
  pub pass : AsPass old → AsPass new

-- only the moves of an event changed
pub record OnlyMoves (old new : Event) : Type 0 where
  pub drifts : drifts_in new ≡ drifts_in old
  pub span : span_in new ≡ span_in old
  pub pass : AsPass old → AsPass new

-- only what marks and an event say of the clocks changed; their number is the same, and a clock that is not
-- marked does not move
pub record AreClocks (old new : Marks) (before after : Event) : Type 0 where
  pub marks : length new.nodes.items ≡ length old.nodes.items
  pub count : length (drifts_in after) ≡ length (drifts_in before)
  pub rest : RestsAt (pos 0) new.nodes.items (drifts_in after)
  pub links : new.links ≡ old.links
  pub apart : new.apart ≡ old.apart
  pub only : OnlyDrifts before after

-- the same for the fibres
pub record AreFibres (old new : Marks) (before after : Event) : Type 0 where
  pub marks : length new.links.items ≡ length old.links.items
  pub count : length (moves_in after) ≡ length (moves_in before)
  pub rest : RestsAt (pos 0, pos 0) new.links.items (moves_in after)
  pub nodes : new.nodes ≡ old.nodes
  pub apart : new.apart ≡ old.apart
  pub only : OnlyMoves before after

-- Places

-- it is a `pass` of this network that says something only where it is marked, and `apart` is set only if a search
-- for each name finds what it names
pub record IsPassing (cfg : NetCfg) (marks : Marks) (e : Event) : Type 0 where
  pub pass : AsPass e
  pub holds : Holds cfg marks (drifts_in e) (moves_in e)
  pub found : marks.apart ≡ true → FindsEach cfg

-- the place is one for the events of this network
abbrev pub IsPlaceOf : NetCfg → EventPlace → Type 0
IsPlaceOf cfg place = IsPassing cfg place.marks place.passing

-- the event in a part of a place
abbrev pub event_at : EventPlace → Part → Event
event_at place Passing = place.passing
event_at place Ticking = place.ticking
event_at place Sampling = place.sampling
event_at place Other = place.other

-- the event that was read last
abbrev pub event_in : EventPlace → Event
event_in place = event_at place place.last
