-- The further fields of a `pass`: NODE=DRIFT and LINK=MS/SM, any number of them, each name at most
-- once (this project's profile). The octets 61 and 47 are `=` and `/`.
use Rattle.std.specs.Prelude.{ℕ, ℤ, pos, negsuc, ◌+◌, if◌then◌else◌, is_some, Bool, Option, None, Some, option_map, option_and_then, unwrap_or, Result, Ok, Err, List, [], ◌∷◌, map, slice_get, slice_set}
use Rattle.wrp_network.specs.declared.configuration.NetCfg.{NetCfg}
use Rattle.wrp_base.specs.declared.fault.TraceFault.{TraceFault}
use Rattle.wrp_base.specs.declared.fault.TraceFault.TheVariants.{Name}
use Rattle.wrp_config.specs.Names.{node_named, link_named}
use Rattle.wrp_trace.specs.EventFields.{before, behind}
use Rattle.wrp_fields.specs.Numbers.{number_in}
use Rattle.wrp_fields.specs.Reading.{◌>>=◌, number_or_fault}

-- what a line says so far, with one place for each node and for each link in file order: a node's
-- drift, and how far the delays of a link's fibre move, down and up. None if nothing is said of it
pub record SaidAt : Type 0 where
  pub drifts : List (Option ℤ)
  pub moves : List (Option (ℤ × ℤ))

-- nothing yet
abbrev pub nothing_said : NetCfg → SaidAt
nothing_said cfg = record {
  drifts = map (λ node. None) cfg.nodes.items;
  moves = map (λ link. None) cfg.links.items;
}

-- a change, in tau: within 2^63 - 1
abbrev pub change_in : List ℕ → Option ℤ
change_in text =
    number_in (negsuc 9_223_372_036_854_775_806) (pos 9_223_372_036_854_775_807) text

-- MS/SM
abbrev pub move_in : List ℕ → Option (ℤ × ℤ)
move_in text =
    option_and_then (λ ms. option_map (λ sm. (ms, sm)) (change_in (behind 47 text)))
    (change_in (before 47 text))

-- whether something is said of the node or link with this number
abbrev pub is_said : {X : Type 0} → List (Option X) → ℕ → Bool
is_said said n = is_some (option_and_then (λ o. o) (slice_get said n))

-- the change of the node or link with this number, if nothing is said of it yet; a repeated name is a
-- fault
abbrev pub said_once : {X : Type 0} → ℕ → List (Option X) → ℕ → Option X → Result X TraceFault
said_once place said n change =
    if is_said said n then Err (Name place) else number_or_fault place change

-- the same with this drift of a node
abbrev pub with_drift : SaidAt → ℕ → ℤ → SaidAt
with_drift said n drift = record said { drifts = slice_set said.drifts n (Some drift) }

-- the same with this move of a link's fibre
abbrev pub with_move : SaidAt → ℕ → ℤ × ℤ → SaidAt
with_move said l move = record said { moves = slice_set said.moves l (Some move) }

-- NODE=DRIFT, after the `=`
abbrev pub drift_said : ℕ → SaidAt → ℕ → List ℕ → Result SaidAt TraceFault
drift_said place said n text = do
  drift ← said_once place said.drifts n (change_in text)
  Ok (with_drift said n drift)

-- LINK=MS/SM, after the `=`
abbrev pub move_said : ℕ → SaidAt → ℕ → List ℕ → Result SaidAt TraceFault
move_said place said l text = do
  move ← said_once place said.moves l (move_in text)
  Ok (with_move said l move)

-- the same, for a name that is a node's, a link's or neither
abbrev pub named_said : ℕ → SaidAt → Option ℕ → Option ℕ → List ℕ → Result SaidAt TraceFault
named_said place said (Some n) link text = drift_said place said n text
named_said place said None (Some l) text = move_said place said l text
named_said place said None None text = Err (Name place)

-- a field: its name is the text before the first `=`
abbrev pub change_said : NetCfg → ℕ → SaidAt → List ℕ → Result SaidAt TraceFault
change_said cfg place said text =
    named_said place said (node_named cfg (before 61 text)) (link_named cfg (before 61 text)) (behind 61 text)

-- all these fields, the first of which has this place
abbrev pub changes_said : NetCfg → ℕ → SaidAt → List (List ℕ) → Result SaidAt TraceFault
changes_said cfg place said [] = Ok said
changes_said cfg place said (text ∷ texts) = do
  more ← change_said cfg place said text
  changes_said cfg (place + 1) more texts

-- for how many something is said
abbrev pub count_said : {X : Type 0} → List (Option X) → ℕ
count_said [] = 0
count_said (None ∷ said) = count_said said
count_said (Some x ∷ said) = 1 + count_said said

-- for how many nodes and links something is said
abbrev pub said_count : SaidAt → ℕ
said_count said = count_said said.drifts + count_said said.moves

-- the drifts of all nodes: 0 if nothing is said
abbrev pub all_drifts : SaidAt → List ℤ
all_drifts said = map (λ drift. unwrap_or drift (pos 0)) said.drifts

-- the moves of all fibres: 0 if nothing is said
abbrev pub all_moves : SaidAt → List (ℤ × ℤ)
all_moves said = map (λ move. unwrap_or move (pos 0, pos 0)) said.moves

-- what is said after a call that may end in a fault
abbrev pub outcome : Result (Unit {0}) TraceFault → SaidAt → Result SaidAt TraceFault
outcome (Ok done) said = Ok said
outcome (Err fault) said = Err fault
