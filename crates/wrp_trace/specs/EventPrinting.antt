-- Event lines, printed: numbers without leading zeros, hex in lower case, and in a `pass` only what is
-- not 0 (this project's profile).
use Rattle.std.specs.Prelude.{ℕ, ℤ, ◌==◌, ◌&&◌, if◌then◌else◌, unsigned_abs, List, [], ◌∷◌, ◌++◌, map, slice_get, codes}
use Rattle.std.specs.Option.{option_map_or}
use Rattle.std.specs.List.{flat_map}
use Rattle.std.specs.Fmt.{decimal, signed_decimal}
use Rattle.hex.specs.Hex.{encode_lower}
use Rattle.wrp_network.specs.declared.configuration.NetCfg.{NetCfg}
use Rattle.wrp_network.specs.declared.network.LinkCfg.{LinkCfg}
use Rattle.wrp_network.specs.declared.network.NodeCfg.{NodeCfg}
use Rattle.wrp_base.specs.declared.time.Raw.{Raw}
use Rattle.wrp_network.specs.Network.{name_at}
use Rattle.wrp_course.specs.declared.event.Event.{Event}
use Rattle.wrp_course.specs.declared.event.Event.TheVariants.{Pass, Tick, Sample, Depart, Arrive, Deliver, Noise, Down, Up, Cut, Join}
use Rattle.wrp_course.specs.declared.event.Swap.{Swap}
use Rattle.wrp_trace.specs.Printing.{bits_text, joined}

-- the name of a link
abbrev pub link_text : NetCfg → ℕ → List ℕ
link_text cfg l = option_map_or (λ link. link.name.bytes) (slice_get cfg.links.items l) []

-- NODE=DRIFT (octet 61 is `=`)
abbrev pub drift_words : NodeCfg → ℤ → List ℕ
drift_words node drift = node.name.bytes ++ 61 ∷ signed_decimal drift

-- the same, if the drift is not 0
abbrev pub drift_text : NodeCfg → ℤ → List (List ℕ)
drift_text node drift =
    if unsigned_abs drift == 0 then [] else drift_words node drift ∷ []

-- the same for each node, in file order
abbrev pub drift_texts : List NodeCfg → List ℤ → List (List ℕ)
drift_texts [] drifts = []
drift_texts (node ∷ nodes) [] = []
drift_texts (node ∷ nodes) (drift ∷ drifts) = drift_text node drift ++ drift_texts nodes drifts

-- LINK=MS/SM (octet 47 is `/`)
abbrev pub move_words : LinkCfg → ℤ × ℤ → List ℕ
move_words link move =
    link.name.bytes ++ 61 ∷ (signed_decimal move.0 ++ 47 ∷ signed_decimal move.1)

-- the same, if the moves are not both 0
abbrev pub move_text : LinkCfg → ℤ × ℤ → List (List ℕ)
move_text link move =
    if (unsigned_abs move.0 == 0) && (unsigned_abs move.1 == 0) then []
    else move_words link move ∷ []

-- the same for each link, in file order
abbrev pub move_texts : List LinkCfg → List (ℤ × ℤ) → List (List ℕ)
move_texts [] moves = []
move_texts (link ∷ links) [] = []
move_texts (link ∷ links) (move ∷ moves) = move_text link move ++ move_texts links moves

-- PORT:MODULE:TX:RX (octet 58 is `:`)
abbrev pub swap_text : Swap → List ℕ
swap_text swap =
    decimal swap.port ++ 58 ∷ (swap.name.bytes ++ 58 ∷ (decimal swap.tx ++ 58 ∷ decimal swap.rx))

-- `pass,DT[,NODE=DRIFT][,LINK=MS/SM]`: nodes first, then links
abbrev pub pass_texts : NetCfg → ℤ → List ℤ → List (ℤ × ℤ) → List (List ℕ)
pass_texts cfg dt drifts moves =
    codes "pass" ∷ signed_decimal dt
    ∷ (drift_texts cfg.nodes.items drifts ++ move_texts cfg.links.items moves)

-- the three fields of a raw stamp
abbrev pub raw_texts : Raw → List (List ℕ)
raw_texts raw = decimal raw.rising ∷ decimal raw.falling ∷ decimal raw.tag ∷ []

-- the fields of an event's line
abbrev pub event_texts : NetCfg → Event → List (List ℕ)
event_texts cfg (Pass dt drifts fibres) = pass_texts cfg dt drifts.items fibres.items
event_texts cfg (Tick node) = codes "tick" ∷ name_at cfg node ∷ []
event_texts cfg (Sample node base bits) =
    codes "sample" ∷ name_at cfg node ∷ decimal base ∷ bits_text bits ∷ []
event_texts cfg (Depart node port stamp) =
    codes "depart" ∷ name_at cfg node ∷ decimal port ∷ signed_decimal stamp ∷ []
event_texts cfg (Arrive frame raw) = codes "arrive" ∷ decimal frame ∷ raw_texts raw
event_texts cfg (Deliver frame) = codes "deliver" ∷ decimal frame ∷ []
event_texts cfg (Noise node port octets raw) =
    codes "noise" ∷ name_at cfg node ∷ decimal port ∷ encode_lower octets.items ∷ raw_texts raw
event_texts cfg (Down node) = codes "down" ∷ name_at cfg node ∷ []
event_texts cfg (Up node off swaps) =
    codes "up" ∷ name_at cfg node ∷ signed_decimal off ∷ map swap_text swaps.items
event_texts cfg (Cut link) = codes "cut" ∷ link_text cfg link ∷ []
event_texts cfg (Join link ms sm) =
    codes "join" ∷ link_text cfg link ∷ signed_decimal ms ∷ signed_decimal sm ∷ []

-- the line of an event
abbrev pub event_text : NetCfg → Event → List ℕ
event_text cfg e = joined (event_texts cfg e)

-- texts, each after a comma (octet 44)
abbrev pub further : List (List ℕ) → List ℕ
further texts = flat_map (λ text. 44 ∷ text) texts

-- a drift, or a move, after a comma; nothing if it is 0
abbrev pub drift_piece : NodeCfg → ℤ → List ℕ
drift_piece node drift = if unsigned_abs drift == 0 then [] else 44 ∷ drift_words node drift

abbrev pub move_piece : LinkCfg → ℤ × ℤ → List ℕ
move_piece link move =
    if (unsigned_abs move.0 == 0) && (unsigned_abs move.1 == 0) then []
    else 44 ∷ move_words link move
