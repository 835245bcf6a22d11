-- What the reader of a network file answers (this project's profile).
use Rattle.std.specs.Prelude.{◌≡◌, ◌⊎◌, ◌++◌, ◌+◌, ℕ, List, None, Result, Ok, Err, codes, decimal}
use Rattle.std.specs.Fmt.{signed_decimal}
use Rattle.std.specs.List.{find}
use Rattle.toml.specs.Data.{Members}
use Rattle.wrp_network.specs.declared.configuration.NetCfg.{NetCfg}
use Rattle.wrp_base.specs.declared.fault.ConfFault.{ConfFault}
use Rattle.wrp_base.specs.declared.fault.ConfFault.TheVariants.{Fault, Memory}
use Rattle.wrp_bounds.specs.Inequalities.{is_broken, inequalities, answer_of}
use Rattle.wrp_bounds.specs.declared.inequality.Clash.{Clash}
use Rattle.wrp_caldb.specs.Database.{database_of}
use Rattle.wrp_caldb.specs.Place.{PlaceAt, place_text}
use Rattle.wrp_calibration_text.specs.Reading.{IsNoText, IsTextOf}
use Rattle.wrp_caldb.specs.Refusal.{number_of}
use Rattle.wrp_caldb.specs.declared.row.Code.{Code}
use Rattle.wrp_network_text.specs.Config.{IsNetworkOf}
use Rattle.wrp_network_text.specs.Places.{IsRefused, IsTaken}
use Rattle.wrp_network_text.specs.Tree as tree
use Rattle.wrp_network_text.specs.declared.tree.TreeFault.{TreeFault}
use Rattle.wrp_config.specs.declared.network.Network.{Network}

-- codes 2 to 5: the least that a table of the text has, at its first place
abbrev pub IsTableFault : Members → ℕ → List ℕ → Type 0
IsTableFault doc number text = (code : Code) × (place : PlaceAt)
    × IsRefused doc code place × (number ≡ number_of code) × (text ≡ place_text place)

-- codes 7 to 9: the least that a node has, at the first such node
abbrev pub IsTreeFault : NetCfg → ℕ → List ℕ → Type 0
IsTreeFault cfg number text = (fault : TreeFault) × (n : ℕ)
    × tree.IsRefused cfg fault n × (number ≡ tree.number_of fault) × (text ≡ codes "node." ++ decimal (n + 1))

-- an inequality with both its sides
abbrev pub clash_text : Clash → List ℕ
clash_text clash =
    codes "c" ++ decimal clash.number ++ codes ":" ++ signed_decimal clash.left ++ codes ":" ++ signed_decimal clash.right

-- code 10: the first inequality that is broken, if the links make a tree
abbrev pub IsClash : NetCfg → ℕ → List ℕ → Type 0
IsClash cfg number text = (clash : Clash)
    × tree.HasNoFault cfg × (answer_of (find is_broken (inequalities cfg)) ≡ Err clash)
    × (number ≡ 10) × (text ≡ clash_text clash)

-- the fault of a node, or out of memory for its place
abbrev pub IsNodeFault : TreeFault → ℕ → ConfFault → Type 0
IsNodeFault fault n (Fault number place) =
    (number ≡ tree.number_of fault) × (place.bytes ≡ codes "node." ++ decimal (n + 1))
IsNodeFault fault n (Memory e) = Unit {0}

-- the fault of an inequality, or out of memory for its place
abbrev pub IsClashFault : Clash → ConfFault → Type 0
IsClashFault clash (Fault number place) = (number ≡ 10) × (place.bytes ≡ clash_text clash)
IsClashFault clash (Memory e) = Unit {0}

-- codes 7 to 10 are about the network of a text whose tables are taken
abbrev pub IsNetworkFault : Members → ℕ → List ℕ → Type 0
IsNetworkFault doc number text = (cfg : NetCfg)
    × IsTaken doc × IsNetworkOf doc cfg × (IsTreeFault cfg number text ⊎ IsClash cfg number text)

-- the answer for a table; for any table it may be out of memory
abbrev pub IsAnswerOf : Members → Result Network ConfFault → Type 0
IsAnswerOf doc (Ok net) =
    IsTaken doc × IsNetworkOf doc net.cfg × (net.db ≡ database_of doc) × tree.HasNoFault net.cfg
    × (find is_broken (inequalities net.cfg) ≡ None)
IsAnswerOf doc (Err (Fault number place)) =
    IsTableFault doc number place.bytes ⊎ IsNetworkFault doc number place.bytes
IsAnswerOf doc (Err (Memory e)) = Unit {0}

-- the answer for the octets of a file: code 1 at the place `-` if they are no text of TOML, else the answer for its
-- table
abbrev pub IsReadingOf : List ℕ → Result Network ConfFault → Type 0
IsReadingOf octets (Ok net) = (doc : Members) × IsTextOf doc octets × IsAnswerOf doc (Ok net)
IsReadingOf octets (Err (Fault number place)) =
    (IsNoText octets × (number ≡ 1) × (place.bytes ≡ codes "-"))
    ⊎ ((doc : Members) × IsTextOf doc octets × IsAnswerOf doc (Err (Fault number place)))
IsReadingOf octets (Err (Memory e)) = Unit {0}
