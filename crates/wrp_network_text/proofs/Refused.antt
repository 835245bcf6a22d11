-- A refusal as an answer.
use Rattle.std.proofs.Common.{◌≡◌, ℕ, Option, None, Some, Ok, Err, refl, inl, inr}
use Rattle.std.specs.List.{find}
use Rattle.toml.specs.Data.{Members}
use Rattle.wrp_network.specs.declared.configuration.NetCfg.{NetCfg}
use Rattle.wrp_base.specs.declared.fault.ConfFault.{ConfFault}
use Rattle.wrp_base.specs.declared.fault.ConfFault.TheVariants.{Fault, Memory}
use Rattle.wrp_bounds.specs.Inequalities.{is_broken, inequalities, answer_of}
use Rattle.wrp_bounds.specs.declared.inequality.Clash.{Clash}
use Rattle.wrp_bounds.specs.declared.inequality.Inequality.{Inequality}
use Rattle.wrp_caldb.specs.Place.{PlaceAt}
use Rattle.wrp_calibration_text.specs.Reading.{IsFaultAt}
use Rattle.wrp_caldb.specs.declared.row.Code.{Code}
use Rattle.wrp_network_text.specs.Config.{IsNetworkOf}
use Rattle.wrp_network_text.specs.Places.{IsRefused, IsTaken}
use Rattle.wrp_network_text.specs.Reading.{IsClashFault, IsNodeFault, IsAnswerOf}
use Rattle.wrp_network_text.specs.Tree as tree
use Rattle.wrp_network_text.specs.declared.tree.TreeFault.{TreeFault}

-- the fault of the code and place that a table is refused for
pub table_answer : (doc : Members) (code : Code) (place : PlaceAt) (fault : ConfFault)
    → IsRefused doc code place → IsFaultAt code place fault → IsAnswerOf doc (Err fault)
table_answer doc code place (Fault number text) refused is = inl (code, place, refused, is.0, is.1)
table_answer doc code place (Memory e) refused is = tt

-- the fault of the node that a network is refused for
pub node_answer : (doc : Members) (cfg : NetCfg) (fault : TreeFault) (n : ℕ) (answer : ConfFault) → IsTaken doc → IsNetworkOf doc cfg
    → tree.IsRefused cfg fault n → IsNodeFault fault n answer → IsAnswerOf doc (Err answer)
node_answer doc cfg fault n (Fault number text) taken of refused is =
    inr (cfg, taken, of, inl (fault, n, refused, is.0, is.1))
node_answer doc cfg fault n (Memory e) taken of refused is = tt

-- the fault of an inequality that is broken
pub clash_answer : (doc : Members) (cfg : NetCfg) (clash : Clash) (fault : ConfFault) → IsTaken doc → IsNetworkOf doc cfg
    → tree.HasNoFault cfg → answer_of (find is_broken (inequalities cfg)) ≡ Err clash → IsClashFault clash fault → IsAnswerOf doc (Err fault)
clash_answer doc cfg clash (Fault number text) taken of none broken is =
    inr (cfg, taken, of, inr (clash, none, broken, is.0, is.1))
clash_answer doc cfg clash (Memory e) taken of none broken is = tt

-- nothing is broken if the answer is that all is kept
pub none_broken : (o : Option Inequality) → Ok tt ≡ answer_of o → o ≡ None
none_broken None e = refl
none_broken (Some i) e = cc e
