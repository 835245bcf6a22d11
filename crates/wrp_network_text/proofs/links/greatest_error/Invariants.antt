use Rattle.std.proofs.Common.{◌≡◌, drop, map, max, fold}
use Rattle.wrp_config.specs.Accepted.{error_at_ends}
use Rattle.wrp_network_text.proofs.links.greatest_error.Given as goal

abbrev pub invariant-loop-listed : goal.invariant-loop-listed
invariant-loop-listed l =
    fold max 0 (map (error_at_ends l.down l.up) l.modules)
    ≡ fold max l.greatest (map (error_at_ends l.down l.up) (drop l.listed-index l.modules))
