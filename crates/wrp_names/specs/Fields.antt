-- The fields of a line that name a node or a link of a network (this project's profile).
use Rattle.std.specs.Prelude.{ℕ, Result, List}
use Rattle.wrp_network.specs.declared.configuration.NetCfg.{NetCfg}
use Rattle.wrp_base.specs.declared.fault.TraceFault.{TraceFault}
use Rattle.wrp_config.specs.Names.{node_named, link_named}
use Rattle.wrp_fields.specs.Reading.{field_of, name_or_fault}

-- the node that the field of a place names
abbrev pub node_at : NetCfg → ℕ → List (List ℕ) → Result ℕ TraceFault
node_at cfg place fields = name_or_fault place (node_named cfg (field_of place fields))

-- the link that the field of a place names
abbrev pub link_at : NetCfg → ℕ → List (List ℕ) → Result ℕ TraceFault
link_at cfg place fields = name_or_fault place (link_named cfg (field_of place fields))
