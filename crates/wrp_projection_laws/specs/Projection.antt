-- The projection of an audit to a node: the lines of the audit for that node, without the true offset,
-- which a replay does not know (this project's profile).
use Rattle.std.specs.Prelude.{◌≡◌, ◌==◌, ℕ, ℤ, Bool, false, None, Some, List, [], ◌∷◌, ◌++◌, take}
use Rattle.std.specs.List.{filter, flat_map, join_with_byte, slice_split}
use Rattle.wrp_network.specs.declared.configuration.NetCfg.{NetCfg}
use Rattle.wrp_network.specs.Network.{node_count}
use Rattle.wrp_caldb.specs.Name.{same_name}
use Rattle.wrp_config.specs.Names.{node_named}
use Rattle.wrp_lines.specs.Lines.{output_line}
use Rattle.wrp_node.specs.declared.interface.Output.{Output}
use Rattle.wrp_node.specs.NodeAt.{NodeAt}
use Rattle.wrp_trace.specs.LineSetting.{LineSetting}
use Rattle.wrp_course.specs.Setting.{from_on}
use Rattle.wrp_records.specs.Lines.{content_of, lines_of}
use Rattle.wrp_replay.specs.NodeText.{node_counts}
use Rattle.wrp_replay.specs.Replays.{IsNetworkOf}

-- By the octets alone

-- the words of a line, which have a space (octet 32) between them
abbrev pub words_of : List ℕ → List (List ℕ)
words_of line = slice_split (λ octet. octet == 32) (content_of line)

-- whether the first of some words is this name
abbrev pub begins_with : List ℕ → List (List ℕ) → Bool
begins_with name [] = false
begins_with name (word ∷ words) = same_name word name

-- the first five words of a line: only ` true OFF` comes after the fifth
abbrev pub without_truth : List ℕ → List ℕ
without_truth line = join_with_byte 32 (take 5 (words_of line)) ++ 10 ∷ []

-- the lines of an audit that begin with the name of a node, without the true offsets
abbrev pub lines_of_node : List ℕ → List ℕ → List ℕ
lines_of_node name audit =
    flat_map without_truth (filter (λ line. begins_with name (words_of line)) (lines_of audit))

-- By the run

-- what a node put out in a run, at which tick count, and how far its clock then was from true time
pub record PutOut : Type 0 where
  pub node : ℕ
  pub tick : ℕ
  pub off : ℤ
  pub output : Output

-- its line in an audit, in which a track line gives the true offset
abbrev pub audit_line : NetCfg → PutOut → List ℕ
audit_line cfg x = output_line cfg x.node x.tick x.output (Some x.off)

-- the same line without the true offset
abbrev pub replay_line : NetCfg → PutOut → List ℕ
replay_line cfg x = output_line cfg x.node x.tick x.output None

-- what one node put out of all this
abbrev pub of_node : ℕ → List PutOut → List PutOut
of_node n outs = filter (λ x. x.node == n) outs

-- another node of the network
abbrev pub node_of : LineSetting → ℕ → LineSetting
node_of site n = record site { node = n }

-- An audit and a replay are the texts of one run: the audit has the lines of everything that its nodes
-- put out, and then the counters of all nodes that are not 0; the replay has the lines of what this
-- node put out, without the true offset, and then the counters of this node
pub record IsProjection (site : LineSetting) (audit replay : List ℕ) : Type 0 where
  pub outs : List PutOut
  pub last : ℕ → NodeAt
  pub of_all : audit ≡
      flat_map (audit_line site.cfg) outs
      ++ flat_map (λ n. node_counts (node_of site n) (last n)) (from_on (node_count site.cfg) 0)
  pub of_one : replay ≡
      flat_map (replay_line site.cfg) (of_node site.node outs) ++ node_counts site (last site.node)

-- the replay of the node with this name is the projection of the audit, in the network that a text
-- describes: by the run, and by the octets alone
pub record IsProjectionTo (text name audit replay : List ℕ) : Type 0 where
  pub site : LineSetting
  pub network : IsNetworkOf text site
  pub named : node_named site.cfg name ≡ Some site.node
  pub is : IsProjection site audit replay
  pub octets : replay ≡ lines_of_node name audit
