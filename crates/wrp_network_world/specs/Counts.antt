-- What is written at the end of the records over a world: the counters of its nodes that are not 0 (this project's profile).
use Rattle.std.specs.Prelude.{ℕ, List}
use Rattle.std.specs.List.{flat_map}
use Rattle.wrp_trace.specs.LineSetting.{line_setting_in}
use Rattle.wrp_course.specs.Setting.{Setting, nodes_of}
use Rattle.wrp_course.specs.WorldAt.{WorldAt}
use Rattle.wrp_replay.specs.NodeText.{node_counts}

-- the counters of all nodes, by node, port and reason
abbrev pub all_counts : Setting → WorldAt → List ℕ
all_counts s w = flat_map (λ n. node_counts (line_setting_in s n) (w.node n)) (nodes_of s)
