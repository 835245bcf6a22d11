-- The delay law of the link above a node: what it answers, and the range in which it may be asked
-- (this project's profile).
use Rattle.std.specs.Prelude.{ℤ, pos, neg_ℤ, ◌^◌, ◌≡◌, ◌≤ℤ◌, Option, None, Some, is_some, IfSome}
use Rattle.wrp_network.specs.declared.network.LinkCfg.{LinkCfg}
use Rattle.wrp_network.specs.Network.{link_above}
use Rattle.wrp_caldb.specs.Database.{Database, TableAt, table_at}
use Rattle.wrp_law.specs.Law.{LawOf, KeepsFact, floor_at}
use Rattle.wrp_law.specs.Table.{first_x, last_x, table_value}
use Rattle.wrp_node.specs.New.{node_setting_of}
use Rattle.wrp_node.specs.NodeAt.{NodeSetting}
use Rattle.wrp_node.specs.Set.{set_of}
use Rattle.wrp_trace.specs.LineSetting.{LineSetting}

-- the delay down if x is the delay both ways, in tau: the value of the fibre's table if there is
-- one, otherwise the exact fraction (2^39 + kappa) / 2^40 of x, rounded down
abbrev pub down_by : Option TableAt → ℤ → ℤ → ℤ
down_by None kappa x = floor_at kappa x
down_by (Some table) kappa x = table_value table.points x

-- the least x: -2^30, or the x of the table's first point
abbrev pub least_by : Option TableAt → ℤ
least_by None = neg_ℤ (pos (2 ^ 30))
least_by (Some table) = first_x table.points

-- the greatest x: 2^53, or the x of the table's last point
abbrev pub greatest_by : Option TableAt → ℤ
greatest_by None = pos (2 ^ 53)
greatest_by (Some table) = last_x table.points

-- the same for a link, by the database that lists its fibre; no link is asked for nothing
abbrev pub down_over : Database → Option LinkCfg → ℤ → ℤ
down_over db None x = pos 0
down_over db (Some link) x = down_by (table_at db link.fibre.bytes) link.kappa x

abbrev pub least_over : Database → Option LinkCfg → ℤ
least_over db None = pos 0
least_over db (Some link) = least_by (table_at db link.fibre.bytes)

abbrev pub greatest_over : Database → Option LinkCfg → ℤ
greatest_over db None = pos 0
greatest_over db (Some link) = greatest_by (table_at db link.fibre.bytes)

-- the law of the link above a node
abbrev pub law_at : LineSetting → ℤ → ℤ
law_at site x = down_over site.db (link_above site.cfg site.node) x

-- the setting of a node: what it is set to, and the range of that law
abbrev pub node_setting_at : LineSetting → NodeSetting
node_setting_at site = record {
  set = set_of site.cfg site.node;
  lo = least_over site.db (link_above site.cfg site.node);
  hi = greatest_over site.db (link_above site.cfg site.node);
}

-- within the law's range, each answer of a kept closure is this law's answer
pub record AnswersBy {F : Type 0} (post : F → ℤ → ℤ → Type 0) (law : ℤ → ℤ) (kept : LawOf F)
    : Type 0 where
  pub answer : (x y : ℤ) → kept.lo ≤ℤ x → x ≤ℤ kept.hi → post kept.closure x y → y ≡ law x

-- the law that a node is given: there is one if and only if a link is above the node, it keeps its
-- fact, and its range and its answers are those of that link
pub record IsLawAt {F : Type 0} (pre : F → ℤ → Type 0) (post : F → ℤ → ℤ → Type 0) (site : LineSetting)
    (law : Option (LawOf F)) : Type 0 where
  pub some : is_some law ≡ is_some (link_above site.cfg site.node)
  pub fact : IfSome law (KeepsFact pre post)
  pub range : node_setting_of (set_of site.cfg site.node) law ≡ node_setting_at site
  pub answers : IfSome law (AnswersBy post (law_at site))
