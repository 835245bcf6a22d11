-- The setting of a network's world, and the delay laws of its links (this project's profile).
use Rattle.std.specs.Prelude.{◌≡◌, ℕ, ℤ, Ok, List}
use Rattle.wrp_network.specs.declared.configuration.NetCfg.{NetCfg}
use Rattle.wrp_network.specs.Network.{link_above}
use Rattle.wrp_caldb.specs.Database.{Database}
use Rattle.wrp_config.specs.declared.network.Network.{Network}
use Rattle.wrp_network_text.specs.Reading.{IsReadingOf}
use Rattle.wrp_node.specs.OneRun.{answers_by}
use Rattle.wrp_node.specs.Set.{set_of}
use Rattle.wrp_trace.specs.LineSetting.{line_setting_in}
use Rattle.wrp_course.specs.Setting.{Setting}
use Rattle.wrp_replay.specs.DownLaw.{law_at, least_over, greatest_over}

-- the setting of a network: each node is set to its part of the network, and its delay law is the law
-- of the link above it
abbrev pub setting_at : NetCfg → Database → Setting
setting_at cfg db = record {
  cfg = cfg;
  db = db;
  set = set_of cfg;
  lo = λ n. least_over db (link_above cfg n);
  hi = λ n. greatest_over db (link_above cfg n);
}

-- the setting of a network
abbrev pub setting_in : Network → Setting
setting_in net = setting_at net.cfg net.db

-- the text describes the network that has this setting
pub record IsSettingOf (text : List ℕ) (s : Setting) : Type 0 where
  pub net : Network
  pub reads : IsReadingOf text (Ok net)
  pub is : s ≡ setting_at net.cfg net.db

-- the laws of the links, by the node below each
abbrev pub laws_in : Setting → ℕ → ℤ → ℤ
laws_in s n = law_at (line_setting_in s n)

-- what these laws answer
abbrev pub answers_in : Setting → ℕ → ℤ → ℤ → Type 0
answers_in s n = answers_by (laws_in s n)
