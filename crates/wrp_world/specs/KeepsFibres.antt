-- What a world knows of the fibres of its plant, so that it need not look at them if none changes (this project's profile).
use Rattle.std.specs.Prelude.{◌≡◌, ℕ, Some}
use Rattle.wrp_network.specs.declared.network.LinkCfg.{LinkCfg}
use Rattle.wrp_course.specs.Checks.{AllHold}
use Rattle.wrp_course.specs.Premises.{fibre_kept}
use Rattle.wrp_course.specs.Setting.{Setting, link_of}
use Rattle.wrp_course.specs.WorldAt.{WorldAt}
use Rattle.wrp_plant.specs.declared.plant.Plant.{Plant}
use Rattle.wrp_plant.specs.Plant.{PlantIs}

-- each link's fibre keeps its premise, in each state that the plant stands for
abbrev pub KeepsFibres : Plant → Type 0
KeepsFibres plant =
    (s : Setting) (w : WorldAt) → PlantIs s w plant → (k : ℕ) (link : LinkCfg) → link_of s k ≡ Some link → AllHold (fibre_kept s w k)
