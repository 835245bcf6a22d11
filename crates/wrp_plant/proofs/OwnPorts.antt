-- The node and the port at an end of a link.
use Rattle.std.proofs.Common.{◌≡◌, ◌∙◌, ap, sym, subst, ℕ, ◌<◌, true, slice_get, Some, option_map}
use Rattle.wrp_network.specs.declared.configuration.NetCfg.{NetCfg}
use Rattle.wrp_base.specs.declared.link.Role.{Role}
use Rattle.wrp_base.specs.declared.link.Role.TheVariants.{Master, Slave}
use Rattle.wrp_network.specs.declared.network.LinkCfg.{LinkCfg}
use Rattle.wrp_network.specs.Network.{End}
use Rattle.wrp_plant.specs.declared.plant.Plant.{Plant}
use Rattle.wrp_course.specs.Setting.{has_port, Setting, end_at, end_of}
use Rattle.wrp_plant.specs.Plant.{PlantIs}
use Rattle.wrp_course.specs.WorldAt.{WorldAt}
use Rattle.wrp_course.proofs.PortNumbers.{has_end}

abbrev unpair : ℕ × ℕ → End
unpair p = record { node = p.0; port = p.1 }

pub own_told : (s : Setting) (w : WorldAt) (plant : Plant) (k : ℕ) (r : Role) (link : LinkCfg) (p : ℕ × ℕ) → PlantIs s w plant →
    slice_get plant.net.cfg.links.items k ≡ Some link → p ≡ ((end_of r link).node, (end_of r link).port) → end_at s k r ≡ Some (record { node = p.0; port = p.1 })
own_told s w plant k r link p h e f =
    ap (λ (cfg : NetCfg). option_map (end_of r) (slice_get cfg.links.items k)) (sym h.cfg)
    ∙ ap (option_map (end_of r)) e ∙ ap (λ (q : ℕ × ℕ). Some (unpair q)) (sym f)

pub own_within : (r : Role) (link : LinkCfg) (n : ℕ) (p : ℕ × ℕ) → link.upper < n → link.lower < n → p ≡ ((end_of r link).node, (end_of r link).port) → p.0 < n
own_within Master link n p up low f = subst (λ (q : ℕ × ℕ). q.0 < n) (sym f) up
own_within Slave link n p up low f = subst (λ (q : ℕ × ℕ). q.0 < n) (sym f) low

pub own_port : (cfg : NetCfg) (k : ℕ) (r : Role) (link : LinkCfg) (p : ℕ × ℕ) → slice_get cfg.links.items k ≡ Some link →
    p ≡ ((end_of r link).node, (end_of r link).port) → has_port cfg p.0 p.1 ≡ true
own_port cfg k r link p e f = subst (λ (q : ℕ × ℕ). has_port cfg q.0 q.1 ≡ true) (sym f) (has_end cfg k link r e)
