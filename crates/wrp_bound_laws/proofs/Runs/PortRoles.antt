-- The port at an end of a link is set to the role of that end.
use Rattle.std.proofs.Common.{◌≡◌, ◌∙◌, ap, ℕ, Some}
use Rattle.wrp_base.specs.declared.link.Role.{Role}
use Rattle.wrp_base.specs.declared.link.Role.TheVariants.{Master, Slave}
use Rattle.wrp_network.specs.declared.network.LinkCfg.{LinkCfg}
use Rattle.wrp_node.specs.declared.interface.NodeSet.{NodeSet}
use Rattle.wrp_node.specs.NodeAt.{setting_of}
use Rattle.wrp_node.specs.SetLaws.{EndsAreSet}
use Rattle.wrp_port.specs.declared.setting.Setting.{Setting as PortSetting}
use Rattle.wrp_course.specs.Runs.{IsNetwork}
use Rattle.wrp_course.specs.Setting.{Setting, end_of, link_of}

abbrev pub set_at : Setting → Role → LinkCfg → PortSetting
set_at s r link = setting_of (s.set (end_of r link).node) (end_of r link).port

pub role_is : EndsAreSet → (s : Setting) → IsNetwork s → (k : ℕ) (r : Role) (link : LinkCfg) → link_of s k ≡ Some link → (set_at s r link).ds.role ≡ r
role_is ends s net k Master link is =
    ap (λ (x : NodeSet). (setting_of x link.upper_port).ds.role) (net.set link.upper) ∙ ap (λ d. d.role) (ends s.cfg k link net.accepted.ports is).0
role_is ends s net k Slave link is =
    ap (λ (x : NodeSet). (setting_of x link.lower_port).ds.role) (net.set link.lower) ∙ ap (λ d. d.role) (ends s.cfg k link net.accepted.ports is).1
