-- What the port at an end of a link has at its node: its wavelengths, a number of two octets, and its modules.
use Rattle.std.proofs.Common.{◌≡◌, ◌∙◌, refl, ap, sym, subst, ℕ, ◌==◌, ◌≤◌, ◌<◌, ◌^◌, Bool, true, false, cond, List, [], ◌∷◌, length, Option, None, Some, is_some, zero, suc, arith}
use Rattle.std.specs.Prelude.{nat_lt, option_and_then, slice_get, is_none}
use Rattle.std.specs.List.{find, position_or_len}
use Rattle.std.proofs.lemmas.Bool.{ltb-true}
use Rattle.std.proofs.lemmas.List.Folds.{find_at}
use Rattle.wrp_base.specs.declared.link.Module.{Module}
use Rattle.wrp_base.specs.declared.link.Role.{Role}
use Rattle.wrp_base.specs.declared.link.Role.TheVariants.{Master, Slave}
use Rattle.wrp_network.specs.declared.network.LinkCfg.{LinkCfg}
use Rattle.wrp_network.specs.Network.{End}
use Rattle.wrp_base.specs.Link.{other_of}
use Rattle.wrp_caldb.specs.Database.{module_at}
use Rattle.wrp_config.specs.Accepted.{IsAccepted}
use Rattle.wrp_config.specs.Laws.{PortIsOfOneLink}
use Rattle.wrp_config.specs.Names.{pair_at}
use Rattle.wrp_trace.specs.InputAt.{IsListed}
use Rattle.wrp_trace.specs.LineSetting.{LineSetting, has_port, is_grandmaster, module_of, line_setting_in}
use Rattle.wrp_course.specs.declared.place.Place.{Place}
use Rattle.wrp_course.specs.Setting.{Setting, above, end_at, end_of, entry_at, link_of, place_of, sends_nm}
use Rattle.wrp_course.proofs.RunNetwork.{LinkEnd, end_with, link_end, place_end}

pub record PortAt (s : Setting) (k : ℕ) (r : Role) (end : End) : Type 0 where
  pub link : LinkCfg
  pub there : link_of s k ≡ Some link
  pub pair : pair_at s.cfg end.node end.port ≡ Some (sends_nm r link, sends_nm (other_of r) link)
  pub small : end.port < 2 ^ 16

port_by : PortIsOfOneLink → (s : Setting) → IsAccepted s.cfg s.db → (k : ℕ) (r : Role) (link : LinkCfg) → link_of s k ≡ Some link → PortAt s k r (end_of r link)
port_by ports s accepted k Master link there =
    let most : link.upper_port ≤ 18 = (accepted.ranges.links k link there).upper_port.1 in
    record { link = link; there = there; pair = (ports s.cfg s.db k link accepted there).2; small = omega (arith, most) }
port_by ports s accepted k Slave link there =
    let most : link.lower_port ≤ 18 = (accepted.ranges.links k link there).lower_port.1 in
    record { link = link; there = there; pair = (ports s.cfg s.db k link accepted there).3; small = omega (arith, most) }

port_of_end : PortIsOfOneLink → (s : Setting) → IsAccepted s.cfg s.db → (k : ℕ) (r : Role) (end : End) → LinkEnd s k r end → PortAt s k r end
port_of_end ports s accepted k r end at = subst (PortAt s k r) at.end_is (port_by ports s accepted k r at.link at.there)

-- for an end of a link
pub port_at_end : PortIsOfOneLink → (s : Setting) → IsAccepted s.cfg s.db → (k : ℕ) (r : Role) (end : End) → end_at s k r ≡ Some end → PortAt s k r end
port_at_end ports s accepted k r end is = port_of_end ports s accepted k r end (link_end s k r end is)

-- for a port that is at an end of a link
pub port_at_place : PortIsOfOneLink → (s : Setting) → IsAccepted s.cfg s.db → (n p : ℕ) (place : Place) → place_of s n p ≡ Some place → PortAt s place.link place.role (end_with n p)
port_at_place ports s accepted n p place is = port_of_end ports s accepted place.link place.role (end_with n p) (place_end s n p place is)

pub here : (s : Setting) (k : ℕ) (r : Role) (end : End) → PortAt s k r end → has_port (line_setting_in s end.node) end.port ≡ true
here s k r end at = ap is_some at.pair

-- modules
listed_by : (site : LineSetting) (port : ℕ) (name : List ℕ) (entry : Option Module) → module_of site port name ≡ entry → IsListed site port entry
listed_by site port name None is = tt
listed_by site port name (Some values) is = (name, is)

pub listed : (s : Setting) (k : ℕ) (r : Role) (end : End) (name : List ℕ) → PortAt s k r end → IsListed (line_setting_in s end.node) end.port (entry_at s k r name)
listed s k r end name at =
    listed_by (line_setting_in s end.node) end.port name (entry_at s k r name)
    (ap (option_and_then (λ (pair : ℕ × ℕ). module_at s.db name pair.0 pair.1)) at.pair
    ∙ sym (ap (option_and_then (λ (link : LinkCfg). module_at s.db name (sends_nm r link) (sends_nm (other_of r) link))) at.there))

-- A node with a parent is not the grandmaster

stands_there : {A : Type 0} (xs : List A) (n : ℕ) → n < length xs → is_none (slice_get xs n) ≡ false
stands_there [] n below = absurd (omega (arith, below))
stands_there (x ∷ xs) zero below = refl
stands_there (x ∷ xs) (suc n) below = stands_there xs n (omega (arith, below))

found_by : {A : Type 0} (p : A → Bool) (xs : List A) (k : ℕ) (b : Bool) → nat_lt (position_or_len p xs) (length xs) ≡ b → cond b (Some (position_or_len p xs)) None ≡ Some k → is_none (find p xs) ≡ false
found_by p xs k true below is = ap is_none (find_at p xs) ∙ stands_there xs (position_or_len p xs) (ltb-true (position_or_len p xs) (length xs) below)
found_by p xs k false below is = absurd (cc)

pub has_parent : (s : Setting) (n k : ℕ) → above s n ≡ Some k → is_grandmaster (line_setting_in s n) ≡ false
has_parent s n k is = found_by (λ (link : LinkCfg). link.lower == n) s.cfg.links.items k (nat_lt (position_or_len (λ (link : LinkCfg). link.lower == n) s.cfg.links.items) (length s.cfg.links.items)) refl is
