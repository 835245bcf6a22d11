-- The rate within which a clock keeps: the grandmaster's is never steered, so the code checks last whether a node is
-- the grandmaster.
use Rattle.std.proofs.Common.{◌≡◌, ◌∙◌, refl, ap, ap₂, sym, subst, ℕ, ℤ, Bool, true, false, not, if◌then◌else◌, Option, None, Some, slice_get}
use Rattle.std.specs.Option.{is_some, option_or}
use Rattle.wrp_network.specs.declared.configuration.NetCfg.{NetCfg}
use Rattle.wrp_base.specs.declared.link.ServoState.{ServoState}
use Rattle.wrp_base.specs.declared.link.ServoState.TheVariants.{Uninit}
use Rattle.wrp_network.specs.declared.network.LinkCfg.{LinkCfg}
use Rattle.wrp_network.specs.declared.network.NodeCfg.{NodeCfg}
use Rattle.wrp_network.specs.Network.{link_above}
use Rattle.wrp_caldb.specs.Database.{Database}
use Rattle.wrp_config.specs.Accepted.{IsAccepted}
use Rattle.wrp_course.specs.Premises.{rate_of}
use Rattle.wrp_course.specs.Runs.{IsNetwork}
use Rattle.wrp_course.specs.Setting.{Setting, node_setting_of}
use Rattle.wrp_course.specs.WorldAt.{WorldAt}
use Rattle.wrp_node.specs.NodeAt.{locked_of, servo_at, slave_of, state_of}
use Rattle.wrp_premises.specs.Tried.{kept_rate, steered_rate}
use Rattle.wrp_premises.proofs.TriedRates.{rate_told}
use Rattle.wrp_bound_laws.proofs.Motion.Moving.{no_slave}
use Rattle.wrp_world.specs.StandsFor.{IsValid, StandsFor, WorldOf}

-- the setting of a world belongs to a network
pub network_in : {F : Type 0} (pre : F → ℤ → Type 0) (post : F → ℤ → ℤ → Type 0) (s : Setting) (w : WorldAt) (world : WorldOf F) → IsValid pre post world → StandsFor post s w world → IsNetwork s
network_in pre post s w world v h = record {
  accepted = subst (λ (cfg : NetCfg). IsAccepted cfg s.db) h.plant.cfg (subst (λ (db : Database). IsAccepted world.plant.net.cfg db) h.plant.db v.plant.accepted);
  set = h.set;
}

or_none : (o : Option ℕ) → option_or o None ≡ o
or_none None = refl
or_none (Some x) = refl

asked_last : (top up : Bool) (o : Option ℕ) → (top ≡ true → o ≡ None) → option_or (if up then o else None) (if top then Some 0 else None) ≡ kept_rate top up o
asked_last false true o h = or_none o
asked_last false false o h = refl
asked_last true true o h = ap (λ (x : Option ℕ). option_or x (Some 0)) (h refl)
asked_last true false o h = refl

-- a node with no link above it is not steered
is_none : (o : Option LinkCfg) → not (is_some o) ≡ true → o ≡ None
is_none None e = refl
is_none (Some link) e = absurd (cc)

top_still : (s : Setting) (w : WorldAt) (n : ℕ) (locked : Bool) (state : ServoState) (node : NodeCfg) → IsNetwork s → locked ≡ locked_of (node_setting_of s n) (w.node n) →
    state ≡ state_of (node_setting_of s n) (w.node n) → not (is_some (link_above s.cfg n)) ≡ true → steered_rate locked state node ≡ None
top_still s w n locked state node net l t top =
    let none : is_some (slave_of (s.set n)) ≡ false = no_slave s net n (is_none (link_above s.cfg n) top) in
    let unlocked : locked ≡ false = l ∙ ap (λ b. if b then (servo_at (node_setting_of s n) (w.node n)).phase.lock.locked else false) none in
    let uninit : state ≡ Uninit = t ∙ ap (λ b. if b then (servo_at (node_setting_of s n) (w.node n)).state else Uninit) none in
    ap₂ (λ a b. steered_rate a b node) unlocked uninit

pub rate_asked : (s : Setting) (w : WorldAt) (n : ℕ) (up locked : Bool) (state : ServoState) (node : NodeCfg) (r : Option ℕ) → IsNetwork s →
    r ≡ option_or (if up then steered_rate locked state node else None) (if not (is_some (link_above s.cfg n)) then Some 0 else None) → up ≡ (w.clock n).up →
    locked ≡ locked_of (node_setting_of s n) (w.node n) → state ≡ state_of (node_setting_of s n) (w.node n) → slice_get s.cfg.nodes.items n ≡ Some node → r ≡ rate_of s w n
rate_asked s w n up locked state node r net e u l t g =
    rate_told s w n (not (is_some (link_above s.cfg n))) up locked state node r
    (e ∙ asked_last (not (is_some (link_above s.cfg n))) up (steered_rate locked state node) (top_still s w n locked state node net l t)) refl u l t g

-- as the code has it
pub or_some : (o rest : Option ℕ) (x : ℕ) → o ≡ Some x → Some x ≡ option_or o rest
or_some o rest x e = sym (ap (λ (k : Option ℕ). option_or k rest) e)

pub or_rest : (o rest r : Option ℕ) → o ≡ None → r ≡ rest → r ≡ option_or o rest
or_rest o rest r e f = f ∙ sym (ap (λ (k : Option ℕ). option_or k rest) e)
