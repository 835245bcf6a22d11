-- Each node of a world is what its inputs made of it, and with a chain its lock detector is locked.
use Rattle.std.proofs.Common.{◌≡◌, ◌∙◌, refl, ap, sym, subst, ℕ, ℤ, true, if◌then◌else◌, is_some, List, [], ◌∷◌, inl, inr}
use Rattle.std.proofs.lemmas.Bool.Decides.{eqb_tells}
use Rattle.wrp_node.specs.NodeAt.{NodeAt, Taken, servo_at}
use Rattle.wrp_node.specs.NodeRun.{node_after}
use Rattle.wrp_node.specs.NodeStep.{node_step}
use Rattle.wrp_node.specs.Unbroken.{ChainIsLocked}
use Rattle.wrp_course.specs.Given.{Given, given_by, gives, gives_all, step_of, taken_of}
use Rattle.wrp_course.specs.Moved.{moved}
use Rattle.wrp_course.specs.Run.{Happened, world_after}
use Rattle.wrp_course.specs.Setting.{Setting, node_setting_of}
use Rattle.wrp_course.specs.WorldAt.{WorldAt}

abbrev IsMade : Setting → ℕ → WorldAt → Type 0
IsMade s n w = w.node n ≡ node_after (node_setting_of s n) (w.inputs n)

given_made : (s : Setting) (y : ℤ) (v : WorldAt) (g : Given) (n : ℕ) → IsMade s n v → IsMade s n (gives s y v g)
given_made s y v g n h =
    let t : Taken = taken_of y g in
    elim (eqb_tells n g.to) [
      | inl x ↦
          ap (λ b. if b then (step_of s y v g).node else v.node n) x.0
          ∙ ap (λ i. (node_step (node_setting_of s i) t (v.node i)).node) (sym x.1)
          ∙ ap (λ (m : NodeAt). (node_step (node_setting_of s n) t m).node) h
          ∙ ap (λ b. node_after (node_setting_of s n) (if b then t ∷ v.inputs n else v.inputs n)) (sym x.0)
      | inr x ↦
          ap (λ b. if b then (step_of s y v g).node else v.node n) x.0 ∙ h
          ∙ ap (λ b. node_after (node_setting_of s n) (if b then t ∷ v.inputs n else v.inputs n)) (sym x.0)
    ]

all_made : (s : Setting) (y : ℤ) (gs : List Given) (v : WorldAt) (n : ℕ) → IsMade s n v → IsMade s n (gives_all s y v gs)
all_made s y [] v n h = h
all_made s y (g ∷ gs) v n h = all_made s y gs (gives s y v g) n (given_made s y v g n h)

pub node_is : (s : Setting) (events : List Happened) (n : ℕ) → (world_after s events).node n ≡ node_after (node_setting_of s n) ((world_after s events).inputs n)
node_is s [] n = refl
node_is s (h ∷ before) n =
    let w : WorldAt = world_after s before in
    all_made s h.answer (given_by s w (moved s w h.event) h.says h.event) (moved s w h.event) n (node_is s before n)

pub chain_locked : ChainIsLocked → (s : Setting) (events : List Happened) (n : ℕ) → is_some (servo_at (node_setting_of s n) ((world_after s events).node n)).first ≡ true →
    (servo_at (node_setting_of s n) ((world_after s events).node n)).phase.lock.locked ≡ true
chain_locked law s events n chain =
    let is : (world_after s events).node n ≡ node_after (node_setting_of s n) ((world_after s events).inputs n) = node_is s events n in
    subst (λ (m : NodeAt). (servo_at (node_setting_of s n) m).phase.lock.locked ≡ true) (sym is)
    (law (node_setting_of s n) ((world_after s events).inputs n) (subst (λ (m : NodeAt). is_some (servo_at (node_setting_of s n) m).first ≡ true) is chain))
