-- The measurements of a world that its events made have the answers of the links' laws, and a step keeps the laws.
use Rattle.std.proofs.Common.{◌≡◌, ◌∙◌, refl, ap, sym, subst, ℕ, ℤ, ◌==◌, ◌<◌, suc, Bool, true, false, cond, if◌then◌else◌, List, [], ◌∷◌, map, length, Option, None, Some, IfSome, is_some, option_map, arith}
use Rattle.std.specs.Prelude.{slice_get}
use Rattle.std.specs.List.{find}
use Rattle.std.proofs.lemmas.Option.{slice_get-map}
use Rattle.wrp_network.specs.declared.configuration.NetCfg.{NetCfg}
use Rattle.wrp_network.specs.declared.network.LinkCfg.{LinkCfg}
use Rattle.wrp_network.specs.Network.{IsTree, link_above, node_count}
use Rattle.wrp_base.proofs.Lists.{has_item}
use Rattle.wrp_config.specs.declared.network.Network.{Network}
use Rattle.wrp_law.specs.Law.{LawOf}
use Rattle.wrp_node.specs.Control.{law_in}
use Rattle.wrp_node.specs.NodeAt.{NodeAt, servo_setting_of, slave_in}
use Rattle.wrp_node.specs.NodeRun.{node_after}
use Rattle.wrp_node.specs.NodeStep.{node_step}
use Rattle.wrp_node.specs.Set.{ports_of}
use Rattle.wrp_node.specs.StandsFor.{NodeOf}
use Rattle.wrp_node.proofs.OwnPorts.{slave_is_above}
use Rattle.wrp_servo.specs.Servo.{AllAnswered}
use Rattle.wrp_trace.specs.LineSetting.{line_setting_in}
use Rattle.wrp_course.specs.Given.{Given, given_by, gives, gives_all, step_of, taken_of}
use Rattle.wrp_course.specs.Moved.{moved}
use Rattle.wrp_course.specs.Run.{Happened, IsAnswered, world_after}
use Rattle.wrp_course.specs.Setting.{Setting, node_setting_of}
use Rattle.wrp_world.specs.StandsFor.{StandsFor, WorldOf}
use Rattle.wrp_course.specs.WorldAt.{WorldAt}
use Rattle.wrp_network_world.specs.NetworkSetting.{answers_in, setting_in}
use Rattle.wrp_network_world.specs.LawsFit.{HasLawOf}
use Rattle.wrp_replay.specs.DownLaw.{AnswersBy, law_at}
use Rattle.wrp_replay.proofs.Runs.{no_calls, run_of}

-- Each node of a world is what its inputs made of it

abbrev IsMade : Setting → WorldAt → Type 0
IsMade s w = (n : ℕ) → w.node n ≡ node_after (node_setting_of s n) (w.inputs n)

pub made_given : (s : Setting) (y : ℤ) (v : WorldAt) (g : Given) → IsMade s v → IsMade s (gives s y v g)
made_given s y v g made n = go (n == g.to) refl
  where
    go : (b : Bool) → (n == g.to) ≡ b
        → (if b then (step_of s y v g).node else v.node n) ≡ node_after (node_setting_of s n) (if b then taken_of y g ∷ v.inputs n else v.inputs n)
    go true is =
        let same : g.to ≡ n = grind (arith, is) in
        subst (λ (k : ℕ). (step_of s y v g).node ≡ node_after (node_setting_of s k) (taken_of y g ∷ v.inputs k)) same
        (ap (λ (node : NodeAt). (node_step (node_setting_of s g.to) (taken_of y g) node).node) (made g.to))
    go false is = made n

made_all : (s : Setting) (y : ℤ) (v : WorldAt) (gs : List Given) → IsMade s v → IsMade s (gives_all s y v gs)
made_all s y v [] made = made
made_all s y v (g ∷ gs) made = made_all s y (gives s y v g) gs (made_given s y v g made)

pub made_after : (s : Setting) (events : List Happened) → IsMade s (world_after s events)
made_after s [] = λ n. refl
made_after s (h ∷ before) =
    made_all s h.answer (moved s (world_after s before) h.event) (given_by s (world_after s before) (moved s (world_after s before) h.event) h.says h.event)
    (λ n. made_after s before n)

-- Measurements have the answers of the links' laws

-- what is found is at some place, and is what was looked for
pub record Found {X : Type 0} (p : X → Bool) (xs : List X) (x : X) : Type 0 where
  pub at : ℕ
  pub is : slice_get xs at ≡ Some x
  pub holds : p x ≡ true

pub found_in : {X : Type 0} (p : X → Bool) (xs : List X) (x : X) → find p xs ≡ Some x → Found p xs x
found_in p [] x is = absurd (cc)
found_in p (y ∷ ys) x is =
    elim (p y) as (λ b. p y ≡ b → cond b (Some y) (find p ys) ≡ Some x → Found p (y ∷ ys) x) [
      | true ↦ λ holds here. let same : y ≡ x = cc in record { at = 0; is = here; holds = ap p (sym same) ∙ holds }
      | false ↦ λ lacks there. let rest : Found p ys x = found_in p ys x there in record { at = suc rest.at; is = rest.is; holds = rest.holds }
    ] refl is

pub below_count : (cfg : NetCfg) (n : ℕ) (link : LinkCfg) → IsTree cfg → link_above cfg n ≡ Some link → n < node_count cfg
below_count cfg n link tree is =
    let found : Found (λ (l : LinkCfg). l.lower == n) cfg.links.items link = found_in (λ (l : LinkCfg). l.lower == n) cfg.links.items link is in
    let below = (tree.ends found.at link found.is).1 in
    let same = found.holds in
    grind (arith, below, same)

none_slave : (cfg : NetCfg) (n : ℕ) → link_above cfg n ≡ None → is_some (slave_in (ports_of cfg n)) ≡ false
none_slave cfg n is = ap is_some (slave_is_above cfg n ∙ ap (option_map (λ (l : LinkCfg). l.lower_port)) is)

pub answered : {F : Type 0} {post : F → ℤ → ℤ → Type 0} (net : Network) (w : WorldAt) (world : WorldOf F) → IsTree net.cfg
    → length world.nodes ≡ node_count net.cfg
    → StandsFor post (setting_in net) w world → HasLawOf post (setting_in net) world → IsMade (setting_in net) w
    → IsAnswered (answers_in (setting_in net)) (setting_in net) w
answered {F} {post = post} net w world tree counted stands laws made n = go (link_above net.cfg n) refl
  where
    s : Setting
    s = setting_in net

    go : (above : Option LinkCfg) → link_above net.cfg n ≡ above → AllAnswered (answers_in s n) (servo_setting_of (node_setting_of s n)) (w.node n).calls
    go None is =
        let none : (w.node n).calls ≡ [] =
        ap (λ (node : NodeAt). node.calls) (made n) ∙ no_calls (node_setting_of s n) (w.inputs n) (none_slave net.cfg n is) in
        subst (AllAnswered (answers_in s n) (servo_setting_of (node_setting_of s n))) (sym none) tt
    go (Some link) is =
        let below : n < node_count net.cfg = below_count net.cfg n link tree is in
        let item = has_item world.nodes n (omega (arith, below, counted)) in
        let run =
        run_of {post = post} (law_at (line_setting_in s n)) (node_setting_of s n) item.0 (w.inputs n) (stands.nodes n item.0 item.1).stands
        (laws n item.0 item.1) in
        subst (λ (node : NodeAt). AllAnswered (answers_in s n) (servo_setting_of (node_setting_of s n)) node.calls) (sym (made n)) run.answered

-- A step keeps the laws

law_kept : {F : Type 0} (P : LawOf F → Type 0) (a : NodeOf F) (o : Option (NodeOf F))
    → Some (law_in a.control) ≡ option_map (λ (node : NodeOf F). law_in node.control) o
    → ((b : NodeOf F) → o ≡ Some b → IfSome (law_in b.control) P) → IfSome (law_in a.control) P
law_kept P a None same has = absurd (cc)
law_kept P a (Some b) same has =
    let one : law_in a.control ≡ law_in b.control = cc in
    subst (λ (law : Option (LawOf _)). IfSome law P) (sym one) (has b refl)

pub laws_stay : {F : Type 0} (post : F → ℤ → ℤ → Type 0) (s : Setting) (old new : WorldOf F)
    → map (λ (node : NodeOf F). law_in node.control) new.nodes ≡ map (λ (node : NodeOf F). law_in node.control) old.nodes → HasLawOf post s old
    → HasLawOf post s new
laws_stay {F} post s old new same has n node is =
    let law : NodeOf F → Option (LawOf F) = λ node. law_in node.control in
    law_kept (AnswersBy post (law_at (line_setting_in s n))) node (slice_get old.nodes n)
    (sym (slice_get-map law new.nodes n ∙ ap (option_map law) is) ∙ ap (λ (laws : List (Option (LawOf F))). slice_get laws n) same ∙ slice_get-map law old.nodes n)
    (λ b at. has n b at)
