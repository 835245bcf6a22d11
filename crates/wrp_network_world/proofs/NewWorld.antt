-- A world before its first event, with laws that fit its network, stands for the world of the network's setting
-- before any event, and has the links' laws.
use Rattle.std.proofs.Common.{◌≡◌, ◌∙◌, refl, ap, sym, subst, ℕ, ℤ, ◌<◌, List, length, Option, None, Some, IfSome, arith}
use Rattle.std.specs.Prelude.{slice_get, option_and_then}
use Rattle.wrp_network.specs.declared.network.LinkCfg.{LinkCfg}
use Rattle.wrp_network.specs.Network.{IsTree, link_above, node_count}
use Rattle.wrp_base.proofs.Lists.{has_item}
use Rattle.wrp_config.specs.declared.network.Network.{Network}
use Rattle.wrp_law.specs.Law.{LawOf}
use Rattle.wrp_node.specs.Control.{law_in}
use Rattle.wrp_node.specs.New.{high_of, low_of}
use Rattle.wrp_node.specs.NodeAt.{NodeSetting}
use Rattle.wrp_node.specs.Set.{set_of}
use Rattle.wrp_plant.proofs.EachLists.{at_place}
use Rattle.wrp_world.specs.HasLaws.{HasLaws}
use Rattle.wrp_world.specs.New.{law_at, setting_of}
use Rattle.wrp_world.specs.StandsFor.{StandsFor, WorldOf}
use Rattle.wrp_course.specs.WorldAt.{new_world}
use Rattle.wrp_trace.specs.LineSetting.{line_setting_in}
use Rattle.wrp_network_world.specs.NetworkSetting.{setting_in}
use Rattle.wrp_replay.specs.DownLaw.{AnswersBy, greatest_over, least_over}
use Rattle.wrp_replay.specs.DownLaw as down
use Rattle.wrp_network_world.specs.LawsFit.{LawsFit, HasLawOf}
use Rattle.wrp_network_world.proofs.WorldRuns.{below_count}

-- The range of each law

-- a place after all laws has no link above
none_above : {F : Type 0} (net : Network) (laws : List (Option (LawOf F))) (n : ℕ) → IsTree net.cfg → length laws ≡ node_count net.cfg → slice_get laws n ≡ None
    → link_above net.cfg n ≡ None
none_above net laws n tree counted none = go (link_above net.cfg n) refl
  where
    go : (o : Option LinkCfg) → link_above net.cfg n ≡ o → link_above net.cfg n ≡ None
    go None is = is
    go (Some link) is =
        let below = below_count net.cfg n link tree is in
        let item = has_item laws n (omega (arith, below, counted)) in
        let both : None ≡ Some item.0 = sym none ∙ item.1 in
        absurd (cc)

low_is : {F : Type 0} {pre : F → ℤ → Type 0} {post : F → ℤ → ℤ → Type 0} (net : Network) (laws : List (Option (LawOf F))) → LawsFit pre post net laws
    → IsTree net.cfg → (n : ℕ)
    → low_of (law_at laws n) ≡ least_over net.db (link_above net.cfg n)
low_is {F} {pre} {post} net laws fit tree n = go (slice_get laws n) refl
  where
    go : (o : Option (Option (LawOf F))) → slice_get laws n ≡ o
        → low_of (option_and_then (λ law. law) (slice_get laws n)) ≡ least_over net.db (link_above net.cfg n)
    go None is = rw is (sym (ap (least_over net.db) (none_above net laws n tree fit.count is)))
    go (Some law) is = rw is (ap (λ (f : NodeSetting). f.lo) (fit.each n law is).is.range)

high_is : {F : Type 0} {pre : F → ℤ → Type 0} {post : F → ℤ → ℤ → Type 0} (net : Network) (laws : List (Option (LawOf F))) → LawsFit pre post net laws
    → IsTree net.cfg → (n : ℕ)
    → high_of (law_at laws n) ≡ greatest_over net.db (link_above net.cfg n)
high_is {F} {pre} {post} net laws fit tree n = go (slice_get laws n) refl
  where
    go : (o : Option (Option (LawOf F))) → slice_get laws n ≡ o
        → high_of (option_and_then (λ law. law) (slice_get laws n)) ≡ greatest_over net.db (link_above net.cfg n)
    go None is = rw is (sym (ap (greatest_over net.db) (none_above net laws n tree fit.count is)))
    go (Some law) is = rw is (ap (λ (f : NodeSetting). f.hi) (fit.each n law is).is.range)

pub setting_is : {F : Type 0} {pre : F → ℤ → Type 0} {post : F → ℤ → ℤ → Type 0} (net : Network) (laws : List (Option (LawOf F))) → LawsFit pre post net laws
    → IsTree net.cfg → setting_of net.cfg net.db laws ≡ setting_in net
setting_is {pre = pre} {post = post} net laws fit tree = λ i. record {
  cfg = net.cfg;
  db = net.db;
  set = set_of net.cfg;
  lo = λ n. low_is {pre = pre} {post = post} net laws fit tree n i;
  hi = λ n. high_is {pre = pre} {post = post} net laws fit tree n i;
}

-- a world before its first event stands for the world of the network's setting before any event
pub new_stands : {F : Type 0} {pre : F → ℤ → Type 0} {post : F → ℤ → ℤ → Type 0} (net : Network) (laws : List (Option (LawOf F))) (world : WorldOf F)
    → LawsFit pre post net laws → IsTree net.cfg
    → StandsFor post (setting_of net.cfg net.db laws) (new_world (setting_of net.cfg net.db laws)) world
    → StandsFor post (setting_in net) (new_world (setting_in net)) world
new_stands {pre = pre} {post = post} net laws world fit tree stands =
    subst (λ s. StandsFor post s (new_world s) world) (setting_is {pre = pre} {post = post} net laws fit tree) stands

-- The laws of the nodes

pub laws_are : {F : Type 0} {pre : F → ℤ → Type 0} {post : F → ℤ → ℤ → Type 0} (net : Network) (laws : List (Option (LawOf F))) (world : WorldOf F)
    → LawsFit pre post net laws → HasLaws laws world
    → length world.nodes ≡ node_count net.cfg → HasLawOf post (setting_in net) world
laws_are {F} {post = post} net laws world fit has counted n node is =
    let within : n < length world.nodes = at_place world.nodes n node is in
    let counts = fit.count in
    let item = has_item laws n (omega (arith, within, counted, counts)) in
    let law : law_in node.control ≡ item.0 = has n node is ∙ ap (option_and_then (λ law. law)) item.1 in
    subst (λ (o : Option (LawOf F)). IfSome o (AnswersBy post (down.law_at (line_setting_in (setting_in net) n)))) (sym law)
    (fit.each n item.0 item.1).is.answers
