-- The checks of fibres hold, if fibres have the scenario's delays and their ends have the first
-- modules.
use Rattle.std.proofs.Common.{◌≡◌, inl, inr, refl, ap, sym, subst, ℕ, ◌+◌, ◌-◌, ◌*◌, ◌^◌, ◌<◌, ◌≤◌, ℤ, pos, ◌+ℤ◌, ◌≤ℤ◌, unsigned_abs, true, List, [], map, Option, None, Some, IfSome, arith}
use Rattle.std.proofs.lemmas.Int.{ints}
use Rattle.std.specs.Option.{option_and_then, option_map_or}
use Rattle.std.proofs.lemmas.Bool.{cases_Bool}
use Rattle.wrp_base.specs.Clock.{steps_of_period}
use Rattle.wrp_network.specs.declared.configuration.NetCfg.{NetCfg}
use Rattle.wrp_base.specs.declared.link.Module.{Module}
use Rattle.wrp_base.specs.declared.link.Role.{Role}
use Rattle.wrp_base.specs.declared.link.Role.TheVariants.{Master, Slave}
use Rattle.wrp_network.specs.declared.network.LinkCfg.{LinkCfg}
use Rattle.wrp_network.specs.Network.{HasLinkRanges}
use Rattle.wrp_base.specs.Link.{other_of}
use Rattle.wrp_bounds.specs.Times.{reach}
use Rattle.wrp_caldb.specs.Database.{module_at}
use Rattle.wrp_course.specs.declared.fibres.FibreState.{FibreState}
use Rattle.wrp_course.specs.Checks.{AllHold, only_where}
use Rattle.wrp_course.specs.Premises.{asymmetry, fibre_checks, fibre_kept}
use Rattle.wrp_stamp.specs.Merge.{transition_of}
use Rattle.wrp_course.specs.Runs.{IsNetwork}
use Rattle.wrp_course.specs.Setting.{Setting, link_of, sends_nm}
use Rattle.wrp_course.specs.WorldAt.{WorldAt, delay_from, first_name}
use Rattle.wrp_plant.proofs.ListedModules.{module_has}
use Rattle.wrp_sim.specs.Rules.{first_entry}
use Rattle.wrp_scene.specs.Scenario.{IsSceneOf, IsSum, SceneAt, fibre_room, kappa_of, ms_of, sm_of, sum_of}
use Rattle.wrp_sim.proofs.KeepsEntries.{module_small}
use Rattle.wrp_sim.proofs.KeepsMoves.{FirstModules, SceneFibres}
use Rattle.wrp_scene.proofs.FibreSplit.{IsSplit, split}
use Rattle.wrp_sim.proofs.KeepsChecks.{listed_at, not_more, not_over, nowhere, where_hold}

-- Numbers of the modules that the file names

or_small : (number : Module → ℕ) (most : ℕ) (o : Option Module) → IfSome o (λ m. number m ≤ most) → option_map_or number o 0 ≤ most
or_small number most None h = omega arith
or_small number most (Some m) h = h

entry_by : (s : Setting) (r : Role) (name : List ℕ) (number : Module → ℕ) (most : ℕ) (o : Option LinkCfg) → ((link : LinkCfg) → IfSome (module_at s.db name (sends_nm r link) (sends_nm (other_of r) link)) (λ m. number m ≤ most)) →
    option_map_or number (option_and_then (λ (link : LinkCfg). module_at s.db name (sends_nm r link) (sends_nm (other_of r) link)) o) 0 ≤ most
entry_by s r name number most None h = omega arith
entry_by s r name number most (Some link) h = or_small number most (module_at s.db name (sends_nm r link) (sends_nm (other_of r) link)) (h link)

pub entry_tx : (s : Setting) → IsNetwork s → (k : ℕ) (r : Role) → option_map_or (λ m. m.tx) (first_entry s k r) 0 ≤ s.cfg.tx_max
entry_tx s net k r =
    entry_by s r (first_name s k r) (λ m. m.tx) s.cfg.tx_max (link_of s k)
    (λ link. module_small s.db (λ m. m.tx) s.cfg.tx_max net.accepted.tx_max (first_name s k r) (sends_nm r link) (sends_nm (other_of r) link))

pub entry_rx : (s : Setting) → IsNetwork s → (k : ℕ) (r : Role) → option_map_or (λ m. m.rx) (first_entry s k r) 0 ≤ s.cfg.rx_max
entry_rx s net k r =
    entry_by s r (first_name s k r) (λ m. m.rx) s.cfg.rx_max (link_of s k)
    (λ link. module_small s.db (λ m. m.rx) s.cfg.rx_max net.accepted.rx_max (first_name s k r) (sends_nm r link) (sends_nm (other_of r) link))

-- Transitions

weaker_tag : (o : Option Module) → IfSome o (λ m. m.transition < steps_of_period) → option_map_or (λ m. m.transition) o 0 ≤ 16_383
weaker_tag None h = omega arith
weaker_tag (Some m) h = omega (arith, h)

tag_by : (s : Setting) (r : Role) (name : List ℕ) (o : Option LinkCfg) → ((link : LinkCfg) → IfSome (module_at s.db name (sends_nm r link) (sends_nm (other_of r) link)) (λ m. m.transition < steps_of_period)) →
    transition_of (option_and_then (λ (link : LinkCfg). module_at s.db name (sends_nm r link) (sends_nm (other_of r) link)) o) ≤ 16_383
tag_by s r name None h = omega arith
tag_by s r name (Some link) h = weaker_tag (module_at s.db name (sends_nm r link) (sends_nm (other_of r) link)) (h link)

pub transition_small : (s : Setting) → IsNetwork s → (k : ℕ) (r : Role) → transition_of (first_entry s k r) ≤ 16_383
transition_small s net k r = tag_by s r (first_name s k r) (link_of s k) (λ link. module_has s.db (first_name s k r) (sends_nm r link) (sends_nm (other_of r) link) net.accepted.database)

-- Fibres with the delays of the scenario

sum_fits : (cfg : NetCfg) (scene : SceneAt) → IsSceneOf cfg scene → (k : ℕ) → IsSum cfg (sum_of scene k)
sum_fits cfg scene h k = let none : IsSum cfg 0 = omega arith in listed_at (IsSum cfg) scene.sums k 0 none h.sum

-- the delays of a link are split by its asymmetry, and each has room
pub fibre_split : (scene : SceneAt) (s : Setting) → IsNetwork s → IsSceneOf s.cfg scene → (k : ℕ) (link : LinkCfg) → link_of s k ≡ Some link →
    IsSplit link.kappa (fibre_room s.cfg) link.e_asym (ms_of s.cfg scene k) (sm_of s.cfg scene k)
fibre_split scene s net fits k link is =
    let ranges : HasLinkRanges link = net.accepted.ranges.links k link is in
    let kappa : kappa_of s.cfg k ≡ link.kappa = ap (λ (o : Option LinkCfg). option_map_or (λ l. l.kappa) o (pos 0)) is in
    subst (λ (x : ℤ). IsSplit x (fibre_room s.cfg) link.e_asym (ms_of s.cfg scene k) (sm_of s.cfg scene k)) kappa
    (split (kappa_of s.cfg k) (sum_of scene k) (fibre_room s.cfg) link.e_asym (subst (λ (x : ℤ). unsigned_abs x ≤ 2 ^ 38) (sym kappa) ranges.kappa) (sum_fits s.cfg scene fits k) ranges.e_asym.0)

way_fits : (tx rx tx_max rx_max e room most : ℕ) (delta : ℤ) → tx ≤ tx_max → rx ≤ rx_max → room ≡ most - (tx_max + rx_max + 2 * e) → tx_max + rx_max + 2 * e ≤ most → delta ≤ℤ pos room →
    ((pos tx +ℤ delta) +ℤ pos rx) ≤ℤ pos most
way_fits tx rx tx_max rx_max e room most delta h k l m n = omega (arith, ints, h, k, l, m, n)

-- the first modules, and the fibre's delay from an end
abbrev delta_from : FibreState → Role → ℤ
delta_from f Master = f.ms
delta_from f Slave = f.sm

delay_by : (s : Setting) → IsNetwork s → (v : WorldAt) (k : ℕ) (r : Role) → FirstModules s v → delta_from (v.fibre k) r ≤ℤ pos (fibre_room s.cfg) → delay_from v k r ≤ℤ pos (reach s.cfg)
delay_by s net v k Master h d =
    way_fits (v.end_at k Master).tx (v.end_at k Slave).rx s.cfg.tx_max s.cfg.rx_max s.cfg.e_db (fibre_room s.cfg) (reach s.cfg) (v.fibre k).ms
    (subst (λ x. x ≤ s.cfg.tx_max) (sym (h k Master).tx) (entry_tx s net k Master)) (subst (λ x. x ≤ s.cfg.rx_max) (sym (h k Slave).rx) (entry_rx s net k Slave)) refl net.accepted.inequalities.port_delays d
delay_by s net v k Slave h d =
    way_fits (v.end_at k Slave).tx (v.end_at k Master).rx s.cfg.tx_max s.cfg.rx_max s.cfg.e_db (fibre_room s.cfg) (reach s.cfg) (v.fibre k).sm
    (subst (λ x. x ≤ s.cfg.tx_max) (sym (h k Slave).tx) (entry_tx s net k Slave)) (subst (λ x. x ≤ s.cfg.rx_max) (sym (h k Master).rx) (entry_rx s net k Master)) refl net.accepted.inequalities.port_delays d

-- what is known of a joined link
pub record Joined (s : Setting) (v : WorldAt) (k : ℕ) (link : LinkCfg) : Type 0 where
  pub split : IsSplit link.kappa (fibre_room s.cfg) link.e_asym (v.fibre k).ms (v.fibre k).sm
  pub delays : (r : Role) → delay_from v k r ≤ℤ pos (reach s.cfg)

delta_most : (s : Setting) (v : WorldAt) (k : ℕ) (link : LinkCfg) → IsSplit link.kappa (fibre_room s.cfg) link.e_asym (v.fibre k).ms (v.fibre k).sm → (r : Role) → delta_from (v.fibre k) r ≤ℤ pos (fibre_room s.cfg)
delta_most s v k link h Master = h.ms_most
delta_most s v k link h Slave = h.sm_most

pub joined_fits : (scene : SceneAt) (s : Setting) → IsNetwork s → IsSceneOf s.cfg scene → (v : WorldAt) → FirstModules s v → SceneFibres scene s v → (k : ℕ) (link : LinkCfg) → link_of s k ≡ Some link → (v.fibre k).joined ≡ true →
    Joined s v k link
joined_fits scene s net fits v first delays k link is joined =
    let both : ((v.fibre k).ms ≡ ms_of s.cfg scene k) × ((v.fibre k).sm ≡ sm_of s.cfg scene k) = delays k joined in
    let here : IsSplit link.kappa (fibre_room s.cfg) link.e_asym (v.fibre k).ms (v.fibre k).sm =
    subst (λ (x : ℤ). IsSplit link.kappa (fibre_room s.cfg) link.e_asym x (v.fibre k).sm) (sym both.0)
    (subst (λ (x : ℤ). IsSplit link.kappa (fibre_room s.cfg) link.e_asym (ms_of s.cfg scene k) x) (sym both.1) (fibre_split scene s net fits k link is)) in
    record { split = here; delays = λ r. delay_by s net v k r first (delta_most s v k link here r) }

joined_hold : (s : Setting) (v : WorldAt) (k : ℕ) (link : LinkCfg) → Joined s v k link → AllHold (fibre_checks s v k link)
joined_hold s v k link h = (
  not_over (pos 0) (v.fibre k).ms h.split.ms_least,
  (
    not_over (pos 0) (v.fibre k).sm h.split.sm_least,
    (
      not_over (delay_from v k Master) (pos (reach s.cfg)) (h.delays Master),
      (
        not_over (delay_from v k Slave) (pos (reach s.cfg)) (h.delays Slave),
        (not_more (unsigned_abs (asymmetry link.kappa (v.fibre k).ms (v.fibre k).sm)) (2 ^ 40 * link.e_asym) h.split.even, tt),
      ),
    ),
  ),
)

fibre_by_link : (s : Setting) (v : WorldAt) (k : ℕ) (o : Option LinkCfg) → ((link : LinkCfg) → o ≡ Some link → Joined s v k link) → AllHold (option_map_or (fibre_checks s v k) o [])
fibre_by_link s v k None h = tt
fibre_by_link s v k (Some link) h = joined_hold s v k link (h link refl)

pub fibre_holds : (scene : SceneAt) (s : Setting) → IsNetwork s → IsSceneOf s.cfg scene → (v : WorldAt) → FirstModules s v → SceneFibres scene s v → (k : ℕ) → AllHold (fibre_kept s v k)
fibre_holds scene s net fits v first delays k = elim (cases_Bool (v.fibre k).joined) [
  | inl joined ↦
      where_hold (v.fibre k).joined (option_map_or (fibre_checks s v k) (link_of s k) [])
      (fibre_by_link s v k (link_of s k) (λ link is. joined_fits scene s net fits v first delays k link is joined))
  | inr cut ↦ subst (λ b. AllHold (map (only_where b) (option_map_or (fibre_checks s v k) (link_of s k) []))) (sym cut) (nowhere (option_map_or (fibre_checks s v k) (link_of s k) []))
]
