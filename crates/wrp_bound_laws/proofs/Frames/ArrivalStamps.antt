-- The stamp of a reception at an end of a link is near its node's reading when the frame arrived.
use Rattle.std.proofs.Common.{◌≡◌, ◌⊎◌, inl, inr, ◌∙◌, refl, ap, sym, subst, ℕ, ◌%◌, ◌<◌, ◌≤◌, ◌==◌, ◌&&◌, pos, ◌-ℤ◌, unsigned_abs, true, List, [], ◌∷◌, ◌++◌, Option, None, Some, option_map, arith}
use Rattle.std.specs.List.{find}
use Rattle.std.specs.Option.{option_map_or, option_or}
use Rattle.std.specs.Prelude.{option_and_then, slice_get}
use Rattle.std.proofs.lemmas.Option.{none-some, same_Some}
use Rattle.wrp_base.specs.declared.link.Module.{Module}
use Rattle.wrp_base.specs.declared.link.Role.{Role}
use Rattle.wrp_network.specs.declared.network.LinkCfg.{LinkCfg}
use Rattle.wrp_network.specs.declared.network.NodeCfg.{NodeCfg}
use Rattle.wrp_base.specs.declared.time.Clock.{Clock}
use Rattle.wrp_base.specs.declared.time.Clock.TheVariants.{Mhz125, Mhz62}
use Rattle.wrp_base.specs.Clock.{steps_of_period}
use Rattle.wrp_base.specs.declared.time.Raw.{Raw}
use Rattle.wrp_network.specs.Network.{End}
use Rattle.wrp_base.specs.Link.{other_of}
use Rattle.wrp_caldb.specs.declared.database.Entry.{Entry}
use Rattle.wrp_caldb.specs.Database.{Database, ModuleAt, delays_at, entry_at as entry_in, module_at}
use Rattle.wrp_caldb.specs.Name.{same_name}
use Rattle.wrp_config.specs.Accepted.{HasDelayRanges, IsSoundDatabase, IsSoundModule}
use Rattle.wrp_node.specs.declared.interface.NodeSet.{NodeSet}
use Rattle.wrp_node.specs.NodeAt.{link_at}
use Rattle.wrp_node.specs.NodeStep.{stamp_of}
use Rattle.wrp_stamp.specs.Merge.{merged, quarter_of, transition_of}
use Rattle.wrp_stamp.specs.StampBound.{KeepsStampBound, MergedWithinTag}
use Rattle.wrp_course.specs.EventAt.{IsRaw}
use Rattle.wrp_course.specs.Laws.{KeepsStamp}
use Rattle.wrp_course.specs.LinkEnds.{in_place}
use Rattle.wrp_course.specs.Run.{Happened, world_after}
use Rattle.wrp_course.specs.RunLaws.{ModulesStay}
use Rattle.wrp_course.specs.Runs.{IsNetwork, IsRun}
use Rattle.wrp_course.specs.SameHandshake.{CarriersAreTheLinks, CarriersWithTheirModules}
use Rattle.wrp_course.specs.Setting.{Setting, end_at, end_of, entry_at, node_setting_of, link_of, of_node, sends_nm}
use Rattle.wrp_course.specs.WorldAt.{FrameAt, WorldAt, reading}
use Rattle.wrp_course.proofs.RunHanded.{other_twice}
use Rattle.wrp_course.proofs.RunGiven.{end_is}
use Rattle.wrp_bound_laws.specs.Leases.{IsCarried}
use Rattle.wrp_bound_laws.specs.Moments.{AtEach}
use Rattle.wrp_bound_laws.proofs.Runs.LinksAbove.{place_found}
use Rattle.wrp_bound_laws.proofs.Runs.Suffixes.{at_newest, run_before}

-- The transition of a listed module

first_or : (o p : Option Module) (x : Module) → option_or o p ≡ Some x → (o ≡ Some x) ⊎ (p ≡ Some x)
first_or (Some y) p x e = inl e
first_or None p x e = inr e

mapped : (o : Option Entry) (x : Module) → option_map (λ (e : Entry). e.delays) o ≡ Some x → (e : Entry) × (o ≡ Some e) × (e.delays ≡ x)
mapped None x e = absurd (none-some x e)
mapped (Some y) x e = (y, refl, same_Some y.delays x e)

entry_ranges : (m : ModuleAt) (tx rx : ℕ) (x : Module) → IsSoundModule m → entry_in tx rx m.entries ≡ Some x → HasDelayRanges x
entry_ranges m tx rx x sound e =
    let it : (e : Entry) × (find (λ e. (e.tx_nm == tx) && (e.rx_nm == rx)) m.entries ≡ Some e) × (e.delays ≡ x) = mapped (find (λ e. (e.tx_nm == tx) && (e.rx_nm == rx)) m.entries) x e in
    let at : _ = place_found (λ (e : Entry). (e.tx_nm == tx) && (e.rx_nm == rx)) m.entries it.0 it.1 in
    subst HasDelayRanges it.2 (sound.entries at.0 it.0 at.1)

delays_ranges : (m : ModuleAt) (tx rx : ℕ) (x : Module) → IsSoundModule m → delays_at m.entries tx rx ≡ Some x → HasDelayRanges x
delays_ranges m tx rx x sound e = elim (first_or (entry_in tx rx m.entries) (entry_in 0 0 m.entries) x e) [
  | inl here ↦ entry_ranges m tx rx x sound here
  | inr any ↦ entry_ranges m 0 0 x sound any
]

in_module : (db : Database) (tx rx : ℕ) (x : Module) (name : List ℕ) (o : Option ModuleAt) → IsSoundDatabase db → find (λ m. same_name m.name name) db.modules ≡ o → option_and_then (λ m. delays_at m.entries tx rx) o ≡ Some x → HasDelayRanges x
in_module db tx rx x name None sound there e = absurd (none-some x e)
in_module db tx rx x name (Some m) sound there e =
    let at : _ = place_found (λ (z : ModuleAt). same_name z.name name) db.modules m there in
    delays_ranges m tx rx x (sound.modules at.0 m at.1) e

in_link : (s : Setting) (r : Role) (name : List ℕ) (x : Module) (o : Option LinkCfg) → IsNetwork s → option_and_then (λ link. module_at s.db name (sends_nm r link) (sends_nm (other_of r) link)) o ≡ Some x → HasDelayRanges x
in_link s r name x None net e = absurd (none-some x e)
in_link s r name x (Some link) net e = in_module s.db (sends_nm r link) (sends_nm (other_of r) link) x name (find (λ m. same_name m.name name) s.db.modules) net.accepted.database refl e

small_rest : (t : ℕ) → t ≤ 16_383 → t % 16_384 ≡ t
small_rest t h = omega (arith, h)

same_transition : (s : Setting) (k : ℕ) (r : Role) (name : List ℕ) (o : Option Module) → IsNetwork s → entry_at s k r name ≡ o → transition_of o % steps_of_period ≡ transition_of o
same_transition s k r name None net e = refl
same_transition s k r name (Some x) net e = small_rest x.transition (in_link s r name x (link_of s k) net e).transition

-- Modules while the carrier is there

pub names_stay : ModulesStay → (s : Setting) (newer older : List Happened) (k : ℕ) (r : Role) → IsRun s (newer ++ older) → AtEach (IsCarried s k) newer older → ((world_after s (newer ++ older)).end_at k r).name ≡ ((world_after s older).end_at k r).name
names_stay stay s [] older k r run carried = refl
names_stay stay s (h ∷ newer) older k r run carried =
    (stay s h (newer ++ older) k r run (at_newest (IsCarried s k) newer older carried.1)).name ∙ names_stay stay s newer older k r (run_before s h (newer ++ older) run) carried.1

-- The stamp

quarter_room : (clock : Clock) (e : ℕ) → e ≤ 65_535_999 → e < quarter_of clock
quarter_room Mhz125 e h = omega (arith, h)
quarter_room Mhz62 e h = omega (arith, h)

no_error : (clock : Clock) → 0 < quarter_of clock
no_error Mhz125 = omega arith
no_error Mhz62 = omega arith

tag_room : (s : Setting) (n : ℕ) (o : Option NodeCfg) → IsNetwork s → slice_get s.cfg.nodes.items n ≡ o → option_map_or (λ (node : NodeCfg). node.e_tag) o 0 < quarter_of s.cfg.clock
tag_room s n None net e = no_error s.cfg.clock
tag_room s n (Some node) net e = quarter_room s.cfg.clock node.e_tag (net.accepted.ranges.nodes n node e).e_tag.1

-- the laws that this rests on
pub record StampLaws : Type 0 where
  pub merged : MergedWithinTag
  pub stays : ModulesStay
  pub carriers : CarriersAreTheLinks
  pub modules : CarriersWithTheirModules

-- an arrival of a frame from the other end at the end of this role
pub record Arrived (s : Setting) (older : List Happened) (k : ℕ) (r : Role) (f : FrameAt) (raw : Raw) : Type 0 where
  pub link_is : f.link ≡ k
  pub by_is : f.by ≡ other_of r
  pub end : End
  pub end_is : end_at s f.link (other_of f.by) ≡ Some end
  pub keeps : KeepsStamp s (world_after s older) f raw end
  pub ranges : IsRaw raw

abbrev KeepsAt : Setting → WorldAt → ℕ → ℕ → Raw → Role → ℕ → Type 0
KeepsAt s w k l raw r n = KeepsStampBound s.cfg.clock raw (transition_of (in_place s w l r)) (of_node (λ node. node.e_tag) s n) (reading w n)

keeps_there : (s : Setting) (older : List Happened) (k : ℕ) (r : Role) (link : LinkCfg) (f : FrameAt) (raw : Raw) → link_of s k ≡ Some link → (it : Arrived s older k r f raw) → KeepsAt s (world_after s older) k k raw r (end_of r link).node
keeps_there s older k r link f raw is it =
    let w : WorldAt = world_after s older in
    let role : other_of f.by ≡ r = ap other_of it.by_is ∙ other_twice r in
    let end : it.end ≡ end_of r link =
    same_Some it.end (end_of r link) (sym it.end_is ∙ ap (λ l. end_at s l (other_of f.by)) it.link_is ∙ ap (end_at s k) role ∙ end_is s k r link is) in
    subst (λ (n : End). KeepsAt s w k k raw r n.node) end
    (subst (λ q. KeepsAt s w k k raw q it.end.node) role
    (subst (λ l. KeepsAt s w k l raw (other_of f.by) it.end.node) it.link_is it.keeps))

some_more : (n : ℕ) → 1 ≤ n → 0 < n
some_more n h = omega (arith, h)

pub stamp_near : StampLaws → (s : Setting) (newer older : List Happened) (k : ℕ) (r : Role) (link : LinkCfg) (f : FrameAt) (raw : Raw) (sample : ℕ) → IsRun s (newer ++ older) → link_of s k ≡ Some link → AtEach (IsCarried s k) newer older → Arrived s older k r f raw →
    unsigned_abs ((stamp_of (node_setting_of s (end_of r link).node) ((world_after s (newer ++ older)).node (end_of r link).node) (end_of r link).port raw sample).value -ℤ reading (world_after s older) (end_of r link).node) ≤ of_node (λ node. node.e_tag) s (end_of r link).node
stamp_near laws s newer older k r link f raw sample run is carried it =
    let end : End = end_of r link in
    let events : List Happened = newer ++ older in
    let w : WorldAt = world_after s events in
    let lit : (link_at (s.set end.node) (w.node end.node) end.port).carrier ≡ true = laws.carriers s events k r link run is ∙ at_newest (IsCarried s k) newer older carried in
    let own : (link_at (s.set end.node) (w.node end.node) end.port).own_module ≡ in_place s w k r = (laws.modules s events k r link run is lit).1 in
    let name : (w.end_at k r).name ≡ ((world_after s older).end_at k r).name = names_stay laws.stays s newer older k r run carried in
    let module_is : (link_at (s.set end.node) (w.node end.node) end.port).own_module ≡ in_place s (world_after s older) k r = own ∙ ap (entry_at s k r) name in
    let transition : transition_of (link_at (s.set end.node) (w.node end.node) end.port).own_module % steps_of_period ≡ transition_of (in_place s (world_after s older) k r) =
    ap (λ (m : Option Module). transition_of m % steps_of_period) module_is ∙ same_transition s k r ((world_after s older).end_at k r).name (in_place s (world_after s older) k r) run.network refl in
    let clock : (s.set end.node).servo.clock ≡ s.cfg.clock = ap (λ (x : NodeSet). x.servo.clock) (run.network.set end.node) in
    let stamp : merged (s.set end.node).servo.clock raw (transition_of (link_at (s.set end.node) (w.node end.node) end.port).own_module % steps_of_period) ≡ merged s.cfg.clock raw (transition_of (in_place s (world_after s older) k r)) =
    ap (λ c. merged c raw (transition_of (link_at (s.set end.node) (w.node end.node) end.port).own_module % steps_of_period)) clock ∙ ap (merged s.cfg.clock raw) transition in
    subst (λ v. unsigned_abs (pos v -ℤ reading (world_after s older) end.node) ≤ of_node (λ node. node.e_tag) s end.node) (sym stamp)
    (laws.merged s.cfg.clock raw (transition_of (in_place s (world_after s older) k r)) (of_node (λ node. node.e_tag) s end.node) (reading (world_after s older) end.node)
    (some_more raw.falling it.ranges.falling.0) (tag_room s end.node (slice_get s.cfg.nodes.items end.node) run.network refl) (keeps_there s older k r link f raw is it))
