-- While a servo has a chain its node's lease is fresh, and so its parent may be followed.
use Rattle.std.proofs.Common.{◌≡◌, ◌∙◌, refl, ap, sym, subst, ℕ, Bool, true, false, if◌then◌else◌, is_some, List, [], ◌∷◌, None, Some}
use Rattle.wrp_node.specs.Laws.{IsSettled, StepSettles}
use Rattle.wrp_node.specs.NodeAt.{NodeSetting, NodeAt, is_fresh_at, is_fresh_in, servo_at, servo_setting_of, slave_of}
use Rattle.wrp_node.specs.NodeRun.{new_node}
use Rattle.wrp_node.specs.NodeStep.{node_step}
use Rattle.wrp_node.specs.Telling.{is_changed}
use Rattle.wrp_servo.specs.Call.{Call, CallLease, run}
use Rattle.wrp_servo.specs.Laws.{ChainHasSignals, TrackHasChain}
use Rattle.wrp_servo.specs.Table.{is_track}
use Rattle.wrp_servo.specs.Told.{lease_told}
use Rattle.wrp_course.specs.declared.event.Event.{Event}
use Rattle.wrp_course.specs.declared.event.Event.TheVariants.{Pass, Tick, Sample, Depart, Arrive, Deliver, Noise, Down, Up, Cut, Join}
use Rattle.wrp_course.specs.Run.{Happened, world_after}
use Rattle.wrp_course.specs.Setting.{Setting, node_setting_of, link_of}
use Rattle.wrp_bound_laws.specs.Leases.{ChainHasSource, FollowsSource, HasSource, TrackHasSource}
use Rattle.wrp_bound_laws.proofs.Nodes.Inputs.{GivesTo, node_kept}
use Rattle.wrp_bound_laws.proofs.Sources.LeaseSources.{LeaseLaws, lease_has_source}
use Rattle.wrp_bound_laws.proofs.Runs.LinksAbove.{above_at, above_is}
use Rattle.wrp_bound_laws.proofs.Sources.Parents.{has_servo, has_slave, with_servo}
use Rattle.wrp_bound_laws.proofs.Runs.Suffixes.{at_newest}

-- What the servo was given of the lease still holds, after every event

abbrev KnowsLease : NodeSetting → NodeAt → Type 0
KnowsLease fixed n = lease_told n.calls ≡ is_fresh_in fixed.set n

pub not_changed : (told fresh : Bool) → is_changed told fresh ≡ false → told ≡ fresh
not_changed true true e = refl
not_changed true false e = cc
not_changed false true e = cc
not_changed false false e = refl

pub none_told : (has changed : Bool) (call : Call) → has ≡ true → (if has then (if changed then Some call else None) else None) ≡ None → changed ≡ false
none_told true true call e f = cc
none_told true false call e f = refl
none_told false changed call e f = absurd (let g : false ≡ true = e in cc)

settled_knows : (fixed : NodeSetting) (n : NodeAt) → is_some (slave_of fixed.set) ≡ true → IsSettled fixed n → KnowsLease fixed n
settled_knows fixed n servo h =
    not_changed (lease_told n.calls) (is_fresh_in fixed.set n)
    (none_told (is_some (slave_of fixed.set)) (is_changed (lease_told n.calls) (is_fresh_in fixed.set n)) (CallLease (is_fresh_in fixed.set n)) servo h.lease)

pub any_to : (n : ℕ) (e : Event) → GivesTo (λ _. Unit {0}) n e
any_to n (Tick m) = λ is. tt
any_to n (Sample m base bits) = λ is number. tt
any_to n (Depart m p stamp) = λ q seq delay t. tt
any_to n (Deliver i) = λ q octets raw sample. tt
any_to n (Noise m p octets raw) = λ sample. tt
any_to n (Down m) = λ q. tt
any_to n (Up m off swaps) = (λ is. tt, λ q own_module. tt)
any_to n (Cut k) = λ q. tt
any_to n (Join k ms sm) = λ q own_module. tt
any_to n (Pass dt drifts fibres) = tt
any_to n (Arrive i raw) = tt

pub knows_lease : StepSettles → (s : Setting) (events : List Happened) (n p : ℕ) → slave_of (s.set n) ≡ Some p → KnowsLease (node_setting_of s n) ((world_after s events).node n)
knows_lease settles s [] n p slave = sym (ap (is_fresh_at (s.set n) new_node) slave)
knows_lease settles s (h ∷ before) n p slave =
    node_kept (KnowsLease (node_setting_of s n)) (λ _. Unit {0}) s h.says h.answer (world_after s before) h.event n
    (λ t m q old. settled_knows (node_setting_of s n) (node_step (node_setting_of s n) t m).node (ap is_some slave) (settles (node_setting_of s n) t m))
    (any_to n h.event) (knows_lease settles s before n p slave)

-- the laws that this rests on
pub record ChainLaws : Type 0 where
  pub lease : LeaseLaws
  pub settles : StepSettles
  pub signals : ChainHasSignals
  pub chain : TrackHasChain

pub chain_has_source : ChainLaws → ChainHasSource
chain_has_source laws s events k link run is chain =
    let n : ℕ = link.lower in
    let node : NodeAt = (world_after s events).node n in
    let slave : slave_of (s.set n) ≡ Some link.lower_port = has_slave s run.network n link (above_is s run.network k link is) in
    lease_has_source laws.lease s events k link run is
    (sym (knows_lease laws.settles s events n link.lower_port slave) ∙ (laws.signals (servo_setting_of (node_setting_of s n)) node.calls chain).lease)

pub track_has_source : ChainLaws → TrackHasSource
track_has_source laws s events n link run above track =
    let node : NodeAt = (world_after s events).node n in
    let at : (k : ℕ) × (link_of s k ≡ Some link) × (link.lower ≡ n) = above_at s n link above in
    let in_track : is_track (servo_at (node_setting_of s n) node).state ≡ true =
    ap is_track (sym (with_servo (node_setting_of s n) node (has_servo s run.network n link above)) ∙ track) in
    let chain : is_some (servo_at (node_setting_of s n) node).first ≡ true = laws.chain (servo_setting_of (node_setting_of s n)) node.calls in_track in
    let f : FollowsSource s events at.0 link =
    chain_has_source laws s events at.0 link run at.1
    (subst (λ i. is_some (servo_at (node_setting_of s i) ((world_after s events).node i)).first ≡ true) (sym at.2) chain) in
    subst (HasSource s link) (sym f.splits) (at_newest (HasSource s link) f.newer f.older f.source)
