-- What each hop of a run keeps, with no state shown for a node that is down: so the bounds of its nodes that are up.
use Rattle.std.proofs.Common.{◌≡◌, inl, inr, ◌∙◌, ℤ, pos, ◌-ℤ◌, refl, ap, sym, subst, ℕ, zero, suc, ◌+◌, ◌<◌, ◌≤◌, unsigned_abs, Bool, true, false, if◌then◌else◌, is_some, List, [], ◌∷◌, ◌++◌, length, Option, None, Some, option_map, arith}
use Rattle.std.proofs.lemmas.Int.{ints}
use Rattle.std.specs.Option.{option_map_or}
use Rattle.std.specs.Prelude.{slice_get}
use Rattle.wrp_base.specs.declared.link.ServoState.{ServoState}
use Rattle.wrp_base.specs.declared.link.ServoState.TheVariants.{Uninit, Track, Holdover}
use Rattle.wrp_network.specs.declared.network.LinkCfg.{LinkCfg}
use Rattle.wrp_network.specs.declared.network.NodeCfg.{NodeCfg}
use Rattle.wrp_network.specs.Network.{link_above, node_count}
use Rattle.wrp_base.specs.Closeness.{IsWithin}
use Rattle.wrp_bounds.specs.Bounds.{held_by, held_motion, hop_of, holdover_of, numbers_of, path_of}
use Rattle.wrp_bounds.specs.Hop.{hop_bound}
use Rattle.wrp_bounds.specs.Motion.{motion}
use Rattle.wrp_bounds.specs.Times.{held_time}
use Rattle.wrp_bounds.specs.declared.numbers.HopNumbers.{HopNumbers}
use Rattle.wrp_node.specs.declared.interface.NodeSet.{NodeSet}
use Rattle.wrp_node.specs.NodeAt.{servo_at, slave_of, state_of}
use Rattle.wrp_node.proofs.OwnPorts.{slave_is_above}
use Rattle.wrp_servo.specs.Laws.{TrackHasChain}
use Rattle.wrp_servo.specs.Sampling.{is_holdover}
use Rattle.wrp_tracking_laws.specs.History.{IsSlow, Was}
use Rattle.wrp_tracking_laws.specs.Tree.{HeldWithin, HopsHold, IsBounded, IsSource, Offsets, TreeSum}
use Rattle.wrp_tracking_laws.proofs.Histories.{slow_between}
use Rattle.wrp_course.specs.Run.{Happened, world_after, worlds_of}
use Rattle.wrp_course.specs.Runs.{IsNetwork, IsRun}
use Rattle.wrp_course.specs.Setting.{Setting, node_setting_of, link_of, of_node}
use Rattle.wrp_course.specs.WorldAt.{WorldAt}
use Rattle.wrp_bound_laws.specs.Bounds.{OffsetsKeepBounds, TrueRun}
use Rattle.wrp_bound_laws.specs.Hops.{FollowsWithin, SiblingsAgree, TracksAddUp, TracksFollow, hops_on}
use Rattle.wrp_bound_laws.specs.Holdovers.{HeldSince, HoldoverIsFromTrack, HoldoverIsShort, IsHeld, LeavesTrack}
use Rattle.wrp_bound_laws.specs.Leases.{ChainHasSource, FollowsSource, HasSource, IsCarried}
use Rattle.wrp_bound_laws.specs.Rates.{TopIsTrue}
use Rattle.wrp_bound_laws.specs.Views.{offsets_at}
use Rattle.wrp_bound_laws.proofs.Samples.BoundRuns.{at_oldest, shorter, true_before, true_older, was_world}
use Rattle.wrp_bound_laws.proofs.Hops.HeldRuns.{core_at}
use Rattle.wrp_bound_laws.proofs.Sources.LeaseSources.{both_nodes}
use Rattle.wrp_bound_laws.proofs.Runs.LinksAbove.{above_at}
use Rattle.wrp_bound_laws.proofs.Runs.Suffixes.{at_newest}
use Rattle.wrp_bound_laws.proofs.Hops.TrackedHops.{TrackLaws, has_hop, node_at, track_chain, track_core, tracked_hop, new_state}

-- the laws of the nodes in TRACK
pub record FollowLaws : Type 0 where
  pub track : TrackLaws
  pub source : ChainHasSource
  pub top : TopIsTrue

-- the laws that this rests on
pub record HopLaws : Type 0 where
  pub follow : FollowLaws
  pub short : HoldoverIsShort
  pub leaves : HoldoverIsFromTrack
  pub tree : TreeSum
  pub held : HeldWithin

-- What the nodes show

-- the offset of each node, and the state of its servo if it is up: a node that is down keeps the state in which it
-- stopped
abbrev pub offsets_up : Setting → WorldAt → Offsets
offsets_up s w = record { off = λ n. (w.clock n).off; state = λ n. if (w.clock n).up then state_of (node_setting_of s n) (w.node n) else Uninit }

state_up : (s : Setting) (w : WorldAt) (n : ℕ) → (w.clock n).up ≡ true → (offsets_up s w).state n ≡ state_of (node_setting_of s n) (w.node n)
state_up s w n up = ap (λ b. if b then state_of (node_setting_of s n) (w.node n) else Uninit) up

shown : (b : Bool) (state other : ServoState) → (if b then state else Uninit) ≡ other → (Uninit ≡ other → ⊥) → (b ≡ true) × (state ≡ other)
shown true state other e h = (refl, e)
shown false state other e h = absurd (h e)

not_held : Uninit ≡ Holdover → ⊥
not_held e = let f : false ≡ true = ap is_holdover e in cc

-- the grandmaster shows none
pub top_state : (s : Setting) → IsNetwork s → (w : WorldAt) (n : ℕ) → link_above s.cfg n ≡ None → state_of (node_setting_of s n) (w.node n) ≡ Uninit
top_state s net w n above =
    let none : slave_of (s.set n) ≡ None = ap (λ (x : NodeSet). slave_of x) (net.set n) ∙ slave_is_above s.cfg n ∙ ap (option_map (λ (l : LinkCfg). l.lower_port)) above in
    ap (λ (o : Option ℕ). if is_some o then (servo_at (node_setting_of s n) (w.node n)).state else Uninit) none

-- A node in TRACK

-- its link has its carrier, and its parent may be followed
record IsBelow (s : Setting) (events : List Happened) (link : LinkCfg) : Type 0 where
  parent : ((world_after s events).clock link.upper).up ≡ true
  own : ((world_after s events).clock link.lower).up ≡ true
  source : HasSource s link events

below_source : ChainHasSource → TrackHasChain → (s : Setting) (events : List Happened) (k : ℕ) (link : LinkCfg) → IsRun s events → link_of s k ≡ Some link → (core_at s events link.lower).state ≡ Track → IsBelow s events link
below_source source chain s events k link run is e =
    let f : FollowsSource s events k link = source s events k link run is (track_chain chain s events link.lower e) in
    let up : _ = both_nodes s (world_after s events) k link is (subst (IsCarried s k) (sym f.splits) (at_newest (IsCarried s k) f.newer f.older f.carried)) in
    record { parent = up.0; own = up.1; source = subst (HasSource s link) (sym f.splits) (at_newest (HasSource s link) f.newer f.older f.source) }

-- so it is up
pub track_up : ChainHasSource → TrackHasChain → (s : Setting) (events : List Happened) (n : ℕ) (link : LinkCfg) → IsRun s events → link_above s.cfg n ≡ Some link → state_of (node_setting_of s n) ((world_after s events).node n) ≡ Track → ((world_after s events).clock n).up ≡ true
track_up source chain s events n link run above e =
    let at : (k : ℕ) × (link_of s k ≡ Some link) × (link.lower ≡ n) = above_at s n link above in
    subst (λ i. (core_at s events i).state ≡ Track → ((world_after s events).clock i).up ≡ true) at.2
    (λ t. (below_source source chain s events at.0 link run at.1 t).own) (track_core s events n link run.network above e)

source_up : (s : Setting) (w : WorldAt) (n : ℕ) → (w.clock n).up ≡ true → IsSource s.cfg (offsets_at s w) n → IsSource s.cfg (offsets_up s w) n
source_up s w n up (inl top) = inl top
source_up s w n up (inr (inl track)) = inr (inl (state_up s w n up ∙ track))
source_up s w n up (inr (inr held)) = inr (inr (state_up s w n up ∙ held))

-- its bound is the bound of the hop
hop_is : (s : Setting) (n : ℕ) (hop : HopNumbers) → numbers_of s.cfg n ≡ Some hop → hop_of s.cfg n ≡ hop_bound hop
hop_is s n hop is = ap (λ (o : Option HopNumbers). option_map_or hop_bound o 0) is

-- so it is within its hop of its parent
lower_tracks : FollowLaws → (s : Setting) (events : List Happened) (k : ℕ) (link : LinkCfg) → TrueRun s events → link_of s k ≡ Some link → link_above s.cfg link.lower ≡ Some link → (core_at s events link.lower).state ≡ Track → FollowsWithin s events link.lower link
lower_tracks laws s events k link runs is above e =
    let w : WorldAt = world_after s events in
    let n : ℕ = link.lower in
    let it : IsBelow s events link = below_source laws.source laws.track.chain s events k link runs.run is e in
    let hop : (hop : HopNumbers) × (numbers_of s.cfg n ≡ Some hop) = has_hop s runs.run.network n link above in
    record {
      hop = subst (λ h. IsWithin h (w.clock n).off (w.clock link.upper).off) (sym (hop_is s n hop.0 hop.1)) (tracked_hop laws.track s events k link hop.0 runs is hop.1 e);
      up = it.parent;
      source = it.source;
    }

-- the same by the link above a node
node_tracks : FollowLaws → (s : Setting) (events : List Happened) (n : ℕ) (link : LinkCfg) → TrueRun s events → link_above s.cfg n ≡ Some link → state_of (node_setting_of s n) ((world_after s events).node n) ≡ Track → FollowsWithin s events n link
node_tracks laws s events n link runs above e =
    let at : (k : ℕ) × (link_of s k ≡ Some link) × (link.lower ≡ n) = above_at s n link above in
    subst (λ i. link_above s.cfg i ≡ Some link → (core_at s events i).state ≡ Track → FollowsWithin s events i link) at.2
    (λ a t. lower_tracks laws s events at.0 link runs at.1 a t) above (track_core s events n link runs.run.network above e)

-- A node in HOLDOVER

motion_is : (s : Setting) (n : ℕ) (link : LinkCfg) (node : NodeCfg) → link_above s.cfg n ≡ Some link → slice_get s.cfg.nodes.items n ≡ Some node → held_motion s.cfg n ≡ motion (of_node (λ node. node.held) s n) (held_time s.cfg)
unfolding held_motion
motion_is s n link node above is =
    ap (λ (o : Option LinkCfg). held_by s.cfg o (slice_get s.cfg.nodes.items n)) above ∙ ap (held_by s.cfg (Some link)) is
    ∙ sym (ap (λ (o : Option NodeCfg). motion (option_map_or (λ (x : NodeCfg). x.held) o 0) (held_time s.cfg)) is)

pub inside_below : (s : Setting) → IsNetwork s → (n : ℕ) (link : LinkCfg) → link_above s.cfg n ≡ Some link → n < node_count s.cfg
inside_below s net n link above =
    let at : (k : ℕ) × (link_of s k ≡ Some link) × (link.lower ≡ n) = above_at s n link above in
    subst (λ i. i < node_count s.cfg) at.2 (net.accepted.tree.ends at.0 link at.1).1

-- from where it was when it entered HOLDOVER
held_from : HopLaws → (s : Setting) (events : List Happened) (n : ℕ) (link : LinkCfg) → IsNetwork s → link_above s.cfg n ≡ Some link → (since : HeldSince s n events) → unsigned_abs ((world_after s (since.entry ∷ since.before)).clock n).off ≤ path_of s.cfg n →
    unsigned_abs ((world_after s events).clock n).off ≤ holdover_of s.cfg n
held_from laws s events n link net above since within =
    let rate : ℕ = of_node (λ node. node.held) s n in
    let entered : WorldAt = world_after s (since.entry ∷ since.before) in
    let now : WorldAt = world_after s events in
    let inside : n < node_count s.cfg = inside_below s net n link above in
    let node : (node : NodeCfg) × (slice_get s.cfg.nodes.items n ≡ Some node) = node_at s.cfg.nodes.items n inside in
    let slow : IsSlow (λ (w : WorldAt). w.time) rate (λ (w : WorldAt). (w.clock n).off) entered now =
    slow_between (λ (w : WorldAt). w.time) rate (λ (w : WorldAt). (w.clock n).off) (length (since.entry ∷ since.before)) (length events) entered now (worlds_of s events)
    (subst (λ l. Was (worlds_of s l) (length (since.entry ∷ since.before)) entered) (sym since.splits) (was_world s since.newer (since.entry ∷ since.before)))
    (was_world s [] events) (subst (λ l. length (since.entry ∷ since.before) ≤ length l) (sym since.splits) (no_longer since.newer (since.entry ∷ since.before))) since.slow in
    subst (λ h. unsigned_abs (now.clock n).off ≤ path_of s.cfg n + h) (sym (motion_is s n link node.0 above node.1))
    (laws.held rate (held_time s.cfg) (path_of s.cfg n) entered.time now.time (entered.clock n).off (now.clock n).off (record { order = slow.order; slow = slow.limit; soon = since.recent }) within)
  where
    no_longer : (newer older : List Happened) → length older ≤ length (newer ++ older)
    no_longer [] older = omega arith
    no_longer (x ∷ newer) older = let h : length older ≤ length (newer ++ older) = no_longer newer older in omega (arith, h)

-- what the hops keep at older events
abbrev HopsBefore : Setting → List Happened → Type 0
HopsBefore s events = (before : List Happened) → length before < length events → TrueRun s before → HopsHold s.cfg (offsets_up s (world_after s before))

held_within : HopLaws → (s : Setting) (events : List Happened) (n : ℕ) (link : LinkCfg) → TrueRun s events → HopsBefore s events → link_above s.cfg n ≡ Some link → IsHeld s n events → unsigned_abs ((world_after s events).clock n).off ≤ holdover_of s.cfg n
held_within laws s events n link runs older above held =
    let since : HeldSince s n events = laws.short s events n link runs.run above held in
    let before : List Happened = since.before in
    let w : WorldAt = world_after s before in
    let came : TrueRun s (since.entry ∷ before) = true_older s since.newer (since.entry ∷ before) (subst (TrueRun s) since.splits runs) in
    let left : LeavesTrack s since.entry before n = laws.leaves s since.entry before n link came.run above (at_oldest (IsHeld s n) since.newer (since.entry ∷ before) since.held) since.begins in
    let hops : HopsHold s.cfg (offsets_up s w) = older before (subst (λ l. length before < length l) (sym since.splits) (shorter since.newer since.entry before)) (true_before s since.entry before came) in
    let bounded : IsBounded s.cfg (offsets_up s w) n = laws.tree s.cfg (offsets_up s w) n runs.run.network.accepted.tree (inside_below s runs.run.network n link above) hops in
    held_from laws s events n link runs.run.network above since
    (subst (λ o. unsigned_abs o ≤ path_of s.cfg n) (sym left.still) (bounded.track (state_up s w n left.up ∙ left.state)))

held_any : HopLaws → (s : Setting) (events : List Happened) (n : ℕ) (above : Option LinkCfg) → TrueRun s events → HopsBefore s events → link_above s.cfg n ≡ above → ((world_after s events).clock n).up ≡ true →
    state_of (node_setting_of s n) ((world_after s events).node n) ≡ Holdover → unsigned_abs ((world_after s events).clock n).off ≤ holdover_of s.cfg n
held_any laws s events n None runs older above up e = absurd (not_held (sym (top_state s runs.run.network (world_after s events) n above) ∙ e))
held_any laws s events n (Some link) runs older above up e = held_within laws s events n link runs older above (record { up = up; state = e })

-- The hops

hops_by : HopLaws → (s : Setting) (events : List Happened) → TrueRun s events → HopsBefore s events → HopsHold s.cfg (offsets_up s (world_after s events))
hops_by laws s events runs older =
    let w : WorldAt = world_after s events in
    record {
      top = λ n above. laws.follow.top s events n runs.run above;
      hop = λ n link above e. (node_tracks laws.follow s events n link runs above (shown (w.clock n).up (state_of (node_setting_of s n) (w.node n)) Track e new_state).1).hop;
      source = λ n link above e.
          let it : FollowsWithin s events n link = node_tracks laws.follow s events n link runs above (shown (w.clock n).up (state_of (node_setting_of s n) (w.node n)) Track e new_state).1 in
          source_up s w link.upper it.up it.source;
      held = λ n e. let it : _ = shown (w.clock n).up (state_of (node_setting_of s n) (w.node n)) Holdover e not_held in held_any laws s events n (link_above s.cfg n) runs older refl it.0 it.1;
    }

-- of lists that are no longer than this
hops_among : HopLaws → (s : Setting) (most : ℕ) (events : List Happened) → length events ≤ most → TrueRun s events → HopsHold s.cfg (offsets_up s (world_after s events))
hops_among laws s zero events few runs = hops_by laws s events runs (λ before less t. absurd (none (length before) (length events) less few))
  where
    none : (a b : ℕ) → a < b → b ≤ 0 → ⊥
    none a b h k = omega (arith, h, k)
hops_among laws s (suc most) events few runs = hops_by laws s events runs (λ before less t. hops_among laws s most before (fewer (length before) (length events) most less few) t)
  where
    fewer : (a b c : ℕ) → a < b → b ≤ suc c → a ≤ c
    fewer a b c h k = omega (arith, h, k)

pub hops_hold : HopLaws → (s : Setting) (events : List Happened) → TrueRun s events → HopsHold s.cfg (offsets_up s (world_after s events))
hops_hold laws s events runs = hops_among laws s (length events) events (all (length events)) runs
  where
    all : (n : ℕ) → n ≤ n
    all n = omega arith

pub offsets_keep_bounds : HopLaws → OffsetsKeepBounds
offsets_keep_bounds laws s events n runs inside up =
    let w : WorldAt = world_after s events in
    let b : IsBounded s.cfg (offsets_up s w) n = laws.tree s.cfg (offsets_up s w) n runs.run.network.accepted.tree inside (hops_hold laws s events runs) in
    record { track = λ e. b.track (state_up s w n up ∙ e); held = λ e. b.held (state_up s w n up ∙ e) }

-- The hops of nodes in TRACK

pub tracks_follow : FollowLaws → TracksFollow
tracks_follow laws s events n link runs above e = node_tracks laws s events n link runs above e

near_both : (h k : ℕ) (a b p : ℤ) → unsigned_abs (a -ℤ p) ≤ h → unsigned_abs (b -ℤ p) ≤ k → unsigned_abs (a -ℤ b) ≤ h + k
near_both h k a b p one other = omega (arith, ints)

pub siblings_agree : FollowLaws → SiblingsAgree
siblings_agree laws s events m n one other runs above below same e f =
    let w : WorldAt = world_after s events in
    let x : FollowsWithin s events m one = node_tracks laws s events m one runs above e in
    let y : FollowsWithin s events n other = node_tracks laws s events n other runs below f in
    near_both (hop_of s.cfg m) (hop_of s.cfg n) (w.clock m).off (w.clock n).off (w.clock one.upper).off x.hop
    (subst (λ i. IsWithin (hop_of s.cfg n) (w.clock n).off (w.clock i).off) (sym same) y.hop)

-- one hop more from true time
add_hop : (h k : ℕ) (a p : ℤ) → unsigned_abs (a -ℤ p) ≤ h → unsigned_abs p ≤ k → unsigned_abs a ≤ h + k
add_hop h k a p one rest = omega (arith, ints)

no_offset : (a : ℤ) → a ≡ pos 0 → unsigned_abs a ≤ 0
no_offset a e = omega (arith, ints)

pub tracks_add_up : FollowLaws → TracksAddUp
tracks_add_up laws s events n [] runs above = no_offset ((world_after s events).clock n).off (laws.top s events n runs.run above)
tracks_add_up laws s events n (link ∷ links) runs way =
    let w : WorldAt = world_after s events in
    let it : FollowsWithin s events n link = node_tracks laws s events n link runs way.0 way.1 in
    let lower : link.lower ≡ n = (above_at s n link way.0).2 in
    add_hop (hop_of s.cfg link.lower) (hops_on s.cfg links) (w.clock n).off (w.clock link.upper).off
    (subst (λ i. IsWithin (hop_of s.cfg i) (w.clock n).off (w.clock link.upper).off) (sym lower) it.hop)
    (tracks_add_up laws s events link.upper links runs way.2)
