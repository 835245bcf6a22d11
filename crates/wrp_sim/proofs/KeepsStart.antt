-- The start, and faults: links that are joined and cut, and nodes that come up and go down.
use Rattle.std.proofs.Common.{◌≡◌, refl, ap, sym, ℕ, ◌+◌, ◌-◌, ◌*◌, ◌==◌, ◌&&◌, ◌≤◌, ◌<◌, ◌^◌, ℤ, pos, ◌≤ℤ◌, not, nat_lt, unsigned_abs, Bool, true, false, if◌then◌else◌, List, [], ◌∷◌, flat_map, Option, None, Some, Result, arith}
use Rattle.std.proofs.lemmas.Int.{ints}
use Rattle.std.specs.Int.Signed.{le_z}
use Rattle.std.specs.List.{AllByRecursion}
use Rattle.std.specs.Option.{is_some, option_and_then}
use Rattle.std.proofs.lemmas.Bool.{and_parts, not-true, not_from_false}
use Rattle.std.proofs.lemmas.Option.{none-some}
use Rattle.wrp_base.specs.declared.message.PtpMsg.{PtpMsg}
use Rattle.wrp_network.specs.declared.network.LinkCfg.{LinkCfg}
use Rattle.wrp_network.specs.Network.{link_above, node_count}
use Rattle.wrp_base.proofs.Booleans.{not_both}
use Rattle.wrp_base.proofs.Lists.{has_item}
use Rattle.wrp_base.proofs.Naturals.{le_one_more, nat_le_self}
use Rattle.wrp_bounds.specs.Times.{longest_tick, reach, shortest_tick}
use Rattle.wrp_frame.specs.declared.fault.FrameFault.{FrameFault}
use Rattle.wrp_config.proofs.Lists.{none_at}
use Rattle.wrp_course.specs.declared.event.Event.TheVariants.{Down, Cut}
use Rattle.wrp_course.specs.Checks.{needs}
use Rattle.wrp_course.specs.EventAt.{IsEventOf, link_count}
use Rattle.wrp_course.specs.Moved.{moved}
use Rattle.wrp_course.specs.Premises.{Accepts, fibre_kept}
use Rattle.wrp_course.specs.Setting.{Setting, link_of, links_of}
use Rattle.wrp_course.specs.WorldAt.{WorldAt}
use Rattle.wrp_scene.specs.declared.scene.fault.Fault.{Fault}
use Rattle.wrp_scene.specs.declared.scene.fault.FaultKind.{FaultKind}
use Rattle.wrp_scene.specs.declared.scene.fault.FaultKind.TheVariants as kind
use Rattle.wrp_sim.specs.Rules.{applies, begins, comes, drawn_tick, fails, fault_of, faults_left, has_come, join_event, next_fault, one_begun, rest_of, up_event, wakes, with_tick}
use Rattle.wrp_scene.specs.Scenario.{IsFault, IsFaultKind, IsOffset, SceneAt, fibre_room, ms_of, offset_of, sm_of}
use Rattle.wrp_sim.specs.SimAt.{SimAt}
use Rattle.wrp_sim.proofs.KeepsChecks.{both_hold, flat_hold, listed_at, stands_holds}
use Rattle.wrp_sim.proofs.KeepsFibres.{fibre_holds, fibre_split}
use Rattle.wrp_sim.proofs.KeepsGood.{GoodIf, Moment, below_told, found, good, if_good, not_below_told, then_good, tick_is_drawn, tick_where}
use Rattle.wrp_sim.proofs.KeepsMoves.{moved_first, moved_scene}
use Rattle.wrp_scene.proofs.FibreSplit.{IsSplit}
use Rattle.wrp_sim.proofs.KeepsState.{AllQuiet, HandsOver, Keeps, TicksAfter, step_hands}

-- A link is joined

pub join_accepted : (scene : SceneAt) (s : Setting) (w : WorldAt) (at : SimAt) (k : ℕ) → Moment scene s w → Keeps scene s w at → (w.fibre k).joined ≡ false → (says : Result PtpMsg FrameFault) → Accepts s w says (join_event scene s k)
join_accepted scene s w at k m h cut says =
    let v : WorldAt = moved s w (join_event scene s k) in
    both_hold (fibre_kept s v k) (needs (not (w.fibre k).joined) ∷ [])
    (fibre_holds scene s m.net m.fits v (moved_first s w (join_event scene s k) tt h.modules) (moved_scene scene s w (join_event scene s k) (refl, refl) h.fibres) k)
    (stands_holds (not (w.fibre k).joined) (not_from_false (w.fibre k).joined cut), tt)

room_small : (cfg_reach room : ℕ) (x : ℤ) → room ≤ cfg_reach → cfg_reach ≤ 65_536_000 * 1_000_000_000 → x ≤ℤ pos room → x ≤ℤ pos 9_223_372_036_854_775_807
room_small cfg_reach room x h k l = omega (arith, ints, h, k, l)

less_room : (a b : ℕ) → a - b ≤ a
less_room a b = omega arith

reach_small : (ns : ℤ) → ns ≤ℤ pos 1_000_000_000 → pos 1 ≤ℤ ns → 65_536_000 * unsigned_abs ns ≤ 65_536_000 * 1_000_000_000
reach_small ns h k = grind (arith, ints)

pub join_is_event : (scene : SceneAt) (s : Setting) (w : WorldAt) (k : ℕ) → Moment scene s w → k < link_count s.cfg → IsEventOf s.cfg (join_event scene s k)
join_is_event scene s w k m below =
    let it : (link : LinkCfg) × (link_of s k ≡ Some link) = has_item s.cfg.links.items k below in
    let split : IsSplit it.0.kappa (fibre_room s.cfg) it.0.e_asym (ms_of s.cfg scene k) (sm_of s.cfg scene k) = fibre_split scene s m.net m.fits k it.0 it.1 in
    let far : reach s.cfg ≤ 65_536_000 * 1_000_000_000 = reach_small s.cfg.reach_ns m.net.accepted.ranges.reach_ns.1 m.net.accepted.ranges.reach_ns.0 in
    let less : fibre_room s.cfg ≤ reach s.cfg = less_room (reach s.cfg) (s.cfg.tx_max + s.cfg.rx_max + 2 * s.cfg.e_db) in (
      below,
      (split.ms_least, room_small (reach s.cfg) (fibre_room s.cfg) (ms_of s.cfg scene k) less far split.ms_most),
      (split.sm_least, room_small (reach s.cfg) (fibre_room s.cfg) (sm_of s.cfg scene k) less far split.sm_most),
    )

-- A node comes up

top_holds : (o : Option LinkCfg) (off : ℤ) → (o ≡ None → off ≡ pos 0) → (not (is_some o) && not (le_z (pos (unsigned_abs off)) (pos 0))) ≡ false
top_holds None off h = ap (λ (x : ℤ). not (le_z (pos (unsigned_abs x)) (pos 0))) (h refl)
top_holds (Some link) off h = refl

pub up_accepted : (scene : SceneAt) (s : Setting) (w : WorldAt) (at : SimAt) (n : ℕ) → Moment scene s w → Keeps scene s w at → n < node_count s.cfg → (w.clock n).up ≡ false → (says : Result PtpMsg FrameFault) →
    Accepts s w says (up_event scene n)
up_accepted scene s w at n m h below down says =
    let v : WorldAt = moved s w (up_event scene n) in (
      top_holds (link_above s.cfg n) (offset_of scene n) (λ e. m.fits.grandmaster n (below, e)),
      both_hold (flat_map (fibre_kept s v) (links_of s)) (needs (not (w.clock n).up) ∷ [])
          (flat_hold (fibre_kept s v) (links_of s)
          (fibre_holds scene s m.net m.fits v (moved_first s w (up_event scene n) refl h.modules) (moved_scene scene s w (up_event scene n) tt h.fibres)))
          (stands_holds (not (w.clock n).up) (not_from_false (w.clock n).up down), tt),
    )

offset_small : (off : ℤ) → IsOffset off → unsigned_abs off ≤ 2 ^ 90
offset_small off h = omega (arith, h)

no_offset : IsOffset (pos 0)
no_offset = omega arith

none_below : (j : ℕ) → j < 0 → ⊥
none_below j h = omega (arith, h)

pub up_is_event : (scene : SceneAt) (s : Setting) (w : WorldAt) (n : ℕ) → Moment scene s w → n < node_count s.cfg → IsEventOf s.cfg (up_event scene n)
up_is_event scene s w n m below =
    (below, offset_small (offset_of scene n) (listed_at IsOffset scene.offsets n (pos 0) no_offset m.fits.offset), record { each = tt; apart = λ i j d less below. absurd (none_below j below) })

-- the tick times when a node comes up
up_or : (b up : Bool) → b ≡ false → (if b then true else up) ≡ true → up ≡ true
up_or true up e h = absurd (not_both true refl e)
up_or false up e h = h

pub up_ticks : (scene : SceneAt) (s : Setting) (w : WorldAt) (at : SimAt) (n state : ℕ) → Moment scene s w → Keeps scene s w at →
    TicksAfter s w (up_event scene n) (λ m. if m == n then drawn_tick s w.time state else at.tick_at m)
up_ticks scene s w at n state m h j up =
    tick_where (j == n) (shortest_tick s.cfg) (longest_tick s.cfg) (w.clock j).ticked w.time (drawn_tick s w.time state) (at.tick_at j) (tick_is_drawn s m.net w.time state)
    (λ b. h.ticks j (up_or (j == n) (w.clock j).up b up))

-- Rule 1

begin_more : (b l n : ℕ) → b < l → b + 1 ≤ l + n
begin_more b l n h = omega (arith, h)

less_more : (b : ℕ) → b < b + 1
less_more b = omega arith

wake_more : (b l n : ℕ) → l ≤ b → b - l < n → b + 1 ≤ l + n
wake_more b l n h k = omega (arith, h, k)

wake_turn : (b l : ℕ) → l ≤ b → l + (b - l) < b + 1
wake_turn b l h = omega (arith, h)

wake_at : (b l : ℕ) → l ≤ b → b ≤ l + (b - l)
wake_at b l h = omega (arith, h)

wakes_good : (scene : SceneAt) (s : Setting) (w : WorldAt) (at : SimAt) → Moment scene s w → Keeps scene s w at → link_count s.cfg ≤ at.begun → GoodIf scene s w (wakes scene s w (at.begun - link_count s.cfg) at)
wakes_good scene s w at m h above =
    let n : ℕ = at.begun - link_count s.cfg in
    let new : SimAt = record (with_tick s w.time n (one_begun at)) { ticked = None } in
    if_good scene s w (nat_lt n (node_count s.cfg)) (comes (up_event scene n) (with_tick s w.time n (one_begun at))) None
    (λ b.
    let below : n < node_count s.cfg = below_told n (node_count s.cfg) b in
    good scene s w (up_event scene n) at new h (up_is_event scene s w n m below) (up_accepted scene s w at n m h below (h.waits.nodes n (wake_at at.begun (link_count s.cfg) above))) (λ d. absurd d)
    (record {
      swaps = refl;
      fibres = tt;
      young = tt;
      ticks = up_ticks scene s w at n at.state m h;
      begun = le_one_more at.begun;
      most = wake_more at.begun (link_count s.cfg) (node_count s.cfg) above below;
      turn = wake_turn at.begun (link_count s.cfg) above;
      faults = h.faults;
      ticked = λ j e. absurd (none-some j e);
      handed = λ says y t. step_hands s says y w (up_event scene n) at new tt h.young refl refl (h.handed t);
    }))
    (λ b. tt)

pub begins_good : (scene : SceneAt) (s : Setting) (w : WorldAt) (at : SimAt) → Moment scene s w → Keeps scene s w at → GoodIf scene s w (begins scene s w at)
begins_good scene s w at m h =
    let k : ℕ = at.begun in
    let new : SimAt = record (one_begun at) { ticked = None } in
    if_good scene s w (nat_lt k (link_count s.cfg)) (comes (join_event scene s k) (one_begun at)) (wakes scene s w (k - link_count s.cfg) at)
    (λ b.
    let below : k < link_count s.cfg = below_told k (link_count s.cfg) b in
    good scene s w (join_event scene s k) at new h (join_is_event scene s w k m below) (join_accepted scene s w at k m h (h.waits.links k (nat_le_self k))) (λ d. absurd d)
    (record {
      swaps = tt;
      fibres = (refl, refl);
      young = tt;
      ticks = h.ticks;
      begun = le_one_more k;
      most = begin_more k (link_count s.cfg) (node_count s.cfg) below;
      turn = less_more k;
      faults = h.faults;
      ticked = λ j e. absurd (none-some j e);
      handed = λ says y t. step_hands s says y w (join_event scene s k) at new tt h.young refl refl (h.handed t);
    }))
    (λ b. wakes_good scene s w at m h (not_below_told k (link_count s.cfg) b))

-- after the start every link and node had its turn
wakes_over : (scene : SceneAt) (s : Setting) (w : WorldAt) (n : ℕ) (at : SimAt) (b : Bool) → nat_lt n (node_count s.cfg) ≡ b → (if b then comes (up_event scene n) (with_tick s w.time n (one_begun at)) else None) ≡ None → node_count s.cfg ≤ n
wakes_over scene s w n at true t e = absurd (none-some _ (sym e))
wakes_over scene s w n at false t e = not_below_told n (node_count s.cfg) t

all_begun : (b l n : ℕ) → l ≤ b → n ≤ b - l → l + n ≤ b
all_begun b l n h k = omega (arith, h, k)

begins_over : (scene : SceneAt) (s : Setting) (w : WorldAt) (at : SimAt) (b : Bool) → nat_lt at.begun (link_count s.cfg) ≡ b →
    (if b then comes (join_event scene s at.begun) (one_begun at) else wakes scene s w (at.begun - link_count s.cfg) at) ≡ None → link_count s.cfg + node_count s.cfg ≤ at.begun
begins_over scene s w at true t e = absurd (none-some _ (sym e))
begins_over scene s w at false t e =
    let above : link_count s.cfg ≤ at.begun = not_below_told at.begun (link_count s.cfg) t in
    let n : ℕ = at.begun - link_count s.cfg in
    all_begun at.begun (link_count s.cfg) (node_count s.cfg) above (wakes_over scene s w n at (nat_lt n (node_count s.cfg)) refl e)

pub start_is_over : (scene : SceneAt) (s : Setting) (w : WorldAt) (at : SimAt) → begins scene s w at ≡ None → link_count s.cfg + node_count s.cfg ≤ at.begun
start_is_over scene s w at e = begins_over scene s w at (nat_lt at.begun (link_count s.cfg)) refl e

-- Rule 2

left_where : (P : Fault → Type 0) (a b : Bool) (f : Fault) (rest left : List Fault) → P f → AllByRecursion P rest → AllByRecursion P left → AllByRecursion P (if a then (if b then rest else left) else f ∷ left)
left_where P true true f rest left h k l = k
left_where P true false f rest left h k l = l
left_where P false b f rest left h k l = (h, l)

pub left_all : (P : Fault → Type 0) (s : Setting) (w : WorldAt) (faults : List Fault) → AllByRecursion P faults → AllByRecursion P (faults_left s w faults)
left_all P s w [] h = tt
left_all P s w (f ∷ faults) h = left_where P (has_come s w f) (applies w f.kind) f faults (faults_left s w faults) h.0 h.1 (left_all P s w faults h.1)

quiet_where : (s : Setting) (w : WorldAt) (a b : Bool) (f : Fault) (rest left : List Fault) → has_come s w f ≡ a → (a && b) ≡ false → AllQuiet s w.time left → AllQuiet s w.time (if a then (if b then rest else left) else f ∷ left)
quiet_where s w true true f rest left e h l = absurd (not_both true refl h)
quiet_where s w true false f rest left e h l = l
quiet_where s w false b f rest left e h l = (e, l)

quiet_left : (s : Setting) (w : WorldAt) (faults : List Fault) → AllByRecursion (λ (f : Fault). (has_come s w f && applies w f.kind) ≡ false) faults → AllQuiet s w.time (faults_left s w faults)
quiet_left s w [] h = tt
quiet_left s w (f ∷ faults) h = quiet_where s w (has_come s w f) (applies w f.kind) f faults (faults_left s w faults) refl h.0 (quiet_left s w faults h.1)

always_some : (scene : SceneAt) (s : Setting) (w : WorldAt) (at : SimAt) (k : FaultKind) → fault_of scene s w at k ≡ None → ⊥
always_some scene s w at (kind.Down n) e = none-some _ (sym e)
always_some scene s w at (kind.Up n) e = none-some _ (sym e)
always_some scene s w at (kind.Cut l) e = none-some _ (sym e)
always_some scene s w at (kind.Join l) e = none-some _ (sym e)

no_fault : (scene : SceneAt) (s : Setting) (w : WorldAt) (at : SimAt) (o : Option Fault) → option_and_then (λ f. fault_of scene s w at f.kind) o ≡ None → o ≡ None
no_fault scene s w at None e = refl
no_fault scene s w at (Some f) e = absurd (always_some scene s w at f.kind e)

-- if no fault comes, no fault is left whose time has come
pub quiet_rest : (scene : SceneAt) (s : Setting) (w : WorldAt) (at : SimAt) → fails scene s w at ≡ None → AllQuiet s w.time (rest_of s w at).faults
quiet_rest scene s w at e =
    quiet_left s w at.faults (none_at (λ f. has_come s w f && applies w f.kind) at.faults (no_fault scene s w (rest_of s w at) (next_fault s w at.faults) e))

-- without the faults that are dropped
pub rest_keeps : (scene : SceneAt) (s : Setting) (w : WorldAt) (at : SimAt) → Keeps scene s w at → Keeps scene s w (rest_of s w at)
rest_keeps scene s w at h = record {
  modules = h.modules;
  fibres = h.fibres;
  young = h.young;
  ticks = h.ticks;
  waits = h.waits;
  faults = left_all (IsFault s.cfg) s w at.faults h.faults;
  ticked = h.ticked;
  handed = λ t. let it : HandsOver s w at = h.handed t in record { here = it.here; quiet = left_all _ s w at.faults it.quiet };
}

not_quiet : (s : Setting) (w : WorldAt) (faults : List Fault) (f : Fault) → next_fault s w faults ≡ Some f → AllQuiet s w.time faults → ⊥
not_quiet s w faults f e h =
    let both : ((has_come s w f && applies w f.kind) ≡ true) × (has_come s w f ≡ false) = found (λ f. has_come s w f ≡ false) (λ f. has_come s w f && applies w f.kind) faults f h e in
    not_both (has_come s w f) (and_parts (has_come s w f) (applies w f.kind) both.0).0 both.1

below_begun : (k l n b : ℕ) → k < l → l + n ≤ b → k < b
below_begun k l n b h i = omega (arith, h, i)

node_begun : (k l n b : ℕ) → k < n → l + n ≤ b → l + k < b
node_begun k l n b h i = omega (arith, h, i)

up_less : (b up : Bool) → (if b then false else up) ≡ true → up ≡ true
up_less true up e = absurd (not_both true refl (sym e))
up_less false up e = e

-- a fault that applies; no frame is handed over then
fault_good : (scene : SceneAt) (s : Setting) (w : WorldAt) (at : SimAt) (k : FaultKind) → Moment scene s w → Keeps scene s w at → link_count s.cfg + node_count s.cfg ≤ at.begun → IsFaultKind s.cfg k → applies w k ≡ true →
    (0 < at.arrived.times → ⊥) → GoodIf scene s w (fault_of scene s w at k)
fault_good scene s w at (kind.Down n) m h over below it none =
    let new : SimAt = record at { ticked = None } in
    good scene s w (Down n) at new h below (λ says. (stands_holds (w.clock n).up it, tt)) (λ d. absurd d)
    (record {
      swaps = tt;
      fibres = tt;
      young = tt;
      ticks = λ j up. h.ticks j (up_less (j == n) (w.clock j).up up);
      begun = nat_le_self at.begun;
      most = h.waits.most;
      turn = tt;
      faults = h.faults;
      ticked = λ j e. absurd (none-some j e);
      handed = λ says y t. absurd (none t);
    })
fault_good scene s w at (kind.Up n) m h over below it none =
    let new : SimAt = record (with_tick s w.time n at) { ticked = None } in
    good scene s w (up_event scene n) at new h (up_is_event scene s w n m below) (up_accepted scene s w at n m h below (not-true (w.clock n).up it)) (λ d. absurd d)
    (record {
      swaps = refl;
      fibres = tt;
      young = tt;
      ticks = up_ticks scene s w at n at.state m h;
      begun = nat_le_self at.begun;
      most = h.waits.most;
      turn = node_begun n (link_count s.cfg) (node_count s.cfg) at.begun below over;
      faults = h.faults;
      ticked = λ j e. absurd (none-some j e);
      handed = λ says y t. absurd (none t);
    })
fault_good scene s w at (kind.Cut k) m h over below it none =
    let new : SimAt = record at { ticked = None } in
    good scene s w (Cut k) at new h below (λ says. (stands_holds (w.fibre k).joined it, tt)) (λ d. absurd d)
    (record {
      swaps = tt;
      fibres = tt;
      young = tt;
      ticks = h.ticks;
      begun = nat_le_self at.begun;
      most = h.waits.most;
      turn = tt;
      faults = h.faults;
      ticked = λ j e. absurd (none-some j e);
      handed = λ says y t. absurd (none t);
    })
fault_good scene s w at (kind.Join k) m h over below it none =
    let new : SimAt = record at { ticked = None } in
    good scene s w (join_event scene s k) at new h (join_is_event scene s w k m below) (join_accepted scene s w at k m h (not-true (w.fibre k).joined it)) (λ d. absurd d)
    (record {
      swaps = tt;
      fibres = (refl, refl);
      young = tt;
      ticks = h.ticks;
      begun = nat_le_self at.begun;
      most = h.waits.most;
      turn = below_begun k (link_count s.cfg) (node_count s.cfg) at.begun below over;
      faults = h.faults;
      ticked = λ j e. absurd (none-some j e);
      handed = λ says y t. absurd (none t);
    })

pub fails_good : (scene : SceneAt) (s : Setting) (w : WorldAt) (at : SimAt) → Moment scene s w → Keeps scene s w at → begins scene s w at ≡ None → GoodIf scene s w (fails scene s w at)
fails_good scene s w at m h over =
    then_good scene s w (λ f. fault_of scene s w (rest_of s w at) f.kind) (next_fault s w at.faults)
    (λ f e.
    let it : ((has_come s w f && applies w f.kind) ≡ true) × IsFault s.cfg f = found (IsFault s.cfg) (λ f. has_come s w f && applies w f.kind) at.faults f h.faults e in
    fault_good scene s w (rest_of s w at) f.kind m (rest_keeps scene s w at h) (start_is_over scene s w at over) it.1.kind (and_parts (has_come s w f) (applies w f.kind) it.0).1
    (λ t. not_quiet s w at.faults f e (h.handed t).quiet))
