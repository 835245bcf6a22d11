-- The tracking bound from the parts of its invariant.
use Rattle.std.proofs.Common.{◌≡◌, ℕ, ℤ, pos, ◌+◌, ◌≤◌, ◌≤ℤ◌, ◌+ℤ◌, List, ◌∷◌, map, refl, ap, sym, subst, ◌∙◌, Some, None, inr}
use Rattle.std.specs.Prelude.{unsigned_abs, Option}
use Rattle.std.specs.Option.{option_map_or}
use Rattle.std.specs.List.{slice_get}
use Rattle.wrp_network.specs.declared.configuration.NetCfg.{NetCfg}
use Rattle.wrp_network.specs.declared.network.NodeCfg.{NodeCfg}
use Rattle.wrp_network.specs.declared.network.LinkCfg.{LinkCfg}
use Rattle.wrp_base.specs.declared.measurement.Four.{Four}
use Rattle.wrp_base.specs.declared.link.Deltas.{Deltas}
use Rattle.wrp_base.specs.declared.link.ServoState.TheVariants.{Track, Holdover}
use Rattle.wrp_network.specs.Network.{link_above}
use Rattle.wrp_base.specs.Closeness.{IsWithin}
use Rattle.wrp_exch.specs.Call.{Call}
use Rattle.wrp_servo.specs.declared.machine.Core.{Core}
use Rattle.wrp_servo.specs.declared.machine.Measurement.{Measurement}
use Rattle.wrp_servo.specs.Following.{e_tau}
use Rattle.wrp_servo.specs.Sampling.{est_of}
use Rattle.wrp_servo.specs.Measuring.{delay_of}
use Rattle.wrp_bounds.specs.declared.numbers.HopNumbers.{HopNumbers}
use Rattle.wrp_bounds.specs.Hop.{hop_bound}
use Rattle.wrp_bounds.specs.Motion.{motion}
use Rattle.wrp_bounds.specs.Bounds.{numbers_of, hop_of, path_of, held_by, held_motion, holdover_of}
use Rattle.wrp_bounds.specs.Times.{held_time}
use Rattle.wrp_tracking_laws.specs.History.{IsSlow}
use Rattle.wrp_tracking_laws.specs.Moment.{Moment}
use Rattle.wrp_tracking_laws.specs.ErrorSum.{TrackFacts, estimate_of}
use Rattle.wrp_tracking_laws.specs.HopInTrack.{FourHolds}
use Rattle.wrp_tracking_laws.specs.SyncPieces.{Told, SyncHolds}
use Rattle.wrp_tracking_laws.specs.DelayPieces.{DelayHolds}
use Rattle.wrp_tracking_laws.specs.ServoGives.{Tracks}
use Rattle.wrp_tracking_laws.specs.Tree.{IsSource, HopsHold}
use Rattle.wrp_tracking_laws.specs.Parts.{WorldAt, moment_of, offsets_of, HopChain, HopTrack, HopHeld, PartsHold, PartsGiveBound, MomentKeepsTrack}
use Rattle.wrp_tracking_laws.proofs.Histories.{was_seen, slow_since}
use Rattle.wrp_tracking_laws.proofs.HopsInTrack.{hop-holds}
use Rattle.wrp_tracking_laws.proofs.Chains.{moment-keeps_chain}
use Rattle.wrp_tracking_laws.proofs.DelayHalves.{moment-keeps_delay}
use Rattle.wrp_tracking_laws.proofs.Trees.{tree-sum, held-within}

-- the measurement's estimate, by the law's answer
estimate-is : (hop : HopNumbers) (v : Core) (k : Measurement) (deltas : Deltas) (y : ℤ) → k.delay ≡ delay_of deltas y → TrackFacts hop (est_of v.phase.u k) (e_tau v.phase) →
    TrackFacts hop (estimate_of deltas k.four y v.phase.u) (e_tau v.phase)
estimate-is hop v k deltas y is facts =
    let P : ℤ → Type 0 = λ d. TrackFacts hop (est_of v.phase.u (record { four = k.four; delay = d })) (e_tau v.phase) in
    subst P is facts

hop_near : (net : NetCfg) (w : WorldAt) (past : List WorldAt) (link : LinkCfg) (l : ℕ) (hop : HopNumbers) → HopTrack net link l hop w past → IsWithin (hop_bound hop) (w.node link.lower).off (w.node link.upper).off
hop_near net w past link l hop track =
    let chain : HopChain net link l hop w past = track.chain in
    let servo : Core = (w.node link.lower).servo in
    let k : Measurement = track.tracks.kept in
    hop-holds hop (moment_of link l w) (map (moment_of link l) past) track.deltas k.four track.y servo.phase.u (e_tau servo.phase) (record {
      from = chain.from;
      start = chain.start;
      constant = chain.constant;
      newest = chain.newest;
      earlier = chain.earlier;
      chain = chain.holds;
      recent = record {
        moment = moment_of link l chain.recent.state;
        was = was_seen (moment_of link l) chain.newest.at chain.recent.state (w ∷ past) chain.recent.was;
        near = chain.recent.near;
      };
      u_is = chain.u;
      four_true = track.four_true;
      fibre = track.fibre;
      answer = track.answer;
    }) (estimate-is hop servo k track.deltas track.y track.delay_is track.tracks.limits)

hop_of-is : (net : NetCfg) (n : ℕ) (hop : HopNumbers) → numbers_of net n ≡ Some hop → hop_of net n ≡ hop_bound hop
hop_of-is net n hop is = ap (λ (o : Option HopNumbers). option_map_or hop_bound o 0) is

track_hop : (net : NetCfg) (w : WorldAt) (past : List WorldAt) → PartsHold net w past → (n : ℕ) (link : LinkCfg) → link_above net n ≡ Some link → (w.node n).servo.state ≡ Track → IsWithin (hop_of net n) (w.node n).off (w.node link.upper).off
track_hop net w past parts n link is track =
    let (same, hops) = parts.track n link is track in
    let (l, hop, numbers, tracks) = hops in
    let P : ℕ → Type 0 = λ m. IsWithin (hop_bound hop) (w.node m).off (w.node link.upper).off in
    let Q : ℕ → Type 0 = λ h. IsWithin h (w.node n).off (w.node link.upper).off in
    subst Q (sym (hop_of-is net n hop numbers)) (subst P same (hop_near net w past link l hop tracks))

track_source : (net : NetCfg) (w : WorldAt) (past : List WorldAt) → PartsHold net w past → (n : ℕ) (link : LinkCfg) → link_above net n ≡ Some link → (w.node n).servo.state ≡ Track → IsSource net (offsets_of w) link.upper
track_source net w past parts n link is track =
    let (same, hops) = parts.track n link is track in
    let (l, hop, numbers, tracks) = hops in
    tracks.chain.source

held_motion-is : (net : NetCfg) (n : ℕ) (link : LinkCfg) (own : NodeCfg) → link_above net n ≡ Some link → slice_get net.nodes.items n ≡ Some own → held_motion net n ≡ motion own.held (held_time net)
unfolding held_motion
held_motion-is net n link own el eo = ap (λ (x : Option LinkCfg). held_by net x (slice_get net.nodes.items n)) el ∙ ap (λ (x : Option NodeCfg). held_by net (Some link) x) eo

held_near : (net : NetCfg) (w : WorldAt) (past : List WorldAt) (n : ℕ) (link : LinkCfg) → link_above net n ≡ Some link → HopHeld net n w past → unsigned_abs (w.node n).off ≤ holdover_of net n
held_near net w past n link is held =
    let then_ : WorldAt = held.recent.state in
    let slow : IsSlow (λ v. v.time) held.own.held (λ v. (v.node n).off) then_ w = slow_since (λ v. v.time) held.own.held (λ v. (v.node n).off) held.entered then_ w past held.recent.was held.slow in
    let near : unsigned_abs (w.node n).off ≤ path_of net n + motion held.own.held (held_time net) =
    held-within held.own.held (held_time net) (path_of net n) then_.time w.time (then_.node n).off (w.node n).off (record { order = slow.order; slow = slow.limit; soon = held.recent.near }) held.within in
    let P : ℕ → Type 0 = λ h. unsigned_abs (w.node n).off ≤ path_of net n + h in
    subst P (sym (held_motion-is net n link held.own is held.own_is)) near

held_any : (net : NetCfg) (w : WorldAt) (past : List WorldAt) → PartsHold net w past → (n : ℕ) (above : Option LinkCfg) → link_above net n ≡ above → (w.node n).servo.state ≡ Holdover → unsigned_abs (w.node n).off ≤ holdover_of net n
held_any net w past parts n None is held = absurd (parts.top_follows_none n is held)
held_any net w past parts n (Some link) is held = held_near net w past n link is (parts.held n link is held)

pub parts-give_bound : PartsGiveBound
parts-give_bound net w past n tree within parts =
    let hops : HopsHold net (offsets_of w) = record {
      top = parts.top;
      hop = track_hop net w past parts;
      source = track_source net w past parts;
      held = λ m. held_any net w past parts m (link_above net m) refl;
    } in
    tree-sum net (offsets_of w) n tree within hops

sync_same : (hop : HopNumbers) (constant : ℤ) (may : List Told) (ring : ℕ) (a b : List Call) → b ≡ a → SyncHolds hop constant may ring a → SyncHolds hop constant may ring b
sync_same hop constant may ring a b is holds = let P : List Call → Type 0 = λ c. SyncHolds hop constant may ring c in subst P (sym is) holds

delay_same : (hop : HopNumbers) (constant : ℤ) (past : List Moment) (from : ℕ) (may : List Told) (ring : ℕ) (a b : List Call) → b ≡ a → DelayHolds hop constant past from may ring a → DelayHolds hop constant past from may ring b
delay_same hop constant past from may ring a b is holds = let P : List Call → Type 0 = λ c. DelayHolds hop constant past from may ring c in subst P (sym is) holds

tracks_same : (hop : HopNumbers) (v w : Core) → w ≡ v → Tracks hop v → Tracks hop w
tracks_same hop v w is tracks = record {
  kept = tracks.kept;
  is = ap (λ (c : Core). c.kept) is ∙ tracks.is;
  limits =
      let P : Core → Type 0 = λ c. TrackFacts hop (est_of c.phase.u tracks.kept) (e_tau c.phase) in
      subst P (sym is) tracks.limits;
}

four_stays : (hop : HopNumbers) (later now : Moment) (past : List Moment) (from : ℕ) (constant : ℤ) (four : Four) → (holds : FourHolds hop now past from constant four) → later.time ≤ℤ (holds.delay.sent.time +ℤ pos hop.age_time) → FourHolds hop later (now ∷ past) from constant four
four_stays hop later now past from constant four holds young = record {
  sync = holds.sync;
  delay = record {
    at = holds.delay.at;
    sent = holds.delay.sent;
    was = inr holds.delay.was;
    since = holds.delay.since;
    tells = holds.delay.tells;
  };
  young = young;
}

pub moment-keeps_track : MomentKeepsTrack
unfolding tracks_same
moment-keeps_track net link l hop w later past track put passes near young source fibre =
    let chain : HopChain net link l hop w past = track.chain in
    let see : List Moment = map (moment_of link l) past in
    let kept : HopChain net link l hop later (w ∷ past) = record {
      from = chain.from;
      start = chain.start;
      constant = chain.constant;
      newest = chain.newest;
      earlier = chain.earlier;
      holds = moment-keeps_chain hop (moment_of link l later) (moment_of link l w) see chain.from chain.start chain.constant chain.newest chain.earlier passes chain.holds;
      recent = record { state = chain.recent.state; was = inr chain.recent.was; near = near };
      u = ap (λ (c : Core). c.phase.u) put.servo ∙ chain.u;
      said = chain.said;
      answered = chain.answered;
      ring = chain.ring;
      sync = sync_same hop chain.constant chain.said chain.ring (w.node link.lower).calls (later.node link.lower).calls put.calls chain.sync;
      delay = delay_same hop chain.constant (map (moment_of link l) (later ∷ (w ∷ past))) chain.from chain.answered chain.ring (w.node link.lower).calls (later.node link.lower).calls put.calls
          (moment-keeps_delay hop chain.constant (moment_of link l later) (map (moment_of link l) (w ∷ past)) chain.from chain.answered chain.ring (w.node link.lower).calls chain.delay);
      source = source;
    } in
    record {
      chain = kept;
      tracks = tracks_same hop (w.node link.lower).servo (later.node link.lower).servo put.servo track.tracks;
      four_true = four_stays hop (moment_of link l later) (moment_of link l w) see chain.from chain.constant track.tracks.kept.four track.four_true young;
      deltas = track.deltas;
      y = track.y;
      delay_is = track.delay_is;
      answer = track.answer;
      fibre = fibre;
    }
