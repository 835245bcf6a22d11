-- In TRACK the four that the servo holds is true of the chain, and young.
use Rattle.std.proofs.Common.{◌≡◌, ◌∙◌, ap, sym, subst, ℕ, min, ◌+◌, ◌≤◌, pos, ◌+ℤ◌, ◌-ℤ◌, ◌≤ℤ◌, is_some, List, ◌∷◌, length, Option, None, Some, unsigned_abs, arith}
use Rattle.std.specs.Prelude.{IfSome}
use Rattle.std.proofs.lemmas.Option.{none-some, same_Some}
use Rattle.wrp_base.specs.declared.link.ServoState.TheVariants.{Track}
use Rattle.wrp_base.specs.declared.measurement.Four.{Four}
use Rattle.wrp_network.specs.declared.network.LinkCfg.{LinkCfg}
use Rattle.wrp_base.specs.Closeness.{IsWithin}
use Rattle.wrp_base.proofs.Naturals.{nat_le_trans}
use Rattle.wrp_bounds.specs.Bounds.{numbers_of}
use Rattle.wrp_bounds.specs.declared.numbers.HopNumbers.{HopNumbers}
use Rattle.wrp_bounds.specs.Hop.{down_error, up_error}
use Rattle.wrp_exch.specs.declared.delay.DelayPair.{DelayPair}
use Rattle.wrp_exch.specs.declared.sync.SyncPair.{SyncPair}
use Rattle.wrp_exch.specs.DelayPair.{delay_pair}
use Rattle.wrp_exch.specs.Exchange.{four_from, join_pairs}
use Rattle.wrp_exch.specs.SyncPair.{sync_pair}
use Rattle.wrp_node.specs.declared.interface.NodeSet.{NodeSet}
use Rattle.wrp_node.specs.NodeAt.{NodeAt, servo_at, servo_setting_of}
use Rattle.wrp_node.specs.NodeRun.{node_after}
use Rattle.wrp_node.proofs.NodeTicks.{ticks_agree}
use Rattle.wrp_servo.specs.Call.{ServoSetting, run as servo_after}
use Rattle.wrp_servo.specs.declared.machine.Measurement.{Measurement}
use Rattle.wrp_servo.specs.Laws.{TrackHasChain, TrackIsNear}
use Rattle.wrp_servo.specs.Table.{is_track}
use Rattle.wrp_servo.specs.Told.{ToldLast, ticks_told}
use Rattle.wrp_servo.proofs.Gone.{set_is}
use Rattle.wrp_tracking_laws.specs.DelayPieces.{PairTrue}
use Rattle.wrp_tracking_laws.specs.ErrorSum.{delay_sum, sync_sum}
use Rattle.wrp_tracking_laws.specs.History.{Was}
use Rattle.wrp_tracking_laws.specs.Moment.{Moment, ways_at}
use Rattle.wrp_tracking_laws.specs.ServoGives.{FoursRise, TrackIsYoung}
use Rattle.wrp_course.specs.Run.{Happened, world_after, worlds_of}
use Rattle.wrp_course.specs.Runs.{IsRun}
use Rattle.wrp_course.specs.Setting.{Setting, node_setting_of, link_of}
use Rattle.wrp_course.specs.WorldAt.{WorldAt}
use Rattle.wrp_bound_laws.specs.Chains.{AllFit, ChainRuns}
use Rattle.wrp_bound_laws.specs.Exchanges.{DelaysTell, IsInChain, SyncsTell, exchange_at, ring_below}
use Rattle.wrp_bound_laws.specs.Fours.{FourHoldsInTrack, IsKept}
use Rattle.wrp_bound_laws.specs.Views.{moment_at, moments_of}
use Rattle.wrp_bound_laws.proofs.Measurements.FourEvents.{KeptFrom, kept_from, kept_in_chain, only_below}
use Rattle.wrp_bound_laws.proofs.Samples.FourMoments.{IsTicksAgo, MomentLaws, was_mapped, young}
use Rattle.wrp_bound_laws.proofs.Measurements.FourRises.{fours_rise}
use Rattle.wrp_bound_laws.proofs.Runs.NodeRuns.{node_is}
use Rattle.wrp_bound_laws.proofs.Runs.Suffixes.{rest_length}
use Rattle.wrp_bound_laws.proofs.SyncPairs.SyncGiven.{slave_at}

-- the laws on the age of the four
pub record AgeLaws : Type 0 where
  pub told : ToldLast
  pub chain : TrackHasChain
  pub near : TrackIsNear
  pub young : TrackIsYoung

-- the laws that this rests on
pub record FourLaws : Type 0 where
  pub syncs : SyncsTell
  pub delays : DelaysTell
  pub moments : MomentLaws
  pub age : AgeLaws

-- A four is of two pairs

pub record IsJoined (S : SyncPair → Type 0) (D : DelayPair → Type 0) (four : Four) : Type 0 where
  pub sync : SyncPair
  pub delay : DelayPair
  pub is : four ≡ four_from sync delay
  pub synced : S sync
  pub delayed : D delay

joined : (S : SyncPair → Type 0) (D : DelayPair → Type 0) (o : Option SyncPair) (p : Option DelayPair) (four : Four) → join_pairs o p ≡ Some four → IfSome o S → IfSome p D → IsJoined S D four
joined S D None p four e s d = absurd (none-some four e)
joined S D (Some sync) None four e s d = absurd (none-some four e)
joined S D (Some sync) (Some delay) four e s d = record { sync = sync; delay = delay; is = sym (same_Some (four_from sync delay) four e); synced = s; delayed = d }

-- The age of the four that the servo holds

pub young_ticks : AgeLaws → (s : Setting) (events : List Happened) (k : ℕ) (link : LinkCfg) (kept : Measurement) → IsRun s events → link_of s k ≡ Some link → (servo_at (node_setting_of s link.lower) ((world_after s events).node link.lower)).state ≡ Track →
    IsKept s link.lower events kept → ((world_after s events).node link.lower).ticks ≤ kept.four.tick + unsigned_abs s.cfg.age
young_ticks laws s events k link kept run is track stands =
    let n : ℕ = link.lower in
    let node : NodeAt = (world_after s events).node n in
    let x : ServoSetting = servo_setting_of (node_setting_of s n) in
    let made : node ≡ node_after (node_setting_of s n) ((world_after s events).inputs n) = node_is s events n in
    let slave : _ = slave_at s run.network k link is in
    let rise : FoursRise x node.calls =
    subst (λ (m : NodeAt). FoursRise x m.calls) (sym made) (fours_rise (node_setting_of s n) link.lower_port slave (only_below s run.network k link is) ((world_after s events).inputs n)) in
    let counted : ticks_told node.calls ≡ node.ticks =
    subst (λ (m : NodeAt). ticks_told m.calls ≡ m.ticks) (sym made) (ticks_agree (node_setting_of s n) ((world_after s events).inputs n) (ap is_some slave)) in
    let age : (servo_after x node.calls).set.age ≡ unsigned_abs s.cfg.age = ap (λ v. v.age) (set_is x node.calls) ∙ ap (λ (z : NodeSet). z.servo.age) (run.network.set n) in
    in_age (servo_after x node.calls).ticks node.ticks kept.four.tick (servo_after x node.calls).set.age (unsigned_abs s.cfg.age) ((laws.told x node.calls).ticks ∙ counted) age
    (laws.young x node.calls kept laws.chain laws.near rise (ap is_track track) stands)
  where
    in_age : (a b tick c d : ℕ) → a ≡ b → c ≡ d → a ≤ tick + c → b ≤ tick + d
    in_age a b tick c d e f h = omega (arith, e, f, h)

-- The law

least : (a b : ℕ) → min a b ≤ b
least a b = omega arith

tick_of_delay : (four : Four) (sync : SyncPair) (delay : DelayPair) (ticks : ℕ) → four ≡ four_from sync delay → delay.tick ≡ ticks → four.tick ≤ ticks
tick_of_delay four sync delay ticks e f = subst (λ (t : ℕ). four.tick ≤ t) f (subst (λ (z : Four). z.tick ≤ delay.tick) (sym e) (least sync.tick delay.tick))

few_ticks : (now tick sent age : ℕ) → now ≤ tick + age → tick ≤ sent → now ≤ sent + age
few_ticks now tick sent age h k = omega (arith, h, k)

-- the two pairs give what they should
abbrev TruePairs : (s : Setting) (events : List Happened) (k : ℕ) (link : LinkCfg) (hop : HopNumbers) → ChainRuns s events k link hop → Four → Type 0
TruePairs s events k link hop chain four =
    IsJoined (λ p. IsWithin (down_error hop) ((p.t1 -ℤ p.t2) +ℤ p.u2) chain.constant) (PairTrue hop chain.constant (moments_of s k link events) (length (chain.start ∷ chain.before))) four

true_pairs : FourLaws → (s : Setting) (events : List Happened) (k : ℕ) (link : LinkCfg) (hop : HopNumbers) (kept : Measurement) → IsRun s events → AllFit events → link_of s k ≡ Some link → numbers_of s.cfg link.lower ≡ Some hop → (chain : ChainRuns s events k link hop) →
    IsKept s link.lower events kept → TruePairs s events k link hop chain kept.four
true_pairs laws s events k link hop kept run fit is numbers chain stands =
    let it : KeptFrom s events link kept = kept_from s run.network events k link kept is stands in
    let here : IsInChain chain it.since it.earlier = kept_in_chain s events k link hop chain kept it in
    joined (λ p. IsWithin (down_error hop) ((p.t1 -ℤ p.t2) +ℤ p.u2) chain.constant) (PairTrue hop chain.constant (moments_of s k link events) (length (chain.start ∷ chain.before)))
    (sync_pair (ring_below s link) (exchange_at s link it.earlier)) (delay_pair (ring_below s link) (exchange_at s link it.earlier)) kept.four it.four
    (laws.syncs s events k link hop run fit is numbers chain it.since it.earlier here) (laws.delays s events k link hop run fit is numbers chain it.since it.earlier here)

-- the departure of the delay pair's Delay_Req was few ticks ago
ticks_ago : (s : Setting) (events : List Happened) (k : ℕ) (link : LinkCfg) (hop : HopNumbers) (chain : ChainRuns s events k link hop) (kept : Measurement) → (of : TruePairs s events k link hop chain kept.four) →
    ((world_after s events).node link.lower).ticks ≤ kept.four.tick + unsigned_abs s.cfg.age → (w : WorldAt) → Was (worlds_of s events) of.delayed.at w → of.delayed.sent ≡ moment_at k link w →
    IsTicksAgo s events link.lower (length (chain.start ∷ chain.before)) (unsigned_abs s.cfg.age) of.delayed.at w
ticks_ago s events k link hop chain kept of young w was sent = record {
  was = was;
  since = of.delayed.since;
  few =
      few_ticks ((world_after s events).node link.lower).ticks kept.four.tick (w.node link.lower).ticks (unsigned_abs s.cfg.age) young
      (tick_of_delay kept.four of.sync of.delay (w.node link.lower).ticks of.is (of.delayed.tick ∙ ap (λ (m : Moment). m.ticks) sent));
}

-- it was in the history that the chain's source goes back to
from_source : (s : Setting) (events : List Happened) (k : ℕ) (link : LinkCfg) (hop : HopNumbers) (chain : ChainRuns s events k link hop) (at : ℕ) → length (chain.start ∷ chain.before) ≤ at → length chain.follows.older ≤ at
from_source s events k link hop chain at since =
    nat_le_trans (length chain.follows.older) (length (chain.start ∷ chain.before)) at
    (subst (λ (l : List Happened). length chain.follows.older ≤ length l) (sym chain.follows.splits) (rest_length chain.follows.newer chain.follows.older)) since

pub four_holds_in_track : FourLaws → FourHoldsInTrack
four_holds_in_track laws s h before k link hop kept run fit is numbers chain track stands =
    let of : TruePairs s (h ∷ before) k link hop chain kept.four = true_pairs laws s (h ∷ before) k link hop kept run fit is numbers chain stands in
    let at : (w : WorldAt) × Was (worlds_of s (h ∷ before)) of.delayed.at w × (of.delayed.sent ≡ moment_at k link w) =
    was_mapped (moment_at k link) of.delayed.at of.delayed.sent (worlds_of s (h ∷ before)) of.delayed.was in
    record {
      sync = subst (λ (f : Four). IsWithin (down_error hop) (sync_sum f) chain.constant) (sym of.is) of.synced;
      delay = record {
        at = of.delayed.at;
        sent = of.delayed.sent;
        was = of.delayed.was;
        since = from_source s (h ∷ before) k link hop chain of.delayed.at of.delayed.since;
        tells = subst (λ (f : Four). IsWithin (up_error hop) (delay_sum f) (chain.constant +ℤ ways_at of.delayed.sent)) (sym of.is) of.delayed.tells;
      };
      young =
          subst (λ (m : Moment). (world_after s (h ∷ before)).time ≤ℤ (m.time +ℤ pos hop.age_time)) (sym at.2)
          (young laws.moments s h before k link hop run is numbers chain of.delayed.at at.0
          (ticks_ago s (h ∷ before) k link hop chain kept of (young_ticks laws.age s (h ∷ before) k link kept run is track stands) at.0 at.1 at.2));
    }
