-- The bound of one hop over a history.
use Rattle.std.proofs.Common.{ℕ, ℤ, ◌≤◌, ◌+ℤ◌, ◌-ℤ◌, List, ◌∷◌, length, refl, subst, sym, arith, inl}
use Rattle.std.proofs.lemmas.Int.{ints}
use Rattle.std.specs.Prelude.{unsigned_abs}
use Rattle.wrp_base.specs.declared.measurement.Four.{Four}
use Rattle.wrp_base.specs.declared.link.Deltas.{Deltas}
use Rattle.wrp_base.specs.Closeness.{IsWithin}
use Rattle.wrp_bounds.specs.declared.numbers.HopNumbers.{HopNumbers}
use Rattle.wrp_bounds.specs.Hop.{age_motion}
use Rattle.wrp_tracking_laws.specs.Moment.{Moment, ways_at}
use Rattle.wrp_tracking_laws.specs.Rates.{KeepsRates, KeepsParentRate}
use Rattle.wrp_tracking_laws.specs.ErrorSum.{delay_sum, FourFacts, PhaseFacts, HopFacts}
use Rattle.wrp_tracking_laws.specs.Chain.{Good, GoodTells, KeepsLimits, IsRecent}
use Rattle.wrp_tracking_laws.specs.HopInTrack.{WaysTold, FourHolds, HopStands, EstimateHolds, HopHolds}
use Rattle.wrp_tracking_laws.proofs.Histories.{was_before}
use Rattle.wrp_tracking_laws.proofs.Sums.{both_moved}
use Rattle.wrp_tracking_laws.proofs.ErrorSums.{estimate-near, hop-sum}
use Rattle.wrp_tracking_laws.proofs.Chains.{parent_between, rates_between, time_between, parent_time_between, good_at}
use Rattle.wrp_tracking_laws.proofs.Trees.{span}

ways_apart : (d u d0 u0 : ℤ) (m : ℕ) → unsigned_abs ((d -ℤ d0) +ℤ (u -ℤ u0)) ≤ m → IsWithin m (d0 +ℤ u0) (d +ℤ u)
ways_apart d u d0 u0 m moved = omega (arith, ints)

-- the four's ways have moved at most by the age's motion
four_facts : (hop : HopNumbers) (now : Moment) (past : List Moment) (from start : ℕ) (constant : ℤ) (four : Four) → KeepsLimits hop (now ∷ past) from start → FourHolds hop now past from constant four → FourFacts hop constant four now
four_facts hop now past from start constant four limits holds =
    let told : WaysTold hop (now ∷ past) from constant (delay_sum four) = holds.delay in
    let aged : told.at ≤ length past = was_before told.at told.sent now past told.was in
    let rates : KeepsParentRate hop told.sent now (unsigned_abs (now.time -ℤ told.sent.time)) =
    parent_between hop (now ∷ past) from told.at (length past) told.sent now limits.above told.was (inl (refl, refl)) told.since aged in
    let near : unsigned_abs (now.time -ℤ told.sent.time) ≤ hop.age_time =
    span told.sent.time now.time hop.age_time (parent_time_between hop told.sent now (unsigned_abs (now.time -ℤ told.sent.time)) rates) holds.young in
    let moved : unsigned_abs ((now.down -ℤ told.sent.down) +ℤ (now.up -ℤ told.sent.up)) ≤ age_motion hop =
    both_moved (now.down -ℤ told.sent.down) (now.up -ℤ told.sent.up) (unsigned_abs (now.time -ℤ told.sent.time)) hop.age_time rates.down rates.up near in
    record {
      ways = ways_at told.sent;
      sync = holds.sync;
      delay = told.tells;
      moved = ways_apart now.down now.up told.sent.down told.sent.up (age_motion hop) moved;
    }

-- the newest sample was at most a gap ago
phase_facts : (hop : HopNumbers) (now : Moment) (past : List Moment) (from start : ℕ) (constant : ℤ) (newest : Good) → KeepsLimits hop (now ∷ past) from start → GoodTells hop (now ∷ past) start constant newest →
    (recent : IsRecent newest.at now past hop.gap_time) → PhaseFacts hop constant newest.u recent.moment now
phase_facts hop now past from start constant newest limits tells recent =
    let order : newest.at ≤ length past = was_before newest.at recent.moment now past recent.was in
    let rates : KeepsRates hop recent.moment now (unsigned_abs (now.time -ℤ recent.moment.time)) =
    rates_between hop (now ∷ past) from start newest.at (length past) recent.moment now limits recent.was (inl (refl, refl)) tells.since order in
    record {
      phase = good_at hop (now ∷ past) start constant newest recent.moment tells recent.was;
      wait = unsigned_abs (now.time -ℤ recent.moment.time);
      since = rates;
      near = span recent.moment.time now.time hop.gap_time (time_between hop recent.moment now (unsigned_abs (now.time -ℤ recent.moment.time)) rates) recent.near;
    }

hop_facts : (hop : HopNumbers) (now : Moment) (past : List Moment) (deltas : Deltas) (four : Four) (y u : ℤ) → (stands : HopStands hop now past deltas four y u) → HopFacts hop stands.constant four deltas y u stands.recent.moment now
hop_facts hop now past deltas four y u stands =
    let P : ℤ → Type 0 = λ v. PhaseFacts hop stands.constant v stands.recent.moment now in
    record {
      stamps = four_facts hop now past stands.from stands.start stands.constant four stands.chain.limits stands.four_true;
      phase = subst P (sym stands.u_is) (phase_facts hop now past stands.from stands.start stands.constant stands.newest stands.chain.limits stands.chain.goods.0 stands.recent);
      fibre = stands.fibre;
      answer = stands.answer;
    }

pub estimate-holds : EstimateHolds
estimate-holds hop now past deltas four y u stands =
    estimate-near hop stands.constant four deltas y u stands.recent.moment now (hop_facts hop now past deltas four y u stands)

pub hop-holds : HopHolds
hop-holds hop now past deltas four y u loop_error stands limits =
    hop-sum hop stands.constant four deltas y u loop_error stands.recent.moment now (hop_facts hop now past deltas four y u stands) limits
