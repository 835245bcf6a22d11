-- What each call adds to the list that a servo stands for.
use Rattle.std.proofs.Common.{◌≡◌, ℕ, ℤ, pos, ◌+◌, ◌-◌, ◌+ℤ◌, List, ◌∷◌, map, take, length, ◌≤◌, ap, ap₂, ◌∙◌, sym, subst, arith}
use Rattle.std.proofs.lemmas.Int.{ints}
use Rattle.std.proofs.lemmas.List.{take-map, length-take}
use Rattle.circular_buffer.specs.Buffer.{Buffer, buffer}
use Rattle.wrp_base.specs.Calls.{Adds}
use Rattle.wrp_plain.specs.declared.settings.PlainSet.{PlainSet}
use Rattle.wrp_plain.specs.declared.kept.Kept.{Kept}
use Rattle.wrp_plain.specs.Measurement.{est_of, base_of, round_of}
use Rattle.wrp_plain.specs.Call.{Call, CallMeasured, CallTick, CallCommand, Standing, standings}
use Rattle.wrp_plain.specs.Report.{report_at, least_report, report_of}
use Rattle.wrp_plain.specs.StandsFor.{PlainAt, mark_of, marks_from, marks_at, StandsFor, IsKept, AreKept}
use Rattle.wrp_plain.proofs.Marks.{later, moved_by, marks_before-tick, marks_before-moved, marks_from-tick, marks_from-moved, marks_from-take, take-cons, AreKept-take, ticked}

pub Adds-tick : (told : PlainSet) (ring : List Kept) (last : ℤ) (ticks : ℕ) (old : PlainAt) →
    record { set = told; ring = ring; last = last; ticks = ticks } ≡ old → AreKept ticks ring → (set : PlainSet) →
    Adds (StandsFor set) old (record { set = told; ring = ring; last = last; ticks = ticks + 1 }) CallTick
Adds-tick told ring last ticks old is are set calls stands =
    let P : PlainAt → Type 0 = λ plain. StandsFor set plain calls in
    let known : StandsFor set (record { set = told; ring = ring; last = last; ticks = ticks }) calls = subst P (sym is) stands in
    record {
      set_is = known.set_is;
      marks_are =
          marks_from-tick last ticks ring are ∙ ap (map later) known.marks_are ∙ sym (take-map later set.ring (standings set calls))
          ∙ ap (take set.ring) (sym (marks_before-tick set (pos 0) 0 calls));
      ticks_are = ap (λ n. n + 1) known.ticks_are;
    }

pub none_moved : (a : ℤ) → pos 0 +ℤ a ≡ a
none_moved a = omega (arith, ints)

pub Adds-command : (told : PlainSet) (ring : List Kept) (last by : ℤ) (ticks : ℕ) (old : PlainAt) →
    record { set = told; ring = ring; last = last; ticks = ticks } ≡ old → old.last ≡ pos 0 → (set : PlainSet) →
    Adds (StandsFor set) old (record { set = told; ring = ring; last = by; ticks = ticks }) (CallCommand by)
Adds-command told ring last by ticks old is resting set calls stands =
    let P : PlainAt → Type 0 = λ plain. StandsFor set plain calls in
    let known : StandsFor set (record { set = told; ring = ring; last = last; ticks = ticks }) calls = subst P (sym is) stands in
    let rest : last ≡ pos 0 = ap (λ (plain : PlainAt). plain.last) is ∙ resting in
    record {
      set_is = known.set_is;
      marks_are =
          ap (λ (a : ℤ). marks_from a ticks ring) (sym (none_moved by)) ∙ marks_from-moved (pos 0) by ticks ring
          ∙ ap (λ (a : ℤ). map (moved_by by) (marks_from a ticks ring)) (sym rest)
          ∙ ap (map (moved_by by)) known.marks_are ∙ sym (take-map (moved_by by) set.ring (standings set calls))
          ∙ ap (take set.ring) (sym (marks_before-moved set (pos 0) by 0 calls));
      ticks_are = known.ticks_are;
    }

none_since : (n : ℕ) → n - n ≡ 0
none_since n = omega arith

pub Adds-measured : (told : PlainSet) (ring new : List Kept) (last : ℤ) (ticks : ℕ) (est base round : ℤ) (old : PlainAt) →
    record { set = told; ring = ring; last = last; ticks = ticks } ≡ old →
    new ≡ take told.ring (record { est = est; base = base; ticks = ticks; before = last } ∷ ring) → base ≡ base_of old.set round →
    (set : PlainSet) (t1 t2 t3 t4 : ℤ) → round ≡ round_of t1 t2 t3 t4 → est ≡ est_of t1 t2 t3 t4 →
    Adds (StandsFor set) old (record { set = told; ring = new; last = pos 0; ticks = ticks }) (CallMeasured t1 t2 t3 t4)
unfolding ticked
Adds-measured told ring new last ticks est base round old is pushed based set t1 t2 t3 t4 rounds ests calls stands =
    let P : PlainAt → Type 0 = λ plain. StandsFor set plain calls in
    let known : StandsFor set (record { set = told; ring = ring; last = last; ticks = ticks }) calls = subst P (sym is) stands in
    let kept : Kept = record { est = est; base = base; ticks = ticks; before = last } in
    let est_is : est +ℤ pos 0 ≡ est_of t1 t2 t3 t4 +ℤ pos 0 = ap (λ (a : ℤ). a +ℤ pos 0) ests in
    let base_is : base ≡ base_of set (round_of t1 t2 t3 t4) =
    based ∙ ap (λ (s : PlainSet). base_of s round) stands.set_is ∙ ap (base_of set) rounds in
    let mark_is : mark_of (pos 0) ticks kept ≡ ticked (est_of t1 t2 t3 t4 +ℤ pos 0) (base_of set (round_of t1 t2 t3 t4)) 0 =
    ap (λ (a : ℤ). ticked a base (ticks - ticks)) est_is ∙ ap (λ (b : ℤ). ticked (est_of t1 t2 t3 t4 +ℤ pos 0) b (ticks - ticks)) base_is
    ∙ ap (ticked (est_of t1 t2 t3 t4 +ℤ pos 0) (base_of set (round_of t1 t2 t3 t4))) (none_since ticks) in
    let rest_are : marks_from (pos 0 +ℤ last) ticks ring ≡ take set.ring (standings set calls) =
    ap (λ (a : ℤ). marks_from a ticks ring) (none_moved last) ∙ known.marks_are in
    record {
      set_is = known.set_is;
      marks_are =
          ap (marks_from (pos 0) ticks) pushed ∙ marks_from-take (pos 0) ticks told.ring (kept ∷ ring)
          ∙ ap (λ (n : ℕ). take n (marks_from (pos 0) ticks (kept ∷ ring))) (ap (λ (s : PlainSet). s.ring) known.set_is)
          ∙ ap₂ (λ (m : Standing) (ms : List Standing). take set.ring (m ∷ ms)) mark_is rest_are
          ∙ take-cons set.ring (ticked (est_of t1 t2 t3 t4 +ℤ pos 0) (base_of set (round_of t1 t2 t3 t4)) 0) (standings set calls);
      ticks_are = known.ticks_are;
    }

-- the report of what is kept is the expected report
pub report_of-is : (set : PlainSet) (plain : PlainAt) (calls : List Call) → StandsFor set plain calls →
    least_report (map (report_at plain.set) (marks_at plain)) ≡ report_of set calls
report_of-is set plain calls stands =
    ap₂ (λ (s : PlainSet) (ms : List Standing). least_report (map (report_at s) ms)) stands.set_is stands.marks_are

-- a full ring stays within its length when one more measurement is kept
pub pushed : (new : Buffer Kept) (cap n ticks : ℕ) (kept : Kept) (ring : List Kept) → new ≡ buffer (take cap (kept ∷ ring)) cap →
    cap ≡ n → IsKept ticks kept → AreKept ticks ring →
    (new.capacity ≡ n) × (length new.items ≤ n) × AreKept ticks new.items
pushed new cap n ticks kept ring is same is_kept are =
    let P : Buffer Kept → Type 0 = λ b. (b.capacity ≡ n) × (length b.items ≤ n) × AreKept ticks b.items in
    subst P (sym is) (same, omega (arith, length-take {A = Kept}), AreKept-take ticks cap (kept ∷ ring) (is_kept, are))
