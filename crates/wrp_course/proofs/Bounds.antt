-- What holds of an accepted event by the premises on stamps and on beat bits.
use Rattle.std.proofs.Common.{◌≡◌, ◌∙◌, refl, ap, subst, ℕ, zero, suc, ◌+◌, ◌*◌, ◌/◌, ◌<◌, ◌≤◌, ◌&&◌, ◌||◌, ◌⊎◌, inl, inr, nat_le, nat_lt, ℤ, pos, ◌+ℤ◌, ◌-ℤ◌, ◌<ℤ◌, ◌≤ℤ◌, unsigned_abs, Bool, true, false, not, List, [], ◌∷◌, ◌++◌, map, Option, Some, arith}
use Rattle.std.proofs.lemmas.Bool.{eqb-true, false≢true, true≢false}
use Rattle.std.proofs.lemmas.Int.{ints}
use Rattle.std.specs.Int.Signed.{le_z, lt_z}
use Rattle.std.specs.Option.{option_map_or}
use Rattle.wrp_base.specs.declared.time.Clock.{Clock}
use Rattle.wrp_base.specs.declared.time.Raw.{Raw}
use Rattle.wrp_base.specs.Clock.{period_of}
use Rattle.wrp_base.specs.Division.{floor_quotient}
use Rattle.wrp_network.specs.Network.{End}
use Rattle.wrp_base.specs.Link.{other_of}
use Rattle.wrp_base.proofs.Integers.{pos_le}
use Rattle.wrp_phase.specs.Beat.{beat_bit}
use Rattle.wrp_phase.specs.BeatPattern.{KeepsBeatPattern, true_step, steps_past}
use Rattle.wrp_stamp.specs.Merge.{quarter_of, transition_of}
use Rattle.wrp_stamp.specs.StampBound.{KeepsStampBound, true_place, MayUseRising, MayUseFalling}
use Rattle.wrp_course.specs.Checks.{Check, AllHold, only_where, needs}
use Rattle.wrp_course.specs.Laws.{ArrivalKeepsStampBound, SampleKeepsBeatPattern}
use Rattle.wrp_course.specs.Premises.{bit_check, beat_by, beat_checks, sample_checks, raw_checks, received, received_at, arrive_checks, may_rise, may_fall}
use Rattle.wrp_course.specs.Setting.{Setting, entry_at, from_on, link_of, of_node}
use Rattle.wrp_course.specs.WorldAt.{WorldAt, FrameAt, has_carrier, is_on_fibre, phase_of, reading}
use Rattle.wrp_course.proofs.Told.{made}

-- ---- lists of checks that hold

split : (xs ys : List Check) → AllHold (xs ++ ys) → AllHold xs × AllHold ys
split [] ys h = (tt, h)
split (x ∷ xs) ys h = let rest : AllHold xs × AllHold ys = split xs ys h.1 in ((h.0, rest.0), rest.1)

pub holds_at : (f : ℕ → Check) (k first j : ℕ) → AllHold (map f (from_on k first)) → j < k → (f (first + j)).fails ≡ false
holds_at f zero first j h l = absurd (omega arith)
holds_at f (suc k) first zero h l = subst (λ n. (f n).fails ≡ false) (omega arith) h.0
holds_at f (suc k) first (suc j) h l =
    subst (λ n. (f n).fails ≡ false) (omega arith) (holds_at f k (first + 1) j h.1 (omega arith))

holds_from : (f : ℕ → Check) (k i : ℕ) → AllHold (map f (from_on k 0)) → i < k → (f i).fails ≡ false
holds_from f k i h l =
    let e : 0 + i ≡ i = omega arith in
    subst (λ n. (f n).fails ≡ false) e (holds_at f k 0 i h l)

-- what the event needs is there
stood : (b : Bool) → AllHold (needs b ∷ []) → b ≡ true
stood true h = refl
stood false h = absurd (true≢false h.0)

-- ---- truth values

left_of : (a b c : Bool) → ((a && not b) || c) ≡ false → a ≡ true → b ≡ true
left_of true true c h e = refl
left_of true false c h e = absurd (true≢false h)
left_of false b c h e = absurd (false≢true e)

right_of : (d a b : Bool) → (d || (a && not b)) ≡ false → a ≡ true → b ≡ true
right_of false true true h e = refl
right_of false true false h e = absurd (true≢false h)
right_of true a b h e = absurd (true≢false h)
right_of false false b h e = absurd (false≢true e)

both_of : (a b : Bool) → (a && b) ≡ false → a ≡ true → b ≡ false
both_of true b h e = h
both_of false b h e = absurd (false≢true e)

is_below : (x y : ℤ) → x <ℤ y → lt_z x y ≡ true
is_below x y h = grind (arith, ints)

is_at_most : (x y : ℤ) → x ≤ℤ y → le_z x y ≡ true
is_at_most x y h = grind (arith, ints)

pub holds_most : (x y : ℤ) → not (le_z x y) ≡ false → x ≤ℤ y
holds_most x y h = grind (arith, ints)

-- ---- the beat pattern

pattern : (clock : Clock) (beat base bits : ℕ) (phase : ℤ) → AllHold (beat_by clock beat base bits phase) → KeepsBeatPattern clock base bits beat phase
pattern clock beat base bits phase h = record {
  zeros = λ i l e.
      eqb-true (beat_bit bits i) 0
      (left_of _ _ _ (holds_from (bit_check (steps_past (true_step clock phase) base) beat bits) 64 i h l) (is_below _ _ e));
  ones = λ i l e.
      eqb-true (beat_bit bits i) 1
      (right_of _ _ _ (holds_from (bit_check (steps_past (true_step clock phase) base) beat bits) 64 i h l) (is_at_most _ _ e));
}

sample_beats : (s : Setting) (w : WorldAt) (n base bits k : ℕ) (b : Bool) (beats : List Check) → AllHold (map (only_where b) beats ++ (needs b ∷ [])) → AllHold beats
sample_beats s w n base bits k b beats h =
    let parts : AllHold (map (only_where b) beats) × AllHold (needs b ∷ []) = split (map (only_where b) beats) (needs b ∷ []) h in
    subst AllHold (ap (λ c. map (only_where c) beats) (stood b parts.1) ∙ made beats) parts.0

pub sample_keeps : SampleKeepsBeatPattern
sample_keeps s w says n base bits k link h e f =
    let at : AllHold (sample_checks s w n base bits (Some k)) = subst (λ o. AllHold (sample_checks s w n base bits o)) e h in
    let beats : AllHold (option_map_or (beat_checks s w n base bits k) (link_of s k) []) =
    sample_beats s w n base bits k (has_carrier s w k) (option_map_or (beat_checks s w n base bits k) (link_of s k) []) at in
    pattern s.cfg.clock (of_node (λ node. node.beat) s n) base bits (phase_of w k link)
    (subst (λ o. AllHold (option_map_or (beat_checks s w n base bits k) o [])) f beats)

-- ---- the stamp bound

same_number : (c : ℕ) (due : ℤ) → pos (unsigned_abs (pos c -ℤ due)) ≤ℤ pos 0 → pos c ≡ due
same_number c due h = omega (arith, ints, h)

rise : (q e p : ℕ) → q ≤ p + e → p < 3 * q + e → (nat_le q (p + e) && nat_lt p (3 * q + e)) ≡ true
rise q e p h k = grind arith

fall : (q e p : ℕ) → (p < q + e) ⊎ (3 * q ≤ p + e) → (nat_lt p (q + e) || nat_le (3 * q) (p + e)) ≡ true
fall q e p (inl h) = grind arith
fall q e p (inr h) = grind arith

falls : (clock : Clock) (e_tag place : ℕ) → MayUseFalling clock e_tag place → may_fall clock e_tag place ≡ true
falls clock e_tag place h = fall (quarter_of clock) e_tag place h

rises : (clock : Clock) (e_tag place : ℕ) → MayUseRising clock e_tag place → may_rise clock e_tag place ≡ true
rises clock e_tag place h = rise (quarter_of clock) e_tag place h.0 h.1

bound : (clock : Clock) (e_tag transition : ℕ) (at : ℤ) (raw : Raw) → AllHold (raw_checks clock e_tag transition at raw) → KeepsStampBound clock raw transition e_tag at
bound clock e_tag transition at raw h = record {
  tag = pos_le _ e_tag (holds_most _ _ h.0);
  rising = λ may. same_number raw.rising (floor_quotient at (pos (period_of clock)))
      (holds_most _ _ (both_of _ _ h.1.0 (rises clock e_tag (true_place clock at) may)));
  falling = λ may. same_number raw.falling (floor_quotient (at +ℤ pos (period_of clock / 2)) (pos (period_of clock)))
      (holds_most _ _ (both_of _ _ h.1.1.0 (falls clock e_tag (true_place clock at) may)));
}

on_fibre : (s : Setting) (w : WorldAt) (i : ℕ) (raw : Raw) (f : FrameAt) (b : Bool) → AllHold (arrive_checks s w i raw b (Some f)) → AllHold (received s w f raw)
on_fibre s w i raw f true h = (split (received s w f raw) (needs (has_carrier s w f.link) ∷ []) h.1).0
on_fibre s w i raw f false h = absurd (true≢false h.0)

pub arrival_keeps : ArrivalKeepsStampBound
arrival_keeps s w says i raw f end h e g =
    let at : AllHold (arrive_checks s w i raw (is_on_fibre (Some f)) (Some f)) = subst (λ o. AllHold (arrive_checks s w i raw (is_on_fibre o) o)) e h in
    let got : AllHold (received s w f raw) = on_fibre s w i raw f (is_on_fibre (Some f)) at in
    let entry = entry_at s f.link (other_of f.by) (w.end_at f.link (other_of f.by)).name in
    bound s.cfg.clock (of_node (λ node. node.e_tag) s end.node) (transition_of entry) (reading w end.node) raw
    (subst (λ (o : Option End). AllHold (option_map_or (λ (n : End). received_at s w entry raw n.node) o [])) g got)
