-- The first premise that an event breaks is reported.
use Rattle.std.proofs.Common.{◌≡◌, ℤ, pos, ◌^◌, ◌≤◌, ◌≤ℤ◌, unsigned_abs, to_z, of_z, rules, ap₂, ◌∙◌, subst, ap, sym, arith}
use Rattle.std.specs.Int.{w64, w128}
use Rattle.std.proofs.lemmas.Int.{ints, to_z-of_z, fits_signed_from_abs}
use Rattle.wrp_plain.specs.Event.{HasFields, IsShort}
use Rattle.wrp_plain.specs.Premises.{stamps_broken, broken_by, found_broken}
use Rattle.wrp_plain.proofs.Judged.{kept, broke, breaks_span, breaks_least, breaks_moves, breaks_stamps}
use Rattle.wrp_plain.proofs.premises.judge.Goals as goal

small_time : (a : ℤ) → pos 0 ≤ℤ a → a ≤ℤ pos (2 ^ 60) → unsigned_abs a ≤ 2 ^ 60
small_time a h k = omega (arith, ints)

same_time : (a : ℤ) → IsShort a → to_z w64 (of_z w64 a) ≡ a
same_time a short =
    let small : unsigned_abs a ≤ 2 ^ 60 = small_time a short.0 short.1 in
    to_z-of_z w64 a (fits_signed_from_abs w64 a (omega arith))

same_offset : (a : ℤ) → unsigned_abs a ≤ 2 ^ 94 → to_z w128 (of_z w128 a) ≡ a
same_offset a h = to_z-of_z w128 a (fits_signed_from_abs w128 a (omega arith))

same_error : (a : ℤ) → unsigned_abs a ≤ 2 ^ 125 → to_z w128 (of_z w128 a) ≡ a
same_error a h = to_z-of_z w128 a (fits_signed_from_abs w128 a (omega arith))

-- a drift, and a time that passes, are read as they are
same_drift : (a : ℤ) → unsigned_abs a ≤ 2 ^ 60 → to_z w64 (of_z w64 a) ≡ a
same_drift a h = to_z-of_z w64 a (fits_signed_from_abs w64 a (omega arith))

same_pass : (a : ℤ) → pos 1 ≤ℤ a → a ≤ℤ pos (10 ^ 18) → to_z w64 (of_z w64 a) ≡ a
same_pass a h k = same_time a (omega (arith, ints), omega (arith, ints))

pub returns-in-Pass : goal.returns-in-Pass
returns-in-Pass c =
    let fields = subst HasFields c.in-Pass.is c.requires.event in
    let dt : to_z w64 (of_z w64 c.in-Pass.dt) ≡ c.in-Pass.dt = same_pass c.in-Pass.dt fields.0 fields.1 in
    let drift : to_z w64 (of_z w64 c.in-Pass.drift) ≡ c.in-Pass.drift = same_drift c.in-Pass.drift fields.2 in
    simp (dt, drift) at c.judge_pass.ensures ∙ ap (broken_by c.args.set.now c.args.off c.args.since) (sym c.in-Pass.is)

pub returns-in_err-judge_span-in-Exch : goal.returns-in_err-judge_span-in-Exch
returns-in_err-judge_span-in-Exch c =
    let fields = subst HasFields c.in-Exch.is c.requires.event in
    let span : to_z w64 (of_z w64 c.in-Exch.span) ≡ c.in-Exch.span = same_time c.in-Exch.span fields.0 in
    let told : found_broken c.from_residual.result ≡ found_broken c.judge_span.result = search rules in
    let over = simp span at c.judge_span.ensures in
    breaks_span c.args.set.now c.args.off c.args.since c.in-Exch.span c.in-Exch.dms c.in-Exch.dsm c.in-Exch.o2 c.in-Exch.o3 c.in-Exch.t c.args.event.now _ _
    c.in-Exch.is (broke _ _ _ c.in_err-judge_span-in-Exch.was over) (told ∙ over)

pub returns-in_err-judge_least-in-Exch : goal.returns-in_err-judge_least-in-Exch
returns-in_err-judge_least-in-Exch c =
    let fields = subst HasFields c.in-Exch.is c.requires.event in
    let span : to_z w64 (of_z w64 c.in-Exch.span) ≡ c.in-Exch.span = same_time c.in-Exch.span fields.0 in
    let dms : to_z w64 (of_z w64 c.in-Exch.dms) ≡ c.in-Exch.dms = same_time c.in-Exch.dms fields.1 in
    let dsm : to_z w64 (of_z w64 c.in-Exch.dsm) ≡ c.in-Exch.dsm = same_time c.in-Exch.dsm fields.2 in
    let told : found_broken c.from_residual-in_err-judge_least-in-Exch.result ≡ found_broken c.judge_least.result = search rules in
    let least = simp (dms, dsm) at c.judge_least.ensures in
    breaks_least c.args.set.now c.args.off c.args.since c.in-Exch.span c.in-Exch.dms c.in-Exch.dsm c.in-Exch.o2 c.in-Exch.o3 c.in-Exch.t c.args.event.now _ _
    c.in-Exch.is (kept _ _ _ c.in_ok-judge_span-in-Exch.was (simp span at c.judge_span.ensures)) (broke _ _ _ c.in_err-judge_least-in-Exch.was least)
    (told ∙ least)

pub returns-in_err-judge_moves-in-Exch : goal.returns-in_err-judge_moves-in-Exch
returns-in_err-judge_moves-in-Exch c =
    let fields = subst HasFields c.in-Exch.is c.requires.event in
    let span : to_z w64 (of_z w64 c.in-Exch.span) ≡ c.in-Exch.span = same_time c.in-Exch.span fields.0 in
    let dms : to_z w64 (of_z w64 c.in-Exch.dms) ≡ c.in-Exch.dms = same_time c.in-Exch.dms fields.1 in
    let dsm : to_z w64 (of_z w64 c.in-Exch.dsm) ≡ c.in-Exch.dsm = same_time c.in-Exch.dsm fields.2 in
    let o2 : to_z w128 (of_z w128 c.in-Exch.o2) ≡ c.in-Exch.o2 = same_offset c.in-Exch.o2 fields.3 in
    let o3 : to_z w128 (of_z w128 c.in-Exch.o3) ≡ c.in-Exch.o3 = same_offset c.in-Exch.o3 fields.4 in
    let off : to_z w128 (of_z w128 c.args.off) ≡ c.args.off = same_offset c.args.off c.requires.off in
    let told : found_broken c.from_residual-in_err-judge_moves-in-Exch.result ≡ found_broken c.judge_moves.result = search rules in
    let moves = simp (off, span, o2, o3) at c.judge_moves.ensures in
    breaks_moves c.args.set.now c.args.off c.args.since c.in-Exch.span c.in-Exch.dms c.in-Exch.dsm c.in-Exch.o2 c.in-Exch.o3 c.in-Exch.t c.args.event.now _ _
    c.in-Exch.is (kept _ _ _ c.in_ok-judge_span-in-Exch.was (simp span at c.judge_span.ensures)) (kept _ _ _ c.in_ok-judge_least-in-Exch.was (simp (dms, dsm) at c.judge_least.ensures))
    (broke _ _ _ c.in_err-judge_moves-in-Exch.was moves) (told ∙ moves)

pub returns-in_ok-judge_moves-in-Exch : goal.returns-in_ok-judge_moves-in-Exch
returns-in_ok-judge_moves-in-Exch c =
    let fields = subst HasFields c.in-Exch.is c.requires.event in
    let span : to_z w64 (of_z w64 c.in-Exch.span) ≡ c.in-Exch.span = same_time c.in-Exch.span fields.0 in
    let dms : to_z w64 (of_z w64 c.in-Exch.dms) ≡ c.in-Exch.dms = same_time c.in-Exch.dms fields.1 in
    let dsm : to_z w64 (of_z w64 c.in-Exch.dsm) ≡ c.in-Exch.dsm = same_time c.in-Exch.dsm fields.2 in
    let o2 : to_z w128 (of_z w128 c.in-Exch.o2) ≡ c.in-Exch.o2 = same_offset c.in-Exch.o2 fields.3 in
    let o3 : to_z w128 (of_z w128 c.in-Exch.o3) ≡ c.in-Exch.o3 = same_offset c.in-Exch.o3 fields.4 in
    let off : to_z w128 (of_z w128 c.args.off) ≡ c.args.off = same_offset c.args.off c.requires.off in
    let down : to_z w128 (of_z w128 c.down_error.result) ≡ c.down_error.result = same_error c.down_error.result c.down_error.ensures.small in
    let up : to_z w128 (of_z w128 c.up_error.result) ≡ c.up_error.result = same_error c.up_error.result c.up_error.ensures.small in
    breaks_stamps c.args.set.now c.args.off c.args.since c.in-Exch.span c.in-Exch.dms c.in-Exch.dsm c.in-Exch.o2 c.in-Exch.o3 c.in-Exch.t c.args.event.now _
    c.in-Exch.is (kept _ _ _ c.in_ok-judge_span-in-Exch.was (simp span at c.judge_span.ensures)) (kept _ _ _ c.in_ok-judge_least-in-Exch.was (simp (dms, dsm) at c.judge_least.ensures))
    (kept _ _ _ c.in_ok-judge_moves-in-Exch.was (simp (off, span, o2, o3) at c.judge_moves.ensures))
    (simp (down, up) at c.judge_stamps.ensures
    ∙ ap₂ (stamps_broken c.args.set.now) (simp (dms, o2) at c.down_error.ensures.value) (simp (dsm, o3) at c.up_error.ensures.value))
