-- An exchange adds itself, and moves the clock by its command.
use Rattle.std.proofs.Common.{◌≡◌, ℕ, ℤ, ◌+◌, ◌*◌, ◌^◌, ◌≤◌, ◌<◌, ◌+ℤ◌, unsigned_abs, to_z, of_z, FitsSigned, Some, ap₂, ◌∙◌, sym, subst, refl, arith}
use Rattle.std.specs.Int.{w64, w128}
use Rattle.std.proofs.lemmas.Int.{to_z-of_z, fits_signed_from_abs}
use Rattle.wrp_plain.specs.declared.settings.PlainOut.{PlainOut}
use Rattle.wrp_plain.specs.Event.{t1_of, t2_of, t3_of, t4_of}
use Rattle.wrp_plain.specs.Out.{IsOut, HasSmallCommand, calls_after}
use Rattle.wrp_plain.specs.StandsFor.{StandsFor}
use Rattle.wrp_plain.specs.Seen.{calls_of}
use Rattle.wrp_plain.specs.World.{WorldAt, HadEvents}
use Rattle.wrp_plain.proofs.History.{seen, exchange_gives, exchange_adds}
use Rattle.wrp_plain.proofs.world.PlainWorld.exchange.Goals as goal

fits : (a : ℤ) → unsigned_abs a ≤ 2 ^ 126 → FitsSigned w128 a
fits a h = fits_signed_from_abs w128 a (omega arith)

fits_command : (a : ℤ) → unsigned_abs a ≤ 2 ^ 60 → FitsSigned w64 a
fits_command a h = fits_signed_from_abs w64 a (omega arith)

fits_off : (a : ℤ) (n : ℕ) → unsigned_abs a ≤ 2 ^ 62 + 2 ^ 61 * n → n < 2 ^ 32 → FitsSigned w128 a
fits_off a n h k = fits_signed_from_abs w128 a (omega arith)

same_stamp : (a : ℤ) → unsigned_abs a ≤ 2 ^ 61 → to_z w64 (of_z w64 a) ≡ a
same_stamp a h = to_z-of_z w64 a (fits_signed_from_abs w64 a (omega arith))

pub returns-clause-seen : goal.returns-clause-seen
returns-clause-seen c set off events span dms dsm o2 o3 had =
    let P : WorldAt → Type 0 = λ w. HadEvents set off w events in
    let Q : PlainOut → Type 0 = λ o. IsOut set (calls_of set events) (t1_of c.args.t.now) (t2_of c.args.t.now) (t3_of c.args.t.now) (t4_of c.args.t.now) o in
    let known = subst P (sym c.self.view_is) had in
    let s1 : to_z w64 (of_z w64 (t1_of c.args.t.now)) ≡ t1_of c.args.t.now = same_stamp (t1_of c.args.t.now) c.requires.stamps.t1 in
    let s2 : to_z w64 (of_z w64 (t2_of c.args.t.now)) ≡ t2_of c.args.t.now = same_stamp (t2_of c.args.t.now) c.requires.stamps.t2 in
    let s3 : to_z w64 (of_z w64 (t3_of c.args.t.now)) ≡ t3_of c.args.t.now = same_stamp (t3_of c.args.t.now) c.requires.stamps.t3 in
    let s4 : to_z w64 (of_z w64 (t4_of c.args.t.now)) ≡ t4_of c.args.t.now = same_stamp (t4_of c.args.t.now) c.requires.stamps.t4 in
    let out = subst Q c.taken-command.ensures (simp (s1, s2, s3, s4) at (c.measured.ensures.value set (calls_of set events) known.servo)) in
    let small = subst HasSmallCommand c.taken-command.ensures c.measured.ensures.command in
    ap₂ (seen (Some c.taken-command.result.0))
    (to_z-of_z w64 c.taken-command.result.1 (fits_command c.taken-command.result.1 small))
    (to_z-of_z w128 c.self.inside.off (fits_off c.self.inside.off c.self.inside.events c.self.invariant.3 (omega arith)))
    ∙ exchange_gives set off events span dms dsm o2 o3 c.args.t.now _ known c.taken-command.result.0 c.taken-command.result.1 c.self.inside.off out refl

pub returns-clause-stands : goal.returns-clause-stands
returns-clause-stands c set off events span dms dsm o2 o3 had fields kept =
    let P : WorldAt → Type 0 = λ w. HadEvents set off w events in
    let Q : PlainOut → Type 0 = λ o. IsOut set (calls_of set events) (t1_of c.args.t.now) (t2_of c.args.t.now) (t3_of c.args.t.now) (t4_of c.args.t.now) o in
    let R : PlainOut → Type 0 = λ o. StandsFor set c.measured.new.self (calls_after (calls_of set events) (t1_of c.args.t.now) (t2_of c.args.t.now) (t3_of c.args.t.now) (t4_of c.args.t.now) o) in
    let known = subst P (sym c.self.view_is) had in
    let s1 : to_z w64 (of_z w64 (t1_of c.args.t.now)) ≡ t1_of c.args.t.now = same_stamp (t1_of c.args.t.now) c.requires.stamps.t1 in
    let s2 : to_z w64 (of_z w64 (t2_of c.args.t.now)) ≡ t2_of c.args.t.now = same_stamp (t2_of c.args.t.now) c.requires.stamps.t2 in
    let s3 : to_z w64 (of_z w64 (t3_of c.args.t.now)) ≡ t3_of c.args.t.now = same_stamp (t3_of c.args.t.now) c.requires.stamps.t3 in
    let s4 : to_z w64 (of_z w64 (t4_of c.args.t.now)) ≡ t4_of c.args.t.now = same_stamp (t4_of c.args.t.now) c.requires.stamps.t4 in
    let out = subst Q c.taken-command.ensures (simp (s1, s2, s3, s4) at (c.measured.ensures.value set (calls_of set events) known.servo)) in
    let stands = subst R c.taken-command.ensures (simp (s1, s2, s3, s4) at (c.measured.ensures.stands set (calls_of set events) known.servo)) in
    let moved : c.sum-self-inside.result ≡ c.self.inside.off +ℤ c.taken-command.result.1 = grind (arith, to_z-of_z, c.sum-self-inside.ensures.value, c.into.ensures) in
    exchange_adds set off events span dms dsm o2 o3 c.args.t.now _ known fields kept c.measured.new.self c.taken-command.result.0 c.taken-command.result.1 _ _ out stands
    (to_z-of_z w128 c.sum-self-inside.result (fits c.sum-self-inside.result c.sum-self-inside.ensures.size) ∙ moved) refl
