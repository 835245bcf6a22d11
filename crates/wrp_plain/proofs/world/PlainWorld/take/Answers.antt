-- Each kind of event adds itself; an exchange that keeps the premises is long enough.
use Rattle.std.proofs.Common.{◌≡◌, ℤ, pos, ◌^◌, ◌≤◌, ◌≤ℤ◌, unsigned_abs, to_z, of_z, None, subst, arith}
use Rattle.std.specs.Int.{w64}
use Rattle.std.proofs.lemmas.Int.{ints, to_z-of_z, fits_signed_from_abs}
use Rattle.wrp_plain.specs.declared.event.PlainEvent.{PlainEvent}
use Rattle.wrp_plain.specs.declared.event.PlainEvent.TheVariants.{Exch}
use Rattle.wrp_plain.specs.Event.{HasFields}
use Rattle.wrp_plain.specs.Premises.{broken_by}
use Rattle.wrp_plain.proofs.Judged.{is_long}
use Rattle.wrp_plain.proofs.History.{kept_after}
use Rattle.wrp_plain.proofs.world.PlainWorld.take.Goals as goal

same_drift : (a : ℤ) → unsigned_abs a ≤ 2 ^ 60 → to_z w64 (of_z w64 a) ≡ a
same_drift a h = to_z-of_z w64 a (fits_signed_from_abs w64 a (omega arith))

small_time : (a : ℤ) → pos 1 ≤ℤ a → a ≤ℤ pos (10 ^ 18) → unsigned_abs a ≤ 2 ^ 60
small_time a h k = omega (arith, ints)

same_time : (a : ℤ) → pos 1 ≤ℤ a → a ≤ℤ pos (10 ^ 18) → to_z w64 (of_z w64 a) ≡ a
same_time a h k = same_drift a (small_time a h k)

pub exchange-requires-clause-long : goal.exchange-requires-clause-long
exchange-requires-clause-long c =
    let P : PlainEvent → Type 0 = λ e. broken_by c.args.self.now.servo.set c.args.self.now.off c.args.self.now.since e ≡ None in
    let fields = subst HasFields c.in-Exch.is c.requires.fields in
    is_long c.args.self.now.servo.set c.args.self.now.off c.args.self.now.since c.in-Exch.span c.in-Exch.dms c.in-Exch.dsm c.in-Exch.o2 c.in-Exch.o3 c.in-Exch.t
    fields.0.0 (subst P c.in-Exch.is c.requires.kept)

pub returns-in-Pass-clause-stands : goal.returns-in-Pass-clause-stands
returns-in-Pass-clause-stands c set off events had =
    let fields = subst HasFields c.in-Pass.is c.requires.fields in
    let dt : to_z w64 (of_z w64 c.in-Pass.dt) ≡ c.in-Pass.dt = same_time c.in-Pass.dt fields.0 fields.1 in
    let drift : to_z w64 (of_z w64 c.in-Pass.drift) ≡ c.in-Pass.drift = same_drift c.in-Pass.drift fields.2 in
    rw c.in-Pass.is (simp (dt, drift) at (c.pass.ensures.stands set off events had))

pub returns-in-Exch-clause-seen : goal.returns-in-Exch-clause-seen
returns-in-Exch-clause-seen c set off events had =
    rw c.in-Exch.is (c.exchange.ensures.seen set off events c.in-Exch.span c.in-Exch.dms c.in-Exch.dsm c.in-Exch.o2 c.in-Exch.o3 had)

pub returns-in-Exch-clause-stands : goal.returns-in-Exch-clause-stands
returns-in-Exch-clause-stands c set off events had =
    let P : PlainEvent → Type 0 = λ e. broken_by c.args.self.now.servo.set c.args.self.now.off c.args.self.now.since e ≡ None in
    let event : PlainEvent = Exch c.in-Exch.span c.in-Exch.dms c.in-Exch.dsm c.in-Exch.o2 c.in-Exch.o3 c.in-Exch.t in
    rw c.in-Exch.is
    (c.exchange.ensures.stands set off events c.in-Exch.span c.in-Exch.dms c.in-Exch.dsm c.in-Exch.o2 c.in-Exch.o3 had
    (subst HasFields c.in-Exch.is c.requires.fields)
    (kept_after set off events c.args.self.now event had (subst P c.in-Exch.is c.requires.kept)))
