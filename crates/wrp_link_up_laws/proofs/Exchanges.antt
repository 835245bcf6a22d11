-- The exchange of the delays: the giver's steps and the taker's.
use Rattle.std.proofs.Common.{◌≡◌, ◌⊎◌, inl, inr, refl, sym, ap, ◌∙◌, subst, subst₂, ℤ, ℕ, ◌+◌, ◌*◌, ◌<◌, ◌≤◌, pos, true, List, [], ◌∷◌, Option, None, Some, arith, ◌+ℤ◌, ◌≤ℤ◌}
use Rattle.std.proofs.lemmas.Int.{ints}
use Rattle.wrp_base.specs.declared.link.LinkState.{LinkState}
use Rattle.wrp_base.specs.declared.link.LinkState.TheVariants.{Locked, Calibration, Calibrated, RespCalib}
use Rattle.wrp_base.specs.declared.link.Module.{Module}
use Rattle.wrp_base.specs.declared.link.Role.{Role}
use Rattle.wrp_base.specs.declared.link.Role.TheVariants.{Master, Slave}
use Rattle.wrp_base.specs.declared.message.WrMsg.{WrMsg}
use Rattle.wrp_base.specs.declared.message.WrMsg.TheVariants.{Calibrate as CALIBRATE, Calibrated as CALIBRATED, ModeOn as WR_MODE_ON}
use Rattle.wrp_base.specs.Link.{other_of}
use Rattle.wrp_link.specs.declared.interface.LinkIn.{LinkIn}
use Rattle.wrp_link.specs.declared.interface.LinkIn.TheVariants.{Msg}
use Rattle.wrp_link.specs.LinkAt.{LinkAt, wait_of}
use Rattle.wrp_link.specs.Rows.{own_calibrate, own_calibrated, resent}
use Rattle.wrp_handshake_laws.specs.Ends.{Sending, BothPorts, Change, Hears, IsAmong, stamped}
use Rattle.wrp_link_up_laws.specs.Pace.{InTurn, IsUnheard, IsHeard}
use Rattle.wrp_link_up_laws.proofs.Ports.{Given, Holds, BothHold, PortUp, IsFresh, Outcome, stays, moves, reached, told_from, Runs, same_waiting}
use Rattle.wrp_link_up_laws.proofs.Sums.{le_self}
use Rattle.wrp_link_up_laws.proofs.Tells.{Turns, MovesBy}
use Rattle.wrp_link_up_laws.proofs.Sums.{some_left}
use Rattle.wrp_link_up_laws.proofs.Stages.{a_wait, before_calibrate, Exchange, calls, answers, tells, waits, within, IsPatient, patient_at, untimed, soon_x, soon_y, exchange_soon}

-- sums
pub soon_0 : (a b time : ℤ) (y z : ℕ) → a ≤ℤ b → time ≤ℤ (a +ℤ pos y) → y ≤ z → time ≤ℤ (b +ℤ pos z)
soon_0 a b time y z h t le = omega (arith, ints)

pub grown : (a b : ℤ) (n : ℕ) → a ≤ℤ b → a ≤ℤ (b +ℤ pos n)
grown a b n h = omega (arith, ints)

pub both_later : (a b c : ℤ) (n : ℕ) → a ≤ℤ (b +ℤ pos n) → b ≤ℤ c → a ≤ℤ (c +ℤ pos n)
both_later a b c n h k = omega (arith, ints)

too_soon : (delay dmin x : ℕ) (c ge time : ℤ) → delay + dmin < x → (ge +ℤ pos x) ≤ℤ (time +ℤ pos dmin) → time ≤ℤ (c +ℤ pos delay) → c ≤ℤ ge → ⊥
too_soon delay dmin x c ge time h e t k = omega (arith, ints)

pub not_self : (r : Role) → other_of r ≡ r → ⊥
not_self Master e = cc
not_self Slave e = cc

own_told : (o : Option Module) → (tx : ℕ) × ((rx : ℕ) × (own_calibrated o ≡ CALIBRATED tx rx))
own_told None = (0, (0, refl))
own_told (Some m) = (m.tx, (m.rx, refl))

-- what a port in CALIBRATED sends again
resent_told : (l : LinkAt) (time : ℤ) (ms : List WrMsg) → l.state ≡ Calibrated → ms ≡ resent l l.state → (tx : ℕ) × ((rx : ℕ) × IsAmong (CALIBRATED tx rx, time) (stamped time ms []))
resent_told l time ms is again =
    let o : (tx : ℕ) × ((rx : ℕ) × (own_calibrated l.own_module ≡ CALIBRATED tx rx)) = own_told l.own_module in
    let all : own_calibrate ∷ (own_calibrated l.own_module ∷ []) ≡ ms = sym (again ∙ ap (λ s. resent l s) is) in
    (o.0, (o.1.0, subst (λ (xs : List WrMsg). IsAmong (CALIBRATED o.0 o.1.0, time) (stamped time xs [])) all (inl (ap (λ (m : WrMsg). (m, time)) (sym o.1.1)))))

calibrate_turns : (taker : Role) (l : LinkAt) (input : LinkIn) → l.state ≡ before_calibrate taker → input ≡ Msg own_calibrate → Turns l taker l.state input
calibrate_turns Slave l input s i = subst₂ (λ (x : LinkState) (y : LinkIn). Turns l Slave x y) (sym s) (sym i) tt
calibrate_turns Master l input s i = subst₂ (λ (x : LinkState) (y : LinkIn). Turns l Master x y) (sym s) (sym i) tt

calibrated_turns : (taker : Role) (l : LinkAt) (input : LinkIn) (tx rx : ℕ) → l.state ≡ RespCalib → input ≡ Msg (CALIBRATED tx rx) → Turns l taker l.state input
calibrated_turns Slave l input tx rx s i = subst₂ (λ (x : LinkState) (y : LinkIn). Turns l Slave x y) (sym s) (sym i) tt
calibrated_turns Master l input tx rx s i = subst₂ (λ (x : LinkState) (y : LinkIn). Turns l Master x y) (sym s) (sym i) tt

from_calibration : (role : Role) (l : LinkAt) (input : LinkIn) (to : LinkState) (ms : List WrMsg) → MovesBy l role Calibration input to ms → to ≡ Calibrated
from_calibration Slave l input to ms m = m.1.0
from_calibration Master l input to ms m = m.1.0

from_before : (taker : Role) (l : LinkAt) (input : LinkIn) (to : LinkState) (ms : List WrMsg) → MovesBy l taker (before_calibrate taker) input to ms → to ≡ RespCalib
from_before Slave l input to ms m = m.1.0
from_before Master l input to ms m = m.1.0

from_resp : (taker : Role) (l : LinkAt) (input : LinkIn) (to : LinkState) (ms : List WrMsg) → MovesBy l taker RespCalib input to ms → (tx : ℕ) × ((rx : ℕ) × (input ≡ Msg (CALIBRATED tx rx)))
from_resp Slave l input to ms m = m.0
from_resp Master l input to ms m = m.0

-- a giver in CALIBRATED is not moved on while the taker takes
not_on_before :
    (taker : Role) (l rl : LinkAt) (input : LinkIn) (to : LinkState) (ms : List WrMsg) →
    MovesBy l (other_of taker) Calibrated input to ms → rl.state ≡ before_calibrate taker →
    ((m : WrMsg) → input ≡ Msg m → told_from taker m ≤ reached taker rl.state) → ⊥
not_on_before Slave l rl input to ms m s told =
    absurd (omega (arith, subst (λ (x : LinkState). 5 ≤ reached Slave x) s (told (CALIBRATE m.0.0 m.0.1.0 m.0.1.1.0) m.0.1.1.1)))
not_on_before Master l rl input to ms m s told =
    absurd (omega (arith, subst (λ (x : LinkState). 5 ≤ reached Master x) s (told WR_MODE_ON m.0)))

not_on_resp :
    (taker : Role) (l rl : LinkAt) (input : LinkIn) (to : LinkState) (ms : List WrMsg) →
    MovesBy l (other_of taker) Calibrated input to ms → rl.state ≡ RespCalib →
    ((m : WrMsg) → input ≡ Msg m → told_from taker m ≤ reached taker rl.state) → ⊥
not_on_resp Slave l rl input to ms m s told =
    absurd (omega (arith, subst (λ (x : LinkState). 5 ≤ reached Slave x) s (told (CALIBRATE m.0.0 m.0.1.0 m.0.1.1.0) m.0.1.1.1)))
not_on_resp Master l rl input to ms m s told =
    absurd (omega (arith, subst (λ (x : LinkState). 5 ≤ reached Master x) s (told WR_MODE_ON m.0)))

-- a giver in CALIBRATION has not given any delays yet
not_told_yet :
    (taker : Role) (gl : LinkAt) (input : LinkIn) (tx rx : ℕ) → input ≡ Msg (CALIBRATED tx rx) → gl.state ≡ Calibration →
    ((m : WrMsg) → input ≡ Msg m → told_from (other_of taker) m ≤ reached (other_of taker) gl.state) → ⊥
not_told_yet Slave gl input tx rx i s told = absurd (omega (arith, subst (λ (x : LinkState). 3 ≤ reached Master x) s (told (CALIBRATED tx rx) i)))
not_told_yet Master gl input tx rx i s told = absurd (omega (arith, subst (λ (x : LinkState). 6 ≤ reached Slave x) s (told (CALIBRATED tx rx) i)))

first_wait_by :
    (g : Given) (role : Role) (n : ℕ) (l : LinkAt) (e tick time : ℤ) (r : Runs g role n l.waiting e tick) (fresh : IsFresh g role l) → time ≤ℤ (tick +ℤ pos g.pace.dmax) → time ≤ℤ (e +ℤ pos (n * g.pace.dmax))
first_wait_by g role n l e tick time r fresh due =
    some_left g.pace.dmax n r.w.ticks tick e time r.some
    (r.late (ap (λ x. x.retries) (same_waiting r.w fresh.w l.waiting r.is fresh.is) ∙ fresh.all)) due

-- what a giver says when it comes to CALIBRATED
says_calibrated : (role : Role) (l : LinkAt) (input : LinkIn) (to : LinkState) (ms : List WrMsg) → MovesBy l role Calibration input to ms → ms ≡ own_calibrated l.own_module ∷ []
says_calibrated Slave l input to ms m = m.1.1
says_calibrated Master l input to ms m = m.1.1

told_now : (l : LinkAt) (role : Role) (input : LinkIn) (to : LinkState) (time : ℤ) (ms : List WrMsg) → MovesBy l role Calibration input to ms →
    (tx : ℕ) × ((rx : ℕ) × IsAmong (CALIBRATED tx rx, time) (stamped time ms []))
told_now l role input to time ms m =
    let o : (tx : ℕ) × ((rx : ℕ) × (own_calibrated l.own_module ≡ CALIBRATED tx rx)) = own_told l.own_module in
    (o.0, (o.1.0, subst (λ (xs : List WrMsg). IsAmong (CALIBRATED o.0 o.1.0, time) (stamped time xs [])) (sym (says_calibrated role l input to ms m)) (inl (ap (λ (x : WrMsg). (x, time)) (sym o.1.1)))))

-- a CALIBRATED that was sent is not heard before its CALIBRATE
not_before : (g : Given) (first : BothPorts) (older : List Change) (taker : Role) (input : LinkIn) (at0 c ge : ℤ) (tx rx : ℕ) →
    InTurn first older (Hears taker input at0) → c ≤ℤ ge → IsUnheard first taker own_calibrate older c → IsHeard taker (CALIBRATED tx rx, ge) (Hears taker input at0) → ⊥
not_before g first older taker input at0 c ge tx rx turn le o i =
    turn tx rx 0 0 0 c i.1.0 (subst (λ (t : ℤ). c ≤ℤ t) (sym i.1.1) le) o

-- the giver's first wait is not over
pub first_wait :
    (g : Given) (time lit : ℤ) (role : Role) (l : LinkAt) (tick : ℤ) (sent : List Sending) (e : ℤ) →
    PortUp g time lit role l tick sent e → l.state ≡ Calibrated → time ≤ℤ (tick +ℤ pos g.pace.dmax) → IsFresh g role l → time ≤ℤ (e +ℤ pos ((g.set role).wait * g.pace.dmax))
first_wait g time lit role l tick sent e u is due fresh =
    let timed : wait_of (g.set role) l.state ≡ Some (g.set role).wait = ap (λ x. wait_of (g.set role) x) is in
    first_wait_by g role (g.set role).wait l e tick time (u.timer (g.set role).wait timed) fresh due

pub giver_patient :
    (g : Given) (first : BothPorts) (older : List Change) (taker : Role) (time lit : ℤ) (gl rl : LinkAt) (tick : ℤ) (sent : List Sending) (ge re : ℤ) (slack : ℕ) (by : ℤ) →
    Holds g (other_of taker) → PortUp g time lit (other_of taker) gl tick sent ge → time ≤ℤ (tick +ℤ pos g.pace.dmax) →
    ((m : WrMsg) (at : ℤ) → IsUnheard first taker m older at → time ≤ℤ (at +ℤ pos g.pace.delay)) →
    Exchange g first older taker gl rl ge re slack by → IsPatient g (other_of taker) time gl ge
giver_patient g first older taker time lit gl rl tick sent ge re slack by h u due hears (calls gs rs a b c o) = untimed g (other_of taker) Calibration gl ge time gs refl
giver_patient g first older taker time lit gl rl tick sent ge re slack by h u due hears (answers gs rs a b) = untimed g (other_of taker) Calibration gl ge time gs refl
giver_patient g first older taker time lit gl rl tick sent ge re slack by h u due hears (tells gs rs c a b d e f o fresh) =
    patient_at g (other_of taker) Calibrated gl ge time h gs (soon_0 c ge time g.pace.delay (within g Calibrated) a (hears own_calibrate c o) (omega arith))
giver_patient g first older taker time lit gl rl tick sent ge re slack by h u due hears (waits gs rs a b which) =
    patient_at g (other_of taker) Calibrated gl ge time h gs
    (soon_y ge time (a_wait g (other_of taker)) (within g Calibrated)
    (exchange_soon g first older taker time tick gl ge hears (first_wait g time lit (other_of taker) gl tick sent ge u gs due) which) (omega (arith, h.slower)))

patient_before : (g : Given) (taker : Role) (l : LinkAt) (e time : ℤ) → Holds g taker → l.state ≡ before_calibrate taker → time ≤ℤ (e +ℤ pos (within g Calibrated)) → IsPatient g taker time l e
patient_before g Slave l e time h s t = patient_at g Slave Locked l e time h s t
patient_before g Master l e time h s t = patient_at g Master Calibrated l e time h s t

pub taker_patient :
    (g : Given) (first : BothPorts) (older : List Change) (taker : Role) (time lit : ℤ) (gl rl : LinkAt) (tick : ℤ) (sent : List Sending) (ge re : ℤ) (slack : ℕ) (by : ℤ) →
    BothHold g → PortUp g time lit (other_of taker) gl tick sent ge → time ≤ℤ (tick +ℤ pos g.pace.dmax) → slack ≤ g.slowest + g.pace.delay →
    ((m : WrMsg) (at : ℤ) → IsUnheard first taker m older at → time ≤ℤ (at +ℤ pos g.pace.delay)) →
    Exchange g first older taker gl rl ge re slack by → IsPatient g taker time rl re
taker_patient g first older taker time lit gl rl tick sent ge re slack by h u due le hears (calls gs rs a b c o) =
    patient_before g taker rl re time (h taker) rs (soon_x ge re time slack g.pace.delay (within g Calibrated) b (hears own_calibrate ge o) (omega (arith, le)))
taker_patient g first older taker time lit gl rl tick sent ge re slack by h u due le hears (answers gs rs a b) =
    patient_at g taker RespCalib rl re time (h taker) rs
    (soon_0 ge re time g.pace.dmax (within g RespCalib) a (both_later time tick ge g.pace.dmax due (u.at_once gs)) (omega arith))
taker_patient g first older taker time lit gl rl tick sent ge re slack by h u due le hears (tells gs rs c a b d e f o fresh) =
    patient_before g taker rl re time (h taker) rs (soon_x c re time slack g.pace.delay (within g Calibrated) e (hears own_calibrate c o) (omega (arith, le)))
taker_patient g first older taker time lit gl rl tick sent ge re slack by h u due le hears (waits gs rs a b which) =
    patient_at g taker RespCalib rl re time (h taker) rs
    (soon_x ge re time g.pace.dmax (a_wait g (other_of taker)) (within g RespCalib) a
    (exchange_soon g first older taker time tick gl ge hears (first_wait g time lit (other_of taker) gl tick sent ge u gs due) which) (omega (arith, (h (other_of taker)).slower)))

-- the result of a step of the giver
pub record GiverStepped (g : Given) (first : BothPorts) (changes : List Change) (taker : Role) (time lit : ℤ) (gl rl : LinkAt) (tick : ℤ) (sent : List Sending) (re : ℤ) (slack : ℕ) (by : ℤ) : Type 0 where
  pub e : ℤ
  pub up : PortUp g time lit (other_of taker) gl tick sent e
  pub exchange : Exchange g first changes taker gl rl e re slack by

-- the change of a giver is not heard by the taker
unheard_still : (first : BothPorts) (older : List Change) (taker : Role) (input : LinkIn) (at0 : ℤ) (m : WrMsg) (at : ℤ) →
    IsUnheard first taker m older at → IsUnheard first taker m (Hears (other_of taker) input at0 ∷ older) at
unheard_still first older taker input at0 m at o = inr (o, λ h. not_self taker h.0)

pub giver_steps :
    (g : Given) (first : BothPorts) (older : List Change) (taker : Role) (time lit : ℤ) (gl rl next : LinkAt) (tick later : ℤ) (sent more : List Sending) (ge re : ℤ) (slack : ℕ) (by : ℤ) (input : LinkIn) (at0 : ℤ) (ms : List WrMsg) →
    Holds g (other_of taker) → PortUp g time lit (other_of taker) gl tick sent ge → time ≤ℤ (tick +ℤ pos g.pace.dmax) → re ≤ℤ time →
    ((m : WrMsg) (at : ℤ) → IsUnheard first taker m older at → time ≤ℤ (at +ℤ pos g.pace.delay)) →
    ((m : WrMsg) → input ≡ Msg m → told_from taker m ≤ reached taker rl.state) →
    ((m : WrMsg) → IsAmong (m, time) (stamped time ms []) → IsUnheard first taker m (Hears (other_of taker) input at0 ∷ older) time) →
    Exchange g first older taker gl rl ge re slack by → Outcome g time lit (other_of taker) gl ge input next later more ms →
    GiverStepped g first (Hears (other_of taker) input at0 ∷ older) taker time lit next rl later more re slack by
giver_steps g first older taker time lit gl rl next tick later sent more ge re slack by input at0 ms h u due past hears told says (calls gs rs a b c o) (stays up same firm q all fresh) =
    record { e = ge; up = up; exchange = calls (same ∙ gs) rs a b c (unheard_still first older taker input at0 own_calibrate ge o) }
giver_steps g first older taker time lit gl rl next tick later sent more ge re slack by input at0 ms h u due past hears told says (answers gs rs a b) (stays up same firm q all fresh) =
    record { e = ge; up = up; exchange = answers (same ∙ gs) rs a b }
giver_steps g first older taker time lit gl rl next tick later sent more ge re slack by input at0 ms h u due past hears told says (tells gs rs c a b d e f o is_fresh) (stays up same firm q all fresh) =
    let timed : wait_of (g.set (other_of taker)) gl.state ≡ Some (g.set (other_of taker)).wait = ap (λ x. wait_of (g.set (other_of taker)) x) gs in
    record {
      e = ge;
      up = up;
      exchange =
          tells (same ∙ gs) rs c a b d e f (unheard_still first older taker input at0 own_calibrate c o)
          (elim is_fresh [
            | inl x ↦
                elim (fresh (g.set (other_of taker)).wait timed x.0) [
                  | inl still ↦ inl (still, x.1)
                  | inr ended ↦ absurd (too_soon g.pace.delay g.dmin ((g.set (other_of taker)).wait * g.dmin) c ge time x.1.1 ended.early (hears own_calibrate c o) a)
                ]
            | inr t ↦ inr (t.0, (t.1.0, (t.1.1.0, unheard_still first older taker input at0 (CALIBRATED t.1.0 t.1.1.0) ge t.1.1.1)))
          ]);
    }
giver_steps g first older taker time lit gl rl next tick later sent more ge re slack by input at0 ms h u due past hears told says (waits gs rs a b which) (stays up same firm q all fresh) =
    let timed : wait_of (g.set (other_of taker)) gl.state ≡ Some (g.set (other_of taker)).wait = ap (λ x. wait_of (g.set (other_of taker)) x) gs in
    record {
      e = ge;
      up = up;
      exchange =
          waits (same ∙ gs) rs a b
          (elim which [
            | inl f ↦
                elim (fresh (g.set (other_of taker)).wait timed f.0) [
                  | inl still ↦ inl (still, f.1)
                  | inr ended ↦
                      let x : (tx : ℕ) × ((rx : ℕ) × IsAmong (CALIBRATED tx rx, time) (stamped time ms [])) = resent_told gl time ms gs ended.again in
                      inr (time, (x.0, (x.1.0, (subst (λ (n : ℕ). time ≤ℤ (ge +ℤ pos n)) f.1.0 ended.late, says (CALIBRATED x.0 x.1.0) x.1.1))))
                ]
            | inr o ↦ inr (o.0, (o.1.0, (o.1.1.0, (o.1.1.1.0, unheard_still first older taker input at0 (CALIBRATED o.1.0 o.1.1.0) o.0 o.1.1.1.1))))
          ]);
    }
giver_steps g first older taker time lit gl rl next tick later sent more ge re slack by input at0 ms h u due past hears told says (calls gs rs a b c o) (moves to up same m fresh) =
    let is : to ≡ Calibrated = from_calibration (other_of taker) gl input to ms (subst (λ (x : LinkState). MovesBy gl (other_of taker) x input to ms) gs m) in
    record {
      e = time;
      up = up;
      exchange =
          tells (same ∙ is) rs ge u.past (both_later time tick ge g.pace.dmax due (u.at_once gs)) a b c
          (unheard_still first older taker input at0 own_calibrate ge o)
          (elim h.mode [
            | inl again ↦ inl (fresh (g.set (other_of taker)).wait (ap (λ x. wait_of (g.set (other_of taker)) x) is), again)
            | inr t ↦
                let x : (tx : ℕ) × ((rx : ℕ) × IsAmong (CALIBRATED tx rx, time) (stamped time ms [])) =
                told_now gl (other_of taker) input to time ms (subst (λ (y : LinkState). MovesBy gl (other_of taker) y input to ms) gs m) in
                inr (t, (x.0, (x.1.0, says (CALIBRATED x.0 x.1.0) x.1.1)))
          ]);
    }
giver_steps g first older taker time lit gl rl next tick later sent more ge re slack by input at0 ms h u due past hears told says (answers gs rs a b) (moves to up same m fresh) =
    let is : to ≡ Calibrated = from_calibration (other_of taker) gl input to ms (subst (λ (x : LinkState). MovesBy gl (other_of taker) x input to ms) gs m) in
    let soon : time ≤ℤ (ge +ℤ pos g.pace.dmax) = both_later time tick ge g.pace.dmax due (u.at_once gs) in
    record {
      e = time;
      up = up;
      exchange =
          waits (same ∙ is) rs (both_later time ge re g.pace.dmax soon a) (both_later time ge by g.pace.dmax soon b)
          (elim h.mode [
            | inl again ↦ inl (fresh (g.set (other_of taker)).wait (ap (λ x. wait_of (g.set (other_of taker)) x) is), again)
            | inr t ↦
                let x : (tx : ℕ) × ((rx : ℕ) × IsAmong (CALIBRATED tx rx, time) (stamped time ms [])) =
                told_now gl (other_of taker) input to time ms (subst (λ (y : LinkState). MovesBy gl (other_of taker) y input to ms) gs m) in
                inr (time, (x.0, (x.1.0, (grown time time (g.slow (other_of taker)) (le_self time), says (CALIBRATED x.0 x.1.0) x.1.1))))
          ]);
    }
giver_steps g first older taker time lit gl rl next tick later sent more ge re slack by input at0 ms h u due past hears told says (tells gs rs c a b d e f o is_fresh) (moves to up same m fresh) =
    absurd (not_on_before taker gl rl input to ms (subst (λ (x : LinkState). MovesBy gl (other_of taker) x input to ms) gs m) rs told)
giver_steps g first older taker time lit gl rl next tick later sent more ge re slack by input at0 ms h u due past hears told says (waits gs rs a b which) (moves to up same m fresh) =
    absurd (not_on_resp taker gl rl input to ms (subst (λ (x : LinkState). MovesBy gl (other_of taker) x input to ms) gs m) rs told)

-- the taker took the delays, and moves on
pub record Taken (g : Given) (taker : Role) (time lit : ℤ) (gl rl next : LinkAt) (later : ℤ) (more : List Sending) (ge : ℤ) (by : ℤ) (input : LinkIn) (ms : List WrMsg) : Type 0 where
  pub to : LinkState
  pub up : PortUp g time lit taker next later more time
  pub same : next.state ≡ to
  pub move : MovesBy rl taker RespCalib input to ms
  pub giver : gl.state ≡ Calibrated
  pub soon : time ≤ℤ (ge +ℤ pos (a_wait g (other_of taker)))
  pub early : ge ≤ℤ (by +ℤ pos g.pace.dmax)

pub record TakerStepped (g : Given) (first : BothPorts) (changes : List Change) (taker : Role) (time lit : ℤ) (gl rl : LinkAt) (later : ℤ) (more : List Sending) (ge : ℤ) (slack : ℕ) (by : ℤ) : Type 0 where
  pub e : ℤ
  pub up : PortUp g time lit taker rl later more e
  pub exchange : Exchange g first changes taker gl rl ge e slack by

pub taker_steps :
    (g : Given) (first : BothPorts) (older : List Change) (taker : Role) (time lit : ℤ) (gl rl next : LinkAt) (tick later : ℤ) (sent more : List Sending) (ge re : ℤ) (slack : ℕ) (by : ℤ) (input : LinkIn) (at0 : ℤ) (ms : List WrMsg) →
    PortUp g time lit (other_of taker) gl tick sent ge → time ≤ℤ (tick +ℤ pos g.pace.dmax) →
    ((m : WrMsg) (at : ℤ) → IsUnheard first taker m older at → time ≤ℤ (at +ℤ pos g.pace.delay)) →
    ((m : WrMsg) → input ≡ Msg m → told_from (other_of taker) m ≤ reached (other_of taker) gl.state) →
    (g.in_turn ≡ true → InTurn first older (Hears taker input at0)) →
    Exchange g first older taker gl rl ge re slack by → Outcome g time lit taker rl re input next later more ms →
    TakerStepped g first (Hears taker input at0 ∷ older) taker time lit gl next later more ge slack by ⊎ Taken g taker time lit gl rl next later more ge by input ms
taker_steps g first older taker time lit gl rl next tick later sent more ge re slack by input at0 ms u due hears told turn (calls gs rs a b c o) (stays up same firm q all fresh) =
    inl (record { e = re; up = up; exchange = calls gs (same ∙ rs) a b c (inr (o, λ i. firm (calibrate_turns taker rl input rs i.1.0))) })
taker_steps g first older taker time lit gl rl next tick later sent more ge re slack by input at0 ms u due hears told turn (answers gs rs a b) (stays up same firm q all fresh) =
    inl (record { e = re; up = up; exchange = answers gs (same ∙ rs) a b })
taker_steps g first older taker time lit gl rl next tick later sent more ge re slack by input at0 ms u due hears told turn (tells gs rs c a b d e f o is_fresh) (stays up same firm q all fresh) =
    inl (record {
      e = re;
      up = up;
      exchange = tells gs (same ∙ rs) c a b d e f (inr (o, λ i. firm (calibrate_turns taker rl input rs i.1.0)))
          (elim is_fresh [ inl x ↦ inl x | inr t ↦ inr (t.0, (t.1.0, (t.1.1.0, inr (t.1.1.1, not_before g first older taker input at0 c ge t.1.0 t.1.1.0 (turn t.0) a o)))) ]);
    })
taker_steps g first older taker time lit gl rl next tick later sent more ge re slack by input at0 ms u due hears told turn (waits gs rs a b which) (stays up same firm q all fresh) =
    inl (record {
      e = re;
      up = up;
      exchange =
          waits gs (same ∙ rs) a b
          (elim which [
            | inl f ↦ inl f
            | inr o ↦ inr (o.0, (o.1.0, (o.1.1.0, (o.1.1.1.0, inr (o.1.1.1.1, λ i. firm (calibrated_turns taker rl input o.1.0 o.1.1.0 rs i.1.0))))))
          ]);
    })
taker_steps g first older taker time lit gl rl next tick later sent more ge re slack by input at0 ms u due hears told turn (calls gs rs a b c o) (moves to up same m fresh) =
    let is : to ≡ RespCalib = from_before taker rl input to ms (subst (λ (x : LinkState). MovesBy rl taker x input to ms) rs m) in
    inl (record { e = time; up = up; exchange = answers gs (same ∙ is) u.past c })
taker_steps g first older taker time lit gl rl next tick later sent more ge re slack by input at0 ms u due hears told turn (answers gs rs a b) (moves to up same m fresh) =
    let x : (tx : ℕ) × ((rx : ℕ) × (input ≡ Msg (CALIBRATED tx rx))) = from_resp taker rl input to ms (subst (λ (y : LinkState). MovesBy rl taker y input to ms) rs m) in
    absurd (not_told_yet taker gl input x.0 x.1.0 x.1.1 gs told)
taker_steps g first older taker time lit gl rl next tick later sent more ge re slack by input at0 ms u due hears told turn (tells gs rs c a b d e f o is_fresh) (moves to up same m fresh) =
    let is : to ≡ RespCalib = from_before taker rl input to ms (subst (λ (x : LinkState). MovesBy rl taker x input to ms) rs m) in
    inl (record {
      e = time;
      up = up;
      exchange = waits gs (same ∙ is) (grown ge time g.pace.dmax u.past) (both_later ge c by g.pace.dmax b f)
          (elim is_fresh [
            | inl x ↦ inl x
            | inr t ↦ inr (ge, (t.1.0, (t.1.1.0, (grown ge ge (g.slow (other_of taker)) (le_self ge), inr (t.1.1.1, not_before g first older taker input at0 c ge t.1.0 t.1.1.0 (turn t.0) a o)))))
          ]);
    })
taker_steps g first older taker time lit gl rl next tick later sent more ge re slack by input at0 ms u due hears told turn (waits gs rs a b which) (moves to up same m fresh) =
    inr (record {
      to = to;
      up = up;
      same = same;
      move = subst (λ (x : LinkState). MovesBy rl taker x input to ms) rs m;
      giver = gs;
      soon = exchange_soon g first older taker time tick gl ge hears (first_wait g time lit (other_of taker) gl tick sent ge u gs due) which;
      early = b;
    })
