-- Each stage is left in time: what an input at either end does to it.
use Rattle.std.proofs.Common.{◌≡◌, ◌≢◌, ◌⊎◌, inl, inr, refl, sym, ap, ◌∙◌, subst, subst₂, ℤ, ℕ, zero, suc, ◌+◌, ◌*◌, ◌≤◌, pos, true, ◌&&◌, ◌==◌, List, [], ◌∷◌, Option, arith, ◌+ℤ◌, ◌≤ℤ◌}
use Rattle.std.proofs.lemmas.Int.{ints}
use Rattle.std.proofs.Math.Nat.{mul-le-mul_right}
use Rattle.wrp_base.specs.declared.link.LinkState.{LinkState}
use Rattle.wrp_base.specs.declared.link.LinkState.TheVariants.{Idle, Present, SLock, MLock, Locked, Calibration, Calibrated, RespCalib, LinkOn}
use Rattle.wrp_base.specs.declared.link.Role.{Role}
use Rattle.wrp_base.specs.declared.link.Role.TheVariants.{Master, Slave}
use Rattle.wrp_base.specs.declared.message.WrMsg.{WrMsg}
use Rattle.wrp_base.specs.declared.message.WrMsg.TheVariants.{Present as SLAVE_PRESENT, Lock as LOCK, Locked as LOCKED, Calibrate as CALIBRATE, Calibrated as CALIBRATED, ModeOn as WR_MODE_ON}
use Rattle.wrp_base.specs.Link.{other_of}
use Rattle.wrp_link.specs.declared.interface.LinkIn.{LinkIn}
use Rattle.wrp_link.specs.declared.interface.LinkIn.TheVariants.{Msg, Announce, Tick}
use Rattle.wrp_link.specs.LinkAt.{LinkAt}
use Rattle.wrp_link.specs.Rows.{may_leave_idle, offers, own_calibrate}
use Rattle.wrp_handshake_laws.specs.Ends.{Sending, BothPorts, Change, Hears, IsAmong, stamped}
use Rattle.wrp_link_up_laws.specs.Pace.{InTurn, IsUnheard, IsOffered, AreAwake, rest_of}
use Rattle.wrp_link_up_laws.proofs.Ports.{Given, Holds, BothHold, PortUp, Outcome, stays, moves, reached, told_from, no_holdoff, no_quiet, none_left}
use Rattle.wrp_link_up_laws.proofs.Sums.{quiet_soon}
use Rattle.wrp_link_up_laws.proofs.Tells.{Turns, MovesBy}
use Rattle.wrp_handshake_laws.proofs.Parts.{stamped_in}
use Rattle.wrp_handshake_laws.proofs.Stages.{Sends}
use Rattle.wrp_link_up_laws.specs.Pace.{IsLocking}
use Rattle.wrp_link_up_laws.proofs.Exchanges.{both_later, first_wait, GiverStepped, giver_steps, giver_patient, taker_steps, taker_patient}
use Rattle.wrp_link_up_laws.proofs.Stages.{a_wait, by_one, by_two, by_three, by_four, before_calibrate, Exchange, calls, answers, tells, waits, exchange_soon, BothWait, Stage, resting, offered, answered, locking, locked, down, up, turning, Prompt, within, IsPatient, patient_at, untimed, soon_x, soon_y}

-- no port is kept beyond its patience
pub master_patient :
    (g : Given) (first : BothPorts) (older : List Change) (time lit : ℤ) (ml sl : LinkAt) (mtick stick : ℤ) (msent ssent : List Sending) (me se : ℤ) →
    BothHold g → PortUp g time lit Master ml mtick msent me → PortUp g time lit Slave sl stick ssent se → Prompt g first older time mtick stick →
    Stage g first older lit ml sl me se ssent → IsPatient g Master time ml me
master_patient g first older time lit ml sl mtick stick msent ssent me se h um us p (resting mi si w) = untimed g Master Idle ml me time mi refl
master_patient g first older time lit ml sl mtick stick msent ssent me se h um us p (offered mi q si a o) = untimed g Master Idle ml me time mi refl
master_patient g first older time lit ml sl mtick stick msent ssent me se h um us p (answered mi si a b o) =
    patient_at g Master MLock ml me time (h Master) mi (soon_y me time g.pace.delay (within g MLock) (p.hears Slave LOCK me o) (omega arith))
master_patient g first older time lit ml sl mtick stick msent ssent me se h um us p (locking mi si a b o) =
    patient_at g Master MLock ml me time (h Master) mi (soon_x se me time g.pace.delay g.pace.lock (within g MLock) a (p.locks se o) (omega arith))
master_patient g first older time lit ml sl mtick stick msent ssent me se h um us p (locked mi si a b o) =
    patient_at g Master MLock ml me time (h Master) mi (soon_x se me time (g.pace.delay + g.pace.lock) g.pace.delay (within g MLock) a (p.hears Master LOCKED se o) (omega arith))
master_patient g first older time lit ml sl mtick stick msent ssent me se h um us p (down x) =
    giver_patient g first older Slave time lit ml sl mtick msent me se g.pace.delay (lit +ℤ pos (by_two g)) (h Master) um p.master (λ m at o. p.hears Slave m at o) x
master_patient g first older time lit ml sl mtick stick msent ssent me se h um us p (up x) =
    taker_patient g first older Master time lit sl ml stick ssent se me (a_wait g Master) (lit +ℤ pos (by_three g)) h us p.slave (omega (arith, (h Master).slower)) (λ m at o. p.hears Master m at o) x
master_patient g first older time lit ml sl mtick stick msent ssent me se h um us p (turning mi si a b o f) = untimed g Master LinkOn ml me time mi refl

pub slave_patient :
    (g : Given) (first : BothPorts) (older : List Change) (time lit : ℤ) (ml sl : LinkAt) (mtick stick : ℤ) (msent ssent : List Sending) (me se : ℤ) →
    BothHold g → PortUp g time lit Master ml mtick msent me → PortUp g time lit Slave sl stick ssent se → Prompt g first older time mtick stick →
    Stage g first older lit ml sl me se ssent → IsPatient g Slave time sl se
slave_patient g first older time lit ml sl mtick stick msent ssent me se h um us p (resting mi si w) = untimed g Slave Idle sl se time si refl
slave_patient g first older time lit ml sl mtick stick msent ssent me se h um us p (offered mi q si a o) =
    patient_at g Slave Present sl se time (h Slave) si (soon_y se time g.pace.delay (within g Present) (p.hears Master SLAVE_PRESENT se o) (omega arith))
slave_patient g first older time lit ml sl mtick stick msent ssent me se h um us p (answered mi si a b o) =
    patient_at g Slave Present sl se time (h Slave) si (soon_x me se time g.pace.delay g.pace.delay (within g Present) a (p.hears Slave LOCK me o) (omega arith))
slave_patient g first older time lit ml sl mtick stick msent ssent me se h um us p (locking mi si a b o) =
    patient_at g Slave SLock sl se time (h Slave) si (soon_y se time g.pace.lock (within g SLock) (p.locks se o) (omega arith))
slave_patient g first older time lit ml sl mtick stick msent ssent me se h um us p (locked mi si a b o) =
    patient_at g Slave Locked sl se time (h Slave) si (soon_y se time g.pace.delay (within g Locked) (p.hears Master LOCKED se o) (omega arith))
slave_patient g first older time lit ml sl mtick stick msent ssent me se h um us p (down x) =
    taker_patient g first older Slave time lit ml sl mtick msent me se g.pace.delay (lit +ℤ pos (by_two g)) h um p.master (omega arith) (λ m at o. p.hears Slave m at o) x
slave_patient g first older time lit ml sl mtick stick msent ssent me se h um us p (up x) =
    giver_patient g first older Master time lit sl ml stick ssent se me (a_wait g Master) (lit +ℤ pos (by_three g)) (h Slave) us p.slave (λ m at o. p.hears Master m at o) x
slave_patient g first older time lit ml sl mtick stick msent ssent me se h um us p (turning mi si a b o f) =
    patient_at g Slave Calibrated sl se time (h Slave) si (soon_x me se time (a_wait g Slave) g.pace.delay (within g Calibrated) a (p.hears Slave WR_MODE_ON me o) (omega (arith, (h Slave).slower)))

taken_by : (ge lit time : ℤ) (by dmax wait z : ℕ) → ge ≤ℤ ((lit +ℤ pos by) +ℤ pos dmax) → time ≤ℤ (ge +ℤ pos wait) → by + dmax + wait ≤ z → time ≤ℤ (lit +ℤ pos z)
taken_by ge lit time by dmax wait z h k le = omega (arith, ints)

called_by : (ge lit time : ℤ) (by dmax z : ℕ) → ge ≤ℤ (lit +ℤ pos by) → time ≤ℤ (ge +ℤ pos dmax) → by + dmax ≤ z → time ≤ℤ (lit +ℤ pos z)
called_by ge lit time by dmax z h k le = omega (arith, ints)

exchange_by :
    (g : Given) (first : BothPorts) (older : List Change) (taker : Role) (time lit : ℤ) (gl rl : LinkAt) (tick : ℤ) (sent : List Sending) (ge re : ℤ) (slack : ℕ) (by z : ℕ) →
    PortUp g time lit (other_of taker) gl tick sent ge → time ≤ℤ (tick +ℤ pos g.pace.dmax) →
    ((m : WrMsg) (at : ℤ) → IsUnheard first taker m older at → time ≤ℤ (at +ℤ pos g.pace.delay)) →
    Exchange g first older taker gl rl ge re slack (lit +ℤ pos by) → by + g.pace.dmax + a_wait g (other_of taker) ≤ z → time ≤ℤ (lit +ℤ pos z)
exchange_by g first older taker time lit gl rl tick sent ge re slack by z u due hears (calls gs rs a b c o) le =
    called_by ge lit time by g.pace.delay z c (hears own_calibrate ge o) (omega (arith, le))
exchange_by g first older taker time lit gl rl tick sent ge re slack by z u due hears (answers gs rs a b) le =
    called_by ge lit time by g.pace.dmax z b (both_later time tick ge g.pace.dmax due (u.at_once gs)) (omega (arith, le))
exchange_by g first older taker time lit gl rl tick sent ge re slack by z u due hears (tells gs rs c a b d e f o fresh) le =
    called_by c lit time by g.pace.delay z f (hears own_calibrate c o) (omega (arith, le))
exchange_by g first older taker time lit gl rl tick sent ge re slack by z u due hears (waits gs rs a b which) le =
    taken_by ge lit time by g.pace.dmax (a_wait g (other_of taker)) z b
    (exchange_soon g first older taker time tick gl ge hears (first_wait g time lit (other_of taker) gl tick sent ge u gs due) which) le

-- rest is over by the longer of both
quiet_by :
    (g : Given) (role : Role) (l : LinkAt) (tick lit time : ℤ) → Holds g role → 1 ≤ rest_of l →
    (rest_of l ≡ 0) ⊎ ((tick +ℤ pos (rest_of l * g.pace.dmax)) ≤ℤ (lit +ℤ pos (g.rest role * g.pace.dmax))) → time ≤ℤ (tick +ℤ pos g.pace.dmax) →
    time ≤ℤ (lit +ℤ pos (g.quiet * g.pace.dmax))
quiet_by g role l tick lit time h some soon due =
    soon_y lit time (g.rest role * g.pace.dmax) (g.quiet * g.pace.dmax)
    (quiet_soon g.pace.dmax (g.rest role * g.pace.dmax) (rest_of l) tick lit time some soon due) (mul-le-mul_right g.pace.dmax h.longer)

-- the latest time at which a link is still not up
pub all_soon :
    (g : Given) (first : BothPorts) (older : List Change) (time lit : ℤ) (ml sl : LinkAt) (mtick stick : ℤ) (msent ssent : List Sending) (me se : ℤ) →
    BothHold g → PortUp g time lit Master ml mtick msent me → PortUp g time lit Slave sl stick ssent se → Prompt g first older time mtick stick →
    Stage g first older lit ml sl me se ssent → time ≤ℤ (lit +ℤ pos (by_four g + g.pace.delay))
all_soon g first older time lit ml sl mtick stick msent ssent me se h um us p (resting mi si w) =
    elim w [
      | inl q ↦
          soon_y lit time (g.quiet * g.pace.dmax) (by_four g + g.pace.delay) (quiet_by g Master ml mtick lit time (h Master) q (um.soon mi) p.master) (omega arith)
      | inr w ↦
          elim w [
            | inl q ↦
                soon_y lit time (g.quiet * g.pace.dmax) (by_four g + g.pace.delay) (quiet_by g Slave sl stick lit time (h Slave) q (us.soon si) p.slave) (omega arith)
            | inr b ↦
                soon_x b.1.1.0 lit time (g.quiet * g.pace.dmax) g.pace.announce (by_four g + g.pace.delay) b.1.1.1.0 (p.offers_come b.1.1.0 b.1.1.1.1) (omega arith)
          ]
    ]
all_soon g first older time lit ml sl mtick stick msent ssent me se h um us p (offered mi q si a o) =
    soon_x se lit time (by_one g) g.pace.delay (by_four g + g.pace.delay) a (p.hears Master SLAVE_PRESENT se o) (omega arith)
all_soon g first older time lit ml sl mtick stick msent ssent me se h um us p (answered mi si a b o) =
    let soon : time ≤ℤ (se +ℤ pos (2 * g.pace.delay)) = soon_x me se time g.pace.delay g.pace.delay (2 * g.pace.delay) a (p.hears Slave LOCK me o) (omega arith) in
    soon_x se lit time (by_one g) (2 * g.pace.delay) (by_four g + g.pace.delay) b soon (omega arith)
all_soon g first older time lit ml sl mtick stick msent ssent me se h um us p (locking mi si a b o) =
    let soon : time ≤ℤ (me +ℤ pos (g.pace.delay + g.pace.lock)) = soon_x se me time g.pace.delay g.pace.lock (g.pace.delay + g.pace.lock) a (p.locks se o) (omega arith) in
    soon_x me lit time (by_one g + g.pace.delay) (g.pace.delay + g.pace.lock) (by_four g + g.pace.delay) b soon (omega arith)
all_soon g first older time lit ml sl mtick stick msent ssent me se h um us p (locked mi si a b o) =
    let soon : time ≤ℤ (me +ℤ pos (g.pace.delay + g.pace.lock + g.pace.delay)) =
    soon_x se me time (g.pace.delay + g.pace.lock) g.pace.delay (g.pace.delay + g.pace.lock + g.pace.delay) a (p.hears Master LOCKED se o) (omega arith) in
    soon_x me lit time (by_one g + g.pace.delay) (g.pace.delay + g.pace.lock + g.pace.delay) (by_four g + g.pace.delay) b soon (omega arith)
all_soon g first older time lit ml sl mtick stick msent ssent me se h um us p (down x) =
    exchange_by g first older Slave time lit ml sl mtick msent me se g.pace.delay (by_two g) (by_four g + g.pace.delay) um p.master (λ m at o. p.hears Slave m at o) x (omega arith)
all_soon g first older time lit ml sl mtick stick msent ssent me se h um us p (up x) =
    exchange_by g first older Master time lit sl ml stick ssent se me (a_wait g Master) (by_three g) (by_four g + g.pace.delay) us p.slave (λ m at o. p.hears Master m at o) x (omega arith)
all_soon g first older time lit ml sl mtick stick msent ssent me se h um us p (turning mi si a b o f) =
    soon_x me lit time (by_four g) g.pace.delay (by_four g + g.pace.delay) b (p.hears Slave WR_MODE_ON me o) (omega arith)

-- the result of a step of a link that comes up
pub record Stepped (g : Given) (first : BothPorts) (changes : List Change) (time lit : ℤ) (ml sl : LinkAt) (mtick stick : ℤ) (msent ssent : List Sending) : Type 0 where
  pub me : ℤ
  pub se : ℤ
  pub master : PortUp g time lit Master ml mtick msent me
  pub slave : PortUp g time lit Slave sl stick ssent se
  pub stage : Stage g first changes lit ml sl me se ssent

zero_or_some : (n : ℕ) → (n ≡ 0) ⊎ (1 ≤ n)
zero_or_some zero = inl refl
zero_or_some (suc n) = inr (omega arith)

-- what two resting ends wait for, after a change came
still_rest :
    (g : Given) (first : BothPorts) (older : List Change) (change : Change) (time lit : ℤ) (ml sl ml' sl' : LinkAt) →
    ((1 ≤ rest_of ml) → time ≤ℤ (lit +ℤ pos (g.quiet * g.pace.dmax))) → ((1 ≤ rest_of sl) → time ≤ℤ (lit +ℤ pos (g.quiet * g.pace.dmax))) →
    (BothWait g first older lit ml sl → IsOffered change → ⊥) →
    (rest_of ml' ≡ 0 → rest_of sl' ≡ 0 → AreAwake first (change ∷ older) time) →
    (1 ≤ rest_of ml) ⊎ ((1 ≤ rest_of sl) ⊎ BothWait g first older lit ml sl) →
    (1 ≤ rest_of ml') ⊎ ((1 ≤ rest_of sl') ⊎ BothWait g first (change ∷ older) lit ml' sl')
still_rest g first older change time lit ml sl ml' sl' ms ss unmet begins which =
    elim (zero_or_some (rest_of ml')) [
      | inr some ↦ inl some
      | inl mz ↦
          elim (zero_or_some (rest_of sl')) [
            | inr some ↦ inr (inl some)
            | inl sz ↦
                inr (inr (
                  mz,
                  (
                    sz,
                    elim which [
                      | inl q ↦ (time, (ms q, inl (begins mz sz)))
                      | inr w ↦ elim w [ inl q ↦ (time, (ss q, inl (begins mz sz))) | inr b ↦ (b.1.1.0, (b.1.1.1.0, inr (b.1.1.1.1, unmet b))) ]
                    ],
                  ),
                ))
          ]
    ]

some_rest : (n : ℕ) → 1 ≤ n → n ≡ 0 → ⊥
some_rest n some none = omega (arith, some, none)

not_both_roles : Master ≡ Slave → ⊥
not_both_roles e = cc

slave_idle_said : (sl : LinkAt) → sl.state ≡ Idle → 1 ≤ reached Slave sl.state → ⊥
slave_idle_said sl is h = absurd (omega (arith, subst (λ (x : LinkState). 1 ≤ reached Slave x) is h))

said_too_far : (role : Role) (l : LinkAt) (s : LinkState) (n : ℕ) → l.state ≡ s → n ≤ reached role l.state → n ≤ reached role s
said_too_far role l s n is h = subst (λ (x : LinkState). n ≤ reached role x) is h

present_turns : (g : Given) (time lit : ℤ) (ml : LinkAt) (tick : ℤ) (sent : List Sending) (e : ℤ) (input : LinkIn) →
    Holds g Master → PortUp g time lit Master ml tick sent e → ml.state ≡ Idle → rest_of ml ≡ 0 → input ≡ Msg SLAVE_PRESENT → Turns ml Master ml.state input
present_turns g time lit ml tick sent e input h u is q i =
    let wr : ml.set.wr ≡ true = ap (λ s. s.wr) u.same_set ∙ h.wr in
    let may : may_leave_idle ml ≡ true = rw (no_quiet ml q, u.listed, wr) refl in
    subst₂ (λ (x : LinkState) (y : LinkIn). Turns ml Master x y) (sym is) (sym i) may

offer_turns : (g : Given) (time lit : ℤ) (sl : LinkAt) (tick : ℤ) (sent : List Sending) (e : ℤ) (input : LinkIn) (suffix : Option ℕ) →
    Holds g Slave → PortUp g time lit Slave sl tick sent e → sl.state ≡ Idle → rest_of sl ≡ 0 → input ≡ Announce suffix → offers suffix ≡ true → Turns sl Slave sl.state input
offer_turns g time lit sl tick sent e input suffix h u is q i off =
    let wr : sl.set.wr ≡ true = ap (λ s. s.wr) u.same_set ∙ h.wr in
    let may : offers suffix && ((sl.holdoff == 0) && may_leave_idle sl) ≡ true = rw (off, no_holdoff sl q, no_quiet sl q, u.listed, wr) refl in
    subst₂ (λ (x : LinkState) (y : LinkIn). Turns sl Slave x y) (sym is) (sym i) may

turns_at : (l : LinkAt) (role : Role) (s : LinkState) (input told : LinkIn) → l.state ≡ s → input ≡ told → Turns l role s told → Turns l role l.state input
turns_at l role s input told is i t = subst₂ (λ (x : LinkState) (y : LinkIn). Turns l role x y) (sym is) (sym i) t

-- the messages of one
one_said : (m : WrMsg) (ms : List WrMsg) (time : ℤ) → ms ≡ m ∷ [] → IsAmong (m, time) (stamped time ms [])
one_said m ms time is = subst (λ (xs : List WrMsg). IsAmong (m, time) (stamped time xs [])) (sym is) (inl refl)

moved_from : (l : LinkAt) (role : Role) (s : LinkState) (input : LinkIn) (to : LinkState) (ms : List WrMsg) → l.state ≡ s → MovesBy l role l.state input to ms → MovesBy l role s input to ms
moved_from l role s input to ms is m = subst (λ (x : LinkState). MovesBy l role x input to ms) is m

in_state : (l : LinkAt) (s : LinkState) → l.state ≡ s → s ≢ Idle → l.state ≡ Idle → rest_of l ≡ 0
in_state l s is out idle = absurd (out (sym is ∙ idle))

before_out : (taker : Role) (l : LinkAt) → l.state ≡ before_calibrate taker → l.state ≢ Idle
before_out Slave l is = λ i. (let x : Locked ≡ Idle = sym is ∙ i in cc)
before_out Master l is = λ i. (let x : Calibrated ≡ Idle = sym is ∙ i in cc)

state_out : (l : LinkAt) (s : LinkState) → l.state ≡ s → s ≢ Idle → l.state ≢ Idle
state_out l s is out = λ i. out (sym is ∙ i)

-- no end of an exchange is in IDLE
exchange_out :
    (g : Given) (first : BothPorts) (older : List Change) (taker : Role) (gl rl : LinkAt) (ge re : ℤ) (slack : ℕ) (by : ℤ) →
    Exchange g first older taker gl rl ge re slack by → (gl.state ≢ Idle) × (rl.state ≢ Idle)
exchange_out g first older taker gl rl ge re slack by (calls gs rs a b c o) = (state_out gl Calibration gs (λ e. cc), before_out taker rl rs)
exchange_out g first older taker gl rl ge re slack by (answers gs rs a b) = (state_out gl Calibration gs (λ e. cc), state_out rl RespCalib rs (λ e. cc))
exchange_out g first older taker gl rl ge re slack by (tells gs rs c a b d e f o fresh) = (state_out gl Calibrated gs (λ x. cc), before_out taker rl rs)
exchange_out g first older taker gl rl ge re slack by (waits gs rs a b which) = (state_out gl Calibrated gs (λ e. cc), state_out rl RespCalib rs (λ e. cc))

-- an input at the master
pub master_steps :
    (g : Given) (first : BothPorts) (older : List Change) (time lit : ℤ) (ml sl next : LinkAt) (mtick stick later : ℤ) (msent ssent more : List Sending) (me se : ℤ) (input : LinkIn) (at0 : ℤ) (ms : List WrMsg) →
    BothHold g → PortUp g time lit Master ml mtick msent me → PortUp g time lit Slave sl stick ssent se → Prompt g first older time mtick stick →
    ((ml.state ≡ Idle → rest_of ml ≡ 0) → (m : WrMsg) → input ≡ Msg m → told_from Slave m ≤ reached Slave sl.state) →
    ((m : WrMsg) → IsAmong (m, time) (stamped time ms []) → IsUnheard first Slave m (Hears Master input at0 ∷ older) time) →
    (next.state ≡ Idle → rest_of next ≡ 0 → sl.state ≡ Idle → rest_of sl ≡ 0 → AreAwake first (Hears Master input at0 ∷ older) time) →
    (g.in_turn ≡ true → InTurn first older (Hears Master input at0)) →
    Stage g first older lit ml sl me se ssent → Outcome g time lit Master ml me input next later more ms →
    Stepped g first (Hears Master input at0 ∷ older) time lit next sl later stick more ssent
master_steps g first older time lit ml sl next mtick stick later msent ssent more me se input at0 ms h um us p told says begins turn (resting mi si w) (stays u same firm q all fresh) =
    record {
      me = me;
      se = se;
      master = u;
      slave = us;
      stage =
          resting (same ∙ mi) si
          (still_rest g first older (Hears Master input at0) time lit ml sl next sl
          (λ some. quiet_by g Master ml mtick lit time (h Master) some (um.soon mi) p.master)
          (λ some. quiet_by g Slave sl stick lit time (h Slave) some (us.soon si) p.slave)
          (λ b o. not_both_roles o.0) (λ mz sz. begins (same ∙ mi) mz si sz) w);
    }
master_steps g first older time lit ml sl next mtick stick later msent ssent more me se input at0 ms h um us p told says begins turn (resting mi si w) (moves to u same m fresh) =
    let mv : MovesBy ml Master Idle input to ms = moved_from ml Master Idle input to ms mi m in
    absurd (slave_idle_said sl si (told (λ _. none_left ml mv.1.1.1 (um.free refl)) SLAVE_PRESENT mv.0))
master_steps g first older time lit ml sl next mtick stick later msent ssent more me se input at0 ms h um us p told says begins turn (offered mi qz si a o) (stays u same firm q all fresh) =
    record {
      me = me;
      se = se;
      master = u;
      slave = us;
      stage = offered (same ∙ mi) (q qz) si a (inr (o, λ i. firm (present_turns g time lit ml mtick msent me input (h Master) um mi qz i.1.0)));
    }
master_steps g first older time lit ml sl next mtick stick later msent ssent more me se input at0 ms h um us p told says begins turn (offered mi qz si a o) (moves to u same m fresh) =
    let mv : MovesBy ml Master Idle input to ms = moved_from ml Master Idle input to ms mi m in
    record {
      me = time;
      se = se;
      master = u;
      slave = us;
      stage = answered (same ∙ mv.1.0) si (p.hears Master SLAVE_PRESENT se o) a (says LOCK (one_said LOCK ms time mv.1.1.0));
    }
master_steps g first older time lit ml sl next mtick stick later msent ssent more me se input at0 ms h um us p told says begins turn (answered mi si a b o) (stays u same firm q all fresh) =
    record { me = me; se = se; master = u; slave = us; stage = answered (same ∙ mi) si a b (inr (o, λ i. not_both_roles i.0)) }
master_steps g first older time lit ml sl next mtick stick later msent ssent more me se input at0 ms h um us p told says begins turn (answered mi si a b o) (moves to u same m fresh) =
    let mv : MovesBy ml Master MLock input to ms = moved_from ml Master MLock input to ms mi m in
    absurd (omega (arith, said_too_far Slave sl Present 3 si (told (in_state ml MLock mi (λ e. cc)) LOCKED mv.0)))
master_steps g first older time lit ml sl next mtick stick later msent ssent more me se input at0 ms h um us p told says begins turn (locking mi si a b o) (stays u same firm q all fresh) =
    record { me = me; se = se; master = u; slave = us; stage = locking (same ∙ mi) si a b (inr (o, λ i. not_both_roles i.0)) }
master_steps g first older time lit ml sl next mtick stick later msent ssent more me se input at0 ms h um us p told says begins turn (locking mi si a b o) (moves to u same m fresh) =
    let mv : MovesBy ml Master MLock input to ms = moved_from ml Master MLock input to ms mi m in
    absurd (omega (arith, said_too_far Slave sl SLock 3 si (told (in_state ml MLock mi (λ e. cc)) LOCKED mv.0)))
master_steps g first older time lit ml sl next mtick stick later msent ssent more me se input at0 ms h um us p told says begins turn (locked mi si a b o) (stays u same firm q all fresh) =
    record { me = me; se = se; master = u; slave = us; stage = locked (same ∙ mi) si a b (inr (o, λ i. firm (turns_at ml Master MLock input (Msg LOCKED) mi i.1.0 tt))) }
master_steps g first older time lit ml sl next mtick stick later msent ssent more me se input at0 ms h um us p told says begins turn (locked mi si a b o) (moves to u same m fresh) =
    let mv : MovesBy ml Master MLock input to ms = moved_from ml Master MLock input to ms mi m in
    let one : time ≤ℤ (se +ℤ pos g.pace.delay) = p.hears Master LOCKED se o in
    let two : time ≤ℤ (me +ℤ pos (g.pace.delay + g.pace.lock + g.pace.delay)) =
    soon_x se me time (g.pace.delay + g.pace.lock) g.pace.delay (g.pace.delay + g.pace.lock + g.pace.delay) a one (omega arith) in
    record {
      me = time;
      se = se;
      master = u;
      slave = us;
      stage =
          down (calls (same ∙ mv.1.0) si us.past one
          (soon_x me lit time (by_one g + g.pace.delay) (g.pace.delay + g.pace.lock + g.pace.delay) (by_two g) b two (omega arith))
          (says own_calibrate (one_said own_calibrate ms time mv.1.1)));
    }
master_steps g first older time lit ml sl next mtick stick later msent ssent more me se input at0 ms h um us p told says begins turn (down x) out =
    let s : GiverStepped g first (Hears Master input at0 ∷ older) Slave time lit next sl later more se g.pace.delay (lit +ℤ pos (by_two g)) =
    giver_steps g first older Slave time lit ml sl next mtick later msent more me se g.pace.delay (lit +ℤ pos (by_two g)) input at0 ms (h Master) um p.master us.past
    (λ m at o. p.hears Slave m at o) (told (λ i. absurd ((exchange_out g first older Slave ml sl me se g.pace.delay (lit +ℤ pos (by_two g)) x).0 i))) says x out in
    record { me = s.e; se = se; master = s.up; slave = us; stage = down s.exchange }
master_steps g first older time lit ml sl next mtick stick later msent ssent more me se input at0 ms h um us p told says begins turn (up x) out =
    elim (taker_steps g first older Master time lit sl ml next stick later ssent more se me (a_wait g Master) (lit +ℤ pos (by_three g)) input at0 ms us p.slave
    (λ m at o. p.hears Master m at o) (told (λ i. absurd ((exchange_out g first older Master sl ml se me (a_wait g Master) (lit +ℤ pos (by_three g)) x).1 i))) turn x out) [
      | inl s ↦ record { me = s.e; se = se; master = s.up; slave = us; stage = up s.exchange }
      | inr t ↦
          record {
            me = time;
            se = se;
            master = t.up;
            slave = us;
            stage =
                turning (t.same ∙ t.move.1.0) t.giver t.soon
                (taken_by se lit time (by_three g) g.pace.dmax (a_wait g Slave) (by_four g) t.early t.soon (omega arith))
                (says WR_MODE_ON (one_said WR_MODE_ON ms time t.move.1.1))
                (λ f i _. (us.sents f i).0);
          }
    ]
master_steps g first older time lit ml sl next mtick stick later msent ssent more me se input at0 ms h um us p told says begins turn (turning mi si a b o f) (stays u same firm q all fresh) =
    record { me = me; se = se; master = u; slave = us; stage = turning (same ∙ mi) si a b (inr (o, λ i. not_both_roles i.0)) f }
master_steps g first older time lit ml sl next mtick stick later msent ssent more me se input at0 ms h um us p told says begins turn (turning mi si a b o f) (moves to u same m fresh) =
    absurd (moved_from ml Master LinkOn input to ms mi m)

slave_no_present : (m : WrMsg) → Sends Slave Calibrated m → m ≡ SLAVE_PRESENT → ⊥
slave_no_present (CALIBRATE _ _ _) s e = cc
slave_no_present (CALIBRATED _ _) s e = cc
slave_no_present SLAVE_PRESENT s e = s
slave_no_present LOCK s e = s
slave_no_present LOCKED s e = s
slave_no_present WR_MODE_ON s e = s

-- an input at the slave: the link still comes up, or the slave is in WR_LINK_ON
pub slave_steps :
    (g : Given) (first : BothPorts) (older : List Change) (time lit : ℤ) (ml sl next : LinkAt) (mtick stick later : ℤ) (msent ssent : List Sending) (me se : ℤ) (input : LinkIn) (at0 : ℤ) (ms : List WrMsg) →
    BothHold g → PortUp g time lit Master ml mtick msent me → PortUp g time lit Slave sl stick ssent se → Prompt g first older time mtick stick →
    ((sl.state ≡ Idle → rest_of sl ≡ 0) → (m : WrMsg) → input ≡ Msg m → told_from Master m ≤ reached Master ml.state) →
    ((m : WrMsg) → IsAmong (m, time) (stamped time ms []) → IsUnheard first Master m (Hears Slave input at0 ∷ older) time) →
    (ml.state ≡ Idle → rest_of ml ≡ 0 → next.state ≡ Idle → rest_of next ≡ 0 → AreAwake first (Hears Slave input at0 ∷ older) time) →
    (next.state ≡ SLock → IsLocking first (Hears Slave input at0 ∷ older) time) →
    ((suffix : Option ℕ) → input ≡ Announce suffix → offers suffix ≡ true → rest_of sl ≡ 0 → ml.state ≡ Idle → rest_of ml ≡ 0) →
    (g.in_turn ≡ true → InTurn first older (Hears Slave input at0)) →
    Stage g first older lit ml sl me se ssent → Outcome g time lit Slave sl se input next later (stamped time ms ssent) ms →
    Stepped g first (Hears Slave input at0 ∷ older) time lit ml next mtick later msent (stamped time ms ssent) ⊎ (next.state ≡ LinkOn)
slave_steps g first older time lit ml sl next mtick stick later msent ssent me se input at0 ms h um us p told says begins locks awake turn (resting mi si w) (stays u same firm q all fresh) =
    inl (record {
      me = me;
      se = se;
      master = um;
      slave = u;
      stage =
          resting mi (same ∙ si)
          (still_rest g first older (Hears Slave input at0) time lit ml sl ml next
          (λ some. quiet_by g Master ml mtick lit time (h Master) some (um.soon mi) p.master)
          (λ some. quiet_by g Slave sl stick lit time (h Slave) some (us.soon si) p.slave)
          (λ b o. firm (offer_turns g time lit sl stick ssent se input o.1.0 (h Slave) us si b.1.0 o.1.1.0 o.1.1.1)) (λ mz sz. begins mi mz (same ∙ si) sz) w);
    })
slave_steps g first older time lit ml sl next mtick stick later msent ssent me se input at0 ms h um us p told says begins locks awake turn (resting mi si w) (moves to u same m fresh) =
    let mv : MovesBy sl Slave Idle input to ms = moved_from sl Slave Idle input to ms si m in
    let sz : rest_of sl ≡ 0 = none_left sl mv.1.1.1.0 mv.1.1.1.1 in
    let mz : rest_of ml ≡ 0 = awake mv.0.0 mv.0.1.0 mv.0.1.1 sz mi in
    inl (record {
      me = me;
      se = time;
      master = um;
      slave = u;
      stage =
          offered mi mz (same ∙ mv.1.0)
          (elim w [
            | inl some ↦ absurd (some_rest (rest_of ml) some mz)
            | inr w ↦
                elim w [
                  | inl some ↦ absurd (some_rest (rest_of sl) some sz)
                  | inr b ↦ soon_x b.1.1.0 lit time (g.quiet * g.pace.dmax) g.pace.announce (by_one g) b.1.1.1.0 (p.offers_come b.1.1.0 b.1.1.1.1) (omega arith)
                ]
          ])
          (says SLAVE_PRESENT (one_said SLAVE_PRESENT ms time mv.1.1.0));
    })
slave_steps g first older time lit ml sl next mtick stick later msent ssent me se input at0 ms h um us p told says begins locks awake turn (offered mi qz si a o) (stays u same firm q all fresh) =
    inl (record { me = me; se = se; master = um; slave = u; stage = offered mi qz (same ∙ si) a (inr (o, λ i. not_both_roles (sym i.0))) })
slave_steps g first older time lit ml sl next mtick stick later msent ssent me se input at0 ms h um us p told says begins locks awake turn (offered mi qz si a o) (moves to u same m fresh) =
    let mv : MovesBy sl Slave Present input to ms = moved_from sl Slave Present input to ms si m in
    absurd (omega (arith, said_too_far Master ml Idle 1 mi (told (in_state sl Present si (λ e. cc)) LOCK mv.0)))
slave_steps g first older time lit ml sl next mtick stick later msent ssent me se input at0 ms h um us p told says begins locks awake turn (answered mi si a b o) (stays u same firm q all fresh) =
    inl (record { me = me; se = se; master = um; slave = u; stage = answered mi (same ∙ si) a b (inr (o, λ i. firm (turns_at sl Slave Present input (Msg LOCK) si i.1.0 tt))) })
slave_steps g first older time lit ml sl next mtick stick later msent ssent me se input at0 ms h um us p told says begins locks awake turn (answered mi si a b o) (moves to u same m fresh) =
    let mv : MovesBy sl Slave Present input to ms = moved_from sl Slave Present input to ms si m in
    inl (record {
      me = me;
      se = time;
      master = um;
      slave = u;
      stage =
          locking mi (same ∙ mv.1.0) (p.hears Slave LOCK me o)
          (soon_x se lit me (by_one g) g.pace.delay (by_one g + g.pace.delay) b a (omega arith)) (inl (locks (same ∙ mv.1.0)));
    })
slave_steps g first older time lit ml sl next mtick stick later msent ssent me se input at0 ms h um us p told says begins locks awake turn (locking mi si a b o) (stays u same firm q all fresh) =
    inl (record { me = me; se = se; master = um; slave = u; stage = locking mi (same ∙ si) a b (inr (o, λ i. firm (turns_at sl Slave SLock input (Tick true) si i.1 tt))) })
slave_steps g first older time lit ml sl next mtick stick later msent ssent me se input at0 ms h um us p told says begins locks awake turn (locking mi si a b o) (moves to u same m fresh) =
    let mv : MovesBy sl Slave SLock input to ms = moved_from sl Slave SLock input to ms si m in
    inl (record {
      me = me;
      se = time;
      master = um;
      slave = u;
      stage =
          locked mi (same ∙ mv.1.0) (soon_x se me time g.pace.delay g.pace.lock (g.pace.delay + g.pace.lock) a (p.locks se o) (omega arith)) b
          (says LOCKED (one_said LOCKED ms time mv.1.1));
    })
slave_steps g first older time lit ml sl next mtick stick later msent ssent me se input at0 ms h um us p told says begins locks awake turn (locked mi si a b o) (stays u same firm q all fresh) =
    inl (record { me = me; se = se; master = um; slave = u; stage = locked mi (same ∙ si) a b (inr (o, λ i. not_both_roles (sym i.0))) })
slave_steps g first older time lit ml sl next mtick stick later msent ssent me se input at0 ms h um us p told says begins locks awake turn (locked mi si a b o) (moves to u same m fresh) =
    let mv : MovesBy sl Slave Locked input to ms = moved_from sl Slave Locked input to ms si m in
    absurd (omega (arith, said_too_far Master ml MLock 2 mi (told (in_state sl Locked si (λ e. cc)) (CALIBRATE mv.0.0 mv.0.1.0 mv.0.1.1.0) mv.0.1.1.1)))
slave_steps g first older time lit ml sl next mtick stick later msent ssent me se input at0 ms h um us p told says begins locks awake turn (down x) out =
    elim (taker_steps g first older Slave time lit ml sl next mtick later msent (stamped time ms ssent) me se g.pace.delay (lit +ℤ pos (by_two g)) input at0 ms um p.master
    (λ m at o. p.hears Slave m at o) (told (λ i. absurd ((exchange_out g first older Slave ml sl me se g.pace.delay (lit +ℤ pos (by_two g)) x).1 i))) turn x out) [
      | inl s ↦ inl (record { me = me; se = s.e; master = um; slave = s.up; stage = down s.exchange })
      | inr t ↦
          inl (record {
            me = me;
            se = time;
            master = um;
            slave = t.up;
            stage =
                up (calls (t.same ∙ t.move.1.0) t.giver um.past t.soon
                (taken_by me lit time (by_two g) g.pace.dmax (a_wait g Master) (by_three g) t.early t.soon (omega arith))
                (says own_calibrate (one_said own_calibrate ms time t.move.1.1)));
          })
    ]
slave_steps g first older time lit ml sl next mtick stick later msent ssent me se input at0 ms h um us p told says begins locks awake turn (up x) out =
    let s : GiverStepped g first (Hears Slave input at0 ∷ older) Master time lit next ml later (stamped time ms ssent) me (a_wait g Master) (lit +ℤ pos (by_three g)) =
    giver_steps g first older Master time lit sl ml next stick later ssent (stamped time ms ssent) se me (a_wait g Master) (lit +ℤ pos (by_three g)) input at0 ms (h Slave) us p.slave um.past
    (λ m at o. p.hears Master m at o) (told (λ i. absurd ((exchange_out g first older Master sl ml se me (a_wait g Master) (lit +ℤ pos (by_three g)) x).0 i))) says x out in
    inl (record { me = me; se = s.e; master = um; slave = s.up; stage = up s.exchange })
slave_steps g first older time lit ml sl next mtick stick later msent ssent me se input at0 ms h um us p told says begins locks awake turn (turning mi si a b o f) (stays u same firm q all fresh) =
    inl (record {
      me = me;
      se = se;
      master = um;
      slave = u;
      stage =
          turning mi (same ∙ si) a b (inr (o, λ i. firm (turns_at sl Slave Calibrated input (Msg WR_MODE_ON) si i.1.0 tt)))
          (λ x i is.
          elim (stamped_in time Slave sl.state ms ssent x all i) [
            | inl now ↦ absurd (slave_no_present x.0 (subst (λ (s : LinkState). Sends Slave s x.0) si now.0) is)
            | inr before ↦ f x before is
          ]);
    })
slave_steps g first older time lit ml sl next mtick stick later msent ssent me se input at0 ms h um us p told says begins locks awake turn (turning mi si a b o f) (moves to u same m fresh) =
    inr (same ∙ (moved_from sl Slave Calibrated input to ms si m).1.0)
