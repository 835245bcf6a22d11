-- The stages of a link that comes up, each with the times by which it ends.
use Rattle.std.proofs.Common.{◌≡◌, ◌⊎◌, inl, inr, sym, ap, ◌∙◌, subst, ℤ, ℕ, ◌+◌, ◌*◌, ◌<◌, ◌≤◌, pos, true, List, None, Some, arith, ◌+ℤ◌, ◌<ℤ◌, ◌≤ℤ◌}
use Rattle.std.proofs.lemmas.Int.{ints}
use Rattle.wrp_base.specs.declared.link.LinkState.{LinkState}
use Rattle.wrp_base.specs.declared.link.LinkState.TheVariants.{Idle, Present, SLock, MLock, Locked, Calibration, Calibrated, RespCalib, LinkOn}
use Rattle.wrp_base.specs.declared.link.Role.{Role}
use Rattle.wrp_base.specs.declared.link.Role.TheVariants.{Master, Slave}
use Rattle.wrp_base.specs.declared.message.WrMsg.{WrMsg}
use Rattle.wrp_base.specs.declared.message.WrMsg.TheVariants.{Present as SLAVE_PRESENT, Lock as LOCK, Locked as LOCKED, Calibrated as CALIBRATED, ModeOn as WR_MODE_ON}
use Rattle.wrp_base.specs.Link.{other_of}
use Rattle.wrp_link.specs.LinkAt.{LinkAt, wait_of}
use Rattle.wrp_link.specs.Rows.{own_calibrate}
use Rattle.wrp_handshake_laws.specs.Ends.{Sending, BothPorts, Change, IsAmong}
use Rattle.wrp_link_up_laws.specs.Pace.{patience, rest_of, IsUnheard, IsUnoffered, IsUnlocked}
use Rattle.wrp_link_up_laws.proofs.Ports.{Given, Holds, SentAgain, IsFresh, some_is}

-- how long a giver of this role, in CALIBRATED, lets its taker wait: a first wait, and a message
abbrev pub a_wait : Given → Role → ℕ
a_wait g giver = g.slow giver + g.pace.delay

-- by when the slave is past IDLE; the master in CALIBRATION; the slave there; the master in WR_LINK_ON
abbrev pub by_one : Given → ℕ
by_one g = g.quiet * g.pace.dmax + g.pace.announce

abbrev pub by_two : Given → ℕ
by_two g = by_one g + 3 * g.pace.delay + g.pace.lock

abbrev pub by_three : Given → ℕ
by_three g = by_two g + g.pace.dmax + a_wait g Master

abbrev pub by_four : Given → ℕ
by_four g = by_three g + g.pace.dmax + a_wait g Slave

-- the state in which a port waits for CALIBRATE
abbrev pub before_calibrate : Role → LinkState
before_calibrate Slave = Locked
before_calibrate Master = Calibrated

-- the delays were given, and are not yet heard
abbrev pub Told : Given → BothPorts → Role → List Change → ℤ → Type 0
Told g first taker changes at = (g.in_turn ≡ true) × ((tx : ℕ) × ((rx : ℕ) × IsUnheard first taker (CALIBRATED tx rx) changes at))

-- one end gives its delays, and the other, of this role, takes them
pub data Exchange (g : Given) (first : BothPorts) (changes : List Change) (taker : Role) (gl rl : LinkAt) (ge re : ℤ) (slack : ℕ) (by : ℤ) : Type 0 where
  calls :
      gl.state ≡ Calibration → rl.state ≡ before_calibrate taker → re ≤ℤ ge → ge ≤ℤ (re +ℤ pos slack) → ge ≤ℤ by →
      IsUnheard first taker own_calibrate changes ge → Exchange g first changes taker gl rl ge re slack by
  answers : gl.state ≡ Calibration → rl.state ≡ RespCalib → ge ≤ℤ re → ge ≤ℤ by → Exchange g first changes taker gl rl ge re slack by
  tells :
      gl.state ≡ Calibrated → rl.state ≡ before_calibrate taker → (c : ℤ) → c ≤ℤ ge → ge ≤ℤ (c +ℤ pos g.pace.dmax) → re ≤ℤ c →
      c ≤ℤ (re +ℤ pos slack) → c ≤ℤ by → IsUnheard first taker own_calibrate changes c → (IsFresh g (other_of taker) gl × SentAgain g (other_of taker)) ⊎ Told g first taker changes ge →
      Exchange g first changes taker gl rl ge re slack by
  waits :
      gl.state ≡ Calibrated → rl.state ≡ RespCalib → ge ≤ℤ (re +ℤ pos g.pace.dmax) → ge ≤ℤ (by +ℤ pos g.pace.dmax) →
      (IsFresh g (other_of taker) gl × SentAgain g (other_of taker)) ⊎ ((at : ℤ) × ((tx : ℕ) × ((rx : ℕ) × ((at ≤ℤ (ge +ℤ pos (g.slow (other_of taker)))) × IsUnheard first taker (CALIBRATED tx rx) changes at)))) →
      Exchange g first changes taker gl rl ge re slack by

-- both ends are awake, and wait for an Announce
abbrev pub BothWait : Given → BothPorts → List Change → ℤ → LinkAt → LinkAt → Type 0
BothWait g first changes lit ml sl =
    (rest_of ml ≡ 0) × ((rest_of sl ≡ 0) × ((at : ℤ) × ((at ≤ℤ (lit +ℤ pos (g.quiet * g.pace.dmax))) × IsUnoffered first changes at)))

-- how far a link that comes up is
pub data Stage (g : Given) (first : BothPorts) (changes : List Change) (lit : ℤ) (ml sl : LinkAt) (me se : ℤ) (sent : List Sending) : Type 0 where
  resting :
      ml.state ≡ Idle → sl.state ≡ Idle → (1 ≤ rest_of ml) ⊎ ((1 ≤ rest_of sl) ⊎ BothWait g first changes lit ml sl) →
      Stage g first changes lit ml sl me se sent
  offered :
      ml.state ≡ Idle → rest_of ml ≡ 0 → sl.state ≡ Present → se ≤ℤ (lit +ℤ pos (by_one g)) → IsUnheard first Master SLAVE_PRESENT changes se →
      Stage g first changes lit ml sl me se sent
  answered :
      ml.state ≡ MLock → sl.state ≡ Present → me ≤ℤ (se +ℤ pos g.pace.delay) → se ≤ℤ (lit +ℤ pos (by_one g)) → IsUnheard first Slave LOCK changes me →
      Stage g first changes lit ml sl me se sent
  locking :
      ml.state ≡ MLock → sl.state ≡ SLock → se ≤ℤ (me +ℤ pos g.pace.delay) → me ≤ℤ (lit +ℤ pos (by_one g + g.pace.delay)) → IsUnlocked first changes se →
      Stage g first changes lit ml sl me se sent
  locked :
      ml.state ≡ MLock → sl.state ≡ Locked → se ≤ℤ (me +ℤ pos (g.pace.delay + g.pace.lock)) → me ≤ℤ (lit +ℤ pos (by_one g + g.pace.delay)) →
      IsUnheard first Master LOCKED changes se → Stage g first changes lit ml sl me se sent
  down : Exchange g first changes Slave ml sl me se g.pace.delay (lit +ℤ pos (by_two g)) → Stage g first changes lit ml sl me se sent
  up : Exchange g first changes Master sl ml se me (a_wait g Master) (lit +ℤ pos (by_three g)) → Stage g first changes lit ml sl me se sent
  turning :
      ml.state ≡ LinkOn → sl.state ≡ Calibrated → me ≤ℤ (se +ℤ pos (a_wait g Slave)) → me ≤ℤ (lit +ℤ pos (by_four g)) → IsUnheard first Slave WR_MODE_ON changes me →
      ((f : Sending) → IsAmong f sent → f.0 ≡ SLAVE_PRESENT → f.1 ≤ℤ me) → Stage g first changes lit ml sl me se sent

-- what is owed at a moment
pub record Prompt (g : Given) (first : BothPorts) (older : List Change) (time mtick stick : ℤ) : Type 0 where
  pub master : time ≤ℤ (mtick +ℤ pos g.pace.dmax)
  pub slave : time ≤ℤ (stick +ℤ pos g.pace.dmax)
  pub hears : (role : Role) (m : WrMsg) (at : ℤ) → IsUnheard first role m older at → time ≤ℤ (at +ℤ pos g.pace.delay)
  pub offers_come : (at : ℤ) → IsUnoffered first older at → time ≤ℤ (at +ℤ pos g.pace.announce)
  pub locks : (at : ℤ) → IsUnlocked first older at → time ≤ℤ (at +ℤ pos g.pace.lock)

-- how long a port is in a state at most
abbrev pub within : Given → LinkState → ℕ
within g SLock = g.pace.lock + 2 * g.pace.delay
within g MLock = g.pace.lock + 2 * g.pace.delay
within g _ = g.slowest + g.pace.dmax + 2 * g.pace.delay

none_is : {n : ℕ} → None ≡ Some n → ⊥
none_is e = cc

lasts_by : (n x dmin : ℕ) (e time : ℤ) → n + dmin < x → time ≤ℤ (e +ℤ pos n) → (time +ℤ pos dmin) <ℤ (e +ℤ pos x)
lasts_by n x dmin e time h t = omega (arith, ints)

-- a state is left before its timer fails
pub patient_in :
    (g : Given) (role : Role) (s : LinkState) (e time : ℤ) → Holds g role → time ≤ℤ (e +ℤ pos (within g s)) →
    (n : ℕ) → wait_of (g.set role) s ≡ Some n → (time +ℤ pos g.dmin) <ℤ (e +ℤ pos (patience n (g.set role).retries * g.dmin))
patient_in g role Idle e time h t n is = cc
patient_in g role Calibration e time h t n is = cc
patient_in g role LinkOn e time h t n is = cc
patient_in g role SLock e time h t n is =
    subst (λ (k : ℕ). (time +ℤ pos g.dmin) <ℤ (e +ℤ pos (patience k (g.set role).retries * g.dmin))) (some_is is)
    (lasts_by (g.pace.lock + 2 * g.pace.delay) (patience (g.set role).lock_wait (g.set role).retries * g.dmin) g.dmin e time h.locks_last t)
patient_in g role MLock e time h t n is =
    subst (λ (k : ℕ). (time +ℤ pos g.dmin) <ℤ (e +ℤ pos (patience k (g.set role).retries * g.dmin))) (some_is is)
    (lasts_by (g.pace.lock + 2 * g.pace.delay) (patience (g.set role).lock_wait (g.set role).retries * g.dmin) g.dmin e time h.locks_last t)
patient_in g role _ e time h t n is =
    subst (λ (k : ℕ). (time +ℤ pos g.dmin) <ℤ (e +ℤ pos (patience k (g.set role).retries * g.dmin))) (some_is is)
    (lasts_by (g.slowest + g.pace.dmax + 2 * g.pace.delay) (patience (g.set role).wait (g.set role).retries * g.dmin) g.dmin e time h.waits_last t)

-- a port that is left in time, whatever its state
abbrev pub IsPatient : Given → Role → ℤ → LinkAt → ℤ → Type 0
IsPatient g role time l e = (n : ℕ) → wait_of (g.set role) l.state ≡ Some n → (time +ℤ pos g.dmin) <ℤ (e +ℤ pos (patience n (g.set role).retries * g.dmin))

pub patient_at : (g : Given) (role : Role) (s : LinkState) (l : LinkAt) (e time : ℤ) → Holds g role → l.state ≡ s → time ≤ℤ (e +ℤ pos (within g s)) → IsPatient g role time l e
patient_at g role s l e time h is t n w = patient_in g role s e time h t n (ap (λ x. wait_of (g.set role) x) (sym is) ∙ w)

pub untimed : (g : Given) (role : Role) (s : LinkState) (l : LinkAt) (e time : ℤ) → l.state ≡ s → wait_of (g.set role) s ≡ None → IsPatient g role time l e
untimed g role s l e time is none n w = absurd (none_is (sym none ∙ ap (λ x. wait_of (g.set role) x) (sym is) ∙ w))

-- sums
pub soon_x : (a b time : ℤ) (x y z : ℕ) → a ≤ℤ (b +ℤ pos x) → time ≤ℤ (a +ℤ pos y) → x + y ≤ z → time ≤ℤ (b +ℤ pos z)
soon_x a b time x y z h t le = omega (arith, ints)

pub soon_y : (b time : ℤ) (y z : ℕ) → time ≤ℤ (b +ℤ pos y) → y ≤ z → time ≤ℤ (b +ℤ pos z)
soon_y b time y z t le = omega (arith, ints)

-- by when an exchange is done
pub exchange_soon :
    (g : Given) (first : BothPorts) (older : List Change) (taker : Role) (time tick : ℤ) (gl : LinkAt) (ge : ℤ) →
    ((m : WrMsg) (at : ℤ) → IsUnheard first taker m older at → time ≤ℤ (at +ℤ pos g.pace.delay)) →
    (fresh : (IsFresh g (other_of taker) gl → time ≤ℤ (ge +ℤ pos ((g.set (other_of taker)).wait * g.pace.dmax)))) →
    (IsFresh g (other_of taker) gl × SentAgain g (other_of taker)) ⊎ ((at : ℤ) × ((tx : ℕ) × ((rx : ℕ) × ((at ≤ℤ (ge +ℤ pos (g.slow (other_of taker)))) × IsUnheard first taker (CALIBRATED tx rx) older at)))) →
    time ≤ℤ (ge +ℤ pos (a_wait g (other_of taker)))
exchange_soon g first older taker time tick gl ge hears fresh which =
    elim which [
      | inl f ↦ soon_y ge time (g.slow (other_of taker)) (a_wait g (other_of taker)) (subst (λ (n : ℕ). time ≤ℤ (ge +ℤ pos n)) f.1.0 (fresh f.0)) (omega arith)
      | inr o ↦ soon_x o.0 ge time (g.slow (other_of taker)) g.pace.delay (a_wait g (other_of taker)) o.1.1.1.0 (hears (CALIBRATED o.1.0 o.1.1.0) o.0 o.1.1.1.1) (omega arith)
    ]
