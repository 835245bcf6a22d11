-- A link that is open stays open at each input, unless it loses its carrier or begins the whole of its quiet time.
use Rattle.std.proofs.Common.{◌≡◌, ◌⊎◌, inl, inr, refl, ap, sym, subst, ℕ, ◌-◌, ◌==◌, nat_lt, Bool, true, false, if◌then◌else◌, [], ◌∷◌, Option, None, Some}
use Rattle.std.proofs.lemmas.Bool.{eqb-true, false≢true}
use Rattle.wrp_base.specs.declared.link.LinkState.{LinkState}
use Rattle.wrp_base.specs.declared.link.LinkState.TheVariants.{Idle, Present, SLock, MLock, Locked, Calibration, Calibrated, RespCalib, LinkOn}
use Rattle.wrp_base.specs.declared.link.LinkWord.TheVariants.{Down, Ptp, Quiet}
use Rattle.wrp_base.specs.declared.link.Role.{Role}
use Rattle.wrp_base.specs.declared.link.Role.TheVariants.{Master, Slave}
use Rattle.wrp_base.specs.declared.message.WrMsg.{WrMsg}
use Rattle.wrp_base.specs.declared.message.WrMsg.TheVariants.{Present as SLAVE_PRESENT, Lock as LOCK, Locked as LOCKED, Calibrate as CALIBRATE, Calibrated as CALIBRATED, ModeOn as WR_MODE_ON}
use Rattle.wrp_link.specs.declared.interface.LinkIn.{LinkIn}
use Rattle.wrp_link.specs.declared.interface.LinkIn.TheVariants as link_in
use Rattle.wrp_link.specs.LinkAt.{LinkAt, Waiting}
use Rattle.wrp_link.specs.Rows.{Row, NoRow, Stays, Moves, Keeps, Resends, Fails, Waits, Counts, CarrierComes, CarrierGoes, announce_row, master_row, may_leave_idle, message_row, row_of, tick_row, timer_row, under, slave_row}
use Rattle.wrp_link.specs.Table.{after, by_row, counted, word_in}
use Rattle.wrp_port.specs.Hearing.{is_open, is_open_word}
use Rattle.wrp_bound_laws.proofs.Schedules.Resting.{open_has_carrier}

-- How an open link closes

-- no row enters IDLE
abbrev GoesOn : Row → Type 0
GoesOn (Moves next sends) = next ≡ Idle → ⊥
GoesOn (Keeps tx rx next sends) = next ≡ Idle → ⊥
GoesOn _ = Unit {0}

goes_under : (b : Bool) (row : Row) → GoesOn row → GoesOn (under b row)
goes_under true row h = h
goes_under false row h = tt

goes_if : (b : Bool) (r t : Row) → GoesOn r → GoesOn t → GoesOn (if b then r else t)
goes_if true r t h k = h
goes_if false r t h k = k

master_goes : (l : LinkAt) (state : LinkState) (m : WrMsg) → GoesOn (master_row l state m)
master_goes l Idle SLAVE_PRESENT = goes_under (may_leave_idle l) (Moves MLock (LOCK ∷ [])) (λ e. cc)
master_goes l MLock SLAVE_PRESENT = tt
master_goes l MLock LOCKED = λ e. cc
master_goes l Calibrated (CALIBRATE a b c) = λ e. cc
master_goes l RespCalib (CALIBRATED tx rx) = λ e. cc
master_goes l LinkOn (CALIBRATED tx rx) = tt
master_goes l LinkOn SLAVE_PRESENT = goes_under _ Fails tt
master_goes l _ _ = tt

timer_goes : (l : LinkAt) (o : Option Waiting) → GoesOn (timer_row l o)
timer_goes l None = tt
timer_goes l (Some w) = goes_if (w.ticks == 1) _ Waits (goes_if (nat_lt 0 w.retries) _ Fails tt tt) tt

tick_goes : (l : LinkAt) (state : LinkState) (locked : Bool) → GoesOn (tick_row l state locked)
tick_goes l Idle locked = tt
tick_goes l LinkOn locked = tt
tick_goes l SLock true = λ e. cc
tick_goes l SLock false = timer_goes l l.waiting
tick_goes l Calibration locked = λ e. cc
tick_goes l _ locked = timer_goes l l.waiting

announce_goes : (l : LinkAt) (role : Role) (state : LinkState) (suffix : Option ℕ) → GoesOn (announce_row l role state suffix)
announce_goes l Slave Idle suffix = goes_under _ (Moves Present (SLAVE_PRESENT ∷ [])) (λ e. cc)
announce_goes l _ _ suffix = tt

slave_goes : (state : LinkState) (m : WrMsg) → GoesOn (slave_row state m)
slave_goes Present LOCK = λ e. cc
slave_goes Locked (CALIBRATE a b c) = λ e. cc
slave_goes RespCalib (CALIBRATED tx rx) = λ e. cc
slave_goes Calibrated WR_MODE_ON = λ e. cc
slave_goes _ _ = tt

message_goes : (l : LinkAt) (role : Role) (m : WrMsg) → GoesOn (message_row l role m)
message_goes l Master m = master_goes l l.state m
message_goes l Slave m = slave_goes l.state m

row_goes : (l : LinkAt) (input : LinkIn) → GoesOn (row_of l input)
row_goes l (link_in.Msg m) = goes_under l.carrier (message_row l l.role m) (message_goes l l.role m)
row_goes l (link_in.Announce suffix) = goes_under l.carrier (announce_row l l.role l.state suffix) (announce_goes l l.role l.state suffix)
row_goes l (link_in.Tick locked) = goes_under l.carrier (tick_row l l.state locked) (tick_goes l l.state locked)
row_goes l link_in.CarrierDown = goes_under l.carrier CarrierGoes tt
row_goes l (link_in.CarrierUp fitted) = tt

-- without its carrier, or in the whole of its quiet time
abbrev pub Shut : LinkAt → Type 0
Shut l = (l.carrier ≡ false) ⊎ ((l.state ≡ Idle) × (l.quiet ≡ l.set.quiet))

in_open : (c : Bool) (s : LinkState) (quiet : ℕ) → c ≡ true → (s ≡ Idle → ⊥) → is_open_word (if c then word_in s quiet else Down) ≡ true
in_open false s quiet e h = absurd (false≢true e)
in_open true Idle quiet e h = absurd (h refl)
in_open true Present quiet e h = refl
in_open true SLock quiet e h = refl
in_open true MLock quiet e h = refl
in_open true Locked quiet e h = refl
in_open true Calibration quiet e h = refl
in_open true Calibrated quiet e h = refl
in_open true RespCalib quiet e h = refl
in_open true LinkOn quiet e h = refl

idle_counts : (c : Bool) (quiet : ℕ) → is_open_word (if c then word_in Idle quiet else Down) ≡ true → is_open_word (if c then word_in Idle (quiet - 1) else Down) ≡ true
idle_counts true quiet e = subst (λ b. is_open_word (if b then Ptp else Quiet) ≡ true) (sym (less_too quiet (over (quiet == 0) e))) refl
  where
    over : (b : Bool) → is_open_word (if b then Ptp else Quiet) ≡ true → b ≡ true
    over true f = refl
    over false f = absurd (false≢true f)

    less_too : (n : ℕ) → (n == 0) ≡ true → ((n - 1) == 0) ≡ true
    less_too n f = let z : n ≡ 0 = eqb-true n 0 f in ap (λ k. (k - 1) == 0) z
idle_counts false quiet e = e

counted_open : (l : LinkAt) (s : LinkState) → l.state ≡ s → is_open l ≡ true → is_open (counted l s) ≡ true
counted_open l Idle is e =
    subst (λ t. is_open_word (if l.carrier then word_in t (l.quiet - 1) else Down) ≡ true) (sym is)
    (idle_counts l.carrier l.quiet (subst (λ t. is_open_word (if l.carrier then word_in t l.quiet else Down) ≡ true) is e))
counted_open l LinkOn is e = e
counted_open l _ is e = e

open_row : (l : LinkAt) (row : Row) → is_open l ≡ true → GoesOn row → (is_open (by_row l row) ≡ true) ⊎ Shut (by_row l row)
open_row l NoRow e h = inl e
open_row l (Stays sends) e h = inl e
open_row l (Moves next sends) e h = inl (in_open l.carrier next l.quiet (open_has_carrier l e) h)
open_row l (Keeps tx rx next sends) e h = inl (in_open l.carrier next l.quiet (open_has_carrier l e) h)
open_row l (Resends sends) e h = inl e
open_row l Fails e h = inr (inr (refl, refl))
open_row l Waits e h = inl e
open_row l Counts e h = inl (counted_open l l.state refl e)
open_row l (CarrierComes own_module) e h = inr (inr (refl, refl))
open_row l CarrierGoes e h = inr (inl refl)

pub open_heard : (l : LinkAt) (input : LinkIn) → is_open l ≡ true → (is_open (after l input) ≡ true) ⊎ Shut (after l input)
open_heard l input e = open_row l (row_of l input) e (row_goes l input)
