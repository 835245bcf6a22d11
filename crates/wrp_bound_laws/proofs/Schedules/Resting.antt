-- A port that takes messages got its carrier more than two frame's lives ago: its quiet time, tick by tick.
use Rattle.std.proofs.Common.{◌≡◌, ◌⊎◌, inl, inr, ◌∙◌, refl, ap, sym, subst, ℕ, ◌==◌, ◌&&◌, ◌-◌, ◌*◌, ℤ, pos, ◌+ℤ◌, ◌≤ℤ◌, ◌<ℤ◌, Bool, true, false, if◌then◌else◌, Option, [], ◌∷◌, arith}
use Rattle.std.proofs.lemmas.Int.{ints}
use Rattle.std.proofs.lemmas.Bool.{eqb-true, and_parts, false≢true}
use Rattle.wrp_base.specs.declared.link.LinkState.{LinkState}
use Rattle.wrp_base.specs.declared.link.LinkState.TheVariants.{Idle, Present, MLock}
use Rattle.wrp_base.specs.declared.link.LinkWord.TheVariants.{Down, Quiet, Ptp}
use Rattle.wrp_base.specs.declared.link.Role.{Role}
use Rattle.wrp_base.specs.declared.link.Role.TheVariants.{Master, Slave}
use Rattle.wrp_base.specs.declared.message.WrMsg.{WrMsg}
use Rattle.wrp_base.specs.declared.message.WrMsg.TheVariants.{Present as SLAVE_PRESENT, Lock as LOCK, Locked as LOCKED, Calibrate as CALIBRATE, Calibrated as CALIBRATED, ModeOn as WR_MODE_ON}
use Rattle.wrp_handshake_laws.specs.Ends.{OutlivesFrames}
use Rattle.wrp_handshake_laws.proofs.Times.{Calm, calm_later, calm_over, calm_tick}
use Rattle.wrp_link.specs.declared.interface.LinkIn.{LinkIn}
use Rattle.wrp_link.specs.declared.interface.LinkIn.TheVariants.{Msg, Announce, Tick, CarrierUp, CarrierDown}
use Rattle.wrp_link.specs.LinkAt.{LinkAt}
use Rattle.wrp_link.specs.Rows.{Row, NoRow, Moves, Counts, CarrierGoes, under, offers, may_leave_idle, master_row, message_row, slave_row, announce_row, tick_row}
use Rattle.wrp_link.specs.Table.{after, by_row, word_in, counted}
use Rattle.wrp_port.specs.Hearing.{is_open, is_open_word}

-- of a link at some time: no carrier; or its carrier came more than two lives after `rest`; or its quiet time, which began no
-- sooner than that, runs
abbrev pub Rested : (life dmin : ℕ) → (rest time : ℤ) → LinkAt → (ticked : ℤ) → Type 0
Rested life dmin rest time l ticked =
    (l.carrier ≡ false) ⊎ (((rest +ℤ pos (2 * life)) <ℤ time) ⊎ ((l.state ≡ Idle) × Calm dmin l.set.quiet l.quiet ticked rest))

-- Time passes, or the node starts

passed_long : (rest time later : ℤ) (n : ℕ) → time ≤ℤ later → (rest +ℤ pos n) <ℤ time → (rest +ℤ pos n) <ℤ later
passed_long rest time later n h k = omega (arith, ints)

pub rested_later : (life dmin : ℕ) (rest time later : ℤ) (l : LinkAt) (ticked now : ℤ) → time ≤ℤ later → ticked ≤ℤ now → Rested life dmin rest time l ticked → Rested life dmin rest later l now
rested_later life dmin rest time later l ticked now h k (inl dark) = inl dark
rested_later life dmin rest time later l ticked now h k (inr (inl long)) = inr (inl (passed_long rest time later (2 * life) h long))
rested_later life dmin rest time later l ticked now h k (inr (inr (idle, calm))) = inr (inr (idle, calm_later dmin l.set.quiet l.quiet ticked now rest k calm))

-- Inputs

-- without a carrier there is no row
pub dark_row : (l : LinkAt) (b : Bool) (row : Row) → b ≡ false → l.carrier ≡ false → (by_row l (under b row)).carrier ≡ false
dark_row l true row e d = absurd (false≢true (sym e))
dark_row l false row e d = d

no_row : (life dmin : ℕ) (rest time : ℤ) (l : LinkAt) (ticked : ℤ) (c : Bool) → Rested life dmin rest time l ticked → Rested life dmin rest time (by_row l (under c NoRow)) ticked
no_row life dmin rest time l ticked true h = h
no_row life dmin rest time l ticked false h = h

leaves_late : (life dmin : ℕ) (rest time : ℤ) (l : LinkAt) (ticked : ℤ) (c b : Bool) → OutlivesFrames life dmin l.set → ticked ≤ℤ time → (b ≡ true → l.quiet ≡ 0) → l.state ≡ Idle → Calm dmin l.set.quiet l.quiet ticked rest →
    (sends : Row) → Rested life dmin rest time (by_row l (under c (under b sends))) ticked
leaves_late life dmin rest time l ticked false b full past over idle calm sends = inr (inr (idle, calm))
leaves_late life dmin rest time l ticked true false full past over idle calm sends = inr (inr (idle, calm))
leaves_late life dmin rest time l ticked true true full past over idle calm sends =
    inr (inl (calm_over life dmin l.set.quiet ticked time rest full past (subst (λ (q : ℕ). Calm dmin l.set.quiet q ticked rest) (over refl) calm)))

-- a message
idle_rested : (life dmin : ℕ) (rest time : ℤ) (l : LinkAt) (ticked : ℤ) (m : WrMsg) → OutlivesFrames life dmin l.set → ticked ≤ℤ time → l.state ≡ Idle → Calm dmin l.set.quiet l.quiet ticked rest → Rested life dmin rest time (by_row l (under l.carrier (master_row l Idle m))) ticked
idle_rested life dmin rest time l ticked SLAVE_PRESENT full past idle calm =
    leaves_late life dmin rest time l ticked l.carrier (may_leave_idle l) full past (λ e. eqb-true l.quiet 0 (and_parts (l.quiet == 0) _ e).0) idle calm (Moves MLock (LOCK ∷ []))
idle_rested life dmin rest time l ticked LOCK full past idle calm = no_row life dmin rest time l ticked l.carrier (inr (inr (idle, calm)))
idle_rested life dmin rest time l ticked LOCKED full past idle calm = no_row life dmin rest time l ticked l.carrier (inr (inr (idle, calm)))
idle_rested life dmin rest time l ticked (CALIBRATE a b c) full past idle calm = no_row life dmin rest time l ticked l.carrier (inr (inr (idle, calm)))
idle_rested life dmin rest time l ticked (CALIBRATED tx rx) full past idle calm = no_row life dmin rest time l ticked l.carrier (inr (inr (idle, calm)))
idle_rested life dmin rest time l ticked WR_MODE_ON full past idle calm = no_row life dmin rest time l ticked l.carrier (inr (inr (idle, calm)))

message_rested : (life dmin : ℕ) (rest time : ℤ) (l : LinkAt) (ticked : ℤ) (role : Role) (m : WrMsg) → OutlivesFrames life dmin l.set → ticked ≤ℤ time → l.state ≡ Idle → Calm dmin l.set.quiet l.quiet ticked rest →
    Rested life dmin rest time (by_row l (under l.carrier (message_row l role m))) ticked
message_rested life dmin rest time l ticked Master m full past idle calm =
    subst (λ (r : Row). Rested life dmin rest time (by_row l (under l.carrier r)) ticked) (sym (ap (λ (t : LinkState). master_row l t m) idle)) (idle_rested life dmin rest time l ticked m full past idle calm)
message_rested life dmin rest time l ticked Slave m full past idle calm =
    subst (λ (r : Row). Rested life dmin rest time (by_row l (under l.carrier r)) ticked) (sym (ap (λ (t : LinkState). slave_row t m) idle)) (no_row life dmin rest time l ticked l.carrier (inr (inr (idle, calm))))

msg_rested : (life dmin : ℕ) (rest time : ℤ) (l : LinkAt) (ticked : ℤ) (m : WrMsg) → OutlivesFrames life dmin l.set → ticked ≤ℤ time → Rested life dmin rest time l ticked → Rested life dmin rest time (after l (Msg m)) ticked
msg_rested life dmin rest time l ticked m full past (inl dark) = inl (dark_row l l.carrier (message_row l l.role m) dark dark)
msg_rested life dmin rest time l ticked m full past (inr (inl long)) = inr (inl long)
msg_rested life dmin rest time l ticked m full past (inr (inr (idle, calm))) = message_rested life dmin rest time l ticked l.role m full past idle calm

-- an Announce
announced : (l : LinkAt) (suffix : Option ℕ) → (offers suffix && ((l.holdoff == 0) && may_leave_idle l)) ≡ true → l.quiet ≡ 0
announced l suffix e =
    eqb-true l.quiet 0 (and_parts (l.quiet == 0) _ (and_parts (l.holdoff == 0) (may_leave_idle l) (and_parts (offers suffix) ((l.holdoff == 0) && may_leave_idle l) e).1).1).0

offered_rested : (life dmin : ℕ) (rest time : ℤ) (l : LinkAt) (ticked : ℤ) (role : Role) (suffix : Option ℕ) → OutlivesFrames life dmin l.set → ticked ≤ℤ time → l.state ≡ Idle → Calm dmin l.set.quiet l.quiet ticked rest →
    Rested life dmin rest time (by_row l (under l.carrier (announce_row l role Idle suffix))) ticked
offered_rested life dmin rest time l ticked Master suffix full past idle calm = no_row life dmin rest time l ticked l.carrier (inr (inr (idle, calm)))
offered_rested life dmin rest time l ticked Slave suffix full past idle calm =
    leaves_late life dmin rest time l ticked l.carrier (offers suffix && ((l.holdoff == 0) && may_leave_idle l)) full past (announced l suffix) idle calm (Moves Present _)

announce_rested : (life dmin : ℕ) (rest time : ℤ) (l : LinkAt) (ticked : ℤ) (suffix : Option ℕ) → OutlivesFrames life dmin l.set → ticked ≤ℤ time → Rested life dmin rest time l ticked → Rested life dmin rest time (after l (Announce suffix)) ticked
announce_rested life dmin rest time l ticked suffix full past (inl dark) = inl (dark_row l l.carrier (announce_row l l.role l.state suffix) dark dark)
announce_rested life dmin rest time l ticked suffix full past (inr (inl long)) = inr (inl long)
announce_rested life dmin rest time l ticked suffix full past (inr (inr (idle, calm))) =
    subst (λ (r : Row). Rested life dmin rest time (by_row l (under l.carrier r)) ticked) (sym (ap (λ (t : LinkState). announce_row l l.role t suffix) idle)) (offered_rested life dmin rest time l ticked l.role suffix full past idle calm)

-- a tick
counts_rested : (life dmin : ℕ) (rest time : ℤ) (l : LinkAt) (ticked : ℤ) (c : Bool) (s : LinkState) → l.carrier ≡ c → l.state ≡ s → s ≡ Idle → rest ≤ℤ time → (ticked +ℤ pos dmin) ≤ℤ time → Calm dmin l.set.quiet l.quiet ticked rest →
    Rested life dmin rest time (by_row l (under c Counts)) time
counts_rested life dmin rest time l ticked false s dark is idle past late calm = inl dark
counts_rested life dmin rest time l ticked true s lit is idle past late calm =
    let row : by_row l Counts ≡ record l { quiet = l.quiet - 1; holdoff = l.holdoff - 1 } = ap (counted l) (is ∙ idle) in
    subst (λ (k : LinkAt). Rested life dmin rest time k time) (sym row)
    (inr (inr (is ∙ idle, calm_tick dmin l.set.quiet l.quiet ticked time rest late past calm)))

pub tick_rested : (life dmin : ℕ) (rest time : ℤ) (l : LinkAt) (ticked : ℤ) (locked : Bool) → rest ≤ℤ time → (ticked +ℤ pos dmin) ≤ℤ time → Rested life dmin rest time l ticked →
    Rested life dmin rest time (after l (Tick locked)) time
tick_rested life dmin rest time l ticked locked past late (inl dark) = inl (dark_row l l.carrier (tick_row l l.state locked) dark dark)
tick_rested life dmin rest time l ticked locked past late (inr (inl long)) = inr (inl long)
tick_rested life dmin rest time l ticked locked past late (inr (inr (idle, calm))) =
    let row : tick_row l l.state locked ≡ Counts = ap (λ (t : LinkState). tick_row l t locked) idle in
    subst (λ (r : Row). Rested life dmin rest time (by_row l (under l.carrier r)) time) (sym row)
    (counts_rested life dmin rest time l ticked l.carrier l.state refl refl idle past late calm)

pub gone_dark : (l : LinkAt) (b : Bool) → l.carrier ≡ b → (by_row l (under b CarrierGoes)).carrier ≡ false
gone_dark l true e = refl
gone_dark l false e = e

-- an input that is no tick
abbrev pub IsCalmIn : LinkIn → Type 0
IsCalmIn (Tick locked) = ⊥
IsCalmIn _ = Unit {0}

pub heard_rested : (life dmin : ℕ) (rest time : ℤ) (l : LinkAt) (ticked : ℤ) (input : LinkIn) → OutlivesFrames life dmin l.set → ticked ≤ℤ time → IsCalmIn input → Rested life dmin rest time l ticked → Rested life dmin rest time (after l input) ticked
heard_rested life dmin rest time l ticked (Msg m) full past none h = msg_rested life dmin rest time l ticked m full past h
heard_rested life dmin rest time l ticked (Announce suffix) full past none h = announce_rested life dmin rest time l ticked suffix full past h
heard_rested life dmin rest time l ticked (Tick locked) full past none h = absurd none
heard_rested life dmin rest time l ticked CarrierDown full past none h = inl (gone_dark l l.carrier refl)
heard_rested life dmin rest time l ticked (CarrierUp fitted) full past none h = inr (inr (refl, inl refl))

-- A port that takes messages

open_where : (b : Bool) → is_open_word (if b then Ptp else Quiet) ≡ true → b ≡ true
open_where true e = refl
open_where false e = absurd (false≢true e)

open_idle : (c : Bool) (quiet : ℕ) → is_open_word (if c then word_in Idle quiet else Down) ≡ true → quiet ≡ 0
open_idle true quiet e = eqb-true quiet 0 (open_where (quiet == 0) e)
open_idle false quiet e = absurd (false≢true e)

open_lit : (c : Bool) (s : LinkState) (quiet : ℕ) → is_open_word (if c then word_in s quiet else Down) ≡ true → c ≡ true
open_lit true s quiet e = refl
open_lit false s quiet e = absurd (false≢true e)

-- has its carrier
pub open_has_carrier : (l : LinkAt) → is_open l ≡ true → l.carrier ≡ true
open_has_carrier l takes = open_lit l.carrier l.state l.quiet takes

-- and has rested
pub open_rested : (life dmin : ℕ) (rest time : ℤ) (l : LinkAt) (ticked : ℤ) → OutlivesFrames life dmin l.set → ticked ≤ℤ time → is_open l ≡ true → Rested life dmin rest time l ticked → (rest +ℤ pos (2 * life)) <ℤ time
open_rested life dmin rest time l ticked full past takes (inl dark) = absurd (false≢true (sym dark ∙ open_has_carrier l takes))
open_rested life dmin rest time l ticked full past takes (inr (inl long)) = long
open_rested life dmin rest time l ticked full past takes (inr (inr (idle, calm))) =
    let over : l.quiet ≡ 0 = open_idle l.carrier l.quiet (subst (λ (s : LinkState). is_open_word (if l.carrier then word_in s l.quiet else Down) ≡ true) idle takes) in
    calm_over life dmin l.set.quiet ticked time rest full past (subst (λ (q : ℕ). Calm dmin l.set.quiet q ticked rest) over calm)
