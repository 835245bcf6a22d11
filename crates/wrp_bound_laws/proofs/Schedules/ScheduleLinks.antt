-- A port's link that is closed, because it has no carrier or is in quiet time, is opened only by a tick.
use Rattle.std.proofs.Common.{◌≡◌, ◌⊎◌, inl, inr, ◌∙◌, refl, ap, sym, subst, ℕ, zero, suc, ◌<◌, ◌*◌, ◌-◌, ◌==◌, ◌&&◌, Bool, true, false, if◌then◌else◌, is_some, List, [], ◌∷◌, Option, None, Some, arith}
use Rattle.std.proofs.lemmas.Bool.{false≢true, true≢false}
use Rattle.wrp_base.specs.declared.link.LinkState.{LinkState}
use Rattle.wrp_base.specs.declared.link.LinkState.TheVariants.{Idle, Present, MLock}
use Rattle.wrp_base.specs.declared.link.LinkWord.TheVariants.{Down, Quiet, Ptp}
use Rattle.wrp_base.specs.declared.link.Role.{Role}
use Rattle.wrp_base.specs.declared.link.Role.TheVariants.{Master, Slave}
use Rattle.wrp_base.specs.declared.message.Body.{Body}
use Rattle.wrp_base.specs.declared.message.Body.TheVariants.{Signal, Announce as AnnounceBody}
use Rattle.wrp_base.specs.declared.message.WrMsg.{WrMsg}
use Rattle.wrp_base.specs.declared.message.WrMsg.TheVariants.{Present as SLAVE_PRESENT, Lock as LOCK}
use Rattle.wrp_data.specs.declared.reason.Reason.{Reason}
use Rattle.wrp_link.specs.declared.interface.LinkIn.{LinkIn}
use Rattle.wrp_link.specs.declared.interface.LinkIn.TheVariants.{Msg, Announce, Tick, CarrierDown, CarrierUp}
use Rattle.wrp_link.specs.declared.interface.LinkSet.{LinkSet}
use Rattle.wrp_link.specs.LinkAt.{LinkAt, new_link}
use Rattle.wrp_link.specs.Rows.{Row, NoRow, Moves, under, offers, may_leave_idle, slave_row, master_row, message_row, announce_row}
use Rattle.wrp_link.specs.Table.{after, by_row, word_in}
use Rattle.wrp_port.specs.declared.interface.PortIn.{PortIn}
use Rattle.wrp_port.specs.declared.interface.PortIn.TheVariants.{Msg as PortMsg, Lease, Tick as PortTick, Sent, Carrier, Sample, Chain, Reset}
use Rattle.wrp_port.specs.declared.setting.Setting.{Setting}
use Rattle.wrp_port.specs.Hearing.{early_reason, is_open, is_open_word, link_input}
use Rattle.wrp_port.specs.History.{input_unless, link_by, link_inputs, link_of, to_link, with_input}
use Rattle.wrp_course.proofs.RunLinks.{run_set}
use Rattle.wrp_bound_laws.proofs.Schedules.Resting.{dark_row, gone_dark}

-- Closed

abbrev ClosedBy : Bool → LinkState → ℕ → Type 0
ClosedBy carrier state quiet = (carrier ≡ false) ⊎ ((state ≡ Idle) × ((quiet == 0) ≡ false))

-- it has no carrier, or is in quiet time
abbrev IsClosed : LinkAt → Type 0
IsClosed l = ClosedBy l.carrier l.state l.quiet

in_quiet : (b : Bool) → is_open_word (if b then Ptp else Quiet) ≡ false → b ≡ false
in_quiet true e = absurd (true≢false e)
in_quiet false e = refl

closed_by : (c : Bool) (s : LinkState) (quiet : ℕ) → is_open_word (if c then word_in s quiet else Down) ≡ false → ClosedBy c s quiet
closed_by false s quiet e = inl refl
closed_by true Idle quiet e = inr (refl, in_quiet (quiet == 0) e)
closed_by true _ quiet e = absurd (true≢false e)

word_closed : (c : Bool) (s : LinkState) (quiet : ℕ) → ClosedBy c s quiet → is_open_word (if c then word_in s quiet else Down) ≡ false
word_closed false s quiet h = refl
word_closed true s quiet (inl e) = absurd (true≢false e)
word_closed true s quiet (inr x) = ap (λ (t : LinkState). is_open_word (word_in t quiet)) x.0 ∙ ap (λ (b : Bool). is_open_word (if b then Ptp else Quiet)) x.1

-- Inputs of a link

same_link : (l : LinkAt) (b : Bool) (row : Row) → row ≡ NoRow → by_row l (under b row) ≡ l
same_link l true row e = ap (by_row l) e
same_link l false row e = refl

-- in quiet time a master does not begin
idle_master : (l : LinkAt) (m : WrMsg) → (l.quiet == 0) ≡ false → master_row l Idle m ≡ NoRow
idle_master l SLAVE_PRESENT q = ap (λ (b : Bool). under (b && (is_some l.own_module && l.set.wr)) (Moves MLock (LOCK ∷ []))) q
idle_master l _ q = refl

idle_message : (l : LinkAt) (r : Role) (m : WrMsg) → l.state ≡ Idle → (l.quiet == 0) ≡ false → message_row l r m ≡ NoRow
idle_message l Slave m idle q = ap (λ (s : LinkState). slave_row s m) idle
idle_message l Master m idle q = ap (λ (s : LinkState). master_row l s m) idle ∙ idle_master l m q

-- nor does a slave
under_none : (a b c : Bool) (row : Row) → c ≡ false → under (a && (b && c)) row ≡ NoRow
under_none true true c row e = ap (λ (x : Bool). under x row) e
under_none true false c row e = refl
under_none false b c row e = refl

idle_announce : (l : LinkAt) (r : Role) (suffix : Option ℕ) → (l.quiet == 0) ≡ false → announce_row l r Idle suffix ≡ NoRow
idle_announce l Slave suffix q =
    under_none (offers suffix) (l.holdoff == 0) (may_leave_idle l) (Moves Present (SLAVE_PRESENT ∷ [])) (ap (λ (b : Bool). b && (is_some l.own_module && l.set.wr)) q)
idle_announce l Master suffix q = refl

not_zero : (n : ℕ) → 0 < n → (n == 0) ≡ false
not_zero n h = grind (arith, h)

-- an input that is no tick
abbrev IsNoTickIn : LinkIn → Type 0
IsNoTickIn (Tick locked) = ⊥
IsNoTickIn _ = Unit {0}

-- leaves a closed link closed
closed_after : (l : LinkAt) (input : LinkIn) → 0 < l.set.quiet → IsNoTickIn input → IsClosed l → IsClosed (after l input)
closed_after l (Msg m) some none (inl dark) = inl (dark_row l l.carrier (message_row l l.role m) dark dark)
closed_after l (Msg m) some none (inr x) =
    subst IsClosed (sym (same_link l l.carrier (message_row l l.role m) (idle_message l l.role m x.0 x.1))) (inr x)
closed_after l (Announce suffix) some none (inl dark) = inl (dark_row l l.carrier (announce_row l l.role l.state suffix) dark dark)
closed_after l (Announce suffix) some none (inr x) =
    subst IsClosed
    (sym (same_link l l.carrier (announce_row l l.role l.state suffix) (ap (λ (s : LinkState). announce_row l l.role s suffix) x.0 ∙ idle_announce l l.role suffix x.1)))
    (inr x)
closed_after l CarrierDown some none h = inl (gone_dark l l.carrier refl)
closed_after l (CarrierUp fitted) some none h = inr (refl, not_zero l.set.quiet some)
closed_after l (Tick locked) some none h = absurd none

-- Inputs of a port

abbrev HasNoTick : Option LinkIn → Type 0
HasNoTick None = Unit {0}
HasNoTick (Some input) = IsNoTickIn input

body_no_tick : (role : Role) (body : Body) → HasNoTick (link_input role body)
body_no_tick Slave (AnnounceBody origin utc p1 quality p2 gm steps source suffix) = tt
body_no_tick Slave (Signal target (Some m)) = tt
body_no_tick Slave (Signal target None) = tt
body_no_tick Slave _ = tt
body_no_tick Master (Signal target (Some m)) = tt
body_no_tick Master (Signal target None) = tt
body_no_tick Master _ = tt

unless_no_tick : (reason : Option Reason) (role : Role) (body : Body) → HasNoTick (input_unless reason (link_input role body))
unless_no_tick None role body = body_no_tick role body
unless_no_tick (Some reason) role body = tt

closed_with : (set : Setting) (inputs : List LinkIn) (o : Option LinkIn) → 0 < set.link.quiet → HasNoTick o → is_open (link_by set inputs) ≡ false → is_open (link_by set (with_input o inputs)) ≡ false
closed_with set inputs None some none e = e
closed_with set inputs (Some input) some none e =
    let l : LinkAt = link_by set inputs in
    let quiet : 0 < l.set.quiet = subst (λ (x : LinkSet). 0 < x.quiet) (sym (run_set (new_link set.ds.role set.link) inputs)) some in
    let next : LinkAt = after l input in
    word_closed next.carrier next.state next.quiet (closed_after l input quiet none (closed_by l.carrier l.state l.quiet e))

-- an input of a port that is no tick
abbrev pub IsNoTickThere : PortIn → Type 0
IsNoTickThere (PortTick locked certain) = ⊥
IsNoTickThere _ = Unit {0}

stays_closed : (set : Setting) (told : List PortIn) (input : PortIn) → 0 < set.link.quiet → IsNoTickThere input → is_open (link_of set told) ≡ false → is_open (link_of set (input ∷ told)) ≡ false
stays_closed set told (PortMsg m stamp tick) some none e =
    closed_with set (link_inputs set told) (to_link set (link_of set told) (PortMsg m stamp tick)) some (unless_no_tick (early_reason set (link_of set told) m) set.ds.role m.body) e
stays_closed set told (Carrier true own_module) some none e = closed_with set (link_inputs set told) (Some (CarrierUp own_module)) some tt e
stays_closed set told (Carrier false own_module) some none e = closed_with set (link_inputs set told) (Some CarrierDown) some tt e
stays_closed set told Lease some none e = e
stays_closed set told (Sent delay seq stamp tick) some none e = e
stays_closed set told (Sample number phase) some none e = e
stays_closed set told (Chain news) some none e = e
stays_closed set told Reset some none e = refl
stays_closed set told (PortTick locked certain) some none e = absurd none

open_or : (b c : Bool) → (b ≡ false → c ≡ false) → c ≡ true → b ≡ true
open_or true c h e = refl
open_or false c h e = absurd (false≢true (sym (h refl) ∙ e))

-- a port that is open after an input that is no tick was open before it
pub was_open : (set : Setting) (told : List PortIn) (input : PortIn) → 0 < set.link.quiet → IsNoTickThere input → is_open (link_of set (input ∷ told)) ≡ true → is_open (link_of set told) ≡ true
was_open set told input some none e = open_or (is_open (link_of set told)) (is_open (link_of set (input ∷ told))) (stays_closed set told input some none) e

-- quiet time that outlives frames is some
pub quiet_some : (quiet life dmin : ℕ) → 2 * life < (quiet - 1) * dmin → 0 < quiet
quiet_some zero life dmin h = absurd (omega (arith, h))
quiet_some (suc quiet) life dmin h = omega arith
