-- The ticks in WR_LINK_ON: a link's own count is the whole one, up to the end of its type.
use Rattle.std.proofs.Common.{◌≡◌, ◌^◌, ◌<◌, refl, ap, ◌∙◌, sym, subst, ℕ, ◌+◌, Bool, true, false, if◌then◌else◌, nat_le, List, [], ◌∷◌, Option, arith}
use Rattle.std.specs.Prelude.{min}
use Rattle.std.proofs.lemmas.Bool.Decides.{nat_tests}
use Rattle.wrp_base.proofs.Booleans.{not_both}
use Rattle.wrp_base.specs.declared.link.LinkState.{LinkState}
use Rattle.wrp_base.specs.declared.link.LinkState.TheVariants.{Idle, SLock, LinkOn}
use Rattle.wrp_base.specs.declared.link.Role.{Role}
use Rattle.wrp_base.specs.declared.link.Role.TheVariants.{Master, Slave}
use Rattle.wrp_base.specs.declared.message.WrMsg.{WrMsg}
use Rattle.wrp_base.specs.declared.message.WrMsg.TheVariants.{Present as SLAVE_PRESENT}
use Rattle.wrp_link.specs.declared.interface.LinkIn.{LinkIn}
use Rattle.wrp_link.specs.declared.interface.LinkIn.TheVariants.{Msg, Announce, Tick, CarrierDown, CarrierUp}
use Rattle.wrp_link.specs.declared.interface.LinkSet.{LinkSet}
use Rattle.wrp_link.specs.LinkAt.{LinkAt}
use Rattle.wrp_link.specs.Rows.{Row, NoRow, Stays, Moves, Keeps, Resends, Fails, Waits, Counts, CarrierComes, CarrierGoes, under, row_of, message_row, master_row, announce_row, tick_row}
use Rattle.wrp_link.specs.Table.{counted, by_row, after}
use Rattle.wrp_lookback_laws.specs.OnTicks.{is_on, link_after, one_more, ticks_on, WholeCountDecides}

-- ---- a link in WR_LINK_ON has its carrier

abbrev HasCarrier : LinkAt → Type 0
HasCarrier l = is_on l.state ≡ true → l.carrier ≡ true

counted-carrier : (l : LinkAt) (s : LinkState) → l.carrier ≡ true → (counted l s).carrier ≡ true
counted-carrier l Idle h = h
counted-carrier l LinkOn h = h
counted-carrier l s h = h

-- with a carrier a row keeps it, or ends in IDLE
row-carrier : (l : LinkAt) (row : Row) → l.carrier ≡ true → HasCarrier (by_row l row)
row-carrier l NoRow h on = h
row-carrier l (Stays sends) h on = h
row-carrier l (Moves next sends) h on = h
row-carrier l (Keeps tx rx next sends) h on = h
row-carrier l (Resends sends) h on = h
row-carrier l Fails h on = h
row-carrier l Waits h on = h
row-carrier l Counts h on = counted-carrier l l.state h
row-carrier l (CarrierComes m) h on = refl
row-carrier l CarrierGoes h on = absurd cc

-- without a carrier the only row is that of a carrier that comes
dark-carrier : (l : LinkAt) (b : Bool) (input : LinkIn) → l.carrier ≡ b → HasCarrier l → HasCarrier (after l input)
dark-carrier l true input e h = row-carrier l (row_of l input) e
dark-carrier l false (Msg m) e h = subst (λ (b : Bool). HasCarrier (by_row l (under b (message_row l l.role m)))) (sym e) h
dark-carrier l false (Announce suffix) e h = subst (λ (b : Bool). HasCarrier (by_row l (under b (announce_row l l.role l.state suffix)))) (sym e) h
dark-carrier l false (Tick locked) e h = subst (λ (b : Bool). HasCarrier (by_row l (under b (tick_row l l.state locked)))) (sym e) h
dark-carrier l false CarrierDown e h = subst (λ (b : Bool). HasCarrier (by_row l (under b CarrierGoes))) (sym e) h
dark-carrier l false (CarrierUp m) e h = λ on. refl

has-carrier : (role : Role) (set : LinkSet) (inputs : List LinkIn) → HasCarrier (link_after role set inputs)
has-carrier role set [] = λ on. absurd cc
has-carrier role set (input ∷ before) = dark-carrier (link_after role set before) (link_after role set before).carrier input refl (has-carrier role set before)

-- ---- the count of a link

-- entered by this row, WR_LINK_ON is new
counted-off : (l : LinkAt) (s : LinkState) → is_on l.state ≡ false → is_on (counted l s).state ≡ true → (counted l s).on_ticks ≡ 0
counted-off l Idle h on = absurd (not_both (is_on l.state) on h)
counted-off l LinkOn h on = absurd (not_both (is_on l.state) on h)
counted-off l s h on = absurd (not_both (is_on l.state) on h)

entered : (l : LinkAt) (row : Row) → is_on l.state ≡ false → is_on (by_row l row).state ≡ true → (by_row l row).on_ticks ≡ 0
entered l NoRow h on = absurd (not_both (is_on l.state) on h)
entered l (Stays sends) h on = absurd (not_both (is_on l.state) on h)
entered l (Moves next sends) h on = refl
entered l (Keeps tx rx next sends) h on = refl
entered l (Resends sends) h on = absurd (not_both (is_on l.state) on h)
entered l Fails h on = refl
entered l Waits h on = absurd (not_both (is_on l.state) on h)
entered l Counts h on = counted-off l l.state h on
entered l (CarrierComes m) h on = refl
entered l CarrierGoes h on = refl

-- the link's count, with the whole one
abbrev Capped : LinkAt → ℕ → Type 0
Capped l n = l.on_ticks ≡ min n 4_294_967_295

one_capped : (ticks n : ℕ) → ticks ≡ min n 4_294_967_295 → min (ticks + 1) 4_294_967_295 ≡ min (n + 1) 4_294_967_295
one_capped ticks n h = grind arith

-- a row that stays in WR_LINK_ON counts nothing
under-fails : (l : LinkAt) (n : ℕ) (b : Bool) → is_on (by_row l (under b Fails)).state ≡ true → Capped l n → Capped (by_row l (under b Fails)) n
under-fails l n true on h = absurd cc
under-fails l n false on h = h

master-on : (l : LinkAt) (n : ℕ) (m : WrMsg) → is_on (by_row l (master_row l LinkOn m)).state ≡ true → Capped l n → Capped (by_row l (master_row l LinkOn m)) n
master-on l n SLAVE_PRESENT on h = under-fails l n (nat_le l.set.quiet l.on_ticks) on h
master-on l n m on h = h

message-on : (l : LinkAt) (n : ℕ) (r : Role) (m : WrMsg) → is_on (by_row (record l { state = LinkOn; role = r }) (message_row (record l { state = LinkOn; role = r }) r m)).state ≡ true → Capped l n →
    Capped (by_row (record l { state = LinkOn; role = r }) (message_row (record l { state = LinkOn; role = r }) r m)) n
message-on l n Slave m on h = h
message-on l n Master m on h = master-on (record l { state = LinkOn; role = Master }) n m on h

announce-on : (l : LinkAt) (n : ℕ) (r : Role) (suffix : Option ℕ) → is_on (by_row l (announce_row l r LinkOn suffix)).state ≡ true → Capped l n → Capped (by_row l (announce_row l r LinkOn suffix)) n
announce-on l n Slave suffix on h = h
announce-on l n Master suffix on h = h

input-on : (l : LinkAt) (n : ℕ) (input : LinkIn) → is_on (after (record l { state = LinkOn; carrier = true }) input).state ≡ true → Capped l n → Capped (after (record l { state = LinkOn; carrier = true }) input) (one_more input n)
input-on l n (Msg m) on h = message-on (record l { carrier = true }) n l.role m on h
input-on l n (Announce suffix) on h = announce-on (record l { state = LinkOn; carrier = true }) n l.role suffix on h
input-on l n (Tick locked) on h = one_capped l.on_ticks n h
input-on l n CarrierDown on h = absurd cc
input-on l n (CarrierUp m) on h = absurd cc

at-on : (l : LinkAt) (n : ℕ) (input : LinkIn) (s : LinkState) (c : Bool) → is_on s ≡ true → c ≡ true → is_on (after (record l { state = s; carrier = c }) input).state ≡ true → Capped l n →
    Capped (after (record l { state = s; carrier = c }) input) (one_more input n)
at-on l n input LinkOn true e f on h = input-on l n input on h
at-on l n input LinkOn false e f on h = absurd cc
at-on l n input s c e f on h = absurd cc

step-capped : (role : Role) (set : LinkSet) (before : List LinkIn) (input : LinkIn) (b : Bool) → is_on (link_after role set before).state ≡ b → (is_on (link_after role set before).state ≡ true → Capped (link_after role set before) (ticks_on role set before)) →
    is_on (link_after role set (input ∷ before)).state ≡ true → Capped (link_after role set (input ∷ before)) (if b then one_more input (ticks_on role set before) else 0)
step-capped role set before input true e h on =
    let l : LinkAt = link_after role set before in
    at-on l (ticks_on role set before) input l.state l.carrier e (has-carrier role set before e) on (h e)
step-capped role set before input false e h on =
    let l : LinkAt = link_after role set before in
    entered l (row_of l input) e on

pub capped : (role : Role) (set : LinkSet) (inputs : List LinkIn) → is_on (link_after role set inputs).state ≡ true → Capped (link_after role set inputs) (ticks_on role set inputs)
capped role set [] on = absurd cc
capped role set (input ∷ before) on = step-capped role set before input (is_on (link_after role set before).state) refl (capped role set before) on

-- ---- the rows

-- the only row that uses the count
asks : (quiet ticks n : ℕ) → quiet < 2 ^ 32 → ticks ≡ min n 4_294_967_295 → nat_le quiet ticks ≡ nat_le quiet n
asks quiet ticks n small h = grind (arith, nat_tests)

master-same : (l : LinkAt) (n : ℕ) (s : LinkState) (m : WrMsg) → (is_on s ≡ true → nat_le l.set.quiet l.on_ticks ≡ nat_le l.set.quiet n) → master_row l s m ≡ master_row (record l { on_ticks = n }) s m
master-same l n LinkOn SLAVE_PRESENT h = ap (λ (b : Bool). under b Fails) (h refl)
master-same l n Idle SLAVE_PRESENT h = refl
master-same l n s m h = refl

message-same : (l : LinkAt) (n : ℕ) (r : Role) (m : WrMsg) → (is_on l.state ≡ true → nat_le l.set.quiet l.on_ticks ≡ nat_le l.set.quiet n) → message_row l r m ≡ message_row (record l { on_ticks = n }) r m
message-same l n Slave m h = refl
message-same l n Master m h = master-same l n l.state m h

announce-same : (l : LinkAt) (n : ℕ) (r : Role) (s : LinkState) (suffix : Option ℕ) → announce_row l r s suffix ≡ announce_row (record l { on_ticks = n }) r s suffix
announce-same l n Slave Idle suffix = refl
announce-same l n r s suffix = refl

tick-same : (l : LinkAt) (n : ℕ) (s : LinkState) (locked : Bool) → tick_row l s locked ≡ tick_row (record l { on_ticks = n }) s locked
tick-same l n SLock true = refl
tick-same l n SLock false = refl
tick-same l n s locked = refl

row-same : (l : LinkAt) (n : ℕ) (input : LinkIn) → (is_on l.state ≡ true → nat_le l.set.quiet l.on_ticks ≡ nat_le l.set.quiet n) → row_of l input ≡ row_of (record l { on_ticks = n }) input
row-same l n (Msg m) h = ap (under l.carrier) (message-same l n l.role m h)
row-same l n (Announce suffix) h = ap (under l.carrier) (announce-same l n l.role l.state suffix)
row-same l n (Tick locked) h = ap (under l.carrier) (tick-same l n l.state locked)
row-same l n CarrierDown h = refl
row-same l n (CarrierUp m) h = refl

-- what a link is set to stays
counted-set : (l : LinkAt) (s : LinkState) → (counted l s).set ≡ l.set
counted-set l Idle = refl
counted-set l LinkOn = refl
counted-set l s = refl

row-set : (l : LinkAt) (row : Row) → (by_row l row).set ≡ l.set
row-set l Counts = counted-set l l.state
row-set l row = refl

set-is : (role : Role) (set : LinkSet) (inputs : List LinkIn) → (link_after role set inputs).set ≡ set
set-is role set [] = refl
set-is role set (input ∷ before) = row-set (link_after role set before) (row_of (link_after role set before) input) ∙ set-is role set before

pub whole_count_decides : WholeCountDecides
whole_count_decides role set inputs input small =
    let l : LinkAt = link_after role set inputs in
    row-same l (ticks_on role set inputs) input
    (λ on. asks l.set.quiet l.on_ticks (ticks_on role set inputs) (subst (λ (k : LinkSet). k.quiet < 2 ^ 32) (sym (set-is role set inputs)) small) (capped role set inputs on))
