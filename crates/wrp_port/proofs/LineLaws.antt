-- One more input: looking back finds what the input makes of the line before it.
use Rattle.std.proofs.Common.{◌≡◌, ◌∙◌, ap, sym, subst, refl, ℕ, ◌+◌, ◌-◌, ◌%◌, Bool, true, false, if◌then◌else◌, ◌&&◌, List, ◌∷◌, length, Option, None, Some, arith}
use Rattle.std.proofs.Math.Nat.{zero-mod}
use Rattle.std.specs.Option.{option_map, is_none}
use Rattle.wrp_base.specs.Calls.{Adds}
use Rattle.wrp_base.specs.declared.link.Role.{Role}
use Rattle.wrp_base.specs.declared.link.Role.TheVariants.{Master, Slave}
use Rattle.wrp_base.specs.declared.message.PtpMsg.{PtpMsg}
use Rattle.wrp_base.proofs.Naturals.{turn_mod}
use Rattle.wrp_data.specs.declared.reason.Reason.{Reason}
use Rattle.wrp_exch.specs.Call.{Call}
use Rattle.wrp_exch.specs.Exchange.{StandsFor as ExchangeStandsFor}
use Rattle.wrp_link.specs.declared.interface.LinkIn.{LinkIn}
use Rattle.wrp_link.specs.declared.interface.LinkIn.TheVariants as link
use Rattle.wrp_link.specs.LinkAt.{LinkAt, new_link}
use Rattle.wrp_link.specs.Table.{after as link_after, sends_of}
use Rattle.wrp_port.specs.declared.interface.PortIn.{PortIn}
use Rattle.wrp_port.specs.declared.interface.PortIn.TheVariants.{Msg, Lease, Tick, Sent, Carrier, Sample, Chain, Reset}
use Rattle.wrp_port.specs.declared.interface.Sched.{Sched}
use Rattle.wrp_port.specs.declared.line.Ids.{Ids}
use Rattle.wrp_port.specs.declared.line.Rest.{Rest}
use Rattle.wrp_port.specs.declared.line.Turns.{Turns}
use Rattle.wrp_port.specs.declared.setting.Setting.{Setting}
use Rattle.wrp_port.specs.Hearing.{is_open, early_reason, link_input, renews}
use Rattle.wrp_port.specs.History.{link_by, with_input, input_unless, link_inputs, link_of, since_renewal, zero_where, left_of, while_open, ticks_told, ticks_open, sent_each, one_more_where, at_master, at_slave, only_at_master, signals_told, signals, newest_of, rest_after, calls_of}
use Rattle.wrp_port.specs.LineAfter.{first_turns, next_turns, first_ids, new_line, turns_while, told, told_if, heard_unless, ticked, is_due, next_where, newest_where, scheduled, after}
use Rattle.wrp_port.specs.Outputs.{calls_after}
use Rattle.wrp_port.specs.PortAt.{PortAt, StandsFor}

-- ---- numbers that go round

next-mod : (b : Bool) (n : ℕ) → next_where b (n % 65536) ≡ one_more_where b n % 65536
next-mod true n = omega arith
next-mod false n = refl

signal-mod : (n more : ℕ) → (n % 65536 + more) % 65536 ≡ (n + more) % 65536
signal-mod n more = omega arith

-- ---- the schedule

abbrev turns_of : Sched → ℕ → Turns
turns_of sched k = record { announce = k % sched.announce; sync = k % sched.sync; delay = k % sched.delay }

turns-none : (sched : Sched) → turns_of sched 0 ≡ first_turns
turns-none sched = λ i. record { announce = zero-mod sched.announce i; sync = zero-mod sched.sync i; delay = zero-mod sched.delay i }

turns-next : (sched : Sched) (k : ℕ) → next_turns sched (turns_of sched k) ≡ turns_of sched (k + 1)
turns-next sched k = λ i. record { announce = turn_mod sched.announce k i; sync = turn_mod sched.sync k i; delay = turn_mod sched.delay k i }

turns-while : (sched : Sched) (l : LinkAt) (k : ℕ) → turns_while l (turns_of sched k) ≡ turns_of sched (while_open l k)
turns-while sched l k =
    elim (is_open l) as (λ b. (if b then turns_of sched k else first_turns) ≡ turns_of sched (if b then k else 0))
    [ true ↦ refl | false ↦ sym (turns-none sched) ]

turns-begun : (sched : Sched) (l : LinkAt) (k : ℕ) →
    (if is_open l then next_turns sched (turns_of sched k) else first_turns) ≡ turns_of sched (if is_open l then k + 1 else 0)
turns-begun sched l k =
    elim (is_open l) as (λ b. (if b then next_turns sched (turns_of sched k) else first_turns) ≡ turns_of sched (if b then k + 1 else 0))
    [ true ↦ turns-next sched k | false ↦ sym (turns-none sched) ]

turns-tick : (sched : Sched) (l next : LinkAt) (k : ℕ) →
    turns_while next (if is_open l then next_turns sched (turns_of sched k) else first_turns) ≡ turns_of sched (while_open next (if is_open l then k + 1 else 0))
turns-tick sched l next k = ap (turns_while next) (turns-begun sched l k) ∙ turns-while sched next (if is_open l then k + 1 else 0)

-- ---- a line by its numbers

abbrev ids_of : Role → (announces syncs requests sent : ℕ) → Option ℕ → Ids
ids_of role announces syncs requests sent newest =
    record {
      announce = at_master role announces % 65536;
      sync = at_master role syncs % 65536;
      request = at_slave role requests % 65536;
      signal = sent % 65536;
      newest_sync = only_at_master role newest;
    }

abbrev line_by : Sched → Role → LinkAt → (lease k announces syncs requests sent : ℕ) → Option ℕ → Rest
line_by sched role l lease k announces syncs requests sent newest =
    record { link = l; lease = lease; turns = turns_of sched k; ids = ids_of role announces syncs requests sent newest }

ids-none : (role : Role) → ids_of role 0 0 0 0 None ≡ first_ids
ids-none Master = refl
ids-none Slave = refl

-- a line before any input
new-line : (set : Setting) → new_line set ≡ line_by set.sched set.ds.role (new_link set.ds.role set.link) 0 0 0 0 0 0 None
new-line set =
    let turns : first_turns ≡ turns_of set.sched 0 = sym (turns-none set.sched) in
    let ids : first_ids ≡ ids_of set.ds.role 0 0 0 0 None = sym (ids-none set.ds.role) in
    λ i. record { link = new_link set.ds.role set.link; lease = 0; turns = turns i; ids = ids i }

told-line : (sched : Sched) (role : Role) (l : LinkAt) (lease k na ns nr sent : ℕ) (newest : Option ℕ) (input : LinkIn) →
    told (line_by sched role l lease k na ns nr sent newest) input
    ≡ line_by sched role (link_after l input) lease (while_open (link_after l input) k) na ns nr (sent + length (sends_of l input)) newest
told-line sched role l lease k na ns nr sent newest input =
    let turns : turns_while (link_after l input) (turns_of sched k) ≡ turns_of sched (while_open (link_after l input) k) = turns-while sched (link_after l input) k in
    let ids : (sent % 65536 + length (sends_of l input)) % 65536 ≡ (sent + length (sends_of l input)) % 65536 = signal-mod sent (length (sends_of l input)) in
    λ i. record {
      link = link_after l input;
      lease = lease;
      turns = turns i;
      ids =
          record {
            announce = at_master role na % 65536;
            sync = at_master role ns % 65536;
            request = at_slave role nr % 65536;
            signal = ids i;
            newest_sync = only_at_master role newest;
          };
    }

told_if-line : (set : Setting) (inputs : List LinkIn) (lease k na ns nr sent : ℕ) (newest : Option ℕ) (input : Option LinkIn) →
    told_if (line_by set.sched set.ds.role (link_by set inputs) lease k na ns nr sent newest) input
    ≡ line_by set.sched set.ds.role (link_by set (with_input input inputs)) lease (ticks_told (link_by set inputs) input k) na ns nr (signals_told (link_by set inputs) input sent) newest
told_if-line set inputs lease k na ns nr sent newest None = refl
told_if-line set inputs lease k na ns nr sent newest (Some input) =
    told-line set.sched set.ds.role (link_by set inputs) lease k na ns nr sent newest input

-- ---- the lease

left-renewed : (lease : ℕ) (b : Bool) (since : Option ℕ) → (if b then lease else left_of lease since) ≡ left_of lease (zero_where b since)
left-renewed lease true since = omega arith
left-renewed lease false since = refl

left-turn : (lease : ℕ) (since : Option ℕ) → left_of lease since - 1 ≡ left_of lease (option_map (λ turns. turns + 1) since)
left-turn lease None = refl
left-turn lease (Some turns) = omega arith

abbrev with_lease : ℕ → Rest → Rest
with_lease lease line = record line { lease = lease }

-- ---- a message

heard-line : (set : Setting) (inputs : List LinkIn) (since : Option ℕ) (k na ns nr sent : ℕ) (newest : Option ℕ) (message : PtpMsg) (early : Option Reason) →
    heard_unless early set (line_by set.sched set.ds.role (link_by set inputs) (left_of set.sched.lease since) k na ns nr sent newest) message
    ≡ line_by set.sched set.ds.role
    (link_by set (with_input (input_unless early (link_input set.ds.role message.body)) inputs))
    (left_of set.sched.lease (zero_where (is_none early && renews set.ds.role message.head message.body) since))
    (ticks_told (link_by set inputs) (input_unless early (link_input set.ds.role message.body)) k)
    na ns nr
    (signals_told (link_by set inputs) (input_unless early (link_input set.ds.role message.body)) sent)
    newest
heard-line set inputs since k na ns nr sent newest message (Some reason) = refl
heard-line set inputs since k na ns nr sent newest message None =
    let input : Option LinkIn = link_input set.ds.role message.body in
    let lease : (if renews set.ds.role message.head message.body then set.sched.lease else left_of set.sched.lease since)
    ≡ left_of set.sched.lease (zero_where (renews set.ds.role message.head message.body) since) =
    left-renewed set.sched.lease (renews set.ds.role message.head message.body) since in
    ap (with_lease (if renews set.ds.role message.head message.body then set.sched.lease else left_of set.sched.lease since))
    (told_if-line set inputs (left_of set.sched.lease since) k na ns nr sent newest input)
    ∙ ap (λ n. line_by set.sched set.ds.role (link_by set (with_input input inputs)) n (ticks_told (link_by set inputs) input k) na ns nr (signals_told (link_by set inputs) input sent) newest) lease

-- ---- a tick

ticked-line : (set : Setting) (l : LinkAt) (lease k na ns nr sent : ℕ) (newest : Option ℕ) (locked : Bool) →
    ticked set (line_by set.sched set.ds.role l lease k na ns nr sent newest) locked
    ≡ line_by set.sched set.ds.role (link_after l (link.Tick locked)) lease
    (while_open (link_after l (link.Tick locked)) (if is_open l then k + 1 else 0))
    na ns nr (sent + length (sends_of l (link.Tick locked))) newest
ticked-line set l lease k na ns nr sent newest locked =
    let next : LinkAt = link_after l (link.Tick locked) in
    let turns : turns_while next (if is_open l then next_turns set.sched (turns_of set.sched k) else first_turns) ≡ turns_of set.sched (while_open next (if is_open l then k + 1 else 0)) =
    turns-tick set.sched l next k in
    let ids : (sent % 65536 + length (sends_of l (link.Tick locked))) % 65536 ≡ (sent + length (sends_of l (link.Tick locked))) % 65536 =
    signal-mod sent (length (sends_of l (link.Tick locked))) in
    λ i. record {
      link = next;
      lease = lease;
      turns = turns i;
      ids =
          record {
            announce = at_master set.ds.role na % 65536;
            sync = at_master set.ds.role ns % 65536;
            request = at_slave set.ds.role nr % 65536;
            signal = ids i;
            newest_sync = only_at_master set.ds.role newest;
          };
    }

scheduled-line : (sched : Sched) (role : Role) (l : LinkAt) (lease k na ns nr sent : ℕ) (newest : Option ℕ) →
    scheduled role (line_by sched role l lease k na ns nr sent newest)
    ≡ line_by sched role l lease k
    (one_more_where (is_due l (k % sched.announce)) na)
    (one_more_where (is_due l (k % sched.sync)) ns)
    (one_more_where (is_due l (k % sched.delay)) nr)
    sent
    (newest_where (is_due l (k % sched.sync)) (at_master role ns % 65536) newest)
scheduled-line sched Master l lease k na ns nr sent newest =
    let a : next_where (is_due l (k % sched.announce)) (na % 65536) ≡ one_more_where (is_due l (k % sched.announce)) na % 65536 = next-mod (is_due l (k % sched.announce)) na in
    let s : next_where (is_due l (k % sched.sync)) (ns % 65536) ≡ one_more_where (is_due l (k % sched.sync)) ns % 65536 = next-mod (is_due l (k % sched.sync)) ns in
    λ i. record {
      link = l;
      lease = lease;
      turns = turns_of sched k;
      ids =
          record {
            announce = a i;
            sync = s i;
            request = 0;
            signal = sent % 65536;
            newest_sync = newest_where (is_due l (k % sched.sync)) (ns % 65536) newest;
          };
    }
scheduled-line sched Slave l lease k na ns nr sent newest =
    let r : next_where (is_due l (k % sched.delay)) (nr % 65536) ≡ one_more_where (is_due l (k % sched.delay)) nr % 65536 = next-mod (is_due l (k % sched.delay)) nr in
    λ i. record {
      link = l;
      lease = lease;
      turns = turns_of sched k;
      ids = record { announce = 0; sync = 0; request = r i; signal = sent % 65536; newest_sync = None };
    }

-- ---- any input

rest_after-step : (set : Setting) (input : PortIn) (before : List PortIn) → after set (rest_after set before) input ≡ rest_after set (input ∷ before)
rest_after-step set (Msg message stamp tick) before =
    heard-line set (link_inputs set before) (since_renewal set before) (ticks_open set before)
    (sent_each set.sched.announce set before) (sent_each set.sched.sync set before) (sent_each set.sched.delay set before)
    (signals set before) (newest_of set before) message (early_reason set (link_of set before) message)
rest_after-step set Lease before = ap (λ (n : ℕ). with_lease n (rest_after set before)) (left-turn set.sched.lease (since_renewal set before))
rest_after-step set (Tick locked certain) before =
    ap (scheduled set.ds.role)
    (ticked-line set (link_of set before) (left_of set.sched.lease (since_renewal set before)) (ticks_open set before)
    (sent_each set.sched.announce set before) (sent_each set.sched.sync set before) (sent_each set.sched.delay set before)
    (signals set before) (newest_of set before) locked)
    ∙ scheduled-line set.sched set.ds.role (link_of set (Tick locked certain ∷ before)) (left_of set.sched.lease (since_renewal set before))
    (ticks_open set (Tick locked certain ∷ before))
    (sent_each set.sched.announce set before) (sent_each set.sched.sync set before) (sent_each set.sched.delay set before)
    (signals set (Tick locked certain ∷ before)) (newest_of set before)
rest_after-step set (Sent delay seq stamp tick) before = refl
rest_after-step set (Carrier true own_module) before =
    told-line set.sched set.ds.role (link_of set before) (left_of set.sched.lease (since_renewal set before)) (ticks_open set before)
    (sent_each set.sched.announce set before) (sent_each set.sched.sync set before) (sent_each set.sched.delay set before)
    (signals set before) (newest_of set before) (link.CarrierUp own_module)
rest_after-step set (Carrier false own_module) before =
    ap (with_lease 0)
    (told-line set.sched set.ds.role (link_of set before) (left_of set.sched.lease (since_renewal set before)) (ticks_open set before)
    (sent_each set.sched.announce set before) (sent_each set.sched.sync set before) (sent_each set.sched.delay set before)
    (signals set before) (newest_of set before) link.CarrierDown)
rest_after-step set (Sample number phase) before = refl
rest_after-step set (Chain news) before = refl
rest_after-step set Reset before = new-line set

-- the calls of the exchange are the calls before, with the call of the input
calls_of-step : (set : Setting) (input : PortIn) (before : List PortIn) → calls_after set (rest_after set before) input (calls_of set before) ≡ calls_of set (input ∷ before)
calls_of-step set Reset before = refl
calls_of-step set _ before = refl

-- an input goes in front of the inputs that a port stands for
pub Adds-after :
    (old new : PortAt) (input : PortIn) →
    new.set ≡ old.set →
    new.line ≡ after old.set old.line input →
    ((calls : List Call) → ExchangeStandsFor old.set.ring old.exchange calls → ExchangeStandsFor old.set.ring new.exchange (calls_after old.set old.line input calls)) →
    Adds StandsFor old new input
Adds-after old new input same line exchange inputs stands =
    let moved : new.line ≡ rest_after old.set (input ∷ inputs) = line ∙ ap (λ v. after old.set v input) stands.line ∙ rest_after-step old.set input inputs in
    let grown : calls_after old.set old.line input (calls_of old.set inputs) ≡ calls_of old.set (input ∷ inputs) =
    ap (λ v. calls_after old.set v input (calls_of old.set inputs)) stands.line ∙ calls_of-step old.set input inputs in
    let given : ExchangeStandsFor old.set.ring new.exchange (calls_of old.set (input ∷ inputs)) =
    subst (λ calls. ExchangeStandsFor old.set.ring new.exchange calls) grown (exchange (calls_of old.set inputs) stands.exchange) in
    record {
      line = subst (λ s. new.line ≡ rest_after s (input ∷ inputs)) (sym same) moved;
      exchange = subst (λ s. ExchangeStandsFor s.ring new.exchange (calls_of s (input ∷ inputs))) (sym same) given;
    }
