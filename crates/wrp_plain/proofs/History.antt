-- What each event adds to the list that a world represents.
use Rattle.std.proofs.Common.{◌≡◌, ℕ, ℤ, pos, ◌+◌, ◌+ℤ◌, unsigned_abs, List, ◌∷◌, length, Option, Some, None, ap, ◌∙◌, sym, subst, arith}
use Rattle.wrp_plain.specs.declared.settings.PlainSet.{PlainSet}
use Rattle.wrp_plain.specs.declared.settings.PlainReport.{PlainReport}
use Rattle.wrp_plain.specs.declared.settings.PlainOut.TheVariants.{Taken}
use Rattle.wrp_plain.specs.declared.event.PlainEvent.{PlainEvent}
use Rattle.wrp_plain.specs.declared.event.PlainEvent.TheVariants.{Pass, Exch}
use Rattle.wrp_plain.specs.declared.event.PlainSeen.{PlainSeen}
use Rattle.wrp_plain.specs.Call.{Call, CallCommand}
use Rattle.wrp_plain.specs.Report.{report_of}
use Rattle.wrp_plain.specs.Out.{IsOut}
use Rattle.wrp_plain.specs.StandsFor.{PlainAt, StandsFor}
use Rattle.wrp_plain.specs.Event.{t1_of, t2_of, t3_of, t4_of, HasFields, drifts}
use Rattle.wrp_plain.specs.Seen.{told_by, command_against, calls_of, commands, true_offset, seen_of}
use Rattle.wrp_plain.specs.Premises.{broken_by, broken_after}
use Rattle.wrp_plain.specs.World.{WorldAt, HadEvents}
use Rattle.wrp_plain.proofs.Near.{drifted, steered}

-- the premise that an event breaks by what the world keeps is the one that it breaks after its events
pub kept_after : (set : PlainSet) (off : ℤ) (events : List PlainEvent) (world : WorldAt) (event : PlainEvent) → HadEvents set off world events →
    broken_by world.servo.set world.off world.since event ≡ None → broken_after set off events event ≡ None
kept_after set off events world event had kept =
    sym (ap (λ (s : PlainSet). broken_by s world.off world.since event) had.servo.set_is
    ∙ ap (λ (o : ℤ). broken_by set o world.since event) had.off_is
    ∙ ap (λ (n : ℕ). broken_by set (true_offset set off events) n event) had.since_is)
    ∙ kept

-- what an event gives, by its parts
abbrev pub seen : Option PlainReport → ℤ → ℤ → PlainSeen
seen report command off = record { report = report; command = command; off = off }

pub pass_gives : (set : PlainSet) (off : ℤ) (events : List PlainEvent) (dt drift : ℤ) (world : WorldAt) → HadEvents set off world events →
    (now : ℤ) → now ≡ world.off +ℤ drift → seen None (pos 0) now ≡ seen_of set off events (Pass dt drift)
pass_gives set off events dt drift world had now e =
    ap (seen None (pos 0)) (e ∙ ap (λ (o : ℤ). o +ℤ drift) had.off_is ∙ drifted off (drifts events) drift (commands (calls_of set events)))

one_longer : (event : PlainEvent) (events : List PlainEvent) (n m : ℕ) → n ≡ length events → m ≡ n + 1 → m ≡ length (event ∷ events)
one_longer event events n m h k = omega arith

pub pass_adds : (set : PlainSet) (off : ℤ) (events : List PlainEvent) (dt drift : ℤ) (world : WorldAt) → HadEvents set off world events →
    HasFields (Pass dt drift) → broken_by world.servo.set world.off world.since (Pass dt drift) ≡ None →
    (now : ℤ) (since count : ℕ) → now ≡ world.off +ℤ drift → since ≡ unsigned_abs dt + world.since → count ≡ world.events + 1 →
    HadEvents set off (record { servo = world.servo; off = now; since = since; events = count }) (Pass dt drift ∷ events)
pass_adds set off events dt drift world had fields kept now since count e h k = record {
  servo = had.servo;
  off_is = e ∙ ap (λ (o : ℤ). o +ℤ drift) had.off_is ∙ drifted off (drifts events) drift (commands (calls_of set events));
  since_is = h ∙ ap (λ (n : ℕ). unsigned_abs dt + n) had.since_is;
  events_are = one_longer (Pass dt drift) events world.events count had.events_are k;
  accepted = (fields, kept_after set off events world (Pass dt drift) had kept, had.accepted);
}

pub exchange_gives : (set : PlainSet) (off : ℤ) (events : List PlainEvent) (span dms dsm o2 o3 : ℤ) (t : List ℤ) (world : WorldAt) → HadEvents set off world events →
    (report : PlainReport) (command now : ℤ) → IsOut set (calls_of set events) (t1_of t) (t2_of t) (t3_of t) (t4_of t) (Taken report command) → now ≡ world.off →
    seen (Some report) command now ≡ seen_of set off events (Exch span dms dsm o2 o3 t)
exchange_gives set off events span dms dsm o2 o3 t world had report command now out e =
    let calls : List Call = told_by (Exch span dms dsm o2 o3 t) (calls_of set events) in
    ap (λ (r : Option PlainReport). seen r command now) (sym out.1)
    ∙ ap (λ (k : ℤ). seen (report_of set calls) k now) (out.2 ∙ ap (command_against set) (sym out.1))
    ∙ ap (seen (report_of set calls) (command_against set (report_of set calls))) (e ∙ had.off_is)

pub exchange_adds : (set : PlainSet) (off : ℤ) (events : List PlainEvent) (span dms dsm o2 o3 : ℤ) (t : List ℤ) (world : WorldAt) → HadEvents set off world events →
    HasFields (Exch span dms dsm o2 o3 t) → broken_after set off events (Exch span dms dsm o2 o3 t) ≡ None →
    (servo : PlainAt) (report : PlainReport) (command now : ℤ) (count : ℕ) →
    IsOut set (calls_of set events) (t1_of t) (t2_of t) (t3_of t) (t4_of t) (Taken report command) →
    StandsFor set servo (CallCommand command ∷ told_by (Exch span dms dsm o2 o3 t) (calls_of set events)) →
    now ≡ world.off +ℤ command → count ≡ world.events + 1 →
    HadEvents set off (record { servo = servo; off = now; since = world.since; events = count }) (Exch span dms dsm o2 o3 t ∷ events)
exchange_adds set off events span dms dsm o2 o3 t world had fields kept servo report command now count out stands e k =
    let calls : List Call = told_by (Exch span dms dsm o2 o3 t) (calls_of set events) in
    let same : command ≡ command_against set (report_of set calls) = out.2 ∙ ap (command_against set) (sym out.1) in
    let P : ℤ → Type 0 = λ by. StandsFor set servo (CallCommand by ∷ calls) in
    record {
      servo = subst P same stands;
      off_is =
          e ∙ ap (λ (o : ℤ). o +ℤ command) had.off_is
          ∙ ap (λ (by : ℤ). true_offset set off events +ℤ by) same
          ∙ steered off (drifts events) (commands (calls_of set events)) (command_against set (report_of set calls));
      since_is = had.since_is;
      events_are = one_longer (Exch span dms dsm o2 o3 t) events world.events count had.events_are k;
      accepted = (fields, kept, had.accepted);
    }
