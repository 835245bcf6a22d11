-- The next record is handled, or ends the handling.
use Rattle.std.proofs.Common.{◌≡◌, ◌++◌, Bool, false, ℕ, refl, sym}
use Rattle.wrp_io.specs.Faults.{Rose}
use Rattle.wrp_records.specs.declared.engine.NextRecord.TheVariants as next
use Rattle.wrp_records.specs.declared.status.Status.TheVariants.{Done, ReadFault, WriteFault, OutOfMemory}
use Rattle.wrp_records.specs.Engine.{Finishes, TellsFaults, status_by}
use Rattle.wrp_records.specs.Reached.{Reached}
use Rattle.wrp_records.specs.Reader.{ReaderAt}
use Rattle.wrp_records.specs.Stream.{Handles}
use Rattle.wrp_records.proofs.Passing.{arrives}
use Rattle.wrp_records.proofs.Reaching.{comes, writes_on, ends, fails, unwritten, no_memory, too_large, closes_by, moved, told_by_finish}
use Rattle.wrp_records.proofs.engine.handle_next.Goals as goal

-- what a failed read, a failed write and the end report
told_end : (read read_now write write_now : ℕ) (ended : Bool) → ((next.End ≡ next.Failed → ⊥) → read_now ≡ read) → ((next.End ≡ next.Unwritten → ⊥) → write_now ≡ write)
    → TellsFaults Done read read_now write write_now ended
told_end read read_now write write_now ended source sink =
    (λ is. cc, λ other. source (λ is. cc), λ is. cc, λ other. sink (λ is. cc), λ is. cc, λ is. cc, λ is. cc, λ is. cc, λ is. cc)

told_failed : (read read_now write write_now : ℕ) (ended : Bool) → Rose read read_now → ended ≡ false → ((next.Failed ≡ next.Unwritten → ⊥) → write_now ≡ write)
    → TellsFaults ReadFault read read_now write write_now ended
told_failed read read_now write write_now ended rose more sink =
    (λ is. (rose, more), λ other. absurd (other refl), λ is. cc, λ other. sink (λ is. cc), λ is. cc, λ is. cc, λ is. cc, λ is. cc, λ is. cc)

told_unwritten : (read read_now write write_now : ℕ) (ended : Bool) → ((next.Unwritten ≡ next.Failed → ⊥) → read_now ≡ read) → Rose write write_now
    → TellsFaults WriteFault read read_now write write_now ended
told_unwritten read read_now write write_now ended source rose =
    (λ is. cc, λ other. source (λ is. cc), λ is. rose, λ other. absurd (other refl), λ is. cc, λ is. cc, λ is. cc, λ is. cc, λ is. cc)

-- if no call failed
kept_memory : {P Q : Type 0} → ((next.Memory ≡ next.Failed → ⊥) → P) → ((next.Memory ≡ next.Unwritten → ⊥) → Q) → P × Q
kept_memory source sink = (source (λ is. cc), sink (λ is. cc))

kept_large : {P Q : Type 0} → ((next.TooLarge ≡ next.Failed → ⊥) → P) → ((next.TooLarge ≡ next.Unwritten → ⊥) → Q) → P × Q
kept_large source sink = (source (λ is. cc), sink (λ is. cc))

kept_line : {P Q : Type 0} → ((next.Line ≡ next.Failed → ⊥) → P) → ((next.Line ≡ next.Unwritten → ⊥) → Q) → P × Q
kept_line source sink = (source (λ is. cc), sink (λ is. cc))

pub returns-in-End-clause-stands : goal.returns-in-End-clause-stands
returns-in-End-clause-stands g c = λ start left held reached.
    let line = c.next_record.new.line.items in
    let so_far = writes_on _ _ _ line c.next_record.new.reader _ _ _ _ _ _ _ _
    (comes _ _ _ line _ c.next_record.new.reader _ _ _ _ _ _ _ reached c.next_record.ensures.taken) c.in-End.ensures.written.0 in
    let end = c.in-End.ensures.end refl in
    ends _ _ _ _ line _ _ _ _ _ _ _ so_far c.in-End.ensures.written.1 end.0 end.1

pub returns-in-Failed-clause-stands : goal.returns-in-Failed-clause-stands
returns-in-Failed-clause-stands g c = λ start left held reached.
    let line = c.next_record.new.line.items in
    let so_far = writes_on _ _ _ line c.next_record.new.reader _ _ _ _ _ _ _ _
    (comes _ _ _ line _ c.next_record.new.reader _ _ _ _ _ _ _ reached c.next_record.ensures.taken) c.in-Failed.ensures.written.0 in
    fails _ _ _ _ line _ _ _ _ _ _ _ so_far c.in-Failed.ensures.written.1 (c.in-Failed.ensures.failed refl)

pub returns-in-Unwritten-clause-stands : goal.returns-in-Unwritten-clause-stands
returns-in-Unwritten-clause-stands g c = λ start left held reached.
    let line = c.next_record.new.line.items in
    unwritten _ _ _ (g.M.Machine.has_taken c.args.machine.now) _ line _ _ _ _ _ _ _ _
    (comes _ _ _ line _ c.next_record.new.reader _ _ _ _ _ _ _ reached c.next_record.ensures.taken) c.in-Unwritten.ensures.written

pub returns-in-Memory-clause-stands : goal.returns-in-Memory-clause-stands
returns-in-Memory-clause-stands g c = λ start left held reached.
    let line = c.next_record.new.line.items in
    let so_far = writes_on _ _ _ line c.next_record.new.reader _ _ _ _ _ _ _ _
    (comes _ _ _ line _ c.next_record.new.reader _ _ _ _ _ _ _ reached c.next_record.ensures.taken) c.in-Memory.ensures.written in
    let how = moved (λ octets. Finishes OutOfMemory c.finish.result (g.K.Sink.held c.next_record.new.sink) (g.K.Sink.held c.finish.new.sink) octets) _ _ c.deref.ensures.value c.finish.ensures.text in
    no_memory _ _ _ (g.M.Machine.has_taken c.args.machine.now) _ line _ _ _ _ _ _ _ _ _ _ so_far refl how

pub returns-in-TooLarge-clause-stands : goal.returns-in-TooLarge-clause-stands
returns-in-TooLarge-clause-stands g c = λ start left held reached.
    let line = c.next_record.new.line.items in
    let so_far = writes_on _ _ _ line c.next_record.new.reader _ _ _ _ _ _ _ _
    (comes _ _ _ line _ c.next_record.new.reader _ _ _ _ _ _ _ reached c.next_record.ensures.taken) c.in-TooLarge.ensures.written in
    let how = moved (λ octets. Finishes (status_by c.tell_large-ended.result) c.finish-in-TooLarge.result (g.K.Sink.held c.next_record.new.sink) (g.K.Sink.held c.finish-in-TooLarge.new.sink) octets) _ _ c.deref-in-TooLarge.ensures.value c.finish-in-TooLarge.ensures.text in
    too_large _ _ _ (g.M.Machine.has_taken c.args.machine.now) _ line _ _ _ _ _ _ _ _ _ c.tell_large-ended.result _ so_far (c.in-TooLarge.ensures.too_large refl) c.tell_large-ended.ensures how

pub returns-in-Some-clause-stands : goal.returns-in-Some-clause-stands
returns-in-Some-clause-stands g c = λ start left held reached.
    let line = c.next_record.new.line.items in
    let r : ReaderAt = c.next_record.new.reader in
    let so_far = writes_on _ _ _ line r _ _ _ _ _ _ _ _ (comes _ _ _ line _ r _ _ _ _ _ _ _ reached c.next_record.ensures.taken) c.in-Line.ensures.written in
    let there = moved (λ l. Reached (Handles (g.M.Machine.accepts (g.M.Machine.setting c.args.machine.now))) (g.M.Machine.has_taken c.args.machine.now) start (record { rest = l ++ r.rest; ended = r.ended }) left (g.S.Source.left c.next_record.new.source) held (g.K.Sink.held c.next_record.new.sink) c.next_record.new.waiting.items c.args.number.now)
    _ _ (sym c.deref-2.ensures.value) (arrives _ _ start line r _ _ _ _ _ _ so_far) in
    let how = moved (λ octets. Finishes (status_by c.in-Some.ended) c.finish-in-Some.result (g.K.Sink.held c.next_record.new.sink) (g.K.Sink.held c.finish-in-Some.new.sink) octets) _ _ c.deref-in-Some.ensures.value c.finish-in-Some.ensures.text in
    closes_by _ _ (g.M.Machine.has_taken c.handle_given.new.machine) _ _ _ _ _ _ _ _ _ _
    (c.in-Some.ensures.stands start left (g.S.Source.left c.next_record.new.source) held (g.K.Sink.held c.next_record.new.sink) there) how

pub returns-in-None-clause-stands : goal.returns-in-None-clause-stands
returns-in-None-clause-stands g c = λ start left held reached.
    let line = c.next_record.new.line.items in
    let r : ReaderAt = c.next_record.new.reader in
    let so_far = writes_on _ _ _ line r _ _ _ _ _ _ _ _ (comes _ _ _ line _ r _ _ _ _ _ _ _ reached c.next_record.ensures.taken) c.in-Line.ensures.written in
    let there = moved (λ l. Reached (Handles (g.M.Machine.accepts (g.M.Machine.setting c.args.machine.now))) (g.M.Machine.has_taken c.args.machine.now) start (record { rest = l ++ r.rest; ended = r.ended }) left (g.S.Source.left c.next_record.new.source) held (g.K.Sink.held c.next_record.new.sink) c.next_record.new.waiting.items c.args.number.now)
    _ _ (sym c.deref-2.ensures.value) (arrives _ _ start line r _ _ _ _ _ _ so_far) in
    c.in-None.ensures.stands start left (g.S.Source.left c.next_record.new.source) held (g.K.Sink.held c.next_record.new.sink) there

pub returns-in-End-clause-faults : goal.returns-in-End-clause-faults
returns-in-End-clause-faults g c = told_end _ _ _ _ _ c.in-End.ensures.read_kept c.in-End.ensures.write_kept

pub returns-in-Failed-clause-faults : goal.returns-in-Failed-clause-faults
returns-in-Failed-clause-faults g c = told_failed _ _ _ _ _ (c.in-Failed.ensures.read_rose refl) (c.in-Failed.ensures.failed refl).3 c.in-Failed.ensures.write_kept

pub returns-in-Unwritten-clause-faults : goal.returns-in-Unwritten-clause-faults
returns-in-Unwritten-clause-faults g c = told_unwritten _ _ _ _ _ c.in-Unwritten.ensures.read_kept (c.in-Unwritten.ensures.write_rose refl)

pub returns-in-Memory-clause-faults : goal.returns-in-Memory-clause-faults
returns-in-Memory-clause-faults g c =
    let kept = kept_memory c.in-Memory.ensures.read_kept c.in-Memory.ensures.write_kept in
    told_by_finish _ _ _ _ _ _ _ kept.0 kept.1 c.finish.ensures.rose c.finish.ensures.kept c.finish.ensures.never

pub returns-in-TooLarge-clause-faults : goal.returns-in-TooLarge-clause-faults
returns-in-TooLarge-clause-faults g c =
    let kept = kept_large c.in-TooLarge.ensures.read_kept c.in-TooLarge.ensures.write_kept in
    told_by_finish _ _ _ _ _ _ _ kept.0 kept.1 c.finish-in-TooLarge.ensures.rose c.finish-in-TooLarge.ensures.kept c.finish-in-TooLarge.ensures.never

pub returns-in-Some-clause-faults : goal.returns-in-Some-clause-faults
returns-in-Some-clause-faults g c =
    let kept = kept_line c.in-Line.ensures.read_kept c.in-Line.ensures.write_kept in
    told_by_finish _ _ _ _ _ _ _ kept.0 kept.1 c.finish-in-Some.ensures.rose c.finish-in-Some.ensures.kept c.finish-in-Some.ensures.never

pub returns-in-None-clause-faults : goal.returns-in-None-clause-faults
returns-in-None-clause-faults g c = kept_line c.in-Line.ensures.read_kept c.in-Line.ensures.write_kept
