-- A line that exceeds the size has more octets than are taken.
use Rattle.std.proofs.Common.{◌≡◌, ℕ, Option, List, [], inl, inr, refl}
use Rattle.std.proofs.KnownBytes.{Appends-nil}
use Rattle.wrp_records.specs.declared.engine.NextRecord.{NextRecord}
use Rattle.wrp_records.specs.declared.engine.NextRecord.TheVariants.{Line, End, TooLarge, Failed, Unwritten, Memory}
use Rattle.wrp_records.specs.declared.reader.Next.TheVariants as next
use Rattle.wrp_records.specs.Engine.{Writes}
use Rattle.wrp_records.specs.Stream.{IsTooLarge, IsWithin}
use Rattle.wrp_records.proofs.ReaderLemmas.{given_on}
use Rattle.wrp_records.proofs.Reaching.{cut_within, large_cut, large_whole, moved}
use Rattle.wrp_records.proofs.engine.next_record.Goals as goal

pub returns-in-Some-clause-line : goal.returns-in-Some-clause-line
returns-in-Some-clause-line g c is =
    let said = c.answered.ensures.line is in
    let how = given_on c.in-Some.next next.Line c.give_on.new.line.items c.give_on.new.self c.most_at-most.result c.in-Some.ensures.how said.0 in
    (inl how.0, how.1, moved IsWithin c.deref.result.now c.give_on.new.line.items c.deref.ensures.value said.1, said.2)

pub returns-in-Some-clause-end : goal.returns-in-Some-clause-end
returns-in-Some-clause-end g c is = absurd (given_on c.in-Some.next next.End c.give_on.new.line.items c.give_on.new.self c.most_at-most.result c.in-Some.ensures.how (c.answered.ensures.end is))

pub returns-in-Some-clause-too_large : goal.returns-in-Some-clause-too_large
returns-in-Some-clause-too_large g c is =
    let line = c.give_on.new.line.items in
    elim (c.answered.ensures.too_large is) [
      | inl long ↦
          let how = given_on c.in-Some.next next.TooLong c.give_on.new.line.items c.give_on.new.self c.most_at-most.result c.in-Some.ensures.how long in
          large_cut line c.give_on.new.self c.args.number c.most_at-most.result how.0 c.most_at-most.ensures how.1
      | inr whole ↦ large_whole line c.give_on.new.self c.args.number (inl (given_on c.in-Some.next next.Line c.give_on.new.line.items c.give_on.new.self c.most_at-most.result c.in-Some.ensures.how whole.0).0) (moved (λ l. IsTooLarge l c.args.number) c.deref.result.now line c.deref.ensures.value whole.1)
    ]

pub returns-in-Some-clause-failed : goal.returns-in-Some-clause-failed
returns-in-Some-clause-failed g c is = absurd (given_on c.in-Some.next next.Failed c.give_on.new.line.items c.give_on.new.self c.most_at-most.result c.in-Some.ensures.how (c.answered.ensures.failed.0 is))

pub returns-in-Some-clause-read_rose : goal.returns-in-Some-clause-read_rose
returns-in-Some-clause-read_rose g c is = absurd (given_on c.in-Some.next next.Failed c.give_on.new.line.items c.give_on.new.self c.most_at-most.result c.in-Some.ensures.how (c.answered.ensures.failed.0 is))

pub returns-clause-line : goal.returns-clause-line
returns-clause-line g c is =
    let said = c.answered-2.ensures.line is in
    let came = c.read_on-next.ensures.line said.0 in
    (came.0, came.1, moved IsWithin c.deref-4.result.now c.read_on-next.new.line.items c.deref-4.ensures.value said.1, said.2)

pub returns-clause-end : goal.returns-clause-end
returns-clause-end g c is = c.read_on-next.ensures.end (c.answered-2.ensures.end is)

pub returns-clause-too_large : goal.returns-clause-too_large
returns-clause-too_large g c is =
    let line = c.read_on-next.new.line.items in
    elim (c.answered-2.ensures.too_large is) [
      | inl long ↦
          let cut = c.read_on-next.ensures.too_long long in
          large_cut line c.read_on-next.new.self c.args.number c.most_at-most.result cut.0 c.most_at-most.ensures cut.1
      | inr whole ↦ large_whole line c.read_on-next.new.self c.args.number (c.read_on-next.ensures.line whole.0).0 (moved (λ l. IsTooLarge l c.args.number) c.deref-4.result.now line c.deref-4.ensures.value whole.1)
    ]

pub returns-clause-failed : goal.returns-clause-failed
returns-clause-failed g c is =
    let cut = c.read_on-next.ensures.failed (c.answered-2.ensures.failed.0 is) in
    cut_within c.read_on-next.new.line.items c.read_on-next.new.self c.args.number c.most_at-most.result cut.0 c.most_at-most.ensures cut.1 cut.2

pub returns-clause-read_rose : goal.returns-clause-read_rose
returns-clause-read_rose g c is = c.read_on-next.ensures.rose (c.answered-2.ensures.failed.0 is)

pub returns-clause-read_kept : goal.returns-clause-read_kept
returns-clause-read_kept g c other = c.read_on-next.ensures.kept (λ is. other (c.answered-2.ensures.failed.1 is))

-- if the source was not asked, the same waits
waits_still : (r : NextRecord) (held : Option (List ℕ)) (waiting : List ℕ) → (r ≡ End → ⊥) → (r ≡ Failed → ⊥) → (r ≡ Unwritten → ⊥) → Writes r held held waiting waiting
waits_still Line held waiting end failed unwritten = ([], Appends-nil held, refl)
waits_still End held waiting end failed unwritten = absurd (end refl)
waits_still TooLarge held waiting end failed unwritten = ([], Appends-nil held, refl)
waits_still Failed held waiting end failed unwritten = absurd (failed refl)
waits_still Unwritten held waiting end failed unwritten = absurd (unwritten refl)
waits_still Memory held waiting end failed unwritten = ([], Appends-nil held, refl)

pub returns-in-Some-clause-written : goal.returns-in-Some-clause-written
returns-in-Some-clause-written g c =
    waits_still c.answered.result _ _
    (λ is. absurd (given_on c.in-Some.next next.End c.give_on.new.line.items c.give_on.new.self c.most_at-most.result c.in-Some.ensures.how (c.answered.ensures.end is)))
    (λ is. absurd (given_on c.in-Some.next next.Failed c.give_on.new.line.items c.give_on.new.self c.most_at-most.result c.in-Some.ensures.how (c.answered.ensures.failed.0 is)))
    c.answered.ensures.written
