-- What is left at the end of the input, and when the input is too long.
use Rattle.std.proofs.Common.{◌≡◌, ◌⊎◌, ◌∙◌, inl, inr, true, false, ℕ, List, refl, sym, subst}
use Rattle.wrp_migrate.specs.Input.{GivesAnswer}
use Rattle.wrp_migrate.proofs.Answering.{never_read, wrote_answer, wrote_large}
use Rattle.wrp_migrate.proofs.migrating.migrate.Goals as goal
use Rattle.wrp_records.specs.Engine.{Finishes}
use Rattle.wrp_records.specs.declared.status.Status.{Status}
use Rattle.wrp_records.specs.declared.status.Status.TheVariants.{ReadFault, WriteFault, TooLarge}

pub returns-in-Whole : goal.returns-in-Whole
returns-in-Whole g c =
    let taken = c.in-Whole.ensures.taken in
    let same : c.deref.result.now ≡ taken.0 = c.deref.ensures.value ∙ taken.2.1 in
    let before = g.K.Sink.held c.args.sink.now in
    let now = g.K.Sink.held c.answer_text.new.sink in
    let how = subst (λ (l : List ℕ). GivesAnswer l c.answer_text.result before now) same c.answer_text.ensures.how in
    let wrote = wrote_answer taken.0 c.answer_text.result before now how in
    record {
      passes = (
        true,
        record {
          given = taken.0;
          octets = wrote.0;
          taken = taken.1;
          wrote = wrote.1;
          stands = wrote.2;
          at_end = λ e. taken.2.0;
          stays = λ e. refl;
          read = record { failed = λ is. absurd (never_read taken.0 c.answer_text.result before now how is); sound = λ other. c.in-Whole.ensures.kept (λ e. cc e) };
          write = record { failed = c.answer_text.ensures.rose; sound = c.answer_text.ensures.kept };
        },
      );
    }

-- the line of a text that is too long is not answered for a failed read
not_read : (status : Status) → (status ≡ TooLarge) ⊎ (status ≡ WriteFault) → status ≡ ReadFault → ⊥
not_read status (inl is) e = let other : TooLarge ≡ ReadFault = sym is ∙ e in cc other
not_read status (inr is) e = let other : WriteFault ≡ ReadFault = sym is ∙ e in cc other

pub returns-in-TooLong : goal.returns-in-TooLong
returns-in-TooLong g c =
    let taken = c.in-TooLong.ensures.taken in
    let before = g.K.Sink.held c.args.sink.now in
    let now = g.K.Sink.held c.answer.new.sink in
    let how = subst (λ (l : List ℕ). Finishes TooLarge c.answer.result before now l) c.as_bytes.ensures.value c.answer.ensures.how in
    let wrote = wrote_large taken.0 c.answer.result before now taken.2 how in
    record {
      passes = (
        false,
        record {
          given = taken.0;
          octets = wrote.0;
          taken = taken.1;
          wrote = wrote.1;
          stands = wrote.2;
          at_end = λ e. absurd (cc e);
          stays = λ e. e;
          read = record { failed = λ is. absurd (not_read c.answer.result c.answer.ensures.either is); sound = λ other. c.in-TooLong.ensures.kept (λ e. cc e) };
          write = record { failed = c.answer.ensures.rose; sound = c.answer.ensures.kept };
        },
      );
    }
