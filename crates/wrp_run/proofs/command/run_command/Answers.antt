-- How a run of the command that the words name ends.
use Rattle.std.proofs.Common.{◌≡◌, ◌∙◌, Some, ap, inl, inr, refl, subst}
use Rattle.std.proofs.KnownBytes.{Appends-nil}
use Rattle.wrp_records.specs.declared.status.Status.TheVariants.{LinkFault, Usage, WriteFault}
use Rattle.wrp_records.specs.Passages.{passage}
use Rattle.wrp_run.specs.Asked.{AsksSo}
use Rattle.wrp_asked.specs.Ends.{Run}
use Rattle.wrp_words.specs.Requests.{asked_in}
use Rattle.wrp_asked.proofs.Asking.{memory_ends, uncalled, usage_ends}
use Rattle.wrp_run.proofs.AskingWork.{asked_networked}
use Rattle.wrp_asked.proofs.LoopEnding.{unlinked}
use Rattle.wrp_asked.proofs.WordLemmas.{alone_command, networked_command}
use Rattle.wrp_commands.specs.Request as requests
use Rattle.wrp_run.proofs.command.run_command.Goals as goal

pub returns-in-Ok-Some-OnNetwork-clause-ends : goal.returns-in-Ok-Some-OnNetwork-clause-ends
returns-in-Ok-Some-OnNetwork-clause-ends g c = c.run_network.ensures.ends (passage g.N.Link.told g.N.Link.faults c.args.link.now c.args.link.now) refl

pub returns-in-Ok-Some-OnNetwork-clause-linked : goal.returns-in-Ok-Some-OnNetwork-clause-linked
returns-in-Ok-Some-OnNetwork-clause-linked g c = unlinked _ _ _ c.run_network.result _ c.run_network.ensures.ends refl

pub returns-in-Ok-Some-OnNetwork-clause-unread : goal.returns-in-Ok-Some-OnNetwork-clause-unread
returns-in-Ok-Some-OnNetwork-clause-unread g c = λ none.
    let has =
    subst (AsksSo (asked_in c.args.words.now))
    (c.in-Ok-Some-OnNetwork.field-0-is ∙ ap Some c.in-Ok-Some-OnNetwork.field-0-0-is) c.in-Ok-Some-OnNetwork.ensures in
    absurd (none (networked_command (asked_in c.args.words.now) (asked_networked (asked_in c.args.words.now) c.in-Ok-Some-OnNetwork.asked has)))

pub returns-in-Ok-Some-Alone-clause-ends : goal.returns-in-Ok-Some-Alone-clause-ends
returns-in-Ok-Some-Alone-clause-ends g c = c.run_alone.ensures.ends (passage g.N.Link.told g.N.Link.faults c.args.link.now c.args.link.now) refl

pub returns-in-Ok-Some-Alone-clause-linked : goal.returns-in-Ok-Some-Alone-clause-linked
returns-in-Ok-Some-Alone-clause-linked g c = unlinked _ _ _ c.run_alone.result _ c.run_alone.ensures.ends refl

pub returns-in-Ok-Some-Alone-clause-unread : goal.returns-in-Ok-Some-Alone-clause-unread
returns-in-Ok-Some-Alone-clause-unread g c = λ none.
    let has = subst (AsksSo (asked_in c.args.words.now)) (c.in-Ok-Some-Alone.field-0-is ∙ ap Some c.in-Ok-Some-Alone.field-0-0-is) c.in-Ok-Some-Alone.ensures in
    absurd (none (alone_command (asked_in c.args.words.now) c.in-Ok-Some-Alone.alone has))

pub run_loop-requires : goal.run_loop-requires
run_loop-requires g c =
    subst (AsksSo (asked_in c.args.words.now)) (c.in-Ok-Some-Loop.field-0-is ∙ ap Some c.in-Ok-Some-Loop.field-0-0-is) c.in-Ok-Some-Loop.ensures

pub returns-in-Ok-Some-Loop-clause-unread : goal.returns-in-Ok-Some-Loop-clause-unread
returns-in-Ok-Some-Loop-clause-unread g c = λ none.
    let has = subst (AsksSo (asked_in c.args.words.now)) (c.in-Ok-Some-Loop.field-0-is ∙ ap Some c.in-Ok-Some-Loop.field-0-0-is) c.in-Ok-Some-Loop.ensures in
    absurd (none (networked_command (asked_in c.args.words.now) (requests.Loop c.in-Ok-Some-Loop.seed, has)))

pub returns-in-Ok-Some-Loop-clause-unlinked : goal.returns-in-Ok-Some-Loop-clause-unlinked
returns-in-Ok-Some-Loop-clause-unlinked g c = λ other.
    let has = subst (AsksSo (asked_in c.args.words.now)) (c.in-Ok-Some-Loop.field-0-is ∙ ap Some c.in-Ok-Some-Loop.field-0-0-is) c.in-Ok-Some-Loop.ensures in
    absurd (other c.in-Ok-Some-Loop.seed has)

pub returns-in-Ok-None-clause-ends : goal.returns-in-Ok-None-clause-ends
returns-in-Ok-None-clause-ends g c =
    let run : Run = record {
      asked = asked_in c.args.words.now;
      source = passage g.S.Source.left g.S.Source.faults c.args.source.now c.args.source.now;
      sink = passage g.K.Sink.held g.K.Sink.faults c.args.sink.now c.answer.new.sink;
      link = passage g.N.Link.told g.N.Link.faults c.args.link.now c.args.link.now;
    } in
    let has = subst (AsksSo (asked_in c.args.words.now)) c.in-Ok-None.field-0-is c.in-Ok-None.ensures in
    usage_ends run c.answer.result has (rw c.as_bytes.ensures.value at c.answer.ensures.how) c.answer.ensures.rose (uncalled run.link refl)

usage_unlinked : Usage ≡ LinkFault → ⊥
usage_unlinked e = cc

write_unlinked : WriteFault ≡ LinkFault → ⊥
write_unlinked e = cc

pub returns-in-Ok-None-clause-linked : goal.returns-in-Ok-None-clause-linked
returns-in-Ok-None-clause-linked g c = record {
  failed = λ is. elim c.answer.ensures.either [
    | inl usage ↦ absurd (usage_unlinked (subst (λ s. s ≡ LinkFault) usage is))
    | inr write ↦ absurd (write_unlinked (subst (λ s. s ≡ LinkFault) write is))
  ];
  sound = λ other. refl;
}

pub returns-in-Err-clause-ends : goal.returns-in-Err-clause-ends
returns-in-Err-clause-ends g c =
    let run : Run = record {
      asked = asked_in c.args.words.now;
      source = passage g.S.Source.left g.S.Source.faults c.args.source.now c.args.source.now;
      sink = passage g.K.Sink.held g.K.Sink.faults c.args.sink.now c.args.sink.now;
      link = passage g.N.Link.told g.N.Link.faults c.args.link.now c.args.link.now;
    } in
    memory_ends run (Appends-nil (g.K.Sink.held c.args.sink.now)) (uncalled run.link refl)
