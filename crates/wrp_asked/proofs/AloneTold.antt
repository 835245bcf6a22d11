-- What a command that stands alone wrote is what is expected for its input, and so its aim holds of it.
use Rattle.std.proofs.Common.{◌≡◌, ◌∙◌, ap, inl, inr, refl, sym, subst, true, false, ℕ, Option, None, Some, IfSome, List, ◌++◌}
use Rattle.std.specs.Io.KnownBytes.{Appends, Consumes}
use Rattle.wrp_io.specs.declared.link.LinkCall.{LinkCall}
use Rattle.wrp_records.specs.declared.status.Status.{Status}
use Rattle.wrp_records.specs.declared.status.Status.TheVariants.{Done, Usage, BadNetwork, BadTrace, Broken, ReadFault, WriteFault, LinkFault, TooLarge, OutOfMemory, BadCapture, BadCalib}
use Rattle.wrp_records.specs.Statuses.{is_answer}
use Rattle.wrp_commands.specs.declared.alone.Alone.{Alone}
use Rattle.wrp_commands.specs.Request.{CommandLine}
use Rattle.wrp_commands.specs.Request as requests
use Rattle.wrp_asked.specs.Alone.{HasAim, IsAlone, alone_meaning}
use Rattle.wrp_asked.specs.Answer.{Answer, CutAnswer, FirstAnswer, PartAnswer, RecordsDue}
use Rattle.wrp_asked.specs.Ends.{Run, Ends, Wrote}
use Rattle.wrp_asked.specs.Tasks.{Loop}
use Rattle.wrp_asked.proofs.AloneCommand.{IsFirstOf, IsPartOf, Leaves}
use Rattle.wrp_asked.proofs.AloneTable.{facts_of}
use Rattle.wrp_asked.proofs.Asking.{networked_of}
use Rattle.wrp_asked.proofs.OneAnswer.{given_of}
use Rattle.wrp_asked.proofs.WordLemmas.{alone_command, alone_unnetworked, one_alone}

-- an answer for its word is its own
due_alone : (asked : CommandLine) (alone : Alone) (input : List ℕ) (calls : List LinkCall) (status : Status) (octets : List ℕ) → IsAlone asked alone
    → RecordsDue asked input calls status octets
    → (alone_meaning alone).answers input calls status octets
due_alone asked alone input calls status octets is (inl task) = absurd (alone_unnetworked asked alone is (networked_of asked _ task.0 task.1))
due_alone asked alone input calls status octets is (inr (inr looped)) =
    absurd (alone_unnetworked asked alone is (networked_of asked _ (Loop looped.0 looped.1) looped.2))
due_alone asked alone input calls status octets is (inr (inl own)) =
    subst (λ (a : Alone). (alone_meaning a).answers input calls status octets) (one_alone asked own.0 alone own.1 is) own.2

-- and nothing is refused before it
answer_alone : (asked : CommandLine) (alone : Alone) (input : List ℕ) (calls : List LinkCall) (status : Status) (octets : List ℕ) → IsAlone asked alone
    → Answer asked input calls status octets
    → (alone_meaning alone).answers input calls status octets
answer_alone asked alone input calls Usage octets is h = elim h.0 [
  | inl none ↦ absurd (none (alone_command asked alone is))
  | inr node ↦ absurd (alone_unnetworked asked alone is (node.asks.0, node.asks.1))
]
answer_alone asked alone input calls BadNetwork octets is h = elim h [
  | inl bad ↦ absurd (alone_unnetworked asked alone is bad.0)
  | inr own ↦ due_alone asked alone input calls BadNetwork octets is (inr (inl own))
]
answer_alone asked alone input calls TooLarge octets is h = elim h [
  | inl long ↦ absurd (alone_unnetworked asked alone is long.0)
  | inr due ↦ due_alone asked alone input calls TooLarge octets is due
]
answer_alone asked alone input calls status octets is h = due_alone asked alone input calls status octets is h

-- what is written after a failed read is the command's own, and so is what is written if memory ran out
own_cut : (asked : CommandLine) (alone : Alone) (taken octets : List ℕ) → IsAlone asked alone → CutAnswer asked taken octets
    → (alone_meaning alone).cut taken octets
own_cut asked alone taken octets is (inl network) = absurd (alone_unnetworked asked alone is network.0)
own_cut asked alone taken octets is (inr own) = subst (λ (a : Alone). (alone_meaning a).cut taken octets) (one_alone asked own.0 alone own.1 is) own.2

own_first : (asked : CommandLine) (alone : Alone) (input octets : List ℕ) (calls : List LinkCall) → IsAlone asked alone → FirstAnswer asked input calls octets
    → IsFirstOf (alone_meaning alone) input octets
own_first asked alone input octets calls is (inl none) = inl none.0
own_first asked alone input octets calls is (inr (inl task)) = absurd (alone_unnetworked asked alone is (networked_of asked _ task.0 task.1))
own_first asked alone input octets calls is (inr (inr (inr looped))) =
    absurd (alone_unnetworked asked alone is (networked_of asked _ (Loop looped.0 looped.1) looped.2))
own_first asked alone input octets calls is (inr (inr (inl own))) =
    inr (calls, subst (λ (a : Alone). (alone_meaning a).first input calls octets) (one_alone asked own.0 alone own.1 is) own.2)

-- and so is a part of it
own_part : (asked : CommandLine) (alone : Alone) (input octets : List ℕ) (calls : List LinkCall) → IsAlone asked alone → PartAnswer asked input calls octets
    → IsPartOf (alone_meaning alone) input octets
own_part asked alone input octets calls is (whole, count, octets_are, inl (status, due)) =
    let own = answer_alone asked alone input calls status whole is due in
    let uncalled =
    subst (λ (cs : List LinkCall). (alone_meaning alone).answers input cs status whole) ((facts_of alone).uncalled input calls status whole own) own in
    (whole, count, octets_are, inl (status, uncalled))
own_part asked alone input octets calls is (whole, count, octets_are, inr first) =
    (whole, count, octets_are, inr (own_first asked alone input whole calls is first))

-- what was taken is the first part of the input
taken_front : (before now : Option (List ℕ)) (input taken : List ℕ) → before ≡ Some input → Consumes before now taken
    → (left : List ℕ) × (input ≡ taken ++ left)
taken_front before None input taken known took = absurd (subst (λ (o : Option (List ℕ)). Consumes o None taken) known took)
taken_front before (Some left) input taken known took = (left, subst (λ (o : Option (List ℕ)). Consumes o (Some left) taken) known took)

-- what a run wrote of an input that the source reports
abbrev Told : Run → Alone → List ℕ → Status → Type 0
Told run alone input status = (octets : List ℕ) × Wrote run octets × Leaves (alone_meaning alone) input status octets

answered : (run : Run) (alone : Alone) (input : List ℕ) (status : Status) → IsAlone run.asked alone → run.source.before ≡ Some input → Ends run status
    → is_answer status ≡ true → Told run alone input status
answered run alone input status is told ends answer =
    let given = given_of run status input told ends answer in
    let own = answer_alone run.asked alone input given.1 status given.0 is given.4 in (
      given.0,
      given.2,
      record {
        answer = λ e.
            subst (λ (calls : List LinkCall). (alone_meaning alone).answers input calls status given.0)
            ((facts_of alone).uncalled input given.1 status given.0 own) own;
        cut = λ e. let bad : false ≡ true = sym (ap is_answer e) ∙ answer in absurd (cc);
        first = λ e. let bad : false ≡ true = sym (ap is_answer e) ∙ answer in absurd (cc);
        part = λ e. let bad : false ≡ true = sym (ap is_answer e) ∙ answer in absurd (cc);
        linked = λ e. let bad : false ≡ true = sym (ap is_answer e) ∙ answer in absurd (cc);
      },
    )

told : (run : Run) (alone : Alone) (input : List ℕ) (status : Status) → IsAlone run.asked alone → run.source.before ≡ Some input → Ends run status
    → Told run alone input status
told run alone input ReadFault is known ends =
    let front = taken_front run.source.before run.source.now input ends.1 known ends.3 in (
      ends.2,
      ends.4,
      record {
        answer = λ e. absurd (cc);
        cut = λ e. (ends.1, front.0, front.1, own_cut run.asked alone ends.1 ends.2 is ends.5);
        first = λ e. absurd (cc);
        part = λ e. absurd (cc);
        linked = λ e. absurd (cc);
      },
    )
told run alone input WriteFault is known ends = (
  ends.1,
  ends.3,
  record {
    answer = λ e. absurd (cc);
    cut = λ e. absurd (cc);
    first = λ e. absurd (cc);
    part = λ e. own_part run.asked alone input ends.1 ends.2 is (subst (λ (o : Option (List ℕ)). IfSome o (λ (i : List ℕ). PartAnswer run.asked i ends.2 ends.1)) known ends.5);
    linked = λ e. absurd (cc);
  },
)
told run alone input OutOfMemory is known ends = (
  ends.0,
  ends.2,
  record {
    answer = λ e. absurd (cc);
    cut = λ e. absurd (cc);
    first = λ e. own_first run.asked alone input ends.0 ends.1 is (subst (λ (o : Option (List ℕ)). IfSome o (λ (i : List ℕ). FirstAnswer run.asked i ends.1 ends.0)) known ends.4);
    part = λ e. absurd (cc);
    linked = λ e. absurd (cc);
  },
)
told run alone input LinkFault is known ends = absurd (alone_unnetworked run.asked alone is (requests.Loop ends.1.0, ends.1.1))
told run alone input Done is known ends = answered run alone input Done is known ends refl
told run alone input Usage is known ends = answered run alone input Usage is known ends refl
told run alone input BadNetwork is known ends = answered run alone input BadNetwork is known ends refl
told run alone input BadTrace is known ends = answered run alone input BadTrace is known ends refl
told run alone input Broken is known ends = answered run alone input Broken is known ends refl
told run alone input TooLarge is known ends = answered run alone input TooLarge is known ends refl
told run alone input BadCapture is known ends = answered run alone input BadCapture is known ends refl
told run alone input BadCalib is known ends = answered run alone input BadCalib is known ends refl

-- it has the aim
abbrev pub WroteSo : Alone → Option (List ℕ) → Option (List ℕ) → Status → List ℕ → Type 0
WroteSo alone held now status input = (octets : List ℕ) × Appends held now octets × HasAim alone input status octets

pub aimed : (run : Run) (status : Status) → Ends run status → (alone : Alone) → IsAlone run.asked alone
    → IfSome run.source.before (WroteSo alone run.sink.before run.sink.now status)
aimed run status ends alone is = go run.source.before refl
  where
    go : (o : Option (List ℕ)) → run.source.before ≡ o → IfSome o (WroteSo alone run.sink.before run.sink.now status)
    go None known = tt
    go (Some input) known =
        let has = told run alone input status is known ends in
        (has.0, has.1, (facts_of alone).aim input status has.0 has.2)
