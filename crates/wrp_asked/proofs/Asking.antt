-- What holds at the end of a run, said of the words and the whole input.
use Rattle.std.proofs.Common.{◌≡◌, inl, inr, true, false, Bool, ℕ, ◌<◌, ◌≤◌, Option, None, Some, IfSome, Err, List, [], ◌∷◌, ◌++◌, length, take, refl, sym, ap, ◌∙◌, subst, append_assoc, append-nil, option_map}
use Rattle.std.specs.Io.KnownBytes.{Appends, Consumes, IsAtEnd}
use Rattle.std.proofs.KnownBytes.{Appends-nil, Consumes-trans}
use Rattle.wrp_base.specs.declared.fault.ConfFault.{ConfFault}
use Rattle.wrp_base.specs.declared.fault.ConfFault.TheVariants.{Fault, Memory}
use Rattle.wrp_network_text.specs.Reading.{IsReadingOf}
use Rattle.wrp_io.specs.declared.link.LinkCall.{LinkCall}
use Rattle.wrp_records.specs.declared.machine.Refusal.{Refusal}
use Rattle.wrp_records.specs.declared.machine.Refusal.TheVariants as refusals
use Rattle.wrp_records.specs.declared.status.Status.{Status}
use Rattle.wrp_records.specs.declared.status.Status.TheVariants.{Done, Usage, BadNetwork, BadTrace, Broken, ReadFault, WriteFault, LinkFault, TooLarge, OutOfMemory, BadCapture, BadCalib}
use Rattle.wrp_records.specs.After.{After, GoesOn, IsDue, IsFirst, StopsNear}
use Rattle.wrp_records.specs.ByLines.{LastRefused, LastRefusedAs, of_lines}
use Rattle.wrp_records.specs.Engine.{Finishes, RefusesNetwork}
use Rattle.wrp_records.specs.LineMeaning.{LineMeaning}
use Rattle.wrp_records.specs.Meaning.{Meaning}
use Rattle.wrp_records.specs.Lines.{lines_of}
use Rattle.wrp_records.specs.Passages.{Failed, Passage, Passes, PassesAll}
use Rattle.wrp_records.specs.Reader.{ReaderAt, piece_limit}
use Rattle.wrp_records.specs.RecordsAnswer.{RecordsAnswer, StandsFirst, IsRefused}
use Rattle.wrp_records.specs.Refusals.{bad_network_line, too_large_line}
use Rattle.wrp_records.specs.Stream.{CutHandled}
use Rattle.wrp_commands.specs.declared.alone.Alone.{Alone}
use Rattle.wrp_commands.specs.Request.{CommandLine}
use Rattle.wrp_asked.specs.Alone.{IsAlone, MayAnswer, alone_meaning}
use Rattle.wrp_asked.specs.Answer.{Answer, AsksNone, IsCommand, IsNetworked, FirstAnswer, PartAnswer, CutTask}
use Rattle.wrp_asked.specs.Ends.{Run, AsksEvents, Called, Ends, EndsRefused, EndsRefusedAs, EndsUnlinked, TakesPiece, Wrote, begun_at}
use Rattle.wrp_asked.specs.Input.{network_text, behind_separator, network_limit, IsDivided, IsTooLong, IsUndivided}
use Rattle.wrp_replay.specs.Replays.{IsRefusedBy}
use Rattle.wrp_asked.specs.Tasks.{Task, Replay, Audit, Emit, Simulate, Loop, AsksFor, meaning_at, task_row}
use Rattle.wrp_asked.proofs.AloneTable.{facts_of}
use Rattle.wrp_asked.proofs.NetworkTable.{task_facts}

-- what is expected for the records is expected for the words and the input
answer_of : (asked : CommandLine) (input : List ℕ) (task : Task) (status : Status) (octets : List ℕ) → AsksFor asked (network_text input) task
    → RecordsAnswer (meaning_at task) (behind_separator (lines_of input)) status octets → Answer asked input [] status octets
answer_of asked input task Done octets has due = inl (task, has, due, refl)
answer_of asked input task BadTrace octets has due = inl (task, has, due, refl)
answer_of asked input task Broken octets has due = inl (task, has, due, refl)
answer_of asked input task TooLarge octets has due = inr (inl (task, has, due, refl))
answer_of asked input task BadCalib octets has due = inl (task, has, due, refl)
answer_of asked input task _ octets has due = absurd due

-- without a call, the calls that a link reports stay the same
pub uncalled : (link : Passage (List LinkCall)) → link.now ≡ link.before → link.now ≡ option_map (λ told. told ++ []) link.before
uncalled link same = same ∙ none link.before
  where
    none : (told : Option (List LinkCall)) → told ≡ option_map (λ told. told ++ []) told
    none None = refl
    none (Some calls) = ap Some (sym (append-nil calls))

-- a fact of the whole input
pub told_text : (first middle : Option (List ℕ)) (network text : List ℕ) (r : ReaderAt) → Consumes first middle network → IsDivided network text r
    → (r.ended ≡ true → IsAtEnd middle)
    → IfSome first (λ input. network_text input ≡ text)
told_text None middle network text r one divided at_end = tt
told_text (Some input) None network text r one divided at_end = absurd one
told_text (Some input) (Some middle) network text r one divided at_end =
    elim divided [
      | inl (front, goes, divides) ↦
          ap network_text (one ∙ ap (λ l. l ++ middle) goes ∙ append_assoc front r.rest middle) ∙ (divides (r.rest ++ middle)).0
      | inr (end, same, none) ↦
          ap network_text (one ∙ ap (λ l. network ++ l) (at_end end.ended) ∙ append-nil network) ∙ same
    ]

-- of an input that was taken in two parts the network text and the record lines
both_parts : (P : List (List ℕ) → Type 0) (first middle last : Option (List ℕ)) (network given text : List ℕ) (r : ReaderAt) (ended : Bool)
    → Consumes first middle network → Consumes middle last given → IsDivided network text r
    → (r.ended ≡ true → IsAtEnd middle) → (ended ≡ true → IsAtEnd last) → ((more : List ℕ) → GoesOn ended more → P (lines_of ((r.rest ++ given) ++ more)))
    → IfSome first (λ input. (network_text input ≡ text) × P (behind_separator (lines_of input)))
both_parts P None middle last network given text r ended one two divided rest_at_end at_end told = tt
both_parts P (Some input) None last network given text r ended one two divided rest_at_end at_end told = absurd one
both_parts P (Some input) (Some middle) None network given text r ended one two divided rest_at_end at_end told = absurd two
both_parts P (Some input) (Some middle) (Some left) network given text r ended one two divided rest_at_end at_end told =
    elim divided [
      | inl (front, goes, divides) ↦
          let all : input ≡ front ++ ((r.rest ++ given) ++ left) =
          one ∙ ap (λ l. l ++ middle) goes ∙ append_assoc front r.rest middle ∙ ap (λ l. front ++ (r.rest ++ l)) two
          ∙ ap (λ l. front ++ l) (sym (append_assoc r.rest given left)) in
          let parts = divides ((r.rest ++ given) ++ left) in
          let lines_are : behind_separator (lines_of input) ≡ lines_of ((r.rest ++ given) ++ left) = ap (λ l. behind_separator (lines_of l)) all ∙ parts.1 in
          (ap network_text all ∙ parts.0, subst P (sym lines_are) (told left at_end))
      | inr (end, same, none) ↦
          let nothing : middle ≡ [] = rest_at_end end.ended in
          let all : input ≡ network = one ∙ ap (λ l. network ++ l) nothing ∙ append-nil network in
          let held : (r.rest ++ given) ++ left ≡ [] =
          append_assoc r.rest given left ∙ ap (λ l. r.rest ++ l) (sym two ∙ nothing) ∙ append-nil r.rest ∙ end.none in
          let lines_are : behind_separator (lines_of input) ≡ lines_of ((r.rest ++ given) ++ left) =
          ap (λ l. behind_separator (lines_of l)) all ∙ none ∙ ap lines_of (sym held) in
          (ap network_text all ∙ same, subst P (sym lines_are) (told left at_end))
    ]

-- what was taken of the network text
pub record TookNetwork (asked : CommandLine) (first middle : Option (List ℕ)) (text : List ℕ) (r : ReaderAt) (task : Task) : Type 0 where
  pub network : List ℕ
  pub taken : Consumes first middle network
  pub divided : IsDivided network text r
  pub at_end : r.ended ≡ true → IsAtEnd middle
  pub asks : AsksFor asked text task

-- the node that is asked for, in the whole input
asks_told : (asked : CommandLine) (text other : List ℕ) (task : Task) → other ≡ text → AsksFor asked text task → AsksFor asked other task
asks_told asked text other task same asks = subst (λ (t : List ℕ). AsksFor asked t task) (sym same) asks

-- a fact of all record lines, in the whole input
pub lines_told : (P : List (List ℕ) → Type 0) (asked : CommandLine) (first : Option (List ℕ)) (source : Passage (List ℕ)) (text given : List ℕ) (r : ReaderAt)
    (ended : Bool) (task : Task)
    → TookNetwork asked first source.before text r task → Consumes source.before source.now given → (ended ≡ true → IsAtEnd source.now)
    → ((more : List ℕ) → GoesOn ended more → P (lines_of ((r.rest ++ given) ++ more)))
    → IfSome first (λ input. AsksFor asked (network_text input) task × P (behind_separator (lines_of input)))
lines_told P asked None source text given r ended task net taken at_end told = tt
lines_told P asked (Some input) source text given r ended task net taken at_end told =
    let both = both_parts P (Some input) source.before source.now net.network given text r ended net.taken taken net.divided net.at_end at_end told in
    (asks_told asked text (network_text input) task both.0 net.asks, both.1)

-- an answer
answered : (asked : CommandLine) (first : Option (List ℕ)) (source : Passage (List ℕ)) (text given octets : List ℕ) (r : ReaderAt) (ended : Bool) (task : Task)
    (status : Status)
    → TookNetwork asked first source.before text r task → Consumes source.before source.now given → (ended ≡ true → IsAtEnd source.now)
    → IsDue (of_lines (meaning_at task)) (r.rest ++ given) ended [] status octets → IfSome first (λ input. Answer asked input [] status octets)
answered asked None source text given octets r ended task status net taken at_end due = tt
answered asked (Some input) source text given octets r ended task status net taken at_end due =
    let has =
    lines_told (λ (ls : List (List ℕ)). RecordsAnswer (meaning_at task) ls status octets) asked (Some input) source text given r ended task net taken at_end
    (λ more on. (due more on).1) in
    answer_of asked input task status octets has.0 has.1

-- the first lines
firsts : (asked : CommandLine) (first : Option (List ℕ)) (source : Passage (List ℕ)) (text given octets : List ℕ) (r : ReaderAt) (ended : Bool) (task : Task)
    → TookNetwork asked first source.before text r task → Consumes source.before source.now given → (ended ≡ true → IsAtEnd source.now)
    → IsFirst (of_lines (meaning_at task)) (r.rest ++ given) ended [] octets → IfSome first (λ input. FirstAnswer asked input [] octets)
firsts asked None source text given octets r ended task net taken at_end due = tt
firsts asked (Some input) source text given octets r ended task net taken at_end due =
    let has =
    lines_told (λ (ls : List (List ℕ)). StandsFirst (meaning_at task) ls octets) asked (Some input) source text given r ended task net taken at_end
    (λ more on. (due more on).1) in
    inr (inl (task, has.0, has.1, refl))

-- a part of what is expected
part_told : (asked : CommandLine) (first : Option (List ℕ)) (status : Status) (due : List ℕ) (count : ℕ)
    → IfSome first (λ input. Answer asked input [] status due) → IfSome first (λ input. PartAnswer asked input [] (take count due))
part_told asked None status due count has = tt
part_told asked (Some input) status due count has = (due, count, refl, inl (status, has))

part_first : (asked : CommandLine) (first : Option (List ℕ)) (due : List ℕ) (count : ℕ)
    → IfSome first (λ input. FirstAnswer asked input [] due) → IfSome first (λ input. PartAnswer asked input [] (take count due))
part_first asked None due count has = tt
part_first asked (Some input) due count has = (due, count, refl, inr has)

parts : (asked : CommandLine) (first : Option (List ℕ)) (source : Passage (List ℕ)) (text given octets : List ℕ) (r : ReaderAt) (ended : Bool) (task : Task)
    → TookNetwork asked first source.before text r task → Consumes source.before source.now given → (ended ≡ true → IsAtEnd source.now)
    → After (of_lines (meaning_at task)) (r.rest ++ given) ended [] WriteFault octets → IfSome first (λ input. PartAnswer asked input [] octets)
parts asked first source text given octets r ended task net taken at_end at =
    subst (λ (o : List ℕ). IfSome first (λ input. PartAnswer asked input [] o)) (sym at.2)
    (elim at.3 [
      | inl due ↦ part_told asked first due.0 at.0 at.1 (answered asked first source text given at.0 r ended task due.0 net taken at_end due.1)
      | inr due ↦ part_first asked first at.0 at.1 (firsts asked first source text given at.0 r ended task net taken at_end due)
    ])

-- nothing in two parts
none_of_two : (given left : List ℕ) → [] ≡ given ++ left → given ≡ []
none_of_two [] left e = refl
none_of_two (octet ∷ given) left e = absurd (cc)

-- one of the lines after a network text is refused, if the octets after the text are these
refused_behind : (M : LineMeaning) (refusal : Refusal) (lines others : List (List ℕ)) (text : List ℕ) → others ≡ lines → (at : IsRefused M refusal lines text)
    → at.behind ≡ []
    → (here : IsRefused M refusal others text) × (here.behind ≡ [])
refused_behind M refusal lines others text same at last = (
  record {
    before = at.before;
    line = at.line;
    behind = at.behind;
    written = at.written;
    last = at.last;
    divided = same ∙ at.divided;
    handled = at.handled;
    within = at.within;
    number = at.number;
    refused = at.refused;
    is = at.is;
  },
  last,
)

ends_refused : (asked : CommandLine) (task : Task) (refusal : Refusal) (network text front : List ℕ)
    → ((more : List ℕ) → (network_text (network ++ more) ≡ text) × (behind_separator (lines_of (network ++ more)) ≡ lines_of more))
    → AsksFor asked text task → LastRefused (meaning_at task) refusal front → EndsRefused asked (network ++ front) refusal
ends_refused asked task refusal network text front divides asks at =
    let here =
    refused_behind (meaning_at task) refusal (lines_of front) (behind_separator (lines_of (network ++ front))) at.text (divides front).1 at.refused at.last in
    record { task = task; octets = at.text; asks = asks_told asked text (network_text (network ++ front)) task (divides front).0 asks; refused = here.0; last = here.1 }

-- the refused one among these statuses
ends_as : (asked : CommandLine) (task : Task) (status : Status) (network text front : List ℕ)
    → ((more : List ℕ) → (network_text (network ++ more) ≡ text) × (behind_separator (lines_of (network ++ more)) ≡ lines_of more))
    → AsksFor asked text task → LastRefusedAs (meaning_at task) status front → EndsRefusedAs asked (network ++ front) status
ends_as asked task BadTrace network text front divides asks at = inl (ends_refused asked task refusals.BadTrace network text front divides asks at)
ends_as asked task Broken network text front divides asks at = inl (ends_refused asked task refusals.Broken network text front divides asks at)
ends_as asked task _ network text front divides asks at = absurd at

-- no line of none is refused
none_refused : (M : LineMeaning) (status : Status) (front : List ℕ) → front ≡ [] → LastRefusedAs M status front → ⊥
none_refused M BadTrace front none at = nothing (lines_of front) at.refused.before at.refused.line at.refused.behind (ap lines_of none) at.refused.divided
  where
    nothing : (lines before : List (List ℕ)) (line : List ℕ) (behind : List (List ℕ)) → lines ≡ [] → lines ≡ before ++ line ∷ behind → ⊥
    nothing lines [] line behind same is = let bad : [] ≡ line ∷ behind = sym same ∙ is in cc
    nothing lines (b ∷ before) line behind same is = let bad : [] ≡ b ∷ (before ++ line ∷ behind) = sym same ∙ is in cc
none_refused M Broken front none at = nothing (lines_of front) at.refused.before at.refused.line at.refused.behind (ap lines_of none) at.refused.divided
  where
    nothing : (lines before : List (List ℕ)) (line : List ℕ) (behind : List (List ℕ)) → lines ≡ [] → lines ≡ before ++ line ∷ behind → ⊥
    nothing lines [] line behind same is = let bad : [] ≡ line ∷ behind = sym same ∙ is in cc
    nothing lines (b ∷ before) line behind same is = let bad : [] ≡ b ∷ (before ++ line ∷ behind) = sym same ∙ is in cc
none_refused M _ front none at = at

-- the first of two lists of nothing
first_of_none : (front past : List ℕ) → [] ≡ front ++ past → front ≡ []
first_of_none [] past e = refl
first_of_none (octet ∷ front) past e = absurd (cc)

-- a refused line ends what was taken except for the rest of its piece
refused_past : (asked : CommandLine) (task : Task) (status : Status) (network given text : List ℕ) (r : ReaderAt) → IsDivided network text r
    → AsksFor asked text task → StopsNear (of_lines (meaning_at task)) status (r.rest ++ given) → (r.ended ≡ true → r.rest ≡ [] → r.rest ++ given ≡ [])
    → (front : List ℕ) × (past : List ℕ) × (network ++ given ≡ front ++ past) × (length past ≤ piece_limit) × EndsRefusedAs asked front status
refused_past asked task status network given text r divided asks at empty =
    elim divided [
      | inl (front, goes, divides) ↦
          let all : network ++ given ≡ (front ++ at.front) ++ at.past =
          ap (λ l. l ++ given) goes ∙ append_assoc front r.rest given ∙ ap (λ l. front ++ l) at.all ∙ sym (append_assoc front at.front at.past) in
          (front ++ at.front, at.past, all, at.piece, ends_as asked task status front text at.front divides asks at.refused)
      | inr (end, same, none) ↦
          let nothing : [] ≡ at.front ++ at.past = sym (empty end.ended end.none) ∙ at.all in
          absurd (none_refused (meaning_at task) status at.front (first_of_none at.front at.past nothing) at.refused)
    ]

-- if a record is refused
past_told : (run : Run) (middle : Option (List ℕ)) (text given : List ℕ) (r : ReaderAt) (task : Task) (status : Status)
    → TookNetwork run.asked run.source.before middle text r task → Consumes middle run.source.now given
    → StopsNear (of_lines (meaning_at task)) status (r.rest ++ given) → IfSome run.source.before (TakesPiece run status)
past_told run middle text given r task status net taken at =
    go run.source.before middle run.source.now net.taken taken net.at_end refl refl
  where
    go : (first mid last : Option (List ℕ)) → Consumes first mid net.network → Consumes mid last given → (r.ended ≡ true → IsAtEnd mid)
        → first ≡ run.source.before → last ≡ run.source.now
        → IfSome first (TakesPiece run status)
    go None mid last one two rest_at_end is ends = tt
    go (Some input) None last one two rest_at_end is ends = absurd one
    go (Some input) (Some mid) None one two rest_at_end is ends = absurd two
    go (Some input) (Some mid) (Some left) one two rest_at_end is ends =
        let empty : r.ended ≡ true → r.rest ≡ [] → r.rest ++ given ≡ [] =
        λ ended none. ap (λ l. l ++ given) none ∙ none_of_two given left (sym (rest_at_end ended) ∙ two) in
        let found = refused_past run.asked task status net.network given text r net.divided net.asks at empty in
        record {
          front = found.0;
          past = found.1;
          left = left;
          all =
              one ∙ ap (λ l. net.network ++ l) two ∙ sym (append_assoc net.network given left) ∙ ap (λ l. l ++ left) found.2
              ∙ append_assoc found.0 found.1 left;
          now = sym ends;
          piece = found.3;
          refused = found.4;
        }

-- if the source failed after the network text
cut_told : (asked : CommandLine) (network given text octets : List ℕ) (r : ReaderAt) (task : Task) → IsDivided network text r → AsksFor asked text task
    → (r.ended ≡ true → ⊥) → CutHandled (meaning_at task).accepts (r.rest ++ given) octets → CutTask asked (network ++ given) octets
cut_told asked network given text octets r task divided asks goes cut =
    elim divided [
      | inl (front, all, divides) ↦ record {
        front = front;
        back = r.rest ++ given;
        text = text;
        task = task;
        all = ap (λ l. l ++ given) all ∙ append_assoc front r.rest given;
        divides = divides;
        asks = asks;
        handled = cut;
      }
      | inr (end, same, none) ↦ absurd (goes end.ended)
    ]

-- what asks for a task is a command on a network
pub networked_of : (asked : CommandLine) (text : List ℕ) (task : Task) → AsksFor asked text task → IsNetworked asked
networked_of asked text task asks = ((task_row task).command, asks.1)

-- a premise is broken only if events are audited
broken_asks : (asked : CommandLine) (text : List ℕ) (task : Task) (lines : List (List ℕ)) (due : List ℕ) → AsksFor asked text task
    → RecordsAnswer (meaning_at task) lines Broken due → AsksEvents asked
broken_asks asked text (Replay name site) lines due asks at = absurd at.refused
broken_asks asked text (Audit setting) lines due asks at = inl asks.1
broken_asks asked text (Emit name setting node) lines due asks at = inr (name, asks.1)
broken_asks asked text (Simulate setting seed) lines due asks at = absurd at.refused
broken_asks asked text (Loop setting seed) lines due asks at = absurd at.refused

-- what is expected at the end is expected however the input goes on
due_at_end : (M : LineMeaning) (taken : List ℕ) (ended : Bool) (octets : List ℕ) → After (of_lines M) taken ended [] Done octets
    → IsDue (of_lines M) taken ended [] Done octets
due_at_end M taken ended octets at more on =
    (refl, subst (λ (l : List ℕ). RecordsAnswer M (lines_of l) Done octets) (sym (ap (λ l. taken ++ l) (on at.0) ∙ append-nil taken)) at.1.1)

-- how a run ends that came to the records
pub records_end : (asked : CommandLine) (first : Option (List ℕ)) (source sink : Passage (List ℕ)) (text : List ℕ) (r : ReaderAt) (ended : Bool) (task : Task)
    (status : Status)
    → TookNetwork asked first source.before text r task → Passes (of_lines (meaning_at task)) source sink r.rest r.ended ended [] status
    → EndsUnlinked asked (begun_at first source) sink status
records_end asked first source sink text r ended task Done net at link same = (
  (
    inl (networked_of asked text task net.asks),
    at.octets,
    [],
    at.wrote,
    uncalled link same,
    answered asked first source text at.given at.octets r ended task Done net at.taken at.at_end (due_at_end (meaning_at task) (r.rest ++ at.given) ended at.octets at.stands),
  ),
  at.at_end at.stands.0,
)
records_end asked first source sink text r ended task BadTrace net at link same = (
  (inl (networked_of asked text task net.asks), at.octets, [], at.wrote, uncalled link same, answered asked first source text at.given at.octets r ended task BadTrace net at.taken at.at_end at.stands.0),
  past_told (record { asked = asked; source = begun_at first source; sink = sink; link = link }) source.before text at.given r task BadTrace net at.taken at.stands.1,
)
records_end asked first source sink text r ended task Broken net at link same = (
  (inl (networked_of asked text task net.asks), at.octets, [], at.wrote, uncalled link same, answered asked first source text at.given at.octets r ended task Broken net at.taken at.at_end at.stands.0),
  past_told (record { asked = asked; source = begun_at first source; sink = sink; link = link }) source.before text at.given r task Broken net at.taken at.stands.1,
  inl (broken_asks asked text task (lines_of ((r.rest ++ at.given) ++ [])) at.octets net.asks (at.stands.0 [] (λ e. refl)).1),
)
records_end asked first source sink text r ended task TooLarge net at link same =
    (inl (networked_of asked text task net.asks), at.octets, [], at.wrote, uncalled link same, answered asked first source text at.given at.octets r ended task TooLarge net at.taken at.at_end at.stands)
records_end asked first source sink text r ended task ReadFault net at link same =
    let open_ : r.ended ≡ true → ⊥ = λ is. let bad : true ≡ false = sym (at.stays is) ∙ at.stands.0 in cc in (
      at.read.failed refl,
      net.network ++ at.given,
      at.octets,
      Consumes-trans first source.before source.now net.network at.given net.taken at.taken,
      at.wrote,
      inl (networked_of asked text task net.asks, inr (cut_told asked net.network at.given text at.octets r task net.divided net.asks open_ at.stands.2)),
      uncalled link same,
    )
records_end asked first source sink text r ended task WriteFault net at link same =
    (at.write.failed refl, at.octets, [], at.wrote, uncalled link same, parts asked first source text at.given at.octets r ended task net at.taken at.at_end at.stands)
records_end asked first source sink text r ended task OutOfMemory net at link same =
    (at.octets, [], at.wrote, uncalled link same, firsts asked first source text at.given at.octets r ended task net at.taken at.at_end at.stands)
records_end asked first source sink text r ended task LinkFault net at link same = absurd at.stands.1
records_end asked first source sink text r ended task BadCapture net at link same = absurd (at.stands.0 [] (λ e. refl)).1
records_end asked first source sink text r ended task BadCalib net at link same =
    absurd ((task_facts task).ends (lines_of ((r.rest ++ at.given) ++ [])) at.octets (at.stands.1 [] (λ e. refl)).1)
records_end asked first source sink text r ended task Usage net at link same = absurd (at.stands [] (λ e. refl)).1
records_end asked first source sink text r ended task BadNetwork net at link same = absurd (at.stands [] (λ e. refl)).1

-- how a run ends whose only line is a refusal
pub line_ends : (run : Run) (due given : Status) (line : List ℕ) → Finishes due given run.sink.before run.sink.now line → (given ≡ WriteFault → Failed run.sink)
    → Called run []
    → IfSome run.source.before (λ input. Answer run.asked input [] due line) → (Wrote run line → Ends run due) → Ends run given
line_ends run due given line how writes called told ends =
    elim how [
      | inl all ↦ subst (Ends run) (sym all.0) (ends all.1)
      | inr part ↦ subst (Ends run) (sym part.0)
          (writes part.0, take part.1.0 line, [], part.1.1, called, part_told run.asked run.source.before due line part.1.0 told)
    ]

-- the network text is too long
pub told_too_long : (asked : CommandLine) (first middle : Option (List ℕ)) (network : List ℕ) (r : ReaderAt) → IsNetworked asked → Consumes first middle network
    → IsTooLong network r
    → (r.ended ≡ true → IsAtEnd middle) → IfSome first (λ input. Answer asked input [] TooLarge too_large_line)
told_too_long asked None middle network r networked one long at_end = tt
told_too_long asked (Some input) None network r networked one long at_end = absurd one
told_too_long asked (Some input) (Some middle) network r networked one long at_end =
    inl (networked, subst (λ (l : List ℕ). network_limit < length (network_text l)) (sym one) (long middle at_end), refl, refl)

-- the network text is refused
pub told_bad_network : (asked : CommandLine) (first : Option (List ℕ)) (text line : List ℕ) → IfSome first (λ input. network_text input ≡ text)
    → length text ≤ network_limit
    → IsRefusedBy text line → IsNetworked asked → IfSome first (λ input. Answer asked input [] BadNetwork line)
told_bad_network asked None text line told fits bad networked = tt
told_bad_network asked (Some input) text line told fits bad networked =
    inl (networked, subst (λ (t : List ℕ). length t ≤ network_limit) (sym told) fits, subst (λ (t : List ℕ). IsRefusedBy t line) (sym told) bad, refl)

-- the network has no node of this name
pub told_no_node : (asked : CommandLine) (first : Option (List ℕ)) (text : List ℕ) → IfSome first (λ input. network_text input ≡ text)
    → AsksNone asked text → IfSome first (λ input. AsksNone asked (network_text input))
told_no_node asked None text told none = tt
told_no_node asked (Some input) text told none = subst (AsksNone asked) (sym told) none

pub told_no_usage : (asked : CommandLine) (first : Option (List ℕ)) → IfSome first (λ input. AsksNone asked (network_text input))
    → IfSome first (λ input. Answer asked input [] Usage asked.usage)
told_no_usage asked None none = tt
told_no_usage asked (Some input) none = (inr none, refl, refl)

-- if the words are no command
pub told_usage : (asked : CommandLine) (first : Option (List ℕ)) → (IsCommand asked → ⊥) → IfSome first (λ input. Answer asked input [] Usage asked.usage)
told_usage asked None none = tt
told_usage asked (Some input) none = (inl none, refl, refl)

-- if nothing was written
pub nothing_first : (asked : CommandLine) (first : Option (List ℕ)) → IfSome first (λ input. FirstAnswer asked input [] [])
nothing_first asked None = tt
nothing_first asked (Some input) = inl (refl, refl)

-- how a run ends before its records
pub size_ends : (run : Run) (given : Status) (network : List ℕ) (r : ReaderAt) → IsNetworked run.asked → Consumes run.source.before run.source.now network
    → IsTooLong network r
    → (r.ended ≡ true → IsAtEnd run.source.now) → Finishes TooLarge given run.sink.before run.sink.now too_large_line → (given ≡ WriteFault → Failed run.sink)
    → Called run [] → Ends run given
size_ends run given network r networked one long at_end how writes called =
    let told = told_too_long run.asked run.source.before run.source.now network r networked one long at_end in
    line_ends run TooLarge given too_large_line how writes called told (λ wrote. (inl networked, too_large_line, [], wrote, called, told))

pub memory_ends : (run : Run) → Wrote run [] → Called run [] → Ends run OutOfMemory
memory_ends run wrote called = ([], [], wrote, called, nothing_first run.asked run.source.before)

without_memory : (run : Run) (given : Status) → given ≡ OutOfMemory → run.sink.now ≡ run.sink.before → Called run [] → Ends run given
without_memory run given memory same called =
    subst (Ends run) (sym memory)
    (memory_ends run (subst (λ (now : Option (List ℕ)). Appends run.sink.before now []) (sym same) (Appends-nil run.sink.before)) called)

pub bad_network_ends : (run : Run) (given : Status) (network text line : List ℕ) (r : ReaderAt) → IsNetworked run.asked
    → Consumes run.source.before run.source.now network
    → IsDivided network text r → length text ≤ network_limit → (r.ended ≡ true → IsAtEnd run.source.now) → IsRefusedBy text line
    → Finishes BadNetwork given run.sink.before run.sink.now line → (given ≡ WriteFault → Failed run.sink) → Called run [] → Ends run given
bad_network_ends run given network text line r networked one divided fits at_end bad how writes called =
    let told =
    told_bad_network run.asked run.source.before text line (told_text run.source.before run.source.now network text r one divided at_end) fits bad networked in
    line_ends run BadNetwork given line how writes called told (λ wrote. (inl networked, line, [], wrote, called, told))

-- the network is refused, or there was no memory for its line
pub refused_ends : (run : Run) (given : Status) (network text : List ℕ) (fault : ConfFault) (r : ReaderAt) → IsNetworked run.asked
    → Consumes run.source.before run.source.now network
    → IsDivided network text r → length text ≤ network_limit → (r.ended ≡ true → IsAtEnd run.source.now) → IsReadingOf text (Err fault)
    → RefusesNetwork fault given run.sink.before run.sink.now → (given ≡ WriteFault → Failed run.sink) → Called run [] → Ends run given
refused_ends run given network text (Fault code place) r networked one divided fits at_end reads how writes called =
    elim how [
      | inl (memory, same) ↦ without_memory run given memory same called
      | inr line ↦ bad_network_ends run given network text (bad_network_line code place.bytes) r networked one divided fits at_end (code, place, reads, refl) line writes called
    ]
refused_ends run given network text (Memory e) r networked one divided fits at_end reads how writes called = without_memory run given how.0 how.1 called

pub no_node_ends : (run : Run) (given : Status) (network text : List ℕ) (r : ReaderAt) → AsksNone run.asked text
    → Consumes run.source.before run.source.now network
    → IsDivided network text r → (r.ended ≡ true → IsAtEnd run.source.now) → Finishes Usage given run.sink.before run.sink.now run.asked.usage
    → (given ≡ WriteFault → Failed run.sink)
    → Called run [] → Ends run given
no_node_ends run given network text r none one divided at_end how writes called =
    let told = told_no_node run.asked run.source.before text (told_text run.source.before run.source.now network text r one divided at_end) none in
    line_ends run Usage given run.asked.usage how writes called (told_no_usage run.asked run.source.before told)
    (λ wrote. (wrote, inr ((none.name, none.asks), told), called))

pub usage_ends : (run : Run) (given : Status) → (IsCommand run.asked → ⊥) → Finishes Usage given run.sink.before run.sink.now run.asked.usage
    → (given ≡ WriteFault → Failed run.sink)
    → Called run [] → Ends run given
usage_ends run given none how writes called =
    line_ends run Usage given run.asked.usage how writes called (told_usage run.asked run.source.before none) (λ wrote. (wrote, inl none, called))

pub network_fails : (run : Run) (network : List ℕ) → IsNetworked run.asked → Consumes run.source.before run.source.now network → IsUndivided network
    → Wrote run [] → Failed run.source
    → Called run [] → Ends run ReadFault
network_fails run network networked taken cut wrote rose called = (rose, network, [], taken, wrote, inl (networked, inl (cut, refl)), called)

-- Commands that stand alone

-- a fact of the whole input
whole_told : (P : List ℕ → Type 0) (source : Passage (List ℕ)) (given : List ℕ) (ended : Bool) → Consumes source.before source.now given
    → (ended ≡ true → IsAtEnd source.now)
    → ((more : List ℕ) → GoesOn ended more → P (given ++ more)) → IfSome source.before P
whole_told P source given ended taken at_end told = go source.before source.now taken at_end
  where
    go : (before now : Option (List ℕ)) → Consumes before now given → (ended ≡ true → IsAtEnd now) → IfSome before P
    go None now taken at_end = tt
    go (Some input) None taken at_end = absurd taken
    go (Some input) (Some left) taken at_end = subst P (sym taken) (told left at_end)

-- what it answers is expected for its word
alone_answers : (asked : CommandLine) (alone : Alone) (input : List ℕ) (status : Status) (due : List ℕ) → IsAlone asked alone
    → (alone_meaning alone).answers input [] status due → Answer asked input [] status due
alone_answers asked alone input Usage due is has = absurd ((facts_of alone).no_usage input due has)
alone_answers asked alone input BadNetwork due is has = inr (alone, is, has)
alone_answers asked alone input TooLarge due is has = inr (inr (inl (alone, is, has)))
alone_answers asked alone input status due is has = inr (inl (alone, is, has))

-- of the whole input
told_alone : (asked : CommandLine) (alone : Alone) (source : Passage (List ℕ)) (given octets : List ℕ) (ended : Bool) (status : Status) → IsAlone asked alone
    → Consumes source.before source.now given
    → (ended ≡ true → IsAtEnd source.now) → IsDue (alone_meaning alone) given ended [] status octets
    → IfSome source.before (λ input. Answer asked input [] status octets)
told_alone asked alone source given octets ended status is taken at_end due =
    whole_told (λ input. Answer asked input [] status octets) source given ended taken at_end
    (λ more on. alone_answers asked alone (given ++ more) status octets is (due more on))

first_alone : (asked : CommandLine) (alone : Alone) (source : Passage (List ℕ)) (given octets : List ℕ) (ended : Bool) → IsAlone asked alone
    → Consumes source.before source.now given
    → (ended ≡ true → IsAtEnd source.now) → IsFirst (alone_meaning alone) given ended [] octets
    → IfSome source.before (λ input. FirstAnswer asked input [] octets)
first_alone asked alone source given octets ended is taken at_end due =
    whole_told (λ input. FirstAnswer asked input [] octets) source given ended taken at_end (λ more on. inr (inr (inl (alone, is, due more on))))

-- a part of what is expected
part_alone : (asked : CommandLine) (alone : Alone) (source : Passage (List ℕ)) (given octets : List ℕ) (ended : Bool) → IsAlone asked alone
    → Consumes source.before source.now given
    → (ended ≡ true → IsAtEnd source.now) → After (alone_meaning alone) given ended [] WriteFault octets
    → IfSome source.before (λ input. PartAnswer asked input [] octets)
part_alone asked alone source given octets ended is taken at_end at =
    subst (λ (o : List ℕ). IfSome source.before (λ input. PartAnswer asked input [] o)) (sym at.2)
    (elim at.3 [
      | inl due ↦ part_told asked source.before due.0 at.0 at.1 (told_alone asked alone source given at.0 ended due.0 is taken at_end due.1)
      | inr due ↦ part_first asked source.before at.0 at.1 (first_alone asked alone source given at.0 ended is taken at_end due)
    ])

-- a refused record ends what was taken except for the rest of its piece
past_alone : (run : Run) (alone : Alone) (given : List ℕ) (status : Status) → IsAlone run.asked alone → Consumes run.source.before run.source.now given
    → StopsNear (alone_meaning alone) status given
    → ((front : List ℕ) → (alone_meaning alone).refused status front → EndsRefusedAs run.asked front status) → IfSome run.source.before (TakesPiece run status)
past_alone run alone given status is taken at means = go run.source.before run.source.now taken refl
  where
    go : (before now : Option (List ℕ)) → Consumes before now given → now ≡ run.source.now → IfSome before (TakesPiece run status)
    go None now taken ends = tt
    go (Some input) None taken ends = absurd taken
    go (Some input) (Some left) taken ends = record {
      front = at.front;
      past = at.past;
      left = left;
      all = taken ∙ ap (λ l. l ++ left) at.all ∙ append_assoc at.front at.past left;
      now = sym ends;
      piece = at.piece;
      refused = means at.front at.refused;
    }

-- how a run of it ends
alone_done : (M : Meaning) (taken : List ℕ) (ended : Bool) (octets : List ℕ) → After M taken ended [] Done octets → IsDue M taken ended [] Done octets
alone_done M taken ended octets at more on = subst (λ (l : List ℕ). M.answers l [] Done octets) (sym (ap (λ l. taken ++ l) (on at.0) ∙ append-nil taken)) at.1

-- a command that stands alone may answer what is expected
may_alone : (alone : Alone) (given octets : List ℕ) (ended : Bool) (status : Status) → IsDue (alone_meaning alone) given ended [] status octets
    → MayAnswer alone status
may_alone alone given octets ended status due = (facts_of alone).may (given ++ []) status octets (due [] (λ e. refl))

ends_alone : (asked : CommandLine) (alone : Alone) (source sink : Passage (List ℕ)) (ended : Bool) (status : Status) → IsAlone asked alone
    → Passes (alone_meaning alone) source sink [] false ended [] status → EndsUnlinked asked source sink status
ends_alone asked alone source sink ended Done is at link same = (
  (
    inr (alone, is, may_alone alone at.given at.octets ended Done (alone_done (alone_meaning alone) at.given ended at.octets at.stands)),
    at.octets,
    [],
    at.wrote,
    uncalled link same,
    told_alone asked alone source at.given at.octets ended Done is at.taken at.at_end (alone_done (alone_meaning alone) at.given ended at.octets at.stands),
  ),
  at.at_end at.stands.0,
)
ends_alone asked alone source sink ended BadNetwork is at link same =
    (inr (alone, is, may_alone alone at.given at.octets ended BadNetwork at.stands), at.octets, [], at.wrote, uncalled link same, told_alone asked alone source at.given at.octets ended BadNetwork is at.taken at.at_end at.stands)
ends_alone asked alone source sink ended TooLarge is at link same =
    (inr (alone, is, may_alone alone at.given at.octets ended TooLarge at.stands), at.octets, [], at.wrote, uncalled link same, told_alone asked alone source at.given at.octets ended TooLarge is at.taken at.at_end at.stands)
ends_alone asked alone source sink ended BadCalib is at link same = (
  (inr (alone, is, may_alone alone at.given at.octets ended BadCalib at.stands.1), at.octets, [], at.wrote, uncalled link same, told_alone asked alone source at.given at.octets ended BadCalib is at.taken at.at_end at.stands.1),
  (alone, is, may_alone alone at.given at.octets ended BadCalib at.stands.1),
  at.at_end at.stands.0,
)
ends_alone asked alone source sink ended BadTrace is at link same = (
  (inr (alone, is, may_alone alone at.given at.octets ended BadTrace at.stands.0), at.octets, [], at.wrote, uncalled link same, told_alone asked alone source at.given at.octets ended BadTrace is at.taken at.at_end at.stands.0),
  past_alone (record { asked = asked; source = source; sink = sink; link = link }) alone at.given BadTrace is at.taken at.stands.1 (λ front has. inr (alone, is, has)),
)
ends_alone asked alone source sink ended Broken is at link same = (
  (inr (alone, is, may_alone alone at.given at.octets ended Broken at.stands.0), at.octets, [], at.wrote, uncalled link same, told_alone asked alone source at.given at.octets ended Broken is at.taken at.at_end at.stands.0),
  past_alone (record { asked = asked; source = source; sink = sink; link = link }) alone at.given Broken is at.taken at.stands.1 (λ front has. inr (alone, is, has)),
  inr (alone, is, may_alone alone at.given at.octets ended Broken at.stands.0),
)
ends_alone asked alone source sink ended BadCapture is at link same = (
  (inr (alone, is, may_alone alone at.given at.octets ended BadCapture at.stands.0), at.octets, [], at.wrote, uncalled link same, told_alone asked alone source at.given at.octets ended BadCapture is at.taken at.at_end at.stands.0),
  past_alone (record { asked = asked; source = source; sink = sink; link = link }) alone at.given BadCapture is at.taken at.stands.1 (λ front has. (alone, is, has)),
  (alone, is, may_alone alone at.given at.octets ended BadCapture at.stands.0),
)
ends_alone asked alone source sink ended ReadFault is at link same =
    (at.read.failed refl, at.given, at.octets, at.taken, at.wrote, inr (alone, is, at.stands.2), uncalled link same)
ends_alone asked alone source sink ended WriteFault is at link same =
    (at.write.failed refl, at.octets, [], at.wrote, uncalled link same, part_alone asked alone source at.given at.octets ended is at.taken at.at_end at.stands)
ends_alone asked alone source sink ended OutOfMemory is at link same =
    (at.octets, [], at.wrote, uncalled link same, first_alone asked alone source at.given at.octets ended is at.taken at.at_end at.stands)
ends_alone asked alone source sink ended Usage is at link same = absurd ((facts_of alone).no_usage (at.given ++ []) at.octets (at.stands [] (λ e. refl)))
ends_alone asked alone source sink ended LinkFault is at link same = absurd ((facts_of alone).unlinked at.given at.octets at.stands.1)

pub alone_ends : (asked : CommandLine) (alone : Alone) (source sink : Passage (List ℕ)) (status : Status) → IsAlone asked alone
    → PassesAll (alone_meaning alone) source sink status
    → EndsUnlinked asked source sink status
alone_ends asked alone source sink status is at = ends_alone asked alone source sink at.0 status is at.1
