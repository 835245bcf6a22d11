-- The record lines of a node's inputs, and what a replay of them writes.
use Rattle.std.proofs.Common.{◌≡◌, ◌∙◌, refl, ap, sym, subst, ℕ, ◌+◌, ◌==◌, ◌&&◌, not, Bool, true, false, if◌then◌else◌, List, [], ◌∷◌, ◌++◌, map, reverse, length, length-append, Result, Ok, Err, arith}
use Rattle.std.specs.Prelude.{nat_lt}
use Rattle.std.specs.List.{AllByRecursion, list_all}
use Rattle.std.proofs.lemmas.Bool.{and_parts, not-true}
use Rattle.std.proofs.lemmas.List.{map-append, reverse-append, reverse-reverse}
use Rattle.wrp_base.specs.declared.fault.TraceFault.{TraceFault}
use Rattle.wrp_base.specs.declared.fault.TraceFault.TheVariants.{Fields}
use Rattle.wrp_base.specs.Lines.{parts_of}
use Rattle.wrp_base.proofs.Lists.{all_append}
use Rattle.wrp_node.proofs.OneRun.{before_step}
use Rattle.wrp_node.specs.declared.interface.Input.{Input}
use Rattle.wrp_node.specs.NodeAt.{Taken, servo_setting_of}
use Rattle.wrp_node.specs.NodeRun.{AllSaid, node_after, outputs_at}
use Rattle.wrp_node.specs.OneRun.{answers_by}
use Rattle.wrp_recorded_laws.specs.Recorded.{IsRecorded}
use Rattle.wrp_servo.specs.Servo.{AllAnswered}
use Rattle.wrp_trace.specs.Inputs.{input_of, read_of}
use Rattle.wrp_trace.specs.Printing.{line_of}
use Rattle.wrp_fields.specs.Reading.{is_plain, is_plain_octet}
use Rattle.wrp_trace.specs.LineSetting.{LineSetting}
use Rattle.wrp_replay.specs.DownLaw.{law_at, node_setting_at}
use Rattle.wrp_records.specs.Lines.{HasNoFeed, IsWhole, content_of, without_return}
use Rattle.wrp_replay.specs.NodeText.{Writes, output_lines}
use Rattle.wrp_replay.specs.Replays.{AreInputs}
use Rattle.wrp_records.specs.Stream.{IsWithin}
use Rattle.wrp_records.proofs.LineEnds.{content_whole, whole_within}
use Rattle.wrp_replay.proofs.OneReplay.{one_more}

-- the record lines of these inputs, which are newest first, and what they say
abbrev pub record_of : LineSetting → Taken → List ℕ
record_of site t = line_of site t.input ++ 10 ∷ []

abbrev pub records_of : LineSetting → List Taken → List (List ℕ)
records_of site [] = []
records_of site (t ∷ before) = records_of site before ++ record_of site t ∷ []

abbrev pub said_of : LineSetting → List Taken → List (List ℕ)
said_of site [] = []
said_of site (t ∷ before) = said_of site before ++ line_of site t.input ∷ []

abbrev pub AllRecorded : LineSetting → List Taken → Type 0
AllRecorded site inputs = AllByRecursion (λ (t : Taken). IsRecorded site t.input) inputs

pub all_turned : {A : Type 0} (P : A → Type 0) (xs : List A) → AllByRecursion P xs → AllByRecursion P (reverse xs)
all_turned P [] h = tt
all_turned P (x ∷ xs) h = subst (AllByRecursion P) (sym (reverse-append (x ∷ []) xs)) (all_append P (reverse xs) (x ∷ []) (all_turned P xs h.1) (h.0, tt))

-- A line that is read is plain

plain_by : (b : Bool) (read : Result Input TraceFault) (x : Input) → (if b then read else Err Fields) ≡ Ok x → b ≡ true
plain_by true read x is = refl
plain_by false read x is = absurd (cc)

plain_of : (site : LineSetting) (line : List ℕ) (x : Input) → read_of site line ≡ Ok x → is_plain line ≡ true
plain_of site line x is = plain_by (is_plain line) (input_of site (parts_of line)) x is

octets_of : (line : List ℕ) → is_plain line ≡ true → list_all is_plain_octet line ≡ true
octets_of [] is = absurd (cc)
octets_of (c ∷ cs) is = is

abbrev pub NoReturn : ℕ → Type 0
NoReturn c = (c == 13) ≡ false

-- if all octets pass a test, they have what each octet that passes has
pub no_feeds : (test : ℕ → Bool) → ((c : ℕ) → test c ≡ true → (c == 10) ≡ false) → (cs : List ℕ) → list_all test cs ≡ true → HasNoFeed cs
no_feeds test h [] is = tt
no_feeds test h (c ∷ cs) is =
    let both = and_parts (test c) (list_all test cs) is in
    (h c both.0, no_feeds test h cs both.1)

pub no_returns : (test : ℕ → Bool) → ((c : ℕ) → test c ≡ true → NoReturn c) → (cs : List ℕ) → list_all test cs ≡ true → AllByRecursion NoReturn cs
no_returns test h [] is = tt
no_returns test h (c ∷ cs) is =
    let both = and_parts (test c) (list_all test cs) is in
    (h c both.0, no_returns test h cs both.1)

octet_plain : (c : ℕ) → is_plain_octet c ≡ true → NoReturn c × ((c == 10) ≡ false)
octet_plain c is =
    let a = and_parts (not (c == 34)) (not (c == 13) && (not (c == 10) && nat_lt c 128)) is in
    let b = and_parts (not (c == 13)) (not (c == 10) && nat_lt c 128) a.1 in
    let d = and_parts (not (c == 10)) (nat_lt c 128) b.1 in
    (not-true (c == 13) b.0, not-true (c == 10) d.0)

kept : (cs : List ℕ) → AllByRecursion NoReturn cs → without_return cs ≡ cs
kept [] h = refl
kept (c ∷ cs) h = rw h.0 refl

-- what a line without CR says, once it has its LF, is the line
pub content_clean : (line : List ℕ) → AllByRecursion NoReturn line → content_of (line ++ 10 ∷ []) ≡ line
content_clean line h = content_whole line ∙ ap reverse (kept (reverse line) (all_turned NoReturn line h)) ∙ reverse-reverse line

content_plain : (line : List ℕ) → is_plain line ≡ true → content_of (line ++ 10 ∷ []) ≡ line
content_plain line is = content_clean line (no_returns is_plain_octet (λ c plain. (octet_plain c plain).0) line (octets_of line is))

-- The record lines

record_whole : (site : LineSetting) (t : Taken) → IsRecorded site t.input → IsWhole (record_of site t)
record_whole site t recorded =
    record { front = line_of site t.input; is = refl; plain = no_feeds is_plain_octet (λ c plain. (octet_plain c plain).1) (line_of site t.input) (octets_of (line_of site t.input) (plain_of site (line_of site t.input) t.input recorded.reads)) }

pub whole_records : (site : LineSetting) (inputs : List Taken) → AllRecorded site inputs → AllByRecursion IsWhole (records_of site inputs)
whole_records site [] h = tt
whole_records site (t ∷ before) h =
    all_append IsWhole (records_of site before) (record_of site t ∷ []) (whole_records site before h.1) (record_whole site t h.0, tt)

record_within : (site : LineSetting) (t : Taken) → IsRecorded site t.input → IsWithin (record_of site t)
record_within site t recorded =
    let few = recorded.size in
    let size : length (record_of site t) ≡ length (line_of site t.input) + 1 = length-append (line_of site t.input) (10 ∷ []) in
    whole_within (record_of site t) (record_whole site t recorded) (omega (arith, few, size))

pub within_records : (site : LineSetting) (inputs : List Taken) → AllRecorded site inputs → AllByRecursion IsWithin (records_of site inputs)
within_records site [] h = tt
within_records site (t ∷ before) h =
    all_append IsWithin (records_of site before) (record_of site t ∷ []) (within_records site before h.1) (record_within site t h.0, tt)

pub said_records : (site : LineSetting) (inputs : List Taken) → AllRecorded site inputs → map content_of (records_of site inputs) ≡ said_of site inputs
said_records site [] h = refl
said_records site (t ∷ before) h =
    map-append content_of (records_of site before) (record_of site t ∷ [])
    ∙ ap (λ (said : List (List ℕ)). said ++ content_of (record_of site t) ∷ []) (said_records site before h.1)
    ∙ ap (λ (said : List ℕ). said_of site before ++ said ∷ []) (content_plain (line_of site t.input) (plain_of site (line_of site t.input) t.input h.0.reads))

pub are_inputs : (site : LineSetting) (inputs : List Taken) → AllRecorded site inputs → AreInputs site (said_of site inputs) inputs
are_inputs site [] h = refl
are_inputs site (t ∷ before) h = one_more site (said_of site before) before (line_of site t.input) t (are_inputs site before h.1) h.0.reads

-- What the run over them writes

abbrev pub written : LineSetting → List Taken → List ℕ
written site [] = []
written site (t ∷ before) =
    written site before ++ output_lines site (node_after (node_setting_at site) (t ∷ before)).ticks (outputs_at (node_setting_at site) before t)

pub writes : (site : LineSetting) (inputs : List Taken) → AllSaid inputs
    → AllAnswered (answers_by (law_at site)) (servo_setting_of (node_setting_at site)) (node_after (node_setting_at site) inputs).calls
    → Writes site inputs (written site inputs)
writes site [] said answered = refl
writes site (t ∷ before) said answered =
    let earlier = before_step (law_at site) (node_setting_at site) t (node_after (node_setting_at site) before) answered in
    (written site before, outputs_at (node_setting_at site) before t, writes site before said.1 earlier, record { said = said; answered = answered; outputs = refl }, refl)
