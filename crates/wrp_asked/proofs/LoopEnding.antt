-- How a run over a link ends, said of the words and the whole input.
use Rattle.std.proofs.Common.{◌≡◌, ◌∙◌, ◌⊎◌, inl, inr, arith, true, Bool, ℕ, Option, None, Some, IfSome, List, [], ◌++◌, append-nil, ap, map, option_map, refl, subst, sym}
use Rattle.std.specs.Io.KnownBytes.{Consumes, IsAtEnd}
use Rattle.wrp_base.specs.declared.fault.ConfFault.{ConfFault}
use Rattle.wrp_base.specs.declared.fault.ConfFault.TheVariants.{Fault, Memory}
use Rattle.wrp_course.specs.Setting.{Setting}
use Rattle.wrp_io.specs.declared.link.LinkCall.{LinkCall}
use Rattle.wrp_records.specs.declared.status.Status.{Status}
use Rattle.wrp_records.specs.declared.status.Status.TheVariants.{Done, BadNetwork, ReadFault, WriteFault, LinkFault, TooLarge, OutOfMemory}
use Rattle.wrp_records.specs.Engine.{RefusesNetwork}
use Rattle.wrp_records.specs.Lines.{content_of, lines_of}
use Rattle.wrp_records.specs.Passages.{FailsBy, IsSound, Passage}
use Rattle.wrp_records.specs.Reader.{ReaderAt}
use Rattle.wrp_records.specs.RecordsAnswer.{BreaksOff, IsWholly}
use Rattle.wrp_records.specs.Stream.{Handles}
use Rattle.wrp_commands.specs.Request.{CommandLine}
use Rattle.wrp_asked.specs.Answer.{Answer, FirstAnswer, LoopBroken, PartAnswer}
use Rattle.wrp_asked.specs.Ends.{Ends, EndsUnlinked, begun_at}
use Rattle.wrp_asked.specs.Input.{behind_separator, network_text}
use Rattle.wrp_loop.specs.LoopPasses.{LoopPasses, RanDue, RanSo}
use Rattle.wrp_loop.specs.Loops.{LoopBreaks, loop_of}
use Rattle.wrp_scene_records.specs.Scenarios.{SimAccepts}
use Rattle.wrp_asked.specs.Tasks.{Task, Loop, AsksFor}
use Rattle.wrp_asked.proofs.Asking.{TookNetwork, lines_told, networked_of, records_end}

-- A link that is not called

-- a link that has reported nothing, and has not failed
abbrev still : Passage (List LinkCall)
still = record { before = None; now = None; faults = 0; faults_now = 0 }

-- a run that calls no link does not end with a fault of one
pub never_linked : (asked : CommandLine) (source sink : Passage (List ℕ)) → EndsUnlinked asked source sink LinkFault → ⊥
never_linked asked source sink ends = elim (ends still refl).0 [
  | inl rose ↦ omega (arith, rose)
  | inr greatest ↦ let none = greatest.0 in omega (arith, none)
]

pub unlinked : (asked : CommandLine) (source sink : Passage (List ℕ)) (status : Status) (link : Passage (List LinkCall)) → EndsUnlinked asked source sink status
    → IsSound link → FailsBy LinkFault status link
unlinked asked source sink status link ends sound = record {
  failed = λ is. absurd (never_linked asked source sink (subst (EndsUnlinked asked source sink) is ends));
  sound = λ other. sound;
}

-- no other status than these reports a network that is refused
pub refuses_other : (fault : ConfFault) (given other : Status) (before now : Option (List ℕ)) → RefusesNetwork fault given before now
    → (OutOfMemory ≡ other → ⊥) → (BadNetwork ≡ other → ⊥) → (WriteFault ≡ other → ⊥) → given ≡ other → ⊥
refuses_other (Fault code place) given other before now (inl memory) a b c is = a (sym memory.0 ∙ is)
refuses_other (Fault code place) given other before now (inr (inl all)) a b c is = b (sym all.0 ∙ is)
refuses_other (Fault code place) given other before now (inr (inr cut)) a b c is = c (sym cut.0 ∙ is)
refuses_other (Memory e) given other before now memory a b c is = a (sym memory.0 ∙ is)

memory_read : OutOfMemory ≡ ReadFault → ⊥
memory_read e = cc

network_read : BadNetwork ≡ ReadFault → ⊥
network_read e = cc

write_read : WriteFault ≡ ReadFault → ⊥
write_read e = cc

memory_link : OutOfMemory ≡ LinkFault → ⊥
memory_link e = cc

network_link : BadNetwork ≡ LinkFault → ⊥
network_link e = cc

write_link : WriteFault ≡ LinkFault → ⊥
write_link e = cc

pub refused_unread : (fault : ConfFault) (given : Status) (before now : Option (List ℕ)) (source : Passage (List ℕ)) → RefusesNetwork fault given before now
    → IsSound source → FailsBy ReadFault given source
refused_unread fault given before now source how sound =
    record { failed = λ is. absurd (refuses_other fault given ReadFault before now how memory_read network_read write_read is); sound = λ other. sound }

pub refused_unlinked : (fault : ConfFault) (given : Status) (before now : Option (List ℕ)) (link : Passage (List LinkCall))
    → RefusesNetwork fault given before now → IsSound link → FailsBy LinkFault given link
refused_unlinked fault given before now link how sound =
    record { failed = λ is. absurd (refuses_other fault given LinkFault before now how memory_link network_link write_link is); sound = λ other. sound }

-- What is said of all records

-- what holds of all record lines, if the input ended, in the whole input
both_told : (P : List (List ℕ) → Type 0) (Q : List ℕ → Type 0) (asked : CommandLine) (first : Option (List ℕ)) (source : Passage (List ℕ)) (text given : List ℕ)
    (r : ReaderAt) (ended : Bool) (task : Task)
    → TookNetwork asked first source.before text r task → Consumes source.before source.now given → (ended ≡ true → IsAtEnd source.now) → ended ≡ true
    → P (lines_of (r.rest ++ given))
    → ((input : List ℕ) → AsksFor asked (network_text input) task → P (behind_separator (lines_of input)) → Q input) → IfSome first Q
both_told P Q asked None source text given r ended task net taken at_end is here means = tt
both_told P Q asked (Some input) source text given r ended task net taken at_end is here means =
    let has = lines_told P asked (Some input) source text given r ended task net taken at_end
    (λ more on. subst (λ (l : List ℕ). P (lines_of l)) (sym (ap (λ m. (r.rest ++ given) ++ m) (on is) ∙ append-nil (r.rest ++ given))) here) in
    means input has.0 has.1

-- all lines are the lines of a scenario, and the network ran so after them
abbrev RanAt : Setting → ℕ → List LinkCall → Status → List ℕ → List (List ℕ) → Type 0
RanAt s seed calls status text lines = Handles (SimAccepts s) lines [] × RanDue s seed (map content_of lines) calls status text

done_at : (s : Setting) (seed : ℕ) (calls : List LinkCall) (text : List ℕ) (lines : List (List ℕ)) → RanAt s seed calls Done text lines
    → IsWholly (loop_of s seed calls) lines text
done_at s seed calls text lines h =
    record { written = []; last = text; handled = record { sizes = h.0.sizes; count = h.0.count; accepted = h.0.accepted }; closed = h.1; is = refl }

broken_at : (s : Setting) (seed : ℕ) (calls : List LinkCall) (status : Status) (text : List ℕ) (lines : List (List ℕ)) → Handles (SimAccepts s) lines []
    → LoopBreaks s seed calls (map content_of lines) status text
    → BreaksOff (loop_of s seed calls) status lines text
broken_at s seed calls status text lines handled broken =
    record { written = []; last = text; handled = record { sizes = handled.sizes; count = handled.count; accepted = handled.accepted }; broken = broken; is = refl }

-- what is expected then
answer_at : (asked : CommandLine) (input : List ℕ) (s : Setting) (seed : ℕ) (calls : List LinkCall) (status : Status) (text : List ℕ)
    → AsksFor asked (network_text input) (Loop s seed)
    → RanAt s seed calls status text (behind_separator (lines_of input))
    → ((own : Status) × Answer asked input calls own text) ⊎ FirstAnswer asked input calls text
answer_at asked input s seed calls Done text asks h = inl (Done, inr (inr (s, seed, asks, done_at s seed calls text (behind_separator (lines_of input)) h)))
answer_at asked input s seed calls TooLarge text asks h =
    inl (TooLarge, inr (inr (inr (s, seed, asks, broken_at s seed calls TooLarge text (behind_separator (lines_of input)) h.0 h.1))))
answer_at asked input s seed calls OutOfMemory text asks (handled, inl none) = inr (inl (none.1, none.0))
answer_at asked input s seed calls OutOfMemory text asks (handled, inr broken) =
    inr (inr (inr (inr (s, seed, asks, broken_at s seed calls OutOfMemory text (behind_separator (lines_of input)) handled broken))))
answer_at asked input s seed calls _ text asks h = absurd h.1

first_at : (asked : CommandLine) (input : List ℕ) (s : Setting) (seed : ℕ) (calls : List LinkCall) (text : List ℕ)
    → AsksFor asked (network_text input) (Loop s seed)
    → RanAt s seed calls OutOfMemory text (behind_separator (lines_of input)) → FirstAnswer asked input calls text
first_at asked input s seed calls text asks (handled, inl none) = inl (none.1, none.0)
first_at asked input s seed calls text asks (handled, inr broken) =
    inr (inr (inr (s, seed, asks, broken_at s seed calls OutOfMemory text (behind_separator (lines_of input)) handled broken)))

-- all lines are the lines of a scenario, and the sink failed after them
abbrev WroteAt : Setting → ℕ → List LinkCall → List ℕ → List (List ℕ) → Type 0
WroteAt s seed calls text lines = Handles (SimAccepts s) lines [] × RanSo s seed (map content_of lines) calls WriteFault text

part_at : (asked : CommandLine) (input : List ℕ) (s : Setting) (seed : ℕ) (calls : List LinkCall) (text : List ℕ)
    → AsksFor asked (network_text input) (Loop s seed)
    → WroteAt s seed calls text (behind_separator (lines_of input)) → PartAnswer asked input calls text
part_at asked input s seed calls text asks (handled, inl none) = ([], 0, none.1, inr (inl (refl, none.0)))
part_at asked input s seed calls text asks (handled, inr so) = (so.1, so.2, so.3, answer_at asked input s seed calls so.0 so.1 asks (handled, so.4))

-- How it ends

-- without a call, what a link reports stays the same
kept : (link : Passage (List LinkCall)) (calls : List LinkCall) → link.now ≡ option_map (λ told. told ++ calls) link.before → calls ≡ []
    → link.now ≡ link.before
kept link calls called none =
    called ∙ ap (λ (own : List LinkCall). option_map (λ told. told ++ own) link.before) none ∙ same link.before
  where
    same : (told : Option (List LinkCall)) → option_map (λ told. told ++ []) told ≡ told
    same None = refl
    same (Some calls) = ap Some (append-nil calls)

-- the network ran
ran_ends : (asked : CommandLine) (first : Option (List ℕ)) (source sink : Passage (List ℕ)) (link : Passage (List LinkCall)) (text : List ℕ) (r : ReaderAt)
    (ended : Bool) (s : Setting) (seed : ℕ) (status : Status)
    → TookNetwork asked first source.before text r (Loop s seed) → (at : LoopPasses s seed source sink link r.rest r.ended ended status) → ended ≡ true
    → Handles (SimAccepts s) (lines_of (r.rest ++ at.given)) []
    → RanSo s seed (map content_of (lines_of (r.rest ++ at.given))) at.calls status at.octets
    → Ends (record { asked = asked; source = begun_at first source; sink = sink; link = link }) status
ran_ends asked first source sink link text r ended s seed Done net at is handled so = (
  (
    inl (networked_of asked text (Loop s seed) net.asks),
    at.octets,
    at.calls,
    at.wrote,
    at.called,
    both_told (RanAt s seed at.calls Done at.octets) (λ input. Answer asked input at.calls Done at.octets) asked first source text at.given r ended
        (Loop s seed) net at.taken at.at_end is (handled, so)
        (λ input asks h. inr (inr (s, seed, asks, done_at s seed at.calls at.octets (behind_separator (lines_of input)) h))),
  ),
  at.at_end is,
)
ran_ends asked first source sink link text r ended s seed TooLarge net at is handled so = (
  inl (networked_of asked text (Loop s seed) net.asks),
  at.octets,
  at.calls,
  at.wrote,
  at.called,
  both_told (RanAt s seed at.calls TooLarge at.octets) (λ input. Answer asked input at.calls TooLarge at.octets) asked first source text at.given r ended
      (Loop s seed) net at.taken at.at_end is (handled, so)
      (λ input asks h. inr (inr (inr (s, seed, asks, broken_at s seed at.calls TooLarge at.octets (behind_separator (lines_of input)) h.0 h.1)))),
)
ran_ends asked first source sink link text r ended s seed OutOfMemory net at is handled so = (
  at.octets,
  at.calls,
  at.wrote,
  at.called,
  both_told (RanAt s seed at.calls OutOfMemory at.octets) (λ input. FirstAnswer asked input at.calls at.octets) asked first source text at.given r ended
      (Loop s seed) net at.taken at.at_end is (handled, so)
      (λ input asks h. first_at asked input s seed at.calls at.octets asks h),
)
ran_ends asked first source sink link text r ended s seed LinkFault net at is handled so = (
  at.linked.failed refl,
  (seed, net.asks.1),
  at.at_end is,
  at.octets,
  at.calls,
  at.wrote,
  at.called,
  both_told (λ lines. Handles (SimAccepts s) lines [] × LoopBreaks s seed at.calls (map content_of lines) LinkFault at.octets)
      (λ input. LoopBroken asked input at.calls LinkFault at.octets) asked first source text at.given r ended
      (Loop s seed) net at.taken at.at_end is (handled, so)
      (λ input asks h. (s, seed, asks, broken_at s seed at.calls LinkFault at.octets (behind_separator (lines_of input)) h.0 h.1)),
)
ran_ends asked first source sink link text r ended s seed WriteFault net at is handled so = (
  at.write.failed refl,
  at.octets,
  at.calls,
  at.wrote,
  at.called,
  both_told (WroteAt s seed at.calls at.octets) (λ input. PartAnswer asked input at.calls at.octets) asked first source text at.given r ended
      (Loop s seed) net at.taken at.at_end is (handled, so)
      (λ input asks h. part_at asked input s seed at.calls at.octets asks h),
)
ran_ends asked first source sink link text r ended s seed _ net at is handled so = absurd so

pub loop_ends : (asked : CommandLine) (first : Option (List ℕ)) (source sink : Passage (List ℕ)) (link : Passage (List LinkCall)) (text : List ℕ) (r : ReaderAt)
    (ended : Bool) (s : Setting) (seed : ℕ) (status : Status)
    → TookNetwork asked first source.before text r (Loop s seed) → LoopPasses s seed source sink link r.rest r.ended ended status
    → Ends (record { asked = asked; source = begun_at first source; sink = sink; link = link }) status
loop_ends asked first source sink link text r ended s seed status net at = elim at.stands [
  | inl stopped ↦
      records_end asked first source sink text r ended (Loop s seed) status net
      (record {
        given = at.given;
        octets = at.octets;
        taken = at.taken;
        wrote = at.wrote;
        stands = stopped.1;
        at_end = at.at_end;
        stays = at.stays;
        read = at.read;
        write = at.write;
      }) link (kept link at.calls at.called stopped.0)
  | inr ran ↦ ran_ends asked first source sink link text r ended s seed status net at ran.0 ran.1 ran.2
]
