-- Round by round a loop goes on over a link that answers by the number of the call, until no event comes any more, the number of the
-- next event is too great, or a call fails.
use Rattle.std.proofs.Common.{◌≡◌, ◌⊎◌, inl, inr, refl, sym, subst, ℕ, zero, suc, ℤ, ◌+◌, ◌<◌, ◌≤◌, List, [], ◌∷◌, ◌++◌, length, Option, None, Some, Result, arith}
use Rattle.std.specs.List.{AllByRecursion}
use Rattle.std.proofs.lemmas.Bool.{cases_lt}
use Rattle.arrayvec.specs.ArrayVec.{ArrayVec}
use Rattle.wrp_network_world.specs.NetworkSetting.{answers_in, laws_in}
use Rattle.wrp_base.proofs.Lists.{all_append}
use Rattle.wrp_base.specs.declared.message.PtpMsg.{PtpMsg}
use Rattle.wrp_base.specs.declared.time.Raw.{Raw}
use Rattle.wrp_course.specs.declared.event.Event.{Event}
use Rattle.wrp_course.specs.declared.event.Event.TheVariants.{Arrive, Deliver, Noise}
use Rattle.wrp_course.specs.Run.{AllSaid, Happened, IsAnswered, IsSaid, world_after}
use Rattle.wrp_due_laws.proofs.Happening.{event_answered, event_said}
use Rattle.wrp_frame.specs.declared.fault.FrameFault.{FrameFault}
use Rattle.wrp_frame.specs.SentOctets.{octets_of}
use Rattle.wrp_io.specs.declared.link.LinkCall.{LinkCall}
use Rattle.wrp_loop.specs.Calls.{IsFrameCall, arrival_calls}
use Rattle.wrp_loop.specs.Datagrams.{Way, receiving_end, sending_end}
use Rattle.wrp_loop.specs.declared.fate.Fate.{Fate}
use Rattle.wrp_loop.specs.declared.fate.Fate.TheVariants.{Handed, Forged, Noisy}
use Rattle.wrp_loop.specs.LoopEnds.{IsOver, IsOverrun}
use Rattle.wrp_loop.specs.LoopRun.{Carried, ComesBetween, Dropped, FollowsFate, FrameArrives, Full, GivesNext, Goes, Going, Handles, HandlesAll, IsCounted, IsFull, HasRoom, IsPlain, IsRound, LoopAt, On, Plain, Plan, Round, events_at, happened, loop_start, noise_stamp, place, with_between, with_event, without_frame, world_at}
use Rattle.wrp_scene.specs.EventLimit.{event_limit}
use Rattle.wrp_sim.specs.Rules.{Next}
use Rattle.wrp_sim.specs.SimAt.{SimAt}
use Rattle.wrp_sim.specs.SimRun.{Gives}
use Rattle.wrp_answer_laws.specs.LinkAnswers.{FollowsFrom, GivesFrames, LinkAnswers}
use Rattle.wrp_answer_laws.proofs.DatagramFates.{has_fate}
use Rattle.wrp_answer_laws.proofs.LinkFollowing.{CutOff, Exchanged, exchanges, follows_on, number_after, number_later}
use Rattle.wrp_answer_laws.proofs.Simulating.{given}
use Rattle.wrp_answer_laws.proofs.SimulatorGives.{ComesTo, IsGiven, comes_to, is_given}

-- What is kept, event by event

-- what octets say is read in this way, each measurement has the answer of its link's law, and no event has too
-- great a number
pub record IsKept (x : Plan) (events : List Happened) : Type 0 where
  pub said : AllSaid events
  pub answered : IsAnswered (answers_in x.setting) x.setting (world_after x.setting events)
  pub below : length events < event_limit

-- one more event
record OneMore (x : Plan) (events : List Happened) (e : Event) : Type 0 where
  pub says : Result PtpMsg FrameFault
  pub answer : ℤ
  pub said : IsSaid e says
  pub kept : IsKept x (happened e says answer ∷ events)

one_more : (x : Plan) (events : List Happened) (e : Event) → IsKept x events → length events + 1 < event_limit → OneMore x events e
one_more x events e kept room =
    let says = event_said e in
    let due = event_answered (laws_in x.setting) x.setting (world_after x.setting events) says.0 e kept.answered in
    record {
      says = says.0;
      answer = due.0;
      said = says.1;
      kept = record { said = (says.1, kept.said); answered = due.1; below = omega (arith, room) };
    }

room_or_full : (l : LoopAt) → length (events_at l) < event_limit → HasRoom l ⊎ IsFull l
room_or_full l below = elim (cases_lt (length (events_at l) + 1) event_limit) [ inl room ↦ inl room | inr most ↦ inr (omega (arith, below, most)) ]

-- a loop led there, and then has at least so many events
record Leads (x : Plan) (least : ℕ) (next : Going) : Type 0 where
  pub kept : IsKept x (events_at (place next))
  pub many : least ≤ length (events_at (place next))

leads_less : (x : Plan) (least less : ℕ) (next : Going) → less ≤ least → Leads x least next → Leads x less next
leads_less x least less next fewer h = record { kept = h.kept; many = let many = h.many in omega (arith, fewer, many) }

-- Datagrams

between : (x : Plan) (l : LoopAt) (e : Event) → IsKept x (events_at l) →
    (next : Going) × ComesBetween l e next × Leads x (length (events_at l)) next
between x l e kept =
    elim (room_or_full l kept.below) [
      | inr full ↦ (Full l, inl (full, refl), record { kept = kept; many = omega arith })
      | inl room ↦
          let it : OneMore x (events_at l) e = one_more x (events_at l) e kept room in (
            On (with_between (happened e it.says it.answer) l),
            inr (room, it.says, it.answer, it.said, refl),
            record { kept = it.kept; many = omega arith },
          )
    ]

by_fate : (x : Plan) (way : Way) (frame : ArrayVec ℕ) (l : LoopAt) (fate : Fate) → IsKept x (events_at l) →
    (next : Going) × FollowsFate way frame l fate next × Leads x (length (events_at l)) next
by_fate x way frame l (Handed i) kept = between x l (Deliver i) kept
by_fate x way frame l Forged kept = (On (record l { forged = l.forged + 1 }), refl, record { kept = kept; many = omega arith })
by_fate x way frame l Noisy kept = between x l (Noise way.to.node way.to.port frame noise_stamp) kept

handles : (x : Plan) (way : Way) (frame : ArrayVec ℕ) (l : LoopAt) → IsKept x (events_at l) →
    (next : Going) × Handles x way frame l next × Leads x (length (events_at l)) next
handles x way frame l kept =
    let fate = has_fate x.setting (events_at l) way frame.items in
    let it = by_fate x way frame l fate.0 kept in
    (it.0, (fate.0, fate.1, it.1), it.2)

handles_all : (x : Plan) (way : Way) (got : List (ArrayVec ℕ)) (least : ℕ) (now : Going) → Leads x least now →
    (last : Going) × HandlesAll x way got now last × Leads x least last
handles_all x way [] least now h = (now, refl, h)
handles_all x way (frame ∷ got) least (Full l) h = (Full l, refl, h)
handles_all x way (frame ∷ got) least (On l) h =
    let one = handles x way frame l h.kept in
    let rest = handles_all x way got least one.0 (leads_less x (length (events_at l)) least one.0 h.many one.2) in
    (rest.0, (one.0, one.1, rest.1), rest.2)

-- Rounds

-- the call after the earlier ones fails, at the arrival that comes next
pub record Breaks (x : Plan) (link : LinkAnswers) (number : ℕ) (l : LoopAt) : Type 0 where
  pub frame : ℕ
  pub way : Way
  pub octets : List ℕ
  pub arrives : FrameArrives x l frame way octets
  pub off : CutOff link number (sending_end way) (receiving_end way) octets

abbrev pub BreaksAt : Plan → LinkAnswers → ℕ → Going → Type 0
BreaksAt x link number (On l) = Breaks x link number l
BreaksAt x link number (Full l) = ⊥

-- if the next call has this number, a loop ends here
abbrev pub EndsAt : Plan → LinkAnswers → ℕ → Going → Type 0
EndsAt x link number last = IsOver x last ⊎ (IsOverrun x last ⊎ BreaksAt x link number last)

-- a loop that goes on from here ends in this way, if the next call has this number
pub record GoesOn (x : Plan) (link : LinkAnswers) (number : ℕ) (now : Going) : Type 0 where
  pub rounds : List Round
  pub calls : List LinkCall
  pub last : Going
  pub goes : Goes x now rounds calls last
  pub kept : IsKept x (events_at (place last))
  pub follows : FollowsFrom link number calls
  pub frames : AllByRecursion IsFrameCall calls
  pub ends : EndsAt x link (number_after number calls) last

stops : (x : Plan) (link : LinkAnswers) (number : ℕ) (now : Going) → IsKept x (events_at (place now)) → EndsAt x link number now →
    GoesOn x link number now
stops x link number now kept ends =
    record { rounds = []; calls = []; last = now; goes = (refl, refl); kept = kept; follows = tt; frames = tt; ends = ends }

one_round : (x : Plan) (link : LinkAnswers) (number : ℕ) (l : LoopAt) (r : Round) (made : List LinkCall) (next : Going) →
    IsRound x l r made next → FollowsFrom link number made → AllByRecursion IsFrameCall made →
    GoesOn x link (number_after number made) next → GoesOn x link number (On l)
one_round x link number l r made next round follows frames rest = record {
  rounds = r ∷ rest.rounds;
  calls = made ++ rest.calls;
  last = rest.last;
  goes = (next, made, rest.calls, round, refl, rest.goes);
  kept = rest.kept;
  follows = follows_on link number made rest.calls follows rest.follows;
  frames = all_append IsFrameCall made rest.calls frames rest.frames;
  ends = subst (λ (n : ℕ). EndsAt x link n rest.last) (sym (number_later number made rest.calls)) rest.ends;
}

-- so the loop goes on from each place with more events
abbrev GoesOnLater : Plan → LinkAnswers → ℕ → Type 0
GoesOnLater x link least =
    (number : ℕ) (now : LoopAt) → least < length (events_at now) → IsKept x (events_at now) → GoesOn x link number (On now)

-- and if a frame is left out
abbrev GoesOnWithout : Plan → LinkAnswers → ℕ → LoopAt → Type 0
GoesOnWithout x link number l =
    (i : ℕ) (new : SimAt) → l.at.arrived.times ≡ new.arrived.times + 1 → GoesOn x link number (On (without_frame i new l))

later : (x : Plan) (link : LinkAnswers) (least number : ℕ) (next : Going) → GoesOnLater x link least → Leads x (suc least) next →
    GoesOn x link number next
later x link least number (On now) more h = more number now (let many = h.many in omega (arith, many)) h.kept
later x link least number (Full now) more h = stops x link number (Full now) h.kept (inr (inl tt))

-- an event that is not an arrival and hands no frame over
plain_round : (x : Plan) (link : LinkAnswers) (number : ℕ) (l : LoopAt) (e : Event) (new : SimAt) → IsKept x (events_at l) →
    GivesNext x l e new → IsPlain e → IsCounted e → GoesOnLater x link (length (events_at l)) → GoesOn x link number (On l)
plain_round x link number l e new kept gives plain counted more =
    elim (room_or_full l kept.below) [
      | inr full ↦
          stops x link number (On l) kept
          (inr (inl (record { next = record { event = e; at = new }; gives = gives; counted = counted; full = full })))
      | inl room ↦
          let it : OneMore x (events_at l) e = one_more x (events_at l) e kept room in
          let now : LoopAt = with_event (happened e it.says it.answer) new l in
          one_round x link number l Plain [] (On now) (
            refl,
            record {
              newest = happened e it.says it.answer;
              new = new;
              gives = gives;
              plain = plain;
              room = room;
              leads = refl;
            },
          ) tt tt (more number now (omega arith) it.kept)
    ]

-- a frame arrives, and all calls succeed
carried_round : (x : Plan) (link : LinkAnswers) (number : ℕ) (l : LoopAt) (i : ℕ) (way : Way) (octets : List ℕ) →
    IsKept x (events_at l) → (arrives : FrameArrives x l i way octets) →
    Exchanged link number (sending_end way) (receiving_end way) octets → GoesOnLater x link (length (events_at l)) →
    GoesOn x link number (On l)
carried_round x link number l i way octets kept arrives ex more =
    let e : Event = Arrive i arrives.raw in
    let it : OneMore x (events_at l) e = one_more x (events_at l) e kept arrives.room in
    let now : LoopAt = with_event (happened e it.says it.answer) arrives.new l in
    let all = handles_all x way ex.got (suc (length (events_at l))) (On now) (record { kept = it.kept; many = omega arith }) in
    let made : List LinkCall = arrival_calls (sending_end way) (receiving_end way) octets ex.got in
    one_round x link number l Carried made all.0
    (record {
      number = i;
      way = way;
      octets = octets;
      arrives = arrives;
      got = ex.got;
      few = ex.few;
      made = refl;
      says = it.says;
      answer = it.answer;
      handled = all.1;
    }) ex.follows ex.frames (later x link (length (events_at l)) (number_after number made) all.0 more all.2)

-- a frame arrives
arrival_round : (x : Plan) (link : LinkAnswers) → GivesFrames link → (number : ℕ) (l : LoopAt) (i : ℕ) (raw : Raw) (new : SimAt) →
    IsKept x (events_at l) → GivesNext x l (Arrive i raw) new → ComesTo x.setting (world_at x l) i →
    GoesOnLater x link (length (events_at l)) → GoesOn x link number (On l)
arrival_round x link frames number l i raw new kept gives to more =
    elim (room_or_full l kept.below) [
      | inr full ↦
          stops x link number (On l) kept
          (inr (inl (record { next = record { event = Arrive i raw; at = new }; gives = gives; counted = tt; full = full })))
      | inl room ↦
          let way : Way = record { link = to.frame.link; by = to.frame.by; to = to.to } in
          let octets : List ℕ = octets_of to.frame.sending.message in
          let arrives : FrameArrives x l i way octets = record {
            raw = raw;
            new = new;
            gives = gives;
            room = room;
            frame = to.frame;
            is = to.is;
            way_is = record { link_is = refl; by_is = refl; to_is = to.to_is; octets_are = refl };
          } in
          elim (exchanges link frames number (sending_end way) (receiving_end way) octets) [
            | inl ex ↦ carried_round x link number l i way octets kept arrives ex more
            | inr off ↦
                stops x link number (On l) kept
                (inr (inr (record { frame = i; way = way; octets = octets; arrives = arrives; off = off })))
          ]
    ]

-- whatever event comes
by_event : (x : Plan) (link : LinkAnswers) → GivesFrames link → (number : ℕ) (l : LoopAt) (e : Event) (new : SimAt) →
    IsKept x (events_at l) → GivesNext x l e new → IsGiven x.setting (world_at x l) l.at e new →
    GoesOnLater x link (length (events_at l)) → GoesOnWithout x link number l → GoesOn x link number (On l)
by_event x link frames number l (Deliver i) new kept gives is more without =
    one_round x link number l Dropped [] (On (without_frame i new l))
    (refl, record { number = i; new = new; gives = gives; leads = refl }) tt tt (without i new is)
by_event x link frames number l (Arrive i raw) new kept gives is more without =
    arrival_round x link frames number l i raw new kept gives (comes_to x.setting (world_at x l) i raw is) more
by_event x link frames number l e new kept gives is more without = plain_round x link number l e new kept gives tt tt more

round_on : (x : Plan) (link : LinkAnswers) → GivesFrames link → (number : ℕ) (l : LoopAt) → IsKept x (events_at l) →
    GoesOnLater x link (length (events_at l)) → GoesOnWithout x link number l → GoesOn x link number (On l)
round_on x link frames number l kept more without = let it = given x.setting x.scene (events_at l) l.at in go it.0 it.1
  where
    go : (next : Option Next) → Gives x.scene x.setting (world_at x l) l.at next → GoesOn x link number (On l)
    go None gives = stops x link number (On l) kept (inl gives)
    go (Some next) gives =
        by_event x link frames number l next.event next.at kept gives
        (is_given x.scene x.setting (world_at x l) l.at next.event next.at gives) more without

-- All rounds: by how often the frame that arrived last is still handed over, and by how many events may still come

by_times : (x : Plan) (link : LinkAnswers) → GivesFrames link → (times number : ℕ) (l : LoopAt) → l.at.arrived.times ≡ times →
    IsKept x (events_at l) → GoesOnLater x link (length (events_at l)) → GoesOn x link number (On l)
by_times x link frames zero number l none kept more =
    round_on x link frames number l kept more (λ i new less. absurd (omega (arith, none, less)))
by_times x link frames (suc times) number l is kept more =
    round_on x link frames number l kept more
    (λ i new less. by_times x link frames times number (without_frame i new l) (omega (arith, is, less)) kept more)

by_events : (x : Plan) (link : LinkAnswers) → GivesFrames link → (left number : ℕ) (l : LoopAt) →
    event_limit ≤ length (events_at l) + left → IsKept x (events_at l) → GoesOn x link number (On l)
by_events x link frames zero number l many kept = let below = kept.below in absurd (omega (arith, many, below))
by_events x link frames (suc left) number l many kept =
    by_times x link frames l.at.arrived.times number l refl kept
    (λ other now more keeps. by_events x link frames left other now (omega (arith, many, more)) keeps)

-- From the start

none_yet : (x : Plan) → IsKept x (events_at (loop_start x))
none_yet x = record { said = tt; answered = λ n. tt; below = omega arith }

most_events : ℕ
most_events = event_limit

most_is : most_events ≡ event_limit
unfolding most_events
most_is = refl

pub loop_ends : (x : Plan) (link : LinkAnswers) → GivesFrames link → (number : ℕ) → GoesOn x link number (On (loop_start x))
loop_ends x link frames number =
    let most = most_is in
    by_events x link frames most_events number (loop_start x) (omega (arith, most)) (none_yet x)
