-- What a run over a link does and writes does not see the unused room of names.
use Rattle.std.proofs.Common.{◌≡◌, ◌∙◌, inl, inr, refl, ap, ap₂, sym, subst, ℕ, ℤ, pos, ◌*◌, Option, None, Some, List, [], ◌∷◌, ◌++◌, map, flat_map, option_map}
use Rattle.std.specs.List.{concat}
use Rattle.std.specs.Option.{option_map_or}
use Rattle.std.specs.Prelude.{slice_get}
use Rattle.std.proofs.lemmas.Option.{slice_get-map}
use Rattle.arrayvec.specs.ArrayVec.{ArrayVec}
use Rattle.wrp_network.specs.declared.configuration.NetCfg.{NetCfg}
use Rattle.wrp_network.specs.declared.network.LinkCfg.{LinkCfg}
use Rattle.wrp_network.specs.declared.network.NodeCfg.{NodeCfg}
use Rattle.wrp_base.specs.Link.{other_of}
use Rattle.wrp_config.specs.Same.{bare_link, bare_node, bare_cfg}
use Rattle.wrp_course.specs.declared.event.Event.{Event}
use Rattle.wrp_course.specs.declared.event.Event.TheVariants.{Pass, Tick, Sample, Depart, Arrive, Deliver, Noise, Down, Up, Cut, Join}
use Rattle.wrp_course.specs.Run.{Happened, world_after}
use Rattle.wrp_course.specs.Setting.{Setting}
use Rattle.wrp_course.specs.WorldAt.{FrameAt, WorldAt}
use Rattle.wrp_io.specs.declared.link.LinkCall.{LinkCall}
use Rattle.wrp_io.specs.declared.link.LinkCall.TheVariants.{Start}
use Rattle.wrp_lines.specs.Lines.{output_line_of}
use Rattle.wrp_loop.specs.declared.fate.Fate.{Fate}
use Rattle.wrp_loop.specs.declared.fate.Fate.TheVariants.{Handed, Forged, Noisy}
use Rattle.wrp_loop.specs.Datagrams.{IsFate, IsFrameOf, IsSuch, IsWayOf, Way, handed_in}
use Rattle.wrp_loop.specs.Laws.{Ending, EndsAs, Large, Over}
use Rattle.wrp_loop.specs.LoopEnds.{IsOver, IsOverrun}
use Rattle.wrp_loop.specs.LoopRun.{Carried, Dropped, FrameArrives, FrameCarried, Full, Goes, Going, Handles, HandlesAll, IsRound, LoopAt, Loops, On, Plain, Round, events_at, place}
use Rattle.wrp_scene.specs.EventLimit.{event_limit}
use Rattle.wrp_loop.specs.LoopText.{forged_lines, loop_lines, loop_text, marked_line, step_lines}
use Rattle.wrp_loop.specs.LoopStands.{ArrivalCalls}
use Rattle.wrp_loop.proofs.Choices.{choice_of}
use Rattle.wrp_records.specs.declared.status.Status.{Status}
use Rattle.wrp_records.specs.declared.status.Status.TheVariants.{LinkFault, OutOfMemory, TooLarge}
use Rattle.wrp_records.specs.RecordsAnswer.{RecordsAnswer}
use Rattle.wrp_records.specs.Stream.{large_line}
use Rattle.wrp_loop.specs.Loops.{IsShort, LoopBreaks, LoopCloses, LoopEnded, LoopFailed, LoopShort, closing_lines, loop_of, plan_of}
use Rattle.wrp_network_world.proofs.BareWorld.{after_bare, bare_setting, ends_bare, steps_at_bare, answered_bare, counts_text}
use Rattle.wrp_network_world.proofs.Leads.{due_so}
use Rattle.wrp_replay.proofs.BareSetting.{name_bare, path_bare}
use Rattle.wrp_simulate.proofs.BareSim.{gives_after, links_count, refuses_bare, said_bare}
use Rattle.wrp_scene.specs.Scenario.{SceneAt}
use Rattle.wrp_trace.specs.EventPrinting.{drift_text, drift_texts, event_texts, link_text, move_text, move_texts}
use Rattle.wrp_trace.specs.Printing.{joined}

-- Frames

such_to : (s : Setting) (events : List Happened) (way : Way) (octets : List ℕ) (i : ℕ) → IsSuch s (world_after s events) way octets i
    → IsSuch (bare_setting s) (world_after (bare_setting s) events) way octets i
such_to s events way octets i h =
    subst (λ (w : WorldAt). IsSuch (bare_setting s) w way octets i) (sym (after_bare s events))
    (record { frame = h.frame; is = h.is; link_is = h.link_is; by_is = h.by_is; arrived = h.arrived; young = h.young; equals = h.equals })

such_from : (s : Setting) (events : List Happened) (way : Way) (octets : List ℕ) (i : ℕ)
    → IsSuch (bare_setting s) (world_after (bare_setting s) events) way octets i → IsSuch s (world_after s events) way octets i
such_from s events way octets i k =
    let h = subst (λ (w : WorldAt). IsSuch (bare_setting s) w way octets i) (after_bare s events) k in
    record { frame = h.frame; is = h.is; link_is = h.link_is; by_is = h.by_is; arrived = h.arrived; young = h.young; equals = h.equals }

found_bare : (s : Setting) (events : List Happened) (way : Way) (octets : List ℕ) (found : Option ℕ) → IsFrameOf s events way octets found
    → IsFrameOf (bare_setting s) events way octets found
found_bare s events way octets found h =
    choice_of (IsSuch s (world_after s events) way octets) (IsSuch (bare_setting s) (world_after (bare_setting s) events) way octets) (handed_in events) found
    (such_to s events way octets) (such_from s events way octets) h

fate_bare : (s : Setting) (events : List Happened) (way : Way) (octets : List ℕ) (fate : Fate) → IsFate s events way octets fate
    → IsFate (bare_setting s) events way octets fate
fate_bare s events way octets (Handed i) h = found_bare s events way octets (Some i) h
fate_bare s events way octets Forged h = (found_bare s events way octets None h.0, h.1)
fate_bare s events way octets Noisy h = (found_bare s events way octets None h.0, h.1)

-- Datagrams

handles_bare : (s : Setting) (scene : SceneAt) (seed : ℕ) (way : Way) (frame : ArrayVec ℕ) (l : LoopAt) (next : Going)
    → Handles (plan_of s scene seed) way frame l next → Handles (plan_of (bare_setting s) scene seed) way frame l next
handles_bare s scene seed way frame l next h = (h.0, fate_bare s (events_at l) way frame.items h.0 h.1, h.2)

all_bare : (s : Setting) (scene : SceneAt) (seed : ℕ) (way : Way) (got : List (ArrayVec ℕ)) (now last : Going)
    → HandlesAll (plan_of s scene seed) way got now last → HandlesAll (plan_of (bare_setting s) scene seed) way got now last
all_bare s scene seed way [] now last h = h
all_bare s scene seed way (frame ∷ got) (Full l) last h = h
all_bare s scene seed way (frame ∷ got) (On l) last h = (h.0, handles_bare s scene seed way frame l h.0 h.1, all_bare s scene seed way got h.0 last h.2)

-- Rounds

way_bare : (s : Setting) (frame : FrameAt) (way : Way) (octets : List ℕ) → IsWayOf s frame way octets → IsWayOf (bare_setting s) frame way octets
way_bare s frame way octets h = record {
  link_is = h.link_is;
  by_is = h.by_is;
  to_is = (λ i. ends_bare s i way.link (other_of way.by)) ∙ h.to_is;
  octets_are = h.octets_are;
}

arrives_bare : (s : Setting) (scene : SceneAt) (seed : ℕ) (l : LoopAt) (number : ℕ) (way : Way) (octets : List ℕ)
    → FrameArrives (plan_of s scene seed) l number way octets
    → FrameArrives (plan_of (bare_setting s) scene seed) l number way octets
arrives_bare s scene seed l number way octets h = record {
  raw = h.raw;
  new = h.new;
  gives = gives_after scene s (events_at l) l.at (Some (record { event = Arrive number h.raw; at = h.new })) h.gives;
  room = h.room;
  frame = h.frame;
  is = ap (λ (w : WorldAt). w.frame number) (after_bare s (events_at l)) ∙ h.is;
  way_is = way_bare s h.frame way octets h.way_is;
}

carried_bare : (s : Setting) (scene : SceneAt) (seed : ℕ) (l : LoopAt) (calls : List LinkCall) (next : Going) → FrameCarried (plan_of s scene seed) l calls next
    → FrameCarried (plan_of (bare_setting s) scene seed) l calls next
unfolding arrives_bare
carried_bare s scene seed l calls next h = record {
  number = h.number;
  way = h.way;
  octets = h.octets;
  arrives = arrives_bare s scene seed l h.number h.way h.octets h.arrives;
  got = h.got;
  few = h.few;
  made = h.made;
  says = h.says;
  answer = h.answer;
  handled = all_bare s scene seed h.way h.got _ next h.handled;
}

round_bare : (s : Setting) (scene : SceneAt) (seed : ℕ) (l : LoopAt) (r : Round) (calls : List LinkCall) (next : Going)
    → IsRound (plan_of s scene seed) l r calls next → IsRound (plan_of (bare_setting s) scene seed) l r calls next
round_bare s scene seed l Plain calls next h = (
  h.0,
  record {
    newest = h.1.newest;
    new = h.1.new;
    gives = gives_after scene s (events_at l) l.at (Some (record { event = h.1.newest.event; at = h.1.new })) h.1.gives;
    plain = h.1.plain;
    room = h.1.room;
    leads = h.1.leads;
  },
)
round_bare s scene seed l Dropped calls next h = (
  h.0,
  record {
    number = h.1.number;
    new = h.1.new;
    gives = gives_after scene s (events_at l) l.at (Some (record { event = Deliver h.1.number; at = h.1.new })) h.1.gives;
    leads = h.1.leads;
  },
)
round_bare s scene seed l Carried calls next h = carried_bare s scene seed l calls next h

goes_bare : (s : Setting) (scene : SceneAt) (seed : ℕ) (now : Going) (rounds : List Round) (calls : List LinkCall) (last : Going)
    → Goes (plan_of s scene seed) now rounds calls last
    → Goes (plan_of (bare_setting s) scene seed) now rounds calls last
goes_bare s scene seed now [] calls last h = h
goes_bare s scene seed (Full l) (r ∷ rounds) calls last h = absurd h
goes_bare s scene seed (On l) (r ∷ rounds) calls last h =
    (h.0, h.1, h.2, round_bare s scene seed l r h.1 h.0 h.3, h.4, goes_bare s scene seed h.0 rounds h.2 last h.5)

loops_bare : (s : Setting) (scene : SceneAt) (seed : ℕ) (calls : List LinkCall) (last : Going) → Loops (plan_of s scene seed) calls last
    → Loops (plan_of (bare_setting s) scene seed) calls last
loops_bare s scene seed calls last h = record {
  rounds = h.rounds;
  later = h.later;
  told = h.told ∙ ap (λ (count : ℕ). Start (2 * count) ∷ h.later) (sym (links_count s));
  goes = goes_bare s scene seed _ h.rounds h.later last h.goes;
  said = h.said;
}

-- Ends

over_bare : (s : Setting) (scene : SceneAt) (seed : ℕ) (last : Going) → IsOver (plan_of s scene seed) last → IsOver (plan_of (bare_setting s) scene seed) last
over_bare s scene seed (On l) h = gives_after scene s (events_at l) l.at None h
over_bare s scene seed (Full l) h = h

overrun_bare : (s : Setting) (scene : SceneAt) (seed : ℕ) (last : Going) → IsOverrun (plan_of s scene seed) last
    → IsOverrun (plan_of (bare_setting s) scene seed) last
overrun_bare s scene seed (On l) h = record { next = h.next; gives = gives_after scene s (events_at l) l.at (Some h.next) h.gives; counted = h.counted; full = h.full }
overrun_bare s scene seed (Full l) h = h

as_bare : (s : Setting) (scene : SceneAt) (seed : ℕ) (calls : List LinkCall) (ending : Ending) (last : Going) → EndsAs (plan_of s scene seed) calls ending last
    → EndsAs (plan_of (bare_setting s) scene seed) calls ending last
as_bare s scene seed calls Over last h = (loops_bare s scene seed calls last h.0, over_bare s scene seed last h.1)
as_bare s scene seed calls Large last h = (loops_bare s scene seed calls last h.0, overrun_bare s scene seed last h.1)

ended_bare : (s : Setting) (seed : ℕ) (lines : List (List ℕ)) (calls : List LinkCall) (ending : Ending) → LoopEnded s seed lines calls ending
    → LoopEnded (bare_setting s) seed lines calls ending
ended_bare s seed lines calls ending h = record {
  scene = h.scene;
  said = said_bare s lines h.scene h.said;
  last = h.last;
  ends = as_bare s h.scene seed calls ending h.last h.ends;
  frames = h.frames;
  answered = answered_bare s (events_at (place h.last)) h.answered;
}

which_bare : (s : Setting) (scene : SceneAt) (seed : ℕ) (l : LoopAt) (calls : List LinkCall) → ArrivalCalls (plan_of s scene seed) l calls
    → ArrivalCalls (plan_of (bare_setting s) scene seed) l calls
which_bare s scene seed l calls h = record {
  number = h.number;
  way = h.way;
  octets = h.octets;
  arrives = arrives_bare s scene seed l h.number h.way h.octets h.arrives;
  got = h.got;
  few = h.few;
  are = h.are;
}

is_short : (s : Setting) (scene : SceneAt) (seed : ℕ) (calls : List LinkCall) (last : Going) → IsShort (plan_of s scene seed) calls last
    → IsShort (plan_of (bare_setting s) scene seed) calls last
is_short s scene seed calls (On l) h = record {
  before = h.before;
  made = h.made;
  all = h.all;
  loops = loops_bare s scene seed h.before (On l) h.loops;
  which = elim h.which [ inl none ↦ inl none | inr arrival ↦ inr (which_bare s scene seed l h.made arrival) ];
}
is_short s scene seed calls (Full l) h = loops_bare s scene seed calls (Full l) h

short_bare : (s : Setting) (seed : ℕ) (lines : List (List ℕ)) (calls : List LinkCall) → LoopShort s seed lines calls
    → LoopShort (bare_setting s) seed lines calls
short_bare s seed lines calls h = record {
  scene = h.scene;
  said = said_bare s lines h.scene h.said;
  last = h.last;
  short = is_short s h.scene seed calls h.last h.short;
  frames = h.frames;
  answered = answered_bare s (events_at (place h.last)) h.answered;
}

failed_bare : (s : Setting) (seed : ℕ) (lines : List (List ℕ)) (calls : List LinkCall) → LoopFailed s seed lines calls
    → LoopFailed (bare_setting s) seed lines calls
failed_bare s seed lines calls h = record {
  scene = h.scene;
  said = said_bare s lines h.scene h.said;
  at = h.at;
  fails = record {
    before = h.fails.before;
    cut = h.fails.cut;
    all = h.fails.all;
    loops = loops_bare s h.scene seed h.fails.before (On h.at) h.fails.loops;
    number = h.fails.number;
    way = h.fails.way;
    octets = h.fails.octets;
    arrives = arrives_bare s h.scene seed h.at h.fails.number h.fails.way h.fails.octets h.fails.arrives;
    fails = h.fails.fails;
  };
  frames = h.frames;
  answered = answered_bare s (events_at h.at) h.answered;
}

-- The line of an event

drifts_bare : (nodes : List NodeCfg) (drifts : List ℤ) → drift_texts (map bare_node nodes) drifts ≡ drift_texts nodes drifts
drifts_bare [] drifts = refl
drifts_bare (node ∷ nodes) [] = refl
drifts_bare (node ∷ nodes) (drift ∷ drifts) = ap (λ (rest : List (List ℕ)). drift_text node drift ++ rest) (drifts_bare nodes drifts)

moves_bare : (links : List LinkCfg) (moves : List (ℤ × ℤ)) → move_texts (map bare_link links) moves ≡ move_texts links moves
moves_bare [] moves = refl
moves_bare (link ∷ links) [] = refl
moves_bare (link ∷ links) (move ∷ moves) = ap (λ (rest : List (List ℕ)). move_text link move ++ rest) (moves_bare links moves)

link_over : (o : Option LinkCfg)
    → option_map_or (λ (link : LinkCfg). link.name.bytes) (option_map bare_link o) [] ≡ option_map_or (λ (link : LinkCfg). link.name.bytes) o []
link_over None = refl
link_over (Some link) = refl

link_name : (cfg : NetCfg) (k : ℕ) → link_text (bare_cfg cfg) k ≡ link_text cfg k
link_name cfg k =
    ap (λ (o : Option LinkCfg). option_map_or (λ (link : LinkCfg). link.name.bytes) o []) (slice_get-map bare_link cfg.links.items k)
    ∙ link_over (slice_get cfg.links.items k)

texts_bare : (cfg : NetCfg) (e : Event) → event_texts (bare_cfg cfg) e ≡ event_texts cfg e
texts_bare cfg (Pass dt drifts fibres) = rw (drifts_bare cfg.nodes.items drifts.items, moves_bare cfg.links.items fibres.items) refl
texts_bare cfg (Tick node) = rw (name_bare cfg node) refl
texts_bare cfg (Sample node base bits) = rw (name_bare cfg node) refl
texts_bare cfg (Depart node port stamp) = rw (name_bare cfg node) refl
texts_bare cfg (Arrive frame raw) = refl
texts_bare cfg (Deliver frame) = refl
texts_bare cfg (Noise node port octets raw) = rw (name_bare cfg node) refl
texts_bare cfg (Down node) = rw (name_bare cfg node) refl
texts_bare cfg (Up node off swaps) = rw (name_bare cfg node) refl
texts_bare cfg (Cut link) = rw (link_name cfg link) refl
texts_bare cfg (Join link ms sm) = rw (link_name cfg link) refl

marked_bare : (cfg : NetCfg) (e : Event) → marked_line (bare_cfg cfg) e ≡ marked_line cfg e
marked_bare cfg e = ap (λ (texts : List (List ℕ)). 61 ∷ (32 ∷ (joined texts ++ 10 ∷ []))) (texts_bare cfg e)

-- What is written

step_bare : (s : Setting) → step_lines (bare_setting s) ≡ step_lines s
step_bare s = λ i w step.
    map
    (λ o. output_line_of (name_bare s.cfg step.node i) (w.node step.node).ticks o (pos (path_bare s.cfg step.node i)) (Some (w.clock step.node).off)) step.outs

lines_bare : (s : Setting) (events : List Happened) → loop_lines (bare_setting s) events ≡ loop_lines s events
lines_bare s [] = refl
lines_bare s (h ∷ before) =
    ap₂ (λ (earlier newest : List (List ℕ)). earlier ++ newest) (lines_bare s before)
    (λ i. marked_bare s.cfg h.event i ∷ flat_map (step_bare s i (after_bare s (h ∷ before) i)) (steps_at_bare s before h i))

text_bare : (s : Setting) (events : List Happened) → loop_text s events ≡ loop_text (bare_setting s) events
text_bare s events = ap concat (sym (lines_bare s events))

closing_bare : (s : Setting) (l : LoopAt) → closing_lines s l ≡ closing_lines (bare_setting s) l
closing_bare s l = ap (λ (counts : List ℕ). counts ++ concat (forged_lines l.forged)) (sym (counts_text s (events_at l)))

-- What is expected

closes_bare : (s : Setting) (seed : ℕ) (calls : List LinkCall) (lines : List (List ℕ)) (last : List ℕ) → LoopCloses s seed calls lines last
    → LoopCloses (bare_setting s) seed calls lines last
unfolding ended_bare
closes_bare s seed calls lines last h =
    (ended_bare s seed lines calls Over h.0, h.1 ∙ ap₂ (λ (a b : List ℕ). a ++ b) (text_bare s (events_at (place h.0.last))) (closing_bare s (place h.0.last)))

breaks_bare : (s : Setting) (seed : ℕ) (calls : List LinkCall) (lines : List (List ℕ)) (status : Status) (last : List ℕ)
    → LoopBreaks s seed calls lines status last → LoopBreaks (bare_setting s) seed calls lines status last
unfolding ended_bare short_bare failed_bare
breaks_bare s seed calls lines TooLarge last h =
    (ended_bare s seed lines calls Large h.0, h.1 ∙ ap (λ (l : List ℕ). l ++ large_line event_limit) (text_bare s (events_at (place h.0.last))))
breaks_bare s seed calls lines OutOfMemory last h = (short_bare s seed lines calls h.0, h.1 ∙ text_bare s (events_at (place h.0.last)))
breaks_bare s seed calls lines LinkFault last (inl none) = inl none
breaks_bare s seed calls lines LinkFault last (inr h) = inr (failed_bare s seed lines calls h.0, h.1 ∙ text_bare s (events_at h.0.at))
breaks_bare s seed calls lines _ last h = absurd h

pub bare_loop : (s : Setting) (seed : ℕ) (calls : List LinkCall) (lines : List (List ℕ)) (status : Status) (octets : List ℕ)
    → RecordsAnswer (loop_of s seed calls) lines status octets → RecordsAnswer (loop_of (bare_setting s) seed calls) lines status octets
bare_loop s seed calls = due_so (loop_of s seed calls) (loop_of (bare_setting s) seed calls) (record {
  accepts = λ lines text h. (h.0, said_bare s lines h.0 h.1, h.2);
  refuses = refuses_bare s;
  closes = closes_bare s seed calls;
  breaks_off = breaks_bare s seed calls;
})
