-- An end puts out at most one message in an event whose sending is stamped, and uses the same sequenceId again only
-- late.
use Rattle.std.proofs.Common.{◌≡◌, inl, inr, ◌∙◌, refl, ap, sym, subst, ℕ, ◌+◌, ◌*◌, ◌%◌, ◌<◌, ◌≤◌, min, ℤ, pos, ◌+ℤ◌, ◌≤ℤ◌, Bool, true, false, unsigned_abs, List, [], ◌∷◌, ◌++◌, length, Some, Result, arith}
use Rattle.std.proofs.Math.Nat.{min-le_left, min-le_right, mul-le-mul, mul-le-mul_right}
use Rattle.std.proofs.lemmas.Int.{ints}
use Rattle.wrp_base.specs.declared.link.Role.{Role}
use Rattle.wrp_base.specs.declared.link.Role.TheVariants.{Master, Slave}
use Rattle.wrp_base.specs.declared.message.PtpMsg.{PtpMsg}
use Rattle.wrp_network.specs.declared.network.LinkCfg.{LinkCfg}
use Rattle.wrp_base.proofs.Naturals.{is_plus_zero}
use Rattle.wrp_bounds.specs.Times.{shortest_tick}
use Rattle.wrp_frame.specs.declared.fault.FrameFault.{FrameFault}
use Rattle.wrp_node.specs.declared.interface.NodeSet.{NodeSet}
use Rattle.wrp_node.specs.NodeAt.{NodeAt, certain_of, locked_of, setting_of}
use Rattle.wrp_node.specs.NodeStep.{servo_ticked}
use Rattle.wrp_node.specs.Set.{set_of}
use Rattle.wrp_port.specs.declared.interface.PortIn.{PortIn}
use Rattle.wrp_port.specs.declared.interface.Sched.{Sched}
use Rattle.wrp_port.specs.declared.setting.Setting.{Setting as PortSetting}
use Rattle.wrp_port.specs.Hearing.{is_open}
use Rattle.wrp_port.specs.History.{at_master, at_slave, is_due_in, rest_after, link_of as link_told, one_more_where, sent_each, ticks_open}
use Rattle.wrp_port.specs.LineAfter.{ticked}
use Rattle.wrp_course.specs.declared.event.Event.{Event}
use Rattle.wrp_course.specs.declared.event.Event.TheVariants.{Tick}
use Rattle.wrp_course.specs.Given.{sending, world_step}
use Rattle.wrp_course.specs.Moved.{moved}
use Rattle.wrp_course.specs.Premises.{Accepts}
use Rattle.wrp_course.specs.Run.{Happened, world_after}
use Rattle.wrp_course.specs.RunLaws.{TicksAreApart}
use Rattle.wrp_course.specs.Runs.{IsNetwork, IsRun, WasPutOut}
use Rattle.wrp_course.specs.Setting.{Setting, end_of, node_setting_of, link_of}
use Rattle.wrp_course.specs.WorldAt.{Sending, WorldAt}
use Rattle.wrp_bound_laws.specs.Moments.{AtEach}
use Rattle.wrp_bound_laws.specs.SequenceIds.{IdsComeAgainLate, IsOpenAt, IsTimed, OneTimedAnEvent}
use Rattle.wrp_bound_laws.proofs.Schedules.IdsPutOut.{NewIn, timed_in}
use Rattle.wrp_bound_laws.proofs.Schedules.IdsSent.{timed_of}
use Rattle.wrp_bound_laws.proofs.Sources.Parents.{ticked_node}
use Rattle.wrp_bound_laws.proofs.Schedules.ScheduleCounts.{Gone, OpenGone, aside_gone, due_at, due_in, every_of, next_multiple, one_tick}
use Rattle.wrp_bound_laws.proofs.Schedules.ScheduleSince.{Beginning, IsOpen, PortOf, Since, gone_then, late_then, set_at, since_all, tick_then, ticked_told, told_in, told_then}
use Rattle.wrp_bound_laws.proofs.Frames.Sendings.{WasPut, was_put}
use Rattle.wrp_bound_laws.proofs.Runs.Suffixes.{at_newest, at_rest, older_run, run_before, rest_length}

-- Ends of lists

-- the longer of two ends has the other at its end
record Between (a b c d : List Happened) : Type 0 where
  middle : List Happened
  longer : d ≡ middle ++ b
  rest : a ≡ c ++ middle

between : (a b c d : List Happened) → a ++ b ≡ c ++ d → length b ≤ length d → Between a b c d
between a b [] d e le = record { middle = a; longer = sym e; rest = refl }
between [] b (z ∷ c) d e le =
    let same : length b ≡ length (z ∷ (c ++ d)) = ap length e in
    let more : length d ≤ length (c ++ d) = rest_length c d in
    absurd (omega (arith, same, more, le))
between (x ∷ a) b (z ∷ c) d e le =
    let tail : a ++ b ≡ c ++ d = cc in
    let head : x ≡ z = cc in
    let it : Between a b c d = between a b c d tail le in
    record { middle = it.middle; longer = it.longer; rest = (let rest : a ≡ c ++ it.middle = it.rest in cc) }

behind_first : (h k : Happened) (b d : List Happened) → k ∷ d ≡ h ∷ b → b ≡ d
behind_first h k b d e = cc

-- two ends of one length are one
same_end : (h k : Happened) (b d middle : List Happened) → length (h ∷ b) ≡ length (k ∷ d) → k ∷ d ≡ middle ++ (h ∷ b) → b ≡ d
same_end h k b d [] le e = behind_first h k b d e
same_end h k b d (z ∷ middle) le e =
    let same : length (k ∷ d) ≡ length (z ∷ (middle ++ (h ∷ b))) = ap length e in
    let more : length (h ∷ b) ≤ length (middle ++ (h ∷ b)) = rest_length middle (h ∷ b) in
    absurd (omega (arith, same, more, le))

one_end : (a c b d : List Happened) (h k : Happened) → a ++ (h ∷ b) ≡ c ++ (k ∷ d) → length (h ∷ b) ≡ length (k ∷ d) → b ≡ d
one_end a c b d h k e same =
    let it : Between a (h ∷ b) c (k ∷ d) = between a (h ∷ b) c (k ∷ d) e (omega (arith, same)) in
    same_end h k b d it.middle same it.longer

-- what came before the newest of a longer end
record Onward (newer older newest before : List Happened) : Type 0 where
  first : Happened
  middle : List Happened
  splits : before ≡ middle ++ older
  rest : newer ≡ newest ++ (first ∷ middle)

onward_by : (newer older newest before middle : List Happened) (event : Happened) → length older < length (event ∷ before) → event ∷ before ≡ middle ++ older → newer ≡ newest ++ middle → Onward newer older newest before
onward_by newer older newest before [] event less longer rest =
    let same : length (event ∷ before) ≡ length older = ap length longer in
    absurd (omega (arith, same, less))
onward_by newer older newest before (z ∷ middle) event less longer rest =
    record { first = z; middle = middle; splits = behind_first event z before (middle ++ older) (sym longer); rest = rest }

onward : (newer older newest before : List Happened) (event : Happened) → newer ++ older ≡ newest ++ (event ∷ before) → length older < length (event ∷ before) → Onward newer older newest before
onward newer older newest before event e less =
    let it : Between newer older newest (event ∷ before) = between newer older newest (event ∷ before) e (omega (arith, less)) in
    onward_by newer older newest before it.middle event less it.longer it.rest

-- The event in which one was put out

-- an event of a run, and what came before it
record PutIn (s : Setting) (events : List Happened) (k : ℕ) (link : LinkCfg) (r : Role) (x : Sending) : Type 0 where
  newer : List Happened
  event : Happened
  before : List Happened
  splits : events ≡ newer ++ (event ∷ before)
  moment : x.moment ≡ length (event ∷ before)
  new : NewIn s (world_after s before) link r event.event x

-- what was put out earlier has an earlier moment
old_moment : (s : Setting) (before : List Happened) (k : ℕ) (r : Role) (x : Sending) → WasPutOut x ((world_after s before).end_at k r).sent → x.moment ≤ length before
old_moment s before k r x put =
    let it : WasPut s before k r x = was_put s before k r x put in
    let longer : length it.older ≤ length (it.newer ++ it.older) = rest_length it.newer it.older in
    let same : length before ≡ length (it.newer ++ it.older) = ap length it.splits in
    let moment : x.moment ≡ length it.older = it.in_it.moment in
    omega (arith, longer, same, moment)

new_in : (s : Setting) (h : Happened) (before : List Happened) (k : ℕ) (link : LinkCfg) (r : Role) (x : Sending) → link_of s k ≡ Some link → IsTimed r x.message.body →
    WasPutOut x ((world_after s (h ∷ before)).end_at k r).sent → x.moment ≡ length (h ∷ before) → NewIn s (world_after s before) link r h.event x
new_in s h before k link r x is timed put moment = elim (timed_in s h.says h.answer (world_after s before) h.event k link r x is timed put) [
  | inl old ↦ let early : x.moment ≤ length before = old_moment s before k r x old in absurd (omega (arith, early, moment))
  | inr new ↦ new
]

put_at : (s : Setting) (newer older : List Happened) (k : ℕ) (link : LinkCfg) (r : Role) (x : Sending) → link_of s k ≡ Some link → IsTimed r x.message.body →
    WasPutOut x ((world_after s older).end_at k r).sent → x.moment ≡ length older → PutIn s (newer ++ older) k link r x
put_at s newer [] k link r x is timed put moment = absurd put
put_at s newer (h ∷ before) k link r x is timed put moment =
    record { newer = newer; event = h; before = before; splits = refl; moment = moment; new = new_in s h before k link r x is timed put moment }

put_in : (s : Setting) (events : List Happened) (k : ℕ) (link : LinkCfg) (r : Role) (x : Sending) → link_of s k ≡ Some link → IsTimed r x.message.body →
    WasPutOut x ((world_after s events).end_at k r).sent → PutIn s events k link r x
put_in s events k link r x is timed put =
    let it : WasPut s events k r x = was_put s events k r x put in
    subst (λ l. PutIn s l k link r x) (sym it.splits) (put_at s it.newer it.older k link r x is timed it.in_it.put it.in_it.moment)

-- At most one in an event

-- the message that it puts out
abbrev one_put : Setting → WorldAt → LinkCfg → Role → Sending
one_put s w link r =
    let set : PortSetting = setting_of (s.set (end_of r link).node) (end_of r link).port in
    let node : NodeAt = (servo_ticked (node_setting_of s (end_of r link).node) (w.node (end_of r link).node)).node in
    sending (moved s w (Tick (end_of r link).node))
    (timed_of r set (ticked set (rest_after set (node.told (end_of r link).port)) (locked_of (node_setting_of s (end_of r link).node) node)).ids)

is_one : (s : Setting) (w : WorldAt) (link : LinkCfg) (r : Role) (e : Event) (x : Sending) → NewIn s w link r e x → x ≡ one_put s w link r
is_one s w link r e x new = new.1.1 ∙ ap (sending (moved s w (Tick (end_of r link).node))) new.1.2.2

pub one_timed_an_event : OneTimedAnEvent
one_timed_an_event s events k link r x y run is xput yput xtimed ytimed same =
    let a : PutIn s events k link r x = put_in s events k link r x is xtimed xput in
    let b : PutIn s events k link r y = put_in s events k link r y is ytimed yput in
    let before : a.before ≡ b.before = one_end a.newer b.newer a.before b.before a.event b.event (sym a.splits ∙ b.splits) (sym a.moment ∙ same ∙ b.moment) in
    is_one s (world_after s a.before) link r a.event.event x a.new
    ∙ ap (λ (l : List Happened). one_put s (world_after s l) link r) before
    ∙ sym (is_one s (world_after s b.before) link r b.event.event y b.new)

-- A message and the counts of its schedule

abbrev port_at : LinkCfg → Role → PortOf
port_at link r = record { node = (end_of r link).node; port = (end_of r link).port }

abbrev every_at : Setting → PortOf → Role → ℕ
every_at s q r = every_of r (set_at s q).sched

-- one is put out at a tick at which it is due, with the count of those before it as its sequenceId
record OnTick (s : Setting) (q : PortOf) (r : Role) (w : WorldAt) (x : Sending) : Type 0 where
  at : x.at ≡ w.time
  due : is_due_in (set_at s q) (every_at s q r) (tick_then s q w ∷ told_then s q w) ≡ true
  seq : x.message.head.seq ≡ sent_each (every_at s q r) (set_at s q) (told_then s q w) % 65536

seq_is : (r : Role) (set : PortSetting) (told : List PortIn) (locked : Bool) → set.ds.role ≡ r → (timed_of r set (ticked set (rest_after set told) locked).ids).head.seq ≡ sent_each (every_of r set.sched) set told % 65536
seq_is Master set told locked e = ap (λ (x : Role). at_master x (sent_each set.sched.sync set told) % 65536) e
seq_is Slave set told locked e = ap (λ (x : Role). at_slave x (sent_each set.sched.delay set told) % 65536) e

on_tick : (s : Setting) (w : WorldAt) (link : LinkCfg) (r : Role) (e : Event) (x : Sending) → NewIn s w link r e x → OnTick s (port_at link r) r w x
on_tick s w link r e x new =
    let q : PortOf = port_at link r in
    let node : NodeAt = (servo_ticked (node_setting_of s q.node) (w.node q.node)).node in
    let locked : Bool = locked_of (node_setting_of s q.node) node in
    record {
      at = ap (λ (t : Sending). t.at) new.1.1;
      due = sym (due_in r (set_at s q) (told_then s q w) locked (certain_of (node_setting_of s q.node) node)) ∙ new.1.2.1;
      seq = ap (λ (t : Sending). t.message.head.seq) new.1.1 ∙ ap (λ (m : PtpMsg). m.head.seq) new.1.2.2 ∙ seq_is r (set_at s q) (told_then s q w) locked new.1.2.0;
    }

-- the counts since it
abbrev since_it : Setting → PortOf → Role → WorldAt → Sending → Beginning
since_it s q r w x = record {
  every = every_at s q r;
  ticks = ticks_open (set_at s q) (tick_then s q w ∷ told_then s q w);
  sent = sent_each (every_at s q r) (set_at s q) (told_then s q w) + 1;
  at = x.at;
}

no_time : (at now : ℤ) (dmin : ℕ) → at ≡ now → (at +ℤ pos (0 * dmin)) ≤ℤ now
no_time at now dmin e = omega (arith, ints, e)

no_multiple : (every : ℕ) → 0 * every ≤ 0
no_multiple every = omega arith

one_more_by : (b : Bool) (n : ℕ) → b ≡ true → one_more_where b n ≡ (n + 1) + 0
one_more_by true n e = omega arith
one_more_by false n e = absurd cc

begins : (s : Setting) (q : PortOf) (r : Role) (says : Result PtpMsg FrameFault) (y : ℤ) (w : WorldAt) (x : Sending) → OnTick s q r w x → Since s q (since_it s q r w x) (world_step s says y w (Tick q.node))
begins s q r says y w x it =
    let set : PortSetting = set_at s q in
    let b : Beginning = since_it s q r w x in
    let now : List PortIn = tick_then s q w ∷ told_then s q w in
    let takes : is_open (link_told set now) ≡ true = (due_at (link_told set now) (ticks_open set now % b.every) it.due).0 in
    let gone : Gone set b.every b.ticks b.sent 0 now =
    record {
      more = 0;
      ticks = is_plus_zero (ticks_open set now);
      sent = one_more_by (is_due_in set b.every now) (sent_each b.every set (told_then s q w)) it.due;
      few = no_multiple b.every;
    } in
    let kept : OpenGone set b.every b.ticks b.sent 0 (told_in q (world_step s says y w (Tick q.node))) =
    ticked_told (OpenGone set b.every b.ticks b.sent 0) (aside_gone set b.every b.ticks b.sent 0) s q says y w q.node refl (takes, gone) in
    record {
      passed = 0;
      later =
          record {
            gone = kept.1;
            late = no_time x.at ((world_step s says y w (Tick q.node)).clock q.node).ticked (shortest_tick s.cfg) (it.at ∙ sym (ticked_node s says y w q.node q.node refl).1);
          };
    }

-- The same sequenceId again

whole_round : (first more : ℕ) → first % 65536 ≡ (first + 1 + more) % 65536 → 65536 ≤ more + 1
whole_round first more e = omega (arith, e)

enough_ticks : (least every dmin d more : ℕ) → least ≤ every → 65536 ≤ more + 1 → (more + 1) * every ≤ d + 1 → 65_000 * least * dmin ≤ (d + 1) * dmin
enough_ticks least every dmin d more h k few =
    let rounds : 65536 * least ≤ (more + 1) * every = mul-le-mul k h in
    let ticks : 65_000 * least ≤ d + 1 = omega (arith, rounds, few) in
    mul-le-mul_right dmin ticks

enough_time : (at now : ℤ) (some all : ℕ) → some ≤ all → (at +ℤ pos all) ≤ℤ now → (at +ℤ pos some) ≤ℤ now
enough_time at now some all h k = omega (arith, ints, h, k)

every_least : (r : Role) (sched : Sched) → min sched.sync sched.delay ≤ every_of r sched
every_least Master sched = min-le_left sched.sync sched.delay
every_least Slave sched = min-le_right sched.sync sched.delay

least_is : (s : Setting) (q : PortOf) (r : Role) → IsNetwork s → min (unsigned_abs s.cfg.sync) (unsigned_abs s.cfg.delay) ≤ every_at s q r
least_is s q r net =
    subst (λ (x : NodeSet). min (unsigned_abs s.cfg.sync) (unsigned_abs s.cfg.delay) ≤ every_of r (setting_of x q.port).sched) (sym (net.set q.node))
    (every_least r (setting_of (set_of s.cfg q.node) q.port).sched)

comes_late : (s : Setting) (q : PortOf) (r : Role) (first w : WorldAt) (x y : Sending) (says : Result PtpMsg FrameFault) → IsNetwork s → Accepts s w says (Tick q.node) → OnTick s q r first x → OnTick s q r w y →
    is_open (link_told (set_at s q) (told_in q w)) ≡ true → Since s q (since_it s q r first x) w → x.message.head.seq ≡ y.message.head.seq →
    (x.at +ℤ pos (65_000 * min (unsigned_abs s.cfg.sync) (unsigned_abs s.cfg.delay) * shortest_tick s.cfg)) ≤ℤ y.at
comes_late s q r first w x y says net a xt yt takes since same =
    let set : PortSetting = set_at s q in
    let b : Beginning = since_it s q r first x in
    let d : ℕ = since.passed in
    let started : List PortIn = tick_then s q first ∷ told_then s q first in
    let told : List PortIn = told_then s q w in
    let now : List PortIn = tick_then s q w ∷ told in
    let node : NodeAt = (servo_ticked (node_setting_of s q.node) (w.node q.node)).node in
    let held : OpenGone set b.every b.ticks b.sent d told = gone_then s q b d w takes since.later.gone in
    let whole : b.ticks % b.every ≡ 0 = (due_at (link_told set started) (ticks_open set started % b.every) xt.due).1 in
    let due : (is_open (link_told set now) ≡ true) × (ticks_open set now % b.every ≡ 0) = due_at (link_told set now) (ticks_open set now % b.every) yt.due in
    let count : ticks_open set now ≡ b.ticks + (d + 1) =
    one_tick set b.every b.ticks b.sent d told (locked_of (node_setting_of s q.node) node) (certain_of (node_setting_of s q.node) node) held due.0 in
    let rounds : (held.1.more + 1) * b.every ≤ d + 1 =
    next_multiple b.every b.ticks d held.1.more whole (sym (ap (λ n. n % b.every) count) ∙ due.1) held.1.few in
    let again : 65536 ≤ held.1.more + 1 =
    whole_round (sent_each b.every set (told_then s q first)) held.1.more (sym xt.seq ∙ same ∙ yt.seq ∙ ap (λ n. n % 65536) held.1.sent) in
    let late : (x.at +ℤ pos ((d + 1) * shortest_tick s.cfg)) ≤ℤ y.at =
    subst (λ t. (x.at +ℤ pos ((d + 1) * shortest_tick s.cfg)) ≤ℤ t) (sym yt.at) (late_then s q b d q.node says w refl a since.later) in
    enough_time x.at y.at (65_000 * min (unsigned_abs s.cfg.sync) (unsigned_abs s.cfg.delay) * shortest_tick s.cfg) ((d + 1) * shortest_tick s.cfg)
    (enough_ticks (min (unsigned_abs s.cfg.sync) (unsigned_abs s.cfg.delay)) b.every (shortest_tick s.cfg) d held.1.more (least_is s q r net) again rounds) late

-- since the first, through a part of a run at each event of which the port is open
since_first : TicksAreApart → (s : Setting) (h : Happened) (middle before : List Happened) (q : PortOf) (r : Role) (x : Sending) → IsRun s (middle ++ (h ∷ before)) → h.event ≡ Tick q.node → OnTick s q r (world_after s before) x →
    AtEach (IsOpen s q) middle (h ∷ before) → Since s q (since_it s q r (world_after s before) x) (world_after s (middle ++ (h ∷ before)))
since_first apart s h middle before q r x run is it takes =
    let w : WorldAt = world_after s before in
    let b : Beginning = since_it s q r w x in
    let now : List PortIn = tick_then s q w ∷ told_then s q w in
    since_all apart s q b middle (h ∷ before) (due_at (link_told (set_at s q) now) (ticks_open (set_at s q) now % b.every) it.due).1 run takes
    (subst (λ e. Since s q b (world_step s h.says h.answer w e)) (sym is) (begins s q r h.says h.answer w x it))

-- the second comes in an event of the newer ones
comes_again : TicksAreApart → (s : Setting) (newer before : List Happened) (h : Happened) (k : ℕ) (link : LinkCfg) (r : Role) (x y : Sending) → IsRun s (newer ++ (h ∷ before)) → NewIn s (world_after s before) link r h.event x → x.moment ≡ length (h ∷ before) →
    PutIn s (newer ++ (h ∷ before)) k link r y → x.message.head.seq ≡ y.message.head.seq → AtEach (IsOpenAt s link r) newer (h ∷ before) → x.moment < y.moment →
    (x.at +ℤ pos (65_000 * min (unsigned_abs s.cfg.sync) (unsigned_abs s.cfg.delay) * shortest_tick s.cfg)) ≤ℤ y.at
comes_again apart s newer before h k link r x y run new moment it same takes less =
    let older : List Happened = h ∷ before in
    let q : PortOf = port_at link r in
    let ymoment : y.moment ≡ length (it.event ∷ it.before) = it.moment in
    let part : Onward newer older it.newer it.before = onward newer older it.newer it.before it.event it.splits (omega (arith, moment, ymoment, less)) in
    let open_each : AtEach (IsOpen s q) (part.first ∷ part.middle) older =
    at_rest (IsOpen s q) it.newer (part.first ∷ part.middle) older (subst (λ (l : List Happened). AtEach (IsOpen s q) l older) part.rest takes) in
    let latest : IsRun s (it.event ∷ it.before) = older_run s it.newer (it.event ∷ it.before) (subst (IsRun s) it.splits run) in
    let was : IsRun s (part.middle ++ older) = subst (IsRun s) part.splits (run_before s it.event it.before latest) in
    let w : WorldAt = world_after s it.before in
    let since : Since s q (since_it s q r (world_after s before) x) w =
    subst (λ (l : List Happened). Since s q (since_it s q r (world_after s before) x) (world_after s l)) (sym part.splits)
    (since_first apart s h part.middle before q r x was new.0 (on_tick s (world_after s before) link r h.event x new) open_each.1) in
    let open_there : IsOpen s q it.before = subst (IsOpen s q) (sym part.splits) (at_newest (IsOpen s q) part.middle older open_each.1) in
    comes_late s q r (world_after s before) w x y it.event.says run.network (subst (Accepts s w it.event.says) it.new.0 latest.accepted.0)
    (on_tick s (world_after s before) link r h.event x new) (on_tick s w link r it.event.event y it.new) open_there since same

pub ids_come_again_late : TicksAreApart → IdsComeAgainLate
ids_come_again_late apart s newer [] k link r x y run is xput moment yput xtimed ytimed same takes less = absurd xput
ids_come_again_late apart s newer (h ∷ before) k link r x y run is xput moment yput xtimed ytimed same takes less =
    comes_again apart s newer before h k link r x y run (new_in s h before k link r x is xtimed xput moment) moment
    (put_in s (newer ++ (h ∷ before)) k link r y is ytimed yput) same takes less
