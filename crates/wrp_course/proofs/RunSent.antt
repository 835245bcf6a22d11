-- The step in which a frame was put out, and that frames which can still be handed over were put out lately.
use Rattle.std.proofs.Common.{◌≡◌, ◌⊎◌, inl, inr, ◌∙◌, refl, ap, sym, subst, ℕ, suc, ◌+◌, ◌<◌, ◌≤◌, ℤ, pos, ◌+ℤ◌, ◌-ℤ◌, ◌≤ℤ◌, not, false, if◌then◌else◌, List, [], ◌∷◌, ◌++◌, flat_map, length, map, Option, None, Some, arith}
use Rattle.std.proofs.lemmas.Bool.Decides.{eqb_tells}
use Rattle.std.proofs.lemmas.Int.{ints}
use Rattle.std.specs.Int.Signed.{le_z}
use Rattle.std.specs.List.{Contains}
use Rattle.wrp_base.specs.declared.link.Role.{Role}
use Rattle.wrp_base.specs.declared.message.PtpMsg.{PtpMsg}
use Rattle.wrp_network.specs.declared.network.LinkCfg.{LinkCfg}
use Rattle.wrp_network.specs.Network.{End}
use Rattle.wrp_base.proofs.Integers.{int_le_trans}
use Rattle.wrp_bounds.specs.Times.{frame_life}
use Rattle.wrp_node.specs.declared.interface.Output.{Output}
use Rattle.wrp_node.specs.NodeAt.{NodeAt, NodeSetting, link_at, numbers_of, state_of}
use Rattle.wrp_node.specs.NodeRun.{dac_out, frame_out, outputs_of, port_out, servo_out, step_out, track_out, word_out}
use Rattle.wrp_node.specs.Telling.{Step}
use Rattle.wrp_link.specs.Table.{word_of}
use Rattle.wrp_course.specs.Checks.{AllHold}
use Rattle.wrp_course.specs.FramesMayCome.{FramesMayCome}
use Rattle.wrp_course.specs.Given.{Given, NodeStepAt, end_given, given_by, gives, gives_all, node_step_of, sending, step_of, steps_of}
use Rattle.wrp_course.specs.Moved.{moved}
use Rattle.wrp_course.specs.Premises.{deliver_by, deliver_checks}
use Rattle.wrp_course.specs.Run.{Happened, steps_at, world_after}
use Rattle.wrp_course.specs.RunLaws.{FramesWerePutOut, TimeNeverFalls}
use Rattle.wrp_course.specs.RunStamps.{DepartedSo, FramesAreStamped}
use Rattle.wrp_course.specs.Runs.{IsNetwork, WasPutOut}
use Rattle.wrp_course.specs.Setting.{Setting, end_at, end_of, link_of, node_setting_of}
use Rattle.wrp_course.specs.WorldAt.{Arrival, EndAt, FrameAt, Sending, WorldAt}
use Rattle.wrp_course.proofs.RunFlights.{put_either}
use Rattle.wrp_course.proofs.RunFrames.{moved_sent}
use Rattle.wrp_course.proofs.RunGiven.{end_is}
use Rattle.wrp_course.proofs.RunListed.{In, in_left, in_right, is_listed}
use Rattle.wrp_course.proofs.RunNetwork.{LinkEnd, link_end}
use Rattle.wrp_course.proofs.RunPorts.{told_end}
use Rattle.wrp_course.proofs.RunTimes.{all_given_time}

-- Lists

contains : {A : Type 0} (x : A) (xs : List A) → In x xs → Contains xs x
contains x [] h = absurd h
contains x (y ∷ ys) h = elim h [
  | inl e ↦ (0, omega arith, sym e)
  | inr t ↦ let c : Contains ys x = contains x ys t in let lt : c.0 < length ys = c.1 in (suc c.0, omega (arith, lt), c.2)
]

in_each : {A B : Type 0} (f : A → List B) (xs : List A) (a : A) (x : B) → In a xs → In x (f a) → In x (flat_map f xs)
in_each f [] a x i h = absurd i
in_each f (z ∷ zs) a x i h = elim i [
  | inl e ↦ in_left x (f z) (flat_map f zs) (subst (λ t. In x (f t)) e h)
  | inr t ↦ in_right x (f z) (flat_map f zs) (in_each f zs a x t h)
]

-- A step

frame_of : (v : WorldAt) (p : ℕ) (x : Sending) (ms : List PtpMsg) → WasPutOut x (map (sending v) ms) → In (frame_out p x.message) (map (frame_out p) ms)
frame_of v p x [] h = absurd h
frame_of v p x (m ∷ ms) h = elim h [
  | inl e ↦ inl (ap (λ (t : Sending). frame_out p t.message) e)
  | inr t ↦ inr (frame_of v p x ms t)
]

-- what a port sends is among what its node puts out
among_outs : (fixed : NodeSetting) (g : Given) (n : NodeAt) (t : Step) (p : ℕ) (out : Output) → In p (numbers_of fixed.set) → In out (map (frame_out p) (t.sends p)) → In out (outputs_of fixed g.input n t)
among_outs fixed g n t p out listed h =
    let words : List Output = word_out p (word_of (link_at fixed.set n p)) (word_of (link_at fixed.set t.node p)) in
    let first : List Output = step_out t.cycles ++ dac_out t.dac ++ servo_out (state_of fixed n) (state_of fixed t.node) in
    let of_ports : List Output = flat_map (port_out fixed n t) (numbers_of fixed.set) in
    in_left out (first ++ of_ports) (track_out fixed g.input t.node)
    (in_right out first of_ports
    (in_each (port_out fixed n t) (numbers_of fixed.set) p out listed (in_right out words (map (frame_out p) (t.sends p)) h)))

sent_now : (v : WorldAt) (x : Sending) (ms : List PtpMsg) → WasPutOut x (map (sending v) ms) → (x.moment ≡ v.count) × (x.at ≡ v.time)
sent_now v x [] h = absurd h
sent_now v x (m ∷ ms) h = elim h [
  | inl is ↦ (ap (λ (t : Sending). t.moment) is, ap (λ (t : Sending). t.at) is)
  | inr rest ↦ sent_now v x ms rest
]

-- a frame that steps put out at an end
record PutBy (s : Setting) (v : WorldAt) (end : End) (x : Sending) (steps : List NodeStepAt) : Type 0 where
  step : NodeStepAt
  among : In step steps
  node : step.node ≡ end.node
  sent : In (frame_out end.port x.message) step.outs
  now : (x.moment ≡ v.count) × (x.at ≡ v.time)

-- the end of a link is as it was, or what its node's step sends is put out there
pub told_there : (Q : EndAt → Type 0) (s : Setting) (y : ℤ) (v : WorldAt) (g : Given) (k : ℕ) (r : Role) (link : LinkCfg) → link_of s k ≡ Some link → Q (v.end_at k r) →
    ((end_of r link).node ≡ g.to → Q (end_given s v g (step_of s y v g) k r (end_of r link).port)) → Q ((gives s y v g).end_at k r)
told_there Q s y v g k r link is old new =
    let step : Step = step_of s y v g in
    subst Q (sym (ap (told_end s v g step k r) (end_is s k r link is)))
    (elim (eqb_tells (end_of r link).node g.to) [
      | inl x ↦ subst (λ b. Q (if b then end_given s v g step k r (end_of r link).port else v.end_at k r)) (sym x.0) (new x.1)
      | inr x ↦ subst (λ b. Q (if b then end_given s v g step k r (end_of r link).port else v.end_at k r)) (sym x.0) old
    ])

given_put : (s : Setting) → IsNetwork s → (y : ℤ) (v : WorldAt) (g : Given) (k : ℕ) (r : Role) (link : LinkCfg) (x : Sending) (rest : List NodeStepAt) → link_of s k ≡ Some link → WasPutOut x ((gives s y v g).end_at k r).sent →
    WasPutOut x (v.end_at k r).sent ⊎ PutBy s v (end_of r link) x (node_step_of s y v g ∷ rest)
given_put s net y v g k r link x rest is =
    let ms : List PtpMsg = (step_of s y v g).sends (end_of r link).port in
    told_there (λ e. WasPutOut x e.sent → WasPutOut x (v.end_at k r).sent ⊎ PutBy s v (end_of r link) x (node_step_of s y v g ∷ rest)) s y v g k r link is (λ old. inl old)
    (λ here put. elim (put_either x (map (sending v) ms) (v.end_at k r).sent put) [
      | inl new ↦
          inr (record {
            step = node_step_of s y v g;
            among = inl refl;
            node = sym here;
            sent =
                among_outs (node_setting_of s g.to) g (v.node g.to) (step_of s y v g) (end_of r link).port (frame_out (end_of r link).port x.message)
                (subst (λ n. In (end_of r link).port (numbers_of (s.set n))) here (is_listed s net k r link is))
                (frame_of v (end_of r link).port x ms new);
            now = sent_now v x ms new;
          })
      | inr old ↦ inl old
    ])

all_given_put : (s : Setting) → IsNetwork s → (y : ℤ) (gs : List Given) (v : WorldAt) (k : ℕ) (r : Role) (link : LinkCfg) (x : Sending) → link_of s k ≡ Some link → WasPutOut x ((gives_all s y v gs).end_at k r).sent →
    WasPutOut x (v.end_at k r).sent ⊎ PutBy s v (end_of r link) x (steps_of s y v gs)
all_given_put s net y [] v k r link x is h = inl h
all_given_put s net y (g ∷ gs) v k r link x is h = elim (all_given_put s net y gs (gives s y v g) k r link x is h) [
  | inl before ↦ given_put s net y v g k r link x (steps_of s y (gives s y v g) gs) is before
  | inr it ↦ inr (record { step = it.step; among = inr it.among; node = it.node; sent = it.sent; now = it.now })
]

-- An event

all_given_count : (s : Setting) (y : ℤ) (gs : List Given) (v : WorldAt) → (gives_all s y v gs).count ≡ v.count
all_given_count s y [] v = refl
all_given_count s y (g ∷ gs) v = all_given_count s y gs (gives s y v g)

counted : (xs : List Happened) (x : Happened) → length xs + 1 ≡ length (x ∷ xs)
counted xs x = omega arith

count_is : (s : Setting) (events : List Happened) → (world_after s events).count ≡ length events
count_is s [] = refl
count_is s (h ∷ before) =
    let w : WorldAt = world_after s before in
    all_given_count s h.answer (given_by s w (moved s w h.event) h.says h.event) (moved s w h.event) ∙ ap (λ n. n + 1) (count_is s before) ∙ counted before h

-- a frame was put out in the newest of these events
record PutOutIn (s : Setting) (h : Happened) (before : List Happened) (end : End) (x : Sending) : Type 0 where
  steps : PutBy s (moved s (world_after s before) h.event) end x (steps_at s before h)
  moment : x.moment ≡ length (h ∷ before)
  at : x.at ≡ (world_after s (h ∷ before)).time

put_in : (s : Setting) → IsNetwork s → (h : Happened) (before : List Happened) (k : ℕ) (r : Role) (link : LinkCfg) (x : Sending) → link_of s k ≡ Some link → WasPutOut x ((world_after s (h ∷ before)).end_at k r).sent →
    WasPutOut x ((world_after s before).end_at k r).sent ⊎ PutOutIn s h before (end_of r link) x
put_in s net h before k r link x is put =
    let w : WorldAt = world_after s before in
    let v : WorldAt = moved s w h.event in
    let gs : List Given = given_by s w v h.says h.event in
    elim (all_given_put s net h.answer gs v k r link x is put) [
      | inl old ↦ inl (subst (WasPutOut x) (moved_sent s w h.event k r) old)
      | inr it ↦
          inr (record {
            steps = it;
            moment = it.now.0 ∙ ap (λ n. n + 1) (count_is s before) ∙ counted before h;
            at = it.now.1 ∙ sym (all_given_time s h.answer gs v);
          })
    ]

-- A run

-- a frame was put out in one of these events
record PutOutOf (s : Setting) (events : List Happened) (end : End) (x : Sending) : Type 0 where
  since : List Happened
  event : Happened
  before : List Happened
  splits : events ≡ since ++ event ∷ before
  in_it : PutOutIn s event before end x

put_out_of : (s : Setting) → IsNetwork s → (events : List Happened) (k : ℕ) (r : Role) (link : LinkCfg) (x : Sending) → link_of s k ≡ Some link → WasPutOut x ((world_after s events).end_at k r).sent → PutOutOf s events (end_of r link) x
put_out_of s net [] k r link x is put = absurd put
put_out_of s net (h ∷ before) k r link x is put = elim (put_in s net h before k r link x is put) [
  | inl old ↦
      let it : PutOutOf s before (end_of r link) x = put_out_of s net before k r link x is old in
      record { since = h ∷ it.since; event = it.event; before = it.before; splits = ap (λ l. h ∷ l) it.splits; in_it = it.in_it }
  | inr now ↦ record { since = []; event = h; before = before; splits = refl; in_it = now }
]

too_late : (newer events : List Happened) (h : Happened) (moment : ℕ) → moment ≤ length events → moment ≡ length (h ∷ (newer ++ events)) → length events ≤ length (newer ++ events) → ⊥
too_late newer events h moment le e more = omega (arith, le, e, more)

rest_length : (newer events : List Happened) → length events ≤ length (newer ++ events)
rest_length [] events = omega arith
rest_length (h ∷ newer) events = let more : length events ≤ length (newer ++ events) = rest_length newer events in omega (arith, more)

-- what was put out by then was put out in the events until then
put_by_then : (s : Setting) → IsNetwork s → (newer events : List Happened) (k : ℕ) (r : Role) (link : LinkCfg) (x : Sending) → link_of s k ≡ Some link → x.moment ≤ length events →
    WasPutOut x ((world_after s (newer ++ events)).end_at k r).sent → WasPutOut x ((world_after s events).end_at k r).sent
put_by_then s net [] events k r link x is le put = put
put_by_then s net (h ∷ newer) events k r link x is le put = elim (put_in s net h (newer ++ events) k r link x is put) [
  | inl old ↦ put_by_then s net newer events k r link x is le old
  | inr now ↦ absurd (too_late newer events h x.moment le now.moment (rest_length newer events))
]

-- The law

no_older : (now at : ℤ) (life : ℕ) → not (le_z (now -ℤ at) (pos life)) ≡ false → now ≤ℤ (at +ℤ pos life)
no_older now at life h = grind (arith, ints, h)

young : (s : Setting) (w : WorldAt) (i : ℕ) (f : FrameAt) (o : Option Arrival) → AllHold (deliver_by s w i f o) → w.time ≤ℤ (f.sending.at +ℤ pos (frame_life s.cfg))
young s w i f None a = no_older w.time f.sending.at (frame_life s.cfg) a.0
young s w i f (Some arrival) a = no_older w.time f.sending.at (frame_life s.cfg) a.0

pub frames_may_come : TimeNeverFalls → FramesWerePutOut → FramesAreStamped → FramesMayCome
frames_may_come rises were_put stamped s events f may =
    let all : List Happened = may.later ++ events in
    let net : IsNetwork s = may.run.network in
    let there : (end : End) × (end_at s f.link f.by ≡ Some end) = (let it : DepartedSo s all f = (stamped s all may.number f may.run may.there).0 in (it.end, it.end_is)) in
    let it : LinkEnd s f.link f.by there.0 = link_end s f.link f.by there.0 there.1 in
    let put : PutOutOf s events (end_of f.by it.link) f.sending =
    put_out_of s net events f.link f.by it.link f.sending it.there
    (put_by_then s net may.later events f.link f.by it.link f.sending it.there may.put_out (were_put s all may.number f may.run may.there)) in
    let steps : PutBy s (moved s (world_after s put.before) put.event.event) (end_of f.by it.link) f.sending (steps_at s put.before put.event) = put.in_it.steps in
    record {
      since = put.since;
      event = put.event;
      before = put.before;
      splits = put.splits;
      moment = put.in_it.moment;
      at = put.in_it.at;
      recent =
          int_le_trans (world_after s events).time (world_after s all).time (f.sending.at +ℤ pos (frame_life s.cfg)) (rises s may.later events may.run)
          (young s (world_after s all) may.number f f.arrival (subst (λ o. AllHold (deliver_checks s (world_after s all) may.number o)) may.there may.accepted));
      end = end_of f.by it.link;
      end_is = end_is s f.link f.by it.link it.there;
      step = steps.step;
      taken = contains steps.step (steps_at s put.before put.event) steps.among;
      node = steps.node;
      sent = contains _ steps.step.outs steps.sent;
    }
