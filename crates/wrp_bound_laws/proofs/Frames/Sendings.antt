-- When a frame was put out, and that an Announce of a certain time is put out by a node that ticks in TRACK.
use Rattle.std.proofs.Common.{◌≡◌, ◌⊎◌, inl, inr, ◌∙◌, refl, ap, sym, subst, ℕ, ℤ, List, [], ◌∷◌, ◌++◌, map, length, Some, Result, ◌+◌, ◌≤◌, arith}
use Rattle.wrp_base.specs.declared.link.Role.{Role}
use Rattle.wrp_base.specs.declared.link.Role.TheVariants.{Master}
use Rattle.wrp_base.specs.declared.message.PtpMsg.{PtpMsg}
use Rattle.wrp_network.specs.declared.network.LinkCfg.{LinkCfg}
use Rattle.wrp_frame.specs.declared.fault.FrameFault.{FrameFault}
use Rattle.wrp_node.specs.declared.interface.Input.{Input}
use Rattle.wrp_node.specs.declared.interface.Input.TheVariants.{Tick as TickInput}
use Rattle.wrp_course.specs.declared.event.Event.{Event}
use Rattle.wrp_course.specs.declared.event.Event.TheVariants.{Tick}
use Rattle.wrp_course.proofs.RunFlights.{put_either}
use Rattle.wrp_course.specs.Given.{Given, given_by, given_plain, gives, gives_all, sending, step_of, taken_of, world_step}
use Rattle.wrp_course.specs.Moved.{moved}
use Rattle.wrp_course.specs.Run.{Happened, world_after}
use Rattle.wrp_course.specs.Runs.{WasPutOut}
use Rattle.wrp_course.specs.Setting.{Setting, end_at, node_setting_of, link_of}
use Rattle.wrp_course.specs.WorldAt.{Sending, WorldAt}
use Rattle.wrp_course.proofs.RunFrames.{moved_sent, told_either}
use Rattle.wrp_course.proofs.RunTimes.{all_given_time}
use Rattle.wrp_bound_laws.specs.Announcing.{IsCertainAnnounce}
use Rattle.wrp_bound_laws.proofs.Sources.Announces.{MayAnnounce, OnlyWhen, announces_only}
use Rattle.wrp_bound_laws.proofs.Nodes.Inputs.{IsNoTick, no_tick_to, tick_or_not}
use Rattle.wrp_bound_laws.proofs.Frames.PutOut.{none_put, tick_put}
use Rattle.wrp_bound_laws.proofs.Runs.Suffixes.{all_given_count, count_is, rest_length}

-- When

abbrev IsNow : WorldAt → Sending → Type 0
IsNow v x = (x.moment ≡ v.count) × (x.at ≡ v.time)

sent_now : (v : WorldAt) (x : Sending) (ms : List PtpMsg) → WasPutOut x (map (sending v) ms) → IsNow v x
sent_now v x [] h = absurd h
sent_now v x (m ∷ ms) h = elim h [
  | inl is ↦ (ap (λ (t : Sending). t.moment) is, ap (λ (t : Sending). t.at) is)
  | inr rest ↦ sent_now v x ms rest
]

given_put : (s : Setting) (y : ℤ) (v : WorldAt) (g : Given) (k : ℕ) (r : Role) (x : Sending) → WasPutOut x ((gives s y v g).end_at k r).sent → WasPutOut x (v.end_at k r).sent ⊎ IsNow v x
given_put s y v g k r x =
    told_either (λ e. WasPutOut x e.sent → WasPutOut x (v.end_at k r).sent ⊎ IsNow v x) s v g (step_of s y v g) k r (end_at s k r) (λ h. inl h)
    (λ end h. elim (put_either x (map (sending v) ((step_of s y v g).sends end.port)) (v.end_at k r).sent h) [
      | inl new ↦ inr (sent_now v x ((step_of s y v g).sends end.port) new)
      | inr old ↦ inl old
    ])

all_given_put : (s : Setting) (y : ℤ) (gs : List Given) (v : WorldAt) (k : ℕ) (r : Role) (x : Sending) → WasPutOut x ((gives_all s y v gs).end_at k r).sent → WasPutOut x (v.end_at k r).sent ⊎ IsNow v x
all_given_put s y [] v k r x h = inl h
all_given_put s y (g ∷ gs) v k r x h = elim (all_given_put s y gs (gives s y v g) k r x h) [
  | inl before ↦ given_put s y v g k r x before
  | inr now ↦ inr now
]

-- a frame was put out in the newest of these events
pub record PutOutIn (s : Setting) (older : List Happened) (k : ℕ) (r : Role) (x : Sending) : Type 0 where
  pub put : WasPutOut x ((world_after s older).end_at k r).sent
  pub moment : x.moment ≡ length older
  pub at : x.at ≡ (world_after s older).time

-- a frame that was put out was put out in an event of the run
pub record WasPut (s : Setting) (events : List Happened) (k : ℕ) (r : Role) (x : Sending) : Type 0 where
  pub newer : List Happened
  pub older : List Happened
  pub splits : events ≡ newer ++ older
  pub in_it : PutOutIn s older k r x

pub was_put : (s : Setting) (events : List Happened) (k : ℕ) (r : Role) (x : Sending) → WasPutOut x ((world_after s events).end_at k r).sent → WasPut s events k r x
was_put s [] k r x h = absurd h
was_put s (h ∷ before) k r x put =
    let w : WorldAt = world_after s before in
    let v : WorldAt = moved s w h.event in
    let gs : List Given = given_by s w v h.says h.event in
    elim (all_given_put s h.answer gs v k r x put) [
      | inl old ↦
          let it : WasPut s before k r x = was_put s before k r x (subst (WasPutOut x) (moved_sent s w h.event k r) old) in
          record { newer = h ∷ it.newer; older = it.older; splits = ap (λ l. h ∷ l) it.splits; in_it = it.in_it }
      | inr now ↦
          record {
            newer = [];
            older = h ∷ before;
            splits = refl;
            in_it = record {
              put = put;
              moment = now.0 ∙ sym (all_given_count s h.answer gs v) ∙ count_is s (h ∷ before);
              at = now.1 ∙ sym (all_given_time s h.answer gs v);
            };
          }
    ]

-- what the newest event puts out was not put out before it
too_early : (b c moment : ℕ) → c ≤ b → moment ≡ b + 1 → moment ≡ c → ⊥
too_early b c moment h e f = omega (arith, h, e, f)

next_length : (x : Happened) (xs : List Happened) → length (x ∷ xs) ≡ length xs + 1
next_length x xs = omega arith

pub is_new : (s : Setting) (h : Happened) (before : List Happened) (k : ℕ) (r : Role) (x : Sending) → PutOutIn s (h ∷ before) k r x → WasPutOut x ((world_after s before).end_at k r).sent → ⊥
is_new s h before k r x put old =
    let it : WasPut s before k r x = was_put s before k r x old in
    too_early (length before) (length it.older) x.moment (subst (λ l. length it.older ≤ length l) (sym it.splits) (rest_length it.newer it.older)) (put.moment ∙ next_length h before) it.in_it.moment

-- An Announce of a certain time

sent_when : (C : Type 0) (v : WorldAt) (x : Sending) (ms : List PtpMsg) → IsCertainAnnounce x.message → OnlyWhen C ms → WasPutOut x (map (sending v) ms) → C
sent_when C v x [] certain only h = absurd h
sent_when C v x (m ∷ ms) certain only h = elim h [
  | inl is ↦ only.0 (subst IsCertainAnnounce (ap (λ (t : Sending). t.message) is) certain)
  | inr rest ↦ sent_when C v x ms certain only.1 rest
]

no_announce : (s : Setting) (v : WorldAt) (n : ℕ) (input : Input) → IsNoTick input → MayAnnounce (node_setting_of s n) (v.node n) input → ⊥
no_announce s v n TickInput h m = absurd h
no_announce s v n _ h m = m

step_certain : (s : Setting) (y : ℤ) (v : WorldAt) (g : Given) (p : ℕ) (x : Sending) → IsCertainAnnounce x.message → WasPutOut x (map (sending v) ((step_of s y v g).sends p)) → MayAnnounce (node_setting_of s g.to) (v.node g.to) g.input
step_certain s y v g p x certain new =
    sent_when (MayAnnounce (node_setting_of s g.to) (v.node g.to) g.input) v x ((step_of s y v g).sends p) certain (announces_only (node_setting_of s g.to) (taken_of y g) (v.node g.to) p) new

-- it is new in a tick of the master's node in TRACK, or of the grandmaster
abbrev pub CertainIn : Setting → WorldAt → ℕ → LinkCfg → Event → Sending → Type 0
CertainIn s w k link e x = WasPutOut x (w.end_at k Master).sent ⊎ ((e ≡ Tick link.upper) × MayAnnounce (node_setting_of s link.upper) (w.node link.upper) TickInput)

pub certain_in : (s : Setting) (says : Result PtpMsg FrameFault) (y : ℤ) (w : WorldAt) (e : Event) (k : ℕ) (link : LinkCfg) (x : Sending) → link_of s k ≡ Some link → IsCertainAnnounce x.message →
    WasPutOut x ((world_step s says y w e).end_at k Master).sent → CertainIn s w k link e x
certain_in s says y w e k link x is certain put = elim (tick_or_not link.upper e) [
  | inl tick ↦
      elim (tick_put s says y w k Master link x is (subst (λ t. WasPutOut x ((world_step s says y w t).end_at k Master).sent) tick put)) [
        | inl old ↦ inl old
        | inr new ↦ inr (tick, step_certain s y (moved s w (Tick link.upper)) (given_plain link.upper TickInput) link.upper_port x certain new)
      ]
  | inr other ↦
      inl (none_put IsNoTick s says y w e k Master link x is (λ v g none new. no_announce s v g.to g.input none (step_certain s y v g link.upper_port x certain new)) (no_tick_to link.upper e other) put)
]
