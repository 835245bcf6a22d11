-- What an event puts out at an end of a link whose sending is stamped: at most one message, in a tick of the end's
-- node.
use Rattle.std.proofs.Common.{◌≡◌, ◌⊎◌, inl, inr, subst, ℕ, ℤ, Some, Result}
use Rattle.wrp_base.specs.declared.link.Role.{Role}
use Rattle.wrp_base.specs.declared.message.PtpMsg.{PtpMsg}
use Rattle.wrp_network.specs.declared.network.LinkCfg.{LinkCfg}
use Rattle.wrp_frame.specs.declared.fault.FrameFault.{FrameFault}
use Rattle.wrp_node.specs.declared.interface.Input.{Input}
use Rattle.wrp_node.specs.declared.interface.Input.TheVariants.{Tick as TickInput}
use Rattle.wrp_course.specs.declared.event.Event.{Event}
use Rattle.wrp_course.specs.declared.event.Event.TheVariants.{Tick}
use Rattle.wrp_course.specs.Given.{given_plain, taken_of, world_step}
use Rattle.wrp_course.specs.Moved.{moved}
use Rattle.wrp_course.specs.Runs.{WasPutOut}
use Rattle.wrp_course.specs.Setting.{Setting, end_of, node_setting_of, link_of}
use Rattle.wrp_course.specs.WorldAt.{Sending, WorldAt}
use Rattle.wrp_bound_laws.specs.SequenceIds.{IsTimed}
use Rattle.wrp_bound_laws.proofs.Schedules.IdsSent.{PutNow, SentAt, put_by_step}
use Rattle.wrp_bound_laws.proofs.Nodes.Inputs.{IsNoTick, IsNoTickOf, no_tick_to, tick_or_not}
use Rattle.wrp_bound_laws.proofs.Frames.PutOut.{none_put, tick_put}

no_timed : (s : Setting) (v : WorldAt) (n : ℕ) (r : Role) (p : ℕ) (m : PtpMsg) (input : Input) → IsNoTick input → SentAt (node_setting_of s n) (v.node n) r p input m → ⊥
no_timed s v n r p m TickInput h t = absurd h
no_timed s v n r p m _ h t = t

-- An event

-- it is new, in a tick of the end's node
abbrev pub NewIn : Setting → WorldAt → LinkCfg → Role → Event → Sending → Type 0
NewIn s w link r e x =
    (e ≡ Tick (end_of r link).node) × PutNow (SentAt (node_setting_of s (end_of r link).node) (w.node (end_of r link).node) r (end_of r link).port TickInput) (moved s w (Tick (end_of r link).node)) x

abbrev pub TimedIn : Setting → WorldAt → ℕ → LinkCfg → Role → Event → Sending → Type 0
TimedIn s w k link r e x = WasPutOut x (w.end_at k r).sent ⊎ NewIn s w link r e x

pub other_timed : (s : Setting) (says : Result PtpMsg FrameFault) (y : ℤ) (w : WorldAt) (e : Event) (k : ℕ) (link : LinkCfg) (r : Role) (x : Sending) → link_of s k ≡ Some link → IsTimed r x.message.body → IsNoTickOf (end_of r link).node e →
    WasPutOut x ((world_step s says y w e).end_at k r).sent → WasPutOut x (w.end_at k r).sent
other_timed s says y w e k link r x is timed none put =
    none_put IsNoTick s says y w e k r link x is
    (λ v g input new.
    let now : PutNow (SentAt (node_setting_of s g.to) (v.node g.to) r (end_of r link).port g.input) v x = put_by_step (node_setting_of s g.to) (taken_of y g) (v.node g.to) r (end_of r link).port v x timed new in
    no_timed s v g.to r (end_of r link).port now.0 g.input input now.2) (no_tick_to (end_of r link).node e none) put

pub timed_in : (s : Setting) (says : Result PtpMsg FrameFault) (y : ℤ) (w : WorldAt) (e : Event) (k : ℕ) (link : LinkCfg) (r : Role) (x : Sending) → link_of s k ≡ Some link → IsTimed r x.message.body →
    WasPutOut x ((world_step s says y w e).end_at k r).sent → TimedIn s w k link r e x
timed_in s says y w e k link r x is timed put = elim (tick_or_not (end_of r link).node e) [
  | inl tick ↦
      elim (tick_put s says y w k r link x is (subst (λ t. WasPutOut x ((world_step s says y w t).end_at k r).sent) tick put)) [
        | inl old ↦ inl old
        | inr new ↦
            inr (
              tick,
              put_by_step (node_setting_of s (end_of r link).node) (taken_of y (given_plain (end_of r link).node TickInput)) (w.node (end_of r link).node) r (end_of r link).port (moved s w (Tick (end_of r link).node)) x timed new,
            )
      ]
  | inr other ↦ inl (other_timed s says y w e k link r x is timed other put)
]
