-- The newest Delay_Req that a link's slave put out.
use Rattle.std.proofs.Common.{◌≡◌, ◌⊎◌, inl, inr, refl, ap, sym, subst, ℕ, ◌+◌, ◌≤◌, ℤ, ◌≤ℤ◌, Bool, true, false, List, [], ◌∷◌, length, Some, Result, arith}
use Rattle.wrp_base.specs.declared.link.Role.{Role}
use Rattle.wrp_base.specs.declared.link.Role.TheVariants.{Slave}
use Rattle.wrp_base.specs.declared.message.PtpMsg.{PtpMsg}
use Rattle.wrp_network.specs.declared.network.LinkCfg.{LinkCfg}
use Rattle.wrp_base.proofs.Naturals.{le_of_same}
use Rattle.wrp_frame.specs.declared.fault.FrameFault.{FrameFault}
use Rattle.wrp_node.specs.SetLaws.{EndsAreSet}
use Rattle.wrp_course.specs.declared.event.Event.TheVariants.{Tick}
use Rattle.wrp_course.specs.Given.{sending, world_step}
use Rattle.wrp_course.specs.Moved.{moved}
use Rattle.wrp_course.specs.Run.{Happened, world_after}
use Rattle.wrp_course.specs.Runs.{IsRun, WasPutOut}
use Rattle.wrp_course.specs.Setting.{Setting, link_of}
use Rattle.wrp_course.specs.WorldAt.{Sending, WorldAt}
use Rattle.wrp_course.proofs.RunFlights.{times_keep}
use Rattle.wrp_bound_laws.specs.OneMessage.{NewestRequest}
use Rattle.wrp_bound_laws.proofs.Schedules.IdsPutOut.{other_timed, timed_in}
use Rattle.wrp_bound_laws.proofs.Nodes.Inputs.{IsNoTickOf}
use Rattle.wrp_bound_laws.proofs.Frames.PutOut.{put_stays}
use Rattle.wrp_bound_laws.proofs.Runs.Suffixes.{count_is, older_run}
use Rattle.wrp_bound_laws.proofs.Frames.TimedTicks.{due_then, is_due_then, timed_then}
use Rattle.wrp_bound_laws.proofs.Nodes.StepSends.{IsRequest}

pub known_moment : (s : Setting) (events : List Happened) (k : ℕ) (r : Role) (x : Sending) → IsRun s events → WasPutOut x ((world_after s events).end_at k r).sent → (x.moment ≤ length events) × (x.at ≤ℤ (world_after s events).time)
known_moment s events k r x run put =
    let it : _ = (times_keep s events run.each run.accepted).sent k r x put in
    (subst (λ c. x.moment ≤ c) (count_is s events) it.1, it.0)

-- it stays the newest after an event in which no other is put out
abbrev pub NoneNew : Setting → Happened → List Happened → ℕ → Type 0
NoneNew s h before k = (y : Sending) → IsRequest y.message.body → WasPutOut y ((world_after s (h ∷ before)).end_at k Slave).sent → WasPutOut y ((world_after s before).end_at k Slave).sent

pub newest_stays : (s : Setting) (h : Happened) (before : List Happened) (k : ℕ) (x : Sending) → NoneNew s h before k → NewestRequest s before k x → NewestRequest s (h ∷ before) k x
newest_stays s h before k x none it = record {
  put = put_stays s h before k Slave x it.put;
  request = it.request;
  newest = λ y put request. it.newest y (none y request put) request;
}

pub none_new : (s : Setting) (h : Happened) (before : List Happened) (k : ℕ) (link : LinkCfg) → link_of s k ≡ Some link → IsNoTickOf link.lower h.event → NoneNew s h before k
none_new s h before k link is none y request put = other_timed s h.says h.answer (world_after s before) h.event k link Slave y is request none put

-- what a tick puts out that is new
tick_new : (s : Setting) (says : Result PtpMsg FrameFault) (y : ℤ) (w : WorldAt) (k : ℕ) (link : LinkCfg) (x : Sending) → link_of s k ≡ Some link → IsRequest x.message.body →
    WasPutOut x ((world_step s says y w (Tick link.lower)).end_at k Slave).sent → WasPutOut x (w.end_at k Slave).sent ⊎ ((is_due_then s w Slave link ≡ true) × (x.moment ≡ w.count + 1))
tick_new s says y w k link x is request put =
    elim (timed_in s says y w (Tick link.lower) k link Slave x is request put) [
      | inl old ↦ inl old
      | inr new ↦ inr (new.1.2.1, ap (λ (t : Sending). t.moment) new.1.1)
    ]

-- a tick at which none is due
pub none_due : (s : Setting) (says : Result PtpMsg FrameFault) (y : ℤ) (before : List Happened) (k : ℕ) (link : LinkCfg) → link_of s k ≡ Some link → is_due_then s (world_after s before) Slave link ≡ false →
    NoneNew s (record { event = Tick link.lower; says = says; answer = y }) before k
none_due s says y before k link is due z request put =
    elim (tick_new s says y (world_after s before) k link z is request put) [
      | inl old ↦ old
      | inr new ↦ absurd (not_both (is_due_then s (world_after s before) Slave link) due new.0)
    ]
  where
    not_both : (b : Bool) → b ≡ false → b ≡ true → ⊥
    not_both b e f = cc

at_most_next : (a b c : ℕ) → a ≤ b → c ≡ b + 1 → a ≤ c
at_most_next a b c h e = omega (arith, h, e)

-- a tick at which one is due
pub newest_now : EndsAreSet → (s : Setting) (says : Result PtpMsg FrameFault) (y : ℤ) (before : List Happened) (k : ℕ) (link : LinkCfg) → IsRun s (record { event = Tick link.lower; says = says; answer = y } ∷ before) → link_of s k ≡ Some link →
    is_due_then s (world_after s before) Slave link ≡ true →
    NewestRequest s (record { event = Tick link.lower; says = says; answer = y } ∷ before) k (sending (moved s (world_after s before) (Tick link.lower)) (timed_then s (world_after s before) Slave link))
newest_now ends s says y before k link run is due =
    let w : WorldAt = world_after s before in
    let h : Happened = record { event = Tick link.lower; says = says; answer = y } in
    let x : Sending = sending (moved s w (Tick link.lower)) (timed_then s w Slave link) in
    record {
      put = due_then ends s run.network says y w k Slave link is due;
      request = tt;
      newest = λ z put request.
          elim (tick_new s says y w k link z is request put) [
            | inl old ↦ at_most_next z.moment w.count x.moment (subst (λ c. z.moment ≤ c) (sym (count_is s before)) (known_moment s before k Slave z (older_run s (h ∷ []) before run) old).0) refl
            | inr new ↦ le_of_same z.moment x.moment new.1
          ];
    }
