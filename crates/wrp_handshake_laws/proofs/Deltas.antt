-- The deltas of a slave are the delays of the module at its peer: both carriers came together, and what is still in
-- force was sent since then.
use Rattle.std.proofs.Common.{◌≡◌, ◌≢◌, ◌⊎◌, inl, inr, refl, ap, sym, ◌∙◌, subst, ℕ, ℤ, Bool, true, false, cond, eqb, ltb, is_some, List, [], ◌∷◌, Option, None, Some}
use Rattle.std.specs.List.{AllByRecursion}
use Rattle.wrp_base.specs.declared.link.LinkState.{LinkState}
use Rattle.wrp_base.specs.declared.link.LinkState.TheVariants.{Idle, Present, SLock, MLock, Locked, Calibration, Calibrated, RespCalib, LinkOn}
use Rattle.wrp_base.specs.declared.link.Mark.{Mark}
use Rattle.wrp_base.specs.declared.link.Module.{Module}
use Rattle.wrp_base.specs.declared.link.Role.{Role}
use Rattle.wrp_base.specs.declared.link.Role.TheVariants.{Master, Slave}
use Rattle.wrp_base.specs.declared.message.WrMsg.{WrMsg}
use Rattle.wrp_base.specs.declared.message.WrMsg.TheVariants.{Present as SLAVE_PRESENT, Lock as LOCK, Locked as LOCKED, Calibrate as CALIBRATE, Calibrated as CALIBRATED, ModeOn as WR_MODE_ON}
use Rattle.wrp_link.specs.declared.interface.LinkIn.{LinkIn}
use Rattle.wrp_link.specs.declared.interface.LinkIn.TheVariants.{Msg, Announce, Tick, CarrierDown, CarrierUp}
use Rattle.wrp_link.specs.LinkAt.{LinkAt, Waiting}
use Rattle.wrp_link.specs.Rows.{Row, Moves, Resends, Fails, Waits, CarrierGoes, under, may_leave_idle, own_calibrated, slave_row, master_row, message_row, announce_row, resent, timer_row, tick_row, row_of}
use Rattle.wrp_link.specs.Table.{sent_by}
use Rattle.wrp_check.specs.Stretches.{is_idle, joined, stretches_of, newest_of, movers_of, with_mover}
use Rattle.wrp_handshake_laws.specs.Ends.{Sending, IsAmong, stamped, mover_of}
use Rattle.wrp_handshake_laws.proofs.Parts.{joins, begins}

-- a CALIBRATED of this module
abbrev pub IsOwn : Option Module → WrMsg → Type 0
IsOwn fitted m =
    (tx rx : ℕ) → m ≡ CALIBRATED tx rx → (x : Module) × ((fitted ≡ Some x) × (tx ≡ x.tx) × (rx ≡ x.rx))

abbrev pub OwnAll : Option Module → List WrMsg → Type 0
OwnAll fitted ms = AllByRecursion (λ m. IsOwn fitted m) ms

own_of : (fitted : Option Module) → is_some fitted ≡ true → IsOwn fitted (own_calibrated fitted)
own_of None e = cc
own_of (Some x) e = λ tx rx same. (x, (refl, cc, cc))

under_owns : (b : Bool) (fitted : Option Module) (row : Row) → OwnAll fitted (sent_by row) → OwnAll fitted (sent_by (under b row))
under_owns true fitted row h = h
under_owns false fitted row h = tt

cond_owns : (b : Bool) (fitted : Option Module) (r s : Row) → OwnAll fitted (sent_by r) → OwnAll fitted (sent_by s) → OwnAll fitted (sent_by (cond b r s))
cond_owns true fitted r s h k = h
cond_owns false fitted r s h k = k

slave_owns : (fitted : Option Module) (from : LinkState) (m : WrMsg) → OwnAll fitted (sent_by (slave_row from m))
slave_owns fitted Present LOCK = tt
slave_owns fitted Locked (CALIBRATE _ _ _) = tt
slave_owns fitted RespCalib (CALIBRATED tx rx) = (λ a b e. cc, tt)
slave_owns fitted Calibrated WR_MODE_ON = tt
slave_owns fitted _ _ = tt

master_owns : (fitted : Option Module) (l : LinkAt) (from : LinkState) (m : WrMsg) → OwnAll fitted (sent_by (master_row l from m))
master_owns fitted l Idle SLAVE_PRESENT = under_owns (may_leave_idle l) fitted (Moves MLock (LOCK ∷ [])) (λ a b e. cc, tt)
master_owns fitted l MLock SLAVE_PRESENT = (λ a b e. cc, tt)
master_owns fitted l MLock LOCKED = (λ a b e. cc, tt)
master_owns fitted l Calibrated (CALIBRATE _ _ _) = tt
master_owns fitted l RespCalib (CALIBRATED tx rx) = (λ a b e. cc, tt)
master_owns fitted l LinkOn (CALIBRATED _ _) = (λ a b e. cc, tt)
master_owns fitted l LinkOn SLAVE_PRESENT = under_owns _ fitted Fails tt
master_owns fitted l _ _ = tt

message_owns : (fitted : Option Module) (l : LinkAt) (role : Role) (m : WrMsg) → OwnAll fitted (sent_by (message_row l role m))
message_owns fitted l Slave m = slave_owns fitted l.state m
message_owns fitted l Master m = master_owns fitted l l.state m

announce_owns : (fitted : Option Module) (l : LinkAt) (role : Role) (from : LinkState) (suffix : Option ℕ) → OwnAll fitted (sent_by (announce_row l role from suffix))
announce_owns fitted l Slave Idle suffix = under_owns _ fitted (Moves Present (SLAVE_PRESENT ∷ [])) (λ a b e. cc, tt)
announce_owns fitted l _ _ suffix = tt

resent_owns : (l : LinkAt) (s : LinkState) → (s ≢ Idle → is_some l.own_module ≡ true) → OwnAll l.own_module (resent l s)
resent_owns l Present h = (λ a b e. cc, tt)
resent_owns l MLock h = (λ a b e. cc, tt)
resent_owns l Locked h = (λ a b e. cc, tt)
resent_owns l Calibrated h = (λ a b e. cc, (own_of l.own_module (h (λ e. cc)), tt))
resent_owns l _ h = tt

timer_owns : (l : LinkAt) (w : Option Waiting) → (l.state ≢ Idle → is_some l.own_module ≡ true) → OwnAll l.own_module (sent_by (timer_row l w))
timer_owns l None h = tt
timer_owns l (Some w) h =
    cond_owns (eqb w.ticks 1) l.own_module (cond (ltb 0 w.retries) (Resends (resent l l.state)) Fails) Waits
    (cond_owns (ltb 0 w.retries) l.own_module (Resends (resent l l.state)) Fails (resent_owns l l.state h) tt)
    tt

tick_owns : (l : LinkAt) (s : LinkState) (locked : Bool) → (l.state ≢ Idle → is_some l.own_module ≡ true) → l.state ≡ s → OwnAll l.own_module (sent_by (tick_row l s locked))
tick_owns l SLock true h e = (λ a b e. cc, tt)
tick_owns l Calibration locked h e = (own_of l.own_module (h (λ i. let x : Calibration ≡ Idle = sym e ∙ i in cc)), tt)
tick_owns l Idle locked h e = tt
tick_owns l LinkOn locked h e = tt
tick_owns l _ locked h e = timer_owns l l.waiting h

pub row_owns : (l : LinkAt) (input : LinkIn) → (l.state ≢ Idle → is_some l.own_module ≡ true) → OwnAll l.own_module (sent_by (row_of l input))
row_owns l (Msg m) h = under_owns l.carrier l.own_module (message_row l l.role m) (message_owns l.own_module l l.role m)
row_owns l (Announce suffix) h = under_owns l.carrier l.own_module (announce_row l l.role l.state suffix) (announce_owns l.own_module l l.role l.state suffix)
row_owns l (Tick locked) h = under_owns l.carrier l.own_module (tick_row l l.state locked) (tick_owns l l.state locked h refl)
row_owns l CarrierDown h = under_owns l.carrier l.own_module CarrierGoes tt
row_owns l (CarrierUp fitted) h = tt

-- movers of the newest stretch

newest_joined : (mark : Mark) (ss : List (List Mark)) → newest_of (joined mark ss) ≡ mark ∷ newest_of ss
newest_joined mark [] = refl
newest_joined mark (s ∷ ss) = refl

abbrev pub now_moved : List Mark → List Sending
now_moved marks = movers_of (newest_of (stretches_of marks))

pub moved_more : (mark : Mark) (marks : List Mark) → is_idle mark.from ≡ false → now_moved (mark ∷ marks) ≡ with_mover mark.by (now_moved marks)
moved_more mark marks e =
    ap (λ (ss : List (List Mark)). movers_of (newest_of ss)) (joins mark marks e)
    ∙ ap (λ (s : List Mark). movers_of s) (newest_joined mark (stretches_of marks))

pub moved_first : (mark : Mark) (marks : List Mark) → mark.from ≡ Idle → now_moved (mark ∷ marks) ≡ with_mover mark.by []
moved_first mark marks e = ap (λ (ss : List (List Mark)). movers_of (newest_of ss)) (begins mark marks e)

pub in_with : (by : Option Sending) (xs : List Sending) (m : Sending) → IsAmong m xs → IsAmong m (with_mover by xs)
in_with None xs m h = h
in_with (Some (SLAVE_PRESENT, at)) xs m h = h
in_with (Some (_, at)) xs m h = inr h

-- a mover is the message that moved now, or one of before
pub of_with : (input : LinkIn) (at : ℤ) (xs : List Sending) (m : Sending) → IsAmong m (with_mover (mover_of input at) xs) → ((input ≡ Msg m.0) × (m.1 ≡ at)) ⊎ IsAmong m xs
of_with (Msg SLAVE_PRESENT) at xs m h = inr h
of_with (Msg n) at xs m h =
    elim h [
      | inl e ↦ inl (ap (λ (x : WrMsg). Msg x) (sym (ap (λ (x : Sending). x.0) e)), ap (λ (x : Sending). x.1) e)
      | inr i ↦ inr i
    ]
of_with _ at xs m h = inr h

pub stamped_own :
    (time : ℤ) (fitted : Option Module) (ms : List WrMsg) (sent : List Sending) (f : Sending) →
    OwnAll fitted ms → IsAmong f (stamped time ms sent) → (IsOwn fitted f.0 × (f.1 ≡ time)) ⊎ IsAmong f sent
stamped_own time fitted [] sent f all h = inr h
stamped_own time fitted (m ∷ ms) sent f all h =
    elim (stamped_own time fitted ms ((m, time) ∷ sent) f all.1 h) [
      | inl x ↦ inl x
      | inr i ↦
          elim i [
            | inl e ↦ inl (subst (λ (n : WrMsg). IsOwn fitted n) (sym (ap (λ (x : Sending). x.0) e)) all.0, ap (λ (x : Sending). x.1) e)
            | inr j ↦ inr j
          ]
    ]
