-- Frames that are handed over, octets that the peer did not send, and ticks: what a node may be given.
use Rattle.std.proofs.Common.{◌≡◌, inl, inr, ◌∙◌, refl, ap, sym, subst, subst₂, ℕ, ◌==◌, ◌&&◌, ◌≤ℤ◌, ℤ, pos, ◌+ℤ◌, ◌-ℤ◌, not, Bool, true, false, if◌then◌else◌, List, [], ◌∷◌, Option, None, Some, Result, Ok, Err, arith}
use Rattle.std.proofs.lemmas.Int.{ints}
use Rattle.std.specs.Int.Signed.{le_z}
use Rattle.std.specs.Option.{option_map_or}
use Rattle.std.proofs.lemmas.Bool.{true≢false}
use Rattle.std.proofs.lemmas.Option.{none-some, same_Some}
use Rattle.wrp_base.specs.declared.link.Role.{Role}
use Rattle.wrp_base.specs.declared.link.Role.TheVariants.{Master, Slave}
use Rattle.wrp_base.specs.declared.message.Body.{Body}
use Rattle.wrp_base.specs.declared.message.Body.TheVariants.{Sync, DelayReq, FollowUp, DelayResp, Announce, Signal}
use Rattle.wrp_base.specs.declared.message.PtpMsg.{PtpMsg}
use Rattle.wrp_network.specs.Network.{End}
use Rattle.wrp_base.specs.Link.{other_of}
use Rattle.wrp_base.specs.Message.{is_port}
use Rattle.wrp_bounds.specs.Times.{frame_life}
use Rattle.wrp_data.specs.declared.reason.Reason.{Reason}
use Rattle.wrp_data.specs.declared.reason.Reason.TheVariants.{Domain, NotForUs, Quiet, Stranger}
use Rattle.wrp_frame.specs.declared.fault.FrameFault.{FrameFault}
use Rattle.wrp_frame.specs.SentOctets.{octets_of}
use Rattle.wrp_handshake_laws.specs.Ends.{Sending as Message, IsAmong}
use Rattle.wrp_node.specs.declared.interface.Input.TheVariants.{Frame}
use Rattle.wrp_node.specs.LinkNews.{Nothing, news_of, frame_news}
use Rattle.wrp_node.specs.NodeAt.{link_at, setting_of}
use Rattle.wrp_port.specs.declared.setting.Setting.{Setting as PortSetting}
use Rattle.wrp_port.specs.Hearing.{early_reason, is_addressed, is_open, link_input}
use Rattle.wrp_port.specs.History.{input_unless}
use Rattle.wrp_course.specs.declared.place.Place.{Place}
use Rattle.wrp_course.specs.Checks.{AllHold}
use Rattle.wrp_course.proofs.RunCarriers.{end_alike}
use Rattle.wrp_course.specs.Given.{Given, delivered, delivered_by, delivered_to, gives_all, in_body}
use Rattle.wrp_course.specs.Premises.{deliver_by, deliver_checks, is_forged, noise_checks, too_old}
use Rattle.wrp_course.specs.Runs.{IsNetwork, WasPutOut}
use Rattle.wrp_course.specs.LinkEnds.{link_sent, sent_with}
use Rattle.wrp_course.specs.Setting.{Setting, end_at, node_setting_of}
use Rattle.wrp_course.specs.WorldAt.{Arrival, FrameAt, Sending, WorldAt}
use Rattle.wrp_course.proofs.RunFrames.{FrameOf}
use Rattle.wrp_course.proofs.RunGiven.{IsFair, IsKnown}
use Rattle.wrp_course.proofs.RunKept.{Known, Laws, RunKeeps, Where, fair_keeps}
use Rattle.wrp_course.proofs.RunNetwork.{are_apart}

-- A frame is handed over

in_with : (o : Option Message) (m : Message) (ms : List Message) → IsAmong m ms → IsAmong m (sent_with o ms)
in_with None m ms h = h
in_with (Some x) m ms h = inr h

in_link : (x : Sending) (xs : List Sending) (m : Message) → WasPutOut x xs → in_body x.message.body x.at ≡ Some m → IsAmong m (link_sent xs)
in_link x [] m h e = absurd h
in_link x (z ∷ xs) m h e = elim h [
  | inl is ↦
      let there : in_body z.message.body z.at ≡ Some m = ap (λ (t : Sending). in_body t.message.body t.at) (sym is) ∙ e in
      rw there (inl refl)
  | inr t ↦ in_with (in_body z.message.body z.at) m (link_sent xs) (in_link x xs m t e)
]

body_at : (body : Body) (at : ℤ) (m : Message) → in_body body at ≡ Some m → m.1 ≡ at
body_at (Signal target (Some message)) at m e = ap (λ (x : Message). x.1) (sym (same_Some (message, at) m e))
body_at (Signal target None) at m e = absurd (none-some m e)
body_at (Sync origin) at m e = absurd (none-some m e)
body_at (DelayReq origin) at m e = absurd (none-some m e)
body_at (FollowUp precise) at m e = absurd (none-some m e)
body_at (DelayResp receive requesting) at m e = absurd (none-some m e)
body_at (Announce origin utc p1 quality p2 gm steps source suffix) at m e = absurd (none-some m e)

young : (now at past : ℤ) (life : ℕ) → past ≡ at → not (le_z (now -ℤ at) (pos life)) ≡ false → now ≤ℤ (past +ℤ pos life)
young now at past life e h = grind (arith, ints, e, h)

pub other_twice : (r : Role) → other_of (other_of r) ≡ r
other_twice Master = refl
other_twice Slave = refl

abbrev handed_over : FrameAt → Arrival → ℕ → ℕ → Given
handed_over f arrival n p = record {
  to = n;
  input = Frame p (record { items = octets_of f.sending.message }) arrival.raw arrival.sample;
  says = Ok f.sending.message;
  at = f.sending.at;
}

handed_known : (s : Setting) → IsNetwork s → (w v : WorldAt) (f : FrameAt) (k : ℕ) (r : Role) → (k ≡ f.link) × (r ≡ other_of f.by) → v.time ≡ w.time →
    WasPutOut f.sending (v.end_at f.link f.by).sent → (too_old s.cfg w.time f.sending).fails ≡ false → IsKnown s v k r (Ok f.sending.message) f.sending.at
handed_known s net w v f k r where_it_is time put old m e =
    let there : IsAmong m (link_sent (v.end_at f.link f.by).sent) = in_link f.sending (v.end_at f.link f.by).sent m put e in
    let back : other_of r ≡ f.by = ap other_of where_it_is.1 ∙ other_twice f.by in (
      subst₂ (λ (a : ℕ) (b : Role). IsAmong m (link_sent (v.end_at a b).sent)) (sym where_it_is.0) (sym back) there,
      subst (λ t. t ≤ℤ (m.1 +ℤ pos (frame_life s.cfg))) (sym time)
          (young w.time f.sending.at m.1 (frame_life s.cfg) (body_at f.sending.message.body f.sending.at m e) old),
    )

handed_fair : (s : Setting) → IsNetwork s → (w v : WorldAt) (f : FrameAt) (arrival : Arrival) (end : End) → end_at s f.link (other_of f.by) ≡ Some end → v.time ≡ w.time →
    WasPutOut f.sending (v.end_at f.link f.by).sent → (too_old s.cfg w.time f.sending).fails ≡ false → IsFair s v (handed_over f arrival end.node end.port)
handed_fair s net w v f arrival end is time put old =
    inr (λ k r other at node port.
    handed_known s net w v f k r
    (are_apart s net k f.link r (other_of f.by) end (at ∙ ap Some (end_alike other end node port)) is)
    time put old)

handed_keeps : Laws → (s : Setting) (R : Known) (D : Where) → IsNetwork s → (y : ℤ) (w v : WorldAt) (f : FrameAt) (arrival : Arrival) (o : Option End) → end_at s f.link (other_of f.by) ≡ o → v.time ≡ w.time →
    WasPutOut f.sending (v.end_at f.link f.by).sent → (too_old s.cfg w.time f.sending).fails ≡ false → RunKeeps s R D v →
    RunKeeps s R D (gives_all s y v (option_map_or (λ end. delivered_to f arrival end.node end.port) o []))
handed_keeps laws s R D net y w v f arrival None is time put old h = h
handed_keeps laws s R D net y w v f arrival (Some end) is time put old h =
    fair_keeps laws s R D net y v (handed_over f arrival end.node end.port) (handed_fair s net w v f arrival end is time put old) h

arrival_keeps : Laws → (s : Setting) (R : Known) (D : Where) → IsNetwork s → (y : ℤ) (w v : WorldAt) (i : ℕ) (f : FrameAt) (arrival : Option Arrival) → v.time ≡ w.time →
    WasPutOut f.sending (v.end_at f.link f.by).sent → AllHold (deliver_by s w i f arrival) → RunKeeps s R D v → RunKeeps s R D (gives_all s y v (delivered_by s f arrival))
arrival_keeps laws s R D net y w v i f None time put a h = h
arrival_keeps laws s R D net y w v i f (Some arrival) time put a h =
    handed_keeps laws s R D net y w v f arrival (end_at s f.link (other_of f.by)) refl time put a.0 h

pub deliver_keeps : Laws → (s : Setting) (R : Known) (D : Where) → IsNetwork s → (y : ℤ) (w v : WorldAt) (i : ℕ) (o : Option FrameAt) → v.time ≡ w.time → FrameOf v o →
    AllHold (deliver_checks s w i o) → RunKeeps s R D v → RunKeeps s R D (gives_all s y v (delivered s o))
deliver_keeps laws s R D net y w v i None time put a h = h
deliver_keeps laws s R D net y w v i (Some f) time put a h = arrival_keeps laws s R D net y w v i f f.arrival time put a h

-- Octets that the peer did not send

stranger : (d b : Bool) (x : Option Reason) → b ≡ false → (reason : Reason) × ((if d then (if b then x else Some Stranger) else Some Domain) ≡ Some reason)
stranger true b x e = (Stranger, rw e refl)
stranger false b x e = (Domain, refl)

pub noise_news : (s : Setting) (v : WorldAt) (n p : ℕ) (says : Result PtpMsg FrameFault) → is_forged s n p says ≡ false → frame_news (node_setting_of s n) (v.node n) p says ≡ Nothing
noise_news s v n p (Err fault) e = refl
noise_news s v n p (Ok m) e =
    let set : PortSetting = setting_of (s.set n) p in
    let it : (reason : Reason) × (early_reason set (link_at (s.set n) (v.node n) p) m ≡ Some reason) =
    stranger (m.head.domain == set.own.domain) (is_port m.head.source set.ds.peer)
    (if is_addressed set.ds m.body then (if is_open (link_at (s.set n) (v.node n) p) then None else Some Quiet) else Some NotForUs) e in
    ap (λ o. news_of (input_unless o (link_input set.ds.role m.body))) it.1

pub not_forged : (s : Setting) (w : WorldAt) (n p : ℕ) (says : Result PtpMsg FrameFault) (o : Option Place) → AllHold (noise_checks s w n p says o) → is_forged s n p says ≡ false
not_forged s w n p says None a = absurd (true≢false a.0)
not_forged s w n p says (Some place) a = a.0

-- A tick

pub not_early : (up : Bool) (now past : ℤ) (dmin : ℕ) → not up ≡ false → (up && not (le_z (pos dmin) (now -ℤ past))) ≡ false → (past +ℤ pos dmin) ≤ℤ now
not_early true now past dmin u h = grind (arith, ints, h)
not_early false now past dmin u h = absurd (true≢false u)
