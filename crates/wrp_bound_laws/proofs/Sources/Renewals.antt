-- How the lease of a link's slave came to have the turns that it has, event by event.
use Rattle.std.proofs.Common.{◌≡◌, ◌⊎◌, inl, inr, ◌∙◌, refl, ap, sym, subst, ℕ, ◌==◌, ◌&&◌, ℤ, pos, ◌+ℤ◌, ◌≤ℤ◌, Bool, true, false, if◌then◌else◌, [], Option, None, Some, Result, Ok, bit_and}
use Rattle.std.proofs.lemmas.Bool.{eqb-true, false≢true}
use Rattle.std.specs.Option.{option_map_or}
use Rattle.arrayvec.specs.ArrayVec.{ArrayVec as Items}
use Rattle.std.proofs.lemmas.Option.{none-some, same_Some}
use Rattle.wrp_base.specs.declared.link.Role.{Role}
use Rattle.wrp_base.specs.declared.link.Role.TheVariants.{Master, Slave}
use Rattle.wrp_base.specs.declared.message.Body.{Body}
use Rattle.wrp_base.specs.declared.message.Body.TheVariants.{Sync, DelayReq, FollowUp, DelayResp, Announce, Signal}
use Rattle.wrp_base.specs.declared.message.Head.{Head}
use Rattle.wrp_base.specs.declared.message.PtpMsg.{PtpMsg}
use Rattle.wrp_network.specs.declared.network.LinkCfg.{LinkCfg}
use Rattle.wrp_base.specs.declared.time.Raw.{Raw}
use Rattle.wrp_network.specs.Network.{End}
use Rattle.wrp_base.specs.Link.{other_of}
use Rattle.wrp_base.specs.Message.{is_port}
use Rattle.wrp_base.proofs.Naturals.{eq_self}
use Rattle.wrp_bounds.specs.Times.{frame_life}
use Rattle.wrp_frame.specs.declared.fault.FrameFault.{FrameFault}
use Rattle.wrp_frame.specs.SentOctets.{octets_of}
use Rattle.wrp_node.specs.declared.interface.Input.{Input}
use Rattle.wrp_node.specs.declared.interface.Input.TheVariants.{Tick as TickInput, Sample as SampleInput, Frame, Sent, Carrier, Reset}
use Rattle.wrp_node.specs.NodeAt.{NodeSetting, NodeAt, link_at, setting_of, slave_of}
use Rattle.wrp_port.specs.Hearing.{renews}
use Rattle.wrp_port.specs.History.{renews_at}
use Rattle.wrp_course.specs.declared.event.Event.{Event}
use Rattle.wrp_course.specs.declared.event.Event.TheVariants.{Pass, Tick, Sample, Depart, Arrive, Deliver, Noise, Down, Up, Cut, Join}
use Rattle.wrp_bound_laws.proofs.DelayPairs.DelayPutOut.{ok_is}
use Rattle.wrp_course.specs.Given.{Given, delivered, delivered_by, delivered_to, given, gives_all, taken_of, world_step}
use Rattle.wrp_course.specs.Moved.{moved}
use Rattle.wrp_course.specs.Premises.{Accepts, is_forged}
use Rattle.wrp_course.specs.Runs.{IsNetwork}
use Rattle.wrp_course.specs.Setting.{Setting, end_at, end_of, node_setting_of, is_role, link_of, place_of}
use Rattle.wrp_course.specs.WorldAt.{Arrival, FrameAt, Sending, WorldAt, has_carrier}
use Rattle.wrp_course.proofs.RunCarriers.{end_alike}
use Rattle.wrp_course.proofs.RunGiven.{end_is}
use Rattle.wrp_course.proofs.RunHanded.{not_forged}
use Rattle.wrp_course.proofs.RunNetwork.{are_apart}
use Rattle.wrp_bound_laws.specs.Announcing.{IsAnnounce, IsCertainAnnounce}
use Rattle.wrp_bound_laws.specs.Leases.{renewal_in, renewed_by, renews_by}
use Rattle.wrp_bound_laws.proofs.Sources.Carried.{Renews, renewing}
use Rattle.wrp_bound_laws.proofs.Nodes.Inputs.{GivesTo, node_given, node_kept}
use Rattle.wrp_bound_laws.proofs.Nodes.StepLeases.{TurnsBefore, turns_at, turns_before}
use Rattle.wrp_bound_laws.proofs.Frames.Deliveries.{deliver_holds}

-- the turns of the lease of a link's slave since it was renewed
abbrev pub turns_in : Setting → WorldAt → LinkCfg → Option ℕ
turns_in s w link = turns_at (node_setting_of s link.lower) (w.node link.lower) link.lower_port

-- Events that renew no lease and count none of its turns

abbrev IsPlain : Input → Type 0
IsPlain TickInput = ⊥
IsPlain (Frame p octets raw sample) = ⊥
IsPlain _ = Unit {0}

plain_before : (fixed : NodeSetting) (n : NodeAt) (p turns : ℕ) (input : Input) (says : Result PtpMsg FrameFault) → IsPlain input → TurnsBefore fixed n p input says turns → turns_at fixed n p ≡ Some turns
plain_before fixed n p turns TickInput says plain h = absurd plain
plain_before fixed n p turns (Frame q octets raw sample) says plain h = absurd plain
plain_before fixed n p turns (SampleInput number base bits) says plain h = h
plain_before fixed n p turns (Sent q seq delay stamp) says plain h = h
plain_before fixed n p turns (Carrier q true own_module) says plain h = h
plain_before fixed n p turns (Carrier q false own_module) says plain h = h.1
plain_before fixed n p turns Reset says plain h = absurd h

abbrev pub IsPlainOf : ℕ → Event → Type 0
IsPlainOf n (Tick m) = n ≡ m → ⊥
IsPlainOf n (Deliver i) = ⊥
IsPlainOf n (Noise m p octets raw) = ⊥
IsPlainOf n _ = Unit {0}

plain_to : (n : ℕ) (e : Event) → IsPlainOf n e → GivesTo IsPlain n e
plain_to n (Tick m) h = λ is. absurd (h is)
plain_to n (Sample m base bits) h = λ is number. tt
plain_to n (Depart m p stamp) h = λ q seq delay t. tt
plain_to n (Deliver i) h = absurd h
plain_to n (Noise m p octets raw) h = absurd h
plain_to n (Down m) h = λ q. tt
plain_to n (Up m off swaps) h = (λ is. tt, λ q own_module. tt)
plain_to n (Cut k) h = λ q. tt
plain_to n (Join k ms sm) h = λ q own_module. tt
plain_to n (Pass dt drifts fibres) h = tt
plain_to n (Arrive i raw) h = tt

pub plain_turns : (s : Setting) (says : Result PtpMsg FrameFault) (y : ℤ) (w : WorldAt) (e : Event) (link : LinkCfg) (turns : ℕ) → slave_of (s.set link.lower) ≡ Some link.lower_port → IsPlainOf link.lower e →
    turns_in s (world_step s says y w e) link ≡ Some turns → turns_in s w link ≡ Some turns
plain_turns s says y w e link turns slave plain =
    let fixed : NodeSetting = node_setting_of s link.lower in
    node_kept (λ m. turns_at fixed m link.lower_port ≡ Some turns → turns_in s w link ≡ Some turns) IsPlain s says y w e link.lower
    (λ t m q old h. old (plain_before fixed m link.lower_port turns t.input t.says q (turns_before fixed t m link.lower_port turns slave h)))
    (plain_to link.lower e plain) (λ h. h)

-- Octets that the peer did not send

forged_not : (s : Setting) (link : LinkCfg) (n p : ℕ) (says : Result PtpMsg FrameFault) (m : PtpMsg) → link.lower ≡ n → link.lower_port ≡ p → says ≡ Ok m → is_forged s n p says ≡ false →
    is_port m.head.source (setting_of (s.set link.lower) link.lower_port).ds.peer ≡ false
forged_not s link n p says m at_node at_port is e =
    ap (λ i. is_port m.head.source (setting_of (s.set i) link.lower_port).ds.peer) at_node
    ∙ ap (λ q. is_port m.head.source (setting_of (s.set n) q).ds.peer) at_port
    ∙ sym (ap (is_forged s n p) is) ∙ e

pub noise_turns : (s : Setting) (says : Result PtpMsg FrameFault) (y : ℤ) (w : WorldAt) (n p : ℕ) (octets : Items ℕ) (raw : Raw) (link : LinkCfg) (turns : ℕ) → slave_of (s.set link.lower) ≡ Some link.lower_port →
    Accepts s w says (Noise n p octets raw) → turns_in s (world_step s says y w (Noise n p octets raw)) link ≡ Some turns → turns_in s w link ≡ Some turns
noise_turns s says y w n p octets raw link turns slave a =
    let fixed : NodeSetting = node_setting_of s link.lower in
    let v : WorldAt = moved s w (Noise n p octets raw) in
    let g : Given = given n (Frame p octets raw (w.clock n).samples) says in
    node_given (λ m. turns_at fixed m link.lower_port ≡ Some turns → turns_in s w link ≡ Some turns) s y v g link.lower
    (λ at_node h. elim (turns_before fixed (taken_of y g) (w.node link.lower) link.lower_port turns slave h) [
      | inl old ↦ old
      | inr now ↦
          let r : Renews (setting_of (s.set link.lower) link.lower_port) (link_at (s.set link.lower) (w.node link.lower) link.lower_port) now.1.0 =
          renewing (setting_of (s.set link.lower) link.lower_port) (link_at (s.set link.lower) (w.node link.lower) link.lower_port) now.1.0 now.1.2 in
          absurd (false≢true (sym (forged_not s link n p says now.1.0 at_node now.0 now.1.1 (not_forged s w n p says (place_of s n p) a)) ∙ r.of_peer))
    ])
    (λ h. h)

-- A frame that is handed over

-- the Announce that it is, if it renews the lease
abbrev Renewing : Setting → WorldAt → ℕ → LinkCfg → Option FrameAt → Type 0
Renewing s w k link o = (x : Sending) × (renewed_by s w k link o ≡ Some x)

pub master_of : (r : Role) → other_of r ≡ Slave → r ≡ Master
master_of Master e = refl
master_of Slave e = cc

renews_where : (a b c : Bool) (x : Sending) → a ≡ true → b ≡ true → c ≡ true → (if a && (b && c) then Some x else None) ≡ Some x
renews_where true true true x d e f = refl
renews_where true true false x d e f = absurd (false≢true f)
renews_where true false c x d e f = absurd (false≢true e)
renews_where false b c x d e f = absurd (false≢true d)

frame_renews : (s : Setting) → IsNetwork s → (w : WorldAt) (k : ℕ) (link : LinkCfg) (f : FrameAt) (end : End) → link_of s k ≡ Some link → end_at s f.link (other_of f.by) ≡ Some end → link.lower ≡ end.node → link.lower_port ≡ end.port →
    renews_at (setting_of (s.set link.lower) link.lower_port) (link_at (s.set link.lower) (w.node link.lower) link.lower_port) f.sending.message ≡ true → renews_by s w k link f ≡ Some f.sending
frame_renews s net w k link f end is at at_node at_port renewed =
    let same : end_of Slave link ≡ end = end_alike (end_of Slave link) end at_node at_port in
    let it : (f.link ≡ k) × (other_of f.by ≡ Slave) = are_apart s net f.link k (other_of f.by) Slave end at (end_is s k Slave link is ∙ ap Some same) in
    renews_where (f.link == k) (is_role f.by Master) (renews_at (setting_of (s.set link.lower) link.lower_port) (link_at (s.set link.lower) (w.node link.lower) link.lower_port) f.sending.message) f.sending
    (ap (λ i. i == k) it.0 ∙ eq_self k) (ap (λ r. is_role r Master) (master_of f.by it.1)) renewed

handed_turns : (s : Setting) → IsNetwork s → (y : ℤ) (w v : WorldAt) (k : ℕ) (link : LinkCfg) (turns : ℕ) (f : FrameAt) (arrival : Arrival) (o : Option End) → slave_of (s.set link.lower) ≡ Some link.lower_port → link_of s k ≡ Some link →
    (v.node link.lower ≡ w.node link.lower) → end_at s f.link (other_of f.by) ≡ o →
    turns_in s (gives_all s y v (option_map_or (λ end. delivered_to f arrival end.node end.port) o [])) link ≡ Some turns → (turns_in s v link ≡ Some turns) ⊎ Renewing s w k link (Some f)
handed_turns s net y w v k link turns f arrival None slave is same at h = inl h
handed_turns s net y w v k link turns f arrival (Some end) slave is same at h =
    let fixed : NodeSetting = node_setting_of s link.lower in
    let g : Given = record {
      to = end.node;
      input = Frame end.port (record { items = octets_of f.sending.message }) arrival.raw arrival.sample;
      says = Ok f.sending.message;
      at = f.sending.at;
    } in
    node_given (λ m. turns_at fixed m link.lower_port ≡ Some turns → (turns_in s v link ≡ Some turns) ⊎ Renewing s w k link (Some f)) s y v g link.lower
    (λ at_node t. elim (turns_before fixed (taken_of y g) (v.node link.lower) link.lower_port turns slave t) [
      | inl old ↦ inl old
      | inr now ↦
          let message : f.sending.message ≡ now.1.0 = ok_is f.sending.message now.1.0 now.1.1 in
          inr (
            f.sending,
            frame_renews s net w k link f end is at at_node now.0
                (ap (λ (n : NodeAt). renews_at (setting_of (s.set link.lower) link.lower_port) (link_at (s.set link.lower) n link.lower_port) f.sending.message) (sym same)
                ∙ ap (renews_at (setting_of (s.set link.lower) link.lower_port) (link_at (s.set link.lower) (v.node link.lower) link.lower_port)) message
                ∙ now.1.2),
          )
    ])
    (λ t. inl t) h

arrival_turns : (s : Setting) → IsNetwork s → (y : ℤ) (w v : WorldAt) (k : ℕ) (link : LinkCfg) (turns : ℕ) (f : FrameAt) (arrival : Option Arrival) → slave_of (s.set link.lower) ≡ Some link.lower_port → link_of s k ≡ Some link → v.node link.lower ≡ w.node link.lower →
    turns_in s (gives_all s y v (delivered_by s f arrival)) link ≡ Some turns → (turns_in s v link ≡ Some turns) ⊎ Renewing s w k link (Some f)
arrival_turns s net y w v k link turns f None slave is same h = inl h
arrival_turns s net y w v k link turns f (Some arrival) slave is same h =
    handed_turns s net y w v k link turns f arrival (end_at s f.link (other_of f.by)) slave is same refl h

frame_turns : (s : Setting) → IsNetwork s → (y : ℤ) (w v : WorldAt) (k : ℕ) (link : LinkCfg) (turns : ℕ) (o : Option FrameAt) → slave_of (s.set link.lower) ≡ Some link.lower_port → link_of s k ≡ Some link → v.node link.lower ≡ w.node link.lower →
    turns_in s (gives_all s y v (delivered s o)) link ≡ Some turns → (turns_in s v link ≡ Some turns) ⊎ Renewing s w k link o
frame_turns s net y w v k link turns None slave is same h = inl h
frame_turns s net y w v k link turns (Some f) slave is same h = arrival_turns s net y w v k link turns f f.arrival slave is same h

-- if it does not renew the lease, the lease is as it was
pub deliver_turns : (s : Setting) → IsNetwork s → (says : Result PtpMsg FrameFault) (y : ℤ) (w : WorldAt) (i k : ℕ) (link : LinkCfg) (turns : ℕ) → slave_of (s.set link.lower) ≡ Some link.lower_port → link_of s k ≡ Some link →
    renewal_in s w k link (Deliver i) ≡ None → turns_in s (world_step s says y w (Deliver i)) link ≡ Some turns → turns_in s w link ≡ Some turns
deliver_turns s net says y w i k link turns slave is none h =
    elim (frame_turns s net y w (moved s w (Deliver i)) k link turns (w.frame i) slave is refl h) [
      | inl old ↦ old
      | inr now ↦ absurd (none_is now.0 (sym none ∙ now.1))
    ]
  where
    none_is : (x : Sending) → None ≡ Some x → ⊥
    none_is x e = cc

-- The frame that renewed it

-- an Announce of the master, which the slave's port took
pub record Renewal (s : Setting) (w : WorldAt) (i k : ℕ) (link : LinkCfg) (x : Sending) : Type 0 where
  pub frame : FrameAt
  pub there : w.frame i ≡ Some frame
  pub link_is : frame.link ≡ k
  pub by_is : frame.by ≡ Master
  pub sending_is : frame.sending ≡ x
  pub renews : Renews (setting_of (s.set link.lower) link.lower_port) (link_at (s.set link.lower) (w.node link.lower) link.lower_port) frame.sending.message

role_is : (r : Role) → is_role r Master ≡ true → r ≡ Master
role_is Master e = refl
role_is Slave e = absurd (false≢true e)

all_true : (a b c : Bool) (x y : Sending) → (if a && (b && c) then Some x else None) ≡ Some y → (a ≡ true) × (b ≡ true) × (c ≡ true) × (x ≡ y)
all_true true true true x y e = (refl, refl, refl, same_Some x y e)
all_true true true false x y e = absurd (none-some y e)
all_true true false c x y e = absurd (none-some y e)
all_true false b c x y e = absurd (none-some y e)

renewal_of : (s : Setting) (w : WorldAt) (i k : ℕ) (link : LinkCfg) (x : Sending) (o : Option FrameAt) → w.frame i ≡ o → renewed_by s w k link o ≡ Some x → Renewal s w i k link x
renewal_of s w i k link x None at e = absurd (none-some x e)
renewal_of s w i k link x (Some f) at e =
    let it : ((f.link == k) ≡ true) × (is_role f.by Master ≡ true) × (renews_at (setting_of (s.set link.lower) link.lower_port) (link_at (s.set link.lower) (w.node link.lower) link.lower_port) f.sending.message ≡ true) × (f.sending ≡ x) =
    all_true (f.link == k) (is_role f.by Master) (renews_at (setting_of (s.set link.lower) link.lower_port) (link_at (s.set link.lower) (w.node link.lower) link.lower_port) f.sending.message) f.sending x e in
    record {
      frame = f;
      there = at;
      link_is = eqb-true f.link k it.0;
      by_is = role_is f.by it.1;
      sending_is = it.3;
      renews = renewing (setting_of (s.set link.lower) link.lower_port) (link_at (s.set link.lower) (w.node link.lower) link.lower_port) f.sending.message it.2;
    }

pub renewal_is : (s : Setting) (w : WorldAt) (i k : ℕ) (link : LinkCfg) (x : Sending) → renewal_in s w k link (Deliver i) ≡ Some x → Renewal s w i k link x
renewal_is s w i k link x e = renewal_of s w i k link x (w.frame i) refl e

-- certain of its time
announce_by : (role : Role) (head : Head) (body : Body) → renews role head body ≡ true → IsAnnounce body × (bit_and head.flags 0x0040 ≡ 0)
announce_by Slave head (Announce origin utc p1 quality p2 gm steps source suffix) e = (tt, eqb-true (bit_and head.flags 0x0040) 0 e)
announce_by Slave head (Sync origin) e = absurd (false≢true e)
announce_by Slave head (DelayReq origin) e = absurd (false≢true e)
announce_by Slave head (FollowUp precise) e = absurd (false≢true e)
announce_by Slave head (DelayResp receive requesting) e = absurd (false≢true e)
announce_by Slave head (Signal target message) e = absurd (false≢true e)
announce_by Master head body e = absurd (false≢true e)

pub renewal_certain : (s : Setting) (w : WorldAt) (i k : ℕ) (link : LinkCfg) (x : Sending) → Renewal s w i k link x → IsCertainAnnounce x.message
renewal_certain s w i k link x r =
    let it : IsAnnounce r.frame.sending.message.body × (bit_and r.frame.sending.message.head.flags 0x0040 ≡ 0) =
    announce_by (setting_of (s.set link.lower) link.lower_port).ds.role r.frame.sending.message.head r.frame.sending.message.body r.renews.renews in
    subst IsCertainAnnounce (ap (λ (z : Sending). z.message) r.sending_is) (record { announce = it.0; certain = it.1 })

-- young, and over a link with its carrier
pub renewal_young : (s : Setting) (w : WorldAt) (says : Result PtpMsg FrameFault) (i k : ℕ) (link : LinkCfg) (x : Sending) → Accepts s w says (Deliver i) → Renewal s w i k link x →
    (w.time ≤ℤ (x.at +ℤ pos (frame_life s.cfg))) × (has_carrier s w k ≡ true)
renewal_young s w says i k link x a r =
    let it : (w.time ≤ℤ (r.frame.sending.at +ℤ pos (frame_life s.cfg))) × (has_carrier s w r.frame.link ≡ true) =
    deliver_holds s w says i r.frame a r.there in
    (subst (λ (z : Sending). w.time ≤ℤ (z.at +ℤ pos (frame_life s.cfg))) r.sending_is it.0, subst (λ l. has_carrier s w l ≡ true) r.link_is it.1)
