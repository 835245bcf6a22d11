-- Events that keep all premises: a frame that has arrived and is young, and octets that say no message of the peer,
-- over a link that has its carrier; and what remains of this after an arrival and these events.
use Rattle.std.proofs.Common.{◌≡◌, ◌∙◌, refl, ap, sym, subst, ℕ, ◌<◌, ℤ, pos, ◌-ℤ◌, ◌≤ℤ◌, not, Bool, true, false, List, [], ◌∷◌, Option, None, Some, Result, Ok, Err, arith}
use Rattle.std.proofs.lemmas.Bool.{not-false}
use Rattle.std.proofs.lemmas.Int.{ints}
use Rattle.std.specs.Int.Signed.{le_z}
use Rattle.std.specs.Option.{is_some}
use Rattle.arrayvec.specs.ArrayVec.{ArrayVec}
use Rattle.wrp_base.specs.declared.link.Role.{Role}
use Rattle.wrp_base.specs.declared.link.Role.TheVariants.{Master, Slave}
use Rattle.wrp_base.specs.declared.message.PtpMsg.{PtpMsg}
use Rattle.wrp_network.specs.declared.network.LinkCfg.{LinkCfg}
use Rattle.wrp_base.specs.declared.time.Raw.{Raw}
use Rattle.wrp_base.specs.Message.{is_port}
use Rattle.wrp_network.specs.Network.{End, node_count}
use Rattle.wrp_bounds.specs.Times.{frame_life}
use Rattle.wrp_frame.specs.declared.fault.FrameFault.{FrameFault}
use Rattle.wrp_node.specs.NodeAt.{port_of}
use Rattle.wrp_frame.specs.Saying.{Says}
use Rattle.wrp_course.specs.declared.event.Event.{Event}
use Rattle.wrp_course.specs.declared.event.Event.TheVariants.{Arrive, Deliver, Noise}
use Rattle.wrp_course.specs.declared.place.Place.{Place}
use Rattle.wrp_course.specs.Checks.{AllHold, Holds, needs}
use Rattle.wrp_course.specs.EventAt.{IsEventOf}
use Rattle.wrp_course.specs.Given.{given_by, world_step}
use Rattle.wrp_course.specs.Moved.{moved}
use Rattle.wrp_course.specs.Premises.{Accepts, arrive_checks, deliver_by, deliver_checks, is_forged, noise_checks, received}
use Rattle.wrp_course.specs.Run.{IsSaid}
use Rattle.wrp_course.specs.Runs.{IsNetwork}
use Rattle.wrp_course.specs.Setting.{Setting, end_at, end_of}
use Rattle.wrp_course.specs.WorldAt.{Arrival, FrameAt, WorldAt, has_carrier, is_on_fibre}
use Rattle.wrp_sim.proofs.Ends.{end_found}
use Rattle.wrp_course.proofs.RunNetwork.{LinkEnd, link_end}
use Rattle.wrp_course.proofs.RunSettled.{all_given_carrier}
use Rattle.wrp_course.proofs.RunTimes.{all_right}
use Rattle.wrp_loop.specs.Datagrams.{IsOfPeer, IsSuch, Way}
use Rattle.wrp_loop.specs.LoopRun.{noise_stamp}

-- Checks that hold

not_over : (a b : ℤ) → a ≤ℤ b → not (le_z a b) ≡ false
not_over a b h = grind (arith, ints)

stands_holds : (b : Bool) → b ≡ true → Holds (needs b)
stands_holds b e = ap not e

-- A frame that is handed over

by_arrival : (s : Setting) (w : WorldAt) (i : ℕ) (f : FrameAt) (o : Option Arrival) → is_some o ≡ true → (w.time -ℤ f.sending.at) ≤ℤ pos (frame_life s.cfg) → has_carrier s w f.link ≡ true →
    AllHold (deliver_by s w i f o)
by_arrival s w i f None e young lit = absurd (let g : false ≡ true = e in cc)
by_arrival s w i f (Some a) e young lit =
    (not_over (w.time -ℤ f.sending.at) (pos (frame_life s.cfg)) young, (stands_holds (has_carrier s w f.link) lit, tt))

pub deliver_accepted : (s : Setting) (w : WorldAt) (way : Way) (octets : List ℕ) (i : ℕ) (says : Result PtpMsg FrameFault) → IsSuch s w way octets i → has_carrier s w way.link ≡ true → Accepts s w says (Deliver i)
deliver_accepted s w way octets i says such lit =
    subst (λ (o : Option FrameAt). AllHold (deliver_checks s w i o)) (sym such.is)
    (by_arrival s w i such.frame such.frame.arrival such.arrived such.young (ap (has_carrier s w) such.link_is ∙ lit))

-- The node of an end

by_role : (n : ℕ) (r : Role) (link : LinkCfg) → (link.upper < n) × (link.lower < n) → (end_of r link).node < n
by_role n Master link h = h.0
by_role n Slave link h = h.1

pub end_below : (s : Setting) → IsNetwork s → (k : ℕ) (r : Role) (end : End) → end_at s k r ≡ Some end → end.node < node_count s.cfg
end_below s net k r end is =
    let it : LinkEnd s k r end = link_end s k r end is in
    subst (λ (x : End). x.node < node_count s.cfg) it.end_is (by_role (node_count s.cfg) r it.link (net.accepted.tree.ends k it.link it.there))

-- Octets that say no message of the peer

not_peer : (b : Bool) → (b ≡ true → ⊥) → b ≡ false
not_peer true h = absurd (h refl)
not_peer false h = refl

not_forged : (s : Setting) (to : End) (octets : List ℕ) (says : Result PtpMsg FrameFault) → Says octets says → (IsOfPeer s to octets → ⊥) → is_forged s to.node to.port says ≡ false
not_forged s to octets (Err fault) said never = refl
not_forged s to octets (Ok message) said never =
    not_peer (is_port message.head.source (port_of (s.set to.node) to.port).peer) (λ e. never (message, said, e))

pub noise_accepted : (s : Setting) → IsNetwork s → (w : WorldAt) (k : ℕ) (r : Role) (to : End) (frame : ArrayVec ℕ) (raw : Raw) (says : Result PtpMsg FrameFault) → end_at s k r ≡ Some to →
    IsSaid (Noise to.node to.port frame raw) says → (IsOfPeer s to frame.items → ⊥) → has_carrier s w k ≡ true → Accepts s w says (Noise to.node to.port frame raw)
noise_accepted s net w k r to frame raw says is said never lit =
    subst (λ (o : Option Place). AllHold (noise_checks s w to.node to.port says o)) (sym (end_found s net k r to is))
    (not_forged s to frame.items says said never, (stands_holds (has_carrier s w k) lit, tt))

pub noise_is_event : (s : Setting) → IsNetwork s → (k : ℕ) (r : Role) (to : End) (frame : ArrayVec ℕ) → end_at s k r ≡ Some to → IsEventOf s.cfg (Noise to.node to.port frame noise_stamp)
noise_is_event s net k r to frame is =
    (end_below s net k r to is, record { rising = (omega arith, omega arith); falling = (omega arith, omega arith); tag = omega arith })

-- An arrival is on a fibre, over a link that has its carrier

pub record Arriving (s : Setting) (w : WorldAt) (i : ℕ) : Type 0 where
  pub frame : FrameAt
  pub is : w.frame i ≡ Some frame
  pub on : is_on_fibre (Some frame) ≡ true
  pub lit : has_carrier s w frame.link ≡ true

carried_of : (s : Setting) (w : WorldAt) (i : ℕ) (raw : Raw) (b : Bool) (o : Option FrameAt) → AllHold (arrive_checks s w i raw b o) → (f : FrameAt) × (o ≡ Some f) × (b ≡ true) × (has_carrier s w f.link ≡ true)
carried_of s w i raw true (Some f) a = (f, refl, refl, not-false (has_carrier s w f.link) (all_right Holds (received s w f raw) (needs (has_carrier s w f.link) ∷ []) a.1).0)
carried_of s w i raw true None a = absurd (let e : true ≡ false = a.0 in cc)
carried_of s w i raw false (Some f) a = absurd (let e : true ≡ false = a.0 in cc)
carried_of s w i raw false None a = absurd (let e : true ≡ false = a.0 in cc)

pub arriving : (s : Setting) (w : WorldAt) (i : ℕ) (raw : Raw) (says : Result PtpMsg FrameFault) → Accepts s w says (Arrive i raw) → Arriving s w i
arriving s w i raw says a =
    let it = carried_of s w i raw (is_on_fibre (w.frame i)) (w.frame i) a in
    record { frame = it.0; is = it.1; on = ap is_on_fibre (sym it.1) ∙ it.2; lit = it.3 }

-- Events at which no carrier comes or goes

abbrev pub IsStill : Event → Type 0
IsStill (Arrive i raw) = Unit {0}
IsStill (Deliver i) = Unit {0}
IsStill (Noise n p octets raw) = Unit {0}
IsStill _ = ⊥

moved_still : (s : Setting) (w : WorldAt) (e : Event) (k : ℕ) → IsStill e → has_carrier s (moved s w e) k ≡ has_carrier s w k
moved_still s w (Arrive i raw) k still = refl
moved_still s w (Deliver i) k still = refl
moved_still s w (Noise n p octets raw) k still = refl
moved_still s w _ k still = absurd still

pub still_carrier : (s : Setting) (says : Result PtpMsg FrameFault) (y : ℤ) (w : WorldAt) (e : Event) (k : ℕ) → IsStill e → has_carrier s (world_step s says y w e) k ≡ has_carrier s w k
still_carrier s says y w e k still = all_given_carrier s y (given_by s w (moved s w e) says e) (moved s w e) k ∙ moved_still s w e k still
