-- What is kept after every event of every run, and the laws that follow.
use Rattle.std.proofs.Common.{◌≡◌, inl, inr, ◌∙◌, refl, ap, sym, subst, subst₂, ℕ, ℤ, Bool, true, false, List, [], ◌∷◌, None, Result}
use Rattle.std.proofs.lemmas.Bool.{cases_Bool}
use Rattle.wrp_base.specs.declared.link.LinkState.TheVariants.{Idle, LinkOn}
use Rattle.wrp_base.specs.declared.link.Role.{Role}
use Rattle.wrp_base.specs.declared.link.Role.TheVariants.{Master, Slave}
use Rattle.wrp_base.specs.declared.message.PtpMsg.{PtpMsg}
use Rattle.wrp_network.specs.declared.network.LinkCfg.{LinkCfg}
use Rattle.wrp_network.specs.Network.{End}
use Rattle.wrp_base.specs.Link.{other_of}
use Rattle.wrp_base.proofs.Booleans.{not_both}
use Rattle.wrp_bounds.specs.Times.{shortest_tick, frame_life}
use Rattle.wrp_check.specs.Handshake.{SameHandshake}
use Rattle.wrp_frame.specs.declared.fault.FrameFault.{FrameFault}
use Rattle.wrp_handshake_laws.specs.Deltas.{KnowsDeltas}
use Rattle.wrp_handshake_laws.specs.Ends.{CanBe, placed_at}
use Rattle.wrp_handshake_laws.specs.Laws.{OnInTheSameHandshake as OnAsOneLink, CarrierWithItsModule as ModuleAsOneLink}
use Rattle.wrp_link.specs.LinkAt.{LinkAt}
use Rattle.wrp_node.specs.declared.interface.Input.TheVariants.{Tick as TickInput, Sample as SampleInput, Frame}
use Rattle.wrp_node.specs.NodeAt.{link_at}
use Rattle.wrp_course.specs.declared.event.Event.{Event}
use Rattle.wrp_course.specs.declared.event.Event.TheVariants.{Pass, Tick, Sample, Depart, Arrive, Deliver, Noise, Down, Up, Cut, Join}
use Rattle.wrp_course.specs.EventAt.{IsEventOf}
use Rattle.wrp_course.proofs.WordReports.{idle_on}
use Rattle.wrp_course.specs.Given.{Given, delivered, given, given_plain, sent_oldest, world_step}
use Rattle.wrp_course.specs.LinkEnds.{ends_at, port_at}
use Rattle.wrp_course.specs.Moved.{moved, waiting_at}
use Rattle.wrp_course.specs.Premises.{Accepts}
use Rattle.wrp_course.specs.Run.{AllAccepted, Happened, world_after}
use Rattle.wrp_course.specs.Runs.{AllEvents, IsNetwork}
use Rattle.wrp_course.specs.SameHandshake.{CarriersWithTheirModules, LinkOnInTheSameHandshake, LinkOnWithTheDeltas, LinksCanBe}
use Rattle.wrp_course.specs.Setting.{Setting, end_of, place_of}
use Rattle.wrp_course.specs.WorldAt.{WorldAt, has_carrier, new_world}
use Rattle.wrp_course.proofs.RunCarried.{Uncarried}
use Rattle.wrp_course.proofs.RunFrames.{FramesKeep}
use Rattle.wrp_course.proofs.RunKept.{IsFree, Laws, LinkKeeps, fair_keeps, free_keep}
use Rattle.wrp_course.proofs.RunChanges.{cut_keeps, down_keeps, join_keeps, up_keeps}
use Rattle.wrp_course.proofs.RunGifts.{sent_all}
use Rattle.wrp_course.proofs.RunHanded.{deliver_keeps, noise_news, not_early, not_forged}
use Rattle.wrp_course.proofs.RunLinks.{IsDark}
use Rattle.wrp_course.proofs.RunNetwork.{LinkEnd, end_with, place_end, start_can}
use Rattle.wrp_course.proofs.RunPorts.{link_dark}
use Rattle.wrp_course.proofs.RunSettled.{Placed, WorldKeeps, passed_carrier, sampled_carrier, settled, still_keeps}

-- Every event

pub step_keeps : Laws → (s : Setting) → IsNetwork s → (says : Result PtpMsg FrameFault) (y : ℤ) (w : WorldAt) (e : Event) → IsEventOf s.cfg e → Accepts s w says e → WorldKeeps s w →
    WorldKeeps s (world_step s says y w e)
step_keeps laws s net says y w (Pass dt drifts fibres) event a h =
    still_keeps s w says (Pass dt drifts fibres) event a (passed_carrier s w dt drifts fibres) h
step_keeps laws s net says y w (Tick n) event a h =
    let v : WorldAt = moved s w (Tick n) in
    settled s y (given_plain n TickInput ∷ []) v
    (fair_keeps laws s (Placed s v) (Uncarried s v) net y v (given_plain n TickInput) (not_early (w.clock n).up w.time (w.clock n).ticked (shortest_tick s.cfg) a.1.0 a.0)
    (still_keeps s w says (Tick n) event a (λ k. refl) h))
step_keeps laws s net says y w (Sample n base bits) event a h =
    let v : WorldAt = moved s w (Sample n base bits) in
    let g : Given = given_plain n (SampleInput (v.clock n).samples base bits) in
    settled s y (g ∷ []) v
    (fair_keeps laws s (Placed s v) (Uncarried s v) net y v g tt (still_keeps s w says (Sample n base bits) event a (sampled_carrier s w n base bits) h))
step_keeps laws s net says y w (Depart n p stamp) event a h =
    let v : WorldAt = moved s w (Depart n p stamp) in
    let gs : List Given = sent_oldest n p stamp (w.clock n).samples (waiting_at w (place_of s n p)) in
    settled s y gs v
    (free_keep laws s (Placed s v) (Uncarried s v) net y gs v (sent_all IsFree (λ q seq delay t. tt) n p stamp (w.clock n).samples (waiting_at w (place_of s n p)))
    (still_keeps s w says (Depart n p stamp) event a (λ k. refl) h))
step_keeps laws s net says y w (Arrive i raw) event a h = still_keeps s w says (Arrive i raw) event a (λ k. refl) h
step_keeps laws s net says y w (Deliver i) event a h =
    let v : WorldAt = moved s w (Deliver i) in
    settled s y (delivered s (w.frame i)) v
    (deliver_keeps laws s (Placed s v) (Uncarried s v) net y w v i (w.frame i) refl (h.frames.departed i) a (still_keeps s w says (Deliver i) event a (λ k. refl) h))
step_keeps laws s net says y w (Noise n p octets raw) event a h =
    let v : WorldAt = moved s w (Noise n p octets raw) in
    let g : Given = given n (Frame p octets raw (w.clock n).samples) says in
    settled s y (g ∷ []) v
    (fair_keeps laws s (Placed s v) (Uncarried s v) net y v g (inl (noise_news s v n p says (not_forged s w n p says (place_of s n p) a)))
    (still_keeps s w says (Noise n p octets raw) event a (λ k. refl) h))
step_keeps laws s net says y w (Down n) event a h = down_keeps laws s net says y w n event a h
step_keeps laws s net says y w (Up n off swaps) event a h = up_keeps laws s net says y w n off swaps event a h
step_keeps laws s net says y w (Cut k) event a h = cut_keeps laws s net says y w k event a h
step_keeps laws s net says y w (Join k ms sm) event a h = join_keeps laws s net says y w k ms sm event a h

-- Every run

new_frames : (s : Setting) → FramesKeep (new_world s)
new_frames s = record { departed = λ i. tt; waits = λ k r x h. absurd h }

start_keeps : Laws → (s : Setting) → IsNetwork s → WorldKeeps s (new_world s)
start_keeps laws s net = record {
  links = λ k link is. record {
    placed = λ r. None;
    known = λ c q. absurd (not_both false c refl);
    can = start_can laws.ends s net k link is;
    dark = λ d r. refl;
  };
  frames = new_frames s;
}

pub run_keeps : Laws → (s : Setting) → IsNetwork s → (events : List Happened) → AllEvents s.cfg events → AllAccepted s events → WorldKeeps s (world_after s events)
run_keeps laws s net [] each accepted = start_keeps laws s net
run_keeps laws s net (h ∷ before) each accepted =
    step_keeps laws s net h.says h.answer (world_after s before) h.event each.0 accepted.0 (run_keeps laws s net before each.1 accepted.1)

-- The laws

pub links_can_be : Laws → LinksCanBe
links_can_be laws s events k link run is = ((run_keeps laws s run.network events run.each run.accepted).links k link is).can.can

at_role : OnAsOneLink → (s : Setting) (w : WorldAt) (k : ℕ) (r : Role) (link : LinkCfg) → CanBe (frame_life s.cfg) (shortest_tick s.cfg) (ends_at s w k link) →
    (link_at (s.set (end_of r link).node) (w.node (end_of r link).node) (end_of r link).port).state ≡ LinkOn →
    SameHandshake r (w.end_at k r).marks (w.end_at k (other_of r)).marks
at_role one s w k Master link can on = one (frame_life s.cfg) (shortest_tick s.cfg) (ends_at s w k link) Master can on
at_role one s w k Slave link can on = one (frame_life s.cfg) (shortest_tick s.cfg) (ends_at s w k link) Slave can on

pub link_on_in_the_same_handshake : Laws → LinkOnInTheSameHandshake
link_on_in_the_same_handshake laws s events n p place run at on =
    let w : WorldAt = world_after s events in
    let it : LinkEnd s place.link place.role (end_with n p) = place_end s n p place at in
    at_role laws.one_link s w place.link place.role it.link (links_can_be laws s events place.link it.link run it.there)
    (subst (λ (end : End). (link_at (s.set end.node) (w.node end.node) end.port).state ≡ LinkOn) (sym it.end_is) on)

-- a port in WR_LINK_ON has its carrier
on_lit : (l : LinkAt) (b : Bool) → l.carrier ≡ b → IsDark l → l.state ≡ LinkOn → b ≡ true
on_lit l true e dark on = refl
on_lit l false e dark on = absurd (let idle : l.state ≡ Idle = ap (λ (x : LinkAt). x.state) (dark e) in idle_on (sym idle ∙ on))

-- and with it the link has
port_lit : (s : Setting) (w : WorldAt) (k : ℕ) (r : Role) (link : LinkCfg) → LinkKeeps s (Placed s w) (Uncarried s w) w k link →
    (port_at s w k r (end_of r link)).link.carrier ≡ true → has_carrier s w k ≡ true
port_lit s w k r link it lit =
    elim (cases_Bool (has_carrier s w k)) [
      | inl x ↦ x
      | inr x ↦ absurd (not_both (port_at s w k r (end_of r link)).link.carrier lit (it.dark x r))
    ]

module_at : ModuleAsOneLink → (s : Setting) (w : WorldAt) (k : ℕ) (r : Role) (link : LinkCfg) (can : CanBe (frame_life s.cfg) (shortest_tick s.cfg) (ends_at s w k link)) →
    (port_at s w k r (end_of r link)).link.carrier ≡ true → (port_at s w k r (end_of r link)).link.own_module ≡ placed_at can.changes r
module_at one s w k Master link can lit = one (frame_life s.cfg) (shortest_tick s.cfg) (ends_at s w k link) Master can lit
module_at one s w k Slave link can lit = one (frame_life s.cfg) (shortest_tick s.cfg) (ends_at s w k link) Slave can lit

pub link_on_with_the_deltas : Laws → LinkOnWithTheDeltas
link_on_with_the_deltas laws s events k link run is on =
    let w : WorldAt = world_after s events in
    let it : LinkKeeps s (Placed s w) (Uncarried s w) w k link = (run_keeps laws s run.network events run.each run.accepted).links k link is in
    let l : LinkAt = (port_at s w k Slave (end_of Slave link)).link in
    let c : has_carrier s w k ≡ true = port_lit s w k Slave link it (on_lit l l.carrier refl (link_dark s w link.lower link.lower_port) on) in
    subst₂ (KnowsDeltas (port_at s w k Slave (end_of Slave link))) (it.can.modules Master ∙ it.known c Master) (it.can.modules Slave ∙ it.known c Slave)
    (laws.one_link_deltas (frame_life s.cfg) (shortest_tick s.cfg) (ends_at s w k link) it.can.can on)

pub carriers_with_their_modules : Laws → CarriersWithTheirModules
carriers_with_their_modules laws s events k r link run is lit =
    let w : WorldAt = world_after s events in
    let it : LinkKeeps s (Placed s w) (Uncarried s w) w k link = (run_keeps laws s run.network events run.each run.accepted).links k link is in
    let c : has_carrier s w k ≡ true = port_lit s w k r link it lit in
    (c, module_at laws.one_link_module s w k r link it.can.can lit ∙ it.can.modules r ∙ it.known c r)
