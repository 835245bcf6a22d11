-- What each event of a run is to a link that keeps its carrier.
use Rattle.std.proofs.Common.{◌≡◌, inl, inr, ◌∙◌, refl, ap, sym, subst, subst₂, ℕ, ◌==◌, ◌&&◌, ℤ, pos, ◌+ℤ◌, ◌≤ℤ◌, not, unsigned_abs, Bool, true, false, if◌then◌else◌, List, [], ◌∷◌, Option, None, Some, Result, arith}
use Rattle.std.specs.List.{AllByRecursion}
use Rattle.std.specs.Option.{option_map_or}
use Rattle.std.proofs.lemmas.Bool.Decides.{eqb_tells}
use Rattle.std.proofs.lemmas.Int.{ints}
use Rattle.std.proofs.lemmas.Option.{none-some, same_Some}
use Rattle.arrayvec.specs.ArrayVec.{ArrayVec as Items}
use Rattle.wrp_base.specs.declared.link.Role.{Role}
use Rattle.wrp_base.specs.declared.link.Role.TheVariants.{Master, Slave}
use Rattle.wrp_base.specs.declared.message.PtpMsg.{PtpMsg}
use Rattle.wrp_network.specs.declared.network.LinkCfg.{LinkCfg}
use Rattle.wrp_base.specs.declared.time.Raw.{Raw}
use Rattle.wrp_network.specs.Network.{End}
use Rattle.wrp_base.specs.Link.{other_of}
use Rattle.wrp_base.proofs.Booleans.{not_both}
use Rattle.wrp_base.proofs.Naturals.{eq_self}
use Rattle.wrp_bounds.specs.Times.{shortest_tick}
use Rattle.wrp_frame.specs.declared.fault.FrameFault.{FrameFault}
use Rattle.wrp_handshake_laws.specs.Ends.{Port, Change, Passes, Hears, IsAmong, changed, after_input, stamped}
use Rattle.wrp_link.specs.declared.interface.LinkIn.{LinkIn}
use Rattle.wrp_link.specs.declared.interface.LinkIn.TheVariants.{Tick as LinkTick}
use Rattle.wrp_link.specs.Rows.{row_of}
use Rattle.wrp_link.specs.Table.{sent_by}
use Rattle.wrp_node.specs.declared.interface.Input.{Input}
use Rattle.wrp_node.specs.declared.interface.Input.TheVariants.{Tick as TickInput, Sample as SampleInput, Frame, Sent, Carrier, Reset}
use Rattle.wrp_node.specs.LinkNews.{LinkNews, Nothing, frame_news}
use Rattle.wrp_node.specs.NodeAt.{NodeSetting, locked_of, numbers_of}
use Rattle.wrp_node.specs.NodeStep.{servo_ticked}
use Rattle.wrp_node.proofs.Sends.{not_equal}
use Rattle.wrp_port.specs.Hearing.{link_input}
use Rattle.wrp_course.specs.declared.event.Event.{Event}
use Rattle.wrp_course.specs.declared.event.Event.TheVariants.{Pass, Tick, Sample, Depart, Arrive, Deliver, Noise, Down, Up, Cut, Join}
use Rattle.wrp_course.specs.declared.event.Swap.{Swap}
use Rattle.wrp_course.specs.Given.{Given, at_ports, comes_from, delivered, delivered_by, delivered_to, given, given_by, given_plain, gives, gives_all, goes_from, sent_oldest}
use Rattle.wrp_course.specs.Moved.{moved, waiting_at}
use Rattle.wrp_course.specs.Premises.{Accepts}
use Rattle.wrp_course.specs.Run.{Happened}
use Rattle.wrp_course.specs.Runs.{IsNetwork, IsRun, WasPutOut}
use Rattle.wrp_course.specs.Setting.{Setting, end_at, end_of, link_of, node_setting_of, place_of}
use Rattle.wrp_course.specs.WorldAt.{FrameAt, WorldAt, ends_are_up, has_carrier}
use Rattle.wrp_course.proofs.RunChanges.{cut_carrier, not_joined}
use Rattle.wrp_course.proofs.RunGifts.{AllGiven, sent_all}
use Rattle.wrp_course.proofs.RunGiven.{end_is}
use Rattle.wrp_course.proofs.RunHanded.{noise_news, not_early, not_forged}
use Rattle.wrp_course.proofs.RunMoves.{ticked_after}
use Rattle.wrp_course.proofs.RunNetwork.{two_nodes}
use Rattle.wrp_course.proofs.RunPorts.{port_given, port_other}
use Rattle.wrp_course.proofs.RunSettled.{all_given_carrier}
use Rattle.wrp_course.proofs.RunTimes.{all_given_time, comes_up_down, not_up}
use Rattle.wrp_comes_up_laws.specs.Served.{Beginning, PutsOut, ends_of, events_of, world_of}
use Rattle.wrp_comes_up_laws.proofs.Delivered.{Arrived, Delivery, arrived, frame_elsewhere, input_heard, nothing_heard, nodes_differ, other_twice}
use Rattle.wrp_comes_up_laws.proofs.Elsewhere.{IsElsewhere, IsNoEnd, PassesPort, coming, going, if_elsewhere, moved_port, node_up, one_nothing, ports_elsewhere, same_port}
use Rattle.wrp_comes_up_laws.proofs.Grounds.{Laws}
use Rattle.wrp_comes_up_laws.proofs.PutOut.{PutNow, puts_out}
use Rattle.wrp_comes_up_laws.proofs.Seen.{IsPlain, IsSilent, Seen, SameTime, dmin_of, ends_are, ends_hear, ends_stay, not_delivered, not_ticked, nothing_seen, passes_seen, plain_silent, port_in, port_is_at, tick_seen}
use Rattle.wrp_comes_up_laws.proofs.Senders.{all_sent}

-- one event, and what the link saw of it
pub record Sees (l : Beginning) (since : List Happened) (h : Happened) : Type 0 where
  pub seen : Option Change
  pub tells : Seen l since h seen

-- an event as it came
abbrev pub as_came : Event → Result PtpMsg FrameFault → ℤ → Happened
as_came e says y = record { event = e; says = says; answer = y }

pub run_before : (s : Setting) (h : Happened) (before : List Happened) → IsRun s (h ∷ before) → IsRun s before
run_before s h before run = record { network = run.network; each = run.each.1; accepted = run.accepted.1 }

-- An event that has no effect on the link

no_change :
    Laws → (l : Beginning) (since : List Happened) (h : Happened) → link_of l.s l.k ≡ Some l.link → SameTime l since h →
    ((role : Role) → ticked_after (world_of l since) h.event (end_of role l.link).node ≡ ((world_of l since).clock (end_of role l.link).node).ticked) →
    AllByRecursion (IsElsewhere l.link) (given_by l.s (world_of l since) (moved l.s (world_of l since) h.event) h.says h.event) →
    ends_of l (h ∷ since) ≡ ends_of l since
no_change laws l since h is time ticks all =
    ends_stay l since h Master time
    (same_port laws l.s h.says h.answer (world_of l since) h.event l.k l.link Master is (ticks Master) all)
    (same_port laws l.s h.says h.answer (world_of l since) h.event l.k l.link Slave is (ticks Slave) all)

-- time is as it was, if the event does not change it
step_time :
    (l : Beginning) (since : List Happened) (h : Happened) → (moved l.s (world_of l since) h.event).time ≡ (world_of l since).time → SameTime l since h
step_time l since h e =
    all_given_time l.s h.answer (given_by l.s (world_of l since) (moved l.s (world_of l since) h.event) h.says h.event)
    (moved l.s (world_of l since) h.event) ∙ e

sees_nothing :
    Laws → (l : Beginning) (since : List Happened) (h : Happened) → link_of l.s l.k ≡ Some l.link → IsPlain h.event →
    (moved l.s (world_of l since) h.event).time ≡ (world_of l since).time →
    ((role : Role) → ticked_after (world_of l since) h.event (end_of role l.link).node ≡ ((world_of l since).clock (end_of role l.link).node).ticked) →
    AllByRecursion (IsElsewhere l.link) (given_by l.s (world_of l since) (moved l.s (world_of l since) h.event) h.says h.event) → Sees l since h
sees_nothing laws l since h is plain time ticks all = record {
  seen = None;
  tells = nothing_seen l since h (no_change laws l since h is (step_time l since h time) ticks all) (plain_silent l since h.event plain);
}

-- the inputs that give a node its own sample or sending
abbrev IsOwn : Input → Type 0
IsOwn (SampleInput number base bits) = Unit {0}
IsOwn (Sent p seq delay stamp) = Unit {0}
IsOwn _ = ⊥

own_passes : (p : ℕ) (input : Input) → IsOwn input → PassesPort p input
own_passes p (SampleInput number base bits) h = tt
own_passes p (Sent q seq delay stamp) h = tt
own_passes p TickInput h = absurd h
own_passes p (Frame q octets raw sample) h = absurd h
own_passes p (Carrier q up own_module) h = absurd h
own_passes p Reset h = absurd h

own_elsewhere : (link : LinkCfg) (gs : List Given) → AllGiven IsOwn gs → AllByRecursion (IsElsewhere link) gs
own_elsewhere link [] h = tt
own_elsewhere link (g ∷ gs) h = (λ r e. own_passes (end_of r link).port g.input h.0, own_elsewhere link gs h.1)

-- Time passes

passed : (t dt : ℤ) → pos 1 ≤ℤ dt → t +ℤ dt ≡ t +ℤ pos (unsigned_abs dt)
passed t dt h = omega (arith, ints)

-- Ticks

same_node : (a b : ℕ) → Tick a ≡ Tick b → a ≡ b
same_node a b e = cc

slave_is : Laws → (s : Setting) → IsNetwork s → (k : ℕ) (link : LinkCfg) (role : Role) → link_of s k ≡ Some link →
    (end_of role link).node ≡ link.lower → role ≡ Slave
slave_is laws s net k link Master is e = absurd (two_nodes laws.deeper s net k link is e)
slave_is laws s net k link Slave is e = refl

tick_here :
    Laws → (l : Beginning) (since : List Happened) (says : Result PtpMsg FrameFault) (y : ℤ) (role : Role) → link_of l.s l.k ≡ Some l.link → IsNetwork l.s →
    Accepts l.s (world_of l since) says (Tick (end_of role l.link).node) → Sees l since (as_came (Tick (end_of role l.link).node) says y)
tick_here laws l since says y role is net a =
    let w : WorldAt = world_of l since in
    let n : ℕ = (end_of role l.link).node in
    let h : Happened = as_came (Tick n) says y in
    let v : WorldAt = moved l.s w (Tick n) in
    let g : Given = given_plain n TickInput in
    let fixed : NodeSetting = node_setting_of l.s n in
    let locked : Bool = locked_of fixed (servo_ticked fixed (w.node n)).node in
    let time : SameTime l since h = refl in
    let here : port_in l (h ∷ since) role ≡ after_input w.time (port_in l since role) (LinkTick locked) (pos 0) =
    port_given laws.links laws.signals l.s y v g l.k role (end_of role l.link) (end_is l.s l.k role l.link is) refl in
    let there : port_in l (h ∷ since) (other_of role) ≡ port_in l since (other_of role) =
    port_other l.s y v g l.k (other_of role) (end_of (other_of role) l.link) (end_is l.s l.k (other_of role) l.link is)
    (nodes_differ laws l.s net l.k l.link role is) in
    record {
      seen = Some (Hears role (LinkTick locked) (pos 0));
      tells =
          tick_seen l since h role locked refl (ends_hear l since h role (LinkTick locked) (pos 0) time here there)
          (subst (λ (q : Port). (q.ticked +ℤ pos (dmin_of l)) ≤ℤ w.time) (sym (port_is_at l.s w l.k l.link role))
          (not_early (w.clock n).up w.time (w.clock n).ticked (shortest_tick l.s.cfg) a.1.0 a.0))
          (λ it.
          let same : n ≡ l.link.lower = same_node n l.link.lower it.0 in (
            slave_is laws l.s net l.k l.link role is same,
            subst
                (λ x. locked_of (node_setting_of l.s x) (servo_ticked (node_setting_of l.s x) (w.node x)).node ≡ true) (sym same) it.1,
          ))
          (λ other m at it.
          subst (λ r. PutsOut l r m (h ∷ since) at) it.0
          (let now : PutNow l.s (gives l.s y v g) v l.k role m at =
          puts_out laws.signals l.s y v g l.k role l.link m at (LinkTick locked) is refl refl
          (subst (λ (q : Port). IsAmong (m, at) (stamped w.time (sent_by (row_of q.link (LinkTick locked))) [])) (port_is_at l.s w l.k l.link role) it.1) in
          record { frame = now.frame; put = now.put; newest = now.newest; holds = now.holds }));
    }

tick_away :
    Laws → (l : Beginning) (since : List Happened) (says : Result PtpMsg FrameFault) (y : ℤ) (n : ℕ) → link_of l.s l.k ≡ Some l.link → IsNoEnd l.link n →
    Sees l since (as_came (Tick n) says y)
tick_away laws l since says y n is out = record {
  seen = None;
  tells =
      nothing_seen l since (as_came (Tick n) says y)
      (no_change laws l since (as_came (Tick n) says y) is refl (λ role. refl) (λ r e. absurd (out r e), tt))
      (record {
        no_message = λ role m at it. not_delivered n it.0.number it.0.is;
        no_offer = λ it. not_delivered n it.0.number it.0.is;
        no_tick = λ it. out Slave (sym (same_node n l.link.lower it.0));
      });
}

no_end : (link : LinkCfg) (n : ℕ) → (link.upper ≡ n → ⊥) → (link.lower ≡ n → ⊥) → IsNoEnd link n
no_end link n a b Master = a
no_end link n a b Slave = b

tick_at :
    Laws → (l : Beginning) (since : List Happened) (says : Result PtpMsg FrameFault) (y : ℤ) (n : ℕ) (role : Role) → link_of l.s l.k ≡ Some l.link →
    IsNetwork l.s →
    Accepts l.s (world_of l since) says (Tick n) → (end_of role l.link).node ≡ n → Sees l since (as_came (Tick n) says y)
tick_at laws l since says y n role is net a e =
    subst (λ i. Sees l since (as_came (Tick i) says y)) e
    (tick_here laws l since says y role is net (subst (λ i. Accepts l.s (world_of l since) says (Tick i)) (sym e) a))

tick_sees :
    Laws → (l : Beginning) (since : List Happened) (says : Result PtpMsg FrameFault) (y : ℤ) (n : ℕ) → link_of l.s l.k ≡ Some l.link → IsNetwork l.s →
    Accepts l.s (world_of l since) says (Tick n) → Sees l since (as_came (Tick n) says y)
tick_sees laws l since says y n is net a =
    elim (eqb_tells l.link.upper n) [
      | inl u ↦ tick_at laws l since says y n Master is net a u.1
      | inr u ↦ elim (eqb_tells l.link.lower n) [
        | inl d ↦ tick_at laws l since says y n Slave is net a d.1
        | inr d ↦ tick_away laws l since says y n is (no_end l.link n u.1 d.1)
      ]
    ]

-- Frames

same_number : (i j : ℕ) → Deliver i ≡ Deliver j → i ≡ j
same_number i j e = cc

-- nothing of the link is handed over
delivers_none :
    (l : Beginning) (since : List Happened) (says : Result PtpMsg FrameFault) (y : ℤ) (i : ℕ) →
    ((f : FrameAt) → (world_of l since).frame i ≡ Some f → f.link ≡ l.k → ⊥) → IsSilent l since (Deliver i)
delivers_none l since says y i out = record {
  no_message = λ role m at it. out it.0.frame (ap (world_of l since).frame (same_number i it.0.number it.0.is) ∙ it.0.there) it.0.link;
  no_offer = λ it. out it.0.frame (ap (world_of l since).frame (same_number i it.0.number it.0.is) ∙ it.0.there) it.0.link;
  no_tick = λ it. not_ticked i l.link.lower it.0;
}

deliver_away :
    Laws → (l : Beginning) (since : List Happened) (says : Result PtpMsg FrameFault) (y : ℤ) (i : ℕ) → link_of l.s l.k ≡ Some l.link →
    ((f : FrameAt) → (world_of l since).frame i ≡ Some f → f.link ≡ l.k → ⊥) →
    AllByRecursion (IsElsewhere l.link) (delivered l.s ((world_of l since).frame i)) →
    Sees l since (as_came (Deliver i) says y)
deliver_away laws l since says y i is out all = record {
  seen = None;
  tells =
      nothing_seen l since (as_came (Deliver i) says y)
      (no_change laws l since (as_came (Deliver i) says y) is
      (step_time l since (as_came (Deliver i) says y) refl) (λ role. refl) all)
      (delivers_none l since says y i out);
}

deliver_heard :
    Laws → (l : Beginning) (since : List Happened) (says : Result PtpMsg FrameFault) (y : ℤ) (i : ℕ) (f : FrameAt) (role : Role) (o : Option LinkIn) →
    Delivery l since (as_came (Deliver i) says y) i f role → link_input role f.sending.message.body ≡ o → Sees l since (as_came (Deliver i) says y)
deliver_heard laws l since says y i f role None d e = record { seen = None; tells = nothing_heard laws l since (as_came (Deliver i) says y) i f role d e }
deliver_heard laws l since says y i f role (Some input) d e = record {
  seen = Some (Hears role input f.sending.at);
  tells =
      input_heard laws l since (as_came (Deliver i) says y) i f role input d
      (all_sent l.s (events_of l since) l.k (other_of role) l.link d.is f.sending d.put) e;
}

delivery :
    Laws → (l : Beginning) (since : List Happened) (says : Result PtpMsg FrameFault) (y : ℤ) (i : ℕ) (f : FrameAt) → link_of l.s l.k ≡ Some l.link →
    IsRun l.s (events_of l (as_came (Deliver i) says y ∷ since)) → (world_of l since).frame i ≡ Some f → f.link ≡ l.k →
    Delivery l since (as_came (Deliver i) says y) i f (other_of f.by)
delivery laws l since says y i f is run there here =
    let w : WorldAt = world_of l since in
    let v : WorldAt = moved l.s w (Deliver i) in
    let known : Arrived l.s w f = arrived l.s w i f run.accepted.0 there in
    let back : f.by ≡ other_of (other_of f.by) = sym (other_twice f.by) in
    let end : end_at l.s f.link (other_of f.by) ≡ Some (end_of (other_of f.by) l.link) =
    ap (λ j. end_at l.s j (other_of f.by)) here ∙ end_is l.s l.k (other_of f.by) l.link is in
    record {
      event = refl;
      there = there;
      link = here;
      by = back;
      network = run.network;
      is = is;
      put =
          subst₂ (λ (k : ℕ) (r : Role). WasPutOut f.sending (w.end_at k r).sent) here back
          (laws.put l.s (events_of l since) i f (run_before l.s (as_came (Deliver i) says y) (events_of l since) run) there);
      known = known;
      world =
          ap (λ o. gives_all l.s y v (delivered l.s o)) there
          ∙ ap (λ o. gives_all l.s y v (delivered_by l.s f o)) known.is
          ∙ ap (λ o. gives_all l.s y v (option_map_or (λ (x : End). delivered_to f known.arrival x.node x.port) o [])) end;
    }

deliver_by_frame :
    Laws → (l : Beginning) (since : List Happened) (says : Result PtpMsg FrameFault) (y : ℤ) (i : ℕ) (o : Option FrameAt) → link_of l.s l.k ≡ Some l.link →
    IsRun l.s (events_of l (as_came (Deliver i) says y ∷ since)) → (world_of l since).frame i ≡ o → Sees l since (as_came (Deliver i) says y)
deliver_by_frame laws l since says y i None is run there =
    deliver_away laws l since says y i is (λ f e k. none-some f (sym there ∙ e))
    (subst (λ o. AllByRecursion (IsElsewhere l.link) (delivered l.s o)) (sym there) tt)
deliver_by_frame laws l since says y i (Some f) is run there =
    elim (eqb_tells f.link l.k) [
      | inl x ↦
          deliver_heard laws l since says y i f (other_of f.by) (link_input (other_of f.by) f.sending.message.body)
          (delivery laws l since says y i f is run there x.1) refl
      | inr x ↦
          deliver_away laws l since says y i is (λ g e k. x.1 (ap (λ (t : FrameAt). t.link) (same_Some f g (sym there ∙ e)) ∙ k))
          (subst (λ o. AllByRecursion (IsElsewhere l.link) (delivered l.s o)) (sym there)
          (frame_elsewhere l.s run.network l.k l.link f f.arrival is x.1))
    ]

either_nothing : (b : Bool) (news : LinkNews) → news ≡ Nothing → (if b then news else Nothing) ≡ Nothing
either_nothing true news e = e
either_nothing false news e = refl

noise_port :
    Laws → (l : Beginning) (since : List Happened) (says : Result PtpMsg FrameFault) (y : ℤ) (n p : ℕ) (octets : Items ℕ) (raw : Raw) (role : Role) →
    link_of l.s l.k ≡ Some l.link →
    Accepts l.s (world_of l since) says (Noise n p octets raw) → port_in l (as_came (Noise n p octets raw) says y ∷ since) role ≡ port_in l since role
noise_port laws l since says y n p octets raw role is a =
    let w : WorldAt = world_of l since in
    let v : WorldAt = moved l.s w (Noise n p octets raw) in
    one_nothing laws l.s y v (given n (Frame p octets raw (w.clock n).samples) says) l.k l.link role is
    (λ e. either_nothing ((end_of role l.link).port == p) (frame_news (node_setting_of l.s n) (v.node n) p says)
    (noise_news l.s v n p says (not_forged l.s w n p says (place_of l.s n p) a)))
    ∙ moved_port l.s w (Noise n p octets raw) l.k role l.link refl

-- Nodes that go down and come up, and links that are cut and joined

down_no_end : (s : Setting) (w : WorldAt) (n k : ℕ) (link : LinkCfg) → link_of s k ≡ Some link → has_carrier s (moved s w (Down n)) k ≡ true → IsNoEnd link n
down_no_end s w n k link is c r e =
    let m : ℕ = (end_of r link).node in
    not_both ((moved s w (Down n)).clock m).up (node_up s (moved s w (Down n)) k r link is c)
    (ap (λ b. (if b then record (w.clock m) { up = false } else w.clock m).up) (ap (λ x. x == n) e ∙ eq_self n))

pub up_no_end :
    (s : Setting) (w : WorldAt) (says : Result PtpMsg FrameFault) (n : ℕ) (off : ℤ) (swaps : Items Swap) (k : ℕ) (link : LinkCfg) → link_of s k ≡ Some link →
    Accepts s w says (Up n off swaps) → has_carrier s w k ≡ true → IsNoEnd link n
up_no_end s w says n off swaps k link is a c r e =
    not_up (w.clock n).up (subst (λ m. (w.clock m).up ≡ true) e (node_up s w k r link is c)) (comes_up_down s w says n off swaps a)

cut_other : (s : Setting) (w : WorldAt) (j k : ℕ) → has_carrier s (moved s w (Cut j)) k ≡ true → j ≡ k → ⊥
cut_other s w j k c e =
    not_both (has_carrier s (moved s w (Cut j)) k) c
    (cut_carrier s w j k
    ∙ ap (λ b. (if b then false else (w.fibre k).joined) && ends_are_up w.clock (link_of s k)) (ap (λ x. x == j) (sym e) ∙ eq_self j))

was_dark : (j up : Bool) → not (not j) ≡ false → (j && up) ≡ false
was_dark true up e = absurd (not_both true refl e)
was_dark false up e = refl

join_other : (s : Setting) (w : WorldAt) (says : Result PtpMsg FrameFault) (j : ℕ) (ms sm : ℤ) (k : ℕ) → Accepts s w says (Join j ms sm) →
    has_carrier s w k ≡ true → j ≡ k → ⊥
join_other s w says j ms sm k a c e =
    not_both (has_carrier s w j) (ap (has_carrier s w) e ∙ c)
    (was_dark (w.fibre j).joined (ends_are_up w.clock (link_of s j)) (not_joined s w says j ms sm a))

-- Every event

pub sees :
    Laws → (l : Beginning) (since : List Happened) (says : Result PtpMsg FrameFault) (y : ℤ) (e : Event) → link_of l.s l.k ≡ Some l.link →
    IsRun l.s (events_of l (as_came e says y ∷ since)) → has_carrier l.s (world_of l since) l.k ≡ true →
    has_carrier l.s (world_of l (as_came e says y ∷ since)) l.k ≡ true → Sees l since (as_came e says y)
sees laws l since says y (Pass dt drifts fibres) is run was now =
    let h : Happened = as_came (Pass dt drifts fibres) says y in
    let w : WorldAt = world_of l since in
    record {
      seen = Some (Passes (unsigned_abs dt));
      tells =
          passes_seen l since h (unsigned_abs dt)
          (ends_are (ends_of l (h ∷ since)) (changed (ends_of l since) (Passes (unsigned_abs dt))) (passed w.time dt run.each.0.span.0)
          (moved_port l.s w (Pass dt drifts fibres) l.k Master l.link refl) (moved_port l.s w (Pass dt drifts fibres) l.k Slave l.link refl))
          tt;
    }
sees laws l since says y (Tick n) is run was now = tick_sees laws l since says y n is run.network run.accepted.0
sees laws l since says y (Sample n base bits) is run was now =
    sees_nothing laws l since (as_came (Sample n base bits) says y) is tt refl (λ role. refl) (λ r e. tt, tt)
sees laws l since says y (Depart n p stamp) is run was now =
    let w : WorldAt = world_of l since in
    sees_nothing laws l since (as_came (Depart n p stamp) says y) is tt refl (λ role. refl)
    (own_elsewhere l.link (sent_oldest n p stamp (w.clock n).samples (waiting_at w (place_of l.s n p)))
    (sent_all IsOwn (λ q seq delay t. tt) n p stamp (w.clock n).samples (waiting_at w (place_of l.s n p))))
sees laws l since says y (Arrive i raw) is run was now = sees_nothing laws l since (as_came (Arrive i raw) says y) is tt refl (λ role. refl) tt
sees laws l since says y (Deliver i) is run was now = deliver_by_frame laws l since says y i ((world_of l since).frame i) is run refl
sees laws l since says y (Noise n p octets raw) is run was now =
    let h : Happened = as_came (Noise n p octets raw) says y in
    record {
      seen = None;
      tells =
          nothing_seen l since h
          (ends_stay l since h Master refl (noise_port laws l since says y n p octets raw Master is run.accepted.0)
          (noise_port laws l since says y n p octets raw Slave is run.accepted.0))
          (plain_silent l since (Noise n p octets raw) tt);
    }
sees laws l since says y (Down n) is run was now =
    let w : WorldAt = world_of l since in
    let v : WorldAt = moved l.s w (Down n) in
    let out : IsNoEnd l.link n =
    down_no_end l.s w n l.k l.link is (sym (all_given_carrier l.s y (at_ports l.s w (goes_from l.s) n) v l.k) ∙ now) in
    sees_nothing laws l since (as_came (Down n) says y) is tt refl (λ role. refl)
    (ports_elsewhere l.s (goes_from l.s) (going l.s run.network) w n l.k l.link (numbers_of (l.s.set n)) is out)
sees laws l since says y (Up n off swaps) is run was now =
    let w : WorldAt = world_of l since in
    let v : WorldAt = moved l.s w (Up n off swaps) in
    let out : IsNoEnd l.link n = up_no_end l.s w says n off swaps l.k l.link is run.accepted.0 was in
    sees_nothing laws l since (as_came (Up n off swaps) says y) is tt refl
    (λ role. ap (λ b. if b then w.time else (w.clock (end_of role l.link).node).ticked) (not_equal (end_of role l.link).node n (out role)))
    (λ r e. absurd (out r e), ports_elsewhere l.s (comes_from l.s v) (coming l.s run.network v) v n l.k l.link (numbers_of (l.s.set n)) is out)
sees laws l since says y (Cut j) is run was now =
    let w : WorldAt = world_of l since in
    let gs : List Given = if has_carrier l.s w j then goes_from l.s j Master else [] in
    let out : j ≡ l.k → ⊥ = cut_other l.s w j l.k (sym (all_given_carrier l.s y gs (moved l.s w (Cut j)) l.k) ∙ now) in
    sees_nothing laws l since (as_came (Cut j) says y) is tt refl (λ role. refl)
    (if_elsewhere l.link (has_carrier l.s w j) (goes_from l.s j Master) (going l.s run.network l.k j l.link Master is out))
sees laws l since says y (Join j ms sm) is run was now =
    let w : WorldAt = world_of l since in
    let v : WorldAt = moved l.s w (Join j ms sm) in
    let out : j ≡ l.k → ⊥ = join_other l.s w says j ms sm l.k run.accepted.0 was in
    sees_nothing laws l since (as_came (Join j ms sm) says y) is tt refl (λ role. refl)
    (if_elsewhere l.link (has_carrier l.s v j) (comes_from l.s v j Master) (coming l.s run.network v l.k j l.link Master is out))
