-- A slave that waits for an offer of its master: by when the master's schedule brings one.
use Rattle.std.proofs.Common.{◌≡◌, inl, inr, ◌∙◌, refl, ap, sym, subst, ℕ, ◌+◌, ◌*◌, ◌%◌, ◌<◌, ◌≤◌, ℤ, pos, ◌+ℤ◌, ◌≤ℤ◌, unsigned_abs, true, List, ◌∷◌, Some, Result, arith}
use Rattle.std.proofs.Math.Nat.{mod-eq_of_lt, mod-lt, mod_self, mul-le-mul_right}
use Rattle.std.proofs.lemmas.Bool.Decides.{eqb_tells}
use Rattle.std.proofs.lemmas.Int.{ints}
use Rattle.arrayvec.specs.ArrayVec.{ArrayVec as Items}
use Rattle.wrp_base.specs.declared.link.LinkState.TheVariants.{Idle}
use Rattle.wrp_base.specs.declared.link.Role.TheVariants.{Master}
use Rattle.wrp_base.specs.declared.message.PtpMsg.{PtpMsg}
use Rattle.wrp_base.proofs.Naturals.{turn_mod}
use Rattle.wrp_bounds.specs.Times.{longest_tick, shortest_tick}
use Rattle.wrp_frame.specs.declared.fault.FrameFault.{FrameFault}
use Rattle.wrp_handshake_laws.specs.Laws.{IsAwake}
use Rattle.wrp_link_up_laws.specs.Pace.{IsReady}
use Rattle.wrp_node.specs.declared.interface.NodeSet.{NodeSet}
use Rattle.wrp_port.specs.Hearing.{is_open}
use Rattle.wrp_course.specs.declared.event.Event.{Event}
use Rattle.wrp_course.specs.declared.event.Event.TheVariants.{Pass, Tick, Sample, Depart, Arrive, Deliver, Noise, Down, Up, Cut, Join}
use Rattle.wrp_course.specs.declared.event.Swap.{Swap}
use Rattle.wrp_course.specs.Moved.{moved}
use Rattle.wrp_course.specs.Premises.{Accepts}
use Rattle.wrp_course.specs.Run.{Happened}
use Rattle.wrp_course.specs.RunLaws.{TickOrStart}
use Rattle.wrp_course.specs.Runs.{IsNetwork, IsRun}
use Rattle.wrp_course.specs.Setting.{link_of, node_setting_of}
use Rattle.wrp_course.specs.WorldAt.{WorldAt, has_carrier}
use Rattle.wrp_bound_laws.proofs.Nodes.Inputs.{IsNoTickOf, tick_or_not}
use Rattle.wrp_bound_laws.proofs.Sources.Parents.{ticked_node}
use Rattle.wrp_comes_up_laws.specs.Laws.{announces_each}
use Rattle.wrp_comes_up_laws.specs.Served.{HandsOffer, IsOwed, IsOfferUnheard, Beginning, ends_of, events_of, world_of}
use Rattle.wrp_comes_up_laws.proofs.Counts.{CountsAt, calm_counts, tick_counts}
use Rattle.wrp_comes_up_laws.proofs.Events.{as_came, up_no_end}
use Rattle.wrp_comes_up_laws.proofs.Grounds.{Laws}
use Rattle.wrp_comes_up_laws.proofs.Offers.{OfferNow, awake_open, is_due_now, line_now, master_of, offer_put, open_now}
use Rattle.wrp_bound_laws.proofs.Runs.PortRoles.{set_at}

-- What is awaited

-- at this time both ends are awake, and the slave is in IDLE, its holdoff over
pub record AreAwake (l : Beginning) (since : List Happened) (at : ℤ) : Type 0 where
  pub master : IsAwake (ends_of l since).master
  pub slave : IsReady (ends_of l since).slave
  pub idle : (ends_of l since).slave.link.state ≡ Idle
  pub now : at ≡ (world_of l since).time

-- the ends were so at this time, and the slave has not been handed an offer since
abbrev pub IsAwaiting : Beginning → List Happened → ℤ → Type 0
IsAwaiting l since at = IsOwed (AreAwake l) (HandsOffer l) since at

abbrev pub dmax_of : Beginning → ℕ
dmax_of l = longest_tick l.s.cfg

-- when the master's node ticked last
abbrev pub ticked_of : Beginning → List Happened → ℤ
ticked_of l since = ((world_of l since).clock l.link.upper).ticked

-- an offer was put out in time, and is not handed over yet; or the ticks of the schedule lead to one
pub data OfferComes (l : Beginning) (since : List Happened) (at : ℤ) : Type 0 where
  out : (t : ℤ) → t ≤ℤ (at +ℤ pos (announces_each l * dmax_of l)) → IsOfferUnheard l since t → OfferComes l since at
  due :
      (c : ℕ) → CountsAt l.s (master_of l.link) c (world_of l since) → ticked_of l since ≤ℤ (at +ℤ pos (c % announces_each l * dmax_of l)) →
      IsAwake (ends_of l since).master → OfferComes l since at

-- Numbers

some_announce : (n : ℤ) → pos 1 ≤ℤ n → 0 < unsigned_abs n
some_announce n h = omega (arith, ints, h)

not_last : (r each : ℕ) → r < each → (r + 1 ≡ each → ⊥) → r + 1 < each
not_last r each h other = grind (arith, h, other)

one_times : (r dmax : ℕ) → (r + 1) * dmax ≡ r * dmax + dmax
one_times r dmax = omega arith

later : (at ticked now : ℤ) (a b dmax : ℕ) → b ≡ a + dmax → now ≤ℤ (ticked +ℤ pos dmax) → ticked ≤ℤ (at +ℤ pos a) → now ≤ℤ (at +ℤ pos b)
later at ticked now a b dmax e h k = omega (arith, ints, e, h, k)

-- one tick later
next_tick : (at ticked now : ℤ) (r dmax : ℕ) → now ≤ℤ (ticked +ℤ pos dmax) → ticked ≤ℤ (at +ℤ pos (r * dmax)) → now ≤ℤ (at +ℤ pos ((r + 1) * dmax))
next_tick at ticked now r dmax h k = later at ticked now (r * dmax) ((r + 1) * dmax) dmax (one_times r dmax) h k

no_more : (at now : ℤ) (a b : ℕ) → a ≤ b → now ≤ℤ (at +ℤ pos a) → now ≤ℤ (at +ℤ pos b)
no_more at now a b le h = omega (arith, ints, le, h)

both_sum : (at t now : ℤ) (a b : ℕ) → t ≤ℤ (at +ℤ pos a) → now ≤ℤ (t +ℤ pos b) → now ≤ℤ (at +ℤ pos (a + b))
both_sum at t now a b h k = omega (arith, ints, h, k)

up_to : (r each : ℕ) → r < each → r + 1 ≤ each
up_to r each h = omega (arith, h)

more_yet : (a b c : ℕ) → a ≤ b → a ≤ b + c
more_yet a b c h = omega (arith, h)

-- A tick of the master's node

each_is : (l : Beginning) → IsNetwork l.s → (set_at l.s Master l.link).sched.announce ≡ announces_each l
each_is l net = ap (λ (x : NodeSet). x.sched.announce) (net.set l.link.upper)

offer_at_tick :
    Laws → (l : Beginning) (since : List Happened) (says : Result PtpMsg FrameFault) (y : ℤ) (at : ℤ) (c : ℕ) → IsNetwork l.s →
    link_of l.s l.k ≡ Some l.link → l.link.wr ≡ true →
    CountsAt l.s (master_of l.link) c (world_of l since) → ticked_of l since ≤ℤ (at +ℤ pos (c % announces_each l * dmax_of l)) →
    (world_of l since).time ≤ℤ (ticked_of l since +ℤ pos (dmax_of l)) →
    IsAwake (ends_of l since).master → IsAwake (ends_of l (as_came (Tick l.link.upper) says y ∷ since)).master →
    OfferComes l (as_came (Tick l.link.upper) says y ∷ since) at
offer_at_tick laws l since says y at c net is wr counts soon on was now =
    let w : WorldAt = world_of l since in
    let h : Happened = as_came (Tick l.link.upper) says y in
    let each : ℕ = announces_each l in
    let r : ℕ = c % each in
    let some : 0 < each = some_announce l.s.cfg.announce net.accepted.ranges.announce.0 in
    let by : w.time ≤ℤ (at +ℤ pos ((r + 1) * dmax_of l)) = next_tick at (ticked_of l since) w.time r (dmax_of l) on soon in
    let line_open : is_open (line_now (node_setting_of l.s l.link.upper) (w.node l.link.upper) l.link.upper_port).link ≡ true =
    sym (open_now laws l.s says y w l.k l.link) ∙ awake_open (ends_of l (h ∷ since)).master now in
    elim (eqb_tells (r + 1) each) [
      | inl x ↦
          let whole : (c % (set_at l.s Master l.link).sched.announce + 1) % (set_at l.s Master l.link).sched.announce ≡ 0 =
          subst (λ n. (c % n + 1) % n ≡ 0) (sym (each_is l net)) (ap (λ n. n % each) x.1 ∙ mod_self each) in
          let puts : OfferNow l.s (world_of l (h ∷ since)) (moved l.s w (Tick l.link.upper)) l.k =
          offer_put laws l.s net says y w l.k l.link is wr (is_due_now l.s c w l.link (awake_open (ends_of l since).master was) counts line_open whole) in
          out w.time (subst (λ n. w.time ≤ℤ (at +ℤ pos (n * dmax_of l))) x.1 by)
          (inl (record { frame = puts.frame; put = puts.put; newest = puts.newest; offers = puts.offers; time = puts.time }))
      | inr x ↦
          let turn : (c + 1) % each ≡ r + 1 = sym (turn_mod each c) ∙ mod-eq_of_lt (not_last r each (mod-lt c some) x.1) in
          due (c + 1) (tick_counts l.s (master_of l.link) c h (events_of l since) net (awake_open (ends_of l since).master was) counts)
          (subst (λ n. ticked_of l (h ∷ since) ≤ℤ (at +ℤ pos (n * dmax_of l))) (sym turn)
          (subst (λ t. t ≤ℤ (at +ℤ pos ((r + 1) * dmax_of l))) (sym (ticked_node l.s says y w l.link.upper l.link.upper refl).1) by)) now
    ]

-- Any other event

neither : (n least : ℕ) (old now : ℤ) (e : Event) → IsNoTickOf n e → ((m : ℕ) (off : ℤ) (swaps : Items Swap) → e ≡ Up m off swaps → m ≡ n → ⊥) →
    TickOrStart least n old now e → ⊥
neither n least old now (Tick m) none up h = none (sym h.0)
neither n least old now (Up m off swaps) none up h = up m off swaps refl h
neither n least old now (Pass dt drifts fibres) none up h = h
neither n least old now (Sample m base bits) none up h = h
neither n least old now (Depart m p stamp) none up h = h
neither n least old now (Arrive i raw) none up h = h
neither n least old now (Deliver i) none up h = h
neither n least old now (Noise m p octets raw) none up h = h
neither n least old now (Down m) none up h = h
neither n least old now (Cut k) none up h = h
neither n least old now (Join k ms sm) none up h = h

ticked_still :
    Laws → (l : Beginning) (since : List Happened) (h : Happened) → IsRun l.s (events_of l (h ∷ since)) → link_of l.s l.k ≡ Some l.link →
    has_carrier l.s (world_of l since) l.k ≡ true → IsNoTickOf l.link.upper h.event → ticked_of l (h ∷ since) ≡ ticked_of l since
ticked_still laws l since h run is lit none =
    let n : ℕ = l.link.upper in
    let w : WorldAt = world_of l since in
    elim (laws.apart l.s h (events_of l since) n run) [
      | inl same ↦ same
      | inr x ↦
          absurd (neither n (shortest_tick l.s.cfg) (w.clock n).ticked (world_of l (h ∷ since)).time h.event none
          (λ m off swaps e same.
          up_no_end l.s w h.says m off swaps l.k l.link is (subst (Accepts l.s w h.says) e run.accepted.0) lit Master (sym same)) x.1)
    ]

pub offer_comes :
    Laws → (l : Beginning) (since : List Happened) (says : Result PtpMsg FrameFault) (y : ℤ) (e : Event) (at : ℤ) →
    IsRun l.s (events_of l (as_came e says y ∷ since)) → link_of l.s l.k ≡ Some l.link → l.link.wr ≡ true →
    has_carrier l.s (world_of l since) l.k ≡ true → (world_of l since).time ≤ℤ (ticked_of l since +ℤ pos (dmax_of l)) →
    (IsAwake (ends_of l since).master → IsAwake (ends_of l (as_came e says y ∷ since)).master) → (HandsOffer l since e → ⊥) → OfferComes l since at →
    OfferComes l (as_came e says y ∷ since) at
offer_comes laws l since says y e at run is wr lit on stays none (out t le o) = out t le (inr (o, none))
offer_comes laws l since says y e at run is wr lit on stays none (due c counts soon awake) =
    elim (tick_or_not l.link.upper e) [
      | inl tick ↦
          subst (λ x. OfferComes l (as_came x says y ∷ since) at) (sym tick)
          (offer_at_tick laws l since says y at c run.network is wr counts soon on awake
          (subst (λ x. IsAwake (ends_of l (as_came x says y ∷ since)).master) tick (stays awake)))
      | inr other ↦
          due c (calm_counts l.s (master_of l.link) c (as_came e says y) (events_of l since) run.network other counts)
          (subst (λ t. t ≤ℤ (at +ℤ pos (c % announces_each l * dmax_of l))) (sym (ticked_still laws l since (as_came e says y) run is lit other)) soon)
          (stays awake)
    ]

-- an offer that comes is handed over in time
pub comes_in_time :
    (l : Beginning) (since : List Happened) (delay : ℕ) (at : ℤ) → IsNetwork l.s → (world_of l since).time ≤ℤ (ticked_of l since +ℤ pos (dmax_of l)) →
    ((t : ℤ) → IsOfferUnheard l since t → (world_of l since).time ≤ℤ (t +ℤ pos delay)) → OfferComes l since at →
    (world_of l since).time ≤ℤ (at +ℤ pos (announces_each l * dmax_of l + delay))
comes_in_time l since delay at net on handed (out t le o) =
    both_sum at t (world_of l since).time (announces_each l * dmax_of l) delay le (handed t o)
comes_in_time l since delay at net on handed (due c counts soon awake) =
    let each : ℕ = announces_each l in
    let some : 0 < each = some_announce l.s.cfg.announce net.accepted.ranges.announce.0 in
    let less : c % each < each = mod-lt c some in
    no_more at (world_of l since).time ((c % each + 1) * dmax_of l) (each * dmax_of l + delay)
    (more_yet ((c % each + 1) * dmax_of l) (each * dmax_of l) delay (mul-le-mul_right (dmax_of l) (up_to (c % each) each less)))
    (next_tick at (ticked_of l since) (world_of l since).time (c % each) (dmax_of l) on soon)
