-- The events since the carriers came, as changes of one link by itself with good delivery, by which it comes up.
use Rattle.std.proofs.Common.{◌≡◌, ◌⊎◌, inl, inr, ◌∙◌, refl, ap, sym, subst, subst₂, ℕ, ◌*◌, ◌<◌, ℤ, pos, ◌+ℤ◌, ◌<ℤ◌, ◌≤ℤ◌, true, List, [], ◌∷◌, Option, None, Some, arith}
use Rattle.std.proofs.lemmas.Int.{ints}
use Rattle.wrp_base.specs.declared.link.LinkState.TheVariants.{Idle, LinkOn}
use Rattle.wrp_base.specs.declared.link.Role.{Role}
use Rattle.wrp_base.specs.declared.link.Role.TheVariants.{Master, Slave}
use Rattle.wrp_base.specs.declared.message.WrMsg.{WrMsg}
use Rattle.wrp_network.specs.declared.network.LinkCfg.{LinkCfg}
use Rattle.wrp_network.specs.Network.{node_count}
use Rattle.wrp_bounds.specs.Times.{longest_tick}
use Rattle.wrp_handshake_laws.specs.Ends.{Port, BothPorts, Change, Hears, AllMayCome, MayCome, changed, ends_after, end_of as port_of}
use Rattle.wrp_handshake_laws.specs.Laws.{IsAwake}
use Rattle.wrp_handshake_laws.proofs.Changes.{EndsKeep, all_keep}
use Rattle.wrp_link.specs.declared.interface.LinkIn.TheVariants.{Msg, Announce, Tick as LinkTick}
use Rattle.wrp_link.specs.Rows.{offers}
use Rattle.wrp_link_up_laws.specs.Pace as alone
use Rattle.wrp_link_up_laws.specs.Pace.{AllInTurn, IsGood, IsPrompt, IsReady, IsSteady}
use Rattle.wrp_link_up_laws.proofs.Awake.{IsOn, lit_long_ago, stays_awake}
use Rattle.wrp_link_up_laws.proofs.Changes.{Standing}
use Rattle.wrp_link_up_laws.proofs.Ports.{BothHold, Given}
use Rattle.wrp_link_up_laws.proofs.Proved.{changed_stands, prompt_at}
use Rattle.wrp_port.specs.History.{ticks_open}
use Rattle.wrp_course.specs.declared.event.Event.TheVariants.{Tick}
use Rattle.wrp_course.specs.Premises.{Accepts}
use Rattle.wrp_course.specs.Run.{Happened, world_after}
use Rattle.wrp_course.specs.Runs.{IsNetwork, IsRun, WasPutOut}
use Rattle.wrp_course.specs.Setting.{Setting, end_of, link_of, node_setting_of}
use Rattle.wrp_course.specs.WorldAt.{Sending, WorldAt, has_carrier}
use Rattle.wrp_bound_laws.proofs.Frames.Sendings.{WasPut, was_put}
use Rattle.wrp_bound_laws.proofs.Motion.OnTime.{on_time, ticked_past}
use Rattle.wrp_bound_laws.proofs.Schedules.ScheduleSince.{set_at, told_in}
use Rattle.wrp_comes_up_laws.specs.Laws.{pace_of}
use Rattle.wrp_comes_up_laws.specs.Served.{Throughout, InTurn, IsServed, IsUnheard, IsUnlocked, Beginning, LongestWaits, ends_of, events_of, offers_in, world_of}
use Rattle.wrp_comes_up_laws.proofs.Asked.{Form, given_of}
use Rattle.wrp_comes_up_laws.proofs.Awaiting.{IsAwaiting, OfferComes, comes_in_time, due, offer_comes, ticked_of}
use Rattle.wrp_comes_up_laws.proofs.Delivered.{arrived}
use Rattle.wrp_comes_up_laws.proofs.Elsewhere.{node_up}
use Rattle.wrp_comes_up_laws.proofs.Events.{Sees, as_came, run_before, sees}
use Rattle.wrp_comes_up_laws.proofs.Grounds.{Laws}
use Rattle.wrp_comes_up_laws.proofs.Offers.{due_open, line_now, master_of, offer_in, open_awake, open_now}
use Rattle.wrp_comes_up_laws.proofs.Owed.{OffersAwake, awaited_next, heard_next, in_turn, locked_next, steady}
use Rattle.wrp_comes_up_laws.proofs.Seen.{Seen, dmin_of, life_of, none_seen, port_is_at}

-- a frame with an offer was put out before both ends rest, or the master is awake
abbrev pub HasOffered : Beginning → (still : ℤ) → List Happened → Sending → Type 0
HasOffered l still since x = (x.at ≤ℤ still) ⊎ IsAwake (ends_of l since).master

abbrev pub AllOffered : Beginning → (still : ℤ) → List Happened → Type 0
AllOffered l still since =
    (x : Sending) → WasPutOut x ((world_of l since).end_at l.k Master).sent → offers_in x.message.body ≡ true → HasOffered l still since x

-- the changes of the link from the events since the carriers came, over the ends as they came
pub record Mapped (waits : LongestWaits) (l : Beginning) (form : Form) (first : BothPorts) (since : List Happened) : Type 0 where
  pub changes : List Change
  pub ends : ends_after first changes ≡ ends_of l since
  pub unheard : (role : Role) (m : WrMsg) (at : ℤ) → alone.IsUnheard first role m changes at → IsUnheard l role m since at
  pub awaiting : (at : ℤ) → alone.IsUnoffered first changes at → IsAwaiting l since at
  pub unlocked : (at : ℤ) → alone.IsUnlocked first changes at → IsUnlocked l since at
  pub come : AllMayCome (life_of l) (dmin_of l) first changes
  pub good : IsGood (pace_of l waits) first changes
  pub turns : Throughout (InTurn l) since → AllInTurn first changes
  -- the link comes up
  pub stands : Standing (given_of l waits form) first changes form.still (ends_after first changes)
  -- the master has been awake since its first offer after the carriers came
  pub offered : AllOffered l form.still since
  -- an offer comes in time
  pub comes : (at : ℤ) → IsAwaiting l since at → OfferComes l since at

-- Nothing is late

-- each end's node ticked at most dmax ago
abbrev pub AllOnTime : Beginning → List Happened → Type 0
AllOnTime l since = (role : Role) → (world_of l since).time ≤ℤ ((port_of (ends_of l since) role).ticked +ℤ pos (longest_tick l.s.cfg))

prompt :
    (waits : LongestWaits) (l : Beginning) (first : BothPorts) (since : List Happened) (changes : List Change) → IsNetwork l.s →
    ends_after first changes ≡ ends_of l since →
    ((role : Role) (m : WrMsg) (at : ℤ) → alone.IsUnheard first role m changes at → IsUnheard l role m since at) →
    ((at : ℤ) → alone.IsUnoffered first changes at → OfferComes l since at) →
    ((at : ℤ) → alone.IsUnlocked first changes at → IsUnlocked l since at) →
    AllOnTime l since → IsServed waits l since → IsPrompt (pace_of l waits) first changes
prompt waits l first since changes net e unheard comes unlocked on served =
    let time : (ends_after first changes).time ≡ (world_of l since).time = ap (λ (x : BothPorts). x.time) e in
    record {
      ticks = λ role. subst (λ (x : BothPorts). x.time ≤ℤ ((port_of x role).ticked +ℤ pos (longest_tick l.s.cfg))) (sym e) (on role);
      hears = λ role m at owed. subst (λ t. t ≤ℤ (at +ℤ pos waits.delay)) (sym time) (served.hears role m at (unheard role m at owed));
      offered = λ at owed.
          subst (λ t. t ≤ℤ (at +ℤ pos (pace_of l waits).announce)) (sym time)
          (comes_in_time l since waits.delay at net (on Master) served.offered (comes at owed));
      locks = λ at owed. subst (λ t. t ≤ℤ (at +ℤ pos waits.lock)) (sym time) (served.locks at (unlocked at owed));
    }

-- An event

on_not_idle : LinkOn ≡ Idle → ⊥
on_not_idle e = cc

too_old : (now at lit : ℤ) (life : ℕ) → now ≤ℤ (at +ℤ pos life) → at ≤ℤ lit → (lit +ℤ pos (2 * life)) <ℤ now → ⊥
too_old now at lit life a b c = omega (arith, ints, a, b, c)

past_by : (at ticked time : ℤ) (n : ℕ) → ticked ≤ℤ time → at ≡ time → ticked ≤ℤ (at +ℤ pos n)
past_by at ticked time n h e = omega (arith, ints, h, e)

-- what is known when an event comes
pub record Comes (waits : LongestWaits) (l : Beginning) (since : List Happened) (h : Happened) : Type 0 where
  pub is : link_of l.s l.k ≡ Some l.link
  pub wr : l.link.wr ≡ true
  pub run : IsRun l.s (events_of l (h ∷ since))
  pub was : IsServed waits l since
  pub now : IsServed waits l (h ∷ since)
  pub on : AllOnTime l since
  pub on_now : AllOnTime l (h ∷ since)

-- a link whose slave is in WR_LINK_ON has a master that is awake
on_awake :
    Laws → (l : Beginning) (since : List Happened) → link_of l.s l.k ≡ Some l.link → IsRun l.s (events_of l since) → IsOn (ends_of l since) →
    IsAwake (ends_of l since).master
on_awake laws l since is run on =
    let state : (ends_of l since).master.link.state ≡ LinkOn =
    laws.with_master (life_of l) (dmin_of l) (ends_of l since) (laws.can_be l.s (events_of l since) l.k l.link run is) on.0 on.1 in
    record { lit = on.1; over = inl (λ idle. on_not_idle (sym state ∙ idle)) }

-- an offer is handed to a slave that may begin only while its master is awake
offers_awake :
    Laws → (waits : LongestWaits) (l : Beginning) (form : Form) (first : BothPorts) (since : List Happened) (h : Happened) →
    BothHold (given_of l waits form) → Comes waits l since h →
    Mapped waits l form first since → OffersAwake l since h
offers_awake laws waits l form first since h holds c m it ready =
    let w : WorldAt = world_of l since in
    let was : IsRun l.s (events_of l since) = run_before l.s h (events_of l since) c.run in
    let x : Sending = it.0.frame.sending in
    let put : WasPutOut x (w.end_at l.k Master).sent =
    subst₂ (λ (k : ℕ) (r : Role). WasPutOut x (w.end_at k r).sent) it.0.link it.0.by
    (laws.put l.s (events_of l since) it.0.number it.0.frame was it.0.there) in
    let young : w.time ≤ℤ (x.at +ℤ pos (life_of l)) =
    (arrived l.s w it.0.number it.0.frame (subst (Accepts l.s w h.says) it.0.is c.run.accepted.0) it.0.there).young in
    elim (m.offered x put it.1) [
      | inr now ↦ now
      | inl old ↦
          elim (lit_long_ago (given_of l waits form) first m.changes form.still holds m.stands
          (subst (λ (e : BothPorts). IsReady e.slave) (sym m.ends) ready)) [
            | inl long ↦
                absurd (too_old w.time x.at form.still (life_of l) young old
                (subst (λ (t : ℤ). (form.still +ℤ pos (2 * life_of l)) <ℤ t) (ap (λ (e : BothPorts). e.time) m.ends) long))
            | inr on ↦ on_awake laws l since c.is was (subst IsOn m.ends on)
          ]
    ]

-- the frames with an offer that were put out by then
offered_next :
    Laws → (l : Beginning) (since : List Happened) (h : Happened) → link_of l.s l.k ≡ Some l.link →
    (IsAwake (ends_of l since).master → IsAwake (ends_of l (h ∷ since)).master) →
    (still : ℤ) → AllOffered l still since → AllOffered l still (h ∷ since)
offered_next laws l since h is stays still old x put offer =
    elim (offer_in l.s h.says h.answer (world_of l since) h.event l.k l.link x is offer put) [
      | inl before ↦ elim (old x before offer) [ inl past ↦ inl past | inr awake ↦ inr (stays awake) ]
      | inr new ↦
          inr (subst (λ e. IsAwake (ends_of l (as_came e h.says h.answer ∷ since)).master) (sym new.0)
          (open_awake (ends_of l (as_came (Tick l.link.upper) h.says h.answer ∷ since)).master
          (open_now laws l.s h.says h.answer (world_of l since) l.k l.link
          ∙ due_open (line_now (node_setting_of l.s l.link.upper) ((world_of l since).node l.link.upper) l.link.upper_port) new.1)))
    ]

-- by when an offer comes
comes_next :
    Laws → (waits : LongestWaits) (l : Beginning) (since : List Happened) (h : Happened) → Comes waits l since h →
    (IsAwake (ends_of l since).master → IsAwake (ends_of l (h ∷ since)).master) →
    ((at : ℤ) → IsAwaiting l since at → OfferComes l since at) → (at : ℤ) → IsAwaiting l (h ∷ since) at → OfferComes l (h ∷ since) at
comes_next laws waits l since h c stays old at (inl awake) =
    let w : WorldAt = world_of l (h ∷ since) in
    due (ticks_open (set_at l.s (master_of l.link)) (told_in (master_of l.link) w)) (λ e. refl)
    (past_by at (ticked_of l (h ∷ since)) w.time _ (ticked_past laws.apart l.s (events_of l (h ∷ since)) l.link.upper c.run) awake.now) awake.master
comes_next laws waits l since h c stays old at (inr it) =
    offer_comes laws l since h.says h.answer h.event at c.run c.is c.wr c.was.carried (c.on Master) stays it.1 (old at it.0)

-- An event that has no effect on the link, or is a change

mapped_by :
    Laws → (waits : LongestWaits) (l : Beginning) (form : Form) (first : BothPorts) (since : List Happened) (h : Happened) (seen : Option Change) →
    BothHold (given_of l waits form) → EndsKeep (life_of l) (dmin_of l) first → (form.turns ≡ true → Throughout (InTurn l) (h ∷ since)) →
    Seen l since h seen →
    Comes waits l since h → Mapped waits l form first since → Mapped waits l form first (h ∷ since)
mapped_by laws waits l form first since h None holds keep turn s c m =
    let stays : IsAwake (ends_of l since).master → IsAwake (ends_of l (h ∷ since)).master = subst (λ (e : BothPorts). IsAwake e.master) (sym s.is) in
    record {
      changes = m.changes;
      ends = m.ends ∙ sym s.is;
      unheard = λ role w at owed. inr (m.unheard role w at owed, λ met. none_seen (Hears role (Msg w) at) (s.hears role w at met));
      awaiting = λ at owed. inr (
        m.awaiting at owed,
        λ met.
            let it : (suffix : Option ℕ) × (past : ℤ) × (offers suffix ≡ true) × (None ≡ Some (Hears Slave (Announce suffix) past)) = s.offered met in
            none_seen (Hears Slave (Announce it.0) it.1) it.3,
      );
      unlocked = λ at owed. inr (
        m.unlocked at owed,
        λ met. (let it : (past : ℤ) × (None ≡ Some (Hears Slave (LinkTick true) past)) = s.locked met in none_seen (Hears Slave (LinkTick true) it.0) it.1),
      );
      come = m.come;
      good = m.good;
      turns = λ all. m.turns all.1;
      stands = m.stands;
      offered = offered_next laws l since h c.is stays form.still m.offered;
      comes = comes_next laws waits l since h c stays m.comes;
    }
mapped_by laws waits l form first since h (Some change) holds keep turn s c m =
    let g : Given = given_of l waits form in
    let lit : ℤ = form.still in
    let ends : ends_after first (change ∷ m.changes) ≡ ends_of l (h ∷ since) = ap (λ e. changed e change) m.ends ∙ sym s.is in
    let may : MayCome (life_of l) (dmin_of l) (ends_after first m.changes) change =
    subst (λ e. MayCome (life_of l) (dmin_of l) e change) (sym m.ends) s.may in
    let calm : IsSteady (ends_after first m.changes) change =
    subst (λ e. IsSteady e change) (sym m.ends) (steady l since h change s (offers_awake laws waits l form first since h holds c m)) in
    let was : IsPrompt (pace_of l waits) first m.changes = prompt_at (pace_of l waits) first m.changes m.good in
    let stands : Standing g first (change ∷ m.changes) lit (ends_after first (change ∷ m.changes)) =
    changed_stands g first m.changes lit change holds (all_keep (life_of l) (dmin_of l) first m.changes m.come keep) may calm was
    (λ e. in_turn l first since h m.changes change s m.unheard (turn e).0) m.stands in
    let stays : IsAwake (ends_of l since).master → IsAwake (ends_of l (h ∷ since)).master =
    λ a. elim (stays_awake g first m.changes lit change holds may calm was stands m.stands (subst (λ (e : BothPorts). IsAwake e.master) (sym m.ends) a)) [
      | inl b ↦ subst (λ (e : BothPorts). IsAwake e.master) ends b
      | inr on ↦ on_awake laws l (h ∷ since) c.is c.run (subst IsOn ends on)
    ] in
    let comes : (at : ℤ) → IsAwaiting l (h ∷ since) at → OfferComes l (h ∷ since) at = comes_next laws waits l since h c stays m.comes in
    let unheard : (role : Role) (w : WrMsg) (at : ℤ) → alone.IsUnheard first role w (change ∷ m.changes) at → IsUnheard l role w (h ∷ since) at =
    heard_next l first since h m.changes change s m.ends m.unheard in
    let awaiting : (at : ℤ) → alone.IsUnoffered first (change ∷ m.changes) at →
    IsAwaiting l (h ∷ since) at = awaited_next l first since h m.changes change s ends m.awaiting in
    let unlocked : (at : ℤ) → alone.IsUnlocked first (change ∷ m.changes) at →
    IsUnlocked l (h ∷ since) at = locked_next l first since h m.changes change s ends m.unlocked in
    record {
      changes = change ∷ m.changes;
      ends = ends;
      unheard = unheard;
      awaiting = awaiting;
      unlocked = unlocked;
      come = (may, m.come);
      good = (
        calm,
        (
          prompt waits l first (h ∷ since) (change ∷ m.changes) c.run.network ends unheard (λ at owed. comes at (awaiting at owed)) unlocked c.on_now
              c.now,
          m.good,
        ),
      );
      turns = λ all. (in_turn l first since h m.changes change s m.unheard all.0, m.turns all.1);
      stands = stands;
      offered = offered_next laws l since h c.is stays form.still m.offered;
      comes = comes;
    }

-- Every event

node_inside : (s : Setting) → IsNetwork s → (k : ℕ) (link : LinkCfg) (role : Role) → link_of s k ≡ Some link → (end_of role link).node < node_count s.cfg
node_inside s net k link Master is = (net.accepted.tree.ends k link is).0
node_inside s net k link Slave is = (net.accepted.tree.ends k link is).1

ends_on_time :
    Laws → (l : Beginning) (since : List Happened) → link_of l.s l.k ≡ Some l.link → IsRun l.s (events_of l since) →
    has_carrier l.s (world_of l since) l.k ≡ true → AllOnTime l since
ends_on_time laws l since is run lit role =
    let w : WorldAt = world_of l since in
    subst (λ (q : Port). w.time ≤ℤ (q.ticked +ℤ pos (longest_tick l.s.cfg))) (sym (port_is_at l.s w l.k l.link role))
    (on_time laws.apart l.s (events_of l since) (end_of role l.link).node (node_inside l.s run.network l.k l.link role is) run
    (node_up l.s w l.k role l.link is lit))

newest : (P : List Happened → Type 0) (since : List Happened) → Throughout P since → P since
newest P [] all = all
newest P (h ∷ since) all = all.0

-- what was put out was put out in the past
pub put_past :
    Laws → (s : Setting) (events : List Happened) (k : ℕ) (r : Role) (x : Sending) → IsRun s events → WasPutOut x ((world_after s events).end_at k r).sent →
    x.at ≤ℤ (world_after s events).time
put_past laws s events k r x run put =
    let it : WasPut s events k r x = was_put s events k r x put in
    subst₂ (λ t (es : List Happened). t ≤ℤ (world_after s es).time) (sym it.in_it.at) (sym it.splits)
    (laws.rises s it.newer it.older (subst (IsRun s) it.splits run))

pub mapped :
    Laws → (waits : LongestWaits) (l : Beginning) (form : Form) (first : BothPorts) (since : List Happened) → link_of l.s l.k ≡ Some l.link →
    l.link.wr ≡ true →
    BothHold (given_of l waits form) → EndsKeep (life_of l) (dmin_of l) first → first ≡ ends_of l [] →
    Standing (given_of l waits form) first [] form.still first → AllOffered l form.still [] →
    (form.turns ≡ true → Throughout (InTurn l) since) → IsRun l.s (events_of l since) → Throughout (IsServed waits l) since → Mapped waits l form first since
mapped laws waits l form first [] is wr holds keep e stands offered turn run served = record {
  changes = [];
  ends = e;
  unheard = λ role m at owed. absurd owed;
  awaiting = λ at owed. absurd owed;
  unlocked = λ at owed. absurd owed;
  come = tt;
  good =
      prompt waits l first [] [] run.network e (λ role m at owed. absurd owed) (λ at owed. absurd owed) (λ at owed. absurd owed)
      (ends_on_time laws l [] is run served.carried) served;
  turns = λ all. tt;
  stands = stands;
  offered = offered;
  comes = λ at owed. absurd owed;
}
mapped laws waits l form first (h ∷ since) is wr holds keep e stands offered turn run served =
    let was_run : IsRun l.s (events_of l since) = run_before l.s h (events_of l since) run in
    let was : IsServed waits l since = newest (IsServed waits l) since served.1 in
    let it : Sees l since h = sees laws l since h.says h.answer h.event is run was.carried served.0.carried in
    mapped_by laws waits l form first since h it.seen holds keep turn it.tells
    (record {
      is = is;
      wr = wr;
      run = run;
      was = was;
      now = served.0;
      on = ends_on_time laws l since is was_run was.carried;
      on_now = ends_on_time laws l (h ∷ since) is run served.0.carried;
    })
    (mapped laws waits l form first since is wr holds keep e stands offered (λ t. (turn t).1) was_run served.1)
