-- A link that comes up over each change, and over a list of them.
use Rattle.std.proofs.Common.{◌≡◌, ◌≢◌, ◌⊎◌, inl, inr, refl, sym, ap, ◌∙◌, subst, ℤ, ℕ, ◌*◌, ◌≤◌, pos, true, false, Bool, List, ◌∷◌, ◌+ℤ◌, ◌<ℤ◌, ◌≤ℤ◌}
use Rattle.wrp_base.specs.declared.link.LinkState.{LinkState}
use Rattle.wrp_base.specs.declared.link.LinkState.TheVariants.{Idle, Present, SLock, MLock, Locked, Calibration, Calibrated, RespCalib, LinkOn}
use Rattle.wrp_base.specs.declared.link.Role.{Role}
use Rattle.wrp_base.specs.declared.link.Role.TheVariants.{Master, Slave}
use Rattle.wrp_base.specs.declared.message.WrMsg.{WrMsg}
use Rattle.wrp_base.specs.declared.message.WrMsg.TheVariants.{Present as SLAVE_PRESENT, Lock as LOCK}
use Rattle.wrp_link.specs.declared.interface.LinkIn.{LinkIn}
use Rattle.wrp_link.specs.declared.interface.LinkIn.TheVariants.{Msg, Announce, Tick, CarrierDown, CarrierUp}
use Rattle.wrp_link.specs.declared.interface.LinkSet.{LinkSet}
use Rattle.wrp_link.specs.LinkAt.{LinkAt}
use Rattle.wrp_link.specs.Rows.{Row, NoRow, Stays, Moves, Keeps, Resends, Fails, Waits, Counts, CarrierComes, CarrierGoes, under, slave_row, message_row, announce_row, tick_row, row_of}
use Rattle.wrp_link.specs.Table.{counted, by_row, sent_by}
use Rattle.wrp_link.proofs.Fits.{Belongs}
use Rattle.wrp_link.proofs.Orders.{counted_state}
use Rattle.wrp_handshake_laws.specs.Ends.{Sending, Port, BothPorts, Change, Passes, Hears, stamped, ticked_by, MayHear, changed, ends_after}
use Rattle.wrp_handshake_laws.specs.Laws.{IsAwake}
use Rattle.wrp_handshake_laws.proofs.Failing.{row_fails}
use Rattle.wrp_handshake_laws.proofs.RowFits.{RowFits, row_fits}
use Rattle.wrp_handshake_laws.proofs.Times.{Calm, calm_over}
use Rattle.wrp_link_up_laws.specs.Pace.{InTurn, IsPrompt, IsReady, LeavesCarrier, IsSteady, rest_of}
use Rattle.wrp_link_up_laws.proofs.Exchanges.{grown}
use Rattle.wrp_link_up_laws.proofs.Ports.{Given, Holds, BothHold, PortUp, Outcome, stays, moves, Step, row_up, reached, told_from, no_holdoff, no_quiet, none_left}
use Rattle.wrp_link_up_laws.proofs.Stages.{a_wait, by_two, by_three, before_calibrate, Exchange, calls, answers, tells, waits, Stage, resting, offered, answered, locking, locked, down, up, turning, Prompt}
use Rattle.wrp_link_up_laws.proofs.Steps.{master_patient, slave_patient, master_steps, slave_steps, Stepped}
use Rattle.wrp_link_up_laws.proofs.Sums.{on_long, since_lit, below}
use Rattle.wrp_link_up_laws.proofs.Tells.{IsTick, RowTells, row_tells}

-- how far a link is since the carriers came: it comes up, or its slave is in WR_LINK_ON
pub data Standing (g : Given) (first : BothPorts) (changes : List Change) (lit : ℤ) (ends : BothPorts) : Type 0 where
  coming :
      (me : ℤ) → (se : ℤ) → PortUp g ends.time lit Master ends.master.link ends.master.ticked ends.master.sent me →
      PortUp g ends.time lit Slave ends.slave.link ends.slave.ticked ends.slave.sent se →
      Stage g first changes lit ends.master.link ends.slave.link me se ends.slave.sent → Standing g first changes lit ends
  is_on : ends.slave.link.state ≡ LinkOn → ends.slave.link.role ≡ Slave → ends.master.link.carrier ≡ true → Standing g first changes lit ends

-- what is owed at a moment, for a link that comes up
pub prompt_of : (g : Given) (first : BothPorts) (older : List Change) → IsPrompt g.pace first older →
    Prompt g first older (ends_after first older).time (ends_after first older).master.ticked (ends_after first older).slave.ticked
prompt_of g first older p = record { master = p.ticks Master; slave = p.ticks Slave; hears = p.hears; offers_come = p.offered; locks = p.locks }

-- time passes
pub passes_up :
    (g : Given) (time lit : ℤ) (dt : ℕ) (role : Role) (l : LinkAt) (tick : ℤ) (sent : List Sending) (e : ℤ) →
    PortUp g time lit role l tick sent e → PortUp g (time +ℤ pos dt) lit role l tick sent e
passes_up g time lit dt role l tick sent e u =
    record {
      has_carrier = u.has_carrier;
      listed = u.listed;
      same_set = u.same_set;
      same_role = u.same_role;
      belongs = u.belongs;
      free = u.free;
      past = grown e time dt u.past;
      ticked = grown tick time dt u.ticked;
      lit_past = grown lit time dt u.lit_past;
      calm = u.calm;
      soon = u.soon;
      awake = u.awake;
      timer = u.timer;
      at_once = u.at_once;
      on = u.on;
      sents = λ f i. (let x : (f.1 ≤ℤ time) × ((f.1 ≤ℤ lit) ⊎ (told_from role f.0 ≤ reached role l.state)) = u.sents f i in (grown f.1 time dt x.0, x.1));
    }

passes_exchange :
    (g : Given) (first : BothPorts) (older : List Change) (dt : ℕ) (taker : Role) (gl rl : LinkAt) (ge re : ℤ) (slack : ℕ) (by : ℤ) →
    Exchange g first older taker gl rl ge re slack by → Exchange g first (Passes dt ∷ older) taker gl rl ge re slack by
passes_exchange g first older dt taker gl rl ge re slack by (calls gs rs a b c o) = calls gs rs a b c (inr (o, λ h. h))
passes_exchange g first older dt taker gl rl ge re slack by (answers gs rs a b) = answers gs rs a b
passes_exchange g first older dt taker gl rl ge re slack by (tells gs rs c a b d e f o fresh) =
    tells gs rs c a b d e f (inr (o, λ h. h)) (elim fresh [ inl x ↦ inl x | inr t ↦ inr (t.0, (t.1.0, (t.1.1.0, inr (t.1.1.1, λ h. h)))) ])
passes_exchange g first older dt taker gl rl ge re slack by (waits gs rs a b which) =
    waits gs rs a b (elim which [ inl f ↦ inl f | inr o ↦ inr (o.0, (o.1.0, (o.1.1.0, (o.1.1.1.0, inr (o.1.1.1.1, λ h. h))))) ])

pub passes_stage :
    (g : Given) (first : BothPorts) (older : List Change) (dt : ℕ) (lit : ℤ) (ml sl : LinkAt) (me se : ℤ) (sent : List Sending) →
    Stage g first older lit ml sl me se sent → Stage g first (Passes dt ∷ older) lit ml sl me se sent
passes_stage g first older dt lit ml sl me se sent (resting mi si w) =
    resting mi si
    (elim w [
      | inl q ↦ inl q
      | inr w ↦ elim w [ inl q ↦ inr (inl q) | inr b ↦ inr (inr (b.0, (b.1.0, (b.1.1.0, (b.1.1.1.0, inr (b.1.1.1.1, λ h. h)))))) ]
    ])
passes_stage g first older dt lit ml sl me se sent (offered mi q si a o) = offered mi q si a (inr (o, λ h. h))
passes_stage g first older dt lit ml sl me se sent (answered mi si a b o) = answered mi si a b (inr (o, λ h. h))
passes_stage g first older dt lit ml sl me se sent (locking mi si a b o) = locking mi si a b (inr (o, λ h. h))
passes_stage g first older dt lit ml sl me se sent (locked mi si a b o) = locked mi si a b (inr (o, λ h. h))
passes_stage g first older dt lit ml sl me se sent (down x) = down (passes_exchange g first older dt Slave ml sl me se g.pace.delay (lit +ℤ pos (by_two g)) x)
passes_stage g first older dt lit ml sl me se sent (up x) = up (passes_exchange g first older dt Master sl ml se me (a_wait g Master) (lit +ℤ pos (by_three g)) x)
passes_stage g first older dt lit ml sl me se sent (turning mi si a b o f) = turning mi si a b (inr (o, λ h. h)) f

-- a slave in WR_LINK_ON stays there
on_no_row : (m : WrMsg) → slave_row LinkOn m ≡ NoRow
on_no_row LOCK = refl
on_no_row _ = refl

under_state : (b : Bool) (l : LinkAt) (row : Row) → (by_row l row).state ≡ l.state → (by_row l (under b row)).state ≡ l.state
under_state true l row h = h
under_state false l row h = refl

pub on_stays : (l : LinkAt) (input : LinkIn) → LeavesCarrier input → l.role ≡ Slave → l.state ≡ LinkOn → (by_row l (row_of l input)).state ≡ l.state
on_stays l (Msg m) leaves role on =
    under_state l.carrier l (message_row l l.role m)
    (ap (λ (row : Row). (by_row l row).state) (ap (λ (r : Role). message_row l r m) role ∙ ap (λ (s : LinkState). slave_row s m) on ∙ on_no_row m))
on_stays l (Announce suffix) leaves role on =
    under_state l.carrier l (announce_row l l.role l.state suffix)
    (ap (λ (row : Row). (by_row l row).state) (ap (λ (r : Role). announce_row l r l.state suffix) role ∙ ap (λ (s : LinkState). announce_row l Slave s suffix) on))
on_stays l (Tick seen) leaves role on =
    under_state l.carrier l (tick_row l l.state seen)
    (ap (λ (row : Row). (by_row l row).state) (ap (λ (s : LinkState). tick_row l s seen) on) ∙ counted_state l l.state)
on_stays l CarrierDown leaves role on = absurd leaves
on_stays l (CarrierUp fitted) leaves role on = absurd leaves

counted_carrier : (l : LinkAt) (s : LinkState) → (counted l s).carrier ≡ l.carrier
counted_carrier l Idle = refl
counted_carrier l LinkOn = refl
counted_carrier l _ = refl

-- the carrier stays
pub carrier_by : (l : LinkAt) (role : Role) (from : LinkState) (input : LinkIn) (row : Row) → LeavesCarrier input → RowTells l role from input row → (by_row l row).carrier ≡ l.carrier
carrier_by l role from input Counts leaves t = counted_carrier l l.state
carrier_by l role from input (CarrierComes fitted) leaves t = absurd (subst (λ (i : LinkIn). LeavesCarrier i) t leaves)
carrier_by l role from input CarrierGoes leaves t = absurd (subst (λ (i : LinkIn). LeavesCarrier i) t leaves)
carrier_by l role from input NoRow leaves t = refl
carrier_by l role from input (Stays ms) leaves t = refl
carrier_by l role from input (Moves next ms) leaves t = refl
carrier_by l role from input (Keeps tx rx next ms) leaves t = refl
carrier_by l role from input (Resends ms) leaves t = refl
carrier_by l role from input Fails leaves t = refl
carrier_by l role from input Waits leaves t = refl

outcome_lit :
    (g : Given) (time lit : ℤ) (role : Role) (l : LinkAt) (e : ℤ) (input : LinkIn) (next : LinkAt) (tick : ℤ) (sent : List Sending) (ms : List WrMsg) →
    Outcome g time lit role l e input next tick sent ms → next.carrier ≡ true
outcome_lit g time lit role l e input next tick sent ms (stays u same firm q all fresh) = u.has_carrier
outcome_lit g time lit role l e input next tick sent ms (moves to u same m fresh) = u.has_carrier

outcome_role :
    (g : Given) (time lit : ℤ) (role : Role) (l : LinkAt) (e : ℤ) (input : LinkIn) (next : LinkAt) (tick : ℤ) (sent : List Sending) (ms : List WrMsg) →
    Outcome g time lit role l e input next tick sent ms → next.role ≡ role
outcome_role g time lit role l e input next tick sent ms (stays u same firm q all fresh) = u.same_role
outcome_role g time lit role l e input next tick sent ms (moves to u same m fresh) = u.same_role

-- a port that is awake has been awake since long after the carriers came
pub awake_by :
    (g : Given) (time lit : ℤ) (role : Role) (l : LinkAt) (tick : ℤ) (sent : List Sending) (e : ℤ) →
    Holds g role → PortUp g time lit role l tick sent e → (l.state ≡ Idle) ⊎ (l.state ≢ Idle) → (l.state ≡ Idle → rest_of l ≡ 0) → (lit +ℤ pos (2 * g.life)) <ℤ time
awake_by g time lit role l tick sent e h u which quiet =
    elim which [
      | inl i ↦
          calm_over g.life g.dmin (g.rest role) tick time lit h.rests u.ticked
          (subst (λ (q : ℕ). Calm g.dmin (g.rest role) q tick lit) (quiet i) (u.calm i))
      | inr out ↦ below lit e time (2 * g.life) (u.awake out) u.past
    ]

pub idle_or_out : (s : LinkState) → (s ≡ Idle) ⊎ (s ≢ Idle)
idle_or_out Idle = inl refl
idle_or_out _ = inr (λ e. cc)

-- what a port that is awake is given, its peer sent since the carriers came
told_by :
    (g : Given) (time lit : ℤ) (role other : Role) (p q : Port) (e qe : ℤ) (input : LinkIn) (at0 : ℤ) →
    Holds g role → PortUp g time lit role p.link p.ticked p.sent e → PortUp g time lit other q.link q.ticked q.sent qe →
    MayHear g.life g.dmin time p q input at0 → (p.link.state ≡ Idle → rest_of p.link ≡ 0) →
    (m : WrMsg) → input ≡ Msg m → told_from other m ≤ reached other q.link.state
told_by g time lit role other p q e qe input at0 h u uq may quiet m is =
    let told : MayHear g.life g.dmin time p q (Msg m) at0 = subst (λ (i : LinkIn). MayHear g.life g.dmin time p q i at0) is may in
    let x : (at0 ≤ℤ time) × ((at0 ≤ℤ lit) ⊎ (told_from other m ≤ reached other q.link.state)) = uq.sents (m, at0) told.0 in
    elim x.1 [
      | inl old ↦ absurd (since_lit g.life at0 lit time (awake_by g time lit role p.link p.ticked p.sent e h u (idle_or_out p.link.state) quiet) told.1 old)
      | inr le ↦ le
    ]

pub early_of : (life dmin : ℕ) (time : ℤ) (p q : Port) (input : LinkIn) (at0 : ℤ) → MayHear life dmin time p q input at0 → IsTick input → (p.ticked +ℤ pos dmin) ≤ℤ time
early_of life dmin time p q (Tick seen) at0 may t = may
early_of life dmin time p q (Msg m) at0 may t = absurd t
early_of life dmin time p q (Announce suffix) at0 may t = absurd t
early_of life dmin time p q CarrierDown at0 may t = absurd t
early_of life dmin time p q (CarrierUp fitted) at0 may t = absurd t

not_on : (l : LinkAt) (s : LinkState) → l.state ≡ s → s ≢ LinkOn → l.state ≡ LinkOn → ⊥
not_on l s is out on = out (sym is ∙ on)

before_not_on : (taker : Role) (l : LinkAt) → l.state ≡ before_calibrate taker → l.state ≡ LinkOn → ⊥
before_not_on Slave l is on = not_on l Locked is (λ e. cc) on
before_not_on Master l is on = not_on l Calibrated is (λ e. cc) on

exchange_not_on :
    (g : Given) (first : BothPorts) (older : List Change) (taker : Role) (gl rl : LinkAt) (ge re : ℤ) (slack : ℕ) (by : ℤ) →
    Exchange g first older taker gl rl ge re slack by → (gl.state ≡ LinkOn → ⊥) × (rl.state ≡ LinkOn → ⊥)
exchange_not_on g first older taker gl rl ge re slack by (calls gs rs a b c o) = (not_on gl Calibration gs (λ e. cc), before_not_on taker rl rs)
exchange_not_on g first older taker gl rl ge re slack by (answers gs rs a b) = (not_on gl Calibration gs (λ e. cc), not_on rl RespCalib rs (λ e. cc))
exchange_not_on g first older taker gl rl ge re slack by (tells gs rs c a b d e f o fresh) = (not_on gl Calibrated gs (λ x. cc), before_not_on taker rl rs)
exchange_not_on g first older taker gl rl ge re slack by (waits gs rs a b which) = (not_on gl Calibrated gs (λ e. cc), not_on rl RespCalib rs (λ e. cc))

-- the master is not chased out of WR_LINK_ON
pub master_safe :
    (g : Given) (first : BothPorts) (older : List Change) (time lit : ℤ) (p q : Port) (me se : ℤ) (input : LinkIn) (at0 : ℤ) →
    Holds g Master → PortUp g time lit Master p.link p.ticked p.sent me → MayHear g.life g.dmin time p q input at0 →
    Stage g first older lit p.link q.link me se q.sent →
    p.link.state ≡ LinkOn → input ≡ Msg SLAVE_PRESENT → p.link.set.quiet ≤ p.link.on_ticks → ⊥
master_safe g first older time lit p q me se input at0 h u may (resting mi si w) on is long = not_on p.link Idle mi (λ e. cc) on
master_safe g first older time lit p q me se input at0 h u may (offered mi z si a o) on is long = not_on p.link Idle mi (λ e. cc) on
master_safe g first older time lit p q me se input at0 h u may (answered mi si a b o) on is long = not_on p.link MLock mi (λ e. cc) on
master_safe g first older time lit p q me se input at0 h u may (locking mi si a b o) on is long = not_on p.link MLock mi (λ e. cc) on
master_safe g first older time lit p q me se input at0 h u may (locked mi si a b o) on is long = not_on p.link MLock mi (λ e. cc) on
master_safe g first older time lit p q me se input at0 h u may (down x) on is long =
    (exchange_not_on g first older Slave p.link q.link me se g.pace.delay (lit +ℤ pos (by_two g)) x).0 on
master_safe g first older time lit p q me se input at0 h u may (up x) on is long =
    (exchange_not_on g first older Master q.link p.link se me (a_wait g Master) (lit +ℤ pos (by_three g)) x).1 on
master_safe g first older time lit p q me se input at0 h u may (turning mi si a b o f) on is long =
    let told : MayHear g.life g.dmin time p q (Msg SLAVE_PRESENT) at0 = subst (λ (i : LinkIn). MayHear g.life g.dmin time p q i at0) is may in
    on_long g.life g.dmin (g.set Master).quiet p.link.on_ticks at0 me p.ticked time h.outlives
    (subst (λ (s : LinkSet). s.quiet ≤ p.link.on_ticks) u.same_set long) (u.on on) u.ticked told.1 (f (SLAVE_PRESENT, at0) told.0 refl)

slave_safe :
    (g : Given) (first : BothPorts) (older : List Change) (lit : ℤ) (ml sl : LinkAt) (me se : ℤ) (sent : List Sending) →
    Stage g first older lit ml sl me se sent → sl.state ≡ LinkOn → ⊥
slave_safe g first older lit ml sl me se sent (resting mi si w) on = not_on sl Idle si (λ e. cc) on
slave_safe g first older lit ml sl me se sent (offered mi z si a o) on = not_on sl Present si (λ e. cc) on
slave_safe g first older lit ml sl me se sent (answered mi si a b o) on = not_on sl Present si (λ e. cc) on
slave_safe g first older lit ml sl me se sent (locking mi si a b o) on = not_on sl SLock si (λ e. cc) on
slave_safe g first older lit ml sl me se sent (locked mi si a b o) on = not_on sl Locked si (λ e. cc) on
slave_safe g first older lit ml sl me se sent (down x) on = (exchange_not_on g first older Slave ml sl me se g.pace.delay (lit +ℤ pos (by_two g)) x).1 on
slave_safe g first older lit ml sl me se sent (up x) on = (exchange_not_on g first older Master sl ml se me (a_wait g Master) (lit +ℤ pos (by_three g)) x).0 on
slave_safe g first older lit ml sl me se sent (turning mi si a b o f) on = not_on sl Calibrated si (λ e. cc) on

-- what an input does to a port
pub outcome_of :
    (g : Given) (time lit : ℤ) (role : Role) (p : Port) (e : ℤ) (input : LinkIn) → Step g role time p.link p.ticked e input →
    PortUp g time lit role p.link p.ticked p.sent e →
    Outcome g time lit role p.link e input (by_row p.link (row_of p.link input)) (ticked_by input time p.ticked)
    (stamped time (sent_by (row_of p.link input)) p.sent) (sent_by (row_of p.link input))
outcome_of g time lit role p e input st u =
    let b : Belongs p.link.role p.link.state = subst (λ (r : Role). Belongs r p.link.state) (sym u.same_role) u.belongs in
    row_up g time lit role p.link p.ticked p.sent e input (row_of p.link input) st u
    (subst (λ (r : Role). RowTells p.link r p.link.state input (row_of p.link input)) u.same_role (row_tells p.link input u.has_carrier b))
    (subst (λ (r : Role). RowFits r p.link.state p.link input (row_of p.link input)) u.same_role (row_fits p.link input b))
    (row_fails p.link input)

-- a port that has rested
resting_ready : (p : Port) → p.link.carrier ≡ true → rest_of p.link ≡ 0 → IsReady p
resting_ready p lit r = record { awake = record { lit = lit; over = inr (no_quiet p.link r) }; free = inr (no_holdoff p.link r) }

-- the master is given an input
pub master_hears :
    (g : Given) (first : BothPorts) (older : List Change) (lit : ℤ) (input : LinkIn) (at0 : ℤ) (me se : ℤ) → BothHold g →
    PortUp g (ends_after first older).time lit Master (ends_after first older).master.link (ends_after first older).master.ticked (ends_after first older).master.sent me →
    PortUp g (ends_after first older).time lit Slave (ends_after first older).slave.link (ends_after first older).slave.ticked (ends_after first older).slave.sent se →
    Stage g first older lit (ends_after first older).master.link (ends_after first older).slave.link me se (ends_after first older).slave.sent →
    IsPrompt g.pace first older → LeavesCarrier input → (g.in_turn ≡ true → InTurn first older (Hears Master input at0)) →
    MayHear g.life g.dmin (ends_after first older).time (ends_after first older).master (ends_after first older).slave input at0 →
    Standing g first (Hears Master input at0 ∷ older) lit (changed (ends_after first older) (Hears Master input at0))
master_hears g first older lit input at0 me se h um us s p leaves turn may =
    let ends : BothPorts = ends_after first older in
    let pr : Prompt g first older ends.time ends.master.ticked ends.slave.ticked = prompt_of g first older p in
    let st : Step g Master ends.time ends.master.link ends.master.ticked me input =
    record {
      holds = h Master;
      leaves = leaves;
      early = early_of g.life g.dmin ends.time ends.master ends.slave input at0 may;
      due = pr.master;
      patient = master_patient g first older ends.time lit ends.master.link ends.slave.link ends.master.ticked ends.slave.ticked ends.master.sent ends.slave.sent me se h um us pr s;
      safe = master_safe g first older ends.time lit ends.master ends.slave me se input at0 (h Master) um may s;
    } in
    let row : Row = row_of ends.master.link input in
    let out : Outcome g ends.time lit Master ends.master.link me input (by_row ends.master.link row) (ticked_by input ends.time ends.master.ticked)
    (stamped ends.time (sent_by row) ends.master.sent) (sent_by row) = outcome_of g ends.time lit Master ends.master me input st um in
    let x : Stepped g first (Hears Master input at0 ∷ older) ends.time lit (by_row ends.master.link row) ends.slave.link (ticked_by input ends.time ends.master.ticked) ends.slave.ticked
    (stamped ends.time (sent_by row) ends.master.sent) ends.slave.sent =
    master_steps g first older ends.time lit ends.master.link ends.slave.link (by_row ends.master.link row) ends.master.ticked ends.slave.ticked (ticked_by input ends.time ends.master.ticked)
    ends.master.sent ends.slave.sent (stamped ends.time (sent_by row) ends.master.sent) me se input at0 (sent_by row) h um us pr
    (λ quiet m is. told_by g ends.time lit Master Slave ends.master ends.slave me se input at0 (h Master) um us may quiet m is)
    (λ m i. inl (refl, i))
    (λ _ q idle sq.
    record {
      idle = idle;
      master = record { lit = outcome_lit g ends.time lit Master ends.master.link me input (by_row ends.master.link row) (ticked_by input ends.time ends.master.ticked) (stamped ends.time (sent_by row) ends.master.sent) (sent_by row) out; over = inr (no_quiet (by_row ends.master.link row) q) };
      slave = resting_ready ends.slave us.has_carrier sq;
      now = refl;
    })
    turn s out in
    coming x.me x.se x.master x.slave x.stage

awake_quiet : (p : Port) → IsAwake p → p.link.state ≡ Idle → p.link.quiet ≡ 0
awake_quiet p a idle = elim a.over [ inl out ↦ absurd (out idle) | inr q ↦ q ]

-- the slave is given an input
pub slave_hears :
    (g : Given) (first : BothPorts) (older : List Change) (lit : ℤ) (input : LinkIn) (at0 : ℤ) (me se : ℤ) → BothHold g →
    PortUp g (ends_after first older).time lit Master (ends_after first older).master.link (ends_after first older).master.ticked (ends_after first older).master.sent me →
    PortUp g (ends_after first older).time lit Slave (ends_after first older).slave.link (ends_after first older).slave.ticked (ends_after first older).slave.sent se →
    Stage g first older lit (ends_after first older).master.link (ends_after first older).slave.link me se (ends_after first older).slave.sent →
    IsPrompt g.pace first older → IsSteady (ends_after first older) (Hears Slave input at0) → (g.in_turn ≡ true → InTurn first older (Hears Slave input at0)) →
    MayHear g.life g.dmin (ends_after first older).time (ends_after first older).slave (ends_after first older).master input at0 →
    Standing g first (Hears Slave input at0 ∷ older) lit (changed (ends_after first older) (Hears Slave input at0))
slave_hears g first older lit input at0 me se h um us s p steady turn may =
    let ends : BothPorts = ends_after first older in
    let pr : Prompt g first older ends.time ends.master.ticked ends.slave.ticked = prompt_of g first older p in
    let st : Step g Slave ends.time ends.slave.link ends.slave.ticked se input =
    record {
      holds = h Slave;
      leaves = steady.0;
      early = early_of g.life g.dmin ends.time ends.slave ends.master input at0 may;
      due = pr.slave;
      patient = slave_patient g first older ends.time lit ends.master.link ends.slave.link ends.master.ticked ends.slave.ticked ends.master.sent ends.slave.sent me se h um us pr s;
      safe = λ on _ _. slave_safe g first older lit ends.master.link ends.slave.link me se ends.slave.sent s on;
    } in
    let row : Row = row_of ends.slave.link input in
    let next : LinkAt = by_row ends.slave.link row in
    let later : ℤ = ticked_by input ends.time ends.slave.ticked in
    let out : Outcome g ends.time lit Slave ends.slave.link se input next later (stamped ends.time (sent_by row) ends.slave.sent) (sent_by row) =
    outcome_of g ends.time lit Slave ends.slave se input st us in
    elim (slave_steps g first older ends.time lit ends.master.link ends.slave.link next ends.master.ticked ends.slave.ticked later
    ends.master.sent ends.slave.sent me se input at0 (sent_by row) h um us pr
    (λ quiet m is. told_by g ends.time lit Slave Master ends.slave ends.master se me input at0 (h Slave) us um may quiet m is)
    (λ m i. inl (refl, i))
    (λ _ q idle sq.
    record {
      idle = idle;
      master = record { lit = um.has_carrier; over = inr (no_quiet ends.master.link q) };
      slave =
          record {
            awake = record {
              lit = outcome_lit g ends.time lit Slave ends.slave.link se input next later (stamped ends.time (sent_by row) ends.slave.sent) (sent_by row) out;
              over = inr (no_quiet next sq);
            };
            free = inr (no_holdoff next sq);
          };
      now = refl;
    })
    (λ is. record { locking = is; now = refl })
    (λ suffix is off over idle.
    none_left ends.master.link (awake_quiet ends.master (steady.1 refl suffix is off (resting_ready ends.slave us.has_carrier over)) idle) (um.free refl))
    turn s out) [
      | inl x ↦ coming x.me x.se x.master x.slave x.stage
      | inr on ↦ is_on on (outcome_role g ends.time lit Slave ends.slave.link se input next later (stamped ends.time (sent_by row) ends.slave.sent) (sent_by row) out) um.has_carrier
    ]
