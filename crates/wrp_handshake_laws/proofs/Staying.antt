-- A slave in WR_LINK_ON has its master there: the master leaves that state only by a SLAVE_PRESENT that was
-- sent after each LOCK was too old to be heard, or with its carrier.
use Rattle.std.proofs.Common.{◌≡◌, ◌≢◌, ◌⊎◌, inl, inr, refl, ap, sym, ◌∙◌, subst, ℕ, suc, zero, ◌+◌, ◌-◌, ◌*◌, ◌<◌, ◌≤◌, min, ℤ, pos, ◌+ℤ◌, ◌≤ℤ◌, ◌<ℤ◌, true, false, List, [], ◌∷◌, map, reverse, Option, None, arith}
use Rattle.std.proofs.lemmas.Int.{ints}
use Rattle.wrp_base.specs.declared.link.LinkState.{LinkState}
use Rattle.wrp_base.specs.declared.link.LinkState.TheVariants.{Idle, MLock, Calibration, Calibrated, RespCalib, LinkOn}
use Rattle.wrp_base.specs.declared.link.Mark.{Mark}
use Rattle.wrp_base.specs.declared.link.Role.{Role}
use Rattle.wrp_base.specs.declared.link.Role.TheVariants.{Master, Slave}
use Rattle.wrp_base.specs.declared.message.WrMsg.{WrMsg}
use Rattle.wrp_base.specs.declared.message.WrMsg.TheVariants.{Present as SLAVE_PRESENT, ModeOn as WR_MODE_ON}
use Rattle.wrp_base.specs.Link.{other_of}
use Rattle.wrp_base.proofs.Naturals.{suc_less_one}
use Rattle.wrp_link.specs.declared.interface.LinkIn.{LinkIn}
use Rattle.wrp_link.specs.declared.interface.LinkIn.TheVariants.{Msg}
use Rattle.wrp_link.specs.LinkAt.{LinkAt, Waiting, wait_of}
use Rattle.wrp_link.specs.Rows.{Row, NoRow, Stays, Moves, Keeps, Resends, Fails, Waits, Counts, CarrierComes, CarrierGoes, row_of}
use Rattle.wrp_link.specs.Table.{counted, ticked, retried, sent_by}
use Rattle.wrp_check.specs.Required.{required_of}
use Rattle.wrp_check.specs.Stretches.{joined, stretches_of, newest_of, BeganBy, Entered}
use Rattle.wrp_link.proofs.Deltas.{is_same_self}
use Rattle.wrp_handshake_laws.specs.Ends.{Sending, Port, BothPorts, Change, Passes, Hears, Starts, Lights, IsAmong, stamped, mover_of, ticked_by, marked, port_by, MayHear, IsNoCarrier, changed, MayCome, AllMayCome, ends_after, new_ends, lit_by, lit_at, CanBe}
use Rattle.wrp_handshake_laws.proofs.Stages.{engaged, bound, opens, way_of, Sends, SendsAll, bound_sends}
use Rattle.wrp_handshake_laws.proofs.RowFits.{RowFits, row_fits}
use Rattle.wrp_handshake_laws.proofs.Failing.{FailsBy, row_fails}
use Rattle.wrp_handshake_laws.proofs.Keeps.{view_of, Ghost, led_to, Current, IsEngaged, PortKeeps}
use Rattle.wrp_handshake_laws.proofs.Parts.{mark_at, not_idle, not_same_idle, differs, out_engaged, began_rest, joins, stays_sent, stamped_in}
use Rattle.wrp_handshake_laws.proofs.Inputs.{marked_new, marked_same, tick_grows}
use Rattle.wrp_handshake_laws.proofs.Changes.{EndsKeep, start_keeps, all_keep}
use Rattle.wrp_handshake_laws.proofs.Same.{on_bound, too_new}

-- products and sums on times
more_ticks : (a b d : ℕ) → a ≤ b → a * d ≤ b * d
more_ticks a b d h = grind arith

one_more : (n m d : ℕ) → m ≤ n + 1 → m * d ≤ n * d + d
one_more n m d h =
    let k : m * d ≤ (n + 1) * d = more_ticks m (n + 1) d h in
    omega arith

long_on : (life k on dmin : ℕ) (at tick time : ℤ) →
    2 * life < k * dmin → suc k * dmin ≤ on * dmin → (at +ℤ pos (on * dmin)) ≤ℤ (tick +ℤ pos dmin) → tick ≤ℤ time → (at +ℤ pos (2 * life)) <ℤ time
long_on life k on dmin at tick time c q h t = omega (arith, ints)

long_ago : (life quiet on dmin : ℕ) (at tick time : ℤ) →
    2 * life < (quiet - 1) * dmin → quiet ≤ on → (at +ℤ pos (on * dmin)) ≤ℤ (tick +ℤ pos dmin) → tick ≤ℤ time → (at +ℤ pos (2 * life)) <ℤ time
long_ago life zero on dmin at tick time c q h t = absurd (omega arith)
long_ago life (suc k) on dmin at tick time c q h t =
    let c' : 2 * life < k * dmin = subst (λ (n : ℕ). 2 * life < n * dmin) (suc_less_one k) c in
    long_on life k on dmin at tick time c' (more_ticks (suc k) on dmin q) h t

never_none : (life quiet on dmin : ℕ) → 2 * life < (quiet - 1) * dmin → quiet ≤ on → on ≡ 0 → ⊥
never_none life zero on dmin c q e = omega arith
never_none life (suc k) on dmin c q e = omega arith

chases : (life : ℕ) (f at time : ℤ) → (f +ℤ pos (2 * life)) <ℤ time → time ≤ℤ (at +ℤ pos life) → (f +ℤ pos life) <ℤ at
chases life f at time h k = omega (arith, ints)

later_tick : (n : ℕ) (dmin : ℕ) (f a b : ℤ) → a ≤ℤ b → (f +ℤ pos (n * dmin)) ≤ℤ (a +ℤ pos dmin) → (f +ℤ pos (n * dmin)) ≤ℤ (b +ℤ pos dmin)
later_tick n dmin f a b h k = omega (arith, ints)

first_tick : (m dmin : ℕ) (f time : ℤ) → m * dmin ≤ 0 * dmin + dmin → f ≤ℤ time → (f +ℤ pos (m * dmin)) ≤ℤ (time +ℤ pos dmin)
first_tick m dmin f time h k = omega (arith, ints)

next_tick : (n m dmin : ℕ) (f tick time : ℤ) → m * dmin ≤ n * dmin + dmin →
    (f +ℤ pos (n * dmin)) ≤ℤ (tick +ℤ pos dmin) → (tick +ℤ pos dmin) ≤ℤ time → (f +ℤ pos (m * dmin)) ≤ℤ (time +ℤ pos dmin)
next_tick n m dmin f tick time h k t = omega (arith, ints)

-- each LOCK was sent this long before
abbrev Locks : List Sending → (ℤ → Type 0) → Type 0
Locks sent P = (f : Sending) → IsAmong f sent → opens Master f.0 ≡ true → P f.1

-- a SLAVE_PRESENT that the peer sent when no LOCK could be heard any more
pub record Chased (life : ℕ) (peer sent : List Sending) : Type 0 where
  pub at : ℤ
  pub there : IsAmong (SLAVE_PRESENT, at) peer
  pub late : Locks sent (λ f. (f +ℤ pos life) <ℤ at)

-- a master in WR_LINK_ON counts its ticks since the last LOCK; and in IDLE, after a WR_MODE_ON of its last
-- stretch, the carriers came since, or a SLAVE_PRESENT chased it
pub record MasterStays (life dmin : ℕ) (lit : ℤ) (l : LinkAt) (tick : ℤ) (marks : List Mark) (sent peer : List Sending) : Type 0 where
  pub timed : l.state ≡ LinkOn → (l.on_ticks ≡ 0) ⊎ Locks sent (λ f. (f +ℤ pos (l.on_ticks * dmin)) ≤ℤ (tick +ℤ pos dmin))
  pub left : l.state ≡ Idle → l.carrier ≡ true → (w : ℤ) → IsAmong (WR_MODE_ON, w) sent → BeganBy w (newest_of (stretches_of marks)) →
      (w ≤ℤ lit) ⊎ Chased life peer sent

abbrev pub StaysAt : (life dmin : ℕ) → ℤ → Port → Port → Type 0
StaysAt life dmin lit p q = MasterStays life dmin lit p.link p.ticked p.marks p.sent q.sent

idle_sends : (role : Role) (m : WrMsg) → Sends role Idle m → ⊥
idle_sends Slave SLAVE_PRESENT h = h
idle_sends Slave _ h = h
idle_sends Master SLAVE_PRESENT h = h
idle_sends Master _ h = h

-- a port in WR_LINK_ON sends no LOCK
no_lock : (role : Role) (s : LinkState) (m : WrMsg) → role ≡ Master → s ≡ LinkOn → Sends role s m → opens Master m ≡ true → ⊥
no_lock role s m r on h op =
    let bo : bound role s ≡ true = ap (λ (x : LinkState). bound role x) on ∙ on_bound role in
    let no : opens role m ≡ false = bound_sends role s m bo h in
    let yes : opens role m ≡ true = ap (λ (x : Role). opens x m) r ∙ op in
    cc

-- the state stays
stay_same :
    (life dmin : ℕ) (time lit : ℤ) (p q : Port) (by : Option Sending) (quiet holdoff on : ℕ) (waiting : Option Waiting) (tick : ℤ) (ms : List WrMsg) →
    StaysAt life dmin lit p q → p.link.role ≡ Master → SendsAll p.link.role p.link.state ms →
    (p.link.state ≡ LinkOn → (on ≡ 0) ⊎ Locks p.sent (λ f. (f +ℤ pos (on * dmin)) ≤ℤ (tick +ℤ pos dmin))) →
    MasterStays life dmin lit (record p.link { quiet = quiet; holdoff = holdoff; waiting = waiting; on_ticks = on }) tick
    (marked time p.link.state p.link.state by p.marks) (stamped time ms p.sent) q.sent
stay_same life dmin time lit p q by quiet holdoff on waiting tick ms k master s timed =
    subst
    (λ (xs : List Mark).
    MasterStays life dmin lit (record p.link { quiet = quiet; holdoff = holdoff; waiting = waiting; on_ticks = on }) tick xs (stamped time ms p.sent) q.sent)
    (marked_same time p.link.state p.link.state by p.marks (is_same_self p.link.state))
    (record {
      timed =
          λ is_on.
          elim (timed is_on) [
            | inl z ↦ inl z
            | inr late ↦
                inr (λ f i op.
                elim (stamped_in time p.link.role p.link.state ms p.sent f s i) [
                  | inl x ↦ absurd (no_lock p.link.role p.link.state f.0 master is_on x.0 op)
                  | inr j ↦ late f j op
                ])
          ];
      left =
          λ idle lit_now w i b.
          elim (stamped_in time p.link.role p.link.state ms p.sent (WR_MODE_ON, w) s i) [
            | inl x ↦ absurd (idle_sends p.link.role WR_MODE_ON (subst (λ (x : LinkState). Sends p.link.role x WR_MODE_ON) idle x.0))
            | inr j ↦
                elim (k.left idle lit_now w j b) [
                  | inl before ↦ inl before
                  | inr c ↦
                      inr (record {
                        at = c.at;
                        there = c.there;
                        late =
                            λ f i' op.
                            elim (stamped_in time p.link.role p.link.state ms p.sent f s i') [
                              | inl x ↦ absurd (idle_sends p.link.role f.0 (subst (λ (x : LinkState). Sends p.link.role x f.0) idle x.0))
                              | inr j' ↦ c.late f j' op
                            ];
                      })
                ]
          ];
    })

-- an input that leaves the state, and the ticks in it
stay_by :
    (life dmin : ℕ) (time lit : ℤ) (p q : Port) (input : LinkIn) (at : ℤ) (waiting : Option Waiting) (ms : List WrMsg) →
    StaysAt life dmin lit p q → p.link.role ≡ Master → p.ticked ≤ℤ time → SendsAll p.link.role p.link.state ms →
    MasterStays life dmin lit (record p.link { waiting = waiting }) (ticked_by input time p.ticked)
    (marked time p.link.state p.link.state (mover_of input at) p.marks) (stamped time ms p.sent) q.sent
stay_by life dmin time lit p q input at waiting ms k master t s =
    stay_same life dmin time lit p q (mover_of input at) p.link.quiet p.link.holdoff p.link.on_ticks waiting (ticked_by input time p.ticked) ms k master s
    (λ is_on.
    elim (k.timed is_on) [
      | inl z ↦ inl z
      | inr late ↦ inr (λ f i op. later_tick p.link.on_ticks dmin f.1 p.ticked (ticked_by input time p.ticked) (tick_grows input time p.ticked t) (late f i op))
    ])

capped : (n : ℕ) → min (n + 1) 4_294_967_295 ≤ n + 1
capped n = omega arith

counts_stay :
    (life dmin : ℕ) (time lit : ℤ) (p q : Port) (g : Ghost) (s : LinkState) →
    StaysAt life dmin lit p q → PortKeeps life dmin time (view_of p) g → p.link.role ≡ Master → (p.ticked +ℤ pos dmin) ≤ℤ time →
    MasterStays life dmin lit (counted p.link s) time (marked time p.link.state (counted p.link s).state None p.marks) p.sent q.sent
counts_stay life dmin time lit p q g Idle k keeps master early =
    stay_same life dmin time lit p q None (p.link.quiet - 1) (p.link.holdoff - 1) p.link.on_ticks p.link.waiting time [] k master tt
    (λ is_on.
    elim (k.timed is_on) [
      | inl z ↦ inl z
      | inr late ↦ inr (λ f i op. later_tick p.link.on_ticks dmin f.1 p.ticked time keeps.ticked (late f i op))
    ])
counts_stay life dmin time lit p q g LinkOn k keeps master early =
    stay_same life dmin time lit p q None p.link.quiet p.link.holdoff (min (p.link.on_ticks + 1) 4_294_967_295) p.link.waiting time [] k master tt
    (λ is_on.
    let step : min (p.link.on_ticks + 1) 4_294_967_295 * dmin ≤ p.link.on_ticks * dmin + dmin =
    one_more p.link.on_ticks (min (p.link.on_ticks + 1) 4_294_967_295) dmin (capped p.link.on_ticks) in
    inr (λ f i op.
    elim (k.timed is_on) [
      | inl z ↦
          first_tick (min (p.link.on_ticks + 1) 4_294_967_295) dmin f.1 time
          (subst (λ (n : ℕ). min (p.link.on_ticks + 1) 4_294_967_295 * dmin ≤ n * dmin + dmin) z step) (keeps.frames f i).past
      | inr late ↦
          next_tick p.link.on_ticks (min (p.link.on_ticks + 1) 4_294_967_295) dmin f.1 p.ticked time step (late f i op) early
    ]))
counts_stay life dmin time lit p q g _ k keeps master early =
    stay_same life dmin time lit p q None p.link.quiet p.link.holdoff p.link.on_ticks p.link.waiting time [] k master tt
    (λ is_on.
    elim (k.timed is_on) [
      | inl z ↦ inl z
      | inr late ↦ inr (λ f i op. later_tick p.link.on_ticks dmin f.1 p.ticked time keeps.ticked (late f i op))
    ])

-- a state on a path
OnPath : LinkState → List LinkState → Type 0
OnPath s [] = ⊥
OnPath s (x ∷ xs) = (x ≡ s) ⊎ OnPath s xs

entered_on : (t : ℤ) (s : LinkState) (ss : List LinkState) (marks : List Mark) → Entered t (s ∷ ss) marks → OnPath s (map led_to marks)
unfolding OnPath
entered_on t s ss [] h = absurd h
entered_on t s ss (mark ∷ marks) h = elim h [ inl x ↦ inl x.is | inr x ↦ inr (entered_on t s ss marks x) ]

-- a master whose path contains WR_LINK_ON is in it
on_way : (role : Role) (s : LinkState) → role ≡ Master → OnPath LinkOn (way_of role s) → s ≡ LinkOn
unfolding OnPath
on_way Slave s r h = cc
on_way Master LinkOn r h = refl
on_way Master MLock r h = elim h [ inl e ↦ cc | inr h ↦ absurd h ]
on_way Master Calibration r h = elim h [ inl e ↦ cc | inr h ↦ elim h [ inl e ↦ cc | inr h ↦ absurd h ] ]
on_way Master Calibrated r h =
    elim h [ inl e ↦ cc | inr h ↦ elim h [ inl e ↦ cc | inr h ↦ elim h [ inl e ↦ cc | inr h ↦ absurd h ] ] ]
on_way Master RespCalib r h =
    elim h [ inl e ↦ cc | inr h ↦ elim h [ inl e ↦ cc | inr h ↦ elim h [ inl e ↦ cc | inr h ↦ elim h [ inl e ↦ cc | inr h ↦ absurd h ] ] ] ]
on_way Master _ r h = absurd h

-- an engaged master whose present stretch sent a WR_MODE_ON is in WR_LINK_ON
pub on_since :
    (time : ℤ) (role : Role) (state : LinkState) (marks : List Mark) (g : Ghost) (w : ℤ) →
    role ≡ Master → IsEngaged time role state marks g → Current role marks g (WR_MODE_ON, w) → state ≡ LinkOn
on_since time role state marks g w master n c =
    let e : Entered w (LinkOn ∷ (RespCalib ∷ (Calibrated ∷ (Calibration ∷ (MLock ∷ []))))) g.latest =
    subst (λ (r : Role). Entered w (reverse (required_of (other_of r) WR_MODE_ON)) g.latest) master c.entered in
    on_way role state master
    (subst (λ (ss : List LinkState). OnPath LinkOn ss) n.path (entered_on w LinkOn (RespCalib ∷ (Calibrated ∷ (Calibration ∷ (MLock ∷ [])))) g.latest e))

-- a master that fails
fails_stay :
    (life dmin : ℕ) (time lit : ℤ) (p : Port) (g : Ghost) (q : Port) (input : LinkIn) (at w : ℤ) →
    StaysAt life dmin lit p q → PortKeeps life dmin time (view_of p) g → p.link.role ≡ Master → MayHear life dmin time p q input at →
    p.link.state ≢ Idle → FailsBy p.link p.link.state input Fails → IsAmong (WR_MODE_ON, w) p.sent →
    BeganBy w (newest_of (stretches_of (marked time p.link.state Idle (mover_of input at) p.marks))) → Chased life q.sent p.sent
fails_stay life dmin time lit p g q input at w k keeps master h awake f i b =
    let mark : Mark = mark_at time p.link.state Idle (mover_of input at) in
    let en : engaged p.link.role p.link.state ≡ true =
    ap (λ (r : Role). engaged r p.link.state) master ∙ out_engaged p.link.state awake in
    let n : IsEngaged time p.link.role p.link.state p.marks g = keeps.engages en in
    let newest : newest_of (stretches_of (marked time p.link.state Idle (mover_of input at) p.marks)) ≡ mark ∷ g.latest =
    ap (λ (ms : List Mark). newest_of (stretches_of ms)) (sym (marked_new time p.link.state Idle (mover_of input at) p.marks (differs p.link.state awake)))
    ∙ ap (λ (ss : List (List Mark)). newest_of ss) (joins mark p.marks (not_same_idle p.link.state awake) ∙ ap (λ (ss : List (List Mark)). joined mark ss) n.stretches) in
    let began : BeganBy w g.latest = began_rest time w mark g.latest n.began (subst (λ (ms : List Mark). BeganBy w ms) newest b) in
    let on : p.link.state ≡ LinkOn =
    elim ((keeps.frames (WR_MODE_ON, w) i).place refl) [
      | inl old ↦ absurd (too_new life w g.turn old (n.first master w began))
      | inr c ↦ on_since time p.link.role p.link.state p.marks g w master n c
    ] in
    let cause : (input ≡ Msg SLAVE_PRESENT) × (p.link.set.quiet ≤ p.link.on_ticks) = f on in
    let told : MayHear life dmin time p q (Msg SLAVE_PRESENT) at = subst (λ (x : LinkIn). MayHear life dmin time p q x at) cause.0 h in
    record {
      at = at;
      there = told.0;
      late =
          λ m j op.
          elim (k.timed on) [
            | inl z ↦ absurd (never_none life p.link.set.quiet p.link.on_ticks dmin keeps.counts cause.1 z)
            | inr late ↦
                chases life m.1 at time
                (long_ago life p.link.set.quiet p.link.on_ticks dmin m.1 p.ticked time keeps.counts cause.1 (late m j op) keeps.ticked)
                told.1
          ];
    }

-- each row
stay_row :
    (life dmin : ℕ) (time lit : ℤ) (p : Port) (g : Ghost) (q : Port) (input : LinkIn) (at : ℤ) (row : Row) →
    StaysAt life dmin lit p q → PortKeeps life dmin time (view_of p) g → p.link.role ≡ Master → MayHear life dmin time p q input at → IsNoCarrier input →
    RowFits p.link.role p.link.state p.link input row → FailsBy p.link p.link.state input row →
    StaysAt life dmin lit (port_by time p input at row) q
stay_row life dmin time lit p g q input at NoRow k keeps master h n f b = stay_by life dmin time lit p q input at p.link.waiting [] k master keeps.ticked tt
stay_row life dmin time lit p g q input at (Stays ms) k keeps master h n f b = stay_by life dmin time lit p q input at p.link.waiting ms k master keeps.ticked f
stay_row life dmin time lit p g q input at (Moves next ms) k keeps master h n f b =
    record { timed = λ on. inl refl; left = λ idle. absurd (not_idle next f.leaves idle) }
stay_row life dmin time lit p g q input at (Keeps tx rx next ms) k keeps master h n f b =
    record { timed = λ on. inl refl; left = λ idle. absurd (not_idle next f.leaves idle) }
stay_row life dmin time lit p g q input at (Resends ms) k keeps master h n f b =
    stay_by life dmin time lit p q input at (retried p.link.waiting (wait_of p.link.set p.link.state)) ms k master keeps.ticked f
stay_row life dmin time lit p g q input at Fails k keeps master h n f b =
    record { timed = λ on. cc; left = λ _ _ w i began. inr (fails_stay life dmin time lit p g q input at w k keeps master h f b i began) }
stay_row life dmin time lit p g q input at Waits k keeps master h n f b =
    stay_by life dmin time lit p q input at (ticked p.link.waiting) [] k master keeps.ticked tt
stay_row life dmin time lit p g q input at Counts k keeps master h n f b =
    let early : (p.ticked +ℤ pos dmin) ≤ℤ time = subst (λ (i : LinkIn). MayHear life dmin time p q i at) f.1 h in
    subst (λ (i : LinkIn). StaysAt life dmin lit (port_by time p i at Counts) q) (sym f.1)
    (counts_stay life dmin time lit p q g p.link.state k keeps master early)
stay_row life dmin time lit p g q input at (CarrierComes fitted) k keeps master h n f b =
    absurd (subst (λ (i : LinkIn). IsNoCarrier i) f n)
stay_row life dmin time lit p g q input at CarrierGoes k keeps master h n f b =
    record { timed = λ on. cc; left = λ _ lit_now. cc }

-- the slave sends more
peer_more : (life dmin : ℕ) (lit time : ℤ) (p : Port) (peer : List Sending) (ms : List WrMsg) →
    MasterStays life dmin lit p.link p.ticked p.marks p.sent peer → MasterStays life dmin lit p.link p.ticked p.marks p.sent (stamped time ms peer)
peer_more life dmin lit time p peer ms k =
    record {
      timed = k.timed;
      left =
          λ idle lit_now w i b.
          elim (k.left idle lit_now w i b) [
            | inl before ↦ inl before
            | inr c ↦ inr (record { at = c.at; there = stays_sent time ms peer (SLAVE_PRESENT, c.at) c.there; late = c.late })
          ];
    }

-- each change
stay_changes :
    (life dmin : ℕ) (ends : BothPorts) (lit : ℤ) (change : Change) → MayCome life dmin ends change → EndsKeep life dmin ends →
    StaysAt life dmin lit ends.master ends.slave →
    StaysAt life dmin (lit_by ends change lit) (changed ends change).master (changed ends change).slave
stay_changes life dmin ends lit (Passes dt) h e k = k
stay_changes life dmin ends lit (Hears Master input at) h e k =
    stay_row life dmin ends.time lit ends.master e.of_master ends.slave input at (row_of ends.master.link input) k e.master e.is_master h.1 h.0
    (row_fits ends.master.link input e.master.belongs) (row_fails ends.master.link input)
stay_changes life dmin ends lit (Hears Slave input at) h e k = peer_more life dmin lit ends.time ends.master ends.slave.sent (sent_by (row_of ends.slave.link input)) k
stay_changes life dmin ends lit (Starts Master) h e k =
    record {
      timed =
          λ on.
          elim (k.timed on) [
            | inl z ↦ inl z
            | inr late ↦ inr (λ f i op. later_tick ends.master.link.on_ticks dmin f.1 ends.master.ticked ends.time e.master.ticked (late f i op))
          ];
      left = k.left;
    }
stay_changes life dmin ends lit (Starts Slave) h e k = k
stay_changes life dmin ends lit (Lights of_master of_slave) h e k =
    record { timed = λ on. cc; left = λ _ _ w i b. inl (e.master.frames (WR_MODE_ON, w) i).past }

stay_all :
    (life dmin : ℕ) (ends : BothPorts) (changes : List Change) → AllMayCome life dmin ends changes → EndsKeep life dmin ends →
    StaysAt life dmin ends.time ends.master ends.slave →
    StaysAt life dmin (lit_at ends changes) (ends_after ends changes).master (ends_after ends changes).slave
stay_all life dmin ends [] h e k = k
stay_all life dmin ends (change ∷ older) h e k =
    stay_changes life dmin (ends_after ends older) (lit_at ends older) change h.0 (all_keep life dmin ends older h.1 e)
    (stay_all life dmin ends older h.1 e k)

-- of all ends that can be
pub can_stay :
    (life dmin : ℕ) (ends : BothPorts) (can : CanBe life dmin ends) →
    StaysAt life dmin (lit_at (new_ends can.of_master can.of_slave can.start) can.changes) ends.master ends.slave
can_stay life dmin ends can =
    let new : BothPorts = new_ends can.of_master can.of_slave can.start in
    subst (λ (x : BothPorts). StaysAt life dmin (lit_at new can.changes) x.master x.slave) (sym can.is)
    (stay_all life dmin new can.changes can.come (start_keeps life dmin can.start can.of_master can.of_slave can.master_quiet can.slave_quiet)
    (record { timed = λ on. cc; left = λ _ lit_now. cc }))
