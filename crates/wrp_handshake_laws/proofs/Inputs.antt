-- A port that is given an input: each row of the handshake table keeps what is kept of it and its peer.
use Rattle.std.proofs.Common.{◌≡◌, ◌≢◌, ◌⊎◌, inl, inr, refl, ap, sym, ◌∙◌, subst, ℕ, ◌-◌, ℤ, pos, ◌+ℤ◌, ◌≤ℤ◌, Bool, true, false, List, [], ◌∷◌, Option, None, Some}
use Rattle.std.specs.List.{AllByRecursion}
use Rattle.wrp_base.specs.declared.link.LinkState.{LinkState}
use Rattle.wrp_base.specs.declared.link.LinkState.TheVariants.{Idle, Present}
use Rattle.wrp_base.specs.declared.link.Mark.{Mark}
use Rattle.wrp_base.specs.declared.link.Role.{Role}
use Rattle.wrp_base.specs.declared.link.Role.TheVariants.{Master, Slave}
use Rattle.wrp_base.specs.declared.message.WrMsg.{WrMsg}
use Rattle.wrp_base.specs.declared.message.WrMsg.TheVariants.{Present as SLAVE_PRESENT, Lock as LOCK, Locked as LOCKED}
use Rattle.wrp_base.specs.Link.{other_of}
use Rattle.wrp_base.proofs.Integers.{int_le_self}
use Rattle.wrp_link.specs.declared.interface.LinkIn.{LinkIn}
use Rattle.wrp_link.specs.declared.interface.LinkIn.TheVariants.{Msg, Tick}
use Rattle.wrp_link.specs.Rows.{Row, NoRow, Stays, Moves, Keeps, Resends, Fails, Waits, Counts, CarrierComes, CarrierGoes, row_of}
use Rattle.wrp_link.specs.Table.{is_same, counted}
use Rattle.wrp_link.proofs.Fits.{Belongs}
use Rattle.wrp_check.specs.Stretches.{movers_of, with_mover}
use Rattle.wrp_link.proofs.Deltas.{is_same_self}
use Rattle.wrp_handshake_laws.specs.Ends.{Sending, Port, stamped, mover_of, ticked_by, marked, port_by, after_input, MayHear}
use Rattle.wrp_link.proofs.Orders.{idle_belongs}
use Rattle.wrp_handshake_laws.proofs.Stages.{engaged, bound, numbered, opens, SendsAll, Kind, opening, engaging, answering, binding, going_on, FitsMove}
use Rattle.wrp_handshake_laws.proofs.RowFits.{RowFits, row_fits}
use Rattle.wrp_handshake_laws.proofs.Times.{Calm, calm_later, calm_tick}
use Rattle.wrp_handshake_laws.proofs.Keeps.{View, view_of, Ghost, IsOpen, PortKeeps, FromLatest, Bond}
use Rattle.wrp_handshake_laws.proofs.Parts.{by_bool, mark_at, differs, idle_shut, idle_unbound}
use Rattle.wrp_handshake_laws.proofs.Ports.{stays, falls_engaged, falls_open, rests}
use Rattle.wrp_handshake_laws.proofs.Moves.{Peers, Moved, bond_more, from_latest, moved_to, opening_moves, engaging_moves, answering_moves, going_on_moves, is_mover}

-- the state stays
stayed :
    (life dmin : ℕ) (time : ℤ) (v : View) (g : Ghost) (q : View) (gq : Ghost) (ticked : ℤ) (quiet : ℕ) (ms : List WrMsg) →
    Peers life dmin time v g q gq → ticked ≤ℤ time →
    (v.state ≡ Idle → v.carrier ≡ true → Calm dmin v.full quiet ticked g.rest) →
    SendsAll v.role v.state ms →
    Moved life dmin time (record v { ticked = ticked; quiet = quiet; sent = stamped time ms v.sent }) q gq
stayed life dmin time v g q gq ticked quiet ms c t calm s =
    record {
      ghost = g;
      keeps = stays life dmin time v g ticked quiet ms c.keeps t calm s;
      tied = λ x. c.tied x;
      back = λ x. bond_more q.role life gq.bind gq.latest v.sent g.turn time ms (c.back x);
    }

pub idle_or_not : (s : LinkState) → (s ≡ Idle) ⊎ (s ≢ Idle)
idle_or_not Idle = inl refl
idle_or_not _ = inr (λ e. cc)

pub marked_new :
    (time : ℤ) (old new : LinkState) (by : Option Sending) (marks : List Mark) →
    is_same old new ≡ false → mark_at time old new by ∷ marks ≡ marked time old new by marks
marked_new time old new by marks e = rw e refl

pub marked_same :
    (time : ℤ) (old new : LinkState) (by : Option Sending) (marks : List Mark) →
    is_same old new ≡ true → marks ≡ marked time old new by marks
marked_same time old new by marks e = rw e refl

-- a port returns to IDLE
fallen :
    (life dmin : ℕ) (time : ℤ) (v : View) (g : Ghost) (q : View) (gq : Ghost) (carrier : Bool) (quiet : ℕ) (ticked : ℤ) (by : Option Sending) →
    Peers life dmin time v g q gq → ticked ≤ℤ time → (carrier ≡ true → quiet ≡ v.full) →
    Moved life dmin time
    (record v { state = Idle; carrier = carrier; quiet = quiet; ticked = ticked; marks = marked time v.state Idle by v.marks }) q gq
fallen life dmin time v g q gq carrier quiet ticked by c t full =
    let b : Belongs v.role Idle = idle_belongs v.role in
    let u : bound v.role Idle ≡ false = idle_unbound v.role in
    elim (idle_or_not v.state) [
      | inl idle ↦
          subst
          (λ (ms : List Mark).
          Moved life dmin time (record v { state = Idle; carrier = carrier; quiet = quiet; ticked = ticked; marks = ms }) q gq)
          (marked_same time v.state Idle by v.marks (ap (λ (s : LinkState). is_same s Idle) idle))
          (record {
            ghost = record g { rest = time };
            keeps = rests life dmin time v g carrier quiet ticked c.keeps b t full;
            tied = λ x. cc;
            back = c.back;
          })
      | inr awake ↦
          subst
          (λ (ms : List Mark).
          Moved life dmin time (record v { state = Idle; carrier = carrier; quiet = quiet; ticked = ticked; marks = ms }) q gq)
          (marked_new time v.state Idle by v.marks (differs v.state awake))
          (by_bool (engaged v.role v.state)
          (λ e.
          record {
            ghost = record g { rest = time; newer = []; latest = mark_at time v.state Idle by ∷ g.latest };
            keeps = falls_engaged life dmin time v g carrier quiet ticked by c.keeps awake e b t full;
            tied = λ x. cc;
            back = c.back;
          })
          (λ e.
          let o : IsOpen life time v.role v.state v.marks g = c.keeps.opened awake e in
          record {
            ghost = record g { rest = time; newer = (mark_at time v.state Idle by ∷ (o.mark ∷ [])) ∷ o.after };
            keeps = falls_open life dmin time v g carrier quiet ticked by c.keeps awake e o b t full;
            tied = λ x. cc;
            back = c.back;
          }))
    ]

pub tick_past : (input : LinkIn) (time before : ℤ) → before ≤ℤ time → ticked_by input time before ≤ℤ time
tick_past (Tick locked) time before h = int_le_self time
tick_past _ time before h = h

pub tick_grows : (input : LinkIn) (time before : ℤ) → before ≤ℤ time → before ≤ℤ ticked_by input time before
tick_grows (Tick locked) time before h = h
tick_grows _ time before h = int_le_self before

pub engaged_awake : (role : Role) (s : LinkState) → engaged role s ≡ true → s ≢ Idle
engaged_awake role s e i =
    let x : engaged role s ≡ false = ap (λ (y : LinkState). engaged role y) i ∙ idle_shut role in
    cc

none_more : (m : WrMsg) (at : ℤ) (xs : List Sending) → numbered m ≡ false → with_mover (Some (m, at)) xs ≡ xs
none_more SLAVE_PRESENT at xs e = refl
none_more _ at xs e = cc

-- a slave is bound as soon as it is engaged
not_between : (role : Role) (s : LinkState) → role ≡ Slave → engaged role s ≡ true → bound role s ≡ false → ⊥
not_between Slave Idle r en un = cc
not_between Slave Present r en un = cc
not_between Slave _ r en un = cc
not_between Master _ r en un = cc

-- a bond, with one mark more
longer_bond :
    (life dmin : ℕ) (time : ℤ) (p q : Port) (gq : Ghost) (input : LinkIn) (at : ℤ) (old next : LinkState) (bind : ℤ) (latest : List Mark) →
    PortKeeps life dmin time (view_of q) gq → MayHear life dmin time p q input at →
    Bond p.link.role life bind latest q.sent gq.turn →
    Bond p.link.role life bind (mark_at time old next (mover_of input at) ∷ latest) q.sent gq.turn
longer_bond life dmin time p q gq (Msg m) at old next bind latest k h b =
    by_bool (numbered m)
    (λ n.
    let e : with_mover (Some (m, at)) (movers_of latest) ≡ (m, at) ∷ movers_of latest = is_mover m at (movers_of latest) n in
    record {
      source = b.source;
      there = b.there;
      counted = b.counted;
      fresh = b.fresh;
      takes = b.takes;
      last = (m, at);
      others = movers_of latest;
      movers = e;
      taken =
          subst (λ (xs : List Sending). AllByRecursion (λ x. FromLatest q.sent gq.turn x) xs) (sym e)
          (from_latest life dmin time (view_of q) gq m at k (record { there = h.0; recent = h.1 }) n, b.taken);
    })
    (λ n.
    let e : with_mover (Some (m, at)) (movers_of latest) ≡ movers_of latest = none_more m at (movers_of latest) n in
    record {
      source = b.source;
      there = b.there;
      counted = b.counted;
      fresh = b.fresh;
      takes = b.takes;
      last = b.last;
      others = b.others;
      movers = e ∙ b.movers;
      taken = subst (λ (xs : List Sending). AllByRecursion (λ x. FromLatest q.sent gq.turn x) xs) (sym e) b.taken;
    })
longer_bond life dmin time p q gq _ at old next bind latest k h b =
    record {
      source = b.source;
      there = b.there;
      counted = b.counted;
      fresh = b.fresh;
      takes = b.takes;
      last = b.last;
      others = b.others;
      movers = b.movers;
      taken = b.taken;
    }

-- a move
kind_moves :
    (life dmin : ℕ) (time : ℤ) (p : Port) (g : Ghost) (q : Port) (gq : Ghost) (input : LinkIn) (at : ℤ) (next : LinkState) (ms : List WrMsg) →
    Peers life dmin time (view_of p) g (view_of q) gq → MayHear life dmin time p q input at →
    FitsMove p.link.role p.link.state p.link input next ms →
    Kind p.link.role p.link.state p.link input next →
    Moved life dmin time (moved_to time (view_of p) next (ticked_by input time p.ticked) (mover_of input at) ms) (view_of q) gq
kind_moves life dmin time p g q gq input at next ms c h f (opening idle lit li over sh announced) =
    opening_moves life dmin time (view_of p) g (view_of q) gq next (ticked_by input time p.ticked) (mover_of input at) ms c
    (tick_past input time p.ticked c.keeps.ticked) f.belongs f.leaves f.way f.sends idle lit over sh
    (ap (λ (i : LinkIn). mover_of i at) announced.1)
kind_moves life dmin time p g q gq input at next ms c h f (engaging idle lit li over en un is master) =
    let told : MayHear life dmin time p q (Msg SLAVE_PRESENT) at = subst (λ (i : LinkIn). MayHear life dmin time p q i at) is h in
    subst
    (λ (by : Option Sending). Moved life dmin time (moved_to time (view_of p) next (ticked_by input time p.ticked) by ms) (view_of q) gq)
    (sym (ap (λ (i : LinkIn). mover_of i at) is))
    (engaging_moves life dmin time (view_of p) g (view_of q) gq next (ticked_by input time p.ticked) SLAVE_PRESENT at ms c
    (tick_past input time p.ticked c.keeps.ticked) f.belongs f.leaves f.way f.sends idle lit over en un
    (record { there = told.0; recent = told.1 })
    (ap (λ (r : Role). opens r SLAVE_PRESENT) (c.roles ∙ ap (λ (r : Role). other_of r) master))
    refl)
kind_moves life dmin time p g q gq input at next ms c h f (answering awake was en bo is slave) =
    let told : MayHear life dmin time p q (Msg LOCK) at = subst (λ (i : LinkIn). MayHear life dmin time p q i at) is h in
    subst
    (λ (by : Option Sending). Moved life dmin time (moved_to time (view_of p) next (ticked_by input time p.ticked) by ms) (view_of q) gq)
    (sym (ap (λ (i : LinkIn). mover_of i at) is))
    (answering_moves life dmin time (view_of p) g (view_of q) gq next (ticked_by input time p.ticked) LOCK at ms c
    (tick_past input time p.ticked c.keeps.ticked) f.belongs f.leaves f.way f.sends awake was en bo
    (record { there = told.0; recent = told.1 })
    (ap (λ (r : Role). opens r LOCK) (c.roles ∙ ap (λ (r : Role). other_of r) slave))
    refl)
kind_moves life dmin time p g q gq input at next ms c h f (binding was un en bo is) =
    let told : MayHear life dmin time p q (Msg LOCKED) at = subst (λ (i : LinkIn). MayHear life dmin time p q i at) is h in
    let one : movers_of (mark_at time p.link.state next (Some (LOCKED, at)) ∷ g.latest) ≡ (LOCKED, at) ∷ [] =
    ap (λ (xs : List Sending). (LOCKED, at) ∷ xs) (c.keeps.unbound was un) in
    subst
    (λ (by : Option Sending). Moved life dmin time (moved_to time (view_of p) next (ticked_by input time p.ticked) by ms) (view_of q) gq)
    (sym (ap (λ (i : LinkIn). mover_of i at) is))
    (going_on_moves life dmin time (view_of p) g (view_of q) gq next (ticked_by input time p.ticked) (Some (LOCKED, at)) ms time c
    (tick_past input time p.ticked c.keeps.ticked) f.belongs f.leaves f.way f.sends
    (engaged_awake p.link.role p.link.state was) was en bo (int_le_self time)
    (λ m i _. (c.keeps.frames m i).past)
    (record {
      source = (LOCKED, at);
      there = told.0;
      counted = refl;
      fresh = told.1;
      takes = λ slave. absurd (not_between p.link.role p.link.state slave was un);
      last = (LOCKED, at);
      others = [];
      movers = one;
      taken =
          subst (λ (xs : List Sending). AllByRecursion (λ x. FromLatest q.sent gq.turn x) xs) (sym one)
          (from_latest life dmin time (view_of q) gq LOCKED at c.peer (record { there = told.0; recent = told.1 }) refl, tt);
    }))
kind_moves life dmin time p g q gq input at next ms c h f (going_on was bo en bo') =
    going_on_moves life dmin time (view_of p) g (view_of q) gq next (ticked_by input time p.ticked) (mover_of input at) ms g.bind c
    (tick_past input time p.ticked c.keeps.ticked) f.belongs f.leaves f.way f.sends
    (engaged_awake p.link.role p.link.state was) was en bo' c.keeps.bind
    (c.keeps.sources bo)
    (longer_bond life dmin time p q gq input at p.link.state next g.bind g.latest c.peer h (c.tied bo))

moves_by :
    (life dmin : ℕ) (time : ℤ) (p : Port) (g : Ghost) (q : Port) (gq : Ghost) (input : LinkIn) (at : ℤ) (next : LinkState) (ms : List WrMsg) →
    Peers life dmin time (view_of p) g (view_of q) gq → MayHear life dmin time p q input at →
    FitsMove p.link.role p.link.state p.link input next ms →
    Moved life dmin time (view_of (port_by time p input at (Moves next ms))) (view_of q) gq
moves_by life dmin time p g q gq input at next ms c h f =
    subst
    (λ (marks : List Mark).
    Moved life dmin time
    (record (view_of p) { state = next; ticked = ticked_by input time p.ticked; marks = marks; sent = stamped time ms p.sent })
    (view_of q) gq)
    (marked_new time p.link.state next (mover_of input at) p.marks f.changes)
    (kind_moves life dmin time p g q gq input at next ms c h f f.kind)

-- an input that leaves the state
stays_by :
    (life dmin : ℕ) (time : ℤ) (p : Port) (g : Ghost) (q : Port) (gq : Ghost) (input : LinkIn) (at : ℤ) (ms : List WrMsg) →
    Peers life dmin time (view_of p) g (view_of q) gq →
    SendsAll p.link.role p.link.state ms →
    Moved life dmin time
    (record (view_of p) {
      ticked = ticked_by input time p.ticked;
      marks = marked time p.link.state p.link.state (mover_of input at) p.marks;
      sent = stamped time ms p.sent;
    })
    (view_of q) gq
stays_by life dmin time p g q gq input at ms c s =
    subst
    (λ (marks : List Mark).
    Moved life dmin time
    (record (view_of p) { ticked = ticked_by input time p.ticked; marks = marks; sent = stamped time ms p.sent })
    (view_of q) gq)
    (marked_same time p.link.state p.link.state (mover_of input at) p.marks (is_same_self p.link.state))
    (stayed life dmin time (view_of p) g (view_of q) gq (ticked_by input time p.ticked) p.link.quiet ms c
    (tick_past input time p.ticked c.keeps.ticked)
    (λ i lit. calm_later dmin p.link.set.quiet p.link.quiet p.ticked (ticked_by input time p.ticked) g.rest
    (tick_grows input time p.ticked c.keeps.ticked) (c.keeps.calm i lit))
    s)

-- a tick that is counted
counts_by :
    (life dmin : ℕ) (time : ℤ) (p : Port) (g : Ghost) (q : Port) (gq : Ghost) (locked : Bool) (at : ℤ) (s : LinkState) →
    Peers life dmin time (view_of p) g (view_of q) gq → (p.ticked +ℤ pos dmin) ≤ℤ time →
    Moved life dmin time
    (view_of (record {
      link = counted p.link s;
      ticked = time;
      marks = marked time p.link.state (counted p.link s).state None p.marks;
      sent = p.sent;
    }))
    (view_of q) gq
counts_by life dmin time p g q gq locked at Idle c h =
    subst
    (λ (marks : List Mark).
    Moved life dmin time (record (view_of p) { ticked = time; quiet = p.link.quiet - 1; marks = marks }) (view_of q) gq)
    (marked_same time p.link.state p.link.state None p.marks (is_same_self p.link.state))
    (stayed life dmin time (view_of p) g (view_of q) gq time (p.link.quiet - 1) [] c (int_le_self time)
    (λ i lit. calm_tick dmin p.link.set.quiet p.link.quiet p.ticked time g.rest h c.keeps.rest (c.keeps.calm i lit))
    tt)
counts_by life dmin time p g q gq locked at _ c h = stays_by life dmin time p g q gq (Tick locked) at [] c tt

-- each row
pub row_moves :
    (life dmin : ℕ) (time : ℤ) (p : Port) (g : Ghost) (q : Port) (gq : Ghost) (input : LinkIn) (at : ℤ) (row : Row) →
    Peers life dmin time (view_of p) g (view_of q) gq → MayHear life dmin time p q input at →
    RowFits p.link.role p.link.state p.link input row →
    Moved life dmin time (view_of (port_by time p input at row)) (view_of q) gq
row_moves life dmin time p g q gq input at NoRow c h f = stays_by life dmin time p g q gq input at [] c tt
row_moves life dmin time p g q gq input at (Stays ms) c h f = stays_by life dmin time p g q gq input at ms c f
row_moves life dmin time p g q gq input at (Moves next ms) c h f = moves_by life dmin time p g q gq input at next ms c h f
row_moves life dmin time p g q gq input at (Keeps tx rx next ms) c h f = moves_by life dmin time p g q gq input at next ms c h f
row_moves life dmin time p g q gq input at (Resends ms) c h f = stays_by life dmin time p g q gq input at ms c f
row_moves life dmin time p g q gq input at Fails c h f =
    fallen life dmin time (view_of p) g (view_of q) gq p.link.carrier p.link.set.quiet (ticked_by input time p.ticked) (mover_of input at) c
    (tick_past input time p.ticked c.keeps.ticked) (λ _. refl)
row_moves life dmin time p g q gq input at Waits c h f = stays_by life dmin time p g q gq input at [] c tt
row_moves life dmin time p g q gq input at Counts c h f =
    let early : (p.ticked +ℤ pos dmin) ≤ℤ time = subst (λ (i : LinkIn). MayHear life dmin time p q i at) f.1 h in
    subst (λ (i : LinkIn). Moved life dmin time (view_of (port_by time p i at Counts)) (view_of q) gq) (sym f.1)
    (counts_by life dmin time p g q gq f.0 at p.link.state c early)
row_moves life dmin time p g q gq input at (CarrierComes fitted) c h f =
    fallen life dmin time (view_of p) g (view_of q) gq true p.link.set.quiet (ticked_by input time p.ticked) (mover_of input at) c
    (tick_past input time p.ticked c.keeps.ticked) (λ _. refl)
row_moves life dmin time p g q gq input at CarrierGoes c h f =
    fallen life dmin time (view_of p) g (view_of q) gq false 0 (ticked_by input time p.ticked) (mover_of input at) c
    (tick_past input time p.ticked c.keeps.ticked) (λ e. cc)

-- each input
pub heard_moves :
    (life dmin : ℕ) (time : ℤ) (p : Port) (g : Ghost) (q : Port) (gq : Ghost) (input : LinkIn) (at : ℤ) →
    Peers life dmin time (view_of p) g (view_of q) gq → MayHear life dmin time p q input at →
    Moved life dmin time (view_of (after_input time p input at)) (view_of q) gq
heard_moves life dmin time p g q gq input at c h =
    row_moves life dmin time p g q gq input at (row_of p.link input) c h (row_fits p.link input c.keeps.belongs)
