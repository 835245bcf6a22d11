-- A port that moves from state to state, and what that leaves of the tie to its peer.
use Rattle.std.proofs.Common.{◌≡◌, ◌≢◌, inl, inr, refl, ap, sym, ◌∙◌, subst, ℕ, ℤ, pos, ◌*◌, ◌+ℤ◌, ◌≤ℤ◌, ◌<ℤ◌, true, false, List, [], ◌∷◌, Option, None, Some}
use Rattle.std.specs.List.{AllByRecursion}
use Rattle.wrp_base.specs.declared.link.LinkState.{LinkState}
use Rattle.wrp_base.specs.declared.link.LinkState.TheVariants.{Idle}
use Rattle.wrp_base.specs.declared.link.Mark.{Mark}
use Rattle.wrp_base.specs.declared.link.Role.{Role}
use Rattle.wrp_base.specs.declared.link.Role.TheVariants.{Master}
use Rattle.wrp_base.specs.declared.message.WrMsg.{WrMsg}
use Rattle.wrp_base.specs.declared.message.WrMsg.TheVariants.{Present as SLAVE_PRESENT}
use Rattle.wrp_base.specs.Link.{other_of}
use Rattle.wrp_base.proofs.Integers.{int_le_self}
use Rattle.wrp_link.specs.Table.{is_same}
use Rattle.wrp_link.proofs.Fits.{Belongs}
use Rattle.wrp_check.specs.Stretches.{joined, stretches_of, Entered, movers_of, with_mover}
use Rattle.wrp_handshake_laws.specs.Ends.{Sending, IsAmong, stamped}
use Rattle.wrp_handshake_laws.proofs.Stages.{engaged, bound, numbered, opens, way_of, shut_sends, bound_sends, SendsAll}
use Rattle.wrp_handshake_laws.proofs.Times.{Calm, older, no_opener, not_old, too_late, calm_over}
use Rattle.wrp_handshake_laws.proofs.Keeps.{View, Ghost, SentKeeps, IsOpen, IsEngaged, PortKeeps, FromLatest, Bond, Tied}
use Rattle.wrp_handshake_laws.proofs.Parts.{mark_at, not_same_idle, not_idle, idle_shut, idle_way, bound_engaged, began_cons, began_rest, not_opening, entered_now, joins, begins, stays_sent, stamped_in}
use Rattle.wrp_handshake_laws.proofs.Ports.{fresh, longer_sent, turns_later}

-- a port and its peer
pub record Peers (life dmin : ℕ) (time : ℤ) (v : View) (g : Ghost) (q : View) (gq : Ghost) : Type 0 where
  pub keeps : PortKeeps life dmin time v g
  pub peer : PortKeeps life dmin time q gq
  pub tied : Tied life v g q gq
  pub back : Tied life q gq v g
  pub roles : q.role ≡ other_of v.role

-- a message of the peer, at most a life old
pub record Told (life : ℕ) (time : ℤ) (q : View) (m : WrMsg) (at : ℤ) : Type 0 where
  pub there : IsAmong (m, at) q.sent
  pub recent : time ≤ℤ (at +ℤ pos life)

-- a port after an input, and its peer
pub record Moved (life dmin : ℕ) (time : ℤ) (v : View) (q : View) (gq : Ghost) : Type 0 where
  pub ghost : Ghost
  pub keeps : PortKeeps life dmin time v ghost
  pub tied : Tied life v ghost q gq
  pub back : Tied life q gq v ghost

taken_more :
    (time : ℤ) (ms : List WrMsg) (sent : List Sending) (turn : ℤ) (xs : List Sending) →
    AllByRecursion (λ m. FromLatest sent turn m) xs → AllByRecursion (λ m. FromLatest (stamped time ms sent) turn m) xs
taken_more time ms sent turn [] h = tt
taken_more time ms sent turn (x ∷ xs) h = (
  record { there = stays_sent time ms sent x h.0.there; counted = h.0.counted; since = h.0.since },
  taken_more time ms sent turn xs h.1,
)

-- a bond stays if the peer sends more
pub bond_more :
    (role : Role) (life : ℕ) (bind : ℤ) (latest : List Mark) (sent : List Sending) (turn time : ℤ) (ms : List WrMsg) →
    Bond role life bind latest sent turn → Bond role life bind latest (stamped time ms sent) turn
bond_more role life bind latest sent turn time ms b =
    record {
      source = b.source;
      there = stays_sent time ms sent b.source b.there;
      counted = b.counted;
      fresh = b.fresh;
      takes = b.takes;
      last = b.last;
      others = b.others;
      movers = b.movers;
      taken = taken_more time ms sent turn (movers_of latest) b.taken;
    }

-- a numbered message that is handed over is of the peer's last turn
pub from_latest :
    (life dmin : ℕ) (time : ℤ) (q : View) (gq : Ghost) (m : WrMsg) (at : ℤ) →
    PortKeeps life dmin time q gq → Told life time q m at → numbered m ≡ true → FromLatest q.sent gq.turn (m, at)
from_latest life dmin time q gq m at k h n =
    record {
      there = h.there;
      counted = n;
      since =
          elim ((k.frames (m, at) h.there).place n) [
            | inl o ↦ absurd (not_old life at gq.turn time o k.turn h.recent)
            | inr c ↦ c.since
          ];
    }

-- while its peer is bound a port is not engaged again
pub not_engaged_anew :
    (life dmin : ℕ) (time : ℤ) (v : View) (g : Ghost) (q : View) (gq : Ghost) (m : WrMsg) (at : ℤ) →
    Peers life dmin time v g q gq → Told life time q m at → opens q.role m ≡ true →
    engaged v.role v.state ≡ false → (g.rest +ℤ pos (2 * life)) <ℤ time →
    bound q.role q.state ≡ true → ⊥
not_engaged_anew life dmin time v g q gq m at c h o s r e =
    let b : Bond q.role life gq.bind gq.latest v.sent g.turn = c.back e in
    no_opener life at gq.bind b.source.1 g.rest time
    (c.peer.sources e (m, at) h.there o)
    b.fresh
    (c.keeps.shut s b.source b.there b.counted)
    r
    h.recent

-- the way to a state that is entered now
way_now :
    (time : ℤ) (role : Role) (old next : LinkState) (by : Option Sending) (marks : List Mark) →
    way_of role next ≡ next ∷ way_of role old → Entered time (way_of role old) marks →
    Entered time (way_of role next) (mark_at time old next by ∷ marks)
way_now time role old next by marks w h =
    subst (λ (ss : List LinkState). Entered time ss (mark_at time old next by ∷ marks)) (sym w)
    (entered_now time next old by (way_of role old) marks (int_le_self time) h)

from_idle : (time : ℤ) (role : Role) (s : LinkState) → s ≡ Idle → Entered time (way_of role s) []
from_idle time role s e =
    subst (λ (ss : List LinkState). Entered time ss []) (sym (ap (λ (x : LinkState). way_of role x) e ∙ idle_way role)) tt

shut_at : (role : Role) (s : LinkState) → s ≡ Idle → engaged role s ≡ false
shut_at role s e = ap (λ (x : LinkState). engaged role x) e ∙ idle_shut role

-- quiet time is over only long after it began
pub quiet_over :
    (life dmin : ℕ) (time : ℤ) (v : View) (g : Ghost) →
    PortKeeps life dmin time v g → v.state ≡ Idle → v.carrier ≡ true → v.quiet ≡ 0 → (g.rest +ℤ pos (2 * life)) <ℤ time
quiet_over life dmin time v g k idle lit over =
    calm_over life dmin v.full v.ticked time g.rest k.counts k.ticked
    (subst (λ (n : ℕ). Calm dmin v.full n v.ticked g.rest) over (k.calm idle lit))

-- the view after a move
abbrev pub moved_to : ℤ → View → LinkState → ℤ → Option Sending → List WrMsg → View
moved_to time v next ticked by ms =
    record v {
      state = next;
      ticked = ticked;
      marks = mark_at time v.state next by ∷ v.marks;
      sent = stamped time ms v.sent;
    }

-- the path from IDLE
path_from : (role : Role) (s next : LinkState) → s ≡ Idle → way_of role next ≡ next ∷ way_of role s → next ∷ [] ≡ way_of role next
path_from role s next idle w = sym (w ∙ ap (λ (ss : List LinkState). next ∷ ss) (ap (λ (x : LinkState). way_of role x) idle ∙ idle_way role))

opens_as : (m : WrMsg) (role : Role) → role ≡ Master → opens role m ≡ true → opens Master m ≡ true
opens_as m role r e = ap (λ (x : Role). opens x m) (sym r) ∙ e

-- a slave begins
pub opening_moves :
    (life dmin : ℕ) (time : ℤ) (v : View) (g : Ghost) (q : View) (gq : Ghost) (next : LinkState) (ticked : ℤ) (by : Option Sending) (ms : List WrMsg) →
    Peers life dmin time v g q gq →
    ticked ≤ℤ time → Belongs v.role next → is_same next Idle ≡ false → way_of v.role next ≡ next ∷ way_of v.role v.state → SendsAll v.role next ms →
    v.state ≡ Idle → v.carrier ≡ true → v.quiet ≡ 0 → engaged v.role next ≡ false → by ≡ None →
    Moved life dmin time (moved_to time v next ticked by ms) q gq
opening_moves life dmin time v g q gq next ticked by ms c t b out w s idle lit over sh un =
    let mark : Mark = mark_at time v.state next by in
    let k : PortKeeps life dmin time v g = c.keeps in
    let was : engaged v.role v.state ≡ false = shut_at v.role v.state idle in
    let r : (g.rest +ℤ pos (2 * life)) <ℤ time = quiet_over life dmin time v g k idle lit over in
    let g' : Ghost = record g { newer = (mark ∷ []) ∷ g.newer } in
    let e : stretches_of (mark ∷ v.marks) ≡ (mark ∷ []) ∷ stretches_of v.marks = begins mark v.marks idle in
    record {
      ghost = g';
      keeps =
          record {
            belongs = b;
            counts = k.counts;
            ticked = t;
            rest = k.rest;
            turn = k.turn;
            bind = k.bind;
            calm = λ i. absurd (not_idle next out i);
            shut =
                λ _ f i n.
                elim (stamped_in time v.role next ms v.sent f s i) [
                  | inl x ↦ let z : numbered f.0 ≡ false = shut_sends v.role next f.0 sh x.0 in cc
                  | inr j ↦ k.shut was f j n
                ];
            opened =
                λ _ _.
                record {
                  mark = mark;
                  after = g.newer;
                  before = stretches_of v.marks;
                  calm = r;
                  stretches = e;
                  newer = refl;
                  way = way_now time v.role v.state next by [] w (from_idle time v.role v.state idle);
                  path = path_from v.role v.state next idle w;
                  began = int_le_self time;
                  unmoved = un;
                };
            engages = λ x. cc;
            unbound = λ x. cc;
            sources = λ x. let y : engaged v.role next ≡ true = bound_engaged v.role next x in cc;
            frames =
                λ f i.
                elim (stamped_in time v.role next ms v.sent f s i) [
                  | inl x ↦ fresh life time v.role next (mark ∷ v.marks) g' f k.turn (λ y. cc) x.0 x.1
                  | inr j ↦
                      record {
                        past = (k.frames f j).past;
                        place =
                            λ n.
                            elim ((k.frames f j).place n) [
                              | inl z ↦ inl z
                              | inr z ↦
                                  inr (record {
                                    since = z.since;
                                    splits = e ∙ ap (λ (ss : List (List Mark)). (mark ∷ []) ∷ ss) z.splits;
                                    misses = (λ late. too_late life f.1 g.rest time (k.shut was f j n) r late, z.misses);
                                    lies = z.lies;
                                    entered = z.entered;
                                  })
                            ];
                      }
                ];
            alone = λ master. absurd (not_opening v.role next master (not_idle next out) sh);
            turns = (λ _ x. cc, k.turns);
            left = (λ i. absurd (not_idle next out i), k.left);
            awake = λ _. r;
          };
      tied = λ x. let y : engaged v.role next ≡ true = bound_engaged v.role next x in cc;
      back = λ x. bond_more q.role life gq.bind gq.latest v.sent g.turn time ms (c.back x);
    }

no_mover : (m : WrMsg) (at : ℤ) → numbered m ≡ false → with_mover (Some (m, at)) [] ≡ []
no_mover SLAVE_PRESENT at e = refl
no_mover _ at e = cc

pub is_mover : (m : WrMsg) (at : ℤ) (xs : List Sending) → numbered m ≡ true → with_mover (Some (m, at)) xs ≡ (m, at) ∷ xs
is_mover SLAVE_PRESENT at xs e = cc
is_mover _ at xs e = refl

old_turn :
    (life dmin : ℕ) (time : ℤ) (v : View) (g g' : Ghost) (marks : List Mark) (f : Sending) →
    PortKeeps life dmin time v g → engaged v.role v.state ≡ false → (g.rest +ℤ pos (2 * life)) <ℤ time →
    g'.turn ≡ time → IsAmong f v.sent → SentKeeps life time v.role marks g' f
old_turn life dmin time v g g' marks f k was r turn i =
    record {
      past = (k.frames f i).past;
      place =
          λ n.
          inl (subst (λ (t : ℤ). (f.1 +ℤ pos (2 * life)) <ℤ t) (sym turn)
          (older life f.1 g.rest time (k.shut was f i n) r));
    }

-- a master is engaged
pub engaging_moves :
    (life dmin : ℕ) (time : ℤ) (v : View) (g : Ghost) (q : View) (gq : Ghost) (next : LinkState) (ticked : ℤ) (m : WrMsg) (at : ℤ) (ms : List WrMsg) →
    Peers life dmin time v g q gq →
    ticked ≤ℤ time → Belongs v.role next → is_same next Idle ≡ false → way_of v.role next ≡ next ∷ way_of v.role v.state → SendsAll v.role next ms →
    v.state ≡ Idle → v.carrier ≡ true → v.quiet ≡ 0 → engaged v.role next ≡ true → bound v.role next ≡ false →
    Told life time q m at → opens q.role m ≡ true → numbered m ≡ false →
    Moved life dmin time (moved_to time v next ticked (Some (m, at)) ms) q gq
engaging_moves life dmin time v g q gq next ticked m at ms c t b out w s idle lit over en un told op uncounted =
    let mark : Mark = mark_at time v.state next (Some (m, at)) in
    let k : PortKeeps life dmin time v g = c.keeps in
    let was : engaged v.role v.state ≡ false = shut_at v.role v.state idle in
    let r : (g.rest +ℤ pos (2 * life)) <ℤ time = quiet_over life dmin time v g k idle lit over in
    let g' : Ghost =
    record { rest = g.rest; turn = time; bind = g.bind; newer = []; latest = mark ∷ []; older = stretches_of v.marks } in
    let n : IsEngaged time v.role next (mark ∷ v.marks) g' =
    record {
      stretches = begins mark v.marks idle;
      newer = refl;
      way = way_now time v.role v.state next (Some (m, at)) [] w (from_idle time v.role v.state idle);
      path = path_from v.role v.state next idle w;
      began = int_le_self time;
      first = λ _ t h. h;
      lasts = λ t i. absurd (not_idle next out i);
    } in
    record {
      ghost = g';
      keeps =
          record {
            belongs = b;
            counts = k.counts;
            ticked = t;
            rest = k.rest;
            turn = int_le_self time;
            bind = k.bind;
            calm = λ i. absurd (not_idle next out i);
            shut = λ x. cc;
            opened = λ _ x. cc;
            engages = λ _. n;
            unbound = λ _ _. no_mover m at uncounted;
            sources = λ x. cc;
            frames =
                λ f i.
                elim (stamped_in time v.role next ms v.sent f s i) [
                  | inl x ↦ fresh life time v.role next (mark ∷ v.marks) g' f (int_le_self time) (λ _. n) x.0 x.1
                  | inr j ↦ old_turn life dmin time v g g' (mark ∷ v.marks) f k was r refl j
                ];
            alone = λ _. refl;
            turns = (λ _ _. int_le_self time, turns_later v.role g.turn time v.marks k.turn k.turns);
            left = (λ i. absurd (not_idle next out i), k.left);
            awake = λ _. r;
          };
      tied = λ x. cc;
      back = λ x. absurd (not_engaged_anew life dmin time v g q gq m at c told op was r x);
    }

-- a slave is engaged, and bound
pub answering_moves :
    (life dmin : ℕ) (time : ℤ) (v : View) (g : Ghost) (q : View) (gq : Ghost) (next : LinkState) (ticked : ℤ) (m : WrMsg) (at : ℤ) (ms : List WrMsg) →
    Peers life dmin time v g q gq →
    ticked ≤ℤ time → Belongs v.role next → is_same next Idle ≡ false → way_of v.role next ≡ next ∷ way_of v.role v.state → SendsAll v.role next ms →
    v.state ≢ Idle → engaged v.role v.state ≡ false → engaged v.role next ≡ true → bound v.role next ≡ true →
    Told life time q m at → opens q.role m ≡ true → numbered m ≡ true →
    Moved life dmin time (moved_to time v next ticked (Some (m, at)) ms) q gq
answering_moves life dmin time v g q gq next ticked m at ms c t b out w s awake was en bo told op counted =
    let mark : Mark = mark_at time v.state next (Some (m, at)) in
    let k : PortKeeps life dmin time v g = c.keeps in
    let o : IsOpen life time v.role v.state v.marks g = k.opened awake was in
    let g' : Ghost =
    record { rest = g.rest; turn = time; bind = time; newer = []; latest = mark ∷ (o.mark ∷ []); older = o.before } in
    let n : IsEngaged time v.role next (mark ∷ v.marks) g' =
    record {
      stretches =
          joins mark v.marks (not_same_idle v.state awake) ∙ ap (λ (ss : List (List Mark)). joined mark ss) o.stretches;
      newer = refl;
      way = way_now time v.role v.state next (Some (m, at)) (o.mark ∷ []) w o.way;
      path = ap (λ (ss : List LinkState). next ∷ ss) o.path ∙ sym w;
      began = o.began;
      first = λ master. absurd (not_opening v.role v.state master awake was);
      lasts = λ t i. absurd (not_idle next out i);
    } in
    let one : movers_of (mark ∷ (o.mark ∷ [])) ≡ (m, at) ∷ [] =
    is_mover m at (movers_of (o.mark ∷ [])) counted
    ∙ ap (λ (x : Option Sending). (m, at) ∷ with_mover x []) o.unmoved in
    record {
      ghost = g';
      keeps =
          record {
            belongs = b;
            counts = k.counts;
            ticked = t;
            rest = k.rest;
            turn = int_le_self time;
            bind = int_le_self time;
            calm = λ i. absurd (not_idle next out i);
            shut = λ x. cc;
            opened = λ _ x. cc;
            engages = λ _. n;
            unbound = λ _ x. cc;
            sources =
                λ x f i p.
                elim (stamped_in time v.role next ms v.sent f s i) [
                  | inl y ↦ let z : opens v.role f.0 ≡ false = bound_sends v.role next f.0 bo y.0 in cc
                  | inr j ↦ (k.frames f j).past
                ];
            frames =
                λ f i.
                elim (stamped_in time v.role next ms v.sent f s i) [
                  | inl x ↦ fresh life time v.role next (mark ∷ v.marks) g' f (int_le_self time) (λ _. n) x.0 x.1
                  | inr j ↦ old_turn life dmin time v g g' (mark ∷ v.marks) f k was o.calm refl j
                ];
            alone = λ _. refl;
            turns = (λ _ _. int_le_self time, turns_later v.role g.turn time v.marks k.turn k.turns);
            left = (λ i. absurd (not_idle next out i), k.left);
            awake = λ _. o.calm;
          };
      tied =
          λ _.
          record {
            source = (m, at);
            there = told.there;
            counted = counted;
            fresh = told.recent;
            takes = λ slave. opens_as m q.role (c.roles ∙ ap (λ (r : Role). other_of r) slave) op;
            last = (m, at);
            others = [];
            movers = one;
            taken =
                subst (λ (xs : List Sending). AllByRecursion (λ x. FromLatest q.sent gq.turn x) xs) (sym one)
                (from_latest life dmin time q gq m at c.peer told counted, tt);
          };
      back = λ x. absurd (not_engaged_anew life dmin time v g q gq m at c told op was o.calm x);
    }

-- an engaged port goes on, and is bound
pub going_on_moves :
    (life dmin : ℕ) (time : ℤ) (v : View) (g : Ghost) (q : View) (gq : Ghost) (next : LinkState) (ticked : ℤ) (by : Option Sending) (ms : List WrMsg) (bind : ℤ) →
    Peers life dmin time v g q gq →
    ticked ≤ℤ time → Belongs v.role next → is_same next Idle ≡ false → way_of v.role next ≡ next ∷ way_of v.role v.state → SendsAll v.role next ms →
    v.state ≢ Idle → engaged v.role v.state ≡ true → engaged v.role next ≡ true → bound v.role next ≡ true →
    bind ≤ℤ time →
    ((f : Sending) → IsAmong f v.sent → opens v.role f.0 ≡ true → f.1 ≤ℤ bind) →
    Bond v.role life bind (mark_at time v.state next by ∷ g.latest) q.sent gq.turn →
    Moved life dmin time (moved_to time v next ticked by ms) q gq
going_on_moves life dmin time v g q gq next ticked by ms bind c t b out w s awake was en bo past sources bond =
    let mark : Mark = mark_at time v.state next by in
    let k : PortKeeps life dmin time v g = c.keeps in
    let o : IsEngaged time v.role v.state v.marks g = k.engages was in
    let g' : Ghost = record g { bind = bind; newer = []; latest = mark ∷ g.latest } in
    let e : stretches_of (mark ∷ v.marks) ≡ (mark ∷ g.latest) ∷ g.older =
    joins mark v.marks (not_same_idle v.state awake) ∙ ap (λ (ss : List (List Mark)). joined mark ss) o.stretches in
    let n : IsEngaged time v.role next (mark ∷ v.marks) g' =
    record {
      stretches = e;
      newer = refl;
      way = way_now time v.role v.state next by g.latest w o.way;
      path = ap (λ (ss : List LinkState). next ∷ ss) o.path ∙ sym w;
      began = began_cons time mark g.latest o.began;
      first = λ master t h. o.first master t (began_rest time t mark g.latest o.began h);
      lasts = λ t i. absurd (not_idle next out i);
    } in
    record {
      ghost = g';
      keeps =
          record {
            belongs = b;
            counts = k.counts;
            ticked = t;
            rest = k.rest;
            turn = k.turn;
            bind = past;
            calm = λ i. absurd (not_idle next out i);
            shut = λ x. cc;
            opened = λ _ x. cc;
            engages = λ _. n;
            unbound = λ _ x. cc;
            sources =
                λ x f i p.
                elim (stamped_in time v.role next ms v.sent f s i) [
                  | inl y ↦ let z : opens v.role f.0 ≡ false = bound_sends v.role next f.0 bo y.0 in cc
                  | inr j ↦ sources f j p
                ];
            frames =
                λ f i.
                elim (stamped_in time v.role next ms v.sent f s i) [
                  | inl x ↦ fresh life time v.role next (mark ∷ v.marks) g' f k.turn (λ _. n) x.0 x.1
                  | inr j ↦ longer_sent life time v.role v.marks g g.rest bind mark f e refl (k.frames f j)
                ];
            alone = λ _. refl;
            turns = (λ x _. cc, k.turns);
            left = (λ i. absurd (not_idle next out i), k.left);
            awake = λ _. k.awake awake;
          };
      tied = λ _. bond;
      back = λ x. bond_more q.role life gq.bind gq.latest v.sent g.turn time ms (c.back x);
    }
