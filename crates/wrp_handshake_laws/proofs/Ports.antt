-- A port by itself: while time passes, in a state that stays, and when it returns to IDLE.
use Rattle.std.proofs.Common.{◌≡◌, ◌≢◌, inl, inr, refl, ap, sym, ◌∙◌, subst, ℕ, ℤ, pos, ◌*◌, ◌+ℤ◌, ◌≤ℤ◌, Bool, true, false, List, [], ◌∷◌, ◌++◌, Option}
use Rattle.std.specs.List.{AllByRecursion}
use Rattle.wrp_base.specs.declared.link.LinkState.{LinkState}
use Rattle.wrp_base.specs.declared.link.LinkState.TheVariants.{Idle}
use Rattle.wrp_base.specs.declared.link.Mark.{Mark}
use Rattle.wrp_base.specs.declared.link.Role.{Role}
use Rattle.wrp_base.specs.declared.message.WrMsg.{WrMsg}
use Rattle.wrp_base.proofs.Integers.{int_le_self}
use Rattle.wrp_base.proofs.Lists.{all_weaker}
use Rattle.wrp_link.proofs.Fits.{Belongs}
use Rattle.wrp_check.specs.Stretches.{joined, stretches_of, BeganBy}
use Rattle.wrp_check.proofs.Entering.{entered_more}
use Rattle.wrp_handshake_laws.specs.Ends.{Sending, stamped}
use Rattle.wrp_handshake_laws.proofs.Stages.{engaged, bound, numbered, shut_sends, bound_sends, opens, sends_entered, Sends, SendsAll}
use Rattle.wrp_handshake_laws.proofs.Times.{Calm, later, passes, passes_below}
use Rattle.wrp_handshake_laws.proofs.Keeps.{View, Ghost, Current, SentKeeps, IsOpen, IsEngaged, TurnedBy, LeftBy, PortKeeps}
use Rattle.wrp_handshake_laws.proofs.Parts.{by_bool, mark_at, not_same_idle, idle_shut, idle_unbound, not_opening, began_cons, began_later, entered_later, joins, stamped_in}

-- a message that an engaged port sends now
fresh_current :
    (time : ℤ) (role : Role) (state : LinkState) (marks : List Mark) (g : Ghost) (m : WrMsg) →
    g.turn ≤ℤ time → IsEngaged time role state marks g → Sends role state m → Current role marks g (m, time)
fresh_current time role state marks g m t en s =
    record {
      since = t;
      splits = en.stretches ∙ ap (λ (n : List (List Mark)). n ++ g.latest ∷ g.older) (sym en.newer);
      misses = subst (λ (n : List (List Mark)). AllByRecursion (λ s. BeganBy time s → ⊥) n) (sym en.newer) tt;
      lies = record { began = en.began; lasts = en.lasts time };
      entered = sends_entered time g.latest role state m s en.way;
    }

-- a message that a port sends now
pub fresh :
    (life : ℕ) (time : ℤ) (role : Role) (state : LinkState) (marks : List Mark) (g : Ghost) (f : Sending) →
    g.turn ≤ℤ time → (engaged role state ≡ true → IsEngaged time role state marks g) →
    Sends role state f.0 → f.1 ≡ time → SentKeeps life time role marks g f
fresh life time role state marks g f t en s e =
    let now : SentKeeps life time role marks g (f.0, time) =
    record {
      past = int_le_self time;
      place =
          λ n.
          by_bool (engaged role state)
          (λ y. inr (fresh_current time role state marks g f.0 t (en y) s))
          (λ y. let k : numbered f.0 ≡ false = shut_sends role state f.0 y s in cc);
    } in
    subst (λ (x : ℤ). SentKeeps life time role marks g (f.0, x)) (sym e) now

-- marks that were not after a time are not after a later one
pub turns_later : (role : Role) (a b : ℤ) (marks : List Mark) → a ≤ℤ b → AllByRecursion (λ m. TurnedBy role a m) marks → AllByRecursion (λ m. TurnedBy role b m) marks
turns_later role a b marks le h = all_weaker (λ m. TurnedBy role a m) (λ m. TurnedBy role b m) (λ m t was is. later (t was is) le) marks h

pub left_later : (a b : ℤ) (marks : List Mark) → a ≤ℤ b → AllByRecursion (λ m. LeftBy a m) marks → AllByRecursion (λ m. LeftBy b m) marks
left_later a b marks le h = all_weaker (λ m. LeftBy a m) (λ m. LeftBy b m) (λ m t is. later (t is) le) marks h

-- the state stays
pub stays :
    (life dmin : ℕ) (time : ℤ) (v : View) (g : Ghost) (ticked : ℤ) (quiet : ℕ) (ms : List WrMsg) →
    PortKeeps life dmin time v g →
    ticked ≤ℤ time →
    (v.state ≡ Idle → v.carrier ≡ true → Calm dmin v.full quiet ticked g.rest) →
    SendsAll v.role v.state ms →
    PortKeeps life dmin time (record v { ticked = ticked; quiet = quiet; sent = stamped time ms v.sent }) g
stays life dmin time v g ticked quiet ms k t c s =
    record {
      belongs = k.belongs;
      counts = k.counts;
      ticked = t;
      rest = k.rest;
      turn = k.turn;
      bind = k.bind;
      calm = c;
      shut =
          λ e f i n.
          elim (stamped_in time v.role v.state ms v.sent f s i) [
            | inl x ↦ let z : numbered f.0 ≡ false = shut_sends v.role v.state f.0 e x.0 in cc
            | inr j ↦ k.shut e f j n
          ];
      opened = k.opened;
      engages = k.engages;
      unbound = k.unbound;
      sources =
          λ e f i n.
          elim (stamped_in time v.role v.state ms v.sent f s i) [
            | inl x ↦ let z : opens v.role f.0 ≡ false = bound_sends v.role v.state f.0 e x.0 in cc
            | inr j ↦ k.sources e f j n
          ];
      frames =
          λ f i.
          elim (stamped_in time v.role v.state ms v.sent f s i) [
            | inl x ↦ fresh life time v.role v.state v.marks g f k.turn k.engages x.0 x.1
            | inr j ↦ k.frames f j
          ];
      alone = k.alone;
      turns = k.turns;
      left = k.left;
      awake = k.awake;
    }

-- a message of the last turn, if that stretch has one mark more
pub longer :
    (role : Role) (marks : List Mark) (g : Ghost) (rest bind : ℤ) (mark : Mark) (f : Sending) →
    stretches_of (mark ∷ marks) ≡ (mark ∷ g.latest) ∷ g.older →
    (mark.to ≡ Idle → f.1 ≤ℤ mark.at) →
    Current role marks g f →
    Current role (mark ∷ marks) (record g { rest = rest; bind = bind; newer = []; latest = mark ∷ g.latest }) f
longer role marks g rest bind mark f e l c =
    record {
      since = c.since;
      splits = e;
      misses = tt;
      lies = record { began = began_cons f.1 mark g.latest c.lies.began; lasts = l };
      entered = entered_more f.1 _ mark g.latest c.entered;
    }

pub longer_sent :
    (life : ℕ) (time : ℤ) (role : Role) (marks : List Mark) (g : Ghost) (rest bind : ℤ) (mark : Mark) (f : Sending) →
    stretches_of (mark ∷ marks) ≡ (mark ∷ g.latest) ∷ g.older →
    mark.at ≡ time →
    SentKeeps life time role marks g f →
    SentKeeps life time role (mark ∷ marks) (record g { rest = rest; bind = bind; newer = []; latest = mark ∷ g.latest }) f
longer_sent life time role marks g rest bind mark f e at k =
    record {
      past = k.past;
      place =
          λ n.
          elim (k.place n) [
            | inl o ↦ inl o
            | inr c ↦ inr (longer role marks g rest bind mark f e (λ i. subst (λ (t : ℤ). f.1 ≤ℤ t) (sym at) k.past) c)
          ];
    }

-- an engaged port returns to IDLE
pub falls_engaged :
    (life dmin : ℕ) (time : ℤ) (v : View) (g : Ghost) (carrier : Bool) (quiet : ℕ) (ticked : ℤ) (by : Option Sending) →
    PortKeeps life dmin time v g →
    v.state ≢ Idle → engaged v.role v.state ≡ true → Belongs v.role Idle →
    ticked ≤ℤ time → (carrier ≡ true → quiet ≡ v.full) →
    PortKeeps life dmin time
    (record v { state = Idle; carrier = carrier; quiet = quiet; ticked = ticked; marks = mark_at time v.state Idle by ∷ v.marks })
    (record g { rest = time; newer = []; latest = mark_at time v.state Idle by ∷ g.latest })
falls_engaged life dmin time v g carrier quiet ticked by k out en b t c =
    let mark : Mark = mark_at time v.state Idle by in
    let e : stretches_of (mark ∷ v.marks) ≡ (mark ∷ g.latest) ∷ g.older =
    joins mark v.marks (not_same_idle v.state out) ∙ ap (λ (ss : List (List Mark)). joined mark ss) (k.engages en).stretches in
    let shut : engaged v.role Idle ≡ false = idle_shut v.role in
    let unbound : bound v.role Idle ≡ false = idle_unbound v.role in
    record {
      belongs = b;
      counts = k.counts;
      ticked = t;
      rest = int_le_self time;
      turn = k.turn;
      bind = k.bind;
      calm = λ i lit. inl (c lit);
      shut = λ _ f i n. (k.frames f i).past;
      opened = λ o. absurd (o refl);
      engages = λ x. cc;
      unbound = λ x. cc;
      sources = λ x. cc;
      frames = λ f i. longer_sent life time v.role v.marks g time g.bind mark f e refl (k.frames f i);
      alone = λ _. refl;
      turns = (λ _ x. cc, k.turns);
      left = (λ _. int_le_self time, left_later g.rest time v.marks k.rest k.left);
      awake = λ o. absurd (o refl);
    }

tail_is : (x y : List Mark) (xs ys : List (List Mark)) → x ∷ xs ≡ y ∷ ys → xs ≡ ys
tail_is x y xs ys e = cc

-- a message of the last turn, if the sender's PRESENT has ended
still_current :
    (life : ℕ) (time : ℤ) (role : Role) (state : LinkState) (marks : List Mark) (g : Ghost) (rest : ℤ) (mark : Mark) (f : Sending)
    (o : IsOpen life time role state marks g) →
    stretches_of (mark ∷ marks) ≡ (mark ∷ (o.mark ∷ [])) ∷ o.before →
    Current role marks g f →
    Current role (mark ∷ marks) (record g { rest = rest; newer = (mark ∷ (o.mark ∷ [])) ∷ o.after }) f
still_current life time role state marks g rest mark f o e c =
    let both : (o.mark ∷ []) ∷ o.before ≡ (o.mark ∷ []) ∷ (o.after ++ g.latest ∷ g.older) =
    sym o.stretches ∙ c.splits ∙ ap (λ (n : List (List Mark)). n ++ g.latest ∷ g.older) o.newer in
    let before : o.before ≡ o.after ++ g.latest ∷ g.older = tail_is _ _ _ _ both in
    record {
      since = c.since;
      splits = e ∙ ap (λ (ss : List (List Mark)). (mark ∷ (o.mark ∷ [])) ∷ ss) before;
      misses = subst (λ (n : List (List Mark)). AllByRecursion (λ s. BeganBy f.1 s → ⊥) n) o.newer c.misses;
      lies = c.lies;
      entered = c.entered;
    }

-- a port in PRESENT returns to IDLE
pub falls_open :
    (life dmin : ℕ) (time : ℤ) (v : View) (g : Ghost) (carrier : Bool) (quiet : ℕ) (ticked : ℤ) (by : Option Sending) →
    PortKeeps life dmin time v g →
    v.state ≢ Idle → engaged v.role v.state ≡ false → (o : IsOpen life time v.role v.state v.marks g) → Belongs v.role Idle →
    ticked ≤ℤ time → (carrier ≡ true → quiet ≡ v.full) →
    PortKeeps life dmin time
    (record v { state = Idle; carrier = carrier; quiet = quiet; ticked = ticked; marks = mark_at time v.state Idle by ∷ v.marks })
    (record g { rest = time; newer = (mark_at time v.state Idle by ∷ (o.mark ∷ [])) ∷ o.after })
falls_open life dmin time v g carrier quiet ticked by k out was o b t c =
    let mark : Mark = mark_at time v.state Idle by in
    let e : stretches_of (mark ∷ v.marks) ≡ (mark ∷ (o.mark ∷ [])) ∷ o.before =
    joins mark v.marks (not_same_idle v.state out) ∙ ap (λ (ss : List (List Mark)). joined mark ss) o.stretches in
    let shut : engaged v.role Idle ≡ false = idle_shut v.role in
    let unbound : bound v.role Idle ≡ false = idle_unbound v.role in
    record {
      belongs = b;
      counts = k.counts;
      ticked = t;
      rest = int_le_self time;
      turn = k.turn;
      bind = k.bind;
      calm = λ i lit. inl (c lit);
      shut = λ _ f i n. (k.frames f i).past;
      opened = λ o. absurd (o refl);
      engages = λ x. cc;
      unbound = λ x. cc;
      sources = λ x. cc;
      frames =
          λ f i.
          record {
            past = (k.frames f i).past;
            place =
                λ n.
                elim ((k.frames f i).place n) [
                  | inl z ↦ inl z
                  | inr z ↦ inr (still_current life time v.role v.state v.marks g time mark f o e z)
                ];
          };
      alone = λ master. absurd (not_opening v.role v.state master out was);
      turns = (λ _ x. cc, k.turns);
      left = (λ _. int_le_self time, left_later g.rest time v.marks k.rest k.left);
      awake = λ o. absurd (o refl);
    }

-- a port in IDLE begins its quiet time again
pub rests :
    (life dmin : ℕ) (time : ℤ) (v : View) (g : Ghost) (carrier : Bool) (quiet : ℕ) (ticked : ℤ) →
    PortKeeps life dmin time v g →
    Belongs v.role Idle →
    ticked ≤ℤ time → (carrier ≡ true → quiet ≡ v.full) →
    PortKeeps life dmin time
    (record v { state = Idle; carrier = carrier; quiet = quiet; ticked = ticked })
    (record g { rest = time })
rests life dmin time v g carrier quiet ticked k b t c =
    let shut : engaged v.role Idle ≡ false = idle_shut v.role in
    let unbound : bound v.role Idle ≡ false = idle_unbound v.role in
    record {
      belongs = b;
      counts = k.counts;
      ticked = t;
      rest = int_le_self time;
      turn = k.turn;
      bind = k.bind;
      calm = λ i lit. inl (c lit);
      shut = λ _ f i n. (k.frames f i).past;
      opened = λ o. absurd (o refl);
      engages = λ x. cc;
      unbound = λ x. cc;
      sources = λ x. cc;
      frames =
          λ f i.
          record {
            past = (k.frames f i).past;
            place =
                λ n.
                elim ((k.frames f i).place n) [
                  | inl z ↦ inl z
                  | inr z ↦ inr (record { since = z.since; splits = z.splits; misses = z.misses; lies = z.lies; entered = z.entered })
                ];
          };
      alone = k.alone;
      turns = k.turns;
      left = left_later g.rest time v.marks k.rest k.left;
      awake = λ o. absurd (o refl);
    }

-- time passes
pub passes_port :
    (life dmin : ℕ) (time : ℤ) (v : View) (g : Ghost) (dt : ℕ) →
    PortKeeps life dmin time v g → PortKeeps life dmin (time +ℤ pos dt) v g
passes_port life dmin time v g dt k =
    let le : time ≤ℤ (time +ℤ pos dt) = passes time time dt (int_le_self time) in
    record {
      belongs = k.belongs;
      counts = k.counts;
      ticked = later k.ticked le;
      rest = later k.rest le;
      turn = later k.turn le;
      bind = later k.bind le;
      calm = k.calm;
      shut = k.shut;
      opened =
          λ i e.
          let o : IsOpen life time v.role v.state v.marks g = k.opened i e in
          record {
            mark = o.mark;
            after = o.after;
            before = o.before;
            calm = passes_below g.rest time (2 * life) dt o.calm;
            stretches = o.stretches;
            newer = o.newer;
            way = entered_later time (time +ℤ pos dt) _ _ le o.way;
            path = o.path;
            began = later o.began le;
            unmoved = o.unmoved;
          };
      engages =
          λ e.
          let n : IsEngaged time v.role v.state v.marks g = k.engages e in
          record {
            stretches = n.stretches;
            newer = n.newer;
            way = entered_later time (time +ℤ pos dt) _ _ le n.way;
            path = n.path;
            began = began_later time (time +ℤ pos dt) g.latest le n.began;
            first = n.first;
            lasts = n.lasts;
          };
      unbound = k.unbound;
      sources = k.sources;
      frames = λ f i. record { past = later (k.frames f i).past le; place = (k.frames f i).place };
      alone = k.alone;
      turns = k.turns;
      left = k.left;
      awake = λ a. passes_below g.rest time (2 * life) dt (k.awake a);
    }
