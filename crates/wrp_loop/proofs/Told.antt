-- What the link gave determines what a loop comes to.
use Rattle.std.proofs.Common.{◌≡◌, ◌∙◌, inl, inr, refl, ap, ap₂, sym, subst, ℕ, ℤ, suc, ◌+◌, ◌||◌, List, [], ◌∷◌, ◌++◌, length, flat_map, Option, None, Some, arith}
use Rattle.std.proofs.lemmas.Option.{none-some, same_Some}
use Rattle.std.specs.List.{concat}
use Rattle.arrayvec.specs.ArrayVec.{ArrayVec}
use Rattle.wrp_base.specs.declared.link.Role.{Role}
use Rattle.wrp_base.specs.declared.time.Raw.{Raw}
use Rattle.wrp_base.specs.Link.{other_of}
use Rattle.wrp_frame.specs.SentOctets.{octets_of}
use Rattle.wrp_io.specs.declared.link.LinkCall.{LinkCall}
use Rattle.wrp_servo.specs.Told.{ToldLast}
use Rattle.wrp_course.specs.declared.event.Event.{Event}
use Rattle.wrp_course.specs.declared.event.Event.TheVariants.{Pass, Tick, Sample, Depart, Arrive, Deliver, Noise, Down, Up, Cut, Join}
use Rattle.wrp_course.specs.Run.{AllSaid, Happened, IsAnswered, steps_at, world_after}
use Rattle.wrp_course.specs.Setting.{Setting, end_at}
use Rattle.wrp_course.specs.WorldAt.{FrameAt, WorldAt}
use Rattle.wrp_sim.specs.Rules.{Next}
use Rattle.wrp_sim.specs.SimAt.{SimAt}
use Rattle.wrp_sim.specs.SimRun.{Gives}
use Rattle.wrp_loop.specs.declared.fate.Fate.{Fate}
use Rattle.wrp_loop.specs.declared.fate.Fate.TheVariants.{Handed, Forged, Noisy}
use Rattle.wrp_loop.specs.Calls.{arrival_calls, most_taken}
use Rattle.wrp_loop.specs.Datagrams.{IsFate, IsFrameOf, IsSuch, IsWayOf, Way, handed_in, hands, receiving_end, sending_end}
use Rattle.wrp_loop.specs.Laws.{Ending, EndsAs, Large, OneLoop, Over}
use Rattle.wrp_loop.specs.LoopEnds.{IsOver, IsOverrun}
use Rattle.wrp_loop.specs.LoopRun.{Carried, ComesBetween, Dropped, FollowsFate, FrameCarried, Full, GivesNext, Goes, Going, HandlesAll, IsCounted, IsPlain, IsRound, LoopAt, Loops, On, Plain, Plan, Round, events_at, happened, loop_start, noise_stamp, place, with_between, with_event, without_frame, world_at}
use Rattle.wrp_loop.specs.LoopText.{loop_lines, marked_line, step_lines, steps_lines}
use Rattle.wrp_loop.proofs.Choices.{choice_of, choice_same, one_chosen}
use Rattle.wrp_sim.proofs.OneRule.{gives_one}
use Rattle.wrp_loop.proofs.Receptions.{same_taken, tails}
use Rattle.wrp_one_world_laws.specs.OneWorld.{Alike, SameEvents, answers_of}
use Rattle.wrp_one_world_laws.proofs.OneWorld.{alike_after, before_newest, steps_after}

-- What is given for events

abbrev Told : (ℕ → ℤ → ℤ) → Setting → List Happened → Type 0
Told law s events = AllSaid events × IsAnswered (answers_of law) s (world_after s events)

told_before : (law : ℕ → ℤ → ℤ) (s : Setting) (h : Happened) (before : List Happened) → Told law s (h ∷ before) → Told law s before
told_before law s h before t = (t.0.1, before_newest law s h before t.1)

abbrev ToldAt : (ℕ → ℤ → ℤ) → Plan → Going → Type 0
ToldAt law x now = Told law x.setting (events_at (place now))

between_told : (law : ℕ → ℤ → ℤ) (x : Plan) (l : LoopAt) (e : Event) (next : Going) → ComesBetween l e next → ToldAt law x next → ToldAt law x (On l)
between_told law x l e next (inl full) t = subst (ToldAt law x) full.1 t
between_told law x l e next (inr came) t =
    told_before law x.setting (happened e came.1 came.2) (events_at l) (subst (ToldAt law x) came.4 t)

fate_told : (law : ℕ → ℤ → ℤ) (x : Plan) (way : Way) (frame : ArrayVec ℕ) (l : LoopAt) (fate : Fate) (next : Going) → FollowsFate way frame l fate next → ToldAt law x next → ToldAt law x (On l)
fate_told law x way frame l (Handed i) next f t = between_told law x l (Deliver i) next f t
fate_told law x way frame l Forged next f t = subst (ToldAt law x) f t
fate_told law x way frame l Noisy next f t = between_told law x l (Noise way.to.node way.to.port frame noise_stamp) next f t

all_told : (law : ℕ → ℤ → ℤ) (x : Plan) (way : Way) (got : List (ArrayVec ℕ)) (now last : Going) → HandlesAll x way got now last → ToldAt law x last → ToldAt law x now
all_told law x way [] now last h t = subst (ToldAt law x) h t
all_told law x way (frame ∷ got) (Full l) last h t = subst (ToldAt law x) h t
all_told law x way (frame ∷ got) (On l) last h t =
    fate_told law x way frame l h.1.0 h.0 h.1.2 (all_told law x way got h.0 last h.2 t)

round_told : (law : ℕ → ℤ → ℤ) (x : Plan) (l : LoopAt) (r : Round) (made : List LinkCall) (next : Going) → IsRound x l r made next → ToldAt law x next → ToldAt law x (On l)
round_told law x l Plain made next h t = told_before law x.setting h.1.newest (events_at l) (subst (ToldAt law x) h.1.leads t)
round_told law x l Dropped made next h t = subst (ToldAt law x) h.1.leads t
round_told law x l Carried made next h t =
    told_before law x.setting (happened (Arrive h.number h.arrives.raw) h.says h.answer) (events_at l) (all_told law x h.way h.got _ next h.handled t)

goes_told : (law : ℕ → ℤ → ℤ) (x : Plan) (now : Going) (rounds : List Round) (calls : List LinkCall) (last : Going) → Goes x now rounds calls last → ToldAt law x last → ToldAt law x now
goes_told law x now [] calls last g t = subst (ToldAt law x) g.1 t
goes_told law x (Full l) (r ∷ rounds) calls last g t = absurd g
goes_told law x (On l) (r ∷ rounds) calls last g t = round_told law x l r g.1 g.0 g.3 (goes_told law x g.0 rounds g.2 last g.5 t)

-- Two loops that are the same so far

record SameAt (l m : LoopAt) : Type 0 where
  pub events : SameEvents (events_at l) (events_at m)
  pub drawn : l.at ≡ m.at
  pub forged_same : l.forged ≡ m.forged

abbrev SameGoing : Going → Going → Type 0
SameGoing (On l) (On m) = SameAt l m
SameGoing (Full l) (Full m) = SameAt l m
SameGoing _ _ = ⊥

same_length : (a b : List Happened) → SameEvents a b → length a ≡ length b
same_length [] [] h = refl
same_length [] (k ∷ b) h = absurd h
same_length (g ∷ a) [] h = absurd h
same_length (g ∷ a) (k ∷ b) h = ap suc (same_length a b h.1)

same_handed : (a b : List Happened) → SameEvents a b → (i : ℕ) → handed_in a i ≡ handed_in b i
same_handed [] [] h i = refl
same_handed [] (k ∷ b) h i = absurd h
same_handed (g ∷ a) [] h i = absurd h
same_handed (g ∷ a) (k ∷ b) h i = ap₂ (λ p q. p || q) (ap (hands i) h.0) (same_handed a b h.1 i)

alike_at : (law : ℕ → ℤ → ℤ) → ToldLast → (x : Plan) (l m : LoopAt) → SameAt l m → ToldAt law x (On l) → ToldAt law x (On m) → Alike x.setting (world_at x l) (world_at x m)
alike_at law last x l m same t u = alike_after law last x.setting (events_at l) (events_at m) same.events t.0 u.0 t.1 u.1

-- One datagram

such_one : (s : Setting) (v w : WorldAt) (h : Alike s v w) (way : Way) (octets : List ℕ) (i : ℕ) → IsSuch s v way octets i → IsSuch s w way octets i
such_one s v w h way octets i such =
    subst (λ (k : WorldAt). IsSuch s k way octets i) (sym h.is)
    (record { frame = such.frame; is = such.is; link_is = such.link_is; by_is = such.by_is; arrived = such.arrived; young = such.young; equals = such.equals })

such_back : (s : Setting) (v w : WorldAt) (h : Alike s v w) (way : Way) (octets : List ℕ) (i : ℕ) → IsSuch s w way octets i → IsSuch s v way octets i
such_back s v w h way octets i other =
    let such = subst (λ (k : WorldAt). IsSuch s k way octets i) h.is other in
    record { frame = such.frame; is = such.is; link_is = such.link_is; by_is = such.by_is; arrived = such.arrived; young = such.young; equals = such.equals }

found_one : (s : Setting) (a b : List Happened) (way : Way) (octets : List ℕ) (p q : Option ℕ) → SameEvents a b → Alike s (world_after s a) (world_after s b) →
    IsFrameOf s a way octets p → IsFrameOf s b way octets q → p ≡ q
found_one s a b way octets p q same alike f g =
    let v : WorldAt = world_after s a in
    let w : WorldAt = world_after s b in
    one_chosen (IsSuch s w way octets) (handed_in b) p q
    (choice_same (IsSuch s w way octets) (handed_in a) (handed_in b) p (λ i such. same_handed a b same i)
    (choice_of (IsSuch s v way octets) (IsSuch s w way octets) (handed_in a) p (such_one s v w alike way octets) (such_back s v w alike way octets) f)) g

fate_one : (s : Setting) (a b : List Happened) (way : Way) (octets : List ℕ) (p q : Fate) → SameEvents a b → Alike s (world_after s a) (world_after s b) →
    IsFate s a way octets p → IsFate s b way octets q → p ≡ q
fate_one s a b way octets (Handed i) (Handed j) same alike f g = ap Handed (same_Some i j (found_one s a b way octets (Some i) (Some j) same alike f g))
fate_one s a b way octets (Handed i) Forged same alike f g = absurd (none-some i (sym (found_one s a b way octets (Some i) None same alike f g.0)))
fate_one s a b way octets (Handed i) Noisy same alike f g = absurd (none-some i (sym (found_one s a b way octets (Some i) None same alike f g.0)))
fate_one s a b way octets Forged (Handed j) same alike f g = absurd (none-some j (found_one s a b way octets None (Some j) same alike f.0 g))
fate_one s a b way octets Forged Forged same alike f g = refl
fate_one s a b way octets Forged Noisy same alike f g = absurd (g.1 f.1)
fate_one s a b way octets Noisy (Handed j) same alike f g = absurd (none-some j (found_one s a b way octets None (Some j) same alike f.0 g))
fate_one s a b way octets Noisy Forged same alike f g = absurd (f.1 g.1)
fate_one s a b way octets Noisy Noisy same alike f g = refl

between_one : (l m : LoopAt) (e : Event) (a b : Going) → SameAt l m → ComesBetween l e a → ComesBetween m e b → SameGoing a b
between_one l m e a b same (inl f) (inl g) = subst (SameGoing a) (sym g.1) (subst (λ (k : Going). SameGoing k (Full m)) (sym f.1) same)
between_one l m e a b same (inl f) (inr g) = absurd (let n = same_length (events_at l) (events_at m) same.events in let p = f.0 in let q = g.0 in omega (arith, n, p, q))
between_one l m e a b same (inr f) (inl g) = absurd (let n = same_length (events_at l) (events_at m) same.events in let p = f.0 in let q = g.0 in omega (arith, n, p, q))
between_one l m e a b same (inr f) (inr g) =
    let one : SameAt (with_between (happened e f.1 f.2) l) (with_between (happened e g.1 g.2) m) =
    record { events = (refl, same.events); drawn = same.drawn; forged_same = same.forged_same } in
    subst (SameGoing a) (sym g.4) (subst (λ (k : Going). SameGoing k (On (with_between (happened e g.1 g.2) m))) (sym f.4) one)

follows_one : (way : Way) (frame : ArrayVec ℕ) (l m : LoopAt) (fate : Fate) (a b : Going) → SameAt l m → FollowsFate way frame l fate a → FollowsFate way frame m fate b → SameGoing a b
follows_one way frame l m (Handed i) a b same f g = between_one l m (Deliver i) a b same f g
follows_one way frame l m Forged a b same f g =
    let one : SameAt (record l { forged = l.forged + 1 }) (record m { forged = m.forged + 1 }) =
    record { events = same.events; drawn = same.drawn; forged_same = ap (λ k. k + 1) same.forged_same } in
    subst (SameGoing a) (sym g) (subst (λ (k : Going). SameGoing k (On (record m { forged = m.forged + 1 }))) (sym f) one)
follows_one way frame l m Noisy a b same f g = between_one l m (Noise way.to.node way.to.port frame noise_stamp) a b same f g

all_one : (law : ℕ → ℤ → ℤ) → ToldLast → (x : Plan) (way : Way) (got : List (ArrayVec ℕ)) (now other a b : Going) → SameGoing now other →
    HandlesAll x way got now a → HandlesAll x way got other b → ToldAt law x a → ToldAt law x b → SameGoing a b
all_one law last x way [] now other a b same f g t u = subst (SameGoing a) (sym g) (subst (λ (k : Going). SameGoing k other) (sym f) same)
all_one law last x way (frame ∷ got) (Full l) (Full m) a b same f g t u = subst (SameGoing a) (sym g) (subst (λ (k : Going). SameGoing k (Full m)) (sym f) same)
all_one law last x way (frame ∷ got) (Full l) (On m) a b same f g t u = absurd same
all_one law last x way (frame ∷ got) (On l) (Full m) a b same f g t u = absurd same
all_one law last x way (frame ∷ got) (On l) (On m) a b same f g t u =
    let here : ToldAt law x (On l) = all_told law x way (frame ∷ got) (On l) a f t in
    let there : ToldAt law x (On m) = all_told law x way (frame ∷ got) (On m) b g u in
    let alike : Alike x.setting (world_at x l) (world_at x m) = alike_at law last x l m same here there in
    let fate : f.1.0 ≡ g.1.0 = fate_one x.setting (events_at l) (events_at m) way frame.items f.1.0 g.1.0 same.events alike f.1.1 g.1.1 in
    all_one law last x way got f.0 g.0 a b
    (follows_one way frame l m g.1.0 f.0 g.0 same (subst (λ (k : Fate). FollowsFate way frame l k f.0) fate f.1.2) g.1.2)
    f.2 g.2 t u

-- One event of the simulator

abbrev kind_of : Event → ℕ
kind_of (Arrive i raw) = 0
kind_of (Deliver i) = 1
kind_of _ = 2

abbrev number_of : Event → ℕ
number_of (Arrive i raw) = i
number_of (Deliver i) = i
number_of _ = 0

abbrev raw_of : Raw → Event → Raw
raw_of other (Arrive i raw) = raw
raw_of other _ = other

plain_kind : (e : Event) → IsPlain e → kind_of e ≡ 2
plain_kind (Arrive i raw) h = absurd h
plain_kind (Deliver i) h = absurd h
plain_kind (Pass dt drifts fibres) h = refl
plain_kind (Tick n) h = refl
plain_kind (Sample n base bits) h = refl
plain_kind (Depart n p stamp) h = refl
plain_kind (Noise n p octets raw) h = refl
plain_kind (Down n) h = refl
plain_kind (Up n off swaps) h = refl
plain_kind (Cut k) h = refl
plain_kind (Join k ms sm) h = refl

next_one : (law : ℕ → ℤ → ℤ) → ToldLast → (x : Plan) (l m : LoopAt) (p q : Option Next) → SameAt l m → ToldAt law x (On l) → ToldAt law x (On m) →
    Gives x.scene x.setting (world_at x l) l.at p → Gives x.scene x.setting (world_at x m) m.at q → p ≡ q
next_one law last x l m p q same t u f g =
    gives_one x.scene x.setting (world_at x l) (world_at x m) l.at p q (alike_at law last x l m same t u) f
    (subst (λ (k : SimAt). Gives x.scene x.setting (world_at x m) k q) (sym same.drawn) g)

abbrev next_with : Event → SimAt → Next
next_with e new = record { event = e; at = new }

given_one : (law : ℕ → ℤ → ℤ) → ToldLast → (x : Plan) (l m : LoopAt) (d e : Event) (new other : SimAt) → SameAt l m → ToldAt law x (On l) → ToldAt law x (On m) →
    GivesNext x l d new → GivesNext x m e other → next_with d new ≡ next_with e other
given_one law last x l m d e new other same t u f g =
    same_Some (next_with d new) (next_with e other) (next_one law last x l m (Some (next_with d new)) (Some (next_with e other)) same t u f g)

kinds_one : (d e : Event) (new other : SimAt) → next_with d new ≡ next_with e other → kind_of d ≡ kind_of e
kinds_one d e new other h = ap (λ (n : Next). kind_of n.event) h

-- a frame has one way
way_one : (s : Setting) (f g : FrameAt) (way other : Way) (octets others : List ℕ) → f ≡ g → IsWayOf s f way octets → IsWayOf s g other others → (way ≡ other) × (octets ≡ others)
way_one s f g way other octets others same h k =
    let link : way.link ≡ other.link = h.link_is ∙ ap (λ (a : FrameAt). a.link) same ∙ sym k.link_is in
    let by : way.by ≡ other.by = h.by_is ∙ ap (λ (a : FrameAt). a.by) same ∙ sym k.by_is in
    let to : way.to ≡ other.to = same_Some way.to other.to (sym h.to_is ∙ ap₂ (λ (n : ℕ) (r : Role). end_at s n (other_of r)) link by ∙ k.to_is) in
    ((λ i. record { link = link i; by = by i; to = to i }), h.octets_are ∙ ap (λ (a : FrameAt). octets_of a.sending.message) same ∙ sym k.octets_are)

frame_one : (s : Setting) (v w : WorldAt) (i j : ℕ) (f g : FrameAt) → Alike s v w → i ≡ j → v.frame i ≡ Some f → w.frame j ≡ Some g → f ≡ g
frame_one s v w i j f g h same p q = same_Some f g (sym p ∙ ap v.frame same ∙ sym (ap (λ (k : WorldAt). k.frame j) h.is) ∙ q)

record OneRound (r q : Round) (a b : Going) (x y : List LinkCall) : Type 0 where
  pub going_same : SameGoing a b
  pub later : x ≡ y

plain_one : (law : ℕ → ℤ → ℤ) → ToldLast → (x : Plan) (l m : LoopAt) (made others p q : List LinkCall) (a b : Going) → SameAt l m → ToldAt law x (On l) → ToldAt law x (On m) →
    IsRound x l Plain made a → IsRound x m Plain others b → made ++ p ≡ others ++ q → OneRound Plain Plain a b p q
plain_one law last x l m made others p q a b same t u f g c =
    let next = given_one law last x l m f.1.newest.event g.1.newest.event f.1.new g.1.new same t u f.1.gives g.1.gives in
    let one : SameAt (with_event f.1.newest f.1.new l) (with_event g.1.newest g.1.new m) = record {
      events = (ap (λ (n : Next). n.event) next, same.events);
      drawn = ap (λ (n : Next). n.at) next;
      forged_same = same.forged_same;
    } in
    record {
      going_same = subst (SameGoing a) (sym g.1.leads) (subst (λ (k : Going). SameGoing k (On (with_event g.1.newest g.1.new m))) (sym f.1.leads) one);
      later = sym (ap (λ (k : List LinkCall). k ++ p) f.0) ∙ c ∙ ap (λ (k : List LinkCall). k ++ q) g.0;
    }

dropped_one : (law : ℕ → ℤ → ℤ) → ToldLast → (x : Plan) (l m : LoopAt) (made others p q : List LinkCall) (a b : Going) → SameAt l m → ToldAt law x (On l) → ToldAt law x (On m) →
    IsRound x l Dropped made a → IsRound x m Dropped others b → made ++ p ≡ others ++ q → OneRound Dropped Dropped a b p q
dropped_one law last x l m made others p q a b same t u f g c =
    let next = given_one law last x l m (Deliver f.1.number) (Deliver g.1.number) f.1.new g.1.new same t u f.1.gives g.1.gives in
    let one : SameAt (without_frame f.1.number f.1.new l) (without_frame g.1.number g.1.new m) =
    record { events = same.events; drawn = ap (λ (n : Next). n.at) next; forged_same = same.forged_same } in
    record {
      going_same = subst (SameGoing a) (sym g.1.leads) (subst (λ (k : Going). SameGoing k (On (without_frame g.1.number g.1.new m))) (sym f.1.leads) one);
      later = sym (ap (λ (k : List LinkCall). k ++ p) f.0) ∙ c ∙ ap (λ (k : List LinkCall). k ++ q) g.0;
    }

carried_one : (law : ℕ → ℤ → ℤ) → ToldLast → (x : Plan) (l m : LoopAt) (made others p q : List LinkCall) (a b : Going) → SameAt l m → ToldAt law x (On l) → ToldAt law x (On m) → ToldAt law x a → ToldAt law x b →
    FrameCarried x l made a → FrameCarried x m others b → made ++ p ≡ others ++ q → OneRound Carried Carried a b p q
carried_one law last x l m made others p q a b same t u ta tb f g c =
    let s : Setting = x.setting in
    let next = given_one law last x l m (Arrive f.number f.arrives.raw) (Arrive g.number g.arrives.raw) f.arrives.new g.arrives.new same t u f.arrives.gives g.arrives.gives in
    let event : Arrive f.number f.arrives.raw ≡ Arrive g.number g.arrives.raw = ap (λ (n : Next). n.event) next in
    let number : f.number ≡ g.number = ap number_of event in
    let frame : f.arrives.frame ≡ g.arrives.frame =
    frame_one s (world_at x l) (world_at x m) f.number g.number f.arrives.frame g.arrives.frame (alike_at law last x l m same t u) number f.arrives.is g.arrives.is in
    let way = way_one s f.arrives.frame g.arrives.frame f.way g.way f.octets g.octets frame f.arrives.way_is g.arrives.way_is in
    let there : arrival_calls (sending_end f.way) (receiving_end f.way) f.octets f.got ++ p ≡ arrival_calls (sending_end f.way) (receiving_end f.way) f.octets g.got ++ q =
    sym (ap (λ (k : List LinkCall). k ++ p) f.made) ∙ c ∙ ap (λ (k : List LinkCall). k ++ q) g.made
    ∙ sym (ap₂ (λ (k : Way) (o : List ℕ). arrival_calls (sending_end k) (receiving_end k) o g.got ++ q) way.0 way.1) in
    let taken = same_taken (receiving_end f.way) most_taken f.got g.got p q f.few g.few (tails _ _ _ _ there) in
    let one : SameAt (with_event (happened (Arrive f.number f.arrives.raw) f.says f.answer) f.arrives.new l) (with_event (happened (Arrive g.number g.arrives.raw) g.says g.answer) g.arrives.new m) =
    record { events = (event, same.events); drawn = ap (λ (n : Next). n.at) next; forged_same = same.forged_same } in
    let mine : HandlesAll x g.way g.got (On (with_event (happened (Arrive f.number f.arrives.raw) f.says f.answer) f.arrives.new l)) a =
    subst (λ (k : Way). HandlesAll x k g.got (On (with_event (happened (Arrive f.number f.arrives.raw) f.says f.answer) f.arrives.new l)) a) way.0
    (subst (λ (k : List (ArrayVec ℕ)). HandlesAll x f.way k (On (with_event (happened (Arrive f.number f.arrives.raw) f.says f.answer) f.arrives.new l)) a) taken.0 f.handled) in
    record { going_same = all_one law last x g.way g.got _ _ a b one mine g.handled ta tb; later = taken.1 }

round_one : (law : ℕ → ℤ → ℤ) → ToldLast → (x : Plan) (l m : LoopAt) (r k : Round) (made others p q : List LinkCall) (a b : Going) → SameAt l m → ToldAt law x a → ToldAt law x b →
    IsRound x l r made a → IsRound x m k others b → made ++ p ≡ others ++ q → OneRound r k a b p q
round_one law last x l m Plain Plain made others p q a b same t u f g c =
    plain_one law last x l m made others p q a b same (round_told law x l Plain made a f t) (round_told law x m Plain others b g u) f g c
round_one law last x l m Dropped Dropped made others p q a b same t u f g c =
    dropped_one law last x l m made others p q a b same (round_told law x l Dropped made a f t) (round_told law x m Dropped others b g u) f g c
round_one law last x l m Carried Carried made others p q a b same t u f g c =
    carried_one law last x l m made others p q a b same (round_told law x l Carried made a f t) (round_told law x m Carried others b g u) t u f g c
round_one law last x l m Plain Dropped made others p q a b same t u f g c =
    absurd (let n = kinds_one _ _ _ _ (given_one law last x l m f.1.newest.event (Deliver g.1.number) f.1.new g.1.new same (round_told law x l Plain made a f t) (round_told law x m Dropped others b g u) f.1.gives g.1.gives) in
    let two = plain_kind f.1.newest.event f.1.plain in omega (arith, n, two))
round_one law last x l m Dropped Plain made others p q a b same t u f g c =
    absurd (let n = kinds_one _ _ _ _ (given_one law last x l m (Deliver f.1.number) g.1.newest.event f.1.new g.1.new same (round_told law x l Dropped made a f t) (round_told law x m Plain others b g u) f.1.gives g.1.gives) in
    let two = plain_kind g.1.newest.event g.1.plain in omega (arith, n, two))
round_one law last x l m Plain Carried made others p q a b same t u f g c =
    absurd (let n = kinds_one _ _ _ _ (given_one law last x l m f.1.newest.event (Arrive g.number g.arrives.raw) f.1.new g.arrives.new same (round_told law x l Plain made a f t) (round_told law x m Carried others b g u) f.1.gives g.arrives.gives) in
    let two = plain_kind f.1.newest.event f.1.plain in omega (arith, n, two))
round_one law last x l m Carried Plain made others p q a b same t u f g c =
    absurd (let n = kinds_one _ _ _ _ (given_one law last x l m (Arrive f.number f.arrives.raw) g.1.newest.event f.arrives.new g.1.new same (round_told law x l Carried made a f t) (round_told law x m Plain others b g u) f.arrives.gives g.1.gives) in
    let two = plain_kind g.1.newest.event g.1.plain in omega (arith, n, two))
round_one law last x l m Dropped Carried made others p q a b same t u f g c =
    absurd (let n = kinds_one _ _ _ _ (given_one law last x l m (Deliver f.1.number) (Arrive g.number g.arrives.raw) f.1.new g.arrives.new same (round_told law x l Dropped made a f t) (round_told law x m Carried others b g u) f.1.gives g.arrives.gives) in
    omega (arith, n))
round_one law last x l m Carried Dropped made others p q a b same t u f g c =
    absurd (let n = kinds_one _ _ _ _ (given_one law last x l m (Arrive f.number f.arrives.raw) (Deliver g.1.number) f.arrives.new g.1.new same (round_told law x l Carried made a f t) (round_told law x m Dropped others b g u) f.arrives.gives g.1.gives) in
    omega (arith, n))

-- Where a loop ends

abbrev IsEnd : Plan → Ending → Going → Type 0
IsEnd x Over last = IsOver x last
IsEnd x Large last = IsOverrun x last

abbrev event_in : (x : Plan) (l : LoopAt) (r : Round) (made : List LinkCall) (next : Going) → IsRound x l r made next → (e : Event) × (new : SimAt) × GivesNext x l e new
event_in x l Plain made next f = (f.1.newest.event, f.1.new, f.1.gives)
event_in x l Dropped made next f = (Deliver f.1.number, f.1.new, f.1.gives)
event_in x l Carried made next f = (Arrive f.number f.arrives.raw, f.arrives.new, f.arrives.gives)

not_counted : (e : Event) (i : ℕ) → e ≡ Deliver i → IsCounted e → ⊥
not_counted e i same c = subst IsCounted same c

-- no round goes on from an end
no_more : (law : ℕ → ℤ → ℤ) → ToldLast → (x : Plan) (ending : Ending) (l m : LoopAt) (r : Round) (made : List LinkCall) (next : Going) → SameAt l m → ToldAt law x (On l) → ToldAt law x (On m) →
    IsEnd x ending (On l) → IsRound x m r made next → ⊥
no_more law last x Over l m r made next same t u over f =
    let it = event_in x m r made next f in
    none-some (next_with it.0 it.1) (next_one law last x l m None (Some (next_with it.0 it.1)) same t u over it.2)
no_more law last x Large l m Plain made next same t u over f =
    let n = same_length (events_at l) (events_at m) same.events in
    let p = over.full in
    let q = f.1.room in
    omega (arith, n, p, q)
no_more law last x Large l m Carried made next same t u over f =
    let n = same_length (events_at l) (events_at m) same.events in
    let p = over.full in
    let q = f.arrives.room in
    omega (arith, n, p, q)
no_more law last x Large l m Dropped made next same t u over f =
    let one = same_Some over.next (next_with (Deliver f.1.number) f.1.new) (next_one law last x l m (Some over.next) (Some (next_with (Deliver f.1.number) f.1.new)) same t u over.gives f.1.gives) in
    not_counted over.next.event f.1.number (ap (λ (n : Next). n.event) one) over.counted

same_sym : (a b : List Happened) → SameEvents a b → SameEvents b a
same_sym [] [] h = h
same_sym [] (k ∷ b) h = h
same_sym (g ∷ a) [] h = h
same_sym (g ∷ a) (k ∷ b) h = (sym h.0, same_sym a b h.1)

at_sym : (l m : LoopAt) → SameAt l m → SameAt m l
at_sym l m h = record { events = same_sym (events_at l) (events_at m) h.events; drawn = sym h.drawn; forged_same = sym h.forged_same }

goes_one : (law : ℕ → ℤ → ℤ) → ToldLast → (x : Plan) (now other : Going) (rounds others : List Round) (calls : List LinkCall) (a b : Going) (first second : Ending) → SameGoing now other →
    Goes x now rounds calls a → Goes x other others calls b → IsEnd x first a → IsEnd x second b → ToldAt law x a → ToldAt law x b → SameGoing a b
goes_one law last x now other [] [] calls a b first second same g h ea eb t u =
    subst (SameGoing a) (sym h.1) (subst (λ (k : Going). SameGoing k other) (sym g.1) same)
goes_one law last x (Full l) (Full m) [] (r ∷ others) calls a b first second same g h ea eb t u = absurd h
goes_one law last x (Full l) (On m) [] (r ∷ others) calls a b first second same g h ea eb t u = absurd same
goes_one law last x (On l) (Full m) [] (r ∷ others) calls a b first second same g h ea eb t u = absurd same
goes_one law last x (On l) (On m) [] (r ∷ others) calls a b first second same g h ea eb t u =
    absurd (no_more law last x first l m r h.1 h.0 same (subst (ToldAt law x) g.1 t) (goes_told law x (On m) (r ∷ others) calls b h u) (subst (IsEnd x first) g.1 ea) h.3)
goes_one law last x (Full l) other (r ∷ rounds) others calls a b first second same g h ea eb t u = absurd g
goes_one law last x (On l) (Full m) (r ∷ rounds) others calls a b first second same g h ea eb t u = absurd same
goes_one law last x (On l) (On m) (r ∷ rounds) [] calls a b first second same g h ea eb t u =
    absurd (no_more law last x second m l r g.1 g.0 (at_sym l m same) (subst (ToldAt law x) h.1 u) (goes_told law x (On l) (r ∷ rounds) calls a g t) (subst (IsEnd x second) h.1 eb) g.3)
goes_one law last x (On l) (On m) (r ∷ rounds) (k ∷ others) calls a b first second same g h ea eb t u =
    let one : OneRound r k g.0 h.0 g.2 h.2 =
    round_one law last x l m r k g.1 h.1 g.2 h.2 g.0 h.0 same (goes_told law x g.0 rounds g.2 a g.5 t) (goes_told law x h.0 others h.2 b h.5 u) g.3 h.3 (sym g.4 ∙ h.4) in
    goes_one law last x g.0 h.0 rounds others g.2 a b first second one.going_same g.5
    (subst (λ (later : List LinkCall). Goes x h.0 others later b) (sym one.later) h.5) ea eb t u

-- one place has only one ending
ending_one : (law : ℕ → ℤ → ℤ) → ToldLast → (x : Plan) (a b : Going) (first second : Ending) → SameGoing a b → ToldAt law x a → ToldAt law x b → IsEnd x first a → IsEnd x second b → first ≡ second
ending_one law last x a b Over Over same t u ea eb = refl
ending_one law last x a b Large Large same t u ea eb = refl
ending_one law last x (On l) (On m) Over Large same t u ea eb = absurd (none-some eb.next (next_one law last x l m None (Some eb.next) same t u ea eb.gives))
ending_one law last x (On l) (On m) Large Over same t u ea eb = absurd (none-some ea.next (sym (next_one law last x l m (Some ea.next) None same t u ea.gives eb)))
ending_one law last x (On l) (Full m) Over Large same t u ea eb = absurd same
ending_one law last x (On l) (Full m) Large Over same t u ea eb = absurd same
ending_one law last x (Full l) (On m) Over Large same t u ea eb = absurd same
ending_one law last x (Full l) (On m) Large Over same t u ea eb = absurd same
ending_one law last x (Full l) (Full m) Over Large same t u ea eb = absurd ea
ending_one law last x (Full l) (Full m) Large Over same t u ea eb = absurd eb

-- What is written

lines_one : (law : ℕ → ℤ → ℤ) → ToldLast → (s : Setting) (a b : List Happened) → SameEvents a b → Told law s a → Told law s b → loop_lines s a ≡ loop_lines s b
lines_one law last s [] [] same t u = refl
lines_one law last s [] (k ∷ b) same t u = absurd same
lines_one law last s (h ∷ a) [] same t u = absurd same
lines_one law last s (h ∷ a) (k ∷ b) same t u =
    let alike : Alike s (world_after s (h ∷ a)) (world_after s (k ∷ b)) = alike_after law last s (h ∷ a) (k ∷ b) same t.0 u.0 t.1 u.1 in
    let steps : steps_at s a h ≡ steps_at s b k = steps_after law last s a b h k same t.0 u.0 t.1 u.1 in
    let lines : steps_lines s a h ≡ steps_lines s b k =
    ap (λ (w : WorldAt). flat_map (step_lines s w) (steps_at s a h)) (sym alike.is) ∙ ap (flat_map (step_lines s (world_after s (k ∷ b)))) steps in
    ap₂ (λ (earlier newest : List (List ℕ)). earlier ++ newest)
    (lines_one law last s a b same.1 (told_before law s h a t) (told_before law s k b u))
    (ap₂ (λ (e : Event) (more : List (List ℕ)). marked_line s.cfg e ∷ more) same.0 lines)

same_place : (a b : Going) → SameGoing a b → SameAt (place a) (place b)
same_place (On l) (On m) h = h
same_place (Full l) (Full m) h = h
same_place (On l) (Full m) h = absurd h
same_place (Full l) (On m) h = absurd h

loops_in : (x : Plan) (calls : List LinkCall) (ending : Ending) (last : Going) → EndsAs x calls ending last → Loops x calls last × IsEnd x ending last
loops_in x calls Over last e = e
loops_in x calls Large last e = e

pub one_loop : ToldLast → OneLoop
one_loop last law x calls a b first other ea eb answered also =
    let p = loops_in x calls first a ea in
    let q = loops_in x calls other b eb in
    let t : ToldAt law x a = (p.0.said, answered) in
    let u : ToldAt law x b = (q.0.said, also) in
    let later : q.0.later ≡ p.0.later = tails _ _ _ _ (sym q.0.told ∙ p.0.told) in
    let start : SameAt (loop_start x) (loop_start x) = record { events = tt; drawn = refl; forged_same = refl } in
    let same : SameGoing a b =
    goes_one law last x (On (loop_start x)) (On (loop_start x)) p.0.rounds q.0.rounds p.0.later a b first other start p.0.goes
    (subst (λ (calls : List LinkCall). Goes x (On (loop_start x)) q.0.rounds calls b) later q.0.goes) p.1 q.1 t u in
    let at : SameAt (place a) (place b) = same_place a b same in
    let alike : Alike x.setting (world_at x (place a)) (world_at x (place b)) = alike_at law last x (place a) (place b) at t u in (
      ending_one law last x a b first other same t u p.1 q.1,
      record {
        text = ap concat (lines_one law last x.setting (events_at (place a)) (events_at (place b)) at.events t u);
        forged = at.forged_same;
        counters = λ n. ap (λ (w : WorldAt). (w.node n).counters) alike.is;
      },
    )
