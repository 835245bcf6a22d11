-- The next event of the simulator: it can come, and it is counted unless it hands a frame over.
use Rattle.std.proofs.Common.{◌≡◌, ◌∙◌, inl, refl, ap, sym, subst, ℕ, ℤ, ◌+◌, ◌*◌, ◌-◌, ◌^◌, ◌<◌, ◌≤◌, Bool, true, false, Option, None, Some, List, [], append-nil, Result, Ok, Err, arith}
use Rattle.wrp_io.specs.declared.link.LinkCall.{LinkCall}
use Rattle.wrp_course.specs.declared.event.Event.{Event}
use Rattle.wrp_course.specs.declared.event.Event.TheVariants.{Pass, Tick, Sample, Depart, Arrive, Deliver, Noise, Down, Up, Cut, Join}
use Rattle.wrp_course.specs.Setting.{Setting}
use Rattle.wrp_course.specs.WorldAt.{WorldAt}
use Rattle.wrp_sim.specs.declared.sim.state.State.{State}
use Rattle.wrp_sim.specs.HandsOver.{HandsOver}
use Rattle.wrp_sim.specs.Keeps.{EventsAreAccepted}
use Rattle.wrp_sim.specs.Rules.{Next, rest_of}
use Rattle.wrp_scene.specs.Scenario.{SceneAt}
use Rattle.wrp_sim.specs.Sim.{FollowsRules, Gave, GaveNext, SimIs, put}
use Rattle.wrp_sim.specs.SimAt.{SimAt}
use Rattle.wrp_sim.specs.SimRun.{Gives, GivesEvent}
use Rattle.wrp_sim.proofs.Turns.{no_rule, put_none, put_one}
use Rattle.wrp_world.specs.StandsFor.{WorldOf}
use Rattle.wrp_world.specs.Step.{MayCome}
use Rattle.wrp_loop.specs.declared.network.LoopCourse.{LoopCourse}
use Rattle.wrp_loop.specs.declared.network.LoopedNetwork.{LoopedNetwork}
use Rattle.wrp_loop.specs.declared.outcome.LoopFault.{LoopFault}
use Rattle.wrp_loop.specs.declared.outcome.LoopFault.TheVariants as faults
use Rattle.wrp_loop.specs.Calls.{Grew}
use Rattle.wrp_loop.specs.Index.{IsIndex}
use Rattle.wrp_loop.specs.LoopEnds.{NextIsTooMany}
use Rattle.wrp_loop.specs.LoopRun.{Dropped, GivesNext, IsCounted, IsPlain, LoopAt, Plain, Plan, events_at, without_frame, world_at}
use Rattle.wrp_scene.specs.EventLimit.{event_limit}
use Rattle.wrp_loop.specs.LoopStands.{CamePlain, CanHappen, FitsCourse, HasNext, IsArrivalOf, IsInLoop, IsNext, RoundCame, StandsAt}
use Rattle.wrp_loop.specs.SoFar.{Arrivals, MovesOn, RoundLacks, RoundStays, Rounds, rounds_left}
use Rattle.wrp_loop.proofs.Growing.{grows_none}
use Rattle.wrp_loop.proofs.Standing.{NextIs, can_happen, next_is, next_may_come}

-- It can come

pub next_may : {F : Type 0} (post : F → ℤ → ℤ → Type 0) → EventsAreAccepted → (network : LoopedNetwork F) (course : LoopCourse) (e : Event) → IsNext post network course e → FitsCourse network course → MayCome network.world e
next_may post sim network course e h fits =
    let it : NextIs h.0 h.1 e = next_is post sim h.0 network course h.1 e h.2 in
    next_may_come post h.0 network course h.1 e h.2.has fits it.event

pub next_can : {F : Type 0} (post : F → ℤ → ℤ → Type 0) → EventsAreAccepted → (network : LoopedNetwork F) (course : LoopCourse) (e : Event) → IsNext post network course e → CanHappen post network.world e
next_can post sim network course e h =
    let it : NextIs h.0 h.1 e = next_is post sim h.0 network course h.1 e h.2 in
    can_happen post h.0 network course h.1 e h.2.has (λ says said. it.accepted says)

-- What the simulator gave

record GivenBy (scene : SceneAt) (s : Setting) (w : WorldAt) (at : SimAt) (e : Event) (sim : State) : Type 0 where
  pub new : SimAt
  pub gives : GivesEvent scene s w at e new
  pub is : SimIs new sim

given_by : (scene : SceneAt) (s : Setting) (w : WorldAt) (at stays : SimAt) (e : Event) (sim : State) (given : Option Next) → Gives scene s w at given → Gave stays given (Some e) sim → GivenBy scene s w at e sim
given_by scene s w at stays e sim None gives gave = absurd gave
given_by scene s w at stays e sim (Some next) gives gave = record {
  new = next.at;
  gives = subst (λ (k : Event). Gives scene s w at (Some (record { event = k; at = next.at }))) (sym gave.0) gives;
  is = gave.1;
}

pub one_put : {F : Type 0} (post : F → ℤ → ℤ → Type 0) (world : WorldOf F) (old new : State) (b : Bool) (e : Event) → b ≡ true → FollowsRules post world old new (put b e) → FollowsRules post world old new (Some e)
one_put post world old new b e is h = subst (FollowsRules post world old new) (put_one b e is) h

pub none_put : {F : Type 0} (post : F → ℤ → ℤ → Type 0) (world : WorldOf F) (old new : State) (b : Bool) (e : Event) → b ≡ false → FollowsRules post world old new (put b e) → FollowsRules post world old new None
none_put post world old new b e is h = subst (FollowsRules post world old new) (put_none b e is) h

-- it comes next
pub next_has : {F : Type 0} (post : F → ℤ → ℤ → Type 0) (x : Plan) (network : LoopedNetwork F) (course next : LoopCourse) (l : LoopAt) (e : Event) → FollowsRules post network.world course.sim next.sim (Some e) → next.sim.scene ≡ course.sim.scene →
    next.events ≡ course.events → next.forged ≡ course.forged → next.index ≡ course.index → StandsAt post x network course l → HasNext post x network next l e
next_has post x network course next l e follows scene events forged index at =
    let g : GaveNext x.setting (world_at x l) l.at course.sim next.sim (Some e) = follows x.setting (world_at x l) l.at at.0.stands at.1.is in
    let it : GivenBy course.sim.scene x.setting (world_at x l) l.at e next.sim = given_by course.sim.scene x.setting (world_at x l) l.at (rest_of x.setting (world_at x l) l.at) e next.sim g.next g.gives g.gave in
    record {
      has = record {
        net = at.0.net;
        fits = at.0.fits;
        stands = at.0.stands;
        driven = at.0.driven;
        said = at.0.said;
        count = events ∙ at.0.count;
        forged = forged ∙ at.0.forged;
        index = subst (λ k. IsIndex x.setting (events_at l) k.came.items k.handed.items) (sym index) at.0.index;
      };
      new = it.new;
      gives = subst (λ (k : SceneAt). GivesEvent k x.setting (world_at x l) l.at e it.new) at.1.scene it.gives;
      sim = record { is = it.is; scene = scene ∙ at.1.scene };
    }

pub is_next : {F : Type 0} (post : F → ℤ → ℤ → Type 0) (network : LoopedNetwork F) (course next : LoopCourse) (e : Event) → FollowsRules post network.world course.sim next.sim (Some e) → next.sim.scene ≡ course.sim.scene →
    next.events ≡ course.events → next.forged ≡ course.forged → next.index ≡ course.index → IsInLoop post network course → IsNext post network next e
is_next post network course next e follows scene events forged index h =
    (h.0, h.1, next_has post h.0 network course next h.1 e follows scene events forged index h.2)

-- no event comes any more
pub none_comes : {F : Type 0} (post : F → ℤ → ℤ → Type 0) (x : Plan) (network : LoopedNetwork F) (course next : LoopCourse) (l : LoopAt) (told : Option (List LinkCall)) (text : List ℕ) → FollowsRules post network.world course.sim next.sim None →
    next.events ≡ course.events → next.forged ≡ course.forged → StandsAt post x network course l →
    RoundStays post x network next l told told text text × Gives x.scene x.setting (world_at x l) l.at None
none_comes post x network course next l told text follows events forged at =
    let g : GaveNext x.setting (world_at x l) l.at course.sim next.sim None = follows x.setting (world_at x l) l.at at.0.stands at.1.is in (
      record { stands = at.0.stands; count = events ∙ at.0.count; forged = forged ∙ at.0.forged; calls = refl; text = refl },
      subst (λ (k : SceneAt). Gives k x.setting (world_at x l) l.at None) at.1.scene
          (subst (Gives course.sim.scene x.setting (world_at x l) l.at) (no_rule (rest_of x.setting (world_at x l) l.at) g.next next.sim g.gave) g.gives),
    )

-- Kinds of events

pub plain_counted : (e : Event) → IsPlain e → IsCounted e
plain_counted (Arrive j raw) plain = tt
plain_counted (Deliver j) plain = plain
plain_counted (Pass dt drifts fibres) plain = tt
plain_counted (Tick n) plain = tt
plain_counted (Sample n base bits) plain = tt
plain_counted (Depart n p stamp) plain = tt
plain_counted (Noise n p octets raw) plain = tt
plain_counted (Down n) plain = tt
plain_counted (Up n off swaps) plain = tt
plain_counted (Cut k) plain = tt
plain_counted (Join k ms sm) plain = tt

pub arrival_counted : (i : ℕ) (e : Event) → IsArrivalOf i e → IsCounted e
arrival_counted i e h = subst IsCounted (sym h.1) tt

pub plain_moves : (e : Event) (before now : ℕ) → IsPlain e → before < now → MovesOn e before now
plain_moves (Arrive j raw) before now plain less = less
plain_moves (Deliver j) before now plain less = absurd plain
plain_moves (Pass dt drifts fibres) before now plain less = less
plain_moves (Tick n) before now plain less = less
plain_moves (Sample n base bits) before now plain less = less
plain_moves (Depart n p stamp) before now plain less = less
plain_moves (Noise n p octets raw) before now plain less = less
plain_moves (Down n) before now plain less = less
plain_moves (Up n off swaps) before now plain less = less
plain_moves (Cut k) before now plain less = less
plain_moves (Join k ms sm) before now plain less = less

pub arrival_moves : (i : ℕ) (e : Event) (before now : ℕ) → IsArrivalOf i e → before < now → MovesOn e before now
arrival_moves i e before now h less = subst (λ (k : Event). MovesOn k before now) (sym h.1) less

pub handing_moves : (i : ℕ) (e : Event) (now : ℕ) → e ≡ Deliver i → MovesOn e now now
handing_moves i e now same = subst (λ (k : Event). MovesOn k now now) (sym same) refl

-- How many rounds are left

less_left : (before now times others : ℕ) → before < now → now < event_limit → times ≤ 2 → 3 * (2 ^ 32 - now) + times < 3 * (2 ^ 32 - before) + others
less_left before now times others less below few = omega (arith, less, below, few)

once_less : (before now events times others : ℕ) → before ≡ events → now ≡ events → others ≡ times + 1 → 3 * (2 ^ 32 - now) + times < 3 * (2 ^ 32 - before) + others
once_less before now events times others same also once = omega (arith, same, also, once)

fewer : (e : Event) (old mid : State) (before now times : ℕ) → HandsOver old mid e → MovesOn e before now → times ≡ mid.arrived.times → times ≤ 2 → now < event_limit → 3 * (2 ^ 32 - now) + times < 3 * (2 ^ 32 - before) + old.arrived.times
fewer (Deliver j) old mid before now times hands moves same few below = once_less before now before times old.arrived.times refl moves (hands.once ∙ ap (λ n. n + 1) (sym same))
fewer (Arrive j raw) old mid before now times hands moves same few below = less_left before now times old.arrived.times moves below few
fewer (Pass dt drifts fibres) old mid before now times hands moves same few below = less_left before now times old.arrived.times moves below few
fewer (Tick n) old mid before now times hands moves same few below = less_left before now times old.arrived.times moves below few
fewer (Sample n base bits) old mid before now times hands moves same few below = less_left before now times old.arrived.times moves below few
fewer (Depart n p stamp) old mid before now times hands moves same few below = less_left before now times old.arrived.times moves below few
fewer (Noise n p octets raw) old mid before now times hands moves same few below = less_left before now times old.arrived.times moves below few
fewer (Down n) old mid before now times hands moves same few below = less_left before now times old.arrived.times moves below few
fewer (Up n off swaps) old mid before now times hands moves same few below = less_left before now times old.arrived.times moves below few
fewer (Cut k) old mid before now times hands moves same few below = less_left before now times old.arrived.times moves below few
fewer (Join k ms sm) old mid before now times hands moves same few below = less_left before now times old.arrived.times moves below few

pub fewer_left : {F : Type 0} (network : LoopedNetwork F) (e : Event) (old mid new : LoopCourse) → HandsOver old.sim mid.sim e → mid.events ≡ old.events → new.sim ≡ mid.sim → MovesOn e mid.events new.events → FitsCourse network new → rounds_left new < rounds_left old
fewer_left network e old mid new hands same sim moves fits =
    fewer e old.sim mid.sim old.events new.events new.sim.arrived.times hands (subst (λ n. MovesOn e n new.events) same moves) (ap (λ (k : State). k.arrived.times) sim) fits.sim.arrived fits.below

-- Rounds

pub adds_none : (told : Option (List LinkCall)) → Grew told told []
adds_none None = refl
adds_none (Some calls) = ap Some (sym (append-nil calls))

-- an event with too great a number
pub too_many : {F : Type 0} (post : F → ℤ → ℤ → Type 0) (x : Plan) (network : LoopedNetwork F) (course : LoopCourse) (l : LoopAt) (e : Event) (told : Option (List LinkCall)) (text : List ℕ) → course.events + 1 ≡ event_limit → IsCounted e → HasNext post x network course l e →
    RoundStays post x network course l told told text text × NextIsTooMany x l
too_many post x network course l e told text full counted n = (
  record { stands = n.has.stands; count = n.has.count; forged = n.has.forged; calls = refl; text = refl },
  record {
    next = record { event = e; at = n.new };
    gives = n.gives;
    counted = counted;
    full = let own = n.has.count in omega (arith, own, full);
  },
)

-- an event that is not an arrival and hands nothing over
pub plain_round : {F : Type 0} (post : F → ℤ → ℤ → Type 0) (x : Plan) (network : LoopedNetwork F) (course : LoopCourse) (l : LoopAt) (told : Option (List LinkCall)) (old new : List ℕ) → CamePlain post x network course l old new →
    RoundCame post x network course l true told told old new
plain_round post x network course l told old new came = record {
  now = came.now;
  at = came.at;
  round = Plain;
  calls = [];
  is = (refl, came.comes);
  adds = adds_none told;
  frames = tt;
  grows = came.grows;
}

pub plain_lacks : (x : Plan) (l : LoopAt) (told : Option (List LinkCall)) → RoundLacks x l told told
plain_lacks x l told = record { calls = []; adds = adds_none told; frames = tt; which = inl refl }

-- an event that hands a frame over is left out
pub left_out : {F : Type 0} (post : F → ℤ → ℤ → Type 0) (x : Plan) (network : LoopedNetwork F) (course : LoopCourse) (l : LoopAt) (e : Event) (i : ℕ) (told : Option (List LinkCall)) (text : List ℕ) → e ≡ Deliver i → HasNext post x network course l e →
    RoundCame post x network course l true told told text text
left_out post x network course l e i told text same n =
    let gives : GivesNext x l (Deliver i) n.new = subst (λ (k : Event). GivesNext x l k n.new) same n.gives in
    record {
      now = without_frame i n.new l;
      at = (
        record {
          net = n.has.net;
          fits = n.has.fits;
          stands = n.has.stands;
          driven = (l.at, n.has.driven, gives);
          said = n.has.said;
          count = n.has.count;
          forged = n.has.forged;
          index = n.has.index;
        },
        n.sim,
      );
      round = Dropped;
      calls = [];
      is = (refl, record { number = i; new = n.new; gives = gives; leads = refl });
      adds = adds_none told;
      frames = tt;
      grows = grows_none x l (without_frame i n.new l) text refl;
    }

-- a fault of an arrival is a fault of its round
pub fault_same : {F : Type 0} (post : F → ℤ → ℤ → Type 0) (x : Plan) (network : LoopedNetwork F) (course : LoopCourse) (l : LoopAt) (before told : Option (List LinkCall)) (old new : List ℕ) (fault : LoopFault) → Arrivals post x network course l before told old new (Err fault) →
    Rounds post x network course l before told old new (Err fault)
fault_same post x network course l before told old new faults.Failed h = h
fault_same post x network course l before told old new faults.Memory h = h

pub one_fault : {T : Type 0} (r : Result T LoopFault) (a b : LoopFault) → r ≡ Err a → r ≡ Err b → a ≡ b
one_fault (Ok value) a b e f = cc
one_fault (Err fault) a b e f = cc
