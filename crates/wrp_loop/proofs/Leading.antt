-- A loop from its start, round by round.
use Rattle.std.proofs.Common.{◌≡◌, ◌∙◌, inl, inr, refl, ap, sym, subst, ℕ, ℤ, ◌*◌, ◌≤◌, true, false, Option, None, Some, option_map, List, [], ◌∷◌, ◌++◌, append_assoc, append-nil, Result, Ok, Err, arith}
use Rattle.wrp_base.proofs.Lists.{all_append}
use Rattle.wrp_network.specs.declared.configuration.NetCfg.{NetCfg}
use Rattle.wrp_caldb.specs.Database.{Database}
use Rattle.wrp_config.specs.Accepted.{IsAccepted}
use Rattle.wrp_io.specs.declared.link.LinkCall.{LinkCall}
use Rattle.wrp_io.specs.declared.link.LinkCall.TheVariants.{Start}
use Rattle.wrp_course.specs.EventAt.{link_count}
use Rattle.wrp_course.specs.Run.{AllSaid}
use Rattle.wrp_course.specs.Runs.{IsNetwork}
use Rattle.wrp_course.specs.Setting.{Setting}
use Rattle.wrp_course.specs.WorldAt.{WorldAt, new_world}
use Rattle.wrp_sim.specs.Sim.{FitsSim}
use Rattle.wrp_world.specs.StandsFor.{IsValid, StandsFor, WorldOf}
use Rattle.wrp_loop.specs.declared.network.LoopCourse.{LoopCourse}
use Rattle.wrp_loop.specs.declared.network.LoopedNetwork.{LoopedNetwork}
use Rattle.wrp_loop.specs.declared.outcome.LoopFault.{LoopFault}
use Rattle.wrp_loop.specs.declared.outcome.LoopFault.TheVariants as faults
use Rattle.wrp_loop.specs.declared.outcome.Rounded.{Rounded}
use Rattle.wrp_loop.specs.declared.outcome.Rounded.TheVariants as rounded
use Rattle.wrp_loop.specs.Calls.{Grew, IsFrameCall}
use Rattle.wrp_loop.specs.LoopEnds.{EndsLarge, EndsOver}
use Rattle.wrp_loop.specs.LoopRun.{Full, Goes, Going, IsRound, LoopAt, Loops, On, Plan, Round, events_at, loop_start, place}
use Rattle.wrp_loop.specs.LoopStands.{ArrivalFails, FitsCourse, Grows, RoundCame, StandsAt}
use Rattle.wrp_loop.specs.LoopText.{loop_text}
use Rattle.wrp_loop.specs.SoFar.{Begins, CameSoFar, EndedSo, FailedSo, IsReady, Leads, RoundLacks, RoundStays, Rounds, StoppedSo}
use Rattle.wrp_loop.proofs.Listing.{none_arrived}

-- Calls, one after the other

pub adds_more : (before mid now : Option (List LinkCall)) (first others : List LinkCall) → Grew before mid first → Grew mid now others → Grew before now (first ++ others)
adds_more None mid now first others a b = b ∙ ap (option_map (λ told. told ++ others)) a
adds_more (Some told) mid now first others a b = b ∙ (ap (option_map (λ more. more ++ others)) a ∙ ap Some (append_assoc told first others))

-- Rounds, one after the other

goes_more : (x : Plan) (now : Going) (rounds : List Round) (calls : List LinkCall) (l : LoopAt) (r : Round) (made : List LinkCall) (next : Going) → Goes x now rounds calls (On l) → IsRound x l r made next → Goes x now (rounds ++ r ∷ []) (calls ++ made) next
goes_more x now [] calls l r made next g is =
    subst (λ (k : Going). Goes x k (r ∷ []) (calls ++ made) next) g.1 (next, made, [], is, ap (λ (c : List LinkCall). c ++ made) g.0 ∙ sym (append-nil made), (refl, refl))
goes_more x (Full k) (q ∷ rounds) calls l r made next g is = absurd g
goes_more x (On k) (q ∷ rounds) calls l r made next g is =
    (g.0, g.1, g.2 ++ made, g.3, ap (λ (c : List LinkCall). c ++ made) g.4 ∙ append_assoc g.1 g.2 made, goes_more x g.0 rounds g.2 l r made next g.5 is)

loops_more : (x : Plan) (calls : List LinkCall) (l : LoopAt) (r : Round) (made : List LinkCall) (next : Going) → Loops x calls (On l) → IsRound x l r made next → AllSaid (events_at (place next)) → Loops x (calls ++ made) next
loops_more x calls l r made next h is said = record {
  rounds = h.rounds ++ r ∷ [];
  later = h.later ++ made;
  told = ap (λ (c : List LinkCall). c ++ made) h.told;
  goes = goes_more x (On (loop_start x)) h.rounds h.later l r made next h.goes is;
  said = said;
}

-- its text grows by the lines of what came
text_more : (x : Plan) (l now : LoopAt) (written waits text : List ℕ) → written ++ waits ≡ loop_text x.setting (events_at l) → Grows x l now waits text → written ++ text ≡ loop_text x.setting (events_at now)
text_more x l now written waits text is grows =
    ap (λ (t : List ℕ). written ++ t) grows.text ∙ (sym (append_assoc written waits grows.added) ∙ (ap (λ (t : List ℕ). t ++ grows.added) is ∙ sym grows.lines))

-- What a round leads to

came_on : {F : Type 0} (post : F → ℤ → ℤ → Type 0) (x : Plan) (old new : LoopedNetwork F) (course next : LoopCourse) (before mid told : Option (List LinkCall)) (written waits text : List ℕ) (h : CameSoFar post x old course before mid (written ++ waits)) →
    RoundCame post x new next h.at true mid told waits text → CameSoFar post x new next before told (written ++ text)
came_on post x old new course next before mid told written waits text h r = record {
  at = r.now;
  stands = r.at;
  calls = h.calls ++ r.calls;
  adds = adds_more before mid told h.calls r.calls h.adds r.adds;
  frames = all_append IsFrameCall h.calls r.calls h.frames r.frames;
  loops = loops_more x h.calls h.at r.round r.calls (On r.now) h.loops r.is r.at.0.said;
  is = text_more x h.at r.now written waits text h.is r.grows;
}

came_full : {F : Type 0} (post : F → ℤ → ℤ → Type 0) (x : Plan) (old new : LoopedNetwork F) (course next : LoopCourse) (before mid told : Option (List LinkCall)) (written waits text : List ℕ) (h : CameSoFar post x old course before mid (written ++ waits)) →
    RoundCame post x new next h.at false mid told waits text → EndedSo post EndsLarge x new next before told (written ++ text)
came_full post x old new course next before mid told written waits text h r = record {
  last = Full r.now;
  calls = h.calls ++ r.calls;
  adds = adds_more before mid told h.calls r.calls h.adds r.adds;
  frames = all_append IsFrameCall h.calls r.calls h.frames r.frames;
  ends = (loops_more x h.calls h.at r.round r.calls (Full r.now) h.loops r.is r.at.0.said, tt);
  is = text_more x h.at r.now written waits text h.is r.grows;
  stands = r.at.0.stands;
  count = r.at.0.count;
  forged = r.at.0.forged;
}

-- if the loop stays where it is
stays_at : {F : Type 0} (post : F → ℤ → ℤ → Type 0) (Ends : Plan → List LinkCall → Going → Type 0) (x : Plan) (old new : LoopedNetwork F) (course next : LoopCourse) (before mid told : Option (List LinkCall)) (written waits text : List ℕ) (h : CameSoFar post x old course before mid (written ++ waits)) →
    RoundStays post x new next h.at mid told waits text → Ends x h.calls (On h.at) → EndedSo post Ends x new next before told (written ++ text)
stays_at post Ends x old new course next before mid told written waits text h r ends = record {
  last = On h.at;
  calls = h.calls;
  adds = subst (λ (t : Option (List LinkCall)). Grew before t h.calls) (sym r.calls) h.adds;
  frames = h.frames;
  ends = ends;
  is = ap (λ (t : List ℕ). written ++ t) r.text ∙ h.is;
  stands = r.stands;
  count = r.count;
  forged = r.forged;
}

fails_so : {F : Type 0} (post : F → ℤ → ℤ → Type 0) (x : Plan) (old : LoopedNetwork F) (course : LoopCourse) (before mid told : Option (List LinkCall)) (text : List ℕ) (h : CameSoFar post x old course before mid text) → ArrivalFails x h.at mid told → FailedSo x before told text
fails_so post x old course before mid told text h r = record {
  calls = h.calls ++ r.calls;
  adds = adds_more before mid told h.calls r.calls h.adds r.adds;
  frames = all_append IsFrameCall h.calls r.calls h.frames r.frames;
  failed = inr (
    h.at,
    record {
      before = h.calls;
      cut = r.calls;
      all = refl;
      loops = h.loops;
      number = r.number;
      way = r.way;
      octets = r.octets;
      arrives = r.arrives;
      fails = r.cut;
    },
    h.is,
  );
}

lacks_so : {F : Type 0} (post : F → ℤ → ℤ → Type 0) (x : Plan) (old : LoopedNetwork F) (course : LoopCourse) (before mid told : Option (List LinkCall)) (text : List ℕ) (h : CameSoFar post x old course before mid text) → RoundLacks x h.at mid told → StoppedSo x before told text
lacks_so post x old course before mid told text h r = record {
  calls = h.calls ++ r.calls;
  adds = adds_more before mid told h.calls r.calls h.adds r.adds;
  frames = all_append IsFrameCall h.calls r.calls h.frames r.frames;
  stopped = inr (h.at, record { before = h.calls; made = r.calls; all = refl; loops = h.loops; which = r.which }, h.is);
}

pub leads : {F : Type 0} (post : F → ℤ → ℤ → Type 0) (x : Plan) (old new : LoopedNetwork F) (course next : LoopCourse) (before mid told : Option (List LinkCall)) (written waits text : List ℕ) (r : Result Rounded LoopFault) (h : CameSoFar post x old course before mid (written ++ waits)) →
    Rounds post x new next h.at mid told waits text r → Leads post x new next before told written waits text r
leads post x old new course next before mid told written waits text (Ok rounded.GoesOn) h r = came_on post x old new course next before mid told written waits text h r
leads post x old new course next before mid told written waits text (Ok rounded.Over) h r =
    (r.0.text, stays_at post EndsOver x old new course next before mid told written waits text h r.0 (h.loops, r.1))
leads post x old new course next before mid told written waits text (Ok rounded.TooLarge) h (inl r) =
    stays_at post EndsLarge x old new course next before mid told written waits text h r.0 (h.loops, r.1)
leads post x old new course next before mid told written waits text (Ok rounded.TooLarge) h (inr r) = came_full post x old new course next before mid told written waits text h r
leads post x old new course next before mid told written waits text (Err faults.Failed) h r = (r.0, fails_so post x old course before mid told (written ++ waits) h r.1)
leads post x old new course next before mid told written waits text (Err faults.Memory) h r = lacks_so post x old course before mid told (written ++ waits) h r

-- The start

-- the network is one that its reader accepts
pub network_of : {F : Type 0} (pre : F → ℤ → Type 0) (post : F → ℤ → ℤ → Type 0) (s : Setting) (w : WorldAt) (world : WorldOf F) → IsValid pre post world → StandsFor post s w world → IsNetwork s
network_of pre post s w world valid stands = record {
  accepted = subst (λ (d : Database). IsAccepted s.cfg d) stands.plant.db (subst (λ (c : NetCfg). IsAccepted c world.plant.net.db) stands.plant.cfg valid.plant.accepted);
  set = stands.set;
}

pub begins_at : {F : Type 0} (pre : F → ℤ → Type 0) (post : F → ℤ → ℤ → Type 0) (x : Plan) (network : LoopedNetwork F) (course : LoopCourse) → IsValid pre post network.world → Begins post x network course → StandsAt post x network course (loop_start x)
begins_at pre post x network course valid b = (
  record {
    net = network_of pre post x.setting (new_world x.setting) network.world valid b.stands;
    fits = b.fits;
    stands = b.stands;
    driven = refl;
    said = tt;
    count = b.events;
    forged = b.forged;
    index = none_arrived x.setting course.index.came.items course.index.handed.items b.came b.handed;
  },
  record { is = b.sim; scene = b.scene },
)

-- a round can come
pub ready_first : {F : Type 0} (pre : F → ℤ → Type 0) (post : F → ℤ → ℤ → Type 0) (network : LoopedNetwork F) (course : LoopCourse) → IsValid pre post network.world → FitsSim network.world.plant.net.cfg course.sim → network.world.plant.events ≡ 0 →
    (x : Plan) × Begins post x network course → IsReady pre post network course
ready_first pre post network course valid sim none h =
    let b : Begins post h.0 network course = h.1 in
    let events = b.events in
    let forged = b.forged in
    record {
      valid = valid;
      fits = record { sim = sim; count = none ∙ sym events; below = omega (arith, events) };
      few = omega (arith, events, forged);
      loop = (h.0, loop_start h.0, begins_at pre post h.0 network course valid b);
    }

-- it was started
pub started : {F : Type 0} (pre : F → ℤ → Type 0) (post : F → ℤ → ℤ → Type 0) (x : Plan) (network : LoopedNetwork F) (course : LoopCourse) (ends : ℕ) (cfg : NetCfg) (before told : Option (List LinkCall)) → IsValid pre post network.world → ends ≡ 2 * link_count cfg → cfg ≡ network.world.plant.net.cfg →
    Grew before told (Start ends ∷ []) → Begins post x network course → CameSoFar post x network course before told []
started pre post x network course ends cfg before told valid count same adds b = record {
  at = loop_start x;
  stands = begins_at pre post x network course valid b;
  calls = Start ends ∷ [];
  adds = adds;
  frames = (tt, tt);
  loops = record {
    rounds = [];
    later = [];
    told = ap (λ (n : ℕ). Start n ∷ []) (count ∙ ap (λ (c : NetCfg). 2 * link_count c) (same ∙ b.stands.plant.cfg));
    goes = (refl, refl);
    said = tt;
  };
  is = refl;
}

no_calls : (before told : Option (List LinkCall)) → told ≡ before → Grew before told []
no_calls None told e = e
no_calls (Some calls) told e = e ∙ ap Some (sym (append-nil calls))

-- or it was not
pub not_started : (x : Plan) (before told : Option (List LinkCall)) → told ≡ before → FailedSo x before told []
not_started x before told e = record { calls = []; adds = no_calls before told e; frames = tt; failed = inl (refl, refl) }

pub not_begun : (x : Plan) (before told : Option (List LinkCall)) → told ≡ before → StoppedSo x before told []
not_begun x before told e = record { calls = []; adds = no_calls before told e; frames = tt; stopped = inl (refl, refl) }

-- A round can come after one that came

pub ready_more : {F : Type 0} (pre : F → ℤ → Type 0) (post : F → ℤ → ℤ → Type 0) (old new : LoopedNetwork F) (course next : LoopCourse) (mid told : Option (List LinkCall)) (old_text text : List ℕ) (r : Result Rounded LoopFault) → r ≡ Ok rounded.GoesOn → IsReady pre post old course →
    IsValid pre post new.world → (r ≡ Ok rounded.GoesOn → FitsCourse new next) → (r ≡ Ok rounded.GoesOn → next.forged ≤ 16 * next.events) → ((x : Plan) (l : LoopAt) → StandsAt post x old course l → Rounds post x new next l mid told old_text text r) → IsReady pre post new next
ready_more pre post old new course next mid told old_text text r is ready valid fits few rounds =
    let x = ready.loop.0 in
    let l = ready.loop.1 in
    let came : RoundCame post x new next l true mid told old_text text = subst (Rounds post x new next l mid told old_text text) is (rounds x l ready.loop.2) in
    record { valid = valid; fits = fits is; few = few is; loop = (x, came.now, came.at) }
