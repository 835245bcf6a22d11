-- The rules of frames that depart, arrive and are handed over.
use Rattle.std.proofs.Common.{◌≡◌, inl, inr, ◌∙◌, refl, ap, sym, subst, ℕ, ◌-◌, ◌==◌, ◌≤◌, ◌<◌, ℤ, pos, ◌+ℤ◌, ◌-ℤ◌, ◌≤ℤ◌, nat_lt, unsigned_abs, Bool, true, false, if◌then◌else◌, List, [], ◌∷◌, ◌++◌, map, flat_map, Option, None, Some, IfSome, arith}
use Rattle.std.proofs.lemmas.Int.{ints}
use Rattle.std.specs.List.{AllByRecursion, find}
use Rattle.std.specs.Option.{option_and_then, option_map_or}
use Rattle.std.specs.Ordering.{int_eq}
use Rattle.std.proofs.lemmas.Bool.{and_parts, cases_Bool}
use Rattle.std.proofs.lemmas.Option.{none-some, same_Some}
use Rattle.wrp_base.specs.Clock.{step_of}
use Rattle.wrp_base.specs.declared.link.Role.{Role}
use Rattle.wrp_base.specs.declared.link.Role.TheVariants.{Master, Slave}
use Rattle.wrp_network.specs.declared.network.LinkCfg.{LinkCfg}
use Rattle.wrp_base.specs.declared.time.Raw.{Raw}
use Rattle.wrp_network.specs.Network.{End, node_count}
use Rattle.wrp_base.specs.Link.{other_of}
use Rattle.wrp_base.proofs.Booleans.{not_both}
use Rattle.wrp_base.proofs.Naturals.{eq_self, nat_le_self}
use Rattle.wrp_bounds.specs.Times.{frame_life, reach}
use Rattle.wrp_course.specs.EventAt.{IsRaw}
use Rattle.wrp_course.specs.declared.event.Event.TheVariants.{Depart, Arrive, Deliver}
use Rattle.wrp_course.specs.declared.place.Place.{Place}
use Rattle.wrp_course.specs.Checks.{AllHold, needs}
use Rattle.wrp_course.specs.Moved.{arrived, arriving, moved, waiting_at}
use Rattle.wrp_course.specs.Premises.{arrive_checks, deliver_by, deliver_checks, depart_checks, received, received_at}
use Rattle.wrp_stamp.specs.Merge.{transition_of}
use Rattle.wrp_course.specs.RunLaws.{HasTimes}
use Rattle.wrp_course.specs.Setting.{Setting, end_at, end_of, entry_at, from_on, nodes_of, of_node, place_of}
use Rattle.wrp_course.specs.Views.{IsNextArrival, oldest_of, waiting_of}
use Rattle.wrp_course.specs.WorldAt.{Arrival, FrameAt, Sending, WorldAt, has_carrier, is_on_fibre, reading}
use Rattle.wrp_course.proofs.RunNetwork.{LinkEnd, link_end}
use Rattle.wrp_sim.specs.Numbers.{drawn_stamp}
use Rattle.wrp_plant.specs.PutOut.{is_now}
use Rattle.wrp_sim.specs.Rules.{after_arrival, after_draw, arrives, arrives_by, comes, delivers, departs, departs_from, departs_now, first_entry, is_tellable, ports_of, raw_by, raw_of, raw_to, stamp_room, true_raw}
use Rattle.wrp_scene.specs.Scenario.{SceneAt}
use Rattle.wrp_sim.specs.SimAt.{SimAt}
use Rattle.wrp_sim.proofs.KeepsChecks.{both_hold, not_more, not_over, stands_holds}
use Rattle.wrp_sim.proofs.KeepsFibres.{Joined, joined_fits, transition_small}
use Rattle.wrp_sim.proofs.KeepsStamps.{StampFits, raw_holds, stamp_fits, tellable, told_least, raw_by as raw_in}
use Rattle.wrp_sim.proofs.KeepsGood.{GoodIf, IsCarried, Moment, carried, found, good, if_good, all_numbers, below_told, of_node_in, same_told, then_good}
use Rattle.wrp_sim.proofs.KeepsLit.{FibresLit}
use Rattle.wrp_sim.proofs.KeepsMoves.{FrameKept, LeavesYoung}
use Rattle.wrp_sim.proofs.KeepsState.{AllQuiet, HandsOver, IsHere, Keeps, step_hands}

-- Rule 4: departures

ports_all : (P : ℕ → Type 0) (n : ℕ) (ps : List ℕ) (rest : List (ℕ × ℕ)) → P n → AllByRecursion (λ (port : ℕ × ℕ). P port.0) rest → AllByRecursion (λ (port : ℕ × ℕ). P port.0) (map (λ p. (n, p)) ps ++ rest)
ports_all P n [] rest h k = k
ports_all P n (p ∷ ps) rest h k = (h, ports_all P n ps rest h k)

nodes_all : (P : ℕ → Type 0) (ns : List ℕ) → AllByRecursion P ns → AllByRecursion (λ (port : ℕ × ℕ). P port.0) (flat_map (λ n. map (λ p. (n, p)) (from_on 18 1)) ns)
nodes_all P [] h = tt
nodes_all P (n ∷ ns) h = ports_all P n (from_on 18 1) (flat_map (λ k. map (λ p. (k, p)) (from_on 18 1)) ns) h.0 (nodes_all P ns h.1)

abbrev IsOldest : ℤ → List Sending → Type 0
IsOldest now [] = ⊥
IsOldest now (oldest ∷ rest) = oldest.at ≡ now

oldest_now : (w : WorldAt) (queue : List Sending) → is_now w (oldest_of queue) ≡ true → IsOldest w.time queue
oldest_now w [] e = absurd (not_both true refl (sym e))
oldest_now w (oldest ∷ rest) e = same_told oldest.at w.time e

no_age : (now at : ℤ) (life : ℕ) → at ≡ now → (now -ℤ at) ≤ℤ pos life
no_age now at life e = omega (arith, ints, e)

not_empty : (x : Sending) (xs : List Sending) → (x ∷ xs) ≡ [] → ⊥
not_empty x xs e = cc

-- what waits is at a port of a link with its carrier
waits_lit : (scene : SceneAt) (s : Setting) (w : WorldAt) (place : Place) (oldest : Sending) (rest : List Sending) → Moment scene s w → oldest ∷ rest ≡ (w.end_at place.link place.role).waiting → has_carrier s w place.link ≡ true
waits_lit scene s w place oldest rest m e = elim (cases_Bool (has_carrier s w place.link)) [
  | inl lit ↦ lit
  | inr dark ↦ absurd (not_empty oldest rest (e ∙ m.lit.waits place.link place.role dark))
]

depart_holds : (scene : SceneAt) (s : Setting) (w : WorldAt) (n : ℕ) (stamp : ℤ) (place : Option Place) (queue : List Sending) → Moment scene s w → queue ≡ waiting_at w place → IsOldest w.time queue →
    unsigned_abs (stamp -ℤ reading w n) ≤ of_node (λ node. node.e_tx) s n → AllHold (depart_checks s w n stamp place queue)
depart_holds scene s w n stamp None [] m e now near = absurd now
depart_holds scene s w n stamp None (oldest ∷ rest) m e now near = absurd (not_empty oldest rest e)
depart_holds scene s w n stamp (Some place) [] m e now near = absurd now
depart_holds scene s w n stamp (Some place) (oldest ∷ rest) m e now near = (
  not_more (unsigned_abs (stamp -ℤ reading w n)) (of_node (λ node. node.e_tx) s n) near,
  (
    not_over (w.time -ℤ oldest.at) (pos (frame_life s.cfg)) (no_age w.time oldest.at (frame_life s.cfg) now),
    (stands_holds (has_carrier s w place.link) (waits_lit scene s w place oldest rest m e), tt),
  ),
)

leaves_young : (scene : SceneAt) (s : Setting) (w : WorldAt) (at : SimAt) (place : Option Place) (queue : List Sending) → Moment scene s w → Keeps scene s w at → queue ≡ waiting_at w place → IsOldest w.time queue → LeavesYoung s w place queue
leaves_young scene s w at None queue m h e now = tt
leaves_young scene s w at (Some place) [] m h e now = tt
leaves_young scene s w at (Some place) (oldest ∷ rest) m h e now =
    let it : IsCarried s w place.link = carried s w place.link (waits_lit scene s w place oldest rest m e) in
    let joined : Joined s w place.link it.link = joined_fits scene s m.net m.fits w h.modules h.fibres place.link it.link it.there it.joined in
    (now, joined.delays place.role)

pub departs_good : (scene : SceneAt) (s : Setting) (w : WorldAt) (at : SimAt) → Moment scene s w → Keeps scene s w at → GoodIf scene s w (departs s w at)
departs_good scene s w at m h =
    then_good scene s w (departs_from s w at) (find (departs_now s w) (ports_of s))
    (λ port e.
    let n : ℕ = port.0 in
    let it : (departs_now s w port ≡ true) × (n < node_count s.cfg) =
    found (λ (p : ℕ × ℕ). p.0 < node_count s.cfg) (departs_now s w) (ports_of s) port (nodes_all (λ k. k < node_count s.cfg) (nodes_of s) (all_numbers s (λ k. k < node_count s.cfg) (λ k b. b))) e in
    let both : (is_now w (waiting_of s w n port.1) ≡ true) × (is_tellable s (reading w n) ≡ true) = and_parts (is_now w (waiting_of s w n port.1)) (is_tellable s (reading w n)) it.0 in
    let e_tx : ℕ = of_node (λ node. node.e_tx) s n in
    let large : 1_000 ≤ e_tx = of_node_in (λ x. 1_000 ≤ x) (λ node. node.e_tx) s n it.1 (λ node i. (m.net.accepted.ranges.nodes n node i).e_tx.0) in
    let small : e_tx ≤ 1_000_000_000 = of_node_in (λ x. x ≤ 1_000_000_000) (λ node. node.e_tx) s n it.1 (λ node i. (m.net.accepted.ranges.nodes n node i).e_tx.1) in
    let stamp : ℤ = drawn_stamp (stamp_room s n) (reading w n) at.state in
    let fit : StampFits e_tx (reading w n) stamp = stamp_fits s e_tx at.state (reading w n) large small (tellable s (reading w n) both.1) in
    let queue : List Sending = waiting_at w (place_of s n port.1) in
    let now : IsOldest w.time queue = oldest_now w queue both.0 in
    let new : SimAt = record (after_draw at) { ticked = None } in
    good scene s w (Depart n port.1 stamp) at new h (it.1, fit.time) (λ says. depart_holds scene s w n stamp (place_of s n port.1) queue m refl now fit.near) (λ d. absurd d)
    (record {
      swaps = tt;
      fibres = tt;
      young = leaves_young scene s w at (place_of s n port.1) queue m h refl now;
      ticks = h.ticks;
      begun = nat_le_self at.begun;
      most = h.waits.most;
      turn = tt;
      faults = h.faults;
      ticked = λ j i. absurd (none-some j i);
      handed = λ says y t. step_hands s says y w (Depart n port.1 stamp) at new tt h.young refl refl (h.handed t);
    }))

-- Rule 5: a frame that is handed over

kept_of : (s : Setting) (w : WorldAt) (i : ℕ) (f : FrameAt) (o : Option FrameAt) → o ≡ Some f → FrameKept s w.departed i o → FrameKept s w.departed i (Some f)
kept_of s w i f o e h = subst (FrameKept s w.departed i) e h

came_due : (P : Arrival → Type 0) (o : Option Arrival) (a : Arrival) → o ≡ Some a → IfSome o P → P a
came_due P None a e h = absurd (none-some a e)
came_due P (Some b) a e h = subst P (same_Some b a e) h

age_small : (now sent at due : ℤ) (most life : ℕ) → sent ≡ at → due ≤ℤ (at +ℤ pos most) → now ≡ due → most ≤ life → (now -ℤ sent) ≤ℤ pos life
age_small now sent at due most life e h k l = omega (arith, ints, e, h, k, l)

-- the frame that is here is young enough
here_holds : (scene : SceneAt) (s : Setting) (w : WorldAt) (at : SimAt) (i : ℕ) → Moment scene s w → Keeps scene s w at → IsHere s w i → AllHold (deliver_checks s w i (w.frame i))
here_holds scene s w at i m h here =
    let f : FrameAt = here.frame in
    let kept : FrameKept s w.departed i (Some f) = kept_of s w i f (w.frame i) here.is (h.young i) in
    let times : HasTimes w f = m.times i f here.is in
    let due : here.arrival.at ≡ f.due =
    (came_due (λ a. (f.at ≤ℤ a.at) × (a.at ≤ℤ w.time) × (f.moment ≤ a.moment) × (a.moment ≤ w.count) × (a.at ≡ f.due)) f.arrival here.arrival here.arrived times.arrived).4 in
    let young : (w.time -ℤ f.sending.at) ≤ℤ pos (frame_life s.cfg) =
    age_small w.time f.sending.at f.at f.due (reach s.cfg) (frame_life s.cfg) kept.1 kept.2 (sym here.now ∙ due) m.net.accepted.inequalities.flight_time in
    subst (λ o. AllHold (deliver_checks s w i o)) (sym here.is)
    (subst (λ o. AllHold (deliver_by s w i f o)) (sym here.arrived)
    (not_over (w.time -ℤ f.sending.at) (pos (frame_life s.cfg)) young, (stands_holds (has_carrier s w f.link) here.lit, tt)))

pub delivers_good : (scene : SceneAt) (s : Setting) (w : WorldAt) (at : SimAt) → Moment scene s w → Keeps scene s w at → GoodIf scene s w (delivers at)
delivers_good scene s w at m h =
    let i : ℕ = at.arrived.frame in
    let less : SimAt = record at { arrived = record at.arrived { times = at.arrived.times - 1 } } in
    let new : SimAt = record less { ticked = None } in
    if_good scene s w (nat_lt 0 at.arrived.times) (comes (Deliver i) less) None
    (λ b.
    let some : 0 < at.arrived.times = below_told 0 at.arrived.times b in
    good scene s w (Deliver i) at new h tt (λ says. here_holds scene s w at i m h (h.handed some).here)
    (λ d. record {
      modules = h.modules;
      fibres = h.fibres;
      young = h.young;
      ticks = h.ticks;
      waits = h.waits;
      faults = h.faults;
      ticked = λ j e. absurd (none-some j e);
      handed = λ t. let it : HandsOver s w at = h.handed some in record { here = it.here; quiet = it.quiet };
    })
    (record {
      swaps = tt;
      fibres = tt;
      young = tt;
      ticks = h.ticks;
      begun = nat_le_self at.begun;
      most = h.waits.most;
      turn = tt;
      faults = h.faults;
      ticked = λ j e. absurd (none-some j e);
      handed = λ says y t. step_hands s says y w (Deliver i) at new tt h.young refl refl (h.handed some);
    }))
    (λ b. tt)

-- Rule 6: arrivals

by_role : (n : ℕ) (r : Role) (link : LinkCfg) → (link.upper < n) × (link.lower < n) → (end_of r link).node < n
by_role n Master link h = h.0
by_role n Slave link h = h.1

end_below : (scene : SceneAt) (s : Setting) (w : WorldAt) → Moment scene s w → (k : ℕ) (r : Role) (end : End) → end_at s k r ≡ Some end → end.node < node_count s.cfg
end_below scene s w m k r end is =
    let it : LinkEnd s k r end = link_end s k r end is in
    subst (λ (x : End). x.node < node_count s.cfg) it.end_is (by_role (node_count s.cfg) r it.link (m.net.accepted.tree.ends k it.link it.there))

abbrev FrameIsLit : Setting → WorldAt → Option FrameAt → Type 0
FrameIsLit s w None = Unit {0}
FrameIsLit s w (Some f) = is_on_fibre (Some f) ≡ true → has_carrier s w f.link ≡ true

no_distance : (a b : ℤ) → a ≡ b → unsigned_abs (a -ℤ b) ≤ 0
no_distance a b e = grind (arith, ints, e)

arrive_holds : (scene : SceneAt) (s : Setting) (w : WorldAt) (at : SimAt) (i : ℕ) (f : FrameAt) (end : End) → Moment scene s w → Keeps scene s w at → w.frame i ≡ Some f → is_on_fibre (w.frame i) ≡ true → f.due ≡ w.time →
    end_at s f.link (other_of f.by) ≡ Some end → is_tellable s (reading w end.node) ≡ true →
    AllHold (arrive_checks s w i (true_raw s (transition_of (first_entry s f.link (other_of f.by))) (reading w end.node)) (is_on_fibre (w.frame i)) (w.frame i))
arrive_holds scene s w at i f end m h is on due end_is told =
    let k : ℕ = f.link in
    let r : Role = other_of f.by in
    let raw : Raw = true_raw s (transition_of (first_entry s k r)) (reading w end.node) in
    let wide : step_of s.cfg.clock ≤ of_node (λ node. node.e_tag) s end.node =
    of_node_in (λ x. step_of s.cfg.clock ≤ x) (λ node. node.e_tag) s end.node (end_below scene s w m k r end end_is) (λ node e. (m.net.accepted.ranges.nodes end.node node e).e_tag.0) in
    let raws : AllHold (received_at s w (first_entry s k r) raw end.node) =
    raw_holds s (transition_of (first_entry s k r)) (of_node (λ node. node.e_tag) s end.node) (reading w end.node) (transition_small s m.net k r) wide (told_least s (reading w end.node) (tellable s (reading w end.node) told)) in
    let named : AllHold (received_at s w (entry_at s k r (w.end_at k r).name) raw end.node) =
    subst (λ x. AllHold (received_at s w (entry_at s k r x) raw end.node)) (sym (h.modules k r).name) raws in
    let here : AllHold (received s w f raw) =
    subst (λ o. AllHold (option_map_or (λ x. received_at s w (entry_at s k r (w.end_at k r).name) raw x.node) o [])) (sym end_is) named in
    let lit : has_carrier s w k ≡ true = subst (λ o. FrameIsLit s w o) is (m.lit.fibres i) (subst (λ o. is_on_fibre o ≡ true) is on) in
    subst (λ b. AllHold (arrive_checks s w i raw b (w.frame i))) (sym on)
    (subst (λ o. AllHold (arrive_checks s w i raw true o)) (sym is) (
      not_more (unsigned_abs (w.time -ℤ f.due)) 0 (no_distance w.time f.due (sym due)),
      both_hold (received s w f raw) (needs (has_carrier s w k) ∷ []) here (stands_holds (has_carrier s w k) lit, tt),
    ))

-- the frame that arrived is here
arrives_here : (s : Setting) (w : WorldAt) (i : ℕ) (raw : Raw) (f : FrameAt) (o : Option FrameAt) → o ≡ Some f → arrived s w i raw o i o ≡ Some (arriving s w i raw f i f)
arrives_here s w i raw f o e = ap (λ x. arrived s w i raw x i x) e

arriving_now : (s : Setting) (w : WorldAt) (i : ℕ) (raw : Raw) (f : FrameAt) (b : Bool) → b ≡ true → (more : Bool) (a : Arrival) → (if b then record f { arrival = Some a } else record f { gone = more }) ≡ record f { arrival = Some a }
arriving_now s w i raw f true e more a = refl
arriving_now s w i raw f false e more a = absurd (not_both true refl (sym e))

arrived_hands : (s : Setting) (w : WorldAt) (at new : SimAt) (i : ℕ) (raw : Raw) (f : FrameAt) → w.frame i ≡ Some f → has_carrier s w f.link ≡ true → new.arrived.frame ≡ i → new.faults ≡ at.faults → AllQuiet s w.time at.faults →
    HandsOver s (moved s w (Arrive i raw)) new
arrived_hands s w at new i raw f is lit frame faults quiet = record {
  here = subst (IsHere s (moved s w (Arrive i raw))) (sym frame) (record {
    frame = arriving s w i raw f i f;
    is = arrives_here s w i raw f (w.frame i) is;
    arrival = _;
    arrived = ap (λ (g : FrameAt). g.arrival) (arriving_now s w i raw f (i == i) (eq_self i) _ _);
    now = refl;
    lit = ap (has_carrier s w) (ap (λ (g : FrameAt). g.link) (arriving_now s w i raw f (i == i) (eq_self i) _ _)) ∙ lit;
  });
  quiet = subst (AllQuiet s w.time) (sym faults) quiet;
}

frame_lit : (s : Setting) (w : WorldAt) (i : ℕ) (f : FrameAt) → FibresLit s w → w.frame i ≡ Some f → is_on_fibre (w.frame i) ≡ true → has_carrier s w f.link ≡ true
frame_lit s w i f lit is on = subst (λ o. FrameIsLit s w o) is (lit i) (subst (λ o. is_on_fibre o ≡ true) is on)

-- a raw stamp that is given for a frame: the true one, at the end that it comes to
record IsTrueRaw (s : Setting) (w : WorldAt) (f : FrameAt) (raw : Raw) : Type 0 where
  end : End
  end_is : end_at s f.link (other_of f.by) ≡ Some end
  told : is_tellable s (reading w end.node) ≡ true
  is : true_raw s (transition_of (first_entry s f.link (other_of f.by))) (reading w end.node) ≡ raw

told_raw : (s : Setting) (w : WorldAt) (k : ℕ) (r : Role) (end : End) (raw : Raw) (b : Bool) → is_tellable s (reading w end.node) ≡ b →
    (if b then Some (true_raw s (transition_of (first_entry s k r)) (reading w end.node)) else None) ≡ Some raw →
    (is_tellable s (reading w end.node) ≡ true) × (true_raw s (transition_of (first_entry s k r)) (reading w end.node) ≡ raw)
told_raw s w k r end raw true t e = (t, same_Some (true_raw s (transition_of (first_entry s k r)) (reading w end.node)) raw e)
told_raw s w k r end raw false t e = absurd (none-some raw e)

raw_at_end : (s : Setting) (w : WorldAt) (f : FrameAt) (raw : Raw) (o : Option End) → end_at s f.link (other_of f.by) ≡ o → option_and_then (raw_by s w f.link (other_of f.by)) o ≡ Some raw → IsTrueRaw s w f raw
raw_at_end s w f raw None is e = absurd (none-some raw e)
raw_at_end s w f raw (Some end) is e =
    let both : (is_tellable s (reading w end.node) ≡ true) × (true_raw s (transition_of (first_entry s f.link (other_of f.by))) (reading w end.node) ≡ raw) =
    told_raw s w f.link (other_of f.by) end raw (is_tellable s (reading w end.node)) refl e in
    record { end = end; end_is = is; told = both.0; is = both.1 }

raw_is_true : (s : Setting) (w : WorldAt) (i : ℕ) (f : FrameAt) (raw : Raw) → w.frame i ≡ Some f → raw_of s w i ≡ Some raw → IsTrueRaw s w f raw
raw_is_true s w i f raw is e =
    raw_at_end s w f raw (end_at s f.link (other_of f.by)) refl (sym (ap (option_and_then (λ (g : FrameAt). raw_to s w g.link (other_of g.by))) is) ∙ e)

arrives_by_good : (scene : SceneAt) (s : Setting) (w : WorldAt) (at : SimAt) (i : ℕ) (f : FrameAt) → Moment scene s w → Keeps scene s w at → AllQuiet s w.time at.faults → w.frame i ≡ Some f → is_on_fibre (w.frame i) ≡ true → f.due ≡ w.time →
    GoodIf scene s w (arrives_by scene s w at i)
arrives_by_good scene s w at i f m h quiet is on due =
    then_good scene s w (λ raw. comes (Arrive i raw) (after_arrival scene i at)) (raw_of s w i)
    (λ raw e.
    let it : IsTrueRaw s w f raw = raw_is_true s w i f raw is e in
    let new : SimAt = record (after_arrival scene i at) { ticked = None } in
    good scene s w (Arrive i raw) at new h
    (subst IsRaw it.is (raw_in s (transition_of (first_entry s f.link (other_of f.by))) (reading w it.end.node) (tellable s (reading w it.end.node) it.told)))
    (λ says. subst (λ x. AllHold (arrive_checks s w i x (is_on_fibre (w.frame i)) (w.frame i))) it.is (arrive_holds scene s w at i f it.end m h is on due it.end_is it.told)) (λ d. absurd d)
    (record {
      swaps = tt;
      fibres = tt;
      young = tt;
      ticks = h.ticks;
      begun = nat_le_self at.begun;
      most = h.waits.most;
      turn = tt;
      faults = h.faults;
      ticked = λ j n. absurd (none-some j n);
      handed = λ says y t. arrived_hands s w at new i raw f is (frame_lit s w i f m.lit.fibres is on) refl refl quiet;
    }))

pub arrives_good : (scene : SceneAt) (s : Setting) (w : WorldAt) (due : Option (ℕ × ℤ)) (at : SimAt) → Moment scene s w → Keeps scene s w at → AllQuiet s w.time at.faults → IsNextArrival w due → GoodIf scene s w (arrives scene s w due at)
arrives_good scene s w None at m h quiet first = tt
arrives_good scene s w (Some next) at m h quiet first =
    if_good scene s w (int_eq next.1 w.time) (arrives_by scene s w at next.0) None
    (λ b. arrives_by_good scene s w at next.0 first.0 m h quiet first.1 first.2 (first.3 ∙ same_told next.1 w.time b))
    (λ b. tt)
