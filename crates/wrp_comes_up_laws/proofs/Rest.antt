-- The laws from rest: the events since are the changes of one link by itself, of which the law of one link from rest holds.
use Rattle.std.proofs.Common.{◌≡◌, ◌⊎◌, ◌∙◌, refl, ap, sym, subst, subst₂, ℕ, ◌*◌, ◌≤◌, ℤ, pos, ◌+ℤ◌, ◌<ℤ◌, ◌≤ℤ◌, Bool, true, false, List, []}
use Rattle.std.proofs.lemmas.Bool.{false≢true}
use Rattle.std.proofs.Math.Nat.{le-max_left, le-max_right}
use Rattle.wrp_base.specs.declared.link.LinkState.TheVariants.{LinkOn}
use Rattle.wrp_base.specs.declared.link.Role.{Role}
use Rattle.wrp_base.specs.declared.link.Role.TheVariants.{Master, Slave}
use Rattle.wrp_handshake_laws.specs.Ends.{BothPorts, CanBe, ends_after, new_ends, end_of as port_of}
use Rattle.wrp_handshake_laws.proofs.Changes.{EndsKeep, all_keep, start_keeps}
use Rattle.wrp_link.specs.declared.interface.LinkSet.{LinkSet}
use Rattle.wrp_link_up_laws.specs.Laws.{IsUp as LinkIsUp}
use Rattle.wrp_link_up_laws.specs.Pace.{AllInTurn, Outlasts, OutlastsInTurn, Pace, rest_of}
use Rattle.wrp_link_up_laws.specs.Rest as alone
use Rattle.wrp_link_up_laws.specs.Rest.{RestRun, last_ends, resting_ends, time_from_rest, time_from_rest_in_turn}
use Rattle.wrp_link_up_laws.proofs.Changes.{Standing, coming}
use Rattle.wrp_link_up_laws.proofs.Ports.{BothHold, Given}
use Rattle.wrp_link_up_laws.proofs.Rest.{all_free, rest_up, some_rests}
use Rattle.wrp_link_up_laws.proofs.Stages.{resting}
use Rattle.wrp_course.specs.Run.{Happened}
use Rattle.wrp_course.specs.Runs.{IsRun}
use Rattle.wrp_course.specs.WorldAt.{WorldAt}
use Rattle.wrp_course.proofs.RunPorts.{link_set}
use Rattle.wrp_comes_up_laws.specs.Laws.{IsUp, counts_of, pace_of}
use Rattle.wrp_comes_up_laws.specs.Rest.{ComesUpFromRest, ComesUpFromRestInTurn, IsAtRest, IsPastRest, Rests, longer_of}
use Rattle.wrp_comes_up_laws.specs.Served.{Beginning, InTurn, IsServed, LongestWaits, Throughout, ends_of, events_of, world_of}
use Rattle.wrp_comes_up_laws.proofs.Asked.{Form, RestsHold, any_order_holds, each_in_turn_holds, given_of}
use Rattle.wrp_comes_up_laws.proofs.Grounds.{Laws}
use Rattle.wrp_comes_up_laws.proofs.Mapped.{Mapped, mapped}
use Rattle.wrp_comes_up_laws.proofs.Proved.{SetsAre, come_both, last_is, older_run, set_is, sets_stay}
use Rattle.wrp_comes_up_laws.proofs.Seen.{dmin_of, life_of}

-- the form of both laws
abbrev rest_form : Rests → Bool → ℕ → Form
rest_form rests turns slow =
    record { turns = turns; slow = slow; still = rests.still; rest = rests.rest; longer = longer_of rests }

longest : (rests : Rests) (role : Role) → rests.rest role ≤ longer_of rests
longest rests Master = le-max_left (rests.rest Master) (rests.rest Slave)
longest rests Slave = le-max_right (rests.rest Master) (rests.rest Slave)

rests_hold : (l : Beginning) (rests : Rests) (since : List Happened) → IsRun l.s (events_of l since) → IsAtRest l rests →
    RestsHold l rests.rest (longer_of rests)
rests_hold l rests since run at = record {
  quiet = run.network.accepted.inequalities.quiet_time;
  outlive = λ role. (at.resting role).outlives;
  longest = longest rests;
}

-- a link by itself that rests as the link of the world does, and what is known of it
record Alone (waits : LongestWaits) (l : Beginning) (rests : Rests) (since : List Happened) : Type 0 where
  run : RestRun
  master : run.of_master ≡ counts_of l
  slave : run.of_slave ≡ counts_of l
  served : alone.IsServedFromRest (life_of l) (dmin_of l) (pace_of l waits) run
  turns : Throughout (InTurn l) since → AllInTurn (resting_ends run) run.since
  still : run.still ≡ rests.still
  longer : alone.longer_rest run ≡ longer_of rests
  ends : last_ends run ≡ ends_of l since

alone_run :
    Laws → (waits : LongestWaits) (l : Beginning) (rests : Rests) (turns : Bool) (slow : ℕ) (since : List Happened) →
    BothHold (given_of l waits (rest_form rests turns slow)) → (turns ≡ true → Throughout (InTurn l) since) →
    IsRun l.s (events_of l since) → IsAtRest l rests → Throughout (IsServed waits l) since → Alone waits l rests since
alone_run laws waits l rests turns slow since holds turn run at served =
    let form : Form = rest_form rests turns slow in
    let g : Given = given_of l waits form in
    let life : ℕ = life_of l in
    let dmin : ℕ = dmin_of l in
    let w : WorldAt = world_of l [] in
    let first_run : IsRun l.s (events_of l []) = older_run l.s since (events_of l []) run in
    let can : CanBe life dmin (ends_of l []) = laws.can_be l.s (events_of l []) l.k l.link first_run at.there in
    let start : BothPorts = new_ends can.of_master can.of_slave can.start in
    let first : BothPorts = ends_after start can.changes in
    let back : first ≡ ends_of l [] = sym can.is in
    let new : EndsKeep life dmin start = start_keeps life dmin can.start can.of_master can.of_slave can.master_quiet can.slave_quiet in
    let keep : EndsKeep life dmin first = all_keep life dmin start can.changes can.come new in
    let sets : SetsAre first can.of_master can.of_slave = sets_stay start can.changes can.of_master can.of_slave (record { master = refl; slave = refl }) in
    let here : SetsAre (ends_of l []) can.of_master can.of_slave = subst (λ e. SetsAre e can.of_master can.of_slave) back sets in
    let master : can.of_master ≡ counts_of l =
    sym here.master ∙ link_set l.s w l.link.upper l.link.upper_port ∙ set_is laws l.s run.network l.k Master l.link at.there at.wr in
    let slave : can.of_slave ≡ counts_of l =
    sym here.slave ∙ link_set l.s w l.link.lower l.link.lower_port ∙ set_is laws l.s run.network l.k Slave l.link at.there at.wr in
    let rest : (role : Role) → alone.IsResting life dmin (pace_of l waits).dmax rests.still (rests.rest role) (port_of first role) =
    λ role. subst (λ e. alone.IsResting life dmin (pace_of l waits).dmax rests.still (rests.rest role) (port_of e role)) (sym back) (at.resting role) in
    let past : rests.still ≤ℤ first.time = subst (λ (e : BothPorts). rests.still ≤ℤ e.time) (sym back) at.past in
    let yet : (1 ≤ rest_of first.master.link) ⊎ (1 ≤ rest_of first.slave.link) =
    subst (λ (e : BothPorts). (1 ≤ rest_of e.master.link) ⊎ (1 ≤ rest_of e.slave.link)) (sym back) at.yet in
    let stands : Standing g first [] rests.still first =
    coming first.time first.time
    (rest_up g first.time rests.still Master first.master (rest Master) keep.is_master (sets.master ∙ master)
    (λ _. all_free life dmin start can.changes can.come new refl)
    keep.master.ticked past (λ f i. (keep.master.frames f i).past))
    (rest_up g first.time rests.still Slave first.slave (rest Slave) keep.is_slave (sets.slave ∙ slave) (λ e. cc)
    keep.slave.ticked past (λ f i. (keep.slave.frames f i).past))
    (resting (rest Master).idle (rest Slave).idle (some_rests g first rests.still first.master.link first.slave.link yet)) in
    let m : Mapped waits l form first since = mapped laws waits l form first since at.there at.wr holds keep back stands at.offers turn run served in
    record {
      run = record {
        of_master = can.of_master;
        of_slave = can.of_slave;
        start = can.start;
        before = can.changes;
        since = m.changes;
        still = rests.still;
        rest = rests.rest;
      };
      master = master;
      slave = slave;
      served = record {
        master_wr = ap (λ (x : LinkSet). x.wr) master;
        slave_wr = ap (λ (x : LinkSet). x.wr) slave;
        master_quiet = can.master_quiet;
        slave_quiet = can.slave_quiet;
        come = come_both life dmin start m.changes can.changes m.come can.come;
        past = past;
        resting = rest;
        yet = yet;
        good = m.good;
      };
      turns = m.turns;
      still = refl;
      longer = refl {a = longer_of rests};
      ends = last_is start first (ends_of l since) m.changes can.changes refl m.ends;
    }

-- The laws

up_too : (waits : LongestWaits) (l : Beginning) (rests : Rests) (since : List Happened) (it : Alone waits l rests since) →
    LinkIsUp (last_ends it.run) → IsUp l since
up_too waits l rests since it up = record {
  master = subst (λ (e : BothPorts). e.master.link.state ≡ LinkOn) it.ends up.master;
  slave = subst (λ (e : BothPorts). e.slave.link.state ≡ LinkOn) it.ends up.slave;
}

past_too :
    (waits : LongestWaits) (l : Beginning) (rests : Rests) (since : List Happened) (it : Alone waits l rests since) (time : ℕ → LinkSet → LinkSet → ℕ) →
    IsPastRest l rests since (time (longer_of rests) (counts_of l) (counts_of l)) →
    alone.IsPastRest it.run (time (alone.longer_rest it.run) it.run.of_master it.run.of_slave)
past_too waits l rests since it time past =
    subst₂ (λ x y. (it.run.still +ℤ pos (time (alone.longer_rest it.run) x y)) <ℤ (last_ends it.run).time) (sym it.master) (sym it.slave)
    (subst (λ n. (it.run.still +ℤ pos (time n (counts_of l) (counts_of l))) <ℤ (last_ends it.run).time) (sym it.longer)
    (subst₂ (λ (t u : ℤ). (t +ℤ pos (time (longer_of rests) (counts_of l) (counts_of l))) <ℤ u) (sym it.still)
    (sym (ap (λ (e : BothPorts). e.time) it.ends)) past))

pub link_comes_up_from_rest : Laws → alone.ComesUpFromRest → ComesUpFromRest
link_comes_up_from_rest laws law l rests since waits run at served outlasts past =
    let pace : Pace = pace_of l waits in
    let holds : BothHold (given_of l waits (rest_form rests false ((counts_of l).wait * pace.dmax))) =
    any_order_holds l waits rests.still rests.rest (longer_of rests) (rests_hold l rests since run at) outlasts in
    let it : Alone waits l rests since =
    alone_run laws waits l rests false ((counts_of l).wait * pace.dmax) since holds (λ e. absurd (false≢true e)) run at served in
    up_too waits l rests since it
    (law (life_of l) (dmin_of l) pace it.run it.served
    (record {
      master = subst₂ (λ x y. Outlasts (dmin_of l) pace x y) (sym it.master) (sym it.slave) outlasts;
      slave = subst₂ (λ x y. Outlasts (dmin_of l) pace x y) (sym it.slave) (sym it.master) outlasts;
    })
    (past_too waits l rests since it (time_from_rest pace) past))

pub link_comes_up_from_rest_in_turn : Laws → alone.ComesUpFromRestInTurn → ComesUpFromRestInTurn
link_comes_up_from_rest_in_turn laws law l rests since waits run at served turn outlasts past =
    let pace : Pace = pace_of l waits in
    let holds : BothHold (given_of l waits (rest_form rests true 0)) =
    each_in_turn_holds l waits rests.still rests.rest (longer_of rests) (rests_hold l rests since run at) outlasts in
    let it : Alone waits l rests since = alone_run laws waits l rests true 0 since holds (λ e. turn) run at served in
    up_too waits l rests since it
    (law (life_of l) (dmin_of l) pace it.run it.served
    (record {
      master = subst (λ x. OutlastsInTurn (dmin_of l) pace x) (sym it.master) outlasts;
      slave = subst (λ x. OutlastsInTurn (dmin_of l) pace x) (sym it.slave) outlasts;
      in_turn = it.turns turn;
    })
    (past_too waits l rests since it (λ n x y. time_from_rest_in_turn pace n) past))
