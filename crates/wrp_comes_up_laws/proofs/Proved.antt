-- The laws: the events of a world are the changes of one link by itself, of which the law of one link holds.
use Rattle.std.proofs.Common.{◌≡◌, inl, ◌*◌, Bool, ◌∙◌, refl, ap, ap₂, sym, subst, subst₂, ℕ, ℤ, pos, ◌+ℤ◌, ◌<ℤ◌, true, false, List, [], ◌∷◌, ◌++◌, Some}
use Rattle.std.proofs.lemmas.Bool.{false≢true}
use Rattle.wrp_base.specs.declared.link.LinkState.TheVariants.{LinkOn}
use Rattle.wrp_base.specs.declared.link.Module.{Module}
use Rattle.wrp_base.specs.declared.link.Role.{Role}
use Rattle.wrp_base.specs.declared.link.Role.TheVariants.{Master, Slave}
use Rattle.wrp_network.specs.declared.network.LinkCfg.{LinkCfg}
use Rattle.wrp_data.specs.declared.datasets.PortDs.{PortDs}
use Rattle.wrp_handshake_laws.specs.Ends.{AllMayCome, CanBe, Change, BothPorts, Hears, Lights, MayCome, Passes, Starts, changed, ends_after, new_ends}
use Rattle.wrp_handshake_laws.proofs.Changes.{EndsKeep, all_keep, start_keeps}
use Rattle.wrp_link.specs.declared.interface.LinkSet.{LinkSet}
use Rattle.wrp_link.specs.Rows.{row_of}
use Rattle.wrp_link.proofs.Runs.{by_row_set}
use Rattle.wrp_link_up_laws.specs.Laws as alone
use Rattle.wrp_link_up_laws.specs.Laws.{LinkRun, ComesUp as LinkComesUp, ComesUpInTurn as LinkComesUpInTurn, dark, last, lit, new}
use Rattle.wrp_link_up_laws.specs.Pace.{AllInTurn, Outlasts, OutlastsInTurn, Pace, time_to_up, time_in_turn}
use Rattle.wrp_link_up_laws.proofs.Changes.{Standing}
use Rattle.wrp_link_up_laws.proofs.Ports.{BothHold}
use Rattle.wrp_link_up_laws.proofs.Proved.{lights_stand}
use Rattle.wrp_node.specs.declared.interface.NodeSet.{NodeSet}
use Rattle.wrp_node.specs.Set.{link_set_of}
use Rattle.wrp_course.specs.LinkEnds.{ends_at}
use Rattle.wrp_course.specs.Run.{Happened, world_after}
use Rattle.wrp_course.specs.Runs.{IsNetwork, IsRun}
use Rattle.wrp_course.specs.Setting.{Setting, end_of, link_of}
use Rattle.wrp_course.specs.WorldAt.{WorldAt}
use Rattle.wrp_course.proofs.LinkPorts.{ds_at}
use Rattle.wrp_course.proofs.RunPorts.{link_set}
use Rattle.wrp_comes_up_laws.specs.Laws.{ComesUp, ComesUpInTurn, IsLit, IsPast, IsUp, counts_of, pace_of}
use Rattle.wrp_comes_up_laws.specs.Served.{Throughout, InTurn, IsServed, Beginning, LongestWaits, ends_of, events_of, world_of}
use Rattle.wrp_comes_up_laws.proofs.Asked.{Form, any_order_holds, each_in_turn_holds, given_of, lit_form, lit_rests, quiet_rest}
use Rattle.wrp_comes_up_laws.proofs.Events.{run_before}
use Rattle.wrp_comes_up_laws.proofs.Grounds.{Laws}
use Rattle.wrp_comes_up_laws.proofs.Heard.{ds_is}
use Rattle.wrp_comes_up_laws.proofs.Lit.{AllFree, Came, IsFree, came}
use Rattle.wrp_comes_up_laws.proofs.Mapped.{AllOffered, Mapped, mapped, put_past}
use Rattle.wrp_comes_up_laws.proofs.Seen.{dmin_of, life_of}
use Rattle.wrp_bound_laws.proofs.Runs.PortRoles.{set_at}

-- Lists of changes

run_split : (ends : BothPorts) (since before : List Change) → ends_after ends (since ++ before) ≡ ends_after (ends_after ends before) since
run_split ends [] before = refl
run_split ends (change ∷ since) before = ap (λ (e : BothPorts). changed e change) (run_split ends since before)

pub last_is :
    (ends came now : BothPorts) (since before : List Change) → ends_after ends before ≡ came → ends_after came since ≡ now →
    ends_after ends (since ++ before) ≡ now
last_is ends came now since before h k = run_split ends since before ∙ ap (λ (e : BothPorts). ends_after e since) h ∙ k

pub come_both :
    (life dmin : ℕ) (ends : BothPorts) (since before : List Change) → AllMayCome life dmin (ends_after ends before) since → AllMayCome life dmin ends before →
    AllMayCome life dmin ends (since ++ before)
come_both life dmin ends [] before h k = k
come_both life dmin ends (change ∷ since) before h k =
    (subst (λ (e : BothPorts). MayCome life dmin e change) (sym (run_split ends since before)) h.0, come_both life dmin ends since before h.1 k)

free_may : (life dmin : ℕ) (ends : BothPorts) (change : Change) → IsFree change → MayCome life dmin ends change
free_may life dmin ends (Starts role) f = tt
free_may life dmin ends (Lights of_master of_slave) f = tt
free_may life dmin ends (Passes dt) f = tt
free_may life dmin ends (Hears role input at) f = absurd f

all_free : (life dmin : ℕ) (ends : BothPorts) (changes : List Change) → AllFree changes → AllMayCome life dmin ends changes
all_free life dmin ends [] f = tt
all_free life dmin ends (change ∷ older) f = (free_may life dmin (ends_after ends older) change f.0, all_free life dmin ends older f.1)

-- The counts of both ends

-- they stay
pub record SetsAre (ends : BothPorts) (of_master of_slave : LinkSet) : Type 0 where
  pub master : ends.master.link.set ≡ of_master
  pub slave : ends.slave.link.set ≡ of_slave

set_stays : (ends : BothPorts) (change : Change) (m s : LinkSet) → SetsAre ends m s → SetsAre (changed ends change) m s
set_stays ends (Passes dt) m s b = record { master = b.master; slave = b.slave }
set_stays ends (Hears Master input at) m s b = record { master = by_row_set ends.master.link (row_of ends.master.link input) ∙ b.master; slave = b.slave }
set_stays ends (Hears Slave input at) m s b = record { master = b.master; slave = by_row_set ends.slave.link (row_of ends.slave.link input) ∙ b.slave }
set_stays ends (Starts Master) m s b = record { master = b.master; slave = b.slave }
set_stays ends (Starts Slave) m s b = record { master = b.master; slave = b.slave }
set_stays ends (Lights of_master of_slave) m s b = record { master = b.master; slave = b.slave }

pub sets_stay : (ends : BothPorts) (changes : List Change) (m s : LinkSet) → SetsAre ends m s → SetsAre (ends_after ends changes) m s
sets_stay ends [] m s b = b
sets_stay ends (change ∷ older) m s b = set_stays (ends_after ends older) change m s (sets_stay ends older m s b)

wr_at : (s : Setting) (r : Role) (link : LinkCfg) → (ds_at s.cfg r link).wr ≡ link.wr
wr_at s Master link = refl
wr_at s Slave link = refl

-- and are the counts of the network
pub set_is : Laws → (s : Setting) → IsNetwork s → (k : ℕ) (r : Role) (link : LinkCfg) → link_of s k ≡ Some link → link.wr ≡ true →
    (set_at s r link).link ≡ link_set_of s.cfg
set_is laws s net k r link is wr =
    ap₂ (λ (x : LinkSet) b. record x { wr = b }) (ap (λ (x : NodeSet). x.link) (net.set (end_of r link).node))
    (ap (λ (d : PortDs). d.wr) (ds_is laws.ends s net k r link is) ∙ wr_at s r link ∙ wr)

-- The run of one link

-- a link by itself that comes as the link of the world does, and what is known of it
record Alone (waits : LongestWaits) (l : Beginning) (since : List Happened) : Type 0 where
  run : LinkRun
  master : run.of_master ≡ counts_of l
  slave : run.of_slave ≡ counts_of l
  served : alone.IsServed (life_of l) (dmin_of l) (pace_of l waits) run
  turns : Throughout (InTurn l) since → AllInTurn (lit run) run.since
  began : (dark run).time ≡ (world_of l []).time
  ends : last run ≡ ends_of l since

pub older_run : (s : Setting) (newer older : List Happened) → IsRun s (newer ++ older) → IsRun s older
older_run s [] older run = run
older_run s (h ∷ newer) older run = older_run s newer older (run_before s h (newer ++ older) run)

oldest : (P : List Happened → Type 0) (since : List Happened) → Throughout P since → P []
oldest P [] all = all
oldest P (h ∷ since) all = oldest P since all.1

alone_run :
    Laws → (waits : LongestWaits) (l : Beginning) (turns : Bool) (slow : ℕ) (since : List Happened) → BothHold (given_of l waits (lit_form l turns slow)) →
    (turns ≡ true → Throughout (InTurn l) since) →
    IsRun l.s (events_of l since) → IsLit l → Throughout (IsServed waits l) since → Alone waits l since
alone_run laws waits l turns slow since holds turn run was served =
    let form : Form = lit_form l turns slow in
    let life : ℕ = life_of l in
    let dmin : ℕ = dmin_of l in
    let w : WorldAt = world_after l.s l.before in
    let lit_run : IsRun l.s (l.event ∷ l.before) = older_run l.s since (l.event ∷ l.before) run in
    let can : CanBe life dmin (ends_at l.s w l.k l.link) = laws.can_be l.s l.before l.k l.link (run_before l.s l.event l.before lit_run) was.there in
    let c : Came l w = came laws l lit_run was.there was.dark (oldest (IsServed waits l) since served).carried in
    let a : Module = (was.listed Master).0 in
    let b : Module = (was.listed Slave).0 in
    let start : BothPorts = new_ends can.of_master can.of_slave can.start in
    let before : List Change = c.older ++ can.changes in
    let dim : BothPorts = ends_after start before in
    let first : BothPorts = changed dim (Lights (Some a) (Some b)) in
    let dark_is : dim ≡ ends_after (ends_at l.s w l.k l.link) c.older = run_split start c.older can.changes ∙ ap (λ e. ends_after e c.older) (sym can.is) in
    let lit_is : first ≡ ends_of l [] =
    ap (λ e. changed e (Lights (Some a) (Some b))) dark_is
    ∙ ap₂ (λ x y. changed (ends_after (ends_at l.s w l.k l.link) c.older) (Lights x y)) (sym (was.listed Master).1) (sym (was.listed Slave).1)
    ∙ sym c.is in
    let sets : SetsAre (ends_at l.s w l.k l.link) can.of_master can.of_slave =
    subst (λ e. SetsAre e can.of_master can.of_slave) (sym can.is)
    (sets_stay start can.changes can.of_master can.of_slave (record { master = refl; slave = refl })) in
    let master : can.of_master ≡ counts_of l =
    sym sets.master ∙ link_set l.s w l.link.upper l.link.upper_port ∙ set_is laws l.s run.network l.k Master l.link was.there was.wr in
    let slave : can.of_slave ≡ counts_of l =
    sym sets.slave ∙ link_set l.s w l.link.lower l.link.lower_port ∙ set_is laws l.s run.network l.k Slave l.link was.there was.wr in
    let come : AllMayCome life dmin start before =
    come_both life dmin start c.older can.changes (all_free life dmin (ends_after start can.changes) c.older c.free) can.come in
    let keep : EndsKeep life dmin start = start_keeps life dmin can.start can.of_master can.of_slave can.master_quiet can.slave_quiet in
    let dim_sets : SetsAre dim can.of_master can.of_slave = sets_stay start before can.of_master can.of_slave (record { master = refl; slave = refl }) in
    let stands : Standing (given_of l waits form) first [] dim.time first =
    lights_stand (given_of l waits form) dim a b (λ role. refl) holds (all_keep life dmin start before come keep)
    (record { master = dim_sets.master ∙ master; slave = dim_sets.slave ∙ slave }) in
    let offered : AllOffered l form.still [] = λ x put offer. inl (put_past laws l.s (events_of l []) l.k Master x lit_run put) in
    let m : Mapped waits l form first since =
    mapped laws waits l form first since was.there was.wr holds (all_keep life dmin start (Lights (Some a) (Some b) ∷ before) (tt, come) keep) lit_is
    (subst (λ t. Standing (given_of l waits form) first [] t first) (ap (λ (e : BothPorts). e.time) lit_is) stands) offered turn run served in
    record {
      run = record {
        of_master = can.of_master;
        of_slave = can.of_slave;
        at_master = a;
        at_slave = b;
        start = can.start;
        before = before;
        since = m.changes;
      };
      master = master;
      slave = slave;
      served = record {
        master_wr = ap (λ (x : LinkSet). x.wr) master;
        slave_wr = ap (λ (x : LinkSet). x.wr) slave;
        master_quiet = can.master_quiet;
        slave_quiet = can.slave_quiet;
        come = come_both life dmin start m.changes (Lights (Some a) (Some b) ∷ before) m.come (tt, come);
        good = m.good;
      };
      turns = m.turns;
      began = ap (λ (e : BothPorts). e.time) lit_is;
      ends = last_is start first (ends_of l since) m.changes (Lights (Some a) (Some b) ∷ before) refl m.ends;
    }

-- The laws

-- past a time, for the link by itself too
past_too :
    (waits : LongestWaits) (l : Beginning) (since : List Happened) (it : Alone waits l since) (time : LinkSet → LinkSet → ℕ) →
    IsPast l since (time (counts_of l) (counts_of l)) →
    alone.IsPast it.run (time it.run.of_master it.run.of_slave)
past_too waits l since it time past =
    subst₂ (λ x y. ((dark it.run).time +ℤ pos (time x y)) <ℤ (last it.run).time) (sym it.master) (sym it.slave)
    (subst₂ (λ (t u : ℤ). (t +ℤ pos (time (counts_of l) (counts_of l))) <ℤ u) (sym it.began) (sym (ap (λ (e : BothPorts). e.time) it.ends)) past)

up_too : (waits : LongestWaits) (l : Beginning) (since : List Happened) (it : Alone waits l since) → alone.IsUp (last it.run) → IsUp l since
up_too waits l since it up = record {
  master = subst (λ (e : BothPorts). e.master.link.state ≡ LinkOn) it.ends up.master;
  slave = subst (λ (e : BothPorts). e.slave.link.state ≡ LinkOn) it.ends up.slave;
}

pub link_comes_up : Laws → LinkComesUp → ComesUp
link_comes_up laws law l since waits run was served outlasts past =
    let pace : Pace = pace_of l waits in
    let holds : BothHold (given_of l waits (lit_form l false ((counts_of l).wait * pace.dmax))) =
    any_order_holds l waits (world_of l []).time (quiet_rest l) (counts_of l).quiet (lit_rests l run.network.accepted.inequalities.quiet_time) outlasts in
    let it : Alone waits l since = alone_run laws waits l false ((counts_of l).wait * pace.dmax) since holds (λ e. absurd (false≢true e)) run was served in
    up_too waits l since it
    (law (life_of l) (dmin_of l) pace it.run it.served
    (record {
      master = subst₂ (λ x y. Outlasts (dmin_of l) pace x y) (sym it.master) (sym it.slave) outlasts;
      slave = subst₂ (λ x y. Outlasts (dmin_of l) pace x y) (sym it.slave) (sym it.master) outlasts;
    })
    (past_too waits l since it (time_to_up pace) past))

pub link_comes_up_in_turn : Laws → LinkComesUpInTurn → ComesUpInTurn
link_comes_up_in_turn laws law l since waits run was served turn outlasts past =
    let pace : Pace = pace_of l waits in
    let holds : BothHold (given_of l waits (lit_form l true 0)) =
    each_in_turn_holds l waits (world_of l []).time (quiet_rest l) (counts_of l).quiet (lit_rests l run.network.accepted.inequalities.quiet_time) outlasts in
    let it : Alone waits l since = alone_run laws waits l true 0 since holds (λ e. turn) run was served in
    up_too waits l since it
    (law (life_of l) (dmin_of l) pace it.run it.served
    (record {
      master = subst (λ x. OutlastsInTurn (dmin_of l) pace x) (sym it.master) outlasts;
      slave = subst (λ x. OutlastsInTurn (dmin_of l) pace x) (sym it.slave) outlasts;
      in_turn = it.turns turn;
    })
    (past_too waits l since it (time_in_turn pace) past))
