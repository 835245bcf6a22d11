-- The law from rest: both ends are in IDLE, and come up from there as from new carriers.
use Rattle.std.proofs.Common.{◌≡◌, ◌⊎◌, inl, inr, refl, sym, ap, ◌∙◌, subst, ℤ, ℕ, ◌+◌, ◌-◌, ◌*◌, ◌≤◌, max, pos, Bool, true, false, List, [], ◌∷◌, ◌++◌, ◌+ℤ◌, ◌<ℤ◌, ◌≤ℤ◌, arith}
use Rattle.std.proofs.Math.Nat.{le-max_left, le-max_right, max_comm, mul-le-mul_right}
use Rattle.wrp_base.specs.declared.link.LinkState.{LinkState}
use Rattle.wrp_base.specs.declared.link.LinkState.TheVariants.{Idle, Calibration, LinkOn}
use Rattle.wrp_base.specs.declared.link.Role.{Role}
use Rattle.wrp_base.specs.declared.link.Role.TheVariants.{Master, Slave}
use Rattle.wrp_link.specs.declared.interface.LinkSet.{LinkSet}
use Rattle.wrp_link.specs.LinkAt.{LinkAt, holdoff_of}
use Rattle.wrp_link.specs.Rows.{Row, Counts, Fails, CarrierComes, CarrierGoes, row_of}
use Rattle.wrp_link.specs.Table.{by_row, counted}
use Rattle.wrp_link.proofs.Fits.{Belongs}
use Rattle.wrp_link.proofs.Orders.{idle_belongs}
use Rattle.wrp_handshake_laws.specs.Ends.{Sending, Port, BothPorts, Change, Passes, Hears, Starts, Lights, IsAmong, AllMayCome, CanBe, changed, ends_after}
use Rattle.wrp_handshake_laws.proofs.Changes.{EndsKeep, all_keep, start_keeps}
use Rattle.wrp_handshake_laws.proofs.Proved as handshake
use Rattle.wrp_link_up_laws.specs.Laws.{IsUp}
use Rattle.wrp_link_up_laws.specs.Pace.{AllInTurn, Pace, patience, rest_of}
use Rattle.wrp_link_up_laws.specs.Rest.{BothInTurnFromRest, BothOutlastFromRest, ComesUpFromRest, ComesUpFromRestInTurn, IsPastRest, IsResting, IsServedFromRest, RestRun, first_ends, last_ends, longer_rest, resting_ends}
use Rattle.wrp_link_up_laws.proofs.Changes.{Standing, coming}
use Rattle.wrp_link_up_laws.proofs.Ports.{BothHold, Given, PortUp, not_timed_idle}
use Rattle.wrp_link_up_laws.proofs.Proved.{BothSet, all_in_turn, all_set, all_stand, in_all, lock_from, may_after, may_before, run_split, up_by, wait_from, waits_by}
use Rattle.wrp_link_up_laws.proofs.Stages.{BothWait, by_four, resting}
use Rattle.wrp_link_up_laws.proofs.Sums.{le_self}

-- A master has no holdoff

counted_free : (l : LinkAt) (s : LinkState) → l.holdoff ≡ 0 → (counted l s).holdoff ≡ 0
counted_free l Idle h = ap (λ n. n - 1) h
counted_free l LinkOn h = h
counted_free l _ h = h

free_row : (l : LinkAt) (row : Row) → l.role ≡ Master → l.holdoff ≡ 0 → (by_row l row).holdoff ≡ 0
free_row l Counts is h = counted_free l l.state h
free_row l Fails is h = ap (λ r. holdoff_of r l.set) is
free_row l (CarrierComes fitted) is h = refl
free_row l CarrierGoes is h = refl
free_row l _ is h = h

free_changed : (ends : BothPorts) (change : Change) → ends.master.link.role ≡ Master → ends.master.link.holdoff ≡ 0 →
    (changed ends change).master.link.holdoff ≡ 0
free_changed ends (Passes dt) is h = h
free_changed ends (Hears Master input at) is h = free_row ends.master.link (row_of ends.master.link input) is h
free_changed ends (Hears Slave input at) is h = h
free_changed ends (Starts Master) is h = h
free_changed ends (Starts Slave) is h = h
free_changed ends (Lights of_master of_slave) is h = refl

pub all_free :
    (life dmin : ℕ) (ends : BothPorts) (changes : List Change) → AllMayCome life dmin ends changes → EndsKeep life dmin ends → ends.master.link.holdoff ≡ 0 →
    (ends_after ends changes).master.link.holdoff ≡ 0
all_free life dmin ends [] come keep h = h
all_free life dmin ends (change ∷ older) come keep h =
    free_changed (ends_after ends older) change (all_keep life dmin ends older come.1 keep).is_master (all_free life dmin ends older come.1 keep h)

-- The ends at rest

abbrev sets_of : RestRun → Role → LinkSet
sets_of run Master = run.of_master
sets_of run Slave = run.of_slave

abbrev given_rest : (life dmin : ℕ) → Pace → RestRun → Bool → (Role → ℕ) → ℕ → Given
given_rest life dmin pace run turns slow slowest =
    record {
      life = life;
      dmin = dmin;
      pace = pace;
      set = sets_of run;
      in_turn = turns;
      slow = slow;
      slowest = slowest;
      rest = run.rest;
      quiet = longer_rest run;
    }

idle_not_calibration : (s : LinkState) → s ≡ Idle → s ≡ Calibration → ⊥
idle_not_calibration s i c = (let x : Idle ≡ Calibration = sym i ∙ c in cc)

idle_not_on : (s : LinkState) → s ≡ Idle → s ≡ LinkOn → ⊥
idle_not_on s i c = (let x : Idle ≡ LinkOn = sym i ∙ c in cc)

pub rest_up :
    (g : Given) (time still : ℤ) (role : Role) (p : Port) → IsResting g.life g.dmin g.pace.dmax still (g.rest role) p → p.link.role ≡ role →
    p.link.set ≡ g.set role →
    (role ≡ Master → p.link.holdoff ≡ 0) → p.ticked ≤ℤ time → still ≤ℤ time → ((f : Sending) → IsAmong f p.sent → f.1 ≤ℤ time) →
    PortUp g time still role p.link p.ticked p.sent time
rest_up g time still role p r is_role is_set free ticked past sents =
    record {
      has_carrier = r.lit;
      listed = r.listed;
      same_set = is_set;
      same_role = is_role;
      belongs = subst (λ (s : LinkState). Belongs role s) (sym r.idle) (idle_belongs role);
      free = free;
      past = le_self time;
      ticked = ticked;
      lit_past = past;
      calm = λ _. r.late;
      soon = λ _. r.soon;
      awake = λ out. absurd (out r.idle);
      timer = λ n is. absurd ((not_timed_idle (g.set role) p.link.state n is).0 r.idle);
      at_once = λ c. absurd (idle_not_calibration p.link.state r.idle c);
      on = λ c. absurd (idle_not_on p.link.state r.idle c);
      sents = λ f i. (sents f i, inl (r.silent f i));
    }

pub some_rests :
    (g : Given) (first : BothPorts) (still : ℤ) (ml sl : LinkAt) → (1 ≤ rest_of ml) ⊎ (1 ≤ rest_of sl) →
    (1 ≤ rest_of ml) ⊎ ((1 ≤ rest_of sl) ⊎ BothWait g first [] still ml sl)
some_rests g first still ml sl (inl a) = inl a
some_rests g first still ml sl (inr b) = inr (inl b)

rest_stands :
    (life dmin : ℕ) (pace : Pace) (run : RestRun) (turns : Bool) (slow : Role → ℕ) (slowest : ℕ) → IsServedFromRest life dmin pace run →
    EndsKeep life dmin (resting_ends run) →
    (resting_ends run).master.link.holdoff ≡ 0 → BothSet (given_rest life dmin pace run turns slow slowest) (resting_ends run) →
    Standing (given_rest life dmin pace run turns slow slowest) (resting_ends run) [] run.still (resting_ends run)
rest_stands life dmin pace run turns slow slowest served k free b =
    let g : Given = given_rest life dmin pace run turns slow slowest in
    let ends : BothPorts = resting_ends run in
    coming ends.time ends.time
    (rest_up g ends.time run.still Master ends.master (served.resting Master) k.is_master b.master (λ _. free) k.master.ticked served.past
    (λ f i. (k.master.frames f i).past))
    (rest_up g ends.time run.still Slave ends.slave (served.resting Slave) k.is_slave b.slave (λ e. cc) k.slave.ticked served.past
    (λ f i. (k.slave.frames f i).past))
    (resting (served.resting Master).idle (served.resting Slave).idle (some_rests g ends run.still ends.master.link ends.slave.link served.yet))

-- Both laws in one form

is_up :
    (life dmin : ℕ) (pace : Pace) (run : RestRun) (turns : Bool) (slow : Role → ℕ) (slowest : ℕ) →
    BothHold (given_rest life dmin pace run turns slow slowest) →
    IsServedFromRest life dmin pace run → (turns ≡ true → AllInTurn (resting_ends run) run.since) →
    IsPastRest run (by_four (given_rest life dmin pace run turns slow slowest) + pace.delay) → IsUp (last_ends run)
is_up life dmin pace run turns slow slowest h served turn late =
    let g : Given = given_rest life dmin pace run turns slow slowest in
    let start : BothPorts = first_ends run in
    let ends : BothPorts = resting_ends run in
    let come : AllMayCome life dmin start run.before = may_before life dmin start run.since run.before served.come in
    let new : EndsKeep life dmin start = start_keeps life dmin run.start run.of_master run.of_slave served.master_quiet served.slave_quiet in
    let kept : EndsKeep life dmin ends = all_keep life dmin start run.before come new in
    let sets : BothSet g ends = all_set g start run.before (record { master = refl; slave = refl }) in
    let stands : Standing g ends run.since run.still (ends_after ends run.since) =
    all_stand g ends run.still run.since h kept (may_after life dmin start run.since run.before served.come) served.good turn
    (rest_stands life dmin pace run turns slow slowest served kept (all_free life dmin start run.before come new refl) sets) in
    let is : last_ends run ≡ ends_after ends run.since = run_split start run.since run.before in
    let came : ((ends_after ends run.since).slave.link.state ≡ LinkOn) × ((ends_after ends run.since).master.link.carrier ≡ true) =
    up_by g ends run.since run.still h served.good stands (subst (λ (e : BothPorts). (run.still +ℤ pos (by_four g + pace.delay)) <ℤ e.time) is late) in
    let on : (last_ends run).slave.link.state ≡ LinkOn = ap (λ (e : BothPorts). e.slave.link.state) is ∙ came.0 in
    let carrier : (last_ends run).master.link.carrier ≡ true = ap (λ (e : BothPorts). e.master.link.carrier) is ∙ came.1 in
    let can : CanBe life dmin (last_ends run) =
    record {
      of_master = run.of_master;
      of_slave = run.of_slave;
      start = run.start;
      changes = run.since ++ run.before;
      master_quiet = served.master_quiet;
      slave_quiet = served.slave_quiet;
      come = served.come;
      is = refl;
    } in
    record { master = handshake.slave_on_with_its_master life dmin (last_ends run) can on carrier; slave = on }

-- What each law requires

abbrev slow_of : Pace → RestRun → Role → ℕ
slow_of pace run Master = run.of_master.wait * pace.dmax
slow_of pace run Slave = run.of_slave.wait * pace.dmax

abbrev no_wait : Role → ℕ
no_wait role = 0

both_hold :
    (life dmin : ℕ) (pace : Pace) (run : RestRun) → IsServedFromRest life dmin pace run → BothOutlastFromRest dmin pace run →
    BothHold (given_rest life dmin pace run false (slow_of pace run) (max run.of_master.wait run.of_slave.wait * pace.dmax))
both_hold life dmin pace run served both Master =
    record {
      wr = served.master_wr;
      outlives = served.master_quiet;
      rests = (served.resting Master).outlives;
      longer = le-max_left (run.rest Master) (run.rest Slave);
      slower = mul-le-mul_right pace.dmax (le-max_left run.of_master.wait run.of_slave.wait);
      mode = inl (refl, both.master.retry);
      waits_last =
          waits_by (max run.of_master.wait run.of_slave.wait) (max run.of_master.wait run.of_slave.wait) pace dmin
          (patience run.of_master.wait run.of_master.retries * dmin) refl both.master.waits;
      locks_last = both.master.locks;
      wait = wait_from pace.delay dmin run.of_master.wait both.master.retry;
      lock_wait = lock_from (pace.lock + 2 * pace.delay) dmin run.of_master.lock_wait run.of_master.retries both.master.locks;
    }
both_hold life dmin pace run served both Slave =
    record {
      wr = served.slave_wr;
      outlives = served.slave_quiet;
      rests = (served.resting Slave).outlives;
      longer = le-max_right (run.rest Master) (run.rest Slave);
      slower = mul-le-mul_right pace.dmax (le-max_right run.of_master.wait run.of_slave.wait);
      mode = inl (refl, both.slave.retry);
      waits_last =
          waits_by (max run.of_slave.wait run.of_master.wait) (max run.of_master.wait run.of_slave.wait) pace dmin
          (patience run.of_slave.wait run.of_slave.retries * dmin) (max_comm run.of_slave.wait run.of_master.wait) both.slave.waits;
      locks_last = both.slave.locks;
      wait = wait_from pace.delay dmin run.of_slave.wait both.slave.retry;
      lock_wait = lock_from (pace.lock + 2 * pace.delay) dmin run.of_slave.lock_wait run.of_slave.retries both.slave.locks;
    }

both_hold_in_turn :
    (life dmin : ℕ) (pace : Pace) (run : RestRun) → IsServedFromRest life dmin pace run → BothInTurnFromRest dmin pace run →
    BothHold (given_rest life dmin pace run true no_wait 0)
both_hold_in_turn life dmin pace run served both Master =
    record {
      wr = served.master_wr;
      outlives = served.master_quiet;
      rests = (served.resting Master).outlives;
      longer = le-max_left (run.rest Master) (run.rest Slave);
      slower = omega arith;
      mode = inr refl;
      waits_last = omega (arith, both.master.waits);
      locks_last = both.master.locks;
      wait = lock_from (pace.dmax + 2 * pace.delay) dmin run.of_master.wait run.of_master.retries both.master.waits;
      lock_wait = lock_from (pace.lock + 2 * pace.delay) dmin run.of_master.lock_wait run.of_master.retries both.master.locks;
    }
both_hold_in_turn life dmin pace run served both Slave =
    record {
      wr = served.slave_wr;
      outlives = served.slave_quiet;
      rests = (served.resting Slave).outlives;
      longer = le-max_right (run.rest Master) (run.rest Slave);
      slower = omega arith;
      mode = inr refl;
      waits_last = omega (arith, both.slave.waits);
      locks_last = both.slave.locks;
      wait = lock_from (pace.dmax + 2 * pace.delay) dmin run.of_slave.wait run.of_slave.retries both.slave.waits;
      lock_wait = lock_from (pace.lock + 2 * pace.delay) dmin run.of_slave.lock_wait run.of_slave.retries both.slave.locks;
    }

pub comes_up_from_rest : ComesUpFromRest
comes_up_from_rest life dmin pace run served both late =
    is_up life dmin pace run false (slow_of pace run) (max run.of_master.wait run.of_slave.wait * pace.dmax)
    (both_hold life dmin pace run served both) served (λ e. cc)
    (subst (λ (n : ℕ). IsPastRest run n)
    (sym (in_all (longer_rest run) pace.announce pace.lock pace.delay pace.dmax run.of_master.wait run.of_slave.wait)) late)

pub comes_up_from_rest_in_turn : ComesUpFromRestInTurn
comes_up_from_rest_in_turn life dmin pace run served both late =
    is_up life dmin pace run true no_wait 0 (both_hold_in_turn life dmin pace run served both) served (λ _. both.in_turn)
    (subst (λ (n : ℕ). IsPastRest run n) (sym (all_in_turn (longer_rest run) pace.announce pace.lock pace.delay pace.dmax)) late)
