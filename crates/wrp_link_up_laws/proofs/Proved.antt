-- The law, by induction over the changes since the carriers came.
use Rattle.std.proofs.Common.{◌≡◌, inl, inr, refl, sym, ap, ◌∙◌, subst, ℤ, ℕ, zero, suc, ◌+◌, ◌-◌, ◌*◌, ◌<◌, ◌≤◌, max, pos, Bool, true, false, List, [], ◌∷◌, ◌++◌, Some, arith, ◌+ℤ◌, ◌<ℤ◌, ◌≤ℤ◌}
use Rattle.std.proofs.lemmas.Int.{ints}
use Rattle.std.proofs.Math.Nat.{le-max_left, le-max_right, max_comm, mul-le-mul_right}
use Rattle.wrp_base.specs.declared.link.LinkState.TheVariants.{Idle, LinkOn}
use Rattle.wrp_base.specs.declared.link.Module.{Module}
use Rattle.wrp_base.specs.declared.link.Role.{Role}
use Rattle.wrp_base.specs.declared.link.Role.TheVariants.{Master, Slave}
use Rattle.wrp_link.specs.declared.interface.LinkSet.{LinkSet}
use Rattle.wrp_link.specs.LinkAt.{LinkAt, with_carrier}
use Rattle.wrp_link.specs.Rows.{row_of}
use Rattle.wrp_link.proofs.Orders.{idle_belongs}
use Rattle.wrp_link.proofs.Runs.{by_row_role, by_row_set}
use Rattle.wrp_handshake_laws.specs.Ends.{Sending, Port, BothPorts, Change, Passes, Hears, Starts, Lights, IsAmong, MayCome, AllMayCome, CanBe, changed, ends_after}
use Rattle.wrp_handshake_laws.proofs.Changes.{EndsKeep, all_keep, start_keeps}
use Rattle.wrp_handshake_laws.proofs.Proved as handshake
use Rattle.wrp_link_up_laws.specs.Laws.{LinkRun, lights, new, changes, dark, lit, last, IsServed, BothOutlast, BothInTurn, IsPast, IsUp, ComesUp, ComesUpInTurn}
use Rattle.wrp_link_up_laws.specs.Pace.{AllInTurn, InTurn, patience, Pace, IsPrompt, IsSteady, IsGood}
use Rattle.wrp_link_up_laws.proofs.Changes.{Standing, coming, is_on, prompt_of, passes_up, passes_stage, on_stays, carrier_by, master_hears, slave_hears}
use Rattle.wrp_link_up_laws.proofs.Ports.{Given, BothHold, PortUp, not_timed_idle}
use Rattle.wrp_link_up_laws.proofs.Stages.{by_four, resting}
use Rattle.wrp_link_up_laws.proofs.Steps.{all_soon}
use Rattle.wrp_link_up_laws.proofs.Sums.{le_self, clash}
use Rattle.wrp_link_up_laws.proofs.Tells.{row_tells}

-- each change
pub changed_stands :
    (g : Given) (first : BothPorts) (older : List Change) (lit : ℤ) (change : Change) → BothHold g → EndsKeep g.life g.dmin (ends_after first older) →
    MayCome g.life g.dmin (ends_after first older) change → IsSteady (ends_after first older) change → IsPrompt g.pace first older → (g.in_turn ≡ true → InTurn first older change) →
    Standing g first older lit (ends_after first older) → Standing g first (change ∷ older) lit (changed (ends_after first older) change)
changed_stands g first older lit (Passes dt) h k may steady p turn (coming me se um us s) =
    let ends : BothPorts = ends_after first older in
    coming me se (passes_up g ends.time lit dt Master ends.master.link ends.master.ticked ends.master.sent me um)
    (passes_up g ends.time lit dt Slave ends.slave.link ends.slave.ticked ends.slave.sent se us)
    (passes_stage g first older dt lit ends.master.link ends.slave.link me se ends.slave.sent s)
changed_stands g first older lit (Passes dt) h k may steady p turn (is_on on role carrier) = is_on on role carrier
changed_stands g first older lit (Hears Master input at) h k may steady p turn (coming me se um us s) =
    master_hears g first older lit input at me se h um us s p steady.0 turn may.1
changed_stands g first older lit (Hears Slave input at) h k may steady p turn (coming me se um us s) =
    slave_hears g first older lit input at me se h um us s p steady turn may.1
changed_stands g first older lit (Hears Master input at) h k may steady p turn (is_on on role carrier) =
    let l : LinkAt = (ends_after first older).master.link in
    is_on on role (carrier_by l l.role l.state input (row_of l input) steady.0 (row_tells l input carrier k.master.belongs) ∙ carrier)
changed_stands g first older lit (Hears Slave input at) h k may steady p turn (is_on on role carrier) =
    let l : LinkAt = (ends_after first older).slave.link in
    is_on (on_stays l input steady.0 role on ∙ on) (by_row_role l (row_of l input) ∙ role) carrier
changed_stands g first older lit (Starts role) h k may steady p turn s = absurd steady
changed_stands g first older lit (Lights of_master of_slave) h k may steady p turn s = absurd steady

pub prompt_at : (pace : Pace) (first : BothPorts) (changes : List Change) → IsGood pace first changes → IsPrompt pace first changes
prompt_at pace first [] good = good
prompt_at pace first (change ∷ older) good = good.1.0

pub all_stand :
    (g : Given) (first : BothPorts) (lit : ℤ) (since : List Change) → BothHold g → EndsKeep g.life g.dmin first → AllMayCome g.life g.dmin first since →
    IsGood g.pace first since → (g.in_turn ≡ true → AllInTurn first since) → Standing g first [] lit first → Standing g first since lit (ends_after first since)
all_stand g first lit [] h k come good turn s = s
all_stand g first lit (change ∷ older) h k come good turn s =
    changed_stands g first older lit change h (all_keep g.life g.dmin first older come.1 k) come.0 good.0 (prompt_at g.pace first older good.1.1) (λ e. (turn e).0)
    (all_stand g first lit older h k come.1 good.1.1 (λ e. (turn e).1) s)

-- both ends keep their counts
pub record BothSet (g : Given) (ends : BothPorts) : Type 0 where
  pub master : ends.master.link.set ≡ g.set Master
  pub slave : ends.slave.link.set ≡ g.set Slave

set_changed : (g : Given) (ends : BothPorts) (change : Change) → BothSet g ends → BothSet g (changed ends change)
set_changed g ends (Passes dt) b = record { master = b.master; slave = b.slave }
set_changed g ends (Hears Master input at) b = record { master = by_row_set ends.master.link (row_of ends.master.link input) ∙ b.master; slave = b.slave }
set_changed g ends (Hears Slave input at) b = record { master = b.master; slave = by_row_set ends.slave.link (row_of ends.slave.link input) ∙ b.slave }
set_changed g ends (Starts Master) b = record { master = b.master; slave = b.slave }
set_changed g ends (Starts Slave) b = record { master = b.master; slave = b.slave }
set_changed g ends (Lights of_master of_slave) b = record { master = b.master; slave = b.slave }

pub all_set : (g : Given) (ends : BothPorts) (changes : List Change) → BothSet g ends → BothSet g (ends_after ends changes)
all_set g ends [] b = b
all_set g ends (change ∷ older) b = set_changed g (ends_after ends older) change (all_set g ends older b)

no_holdoff_yet : (q : ℕ) → max q 0 ≡ q
no_holdoff_yet q = omega arith

as_late : (ticked time : ℤ) (n : ℕ) → ticked ≤ℤ time → (ticked +ℤ pos n) ≤ℤ (time +ℤ pos n)
as_late ticked time n h = omega (arith, ints, h)

-- a port when the carrier comes
lit_up :
    (g : Given) (time : ℤ) (role : Role) (p : Port) (own : Module) → g.rest role ≡ (g.set role).quiet → p.link.role ≡ role → p.link.set ≡ g.set role → p.ticked ≤ℤ time →
    ((f : Sending) → IsAmong f p.sent → f.1 ≤ℤ time) → PortUp g time time role (with_carrier p.link (Some own)) p.ticked p.sent time
lit_up g time role p own rest is_role is_set ticked sents =
    record {
      has_carrier = refl;
      listed = refl;
      same_set = is_set;
      same_role = is_role;
      belongs = idle_belongs role;
      free = λ _. refl;
      past = le_self time;
      ticked = ticked;
      lit_past = le_self time;
      calm = λ _. inl (no_holdoff_yet p.link.set.quiet ∙ ap (λ s. s.quiet) is_set ∙ sym rest);
      soon =
          λ _. inr (subst (λ (q : ℕ). (p.ticked +ℤ pos (max p.link.set.quiet 0 * g.pace.dmax)) ≤ℤ (time +ℤ pos (q * g.pace.dmax)))
          (no_holdoff_yet p.link.set.quiet ∙ ap (λ s. s.quiet) is_set ∙ sym rest) (as_late p.ticked time (max p.link.set.quiet 0 * g.pace.dmax) ticked));
      awake = λ out. absurd (out refl);
      timer = λ n is. absurd ((not_timed_idle (g.set role) Idle n is).0 refl);
      at_once = λ c. cc;
      on = λ c. cc;
      sents = λ f i. (sents f i, inl (sents f i));
    }

pub some_quiet : (life quiet dmin : ℕ) → 2 * life < (quiet - 1) * dmin → 1 ≤ quiet
some_quiet life zero dmin h = absurd (omega (arith, h))
some_quiet life (suc q) dmin h = omega arith

pub lights_stand :
    (g : Given) (before : BothPorts) (of_master of_slave : Module) → ((role : Role) → g.rest role ≡ (g.set role).quiet) → BothHold g → EndsKeep g.life g.dmin before → BothSet g before →
    Standing g (changed before (Lights (Some of_master) (Some of_slave))) [] before.time (changed before (Lights (Some of_master) (Some of_slave)))
lights_stand g before of_master of_slave rest h k b =
    coming before.time before.time
    (lit_up g before.time Master before.master of_master (rest Master) k.is_master b.master k.master.ticked (λ f i. (k.master.frames f i).past))
    (lit_up g before.time Slave before.slave of_slave (rest Slave) k.is_slave b.slave k.slave.ticked (λ f i. (k.slave.frames f i).past))
    (resting refl refl
    (inl (subst (λ (n : ℕ). 1 ≤ n) (sym (no_holdoff_yet before.master.link.set.quiet))
    (subst (λ (s : LinkSet). 1 ≤ s.quiet) (sym b.master) (some_quiet g.life (g.set Master).quiet g.dmin (h Master).outlives)))))

-- a run in two parts
pub run_split : (ends : BothPorts) (since before : List Change) → ends_after ends (since ++ before) ≡ ends_after (ends_after ends before) since
run_split ends [] before = refl
run_split ends (change ∷ since) before = ap (λ (e : BothPorts). changed e change) (run_split ends since before)

pub may_after : (life dmin : ℕ) (ends : BothPorts) (since before : List Change) → AllMayCome life dmin ends (since ++ before) → AllMayCome life dmin (ends_after ends before) since
may_after life dmin ends [] before h = tt
may_after life dmin ends (change ∷ since) before h =
    (subst (λ (e : BothPorts). MayCome life dmin e change) (run_split ends since before) h.0, may_after life dmin ends since before h.1)

pub may_before : (life dmin : ℕ) (ends : BothPorts) (since before : List Change) → AllMayCome life dmin ends (since ++ before) → AllMayCome life dmin ends before
may_before life dmin ends [] before h = h
may_before life dmin ends (change ∷ since) before h = may_before life dmin ends since before h.1

pub wait_from : (delay dmin wait : ℕ) → delay + dmin < wait * dmin → 1 ≤ wait
wait_from delay dmin zero h = absurd (omega (arith, h))
wait_from delay dmin (suc n) h = omega arith

zero_times : (r : ℕ) → 0 * r ≡ 0
zero_times r = omega arith

pub lock_from : (x dmin wait retries : ℕ) → x + dmin < (wait + wait * retries) * dmin → 1 ≤ wait
lock_from x dmin zero retries h = absurd (omega (arith, h, zero_times retries))
lock_from x dmin (suc n) retries h = omega arith

pub in_all : (q a k d m x y : ℕ) → q * m + a + 3 * d + k + m + (x * m + d) + m + (y * m + d) + d ≡ (q + x + y + 2) * m + a + k + 6 * d
in_all q a k d m x y = omega arith

pub all_in_turn : (q a k d m : ℕ) → q * m + a + 3 * d + k + m + (0 + d) + m + (0 + d) + d ≡ (q + 2) * m + a + k + 6 * d
all_in_turn q a k d m = omega arith

one_times : (n d : ℕ) → (n + 1) * d ≡ n * d + d
one_times n d = omega arith

-- by the last stage's time
pub up_by :
    (g : Given) (first : BothPorts) (since : List Change) (lit : ℤ) → BothHold g → IsGood g.pace first since → Standing g first since lit (ends_after first since) →
    (lit +ℤ pos (by_four g + g.pace.delay)) <ℤ (ends_after first since).time →
    ((ends_after first since).slave.link.state ≡ LinkOn) × ((ends_after first since).master.link.carrier ≡ true)
up_by g first since lit h good (is_on on role carrier) late = (on, carrier)
up_by g first since lit h good (coming me se um us s) late =
    let ends : BothPorts = ends_after first since in
    let soon : ends.time ≤ℤ (lit +ℤ pos (by_four g + g.pace.delay)) =
    all_soon g first since ends.time lit ends.master.link ends.slave.link ends.master.ticked ends.slave.ticked ends.master.sent ends.slave.sent me se h um us
    (prompt_of g first since (prompt_at g.pace first since good)) s in
    absurd (clash ends.time (lit +ℤ pos (by_four g + g.pace.delay)) soon late)

-- both laws in one form: the counts of both ends, and whether no CALIBRATED overtakes a CALIBRATE
abbrev set_by : LinkRun → Role → LinkSet
set_by run Master = run.of_master
set_by run Slave = run.of_slave

abbrev given_by : (life dmin : ℕ) → Pace → LinkRun → Bool → (Role → ℕ) → ℕ → Given
given_by life dmin pace run in_turn slow slowest =
    record {
      life = life;
      dmin = dmin;
      pace = pace;
      set = set_by run;
      in_turn = in_turn;
      slow = slow;
      slowest = slowest;
      rest = λ role. (set_by run role).quiet;
      quiet = max run.of_master.quiet run.of_slave.quiet;
    }

is_up :
    (life dmin : ℕ) (pace : Pace) (run : LinkRun) (turns : Bool) (slow : Role → ℕ) (slowest : ℕ) → BothHold (given_by life dmin pace run turns slow slowest) →
    IsServed life dmin pace run → (turns ≡ true → AllInTurn (lit run) run.since) →
    IsPast run (by_four (given_by life dmin pace run turns slow slowest) + pace.delay) → IsUp (last run)
is_up life dmin pace run turns slow slowest h served turn late =
    let g : Given = given_by life dmin pace run turns slow slowest in
    let come_lit : AllMayCome life dmin (new run) (lights run ∷ run.before) = may_before life dmin (new run) run.since (lights run ∷ run.before) served.come in
    let kept_new : EndsKeep life dmin (new run) = start_keeps life dmin run.start run.of_master run.of_slave served.master_quiet served.slave_quiet in
    let kept : EndsKeep life dmin (dark run) = all_keep life dmin (new run) run.before come_lit.1 kept_new in
    let kept_lit : EndsKeep life dmin (lit run) = all_keep life dmin (new run) (lights run ∷ run.before) come_lit kept_new in
    let sets : BothSet g (dark run) = all_set g (new run) run.before (record { master = refl; slave = refl }) in
    let stands : Standing g (lit run) run.since (dark run).time (ends_after (lit run) run.since) =
    all_stand g (lit run) (dark run).time run.since h kept_lit (may_after life dmin (new run) run.since (lights run ∷ run.before) served.come) served.good turn
    (lights_stand g (dark run) run.at_master run.at_slave (λ role. refl) h kept sets) in
    let is : last run ≡ ends_after (lit run) run.since = run_split (new run) run.since (lights run ∷ run.before) in
    let came : ((ends_after (lit run) run.since).slave.link.state ≡ LinkOn) × ((ends_after (lit run) run.since).master.link.carrier ≡ true) =
    up_by g (lit run) run.since (dark run).time h served.good stands (subst (λ (e : BothPorts). ((dark run).time +ℤ pos (by_four g + pace.delay)) <ℤ e.time) is late) in
    let on : (last run).slave.link.state ≡ LinkOn = ap (λ (e : BothPorts). e.slave.link.state) is ∙ came.0 in
    let carrier : (last run).master.link.carrier ≡ true = ap (λ (e : BothPorts). e.master.link.carrier) is ∙ came.1 in
    let can : CanBe life dmin (last run) =
    record {
      of_master = run.of_master;
      of_slave = run.of_slave;
      start = run.start;
      changes = changes run;
      master_quiet = served.master_quiet;
      slave_quiet = served.slave_quiet;
      come = served.come;
      is = refl;
    } in
    record { master = handshake.slave_on_with_its_master life dmin (last run) can on carrier; slave = on }

-- the first waits of both ends, as times
abbrev slow_by : Pace → LinkRun → Role → ℕ
slow_by pace run Master = run.of_master.wait * pace.dmax
slow_by pace run Slave = run.of_slave.wait * pace.dmax

abbrev no_wait : Role → ℕ
no_wait role = 0

pub waits_by : (a b : ℕ) (pace : Pace) (dmin all : ℕ) → a ≡ b → (a + 1) * pace.dmax + 2 * pace.delay + dmin < all → b * pace.dmax + pace.dmax + 2 * pace.delay + dmin < all
waits_by a b pace dmin all e h =
    subst (λ (n : ℕ). n * pace.dmax + pace.dmax + 2 * pace.delay + dmin < all) e
    (subst (λ (n : ℕ). n + 2 * pace.delay + dmin < all) (one_times a pace.dmax) h)

-- what the first law requires of both ends
both_hold :
    (life dmin : ℕ) (pace : Pace) (run : LinkRun) → IsServed life dmin pace run → BothOutlast dmin pace run →
    BothHold (given_by life dmin pace run false (slow_by pace run) (max run.of_master.wait run.of_slave.wait * pace.dmax))
both_hold life dmin pace run served both Master =
    record {
      wr = served.master_wr;
      outlives = served.master_quiet;
      rests = served.master_quiet;
      longer = le-max_left run.of_master.quiet run.of_slave.quiet;
      slower = mul-le-mul_right pace.dmax (le-max_left run.of_master.wait run.of_slave.wait);
      mode = inl (refl, both.master.retry);
      waits_last = waits_by (max run.of_master.wait run.of_slave.wait) (max run.of_master.wait run.of_slave.wait) pace dmin (patience run.of_master.wait run.of_master.retries * dmin) refl both.master.waits;
      locks_last = both.master.locks;
      wait = wait_from pace.delay dmin run.of_master.wait both.master.retry;
      lock_wait = lock_from (pace.lock + 2 * pace.delay) dmin run.of_master.lock_wait run.of_master.retries both.master.locks;
    }
both_hold life dmin pace run served both Slave =
    record {
      wr = served.slave_wr;
      outlives = served.slave_quiet;
      rests = served.slave_quiet;
      longer = le-max_right run.of_master.quiet run.of_slave.quiet;
      slower = mul-le-mul_right pace.dmax (le-max_right run.of_master.wait run.of_slave.wait);
      mode = inl (refl, both.slave.retry);
      waits_last = waits_by (max run.of_slave.wait run.of_master.wait) (max run.of_master.wait run.of_slave.wait) pace dmin (patience run.of_slave.wait run.of_slave.retries * dmin) (max_comm run.of_slave.wait run.of_master.wait) both.slave.waits;
      locks_last = both.slave.locks;
      wait = wait_from pace.delay dmin run.of_slave.wait both.slave.retry;
      lock_wait = lock_from (pace.lock + 2 * pace.delay) dmin run.of_slave.lock_wait run.of_slave.retries both.slave.locks;
    }

-- what the second law requires of them
both_hold_in_turn :
    (life dmin : ℕ) (pace : Pace) (run : LinkRun) → IsServed life dmin pace run → BothInTurn dmin pace run →
    BothHold (given_by life dmin pace run true no_wait 0)
both_hold_in_turn life dmin pace run served both Master =
    record {
      wr = served.master_wr;
      outlives = served.master_quiet;
      rests = served.master_quiet;
      longer = le-max_left run.of_master.quiet run.of_slave.quiet;
      slower = omega arith;
      mode = inr refl;
      waits_last = omega (arith, both.master.waits);
      locks_last = both.master.locks;
      wait = lock_from (pace.dmax + 2 * pace.delay) dmin run.of_master.wait run.of_master.retries both.master.waits;
      lock_wait = lock_from (pace.lock + 2 * pace.delay) dmin run.of_master.lock_wait run.of_master.retries both.master.locks;
    }
both_hold_in_turn life dmin pace run served both Slave =
    record {
      wr = served.slave_wr;
      outlives = served.slave_quiet;
      rests = served.slave_quiet;
      longer = le-max_right run.of_master.quiet run.of_slave.quiet;
      slower = omega arith;
      mode = inr refl;
      waits_last = omega (arith, both.slave.waits);
      locks_last = both.slave.locks;
      wait = lock_from (pace.dmax + 2 * pace.delay) dmin run.of_slave.wait run.of_slave.retries both.slave.waits;
      lock_wait = lock_from (pace.lock + 2 * pace.delay) dmin run.of_slave.lock_wait run.of_slave.retries both.slave.locks;
    }

pub comes_up : ComesUp
comes_up life dmin pace run served both late =
    is_up life dmin pace run false (slow_by pace run) (max run.of_master.wait run.of_slave.wait * pace.dmax) (both_hold life dmin pace run served both) served (λ e. cc)
    (subst (λ (n : ℕ). IsPast run n)
    (sym (in_all (max run.of_master.quiet run.of_slave.quiet) pace.announce pace.lock pace.delay pace.dmax run.of_master.wait run.of_slave.wait)) late)

pub comes_up_in_turn : ComesUpInTurn
comes_up_in_turn life dmin pace run served both late =
    is_up life dmin pace run true no_wait 0 (both_hold_in_turn life dmin pace run served both) served (λ _. both.in_turn)
    (subst (λ (n : ℕ). IsPast run n) (sym (all_in_turn (max run.of_master.quiet run.of_slave.quiet) pace.announce pace.lock pace.delay pace.dmax)) late)
