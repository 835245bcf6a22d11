-- What the law of one link requires of both ends, which have the counts of the network.
use Rattle.std.proofs.Common.{◌≡◌, inl, inr, refl, sym, subst, ℕ, ◌+◌, ◌-◌, ◌*◌, ◌<◌, ◌≤◌, max, ℤ, Bool, true, false, [], arith}
use Rattle.wrp_base.specs.declared.link.Role.{Role}
use Rattle.wrp_bounds.specs.Times.{longest_tick}
use Rattle.wrp_handshake_laws.specs.Ends.{OutlivesFrames}
use Rattle.wrp_link_up_laws.specs.Pace.{Outlasts, OutlastsInTurn, patience}
use Rattle.wrp_link_up_laws.proofs.Ports.{BothHold, Given}
use Rattle.wrp_link_up_laws.proofs.Proved.{lock_from, wait_from, waits_by}
use Rattle.wrp_comes_up_laws.specs.Laws.{TimesInCounts, announces_each, counts_of, pace_of}
use Rattle.wrp_comes_up_laws.specs.Served.{Beginning, LongestWaits, world_of}
use Rattle.wrp_comes_up_laws.proofs.Seen.{dmin_of, life_of}

-- the laws in one form: whether no CALIBRATED overtakes a CALIBRATE, and how long a giver may let its taker wait; since when
-- both ends rest, for how many ticks each, and the longer of both
pub record Form : Type 0 where
  pub turns : Bool
  pub slow : ℕ
  pub still : ℤ
  pub rest : Role → ℕ
  pub longer : ℕ

abbrev pub given_of : Beginning → LongestWaits → Form → Given
given_of l waits form =
    record {
      life = life_of l;
      dmin = dmin_of l;
      pace = pace_of l waits;
      set = λ role. counts_of l;
      in_turn = form.turns;
      slow = λ role. form.slow;
      slowest = form.slow;
      rest = form.rest;
      quiet = form.longer;
    }

-- the form of a law in which messages may overtake each other
abbrev pub any_order : Beginning → LongestWaits → (still : ℤ) → (rest : Role → ℕ) → (longer : ℕ) → Form
any_order l waits still rest longer =
    record { turns = false; slow = (counts_of l).wait * (pace_of l waits).dmax; still = still; rest = rest; longer = longer }

-- the form of a law in which they may not
abbrev pub each_in_turn : (still : ℤ) → (rest : Role → ℕ) → (longer : ℕ) → Form
each_in_turn still rest longer = record { turns = true; slow = 0; still = still; rest = rest; longer = longer }

-- when the carriers come, the quiet time of the network is the rest of both ends
abbrev pub lit_form : Beginning → Bool → ℕ → Form
lit_form l turns slow =
    record { turns = turns; slow = slow; still = (world_of l []).time; rest = λ role. (counts_of l).quiet; longer = (counts_of l).quiet }

-- each rest outlives two frames, and is no longer than the longer
pub record RestsHold (l : Beginning) (rest : Role → ℕ) (longer : ℕ) : Type 0 where
  pub quiet : OutlivesFrames (life_of l) (dmin_of l) (counts_of l)
  pub outlive : (role : Role) → 2 * life_of l < (rest role - 1) * dmin_of l
  pub longest : (role : Role) → rest role ≤ longer

abbrev pub quiet_rest : Beginning → Role → ℕ
quiet_rest l role = (counts_of l).quiet

pub lit_rests : (l : Beginning) → OutlivesFrames (life_of l) (dmin_of l) (counts_of l) → RestsHold l (quiet_rest l) (counts_of l).quiet
lit_rests l quiet = record { quiet = quiet; outlive = λ role. quiet; longest = λ role. omega arith }

max_same : (n : ℕ) → max n n ≡ n
max_same n = omega arith

pub any_order_holds :
    (l : Beginning) (waits : LongestWaits) (still : ℤ) (rest : Role → ℕ) (longer : ℕ) → RestsHold l rest longer →
    Outlasts (dmin_of l) (pace_of l waits) (counts_of l) (counts_of l) → BothHold (given_of l waits (any_order l waits still rest longer))
any_order_holds l waits still rest longer r h role = record {
  wr = refl;
  outlives = r.quiet;
  rests = r.outlive role;
  longer = r.longest role;
  slower = omega arith;
  mode = inl (refl, h.retry);
  waits_last =
      waits_by (max (counts_of l).wait (counts_of l).wait) (counts_of l).wait (pace_of l waits) (dmin_of l)
      (patience (counts_of l).wait (counts_of l).retries * dmin_of l) (max_same (counts_of l).wait) h.waits;
  locks_last = h.locks;
  wait = wait_from (pace_of l waits).delay (dmin_of l) (counts_of l).wait h.retry;
  lock_wait = lock_from ((pace_of l waits).lock + 2 * (pace_of l waits).delay) (dmin_of l) (counts_of l).lock_wait (counts_of l).retries h.locks;
}

pub each_in_turn_holds :
    (l : Beginning) (waits : LongestWaits) (still : ℤ) (rest : Role → ℕ) (longer : ℕ) → RestsHold l rest longer →
    OutlastsInTurn (dmin_of l) (pace_of l waits) (counts_of l) → BothHold (given_of l waits (each_in_turn still rest longer))
each_in_turn_holds l waits still rest longer r h role = record {
  wr = refl;
  outlives = r.quiet;
  rests = r.outlive role;
  longer = r.longest role;
  slower = omega arith;
  mode = inr refl;
  waits_last = omega (arith, h.waits);
  locks_last = h.locks;
  wait =
      lock_from ((pace_of l waits).dmax + 2 * (pace_of l waits).delay) (dmin_of l) (counts_of l).wait (counts_of l).retries h.waits;
  lock_wait = lock_from ((pace_of l waits).lock + 2 * (pace_of l waits).delay) (dmin_of l) (counts_of l).lock_wait (counts_of l).retries h.locks;
}

-- Both times

all_in_order : (q w a d k m : ℕ) → (max q q + w + w + 2) * m + (a * m + d) + k + 6 * d ≡ (q + 2 * w + 2 + a) * m + 7 * d + k
all_in_order q w a d k m = subst (λ n. (n + w + w + 2) * m + (a * m + d) + k + 6 * d ≡ (q + 2 * w + 2 + a) * m + 7 * d + k) (sym (max_same q)) (omega arith)

all_in_turn : (q a d k m : ℕ) → (max q q + 2) * m + (a * m + d) + k + 6 * d ≡ (q + 2 + a) * m + 7 * d + k
all_in_turn q a d k m = subst (λ n. (n + 2) * m + (a * m + d) + k + 6 * d ≡ (q + 2 + a) * m + 7 * d + k) (sym (max_same q)) (omega arith)

pub times_in_counts : TimesInCounts
times_in_counts l waits = record {
  any_order = all_in_order (counts_of l).quiet (counts_of l).wait (announces_each l) waits.delay waits.lock (longest_tick l.s.cfg);
  in_turn = all_in_turn (counts_of l).quiet (announces_each l) waits.delay waits.lock (longest_tick l.s.cfg);
}
