-- The calls of an exchange, the newest first: which of them made its Sync pair, and which good sample a stamp latched.
use Rattle.std.proofs.Common.{◌≡◌, ◌⊎◌, inl, inr, refl, sym, ℕ, zero, suc, ◌==◌, ◌&&◌, ◌<◌, ◌≤◌, cond, nat_le, not, ℤ, Bool, true, false, if◌then◌else◌, is_some, List, [], ◌∷◌, ◌++◌, length, take, Option, None, Some, option_map, arith}
use Rattle.std.proofs.lemmas.Bool.{eqb-true}
use Rattle.std.specs.List.{AllByRecursion, find}
use Rattle.std.specs.Option.{option_or, option_and_then}
use Rattle.std.proofs.lemmas.Option.{none-some, same_Some}
use Rattle.wrp_base.specs.declared.time.Stamp.{Stamp}
use Rattle.wrp_exch.specs.Call.{Call, CallStart, CallClear, CallSample, CallSync, CallFollowUp, CallReqOut, CallReqSent, CallResp}
use Rattle.wrp_exch.specs.Chain.{first_sample, phase_since}
use Rattle.wrp_exch.specs.declared.ring.GoodSample.{GoodSample}
use Rattle.wrp_exch.specs.declared.sync.HeldSync.{HeldSync}
use Rattle.wrp_exch.specs.declared.sync.SyncPair.{SyncPair}
use Rattle.wrp_exch.specs.Samples.{last_samples, phase_in}
use Rattle.wrp_exch.specs.SyncPair.{followed_pair, held_sync, is_followed, kept_sync, last_sync, pair_of_sync, sync_pair}
use Rattle.wrp_port.specs.Outputs.{with_call}

first_or : {A : Type 0} (o p : Option A) (x : A) → option_or o p ≡ Some x → (o ≡ Some x) ⊎ (p ≡ Some x)
first_or (Some y) p x e = inl e
first_or None p x e = inr e

-- One call more

-- a call that neither begins nor ends a chain
abbrev pub IsWithin : Option Call → Type 0
IsWithin (Some (CallStart first)) = ⊥
IsWithin (Some CallClear) = ⊥
IsWithin _ = Unit {0}

-- the call is a Sync, which is kept like this
pub record Keeps (ring : ℕ) (calls : List Call) (o : Option Call) (held : HeldSync) : Type 0 where
  pub seq : ℕ
  pub correction : ℤ
  pub t2 : Stamp
  pub tick : ℕ
  pub is : o ≡ Some (CallSync seq correction t2 tick)
  pub kept : kept_sync ring calls seq correction t2 tick ≡ Some held

pub last_by : (ring : ℕ) (calls : List Call) (o : Option Call) (held : HeldSync) → IsWithin o → last_sync ring (with_call o calls) ≡ Some held → Keeps ring calls o held ⊎ (last_sync ring calls ≡ Some held)
last_by ring calls None held w e = inr e
last_by ring calls (Some (CallStart first)) held w e = absurd w
last_by ring calls (Some CallClear) held w e = absurd w
last_by ring calls (Some (CallSample number phase)) held w e = inr e
last_by ring calls (Some (CallSync seq correction t2 tick)) held w e = elim (first_or (kept_sync ring calls seq correction t2 tick) (last_sync ring calls) held e) [
  | inl now ↦ inl (record { seq = seq; correction = correction; t2 = t2; tick = tick; is = refl; kept = now })
  | inr old ↦ inr old
]
last_by ring calls (Some (CallFollowUp seq precise)) held w e = inr e
last_by ring calls (Some (CallReqOut seq)) held w e = inr e
last_by ring calls (Some (CallReqSent seq t3 tick)) held w e = inr e
last_by ring calls (Some (CallResp seq t4)) held w e = inr e

-- the call is a Follow_Up, which made this pair
pub record Pairs (ring : ℕ) (calls : List Call) (o : Option Call) (p : SyncPair) : Type 0 where
  pub seq : ℕ
  pub precise : ℤ
  pub is : o ≡ Some (CallFollowUp seq precise)
  pub pair : followed_pair ring calls seq precise ≡ Some p

pub pair_by : (ring : ℕ) (calls : List Call) (o : Option Call) (p : SyncPair) → IsWithin o → sync_pair ring (with_call o calls) ≡ Some p → Pairs ring calls o p ⊎ (sync_pair ring calls ≡ Some p)
pair_by ring calls None p w e = inr e
pair_by ring calls (Some (CallStart first)) p w e = absurd w
pair_by ring calls (Some CallClear) p w e = absurd w
pair_by ring calls (Some (CallSample number phase)) p w e = inr e
pair_by ring calls (Some (CallSync seq correction t2 tick)) p w e = inr e
pair_by ring calls (Some (CallFollowUp seq precise)) p w e = elim (first_or (followed_pair ring calls seq precise) (sync_pair ring calls) p e) [
  | inl now ↦ inl (record { seq = seq; precise = precise; is = refl; pair = now })
  | inr old ↦ inr old
]
pair_by ring calls (Some (CallReqOut seq)) p w e = inr e
pair_by ring calls (Some (CallReqSent seq t3 tick)) p w e = inr e
pair_by ring calls (Some (CallResp seq t4)) p w e = inr e

pub first_stays : (calls : List Call) (o : Option Call) → IsWithin o → first_sample (with_call o calls) ≡ first_sample calls
first_stays calls None w = refl
first_stays calls (Some (CallStart first)) w = absurd w
first_stays calls (Some CallClear) w = absurd w
first_stays calls (Some (CallSample number phase)) w = refl
first_stays calls (Some (CallSync seq correction t2 tick)) w = refl
first_stays calls (Some (CallFollowUp seq precise)) w = refl
first_stays calls (Some (CallReqOut seq)) w = refl
first_stays calls (Some (CallReqSent seq t3 tick)) w = refl
first_stays calls (Some (CallResp seq t4)) w = refl

-- A pair, and a kept Sync

-- the Sync of a pair was the last kept one, of the Follow_Up's sequenceId, with its sample in the ring
pub record PairOf (ring : ℕ) (calls : List Call) (seq : ℕ) (precise : ℤ) (p : SyncPair) : Type 0 where
  pub held : HeldSync
  pub last : last_sync ring calls ≡ Some held
  pub same : held.seq ≡ seq
  pub in_ring : is_some (phase_in (last_samples ring calls) held.sample) ≡ true
  pub is : p ≡ pair_of_sync held precise

pub pair_of : (ring : ℕ) (calls : List Call) (seq : ℕ) (precise : ℤ) (p : SyncPair) → followed_pair ring calls seq precise ≡ Some p → PairOf ring calls seq precise p
pair_of ring calls seq precise p e = by_last (last_sync ring calls) refl e
  where
    by_tests : (s : HeldSync) (a b c : Bool) → (s.seq == seq) ≡ a → is_some (phase_in (last_samples ring calls) s.sample) ≡ c → last_sync ring calls ≡ Some s → (if a && (b && c) then Some (pair_of_sync s precise) else None) ≡ Some p → PairOf ring calls seq precise p
    by_tests s true true true at ring_at is q = record { held = s; last = is; same = eqb-true s.seq seq at; in_ring = ring_at; is = sym (same_Some (pair_of_sync s precise) p q) }
    by_tests s true true false at ring_at is q = absurd (none-some p q)
    by_tests s true false c at ring_at is q = absurd (none-some p q)
    by_tests s false b c at ring_at is q = absurd (none-some p q)

    by_last : (o : Option HeldSync) → last_sync ring calls ≡ o →
        option_and_then (λ s. if (s.seq == seq) && (not (is_followed ring seq calls) && is_some (phase_in (last_samples ring calls) s.sample)) then Some (pair_of_sync s precise) else None) o ≡ Some p → PairOf ring calls seq precise p
    by_last None is q = absurd (none-some p q)
    by_last (Some s) is q = by_tests s (s.seq == seq) (not (is_followed ring seq calls)) (is_some (phase_in (last_samples ring calls) s.sample)) refl refl is q

-- a kept Sync latched a sample of the chain, which was in the ring
pub record KeptOf (ring : ℕ) (calls : List Call) (seq : ℕ) (correction : ℤ) (t2 : Stamp) (tick : ℕ) (held : HeldSync) : Type 0 where
  pub phase : ℤ
  pub first : ℕ
  pub begins : first_sample calls ≡ Some first
  pub since : first ≤ t2.sample
  pub latched : phase_in (last_samples ring calls) t2.sample ≡ Some phase
  pub is : held ≡ held_sync seq correction t2 tick phase

le_of : (a b : ℕ) → nat_le a b ≡ true → a ≤ b
le_of a b e = grind (arith, e)

pub kept_of : (ring : ℕ) (calls : List Call) (seq : ℕ) (correction : ℤ) (t2 : Stamp) (tick : ℕ) (held : HeldSync) → kept_sync ring calls seq correction t2 tick ≡ Some held → KeptOf ring calls seq correction t2 tick held
kept_of ring calls seq correction t2 tick held e = by_first (first_sample calls) refl e
  where
    by_phase : (first : ℕ) (o : Option ℤ) → first_sample calls ≡ Some first → first ≤ t2.sample → phase_in (last_samples ring calls) t2.sample ≡ o → option_map (held_sync seq correction t2 tick) o ≡ Some held → KeptOf ring calls seq correction t2 tick held
    by_phase first None is since at q = absurd (none-some held q)
    by_phase first (Some u) is since at q = record { phase = u; first = first; begins = is; since = since; latched = at; is = sym (same_Some (held_sync seq correction t2 tick u) held q) }

    by_order : (first : ℕ) (b : Bool) → first_sample calls ≡ Some first → nat_le first t2.sample ≡ b → option_map (held_sync seq correction t2 tick) (if b then phase_in (last_samples ring calls) t2.sample else None) ≡ Some held → KeptOf ring calls seq correction t2 tick held
    by_order first true is le q = by_phase first (phase_in (last_samples ring calls) t2.sample) is (le_of first t2.sample le) refl q
    by_order first false is le q = absurd (none-some held q)

    by_first : (o : Option ℕ) → first_sample calls ≡ o → option_map (held_sync seq correction t2 tick) (phase_since o (last_samples ring calls) t2.sample) ≡ Some held → KeptOf ring calls seq correction t2 tick held
    by_first None is q = absurd (none-some held q)
    by_first (Some first) is q = by_order first (nat_le first t2.sample) is refl q

-- The sample of a number, in a ring

abbrev pub Above : ℕ → List GoodSample → Type 0
Above n xs = AllByRecursion (λ x. n < x.number) xs

abbrev pub Below : ℕ → List GoodSample → Type 0
Below n xs = AllByRecursion (λ x. x.number < n) xs

not_less : (a b : ℕ) → a < b → (a == b) ≡ true → ⊥
not_less a b l e = let is : a ≡ b = eqb-true a b e in omega (arith, l, is)

not_more : (a b : ℕ) → b < a → (a == b) ≡ true → ⊥
not_more a b l e = let is : a ≡ b = eqb-true a b e in omega (arith, l, is)

none_by : (ring n : ℕ) (u : ℤ) (x : GoodSample) (xs : List GoodSample) (b : Bool) → (x.number == n) ≡ b → x.number < n → (phase_in (take ring xs) n ≡ Some u → ⊥) → option_map (λ (s : GoodSample). s.phase) (cond b (Some x) (find (λ s. s.number == n) (take ring xs))) ≡ Some u → ⊥
none_by ring n u x xs true e l rest q = not_less x.number n l e
none_by ring n u x xs false e l rest q = rest q

none_below : (ring n : ℕ) (u : ℤ) (xs : List GoodSample) → Below n xs → phase_in (take ring xs) n ≡ Some u → ⊥
none_below zero n u xs h q = none-some u q
none_below (suc ring) n u [] h q = none-some u q
none_below (suc ring) n u (x ∷ xs) h q = none_by ring n u x xs (x.number == n) refl h.0 (none_below ring n u xs h.1) q

lower : (m n : ℕ) (xs : List GoodSample) → m ≤ n → Below m xs → Below n xs
lower m n [] l h = tt
lower m n (x ∷ xs) l h = (below x.number m n h.0 l, lower m n xs l h.1)
  where
    below : (a b c : ℕ) → a < b → b ≤ c → a < c
    below a b c h k = omega (arith, h, k)

-- the newest sample that is not above the number is the one, and few are before it
pub record Found (ring n : ℕ) (u : ℤ) (xs : List GoodSample) (g : GoodSample) : Type 0 where
  pub number : g.number ≡ n
  pub phase : u ≡ g.phase
  pub few : length xs < ring

some_more : (a b : ℕ) → a < b → suc a < suc b
some_more a b h = omega (arith, h)

here_by : (ring n : ℕ) (u : ℤ) (g : GoodSample) (rest : List GoodSample) (b : Bool) → (g.number == n) ≡ b → g.number ≤ n → Below g.number rest →
    option_map (λ (s : GoodSample). s.phase) (cond b (Some g) (find (λ s. s.number == n) (take ring rest))) ≡ Some u → Found (suc ring) n u [] g
here_by ring n u g rest true e le below q = record { number = eqb-true g.number n e; phase = sym (same_Some g.phase u q); few = some_ring ring }
  where
    some_ring : (k : ℕ) → 0 < suc k
    some_ring k = omega arith
here_by ring n u g rest false e le below q = absurd (none_below ring n u rest (lower g.number n rest le below) q)

past_by : (ring n : ℕ) (u : ℤ) (x : GoodSample) (xs : List GoodSample) (g : GoodSample) (rest : List GoodSample) (b : Bool) → (x.number == n) ≡ b → n < x.number → (phase_in (take ring (xs ++ g ∷ rest)) n ≡ Some u → Found ring n u xs g) →
    option_map (λ (s : GoodSample). s.phase) (cond b (Some x) (find (λ s. s.number == n) (take ring (xs ++ g ∷ rest)))) ≡ Some u → Found (suc ring) n u (x ∷ xs) g
past_by ring n u x xs g rest true e l h q = absurd (not_more x.number n l e)
past_by ring n u x xs g rest false e l h q = let f : Found ring n u xs g = h q in record { number = f.number; phase = f.phase; few = some_more (length xs) ring f.few }

pub found : (ring n : ℕ) (u : ℤ) (xs : List GoodSample) (g : GoodSample) (rest : List GoodSample) → Above n xs → g.number ≤ n → Below g.number rest → phase_in (take ring (xs ++ g ∷ rest)) n ≡ Some u → Found ring n u xs g
found zero n u xs g rest above le below q = absurd (none-some u q)
found (suc ring) n u [] g rest above le below q = here_by ring n u g rest (g.number == n) refl le below q
found (suc ring) n u (x ∷ xs) g rest above le below q = past_by ring n u x xs g rest (x.number == n) refl above.0 (found ring n u xs g rest above.1 le below) q

pub some_phase : (o : Option ℤ) → is_some o ≡ true → (u : ℤ) × (o ≡ Some u)
some_phase None e = absurd cc
some_phase (Some u) e = (u, refl)
