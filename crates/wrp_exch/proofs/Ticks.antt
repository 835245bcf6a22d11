-- Neither pair's tick falls when the pair is replaced, and so the four's tick never falls, as long as
-- the given ticks do not fall. The argument is the same for both halves of an exchange: a half holds a
-- piece that has the tick of a call, and a pair that has the tick of a piece.
use Rattle.std.proofs.Common.{◌≡◌, refl, subst, sym, ◌⊎◌, inl, inr, ℕ, ℤ, ◌≤◌, Bool, true, false, if◌then◌else◌, ◌==◌, ◌&&◌, not, List, [], ◌∷◌, ◌++◌, Option, Some, None, IfSome, arith}
use Rattle.std.specs.Option.{is_some, option_map, option_and_then}
use Rattle.wrp_base.specs.declared.time.Stamp.{Stamp}
use Rattle.wrp_base.proofs.Options.{either_holds}
use Rattle.wrp_exch.specs.declared.sync.HeldSync.{HeldSync}
use Rattle.wrp_exch.specs.declared.sync.SyncPair.{SyncPair}
use Rattle.wrp_exch.specs.declared.delay.Sent.{Sent}
use Rattle.wrp_exch.specs.declared.delay.DelayPair.{DelayPair}
use Rattle.wrp_exch.specs.Call.{Call, CallStart, CallClear, CallSync, CallFollowUp, CallReqOut, CallReqSent, CallResp}
use Rattle.wrp_exch.specs.Samples.{phase_in, last_samples}
use Rattle.wrp_exch.specs.Chain.{latched_phase}
use Rattle.wrp_exch.specs.SyncPair.{held_sync, kept_sync, last_sync, is_followed, pair_of_sync, followed_pair, sync_pair}
use Rattle.wrp_exch.specs.DelayPair.{held_sent, last_request, usable_sent, first_sent, is_answered, pair_of_sent, answered_pair, delay_pair}
use Rattle.wrp_exch.specs.Exchange.{four_of, join_pairs}
use Rattle.wrp_exch.specs.Ticks.{tick_of, NoneAfter, TicksRise, NotOlder}

-- ---- what holds of a value, if there is one

mapped : {A B : Type 0} (P : B → Type 0) (f : A → B) (o : Option A) → ((x : A) → P (f x)) → IfSome (option_map f o) P
mapped P f None h = tt
mapped P f (Some x) h = h x

weaker : {A : Type 0} (P Q : A → Type 0) (o : Option A) → ((x : A) → P x → Q x) → IfSome o P → IfSome o Q
weaker P Q None h a = tt
weaker P Q (Some x) h a = h x a

both : {A : Type 0} (P Q R : A → Type 0) (o : Option A) → ((x : A) → P x → Q x → R x) → IfSome o P → IfSome o Q → IfSome o R
both P Q R None h a b = tt
both P Q R (Some x) h a b = h x a b

always : {A : Type 0} (o : Option A) → IfSome o (λ _. Unit {0})
always None = tt
always (Some x) = tt

itself : {A : Type 0} (tick : A → ℕ) (o : Option A) → IfSome o (λ x. IfSome o (λ y. tick x ≤ tick y))
itself tick None = tt
itself tick (Some x) = omega arith

-- ---- a part of the calls

-- what no tick in all calls is after, none in a part of them is after
none_after-part : (tick : ℕ) (since calls : List Call) → NoneAfter tick (since ++ calls) → NoneAfter tick calls
none_after-part tick [] calls h = h
none_after-part tick (call ∷ since) calls h = none_after-part tick since calls h.1

ticks_rise-part : (since calls : List Call) → TicksRise (since ++ calls) → TicksRise calls
ticks_rise-part [] calls h = h
ticks_rise-part (call ∷ since) calls h = ticks_rise-part since calls h.1

-- ---- a half of an exchange

-- a half: what it holds and what it has paired after calls, and the tick of either
record Half (A B : Type 0) : Type 0 where
  held : List Call → Option B
  pair : List Call → Option A
  held_at : B → ℕ
  pair_at : A → ℕ

-- one more call: what is held has the tick of the call or of what was held; a pair has the tick of what
-- was held or of the pair before; and never do both change, unless the pair is dropped
record IsHalf {A B : Type 0} (half : Half A B) : Type 1 where
  holds_none : half.held [] ≡ None
  pairs_none : half.pair [] ≡ None
  holds : (P : ℕ → Type 0) (call : Call) (calls : List Call) → IfSome (tick_of call) P → IfSome (half.held calls) (λ s. P (half.held_at s)) → IfSome (half.held (call ∷ calls)) (λ s. P (half.held_at s))
  pairs : (P : ℕ → Type 0) (call : Call) (calls : List Call) → IfSome (half.held calls) (λ s. P (half.held_at s)) → IfSome (half.pair calls) (λ p. P (half.pair_at p)) → IfSome (half.pair (call ∷ calls)) (λ p. P (half.pair_at p))
  steady : (call : Call) (calls : List Call) → (half.pair (call ∷ calls) ≡ half.pair calls) ⊎ ((half.held (call ∷ calls) ≡ half.held calls) ⊎ (half.pair (call ∷ calls) ≡ None))

none-if : {A : Type 0} (P : A → Type 0) (o : Option A) → o ≡ None → IfSome o P
none-if P o e = subst (λ x. IfSome x P) (sym e) tt

held-told : {A B : Type 0} (half : Half A B) → IsHalf half → (tick : ℕ) (calls : List Call) → NoneAfter tick calls → IfSome (half.held calls) (λ s. half.held_at s ≤ tick)
held-told half is tick [] h = none-if (λ s. half.held_at s ≤ tick) (half.held []) is.holds_none
held-told half is tick (call ∷ calls) h = is.holds (λ t. t ≤ tick) call calls h.0 (held-told half is tick calls h.1)

pair-told : {A B : Type 0} (half : Half A B) → IsHalf half → (tick : ℕ) (calls : List Call) → NoneAfter tick calls → IfSome (half.pair calls) (λ p. half.pair_at p ≤ tick)
pair-told half is tick [] h = none-if (λ p. half.pair_at p ≤ tick) (half.pair []) is.pairs_none
pair-told half is tick (call ∷ calls) h =
    is.pairs (λ t. t ≤ tick) call calls (held-told half is tick calls h.1) (pair-told half is tick calls h.1)

-- a pair is not after the tick of a later call, if it has one
pair-before : {A B : Type 0} (half : Half A B) → IsHalf half → (calls : List Call) (tick : Option ℕ) → IfSome tick (λ t. NoneAfter t calls) → IfSome (half.pair calls) (λ p. IfSome tick (λ t. half.pair_at p ≤ t))
pair-before half is calls None h = always (half.pair calls)
pair-before half is calls (Some t) h = pair-told half is t calls h

-- what is held is not before the pair
pair-last : {A B : Type 0} (half : Half A B) → IsHalf half → (calls : List Call) → TicksRise calls → IfSome (half.pair calls) (λ p. IfSome (half.held calls) (λ s. half.pair_at p ≤ half.held_at s))
pair-last half is [] h = none-if (λ p. IfSome (half.held []) (λ s. half.pair_at p ≤ half.held_at s)) (half.pair []) is.pairs_none
pair-last {A} {B} half is (call ∷ calls) h =
    let NotAfter : Option B → A → Type 0 = λ held p. IfSome held (λ s. half.pair_at p ≤ half.held_at s) in
    let next : Option B = half.held (call ∷ calls) in
    elim (is.steady call calls) [
      | inl same ↦
          subst (λ x. IfSome x (NotAfter next)) (sym same)
          (both (λ p. IfSome (tick_of call) (λ t. half.pair_at p ≤ t)) (NotAfter (half.held calls)) (NotAfter next) (half.pair calls)
          (λ p told before. is.holds (λ t. half.pair_at p ≤ t) call calls told before)
          (pair-before half is calls (tick_of call) h.0)
          (pair-last half is calls h.1))
      | inr rest ↦
          elim rest [
            | inl same ↦
                subst (λ x. IfSome (half.pair (call ∷ calls)) (NotAfter x)) (sym same)
                (is.pairs (λ t. IfSome (half.held calls) (λ s. t ≤ half.held_at s)) call calls (itself half.held_at (half.held calls)) (pair-last half is calls h.1))
            | inr none ↦ none-if (NotAfter next) (half.pair (call ∷ calls)) none
          ]
    ]

held-later : {A B : Type 0} (half : Half A B) → IsHalf half → (least : ℕ) (since calls : List Call) → ((t : ℕ) → NoneAfter t calls → least ≤ t)
    → IfSome (half.held calls) (λ s. least ≤ half.held_at s) → TicksRise (since ++ calls) → IfSome (half.held (since ++ calls)) (λ s. least ≤ half.held_at s)
held-later half is least [] calls told last h = last
held-later half is least (call ∷ since) calls told last h =
    is.holds (λ t. least ≤ t) call (since ++ calls)
    (weaker (λ t. NoneAfter t (since ++ calls)) (λ t. least ≤ t) (tick_of call) (λ t after. told t (none_after-part t since calls after)) h.0)
    (held-later half is least since calls told last h.1)

pair-later : {A B : Type 0} (half : Half A B) → IsHalf half → (least : ℕ) (since calls : List Call) → ((t : ℕ) → NoneAfter t calls → least ≤ t)
    → IfSome (half.held calls) (λ s. least ≤ half.held_at s) → TicksRise (since ++ calls)
    → IfSome (half.pair calls) (λ p. least ≤ half.pair_at p) → IfSome (half.pair (since ++ calls)) (λ q. least ≤ half.pair_at q)
pair-later half is least [] calls told last h pair = pair
pair-later half is least (call ∷ since) calls told last h pair =
    is.pairs (λ t. least ≤ t) call (since ++ calls)
    (held-later half is least since calls told last h.1)
    (pair-later half is least since calls told last h.1 pair)

-- from a bound on what is there to an order between what is there and what is there later
ordered : {A B : Type 0} (pair : A → ℕ) (held : B → ℕ) (calls : List Call) (o later : Option A) (last : Option B)
    → ((t : ℕ) → NoneAfter t calls → IfSome o (λ p. pair p ≤ t))
    → IfSome o (λ p. IfSome last (λ s. pair p ≤ held s))
    → ((least : ℕ) → ((t : ℕ) → NoneAfter t calls → least ≤ t) → IfSome last (λ s. least ≤ held s) → IfSome o (λ p. least ≤ pair p) → IfSome later (λ q. least ≤ pair q))
    → IfSome o (λ p. IfSome later (λ q. pair p ≤ pair q))
ordered pair held calls None later last told start all = tt
ordered pair held calls (Some p) later last told start all = all (pair p) told start (omega arith)

-- a later pair is not older
pair-rises : {A B : Type 0} (half : Half A B) → IsHalf half → (since calls : List Call) → TicksRise (since ++ calls)
    → IfSome (half.pair calls) (λ p. IfSome (half.pair (since ++ calls)) (λ q. half.pair_at p ≤ half.pair_at q))
pair-rises half is since calls h =
    ordered half.pair_at half.held_at calls (half.pair calls) (half.pair (since ++ calls)) (half.held calls)
    (λ t told. pair-told half is t calls told)
    (pair-last half is calls (ticks_rise-part since calls h))
    (λ least told last pair. pair-later half is least since calls told last h pair)

-- ---- Sync and Follow_Up

abbrev sync_ticks : ℕ → Half SyncPair HeldSync
sync_ticks ring = record { held = last_sync ring; pair = sync_pair ring; held_at = λ s. s.tick; pair_at = λ p. p.tick }

holds-sync : (ring : ℕ) (P : ℕ → Type 0) (call : Call) (calls : List Call) → IfSome (tick_of call) P → IfSome (last_sync ring calls) (λ s. P s.tick) → IfSome (last_sync ring (call ∷ calls)) (λ s. P s.tick)
holds-sync ring P (CallStart first) calls told held = tt
holds-sync ring P CallClear calls told held = tt
holds-sync ring P (CallSync seq correction t2 t) calls told held =
    either_holds (λ s. P s.tick) (kept_sync ring calls seq correction t2 t) (last_sync ring calls)
    (mapped (λ s. P s.tick) (held_sync seq correction t2 t) (latched_phase ring calls t2.sample) (λ _. told))
    held
holds-sync ring P _ calls told held = held

pair_tick : (P : ℕ → Type 0) (test : HeldSync → Bool) (precise : ℤ) (last : Option HeldSync)
    → IfSome last (λ s. P s.tick) → IfSome (option_and_then (λ s. if test s then Some (pair_of_sync s precise) else None) last) (λ p. P p.tick)
pair_tick P test precise None h = tt
pair_tick P test precise (Some s) h = elim (test s) as (λ b. IfSome (if b then Some (pair_of_sync s precise) else None) (λ p. P p.tick)) [ true ↦ h | false ↦ tt ]

pairs-sync : (ring : ℕ) (P : ℕ → Type 0) (call : Call) (calls : List Call) → IfSome (last_sync ring calls) (λ s. P s.tick) → IfSome (sync_pair ring calls) (λ p. P p.tick) → IfSome (sync_pair ring (call ∷ calls)) (λ p. P p.tick)
pairs-sync ring P (CallStart first) calls held pair = tt
pairs-sync ring P CallClear calls held pair = tt
pairs-sync ring P (CallFollowUp seq precise) calls held pair =
    either_holds (λ p. P p.tick) (followed_pair ring calls seq precise) (sync_pair ring calls)
    (pair_tick P (λ s. (s.seq == seq) && (not (is_followed ring seq calls) && is_some (phase_in (last_samples ring calls) s.sample))) precise (last_sync ring calls) held)
    pair
pairs-sync ring P _ calls held pair = pair

steady-sync : (ring : ℕ) (call : Call) (calls : List Call) → (sync_pair ring (call ∷ calls) ≡ sync_pair ring calls) ⊎ ((last_sync ring (call ∷ calls) ≡ last_sync ring calls) ⊎ (sync_pair ring (call ∷ calls) ≡ None))
steady-sync ring (CallStart first) calls = inr (inr refl)
steady-sync ring CallClear calls = inr (inr refl)
steady-sync ring (CallFollowUp seq precise) calls = inr (inl refl)
steady-sync ring _ calls = inl refl

sync-is_half : (ring : ℕ) → IsHalf (sync_ticks ring)
sync-is_half ring = record { holds_none = refl; pairs_none = refl; holds = holds-sync ring; pairs = pairs-sync ring; steady = steady-sync ring }

-- ---- Delay_Req and Delay_Resp

abbrev delay_ticks : ℕ → Half DelayPair Sent
delay_ticks ring = record { held = first_sent ring; pair = delay_pair ring; held_at = λ s. s.tick; pair_at = λ p. p.tick }

usable-tick : (P : ℕ → Type 0) (seq tick : ℕ) (t3 : Stamp) (phase : Option ℤ) (last : Option ℕ)
    → P tick → IfSome (option_and_then (λ id. if id == seq then option_map (held_sent t3 tick) phase else None) last) (λ s. P s.tick)
usable-tick P seq tick t3 phase None h = tt
usable-tick P seq tick t3 phase (Some id) h =
    elim (id == seq) as (λ b. IfSome (if b then option_map (held_sent t3 tick) phase else None) (λ s. P s.tick))
    [ true ↦ mapped (λ s. P s.tick) (held_sent t3 tick) phase (λ _. h) | false ↦ tt ]

answer-tick : (P : ℕ → Type 0) (test : ℕ → Bool) (t4 : ℤ) (sent : Option Sent) (last : Option ℕ)
    → IfSome sent (λ s. P s.tick) → IfSome (option_and_then (λ id. if test id then option_map (pair_of_sent t4) sent else None) last) (λ p. P p.tick)
answer-tick P test t4 sent None h = tt
answer-tick P test t4 None (Some id) h = elim (test id) as (λ b. IfSome (if b then option_map (pair_of_sent t4) None else None) (λ p. P p.tick)) [ true ↦ tt | false ↦ tt ]
answer-tick P test t4 (Some s) (Some id) h = elim (test id) as (λ b. IfSome (if b then option_map (pair_of_sent t4) (Some s) else None) (λ p. P p.tick)) [ true ↦ h | false ↦ tt ]

holds-sent : (ring : ℕ) (P : ℕ → Type 0) (call : Call) (calls : List Call) → IfSome (tick_of call) P → IfSome (first_sent ring calls) (λ s. P s.tick) → IfSome (first_sent ring (call ∷ calls)) (λ s. P s.tick)
holds-sent ring P (CallStart first) calls told held = tt
holds-sent ring P CallClear calls told held = tt
holds-sent ring P (CallReqOut seq) calls told held = tt
holds-sent ring P (CallReqSent seq t3 t) calls told held =
    either_holds (λ s. P s.tick) (first_sent ring calls) (usable_sent ring calls seq t3 t)
    held
    (usable-tick P seq t t3 (latched_phase ring calls t3.sample) (last_request calls) told)
holds-sent ring P _ calls told held = held

pairs-delay : (ring : ℕ) (P : ℕ → Type 0) (call : Call) (calls : List Call) → IfSome (first_sent ring calls) (λ s. P s.tick) → IfSome (delay_pair ring calls) (λ p. P p.tick) → IfSome (delay_pair ring (call ∷ calls)) (λ p. P p.tick)
pairs-delay ring P (CallStart first) calls held pair = tt
pairs-delay ring P CallClear calls held pair = tt
pairs-delay ring P (CallResp seq t4) calls held pair =
    either_holds (λ p. P p.tick) (answered_pair ring calls seq t4) (delay_pair ring calls)
    (answer-tick P (λ id. (id == seq) && not (is_answered ring seq calls)) t4 (first_sent ring calls) (last_request calls) held)
    pair
pairs-delay ring P _ calls held pair = pair

steady-delay : (ring : ℕ) (call : Call) (calls : List Call) → (delay_pair ring (call ∷ calls) ≡ delay_pair ring calls) ⊎ ((first_sent ring (call ∷ calls) ≡ first_sent ring calls) ⊎ (delay_pair ring (call ∷ calls) ≡ None))
steady-delay ring (CallStart first) calls = inr (inr refl)
steady-delay ring CallClear calls = inr (inr refl)
steady-delay ring (CallResp seq t4) calls = inr (inl refl)
steady-delay ring _ calls = inl refl

delay-is_half : (ring : ℕ) → IsHalf (delay_ticks ring)
delay-is_half ring = record { holds_none = refl; pairs_none = refl; holds = holds-sent ring; pairs = pairs-delay ring; steady = steady-delay ring }

-- ---- the four

joined : (p q : Option SyncPair) (d e : Option DelayPair) → IfSome p (λ x. IfSome q (λ y. x.tick ≤ y.tick)) → IfSome d (λ x. IfSome e (λ y. x.tick ≤ y.tick)) → NotOlder (join_pairs p d) (join_pairs q e)
joined None q d e a b = tt
joined (Some p) q None e a b = tt
joined (Some p) None (Some d) e a b = tt
joined (Some p) (Some q) (Some d) None a b = tt
joined (Some p) (Some q) (Some d) (Some e) a b = omega arith

-- a later four is not older
pub four_of-rises : (ring : ℕ) (since calls : List Call) → TicksRise (since ++ calls) → NotOlder (four_of ring calls) (four_of ring (since ++ calls))
four_of-rises ring since calls h =
    joined (sync_pair ring calls) (sync_pair ring (since ++ calls)) (delay_pair ring calls) (delay_pair ring (since ++ calls))
    (pair-rises (sync_ticks ring) (sync-is_half ring) since calls h)
    (pair-rises (delay_ticks ring) (delay-is_half ring) since calls h)

within : (tick : ℕ) (p : Option SyncPair) (d : Option DelayPair) → IfSome p (λ x. x.tick ≤ tick) → IfSome (join_pairs p d) (λ f. f.tick ≤ tick)
within tick None d h = tt
within tick (Some p) None h = tt
within tick (Some p) (Some d) h = omega arith

-- the four's tick was given
pub four_of-told : (ring tick : ℕ) (calls : List Call) → NoneAfter tick calls → IfSome (four_of ring calls) (λ f. f.tick ≤ tick)
four_of-told ring tick calls h = within tick (sync_pair ring calls) (delay_pair ring calls) (pair-told (sync_ticks ring) (sync-is_half ring) tick calls h)
