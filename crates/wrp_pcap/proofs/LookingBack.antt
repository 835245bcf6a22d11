-- One more message: what looking back finds, as it is kept.
use Rattle.std.proofs.Common.{◌≡◌, refl, sym, ap, ◌∙◌, ap₂, subst, ℕ, zero, suc, ◌+◌, ◌<◌, Bool, true, false, ◌&&◌, if◌then◌else◌, nat_lt, List, [], ◌∷◌, ◌++◌, length, reverse, take, replicate, Option, None, Some, arith}
use Rattle.std.proofs.lemmas.Bool.{lt-ltb, le-ltb}
use Rattle.std.proofs.lemmas.List.{reverse-append, length-append, get_or_append_left}
use Rattle.std.specs.List.{AllByRecursion}
use Rattle.std.specs.Option.{option_or}
use Rattle.wrp_base.proofs.Lists.{all_append}
use Rattle.wrp_pcap.specs.declared.chain.Behind.TheVariants as behind
use Rattle.wrp_pcap.specs.Certificate.{Captured, Back, lacks, finds, with_number, look_back, first_above, lock_of, IsAbove}
use Rattle.wrp_pcap.specs.Chain.{kept, present_of, behind_of, behind_at, followed, locked_behind, begun_again}

-- ---- what looking back finds

-- this many numbers are found, if none is missing
abbrev pub HasCount : ℕ → Back → Type 0
HasCount count (lacks place) = Unit {0}
HasCount count (finds numbers) = length numbers ≡ count

count_more : (count number : ℕ) (back : Back) → HasCount count back → HasCount (count + 1) (with_number number back)
count_more count number (lacks place) h = tt
count_more count number (finds numbers) h = let long = length-append numbers (number ∷ []) in omega (arith, long, h)

pub count_is : (steps : List (Captured → Bool)) (captured : List Captured) → HasCount (length steps) (look_back steps captured)
count_is [] captured = refl
count_is (step ∷ steps) [] = tt
count_is (step ∷ steps) (newest ∷ before) =
    elim (step newest) as (λ b. HasCount (length (step ∷ steps)) (if b then with_number newest.number (look_back steps before) else look_back (step ∷ steps) before)) [
      | true ↦
          subst (λ n. HasCount n (with_number newest.number (look_back steps before))) (omega arith)
          (count_more (length steps) newest.number (look_back steps before) (count_is steps before))
      | false ↦ count_is (step ∷ steps) before
    ]

-- the numbers that are found are below this one
abbrev pub HasBelow : ℕ → Back → Type 0
HasBelow number (lacks place) = Unit {0}
HasBelow number (finds numbers) = AllByRecursion (λ n. n < number) numbers

below_more : (number n : ℕ) (back : Back) → n < number → HasBelow number back → HasBelow number (with_number n back)
below_more number n (lacks place) lt h = tt
below_more number n (finds numbers) lt h = all_append (λ k. k < number) numbers (n ∷ []) h (lt, tt)

pub below_is : (number : ℕ) (steps : List (Captured → Bool)) (captured : List Captured) → IsAbove number captured → HasBelow number (look_back steps captured)
below_is number [] captured above = tt
below_is number (step ∷ steps) [] above = tt
below_is number (step ∷ steps) (newest ∷ before) above =
    elim (step newest) as (λ b. HasBelow number (if b then with_number newest.number (look_back steps before) else look_back (step ∷ steps) before)) [
      | true ↦ below_more number newest.number (look_back steps before) above.0 (below_is number steps before above.1)
      | false ↦ below_is number (step ∷ steps) before above.1
    ]

-- p2 is one of them
second_below : (numbers : List ℕ) (number : ℕ) → 1 < length numbers → AllByRecursion (λ n. n < number) numbers → lock_of numbers < number
second_below [] number many below = absurd (omega arith)
second_below (n ∷ []) number many below = absurd (omega arith)
second_below (n ∷ m ∷ numbers) number many below = below.1.0

-- ---- the first SLAVE_PRESENT since the LOCK

option_or-none : (o : Option ℕ) → option_or o None ≡ o
option_or-none None = refl
option_or-none (Some n) = refl

and_false : (b : Bool) → (b && false) ≡ false
and_false true = refl
and_false false = refl

first_above-other : (test : Captured → Bool) (number : ℕ) (newest : Captured) (before : List Captured) → test newest ≡ false →
    first_above test number (newest ∷ before) ≡ first_above test number before
first_above-other test number newest before other =
    ap (λ b. option_or (first_above test number before) (if b && nat_lt number newest.number then Some newest.number else None)) other
    ∙ option_or-none (first_above test number before)

first_above-none : (test : Captured → Bool) (number : ℕ) (captured : List Captured) → IsAbove number captured → first_above test number captured ≡ None
first_above-none test number [] above = refl
first_above-none test number (newest ∷ before) above =
    let low : nat_lt number newest.number ≡ false = le-ltb number newest.number (omega (arith, above.0)) in
    ap₂ (λ o b. option_or o (if b then Some newest.number else None)) (first_above-none test number before above.1)
    (ap (λ b. test newest && b) low ∙ and_false (test newest))

-- ---- what is kept

take_of_take : {A : Type 0} (n : ℕ) (xs : List A) → take n (take (suc n) xs) ≡ take n xs
take_of_take n [] = refl
take_of_take zero (x ∷ xs) = refl
take_of_take (suc n) (x ∷ xs) = ap (λ l. x ∷ l) (take_of_take n xs)

kept_more : (numbers : List ℕ) (n : ℕ) → kept (numbers ++ n ∷ []) ≡ n ∷ take 6 (kept numbers)
kept_more numbers n =
    ap (λ l. take 7 (l ++ replicate 7 0)) (reverse-append numbers (n ∷ []))
    ∙ ap (λ l. n ∷ l) (sym (take_of_take 6 (reverse numbers ++ replicate 7 0)))

-- no next message of the handshake: a SLAVE_PRESENT may begin it again
again_is : (numbers : List ℕ) (first : Option ℕ) (present low : Bool) (n : ℕ) → low ≡ true →
    behind.Whole numbers (option_or first (if present && low then Some n else None))
    ≡ (if present then begun_again n (behind.Whole numbers first) else behind.Whole numbers first)
again_is numbers None true true n e = refl
again_is numbers (Some first) true true n e = refl
again_is numbers first false low n e = ap (behind.Whole numbers) (option_or-none first)
again_is numbers first true false n e = absurd cc

behind_more : (present : Captured → Bool) (newest : Captured) (before : List Captured) (count : ℕ) (back : Back) →
    1 < count → HasCount count back → HasBelow newest.number back →
    behind_of present (newest ∷ before) back
    ≡ (if present newest then begun_again newest.number (behind_of present before back) else behind_of present before back)
behind_more present newest before count (lacks place) many long below =
    elim (present newest) as (λ b. behind.Missing place ≡ (if b then behind.Missing place else behind.Missing place)) [
      | true ↦ refl
      | false ↦ refl
    ]
behind_more present newest before count (finds numbers) many long below =
    again_is (kept numbers) (first_above present (lock_of numbers) before) (present newest) (nat_lt (lock_of numbers) newest.number) newest.number
    (lt-ltb (lock_of numbers) newest.number (second_below numbers newest.number (omega (arith, many, long)) below))

-- the next message
behind_next : (present : Captured → Bool) (newest : Captured) (before : List Captured) (count : ℕ) (back : Back) →
    1 < count → HasCount count back → present newest ≡ false →
    behind_of present (newest ∷ before) (with_number newest.number back) ≡ followed newest.number (behind_of present before back)
behind_next present newest before count (lacks place) many long other = refl
behind_next present newest before count (finds numbers) many long other =
    ap₂ behind.Whole (kept_more numbers newest.number)
    (ap (λ lock. first_above present lock (newest ∷ before)) (get_or_append_left numbers (newest.number ∷ []) 0 1 (omega (arith, many, long)))
    ∙ first_above-other present (lock_of numbers) newest before other)

-- what is kept at a message of the handshake after the LOCK
pub behind_after : (present step : Captured → Bool) (steps : List (Captured → Bool)) (newest : Captured) (before : List Captured) →
    1 < length steps → IsAbove newest.number before → (step newest ≡ true → present newest ≡ false) →
    behind_at present (step ∷ steps) (newest ∷ before)
    ≡ (if step newest then followed newest.number (behind_at present steps before) else
    (if present newest then begun_again newest.number (behind_at present (step ∷ steps) before) else behind_at present (step ∷ steps) before))
behind_after present step steps newest before many above apart =
    elim (step newest) as (λ b. step newest ≡ b →
    behind_of present (newest ∷ before) (if b then with_number newest.number (look_back steps before) else look_back (step ∷ steps) before)
    ≡ (if b then followed newest.number (behind_at present steps before) else
    (if present newest then begun_again newest.number (behind_at present (step ∷ steps) before) else behind_at present (step ∷ steps) before))) [
      | true ↦ λ is. behind_next present newest before (length steps) (look_back steps before) many (count_is steps before) (apart is)
      | false ↦ λ is.
          behind_more present newest before (length (step ∷ steps)) (look_back (step ∷ steps) before) (omega (arith, many))
          (count_is (step ∷ steps) before) (below_is newest.number (step ∷ steps) before above)
    ] refl

-- ---- SLAVE_PRESENT and LOCK

-- one number is found, or none
abbrev IsFirst : Back → Type 0
IsFirst (lacks place) = place ≡ 1
IsFirst (finds []) = ⊥
IsFirst (finds (n ∷ [])) = Unit {0}
IsFirst (finds (n ∷ m ∷ numbers)) = ⊥

first_is : (step : Captured → Bool) (captured : List Captured) → IsFirst (look_back (step ∷ []) captured)
first_is step [] = refl
first_is step (newest ∷ before) =
    elim (step newest) as (λ b. IsFirst (if b then finds (newest.number ∷ []) else look_back (step ∷ []) before)) [
      | true ↦ tt
      | false ↦ first_is step before
    ]

pub present_after : (step : Captured → Bool) (newest : Captured) (before : List Captured) →
    present_of (look_back (step ∷ []) (newest ∷ before)) ≡ (if step newest then Some newest.number else present_of (look_back (step ∷ []) before))
present_after step newest before =
    elim (step newest) as (λ b. present_of (if b then finds (newest.number ∷ []) else look_back (step ∷ []) before)
    ≡ (if b then Some newest.number else present_of (look_back (step ∷ []) before))) [
      | true ↦ refl
      | false ↦ refl
    ]

lock_next : (present : Captured → Bool) (newest : Captured) (before : List Captured) (back : Back) →
    IsFirst back → IsAbove newest.number before → present newest ≡ false →
    behind_of present (newest ∷ before) (with_number newest.number back) ≡ locked_behind newest.number (present_of back)
lock_next present newest before (lacks place) one above other = ap behind.Missing one
lock_next present newest before (finds []) one above other = absurd one
lock_next present newest before (finds (n ∷ [])) one above other =
    ap (behind.Whole (newest.number ∷ n ∷ replicate 5 0))
    (first_above-other present newest.number newest before other ∙ first_above-none present newest.number before above)
lock_next present newest before (finds (n ∷ m ∷ numbers)) one above other = absurd one

pub lock_after : (present step first : Captured → Bool) (newest : Captured) (before : List Captured) →
    IsAbove newest.number before → (step newest ≡ true → present newest ≡ false) →
    behind_at present (step ∷ first ∷ []) (newest ∷ before)
    ≡ (if step newest then locked_behind newest.number (present_of (look_back (first ∷ []) before)) else
    (if present newest then begun_again newest.number (behind_at present (step ∷ first ∷ []) before) else behind_at present (step ∷ first ∷ []) before))
lock_after present step first newest before above apart =
    elim (step newest) as (λ b. step newest ≡ b →
    behind_of present (newest ∷ before) (if b then with_number newest.number (look_back (first ∷ []) before) else look_back (step ∷ first ∷ []) before)
    ≡ (if b then locked_behind newest.number (present_of (look_back (first ∷ []) before)) else
    (if present newest then begun_again newest.number (behind_at present (step ∷ first ∷ []) before) else behind_at present (step ∷ first ∷ []) before))) [
      | true ↦ λ is. lock_next present newest before (look_back (first ∷ []) before) (first_is first before) above (apart is)
      | false ↦ λ is.
          behind_more present newest before 2 (look_back (step ∷ first ∷ []) before) (omega arith)
          (count_is (step ∷ first ∷ []) before) (below_is newest.number (step ∷ first ∷ []) before above)
    ] refl
