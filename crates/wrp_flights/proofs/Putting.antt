-- What the window keeps when a frame departs.
use Rattle.std.proofs.Common.{◌≡◌, ◌∙◌, refl, ap, sym, subst, ℕ, zero, suc, ◌+◌, ◌≤◌, ◌==◌, inl, inr, ℤ, Bool, true, false, cond, if◌then◌else◌, List, [], ◌∷◌, ◌++◌, length, Option, Some, slice_get, arith}
use Rattle.std.proofs.lemmas.Map.Lookups.{exact_pairs, exact_signed, exact_unsigned}
use Rattle.std.proofs.lemmas.Option.{slice_get_within}
use Rattle.std.specs.BTreeMap.{is_at}
use Rattle.std.specs.Cmp.{unsigned_tied}
use Rattle.std.specs.Option.{option_map_or}
use Rattle.std.specs.Ordering.{nat_cmp, int_cmp}
use Rattle.wrp_flights.specs.declared.departed.Departed.{Departed}
use Rattle.wrp_flights.specs.declared.departed.OnFibre.{OnFibre}
use Rattle.wrp_flights.specs.Ages.{Adds, AddsNone, Aged, age_cmp, has}
use Rattle.wrp_flights.specs.Departed.{is_kept, is_on, is_young}
use Rattle.wrp_flights.specs.Frames.{at, on_at, sent_at}
use Rattle.wrp_flights.specs.Listing.{Holds, IsAmong, Lists, entry_of}
use Rattle.wrp_flights.specs.Next.{IsLeast, Orders}
use Rattle.wrp_flights.proofs.Passing.{equal_is, same_number}

some_is : (f g : Departed) → Some f ≡ Some g → f ≡ g
some_is f g e = cc

get_before : (sent : List ℤ) (t x : ℤ) (i : ℕ) → slice_get sent i ≡ Some x → slice_get (sent ++ t ∷ []) i ≡ Some x
get_before [] t x i e = absurd cc
get_before (s ∷ sent) t x zero e = e
get_before (s ∷ sent) t x (suc i) e = get_before sent t x i e

get_last : (sent : List ℤ) (t : ℤ) → slice_get (sent ++ t ∷ []) (length sent) ≡ Some t
get_last [] t = refl
get_last (s ∷ sent) t = get_last sent t

sent_before : (sent : List ℤ) (t x : ℤ) (k : ℕ) → sent_at k sent ≡ Some x → sent_at k (sent ++ t ∷ []) ≡ Some x
sent_before sent t x zero e = absurd cc
sent_before sent t x (suc i) e = get_before sent t x i e

sent_last : (sent : List ℤ) (t : ℤ) (n k : ℕ) → n ≡ length sent + 1 → n ≡ k → sent_at k (sent ++ t ∷ []) ≡ Some t
sent_last sent t n k e g =
    let same : suc (length sent) ≡ k = omega (arith, e, g) in subst (λ i. sent_at i (sent ++ t ∷ []) ≡ Some t) same (get_last sent t)

same_age : (a b : ℤ × ℕ) → is_at (age_cmp a) b ≡ true → a ≡ b
same_age a b e = exact_pairs int_cmp nat_cmp exact_signed exact_unsigned a b (equal_is (age_cmp a b) e)

pub same_number_of : (a b : ℤ × ℕ) → is_at (age_cmp a) b ≡ true → a.1 ≡ b.1
same_number_of a b e = ap (λ p. p.1) (same_age a b e)

same_time_of : (a b : ℤ × ℕ) → is_at (age_cmp a) b ≡ true → a.0 ≡ b.0
same_time_of a b e = ap (λ p. p.0) (same_age a b e)

or_had : (b c : Bool) → c ≡ true → cond b true c ≡ true
or_had true c i = refl
or_had false c i = i

pub put_aged :
    (h : ℤ) (sent : List ℤ) (kept after : List (ℕ × Departed)) (ages more : List (ℤ × ℕ)) (n : ℕ) (frame : Departed) → n ≡ length sent + 1 → is_on frame ≡ true → Aged h sent kept ages →
    ((k : ℕ) → at k after ≡ cond (is_at (nat_cmp n) k) (Some frame) (at k kept)) →
    ((t : ℤ) (k : ℕ) → has t k more ≡ cond (is_at (age_cmp (frame.sent, n)) (t, k)) true (has t k ages)) → has frame.sent n more ≡ true →
    Aged h (sent ++ frame.sent ∷ []) after more
put_aged h sent kept after ages more n frame e on a g m there = record {
  told = λ k f i. told_at k f (is_at (nat_cmp n) k) refl (sym (g k) ∙ i);
  kept_is = λ k f i. kept_at k f (is_at (nat_cmp n) k) (sym (g k) ∙ i);
  young = λ k f i y. young_at k f (is_at (nat_cmp n) k) refl (sym (g k) ∙ i) y;
  dated = λ t k i. dated_at t k (is_at (age_cmp (frame.sent, n)) (t, k)) refl (sym (m t k) ∙ i);
} where
  told_at : (k : ℕ) (f : Departed) (b : Bool) → is_at (nat_cmp n) k ≡ b → cond b (Some frame) (at k kept) ≡ Some f → sent_at k (sent ++ frame.sent ∷ []) ≡ Some f.sent
  told_at k f true x i = sent_last sent frame.sent n k e (same_number n k x) ∙ ap (λ d. Some d.sent) (some_is frame f i)
  told_at k f false x i = sent_before sent frame.sent f.sent k (a.told k f i)

  kept_at : (k : ℕ) (f : Departed) (b : Bool) → cond b (Some frame) (at k kept) ≡ Some f → is_kept h f ≡ true
  kept_at k f true i = subst (λ x. is_kept h x ≡ true) (some_is frame f i) (ap (λ x. if x then true else is_young h frame) on)
  kept_at k f false i = a.kept_is k f i

  young_at : (k : ℕ) (f : Departed) (b : Bool) → is_at (nat_cmp n) k ≡ b → cond b (Some frame) (at k kept) ≡ Some f → is_young h f ≡ true → has f.sent k more ≡ true
  young_at k f true x i y = subst (λ d. has d.sent k more ≡ true) (some_is frame f i) (subst (λ q. has frame.sent q more ≡ true) (same_number n k x) there)
  young_at k f false x i y = m f.sent k ∙ or_had (is_at (age_cmp (frame.sent, n)) (f.sent, k)) (has f.sent k ages) (a.young k f i y)

  dated_at : (t : ℤ) (k : ℕ) (b : Bool) → is_at (age_cmp (frame.sent, n)) (t, k) ≡ b → cond b true (has t k ages) ≡ true → sent_at k (sent ++ frame.sent ∷ []) ≡ Some t
  dated_at t k true x i = sent_last sent frame.sent n k e (same_number_of (frame.sent, n) (t, k) x) ∙ ap Some (same_time_of (frame.sent, n) (t, k) x)
  dated_at t k false x i = sent_before sent frame.sent t k (a.dated t k i)

past_last : (sent : List ℤ) (n k : ℕ) (x : ℤ) → n ≡ length sent + 1 → n ≡ k → sent_at k sent ≡ Some x → ⊥
past_last sent n zero x e g i = absurd (omega (arith, e, g))
past_last sent n (suc k) x e g i = let l = slice_get_within sent k x i in absurd (omega (arith, e, g, l))

-- a frame that could not be put, because memory ran out
pub not_put_aged :
    (h : ℤ) (sent : List ℤ) (kept : List (ℕ × Departed)) (ages more : List (ℤ × ℕ)) (n : ℕ) (time : ℤ) → n ≡ length sent + 1 → Aged h sent kept ages →
    ((t : ℤ) (k : ℕ) → is_at (age_cmp (time, n)) (t, k) ≡ false → has t k more ≡ has t k ages) →
    ((t : ℤ) (k : ℕ) → has t k more ≡ true → has t k ages ≡ true) → Aged h sent kept more
not_put_aged h sent kept ages more n time e a stays fewer = record {
  told = a.told;
  kept_is = a.kept_is;
  young = λ k f i y. stays f.sent k (other k f i (is_at (age_cmp (time, n)) (f.sent, k)) refl) ∙ a.young k f i y;
  dated = λ t k i. a.dated t k (fewer t k i);
} where
  other : (k : ℕ) (f : Departed) → at k kept ≡ Some f → (b : Bool) → is_at (age_cmp (time, n)) (f.sent, k) ≡ b → is_at (age_cmp (time, n)) (f.sent, k) ≡ false
  other k f i true x = absurd (past_last sent n k f.sent e (same_number_of (time, n) (f.sent, k) x) (a.told k f i))
  other k f i false x = x

-- The frames on a fibre

among_more : (it last : OnFibre) (listed : List OnFibre) → IsAmong it listed → IsAmong it (listed ++ last ∷ [])
among_more it last [] a = absurd a
among_more it last (first ∷ listed) (inl is) = inl is
among_more it last (first ∷ listed) (inr more) = inr (among_more it last listed more)

among_last : (it last : OnFibre) (listed : List OnFibre) → last ≡ it → IsAmong it (listed ++ last ∷ [])
among_last it last [] is = inl is
among_last it last (first ∷ listed) is = inr (among_last it last listed is)

put_lists : (n : ℕ) (frame : Departed) (kept after : List (ℕ × Departed)) (listed : List OnFibre) →
    ((k : ℕ) → at k after ≡ cond (is_at (nat_cmp n) k) (Some frame) (at k kept)) → Lists kept listed → Lists after (listed ++ entry_of n frame ∷ [])
put_lists n frame kept after listed g l k d e on = by_test (is_at (nat_cmp n) k) refl (sym (g k) ∙ e) where
  by_test : (b : Bool) → is_at (nat_cmp n) k ≡ b → cond b (Some frame) (at k kept) ≡ Some d → IsAmong (entry_of k d) (listed ++ entry_of n frame ∷ [])
  by_test true x i = among_last (entry_of k d) (entry_of n frame) listed (ap (λ m. entry_of m frame) (same_number n k x) ∙ ap (entry_of k) (some_is frame d i))
  by_test false x i = among_more (entry_of k d) (entry_of n frame) listed (l k d i on)

-- The order in which frames on fibres are due

length_last : (sent : List ℤ) (t : ℤ) → length (sent ++ t ∷ []) ≡ length sent + 1
length_last [] t = refl
length_last (s ∷ sent) t = let more = length_last sent t in omega (arith, more)

no : false ≡ true → ⊥
no e = cc

pub at_itself : (n k : ℕ) → n ≡ k → is_at (nat_cmp n) k ≡ true
at_itself n k e = unsigned_tied n k ∙ search (arith, e)

put_orders :
    (sent : List ℤ) (kept after : List (ℕ × Departed)) (dues more : List (ℤ × ℕ)) (n : ℕ) (frame : Departed) → n ≡ length sent + 1 → is_on frame ≡ true → Orders sent kept dues →
    ((k : ℕ) → at k after ≡ cond (is_at (nat_cmp n) k) (Some frame) (at k kept)) → Adds frame.due n dues more → Orders (sent ++ frame.sent ∷ []) after more
put_orders sent kept after dues more n frame e on s g m = record {
  listed = λ k d i o. listed_at k d (is_at (nat_cmp n) k) refl (sym (g k) ∙ i) o;
  dated = record {
    due = λ t k d h i. due_at t k d (is_at (age_cmp (frame.due, n)) (t, k)) (is_at (nat_cmp n) k) refl refl (sym (m.each t k) ∙ h) (sym (g k) ∙ i);
    given = λ t k h. given_at t k (is_at (age_cmp (frame.due, n)) (t, k)) refl (sym (m.each t k) ∙ h);
  };
  first = λ t k h l. first_at t k l (is_at (age_cmp (frame.due, n)) (t, k)) (is_at (nat_cmp n) k) refl refl (sym (m.each t k) ∙ h);
} where
  listed_at : (k : ℕ) (d : Departed) (b : Bool) → is_at (nat_cmp n) k ≡ b → cond b (Some frame) (at k kept) ≡ Some d → is_on d ≡ true → has d.due k more ≡ true
  listed_at k d true x i o = subst (λ f. has f.due k more ≡ true) (some_is frame d i) (subst (λ q. has frame.due q more ≡ true) (same_number n k x) m.there)
  listed_at k d false x i o = m.each d.due k ∙ or_had (is_at (age_cmp (frame.due, n)) (d.due, k)) (has d.due k dues) (s.listed k d i o)

  -- no number after the last was given
  not_given : (t : ℤ) (k : ℕ) → n ≡ k → has t k dues ≡ true → ⊥
  not_given t k same h = let most = s.dated.given t k h in absurd (omega (arith, e, same, most))

  due_at : (t : ℤ) (k : ℕ) (d : Departed) (b c : Bool) → is_at (age_cmp (frame.due, n)) (t, k) ≡ b → is_at (nat_cmp n) k ≡ c → cond b true (has t k dues) ≡ true →
      cond c (Some frame) (at k kept) ≡ Some d → d.due ≡ t
  due_at t k d true true x y h i = ap (λ (f : Departed). f.due) (sym (some_is frame d i)) ∙ same_time_of (frame.due, n) (t, k) x
  due_at t k d true false x y h i = absurd (no (sym y ∙ at_itself n k (same_number_of (frame.due, n) (t, k) x)))
  due_at t k d false true x y h i = absurd (not_given t k (same_number n k y) h)
  due_at t k d false false x y h i = s.dated.due t k d h i

  given_at : (t : ℤ) (k : ℕ) (b : Bool) → is_at (age_cmp (frame.due, n)) (t, k) ≡ b → cond b true (has t k dues) ≡ true → k ≤ length (sent ++ frame.sent ∷ [])
  given_at t k true x h = let same = same_number_of (frame.due, n) (t, k) x in let size = length_last sent frame.sent in omega (arith, e, same, size)
  given_at t k false x h = let most = s.dated.given t k h in let size = length_last sent frame.sent in omega (arith, most, size)

  still_on : (k : ℕ) (c : Bool) → is_at (nat_cmp n) k ≡ c → (c ≡ false → on_at kept k ≡ true) → on_at after k ≡ true
  still_on k true y o = ap (λ p. option_map_or is_on p false) (g k ∙ ap (λ c. cond c (Some frame) (at k kept)) y) ∙ on
  still_on k false y o = ap (λ p. option_map_or is_on p false) (g k ∙ ap (λ c. cond c (Some frame) (at k kept)) y) ∙ o refl

  first_at : (t : ℤ) (k : ℕ) → IsLeast t k more → (b c : Bool) → is_at (age_cmp (frame.due, n)) (t, k) ≡ b → is_at (nat_cmp n) k ≡ c → cond b true (has t k dues) ≡ true →
      on_at after k ≡ true
  first_at t k l true c x y h = still_on k c y (λ off. absurd (no (sym (y ∙ off) ∙ at_itself n k (same_number_of (frame.due, n) (t, k) x))))
  first_at t k l false c x y h =
      still_on k c y (λ off. s.first t k h (λ u q i. l u q (m.each u q ∙ or_had (is_at (age_cmp (frame.due, n)) (u, q)) (has u q dues) i)))

not_put_orders :
    (sent : List ℤ) (kept : List (ℕ × Departed)) (dues more : List (ℤ × ℕ)) (n : ℕ) (due : ℤ) → n ≡ length sent + 1 → Orders sent kept dues → AddsNone due n dues more →
    Orders sent kept more
not_put_orders sent kept dues more n due e s a = record {
  listed = λ k d i on. same d.due k ∙ s.listed k d i on;
  dated = record {
    due = λ t k d h i. s.dated.due t k d (sym (same t k) ∙ h) i;
    given = λ t k h. s.dated.given t k (sym (same t k) ∙ h);
  };
  first = λ t k h l. s.first t k (sym (same t k) ∙ h) (λ u q i. l u q (same u q ∙ i));
} where
  not_given : (t : ℤ) (k : ℕ) → n ≡ k → has t k dues ≡ true → ⊥
  not_given t k alike h = let most = s.dated.given t k h in absurd (omega (arith, e, alike, most))

  both : (m o : Bool) → (m ≡ true → o ≡ true) → (o ≡ true → ⊥) → m ≡ o
  both true true f n = refl
  both true false f n = absurd (no (f refl))
  both false true f n = absurd (n refl)
  both false false f n = refl

  same_at : (t : ℤ) (k : ℕ) (b : Bool) → is_at (age_cmp (due, n)) (t, k) ≡ b → has t k more ≡ has t k dues
  same_at t k true x = both (has t k more) (has t k dues) (a.fewer t k) (not_given t k (same_number_of (due, n) (t, k) x))
  same_at t k false x = a.stays t k x

  same : (t : ℤ) (k : ℕ) → has t k more ≡ has t k dues
  same t k = same_at t k (is_at (age_cmp (due, n)) (t, k)) refl

-- All that the window keeps

pub put_holds :
    (h : ℤ) (sent : List ℤ) (kept after : List (ℕ × Departed)) (ages more : List (ℤ × ℕ)) (before : List OnFibre) (dues ordered : List (ℤ × ℕ)) (n : ℕ) (frame : Departed) →
    n ≡ length sent + 1 → is_on frame ≡ true →
    Holds h sent kept ages before dues → ((k : ℕ) → at k after ≡ cond (is_at (nat_cmp n) k) (Some frame) (at k kept)) →
    Adds frame.sent n ages more → Adds frame.due n dues ordered →
    (later : List ℤ) (listed : List OnFibre) → later ≡ sent ++ frame.sent ∷ [] → listed ≡ before ++ entry_of n frame ∷ [] → Holds h later after more listed ordered
put_holds h sent kept after ages more before dues ordered n frame e on s g m o later listed same also = record {
  aged = subst (λ x. Aged h x after more) (sym same) (put_aged h sent kept after ages more n frame e on s.aged g m.each m.there);
  lists = subst (Lists after) (sym also) (put_lists n frame kept after before g s.lists);
  orders = subst (λ x. Orders x after ordered) (sym same) (put_orders sent kept after dues ordered n frame e on s.orders g o);
}

pub not_put_holds :
    (h : ℤ) (sent : List ℤ) (kept after : List (ℕ × Departed)) (ages more : List (ℤ × ℕ)) (before : List OnFibre) (dues ordered : List (ℤ × ℕ)) (n : ℕ) (time due : ℤ) →
    n ≡ length sent + 1 → Holds h sent kept ages before dues → AddsNone time n ages more → AddsNone due n dues ordered →
    (later : List ℤ) (listed : List OnFibre) → later ≡ sent → after ≡ kept → listed ≡ before → Holds h later after more listed ordered
not_put_holds h sent kept after ages more before dues ordered n time due e s a o later listed same alike also = record {
  aged = subst (λ x. Aged h x after more) (sym same) (subst (λ x. Aged h sent x more) (sym alike) (not_put_aged h sent kept ages more n time e s.aged a.stays a.fewer));
  lists = subst (Lists after) (sym also) (subst (λ x. Lists x before) (sym alike) s.lists);
  orders = subst (λ x. Orders x after ordered) (sym same) (subst (λ x. Orders sent x ordered) (sym alike) (not_put_orders sent kept dues ordered n due e s.orders o));
}

-- comparing two numbers by their order is the same as comparing the numbers
pub equal_numbers : (n k : ℕ) → is_at (nat_cmp n) k ≡ (k == n)
equal_numbers n k = unsigned_tied n k ∙ search arith

pub put_at : (n m k : ℕ) (frame : Departed) (before o : Option Departed) → n ≡ m → o ≡ cond (is_at (nat_cmp n) k) (Some frame) before → o ≡ (if k == m then Some frame else before)
put_at n m k frame before o e f = f ∙ by_test (is_at (nat_cmp n) k) (k == m) (equal_numbers n k ∙ ap (λ x. k == x) e) where
  by_test : (a b : Bool) → a ≡ b → cond a (Some frame) before ≡ (if b then Some frame else before)
  by_test true true e = refl
  by_test true false e = absurd cc
  by_test false true e = absurd cc
  by_test false false e = refl
