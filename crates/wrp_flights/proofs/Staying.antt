-- What the window keeps when frames change, depart and leave.
use Rattle.std.proofs.Common.{◌≡◌, ◌∙◌, refl, ap, sym, subst, ℕ, ℤ, ◌≤ℤ◌, ◌⊎◌, inl, inr, Bool, true, false, if◌then◌else◌, List, Option, None, Some, arith}
use Rattle.std.proofs.lemmas.Int.{ints}
use Rattle.std.specs.Int.Signed.{le_z}
use Rattle.std.specs.Option.{option_map_or}
use Rattle.wrp_flights.specs.declared.departed.Departed.{Departed}
use Rattle.wrp_flights.specs.declared.departed.OnFibre.{OnFibre}
use Rattle.wrp_flights.specs.Ages.{Aged, Listed, has}
use Rattle.wrp_flights.specs.Departed.{is_kept, is_on, is_young, kept_in, turn_in}
use Rattle.wrp_flights.specs.Frames.{at, on_at}
use Rattle.wrp_flights.specs.Listing.{Holds, IsAmong, Settled, entry_of}
use Rattle.wrp_flights.specs.Next.{Dated, Dues, FirstIs, Orders}
use Rattle.wrp_flights.proofs.Passing.{is_late, kept_on}

none_is : (d : Departed) → None ≡ Some d → ⊥
none_is d e = cc

some_is : (d g : Departed) → Some d ≡ Some g → d ≡ g
some_is d g e = cc

-- what is kept of a frame is the frame
pub kept_is_it : (h : ℤ) (o : Option Departed) (d : Departed) → kept_in h o ≡ Some d → (o ≡ Some d) × (is_kept h d ≡ true)
kept_is_it h None d e = absurd (none_is d e)
kept_is_it h (Some g) d e = by_test (is_kept h g) refl where
  by_test : (b : Bool) → is_kept h g ≡ b → (Some g ≡ Some d) × (is_kept h d ≡ true)
  by_test true k = let same : Some g ≡ Some d = sym (ap (λ x. if x then Some g else None) k) ∙ e in (same, subst (λ x. is_kept h x ≡ true) (some_is g d same) k)
  by_test false k = absurd (none_is d (sym (ap (λ x. if x then Some g else None) k) ∙ e))

pub kept_young : (h : ℤ) (d : Departed) → is_kept h d ≡ true → is_on d ≡ false → is_young h d ≡ true
kept_young h d k off = sym (ap (λ x. if x then true else is_young h d) off) ∙ k

-- Frames change

-- what a frame that is kept was
pub record CameFrom (h : ℤ) (change : Departed → Departed) (o : Option Departed) (d : Departed) : Type 0 where
  pub from : Departed
  pub was : o ≡ Some from
  pub same : change from ≡ d
  pub kept : is_kept h d ≡ true

pub came_from : (h : ℤ) (change : Departed → Departed) (o : Option Departed) (d : Departed) → turn_in h change o ≡ Some d → CameFrom h change o d
came_from h change None d e = absurd (none_is d e)
came_from h change (Some g) d e =
    let it : (Some (change g) ≡ Some d) × (is_kept h d ≡ true) = kept_is_it h (Some (change g)) d e in
    record { from = g; was = refl; same = some_is (change g) d it.0; kept = it.1 }

pub turned_aged :
    (h : ℤ) (sent : List ℤ) (kept after : List (ℕ × Departed)) (ages : List (ℤ × ℕ)) (change : ℕ → Departed → Departed) →
    ((q : ℕ) (d : Departed) → (change q d).sent ≡ d.sent) → Aged h sent kept ages →
    ((q : ℕ) → at q after ≡ turn_in h (change q) (at q kept)) → Aged h sent after ages
turned_aged h sent kept after ages change still a e = record {
  told = λ q d i. let it = found q d i in a.told q it.from it.was ∙ ap Some (time q d it);
  kept_is = λ q d i. (found q d i).kept;
  young = λ q d i y.
      let it = found q d i in
      let same : is_young h it.from ≡ is_young h d = ap (le_z h) (time q d it) in
      ap (λ t. has t q ages) (sym (time q d it)) ∙ a.young q it.from it.was (same ∙ y);
  dated = a.dated;
} where
  found : (q : ℕ) (d : Departed) → at q after ≡ Some d → CameFrom h (change q) (at q kept) d
  found q d i = came_from h (change q) (at q kept) d (sym (e q) ∙ i)

  time : (q : ℕ) (d : Departed) → (it : CameFrom h (change q) (at q kept) d) → it.from.sent ≡ d.sent
  time q d it = sym (still q it.from) ∙ ap (λ x. x.sent) it.same

-- what the window keeps says of each frame that it is on a fibre and listed, or young and on no fibre
pub settles : (h : ℤ) (sent : List ℤ) (kept : List (ℕ × Departed)) (ages : List (ℤ × ℕ)) (listed : List OnFibre) (dues : List (ℤ × ℕ)) → Holds h sent kept ages listed dues → Settled h kept listed
settles h sent kept ages listed dues s k d e = by_test (is_on d) refl where
  by_test : (b : Bool) → is_on d ≡ b → ((is_on d ≡ true) × IsAmong (entry_of k d) listed) ⊎ ((is_on d ≡ false) × (is_young h d ≡ true))
  by_test true on = inl (on, s.lists k d e on)
  by_test false off = inr (off, kept_young h d (s.aged.kept_is k d e) off)

-- the due times are unchanged, and no frame comes to be on a fibre
pub record Stills (change : ℕ → Departed → Departed) : Type 0 where
  pub due : (q : ℕ) (d : Departed) → (change q d).due ≡ d.due
  pub on : (q : ℕ) (d : Departed) → is_on (change q d) ≡ true → is_on d ≡ true

pub turned_dated :
    (h : ℤ) (sent : List ℤ) (kept after : List (ℕ × Departed)) (dues : List (ℤ × ℕ)) (change : ℕ → Departed → Departed) → Stills change → Dated sent kept dues →
    ((q : ℕ) → at q after ≡ turn_in h (change q) (at q kept)) → Dated sent after dues
turned_dated h sent kept after dues change still a e = record {
  due = λ t k d m i.
      let it = came_from h (change k) (at k kept) d (sym (e k) ∙ i) in
      ap (λ (x : Departed). x.due) (sym it.same) ∙ still.due k it.from ∙ a.due t k it.from m it.was;
  given = a.given;
}

pub turned_dues :
    (h : ℤ) (kept after : List (ℕ × Departed)) (dues : List (ℤ × ℕ)) (change : ℕ → Departed → Departed) → Stills change → Dues kept dues →
    ((q : ℕ) → at q after ≡ turn_in h (change q) (at q kept)) → Dues after dues
turned_dues h kept after dues change still l e k d i on =
    let it = came_from h (change k) (at k kept) d (sym (e k) ∙ i) in
    let due : d.due ≡ it.from.due = ap (λ (x : Departed). x.due) (sym it.same) ∙ still.due k it.from in
    ap (λ t. has t k dues) due ∙ l k it.from it.was (still.on k it.from (ap is_on it.same ∙ on))

-- after that, the frames before the first one that is on a fibre were taken out
pub settled_orders :
    (h : ℤ) (sent : List ℤ) (kept after : List (ℕ × Departed)) (dues left : List (ℤ × ℕ)) (change : ℕ → Departed → Departed) → Stills change → Orders sent kept dues →
    ((q : ℕ) → at q after ≡ turn_in h (change q) (at q kept)) → Dues after left → FirstIs true after left → ((t : ℤ) (k : ℕ) → has t k left ≡ true → has t k dues ≡ true) →
    Orders sent after left
settled_orders h sent kept after dues left change still s e listed first fewer =
    let dated = turned_dated h sent kept after dues change still s.dated e in
    record {
      listed = listed;
      dated = record { due = λ t k d m i. dated.due t k d (fewer t k m) i; given = λ t k m. dated.given t k (fewer t k m) };
      first = first;
    }

-- Time passes

young_before : (before h : ℤ) (d : Departed) → before ≤ℤ h → is_young h d ≡ true → is_young before d ≡ true
young_before before h d l y = is_late before d.sent (omega (arith, ints, l, y))

pub listed_later : (before h : ℤ) (sent : List ℤ) (kept : List (ℕ × Departed)) (ages : List (ℤ × ℕ)) → before ≤ℤ h → Aged before sent kept ages → Listed h kept ages
listed_later before h sent kept ages l a k d i on = elim on [
  | inl off ↦ a.young k d i (kept_young before d (a.kept_is k d i) off)
  | inr y ↦ a.young k d i (young_before before h d l y)
]

passed_orders :
    (h : ℤ) (sent : List ℤ) (kept after : List (ℕ × Departed)) (dues : List (ℤ × ℕ)) → Orders sent kept dues → ((k : ℕ) → at k after ≡ kept_in h (at k kept)) → Orders sent after dues
passed_orders h sent kept after dues s e = record {
  listed = λ k d i on. s.listed k d (kept_is_it h (at k kept) d (sym (e k) ∙ i)).0 on;
  dated = record {
    due = λ t k d m i. s.dated.due t k d m (kept_is_it h (at k kept) d (sym (e k) ∙ i)).0;
    given = s.dated.given;
  };
  first = λ t k m l. still_on k (at k kept) refl (s.first t k m l);
} where
  no : false ≡ true → ⊥
  no e = cc

  still_on : (k : ℕ) (o : Option Departed) → at k kept ≡ o → on_at kept k ≡ true → on_at after k ≡ true
  still_on k None i on = absurd (no (sym (ap (λ p. option_map_or is_on p false) i) ∙ on))
  still_on k (Some d) i on =
      let is : is_on d ≡ true = sym (ap (λ p. option_map_or is_on p false) i) ∙ on in
      ap (λ p. option_map_or is_on p false) (e k ∙ ap (kept_in h) i ∙ kept_on h d is) ∙ is

pub passed_holds :
    (before h : ℤ) (sent : List ℤ) (kept after : List (ℕ × Departed)) (ages left : List (ℤ × ℕ)) (listed : List OnFibre) (dues : List (ℤ × ℕ)) → Holds before sent kept ages listed dues →
    ((k : ℕ) → at k after ≡ kept_in h (at k kept)) → ((k : ℕ) (d : Departed) → at k after ≡ Some d → is_young h d ≡ true → has d.sent k left ≡ true) →
    ((t : ℤ) (k : ℕ) → has t k left ≡ true → has t k ages ≡ true) → Holds h sent after left listed dues
passed_holds before h sent kept after ages left listed dues s e young fewer = record {
  aged = record {
    told = λ k d i. s.aged.told k d (kept_is_it h (at k kept) d (sym (e k) ∙ i)).0;
    kept_is = λ k d i. (kept_is_it h (at k kept) d (sym (e k) ∙ i)).1;
    young = young;
    dated = λ t k i. s.aged.dated t k (fewer t k i);
  };
  lists = λ k d i on. s.lists k d (kept_is_it h (at k kept) d (sym (e k) ∙ i)).0 on;
  orders = passed_orders h sent kept after dues s.orders e;
}
