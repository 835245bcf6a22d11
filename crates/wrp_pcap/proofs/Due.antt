-- The verdict that looking back finds, without the recursion that finds it.
use Rattle.std.proofs.Common.{◌≡◌, refl, ap, inl, inr, ℕ, ◌<◌, ◌≤◌, Bool, true, false, ◌&&◌, if◌then◌else◌, nat_lt, List, [], ◌∷◌, ◌++◌, Option, None, Some}
use Rattle.std.proofs.lemmas.Bool.{ltb-true, ltb-false}
use Rattle.std.specs.List.{AllByRecursion}
use Rattle.std.specs.Option.{option_or}
use Rattle.wrp_base.proofs.Booleans.{and_first, and_second}
use Rattle.wrp_base.specs.declared.message.PortIdentity.{PortIdentity}
use Rattle.wrp_pcap.specs.Certificate.{Captured, Back, lacks, finds, with_number, look_back, first_above, lock_of, is_present, is_sent, to_slave_calibrated, told_by, unless_restarted}
use Rattle.wrp_pcap.specs.Laws.{IsLast, AreLast, IsMissing, IsDue, CertificateIsDue}

-- ---- looking back

-- what looking back finds
abbrev IsFound : List (Captured → Bool) → List Captured → Back → Type 0
IsFound steps captured (lacks place) = IsMissing steps captured place
IsFound steps captured (finds numbers) = AreLast steps captured numbers

-- the newest message is the last one
last_here : (step : Captured → Bool) (newest : Captured) (before : List Captured) → step newest ≡ true → IsLast step (newest ∷ before) newest.number before
last_here step newest before is =
    record { later = []; last = newest; splits = refl; holds = is; others = tt; number_is = refl }

here : (step : Captured → Bool) (steps : List (Captured → Bool)) (newest : Captured) (before : List Captured) (back : Back) →
    step newest ≡ true → IsFound steps before back → IsFound (step ∷ steps) (newest ∷ before) (with_number newest.number back)
here step steps newest before (lacks place) is h = inr (newest.number, before, last_here step newest before is, h)
here step steps newest before (finds numbers) is h = (numbers, newest.number, before, refl, last_here step newest before is, h)

-- or it is among the others
last_before : (step : Captured → Bool) (newest : Captured) (captured : List Captured) (number : ℕ) (before : List Captured) → step newest ≡ false →
    IsLast step captured number before → IsLast step (newest ∷ captured) number before
last_before step newest captured number before other h =
    record {
      later = newest ∷ h.later;
      last = h.last;
      splits = ap (λ l. newest ∷ l) h.splits;
      holds = h.holds;
      others = (other, h.others);
      number_is = h.number_is;
    }

further : (step : Captured → Bool) (steps : List (Captured → Bool)) (newest : Captured) (before : List Captured) (back : Back) →
    step newest ≡ false → IsFound (step ∷ steps) before back → IsFound (step ∷ steps) (newest ∷ before) back
further step steps newest before (lacks place) other (inl (is, none)) = inl (is, (other, none))
further step steps newest before (lacks place) other (inr (number, rest, last, below)) =
    inr (number, rest, last_before step newest before number rest other last, below)
further step steps newest before (finds numbers) other (earlier, number, rest, is, last, below) =
    (earlier, number, rest, is, last_before step newest before number rest other last, below)

found : (steps : List (Captured → Bool)) (captured : List Captured) → IsFound steps captured (look_back steps captured)
found [] captured = refl
found (step ∷ steps) [] = inl (refl, tt)
found (step ∷ steps) (newest ∷ before) =
    elim (step newest) as (λ b. step newest ≡ b →
    IsFound (step ∷ steps) (newest ∷ before) (if b then with_number newest.number (look_back steps before) else look_back (step ∷ steps) before)) [
      | true ↦ λ is. here step steps newest before (look_back steps before) is (found steps before)
      | false ↦ λ is. further step steps newest before (look_back (step ∷ steps) before) is (found (step ∷ steps) before)
    ] refl

-- ---- the first SLAVE_PRESENT after the LOCK

-- what the search for it finds
record IsFirst (test : Captured → Bool) (number : ℕ) (captured : List Captured) (first : ℕ) : Type 0 where
  later : List Captured
  present : Captured
  earlier : List Captured
  splits : captured ≡ later ++ present ∷ earlier
  holds : test present ≡ true
  number_is : present.number ≡ first
  above : number < first
  none : AllByRecursion (λ c. test c ≡ true → c.number ≤ number) earlier

abbrev IsSearched : (Captured → Bool) → ℕ → List Captured → Option ℕ → Type 0
IsSearched test number captured None = AllByRecursion (λ c. test c ≡ true → c.number ≤ number) captured
IsSearched test number captured (Some first) = IsFirst test number captured first

not_above : (b : Bool) (number n : ℕ) → (b && nat_lt number n) ≡ false → b ≡ true → n ≤ number
not_above true number n e is = ltb-false number n e
not_above false number n e is = absurd cc

-- with one more message, at which the test holds above the number or not
searched_more : (test : Captured → Bool) (number : ℕ) (newest : Captured) (before : List Captured) (first : Option ℕ) (b : Bool) →
    (test newest && nat_lt number newest.number) ≡ b → IsSearched test number before first →
    IsSearched test number (newest ∷ before) (option_or first (if b then Some newest.number else None))
searched_more test number newest before (Some first) b is h =
    record {
      later = newest ∷ h.later;
      present = h.present;
      earlier = h.earlier;
      splits = ap (λ l. newest ∷ l) h.splits;
      holds = h.holds;
      number_is = h.number_is;
      above = h.above;
      none = h.none;
    }
searched_more test number newest before None true is none =
    record {
      later = [];
      present = newest;
      earlier = before;
      splits = refl;
      holds = and_first (test newest) (nat_lt number newest.number) is;
      number_is = refl;
      above = ltb-true number newest.number (and_second (test newest) (nat_lt number newest.number) is);
      none = none;
    }
searched_more test number newest before None false is none = (not_above (test newest) number newest.number is, none)

searched : (test : Captured → Bool) (number : ℕ) (captured : List Captured) → IsSearched test number captured (first_above test number captured)
searched test number [] = tt
searched test number (newest ∷ before) =
    searched_more test number newest before (first_above test number before) (test newest && nat_lt number newest.number) refl (searched test number before)

-- ---- the verdict

due_with : (master slave : PortIdentity) (number : ℕ) (captured : List Captured) (numbers : List ℕ) (first : Option ℕ) →
    AreLast (to_slave_calibrated master slave) captured numbers →
    IsSearched (is_sent is_present slave master) (lock_of numbers) captured first →
    IsDue master slave number captured (unless_restarted first (numbers ++ number ∷ []))
due_with master slave number captured numbers None last none = record { numbers = numbers; all_are = refl; last = last; none = none }
due_with master slave number captured numbers (Some first) last h =
    record {
      numbers = numbers;
      last = last;
      later = h.later;
      present = h.present;
      earlier = h.earlier;
      splits = h.splits;
      holds = h.holds;
      number_is = h.number_is;
      behind_lock = h.above;
      first = h.none;
    }

due_by : (master slave : PortIdentity) (number : ℕ) (captured : List Captured) (back : Back) →
    IsFound (to_slave_calibrated master slave) captured back → IsDue master slave number captured (told_by master slave number captured back)
due_by master slave number captured (lacks place) h = h
due_by master slave number captured (finds numbers) h =
    due_with master slave number captured numbers (first_above (is_sent is_present slave master) (lock_of numbers) captured) h
    (searched (is_sent is_present slave master) (lock_of numbers) captured)

pub certificate_is_due : CertificateIsDue
certificate_is_due master slave number captured =
    due_by master slave number captured (look_back (to_slave_calibrated master slave) captured) (found (to_slave_calibrated master slave) captured)
