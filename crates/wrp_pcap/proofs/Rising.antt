-- The numbers of a complete certificate rise.
use Rattle.std.proofs.Common.{◌≡◌, sym, subst, ℕ, ◌<◌, Bool, true, false, if◌then◌else◌, List, [], ◌∷◌, ◌++◌, Option, None, Some}
use Rattle.wrp_base.proofs.Lists.{append_assoc}
use Rattle.wrp_base.specs.declared.message.PortIdentity.{PortIdentity}
use Rattle.wrp_pcap.specs.declared.verdict.Verdict8.TheVariants.{Complete}
use Rattle.wrp_pcap.specs.Certificate.{Captured, Back, lacks, finds, with_number, look_back, first_above, lock_of, is_present, is_sent, to_slave_calibrated, told_by, unless_restarted, IsAbove, Falls}
use Rattle.wrp_pcap.specs.Laws.{CompleteRises}
use Rattle.wrp_pcap.specs.Marks.{Rises}

rises_push : (numbers : List ℕ) (n number : ℕ) → n < number → Rises (numbers ++ n ∷ []) → Rises (numbers ++ n ∷ number ∷ [])
rises_push [] n number lt h = (lt, tt)
rises_push (a ∷ []) n number lt h = (h.0, (lt, tt))
rises_push (a ∷ b ∷ numbers) n number lt h = (h.0, rises_push (b ∷ numbers) n number lt h.1)

-- what is found rises to a number
abbrev RisesTo : ℕ → Back → Type 0
RisesTo number (lacks place) = Unit {0}
RisesTo number (finds numbers) = Rises (numbers ++ number ∷ [])

rises_more : (number n : ℕ) (back : Back) → n < number → RisesTo n back → RisesTo number (with_number n back)
rises_more number n (lacks place) lt h = tt
rises_more number n (finds numbers) lt h =
    subst Rises (sym (append_assoc numbers (n ∷ []) (number ∷ []))) (rises_push numbers n number lt h)

rises_is : (number : ℕ) (steps : List (Captured → Bool)) (captured : List Captured) → Falls captured → IsAbove number captured →
    RisesTo number (look_back steps captured)
rises_is number [] captured falls above = tt
rises_is number (step ∷ steps) [] falls above = tt
rises_is number (step ∷ steps) (newest ∷ before) falls above =
    elim (step newest) as (λ b. RisesTo number (if b then with_number newest.number (look_back steps before) else look_back (step ∷ steps) before)) [
      | true ↦ rises_more number newest.number (look_back steps before) above.0 (rises_is newest.number steps before falls.1 falls.0)
      | false ↦ rises_is number (step ∷ steps) before falls.1 above.1
    ]

pub complete_only : (restart : Option ℕ) (found numbers : List ℕ) → unless_restarted restart found ≡ Complete numbers → found ≡ numbers
complete_only None found numbers e = cc
complete_only (Some n) found numbers e = absurd cc

told_rises : (master slave : PortIdentity) (number : ℕ) (before : List Captured) (back : Back) (numbers : List ℕ) → RisesTo number back →
    told_by master slave number before back ≡ Complete numbers → Rises numbers
told_rises master slave number before (lacks place) numbers h e = absurd cc
told_rises master slave number before (finds found) numbers h e =
    subst Rises (complete_only (first_above (is_sent is_present slave master) (lock_of found) before) (found ++ number ∷ []) numbers e) h

pub complete_rises : CompleteRises
complete_rises master slave number before numbers falls above e =
    told_rises master slave number before (look_back (to_slave_calibrated master slave) before) numbers
    (rises_is number (to_slave_calibrated master slave) before falls above) e
