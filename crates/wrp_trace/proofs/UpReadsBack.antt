-- The printed swaps of an `up` read back.
use Rattle.std.proofs.Common.{◌≡◌, ◌≢◌, ◌∙◌, ℕ, ◌+◌, ◌<◌, List, [], ◌∷◌, ◌++◌, false, Ok, length, map, get_or, refl, sym, ap, subst, arith}
use Rattle.std.specs.Prelude.{◌==◌}
use Rattle.std.specs.List.{AllByRecursion, AllPairs, list_any}
use Rattle.std.specs.Fmt.{decimal}
use Rattle.std.proofs.lemmas.Bool.{ne_eqb}
use Rattle.std.proofs.lemmas.List.{append_assoc, append-nil, map-append, get_or_append_left, get_or_at}
use Rattle.wrp_course.specs.declared.event.Swap.{Swap}
use Rattle.wrp_trace.specs.EventPrinting.{swap_text}
use Rattle.wrp_fields.specs.Reading.{◌>>=◌}
use Rattle.wrp_trace.specs.Swaps.{bare_swap, swap_said, swaps_said}
use Rattle.wrp_trace.proofs.EventParts.{decimal_part, name_part, lacks_colon, before_part, behind_part}
use Rattle.wrp_trace.proofs.NumberLemmas.{natural_back}
use Rattle.wrp_trace.proofs.SwapLemmas.{no_pass, said_plain}
use Rattle.wrp_course.specs.EventAt.{IsSwap}

-- each port differs from those before it
abbrev pub ArePortsApart : List Swap → Type 0
ArePortsApart swaps = AllPairs (λ a b. a.port ≢ b.port) swaps

reaches : (front : List Swap) (swap : Swap) (rest : List Swap) → length front < length (front ++ swap ∷ rest)
reaches [] swap rest = omega arith
reaches (s ∷ front) swap rest = omega (arith, reaches front swap rest)

last_is_new : (front : List Swap) (swap : Swap) (rest : List Swap) → ArePortsApart (front ++ swap ∷ rest)
    → list_any (λ other. other.port == swap.port) front ≡ false
last_is_new front swap rest apart =
    no_pass (λ other. other.port == swap.port) front
    (λ k d below.
    let left = get_or_append_left front (swap ∷ rest) d k below in
    let last = get_or_at front swap rest d (length front) refl in
    ne_eqb (get_or front k d).port swap.port
    (λ e. apart k (length front) d below (reaches front swap rest) (ap (λ s. s.port) left ∙ e ∙ sym (ap (λ s. s.port) last))))

one_back : (place : ℕ) (front : List Swap) (swap : Swap) → IsSwap swap → list_any (λ other. other.port == swap.port) front ≡ false
    → swap_said place front (swap_text swap) ≡ Ok (bare_swap swap)
one_back place front swap is new =
    let tail = swap.name.bytes ++ 58 ∷ (decimal swap.tx ++ 58 ∷ decimal swap.rx) in
    let delays = decimal swap.tx ++ 58 ∷ decimal swap.rx in
    let port = lacks_colon (decimal swap.port) (decimal_part swap.port (omega (arith, is.port))) in
    let name = lacks_colon swap.name.bytes (name_part swap.name.bytes is.name) in
    let tx = lacks_colon (decimal swap.tx) (decimal_part swap.tx (omega (arith, is.tx))) in
    rw (
      before_part 58 (decimal swap.port) tail port,
      behind_part 58 (decimal swap.port) tail port,
      before_part 58 swap.name.bytes delays name,
      behind_part 58 swap.name.bytes delays name,
      before_part 58 (decimal swap.tx) (decimal swap.rx) tx,
      behind_part 58 (decimal swap.tx) (decimal swap.rx) tx,
      natural_back 0 65_535 swap.port (omega arith) is.port (omega (arith, is.port)),
      new,
      is.name,
      natural_back 0 1_000_000_000_000 swap.tx (omega arith) is.tx (omega (arith, is.tx)),
      natural_back 0 1_000_000_000_000 swap.rx (omega arith) is.rx (omega (arith, is.rx)),
    )
    refl

pub swaps_back : (place : ℕ) (front swaps : List Swap) → AllByRecursion IsSwap swaps → ArePortsApart (front ++ swaps)
    → swaps_said place (map bare_swap front) (map swap_text swaps) ≡ Ok (map bare_swap (front ++ swaps))
swaps_back place front [] are apart = ap (λ l. Ok (map bare_swap l)) (sym (append-nil front))
swaps_back place front (swap ∷ swaps) are apart =
    let shift = append_assoc front (swap ∷ []) swaps in
    let one = said_plain place front (swap_text swap) ∙ one_back place front swap are.0 (last_is_new front swap swaps apart) in
    ap (λ r. r >>= (λ more. swaps_said (place + 1) (map bare_swap front ++ more ∷ []) (map swap_text swaps))) one
    ∙ ap (λ l. swaps_said (place + 1) l (map swap_text swaps)) (sym (map-append bare_swap front (swap ∷ [])))
    ∙ swaps_back (place + 1) (front ++ swap ∷ []) swaps are.1 (subst ArePortsApart (sym shift) apart)
    ∙ ap (λ l. Ok (map bare_swap l)) shift
