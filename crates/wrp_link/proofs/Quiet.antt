-- Quiet time lasts the ticks that are left of it.
use Rattle.std.proofs.Common.{◌≡◌, refl, ap, ℕ, ◌-◌, Bool, true, if◌then◌else◌, nat_lt, ◌==◌, List, [], ◌∷◌, map, length, arith}
use Rattle.std.proofs.lemmas.Bool.Decides.{nat_tests}
use Rattle.wrp_base.specs.declared.link.LinkState.TheVariants.{Idle}
use Rattle.wrp_base.specs.declared.link.LinkWord.TheVariants.{Quiet, Ptp}
use Rattle.wrp_link.specs.declared.interface.LinkIn.TheVariants.{Tick}
use Rattle.wrp_link.specs.Laws.{QuietTimeLasts}
use Rattle.wrp_link.specs.LinkAt.{LinkAt}
use Rattle.wrp_link.specs.Table.{after, run_of, word_of}

-- a link in IDLE, with a carrier and this many ticks of quiet time left
record IsQuiet (l : LinkAt) (quiet : ℕ) : Type 0 where
  lit : l.carrier ≡ true
  idle : l.state ≡ Idle
  left : l.quiet ≡ quiet

quiet_tick : (l : LinkAt) (quiet : ℕ) (locked : Bool) → IsQuiet l quiet → IsQuiet (after l (Tick locked)) (quiet - 1)
quiet_tick l quiet locked h =
    record { lit = rw (h.lit, h.idle) refl; idle = rw (h.lit, h.idle) refl; left = rw (h.lit, h.idle) (ap (λ q. q - 1) h.left) }

quiet_ticks :
    (l : LinkAt) (ticks : List Bool) →
    l.carrier ≡ true → l.state ≡ Idle → IsQuiet (run_of l (map Tick ticks)) (l.quiet - length ticks)
quiet_ticks l [] lit idle = record { lit = lit; idle = idle; left = omega arith }
quiet_ticks l (t ∷ ticks) lit idle =
    let next : IsQuiet (after (run_of l (map Tick ticks)) (Tick t)) (l.quiet - length ticks - 1) =
    quiet_tick (run_of l (map Tick ticks)) (l.quiet - length ticks) t (quiet_ticks l ticks lit idle) in
    record { lit = next.lit; idle = next.idle; left = omega arith }

quiet_word : (l : LinkAt) (n quiet : ℕ) → IsQuiet l (quiet - n) → word_of l ≡ (if nat_lt n quiet then Quiet else Ptp)
quiet_word l n quiet h =
    let words : (if (quiet - n) == 0 then Ptp else Quiet) ≡ (if nat_lt n quiet then Quiet else Ptp) = grind (arith, nat_tests) in
    rw (h.lit, h.idle, h.left) words

pub quiet_time_lasts : QuietTimeLasts
quiet_time_lasts l ticks lit idle = quiet_word (run_of l (map Tick ticks)) (length ticks) l.quiet (quiet_ticks l ticks lit idle)
