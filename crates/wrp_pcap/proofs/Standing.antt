-- A table that stands for its messages: its verdict on one more, and what it stands for then.
use Rattle.std.proofs.Common.{◌≡◌, refl, sym, ap, ◌∙◌, ℕ, List, [], ◌∷◌, ◌++◌, length, reverse, Some, arith}
use Rattle.wrp_base.specs.declared.message.Body.{Body}
use Rattle.wrp_base.specs.declared.message.Body.TheVariants.{Signal}
use Rattle.wrp_base.specs.declared.message.PortIdentity.{PortIdentity}
use Rattle.wrp_base.specs.declared.message.WrMsg.TheVariants.{ModeOn as WR_MODE_ON}
use Rattle.wrp_pcap.specs.declared.pairs.Pairs.{Pairs}
use Rattle.wrp_pcap.specs.Certificate.{Captured, Back, lacks, finds, look_back, first_above, lock_of, is_present, is_sent, to_slave_calibrated, told_by, unless_restarted, certificate, verdict_on, IsAbove}
use Rattle.wrp_pcap.specs.Chain.{kept, behind_of, verdict_behind}
use Rattle.wrp_pcap.specs.StandsFor.{StandsFor, Kept, trail_at, kept_at, told_at}
use Rattle.wrp_pcap.proofs.Chains.{chain_after}
use Rattle.wrp_pcap.proofs.LookingBack.{HasCount, count_is}

-- seven numbers are kept as they are
all_seven : (numbers : List ℕ) (n : ℕ) → length numbers ≡ 7 → reverse (n ∷ kept numbers) ≡ numbers ++ n ∷ []
all_seven (a ∷ b ∷ c ∷ d ∷ e ∷ f ∷ g ∷ []) n long = refl
all_seven _ n long = absurd (omega (arith, long))

verdict_kept : (master slave : PortIdentity) (n : ℕ) (before : List Captured) (back : Back) → HasCount 7 back →
    verdict_behind n (behind_of (is_sent is_present slave master) before back) ≡ told_by master slave n before back
verdict_kept master slave n before (lacks place) long = refl
verdict_kept master slave n before (finds numbers) long =
    ap (unless_restarted (first_above (is_sent is_present slave master) (lock_of numbers) before)) (all_seven numbers n long)

-- the verdict of a chain is the certificate's
verdict_is : (pairs : Pairs) (before : List Captured) (master slave : PortIdentity) (n : ℕ) → StandsFor pairs before →
    verdict_behind n (trail_at pairs master slave).slave_calibrated ≡ certificate master slave n before
verdict_is pairs before master slave n stands =
    ap (λ chain. verdict_behind n chain.slave_calibrated) (stands.chains master slave)
    ∙ verdict_kept master slave n before (look_back (to_slave_calibrated master slave) before) (count_is (to_slave_calibrated master slave) before)

-- the verdict is the expected one
pub told_is : (pairs : Pairs) (before : List Captured) (source : PortIdentity) (n : ℕ) (body : Body) → StandsFor pairs before →
    told_at pairs n source body ≡ verdict_on source n before body
told_is pairs before source n (Signal target (Some WR_MODE_ON)) stands = ap Some (verdict_is pairs before source target n stands)
told_is pairs before source n _ stands = refl

-- one more message
pub stands_for_more : (old new : Pairs) (before : List Captured) (newest : Captured) →
    Kept newest.number newest.message.head.source newest.message.body old new → StandsFor old before → IsAbove newest.number before →
    StandsFor new (newest ∷ before)
stands_for_more old new before newest keeps stands above =
    record {
      falls = (above, stands.falls);
      chains = λ master slave.
          keeps master slave
          ∙ ap (kept_at newest.message.head.source newest.number master slave newest.message.body) (stands.chains master slave)
          ∙ sym (chain_after master slave newest before above);
    }
