-- The sample that the stamp of a Sync latched in a chain is the newest of the chain at its arrival, and not long ago while it
-- is in the ring.
use Rattle.std.proofs.Common.{◌≡◌, ◌∙◌, refl, ap, sym, subst, ℕ, suc, ◌+◌, ◌*◌, ◌<◌, ◌≤◌, ℤ, pos, ◌+ℤ◌, ◌≤ℤ◌, List, [], ◌∷◌, ◌++◌, length, map, take, Some, arith}
use Rattle.std.proofs.lemmas.Int.{ints}
use Rattle.std.proofs.Math.Nat.{mul-le-mul_right}
use Rattle.std.specs.List.{AllByRecursion}
use Rattle.wrp_network.specs.declared.network.LinkCfg.{LinkCfg}
use Rattle.wrp_base.proofs.Lists.{append_assoc}
use Rattle.wrp_bounds.specs.Bounds.{numbers_of}
use Rattle.wrp_bounds.specs.declared.numbers.HopNumbers.{HopNumbers}
use Rattle.wrp_exch.specs.declared.ring.GoodSample.{GoodSample}
use Rattle.wrp_exch.specs.Samples.{last_samples, phase_in, samples}
use Rattle.wrp_tracking_laws.specs.Chain.{Good}
use Rattle.wrp_course.specs.Run.{Happened, world_after}
use Rattle.wrp_course.specs.Runs.{IsRun}
use Rattle.wrp_course.specs.Setting.{Setting}
use Rattle.wrp_bound_laws.specs.Chains.{AllFit}
use Rattle.wrp_bound_laws.specs.Exchanges.{exchange_at}
use Rattle.wrp_bound_laws.specs.Moments.{AtEach}
use Rattle.wrp_bound_laws.specs.Rates.{HasChain}
use Rattle.wrp_bound_laws.proofs.Runs.Suffixes.{at_newest}
use Rattle.wrp_bound_laws.proofs.SyncPairs.SyncCalls.{Above, Below, Found, found}
use Rattle.wrp_bound_laws.proofs.SyncPairs.SyncChains.{AllAbove, Falls, SyncChainLaws, falls_below, goods_above, goods_apart, goods_in, samples_of}
use Rattle.wrp_bound_laws.proofs.SyncPairs.SyncNumbers.{numbers_hold}
use Rattle.wrp_bound_laws.proofs.SyncPairs.SyncPasts.{InRun, Recent, between, goods_fall, goods_past, recent, samples_are, then_in, up_each}
use Rattle.wrp_bound_laws.proofs.SyncPairs.SyncSamples.{Begun, sample_of}

-- Parts of a run

pub at_front : (P : List Happened → Type 0) (a b older : List Happened) → AtEach P (a ++ b) older → AtEach P a (b ++ older)
at_front P [] b older h = at_newest P b older h
at_front P (x ∷ a) b older h = (subst (λ l. P (x ∷ l)) (append_assoc a b older) h.0, at_front P a b older h.1)

-- Lists of samples

split_map : (xs : List Good) (g : Good) (es : List Good) (old : List GoodSample) → map sample_of (xs ++ g ∷ es) ++ old ≡ map sample_of xs ++ sample_of g ∷ (map sample_of es ++ old)
split_map [] g es old = refl
split_map (x ∷ xs) g es old = ap (λ l. sample_of x ∷ l) (split_map xs g es old)

all_above : (n : ℕ) (gs : List Good) → AllAbove n gs → Above n (map sample_of gs)
all_above n [] h = tt
all_above n (g ∷ gs) h = (h.0, all_above n gs h.1)

old_below : (n m : ℕ) (xs : List GoodSample) → n < m → AllByRecursion (λ x. x.number ≤ n) xs → Below m xs
old_below n m [] l h = tt
old_below n m (x ∷ xs) l h = (less x.number h.0, old_below n m xs l h.1)
  where
    less : (a : ℕ) → a ≤ n → a < m
    less a k = omega (arith, l, k)

both_below : (m : ℕ) (gs : List Good) (old : List GoodSample) → AllByRecursion (λ (g : Good). g.number < m) gs → Below m old → Below m (map sample_of gs ++ old)
both_below m [] old h k = k
both_below m (g ∷ gs) old h k = (h.0, both_below m gs old h.1 k)

one_less : (a b : ℕ) → a < b + 1 → a ≤ b
one_less a b h = omega (arith, h)

as_many : (gs : List Good) → length (map sample_of gs) ≡ length gs
as_many [] = refl
as_many (g ∷ gs) = ap suc (as_many gs)

-- what was found among the last good samples
pub found_newest : (laws : SyncChainLaws) (s : Setting) (k : ℕ) (link : LinkCfg) (hop : HopNumbers) (newer chain : List Happened) (start : Happened) (before : List Happened) (x : InRun s k link (newer ++ chain) start before) (b : Begun s start before link) →
    (r : Recent s k link hop chain start before) (ring n : ℕ) (u : ℤ) → n ≡ samples_of s (chain ++ start ∷ before) link.lower → phase_in (last_samples ring (exchange_at s link ((newer ++ chain) ++ start ∷ before))) n ≡ Some u →
    Found ring n u (map sample_of (goods_in s link.lower newer (chain ++ start ∷ before))) (sample_of r.newest)
found_newest laws s k link hop newer chain start before x b r ring n u is e =
    let m : ℕ = link.lower in
    let there : List Happened = chain ++ start ∷ before in
    let old : List GoodSample = samples (exchange_at s link before) in
    let y : InRun s k link chain start before = then_in s k link newer chain start before x in
    let all : samples (exchange_at s link ((newer ++ chain) ++ start ∷ before)) ≡ map sample_of (goods_in s m newer there) ++ sample_of r.newest ∷ (map sample_of r.earlier ++ old) =
    samples_are laws s k link (newer ++ chain) start before x b ∙ ap (λ gs. map sample_of gs ++ old) (goods_apart s m newer chain (start ∷ before))
    ∙ ap (λ gs. map sample_of (goods_in s m newer there ++ gs) ++ old) r.goods ∙ split_map (goods_in s m newer there) r.newest r.earlier old in
    let falls : Falls (samples_of s there m + 1) (r.newest ∷ r.earlier) = subst (Falls (samples_of s there m + 1)) r.goods (goods_fall laws s k link chain start before y b) in
    let past : AllAbove (samples_of s before m) (r.newest ∷ r.earlier) = subst (AllAbove (samples_of s before m)) r.goods (goods_past laws s k link chain start before y b) in
    let run : IsRun s (newer ++ there) = subst (IsRun s) (append_assoc newer chain (start ∷ before)) x.run in
    let above : AllAbove (samples_of s there m) (goods_in s m newer there) =
    goods_above s newer there m run (up_each laws s k link newer there run x.is (at_front (HasChain s m) newer chain (start ∷ before) x.standing.stands)) in
    found ring n u (map sample_of (goods_in s m newer there)) (sample_of r.newest) (map sample_of r.earlier ++ old)
    (all_above n (goods_in s m newer there) (subst (λ z. AllAbove z (goods_in s m newer there)) (sym is) above))
    (subst (λ z. r.newest.number ≤ z) (sym is) (one_less r.newest.number (samples_of s there m) falls.0))
    (both_below r.newest.number r.earlier old (falls_below r.newest.number r.earlier falls.1) (old_below (samples_of s before m) r.newest.number old past.0 (numbers_hold s before link)))
    (subst (λ l. phase_in (take ring l) n ≡ Some u) all e)

-- Its age

in_ring : (now last at : ℤ) (n ring g : ℕ) → n < ring → now ≤ℤ (last +ℤ pos g) → last ≤ℤ (at +ℤ pos (n * g)) → now ≤ℤ (at +ℤ pos (ring * g))
in_ring now last at n ring g few h k =
    let more : suc n * g ≡ n * g + g = grind (arith) in
    let fits : suc n * g ≤ ring * g = mul-le-mul_right g (omega (arith, few)) in
    sum now last at (n * g) (suc n * g) (ring * g) g more fits h k
  where
    sum : (now last at : ℤ) (p q r g : ℕ) → q ≡ p + g → q ≤ r → now ≤ℤ (last +ℤ pos g) → last ≤ℤ (at +ℤ pos p) → now ≤ℤ (at +ℤ pos r)
    sum now last at p q r g e fits h k = omega (arith, ints)

-- while it is found it is no longer ago than the ring's gaps
pub found_recent : (laws : SyncChainLaws) (s : Setting) (k : ℕ) (link : LinkCfg) (hop : HopNumbers) (newer chain : List Happened) (start : Happened) (before : List Happened) (x : InRun s k link (newer ++ chain) start before) → AllFit ((newer ++ chain) ++ start ∷ before) →
    numbers_of s.cfg link.lower ≡ Some hop → (r : Recent s k link hop chain start before) (ring n : ℕ) (u : ℤ) → Found ring n u (map sample_of (goods_in s link.lower newer (chain ++ start ∷ before))) (sample_of r.newest) →
    (world_after s ((newer ++ chain) ++ start ∷ before)).time ≤ℤ (r.moment.time +ℤ pos (ring * hop.gap_time))
found_recent laws s k link hop newer chain start before x fit numbers r ring n u f =
    let now : Recent s k link hop (newer ++ chain) start before = recent laws s k link hop (newer ++ chain) start before x fit numbers in
    let gs : List Good = goods_in s link.lower newer (chain ++ start ∷ before) in
    in_ring (world_after s ((newer ++ chain) ++ start ∷ before)).time now.moment.time r.moment.time (length gs) ring hop.gap_time
    (subst (λ z. z < ring) (as_many gs) f.few) now.near (between laws s k link hop newer chain start before x fit numbers r now)
