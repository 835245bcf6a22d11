-- The good samples of a chain came at most `gap + 1` longest ticks apart.
use Rattle.std.proofs.Common.{◌≡◌, inr, ◌∙◌, refl, ap, ap₂, sym, subst, ℕ, ℤ, pos, ◌+ℤ◌, ◌≤ℤ◌, List, [], ◌∷◌, ◌++◌, length, Option, None, Some, option_to_list, arith}
use Rattle.std.proofs.lemmas.Int.{ints}
use Rattle.wrp_network.specs.declared.network.LinkCfg.{LinkCfg}
use Rattle.wrp_base.proofs.Lists.{head_and_tail}
use Rattle.wrp_bounds.specs.Bounds.{numbers_of}
use Rattle.wrp_bounds.specs.declared.numbers.HopNumbers.{HopNumbers}
use Rattle.wrp_bounds.specs.Times.{gap_time}
use Rattle.wrp_tracking_laws.specs.Chain.{Good}
use Rattle.wrp_tracking_laws.specs.History.{Was}
use Rattle.wrp_tracking_laws.specs.Moment.{Moment}
use Rattle.wrp_tracking_laws.proofs.Histories.{was_one}
use Rattle.wrp_course.specs.Run.{Happened, world_after, worlds_of}
use Rattle.wrp_course.specs.Setting.{Setting}
use Rattle.wrp_course.specs.WorldAt.{WorldAt}
use Rattle.wrp_bound_laws.specs.Chains.{AllFit, ChainHasConstant, ChainRuns, good_in, goods_since}
use Rattle.wrp_bound_laws.specs.UnbrokenChains.{AreClose}
use Rattle.wrp_bound_laws.specs.Views.{moment_at}
use Rattle.wrp_bound_laws.proofs.Runs.HopNumbers.{hop_has}
use Rattle.wrp_bound_laws.proofs.Samples.BoundRuns.{was_world}
use Rattle.wrp_bound_laws.proofs.Samples.FourMoments.{was_mapped}
use Rattle.wrp_bound_laws.proofs.SyncPairs.SyncChains.{BringsGood, brings_good, one_start, stands_now}
use Rattle.wrp_bound_laws.proofs.SyncPairs.SyncPasts.{InRun, earlier_in}

at_once : (t : ℤ) (n : ℕ) → t ≤ℤ (t +ℤ pos n)
at_once t n = omega (arith, ints)

-- The newest of them

same_goods : (s : Setting) (n : ℕ) (newer other : List Happened) (start first : Happened) (before earlier : List Happened) → (newer ≡ other) × ((start ≡ first) × (before ≡ earlier)) → goods_since s n newer (start ∷ before) ≡ goods_since s n other (first ∷ earlier)
same_goods s n newer other start first before earlier e =
    ap (λ l. goods_since s n l (start ∷ before)) e.0 ∙ ap₂ (λ (a : Happened) (l : List Happened). goods_since s n other (a ∷ l)) e.1.0 e.1.1

newest_close : ChainHasConstant → (s : Setting) (k : ℕ) (link : LinkCfg) (hop : HopNumbers) (newer : List Happened) (start : Happened) (before : List Happened) → InRun s k link newer start before → AllFit (newer ++ start ∷ before) → numbers_of s.cfg link.lower ≡ Some hop →
    (g : Good) (gs : List Good) → goods_since s link.lower newer (start ∷ before) ≡ g ∷ gs → (w : WorldAt) → Was (worlds_of s (newer ++ start ∷ before)) g.at w → (world_after s (newer ++ start ∷ before)).time ≤ℤ (w.time +ℤ pos (gap_time s.cfg))
newest_close law s k link hop newer start before x fit numbers g gs goods w was =
    let n : ℕ = link.lower in
    let events : List Happened = newer ++ start ∷ before in
    let now : ℤ = (world_after s events).time in
    let c : ChainRuns s events k link hop = law s events k link hop x.run fit x.is numbers (stands_now s link newer start before x.standing) in
    let same : (newer ≡ c.newer) × ((start ≡ c.start) × (before ≡ c.before)) =
    one_start s link newer c.newer start c.start before c.before c.splits x.standing (record { stands = c.stands; begins = c.begins }) in
    let list : g ∷ gs ≡ c.newest ∷ c.earlier = sym goods ∙ same_goods s n newer c.newer start c.start before c.before same ∙ sym c.goods in
    let head : g ≡ c.newest = (head_and_tail g c.newest gs c.earlier list).0 in
    let at : (v : WorldAt) × Was (worlds_of s events) c.newest.at v × (c.holds.moment ≡ moment_at k link v) =
    was_mapped (moment_at k link) c.newest.at c.holds.moment (worlds_of s events) c.holds.was in
    let one : at.0 ≡ w = was_one c.newest.at at.0 w (worlds_of s events) at.1 (subst (λ (z : Good). Was (worlds_of s events) z.at w) head was) in
    let time : c.holds.moment.time ≡ w.time = ap (λ (m : Moment). m.time) at.2 ∙ ap (λ (v : WorldAt). v.time) one in
    subst (λ t. now ≤ℤ (t +ℤ pos (gap_time s.cfg))) time
    (subst (λ z. now ≤ℤ (c.holds.moment.time +ℤ pos z)) (hop_has s x.run.network k link hop x.is numbers).gap c.recent)

-- One event more

longer : (s : Setting) (h : Happened) (events : List Happened) (time : ℤ) (gs : List Good) → AreClose s events time gs → AreClose s (h ∷ events) time gs
longer s h events time [] close = tt
longer s h events time (g ∷ gs) close = (close.0, inr close.1, close.2, longer s h events close.0.time gs close.3)

later : (s : Setting) (h : Happened) (events : List Happened) (old now : ℤ) (gs : List Good) → ((g : Good) (rest : List Good) → gs ≡ g ∷ rest → (w : WorldAt) → Was (worlds_of s (h ∷ events)) g.at w → now ≤ℤ (w.time +ℤ pos (gap_time s.cfg))) →
    AreClose s events old gs → AreClose s (h ∷ events) now gs
later s h events old now [] near close = tt
later s h events old now (g ∷ gs) near close = (close.0, inr close.1, near g gs refl close.0 (inr close.1), longer s h events close.0.time gs close.3)

-- the event that brings one
was_now : (s : Setting) (h : Happened) (before : List Happened) (g : Good) → g.at ≡ length (h ∷ before) → Was (worlds_of s (h ∷ before)) g.at (world_after s (h ∷ before))
was_now s h before g at = subst (λ i. Was (worlds_of s (h ∷ before)) i (world_after s (h ∷ before))) (sym at) (was_world s [] (h ∷ before))

first_close : (s : Setting) (start : Happened) (before : List Happened) (n : ℕ) (o : Option Good) → good_in s n start before start.event ≡ o → AreClose s (start ∷ before) (world_after s (start ∷ before)).time (option_to_list o)
first_close s start before n None e = tt
first_close s start before n (Some g) e =
    (world_after s (start ∷ before), was_now s start before g (brings_good s start before n g e).at, at_once (world_after s (start ∷ before)).time (gap_time s.cfg), tt)

close_more : (s : Setting) (h : Happened) (events : List Happened) (n : ℕ) (gs : List Good) (o : Option Good) → good_in s n h events h.event ≡ o →
    ((g : Good) (rest : List Good) → option_to_list o ++ gs ≡ g ∷ rest → (w : WorldAt) → Was (worlds_of s (h ∷ events)) g.at w → (world_after s (h ∷ events)).time ≤ℤ (w.time +ℤ pos (gap_time s.cfg))) →
    AreClose s events (world_after s events).time gs → AreClose s (h ∷ events) (world_after s (h ∷ events)).time (option_to_list o ++ gs)
close_more s h events n gs None e near close = later s h events (world_after s events).time (world_after s (h ∷ events)).time gs near close
close_more s h events n gs (Some g) e near close =
    let it : BringsGood s h events n g = brings_good s h events n g e in (
      world_after s (h ∷ events),
      was_now s h events g it.at,
      at_once (world_after s (h ∷ events)).time (gap_time s.cfg),
      longer s h events (world_after s (h ∷ events)).time gs (subst (λ t. AreClose s events t gs) (sym it.time) close),
    )

-- All of them

pub samples_close : ChainHasConstant → (s : Setting) (k : ℕ) (link : LinkCfg) (hop : HopNumbers) (newer : List Happened) (start : Happened) (before : List Happened) → InRun s k link newer start before → AllFit (newer ++ start ∷ before) → numbers_of s.cfg link.lower ≡ Some hop →
    AreClose s (newer ++ start ∷ before) (world_after s (newer ++ start ∷ before)).time (goods_since s link.lower newer (start ∷ before))
samples_close law s k link hop [] start before x fit numbers = first_close s start before link.lower (good_in s link.lower start before start.event) refl
samples_close law s k link hop (h ∷ newer) start before x fit numbers =
    let events : List Happened = newer ++ start ∷ before in
    close_more s h events link.lower (goods_since s link.lower newer (start ∷ before)) (good_in s link.lower h events h.event) refl
    (λ g rest goods w was. newest_close law s k link hop (h ∷ newer) start before x fit numbers g rest goods w was)
    (samples_close law s k link hop newer start before (earlier_in s k link h newer start before x) fit.1 numbers)
