-- The good samples of a chain, and the Syncs and Follow_Ups that its slave's exchange took in it.
use Rattle.std.proofs.Common.{◌≡◌, inl, inr, ◌∙◌, refl, ap, ap₂, sym, subst, ℕ, suc, ◌+◌, ◌<◌, ◌≤◌, ◌==◌, ℤ, not, Bool, true, false, if◌then◌else◌, List, [], ◌∷◌, ◌++◌, length, Option, None, Some, option_map, option_to_list, Result, arith}
use Rattle.std.proofs.lemmas.Bool.{eqb-true}
use Rattle.std.proofs.lemmas.Bool.Decides.{eqb_tells}
use Rattle.std.specs.List.{AllByRecursion}
use Rattle.std.proofs.lemmas.Option.{none-some, same_Some}
use Rattle.wrp_base.specs.declared.message.PtpMsg.{PtpMsg}
use Rattle.wrp_network.specs.declared.network.LinkCfg.{LinkCfg}
use Rattle.wrp_base.proofs.Lists.{append_assoc, head_and_tail}
use Rattle.wrp_base.proofs.Naturals.{le_one_more, nat_le_self, nat_le_trans}
use Rattle.wrp_frame.specs.declared.fault.FrameFault.{FrameFault}
use Rattle.wrp_tracking_laws.specs.Chain.{Good}
use Rattle.wrp_course.specs.declared.event.Event.{Event}
use Rattle.wrp_course.specs.declared.event.Event.TheVariants.{Sample, Up}
use Rattle.wrp_course.specs.Run.{Happened, world_after}
use Rattle.wrp_course.specs.Runs.{IsRun}
use Rattle.wrp_course.specs.Setting.{Setting, link_of}
use Rattle.wrp_course.proofs.RunTimes.{comes_up_down, not_up}
use Rattle.wrp_bound_laws.specs.Chains.{ChainHasConstant, good_in, goods_since}
use Rattle.wrp_bound_laws.specs.Leases.{FollowsSource, IsCarried}
use Rattle.wrp_bound_laws.specs.Moments.{AtEach}
use Rattle.wrp_bound_laws.specs.Rates.{HasChain}
use Rattle.wrp_bound_laws.proofs.Samples.ChainSources.{ChainLaws, chain_has_source}
use Rattle.wrp_bound_laws.proofs.Sources.LeaseSources.{both_nodes}
use Rattle.wrp_bound_laws.proofs.Runs.Suffixes.{at_newest, run_before}
use Rattle.wrp_bound_laws.proofs.SyncPairs.SyncGiven.{GivenLaws}
use Rattle.wrp_bound_laws.proofs.Samples.SampleEvents.{IsLowOf, low_stay, sampled_samples, samples_then}

-- the laws that this rests on
pub record SyncChainLaws : Type 0 where
  pub given : GivenLaws
  pub chains : ChainLaws
  pub constant : ChainHasConstant

-- A chain that is there

-- it began in an event, and is there since
pub record Standing (s : Setting) (link : LinkCfg) (newer : List Happened) (start : Happened) (before : List Happened) : Type 0 where
  pub stands : AtEach (HasChain s link.lower) newer (start ∷ before)
  pub begins : HasChain s link.lower before → ⊥

pub stands_now : (s : Setting) (link : LinkCfg) (newer : List Happened) (start : Happened) (before : List Happened) → Standing s link newer start before → HasChain s link.lower (newer ++ start ∷ before)
stands_now s link newer start before x = at_newest (HasChain s link.lower) newer (start ∷ before) x.stands

-- only in one event
pub one_start : (s : Setting) (link : LinkCfg) (newer other : List Happened) (start first : Happened) (before earlier : List Happened) → newer ++ start ∷ before ≡ other ++ first ∷ earlier → Standing s link newer start before → Standing s link other first earlier →
    (newer ≡ other) × ((start ≡ first) × (before ≡ earlier))
one_start s link [] [] start first before earlier e x y = (refl, head_and_tail start first before earlier e)
one_start s link [] (o ∷ other) start first before earlier e x y =
    absurd (x.begins (subst (HasChain s link.lower) (sym (head_and_tail start o before (other ++ first ∷ earlier) e).1) (at_newest (HasChain s link.lower) other (first ∷ earlier) y.stands.1)))
one_start s link (n ∷ newer) [] start first before earlier e x y =
    absurd (y.begins (subst (HasChain s link.lower) (head_and_tail n first (newer ++ start ∷ before) earlier e).1 (at_newest (HasChain s link.lower) newer (start ∷ before) x.stands.1)))
one_start s link (n ∷ newer) (o ∷ other) start first before earlier e x y =
    let h : (n ≡ o) × (newer ++ start ∷ before ≡ other ++ first ∷ earlier) = head_and_tail n o (newer ++ start ∷ before) (other ++ first ∷ earlier) e in
    let rest : _ = one_start s link newer other start first before earlier h.1 (record { stands = x.stands.1; begins = x.begins }) (record { stands = y.stands.1; begins = y.begins }) in
    (ap₂ (λ (a : Happened) (l : List Happened). a ∷ l) h.0 rest.0, rest.1)

-- with it the node is up
pub chain_up : ChainLaws → (s : Setting) (events : List Happened) (k : ℕ) (link : LinkCfg) → IsRun s events → link_of s k ≡ Some link → HasChain s link.lower events → ((world_after s events).clock link.lower).up ≡ true
chain_up laws s events k link run is chain =
    let f : FollowsSource s events k link = chain_has_source laws s events k link run is chain in
    (both_nodes s (world_after s events) k link is (subst (IsCarried s k) (sym f.splits) (at_newest (IsCarried s k) f.newer f.older f.carried))).1

-- The samples of a node that is up

abbrev pub samples_of : Setting → List Happened → ℕ → ℕ
samples_of s events n = ((world_after s events).clock n).samples

at_least : (n m : ℕ) → m ≡ n → n ≤ m
at_least n m e = omega (arith, e)

low_up : (s : Setting) (h : Happened) (before : List Happened) (n : ℕ) → IsLowOf n h.event → samples_of s before n ≤ samples_of s (h ∷ before) n
low_up s h before n low = at_least (samples_of s before n) (samples_of s (h ∷ before) n) (low_stay s h before n low)

event_up : (s : Setting) (says : Result PtpMsg FrameFault) (y : ℤ) (before : List Happened) (e : Event) (n : ℕ) → IsRun s (record { event = e; says = says; answer = y } ∷ before) → ((world_after s before).clock n).up ≡ true →
    samples_of s before n ≤ samples_of s (record { event = e; says = says; answer = y } ∷ before) n
event_up s says y before (Sample m base bits) n run up = elim (eqb_tells n m) [
  | inl x ↦
      subst (λ z. samples_of s before n ≤ z) (sym (samples_then s (record { event = Sample m base bits; says = says; answer = y }) before n ∙ sampled_samples s (world_after s before) n m base bits x.1)) (le_one_more (samples_of s before n))
  | inr x ↦ low_up s (record { event = Sample m base bits; says = says; answer = y }) before n x.1
]
event_up s says y before (Up m off swaps) n run up =
    low_up s (record { event = Up m off swaps; says = says; answer = y }) before n
    (λ same. not_up ((world_after s before).clock n).up up (subst (λ i. not (not ((world_after s before).clock i).up) ≡ false) (sym same) (comes_up_down s (world_after s before) says m off swaps run.accepted.0)))
event_up s says y before e n run up = low_up s (record { event = e; says = says; answer = y }) before n tt

pub samples_up : (s : Setting) (h : Happened) (before : List Happened) (n : ℕ) → IsRun s (h ∷ before) → ((world_after s before).clock n).up ≡ true → samples_of s before n ≤ samples_of s (h ∷ before) n
samples_up s h before n run up = event_up s h.says h.answer before h.event n run up

-- over these events
pub samples_since : (s : Setting) (newer older : List Happened) (n : ℕ) → IsRun s (newer ++ older) → AtEach (λ l. ((world_after s l).clock n).up ≡ true) newer older → samples_of s older n ≤ samples_of s (newer ++ older) n
samples_since s [] older n run up = nat_le_self (samples_of s older n)
samples_since s (h ∷ newer) older n run up =
    let was : IsRun s (newer ++ older) = run_before s h (newer ++ older) run in
    nat_le_trans (samples_of s older n) (samples_of s (newer ++ older) n) (samples_of s (h ∷ (newer ++ older)) n) (samples_since s newer older n was up.1)
    (samples_up s h (newer ++ older) n run (at_newest (λ l. ((world_after s l).clock n).up ≡ true) newer older up.1))

-- Good samples

-- what an event is that brings one
pub record BringsGood (s : Setting) (h : Happened) (before : List Happened) (n : ℕ) (g : Good) : Type 0 where
  pub number : g.number ≡ samples_of s before n + 1
  pub samples : samples_of s (h ∷ before) n ≡ samples_of s before n + 1
  pub at : g.at ≡ length (h ∷ before)
  pub time : (world_after s (h ∷ before)).time ≡ (world_after s before).time

next_length : (n : ℕ) → n + 1 ≡ suc n
next_length n = omega arith

good_if : (b : Bool) (o : Option Good) (g : Good) → (if b then o else None) ≡ Some g → (b ≡ true) × (o ≡ Some g)
good_if true o g e = (refl, e)
good_if false o g e = absurd (none-some g e)

tagged : (f : ℕ → Good) (o : Option ℕ) (g : Good) → option_map f o ≡ Some g → (tag : ℕ) × (f tag ≡ g)
tagged f None g e = absurd (none-some g e)
tagged f (Some tag) g e = (tag, same_Some (f tag) g e)

good_event : (s : Setting) (says : Result PtpMsg FrameFault) (y : ℤ) (before : List Happened) (e : Event) (n : ℕ) (g : Good) → good_in s n (record { event = e; says = says; answer = y }) before e ≡ Some g → BringsGood s (record { event = e; says = says; answer = y }) before n g
good_event s says y before (Sample m base bits) n g e =
    let h : Happened = record { event = Sample m base bits; says = says; answer = y } in
    let it : ((n == m) ≡ true) × (_ ≡ Some g) = good_if (n == m) _ g e in
    let good : _ = tagged _ _ g it.1 in
    let same : n ≡ m = eqb-true n m it.0 in
    record {
      number = ap (λ (x : Good). x.number) (sym good.1);
      samples = samples_then s h before n ∙ sampled_samples s (world_after s before) n m base bits same;
      at = ap (λ (x : Good). x.at) (sym good.1) ∙ next_length (length before);
      time = refl;
    }
good_event s says y before other n g e = absurd (none-some g e)

pub brings_good : (s : Setting) (h : Happened) (before : List Happened) (n : ℕ) (g : Good) → good_in s n h before h.event ≡ Some g → BringsGood s h before n g
brings_good s h before n g e = good_event s h.says h.answer before h.event n g e

-- the good samples of the newer events alone
abbrev pub goods_in : Setting → ℕ → (newer older : List Happened) → List Good
goods_in s n [] older = []
goods_in s n (h ∷ newer) older = option_to_list (good_in s n h (newer ++ older) h.event) ++ goods_in s n newer older

joined : (o : Option Good) (xs ys : List Good) → option_to_list o ++ (xs ++ ys) ≡ (option_to_list o ++ xs) ++ ys
joined None xs ys = refl
joined (Some g) xs ys = refl

pub goods_apart : (s : Setting) (n : ℕ) (a b older : List Happened) → goods_since s n (a ++ b) older ≡ goods_in s n a (b ++ older) ++ goods_since s n b older
goods_apart s n [] b older = refl
goods_apart s n (h ∷ a) b older =
    ap₂ (λ (l : List Happened) (gs : List Good). option_to_list (good_in s n h l h.event) ++ gs) (append_assoc a b older) (goods_apart s n a b older)
    ∙ joined (good_in s n h (a ++ (b ++ older)) h.event) (goods_in s n a (b ++ older)) (goods_since s n b older)

-- their numbers are above those before
abbrev pub AllAbove : ℕ → List Good → Type 0
AllAbove n gs = AllByRecursion (λ (g : Good). n < g.number) gs

pub above_more : (bound : ℕ) (o : Option Good) (gs : List Good) → ((g : Good) → o ≡ Some g → bound < g.number) → AllAbove bound gs → AllAbove bound (option_to_list o ++ gs)
above_more bound None gs h k = k
above_more bound (Some g) gs h k = (h g refl, k)

is_above : (a b c : ℕ) → c ≡ b + 1 → a ≤ b → a < c
is_above a b c e h = omega (arith, e, h)

pub goods_above : (s : Setting) (newer older : List Happened) (n : ℕ) → IsRun s (newer ++ older) → AtEach (λ l. ((world_after s l).clock n).up ≡ true) newer older → AllAbove (samples_of s older n) (goods_in s n newer older)
goods_above s [] older n run up = tt
goods_above s (h ∷ newer) older n run up =
    let was : IsRun s (newer ++ older) = run_before s h (newer ++ older) run in
    above_more (samples_of s older n) (good_in s n h (newer ++ older) h.event) (goods_in s n newer older)
    (λ g e. is_above (samples_of s older n) (samples_of s (newer ++ older) n) g.number (brings_good s h (newer ++ older) n g e).number (samples_since s newer older n was up.1))
    (goods_above s newer older n was up.1)

-- they fall, looking back
abbrev pub Falls : ℕ → List Good → Type 0
Falls n [] = Unit {0}
Falls n (g ∷ gs) = (g.number < n) × Falls g.number gs

pub falls_more : (n m : ℕ) (gs : List Good) → n ≤ m → Falls n gs → Falls m gs
falls_more n m [] l h = tt
falls_more n m (g ∷ gs) l h = (less g.number n m h.0 l, h.1)
  where
    less : (a b c : ℕ) → a < b → b ≤ c → a < c
    less a b c h k = omega (arith, h, k)

pub falls_below : (n : ℕ) (gs : List Good) → Falls n gs → AllByRecursion (λ (g : Good). g.number < n) gs
falls_below n [] h = tt
falls_below n (g ∷ gs) h = (h.0, falls_below n gs (falls_more g.number n gs (not_more g.number n h.0) h.1))
  where
    not_more : (a b : ℕ) → a < b → a ≤ b
    not_more a b h = omega (arith, h)
