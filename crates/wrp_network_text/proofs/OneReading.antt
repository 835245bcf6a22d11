-- One text has one answer.
use Rattle.std.proofs.Common.{◌≡◌, ◌<◌, ◌++◌, ◌+◌, ℕ, List, Option, None, Some, Result, Ok, Err, inl, inr, ◌⊎◌, refl, sym, ap, subst, ◌∙◌, arith}
use Rattle.std.proofs.lemmas.Bool.{cases_lt, false≢true}
use Rattle.std.specs.Prelude.{codes, decimal}
use Rattle.std.specs.List.{find}
use Rattle.toml.specs.Data.{Members}
use Rattle.std.proofs.lemmas.Option.{same_Some}
use Rattle.wrp_network.specs.declared.configuration.NetCfg.{NetCfg}
use Rattle.wrp_base.specs.declared.fault.ConfFault.{ConfFault}
use Rattle.wrp_base.specs.declared.fault.ConfFault.TheVariants.{Fault, Memory}
use Rattle.wrp_network.specs.Network.{node_count}
use Rattle.wrp_bounds.proofs.Kept.{kept_of_none}
use Rattle.wrp_bounds.specs.Inequalities.{is_broken, inequalities, answer_of}
use Rattle.wrp_bounds.specs.declared.inequality.Clash.{Clash}
use Rattle.wrp_bounds.specs.declared.inequality.Inequality.{Inequality}
use Rattle.wrp_calibration_text.proofs.Refusals.{least_exact}
use Rattle.wrp_caldb.specs.Place.{PlaceAt, place_text}
use Rattle.wrp_calibration_text.specs.Reading.{IsNoText, IsTextOf}
use Rattle.wrp_caldb.specs.Refusal as lists
use Rattle.wrp_caldb.specs.declared.row.Code.{Code}
use Rattle.wrp_network_text.proofs.Accepted.{read_accepted}
use Rattle.wrp_config.proofs.Bare.{count_bare, inequalities_bare}
use Rattle.wrp_network_text.proofs.BareTree.{fault_bare}
use Rattle.wrp_network_text.specs.Config.{IsNetworkOf}
use Rattle.wrp_network_text.specs.Places.{first_place, IsTaken}
use Rattle.wrp_network_text.specs.Reading.{IsTableFault, IsTreeFault, IsClash, IsNetworkFault, IsAnswerOf, clash_text}
use Rattle.wrp_config.specs.Same.{bare_cfg}
use Rattle.wrp_network_text.specs.SameAnswer.{IsSameAnswer, OneReading, ReadingIsAccepted}
use Rattle.wrp_network_text.specs.Tree as tree
use Rattle.wrp_network_text.specs.Tree.{has_fault, NoneBefore, HasNone, IsFirst, HasNoneBefore, HasNoFault}
use Rattle.wrp_config.specs.declared.network.Network.{Network}
use Rattle.wrp_network_text.specs.declared.tree.TreeFault.{TreeFault}
use Rattle.wrp_network_text.specs.declared.tree.TreeFault.TheVariants.{NotATree, TwoSlaves, TooDeep}

-- The network

-- two networks of one text are the same
pub network_once : (doc : Members) (a b : NetCfg) → IsNetworkOf doc a → IsNetworkOf doc b → bare_cfg a ≡ bare_cfg b
network_once doc a b x y =
    rw (
      x.epoch,
      x.domain,
      x.dmin_ns,
      x.dmax_ns,
      x.life_ns,
      x.reach_ns,
      x.quiet,
      x.holdover,
      x.wait,
      x.lock_wait,
      x.holdoff,
      x.lease,
      x.age,
      x.report,
      x.stable,
      x.lock_samples,
      x.retries,
      x.gap,
      x.announce,
      x.sync,
      x.delay,
      x.ring,
      x.track_tau,
      x.loop_tau,
      x.phase_step,
      x.kp,
      x.ki,
      x.bias,
      x.threshold,
      x.delock_samples,
      x.clock,
      x.nodes,
      x.links,
      x.e_db,
      x.tx_max,
      x.rx_max,
      y.epoch,
      y.domain,
      y.dmin_ns,
      y.dmax_ns,
      y.life_ns,
      y.reach_ns,
      y.quiet,
      y.holdover,
      y.wait,
      y.lock_wait,
      y.holdoff,
      y.lease,
      y.age,
      y.report,
      y.stable,
      y.lock_samples,
      y.retries,
      y.gap,
      y.announce,
      y.sync,
      y.delay,
      y.ring,
      y.track_tau,
      y.loop_tau,
      y.phase_step,
      y.kp,
      y.ki,
      y.bias,
      y.threshold,
      y.delock_samples,
      y.clock,
      y.nodes,
      y.links,
      y.e_db,
      y.tx_max,
      y.rx_max,
    ) refl

-- Tables

-- one code at one place
table_once : (doc : Members) (n m : ℕ) (s t : List ℕ) → IsTableFault doc n s → IsTableFault doc m t → (n ≡ m) × (s ≡ t)
table_once doc n m s t one other =
    let first = (least_exact (first_place doc) one.0 one.1).1 one.2 in
    let second = (least_exact (first_place doc) other.0 other.1).1 other.2 in
    let same : (one.0, one.1) ≡ (other.0, other.1) = same_Some (one.0, one.1) (other.0, other.1) (sym first ∙ second) in (
      one.3 ∙ ap (λ (at : Code × PlaceAt). lists.number_of at.0) same ∙ sym other.3,
      one.4 ∙ ap (λ (at : Code × PlaceAt). place_text at.1) same ∙ sym other.4,
    )

not_taken : (doc : Members) (n : ℕ) (s : List ℕ) → IsTableFault doc n s → IsTaken doc → ⊥
not_taken doc n s is taken = let never : None ≡ Some is.1 = sym (taken is.0) ∙ is.2.0 in cc never

-- Trees

module _ (a b : NetCfg) (same : bare_cfg a ≡ bare_cfg b) where
  fault_same : (fault : TreeFault) (n : ℕ) → has_fault a fault n ≡ has_fault b fault n
  fault_same fault n = sym (fault_bare a fault n) ∙ ap (λ cfg. has_fault cfg fault n) same ∙ fault_bare b fault n

  count_same : node_count a ≡ node_count b
  count_same = sym (count_bare a) ∙ ap node_count same ∙ count_bare b

  broken_same : find is_broken (inequalities a) ≡ find is_broken (inequalities b)
  broken_same = ap (find is_broken) (sym (inequalities_bare a) ∙ ap inequalities same ∙ inequalities_bare b)

  before_same : (fault : TreeFault) (n : ℕ) → NoneBefore a fault n → NoneBefore b fault n
  before_same fault n none m h = sym (fault_same fault m) ∙ none m h

  none_same : (fault : TreeFault) → HasNone a fault → HasNone b fault
  none_same fault none = before_same fault (node_count b) (subst (NoneBefore a fault) count_same none)

  no_fault_same : HasNoFault a → HasNoFault b
  no_fault_same none = (none_same NotATree none.0, none_same TwoSlaves none.1, none_same TooDeep none.2)

  earlier_same : (fault : TreeFault) → HasNoneBefore a fault → HasNoneBefore b fault
  earlier_same NotATree none = tt
  earlier_same TwoSlaves none = none_same NotATree none
  earlier_same TooDeep none = (none_same NotATree none.0, none_same TwoSlaves none.1)

  refused_same : (fault : TreeFault) (n : ℕ) → tree.IsRefused a fault n → tree.IsRefused b fault n
  refused_same fault n is = (
    earlier_same fault is.0,
    (subst (λ count. n < count) count_same is.1.0, sym (fault_same fault n) ∙ is.1.1, before_same fault n is.1.2),
  )

-- no node has the fault, so none is the first
none_first : (cfg : NetCfg) (fault : TreeFault) (n : ℕ) → HasNone cfg fault → IsFirst cfg fault (Some n) → ⊥
none_first cfg fault n none is = false≢true (sym (none n is.0) ∙ is.1)

first_once : (cfg : NetCfg) (fault : TreeFault) (m n : ℕ) → IsFirst cfg fault (Some m) → IsFirst cfg fault (Some n) → m ≡ n
first_once cfg fault m n one other =
    elim (cases_lt m n) [
      | inl before ↦ absurd (false≢true (sym (other.2 m before) ∙ one.1))
      | inr rest ↦ elim (cases_lt n m) [
        | inl behind ↦ absurd (false≢true (sym (one.2 n behind) ∙ other.1))
        | inr still ↦ omega (arith, rest, still)
      ]
    ]

-- one fault at one node
refused_once : (cfg : NetCfg) (f g : TreeFault) (m n : ℕ) → tree.IsRefused cfg f m → tree.IsRefused cfg g n → (f ≡ g) × (m ≡ n)
refused_once cfg NotATree NotATree m n one other = (refl, first_once cfg NotATree m n one.1 other.1)
refused_once cfg NotATree TwoSlaves m n one other = absurd (none_first cfg NotATree m other.0 one.1)
refused_once cfg NotATree TooDeep m n one other = absurd (none_first cfg NotATree m other.0.0 one.1)
refused_once cfg TwoSlaves NotATree m n one other = absurd (none_first cfg NotATree n one.0 other.1)
refused_once cfg TwoSlaves TwoSlaves m n one other = (refl, first_once cfg TwoSlaves m n one.1 other.1)
refused_once cfg TwoSlaves TooDeep m n one other = absurd (none_first cfg TwoSlaves m other.0.1 one.1)
refused_once cfg TooDeep NotATree m n one other = absurd (none_first cfg NotATree n one.0.0 other.1)
refused_once cfg TooDeep TwoSlaves m n one other = absurd (none_first cfg TwoSlaves n one.0.1 other.1)
refused_once cfg TooDeep TooDeep m n one other = (refl, first_once cfg TooDeep m n one.1 other.1)

not_refused : (cfg : NetCfg) (fault : TreeFault) (n : ℕ) → HasNoFault cfg → tree.IsRefused cfg fault n → ⊥
not_refused cfg NotATree n none is = none_first cfg NotATree n none.0 is.1
not_refused cfg TwoSlaves n none is = none_first cfg TwoSlaves n none.1 is.1
not_refused cfg TooDeep n none is = none_first cfg TooDeep n none.2 is.1

-- The faults of a network

err_is : (o : Result (Unit {0}) Clash) (x y : Clash) → o ≡ Err x → o ≡ Err y → x ≡ y
err_is o x y e f = cc (e, f)

not_broken : (o : Option Inequality) (clash : Clash) → o ≡ None → answer_of o ≡ Err clash → ⊥
not_broken None clash e is = cc is
not_broken (Some i) clash e is = cc e

abbrev HasFault : NetCfg → ℕ → List ℕ → Type 0
HasFault cfg number text = IsTreeFault cfg number text ⊎ IsClash cfg number text

fault_once : (a b : NetCfg) → bare_cfg a ≡ bare_cfg b → (n m : ℕ) (s t : List ℕ) → HasFault a n s → HasFault b m t → (n ≡ m) × (s ≡ t)
fault_once a b same n m s t (inl one) (inl other) =
    let is = refused_once b one.0 other.0 one.1 other.1 (refused_same a b same one.0 one.1 one.2) other.2 in (
      one.3 ∙ ap tree.number_of is.0 ∙ sym other.3,
      one.4 ∙ ap (λ k. codes "node." ++ decimal (k + 1)) is.1 ∙ sym other.4,
    )
fault_once a b same n m s t (inl one) (inr other) =
    absurd (not_refused b one.0 one.1 other.1 (refused_same a b same one.0 one.1 one.2))
fault_once a b same n m s t (inr one) (inl other) =
    absurd (not_refused b other.0 other.1 (no_fault_same a b same one.1) other.2)
fault_once a b same n m s t (inr one) (inr other) =
    let is : one.0 ≡ other.0 =
    err_is (answer_of (find is_broken (inequalities a))) one.0 other.0 one.2 (ap answer_of (broken_same a b same) ∙ other.2) in
    (one.3 ∙ sym other.3, one.4 ∙ ap clash_text is ∙ sym other.4)

-- a network without a fault has none
no_fault : (a b : NetCfg) → bare_cfg a ≡ bare_cfg b → HasNoFault a → find is_broken (inequalities a) ≡ None
    → (n : ℕ) (s : List ℕ) → HasFault b n s → ⊥
no_fault a b same none kept n s (inl is) = not_refused b is.0 is.1 (no_fault_same a b same none) is.2
no_fault a b same none kept n s (inr is) =
    not_broken (find is_broken (inequalities b)) is.0 (sym (broken_same a b same) ∙ kept) is.2

-- Answers

-- a table that is taken has no fault if it has a network
never_both : (doc : Members) (net : Network) (n : ℕ) (s : List ℕ) → IsAnswerOf doc (Ok net) → IsTableFault doc n s ⊎ IsNetworkFault doc n s → ⊥
never_both doc net n s ok (inl is) = not_taken doc n s is ok.0
never_both doc net n s ok (inr is) =
    no_fault net.cfg is.0 (network_once doc net.cfg is.0 ok.1 is.2) ok.3 ok.4 n s is.3

faults_once : (doc : Members) (n m : ℕ) (s t : List ℕ) → IsTableFault doc n s ⊎ IsNetworkFault doc n s
    → IsTableFault doc m t ⊎ IsNetworkFault doc m t → (n ≡ m) × (s ≡ t)
faults_once doc n m s t (inl one) (inl other) = table_once doc n m s t one other
faults_once doc n m s t (inl one) (inr other) = absurd (not_taken doc n s one other.1)
faults_once doc n m s t (inr one) (inl other) = absurd (not_taken doc m t other one.1)
faults_once doc n m s t (inr one) (inr other) =
    fault_once one.0 other.0 (network_once doc one.0 other.0 one.2 other.2) n m s t one.3 other.3

-- two answers for one table are the same
answer_once : (doc : Members) (one other : Result Network ConfFault) → IsAnswerOf doc one → IsAnswerOf doc other → IsSameAnswer one other
answer_once doc (Ok a) (Ok b) x y = (network_once doc a.cfg b.cfg x.1 y.1, x.2 ∙ sym y.2)
answer_once doc (Ok a) (Err (Fault m t)) x y = never_both doc a m t.bytes x y
answer_once doc (Ok a) (Err (Memory e)) x y = tt
answer_once doc (Err (Fault n s)) (Ok b) x y = never_both doc b n s.bytes y x
answer_once doc (Err (Fault n s)) (Err (Fault m t)) x y = faults_once doc n m s.bytes t.bytes x y
answer_once doc (Err (Fault n s)) (Err (Memory e)) x y = tt
answer_once doc (Err (Memory e)) other x y = tt

-- Texts

-- a text has one table
text_once : (octets : List ℕ) (a b : Members) → IsTextOf a octets → IsTextOf b octets → b ≡ a
text_once octets a b x y = same_Some b a (sym y.1 ∙ x.1)

no_text : (octets : List ℕ) (doc : Members) → IsNoText octets → IsTextOf doc octets → ⊥
no_text octets doc (inl not_utf8) is = not_utf8 is.0
no_text octets doc (inr refused) is = let never : None ≡ Some doc = sym refused ∙ is.1 in cc never

for_doc : (octets : List ℕ) (a b : Members) (one other : Result Network ConfFault) → IsTextOf a octets → IsTextOf b octets
    → IsAnswerOf a one → IsAnswerOf b other → IsSameAnswer one other
for_doc octets a b one other ta tb x y =
    answer_once a one other x (subst (λ doc. IsAnswerOf doc other) (text_once octets a b ta tb) y)

pub one_reading : OneReading
one_reading octets (Ok a) (Ok b) x y = for_doc octets x.0 y.0 (Ok a) (Ok b) x.1 y.1 x.2 y.2
one_reading octets (Ok a) (Err (Fault m t)) x (inl y) = no_text octets x.0 y.0 x.1
one_reading octets (Ok a) (Err (Fault m t)) x (inr y) = for_doc octets x.0 y.0 (Ok a) (Err (Fault m t)) x.1 y.1 x.2 y.2
one_reading octets (Ok a) (Err (Memory e)) x y = tt
one_reading octets (Err (Fault n s)) (Ok b) (inl x) y = no_text octets y.0 x.0 y.1
one_reading octets (Err (Fault n s)) (Ok b) (inr x) y = for_doc octets x.0 y.0 (Err (Fault n s)) (Ok b) x.1 y.1 x.2 y.2
one_reading octets (Err (Fault n s)) (Err (Fault m t)) (inl x) (inl y) = (x.1 ∙ sym y.1, x.2 ∙ sym y.2)
one_reading octets (Err (Fault n s)) (Err (Fault m t)) (inl x) (inr y) = absurd (no_text octets y.0 x.0 y.1)
one_reading octets (Err (Fault n s)) (Err (Fault m t)) (inr x) (inl y) = absurd (no_text octets x.0 y.0 x.1)
one_reading octets (Err (Fault n s)) (Err (Fault m t)) (inr x) (inr y) =
    for_doc octets x.0 y.0 (Err (Fault n s)) (Err (Fault m t)) x.1 y.1 x.2 y.2
one_reading octets (Err (Fault n s)) (Err (Memory e)) x y = tt
one_reading octets (Err (Memory e)) other x y = tt

pub reading_is_accepted : ReadingIsAccepted
reading_is_accepted octets net is =
    let ok = is.2 in
    let accepted = read_accepted is.0 net.cfg ok.0 ok.1 ok.3 (kept_of_none net.cfg ok.4) in
    rw ok.2 accepted
