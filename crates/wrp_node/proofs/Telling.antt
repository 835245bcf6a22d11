-- What the servo answered goes to the slave port and to the counters.
use Rattle.std.proofs.Common.{◌≡◌, ◌∙◌, refl, ap, sym, ℕ, ℤ, ◌+◌, ◌==◌, Bool, true, false, if◌then◌else◌, List, ◌∷◌, Option, None, Some}
use Rattle.std.specs.Option.{option_or}
use Rattle.wrp_base.specs.declared.measurement.ChainNews.{ChainNews}
use Rattle.wrp_node.specs.declared.parts.Parts.{Parts}
use Rattle.wrp_node.specs.declared.ports.To.TheVariants.{One}
use Rattle.wrp_node.specs.NodeAt.{NodeSetting, NodeAt, slave_of}
use Rattle.wrp_node.specs.NodeStep.{told_slave}
use Rattle.wrp_node.specs.Parts.{PlaceIn, PartsIn, given, told_only, reason_counted, commanded, slave_told, tick_counted, IsNumber}
use Rattle.wrp_node.specs.Telling.{Step, counted_by, told_by, no_answer, answer_of, number_of, tell, newest_step, with_news, with_sample}
use Rattle.wrp_node.proofs.Giving.{parts_same, place_same}
use Rattle.wrp_node.proofs.Lists.{all_of}
use Rattle.wrp_port.specs.declared.interface.PortIn.{PortIn}
use Rattle.wrp_port.specs.declared.interface.PortIn.TheVariants.{Lease, Chain, Sample}
use Rattle.wrp_servo.specs.Call.{Call}
use Rattle.wrp_servo.specs.declared.interface.ServoOut.{ServoOut}

pub either_same : {A : Type 0} (b : Bool) (x : A) → (if b then x else x) ≡ x
either_same true x = refl
either_same false x = refl

-- one more input, of which nothing is counted or sent
pub only_told : (fixed : NodeSetting) (before : NodeAt) (s : Step) (p : ℕ) (input : PortIn) (parts : Parts) →
    ((q : ℕ) → (given (One p) input fixed s).node.counters q ≡ s.node.counters q) → ((q : ℕ) → (given (One p) input fixed s).sends q ≡ s.sends q) →
    PartsIn fixed before (given (One p) input fixed s) parts → PartsIn fixed before (told_only p (λ t. input ∷ t) fixed s) parts
only_told fixed before s p input parts c d h =
    parts_same fixed before (given (One p) input fixed s) (told_only p (λ t. input ∷ t) fixed s) parts
    (record { told = λ q. refl; counters = c; sends = d }) refl refl refl h

pub chain_told : (fixed : NodeSetting) (before : NodeAt) (s : Step) (p : ℕ) (news : ChainNews) (parts : Parts) →
    PartsIn fixed before (given (One p) (Chain news) fixed s) parts → PartsIn fixed before (told_only p (λ t. Chain news ∷ t) fixed s) parts
chain_told fixed before s p news parts h =
    only_told fixed before s p (Chain news) parts (λ q. either_same (q == p) (s.node.counters q)) (λ q. either_same (q == p) (s.sends q)) h

pub sample_told : (fixed : NodeSetting) (before : NodeAt) (s : Step) (p number : ℕ) (phase : ℤ) (parts : Parts) →
    PartsIn fixed before (given (One p) (Sample number phase) fixed s) parts → PartsIn fixed before (told_only p (λ t. Sample number phase ∷ t) fixed s) parts
sample_told fixed before s p number phase parts h =
    only_told fixed before s p (Sample number phase) parts (λ q. either_same (q == p) (s.node.counters q)) (λ q. either_same (q == p) (s.sends q)) h

pub none_told : (fixed : NodeSetting) (before : NodeAt) (s : Step) (p : ℕ) (parts : Parts) → PartsIn fixed before s parts → PartsIn fixed before (told_only p (λ t. t) fixed s) parts
none_told fixed before s p parts h =
    parts_same fixed before s (told_only p (λ t. t) fixed s) parts
    (record { told = λ q. sym (either_same (q == p) (s.node.told q)); counters = λ q. refl; sends = λ q. refl }) refl refl refl h

twice : {A : Type 0} (b : Bool) (f g : A → A) (x : A) → (if b then f (if b then g x else x) else (if b then g x else x)) ≡ (if b then f (g x) else x)
twice true f g x = refl
twice false f g x = refl

pub to_slave : (fixed : NodeSetting) (before : NodeAt) (s : Step) (p number : ℕ) (out : ServoOut) (parts : Parts) → slave_of fixed.set ≡ Some p →
    PartsIn fixed before (reason_counted p out.refused fixed (told_only p (with_sample out.unwrapped number) fixed (told_only p (with_news out.chain) fixed s))) parts →
    PartsIn fixed before (slave_told out number fixed s) parts
to_slave fixed before s p number out parts e h =
    parts_same fixed before
    (reason_counted p out.refused fixed (told_only p (with_sample out.unwrapped number) fixed (told_only p (with_news out.chain) fixed s)))
    (slave_told out number fixed s) parts
    (record {
      told = λ q. twice (q == p) (with_sample out.unwrapped number) (with_news out.chain) (s.node.told q)
          ∙ ap (λ (o : Option ℕ). told_by o out number s.node.told q) (sym e);
      counters = λ q. ap (λ (o : Option ℕ). counted_by o out s.node.counters q) (sym e);
      sends = λ q. refl;
    }) refl refl refl h

number_told : (o : Option ℕ) (out : ServoOut) (number : ℕ) (call : Option Call) (told : ℕ → List PortIn) (q : ℕ) → IsNumber out number call →
    told_by o out number told q ≡ told_by o out (number_of call) told q
number_told None out number call told q n = refl
number_told (Some p) out number call told q n = ap (λ (t : List PortIn). if q == p then t else told q) (n (told q))

pub answered : (fixed : NodeSetting) (before : NodeAt) (s : Step) (call : Option Call) (number : ℕ) (out : ServoOut) (parts : Parts) →
    out ≡ answer_of fixed call s.node.calls → IsNumber out number call →
    PartsIn fixed before (commanded out fixed (slave_told out number fixed s)) parts → PartsIn fixed before (tell fixed call s) parts
answered fixed before s call number out parts e n h =
    parts_same fixed before (commanded out fixed (slave_told out number fixed s)) (tell fixed call s) parts
    (record {
      told = λ q. number_told (slave_of fixed.set) out number call s.node.told q n
          ∙ ap (λ (o : ServoOut). told_by (slave_of fixed.set) o (number_of call) s.node.told q) e;
      counters = λ q. ap (λ (o : ServoOut). counted_by (slave_of fixed.set) o s.node.counters q) e;
      sends = λ q. refl;
    }) refl (ap (λ (o : ServoOut). newest_step o.cycles s.cycles) e) (ap (λ (o : ServoOut). option_or o.dac s.dac) e) h

-- if nothing is given, nothing changes
pub told_none : (o : Option ℕ) (number : ℕ) (told : ℕ → List PortIn) (q : ℕ) → told q ≡ told_by o no_answer number told q
told_none None number told q = refl
told_none (Some p) number told q = sym (either_same (q == p) (told q))

pub counted_none : (o : Option ℕ) (counters : ℕ → List ℕ) (q : ℕ) → counters q ≡ counted_by o no_answer counters q
counted_none None counters q = refl
counted_none (Some p) counters q = sym (either_same (q == p) (counters q))

pub nothing_told : (fixed : NodeSetting) (before : NodeAt) (s : Step) (parts : Parts) → PartsIn fixed before s parts → PartsIn fixed before (tell fixed None s) parts
nothing_told fixed before s parts h =
    parts_same fixed before s (tell fixed None s) parts
    (record {
      told = λ q. told_none (slave_of fixed.set) 0 s.node.told q;
      counters = λ q. counted_none (slave_of fixed.set) s.node.counters q;
      sends = λ q. refl;
    }) refl refl refl h

pub lease_turned : (fixed : NodeSetting) (before : NodeAt) (s : Step) (p : ℕ) (parts : Parts) → slave_of fixed.set ≡ Some p →
    PartsIn fixed before (given (One p) Lease fixed (record s { node = record s.node { ticks = s.node.ticks + 1 } })) parts →
    PartsIn fixed before (tick_counted fixed s) parts
lease_turned fixed before s p parts e h =
    parts_same fixed before (given (One p) Lease fixed (record s { node = record s.node { ticks = s.node.ticks + 1 } })) (tick_counted fixed s) parts
    (record {
      told = λ q. ap (λ (o : Option ℕ). told_slave o Lease s.node.told q) (sym e);
      counters = λ q. either_same (q == p) (s.node.counters q);
      sends = λ q. either_same (q == p) (s.sends q);
    }) refl refl refl h

pub no_lease : (fixed : NodeSetting) (before : NodeAt) (s : Step) (parts : Parts) → slave_of fixed.set ≡ None →
    PartsIn fixed before (record s { node = record s.node { ticks = s.node.ticks + 1 } }) parts →
    PartsIn fixed before (tick_counted fixed s) parts
no_lease fixed before s parts e h =
    parts_same fixed before (record s { node = record s.node { ticks = s.node.ticks + 1 } }) (tick_counted fixed s) parts
    (record {
      told = λ q. ap (λ (o : Option ℕ). told_slave o Lease s.node.told q) (sym e);
      counters = λ q. refl;
      sends = λ q. refl;
    }) refl refl refl h

-- the same count of ticks, in the node and in its run
pub ticks_set : (fixed : NodeSetting) (before : NodeAt) (s : Step) (ticks : ℕ) (parts : Parts) → PartsIn fixed before s parts →
    PartsIn fixed before (record s { node = record s.node { ticks = ticks } }) (record parts { ticks = ticks })
ticks_set fixed before s ticks parts h = record {
  numbers = h.numbers;
  places = all_of (PlaceIn fixed before s) (PlaceIn fixed before (record s { node = record s.node { ticks = ticks } })) parts.ports
      (place_same fixed before s (record s { node = record s.node { ticks = ticks } }) (record { told = λ q. refl; counters = λ q. refl; sends = λ q. refl })) h.places;
  slave = h.slave;
  clock = h.clock;
  ticks = refl;
  has_slave = h.has_slave;
  cycles = h.cycles;
  dac = h.dac;
}
