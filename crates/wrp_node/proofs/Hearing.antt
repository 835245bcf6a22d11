-- A message comes to a port: it is dropped, which leaves no trace but a count, or taken.
use Rattle.std.proofs.Common.{◌≡◌, ◌∙◌, refl, ap, ap₂, sym, subst, ℕ, ◌==◌, Bool, true, false, if◌then◌else◌, IsTrue, IfSome, is_some, List, [], ◌∷◌, map, Option, None, Some, arith}
use Rattle.std.proofs.lemmas.Bool.{eqb-true}
use Rattle.std.specs.List.{AllByRecursion, AllZip, list_any}
use Rattle.wrp_base.specs.declared.message.PtpMsg.{PtpMsg}
use Rattle.wrp_base.specs.declared.time.Raw.{Raw}
use Rattle.wrp_base.specs.declared.time.Stamp.{Stamp}
use Rattle.wrp_base.proofs.Naturals.{eq_self}
use Rattle.wrp_data.specs.declared.reason.Reason.{Reason}
use Rattle.wrp_data.specs.Reason.{number_of as reason_number}
use Rattle.wrp_exch.specs.Call.{Call}
use Rattle.wrp_exch.specs.Exchange.{HasTimes}
use Rattle.wrp_node.specs.declared.parts.Parts.{Parts}
use Rattle.wrp_node.specs.declared.place.PortPlace.{PortPlace}
use Rattle.wrp_node.specs.declared.ports.To.{To}
use Rattle.wrp_node.specs.declared.ports.To.TheVariants.{One}
use Rattle.wrp_node.specs.Inputs.{measured_in}
use Rattle.wrp_node.specs.NodeAt.{NodeSetting, NodeAt, setting_of, line_at, link_at, pieces_at}
use Rattle.wrp_link.specs.Table.{word_of}
use Rattle.wrp_node.specs.NodeStep.{dropped, used, measured_at, message_of, stamp_of}
use Rattle.wrp_node.specs.Parts.{PlaceIn, PartsIn, is_among, given, taken_unless, four_unless, reason_at, HearsAt}
use Rattle.wrp_node.specs.Place.{Gives, GivenWhere, GivesTo, is_message, place_of, newest_sends}
use Rattle.wrp_node.specs.Telling.{step_from, counted, counted_at}
use Rattle.wrp_node.proofs.Giving.{parts_same, parts_given, line_is, numbers_given}
use Rattle.wrp_node.proofs.Lists.{zip_all}
use Rattle.wrp_node.proofs.Sound.{AllSound}
use Rattle.wrp_port.specs.declared.interface.PortIn.{PortIn}
use Rattle.wrp_port.specs.declared.interface.PortIn.TheVariants.{Msg}
use Rattle.wrp_port.specs.declared.line.Rest.{Rest}
use Rattle.wrp_port.specs.declared.setting.Setting.{Setting}
use Rattle.wrp_port.specs.Hearing.{early_reason, link_input, piece_of, is_of_use}
use Rattle.wrp_port.specs.History.{calls_of}
use Rattle.wrp_port.specs.Outputs.{sends_of, drop_of, measured_by, number_by, reason_by, is_used_by, is_kept, sends_unless, four_by, piece_unless}
use Rattle.wrp_port.specs.PortAt.{IsFit, StandsFor as PortStandsFor}
use Rattle.wrp_node.proofs.Finding.{among_rest}

pub is_true : (b : Bool) → b ≡ true → IsTrue b
is_true b h = grind arith

-- ---- the measurement of the port that it came to

-- an old port and the new one in its place, found by their number
pub record FoundBoth (P : PortPlace → Type 0) (R : PortPlace → PortPlace → Type 0) (p : ℕ) (ys : List PortPlace) : Type 0 where
  pub old : PortPlace
  pub new : PortPlace
  pub is : place_of p ys ≡ Some new
  pub number : old.number ≡ p
  pub holds : P old
  pub related : R old new

number_kept : (to : To) (input : PortIn) (x y : PortPlace) (b : Bool) → GivenWhere b input x y → y.number ≡ x.number
number_kept to input x y true g = g.number
number_kept to input x y false g = ap (λ (z : PortPlace). z.number) g

both_in : (P : PortPlace → Type 0) (R : PortPlace → PortPlace → Type 0) (p : ℕ) (x y : PortPlace) (ys : List PortPlace) (b : Bool) → (y.number == p) ≡ b → y.number ≡ x.number → P x → R x y →
    (b ≡ false → FoundBoth P R p ys) → FoundBoth P R p (y ∷ ys)
both_in P R p x y ys true e n h r rest = record { old = x; new = y; is = rw e refl; number = sym n ∙ eqb-true y.number p e; holds = h; related = r }
both_in P R p x y ys false e n h r rest =
    let f : FoundBoth P R p ys = rest refl in
    record { old = f.old; new = f.new; is = rw e f.is; number = f.number; holds = f.holds; related = f.related }

found_both : (P : PortPlace → Type 0) (R : PortPlace → PortPlace → Type 0) (p : ℕ) (xs ys : List PortPlace) → ((x y : PortPlace) → R x y → y.number ≡ x.number) → AllZip R xs ys → AllByRecursion P xs →
    is_among p xs ≡ true → FoundBoth P R p ys
found_both P R p [] [] n z h e = absurd (grind arith)
found_both P R p [] (y ∷ ys) n z h e = absurd z
found_both P R p (x ∷ xs) [] n z h e = absurd z
found_both P R p (x ∷ xs) (y ∷ ys) n z h e =
    both_in P R p x y ys (y.number == p) refl (n x y z.0) h.0 z.0
    (λ no. found_both P R p xs ys n z.1 h.1 (among_rest (x.number == p) (is_among p xs) e (ap (λ (k : ℕ). k == p) (sym (n x y z.0)) ∙ no)))

given_here : (p : ℕ) (input : PortIn) (x y : PortPlace) → x.number ≡ p → GivesTo (One p) input x y → Gives input x y
given_here p input x y e g = subst (λ (b : Bool). GivenWhere b input x y) (ap (λ (k : ℕ). k == p) e ∙ eq_self p) g

measured_here : (fixed : NodeSetting) (n : NodeAt) (p : ℕ) (input : PortIn) (xs ys : List PortPlace) → is_message input ≡ true → AllZip (GivesTo (One p) input) xs ys →
    AllByRecursion (PlaceIn fixed n (step_from n)) xs → is_among p xs ≡ true → measured_in (place_of p ys) ≡ measured_at fixed n p input
measured_here fixed n p input xs ys m z h e =
    let f : FoundBoth (PlaceIn fixed n (step_from n)) (GivesTo (One p) input) p ys =
    found_both (PlaceIn fixed n (step_from n)) (GivesTo (One p) input) p xs ys (λ x y g. number_kept (One p) input x y (x.number == p) g) z h e in
    let g : Gives input f.old f.new = given_here p input f.old f.new f.number f.related in
    ap measured_in f.is
    ∙ g.measured m (calls_of f.old.port.set (n.told f.old.number)) f.holds.stands.told.exchange
    ∙ ap₂ (λ (x : Setting) (l : Rest). measured_by x l (calls_of x (n.told f.old.number)) input) f.holds.stands.set (line_is fixed n f.old f.holds.stands)
    ∙ ap (λ (q : ℕ). measured_at fixed n q input) f.number

times_in : (p : ℕ) (input : PortIn) → is_message input ≡ true → (x y : PortPlace) (ys : List PortPlace) (b : Bool) → (y.number == p) ≡ b → (b ≡ true → Gives input x y) →
    IfSome (measured_in (place_of p ys)) HasTimes → IfSome (measured_in (place_of p (y ∷ ys))) HasTimes
times_in p input m x y ys true e g rest = rw e ((g refl).times m)
times_in p input m x y ys false e g rest = rw e rest

pub times_here : (p : ℕ) (input : PortIn) → is_message input ≡ true → (xs ys : List PortPlace) → AllZip (GivesTo (One p) input) xs ys → IfSome (measured_in (place_of p ys)) HasTimes
times_here p input m [] [] z = tt
times_here p input m [] (y ∷ ys) z = absurd z
times_here p input m (x ∷ xs) [] z = absurd z
times_here p input m (x ∷ xs) (y ∷ ys) z =
    let n : y.number ≡ x.number = number_kept (One p) input x y (x.number == p) z.0 in
    times_in p input m x y ys (y.number == p) refl
    (λ yes. given_here p input x y (sym n ∙ eqb-true y.number p yes) z.0) (times_here p input m xs ys z.1)

-- ---- it is taken

pub newest_alone : (xs : List PtpMsg) → newest_sends xs [] ≡ xs
newest_alone [] = refl
newest_alone (x ∷ xs) = refl

counted_here : (fixed : NodeSetting) (n : NodeAt) (p q : ℕ) (input : PortIn) (b : Bool) → (q == p) ≡ b →
    (if b then counted (drop_of (setting_of fixed.set q) (line_at fixed.set n q) (pieces_at fixed.set n q) input) (n.counters q) else n.counters q)
    ≡ (if b then counted (drop_of (setting_of fixed.set p) (line_at fixed.set n p) (pieces_at fixed.set n p) input) (n.counters q) else n.counters q)
counted_here fixed n p q input true e =
    ap (λ (k : ℕ). counted (drop_of (setting_of fixed.set k) (line_at fixed.set n k) (pieces_at fixed.set n k) input) (n.counters q)) (eqb-true q p e)
counted_here fixed n p q input false e = refl

pub sent_here : (fixed : NodeSetting) (n : NodeAt) (p q : ℕ) (input : PortIn) (b : Bool) → (q == p) ≡ b →
    (if b then newest_sends (sends_of (setting_of fixed.set q) (line_at fixed.set n q) input) [] else []) ≡ (if b then sends_of (setting_of fixed.set p) (line_at fixed.set n p) input else [])
sent_here fixed n p q input true e =
    newest_alone (sends_of (setting_of fixed.set q) (line_at fixed.set n q) input)
    ∙ ap (λ (k : ℕ). sends_of (setting_of fixed.set k) (line_at fixed.set n k) input) (eqb-true q p e)
sent_here fixed n p q input false e = refl

parts_used : (fixed : NodeSetting) (n : NodeAt) (p : ℕ) (input : PortIn) (parts : Parts) → PartsIn fixed n (given (One p) input fixed (step_from n)) parts → PartsIn fixed n (used fixed p input n) parts
parts_used fixed n p input parts h =
    parts_same fixed n (given (One p) input fixed (step_from n)) (used fixed p input n) parts
    (record {
      told = λ q. refl;
      counters = λ q. counted_here fixed n p q input (q == p) refl;
      sends = λ q. sent_here fixed n p q input (q == p) refl;
    }) refl refl refl h

-- ---- it is dropped

-- what is dropped early: no trace, this reason, nothing sent, nothing measured
drop_is : (set : Setting) (line : Rest) (calls : List Call) (m : PtpMsg) (stamp : Stamp) (tick : ℕ) (reason : Reason) → early_reason set line.link m ≡ Some reason →
    drop_of set line calls (Msg m stamp tick) ≡ Some (reason_number reason)
drop_is set line calls m stamp tick reason e =
    ap (λ (r : Option Reason). number_by (reason_by r (is_of_use set.ds.role m.body (is_used_by line.link (link_input set.ds.role m.body)) (is_kept set.ring calls (piece_of set.ds.role m.head m.body stamp tick))))) e

sends_none : (set : Setting) (line : Rest) (m : PtpMsg) (stamp : Stamp) (tick : ℕ) (reason : Reason) → early_reason set line.link m ≡ Some reason → sends_of set line (Msg m stamp tick) ≡ []
sends_none set line m stamp tick reason e = ap (λ (r : Option Reason). sends_unless r set line m stamp) e

measured_none : (set : Setting) (line : Rest) (calls : List Call) (m : PtpMsg) (stamp : Stamp) (tick : ℕ) (reason : Reason) → early_reason set line.link m ≡ Some reason →
    measured_by set line calls (Msg m stamp tick) ≡ None
measured_none set line calls m stamp tick reason e =
    ap (λ (r : Option Reason). four_by set.ring calls (piece_unless r (piece_of set.ds.role m.head m.body stamp tick))) e

dropped_here : (fixed : NodeSetting) (n : NodeAt) (p : ℕ) (m : PtpMsg) (stamp : Stamp) (tick : ℕ) (reason : Reason) (old new : PortPlace) → reason_at fixed n p m ≡ Some reason → old.number ≡ p →
    Gives (Msg m stamp tick) old new → PlaceIn fixed n (step_from n) old → PlaceIn fixed n (dropped p (reason_number reason) n) new
dropped_here fixed n p m stamp tick reason old new e at g h =
    let early : early_reason old.port.set old.port.line.link m ≡ Some reason =
    ap₂ (λ (x : Setting) (l : Rest). early_reason x l.link m) h.stands.set (line_is fixed n old h.stands) ∙ ap (λ (q : ℕ). reason_at fixed n q m) at ∙ e in
    let same : new.port ≡ old.port = g.silent (is_true (is_some (early_reason old.port.set old.port.line.link m)) (ap is_some early)) in
    let here : (old.number == p) ≡ true = ap (λ (k : ℕ). k == p) at ∙ eq_self p in
    record {
      stands = record {
        set = g.set ∙ h.stands.set ∙ ap (setting_of fixed.set) (sym g.number);
        told = subst (λ (q : ℕ). PortStandsFor new.port (n.told q)) (sym g.number) (subst (λ v. PortStandsFor v (n.told old.number)) (sym same) h.stands.told);
        counters = g.counters (calls_of old.port.set (n.told old.number)) h.stands.told.exchange
            ∙ ap₂ counted (drop_is old.port.set old.port.line (calls_of old.port.set (n.told old.number)) m stamp tick reason early) h.stands.counters
            ∙ ap (λ (b : Bool). if b then counted (Some (reason_number reason)) (n.counters old.number) else n.counters old.number) (sym here)
            ∙ ap (counted_at n.counters p (Some (reason_number reason))) (sym g.number);
      };
      word = g.word ∙ h.word ∙ ap (λ (q : ℕ). word_of (link_at fixed.set n q)) (sym g.number);
      sends = g.sends ∙ ap₂ newest_sends (sends_none old.port.set old.port.line m stamp tick reason early) h.sends;
      sound = subst AllSound (sym (g.sends ∙ ap₂ newest_sends (sends_none old.port.set old.port.line m stamp tick reason early) h.sends)) tt;
    }

left_here : (fixed : NodeSetting) (n : NodeAt) (p reason : ℕ) (old : PortPlace) → (old.number == p) ≡ false → PlaceIn fixed n (step_from n) old → PlaceIn fixed n (dropped p reason n) old
left_here fixed n p reason old e h = record {
  stands = record {
    set = h.stands.set;
    told = h.stands.told;
    counters = h.stands.counters ∙ ap (λ (b : Bool). if b then counted (Some reason) (n.counters old.number) else n.counters old.number) (sym e);
  };
  word = h.word;
  sends = h.sends;
  sound = h.sound;
}

dropped_where : (fixed : NodeSetting) (n : NodeAt) (p : ℕ) (m : PtpMsg) (stamp : Stamp) (tick : ℕ) (reason : Reason) (old new : PortPlace) (b : Bool) → reason_at fixed n p m ≡ Some reason →
    (old.number == p) ≡ b → GivenWhere b (Msg m stamp tick) old new → PlaceIn fixed n (step_from n) old → PlaceIn fixed n (dropped p (reason_number reason) n) new
dropped_where fixed n p m stamp tick reason old new true r e g h = dropped_here fixed n p m stamp tick reason old new r (eqb-true old.number p e) g h
dropped_where fixed n p m stamp tick reason old new false r e g h =
    subst (λ (x : PortPlace). PlaceIn fixed n (dropped p (reason_number reason) n) x) (sym g) (left_here fixed n p (reason_number reason) old e h)

parts_dropped : (fixed : NodeSetting) (n : NodeAt) (p : ℕ) (m : PtpMsg) (stamp : Stamp) (tick : ℕ) (reason : Reason) (old : Parts) (ys : List PortPlace) → reason_at fixed n p m ≡ Some reason →
    AllZip (GivesTo (One p) (Msg m stamp tick)) old.ports ys → PartsIn fixed n (step_from n) old → PartsIn fixed n (dropped p (reason_number reason) n) (record old { ports = ys })
parts_dropped fixed n p m stamp tick reason old ys r z h =
    let numbers : map (λ (x : PortPlace). x.number) ys ≡ map (λ (x : PortPlace). x.number) old.ports = numbers_given (One p) (Msg m stamp tick) old.ports ys z in
    record {
      numbers = numbers ∙ h.numbers;
      places = zip_all (GivesTo (One p) (Msg m stamp tick)) (PlaceIn fixed n (step_from n)) (PlaceIn fixed n (dropped p (reason_number reason) n)) old.ports ys
          (λ x y g k. dropped_where fixed n p m stamp tick reason x y (x.number == p) r refl g k) z h.places;
      slave = h.slave;
      clock = h.clock;
      ticks = h.ticks;
      has_slave = subst (λ (ns : List ℕ). IfSome old.slave (λ q. list_any (λ x. x == q) ns ≡ true)) (sym numbers) h.has_slave;
      cycles = h.cycles;
      dac = h.dac;
    }

-- ---- either

heard_as : (fixed : NodeSetting) (n : NodeAt) (p : ℕ) (m : PtpMsg) (raw : Raw) (sample : ℕ) (old : Parts) (ys : List PortPlace) (reason : Option Reason) → reason_at fixed n p m ≡ reason →
    IsFit (message_of fixed n p m raw sample) → AllZip (GivesTo (One p) (message_of fixed n p m raw sample)) old.ports ys → PartsIn fixed n (step_from n) old → is_among p old.ports ≡ true →
    PartsIn fixed n (taken_unless reason fixed p (message_of fixed n p m raw sample) n) (record old { ports = ys })
    × (measured_in (place_of p ys) ≡ four_unless reason fixed p (message_of fixed n p m raw sample) n)
heard_as fixed n p m raw sample old ys None e fit z h a = (
  parts_used fixed n p (message_of fixed n p m raw sample) (record old { ports = ys })
      (parts_given fixed n (step_from n) (One p) (message_of fixed n p m raw sample) old ys fit z h),
  measured_here fixed n p (message_of fixed n p m raw sample) old.ports ys refl z h.places a,
)
heard_as fixed n p m raw sample old ys (Some reason) e fit z h a = (
  parts_dropped fixed n p m (stamp_of fixed n p raw sample) n.ticks reason old ys e z h,
  measured_here fixed n p (message_of fixed n p m raw sample) old.ports ys refl z h.places a
      ∙ measured_none (setting_of fixed.set p) (line_at fixed.set n p) (pieces_at fixed.set n p) m (stamp_of fixed n p raw sample) n.ticks reason e,
)

pub hears_at : (fixed : NodeSetting) (n : NodeAt) (p : ℕ) (m : PtpMsg) (raw : Raw) (sample : ℕ) (old : Parts) (ys : List PortPlace) →
    IsFit (message_of fixed n p m raw sample) → AllZip (GivesTo (One p) (message_of fixed n p m raw sample)) old.ports ys → PartsIn fixed n (step_from n) old → is_among p old.ports ≡ true →
    HearsAt fixed n p m raw sample (record old { ports = ys }) (measured_in (place_of p ys))
hears_at fixed n p m raw sample old ys fit z h a =
    let both = heard_as fixed n p m raw sample old ys (reason_at fixed n p m) refl fit z h a in
    record { parts = both.0; four_is = both.1 }
