-- Some ports are given an input: each of these then stands for one more input.
use Rattle.std.proofs.Common.{◌≡◌, ◌∙◌, refl, ap, ap₂, sym, subst, ℕ, pos, ◌==◌, Bool, true, false, if◌then◌else◌, IfSome, List, [], ◌∷◌, map, None, Some}
use Rattle.std.specs.List.{AllByRecursion, AllZip, list_any}
use Rattle.wrp_base.specs.declared.message.PtpMsg.{PtpMsg}
use Rattle.wrp_node.specs.declared.parts.Parts.{Parts}
use Rattle.wrp_node.specs.declared.place.PortPlace.{PortPlace}
use Rattle.wrp_node.specs.declared.ports.To.{To}
use Rattle.wrp_link.specs.Table.{word_of}
use Rattle.wrp_node.specs.NodeAt.{NodeSetting, NodeAt, setting_of, line_at, link_at, pieces_at}
use Rattle.wrp_port.specs.declared.line.Rest.{Rest}
use Rattle.wrp_node.specs.Parts.{PlaceStands, PlaceIn, PartsAt, PartsIn, given, reason_counted, commanded}
use Rattle.wrp_node.specs.Place.{Gives, GivenWhere, GivesTo, Begins, Counts, is_to, newest_sends}
use Rattle.wrp_node.specs.Telling.{Step, step_from, counted, newest_step}
use Rattle.std.specs.Option.{option_or}
use Rattle.wrp_servo.specs.declared.interface.ServoOut.{ServoOut}
use Rattle.wrp_node.proofs.Lists.{zip_all, zip_map, all_of}
use Rattle.wrp_node.proofs.Sound.{AllSound, sends_sound}
use Rattle.wrp_port.specs.declared.interface.PortIn.{PortIn}
use Rattle.wrp_port.specs.declared.setting.Setting.{Setting}
use Rattle.wrp_port.specs.History.{rest_after, calls_of}
use Rattle.wrp_port.specs.Outputs.{sends_of, drop_of}
use Rattle.wrp_port.specs.PortAt.{IsFit, StandsFor as PortStandsFor}

-- ---- two moments at which each port was given and counted the same

pub record SameAt (s t : Step) : Type 0 where
  pub told : (q : ℕ) → s.node.told q ≡ t.node.told q
  pub counters : (q : ℕ) → s.node.counters q ≡ t.node.counters q
  pub sends : (q : ℕ) → s.sends q ≡ t.sends q

pub place_same : (fixed : NodeSetting) (before : NodeAt) (s t : Step) → SameAt s t → (place : PortPlace) → PlaceIn fixed before s place → PlaceIn fixed before t place
place_same fixed before s t e place h = record {
  stands = record {
    set = h.stands.set;
    told = subst (λ (l : List PortIn). PortStandsFor place.port l) (e.told place.number) h.stands.told;
    counters = h.stands.counters ∙ e.counters place.number;
  };
  word = h.word;
  sends = h.sends ∙ e.sends place.number;
  sound = h.sound;
}

pub parts_same : (fixed : NodeSetting) (before : NodeAt) (s t : Step) (parts : Parts) → SameAt s t → s.node.ticks ≡ t.node.ticks → s.cycles ≡ t.cycles → s.dac ≡ t.dac →
    PartsIn fixed before s parts → PartsIn fixed before t parts
parts_same fixed before s t parts e ticks cycles dac h = record {
  numbers = h.numbers;
  places = all_of (PlaceIn fixed before s) (PlaceIn fixed before t) parts.ports (place_same fixed before s t e) h.places;
  slave = h.slave;
  clock = h.clock;
  ticks = h.ticks ∙ ticks;
  has_slave = h.has_slave;
  cycles = h.cycles ∙ cycles;
  dac = h.dac ∙ dac;
}

-- ---- one port that is given an input

sound_newest : (xs ys : List PtpMsg) → AllSound xs → AllSound ys → AllSound (newest_sends xs ys)
sound_newest [] ys h k = k
sound_newest (x ∷ xs) ys h k = h

-- the line and the pieces of a port are the line and the pieces that the node has for it
pub line_is : (fixed : NodeSetting) (n : NodeAt) (place : PortPlace) → PlaceStands fixed n place → place.port.line ≡ line_at fixed.set n place.number
line_is fixed n place h = h.told.line ∙ ap (λ (x : Setting). rest_after x (n.told place.number)) h.set

told_place : (fixed : NodeSetting) (before : NodeAt) (s : Step) (to : To) (input : PortIn) (old new : PortPlace) → IsFit input → is_to to old.number ≡ true → Gives input old new →
    PlaceIn fixed before s old → PlaceIn fixed before (given to input fixed s) new
told_place fixed before s to input old new fit e g h =
    let t : List PortIn = s.node.told old.number in
    let drop_is : drop_of old.port.set old.port.line (calls_of old.port.set t) input ≡ drop_of (setting_of fixed.set old.number) (line_at fixed.set s.node old.number) (pieces_at fixed.set s.node old.number) input =
    ap₂ (λ (x : Setting) y. drop_of x y (calls_of x t) input) h.stands.set (line_is fixed s.node old h.stands) in
    let sends_is : sends_of old.port.set old.port.line input ≡ sends_of (setting_of fixed.set old.number) (line_at fixed.set s.node old.number) input =
    ap₂ (λ (x : Setting) y. sends_of x y input) h.stands.set (line_is fixed s.node old h.stands) in
    record {
      stands = record {
        set = g.set ∙ h.stands.set ∙ ap (setting_of fixed.set) (sym g.number);
        told = subst (λ (q : ℕ). PortStandsFor new.port ((given to input fixed s).node.told q)) (sym g.number)
            (subst (λ (b : Bool). PortStandsFor new.port (if b then input ∷ t else t)) (sym e) (g.told t h.stands.told));
        counters = g.counters (calls_of old.port.set t) h.stands.told.exchange ∙ ap₂ counted drop_is h.stands.counters
            ∙ ap (λ (b : Bool). if b then counted (drop_of (setting_of fixed.set old.number) (line_at fixed.set s.node old.number) (pieces_at fixed.set s.node old.number) input) (s.node.counters old.number) else s.node.counters old.number) (sym e)
            ∙ ap (given to input fixed s).node.counters (sym g.number);
      };
      word = g.word ∙ h.word ∙ ap (λ (q : ℕ). word_of (link_at fixed.set before q)) (sym g.number);
      sends = g.sends ∙ ap₂ newest_sends sends_is h.sends
          ∙ ap (λ (b : Bool). if b then newest_sends (sends_of (setting_of fixed.set old.number) (line_at fixed.set s.node old.number) input) (s.sends old.number) else s.sends old.number) (sym e)
          ∙ ap (given to input fixed s).sends (sym g.number);
      sound = subst AllSound (sym g.sends) (sound_newest (sends_of old.port.set old.port.line input) old.sends.items (sends_sound old.port.set old.port.line input fit) h.sound);
    }

-- one that is not stays as it is
left_place : (fixed : NodeSetting) (before : NodeAt) (s : Step) (to : To) (input : PortIn) (old : PortPlace) → is_to to old.number ≡ false →
    PlaceIn fixed before s old → PlaceIn fixed before (given to input fixed s) old
left_place fixed before s to input old e h = record {
  stands = record {
    set = h.stands.set;
    told = subst (λ (b : Bool). PortStandsFor old.port (if b then input ∷ s.node.told old.number else s.node.told old.number)) (sym e) h.stands.told;
    counters = h.stands.counters
        ∙ ap (λ (b : Bool). if b then counted (drop_of (setting_of fixed.set old.number) (line_at fixed.set s.node old.number) (pieces_at fixed.set s.node old.number) input) (s.node.counters old.number) else s.node.counters old.number) (sym e);
  };
  word = h.word;
  sends = h.sends ∙ ap (λ (b : Bool). if b then newest_sends (sends_of (setting_of fixed.set old.number) (line_at fixed.set s.node old.number) input) (s.sends old.number) else s.sends old.number) (sym e);
  sound = h.sound;
}

given_where : (fixed : NodeSetting) (before : NodeAt) (s : Step) (to : To) (input : PortIn) (old new : PortPlace) (b : Bool) → IsFit input → is_to to old.number ≡ b → GivenWhere b input old new →
    PlaceIn fixed before s old → PlaceIn fixed before (given to input fixed s) new
given_where fixed before s to input old new true fit e g h = told_place fixed before s to input old new fit e g h
given_where fixed before s to input old new false fit e g h =
    subst (λ (x : PortPlace). PlaceIn fixed before (given to input fixed s) x) (sym g) (left_place fixed before s to input old e h)

number_where : (input : PortIn) (old new : PortPlace) (b : Bool) → GivenWhere b input old new → new.number ≡ old.number
number_where input old new true g = g.number
number_where input old new false g = ap (λ (x : PortPlace). x.number) g

pub numbers_given : (to : To) (input : PortIn) (xs ys : List PortPlace) → AllZip (GivesTo to input) xs ys → map (λ (x : PortPlace). x.number) ys ≡ map (λ (x : PortPlace). x.number) xs
numbers_given to input xs ys z = zip_map (GivesTo to input) (λ (x : PortPlace). x.number) xs ys (λ x y g. number_where input x y (is_to to x.number) g) z

pub places_given : (fixed : NodeSetting) (before : NodeAt) (s : Step) (to : To) (input : PortIn) (xs ys : List PortPlace) → IsFit input → AllZip (GivesTo to input) xs ys →
    AllByRecursion (PlaceIn fixed before s) xs → AllByRecursion (PlaceIn fixed before (given to input fixed s)) ys
places_given fixed before s to input xs ys fit z h =
    zip_all (GivesTo to input) (PlaceIn fixed before s) (PlaceIn fixed before (given to input fixed s)) xs ys
    (λ x y g k. given_where fixed before s to input x y (is_to to x.number) fit refl g k) z h

-- the ports were given it, and nothing else changed
pub parts_given : (fixed : NodeSetting) (before : NodeAt) (s : Step) (to : To) (input : PortIn) (old : Parts) (ys : List PortPlace) → IsFit input → AllZip (GivesTo to input) old.ports ys →
    PartsIn fixed before s old → PartsIn fixed before (given to input fixed s) (record old { ports = ys })
parts_given fixed before s to input old ys fit z h =
    let numbers : map (λ (x : PortPlace). x.number) ys ≡ map (λ (x : PortPlace). x.number) old.ports = numbers_given to input old.ports ys z in
    record {
      numbers = numbers ∙ h.numbers;
      places = places_given fixed before s to input old.ports ys fit z h.places;
      slave = h.slave;
      clock = h.clock;
      ticks = h.ticks;
      has_slave = subst (λ (ns : List ℕ). IfSome old.slave (λ p. list_any (λ q. q == p) ns ≡ true)) (sym numbers) h.has_slave;
      cycles = h.cycles;
      dac = h.dac;
    }

-- ---- counting

counted_number : (p reason : ℕ) (place : PortPlace) (b : Bool) → (if b then record place { counters = counted (Some reason) place.counters } else place).number ≡ place.number
counted_number p reason place true = refl
counted_number p reason place false = refl

counted_place : (fixed : NodeSetting) (before : NodeAt) (s : Step) (p reason : ℕ) (place : PortPlace) (b : Bool) → (place.number == p) ≡ b → PlaceIn fixed before s place →
    PlaceIn fixed before (reason_counted p (Some reason) fixed s) (if b then record place { counters = counted (Some reason) place.counters } else place)
counted_place fixed before s p reason place true e h = record {
  stands = record {
    set = h.stands.set;
    told = h.stands.told;
    counters = ap (counted (Some reason)) h.stands.counters
        ∙ ap (λ (b : Bool). if b then counted (Some reason) (s.node.counters place.number) else s.node.counters place.number) (sym e);
  };
  word = h.word;
  sends = h.sends;
  sound = h.sound;
}
counted_place fixed before s p reason place false e h = record {
  stands = record {
    set = h.stands.set;
    told = h.stands.told;
    counters = h.stands.counters
        ∙ ap (λ (b : Bool). if b then counted (Some reason) (s.node.counters place.number) else s.node.counters place.number) (sym e);
  };
  word = h.word;
  sends = h.sends;
  sound = h.sound;
}

counted_so : (fixed : NodeSetting) (before : NodeAt) (s : Step) (p reason : ℕ) (old new : PortPlace) → Counts p reason old new → PlaceIn fixed before s old →
    PlaceIn fixed before (reason_counted p (Some reason) fixed s) new
counted_so fixed before s p reason old new g h =
    subst (λ (x : PortPlace). PlaceIn fixed before (reason_counted p (Some reason) fixed s) x) (sym g) (counted_place fixed before s p reason old (old.number == p) refl h)

pub parts_counted : (fixed : NodeSetting) (before : NodeAt) (s : Step) (p reason : ℕ) (old : Parts) (ys : List PortPlace) → AllZip (Counts p reason) old.ports ys →
    PartsIn fixed before s old → PartsIn fixed before (reason_counted p (Some reason) fixed s) (record old { ports = ys })
parts_counted fixed before s p reason old ys z h =
    let numbers : map (λ (x : PortPlace). x.number) ys ≡ map (λ (x : PortPlace). x.number) old.ports =
    zip_map (Counts p reason) (λ (x : PortPlace). x.number) old.ports ys (λ x y g. ap (λ (v : PortPlace). v.number) g ∙ counted_number p reason x (x.number == p)) z in
    record {
      numbers = numbers ∙ h.numbers;
      places = zip_all (Counts p reason) (PlaceIn fixed before s) (PlaceIn fixed before (reason_counted p (Some reason) fixed s)) old.ports ys (counted_so fixed before s p reason) z h.places;
      slave = h.slave;
      clock = h.clock;
      ticks = h.ticks;
      has_slave = subst (λ (ns : List ℕ). IfSome old.slave (λ q. list_any (λ x. x == q) ns ≡ true)) (sym numbers) h.has_slave;
      cycles = h.cycles;
      dac = h.dac;
    }

same_either : {A : Type 0} (b : Bool) (x : A) → x ≡ (if b then x else x)
same_either true x = refl
same_either false x = refl

-- no reason is counted nowhere
pub counted_none : (fixed : NodeSetting) (before : NodeAt) (s : Step) (p : ℕ) (parts : Parts) → PartsIn fixed before s parts → PartsIn fixed before (reason_counted p None fixed s) parts
counted_none fixed before s p parts h =
    parts_same fixed before s (reason_counted p None fixed s) parts
    (record { told = λ q. refl; counters = λ q. same_either (q == p) (s.node.counters q); sends = λ q. refl }) refl refl refl h

-- ---- before an input

begun_place : (fixed : NodeSetting) (n : NodeAt) (old new : PortPlace) → Begins old new → PlaceStands fixed n old → PlaceIn fixed n (step_from n) new
begun_place fixed n old new g h = record {
  stands = record {
    set = ap (λ p. p.set) g.port ∙ h.set ∙ ap (setting_of fixed.set) (sym g.number);
    told = subst (λ (q : ℕ). PortStandsFor new.port (n.told q)) (sym g.number) (subst (λ p. PortStandsFor p (n.told old.number)) (sym g.port) h.told);
    counters = g.counters ∙ h.counters ∙ ap n.counters (sym g.number);
  };
  word = g.word ∙ ap (λ (l : Rest). word_of l.link) (line_is fixed n old h) ∙ ap (λ (q : ℕ). word_of (link_at fixed.set n q)) (sym g.number);
  sends = g.sends;
  sound = subst AllSound (sym g.sends) tt;
}

pub numbers_begun : (xs ys : List PortPlace) → AllZip Begins xs ys → map (λ (x : PortPlace). x.number) ys ≡ map (λ (x : PortPlace). x.number) xs
numbers_begun xs ys z = zip_map Begins (λ (x : PortPlace). x.number) xs ys (λ x y g. g.number) z

pub parts_begun : (fixed : NodeSetting) (n : NodeAt) (old : Parts) (ys : List PortPlace) → AllZip Begins old.ports ys → PartsAt fixed n old →
    PartsIn fixed n (step_from n) (record old { ports = ys; cycles = pos 0; dac = None })
parts_begun fixed n old ys z h =
    let numbers : map (λ (x : PortPlace). x.number) ys ≡ map (λ (x : PortPlace). x.number) old.ports =
    zip_map Begins (λ (x : PortPlace). x.number) old.ports ys (λ x y g. g.number) z in
    record {
      numbers = numbers ∙ h.numbers;
      places = zip_all Begins (PlaceStands fixed n) (PlaceIn fixed n (step_from n)) old.ports ys (begun_place fixed n) z h.places;
      slave = h.slave;
      clock = h.clock;
      ticks = h.ticks;
      has_slave = subst (λ (ns : List ℕ). IfSome old.slave (λ p. list_any (λ q. q == p) ns ≡ true)) (sym numbers) h.has_slave;
      cycles = refl;
      dac = refl;
    }

-- ---- what is commanded

pub parts_commanded : (fixed : NodeSetting) (before : NodeAt) (s : Step) (out : ServoOut) (old : Parts) → PartsIn fixed before s old →
    PartsIn fixed before (commanded out fixed s) (record old { cycles = newest_step out.cycles old.cycles; dac = option_or out.dac old.dac })
parts_commanded fixed before s out old h = record {
  numbers = h.numbers;
  places = all_of (PlaceIn fixed before s) (PlaceIn fixed before (commanded out fixed s)) old.ports
      (place_same fixed before s (commanded out fixed s) (record { told = λ q. refl; counters = λ q. refl; sends = λ q. refl })) h.places;
  slave = h.slave;
  clock = h.clock;
  ticks = h.ticks;
  has_slave = h.has_slave;
  cycles = ap (newest_step out.cycles) h.cycles;
  dac = ap (option_or out.dac) h.dac;
}
