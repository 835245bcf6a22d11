-- The fields of an event line say of a node what the event says of it.
use Rattle.std.proofs.Common.{◌≡◌, inl, inr, ◌∙◌, refl, ap, sym, subst, ℕ, zero, suc, ◌+◌, ◌<◌, ◌≤◌, ◌==◌, ◌&&◌, ℤ, pos, negsuc, Bool, true, false, if◌then◌else◌, is_some, List, [], ◌∷◌, length, drop, Option, None, Some, Result, Ok, Err, arith, codes}
use Rattle.std.specs.Prelude.{nat_le, option_and_then, option_map, slice_get, slice_set, unwrap_or}
use Rattle.std.specs.Option.{option_map_or}
use Rattle.std.proofs.lemmas.Bool.{and_parts, eqb-true, false_from_ne_true, leb-true}
use Rattle.std.proofs.lemmas.Bool.Decides.{eqb_tells}
use Rattle.std.proofs.lemmas.Option.{none-some, slice_get-map}
use Rattle.wrp_network.specs.declared.configuration.NetCfg.{NetCfg}
use Rattle.wrp_base.specs.declared.fault.TraceFault.{TraceFault}
use Rattle.wrp_base.specs.declared.fault.TraceFault.TheVariants.{Fields, Kind, Name, Number}
use Rattle.wrp_network.specs.declared.network.NodeCfg.{NodeCfg}
use Rattle.wrp_base.specs.Lines.{parts_of}
use Rattle.wrp_network.specs.Network.{name_at, node_count}
use Rattle.wrp_caldb.specs.Name.{same_name}
use Rattle.wrp_config.specs.Accepted.{HasNames}
use Rattle.wrp_config.specs.Names.{link_named, node_named}
use Rattle.wrp_config.proofs.Lists.{IsFoundAt, found_place, same_is}
use Rattle.arrayvec.specs.ArrayVec.{ArrayVec as Items}
use Rattle.wrp_base.proofs.Lists.{has_item}
use Rattle.wrp_course.specs.declared.event.Event.{Event}
use Rattle.wrp_course.specs.declared.event.Event.TheVariants as events
use Rattle.wrp_course.specs.declared.event.Swap.{Swap}
use Rattle.wrp_course.specs.Moved.{drift_of}
use Rattle.wrp_fields.specs.Numbers.{number_in, number_of}
use Rattle.wrp_fields.specs.Reading.{◌>>=◌, field_of, is_plain, number_or_fault}
use Rattle.wrp_names.specs.Fields.{link_at, node_at}
use Rattle.wrp_trace.specs.Changes.{SaidAt, all_drifts, change_in, change_said, changes_said, drift_said, is_said, move_said, named_said, nothing_said, said_once, with_drift, with_move, move_in}
use Rattle.wrp_trace.specs.declared.events.kinds.EventKind.{EventKind}
use Rattle.wrp_trace.specs.declared.events.kinds.EventKind.TheVariants as kinds
use Rattle.wrp_trace.specs.EventFields.{before, behind, delay_at, offset_at, span_at}
use Rattle.wrp_trace.specs.EventKinds.{all_kinds, kind_of, may_have, word_of}
use Rattle.wrp_trace.specs.Events.{counted_of, event_of, event_read, fields_of_kind, pass_of, pass_with, bare, tick_of, up_of}
use Rattle.wrp_trace.specs.Fields.{bits_at, u32_at, octets_at, raw_from, u16_at, step_at, time_at}
use Rattle.wrp_trace.specs.Swaps.{swaps_said}
use Rattle.wrp_trace.proofs.EventsFit.{Both, both, found, ok_same, read_as}
use Rattle.wrp_trace.proofs.Listed.{first_found}
use Rattle.wrp_printed_laws.specs.Laws.{SaysEvent}
use Rattle.wrp_printed_laws.specs.Offsets.{drift_in, passed_in, start_in, ticks_in}
use Rattle.wrp_printed_laws.proofs.Events.{drift_by, start_by, tick_by}
use Rattle.wrp_printed_laws.proofs.Names.{finds, number_is, same_names}

-- these fields say of the node with this name what the event says of its number
pub record TellsEvent (node : List ℕ) (n : ℕ) (fields : List (List ℕ)) (e : Event) : Type 0 where
  pub starts : start_in node fields ≡ start_by e n
  pub passes : passed_in node fields ≡ drift_by e n
  pub ticks : ticks_in node fields ≡ tick_by e n

-- Lines of other kinds

-- events that say nothing of a node's clock
abbrev IsOther : Event → Type 0
IsOther (events.Pass dt drifts fibres) = ⊥
IsOther (events.Tick m) = ⊥
IsOther (events.Up m off swaps) = ⊥
IsOther _ = Unit {0}

-- words that begin none of their lines
record IsOtherWord (word : List ℕ) : Type 0 where
  up : same_name word (codes "up") ≡ false
  pass : same_name word (codes "pass") ≡ false
  tick : same_name word (codes "tick") ≡ false

other_start : (node word : List ℕ) (fields : List (List ℕ)) → field_of 1 fields ≡ word → IsOtherWord word → start_in node fields ≡ None
other_start node word [] is other = refl
other_start node word (kind ∷ []) is other = refl
other_start node word (kind ∷ name ∷ []) is other = refl
other_start node word (kind ∷ name ∷ off ∷ more) is other =
    ap (λ (b : Bool). if b && same_name name node then number_of off else None) (ap (λ (k : List ℕ). same_name k (codes "up")) is ∙ other.up)

other_pass : (node word : List ℕ) (fields : List (List ℕ)) → field_of 1 fields ≡ word → IsOtherWord word → passed_in node fields ≡ pos 0
other_pass node word [] is other = refl
other_pass node word (kind ∷ []) is other = refl
other_pass node word (kind ∷ span ∷ fields) is other =
    ap (λ (b : Bool). if b then drift_in node fields else pos 0) (ap (λ (k : List ℕ). same_name k (codes "pass")) is ∙ other.pass)

other_tick : (node word : List ℕ) (fields : List (List ℕ)) → field_of 1 fields ≡ word → IsOtherWord word → ticks_in node fields ≡ 0
other_tick node word [] is other = refl
other_tick node word (kind ∷ []) is other = refl
other_tick node word (kind ∷ name ∷ more) is other =
    ap (λ (b : Bool). if b && same_name name node then 1 else 0) (ap (λ (k : List ℕ). same_name k (codes "tick")) is ∙ other.tick)

none_says : (node : List ℕ) (n : ℕ) (fields : List (List ℕ)) (e : Event) → IsOther e → start_in node fields ≡ None → passed_in node fields ≡ pos 0
    → ticks_in node fields ≡ 0 → TellsEvent node n fields e
none_says node n fields (events.Pass dt drifts fibres) other a b c = absurd other
none_says node n fields (events.Tick m) other a b c = absurd other
none_says node n fields (events.Up m off swaps) other a b c = absurd other
none_says node n fields (events.Sample m base bits) other a b c = record { starts = a; passes = b; ticks = c }
none_says node n fields (events.Depart m p stamp) other a b c = record { starts = a; passes = b; ticks = c }
none_says node n fields (events.Arrive i raw) other a b c = record { starts = a; passes = b; ticks = c }
none_says node n fields (events.Deliver i) other a b c = record { starts = a; passes = b; ticks = c }
none_says node n fields (events.Noise m p octets raw) other a b c = record { starts = a; passes = b; ticks = c }
none_says node n fields (events.Down m) other a b c = record { starts = a; passes = b; ticks = c }
none_says node n fields (events.Cut k) other a b c = record { starts = a; passes = b; ticks = c }
none_says node n fields (events.Join k ms sm) other a b c = record { starts = a; passes = b; ticks = c }

other_tells : (node word : List ℕ) (n : ℕ) (fields : List (List ℕ)) (e : Event) → field_of 1 fields ≡ word → IsOtherWord word → IsOther e
    → TellsEvent node n fields e
other_tells node word n fields e is word_is other =
    none_says node n fields e other (other_start node word fields is word_is) (other_pass node word fields is word_is) (other_tick node word fields is word_is)

-- a reading that ends with such an event
ends_other : (made e : Event) → read_as made ≡ read_as e → IsOther made → IsOther e
ends_other made e is other = subst IsOther (ok_same made e is) other

other_kind : (cfg : NetCfg) (kind : EventKind) (fields : List (List ℕ)) (e : Event) → fields_of_kind cfg kind fields ≡ Ok e → IsOtherWord (word_of kind)
    → IsOther e
other_kind cfg kinds.Pass fields e h word = absurd (let f : true ≡ false = word.pass in cc)
other_kind cfg kinds.Tick fields e h word = absurd (let f : true ≡ false = word.tick in cc)
other_kind cfg kinds.Up fields e h word = absurd (let f : true ≡ false = word.up in cc)
other_kind cfg kinds.Sample fields e h word =
    let a = both (node_at cfg 2 fields) (λ node. step_at 3 fields >>= (λ base. bits_at 4 fields >>= (λ bits. Ok (events.Sample node base bits)))) e h in
    let b = both (step_at 3 fields) (λ base. bits_at 4 fields >>= (λ bits. Ok (events.Sample a.first base bits))) e a.rest in
    let d = both (bits_at 4 fields) (λ bits. Ok (events.Sample a.first b.first bits)) e b.rest in
    ends_other (events.Sample a.first b.first d.first) e d.rest tt
other_kind cfg kinds.Depart fields e h word =
    let a = both (node_at cfg 2 fields) (λ node. u16_at 3 fields >>= (λ port. time_at 4 fields >>= (λ stamp. Ok (events.Depart node port stamp)))) e h in
    let b = both (u16_at 3 fields) (λ port. time_at 4 fields >>= (λ stamp. Ok (events.Depart a.first port stamp))) e a.rest in
    let d = both (time_at 4 fields) (λ stamp. Ok (events.Depart a.first b.first stamp)) e b.rest in
    ends_other (events.Depart a.first b.first d.first) e d.rest tt
other_kind cfg kinds.Arrive fields e h word =
    let a = both (u32_at 2 fields) (λ frame. raw_from 3 fields >>= (λ raw. Ok (events.Arrive frame raw))) e h in
    let b = both (raw_from 3 fields) (λ raw. Ok (events.Arrive a.first raw)) e a.rest in
    ends_other (events.Arrive a.first b.first) e b.rest tt
other_kind cfg kinds.Deliver fields e h word =
    let a = both (u32_at 2 fields) (λ frame. Ok (events.Deliver frame)) e h in
    ends_other (events.Deliver a.first) e a.rest tt
other_kind cfg kinds.Noise fields e h word =
    let a =
    both (node_at cfg 2 fields)
    (λ node. u16_at 3 fields >>= (λ port. octets_at 4 fields >>= (λ octets. raw_from 5 fields >>= (λ raw. Ok (events.Noise node port octets raw))))) e h in
    let b =
    both (u16_at 3 fields) (λ port. octets_at 4 fields >>= (λ octets. raw_from 5 fields >>= (λ raw. Ok (events.Noise a.first port octets raw)))) e a.rest in
    let d = both (octets_at 4 fields) (λ octets. raw_from 5 fields >>= (λ raw. Ok (events.Noise a.first b.first octets raw))) e b.rest in
    let f = both (raw_from 5 fields) (λ raw. Ok (events.Noise a.first b.first d.first raw)) e d.rest in
    ends_other (events.Noise a.first b.first d.first f.first) e f.rest tt
other_kind cfg kinds.Down fields e h word =
    let a = both (node_at cfg 2 fields) (λ node. Ok (events.Down node)) e h in
    ends_other (events.Down a.first) e a.rest tt
other_kind cfg kinds.Cut fields e h word =
    let a = both (link_at cfg 2 fields) (λ link. Ok (events.Cut link)) e h in
    ends_other (events.Cut a.first) e a.rest tt
other_kind cfg kinds.Join fields e h word =
    let a = both (link_at cfg 2 fields) (λ link. delay_at 3 fields >>= (λ ms. delay_at 4 fields >>= (λ sm. Ok (events.Join link ms sm)))) e h in
    let b = both (delay_at 3 fields) (λ ms. delay_at 4 fields >>= (λ sm. Ok (events.Join a.first ms sm))) e a.rest in
    let d = both (delay_at 4 fields) (λ sm. Ok (events.Join a.first b.first sm)) e b.rest in
    ends_other (events.Join a.first b.first d.first) e d.rest tt

-- Names of nodes

-- a text that finds a node is its name
found_name : (cfg : NetCfg) (text : List ℕ) (m : ℕ) → node_named cfg text ≡ Some m → text ≡ name_at cfg m
found_name cfg text m is =
    let it : IsFoundAt (λ (node : NodeCfg). same_name node.name.bytes text) cfg.nodes.items m =
    found_place (λ (node : NodeCfg). same_name node.name.bytes text) cfg.nodes.items m is in
    sym (same_is it.x.name.bytes text it.passes) ∙ sym (ap (λ (o : Option NodeCfg). option_map_or (λ (node : NodeCfg). node.name.bytes) o []) it.at)

-- whether a text is the name of a node, by the node that it finds
named_is : (cfg : NetCfg) → HasNames cfg → (text : List ℕ) (m n : ℕ) → n < node_count cfg → node_named cfg text ≡ Some m
    → same_name text (name_at cfg n) ≡ (n == m)
named_is cfg names text m n below is = ap (λ (t : List ℕ). same_name t (name_at cfg n)) (found_name cfg text m is) ∙ same_names cfg names m n below

none_named : (cfg : NetCfg) → HasNames cfg → (text : List ℕ) (n : ℕ) → n < node_count cfg → node_named cfg text ≡ None → same_name text (name_at cfg n) ≡ false
none_named cfg names text n below is =
    false_from_ne_true (same_name text (name_at cfg n))
    (λ same. absurd (none-some n (sym is ∙ ap (node_named cfg) (same_is text (name_at cfg n) same) ∙ finds cfg names n below)))

-- Ticks

tick_tells : (cfg : NetCfg) → HasNames cfg → (n : ℕ) → n < node_count cfg → (fields : List (List ℕ)) (m : ℕ) → length fields ≡ 2
    → field_of 1 fields ≡ codes "tick" → node_named cfg (field_of 2 fields) ≡ Some m →
    TellsEvent (name_at cfg n) n fields (events.Tick m)
tick_tells cfg names n below [] m size word is = absurd (omega (arith, size))
tick_tells cfg names n below (kind ∷ []) m size word is = absurd (omega (arith, size))
tick_tells cfg names n below (kind ∷ name ∷ []) m size word is = record {
  starts = refl;
  passes = ap (λ (k : List ℕ). if same_name k (codes "pass") then drift_in (name_at cfg n) [] else pos 0) word;
  ticks =
      ap (λ (k : List ℕ). if same_name k (codes "tick") && same_name name (name_at cfg n) then 1 else 0) word
      ∙ ap (λ (b : Bool). if b then 1 else 0) (named_is cfg names name m n below is);
}
tick_tells cfg names n below (kind ∷ name ∷ other ∷ more) m size word is = absurd (omega (arith, size))

-- Starts

up_tells : (cfg : NetCfg) → HasNames cfg → (n : ℕ) → n < node_count cfg → (fields : List (List ℕ)) (m : ℕ) (off : ℤ) (swaps : Items Swap) → 3 ≤ length fields
    → field_of 1 fields ≡ codes "up" → node_named cfg (field_of 2 fields) ≡ Some m →
    number_of (field_of 3 fields) ≡ Some off → TellsEvent (name_at cfg n) n fields (events.Up m off swaps)
up_tells cfg names n below [] m off swaps size word is number = absurd (omega (arith, size))
up_tells cfg names n below (kind ∷ []) m off swaps size word is number = absurd (omega (arith, size))
up_tells cfg names n below (kind ∷ name ∷ []) m off swaps size word is number = absurd (omega (arith, size))
up_tells cfg names n below (kind ∷ name ∷ text ∷ more) m off swaps size word is number = record {
  starts =
      ap (λ (k : List ℕ). if same_name k (codes "up") && same_name name (name_at cfg n) then number_of text else None) word
      ∙ ap (λ (b : Bool). if b then number_of text else None) (named_is cfg names name m n below is)
      ∙ ap (λ (o : Option ℤ). if n == m then o else None) number;
  passes = ap (λ (k : List ℕ). if same_name k (codes "pass") then drift_in (name_at cfg n) (text ∷ more) else pos 0) word;
  ticks = ap (λ (k : List ℕ). if same_name k (codes "tick") && same_name name (name_at cfg n) then 1 else 0) word;
}

-- Drifts

set_same : {X : Type 0} (xs : List X) (n : ℕ) (x old : X) → slice_get xs n ≡ Some old → slice_get (slice_set xs n x) n ≡ Some x
set_same [] n x old is = absurd (none-some old is)
set_same (y ∷ ys) zero x old is = refl
set_same (y ∷ ys) (suc n) x old is = set_same ys n x old is

set_other : {X : Type 0} (xs : List X) (m n : ℕ) (x : X) → (n ≡ m → ⊥) → slice_get (slice_set xs m x) n ≡ slice_get xs n
set_other [] m n x other = refl
set_other (y ∷ ys) zero zero x other = absurd (other refl)
set_other (y ∷ ys) zero (suc n) x other = refl
set_other (y ∷ ys) (suc m) zero x other = refl
set_other (y ∷ ys) (suc m) (suc n) x other = set_other ys m n x (λ e. other (ap (λ (k : ℕ). suc k) e))

-- what is said of a node is said once
once_more : (place : ℕ) (said : SaidAt) (n : ℕ) (text : List ℕ) (d drift : ℤ) → slice_get said.drifts n ≡ Some (Some d)
    → said_once place said.drifts n (change_in text) ≡ Ok drift → ⊥
once_more place said n text d drift is e =
    let twice : is_said said.drifts n ≡ true = ap (λ (o : Option (Option ℤ)). is_some (option_and_then (λ x. x) o)) is in
    let f : Err (Name place) ≡ Ok drift = sym (ap (λ (b : Bool). if b then Err (Name place) else number_or_fault place (change_in text)) twice) ∙ e in
    cc

unless_said : (place : ℕ) (b : Bool) (o : Option ℤ) (x : ℤ) → (if b then Err (Name place) else number_or_fault place o) ≡ Ok x → o ≡ Some x
unless_said place true o x e = absurd (let f : Err (Name place) ≡ Ok x = e in cc)
unless_said place false o x e = found (Number place) o x e

-- one field

record OneDrift (place : ℕ) (said more : SaidAt) (m : ℕ) (text : List ℕ) : Type 0 where
  drift : ℤ
  once : said_once place said.drifts m (change_in text) ≡ Ok drift
  is : with_drift said m drift ≡ more

one_drift : (place : ℕ) (said more : SaidAt) (m : ℕ) (text : List ℕ) → drift_said place said m text ≡ Ok more → OneDrift place said more m text
one_drift place said more m text e =
    let it : Both (said_once place said.drifts m (change_in text)) (λ drift. Ok (with_drift said m drift)) more =
    both (said_once place said.drifts m (change_in text)) (λ drift. Ok (with_drift said m drift)) more e in
    record { drift = it.first; once = it.is; is = ok_same (with_drift said m it.first) more it.rest }

one_move : (place : ℕ) (said more : SaidAt) (l : ℕ) (text : List ℕ) → move_said place said l text ≡ Ok more → said.drifts ≡ more.drifts
one_move place said more l text e =
    let it = both (said_once place said.moves l (move_in text)) (λ move. Ok (with_move said l move)) more e in
    ap (λ (s : SaidAt). s.drifts) (ok_same (with_move said l it.first) more it.rest)

-- a field leaves what is already said of the node
kept_by : (place : ℕ) (said more : SaidAt) (n : ℕ) (d : ℤ) (o l : Option ℕ) (text : List ℕ) → slice_get said.drifts n ≡ Some (Some d)
    → named_said place said o l text ≡ Ok more → slice_get more.drifts n ≡ Some (Some d)
kept_by place said more n d (Some m) l text is e =
    let one : OneDrift place said more m text = one_drift place said more m text e in
    elim (eqb_tells n m) [
      | inl x ↦ absurd (once_more place said m text d one.drift (subst (λ (i : ℕ). slice_get said.drifts i ≡ Some (Some d)) x.1 is) one.once)
      | inr x ↦ sym (ap (λ (s : SaidAt). slice_get s.drifts n) one.is) ∙ set_other said.drifts m n (Some one.drift) x.1 ∙ is
    ]
kept_by place said more n d None (Some l) text is e = sym (ap (λ (ds : List (Option ℤ)). slice_get ds n) (one_move place said more l text e)) ∙ is
kept_by place said more n d None None text is e = absurd (let f : Err (Name place) ≡ Ok more = e in cc)

all_kept : (cfg : NetCfg) (place : ℕ) (said more : SaidAt) (n : ℕ) (d : ℤ) (texts : List (List ℕ)) → slice_get said.drifts n ≡ Some (Some d)
    → changes_said cfg place said texts ≡ Ok more → slice_get more.drifts n ≡ Some (Some d)
all_kept cfg place said more n d [] is e = sym (ap (λ (s : SaidAt). slice_get s.drifts n) (ok_same said more e)) ∙ is
all_kept cfg place said more n d (text ∷ texts) is e =
    let it = both (change_said cfg place said text) (λ next. changes_said cfg (place + 1) next texts) more e in
    all_kept cfg (place + 1) it.first more n d texts
    (kept_by place said it.first n d (node_named cfg (before 61 text)) (link_named cfg (before 61 text)) (behind 61 text) is it.is) it.rest

drift_at : (more : SaidAt) (n : ℕ) (o : Option ℤ) → slice_get more.drifts n ≡ Some o → drift_of (all_drifts more) n ≡ unwrap_or o (pos 0)
drift_at more n o is =
    ap (λ (x : Option ℤ). option_map_or (λ drift. drift) x (pos 0))
    (slice_get-map (λ drift. unwrap_or drift (pos 0)) more.drifts n ∙ ap (option_map (λ drift. unwrap_or drift (pos 0))) is)

-- all fields: the drift of a node of which nothing is said yet

abbrev Tells : NetCfg → ℕ → List (List ℕ) → SaidAt → Type 0
Tells cfg n texts more = drift_in (name_at cfg n) texts ≡ drift_of (all_drifts more) n

field_tells :
    (cfg : NetCfg) → HasNames cfg → (n : ℕ) → n < node_count cfg
    → (place : ℕ) (said next more : SaidAt) (text : List ℕ) (texts : List (List ℕ)) (o l : Option ℕ) → node_named cfg (before 61 text) ≡ o →
    slice_get said.drifts n ≡ Some None → named_said place said o l (behind 61 text) ≡ Ok next → changes_said cfg (place + 1) next texts ≡ Ok more →
    ((unsaid : slice_get next.drifts n ≡ Some None) → Tells cfg n texts more) → Tells cfg n (text ∷ texts) more
field_tells cfg names n below place said next more text texts (Some m) l named unsaid e rest later =
    let one : OneDrift place said next m (behind 61 text) = one_drift place said next m (behind 61 text) e in
    let first : same_name (before 61 text) (name_at cfg n) ≡ (n == m) = named_is cfg names (before 61 text) m n below named in
    let value : List ℕ = behind 61 text in
    elim (eqb_tells n m) [
      | inl x ↦
          let said_now : slice_get next.drifts n ≡ Some (Some one.drift) =
          sym (ap (λ (s : SaidAt). slice_get s.drifts n) one.is)
          ∙ ap (λ (i : ℕ). slice_get (slice_set said.drifts i (Some one.drift)) n) (sym x.1)
          ∙ set_same said.drifts n (Some one.drift) None unsaid in
          let number : number_of value ≡ Some one.drift =
          number_is (negsuc 9_223_372_036_854_775_806) (pos 9_223_372_036_854_775_807) value one.drift
          (unless_said place (is_said said.drifts m) (change_in value) one.drift one.once) in
          ap (λ (b : Bool). if b then unwrap_or (number_of value) (pos 0) else drift_in (name_at cfg n) texts) (first ∙ x.0)
          ∙ ap (λ (z : Option ℤ). unwrap_or z (pos 0)) number
          ∙ sym (drift_at more n (Some one.drift) (all_kept cfg (place + 1) next more n one.drift texts said_now rest))
      | inr x ↦
          ap (λ (b : Bool). if b then unwrap_or (number_of value) (pos 0) else drift_in (name_at cfg n) texts) (first ∙ x.0)
          ∙ later (sym (ap (λ (s : SaidAt). slice_get s.drifts n) one.is) ∙ set_other said.drifts m n (Some one.drift) x.1 ∙ unsaid)
    ]
field_tells cfg names n below place said next more text texts None (Some l) named unsaid e rest later =
    ap (λ (b : Bool). if b then unwrap_or (number_of (behind 61 text)) (pos 0) else drift_in (name_at cfg n) texts)
    (none_named cfg names (before 61 text) n below named)
    ∙ later (sym (ap (λ (ds : List (Option ℤ)). slice_get ds n) (one_move place said next l (behind 61 text) e)) ∙ unsaid)
field_tells cfg names n below place said next more text texts None None named unsaid e rest later = absurd (let f : Err (Name place) ≡ Ok next = e in cc)

drifts_tell : (cfg : NetCfg) → HasNames cfg → (n : ℕ) → n < node_count cfg → (place : ℕ) (said more : SaidAt) (texts : List (List ℕ))
    → slice_get said.drifts n ≡ Some None → changes_said cfg place said texts ≡ Ok more → Tells cfg n texts more
drifts_tell cfg names n below place said more [] unsaid e =
    sym (drift_at more n None (sym (ap (λ (s : SaidAt). slice_get s.drifts n) (ok_same said more e)) ∙ unsaid))
drifts_tell cfg names n below place said more (text ∷ texts) unsaid e =
    let it = both (change_said cfg place said text) (λ next. changes_said cfg (place + 1) next texts) more e in
    field_tells cfg names n below place said it.first more text texts (node_named cfg (before 61 text))
    (link_named cfg (before 61 text)) refl unsaid it.is it.rest
    (λ still. drifts_tell cfg names n below (place + 1) it.first more texts still it.rest)

nothing_at : (cfg : NetCfg) (n : ℕ) → n < node_count cfg → slice_get (nothing_said cfg).drifts n ≡ Some None
nothing_at cfg n below =
    let it : (node : NodeCfg) × (slice_get cfg.nodes.items n ≡ Some node) = has_item cfg.nodes.items n below in
    slice_get-map (λ (node : NodeCfg). None) cfg.nodes.items n ∙ ap (option_map (λ (node : NodeCfg). None)) it.1

pass_tells : (cfg : NetCfg) → HasNames cfg → (n : ℕ) → n < node_count cfg → (fields : List (List ℕ)) (dt : ℤ) (said : SaidAt) → 2 ≤ length fields
    → field_of 1 fields ≡ codes "pass" →
    changes_said cfg 3 (nothing_said cfg) (drop 2 fields) ≡ Ok said → TellsEvent (name_at cfg n) n fields (pass_with dt said)
pass_tells cfg names n below [] dt said size word is = absurd (omega (arith, size))
pass_tells cfg names n below (kind ∷ []) dt said size word is = absurd (omega (arith, size))
pass_tells cfg names n below (kind ∷ span ∷ fields) dt said size word is = record {
  starts = no_start fields;
  passes =
      ap (λ (k : List ℕ). if same_name k (codes "pass") then drift_in (name_at cfg n) fields else pos 0) word
      ∙ drifts_tell cfg names n below 3 (nothing_said cfg) said fields (nothing_at cfg n below) is;
  ticks = ap (λ (k : List ℕ). if same_name k (codes "tick") && same_name span (name_at cfg n) then 1 else 0) word;
}
  where
    no_start : (more : List (List ℕ)) → start_in (name_at cfg n) (kind ∷ span ∷ more) ≡ None
    no_start [] = refl
    no_start (off ∷ more) = ap (λ (k : List ℕ). if same_name k (codes "up") && same_name span (name_at cfg n) then number_of off else None) word

-- Each kind

pass_kind : (cfg : NetCfg) → HasNames cfg → (n : ℕ) → n < node_count cfg → (fields : List (List ℕ)) (e : Event) → 2 ≤ length fields
    → field_of 1 fields ≡ codes "pass" → pass_of cfg fields ≡ Ok e → TellsEvent (name_at cfg n) n fields e
pass_kind cfg names n below fields e size word h =
    let a = both (span_at 2 fields) (λ dt. changes_said cfg 3 (nothing_said cfg) (drop 2 fields) >>= (λ said. Ok (pass_with dt said))) e h in
    let b = both (changes_said cfg 3 (nothing_said cfg) (drop 2 fields)) (λ said. Ok (pass_with a.first said)) e a.rest in
    subst (TellsEvent (name_at cfg n) n fields) (ok_same (pass_with a.first b.first) e b.rest)
    (pass_tells cfg names n below fields a.first b.first size word b.is)

tick_kind : (cfg : NetCfg) → HasNames cfg → (n : ℕ) → n < node_count cfg → (fields : List (List ℕ)) (e : Event) → length fields ≡ 2
    → field_of 1 fields ≡ codes "tick" → tick_of cfg fields ≡ Ok e → TellsEvent (name_at cfg n) n fields e
tick_kind cfg names n below fields e size word h =
    let a = both (node_at cfg 2 fields) (λ node. Ok (events.Tick node)) e h in
    subst (TellsEvent (name_at cfg n) n fields) (ok_same (events.Tick a.first) e a.rest)
    (tick_tells cfg names n below fields a.first size word (found (Name 2) (node_named cfg (field_of 2 fields)) a.first a.is))

up_kind : (cfg : NetCfg) → HasNames cfg → (n : ℕ) → n < node_count cfg → (fields : List (List ℕ)) (e : Event) → 3 ≤ length fields
    → field_of 1 fields ≡ codes "up" → up_of cfg fields ≡ Ok e → TellsEvent (name_at cfg n) n fields e
up_kind cfg names n below fields e size word h =
    let made : ℕ → ℤ → List Swap → Event = λ node off swaps. events.Up node off (record { items = swaps }) in
    let a = both (node_at cfg 2 fields) (λ node. offset_at 3 fields >>= (λ off. swaps_said 4 [] (drop 3 fields) >>= (λ swaps. Ok (made node off swaps)))) e h in
    let b = both (offset_at 3 fields) (λ off. swaps_said 4 [] (drop 3 fields) >>= (λ swaps. Ok (made a.first off swaps))) e a.rest in
    let d = both (swaps_said 4 [] (drop 3 fields)) (λ swaps. Ok (made a.first b.first swaps)) e b.rest in
    subst (TellsEvent (name_at cfg n) n fields) (ok_same (made a.first b.first d.first) e d.rest)
    (up_tells cfg names n below fields a.first b.first (record { items = d.first }) size word (found (Name 2) (node_named cfg (field_of 2 fields)) a.first a.is)
    (number_is (negsuc 1_237_940_039_285_380_274_899_124_223) (pos 1_237_940_039_285_380_274_899_124_224) (field_of 3 fields) b.first (found (Number 3) (number_in (negsuc 1_237_940_039_285_380_274_899_124_223) (pos 1_237_940_039_285_380_274_899_124_224) (field_of 3 fields)) b.first b.is)))

kind_tells : (cfg : NetCfg) → HasNames cfg → (n : ℕ) → n < node_count cfg → (kind : EventKind) (fields : List (List ℕ)) (e : Event)
    → may_have kind (length fields) ≡ true → field_of 1 fields ≡ word_of kind → fields_of_kind cfg kind fields ≡ Ok e →
    TellsEvent (name_at cfg n) n fields e
kind_tells cfg names n below kinds.Pass fields e size word h = pass_kind cfg names n below fields e (leb-true 2 (length fields) size) word h
kind_tells cfg names n below kinds.Tick fields e size word h = tick_kind cfg names n below fields e (eqb-true (length fields) 2 size) word h
kind_tells cfg names n below kinds.Up fields e size word h =
    up_kind cfg names n below fields e (leb-true 3 (length fields) (and_parts (nat_le 3 (length fields)) (nat_le (length fields) 21) size).0) word h
kind_tells cfg names n below kinds.Sample fields e size word h =
    other_tells (name_at cfg n) (codes "sample") n fields e word words (other_kind cfg kinds.Sample fields e h words)
  where
    words : IsOtherWord (codes "sample")
    words = record { up = refl; pass = refl; tick = refl }
kind_tells cfg names n below kinds.Depart fields e size word h =
    other_tells (name_at cfg n) (codes "depart") n fields e word words (other_kind cfg kinds.Depart fields e h words)
  where
    words : IsOtherWord (codes "depart")
    words = record { up = refl; pass = refl; tick = refl }
kind_tells cfg names n below kinds.Arrive fields e size word h =
    other_tells (name_at cfg n) (codes "arrive") n fields e word words (other_kind cfg kinds.Arrive fields e h words)
  where
    words : IsOtherWord (codes "arrive")
    words = record { up = refl; pass = refl; tick = refl }
kind_tells cfg names n below kinds.Deliver fields e size word h =
    other_tells (name_at cfg n) (codes "deliver") n fields e word words (other_kind cfg kinds.Deliver fields e h words)
  where
    words : IsOtherWord (codes "deliver")
    words = record { up = refl; pass = refl; tick = refl }
kind_tells cfg names n below kinds.Noise fields e size word h =
    other_tells (name_at cfg n) (codes "noise") n fields e word words (other_kind cfg kinds.Noise fields e h words)
  where
    words : IsOtherWord (codes "noise")
    words = record { up = refl; pass = refl; tick = refl }
kind_tells cfg names n below kinds.Down fields e size word h =
    other_tells (name_at cfg n) (codes "down") n fields e word words (other_kind cfg kinds.Down fields e h words)
  where
    words : IsOtherWord (codes "down")
    words = record { up = refl; pass = refl; tick = refl }
kind_tells cfg names n below kinds.Cut fields e size word h =
    other_tells (name_at cfg n) (codes "cut") n fields e word words (other_kind cfg kinds.Cut fields e h words)
  where
    words : IsOtherWord (codes "cut")
    words = record { up = refl; pass = refl; tick = refl }
kind_tells cfg names n below kinds.Join fields e size word h =
    other_tells (name_at cfg n) (codes "join") n fields e word words (other_kind cfg kinds.Join fields e h words)
  where
    words : IsOtherWord (codes "join")
    words = record { up = refl; pass = refl; tick = refl }

-- Lines

record IsSo (b : Bool) (fault : TraceFault) (read : Result Event TraceFault) (e : Event) : Type 0 where
  holds : b ≡ true
  rest : read ≡ Ok e

so : (b : Bool) (fault : TraceFault) (read : Result Event TraceFault) (e : Event) → (if b then read else Err fault) ≡ Ok e → IsSo b fault read e
so true fault read e h = record { holds = refl; rest = h }
so false fault read e h = absurd (let f : Err fault ≡ Ok e = h in cc)

counted_tells : (cfg : NetCfg) → HasNames cfg → (n : ℕ) → n < node_count cfg → (fields : List (List ℕ)) (o : Option EventKind) (e : Event)
    → kind_of (field_of 1 fields) ≡ o → counted_of cfg fields o ≡ Ok e → TellsEvent (name_at cfg n) n fields e
counted_tells cfg names n below fields None e is h = absurd (let f : Err Kind ≡ Ok e = h in cc)
counted_tells cfg names n below fields (Some kind) e is h =
    let it : IsSo (may_have kind (length fields)) Fields (fields_of_kind cfg kind fields) e =
    so (may_have kind (length fields)) Fields (fields_of_kind cfg kind fields) e h in
    let word : same_name (word_of kind) (field_of 1 fields) ≡ true =
    (first_found (λ k. same_name (word_of k) (field_of 1 fields)) all_kinds kind is).passes in
    kind_tells cfg names n below kind fields e it.holds (sym (same_is (word_of kind) (field_of 1 fields) word)) it.rest

line_tells : (cfg : NetCfg) → HasNames cfg → (n : ℕ) → n < node_count cfg → (line : List ℕ) (e : Event) → event_read cfg line ≡ Ok e
    → TellsEvent (name_at cfg n) n (parts_of line) e
line_tells cfg names n below line e h =
    let it : IsSo (is_plain line) Fields (event_of cfg (parts_of line)) e = so (is_plain line) Fields (event_of cfg (parts_of line)) e h in
    counted_tells cfg names n below (parts_of line) (kind_of (field_of 1 (parts_of line))) e refl it.rest

-- the room past the end of a name says nothing
as_plain : (node : List ℕ) (n : ℕ) (fields : List (List ℕ)) (e : Event) → TellsEvent node n fields (bare e) → TellsEvent node n fields e
as_plain node n fields (events.Up m off swaps) h = record { starts = h.starts; passes = h.passes; ticks = h.ticks }
as_plain node n fields (events.Pass dt drifts fibres) h = h
as_plain node n fields (events.Tick m) h = h
as_plain node n fields (events.Sample m base bits) h = h
as_plain node n fields (events.Depart m p stamp) h = h
as_plain node n fields (events.Arrive i raw) h = h
as_plain node n fields (events.Deliver i) h = h
as_plain node n fields (events.Noise m p octets raw) h = h
as_plain node n fields (events.Down m) h = h
as_plain node n fields (events.Cut k) h = h
as_plain node n fields (events.Join k ms sm) h = h

pub event_fields : (cfg : NetCfg) (line : List ℕ) (e : Event) (n : ℕ) → HasNames cfg → n < node_count cfg → SaysEvent cfg line e
    → TellsEvent (name_at cfg n) n (parts_of line) e
event_fields cfg line e n names below (inl reads) = line_tells cfg names n below line e reads
event_fields cfg line e n names below (inr reads) = as_plain (name_at cfg n) n (parts_of line) e (line_tells cfg names n below line (bare e) reads)
