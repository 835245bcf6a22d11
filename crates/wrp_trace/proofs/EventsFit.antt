-- What a line says can happen in its network.
use Rattle.std.proofs.Common.{◌≡◌, ℕ, ℤ, pos, negsuc, ◌+◌, ◌<◌, ◌≤◌, ◌^◌, ◌%◌, ◌≤ℤ◌, ◌==◌, ◌&&◌, Bool, true, false, if◌then◌else◌, List, [], ◌∷◌, ◌++◌, length, drop, Option, None, Some, Result, Ok, Err, refl, ap, subst, arith}
use Rattle.std.specs.Prelude.{int_le, nat_lt, ok_or, option_map, option_and_then, unsigned_abs}
use Rattle.std.specs.List.{list_any, position, position_or_len}
use Rattle.std.proofs.lemmas.Bool.{eqb-true, ltb-true}
use Rattle.std.proofs.lemmas.Int.{ints}
use Rattle.std.proofs.lemmas.Option.{same_Some}
use Rattle.wrp_network.specs.declared.configuration.NetCfg.{NetCfg}
use Rattle.wrp_base.specs.declared.fault.TraceFault.{TraceFault}
use Rattle.wrp_base.specs.declared.fault.TraceFault.TheVariants.{Fields, Kind, Name, Number}
use Rattle.wrp_base.specs.declared.time.Raw.{Raw}
use Rattle.wrp_base.specs.Lines.{parts_of}
use Rattle.wrp_network.specs.Network.{node_count}
use Rattle.wrp_base.specs.Ranges.{IsFromTo}
use Rattle.wrp_network.specs.declared.network.LinkCfg.{LinkCfg}
use Rattle.wrp_network.specs.declared.network.NodeCfg.{NodeCfg}
use Rattle.wrp_caldb.specs.Name.{is_name, same_name}
use Rattle.wrp_config.specs.Names.{link_named, node_named}
use Rattle.wrp_config.specs.Same.{bare}
use Rattle.wrp_course.specs.declared.event.Event.{Event}
use Rattle.wrp_course.specs.declared.event.Event.TheVariants as events
use Rattle.wrp_course.specs.declared.event.Swap.{Swap}
use Rattle.wrp_course.specs.EventAt.{AreSwaps, IsChange, IsEventOf, IsMove, IsRaw, IsSwap, IsTime, link_count}
use Rattle.wrp_trace.specs.declared.events.kinds.EventKind.{EventKind}
use Rattle.wrp_trace.specs.declared.events.kinds.EventKind.TheVariants as kinds
use Rattle.wrp_trace.specs.Changes.{SaidAt, change_in, change_said, changes_said, drift_said, is_said, move_in, move_said, named_said, nothing_said, said_once, with_drift, with_move}
use Rattle.wrp_trace.specs.EventAt.{IsSaid}
use Rattle.wrp_fields.specs.Fields.{number_at}
use Rattle.wrp_names.specs.Fields.{link_at, node_at}
use Rattle.wrp_fields.specs.Numbers.{kept_in, natural_in, number_in, number_of}
use Rattle.wrp_fields.specs.Reading.{◌>>=◌, field_of, is_plain, number_or_fault}
use Rattle.wrp_trace.specs.EventFields.{before, behind, delay_at, offset_at, span_at}
use Rattle.wrp_trace.specs.EventKinds.{kind_of, may_have}
use Rattle.wrp_trace.specs.Events.{EventsCanCome, arrive_of, counted_of, cut_of, deliver_of, depart_of, down_of, event_of, fields_of_kind, join_of, noise_of, pass_of, pass_with, sample_of, tick_of, up_of}
use Rattle.wrp_trace.specs.Fields.{bits_at, counter_at, u32_at, octets_at, raw_from, u16_at, step_at, time_at}
use Rattle.wrp_trace.specs.Times.{time_of}
use Rattle.wrp_trace.specs.Swaps.{module_name, new_port, own_port, swap_at_port, swap_said, swaps_said, true_delay}
use Rattle.wrp_trace.proofs.ChangeLemmas.{drift_fits, move_fits, nothing_is_said}
use Rattle.wrp_trace.proofs.PassLemmas.{passes}
use Rattle.wrp_trace.proofs.SwapLemmas.{more_swaps}

-- Readings

abbrev pub read_as : {A : Type 0} → A → Result A TraceFault
read_as x = Ok x

pub ok_same : {A : Type 0} (x y : A) → read_as x ≡ read_as y → x ≡ y
ok_same x y e = cc

-- a reading in two parts gave a value in each
pub record Both {A B : Type 0} (read : Result A TraceFault) (next : A → Result B TraceFault) (value : B) : Type 0 where
  pub first : A
  pub is : read ≡ Ok first
  pub rest : next first ≡ Ok value

pub both : {A B : Type 0} (read : Result A TraceFault) (next : A → Result B TraceFault) (value : B) → (read >>= next) ≡ Ok value → Both read next value
both (Ok x) next value e = record { first = x; is = refl; rest = e }
both (Err fault) next value e = absurd (cc)

pub found : {A : Type 0} (fault : TraceFault) (o : Option A) (x : A) → ok_or o fault ≡ Ok x → o ≡ Some x
found fault None x e = absurd (cc)
found fault (Some y) x e = ap (λ z. Some z) (ok_same y x e)

-- Numbers

pub in_range : (low high : Bool) (z w : ℤ) → (if low && high then Some z else None) ≡ Some w → (low ≡ true) × (high ≡ true) × (z ≡ w)
in_range true true z w e = (refl, refl, same_Some z w e)
in_range true false z w e = absurd (let f : None ≡ Some w = e in cc)
in_range false high z w e = absurd (let f : None ≡ Some w = e in cc)

pub kept_range : (least greatest z w : ℤ) → kept_in least greatest z ≡ Some w → (least ≤ℤ w) × (w ≤ℤ greatest)
kept_range least greatest z w e =
    let parts : (int_le least z ≡ true) × (int_le z greatest ≡ true) × (z ≡ w) = in_range (int_le least z) (int_le z greatest) z w e in
    let low : int_le least z ≡ true = parts.0 in
    let high : int_le z greatest ≡ true = parts.1 in
    let from : least ≤ℤ z = grind (arith, ints) in
    let to : z ≤ℤ greatest = grind (arith, ints) in
    (subst (λ x. least ≤ℤ x) parts.2 from, subst (λ x. x ≤ℤ greatest) parts.2 to)

pub number_range : (least greatest : ℤ) (o : Option ℤ) (w : ℤ) → option_and_then (kept_in least greatest) o ≡ Some w → (least ≤ℤ w) × (w ≤ℤ greatest)
number_range least greatest None w e = absurd (cc)
number_range least greatest (Some z) w e = kept_range least greatest z w e

pub number_in_range : (least greatest : ℤ) (text : List ℕ) (w : ℤ) → number_in least greatest text ≡ Some w → (least ≤ℤ w) × (w ≤ℤ greatest)
number_in_range least greatest text w e = number_range least greatest (number_of text) w e

pub natural_with : (least greatest : ℕ) (o : Option ℤ) (n : ℕ) → ((w : ℤ) → o ≡ Some w → (pos least ≤ℤ w) × (w ≤ℤ pos greatest)) → option_map unsigned_abs o ≡ Some n → (least ≤ n) × (n ≤ greatest)
natural_with least greatest None n h e = absurd (cc)
natural_with least greatest (Some w) n h e =
    let range : (pos least ≤ℤ w) × (w ≤ℤ pos greatest) = h w refl in
    let size : unsigned_abs w ≡ n = same_Some (unsigned_abs w) n e in
    (omega (arith, ints, range.0, size), omega (arith, ints, range.0, range.1, size))

pub natural_range : (least greatest : ℕ) (text : List ℕ) (n : ℕ) → natural_in least greatest text ≡ Some n → (least ≤ n) × (n ≤ greatest)
natural_range least greatest text n e = natural_with least greatest (number_in (pos least) (pos greatest) text) n (number_in_range (pos least) (pos greatest) text) e

pub number_read : (least greatest place : ℕ) (fields : List (List ℕ)) (n : ℕ) → number_at least greatest place fields ≡ Ok n → (least ≤ n) × (n ≤ greatest)
number_read least greatest place fields n e = natural_range least greatest (field_of place fields) n (found (Number place) (natural_in least greatest (field_of place fields)) n e)

whole_if : (b : Bool) (n : ℕ) (time : ℤ) → (if b then Some (pos n) else None) ≡ Some time → (b ≡ true) × (pos n ≡ time)
whole_if true n time e = (refl, same_Some (pos n) time e)
whole_if false n time e = absurd (let f : None ≡ Some time = e in cc)

time_with : (o : Option ℕ) (time : ℤ) → ((n : ℕ) → o ≡ Some n → n ≤ 4_951_760_157_141_521_099_596_496_896) → option_and_then (λ n. if n % 1_000 == 0 then Some (pos n) else None) o ≡ Some time → IsTime time
time_with None time h e = absurd (cc)
time_with (Some n) time h e =
    let most : n ≤ 4_951_760_157_141_521_099_596_496_896 = h n refl in
    let parts : ((n % 1_000 == 0) ≡ true) × (pos n ≡ time) = whole_if (n % 1_000 == 0) n time e in
    subst IsTime parts.1
    (record { least = omega (arith, ints); greatest = omega (arith, most); whole = eqb-true (n % 1_000) 0 parts.0 })

time_range : (text : List ℕ) (time : ℤ) → time_of text ≡ Some time → IsTime time
time_range text time e =
    time_with (natural_in 0 4_951_760_157_141_521_099_596_496_896 text) time (λ n is. (natural_range 0 4_951_760_157_141_521_099_596_496_896 text n is).1) e

-- Names

first_if : (b : Bool) (i n : ℕ) → (if b then Some i else None) ≡ Some n → (b ≡ true) × (i ≡ n)
first_if true i n e = (refl, same_Some i n e)
first_if false i n e = absurd (let f : None ≡ Some n = e in cc)

pub within : {X : Type 0} (p : X → Bool) (xs : List X) (n : ℕ) → position p xs ≡ Some n → n < length xs
within p xs n e =
    let parts : (nat_lt (position_or_len p xs) (length xs) ≡ true) × (position_or_len p xs ≡ n) = first_if (nat_lt (position_or_len p xs) (length xs)) (position_or_len p xs) n e in
    subst (λ k. k < length xs) parts.1 (ltb-true (position_or_len p xs) (length xs) parts.0)

pub node_there : (cfg : NetCfg) (place : ℕ) (fields : List (List ℕ)) (n : ℕ) → node_at cfg place fields ≡ Ok n → n < node_count cfg
node_there cfg place fields n e =
    within (λ (node : NodeCfg). same_name node.name.bytes (field_of place fields)) cfg.nodes.items n (found (Name place) (node_named cfg (field_of place fields)) n e)

pub link_there : (cfg : NetCfg) (place : ℕ) (fields : List (List ℕ)) (k : ℕ) → link_at cfg place fields ≡ Ok k → k < link_count cfg
link_there cfg place fields k e =
    within (λ (link : LinkCfg). same_name link.name.bytes (field_of place fields)) cfg.links.items k (found (Name place) (link_named cfg (field_of place fields)) k e)

-- Raw stamps

raw_read : (place : ℕ) (fields : List (List ℕ)) (raw : Raw) → raw_from place fields ≡ Ok raw → IsRaw raw
raw_read place fields raw e =
    let a = both (counter_at place fields) (λ rising. counter_at (place + 1) fields >>= (λ falling. step_at (place + 2) fields >>= (λ tag. Ok (record { rising = rising; falling = falling; tag = tag })))) raw e in
    let b = both (counter_at (place + 1) fields) (λ falling. step_at (place + 2) fields >>= (λ tag. Ok (record { rising = a.first; falling = falling; tag = tag }))) raw a.rest in
    let d = both (step_at (place + 2) fields) (λ tag. Ok (record { rising = a.first; falling = b.first; tag = tag })) raw b.rest in
    subst IsRaw (ok_same (record { rising = a.first; falling = b.first; tag = d.first }) raw d.rest)
    (record {
      rising = number_read 1 9_223_372_036_854_775_807 place fields a.first a.is;
      falling = number_read 1 9_223_372_036_854_775_807 (place + 1) fields b.first b.is;
      tag = (number_read 0 16_383 (place + 2) fields d.first d.is).1;
    })

-- What is said of nodes and links

change_range : (text : List ℕ) (z : ℤ) → change_in text ≡ Some z → IsChange z
change_range text z e =
    let range : (negsuc 9_223_372_036_854_775_806 ≤ℤ z) × (z ≤ℤ pos 9_223_372_036_854_775_807) = number_in_range (negsuc 9_223_372_036_854_775_806) (pos 9_223_372_036_854_775_807) text z e in
    omega (arith, ints, range.0, range.1)

moves_with : (a b : Option ℤ) (move : ℤ × ℤ) → option_and_then (λ ms. option_map (λ sm. (ms, sm)) b) a ≡ Some move → (a ≡ Some move.0) × (b ≡ Some move.1)
moves_with None b move e = absurd (let f : None ≡ Some move = e in cc)
moves_with (Some x) None move e = absurd (let f : None ≡ Some move = e in cc)
moves_with (Some x) (Some y) move e =
    let is : (x, y) ≡ move = same_Some (x, y) move e in
    (ap (λ (m : ℤ × ℤ). Some m.0) is, ap (λ (m : ℤ × ℤ). Some m.1) is)

move_range : (text : List ℕ) (move : ℤ × ℤ) → move_in text ≡ Some move → IsMove move
move_range text move e =
    let parts : (change_in (before 47 text) ≡ Some move.0) × (change_in (behind 47 text) ≡ Some move.1) = moves_with (change_in (before 47 text)) (change_in (behind 47 text)) move e in
    (change_range (before 47 text) move.0 parts.0, change_range (behind 47 text) move.1 parts.1)

once : {X : Type 0} (place : ℕ) (b : Bool) (o : Option X) (x : X) → (if b then Err (Name place) else number_or_fault place o) ≡ Ok x → o ≡ Some x
once place true o x e = absurd (let f : Err (Name place) ≡ Ok x = e in cc)
once place false o x e = found (Number place) o x e

drift_fits_in : (cfg : NetCfg) (place : ℕ) (said more : SaidAt) (n : ℕ) (text : List ℕ) → drift_said place said n text ≡ Ok more → IsSaid cfg said → IsSaid cfg more
drift_fits_in cfg place said more n text e h =
    let it = both (said_once place said.drifts n (change_in text)) (λ drift. Ok (with_drift said n drift)) more e in
    subst (IsSaid cfg) (ok_same (with_drift said n it.first) more it.rest)
    (drift_fits cfg said n it.first (change_range text it.first (once place (is_said said.drifts n) (change_in text) it.first it.is)) h)

move_fits_in : (cfg : NetCfg) (place : ℕ) (said more : SaidAt) (l : ℕ) (text : List ℕ) → move_said place said l text ≡ Ok more → IsSaid cfg said → IsSaid cfg more
move_fits_in cfg place said more l text e h =
    let it = both (said_once place said.moves l (move_in text)) (λ move. Ok (with_move said l move)) more e in
    subst (IsSaid cfg) (ok_same (with_move said l it.first) more it.rest)
    (move_fits cfg said l it.first (move_range text it.first (once place (is_said said.moves l) (move_in text) it.first it.is)) h)

named_fits : (cfg : NetCfg) (place : ℕ) (said more : SaidAt) (n l : Option ℕ) (text : List ℕ) → named_said place said n l text ≡ Ok more → IsSaid cfg said → IsSaid cfg more
named_fits cfg place said more (Some n) l text e h = drift_fits_in cfg place said more n text e h
named_fits cfg place said more None (Some l) text e h = move_fits_in cfg place said more l text e h
named_fits cfg place said more None None text e h = absurd (let f : Err (Name place) ≡ Ok more = e in cc)

changes_fit : (cfg : NetCfg) (place : ℕ) (said more : SaidAt) (texts : List (List ℕ)) → changes_said cfg place said texts ≡ Ok more → IsSaid cfg said → IsSaid cfg more
changes_fit cfg place said more [] e h = subst (IsSaid cfg) (ok_same said more e) h
changes_fit cfg place said more (text ∷ texts) e h =
    let it = both (change_said cfg place said text) (λ next. changes_said cfg (place + 1) next texts) more e in
    changes_fit cfg (place + 1) it.first more texts it.rest
    (named_fits cfg place said it.first (node_named cfg (before 61 text)) (link_named cfg (before 61 text)) (behind 61 text) it.is h)

-- Modules that are put in place

name_if : (b : Bool) (text name : List ℕ) → (if b then Some text else None) ≡ Some name → (b ≡ true) × (text ≡ name)
name_if true text name e = (refl, same_Some text name e)
name_if false text name e = absurd (let f : None ≡ Some name = e in cc)

module_is : (place : ℕ) (text name : List ℕ) → module_name place text ≡ Ok name → is_name name ≡ true
module_is place text name e =
    let parts : (is_name text ≡ true) × (text ≡ name) = name_if (is_name text) text name (found (Name place) (if is_name text then Some text else None) name e) in
    subst (λ t. is_name t ≡ true) parts.1 parts.0

delay_is : (place : ℕ) (text : List ℕ) (n : ℕ) → true_delay place text ≡ Ok n → n ≤ 1_000_000_000_000
delay_is place text n e = (natural_range 0 1_000_000_000_000 text n (found (Number place) (natural_in 0 1_000_000_000_000 text) n e)).1

swap_at_is : (place port : ℕ) (text : List ℕ) (swap : Swap) → port ≤ 65_535 → swap_at_port place port text ≡ Ok swap → IsSwap swap × (port ≡ swap.port)
swap_at_is place port text swap small e =
    let made : List ℕ → ℕ → ℕ → Swap = λ name tx rx. record { port = port; name = bare name; tx = tx; rx = rx } in
    let a = both (module_name place (before 58 text)) (λ name. true_delay place (before 58 (behind 58 text)) >>= (λ tx. true_delay place (behind 58 (behind 58 text)) >>= (λ rx. Ok (made name tx rx)))) swap e in
    let b = both (true_delay place (before 58 (behind 58 text))) (λ tx. true_delay place (behind 58 (behind 58 text)) >>= (λ rx. Ok (made a.first tx rx))) swap a.rest in
    let d = both (true_delay place (behind 58 (behind 58 text))) (λ rx. Ok (made a.first b.first rx)) swap b.rest in
    let is : made a.first b.first d.first ≡ swap = ok_same (made a.first b.first d.first) swap d.rest in (
      subst IsSwap is
          (record {
            port = small;
            name = module_is place (before 58 text) a.first a.is;
            tx = delay_is place (before 58 (behind 58 text)) b.first b.is;
            rx = delay_is place (behind 58 (behind 58 text)) d.first d.is;
          }),
      ap (λ (x : Swap). x.port) is,
    )

port_if : (b : Bool) (port other : ℕ) → (if b then None else Some port) ≡ Some other → (b ≡ false) × (port ≡ other)
port_if true port other e = absurd (let f : None ≡ Some other = e in cc)
port_if false port other e = (refl, same_Some port other e)

own_is : (place : ℕ) (swaps : List Swap) (port other : ℕ) → own_port place swaps port ≡ Ok other → (list_any (λ swap. swap.port == other) swaps ≡ false) × (port ≡ other)
own_is place swaps port other e =
    let parts : (list_any (λ swap. swap.port == port) swaps ≡ false) × (port ≡ other) =
    port_if (list_any (λ swap. swap.port == port) swaps) port other (found (Name place) (if list_any (λ swap. swap.port == port) swaps then None else Some port) other e) in
    (subst (λ p. list_any (λ swap. swap.port == p) swaps ≡ false) parts.1 parts.0, parts.1)

new_is : (place : ℕ) (swaps : List Swap) (text : List ℕ) (port : ℕ) → new_port place swaps text ≡ Ok port → (port ≤ 65_535) × (list_any (λ swap. swap.port == port) swaps ≡ false)
new_is place swaps text port e =
    let it = both (number_or_fault place (natural_in 0 65_535 text)) (λ p. own_port place swaps p) port e in
    let own = own_is place swaps it.first port it.rest in
    (subst (λ p. p ≤ 65_535) own.1 (natural_range 0 65_535 text it.first (found (Number place) (natural_in 0 65_535 text) it.first it.is)).1, own.0)

swap_fits : (place : ℕ) (swaps : List Swap) (text : List ℕ) (swap : Swap) → swap_said place swaps text ≡ Ok swap → IsSwap swap × (list_any (λ other. other.port == swap.port) swaps ≡ false)
swap_fits place swaps text swap e =
    let it = both (new_port place swaps (before 58 text)) (λ port. swap_at_port place port (behind 58 text)) swap e in
    let new = new_is place swaps (before 58 text) it.first it.is in
    let at = swap_at_is place it.first (behind 58 text) swap new.0 it.rest in
    (at.0, subst (λ p. list_any (λ other. other.port == p) swaps ≡ false) at.1 new.1)

swaps_fit : (place : ℕ) (swaps all : List Swap) (texts : List (List ℕ)) → swaps_said place swaps texts ≡ Ok all → AreSwaps swaps → AreSwaps all
swaps_fit place swaps all [] e h = subst AreSwaps (ok_same swaps all e) h
swaps_fit place swaps all (text ∷ texts) e h =
    let it = both (swap_said place swaps text) (λ swap. swaps_said (place + 1) (swaps ++ swap ∷ []) texts) all e in
    let fits = swap_fits place swaps text it.first it.is in
    swaps_fit (place + 1) (swaps ++ it.first ∷ []) all texts it.rest (more_swaps swaps it.first h fits.0 fits.1)

-- Each kind

pub pass_fits : (cfg : NetCfg) (fields : List (List ℕ)) (e : Event) → pass_of cfg fields ≡ Ok e → IsEventOf cfg e
pass_fits cfg fields e h =
    let a = both (span_at 2 fields) (λ dt. changes_said cfg 3 (nothing_said cfg) (drop 2 fields) >>= (λ said. Ok (pass_with dt said))) e h in
    let b = both (changes_said cfg 3 (nothing_said cfg) (drop 2 fields)) (λ said. Ok (pass_with a.first said)) e a.rest in
    subst (IsEventOf cfg) (ok_same (pass_with a.first b.first) e b.rest)
    (passes cfg a.first b.first
    (number_in_range (pos 1) (pos 9_223_372_036_854_775_807) (field_of 2 fields) a.first (found (Number 2) (number_in (pos 1) (pos 9_223_372_036_854_775_807) (field_of 2 fields)) a.first a.is))
    (changes_fit cfg 3 (nothing_said cfg) b.first (drop 2 fields) b.is (nothing_is_said cfg)))

tick_fits : (cfg : NetCfg) (fields : List (List ℕ)) (e : Event) → tick_of cfg fields ≡ Ok e → IsEventOf cfg e
tick_fits cfg fields e h =
    let a = both (node_at cfg 2 fields) (λ node. Ok (events.Tick node)) e h in
    subst (IsEventOf cfg) (ok_same (events.Tick a.first) e a.rest) (node_there cfg 2 fields a.first a.is)

sample_fits : (cfg : NetCfg) (fields : List (List ℕ)) (e : Event) → sample_of cfg fields ≡ Ok e → IsEventOf cfg e
sample_fits cfg fields e h =
    let a = both (node_at cfg 2 fields) (λ node. step_at 3 fields >>= (λ base. bits_at 4 fields >>= (λ bits. Ok (events.Sample node base bits)))) e h in
    let b = both (step_at 3 fields) (λ base. bits_at 4 fields >>= (λ bits. Ok (events.Sample a.first base bits))) e a.rest in
    let d = both (bits_at 4 fields) (λ bits. Ok (events.Sample a.first b.first bits)) e b.rest in
    subst (IsEventOf cfg) (ok_same (events.Sample a.first b.first d.first) e d.rest)
    (node_there cfg 2 fields a.first a.is, (number_read 0 16_383 3 fields b.first b.is).1)

depart_fits : (cfg : NetCfg) (fields : List (List ℕ)) (e : Event) → depart_of cfg fields ≡ Ok e → IsEventOf cfg e
depart_fits cfg fields e h =
    let a = both (node_at cfg 2 fields) (λ node. u16_at 3 fields >>= (λ port. time_at 4 fields >>= (λ stamp. Ok (events.Depart node port stamp)))) e h in
    let b = both (u16_at 3 fields) (λ port. time_at 4 fields >>= (λ stamp. Ok (events.Depart a.first port stamp))) e a.rest in
    let d = both (time_at 4 fields) (λ stamp. Ok (events.Depart a.first b.first stamp)) e b.rest in
    subst (IsEventOf cfg) (ok_same (events.Depart a.first b.first d.first) e d.rest)
    (node_there cfg 2 fields a.first a.is, time_range (field_of 4 fields) d.first (found (Number 4) (time_of (field_of 4 fields)) d.first d.is))

arrive_fits : (cfg : NetCfg) (fields : List (List ℕ)) (e : Event) → arrive_of fields ≡ Ok e → IsEventOf cfg e
arrive_fits cfg fields e h =
    let a = both (u32_at 2 fields) (λ frame. raw_from 3 fields >>= (λ raw. Ok (events.Arrive frame raw))) e h in
    let b = both (raw_from 3 fields) (λ raw. Ok (events.Arrive a.first raw)) e a.rest in
    subst (IsEventOf cfg) (ok_same (events.Arrive a.first b.first) e b.rest) (raw_read 3 fields b.first b.is)

deliver_fits : (cfg : NetCfg) (fields : List (List ℕ)) (e : Event) → deliver_of fields ≡ Ok e → IsEventOf cfg e
deliver_fits cfg fields e h =
    let a = both (u32_at 2 fields) (λ frame. Ok (events.Deliver frame)) e h in
    subst (IsEventOf cfg) (ok_same (events.Deliver a.first) e a.rest) tt

noise_fits : (cfg : NetCfg) (fields : List (List ℕ)) (e : Event) → noise_of cfg fields ≡ Ok e → IsEventOf cfg e
noise_fits cfg fields e h =
    let a = both (node_at cfg 2 fields) (λ node. u16_at 3 fields >>= (λ port. octets_at 4 fields >>= (λ octets. raw_from 5 fields >>= (λ raw. Ok (events.Noise node port octets raw))))) e h in
    let b = both (u16_at 3 fields) (λ port. octets_at 4 fields >>= (λ octets. raw_from 5 fields >>= (λ raw. Ok (events.Noise a.first port octets raw)))) e a.rest in
    let d = both (octets_at 4 fields) (λ octets. raw_from 5 fields >>= (λ raw. Ok (events.Noise a.first b.first octets raw))) e b.rest in
    let f = both (raw_from 5 fields) (λ raw. Ok (events.Noise a.first b.first d.first raw)) e d.rest in
    subst (IsEventOf cfg) (ok_same (events.Noise a.first b.first d.first f.first) e f.rest)
    (node_there cfg 2 fields a.first a.is, raw_read 5 fields f.first f.is)

down_fits : (cfg : NetCfg) (fields : List (List ℕ)) (e : Event) → down_of cfg fields ≡ Ok e → IsEventOf cfg e
down_fits cfg fields e h =
    let a = both (node_at cfg 2 fields) (λ node. Ok (events.Down node)) e h in
    subst (IsEventOf cfg) (ok_same (events.Down a.first) e a.rest) (node_there cfg 2 fields a.first a.is)

offset_range : (off : ℤ) → (negsuc 1_237_940_039_285_380_274_899_124_223 ≤ℤ off) × (off ≤ℤ pos 1_237_940_039_285_380_274_899_124_224) → unsigned_abs off ≤ 2 ^ 90
offset_range off range = omega (arith, ints, range.0, range.1)

no_swaps : AreSwaps []
no_swaps = record { each = tt; apart = λ i j d below within_none. absurd (omega (arith, within_none)) }

up_fits : (cfg : NetCfg) (fields : List (List ℕ)) (e : Event) → up_of cfg fields ≡ Ok e → IsEventOf cfg e
up_fits cfg fields e h =
    let made : ℕ → ℤ → List Swap → Event = λ node off swaps. events.Up node off (record { items = swaps }) in
    let a = both (node_at cfg 2 fields) (λ node. offset_at 3 fields >>= (λ off. swaps_said 4 [] (drop 3 fields) >>= (λ swaps. Ok (made node off swaps)))) e h in
    let b = both (offset_at 3 fields) (λ off. swaps_said 4 [] (drop 3 fields) >>= (λ swaps. Ok (made a.first off swaps))) e a.rest in
    let d = both (swaps_said 4 [] (drop 3 fields)) (λ swaps. Ok (made a.first b.first swaps)) e b.rest in
    subst (IsEventOf cfg) (ok_same (made a.first b.first d.first) e d.rest) (
      node_there cfg 2 fields a.first a.is,
      offset_range b.first
          (number_in_range (negsuc 1_237_940_039_285_380_274_899_124_223) (pos 1_237_940_039_285_380_274_899_124_224) (field_of 3 fields) b.first
          (found (Number 3) (number_in (negsuc 1_237_940_039_285_380_274_899_124_223) (pos 1_237_940_039_285_380_274_899_124_224) (field_of 3 fields)) b.first b.is)),
      swaps_fit 4 [] d.first (drop 3 fields) d.is no_swaps,
    )

cut_fits : (cfg : NetCfg) (fields : List (List ℕ)) (e : Event) → cut_of cfg fields ≡ Ok e → IsEventOf cfg e
cut_fits cfg fields e h =
    let a = both (link_at cfg 2 fields) (λ link. Ok (events.Cut link)) e h in
    subst (IsEventOf cfg) (ok_same (events.Cut a.first) e a.rest) (link_there cfg 2 fields a.first a.is)

delay_range : (place : ℕ) (fields : List (List ℕ)) (z : ℤ) → delay_at place fields ≡ Ok z → IsFromTo 0 9_223_372_036_854_775_807 z
delay_range place fields z e =
    number_in_range (pos 0) (pos 9_223_372_036_854_775_807) (field_of place fields) z (found (Number place) (number_in (pos 0) (pos 9_223_372_036_854_775_807) (field_of place fields)) z e)

join_fits : (cfg : NetCfg) (fields : List (List ℕ)) (e : Event) → join_of cfg fields ≡ Ok e → IsEventOf cfg e
join_fits cfg fields e h =
    let a = both (link_at cfg 2 fields) (λ link. delay_at 3 fields >>= (λ ms. delay_at 4 fields >>= (λ sm. Ok (events.Join link ms sm)))) e h in
    let b = both (delay_at 3 fields) (λ ms. delay_at 4 fields >>= (λ sm. Ok (events.Join a.first ms sm))) e a.rest in
    let d = both (delay_at 4 fields) (λ sm. Ok (events.Join a.first b.first sm)) e b.rest in
    subst (IsEventOf cfg) (ok_same (events.Join a.first b.first d.first) e d.rest)
    (link_there cfg 2 fields a.first a.is, delay_range 3 fields b.first b.is, delay_range 4 fields d.first d.is)

kind_fits : (cfg : NetCfg) (kind : EventKind) (fields : List (List ℕ)) (e : Event) → fields_of_kind cfg kind fields ≡ Ok e → IsEventOf cfg e
kind_fits cfg kinds.Pass fields e h = pass_fits cfg fields e h
kind_fits cfg kinds.Tick fields e h = tick_fits cfg fields e h
kind_fits cfg kinds.Sample fields e h = sample_fits cfg fields e h
kind_fits cfg kinds.Depart fields e h = depart_fits cfg fields e h
kind_fits cfg kinds.Arrive fields e h = arrive_fits cfg fields e h
kind_fits cfg kinds.Deliver fields e h = deliver_fits cfg fields e h
kind_fits cfg kinds.Noise fields e h = noise_fits cfg fields e h
kind_fits cfg kinds.Down fields e h = down_fits cfg fields e h
kind_fits cfg kinds.Up fields e h = up_fits cfg fields e h
kind_fits cfg kinds.Cut fields e h = cut_fits cfg fields e h
kind_fits cfg kinds.Join fields e h = join_fits cfg fields e h

-- Lines

so : (b : Bool) (fault : TraceFault) (read : Result Event TraceFault) (e : Event) → (if b then read else Err fault) ≡ Ok e → read ≡ Ok e
so true fault read e h = h
so false fault read e h = absurd (let f : Err fault ≡ Ok e = h in cc)

counted_fits : (cfg : NetCfg) (fields : List (List ℕ)) (o : Option EventKind) (e : Event) → counted_of cfg fields o ≡ Ok e → IsEventOf cfg e
counted_fits cfg fields None e h = absurd (let f : Err Kind ≡ Ok e = h in cc)
counted_fits cfg fields (Some kind) e h = kind_fits cfg kind fields e (so (may_have kind (length fields)) Fields (fields_of_kind cfg kind fields) e h)

pub events_can_come : EventsCanCome
events_can_come cfg line e h =
    counted_fits cfg (parts_of line) (kind_of (field_of 1 (parts_of line))) e (so (is_plain line) Fields (event_of cfg (parts_of line)) e h)
