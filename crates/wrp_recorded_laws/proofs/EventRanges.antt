-- The numbers of an event that a line says are in the ranges of its line.
use Rattle.std.proofs.Common.{◌≡◌, ap, subst, ℕ, ℤ, pos, negsuc, ◌&&◌, ◌%◌, ◌==◌, Bool, true, false, if◌then◌else◌, refl, List, length, Option, None, Some, Result, Ok, Err, ◌≤◌, ◌≤ℤ◌, ◌<◌, ◌+◌, ◌^◌, drop, [], arith}
use Rattle.std.specs.Prelude.{nat_le, option_map, option_and_then, ok_or, unsigned_abs}
use Rattle.std.specs.Result.{result_ok}
use Rattle.std.proofs.lemmas.Bool.{leb-true, eqb-true}
use Rattle.std.proofs.lemmas.Int.{ints}
use Rattle.arrayvec.specs.ArrayVec.{ArrayVec}
use Rattle.byteorder.specs.Endian.{big_number}
use Rattle.byteorder.specs.Numbers.{big_from-lt}
use Rattle.hex.specs.Hex.{decode_of}
use Rattle.hex.specs.declared.error.FromHexError.{FromHexError}
use Rattle.hex.proofs.HexLemmas.{decode_of-ok}
use Rattle.std.proofs.lemmas.Option.{same_Some}
use Rattle.wrp_network.specs.declared.configuration.NetCfg.{NetCfg}
use Rattle.wrp_base.specs.declared.fault.TraceFault.{TraceFault}
use Rattle.wrp_base.specs.declared.fault.TraceFault.TheVariants.{Fields}
use Rattle.wrp_base.specs.declared.time.Raw.{Raw}
use Rattle.wrp_base.specs.Lines.{parts_of}
use Rattle.wrp_trace.specs.Changes.{changes_said, nothing_said}
use Rattle.wrp_trace.specs.declared.events.kinds.EventKind.{EventKind}
use Rattle.wrp_trace.specs.declared.events.kinds.EventKind.TheVariants as kinds
use Rattle.wrp_trace.specs.Digits.{few, octets_of, frame_of, bits_of}
use Rattle.wrp_names.specs.Fields.{node_at, link_at}
use Rattle.wrp_trace.specs.EventFields.{span_at, delay_at, offset_at}
use Rattle.wrp_trace.specs.EventKinds.{kind_of, may_have}
use Rattle.wrp_trace.specs.Events.{arrive_of, counted_of, depart_of, event_of, event_read, fields_of_kind, join_of, noise_of, pass_of, pass_with, sample_of, up_of}
use Rattle.wrp_fields.specs.Fields.{number_at}
use Rattle.wrp_trace.specs.Fields.{bits_at, counter_at, u32_at, octets_at, raw_from, u16_at, step_at, time_at}
use Rattle.wrp_fields.specs.Numbers.{kept_in, natural_in, number_of}
use Rattle.wrp_trace.specs.Times.{time_of}
use Rattle.wrp_fields.specs.Reading.{field_of, is_plain, ◌>>=◌}
use Rattle.wrp_trace.specs.Swaps.{swaps_said}
use Rattle.wrp_course.specs.declared.event.Event.{Event}
use Rattle.wrp_course.specs.declared.event.Event.TheVariants as events
use Rattle.wrp_course.specs.declared.event.Swap.{Swap}
use Rattle.wrp_course.specs.EventAt.{IsRaw, IsTime}
use Rattle.wrp_recorded_laws.specs.Ranges.{FitsFrame, IsRanged}

-- Readings that gave a value

abbrev done : {A : Type 0} → A → Result A TraceFault
done x = Ok x

ok_same : {A : Type 0} (x y : A) → done x ≡ done y → x ≡ y
ok_same x y e = cc

pub record Bound {A B : Type 0} (read : Result A TraceFault) (next : A → Result B TraceFault) (y : B) : Type 0 where
  pub value : A
  pub is : read ≡ Ok value
  pub rest : next value ≡ Ok y

bound : {A B : Type 0} (read : Result A TraceFault) (next : A → Result B TraceFault) (y : B) → (read >>= next) ≡ Ok y → Bound read next y
bound (Ok x) next y e = record { value = x; is = refl; rest = e }
bound (Err fault) next y e = absurd (cc)

read_some : {A : Type 0} (o : Option A) (fault : TraceFault) (x : A) → ok_or o fault ≡ Ok x → o ≡ Some x
read_some None fault x e = absurd (cc)
read_some (Some y) fault x e = ap (λ z. Some z) (ok_same y x e)

-- Numbers

kept_by : (a b : Bool) (least greatest m n : ℕ) → nat_le least m ≡ a → nat_le m greatest ≡ b → option_map unsigned_abs (if a && b then Some (pos m) else None) ≡ Some n → (least ≤ n) × (n ≤ greatest)
kept_by true true least greatest m n p q e =
    let same : m ≡ n = same_Some m n e in
    let low : least ≤ m = leb-true least m p in
    let high : m ≤ greatest = leb-true m greatest q in
    (omega (arith, same, low), omega (arith, same, high))
kept_by true false least greatest m n p q e = absurd (cc)
kept_by false b least greatest m n p q e = absurd (cc)

natural_by : (least greatest n : ℕ) (o : Option ℤ) → option_map unsigned_abs (option_and_then (kept_in (pos least) (pos greatest)) o) ≡ Some n → (least ≤ n) × (n ≤ greatest)
natural_by least greatest n None e = absurd (cc)
natural_by least greatest n (Some (pos m)) e = kept_by (nat_le least m) (nat_le m greatest) least greatest m n refl refl e
natural_by least greatest n (Some (negsuc m)) e = absurd (cc)

natural_range : (least greatest n : ℕ) (text : List ℕ) → natural_in least greatest text ≡ Some n → (least ≤ n) × (n ≤ greatest)
natural_range least greatest n text e = natural_by least greatest n (number_of text) e

number_range : (least greatest place n : ℕ) (fields : List (List ℕ)) → number_at least greatest place fields ≡ Ok n → (least ≤ n) × (n ≤ greatest)
number_range least greatest place n fields e =
    natural_range least greatest n (field_of place fields) (read_some (natural_in least greatest (field_of place fields)) _ n e)

whole_by : (b : Bool) (n : ℕ) (z : ℤ) → (n % 1_000 == 0) ≡ b → n ≤ 2 ^ 92 → (if b then Some (pos n) else None) ≡ Some z → IsTime z
whole_by true n z whole most e =
    let least : pos 0 ≤ℤ pos n = omega (arith, ints) in
    subst IsTime (same_Some (pos n) z e) (record { least = least; greatest = most; whole = eqb-true (n % 1_000) 0 whole })
whole_by false n z whole most e = absurd (cc)

time_by : (z : ℤ) (text : List ℕ) (o : Option ℕ) → natural_in 0 4_951_760_157_141_521_099_596_496_896 text ≡ o → option_and_then (λ n. if n % 1_000 == 0 then Some (pos n) else None) o ≡ Some z → IsTime z
time_by z text None is e = absurd (cc)
time_by z text (Some n) is e =
    let high = (natural_range 0 4_951_760_157_141_521_099_596_496_896 n text is).1 in
    whole_by (n % 1_000 == 0) n z refl (omega (arith, high)) e

time_range : (place : ℕ) (z : ℤ) (fields : List (List ℕ)) → time_at place fields ≡ Ok z → IsTime z
time_range place z fields e =
    time_by z (field_of place fields) (natural_in 0 4_951_760_157_141_521_099_596_496_896 (field_of place fields)) refl
    (read_some (time_of (field_of place fields)) _ z e)

-- a raw stamp
abbrev raw_with : (rising falling tag : ℕ) → Raw
raw_with rising falling tag = record { rising = rising; falling = falling; tag = tag }

raw_range : (place : ℕ) (raw : Raw) (fields : List (List ℕ)) → raw_from place fields ≡ Ok raw → IsRaw raw
raw_range place raw fields e =
    let a = bound (counter_at place fields) (λ rising. counter_at (place + 1) fields >>= (λ falling. step_at (place + 2) fields >>= (λ tag. Ok (raw_with rising falling tag)))) raw e in
    let b = bound (counter_at (place + 1) fields) (λ falling. step_at (place + 2) fields >>= (λ tag. Ok (raw_with a.value falling tag))) raw a.rest in
    let c = bound (step_at (place + 2) fields) (λ tag. Ok (raw_with a.value b.value tag)) raw b.rest in
    subst IsRaw (ok_same (raw_with a.value b.value c.value) raw c.rest) (record {
      rising = number_range 1 9_223_372_036_854_775_807 place a.value fields a.is;
      falling = number_range 1 9_223_372_036_854_775_807 (place + 1) b.value fields b.is;
      tag = (number_range 0 16_383 (place + 2) c.value fields c.is).1;
    })

-- Octets

few_by : (b : Bool) (octets o : List ℕ) → nat_le (length octets) 256 ≡ b → (if b then Some octets else None) ≡ Some o → (octets ≡ o) × (length octets ≤ 256)
few_by true octets o is e = (same_Some octets o e, leb-true (length octets) 256 is)
few_by false octets o is e = absurd (cc)

octets_by : (text : List ℕ) (read : Result (List ℕ) FromHexError) (octets : List ℕ) → decode_of text ≡ read → option_and_then few (result_ok read) ≡ Some octets → FitsFrame octets
octets_by text (Err fault) octets is e = absurd (cc)
octets_by text (Ok found) octets is e =
    let it = few_by (nat_le (length found) 256) found octets refl e in
    subst FitsFrame it.0 (record { each = (decode_of-ok text found is).3; few = it.1 })

octets_fit : (text octets : List ℕ) → octets_of text ≡ Some octets → FitsFrame octets
octets_fit text octets e = octets_by text (decode_of text) octets refl e

frame_by : (text : List ℕ) (o : Option (List ℕ)) (frame : ArrayVec ℕ) → octets_of text ≡ o → option_map (λ (octets : List ℕ). record { items = octets }) o ≡ Some frame → FitsFrame frame.items
frame_by text None frame is e = absurd (cc)
frame_by text (Some octets) frame is e =
    subst (λ (f : ArrayVec ℕ). FitsFrame f.items) (same_Some (record { items = octets }) frame e) (octets_fit text octets is)

frame_fits : (place : ℕ) (frame : ArrayVec ℕ) (fields : List (List ℕ)) → octets_at place fields ≡ Ok frame → FitsFrame frame.items
frame_fits place frame fields e =
    frame_by (field_of place fields) (octets_of (field_of place fields)) frame refl (read_some (frame_of (field_of place fields)) _ frame e)

eight_by : (b : Bool) (octets : List ℕ) (bits : ℕ) → FitsFrame octets → (if b then Some (big_number 8 octets) else None) ≡ Some bits → bits < 2 ^ 64
eight_by true octets bits fits e =
    let same : big_number 8 octets ≡ bits = same_Some (big_number 8 octets) bits e in
    let small : big_number 8 octets < 256 ^ 8 = big_from-lt 0 8 octets fits.each in
    subst (λ n. n < 2 ^ 64) same small
eight_by false octets bits fits e = absurd (cc)

bits_by : (text : List ℕ) (o : Option (List ℕ)) (bits : ℕ) → octets_of text ≡ o → option_and_then (λ octets. if length octets == 8 then Some (big_number 8 octets) else None) o ≡ Some bits → bits < 2 ^ 64
bits_by text None bits is e = absurd (cc)
bits_by text (Some octets) bits is e = eight_by (length octets == 8) octets bits (octets_fit text octets is) e

bits_range : (place bits : ℕ) (fields : List (List ℕ)) → bits_at place fields ≡ Ok bits → bits < 2 ^ 64
bits_range place bits fields e =
    bits_by (field_of place fields) (octets_of (field_of place fields)) bits refl (read_some (bits_of (field_of place fields)) _ bits e)

-- Events

sample_ranged : (cfg : NetCfg) (fields : List (List ℕ)) (e : Event) → sample_of cfg fields ≡ Ok e → IsRanged e
sample_ranged cfg fields e is =
    let a = bound (node_at cfg 2 fields) (λ node. step_at 3 fields >>= (λ base. bits_at 4 fields >>= (λ bits. Ok (events.Sample node base bits)))) e is in
    let b = bound (step_at 3 fields) (λ base. bits_at 4 fields >>= (λ bits. Ok (events.Sample a.value base bits))) e a.rest in
    let c = bound (bits_at 4 fields) (λ bits. Ok (events.Sample a.value b.value bits)) e b.rest in
    subst IsRanged (ok_same (events.Sample a.value b.value c.value) e c.rest) ((number_range 0 16_383 3 b.value fields b.is).1, bits_range 4 c.value fields c.is)

depart_ranged : (cfg : NetCfg) (fields : List (List ℕ)) (e : Event) → depart_of cfg fields ≡ Ok e → IsRanged e
depart_ranged cfg fields e is =
    let a = bound (node_at cfg 2 fields) (λ node. u16_at 3 fields >>= (λ port. time_at 4 fields >>= (λ stamp. Ok (events.Depart node port stamp)))) e is in
    let b = bound (u16_at 3 fields) (λ port. time_at 4 fields >>= (λ stamp. Ok (events.Depart a.value port stamp))) e a.rest in
    let c = bound (time_at 4 fields) (λ stamp. Ok (events.Depart a.value b.value stamp)) e b.rest in
    subst IsRanged (ok_same (events.Depart a.value b.value c.value) e c.rest) (time_range 4 c.value fields c.is)

arrive_ranged : (fields : List (List ℕ)) (e : Event) → arrive_of fields ≡ Ok e → IsRanged e
arrive_ranged fields e is =
    let a = bound (u32_at 2 fields) (λ frame. raw_from 3 fields >>= (λ raw. Ok (events.Arrive frame raw))) e is in
    let b = bound (raw_from 3 fields) (λ raw. Ok (events.Arrive a.value raw)) e a.rest in
    subst IsRanged (ok_same (events.Arrive a.value b.value) e b.rest) (raw_range 3 b.value fields b.is)

noise_ranged : (cfg : NetCfg) (fields : List (List ℕ)) (e : Event) → noise_of cfg fields ≡ Ok e → IsRanged e
noise_ranged cfg fields e is =
    let a = bound (node_at cfg 2 fields) (λ node. u16_at 3 fields >>= (λ port. octets_at 4 fields >>= (λ octets. raw_from 5 fields >>= (λ raw. Ok (events.Noise node port octets raw))))) e is in
    let b = bound (u16_at 3 fields) (λ port. octets_at 4 fields >>= (λ octets. raw_from 5 fields >>= (λ raw. Ok (events.Noise a.value port octets raw)))) e a.rest in
    let c = bound (octets_at 4 fields) (λ octets. raw_from 5 fields >>= (λ raw. Ok (events.Noise a.value b.value octets raw))) e b.rest in
    let d = bound (raw_from 5 fields) (λ raw. Ok (events.Noise a.value b.value c.value raw)) e c.rest in
    subst IsRanged (ok_same (events.Noise a.value b.value c.value d.value) e d.rest) (frame_fits 4 c.value fields c.is, raw_range 5 d.value fields d.is)

-- the other kinds hand on no numbers that have a range
pass_ranged : (cfg : NetCfg) (fields : List (List ℕ)) (e : Event) → pass_of cfg fields ≡ Ok e → IsRanged e
pass_ranged cfg fields e is =
    let a = bound (span_at 2 fields) (λ dt. changes_said cfg 3 (nothing_said cfg) (drop 2 fields) >>= (λ said. Ok (pass_with dt said))) e is in
    let b = bound (changes_said cfg 3 (nothing_said cfg) (drop 2 fields)) (λ said. Ok (pass_with a.value said)) e a.rest in
    subst IsRanged (ok_same (pass_with a.value b.value) e b.rest) tt

one_ranged : {A : Type 0} (read : Result A TraceFault) (made : A → Event) (e : Event) → ((x : A) → IsRanged (made x)) → (read >>= (λ x. Ok (made x))) ≡ Ok e → IsRanged e
one_ranged read made e all is =
    let a = bound read (λ x. Ok (made x)) e is in
    subst IsRanged (ok_same (made a.value) e a.rest) (all a.value)

abbrev up_with : ℕ → ℤ → List Swap → Event
up_with n off swaps = events.Up n off (record { items = swaps })

up_ranged : (cfg : NetCfg) (fields : List (List ℕ)) (e : Event) → up_of cfg fields ≡ Ok e → IsRanged e
up_ranged cfg fields e is =
    let a = bound (node_at cfg 2 fields) (λ node. offset_at 3 fields >>= (λ off. swaps_said 4 [] (drop 3 fields) >>= (λ swaps. Ok (up_with node off swaps)))) e is in
    let b = bound (offset_at 3 fields) (λ off. swaps_said 4 [] (drop 3 fields) >>= (λ swaps. Ok (up_with a.value off swaps))) e a.rest in
    one_ranged (swaps_said 4 [] (drop 3 fields)) (λ swaps. up_with a.value b.value swaps) e (λ swaps. tt) b.rest

join_ranged : (cfg : NetCfg) (fields : List (List ℕ)) (e : Event) → join_of cfg fields ≡ Ok e → IsRanged e
join_ranged cfg fields e is =
    let a = bound (link_at cfg 2 fields) (λ link. delay_at 3 fields >>= (λ ms. delay_at 4 fields >>= (λ sm. Ok (events.Join link ms sm)))) e is in
    let b = bound (delay_at 3 fields) (λ ms. delay_at 4 fields >>= (λ sm. Ok (events.Join a.value ms sm))) e a.rest in
    one_ranged (delay_at 4 fields) (λ sm. events.Join a.value b.value sm) e (λ sm. tt) b.rest

kind_ranged : (cfg : NetCfg) (kind : EventKind) (fields : List (List ℕ)) (e : Event) → fields_of_kind cfg kind fields ≡ Ok e → IsRanged e
kind_ranged cfg kinds.Pass fields e is = pass_ranged cfg fields e is
kind_ranged cfg kinds.Tick fields e is = one_ranged (node_at cfg 2 fields) (λ n. events.Tick n) e (λ n. tt) is
kind_ranged cfg kinds.Sample fields e is = sample_ranged cfg fields e is
kind_ranged cfg kinds.Depart fields e is = depart_ranged cfg fields e is
kind_ranged cfg kinds.Arrive fields e is = arrive_ranged fields e is
kind_ranged cfg kinds.Deliver fields e is = one_ranged (u32_at 2 fields) (λ i. events.Deliver i) e (λ i. tt) is
kind_ranged cfg kinds.Noise fields e is = noise_ranged cfg fields e is
kind_ranged cfg kinds.Down fields e is = one_ranged (node_at cfg 2 fields) (λ n. events.Down n) e (λ n. tt) is
kind_ranged cfg kinds.Up fields e is = up_ranged cfg fields e is
kind_ranged cfg kinds.Cut fields e is = one_ranged (link_at cfg 2 fields) (λ k. events.Cut k) e (λ k. tt) is
kind_ranged cfg kinds.Join fields e is = join_ranged cfg fields e is

where_true : (b : Bool) (read : Result Event TraceFault) (e : Event) → (if b then read else Err Fields) ≡ Ok e → read ≡ Ok e
where_true true read e is = is
where_true false read e is = absurd (cc)

counted_ranged : (cfg : NetCfg) (fields : List (List ℕ)) (kind : Option EventKind) (e : Event) → counted_of cfg fields kind ≡ Ok e → IsRanged e
counted_ranged cfg fields None e is = absurd (cc)
counted_ranged cfg fields (Some kind) e is = kind_ranged cfg kind fields e (where_true (may_have kind (length fields)) (fields_of_kind cfg kind fields) e is)

pub event_ranged : (cfg : NetCfg) (line : List ℕ) (e : Event) → event_read cfg line ≡ Ok e → IsRanged e
event_ranged cfg line e is =
    counted_ranged cfg (parts_of line) (kind_of (field_of 1 (parts_of line))) e (where_true (is_plain line) (event_of cfg (parts_of line)) e is)
