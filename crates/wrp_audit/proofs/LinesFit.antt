-- The numbers of an event that a line says fit the types that hold them.
use Rattle.std.proofs.Common.{◌≡◌, refl, ap, subst, ℕ, ℤ, ◌+◌, ◌-◌, ◌<◌, ◌≤◌, ◌^◌, ◌==◌, ◌&&◌, true, if◌then◌else◌, List, [], ◌∷◌, ◌++◌, length, drop, Option, None, Some, Result, Ok, Err, arith}
use Rattle.std.specs.Prelude.{nat_le, option_map, option_and_then}
use Rattle.std.specs.Result.{result_ok}
use Rattle.std.proofs.lemmas.Bool.{and_parts, leb-true}
use Rattle.std.proofs.lemmas.List.{length-drop}
use Rattle.arrayvec.specs.ArrayVec.{ArrayVec}
use Rattle.byteorder.specs.Endian.{big_number}
use Rattle.byteorder.specs.Numbers.{big_from-lt}
use Rattle.hex.specs.Hex.{decode_of}
use Rattle.hex.specs.declared.error.FromHexError.{FromHexError}
use Rattle.hex.proofs.HexLemmas.{decode_of-ok}
use Rattle.wrp_network.specs.declared.configuration.NetCfg.{NetCfg}
use Rattle.wrp_base.specs.declared.fault.TraceFault.TheVariants.{Fields, Kind, Number}
use Rattle.wrp_base.specs.Lines.{parts_of}
use Rattle.wrp_base.specs.Octets.{AreOctets}
use Rattle.wrp_names.specs.Fields.{link_at, node_at}
use Rattle.wrp_fields.specs.Reading.{◌>>=◌, field_of, is_plain}
use Rattle.wrp_trace.specs.declared.events.kinds.EventKind.{EventKind}
use Rattle.wrp_trace.specs.declared.events.kinds.EventKind.TheVariants as kinds
use Rattle.wrp_trace.specs.Changes.{changes_said, nothing_said}
use Rattle.wrp_trace.specs.Digits.{bits_of, few, frame_of, octets_of}
use Rattle.wrp_trace.specs.EventFields.{delay_at, offset_at, span_at}
use Rattle.wrp_trace.specs.EventKinds.{kind_of, may_have}
use Rattle.wrp_trace.specs.Events.{arrive_of, counted_of, cut_of, deliver_of, depart_of, down_of, event_of, event_read, fields_of_kind, join_of, noise_of, pass_of, pass_with, sample_of, tick_of, up_of}
use Rattle.wrp_trace.specs.Fields.{bits_at, u32_at, octets_at, raw_from, u16_at, step_at, time_at}
use Rattle.wrp_trace.specs.Swaps.{swap_said, swaps_said}
use Rattle.wrp_course.specs.declared.event.Event.{Event}
use Rattle.wrp_course.specs.declared.event.Event.TheVariants as events
use Rattle.wrp_course.specs.declared.event.Swap.{Swap}
use Rattle.wrp_course.specs.EventAt.{FitsEvent}
use Rattle.wrp_trace.proofs.EventsFit.{found, number_read}
use Rattle.wrp_network_world.proofs.FieldsRead.{both, ok_same, read_if, some_if}

-- Octets

few_are : (octets found : List ℕ) → few octets ≡ Some found → (octets ≡ found) × (length found ≤ 256)
few_are octets found e =
    let parts : (nat_le (length octets) 256 ≡ true) × (octets ≡ found) = some_if (nat_le (length octets) 256) octets found e in
    (parts.1, subst (λ (l : List ℕ). length l ≤ 256) parts.1 (leb-true (length octets) 256 parts.0))

octets_in : (text octets : List ℕ) (read : Result (List ℕ) FromHexError) → decode_of text ≡ read → option_and_then few (result_ok read) ≡ Some octets
    → AreOctets octets × (length octets ≤ 256)
octets_in text octets (Err fault) is e = absurd (let f : None ≡ Some octets = e in cc)
octets_in text octets (Ok decoded) is e =
    let parts : (decoded ≡ octets) × (length octets ≤ 256) = few_are decoded octets e in
    (subst AreOctets parts.0 (decode_of-ok text decoded is).3, parts.1)

octets_fit : (text octets : List ℕ) → octets_of text ≡ Some octets → AreOctets octets × (length octets ≤ 256)
octets_fit text octets e = octets_in text octets (decode_of text) refl e

frame_in : (o : Option (List ℕ)) (frame : ArrayVec ℕ) → option_map (λ (octets : List ℕ). record { items = octets }) o ≡ Some frame → o ≡ Some frame.items
frame_in None frame e = absurd (let f : None ≡ Some frame = e in cc)
frame_in (Some octets) frame e = ap (option_map (λ (a : ArrayVec ℕ). a.items)) e

frame_fits : (place : ℕ) (fields : List (List ℕ)) (frame : ArrayVec ℕ) → octets_at place fields ≡ Ok frame → AreOctets frame.items × (length frame.items ≤ 256)
frame_fits place fields frame e =
    octets_fit (field_of place fields) frame.items
    (frame_in (octets_of (field_of place fields)) frame (found (Number place) (frame_of (field_of place fields)) frame e))

-- Bits

eight_are : (octets : List ℕ) (bits : ℕ) → AreOctets octets → (if length octets == 8 then Some (big_number 8 octets) else None) ≡ Some bits → bits < 2 ^ 64
eight_are octets bits are e =
    let is : big_number 8 octets ≡ bits = (some_if (length octets == 8) (big_number 8 octets) bits e).1 in
    subst (λ (n : ℕ). n < 2 ^ 64) is (big_from-lt 0 8 octets are)

bits_in : (text : List ℕ) (bits : ℕ) (o : Option (List ℕ)) → octets_of text ≡ o
    → option_and_then (λ (octets : List ℕ). if length octets == 8 then Some (big_number 8 octets) else None) o ≡ Some bits → bits < 2 ^ 64
bits_in text bits None is e = absurd (let f : None ≡ Some bits = e in cc)
bits_in text bits (Some octets) is e = eight_are octets bits (octets_fit text octets is).0 e

bits_fit : (place : ℕ) (fields : List (List ℕ)) (bits : ℕ) → bits_at place fields ≡ Ok bits → bits < 2 ^ 64
bits_fit place fields bits e =
    bits_in (field_of place fields) bits (octets_of (field_of place fields)) refl (found (Number place) (bits_of (field_of place fields)) bits e)

-- Numbers

short_fits : (place : ℕ) (fields : List (List ℕ)) (n : ℕ) → u16_at place fields ≡ Ok n → n < 2 ^ 16
short_fits place fields n e = let most : n ≤ 65_535 = (number_read 0 65_535 place fields n e).1 in omega (arith, most)

long_fits : (place : ℕ) (fields : List (List ℕ)) (n : ℕ) → u32_at place fields ≡ Ok n → n < 2 ^ 32
long_fits place fields n e = let most : n ≤ 4_294_967_295 = (number_read 0 4_294_967_295 place fields n e).1 in omega (arith, most)

-- Modules that are put in place

one_more : (swaps : List Swap) (swap : Swap) → length (swaps ++ swap ∷ []) ≡ length swaps + 1
one_more [] swap = refl
one_more (x ∷ swaps) swap = omega (arith, one_more swaps swap)

swaps_count : (place : ℕ) (swaps all : List Swap) (texts : List (List ℕ)) → swaps_said place swaps texts ≡ Ok all → length all ≡ length swaps + length texts
swaps_count place swaps all [] e = let same : length swaps ≡ length all = ap length (ok_same swaps all e) in omega (arith, same)
swaps_count place swaps all (text ∷ texts) e =
    let it = both (swap_said place swaps text) (λ swap. swaps_said (place + 1) (swaps ++ swap ∷ []) texts) all e in
    let more : length all ≡ length (swaps ++ it.first ∷ []) + length texts = swaps_count (place + 1) (swaps ++ it.first ∷ []) all texts it.rest in
    omega (arith, more, one_more swaps it.first)

few_swaps : (fields : List (List ℕ)) (swaps : List Swap) → (nat_le 3 (length fields) && nat_le (length fields) 21) ≡ true
    → swaps_said 4 [] (drop 3 fields) ≡ Ok swaps → length swaps ≤ 18
few_swaps fields swaps has e =
    let most : length fields ≤ 21 = leb-true (length fields) 21 (and_parts (nat_le 3 (length fields)) (nat_le (length fields) 21) has).1 in
    let count : length swaps ≡ length {A = Swap} [] + length (drop 3 fields) = swaps_count 4 [] swaps (drop 3 fields) e in
    let rest : length (drop 3 fields) ≡ length fields - 3 = length-drop 3 fields in
    omega (arith, most, count, rest)

-- Each kind

pass_fits : (cfg : NetCfg) (fields : List (List ℕ)) (e : Event) → pass_of cfg fields ≡ Ok e → FitsEvent e
pass_fits cfg fields e h =
    let a = both (span_at 2 fields) (λ dt. changes_said cfg 3 (nothing_said cfg) (drop 2 fields) >>= (λ said. Ok (pass_with dt said))) e h in
    let b = both (changes_said cfg 3 (nothing_said cfg) (drop 2 fields)) (λ said. Ok (pass_with a.first said)) e a.rest in
    subst FitsEvent (ok_same (pass_with a.first b.first) e b.rest) tt

tick_fits : (cfg : NetCfg) (fields : List (List ℕ)) (e : Event) → tick_of cfg fields ≡ Ok e → FitsEvent e
tick_fits cfg fields e h =
    let a = both (node_at cfg 2 fields) (λ node. Ok (events.Tick node)) e h in
    subst FitsEvent (ok_same (events.Tick a.first) e a.rest) tt

sample_fits : (cfg : NetCfg) (fields : List (List ℕ)) (e : Event) → sample_of cfg fields ≡ Ok e → FitsEvent e
sample_fits cfg fields e h =
    let a = both (node_at cfg 2 fields) (λ node. step_at 3 fields >>= (λ base. bits_at 4 fields >>= (λ bits. Ok (events.Sample node base bits)))) e h in
    let b = both (step_at 3 fields) (λ base. bits_at 4 fields >>= (λ bits. Ok (events.Sample a.first base bits))) e a.rest in
    let d = both (bits_at 4 fields) (λ bits. Ok (events.Sample a.first b.first bits)) e b.rest in
    subst FitsEvent (ok_same (events.Sample a.first b.first d.first) e d.rest) (bits_fit 4 fields d.first d.is)

depart_fits : (cfg : NetCfg) (fields : List (List ℕ)) (e : Event) → depart_of cfg fields ≡ Ok e → FitsEvent e
depart_fits cfg fields e h =
    let a = both (node_at cfg 2 fields) (λ node. u16_at 3 fields >>= (λ port. time_at 4 fields >>= (λ stamp. Ok (events.Depart node port stamp)))) e h in
    let b = both (u16_at 3 fields) (λ port. time_at 4 fields >>= (λ stamp. Ok (events.Depart a.first port stamp))) e a.rest in
    let d = both (time_at 4 fields) (λ stamp. Ok (events.Depart a.first b.first stamp)) e b.rest in
    subst FitsEvent (ok_same (events.Depart a.first b.first d.first) e d.rest) (short_fits 3 fields b.first b.is)

arrive_fits : (fields : List (List ℕ)) (e : Event) → arrive_of fields ≡ Ok e → FitsEvent e
arrive_fits fields e h =
    let a = both (u32_at 2 fields) (λ frame. raw_from 3 fields >>= (λ raw. Ok (events.Arrive frame raw))) e h in
    let b = both (raw_from 3 fields) (λ raw. Ok (events.Arrive a.first raw)) e a.rest in
    subst FitsEvent (ok_same (events.Arrive a.first b.first) e b.rest) (long_fits 2 fields a.first a.is)

deliver_fits : (fields : List (List ℕ)) (e : Event) → deliver_of fields ≡ Ok e → FitsEvent e
deliver_fits fields e h =
    let a = both (u32_at 2 fields) (λ frame. Ok (events.Deliver frame)) e h in
    subst FitsEvent (ok_same (events.Deliver a.first) e a.rest) (long_fits 2 fields a.first a.is)

noise_fits : (cfg : NetCfg) (fields : List (List ℕ)) (e : Event) → noise_of cfg fields ≡ Ok e → FitsEvent e
noise_fits cfg fields e h =
    let a =
    both (node_at cfg 2 fields)
    (λ node. u16_at 3 fields >>= (λ port. octets_at 4 fields >>= (λ octets. raw_from 5 fields >>= (λ raw. Ok (events.Noise node port octets raw))))) e h in
    let b =
    both (u16_at 3 fields) (λ port. octets_at 4 fields >>= (λ octets. raw_from 5 fields >>= (λ raw. Ok (events.Noise a.first port octets raw)))) e a.rest in
    let d = both (octets_at 4 fields) (λ octets. raw_from 5 fields >>= (λ raw. Ok (events.Noise a.first b.first octets raw))) e b.rest in
    let f = both (raw_from 5 fields) (λ raw. Ok (events.Noise a.first b.first d.first raw)) e d.rest in
    subst FitsEvent (ok_same (events.Noise a.first b.first d.first f.first) e f.rest) (short_fits 3 fields b.first b.is, frame_fits 4 fields d.first d.is)

down_fits : (cfg : NetCfg) (fields : List (List ℕ)) (e : Event) → down_of cfg fields ≡ Ok e → FitsEvent e
down_fits cfg fields e h =
    let a = both (node_at cfg 2 fields) (λ node. Ok (events.Down node)) e h in
    subst FitsEvent (ok_same (events.Down a.first) e a.rest) tt

up_fits : (cfg : NetCfg) (fields : List (List ℕ)) (e : Event) → may_have kinds.Up (length fields) ≡ true → up_of cfg fields ≡ Ok e → FitsEvent e
up_fits cfg fields e has h =
    let made : ℕ → ℤ → List Swap → Event = λ node off swaps. events.Up node off (record { items = swaps }) in
    let a = both (node_at cfg 2 fields) (λ node. offset_at 3 fields >>= (λ off. swaps_said 4 [] (drop 3 fields) >>= (λ swaps. Ok (made node off swaps)))) e h in
    let b = both (offset_at 3 fields) (λ off. swaps_said 4 [] (drop 3 fields) >>= (λ swaps. Ok (made a.first off swaps))) e a.rest in
    let d = both (swaps_said 4 [] (drop 3 fields)) (λ swaps. Ok (made a.first b.first swaps)) e b.rest in
    subst FitsEvent (ok_same (made a.first b.first d.first) e d.rest) (few_swaps fields d.first has d.is)

cut_fits : (cfg : NetCfg) (fields : List (List ℕ)) (e : Event) → cut_of cfg fields ≡ Ok e → FitsEvent e
cut_fits cfg fields e h =
    let a = both (link_at cfg 2 fields) (λ link. Ok (events.Cut link)) e h in
    subst FitsEvent (ok_same (events.Cut a.first) e a.rest) tt

join_fits : (cfg : NetCfg) (fields : List (List ℕ)) (e : Event) → join_of cfg fields ≡ Ok e → FitsEvent e
join_fits cfg fields e h =
    let a = both (link_at cfg 2 fields) (λ link. delay_at 3 fields >>= (λ ms. delay_at 4 fields >>= (λ sm. Ok (events.Join link ms sm)))) e h in
    let b = both (delay_at 3 fields) (λ ms. delay_at 4 fields >>= (λ sm. Ok (events.Join a.first ms sm))) e a.rest in
    let d = both (delay_at 4 fields) (λ sm. Ok (events.Join a.first b.first sm)) e b.rest in
    subst FitsEvent (ok_same (events.Join a.first b.first d.first) e d.rest) tt

kind_fits : (cfg : NetCfg) (kind : EventKind) (fields : List (List ℕ)) (e : Event) → may_have kind (length fields) ≡ true
    → fields_of_kind cfg kind fields ≡ Ok e → FitsEvent e
kind_fits cfg kinds.Pass fields e has h = pass_fits cfg fields e h
kind_fits cfg kinds.Tick fields e has h = tick_fits cfg fields e h
kind_fits cfg kinds.Sample fields e has h = sample_fits cfg fields e h
kind_fits cfg kinds.Depart fields e has h = depart_fits cfg fields e h
kind_fits cfg kinds.Arrive fields e has h = arrive_fits fields e h
kind_fits cfg kinds.Deliver fields e has h = deliver_fits fields e h
kind_fits cfg kinds.Noise fields e has h = noise_fits cfg fields e h
kind_fits cfg kinds.Down fields e has h = down_fits cfg fields e h
kind_fits cfg kinds.Up fields e has h = up_fits cfg fields e has h
kind_fits cfg kinds.Cut fields e has h = cut_fits cfg fields e h
kind_fits cfg kinds.Join fields e has h = join_fits cfg fields e h

counted_fits : (cfg : NetCfg) (fields : List (List ℕ)) (o : Option EventKind) (e : Event) → counted_of cfg fields o ≡ Ok e → FitsEvent e
counted_fits cfg fields None e h = absurd (let f : Err Kind ≡ Ok e = h in cc)
counted_fits cfg fields (Some kind) e h =
    let parts : (may_have kind (length fields) ≡ true) × (fields_of_kind cfg kind fields ≡ Ok e) =
    read_if (may_have kind (length fields)) Fields (fields_of_kind cfg kind fields) e h in
    kind_fits cfg kind fields e parts.0 parts.1

-- an event that a line says
pub line_fits : (cfg : NetCfg) (line : List ℕ) (e : Event) → event_read cfg line ≡ Ok e → FitsEvent e
line_fits cfg line e h =
    counted_fits cfg (parts_of line) (kind_of (field_of 1 (parts_of line))) e (read_if (is_plain line) Fields (event_of cfg (parts_of line)) e h).1
