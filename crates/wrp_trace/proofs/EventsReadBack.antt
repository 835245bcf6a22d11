-- A printed event line reads back as the event that was printed.
use Rattle.std.proofs.Common.{◌≡◌, ◌∙◌, ℕ, ℤ, pos, negsuc, suc, ◌+◌, ◌<◌, ◌≤◌, ◌^◌, ◌&&◌, List, [], ◌∷◌, ◌++◌, Bool, true, false, Some, Ok, length, map, drop, refl, sym, ap, ap₂, subst, arith}
use Rattle.std.specs.Prelude.{codes, ◌==◌, if◌then◌else◌, unsigned_abs, slice_get}
use Rattle.std.specs.Option.{option_map_or}
use Rattle.std.specs.List.{AllByRecursion, join_with_byte}
use Rattle.std.specs.Fmt.{decimal, signed_decimal}
use Rattle.std.proofs.lemmas.Bool.{le-leb}
use Rattle.std.proofs.lemmas.Int.{ints}
use Rattle.std.proofs.lemmas.List.{length-map}
use Rattle.arrayvec.specs.ArrayVec.{ArrayVec}
use Rattle.byteorder.specs.Endian.{big_bytes}
use Rattle.hex.specs.Hex.{encode_lower, IsBytes}
use Rattle.wrp_network.specs.declared.configuration.NetCfg.{NetCfg}
use Rattle.wrp_network.specs.declared.network.LinkCfg.{LinkCfg}
use Rattle.wrp_network.specs.declared.network.NodeCfg.{NodeCfg}
use Rattle.wrp_base.specs.declared.time.Raw.{Raw}
use Rattle.wrp_network.specs.Network.{name_at, node_count}
use Rattle.wrp_base.specs.Ranges.{IsFromTo}
use Rattle.wrp_base.proofs.Lists.{has_item}
use Rattle.wrp_config.specs.Accepted.{HasNames}
use Rattle.wrp_config.specs.Names.{node_named, link_named}
use Rattle.wrp_course.specs.declared.event.Event.{Event}
use Rattle.wrp_course.specs.declared.event.Event.TheVariants as events
use Rattle.wrp_course.specs.declared.event.Swap.{Swap}
use Rattle.wrp_trace.specs.Changes.{SaidAt, nothing_said, changes_said}
use Rattle.wrp_names.specs.Fields.{node_at, link_at}
use Rattle.wrp_trace.specs.EventFields.{span_at, delay_at, offset_at}
use Rattle.wrp_trace.specs.EventPrinting.{link_text, drift_words, drift_texts, move_words, move_texts, swap_text, pass_texts, event_text}
use Rattle.wrp_trace.specs.Events.{pass_with, pass_of, tick_of, sample_of, depart_of, arrive_of, deliver_of, noise_of, down_of, up_of, cut_of, join_of, event_of, event_read, bare}
use Rattle.wrp_trace.specs.Fields.{u16_at, u32_at, step_at, bits_at, octets_at, time_at, raw_from}
use Rattle.wrp_fields.specs.Numbers.{number_in}
use Rattle.wrp_trace.specs.Printing.{bits_text}
use Rattle.wrp_fields.specs.Reading.{field_of, number_or_fault, name_or_fault}
use Rattle.wrp_trace.specs.Swaps.{bare_swap, swaps_said}
use Rattle.wrp_trace.proofs.DigitLemmas.{number_octets}
use Rattle.wrp_trace.proofs.EventParts.{name_part, signed_part, part_text, both_text}
use Rattle.wrp_trace.proofs.NamesFound.{node_found, link_found}
use Rattle.wrp_trace.proofs.PassReadsBack.{AreNodesFrom, AreLinksFrom, all_nodes, all_links, drift_of, move_of, changes_back, drifts_again, moves_again}
use Rattle.wrp_trace.proofs.ReadsBack.{short_read, long_read, step_read, counter_read, bits_read, octets_read, time_read, raw_read, short_text}
use Rattle.wrp_trace.proofs.SignedLemmas.{number_in_back}
use Rattle.wrp_trace.proofs.Texts.{IsText, AreTexts, hex_text, plain_line, parts_back, starts}
use Rattle.wrp_trace.proofs.UpReadsBack.{swaps_back}
use Rattle.wrp_course.specs.EventAt.{link_count, IsRaw, IsTime, IsChange, IsMove, IsPass, IsSwap, AreSwaps, IsEventOf, FitsEvent}

-- texts with commas between them say what the texts say as fields
line_says : (cfg : NetCfg) (c : ℕ) (cs : List ℕ) (texts : List (List ℕ)) → AreTexts ((c ∷ cs) ∷ texts)
    → event_read cfg (join_with_byte 44 ((c ∷ cs) ∷ texts)) ≡ event_of cfg ((c ∷ cs) ∷ texts)
line_says cfg c cs texts are =
    rw (starts c cs texts (plain_line (c ∷ cs) texts are), parts_back (c ∷ cs) texts are) refl

-- Names

pub record IsNodeText (cfg : NetCfg) (n : ℕ) : Type 0 where
  pub finds : node_named cfg (name_at cfg n) ≡ Some n
  pub text : IsText (name_at cfg n)

node_is : (cfg : NetCfg) → HasNames cfg → (n : ℕ) → n < node_count cfg → IsNodeText cfg n
node_is cfg names n below =
    let node = has_item cfg.nodes.items n below in
    let same : name_at cfg n ≡ node.0.name.bytes = ap (λ o. option_map_or (λ m. m.name.bytes) o []) node.1 in
    record {
      finds = ap (node_named cfg) same ∙ node_found cfg names n node.0 node.1;
      text = subst IsText (sym same) (part_text node.0.name.bytes (name_part node.0.name.bytes (names.node n node.0 node.1)));
    }

pub record IsLinkText (cfg : NetCfg) (l : ℕ) : Type 0 where
  pub finds : link_named cfg (link_text cfg l) ≡ Some l
  pub text : IsText (link_text cfg l)

link_is : (cfg : NetCfg) → HasNames cfg → (l : ℕ) → l < link_count cfg → IsLinkText cfg l
link_is cfg names l below =
    let link = has_item cfg.links.items l below in
    let same : link_text cfg l ≡ link.0.name.bytes = ap (λ o. option_map_or (λ m. m.name.bytes) o []) link.1 in
    record {
      finds = ap (link_named cfg) same ∙ link_found cfg names l link.0 link.1;
      text = subst IsText (sym same) (part_text link.0.name.bytes (name_part link.0.name.bytes (names.link l link.0 link.1)));
    }

-- Fields

node_read : (cfg : NetCfg) (place n : ℕ) (fields : List (List ℕ)) → IsNodeText cfg n → field_of place fields ≡ name_at cfg n → node_at cfg place fields ≡ Ok n
node_read cfg place n fields is e = ap (λ text. name_or_fault place (node_named cfg text)) e ∙ ap (name_or_fault place) is.finds

link_read : (cfg : NetCfg) (place l : ℕ) (fields : List (List ℕ)) → IsLinkText cfg l → field_of place fields ≡ link_text cfg l → link_at cfg place fields ≡ Ok l
link_read cfg place l fields is e = ap (λ text. name_or_fault place (link_named cfg text)) e ∙ ap (name_or_fault place) is.finds

span_read : (place : ℕ) (dt : ℤ) (fields : List (List ℕ)) → IsFromTo 1 9_223_372_036_854_775_807 dt → field_of place fields ≡ signed_decimal dt → span_at place fields ≡ Ok dt
span_read place dt fields is e =
    ap (λ text. number_or_fault place (number_in (pos 1) (pos 9_223_372_036_854_775_807) text)) e
    ∙ ap (number_or_fault place) (number_in_back (pos 1) (pos 9_223_372_036_854_775_807) dt is.0 is.1 (omega (arith, ints, is.0, is.1)))

delay_read : (place : ℕ) (delay : ℤ) (fields : List (List ℕ)) → IsFromTo 0 9_223_372_036_854_775_807 delay → field_of place fields ≡ signed_decimal delay → delay_at place fields ≡ Ok delay
delay_read place delay fields is e =
    ap (λ text. number_or_fault place (number_in (pos 0) (pos 9_223_372_036_854_775_807) text)) e
    ∙ ap (number_or_fault place) (number_in_back (pos 0) (pos 9_223_372_036_854_775_807) delay is.0 is.1 (omega (arith, ints, is.0, is.1)))

offset_read : (place : ℕ) (off : ℤ) (fields : List (List ℕ)) → unsigned_abs off ≤ 2 ^ 90 → field_of place fields ≡ signed_decimal off → offset_at place fields ≡ Ok off
offset_read place off fields is e =
    ap (λ text. number_or_fault place (number_in (negsuc 1_237_940_039_285_380_274_899_124_223) (pos 1_237_940_039_285_380_274_899_124_224) text)) e
    ∙ ap (number_or_fault place)
    (number_in_back (negsuc 1_237_940_039_285_380_274_899_124_223) (pos 1_237_940_039_285_380_274_899_124_224) off (omega (arith, ints, is)) (omega (arith, ints, is)) (omega (arith, is)))

signed_text : (z : ℤ) → unsigned_abs z < 10 ^ 64 → IsText (signed_decimal z)
signed_text z small = part_text (signed_decimal z) (signed_part z small)

-- Further texts

more_texts : (some more : List (List ℕ)) → AreTexts some → AreTexts more → AreTexts (some ++ more)
more_texts [] more a b = b
more_texts (text ∷ some) more a b = (a.0, more_texts some more a.1 b)

maybe_text : (b : Bool) (text : List ℕ) → IsText text → AreTexts (if b then [] else text ∷ [])
maybe_text true text is = tt
maybe_text false text is = (is, tt)

drift_words_text : (cfg : NetCfg) → HasNames cfg → (n : ℕ) (node : NodeCfg) → slice_get cfg.nodes.items n ≡ Some node → (drift : ℤ) → IsChange drift
    → IsText (drift_words node drift)
drift_words_text cfg names n node e drift is =
    both_text node.name.bytes 61 (signed_decimal drift) (part_text node.name.bytes (name_part node.name.bytes (names.node n node e))) refl
    (signed_text drift (omega (arith, is)))

move_words_text : (cfg : NetCfg) → HasNames cfg → (l : ℕ) (link : LinkCfg) → slice_get cfg.links.items l ≡ Some link → (move : ℤ × ℤ) → IsMove move
    → IsText (move_words link move)
move_words_text cfg names l link e move is =
    both_text link.name.bytes 61 (signed_decimal move.0 ++ 47 ∷ signed_decimal move.1) (part_text link.name.bytes (name_part link.name.bytes (names.link l link e))) refl
    (both_text (signed_decimal move.0) 47 (signed_decimal move.1) (signed_text move.0 (omega (arith, is.0))) refl (signed_text move.1 (omega (arith, is.1))))

drift_texts_are : (cfg : NetCfg) → HasNames cfg → (k : ℕ) (nodes : List NodeCfg) → AreNodesFrom cfg k nodes → (drifts : List ℤ) → AllByRecursion IsChange drifts
    → AreTexts (drift_texts nodes drifts)
drift_texts_are cfg names k [] at drifts are = tt
drift_texts_are cfg names k (node ∷ nodes) at [] are = tt
drift_texts_are cfg names k (node ∷ nodes) at (d ∷ drifts) are =
    more_texts _ (drift_texts nodes drifts)
    (maybe_text (unsigned_abs d == 0) (drift_words node d) (drift_words_text cfg names (k + 0) node (at 0 node refl) d are.0))
    (drift_texts_are cfg names (suc k) nodes (λ i other e. ap (slice_get cfg.nodes.items) (omega arith) ∙ at (suc i) other e) drifts are.1)

move_texts_are : (cfg : NetCfg) → HasNames cfg → (k : ℕ) (links : List LinkCfg) → AreLinksFrom cfg k links → (moves : List (ℤ × ℤ)) → AllByRecursion IsMove moves
    → AreTexts (move_texts links moves)
move_texts_are cfg names k [] at moves are = tt
move_texts_are cfg names k (link ∷ links) at [] are = tt
move_texts_are cfg names k (link ∷ links) at (m ∷ moves) are =
    more_texts _ (move_texts links moves)
    (maybe_text ((unsigned_abs m.0 == 0) && (unsigned_abs m.1 == 0)) (move_words link m) (move_words_text cfg names (k + 0) link (at 0 link refl) m are.0))
    (move_texts_are cfg names (suc k) links (λ i other e. ap (slice_get cfg.links.items) (omega arith) ∙ at (suc i) other e) moves are.1)

swap_texts_are : (swaps : List Swap) → AllByRecursion IsSwap swaps → AreTexts (map swap_text swaps)
swap_texts_are [] are = tt
swap_texts_are (s ∷ swaps) are =
    let is = are.0 in (
      both_text (decimal s.port) 58 _ (short_text s.port (omega (arith, is.port))) refl
          (both_text s.name.bytes 58 _ (part_text s.name.bytes (name_part s.name.bytes is.name)) refl
          (both_text (decimal s.tx) 58 _ (short_text s.tx (omega (arith, is.tx))) refl (short_text s.rx (omega (arith, is.rx))))),
      swap_texts_are swaps are.1,
    )

-- Kinds

pass_read : (cfg : NetCfg) (fields : List (List ℕ)) (dt : ℤ) (said : SaidAt) → span_at 2 fields ≡ Ok dt → changes_said cfg 3 (nothing_said cfg) (drop 2 fields) ≡ Ok said
    → pass_of cfg fields ≡ Ok (pass_with dt said)
pass_read cfg fields dt said e1 e2 = rw (e1, e2) refl

pass_says : (cfg : NetCfg) → HasNames cfg → (dt : ℤ) (drifts : ArrayVec ℤ) (moves : ArrayVec (ℤ × ℤ)) → IsPass cfg dt drifts.items moves.items
    → event_of cfg (pass_texts cfg dt drifts.items moves.items) ≡ Ok (events.Pass dt drifts moves)
pass_says cfg names dt drifts moves is =
    let fields = pass_texts cfg dt drifts.items moves.items in
    rw (le-leb 2 (length fields) (omega arith))
    (pass_read cfg fields dt (record { drifts = map drift_of drifts.items; moves = map move_of moves.items })
    (span_read 2 dt fields is.span refl) (changes_back cfg names drifts.items is.nodes is.drift moves.items is.links is.move))
    ∙ ap₂ (λ a b. Ok (events.Pass dt (record { items = a }) (record { items = b }))) (drifts_again drifts.items) (moves_again moves.items)

pass_back : (cfg : NetCfg) → HasNames cfg → (dt : ℤ) (drifts : ArrayVec ℤ) (moves : ArrayVec (ℤ × ℤ)) → IsPass cfg dt drifts.items moves.items
    → event_read cfg (event_text cfg (events.Pass dt drifts moves)) ≡ Ok (events.Pass dt drifts moves)
pass_back cfg names dt drifts moves is =
    line_says cfg 112 (codes "ass") (signed_decimal dt ∷ (drift_texts cfg.nodes.items drifts.items ++ move_texts cfg.links.items moves.items)) (
      refl,
      (
        signed_text dt (omega (arith, ints, is.span.0, is.span.1)),
        more_texts (drift_texts cfg.nodes.items drifts.items) (move_texts cfg.links.items moves.items)
            (drift_texts_are cfg names 0 cfg.nodes.items (all_nodes cfg) drifts.items is.drift) (move_texts_are cfg names 0 cfg.links.items (all_links cfg) moves.items is.move),
      ),
    )
    ∙ pass_says cfg names dt drifts moves is

tick_read : (cfg : NetCfg) (fields : List (List ℕ)) (n : ℕ) → node_at cfg 2 fields ≡ Ok n → tick_of cfg fields ≡ Ok (events.Tick n)
tick_read cfg fields n e = rw e refl

tick_back : (cfg : NetCfg) (n : ℕ) → IsNodeText cfg n → event_read cfg (event_text cfg (events.Tick n)) ≡ Ok (events.Tick n)
tick_back cfg n is =
    let texts : List (List ℕ) = name_at cfg n ∷ [] in
    line_says cfg 116 (codes "ick") texts (refl, (is.text, tt)) ∙ tick_read cfg (codes "tick" ∷ texts) n (node_read cfg 2 n (codes "tick" ∷ texts) is refl)

down_read : (cfg : NetCfg) (fields : List (List ℕ)) (n : ℕ) → node_at cfg 2 fields ≡ Ok n → down_of cfg fields ≡ Ok (events.Down n)
down_read cfg fields n e = rw e refl

down_back : (cfg : NetCfg) (n : ℕ) → IsNodeText cfg n → event_read cfg (event_text cfg (events.Down n)) ≡ Ok (events.Down n)
down_back cfg n is =
    let texts : List (List ℕ) = name_at cfg n ∷ [] in
    line_says cfg 100 (codes "own") texts (refl, (is.text, tt)) ∙ down_read cfg (codes "down" ∷ texts) n (node_read cfg 2 n (codes "down" ∷ texts) is refl)

cut_read : (cfg : NetCfg) (fields : List (List ℕ)) (l : ℕ) → link_at cfg 2 fields ≡ Ok l → cut_of cfg fields ≡ Ok (events.Cut l)
cut_read cfg fields l e = rw e refl

cut_back : (cfg : NetCfg) (l : ℕ) → IsLinkText cfg l → event_read cfg (event_text cfg (events.Cut l)) ≡ Ok (events.Cut l)
cut_back cfg l is =
    let texts : List (List ℕ) = link_text cfg l ∷ [] in
    line_says cfg 99 (codes "ut") texts (refl, (is.text, tt)) ∙ cut_read cfg (codes "cut" ∷ texts) l (link_read cfg 2 l (codes "cut" ∷ texts) is refl)

join_read : (cfg : NetCfg) (fields : List (List ℕ)) (l : ℕ) (ms sm : ℤ) → link_at cfg 2 fields ≡ Ok l → delay_at 3 fields ≡ Ok ms → delay_at 4 fields ≡ Ok sm
    → join_of cfg fields ≡ Ok (events.Join l ms sm)
join_read cfg fields l ms sm e1 e2 e3 = rw (e1, e2, e3) refl

join_back : (cfg : NetCfg) (l : ℕ) (ms sm : ℤ) → IsLinkText cfg l → IsFromTo 0 9_223_372_036_854_775_807 ms → IsFromTo 0 9_223_372_036_854_775_807 sm
    → event_read cfg (event_text cfg (events.Join l ms sm)) ≡ Ok (events.Join l ms sm)
join_back cfg l ms sm is a b =
    let texts : List (List ℕ) = link_text cfg l ∷ signed_decimal ms ∷ signed_decimal sm ∷ [] in
    let fields : List (List ℕ) = codes "join" ∷ texts in
    line_says cfg 106 (codes "oin") texts (refl, (is.text, (signed_text ms (omega (arith, ints, a.0, a.1)), (signed_text sm (omega (arith, ints, b.0, b.1)), tt))))
    ∙ join_read cfg fields l ms sm (link_read cfg 2 l fields is refl) (delay_read 3 ms fields a refl) (delay_read 4 sm fields b refl)

sample_read : (cfg : NetCfg) (fields : List (List ℕ)) (n base bits : ℕ) → node_at cfg 2 fields ≡ Ok n → step_at 3 fields ≡ Ok base → bits_at 4 fields ≡ Ok bits
    → sample_of cfg fields ≡ Ok (events.Sample n base bits)
sample_read cfg fields n base bits e1 e2 e3 = rw (e1, e2, e3) refl

sample_back : (cfg : NetCfg) (n base bits : ℕ) → IsNodeText cfg n → base ≤ 16_383 → bits < 2 ^ 64
    → event_read cfg (event_text cfg (events.Sample n base bits)) ≡ Ok (events.Sample n base bits)
sample_back cfg n base bits is low few =
    let texts : List (List ℕ) = name_at cfg n ∷ decimal base ∷ bits_text bits ∷ [] in
    let fields : List (List ℕ) = codes "sample" ∷ texts in
    line_says cfg 115 (codes "ample") texts (refl, (is.text, (short_text base (omega (arith, low)), (hex_text (big_bytes 8 bits) (number_octets 8 bits), tt))))
    ∙ sample_read cfg fields n base bits (node_read cfg 2 n fields is refl) (step_read 3 base fields low refl) (bits_read 4 bits fields few refl)

depart_read : (cfg : NetCfg) (fields : List (List ℕ)) (n port : ℕ) (stamp : ℤ) → node_at cfg 2 fields ≡ Ok n → u16_at 3 fields ≡ Ok port → time_at 4 fields ≡ Ok stamp
    → depart_of cfg fields ≡ Ok (events.Depart n port stamp)
depart_read cfg fields n port stamp e1 e2 e3 = rw (e1, e2, e3) refl

depart_back : (cfg : NetCfg) (n port : ℕ) (stamp : ℤ) → IsNodeText cfg n → port < 2 ^ 16 → IsTime stamp
    → event_read cfg (event_text cfg (events.Depart n port stamp)) ≡ Ok (events.Depart n port stamp)
depart_back cfg n port stamp is small time =
    let texts : List (List ℕ) = name_at cfg n ∷ decimal port ∷ signed_decimal stamp ∷ [] in
    let fields : List (List ℕ) = codes "depart" ∷ texts in
    line_says cfg 100 (codes "epart") texts (refl, (is.text, (short_text port (omega (arith, small)), (signed_text stamp (omega (arith, time.greatest)), tt))))
    ∙ depart_read cfg fields n port stamp (node_read cfg 2 n fields is refl) (short_read 3 port fields small refl) (time_read 4 stamp fields time refl)

arrive_read : (fields : List (List ℕ)) (frame : ℕ) (raw : Raw) → u32_at 2 fields ≡ Ok frame → raw_from 3 fields ≡ Ok raw → arrive_of fields ≡ Ok (events.Arrive frame raw)
arrive_read fields frame raw e1 e2 = rw (e1, e2) refl

arrive_back : (cfg : NetCfg) (frame : ℕ) (raw : Raw) → frame < 2 ^ 32 → IsRaw raw
    → event_read cfg (event_text cfg (events.Arrive frame raw)) ≡ Ok (events.Arrive frame raw)
arrive_back cfg frame raw small is =
    let texts : List (List ℕ) = decimal frame ∷ decimal raw.rising ∷ decimal raw.falling ∷ decimal raw.tag ∷ [] in
    let fields : List (List ℕ) = codes "arrive" ∷ texts in
    line_says cfg 97 (codes "rrive") texts
    (refl, (short_text frame (omega (arith, small)), (short_text raw.rising (omega (arith, is.rising.1)), (short_text raw.falling (omega (arith, is.falling.1)), (short_text raw.tag (omega (arith, is.tag)), tt)))))
    ∙ arrive_read fields frame raw (long_read 2 frame fields small refl)
    (raw_read 3 fields raw (counter_read 3 raw.rising fields is.rising.0 is.rising.1 refl) (counter_read 4 raw.falling fields is.falling.0 is.falling.1 refl) (step_read 5 raw.tag fields is.tag refl))

deliver_read : (fields : List (List ℕ)) (frame : ℕ) → u32_at 2 fields ≡ Ok frame → deliver_of fields ≡ Ok (events.Deliver frame)
deliver_read fields frame e = rw e refl

deliver_back : (cfg : NetCfg) (frame : ℕ) → frame < 2 ^ 32 → event_read cfg (event_text cfg (events.Deliver frame)) ≡ Ok (events.Deliver frame)
deliver_back cfg frame small =
    let texts : List (List ℕ) = decimal frame ∷ [] in
    line_says cfg 100 (codes "eliver") texts (refl, (short_text frame (omega (arith, small)), tt))
    ∙ deliver_read (codes "deliver" ∷ texts) frame (long_read 2 frame (codes "deliver" ∷ texts) small refl)

noise_read : (cfg : NetCfg) (fields : List (List ℕ)) (n port : ℕ) (octets : ArrayVec ℕ) (raw : Raw)
    → node_at cfg 2 fields ≡ Ok n → u16_at 3 fields ≡ Ok port → octets_at 4 fields ≡ Ok octets → raw_from 5 fields ≡ Ok raw
    → noise_of cfg fields ≡ Ok (events.Noise n port octets raw)
noise_read cfg fields n port octets raw e1 e2 e3 e4 = rw (e1, e2, e3, e4) refl

noise_back : (cfg : NetCfg) (n port : ℕ) (octets : ArrayVec ℕ) (raw : Raw) → IsNodeText cfg n → port < 2 ^ 16 → IsBytes octets.items → length octets.items ≤ 256 → IsRaw raw
    → event_read cfg (event_text cfg (events.Noise n port octets raw)) ≡ Ok (events.Noise n port octets raw)
noise_back cfg n port octets raw named small fit few is =
    let texts : List (List ℕ) = name_at cfg n ∷ decimal port ∷ encode_lower octets.items ∷ decimal raw.rising ∷ decimal raw.falling ∷ decimal raw.tag ∷ [] in
    let fields : List (List ℕ) = codes "noise" ∷ texts in
    line_says cfg 110 (codes "oise") texts
    (refl, (named.text, (short_text port (omega (arith, small)), (hex_text octets.items fit, (short_text raw.rising (omega (arith, is.rising.1)), (short_text raw.falling (omega (arith, is.falling.1)), (short_text raw.tag (omega (arith, is.tag)), tt)))))))
    ∙ noise_read cfg fields n port octets raw (node_read cfg 2 n fields named refl) (short_read 3 port fields small refl) (octets_read 4 octets fields fit few refl)
    (raw_read 5 fields raw (counter_read 5 raw.rising fields is.rising.0 is.rising.1 refl) (counter_read 6 raw.falling fields is.falling.0 is.falling.1 refl) (step_read 7 raw.tag fields is.tag refl))

up_read : (cfg : NetCfg) (fields : List (List ℕ)) (n : ℕ) (off : ℤ) (swaps : List Swap)
    → node_at cfg 2 fields ≡ Ok n → offset_at 3 fields ≡ Ok off → swaps_said 4 [] (drop 3 fields) ≡ Ok swaps
    → up_of cfg fields ≡ Ok (events.Up n off (record { items = swaps }))
up_read cfg fields n off swaps e1 e2 e3 = rw (e1, e2, e3) refl

up_says : (cfg : NetCfg) (n : ℕ) (off : ℤ) (swaps : ArrayVec Swap) → IsNodeText cfg n → unsigned_abs off ≤ 2 ^ 90 → AreSwaps swaps.items → length swaps.items ≤ 18
    → event_of cfg (codes "up" ∷ name_at cfg n ∷ signed_decimal off ∷ map swap_text swaps.items) ≡ Ok (bare (events.Up n off swaps))
up_says cfg n off swaps named near are few =
    let fields : List (List ℕ) = codes "up" ∷ name_at cfg n ∷ signed_decimal off ∷ map swap_text swaps.items in
    let size : length (map swap_text swaps.items) ≤ 18 = omega (arith, length-map swaps.items swap_text, few) in
    rw (le-leb 3 (length fields) (omega arith), le-leb (length fields) 21 (omega (arith, size)))
    (up_read cfg fields n off (map bare_swap swaps.items) (node_read cfg 2 n fields named refl) (offset_read 3 off fields near refl)
    (swaps_back 4 [] swaps.items are.each are.apart))

up_back : (cfg : NetCfg) (n : ℕ) (off : ℤ) (swaps : ArrayVec Swap) → IsNodeText cfg n → unsigned_abs off ≤ 2 ^ 90 → AreSwaps swaps.items → length swaps.items ≤ 18
    → event_read cfg (event_text cfg (events.Up n off swaps)) ≡ Ok (bare (events.Up n off swaps))
up_back cfg n off swaps named near are few =
    line_says cfg 117 (codes "p") (name_at cfg n ∷ signed_decimal off ∷ map swap_text swaps.items)
    (refl, (named.text, (signed_text off (omega (arith, near)), swap_texts_are swaps.items are.each)))
    ∙ up_says cfg n off swaps named near are few

-- each event that can be printed reads back
pub events_back : (cfg : NetCfg) (e : Event) → HasNames cfg → IsEventOf cfg e → FitsEvent e → event_read cfg (event_text cfg e) ≡ Ok (bare e)
events_back cfg (events.Pass dt drifts moves) names is fits = pass_back cfg names dt drifts moves is
events_back cfg (events.Tick n) names is fits = tick_back cfg n (node_is cfg names n is)
events_back cfg (events.Sample n base bits) names is fits = sample_back cfg n base bits (node_is cfg names n is.0) is.1 fits
events_back cfg (events.Depart n port stamp) names is fits = depart_back cfg n port stamp (node_is cfg names n is.0) fits is.1
events_back cfg (events.Arrive frame raw) names is fits = arrive_back cfg frame raw fits is
events_back cfg (events.Deliver frame) names is fits = deliver_back cfg frame fits
events_back cfg (events.Noise n port octets raw) names is fits = noise_back cfg n port octets raw (node_is cfg names n is.0) fits.0 fits.1.0 fits.1.1 is.1
events_back cfg (events.Down n) names is fits = down_back cfg n (node_is cfg names n is)
events_back cfg (events.Up n off swaps) names is fits = up_back cfg n off swaps (node_is cfg names n is.0) is.1 is.2 fits
events_back cfg (events.Cut l) names is fits = cut_back cfg l (link_is cfg names l is)
events_back cfg (events.Join l ms sm) names is fits = join_back cfg l ms sm (link_is cfg names l is.0) is.1 is.2
