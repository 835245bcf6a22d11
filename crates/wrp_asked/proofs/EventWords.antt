-- The line of an event is one word: it has no space.
use Rattle.std.proofs.Common.{◌≡◌, ◌&&◌, refl, ℕ, ℤ, suc, ◌==◌, Bool, true, false, if◌then◌else◌, unsigned_abs, List, [], ◌∷◌, ◌++◌, map, Option, None, Some}
use Rattle.std.specs.Prelude.{slice_get}
use Rattle.std.specs.Option.{option_map_or}
use Rattle.std.specs.Fmt.{decimal, signed_decimal}
use Rattle.std.specs.List.{AllByRecursion}
use Rattle.byteorder.specs.Endian.{big_bytes}
use Rattle.wrp_network.specs.declared.configuration.NetCfg.{NetCfg}
use Rattle.wrp_network.specs.declared.network.LinkCfg.{LinkCfg}
use Rattle.wrp_network.specs.declared.network.NodeCfg.{NodeCfg}
use Rattle.wrp_base.proofs.Lists.{all_append}
use Rattle.wrp_caldb.specs.Name.{is_name}
use Rattle.wrp_config.specs.Accepted.{HasNames}
use Rattle.wrp_course.specs.declared.event.Event.{Event}
use Rattle.wrp_course.specs.declared.event.Event.TheVariants.{Pass, Tick, Sample, Depart, Arrive, Deliver, Noise, Down, Up, Cut, Join}
use Rattle.wrp_course.specs.declared.event.Swap.{Swap}
use Rattle.wrp_course.specs.EventAt.{IsEventOf, IsSwap}
use Rattle.wrp_trace.specs.EventPrinting.{drift_text, drift_texts, drift_words, event_text, event_texts, link_text, move_text, move_texts, move_words, swap_text}
use Rattle.wrp_records.specs.Words.{IsWord, is_word_octet}
use Rattle.wrp_lines.proofs.LineWords.{at_word, hex_word, name_word}
use Rattle.wrp_records.proofs.WordLemmas.{AreWords, decimal_word, onto_word, signed_word}
use Rattle.wrp_asked.proofs.InputLines.{joined_word, word_append}

-- Texts of two parts, and texts that may be none

both_words : (a : List ℕ) (c : ℕ) (b : List ℕ) → IsWord a → is_word_octet c ≡ true → IsWord b → IsWord (a ++ c ∷ b)
both_words a c b h k l = word_append a (c ∷ b) h (onto_word c b k l)

maybe_word : (none : Bool) (text : List ℕ) → IsWord text → AreWords (if none then [] else text ∷ [])
maybe_word true text is = tt
maybe_word false text is = (is, tt)

-- Names

link_name : (o : Option LinkCfg) → ((link : LinkCfg) → o ≡ Some link → is_name link.name.bytes ≡ true)
    → IsWord (option_map_or (λ (link : LinkCfg). link.name.bytes) o [])
link_name None h = refl
link_name (Some link) h = name_word link.name.bytes (h link refl)

link_word : (cfg : NetCfg) → HasNames cfg → (l : ℕ) → IsWord (link_text cfg l)
link_word cfg names l = link_name (slice_get cfg.links.items l) (λ link e. names.link l link e)

-- Changes

drifts_are : (nodes : List NodeCfg) (drifts : List ℤ) → ((i : ℕ) (node : NodeCfg) → slice_get nodes i ≡ Some node → is_name node.name.bytes ≡ true)
    → AreWords (drift_texts nodes drifts)
drifts_are [] drifts named = tt
drifts_are (node ∷ nodes) [] named = tt
drifts_are (node ∷ nodes) (drift ∷ drifts) named =
    all_append IsWord (drift_text node drift) (drift_texts nodes drifts)
    (maybe_word (unsigned_abs drift == 0) (drift_words node drift)
    (both_words node.name.bytes 61 (signed_decimal drift) (name_word node.name.bytes (named 0 node refl)) refl (signed_word drift)))
    (drifts_are nodes drifts (λ i other e. named (suc i) other e))

moves_are : (links : List LinkCfg) (moves : List (ℤ × ℤ)) → ((i : ℕ) (link : LinkCfg) → slice_get links i ≡ Some link → is_name link.name.bytes ≡ true)
    → AreWords (move_texts links moves)
moves_are [] moves named = tt
moves_are (link ∷ links) [] named = tt
moves_are (link ∷ links) (move ∷ moves) named =
    all_append IsWord (move_text link move) (move_texts links moves)
    (maybe_word ((unsigned_abs move.0 == 0) && (unsigned_abs move.1 == 0)) (move_words link move)
    (both_words link.name.bytes 61 (signed_decimal move.0 ++ 47 ∷ signed_decimal move.1) (name_word link.name.bytes (named 0 link refl)) refl
    (both_words (signed_decimal move.0) 47 (signed_decimal move.1) (signed_word move.0) refl (signed_word move.1))))
    (moves_are links moves (λ i other e. named (suc i) other e))

swap_word : (swap : Swap) → IsSwap swap → IsWord (swap_text swap)
swap_word swap is =
    both_words (decimal swap.port) 58 (swap.name.bytes ++ 58 ∷ (decimal swap.tx ++ 58 ∷ decimal swap.rx)) (decimal_word swap.port) refl
    (both_words swap.name.bytes 58 (decimal swap.tx ++ 58 ∷ decimal swap.rx) (name_word swap.name.bytes is.name) refl
    (both_words (decimal swap.tx) 58 (decimal swap.rx) (decimal_word swap.tx) refl (decimal_word swap.rx)))

swaps_are : (swaps : List Swap) → AllByRecursion IsSwap swaps → AreWords (map swap_text swaps)
swaps_are [] are = tt
swaps_are (swap ∷ swaps) are = (swap_word swap are.0, swaps_are swaps are.1)

-- Events

texts_are : (cfg : NetCfg) (e : Event) → HasNames cfg → IsEventOf cfg e → AreWords (event_texts cfg e)
texts_are cfg (Pass dt drifts fibres) names is = (
  refl,
  (
    signed_word dt,
    all_append IsWord (drift_texts cfg.nodes.items drifts.items) (move_texts cfg.links.items fibres.items)
        (drifts_are cfg.nodes.items drifts.items (λ i node e. names.node i node e)) (moves_are cfg.links.items fibres.items (λ i link e. names.link i link e)),
  ),
)
texts_are cfg (Tick node) names is = (refl, (at_word cfg names node, tt))
texts_are cfg (Sample node base bits) names is = (refl, (at_word cfg names node, (decimal_word base, (hex_word (big_bytes 8 bits), tt))))
texts_are cfg (Depart node port stamp) names is = (refl, (at_word cfg names node, (decimal_word port, (signed_word stamp, tt))))
texts_are cfg (Arrive frame raw) names is = (refl, (decimal_word frame, (decimal_word raw.rising, (decimal_word raw.falling, (decimal_word raw.tag, tt)))))
texts_are cfg (Deliver frame) names is = (refl, (decimal_word frame, tt))
texts_are cfg (Noise node port octets raw) names is =
    (refl, (at_word cfg names node, (decimal_word port, (hex_word octets.items, (decimal_word raw.rising, (decimal_word raw.falling, (decimal_word raw.tag, tt)))))))
texts_are cfg (Down node) names is = (refl, (at_word cfg names node, tt))
texts_are cfg (Up node off swaps) names is = (refl, (at_word cfg names node, (signed_word off, swaps_are swaps.items is.2.each)))
texts_are cfg (Cut link) names is = (refl, (link_word cfg names link, tt))
texts_are cfg (Join link ms sm) names is = (refl, (link_word cfg names link, (signed_word ms, (signed_word sm, tt))))

pub event_word : (cfg : NetCfg) (e : Event) → HasNames cfg → IsEventOf cfg e → IsWord (event_text cfg e)
event_word cfg e names is = joined_word (event_texts cfg e) (texts_are cfg e names is)
