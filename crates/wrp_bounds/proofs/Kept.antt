-- A network passes the check if and only if it keeps each inequality.
use Rattle.std.proofs.Common.{◌≡◌, ℕ, pos, zero, suc, ◌+◌, ◌*◌, ◌<◌, ◌≤◌, refl, ap, ap₂, sym, ◌∙◌, List, [], ◌∷◌, Bool, false, not, Option, Some, None, length, arith}
use Rattle.std.proofs.lemmas.Int.{ints}
use Rattle.std.specs.Prelude.{find, int_lt}
use Rattle.std.specs.Option.{option_map, option_or}
use Rattle.std.specs.List.{cons_option}
use Rattle.wrp_network.specs.declared.configuration.NetCfg.{NetCfg}
use Rattle.wrp_network.specs.declared.network.NodeCfg.{NodeCfg}
use Rattle.wrp_base.specs.Clock.{period_of}
use Rattle.wrp_network.specs.Network.{node_count}
use Rattle.wrp_base.proofs.Lists.{first_passed, passes_first}
use Rattle.wrp_bounds.specs.declared.inequality.Inequality.{Inequality}
use Rattle.wrp_bounds.specs.declared.numbers.HopNumbers.{HopNumbers}
use Rattle.wrp_bounds.specs.Bounds.{numbers_of}
use Rattle.wrp_bounds.proofs.FirstBroken.{before_rooms, behind_rooms, first_in_parts}
use Rattle.wrp_bounds.specs.Hop.{gap_motion, detector_error}
use Rattle.wrp_bounds.specs.Inequalities.{is_broken, quiet_time, holdover_time, phase_room, phase_room_of, phase_rooms, phase_rooms_from, tick_times, holdoff_time, flight_time, lock_counts, id_reuse, port_delays, inequalities, KeepsInequalities}

-- what the comparisons say of numbers without sign
less_kept : (a b : ℕ) → not (int_lt (pos a) (pos b)) ≡ false → a < b
less_kept a b is = grind (arith, ints)

at_most_kept : (a b : ℕ) → not (not (int_lt (pos b) (pos a))) ≡ false → a ≤ b
at_most_kept a b is = grind (arith, ints)

less_keeps : (a b : ℕ) → a < b → not (int_lt (pos a) (pos b)) ≡ false
less_keeps a b is = grind (arith, ints)

at_most_keeps : (a b : ℕ) → a ≤ b → not (not (int_lt (pos b) (pos a))) ≡ false
at_most_keeps a b is = grind (arith, ints)

-- the same of an element that may come first
some_passed : {X : Type 0} (p : X → Bool) (o : Option X) (xs : List X) → find p (cons_option o xs) ≡ None → ((x : X) → o ≡ Some x → p x ≡ false) × (find p xs ≡ None)
some_passed p None xs none = (λ x is. absurd (cc), none)
some_passed p (Some y) xs none =
    let both : (p y ≡ false) × (find p xs ≡ None) = first_passed p y xs none in
    (λ x is. let same : y ≡ x = cc in ap p (sym same) ∙ both.0, both.1)

passes_some : {X : Type 0} (p : X → Bool) (o : Option X) (xs : List X) → ((x : X) → o ≡ Some x → p x ≡ false) → find p xs ≡ None → find p (cons_option o xs) ≡ None
passes_some p None xs none rest = rest
passes_some p (Some y) xs none rest = passes_first p y xs (none y refl) rest

-- the third inequality is kept at each of these nodes
rooms_kept : (net : NetCfg) (from : ℕ) (nodes : List NodeCfg) → find is_broken (phase_rooms_from net from nodes) ≡ None →
    (n : ℕ) (room : Inequality) → n < length nodes → phase_room_of net (from + n) ≡ Some room → is_broken room ≡ false
rooms_kept net from [] none n room within is = absurd (omega arith)
rooms_kept net from (node ∷ nodes) none zero room within is =
    (some_passed is_broken (phase_room_of net from) (phase_rooms_from net (from + 1) nodes) none).0 room (ap (phase_room_of net) (omega arith) ∙ is)
rooms_kept net from (node ∷ nodes) none (suc n) room within is =
    rooms_kept net (from + 1) nodes (some_passed is_broken (phase_room_of net from) (phase_rooms_from net (from + 1) nodes) none).1 n room (omega arith)
    (let place : from + 1 + n ≡ from + suc n = omega arith in ap (phase_room_of net) place ∙ is)

-- and a search finds nothing if it is kept at each
rooms_keep : (net : NetCfg) (from : ℕ) (nodes : List NodeCfg) →
    ((n : ℕ) (room : Inequality) → n < length nodes → phase_room_of net (from + n) ≡ Some room → is_broken room ≡ false) →
    find is_broken (phase_rooms_from net from nodes) ≡ None
rooms_keep net from [] kept = refl
rooms_keep net from (node ∷ nodes) kept =
    passes_some is_broken (phase_room_of net from) (phase_rooms_from net (from + 1) nodes)
    (λ room is. let place : from + 0 ≡ from = omega arith in kept 0 room (omega arith) (ap (phase_room_of net) place ∙ is))
    (rooms_keep net (from + 1) nodes (λ n room within is. let place : from + suc n ≡ from + 1 + n = omega arith in kept (suc n) room (omega arith) (ap (phase_room_of net) place ∙ is)))

-- each of these does not pass the test
abbrev FailsEach : {X : Type 0} → (X → Bool) → List X → Type 0
FailsEach p [] = Unit {0}
FailsEach p (x ∷ xs) = (p x ≡ false) × FailsEach p xs

fails_each : {X : Type 0} (p : X → Bool) (xs : List X) → find p xs ≡ None → FailsEach p xs
fails_each p [] none = tt
fails_each p (x ∷ xs) none =
    let both : (p x ≡ false) × (find p xs ≡ None) = first_passed p x xs none in
    (both.0, fails_each p xs both.1)

none_passes : {X : Type 0} (p : X → Bool) (xs : List X) → FailsEach p xs → find p xs ≡ None
none_passes p [] fails = refl
none_passes p (x ∷ xs) fails = passes_first p x xs fails.0 (none_passes p xs fails.1)

-- of three searches in a row none finds anything if and only if each finds nothing
none_of_three : {X : Type 0} (a b c : Option X) → option_or (option_or a b) c ≡ None → (a ≡ None) × (b ≡ None) × (c ≡ None)
none_of_three None None c none = (refl, refl, none)
none_of_three None (Some x) c none = absurd (cc)
none_of_three (Some x) b c none = absurd (cc)

-- the third inequality at a node is the third inequality of the node's hop
room_of : (net : NetCfg) (o : Option HopNumbers) (room : Inequality) → option_map (phase_room net) o ≡ Some room → (k : HopNumbers) × (o ≡ Some k) × (phase_room net k ≡ room)
room_of net None room is = absurd (cc)
room_of net (Some k) room is = (k, refl, cc)

room_kept : (net : NetCfg) (n : ℕ) (k : HopNumbers) → find is_broken (phase_rooms net) ≡ None → n < node_count net → numbers_of net n ≡ Some k →
    2 * gap_motion k + 4 * detector_error k < period_of net.clock
unfolding phase_room phase_room_of
room_kept net n k none within is =
    let place : 0 + n ≡ n = omega arith in
    less_kept (2 * gap_motion k + 4 * detector_error k) (period_of net.clock)
    (rooms_kept net 0 net.nodes.items none n (phase_room net k) within (ap (phase_room_of net) place ∙ ap (option_map (phase_room net)) is))

room_keeps : (net : NetCfg) (n : ℕ) (room : Inequality) → KeepsInequalities net → n < node_count net → phase_room_of net (0 + n) ≡ Some room → is_broken room ≡ false
unfolding phase_room phase_room_of
room_keeps net n room keeps within is =
    let place : n ≡ 0 + n = omega arith in
    let at : (k : HopNumbers) × (numbers_of net n ≡ Some k) × (phase_room net k ≡ room) = room_of net (numbers_of net n) room (ap (phase_room_of net) place ∙ is) in
    ap is_broken (sym at.2) ∙ less_keeps (2 * gap_motion at.0 + 4 * detector_error at.0) (period_of net.clock) (keeps.phase_room n at.0 within at.1)

-- if no inequality is broken, each is kept
pub kept_of_none : (net : NetCfg) → find is_broken (inequalities net) ≡ None → KeepsInequalities net
unfolding quiet_time holdover_time tick_times holdoff_time flight_time lock_counts id_reuse port_delays
kept_of_none net none =
    let three : (find is_broken (before_rooms net) ≡ None) × (find is_broken (phase_rooms net) ≡ None) × (find is_broken (behind_rooms net) ≡ None) =
    none_of_three (find is_broken (before_rooms net)) (find is_broken (phase_rooms net)) (find is_broken (behind_rooms net)) (first_in_parts net ∙ none) in
    let before : FailsEach is_broken (before_rooms net) = fails_each is_broken (before_rooms net) three.0 in
    let behind : FailsEach is_broken (behind_rooms net) = fails_each is_broken (behind_rooms net) three.2 in
    record {
      quiet_time = less_kept _ _ before.0;
      holdover_time = less_kept _ _ before.1.0;
      phase_room = λ n k within is. room_kept net n k three.1 within is;
      tick_times = at_most_kept _ _ behind.0;
      holdoff_time = at_most_kept _ _ behind.1.0;
      flight_time = at_most_kept _ _ behind.1.1.0;
      lock_counts = less_kept _ _ behind.1.1.1.0;
      id_reuse = less_kept _ _ behind.1.1.1.1.0;
      port_delays = at_most_kept _ _ behind.1.1.1.1.1.0;
    }

-- if each is kept, none is broken
pub none_of_kept : (net : NetCfg) → KeepsInequalities net → find is_broken (inequalities net) ≡ None
unfolding quiet_time holdover_time tick_times holdoff_time flight_time lock_counts id_reuse port_delays
none_of_kept net keeps =
    let before : find is_broken (before_rooms net) ≡ None =
    none_passes is_broken (before_rooms net) (less_keeps _ _ keeps.quiet_time, (less_keeps _ _ keeps.holdover_time, tt)) in
    let rooms : find is_broken (phase_rooms net) ≡ None =
    rooms_keep net 0 net.nodes.items (λ n room within is. room_keeps net n room keeps within is) in
    let behind : find is_broken (behind_rooms net) ≡ None =
    none_passes is_broken (behind_rooms net)
    (at_most_keeps _ _ keeps.tick_times, (at_most_keeps _ _ keeps.holdoff_time, (at_most_keeps _ _ keeps.flight_time, (less_keeps _ _ keeps.lock_counts, (less_keeps _ _ keeps.id_reuse, (at_most_keeps _ _ keeps.port_delays, tt)))))) in
    sym (first_in_parts net) ∙ ap₂ (λ (ab c : Option Inequality). option_or ab c) (ap₂ option_or before rooms) behind
