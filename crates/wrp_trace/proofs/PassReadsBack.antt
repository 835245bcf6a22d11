-- The printed changes of a `pass` read back.
use Rattle.std.proofs.Common.{◌≡◌, ◌∙◌, ℕ, ℤ, pos, negsuc, zero, suc, ◌+◌, ◌&&◌, List, [], ◌∷◌, ◌++◌, Bool, true, false, Option, None, Some, Result, Ok, length, map, refl, sym, ap, ap₂, arith}
use Rattle.std.specs.Prelude.{◌==◌, if◌then◌else◌, unwrap_or, unsigned_abs, slice_get}
use Rattle.std.specs.List.{AllByRecursion}
use Rattle.std.specs.Fmt.{signed_decimal}
use Rattle.std.proofs.lemmas.Bool.{eqb-true, and_parts}
use Rattle.std.proofs.lemmas.Int.{ints}
use Rattle.std.proofs.lemmas.List.{append_assoc, set_at}
use Rattle.wrp_network.specs.declared.configuration.NetCfg.{NetCfg}
use Rattle.wrp_base.specs.declared.fault.TraceFault.{TraceFault}
use Rattle.wrp_network.specs.declared.network.LinkCfg.{LinkCfg}
use Rattle.wrp_network.specs.declared.network.NodeCfg.{NodeCfg}
use Rattle.wrp_network.specs.Network.{IsLink, IsNode}
use Rattle.wrp_base.proofs.Naturals.{zero_plus}
use Rattle.wrp_config.specs.Accepted.{HasNames}
use Rattle.wrp_trace.specs.Changes.{SaidAt, change_in, move_in, is_said, change_said, changes_said}
use Rattle.wrp_trace.specs.EventPrinting.{drift_words, drift_text, drift_texts, move_words, move_texts}
use Rattle.wrp_fields.specs.Reading.{◌>>=◌}
use Rattle.wrp_trace.proofs.EventParts.{name_part, signed_part, lacks_equals, lacks_slash, before_part, behind_part}
use Rattle.wrp_trace.proofs.NamesFound.{node_found, link_found, link_no_node}
use Rattle.wrp_trace.proofs.SignedLemmas.{number_in_back}
use Rattle.wrp_course.specs.EventAt.{IsChange, IsMove}

-- what a printed line says of a drift, and of a move
abbrev pub drift_of : ℤ → Option ℤ
drift_of drift = if unsigned_abs drift == 0 then None else Some drift

abbrev pub move_of : ℤ × ℤ → Option (ℤ × ℤ)
move_of move = if (unsigned_abs move.0 == 0) && (unsigned_abs move.1 == 0) then None else Some move

-- One field

change_back : (z : ℤ) → IsChange z → change_in (signed_decimal z) ≡ Some z
change_back z is =
    number_in_back (negsuc 9_223_372_036_854_775_806) (pos 9_223_372_036_854_775_807) z (omega (arith, ints, is)) (omega (arith, ints, is)) (omega (arith, is))

move_back : (move : ℤ × ℤ) → IsMove move → move_in (signed_decimal move.0 ++ 47 ∷ signed_decimal move.1) ≡ Some move
move_back move is =
    let lacks = lacks_slash (signed_decimal move.0) (signed_part move.0 (omega (arith, is.0))) in
    rw (
      before_part 47 (signed_decimal move.0) (signed_decimal move.1) lacks,
      behind_part 47 (signed_decimal move.0) (signed_decimal move.1) lacks,
      change_back move.0 is.0,
      change_back move.1 is.1,
    )
    refl

unsaid : {X : Type 0} (front rest : List (Option X)) (k : ℕ) → length front ≡ k → is_said (front ++ None ∷ rest) k ≡ false
unsaid [] rest zero e = refl
unsaid [] rest (suc k) e = absurd (omega (arith, e))
unsaid (o ∷ front) rest zero e = absurd (omega (arith, e))
unsaid (o ∷ front) rest (suc k) e = unsaid front rest k (omega (arith, e))

drift_back : (cfg : NetCfg) → HasNames cfg → (place k : ℕ) (node : NodeCfg) → IsNode cfg k node → (drift : ℤ) → IsChange drift
    → (front rest : List (Option ℤ)) → length front ≡ k → (moves : List (Option (ℤ × ℤ)))
    → change_said cfg place (record { drifts = front ++ None ∷ rest; moves = moves }) (drift_words node drift)
    ≡ Ok (record { drifts = front ++ Some drift ∷ rest; moves = moves })
drift_back cfg names place k node at drift is front rest size moves =
    let lacks = lacks_equals node.name.bytes (name_part node.name.bytes (names.node k node at)) in
    rw (
      before_part 61 node.name.bytes (signed_decimal drift) lacks,
      behind_part 61 node.name.bytes (signed_decimal drift) lacks,
      node_found cfg names k node at,
      change_back drift is,
      unsaid front rest k size,
      set_at front None rest (Some drift) k size,
    )
    refl

link_back : (cfg : NetCfg) → HasNames cfg → (place k : ℕ) (link : LinkCfg) → IsLink cfg k link → (move : ℤ × ℤ) → IsMove move
    → (front rest : List (Option (ℤ × ℤ))) → length front ≡ k → (drifts : List (Option ℤ))
    → change_said cfg place (record { drifts = drifts; moves = front ++ None ∷ rest }) (move_words link move)
    ≡ Ok (record { drifts = drifts; moves = front ++ Some move ∷ rest })
link_back cfg names place k link at move is front rest size drifts =
    let words = signed_decimal move.0 ++ 47 ∷ signed_decimal move.1 in
    let lacks = lacks_equals link.name.bytes (name_part link.name.bytes (names.link k link at)) in
    rw (
      before_part 61 link.name.bytes words lacks,
      behind_part 61 link.name.bytes words lacks,
      link_no_node cfg names k link at,
      link_found cfg names k link at,
      move_back move is,
      unsaid front rest k size,
      set_at front None rest (Some move) k size,
    )
    refl

-- All fields

shifted : {X : Type 0} (front : List X) (x : X) (rest : List X) → (front ++ x ∷ []) ++ rest ≡ front ++ x ∷ rest
shifted front x rest = append_assoc front (x ∷ []) rest

longer : {X : Type 0} (front : List X) (x : X) (k : ℕ) → length front ≡ k → length (front ++ x ∷ []) ≡ suc k
longer [] x k e = omega (arith, e)
longer (y ∷ front) x zero e = absurd (omega (arith, e))
longer (y ∷ front) x (suc k) e = ap (λ n. suc n) (longer front x k (omega (arith, e)))

-- what is said of a first node, or of none
first_drift : (cfg : NetCfg) → HasNames cfg → (place k : ℕ) (node : NodeCfg) → IsNode cfg k node → (drift : ℤ) → IsChange drift
    → (front rest : List (Option ℤ)) → length front ≡ k → (moves : List (Option (ℤ × ℤ))) (texts : List (List ℕ)) (answer : Result SaidAt TraceFault)
    → (b : Bool) → (unsigned_abs drift == 0) ≡ b
    → ((p : ℕ) → changes_said cfg p (record { drifts = (front ++ drift_of drift ∷ []) ++ rest; moves = moves }) texts ≡ answer)
    → changes_said cfg place (record { drifts = front ++ None ∷ rest; moves = moves }) ((if b then [] else drift_words node drift ∷ []) ++ texts) ≡ answer
first_drift cfg names place k node at drift is front rest size moves texts answer true e ends =
    ap (λ l. changes_said cfg place (record { drifts = l; moves = moves }) texts)
    (sym (shifted front None rest) ∙ ap (λ b. (front ++ (if b then None else Some drift) ∷ []) ++ rest) (sym e))
    ∙ ends place
first_drift cfg names place k node at drift is front rest size moves texts answer false e ends =
    ap (λ r. r >>= (λ more. changes_said cfg (place + 1) more texts)) (drift_back cfg names place k node at drift is front rest size moves)
    ∙ ap (λ l. changes_said cfg (place + 1) (record { drifts = l; moves = moves }) texts)
    (sym (shifted front (Some drift) rest) ∙ ap (λ b. (front ++ (if b then None else Some drift) ∷ []) ++ rest) (sym e))
    ∙ ends (place + 1)

first_move : (cfg : NetCfg) → HasNames cfg → (place k : ℕ) (link : LinkCfg) → IsLink cfg k link → (move : ℤ × ℤ) → IsMove move
    → (front rest : List (Option (ℤ × ℤ))) → length front ≡ k → (drifts : List (Option ℤ)) (texts : List (List ℕ)) (answer : Result SaidAt TraceFault)
    → (b : Bool) → ((unsigned_abs move.0 == 0) && (unsigned_abs move.1 == 0)) ≡ b
    → ((p : ℕ) → changes_said cfg p (record { drifts = drifts; moves = (front ++ move_of move ∷ []) ++ rest }) texts ≡ answer)
    → changes_said cfg place (record { drifts = drifts; moves = front ++ None ∷ rest }) ((if b then [] else move_words link move ∷ []) ++ texts) ≡ answer
first_move cfg names place k link at move is front rest size drifts texts answer true e ends =
    ap (λ l. changes_said cfg place (record { drifts = drifts; moves = l }) texts)
    (sym (shifted front None rest) ∙ ap (λ b. (front ++ (if b then None else Some move) ∷ []) ++ rest) (sym e))
    ∙ ends place
first_move cfg names place k link at move is front rest size drifts texts answer false e ends =
    ap (λ r. r >>= (λ more. changes_said cfg (place + 1) more texts)) (link_back cfg names place k link at move is front rest size drifts)
    ∙ ap (λ l. changes_said cfg (place + 1) (record { drifts = drifts; moves = l }) texts)
    (sym (shifted front (Some move) rest) ∙ ap (λ b. (front ++ (if b then None else Some move) ∷ []) ++ rest) (sym e))
    ∙ ends (place + 1)

-- the nodes from a place on
abbrev pub AreNodesFrom : NetCfg → ℕ → List NodeCfg → Type 0
AreNodesFrom cfg k nodes = (i : ℕ) (node : NodeCfg) → slice_get nodes i ≡ Some node → IsNode cfg (k + i) node

abbrev pub AreLinksFrom : NetCfg → ℕ → List LinkCfg → Type 0
AreLinksFrom cfg k links = (i : ℕ) (link : LinkCfg) → slice_get links i ≡ Some link → IsLink cfg (k + i) link

pub all_nodes : (cfg : NetCfg) → AreNodesFrom cfg 0 cfg.nodes.items
all_nodes cfg i node e = ap (slice_get cfg.nodes.items) (zero_plus i) ∙ e

pub all_links : (cfg : NetCfg) → AreLinksFrom cfg 0 cfg.links.items
all_links cfg i link e = ap (slice_get cfg.links.items) (zero_plus i) ∙ e

drifts_back : (cfg : NetCfg) → HasNames cfg → (place k : ℕ) (nodes : List NodeCfg) → AreNodesFrom cfg k nodes
    → (drifts : List ℤ) → length drifts ≡ length nodes → AllByRecursion IsChange drifts
    → (front : List (Option ℤ)) → length front ≡ k → (moves : List (Option (ℤ × ℤ))) (texts : List (List ℕ)) (answer : Result SaidAt TraceFault)
    → ((p : ℕ) → changes_said cfg p (record { drifts = front ++ map drift_of drifts; moves = moves }) texts ≡ answer)
    → changes_said cfg place (record { drifts = front ++ map (λ node. None) nodes; moves = moves }) (drift_texts nodes drifts ++ texts) ≡ answer
drifts_back cfg names place k [] at [] same are front size moves texts answer ends = ends place
drifts_back cfg names place k [] at (d ∷ drifts) same are front size moves texts answer ends = absurd (omega (arith, same))
drifts_back cfg names place k (node ∷ nodes) at [] same are front size moves texts answer ends = absurd (omega (arith, same))
drifts_back cfg names place k (node ∷ nodes) at (d ∷ drifts) same are front size moves texts answer ends =
    let here : IsNode cfg k node = ap (slice_get cfg.nodes.items) (omega arith) ∙ at 0 node refl in
    let later : AreNodesFrom cfg (suc k) nodes = (λ i other e. ap (slice_get cfg.nodes.items) (omega arith) ∙ at (suc i) other e) in
    ap (changes_said cfg place (record { drifts = front ++ None ∷ map (λ n. None) nodes; moves = moves })) (append_assoc (drift_text node d) (drift_texts nodes drifts) texts)
    ∙ first_drift cfg names place k node here d are.0 front (map (λ n. None) nodes) size moves (drift_texts nodes drifts ++ texts) answer (unsigned_abs d == 0) refl
    (λ p. drifts_back cfg names p (suc k) nodes later drifts (omega (arith, same)) are.1 (front ++ drift_of d ∷ []) (longer front (drift_of d) k size) moves texts answer
    (λ q. ap (λ l. changes_said cfg q (record { drifts = l; moves = moves }) texts) (shifted front (drift_of d) (map drift_of drifts)) ∙ ends q))

moves_back : (cfg : NetCfg) → HasNames cfg → (place k : ℕ) (links : List LinkCfg) → AreLinksFrom cfg k links
    → (moves : List (ℤ × ℤ)) → length moves ≡ length links → AllByRecursion IsMove moves
    → (front : List (Option (ℤ × ℤ))) → length front ≡ k → (drifts : List (Option ℤ))
    → changes_said cfg place (record { drifts = drifts; moves = front ++ map (λ link. None) links }) (move_texts links moves)
    ≡ Ok (record { drifts = drifts; moves = front ++ map move_of moves })
moves_back cfg names place k [] at [] same are front size drifts = refl
moves_back cfg names place k [] at (m ∷ moves) same are front size drifts = absurd (omega (arith, same))
moves_back cfg names place k (link ∷ links) at [] same are front size drifts = absurd (omega (arith, same))
moves_back cfg names place k (link ∷ links) at (m ∷ moves) same are front size drifts =
    let here : IsLink cfg k link = ap (slice_get cfg.links.items) (omega arith) ∙ at 0 link refl in
    let later : AreLinksFrom cfg (suc k) links = (λ i other e. ap (slice_get cfg.links.items) (omega arith) ∙ at (suc i) other e) in
    first_move cfg names place k link here m are.0 front (map (λ n. None) links) size drifts (move_texts links moves)
    (Ok (record { drifts = drifts; moves = front ++ move_of m ∷ map move_of moves }))
    ((unsigned_abs m.0 == 0) && (unsigned_abs m.1 == 0)) refl
    (λ p. moves_back cfg names p (suc k) links later moves (omega (arith, same)) are.1 (front ++ move_of m ∷ []) (longer front (move_of m) k size) drifts
    ∙ ap (λ l. Ok (record { drifts = drifts; moves = l })) (shifted front (move_of m) (map move_of moves)))

-- all that a printed `pass` says
pub changes_back : (cfg : NetCfg) → HasNames cfg → (drifts : List ℤ) → length drifts ≡ length cfg.nodes.items → AllByRecursion IsChange drifts
    → (moves : List (ℤ × ℤ)) → length moves ≡ length cfg.links.items → AllByRecursion IsMove moves
    → changes_said cfg 3 (record { drifts = map (λ node. None) cfg.nodes.items; moves = map (λ link. None) cfg.links.items })
    (drift_texts cfg.nodes.items drifts ++ move_texts cfg.links.items moves)
    ≡ Ok (record { drifts = map drift_of drifts; moves = map move_of moves })
changes_back cfg names drifts nodes are moves links all =
    drifts_back cfg names 3 0 cfg.nodes.items (all_nodes cfg) drifts nodes are [] refl (map (λ link. None) cfg.links.items) (move_texts cfg.links.items moves)
    (Ok (record { drifts = map drift_of drifts; moves = map move_of moves }))
    (λ p. moves_back cfg names p 0 cfg.links.items (all_links cfg) moves links all [] refl (map drift_of drifts))

-- Numbers again

no_size : (z : ℤ) → (unsigned_abs z == 0) ≡ true → z ≡ pos 0
no_size (pos n) e = ap (λ m. pos m) (eqb-true n 0 e)
no_size (negsuc n) e = absurd (omega (arith, eqb-true (suc n) 0 e))

drift_again : (z : ℤ) (b : Bool) → (unsigned_abs z == 0) ≡ b → unwrap_or (if b then None else Some z) (pos 0) ≡ z
drift_again z true e = sym (no_size z e)
drift_again z false e = refl

move_again : (move : ℤ × ℤ) (b : Bool) → ((unsigned_abs move.0 == 0) && (unsigned_abs move.1 == 0)) ≡ b
    → unwrap_or (if b then None else Some move) (pos 0, pos 0) ≡ move
move_again move true e =
    let both = and_parts (unsigned_abs move.0 == 0) (unsigned_abs move.1 == 0) e in
    ap₂ (λ a b. (a, b)) (sym (no_size move.0 both.0)) (sym (no_size move.1 both.1))
move_again move false e = refl

pub drifts_again : (drifts : List ℤ) → map (λ d. unwrap_or d (pos 0)) (map drift_of drifts) ≡ drifts
drifts_again [] = refl
drifts_again (d ∷ drifts) = ap₂ (λ x xs. x ∷ xs) (drift_again d (unsigned_abs d == 0) refl) (drifts_again drifts)

pub moves_again : (moves : List (ℤ × ℤ)) → map (λ m. unwrap_or m (pos 0, pos 0)) (map move_of moves) ≡ moves
moves_again [] = refl
moves_again (m ∷ moves) =
    ap₂ (λ x xs. x ∷ xs) (move_again m ((unsigned_abs m.0 == 0) && (unsigned_abs m.1 == 0)) refl) (moves_again moves)
