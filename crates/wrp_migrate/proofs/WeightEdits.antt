-- What an edit of a table adds to its weight.
use Rattle.std.proofs.Common.{◌≡◌, ◌≤◌, ◌+◌, ◌*◌, ℕ, Ordering, Less, Equal, Greater, nat_cmp, List, [], ◌∷◌, ◌++◌, length, Option, Some, None, option_map, refl, ap, inl, inr, ◌⊎◌, arith}
use Rattle.std.proofs.lemmas.Bool.{cases_Bool}
use Rattle.std.proofs.lemmas.Option.{none-some, same_Some}
use Rattle.std.specs.Cmp.Lexicographic.{slice_cmp}
use Rattle.toml.specs.Data.{Data, table, Items, no_items, item, push_item, same_key}
use Rattle.toml.specs.Tables.{Node, Nodes, no_nodes, node, value, open_table, open_array, Origin, implicit, dotted, header, get_node, insert, replace, close_node, close, Edit, header_node, dot_node, by_header, by_dot, along_header, along_dots, Definition, key_value, std_table, array_table, new_node, redefine, at_found, at_key, put, Document, Expression, define_as, define}
use Rattle.wrp_migrate.proofs.Weight.{brace_weight, key_weight, weight, items_weight, members_weight}

-- the weight of nodes, and of one of them
abbrev pub nodes_weight : Nodes → ℕ
nodes_weight ns = members_weight (close ns)

abbrev node_weight : List ℕ → Node → ℕ
node_weight k x = key_weight k (close_node x) + weight (close_node x)

-- ---- options

mapped : {A B : Type 0} (f : A → B) (o : Option A) (y : B) → option_map f o ≡ Some y → (x : A) × (o ≡ Some x) × (f x ≡ y)
mapped f None y e = absurd (none-some y e)
mapped f (Some x) y e = (x, refl, same_Some (f x) y e)

-- ---- arrays

pub push_weight : (ds : Items) (d : Data) → items_weight (push_item ds d) ≡ items_weight ds + (brace_weight d + weight d)
push_weight no_items d = omega arith
push_weight (item e ds) d = let more = push_weight ds d in omega (arith, more)

-- ---- a key that is new, and one that is there

cases_ordering : (o : Ordering) → (o ≡ Less) ⊎ ((o ≡ Equal) ⊎ (o ≡ Greater))
cases_ordering Less = inl refl
cases_ordering Equal = inr (inl refl)
cases_ordering Greater = inr (inr refl)

insert_weight : (k : List ℕ) (x : Node) (ns : Nodes) → get_node k ns ≡ None → nodes_weight (insert k x ns) ≡ nodes_weight ns + node_weight k x
insert_weight k x no_nodes none = omega arith
insert_weight k x (node l y ns) none =
    elim (cases_ordering (slice_cmp nat_cmp k l)) [
      | inl less ↦ rw less (omega arith)
      | inr (inl tie) ↦ let found = rw tie at none in absurd cc
      | inr (inr more) ↦ let on = insert_weight k x ns (rw more at none) in rw more (omega (arith, on))
    ]

-- a node weighs at most this much more than another, whatever its key is
abbrev IsHeavier : ℕ → Node → Node → Type 0
IsHeavier more x y = (k : List ℕ) → node_weight k y ≤ node_weight k x + more

replace_weight : (k : List ℕ) (x y : Node) (more : ℕ) (ns : Nodes) → IsHeavier more x y → get_node k ns ≡ Some x
    → nodes_weight (replace k y ns) ≤ nodes_weight ns + more
replace_weight k x y more no_nodes h found = absurd (none-some x found)
replace_weight k x y more (node l z ns) h found =
    elim (cases_Bool (same_key k l)) [
      | inl same ↦
          let here : z ≡ x = same_Some z x (rw same at found) in
          let heavier = h l in
          let as_here : node_weight l z ≡ node_weight l x = ap (node_weight l) here in
          rw same (omega (arith, heavier, as_here))
      | inr other ↦
          let on = replace_weight k x y more ns h (rw other at found) in
          rw other (omega (arith, on))
    ]

-- ---- edits

-- an edit adds at most this much
abbrev pub Adds : ℕ → Edit → Type 0
Adds more edit = (ns new : Nodes) → edit ns ≡ Some new → nodes_weight new ≤ nodes_weight ns + more

-- so it does in a table that a key made
missing_adds : (k : List ℕ) (origin : Origin) (more : ℕ) (edit : Edit) (ns new : Nodes) → Adds more edit → get_node k ns ≡ None
    → option_map (λ inner. insert k (open_table origin inner) ns) (edit no_nodes) ≡ Some new → nodes_weight new ≤ nodes_weight ns + more
missing_adds k origin more edit ns new adds none e =
    let made = mapped (λ inner. insert k (open_table origin inner) ns) (edit no_nodes) new e in
    let weighs = insert_weight k (open_table origin made.0) ns none in
    let inside = adds no_nodes made.0 made.1 in
    rw (← made.2) (omega (arith, weighs, inside))

-- and in one that was there
found_adds : (k : List ℕ) (x : Node) (more : ℕ) (o : Option Node) (ns new : Nodes) → get_node k ns ≡ Some x
    → ((y : Node) → o ≡ Some y → IsHeavier more x y) → option_map (λ y. replace k y ns) o ≡ Some new → nodes_weight new ≤ nodes_weight ns + more
found_adds k x more o ns new found heavier e =
    let made = mapped (λ y. replace k y ns) o new e in
    rw (← made.2) (replace_weight k x made.0 more ns (heavier made.0 made.1) found)

table_heavier : (origin later : Origin) (more : ℕ) (edit : Edit) (inner : Nodes) (y : Node) → Adds more edit
    → option_map (open_table later) (edit inner) ≡ Some y → IsHeavier more (open_table origin inner) y
table_heavier origin later more edit inner y adds e k =
    let made = mapped (open_table later) (edit inner) y e in
    let inside = adds inner made.0 made.1 in
    rw (← made.2) (omega (arith, inside))

header_heavier : (more : ℕ) (edit : Edit) (x y : Node) → Adds more edit → header_node edit x ≡ Some y → IsHeavier more x y
header_heavier more edit (value d) y adds e = absurd (none-some y e)
header_heavier more edit (open_table origin inner) y adds e = table_heavier origin origin more edit inner y adds e
header_heavier more edit (open_array done last) y adds e = λ k.
    let made = mapped (open_array done) (edit last) y e in
    let inside = adds last made.0 made.1 in
    let was = push_weight done (table (close last)) in
    let is = push_weight done (table (close made.0)) in
    rw (← made.2) (omega (arith, inside, was, is))

dot_heavier : (more : ℕ) (edit : Edit) (x y : Node) → Adds more edit → dot_node edit x ≡ Some y → IsHeavier more x y
dot_heavier more edit (value d) y adds e = absurd (none-some y e)
dot_heavier more edit (open_table header inner) y adds e = absurd (none-some y e)
dot_heavier more edit (open_table implicit inner) y adds e = table_heavier implicit dotted more edit inner y adds e
dot_heavier more edit (open_table dotted inner) y adds e = table_heavier dotted dotted more edit inner y adds e
dot_heavier more edit (open_array done last) y adds e = absurd (none-some y e)

by_header_adds : (k : List ℕ) (more : ℕ) (edit : Edit) (ns new : Nodes) (o : Option Node) → Adds more edit → get_node k ns ≡ o
    → by_header k edit ns o ≡ Some new → nodes_weight new ≤ nodes_weight ns + more
by_header_adds k more edit ns new None adds is e = missing_adds k implicit more edit ns new adds is e
by_header_adds k more edit ns new (Some x) adds is e =
    found_adds k x more (header_node edit x) ns new is (λ y made. header_heavier more edit x y adds made) e

by_dot_adds : (k : List ℕ) (more : ℕ) (edit : Edit) (ns new : Nodes) (o : Option Node) → Adds more edit → get_node k ns ≡ o
    → by_dot k edit ns o ≡ Some new → nodes_weight new ≤ nodes_weight ns + more
by_dot_adds k more edit ns new None adds is e = missing_adds k dotted more edit ns new adds is e
by_dot_adds k more edit ns new (Some x) adds is e =
    found_adds k x more (dot_node edit x) ns new is (λ y made. dot_heavier more edit x y adds made) e

header_adds : (path : List (List ℕ)) (more : ℕ) (edit : Edit) → Adds more edit → Adds more (along_header path edit)
unfolding along_header
header_adds [] more edit adds = adds
header_adds (k ∷ path) more edit adds = λ ns new e.
    by_header_adds k more (along_header path edit) ns new (get_node k ns) (header_adds path more edit adds) refl e

dots_add : (path : List (List ℕ)) (more : ℕ) (edit : Edit) → Adds more edit → Adds more (along_dots path edit)
unfolding along_dots
dots_add [] more edit adds = adds
dots_add (k ∷ path) more edit adds = λ ns new e.
    by_dot_adds k more (along_dots path edit) ns new (get_node k ns) (dots_add path more edit adds) refl e

-- ---- what is on a line

-- a header of an array of tables has its key and the brackets of an array with a table
abbrev pub definition_weight : List ℕ → Definition → ℕ
definition_weight k (key_value d) = key_weight k d + weight d
definition_weight k std_table = 0
definition_weight k array_table = 2 * length k + 10

redefined : (k : List ℕ) (what : Definition) (x y : Node) → redefine what x ≡ Some y → IsHeavier (definition_weight k what) x y
redefined k std_table (open_table implicit inner) y e l =
    let is : open_table header inner ≡ y = same_Some (open_table header inner) y e in rw (← is) (omega arith)
redefined k array_table (open_array done last) y e l =
    let next = open_array (push_item done (table (close last))) no_nodes in
    let is : next ≡ y = same_Some next y e in
    let more = push_weight (push_item done (table (close last))) (table (close no_nodes)) in
    rw (← is) (omega (arith, more))
redefined k _ _ y e l = absurd (none-some y e)

new_weight : (k : List ℕ) (what : Definition) → node_weight k (new_node what) ≤ definition_weight k what
new_weight k (key_value d) = omega arith
new_weight k std_table = omega arith
new_weight k array_table = omega arith

found_at : (k : List ℕ) (what : Definition) (ns new : Nodes) (o : Option Node) → get_node k ns ≡ o → at_found k what ns o ≡ Some new
    → nodes_weight new ≤ nodes_weight ns + definition_weight k what
found_at k what ns new None is e =
    let made : insert k (new_node what) ns ≡ new = same_Some (insert k (new_node what) ns) new e in
    let weighs = insert_weight k (new_node what) ns is in
    let own = new_weight k what in
    rw (← made) (omega (arith, weighs, own))
found_at k what ns new (Some x) is e = found_adds k x (definition_weight k what) (redefine what x) ns new is (λ y made. redefined k what x y made) e

key_adds : (k : List ℕ) (what : Definition) → Adds (definition_weight k what) (at_key k what)
unfolding at_key
key_adds k what ns new e = found_at k what ns new (get_node k ns) refl e

-- a pair that is put into a table
pub put_adds : (path : List (List ℕ)) (k : List ℕ) (d : Data) → Adds (key_weight k d + weight d) (put (path, k) d)
put_adds path k d = dots_add path (key_weight k d + weight d) (at_key k (key_value d)) (key_adds k (key_value d))

-- the weight that a line adds at most
abbrev pub line_weight : Expression → ℕ
line_weight e = definition_weight e.0.1 e.1

as_header : (doc : Document) (path : List (List ℕ)) (k : List ℕ) (what : Definition) (next : Document)
    → option_map (λ root. (root, path ++ k ∷ [])) (along_header path (at_key k what) doc.0) ≡ Some next
    → nodes_weight next.0 ≤ nodes_weight doc.0 + definition_weight k what
as_header doc path k what next e =
    let made = mapped (λ root. (root, path ++ k ∷ [])) (along_header path (at_key k what) doc.0) next e in
    let adds = header_adds path (definition_weight k what) (at_key k what) (key_adds k what) doc.0 made.0 made.1 in
    let is : made.0 ≡ next.0 = ap (λ p. p.0) made.2 in
    rw (← is) adds

defined_as : (doc : Document) (path : List (List ℕ)) (k : List ℕ) (what : Definition) (next : Document) → define_as doc (path, k) what ≡ Some next
    → nodes_weight next.0 ≤ nodes_weight doc.0 + definition_weight k what
defined_as doc path k (key_value d) next e =
    let more = key_weight k d + weight d in
    let made = mapped (λ root. (root, doc.1)) (along_header doc.1 (put (path, k) d) doc.0) next e in
    let adds = header_adds doc.1 more (put (path, k) d) (put_adds path k d) doc.0 made.0 made.1 in
    let is : made.0 ≡ next.0 = ap (λ p. p.0) made.2 in
    rw (← is) adds
defined_as doc path k std_table next e = as_header doc path k std_table next e
defined_as doc path k array_table next e = as_header doc path k array_table next e

pub define_adds : (doc : Document) (e : Expression) (next : Document) → define doc e ≡ Some next
    → nodes_weight next.0 ≤ nodes_weight doc.0 + line_weight e
unfolding define
define_adds doc e next is = defined_as doc e.0.0 e.0.1 e.1 next is
