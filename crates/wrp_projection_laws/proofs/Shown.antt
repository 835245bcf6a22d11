-- A text with the lines of nodes, and the part of it for one node.
use Rattle.std.proofs.Common.{◌≡◌, ◌∙◌, refl, ap, ap₂, sym, subst, append-nil, ℕ, ℤ, pos, zero, suc, ◌+◌, ◌<◌, ◌≤◌, ◌==◌, Bool, true, false, cond, if◌then◌else◌, List, [], ◌∷◌, ◌++◌, map, flat_map, take, Option, None, Some, option_map, slice_get, codes, arith}
use Rattle.std.specs.Fmt.{decimal}
use Rattle.std.specs.List.{AllByRecursion, concat, filter}
use Rattle.std.specs.Option.{option_map_or}
use Rattle.std.proofs.lemmas.Bool.{eq-eqb, eqb-true}
use Rattle.std.proofs.lemmas.List.{map-append}
use Rattle.std.proofs.lemmas.List.Elements.{filter-append}
use Rattle.std.proofs.lemmas.List.Folds.{concat-append}
use Rattle.std.proofs.lemmas.Option.{slice_get-map}
use Rattle.wrp_network.specs.declared.configuration.NetCfg.{NetCfg}
use Rattle.wrp_network.specs.declared.network.NodeCfg.{NodeCfg}
use Rattle.wrp_network.specs.Network.{name_at, node_count}
use Rattle.wrp_base.proofs.Lists.{all_append}
use Rattle.wrp_bounds.specs.Bounds.{path_of}
use Rattle.wrp_caldb.specs.Name.{is_name, same_name}
use Rattle.wrp_config.proofs.Lists.{found_place, same_is, same_refl}
use Rattle.wrp_config.specs.Accepted.{HasNames}
use Rattle.wrp_config.specs.Names.{node_named}
use Rattle.wrp_data.specs.Counters.{count_at}
use Rattle.wrp_data.specs.Reason.{number_of, reasons}
use Rattle.wrp_lines.specs.Lines.{count_line_of, output_words}
use Rattle.wrp_records.specs.Words.{line_of}
use Rattle.wrp_lines.specs.Words.{reason_word}
use Rattle.wrp_node.specs.declared.interface.Output.{Output}
use Rattle.wrp_node.specs.declared.interface.Output.TheVariants as output
use Rattle.wrp_node.specs.declared.interface.Report.TheVariants.{Link, Servo, Track}
use Rattle.wrp_node.specs.NodeAt.{NodeAt}
use Rattle.wrp_trace.specs.LineSetting.{LineSetting, has_port}
use Rattle.wrp_course.specs.Setting.{from_on}
use Rattle.wrp_records.specs.Lines.{IsWhole, lines_of}
use Rattle.wrp_replay.specs.NodeText.{node_counts, nonzero_line, port_counts, port_numbers}
use Rattle.wrp_records.proofs.Reaching.{lines_alone}
use Rattle.wrp_projection_laws.specs.Projection.{IsProjection, PutOut, audit_line, begins_with, lines_of_node, node_of, of_node, replay_line, without_truth, words_of}
use Rattle.wrp_projection_laws.proofs.Texts.{AreWords, IsWord, cut_back, decimal_word, hex_word, line_whole, link_is_word, name_word, reason_is_word, servo_is_word, signed_word, words_back}

-- A line of a node, and the part of it that is shown without the true offset
record Entry : Type 0 where
  node : ℕ
  full : List ℕ
  short : List ℕ

record IsLine (cfg : NetCfg) (e : Entry) : Type 0 where
  rest : List (List ℕ)
  words : AreWords (name_at cfg e.node ∷ rest)
  full : e.full ≡ line_of (name_at cfg e.node ∷ rest)
  short : e.short ≡ line_of (take 5 (name_at cfg e.node ∷ rest))

abbrev is_own : ℕ → Entry → Bool
is_own n e = e.node == n

abbrev full_of : Entry → List ℕ
full_of e = e.full

abbrev short_of : Entry → List ℕ
short_of e = e.short

-- a text of such lines, and the part that is shown for one node
record Shown (cfg : NetCfg) (n : ℕ) (text part : List ℕ) : Type 0 where
  es : List Entry
  lines : AllByRecursion (IsLine cfg) es
  full : text ≡ concat (map full_of es)
  short : part ≡ concat (map short_of (filter (is_own n) es))

shown_none : (cfg : NetCfg) (n : ℕ) → Shown cfg n [] []
shown_none cfg n = record { es = []; lines = tt; full = refl; short = refl }

one_short : (b : Bool) (e : Entry) → (if b then e.short else []) ≡ concat (map short_of (cond b (e ∷ []) []))
one_short true e = sym (append-nil e.short)
one_short false e = refl

shown_one : (cfg : NetCfg) (n : ℕ) (e : Entry) → IsLine cfg e → Shown cfg n e.full (if e.node == n then e.short else [])
shown_one cfg n e is = record { es = e ∷ []; lines = (is, tt); full = sym (append-nil e.full); short = one_short (e.node == n) e }

shown_both : (cfg : NetCfg) (n : ℕ) (full other short more : List ℕ) → Shown cfg n full short → Shown cfg n other more
    → Shown cfg n (full ++ other) (short ++ more)
shown_both cfg n full other short more a b = record {
  es = a.es ++ b.es;
  lines = all_append (IsLine cfg) a.es b.es a.lines b.lines;
  full =
      ap₂ (λ (x y : List ℕ). x ++ y) a.full b.full ∙ sym (concat-append (map full_of a.es) (map full_of b.es)) ∙ ap concat (sym (map-append full_of a.es b.es));
  short = ap₂ (λ (x y : List ℕ). x ++ y) a.short b.short ∙ sym (concat-append (map short_of (filter (is_own n) a.es)) (map short_of (filter (is_own n) b.es)))
      ∙ ap concat (sym (map-append short_of (filter (is_own n) a.es) (filter (is_own n) b.es)))
      ∙ ap (λ (es : List Entry). concat (map short_of es)) (sym (filter-append (is_own n) a.es b.es));
}

shown_all : {A : Type 0} (cfg : NetCfg) (n : ℕ) (f g : A → List ℕ) → ((x : A) → Shown cfg n (f x) (g x)) → (xs : List A)
    → Shown cfg n (flat_map f xs) (flat_map g xs)
shown_all cfg n f g h [] = shown_none cfg n
shown_all cfg n f g h (x ∷ xs) = shown_both cfg n (f x) (flat_map f xs) (g x) (flat_map g xs) (h x) (shown_all cfg n f g h xs)

-- The lines of the node, picked by their first words

whole_line : (cfg : NetCfg) (e : Entry) → IsLine cfg e → IsWhole e.full
whole_line cfg e is = subst IsWhole (sym is.full) (line_whole (name_at cfg e.node) is.rest is.words)

whole_lines : (cfg : NetCfg) (es : List Entry) → AllByRecursion (IsLine cfg) es → AllByRecursion IsWhole (map full_of es)
whole_lines cfg [] h = tt
whole_lines cfg (e ∷ es) h = (whole_line cfg e h.0, whole_lines cfg es h.1)

picked_by : (b : Bool) (e : Entry) (rest : List (List ℕ)) (others : List Entry) → without_truth e.full ≡ e.short
    → flat_map without_truth rest ≡ concat (map short_of others)
    → flat_map without_truth (cond b (e.full ∷ rest) rest) ≡ concat (map short_of (cond b (e ∷ others) others))
picked_by true e rest others cut later = ap₂ (λ (x y : List ℕ). x ++ y) cut later
picked_by false e rest others cut later = later

picked : (cfg : NetCfg) (name : List ℕ) (n : ℕ) → ((m : ℕ) → same_name (name_at cfg m) name ≡ (m == n)) → (es : List Entry) → AllByRecursion (IsLine cfg) es
    → flat_map without_truth (filter (λ line. begins_with name (words_of line)) (map full_of es)) ≡ concat (map short_of (filter (is_own n) es))
picked cfg name n named [] h = refl
picked cfg name n named (e ∷ es) h =
    let rest : List (List ℕ) = filter (λ line. begins_with name (words_of line)) (map full_of es) in
    let own : begins_with name (words_of e.full) ≡ (e.node == n) =
    ap (λ (l : List ℕ). begins_with name (words_of l)) h.0.full ∙ ap (begins_with name) (words_back (name_at cfg e.node) h.0.rest h.0.words) ∙ named e.node in
    let cut : without_truth e.full ≡ e.short = ap without_truth h.0.full ∙ cut_back (name_at cfg e.node) h.0.rest h.0.words ∙ sym h.0.short in
    ap (λ (b : Bool). flat_map without_truth (cond b (e.full ∷ rest) rest)) own
    ∙ picked_by (e.node == n) e rest (filter (is_own n) es) cut (picked cfg name n named es h.1)

shown_lines : (cfg : NetCfg) (name : List ℕ) (n : ℕ) (full short : List ℕ) → ((m : ℕ) → same_name (name_at cfg m) name ≡ (m == n)) → Shown cfg n full short
    → lines_of_node name full ≡ short
shown_lines cfg name n full short named shown =
    ap (λ (ls : List (List ℕ)). flat_map without_truth (filter (λ line. begins_with name (words_of line)) ls))
    (ap lines_of shown.full ∙ lines_alone (map full_of shown.es) (whole_lines cfg shown.es shown.lines))
    ∙ picked cfg name n named shown.es shown.lines ∙ sym shown.short

-- The lines of outputs

output_are_words : (o : Output) (bound : ℤ) (truth : Option ℤ) → AreWords (output_words o bound truth)
output_are_words (output.Send port frame) bound truth = (refl, (decimal_word port, (hex_word frame.items, tt)))
output_are_words (output.Step cycles) bound truth = (refl, (signed_word cycles, tt))
output_are_words (output.Dac value) bound truth = (refl, (decimal_word value, tt))
output_are_words (output.Report (Link port word)) bound truth = (refl, (decimal_word port, (link_is_word word, tt)))
output_are_words (output.Report (Servo state)) bound truth = (refl, (servo_is_word state, tt))
output_are_words (output.Report (Track est)) bound None = (refl, (signed_word est, (signed_word bound, tt)))
output_are_words (output.Report (Track est)) bound (Some off) = (refl, (signed_word est, (signed_word bound, (refl, (signed_word off, tt)))))

-- the true offset comes after the fifth word
fifth : (name tick : List ℕ) (o : Output) (bound off : ℤ) → take 5 (name ∷ tick ∷ output_words o bound (Some off)) ≡ name ∷ tick ∷ output_words o bound None
fifth name tick (output.Send port frame) bound off = refl
fifth name tick (output.Step cycles) bound off = refl
fifth name tick (output.Dac value) bound off = refl
fifth name tick (output.Report (Link port word)) bound off = refl
fifth name tick (output.Report (Servo state)) bound off = refl
fifth name tick (output.Report (Track est)) bound off = refl

output_shown : (cfg : NetCfg) (n : ℕ) → ((m : ℕ) → IsWord (name_at cfg m)) → (x : PutOut)
    → Shown cfg n (audit_line cfg x) (if x.node == n then replay_line cfg x else [])
output_shown cfg n words x =
    shown_one cfg n (record { node = x.node; full = audit_line cfg x; short = replay_line cfg x })
    (record {
      rest = decimal x.tick ∷ output_words x.output (pos (path_of cfg x.node)) (Some x.off);
      words = (words x.node, (decimal_word x.tick, output_are_words x.output (pos (path_of cfg x.node)) (Some x.off)));
      full = refl;
      short = ap line_of (sym (fifth (name_at cfg x.node) (decimal x.tick) x.output (pos (path_of cfg x.node)) x.off));
    })

out_by : (cfg : NetCfg) (b : Bool) (x : PutOut) (rest : List ℕ) (others : List PutOut) → rest ≡ flat_map (replay_line cfg) others
    → (if b then replay_line cfg x else []) ++ rest ≡ flat_map (replay_line cfg) (cond b (x ∷ others) others)
out_by cfg true x rest others later = ap (λ (l : List ℕ). replay_line cfg x ++ l) later
out_by cfg false x rest others later = later

outs_are : (cfg : NetCfg) (n : ℕ) (outs : List PutOut)
    → flat_map (λ x. if x.node == n then replay_line cfg x else []) outs ≡ flat_map (replay_line cfg) (of_node n outs)
outs_are cfg n [] = refl
outs_are cfg n (x ∷ outs) =
    out_by cfg (x.node == n) x (flat_map (λ y. if y.node == n then replay_line cfg y else []) outs) (of_node n outs) (outs_are cfg n outs)

-- The lines of counters

abbrev where_own : Bool → List ℕ → List ℕ
where_own b text = if b then text else []

abbrev OfOne : NetCfg → ℕ → ℕ → List ℕ → Type 0
OfOne cfg n m text = Shown cfg n text (where_own (m == n) text)

none_where : (b : Bool) → where_own b [] ≡ []
none_where true = refl
none_where false = refl

of_none : (cfg : NetCfg) (n m : ℕ) → OfOne cfg n m []
of_none cfg n m = subst (Shown cfg n []) (sym (none_where (m == n))) (shown_none cfg n)

both_where : (b : Bool) (x y : List ℕ) → where_own b x ++ where_own b y ≡ where_own b (x ++ y)
both_where true x y = refl
both_where false x y = refl

of_both : (cfg : NetCfg) (n m : ℕ) (x y : List ℕ) → OfOne cfg n m x → OfOne cfg n m y → OfOne cfg n m (x ++ y)
of_both cfg n m x y a b = subst (Shown cfg n (x ++ y)) (both_where (m == n) x y) (shown_both cfg n x y (where_own (m == n) x) (where_own (m == n) y) a b)

of_all : {A : Type 0} (cfg : NetCfg) (n m : ℕ) (f : A → List ℕ) → ((x : A) → OfOne cfg n m (f x)) → (xs : List A) → OfOne cfg n m (flat_map f xs)
of_all cfg n m f h [] = of_none cfg n m
of_all cfg n m f h (x ∷ xs) = of_both cfg n m (f x) (flat_map f xs) (h x) (of_all cfg n m f h xs)

of_unless : (cfg : NetCfg) (n m : ℕ) (b : Bool) (x : List ℕ) → OfOne cfg n m x → OfOne cfg n m (if b then [] else x)
of_unless cfg n m true x h = of_none cfg n m
of_unless cfg n m false x h = h

of_where : (cfg : NetCfg) (n m : ℕ) (b : Bool) (x : List ℕ) → OfOne cfg n m x → OfOne cfg n m (if b then x else [])
of_where cfg n m true x h = h
of_where cfg n m false x h = of_none cfg n m

count_shown : (cfg : NetCfg) (n m port reason value : ℕ) → IsWord (name_at cfg m) → OfOne cfg n m (count_line_of (name_at cfg m) port reason value)
count_shown cfg n m port reason value word =
    let line : List ℕ = count_line_of (name_at cfg m) port reason value in
    shown_one cfg n (record { node = m; full = line; short = line })
    (record {
      rest = codes "count" ∷ decimal port ∷ reason_word reason ∷ decimal value ∷ [];
      words = (word, (refl, (decimal_word port, (reason_is_word reason, (decimal_word value, tt)))));
      full = refl;
      short = refl;
    })

port_shown : (cfg : NetCfg) (n m port : ℕ) (counters : List ℕ) → IsWord (name_at cfg m) → OfOne cfg n m (port_counts (name_at cfg m) port counters)
port_shown cfg n m port counters word =
    of_all cfg n m (λ reason. nonzero_line (name_at cfg m) port (number_of reason) (count_at counters (number_of reason)))
    (λ reason.
    of_unless cfg n m (count_at counters (number_of reason) == 0) (count_line_of (name_at cfg m) port (number_of reason) (count_at counters (number_of reason)))
    (count_shown cfg n m port (number_of reason) (count_at counters (number_of reason)) word))
    reasons

counts_shown : (site : LineSetting) (n m : ℕ) (node : NodeAt) → IsWord (name_at site.cfg m) → OfOne site.cfg n m (node_counts (node_of site m) node)
counts_shown site n m node word =
    of_all site.cfg n m (λ port. if has_port (node_of site m) port then port_counts (name_at site.cfg m) port (node.counters port) else [])
    (λ port.
    of_where site.cfg n m (has_port (node_of site m) port) (port_counts (name_at site.cfg m) port (node.counters port)) (port_shown site.cfg n m port (node.counters port) word))
    port_numbers

-- one of all nodes is this one
abbrev own_of : ℕ → (ℕ → List ℕ) → ℕ → ℕ → List ℕ
own_of n h count first = flat_map (λ m. where_own (m == n) (h m)) (from_on count first)

not_same : (n first : ℕ) → n < first → (first == n) ≡ false
not_same n first later = grind (arith, later)

none_later : (n : ℕ) (h : ℕ → List ℕ) (count first : ℕ) → n < first → own_of n h count first ≡ []
none_later n h zero first later = refl
none_later n h (suc count) first later =
    ap (λ (b : Bool). where_own b (h first) ++ own_of n h count (first + 1)) (not_same n first later) ∙ none_later n h count (first + 1) (omega (arith, later))

behind_other : (n first : ℕ) → (first == n) ≡ false → first ≤ n → first + 1 ≤ n
behind_other n first other low = grind (arith, other, low)

found_by : (n : ℕ) (h : ℕ → List ℕ) (first : ℕ) (later : List ℕ) (b : Bool) → (first == n) ≡ b → (first ≡ n → later ≡ []) → ((first == n) ≡ false → later ≡ h n)
    → where_own b (h first) ++ later ≡ h n
found_by n h first later true is none rest =
    let same : first ≡ n = eqb-true first n is in
    ap (λ (l : List ℕ). h first ++ l) (none same) ∙ append-nil (h first) ∙ ap h same
found_by n h first later false is none rest = rest is

one_later : (n : ℕ) (h : ℕ → List ℕ) (count first : ℕ) → first ≤ n → n < first + count → own_of n h count first ≡ h n
one_later n h zero first low high = absurd (omega (arith, low, high))
one_later n h (suc count) first low high =
    found_by n h first (own_of n h count (first + 1)) (first == n) refl (λ same. none_later n h count (first + 1) (omega (arith, same)))
    (λ other. one_later n h count (first + 1) (behind_other n first other low) (omega (arith, high)))

-- The projection by the octets

projection_shown : (site : LineSetting) (audit replay : List ℕ) → ((m : ℕ) → IsWord (name_at site.cfg m)) → site.node < node_count site.cfg
    → IsProjection site audit replay → Shown site.cfg site.node audit replay
projection_shown site audit replay words within is =
    let n : ℕ = site.node in
    let counts : ℕ → List ℕ = λ m. node_counts (node_of site m) (is.last m) in
    let outs : List ℕ = flat_map (λ x. if x.node == n then replay_line site.cfg x else []) is.outs in
    let own : List ℕ = own_of n counts (node_count site.cfg) 0 in
    let shown : Shown site.cfg n (flat_map (audit_line site.cfg) is.outs ++ flat_map counts (from_on (node_count site.cfg) 0)) (outs ++ own) =
    shown_both site.cfg n (flat_map (audit_line site.cfg) is.outs) (flat_map counts (from_on (node_count site.cfg) 0)) outs own
    (shown_all site.cfg n (audit_line site.cfg) (λ x. if x.node == n then replay_line site.cfg x else []) (output_shown site.cfg n words) is.outs)
    (shown_all site.cfg n counts (λ m. where_own (m == n) (counts m)) (λ m. counts_shown site n m (is.last m) (words m)) (from_on (node_count site.cfg) 0)) in
    let short : outs ++ own ≡ replay =
    ap₂ (λ (x y : List ℕ). x ++ y) (outs_are site.cfg n is.outs) (one_later n counts (node_count site.cfg) 0 (omega arith) (omega (arith, within)))
    ∙ sym is.of_one in
    subst (λ (t : List ℕ). Shown site.cfg n t replay) (sym is.of_all)
    (subst (Shown site.cfg n (flat_map (audit_line site.cfg) is.outs ++ flat_map counts (from_on (node_count site.cfg) 0))) short shown)

pub by_octets : (site : LineSetting) (name audit replay : List ℕ) → ((m : ℕ) → IsWord (name_at site.cfg m))
    → ((m : ℕ) → same_name (name_at site.cfg m) name ≡ (m == site.node)) → site.node < node_count site.cfg
    → IsProjection site audit replay → replay ≡ lines_of_node name audit
by_octets site name audit replay words named within is =
    sym (shown_lines site.cfg name site.node audit replay named (projection_shown site audit replay words within is))

-- Names

name_by : (cfg : NetCfg) (m : ℕ) (o : Option NodeCfg) → slice_get cfg.nodes.items m ≡ o → HasNames cfg
    → IsWord (option_map_or (λ (node : NodeCfg). node.name.bytes) o [])
name_by cfg m None is names = refl
name_by cfg m (Some node) is names = name_word node.name.bytes (names.node m node is)

pub names_are_words : (cfg : NetCfg) → HasNames cfg → (m : ℕ) → IsWord (name_at cfg m)
names_are_words cfg names m = name_by cfg m (slice_get cfg.nodes.items m) refl names

both_ways : (p q : Bool) → (p ≡ true → q ≡ true) → (q ≡ true → p ≡ true) → p ≡ q
both_ways true true f g = refl
both_ways false false f g = refl
both_ways true false f g = absurd (let both : false ≡ true = f refl in cc)
both_ways false true f g = absurd (let both : false ≡ true = g refl in cc)

not_empty : (name : List ℕ) → is_name name ≡ true → [] ≡ name → ⊥
not_empty [] is same = let both : false ≡ true = is in cc
not_empty (c ∷ cs) is same = cc

abbrev bytes_of : NodeCfg → List ℕ
bytes_of node = node.name.bytes

one_name : (cfg : NetCfg) (name : List ℕ) (n m : ℕ) (node : NodeCfg) → HasNames cfg → slice_get cfg.nodes.items n ≡ Some node → node.name.bytes ≡ name
    → (o : Option NodeCfg) → slice_get cfg.nodes.items m ≡ o → option_map_or bytes_of o [] ≡ name → m ≡ n
one_name cfg name n m node names at is None there same = absurd (not_empty name (subst (λ (l : List ℕ). is_name l ≡ true) is (names.node n node at)) same)
one_name cfg name n m node names at is (Some other) there same =
    names.nodes_apart m n name
    (slice_get-map bytes_of cfg.nodes.items m ∙ ap (λ (o : Option NodeCfg). option_map bytes_of o) there ∙ ap (λ (l : List ℕ). Some l) same)
    (slice_get-map bytes_of cfg.nodes.items n ∙ ap (λ (o : Option NodeCfg). option_map bytes_of o) at ∙ ap (λ (l : List ℕ). Some l) is)

pub named_alone : (cfg : NetCfg) (name : List ℕ) (n : ℕ) → HasNames cfg → node_named cfg name ≡ Some n → (m : ℕ) → same_name (name_at cfg m) name ≡ (m == n)
named_alone cfg name n names named m =
    let found = found_place (λ (node : NodeCfg). same_name node.name.bytes name) cfg.nodes.items n named in
    let is : found.x.name.bytes ≡ name = same_is found.x.name.bytes name found.passes in
    let own : name_at cfg n ≡ name = ap (λ (o : Option NodeCfg). option_map_or bytes_of o []) found.at ∙ is in
    both_ways (same_name (name_at cfg m) name) (m == n)
    (λ same. eq-eqb m n (one_name cfg name n m found.x names found.at is (slice_get cfg.nodes.items m) refl (same_is (name_at cfg m) name same)))
    (λ same. ap (λ k. same_name (name_at cfg k) name) (eqb-true m n same) ∙ ap (λ (l : List ℕ). same_name l name) own ∙ same_refl name)
