-- Lines give one list of inputs, and a list of inputs writes one text.
use Rattle.std.proofs.Common.{◌≡◌, ◌∙◌, refl, ap, ap₂, sym, ℕ, ℤ, if◌then◌else◌, Result, Ok, Err, List, [], ◌∷◌, ◌++◌, ◌+◌, length, map, reverse}
use Rattle.std.proofs.lemmas.List.{map-append, reverse-append, reverse-reverse}
use Rattle.wrp_base.specs.declared.fault.TraceFault.{TraceFault}
use Rattle.wrp_network.specs.Network.{name_at}
use Rattle.wrp_node.specs.declared.interface.Input.{Input}
use Rattle.wrp_node.specs.declared.interface.Output.{Output}
use Rattle.wrp_node.specs.NodeAt.{Taken, NodeAt}
use Rattle.wrp_node.specs.NodeRun.{NodeRun, node_after}
use Rattle.wrp_node.specs.OneRun.{SameInputs, OneRun, OneNode, IsRun, answers_by}
use Rattle.wrp_trace.specs.Inputs.{read_of}
use Rattle.wrp_trace.specs.LineSetting.{LineSetting, has_port}
use Rattle.wrp_records.specs.declared.machine.Refusal.{Refusal}
use Rattle.wrp_records.specs.declared.machine.Refusal.TheVariants as refusals
use Rattle.wrp_replay.specs.DownLaw.{law_at, node_setting_at}
use Rattle.wrp_replay.specs.NodeText.{Writes, output_lines, port_counts, port_numbers, node_counts}
use Rattle.wrp_records.specs.Refusals.{bad_trace_line}
use Rattle.wrp_replay.specs.Replays.{AreInputs, Accepts, Refuses, Closes, meaning_of}
use Rattle.wrp_replay.proofs.BareSetting.{flat_map_same}
use Rattle.wrp_records.proofs.Unique.{IsExact, ends_once, never_barred}

-- an input as it is read
abbrev ok : Taken → Result Input TraceFault
ok t = Ok t.input

turned : (t : Taken) (inputs : List Taken) → reverse (t ∷ inputs) ≡ reverse inputs ++ t ∷ []
turned t inputs = reverse-append (t ∷ []) inputs

map_reverse : (inputs : List Taken) → map ok (reverse inputs) ≡ reverse (map ok inputs)
map_reverse [] = refl
map_reverse (t ∷ inputs) =
    ap (map ok) (turned t inputs) ∙ map-append ok (reverse inputs) (t ∷ []) ∙ ap (λ (rs : List (Result Input TraceFault)). rs ++ ok t ∷ []) (map_reverse inputs)
    ∙ sym (reverse-append (ok t ∷ []) (map ok inputs))

-- one more line
pub one_more : (site : LineSetting) (lines : List (List ℕ)) (inputs : List Taken) (line : List ℕ) (t : Taken) → AreInputs site lines inputs → read_of site line ≡ Ok t.input
    → AreInputs site (lines ++ line ∷ []) (t ∷ inputs)
one_more site lines inputs line t are is =
    map-append (read_of site) lines (line ∷ []) ∙ ap₂ (λ (a b : List (Result Input TraceFault)). a ++ b) are (ap (λ (r : Result Input TraceFault). r ∷ []) is)
    ∙ sym (ap (map ok) (turned t inputs) ∙ map-append ok (reverse inputs) (t ∷ []))

heads_same : (a b : List Taken) → map ok a ≡ map ok b → SameInputs a b
heads_same [] [] e = tt
heads_same [] (u ∷ b) e = absurd (cc)
heads_same (t ∷ a) [] e = absurd (cc)
heads_same (t ∷ a) (u ∷ b) e =
    let head : ok t ≡ ok u = cc in
    let rest : map ok a ≡ map ok b = cc in
    (cc, heads_same a b rest)

-- lines give one list of inputs
same_inputs : (site : LineSetting) (lines : List (List ℕ)) (a b : List Taken) → AreInputs site lines a → AreInputs site lines b → SameInputs a b
same_inputs site lines a b p q =
    let both : reverse (map ok a) ≡ reverse (map ok b) = sym (map_reverse a) ∙ sym p ∙ q ∙ map_reverse b in
    heads_same a b (sym (reverse-reverse (map ok a)) ∙ ap reverse both ∙ reverse-reverse (map ok b))

-- a line that is refused is among no lines that are inputs
refused_among : (read : List ℕ → Result Input TraceFault) (before behind : List (List ℕ)) (line : List ℕ) (fault : TraceFault) (inputs : List Taken)
    → map read (before ++ line ∷ behind) ≡ map ok inputs → read line ≡ Err fault → ⊥
refused_among read [] behind line fault [] are is = absurd (cc)
refused_among read [] behind line fault (t ∷ inputs) are is = let head : read line ≡ ok t = cc in absurd (cc)
refused_among read (first ∷ before) behind line fault [] are is = absurd (cc)
refused_among read (first ∷ before) behind line fault (t ∷ inputs) are is =
    let rest : map read (before ++ line ∷ behind) ≡ map ok inputs = cc in
    refused_among read before behind line fault inputs rest is

-- the inputs of a run are a run
is_run : (law : ℤ → ℤ) (site : LineSetting) (before : List Taken) (t : Taken) (outs : List Output) → NodeRun (answers_by law) (node_setting_at site) before t outs → IsRun law (node_setting_at site) (t ∷ before)
is_run law site before t outs run = record { said = run.said; answered = run.answered }

-- a list of inputs writes one text
one_writes : OneRun → OneNode → (site : LineSetting) (a b : List Taken) (t u : List ℕ) → SameInputs a b → Writes site a t → Writes site b u → t ≡ u
one_writes runs nodes site [] [] t u same p q = p ∙ sym q
one_writes runs nodes site [] (y ∷ b) t u same p q = absurd same
one_writes runs nodes site (x ∷ a) [] t u same p q = absurd same
one_writes runs nodes site (x ∷ a) (y ∷ b) t u same p q =
    let earlier : p.0 ≡ q.0 = one_writes runs nodes site a b p.0 q.0 same.1 p.2 q.2 in
    let outs : p.1 ≡ q.1 = runs (law_at site) (node_setting_at site) a b x y p.1 q.1 p.3 q.3 same in
    let alike = nodes (law_at site) (node_setting_at site) (x ∷ a) (y ∷ b) (is_run (law_at site) site a x p.1 p.3) (is_run (law_at site) site b y q.1 q.3) same in
    p.4 ∙ ap₂ (λ (k l : List ℕ). k ++ l) earlier (ap₂ (output_lines site) alike.ticks outs) ∙ sym q.4

pub one_text : OneRun → OneNode → (site : LineSetting) (lines : List (List ℕ)) (t u : List ℕ) → Accepts site lines t → Accepts site lines u → t ≡ u
one_text runs nodes site lines t u p q = one_writes runs nodes site p.0 q.0 t u (same_inputs site lines p.0 q.0 p.1 q.1) p.2 q.2

-- and leaves one list of counters
same_counts : (site : LineSetting) (n o : NodeAt) → ((p : ℕ) → n.counters p ≡ o.counters p) → node_counts site n ≡ node_counts site o
same_counts site n o same =
    flat_map_same (λ port. if has_port site port then port_counts (name_at site.cfg site.node) port (n.counters port) else [])
    (λ port. if has_port site port then port_counts (name_at site.cfg site.node) port (o.counters port) else [])
    (λ port. ap (λ (cs : List ℕ). if has_port site port then port_counts (name_at site.cfg site.node) port cs else []) (same port)) port_numbers

one_end : OneNode → (site : LineSetting) (lines : List (List ℕ)) (t u : List ℕ) → Closes site lines t → Closes site lines u → t ≡ u
one_end nodes site lines t u p q =
    let alike = nodes (law_at site) (node_setting_at site) p.0 q.0 p.2 q.2 (same_inputs site lines p.0 q.0 p.1 q.1) in
    p.3 ∙ same_counts site (node_after (node_setting_at site) p.0) (node_after (node_setting_at site) q.0) alike.counters ∙ sym q.3

-- what the relations of a replay keep
pub exact_replay : OneRun → OneNode → (site : LineSetting) → IsExact (meaning_of site)
exact_replay runs nodes site = record {
  one_text = one_text runs nodes site;
  not_both = never_both;
  one_refusal = one_refused;
  one_end = ends_once (meaning_of site) never_barred (one_end nodes site);
}
  where
    never_both : (before behind : List (List ℕ)) (line t last : List ℕ) (refusal : Refusal) → Accepts site (before ++ line ∷ behind) t → Refuses site before line refusal last → ⊥
    never_both before behind line t last refusals.BadTrace p q = refused_among (read_of site) before behind line q.0 (reverse p.0) p.1 q.1
    never_both before behind line t last refusals.Broken p q = q

    one_refused : (before : List (List ℕ)) (line t u : List ℕ) (a b : Refusal) → Refuses site before line a t → Refuses site before line b u → (a ≡ b) × (t ≡ u)
    one_refused before line t u refusals.BadTrace refusals.BadTrace p q =
        let both : Err p.0 ≡ Err q.0 = sym p.1 ∙ q.1 in
        let fault : p.0 ≡ q.0 = cc in
        (refl, p.2 ∙ ap (bad_trace_line (length before + 1)) fault ∙ sym q.2)
    one_refused before line t u refusals.BadTrace refusals.Broken p q = absurd q
    one_refused before line t u refusals.Broken b p q = absurd p
