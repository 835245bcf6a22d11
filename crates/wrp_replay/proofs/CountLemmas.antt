-- The loops over the reasons and over the ports.
use Rattle.std.proofs.Common.{◌≡◌, ◌∙◌, ℕ, ◌+◌, ◌<◌, ◌≤◌, Bool, true, false, if◌then◌else◌, List, [], ◌++◌, length, get_or, drop, refl, sym, ap, append_assoc, append-nil}
use Rattle.std.proofs.lemmas.List.{drop_more, drop_all}
use Rattle.std.specs.List.{flat_map}
use Rattle.wrp_network.specs.Network.{name_at}
use Rattle.wrp_data.specs.declared.reason.Reason.{Reason}
use Rattle.wrp_data.specs.declared.reason.Reason.TheVariants.{Short}
use Rattle.wrp_data.specs.Counters.{count_at}
use Rattle.wrp_data.specs.Reason.{number_of, reasons}
use Rattle.wrp_node.specs.NodeAt.{NodeAt}
use Rattle.wrp_trace.specs.LineSetting.{LineSetting, has_port}
use Rattle.wrp_replay.specs.NodeText.{nonzero_line, port_counts, port_numbers, node_counts}

-- what a text still lacks of the whole is what the elements from the i-th on give
abbrev pub Lacks : {X : Type 0} → (X → List ℕ) → List X → ℕ → List ℕ → List ℕ → Type 0
Lacks f xs i text all = text ++ flat_map f (drop i xs) ≡ all

pub lacks_less : {X : Type 0} (f : X → List ℕ) (xs : List X) (i : ℕ) (d : X) (text now all : List ℕ) → i < length xs → Lacks f xs i text all → now ≡ text ++ f (get_or xs i d) → Lacks f xs (i + 1) now all
lacks_less f xs i d text now all h is more =
    ap (λ t. t ++ flat_map f (drop (i + 1) xs)) more
    ∙ append_assoc text (f (get_or xs i d)) (flat_map f (drop (i + 1) xs))
    ∙ sym (ap (λ part. text ++ flat_map f part) (drop_more xs i d h)) ∙ is

pub lacks_none : {X : Type 0} (f : X → List ℕ) (xs : List X) (i : ℕ) (text all : List ℕ) → length xs ≤ i → Lacks f xs i text all → text ≡ all
lacks_none f xs i text all h is = sym (append-nil text) ∙ sym (ap (λ part. text ++ flat_map f part) (drop_all i xs h)) ∙ is

-- the lines of a reason, and of a port
abbrev reason_line : List ℕ → ℕ → List ℕ → Reason → List ℕ
reason_line name port counters reason = nonzero_line name port (number_of reason) (count_at counters (number_of reason))

abbrev port_line : LineSetting → NodeAt → ℕ → List ℕ
port_line site n port = if has_port site port then port_counts (name_at site.cfg site.node) port (n.counters port) else []

-- the lines of the reasons from the i-th on are still missing
unfoldable pub LacksReasons : List ℕ → ℕ → List ℕ → ℕ → List ℕ → List ℕ → Type 0
LacksReasons name port counters i text old = Lacks (reason_line name port counters) reasons i text (old ++ port_counts name port counters)

pub all_reasons : (name : List ℕ) (port : ℕ) (counters old : List ℕ) → LacksReasons name port counters 0 old old
unfolding LacksReasons
all_reasons name port counters old = refl

pub reason_less : (name : List ℕ) (port : ℕ) (counters : List ℕ) (i number value : ℕ) (text now old : List ℕ) → i < 15 → LacksReasons name port counters i text old
    → number ≡ number_of (get_or reasons i Short) → value ≡ count_at counters number → now ≡ text ++ nonzero_line name port number value → LacksReasons name port counters (i + 1) now old
unfolding LacksReasons
reason_less name port counters i number value text now old h is numbered has more =
    lacks_less (reason_line name port counters) reasons i Short text now (old ++ port_counts name port counters) h is
    (more ∙ ap (λ v. text ++ nonzero_line name port number v) has ∙ ap (λ n. text ++ nonzero_line name port n (count_at counters n)) numbered)

pub no_reason : (name : List ℕ) (port : ℕ) (counters : List ℕ) (i : ℕ) (text old : List ℕ) → 15 ≤ i → LacksReasons name port counters i text old → text ≡ old ++ port_counts name port counters
unfolding LacksReasons
no_reason name port counters i text old h is = lacks_none (reason_line name port counters) reasons i text (old ++ port_counts name port counters) h is

-- the lines of the ports from the i-th on are still missing
unfoldable pub LacksPorts : LineSetting → NodeAt → ℕ → List ℕ → List ℕ → Type 0
LacksPorts site n i text old = Lacks (port_line site n) port_numbers i text (old ++ node_counts site n)

pub all_ports : (site : LineSetting) (n : NodeAt) (old : List ℕ) → LacksPorts site n 0 old old
unfolding LacksPorts
all_ports site n old = refl

-- a port of the node, and a number that is not a port of it
pub port_less : (site : LineSetting) (n : NodeAt) (i port : ℕ) (name text now old : List ℕ) → i < 18 → LacksPorts site n i text old → port ≡ get_or port_numbers i 0 → has_port site port ≡ true
    → name ≡ name_at site.cfg site.node → now ≡ text ++ port_counts name port (n.counters port) → LacksPorts site n (i + 1) now old
unfolding LacksPorts
port_less site n i port name text now old h is numbered has named more =
    lacks_less (port_line site n) port_numbers i 0 text now (old ++ node_counts site n) h is
    (more ∙ ap (λ (k : List ℕ). text ++ port_counts k port (n.counters port)) named ∙ sym (ap (λ (b : Bool). text ++ (if b then port_counts (name_at site.cfg site.node) port (n.counters port) else [])) has) ∙ ap (λ p. text ++ port_line site n p) numbered)

pub no_port_less : (site : LineSetting) (n : NodeAt) (i port : ℕ) (text old : List ℕ) → i < 18 → LacksPorts site n i text old → port ≡ get_or port_numbers i 0 → has_port site port ≡ false
    → LacksPorts site n (i + 1) text old
unfolding LacksPorts
no_port_less site n i port text old h is numbered has =
    lacks_less (port_line site n) port_numbers i 0 text text (old ++ node_counts site n) h is
    (sym (append-nil text) ∙ sym (ap (λ (b : Bool). text ++ (if b then port_counts (name_at site.cfg site.node) port (n.counters port) else [])) has) ∙ ap (λ p. text ++ port_line site n p) numbered)

pub no_port : (site : LineSetting) (n : NodeAt) (i : ℕ) (text old : List ℕ) → 18 ≤ i → LacksPorts site n i text old → text ≡ old ++ node_counts site n
unfolding LacksPorts
no_port site n i text old h is = lacks_none (port_line site n) port_numbers i text (old ++ node_counts site n) h is
