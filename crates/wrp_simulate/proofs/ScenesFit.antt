-- What the lines of a scenario say is in its ranges.
use Rattle.std.proofs.Common.{◌≡◌, sym, ℕ, ℤ, pos, negsuc, ◌*◌, ◌/◌, ◌<◌, ◌≤◌, ◌≤ℤ◌, ◌==◌, ◌++◌, Bool, true, false, if◌then◌else◌, List, [], ◌∷◌, length, Option, None, Some, Ok, Err, subst, arith, codes}
use Rattle.std.specs.Prelude.{is_none, nat_lt, slice_set}
use Rattle.std.proofs.lemmas.Bool.{ltb-true}
use Rattle.std.proofs.lemmas.Int.{ints}
use Rattle.wrp_network.specs.declared.configuration.NetCfg.{NetCfg}
use Rattle.wrp_base.specs.declared.fault.TraceFault.TheVariants.{Fields, Kind, Name, Number}
use Rattle.wrp_base.specs.Lines.{parts_of}
use Rattle.wrp_network.specs.Network.{link_above, node_count}
use Rattle.wrp_caldb.specs.Name.{same_name}
use Rattle.wrp_names.specs.Fields.{link_at, node_at}
use Rattle.wrp_fields.specs.Numbers.{number_in}
use Rattle.wrp_fields.specs.Reading.{◌>>=◌, field_of, is_plain}
use Rattle.wrp_scene.specs.declared.scene.fault.Fault.{Fault}
use Rattle.wrp_scene.specs.declared.scene.fault.FaultKind.{FaultKind}
use Rattle.wrp_scene.specs.declared.scene.fault.FaultKind.TheVariants.{Down, Up, Cut, Join}
use Rattle.wrp_scene.specs.declared.scene.kinds.SceneKind.{SceneKind}
use Rattle.wrp_scene.specs.declared.scene.kinds.SceneKind.TheVariants as kinds
use Rattle.wrp_scene.specs.Scenario.{IsFault, IsFaultKind, IsFree, IsOffset, IsSceneOf, IsSum, SceneAt, fibre_room, new_scene, off_of_ns, tau_of_ms}
use Rattle.wrp_scene.specs.ScenarioKinds.{field_count, kind_of}
use Rattle.wrp_scene.specs.ScenarioLines.{below, counted_of, fault_at, fault_kind, fault_line, fibre_line, free_line, length_line, line_of_kind, link_fault, loss_line, lower_at, node_fault, ns_at, offset_line, permille_at, rate_at, repeat_line, scene_of, scene_read, sum_at, time_at, with_fault}
use Rattle.wrp_scene.proofs.SceneLemmas as scenes
use Rattle.wrp_course.specs.EventAt.{link_count}
use Rattle.wrp_course.specs.Setting.{Setting}
use Rattle.wrp_trace.proofs.EventsFit.{found, link_there, node_there, number_in_range, number_read}
use Rattle.wrp_scene_records.specs.Scenarios.{Changes, IsScenario}
use Rattle.wrp_network_world.proofs.FieldsRead.{both, none_if, ok_same, read_if}

-- Fields

sum_fits : (cfg : NetCfg) (place : ℕ) (fields : List (List ℕ)) (sum : ℕ) → sum_at cfg place fields ≡ Ok sum → IsSum cfg sum
sum_fits cfg place fields sum e =
    let most : sum ≤ 4 * fibre_room cfg / 3 = (number_read 0 (4 * fibre_room cfg / 3) place fields sum e).1 in
    omega (arith, most)

offset_fits : (place : ℕ) (fields : List (List ℕ)) (ns : ℤ) → ns_at place fields ≡ Ok ns → IsOffset (off_of_ns ns)
offset_fits place fields ns e =
    let range : (negsuc 999_999_999_999 ≤ℤ ns) × (ns ≤ℤ pos 1_000_000_000_000) =
    number_in_range (negsuc 999_999_999_999) (pos 1_000_000_000_000) (field_of place fields) ns
    (found (Number place) (number_in (negsuc 999_999_999_999) (pos 1_000_000_000_000) (field_of place fields)) ns e) in
    omega (arith, ints, range.0, range.1)

free_fits : (place : ℕ) (fields : List (List ℕ)) (rate : ℤ) → rate_at place fields ≡ Ok rate → IsFree rate
free_fits place fields rate e =
    let range : (negsuc 99_999 ≤ℤ rate) × (rate ≤ℤ pos 100_000) =
    number_in_range (negsuc 99_999) (pos 100_000) (field_of place fields) rate
    (found (Number place) (number_in (negsuc 99_999) (pos 100_000) (field_of place fields)) rate e) in
    omega (arith, ints, range.0, range.1)

lower_fits : (cfg : NetCfg) (place : ℕ) (fields : List (List ℕ)) (n : ℕ) → lower_at cfg place fields ≡ Ok n → is_none (link_above cfg n) ≡ false
lower_fits cfg place fields n e =
    let it = both (node_at cfg place fields) (λ node. below cfg place node) n e in
    let parts : (is_none (link_above cfg it.first) ≡ false) × (it.first ≡ n) =
    none_if (is_none (link_above cfg it.first)) it.first n (found (Name place) (if is_none (link_above cfg it.first) then None else Some it.first) n it.rest) in
    subst (λ m. is_none (link_above cfg m) ≡ false) parts.1 parts.0

node_fault_fits : (cfg : NetCfg) (fields : List (List ℕ)) (kind : ℕ → FaultKind) (k : FaultKind) → ((n : ℕ) → n < node_count cfg → IsFaultKind cfg (kind n))
    → node_fault cfg fields kind ≡ Ok k → IsFaultKind cfg k
node_fault_fits cfg fields kind k fits e =
    let it = both (node_at cfg 4 fields) (λ node. Ok (kind node)) k e in
    subst (IsFaultKind cfg) (ok_same (kind it.first) k it.rest) (fits it.first (node_there cfg 4 fields it.first it.is))

link_fault_fits : (cfg : NetCfg) (fields : List (List ℕ)) (kind : ℕ → FaultKind) (k : FaultKind) → ((l : ℕ) → l < link_count cfg → IsFaultKind cfg (kind l))
    → link_fault cfg fields kind ≡ Ok k → IsFaultKind cfg k
link_fault_fits cfg fields kind k fits e =
    let it = both (link_at cfg 4 fields) (λ link. Ok (kind link)) k e in
    subst (IsFaultKind cfg) (ok_same (kind it.first) k it.rest) (fits it.first (link_there cfg 4 fields it.first it.is))

-- the word of a fault is one of four
of_four : (cfg : NetCfg) (fields : List (List ℕ)) (down up cut join : Bool) (k : FaultKind) →
    (if down then node_fault cfg fields Down else if up then node_fault cfg fields Up else if cut then link_fault cfg fields Cut else if join then link_fault cfg fields Join else Err (Name 3))
    ≡ Ok k
    → IsFaultKind cfg k
of_four cfg fields true up cut join k e = node_fault_fits cfg fields Down k (λ n is. is) e
of_four cfg fields false true cut join k e = node_fault_fits cfg fields Up k (λ n is. is) e
of_four cfg fields false false true join k e = link_fault_fits cfg fields Cut k (λ l is. is) e
of_four cfg fields false false false true k e = link_fault_fits cfg fields Join k (λ l is. is) e
of_four cfg fields false false false false k e = absurd (let f : Err (Name 3) ≡ Ok k = e in cc)

time_fits : (ms : ℕ) → ms ≤ 10_000_000 → (pos 0 ≤ℤ tau_of_ms ms) × (tau_of_ms ms ≤ℤ pos 655_360_000_000_000_000_000)
time_fits ms most = (omega (arith, ints), omega (arith, ints, most))

fault_fits : (cfg : NetCfg) (fields : List (List ℕ)) (fault : Fault) → fault_at cfg fields ≡ Ok fault → IsFault cfg fault
fault_fits cfg fields fault e =
    let a = both (time_at 2 fields) (λ ms. fault_kind cfg fields (field_of 3 fields) >>= (λ kind. Ok (record { at = tau_of_ms ms; kind = kind }))) fault e in
    let b = both (fault_kind cfg fields (field_of 3 fields)) (λ kind. Ok (record { at = tau_of_ms a.first; kind = kind })) fault a.rest in
    let word : List ℕ = field_of 3 fields in
    subst (IsFault cfg) (ok_same (record { at = tau_of_ms a.first; kind = b.first }) fault b.rest)
    (record {
      at = time_fits a.first (number_read 0 10_000_000 2 fields a.first a.is).1;
      kind =
          of_four cfg fields (same_name word (codes "down")) (same_name word (codes "up")) (same_name word (codes "cut"))
          (same_name word (codes "join")) b.first b.is;
    })

-- Lines

length_fits : (cfg : NetCfg) (scene next : SceneAt) (fields : List (List ℕ)) → IsSceneOf cfg scene → length_line scene fields ≡ Ok next → IsSceneOf cfg next
length_fits cfg scene next fields is e =
    let it = both (time_at 2 fields) (λ ms. Ok (record scene { duration = tau_of_ms ms })) next e in
    subst (IsSceneOf cfg) (ok_same (record scene { duration = tau_of_ms it.first }) next it.rest)
    (scenes.with_duration cfg scene it.first (number_read 0 10_000_000 2 fields it.first it.is) is)

fibre_fits : (cfg : NetCfg) (scene next : SceneAt) (fields : List (List ℕ)) → IsSceneOf cfg scene → fibre_line cfg scene fields ≡ Ok next → IsSceneOf cfg next
fibre_fits cfg scene next fields is e =
    let a = both (link_at cfg 2 fields) (λ link. sum_at cfg 3 fields >>= (λ sum. Ok (record scene { sums = slice_set scene.sums link sum }))) next e in
    let b = both (sum_at cfg 3 fields) (λ sum. Ok (record scene { sums = slice_set scene.sums a.first sum })) next a.rest in
    subst (IsSceneOf cfg) (ok_same (record scene { sums = slice_set scene.sums a.first b.first }) next b.rest)
    (scenes.with_sum cfg scene a.first b.first (sum_fits cfg 3 fields b.first b.is) is)

offset_line_fits : (cfg : NetCfg) (scene next : SceneAt) (fields : List (List ℕ)) → IsSceneOf cfg scene → offset_line cfg scene fields ≡ Ok next
    → IsSceneOf cfg next
offset_line_fits cfg scene next fields is e =
    let a =
    both (lower_at cfg 2 fields) (λ node. ns_at 3 fields >>= (λ ns. Ok (record scene { offsets = slice_set scene.offsets node (off_of_ns ns) }))) next e in
    let b = both (ns_at 3 fields) (λ ns. Ok (record scene { offsets = slice_set scene.offsets a.first (off_of_ns ns) })) next a.rest in
    subst (IsSceneOf cfg) (ok_same (record scene { offsets = slice_set scene.offsets a.first (off_of_ns b.first) }) next b.rest)
    (scenes.with_offset cfg scene a.first (off_of_ns b.first) (lower_fits cfg 2 fields a.first a.is) (offset_fits 3 fields b.first b.is) is)

free_line_fits : (cfg : NetCfg) (scene next : SceneAt) (fields : List (List ℕ)) → IsSceneOf cfg scene → free_line cfg scene fields ≡ Ok next
    → IsSceneOf cfg next
free_line_fits cfg scene next fields is e =
    let a = both (node_at cfg 2 fields) (λ node. rate_at 3 fields >>= (λ rate. Ok (record scene { frees = slice_set scene.frees node rate }))) next e in
    let b = both (rate_at 3 fields) (λ rate. Ok (record scene { frees = slice_set scene.frees a.first rate })) next a.rest in
    subst (IsSceneOf cfg) (ok_same (record scene { frees = slice_set scene.frees a.first b.first }) next b.rest)
    (scenes.with_free cfg scene a.first b.first (free_fits 3 fields b.first b.is) is)

loss_fits : (cfg : NetCfg) (scene next : SceneAt) (fields : List (List ℕ)) → IsSceneOf cfg scene → loss_line scene fields ≡ Ok next → IsSceneOf cfg next
loss_fits cfg scene next fields is e =
    let it = both (permille_at 2 fields) (λ permille. Ok (record scene { loss = permille })) next e in
    subst (IsSceneOf cfg) (ok_same (record scene { loss = it.first }) next it.rest)
    (scenes.with_loss cfg scene it.first (number_read 0 1_000 2 fields it.first it.is) is)

repeat_fits : (cfg : NetCfg) (scene next : SceneAt) (fields : List (List ℕ)) → IsSceneOf cfg scene → repeat_line scene fields ≡ Ok next → IsSceneOf cfg next
repeat_fits cfg scene next fields is e =
    let it = both (permille_at 2 fields) (λ permille. Ok (record scene { repeat = permille })) next e in
    subst (IsSceneOf cfg) (ok_same (record scene { repeat = it.first }) next it.rest)
    (scenes.with_repeat cfg scene it.first (number_read 0 1_000 2 fields it.first it.is) is)

fault_line_fits : (cfg : NetCfg) (scene next : SceneAt) (fields : List (List ℕ)) → IsSceneOf cfg scene → fault_line cfg scene fields ≡ Ok next
    → IsSceneOf cfg next
fault_line_fits cfg scene next fields is e =
    let room : (nat_lt (length scene.faults) 64 ≡ true) × (with_fault cfg scene fields ≡ Ok next) =
    read_if (nat_lt (length scene.faults) 64) Fields (with_fault cfg scene fields) next e in
    let it = both (fault_at cfg fields) (λ fault. Ok (record scene { faults = scene.faults ++ fault ∷ [] })) next room.1 in
    subst (IsSceneOf cfg) (ok_same (record scene { faults = scene.faults ++ it.first ∷ [] }) next it.rest)
    (scenes.with_fault cfg scene it.first (ltb-true (length scene.faults) 64 room.0) (fault_fits cfg fields it.first it.is) is)

kind_fits : (cfg : NetCfg) (scene next : SceneAt) (kind : SceneKind) (fields : List (List ℕ)) → IsSceneOf cfg scene
    → line_of_kind cfg scene kind fields ≡ Ok next → IsSceneOf cfg next
kind_fits cfg scene next kinds.Length fields is e = length_fits cfg scene next fields is e
kind_fits cfg scene next kinds.Fibre fields is e = fibre_fits cfg scene next fields is e
kind_fits cfg scene next kinds.Offset fields is e = offset_line_fits cfg scene next fields is e
kind_fits cfg scene next kinds.Free fields is e = free_line_fits cfg scene next fields is e
kind_fits cfg scene next kinds.Loss fields is e = loss_fits cfg scene next fields is e
kind_fits cfg scene next kinds.Repeat fields is e = repeat_fits cfg scene next fields is e
kind_fits cfg scene next kinds.Fault fields is e = fault_line_fits cfg scene next fields is e

counted_fits : (cfg : NetCfg) (scene next : SceneAt) (fields : List (List ℕ)) (o : Option SceneKind) → IsSceneOf cfg scene
    → counted_of cfg scene fields o ≡ Ok next → IsSceneOf cfg next
counted_fits cfg scene next fields None is e = absurd (let f : Err Kind ≡ Ok next = e in cc)
counted_fits cfg scene next fields (Some kind) is e =
    kind_fits cfg scene next kind fields is (read_if (length fields == field_count kind) Fields (line_of_kind cfg scene kind fields) next e).1

line_fits : (cfg : NetCfg) (scene next : SceneAt) (line : List ℕ) → IsSceneOf cfg scene → scene_read cfg scene line ≡ Ok next → IsSceneOf cfg next
line_fits cfg scene next line is e =
    counted_fits cfg scene next (parts_of line) (kind_of (field_of 1 (parts_of line))) is
    (read_if (is_plain line) Fields (scene_of cfg scene (parts_of line)) next e).1

-- Scenarios

changes_fit : (cfg : NetCfg) (scene last : SceneAt) (lines : List (List ℕ)) → IsSceneOf cfg scene → Changes cfg scene lines last → IsSceneOf cfg last
changes_fit cfg scene last [] is same = subst (IsSceneOf cfg) (sym same) is
changes_fit cfg scene last (line ∷ lines) is c = changes_fit cfg c.0 last lines (line_fits cfg scene c.0 line is c.1) c.2

-- a scenario that lines say belongs to its network
pub scenario_fits : (s : Setting) (lines : List (List ℕ)) (scene : SceneAt) → IsScenario s lines scene → IsSceneOf s.cfg scene
scenario_fits s lines scene said = changes_fit s.cfg (new_scene s.cfg) scene lines (scenes.new_is_scene s.cfg) said
