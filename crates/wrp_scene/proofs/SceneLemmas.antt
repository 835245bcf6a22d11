-- What a line says leaves a scenario in its ranges.
use Rattle.std.proofs.Common.{◌≡◌, ◌≢◌, ◌∙◌, ℕ, ℤ, pos, zero, suc, ◌<◌, ◌+◌, List, [], ◌∷◌, ◌++◌, false, length, map, refl, sym, ap, arith}
use Rattle.std.specs.Prelude.{is_none, slice_get, slice_set, unwrap_or}
use Rattle.std.specs.List.{AllByRecursion}
use Rattle.std.proofs.lemmas.Int.{ints}
use Rattle.std.proofs.lemmas.List.{length-set, length-map}
use Rattle.wrp_network.specs.declared.configuration.NetCfg.{NetCfg}
use Rattle.wrp_network.specs.Network.{IsGrandmaster, link_above}
use Rattle.wrp_base.specs.Ranges.{IsAmong}
use Rattle.wrp_scene.specs.declared.scene.fault.Fault.{Fault}
use Rattle.wrp_scene.specs.Scenario.{SceneAt, IsFault, IsFree, IsOffset, IsSceneOf, IsSum, new_scene, tau_of_ms}

-- Lists

all_same : {X Y : Type 0} (P : X → Type 0) (x : X) (ys : List Y) → P x → AllByRecursion P (map (λ y. x) ys)
all_same P x [] is = tt
all_same P x (y ∷ ys) is = (is, all_same P x ys is)

pub all_more : {X : Type 0} (P : X → Type 0) (xs : List X) (x : X) → AllByRecursion P xs → P x → AllByRecursion P (xs ++ x ∷ [])
all_more P [] x all is = (is, tt)
all_more P (y ∷ xs) x all is = (all.0, all_more P xs x all.1 is)

all_put : {X : Type 0} (P : X → Type 0) (xs : List X) (n : ℕ) (x : X) → P x → AllByRecursion P xs → AllByRecursion P (slice_set xs n x)
all_put P [] n x is all = tt
all_put P (y ∷ xs) zero x is all = (is, all.1)
all_put P (y ∷ xs) (suc n) x is all = (all.0, all_put P xs n x is all.1)

same_at : {X Y : Type 0} (x : X) (ys : List Y) (n : ℕ) → unwrap_or (slice_get (map (λ y. x) ys) n) x ≡ x
same_at x [] n = refl
same_at x (y ∷ ys) zero = refl
same_at x (y ∷ ys) (suc n) = same_at x ys n

other_at : {X : Type 0} (xs : List X) (n m : ℕ) (x : X) → m ≢ n → slice_get (slice_set xs n x) m ≡ slice_get xs m
other_at [] n m x other = refl
other_at (y ∷ xs) zero zero x other = absurd (other refl)
other_at (y ∷ xs) zero (suc m) x other = refl
other_at (y ∷ xs) (suc n) zero x other = refl
other_at (y ∷ xs) (suc n) (suc m) x other = other_at xs n m x (λ e. other (ap suc e))

length_more : {X : Type 0} (xs : List X) (x : X) → length (xs ++ x ∷ []) ≡ length xs + 1
length_more [] x = refl
length_more (y ∷ xs) x = omega (arith, length_more xs x)

-- Scenarios

-- a scenario of which no line says anything
pub new_is_scene : (cfg : NetCfg) → IsSceneOf cfg (new_scene cfg)
new_is_scene cfg = record {
  duration = (omega (arith, ints), omega (arith, ints));
  links = length-map cfg.links.items (λ link. 0);
  offset_count = length-map cfg.nodes.items (λ node. pos 0);
  free_count = length-map cfg.nodes.items (λ node. pos 0);
  sum = all_same (IsSum cfg) 0 cfg.links.items (omega arith);
  offset = all_same IsOffset (pos 0) cfg.nodes.items (omega arith);
  free = all_same IsFree (pos 0) cfg.nodes.items (omega arith);
  grandmaster = λ n is. same_at (pos 0) cfg.nodes.items n;
  loss = omega arith;
  repeat = omega arith;
  fault_count = omega arith;
  fault = tt;
}

-- a scenario that runs for so long
pub with_duration : (cfg : NetCfg) (scene : SceneAt) (ms : ℕ) → IsAmong 0 10_000_000 ms → IsSceneOf cfg scene
    → IsSceneOf cfg (record scene { duration = tau_of_ms ms })
with_duration cfg scene ms among is = record {
  duration = (omega (arith, ints), omega (arith, ints, among.1));
  links = is.links;
  offset_count = is.offset_count;
  free_count = is.free_count;
  sum = is.sum;
  offset = is.offset;
  free = is.free;
  grandmaster = is.grandmaster;
  loss = is.loss;
  repeat = is.repeat;
  fault_count = is.fault_count;
  fault = is.fault;
}

-- a scenario with another fibre
pub with_sum : (cfg : NetCfg) (scene : SceneAt) (l sum : ℕ) → IsSum cfg sum → IsSceneOf cfg scene
    → IsSceneOf cfg (record scene { sums = slice_set scene.sums l sum })
with_sum cfg scene l sum small is = record {
  duration = is.duration;
  links = length-set scene.sums l sum ∙ is.links;
  offset_count = is.offset_count;
  free_count = is.free_count;
  sum = all_put (IsSum cfg) scene.sums l sum small is.sum;
  offset = is.offset;
  free = is.free;
  grandmaster = is.grandmaster;
  loss = is.loss;
  repeat = is.repeat;
  fault_count = is.fault_count;
  fault = is.fault;
}

-- the grandmaster has no link above it
another : (cfg : NetCfg) (m n : ℕ) → IsGrandmaster cfg m → is_none (link_above cfg n) ≡ false → m ≢ n
another cfg m n gm above e = cc (sym (ap (λ k. is_none (link_above cfg k)) e ∙ above) ∙ ap is_none gm.1)

-- a scenario with another offset of a node below the grandmaster
pub with_offset : (cfg : NetCfg) (scene : SceneAt) (n : ℕ) (off : ℤ) → is_none (link_above cfg n) ≡ false → IsOffset off
    → IsSceneOf cfg scene → IsSceneOf cfg (record scene { offsets = slice_set scene.offsets n off })
with_offset cfg scene n off above small is = record {
  duration = is.duration;
  links = is.links;
  offset_count = length-set scene.offsets n off ∙ is.offset_count;
  free_count = is.free_count;
  sum = is.sum;
  offset = all_put IsOffset scene.offsets n off small is.offset;
  free = is.free;
  grandmaster = λ m gm. ap (λ o. unwrap_or o (pos 0)) (other_at scene.offsets n m off (another cfg m n gm above)) ∙ is.grandmaster m gm;
  loss = is.loss;
  repeat = is.repeat;
  fault_count = is.fault_count;
  fault = is.fault;
}

-- a scenario with another clock
pub with_free : (cfg : NetCfg) (scene : SceneAt) (n : ℕ) (rate : ℤ) → IsFree rate → IsSceneOf cfg scene
    → IsSceneOf cfg (record scene { frees = slice_set scene.frees n rate })
with_free cfg scene n rate small is = record {
  duration = is.duration;
  links = is.links;
  offset_count = is.offset_count;
  free_count = length-set scene.frees n rate ∙ is.free_count;
  sum = is.sum;
  offset = is.offset;
  free = all_put IsFree scene.frees n rate small is.free;
  grandmaster = is.grandmaster;
  loss = is.loss;
  repeat = is.repeat;
  fault_count = is.fault_count;
  fault = is.fault;
}

-- a scenario with other losses
pub with_loss : (cfg : NetCfg) (scene : SceneAt) (permille : ℕ) → IsAmong 0 1_000 permille → IsSceneOf cfg scene
    → IsSceneOf cfg (record scene { loss = permille })
with_loss cfg scene permille among is = record {
  duration = is.duration;
  links = is.links;
  offset_count = is.offset_count;
  free_count = is.free_count;
  sum = is.sum;
  offset = is.offset;
  free = is.free;
  grandmaster = is.grandmaster;
  loss = among.1;
  repeat = is.repeat;
  fault_count = is.fault_count;
  fault = is.fault;
}

-- a scenario with other repeats
pub with_repeat : (cfg : NetCfg) (scene : SceneAt) (permille : ℕ) → IsAmong 0 1_000 permille → IsSceneOf cfg scene
    → IsSceneOf cfg (record scene { repeat = permille })
with_repeat cfg scene permille among is = record {
  duration = is.duration;
  links = is.links;
  offset_count = is.offset_count;
  free_count = is.free_count;
  sum = is.sum;
  offset = is.offset;
  free = is.free;
  grandmaster = is.grandmaster;
  loss = is.loss;
  repeat = among.1;
  fault_count = is.fault_count;
  fault = is.fault;
}

-- a scenario with one more fault
pub with_fault : (cfg : NetCfg) (scene : SceneAt) (fault : Fault) → length scene.faults < 64 → IsFault cfg fault
    → IsSceneOf cfg scene → IsSceneOf cfg (record scene { faults = scene.faults ++ fault ∷ [] })
with_fault cfg scene fault room fits is = record {
  duration = is.duration;
  links = is.links;
  offset_count = is.offset_count;
  free_count = is.free_count;
  sum = is.sum;
  offset = is.offset;
  free = is.free;
  grandmaster = is.grandmaster;
  loss = is.loss;
  repeat = is.repeat;
  fault_count = omega (arith, length_more scene.faults fault, room);
  fault = all_more (IsFault cfg) scene.faults fault is.fault fits;
}
