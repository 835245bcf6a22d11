-- The worked network is one that its reader accepts.
use Rattle.std.proofs.Common.{◌≡◌, ◌≢◌, inl, ◌∙◌, refl, ap, sym, subst, ℕ, zero, suc, ◌+◌, ◌*◌, ◌^◌, ◌<◌, ◌≤◌, pos, true, codes, List, [], ◌∷◌, None, Some, arith, lit<, lit≤}
use Rattle.std.specs.Prelude.{slice_get}
use Rattle.std.proofs.lemmas.Int.{ints}
use Rattle.std.proofs.lemmas.Option.{same_Some}
use Rattle.wrp_base.specs.Clock.{period_of}
use Rattle.wrp_base.specs.declared.link.Module.{Module}
use Rattle.wrp_network.specs.declared.network.LinkCfg.{LinkCfg}
use Rattle.wrp_network.specs.declared.network.NodeCfg.{NodeCfg}
use Rattle.wrp_network.specs.Network.{End, HasDepth, HasLinkRanges, HasNodeRanges, HasRanges, IsTree, link_above}
use Rattle.wrp_base.specs.Ranges.{IsFromTo}
use Rattle.wrp_bounds.specs.Bounds.{numbers_of, numbers_over}
use Rattle.wrp_bounds.specs.declared.numbers.HopNumbers.{HopNumbers}
use Rattle.wrp_bounds.specs.Hop.{detector_error, gap_motion}
use Rattle.wrp_bounds.specs.Motion.{rounded_up}
use Rattle.wrp_bounds.specs.Inequalities.{KeepsInequalities}
use Rattle.wrp_caldb.specs.Database.{FibreAt, ModuleAt}
use Rattle.wrp_caldb.specs.declared.database.Entry.{Entry}
use Rattle.wrp_caldb.specs.Name.{is_module_name, is_name}
use Rattle.wrp_config.specs.Accepted.{FitsDatabase, HasDelayRanges, HasNames, HasNoRepeat, IsAccepted, IsSoundDatabase, IsSoundFibre, IsSoundModule}
use Rattle.wrp_course.specs.Rows.{blue, database, network, node_cfg, the_link, violet}

-- Short lists

only_one : {X : Type 0} (x : X) (k : ℕ) (y : X) → slice_get (x ∷ []) k ≡ Some y → (k ≡ 0) × (x ≡ y)
only_one x zero y e = (refl, same_Some x y e)
only_one x (suc k) y e = absurd (cc)

one_of_two : {X : Type 0} (P : X → Type 0) (a b : X) (k : ℕ) (x : X) → P a → P b → slice_get (a ∷ b ∷ []) k ≡ Some x → P x
one_of_two P a b zero x p q e = subst P (same_Some a x e) p
one_of_two P a b (suc zero) x p q e = subst P (same_Some b x e) q
one_of_two P a b (suc (suc k)) x p q e = absurd (cc)

one_once : {X : Type 0} (x : X) → HasNoRepeat (x ∷ [])
one_once x i j y e f = (only_one x i y e).0 ∙ sym (only_one x j y f).0

two_once : {X : Type 0} (a b : X) → (a ≡ b → ⊥) → HasNoRepeat (a ∷ b ∷ [])
two_once a b differ zero zero x e f = refl
two_once a b differ zero (suc zero) x e f = absurd (differ (same_Some a x e ∙ sym (same_Some b x f)))
two_once a b differ (suc zero) zero x e f = absurd (differ (same_Some a x f ∙ sym (same_Some b x e)))
two_once a b differ (suc zero) (suc zero) x e f = refl
two_once a b differ (suc (suc i)) j x e f = absurd (cc)
two_once a b differ zero (suc (suc j)) x e f = absurd (cc)
two_once a b differ (suc zero) (suc (suc j)) x e f = absurd (cc)

-- Ranges

pub between : (least greatest n : ℕ) → least ≤ n → n ≤ greatest → IsFromTo least greatest (pos n)
between least greatest n h k = (omega (arith, ints, h), omega (arith, ints, k))

node_ranges : (name : List ℕ) (identity : ℕ) → identity < 2 ^ 64 → HasNodeRanges network.clock (node_cfg name identity)
node_ranges name identity few = record {
  identity = few;
  e_tx = (lit≤ tt, lit≤ tt);
  e_tag = (lit≤ tt, lit≤ tt);
  beat = lit≤ tt;
  slew = lit≤ tt;
  held = lit≤ tt;
}

link_ranges : HasLinkRanges the_link
link_ranges = record {
  upper_port = (lit≤ tt, lit≤ tt);
  lower_port = (lit≤ tt, lit≤ tt);
  kappa = lit≤ tt;
  e_asym = (lit≤ tt, lit≤ tt);
  down_nm = inl refl;
  up_nm = inl refl;
  e_db = lit≤ tt;
  law_err = (lit≤ tt, lit≤ tt);
}

ranges : HasRanges network
ranges = record {
  epoch = between 1_000_000 (2 ^ 35) 1_000_000 (lit≤ tt) (lit≤ tt);
  domain = between 0 255 0 (lit≤ tt) (lit≤ tt);
  dmin_ns = between 1_000 1_000_000_000 9_000_000 (lit≤ tt) (lit≤ tt);
  dmax_ns = between 1_000 1_000_000_000 11_000_000 (lit≤ tt) (lit≤ tt);
  life_ns = between 1 10_000_000_000 100_000_000 (lit≤ tt) (lit≤ tt);
  reach_ns = between 1 1_000_000_000 100_000 (lit≤ tt) (lit≤ tt);
  quiet = between 2 1_000_000 24 (lit≤ tt) (lit≤ tt);
  holdover = between 2 1_000_000 320 (lit≤ tt) (lit≤ tt);
  wait = between 1 1_000_000 30 (lit≤ tt) (lit≤ tt);
  lock_wait = between 1 1_000_000 1_500 (lit≤ tt) (lit≤ tt);
  holdoff = between 1 1_000_000 300 (lit≤ tt) (lit≤ tt);
  lease = between 1 1_000_000 250 (lit≤ tt) (lit≤ tt);
  age = between 1 1_000_000 300 (lit≤ tt) (lit≤ tt);
  report = between 1 1_000_000 100 (lit≤ tt) (lit≤ tt);
  stable = between 1 1_000_000 50 (lit≤ tt) (lit≤ tt);
  lock_samples = between 1 1_000_000 100 (lit≤ tt) (lit≤ tt);
  retries = between 0 100 3 (lit≤ tt) (lit≤ tt);
  gap = between 1 100 2 (lit≤ tt) (lit≤ tt);
  announce = between 1 10_000 100 (lit≤ tt) (lit≤ tt);
  sync = between 1 10_000 25 (lit≤ tt) (lit≤ tt);
  delay = between 1 10_000 25 (lit≤ tt) (lit≤ tt);
  ring = between 1 4_096 64 (lit≤ tt) (lit≤ tt);
  track_tau = between 1 1_000_000_000 3_276_800 (lit≤ tt) (lit≤ tt);
  loop_tau = between 1 1_000_000_000 3_276_800 (lit≤ tt) (lit≤ tt);
  phase_step = between 1 1_000_000_000 100_000 (lit≤ tt) (lit≤ tt);
  kp = between 0 65_535 125 (lit≤ tt) (lit≤ tt);
  ki = between 0 65_535 5 (lit≤ tt) (lit≤ tt);
  bias = between 0 65_535 32_768 (lit≤ tt) (lit≤ tt);
  threshold = between 1 (2 ^ 20) 6_400 (lit≤ tt) (lit≤ tt);
  delock_samples = between 0 1_000_000 50 (lit≤ tt) (lit≤ tt);
  e_db = lit≤ tt;
  tx_max = lit≤ tt;
  rx_max = lit≤ tt;
  nodes = λ n node is.
      one_of_two (HasNodeRanges network.clock) (node_cfg (codes "gm") 1) (node_cfg (codes "sw1") 2) n node (node_ranges (codes "gm") 1 (lit< tt)) (node_ranges (codes "sw1") 2 (lit< tt)) is;
  links = λ l link is. subst HasLinkRanges (only_one the_link l link is).1 link_ranges;
}

-- The tree

abbrev end_at : ℕ → End
end_at n = record { node = n; port = 1 }

other_ends : end_at 0 ≡ end_at 1 → ⊥
other_ends e = let f : 0 ≡ 1 = ap (λ (x : End). x.node) e in omega (arith, f)

top_only : (n : ℕ) → n < 2 → link_above network n ≡ None → n ≡ 0
top_only zero h e = refl
top_only (suc zero) h e = absurd (let f : Some the_link ≡ None = e in cc)
top_only (suc (suc n)) h e = absurd (omega (arith, h))

depth_of : (n : ℕ) → n < 2 → (depth : ℕ) × (depth ≤ 8) × HasDepth network depth n
depth_of zero h = (0, lit≤ tt, refl)
depth_of (suc zero) h = (1, lit≤ tt, (the_link, refl, refl))
depth_of (suc (suc n)) h = absurd (omega (arith, h))

tree : IsTree network
tree = record {
  some_node = lit< tt;
  ends = λ l link is. subst (λ (x : LinkCfg). (x.upper < 2) × (x.lower < 2)) (only_one the_link l link is).1 (lit< tt, lit< tt);
  one_parent = λ k l a b e f same. (only_one the_link k a e).0 ∙ sym (only_one the_link l b f).0;
  one_grandmaster = λ m n e f. top_only m e.0 e.1 ∙ sym (top_only n f.0 f.1);
  shallow = depth_of;
}

-- The inequalities

rooms : (n : ℕ) (hop : HopNumbers) → n < 2 → numbers_of network n ≡ Some hop → 2 * gap_motion hop + 4 * detector_error hop < period_of network.clock
unfolding numbers_over rounded_up
rooms zero hop h e = absurd (let f : None ≡ Some hop = e in cc)
rooms (suc zero) hop h e = subst (λ (x : HopNumbers). 2 * gap_motion x + 4 * detector_error x < period_of network.clock) (same_Some _ hop e) (lit< tt)
rooms (suc (suc n)) hop h e = absurd (omega (arith, h))

inequalities : KeepsInequalities network
inequalities = record {
  quiet_time = lit< tt;
  holdover_time = lit< tt;
  phase_room = rooms;
  tick_times = lit≤ tt;
  holdoff_time = lit≤ tt;
  flight_time = lit≤ tt;
  lock_counts = lit< tt;
  id_reuse = lit< tt;
  port_delays = lit≤ tt;
}

-- Names

other_names : codes "gm" ≡ codes "sw1" → ⊥
other_names e = cc

abbrev first_octet : List ℕ → ℕ
first_octet [] = 0
first_octet (octet ∷ octets) = octet

top_or_link : codes "gm" ≢ codes "f1"
top_or_link e = let f : first_octet (codes "gm") ≡ first_octet (codes "f1") = ap first_octet e in omega (arith, f)

lower_or_link : codes "sw1" ≢ codes "f1"
lower_or_link e = cc

less : (a b : ℕ) → a < b → a ≡ b → ⊥
less a b h e = omega (arith, h, e)

names : HasNames network
names = record {
  node = λ n node is. one_of_two (λ (x : NodeCfg). is_name x.name.bytes ≡ true) (node_cfg (codes "gm") 1) (node_cfg (codes "sw1") 2) n node refl refl is;
  link = λ l link is. subst (λ (x : LinkCfg). is_name x.name.bytes ≡ true) (only_one the_link l link is).1 refl;
  nodes_apart = two_once (codes "gm") (codes "sw1") other_names;
  links_apart = one_once (codes "f1");
  apart = λ n l node link is at.
      subst (λ (y : LinkCfg). node.name.bytes ≢ y.name.bytes) (only_one the_link l link at).1
      (one_of_two (λ (x : NodeCfg). x.name.bytes ≢ codes "f1") (node_cfg (codes "gm") 1) (node_cfg (codes "sw1") 2) n node top_or_link lower_or_link is);
  identities = two_once 1 2 (less 1 2 (lit< tt));
}

-- The database

module_ranges : (tx rx : ℕ) → tx ≤ 1_000_000_000_000 → rx ≤ 1_000_000_000_000 → HasDelayRanges (record { tx = tx; rx = rx; transition = 0; err = 1_310_720 })
module_ranges tx rx h k = record { tx = h; rx = k; transition = lit≤ tt; err = lit≤ tt }

abbrev listed : List ℕ → Module → ModuleAt
listed name delays = record { name = name; entries = record { tx_nm = 0; rx_nm = 0; delays = delays } ∷ [] }

sound_module : (name : List ℕ) (delays : Module) → is_module_name name ≡ true → HasDelayRanges delays → IsSoundModule (listed name delays)
sound_module name delays good ranges = record {
  name = good;
  entries = λ k entry is. subst (λ (x : Entry). HasDelayRanges x.delays) (only_one (record { tx_nm = 0; rx_nm = 0; delays = delays }) k entry is).1 ranges;
}

abbrev the_fibre : FibreAt
the_fibre = record { name = codes "smf"; fibre = record { kappa = pos 73_622_176; err = 1_310_720 }; table = None }

sound_fibre : IsSoundFibre the_fibre
sound_fibre = record { name = refl; kappa = lit≤ tt; least_err = lit≤ tt; err = lit≤ tt; table = tt }

other_modules : codes "blue" ≡ codes "violet" → ⊥
other_modules e = cc

sound : IsSoundDatabase database
sound = record {
  modules = λ k m is.
      one_of_two IsSoundModule (listed (codes "blue") blue) (listed (codes "violet") violet) k m
      (sound_module (codes "blue") blue refl (module_ranges 14_745_600_000 14_745_600_000 (lit≤ tt) (lit≤ tt)))
      (sound_module (codes "violet") violet refl (module_ranges 14_811_136_000 14_876_672_000 (lit≤ tt) (lit≤ tt))) is;
  fibres = λ k f is. subst IsSoundFibre (only_one the_fibre k f is).1 sound_fibre;
  modules_apart = two_once (codes "blue") (codes "violet") other_modules;
  fibres_apart = one_once (codes "smf");
}

fits : FitsDatabase database the_link
fits = record {
  wavelengths = (λ e. refl, λ e. refl);
  upper_module = refl;
  lower_module = refl;
  fibre = refl;
  e_db = refl;
  law_err = refl;
}

-- All of it

pub network_is_accepted : IsAccepted network database
network_is_accepted = record {
  ranges = ranges;
  ports = two_once (end_at 0) (end_at 1) other_ends;
  tree = tree;
  inequalities = inequalities;
  names = names;
  database = sound;
  links = λ l link is. subst (FitsDatabase database) (only_one the_link l link is).1 fits;
  e_db = refl;
  tx_max = refl;
  rx_max = refl;
}
