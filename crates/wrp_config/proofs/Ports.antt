-- Links whose ends are all different name no port twice.
use Rattle.std.proofs.Common.{◌≡◌, ◌≢◌, ◌<◌, ℕ, zero, suc, List, [], ◌∷◌, Some, refl, sym, ap, ◌∙◌, arith}
use Rattle.std.specs.Prelude.{slice_get}
use Rattle.std.specs.List.{flat_map}
use Rattle.wrp_network.specs.declared.network.LinkCfg.{LinkCfg}
use Rattle.wrp_network.specs.Network.{End, ends_of}
use Rattle.wrp_config.specs.Accepted.{HasNoRepeat}

-- the ends of a link
abbrev pub upper_of : LinkCfg → End
upper_of link = record { node = link.upper; port = link.upper_port }

abbrev pub lower_of : LinkCfg → End
lower_of link = record { node = link.lower; port = link.lower_port }

-- an end of none of these links
abbrev pub IsAway : End → List LinkCfg → Type 0
IsAway end links = (l : ℕ) (link : LinkCfg) → slice_get links l ≡ Some link → (end ≢ upper_of link) × (end ≢ lower_of link)

away_flat : (end : End) (links : List LinkCfg) → IsAway end links → (k : ℕ) → slice_get (flat_map ends_of links) k ≢ Some end
away_flat end [] away k e = cc e
away_flat end (link ∷ links) away zero e = (away 0 link refl).0 (let same : upper_of link ≡ end = cc e in sym same)
away_flat end (link ∷ links) away (suc zero) e = (away 0 link refl).1 (let same : lower_of link ≡ end = cc e in sym same)
away_flat end (link ∷ links) away (suc (suc k)) e = away_flat end links (λ l. away (suc l)) k e

-- a list with an element that is not in it
with_new : {X : Type 0} (x : X) (xs : List X) → ((k : ℕ) → slice_get xs k ≢ Some x) → HasNoRepeat xs → HasNoRepeat (x ∷ xs)
with_new x xs new once zero zero y ei ej = refl
with_new x xs new once zero (suc j) y ei ej = let same : x ≡ y = cc ei in absurd (new j (ej ∙ ap Some (sym same)))
with_new x xs new once (suc i) zero y ei ej = let same : x ≡ y = cc ej in absurd (new i (ei ∙ ap Some (sym same)))
with_new x xs new once (suc i) (suc j) y ei ej = ap suc (once i j y ei ej)

-- an upper end that is not the lower one, and no later one
new_upper : (link : LinkCfg) (links : List LinkCfg) → upper_of link ≢ lower_of link → ((k : ℕ) → slice_get (flat_map ends_of links) k ≢ Some (upper_of link))
    → (k : ℕ) → slice_get (lower_of link ∷ flat_map ends_of links) k ≢ Some (upper_of link)
new_upper link links own away zero e = own (let same : lower_of link ≡ upper_of link = cc e in sym same)
new_upper link links own away (suc k) e = away k e

-- no end of a link is one of an earlier link, and its two ends are different
pub record AreApart (links : List LinkCfg) : Type 0 where
  pub own : (l : ℕ) (link : LinkCfg) → slice_get links l ≡ Some link → upper_of link ≢ lower_of link
  pub others : (i j : ℕ) (a b : LinkCfg) → i < j → slice_get links i ≡ Some a → slice_get links j ≡ Some b
      → (upper_of a ≢ upper_of b) × (upper_of a ≢ lower_of b) × (lower_of a ≢ upper_of b) × (lower_of a ≢ lower_of b)

nothing_once : {X : Type 0} → HasNoRepeat {X = X} []
nothing_once i j x ei ej = cc ei

pub ports_once : (links : List LinkCfg) → AreApart links → HasNoRepeat (flat_map ends_of links)
ports_once [] apart = nothing_once
ports_once (link ∷ links) apart =
    let rest : AreApart links = record {
      own = λ l. apart.own (suc l);
      others = λ i j a b h. apart.others (suc i) (suc j) a b (omega (arith, h));
    } in
    let lower_away : IsAway (lower_of link) links = λ l other e.
    let each = apart.others 0 (suc l) link other (omega arith) refl e in (each.2, each.3) in
    let upper_away : IsAway (upper_of link) links = λ l other e.
    let each = apart.others 0 (suc l) link other (omega arith) refl e in (each.0, each.1) in
    let lower_once = with_new (lower_of link) (flat_map ends_of links) (away_flat (lower_of link) links lower_away) (ports_once links rest) in
    with_new (upper_of link) (lower_of link ∷ flat_map ends_of links) (new_upper link links (apart.own 0 link refl) (away_flat (upper_of link) links upper_away)) lower_once
