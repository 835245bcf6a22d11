-- The path of a child, and the path of the grandmaster.
use Rattle.std.proofs.Common.{◌≡◌, ℕ, zero, suc, ◌+◌, ◌≤◌, refl, ap, sym, subst, ◌∙◌, List, ◌∷◌, Option, Some, None, arith}
use Rattle.std.specs.Prelude.{sum_by}
use Rattle.std.specs.Option.{option_map_or, option_and_then}
use Rattle.std.proofs.lemmas.List.Sums.{sum_by-cons}
use Rattle.wrp_network.specs.declared.configuration.NetCfg.{NetCfg}
use Rattle.wrp_network.specs.declared.network.LinkCfg.{LinkCfg}
use Rattle.wrp_network.specs.Network.{HasDepth, link_above}
use Rattle.wrp_bounds.specs.Hop.{hop_bound}
use Rattle.wrp_bounds.specs.Bounds.{numbers_over, hop_of, hop_over, held_motion, links_up, step_over, path_of}
use Rattle.wrp_bounds.specs.Laws.{PathOfChild, GrandmasterIsExact}
use Rattle.wrp_bounds.proofs.WayUp.{links_up-top, links_up-step}

-- the way up does not depend on how many links are allowed, if they reach the top
links_up-enough : (net : NetCfg) (depth most n : ℕ) → HasDepth net depth n → depth ≤ most → links_up most net n ≡ links_up depth net n
links_up-enough net zero most n top enough = links_up-top most net n top ∙ sym (links_up-top zero net n top)
links_up-enough net (suc depth) zero n deep enough = absurd (omega arith)
links_up-enough net (suc depth) (suc most) n deep enough =
    let link : LinkCfg = deep.0 in
    links_up-step most net n link deep.1 ∙ ap (λ (links : List LinkCfg). link ∷ links) (links_up-enough net depth most link.upper deep.2 (omega arith))
    ∙ sym (links_up-step depth net n link deep.1)

-- above a node that has a parent, seven links are enough
links_above : (net : NetCfg) (depth n : ℕ) (link : LinkCfg) → HasDepth net depth n → depth ≤ 8 → link_above net n ≡ Some link →
    links_up 7 net link.upper ≡ links_up 8 net link.upper
links_above net zero n link top few above = let none : Some link ≡ None = sym above ∙ top in absurd (cc)
links_above net (suc depth) n link deep few above =
    let same : Some deep.0 ≡ Some link = sym deep.1 ∙ above in
    let one : deep.0 ≡ link = cc in
    let up : HasDepth net depth link.upper = let P : LinkCfg → Type 0 = λ l. HasDepth net depth l.upper in subst P one deep.2 in
    links_up-enough net depth 7 link.upper up (omega arith) ∙ sym (links_up-enough net depth 8 link.upper up (omega arith))

-- the hop of a node is that over the link above it
hop_of-above : (net : NetCfg) (n : ℕ) (link : LinkCfg) → link_above net n ≡ Some link → hop_of net n ≡ hop_over net link
hop_of-above net n link above = ap (λ (o : Option LinkCfg). option_map_or hop_bound (option_and_then (numbers_over net) o) 0) above

pub path-child : PathOfChild
unfolding path_of
path-child net n link tree within above =
    let deep : (depth : ℕ) × (depth ≤ 8) × HasDepth net depth n = tree.shallow n within in
    let up : links_up 8 net n ≡ link ∷ links_up 8 net link.upper =
    links_up-step 7 net n link above ∙ ap (λ (links : List LinkCfg). link ∷ links) (links_above net deep.0 n link deep.2 deep.1 above) in
    let sum : sum_by (step_over net) (links_up 8 net n) ≡ step_over net link + sum_by (step_over net) (links_up 8 net link.upper) =
    ap (sum_by (step_over net)) up ∙ sum_by-cons (step_over net) link (links_up 8 net link.upper) in
    omega (arith, sum, hop_of-above net n link above)

pub grandmaster-exact : GrandmasterIsExact
unfolding path_of held_motion
grandmaster-exact net n top =
    let path : sum_by (step_over net) (links_up 8 net n) ≡ 0 = ap (sum_by (step_over net)) (links_up-top 8 net n top.1) in
    let held : held_motion net n ≡ 0 = rw (top.1, held_motion) refl in
    (path, omega (arith, path, held))
