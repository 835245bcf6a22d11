-- The way up from a node: its links, one by one.
use Rattle.std.proofs.Common.{◌≡◌, ℕ, zero, suc, ◌+◌, ◌-◌, ◌<◌, ◌≤◌, refl, ap, sym, ◌∙◌, [], ◌∷◌, arith, Some, None}
use Rattle.std.specs.Prelude.{sum_by}
use Rattle.std.proofs.lemmas.List.Sums.{sum_by-cons}
use Rattle.wrp_network.specs.declared.configuration.NetCfg.{NetCfg}
use Rattle.wrp_network.specs.declared.network.LinkCfg.{LinkCfg}
use Rattle.wrp_network.specs.Network.{link_above}
use Rattle.wrp_bounds.specs.Bounds.{hop_over, held_motion, links_up, step_over}

-- at the top there is none
pub links_up-top : (most : ℕ) (net : NetCfg) (n : ℕ) → link_above net n ≡ None → links_up most net n ≡ []
unfolding links_up
links_up-top zero net n top = refl
links_up-top (suc most) net n top = rw (top, links_up) refl

-- below it the link above comes first
pub links_up-step : (most : ℕ) (net : NetCfg) (n : ℕ) (link : LinkCfg) → link_above net n ≡ Some link → links_up (suc most) net n ≡ link ∷ links_up most net link.upper
unfolding links_up
links_up-step most net n link above = rw (above, links_up) refl

-- one link more on the way up: what is summed so far and what is left stay one number
pub sum_on : (net : NetCfg) (n : ℕ) (link : LinkCfg) (passed sum hop held whole : ℕ) → passed < 8 →
    sum + sum_by (step_over net) (links_up (8 - passed) net n) ≡ whole → Some link ≡ link_above net n →
    hop ≡ hop_over net link → held ≡ held_motion net link.upper →
    sum + (hop + held) + sum_by (step_over net) (links_up (8 - (passed + 1)) net link.upper) ≡ whole
sum_on net n link passed sum hop held whole few so_far above hop_is held_is =
    let left : 8 - passed ≡ suc (8 - (passed + 1)) = omega arith in
    let up : links_up (8 - passed) net n ≡ link ∷ links_up (8 - (passed + 1)) net link.upper =
    ap (λ (most : ℕ). links_up most net n) left ∙ links_up-step (8 - (passed + 1)) net n link (sym above) in
    let rest : sum_by (step_over net) (links_up (8 - passed) net n) ≡ step_over net link + sum_by (step_over net) (links_up (8 - (passed + 1)) net link.upper) =
    ap (sum_by (step_over net)) up ∙ sum_by-cons (step_over net) link (links_up (8 - (passed + 1)) net link.upper) in
    omega (arith, rest)

-- at the top what is summed so far is the whole
pub sum_at_top : (net : NetCfg) (n most sum whole : ℕ) → sum + sum_by (step_over net) (links_up most net n) ≡ whole → link_above net n ≡ None → sum ≡ whole
sum_at_top net n most sum whole so_far top =
    let none : sum_by (step_over net) (links_up most net n) ≡ 0 = ap (sum_by (step_over net)) (links_up-top most net n top) in
    omega (arith, none)

-- and after eight links too
pub sum_at_end : (net : NetCfg) (n passed sum whole : ℕ) → 8 ≤ passed → sum + sum_by (step_over net) (links_up (8 - passed) net n) ≡ whole → sum ≡ whole
unfolding links_up
sum_at_end net n passed sum whole all so_far =
    let left : 8 - passed ≡ 0 = omega arith in
    let none : sum_by (step_over net) (links_up (8 - passed) net n) ≡ 0 = ap (λ (most : ℕ). sum_by (step_over net) (links_up most net n)) left in
    omega (arith, none)
