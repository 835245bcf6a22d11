use Rattle.std.proofs.Common.{◌≡◌, ◌∙◌, ap, sym, ℕ, ◌-◌, ◌+◌, fold, length, None, arith}
use Rattle.wrp_network.specs.declared.configuration.NetCfg.{NetCfg}
use Rattle.wrp_config.specs.declared.network.Network.{Network}
use Rattle.wrp_course.specs.Setting.{from_on}
use Rattle.wrp_sim.specs.Departures.{departing_over}
use Rattle.wrp_sim.proofs.SimLists.{fold_end, fold_more}
use Rattle.wrp_sim.proofs.sim.departing.first_at_ends.Goals as goal

pub loop-link-init : goal.loop-link-init
loop-link-init g c = (
  tt,
  tt,
  λ s w h.
      let all : (c.len-count.result - 0) ≡ c.len-count.result = omega arith in
      ap (λ (k : ℕ). fold (departing_over s w) None (from_on k 0)) all,
)

pub loop-link-preserved : goal.loop-link-preserved
loop-link-preserved g c = (
  c.first_of_link-first.ensures.range,
  c.first_of_link-first.ensures.node,
  λ s w h.
      ap (λ o. fold (departing_over s w) o (from_on (c.len-count.result - (c.loop-link.link + 1)) (c.loop-link.link + 1))) (c.first_of_link-first.ensures.value s w h)
      ∙ sym (fold_more (departing_over s w) c.loop-link.first c.len-count.result c.loop-link.link c.loop-link-test.true)
      ∙ c.loop-link.invariant.2 s w h,
)

pub returns-clause-value : goal.returns-clause-value
returns-clause-value g c s w h =
    let count = c.len-count.ensures.value ∙ ap (λ (x : Network). length x.cfg.links.items) c.net.ensures ∙ ap (λ (x : NetCfg). length x.links.items) h.plant.cfg in
    sym (fold_end (departing_over s w) c.loop-link.first c.len-count.result c.loop-link.link c.loop-link-test.false)
    ∙ c.loop-link.invariant.2 s w h
    ∙ ap (λ (k : ℕ). fold (departing_over s w) None (from_on k 0)) count
