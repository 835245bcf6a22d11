use Rattle.std.proofs.Common.{◌≡◌, ◌+◌, suc, ◌∙◌, ap, refl, length, arith}
use Rattle.wrp_network.specs.declared.configuration.NetCfg.{NetCfg}
use Rattle.wrp_plant.specs.FirstPort.{first_among, with_link}
use Rattle.wrp_plant.proofs.FirstPorts.{accepted_in, first_is}
use Rattle.wrp_plant.proofs.plant.Plant.first_put_out.Goals as goal

pub loop-k-init : goal.loop-k-init
loop-k-init c = (omega arith, λ s w h. refl)

pub loop-k-preserved : goal.loop-k-preserved
loop-k-preserved c = (
  omega (arith, c.loop-k-test.true),
  λ s w h.
      let next : suc c.loop-k.k ≡ c.loop-k.k + 1 = omega arith in
      c.with_link-first.ensures s w h ∙ ap (λ o. with_link s w o c.loop-k.k) (c.loop-k.invariant.1 s w h) ∙ ap (first_among s w) next,
)

pub returns : goal.returns
returns c s w h =
    let end : c.loop-k.k ≡ c.link_count-count.result = omega (arith, c.loop-k-test.false, c.loop-k.invariant.0) in
    c.loop-k.invariant.1 s w h
    ∙ ap (first_among s w) (end ∙ c.link_count-count.ensures ∙ ap (λ (cfg : NetCfg). length cfg.links.items) h.cfg)
    ∙ first_is s w (accepted_in s w c.args.self.now c.requires h)
