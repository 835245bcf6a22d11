use Rattle.std.proofs.Common.{◌∙◌, sym, ap, subst, ◌≤ℤ◌, slice_get, pos, ◌+ℤ◌, arith}
use Rattle.wrp_network.specs.declared.configuration.NetCfg.{NetCfg}
use Rattle.wrp_bounds.specs.Times.{reach}
use Rattle.wrp_plant.proofs.SignedReads.{read}
use Rattle.wrp_premises.proofs.TriedFibres.{delays_told}
use Rattle.wrp_premises.proofs.tries.fibres.delays_broken.Goals as goal

pub fibre_kept-requires-clause-down : goal.fibre_kept-requires-clause-down
fibre_kept-requires-clause-down c =
    subst (λ d. c.args.fibre.now.ms ≤ℤ d) (sym (read c.with_ports-down.result (omega (arith, c.with_ports-down.ensures.size))))
    (subst (λ m. m ≤ℤ c.with_ports-down.result) (read c.args.fibre.now.ms (omega (arith, c.requires.ms))) c.with_ports-down.ensures.least)

pub fibre_kept-requires-clause-up : goal.fibre_kept-requires-clause-up
fibre_kept-requires-clause-up c =
    subst (λ d. c.args.fibre.now.sm ≤ℤ d) (sym (read c.with_ports-up.result (omega (arith, c.with_ports-up.ensures.size))))
    (subst (λ m. m ≤ℤ c.with_ports-up.result) (read c.args.fibre.now.sm (omega (arith, c.requires.sm))) c.with_ports-up.ensures.least)

pub returns : goal.returns
returns c s w v h q =
    delays_told s v c.args.k _ _ _ c.args.fibre.now c.args.master c.args.slave c.link_cfg-link.result.now c.fibre_kept.result c.fibre_kept.ensures
    (read c.reach-most.result (omega (arith, c.reach-most.ensures.size)) ∙ c.reach-most.ensures.value ∙ ap (λ (cfg : NetCfg). pos (reach cfg)) (c.cfg.ensures.value ∙ h.cfg))
    q
    (read c.with_ports-down.result (omega (arith, c.with_ports-down.ensures.size)) ∙ c.with_ports-down.ensures.value
    ∙ ap (λ d. (pos c.args.master.tx +ℤ d) +ℤ pos c.args.slave.rx) (read c.args.fibre.now.ms (omega (arith, c.requires.ms))))
    (read c.with_ports-up.result (omega (arith, c.with_ports-up.ensures.size)) ∙ c.with_ports-up.ensures.value
    ∙ ap (λ d. (pos c.args.slave.tx +ℤ d) +ℤ pos c.args.master.rx) (read c.args.fibre.now.sm (omega (arith, c.requires.sm))))
    (ap (λ (cfg : NetCfg). slice_get cfg.links.items c.args.k) (sym h.cfg) ∙ c.link_cfg-link.ensures.value)
