-- The name of one more link stands for it.
use Rattle.std.proofs.Common.{◌≡◌, ◌∙◌, ℕ, ◌<◌, List, Some, ap, arith, get_or, length, subst, sym}
use Rattle.std.proofs.lemmas.Option.{slice_get-get_or, slice_get_within}
use Rattle.wrp_network.specs.declared.network.LinkCfg.{LinkCfg}
use Rattle.wrp_trace.specs.declared.events.marks.Named.TheVariants.{Link}
use Rattle.wrp_trace.specs.Places.{StandsFor}
use Rattle.wrp_trace.proofs.PlaceNames.{holds_of_more}
use Rattle.wrp_trace.proofs.events.marks.finds_links.Goals as goal

pub loop-at-preserved : goal.loop-at-preserved
loop-at-preserved c =
    let cfg = c.args.cfg.now in
    let link = c.index-deref-at.result in
    let below : c.loop-at.at < length cfg.links.items = omega (arith, c.loop-at-test.true, c.len-at-end.ensures.value) in
    let is = c.index-deref-at.is ∙ ap (λ (links : List LinkCfg). get_or links c.loop-at.at link) c.deref.ensures.0 in
    let there = slice_get-get_or cfg.links.items c.loop-at.at link below ∙ ap (λ (l : LinkCfg). Some l) (sym is) in
    let own : c.in-Link.l ≡ c.loop-at.at = omega (arith, c.if-from-at.true, c.from.ensures) in
    let text : c.as_bytes.result.now ≡ link.name.bytes = let a = c.as_bytes.ensures.value in let b = c.as_str.ensures.value in cc in
    holds_of_more (λ (k : ℕ) (l : LinkCfg). StandsFor cfg l.name.bytes (Link k)) cfg.links.items c.loop-at.at link there
    (subst (λ t. StandsFor cfg t (Link c.loop-at.at)) text (subst (λ k. StandsFor cfg c.as_bytes.result.now (Link k)) own c.in-Link.ensures))
    c.loop-at.invariant

pub returns : goal.returns
returns c = λ e l link there.
    let within = slice_get_within c.args.cfg.now.links.items l link there in
    c.loop-at.invariant l link (omega (arith, within, c.loop-at-test.false, c.len-at-end.ensures.value)) there
