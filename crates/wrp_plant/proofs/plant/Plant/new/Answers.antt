use Rattle.std.proofs.Common.{◌≡◌, ◌∙◌, refl, sym, ap, ap₂, subst, ℤ, pos, ◌*ℤ◌, ◌-ℤ◌, List, [], length, arith}
use Rattle.wrp_network.specs.declared.configuration.NetCfg.{NetCfg}
use Rattle.wrp_network.specs.declared.network.LinkCfg.{LinkCfg}
use Rattle.wrp_base.specs.Clock.{second}
use Rattle.wrp_bounds.specs.Times.{frame_life}
use Rattle.wrp_caldb.specs.Database.{Database}
use Rattle.wrp_plant.specs.New.{IsSpanOf, new_clock}
use Rattle.wrp_plant.specs.Plant.{Each}
use Rattle.wrp_plant.specs.Sizes.{IsHorizonBy, IsTimeBy}
use Rattle.wrp_plant.proofs.NewPlants.{new_plant, clocks_fit, spans_fit, frames_fit, none_put, no_steps}
use Rattle.wrp_plant.proofs.Sizing.{never_later}
use Rattle.wrp_plant.proofs.SignedReads.{read}
use Rattle.wrp_plant.proofs.plant.Plant.new.Goals as goal

pub returns-clause-stands : goal.returns-clause-stands
returns-clause-stands c s e f =
    let start = read c.start_of-start.result (omega (arith, c.start_of-start.ensures.size)) ∙ c.start_of-start.ensures.value
    ∙ ap (λ (cfg : NetCfg). cfg.epoch *ℤ second) e in
    let links = c.as_slice.ensures.value ∙ ap (λ (cfg : NetCfg). cfg.links.items) e in
    new_plant s _ (record {
      cfg = e;
      db = f;
      time = start;
      events = refl;
      clocks = subst (λ t. Each (λ n clock. clock ≡ new_clock t) c.in_ok-clocks.clocks.items) start c.in_ok-clocks.ensures.each;
      span_count = c.in_ok-spans.ensures.count ∙ ap length links;
      spans = subst (λ (db : Database). Each (IsSpanOf db s.cfg.links.items) c.in_ok-spans.spans.items) f
          (subst (λ (xs : List LinkCfg). Each (IsSpanOf c.args.net.db xs) c.in_ok-spans.spans.items) links c.in_ok-spans.ensures.each);
      frames =
          c.new.ensures
          ∙ ap (λ (z : ℤ). record { horizon = z; sent = []; kept = [] })
          (read c.horizon_of-horizon.result (omega (arith, c.horizon_of-horizon.ensures.size)) ∙ c.horizon_of-horizon.ensures.value
          ∙ ap₂ (λ (t : ℤ) (cfg : NetCfg). t -ℤ pos (frame_life cfg)) start e);
    })

pub returns-clause-fits : goal.returns-clause-fits
returns-clause-fits c =
    let start = read c.start_of-start.result (omega (arith, c.start_of-start.ensures.size)) in
    let time = subst (IsTimeBy 0) (sym start) c.start_of-start.ensures.size in
    let horizon = read c.horizon_of-horizon.result (omega (arith, c.horizon_of-horizon.ensures.size)) in
    record {
      accepted = c.requires;
      clock_count = c.in_ok-clocks.ensures.count ∙ c.len.ensures.value;
      span_count = c.in_ok-spans.ensures.count ∙ ap length c.as_slice.ensures.value;
      events = omega arith;
      time = time;
      clocks = clocks_fit _ c.in_ok-clocks.clocks.items time c.in_ok-clocks.ensures.each;
      spans = spans_fit c.args.net.db c.as_slice.result.now c.in_ok-spans.spans.items c.in_ok-spans.ensures.count c.in_ok-spans.ensures.each;
      frames = frames_fit (length c.args.net.cfg.links.items) _ c.new.result c.new.ensures (subst (IsHorizonBy 0) (sym horizon) c.horizon_of-horizon.ensures.size);
      room = no_steps 0 c.in_ok-spans.spans.items refl;
      puts = none_put _ c.args.net.db c.as_slice.result.now c.in_ok-spans.spans.items c.in_ok-spans.ensures.count c.in_ok-spans.ensures.each;
      put = never_later _;
      top = c.top_of-top.ensures;
    }
