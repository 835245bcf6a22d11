-- A plant before any event stands for the first state of a world.
use Rattle.std.proofs.Common.{◌≡◌, ◌∙◌, refl, ap, sym, subst, ℕ, zero, suc, ◌<◌, ℤ, pos, ◌-ℤ◌, List, [], ◌∷◌, length, Option, None, Some, slice_get, option_and_then, arith}
use Rattle.std.proofs.lemmas.Option.{none-some}
use Rattle.std.specs.Option.{option_map_or}
use Rattle.wrp_base.specs.declared.link.Module.{Module}
use Rattle.wrp_base.specs.declared.link.Role.TheVariants.{Master, Slave}
use Rattle.wrp_network.specs.declared.network.LinkCfg.{LinkCfg}
use Rattle.wrp_bounds.specs.Times.{frame_life}
use Rattle.wrp_caldb.specs.Database.{Database, module_at}
use Rattle.wrp_flights.specs.Frames.{FramesAt, sent_at}
use Rattle.wrp_course.specs.declared.clocks.ClockState.{ClockState}
use Rattle.wrp_plant.specs.declared.ends.EndState.{EndState}
use Rattle.wrp_plant.specs.declared.ends.PutOut.{PutOut}
use Rattle.wrp_plant.specs.declared.ends.Span.{Span}
use Rattle.wrp_course.specs.declared.fibres.FibreState.{FibreState}
use Rattle.wrp_plant.specs.declared.plant.Plant.{Plant}
use Rattle.wrp_plant.specs.EndRoom.{PutBy, SpanPutBy, HasEndRoom, HasSpanRoom}
use Rattle.wrp_plant.specs.New.{IsNewEnd, IsNewSpan, IsSpanOf, new_clock}
use Rattle.wrp_plant.specs.Plant.{Each, EndIs, SpanIs, FitsClock, FitsSpan, FitsFrames, FramesAre, PlantIs, PutOutIs}
use Rattle.wrp_course.specs.Setting.{Setting, start_of, entry_at}
use Rattle.wrp_plant.specs.Sizes.{IsTimeBy, IsDelayBy, IsHorizonBy}
use Rattle.wrp_course.specs.WorldAt.{new_world, new_end, named_at}
use Rattle.wrp_plant.proofs.EachLists.{at_place, each_none}
use Rattle.std.specs.List.{AllZip}

-- what the code makes of a network
pub record IsNewPlant (s : Setting) (plant : Plant) : Type 0 where
  pub cfg : plant.net.cfg ≡ s.cfg
  pub db : plant.net.db ≡ s.db
  pub time : plant.time ≡ start_of s
  pub events : plant.events ≡ 0
  pub clocks : Each (λ n clock. clock ≡ new_clock (start_of s)) plant.clocks.items
  pub span_count : length plant.spans.items ≡ length s.cfg.links.items
  pub spans : Each (IsSpanOf s.db s.cfg.links.items) plant.spans.items
  pub frames : plant.frames ≡ record { horizon = start_of s -ℤ pos (frame_life s.cfg); sent = []; kept = [] }

pub emptied_list : (ys : List PutOut) → ys ≡ [] → AllZip PutOutIs [] ys
emptied_list ys e = subst (AllZip PutOutIs []) (sym e) tt

end_is : (name : List ℕ) (entry : Option Module) (end : EndState) → IsNewEnd name entry end → EndIs (new_end name entry) end
end_is name entry end h = record {
  name = h.name_is;
  tx = h.tx;
  rx = h.rx;
  waiting = emptied_list end.waiting.items h.waiting;
  marks = h.marks;
}

-- there is a link at this place
place_at : (xs : List LinkCfg) (k : ℕ) → k < length xs → (link : LinkCfg) × (slice_get xs k ≡ Some link)
place_at [] k h = absurd (omega arith)
place_at (x ∷ xs) zero h = (x, refl)
place_at (x ∷ xs) (suc k) h = place_at xs k (omega arith)

master_is : (s : Setting) (k : ℕ) (link : LinkCfg) (end : EndState) → slice_get s.cfg.links.items k ≡ Some link →
    EndIs (new_end link.upper_module.bytes (entry_at s k Master link.upper_module.bytes)) end → EndIs ((new_world s).end_at k Master) end
master_is s k link end e h =
    subst (λ name. EndIs (new_end name (entry_at s k Master name)) end) (sym (ap (λ o. option_map_or (named_at Master) o []) e)) h

slave_is : (s : Setting) (k : ℕ) (link : LinkCfg) (end : EndState) → slice_get s.cfg.links.items k ≡ Some link →
    EndIs (new_end link.lower_module.bytes (entry_at s k Slave link.lower_module.bytes)) end → EndIs ((new_world s).end_at k Slave) end
slave_is s k link end e h =
    subst (λ name. EndIs (new_end name (entry_at s k Slave name)) end) (sym (ap (λ o. option_map_or (named_at Slave) o []) e)) h

span_is : (s : Setting) (k : ℕ) (link : LinkCfg) (span : Span) → slice_get s.cfg.links.items k ≡ Some link → IsNewSpan s.db link span → SpanIs (new_world s) k span
span_is s k link span e h = record {
  fibre = h.fibre;
  master = master_is s k link span.master e (subst (λ o. EndIs (new_end link.upper_module.bytes (option_and_then (λ (l : LinkCfg). module_at s.db link.upper_module.bytes l.down_nm l.up_nm) o)) span.master) (sym e) (end_is link.upper_module.bytes (module_at s.db link.upper_module.bytes link.down_nm link.up_nm) span.master h.master));
  slave = slave_is s k link span.slave e (subst (λ o. EndIs (new_end link.lower_module.bytes (option_and_then (λ (l : LinkCfg). module_at s.db link.lower_module.bytes l.up_nm l.down_nm) o)) span.slave) (sym e) (end_is link.lower_module.bytes (module_at s.db link.lower_module.bytes link.up_nm link.down_nm) span.slave h.slave));
}

none_sent : (i : ℕ) → sent_at i [] ≡ None
none_sent zero = refl
none_sent (suc i) = refl

pub new_plant : (s : Setting) (plant : Plant) → IsNewPlant s plant → PlantIs s (new_world s) plant
new_plant s plant h = record {
  cfg = h.cfg;
  db = h.db;
  time = h.time;
  count = h.events;
  clocks = h.clocks;
  spans = λ k span e.
      let at : (link : LinkCfg) × (slice_get s.cfg.links.items k ≡ Some link) =
      place_at s.cfg.links.items k (subst (λ n. k < n) h.span_count (at_place plant.spans.items k span e)) in
      span_is s k at.0 span at.1 (h.spans k span e at.0 at.1);
  frames = subst (FramesAre s (new_world s)) (sym h.frames) (record { horizon = refl; count = refl; sent = none_sent; each = λ i. tt });
}

-- and its numbers are in range

start_fits : (t : ℤ) → IsTimeBy 0 t → FitsClock 0 (new_clock t)
start_fits t h = record { off = omega arith; ticked = h; samples = omega arith }

pub clocks_fit : (t : ℤ) (clocks : List ClockState) → IsTimeBy 0 t → Each (λ n clock. clock ≡ new_clock t) clocks → Each (λ n. FitsClock 0) clocks
clocks_fit t clocks h each n clock e = subst (FitsClock 0) (sym (each n clock e)) (start_fits t h)

span_fits : (db : Database) (link : LinkCfg) (span : Span) → IsNewSpan db link span → FitsSpan 0 span
span_fits db link span h = record {
  ms = subst (λ (f : FibreState). IsDelayBy 0 f.ms) (sym h.fibre) (omega arith);
  sm = subst (λ (f : FibreState). IsDelayBy 0 f.sm) (sym h.fibre) (omega arith);
  master = record { waiting = subst (Each (λ i (out : PutOut). IsTimeBy 0 out.at)) (sym h.master.waiting) (each_none (λ i (out : PutOut). IsTimeBy 0 out.at)) };
  slave = record { waiting = subst (Each (λ i (out : PutOut). IsTimeBy 0 out.at)) (sym h.slave.waiting) (each_none (λ i (out : PutOut). IsTimeBy 0 out.at)) };
}

pub spans_fit : (db : Database) (links : List LinkCfg) (spans : List Span) → length spans ≡ length links → Each (IsSpanOf db links) spans → Each (λ k. FitsSpan 0) spans
spans_fit db links spans count each k span e =
    let at : (link : LinkCfg) × (slice_get links k ≡ Some link) =
    place_at links k (subst (λ n. k < n) count (at_place spans k span e)) in
    span_fits db at.0 span (each k span e at.0 at.1)

no_put : (z : ℤ) (end : EndState) → end.waiting.items ≡ [] → PutBy z end
no_put z end e i out g = absurd (none-some out (sym (ap (λ l. slice_get l i) e) ∙ g))

-- and no frame waits
pub none_put : (z : ℤ) (db : Database) (links : List LinkCfg) (spans : List Span) → length spans ≡ length links → Each (IsSpanOf db links) spans → Each (λ k. SpanPutBy z) spans
none_put z db links spans count each k span e =
    let at : (link : LinkCfg) × (slice_get links k ≡ Some link) = place_at links k (subst (λ n. k < n) count (at_place spans k span e)) in
    let it : IsNewSpan db at.0 span = each k span e at.0 at.1 in
    record { master = no_put z span.master it.master.waiting; slave = no_put z span.slave it.slave.waiting }

no_time : (e i : ℕ) (t : ℤ) → sent_at i [] ≡ Some t → IsTimeBy e t
no_time e i t g = absurd (none-some t (sym (none_sent i) ∙ g))

pub frames_fit : (links : ℕ) (horizon : ℤ) (frames : FramesAt) → frames ≡ record { horizon = horizon; sent = []; kept = [] } → IsHorizonBy 0 horizon → FitsFrames links 0 frames
frames_fit links horizon frames e h = subst (FitsFrames links 0) (sym e) (record {
  horizon = h;
  count = omega arith;
  sent = λ i t g. no_time 0 i t g;
  each = λ i d g. absurd (none-some d g);
})

end_room : (end : EndState) → HasEndRoom 0 end
end_room end = record { waiting = omega (arith, end.waiting.ok.1); marks = omega (arith, end.marks.ok.1) }

pub no_steps : (steps : ℕ) (spans : List Span) → steps ≡ 0 → Each (λ i. HasSpanRoom steps) spans
no_steps steps spans e n span at = subst (λ k. HasSpanRoom k span) (sym e) (record { master = end_room span.master; slave = end_room span.slave })
