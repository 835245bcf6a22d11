-- A frame that arrives: the plant changes as its state does, and its numbers stay in range.
use Rattle.std.proofs.Common.{◌≡◌, ◌∙◌, refl, ap, ap₂, sym, ℕ, ◌+◌, ◌<◌, ◌^◌, ◌==◌, ◌||◌, ◌&&◌, nat_lt, Bool, true, false, if◌then◌else◌, length, Option, None, Some, option_map}
use Rattle.std.proofs.lemmas.Bool.{true≢false}
use Rattle.std.specs.Option.{is_some, option_map_or}
use Rattle.std.proofs.lemmas.Option.{none-some, same_Some}
use Rattle.wrp_base.specs.declared.link.Role.{Role}
use Rattle.wrp_base.specs.declared.link.Role.TheVariants.{Master, Slave}
use Rattle.wrp_base.specs.declared.time.Raw.{Raw}
use Rattle.wrp_network.specs.Network.{End}
use Rattle.wrp_base.specs.Link.{other_of}
use Rattle.wrp_course.specs.declared.event.Event.TheVariants.{Arrive}
use Rattle.wrp_flights.specs.declared.departed.Departed.{Departed}
use Rattle.wrp_flights.specs.declared.departed.Reception.{Reception}
use Rattle.wrp_flights.specs.Departed.{is_on, lost, receive}
use Rattle.wrp_flights.specs.Frames.{FramesAt, Turned, at}
use Rattle.wrp_flights.specs.Losing.{arrives_by, is_older, is_role as frame_role}
use Rattle.wrp_course.specs.declared.place.Place.{Place}
use Rattle.wrp_plant.specs.declared.plant.Plant.{Plant}
use Rattle.wrp_course.specs.EventAt.{IsRaw}
use Rattle.wrp_changes.specs.Flights.{from_of}
use Rattle.wrp_course.specs.Moved.{arrived, arriving, moved, samples_at}
use Rattle.wrp_changes.specs.Moves.{Changed, Same}
use Rattle.wrp_plant.specs.Plant.{DepartedIs, FitsDeparted, FitsPlant, FramesAre, PlantIs, ReceptionIs, SpanIs}
use Rattle.wrp_course.specs.Setting.{Setting, end_at, is_role}
use Rattle.wrp_course.specs.WorldAt.{Arrival, FrameAt, WorldAt, is_on_fibre}
use Rattle.wrp_plant.proofs.Sizing.{never_later}
use Rattle.wrp_changes.proofs.PutsKept.{same_puts}
use Rattle.wrp_changes.proofs.RoomKept.{same_room}
use Rattle.wrp_changes.proofs.Fitting.{plant_fits, same_clocks, same_spans, time_more, due_more, turned_fit}
use Rattle.wrp_plant.proofs.FoundFrames.{Found}
use Rattle.wrp_changes.proofs.FramesTurned.{ChangeIs, frames_turned}
use Rattle.wrp_plant.proofs.KeptSince.{found_kept, none_on, on_alike}
use Rattle.wrp_changes.proofs.Moving.{plant_is}
use Rattle.wrp_changes.proofs.Turned.{each_same}

none_from : (from : Place) → Some from ≡ None → ⊥
none_from from e = cc

-- One frame

roles_same : (a b : Role) → frame_role a b ≡ is_role a b
roles_same Master Master = refl
roles_same Master Slave = refl
roles_same Slave Master = refl
roles_same Slave Slave = refl

off_gone : (g b : Bool) → g || (b && (if g then false else false)) ≡ g
off_gone true b = refl
off_gone false true = refl
off_gone false false = refl

either_is : (b : Bool) (f : FrameAt) (x : Departed) (a : Arrival) (r : Reception) (p q : Bool) → ReceptionIs a r → x.gone || (q && is_on x) ≡ f.gone || (is_on_fibre (Some f) && p) → DepartedIs f x →
    DepartedIs (if b then record f { arrival = Some a } else record f { gone = f.gone || (is_on_fibre (Some f) && p) }) (lost q (if b then receive r x else x))
either_is true f x a r p q c g h = record {
  link = h.link;
  by = h.by;
  octets = h.octets;
  says = h.says;
  sent = h.sent;
  due = h.due;
  arrival = c;
  gone = off_gone x.gone q ∙ h.gone;
}
either_is false f x a r p q c g h = record {
  link = h.link;
  by = h.by;
  octets = h.octets;
  says = h.says;
  sent = h.sent;
  due = h.due;
  arrival = h.arrival;
  gone = g;
}

both_ways : (a b : Bool) → a && b ≡ b && a
both_ways true true = refl
both_ways true false = refl
both_ways false true = refl
both_ways false false = refl

gone_alike : (i j : ℕ) (f g : FrameAt) (x : Departed) (link : ℕ) (by : Role) → DepartedIs f x → link ≡ g.link → by ≡ g.by →
    (x.gone || (is_older j link by i x && is_on x)) ≡ (f.gone || (is_on_fibre (Some f) && (nat_lt i j && ((f.link == g.link) && is_role f.by g.by))))
gone_alike i j f g x link by h k l =
    ap₂ (λ a b. a || b) h.gone
    (both_ways (is_older j link by i x) (is_on x)
    ∙ ap₂ (λ a b. a && b) (sym (on_alike f x h)) (ap (λ b. nat_lt i j && b) (ap₂ (λ a b. a && b) (ap₂ (λ a b. a == b) h.link k) (roles_same x.by by ∙ ap₂ is_role h.by l))))

off_still : (g l x : Bool) → (if g then false else (if l then false else true)) ≡ false →
    (if g || ((if g then false else (if l then false else true)) && x) then false else (if l then false else true)) ≡ false
off_still true l x e = refl
off_still false true x e = refl
off_still false false x e = absurd (true≢false e)

arriving_off : (b : Bool) (f : FrameAt) (a : Arrival) (p : Bool) → is_on_fibre (Some f) ≡ false →
    is_on_fibre (Some (if b then record f { arrival = Some a } else record f { gone = f.gone || (is_on_fibre (Some f) && p) })) ≡ false
arriving_off true f a p e = landed f.gone where
  landed : (g : Bool) → (if g then false else false) ≡ false
  landed true = refl
  landed false = refl
arriving_off false f a p e = off_still f.gone (is_some f.arrival) p e

arriving_sent : (b : Bool) (f : FrameAt) (a : Arrival) (p : Bool) → (if b then record f { arrival = Some a } else record f { gone = p }).sending.at ≡ f.sending.at
arriving_sent true f a p = refl
arriving_sent false f a p = refl

arriving_is : (s : Setting) (w : WorldAt) (j : ℕ) (raw : Raw) (g : FrameAt) (link : ℕ) (by : Role) (r : Reception) (i : ℕ) → r.raw ≡ raw → r.sample ≡ samples_at s w g → link ≡ g.link → by ≡ g.by →
    ChangeIs (arriving s w j raw g i) (arrives_by j r link by i)
arriving_is s w j raw g link by r i a b k l = record {
  sent = λ f. arriving_sent (i == j) f (record { raw = raw; sample = samples_at s w g; at = w.time; moment = w.count }) _;
  off = λ f e. arriving_off (i == j) f (record { raw = raw; sample = samples_at s w g; at = w.time; moment = w.count }) (nat_lt i j && ((f.link == g.link) && is_role f.by g.by)) e;
  is = λ f x h.
      either_is (i == j) f x (record { raw = raw; sample = samples_at s w g; at = w.time; moment = w.count }) r (nat_lt i j && ((f.link == g.link) && is_role f.by g.by)) (is_older j link by i x)
      (record { raw = a; sample = b }) (gone_alike i j f g x link by h k l) h;
}

-- The samples at the node that receives a frame

abbrev pub samples_of : WorldAt → Option End → ℕ
samples_of w o = option_map_or (λ end. (w.clock end.node).samples) o 0

pub samples_at_end : (w : WorldAt) (o : Option End) (n x : ℕ) → option_map (λ end. end.node) o ≡ Some n → x ≡ (w.clock n).samples → x ≡ samples_of w o
samples_at_end w None n x e h = absurd (none-some n e)
samples_at_end w (Some end) n x e h = h ∙ ap (λ m. (w.clock m).samples) (sym (same_Some end.node n e))

-- All frames

frame_by : (s : Setting) (w : WorldAt) (j : ℕ) (raw : Raw) (g : FrameAt) (i : ℕ) (o : Option FrameAt) → arrived s w j raw (Some g) i o ≡ option_map (arriving s w j raw g i) o
frame_by s w j raw g i None = refl
frame_by s w j raw g i (Some f) = refl

samples_alike : (s : Setting) (w : WorldAt) (g : FrameAt) (d : Departed) → DepartedIs g d →
    option_map_or (λ end. (w.clock end.node).samples) (end_at s d.link (other_of d.by)) 0 ≡ samples_at s w g
samples_alike s w g d h =
    ap₂ (λ (k : ℕ) (r : Role). option_map_or (λ end. (w.clock end.node).samples) (end_at s k (other_of r)) 0) h.link h.by

abbrev samples_from : Setting → WorldAt → Place → ℕ
samples_from s w from = option_map_or (λ end. (w.clock end.node).samples) (end_at s from.link (other_of from.role)) 0

frames_by : (s : Setting) (w : WorldAt) (j : ℕ) (raw : Raw) (from : Place) (r : Reception) (old new : FramesAt) (g : FrameAt) (d : Departed) →
    w.frame j ≡ Some g → DepartedIs g d → from ≡ from_of d → r.raw ≡ raw → r.sample ≡ samples_from s w from →
    Turned (arrives_by j r from.link from.role) old new → FramesAre s w old → FramesAre s (moved s w (Arrive j raw)) new
frames_by s w j raw from r old new g d e k same a b t h =
    frames_turned s w (moved s w (Arrive j raw)) (arriving s w j raw g) (arrives_by j r from.link from.role) old new t refl refl
    (λ i. ap (λ q. arrived s w j raw q i (w.frame i)) e ∙ frame_by s w j raw g i (w.frame i))
    (λ i. arriving_is s w j raw g from.link from.role r i a (b ∙ ap (samples_from s w) same ∙ samples_alike s w g d k)
    (ap (λ (p : Place). p.link) same ∙ k.link) (ap (λ (p : Place). p.role) same ∙ k.by)) h

-- the frame that arrives, if one is kept
from_kept : (from : Place) (q : Option Departed) → Some from ≡ option_map from_of q → (d : Departed) × (q ≡ Some d) × (from ≡ from_of d)
from_kept from None p = absurd (none_from from p)
from_kept from (Some d) p = (d, refl, same_Some from (from_of d) p)

no_from : (q : Option Departed) → None ≡ option_map from_of q → q ≡ None
no_from None p = refl
no_from (Some d) p = absurd (none_from (from_of d) (sym p))

-- All parts

arrived_is : (s : Setting) (w : WorldAt) (j : ℕ) (raw : Raw) (F : FramesAt → FramesAt → Type 0) (old new : Plant) → Changed Same Same F old.time old new → PlantIs s w old →
    FramesAre s (moved s w (Arrive j raw)) new.frames → PlantIs s (moved s w (Arrive j raw)) new
arrived_is s w j raw F old new c h f =
    plant_is s w (moved s w (Arrive j raw)) _ _ _ _ old new c h h.time refl
    (each_same (λ m clock. clock ≡ w.clock m) (λ m clock. clock ≡ (moved s w (Arrive j raw)).clock m) old.clocks.items new.clocks.items c.of_clocks (λ m x e. e) h.clocks)
    (each_same (SpanIs w) (SpanIs (moved s w (Arrive j raw))) old.spans.items new.spans.items c.of_spans (λ k x e. record { fibre = e.fibre; master = e.master; slave = e.slave }) h.spans)
    f

pub arrive_is : (s : Setting) (w : WorldAt) (j : ℕ) (raw : Raw) (from : Place) (r : Reception) (old new : Plant) →
    Changed Same Same (Turned (arrives_by j r from.link from.role)) old.time old new → r.raw ≡ raw → r.sample ≡ samples_from s w from →
    Some from ≡ option_map from_of (at j old.frames.kept) → PlantIs s w old → PlantIs s (moved s w (Arrive j raw)) new
arrive_is s w j raw from r old new c a b p h =
    let d : (d : Departed) × (at j old.frames.kept ≡ Some d) × (from ≡ from_of d) = from_kept from (at j old.frames.kept) p in
    let it : Found DepartedIs (w.frame j) d.0 = found_kept old.frames.horizon (w.frame j) (at j old.frames.kept) d.0 (h.frames.each j) d.1 in
    arrived_is s w j raw (Turned (arrives_by j r from.link from.role)) old new c h
    (frames_by s w j raw from r old.frames new.frames it.one d.0 it.is it.holds d.2 a b c.of_frames h.frames)

-- a frame on a fibre is kept
pub none_arrives_is : (s : Setting) (w : WorldAt) (j : ℕ) (raw : Raw) (old new : Plant) → is_on_fibre (w.frame j) ≡ true →
    None ≡ option_map from_of (at j old.frames.kept) → PlantIs s w old → PlantIs s (moved s w (Arrive j raw)) new
none_arrives_is s w j raw old new on p h =
    absurd (true≢false (sym on ∙ none_on old.frames.horizon (w.frame j) (at j old.frames.kept) (h.frames.each j) (no_from (at j old.frames.kept) p)))

-- Sizes

either_fits : (links e : ℕ) (b : Bool) (x : Departed) (r : Reception) (q : Bool) → IsRaw r.raw → FitsDeparted links e x →
    FitsDeparted links (e + 1) (lost q (if b then receive r x else x))
either_fits links e true x r q a h = record { link = h.link; sent = time_more e x.sent h.sent; due = due_more e x.due h.due; raw = a }
either_fits links e false x r q a h = record { link = h.link; sent = time_more e x.sent h.sent; due = due_more e x.due h.due; raw = h.raw }

pub arrive_fits : (j : ℕ) (from : Place) (r : Reception) (old new : Plant) → IsRaw r.raw → Changed Same Same (Turned (arrives_by j r from.link from.role)) old.time old new →
    old.events + 1 < 2 ^ 32 → FitsPlant old → FitsPlant new
arrive_fits j from r old new a c few f =
    plant_fits _ _ _ _ old new c f few (time_more old.events old.time f.time) (ap length c.of_clocks) (ap length c.of_spans)
    (same_clocks old.events old.clocks.items new.clocks.items c.of_clocks f.clocks)
    (same_spans old.events old.spans.items new.spans.items c.of_spans f.spans)
    (turned_fit (length old.net.cfg.links.items) old.events (arrives_by j r from.link from.role) old.frames new.frames c.of_frames
    (λ i x h. either_fits (length old.net.cfg.links.items) old.events (i == j) x r (is_older j from.link from.role i x) a h) f.frames)
    (same_room _ _ _ old new c old.spare f.room) (same_puts old.last_put _ _ _ old new c f.puts) (never_later old.time)
