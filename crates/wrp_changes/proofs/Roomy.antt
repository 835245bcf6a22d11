-- Taking memory changes nothing, and the change that an event makes by itself leaves the memory that was taken.
use Rattle.std.proofs.Common.{◌≡◌, ◌∙◌, refl, ap, sym, subst, ℕ, ℤ, ◌<◌, ◌≤◌, ◌⊎◌, inl, inr, List, Some, slice_get, arith}
use Rattle.std.specs.List.{AllZip}
use Rattle.std.proofs.lemmas.Bool.{cases_lt}
use Rattle.wrp_plant.specs.declared.ends.EndState.{EndState}
use Rattle.wrp_plant.specs.declared.ends.PutOut.{PutOut}
use Rattle.wrp_plant.specs.declared.ends.Span.{Span}
use Rattle.wrp_course.specs.declared.fibres.FibreState.{FibreState}
use Rattle.wrp_plant.specs.declared.plant.Plant.{Plant}
use Rattle.wrp_changes.specs.Moves.{EachBecame}
use Rattle.wrp_plant.specs.Plant.{Each, EndIs, FitsEnd, FitsPlant, FitsSpan, FramesAre, PlantIs, PutOutIs, SpanIs}
use Rattle.wrp_plant.specs.EndRoom.{HasEndRoom, HasSpanRoom, SpanPutBy}
use Rattle.wrp_changes.specs.Room.{SameEnd, SameSpan}
use Rattle.wrp_course.specs.Setting.{Setting}
use Rattle.wrp_plant.specs.Sizes.{IsDelayBy, IsTimeBy}
use Rattle.wrp_course.specs.WorldAt.{WorldAt, EndAt}
use Rattle.wrp_changes.proofs.PutsKept.{same_waiting}
use Rattle.wrp_changes.proofs.Turned.{Came, TurnedTo, each_turned}

-- A loop that takes memory, link by link

-- a link is as it was, and has at least the room that it had
pub record Keeps (i : ℕ) (old new : Span) : Type 0 where
  pub same : SameSpan i old new
  pub kept : (k : ℕ) → HasSpanRoom k old → HasSpanRoom k new

-- and it has room for this many steps
pub record Takes (steps i : ℕ) (old new : Span) : Type 0 where
  pub keeps : Keeps i old new
  pub room : HasSpanRoom steps new

same_end : (x : EndState) → SameEnd x x
same_end x = record { name = refl; tx = refl; rx = refl; waiting = refl; marks = refl }

keeps_itself : (i : ℕ) (x : Span) → Keeps i x x
keeps_itself i x = record { same = record { fibre = refl; master = same_end x.master; slave = same_end x.slave }; kept = λ k h. h }

pub at_any : (i j : ℕ) (x y : Span) → SameSpan i x y → SameSpan j x y
at_any i j x y h = record { fibre = h.fibre; master = h.master; slave = h.slave }

-- all of them, at the end of the loop
pub took_all : (steps : ℕ) (xs ys : List Span) → EachBecame (Takes steps) xs ys → Each (λ i. HasSpanRoom steps) ys
took_all steps xs ys t n y e = let it : Came (Takes steps) xs n y = t.1 n y e in it.2.room

-- as far as the loop has come
pub kept_so_far : (steps i : ℕ) (xs ys : List Span) → TurnedTo (Takes steps) xs ys i → TurnedTo Keeps xs ys i
kept_so_far steps i xs ys t = record {
  count = t.count;
  done = λ n y l e. let it : Came (Takes steps) xs n y = t.done n y l e in (it.0, it.1, it.2.keeps);
  left = t.left;
}

kept_at : (i n : ℕ) (xs ys : List Span) (y : Span) → TurnedTo Keeps xs ys i → (n < i) ⊎ (i ≤ n) → slice_get ys n ≡ Some y → Came Keeps xs n y
kept_at i n xs ys y t (inl l) e = t.done n y l e
kept_at i n xs ys y t (inr l) e = (y, sym (t.left n l) ∙ e, keeps_itself n y)

pub kept_all : (i : ℕ) (xs ys : List Span) → TurnedTo Keeps xs ys i → EachBecame Keeps xs ys
kept_all i xs ys t = (t.count, λ n y e. kept_at i n xs ys y t (cases_lt n i) e)

pub same_of_kept : (xs ys : List Span) → EachBecame Keeps xs ys → EachBecame SameSpan xs ys
same_of_kept xs ys t = (t.0, λ n y e. let it : Came Keeps xs n y = t.1 n y e in (it.0, it.1, it.2.same))

pub room_of_kept : (k : ℕ) (xs ys : List Span) → EachBecame Keeps xs ys → Each (λ i. HasSpanRoom k) xs → Each (λ i. HasSpanRoom k) ys
room_of_kept k xs ys t h = each_turned Keeps (λ i. HasSpanRoom k) (λ i. HasSpanRoom k) xs ys t (λ i x y r p. r.kept k p) h

-- If there is no step, everything is as it was

pub same_spans : (spans : List Span) → EachBecame SameSpan spans spans
same_spans spans = (refl, λ n y e. (y, e, record { fibre = refl; master = same_end y.master; slave = same_end y.slave }))

-- What the plant stands for, and the ranges of its numbers

end_is : (at : EndAt) (x y : EndState) → SameEnd x y → EndIs at x → EndIs at y
end_is at x y r h = record {
  name = ap (λ n. n.bytes) r.name ∙ h.name;
  tx = r.tx ∙ h.tx;
  rx = r.rx ∙ h.rx;
  waiting = subst (λ (l : List PutOut). AllZip PutOutIs at.waiting l) (sym r.waiting) h.waiting;
  marks = r.marks ∙ h.marks;
}

pub same_is : (s : Setting) (w : WorldAt) (old new : Plant) → new.net ≡ old.net → new.time ≡ old.time → new.events ≡ old.events → new.clocks ≡ old.clocks →
    new.frames ≡ old.frames → EachBecame SameSpan old.spans.items new.spans.items → PlantIs s w old → PlantIs s w new
same_is s w old new n t e c f r h = record {
  cfg = ap (λ k. k.cfg) n ∙ h.cfg;
  db = ap (λ k. k.db) n ∙ h.db;
  time = t ∙ h.time;
  count = e ∙ h.count;
  clocks = subst (Each (λ m clock. clock ≡ w.clock m)) (sym (ap (λ k. k.items) c)) h.clocks;
  spans =
      each_turned SameSpan (SpanIs w) (SpanIs w) old.spans.items new.spans.items r
      (λ k x y q p. record { fibre = q.fibre ∙ p.fibre; master = end_is _ x.master y.master q.master p.master; slave = end_is _ x.slave y.slave q.slave p.slave }) h.spans;
  frames = subst (FramesAre s w) (sym f) h.frames;
}

end_fits : (e : ℕ) (x y : EndState) → SameEnd x y → FitsEnd e x → FitsEnd e y
end_fits e x y r h = record { waiting = subst (λ (l : List PutOut). Each (λ i out. IsTimeBy e out.at) l) (sym r.waiting) h.waiting }

span_fits : (e k : ℕ) (x y : Span) → SameSpan k x y → FitsSpan e x → FitsSpan e y
span_fits e k x y r h = record {
  ms = subst (λ (f : FibreState). IsDelayBy e f.ms) (sym r.fibre) h.ms;
  sm = subst (λ (f : FibreState). IsDelayBy e f.sm) (sym r.fibre) h.sm;
  master = end_fits e x.master y.master r.master h.master;
  slave = end_fits e x.slave y.slave r.slave h.slave;
}

span_put : (z : ℤ) (k : ℕ) (x y : Span) → SameSpan k x y → SpanPutBy z x → SpanPutBy z y
span_put z k x y r h =
    record { master = same_waiting z x.master y.master r.master.waiting h.master; slave = same_waiting z x.slave y.slave r.slave.waiting h.slave }

pub same_fits : (old ys : Plant) → ys ≡ record old { spans = ys.spans; spare = ys.spare } → EachBecame SameSpan old.spans.items ys.spans.items →
    Each (λ i. HasSpanRoom ys.spare) ys.spans.items → FitsPlant old → FitsPlant ys
same_fits old ys same r room f = subst FitsPlant (sym same) (record {
  accepted = f.accepted;
  clock_count = f.clock_count;
  span_count = r.0 ∙ f.span_count;
  events = f.events;
  time = f.time;
  clocks = f.clocks;
  spans = each_turned SameSpan (λ n. FitsSpan old.events) (λ n. FitsSpan old.events) old.spans.items ys.spans.items r (λ k x y q p. span_fits old.events k x y q p) f.spans;
  frames = f.frames;
  room = room;
  puts = each_turned SameSpan (λ n. SpanPutBy old.last_put) (λ n. SpanPutBy old.last_put) old.spans.items ys.spans.items r (λ k x y q p. span_put old.last_put k x y q p) f.puts;
  put = f.put;
  top = f.top;
})

fewer_end : (k n : ℕ) (end : EndState) → k ≤ n → HasEndRoom n end → HasEndRoom k end
fewer_end k n end l h = record { waiting = omega (arith, h.waiting, l); marks = omega (arith, h.marks, l) }

-- room for some steps is room for fewer
pub fewer_steps : (k n : ℕ) (spans : List Span) → k ≤ n → Each (λ i. HasSpanRoom n) spans → Each (λ i. HasSpanRoom k) spans
fewer_steps k n spans l h i span at =
    let it = h i span at in record { master = fewer_end k n span.master l it.master; slave = fewer_end k n span.slave l it.slave }
