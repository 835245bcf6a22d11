-- A step that sends nothing and changes no link state leaves the ends of links and their room as they are.
use Rattle.std.proofs.Common.{◌≡◌, ◌∙◌, refl, ap, sym, subst, ℕ, suc, ◌+◌, ◌==◌, ◌++◌, ℤ, Bool, true, false, if◌then◌else◌, List, [], ◌∷◌, length, map, Option, None, Some, slice_get, arith}
use Rattle.std.proofs.lemmas.List.{append-nil}
use Rattle.wrp_base.specs.Clock.{period_of}
use Rattle.wrp_base.specs.declared.link.LinkState.{LinkState}
use Rattle.wrp_network.specs.declared.network.LinkCfg.{LinkCfg}
use Rattle.wrp_link.specs.Table.{is_same}
use Rattle.wrp_node.specs.declared.interface.Output.{Output}
use Rattle.wrp_node.specs.declared.ports.states.PortState.{PortState}
use Rattle.wrp_node.specs.States.{state_in}
use Rattle.wrp_course.specs.declared.clocks.ClockState.{ClockState}
use Rattle.wrp_plant.specs.declared.ends.EndState.{EndState}
use Rattle.wrp_plant.specs.declared.ends.Span.{Span}
use Rattle.wrp_plant.specs.declared.plant.Plant.{Plant}
use Rattle.wrp_changes.specs.declared.telling.News.{News}
use Rattle.wrp_changes.specs.Moves.{At, EachBecame, Where}
use Rattle.wrp_changes.specs.PlantTold.{IsQuiet, SameRow, Steps, TellsAt, TellsEnds, TellsIn, TellsPort, Told, cycles_in, less_one, mark_of, put_at, sends}
use Rattle.wrp_changes.specs.Room.{HasRoom}
use Rattle.wrp_changes.proofs.Roomy.{fewer_steps}
use Rattle.wrp_changes.proofs.TellingPlants.{none_sent, spare_kept}

-- Rows with the same content

state_by : (a b : Bool) (x y rest others : LinkState) → a ≡ b → is_same x y ≡ true → is_same rest others ≡ true →
    is_same (if a then x else rest) (if b then y else others) ≡ true
state_by true true x y rest others e h k = h
state_by false false x y rest others e h k = k
state_by true false x y rest others e h k = absurd (cc)
state_by false true x y rest others e h k = absurd (cc)

pub same_states : (p : ℕ) (xs ys : List PortState) → length xs ≡ length ys →
    ((i : ℕ) (x y : PortState) → slice_get xs i ≡ Some x → slice_get ys i ≡ Some y → SameRow x y) →
    is_same (state_in p xs) (state_in p ys) ≡ true
same_states p [] [] e h = refl
same_states p [] (y ∷ ys) e h = absurd (cc)
same_states p (x ∷ xs) [] e h = absurd (cc)
same_states p (x ∷ xs) (y ∷ ys) e h =
    let row : SameRow x y = h 0 x y refl refl in
    state_by (x.port == p) (y.port == p) x.state y.state (state_in p xs) (state_in p ys) (ap (λ n. n == p) row.port) row.state
    (same_states p xs ys (omega (arith, e)) (λ i a b f g. h (suc i) a b f g))

-- Ends

no_mark : (now : ℤ) (from to : LinkState) (news : News) → is_same from to ≡ true → mark_of now from to news.by ≡ []
no_mark now from to news e = ap (λ b. if b then [] else record { at = now; from = from; to = to; by = news.by } ∷ []) e

quiet_port : (now : ℤ) (news : News) (outs : List Output) (p : ℕ) (x : EndState) → IsQuiet news outs → TellsPort now news outs p x x
quiet_port now news outs p x q = record {
  name = refl;
  tx = refl;
  rx = refl;
  waiting = sym (ap (λ fs. x.waiting.items ++ map (put_at now) fs) (none_sent p outs q.silent) ∙ append-nil x.waiting.items);
  marks = sym (ap (λ ms. x.marks.items ++ ms) (no_mark now (state_in p news.before.now.items) (state_in p news.after.now.items) news (q.states p)) ∙ append-nil x.marks.items);
}

quiet_where : (b : Bool) (now : ℤ) (news : News) (outs : List Output) (p : ℕ) (x : EndState) → IsQuiet news outs → Where b (TellsPort now news outs p) x x
quiet_where true now news outs p x q = quiet_port now news outs p x q
quiet_where false now news outs p x q = refl

quiet_in : (now : ℤ) (news : News) (outs : List Output) (o : Option LinkCfg) (x : Span) → IsQuiet news outs → TellsIn now news outs o x x
quiet_in now news outs None x q = refl
quiet_in now news outs (Some link) x q = record {
  fibre = refl;
  master = quiet_where (link.upper == news.node) now news outs link.upper_port x.master q;
  slave = quiet_where (link.lower == news.node) now news outs link.lower_port x.slave q;
}

pub quiet_ends : (news : News) (outs : List Output) (plant : Plant) → IsQuiet news outs → TellsEnds news outs plant plant
quiet_ends news outs plant q = record {
  same = ap (λ b. record plant { last_put = if b then plant.time else plant.last_put }) (sym q.silent);
  spans = (refl, λ k y e. (y, e, quiet_in plant.time news outs (slice_get plant.net.cfg.links.items k) y q));
  room = λ k h. fewer_steps k (k + 1) plant.spans.items (omega arith) h;
  spare = λ h. h;
}

-- What a step that is not quiet does at the ends

pub loud_ends : (news : News) (outs : List Output) (old new : Plant) →
    new ≡ record old { spans = new.spans; last_put = if sends outs then old.time else old.last_put; spare = less_one old.spare } →
    EachBecame (TellsAt old.time news outs old.net.cfg.links.items) old.spans.items new.spans.items →
    ((k : ℕ) → HasRoom (k + 1) old → HasRoom k new) → HasRoom 1 old → TellsEnds news outs old new
loud_ends news outs old new e spans room one =
    let spare : new.spare ≡ less_one old.spare = ap (λ (p : Plant). p.spare) e in
    record {
      same = e ∙ ap (λ n. record old { spans = new.spans; last_put = if sends outs then old.time else old.last_put; spare = n }) (sym spare);
      spans = spans;
      room = room;
      spare = λ h. subst (λ n. HasRoom n new) (sym spare) (spare_kept old new room one old.spare h);
    }

-- Both parts of a step

pub told_both : (news : News) (outs : List Output) (old mid new : Plant) → mid ≡ record old { clocks = mid.clocks } →
    EachBecame (At news.node (Steps (cycles_in outs) old.time (period_of old.net.cfg.clock) news.ticked)) old.clocks.items mid.clocks.items →
    TellsEnds news outs mid new → Told news outs old new
told_both news outs old mid new m clocks t = record {
  cfg = ap (λ (p : Plant). p.net.cfg) t.same ∙ ap (λ (p : Plant). p.net.cfg) m;
  db = ap (λ (p : Plant). p.net.db) t.same ∙ ap (λ (p : Plant). p.net.db) m;
  time = ap (λ (p : Plant). p.time) t.same ∙ ap (λ (p : Plant). p.time) m;
  count = ap (λ (p : Plant). p.events) t.same ∙ ap (λ (p : Plant). p.events) m;
  of_clocks =
      subst (λ (xs : List ClockState). EachBecame (At news.node (Steps (cycles_in outs) old.time (period_of old.net.cfg.clock) news.ticked)) old.clocks.items xs)
      (sym (ap (λ (p : Plant). p.clocks.items) t.same)) clocks;
  of_spans = subst (λ (p : Plant). EachBecame (TellsAt p.time news outs p.net.cfg.links.items) p.spans.items new.spans.items) m t.spans;
  of_frames = ap (λ (p : Plant). p.frames) t.same ∙ ap (λ (p : Plant). p.frames) m;
  top = ap (λ (p : Plant). p.top) t.same ∙ ap (λ (p : Plant). p.top) m;
}

pub put_both : (news : News) (outs : List Output) (old mid new : Plant) → mid ≡ record old { clocks = mid.clocks } → TellsEnds news outs mid new →
    new.last_put ≡ (if sends outs then old.time else old.last_put)
put_both news outs old mid new m t = ap (λ (p : Plant). p.last_put) t.same ∙ ap (λ (p : Plant). if sends outs then p.time else p.last_put) m

-- a plant in which only the clocks changed has the same room
pub room_there : (k : ℕ) (old mid : Plant) → mid ≡ record old { clocks = mid.clocks } → HasRoom k old → HasRoom k mid
room_there k old mid m h = subst (HasRoom k) (sym m) h

pub spare_there : (old mid : Plant) → mid ≡ record old { clocks = mid.clocks } → HasRoom old.spare old → HasRoom mid.spare mid
spare_there old mid m h = subst (λ (p : Plant). HasRoom p.spare p) (sym m) h
