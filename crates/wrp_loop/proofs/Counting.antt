-- How many events a loop can have.
use Rattle.std.proofs.Common.{◌≡◌, inl, inr, sym, subst, ℕ, ◌+◌, ◌<◌, List, [], ◌∷◌, length, arith}
use Rattle.arrayvec.specs.ArrayVec.{ArrayVec}
use Rattle.wrp_io.specs.declared.link.LinkCall.{LinkCall}
use Rattle.wrp_course.specs.declared.event.Event.{Event}
use Rattle.wrp_course.specs.declared.event.Event.TheVariants.{Arrive, Deliver, Noise}
use Rattle.wrp_loop.specs.declared.fate.Fate.{Fate}
use Rattle.wrp_loop.specs.declared.fate.Fate.TheVariants.{Handed, Forged, Noisy}
use Rattle.wrp_loop.specs.Datagrams.{Way}
use Rattle.wrp_loop.specs.Laws.{EventsAreNumbered}
use Rattle.wrp_loop.specs.LoopEnds.{IsOverrun}
use Rattle.wrp_loop.specs.LoopRun.{Carried, ComesBetween, Dropped, FollowsFate, Full, Goes, Going, HandlesAll, IsRound, LoopAt, Loops, On, Plain, Plan, Round, events_at, happened, loop_start, noise_stamp, place, with_event}

-- fewer than 4,294,967,295 events came; if the next has that number, one fewer than that came
abbrev HasCount : Going → Type 0
HasCount (On l) = length (events_at l) < 4_294_967_295
HasCount (Full l) = length (events_at l) + 1 ≡ 4_294_967_295

between_counts : (l : LoopAt) (e : Event) (next : Going) → ComesBetween l e next → HasCount next
between_counts l e next (inl full) = subst HasCount (sym full.1) (let is = full.0 in omega (arith, is))
between_counts l e next (inr came) = subst HasCount (sym came.4) (let room = came.0 in omega (arith, room))

fate_counts : (way : Way) (frame : ArrayVec ℕ) (l : LoopAt) (fate : Fate) (next : Going) → FollowsFate way frame l fate next → HasCount (On l) → HasCount next
fate_counts way frame l (Handed i) next f h = between_counts l (Deliver i) next f
fate_counts way frame l Forged next f h = subst HasCount (sym f) h
fate_counts way frame l Noisy next f h = between_counts l (Noise way.to.node way.to.port frame noise_stamp) next f

all_count : (x : Plan) (way : Way) (got : List (ArrayVec ℕ)) (now last : Going) → HandlesAll x way got now last → HasCount now → HasCount last
all_count x way [] now last f h = subst HasCount (sym f) h
all_count x way (frame ∷ got) (Full l) last f h = subst HasCount (sym f) h
all_count x way (frame ∷ got) (On l) last f h = all_count x way got f.0 last f.2 (fate_counts way frame l f.1.0 f.0 f.1.2 h)

round_counts : (x : Plan) (l : LoopAt) (r : Round) (calls : List LinkCall) (next : Going) → IsRound x l r calls next → HasCount (On l) → HasCount next
round_counts x l Plain calls next r h = subst HasCount (sym r.1.leads) (let room = r.1.room in omega (arith, room))
round_counts x l Dropped calls next r h = subst HasCount (sym r.1.leads) h
round_counts x l Carried calls next r h =
    all_count x r.way r.got (On (with_event (happened (Arrive r.number r.arrives.raw) r.says r.answer) r.arrives.new l)) next r.handled
    (let room = r.arrives.room in omega (arith, room))

goes_count : (x : Plan) (now : Going) (rounds : List Round) (calls : List LinkCall) (last : Going) → Goes x now rounds calls last → HasCount now → HasCount last
goes_count x now [] calls last g h = subst HasCount (sym g.1) h
goes_count x (Full l) (r ∷ rounds) calls last g h = absurd g
goes_count x (On l) (r ∷ rounds) calls last g h = goes_count x g.0 rounds g.2 last g.5 (round_counts x l r g.1 g.0 g.3 h)

loop_counts : (x : Plan) (calls : List LinkCall) (last : Going) → Loops x calls last → HasCount last
loop_counts x calls last loops =
    goes_count x (On (loop_start x)) loops.rounds loops.later last loops.goes (let none : 0 < 4_294_967_295 = omega arith in none)

below : (last : Going) → HasCount last → length (events_at (place last)) < 4_294_967_295
below (On l) h = h
below (Full l) h = omega (arith, h)

at_the_end : (x : Plan) (last : Going) → HasCount last → IsOverrun x last → length (events_at (place last)) ≡ 4_294_967_294
at_the_end x (On l) h over = let full = over.full in omega (arith, full)
at_the_end x (Full l) h over = omega (arith, h)

pub events_are_numbered : EventsAreNumbered
events_are_numbered x calls last loops = (
  below last (loop_counts x calls last loops),
  λ over. at_the_end x last (loop_counts x calls last loops) over,
)
