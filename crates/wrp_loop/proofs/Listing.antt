-- The lists of frames that arrived and were handed over, event by event.
use Rattle.std.proofs.Common.{◌≡◌, ◌∙◌, ◌⊎◌, inl, inr, refl, ap, sym, subst, ℕ, ◌==◌, ◌||◌, ◌≤◌, ℤ, pos, ◌-ℤ◌, ◌≤ℤ◌, Bool, true, false, List, [], ◌∷◌, ◌++◌, None, Some, Result, arith}
use Rattle.std.proofs.lemmas.Bool.{eqb-true, eq-eqb}
use Rattle.std.proofs.lemmas.Int.{ints}
use Rattle.std.proofs.lemmas.Option.{none-some, same_Some}
use Rattle.std.specs.List.{AllByRecursion}
use Rattle.std.specs.Option.{is_some}
use Rattle.wrp_base.specs.declared.message.PtpMsg.{PtpMsg}
use Rattle.wrp_base.specs.declared.time.Raw.{Raw}
use Rattle.wrp_base.proofs.Booleans.{not_both}
use Rattle.wrp_bounds.specs.Times.{frame_life}
use Rattle.wrp_frame.specs.declared.fault.FrameFault.{FrameFault}
use Rattle.wrp_course.specs.declared.event.Event.{Event}
use Rattle.wrp_course.specs.declared.event.Event.TheVariants.{Arrive, Deliver}
use Rattle.wrp_course.specs.EventAt.{IsEventOf}
use Rattle.wrp_course.specs.Given.{world_step}
use Rattle.wrp_course.specs.Run.{Happened, world_after}
use Rattle.wrp_course.specs.Setting.{Setting}
use Rattle.wrp_course.specs.Views.{octets_at}
use Rattle.wrp_course.specs.WorldAt.{FrameAt, WorldAt}
use Rattle.wrp_course.proofs.RunTimes.{step_time}
use Rattle.wrp_loop.specs.declared.index.Came.{Came}
use Rattle.wrp_loop.specs.Datagrams.{end_number, handed_in, hands}
use Rattle.wrp_loop.specs.Index.{HasArrived, In, IsEntry, IsIndex, IsYoung, came_at, has_number}
use Rattle.wrp_loop.specs.LoopRun.{happened}
use Rattle.wrp_loop.proofs.Frames.{FrameWas, IsArrivalAt, arrival_here, step_departed, step_was, young_octets}

-- Lists

in_left : (c : Came) (xs ys : List Came) → In c xs → In c (xs ++ ys)
in_left c [] ys h = absurd h
in_left c (x ∷ xs) ys (inl same) = inl same
in_left c (x ∷ xs) ys (inr more) = inr (in_left c xs ys more)

in_right : (c : Came) (xs ys : List Came) → In c ys → In c (xs ++ ys)
in_right c [] ys h = h
in_right c (x ∷ xs) ys h = inr (in_right c xs ys h)

in_either : (c : Came) (xs ys : List Came) → In c (xs ++ ys) → In c xs ⊎ In c ys
in_either c [] ys h = inr h
in_either c (x ∷ xs) ys (inl same) = inl (inl same)
in_either c (x ∷ xs) ys (inr more) = elim (in_either c xs ys more) [ inl a ↦ inl (inr a) | inr b ↦ inr b ]

or_assoc : (a b c : Bool) → (a || (b || c)) ≡ ((a || b) || c)
or_assoc true b c = refl
or_assoc false b c = refl

numbers_join : (xs ys : List Came) (i : ℕ) → has_number (xs ++ ys) i ≡ (has_number xs i || has_number ys i)
numbers_join [] ys i = refl
numbers_join (x ∷ xs) ys i = ap (λ b. (x.number == i) || b) (numbers_join xs ys i) ∙ or_assoc (x.number == i) (has_number xs i) (has_number ys i)

or_either : (a b : Bool) → (a || b) ≡ true → (a ≡ true) ⊎ (b ≡ true)
or_either true b e = inl refl
or_either false b e = inr e

or_left : (a b : Bool) → a ≡ true → (a || b) ≡ true
or_left a b e = ap (λ c. c || b) e

or_right : (a b : Bool) → b ≡ true → (a || b) ≡ true
or_right true b e = refl
or_right false b e = e

or_none : (a b : Bool) → a ≡ false → (a || b) ≡ b
or_none a b e = ap (λ c. c || b) e

not_so : (b : Bool) → (b ≡ true → ⊥) → b ≡ false
not_so true h = absurd (h refl)
not_so false h = refl

-- One event

abbrev after : Setting → List Happened → Event → Result PtpMsg FrameFault → ℤ → WorldAt
after s events e says y = world_step s says y (world_after s events) e

has_arrived : (s : Setting) (events : List Happened) (e : Event) (says : Result PtpMsg FrameFault) (y : ℤ) (i : ℕ) → HasArrived (world_after s events) i → HasArrived (after s events e says y) i
has_arrived s events e says y i h =
    let w : WorldAt = world_after s events in
    let more = step_departed s says y w e in
    let given = h.given in
    record {
      given = omega (arith, more, given);
      arrived = λ g is.
          let was : FrameWas w e i g = step_was s says y w e i g (inl h.given) is in
          was.keeps (h.arrived was.frame was.is);
    }

entry_stays : (s : Setting) (events : List Happened) (e : Event) (says : Result PtpMsg FrameFault) (y : ℤ) (c : Came) → IsEntry (world_after s events) c → IsEntry (after s events e says y) c
entry_stays s events e says y c h =
    let w : WorldAt = world_after s events in
    record {
      here = has_arrived s events e says y c.number h.here;
      sent = λ g is.
          let was : FrameWas w e c.number g = step_was s says y w e c.number g (inl h.here.given) is in
          h.sent was.frame was.is ∙ (λ i. end_number (sym was.link_is i) (sym was.by_is i));
    }

was_young : (now later sent : ℤ) (life : ℕ) → now ≤ℤ later → (later -ℤ sent) ≤ℤ pos life → (now -ℤ sent) ≤ℤ pos life
was_young now later sent life h k = omega (arith, ints, h, k)

young_before : (s : Setting) (events : List Happened) (e : Event) (says : Result PtpMsg FrameFault) (y : ℤ) (i : ℕ) (g : FrameAt) → IsEventOf s.cfg e → (was : FrameWas (world_after s events) e i g) → IsYoung s (after s events e says y) g →
    IsYoung s (world_after s events) was.frame
young_before s events e says y i g event was young =
    let w : WorldAt = world_after s events in
    subst (λ k. (w.time -ℤ k) ≤ℤ pos (frame_life s.cfg)) (ap (λ sending. sending.at) was.sending_is)
    (was_young w.time (after s events e says y).time g.sending.at (frame_life s.cfg) (step_time s says y w e event) young)

listed_as : (f g : FrameAt) (i : ℕ) (came : List Came) → g.link ≡ f.link → g.by ≡ f.by → In (came_at i (end_number f.link f.by)) came → In (came_at i (end_number g.link g.by)) came
listed_as f g i came link by h = subst (λ k. In (came_at i k) came) (λ j. end_number (sym link j) (sym by j)) h

-- an event that is not an arrival and hands no frame over
pub other_event : (s : Setting) (events : List Happened) (e : Event) (says : Result PtpMsg FrameFault) (y : ℤ) (came handed : List Came) → IsEventOf s.cfg e → ((i : ℕ) → IsArrivalAt e i → ⊥) → ((i : ℕ) → hands i e ≡ false) →
    IsIndex s events came handed → IsIndex s (happened e says y ∷ events) came handed
other_event s events e says y came handed event none hands_none h =
    let w : WorldAt = world_after s events in
    record {
      each = λ c listed. entry_stays s events e says y c (h.each c listed);
      all = λ i g is arrived young.
          let was : FrameWas w e i g = step_was s says y w e i g (inr arrived) is in
          elim (was.came arrived) [
            | inl comes ↦ absurd (none i comes)
            | inr there ↦ listed_as was.frame g i came was.link_is was.by_is (h.all i was.frame was.is there (young_before s events e says y i g event was young))
          ];
      told = λ i g is arrived young.
          let was : FrameWas w e i g = step_was s says y w e i g (inr arrived) is in
          elim (was.came arrived) [
            | inl comes ↦ absurd (none i comes)
            | inr there ↦ h.told i was.frame was.is there (young_before s events e says y i g event was young) ∙ sym (or_none (hands i e) (handed_in events i) (hands_none i))
          ];
      only = λ i listed. or_right (hands i e) (handed_in events i) (h.only i listed);
      done = λ i told. has_arrived s events e says y i (h.done i (sym (or_none (hands i e) (handed_in events i) (hands_none i)) ∙ told));
    }

-- a frame that is on its fibre arrives
pub arrival_event : (s : Setting) (events : List Happened) (j from : ℕ) (raw : Raw) (says : Result PtpMsg FrameFault) (y : ℤ) (f : FrameAt) (came handed : List Came) → IsEventOf s.cfg (Arrive j raw) → j ≤ (world_after s events).departed →
    (world_after s events).frame j ≡ Some f → is_some f.arrival ≡ false → from ≡ end_number f.link f.by →
    IsIndex s events came handed → IsIndex s (happened (Arrive j raw) says y ∷ events) (came ++ came_at j from ∷ []) handed
arrival_event s events j from raw says y f came handed event given there flies sent h =
    let w : WorldAt = world_after s events in
    let e : Event = Arrive j raw in
    let unseen : handed_in events j ≡ false = not_so (handed_in events j) (λ t. not_both (is_some f.arrival) ((h.done j t).arrived f there) flies) in
    let unlisted : has_number handed j ≡ false = not_so (has_number handed j) (λ t. not_both (handed_in events j) (h.only j t) unseen) in
    let same_sent : (g : FrameAt) → FrameWas w e j g → from ≡ end_number g.link g.by =
    λ g was.
    let same : was.frame ≡ f = same_Some was.frame f (sym was.is ∙ there) in
    sent ∙ sym (λ i. end_number ((was.link_is ∙ ap (λ (k : FrameAt). k.link) same) i) ((was.by_is ∙ ap (λ (k : FrameAt). k.by) same) i)) in
    let newest : IsEntry (after s events e says y) (came_at j from) =
    let more = step_departed s says y w e in
    record {
      here = record { given = omega (arith, more, given); arrived = λ g is. arrival_here s says y w j raw f g there is };
      sent = λ g is. same_sent g (step_was s says y w e j g (inl given) is);
    } in
    record {
      each = λ c listed. elim (in_either c came (came_at j from ∷ []) listed) [
        | inl old ↦ entry_stays s events e says y c (h.each c old)
        | inr new ↦ elim new [
          | inl same ↦ subst (IsEntry (after s events e says y)) (sym same) newest
          | inr never ↦ absurd never
        ]
      ];
      all = λ i g is arrived young.
          let was : FrameWas w e i g = step_was s says y w e i g (inr arrived) is in
          elim (was.came arrived) [
            | inl comes ↦
                let here : FrameWas w e j g = subst (λ k. FrameWas w e k g) comes was in
                in_right (came_at i (end_number g.link g.by)) came (came_at j from ∷ []) (inl (λ k. came_at (comes k) (sym (same_sent g here) k)))
            | inr before ↦
                in_left (came_at i (end_number g.link g.by)) came (came_at j from ∷ [])
                (listed_as was.frame g i came was.link_is was.by_is (h.all i was.frame was.is before (young_before s events e says y i g event was young)))
          ];
      told = λ i g is arrived young.
          let was : FrameWas w e i g = step_was s says y w e i g (inr arrived) is in
          elim (was.came arrived) [
            | inl comes ↦ subst (λ k. has_number handed k ≡ handed_in events k) (sym comes) (unlisted ∙ sym unseen)
            | inr before ↦ h.told i was.frame was.is before (young_before s events e says y i g event was young)
          ];
      only = λ i listed. h.only i listed;
      done = λ i told. has_arrived s events e says y i (h.done i told);
    }

turned_by : (a b : ℕ) (p q : Bool) → (a == b) ≡ p → (b == a) ≡ q → p ≡ q
turned_by a b true true x y = refl
turned_by a b false false x y = refl
turned_by a b true false x y = absurd (not_both (b == a) (eq-eqb b a (sym (eqb-true a b x))) y)
turned_by a b false true x y = absurd (not_both (a == b) (eq-eqb a b (sym (eqb-true b a y))) x)

turned : (a b : ℕ) → (a == b) ≡ (b == a)
turned a b = turned_by a b (a == b) (b == a) refl refl

swapped : (a b c : Bool) → b ≡ c → (a || (b || false)) ≡ (c || a)
swapped true true c e = ap (λ k. k || true) e
swapped true false c e = sym (or_right c true refl)
swapped false true c e = ap (λ k. k || false) e
swapped false false c e = ap (λ k. k || false) e

-- a frame that has arrived is handed over
pub delivery_event : (s : Setting) (events : List Happened) (j from : ℕ) (says : Result PtpMsg FrameFault) (y : ℤ) (came handed : List Came) → HasArrived (world_after s events) j →
    IsIndex s events came handed → IsIndex s (happened (Deliver j) says y ∷ events) came (handed ++ came_at j from ∷ [])
delivery_event s events j from says y came handed here h =
    let w : WorldAt = world_after s events in
    let e : Event = Deliver j in
    let one : (i : ℕ) → has_number (handed ++ came_at j from ∷ []) i ≡ (has_number handed i || ((j == i) || false)) = λ i. numbers_join handed (came_at j from ∷ []) i in
    record {
      each = λ c listed. entry_stays s events e says y c (h.each c listed);
      all = λ i g is arrived young.
          let was : FrameWas w e i g = step_was s says y w e i g (inr arrived) is in
          elim (was.came arrived) [
            | inl comes ↦ absurd comes
            | inr there ↦ listed_as was.frame g i came was.link_is was.by_is (h.all i was.frame was.is there (young_before s events e says y i g tt was young))
          ];
      told = λ i g is arrived young.
          let was : FrameWas w e i g = step_was s says y w e i g (inr arrived) is in
          elim (was.came arrived) [
            | inl comes ↦ absurd comes
            | inr there ↦ one i ∙ (ap (λ b. b || ((j == i) || false)) (h.told i was.frame was.is there (young_before s events e says y i g tt was young))
                ∙ swapped (handed_in events i) (j == i) (i == j) (turned j i))
          ];
      only = λ i listed. elim (or_either (has_number handed i) ((j == i) || false) (sym (one i) ∙ listed)) [
        | inl old ↦ or_right (i == j) (handed_in events i) (h.only i old)
        | inr new ↦ or_left (i == j) (handed_in events i) (elim (or_either (j == i) false new) [ inl same ↦ sym (turned j i) ∙ same | inr never ↦ absurd (let f : false ≡ true = never in cc) ])
      ];
      done = λ i told. elim (or_either (i == j) (handed_in events i) told) [
        | inl same ↦ subst (HasArrived (after s events e says y)) (sym (eqb-true i j same)) (has_arrived s events e says y j here)
        | inr old ↦ has_arrived s events e says y i (h.done i old)
      ];
    }

-- Some frames are forgotten, none of which is kept

abbrev NoneKept : Setting → WorldAt → List Came → Type 0
NoneKept s w first = AllByRecursion (λ c. octets_at s w c.number ≡ None) first

not_first : (s : Setting) (w : WorldAt) (first : List Came) (i from : ℕ) (f : FrameAt) → NoneKept s w first → w.frame i ≡ Some f → IsYoung s w f → In (came_at i from) first → ⊥
not_first s w [] i from f none is young h = h
not_first s w (c ∷ first) i from f none is young (inl same) =
    none-some _ (sym none.0 ∙ ap (λ (k : Came). octets_at s w k.number) (sym same) ∙ young_octets s w i f is young)
not_first s w (c ∷ first) i from f none is young (inr more) = not_first s w first i from f none.1 is young more

no_number : (s : Setting) (w : WorldAt) (first : List Came) (i : ℕ) (f : FrameAt) → NoneKept s w first → w.frame i ≡ Some f → IsYoung s w f → has_number first i ≡ true → ⊥
no_number s w [] i f none is young h = absurd (let e : false ≡ true = h in cc)
no_number s w (c ∷ first) i f none is young h =
    elim (or_either (c.number == i) (has_number first i) h) [
      | inl same ↦ none-some _ (sym none.0 ∙ ap (octets_at s w) (eqb-true c.number i same) ∙ young_octets s w i f is young)
      | inr more ↦ no_number s w first i f none.1 is young more
    ]

pub forgotten : (s : Setting) (events : List Happened) (came handed first last more others : List Came) → came ≡ first ++ more → handed ≡ last ++ others → NoneKept s (world_after s events) first → NoneKept s (world_after s events) last →
    IsIndex s events came handed → IsIndex s events more others
forgotten s events came handed first last more others are also none lacks h =
    let w : WorldAt = world_after s events in
    record {
      each = λ c listed. h.each c (subst (In c) (sym are) (in_right c first more listed));
      all = λ i f is arrived young. elim (in_either (came_at i (end_number f.link f.by)) first more (subst (In (came_at i (end_number f.link f.by))) are (h.all i f is arrived young))) [
        | inl gone ↦ absurd (not_first s w first i (end_number f.link f.by) f none is young gone)
        | inr there ↦ there
      ];
      told = λ i f is arrived young.
          sym (or_none (has_number last i) (has_number others i) (not_so (has_number last i) (no_number s w last i f lacks is young)))
          ∙ (sym (numbers_join last others i) ∙ (ap (λ (k : List Came). has_number k i) (sym also) ∙ h.told i f is arrived young));
      only = λ i listed. h.only i (ap (λ (k : List Came). has_number k i) also ∙ (numbers_join last others i ∙ or_right (has_number last i) (has_number others i) listed));
      done = λ i told. h.done i told;
    }

-- before the first event
pub none_arrived : (s : Setting) (came handed : List Came) → came ≡ [] → handed ≡ [] → IsIndex s [] came handed
none_arrived s came handed none lacks = record {
  each = λ c listed. absurd (subst (In c) none listed);
  all = λ i f is arrived young. absurd (none-some f is);
  told = λ i f is arrived young. absurd (none-some f is);
  only = λ i listed. absurd (let e : false ≡ true = sym (ap (λ (k : List Came). has_number k i) lacks) ∙ listed in cc);
  done = λ i told. absurd (let e : false ≡ true = told in cc);
}
