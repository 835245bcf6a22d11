-- When a frame arrives and its datagram is taken, the loop's rule chooses this frame, if every frame that arrived before was handed over.
use Rattle.std.proofs.Common.{◌≡◌, ◌∙◌, inl, inr, refl, ap, sym, subst, ℕ, ◌==◌, ◌||◌, ◌≤◌, ℤ, pos, ◌-ℤ◌, ◌≤ℤ◌, not, Bool, true, false, if◌then◌else◌, List, [], ◌∷◌, Option, None, Some, Result, arith}
use Rattle.std.proofs.lemmas.Bool.{eqb-true}
use Rattle.std.proofs.lemmas.Int.{ints}
use Rattle.std.proofs.lemmas.Option.{none-some, same_Some}
use Rattle.std.specs.Int.Signed.{le_z}
use Rattle.std.specs.Option.{is_some}
use Rattle.wrp_base.specs.declared.message.PtpMsg.{PtpMsg}
use Rattle.wrp_base.specs.declared.time.Raw.{Raw}
use Rattle.wrp_base.proofs.Booleans.{not_both}
use Rattle.wrp_base.proofs.Naturals.{eq_self}
use Rattle.wrp_bounds.specs.Times.{frame_life}
use Rattle.wrp_frame.specs.declared.fault.FrameFault.{FrameFault}
use Rattle.wrp_frame.specs.SentOctets.{octets_of}
use Rattle.wrp_course.specs.declared.event.Event.{Event}
use Rattle.wrp_course.specs.declared.event.Event.TheVariants.{Pass, Tick, Sample, Depart, Arrive, Deliver, Noise, Down, Up, Cut, Join}
use Rattle.wrp_course.specs.Checks.{AllHold}
use Rattle.wrp_course.specs.Moved.{arrived, arriving}
use Rattle.wrp_course.specs.Premises.{Accepts, deliver_by, deliver_checks}
use Rattle.wrp_course.specs.Run.{Happened, world_after}
use Rattle.wrp_course.specs.Setting.{Setting}
use Rattle.wrp_course.specs.WorldAt.{Arrival, FrameAt, WorldAt, is_on_fibre}
use Rattle.wrp_bound_laws.proofs.Frames.InOrder.{Numbered, all_numbered}
use Rattle.wrp_loop.specs.declared.fate.Fate.{Fate}
use Rattle.wrp_loop.specs.declared.fate.Fate.TheVariants.{Handed, Forged, Noisy}
use Rattle.wrp_loop.specs.Datagrams.{IsFate, IsFrameOf, IsSuch, IsWayOf, Way, handed_in, hands}
use Rattle.wrp_loop.specs.Index.{HasArrived}
use Rattle.wrp_loop.specs.LoopRun.{IsPlain, happened}
use Rattle.wrp_loop.proofs.Frames.{FrameWas, IsArrivalAt, arrival_here, step_departed, step_was}

-- Each frame that arrived was handed over, and no other

pub record HandedSo (s : Setting) (events : List Happened) : Type 0 where
  pub all : (i : ℕ) (f : FrameAt) → (world_after s events).frame i ≡ Some f → is_some f.arrival ≡ true → handed_in events i ≡ true
  pub done : (i : ℕ) → handed_in events i ≡ true → HasArrived (world_after s events) i

pub none_handed : (s : Setting) → HandedSo s []
none_handed s = record {
  all = λ i f is arrived. absurd (none-some f is);
  done = λ i told. absurd (let e : false ≡ true = told in cc);
}

or_right : (a b : Bool) → b ≡ true → (a || b) ≡ true
or_right true b e = refl
or_right false b e = e

-- a frame that has arrived stays arrived
still_arrived : (s : Setting) (events : List Happened) (e : Event) (says : Result PtpMsg FrameFault) (y : ℤ) (i : ℕ) → HasArrived (world_after s events) i →
    HasArrived (world_after s (happened e says y ∷ events)) i
still_arrived s events e says y i h =
    let w : WorldAt = world_after s events in
    let more = step_departed s says y w e in
    let given = h.given in
    record {
      given = omega (arith, more, given);
      arrived = λ g is.
          let was : FrameWas w e i g = step_was s says y w e i g (inl h.given) is in
          was.keeps (h.arrived was.frame was.is);
    }

plain_none : (e : Event) (i : ℕ) → IsPlain e → (IsArrivalAt e i → ⊥) × (hands i e ≡ false)
plain_none (Arrive j raw) i plain = absurd plain
plain_none (Deliver j) i plain = absurd plain
plain_none (Pass dt drifts fibres) i plain = (λ h. h, refl)
plain_none (Tick n) i plain = (λ h. h, refl)
plain_none (Sample n base bits) i plain = (λ h. h, refl)
plain_none (Depart n p stamp) i plain = (λ h. h, refl)
plain_none (Noise n p octets raw) i plain = (λ h. h, refl)
plain_none (Down n) i plain = (λ h. h, refl)
plain_none (Up n off swaps) i plain = (λ h. h, refl)
plain_none (Cut k) i plain = (λ h. h, refl)
plain_none (Join k ms sm) i plain = (λ h. h, refl)

-- an event that is not an arrival and hands nothing over
pub plain_handed : (s : Setting) (events : List Happened) (e : Event) (says : Result PtpMsg FrameFault) (y : ℤ) → IsPlain e → HandedSo s events →
    HandedSo s (happened e says y ∷ events)
plain_handed s events e says y plain h =
    let w : WorldAt = world_after s events in
    record {
      all = λ i g is arrived.
          let was : FrameWas w e i g = step_was s says y w e i g (inr arrived) is in
          elim (was.came arrived) [
            | inl comes ↦ absurd ((plain_none e i plain).0 comes)
            | inr there ↦ or_right (hands i e) (handed_in events i) (h.all i was.frame was.is there)
          ];
      done = λ i told. still_arrived s events e says y i (h.done i (sym (ap (λ (b : Bool). b || handed_in events i) (plain_none e i plain).1) ∙ told));
    }

-- A frame that arrives

-- this frame is on its fibre
pub record Flying (s : Setting) (events : List Happened) (i : ℕ) (f : FrameAt) : Type 0 where
  pub is : (world_after s events).frame i ≡ Some f
  pub on : is_on_fibre ((world_after s events).frame i) ≡ true

off_fibre : (f : FrameAt) → is_on_fibre (Some f) ≡ true → is_some f.arrival ≡ false
off_fibre f on = go f.gone (is_some f.arrival) refl on
  where
    go : (g a : Bool) → is_some f.arrival ≡ a → (if g then false else (if a then false else true)) ≡ true → is_some f.arrival ≡ false
    go true a is h = absurd (let e : false ≡ true = h in cc)
    go false true is h = absurd (let e : false ≡ true = h in cc)
    go false false is h = is

not_so : (b : Bool) → (b ≡ true → ⊥) → b ≡ false
not_so true h = absurd (h refl)
not_so false h = refl

-- it was not handed over yet
unhanded : (s : Setting) (events : List Happened) (i : ℕ) (f : FrameAt) → Flying s events i f → HandedSo s events → handed_in events i ≡ false
unhanded s events i f flies h =
    not_so (handed_in events i)
    (λ told. not_both (is_some f.arrival) ((h.done i told).arrived f flies.is) (off_fibre f (ap is_on_fibre (sym flies.is) ∙ flies.on)))

given_number : (s : Setting) (events : List Happened) (i : ℕ) (f : FrameAt) → (world_after s events).frame i ≡ Some f → i ≤ (world_after s events).departed
given_number s events i f is =
    let w : WorldAt = world_after s events in
    (subst (λ (o : Option FrameAt). Numbered w.departed w.count i o) is (all_numbered s events i)).0

-- after its arrival the world still has it
pub record Landed (s : Setting) (events : List Happened) (i : ℕ) (f : FrameAt) (raw : Raw) (says : Result PtpMsg FrameFault) (y : ℤ) : Type 0 where
  pub frame : FrameAt
  pub is : (world_after s (happened (Arrive i raw) says y ∷ events)).frame i ≡ Some frame
  pub link_is : frame.link ≡ f.link
  pub by_is : frame.by ≡ f.by
  pub sending_is : frame.sending ≡ f.sending
  pub arrived : is_some frame.arrival ≡ true

pub landed : (s : Setting) (events : List Happened) (i : ℕ) (f : FrameAt) (raw : Raw) (says : Result PtpMsg FrameFault) (y : ℤ) → Flying s events i f →
    Landed s events i f raw says y
landed s events i f raw says y flies =
    let w : WorldAt = world_after s events in
    let g : FrameAt = arriving s w i raw f i f in
    let there : (world_after s (happened (Arrive i raw) says y ∷ events)).frame i ≡ Some g = λ k. arrived s w i raw (flies.is k) i (flies.is k) in
    let was : FrameWas w (Arrive i raw) i g = step_was s says y w (Arrive i raw) i g (inl (given_number s events i f flies.is)) there in
    let same : was.frame ≡ f = same_Some was.frame f (sym was.is ∙ flies.is) in
    record {
      frame = g;
      is = there;
      link_is = was.link_is ∙ ap (λ (k : FrameAt). k.link) same;
      by_is = was.by_is ∙ ap (λ (k : FrameAt). k.by) same;
      sending_is = was.sending_is ∙ ap (λ (k : FrameAt). k.sending) same;
      arrived = arrival_here s says y w i raw f g flies.is there;
    }

-- it is young, because it may be handed over
not_over : (a b : ℤ) → not (le_z a b) ≡ false → a ≤ℤ b
not_over a b h = grind (arith, ints, h)

young_by : (s : Setting) (v : WorldAt) (i : ℕ) (g : FrameAt) (o : Option Arrival) → AllHold (deliver_by s v i g o) →
    (v.time -ℤ g.sending.at) ≤ℤ pos (frame_life s.cfg)
young_by s v i g None holds = not_over (v.time -ℤ g.sending.at) (pos (frame_life s.cfg)) holds.0
young_by s v i g (Some arrival) holds = not_over (v.time -ℤ g.sending.at) (pos (frame_life s.cfg)) holds.0

pub is_young : (s : Setting) (v : WorldAt) (i : ℕ) (g : FrameAt) (says : Result PtpMsg FrameFault) → v.frame i ≡ Some g → Accepts s v says (Deliver i) →
    (v.time -ℤ g.sending.at) ≤ℤ pos (frame_life s.cfg)
is_young s v i g says is accepted = young_by s v i g g.arrival (subst (λ (o : Option FrameAt). AllHold (deliver_checks s v i o)) is accepted)

-- It is chosen

chosen_is : (s : Setting) (events : List Happened) (way : Way) (octets : List ℕ) (i : ℕ) (raw : Raw) (says : Result PtpMsg FrameFault) (y : ℤ)
    (found : Option ℕ) → HandedSo s events → handed_in events i ≡ false →
    IsSuch s (world_after s (happened (Arrive i raw) says y ∷ events)) way octets i →
    IsFrameOf s (happened (Arrive i raw) says y ∷ events) way octets found → found ≡ Some i
chosen_is s events way octets i raw says y None h unseen such never = absurd (never i such)
chosen_is s events way octets i raw says y (Some j) h unseen such choice =
    let was : FrameWas (world_after s events) (Arrive i raw) j choice.such.frame =
    step_was s says y (world_after s events) (Arrive i raw) j choice.such.frame (inr choice.such.arrived) choice.such.is in
    elim choice.which [
      | inl least ↦ elim (was.came choice.such.arrived) [
        | inl comes ↦ ap Some comes
        | inr before ↦ absurd (not_both (handed_in events j) (h.all j was.frame was.is before) least.0)
      ]
      | inr greatest ↦ absurd (not_both (handed_in events i) (greatest i such).0 unseen)
    ]

same_frame : (i j : ℕ) → Some i ≡ Some j → Handed i ≡ Handed j
same_frame i j same = ap Handed (same_Some i j same)

fate_by : (s : Setting) (events : List Happened) (way : Way) (octets : List ℕ) (i : ℕ) (fate : Fate) →
    ((found : Option ℕ) → IsFrameOf s events way octets found → found ≡ Some i) → IsFate s events way octets fate → fate ≡ Handed i
fate_by s events way octets i (Handed j) only is = same_frame j i (only (Some j) is)
fate_by s events way octets i Forged only is = absurd (none-some i (only None is.0))
fate_by s events way octets i Noisy only is = absurd (none-some i (only None is.0))

-- so the fate of the datagram is that this frame is handed over
pub fate_is : (s : Setting) (events : List Happened) (way : Way) (octets : List ℕ) (i : ℕ) (f : FrameAt) (raw : Raw) (says : Result PtpMsg FrameFault)
    (y : ℤ) (fate : Fate) → HandedSo s events → Flying s events i f → IsWayOf s f way octets →
    ((noted : Result PtpMsg FrameFault) → Accepts s (world_after s (happened (Arrive i raw) says y ∷ events)) noted (Deliver i)) →
    IsFate s (happened (Arrive i raw) says y ∷ events) way octets fate → fate ≡ Handed i
fate_is s events way octets i f raw says y fate h flies by accepted is =
    let v : WorldAt = world_after s (happened (Arrive i raw) says y ∷ events) in
    let it : Landed s events i f raw says y = landed s events i f raw says y flies in
    let such : IsSuch s v way octets i = record {
      frame = it.frame;
      is = it.is;
      link_is = it.link_is ∙ sym by.link_is;
      by_is = it.by_is ∙ sym by.by_is;
      arrived = it.arrived;
      young = is_young s v i it.frame says it.is (accepted says);
      equals = ap (λ sending. octets_of sending.message) it.sending_is ∙ sym by.octets_are;
    } in
    fate_by s (happened (Arrive i raw) says y ∷ events) way octets i fate
    (λ found. chosen_is s events way octets i raw says y found h (unhanded s events i f flies h) such) is

-- After both events

pub both_handed : (s : Setting) (events : List Happened) (i : ℕ) (f : FrameAt) (raw : Raw) (says noted : Result PtpMsg FrameFault) (y z : ℤ) →
    Flying s events i f → HandedSo s events →
    HandedSo s (happened (Deliver i) noted z ∷ (happened (Arrive i raw) says y ∷ events))
both_handed s events i f raw says noted y z flies h =
    let w : WorldAt = world_after s events in
    let before : List Happened = happened (Arrive i raw) says y ∷ events in
    let v : WorldAt = world_after s before in
    let more = step_departed s says y w (Arrive i raw) in
    let given = given_number s events i f flies.is in
    let here : HasArrived v i = record { given = omega (arith, more, given); arrived = λ g is. arrival_here s says y w i raw f g flies.is is } in
    record {
      all = λ j g is arrived.
          let was : FrameWas v (Deliver i) j g = step_was s noted z v (Deliver i) j g (inr arrived) is in
          elim (was.came arrived) [
            | inl comes ↦ absurd comes
            | inr there ↦
                let older : FrameWas w (Arrive i raw) j was.frame = step_was s says y w (Arrive i raw) j was.frame (inr there) was.is in
                elim (older.came there) [
                  | inl comes ↦ subst (λ (k : ℕ). ((k == i) || handed_in events k) ≡ true) (sym comes) (ap (λ (b : Bool). b || handed_in events i) (eq_self i))
                  | inr old ↦ or_right (j == i) (handed_in events j) (h.all j older.frame older.is old)
                ]
          ];
      done = λ j told. done_by before (j == i) j refl here told (λ old. still_arrived s events (Arrive i raw) says y j (h.done j old));
    }
  where
    done_by : (before : List Happened) (b : Bool) (j : ℕ) → (j == i) ≡ b → HasArrived (world_after s before) i → (b || handed_in events j) ≡ true →
        (handed_in events j ≡ true → HasArrived (world_after s before) j) →
        HasArrived (world_after s (happened (Deliver i) noted z ∷ before)) j
    done_by before true j test here told old =
        still_arrived s before (Deliver i) noted z j (subst (HasArrived (world_after s before)) (sym (eqb-true j i test)) here)
    done_by before false j test here told old = still_arrived s before (Deliver i) noted z j (old told)
