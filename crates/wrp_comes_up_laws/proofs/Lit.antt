-- When the carriers of a link come, its two ports are as those of one link by itself are.
use Rattle.std.proofs.Common.{◌≡◌, ◌⊎◌, inl, inr, ◌∙◌, refl, ap, ap₂, sym, subst, ℕ, ◌==◌, ℤ, pos, Bool, true, false, if◌then◌else◌, List, [], ◌∷◌, ◌++◌, flat_map, Option, None, Some, Result}
use Rattle.std.specs.Option.{option_map_or}
use Rattle.std.proofs.lemmas.Bool.Decides.{eqb_tells}
use Rattle.arrayvec.specs.ArrayVec.{ArrayVec as Items}
use Rattle.wrp_base.specs.declared.link.LinkState.TheVariants.{Idle}
use Rattle.wrp_base.specs.declared.link.Module.{Module}
use Rattle.wrp_base.specs.declared.link.Role.{Role}
use Rattle.wrp_base.specs.declared.link.Role.TheVariants.{Master, Slave}
use Rattle.wrp_base.specs.declared.message.PtpMsg.{PtpMsg}
use Rattle.wrp_network.specs.declared.network.LinkCfg.{LinkCfg}
use Rattle.wrp_network.specs.Network.{End}
use Rattle.wrp_base.specs.Link.{other_of}
use Rattle.wrp_base.proofs.Booleans.{not_both}
use Rattle.wrp_base.proofs.Naturals.{eq_self}
use Rattle.wrp_frame.specs.declared.fault.FrameFault.{FrameFault}
use Rattle.wrp_handshake_laws.specs.Ends.{Port, BothPorts, Change, Starts, Lights, changed, ends_after, after_input, marked}
use Rattle.wrp_link.specs.declared.interface.LinkIn.TheVariants as link_in
use Rattle.wrp_link.specs.LinkAt.{LinkAt, new_link}
use Rattle.wrp_node.specs.declared.interface.Input.TheVariants.{Carrier, Reset}
use Rattle.wrp_node.specs.LinkNews.{Renewed}
use Rattle.wrp_node.specs.NodeAt.{numbers_of}
use Rattle.wrp_node.proofs.Sends.{not_equal}
use Rattle.wrp_course.specs.declared.event.Event.{Event}
use Rattle.wrp_course.specs.declared.event.Event.TheVariants.{Pass, Tick, Sample, Depart, Arrive, Deliver, Noise, Down, Up, Cut, Join}
use Rattle.wrp_course.specs.declared.event.Swap.{Swap}
use Rattle.wrp_course.specs.declared.place.Place.{Place}
use Rattle.wrp_course.specs.Given.{Given, at_ports, comes_from, given_by, given_plain, gives, gives_all, if_carried, world_step}
use Rattle.wrp_course.specs.LinkEnds.{ends_at, in_place, link_sent, port_at}
use Rattle.wrp_course.specs.Moved.{moved}
use Rattle.wrp_course.specs.Run.{Happened, world_after}
use Rattle.wrp_course.specs.Runs.{IsNetwork, IsRun}
use Rattle.wrp_course.specs.Setting.{Setting, end_of, entry_at, link_of, place_of}
use Rattle.wrp_course.specs.WorldAt.{WorldAt, ends_are_up, has_carrier}
use Rattle.wrp_course.proofs.RunCarried.{gives_append}
use Rattle.wrp_course.proofs.RunCarriers.{comes_to, lit_here}
use Rattle.wrp_course.proofs.RunChanges.{cut_carrier, cut_less, was_up}
use Rattle.wrp_course.proofs.RunFrames.{moved_marks, moved_sent}
use Rattle.wrp_course.proofs.RunGiven.{end_is}
use Rattle.wrp_course.proofs.RunLinks.{IsDark}
use Rattle.wrp_course.proofs.RunMoves.{moved_ticked}
use Rattle.wrp_course.proofs.RunNetwork.{two_nodes}
use Rattle.wrp_course.proofs.RunPorts.{link_dark, port_by_news, port_given, port_is, port_other}
use Rattle.wrp_course.proofs.RunSettled.{all_given_carrier, passed_carrier, sampled_carrier}
use Rattle.wrp_course.proofs.RunTimes.{all_given_module, all_given_time}
use Rattle.wrp_comes_up_laws.specs.Served.{Beginning, ends_of, world_of}
use Rattle.wrp_comes_up_laws.proofs.Delivered.{nodes_differ}
use Rattle.wrp_comes_up_laws.proofs.Elsewhere.{all_elsewhere, coming, moved_port}
use Rattle.wrp_comes_up_laws.proofs.Events.{as_came, run_before}
use Rattle.wrp_comes_up_laws.proofs.Grounds.{Laws}
use Rattle.wrp_comes_up_laws.proofs.Seen.{ends_are}

-- A link on its way to its carriers

-- a node starts, or carriers come
abbrev pub IsFree : Change → Type 0
IsFree (Starts role) = Unit {0}
IsFree (Lights of_master of_slave) = Unit {0}
IsFree _ = ⊥

abbrev pub AllFree : List Change → Type 0
AllFree [] = Unit {0}
AllFree (change ∷ older) = IsFree change × AllFree older

-- no port has its carrier, or the carriers came in the newest change, with these modules
abbrev IsDarkOrLit : BothPorts → Option Module → Option Module → List Change → Type 0
IsDarkOrLit ends m n changes =
    ((ends.master.link.carrier ≡ false) × (ends.slave.link.carrier ≡ false)) ⊎ ((older : List Change) × (changes ≡ Lights m n ∷ older))

record Coming (s : Setting) (x : WorldAt) (k : ℕ) (link : LinkCfg) (first : BothPorts) (m n : Option Module) : Type 0 where
  changes : List Change
  free : AllFree changes
  is : ends_at s x k link ≡ ends_after first changes
  which : IsDarkOrLit (ends_at s x k link) m n changes

-- Carriers that come to the link

abbrev comes_pair : Role → LinkCfg → Option Module → Option Module → List Given
comes_pair r link m n = comes_to (end_of r link) m ∷ (comes_to (end_of (other_of r) link) n ∷ [])

abbrev come_one : Role → Option Module → Option End → List Given
come_one r m o = option_map_or (λ (end : End). given_plain end.node (Carrier end.port true m) ∷ []) o []

pair_is : (s : Setting) (v : WorldAt) (k : ℕ) (r : Role) (link : LinkCfg) → link_of s k ≡ Some link →
    comes_from s v k r ≡ comes_pair r link (in_place s v k r) (in_place s v k (other_of r))
pair_is s v k r link is =
    ap₂ (λ a b. come_one r (in_place s v k r) a ++ come_one (other_of r) (in_place s v k (other_of r)) b) (end_is s k r link is)
    (end_is s k (other_of r) link is)

-- the port at the first end, and at the other
first_lit :
    Laws → (s : Setting) → IsNetwork s → (y : ℤ) (x : WorldAt) (k : ℕ) (r : Role) (link : LinkCfg) (m n : Option Module) → link_of s k ≡ Some link →
    port_at s (gives_all s y x (comes_pair r link m n)) k r (end_of r link) ≡ after_input x.time (port_at s x k r (end_of r link))
    (link_in.CarrierUp m) (pos 0)
first_lit laws s net y x k r link m n is =
    port_other s y (gives s y x (comes_to (end_of r link) m)) (comes_to (end_of (other_of r) link) n) k r (end_of r link) (end_is s k r link is)
    (λ e. nodes_differ laws s net k link r is (sym e))
    ∙ lit_here laws.links laws.signals s y x (end_of r link) m k r (end_is s k r link is)

other_lit :
    Laws → (s : Setting) → IsNetwork s → (y : ℤ) (x : WorldAt) (k : ℕ) (r : Role) (link : LinkCfg) (m n : Option Module) → link_of s k ≡ Some link →
    port_at s (gives_all s y x (comes_pair r link m n)) k (other_of r) (end_of (other_of r) link)
    ≡ after_input x.time (port_at s x k (other_of r) (end_of (other_of r) link)) (link_in.CarrierUp n) (pos 0)
other_lit laws s net y x k r link m n is =
    lit_here laws.links laws.signals s y (gives s y x (comes_to (end_of r link) m)) (end_of (other_of r) link) n k (other_of r)
    (end_is s k (other_of r) link is)
    ∙ ap (λ q. after_input x.time q (link_in.CarrierUp n) (pos 0))
    (port_other s y x (comes_to (end_of r link) m) k (other_of r) (end_of (other_of r) link) (end_is s k (other_of r) link is)
    (nodes_differ laws s net k link r is))

pair_lights :
    Laws → (s : Setting) → IsNetwork s → (y : ℤ) (v x : WorldAt) (k : ℕ) (r : Role) (link : LinkCfg) → link_of s k ≡ Some link →
    ends_at s (gives_all s y x (comes_pair r link (in_place s v k r) (in_place s v k (other_of r)))) k link
    ≡ changed (ends_at s x k link) (Lights (in_place s v k Master) (in_place s v k Slave))
pair_lights laws s net y v x k Master link is =
    ends_are (ends_at s (gives_all s y x (comes_pair Master link (in_place s v k Master) (in_place s v k Slave))) k link)
    (changed (ends_at s x k link) (Lights (in_place s v k Master) (in_place s v k Slave))) refl
    (first_lit laws s net y x k Master link (in_place s v k Master) (in_place s v k Slave) is)
    (other_lit laws s net y x k Master link (in_place s v k Master) (in_place s v k Slave) is)
pair_lights laws s net y v x k Slave link is =
    ends_are (ends_at s (gives_all s y x (comes_pair Slave link (in_place s v k Slave) (in_place s v k Master))) k link)
    (changed (ends_at s x k link) (Lights (in_place s v k Master) (in_place s v k Slave))) refl
    (other_lit laws s net y x k Slave link (in_place s v k Slave) (in_place s v k Master) is)
    (first_lit laws s net y x k Slave link (in_place s v k Slave) (in_place s v k Master) is)

comes_light :
    Laws → (s : Setting) → IsNetwork s → (y : ℤ) (v x : WorldAt) (k : ℕ) (r : Role) (link : LinkCfg) → link_of s k ≡ Some link →
    ends_at s (gives_all s y x (comes_from s v k r)) k link ≡ changed (ends_at s x k link) (Lights (in_place s v k Master) (in_place s v k Slave))
comes_light laws s net y v x k r link is = ap (λ gs. ends_at s (gives_all s y x gs) k link) (pair_is s v k r link is)
    ∙ pair_lights laws s net y v x k r link is

-- Carriers that come somewhere

abbrev ComingTo : Setting → WorldAt → WorldAt → ℕ → LinkCfg → BothPorts → Type 0
ComingTo s v x k link first = Coming s x k link first (in_place s v k Master) (in_place s v k Slave)

came_here :
    Laws → (s : Setting) → IsNetwork s → (y : ℤ) (v x : WorldAt) (k : ℕ) (r : Role) (link : LinkCfg) (first : BothPorts) → link_of s k ≡ Some link →
    ComingTo s v x k link first → ComingTo s v (gives_all s y x (comes_from s v k r)) k link first
came_here laws s net y v x k r link first is c =
    let lights : Change = Lights (in_place s v k Master) (in_place s v k Slave) in
    record {
      changes = lights ∷ c.changes;
      free = (tt, c.free);
      is = comes_light laws s net y v x k r link is ∙ ap (λ e. changed e lights) c.is;
      which = inr (c.changes, refl);
    }

ends_unchanged :
    Laws → (s : Setting) → IsNetwork s → (y : ℤ) (v x : WorldAt) (k l : ℕ) (r : Role) (link : LinkCfg) → link_of s k ≡ Some link → (l ≡ k → ⊥) →
    ends_at s (gives_all s y x (comes_from s v l r)) k link ≡ ends_at s x k link
ends_unchanged laws s net y v x k l r link is out =
    ends_are (ends_at s (gives_all s y x (comes_from s v l r)) k link) (ends_at s x k link) (all_given_time s y (comes_from s v l r) x)
    (all_elsewhere laws s y (comes_from s v l r) x k link Master is (coming s net v k l link r is out))
    (all_elsewhere laws s y (comes_from s v l r) x k link Slave is (coming s net v k l link r is out))

same_coming : (s : Setting) (x z : WorldAt) (k : ℕ) (link : LinkCfg) (first : BothPorts) (m n : Option Module) →
    ends_at s z k link ≡ ends_at s x k link → Coming s x k link first m n → Coming s z k link first m n
same_coming s x z k link first m n e c = record {
  changes = c.changes;
  free = c.free;
  is = e ∙ c.is;
  which = subst (λ ends. IsDarkOrLit ends m n c.changes) (sym e) c.which;
}

came_where :
    Laws → (s : Setting) → IsNetwork s → (y : ℤ) (v x : WorldAt) (k l : ℕ) (r : Role) (link : LinkCfg) (first : BothPorts) (b : Bool) →
    link_of s k ≡ Some link →
    ComingTo s v x k link first → ComingTo s v (gives_all s y x (if b then comes_from s v l r else [])) k link first
came_where laws s net y v x k l r link first false is c = c
came_where laws s net y v x k l r link first true is c =
    elim (eqb_tells l k) [
      | inl e ↦ subst (λ i. ComingTo s v (gives_all s y x (comes_from s v i r)) k link first) (sym e.1) (came_here laws s net y v x k r link first is c)
      | inr e ↦
          same_coming s x (gives_all s y x (comes_from s v l r)) k link first (in_place s v k Master) (in_place s v k Slave)
          (ends_unchanged laws s net y v x k l r link is e.1) c
    ]

came_at :
    Laws → (s : Setting) → IsNetwork s → (y : ℤ) (v x : WorldAt) (k : ℕ) (link : LinkCfg) (first : BothPorts) (o : Option Place) → link_of s k ≡ Some link →
    ComingTo s v x k link first → ComingTo s v (gives_all s y x (if_carried s v (comes_from s v) o)) k link first
came_at laws s net y v x k link first None is c = c
came_at laws s net y v x k link first (Some place) is c = came_where laws s net y v x k place.link place.role link first (has_carrier s v place.link) is c

came_ports :
    Laws → (s : Setting) → IsNetwork s → (y : ℤ) (v : WorldAt) (n k : ℕ) (link : LinkCfg) (first : BothPorts) (ps : List ℕ) (x : WorldAt) →
    link_of s k ≡ Some link →
    ComingTo s v x k link first → ComingTo s v (gives_all s y x (flat_map (λ p. if_carried s v (comes_from s v) (place_of s n p)) ps)) k link first
came_ports laws s net y v n k link first [] x is c = c
came_ports laws s net y v n k link first (p ∷ ps) x is c =
    let here : List Given = if_carried s v (comes_from s v) (place_of s n p) in
    let rest : List Given = flat_map (λ t. if_carried s v (comes_from s v) (place_of s n t)) ps in
    subst (λ z. ComingTo s v z k link first) (sym (gives_append s y here rest x))
    (came_ports laws s net y v n k link first ps (gives_all s y x here) is (came_at laws s net y v x k link first (place_of s n p) is c))

-- A node of the link that comes up

-- beginning again has no effect on a port without a carrier
begins_dark : (time : ℤ) (q : Port) (at : ℤ) → IsDark q.link → q.link.carrier ≡ false → port_by_news time q at Renewed ≡ q
begins_dark time q at dark e =
    let new : q.link ≡ new_link q.link.role q.link.set = dark e in
    port_is (port_by_news time q at Renewed) q (sym new) refl (ap (λ (l : LinkAt). marked time l.state Idle None q.marks) new) refl

reset_port :
    Laws → (s : Setting) (y : ℤ) (v : WorldAt) (n k : ℕ) (r : Role) (link : LinkCfg) → link_of s k ≡ Some link →
    (port_at s v k r (end_of r link)).link.carrier ≡ false →
    port_at s (gives s y v (given_plain n Reset)) k r (end_of r link) ≡ port_at s v k r (end_of r link)
reset_port laws s y v n k r link is dark =
    elim (eqb_tells (end_of r link).node n) [
      | inl x ↦
          port_given laws.links laws.signals s y v (given_plain n Reset) k r (end_of r link) (end_is s k r link is) x.1
          ∙ begins_dark v.time (port_at s v k r (end_of r link)) (pos 0) (link_dark s v (end_of r link).node (end_of r link).port) dark
      | inr x ↦ port_other s y v (given_plain n Reset) k r (end_of r link) (end_is s k r link is) x.1
    ]

abbrev with_tick : Port → ℤ → Port
with_tick q t = record q { ticked = t }

started : (s : Setting) (w : WorldAt) (n : ℕ) (off : ℤ) (swaps : Items Swap) (k : ℕ) (r : Role) (link : LinkCfg) → (end_of r link).node ≡ n →
    port_at s (moved s w (Up n off swaps)) k r (end_of r link) ≡ with_tick (port_at s w k r (end_of r link)) w.time
started s w n off swaps k r link here =
    let m : ℕ = (end_of r link).node in
    let e : Event = Up n off swaps in
    port_is (port_at s (moved s w e) k r (end_of r link)) (with_tick (port_at s w k r (end_of r link)) w.time)
    refl (moved_ticked s w e m ∙ ap (λ b. if b then w.time else (w.clock m).ticked) (ap (λ x. x == n) here ∙ eq_self n))
    (moved_marks s w e k r) (ap link_sent (moved_sent s w e k r))

not_started :
    (s : Setting) (w : WorldAt) (n : ℕ) (off : ℤ) (swaps : Items Swap) (k : ℕ) (r : Role) (link : LinkCfg) → ((end_of r link).node ≡ n → ⊥) →
    port_at s (moved s w (Up n off swaps)) k r (end_of r link) ≡ port_at s w k r (end_of r link)
not_started s w n off swaps k r link out =
    moved_port s w (Up n off swaps) k r link (ap (λ b. if b then w.time else (w.clock (end_of r link).node).ticked) (not_equal (end_of r link).node n out))

-- both ports have no carrier
abbrev BothDark : Setting → WorldAt → ℕ → LinkCfg → Type 0
BothDark s w k link = (r : Role) → (port_at s w k r (end_of r link)).link.carrier ≡ false

-- both ports as the node has started
starting :
    Laws → (s : Setting) → IsNetwork s → (y : ℤ) (w : WorldAt) (n : ℕ) (off : ℤ) (swaps : Items Swap) (k : ℕ) (link : LinkCfg) (m o : Option Module) →
    link_of s k ≡ Some link →
    BothDark s w k link → Coming s (gives s y (moved s w (Up n off swaps)) (given_plain n Reset)) k link (ends_at s w k link) m o
starting laws s net y w n off swaps k link m o is dark =
    let v : WorldAt = moved s w (Up n off swaps) in
    let x : WorldAt = gives s y v (given_plain n Reset) in
    let first : BothPorts = ends_at s w k link in
    let reset : (r : Role) → port_at s x k r (end_of r link) ≡ port_at s v k r (end_of r link) = λ r. reset_port laws s y v n k r link is (dark r) in
    let still : (r : Role) → (port_at s x k r (end_of r link)).link.carrier ≡ false = λ r. ap (λ (q : Port). q.link.carrier) (reset r) ∙ dark r in
    elim (eqb_tells link.upper n) [
      | inl u ↦
          record {
            changes = Starts Master ∷ [];
            free = (tt, tt);
            is =
                ends_are (ends_at s x k link) (changed first (Starts Master)) refl (reset Master ∙ started s w n off swaps k Master link u.1)
                (reset Slave ∙ not_started s w n off swaps k Slave link (λ e. two_nodes laws.deeper s net k link is (u.1 ∙ sym e)));
            which = inl (still Master, still Slave);
          }
      | inr u ↦ elim (eqb_tells link.lower n) [
        | inl d ↦
            record {
              changes = Starts Slave ∷ [];
              free = (tt, tt);
              is =
                  ends_are (ends_at s x k link) (changed first (Starts Slave)) refl (reset Master ∙ not_started s w n off swaps k Master link u.1)
                  (reset Slave ∙ started s w n off swaps k Slave link d.1);
              which = inl (still Master, still Slave);
            }
        | inr d ↦
            record {
              changes = [];
              free = tt;
              is =
                  ends_are (ends_at s x k link) first refl (reset Master ∙ not_started s w n off swaps k Master link u.1)
                  (reset Slave ∙ not_started s w n off swaps k Slave link d.1);
              which = inl (still Master, still Slave);
            }
      ]
    ]

joining :
    (s : Setting) (w : WorldAt) (j : ℕ) (ms sm : ℤ) (k : ℕ) (link : LinkCfg) (m o : Option Module) → BothDark s w k link →
    Coming s (moved s w (Join j ms sm)) k link (ends_at s w k link) m o
joining s w j ms sm k link m o dark = record {
  changes = [];
  free = tt;
  is =
      ends_are (ends_at s (moved s w (Join j ms sm)) k link) (ends_at s w k link) refl
      (moved_port s w (Join j ms sm) k Master link refl) (moved_port s w (Join j ms sm) k Slave link refl);
  which = inl (dark Master, dark Slave);
}

-- The event in which they come

-- the link as its carriers came
pub record Came (l : Beginning) (w : WorldAt) : Type 0 where
  pub older : List Change
  pub free : AllFree older
  pub is :
      ends_of l [] ≡ changed (ends_after (ends_at l.s w l.k l.link) older)
      (Lights (in_place l.s (world_of l []) l.k Master) (in_place l.s (world_of l []) l.k Slave))

place_stays : (s : Setting) (y : ℤ) (gs : List Given) (v : WorldAt) (k : ℕ) (r : Role) → in_place s v k r ≡ in_place s (gives_all s y v gs) k r
place_stays s y gs v k r = sym (ap (entry_at s k r) (all_given_module s y gs v k r).name)

came_by :
    (l : Beginning) (w v : WorldAt) (gs : List Given) → world_of l [] ≡ gives_all l.s l.event.answer v gs →
    ((ends_of l []).master.link.carrier ≡ true) → ComingTo l.s v (gives_all l.s l.event.answer v gs) l.k l.link (ends_at l.s w l.k l.link) → Came l w
came_by l w v gs e lit c =
    let z : WorldAt = gives_all l.s l.event.answer v gs in
    let same : ends_of l [] ≡ ends_at l.s z l.k l.link = ap (λ x. ends_at l.s x l.k l.link) e in
    elim c.which [
      | inl dark ↦ absurd (not_both (ends_at l.s z l.k l.link).master.link.carrier (ap (λ (q : BothPorts). q.master.link.carrier) (sym same) ∙ lit) dark.0)
      | inr it ↦
          record {
            older = it.0;
            free = (subst AllFree it.1 c.free).1;
            is =
                same ∙ c.is ∙ ap (ends_after (ends_at l.s w l.k l.link)) it.1
                ∙ ap₂ (λ a b. changed (ends_after (ends_at l.s w l.k l.link) it.0) (Lights a b))
                (place_stays l.s l.event.answer gs v l.k Master ∙ ap (λ x. in_place l.s x l.k Master) (sym e))
                (place_stays l.s l.event.answer gs v l.k Slave ∙ ap (λ x. in_place l.s x l.k Slave) (sym e));
          }
    ]

-- no carrier comes in any other event
abbrev pub LightsNothing : Event → Type 0
LightsNothing (Up n off swaps) = ⊥
LightsNothing (Join j ms sm) = ⊥
LightsNothing _ = Unit {0}

was_lit : (s : Setting) (w : WorldAt) (e : Event) (k : ℕ) → LightsNothing e → has_carrier s (moved s w e) k ≡ true → has_carrier s w k ≡ true
was_lit s w (Pass dt drifts fibres) k none c = sym (passed_carrier s w dt drifts fibres k) ∙ c
was_lit s w (Sample n base bits) k none c = sym (sampled_carrier s w n base bits k) ∙ c
was_lit s w (Down n) k none c = was_up s w n k c
was_lit s w (Cut j) k none c = cut_less (k == j) (w.fibre k).joined (ends_are_up w.clock (link_of s k)) (sym (cut_carrier s w j k) ∙ c)
was_lit s w (Up n off swaps) k none c = absurd none
was_lit s w (Join j ms sm) k none c = absurd none
was_lit s w (Tick n) k none c = c
was_lit s w (Depart n p stamp) k none c = c
was_lit s w (Arrive i raw) k none c = c
was_lit s w (Deliver i) k none c = c
was_lit s w (Noise n p octets raw) k none c = c

not_lit : (l : Beginning) (w : WorldAt) (e : Event) → LightsNothing e → has_carrier l.s (moved l.s w e) l.k ≡ true → has_carrier l.s w l.k ≡ false → Came l w
not_lit l w e none c dark = absurd (not_both (has_carrier l.s w l.k) (was_lit l.s w e l.k none c) dark)

-- the link that an event lights
abbrev lighting : Setting → ℕ → LinkCfg → Event → Result PtpMsg FrameFault → ℤ → List Happened → Beginning
lighting s k link e says y before = record { s = s; k = k; link = link; event = as_came e says y; before = before }

-- the link also had the carrier in the world that the event made by itself
carried : (s : Setting) (says : Result PtpMsg FrameFault) (y : ℤ) (w : WorldAt) (e : Event) (k : ℕ) →
    has_carrier s (world_step s says y w e) k ≡ true → has_carrier s (moved s w e) k ≡ true
carried s says y w e k c = sym (all_given_carrier s y (given_by s w (moved s w e) says e) (moved s w e) k) ∙ c

event_came :
    Laws → (s : Setting) (k : ℕ) (link : LinkCfg) (e : Event) (says : Result PtpMsg FrameFault) (y : ℤ) (before : List Happened) → IsNetwork s →
    link_of s k ≡ Some link →
    has_carrier s (world_after s before) k ≡ false → BothDark s (world_after s before) k link →
    has_carrier s (world_of (lighting s k link e says y before) []) k ≡ true → (ends_of (lighting s k link e says y before) []).master.link.carrier ≡ true →
    Came (lighting s k link e says y before) (world_after s before)
event_came laws s k link (Up n off swaps) says y before net is none dark now lit =
    let w : WorldAt = world_after s before in
    let v : WorldAt = moved s w (Up n off swaps) in
    let gs : List Given = given_plain n Reset ∷ at_ports s v (comes_from s v) n in
    came_by (lighting s k link (Up n off swaps) says y before) w v gs refl lit
    (came_ports laws s net y v n k link (ends_at s w k link) (numbers_of (s.set n)) (gives s y v (given_plain n Reset)) is
    (starting laws s net y w n off swaps k link (in_place s v k Master) (in_place s v k Slave) is dark))
event_came laws s k link (Join j ms sm) says y before net is none dark now lit =
    let w : WorldAt = world_after s before in
    let v : WorldAt = moved s w (Join j ms sm) in
    came_by (lighting s k link (Join j ms sm) says y before) w v (if has_carrier s v j then comes_from s v j Master else []) refl lit
    (came_where laws s net y v v k j Master link (ends_at s w k link) (has_carrier s v j) is
    (joining s w j ms sm k link (in_place s v k Master) (in_place s v k Slave) dark))
event_came laws s k link (Pass dt drifts fibres) says y before net is none dark now lit =
    not_lit (lighting s k link (Pass dt drifts fibres) says y before) (world_after s before) (Pass dt drifts fibres) tt
    (carried s says y (world_after s before) (Pass dt drifts fibres) k now) none
event_came laws s k link (Tick n) says y before net is none dark now lit =
    not_lit (lighting s k link (Tick n) says y before) (world_after s before) (Tick n) tt (carried s says y (world_after s before) (Tick n) k now) none
event_came laws s k link (Sample n base bits) says y before net is none dark now lit =
    not_lit (lighting s k link (Sample n base bits) says y before) (world_after s before) (Sample n base bits) tt
    (carried s says y (world_after s before) (Sample n base bits) k now) none
event_came laws s k link (Depart n p stamp) says y before net is none dark now lit =
    not_lit (lighting s k link (Depart n p stamp) says y before) (world_after s before) (Depart n p stamp) tt
    (carried s says y (world_after s before) (Depart n p stamp) k now) none
event_came laws s k link (Arrive i raw) says y before net is none dark now lit =
    not_lit (lighting s k link (Arrive i raw) says y before) (world_after s before) (Arrive i raw) tt
    (carried s says y (world_after s before) (Arrive i raw) k now) none
event_came laws s k link (Deliver i) says y before net is none dark now lit =
    not_lit (lighting s k link (Deliver i) says y before) (world_after s before) (Deliver i) tt
    (carried s says y (world_after s before) (Deliver i) k now) none
event_came laws s k link (Noise n p octets raw) says y before net is none dark now lit =
    not_lit (lighting s k link (Noise n p octets raw) says y before) (world_after s before) (Noise n p octets raw) tt
    (carried s says y (world_after s before) (Noise n p octets raw) k now) none
event_came laws s k link (Down n) says y before net is none dark now lit =
    not_lit (lighting s k link (Down n) says y before) (world_after s before) (Down n) tt (carried s says y (world_after s before) (Down n) k now) none
event_came laws s k link (Cut j) says y before net is none dark now lit =
    not_lit (lighting s k link (Cut j) says y before) (world_after s before) (Cut j) tt (carried s says y (world_after s before) (Cut j) k now) none

pub came :
    Laws → (l : Beginning) → IsRun l.s (l.event ∷ l.before) → link_of l.s l.k ≡ Some l.link → has_carrier l.s (world_after l.s l.before) l.k ≡ false →
    has_carrier l.s (world_of l []) l.k ≡ true → Came l (world_after l.s l.before)
came laws l run is none now =
    event_came laws l.s l.k l.link l.event.event l.event.says l.event.answer l.before run.network is none
    (λ r. laws.carriers l.s l.before l.k r l.link (run_before l.s l.event l.before run) is ∙ none) now
    (laws.carriers l.s (l.event ∷ l.before) l.k Master l.link run is ∙ now)
