-- After every event of every run a link that has its carrier has it at both ends.
use Rattle.std.proofs.Common.{◌≡◌, ◌⊎◌, inl, inr, ◌∙◌, refl, ap, sym, subst, ℕ, ◌==◌, ◌&&◌, ℤ, pos, Bool, true, false, if◌then◌else◌, List, [], ◌∷◌, ◌++◌, flat_map, Option, None, Some, option_map, Result}
use Rattle.std.proofs.lemmas.Bool.Decides.{eqb_tells}
use Rattle.arrayvec.specs.ArrayVec.{ArrayVec as Items}
use Rattle.std.proofs.lemmas.Bool.{and_parts, cases_Bool}
use Rattle.std.proofs.lemmas.Option.{none-some, same_Some}
use Rattle.wrp_base.specs.declared.link.Module.{Module}
use Rattle.wrp_base.specs.declared.link.Role.{Role}
use Rattle.wrp_base.specs.declared.link.Role.TheVariants.{Master, Slave}
use Rattle.wrp_base.specs.declared.message.PtpMsg.{PtpMsg}
use Rattle.wrp_network.specs.declared.network.LinkCfg.{LinkCfg}
use Rattle.wrp_network.specs.Network.{End}
use Rattle.wrp_base.specs.Link.{other_of}
use Rattle.wrp_base.proofs.Booleans.{not_both}
use Rattle.wrp_base.proofs.Naturals.{eq_self}
use Rattle.wrp_frame.specs.declared.fault.FrameFault.{FrameFault}
use Rattle.wrp_handshake_laws.specs.Ends.{Port}
use Rattle.wrp_link.specs.declared.interface.LinkIn.TheVariants as link_in
use Rattle.wrp_node.specs.declared.interface.Input.TheVariants.{Tick as TickInput, Frame, Reset}
use Rattle.wrp_node.specs.LinkNews.{Nothing, Given as Handed}
use Rattle.wrp_node.specs.NodeAt.{numbers_of}
use Rattle.wrp_node.proofs.Sends.{not_equal}
use Rattle.wrp_course.specs.declared.event.Event.{Event}
use Rattle.wrp_course.specs.declared.event.Event.TheVariants.{Pass, Tick, Sample, Depart, Arrive, Deliver, Noise, Down, Up, Cut, Join}
use Rattle.wrp_course.specs.declared.event.Swap.{Swap}
use Rattle.wrp_course.specs.declared.place.Place.{Place}
use Rattle.wrp_course.specs.Given.{Given, at_ports, comes_from, delivered, given, given_by, given_plain, gives, gives_all, goes_from, if_carried, sent_oldest, world_step}
use Rattle.wrp_course.specs.LinkEnds.{in_place, port_at}
use Rattle.wrp_course.specs.Moved.{moved, waiting_at}
use Rattle.wrp_course.specs.Premises.{Accepts}
use Rattle.wrp_course.specs.Run.{AllAccepted, Happened, world_after}
use Rattle.wrp_course.specs.Runs.{IsNetwork}
use Rattle.wrp_course.specs.SameHandshake.{CarriersAreTheLinks}
use Rattle.wrp_course.specs.Setting.{Setting, end_at, end_of, is_of, link_of, place_of}
use Rattle.wrp_course.specs.WorldAt.{WorldAt, ends_are_up, has_carrier}
use Rattle.wrp_course.proofs.RunCarried.{IsLeft, gives_append, not_next}
use Rattle.wrp_course.proofs.RunCarriers.{comes_to, end_alike, lit_here}
use Rattle.wrp_course.proofs.RunChanges.{came_up, cut_carrier, cut_less, join_carrier, was_up}
use Rattle.wrp_course.proofs.RunDark.{goes_to}
use Rattle.wrp_course.proofs.RunEvents.{run_keeps}
use Rattle.wrp_course.proofs.RunGifts.{AllGiven, all_if, comes_all, delivered_all, sent_all}
use Rattle.wrp_course.proofs.RunGiven.{end_is}
use Rattle.wrp_course.proofs.RunKept.{Laws, LinkKeeps, come_at, go_at}
use Rattle.wrp_course.proofs.RunLit.{IsBright, all_given_lit, given_lit}
use Rattle.wrp_course.proofs.RunNetwork.{LinkEnd, are_apart, end_with, place_end}
use Rattle.wrp_course.proofs.RunPorts.{port_by_news, port_given, port_other}
use Rattle.wrp_course.proofs.RunSettled.{Placed, all_given_carrier, passed_carrier, sampled_carrier}
use Rattle.wrp_course.proofs.RunTimes.{comes_up_down, end_up, not_up}
use Rattle.wrp_course.proofs.RunCarried.{Uncarried}

abbrev IsLit : Setting → WorldAt → ℕ → Role → LinkCfg → Type 0
IsLit s w k r link = (port_at s w k r (end_of r link)).link.carrier ≡ true

abbrev pub LitKeeps : Setting → WorldAt → Type 0
LitKeeps s w = (k : ℕ) (link : LinkCfg) → link_of s k ≡ Some link → has_carrier s w k ≡ true → (r : Role) → IsLit s w k r link

-- Inputs with which no carrier goes

bright_keeps : Laws → (s : Setting) (y : ℤ) (gs : List Given) (w v : WorldAt) → AllGiven IsBright gs → ((k : ℕ) → has_carrier s v k ≡ has_carrier s w k) →
    ((k : ℕ) (r : Role) (link : LinkCfg) → IsLit s w k r link → IsLit s v k r link) → LitKeeps s w → LitKeeps s (gives_all s y v gs)
bright_keeps laws s y gs w v bright same moves h k link is c r =
    all_given_lit laws.links laws.signals s y gs v k r (end_of r link) (end_is s k r link is) bright
    (moves k r link (h k link is (sym (same k) ∙ sym (all_given_carrier s y gs v k) ∙ c) r))

-- Carriers that go from another link

gone_other : Laws → (s : Setting) (y : ℤ) (v : WorldAt) (end other : End) (k : ℕ) (r : Role) → end_at s k r ≡ Some other → (other ≡ end → ⊥) → port_at s (gives s y v (goes_to end)) k r other ≡ port_at s v k r other
gone_other laws s y v end other k r is out =
    elim (eqb_tells other.node end.node) [
      | inl x ↦
          port_given laws.links laws.signals s y v (goes_to end) k r other is x.1
          ∙ ap (λ b. port_by_news v.time (port_at s v k r other) (pos 0) (if b then Handed link_in.CarrierDown else Nothing))
          (not_equal other.port end.port (λ e. out (end_alike other end x.1 e)))
      | inr x ↦ port_other s y v (goes_to end) k r other is x.1
    ]

go_away : Laws → (s : Setting) → IsNetwork s → (y : ℤ) (v : WorldAt) (k l : ℕ) (link : LinkCfg) (r q : Role) (o : Option LinkCfg) → link_of s l ≡ o → link_of s k ≡ Some link → (k ≡ l → ⊥) →
    port_at s (gives_all s y v (go_at r o ++ go_at (other_of r) o)) k q (end_of q link) ≡ port_at s v k q (end_of q link)
go_away laws s net y v k l link r q None e is out = refl
go_away laws s net y v k l link r q (Some other) e is out =
    let differ : (t : Role) → end_of q link ≡ end_of t other → ⊥ =
    λ t same. out (are_apart s net k l q t (end_of t other) (end_is s k q link is ∙ ap Some same) (end_is s l t other e)).0 in
    gone_other laws s y (gives s y v (goes_to (end_of r other))) (end_of (other_of r) other) (end_of q link) k q (end_is s k q link is) (differ (other_of r))
    ∙ gone_other laws s y v (end_of r other) (end_of q link) k q (end_is s k q link is) (differ r)

goes_away : Laws → (s : Setting) → IsNetwork s → (y : ℤ) (v : WorldAt) (k l : ℕ) (link : LinkCfg) (r q : Role) → link_of s k ≡ Some link → (k ≡ l → ⊥) →
    port_at s (gives_all s y v (goes_from s l r)) k q (end_of q link) ≡ port_at s v k q (end_of q link)
goes_away laws s net y v k l link r q is out = go_away laws s net y v k l link r q (link_of s l) refl is out

goes_if : Laws → (s : Setting) → IsNetwork s → (y : ℤ) (v : WorldAt) (k l : ℕ) (link : LinkCfg) (r q : Role) (b : Bool) → link_of s k ≡ Some link → (k ≡ l → ⊥) →
    port_at s (gives_all s y v (if b then goes_from s l r else [])) k q (end_of q link) ≡ port_at s v k q (end_of q link)
goes_if laws s net y v k l link r q true is out = goes_away laws s net y v k l link r q is out
goes_if laws s net y v k l link r q false is out = refl

cut_lit : Laws → (s : Setting) → IsNetwork s → (says : Result PtpMsg FrameFault) (y : ℤ) (w : WorldAt) (l : ℕ) → LitKeeps s w → LitKeeps s (world_step s says y w (Cut l))
cut_lit laws s net says y w l h k link is c r =
    let v : WorldAt = moved s w (Cut l) in
    let gs : List Given = if has_carrier s w l then goes_from s l Master else [] in
    let on : ((if k == l then false else (w.fibre k).joined) && ends_are_up w.clock (link_of s k)) ≡ true = sym (cut_carrier s w l k) ∙ sym (all_given_carrier s y gs v k) ∙ c in
    let out : k ≡ l → ⊥ =
    λ e. not_both false (sym (ap (λ b. (if b then false else (w.fibre k).joined) && ends_are_up w.clock (link_of s k)) (ap (λ x. x == l) e ∙ eq_self l)) ∙ on) refl in
    ap (λ (q : Port). q.link.carrier) (goes_if laws s net y v k l link Master r (has_carrier s w l) is out)
    ∙ h k link is (cut_less (k == l) (w.fibre k).joined (ends_are_up w.clock (link_of s k)) on) r

-- a link that keeps its carrier is at no port of a node that goes down
not_at : (s : Setting) (w : WorldAt) (n k p : ℕ) (place : Place) → place_of s n p ≡ Some place → has_carrier s (moved s w (Down n)) k ≡ true → k ≡ place.link → ⊥
not_at s w n k p place at c e =
    let v : WorldAt = moved s w (Down n) in
    let it : LinkEnd s place.link place.role (end_with n p) = place_end s n p place at in
    let here : is_of n (option_map (end_of place.role) (link_of s k)) ≡ true =
    ap (λ o. is_of n (option_map (end_of place.role) o)) (ap (link_of s) e ∙ it.there) ∙ ap (λ (x : End). x.node == n) it.end_is ∙ eq_self n in
    not_both (v.clock n).up (end_up v place.role (link_of s k) n (and_parts (v.fibre k).joined (ends_are_up v.clock (link_of s k)) c).1 here)
    (ap (λ b. (if b then record (w.clock n) { up = false } else w.clock n).up) (eq_self n))

carried_away : Laws → (s : Setting) → IsNetwork s → (y : ℤ) (w x : WorldAt) (n k p : ℕ) (link : LinkCfg) (q : Role) (o : Option Place) → place_of s n p ≡ o → link_of s k ≡ Some link →
    has_carrier s (moved s w (Down n)) k ≡ true → port_at s (gives_all s y x (if_carried s w (goes_from s) o)) k q (end_of q link) ≡ port_at s x k q (end_of q link)
carried_away laws s net y w x n k p link q None e is c = refl
carried_away laws s net y w x n k p link q (Some place) e is c =
    goes_if laws s net y x k place.link link place.role q (has_carrier s w place.link) is (not_at s w n k p place e c)

ports_away : Laws → (s : Setting) → IsNetwork s → (y : ℤ) (w : WorldAt) (n k : ℕ) (link : LinkCfg) (q : Role) (ps : List ℕ) (x : WorldAt) → link_of s k ≡ Some link →
    has_carrier s (moved s w (Down n)) k ≡ true → port_at s (gives_all s y x (flat_map (λ p. if_carried s w (goes_from s) (place_of s n p)) ps)) k q (end_of q link) ≡ port_at s x k q (end_of q link)
ports_away laws s net y w n k link q [] x is c = refl
ports_away laws s net y w n k link q (p ∷ ps) x is c =
    let here : List Given = if_carried s w (goes_from s) (place_of s n p) in
    let rest : List Given = flat_map (λ t. if_carried s w (goes_from s) (place_of s n t)) ps in
    ap (λ z. port_at s z k q (end_of q link)) (gives_append s y here rest x)
    ∙ ports_away laws s net y w n k link q ps (gives_all s y x here) is c
    ∙ carried_away laws s net y w x n k p link q (place_of s n p) refl is c

down_lit : Laws → (s : Setting) → IsNetwork s → (says : Result PtpMsg FrameFault) (y : ℤ) (w : WorldAt) (n : ℕ) → LitKeeps s w → LitKeeps s (world_step s says y w (Down n))
down_lit laws s net says y w n h k link is c r =
    let v : WorldAt = moved s w (Down n) in
    let on : has_carrier s v k ≡ true = sym (all_given_carrier s y (at_ports s w (goes_from s) n) v k) ∙ c in
    ap (λ (q : Port). q.link.carrier) (ports_away laws s net y w n k link r (numbers_of (s.set n)) v is on) ∙ h k link is (was_up s w n k on) r

-- Carriers that come to the link

pair_lit : Laws → (s : Setting) (y : ℤ) (v : WorldAt) (k : ℕ) (link : LinkCfg) (r q : Role) (m n : Option Module) → link_of s k ≡ Some link → IsLit s (gives_all s y v (comes_to (end_of r link) m ∷ (comes_to (end_of (other_of r) link) n ∷ []))) k q link
pair_lit laws s y v k link Master Master m n is =
    given_lit laws.links laws.signals s y (gives s y v (comes_to (end_of Master link) m)) (comes_to (end_of Slave link) n) k Master (end_of Master link) (end_is s k Master link is) tt
    (ap (λ (t : Port). t.link.carrier) (lit_here laws.links laws.signals s y v (end_of Master link) m k Master (end_is s k Master link is)))
pair_lit laws s y v k link Master Slave m n is =
    ap (λ (t : Port). t.link.carrier) (lit_here laws.links laws.signals s y (gives s y v (comes_to (end_of Master link) m)) (end_of Slave link) n k Slave (end_is s k Slave link is))
pair_lit laws s y v k link Slave Master m n is =
    ap (λ (t : Port). t.link.carrier) (lit_here laws.links laws.signals s y (gives s y v (comes_to (end_of Slave link) m)) (end_of Master link) n k Master (end_is s k Master link is))
pair_lit laws s y v k link Slave Slave m n is =
    given_lit laws.links laws.signals s y (gives s y v (comes_to (end_of Slave link) m)) (comes_to (end_of Master link) n) k Slave (end_of Slave link) (end_is s k Slave link is) tt
    (ap (λ (t : Port). t.link.carrier) (lit_here laws.links laws.signals s y v (end_of Slave link) m k Slave (end_is s k Slave link is)))

come_lit : Laws → (s : Setting) (y : ℤ) (v : WorldAt) (k : ℕ) (link : LinkCfg) (r q : Role) (m n : Option Module) (o : Option LinkCfg) → o ≡ Some link → link_of s k ≡ Some link → IsLit s (gives_all s y v (come_at r m o ++ come_at (other_of r) n o)) k q link
come_lit laws s y v k link r q m n None e is = absurd (none-some link e)
come_lit laws s y v k link r q m n (Some other) e is =
    subst (λ (z : LinkCfg). IsLit s (gives_all s y v (comes_to (end_of r z) m ∷ (comes_to (end_of (other_of r) z) n ∷ []))) k q link) (sym (same_Some other link e))
    (pair_lit laws s y v k link r q m n is)

comes_lit : Laws → (s : Setting) (y : ℤ) (w v : WorldAt) (k : ℕ) (link : LinkCfg) (r q : Role) → link_of s k ≡ Some link → IsLit s (gives_all s y v (comes_from s w k r)) k q link
comes_lit laws s y w v k link r q is = come_lit laws s y v k link r q (in_place s w k r) (in_place s w k (other_of r)) (link_of s k) is is

comes_bright : (s : Setting) (w : WorldAt) (k : ℕ) (r : Role) → AllGiven IsBright (comes_from s w k r)
comes_bright s w k r = comes_all IsBright (λ p m. tt) s w k r

-- at each port of a node that comes up

abbrev LitBut : Setting → (w : WorldAt) → (n : ℕ) → List ℕ → WorldAt → ℕ → LinkCfg → Type 0
LitBut s w n ps x k link = (has_carrier s w k ≡ true) ⊎ (IsLeft s n k ps → ⊥) → (r : Role) → IsLit s x k r link

lit_port : Laws → (s : Setting) (y : ℤ) (w v x : WorldAt) (n p : ℕ) (ps : List ℕ) (k : ℕ) (link : LinkCfg) (place : Place) (b : Bool) → place_of s n p ≡ Some place → link_of s k ≡ Some link → has_carrier s v k ≡ true →
    has_carrier s v place.link ≡ b → LitBut s w n (p ∷ ps) x k link → LitBut s w n ps (gives_all s y x (if b then comes_from s v place.link place.role else [])) k link
lit_port laws s y w v x n p ps k link place true e is c d h t r =
    elim (eqb_tells k place.link) [
      | inl z ↦ subst (λ l. IsLit s (gives_all s y x (comes_from s v l place.role)) k r link) z.1 (comes_lit laws s y v x k link place.role r is)
      | inr z ↦
          all_given_lit laws.links laws.signals s y (comes_from s v place.link place.role) x k r (end_of r link) (end_is s k r link is) (comes_bright s v place.link place.role)
          (h (elim t [ inl a ↦ inl a | inr u ↦ inr (not_next s n k p ps (Some place) e (λ same. z.1 (sym same)) u) ]) r)
    ]
lit_port laws s y w v x n p ps k link place false e is c d h t r =
    h (elim t [ inl a ↦ inl a | inr u ↦ inr (not_next s n k p ps (Some place) e (λ same. not_both (has_carrier s v k) c (ap (has_carrier s v) (sym same) ∙ d)) u) ]) r

lit_next : Laws → (s : Setting) (y : ℤ) (w v x : WorldAt) (n p : ℕ) (ps : List ℕ) (k : ℕ) (link : LinkCfg) (o : Option Place) → place_of s n p ≡ o → link_of s k ≡ Some link → has_carrier s v k ≡ true →
    LitBut s w n (p ∷ ps) x k link → LitBut s w n ps (gives_all s y x (if_carried s v (comes_from s v) o)) k link
lit_next laws s y w v x n p ps k link None e is c h t r = h (elim t [ inl a ↦ inl a | inr u ↦ inr (not_next s n k p ps None e (λ z. z) u) ]) r
lit_next laws s y w v x n p ps k link (Some place) e is c h t r = lit_port laws s y w v x n p ps k link place (has_carrier s v place.link) e is c refl h t r

ports_lit : Laws → (s : Setting) (y : ℤ) (w v : WorldAt) (n : ℕ) (ps : List ℕ) (x : WorldAt) (k : ℕ) (link : LinkCfg) → link_of s k ≡ Some link → has_carrier s v k ≡ true → LitBut s w n ps x k link →
    (r : Role) → IsLit s (gives_all s y x (flat_map (λ p. if_carried s v (comes_from s v) (place_of s n p)) ps)) k r link
ports_lit laws s y w v n [] x k link is c h r = h (inr (λ t. t)) r
ports_lit laws s y w v n (p ∷ ps) x k link is c h r =
    let here : List Given = if_carried s v (comes_from s v) (place_of s n p) in
    let rest : List Given = flat_map (λ t. if_carried s v (comes_from s v) (place_of s n t)) ps in
    subst (λ z. IsLit s z k r link) (sym (gives_append s y here rest x))
    (ports_lit laws s y w v n ps (gives_all s y x here) k link is c (lit_next laws s y w v x n p ps k link (place_of s n p) refl is c h) r)

-- a node that comes up is at no end of a link that had its carrier
not_end : (s : Setting) (w : WorldAt) (says : Result PtpMsg FrameFault) (n : ℕ) (off : ℤ) (swaps : Items Swap) (k : ℕ) (r : Role) (link : LinkCfg) → Accepts s w says (Up n off swaps) → link_of s k ≡ Some link →
    has_carrier s w k ≡ true → (end_of r link).node ≡ n → ⊥
not_end s w says n off swaps k r link a is c e =
    let here : is_of n (option_map (end_of r) (link_of s k)) ≡ true = ap (λ o. is_of n (option_map (end_of r) o)) is ∙ ap (λ x. x == n) e ∙ eq_self n in
    not_up (w.clock n).up (end_up w r (link_of s k) n (and_parts (w.fibre k).joined (ends_are_up w.clock (link_of s k)) c).1 here) (comes_up_down s w says n off swaps a)

up_lit : Laws → (s : Setting) → IsNetwork s → (says : Result PtpMsg FrameFault) (y : ℤ) (w : WorldAt) (n : ℕ) (off : ℤ) (swaps : Items Swap) → Accepts s w says (Up n off swaps) → LitKeeps s w → LitKeeps s (world_step s says y w (Up n off swaps))
up_lit laws s net says y w n off swaps a h k link is c r =
    let v : WorldAt = moved s w (Up n off swaps) in
    let x : WorldAt = gives s y v (given_plain n Reset) in
    let on : has_carrier s v k ≡ true = sym (all_given_carrier s y (given_plain n Reset ∷ at_ports s v (comes_from s v) n) v k) ∙ c in
    ports_lit laws s y w v n (numbers_of (s.set n)) x k link is on
    (λ t q.
    let before : has_carrier s w k ≡ true = elim t [ inl b ↦ b | inr u ↦ came_up s net w n off swaps k on u ] in
    ap (λ (z : Port). z.link.carrier) (port_other s y v (given_plain n Reset) k q (end_of q link) (end_is s k q link is) (not_end s w says n off swaps k q link a is before))
    ∙ h k link is before q) r

join_lit : Laws → (s : Setting) → IsNetwork s → (says : Result PtpMsg FrameFault) (y : ℤ) (w : WorldAt) (l : ℕ) (ms sm : ℤ) → LitKeeps s w → LitKeeps s (world_step s says y w (Join l ms sm))
join_lit laws s net says y w l ms sm h k link is c r =
    let v : WorldAt = moved s w (Join l ms sm) in
    let gs : List Given = if has_carrier s v l then comes_from s v l Master else [] in
    let on : has_carrier s v k ≡ true = sym (all_given_carrier s y gs v k) ∙ c in
    elim (eqb_tells k l) [
      | inl x ↦
          let b : has_carrier s v l ≡ true = ap (has_carrier s v) (sym x.1) ∙ on in
          subst (λ t. IsLit s (gives_all s y v (if t then comes_from s v l Master else [])) k r link) (sym b)
          (subst (λ i. IsLit s (gives_all s y v (comes_from s v i Master)) k r link) x.1 (comes_lit laws s y v v k link Master r is))
      | inr x ↦
          all_given_lit laws.links laws.signals s y gs v k r (end_of r link) (end_is s k r link is) (all_if IsBright (has_carrier s v l) (comes_from s v l Master) (comes_bright s v l Master))
          (h k link is (sym (join_carrier s w l ms sm k x.1) ∙ on) r)
    ]

-- Every event

lit_step : Laws → (s : Setting) → IsNetwork s → (says : Result PtpMsg FrameFault) (y : ℤ) (w : WorldAt) (e : Event) → Accepts s w says e → LitKeeps s w → LitKeeps s (world_step s says y w e)
lit_step laws s net says y w (Pass dt drifts fibres) a h =
    bright_keeps laws s y [] w (moved s w (Pass dt drifts fibres)) tt (passed_carrier s w dt drifts fibres) (λ k r link i. i) h
lit_step laws s net says y w (Tick n) a h = bright_keeps laws s y (given_plain n TickInput ∷ []) w (moved s w (Tick n)) (tt, tt) (λ k. refl) (λ k r link i. i) h
lit_step laws s net says y w (Sample n base bits) a h =
    bright_keeps laws s y (given_by s w (moved s w (Sample n base bits)) says (Sample n base bits)) w (moved s w (Sample n base bits)) (tt, tt) (sampled_carrier s w n base bits) (λ k r link i. i) h
lit_step laws s net says y w (Depart n p stamp) a h =
    bright_keeps laws s y (sent_oldest n p stamp (w.clock n).samples (waiting_at w (place_of s n p))) w (moved s w (Depart n p stamp))
    (sent_all IsBright (λ q seq delay t. tt) n p stamp (w.clock n).samples (waiting_at w (place_of s n p))) (λ k. refl) (λ k r link i. i) h
lit_step laws s net says y w (Arrive i raw) a h = bright_keeps laws s y [] w (moved s w (Arrive i raw)) tt (λ k. refl) (λ k r link t. t) h
lit_step laws s net says y w (Deliver i) a h =
    bright_keeps laws s y (delivered s (w.frame i)) w (moved s w (Deliver i)) (delivered_all IsBright (λ p octets raw sample. tt) s (w.frame i)) (λ k. refl) (λ k r link t. t) h
lit_step laws s net says y w (Noise n p octets raw) a h =
    bright_keeps laws s y (given n (Frame p octets raw (w.clock n).samples) says ∷ []) w (moved s w (Noise n p octets raw)) (tt, tt) (λ k. refl) (λ k r link t. t) h
lit_step laws s net says y w (Down n) a h = down_lit laws s net says y w n h
lit_step laws s net says y w (Up n off swaps) a h = up_lit laws s net says y w n off swaps a h
lit_step laws s net says y w (Cut k) a h = cut_lit laws s net says y w k h
lit_step laws s net says y w (Join k ms sm) a h = join_lit laws s net says y w k ms sm h

lit_keeps : Laws → (s : Setting) → IsNetwork s → (events : List Happened) → AllAccepted s events → LitKeeps s (world_after s events)
lit_keeps laws s net [] accepted = λ k link is c r. absurd (not_both false c refl)
lit_keeps laws s net (h ∷ before) accepted =
    lit_step laws s net h.says h.answer (world_after s before) h.event accepted.0 (lit_keeps laws s net before accepted.1)

pub carriers_are_the_links : Laws → CarriersAreTheLinks
carriers_are_the_links laws s events k r link run is =
    let w : WorldAt = world_after s events in
    let it : LinkKeeps s (Placed s w) (Uncarried s w) w k link = (run_keeps laws s run.network events run.each run.accepted).links k link is in
    elim (cases_Bool (has_carrier s w k)) [
      | inl x ↦ lit_keeps laws s run.network events run.accepted k link is x r ∙ sym x
      | inr x ↦ it.dark x r ∙ sym x
    ]
