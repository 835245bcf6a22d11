-- Events in which carriers go and come.
use Rattle.std.proofs.Common.{◌≡◌, ◌⊎◌, inl, inr, ◌∙◌, refl, ap, ap₂, sym, subst, ℕ, ◌==◌, ◌&&◌, ℤ, not, Bool, true, false, if◌then◌else◌, List, [], ◌∷◌, Option, None, Some, Result}
use Rattle.std.proofs.lemmas.Bool.Decides.{eqb_tells}
use Rattle.arrayvec.specs.ArrayVec.{ArrayVec as Items}
use Rattle.wrp_base.specs.declared.link.Module.{Module}
use Rattle.wrp_base.specs.declared.link.Role.{Role}
use Rattle.wrp_base.specs.declared.link.Role.TheVariants.{Master, Slave}
use Rattle.wrp_base.specs.declared.message.PtpMsg.{PtpMsg}
use Rattle.wrp_network.specs.declared.network.LinkCfg.{LinkCfg}
use Rattle.wrp_base.proofs.Booleans.{not_both}
use Rattle.wrp_frame.specs.declared.fault.FrameFault.{FrameFault}
use Rattle.wrp_node.specs.declared.interface.Input.TheVariants.{Reset}
use Rattle.wrp_node.specs.NodeAt.{numbers_of}
use Rattle.wrp_node.proofs.Sends.{not_equal}
use Rattle.wrp_course.specs.declared.clocks.ClockState.{ClockState}
use Rattle.wrp_course.specs.declared.event.Event.{Event}
use Rattle.wrp_course.specs.declared.event.Event.TheVariants.{Down, Up, Cut, Join}
use Rattle.wrp_course.specs.declared.event.Swap.{Swap}
use Rattle.wrp_course.specs.declared.fibres.FibreState.{FibreState}
use Rattle.wrp_course.specs.Checks.{Holds, needs}
use Rattle.wrp_course.specs.EventAt.{IsEventOf}
use Rattle.wrp_course.specs.Given.{Given, at_ports, comes_from, given_plain, gives, gives_all, goes_from, world_step}
use Rattle.wrp_course.specs.Moved.{moved}
use Rattle.wrp_course.specs.Premises.{Accepts, fibre_kept}
use Rattle.wrp_course.specs.Runs.{IsNetwork}
use Rattle.wrp_course.specs.Setting.{Setting, link_of}
use Rattle.wrp_course.specs.WorldAt.{WorldAt, ends_are_up, has_carrier}
use Rattle.wrp_course.proofs.RunCarried.{CameBut, GoneBut, IsLeft, Uncarried, ports_come, ports_go}
use Rattle.wrp_course.proofs.RunKept.{Laws, RunKeeps, comes_keep, fair_keeps, goes_keep, weaker}
use Rattle.wrp_course.proofs.RunListed.{link_is_left}
use Rattle.wrp_course.proofs.RunSettled.{Placed, WorldKeeps, kept_on, moved_keeps, settled}
use Rattle.wrp_course.proofs.RunTimes.{all_right}

-- Carriers that go

-- a link either is one of the node's, or has the same ends up
link_of_node : (s : Setting) → IsNetwork s → (c d : ℕ → ClockState) (n k : ℕ) (o : Option LinkCfg) → link_of s k ≡ o → ((m : ℕ) → (m ≡ n → ⊥) → (c m).up ≡ (d m).up) →
    IsLeft s n k (numbers_of (s.set n)) ⊎ (ends_are_up c o ≡ ends_are_up d o)
link_of_node s net c d n k None e h = inr refl
link_of_node s net c d n k (Some link) e h =
    elim (eqb_tells link.upper n) [
      | inl x ↦ inl (link_is_left s net n k Master link e x.1)
      | inr x ↦ elim (eqb_tells link.lower n) [
        | inl z ↦ inl (link_is_left s net n k Slave link e z.1)
        | inr z ↦ inr (ap₂ (λ a b. a && b) (h link.upper x.1) (h link.lower z.1))
      ]
    ]

other_clock : (c d : ClockState) (m n : ℕ) → (m ≡ n → ⊥) → (if m == n then c else d).up ≡ d.up
other_clock c d m n out = ap (λ b. (if b then c else d).up) (not_equal m n out)

-- both ends were up if they still are after a node went down
pub and_less : (a b c d : Bool) → (a ≡ true → c ≡ true) → (b ≡ true → d ≡ true) → (a && b) ≡ true → (c && d) ≡ true
and_less true b c d f g e = ap₂ (λ x y. x && y) (f refl) (g e)
and_less false b c d f g e = absurd (not_both false e refl)

pub ends_less : (c d : ℕ → ClockState) (o : Option LinkCfg) → ((n : ℕ) → (c n).up ≡ true → (d n).up ≡ true) → ends_are_up c o ≡ true → ends_are_up d o ≡ true
ends_less c d None h e = e
ends_less c d (Some link) h e = and_less (c link.upper).up (c link.lower).up (d link.upper).up (d link.lower).up (h link.upper) (h link.lower) e

down_less : (b : Bool) (c : ClockState) → (if b then record c { up = false } else c).up ≡ true → c.up ≡ true
down_less true c e = absurd (not_both false e refl)
down_less false c e = e

pub was_up : (s : Setting) (w : WorldAt) (n k : ℕ) → has_carrier s (moved s w (Down n)) k ≡ true → has_carrier s w k ≡ true
was_up s w n k c =
    and_less (w.fibre k).joined (ends_are_up (moved s w (Down n)).clock (link_of s k)) (w.fibre k).joined (ends_are_up w.clock (link_of s k)) (λ j. j)
    (ends_less (moved s w (Down n)).clock w.clock (link_of s k) (λ m. down_less (m == n) (w.clock m))) c

-- carriers that go down are at the node's ports
went_down : (s : Setting) → IsNetwork s → (w : WorldAt) (n k : ℕ) (b : Bool) → has_carrier s w k ≡ b → has_carrier s (moved s w (Down n)) k ≡ false → GoneBut s w n (numbers_of (s.set n)) [] k
went_down s net w n k false e d = inl e
went_down s net w n k true e d =
    elim (link_of_node s net (moved s w (Down n)).clock w.clock n k (link_of s k) refl (λ m out. other_clock (record (w.clock m) { up = false }) (w.clock m) m n out)) [
      | inl x ↦ inr (x, λ t. t)
      | inr x ↦ absurd (not_both (has_carrier s w k) e (sym (ap (λ b. (w.fibre k).joined && b) x) ∙ d))
    ]

-- none is gone yet
none_gone : (s : Setting) (w : WorldAt) (n : ℕ) (ps : List ℕ) (k : ℕ) → GoneBut s w n ps ps k → has_carrier s w k ≡ false
none_gone s w n ps k d = elim d [ inl x ↦ x | inr x ↦ absurd (x.1 x.0) ]

pub down_keeps : Laws → (s : Setting) → IsNetwork s → (says : Result PtpMsg FrameFault) (y : ℤ) (w : WorldAt) (n : ℕ) → IsEventOf s.cfg (Down n) → Accepts s w says (Down n) → WorldKeeps s w →
    WorldKeeps s (world_step s says y w (Down n))
down_keeps laws s net says y w n event a h =
    let v : WorldAt = moved s w (Down n) in
    let all : List ℕ = numbers_of (s.set n) in
    settled s y (at_ports s w (goes_from s) n) v
    (weaker s (Placed s w) (Placed s v) (GoneBut s w n all []) (Uncarried s v) (gives_all s y v (at_ports s w (goes_from s) n))
    (λ k placed f c. kept_on s w says (Down n) k placed a f (was_up s w n k c)) (λ k d. went_down s net w n k (has_carrier s w k) refl d)
    (ports_go laws s (Placed s w) net y w n all all v
    (weaker s (Placed s w) (Placed s w) (Uncarried s w) (GoneBut s w n all all) v (λ k placed f. f) (none_gone s w n all)
    (moved_keeps s (Placed s w) (Uncarried s w) w (Down n) event h))))

pub joined_where : (b : Bool) (f g : FibreState) → (if b then f else g).joined ≡ (if b then f.joined else g.joined)
joined_where true f g = refl
joined_where false f g = refl

pub cut_less : (b j up : Bool) → ((if b then false else j) && up) ≡ true → (j && up) ≡ true
cut_less true j up e = absurd (not_both false e refl)
cut_less false j up e = e

pub cut_carrier : (s : Setting) (w : WorldAt) (l k : ℕ) → has_carrier s (moved s w (Cut l)) k ≡ ((if k == l then false else (w.fibre k).joined) && ends_are_up w.clock (link_of s k))
cut_carrier s w l k = ap (λ b. b && ends_are_up w.clock (link_of s k)) (joined_where (k == l) (record (w.fibre k) { joined = false }) (w.fibre k))

cut_other : (s : Setting) (w : WorldAt) (l k : ℕ) → (k ≡ l → ⊥) → has_carrier s (moved s w (Cut l)) k ≡ has_carrier s w k
cut_other s w l k out = cut_carrier s w l k ∙ ap (λ b. (if b then false else (w.fibre k).joined) && ends_are_up w.clock (link_of s k)) (not_equal k l out)

went_cut : (s : Setting) (w : WorldAt) (l k : ℕ) → has_carrier s (moved s w (Cut l)) k ≡ false → (has_carrier s w k ≡ false) ⊎ (k ≡ l)
went_cut s w l k d = elim (eqb_tells k l) [ inl x ↦ inr x.1 | inr x ↦ inl (sym (cut_other s w l k x.1) ∙ d) ]

cut_gives : Laws → (s : Setting) → IsNetwork s → (y : ℤ) (w v : WorldAt) (l : ℕ) (b : Bool) → has_carrier s w l ≡ b → RunKeeps s (Placed s w) (Uncarried s w) v →
    RunKeeps s (Placed s w) (λ k. (has_carrier s w k ≡ false) ⊎ (k ≡ l)) (gives_all s y v (if b then goes_from s l Master else []))
cut_gives laws s net y w v l true e h = goes_keep laws s (Placed s w) (Uncarried s w) net y v l Master h
cut_gives laws s net y w v l false e h =
    weaker s (Placed s w) (Placed s w) (Uncarried s w) (λ k. (has_carrier s w k ≡ false) ⊎ (k ≡ l)) v (λ k placed f. f)
    (λ k d. elim d [ inl x ↦ x | inr x ↦ ap (has_carrier s w) x ∙ e ]) h

pub cut_keeps : Laws → (s : Setting) → IsNetwork s → (says : Result PtpMsg FrameFault) (y : ℤ) (w : WorldAt) (l : ℕ) → IsEventOf s.cfg (Cut l) → Accepts s w says (Cut l) → WorldKeeps s w →
    WorldKeeps s (world_step s says y w (Cut l))
cut_keeps laws s net says y w l event a h =
    let v : WorldAt = moved s w (Cut l) in
    let gs : List Given = if has_carrier s w l then goes_from s l Master else [] in
    settled s y gs v
    (weaker s (Placed s w) (Placed s v) (λ k. (has_carrier s w k ≡ false) ⊎ (k ≡ l)) (Uncarried s v) (gives_all s y v gs)
    (λ k placed f c. kept_on s w says (Cut l) k placed a f (cut_less (k == l) (w.fibre k).joined (ends_are_up w.clock (link_of s k)) (sym (cut_carrier s w l k) ∙ c)))
    (went_cut s w l)
    (cut_gives laws s net y w v l (has_carrier s w l) refl (moved_keeps s (Placed s w) (Uncarried s w) w (Cut l) event h)))

-- Carriers that come

pub up_more : (b : Bool) (c d : ClockState) → c.up ≡ true → d.up ≡ true → (if b then c else d).up ≡ true
up_more true c d e f = e
up_more false c d e f = f

pub still_up : (s : Setting) (w : WorldAt) (n : ℕ) (off : ℤ) (swaps : Items Swap) (k : ℕ) → has_carrier s w k ≡ true → has_carrier s (moved s w (Up n off swaps)) k ≡ true
still_up s w n off swaps k c =
    and_less (w.fibre k).joined (ends_are_up w.clock (link_of s k)) (w.fibre k).joined (ends_are_up (moved s w (Up n off swaps)).clock (link_of s k)) (λ j. j)
    (ends_less w.clock (moved s w (Up n off swaps)).clock (link_of s k) (λ m e. up_more (m == n) (record { up = true; off = off; ticked = w.time; samples = 0 }) (w.clock m) refl e)) c

-- without its carrier now, a link had none before
pub less_dark : (a b : Bool) → (a ≡ true → b ≡ true) → b ≡ false → a ≡ false
less_dark true b f e = absurd (not_both b (f refl) e)
less_dark false b f e = refl

-- a carrier that is new is at one of the node's ports
pub came_up : (s : Setting) → IsNetwork s → (w : WorldAt) (n : ℕ) (off : ℤ) (swaps : Items Swap) (k : ℕ) → has_carrier s (moved s w (Up n off swaps)) k ≡ true → (IsLeft s n k (numbers_of (s.set n)) → ⊥) → has_carrier s w k ≡ true
came_up s net w n off swaps k c out =
    elim (link_of_node s net (moved s w (Up n off swaps)).clock w.clock n k (link_of s k) refl
    (λ m o. other_clock (record { up = true; off = off; ticked = w.time; samples = 0 }) (w.clock m) m n o)) [
      | inl x ↦ absurd (out x)
      | inr x ↦ sym (ap (λ b. (w.fibre k).joined && b) x) ∙ c
    ]

pub up_keeps : Laws → (s : Setting) → IsNetwork s → (says : Result PtpMsg FrameFault) (y : ℤ) (w : WorldAt) (n : ℕ) (off : ℤ) (swaps : Items Swap) → IsEventOf s.cfg (Up n off swaps) → Accepts s w says (Up n off swaps) → WorldKeeps s w →
    WorldKeeps s (world_step s says y w (Up n off swaps))
up_keeps laws s net says y w n off swaps event a h =
    let e : Event = Up n off swaps in
    let v : WorldAt = moved s w e in
    let all : List ℕ = numbers_of (s.set n) in
    let begins : RunKeeps s (CameBut s w v n all) (Uncarried s v) v =
    weaker s (Placed s w) (CameBut s w v n all) (Uncarried s w) (Uncarried s v) v
    (λ k placed f c t. kept_on s w says e k placed a f (elim t [ inl x ↦ x | inr x ↦ came_up s net w n off swaps k c x ]))
    (λ k d. less_dark (has_carrier s w k) (has_carrier s v k) (still_up s w n off swaps k) d)
    (moved_keeps s (Placed s w) (Uncarried s w) w e event h) in
    settled s y (given_plain n Reset ∷ at_ports s v (comes_from s v) n) v
    (weaker s (CameBut s w v n []) (Placed s v) (Uncarried s v) (Uncarried s v) (gives_all s y (gives s y v (given_plain n Reset)) (at_ports s v (comes_from s v) n))
    (λ k placed f c. f c (inr (λ t. t))) (λ k d. d)
    (ports_come laws s net y w v n all (gives s y v (given_plain n Reset)) (fair_keeps laws s (CameBut s w v n all) (Uncarried s v) net y v (given_plain n Reset) tt begins)))

pub join_carrier : (s : Setting) (w : WorldAt) (l : ℕ) (ms sm : ℤ) (k : ℕ) → (k ≡ l → ⊥) → has_carrier s (moved s w (Join l ms sm)) k ≡ has_carrier s w k
join_carrier s w l ms sm k out =
    ap (λ b. (if b then record { joined = true; ms = ms; sm = sm } else w.fibre k).joined && ends_are_up w.clock (link_of s k)) (not_equal k l out)

pub not_joined : (s : Setting) (w : WorldAt) (says : Result PtpMsg FrameFault) (l : ℕ) (ms sm : ℤ) → Accepts s w says (Join l ms sm) → not (not (w.fibre l).joined) ≡ false
not_joined s w says l ms sm a = (all_right Holds (fibre_kept s (moved s w (Join l ms sm)) l) (needs (not (w.fibre l).joined) ∷ []) a).0

was_dark : (j up : Bool) → not (not j) ≡ false → (j && up) ≡ false
was_dark true up e = absurd (not_both true refl e)
was_dark false up e = refl

join_gives : Laws → (s : Setting) → IsNetwork s → (y : ℤ) (w v : WorldAt) (l : ℕ) (b : Bool) → has_carrier s v l ≡ b → ((k : ℕ) (placed : Role → Option Module) → (k ≡ l → ⊥) → Placed s w k placed → Placed s v k placed) →
    RunKeeps s (Placed s w) (Uncarried s v) v → RunKeeps s (Placed s v) (Uncarried s v) (gives_all s y v (if b then comes_from s v l Master else []))
join_gives laws s net y w v l true e f h =
    comes_keep laws s (Placed s w) (Placed s v) (Uncarried s v) net y v v l Master (λ d. not_both (has_carrier s v l) e d) (λ placed g c. g) f h
join_gives laws s net y w v l false e f h =
    weaker s (Placed s w) (Placed s v) (Uncarried s v) (Uncarried s v) v
    (λ k placed p. elim (eqb_tells k l) [
      | inl x ↦ λ c. absurd (not_both (has_carrier s v k) c (ap (has_carrier s v) x.1 ∙ e))
      | inr x ↦ f k placed x.1 p
    ]) (λ k d. d) h

pub join_keeps : Laws → (s : Setting) → IsNetwork s → (says : Result PtpMsg FrameFault) (y : ℤ) (w : WorldAt) (l : ℕ) (ms sm : ℤ) → IsEventOf s.cfg (Join l ms sm) → Accepts s w says (Join l ms sm) → WorldKeeps s w →
    WorldKeeps s (world_step s says y w (Join l ms sm))
join_keeps laws s net says y w l ms sm event a h =
    let e : Event = Join l ms sm in
    let v : WorldAt = moved s w e in
    settled s y (if has_carrier s v l then comes_from s v l Master else []) v
    (join_gives laws s net y w v l (has_carrier s v l) refl
    (λ k placed out f c. kept_on s w says e k placed a f (sym (join_carrier s w l ms sm k out) ∙ c))
    (weaker s (Placed s w) (Placed s w) (Uncarried s w) (Uncarried s v) v (λ k placed f. f)
    (λ k d. elim (eqb_tells k l) [
      | inl x ↦ subst (λ i. has_carrier s w i ≡ false) (sym x.1) (was_dark (w.fibre l).joined (ends_are_up w.clock (link_of s l)) (not_joined s w says l ms sm a))
      | inr x ↦ sym (join_carrier s w l ms sm k x.1) ∙ d
    ])
    (moved_keeps s (Placed s w) (Uncarried s w) w e event h)))
