-- What waits at a port is on a link that has its carrier: kept by every accepted event of a world.
use Rattle.std.proofs.Common.{◌≡◌, ◌∙◌, refl, ap, ap₂, sym, subst, ℕ, ◌==◌, ◌&&◌, ◌||◌, ℤ, Bool, true, false, if◌then◌else◌, List, [], ◌∷◌, ◌++◌, map, Option, None, Some, option_map, Result}
use Rattle.std.proofs.lemmas.Bool.{eqb-true, or_parts}
use Rattle.std.proofs.lemmas.List.{append-nil}
use Rattle.std.specs.Option.{option_map_or}
use Rattle.wrp_base.specs.declared.link.Role.{Role}
use Rattle.wrp_base.specs.declared.link.Role.TheVariants.{Master, Slave}
use Rattle.wrp_base.specs.declared.message.Body.{Body}
use Rattle.wrp_base.specs.declared.message.Body.TheVariants.{Sync, DelayReq, FollowUp, DelayResp, Announce, Signal}
use Rattle.wrp_base.specs.declared.message.PtpMsg.{PtpMsg}
use Rattle.wrp_network.specs.declared.network.LinkCfg.{LinkCfg}
use Rattle.wrp_network.specs.Network.{End}
use Rattle.wrp_base.specs.Link.{other_of}
use Rattle.wrp_frame.specs.declared.fault.FrameFault.{FrameFault}
use Rattle.wrp_node.specs.declared.interface.Input.TheVariants.{Frame, Reset, Sample as SampleInput, Tick as TickInput}
use Rattle.wrp_node.specs.NodeAt.{link_at}
use Rattle.wrp_node.specs.Telling.{Step}
use Rattle.wrp_course.specs.declared.clocks.ClockState.{ClockState}
use Rattle.wrp_course.specs.declared.event.Event.{Event}
use Rattle.wrp_course.specs.declared.event.Event.TheVariants.{Pass, Tick, Sample, Depart, Arrive, Deliver, Noise, Down, Up, Cut, Join}
use Rattle.wrp_course.specs.declared.fibres.FibreState.{FibreState}
use Rattle.wrp_course.proofs.RunFrames.{with_swap_waiting}
use Rattle.wrp_course.proofs.RunPorts.{one_of}
use Rattle.wrp_course.specs.Given.{Given, at_ports, comes_from, delivered, delivered_by, delivered_to, end_given, given, given_by, given_plain, gives, gives_all, goes_from, sending, sent_oldest, step_of, taken_of, told_sending, world_step}
use Rattle.wrp_course.specs.Moved.{behind_first, end_after, is_place, moved, port_number, swap_at, touches, waiting_at, with_swap}
use Rattle.wrp_course.specs.Setting.{Setting, end_at, end_of, node_setting_of, is_of, link_of, place_of}
use Rattle.wrp_course.specs.WorldAt.{Arrival, EndAt, FrameAt, Sending, WorldAt, ends_are_up, has_carrier}
use Rattle.wrp_course.proofs.RunChanges.{cut_carrier, and_less, less_dark, still_up}
use Rattle.wrp_course.proofs.RunGifts.{AllGiven, all_if, comes_all, goes_all, ports_all}
use Rattle.wrp_course.proofs.RunSettled.{all_given_carrier, passed_carrier, sampled_carrier}
use Rattle.wrp_sim.proofs.KeepsSends.{IsSilent, dark_sends, silent_sends}

-- Waiting frames

-- nothing waits at the ends of a link without its carrier
abbrev pub WaitsLit : Setting → WorldAt → Type 0
WaitsLit s w = (k : ℕ) (r : Role) → has_carrier s w k ≡ false → (w.end_at k r).waiting ≡ []

-- an end where the port sends nothing
told_where : (s : Setting) (v : WorldAt) (g : Given) (step : Step) (k : ℕ) (r : Role) (end : End) (b : Bool) → (b ≡ true → step.sends end.port ≡ []) →
    (if b then end_given s v g step k r end.port else v.end_at k r).waiting ≡ (v.end_at k r).waiting
told_where s v g step k r end true h =
    ap (λ ms. (v.end_at k r).waiting ++ map (sending v) ms) (h refl) ∙ append-nil (v.end_at k r).waiting
told_where s v g step k r end false h = refl

told_nothing : (s : Setting) (v : WorldAt) (g : Given) (step : Step) (k : ℕ) (r : Role) (o : Option End) → ((end : End) → o ≡ Some end → (end.node == g.to) ≡ true → step.sends end.port ≡ []) →
    (if is_of g.to o then option_map_or (λ end. end_given s v g step k r end.port) o (v.end_at k r) else v.end_at k r).waiting ≡ (v.end_at k r).waiting
told_nothing s v g step k r None h = refl
told_nothing s v g step k r (Some end) h = told_where s v g step k r end (end.node == g.to) (h end refl)

-- an input at which the port at an end sends nothing
pub given_waiting : (s : Setting) (y : ℤ) (v : WorldAt) (g : Given) (k : ℕ) (r : Role) → ((end : End) → end_at s k r ≡ Some end → (end.node == g.to) ≡ true → (step_of s y v g).sends end.port ≡ []) →
    ((gives s y v g).end_at k r).waiting ≡ (v.end_at k r).waiting
given_waiting s y v g k r h = told_nothing s v g (step_of s y v g) k r (end_at s k r) h

-- The ports of a link without its carrier have none

abbrev pub PortsDark : Setting → WorldAt → Type 0
PortsDark s w =
    (k : ℕ) (r : Role) (end : End) → end_at s k r ≡ Some end → has_carrier s w k ≡ false →
    (link_at (s.set end.node) (w.node end.node) end.port).carrier ≡ false

-- one input, if the link has no carrier
one_waiting : (s : Setting) (y : ℤ) (v : WorldAt) (g : Given) (k : ℕ) (r : Role) → PortsDark s v → has_carrier s v k ≡ false → ((gives s y v g).end_at k r).waiting ≡ (v.end_at k r).waiting
one_waiting s y v g k r dark c =
    given_waiting s y v g k r
    (λ end is b. dark_sends (node_setting_of s g.to) (taken_of y g) (v.node g.to) end.port
    (subst (λ n. (link_at (s.set n) (v.node n) end.port).carrier ≡ false) (eqb-true end.node g.to b) (dark k r end is c)))

-- inputs at which no port sends
silent_waiting : (s : Setting) (y : ℤ) (gs : List Given) (v : WorldAt) (k : ℕ) (r : Role) → AllGiven IsSilent gs → ((gives_all s y v gs).end_at k r).waiting ≡ (v.end_at k r).waiting
silent_waiting s y [] v k r h = refl
silent_waiting s y (g ∷ gs) v k r h =
    silent_waiting s y gs (gives s y v g) k r h.1
    ∙ given_waiting s y v g k r (λ end is b. silent_sends (node_setting_of s g.to) (taken_of y g) (v.node g.to) end.port h.0)

-- Events that give at most one input

few_told : (Q : List Given → Type 0) → Q [] → ((g : Given) → Q (g ∷ [])) → (n p seq : ℕ) (stamp : ℤ) (samples : ℕ) (body : Body) → Q (told_sending n p seq stamp samples body)
few_told Q none one n p seq stamp samples (Sync origin) = one _
few_told Q none one n p seq stamp samples (DelayReq origin) = one _
few_told Q none one n p seq stamp samples (FollowUp precise) = none
few_told Q none one n p seq stamp samples (DelayResp receive requesting) = none
few_told Q none one n p seq stamp samples (Announce origin utc p1 quality p2 gm steps source suffix) = none
few_told Q none one n p seq stamp samples (Signal target message) = none

few_sent : (Q : List Given → Type 0) → Q [] → ((g : Given) → Q (g ∷ [])) → (n p : ℕ) (stamp : ℤ) (samples : ℕ) (queue : List Sending) → Q (sent_oldest n p stamp samples queue)
few_sent Q none one n p stamp samples [] = none
few_sent Q none one n p stamp samples (oldest ∷ rest) = few_told Q none one n p oldest.message.head.seq stamp samples oldest.message.body

few_handed : (Q : List Given → Type 0) → Q [] → ((g : Given) → Q (g ∷ [])) → (f : FrameAt) (arrival : Arrival) (o : Option End) → Q (option_map_or (λ end. delivered_to f arrival end.node end.port) o [])
few_handed Q none one f arrival None = none
few_handed Q none one f arrival (Some end) = one _

few_by : (Q : List Given → Type 0) → Q [] → ((g : Given) → Q (g ∷ [])) → (s : Setting) (f : FrameAt) (o : Option Arrival) → Q (delivered_by s f o)
few_by Q none one s f None = none
few_by Q none one s f (Some arrival) = few_handed Q none one f arrival (end_at s f.link (other_of f.by))

few_delivered : (Q : List Given → Type 0) → Q [] → ((g : Given) → Q (g ∷ [])) → (s : Setting) (o : Option FrameAt) → Q (delivered s o)
few_delivered Q none one s None = none
few_delivered Q none one s (Some f) = few_by Q none one s f f.arrival

-- What an event changes by itself

emptied : (b : Bool) (e f : EndAt) → e.waiting ≡ [] → (b ≡ false → f.waiting ≡ []) → (one_of b e f).waiting ≡ []
emptied true e f h k = h
emptied false e f h k = k refl

behind_none : (queue : List Sending) → queue ≡ [] → behind_first queue ≡ []
behind_none queue e = ap behind_first e

clock_where : (b : Bool) (c d : ClockState) → b ≡ false → (if b then c else d) ≡ d
clock_where b c d e = ap (λ (x : Bool). if x then c else d) e

ends_untouched : (s : Setting) (w : WorldAt) (n : ℕ) (o : Option LinkCfg) → (is_of n (option_map (end_of Master) o) || is_of n (option_map (end_of Slave) o)) ≡ false →
    ends_are_up (moved s w (Down n)).clock o ≡ ends_are_up w.clock o
ends_untouched s w n None e = refl
ends_untouched s w n (Some link) e =
    let both : ((link.upper == n) ≡ false) × ((link.lower == n) ≡ false) = or_parts (link.upper == n) (link.lower == n) e in
    ap₂ (λ (a b : ClockState). a.up && b.up) (clock_where (link.upper == n) (record (w.clock link.upper) { up = false }) (w.clock link.upper) both.0)
    (clock_where (link.lower == n) (record (w.clock link.lower) { up = false }) (w.clock link.lower) both.1)

pub untouched_carrier : (s : Setting) (w : WorldAt) (n k : ℕ) → touches s n k ≡ false → has_carrier s (moved s w (Down n)) k ≡ has_carrier s w k
untouched_carrier s w n k e = ap (λ b. (w.fibre k).joined && b) (ends_untouched s w n (link_of s k) e)

pub uncut_carrier : (s : Setting) (w : WorldAt) (l k : ℕ) → (k == l) ≡ false → has_carrier s (moved s w (Cut l)) k ≡ has_carrier s w k
uncut_carrier s w l k e = cut_carrier s w l k ∙ ap (λ b. (if b then false else (w.fibre k).joined) && ends_are_up w.clock (link_of s k)) e

joined_more : (b : Bool) (f g : FibreState) → f.joined ≡ true → g.joined ≡ true → (if b then f else g).joined ≡ true
joined_more true f g e h = e
joined_more false f g e h = h

pub still_joined : (s : Setting) (w : WorldAt) (l : ℕ) (ms sm : ℤ) (k : ℕ) → has_carrier s w k ≡ true → has_carrier s (moved s w (Join l ms sm)) k ≡ true
still_joined s w l ms sm k c =
    and_less (w.fibre k).joined (ends_are_up w.clock (link_of s k)) ((moved s w (Join l ms sm)).fibre k).joined (ends_are_up w.clock (link_of s k))
    (λ j. joined_more (k == l) (record { joined = true; ms = ms; sm = sm }) (w.fibre k) refl j) (λ e. e) c

moved_waiting : (s : Setting) (w : WorldAt) (e : Event) → WaitsLit s w → (k : ℕ) (r : Role) → has_carrier s (moved s w e) k ≡ false → (end_after s w e k r).waiting ≡ []
moved_waiting s w (Depart n p stamp) h k r c =
    emptied (is_place (place_of s n p) k r) (record (w.end_at k r) { waiting = behind_first (w.end_at k r).waiting }) (w.end_at k r) (behind_none (w.end_at k r).waiting (h k r c)) (λ b. h k r c)
moved_waiting s w (Up n off swaps) h k r c =
    let before : (w.end_at k r).waiting ≡ [] = h k r (less_dark (has_carrier s w k) (has_carrier s (moved s w (Up n off swaps)) k) (still_up s w n off swaps k) c) in
    emptied (is_of n (end_at s k r)) (with_swap (swap_at (port_number s k r) swaps.items) (w.end_at k r)) (w.end_at k r)
    (with_swap_waiting (swap_at (port_number s k r) swaps.items) (w.end_at k r) ∙ before) (λ b. before)
moved_waiting s w (Down n) h k r c =
    emptied (touches s n k) (record (w.end_at k r) { waiting = [] }) (w.end_at k r) refl (λ b. h k r (sym (untouched_carrier s w n k b) ∙ c))
moved_waiting s w (Cut l) h k r c =
    emptied (k == l) (record (w.end_at k r) { waiting = [] }) (w.end_at k r) refl (λ b. h k r (sym (uncut_carrier s w l k b) ∙ c))
moved_waiting s w (Join l ms sm) h k r c = h k r (less_dark (has_carrier s w k) (has_carrier s (moved s w (Join l ms sm)) k) (still_joined s w l ms sm k) c)
moved_waiting s w (Pass dt drifts fibres) h k r c = h k r (sym (passed_carrier s w dt drifts fibres k) ∙ c)
moved_waiting s w (Sample n base bits) h k r c = h k r (sym (sampled_carrier s w n base bits k) ∙ c)
moved_waiting s w (Tick n) h k r c = h k r c
moved_waiting s w (Arrive i raw) h k r c = h k r c
moved_waiting s w (Deliver i) h k r c = h k r c
moved_waiting s w (Noise n p octets raw) h k r c = h k r c

-- Every event

-- inputs that leave what waits on links without a carrier
abbrev Leaves : Setting → ℤ → WorldAt → List Given → Type 0
Leaves s y v gs = (k : ℕ) (r : Role) → has_carrier s v k ≡ false → ((gives_all s y v gs).end_at k r).waiting ≡ (v.end_at k r).waiting

leaves_none : (s : Setting) (y : ℤ) (v : WorldAt) → Leaves s y v []
leaves_none s y v k r c = refl

leaves_one : (s : Setting) (y : ℤ) (v : WorldAt) → PortsDark s v → (g : Given) → Leaves s y v (g ∷ [])
leaves_one s y v dark g k r c = one_waiting s y v g k r dark c

leaves_silent : (s : Setting) (y : ℤ) (v : WorldAt) (gs : List Given) → AllGiven IsSilent gs → Leaves s y v gs
leaves_silent s y v gs h k r c = silent_waiting s y gs v k r h

goes_silent : (s : Setting) (k : ℕ) (r : Role) → AllGiven IsSilent (goes_from s k r)
goes_silent s k r = goes_all IsSilent (λ p. tt) s k r

comes_silent : (s : Setting) (v : WorldAt) (k : ℕ) (r : Role) → AllGiven IsSilent (comes_from s v k r)
comes_silent s v k r = comes_all IsSilent (λ p m. tt) s v k r

event_leaves : (s : Setting) (says : Result PtpMsg FrameFault) (y : ℤ) (w : WorldAt) (e : Event) → PortsDark s w → Leaves s y (moved s w e) (given_by s w (moved s w e) says e)
event_leaves s says y w (Tick n) dark = leaves_one s y (moved s w (Tick n)) dark (given_plain n TickInput)
event_leaves s says y w (Sample n base bits) dark =
    let v : WorldAt = moved s w (Sample n base bits) in
    leaves_one s y v (λ k r end is c. dark k r end is (sym (sampled_carrier s w n base bits k) ∙ c)) (given_plain n (SampleInput (v.clock n).samples base bits))
event_leaves s says y w (Depart n p stamp) dark =
    few_sent (Leaves s y (moved s w (Depart n p stamp))) (leaves_none s y (moved s w (Depart n p stamp))) (leaves_one s y (moved s w (Depart n p stamp)) dark) n p stamp (w.clock n).samples (waiting_at w (place_of s n p))
event_leaves s says y w (Deliver i) dark =
    few_delivered (Leaves s y (moved s w (Deliver i))) (leaves_none s y (moved s w (Deliver i))) (leaves_one s y (moved s w (Deliver i)) dark) s (w.frame i)
event_leaves s says y w (Noise n p octets raw) dark = leaves_one s y (moved s w (Noise n p octets raw)) dark (given n (Frame p octets raw (w.clock n).samples) says)
event_leaves s says y w (Down n) dark =
    leaves_silent s y (moved s w (Down n)) (at_ports s w (goes_from s) n) (ports_all IsSilent s w (goes_from s) n _ (goes_silent s))
event_leaves s says y w (Up n off swaps) dark =
    let v : WorldAt = moved s w (Up n off swaps) in
    leaves_silent s y v (given_plain n Reset ∷ at_ports s v (comes_from s v) n) (tt, ports_all IsSilent s v (comes_from s v) n _ (comes_silent s v))
event_leaves s says y w (Cut l) dark =
    leaves_silent s y (moved s w (Cut l)) (if has_carrier s w l then goes_from s l Master else []) (all_if IsSilent (has_carrier s w l) (goes_from s l Master) (goes_silent s l Master))
event_leaves s says y w (Join l ms sm) dark =
    let v : WorldAt = moved s w (Join l ms sm) in
    leaves_silent s y v (if has_carrier s v l then comes_from s v l Master else []) (all_if IsSilent (has_carrier s v l) (comes_from s v l Master) (comes_silent s v l Master))
event_leaves s says y w (Pass dt drifts fibres) dark = leaves_none s y (moved s w (Pass dt drifts fibres))
event_leaves s says y w (Arrive i raw) dark = leaves_none s y (moved s w (Arrive i raw))

pub step_waits : (s : Setting) (says : Result PtpMsg FrameFault) (y : ℤ) (w : WorldAt) (e : Event) → PortsDark s w → WaitsLit s w → WaitsLit s (world_step s says y w e)
step_waits s says y w e dark h k r c =
    let v : WorldAt = moved s w e in
    let gone : has_carrier s v k ≡ false = sym (all_given_carrier s y (given_by s w v says e) v k) ∙ c in
    event_leaves s says y w e dark k r gone ∙ moved_waiting s w e h k r gone
