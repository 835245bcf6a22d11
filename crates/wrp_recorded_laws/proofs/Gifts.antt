-- Each input that an event gives may come to its node, and fits the types that hold it.
use Rattle.std.proofs.Common.{◌≡◌, refl, ℕ, ℤ, ◌+◌, ◌<◌, ◌^◌, not, Bool, true, false, if◌then◌else◌, List, [], ◌∷◌, ◌++◌, flat_map, Option, None, Some, Result, arith}
use Rattle.std.specs.List.{AllByRecursion}
use Rattle.std.specs.Option.{option_map_or}
use Rattle.wrp_base.specs.declared.link.Role.{Role}
use Rattle.wrp_base.specs.declared.link.Role.TheVariants.{Master}
use Rattle.wrp_base.specs.declared.message.Body.{Body}
use Rattle.wrp_base.specs.declared.message.Body.TheVariants.{Sync, DelayReq, FollowUp, DelayResp, Announce, Signal}
use Rattle.wrp_base.specs.declared.message.PtpMsg.{PtpMsg}
use Rattle.wrp_network.specs.Network.{End}
use Rattle.wrp_base.specs.Link.{other_of}
use Rattle.wrp_base.proofs.Naturals.{below_word}
use Rattle.wrp_config.specs.Accepted.{IsAccepted}
use Rattle.wrp_config.specs.Laws.{PortIsOfOneLink}
use Rattle.wrp_frame.specs.declared.fault.FrameFault.{FrameFault}
use Rattle.wrp_node.specs.declared.interface.Input.{Input}
use Rattle.wrp_node.specs.declared.interface.Input.TheVariants as inputs
use Rattle.wrp_node.specs.NodeAt.{numbers_of}
use Rattle.wrp_trace.specs.InputAt.{FitsTypes, IsInputAt}
use Rattle.wrp_trace.specs.LineSetting.{LineSetting, has_port, is_grandmaster, line_setting_in}
use Rattle.wrp_course.specs.Checks.{AllHold}
use Rattle.wrp_course.specs.declared.event.Event.{Event}
use Rattle.wrp_course.specs.declared.event.Event.TheVariants.{Pass, Tick, Sample, Depart, Arrive, Deliver, Noise, Down, Up, Cut, Join}
use Rattle.wrp_course.specs.declared.place.Place.{Place}
use Rattle.wrp_course.specs.EventAt.{IsTime}
use Rattle.wrp_course.specs.Given.{Given, at_ports, comes_at, comes_from, delivered, delivered_by, delivered_to, given_by, given_plain, goes_at, goes_from, if_carried, sent_oldest, told_sending}
use Rattle.wrp_course.specs.Moved.{moved, waiting_at}
use Rattle.wrp_course.specs.Premises.{Accepts, noise_checks, sample_checks}
use Rattle.wrp_course.specs.Setting.{Setting, above, end_at, entry_at, place_of}
use Rattle.wrp_course.specs.WorldAt.{Arrival, FrameAt, Sending, WorldAt, has_carrier}
use Rattle.wrp_course.proofs.RunNetwork.{end_with}
use Rattle.wrp_recorded_laws.specs.Ranges.{IsRanged}
use Rattle.wrp_recorded_laws.proofs.Frames.{frame_fits}
use Rattle.wrp_recorded_laws.proofs.Kept.{CameSo, FrameSo, Keeps, WaitShort, moved_keeps}
use Rattle.wrp_recorded_laws.proofs.Ports.{has_parent, here, listed, port_at_end, port_at_place}
use Rattle.wrp_recorded_laws.proofs.Sends.{HasShortId}

pub record Fits (site : LineSetting) (x : Input) : Type 0 where
  pub may : IsInputAt site x
  pub types : FitsTypes x

abbrev pub GiftsFit : Setting → List Given → Type 0
GiftsFit s gifts = AllByRecursion (λ (g : Given). Fits (line_setting_in s g.to) g.input) gifts

both : (s : Setting) (xs ys : List Given) → GiftsFit s xs → GiftsFit s ys → GiftsFit s (xs ++ ys)
both s [] ys h k = k
both s (x ∷ xs) ys h k = (h.0, both s xs ys h.1 k)

only : (s : Setting) (b : Bool) (xs : List Given) → GiftsFit s xs → GiftsFit s (if b then xs else [])
only s true xs h = h
only s false xs h = tt

-- Samples

sampled : (s : Setting) (w : WorldAt) (n base bits : ℕ) (o : Option ℕ) → above s n ≡ o → AllHold (sample_checks s w n base bits o) → is_grandmaster (line_setting_in s n) ≡ false
sampled s w n base bits None is holds = absurd (let never : not false ≡ false = holds.0 in cc)
sampled s w n base bits (Some k) is holds = has_parent s n k is

-- Departures

told_fits : (s : Setting) (n p seq : ℕ) (stamp : ℤ) (samples : ℕ) (body : Body) → has_port (line_setting_in s n) p ≡ true → p < 2 ^ 16 → IsTime stamp → samples < 2 ^ 32 → HasShortId body seq
    → GiftsFit s (told_sending n p seq stamp samples body)
told_fits s n p seq stamp samples (Sync origin) has small time few id = (record { may = (has, time); types = (small, id, few) }, tt)
told_fits s n p seq stamp samples (DelayReq origin) has small time few id = (record { may = (has, time); types = (small, id, few) }, tt)
told_fits s n p seq stamp samples (FollowUp precise) has small time few id = tt
told_fits s n p seq stamp samples (DelayResp receive requesting) has small time few id = tt
told_fits s n p seq stamp samples (Announce origin utc p1 quality p2 gm steps source suffix) has small time few id = tt
told_fits s n p seq stamp samples (Signal target message) has small time few id = tt

oldest_fits : (s : Setting) (n p : ℕ) (stamp : ℤ) (samples : ℕ) (waiting : List Sending) → has_port (line_setting_in s n) p ≡ true → p < 2 ^ 16 → IsTime stamp → samples < 2 ^ 32 → WaitShort waiting
    → GiftsFit s (sent_oldest n p stamp samples waiting)
oldest_fits s n p stamp samples [] has small time few short = tt
oldest_fits s n p stamp samples (oldest ∷ rest) has small time few short = told_fits s n p oldest.message.head.seq stamp samples oldest.message.body has small time few short.0

departs : PortIsOfOneLink → (s : Setting) → IsAccepted s.cfg s.db → (w : WorldAt) (n p : ℕ) (stamp : ℤ) (samples : ℕ) (o : Option Place) → place_of s n p ≡ o → IsTime stamp → samples < 2 ^ 32 → Keeps w
    → GiftsFit s (sent_oldest n p stamp samples (waiting_at w o))
departs ports s accepted w n p stamp samples None is time few keeps = tt
departs ports s accepted w n p stamp samples (Some place) is time few keeps =
    let at = port_at_place ports s accepted n p place is in
    oldest_fits s n p stamp samples (w.end_at place.link place.role).waiting (here s place.link place.role (end_with n p) at) at.small time few (keeps.waiting place.link place.role)

-- Frames

arrival_fits : PortIsOfOneLink → (s : Setting) → IsAccepted s.cfg s.db → (f : FrameAt) (a : Arrival) (o : Option End) (count : ℕ) → end_at s f.link (other_of f.by) ≡ o → count < 2 ^ 32 → CameSo count (Some a)
    → GiftsFit s (option_map_or (λ (end : End). delivered_to f a end.node end.port) o [])
arrival_fits ports s accepted f a None count is few came = tt
arrival_fits ports s accepted f a (Some end) count is few came =
    let at = port_at_end ports s accepted f.link (other_of f.by) end is in
    let frame = frame_fits f.sending.message in
    let most = came.1 in
    (record { may = (here s f.link (other_of f.by) end at, came.0); types = (at.small, (frame.each, frame.few), omega (arith, few, most)) }, tt)

delivery_fits : PortIsOfOneLink → (s : Setting) → IsAccepted s.cfg s.db → (f : FrameAt) (o : Option Arrival) (count : ℕ) → count < 2 ^ 32 → CameSo count o → GiftsFit s (delivered_by s f o)
delivery_fits ports s accepted f None count few came = tt
delivery_fits ports s accepted f (Some a) count few came = arrival_fits ports s accepted f a (end_at s f.link (other_of f.by)) count refl few came

delivers : PortIsOfOneLink → (s : Setting) → IsAccepted s.cfg s.db → (o : Option FrameAt) (count : ℕ) → count < 2 ^ 32 → FrameSo count o → GiftsFit s (delivered s o)
delivers ports s accepted None count few came = tt
delivers ports s accepted (Some f) count few came = delivery_fits ports s accepted f f.arrival count few came

noised : (s : Setting) (w : WorldAt) (n p : ℕ) (says : Result PtpMsg FrameFault) (o : Option Place) → AllHold (noise_checks s w n p says o) → o ≡ None → ⊥
noised s w n p says None holds is = let never : not false ≡ false = holds.0 in cc
noised s w n p says (Some place) holds is = cc

noise_at : PortIsOfOneLink → (s : Setting) → IsAccepted s.cfg s.db → (n p : ℕ) (o : Option Place) → place_of s n p ≡ o → (o ≡ None → ⊥) → (has_port (line_setting_in s n) p ≡ true) × (p < 2 ^ 16)
noise_at ports s accepted n p None is some = absurd (some refl)
noise_at ports s accepted n p (Some place) is some =
    let at = port_at_place ports s accepted n p place is in
    (here s place.link place.role (end_with n p) at, at.small)

-- Carriers

gone_fits : PortIsOfOneLink → (s : Setting) → IsAccepted s.cfg s.db → (k : ℕ) (r : Role) (o : Option End) → end_at s k r ≡ o
    → GiftsFit s (option_map_or (λ (end : End). given_plain end.node (inputs.Carrier end.port false None) ∷ []) o [])
gone_fits ports s accepted k r None is = tt
gone_fits ports s accepted k r (Some end) is =
    let at = port_at_end ports s accepted k r end is in
    (record { may = (here s k r end at, refl); types = at.small }, tt)

goes_fit : PortIsOfOneLink → (s : Setting) → IsAccepted s.cfg s.db → (k : ℕ) (r : Role) → GiftsFit s (goes_from s k r)
goes_fit ports s accepted k r =
    both s (goes_at s k r) (goes_at s k (other_of r)) (gone_fits ports s accepted k r (end_at s k r) refl) (gone_fits ports s accepted k (other_of r) (end_at s k (other_of r)) refl)

come_fits : PortIsOfOneLink → (s : Setting) → IsAccepted s.cfg s.db → (v : WorldAt) (k : ℕ) (r : Role) (o : Option End) → end_at s k r ≡ o
    → GiftsFit s (option_map_or (λ (end : End). given_plain end.node (inputs.Carrier end.port true (entry_at s k r (v.end_at k r).name)) ∷ []) o [])
come_fits ports s accepted v k r None is = tt
come_fits ports s accepted v k r (Some end) is =
    let at = port_at_end ports s accepted k r end is in
    (record { may = (here s k r end at, listed s k r end (v.end_at k r).name at); types = at.small }, tt)

comes_fit : PortIsOfOneLink → (s : Setting) → IsAccepted s.cfg s.db → (v : WorldAt) (k : ℕ) (r : Role) → GiftsFit s (comes_from s v k r)
comes_fit ports s accepted v k r =
    both s (comes_at s v k r) (comes_at s v k (other_of r)) (come_fits ports s accepted v k r (end_at s k r) refl) (come_fits ports s accepted v k (other_of r) (end_at s k (other_of r)) refl)

carried_fit : (s : Setting) (w : WorldAt) (gives : ℕ → Role → List Given) → ((k : ℕ) (r : Role) → GiftsFit s (gives k r)) → (o : Option Place) → GiftsFit s (if_carried s w gives o)
carried_fit s w gives h None = tt
carried_fit s w gives h (Some place) = only s (has_carrier s w place.link) (gives place.link place.role) (h place.link place.role)

each_fits : (s : Setting) (f : ℕ → List Given) → ((p : ℕ) → GiftsFit s (f p)) → (ps : List ℕ) → GiftsFit s (flat_map f ps)
each_fits s f h [] = tt
each_fits s f h (p ∷ ps) = both s (f p) (flat_map f ps) (h p) (each_fits s f h ps)

ports_fit : (s : Setting) (w : WorldAt) (gives : ℕ → Role → List Given) (n : ℕ) → ((k : ℕ) (r : Role) → GiftsFit s (gives k r)) → GiftsFit s (at_ports s w gives n)
ports_fit s w gives n h = each_fits s (λ p. if_carried s w gives (place_of s n p)) (λ p. carried_fit s w gives h (place_of s n p)) (numbers_of (s.set n))

-- Each event

pub gifts_fit : PortIsOfOneLink → (s : Setting) → IsAccepted s.cfg s.db → (w : WorldAt) (says : Result PtpMsg FrameFault) (e : Event) → IsRanged e → Accepts s w says e → Keeps w → w.count + 1 < 2 ^ 32
    → GiftsFit s (given_by s w (moved s w e) says e)
gifts_fit ports s accepted w says (Pass dt drifts fibres) is holds keeps few = tt
gifts_fit ports s accepted w says (Tick n) is holds keeps few = (record { may = tt; types = tt }, tt)
gifts_fit ports s accepted w says (Sample n base bits) is holds keeps few =
    let now = moved_keeps s w (Sample n base bits) is keeps in
    (record { may = (sampled s w n base bits (above s n) refl holds, is.0); types = (below_word _ (w.count + 1) (now.samples n) few, is.1) }, tt)
gifts_fit ports s accepted w says (Depart n p stamp) is holds keeps few =
    departs ports s accepted w n p stamp (w.clock n).samples (place_of s n p) refl is (below_word (w.clock n).samples w.count (keeps.samples n) (omega (arith, few))) keeps
gifts_fit ports s accepted w says (Arrive i raw) is holds keeps few = tt
gifts_fit ports s accepted w says (Deliver i) is holds keeps few = delivers ports s accepted (w.frame i) w.count (omega (arith, few)) (keeps.frames i)
gifts_fit ports s accepted w says (Noise n p octets raw) is holds keeps few =
    let at = noise_at ports s accepted n p (place_of s n p) refl (noised s w n p says (place_of s n p) holds) in
    (record { may = (at.0, is.1); types = (at.1, (is.0.each, is.0.few), below_word (w.clock n).samples w.count (keeps.samples n) (omega (arith, few))) }, tt)
gifts_fit ports s accepted w says (Down n) is holds keeps few = ports_fit s w (goes_from s) n (goes_fit ports s accepted)
gifts_fit ports s accepted w says (Up n off swaps) is holds keeps few =
    let v : WorldAt = moved s w (Up n off swaps) in
    (record { may = tt; types = tt }, ports_fit s v (comes_from s v) n (comes_fit ports s accepted v))
gifts_fit ports s accepted w says (Cut k) is holds keeps few = only s (has_carrier s w k) (goes_from s k Master) (goes_fit ports s accepted k Master)
gifts_fit ports s accepted w says (Join k ms sm) is holds keeps few =
    let v : WorldAt = moved s w (Join k ms sm) in
    only s (has_carrier s v k) (comes_from s v k Master) (comes_fit ports s accepted v k Master)
