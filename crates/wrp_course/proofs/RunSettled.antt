-- What is kept of a world in a run, and events that make no carrier and take none.
use Rattle.std.proofs.Common.{◌≡◌, ◌∙◌, refl, ap, ap₂, sym, ℕ, ◌+◌, ◌==◌, ◌&&◌, ℤ, Bool, true, false, if◌then◌else◌, List, [], ◌∷◌, Option, None, Some, Result}
use Rattle.arrayvec.specs.ArrayVec.{ArrayVec as Items}
use Rattle.wrp_base.specs.declared.link.Module.{Module}
use Rattle.wrp_base.specs.declared.link.Role.{Role}
use Rattle.wrp_base.specs.declared.message.PtpMsg.{PtpMsg}
use Rattle.wrp_network.specs.declared.configuration.NetCfg.{NetCfg}
use Rattle.wrp_network.specs.declared.network.LinkCfg.{LinkCfg}
use Rattle.wrp_frame.specs.declared.fault.FrameFault.{FrameFault}
use Rattle.wrp_course.specs.declared.clocks.ClockState.{ClockState}
use Rattle.wrp_course.specs.declared.event.Event.{Event}
use Rattle.wrp_course.specs.declared.event.Event.TheVariants.{Pass, Sample}
use Rattle.wrp_course.specs.EventAt.{IsEventOf}
use Rattle.wrp_course.specs.Given.{Given, clock_told, gives, gives_all, step_of}
use Rattle.wrp_course.specs.LinkEnds.{in_place}
use Rattle.wrp_course.specs.Moved.{moved}
use Rattle.wrp_course.specs.Premises.{Accepts}
use Rattle.wrp_course.specs.Setting.{Setting, entry_at, link_of}
use Rattle.wrp_course.specs.WorldAt.{WorldAt, ends_are_up, has_carrier}
use Rattle.wrp_course.proofs.RunCarried.{Uncarried}
use Rattle.wrp_course.proofs.RunFrames.{moved_frames}
use Rattle.wrp_course.proofs.RunKept.{Known, LinkKeeps, RunKeeps, Where, weaker}
use Rattle.wrp_course.proofs.RunMoves.{TimeRises, moved_can}
use Rattle.wrp_course.proofs.RunTimes.{all_given_module, moved_module}

-- What is kept of a run: the modules known at a link are those in place while it has its carrier, and without it its ports
-- have none

abbrev pub Placed : Setting → WorldAt → ℕ → (Role → Option Module) → Type 0
Placed s w k placed = has_carrier s w k ≡ true → (q : Role) → placed q ≡ in_place s w k q

abbrev pub WorldKeeps : Setting → WorldAt → Type 0
WorldKeeps s w = RunKeeps s (Placed s w) (Uncarried s w) w

-- Carriers and modules under inputs

pub up_told : (b : Bool) (c d : ClockState) → c.up ≡ d.up → (if b then c else d).up ≡ d.up
up_told true c d e = e
up_told false c d e = refl

pub given_up : (s : Setting) (y : ℤ) (v : WorldAt) (g : Given) (n : ℕ) → ((gives s y v g).clock n).up ≡ (v.clock n).up
given_up s y v g n = up_told (n == g.to) (clock_told s v g (step_of s y v g).cycles (v.clock n)) (v.clock n) refl

ends_up : (c d : ℕ → ClockState) (o : Option LinkCfg) → ((n : ℕ) → (c n).up ≡ (d n).up) → ends_are_up c o ≡ ends_are_up d o
ends_up c d None h = refl
ends_up c d (Some link) h = ap₂ (λ a b. a && b) (h link.upper) (h link.lower)

given_carrier : (s : Setting) (y : ℤ) (v : WorldAt) (g : Given) (k : ℕ) → has_carrier s (gives s y v g) k ≡ has_carrier s v k
given_carrier s y v g k = ap (λ b. (v.fibre k).joined && b) (ends_up (gives s y v g).clock v.clock (link_of s k) (given_up s y v g))

pub all_given_carrier : (s : Setting) (y : ℤ) (gs : List Given) (v : WorldAt) (k : ℕ) → has_carrier s (gives_all s y v gs) k ≡ has_carrier s v k
all_given_carrier s y [] v k = refl
all_given_carrier s y (g ∷ gs) v k = all_given_carrier s y gs (gives s y v g) k ∙ given_carrier s y v g k

all_given_place : (s : Setting) (y : ℤ) (gs : List Given) (v : WorldAt) (k : ℕ) (r : Role) → in_place s (gives_all s y v gs) k r ≡ in_place s v k r
all_given_place s y gs v k r = ap (entry_at s k r) (all_given_module s y gs v k r).name

-- what is kept of the world that an event makes by itself is kept of the one that its inputs make
pub settled : (s : Setting) (y : ℤ) (gs : List Given) (v : WorldAt) → RunKeeps s (Placed s v) (Uncarried s v) (gives_all s y v gs) → WorldKeeps s (gives_all s y v gs)
settled s y gs v h =
    let w : WorldAt = gives_all s y v gs in
    weaker s (Placed s v) (Placed s w) (Uncarried s v) (Uncarried s w) w
    (λ k placed f c q. f (sym (all_given_carrier s y gs v k) ∙ c) q ∙ sym (all_given_place s y gs v k q))
    (λ k d. sym (all_given_carrier s y gs v k) ∙ d) h

-- An event by itself

time_rises : (cfg : NetCfg) (e : Event) → IsEventOf cfg e → TimeRises e
time_rises cfg (Pass dt drifts fibres) h = h.span.0
time_rises cfg _ h = tt

pub moved_keeps : (s : Setting) (R : Known) (D : Where) (w : WorldAt) (e : Event) → IsEventOf s.cfg e → RunKeeps s R D w → RunKeeps s R D (moved s w e)
moved_keeps s R D w e event h = record {
  links = λ k link is.
      let it : LinkKeeps s R D w k link = h.links k link is in
      record { placed = it.placed; known = it.known; can = moved_can s it.placed w e k link (time_rises s.cfg e event) it.can; dark = it.dark };
  frames = moved_frames s w e h.frames;
}

-- if there was a carrier, the modules are the same as before
same_place : (s : Setting) (w : WorldAt) (says : Result PtpMsg FrameFault) (e : Event) (k : ℕ) (q : Role) → Accepts s w says e → has_carrier s w k ≡ true → in_place s w k q ≡ in_place s (moved s w e) k q
same_place s w says e k q a c = ap (entry_at s k q) (sym (moved_module s w says e k q a c).name)

-- what is known of a link that had its carrier
pub kept_on : (s : Setting) (w : WorldAt) (says : Result PtpMsg FrameFault) (e : Event) (k : ℕ) (placed : Role → Option Module) → Accepts s w says e → Placed s w k placed → has_carrier s w k ≡ true →
    (q : Role) → placed q ≡ in_place s (moved s w e) k q
kept_on s w says e k placed a f c q = f c q ∙ same_place s w says e k q a c

-- an event that makes no carrier and takes none
pub still_keeps : (s : Setting) (w : WorldAt) (says : Result PtpMsg FrameFault) (e : Event) → IsEventOf s.cfg e → Accepts s w says e → ((k : ℕ) → has_carrier s (moved s w e) k ≡ has_carrier s w k) → WorldKeeps s w →
    RunKeeps s (Placed s (moved s w e)) (Uncarried s (moved s w e)) (moved s w e)
still_keeps s w says e event a same h =
    weaker s (Placed s w) (Placed s (moved s w e)) (Uncarried s w) (Uncarried s (moved s w e)) (moved s w e)
    (λ k placed f c. kept_on s w says e k placed a f (sym (same k) ∙ c))
    (λ k d. sym (same k) ∙ d)
    (moved_keeps s (Placed s w) (Uncarried s w) w e event h)

pub sampled_carrier : (s : Setting) (w : WorldAt) (n base bits k : ℕ) → has_carrier s (moved s w (Sample n base bits)) k ≡ has_carrier s w k
sampled_carrier s w n base bits k =
    ap (λ b. (w.fibre k).joined && b)
    (ends_up (moved s w (Sample n base bits)).clock w.clock (link_of s k) (λ m. up_told (m == n) (record (w.clock m) { samples = (w.clock m).samples + 1 }) (w.clock m) refl))

pub passed_carrier : (s : Setting) (w : WorldAt) (dt : ℤ) (drifts : Items ℤ) (fibres : Items (ℤ × ℤ)) (k : ℕ) → has_carrier s (moved s w (Pass dt drifts fibres)) k ≡ has_carrier s w k
passed_carrier s w dt drifts fibres k =
    ap (λ b. (w.fibre k).joined && b) (ends_up (moved s w (Pass dt drifts fibres)).clock w.clock (link_of s k) (λ m. refl))
