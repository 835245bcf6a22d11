-- Events that follow from datagrams can come.
use Rattle.std.proofs.Common.{ℕ, ℤ, arith}
use Rattle.arrayvec.specs.ArrayVec.{ArrayVec}
use Rattle.wrp_course.specs.declared.event.Event.TheVariants.{Deliver, Noise}
use Rattle.wrp_world.specs.Step.{MayCome}
use Rattle.wrp_loop.specs.declared.network.LoopCourse.{LoopCourse}
use Rattle.wrp_loop.specs.declared.network.LoopedNetwork.{LoopedNetwork}
use Rattle.wrp_loop.specs.declared.routes.Route.{Route}
use Rattle.wrp_loop.specs.LoopRun.{noise_stamp, world_at}
use Rattle.wrp_loop.specs.LoopStands.{CanDeliver, CanHappen, CanSound, FitsCourse}
use Rattle.wrp_loop.proofs.Accepting.{deliver_accepted}
use Rattle.wrp_loop.proofs.Standing.{can_happen, next_may_come, noise_event, noise_keeps}

-- a frame is handed over
pub may_deliver : {F : Type 0} (network : LoopedNetwork F) (course : LoopCourse) (i : ℕ) → FitsCourse network course → MayCome network.world (Deliver i)
may_deliver network course i fits =
    let same = fits.count in
    let below = fits.below in
    record { event = tt; room = omega (arith, same, below) }

pub can_deliver : {F : Type 0} (post : F → ℤ → ℤ → Type 0) (network : LoopedNetwork F) (course : LoopCourse) (route : Route) (i : ℕ) → CanDeliver post network course route i → CanHappen post network.world (Deliver i)
can_deliver post network course route i h =
    can_happen post h.0 network course h.1 (Deliver i) h.4.at.0 (λ says said. deliver_accepted h.0.setting (world_at h.0 h.1) h.2 h.3 i says h.5 h.4.lit)

-- octets come that the peer did not send
pub may_sound : {F : Type 0} (post : F → ℤ → ℤ → Type 0) (network : LoopedNetwork F) (course : LoopCourse) (route : Route) (frame : ArrayVec ℕ) → CanSound post network course route frame.items → FitsCourse network course →
    MayCome network.world (Noise route.node route.port frame noise_stamp)
may_sound post network course route frame h fits =
    next_may_come post h.0 network course h.1 (Noise route.node route.port frame noise_stamp) h.3.at.0 fits (noise_event h.0 h.1 h.2 route frame h.3.at.0.net h.3.port_is h.3.to_is)

pub can_sound : {F : Type 0} (post : F → ℤ → ℤ → Type 0) (network : LoopedNetwork F) (course : LoopCourse) (route : Route) (frame : ArrayVec ℕ) → CanSound post network course route frame.items →
    CanHappen post network.world (Noise route.node route.port frame noise_stamp)
can_sound post network course route frame h =
    can_happen post h.0 network course h.1 (Noise route.node route.port frame noise_stamp) h.3.at.0 (noise_keeps h.0 h.1 h.2 route frame h.3.at.0.net h.3.port_is h.3.to_is h.4 h.3.lit)
