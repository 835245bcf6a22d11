-- A link that loses nothing, adds nothing and keeps the order, looking back over its calls (this project's profile).
use Rattle.std.specs.Prelude.{◌≡◌, List, ◌∷◌, ◌++◌}
use Rattle.wrp_io.specs.declared.link.LinkCall.{LinkCall}
use Rattle.wrp_io.specs.FramesWaiting.{IsNext}

-- each call that receives at an end answers what was sent to that end and not received yet, the oldest first; and
-- nothing, if nothing is left
abbrev pub LosesNothing : List LinkCall → Type 0
LosesNothing calls =
    (before later : List LinkCall) (call : LinkCall) → calls ≡ before ++ call ∷ later → IsNext before call
