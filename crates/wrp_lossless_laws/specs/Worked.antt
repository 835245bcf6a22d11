-- Calls of a link that lost nothing, and of three links that did not keep to that (this project's profile).
use Rattle.std.specs.Prelude.{List, [], ◌∷◌, None, Some}
use Rattle.wrp_io.specs.declared.link.LinkCall.{LinkCall}
use Rattle.wrp_io.specs.declared.link.LinkCall.TheVariants.{Receive, Send, Start}
use Rattle.wrp_io.specs.Link.{frame_of}
use Rattle.wrp_lossless_laws.specs.LosesNothing.{LosesNothing}

-- two frames go down link 0, and one goes up
abbrev pub carried_calls : List LinkCall
carried_calls =
    Start 2 ∷ Send 0 (frame_of (7 ∷ [])) ∷ Send 0 (frame_of (8 ∷ [])) ∷ Receive 1 (Some (frame_of (7 ∷ [])))
    ∷ Send 1 (frame_of (9 ∷ [])) ∷ Receive 1 (Some (frame_of (8 ∷ []))) ∷ Receive 1 None
    ∷ Receive 0 (Some (frame_of (9 ∷ []))) ∷ []

-- a frame that goes down link 0 is lost, comes twice, or is overtaken
abbrev pub lost_calls : List LinkCall
lost_calls = Start 2 ∷ Send 0 (frame_of (7 ∷ [])) ∷ Receive 1 None ∷ []

abbrev pub repeated_calls : List LinkCall
repeated_calls =
    Start 2 ∷ Send 0 (frame_of (7 ∷ [])) ∷ Receive 1 (Some (frame_of (7 ∷ [])))
    ∷ Receive 1 (Some (frame_of (7 ∷ []))) ∷ []

abbrev pub swapped_calls : List LinkCall
swapped_calls =
    Start 2 ∷ Send 0 (frame_of (7 ∷ [])) ∷ Send 0 (frame_of (8 ∷ [])) ∷ Receive 1 (Some (frame_of (8 ∷ []))) ∷ []

abbrev pub WorkedLinks : Type 0
WorkedLinks =
    LosesNothing carried_calls × (LosesNothing lost_calls → ⊥) × (LosesNothing repeated_calls → ⊥)
    × (LosesNothing swapped_calls → ⊥)
