-- The inputs of an event as the code lists them before the nodes take them: by parts, and all (this project's profile).
use Rattle.std.specs.Prelude.{ℕ, ℤ, pos, ◌≡◌, ◌≤◌, ◌%◌, ◌==◌, ◌||◌, ◌++◌, Bool, true, false, List, [], ◌∷◌, length, flat_map, Option, None, Some, Result}
use Rattle.std.specs.List.{AllByRecursion, AllZip}
use Rattle.std.specs.Option.{option_map_or}
use Rattle.arrayvec.specs.ArrayVec.{ArrayVec}
use Rattle.wrp_base.specs.declared.link.Role.{Role}
use Rattle.wrp_base.specs.declared.message.Body.{Body}
use Rattle.wrp_base.specs.declared.message.Body.TheVariants.{Sync, DelayReq}
use Rattle.wrp_base.specs.declared.message.PtpMsg.{PtpMsg}
use Rattle.wrp_base.specs.declared.time.Stamp.{Stamp}
use Rattle.wrp_base.specs.Link.{other_of}
use Rattle.wrp_frame.specs.declared.fault.FrameFault.{FrameFault}
use Rattle.wrp_node.specs.declared.interface.Input.{Input}
use Rattle.wrp_node.specs.declared.interface.Input.TheVariants.{Carrier, Sent}
use Rattle.wrp_node.specs.declared.interface.Output.{Output}
use Rattle.wrp_node.specs.Set.{set_of}
use Rattle.wrp_course.specs.declared.event.Event.{Event}
use Rattle.wrp_course.specs.declared.event.Event.TheVariants.{Deliver, Up}
use Rattle.wrp_course.specs.declared.event.Swap.{Swap}
use Rattle.wrp_course.specs.declared.node_out.NodeOut.{NodeOut}
use Rattle.wrp_plant.specs.declared.plant.Plant.{Plant}
use Rattle.wrp_changes.specs.declared.giving.listing.Gift.{Gift}
use Rattle.wrp_changes.specs.FitsGifts.{FitsGift}
use Rattle.wrp_changes.specs.Gifts.{AreGifts, GiftIs}
use Rattle.wrp_course.specs.Given.{Given, given_plain, if_carried}
use Rattle.wrp_course.specs.Moved.{moved, swap_at}
use Rattle.wrp_flights.specs.Frames.{sent_at}
use Rattle.wrp_plant.specs.Plant.{PlantIs}
use Rattle.wrp_course.specs.Premises.{Accepts}
use Rattle.wrp_course.specs.Run.{IsSaid}
use Rattle.wrp_course.specs.Setting.{Setting, end_at, entry_at, place_of}
use Rattle.wrp_course.specs.WorldAt.{Sending, WorldAt}

-- the true time at which the frame that an event hands over was put out, in tau; 0 if it hands over none
abbrev pub put_of : Plant → Event → ℤ
put_of plant (Deliver i) = option_map_or (λ t. t) (sent_at i plant.frames.sent) (pos 0)
put_of plant _ = pos 0

-- Entries

-- an input that is listed and not yet taken
abbrev pub listed : Gift → NodeOut
listed gift = record { node = gift.node; input = gift.input; outs = record { items = [] } }

abbrev pub entries_of : Option Gift → List NodeOut
entries_of None = []
entries_of (Some gift) = listed gift ∷ []

-- only this input is listed, whatever outputs the entry holds
pub record IsListedAlone (gift : Gift) (outs : List NodeOut) : Type 0 where
  pub beside : ArrayVec Output
  pub items : outs ≡ record { node = gift.node; input = gift.input; outs = beside } ∷ []

abbrev pub IsListed : Option Gift → List NodeOut → Type 0
IsListed None outs = outs ≡ []
IsListed (Some gift) outs = IsListedAlone gift outs

-- The sending of a frame

-- the octets have the messageType of a Sync or of a Delay_Req: no other sending is reported
abbrev pub is_told : List ℕ → Bool
is_told [] = false
is_told (first ∷ rest) = (first % 16 == 0x0) || (first % 16 == 0x1)

-- the input that reports it at a port, if it is reported
abbrev pub sent_in : (p seq : ℕ) → Stamp → Body → Option Input
sent_in p seq stamp (Sync origin) = Some (Sent p seq false stamp)
sent_in p seq stamp (DelayReq origin) = Some (Sent p seq true stamp)
sent_in p seq stamp _ = None

abbrev pub sent_by : ℕ → Stamp → PtpMsg → Option Input
sent_by p stamp message = sent_in p message.head.seq stamp message.body

-- the same for the oldest of these frames
abbrev pub sent_first : ℕ → Stamp → List Sending → Option Input
sent_first p stamp [] = None
sent_first p stamp (oldest ∷ rest) = sent_by p stamp oldest.message

-- Inputs that are not frames, listed after those that are there

-- at most this many inputs are added, and the nodes can take them: for each state that the plant stands for, these
pub record Adds (plant : Plant) (most : ℕ) (gives : Setting → WorldAt → List Given) (old new : List NodeOut) : Type 0 where
  pub more : List NodeOut
  pub items : new ≡ old ++ more
  pub few : length more ≤ most
  pub fit : AllByRecursion (FitsGift plant.net.cfg) more
  pub gifts : (s : Setting) (w : WorldAt) → PlantIs s w plant → AllZip (GiftIs (pos 0)) (gives s w) more

-- a carrier comes at an end of a link with the module of this name, and the same at both ends
abbrev pub comes_over : Setting → ℕ → Role → List ℕ → List Given
comes_over s k r name =
    option_map_or (λ end. given_plain end.node (Carrier end.port true (entry_at s k r name)) ∷ []) (end_at s k r) []

abbrev pub comes_over_both : Setting → ℕ → Role → (own other : List ℕ) → List Given
comes_over_both s k r own other = comes_over s k r own ++ comes_over s k (other_of r) other

-- at the node's ports with these numbers
abbrev pub at_numbers : Setting → WorldAt → (ℕ → Role → List Given) → ℕ → List ℕ → List Given
at_numbers s w gives n ps = flat_map (λ p. if_carried s w gives (place_of s n p)) ps

-- the name of the module at an end after these swaps at its node, if the end belongs to the node
abbrev pub name_with : Bool → ℕ → List Swap → List ℕ → List ℕ
name_with true p swaps name = option_map_or (λ swap. swap.name.bytes) (swap_at p swaps) name
name_with false p swaps name = name

-- the world after a node came up with these modules
abbrev pub up_of : Setting → WorldAt → ℕ → ℤ → ArrayVec Swap → WorldAt
up_of s w n off swaps = moved s w (Up n off swaps)

-- All inputs

-- all inputs of an event are listed: at most 37, which the nodes can take
pub record Gives (plant : Plant) (e : Event) (outs : List NodeOut) : Type 0 where
  pub gifts :
      (s : Setting) (w : WorldAt) (says : Result PtpMsg FrameFault) → ((n : ℕ) → s.set n ≡ set_of s.cfg n) →
      PlantIs s w plant → IsSaid e says → Accepts s w says e → AreGifts s w says e (put_of plant e) outs
  pub inputs : AllByRecursion (FitsGift plant.net.cfg) outs
  pub few : length outs ≤ 37
