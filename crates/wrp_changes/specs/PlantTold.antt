-- How the step of a node changes a world without its nodes, as the code keeps it (this project's profile).
use Rattle.std.specs.Prelude.{◌≡◌, ◌≤◌, ◌==◌, ◌⊎◌, ◌+◌, ◌+ℤ◌, ◌*ℤ◌, ◌*◌, ◌^◌, ℕ, zero, suc, ℤ, pos, Bool, true, false, if◌then◌else◌, unsigned_abs, List, [], ◌∷◌, ◌++◌, length, map, Option, None, Some, slice_get}
use Rattle.std.specs.List.{AllZip}
use Rattle.wrp_base.specs.Clock.{period_of}
use Rattle.wrp_base.specs.declared.link.LinkState.{LinkState}
use Rattle.wrp_base.specs.declared.link.Mark.{Mark}
use Rattle.wrp_base.specs.declared.link.Role.{Role}
use Rattle.wrp_base.specs.declared.message.PtpMsg.{PtpMsg}
use Rattle.wrp_base.specs.declared.message.WrMsg.{WrMsg}
use Rattle.wrp_network.specs.declared.network.LinkCfg.{LinkCfg}
use Rattle.wrp_network.specs.Network.{End}
use Rattle.wrp_frame.specs.Grammar.{Spells}
use Rattle.wrp_frame.specs.SentOctets.{octets_of}
use Rattle.wrp_link.specs.Table.{is_same}
use Rattle.wrp_node.specs.declared.interface.Output.{Output}
use Rattle.wrp_node.specs.declared.interface.Output.TheVariants.{Send, Step as StepOf}
use Rattle.wrp_node.specs.declared.ports.states.PortState.{PortState}
use Rattle.wrp_node.specs.Node.{is_tick}
use Rattle.wrp_node.specs.NodeAt.{link_at}
use Rattle.wrp_node.specs.Sends.{frames_at}
use Rattle.wrp_node.specs.States.{state_in}
use Rattle.wrp_node.specs.Telling.{Step}
use Rattle.wrp_course.specs.declared.clocks.ClockState.{ClockState}
use Rattle.wrp_plant.specs.declared.ends.EndState.{EndState}
use Rattle.wrp_plant.specs.declared.ends.PutOut.{PutOut}
use Rattle.wrp_plant.specs.declared.ends.Span.{Span}
use Rattle.wrp_plant.specs.declared.plant.Plant.{Plant}
use Rattle.wrp_changes.specs.declared.telling.News.{News}
use Rattle.wrp_course.specs.Given.{Given, mover_of}
use Rattle.wrp_changes.specs.Moves.{EachBecame, Where, At}
use Rattle.wrp_plant.specs.Plant.{Each}
use Rattle.wrp_changes.specs.Room.{HasRoom}
use Rattle.wrp_course.specs.Setting.{Setting, end_at}
use Rattle.wrp_course.specs.WorldAt.{WorldAt}

-- What is read from a step

-- the periods by which the clock is stepped; 0 if it is not stepped
abbrev pub cycles_in : List Output → ℤ
cycles_in [] = pos 0
cycles_in (StepOf cycles ∷ outs) = cycles
cycles_in (out ∷ outs) = cycles_in outs

-- whether a frame is among the outputs
abbrev pub sends : List Output → Bool
sends [] = false
sends (Send port frame ∷ outs) = true
sends (out ∷ outs) = sends outs

-- two rows of ports with the same content
pub record SameRow (before after : PortState) : Type 0 where
  pub port : before.port ≡ after.port
  pub state : is_same before.state after.state ≡ true

-- the step sends nothing and changes no link state
pub record IsQuiet (news : News) (outs : List Output) : Type 0 where
  pub silent : sends outs ≡ false
  pub states : (p : ℕ) → is_same (state_in p news.before.now.items) (state_in p news.after.now.items) ≡ true

-- How it changes the memory that was taken

abbrev pub less_one : ℕ → ℕ
less_one zero = 0
less_one (suc n) = n

-- How it changes the clock

abbrev pub Steps : (cycles now : ℤ) (period : ℕ) (ticked : Bool) → (old new : ClockState) → Type 0
Steps cycles now period ticked old new =
    new ≡ record old { off = old.off +ℤ (cycles *ℤ pos period); ticked = if ticked then now else old.ticked }

-- How it changes the ends

-- a frame that is put out now
abbrev pub put_at : ℤ → List ℕ → PutOut
put_at now octets = record { octets = record { items = octets }; at = now }

abbrev pub mark_of : ℤ → (from to : LinkState) → Option (WrMsg × ℤ) → List Mark
mark_of now from to by = if is_same from to then [] else record { at = now; from = from; to = to; by = by } ∷ []

-- these frames are put out at an end, in order, and a changed state of its link is marked
pub record Tells (now : ℤ) (frames : List (List ℕ)) (from to : LinkState) (by : Option (WrMsg × ℤ)) (old new : EndState) : Type 0 where
  pub name : new.name ≡ old.name
  pub tx : new.tx ≡ old.tx
  pub rx : new.rx ≡ old.rx
  pub waiting : new.waiting.items ≡ old.waiting.items ++ map (put_at now) frames
  pub marks : new.marks.items ≡ old.marks.items ++ mark_of now from to by

-- the same at a port of the node
abbrev pub TellsPort : ℤ → News → List Output → ℕ → (old new : EndState) → Type 0
TellsPort now news outs p old new =
    Tells now (frames_at p outs) (state_in p news.before.now.items) (state_in p news.after.now.items) news.by old new

-- the same at the ends of a link that belong to the node
pub record TellsSpan (now : ℤ) (news : News) (outs : List Output) (link : LinkCfg) (old new : Span) : Type 0 where
  pub fibre : new.fibre ≡ old.fibre
  pub master : Where (link.upper == news.node) (TellsPort now news outs link.upper_port) old.master new.master
  pub slave : Where (link.lower == news.node) (TellsPort now news outs link.lower_port) old.slave new.slave

abbrev pub TellsIn : ℤ → News → List Output → Option LinkCfg → (old new : Span) → Type 0
TellsIn now news outs None old new = new ≡ old
TellsIn now news outs (Some link) old new = TellsSpan now news outs link old new

abbrev pub TellsAt : ℤ → News → List Output → List LinkCfg → ℕ → (old new : Span) → Type 0
TellsAt now news outs links k old new = TellsIn now news outs (slice_get links k) old new

-- the same at all ends; it is noted when a frame was last put out, and for how many steps there is room left
pub record TellsEnds (news : News) (outs : List Output) (old new : Plant) : Type 0 where
  pub same : new ≡ record old { spans = new.spans; last_put = if sends outs then old.time else old.last_put; spare = new.spare }
  pub spans : EachBecame (TellsAt old.time news outs old.net.cfg.links.items) old.spans.items new.spans.items
  pub room : (k : ℕ) → HasRoom (k + 1) old → HasRoom k new
  pub spare : HasRoom old.spare old → HasRoom new.spare new

-- All parts

pub record Told (news : News) (outs : List Output) (old new : Plant) : Type 0 where
  pub cfg : new.net.cfg ≡ old.net.cfg
  pub db : new.net.db ≡ old.net.db
  pub time : new.time ≡ old.time
  pub count : new.events ≡ old.events
  pub of_clocks : EachBecame (At news.node (Steps (cycles_in outs) old.time (period_of old.net.cfg.clock) news.ticked)) old.clocks.items new.clocks.items
  pub of_spans : EachBecame (TellsAt old.time news outs old.net.cfg.links.items) old.spans.items new.spans.items
  pub of_frames : new.frames ≡ old.frames
  pub top : new.top ≡ old.top

-- The step of the definition that this is

-- the octets of a message as it is sent
pub record IsSent (message : PtpMsg) (sent : List ℕ) : Type 0 where
  pub octets : sent ≡ octets_of message
  pub says : Spells sent message

-- what is reported about a port is what the step made of it
pub record IsPortOf (s : Setting) (v : WorldAt) (g : Given) (step : Step) (news : News) (outs : List Output) (p : ℕ) : Type 0 where
  pub frames : AllZip IsSent (step.sends p) (frames_at p outs)
  pub before : state_in p news.before.now.items ≡ (link_at (s.set g.to) (v.node g.to) p).state
  pub after : state_in p news.after.now.items ≡ (link_at (s.set g.to) step.node p).state

-- what is reported is this step of the node for this input, at each of its ports that has a link
pub record IsStepOf (s : Setting) (v : WorldAt) (g : Given) (step : Step) (news : News) (outs : List Output) : Type 0 where
  pub node : g.to ≡ news.node
  pub ticked : news.ticked ≡ is_tick g.input
  pub cycles : cycles_in outs ≡ step.cycles
  pub by : news.by ≡ mover_of g g.input
  pub ports : (k : ℕ) (r : Role) (end : End) → end_at s k r ≡ Some end → end.node ≡ g.to → IsPortOf s v g step news outs end.port

-- What it needs

-- no port sends more than four frames in a step
abbrev pub SendsFew : List Output → Type 0
SendsFew outs = (p : ℕ) → length (frames_at p outs) ≤ 4

-- no clock was stepped in the newest event, and no clock moved much in it
abbrev pub NoneStepped : Plant → Type 0
NoneStepped plant = Each (λ n clock. unsigned_abs clock.off ≤ 2 ^ 92 * plant.events) plant.clocks.items

-- a clock is stepped at most once in an event, by a number of periods within its limit
abbrev pub MayStep : List Output → Plant → Type 0
MayStep outs plant = (cycles_in outs ≡ pos 0) ⊎ ((unsigned_abs (cycles_in outs) ≤ 2 ^ 62) × NoneStepped plant)
