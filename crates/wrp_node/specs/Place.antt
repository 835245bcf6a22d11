-- A port at its place in a node, and what an input makes of it there.
use Rattle.std.specs.Prelude.{◌≡◌, ℕ, ◌==◌, Bool, true, false, if◌then◌else◌, IsTrue, IfSome, List, [], ◌∷◌, ◌++◌, map, Option, Some}
use Rattle.std.specs.List.{find}
use Rattle.wrp_base.specs.Calls.{Adds}
use Rattle.wrp_base.specs.declared.message.PtpMsg.{PtpMsg}
use Rattle.wrp_exch.specs.Call.{Call}
use Rattle.wrp_exch.specs.Exchange.{StandsFor as ExchangeStandsFor, HasTimes}
use Rattle.wrp_link.specs.Table.{word_of}
use Rattle.wrp_node.specs.declared.interface.Output.{Output}
use Rattle.wrp_node.specs.declared.place.PortPlace.{PortPlace}
use Rattle.wrp_node.specs.declared.ports.To.{To}
use Rattle.wrp_node.specs.declared.ports.To.TheVariants.{Every, One}
use Rattle.wrp_node.specs.NodeRun.{word_out, frame_out}
use Rattle.wrp_node.specs.Telling.{counted}
use Rattle.wrp_port.specs.declared.interface.PortIn.{PortIn}
use Rattle.wrp_port.specs.declared.interface.PortIn.TheVariants.{Msg}
use Rattle.wrp_port.specs.Outputs.{sends_of, drop_of, measured_by, is_dropped_early}
use Rattle.wrp_port.specs.PortAt.{StandsFor as PortStandsFor}

-- the newest messages that there are
abbrev pub newest_sends : List PtpMsg → List PtpMsg → List PtpMsg
newest_sends [] before = before
newest_sends (message ∷ messages) before = message ∷ messages

-- whether an input is a message
abbrev pub is_message : PortIn → Bool
is_message (Msg message stamp tick) = true
is_message _ = false

-- the port was given one more input: it counts why it dropped a message, and keeps what it is to send
pub record Gives (input : PortIn) (old new : PortPlace) : Type 0 where
  pub number : new.number ≡ old.number
  pub word : new.word ≡ old.word
  pub set : new.port.set ≡ old.port.set
  pub told : Adds PortStandsFor old.port new.port input
  pub silent : IsTrue (is_dropped_early old.port.set old.port.line input) → new.port ≡ old.port
  pub counters :
      (calls : List Call) → ExchangeStandsFor old.port.set.ring old.port.exchange calls →
      new.counters ≡ counted (drop_of old.port.set old.port.line calls input) old.counters
  pub measured :
      is_message input ≡ true → (calls : List Call) → ExchangeStandsFor old.port.set.ring old.port.exchange calls →
      new.lent.measured ≡ measured_by old.port.set old.port.line calls input
  pub times : is_message input ≡ true → IfSome new.lent.measured HasTimes
  pub sends : new.sends.items ≡ newest_sends (sends_of old.port.set old.port.line input) old.sends.items

-- whom an input is for
abbrev pub is_to : To → ℕ → Bool
is_to Every p = true
is_to (One q) p = p == q

-- a port is given an input if the input is for it, and otherwise stays as it is
abbrev pub GivenWhere : Bool → PortIn → PortPlace → PortPlace → Type 0
GivenWhere true input old new = Gives input old new
GivenWhere false input old new = new ≡ old

-- an input for some ports: it is given to these, and the others stay as they are
abbrev pub GivesTo : To → PortIn → PortPlace → PortPlace → Type 0
GivesTo to input old new = GivenWhere (is_to to old.number) input old new

-- a reason was counted at the ports of a number
abbrev pub place_counted : ℕ → ℕ → PortPlace → PortPlace
place_counted p reason place = if place.number == p then record place { counters = counted (Some reason) place.counters } else place

-- a call counted a reason at the port, if the port has this number
abbrev pub Counts : ℕ → ℕ → PortPlace → PortPlace → Type 0
Counts p reason old new = new ≡ place_counted p reason old

-- a port before an input: its word is noted, and nothing is sent yet
pub record Begins (old new : PortPlace) : Type 0 where
  pub number : new.number ≡ old.number
  pub port : new.port ≡ old.port
  pub counters : new.counters ≡ old.counters
  pub word : new.word ≡ word_of old.port.line.link
  pub sends : new.sends.items ≡ []

-- what a port puts out: its word, if it changed, and its frames
abbrev pub place_out : PortPlace → List Output
place_out place =
    word_out place.number place.word (word_of place.port.line.link) ++ map (frame_out place.number) place.sends.items

-- the port of a number among these
abbrev pub place_of : ℕ → List PortPlace → Option PortPlace
place_of p places = find (λ place. place.number == p) places
