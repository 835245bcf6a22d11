-- Messages that are spelled by their octets as they are sent (IEEE 1588-2019).
use Rattle.std.specs.Prelude.{List}
use Rattle.std.specs.List.{AllByRecursion}
use Rattle.wrp_base.specs.declared.message.PtpMsg.{PtpMsg}
use Rattle.wrp_frame.specs.Grammar.{Spells}
use Rattle.wrp_frame.specs.SentOctets.{octets_of}
use Rattle.wrp_node.specs.declared.place.PortPlace.{PortPlace}

-- the octets that are sent for a message spell that message
abbrev pub IsSpelled : PtpMsg → Type 0
IsSpelled message = Spells (octets_of message) message

-- so it is for each of these messages
abbrev pub AreSpelled : List PtpMsg → Type 0
AreSpelled messages = AllByRecursion IsSpelled messages

-- each message that one of these ports is about to send
abbrev pub AllSpelled : List PortPlace → Type 0
AllSpelled places = AllByRecursion (λ place. AreSpelled place.sends.items) places
