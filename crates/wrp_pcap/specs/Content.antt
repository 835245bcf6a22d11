-- What a packet carries: a PTP message, a PTP frame that is none, or no PTP frame; and the messages that some packets
-- carry.
use Rattle.std.specs.Prelude.{ℕ, ◌+◌, List, [], ◌∷◌, length}
use Rattle.wrp_pcap.specs.declared.content.Content.{Content}
use Rattle.wrp_pcap.specs.declared.content.Content.TheVariants.{Other, Message, Fault}
use Rattle.wrp_pcap.specs.Certificate.{Captured}
use Rattle.wrp_pcap.specs.Ethernet.{CarriesMessage, CarriesFault, CarriesNone}

-- the packet carries this
abbrev pub HasContent : List ℕ → Content → Type 0
HasContent packet Other = CarriesNone packet
HasContent packet (Message message) = CarriesMessage packet message
HasContent packet (Fault fault) = CarriesFault packet fault

-- each packet carries the content at its place
abbrev pub HaveContents : List (List ℕ) → List Content → Type 0
HaveContents [] [] = Unit {0}
HaveContents (packet ∷ packets) (content ∷ contents) =
    HasContent packet content × HaveContents packets contents
HaveContents _ _ = ⊥

-- a message with the number of its packet in front of some messages, if there is one
abbrev pub onto : ℕ → Content → List Captured → List Captured
onto number (Message message) captured = record { number = number; message = message } ∷ captured
onto number _ captured = captured

-- the messages that packets carry, each with the number of its packet, counted from 1; of both the newest first
abbrev pub messages_of : List Content → List Captured
messages_of [] = []
messages_of (newest ∷ before) = onto (length before + 1) newest (messages_of before)
