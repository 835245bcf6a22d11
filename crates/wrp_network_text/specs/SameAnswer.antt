-- One text has one answer (this project's profile).
use Rattle.std.specs.Prelude.{◌≡◌, ℕ, List, Result, Ok, Err}
use Rattle.wrp_base.specs.declared.fault.ConfFault.{ConfFault}
use Rattle.wrp_base.specs.declared.fault.ConfFault.TheVariants.{Fault, Memory}
use Rattle.wrp_config.specs.Accepted.{IsAccepted}
use Rattle.wrp_config.specs.Same.{IsSameNetwork}
use Rattle.wrp_config.specs.declared.network.Network.{Network}
use Rattle.wrp_network_text.specs.Reading.{IsReadingOf}

-- the same answer: a network and a fault never are; out of memory may come in place of any
abbrev pub IsSameAnswer : Result Network ConfFault → Result Network ConfFault → Type 0
IsSameAnswer (Ok a) (Ok b) = IsSameNetwork a b
IsSameAnswer (Ok a) (Err (Fault number place)) = ⊥
IsSameAnswer (Ok a) (Err (Memory e)) = Unit {0}
IsSameAnswer (Err (Fault number place)) (Ok b) = ⊥
IsSameAnswer (Err (Fault number place)) (Err (Fault other there)) =
    (number ≡ other) × (place.bytes ≡ there.bytes)
IsSameAnswer (Err (Fault number place)) (Err (Memory e)) = Unit {0}
IsSameAnswer (Err (Memory e)) other = Unit {0}

-- each answer for the octets is the same as this one
abbrev pub IsOnlyReadingOf : List ℕ → Result Network ConfFault → Type 0
IsOnlyReadingOf octets answer =
    (other : Result Network ConfFault) → IsReadingOf octets other → IsSameAnswer other answer

-- two answers for one text are the same
abbrev pub OneReading : Type 0
OneReading =
    (octets : List ℕ) (one other : Result Network ConfFault) →
    IsReadingOf octets one → IsReadingOf octets other → IsSameAnswer one other

-- the answer is not out of memory
abbrev pub IsSettled : Result Network ConfFault → Type 0
IsSettled (Ok net) = Unit {0}
IsSettled (Err (Fault number place)) = Unit {0}
IsSettled (Err (Memory e)) = ⊥

-- each text has an answer that is not out of memory
abbrev pub EachIsRead : Type 0
EachIsRead =
    (octets : List ℕ) → (due : Result Network ConfFault) × IsSettled due × IsReadingOf octets due

-- the network of a text is accepted
abbrev pub ReadingIsAccepted : Type 0
ReadingIsAccepted =
    (octets : List ℕ) (net : Network) → IsReadingOf octets (Ok net) → IsAccepted net.cfg net.db
