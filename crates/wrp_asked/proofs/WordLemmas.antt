-- A command line asks for one command, or for none.
use Rattle.std.proofs.Common.{◌≡◌, ◌∙◌, ap, sym, ℕ, None, Some, List}
use Rattle.std.proofs.lemmas.Option.{same_Some}
use Rattle.wrp_commands.specs.declared.alone.Alone.{Alone}
use Rattle.wrp_commands.specs.Request.{CommandLine, Networked, OnNetwork, Request, StandAlone}
use Rattle.wrp_asked.specs.Alone.{IsAlone}
use Rattle.wrp_asked.specs.Answer.{AsksNone, IsCommand, IsNetworked}
use Rattle.wrp_asked.specs.Tasks.{IsOnNetwork, node_of}

one_request : (asked : CommandLine) (a b : Request) → asked.request ≡ Some a → asked.request ≡ Some b → a ≡ b
one_request asked a b p q = same_Some a b (sym p ∙ q)

pub one_command : (asked : CommandLine) (a b : Networked) → IsOnNetwork asked a → IsOnNetwork asked b → a ≡ b
one_command asked a b p q = let same : OnNetwork a ≡ OnNetwork b = one_request asked (OnNetwork a) (OnNetwork b) p q in cc

pub one_alone : (asked : CommandLine) (a b : Alone) → IsAlone asked a → IsAlone asked b → a ≡ b
one_alone asked a b p q = let same : StandAlone a ≡ StandAlone b = one_request asked (StandAlone a) (StandAlone b) p q in cc

-- a command that stands alone is on no network
pub alone_unnetworked : (asked : CommandLine) (alone : Alone) → IsAlone asked alone → IsNetworked asked → ⊥
alone_unnetworked asked alone is (command, on) =
    let bad : StandAlone alone ≡ OnNetwork command = one_request asked (StandAlone alone) (OnNetwork command) is on in
    cc

pub networked_command : (asked : CommandLine) → IsNetworked asked → IsCommand asked
networked_command asked (command, on) = (OnNetwork command, on)

pub alone_command : (asked : CommandLine) (alone : Alone) → IsAlone asked alone → IsCommand asked
alone_command asked alone is = (StandAlone alone, is)

pub asks_nothing : (asked : CommandLine) → asked.request ≡ None → IsCommand asked → ⊥
asks_nothing asked none (request, is) = let bad : None ≡ Some request = sym none ∙ is in cc

-- a command that needs no node lacks none
pub lacks_none : (asked : CommandLine) (text : List ℕ) (command : Networked) → IsOnNetwork asked command → node_of command ≡ None → AsksNone asked text → ⊥
lacks_none asked text command on needs none =
    let same : command ≡ none.asks.0 = one_command asked command none.asks.0 on none.asks.1 in
    let bad : None ≡ Some none.name = sym needs ∙ ap node_of same ∙ none.asks.2 in
    cc
