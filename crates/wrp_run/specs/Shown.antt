-- What an audit and a run over a link print, as a reader of the bytes can check it: the offset in each `track` line follows from the
-- event lines and the `step` lines up to it, and its bound from the network file (this project's profile).
use Rattle.std.specs.Prelude.{◌≡◌, ◌⊎◌, ℕ, List, [], ◌∷◌, ◌++◌, codes, map}
use Rattle.std.specs.List.{AllByRecursion}
use Rattle.toml.specs.Data.{Members}
use Rattle.wrp_network.specs.declared.configuration.NetCfg.{NetCfg}
use Rattle.wrp_calibration_text.specs.Reading.{IsTextOf}
use Rattle.wrp_network_text.specs.Config.{IsNetworkOf}
use Rattle.wrp_loop.specs.LoopText.{NoneIsMarked}
use Rattle.wrp_records.specs.Lines.{content_of, lines_of}
use Rattle.wrp_printed_laws.specs.Offsets.{AllFollow, Seen}
use Rattle.wrp_asked.specs.EmitHeadline.{TellsNoTrack}
use Rattle.wrp_asked.specs.Input.{behind_separator, network_text}

-- some lines of each, the oldest first
abbrev pub in_order : (Seen → List (List ℕ)) → List Seen → List (List ℕ)
in_order lines [] = []
in_order lines (it ∷ older) = in_order lines older ++ lines it

-- what was written is the front of the lines of some event lines and of further lines, which are not track lines;
-- and each track line follows from the network file and from the event lines and the step lines up to it
pub record Shows (Come : List Seen → Type 0) (lines : Seen → List (List ℕ)) (input octets : List ℕ) : Type 0 where
  pub doc : Members
  pub text : IsTextOf doc (network_text input)
  pub cfg : NetCfg
  pub network : IsNetworkOf doc cfg
  pub seen : List Seen
  pub come : Come seen
  pub rest : List ℕ
  pub last : List (List ℕ)
  pub written : lines_of (octets ++ rest) ≡ in_order lines seen ++ last
  pub closing : AllByRecursion TellsNoTrack last
  pub follow : AllFollow cfg seen

-- what was written has no track line
abbrev pub ShowsNone : List ℕ → Type 0
ShowsNone octets = AllByRecursion TellsNoTrack (lines_of octets)

-- for an audit: the event lines are the first records of the input, and for each event its own lines are
-- printed
abbrev pub ComeFrom : List ℕ → List Seen → Type 0
ComeFrom input seen =
    (behind : List (List ℕ)) ×
    (map content_of (behind_separator (lines_of input)) ≡ in_order (λ it. it.event ∷ []) seen ++ behind)

abbrev pub AuditFollows : List ℕ → List ℕ → Type 0
AuditFollows input octets = ShowsNone octets ⊎ Shows (ComeFrom input) (λ it. it.lines) input octets

-- for a run over a link: each event line is printed after `= `, as no other line is, and then come its own
-- lines
abbrev pub marked : Seen → List ℕ
marked it = codes "= " ++ it.event ++ 10 ∷ []

abbrev pub AreTold : List Seen → Type 0
AreTold seen = AllByRecursion (λ (it : Seen). NoneIsMarked it.lines) seen

abbrev pub LoopFollows : List ℕ → List ℕ → Type 0
LoopFollows input octets = ShowsNone octets ⊎ Shows AreTold (λ it. marked it ∷ it.lines) input octets
