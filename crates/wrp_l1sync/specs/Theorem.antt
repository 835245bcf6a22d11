-- What an end that is up knows of its peer (this project's profile).
use Rattle.std.specs.Prelude.{◌≡◌, ◌+◌, ◌*◌, ◌≤◌, IsTrue, List}
use Rattle.std.specs.List.{Contains}
use Rattle.wrp_l1sync.specs.declared.event.Limits.{Limits}
use Rattle.wrp_l1sync.specs.declared.event.Sent.{Sent}
use Rattle.wrp_l1sync.specs.declared.event.Side.{Side}
use Rattle.wrp_l1sync.specs.declared.interface.L1In.{L1In}
use Rattle.wrp_l1sync.specs.declared.interface.L1State.TheVariants.{Up}
use Rattle.wrp_l1sync.specs.Inputs.{own_of, state_of}
use Rattle.wrp_l1sync.specs.Message.{meets}
use Rattle.wrp_l1sync.specs.Pair.{History, handed, inputs_of, other}

-- the peer of an end sent this message, at most timeout·dmax + life ago, with the same requirement,
-- and every required bit holds at the end and in the message
pub record Carries (limits : Limits) (h : History) (side : Side) (inputs : List L1In) (message : Sent) : Type 0 where
  pub sent : Contains h.sent message
  pub by_peer : message.by ≡ other side
  pub age : h.time ≤ message.at + (limits.timeout * limits.dmax + limits.life)
  pub same : message.msg.req ≡ (own_of inputs).req
  pub own_holds : IsTrue (meets (own_of inputs).req (own_of inputs).is)
  pub peer_holds : IsTrue (meets (own_of inputs).req message.msg.is)

-- an end that is up has such a peer
abbrev pub UpIsCarried : Limits → History → Side → Type 0
UpIsCarried limits h side =
    state_of limits.timeout (inputs_of (handed side h)) ≡ Up →
    (message : Sent) × Carries limits h side (inputs_of (handed side h)) message
