-- How a handshake is judged: which verdict is expected for the histories of a link's two ports, the newest mark first.
-- This project's profile.
use Rattle.std.specs.Prelude.{◌≡◌, ℤ, List, [], ◌∷◌, ◌++◌, reverse, Result, Ok, Err}
use Rattle.wrp_base.specs.declared.link.LinkState.{LinkState}
use Rattle.wrp_base.specs.declared.link.LinkState.TheVariants.{LinkOn}
use Rattle.wrp_base.specs.declared.link.Mark.{Mark}
use Rattle.wrp_base.specs.declared.link.Role.{Role}
use Rattle.wrp_base.specs.declared.message.WrMsg.{WrMsg}
use Rattle.wrp_check.specs.declared.verdict.Verdict.{Verdict}
use Rattle.wrp_check.specs.declared.verdict.Verdict.TheVariants.{NotOn, NoStretch, Missing}
use Rattle.wrp_check.specs.Handshake.{SentIn, AllBacked, SameHandshake}
use Rattle.wrp_check.specs.Required.{required_of}
use Rattle.wrp_check.specs.Stretches.{stretches_of, newest_of, Entered, movers_of}

-- the last mark of a history leads to WR_LINK_ON
abbrev pub LeadsOn : List Mark → Type 0
LeadsOn [] = ⊥
LeadsOn (mark ∷ marks) = mark.to ≡ LinkOn

-- the first of some states that is missing: those before it were entered in their order, at or before a time, and it
-- was not entered after them
pub record Lacks (states : List LinkState) (time : ℤ) (stretch : List Mark) (state : LinkState) : Type 0 where
  pub before : List LinkState
  pub after : List LinkState
  pub splits : states ≡ before ++ state ∷ after
  pub entered : Entered time (reverse before) stretch
  pub missing : Entered time (state ∷ reverse before) stretch → ⊥

-- the first of some messages, the newest first, whose required states are not all there lacks this state first
pub record LacksFirst (role : Role) (stretch : List Mark) (movers : List (WrMsg × ℤ)) (state : LinkState) : Type 0 where
  pub later : List (WrMsg × ℤ)
  pub mover : WrMsg × ℤ
  pub earlier : List (WrMsg × ℤ)
  pub splits : movers ≡ later ++ mover ∷ earlier
  pub backed : AllBacked role stretch earlier
  pub lacks : Lacks (required_of role mover.0) mover.1 stretch state

-- the messages that moved a port in its last stretch were sent in one stretch of the peer, which lacks this state
pub record Misses (role : Role) (own peer : List Mark) (state : LinkState) : Type 0 where
  pub stretch : List Mark
  pub sent : SentIn own peer stretch
  pub first : LacksFirst role stretch (movers_of (newest_of (stretches_of own))) state

-- the verdict that is expected for a port of this role
abbrev pub Judges : Role → List Mark → List Mark → Result Unit Verdict → Type 0
Judges role own peer (Ok _) = LeadsOn own × SameHandshake role own peer
Judges role own peer (Err NotOn) = LeadsOn own → ⊥
Judges role own peer (Err NoStretch) = LeadsOn own × ((stretch : List Mark) → SentIn own peer stretch → ⊥)
Judges role own peer (Err (Missing state)) = LeadsOn own × Misses role own peer state
