-- The same handshake at both ends of a link, found from the histories of its two ports, the newest mark first. This
-- project's profile.
use Rattle.std.specs.Prelude.{◌≡◌, ℤ, List, ◌∷◌, ◌++◌, reverse}
use Rattle.std.specs.List.{AllByRecursion}
use Rattle.wrp_base.specs.declared.link.Mark.{Mark}
use Rattle.wrp_base.specs.declared.link.Role.{Role}
use Rattle.wrp_base.specs.declared.message.WrMsg.{WrMsg}
use Rattle.wrp_check.specs.Required.{required_of}
use Rattle.wrp_check.specs.Stretches.{stretches_of, newest_of, LiesIn, LiesInNone, Entered, movers_of}

-- the newest of some stretches in which a time lies
pub record IsNewestWith (time : ℤ) (stretches : List (List Mark)) (stretch : List Mark) : Type 0 where
  pub newer : List (List Mark)
  pub older : List (List Mark)
  pub splits : stretches ≡ newer ++ stretch ∷ older
  pub misses : LiesInNone time newer
  pub lies : LiesIn time stretch

-- all of some messages were sent in a stretch
abbrev pub AllSentIn : List Mark → List (WrMsg × ℤ) → Type 0
AllSentIn stretch movers = AllByRecursion (λ mover. LiesIn mover.1 stretch) movers

-- all messages that moved a port in its last stretch, of which there are some, were sent in one stretch
-- of its peer: the newest in which the last of them was sent
pub record SentIn (own peer stretch : List Mark) : Type 0 where
  pub last : WrMsg × ℤ
  pub others : List (WrMsg × ℤ)
  pub movers : movers_of (newest_of (stretches_of own)) ≡ last ∷ others
  pub newest : IsNewestWith last.1 (stretches_of peer) stretch
  pub sent : AllSentIn stretch (last ∷ others)

-- the states that a message requires were entered in a stretch of the peer, in their order, at or before
-- its sending
abbrev pub IsBacked : Role → List Mark → WrMsg × ℤ → Type 0
IsBacked role stretch mover = Entered mover.1 (reverse (required_of role mover.0)) stretch

-- all of some messages are backed by a stretch of the peer
abbrev pub AllBacked : Role → List Mark → List (WrMsg × ℤ) → Type 0
AllBacked role stretch movers = AllByRecursion (λ mover. IsBacked role stretch mover) movers

-- a port of this role, with the history own, is in the same handshake as its peer
pub record SameHandshake (role : Role) (own peer : List Mark) : Type 0 where
  pub stretch : List Mark
  pub sent : SentIn own peer stretch
  pub backed : AllBacked role stretch (movers_of (newest_of (stretches_of own)))
