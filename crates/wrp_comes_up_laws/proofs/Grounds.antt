-- The laws that the laws of this crate rest on.
use Rattle.wrp_config.specs.Laws.{ChildIsDeeper}
use Rattle.wrp_handshake_laws.specs.Laws.{SlaveOnWithItsMaster}
use Rattle.wrp_node.specs.LinkNews.{StepGivesLinks}
use Rattle.wrp_node.specs.Sends.{SignalsAreOfLink}
use Rattle.wrp_node.specs.SetLaws.{EndsAreSet}
use Rattle.wrp_course.specs.RunLaws.{FramesWerePutOut, TicksAreApart, TimeNeverFalls}
use Rattle.wrp_course.specs.SameHandshake.{CarriersAreTheLinks, LinksCanBe}

pub record Laws : Type 0 where
  pub links : StepGivesLinks
  pub signals : SignalsAreOfLink
  pub ends : EndsAreSet
  pub deeper : ChildIsDeeper
  pub put : FramesWerePutOut
  pub apart : TicksAreApart
  pub rises : TimeNeverFalls
  pub with_master : SlaveOnWithItsMaster
  pub can_be : LinksCanBe
  pub carriers : CarriersAreTheLinks
