-- The front continues a line that had no LF.
use Rattle.std.proofs.Common.{sym, subst}
use Rattle.wrp_records.specs.Lines.{HasNoFeed, IsWhole}
use Rattle.wrp_records.proofs.Feeds.{no_feed-append, whole_behind}
use Rattle.wrp_records.proofs.feed.append_front.Goals as goal

pub returns-in_ok-extend_from_slice-in-Some-clause-all : goal.returns-in_ok-extend_from_slice-in-Some-clause-all
returns-in_ok-extend_from_slice-in-Some-clause-all c =
    let is = c.in_ok-extend_from_slice-in-Some.ensures.items in
    (c.in-Some.ensures.0, subst IsWhole (sym is) (whole_behind _ _ c.requires c.in-Some.ensures.1), is)

pub returns-in_ok-extend_from_slice-in-None-clause-all : goal.returns-in_ok-extend_from_slice-in-None-clause-all
returns-in_ok-extend_from_slice-in-None-clause-all c =
    let is = c.in_ok-extend_from_slice-in-None.ensures.items in
    (subst HasNoFeed (sym is) (no_feed-append _ _ c.requires c.in-None.ensures), is)
