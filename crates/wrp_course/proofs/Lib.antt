-- The laws of all runs. The main lemma is that of RunBoth and RunEvents: what an event makes of each link is one of the
-- changes that the laws of one link cover (`wrp_handshake_laws`), and it may come when it does; so each link of a run
-- is one that can be, and all those laws hold of it (`link_on_in_the_same_handshake`). In the order in which they
-- depend on one another:
--
-- Told, Unbroken, Bounds, Still, Rows: lists of checks, what accepted stamps and samples leave true, the first state, the worked rows.
-- LinkPorts, PortNumbers, RunLinks, RunNetwork, RunListed: the ports at the ends of links, in an accepted network.
-- RunPorts, RunGiven, RunGifts, RunHanded, RunTicks: what an event gives a port, as the laws of one link see it.
-- RunFrames, RunTimes, RunFlights, RunStamps: what stays of times, frames and modules, and how a frame departs and arrives.
-- RunCarriers, RunDark, RunLit, RunCarried, RunKept, RunMoves, RunSettled, RunChanges: what is kept of each link at each kind of event.
-- RunBoth, RunEvents: all of it after every event of every run.
-- WordReports, EarnedReports, JudgedPorts, DroppedFrames: what is reported of WR_LINK_ON, how a port is judged (`ports_are_judged`), and
-- what a dropped frame leaves. StayingPeers: how each end stays in the handshake that the other relies on.
-- RunSent: which frames may still come (`frames_may_come`). RunQuiet, RunWaking: how long ago a port whose quiet time is over got its
-- carrier (`ports_wake_late`).
pub mod Bounds
pub mod DroppedFrames
pub mod EarnedReports
pub mod JudgedPorts
pub mod LinkPorts
pub mod PortNumbers
pub mod Rows
pub mod RunBoth
pub mod RunCarried
pub mod RunCarriers
pub mod RunChanges
pub mod RunDark
pub mod RunEvents
pub mod RunFlights
pub mod RunFrames
pub mod RunGifts
pub mod RunGiven
pub mod RunHanded
pub mod RunKept
pub mod RunLinks
pub mod RunListed
pub mod RunLit
pub mod RunMoves
pub mod RunNetwork
pub mod RunPorts
pub mod RunQuiet
pub mod RunSent
pub mod RunSettled
pub mod RunStamps
pub mod RunTicks
pub mod RunTimes
pub mod RunWaking
pub mod StayingPeers
pub mod Still
pub mod Told
pub mod Unbroken
pub mod WordReports
