-- How clocks and fibres move. Slow has the sums; NodeSteps and Offsets say that a node in TRACK or HOLDOVER, or with a chain, takes no
-- step; with both, Moving shows that each clock and each way moves no faster than its rate (`clocks_move_slowly`). TickSteps and
-- OnTime show that nodes tick in time (`ticks_are_on_time`), Fibres that a joined fibre keeps its share.
pub mod Fibres
pub mod Moving
pub mod NodeSteps
pub mod Offsets
pub mod OnTime
pub mod Slow
pub mod TickSteps
