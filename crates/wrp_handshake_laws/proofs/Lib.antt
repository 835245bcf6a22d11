-- The law of the same handshake on one link, over every list of changes. The main lemma is that of Keeps and Changes:
-- what is kept of each port by itself, and of each port towards its peer, is kept by each of the four kinds of change.
-- In the order in which they depend on one another:
--
-- Times, Parts: the sums on true times, and small facts on histories.
-- Stages, RowFits, Histories: how far a port is in a handshake; each row of the table moves and sends as the stages say; its marks.
-- Since, Lit, Deltas: what a message says of its sender's later history, and what is kept since a carrier came.
-- Keeps, Moves, Ports, Inputs, Changes: what is kept, as a port moves, as time passes, at an input, and over every list of changes.
-- Same, Failing, Staying, Together: a port in WR_LINK_ON shares its handshake, and a slave there has its master there.
-- Proved, Worked: the laws from what is kept, and a worked handshake that shows that they are not empty.
pub mod Changes
pub mod Deltas
pub mod Failing
pub mod Histories
pub mod Inputs
pub mod Keeps
pub mod Lit
pub mod Moves
pub mod Parts
pub mod Ports
pub mod Proved
pub mod RowFits
pub mod Same
pub mod Since
pub mod Stages
pub mod Staying
pub mod Times
pub mod Together
pub mod Worked
