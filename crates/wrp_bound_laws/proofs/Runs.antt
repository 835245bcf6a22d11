-- Parts of a run, and what stays through it. The main lemmas: the older events of a run are a run (Suffixes); where a
-- part begins, and what held at an event of it (FourParts); each node is what its inputs made of it (NodeRuns); the link above a
-- node, the role of a port and the numbers of a hop (LinksAbove, PortRoles, HopNumbers); and what the laws answered is near the
-- exact fraction (NearAnswers).
pub mod FourParts
pub mod HopNumbers
pub mod LinksAbove
pub mod NearAnswers
pub mod NodeRuns
pub mod PortRoles
pub mod Suffixes
