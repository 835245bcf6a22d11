-- The bound. ModulesNear, PortErrors and PortDelays show that the delays with which a slave computes are near the true
-- ones (`fibre_holds_while_on`); TrackedHops that in TRACK all holds on which the bound of one hop rests
-- (`estimates_are_near`); Entering and HeldRuns that HOLDOVER was entered from TRACK and is short
-- (`holdover_is_from_track`, `holdover_is_short`). HopsUp goes from the grandmaster downwards (`offsets_keep_bounds`),
-- and BoundReports to what is reported (`reports_are_within`). HeldSteps says in one how HOLDOVER was entered and what
-- held since (`holdover_came_within_path`).
pub mod BoundReports
pub mod Entering
pub mod HeldRuns
pub mod HeldSteps
pub mod HopsUp
pub mod ModulesNear
pub mod PortDelays
pub mod PortErrors
pub mod TrackedHops
