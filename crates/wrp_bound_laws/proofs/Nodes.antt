-- What one event, and one input, do to a node. Inputs says which steps of a node an event is; StepCalls, StepSends,
-- StepTold and StepLeases what a step adds to the servo's calls, to what is sent, to what a port is given, and to the
-- lease; FourSteps and TrackedSets what each of these keeps. All other folders rest on this one and on Runs.
pub mod FourSteps
pub mod Inputs
pub mod StepCalls
pub mod StepLeases
pub mod StepSends
pub mod StepTold
pub mod TrackedSets
