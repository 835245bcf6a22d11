-- The delay pair that a slave's exchange keeps in a chain. DelayEvents, DelayCalls, DelaySamples and DelayOpen say what
-- the exchange was given and keeps; DelayResponses, DelayPutOut and DelayWire what a Delay_Resp is and carries;
-- DelayNewest, DelayDepartures and DelayPieces that what departs or is answered with its sequenceId is the newest
-- Delay_Req. DelayAnswers and DelayRuns show that the pair gives the chain's constant and both ways (`delays_tell`),
-- and OneRequest that all that may still come with its sequenceId is of the newest Delay_Req
-- (`pieces_are_of_one_message`).
pub mod DelayAnswers
pub mod DelayCalls
pub mod DelayDepartures
pub mod DelayEvents
pub mod DelayNewest
pub mod DelayOpen
pub mod DelayPieces
pub mod DelayPutOut
pub mod DelayResponses
pub mod DelayRuns
pub mod DelaySamples
pub mod DelayWire
pub mod OneRequest
