-- What is put out, departs, arrives and is handed over. PutOut and Sendings say what an event puts out, Deliveries how
-- old a frame that is handed over is, DepartedFrames and ArrivalStamps what stays of a frame and what its stamps give;
-- TimedQueues and TimedTicks order the messages whose sending is stamped, and InOrder all frames of one way
-- (`frames_keep_order`); StillToCome says which frames may still come.
pub mod ArrivalStamps
pub mod Deliveries
pub mod DepartedFrames
pub mod InOrder
pub mod PutOut
pub mod Sendings
pub mod StillToCome
pub mod TimedQueues
pub mod TimedTicks
