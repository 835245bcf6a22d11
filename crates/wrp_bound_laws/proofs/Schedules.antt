-- A port that takes messages, and its sequenceIds. Resting counts its quiet time; OpenLinks and OpenPorts show that it was open for
-- two frame lives; ScheduleLinks, ScheduleTold, ScheduleCounts and ScheduleSince count its ticks and messages; IdsSent, IdsPutOut and
-- IdsAgain that a sequenceId comes again late (`one_timed_an_event`, `ids_come_again_late`).
pub mod IdsAgain
pub mod IdsPutOut
pub mod IdsSent
pub mod OpenLinks
pub mod OpenPorts
pub mod Resting
pub mod ScheduleCounts
pub mod ScheduleLinks
pub mod ScheduleSince
pub mod ScheduleTold
