-- How walks are sought, which no public clause cites.
pub mod Arrivals
pub mod Search
pub mod Spots
pub mod StepSets
