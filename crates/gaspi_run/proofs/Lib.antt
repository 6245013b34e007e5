pub mod Active
mod Answering
pub mod Benched
pub mod BodyJoins
pub mod CallersEnd
pub mod CallsOfEvents
pub mod Ending
pub mod GoingOn
pub mod OneOfEach
pub mod OwnCalls
pub mod RanWorlds
pub mod RunLines
pub mod RunLooks
pub mod BodyRuns
pub mod SameCallers
pub mod WrittenJournals
