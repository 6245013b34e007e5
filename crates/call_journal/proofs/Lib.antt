pub mod Begun
pub mod Callers
mod CalledLines
mod CallerTables
mod Calling
pub mod Counted
pub mod Counts
pub mod Explained
mod Following
pub mod LastWords
pub mod NumberRanges
pub mod OwnCalls
pub mod Places
pub mod Postings
pub mod Replays
pub mod RingCalls
pub mod RingEffects
pub mod RingHistories
pub mod RingLanes
pub mod RingMemories
pub mod RingOpening
pub mod RingState
pub mod RingTransfers
pub mod Rising
pub mod Rounds
pub mod Standing
pub mod Sums
pub mod Totals
pub mod Tracks
mod Transcribing
pub mod Transfers
