pub mod LookSteps
pub mod LentLookSteps
pub mod Parts
pub mod Returned
pub mod Worlds
pub mod TransferSteps
