-- A caller goes on until its end.
pub mod Activity
pub mod Ends
