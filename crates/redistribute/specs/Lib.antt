pub mod StartData
pub mod Snapshots
pub mod Parts
pub mod Begins
pub mod Stopping
pub mod Laws
