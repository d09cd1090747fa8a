pub mod Facts
mod Cuts
mod Snapshots
mod Due
mod Greatest
mod LateRecords
mod MadeMarks
