mod IndexExact
mod Spelled
mod Fits
mod IndexSteps
mod ListSteps
mod FindSteps
mod Marks
mod Sure
mod Apart
mod Contents
mod Found
mod Said
pub mod Facts
