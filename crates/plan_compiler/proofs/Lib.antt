mod Staged
mod Ranges
mod TaskPlaces
mod Chosen
