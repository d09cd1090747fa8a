mod Same
mod Cuts
mod Ends
mod Examples
