pub mod Facts
mod Aggs
mod Bags
mod Counts
mod PaneMaps
mod PaneTotals
mod Starts
mod UidField
mod WindowLaw
