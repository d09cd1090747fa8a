pub mod Facts
mod Starts
mod Boundaries
mod Totals
mod Fits
mod Wide
mod LastStarts
mod KeyStarts
mod SliceAdds
mod SliceTotals
mod SpanFits
mod SpanAdds
mod SpanDrops
mod SpanTotals
