pub mod Marks
pub mod InputData
pub mod Watermarks
pub mod PlanRows
pub mod Late
pub mod Laws
