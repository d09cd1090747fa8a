pub mod PlanRecord
pub mod Alike
pub mod Laws
