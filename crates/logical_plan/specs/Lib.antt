pub mod PlanText
pub mod Requirements
pub mod Answer
pub mod FaultLine
pub mod Laws
