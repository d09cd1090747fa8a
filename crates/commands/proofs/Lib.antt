mod AsLeg
mod Plans
