pub mod Fronts
pub mod Accs
