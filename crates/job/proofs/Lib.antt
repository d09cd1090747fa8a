pub mod Facts
pub mod LegAnswers
mod StartAnswers
mod LegEnds
mod RunAnswers
mod CutAnswers
mod TextAnswers
mod ShowAnswers
mod Written
mod ChosenTexts
