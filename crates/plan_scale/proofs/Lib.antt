mod Named
mod TaskCount
mod Sound
mod EvenScale
