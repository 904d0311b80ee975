mod Begins
mod Joins
mod PairSteps
mod Places
mod RingSteps
mod Seats
