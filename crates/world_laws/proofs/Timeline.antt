-- The timed run of a script's session, and what came to a low side alone.
pub mod Alone
pub mod Carries
pub mod Cuts
pub mod Deeds
pub mod Highs
pub mod Looks
pub mod Lows
pub mod Removals
pub mod Restarts
pub mod Returns
pub mod Scripts
pub mod Sendings
pub mod Stands
pub mod Waits
pub mod Worlds
