pub mod Commands
pub mod Found
pub mod Program
pub mod TableNames
pub mod TimeLists
