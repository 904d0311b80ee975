pub mod Files
pub mod SideClocks
