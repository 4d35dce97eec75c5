pub mod Small
pub mod Within
