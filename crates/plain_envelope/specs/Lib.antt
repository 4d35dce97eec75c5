pub mod Listing
pub mod Straight
pub mod Laws
pub mod Products
pub mod ProductLaws
