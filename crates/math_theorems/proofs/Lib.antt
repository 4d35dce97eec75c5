pub mod LinearLaws
pub mod ValueLaws
pub mod SquareLaws
pub mod StandardLaws
pub mod ExampleLaws
pub mod Three
