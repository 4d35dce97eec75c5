-- Where each part of a plain run fits, so does the whole.
pub use Rattle.plain_elimination.specs.Fitting.{DoesFit}
pub use Rattle.plain_elimination.proofs.Fitting.{then_fits, map_fits}
