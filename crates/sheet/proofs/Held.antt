-- What a sheet's walk needs of the areas of a reached state.
pub use Rattle.beginning.proofs.Held.{held_runs, reaches_rising}
