-- A chip as a history meets it: in order, and outside Configuration.
-- Assumes nothing.
pub use Rattle.reach.proofs.Sound.{Sound, Asked}
