-- Bytes written inside a list, as `reach` proves it.
-- Assumes nothing.
pub use Rattle.reach.proofs.Bytes.{length_part, length_put, put_inside, part_before, part_behind, part_same, byte_before, byte_within, byte_behind}
