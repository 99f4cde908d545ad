-- The slots of a chip in order, as `reach` proves it.
-- Assumes nothing.
pub use Rattle.reach.proofs.Slots.{split, same?, fifo_told, SlotStays, slot_like, item_like, setup_held, ram_long, slot_inside, filled}
pub use Rattle.reach.proofs.Slots.{filled_part_lem, filled_held, filled_item, filled_sound, next_fifo, next_head, next_count, other_head}
pub use Rattle.reach.proofs.Slots.{other_count, next_asked, kept_head, kept_count, kept_held, more_held, less_count, less_slot, less_own}
pub use Rattle.reach.proofs.Slots.{less_held}
pub use Rattle.reach.proofs.Slots.{held_like, Apart, before, behind, frame}
