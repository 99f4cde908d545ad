-- Every law of the driver's exchanges is proved.
-- Assumes nothing.
use Rattle.operation.specs.Laws.{Laws}
use Rattle.operation.proofs.Laws.{asks_read_lem, asks_checked_lem, asks_word_lem, writes_word_lem, asks_body_lem, asks_reset_lem}
use Rattle.operation.proofs.Sizes.{sizes}

pub laws : Laws
laws = record {
  asks_read = asks_read_lem;
  asks_checked = asks_checked_lem;
  asks_word = asks_word_lem;
  writes_word = writes_word_lem;
  asks_body = asks_body_lem;
  asks_reset = asks_reset_lem;
  sizes = sizes;
}
