-- What a message is written as, by document 01's number.
-- Assumes nothing.
use Rattle.std.specs.Prelude.{ℕ, List}
use Rattle.spi.specs.Refusals.{done_numbers}
use Rattle.message.specs.Message.{Encoding}
use Rattle.message.specs.Structs.{encoded_as}

-- of what the code answers for a message to write: nothing where all is well
abbrev pub encoding_numbers : Encoding → List ℕ
encoding_numbers e = done_numbers (encoded_as e).done
