-- An exchange with the modelled chip.
-- Assumes nothing.
use Rattle.std.specs.Prelude.{ℕ, List, [], ◌++◌, length, drop, leb, if◌then◌else◌}
use Rattle.words.specs.Words.{le_bytes, be_bytes}
use Rattle.parts.specs.Parts.{part, put}
use Rattle.crc.specs.Crc.{crc_of}
use Rattle.operation.specs.declared.operation.Operation.{Operation}
use Rattle.operation.specs.Operation.{asked}
use Rattle.state.specs.declared.Model.{Model}
use Rattle.bank.specs.declared.writing.Written.{Written}
use Rattle.model.specs.declared.Heard.{Heard}
use Rattle.model.specs.declared.Exchanged.{Exchanged}
use Rattle.state.specs.Model.{reset, written}
use Rattle.bank.specs.Registers.{word_of, register_written}

-- how an exchange comes back: failed and nothing changed; done, with the bytes received; done with none received, leaving not granted (27)
pub data Reply : Type 0 where
  failed : Reply
  received : List ℕ → Reply
  no_layout : Reply

pub record Done : Type 0 where
  pub reply : Reply
  pub model : Model

abbrev pub done : Model → List ℕ → Done
done m bs = record { reply = received bs; model = m }

-- a word and the CRC of the bytes sent and of its own, high byte first
unfoldable pub checked_bytes : List ℕ → ℕ → List ℕ
checked_bytes s w = le_bytes w ++ be_bytes (crc_of (s ++ le_bytes w))

abbrev pub done_writing : Written → Done
done_writing x = record { reply = (if x.granted then received [] else no_layout); model = x.model }

-- an operation carried out
unfoldable pub performed : Operation → List ℕ → ℕ → Model → Done
performed Operation.Reset s want m = done (reset m.ram) []
performed (Operation.Read r) s want m = done m (le_bytes (word_of m r))
performed (Operation.Checked r) s want m = done m (checked_bytes s (word_of m r))
performed (Operation.Write r w) s want m = done_writing (register_written m r w)
performed (Operation.ReadRam a) s want m = done m (part m.ram a want)
performed (Operation.WriteRam a) s want m = done (written m a (drop 2 s)) []
performed Operation.None s want m = record { reply = failed; model = m }

-- an exchange: the bytes sent, how many are wanted
unfoldable pub exchange : List ℕ → ℕ → Model → Done
exchange s want m = performed (asked s want) s want m

-- ---- with a lent buffer for what is received

-- one in which the buffer is too short for the bytes wanted fails and is not carried out
unfoldable pub lent : List ℕ → List ℕ → ℕ → Model → Done
lent rx s want m = if leb want (length rx) then exchange s want m else record { reply = failed; model = m }

abbrev pub heard_as : Reply → Heard
heard_as failed = Heard.Failed
heard_as (received bs) = Heard.Received
heard_as no_layout = Heard.NoLayout

abbrev pub exchanged_as : Done → Exchanged
exchanged_as d = record { heard = heard_as d.reply; model = d.model }

-- the bytes received stand at the buffer's front, the rest stays
abbrev pub filled_by : Reply → List ℕ → List ℕ
filled_by failed rx = rx
filled_by (received bs) rx = put rx 0 bs
filled_by no_layout rx = rx
