-- The history that is written out, computed; its chip is one from which histories begin.
-- Assumes nothing.
use Prim.Native.Nat.{ℕ}
use mathlib.Core.Path.{refl}
use native.Mathlib.Omega.{arith}
use lib.Count.{count_trailing_zeros}
use lib.ListN.{replicate, length-replicate}
use Rattle.field.specs.Field.{with_field}
use Rattle.words.specs.Words.{le_bytes, be_bytes, le_at, be_at}
use Rattle.parts.specs.Parts.{part, put, zeroed}
use Rattle.fifo.specs.Control.{payload_of, is_fifo}
use Rattle.spi.specs.Instruction.{command_of}
use Rattle.spi.specs.Ram.{in_range}
use Rattle.spi.specs.Ask.{sent}
use Rattle.header.specs.Dlc.{length_of, received_length, dlc_of}
use Rattle.header.specs.Header.{word0, word1, received1, header_of}
use Rattle.message.specs.Object.{padded, object_bytes}
use Rattle.message.specs.Message.{check_of, encoding, arrival_check, arriving, message_in, length_in, decoding}
use Rattle.spi.specs.declared.refusal.Refusal.{Refusal}
use Rattle.call.specs.declared.Outcome.{Outcome}
use Rattle.plan.specs.Change.{modified}
use Rattle.plan.specs.Step as plan
use Rattle.tx_fifo.specs.Step as push
use Rattle.transmit.specs.Transmit.{request_start}
use Rattle.fetch.specs.Step as reads
use Rattle.rx_fifo.specs.Step as fetch
use Rattle.rx_fifo.specs.Outcome as found
use Rattle.driver.specs.Start.{of_plan, of_push, of_fetch}
use Rattle.driver.specs.Step.{ask_of, step_of, outcome_of, filled_by}
use Rattle.driver.specs.Send.{body_of}
use Rattle.filters.specs.Filters.{agrees, kind_agrees, id_agrees, matches, tests}
use Rattle.ring.specs.Ring as ring
use Rattle.ring.specs.Registers.{control, ready, edge, status}
use Rattle.ring.specs.Layout.{stamped, size, room, end, base, slot_at}
use Rattle.place.specs.Place.{register_at}
use Rattle.operation.specs.Operation.{in_ram, read_at, write_at, asked}
use Rattle.state.specs.Model.{reset}
use Rattle.bank.specs.Registers.{shown_at, word_of, granted, con_written, control_written, register_written}
use Rattle.model.specs.Exchange.{performed, exchange}
use Rattle.bus.specs.Held.{slot_of, item_at, row, held}
use Rattle.bus.specs.Bus.{sends, send_output, send_model, incoming, receives, appended, give}
use Rattle.bus.specs.Sort.{sort_of}
use Rattle.reach.specs.Bus.{stepped}
use Rattle.reach.specs.Reach.{lived}
use Rattle.history.specs.History.{answered, heard, settled, event, after}
use Rattle.history.specs.Example.{since₀, c₀, Begins, Sends, SendsNot}

pub begins : Begins
unfolding c₀ lived exchange performed sent command_of le_bytes be_bytes le_at be_at asked in_ram in_range write_at register_at register_written
    control_written granted reset end room size stamped ring.depth ring.sending payload_of
begins = record {
  reached = record { ram = replicate 2048 0; size = length-replicate {A = ℕ} 2048 0; since = since₀; is = refl };
  configuring = refl;
  asks = λ e. absurd (omega (arith, e));
  granted = refl;
}

-- with every exchange answered, and with one that failed
pub computed : Sends × SendsNot
unfolding c₀ lived exchange performed sent command_of le_bytes be_bytes le_at be_at asked in_ram in_range read_at write_at register_at
    register_written control_written granted with_field reset ring.configured ring.controlled end room size stamped ring.depth
    ring.sending payload_of base slot_at control ready edge status ring.place ring.shown ring.fresh ring.claimed ring.increased
    ring.commanded shown_at word_of con_written part put zeroed is_fifo length_of received_length dlc_of word0 word1 received1 header_of padded object_bytes check_of arrival_check
    arriving encoding message_in length_in decoding modified plan.arrived_at plan.step_of push.encoding_for push.start_of push.after_control push.after_status
    push.after_address push.step_of push.ask_of push.outcome_of request_start reads.after_control reads.after_status reads.after_address
    reads.after_header reads.to_time reads.to_body reads.after_again reads.after_time fetch.held_of fetch.step_of fetch.ask_of fetch.lent_at
    fetch.lent_start found.message_of found.outcome_of found.filled found.filled_by of_plan of_push of_fetch ask_of step_of outcome_of filled_by
    body_of slot_of item_at row held sends send_output send_model incoming receives appended give sort_of agrees kind_agrees id_agrees matches tests count_trailing_zeros stepped answered heard settled event after
computed = (refl, (Outcome.Refused Refusal.SpiWrite, refl, refl, refl))
