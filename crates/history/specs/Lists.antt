-- The lists of a history: from calls, bus steps and what they answered alone.
-- Assumes nothing.
use Rattle.std.specs.Prelude.{ℕ, List, [], ◌∷◌, ◌++◌, eqb, if◌then◌else◌, Result, Ok, Err}
use Rattle.message.specs.Message.{Message}
use Rattle.call.specs.declared.Outcome.{Outcome}
use Rattle.tx_fifo.specs.Step.{to_send}
use Rattle.rx_fifo.specs.Outcome.{message_of}
use Rattle.bus.specs.declared.arrival.Undelivered.{Undelivered}
use Rattle.bus.specs.Bus.{Output, frame, no_frame, nothing, refused}
use Rattle.history.specs.Command.{Command, Push, Transmit, QueuePush, QueueUnchecked, QueueRequest, Request, HasNext, Peek, Get, Reading, Configuring}
use Rattle.history.specs.History.{Said, called, left, left_queue, arrived}

-- one message, if it is FIFO n's
abbrev pub only : (n k : ℕ) → List Message → List Message
only n k ms = if eqb k n then ms else []

-- ---- accepted

abbrev pub done_with : Outcome → Message → List Message
done_with Outcome.Running m = []
done_with Outcome.Done m = m ∷ []
done_with (Outcome.Word w) m = []
done_with (Outcome.Checked w mismatches) m = []
done_with (Outcome.Mode x) m = []
done_with Outcome.Yes m = []
done_with Outcome.No m = []
done_with Outcome.Empty m = []
done_with (Outcome.Message f) m = []
done_with (Outcome.Scrubbed s) m = []
done_with (Outcome.Refused r) m = []

-- a push that is done
abbrev pub pushed : ℕ → Command → Outcome → List Message
pushed n (Push k header seq payload) o = only n k (done_with o (to_send header seq payload))
pushed n (Transmit k header seq payload) o = []
pushed n (QueuePush header seq payload) o = []
pushed n (QueueUnchecked header seq payload) o = []
pushed n QueueRequest o = []
pushed n (Request k) o = []
pushed n (HasNext k) o = []
pushed n (Peek k buf) o = []
pushed n (Get k buf) o = []
pushed n (Reading x) o = []
pushed n (Configuring x) o = []

-- a frame that was delivered
abbrev pub taken : Result (Unit {0}) Undelivered → Message → List Message
taken (Ok _) m = m ∷ []
taken (Err Undelivered.Configuration) m = []
taken (Err Undelivered.NotReceiving) m = []
taken (Err Undelivered.TooLong) m = []
taken (Err Undelivered.Full) m = []
taken (Err (Undelivered.Refused r)) m = []

abbrev pub accepted_in : ℕ → Said → List Message
accepted_in n (called k o buf) = pushed n k o
accepted_in n (left k o) = []
accepted_in n (left_queue o) = []
accepted_in n (arrived k m d) = only n k (taken d m)

-- the messages that FIFO n accepted
unfoldable pub accepted : ℕ → List Said → List Message
accepted n [] = []
accepted n (x ∷ t) = accepted_in n x ++ accepted n t

-- ---- handed out

-- the message that a get is done with: its payload is in the lent buffer
abbrev pub found_in : Outcome → List ℕ → List Message
found_in Outcome.Running buf = []
found_in Outcome.Done buf = []
found_in (Outcome.Word w) buf = []
found_in (Outcome.Checked w mismatches) buf = []
found_in (Outcome.Mode x) buf = []
found_in Outcome.Yes buf = []
found_in Outcome.No buf = []
found_in Outcome.Empty buf = []
found_in (Outcome.Message f) buf = message_of f buf ∷ []
found_in (Outcome.Scrubbed s) buf = []
found_in (Outcome.Refused r) buf = []

abbrev pub got : ℕ → Command → Outcome → List ℕ → List Message
got n (Push k header seq payload) o buf = []
got n (Transmit k header seq payload) o buf = []
got n (QueuePush header seq payload) o buf = []
got n (QueueUnchecked header seq payload) o buf = []
got n QueueRequest o buf = []
got n (Request k) o buf = []
got n (HasNext k) o buf = []
got n (Peek k lent) o buf = []
got n (Get k lent) o buf = only n k (found_in o buf)
got n (Reading x) o buf = []
got n (Configuring x) o buf = []

-- a frame that was sent
abbrev pub framed : Output → List Message
framed (frame m) = m ∷ []
framed no_frame = []
framed nothing = []
framed (refused r) = []

abbrev pub handed_out_in : ℕ → Said → List Message
handed_out_in n (called k o buf) = got n k o buf
handed_out_in n (left k o) = only n k (framed o)
handed_out_in n (left_queue o) = []
handed_out_in n (arrived k m d) = []

-- the messages that FIFO n handed out
unfoldable pub handed_out : ℕ → List Said → List Message
handed_out n [] = []
handed_out n (x ∷ t) = handed_out_in n x ++ handed_out n t

-- ---- the transmit queue's: document 02, request 6

-- a checked push that is done
abbrev pub queued : Command → Outcome → List Message
queued (Push n header seq payload) o = []
queued (Transmit n header seq payload) o = []
queued (QueuePush header seq payload) o = done_with o (to_send header seq payload)
queued (QueueUnchecked header seq payload) o = []
queued QueueRequest o = []
queued (Request n) o = []
queued (HasNext n) o = []
queued (Peek n buf) o = []
queued (Get n buf) o = []
queued (Reading x) o = []
queued (Configuring x) o = []

abbrev pub queued_in : Said → List Message
queued_in (called k o buf) = queued k o
queued_in (left n o) = []
queued_in (left_queue o) = []
queued_in (arrived n m d) = []

-- the messages that the queue accepted
unfoldable pub queue_accepted : List Said → List Message
queue_accepted [] = []
queue_accepted (x ∷ t) = queued_in x ++ queue_accepted t

-- a frame that it sent
abbrev pub queue_sent_in : Said → List Message
queue_sent_in (called k o buf) = []
queue_sent_in (left n o) = []
queue_sent_in (left_queue o) = framed o
queue_sent_in (arrived n m d) = []

-- the messages that it sent
unfoldable pub queue_sent : List Said → List Message
queue_sent [] = []
queue_sent (x ∷ t) = queue_sent_in x ++ queue_sent t
