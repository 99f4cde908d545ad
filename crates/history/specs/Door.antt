-- The calls of a history are those that the front door starts.
-- Assumes nothing.
use Rattle.std.specs.Prelude.{◌≡◌, length}
use Rattle.driver.specs.Calls.{Start, Plans, fifo_number, started as door_started}
use Rattle.history.specs.Command.{Look, Setting, Command, started}

-- the start of `driver` that a command is
abbrev pub look_at : Look → Start
look_at (Look.Register a) = Start.Read a
look_at (Look.Checked a) = Start.Checked a
look_at Look.OpMode = Start.OpMode
look_at (Look.Ram a place count buf) = Start.ReadRam a (length buf) place count
look_at (Look.Scrub place list rewrite) = Start.Scrub place list rewrite

abbrev pub setting_at : Setting → Plans
setting_at (Setting.Fifo n c) = Plans.Fifo n c
setting_at (Setting.Filter f c) = Plans.Filter f c
setting_at (Setting.FilterOff f) = Plans.FilterOff f
setting_at (Setting.Osc o) = Plans.Osc o
setting_at (Setting.Io c) = Plans.Io c
setting_at (Setting.BitTiming b) = Plans.BitTiming b
setting_at (Setting.TxQueue q) = Plans.Queue q

abbrev pub door_of : Command → Start
door_of (Command.Push n header seq payload) = Start.Push n header seq payload
door_of (Command.Transmit n header seq payload) = Start.Transmit n header seq payload
door_of (Command.QueuePush header seq payload) = Start.QueuePush header seq payload
door_of (Command.QueueUnchecked header seq payload) = Start.QueueUnchecked header seq payload
door_of Command.QueueRequest = Start.QueueRequest
door_of (Command.Request n) = Start.Request n
door_of (Command.HasNext n) = Start.HasNext n
door_of (Command.Peek n buf) = Start.Peek n (length buf)
door_of (Command.Get n buf) = Start.Get n (length buf)
door_of (Command.Reading x) = look_at x
door_of (Command.Configuring x) = Start.Planned (setting_at x)

-- a command as the driver keeps it: a FIFO's number that fits no byte is no FIFO's, like 0
abbrev pub kept : Command → Command
kept (Command.Push n header seq payload) = Command.Push (fifo_number n) header seq payload
kept (Command.Transmit n header seq payload) = Command.Transmit (fifo_number n) header seq payload
kept (Command.QueuePush header seq payload) = Command.QueuePush header seq payload
kept (Command.QueueUnchecked header seq payload) = Command.QueueUnchecked header seq payload
kept Command.QueueRequest = Command.QueueRequest
kept (Command.Request n) = Command.Request n
kept (Command.HasNext n) = Command.HasNext (fifo_number n)
kept (Command.Peek n buf) = Command.Peek (fifo_number n) buf
kept (Command.Get n buf) = Command.Get (fifo_number n) buf
kept (Command.Reading x) = Command.Reading x
kept (Command.Configuring x) = Command.Configuring x

-- what the front door starts is where the history's call begins
abbrev pub StartsAtDoor : Type 0
StartsAtDoor = (k : Command) → door_started (door_of k) ≡ started (kept k)
