-- The calls of a history are those that the front door starts.
-- Assumes nothing.
use mathlib.Core.Path.{◌≡◌, refl}
use Rattle.driver.specs.Calls.{started as door_started}
use Rattle.history.specs.Command.{Look, Setting, Command, looks, started}
use Rattle.history.specs.Door.{look_at, door_of, StartsAtDoor}

looks_at_door : (x : Look) → door_started (look_at x) ≡ looks x
looks_at_door (Look.Register a) = refl
looks_at_door (Look.Checked a) = refl
looks_at_door Look.OpMode = refl
looks_at_door (Look.Ram a place count buf) = refl
looks_at_door (Look.Scrub place list rewrite) = refl

sets_at_door : (x : Setting) → door_started (door_of (Command.Configuring x)) ≡ started (Command.Configuring x)
sets_at_door (Setting.Fifo n c) = refl
sets_at_door (Setting.Filter f c) = refl
sets_at_door (Setting.FilterOff f) = refl
sets_at_door (Setting.Osc o) = refl
sets_at_door (Setting.Io c) = refl
sets_at_door (Setting.BitTiming b) = refl
sets_at_door (Setting.TxQueue q) = refl

pub starts_at_door_lem : StartsAtDoor
starts_at_door_lem (Command.Push n header seq payload) = refl
starts_at_door_lem (Command.Transmit n header seq payload) = refl
starts_at_door_lem (Command.QueuePush header seq payload) = refl
starts_at_door_lem (Command.QueueUnchecked header seq payload) = refl
starts_at_door_lem Command.QueueRequest = refl
starts_at_door_lem (Command.Request n) = refl
starts_at_door_lem (Command.HasNext n) = refl
starts_at_door_lem (Command.Peek n buf) = refl
starts_at_door_lem (Command.Get n buf) = refl
starts_at_door_lem (Command.Reading x) = looks_at_door x
starts_at_door_lem (Command.Configuring x) = sets_at_door x
