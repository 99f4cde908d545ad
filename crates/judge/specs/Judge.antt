-- Where a transcript's reader stands.
-- Assumes nothing.
use Rattle.std.specs.Prelude.{◌≡◌, Bool, true, false, replicate, Result, Ok, Err, None}
use Rattle.items.specs.declared.Item.{Item}
use Rattle.spoken.specs.declared.Fault.{Fault}
use Rattle.judge.specs.declared.Phase.TheVariants.{Idle}
use Rattle.judge.specs.declared.Judge.{Judge}

-- whether a line ends the case before it
abbrev pub is_end : Result Item Fault → Bool
is_end (Ok Item.Blank) = true
is_end (Ok Item.Call) = true
is_end (Ok Item.Field) = true
is_end (Ok Item.Crc) = true
is_end (Ok _) = false
is_end (Err _) = false

-- the lines' numbers, what is seen of the case and what came last are as they were
abbrev pub Keeps : Judge → Judge → Type 0
Keeps a b = (b.number ≡ a.number) × (b.start ≡ a.start) × (b.seen ≡ a.seen) × (b.class ≡ a.class) × (b.got ≡ a.got)

-- and where the reader stands in the case
abbrev pub Stands : Judge → Judge → Type 0
Stands a b = Keeps a b × (b.phase ≡ a.phase) × (b.differs ≡ a.differs)

-- no case is open
abbrev pub IsIdle : Judge → Type 0
IsIdle a = (a.phase ≡ Idle) × (a.differs ≡ None)

-- no line is read, and no case counted
abbrev pub Fresh : Judge → Type 0
Fresh a = (a.number ≡ 0) × (a.start ≡ 0) × (a.got ≡ 0) × (a.class ≡ None) × (a.counts ≡ record { agree = 0; outside = replicate 7 0; differ = 0 })
