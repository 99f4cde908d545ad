-- The plain numbers of has-next, peek and get as the place of which the definitions speak.
-- Assumes nothing.
use Rattle.std.specs.Prelude.{ℕ, ◌≡◌, Bool, true, false, if◌then◌else◌, Option, Some, None, Result, Ok, Err}
use Rattle.field.specs.Field.{read}
use Rattle.header.specs.Header.{DLC, FILHIT, header_of}
use Rattle.spi.specs.declared.refusal.Refusal.{Refusal}
use Rattle.call.specs.declared.Found.{Found}
use Rattle.fetch.specs.declared.Want.{Want}
use Rattle.fetch.specs.FetchAt.{FetchAt}
use Rattle.fetch.specs.declared.FetchStage.{FetchStage}
use Rattle.fetch.specs.declared.FetchNumbers.{FetchNumbers}

abbrev pub stamp_in : FetchNumbers → Option ℕ
stamp_in c = if c.stamped then Some c.t else None

-- what the numbers say of the message
abbrev pub found_in : FetchNumbers → Found
found_in c = record { header = header_of c.a c.b; dlc = read DLC c.b; filter = read FILHIT c.b; stamp = stamp_in c; len = c.len }

abbrev pub place_at : FetchStage → FetchNumbers → FetchAt
place_at FetchStage.Control c = FetchAt.Control
place_at FetchStage.Status c = FetchAt.Status
place_at FetchStage.Address c = FetchAt.Address
place_at FetchStage.Header c = FetchAt.Header c.m
place_at FetchStage.Again c = FetchAt.Again c.m (found_in c)
place_at FetchStage.Time c = FetchAt.Time c.m (found_in c)
place_at FetchStage.Body c = FetchAt.Body c.m (found_in c)
place_at FetchStage.Next c = FetchAt.Next (found_in c)
place_at FetchStage.Commit c = FetchAt.Commit c.w (found_in c)
place_at FetchStage.Done c = FetchAt.Done (found_in c)
place_at FetchStage.Empty c = FetchAt.Empty
place_at FetchStage.Yes c = FetchAt.Told true
place_at FetchStage.No c = FetchAt.Told false
place_at FetchStage.Refused c = FetchAt.Refused c.why

-- where the call stands
abbrev pub fetch_at : FetchNumbers → FetchAt
fetch_at c = place_at c.stage c

-- the FIFO, what is wanted of it, and where the call stands
abbrev pub standing : FetchNumbers → ℕ × Want × FetchAt
standing c = (c.fifo, c.want, fetch_at c)

-- ---- numbers made of others

-- before the first exchange
abbrev pub started : Want → ℕ → FetchNumbers
started want fifo = record { stage = FetchStage.Control; want = want; fifo = fifo; stamped = false; len = 0; m = 0; w = 0; a = 0; b = 0; t = 0; why = Refusal.WrongAnswer }

-- the same numbers at another stage
abbrev pub moved_to : FetchNumbers → FetchStage → Refusal → FetchNumbers
moved_to c stage why = record c { stage = stage; why = why }

-- where the status word leads
abbrev pub stage_by : Want → (next : Bool) → FetchStage
stage_by Want.HasNext next = if next then FetchStage.Yes else FetchStage.No
stage_by Want.Peek next = if next then FetchStage.Address else FetchStage.Empty
stage_by Want.Get next = if next then FetchStage.Address else FetchStage.Empty

-- after a transition: other numbers, or a refusal
abbrev pub gone : FetchNumbers → Result FetchNumbers Refusal → ℕ × Want × FetchAt
gone c (Ok n) = standing n
gone c (Err why) = (c.fifo, c.want, FetchAt.Refused why)

-- the FIFO and what is wanted of it stay, and the call goes on to this place
abbrev pub Goes : FetchNumbers → Result FetchNumbers Refusal → FetchAt → Type 0
Goes c r at = gone c r ≡ (c.fifo, c.want, at)
