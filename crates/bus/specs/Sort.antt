-- Document 02, request 1: a frame arrives, and the filters sort it.
-- Assumes nothing.
use Rattle.std.specs.Prelude.{ℕ, not, List, length, leb, eqb, if◌then◌else◌, Result, Ok, Err}
use Rattle.field.specs.Field.{read}
use Rattle.configuration.specs.CanControl.{DNCNT}
use Rattle.spi.specs.declared.refusal.Refusal.{Refusal}
use Rattle.header.specs.declared.Header.{Header}
use Rattle.header.specs.Header.{sid_of, eid_of}
use Rattle.message.specs.Message.{arrival_check}
use Rattle.filters.specs.Filters.{target_of, filter_count, filter_of}
use Rattle.state.specs.declared.Model.{Model}
use Rattle.bus.specs.declared.arrival.Undelivered.{Undelivered}
use Rattle.bus.specs.declared.arrival.Delivered.{Delivered}
use Rattle.bus.specs.declared.sorting.Sorted.{Sorted}
use Rattle.bus.specs.Bus.{give}

-- the lowest-numbered filter that matches a frame, 32 for none
abbrev pub filter_for : Model → Header → ℕ
filter_for m h = filter_of m.setup.filter m.setup.object m.setup.mask h.extended (sid_of h.extended h.id) (eid_of h.extended h.id)

-- the FIFO that filter f gives its frames to
abbrev pub target_for : Model → ℕ → ℕ
target_for m f = target_of m.setup.filter f

-- what was told of a frame that filter f took for FIFO n
abbrev pub by_filter : Delivered → (n f : ℕ) → Sorted
by_filter d n f = record { delivery = d.delivery; fifo = n; filter = f; model = d.model }

-- refused: there is no FIFO and no filter
abbrev pub unsorted : Refusal → Model → Sorted
unsorted r m = record { delivery = Err (Undelivered.Refused r); fifo = 0; filter = 0; model = m }

-- filter f took the frame: its target gets it, and no other filter is asked
abbrev pub taken_by : Model → (f dlc : ℕ) → Header → ℕ → List ℕ → Sorted
taken_by m f dlc header time payload = by_filter (give m (target_for m f) f dlc header time payload) (target_for m f) f

-- 31 where DNCNT is above 0, then 30 where no filter matches
abbrev pub filtered : Model → ℕ → Header → ℕ → List ℕ → Sorted
filtered m dlc header time payload =
    if not (eqb (read DNCNT m.setup.con) 0) then unsorted Refusal.DeviceNet m
    else if leb filter_count (filter_for m header) then unsorted Refusal.NoMatch m
    else taken_by m (filter_for m header) dlc header time payload

-- before these 21 and 22
abbrev pub sorted_by : Result (Unit {0}) Refusal → Model → Header → (dlc time : ℕ) → List ℕ → Sorted
sorted_by (Err r) m header dlc time payload = unsorted r m
sorted_by (Ok _) m header dlc time payload = filtered m dlc header time payload

-- a frame arrives
unfoldable pub sort_of : Model → Header → (dlc time : ℕ) → List ℕ → Sorted
sort_of m header dlc time payload = sorted_by (arrival_check header dlc (length payload)) m header dlc time payload
