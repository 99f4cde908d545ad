-- The changes that configure a FIFO, the transmit queue and a filter. `To`: the change of the same fields to bits of a word, which is what
-- a plan keeps of a change.
-- Assumes nothing.
use Rattle.std.specs.Prelude.{ℕ, ◌/◌, ◌%◌, Bool, true, false, not, ◌&&◌, List, [], ◌∷◌, ltb, leb, if◌then◌else◌, Option, Some, None, Result, Ok, Err}
use Rattle.field.specs.Field.{digit}
use Rattle.field.specs.Settings.{Setting, ◌:=◌}
use Rattle.configuration.specs.CanControl.{CiCON, TXQEN}
use Rattle.fifo.specs.Control.{CiFIFOCON, TFNRFNIE, TFHRFHIE, TFERFFIE, RXOVIE, TXATIE, RXTSEN, RTREN, TXEN, TXPRI, TXAT, FSIZE, PLSIZE, stored_size, is_fifo}
use Rattle.fifo.specs.TxQueueControl.{CiTXQCON, TXQNIE, TXQEIE}
use Rattle.filter.specs.Control.{CiFLTCON, FBP, FLTEN}
use Rattle.filter.specs.Object.{CiFLTOBJ, SID, EID, EXIDE}
use Rattle.filter.specs.Mask.{CiMASK, MSID, MEID, MIDE}
use Rattle.header.specs.Header.{top_id, sid_of, eid_of}
use Rattle.spi.specs.declared.refusal.Refusal.{Refusal}
use Rattle.plan.specs.declared.change.Change.{Change}
use Rattle.plan.specs.Change.{change_of, change_to}
use Rattle.areas.specs.declared.settings.TxFifo.{TxFifo}
use Rattle.areas.specs.declared.settings.FifoMode.{FifoMode}
use Rattle.areas.specs.declared.settings.FifoConfiguration.{FifoConfiguration}
use Rattle.areas.specs.declared.settings.TxQueueConfiguration.{TxQueueConfiguration}
use Rattle.areas.specs.declared.settings.Identifier.{Identifier}
use Rattle.areas.specs.declared.settings.FilterMode.{FilterMode}
use Rattle.areas.specs.declared.settings.FilterConfiguration.{FilterConfiguration}
use Rattle.changes.specs.Changes.{fits}

-- ---- a FIFO: size and payload, then the fields of its direction; those of the other direction stay as read

abbrev pub direction_settings : FifoMode → List Setting
direction_settings (FifoMode.Transmit t) =
    TXEN := 1 ∷ TXPRI := t.txpri ∷ TXAT := t.txat ∷ RTREN := digit t.rtren ∷ TXATIE := digit t.txatie
    ∷ TFERFFIE := digit t.empty ∷ TFHRFHIE := digit t.half ∷ TFNRFNIE := digit t.notfull ∷ []
direction_settings (FifoMode.Receive r) =
    TXEN := 0 ∷ RXTSEN := digit r.rxtsen ∷ RXOVIE := digit r.rxovie
    ∷ TFERFFIE := digit r.full ∷ TFHRFHIE := digit r.half ∷ TFNRFNIE := digit r.notempty ∷ []

abbrev pub fifo_settings : FifoConfiguration → List Setting
fifo_settings c = FSIZE := stored_size c.size ∷ PLSIZE := c.plsize ∷ direction_settings c.mode

abbrev pub fifo_change : ℕ → FifoConfiguration → Change
fifo_change n c = change_of (CiFIFOCON.address n) (fifo_settings c)

-- what is refused 24: size 0, or a field wider than its bits
abbrev pub direction_fits : FifoMode → Bool
direction_fits (FifoMode.Transmit t) = fits TXPRI t.txpri && fits TXAT t.txat
direction_fits (FifoMode.Receive r) = true

unfoldable pub fifo_fits : FifoConfiguration → Bool
fifo_fits c = leb 1 c.size && (fits PLSIZE c.plsize && direction_fits c.mode)

-- ---- the transmit queue: TXQEN of CiCON, and, where it is on, the queue's control

abbrev pub enable_settings : Bool → List Setting
enable_settings on = TXQEN := digit on ∷ []

abbrev pub enable_change : Bool → Change
enable_change on = change_of (CiCON.address 0) (enable_settings on)

abbrev pub queue_settings : TxQueueConfiguration → List Setting
queue_settings c =
    TXAT := c.txat ∷ TXPRI := c.txpri ∷ FSIZE := stored_size c.size ∷ PLSIZE := c.plsize
    ∷ TXATIE := digit c.txatie ∷ TXQEIE := digit c.empty ∷ TXQNIE := digit c.notfull ∷ []

abbrev pub queue_change : TxQueueConfiguration → Change
queue_change c = change_of (CiTXQCON.address 0) (queue_settings c)

abbrev pub queue_to : ℕ → Change
queue_to bits = change_to (CiTXQCON.address 0) (TXAT ∷ TXPRI ∷ FSIZE ∷ PLSIZE ∷ TXATIE ∷ TXQEIE ∷ TXQNIE ∷ []) bits

-- a FIFO that sends with the queue's settings
abbrev pub as_tx : TxQueueConfiguration → TxFifo
as_tx c = record { txpri = c.txpri; txat = c.txat; rtren = false; txatie = c.txatie; empty = c.empty; half = false; notfull = c.notfull }

abbrev pub as_fifo : TxQueueConfiguration → FifoConfiguration
as_fifo c = record { size = c.size; plsize = c.plsize; mode = FifoMode.Transmit (as_tx c) }

-- what is refused 24: size 0, or a field wider than its bits
unfoldable pub queue_fits : TxQueueConfiguration → Bool
queue_fits c = leb 1 c.size && (fits PLSIZE c.plsize && (fits TXPRI c.txpri && fits TXAT c.txat))

abbrev pub setting_fits : Option TxQueueConfiguration → Bool
setting_fits None = true
setting_fits (Some c) = queue_fits c

-- ---- a filter: disabled, object, mask, then target and enabled

abbrev pub off_settings : ℕ → List Setting
off_settings f = FLTEN (f % 4) := 0 ∷ []

abbrev pub off_change : ℕ → Change
off_change f = change_of (CiFLTCON.address (f / 4)) (off_settings f)

abbrev pub on_settings : (f fifo : ℕ) → List Setting
on_settings f fifo = FBP (f % 4) := fifo ∷ FLTEN (f % 4) := 1 ∷ []

abbrev pub on_change : (f fifo : ℕ) → Change
on_change f fifo = change_of (CiFLTCON.address (f / 4)) (on_settings f fifo)

abbrev pub on_to : (f bits : ℕ) → Change
on_to f bits = change_to (CiFLTCON.address (f / 4)) (FBP (f % 4) ∷ FLTEN (f % 4) ∷ []) bits

-- whether a filter takes extended frames only, and whether it looks at the kind of frame
abbrev pub extended_only : FilterMode → Bool
extended_only FilterMode.Standard = false
extended_only FilterMode.Extended = true
extended_only FilterMode.Both = false

abbrev pub one_kind : FilterMode → Bool
one_kind FilterMode.Standard = true
one_kind FilterMode.Extended = true
one_kind FilterMode.Both = false

abbrev pub object_settings : Identifier → FilterMode → List Setting
object_settings i mode = SID := sid_of i.extended i.id ∷ EID := eid_of i.extended i.id ∷ EXIDE := digit (extended_only mode) ∷ []

abbrev pub object_change : ℕ → Identifier → FilterMode → Change
object_change f i mode = change_of (CiFLTOBJ.address f) (object_settings i mode)

abbrev pub object_to : (f bits : ℕ) → Change
object_to f bits = change_to (CiFLTOBJ.address f) (SID ∷ EID ∷ EXIDE ∷ []) bits

abbrev pub mask_settings : Identifier → FilterMode → List Setting
mask_settings i mode = MSID := sid_of i.extended i.id ∷ MEID := eid_of i.extended i.id ∷ MIDE := digit (one_kind mode) ∷ []

abbrev pub mask_change : ℕ → Identifier → FilterMode → Change
mask_change f i mode = change_of (CiMASK.address f) (mask_settings i mode)

abbrev pub mask_to : (f bits : ℕ) → Change
mask_to f bits = change_to (CiMASK.address f) (MSID ∷ MEID ∷ MIDE ∷ []) bits

-- an identifier that there is
abbrev pub is_identifier : Identifier → Bool
is_identifier i = leb i.id (top_id i.extended)

-- filters are numbered from 0 to 31
abbrev pub is_filter : ℕ → Bool
is_filter f = ltb f 32

-- 20 for the filter's number and its target, then 21 for both identifiers
unfoldable pub filter_check : ℕ → FilterConfiguration → Result (Unit {0}) Refusal
filter_check f c =
    if not (is_filter f && is_fifo c.fifo) then Err Refusal.BadNumber
    else if not (is_identifier c.object && is_identifier c.mask) then Err Refusal.BadIdentifier
    else Ok tt
