-- What the tests of a FIFO's and a filter's settings tell.
-- Assumes nothing.
use Prim.Native.Nat.{ℕ, ◌≤◌, ◌<◌}
use mathlib.Core.Path.{◌≡◌, refl}
use mathlib.Core.Bool.{Bool, true, false, not, ◌&&◌}
use native.Mathlib.Omega.{arith}
use lib.Dec.{leb}
use borrow.Author.Tests.{leb-true}
use Rattle.std.specs.Prelude.{if◌then◌else◌, Result, Ok, Err}
use Rattle.laws.proofs.Table.{both}
use Rattle.header.specs.Header.{top_id}
use Rattle.spi.specs.declared.refusal.Refusal.{Refusal}
use Rattle.field.specs.Field.{Fits}
use Rattle.fifo.specs.Control.{PLSIZE, TXPRI, TXAT, is_fifo}
use Rattle.changes.specs.Changes.{fits}
use Rattle.changes.proofs.Tests.{fits_told}
use Rattle.areas.specs.declared.settings.TxFifo.{TxFifo}
use Rattle.areas.specs.declared.settings.FifoMode.{FifoMode}
use Rattle.areas.specs.declared.settings.FifoConfiguration.{FifoConfiguration}
use Rattle.areas.specs.declared.settings.TxQueueConfiguration.{TxQueueConfiguration}
use Rattle.areas.specs.declared.settings.FilterConfiguration.{FilterConfiguration}
use Rattle.areas.specs.Areas.{direction_fits, fifo_fits, as_tx, as_fifo, queue_fits, is_identifier, is_filter, filter_check}

pub transmit_told : (t : TxFifo) → direction_fits (FifoMode.Transmit t) ≡ true → Fits TXPRI t.txpri × Fits TXAT t.txat
transmit_told t e = let (a, b) = both (fits TXPRI t.txpri) (fits TXAT t.txat) e in (fits_told TXPRI t.txpri a, fits_told TXAT t.txat b)

pub fifo_told : (c : FifoConfiguration) → fifo_fits c ≡ true → (1 ≤ c.size) × Fits PLSIZE c.plsize × (direction_fits c.mode ≡ true)
unfolding fifo_fits
fifo_told c e =
    let (a, r) = both (leb 1 c.size) (fits PLSIZE c.plsize && direction_fits c.mode) e in
    let (b, d) = both (fits PLSIZE c.plsize) (direction_fits c.mode) r in
    (leb-true 1 c.size a, fits_told PLSIZE c.plsize b, d)

-- the queue's are those of a FIFO that sends
pub queue_told : (c : TxQueueConfiguration) → queue_fits c ≡ true → (1 ≤ c.size) × Fits PLSIZE c.plsize × Fits TXPRI c.txpri × Fits TXAT c.txat
unfolding queue_fits fifo_fits
queue_told c e =
    let (a, b, d) = fifo_told (as_fifo c) e in
    let (p, q) = transmit_told (as_tx c) d in
    (a, b, p, q)

-- what a filter's configuration that is not refused has
pub filter_told_lem : (f : ℕ) (c : FilterConfiguration) → filter_check f c ≡ Ok tt
    → (c.object.id ≤ top_id c.object.extended) × (c.mask.id ≤ top_id c.mask.extended) × (c.fifo < 32)
unfolding filter_check is_fifo
filter_told_lem f c = go (is_filter f) (leb 1 c.fifo) (leb c.fifo 31) (is_identifier c.object) (is_identifier c.mask) refl refl refl
  where
    go : (a l u i j : Bool) → leb c.fifo 31 ≡ u → is_identifier c.object ≡ i → is_identifier c.mask ≡ j
        → ◌≡◌ {A = Result (Unit {0}) Refusal} (if not (a && (l && u)) then Err Refusal.BadNumber else if not (i && j) then Err Refusal.BadIdentifier else Ok tt) (Ok tt)
        → (c.object.id ≤ top_id c.object.extended) × (c.mask.id ≤ top_id c.mask.extended) × (c.fifo < 32)
    go true true true true true u i j e = (leb-true c.object.id (top_id c.object.extended) i, leb-true c.mask.id (top_id c.mask.extended) j, omega (arith, leb-true c.fifo 31 u))
    go true true true true false u i j e = cc
    go true true true false k u i j e = cc
    go true true false i' k u i j e = cc
    go true false l i' k u i j e = cc
    go false b l i' k u i j e = cc
