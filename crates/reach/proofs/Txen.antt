-- TXEN of the queue's control word is 1, whatever happens: no exchange writes the control word of a FIFO 0.
-- Assumes nothing.
use Prim.Native.Nat.{ℕ, zero, suc, ◌-◌, ◌/◌, ◌%◌, ◌^◌, ◌≤◌}
use mathlib.Core.Path.{◌≡◌, refl, sym, ap, subst, ◌∙◌}
use mathlib.Core.Bool.{◌&&◌}
use mathlib.Core.List.{List, [], ◌∷◌}
use native.Mathlib.Omega.{arith}
use borrow.Author.Tests.{ltb-false}
use lib.Dec.{ltb, eqb}
use lib.ListN.{length, get_or}
use lib.Seq.{get_or-set_other}
use Rattle.std.specs.Prelude.{Option, Some, None}
use Rattle.laws.proofs.Choice.{by_if}
use Rattle.field.specs.Field.{read, flag, write}
use Rattle.field.proofs.Laws.{read_write}
use Rattle.words.specs.Words.{le_at}
use Rattle.fifo.specs.Control.{TXEN, is_fifo}
use Rattle.fifo.specs.Status.{RXOVIF}
use Rattle.header.specs.declared.Header.{Header}
use Rattle.spi.specs.Instruction.{code_of}
use Rattle.spi.specs.declared.instruction.OpCode.{OpCode}
use Rattle.place.specs.declared.Register.{Register}
use Rattle.place.specs.Place.{of_fifo, of_filter, single, register_at}
use Rattle.operation.specs.declared.operation.Operation.{Operation}
use Rattle.operation.specs.Operation.{in_ram, opcode, address, at, read_at, write_at, checked_at, reset_at, asked}
use Rattle.ring.specs.Ring.{fresh}
use Rattle.ring.specs.Registers.{control}
use Rattle.ring.proofs.Laws.{frozen_kept}
use Rattle.state.specs.declared.Model.{Model}
use Rattle.state.specs.Model.{reset, frozen_at}
use Rattle.bank.specs.Registers.{word_of, control_written, status_written, queue_written, register_written}
use Rattle.bank.proofs.Laws.{con_fixed}
use Rattle.model.specs.Exchange.{performed, exchange}
use Rattle.bus.specs.Bus.{sends, send_model, give}
use Rattle.bus.specs.Queue.{queue_sends, queue_model}
use Rattle.bus.specs.Sort.{filter_for, target_for}
use Rattle.bus.proofs.Arriving.{by_deliver, by_give}
use Rattle.bus.proofs.Sorts.{by_sort}
use Rattle.reach.specs.Bus.{Bus, Send, SendQueue, Deliver, Sort, stepped}
use Rattle.reach.specs.Reach.{Happening, Exchange, On, happens, lived}
use Rattle.reach.specs.Chip.{QueueTxenReads}
use Rattle.reach.proofs.Kept.{at_set}

-- ---- no register is FIFO 0's

abbrev Numbered : Register → Type 0
Numbered Register.Con = Unit {0}
Numbered Register.Osc = Unit {0}
Numbered (Register.Plain k) = Unit {0}
Numbered (Register.Filter k) = Unit {0}
Numbered (Register.Object k) = Unit {0}
Numbered (Register.Mask k) = Unit {0}
Numbered (Register.Control n) = 1 ≤ n
Numbered (Register.Status n) = Unit {0}
Numbered (Register.Address n) = Unit {0}
Numbered Register.QueueControl = Unit {0}
Numbered Register.QueueStatus = Unit {0}
Numbered Register.QueueAddress = Unit {0}

abbrev Known : Option Register → Type 0
Known (Some r) = Numbered r
Known None = Unit {0}

single_known : (a : ℕ) → Known (single a)
unfolding single
single_known a =
    by_if Known (eqb a 0x000) (λ e. tt)
    (λ e. by_if Known (eqb a 0x004) (λ e. tt)
    (λ e. by_if Known (eqb a 0x008) (λ e. tt)
    (λ e. by_if Known (eqb a 0x00C) (λ e. tt)
    (λ e. by_if Known (eqb a 0x014) (λ e. tt)
    (λ e. by_if Known (eqb a 0x01C) (λ e. tt)
    (λ e. by_if Known (eqb a 0x050) (λ e. tt)
    (λ e. by_if Known (eqb a 0x054) (λ e. tt)
    (λ e. by_if Known (eqb a 0x058) (λ e. tt)
    (λ e. by_if Known (eqb a 0xE00) (λ e. tt) (λ e. by_if Known (eqb a 0xE04) (λ e. tt) (λ e. tt)))))))))))

fifo_known : (n word : ℕ) → 1 ≤ n → Numbered (of_fifo n word)
fifo_known n zero h = h
fifo_known n (suc zero) h = tt
fifo_known n (suc (suc k)) h = tt

filter_known : (m word : ℕ) → Numbered (of_filter m word)
filter_known m zero = tt
filter_known m (suc k) = tt

known : (a : ℕ) → Known (register_at a)
unfolding register_at
known a =
    by_if Known (ltb 0 (a % 4)) (λ e. tt)
    (λ e. by_if Known (ltb a 0x05C) (λ f. single_known a)
    (λ f. by_if Known (ltb a 0x1D0) (λ g. fifo_known ((a - 0x050) / 12) ((a - 0x050) % 12 / 4) (omega (arith, ltb-false a 0x05C f)))
    (λ g. by_if Known (ltb a 0x1F0) (λ h. tt) (λ h. by_if Known (ltb a 0x2F0) (λ i. filter_known ((a - 0x1F0) / 8) ((a - 0x1F0) % 8 / 4)) (λ i. single_known a)))))

-- an operation writes no control word of FIFO 0
abbrev Fair : Operation → Type 0
Fair (Operation.Write r w) = Numbered r
Fair (Operation.Read r) = Unit {0}
Fair (Operation.Checked r) = Unit {0}
Fair (Operation.ReadRam a) = Unit {0}
Fair (Operation.WriteRam a) = Unit {0}
Fair Operation.Reset = Unit {0}
Fair Operation.None = Unit {0}

at_fair : (p : Option Register) (f : Register → Operation) → Known p → ((r : Register) → Numbered r → Fair (f r)) → Fair (at p f)
at_fair (Some r) f k h = h r k
at_fair None f k h = tt

asked_fair : (s : List ℕ) (want : ℕ) → Fair (asked s want)
unfolding asked read_at write_at checked_at reset_at
asked_fair s want =
    let a : ℕ = address s in
    by_if Fair (ltb (length s) 2) (λ e. tt)
    (λ e. by_if Fair (eqb (opcode s) (code_of OpCode.Read))
    (λ o. by_if Fair (eqb (length s) 2)
    (λ l. by_if Fair (in_ram a want) (λ i. tt) (λ i. by_if Fair (eqb want 4) (λ f. at_fair (register_at a) Operation.Read (known a) (λ r k. tt)) (λ f. tt))) (λ l. tt))
    (λ o. by_if Fair (eqb (opcode s) (code_of OpCode.Write))
    (λ p. by_if Fair (eqb want 0)
    (λ z. by_if Fair (in_ram a (length s - 2)) (λ i. tt) (λ i. by_if Fair (eqb (length s) 6) (λ f. at_fair (register_at a) (λ r. Operation.Write r (le_at s 2)) (known a) (λ r k. k)) (λ f. tt)))
    (λ z. tt))
    (λ p. by_if Fair (eqb (opcode s) (code_of OpCode.ReadCrc))
    (λ q. by_if Fair (eqb (length s) 3 && eqb (get_or s 2 0) 4 && eqb want 6) (λ f. at_fair (register_at a) Operation.Checked (known a) (λ r k. tt)) (λ f. tt))
    (λ q. by_if Fair (eqb (opcode s) (code_of OpCode.Reset))
    (λ x. by_if Fair (eqb a 0 && eqb (length s) 2 && eqb want 0) (λ f. tt) (λ f. tt)) (λ x. tt)))))

-- ---- what happens keeps it

abbrev Sends : Model → Type 0
Sends m = read TXEN (frozen_at m 0) ≡ 1

module _ (m : Model) (h : Sends m) where
  register_sends : (r : Register) → Numbered r → (w : ℕ) → Sends (register_written m r w).model
  unfolding register_written control_written status_written queue_written
  register_sends Register.Con k w = ap (λ (l : List ℕ). read TXEN (get_or l 0 0)) (con_fixed m w).0 ∙ h
  register_sends Register.Osc k w = h
  register_sends (Register.Plain n) k w = h
  register_sends (Register.Filter n) k w = h
  register_sends (Register.Object n) k w = h
  register_sends (Register.Mask n) k w = h
  register_sends (Register.Control n) k w =
      by_if Sends m.fixed.configuring
      (λ c. ap (read TXEN) (get_or-set_other m.fixed.frozen n 0 w 0 (λ e. omega arith)) ∙ h) (λ c. h)
  register_sends (Register.Status n) k w = by_if Sends (flag RXOVIF w) (λ e. h) (λ e. h)
  register_sends (Register.Address n) k w = h
  register_sends Register.QueueControl k w =
      by_if Sends m.fixed.configuring
      (λ c. at_set (λ i x. i ≡ 0 → read TXEN x ≡ 1) m.fixed.frozen 0 (write TXEN 1 w) 0 (λ e. read_write TXEN 1 w (omega arith)) (λ i e. ap (λ (n : ℕ). read TXEN (get_or m.fixed.frozen n 0)) e ∙ h) 0 refl)
      (λ c. h)
  register_sends Register.QueueStatus k w = h
  register_sends Register.QueueAddress k w = h

  performed_sends : (o : Operation) → Fair o → (s : List ℕ) (want : ℕ) → Sends (performed o s want m).model
  unfolding performed reset
  performed_sends Operation.Reset f s want = refl
  performed_sends (Operation.Read r) f s want = h
  performed_sends (Operation.Checked r) f s want = h
  performed_sends (Operation.Write r w) f s want = register_sends r f w
  performed_sends (Operation.ReadRam a) f s want = h
  performed_sends (Operation.WriteRam a) f s want = h
  performed_sends Operation.None f s want = h

  give_sends : (n hit d : ℕ) (header : Header) (time : ℕ) (payload : List ℕ) → Sends (give m n hit d header time payload).model
  give_sends n hit d header time payload =
      by_give m n header d time payload (λ x. Sends x.model) hit (λ a. h) (λ a b. h) (λ a b c. h) (λ a b c f. h) (λ a b c f. h)

  bus_sends : (b : Bus) → Sends (stepped b m)
  unfolding stepped send_model queue_model
  bus_sends (Send n) = by_if Sends (is_fifo n && sends m n) (λ e. h) (λ e. h)
  bus_sends SendQueue = by_if Sends (queue_sends m) (λ e. h) (λ e. h)
  bus_sends (Deliver n header dlc time payload) =
      by_deliver m n header dlc (time % 2 ^ 32) payload (λ x. Sends x.model) (λ i. h) (λ i t. h) (λ i t d. h)
      (λ i t e w. give_sends n 0 dlc header (time % 2 ^ 32) payload)
  bus_sends (Sort header dlc time payload) =
      by_sort m header dlc (time % 2 ^ 32) payload (λ x. Sends x.model) (λ t. h) (λ t e. h) (λ t e z. h) (λ t e z g. h)
      (λ t e z g w. give_sends (target_for m (filter_for m header)) (filter_for m header) dlc header (time % 2 ^ 32) payload)

  happens_sends : (x : Happening) → Sends (happens x m)
  unfolding exchange
  happens_sends (Exchange s want) = performed_sends (asked s want) (asked_fair s want) s want
  happens_sends (On b) = bus_sends b

lived_sends : (xs : List Happening) (m : Model) → Sends m → Sends (lived xs m)
unfolding lived
lived_sends [] m h = h
lived_sends (x ∷ xs) m h = lived_sends xs (happens x m) (happens_sends m h x)

pub queue_txen_reads_lem : QueueTxenReads
unfolding word_of control fresh reset
queue_txen_reads_lem m r =
    (frozen_kept (frozen_at m 0) (fresh m.queue.control)).1.0 ∙ subst Sends (sym r.is) (lived_sends r.since (reset r.ram) refl)
