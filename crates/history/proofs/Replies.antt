-- What the words that the modelled chip answers say, what a control word written back does, and where a call goes next.
-- Assumes nothing.
use mathlib.Core.Path.{◌≡◌, refl, sym, ap, ◌∙◌}
use mathlib.Core.Bool.{Bool, true, false}
use mathlib.Core.List.{List, [], ◌∷◌}
use Prim.Native.Nat.{ℕ, ◌+◌, ◌-◌, ◌*◌, ◌/◌, ◌%◌, ◌^◌, ◌≤◌, ◌<◌}
use native.Mathlib.Nat.{mod-lt, mod-eq_of_lt}
use native.Mathlib.Omega.{arith}
use borrow.Author.Tests.{leb-true, le-ltb}
use lib.Dec.{eqb, ltb, leb}
use lib.Pow.{pow_pos, field, mod-mod-pow}
use lib.ListN.{get_or}
use Rattle.std.specs.Prelude.{if◌then◌else◌, Ok}
use Rattle.field.specs.Field.{Field, place as at, read, flag, mark, digit, within}
use Rattle.field.specs.Settings.{◌:=◌, settings}
use Rattle.field.proofs.Laws.{set_lt, read_write, write_other, digit_lt, digit_back}
use Rattle.field.proofs.Sets.{off, own}
use Rattle.words.specs.Words.{byte_of, le_bytes, le_at}
use Rattle.words.proofs.Laws.{le_back, le_length}
use Rattle.fifo.specs.Control.{TXEN, RXTSEN, PLSIZE, UINC, TXREQ, FRESET, payloads, payload_of, is_fifo}
use Rattle.fifo.specs.Status.{TFNRFNIF, TFERFFIF, RXOVIF}
use Rattle.spi.specs.declared.refusal.Refusal.{Refusal}
use Rattle.spi.specs.declared.ask.Answer.{Answer}
use Rattle.spi.specs.Reply.{word_reply}
use Rattle.place.specs.declared.Register.{Register}
use Rattle.call.specs.declared.Found.{Found}
use Rattle.tx_fifo.specs.PushAt.{PushAt}
use Rattle.tx_fifo.specs.Step.{after_control, after_status, after_address, next_at}
use Rattle.fetch.specs.declared.Want.{Want}
use Rattle.fetch.specs.FetchAt.{FetchAt}
use Rattle.fetch.specs.Step.{by_status, after_control as fetched_control, after_status as fetched_status, after_address as fetched_address, next_at as fetch_at}
use Rattle.ring.specs.declared.ring.Fifo.{Fifo}
use Rattle.ring.specs.Ring.{sending, depth, shown, increased, controlled, commanded}
use Rattle.ring.specs.Registers.{ready, edge, status}
use Rattle.ring.specs.Layout.{stamped}
use Rattle.ring.proofs.Laws.{frozen_kept, control_off}
use Rattle.state.specs.declared.Model.{Model}
use Rattle.state.specs.Model.{fifo_at, frozen_at, with_fifo}
use Rattle.bank.specs.Registers.{shown_at, word_of, control_written}
use Rattle.bus.specs.Held.{slot_of}
use Rattle.history.proofs.Sound.{Sound}
use Rattle.history.proofs.Asks.{range_in}
use Rattle.tx_fifo.proofs.Runs.{fifo_sends}

-- ---- words on the line

-- a field whose bits are all sent reads as before
pub sent_field : (n : ℕ) (f : Field) (x : ℕ) → within n f ≡ true → read f (x % 2 ^ n) ≡ read f x
sent_field n (at p k) x e =
    let h = leb-true (p + k) n e in
    let q : n - p - k + k + p ≡ n = omega arith in
    ap (λ (m : ℕ). x % 2 ^ m / 2 ^ p % 2 ^ k) (sym q) ∙ ap (λ (y : ℕ). y % 2 ^ k) (field x (n - p - k + k) p) ∙ mod-mod-pow (x / 2 ^ p) (n - p - k) k

-- 4 bytes say what is in the word's lower 32 bits
pub le_said : (x : ℕ) → le_at (le_bytes x) 0 ≡ x % 2 ^ 32
unfolding le_bytes
le_said x =
    let f : (k : ℕ) → leb (8 * k + 8) 32 ≡ true → byte_of (x % 2 ^ 32) k ≡ byte_of x k = λ k e. sent_field 32 (at (8 * k) 8) x e in
    let e : le_bytes (x % 2 ^ 32) ≡ le_bytes x = λ i. f 0 refl i ∷ f 1 refl i ∷ f 2 refl i ∷ f 3 refl i ∷ [] in
    ap (λ (s : List ℕ). le_at s 0) (sym e) ∙ le_back (x % 2 ^ 32) [] (mod-lt x (pow_pos 32))

pub word_said : (r : Refusal) (x : ℕ) → word_reply r Answer.Exchanged (le_bytes x) ≡ Ok (x % 2 ^ 32)
word_said r x = rw (le_length x, le_said x)

pub mark_small : (v : ℕ) → v < 2 ^ 32 → mark UINC true v < 2 ^ 32
mark_small v h = set_lt 32 v 8 1 1 h (omega arith) (omega arith)

-- a truth value as a digit, and back
-- bit 0 of a status word
status_bit : (w : ℕ) (f : Fifo) → read TFNRFNIF (status w f) ≡ digit (ready w f)
unfolding status
status_bit w f =
    let over : Bool = if sending w then false else f.over in
    own (TFNRFNIF := digit (ready w f) ∷ TFERFFIF := digit (edge w f) ∷ RXOVIF := digit over ∷ []) 0 0 refl
    (digit_lt (ready w f), (digit_lt (edge w f), (digit_lt over, tt))) (omega arith)

-- ---- a control word written outside Configuration

-- the FIFO with the control word that is kept of w
abbrev kept : ℕ → Fifo → Fifo
kept w f = controlled (settings (UINC := 0 ∷ FRESET := 0 ∷ []) w) f

module _ (frozen w : ℕ) (f : Fifo) (calm : flag FRESET w ≡ false) where
  commanded_uinc : flag UINC w ≡ true → commanded frozen w f ≡ increased frozen (kept w f)
  unfolding commanded
  commanded_uinc u = rw (calm, u)

  commanded_plain : flag UINC w ≡ false → commanded frozen w f ≡ kept w f
  unfolding commanded
  commanded_plain u = rw (calm, u)

-- TXREQ is that of w
kept_asked : (w : ℕ) (f : Fifo) → read TXREQ (kept w f).control ≡ read TXREQ w
unfolding controlled
kept_asked w f = off TXREQ (UINC := 0 ∷ FRESET := 0 ∷ []) w refl (omega arith, (omega arith, tt))

-- a word with UINC and FRESET at 0
pub record Gentle (w : ℕ) : Type 0 where
  pub small : w < 2 ^ 32
  pub uinc : read UINC w ≡ 0
  pub freset : read FRESET w ≡ 0

-- ---- where a call goes next, whatever the chip is like

-- a get that read a control word x, and one whose control word was written
module _ (want : Want) (f : Found) where
  pub fetch_next : (x : ℕ) → fetch_at want (FetchAt.Next f) Answer.Exchanged (le_bytes x) ≡ FetchAt.Commit (x % 2 ^ 32) f
  fetch_next x = rw (word_said Refusal.SpiRead x)

  pub fetch_commit : (w : ℕ) → fetch_at want (FetchAt.Commit w f) Answer.Exchanged [] ≡ FetchAt.Done f
  fetch_commit w = refl

module _ (c : Model) (n : ℕ) where
  abbrev word : ℕ
  word = word_of c (Register.Control n)

  -- ---- what a control word as read says

  pub control_tx : flag TXEN (word % 2 ^ 32) ≡ sending (frozen_at c n)
  unfolding word_of sending
  control_tx = ap (λ (x : ℕ). eqb x 1) (sent_field 32 TXEN word refl ∙ (frozen_kept (frozen_at c n) (fifo_at c n)).1.0)

  pub control_payload : payload_of (word % 2 ^ 32) ≡ payload_of (frozen_at c n)
  unfolding word_of payload_of
  control_payload = ap (λ (x : ℕ). get_or payloads x 0) (sent_field 32 PLSIZE word refl ∙ (frozen_kept (frozen_at c n) (fifo_at c n)).1.1.1.0)

  pub control_stamp : sending (frozen_at c n) ≡ false → flag RXTSEN (word % 2 ^ 32) ≡ stamped (frozen_at c n)
  unfolding word_of stamped
  control_stamp t = rw t (ap (λ (x : ℕ). eqb x 1) (sent_field 32 RXTSEN word refl ∙ (frozen_kept (frozen_at c n) (fifo_at c n)).0))

  pub control_asked : read TXREQ (word % 2 ^ 32) ≡ read TXREQ (fifo_at c n).control
  unfolding word_of
  control_asked = sent_field 32 TXREQ word refl ∙ control_off TXREQ (frozen_at c n) (fifo_at c n) refl

  module _ (s : Sound c) where
    pub control_gentle : Gentle (word % 2 ^ 32)
    unfolding word_of
    control_gentle = record {
      small = mod-lt word (pow_pos 32);
      uinc = sent_field 32 UINC word refl ∙ control_off UINC (frozen_at c n) (fifo_at c n) refl ∙ (s.valid.fifo n).uinc;
      freset = sent_field 32 FRESET word refl ∙ control_off FRESET (frozen_at c n) (fifo_at c n) refl ∙ (s.valid.fifo n).freset s.out;
    }

    -- ---- what the status and the user address say

    pub status_ready : flag TFNRFNIF (word_of c (Register.Status n) % 2 ^ 32) ≡ ready (frozen_at c n) (fifo_at c n)
    unfolding word_of
    status_ready =
        rw s.out
        (ap (λ (x : ℕ). eqb x 1) (sent_field 32 TFNRFNIF (status (frozen_at c n) (fifo_at c n)) refl ∙ status_bit (frozen_at c n) (fifo_at c n))
        ∙ digit_back (ready (frozen_at c n) (fifo_at c n)))

    -- the slot shown: the next free one when sending, the oldest when receiving
    address_at : (k : ℕ) → (if sending (frozen_at c n) then (fifo_at c n).count else 0) ≡ k → slot_of c n k < 2 ^ 32
        → word_of c (Register.Address n) % 2 ^ 32 ≡ slot_of c n k
    unfolding word_of shown_at shown slot_of
    address_at k e h = rw (s.out, e) (mod-eq_of_lt h)

    -- ---- what a control word written back does

    written_out : (w : ℕ) → control_written c n w ≡ with_fifo c n (commanded (frozen_at c n) w (fifo_at c n))
    unfolding control_written
    written_out w = rw s.out

    -- with UINC; the FIFO has another control word, and is increased
    pub uinc_written : (v : ℕ) → v < 2 ^ 32 → read FRESET v ≡ 0
        → (g : Fifo) × (control_written c n (mark UINC true v) ≡ with_fifo c n (increased (frozen_at c n) g)) × (g.head ≡ (fifo_at c n).head) × (g.count ≡ (fifo_at c n).count)
        × (read TXREQ g.control ≡ read TXREQ v)
    unfolding controlled
    uinc_written v h z =
        let w : ℕ = mark UINC true v in
        let u : flag UINC w ≡ true = ap (λ (x : ℕ). eqb x 1) (read_write UINC 1 v (omega arith)) in
        let r : flag FRESET w ≡ false = ap (λ (x : ℕ). eqb x 1) (write_other UINC FRESET 1 v (omega arith) refl ∙ z) in
        let same : read TXREQ (kept w (fifo_at c n)).control ≡ read TXREQ v = kept_asked w (fifo_at c n) ∙ write_other UINC TXREQ 1 v (omega arith) refl in
        (kept w (fifo_at c n), written_out w ∙ ap (with_fifo c n) (commanded_uinc (frozen_at c n) w (fifo_at c n) r u), refl, refl, same)

    -- without; only the control word is another
    pub plain_written : (v : ℕ) → read UINC v ≡ 0 → read FRESET v ≡ 0
        → (g : Fifo) × (control_written c n v ≡ with_fifo c n g) × (g.head ≡ (fifo_at c n).head) × (g.count ≡ (fifo_at c n).count)
        × (read TXREQ g.control ≡ read TXREQ v)
    unfolding controlled
    plain_written v y z =
        let u : flag UINC v ≡ false = ap (λ (x : ℕ). eqb x 1) y in
        let r : flag FRESET v ≡ false = ap (λ (x : ℕ). eqb x 1) z in
        (kept v (fifo_at c n), written_out v ∙ ap (with_fifo c n) (commanded_plain (frozen_at c n) v (fifo_at c n) r u), refl, refl, kept_asked v (fifo_at c n))

  -- ---- where a push goes next

  module _ (size len : ℕ) where
    pub next_control : is_fifo n ≡ true → next_at n size len PushAt.Control Answer.Exchanged (le_bytes word)
        ≡ (if sending (frozen_at c n) then if ltb (payload_of (frozen_at c n)) size then PushAt.Refused Refusal.FifoTooSmall else PushAt.Status (word % 2 ^ 32)
        else PushAt.Refused Refusal.FifoNotTx)
    unfolding after_control
    next_control i = rw (word_said Refusal.SpiRead word, fifo_sends n (word % 2 ^ 32) i, control_tx, control_payload)

    module _ (s : Sound c) (t : sending (frozen_at c n) ≡ true) (v : ℕ) where
      pub next_status : next_at n size len (PushAt.Status v) Answer.Exchanged (le_bytes (word_of c (Register.Status n)))
          ≡ (if ltb (fifo_at c n).count (depth (frozen_at c n)) then PushAt.Address v else PushAt.Refused Refusal.FifoFull)
      unfolding after_status ready
      next_status = rw (word_said Refusal.SpiRead (word_of c (Register.Status n)), status_ready s, t)

      pub next_address : slot_of c n (fifo_at c n).count + len ≤ 2048
          → next_at n size len (PushAt.Address v) Answer.Exchanged (le_bytes (word_of c (Register.Address n))) ≡ PushAt.Write v (slot_of c n (fifo_at c n).count + 0x400)
      unfolding after_address
      next_address h =
          let x : ℕ = slot_of c n (fifo_at c n).count in
          let e : (if sending (frozen_at c n) then (fifo_at c n).count else 0) ≡ (fifo_at c n).count = rw t in
          rw (word_said Refusal.SpiRead (word_of c (Register.Address n)), address_at s (fifo_at c n).count e (omega arith), le-ltb 0xFBFF x (omega arith), range_in x len h)

  -- ---- where has-next, peek and get go next

  module _ (want : Want) where
    pub fetch_control : fetch_at want FetchAt.Control Answer.Exchanged (le_bytes word)
        ≡ (if sending (frozen_at c n) then FetchAt.Refused Refusal.FifoNotRx else FetchAt.Status)
    unfolding fetched_control
    fetch_control = rw (word_said Refusal.SpiRead word, control_tx)

    module _ (s : Sound c) (t : sending (frozen_at c n) ≡ false) where
      pub fetch_status : fetch_at want FetchAt.Status Answer.Exchanged (le_bytes (word_of c (Register.Status n))) ≡ by_status want (ltb 0 (fifo_at c n).count)
      unfolding fetched_status ready
      fetch_status = rw (word_said Refusal.SpiRead (word_of c (Register.Status n)), status_ready s, t)

      pub fetch_address : slot_of c n 0 + 8 ≤ 2048
          → fetch_at want FetchAt.Address Answer.Exchanged (le_bytes (word_of c (Register.Address n))) ≡ FetchAt.Header (slot_of c n 0 + 0x400)
      unfolding fetched_address
      fetch_address h =
          let x : ℕ = slot_of c n 0 in
          let e : (if sending (frozen_at c n) then (fifo_at c n).count else 0) ≡ 0 = rw t in
          rw (word_said Refusal.SpiRead (word_of c (Register.Address n)), address_at s 0 e (omega arith), le-ltb 0xFBFF x (omega arith), range_in x 8 h)
