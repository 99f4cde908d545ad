-- What the modelled chip answers to what the driver asks.
-- Assumes nothing.
use mathlib.Core.Path.{◌≡◌, refl, sym, ap, subst, ◌∙◌}
use mathlib.Core.Bool.{true, false}
use mathlib.Core.List.{List, [], ◌∷◌, ◌++◌, append-nil}
use Prim.Native.Nat.{ℕ, ◌+◌, ◌-◌, ◌*◌, ◌%◌, ◌^◌, ◌≤◌, ◌<◌, zero, suc}
use native.Mathlib.Nat.{mod-lt}
use native.Mathlib.Omega.{arith}
use borrow.Author.Tests.{le-leb, lt-leb, eq-eqb}
use lib.Dec.{eqb}
use lib.Pow.{pow_pos}
use lib.ListN.{length, take, drop}
use Rattle.std.specs.Prelude.{Option, Some, None}
use Rattle.laws.proofs.Choice.{by_if}
use Rattle.words.specs.Words.{le_bytes, be_bytes}
use Rattle.parts.specs.Parts.{part}
use Rattle.fifo.specs.Control.{CiFIFOCON, is_fifo}
use Rattle.fifo.specs.Status.{CiFIFOSTA}
use Rattle.fifo.specs.UserAddress.{CiFIFOUA}
use Rattle.spi.specs.declared.instruction.OpCode.{OpCode}
use Rattle.spi.specs.declared.ask.Ask.{Ask}
use Rattle.spi.specs.declared.ask.Answer.{Answer}
use Rattle.spi.specs.Ask.{head_of, body_of, wanted, sent}
use Rattle.spi.specs.Instruction.{code_of, command_of}
use Rattle.spi.specs.Ram.{in_range}
use Rattle.place.specs.declared.Register.{Register}
use Rattle.operation.specs.declared.operation.Operation.{Operation}
use Rattle.place.specs.Place.{register_at}
use Rattle.operation.specs.Operation.{in_ram, at, read_at, asked}
use Rattle.place.specs.Laws.{Stand}
use Rattle.place.proofs.Laws.{all_carried_lem}
use Rattle.operation.proofs.Laws.{asks_read_lem, asks_checked_lem, asks_word_lem, writes_word_lem, asks_body_lem}
use Rattle.state.specs.declared.Model.{Model}
use Rattle.state.specs.Model.{written}
use Rattle.bank.specs.Registers.{word_of, control_written, register_written, queue_written}
use Rattle.model.specs.Exchange.{done_writing, checked_bytes, performed, exchange}
use Rattle.history.proofs.Slots.{fifo_told}
use Rattle.history.proofs.Line.{hearing, spoken}
use Rattle.history.proofs.Kept.{heard_chip}
use Rattle.history.specs.History.{Heard, hears}
use Rattle.configuration.specs.CanControl.{CiCON}

-- ---- places

-- below RAM there is none
pub ram_low : (a k : ℕ) → a < 0x400 → in_ram a k ≡ false
unfolding in_ram in_range
ram_low a k h = rw (lt-leb 0x400 a h)

-- k bytes from offset x on
pub range_in : (x k : ℕ) → x + k ≤ 2048 → in_range (x + 0x400) k ≡ true
unfolding in_range
range_in x k h = rw (le-leb 0x400 (x + 0x400) (omega arith), le-leb (x + 0x400 + k) 0xC00 (omega arith))

pub ram_in_lem : (x k : ℕ) → x + k ≤ 2048 → k % 4 ≡ 0 → in_ram (x + 0x400) k ≡ true
unfolding in_ram
ram_in_lem x k h e = rw (range_in x k h, eq-eqb (k % 4) 0 e)

-- a FIFO is one of 1 to 31
pub fifo_is : (n : ℕ) → 1 ≤ n → n ≤ 31 → is_fifo n ≡ true
unfolding is_fifo
fifo_is n l h = rw (le-leb 1 n l, le-leb n 31 h)

-- ---- what an ask is carried out as

-- without a body the head is all that is sent
sent_head : (q : Ask) (b : List ℕ) → body_of q ≡ 0 → sent q b ≡ head_of q
unfolding sent
sent_head q b e = rw e (append-nil (head_of q))

pub does : (q : Ask) (b : List ℕ) (c : Model) (o : Operation) → asked (sent q b) (wanted q) ≡ o → spoken q b c ≡ hearing (performed o (sent q b) (wanted q) c)
unfolding exchange
does q b c o e = ap (λ (x : Operation). hearing (performed x (sent q b) (wanted q) c)) e

module _ (b : List ℕ) (c : Model) where
  module _ (a : ℕ) (r : Register) (is : register_at a ≡ Some r) (off : in_ram a 4 ≡ false) (h : a < 2 ^ 12) where
    -- a register's word is read
    pub hear_register : spoken (Ask.Read a 4) b c ≡ hears Answer.Exchanged (le_bytes (word_of c r)) c
    unfolding read_at performed
    hear_register =
        let e : read_at a 4 ≡ Operation.Read r = rw (off, is) in
        does (Ask.Read a 4) b c (Operation.Read r) (ap (λ (s : List ℕ). asked s 4) (sent_head (Ask.Read a 4) b refl) ∙ asks_read_lem a 4 h ∙ e)

    -- a register's word is written
    pub tell_register : (w : ℕ) → w < 2 ^ 32 → spoken (Ask.Word a w) b c ≡ hearing (done_writing (register_written c r w))
    unfolding performed
    tell_register w l =
        does (Ask.Word a w) b c (Operation.Write r w)
        (ap (λ (s : List ℕ). asked s 0) (sent_head (Ask.Word a w) b refl) ∙ asks_word_lem a w h ∙ writes_word_lem a w off l
        ∙ ap (λ (p : Option Register). at p (λ x. Operation.Write x w)) is)

  -- a register's word is read, checked
  pub hear_checked : (a : ℕ) (r : Register) → register_at a ≡ Some r → a < 2 ^ 12
      → spoken (Ask.Checked a) b c ≡ hears Answer.Exchanged (checked_bytes (head_of (Ask.Checked a)) (word_of c r)) c
  unfolding performed
  hear_checked a r is h =
      let s = sent_head (Ask.Checked a) b refl in
      does (Ask.Checked a) b c (Operation.Checked r)
      (ap (λ (x : List ℕ). asked x 6) s ∙ asks_checked_lem a h ∙ ap (λ (p : Option Register). at p Operation.Checked) is)
      ∙ ap (λ (x : List ℕ). hears Answer.Exchanged (checked_bytes x (word_of c r)) c) s

  module _ (n : ℕ) (f : is_fifo n ≡ true) where
    -- FIFO n's registers lie below RAM
    hear_own : (place : ℕ → ℕ) (r : ℕ → Register) → Stand 1 31 place r → place n < 0x400
        → spoken (Ask.Read (place n) 4) b c ≡ hears Answer.Exchanged (le_bytes (word_of c (r n))) c
    hear_own place r stands low =
        let (l, h) = fifo_told n f in
        hear_register (place n) (r n) (stands n l h) (ram_low (place n) 4 low) (omega arith)

    pub hear_control : spoken (Ask.Read (CiFIFOCON.address n) 4) b c ≡ hears Answer.Exchanged (le_bytes (word_of c (Register.Control n))) c
    hear_control = hear_own CiFIFOCON.address Register.Control all_carried_lem.control (omega (arith, (fifo_told n f).1))

    pub hear_status : spoken (Ask.Read (CiFIFOSTA.address n) 4) b c ≡ hears Answer.Exchanged (le_bytes (word_of c (Register.Status n))) c
    hear_status = hear_own CiFIFOSTA.address Register.Status all_carried_lem.status (omega (arith, (fifo_told n f).1))

    pub hear_address : spoken (Ask.Read (CiFIFOUA.address n) 4) b c ≡ hears Answer.Exchanged (le_bytes (word_of c (Register.Address n))) c
    hear_address = hear_own CiFIFOUA.address Register.Address all_carried_lem.user_address (omega (arith, (fifo_told n f).1))

    pub tell_control : (w : ℕ) → w < 2 ^ 32 → spoken (Ask.Word (CiFIFOCON.address n) w) b c ≡ hears Answer.Exchanged [] (control_written c n w)
    unfolding register_written
    tell_control =
        let (l, h) = fifo_told n f in
        tell_register (CiFIFOCON.address n) (Register.Control n) (all_carried_lem.control n l h) (ram_low (CiFIFOCON.address n) 4 (omega arith)) (omega arith)

  -- the queue's registers and CiCON
  module _ (a : ℕ) (r : Register) (is : register_at a ≡ Some r) (low : a < 0x400) where
    pub hear_low : spoken (Ask.Read a 4) b c ≡ hears Answer.Exchanged (le_bytes (word_of c r)) c
    hear_low = hear_register a r is (ram_low a 4 low) (omega arith)

    pub tell_low : (w : ℕ) → w < 2 ^ 32 → spoken (Ask.Word a w) b c ≡ hearing (done_writing (register_written c r w))
    tell_low = tell_register a r is (ram_low a 4 low) (omega arith)

  pub hear_enabled : spoken (Ask.Read (CiCON.address 0) 4) b c ≡ hears Answer.Exchanged (le_bytes (word_of c Register.Con)) c
  hear_enabled = hear_low (CiCON.address 0) Register.Con all_carried_lem.con (omega arith)

  pub hear_queue : spoken (Ask.Read (CiFIFOCON.address 0) 4) b c ≡ hears Answer.Exchanged (le_bytes (word_of c Register.QueueControl)) c
  hear_queue = hear_low (CiFIFOCON.address 0) Register.QueueControl all_carried_lem.queue_control (omega arith)

  pub hear_queue_status : spoken (Ask.Read (CiFIFOSTA.address 0) 4) b c ≡ hears Answer.Exchanged (le_bytes (word_of c Register.QueueStatus)) c
  hear_queue_status = hear_low (CiFIFOSTA.address 0) Register.QueueStatus all_carried_lem.queue_status (omega arith)

  pub hear_queue_address : spoken (Ask.Read (CiFIFOUA.address 0) 4) b c ≡ hears Answer.Exchanged (le_bytes (word_of c Register.QueueAddress)) c
  hear_queue_address = hear_low (CiFIFOUA.address 0) Register.QueueAddress all_carried_lem.queue_address (omega arith)

  pub tell_queue : (w : ℕ) → w < 2 ^ 32 → spoken (Ask.Word (CiFIFOCON.address 0) w) b c ≡ hears Answer.Exchanged [] (queue_written c w)
  unfolding register_written
  tell_queue = tell_low (CiFIFOCON.address 0) Register.QueueControl all_carried_lem.queue_control (omega arith)

  -- a FIFO's control word, or the queue's
  pub hear_any : (n : ℕ) → n ≤ 31 → (x : ℕ) × (spoken (Ask.Read (CiFIFOCON.address n) 4) b c ≡ hears Answer.Exchanged (le_bytes x) c)
  hear_any zero h = (_, hear_queue)
  hear_any (suc n) h = (_, hear_control (suc n) (fifo_is (suc n) (omega arith) h))

  pub tell_any : (n : ℕ) → n ≤ 31 → (w : ℕ) → w < 2 ^ 32 → (d : Model) × (spoken (Ask.Word (CiFIFOCON.address n) w) b c ≡ hears Answer.Exchanged [] d)
  tell_any zero h w l = (_, tell_queue w l)
  tell_any (suc n) h w l = (_, tell_control (suc n) (fifo_is (suc n) (omega arith) h) w l)

  module _ (x k : ℕ) (h : x + k ≤ 2048) (four : k % 4 ≡ 0) where
    pub hear_ram : spoken (Ask.Read (x + 0x400) k) b c ≡ hears Answer.Exchanged (part c.ram x k) c
    unfolding read_at performed
    hear_ram =
        let z : x + 0x400 - 0x400 ≡ x = omega arith in
        let e : read_at (x + 0x400) k ≡ Operation.ReadRam x = rw (ram_in_lem x k h four, z) in
        does (Ask.Read (x + 0x400) k) b c (Operation.ReadRam x)
        (ap (λ (s : List ℕ). asked s k) (sent_head (Ask.Read (x + 0x400) k) b refl) ∙ asks_read_lem (x + 0x400) k (omega arith) ∙ e)

    -- what follows the command is the body's front
    body_front : drop 2 (sent (Ask.Body (x + 0x400) k) b) ≡ take k b
    unfolding sent command_of be_bytes
    body_front = refl

    pub tell_ram : k ≤ length b → spoken (Ask.Body (x + 0x400) k) b c ≡ hears Answer.Exchanged [] (written c x (take k b))
    unfolding performed
    tell_ram l =
        let z : x + 0x400 - 0x400 ≡ x = omega arith in
        does (Ask.Body (x + 0x400) k) b c (Operation.WriteRam x) (asks_body_lem (x + 0x400) k b (ram_in_lem x k h four) l ∙ ap Operation.WriteRam z)
        ∙ ap (λ (bs : List ℕ). hears Answer.Exchanged [] (written c x bs)) body_front

  -- bytes behind place x
  pub hear_behind : (x y k : ℕ) → x + y + k ≤ 2048 → k % 4 ≡ 0 → spoken (Ask.Read (x + 0x400 + y) k) b c ≡ hears Answer.Exchanged (part c.ram (x + y) k) c
  hear_behind x y k h four =
      let e : x + 0x400 + y ≡ x + y + 0x400 = omega arith in
      ap (λ (a : ℕ). spoken (Ask.Read a k) b c) e ∙ hear_ram (x + y) k h four

-- ---- reading leaves the chip as it is

-- an address's upper bits are not sent
low_address : (op : OpCode) (a : ℕ) → command_of op a ≡ command_of op (a % 2 ^ 12)
unfolding command_of
low_address op a = let e : a % 2 ^ 12 ≡ a % 2 ^ 12 % 2 ^ 12 = omega arith in ap (λ (x : ℕ). be_bytes (code_of op * 2 ^ 12 + x)) e

at_keeps : (s : List ℕ) (want : ℕ) (c : Model) (p : Option Register) (f : Register → Operation) → ((r : Register) → (performed (f r) s want c).model ≡ c)
    → (performed (at p f) s want c).model ≡ c
unfolding performed
at_keeps s want c (Some r) f h = h r
at_keeps s want c None f h = refl

read_keeps : (s : List ℕ) (a k : ℕ) (c : Model) → (performed (read_at a k) s k c).model ≡ c
unfolding read_at performed
read_keeps s a k c =
    let P : Operation → Type 0 = λ o. (performed o s k c).model ≡ c in
    by_if P (in_ram a k) (λ e. refl) (λ e. by_if P (eqb k 4) (λ f. at_keeps s k c (register_at a) Operation.Read (λ r. refl)) (λ f. refl))

checked_keeps : (s : List ℕ) (a : ℕ) (c : Model) → (performed (at (register_at a) Operation.Checked) s 6 c).model ≡ c
unfolding performed
checked_keeps s a c = at_keeps s 6 c (register_at a) Operation.Checked (λ r. refl)

spoken_keeps : (q : Ask) (b : List ℕ) (c : Model) (o : Operation) → body_of q ≡ 0 → asked (head_of q) (wanted q) ≡ o
    → (performed o (sent q b) (wanted q) c).model ≡ c → (spoken q b c).chip ≡ c
spoken_keeps q b c o z e k =
    ap (λ (x : Heard). x.chip) (does q b c o (ap (λ (s : List ℕ). asked s (wanted q)) (sent_head q b z) ∙ e))
    ∙ heard_chip (performed o (sent q b) (wanted q) c).reply _ ∙ k

module _ (b : List ℕ) (c : Model) (a : ℕ) where
  -- whatever is read, and from wherever
  pub hear_keeps : (k : ℕ) → (spoken (Ask.Read a k) b c).chip ≡ c
  hear_keeps k =
      let x : ℕ = a % 2 ^ 12 in
      spoken_keeps (Ask.Read a k) b c (read_at x k) refl
      (ap (λ (s : List ℕ). asked s k) (low_address OpCode.Read a) ∙ asks_read_lem x k (mod-lt a (pow_pos 12)))
      (read_keeps (sent (Ask.Read a k) b) x k c)

  pub check_keeps : (spoken (Ask.Checked a) b c).chip ≡ c
  check_keeps =
      let x : ℕ = a % 2 ^ 12 in
      spoken_keeps (Ask.Checked a) b c (at (register_at x) Operation.Checked) refl
      (ap (λ (s : List ℕ). asked (s ++ (4 ∷ [])) 6) (low_address OpCode.ReadCrc a) ∙ asks_checked_lem x (mod-lt a (pow_pos 12)))
      (checked_keeps (sent (Ask.Checked a) b) x c)

  -- a checked read is answered with a word and its CRC, or not at all
  pub check_heard : (P : Heard → Type 0) → ((w : ℕ) → P (hears Answer.Exchanged (checked_bytes (head_of (Ask.Checked a)) w) c)) → P (hears Answer.Failed [] c)
      → P (spoken (Ask.Checked a) b c)
  unfolding performed
  check_heard P good bad =
      let x : ℕ = a % 2 ^ 12 in
      let head : sent (Ask.Checked a) b ≡ head_of (Ask.Checked a) = sent_head (Ask.Checked a) b refl in
      let is : asked (sent (Ask.Checked a) b) 6 ≡ at (register_at x) Operation.Checked =
      ap (λ (s : List ℕ). asked s 6) head ∙ ap (λ (s : List ℕ). asked (s ++ (4 ∷ [])) 6) (low_address OpCode.ReadCrc a) ∙ asks_checked_lem x (mod-lt a (pow_pos 12)) in
      subst P (sym (does (Ask.Checked a) b c (at (register_at x) Operation.Checked) is ∙ ap (λ (s : List ℕ). said s (register_at x)) head)) (go (register_at x))
    where
      said : List ℕ → Option Register → Heard
      said s p = hearing (performed (at p Operation.Checked) s 6 c)

      go : (p : Option Register) → P (said (head_of (Ask.Checked a)) p)
      go (Some r) = good (word_of c r)
      go None = bad
