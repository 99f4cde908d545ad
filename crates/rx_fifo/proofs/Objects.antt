-- The message that a peek and a get hand out is the one that the object's bytes hold.
-- Assumes nothing.
use Prim.Native.Nat.{ℕ, ◌+◌, ◌^◌, min, ◌≤◌, ◌<◌}
use native.Mathlib.Nat.{min-eq_left}
use native.Mathlib.Omega.{arith}
use mathlib.Core.Path.{◌≡◌, refl, sym, ap, ◌∙◌}
use mathlib.Core.Bool.{Bool, true, false}
use mathlib.Core.List.{List, [], ◌∷◌, append-nil}
use lib.ListN.{length, take, drop, length-drop}
use lib.Seq.{length-take-le, take-take, get_or-take}
use lib.Dec.{ltb}
use borrow.Author.Tests.{eq-eqb, lt-ltb, le-ltb, le-leb}
use Rattle.std.specs.Prelude.{if◌then◌else◌, Some, None, Result, Ok}
use Rattle.field.specs.Field.{read, flag}
use Rattle.fifo.specs.Control.{CiFIFOCON, TXEN, RXTSEN, payload_of, is_fifo}
use Rattle.fifo.specs.Status.{CiFIFOSTA, TFNRFNIF}
use Rattle.fifo.specs.UserAddress.{CiFIFOUA}
use Rattle.words.specs.Words.{le_bytes, le_at, round_up}
use Rattle.words.proofs.Laws.{le_back, le_length, le_drop, up_le}
use Rattle.parts.specs.Parts.{part}
use Rattle.header.specs.Dlc.{received_length}
use Rattle.header.specs.Header.{DLC, FDF, FILHIT, header_of}
use Rattle.header.proofs.Dlcs.{received_le}
use Rattle.message.specs.Message.{Message, body_at, message_in, length_in}
use Rattle.message.proofs.Round.{is_held}
use Rattle.spi.specs.declared.refusal.Refusal.{Refusal}
use Rattle.spi.specs.declared.ask.Answer.{Answer}
use Rattle.spi.specs.Ram.{in_range}
use Rattle.spi.specs.Reply.{word_reply, pair_reply, done_reply}
use Rattle.spi.specs.Talk.{Talk, refused, on_word, on_pair, on_done, read_word, read_pair, read_bytes, answered, run}
use Rattle.spi.proofs.Laws.{range_told}
use Rattle.call.specs.declared.Found.{Found}
use Rattle.fetch.specs.declared.Want.{Want}
use Rattle.fetch.specs.Step.{found_by, stamped}
use Rattle.rx_fifo.specs.Outcome.{message_of}
use Rattle.rx_fifo.specs.Talk.{Fetched, last_talk, body_talk, to_body_talk, time_talk, rest_talk, slot_talk, again_talk, header_talk, to_header_talk, address_talk, held_talk, status_talk, control_talk, lent_talk}
use Rattle.rx_fifo.specs.Laws.{says, gives, parts, answers, Waits, up_to_again, Shows, PeekReads, GetReads, TooLong, LongRefused}

-- ---- what the answers say

length_part : (b : List ℕ) (x n : ℕ) → x + n ≤ length b → length (part b x n) ≡ n
unfolding part
length_part b x n h = length-take-le n (drop x b) (rw (length-drop x b) (omega arith))

-- a word of the first n bytes
le_take : (l : List ℕ) (n a : ℕ) → a + 4 ≤ n → le_at (take n l) a ≡ le_at l a
unfolding le_at
le_take l n a h =
    rw (get_or-take n l a 0 (omega arith), get_or-take n l (a + 1) 0 (omega arith), get_or-take n l (a + 2) 0 (omega arith), get_or-take n l (a + 3) 0 (omega arith))

module _ (b : List ℕ) where
  pair_of : 8 ≤ length b → pair_reply Refusal.SpiRead Answer.Exchanged (part b 0 8) ≡ Ok ((le_at b 0), (le_at b 4))
  unfolding part
  pair_of h = rw (length-take-le 8 b h, le_take b 8 0 (omega arith), le_take b 8 4 (omega arith))

  word_of : (x : ℕ) → x + 4 ≤ length b → word_reply Refusal.SpiRead Answer.Exchanged (part b x 4) ≡ Ok (le_at b x)
  unfolding part
  word_of x h = rw (length-take-le 4 (drop x b) (rw (length-drop x b) (omega arith)), le_take (drop x b) 4 0 (omega arith), le_drop b x)

word_is : (w : ℕ) → w < 2 ^ 32 → word_reply Refusal.SpiRead Answer.Exchanged (le_bytes w) ≡ Ok w
word_is w h = rw (le_length w, rw (append-nil (le_bytes w)) at (le_back w [] h))

-- ---- a talk on such an answer

module _ {A : Type 0} (x : ℕ) (xs : List (Answer × List ℕ)) where
  pub word_said : (k : ℕ → Talk A) (w : ℕ) → w < 2 ^ 32 → run answered (read_word Refusal.SpiRead x k) (says w ∷ xs) ≡ run answered (k w) xs
  unfolding run answered
  word_said k w h = ap (λ (r : Result ℕ Refusal). run answered (on_word refused r k) xs) (word_is w h)

  pub word_given : (k : ℕ → Talk A) (b : List ℕ) (y : ℕ) → y + 4 ≤ length b → run answered (read_word Refusal.SpiRead x k) (gives b y 4 ∷ xs) ≡ run answered (k (le_at b y)) xs
  unfolding run answered
  word_given k b y h = ap (λ (r : Result ℕ Refusal). run answered (on_word refused r k) xs) (word_of b y h)

  pub pair_given : (k : ℕ → ℕ → Talk A) (b : List ℕ) → 8 ≤ length b → run answered (read_pair Refusal.SpiRead x k) (gives b 0 8 ∷ xs) ≡ run answered (k (le_at b 0) (le_at b 4)) xs
  unfolding run answered
  pair_given k b h = ap (λ (r : Result (ℕ × ℕ) Refusal). run answered (on_pair refused r k) xs) (pair_of b h)

  pub bytes_given : (k : List ℕ → Talk A) (b : List ℕ) (y n : ℕ) → y + n ≤ length b
      → run answered (read_bytes Refusal.SpiRead x n k) (gives b y n ∷ xs) ≡ run answered (k (part b y n)) xs
  unfolding run answered
  bytes_given k b y n h =
      let e : done_reply Refusal.SpiRead Answer.Exchanged (length (part b y n)) n ≡ Ok tt = rw (eq-eqb _ _ (length_part b y n h)) in
      ap (λ (r : Result (Unit {0}) Refusal). run answered (on_done refused r (k (part b y n))) xs) e

-- ---- RAM in range

pub range_is : (a n : ℕ) → 0x400 ≤ a → a + n ≤ 0xC00 → in_range a n ≡ true
unfolding in_range
range_is a n h l = rw (le-leb 0x400 a h, le-leb (a + n) 0xC00 l)

pub eight : (stamped : Bool) → 8 ≤ body_at stamped
eight true = omega arith
eight false = omega arith

-- ---- the object, from its user address on

-- an object with a payload of n bytes
abbrev found_in : (stamped : Bool) → ℕ → List ℕ → Found
found_in stamped n b = record {
  header = header_of (le_at b 0) (le_at b 4);
  dlc = read DLC (le_at b 4);
  filter = read FILHIT (le_at b 4);
  stamp = if stamped then Some (le_at b 8) else None;
  len = n;
}

pub message_is : (stamped : Bool) (n : ℕ) (b : List ℕ) → n ≤ 64 → message_of (found_in stamped n b) (part b (body_at stamped) (round_up n)) ≡ message_in false stamped n b
unfolding message_of message_in part
message_is stamped n b h =
    let p : take (min n 64) (take (round_up n) (drop (body_at stamped) b)) ≡ take n (drop (body_at stamped) b) = rw (min-eq_left h) (take-take n (round_up n) (drop (body_at stamped) b) (up_le n)) in
    λ i. record {
      header = header_of (le_at b 0) (le_at b 4);
      dlc = read DLC (le_at b 4);
      filter = read FILHIT (le_at b 4);
      seq = 0;
      stamp = if stamped then Some (le_at b 8) else None;
      payload = p i;
    }

-- user address, header and control again
again_reads : (want : Want) (fifo u w : ℕ) (b : List ℕ) (xs : List (Answer × List ℕ)) → w < 2 ^ 32 → in_range (u + 0x400) 8 ≡ true → 8 ≤ length b
    → run answered (address_talk want fifo) (says u ∷ gives b 0 8 ∷ says w ∷ xs) ≡ run answered (slot_talk want fifo (u + 0x400) (found_by (le_at b 0) (le_at b 4)) w) xs
again_reads want fifo u w b xs hw in_ram whole =
    let m : ℕ = u + 0x400 in
    let (l, r) = range_told m 8 in_ram in
    let rest : List (Answer × List ℕ) = says w ∷ xs in
    word_said (CiFIFOUA.address fifo) (gives b 0 8 ∷ rest) (to_header_talk want fifo) u (omega arith)
    ∙ ap (λ (t : Bool). run answered (if t then refused Refusal.BadUserAddress else if in_range m 8 then header_talk want fifo m else refused (Refusal.InvalidRamAddress m)) (gives b 0 8 ∷ rest))
    (le-ltb 0xFBFF u (omega arith))
    ∙ ap (λ (t : Bool). run answered (if t then header_talk want fifo m else refused (Refusal.InvalidRamAddress m)) (gives b 0 8 ∷ rest)) in_ram
    ∙ pair_given m rest (λ a d. again_talk want fifo m (found_by a d)) b whole
    ∙ word_said (CiFIFOCON.address fifo) xs (slot_talk want fifo m (found_by (le_at b 0) (le_at b 4))) w hw

module _ (want : Want) (fifo n : ℕ) (b : List ℕ) (short : n ≤ 64) where
  -- the payload
  body_reads : (stamped : Bool) (x : ℕ) → 0x400 ≤ x → x + round_up n ≤ 0xC00 → body_at stamped + round_up n ≤ length b
      → run answered (to_body_talk want fifo x (found_in stamped n b)) (gives b (body_at stamped) (round_up n) ∷ []) ≡ last_talk want fifo (message_in false stamped n b)
  unfolding run
  body_reads stamped x l r h =
      let f : Found = found_in stamped n b in
      ap (λ (t : Bool). run answered (if t then body_talk want fifo x f else refused (Refusal.InvalidRamAddress x)) (gives b (body_at stamped) (round_up n) ∷ [])) (range_is x (round_up n) l r)
      ∙ bytes_given x [] (λ rx. last_talk want fifo (message_of f rx)) b (body_at stamped) (round_up n) h
      ∙ ap (last_talk want fifo) (message_is stamped n b short)

  -- the timestamp, if there is one, and the payload
  parts_read : (stamped : Bool) (m : ℕ) → 0x400 ≤ m → m + (body_at stamped + round_up n) ≤ 0xC00 → body_at stamped + round_up n ≤ length b
      → run answered (rest_talk want fifo m (found_in false n b) stamped) (parts stamped n b) ≡ last_talk want fifo (message_in false stamped n b)
  parts_read true m l r h =
      let f : Found = found_in false n b in
      let x : ℕ = m + 8 in
      ap (λ (t : Bool). run answered (if t then time_talk want fifo x f else refused (Refusal.InvalidRamAddress x)) (parts true n b)) (range_is x 4 (omega arith) (omega arith))
      ∙ word_given x (gives b 12 (round_up n) ∷ []) (λ t. to_body_talk want fifo (x + 4) (stamped f t)) b 8 (omega arith)
      ∙ body_reads true (x + 4) (omega arith) (omega arith) h
  parts_read false m l r h = body_reads false (m + 8) (omega arith) (omega arith) h

  module _ (u w : ℕ) (hw : w < 2 ^ 32) (whole : body_at (flag RXTSEN w) + round_up n ≤ length b)
      (in_ram : in_range (u + 0x400) (body_at (flag RXTSEN w) + round_up n) ≡ true)
      (len : received_length (flag FDF (le_at b 4)) (read DLC (le_at b 4)) ≡ n) (slot : n ≤ payload_of w) where
    pub object_reads : run answered (address_talk want fifo) (says u ∷ gives b 0 8 ∷ says w ∷ parts (flag RXTSEN w) n b) ≡ last_talk want fifo (message_in false (flag RXTSEN w) n b)
    object_reads =
        let m : ℕ = u + 0x400 in
        let (l, r) = range_told m (body_at (flag RXTSEN w) + round_up n) in_ram in
        let e = eight (flag RXTSEN w) in
        let xs : List (Answer × List ℕ) = parts (flag RXTSEN w) n b in
        again_reads want fifo u w b xs hw (range_is m 8 l (omega arith)) (omega arith)
        ∙ ap (λ (k : ℕ). run answered (slot_talk want fifo m (found_in false k b) w) xs) len
        ∙ ap (λ (t : Bool). run answered (if t then refused Refusal.LengthBeyondSlot else rest_talk want fifo m (found_in false n b) (flag RXTSEN w)) xs) (le-ltb (payload_of w) n slot)
        ∙ parts_read (flag RXTSEN w) m l r whole

-- ---- the whole call

-- where more than the status is read
module _ (want : Want) (fifo room c v w : ℕ) (xs : List (Answer × List ℕ)) (hf : is_fifo fifo ≡ true) (hr : 64 ≤ room) (s : Waits c v w) where
  pub status_reads_lem : run answered (lent_talk want fifo room) (says c ∷ says v ∷ xs) ≡ run answered (held_talk want fifo true) xs
  unfolding lent_talk
  status_reads_lem =
      ap (λ (t : Bool). run answered (if t then if ltb room 64 then refused Refusal.BufferTooSmall else control_talk want fifo else refused Refusal.BadNumber) (says c ∷ says v ∷ xs)) hf
      ∙ ap (λ (t : Bool). run answered (if t then refused Refusal.BufferTooSmall else control_talk want fifo) (says c ∷ says v ∷ xs)) (le-ltb room 64 hr)
      ∙ word_said (CiFIFOCON.address fifo) (says v ∷ xs) (λ x. if flag TXEN x then refused Refusal.FifoNotRx else status_talk want fifo) c s.control
      ∙ ap (λ (t : Bool). run answered (if t then refused Refusal.FifoNotRx else status_talk want fifo) (says v ∷ xs)) s.receiving
      ∙ word_said (CiFIFOSTA.address fifo) xs (λ x. held_talk want fifo (flag TFNRFNIF x)) v s.status
      ∙ ap (λ (t : Bool). run answered (held_talk want fifo t) xs) s.next

-- a payload that is whole has its length
payload_length : (stamped : Bool) (n : ℕ) (b : List ℕ) → body_at stamped + n ≤ length b → length (message_in false stamped n b).payload ≡ n
unfolding message_in
payload_length stamped n b h = length-take-le n (drop (body_at stamped) b) (rw (length-drop (body_at stamped) b) (omega arith))

reads : (want : Want) (fifo room c v u w : ℕ) (b : List ℕ) (m : Message) → held_talk want fifo true ≡ address_talk want fifo → is_fifo fifo ≡ true → 64 ≤ room
    → Shows c v u w b m → run answered (lent_talk want fifo room) (answers c v u w (length m.payload) b) ≡ last_talk want fifo m
unfolding length_in
reads want fifo room c v u w b m goes hf hr s =
    let stamped : Bool = flag RXTSEN w in
    let h = is_held false stamped b m s.decoded in
    let e : h.long ≡ length m.payload = sym (payload_length stamped h.long b h.fits) ∙ ap (λ (x : Message). length x.payload) h.message in
    let n : ℕ = length m.payload in
    let d : ℕ = le_at b 4 in
    let i : Some (received_length (flag FDF d) (read DLC d)) ≡ Some n = h.length_is ∙ ap Some e in
    let len : received_length (flag FDF d) (read DLC d) ≡ n = cc in
    let xs : List (Answer × List ℕ) = says u ∷ gives b 0 8 ∷ says w ∷ parts stamped n b in
    status_reads_lem want fifo room c v w xs hf hr s.waits
    ∙ ap (λ (t : Talk Fetched). run answered t xs) goes
    ∙ object_reads want fifo n b (rw (← len) (received_le (flag FDF d) (read DLC d))) u w s.waits.again s.whole s.in_ram len s.slot
    ∙ ap (last_talk want fifo) (ap (λ (k : ℕ). message_in false stamped k b) (sym e) ∙ h.message)

pub peek_reads_lem : PeekReads
peek_reads_lem fifo room c v u w b m = reads Want.Peek fifo room c v u w b m refl

pub get_reads_lem : GetReads
get_reads_lem fifo room c v u w b m = reads Want.Get fifo room c v u w b m refl

-- ---- a payload longer than the slot

beyond : (want : Want) (fifo room c v u w : ℕ) (b : List ℕ) → held_talk want fifo true ≡ address_talk want fifo → is_fifo fifo ≡ true → 64 ≤ room
    → TooLong c v u w b → run answered (lent_talk want fifo room) (up_to_again c v u w b) ≡ refused Refusal.LengthBeyondSlot
unfolding run
beyond want fifo room c v u w b goes hf hr s =
    let xs : List (Answer × List ℕ) = says u ∷ gives b 0 8 ∷ says w ∷ [] in
    status_reads_lem want fifo room c v w xs hf hr s.waits
    ∙ ap (λ (t : Talk Fetched). run answered t xs) goes
    ∙ again_reads want fifo u w b [] s.waits.again s.in_ram s.whole
    ∙ ap (λ (t : Bool). if t then refused Refusal.LengthBeyondSlot else rest_talk want fifo (u + 0x400) (found_by (le_at b 0) (le_at b 4)) (flag RXTSEN w)) (lt-ltb _ _ s.beyond)

pub long_refused_lem : LongRefused
long_refused_lem fifo room c v u w b hf hr s =
    (beyond Want.Peek fifo room c v u w b refl hf hr s, beyond Want.Get fifo room c v u w b refl hf hr s)
