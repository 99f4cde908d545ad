-- The phases of a peek and a get that read an object from RAM, where the bytes of its slot hold a message.
-- Assumes nothing.
use Prim.Native.Nat.{ℕ, zero, suc, ◌+◌, ◌%◌, ◌^◌, min, ◌≤◌, ◌<◌}
use native.Mathlib.Nat.{min-eq_left}
use native.Mathlib.Omega.{arith}
use mathlib.Core.Path.{◌≡◌, refl, sym, ap, ◌∙◌}
use mathlib.Core.Bool.{Bool, true, false}
use mathlib.Core.List.{List, [], ◌∷◌, ◌++◌}
use lib.ListN.{length, get_or, take, drop, length-append, length-take, length-drop}
use lib.Seq.{take-take, take-append-le, take-append_seam, drop-drop, get_or-take, get_or-drop}
use borrow.Author.Tests.{eq-eqb, le-leb, le-ltb}
use Rattle.std.specs.Prelude.{if◌then◌else◌, Option, Some, None, Result, Ok}
use Rattle.field.specs.Field.{read, flag}
use Rattle.fifo.specs.Control.{RXTSEN, payload_of}
use Rattle.fifo.proofs.Sizes.{payload_whole}
use Rattle.words.specs.Words.{le_bytes, le_at, round_up}
use Rattle.words.proofs.Laws.{up_le}
use Rattle.parts.specs.Parts.{part, put}
use Rattle.header.specs.Dlc.{received_length}
use Rattle.header.specs.Header.{DLC, FDF, FILHIT, header_of}
use Rattle.header.proofs.Dlcs.{received_le}
use Rattle.message.specs.Message.{Message, body_at, holds, message_in, length_in, decoding}
use Rattle.message.proofs.Round.{Held, is_held}
use Rattle.spi.specs.declared.refusal.Refusal.{Refusal}
use Rattle.spi.specs.declared.ask.Answer.{Answer}
use Rattle.spi.specs.Reply.{word_reply, pair_reply}
use Rattle.spi.specs.Talk.{on_word, on_pair}
use Rattle.call.specs.declared.Found.{Found}
use Rattle.ring.specs.Ring.{sending}
use Rattle.ring.specs.Layout.{stamped, size}
use Rattle.state.specs.declared.Model.{Model}
use Rattle.state.specs.Model.{frozen_at}
use Rattle.bus.specs.Held.{slot_of, item_at}
use Rattle.fetch.specs.declared.Want.{Want}
use Rattle.fetch.specs.FetchAt.{FetchAt}
use Rattle.fetch.specs.Step.{after_header, to_time, to_body, to_rest, after_again, after_time, after_body, next_at}
use Rattle.rx_fifo.specs.Step.{held_of}
use Rattle.rx_fifo.specs.Outcome.{message_of, found_of, filled}
use Rattle.rx_fifo.proofs.Objects.{range_is}
use Rattle.history.proofs.Bytes.{length_part}
use Rattle.history.proofs.Replies.{word_said}

-- a choice, each way of which is known by its test
if_both : {A : Type 0} (b : Bool) {x y x' y' : A} → (b ≡ true → x ≡ x') → (b ≡ false → y ≡ y') → (if b then x else y) ≡ (if b then x' else y')
if_both true f g = f refl
if_both false f g = g refl

-- ---- parts of parts

-- what lies within the first z
cut : (l : List ℕ) (z a n : ℕ) → a + n ≤ z → take n (drop a (take z l)) ≡ take n (drop a l)
cut l z zero n h = take-take n z l (omega arith)
cut l zero (suc a) n h = absurd (omega arith)
cut [] (suc z) (suc a) n h = refl
cut (b ∷ l) (suc z) (suc a) n h = cut l z a n (omega arith)

pub part_part : (l : List ℕ) (x z a n : ℕ) → a + n ≤ z → part (part l x z) a n ≡ part l (x + a) n
unfolding part
part_part l x z a n h = cut (drop x l) z a n h ∙ ap (take n) (drop-drop a x l)

-- a word of a part
le_part : (l : List ℕ) (x z a j : ℕ) → a + 4 ≤ z → x + a ≡ j → le_at (part l x z) a ≡ le_at l j
unfolding part le_at
le_part l x z a j h f =
    let byte : (k i : ℕ) → k < z → x + k ≡ i → get_or (take z (drop x l)) k 0 ≡ get_or l i 0
    = λ k i s e. get_or-take z (drop x l) k 0 s ∙ get_or-drop x l k 0 ∙ ap (λ (i : ℕ). get_or l i 0) e in
    rw (
      byte a j (omega arith) f,
      byte (a + 1) (j + 1) (omega arith) (omega arith),
      byte (a + 2) (j + 2) (omega arith) (omega arith),
      byte (a + 3) (j + 3) (omega arith) (omega arith),
    )

-- ---- what is answered

word_given : (l : List ℕ) (a : ℕ) → a + 4 ≤ length l → word_reply Refusal.SpiRead Answer.Exchanged (part l a 4) ≡ Ok (le_at l a)
word_given l a h = rw (length_part l a 4 h, le_part l a 4 0 a (omega arith) (omega arith))

pair_given : (l : List ℕ) (a : ℕ) → a + 8 ≤ length l → pair_reply Refusal.SpiRead Answer.Exchanged (part l a 8) ≡ Ok ((le_at l a), (le_at l (a + 4)))
pair_given l a h = rw (length_part l a 8 h, le_part l a 8 0 a (omega arith) (omega arith), le_part l a 8 4 (a + 4) (omega arith) refl)

-- ---- the room for a payload

-- a slot has room for what comes before the payload, and for the payload
body_size : (w : ℕ) → size w ≡ body_at (stamped w) + payload_of w
unfolding size
body_size w = go (stamped w)
  where
    go : (t : Bool) → 8 + (if t then 4 else 0) + payload_of w ≡ body_at t + payload_of w
    go true = omega arith
    go false = omega arith

eight : (t : Bool) → 8 ≤ body_at t
eight true = omega arith
eight false = omega arith

-- ---- what is told of a message

-- with this timestamp; with its own it is found_of m
abbrev tells : Message → Option ℕ → Found
tells m s = record { header = m.header; dlc = m.dlc; filter = m.filter; stamp = s; len = length m.payload }

-- before its timestamp is read
abbrev pub plain : Message → Found
plain m = tells m None

-- ---- the end of a call

module _ (m : Message) where
  -- the payload, out of bytes that begin with it
  front : (held : List ℕ) → message_of (found_of m) held ≡ m → take (min (length m.payload) 64) held ≡ m.payload
  unfolding message_of
  front held e = ap (λ (k : Message). k.payload) e

  pub filled_is : (held buf : List ℕ) → message_of (found_of m) held ≡ m → 64 ≤ length buf → filled held (length m.payload) buf ≡ put buf 0 m.payload
  unfolding filled
  filled_is held buf e h = rw (le-leb 64 (length buf) h, front held e)

  pub put_message : (buf : List ℕ) → m.seq ≡ 0 → length m.payload ≤ 64 → message_of (found_of m) (put buf 0 m.payload) ≡ m
  unfolding message_of put
  put_message buf s h =
      let p : take (min (length m.payload) 64) (m.payload ++ drop (0 + length m.payload) buf) ≡ m.payload
      = rw (min-eq_left h) (take-append_seam m.payload _) in
      λ i. record { header = m.header; dlc = m.dlc; filter = m.filter; seq = sym s i; stamp = m.stamp; payload = p i }

  -- what is held of an answer gives the message that the answer gives
  held_message : (held rx : List ℕ) → length m.payload ≤ length rx → message_of (found_of m) (held_of held rx) ≡ message_of (found_of m) rx
  unfolding message_of held_of put
  held_message held rx h =
      let n : ℕ = min (length m.payload) 64 in
      let l : n ≤ length (take 64 rx) = rw (length-take 64 rx) (omega arith) in
      let p = take-append-le n (take 64 rx) _ l ∙ take-take n 64 rx (omega arith) in
      λ i. record { header = m.header; dlc = m.dlc; filter = m.filter; seq = 0; stamp = m.stamp; payload = p i }

pub held_length : (held rx : List ℕ) → length held ≡ 64 → length (held_of held rx) ≡ 64
unfolding held_of put
held_length held rx e = simp (length-append, length-take, length-drop) (omega (arith, e))

-- ---- a slot whose bytes hold a message

-- the oldest message of a FIFO that receives
pub item_is : (c : Model) (n : ℕ) → sending (frozen_at c n) ≡ false
    → decoding false (stamped (frozen_at c n)) (part c.ram (slot_of c n 0) (size (frozen_at c n))) ≡ item_at c n 0
unfolding item_at
item_is c n e = rw e

-- the length of a payload received
received_is : {n : ℕ} (fdf : Bool) (d : ℕ) → length_in false fdf d ≡ Some n → received_length fdf d ≡ n
unfolding length_in
received_is fdf d e = cc

-- its slot begins at place x of RAM l, fr being the control word that fixes the slot's size
module _ (l : List ℕ) (x fr : ℕ) (m : Message) (long : length l ≡ 2048) (room : x + size fr ≤ 2048)
    (decoded : decoding false (stamped fr) (part l x (size fr)) ≡ holds m) where
  slot_length : length (part l x (size fr)) ≡ size fr
  slot_length = length_part l x (size fr) (omega arith)

  object : Held false (stamped fr) (part l x (size fr)) m
  object = is_held false (stamped fr) (part l x (size fr)) m decoded

  count_is : object.long ≡ length m.payload
  unfolding message_in part
  count_is =
      sym (length_part (part l x (size fr)) (body_at (stamped fr)) object.long object.fits)
      ∙ ap (λ (k : Message). length k.payload) object.message

  inside : body_at (stamped fr) + length m.payload ≤ size fr
  inside = omega (arith, object.fits, count_is, slot_length)

  message_in_lem : message_in false (stamped fr) (length m.payload) (part l x (size fr)) ≡ m
  message_in_lem = ap (λ (k : ℕ). message_in false (stamped fr) k (part l x (size fr))) (sym count_is) ∙ object.message

  -- the payload is within the slot, also where it is rounded up
  pub object_inside : body_at (stamped fr) + round_up (length m.payload) ≤ size fr
  object_inside = omega (arith, inside, body_size fr, payload_whole fr)

  pub seq_none : m.seq ≡ 0
  unfolding message_in
  seq_none = sym (ap (λ (k : Message). k.seq) message_in_lem)

  -- the header's words, in RAM
  word_0 : le_at (part l x (size fr)) 0 ≡ le_at l x
  word_0 = le_part l x (size fr) 0 x (omega (arith, inside, eight (stamped fr))) (omega arith)

  word_4 : le_at (part l x (size fr)) 4 ≡ le_at l (x + 4)
  word_4 = le_part l x (size fr) 4 (x + 4) (omega (arith, inside, eight (stamped fr))) refl

  header_is : header_of (le_at l x) (le_at l (x + 4)) ≡ m.header
  unfolding message_in
  header_is = rw (← word_0, ← word_4) (ap (λ (k : Message). k.header) message_in_lem)

  stamp_is : (if stamped fr then Some (le_at (part l x (size fr)) 8) else None) ≡ m.stamp
  unfolding message_in
  stamp_is = ap (λ (k : Message). k.stamp) message_in_lem

  dlc_is : read DLC (le_at l (x + 4)) ≡ m.dlc
  unfolding message_in
  dlc_is = rw (← word_4) (ap (λ (k : Message). k.dlc) message_in_lem)

  filter_is : read FILHIT (le_at l (x + 4)) ≡ m.filter
  unfolding message_in
  filter_is = rw (← word_4) (ap (λ (k : Message). k.filter) message_in_lem)

  length_is : received_length (flag FDF (le_at l (x + 4))) (read DLC (le_at l (x + 4))) ≡ length m.payload
  length_is = rw (← word_4) (received_is _ _ object.length_is ∙ count_is)

  pub payload_most : length m.payload ≤ 64
  payload_most = omega (arith, length_is, received_le (flag FDF (le_at l (x + 4))) (read DLC (le_at l (x + 4))))

  -- ---- the places in RAM, and how much is answered

  pub header_in : x + 8 ≤ 2048
  header_in = omega (arith, object_inside, eight (stamped fr))

  pub time_in : stamped fr ≡ true → x + 8 + 4 ≤ 2048
  time_in t = let e : body_at (stamped fr) ≡ 12 = ap body_at t in omega (arith, object_inside)

  pub body_in : x + body_at (stamped fr) + round_up (length m.payload) ≤ 2048
  body_in = omega (arith, object_inside)

  pub body_length : length (part l (x + body_at (stamped fr)) (round_up (length m.payload))) ≡ round_up (length m.payload)
  body_length = length_part l (x + body_at (stamped fr)) (round_up (length m.payload)) (omega (arith, body_in))

  -- ---- the timestamp

  stamp_none : stamped fr ≡ false → m.stamp ≡ None
  stamp_none t = rw t at (sym stamp_is)

  stamp_at : stamped fr ≡ true → m.stamp ≡ Some (le_at l (x + 8))
  stamp_at t =
      let e : body_at (stamped fr) ≡ 12 = ap body_at t in
      let h : m.stamp ≡ Some (le_at (part l x (size fr)) 8) = rw t at (sym stamp_is) in
      h ∙ ap Some (le_part l x (size fr) 8 (x + 8) (omega (arith, inside)) refl)

  -- ---- the steps

  -- by the header
  pub next_header : (want : Want) → next_at want (FetchAt.Header (x + 0x400)) Answer.Exchanged (part l x 8) ≡ FetchAt.Again (x + 0x400) (plain m)
  unfolding after_header
  next_header want =
      ap (λ (r : Result (ℕ × ℕ) Refusal). on_pair FetchAt.Refused r (after_header (x + 0x400))) (pair_given l x (omega (arith, header_in)))
      ∙ (λ i. FetchAt.Again (x + 0x400) (record { header = header_is i; dlc = dlc_is i; filter = filter_is i; stamp = None; len = length_is i }))

  -- the payload k bytes behind the header's place is in RAM
  to_body_lem : (k : ℕ) (s : Option ℕ) → body_at (stamped fr) ≡ k → m.stamp ≡ s → to_body (x + 0x400 + k) (tells m s) ≡ FetchAt.Body (x + 0x400 + k) (found_of m)
  unfolding to_body
  to_body_lem k s e f =
      rw (range_is (x + 0x400 + k) (round_up (length m.payload)) (omega arith) (omega (arith, body_in)))
      (ap (λ (t : Option ℕ). FetchAt.Body (x + 0x400 + k) (tells m t)) (sym f))

  to_time_lem : stamped fr ≡ true → to_time (x + 0x400 + 8) (plain m) ≡ FetchAt.Time (x + 0x400 + 8) (plain m)
  unfolding to_time
  to_time_lem t = rw (range_is (x + 0x400 + 8) 4 (omega arith) (omega (arith, time_in t)))

  -- the payload is no longer than PLSIZE means
  payload_fits : length m.payload ≤ payload_of fr
  payload_fits = omega (arith, inside, body_size fr)

  -- by the control word read again
  pub next_again : (want : Want) (v : ℕ) → flag RXTSEN (v % 2 ^ 32) ≡ stamped fr → payload_of (v % 2 ^ 32) ≡ payload_of fr
      → next_at want (FetchAt.Again (x + 0x400) (plain m)) Answer.Exchanged (le_bytes v)
      ≡ (if stamped fr then FetchAt.Time (x + 0x400 + 8) (plain m) else FetchAt.Body (x + 0x400 + 8) (found_of m))
  unfolding after_again
  next_again want v e g =
      ap (λ (r : Result ℕ Refusal). on_word FetchAt.Refused r (after_again (x + 0x400) (plain m))) (word_said Refusal.SpiRead v)
      ∙ ap (λ (t : Bool). if t then FetchAt.Refused Refusal.LengthBeyondSlot else to_rest (x + 0x400) (plain m) (flag RXTSEN (v % 2 ^ 32)))
      (le-ltb (payload_of (v % 2 ^ 32)) (length m.payload) (omega (arith, g, payload_fits)))
      ∙ ap (λ (t : Bool). if t then to_time (x + 0x400 + 8) (plain m) else to_body (x + 0x400 + 8) (plain m)) e
      ∙ if_both (stamped fr) to_time_lem (λ t. to_body_lem 8 None (ap body_at t) (stamp_none t))

  -- by the timestamp
  pub next_time : (want : Want) → stamped fr ≡ true
      → next_at want (FetchAt.Time (x + 0x400 + 8) (plain m)) Answer.Exchanged (part l (x + 8) 4) ≡ FetchAt.Body (x + 0x400 + 12) (found_of m)
  unfolding after_time
  next_time want t =
      let twelve : x + 0x400 + 8 + 4 ≡ x + 0x400 + 12 = omega arith in
      ap (λ (r : Result ℕ Refusal). on_word FetchAt.Refused r (after_time (x + 0x400 + 8) (plain m))) (word_given l (x + 8) (omega (arith, time_in t)))
      ∙ ap (λ (a : ℕ). to_body a (tells m (Some (le_at l (x + 8))))) twelve
      ∙ to_body_lem 12 (Some (le_at l (x + 8))) (ap body_at t) (stamp_at t)

  -- by the payload
  pub next_body : (want : Want) (a : ℕ)
      → next_at want (FetchAt.Body a (found_of m)) Answer.Exchanged (part l (x + body_at (stamped fr)) (round_up (length m.payload))) ≡ after_body want (found_of m)
  next_body want a = rw (eq-eqb _ _ body_length)

  -- ---- what is held afterwards

  payload_is : part l (x + body_at (stamped fr)) (length m.payload) ≡ m.payload
  unfolding message_in part
  payload_is = sym (part_part l x (size fr) (body_at (stamped fr)) (length m.payload) inside) ∙ ap (λ (k : Message). k.payload) message_in_lem

  body_message : message_of (found_of m) (part l (x + body_at (stamped fr)) (round_up (length m.payload))) ≡ m
  unfolding message_of part
  body_message =
      let n : ℕ = length m.payload in
      let p : take (min n 64) (take (round_up n) (drop (x + body_at (stamped fr)) l)) ≡ m.payload
      = rw (min-eq_left payload_most) (take-take n (round_up n) (drop (x + body_at (stamped fr)) l) (up_le n) ∙ payload_is) in
      λ i. record { header = m.header; dlc = m.dlc; filter = m.filter; seq = sym seq_none i; stamp = m.stamp; payload = p i }

  pub body_held : (held : List ℕ) → message_of (found_of m) (held_of held (part l (x + body_at (stamped fr)) (round_up (length m.payload)))) ≡ m
  body_held held = held_message m held _ (omega (arith, body_length)) ∙ body_message
