-- A peek and a get read no RAM but that of the slot; has-next is never refused 35.
-- Assumes nothing.
use Prim.Native.Nat.{ℕ, zero, suc, ◌+◌, ◌≤◌}
use native.Mathlib.Omega.{arith}
use mathlib.Core.Path.{◌≡◌, refl, subst}
use mathlib.Core.Bool.{Bool, true, false, ◌&&◌, true≢false}
use mathlib.Core.List.{List, [], ◌∷◌}
use lib.ListN.{length, get_or, take}
use lib.Dec.{eqb, ltb, leb}
use borrow.Author.Tests.{leb-true, ltb-false}
use Rattle.std.specs.Prelude.{if◌then◌else◌, Result}
use Rattle.laws.proofs.Choice.{by_if}
use Rattle.laws.proofs.Table.{both}
use Rattle.field.specs.Field.{flag, mark}
use Rattle.fifo.specs.Control.{CiFIFOCON, TXEN, RXTSEN, UINC, payload_of, is_fifo}
use Rattle.fifo.specs.Status.{CiFIFOSTA, TFNRFNIF}
use Rattle.fifo.specs.UserAddress.{CiFIFOUA}
use Rattle.fifo.proofs.Sizes.{payload_whole}
use Rattle.words.specs.Words.{le_at, round_up}
use Rattle.message.specs.Message.{Message, body_at}
use Rattle.spi.specs.declared.refusal.Refusal.{Refusal}
use Rattle.spi.specs.declared.ask.Ask.{Ask}
use Rattle.spi.specs.declared.ask.Answer.{Answer}
use Rattle.spi.specs.Refusals.{numbered}
use Rattle.spi.specs.Ram.{in_range}
use Rattle.spi.specs.Reply.{word_reply, pair_reply}
use Rattle.spi.specs.Talk.{Talk, done, refused, ask, on_word, asks, answered, run, read_word, read_pair}
use Rattle.spi.proofs.Talks.{by_pair}
use Rattle.spi.proofs.Always.{Always, choice, reads, gets, puts, after}
use Rattle.call.specs.declared.Found.{Found}
use Rattle.fetch.specs.declared.Want.{Want}
use Rattle.fetch.specs.Step.{found_by, stamped}
use Rattle.rx_fifo.specs.Outcome.{message_of}
use Rattle.rx_fifo.specs.Talk.{Fetched, told, message, commit_talk, last_talk, to_body_talk, rest_talk, again_talk, to_header_talk, address_talk, held_talk, has_next_talk, lent_talk}
use Rattle.rx_fifo.specs.Laws.{slot_size, ReadsIn, word_in, ReadsItsSlot, HasNextNever35}
use Rattle.rx_fifo.proofs.Objects.{eight}

-- ---- what holds of all that a talk asks for on these answers

module _ (P : Ask → Type 0) (nothing : P Ask.Nothing) where
  abbrev On : Talk Fetched → List (Answer × List ℕ) → Type 0
  On t xs = (k : ℕ) → P (asks (run answered t (take k xs)))

  -- what holds whatever is answered
  every : (xs : List (Answer × List ℕ)) (t : Talk Fetched) → Always P t → On t xs
  every xs t h k = after P nothing t (take k xs) h

  -- a word is read, and goes into what follows
  on_word_lem : (x : ℕ) (k : ℕ → Talk Fetched) (a : Answer × List ℕ) (xs : List (Answer × List ℕ)) → P (Ask.Read x 4) → On (k (word_in a)) xs
      → On (read_word Refusal.SpiRead x k) (a ∷ xs)
  unfolding run answered
  on_word_lem x k a xs p h zero = p
  on_word_lem x k (Answer.Exchanged, rx) xs p h (suc n) =
      by_if (λ (r : Result ℕ Refusal). P (asks (run answered (on_word refused r k) (take n xs)))) (eqb (length rx) 4)
      (λ t. h n) (λ t. every xs (refused Refusal.WrongAnswer) tt n)
  on_word_lem x k (Answer.Failed, rx) xs p h (suc n) = every xs (refused Refusal.SpiRead) tt n
  on_word_lem x k (Answer.Waited, rx) xs p h (suc n) = every xs (refused Refusal.WrongAnswer) tt n

  -- two words are read
  on_pair_lem : (x : ℕ) (k : ℕ → ℕ → Talk Fetched) (a : Answer × List ℕ) (xs : List (Answer × List ℕ)) → P (Ask.Read x 8) → ((c d : ℕ) → On (k c d) xs)
      → On (read_pair Refusal.SpiRead x k) (a ∷ xs)
  unfolding run answered
  on_pair_lem x k a xs p h zero = p
  on_pair_lem x k a xs p h (suc n) =
      by_pair (λ (t : Talk Fetched). P (asks (run answered t (take n xs)))) (λ r. every xs (refused r) tt n)
      (pair_reply Refusal.SpiRead a.0 a.1) (λ c d. h c d n)

  -- refused, or it goes on
  on_if : (b : Bool) (r : Refusal) (t : Talk Fetched) (xs : List (Answer × List ℕ)) → (b ≡ false → On t xs) → On (if b then refused r else t) xs
  on_if b r t xs h = by_if (λ (x : Talk Fetched). On x xs) b (λ e. every xs (refused r) tt) h

  -- it goes on, or is over
  on_else : (b : Bool) (t s : Talk Fetched) (xs : List (Answer × List ℕ)) → (b ≡ true → On t xs) → Always P s → On (if b then t else s) xs
  on_else b t s xs h l = by_if (λ (x : Talk Fetched). On x xs) b h (λ e. every xs s l)

-- ---- the slot, by the user address and control again

module _ (fifo u w : ℕ) (low : 1 ≤ fifo) (high : fifo ≤ 31) where
  abbrev Slot : Ask → Type 0
  Slot = ReadsIn (u + 0x400) (slot_size w)

  -- a register
  control_in : Slot (Ask.Read (CiFIFOCON.address fifo) 4)
  control_in l = absurd (omega arith)

  last_in : (want : Want) (m : Message) → Always Slot (last_talk want fifo m)
  last_in Want.HasNext m = tt
  last_in Want.Peek m = tt
  last_in Want.Get m =
      reads Slot Refusal.SpiRead (CiFIFOCON.address fifo) (λ w. commit_talk fifo w m) control_in
      (λ w. puts Slot Refusal.SpiRead (Ask.Word (CiFIFOCON.address fifo) (mark UINC true w)) (done (message m)) tt tt)

  body_in : (want : Want) (x : ℕ) (f : Found) → u + 0x400 ≤ x → x + round_up f.len ≤ u + 0x400 + slot_size w → Always Slot (to_body_talk want fifo x f)
  body_in want x f l r =
      choice Slot (in_range x (round_up f.len)) _ _
      (λ t. gets Slot Refusal.SpiRead x (round_up f.len) _ (λ e. (l, r)) (λ rx. last_in want (message_of f rx))) (λ t. tt)

  rest_in : (want : Want) (b : Bool) (f : Found) → body_at b + round_up f.len ≤ slot_size w → Always Slot (rest_talk want fifo (u + 0x400) f b)
  rest_in want true f l =
      choice Slot (in_range (u + 0x400 + 8) 4) _ _
      (λ t. reads Slot Refusal.SpiRead (u + 0x400 + 8) _ (λ e. (omega arith, omega arith))
      (λ v. body_in want (u + 0x400 + 8 + 4) (stamped f v) (omega arith) (omega arith)))
      (λ t. tt)
  rest_in want false f l = body_in want (u + 0x400 + 8) f (omega arith) (omega arith)

-- ---- a call on answers

module _ (fifo : ℕ) (low : 1 ≤ fifo) (high : fifo ≤ 31) (user header again : Answer × List ℕ) (xs : List (Answer × List ℕ)) where
  abbrev In : Ask → Type 0
  In = ReadsIn (word_in user + 0x400) (slot_size (word_in again))

  again_on : (want : Want) (f : Found) → On In tt (again_talk want fifo (word_in user + 0x400) f) (again ∷ xs)
  again_on want f =
      let w : ℕ = word_in again in
      on_word_lem In tt (CiFIFOCON.address fifo) _ again xs (control_in fifo (word_in user) w low high)
      (on_if In tt (ltb (payload_of w) f.len) _ _ xs
      (λ t. every In tt xs _ (rest_in fifo (word_in user) w low high want (flag RXTSEN w) f (omega (arith, ltb-false (payload_of w) f.len t, payload_whole w)))))

  header_on : (want : Want) → On In tt (to_header_talk want fifo (word_in user)) (header ∷ again ∷ xs)
  header_on want =
      let m : ℕ = word_in user + 0x400 in
      on_if In tt (ltb 0xFBFF (word_in user)) _ _ (header ∷ again ∷ xs)
      (λ t. on_else In tt (in_range m 8) _ _ (header ∷ again ∷ xs)
      (λ e. on_pair_lem In tt m _ header (again ∷ xs) (λ l. (omega arith, omega (arith, eight (flag RXTSEN (word_in again))))) (λ c d. again_on want (found_by c d)))
      tt)

  address_on : (want : Want) → On In tt (address_talk want fifo) (user ∷ header ∷ again ∷ xs)
  address_on want = on_word_lem In tt (CiFIFOUA.address fifo) _ user (header ∷ again ∷ xs) (λ l. absurd (omega arith)) (header_on want)

  held_on : (want : Want) (next : Bool) → On In tt (held_talk want fifo next) (user ∷ header ∷ again ∷ xs)
  held_on Want.HasNext next = every In tt (user ∷ header ∷ again ∷ xs) (done (told next)) tt
  held_on Want.Peek next = on_else In tt next _ _ (user ∷ header ∷ again ∷ xs) (λ t. address_on Want.Peek) tt
  held_on Want.Get next = on_else In tt next _ _ (user ∷ header ∷ again ∷ xs) (λ t. address_on Want.Get) tt

pub reads_its_slot_lem : ReadsItsSlot
unfolding lent_talk is_fifo
reads_its_slot_lem want fifo room control status user header again xs =
    let P : Ask → Type 0 = ReadsIn (word_in user + 0x400) (slot_size (word_in again)) in
    let ys : List (Answer × List ℕ) = user ∷ header ∷ again ∷ xs in
    on_else P tt (leb 1 fifo && leb fifo 31) _ _ (control ∷ status ∷ ys)
    (λ t.
    let (l, r) = both (leb 1 fifo) (leb fifo 31) t in
    let low : 1 ≤ fifo = leb-true _ _ l in
    let high : fifo ≤ 31 = leb-true _ _ r in
    on_if P tt (ltb room 64) _ _ (control ∷ status ∷ ys)
    (λ e. on_word_lem P tt (CiFIFOCON.address fifo) _ control (status ∷ ys) (λ l. absurd (omega arith))
    (on_if P tt (flag TXEN (word_in control)) _ _ (status ∷ ys)
    (λ e. on_word_lem P tt (CiFIFOSTA.address fifo) _ status ys (λ l. absurd (omega arith))
    (held_on fifo low high user header again xs want (flag TFNRFNIF (word_in status)))))))
    tt

-- ---- has-next

abbrev is35 : Refusal → Bool
is35 r = eqb (get_or (numbered r) 0 0) 35

-- no refusal that a talk may end with is 35
abbrev Never : Talk Fetched → Type 0
Never (done x) = Unit {0}
Never (refused r) = is35 r ≡ false
Never (ask q k) = (a : Answer) (rx : List ℕ) → Never (k a rx)

never_after : (t : Talk Fetched) → Never t → (xs : List (Answer × List ℕ)) → Never (run answered t xs)
unfolding run answered
never_after t h [] = h
never_after (done x) h (y ∷ ys) = never_after (refused Refusal.WrongAnswer) refl ys
never_after (refused r) h (y ∷ ys) = never_after (refused Refusal.WrongAnswer) refl ys
never_after (ask q k) h (y ∷ ys) = never_after (k y.0 y.1) (h y.0 y.1) ys

never_word : (k : ℕ → Talk Fetched) → ((w : ℕ) → Never (k w)) → (a : Answer) (rx : List ℕ) → Never (on_word refused (word_reply Refusal.SpiRead a rx) k)
never_word k h Answer.Exchanged rx = by_if (λ (r : Result ℕ Refusal). Never (on_word refused r k)) (eqb (length rx) 4) (λ t. h (le_at rx 0)) (λ t. refl)
never_word k h Answer.Failed rx = refl
never_word k h Answer.Waited rx = refl

has_next_never : (fifo : ℕ) → Never (has_next_talk fifo)
unfolding has_next_talk
has_next_never fifo =
    by_if Never (is_fifo fifo) (λ t. never_word _ (λ w. by_if Never (flag TXEN w) (λ e. refl) (λ e. never_word _ (λ v. tt)))) (λ t. refl)

pub has_next_never_35 : HasNextNever35
has_next_never_35 fifo xs e = true≢false (subst Never e (never_after (has_next_talk fifo) (has_next_never fifo) xs))
