-- The pattern of an echo, put together and compared word by word.
-- Assumes nothing.
use Prim.Native.Nat.{ℕ, zero, suc, ◌+◌, ◌*◌, ◌^◌, ◌≤◌, ◌<◌}
use mathlib.Core.Path.{◌≡◌, refl, sym, ◌∙◌}
use mathlib.Core.List.{List, [], ◌∷◌, append-nil}
use native.Mathlib.Omega.{arith}
use native.Mathlib.Numerals.{add-one}
use lib.Dec.{eqb}
use lib.ListN.{length, replicate, take, drop, get_or, length-append, length-drop}
use lib.Seq.{take-add, take_all, get_or-drop}
use borrow.Author.Tests.{eqb-true}
use Rattle.laws.proofs.Table.{at}
use Rattle.words.specs.Words.{le_bytes, le_at}
use Rattle.words.proofs.Laws.{le_length, le_again, le_drop}
use Rattle.parts.specs.Parts.{put, zeroed}
use Rattle.parts.proofs.Laws.{put_next}
use Rattle.ram.specs.Echo.{bit_words, echo_bytes}

pub length_words : (n : ℕ) → length (bit_words n) ≡ 4 * n
unfolding bit_words
length_words zero = refl
length_words (suc n) = simp (length-append, length_words n, le_length (2 ^ n)) (omega arith)

pub no_words : replicate 128 0 ≡ zeroed 128 (bit_words 0)
unfolding zeroed bit_words
no_words = refl

-- one word more: the word with bit n set is put behind those that are there
pub next_word : (n : ℕ) {p q b : List ℕ} {w : ℕ} → p ≡ zeroed 128 (bit_words n) → w ≡ 2 ^ n → b ≡ le_bytes w → q ≡ put p (4 * n) b
    → q ≡ zeroed 128 (bit_words (n + 1))
unfolding bit_words
next_word n e k f g = rw (g, e, f, k, add-one n, sym (length_words n)) (put_next 128 (bit_words n) (le_bytes (2 ^ n)))

-- nothing is left behind 32
pub all_words : zeroed 128 (bit_words 32) ≡ echo_bytes
unfolding zeroed echo_bytes
all_words = rw (length_words 32) (append-nil (bit_words 32))

-- ---- what was read back

pub no_words_back : (rx : List ℕ) → take 0 rx ≡ bit_words 0
unfolding bit_words
no_words_back rx = refl

-- the first four bytes are those of the word that they stand for
front : (s : List ℕ) → 4 ≤ length s → ((k : ℕ) → get_or s k 0 < 256) → take 4 s ≡ le_bytes (le_at s 0)
front [] h low = absurd (omega arith)
front (a ∷ []) h low = absurd (omega arith)
front (a ∷ b ∷ []) h low = absurd (omega arith)
front (a ∷ b ∷ c ∷ []) h low = absurd (omega arith)
front (a ∷ b ∷ c ∷ d ∷ r) h low = sym (le_again a b c d r (low 0) (low 1) (low 2) (low 3))

-- one word more came back
pub next_back : (n : ℕ) (rx : List ℕ) → 4 * n + 4 ≤ length rx → ((k : ℕ) → get_or rx k 0 < 256) → take (4 * n) rx ≡ bit_words n → le_at rx (4 * n) ≡ 2 ^ n
    → take (4 * (n + 1)) rx ≡ bit_words (n + 1)
unfolding bit_words
next_back n rx h low e w =
    let at_n : 4 * (n + 1) ≡ 4 * n + 4 = omega arith in
    let word = front (drop (4 * n) rx) (simp length-drop (omega arith)) (λ k. rw get_or-drop (low (4 * n + k))) in
    rw (at_n, take-add, e, word, ← le_drop, w, add-one n)

pub length_echo : length echo_bytes ≡ 128
unfolding echo_bytes
length_echo = length_words 32

-- all came back
pub all_back : (rx : List ℕ) → length rx ≡ 128 → take (4 * 32) rx ≡ bit_words 32 → rx ≡ echo_bytes
unfolding echo_bytes
all_back rx h e = sym (take_all 128 rx (omega arith)) ∙ e

-- each word of the pattern is the power of 2 that it should be
pub word_at : (n : ℕ) → n < 32 → le_at echo_bytes (4 * n) ≡ 2 ^ n
unfolding echo_bytes bit_words le_at le_bytes
word_at n h = eqb-true (le_at echo_bytes (4 * n)) (2 ^ n) (at (λ k. eqb (le_at echo_bytes (4 * k)) (2 ^ k)) 32 refl n h)
