-- A call as the line sees it: it asks, and goes on by what is answered, until it is done or refused.
-- Assumes nothing.
use Rattle.std.specs.Prelude.{ℕ, zero, suc, ◌≡◌, List, [], ◌∷◌, length, Result, Ok, Err}
use Rattle.spi.specs.declared.refusal.Refusal.{Refusal}
use Rattle.spi.specs.declared.ask.Ask.{Ask}
use Rattle.spi.specs.declared.ask.Answer.{Answer}
use Rattle.spi.specs.declared.reply.CheckedWord.{CheckedWord}
use Rattle.spi.specs.Reply.{word_reply, pair_reply, done_reply, wait_reply, crc_reply}

pub data Talk (A : Type 0) : Type 0 where
  done : A → Talk A
  refused : Refusal → Talk A
  ask : Ask → (Answer → List ℕ → Talk A) → Talk A

-- ---- to go on by what an answer says, or by its refusal

abbrev pub on_word : {T : Type 0} → (Refusal → T) → Result ℕ Refusal → (ℕ → T) → T
on_word bad (Ok w) k = k w
on_word bad (Err r) k = bad r

abbrev pub on_pair : {T : Type 0} → (Refusal → T) → Result (ℕ × ℕ) Refusal → (ℕ → ℕ → T) → T
on_pair bad (Ok (a, b)) k = k a b
on_pair bad (Err r) k = bad r

abbrev pub on_done : {T : Type 0} → (Refusal → T) → Result (Unit {0}) Refusal → T → T
on_done bad (Ok _) k = k
on_done bad (Err r) k = bad r

abbrev pub on_checked : {T : Type 0} → (Refusal → T) → CheckedWord → T → (ℕ → T) → T
on_checked bad (CheckedWord.Word w) other k = k w
on_checked bad CheckedWord.Mismatch other k = other
on_checked bad (CheckedWord.Bad r) other k = bad r

-- ---- exchanges; `failed` is the refusal that a failed one means

-- a word is read
abbrev pub read_word : {A : Type 0} → Refusal → ℕ → (ℕ → Talk A) → Talk A
read_word failed address k = ask (Ask.Read address 4) (λ a rx. on_word refused (word_reply failed a rx) k)

-- two words are read
abbrev pub read_pair : {A : Type 0} → Refusal → ℕ → (ℕ → ℕ → Talk A) → Talk A
read_pair failed address k = ask (Ask.Read address 8) (λ a rx. on_pair refused (pair_reply failed a rx) k)

-- so many bytes are read
abbrev pub read_bytes : {A : Type 0} → Refusal → (address count : ℕ) → (List ℕ → Talk A) → Talk A
read_bytes failed address count k = ask (Ask.Read address count) (λ a rx. on_done refused (done_reply failed a (length rx) count) (k rx))

-- a checked read; the third way is that of a mismatch
abbrev pub read_checked : {A : Type 0} → Refusal → ℕ → Talk A → (ℕ → Talk A) → Talk A
read_checked failed address other k = ask (Ask.Checked address) (λ a rx. on_checked refused (crc_reply failed address a rx) other k)

-- a word is written
abbrev pub write_word : {A : Type 0} → Refusal → (address word : ℕ) → Talk A → Talk A
write_word failed address word k = ask (Ask.Word address word) (λ a rx. on_done refused (done_reply failed a (length rx) 0) k)

-- the first bytes of the call's body are written
abbrev pub write_body : {A : Type 0} → Refusal → (address count : ℕ) → Talk A → Talk A
write_body failed address count k = ask (Ask.Body address count) (λ a rx. on_done refused (done_reply failed a (length rx) 0) k)

-- the chip is reset
abbrev pub reset_chip : {A : Type 0} → Refusal → Talk A → Talk A
reset_chip failed k = ask Ask.Reset (λ a rx. on_done refused (done_reply failed a (length rx) 0) k)

-- a wait
abbrev pub pause : {A : Type 0} → Talk A → Talk A
pause k = ask Ask.Wait (λ a rx. on_done refused (wait_reply a (length rx)) k)

-- one call, and where it is done another
unfoldable pub and_then : {A B : Type 0} → Talk A → (A → Talk B) → Talk B
and_then (done x) k = k x
and_then (refused r) k = refused r
and_then (ask q t) k = ask q (λ a rx. and_then (t a rx) k)

-- ---- a talk on answers

-- what is asked now
abbrev pub asks : {A : Type 0} → Talk A → Ask
asks (done x) = Ask.Nothing
asks (refused r) = Ask.Nothing
asks (ask q k) = q

-- after an answer; one that comes after the end is refused 26
unfoldable pub answered : {A : Type 0} → Talk A → Answer → List ℕ → Talk A
answered (done x) a rx = refused Refusal.WrongAnswer
answered (refused r) a rx = refused Refusal.WrongAnswer
answered (ask q k) a rx = k a rx

-- after a list of answers
unfoldable pub run : {S : Type 0} → (S → Answer → List ℕ → S) → S → List (Answer × List ℕ) → S
run step s [] = s
run step s (x ∷ xs) = run step (step s x.0 x.1) xs

-- at most n exchanges and waits, whatever is answered: so the call ends
abbrev pub Within : {A : Type 0} → ℕ → Talk A → Type 0
Within n (done x) = Unit {0}
Within n (refused r) = Unit {0}
Within zero (ask q k) = ⊥
Within (suc n) (ask q k) = (a : Answer) (rx : List ℕ) → Within n (k a rx)

-- ---- a machine of the code follows a talk: it asks what the talk asks, and says of every answer what the talk says

pub record Follows {S A : Type 0} (step : S → Answer → List ℕ → S) (asking : S → Ask) (talk_of : S → Talk A) : Type 0 where
  pub stepped : (s : S) (a : Answer) (rx : List ℕ) → talk_of (step s a rx) ≡ answered (talk_of s) a rx
  pub asked : (s : S) → asking s ≡ asks (talk_of s)
