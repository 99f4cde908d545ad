-- Talks of which every ask has a property, whatever is answered.
-- Assumes nothing.
use Prim.Native.Nat.{ℕ}
use mathlib.Core.Path.{◌≡◌}
use mathlib.Core.Bool.{Bool, true, false}
use mathlib.Core.List.{List, [], ◌∷◌}
use lib.ListN.{length}
use Rattle.std.specs.Prelude.{if◌then◌else◌}
use Rattle.laws.proofs.Choice.{by_if}
use Rattle.spi.specs.declared.refusal.Refusal.{Refusal}
use Rattle.spi.specs.declared.ask.Ask.{Ask}
use Rattle.spi.specs.declared.ask.Answer.{Answer}
use Rattle.spi.specs.Reply.{word_reply, pair_reply, done_reply, wait_reply, crc_reply}
use Rattle.spi.specs.Talk.{Talk, done, refused, ask, on_done, and_then, asks, answered, run, read_word, read_pair, read_bytes, read_checked, pause}
use Rattle.spi.proofs.Talks.{by_word, by_pair, by_done, by_checked}

abbrev pub Always : {A : Type 0} → (Ask → Type 0) → Talk A → Type 0
Always P (done x) = Unit {0}
Always P (refused r) = Unit {0}
Always P (ask q k) = P q × ((a : Answer) (rx : List ℕ) → Always P (k a rx))

module _ (P : Ask → Type 0) where
  module _ {A : Type 0} where
    pub choice : (b : Bool) (x y : Talk A) → (b ≡ true → Always P x) → (b ≡ false → Always P y) → Always P (if b then x else y)
    choice b x y h l = by_if (λ (t : Talk A). Always P t) b h l

    pub reads : (failed : Refusal) (address : ℕ) (k : ℕ → Talk A) → P (Ask.Read address 4) → ((w : ℕ) → Always P (k w)) → Always P (read_word failed address k)
    reads failed address k l h = (l, λ a rx. by_word (λ t. Always P t) (λ r. tt) (word_reply failed a rx) h)

    pub pairs : (failed : Refusal) (address : ℕ) (k : ℕ → ℕ → Talk A) → P (Ask.Read address 8) → ((v w : ℕ) → Always P (k v w))
        → Always P (read_pair failed address k)
    pairs failed address k l h = (l, λ a rx. by_pair (λ t. Always P t) (λ r. tt) (pair_reply failed a rx) h)

    pub checks : (failed : Refusal) (address : ℕ) (other : Talk A) (k : ℕ → Talk A) → P (Ask.Checked address) → Always P other → ((w : ℕ) → Always P (k w))
        → Always P (read_checked failed address other k)
    checks failed address other k l o h = (l, λ a rx. by_checked (λ t. Always P t) (λ r. tt) (crc_reply failed address a rx) o h)

    pub waits : (k : Talk A) → P Ask.Wait → Always P k → Always P (pause k)
    waits k l h = (l, λ a rx. by_done (λ t. Always P t) (λ r. tt) (wait_reply a (length rx)) h)

    -- where so many bytes are wanted
    pub gets : (failed : Refusal) (address want : ℕ) (k : List ℕ → Talk A) → P (Ask.Read address want) → ((rx : List ℕ) → Always P (k rx))
        → Always P (read_bytes failed address want k)
    gets failed address want k l h = (l, λ a rx. by_done (λ t. Always P t) (λ r. tt) (done_reply failed a (length rx) want) (h rx))

    -- where none is
    pub puts : (failed : Refusal) (q : Ask) (k : Talk A) → P q → Always P k → Always P (ask q (λ a rx. on_done refused (done_reply failed a (length rx) 0) k))
    puts failed q k l h = (l, λ a rx. by_done (λ t. Always P t) (λ r. tt) (done_reply failed a (length rx) 0) h)

    pub after : P Ask.Nothing → (t : Talk A) (xs : List (Answer × List ℕ)) → Always P t → P (asks (run answered t xs))
    unfolding run answered
    after n (done x) [] h = n
    after n (refused r) [] h = n
    after n (ask q k) [] h = h.0
    after n (done x) (y ∷ ys) h = after n (refused Refusal.WrongAnswer) ys tt
    after n (refused r) (y ∷ ys) h = after n (refused Refusal.WrongAnswer) ys tt
    after n (ask q k) (y ∷ ys) h = after n (k y.0 y.1) ys (h.1 y.0 y.1)

  pub then_always : {A B : Type 0} (t : Talk A) (k : A → Talk B) → Always P t → ((x : A) → Always P (k x)) → Always P (and_then t k)
  unfolding and_then
  then_always (done x) k h l = l x
  then_always (refused r) k h l = tt
  then_always (ask q t) k h l = (h.0, λ a rx. then_always (t a rx) k (h.1 a rx) l)
