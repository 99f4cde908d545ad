-- What is proved of exchanges, as statements.
-- Assumes nothing.
use Rattle.std.specs.Prelude.{ℕ, ◌≡◌, Bool, true, false, not, ◌&&◌, List, [], ◌∷◌, eqb, if◌then◌else◌}
use Rattle.field.specs.Field.{read}
use Rattle.configuration.specs.CanControl.{TXQEN, REQOP}
use Rattle.spi.specs.declared.refusal.Refusal.{Refusal}
use Rattle.spi.specs.Refusals.{numbered}
use Rattle.place.specs.declared.Register.{Register}
use Rattle.operation.specs.declared.operation.Operation.{Operation}
use Rattle.operation.specs.Operation.{asked}
use Rattle.ring.specs.Registers.{frozen_fields}
use Rattle.ring.specs.Laws.{Alike}
use Rattle.state.specs.declared.Model.{Model}
use Rattle.bank.specs.Registers.{word_of, granted}
use Rattle.model.specs.Exchange.{Reply, failed, received, no_layout, exchange}

-- reading a register, plain or checked, and reading RAM
abbrev pub reads : Operation → Bool
reads (Operation.Read r) = true
reads (Operation.Checked r) = true
reads (Operation.ReadRam a) = true
reads (Operation.Write r w) = false
reads (Operation.WriteRam a) = false
reads Operation.Reset = false
reads Operation.None = false

-- reading changes nothing
abbrev pub ReadingKeeps : Type 0
ReadingKeeps = (s : List ℕ) (want : ℕ) (m : Model) → reads (asked s want) ≡ true → (exchange s want m).model ≡ m

-- an exchange that is none of those named comes back failed, and those named don't
abbrev pub OthersFail : Type 0
OthersFail =
    (s : List ℕ) (want : ℕ) (m : Model) → (asked s want ≡ Operation.None → (exchange s want m).reply ≡ failed) × ((exchange s want m).reply ≡ failed → asked s want ≡ Operation.None)

-- what comes back failed changed nothing
abbrev pub FailureKeeps : Type 0
FailureKeeps = (s : List ℕ) (want : ℕ) (m : Model) → (exchange s want m).reply ≡ failed → (exchange s want m).model ≡ m

-- outside Configuration no exchange but RESET changes what FSIZE, PLSIZE, TXEN and RXTSEN of any FIFO read
abbrev pub FrozenOutside : Type 0
FrozenOutside =
    (s : List ℕ) (want : ℕ) (m : Model) → m.fixed.configuring ≡ false → (asked s want ≡ Operation.Reset → ⊥) → (n : ℕ)
    → Alike frozen_fields (word_of (exchange s want m).model (Register.Control n)) (word_of m (Register.Control n))

-- nor of the queue
abbrev pub QueueFrozenOutside : Type 0
QueueFrozenOutside =
    (s : List ℕ) (want : ℕ) (m : Model) → m.fixed.configuring ≡ false → (asked s want ≡ Operation.Reset → ⊥)
    → Alike frozen_fields (word_of (exchange s want m).model Register.QueueControl) (word_of m Register.QueueControl)

-- nor TXQEN
abbrev pub TxqenOutside : Type 0
TxqenOutside =
    (s : List ℕ) (want : ℕ) (m : Model) → m.fixed.configuring ≡ false → (asked s want ≡ Operation.Reset → ⊥)
    → read TXQEN (word_of (exchange s want m).model Register.Con) ≡ read TXQEN (word_of m Register.Con)

-- document 01's number of how an exchange comes back
abbrev pub reply_numbers : Reply → List ℕ
reply_numbers failed = []
reply_numbers (received bs) = []
reply_numbers no_layout = numbered Refusal.NoLayout

-- a CiCON write answers 27 exactly if it asks to leave Configuration and that is not granted
abbrev pub Answers27 : Type 0
Answers27 =
    (s : List ℕ) (want w : ℕ) (m : Model) → asked s want ≡ Operation.Write Register.Con w
    → reply_numbers (exchange s want m).reply
    ≡ (if m.fixed.configuring && not (eqb (read REQOP w) 4) && not (granted m.fixed w) then 27 ∷ [] else [])

-- no other exchange answers 27
abbrev pub OthersAnswerNone : Type 0
OthersAnswerNone =
    (s : List ℕ) (want : ℕ) (m : Model) → ((w : ℕ) → asked s want ≡ Operation.Write Register.Con w → ⊥) → reply_numbers (exchange s want m).reply ≡ []

-- ---- all of these

pub record Laws : Type 0 where
  pub reading_keeps : ReadingKeeps
  pub others_fail : OthersFail
  pub failure_keeps : FailureKeeps
  pub frozen_outside : FrozenOutside
  pub queue_frozen_outside : QueueFrozenOutside
  pub txqen_outside : TxqenOutside
  pub answers27 : Answers27
  pub others_answer_none : OthersAnswerNone
