-- What exchanges change, and what they leave.
-- Assumes nothing.
use mathlib.Core.Path.{◌≡◌, refl, sym, ap, subst, ◌∙◌}
use mathlib.Core.Bool.{Bool, true, false, not, ◌&&◌}
use mathlib.Core.List.{List, [], ◌∷◌}
use Prim.Native.Nat.{ℕ}
use lib.ListN.{get_or}
use lib.Dec.{eqb}
use Rattle.std.specs.Prelude.{if◌then◌else◌}
use Rattle.laws.proofs.Choice.{by_if}
use Rattle.field.specs.Field.{Field, read, digit}
use Rattle.configuration.specs.CanControl.{REQOP}
use Rattle.place.specs.declared.Register.{Register}
use Rattle.operation.specs.declared.operation.Operation.{Operation}
use Rattle.operation.specs.Operation.{asked}
use Rattle.ring.specs.Registers.{frozen_fields, copied, control}
use Rattle.ring.specs.Ring.{fresh}
use Rattle.ring.specs.Laws.{Alike}
use Rattle.ring.proofs.Laws.{frozen_kept}
use Rattle.state.specs.declared.Model.{Model}
use Rattle.state.specs.Model.{frozen_at}
use Rattle.bank.specs.declared.writing.Written.{Written}
use Rattle.bank.specs.Registers.{word_of, denied, granted, con_set, con_written, register_written}
use Rattle.bank.proofs.Laws.{fixed_outside}
use Rattle.bank.proofs.QueueLaws.{txqen_reads_lem}
use Rattle.model.specs.Exchange.{failed, received, no_layout, done_writing, performed, exchange}
use Rattle.model.specs.Laws.{reads, ReadingKeeps, OthersFail, FailureKeeps, FrozenOutside, QueueFrozenOutside, TxqenOutside, reply_numbers, Answers27, OthersAnswerNone}

keeps : (o : Operation) (s : List ℕ) (want : ℕ) (m : Model) → reads o ≡ true → (performed o s want m).model ≡ m
unfolding performed
keeps (Operation.Read r) s want m e = refl
keeps (Operation.Checked r) s want m e = refl
keeps (Operation.ReadRam a) s want m e = refl
keeps (Operation.Write r w) s want m e = cc
keeps (Operation.WriteRam a) s want m e = cc
keeps Operation.Reset s want m e = cc
keeps Operation.None s want m e = refl

pub reading_keeps_lem : ReadingKeeps
unfolding exchange
reading_keeps_lem s want m e = keeps (asked s want) s want m e

-- a write that is done is not failed
wrote_well : (granted : Bool) (o p : Operation) → (if granted then received [] else no_layout) ≡ failed → o ≡ p
wrote_well true o p e = cc
wrote_well false o p e = cc

none_fails : (o : Operation) (s : List ℕ) (want : ℕ) (m : Model) → (performed o s want m).reply ≡ failed → o ≡ Operation.None
unfolding performed
none_fails (Operation.Read r) s want m e = cc
none_fails (Operation.Checked r) s want m e = cc
none_fails (Operation.ReadRam a) s want m e = cc
none_fails (Operation.Write r w) s want m e = wrote_well (register_written m r w).granted (Operation.Write r w) Operation.None e
none_fails (Operation.WriteRam a) s want m e = cc
none_fails Operation.Reset s want m e = cc
none_fails Operation.None s want m e = refl

pub others_fail_lem : OthersFail
unfolding exchange performed
others_fail_lem s want m = (λ e. rw e, λ e. none_fails (asked s want) s want m e)

pub failure_keeps_lem : FailureKeeps
unfolding exchange performed
failure_keeps_lem s want m e = let n = none_fails (asked s want) s want m e in rw n

-- what is fixed, after an operation outside Configuration
module _ (s : List ℕ) (want : ℕ) (m : Model) (c : m.fixed.configuring ≡ false) where
  stays : (o : Operation) → (o ≡ Operation.Reset → ⊥)
      → ((performed o s want m).model.fixed.frozen ≡ m.fixed.frozen) × ((performed o s want m).model.fixed.queue ≡ m.fixed.queue)
  unfolding performed
  stays (Operation.Read r) h = (refl, refl)
  stays (Operation.Checked r) h = (refl, refl)
  stays (Operation.ReadRam a) h = (refl, refl)
  stays (Operation.Write r w) h = fixed_outside m r w c
  stays (Operation.WriteRam a) h = (refl, refl)
  stays Operation.Reset h = absurd (h refl)
  stays Operation.None h = (refl, refl)

  module _ (h : asked s want ≡ Operation.Reset → ⊥) where
    abbrev next : Model
    next = (exchange s want m).model

    still : (n : ℕ) → frozen_at next n ≡ frozen_at m n
    unfolding exchange
    still n = ap (λ (ws : List ℕ). get_or ws n 0) (stays (asked s want) h).0

    on : next.fixed.queue ≡ m.fixed.queue
    unfolding exchange
    on = (stays (asked s want) h).1

alike : (fs : List Field) (u v w : ℕ) → Alike fs u w → Alike fs v w → Alike fs u v
alike [] u v w a b = tt
alike (f ∷ fs) u v w a b = (a.0 ∙ sym b.0, alike fs u v w a.1 b.1)

-- control words of the same frozen fields
alike_frozen : (v w x y : ℕ) → v ≡ w → Alike frozen_fields (copied frozen_fields v x) (copied frozen_fields w y)
unfolding control fresh
alike_frozen v w x y e =
    alike frozen_fields _ _ w (subst (λ (k : ℕ). Alike frozen_fields (copied frozen_fields v x) k) e (frozen_kept v (fresh x))) (frozen_kept w (fresh y))

pub frozen_outside_all : FrozenOutside
unfolding word_of control
frozen_outside_all s want m c h n = alike_frozen _ _ _ _ (still s want m c h n)

pub queue_frozen_outside_lem : QueueFrozenOutside
unfolding word_of
queue_frozen_outside_lem s want m c h = alike_frozen _ _ _ _ (still s want m c h 0)

pub txqen_outside_all : TxqenOutside
txqen_outside_all s want m c h = txqen_reads_lem (exchange s want m).model ∙ ap digit (on s want m c h) ∙ sym (txqen_reads_lem m)

-- a write of CiCON: the first of its tests tells
told : (b : Bool) (x : Model) (y : Written) → y.granted ≡ true
    → reply_numbers (done_writing (if b then denied x else y)).reply ≡ (if b then 27 ∷ [] else [])
told true x y e = refl
told false x y e = rw e

pub answers_27 : Answers27
unfolding exchange performed register_written con_written
answers_27 s want w m e =
    let P : Written → Type 0 = λ y. y.granted ≡ true in
    rw e
    (told (m.fixed.configuring && not (eqb (read REQOP w) 4) && not (granted m.fixed w)) (con_set m w true) _
    (by_if P (eqb (read REQOP w) 4) (λ q. by_if P m.fixed.configuring (λ c. refl) (λ c. refl)) (λ q. by_if P m.fixed.configuring (λ c. refl) (λ c. refl))))

no_number : (o : Operation) (s : List ℕ) (want : ℕ) (m : Model)
    → ((w : ℕ) → o ≡ Operation.Write Register.Con w → ⊥) → reply_numbers (performed o s want m).reply ≡ []
unfolding performed register_written
no_number (Operation.Write Register.Con w) s want m h = absurd (h w refl)
no_number (Operation.Write Register.Osc w) s want m h = refl
no_number (Operation.Write (Register.Plain k) w) s want m h = refl
no_number (Operation.Write (Register.Filter k) w) s want m h = refl
no_number (Operation.Write (Register.Object k) w) s want m h = refl
no_number (Operation.Write (Register.Mask k) w) s want m h = refl
no_number (Operation.Write (Register.Control n) w) s want m h = refl
no_number (Operation.Write (Register.Status n) w) s want m h = refl
no_number (Operation.Write (Register.Address n) w) s want m h = refl
no_number (Operation.Write Register.QueueControl w) s want m h = refl
no_number (Operation.Write Register.QueueStatus w) s want m h = refl
no_number (Operation.Write Register.QueueAddress w) s want m h = refl
no_number (Operation.Read r) s want m h = refl
no_number (Operation.Checked r) s want m h = refl
no_number (Operation.ReadRam a) s want m h = refl
no_number (Operation.WriteRam a) s want m h = refl
no_number Operation.Reset s want m h = refl
no_number Operation.None s want m h = refl

pub others_answer_none_lem : OthersAnswerNone
unfolding exchange
others_answer_none_lem s want m h = no_number (asked s want) s want m h
