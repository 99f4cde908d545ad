-- What the driver hears: of an exchange that is carried out, of one that fails, of a wait.
-- Assumes nothing.
use mathlib.Core.Path.{◌≡◌, ap, ◌∙◌}
use mathlib.Core.Bool.{Bool, true, false}
use mathlib.Core.List.{List, []}
use Prim.Native.Nat.{ℕ}
use Rattle.laws.proofs.Choice.{by_if}
use Rattle.spi.specs.declared.ask.Ask.{Ask}
use Rattle.spi.specs.declared.ask.Answer.{Answer}
use Rattle.spi.specs.Ask.{sent, wanted}
use Rattle.driver.specs.Call.{Call}
use Rattle.driver.specs.Step.{ask_of, step_of}
use Rattle.driver.specs.Send.{body_of}
use Rattle.state.specs.declared.Model.{Model}
use Rattle.model.specs.Exchange.{Done, exchange}
use Rattle.history.specs.Command.{Command}
use Rattle.history.specs.History.{Said, Doing, World, Heard, hears, by_reply, answered, waits, heard, settled, goes_on}

abbrev pub world : Model → Doing → List Said → World
world c d t = record { chip = c; doing = d; said = t }

-- what came of an exchange
abbrev pub hearing : Done → Heard
hearing d = by_reply d.reply d.model

-- what is asked goes to the chip, with the bytes of a call's body
abbrev pub spoken : Ask → List ℕ → Model → Heard
spoken q body c = hearing (exchange (sent q body) (wanted q) c)

module _ (s : Call) (c : Model) where
  carried : (q : Ask) (b : List ℕ) → ask_of s ≡ q → body_of s [] ≡ b → waits q ≡ false → heard true s c ≡ spoken q b c
  unfolding heard answered
  carried q b e f w = rw (e, f, w)

  lost : waits (ask_of s) ≡ false → heard false s c ≡ hears Answer.Failed [] c
  unfolding heard
  lost w = rw w

-- what holds of a wait, of what the chip answers and of a failure holds of whatever the driver hears
pub heard_by_lem : (P : Heard → Type 0) (b : Bool) (s : Call) (q : Ask) → ask_of s ≡ q → (c : Model)
    → (waits q ≡ true → P (hears Answer.Waited [] c)) → P (spoken q (body_of s []) c) → P (hears Answer.Failed [] c) → P (heard b s c)
unfolding heard answered
heard_by_lem P b s q e c w y n = rw e (by_if P (waits q) w (λ x. by_if P b (λ z. y) (λ z. n)))

-- the world after the next exchange of a call k that stands at s and asks q, its body being b: the driver then stands at z
module _ (s z : Call) (q : Ask) (asks : ask_of s ≡ q) (c : Model) (t : List Said) (k : Command) where
  abbrev going : Heard → World
  going x = goes_on t k s x

  -- the chip answers it with rx
  pub turns : (b rx : List ℕ) (d : Model) → body_of s [] ≡ b → waits q ≡ false → spoken q b c ≡ hears Answer.Exchanged rx d
      → step_of s Answer.Exchanged rx ≡ z → goes_on t k s (heard true s c) ≡ settled d t k z rx
  turns b rx d f w h g = ap going (carried s c q b asks f w ∙ h) ∙ rw g

  -- it fails
  pub fails : waits q ≡ false → step_of s Answer.Failed [] ≡ z → goes_on t k s (heard false s c) ≡ settled c t k z []
  fails w g = ap going (lost s c (rw asks w)) ∙ rw g
