-- A refused call asks for nothing and changes no lent byte, and an end that is refused changes none.
-- Assumes nothing.
use Prim.Native.Nat.{ℕ, min}
use native.Mathlib.Omega.{arith}
use mathlib.Core.Path.{◌≡◌, refl, sym, ap, ◌∙◌}
use mathlib.Core.Bool.{Bool, true, false}
use mathlib.Core.List.{List}
use lib.ListN.{length, take}
use lib.Dec.{eqb, leb, ltb}
use borrow.Author.Tests.{leb-true, le-ltb}
use Rattle.std.specs.Prelude.{if◌then◌else◌}
use Rattle.parts.specs.Parts.{put}
use Rattle.spi.specs.declared.refusal.Refusal.{Refusal}
use Rattle.spi.specs.Talk.{Talk, done, refused, ask}
use Rattle.call.specs.declared.Outcome.{Outcome}
use Rattle.call.specs.Outcome.{ended}
use Rattle.ram.specs.RamCall.{RamCall}
use Rattle.ram.specs.Step as ram_steps
use Rattle.ram.proofs.Runs as ram
use Rattle.rx_fifo.specs.Fetch.{Fetch}
use Rattle.rx_fifo.specs.Outcome as found
use Rattle.rx_fifo.specs.Talk.{Fetched, told, message, empty, outcome_by, lent_after, talk_of}
use Rattle.rx_fifo.proofs.Runs as fetch
use Rattle.driver.specs.CallAt.{CallAt}
use Rattle.driver.specs.Call.{Call}
use Rattle.driver.specs.Step.{outcome_at, outcome_of, filled_at, filled_by}
use Rattle.driver.specs.Finish.{finished_at, finished_as}
use Rattle.driver.specs.Demand1.{RefusedKeeps, FinishKeeps}
use Rattle.driver.proofs.Nodes.{over_agrees_lem}

module _ (r : Refusal) (rx buf : List ℕ) where
  -- a read that received is done
  ram_keeps : (s : RamCall) → ram_steps.outcome_of s ≡ Outcome.Refused r → ram_steps.filled_by s rx buf ≡ buf
  unfolding ram_steps.outcome_of
  ram_keeps s e =
      ram.fill_keeps s rx buf
      (λ place count q. let d : Outcome.Done ≡ Outcome.Refused r = sym (ap ram_steps.outcome_of q) ∙ e in let z : ◌≡◌ {A = ℕ} 0 1 = cc in omega arith)

  lent_keeps : (t : Talk Fetched) → ended outcome_by t ≡ Outcome.Refused r → lent_after t buf ≡ buf
  lent_keeps (done (told next)) e = refl
  lent_keeps (done (message m)) e = let z : ◌≡◌ {A = ℕ} 0 1 = cc in absurd (omega arith)
  lent_keeps (done empty) e = refl
  lent_keeps (refused x) e = refl
  lent_keeps (ask q k) e = refl

  fetch_keeps : (s : Fetch) → found.outcome_of s ≡ Outcome.Refused r → found.filled_by s buf ≡ buf
  fetch_keeps s e = fetch.fill_law s buf ∙ lent_keeps (talk_of s) (sym (fetch.outcome_talk s) ∙ e)

  keeps_at : (at : CallAt) (call : Call) → outcome_at at call ≡ Outcome.Refused r → filled_at at call rx buf ≡ buf
  keeps_at (CallAt.Register x) call e = refl
  keeps_at (CallAt.Ram x) call e = ram_keeps x e
  keeps_at CallAt.Plan call e = refl
  keeps_at CallAt.Push call e = refl
  keeps_at CallAt.Transmit call e = refl
  keeps_at CallAt.Fetch call e = fetch_keeps call.fetch e
  keeps_at (CallAt.Scrub x) call e = refl

  call_keeps : (call : Call) → outcome_of call ≡ Outcome.Refused r → filled_by call rx buf ≡ buf
  unfolding outcome_of filled_by
  call_keeps call e = keeps_at call.at call e

  -- ---- the end

  part_keeps : (fits got : Bool) (new : List ℕ)
      → (if fits then if got then Outcome.Done else Outcome.Refused Refusal.WrongAnswer else Outcome.Refused Refusal.BufferTooSmall) ≡ Outcome.Refused r
      → (if got then if fits then new else buf else buf) ≡ buf
  part_keeps true true new e = let z : ◌≡◌ {A = ℕ} 0 1 = cc in absurd (omega arith)
  part_keeps true false new e = refl
  part_keeps false true new e = refl
  part_keeps false false new e = refl

  ram_end : (s : RamCall) → ram_steps.finished_as s (length rx) (length buf) ≡ Outcome.Refused r → ram_steps.filled_by s rx buf ≡ buf
  unfolding ram_steps.finished_as ram_steps.finished_part ram_steps.filled_by ram_steps.filled_part
  ram_end (RamCall.Read address place count) e = refl
  ram_end (RamCall.Received place count) e = part_keeps (ram_steps.inside place count (length buf)) (eqb (length rx) count) _ e
  ram_end (RamCall.Write address count) e = refl
  ram_end RamCall.EchoWrite e = refl
  ram_end RamCall.EchoRead e = refl
  ram_end RamCall.Done e = refl
  ram_end (RamCall.Refused x) e = refl

  -- where there is room for a payload a fetch ends with its own answer
  own_end : (n : ℕ) (o : Outcome) → ltb n 64 ≡ false → found.room_for n o ≡ o
  own_end n Outcome.Running l = refl
  own_end n Outcome.Done l = refl
  own_end n (Outcome.Word w) l = refl
  own_end n (Outcome.Checked w mismatches) l = refl
  own_end n (Outcome.Mode m) l = refl
  own_end n Outcome.Yes l = refl
  own_end n Outcome.No l = refl
  own_end n Outcome.Empty l = refl
  own_end n (Outcome.Message f) l = rw l
  own_end n (Outcome.Scrubbed x) l = refl
  own_end n (Outcome.Refused x) l = refl

  where_changed : (b : Bool) (new : List ℕ) → (b ≡ true → (if b then new else buf) ≡ buf) → (if b then new else buf) ≡ buf
  where_changed true new h = h refl
  where_changed false new h = refl

  fetch_end : (s : Fetch) → found.finished_as s (length buf) ≡ Outcome.Refused r → found.filled_by s buf ≡ buf
  unfolding found.finished_as found.filled_by found.filled
  fetch_end s e =
      where_changed (leb 64 (length buf)) (put buf 0 (take (min (found.size_at s.at) 64) s.held))
      (λ t. fetch_keeps s (sym (own_end (length buf) (found.outcome_of s) (le-ltb (length buf) 64 (leb-true 64 (length buf) t))) ∙ e))

  end_at : (at : CallAt) (call : Call) → finished_at at call (length rx) (length buf) ≡ Outcome.Refused r → filled_at at call rx buf ≡ buf
  end_at (CallAt.Register x) call e = refl
  end_at (CallAt.Ram x) call e = ram_end x e
  end_at CallAt.Plan call e = refl
  end_at CallAt.Push call e = refl
  end_at CallAt.Transmit call e = refl
  end_at CallAt.Fetch call e = fetch_end call.fetch e
  end_at (CallAt.Scrub x) call e = refl

pub finish_keeps_lem : FinishKeeps
unfolding finished_as filled_by
finish_keeps_lem call rx buf r e = end_at r rx buf call.at call e

pub refused_keeps_lem : RefusedKeeps
refused_keeps_lem call r e = (
  (over_agrees_lem call).1 (λ d. let z : ◌≡◌ {A = ℕ} 0 1 = cc in omega arith),
  λ rx buf. call_keeps r rx buf call e,
)
