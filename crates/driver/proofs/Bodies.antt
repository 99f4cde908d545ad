-- Whose bytes a RAM write sends, that what is asked does not look at the body, and that only a scrub step has a place.
-- Assumes nothing.
use Prim.Native.Nat.{ℕ}
use mathlib.Core.Path.{◌≡◌, refl}
use mathlib.Core.Bool.{true, false, true≢false, false≢true}
use mathlib.Core.List.{List, [], ◌∷◌}
use types.Run.{OneOf, miss}
use denote.Enum.Declared.{tag_of}
use Rattle.ram.specs.declared.RamStage.{RamStage}
use Rattle.ram.specs.declared.RamNumbers.{RamNumbers}
use Rattle.ram.specs.Echo.{echo_bytes}
use Rattle.configure.specs.Numbers.{plan_in}
use Rattle.rx_fifo.specs.Numbers.{fetch_of}
use Rattle.rx_fifo.specs.Step as fetch
use Rattle.tx_fifo.specs.Step as push
use Rattle.transmit.specs.Transmit.{transmit_ask}
use Rattle.driver.specs.declared.Family.{Family}
use Rattle.driver.specs.declared.Numbers.{Numbers}
use Rattle.driver.specs.Start.{of_register, of_ram, of_plan, of_push, of_transmit, of_fetch, of_scrub}
use Rattle.driver.specs.Step.{ask_of}
use Rattle.driver.specs.Send.{body_of}
use Rattle.driver.specs.Finish.{place_of}
use Rattle.driver.specs.contracts.Family.{the_type}
use Rattle.driver.specs.Numbers.{model_in, model_of, is_own, is_echo, echoes}

module _ (c : Numbers) (body lent : List ℕ) where
  echo_at : (p : RamNumbers) (stage : RamStage) → p.stage ≡ stage → echoes stage ≡ true → body_of (model_in (Family.Ram p) body) lent ≡ echo_bytes
  unfolding body_of of_ram
  echo_at p RamStage.Read f e = absurd (false≢true e)
  echo_at p RamStage.Received f e = absurd (false≢true e)
  echo_at p RamStage.Write f e = absurd (false≢true e)
  echo_at p RamStage.EchoWrite f e = rw f refl
  echo_at p RamStage.EchoRead f e = absurd (false≢true e)
  echo_at p RamStage.Done f e = absurd (false≢true e)
  echo_at p RamStage.Refused f e = absurd (false≢true e)

  quiet_at : (p : RamNumbers) (stage : RamStage) → p.stage ≡ stage → echoes stage ≡ false → body_of (model_in (Family.Ram p) body) lent ≡ lent
  unfolding body_of of_ram
  quiet_at p RamStage.Read f e = rw f refl
  quiet_at p RamStage.Received f e = rw f refl
  quiet_at p RamStage.Write f e = rw f refl
  quiet_at p RamStage.EchoWrite f e = absurd (true≢false e)
  quiet_at p RamStage.EchoRead f e = rw f refl
  quiet_at p RamStage.Done f e = rw f refl
  quiet_at p RamStage.Refused f e = rw f refl

  own_at : (f : Family) → is_own f ≡ true → body_of (model_in f body) lent ≡ body
  unfolding body_of of_push of_transmit
  own_at (Family.Register p) e = absurd (false≢true e)
  own_at (Family.Ram p) e = absurd (false≢true e)
  own_at (Family.Plan p) e = absurd (false≢true e)
  own_at (Family.Push p) e = refl
  own_at (Family.Transmit p) e = refl
  own_at (Family.Fetch p) e = absurd (false≢true e)
  own_at (Family.Scrub p) e = absurd (false≢true e)

  pattern_at : (f : Family) → is_echo f ≡ true → body_of (model_in f body) lent ≡ echo_bytes
  pattern_at (Family.Register p) e = absurd (false≢true e)
  pattern_at (Family.Ram p) e = echo_at p p.stage refl e
  pattern_at (Family.Plan p) e = absurd (false≢true e)
  pattern_at (Family.Push p) e = absurd (false≢true e)
  pattern_at (Family.Transmit p) e = absurd (false≢true e)
  pattern_at (Family.Fetch p) e = absurd (false≢true e)
  pattern_at (Family.Scrub p) e = absurd (false≢true e)

  lent_at : (f : Family) → is_own f ≡ false → is_echo f ≡ false → body_of (model_in f body) lent ≡ lent
  unfolding body_of of_register of_plan of_fetch of_scrub
  lent_at (Family.Register p) e d = refl
  lent_at (Family.Ram p) e d = quiet_at p p.stage refl d
  lent_at (Family.Plan p) e d = refl
  lent_at (Family.Push p) e d = absurd (true≢false e)
  lent_at (Family.Transmit p) e d = absurd (true≢false e)
  lent_at (Family.Fetch p) e d = refl
  lent_at (Family.Scrub p) e d = refl

  ask_at_lem : (f : Family) → ask_of (model_in f []) ≡ ask_of (model_in f body)
  unfolding ask_of of_register of_ram of_plan of_push of_transmit of_fetch of_scrub plan_in fetch_of fetch.ask_of push.ask_of transmit_ask
  ask_at_lem (Family.Register p) = refl
  ask_at_lem (Family.Ram p) = refl
  ask_at_lem (Family.Plan p) = refl
  ask_at_lem (Family.Push p) = refl
  ask_at_lem (Family.Transmit p) = refl
  ask_at_lem (Family.Fetch p) = refl
  ask_at_lem (Family.Scrub p) = refl

  pub own_body : is_own c.family ≡ true → body_of (model_of c body) lent ≡ body
  unfolding model_of
  own_body = own_at c.family

  pub pattern_body : is_echo c.family ≡ true → body_of (model_of c body) lent ≡ echo_bytes
  unfolding model_of
  pattern_body = pattern_at c.family

  pub lent_body : is_own c.family ≡ false → is_echo c.family ≡ false → body_of (model_of c body) lent ≡ lent
  unfolding model_of
  lent_body = lent_at c.family

  pub ask_any : ask_of (model_of c []) ≡ ask_of (model_of c body)
  unfolding model_of
  ask_any = ask_at_lem c.family

  -- the tags of the other families
  abbrev others : List ℕ
  others = 0 ∷ 1 ∷ 2 ∷ 3 ∷ 4 ∷ 5 ∷ []

  pub no_place : (f : Family) → OneOf others (tag_of the_type f) → 0 ≡ place_of (model_in f body)
  unfolding place_of of_register of_ram of_plan of_push of_transmit of_fetch
  no_place (Family.Register p) o = refl
  no_place (Family.Ram p) o = refl
  no_place (Family.Plan p) o = refl
  no_place (Family.Push p) o = refl
  no_place (Family.Transmit p) o = refl
  no_place (Family.Fetch p) o = refl
  no_place (Family.Scrub p) o = absurd (miss others 6 tt o)
