-- An exchange that leaves what is fixed outside Configuration as it was leaves the chip sound.
-- Assumes nothing.
use Prim.Native.Nat.{ℕ}
use mathlib.Core.Path.{◌≡◌, refl, sym, ap, subst, ◌∙◌}
use mathlib.Core.List.{List}
use Rattle.spi.specs.declared.ask.Ask.{Ask}
use Rattle.spi.specs.Ask.{sent, wanted}
use Rattle.state.specs.declared.Fixed.{Fixed}
use Rattle.state.specs.declared.Model.{Model}
use Rattle.model.specs.Exchange.{Reply, failed, received, no_layout, exchange}
use Rattle.reach.specs.Reach.{Valid}
use Rattle.reach.proofs.Kept.{exchange_valid}
use Rattle.history.specs.History.{Heard, by_reply}
use Rattle.history.proofs.Sound.{Sound}
use Rattle.history.proofs.Line.{spoken}

-- whatever the chip replies, the driver hears of the chip after the exchange
pub heard_chip : (r : Reply) (c : Model) → (by_reply r c).chip ≡ c
heard_chip failed c = refl
heard_chip (received bs) c = refl
heard_chip no_layout c = refl

pub spoken_sound : (q : Ask) (b : List ℕ) (c : Model) → Sound c → (h : Heard) → spoken q b c ≡ h → h.chip.fixed ≡ c.fixed → Sound h.chip
spoken_sound q b c s h e f =
    let d = exchange (sent q b) (wanted q) c in
    let is : d.model ≡ h.chip = sym (heard_chip d.reply d.model) ∙ ap (λ (x : Heard). x.chip) e in
    record { valid = subst Valid is (exchange_valid (sent q b) (wanted q) c s.valid); out = ap (λ (x : Fixed). x.configuring) f ∙ s.out }
