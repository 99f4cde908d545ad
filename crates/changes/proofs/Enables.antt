-- The interrupts that are enabled: an enable that is not asked for is 0 in the bits, and is kept.
-- Assumes nothing.
use Prim.Native.Nat.{ℕ}
use mathlib.Core.Path.{◌≡◌, refl, sym, ap, ◌∙◌}
use mathlib.Core.Bool.{Bool, true, false}
use Rattle.field.specs.Field.{with_field, mark}
use Rattle.interrupt.specs.Interrupt.{IE}
use Rattle.interrupt.specs.declared.Cause.{Cause}
use Rattle.changes.specs.declared.settings.Settings.{Settings}
use Rattle.changes.specs.Changes.{interrupt_change, interrupt_to}

-- each enable by its flag
abbrev pub enables : Settings → ℕ
enables s =
    mark (IE Cause.Tbc) s.counter
    (mark (IE Cause.Ecc) s.eccerror
    (mark (IE Cause.SpiCrc) s.spierror
    (mark (IE Cause.Serr) s.canerrors
    (mark (IE Cause.Cerr) s.canerrors
    (mark (IE Cause.Ivm) s.canerrors
    (mark (IE Cause.Tx) true
    (mark (IE Cause.Rx) true 0)))))))

-- settings with these four flags
abbrev asking : Settings → (canerrors spierror eccerror counter : Bool) → Settings
asking s a b c d = record { oscillator = s.oscillator; io = s.io; bittime = s.bittime; counter = d; dncnt = s.dncnt; canerrors = a; spierror = b; eccerror = c }

pub enables_is : (s : Settings) → interrupt_change s ≡ interrupt_to (enables s)
unfolding with_field
enables_is s = go s.canerrors s.spierror s.eccerror s.counter
  where
    go : (a b c d : Bool) → interrupt_change (asking s a b c d) ≡ interrupt_to (enables (asking s a b c d))
    go true true true true = refl
    go true true true false = refl
    go true true false true = refl
    go true true false false = refl
    go true false true true = refl
    go true false true false = refl
    go true false false true = refl
    go true false false false = refl
    go false true true true = refl
    go false true true false = refl
    go false true false true = refl
    go false true false false = refl
    go false false true true = refl
    go false false true false = refl
    go false false false true = refl
    go false false false false = refl

pub enables_set : (s : Settings) → (interrupt_change s).set ≡ enables s
enables_set s = ap (λ c. c.set) (enables_is s)

-- the change to the bits that settings ask for is that of the settings
pub interrupt_to_lem : (s : Settings) → interrupt_to (interrupt_change s).set ≡ interrupt_change s
interrupt_to_lem s = ap (λ c. interrupt_to c.set) (enables_is s) ∙ sym (enables_is s)
