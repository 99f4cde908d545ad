-- What the tests of the code say.
-- Assumes nothing.
use Prim.Native.Nat.{ℕ, ◌<◌, ◌%◌, ◌^◌}
use mathlib.Core.Path.{◌≡◌, refl, sym}
use mathlib.Core.Bool.{Bool, true, false, false≢true}
use mathlib.Core.List.{List}
use native.Mathlib.Omega.{arith}
use lib.Dec.{eqb}
use Rattle.std.specs.Prelude.{if◌then◌else◌, Result, Ok, Err}
use Rattle.spi.specs.declared.refusal.Refusal.{Refusal}
use Rattle.spi.specs.Ram.{in_range, access_of}
use Rattle.spi.proofs.Laws.{range_told}
use Rattle.ram.specs.Echo.{echo_bytes, same}
use Rattle.ram.proofs.Laws.{same_law}

-- two tests that are true together are the same
pub agree : (a b : Bool) → (a ≡ true → b ≡ true) → (b ≡ true → a ≡ true) → a ≡ b
agree true b f g = sym (f refl)
agree false true f g = g refl
agree false false f g = refl

-- what is not the pattern is not the same
pub no_echo : (rx : List ℕ) → (rx ≡ echo_bytes → ⊥) → false ≡ same rx echo_bytes
no_echo rx h = agree false (same rx echo_bytes) (λ e. absurd (false≢true e)) (λ e. absurd (h ((same_law rx echo_bytes).0 e)))

-- an address in range has 16 bits
good : (b c : Bool) (r s : Refusal) → ◌≡◌ {A = Result (Unit {0}) Refusal} (if b then if c then Ok tt else Err r else Err s) (Ok tt) → b ≡ true
good true c r s e = refl
good false c r s e = cc

pub access_fits : (a n : ℕ) (bad : Refusal) → access_of a n bad ≡ Ok tt → a < 2 ^ 16
unfolding access_of
access_fits a n bad e = omega (arith, range_told a n (good (in_range a n) (eqb (n % 4) 0) bad (Refusal.InvalidRamAddress a) e))
