-- What is put after more was put.
-- Assumes nothing.
use mathlib.Core.Path.{◌≡◌, ◌∙◌, sym, refl}
use Prim.Native.Nat.{◌≤◌}
use native.Mathlib.Nat.{le_trans, le_refl}
use Rattle.std.proofs.lemmas.List.{take-take}
use Rattle.lines.specs.declared.Writer.{Writer}
use Rattle.lines.specs.Writer.{Appends}

pub none : (a : Writer) → Appends a a
unfolding Appends
none a = (refl, refl, le_refl a.len, (λ e. e), refl)

pub more : (a b c : Writer) → Appends a b → Appends b c → Appends a c
unfolding Appends
more a b c h k =
    let z = rw k.4 at (take-take a.len b.len c.out.now h.2) in
    (k.0 ∙ h.0, k.1 ∙ h.1, le_trans h.2 k.2, (λ e. k.3 (h.3 e)), sym z ∙ (take-take a.len b.len b.out.now h.2 ∙ h.4))
