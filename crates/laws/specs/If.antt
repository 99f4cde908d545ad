-- A choice, by its two ways: what the library's `if b then x else y`, which definitions write, has to be (proofs/Choice).
-- Assumes nothing.
use Rattle.std.specs.Prelude.{Bool, true, false}

abbrev pub choice : {A : Type 0} → Bool → A → A → A
choice true x y = x
choice false x y = y
