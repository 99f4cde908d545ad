-- What was seen of a case.
-- Assumes nothing.
use Rattle.std.specs.Prelude.{ℕ, ◌≡◌, ◌<◌, Option, Some, IfSome}
use Rattle.spoken.specs.declared.calls.CallName.TheVariants.{ReadRam}
use Rattle.classes.specs.declared.Seen.{Seen}

-- r is how many bytes a RAM read asks for; none of another call, nor of a length that no buffer has
abbrev pub IsRead : Seen → Option ℕ → Type 0
IsRead s r = IfSome r (λ n. (s.name ≡ ReadRam) × (n ≡ s.size) × (n < 0xFFFFFFFF)) × (s.name ≡ ReadRam → s.size < 0xFFFFFFFF → r ≡ Some s.size)
