-- What is put into a lent buffer.
-- Assumes nothing.
use Rattle.std.specs.Prelude.{ℕ, ◌≡◌, ◌≤◌, length, take}
use Rattle.lines.specs.declared.Writer.{Writer}

-- b is a after more was put: in the same buffer, behind what stood there, and not beyond its end
unfoldable pub Appends : Writer → Writer → Type 0
Appends a b = (b.out.ghost_name ≡ a.out.ghost_name) × (length b.out.now ≡ length a.out.now) × (a.len ≤ b.len) × (a.len ≤ length a.out.now → b.len ≤ length b.out.now) × (take a.len b.out.now ≡ take a.len a.out.now)
