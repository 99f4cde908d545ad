-- Lengths to data length codes and back.
-- Assumes nothing.
use Rattle.std.specs.Prelude.{Option, Some, None}
use mathlib.Core.Path.{◌≡◌, refl, sym, ap, ◌∙◌}
use mathlib.Core.Bool.{Bool, true, false, false≢true}
use mathlib.Core.List.{List, [], ◌∷◌}
use Prim.Native.Nat.{ℕ, zero, suc, ◌+◌, ◌-◌, ◌≤◌, ◌<◌, min}
use native.Mathlib.Nat.{le_of_suc-le-suc}
use native.Mathlib.Omega.{arith}
use lib.ListN.{length, get_or, take}
use lib.Seq.{get_or-take}
use lib.Dec.{ltb, leb, eqb}
use borrow.Author.Tests.{lt-ltb, ltb-true, ltb-false, leb-true, eqb-true}
use Rattle.laws.proofs.Choice.{by_if}
use Rattle.laws.proofs.Table.{every, at}
use Rattle.header.specs.Dlc.{lengths, dlcs, length_of, received_length, seek, dlc_of}

-- ---- what a search found stands where it was found

seek_is : (xs : List ℕ) (k n d : ℕ) → seek xs k n ≡ Some d → (k ≤ d) × (d < k + length xs) × (get_or xs (d - k) 0 ≡ n)
seek_is [] k n d = λ e. let z : ◌≡◌ {A = ℕ} 0 1 = cc in absurd (omega arith)
seek_is (x ∷ xs) k n d =
    by_if (λ (o : Option ℕ). o ≡ Some d → (k ≤ d) × (d < k + suc (length xs)) × (get_or (x ∷ xs) (d - k) 0 ≡ n)) (eqb x n)
    (λ t e. let f : k ≡ d = cc in let z : d - k ≡ 0 = omega arith in (omega arith, omega arith, rw z (eqb-true x n t)))
    (λ t e.
    let (a, b, c) = seek_is xs (k + 1) n d e in
    let z : d - k ≡ suc (d - (k + 1)) = omega arith in
    (omega arith, omega arith, rw z c))

few : (fdf : Bool) → length (take (dlcs fdf) lengths) ≡ dlcs fdf
few true = refl
few false = refl

pub dlc_lt : (fdf : Bool) (n d : ℕ) → dlc_of fdf n ≡ Some d → d < dlcs fdf
unfolding dlc_of
dlc_lt fdf n d e = let (a, b, c) = seek_is (take (dlcs fdf) lengths) 0 n d e in omega (arith, few fdf)

-- the DLC of a length means that length
pub length_back : (fdf : Bool) (n d : ℕ) → dlc_of fdf n ≡ Some d → length_of fdf d ≡ Some n
unfolding dlc_of length_of
length_back fdf n d e =
    let (a, b, c) = seek_is (take (dlcs fdf) lengths) 0 n d e in
    let h : d < dlcs fdf = dlc_lt fdf n d e in
    let z : d - 0 ≡ d = omega arith in
    rw (lt-ltb d (dlcs fdf) h) (ap Some (sym (get_or-take (dlcs fdf) lengths d 0 h) ∙ rw z at c))

-- ---- the length of a DLC has that DLC: one test over the table

is : Option ℕ → ℕ → Bool
is (Some x) d = eqb x d
is None d = false

is_true : (x : Option ℕ) (d : ℕ) → is x d ≡ true → x ≡ Some d
unfolding is
is_true (Some x) d e = ap Some (eqb-true x d e)
is_true None d e = absurd (false≢true e)

again : Bool → ℕ → Bool
again fdf d = is (dlc_of fdf (get_or lengths d 0)) d

all_again : (fdf : Bool) → every (again fdf) (dlcs fdf) ≡ true
unfolding again is dlc_of
all_again true = refl
all_again false = refl

pub dlc_back : (fdf : Bool) (n d : ℕ) → length_of fdf d ≡ Some n → dlc_of fdf n ≡ Some d
unfolding length_of again
dlc_back fdf n d =
    by_if (λ (l : Option ℕ). l ≡ Some n → dlc_of fdf n ≡ Some d) (ltb d (dlcs fdf))
    (λ t e.
    let f : get_or lengths d 0 ≡ n = cc in
    ap (dlc_of fdf) (sym f) ∙ is_true _ d (at (again fdf) (dlcs fdf) (all_again fdf) d (ltb-true d (dlcs fdf) t)))
    (λ t e. let z : ◌≡◌ {A = ℕ} 0 1 = cc in absurd (omega arith))

-- no payload is longer than 64 bytes
short : ℕ → Bool
short d = leb (get_or lengths d 0) 64

all_short : every short 16 ≡ true
unfolding short
all_short = refl

dlcs_le : (fdf : Bool) → dlcs fdf ≤ 16
dlcs_le true = omega arith
dlcs_le false = omega arith

pub length_le : (fdf : Bool) (n d : ℕ) → length_of fdf d ≡ Some n → n ≤ 64
unfolding length_of short
length_le fdf n d =
    by_if (λ (l : Option ℕ). l ≡ Some n → n ≤ 64) (ltb d (dlcs fdf))
    (λ t e.
    let f : get_or lengths d 0 ≡ n = cc in
    let h : d < 16 = omega (arith, ltb-true d (dlcs fdf) t, dlcs_le fdf) in
    rw (← f) (leb-true _ 64 (at short 16 all_short d h)))
    (λ t e. let z : ◌≡◌ {A = ℕ} 0 1 = cc in absurd (omega arith))

-- a payload that has a DLC, and its DLC, are small
pub dlc_16 : (fdf : Bool) (n d : ℕ) → dlc_of fdf n ≡ Some d → d < 16
dlc_16 fdf n d e = omega (arith, dlc_lt fdf n d e, dlcs_le fdf)

pub payload_le : (fdf : Bool) (n d : ℕ) → dlc_of fdf n ≡ Some d → n ≤ 64
payload_le fdf n d e = length_le fdf n d (length_back fdf n d e)

-- ---- a frame received

-- behind the table there is nothing
past : (xs : List ℕ) (d : ℕ) → length xs ≤ d → get_or xs d 0 ≡ 0
past [] d h = refl
past (x ∷ xs) zero h = absurd (omega arith)
past (x ∷ xs) (suc d) h = past xs d (le_of_suc-le-suc h)

pub received_past : (fdf : Bool) (d : ℕ) → 15 < d → 0 ≡ received_length fdf d
unfolding received_length
received_past true d h = sym (past lengths d h)
received_past false d h = rw (past lengths d h)

pub received_fd : (d : ℕ) → get_or lengths d 0 ≡ received_length true d
unfolding received_length
received_fd d = refl

-- a classic DLC means itself up to 8, and from there on 8
eight : ℕ → Bool
eight d = eqb (min d 8) (min (get_or lengths d 0) 8)

all_eight : every eight 16 ≡ true
unfolding eight
all_eight = refl

pub received_classic : (d : ℕ) → d ≤ 15 → min d 8 ≡ received_length false d
unfolding received_length eight
received_classic d h = eqb-true _ _ (at eight 16 all_eight d (omega arith))

-- what a DLC to send means it means on reception
classic : ℕ → Bool
classic d = leb (get_or lengths d 0) 8

all_classic : every classic 9 ≡ true
unfolding classic
all_classic = refl

pub received_sent : (fdf : Bool) (n d : ℕ) → length_of fdf d ≡ Some n → received_length fdf d ≡ n
unfolding length_of received_length classic
received_sent fdf n d =
    by_if (λ (l : Option ℕ). l ≡ Some n → received_length fdf d ≡ n) (ltb d (dlcs fdf))
    (λ t e. let f : get_or lengths d 0 ≡ n = cc in go fdf f (ltb-true d (dlcs fdf) t))
    (λ t e. let z : ◌≡◌ {A = ℕ} 0 1 = cc in absurd (omega arith))
  where
    go : (x : Bool) → get_or lengths d 0 ≡ n → d < dlcs x → received_length x d ≡ n
    go true f h = f
    go false f h = omega (arith, f, leb-true (get_or lengths d 0) 8 (at classic 9 all_classic d h))

-- no payload received is longer than 64 bytes
pub received_le : (fdf : Bool) (d : ℕ) → received_length fdf d ≤ 64
unfolding received_length short
received_le true d = go (ltb d 16) refl
  where
    go : (b : Bool) → ltb d 16 ≡ b → get_or lengths d 0 ≤ 64
    go true t = leb-true _ 64 (at short 16 all_short d (ltb-true d 16 t))
    go false t = rw (past lengths d (ltb-false d 16 t)) (omega arith)
received_le false d = omega arith
