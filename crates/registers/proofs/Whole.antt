-- What is proved of the whole table: by computed tests, and for the fields by the field codec's law.
-- Assumes nothing.
use mathlib.Core.Path.{◌≡◌, refl, sym}
use mathlib.Core.Bool.{Bool, true, false, ◌&&◌}
use mathlib.Core.List.{List, [], ◌∷◌}
use Prim.Native.Nat.{ℕ, zero, suc, ◌<◌}
use native.Mathlib.Nat.{le_of_suc-le-suc, not-suc-le-zero}
use lib.Arith.{lt_of_le-ne}
use lib.ListN.{length, get_or}
use lib.Dec.{ltb, eqb}
use borrow.Author.Tests.{ltb-true, ltb-false}
use Rattle.laws.specs.All.{all}
use Rattle.laws.proofs.Table.{both, all_at}
use Rattle.field.specs.Field.{Field, bit, apart, all_apart}
use Rattle.field.proofs.Laws.{write_other, apart_sym}
use Rattle.registers.specs.Registers.{Kind, kinds, addresses_of, inside, distinct, fielded, sound, Neighbours}

-- every kind's fields lie in the word and apart, and its reset word has 0 in every reserved bit
pub all_sound : all sound kinds ≡ true
unfolding kinds
all_sound = refl

-- no two registers have one address, and there are 176
pub all_distinct : distinct (addresses_of kinds) ≡ true
unfolding kinds
all_distinct = refl

pub how_many : length (addresses_of kinds) ≡ 176
unfolding kinds
how_many = refl

-- ---- from the test to its places

pairs : (d : Field) (fs : List Field) → all_apart fs ≡ true → (i j : ℕ) → i < j → j < length fs → apart (get_or fs i d) (get_or fs j d) ≡ true
pairs d [] e i j h l = absurd (not-suc-le-zero l)
pairs d (f ∷ fs) e i zero h l = absurd (not-suc-le-zero h)
pairs d (f ∷ fs) e zero (suc j) h l = all_at (apart f) d fs (both (all (apart f) fs) (all_apart fs) e).0 j (le_of_suc-le-suc l)
pairs d (f ∷ fs) e (suc i) (suc j) h l = pairs d fs (both (all (apart f) fs) (all_apart fs) e).1 i j (le_of_suc-le-suc h) (le_of_suc-le-suc l)

any_two : (d : Field) (fs : List Field) → all_apart fs ≡ true → (i j : ℕ) → i < length fs → j < length fs → (i ≡ j → ⊥) → apart (get_or fs i d) (get_or fs j d) ≡ true
any_two d fs e i j hi hj ne = go (ltb i j) refl
  where
    go : (b : Bool) → ltb i j ≡ b → apart (get_or fs i d) (get_or fs j d) ≡ true
    go true t = pairs d fs e i j (ltb-true i j t) hj
    go false t =
        let l = ltb-false i j t in
        apart_sym (get_or fs j d) (get_or fs i d) (pairs d fs e j i (lt_of_le-ne l (λ q. ne (sym q))) hi)

neighbours : (k : Kind) → sound k ≡ true → Neighbours k
neighbours k e i j hi hj ne v w fits =
    let fs : List Field = k.register.fields in
    let apart_all = (both (all inside fs) (all_apart fs) (both (all inside fs && all_apart fs) (eqb (fielded fs k.register.reset) k.register.reset) e).0).1 in
    write_other (get_or fs i (bit 0)) (get_or fs j (bit 0)) v w fits (any_two (bit 0) fs apart_all i j hi hj ne)

-- setting any field of any kind leaves what every other field of the kind reads
pub all_neighbours : (d : Kind) (n : ℕ) → n < length kinds → Neighbours (get_or kinds n d)
all_neighbours d n h = neighbours (get_or kinds n d) (all_at sound d kinds all_sound n h)
