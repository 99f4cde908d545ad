-- What is proved of the filters, as statements.
-- Assumes nothing.
use Rattle.std.specs.Prelude.{ℕ, ◌≤◌, ◌<◌, ◌≡◌, ◌↔◌, Bool, true, false, List}
use Rattle.field.specs.Field.{bit, read, flag}
use Rattle.filters.specs.Filters.{agrees, matches, hits, filter_count, match_word, filter_of}

-- identifier bits agree with an object's exactly if each does where the mask is 1
abbrev pub AgreesBits : Type 0
AgreesBits =
    (id object mask : ℕ) → (agrees id object mask ≡ true) ↔ ((i : ℕ) → read (bit i) mask ≡ 1 → read (bit i) id ≡ read (bit i) object)

-- for a standard frame EID is not compared
abbrev pub NoEid : Type 0
NoEid = (enabled : Bool) (object mask sid eid other : ℕ) → matches enabled object mask false sid eid ≡ matches enabled object mask false sid other

-- bit f of the match word is filter f
abbrev pub MatchBits : Type 0
MatchBits =
    (control object mask : List ℕ) (extended : Bool) (sid eid f : ℕ) → f < filter_count
    → flag (bit f) (match_word control object mask extended sid eid) ≡ hits control object mask extended sid eid f

-- f is the first of n for which p holds, n where it holds for none
pub record First (p : ℕ → Bool) (n f : ℕ) : Type 0 where
  pub most : f ≤ n
  pub holds : f < n → p f ≡ true
  pub before : (j : ℕ) → j < f → p j ≡ false

-- the filter that is taken is the first that matches
abbrev pub Lowest : Type 0
Lowest =
    (control object mask : List ℕ) (extended : Bool) (sid eid : ℕ)
    → First (hits control object mask extended sid eid) filter_count (filter_of control object mask extended sid eid)

pub record Laws : Type 0 where
  pub agrees_bits : AgreesBits
  pub no_eid : NoEid
  pub match_bits : MatchBits
  pub lowest : Lowest
