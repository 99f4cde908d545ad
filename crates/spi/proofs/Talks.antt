-- The laws of talks: what a machine that follows one says after any answers, and how many asks there are.
-- Assumes nothing.
use Prim.Native.Nat.{ℕ, zero, suc, ◌+◌, ◌≤◌, ◌<◌}
use native.Mathlib.Nat.{le_of_suc-le-suc, not-suc-le-zero}
use native.Mathlib.Omega.{arith}
use mathlib.Core.Path.{◌≡◌, refl, sym, ap, ◌∙◌}
use mathlib.Core.Bool.{Bool, true, false, true≢false}
use mathlib.Core.Logic.{◌↔◌}
use mathlib.Core.List.{List, [], ◌∷◌}
use Rattle.std.specs.Prelude.{if◌then◌else◌, Result, Ok, Err}
use Rattle.spi.specs.declared.refusal.Refusal.{Refusal}
use Rattle.spi.specs.declared.ask.Ask.{Ask}
use Rattle.spi.specs.declared.ask.Answer.{Answer}
use Rattle.spi.specs.declared.reply.CheckedWord.{CheckedWord}
use Rattle.spi.specs.Talk.{Talk, done, refused, ask, on_word, on_pair, on_done, on_checked, and_then, answered, run, Within, Follows}

-- ---- a function goes into a choice, and into what is done by an answer

pub if_ap : {A B : Type 0} (f : A → B) (b : Bool) (x y : A) → f (if b then x else y) ≡ (if b then f x else f y)
if_ap f true x y = refl
if_ap f false x y = refl

module _ {A B : Type 0} (f : A → B) (bad : Refusal → A) (bad' : Refusal → B) (e : (r : Refusal) → f (bad r) ≡ bad' r) where
  pub on_word_lem : (x : Result ℕ Refusal) (k : ℕ → A) (k' : ℕ → B) → ((w : ℕ) → f (k w) ≡ k' w) → f (on_word bad x k) ≡ on_word bad' x k'
  on_word_lem (Ok w) k k' h = h w
  on_word_lem (Err r) k k' h = e r

  pub on_pair_lem : (x : Result (ℕ × ℕ) Refusal) (k : ℕ → ℕ → A) (k' : ℕ → ℕ → B) → ((a b : ℕ) → f (k a b) ≡ k' a b) → f (on_pair bad x k) ≡ on_pair bad' x k'
  on_pair_lem (Ok (a, b)) k k' h = h a b
  on_pair_lem (Err r) k k' h = e r

  pub on_done_lem : (x : Result (Unit {0}) Refusal) (k : A) (k' : B) → f k ≡ k' → f (on_done bad x k) ≡ on_done bad' x k'
  on_done_lem (Ok _) k k' h = h
  on_done_lem (Err r) k k' h = e r

  pub on_checked_lem : (x : CheckedWord) (o : A) (o' : B) (k : ℕ → A) (k' : ℕ → B) → f o ≡ o' → ((w : ℕ) → f (k w) ≡ k' w)
      → f (on_checked bad x o k) ≡ on_checked bad' x o' k'
  on_checked_lem (CheckedWord.Word w) o o' k k' l h = h w
  on_checked_lem CheckedWord.Mismatch o o' k k' l h = l
  on_checked_lem (CheckedWord.Bad r) o o' k k' l h = e r

-- ---- what holds of every refusal and of what comes after a good answer holds after any answer

module _ {T : Type 0} (P : T → Type 0) {bad : Refusal → T} (stops : (r : Refusal) → P (bad r)) where
  pub by_word : (x : Result ℕ Refusal) {k : ℕ → T} → ((w : ℕ) → P (k w)) → P (on_word bad x k)
  by_word (Ok w) h = h w
  by_word (Err r) h = stops r

  pub by_pair : (x : Result (ℕ × ℕ) Refusal) {k : ℕ → ℕ → T} → ((a b : ℕ) → P (k a b)) → P (on_pair bad x k)
  by_pair (Ok (a, b)) h = h a b
  by_pair (Err r) h = stops r

  pub by_done : (x : Result (Unit {0}) Refusal) {k : T} → P k → P (on_done bad x k)
  by_done (Ok _) h = h
  by_done (Err r) h = stops r

  pub by_checked : (x : CheckedWord) {o : T} {k : ℕ → T} → P o → ((w : ℕ) → P (k w)) → P (on_checked bad x o k)
  by_checked (CheckedWord.Word w) l h = h w
  by_checked CheckedWord.Mismatch l h = l
  by_checked (CheckedWord.Bad r) l h = stops r

-- ---- what asks for something has a turn left

abbrev pub is_nothing : Ask → Bool
is_nothing (Ask.Read address count) = false
is_nothing (Ask.Checked address) = false
is_nothing (Ask.Word address word) = false
is_nothing (Ask.Body address count) = false
is_nothing Ask.Reset = false
is_nothing Ask.Wait = false
is_nothing Ask.Nothing = true

pub still_asks : {n : ℕ} {q : Ask} → 0 < n → is_nothing q ≡ false → (n ≡ 0) ↔ (q ≡ Ask.Nothing)
still_asks l e = (λ z. absurd (omega arith), λ z. absurd (true≢false (sym (ap is_nothing z) ∙ e)))

-- ---- after any answers the machine stands where the talk stands

pub runs : {S A : Type 0} (step : S → Answer → List ℕ → S) (asking : S → Ask) (talk_of : S → Talk A)
    → Follows step asking talk_of → (s : S) (xs : List (Answer × List ℕ)) → talk_of (run step s xs) ≡ run answered (talk_of s) xs
unfolding run
runs step asking talk_of h s [] = refl
runs step asking talk_of h s (x ∷ xs) =
    runs step asking talk_of h (step s x.0 x.1) xs ∙ ap (λ t. run answered t xs) (h.stepped s x.0 x.1)

-- ---- how many asks

module _ {A : Type 0} where
  -- what holds of a number of asks holds of more
  pub more : (n m : ℕ) (t : Talk A) → n ≤ m → Within n t → Within m t
  more n m (done x) l h = tt
  more n m (refused r) l h = tt
  more zero m (ask q k) l h = absurd h
  more (suc n) zero (ask q k) l h = absurd (not-suc-le-zero l)
  more (suc n) (suc m) (ask q k) l h = λ a rx. more n m (k a rx) (le_of_suc-le-suc l) (h a rx)

  pub ask_within : (n m : ℕ) (q : Ask) (k : Answer → List ℕ → Talk A) → n < m → ((a : Answer) (rx : List ℕ) → Within n (k a rx)) → Within m (ask q k)
  ask_within n zero q k l h = absurd (not-suc-le-zero l)
  ask_within n (suc m) q k l h = λ a rx. more n m (k a rx) (le_of_suc-le-suc l) (h a rx)

  pub word_within : (n : ℕ) (x : Result ℕ Refusal) (k : ℕ → Talk A) → ((w : ℕ) → Within n (k w)) → Within n (on_word refused x k)
  word_within n x k h = by_word (λ t. Within n t) (λ r. tt) x h

  pub pair_within : (n : ℕ) (x : Result (ℕ × ℕ) Refusal) (k : ℕ → ℕ → Talk A) → ((a b : ℕ) → Within n (k a b)) → Within n (on_pair refused x k)
  pair_within n x k h = by_pair (λ t. Within n t) (λ r. tt) x h

  pub done_within : (n : ℕ) (x : Result (Unit {0}) Refusal) (k : Talk A) → Within n k → Within n (on_done refused x k)
  done_within n x k h = by_done (λ t. Within n t) (λ r. tt) x h

  pub checked_within : (n : ℕ) (x : CheckedWord) (o : Talk A) (k : ℕ → Talk A) → Within n o → ((w : ℕ) → Within n (k w)) → Within n (on_checked refused x o k)
  checked_within n x o k l h = by_checked (λ t. Within n t) (λ r. tt) x l h

  pub if_within : (n : ℕ) (b : Bool) (x y : Talk A) → Within n x → Within n y → Within n (if b then x else y)
  if_within n true x y h l = h
  if_within n false x y h l = l

-- ---- one call, then another

module _ {A B : Type 0} where
  pub then_within : (n m p : ℕ) (t : Talk A) (k : A → Talk B) → n + m ≤ p → Within n t → ((x : A) → Within m (k x)) → Within p (and_then t k)
  unfolding and_then
  then_within n m p (done x) k e h l = more m p (k x) (omega arith) (l x)
  then_within n m p (refused r) k e h l = tt
  then_within zero m p (ask q t) k e h l = absurd h
  then_within (suc n) m zero (ask q t) k e h l = absurd (omega arith)
  then_within (suc n) m (suc p) (ask q t) k e h l = λ a rx. then_within n m p (t a rx) k (omega arith) (h a rx) l
