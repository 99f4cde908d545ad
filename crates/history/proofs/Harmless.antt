-- Plans that do no harm to what FIFOs hold: they write registers that only hold as written, and control words without UINC and FRESET.
-- Assumes nothing.
use Rattle.std.specs.Prelude.{Result, Ok, Err}
use Prim.Native.Nat.{ℕ, zero, suc, ◌-◌, ◌%◌, ◌^◌, ◌<◌}
use mathlib.Core.Path.{◌≡◌, sym, ap, subst, ◌∙◌}
use mathlib.Core.Bool.{true, false}
use mathlib.Core.List.{List, [], ◌∷◌, ◌++◌}
use lib.Dec.{eqb}
use lib.ListN.{length, drop, replicate}
use Rattle.std.specs.Prelude.{Some}
use Rattle.laws.proofs.Choice.{by_if}
use Rattle.words.specs.Words.{le_bytes, le_at}
use Rattle.field.specs.Field.{read}
use Rattle.configuration.specs.CanControl.{CiCON, REQOP}
use Rattle.fifo.specs.Control.{CiFIFOCON, TXREQ, is_fifo}
use Rattle.place.specs.declared.Register.{Register}
use Rattle.place.specs.Place.{register_at}
use Rattle.operation.specs.Operation.{in_ram}
use Rattle.spi.specs.declared.refusal.Refusal.{Refusal}
use Rattle.spi.specs.declared.ask.Answer.{Answer}
use Rattle.spi.specs.Reply.{word_reply, done_reply, wait_reply}
use Rattle.spi.specs.Talk.{on_word, on_done}
use Rattle.plan.specs.declared.change.Change.{Change}
use Rattle.plan.specs.declared.item.Poll.{Poll}
use Rattle.plan.specs.declared.item.Item.{Item}
use Rattle.plan.specs.PlanAt.{PlanAt}
use Rattle.plan.specs.Plan.{Plan}
use Rattle.plan.specs.Move.{Move}
use Rattle.plan.specs.Change.{modified}
use Rattle.plan.specs.Item.{shown}
use Rattle.plan.specs.Step.{begun, after_poll, stopped, next_at, place_from, standing, arrived_at, filled, plan_of, refused_plan, moved_to, step_of}
use Rattle.history.proofs.Replies.{Gentle, le_said}

-- ---- what is harmless

-- a write to these changes only what holds as written
abbrev pub Setup : Register → Type 0
Setup Register.Con = ⊥
Setup Register.Osc = Unit {0}
Setup (Register.Plain k) = Unit {0}
Setup (Register.Filter k) = Unit {0}
Setup (Register.Object k) = Unit {0}
Setup (Register.Mask k) = Unit {0}
Setup (Register.Control n) = ⊥
Setup (Register.Status n) = ⊥
Setup (Register.Address n) = ⊥
Setup Register.QueueControl = ⊥
Setup Register.QueueStatus = ⊥
Setup Register.QueueAddress = ⊥

-- a is the address of such a register
pub record Aside (a : ℕ) : Type 0 where
  pub register : Register
  pub is : register_at a ≡ Some register
  pub setup : Setup register
  pub outside : in_ram a 4 ≡ false
  pub small : a < 2 ^ 12

-- a is the address of such a register, or of a FIFO's control with P to hold, or of the queue's with Q to hold, or CiCON's with C to hold
pub data Spares (a : ℕ) (P : ℕ → Type 0) (Q C : Type 0) : Type 0 where
  aside : Aside a → Spares a P Q C
  control : (n : ℕ) → is_fifo n ≡ true → a ≡ CiFIFOCON.address n → P n → Spares a P Q C
  queue_control : a ≡ CiFIFOCON.address 0 → Q → Spares a P Q C
  con : a ≡ CiCON.address 0 → C → Spares a P Q C

-- a word that may be written to CiCON outside Configuration: it does not ask to enter it
pub record Staying (w : ℕ) : Type 0 where
  pub small : w < 2 ^ 32
  pub asks : read REQOP w ≡ 4 → ⊥

-- X says of which FIFOs TXREQ stays 1
module _ (X : ℕ → Type 0) where
  -- a word that may be written to the control of FIFO n: if X says so, with TXREQ at 1
  abbrev pub Careful : (n w : ℕ) → Type 0
  Careful n w = Gentle w × (X n → read TXREQ w ≡ 1)

  abbrev pub HarmlessChange : Change → Type 0
  HarmlessChange c =
      Spares c.address (λ n. (w : ℕ) → Careful n w → Careful n (modified c w)) ((w : ℕ) → Gentle w → Gentle (modified c w)) ((w : ℕ) → Staying w → Staying (modified c w))

  abbrev pub HarmlessWrite : (a w : ℕ) → Type 0
  HarmlessWrite a w = Spares a (λ n. Careful n w) (Gentle w) (Staying w)

  -- the PLL is polled; the mode is not, since it is not changed
  abbrev pub HarmlessPoll : Poll → Type 0
  HarmlessPoll (Poll.Mode m late) = ⊥
  HarmlessPoll Poll.Pll = Unit {0}

  abbrev pub HarmlessItem : Item → Type 0
  HarmlessItem (Item.Change c) = HarmlessChange c
  HarmlessItem (Item.Poll p more) = HarmlessPoll p
  HarmlessItem Item.Echo = ⊥
  HarmlessItem Item.Nothing = Unit {0}

  abbrev pub HarmlessItems : List Item → Type 0
  HarmlessItems [] = Unit {0}
  HarmlessItems (x ∷ xs) = HarmlessItem x × HarmlessItems xs

  abbrev pub HarmlessAt : PlanAt → Type 0
  HarmlessAt (PlanAt.Read c) = HarmlessChange c
  HarmlessAt (PlanAt.Write a w) = HarmlessWrite a w
  HarmlessAt (PlanAt.Poll p more) = HarmlessPoll p
  HarmlessAt (PlanAt.Wait p more) = HarmlessPoll p
  HarmlessAt (PlanAt.EchoWrite left) = ⊥
  HarmlessAt (PlanAt.EchoRead left) = ⊥
  HarmlessAt PlanAt.Done = Unit {0}
  HarmlessAt (PlanAt.Refused r) = Unit {0}

  pub record Harmless (p : Plan) : Type 0 where
    pub items : HarmlessItems p.items
    pub at : HarmlessAt p.at

  -- ---- the items that are left

  items_drop : (i : ℕ) (xs : List Item) → HarmlessItems xs → HarmlessItems (drop i xs)
  items_drop zero xs h = h
  items_drop (suc i) [] h = tt
  items_drop (suc i) (x ∷ xs) h = items_drop i xs h.1

  begun_harmless : (x : Item) → HarmlessItem x → HarmlessAt (begun x)
  begun_harmless (Item.Change c) h = h
  begun_harmless (Item.Poll p more) h = h
  begun_harmless Item.Echo h = absurd h
  begun_harmless Item.Nothing h = tt

  standing_harmless : (failed : Refusal) (items : List Item) (i : ℕ) (xs : List Item) → HarmlessItems items → HarmlessItems xs → Harmless (standing failed items i xs)
  standing_harmless failed items i [] h l = record { items = h; at = tt }
  standing_harmless failed items i (x ∷ xs) h l = record { items = h; at = begun_harmless x l.0 }

  pub arrived_harmless : (failed : Refusal) (items : List Item) (from : ℕ) → HarmlessItems items → Harmless (arrived_at failed items from)
  unfolding arrived_at
  arrived_harmless failed items from h =
      let i = place_from from (drop from items) in
      standing_harmless failed items i (drop i items) h (items_drop i items h)

  -- ---- starts

  nothing_harmless : (n : ℕ) → HarmlessItems (replicate n Item.Nothing)
  nothing_harmless zero = tt
  nothing_harmless (suc n) = (tt, nothing_harmless n)

  filled_harmless : (n : ℕ) (xs : List Item) → HarmlessItems xs → HarmlessItems (xs ++ replicate n Item.Nothing)
  filled_harmless n [] h = nothing_harmless n
  filled_harmless n (x ∷ xs) h = (h.0, filled_harmless n xs h.1)

  pub plan_harmless : (failed : Refusal) (xs : List Item) → HarmlessItems xs → Harmless (plan_of failed xs)
  plan_harmless failed xs h = arrived_harmless failed (filled xs) 0 (filled_harmless (15 - length xs) xs h)

  pub refused_harmless : (r : Refusal) → Harmless (refused_plan r)
  refused_harmless r = record { items = nothing_harmless 15; at = tt }

  -- ---- steps

  -- bytes of a word that may be written back, as far as four bytes go
  pub record Fairly (G : ℕ → Type 0) (rx : List ℕ) : Type 0 where
    pub word : ℕ
    pub bytes : rx ≡ le_bytes word
    pub careful : G (word % 2 ^ 32)

  abbrev pub FairAnswer : (ℕ → Type 0) → Answer → List ℕ → Type 0
  FairAnswer G Answer.Exchanged rx = Fairly G rx
  FairAnswer G Answer.Failed rx = Unit {0}
  FairAnswer G Answer.Waited rx = Unit {0}

  -- where a control word or CiCON is read to be changed, such a word comes back
  pub record FairRead (address : ℕ) (a : Answer) (rx : List ℕ) : Type 0 where
    pub fifo : (n : ℕ) → is_fifo n ≡ true → address ≡ CiFIFOCON.address n → FairAnswer (Careful n) a rx
    pub queue : address ≡ CiFIFOCON.address 0 → FairAnswer Gentle a rx
    pub mode : address ≡ CiCON.address 0 → FairAnswer Staying a rx

  abbrev pub FairAt : PlanAt → Answer → List ℕ → Type 0
  FairAt (PlanAt.Read c) a rx = FairRead c.address a rx
  FairAt (PlanAt.Write address w) a rx = Unit {0}
  FairAt (PlanAt.Poll p more) a rx = Unit {0}
  FairAt (PlanAt.Wait p more) a rx = Unit {0}
  FairAt (PlanAt.EchoWrite left) a rx = Unit {0}
  FairAt (PlanAt.EchoRead left) a rx = Unit {0}
  FairAt PlanAt.Done a rx = Unit {0}
  FairAt (PlanAt.Refused r) a rx = Unit {0}

  abbrev pub Fair : Plan → Answer → List ℕ → Type 0
  Fair p a rx = FairAt p.at a rx

  careful_bytes : (G : ℕ → Type 0) (rx : List ℕ) → Fairly G rx → G (le_at rx 0)
  careful_bytes G rx h =
      let e : le_at rx 0 ≡ h.word % 2 ^ 32 = ap (λ (s : List ℕ). le_at s 0) h.bytes ∙ le_said h.word in
      subst G (sym e) h.careful

  -- where an answer leads to
  abbrev HarmlessMove : Move → Type 0
  HarmlessMove (Move.To at) = HarmlessAt at
  HarmlessMove Move.Next = Unit {0}

  by_word : (x : Result ℕ Refusal) (k : ℕ → Move) → ((w : ℕ) → HarmlessMove (k w)) → HarmlessMove (on_word stopped x k)
  by_word (Ok w) k h = h w
  by_word (Err r) k h = tt

  by_done : (x : Result (Unit {0}) Refusal) (m : Move) → HarmlessMove m → HarmlessMove (on_done stopped x m)
  by_done (Ok _) m h = h
  by_done (Err r) m h = tt

  module _ (failed : Refusal) (c : Change) where
    abbrev changed : ℕ → Move
    changed w = Move.To (PlanAt.Write c.address (modified c w))

    -- a word of four bytes, changed
    taken : (rx : List ℕ) → HarmlessWrite c.address (modified c (le_at rx 0)) → HarmlessMove (on_word stopped (word_reply failed Answer.Exchanged rx) changed)
    taken rx h = by_if (λ (x : Result ℕ Refusal). HarmlessMove (on_word stopped x changed)) (eqb (length rx) 4) (λ l. h) (λ l. tt)

    change_harmless : (a : Answer) (rx : List ℕ) → HarmlessChange c → FairAt (PlanAt.Read c) a rx → HarmlessMove (on_word stopped (word_reply failed a rx) changed)
    change_harmless a rx (aside x) f = by_word (word_reply failed a rx) changed (λ w. aside x)
    change_harmless Answer.Exchanged rx (control n i e h) f = taken rx (control n i e (h (le_at rx 0) (careful_bytes (Careful n) rx (f.fifo n i e))))
    change_harmless Answer.Exchanged rx (queue_control e h) f = taken rx (queue_control e (h (le_at rx 0) (careful_bytes Gentle rx (f.queue e))))
    change_harmless Answer.Exchanged rx (con e h) f = taken rx (con e (h (le_at rx 0) (careful_bytes Staying rx (f.mode e))))
    change_harmless Answer.Failed rx (control n i e h) f = tt
    change_harmless Answer.Failed rx (queue_control e h) f = tt
    change_harmless Answer.Failed rx (con e h) f = tt
    change_harmless Answer.Waited rx (control n i e h) f = tt
    change_harmless Answer.Waited rx (queue_control e h) f = tt
    change_harmless Answer.Waited rx (con e h) f = tt

  poll_harmless : (p : Poll) (more w : ℕ) → HarmlessPoll p → HarmlessMove (after_poll p more w)
  unfolding after_poll
  poll_harmless p more w h = by_if HarmlessMove (shown p w) (λ e. tt) (λ e. by_if HarmlessMove (eqb more 0) (λ z. tt) (λ z. h))

  next_harmless : (failed : Refusal) (at : PlanAt) (a : Answer) (rx : List ℕ) → HarmlessAt at → FairAt at a rx → HarmlessMove (next_at failed at a rx)
  next_harmless failed (PlanAt.Read c) a rx h f = change_harmless failed c a rx h f
  next_harmless failed (PlanAt.Write address w) a rx h f = by_done (done_reply failed a (length rx) 0) Move.Next tt
  next_harmless failed (PlanAt.Poll p more) a rx h f = by_word (word_reply failed a rx) (after_poll p more) (λ w. poll_harmless p more w h)
  next_harmless failed (PlanAt.Wait p more) a rx h f = by_done (wait_reply a (length rx)) (Move.To (PlanAt.Poll p more)) h
  next_harmless failed (PlanAt.EchoWrite left) a rx h f = absurd h
  next_harmless failed (PlanAt.EchoRead left) a rx h f = absurd h
  next_harmless failed PlanAt.Done a rx h f = tt
  next_harmless failed (PlanAt.Refused r) a rx h f = tt

  moved_harmless : (p : Plan) (m : Move) → HarmlessItems p.items → HarmlessMove m → Harmless (moved_to p m)
  moved_harmless p (Move.To at) h l = record { items = h; at = l }
  moved_harmless p Move.Next h l = arrived_harmless p.failed p.items p.next h

  pub step_harmless : (p : Plan) (a : Answer) (rx : List ℕ) → Harmless p → Fair p a rx → Harmless (step_of p a rx)
  unfolding step_of
  step_harmless p a rx h f = moved_harmless p (next_at p.failed p.at a rx) h.items (next_harmless p.failed p.at a rx h.at f)
