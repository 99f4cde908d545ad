-- Document 02, request 6: the transmit queue of the modelled chip. Its slots are held in any order, and one is shown. Its depth is that of
-- `frozen`, its control word as it was last written in Configuration.
-- Assumes nothing.
use Rattle.std.specs.Prelude.{ℕ, zero, suc, ◌+◌, ◌*◌, ◌^◌, Bool, true, false, ◌&&◌, not, List, [], ◌∷◌, get_or, set, replicate, ltb, leb, if◌then◌else◌}
use Rattle.field.specs.Field.{read, flag, write, digit}
use Rattle.field.specs.Settings.{◌:=◌, settings}
use Rattle.fifo.specs.Control.{UINC, TXREQ, FRESET}
use Rattle.fifo.specs.Status.{TFNRFNIF, TFERFFIF}
use Rattle.header.specs.Header.{SID, EID, IDE}
use Rattle.ring.specs.declared.queue.Queue.{Queue}
use Rattle.ring.specs.Ring.{depth}

-- ---- places

-- how many of the n places from k on come before the first where p fails
unfoldable pub first_not : (ℕ → Bool) → (k n : ℕ) → ℕ
first_not p k zero = 0
first_not p k (suc n) = if p k then suc (first_not p (k + 1) n) else 0

-- f of each of the n places from k on where p holds
unfoldable pub gather : {A : Type 0} → (ℕ → Bool) → (ℕ → A) → (k n : ℕ) → List A
gather p f k zero = []
gather p f k (suc n) = if p k then f k ∷ gather p f (k + 1) n else gather p f (k + 1) n

-- ---- what is held

-- slot k is held
abbrev pub is_held : Queue → ℕ → Bool
is_held q k = get_or q.held k false

-- the lowest free slot, and the depth where there is none
unfoldable pub free : ℕ → Queue → ℕ
free frozen q = first_not (is_held q) 0 (depth frozen)

-- full: every slot is held
unfoldable pub full : ℕ → Queue → Bool
full frozen q = leb (depth frozen) (free frozen q)

-- empty: none is
unfoldable pub empty : ℕ → Queue → Bool
empty frozen q = leb (depth frozen) (first_not (λ k. not (is_held q k)) 0 (depth frozen))

-- status: bit 0 is not-full, bit 2 empty; other bits read 0
unfoldable pub status : ℕ → Queue → ℕ
status frozen q = settings (TFNRFNIF := digit (not (full frozen q)) ∷ TFERFFIF := digit (empty frozen q) ∷ []) 0

-- ---- changes

-- no slot is held, and slot 0 is shown
unfoldable pub fresh : ℕ → Queue
fresh control = record { control = control; held = replicate 32 false; shown = 0 }

-- another control word
unfoldable pub controlled : ℕ → Queue → Queue
controlled w q = record { control = w; held = q.held; shown = q.shown }

-- emptied: TXREQ is cleared
unfoldable pub emptied : Queue → Queue
emptied q = fresh (write TXREQ 0 q.control)

-- the slot shown is held
unfoldable pub marked : Queue → Queue
marked q = record { control = q.control; held = set q.held q.shown true; shown = q.shown }

-- another slot is shown
unfoldable pub showing : ℕ → Queue → Queue
showing k q = record { control = q.control; held = q.held; shown = k }

-- UINC claims the slot shown; then the lowest free one is shown, or, when all are held, still the one claimed. On a full queue it does nothing
unfoldable pub claimed : ℕ → Queue → Queue
claimed frozen q =
    if full frozen q then q
    else if full frozen (marked q) then marked q
    else showing (free frozen (marked q)) (marked q)

-- slot k is free; when all were held it comes next
unfoldable pub freed : (frozen k : ℕ) → Queue → Queue
freed frozen k q = record { control = q.control; held = set q.held k false; shown = if full frozen q then k else q.shown }

-- the message in slot k is sent; TXREQ is cleared when none is left
unfoldable pub sent : (frozen k : ℕ) → Queue → Queue
sent frozen k q =
    if empty frozen (freed frozen k q) then controlled (write TXREQ 0 q.control) (freed frozen k q) else freed frozen k q

-- ---- the control word written

-- in Configuration every bit holds as written but UINC, which does nothing
unfoldable pub configured : ℕ → Queue → Queue
configured w q = controlled (write UINC 0 w) q

-- outside it UINC takes effect where the queue is on, then FRESET; both read 0
unfoldable pub commanded : (on : Bool) → (frozen w : ℕ) → Queue → Queue
commanded on frozen w q =
    let a = controlled (settings (UINC := 0 ∷ FRESET := 0 ∷ []) w) q in
    let b = if on && flag UINC w then claimed frozen a else a in
    if flag FRESET w then emptied b else b

-- entering Configuration empties the queue, leaving it clears FRESET
abbrev pub turned : (entering : Bool) → Queue → Queue
turned true q = emptied q
turned false q = controlled (write FRESET 0 q.control) q

-- ---- arbitration

-- two header words as one number: smaller 11-bit base first, at equal base standard before extended, then smaller low 18 bits
unfoldable pub rank_of : (w₀ w₁ : ℕ) → ℕ
rank_of w₀ w₁ = read SID w₀ * 2 ^ 19 + (if flag IDE w₁ then 2 ^ 18 + read EID w₀ else 0)

-- what stands for no slot
abbrev pub no_slot : ℕ
no_slot = 32

-- slot a, but a later slot b of smaller rank
abbrev pub better : (rank : ℕ → ℕ) → (a b : ℕ) → ℕ
better rank a b = if ltb b no_slot && ltb (rank b) (rank a) then b else a

-- the slot of smallest rank of those of the n from k on where p holds, of several the lowest; no_slot where there is none
unfoldable pub best : (ℕ → Bool) → (rank : ℕ → ℕ) → (k n : ℕ) → ℕ
best p rank k zero = no_slot
best p rank k (suc n) = if p k then better rank k (best p rank (k + 1) n) else best p rank (k + 1) n
