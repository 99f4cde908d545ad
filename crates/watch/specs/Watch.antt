-- Document 02, request 4: the list of watch entries, and where a scrub step begins in it.
-- Assumes nothing.
use Rattle.std.specs.Prelude.{ℕ, ◌+◌, Bool, not, List, length, get_or, ltb, eqb, if◌then◌else◌, Result, Ok, Err}
use Rattle.std.specs.List.{list_all}
use Rattle.spi.specs.declared.refusal.Refusal.{Refusal}
use Rattle.place.specs.Place.{is_carried}
use Rattle.watch.specs.declared.Watch.{Watch}
use Rattle.watch.specs.declared.Begun.{Begun}
use Rattle.watch.specs.declared.TurnedDown.{TurnedDown}

-- every entry's address is that of a register that is carried
abbrev pub all_carried : List Watch → Bool
all_carried ws = list_all (λ w. is_carried w.address) ws

-- a place beyond the end of a list of n starts again at the first entry
abbrev pub place_in : (place n : ℕ) → ℕ
place_in p n = if ltb p n then p else 0

-- no list has it
abbrev pub blank : Watch
blank = record { address = 0; wanted = 0; care = 0 }

-- the entry that is due
abbrev pub entry_in : ℕ → List Watch → Watch
entry_in p ws = get_or ws (place_in p (length ws)) blank

-- refused before any exchange: the place stays
abbrev pub turned_down : ℕ → Refusal → TurnedDown
turned_down p why = record { place = p; why = why }

-- a visit of entry w, behind which lies the place q
abbrev pub visiting : (p q : ℕ) → Watch → Begun
visiting p q w = record { place = p; next = q; address = w.address; wanted = w.wanted; care = w.care }

-- refused before any exchange, 32 for an empty list, then 33 where any entry's address is no register's; or the visit that is due
unfoldable pub start_of : ℕ → List Watch → Result Begun TurnedDown
start_of p ws =
    if eqb (length ws) 0 then Err (turned_down p Refusal.EmptyList)
    else if not (all_carried ws) then Err (turned_down p Refusal.NotCarried)
    else Ok (visiting p (place_in p (length ws) + 1) (entry_in p ws))
