-- The rules of refusal: which faults a call has, by number.
use Rattle.std.specs.Prelude.{◌≡◌, ℕ, ◌<◌, ◌⊎◌, Ok, Err, Result}
use Rattle.market.specs.declared.refusal.Refusal.{Refusal}
use Rattle.market.specs.Refusal.{number_of as refusal_number}
use Rattle.market.specs.Lowest.{Lowest, turned_down}
use Rattle.qualities.specs.declared.quality.Quality.{Quality}
use Rattle.qualities.specs.Quality.{number_of}
use Rattle.readings.specs.declared.delivery.Delivery.{Delivery}
use Rattle.readings.specs.declared.reading.Reading.{Reading}
use Rattle.readings.specs.Delivery.{DeliveryFault}
use Rattle.meters.specs.declared.row.MeterRow.{MeterRow}
use Rattle.meters.specs.Lawful.{Lawful}
use Rattle.meters.specs.Used.{AdmissionFault}
use Rattle.rules.specs.declared.call.Call.{Call}
use Rattle.rules.specs.Tables.{row_of}
use Rattle.rules.specs.Asked.{Asked, settle, deliver, amend, factor, shape, close, event_of, deed_of, Matches}
use Rattle.rules.specs.States.{Untimely}
use Rattle.rules.specs.Standing.{Standing, Sized, Named}
use Rattle.rules.specs.Places.{TablesFault, ReadingFault}
use Rattle.rules.specs.Reads.{ReadsRecord, ReadsStored, ReadsTables}

-- the faults of the call as such: 1, the sizes are wrong; 2, the day's state does not take it; 3, what it names does not exist
abbrev pub FirstFault : Standing → Asked → ℕ → Type 0
FirstFault x c n =
    ((n ≡ 1) × (Sized x → ⊥)) ⊎ ((n ≡ 2) × Untimely x.state (event_of c)) ⊎ ((n ≡ 3) × (Named x c → ⊥))

-- the sizes fit, what is named exists, and the state takes the call
abbrev pub Ready : Standing → Asked → Type 0
Ready x c = Sized x × Named x c × (Untimely x.state (event_of c) → ⊥)

-- what is known of a call with none of these faults; all of them are below 4
abbrev pub Fitting : Standing → Asked → Result (Unit {0}) Refusal → Type 0
Fitting x c (Ok done) = Ready x c
Fitting x c (Err e) = refusal_number e < 4

-- the faults of one record that it reads: 4, the record is unlawful; 5, a stored reading that it reads has no class; 6, 7 and 8, a factor or
-- a shape that it reads is above its limit or blank
abbrev pub RecordFault : Standing → Asked → ℕ → MeterRow → ℕ → Type 0
RecordFault x c m row n =
    ((n ≡ 4) × (Lawful row → ⊥))
    ⊎ ((q : ℕ) × (ReadsStored x c q × ReadingFault x.grid row m q n))
    ⊎ ((q : ℕ) × (ReadsTables x c q × TablesFault x.factors x.shapes row q n))

-- the faults of what it reads
abbrev pub ReadFault : Standing → Asked → ℕ → Type 0
ReadFault x c n = (m : ℕ) × ((row : MeterRow) × (ReadsRecord x c m row × RecordFault x c m row n))

-- the faults of a reading that is given for a record: 9, 10 and 11 of its numbers; 12 and 13 of its quality at the meter
abbrev pub DeliverFault : MeterRow → ℕ → Delivery → ℕ → Type 0
DeliverFault row limit d n =
    DeliveryFault d limit n ⊎ ((q : Quality) × ((number_of q ≡ d.quality) × AdmissionFault row q n))

-- the faults of what is given with a call: of a reading; and 6, a factor or a shape is above its limit
abbrev pub GivenFault : Standing → Asked → ℕ → Type 0
GivenFault x settle n = ⊥
GivenFault x (deliver m p d) n = DeliverFault (row_of x.rows m) x.sizes.limit d n
GivenFault x (amend m row) n = ⊥
GivenFault x (factor k p f) n = (n ≡ 6) × (9999 < f)
GivenFault x (shape k p v) n = (n ≡ 6) × (1000000000 < v)
GivenFault x close n = ⊥

-- the faults of what a call reads and is given; all of them are above 3
abbrev pub LaterFault : Standing → Asked → ℕ → Type 0
LaterFault x c n = ReadFault x c n ⊎ GivenFault x c n

-- all the faults of a call
abbrev pub Fault : Standing → Asked → ℕ → Type 0
Fault x c n = FirstFault x c n ⊎ LaterFault x c n

-- a call is turned down by n exactly where fault n holds and none of a lower number; it is not turned down exactly where none holds
abbrev pub Judged : {T : Type 0} → Standing → Asked → Result T Refusal → Type 0
Judged x c r = Lowest (Fault x c) (turned_down r)

-- what is to be done for a call that was not turned down is what was asked
abbrev pub Taken : {P : Type 0} → (P → ℕ) → Asked → Result (Call P Reading) Refusal → Type 0
Taken number c (Err e) = Unit {0}
Taken number c (Ok task) = Matches c (deed_of number task)

-- what is known of a call that was not turned down
abbrev pub Cleared : {P : Type 0} → (P → ℕ) → Standing → Asked → Result (Call P Reading) Refusal → Type 0
Cleared number x c (Err e) = Unit {0}
Cleared number x c (Ok task) = Ready x c × Matches c (deed_of number task)
