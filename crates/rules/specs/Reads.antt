-- What a call reads.
use Rattle.std.specs.Prelude.{◌≡◌, ℕ, ◌⊎◌}
use Rattle.meters.specs.declared.row.MeterRow.{MeterRow}
use Rattle.rules.specs.declared.state.State.TheVariants.{Settled}
use Rattle.rules.specs.Tables.{row_of}
use Rattle.rules.specs.Asked.{Asked, settle, deliver, amend, factor, shape, close}
use Rattle.rules.specs.Standing.{Standing, IsMeter, IsPeriod}

-- the records that it reads, each with its meter: settle all of them; deliver that of its meter; amend the new one, and on a settled day the
-- old one; factor and shape all of them on a settled day; close none
abbrev pub ReadsRecord : Standing → Asked → ℕ → MeterRow → Type 0
ReadsRecord x settle m row = IsMeter x m × (row ≡ row_of x.rows m)
ReadsRecord x (deliver i p d) m row = (m ≡ i) × (row ≡ row_of x.rows m)
ReadsRecord x (amend i new) m row = (m ≡ i) × ((row ≡ new) ⊎ ((x.state ≡ Settled) × (row ≡ row_of x.rows m)))
ReadsRecord x (factor k p f) m row = (x.state ≡ Settled) × IsMeter x m × (row ≡ row_of x.rows m)
ReadsRecord x (shape k p v) m row = (x.state ≡ Settled) × IsMeter x m × (row ≡ row_of x.rows m)
ReadsRecord x close m row = ⊥

-- the periods in which it reads what is stored for these meters: settle and amend all of them; deliver, factor and shape their own, if the day
-- is settled
abbrev pub ReadsStored : Standing → Asked → ℕ → Type 0
ReadsStored x settle q = IsPeriod x q
ReadsStored x (deliver i p d) q = (x.state ≡ Settled) × (q ≡ p)
ReadsStored x (amend i new) q = IsPeriod x q
ReadsStored x (factor k p f) q = (x.state ≡ Settled) × (q ≡ p)
ReadsStored x (shape k p v) q = (x.state ≡ Settled) × (q ≡ p)
ReadsStored x close q = ⊥

-- the periods in which it reads their factors and shapes, as they are before the call: the same, but unless it is a settle only if the day is
-- settled
abbrev pub ReadsTables : Standing → Asked → ℕ → Type 0
ReadsTables x settle q = IsPeriod x q
ReadsTables x (deliver i p d) q = (x.state ≡ Settled) × (q ≡ p)
ReadsTables x (amend i new) q = (x.state ≡ Settled) × IsPeriod x q
ReadsTables x (factor k p f) q = (x.state ≡ Settled) × (q ≡ p)
ReadsTables x (shape k p v) q = (x.state ≡ Settled) × (q ≡ p)
ReadsTables x close q = ⊥
