-- The book: it is fed only which calls were made, what was given with them, and what they were answered.
use Rattle.std.specs.Prelude.{ℕ, List, [], ◌∷◌, ◌++◌, Some, None, Ok, Err, fold, Option}
use Rattle.std.specs.List.{ContainsAt as Has}
use Rattle.readings.specs.declared.reading.Reading.{Reading}
use Rattle.readings.specs.Delivery.{Reads}
use Rattle.readings.specs.Numbers.{reading_of}
use Rattle.readings.specs.Order.{Ahead}
use Rattle.meters.specs.declared.row.MeterRow.{MeterRow}
use Rattle.stores.specs.Grid.{Grid}
use Rattle.rules.specs.declared.state.State.{State}
use Rattle.rules.specs.States.{next_state}
use Rattle.rules.specs.Tables.{with_row}
use Rattle.engine.specs.Revision.{with_entry}
use Rattle.rules.specs.Asked.{Asked, settle, deliver, amend, factor, shape, close, event_of}
use Rattle.settlement.specs.declared.day.Outcome.TheVariants.{Done, Superseded}
use Rattle.settlement.specs.Steps.{Answer}

-- a reading that was delivered for a meter and a period
pub record Noted : Type 0 where
  pub meter : ℕ
  pub period : ℕ
  pub reading : Reading

abbrev pub note : ℕ → ℕ → Reading → Noted
note m p r = record { meter = m; period = p; reading = r }

-- the meter records, factors and shapes, and all readings that were delivered
pub record Book : Type 0 where
  pub rows : List MeterRow
  pub factors : List (Option ℕ)
  pub shapes : List (Option ℕ)
  pub delivered : List Noted

-- it begins with what was first handed over, and no readings
abbrev pub opened : List MeterRow → List (Option ℕ) → List (Option ℕ) → Book
opened rows factors shapes = record { rows = rows; factors = factors; shapes = shapes; delivered = [] }

-- the reading of the numbers given is added, for its meter and period
abbrev pub noted : List Noted → ℕ → ℕ → Option Reading → List Noted
noted delivered m p None = delivered
noted delivered m p (Some r) = delivered ++ note m p r ∷ []

-- what a call that was not turned down changes in it: a delivery, superseded or not, adds its reading; an amendment, a factor and a shape
-- replace that record, factor or shape; settling and closing change nothing
abbrev pub recorded : Book → Asked → Book
recorded b settle = b
recorded b (deliver m p d) = record {
  rows = b.rows;
  factors = b.factors;
  shapes = b.shapes;
  delivered = noted b.delivered m p (reading_of d.stamp d.volume d.quality);
}
recorded b (amend m row) = record {
  rows = with_row b.rows m row;
  factors = b.factors;
  shapes = b.shapes;
  delivered = b.delivered;
}
recorded b (factor k p f) = record {
  rows = b.rows;
  factors = with_entry 40 b.factors k p f;
  shapes = b.shapes;
  delivered = b.delivered;
}
recorded b (shape k p v) = record {
  rows = b.rows;
  factors = b.factors;
  shapes = with_entry 32 b.shapes k p v;
  delivered = b.delivered;
}
recorded b close = b

-- a call that was turned down changes nothing
abbrev pub entered : Book → Asked → Answer → Book
entered b c (Err e) = b
entered b c (Ok o) = recorded b c

-- the state that a call leaves the day in
abbrev pub advanced : State → Asked → Answer → State
advanced s c (Err e) = s
advanced s c (Ok o) = next_state s (event_of c)

-- the calls that were made, in their order, each with its answer
abbrev pub History : Type 0
History = List (Asked × Answer)

-- the book after them, and the state of the day
abbrev pub book_after : Book → History → Book
book_after b h = fold (λ k line. entered k line.0 line.1) b h

abbrev pub state_after : State → History → State
state_after s h = fold (λ k line. advanced k line.0 line.1) s h

-- what counts as stored for a meter and a period: the foremost of the readings delivered, which none of them is ahead of; or nothing, where
-- none was delivered
abbrev pub Foremost : List Noted → ℕ → ℕ → Option Reading → Type 0
Foremost delivered m p None = (r : Reading) → Has delivered (note m p r) → ⊥
Foremost delivered m p (Some q) = Has delivered (note m p q) × ((r : Reading) → Has delivered (note m p r) → Ahead r q → ⊥)

-- a grid that shows it for every meter and period
abbrev pub Shows : Book → Grid → Type 0
Shows b grid = (m p : ℕ) → Foremost b.delivered m p (grid m p)

-- a reading at least as foremost was delivered for that meter and period
abbrev pub Overtaken : List Noted → ℕ → ℕ → Reading → Type 0
Overtaken delivered m p r = (q : Reading) × (Has delivered (note m p q) × (Ahead r q → ⊥))

-- a delivery is answered superseded exactly where that is so, and no other call ever is
abbrev pub Superseding : Book → Asked → Answer → Type 0
Superseding b c (Err e) = Unit {0}
Superseding b settle (Ok Done) = Unit {0}
Superseding b settle (Ok Superseded) = ⊥
Superseding b (deliver m p d) (Ok Done) = (r : Reading) × (Reads d r × (Overtaken b.delivered m p r → ⊥))
Superseding b (deliver m p d) (Ok Superseded) = (r : Reading) × (Reads d r × Overtaken b.delivered m p r)
Superseding b (amend m row) (Ok Done) = Unit {0}
Superseding b (amend m row) (Ok Superseded) = ⊥
Superseding b (factor k p f) (Ok Done) = Unit {0}
Superseding b (factor k p f) (Ok Superseded) = ⊥
Superseding b (shape k p v) (Ok Done) = Unit {0}
Superseding b (shape k p v) (Ok Superseded) = ⊥
Superseding b close (Ok Done) = Unit {0}
Superseding b close (Ok Superseded) = ⊥
