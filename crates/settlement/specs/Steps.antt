-- What a single call does to all that it is handed.
use Rattle.std.specs.Prelude.{◌≡◌, ℕ, List, length, Some, None, Ok, Err, Option, Result, ◌≢◌}
use Rattle.market.specs.declared.refusal.Refusal.{Refusal}
use Rattle.readings.specs.declared.reading.Reading.{Reading}
use Rattle.readings.specs.Order.{Ahead}
use Rattle.stores.specs.Grid.{Grid, with_place}
use Rattle.meters.specs.declared.row.MeterRow.{MeterRow}
use Rattle.totals.specs.Holds.{Holds, AtMostTwo, InPeriod}
use Rattle.rules.specs.declared.state.State.{State}
use Rattle.rules.specs.declared.state.State.TheVariants.{Settled}
use Rattle.rules.specs.declared.state.Event.{Event}
use Rattle.rules.specs.declared.state.Event.TheVariants as event
use Rattle.rules.specs.States.{next_state}
use Rattle.rules.specs.Asked.{Asked, Deed, settles, delivers, amends, refactors, reshapes, closes, Matches}
use Rattle.rules.specs.Standing.{Standing, IsMeter, IsPeriod}
use Rattle.rules.specs.Rules.{Ready, Judged}
use Rattle.rules.specs.Tables.{with_row}
use Rattle.engine.specs.Entries.{entries_of}
use Rattle.engine.specs.Changes.{TwoEach}
use Rattle.engine.specs.Revision.{with_entry}
use Rattle.settlement.specs.declared.day.Outcome.{Outcome}
use Rattle.settlement.specs.declared.day.Outcome.TheVariants.{Done, Superseded}
use Rattle.settlement.specs.World.{ReportMeaning, Setting, World, standing_of}

-- what a call is answered
abbrev pub Answer : Type 0
Answer = Result Outcome Refusal

-- the event of a deed
abbrev pub event_of_deed : Deed → Event
event_of_deed settles = event.Settle
event_of_deed (delivers m p r) = event.Deliver
event_of_deed (amends m row) = event.Amend
event_of_deed (refactors k p f) = event.Factor
event_of_deed (reshapes k p v) = event.Shape
event_of_deed closes = event.Close

-- a reading comes to stand where nothing is stored, or one that it is ahead of
abbrev pub Leads : Reading → Option Reading → Type 0
Leads r None = Unit {0}
Leads r (Some q) = Ahead r q

-- a delivery is done where its reading comes to stand, and superseded where it does not; nothing else is superseded
abbrev pub Led : Grid → Deed → Outcome → Type 0
Led grid settles Done = Unit {0}
Led grid settles Superseded = ⊥
Led grid (delivers m p r) Done = Leads r (grid m p)
Led grid (delivers m p r) Superseded = Leads r (grid m p) → ⊥
Led grid (amends m row) Done = Unit {0}
Led grid (amends m row) Superseded = ⊥
Led grid (refactors k p f) Done = Unit {0}
Led grid (refactors k p f) Superseded = ⊥
Led grid (reshapes k p v) Done = Unit {0}
Led grid (reshapes k p v) Superseded = ⊥
Led grid closes Done = Unit {0}
Led grid closes Superseded = ⊥

-- what the store shows then
abbrev pub grid_after : Grid → Deed → Outcome → Grid
grid_after grid settles o = grid
grid_after grid (delivers m p r) Done = with_place grid m p r
grid_after grid (delivers m p r) Superseded = grid
grid_after grid (amends m row) o = grid
grid_after grid (refactors k p f) o = grid
grid_after grid (reshapes k p v) o = grid
grid_after grid closes o = grid

-- what the records, the factors and the shapes are then
abbrev pub rows_after : List MeterRow → Deed → List MeterRow
rows_after rows settles = rows
rows_after rows (delivers m p r) = rows
rows_after rows (amends m row) = with_row rows m row
rows_after rows (refactors k p f) = rows
rows_after rows (reshapes k p v) = rows
rows_after rows closes = rows

abbrev pub factors_after : List (Option ℕ) → Deed → List (Option ℕ)
factors_after factors settles = factors
factors_after factors (delivers m p r) = factors
factors_after factors (amends m row) = factors
factors_after factors (refactors k p f) = with_entry 40 factors k p f
factors_after factors (reshapes k p v) = factors
factors_after factors closes = factors

abbrev pub shapes_after : List (Option ℕ) → Deed → List (Option ℕ)
shapes_after shapes settles = shapes
shapes_after shapes (delivers m p r) = shapes
shapes_after shapes (amends m row) = shapes
shapes_after shapes (refactors k p f) = shapes
shapes_after shapes (reshapes k p v) = with_entry 32 shapes k p v
shapes_after shapes closes = shapes

-- every total of a report is the sum of what counts for the meters
abbrev pub Right : {M : Type 0} → ReportMeaning M → Standing → List M → Type 0
Right r x cells = Holds r.algebra r.rules (entries_of x.grid x.rows x.factors x.shapes) (length x.rows) x.sizes.periods cells

-- which totals of a report a deed moves, on a day of this state: on a settled day a delivery at most two, both in its period, an amendment at
-- most two in each period, a factor and a shape those of their period; on another day none
abbrev pub Moves : {M : Type 0} → ReportMeaning M → ℕ → State → Deed → Outcome → List M → List M → Type 0
Moves r periods state settles o cells next = Unit {0}
Moves r periods state (delivers m p d) Done cells next =
    (state ≡ Settled → AtMostTwo r.algebra r.rules periods p cells next) × ((state ≢ Settled) → next ≡ cells)
Moves r periods state (delivers m p d) Superseded cells next = next ≡ cells
Moves r periods state (amends m row) o cells next =
    (state ≡ Settled → TwoEach r.algebra r.rules periods cells next) × ((state ≢ Settled) → next ≡ cells)
Moves r periods state (refactors k p f) o cells next =
    (state ≡ Settled → InPeriod r.algebra r.rules periods p cells next) × ((state ≢ Settled) → next ≡ cells)
Moves r periods state (reshapes k p v) o cells next =
    (state ≡ Settled → InPeriod r.algebra r.rules periods p cells next) × ((state ≢ Settled) → next ≡ cells)
Moves r periods state closes o cells next = next ≡ cells

-- a place of the day
abbrev pub Placed : {X M N : Type 0} → Setting X M N → World X M N → ℕ → ℕ → Type 0
Placed t w m p = IsMeter (standing_of t w) m × IsPeriod (standing_of t w) p

-- whether they are right afterwards: settling makes them so, and on a settled day the others keep them so
abbrev pub Follows : {M : Type 0} → ReportMeaning M → Standing → Standing → Deed → Outcome → List M → List M → Type 0
Follows r x y settles o cells next = Right r y next
Follows r x y (delivers m p d) Done cells next = x.state ≡ Settled → Right r x cells → Right r y next
Follows r x y (delivers m p d) Superseded cells next = Unit {0}
Follows r x y (amends m row) o cells next = x.state ≡ Settled → Right r x cells → Right r y next
Follows r x y (refactors k p f) o cells next = x.state ≡ Settled → Right r x cells → Right r y next
Follows r x y (reshapes k p v) o cells next = x.state ≡ Settled → Right r x cells → Right r y next
Follows r x y closes o cells next = Unit {0}

-- what a deed has done
pub record Acted {X M N : Type 0} (t : Setting X M N) (w : World X M N) (k : Deed) (o : Outcome) (v : World X M N) : Type 0 where
  pub led : Led (t.store.grid w.store) k o
  pub state : v.day.state ≡ next_state w.day.state (event_of_deed k)
  pub periods : v.day.periods ≡ w.day.periods
  pub limit : v.day.limit ≡ w.day.limit
  pub stored_meters : t.store.meters v.store ≡ t.store.meters w.store
  pub stored_periods : t.store.periods v.store ≡ t.store.periods w.store
  pub fixed : t.store.fixed v.store ≡ t.store.fixed w.store
  pub grid : (i j : ℕ) → t.store.grid v.store i j ≡ grid_after (t.store.grid w.store) k o i j
  pub rows : v.rows ≡ rows_after w.rows k
  pub factors : v.factors ≡ factors_after w.factors k
  pub shapes : v.shapes ≡ shapes_after w.shapes k
  pub first_size : length v.first ≡ length w.first
  pub second_size : length v.second ≡ length w.second
  pub first_moves : Moves t.first w.day.periods w.day.state k o w.first v.first
  pub second_moves : Moves t.second w.day.periods w.day.state k o w.second v.second
  pub first_follows : Follows t.first (standing_of t w) (standing_of t v) k o w.first v.first
  pub second_follows : Follows t.second (standing_of t w) (standing_of t v) k o w.second v.second

-- what was done for a call: nothing at all where it was turned down, and else what was asked
abbrev pub Answered : {X M N : Type 0} → Setting X M N → World X M N → Asked → Answer → World X M N → Type 0
Answered t w c (Err e) v = v ≡ w
Answered t w c (Ok o) v = (k : Deed) × (Matches c k × Acted t w k o v)

-- where a call was not turned down, the sizes fit, what it names exists, and the state takes it
abbrev pub ReadyIf : Standing → Asked → Answer → Type 0
ReadyIf x c (Err e) = Unit {0}
ReadyIf x c (Ok o) = Ready x c

-- one call: it is judged by the rules, and then done or not
pub record Step {X M N : Type 0} (t : Setting X M N) (w : World X M N) (c : Asked) (r : Answer) (v : World X M N) : Type 0 where
  pub judged : Judged (standing_of t w) c r
  pub ready : ReadyIf (standing_of t w) c r
  pub answered : Answered t w c r v
