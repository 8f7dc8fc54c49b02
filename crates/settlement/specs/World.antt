-- All that the calls of a day work on, as values.
use Rattle.std.specs.Prelude.{◌≡◌, ℕ, List, length, ℤ, Option}
use Rattle.meters.specs.declared.row.MeterRow.{MeterRow}
use Rattle.stores.specs.Grid.{Grid, Fixed}
use Rattle.amounts.specs.Laws.{Algebra}
use Rattle.totals.specs.Rules.{Rules}
use Rattle.rules.specs.declared.sizes.Sizes.{Sizes}
use Rattle.rules.specs.Standing.{Standing, standing}
use Rattle.stores.specs.declared.store.Store as store
use Rattle.amounts.specs.declared.amount.Amount as amount
use Rattle.totals.specs.declared.report.Report as report
use Rattle.totals.specs.declared.account.Account.{Account}
use Rattle.totals.specs.Account.{SameAccount}
use Rattle.rules.specs.declared.sources.Sources.{Sources}
use Rattle.settlement.specs.declared.day.Day.{Day}
use Rattle.settlement.specs.declared.inputs.Inputs.{Inputs}

-- what a store means: its meters, periods and grid, and what a put never changes
pub record StoreMeaning (X : Type 0) : Type 0 where
  pub meters : X → ℕ
  pub periods : X → ℕ
  pub grid : X → Grid
  pub fixed : X → Fixed

-- what a report means: how its amounts are added, their figures as whole numbers, and what it names for a meter
pub record ReportMeaning (M : Type 0) : Type 0 where
  pub algebra : Algebra M
  pub figure : M → ℕ → ℤ
  pub rules : Rules M

-- what a day is settled with: a store and two reports
pub record Setting (X M N : Type 0) : Type 0 where
  pub store : StoreMeaning X
  pub first : ReportMeaning M
  pub second : ReportMeaning N

abbrev pub setting : {X M N : Type 0} → (X → ℕ) → (X → ℕ) → (X → Grid) → (X → Fixed) → Algebra M → (M → ℕ → ℤ) → Rules M → Algebra N → (N → ℕ → ℤ) → Rules N → Setting X M N
setting meters periods grid fixed a f first b g second = record {
  store = record { meters = meters; periods = periods; grid = grid; fixed = fixed };
  first = record { algebra = a; figure = f; rules = first };
  second = record { algebra = b; figure = g; rules = second };
}

-- everything that is handed over: the day, the store, the meter records, the factors, the shapes, and the totals of both reports
pub record World (X M N : Type 0) : Type 0 where
  pub day : Day
  pub store : X
  pub rows : List MeterRow
  pub factors : List (Option ℕ)
  pub shapes : List (Option ℕ)
  pub first : List M
  pub second : List N

abbrev pub world : {X M N : Type 0} → Day → X → List MeterRow → List (Option ℕ) → List (Option ℕ) → List M → List N → World X M N
world day store rows factors shapes first second = record {
  day = day;
  store = store;
  rows = rows;
  factors = factors;
  shapes = shapes;
  first = first;
  second = second;
}

-- what the store and the two reports mean
abbrev pub setting_of : {X P Q M R N : Type 0} → store.Ghosts X P → report.Ghosts Q M → amount.Ghosts M → report.Ghosts R N → amount.Ghosts N → Account Q M → Account R N → Setting X M N
setting_of s q m r n first second =
    setting s.meters s.periods s.grid s.fixed m.algebra m.figure (q.rules first.report.now) n.algebra n.figure (r.rules second.report.now)

-- what is handed over
abbrev pub world_of : {X Q M R N : Type 0} → Day → Inputs X → Account Q M → Account R N → World X M N
world_of day inputs first second =
    world day inputs.store.now inputs.rows.now inputs.factors.now inputs.shapes.now first.totals.now second.totals.now

-- the reports are the same, and so are all memory that is lent and its length, whatever is in it
pub record SameLent {X Q M R N : Type 0} (i : Inputs X) (a : Account Q M) (b : Account R N) (j : Inputs X) (c : Account Q M) (d : Account R N) : Type 0 where
  pub store : j.store.ghost_name ≡ i.store.ghost_name
  pub rows : j.rows.ghost_name ≡ i.rows.ghost_name
  pub factors : j.factors.ghost_name ≡ i.factors.ghost_name
  pub shapes : j.shapes.ghost_name ≡ i.shapes.ghost_name
  pub rows_size : length j.rows.now ≡ length i.rows.now
  pub factors_size : length j.factors.now ≡ length i.factors.now
  pub shapes_size : length j.shapes.now ≡ length i.shapes.now
  pub first : SameAccount a c
  pub second : SameAccount b d

-- what is to be read is what was handed over
abbrev pub SameSources : {X : Type 0} → Inputs X → Sources X → Type 0
SameSources i s =
    (s.store.now ≡ i.store.now) × (s.rows.now ≡ i.rows.now) × (s.factors.now ≡ i.factors.now) × (s.shapes.now ≡ i.shapes.now)

-- its sizes: P and V, and for each report how many totals there are and how many places
abbrev pub sizes_of : {X M N : Type 0} → Setting X M N → World X M N → Sizes
sizes_of t w = record {
  periods = w.day.periods;
  limit = w.day.limit;
  first = record { totals = length w.first; places = t.first.rules.places };
  second = record { totals = length w.second; places = t.second.rules.places };
}

-- what a call is judged on
abbrev pub standing_of : {X M N : Type 0} → Setting X M N → World X M N → Standing
standing_of t w =
    standing w.day.state (sizes_of t w) (t.store.meters w.store) (t.store.periods w.store) (t.store.grid w.store) w.rows w.factors w.shapes
