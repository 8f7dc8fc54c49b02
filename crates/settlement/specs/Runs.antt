-- No drift: what holds after every call of any list of calls.
use Rattle.std.specs.Prelude.{◌≡◌, ℕ, true, List, [], ◌∷◌, ◌++◌, length, is_err, None, Ok, Err, vec_items, vec_len, Result, Vec, ◌≢◌}
use Rattle.std.specs.List.{ContainsAt as Has}
use Rattle.std.specs.declared.alloc.AllocError.{AllocError}
use Rattle.std.specs.declared.alloc.Global.{Global}
use Rattle.stores.specs.Grid.{Grid}
use Rattle.totals.specs.Table.{HasTotal, total_at}
use Rattle.amounts.specs.Sums.{sums, whole}
use Rattle.totals.specs.Entry.{part_of}
use Rattle.totals.specs.Holds.{total_of, AtMostTwo, InPeriod}
use Rattle.rules.specs.declared.state.State.{State}
use Rattle.rules.specs.declared.state.State.TheVariants.{New, Settled}
use Rattle.readings.specs.declared.delivery.Delivery.{Delivery}
use Rattle.rules.specs.declared.call.Call.{Call}
use Rattle.rules.specs.Asked.{Asked, settle, deliver, amend, factor, shape, close, asked}
use Rattle.rules.specs.Standing.{Standing, standing}
use Rattle.rules.specs.Rules.{LaterFault, Judged}
use Rattle.engine.specs.Entries.{entries_of}
use Rattle.engine.specs.Changes.{TwoEach}
use Rattle.settlement.specs.declared.day.Outcome.TheVariants.{Done, Superseded}
use Rattle.settlement.specs.World.{ReportMeaning, Setting, World, sizes_of}
use Rattle.settlement.specs.Steps.{Answer}
use Rattle.settlement.specs.Book.{Book, History, opened, book_after, state_after, Shows, Superseding}

-- a total of the book, for a report, a period and a place: from zero, the report's amounts for those meters whose used reading in that period
-- names that place, by the book's records, factors and shapes and the foremost readings
abbrev pub BookTotal : {M : Type 0} → ReportMeaning M → Book → ℕ → ℕ → M → Type 0
BookTotal r b p q total =
    (grid : Grid) → Shows b grid →
    total ≡ total_of r.algebra r.rules (entries_of grid b.rows b.factors b.shapes) (length b.rows) p q

-- every total of a report is the book's
abbrev pub BookTotals : {M : Type 0} → ReportMeaning M → ℕ → Book → List M → Type 0
BookTotals r periods b cells =
    (p q : ℕ) → HasTotal periods r.rules.places p q → BookTotal r b p q (total_at r.algebra.zero r.rules.places cells p q)

-- and it lost nothing: each figure of it is the sum, in whole numbers, of that figure of the amounts
abbrev pub BookExact : {M : Type 0} → ReportMeaning M → ℕ → Book → List M → Type 0
BookExact r periods b cells =
    (p q k : ℕ) → HasTotal periods r.rules.places p q → (grid : Grid) → Shows b grid →
    r.figure (total_at r.algebra.zero r.rules.places cells p q) k
    ≡ sums whole (λ i. r.figure (part_of r.algebra r.rules (entries_of grid b.rows b.factors b.shapes i p) q) k) (length b.rows)

-- what the next call is judged on by the book, in the state s: P, V, the store's size and those of the totals are what was first handed over
abbrev pub book_standing : {X M N : Type 0} → Setting X M N → World X M N → Book → State → Grid → Standing
book_standing t from b s grid =
    standing s (sizes_of t from) (t.store.meters from.store) (t.store.periods from.store) grid b.rows b.factors b.shapes

-- nothing that counts is missing or above its limit: settling would find no unlawful record, no stored reading without a class, and no factor
-- or shape of a meter that is blank or above its limit
abbrev pub Sound : Standing → Type 0
Sound x = (n : ℕ) → LaterFault x settle n → ⊥

-- which totals of a report a call moves: a delivery at most two, both in its period; an amendment at most two in each period; a factor or a
-- shape those of its period; and these four none unless the day is settled; closing and a delivery that is superseded none
abbrev pub Moved : {M : Type 0} → ReportMeaning M → ℕ → State → Asked → Answer → List M → List M → Type 0
Moved r periods s c (Err e) cells next = next ≡ cells
Moved r periods s settle (Ok o) cells next = Unit {0}
Moved r periods s (deliver m p d) (Ok Done) cells next =
    (s ≡ Settled → AtMostTwo r.algebra r.rules periods p cells next) × ((s ≢ Settled) → next ≡ cells)
Moved r periods s (deliver m p d) (Ok Superseded) cells next = next ≡ cells
Moved r periods s (amend m row) (Ok o) cells next =
    (s ≡ Settled → TwoEach r.algebra r.rules periods cells next) × ((s ≢ Settled) → next ≡ cells)
Moved r periods s (factor k p f) (Ok o) cells next =
    (s ≡ Settled → InPeriod r.algebra r.rules periods p cells next) × ((s ≢ Settled) → next ≡ cells)
Moved r periods s (shape k p v) (Ok o) cells next =
    (s ≡ Settled → InPeriod r.algebra r.rules periods p cells next) × ((s ≢ Settled) → next ≡ cells)
Moved r periods s close (Ok o) cells next = next ≡ cells

-- what holds of one call, made where the book was b and the day's state s
pub record Fair {X M N : Type 0} (t : Setting X M N) (from : World X M N) (b : Book) (s : State) (c : Asked) (r : Answer) (w v : World X M N) : Type 0 where
  -- it was turned down exactly where the rules say, judged on the book
  pub judged : (grid : Grid) → Shows b grid → Judged (book_standing t from b s grid) c r
  -- it was answered superseded exactly where a reading at least as foremost had been delivered
  pub superseding : Superseding b c r
  -- it moved no more totals than it may
  pub first : Moved t.first from.day.periods s c r w.first v.first
  pub second : Moved t.second from.day.periods s c r w.second v.second
  -- turned down, it changed nothing that was handed over
  pub untouched : is_err r ≡ true → v ≡ w

-- what holds after the calls of a history
pub record Kept {X M N : Type 0} (t : Setting X M N) (from : World X M N) (h : History) (b : Book) (s : State) (w : World X M N) : Type 0 where
  -- the day's state is what the calls made it; P and V, the size of the store, its memory and the sizes of the totals are what they were
  pub state : w.day.state ≡ s
  pub sizes : sizes_of t w ≡ sizes_of t from
  pub stored_meters : t.store.meters w.store ≡ t.store.meters from.store
  pub stored_periods : t.store.periods w.store ≡ t.store.periods from.store
  pub fixed : t.store.fixed w.store ≡ t.store.fixed from.store
  -- the records, factors and shapes are the book's
  pub rows : w.rows ≡ b.rows
  pub factors : w.factors ≡ b.factors
  pub shapes : w.shapes ≡ b.shapes
  -- the store shows the foremost of the readings delivered
  pub shows : Shows b (t.store.grid w.store)
  -- once a settle was accepted, every total of both reports is the book's
  pub first : Has h (settle, Ok Done) → BookTotals t.first from.day.periods b w.first
  pub second : Has h (settle, Ok Done) → BookTotals t.second from.day.periods b w.second
  -- and lost nothing
  pub first_exact : Has h (settle, Ok Done) → BookExact t.first from.day.periods b w.first
  pub second_exact : Has h (settle, Ok Done) → BookExact t.second from.day.periods b w.second
  -- and nothing that counts in it is missing or above its limit
  pub sound : Has h (settle, Ok Done) → (grid : Grid) → Shows b grid → Sound (book_standing t from b s grid)

-- the book that begins with what was first handed over, after a history
abbrev pub book_from : {X M N : Type 0} → World X M N → History → Book
book_from from h = book_after (opened from.rows from.factors from.shapes) h

-- a run: no call yet, or a run and one call more, after each of which all of this holds
pub data SettlementRun {X M N : Type 0} (t : Setting X M N) (from : World X M N) : History → World X M N → Type 0 where
  start : SettlementRun t from [] from
  and_then : {h : History} {w v : World X M N} (c : Asked) (r : Answer) → SettlementRun t from h w →
      Fair t from (book_from from h) (state_after New h) c r w v →
      Kept t from (h ++ (c, r) ∷ []) (book_from from (h ++ (c, r) ∷ [])) (state_after New (h ++ (c, r) ∷ [])) v →
      SettlementRun t from (h ++ (c, r) ∷ []) v

-- the history of a list of calls and their answers
abbrev pub history_of : {P : Type 0} → (P → ℕ) → List (Call P Delivery) → List Answer → History
history_of number [] answers = []
history_of number (c ∷ cs) [] = []
history_of number (c ∷ cs) (r ∷ rs) = (asked number c, r) ∷ history_of number cs rs

-- a new day over a store that shows nothing
pub record Fresh {X M N : Type 0} (t : Setting X M N) (w : World X M N) : Type 0 where
  pub new : w.day.state ≡ New
  pub bare : (m p : ℕ) → t.store.grid w.store m p ≡ None

-- no drift: if the day was new and the store showed nothing, the calls of the history led from one to the other by such a run
abbrev pub NoDrift : {X M N : Type 0} → Setting X M N → World X M N → History → World X M N → Type 0
NoDrift t from h to = Fresh t from → SettlementRun t from h to

-- a list of calls was made, each of them answered, with no drift; or there was no memory for the answers, and nothing was done
abbrev pub Replayed : {X M N P : Type 0} → Setting X M N → (P → ℕ) → World X M N → List (Call P Delivery) → Result (Vec Answer Global) AllocError → World X M N → Type 0
Replayed t number from calls (Ok answers) to = (vec_len answers ≡ length calls) × NoDrift t from (history_of number calls (vec_items answers)) to
Replayed t number from calls (Err e) to = to ≡ from
