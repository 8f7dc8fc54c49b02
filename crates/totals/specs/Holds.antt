-- What a table of totals holds, and what becomes of it where one entry takes the place of another.
use Rattle.std.specs.Prelude.{◌≡◌, ℕ, ◌<◌, ◌≤◌, cond, ◌⊎◌, List, ◌==◌, ◌≢◌, nat_lt}
use Rattle.amounts.specs.Laws.{Algebra}
use Rattle.amounts.specs.Sums.{sums}
use Rattle.totals.specs.declared.entry.Entry.{Entry}
use Rattle.totals.specs.Rules.{Rules}
use Rattle.totals.specs.Entry.{part_of}
use Rattle.totals.specs.Table.{HasTotal, total_at}

-- for each meter, counted from 0, and each period, counted from 1, what counts
abbrev pub Entries : Type 0
Entries = ℕ → ℕ → Entry

-- from zero, what the entries of n meters bring to place q in period p
abbrev pub total_of : {M : Type 0} → Algebra M → Rules M → Entries → ℕ → ℕ → ℕ → M
total_of a rules entries n p q = sums a (λ i. part_of a rules (entries i p) q) n

-- every total is what the entries of n meters bring
abbrev pub Holds : {M : Type 0} → Algebra M → Rules M → Entries → ℕ → ℕ → List M → Type 0
Holds a rules entries n periods cells =
    (p q : ℕ) → HasTotal periods rules.places p q → total_at a.zero rules.places cells p q ≡ total_of a rules entries n p q

-- in one period, what the old entry brought is taken away and what the new one brings is added; no other total changes
abbrev pub Exchanged : {M : Type 0} → Algebra M → Rules M → ℕ → ℕ → Entry → Entry → List M → List M → Type 0
Exchanged a rules periods period old new cells next =
    (p q : ℕ) → HasTotal periods rules.places p q →
    total_at a.zero rules.places next p q ≡ cond (p == period)
    (a.plus (a.minus (total_at a.zero rules.places cells p q) (part_of a rules old q)) (part_of a rules new q))
    (total_at a.zero rules.places cells p q)

-- totals of the entries, with the entry of one meter in one period replaced, are totals of the entries after that
abbrev pub Replaced : {M : Type 0} → Algebra M → Rules M → ℕ → ℕ → Entry → Entry → List M → List M → Type 0
Replaced a rules periods period old new cells next =
    (entries after : Entries) (n i : ℕ) → i < n → entries i period ≡ old → after i period ≡ new →
    ((j p : ℕ) → j < n → 1 ≤ p → (j ≡ i → p ≢ period) → after j p ≡ entries j p) →
    Holds a rules entries n periods cells → Holds a rules after n periods next

-- at most two totals change, and those are of one period
abbrev pub AtMostTwo : {M : Type 0} → Algebra M → Rules M → ℕ → ℕ → List M → List M → Type 0
AtMostTwo a rules periods period cells next =
    (x : ℕ) × ((y : ℕ) × ((p q : ℕ) → HasTotal periods rules.places p q →
    (total_at a.zero rules.places next p q ≡ total_at a.zero rules.places cells p q) ⊎ ((p ≡ period) × ((q ≡ x) ⊎ (q ≡ y)))))

-- the totals of other periods stay
abbrev pub InPeriod : {M : Type 0} → Algebra M → Rules M → ℕ → ℕ → List M → List M → Type 0
InPeriod a rules periods period cells next =
    (p q : ℕ) → HasTotal periods rules.places p q → (p ≢ period) →
    total_at a.zero rules.places next p q ≡ total_at a.zero rules.places cells p q

-- the entries of which the meters below i are new already
abbrev pub meters_below : Entries → Entries → ℕ → Entries
meters_below entries after i j p = cond (nat_lt j i) (after j p) (entries j p)

-- those of which the periods below i are
abbrev pub periods_below : Entries → Entries → ℕ → Entries
periods_below entries after i j p = cond (nat_lt p i) (after j p) (entries j p)
