-- What a meter adds to a place.
use Rattle.std.specs.Prelude.{◌≡◌, ℕ, ◌<◌, Bool, false, cond, Some, None, Option, ◌==◌}
use Rattle.meters.specs.declared.row.MeterRow.{MeterRow}
use Rattle.meters.specs.declared.used.UsedReading.{UsedReading}
use Rattle.meters.specs.Lawful.{is_lawful}
use Rattle.amounts.specs.Laws.{Algebra}
use Rattle.totals.specs.declared.entry.Entry.{Entry}
use Rattle.totals.specs.Rules.{Rules}

-- whether an answer names place q
abbrev pub names : Option ℕ → ℕ → Bool
names None q = false
names (Some k) q = k == q

-- what a lawful meter adds to place q: its amount, if something of it is used, its factor is known and the report names that place
abbrev pub lawful_part : {M : Type 0} → Algebra M → Rules M → MeterRow → Option UsedReading → Option ℕ → ℕ → M
lawful_part a rules m None factor q = a.zero
lawful_part a rules m (Some u) None q = a.zero
lawful_part a rules m (Some u) (Some f) q = cond (names (rules.place m u) q) (rules.amount m u f) a.zero

-- what an entry adds to place q; an unlawful record adds nothing
abbrev pub part_of : {M : Type 0} → Algebra M → Rules M → Entry → ℕ → M
part_of a rules e q = cond (is_lawful e.row) (lawful_part a rules e.row e.used e.factor q) a.zero

-- the one place to which an entry adds, with what it adds; or none, and it adds nothing anywhere
abbrev pub Named : {M : Type 0} → Algebra M → Rules M → Entry → Option (ℕ × M) → Type 0
Named a rules e None = (q : ℕ) → part_of a rules e q ≡ a.zero
Named a rules e (Some place) =
    (place.0 < rules.places) × ((q : ℕ) → part_of a rules e q ≡ cond (place.0 == q) place.1 a.zero)
