-- The laws of the two clocks.
use Rattle.std.proofs.Common.{◌≡◌, ℕ, ◌+◌, ◌-◌, ◌<◌, ◌≤◌, ◌⊎◌, Some, None, Ok, Err, Option, Result, sym, refl, ap, inl, inr, arith}
use Rattle.std.proofs.lemmas.Bool.{cases_lt}
use Rattle.market.specs.declared.refusal.Refusal.{Refusal}
use Rattle.market.specs.declared.clock.UtcDate.{UtcDate}
use Rattle.market.specs.declared.clock.UtcDate.TheVariants.{DateBefore, TheDate}
use Rattle.market.specs.declared.clock.ClockPlace.{ClockPlace}
use Rattle.market.specs.declared.clock.ClockPlace.TheVariants.{Settlement, Utc}
use Rattle.market.specs.declared.clock.DayKind.{DayKind}
use Rattle.market.specs.declared.clock.DayKind.TheVariants.{Winter, Summer, SpringChange, AutumnChange}
use Rattle.market.specs.Clock.{HasPeriod, HasUtc, SameTime, Converted, ClockLaws}

one_utc : (k : DayKind) (p u v : ℕ) (d e : UtcDate) → SameTime k p d u → SameTime k p e v → (d ≡ e) × (u ≡ v)
one_utc Winter p u v TheDate TheDate a b = (refl, omega arith)
one_utc Winter p u v DateBefore e a b = absurd a
one_utc Winter p u v TheDate DateBefore a b = absurd b
one_utc Summer p u v DateBefore DateBefore a b = (refl, omega arith)
one_utc Summer p u v DateBefore TheDate a b = absurd (omega arith)
one_utc Summer p u v TheDate DateBefore a b = absurd (omega arith)
one_utc Summer p u v TheDate TheDate a b = (refl, omega arith)
one_utc SpringChange p u v TheDate TheDate a b = (refl, omega arith)
one_utc SpringChange p u v DateBefore e a b = absurd a
one_utc SpringChange p u v TheDate DateBefore a b = absurd b
one_utc AutumnChange p u v DateBefore DateBefore a b = (refl, omega arith)
one_utc AutumnChange p u v DateBefore TheDate a b = absurd (omega arith)
one_utc AutumnChange p u v TheDate DateBefore a b = absurd (omega arith)
one_utc AutumnChange p u v TheDate TheDate a b = (refl, omega arith)

one_settlement : (k : DayKind) (p q u : ℕ) (d : UtcDate) → SameTime k p d u → SameTime k q d u → HasPeriod k p × (p ≡ q)
one_settlement Winter p q u DateBefore a b = absurd a
one_settlement Winter p q u TheDate a b = ((omega arith, omega arith), omega arith)
one_settlement Summer p q u DateBefore a b = ((omega arith, omega arith), omega arith)
one_settlement Summer p q u TheDate a b = ((omega arith, omega arith), omega arith)
one_settlement SpringChange p q u DateBefore a b = absurd a
one_settlement SpringChange p q u TheDate a b = ((omega arith, omega arith), omega arith)
one_settlement AutumnChange p q u DateBefore a b = ((omega arith, omega arith), omega arith)
one_settlement AutumnChange p q u TheDate a b = ((omega arith, omega arith), omega arith)

-- the UTC period of a Settlement Period, where the first two lie on the date before
led : (k : DayKind) (p : ℕ) → HasPeriod k p → (2 < p) ⊎ (p ≤ 2) → (d : UtcDate) × (u : ℕ) × HasUtc u × SameTime k p d u
led Winter p h c = (TheDate, p, (omega arith, omega arith), (omega arith, omega arith, refl))
led Summer p h (inr c) = (DateBefore, p + 46, (omega arith, omega arith), (omega arith, omega arith, refl))
led Summer p h (inl c) = (TheDate, p - 2, (omega arith, omega arith), (omega arith, omega arith, omega arith))
led SpringChange p h c = (TheDate, p, (omega arith, omega arith), (omega arith, omega arith, refl))
led AutumnChange p h (inr c) = (DateBefore, p + 46, (omega arith, omega arith), (omega arith, omega arith, refl))
led AutumnChange p h (inl c) = (TheDate, p - 2, (omega arith, omega arith), (omega arith, omega arith, omega arith))

utc_within : (k : DayKind) (p u : ℕ) (d : UtcDate) → SameTime k p d u → HasUtc u
utc_within Winter p u DateBefore a = absurd a
utc_within Winter p u TheDate a = (omega arith, omega arith)
utc_within Summer p u DateBefore a = (omega arith, omega arith)
utc_within Summer p u TheDate a = (omega arith, omega arith)
utc_within SpringChange p u DateBefore a = absurd a
utc_within SpringChange p u TheDate a = (omega arith, omega arith)
utc_within AutumnChange p u DateBefore a = (omega arith, omega arith)
utc_within AutumnChange p u TheDate a = (omega arith, omega arith)

there_and_back : (k : DayKind) (place other : ClockPlace) (r : Result (Option ClockPlace) Refusal) →
    Converted k place (Ok (Some other)) → Converted k other r → r ≡ Ok (Some place)
there_and_back k (Settlement p) (Utc d u) (Ok (Some (Settlement q))) a b =
    ap (λ n. Ok (Some (Settlement (record { 0 = n })))) (sym (one_settlement k p.0 q.0 u.0 d a b).1)
there_and_back k (Settlement p) (Utc d u) (Ok (Some (Utc e v))) a b = absurd b
there_and_back k (Settlement p) (Utc d u) (Ok None) a b = absurd (b.1 p.0 a)
there_and_back k (Settlement p) (Utc d u) (Err e) a b = absurd (b.0 (utc_within k p.0 u.0 d a))
there_and_back k (Settlement p) (Settlement q) r a b = absurd a
there_and_back k (Utc d u) (Utc e v) r a b = absurd a
there_and_back k (Utc d u) (Settlement p) (Ok (Some (Settlement q))) a b = absurd b
there_and_back k (Utc d u) (Settlement p) (Ok (Some (Utc e v))) a b =
    let same = one_utc k p.0 u.0 v.0 d e a b in
    sym (λ i. Ok (Some (Utc (same.0 i) (record { 0 = same.1 i }))))
there_and_back k (Utc d u) (Settlement p) (Ok None) a b = absurd b
there_and_back k (Utc d u) (Settlement p) (Err e) a b = absurd (b.0 (one_settlement k p.0 p.0 u.0 d a a).0)

pub clock_laws : ClockLaws
clock_laws = record {
  every = λ k p h. led k p h (cases_lt 2 p);
  one_utc = one_utc;
  one_settlement = one_settlement;
  there_and_back = there_and_back;
}
