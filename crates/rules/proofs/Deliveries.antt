-- The faults of a delivery, joined.
use Rattle.std.proofs.Common.{◌≡◌, ℕ, ◌≤◌, List, Some, None, Option, sym, ◌∙◌, subst, ⊎_elim, arith}
use Rattle.market.specs.Lowest.{Lowest}
use Rattle.qualities.specs.declared.quality.Quality.{Quality}
use Rattle.qualities.specs.Quality.{number_of}
use Rattle.qualities.proofs.Same.{same_quality}
use Rattle.readings.specs.declared.delivery.Delivery.{Delivery}
use Rattle.readings.specs.Delivery.{DeliveryFault}
use Rattle.meters.specs.declared.row.MeterRow.{MeterRow}
use Rattle.meters.specs.Lawful.{Lawful}
use Rattle.meters.specs.Used.{AdmissionFault}
use Rattle.stores.specs.Grid.{Grid}
use Rattle.rules.specs.declared.state.State.{State}
use Rattle.rules.specs.declared.state.State.TheVariants.{Settled}
use Rattle.rules.specs.Places.{PlaceFault, LawFault, OneFault}
use Rattle.rules.specs.Rules.{DeliverFault}
use Rattle.rules.proofs.Lowests.{lowest_same, lowest_before, lowest_after}

-- the faults of its numbers are 9 to 11
pub delivery_bounds : (d : Delivery) (limit k : ℕ) → DeliveryFault d limit k → (9 ≤ k) × (k ≤ 11)
delivery_bounds d limit k = ⊎_elim (λ y. let e : k ≡ 9 = y.0 in (omega arith, omega arith))
    (⊎_elim (λ y. let e : k ≡ 10 = y.0 in (omega arith, omega arith)) (λ y. let e : k ≡ 11 = y.0 in (omega arith, omega arith)))

-- those at its meter are 12 or higher
pub admission_late : (row : MeterRow) (q : Quality) (k : ℕ) → AdmissionFault row q k → 12 ≤ k
admission_late row q k = ⊎_elim (λ y. let e : k ≡ 12 = y.0 in omega arith) (λ y. let e : k ≡ 13 = y.0 in omega arith)

module _ (row : MeterRow) (limit : ℕ) (d : Delivery) where
  abbrev AtMeter : ℕ → Type 0
  AtMeter n = (q : Quality) × ((number_of q ≡ d.quality) × AdmissionFault row q n)

  -- a fault of its numbers comes first
  pub deliver_refused : (n : ℕ) → Lowest (DeliveryFault d limit) (Some n) → Lowest (DeliverFault row limit d) (Some n)
  deliver_refused n h =
      lowest_before (DeliveryFault d limit) AtMeter n h
      (λ k y. let low = delivery_bounds d limit n h.0 in let late = admission_late row y.0 k y.1.1 in omega arith)

  -- with none, those at its meter are left
  pub deliver_admitted : (q : Quality) (r : Option ℕ) → Lowest (DeliveryFault d limit) None → number_of q ≡ d.quality →
      Lowest (AdmissionFault row q) r → Lowest (DeliverFault row limit d) r
  deliver_admitted q r none e h =
      lowest_after (DeliveryFault d limit) AtMeter r none
      (lowest_same (AdmissionFault row q) AtMeter r
      (λ n y. (q, (e, y)))
      (λ n y. subst (λ k. AdmissionFault row k n) (same_quality y.0 q (y.1.0 ∙ sym e)) y.1.1) h)

module _ (grid : Grid) (factors shapes : List (Option ℕ)) (row : MeterRow) (m p : ℕ) where
  -- on a settled day a lawful record has the faults of its place
  pub one_settled : (state : State) (made : MeterRow) (r : Option ℕ) → state ≡ Settled → made ≡ row → Lawful row → Lowest (PlaceFault grid factors shapes made m p) r →
      Lowest (OneFault state grid factors shapes row m p) r
  one_settled state made r e same lawful h =
      lowest_after (LawFault row) (λ n. (state ≡ Settled) × PlaceFault grid factors shapes row m p n) r
      (λ k y. y.1 lawful)
      (lowest_same (PlaceFault grid factors shapes row m p) (λ n. (state ≡ Settled) × PlaceFault grid factors shapes row m p n) r (λ n y. (e, y)) (λ n y. y.1)
      (subst (λ x. Lowest (PlaceFault grid factors shapes x m p) r) same h))
