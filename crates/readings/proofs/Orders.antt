-- The order of readings is a total one.
use Rattle.std.proofs.Common.{◌≡◌, ◌⊎◌, inl, inr, ⊎_elim, arith}
use Rattle.std.proofs.lemmas.Bool.{cases_order}
use Rattle.std.proofs.lemmas.Bool.Decides.{nat_tests}
use Rattle.readings.specs.declared.reading.Reading.{Reading}
use Rattle.qualities.specs.Quality.{number_of}
use Rattle.readings.specs.Order.{Ahead, TotalOrder}
use Rattle.qualities.proofs.Same.{same_quality}
use Rattle.readings.proofs.Same.{same_reading}

comparable : (a b : Reading) → (a ≡ b) ⊎ (Ahead a b ⊎ Ahead b a)
comparable a b = ⊎_elim
    (λ s. ⊎_elim
    (λ v. ⊎_elim
    (λ q. inl (same_reading a b s v (same_quality a.quality b.quality q)))
    (⊎_elim (λ q. inr (inl (inr (s, inr (v, q))))) (λ q. inr (inr (grind (arith, nat_tests)))))
    (cases_order (number_of a.quality) (number_of b.quality)))
    (⊎_elim (λ v. inr (inr (grind (arith, nat_tests)))) (λ v. inr (inl (inr (s, inl v)))))
    (cases_order a.volume b.volume))
    (⊎_elim (λ s. inr (inr (inl s))) (λ s. inr (inl (inl s))))
    (cases_order a.stamp b.stamp)

pub total_order : TotalOrder
total_order = record {
  irreflexive = λ a h. grind (arith, nat_tests);
  transitive = λ a b c h k. grind (arith, nat_tests);
  comparable = comparable;
}
