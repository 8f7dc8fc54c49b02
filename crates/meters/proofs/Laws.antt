-- A record is lawful where the test says so.
use Rattle.std.proofs.Common.{◌≡◌, true, false, ⊎_elim}
use Rattle.std.proofs.lemmas.Bool.{and_parts, and_from, cases_Bool}
use Rattle.meters.specs.declared.row.MeterRow.{MeterRow}
use Rattle.meters.specs.Lawful.{Lawful, is_lawful}

pub lawful_true : (m : MeterRow) → Lawful m → is_lawful m ≡ true
unfolding is_lawful
lawful_true m h =
    and_from _ _ (and_from _ _ h.mpan h.connection)
    (and_from _ _ (and_from _ _ h.shape_class h.loss_class)
    (and_from _ _ (and_from _ _ h.base_unit h.additional_unit) (and_from _ _ h.tariff h.supplier)))

pub true_lawful : (m : MeterRow) → is_lawful m ≡ true → Lawful m
unfolding is_lawful
true_lawful m h =
    let first = and_parts _ _ h in
    let second = and_parts _ _ first.1 in
    let third = and_parts _ _ second.1 in
    let a = and_parts _ _ first.0 in
    let b = and_parts _ _ second.0 in
    let c = and_parts _ _ third.0 in
    let d = and_parts _ _ third.1 in
    record {
      mpan = a.0;
      connection = a.1;
      shape_class = b.0;
      loss_class = b.1;
      base_unit = c.0;
      additional_unit = c.1;
      tariff = d.0;
      supplier = d.1;
    }

pub unlawful_false : (m : MeterRow) → (Lawful m → ⊥) → is_lawful m ≡ false
unlawful_false m h = ⊎_elim (λ t. absurd (h (true_lawful m t))) (λ f. f) (cases_Bool (is_lawful m))
