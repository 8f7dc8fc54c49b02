-- How readings lie in records: 48 to a meter, one a period.
use Rattle.std.specs.Prelude.{◌≡◌, ℕ, ◌+◌, ◌*◌, List, Some, None, Option, slice_index_or, slice_set}
use Rattle.std.proofs.Common.{ap, ◌∙◌, arith}
use Rattle.std.proofs.lemmas.List.{length-set, get_or-set_same, get_or-set_other}
use Rattle.readings.specs.declared.reading.Reading.{Reading}
use Rattle.stores.specs.Layout.{LayoutLaws}

-- what a place shows: its record
abbrev pub shown_in : List (Option Reading) → ℕ → Option Reading
shown_in rs k = slice_index_or rs k None

-- the records with that of a place replaced by a reading, and no other
abbrev pub written_in : List (Option Reading) → ℕ → Reading → List (Option Reading)
written_in rs k r = slice_set rs k (Some r)

pub records_laws : LayoutLaws 1 None shown_in written_in
records_laws = record {
  some = omega arith;
  few = omega arith;
  size = λ rs k r h. length-set rs k (Some r);
  back = λ rs k r h. get_or-set_same rs k (Some r) None (omega arith);
  elsewhere = λ rs k j r h l apart. get_or-set_other rs k j (Some r) None apart;
  nothing = λ rs k h blank. let same : k ≡ k * 1 + 0 = omega arith in ap (λ i. slice_index_or rs i None) same ∙ blank 0 (omega arith);
}
