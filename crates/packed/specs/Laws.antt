-- The laws of readings in bytes.
use Rattle.std.proofs.Common.{◌≡◌, ℕ, ◌+◌, ◌*◌, ◌<◌, ◌≤◌, List, length, get_or, inl, inr, ⊎_elim, add-zero, arith}
use Rattle.std.proofs.lemmas.List.{length-append, length-take, length-drop}
use Rattle.std.proofs.lemmas.Bool.{cases_order}
use Rattle.readings.proofs.Numbers.{no_stamp_none}
use Rattle.readings.specs.declared.reading.Reading.{Reading}
use Rattle.stores.specs.Layout.{LayoutLaws}
use Rattle.packed.specs.Layout.{word_at, written, shown_in, written_in}
use Rattle.packed.specs.Nine.{shown_again, shown_elsewhere}

-- nine bytes that are 0 have no stamp
no_word : (bs : List ℕ) (o : ℕ) → ((i : ℕ) → i < 9 → get_or bs (o + i) 0 ≡ 0) → word_at bs o ≡ 0
no_word bs o z =
    let first : get_or bs o 0 ≡ 0 = rw add-zero at (z 0 (omega arith)) in
    omega (arith, first, z 1 (omega arith), z 2 (omega arith), z 3 (omega arith))

-- writing a reading leaves as many bytes as there were
pub length_written : (bs : List ℕ) (o : ℕ) (r : Reading) → o + 9 ≤ length bs → length (written bs o r) ≡ length bs
length_written bs o r h = simp (length-append, length-take, length-drop) (omega arith)

-- a reading that was written is shown, every other place shows what it did, and nine bytes that are 0 show nothing
pub packed_laws : LayoutLaws 9 0 shown_in written_in
packed_laws = record {
  some = omega arith;
  few = omega arith;
  size = λ bs k r h. length_written bs (k * 9) r h;
  back = λ bs k r h. shown_again bs (k * 9) r h;
  elsewhere = λ bs k j r h l apart.
      shown_elsewhere bs (k * 9) (j * 9) r h
      (⊎_elim (λ e. absurd (apart e)) (⊎_elim (λ b. inl (omega arith)) (λ b. inr (omega arith))) (cases_order j k));
  nothing = λ bs k h zero. rw (no_word bs (k * 9) zero) (no_stamp_none _ _);
}
