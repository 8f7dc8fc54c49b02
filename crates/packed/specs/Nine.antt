-- What nine bytes that were written show, and what the others show.
use Rattle.std.proofs.Common.{◌≡◌, ℕ, ◌+◌, ◌-◌, ◌*◌, ◌/◌, ◌%◌, ◌<◌, ◌≤◌, ◌⊎◌, List, ◌++◌, length, get_or, take, drop, Some, refl, ap, ◌∙◌, inl, inr, ⊎_elim, arith}
use Rattle.std.proofs.lemmas.List.{get_or-append_right, get_or_append_left, get_or-take, get_or-drop, length-take-le}
use Rattle.readings.specs.declared.reading.Reading.{Reading}
use Rattle.readings.proofs.Numbers.{reading_back}
use Rattle.packed.specs.Layout.{word_at, nine_bytes, reading_at, written}

-- a byte of what was written
in_nine : (bs : List ℕ) (o : ℕ) (r : Reading) → o + 9 ≤ length bs → (n k : ℕ) → k < 9 → n ≡ o + k → get_or (written bs o r) n 0 ≡ get_or (nine_bytes r) k 0
in_nine bs o r h n k l e =
    let from : n - o ≡ k = omega arith in
    get_or-append_right (take o bs) (nine_bytes r ++ drop (o + 9) bs) o n 0 (length-take-le o bs (omega arith)) (omega arith)
    ∙ ap (λ x. get_or (nine_bytes r ++ drop (o + 9) bs) x 0) from
    ∙ get_or_append_left (nine_bytes r) (drop (o + 9) bs) 0 k l

-- a byte before or after
off_nine : (bs : List ℕ) (o k : ℕ) (r : Reading) → o + 9 ≤ length bs → (k < o) ⊎ (o + 9 ≤ k) → get_or (written bs o r) k 0 ≡ get_or bs k 0
off_nine bs o k r h (inl l) =
    get_or_append_left (take o bs) (nine_bytes r ++ drop (o + 9) bs) 0 k (rw (length-take-le o bs (omega arith)) l)
    ∙ get_or-take o bs k 0 l
off_nine bs o k r h (inr l) =
    let to : (o + 9) + ((k - o) - 9) ≡ k = omega arith in
    get_or-append_right (take o bs) (nine_bytes r ++ drop (o + 9) bs) o k 0 (length-take-le o bs (omega arith)) (omega arith)
    ∙ get_or-append_right (nine_bytes r) (drop (o + 9) bs) 9 (k - o) 0 refl (omega arith)
    ∙ get_or-drop (o + 9) bs ((k - o) - 9) 0
    ∙ ap (λ n. get_or bs n 0) to

four_back : (n : ℕ) → n / 16777216 * 16777216 + n / 65536 % 256 * 65536 + n / 256 % 256 * 256 + n % 256 ≡ n
four_back n = omega arith

-- what was written is shown again
pub shown_again : (bs : List ℕ) (o : ℕ) (r : Reading) → o + 9 ≤ length bs → reading_at (written bs o r) o ≡ Some r
shown_again bs o r h =
    let b : (n k : ℕ) → k < 9 → n ≡ o + k → get_or (written bs o r) n 0 ≡ get_or (nine_bytes r) k 0 = in_nine bs o r h in
    let b0 = b o 0 (omega arith) (omega arith) in
    let b1 = b (o + 1) 1 (omega arith) refl in
    let b2 = b (o + 2) 2 (omega arith) refl in
    let b3 = b (o + 3) 3 (omega arith) refl in
    let b4 = b (o + 4) 4 (omega arith) refl in
    let b5 = b (o + 4 + 1) 5 (omega arith) (omega arith) in
    let b6 = b (o + 4 + 2) 6 (omega arith) (omega arith) in
    let b7 = b (o + 4 + 3) 7 (omega arith) (omega arith) in
    let stamp : word_at (written bs o r) o ≡ r.stamp = omega (arith, b0, b1, b2, b3, four_back r.stamp) in
    let volume : word_at (written bs o r) (o + 4) ≡ r.volume = omega (arith, b4, b5, b6, b7, four_back r.volume) in
    rw (stamp, volume, b (o + 8) 8 (omega arith) refl) (reading_back r)

-- what stands elsewhere is shown as before
pub shown_elsewhere : (bs : List ℕ) (o q : ℕ) (r : Reading) → o + 9 ≤ length bs → (q + 9 ≤ o) ⊎ (o + 9 ≤ q) → reading_at (written bs o r) q ≡ reading_at bs q
shown_elsewhere bs o q r h d =
    let b : (n k : ℕ) → k < 9 → n ≡ q + k → get_or (written bs o r) n 0 ≡ get_or bs n 0 =
    λ n k l e. off_nine bs o n r h (⊎_elim (λ x. inl (omega arith)) (λ x. inr (omega arith)) d) in
    rw (
      b q 0 (omega arith) (omega arith),
      b (q + 1) 1 (omega arith) refl,
      b (q + 2) 2 (omega arith) refl,
      b (q + 3) 3 (omega arith) refl,
      b (q + 4) 4 (omega arith) refl,
      b (q + 4 + 1) 5 (omega arith) (omega arith),
      b (q + 4 + 2) 6 (omega arith) (omega arith),
      b (q + 4 + 3) 7 (omega arith) (omega arith),
      b (q + 8) 8 (omega arith) refl,
    )
