-- Nothing that counts on a settled day is missing or above its limit, and each call leaves it so.
use Rattle.std.proofs.Common.{◌≡◌, ℕ, ◌-◌, ◌<◌, ◌≤◌, List, length, Some, None, Option, sym, refl, ap, ◌∙◌, subst, inl, inr, ⊎_elim, arith, length-set, get_or-set_other, get_or-set_same}
use Rattle.std.proofs.lemmas.Bool.{cases_eq}
use Rattle.market.specs.Lowest.{Lowest}
use Rattle.readings.specs.declared.reading.Reading.{Reading}
use Rattle.readings.specs.declared.delivery.Delivery.{Delivery}
use Rattle.readings.specs.Delivery.{Reads}
use Rattle.meters.specs.declared.row.MeterRow.{MeterRow}
use Rattle.meters.specs.Class.{class_at}
use Rattle.stores.specs.Grid.{Grid, with_place}
use Rattle.rules.specs.declared.state.State.TheVariants.{Settled}
use Rattle.rules.specs.Tables.{row_of, no_row, with_row, factor_of, shape_of}
use Rattle.rules.specs.Asked.{settle, deliver, amend, factor, shape}
use Rattle.rules.specs.Standing.{Standing, standing, IsMeter}
use Rattle.rules.specs.Places.{Unclassed, TableFault, TablesFault}
use Rattle.rules.specs.Rules.{Ready, RecordFault, LaterFault, Fault}
use Rattle.engine.specs.Revision.{with_entry}
use Rattle.engine.proofs.Tables.{set_entry, set_others}
use Rattle.settlement.specs.Runs.{Sound}
use Rattle.settlement.proofs.Places.{place_cases}

-- one record with a fault is enough, and there is one
fault_of : (x : Standing) (m n : ℕ) → IsMeter x m → RecordFault x settle m (row_of x.rows m) n → LaterFault x settle n
fault_of x m n met fault = inl (m, (row_of x.rows m, ((met, refl), fault)))

sound_by : (y : Standing) → ((m n : ℕ) → IsMeter y m → RecordFault y settle m (row_of y.rows m) n → ⊥) → Sound y
sound_by y none n = ⊎_elim
    (λ f. none f.0 n f.1.1.0.0 (subst (λ row. RecordFault y settle f.0 row n) f.1.1.0.1 f.1.1.1))
    (λ no. no)

-- it speaks of what is stored, the records, the factors and the shapes alone
pub sound_same : (x y : Standing) → y.sizes ≡ x.sizes → ((i j : ℕ) → y.grid i j ≡ x.grid i j) → y.rows ≡ x.rows → y.factors ≡ x.factors → y.shapes ≡ x.shapes →
    Sound x → Sound y
sound_same x y sizes grid rows factors shapes h =
    subst (λ (z : Standing). Sound z)
    (λ i. standing x.state (sym sizes i) x.stored_meters x.stored_periods (λ m p. sym (grid m p) i) (sym rows i) (sym factors i) (sym shapes i)) h

-- a settle that was not turned down found it so
pub sound_settled : (x : Standing) → Lowest (Fault x settle) None → Sound x
sound_settled x ok n fault = ok n (inr fault)

-- the same with other readings stored, other records, or other factors and shapes
abbrev pub stored_in : Standing → Grid → Standing
stored_in x grid = standing x.state x.sizes x.stored_meters x.stored_periods grid x.rows x.factors x.shapes

abbrev pub rows_in : Standing → List MeterRow → Standing
rows_in x rows = standing x.state x.sizes x.stored_meters x.stored_periods x.grid rows x.factors x.shapes

abbrev pub tables_in : Standing → List (Option ℕ) → List (Option ℕ) → Standing
tables_in x factors shapes = standing x.state x.sizes x.stored_meters x.stored_periods x.grid x.rows factors shapes

module _ (x : Standing) (sound : Sound x) where
  -- a reading that was delivered has a class at its meter
  classed : (m p : ℕ) (d : Delivery) (r : Reading) → Reads d r → Lowest (Fault x (deliver m p d)) None → class_at (row_of x.rows m) r.quality ≡ None → ⊥
  classed m p d r reads ok none = ok 13 (inr (inr (inr (r.quality, (reads.2, inr (refl, none))))))

  pub sound_delivered : (m p : ℕ) (d : Delivery) (r : Reading) → Reads d r → Lowest (Fault x (deliver m p d)) None → Sound (stored_in x (with_place x.grid m p r))
  sound_delivered m p d r reads ok = sound_by (stored_in x (with_place x.grid m p r)) (λ i n met. ⊎_elim
      (λ law. sound n (fault_of x i n met (inl law)))
      (⊎_elim
      (λ read. ⊎_elim
      (λ (here : (i ≡ m) × (read.0 ≡ p) × (with_place x.grid m p r i read.0 ≡ Some r)).
      classed m p d r reads ok (subst (λ k. class_at (row_of x.rows k) r.quality ≡ None) here.0 (subst (Unclassed (row_of x.rows i)) here.2 read.1.1.1)))
      (λ (there : (i ≡ m → read.0 ≡ p → ⊥) × (with_place x.grid m p r i read.0 ≡ x.grid i read.0)).
      sound n (fault_of x i n met (inr (inl (read.0, (read.1.0, (read.1.1.0, subst (Unclassed (row_of x.rows i)) there.1 read.1.1.1)))))))
      (place_cases x.grid m p r i read.0))
      (λ tables. sound n (fault_of x i n met (inr (inr tables))))))

  pub sound_amended : (m : ℕ) (new : MeterRow) → x.state ≡ Settled → Ready x (amend m new) → Lowest (Fault x (amend m new)) None → Sound (rows_in x (with_row x.rows m new))
  sound_amended m new settled ready ok = sound_by (rows_in x (with_row x.rows m new)) (λ i n met fault.
      let long : length (with_row x.rows m new) ≡ length x.rows = length-set x.rows (m - 1) new in
      let some : 1 ≤ m = ready.1.0 in
      let low : 1 ≤ i = met.0 in
      let high : i ≤ length (with_row x.rows m new) = met.1 in
      ⊎_elim
      (λ (e : i ≡ m).
      let is : row_of (with_row x.rows m new) i ≡ new = ap (row_of (with_row x.rows m new)) e ∙ get_or-set_same x.rows (m - 1) new no_row (omega arith) in
      let at : RecordFault (rows_in x (with_row x.rows m new)) settle m new n =
      subst (λ k. RecordFault (rows_in x (with_row x.rows m new)) settle k new n) e (subst (λ row. RecordFault (rows_in x (with_row x.rows m new)) settle i row n) is fault) in
      ok n (inr (inl (m, (new, ((refl, inl refl), ⊎_elim inl (⊎_elim (λ y. inr (inl y)) (λ y. inr (inr (y.0, ((settled, y.1.0), y.1.1))))) at))))))
      (λ (d : i ≡ m → ⊥).
      let is : row_of (with_row x.rows m new) i ≡ row_of x.rows i = get_or-set_other x.rows (m - 1) (i - 1) new no_row (λ h. d (omega arith)) in
      sound n (fault_of x i n (low, omega arith) (subst (λ row. RecordFault x settle i row n) is fault)))
      (cases_eq i m))

  sound_tabled : (factors shapes : List (Option ℕ)) →
      ((row : MeterRow) (q n : ℕ) → TablesFault factors shapes row q n → TablesFault x.factors x.shapes row q n) → Sound (tables_in x factors shapes)
  sound_tabled factors shapes back = sound_by (tables_in x factors shapes) (λ i n met. ⊎_elim
      (λ law. sound n (fault_of x i n met (inl law)))
      (⊎_elim
      (λ read. sound n (fault_of x i n met (inr (inl read))))
      (λ tables. sound n (fault_of x i n met (inr (inr (tables.0, (tables.1.0, back (row_of x.rows i) tables.0 n tables.1.1))))))))

  -- a factor within its limit has no fault, so that what is left is the shape's, and the other way round
  factor_left : (row : MeterRow) (f n : ℕ) (old shape_now : Option ℕ) → (9999 < f → ⊥) → TableFault row (Some f) shape_now n → TableFault row old shape_now n
  factor_left row f n old shape_now low = ⊎_elim
      (λ y. inl (y.0, ⊎_elim (λ above. absurd (low above)) inr y.1))
      (⊎_elim (λ y. absurd y.1) (λ y. inr (inr y)))

  shape_left : (row : MeterRow) (v n : ℕ) (factor_now old : Option ℕ) → (1000000000 < v → ⊥) → TableFault row factor_now (Some v) n → TableFault row factor_now old n
  shape_left row v n factor_now old low = ⊎_elim
      (λ y. inl (y.0, ⊎_elim inl (λ above. absurd (low above.1)) y.1))
      (⊎_elim (λ y. inr (inl y)) (λ y. absurd y.2))

  pub sound_factored : (k p f : ℕ) → Ready x (factor k p f) → Lowest (Fault x (factor k p f)) None → Sound (tables_in x (with_entry 40 x.factors k p f) x.shapes)
  sound_factored k p f ready ok =
      let k1 : 1 ≤ k = ready.1.0.0 in
      let kc : k ≤ 40 = ready.1.0.1 in
      let p1 : 1 ≤ p = ready.1.1.0 in
      let pp : p ≤ x.sizes.periods = ready.1.1.1 in
      let long = ready.0.factors in
      let fs = with_entry 40 x.factors k p f in
      let now : factor_of fs k p ≡ Some f = set_entry 40 x.factors k p f k1 kc p1 (omega arith) in
      let old : MeterRow → ℕ → Option ℕ = λ row q. shape_of x.shapes row.shape_class q in
      let others : (row : MeterRow) (q n : ℕ) → (row.loss_class ≡ k → q ≡ p → ⊥) → TablesFault fs x.shapes row q n → TablesFault x.factors x.shapes row q n =
      λ row q n ne fault. subst (λ o. TableFault row o (old row q) n) (set_others 40 x.factors k p f k1 kc p1 row.loss_class q ne) fault in
      sound_tabled fs x.shapes (λ row q n fault. ⊎_elim
      (λ (e : row.loss_class ≡ k). ⊎_elim
      (λ (h : q ≡ p). factor_left row f n (factor_of x.factors row.loss_class q) (old row q) (λ above. ok 6 (inr (inr (refl, above))))
      (subst (λ o. TableFault row o (old row q) n) (ap (λ c. factor_of fs c q) e ∙ ap (factor_of fs k) h ∙ now) fault))
      (λ (d : q ≡ p → ⊥). others row q n (λ _. d) fault)
      (cases_eq q p))
      (λ (d : row.loss_class ≡ k → ⊥). others row q n (λ e _. d e) fault)
      (cases_eq row.loss_class k))

  pub sound_shaped : (k p v : ℕ) → Ready x (shape k p v) → Lowest (Fault x (shape k p v)) None → Sound (tables_in x x.factors (with_entry 32 x.shapes k p v))
  sound_shaped k p v ready ok =
      let k1 : 1 ≤ k = ready.1.0.0 in
      let kc : k ≤ 32 = ready.1.0.1 in
      let p1 : 1 ≤ p = ready.1.1.0 in
      let pp : p ≤ x.sizes.periods = ready.1.1.1 in
      let long = ready.0.shapes in
      let sh = with_entry 32 x.shapes k p v in
      let now : shape_of sh k p ≡ Some v = set_entry 32 x.shapes k p v k1 kc p1 (omega arith) in
      let old : MeterRow → ℕ → Option ℕ = λ row q. factor_of x.factors row.loss_class q in
      let others : (row : MeterRow) (q n : ℕ) → (row.shape_class ≡ k → q ≡ p → ⊥) → TablesFault x.factors sh row q n → TablesFault x.factors x.shapes row q n =
      λ row q n ne fault. subst (λ o. TableFault row (old row q) o n) (set_others 32 x.shapes k p v k1 kc p1 row.shape_class q ne) fault in
      sound_tabled x.factors sh (λ row q n fault. ⊎_elim
      (λ (e : row.shape_class ≡ k). ⊎_elim
      (λ (h : q ≡ p). shape_left row v n (old row q) (shape_of x.shapes row.shape_class q) (λ above. ok 6 (inr (inr (refl, above))))
      (subst (λ o. TableFault row (old row q) o n) (ap (λ c. shape_of sh c q) e ∙ ap (shape_of sh k) h ∙ now) fault))
      (λ (d : q ≡ p → ⊥). others row q n (λ _. d) fault)
      (cases_eq q p))
      (λ (d : row.shape_class ≡ k → ⊥). others row q n (λ e _. d e) fault)
      (cases_eq row.shape_class k))
