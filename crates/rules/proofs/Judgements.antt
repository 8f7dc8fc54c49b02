-- The faults that the checks find are those of the rules.
use Rattle.std.proofs.Common.{◌≡◌, ℕ, ◌<◌, ◌≤◌, ◌⊎◌, length, Some, None, Ok, Err, Option, Result, sym, refl, ap, ◌∙◌, subst, inl, inr, ⊎_elim, arith}
use Rattle.market.specs.declared.refusal.Refusal.{Refusal}
use Rattle.market.specs.Lowest.{Lowest, turned_down}
use Rattle.readings.specs.declared.delivery.Delivery.{Delivery}
use Rattle.meters.specs.declared.row.MeterRow.{MeterRow}
use Rattle.meters.specs.Lawful.{Lawful}
use Rattle.rules.specs.declared.call.Call.{Call}
use Rattle.rules.specs.declared.revision.Revision.{Revision}
use Rattle.rules.specs.declared.revision.Revision.TheVariants.{Factor, Shape}
use Rattle.readings.specs.declared.reading.Reading.{Reading}
use Rattle.rules.specs.declared.state.State.TheVariants.{Settled}
use Rattle.rules.specs.Tables.{row_of}
use Rattle.rules.specs.Asked.{Asked, settle, deliver, amend, factor, shape, close, revised}
use Rattle.rules.specs.Standing.{Standing}
use Rattle.rules.specs.Joined.{lower, Among}
use Rattle.rules.specs.Places.{ReadingFault, TablesFault, WholeFault, StoredFault, RowFault, RevisionFault, OneFault, GivenAbove}
use Rattle.rules.specs.Rules.{FirstFault, RecordFault, ReadFault, DeliverFault, GivenFault, LaterFault, Fault, Ready, Judged, Taken, Cleared}
use Rattle.rules.proofs.Lowests.{lowest_same, lowest_or, lowest_before, lowest_after}
use Rattle.rules.proofs.Faults.{table_late}
use Rattle.rules.proofs.Deliveries.{delivery_bounds, admission_late}

module _ (x : Standing) where
  -- the faults of one record over all periods, in the words of the rules
  whole_record : (m n : ℕ) (row : MeterRow) → WholeFault x.grid x.factors x.shapes x.sizes.periods row m n → RecordFault x settle m row n
  whole_record m n row = ⊎_elim inl (λ y. ⊎_elim (λ z. inr (inl (y.0, ((y.1.0, y.1.1), z)))) (λ z. inr (inr (y.0, ((y.1.0, y.1.1), z)))) y.1.2)

  record_whole : (m n : ℕ) (row : MeterRow) → RecordFault x settle m row n → WholeFault x.grid x.factors x.shapes x.sizes.periods row m n
  record_whole m n row = ⊎_elim inl (⊎_elim (λ y. inr (y.0, (y.1.0.0, y.1.0.1, inl y.1.1))) (λ y. inr (y.0, (y.1.0.0, y.1.0.1, inr y.1.1))))

  -- settling has the faults of every record over all periods
  pub settle_faults : (r : Option ℕ) →
      Lowest (Among (length x.rows) (λ m. WholeFault x.grid x.factors x.shapes x.sizes.periods (row_of x.rows m) m)) r → Lowest (LaterFault x settle) r
  settle_faults r = lowest_same (Among (length x.rows) (λ m. WholeFault x.grid x.factors x.shapes x.sizes.periods (row_of x.rows m) m)) (LaterFault x settle) r
      (λ n y. inl (y.0, (row_of x.rows y.0, (((y.1.0, y.1.1), refl), whole_record y.0 n (row_of x.rows y.0) y.1.2))))
      (λ n. ⊎_elim
      (λ y. (y.0, (y.1.1.0.0.0, y.1.1.0.0.1, subst (λ row. WholeFault x.grid x.factors x.shapes x.sizes.periods row y.0 n) y.1.1.0.1 (record_whole y.0 n y.1.0 y.1.1.1))))
      (λ none. absurd none))

  module _ (m p : ℕ) (d : Delivery) where
    abbrev One : ℕ → Type 0
    One n = OneFault x.state x.grid x.factors x.shapes (row_of x.rows m) m p n

    abbrev Given : ℕ → Type 0
    Given n = DeliverFault (row_of x.rows m) x.sizes.limit d n

    one_record : (n : ℕ) → One n → RecordFault x (deliver m p d) m (row_of x.rows m) n
    one_record n = ⊎_elim inl (λ y. ⊎_elim (λ z. inr (inl (p, ((y.0, refl), z)))) (λ z. inr (inr (p, ((y.0, refl), z)))) y.1)

    record_one : (n i : ℕ) (row : MeterRow) → i ≡ m → row ≡ row_of x.rows i → RecordFault x (deliver m p d) i row n → One n
    record_one n i row e f = ⊎_elim
        (λ y. inl (y.0, subst (λ k. Lawful (row_of x.rows k) → ⊥) e (subst (λ k. Lawful k → ⊥) f y.1)))
        (⊎_elim
        (λ y. inr (
          y.1.0.0,
          inl (subst (λ k. ReadingFault x.grid (row_of x.rows k) k p n) e
              (subst (λ k. ReadingFault x.grid k i p n) f (subst (λ q. ReadingFault x.grid row i q n) y.1.0.1 y.1.1))),
        ))
        (λ y. inr (
          y.1.0.0,
          inr (subst (λ k. TablesFault x.factors x.shapes (row_of x.rows k) p n) e
              (subst (λ k. TablesFault x.factors x.shapes k p n) f (subst (λ q. TablesFault x.factors x.shapes row q n) y.1.0.1 y.1.1))),
        )))

    -- a delivery has the faults of its record, and those of what is given
    to_rules : (r : Option ℕ) → Lowest (λ n. One n ⊎ Given n) r → Lowest (LaterFault x (deliver m p d)) r
    to_rules r = lowest_same (λ n. One n ⊎ Given n) (LaterFault x (deliver m p d)) r
        (λ n. ⊎_elim (λ y. inl (m, (row_of x.rows m, ((refl, refl), one_record n y)))) inr)
        (λ n. ⊎_elim (λ y. inl (record_one n y.0 y.1.0 y.1.1.0.0 y.1.1.0.1 y.1.1.1)) inr)

    one_early : (n : ℕ) → One n → n ≤ 8
    one_early n = ⊎_elim (λ y. let e : n ≡ 4 = y.0 in omega arith)
        (λ y. ⊎_elim (λ z. let e : n ≡ 5 = z.0 in omega arith)
        (⊎_elim (λ z. let e : n ≡ 6 = z.0 in omega arith) (⊎_elim (λ z. let e : n ≡ 7 = z.0 in omega arith) (λ z. let e : n ≡ 8 = z.0 in omega arith))) y.1)

    given_late : (n : ℕ) → Given n → 9 ≤ n
    given_late n = ⊎_elim (λ y. (delivery_bounds d x.sizes.limit n y).0)
        (λ y. let late = admission_late (row_of x.rows m) y.0 n y.1.1 in omega arith)

    pub deliver_record : (n : ℕ) → Lowest One (Some n) → Lowest (LaterFault x (deliver m p d)) (Some n)
    deliver_record n h = to_rules (Some n) (lowest_before One Given n h (λ k y. let low = one_early n h.0 in let late = given_late k y in omega arith))

    pub deliver_given : (r : Option ℕ) → Lowest One None → Lowest Given r → Lowest (LaterFault x (deliver m p d)) r
    deliver_given r none h = to_rules r (lowest_after One Given r none h)

  -- on a settled day amending has the faults of the new record and of the old one over all periods
  module _ (m : ℕ) (new : MeterRow) where
    abbrev Whole : MeterRow → ℕ → Type 0
    Whole row n = WholeFault x.grid x.factors x.shapes x.sizes.periods row m n

    whole_amend : (n : ℕ) (row : MeterRow) → x.state ≡ Settled → Whole row n → RecordFault x (amend m new) m row n
    whole_amend n row s = ⊎_elim inl
        (λ y. ⊎_elim (λ z. inr (inl (y.0, ((y.1.0, y.1.1), z)))) (λ z. inr (inr (y.0, ((s, (y.1.0, y.1.1)), z)))) y.1.2)

    amend_whole : (n : ℕ) (row : MeterRow) → RecordFault x (amend m new) m row n → Whole row n
    amend_whole n row = ⊎_elim inl
        (⊎_elim (λ y. inr (y.0, (y.1.0.0, y.1.0.1, inl y.1.1))) (λ y. inr (y.0, (y.1.0.1.0, y.1.0.1.1, inr y.1.1))))

    pub amend_settled : (a b : Option ℕ) → x.state ≡ Settled → Lowest (Whole new) a → Lowest (Whole (row_of x.rows m)) b →
        Lowest (LaterFault x (amend m new)) (lower a b)
    amend_settled a b s h k = lowest_same (λ n. Whole new n ⊎ Whole (row_of x.rows m) n) (LaterFault x (amend m new)) (lower a b)
        (λ n. ⊎_elim (λ y. inl (m, (new, ((refl, inl refl), whole_amend n new s y)))) (λ y. inl (m, (row_of x.rows m, ((refl, inr (s, refl)), whole_amend n (row_of x.rows m) s y)))))
        (λ n. ⊎_elim
        (λ y.
        let fault : Whole y.1.0 n = amend_whole n y.1.0 (subst (λ i. RecordFault x (amend m new) i y.1.0 n) y.1.1.0.0 y.1.1.1) in
        ⊎_elim
        (λ e. inl (subst (λ row. Whole row n) e fault))
        (λ e. inr (subst (λ row. Whole row n) (e.1 ∙ ap (row_of x.rows) y.1.1.0.0) fault))
        y.1.1.0.1)
        (λ none. absurd none))
        (lowest_or (Whole new) (Whole (row_of x.rows m)) a b h k)

    -- on another day those of the new record and of what is stored
    abbrev Stored : ℕ → Type 0
    Stored n = StoredFault x.grid x.sizes.periods new m n

    pub amend_new : (r : Option ℕ) → (x.state ≡ Settled → ⊥) → Lowest Stored r → Lowest (LaterFault x (amend m new)) r
    amend_new r s = lowest_same Stored (LaterFault x (amend m new)) r
        (λ n. ⊎_elim (λ y. inl (m, (new, ((refl, inl refl), inl y)))) (λ y. inl (m, (new, ((refl, inl refl), inr (inl (y.0, ((y.1.0, y.1.1), y.1.2))))))))
        (λ n. ⊎_elim
        (λ y. ⊎_elim
        (λ e.
        let fault : RecordFault x (amend m new) m new n =
        subst (λ row. RecordFault x (amend m new) m row n) e (subst (λ i. RecordFault x (amend m new) i y.1.0 n) y.1.1.0.0 y.1.1.1) in
        ⊎_elim inl (⊎_elim (λ z. inr (z.0, (z.1.0.0, z.1.0.1, z.1.1))) (λ z. absurd (s z.1.0.0))) fault)
        (λ e. absurd (s e.0))
        y.1.1.0.1)
        (λ none. absurd none))

  -- on a settled day setting a factor or a shape reads every record in its period
  module _ (k p f : ℕ) where
    abbrev InPeriod : ℕ → Type 0
    InPeriod n = (x.state ≡ Settled) × Among (length x.rows) (λ m. RowFault x.grid x.factors x.shapes p (row_of x.rows m) m) n

    period_read : (n : ℕ) → InPeriod n → ReadFault x (factor k p f) n
    period_read n y = (
      y.1.0,
      (
        row_of x.rows y.1.0,
        (
          (y.0, (y.1.1.0, y.1.1.1), refl),
          ⊎_elim inl (⊎_elim (λ z. inr (inl (p, ((y.0, refl), z)))) (λ z. inr (inr (p, ((y.0, refl), z))))) y.1.1.2,
        ),
      ),
    )

    read_period : (n : ℕ) → ReadFault x (factor k p f) n → InPeriod n
    read_period n y = (
      y.1.1.0.0,
      (
        y.0,
        (
          y.1.1.0.1.0,
          y.1.1.0.1.1,
          subst (λ row. RowFault x.grid x.factors x.shapes p row y.0 n) y.1.1.0.2
              (⊎_elim inl (⊎_elim
              (λ z. inr (inl (subst (λ q. ReadingFault x.grid y.1.0 y.0 q n) z.1.0.1 z.1.1)))
              (λ z. inr (inr (subst (λ q. TablesFault x.factors x.shapes y.1.0 q n) z.1.0.1 z.1.1)))) y.1.1.1),
        ),
      ),
    )

    revision : (Given : ℕ → Type 0) (q : ℕ) (r : Option ℕ) → q ≡ p →
        Lowest (λ n. ((x.state ≡ Settled) × Among (length x.rows) (λ m. RowFault x.grid x.factors x.shapes q (row_of x.rows m) m) n) ⊎ Given n) r →
        Lowest (λ n. ReadFault x (factor k p f) n ⊎ Given n) r
    revision Given q r e h =
        lowest_same (λ n. InPeriod n ⊎ Given n) (λ n. ReadFault x (factor k p f) n ⊎ Given n) r
        (λ n. ⊎_elim (λ y. inl (period_read n y)) inr)
        (λ n. ⊎_elim (λ y. inl (read_period n y)) inr)
        (subst (λ j. Lowest (λ n. ((x.state ≡ Settled) × Among (length x.rows) (λ m. RowFault x.grid x.factors x.shapes j (row_of x.rows m) m) n) ⊎ Given n) r) e h)

  -- so does what is given: it is above its limit
  pub revised_faults : (p : ℕ) (given : Revision) (q : ℕ) (r : Option ℕ) → q ≡ p →
      Lowest (RevisionFault x.state x.grid x.factors x.shapes x.rows q given) r → Lowest (LaterFault x (revised p given)) r
  revised_faults p (Factor k f) = revision k p f (GivenAbove (Factor k f))
  revised_faults p (Shape k v) = revision k p v (GivenAbove (Shape k v))

  -- closing reads nothing and is given nothing
  pub close_faults : Lowest (LaterFault x close) None
  close_faults n = ⊎_elim (λ y. y.1.1.0) (λ none. none)

  record_late : (c : Asked) (m k : ℕ) (row : MeterRow) → RecordFault x c m row k → 4 ≤ k
  record_late c m k row = ⊎_elim (λ y. let e : k ≡ 4 = y.0 in omega arith)
      (⊎_elim (λ y. let e : k ≡ 5 = y.1.1.0 in omega arith) (λ y. let l = table_late row _ _ k y.1.1 in omega arith))

  given_later : (c : Asked) (k : ℕ) → GivenFault x c k → 4 ≤ k
  given_later settle k none = absurd none
  given_later (deliver m p d) k h = let l = given_late m p d k h in omega arith
  given_later (amend m row) k none = absurd none
  given_later (factor i p f) k h = let e : k ≡ 6 = h.0 in omega arith
  given_later (shape i p v) k h = let e : k ≡ 6 = h.0 in omega arith
  given_later close k none = absurd none

  later : (c : Asked) (k : ℕ) → LaterFault x c k → 4 ≤ k
  later c k = ⊎_elim (λ y. record_late c y.0 k y.1.0 y.1.1.1) (given_later c k)

  -- a fault of the call as such comes first
  pub fault_first : (c : Asked) (n : ℕ) → Lowest (FirstFault x c) (Some n) → n < 4 → Lowest (Fault x c) (Some n)
  fault_first c n h l = lowest_before (FirstFault x c) (LaterFault x c) n h (λ k q. let up = later c k q in omega arith)

  -- with none the others are left
  pub fault_later : (c : Asked) (r : Option ℕ) → Lowest (FirstFault x c) None → Lowest (LaterFault x c) r → Lowest (Fault x c) r
  fault_later c r none h = lowest_after (FirstFault x c) (LaterFault x c) r none h

  -- a call with no fault as such is judged by what it reads and is given
  pub judged_later : {P : Type 0} (number : P → ℕ) (c k : Asked) (r : Result (Call P Reading) Refusal) → c ≡ k → Lowest (FirstFault x c) None → Ready x c →
      Lowest (LaterFault x k) (turned_down r) → Taken number k r → Judged x c r × Cleared number x c r
  judged_later {P} number c k r e none ready h taken =
      (fault_later c (turned_down r) none (subst (λ a. Lowest (LaterFault x a) (turned_down r)) (sym e) h), cleared r (subst (λ a. Taken number a r) (sym e) taken))
    where
      cleared : (q : Result (Call P Reading) Refusal) → Taken number c q → Cleared number x c q
      cleared (Ok task) t = (ready, t)
      cleared (Err refusal) t = tt
