-- What one delivery more does to the foremost reading.
use Rattle.std.proofs.Common.{◌≡◌, ℕ, ◌⊎◌, List, [], ◌∷◌, ◌++◌, Some, None, Option, sym, refl, ap, subst, inl, inr, ⊎_elim}
use Rattle.std.proofs.ByRecursion.{has_push, has_push_cases, has_append_left}
use Rattle.readings.specs.declared.reading.Reading.{Reading}
use Rattle.readings.specs.Order.{Ahead}
use Rattle.readings.proofs.Orders.{total_order}
use Rattle.stores.specs.Grid.{Grid}
use Rattle.settlement.specs.Steps.{Leads}
use Rattle.settlement.specs.Book.{Noted, note, Book, Foremost, Shows, Overtaken}

-- of two readings one is ahead, or they are one
ahead_or : (x y : Reading) → (Ahead y x → ⊥) → (x ≡ y) ⊎ Ahead x y
ahead_or x y nay = ⊎_elim inl (⊎_elim inr (λ l. absurd (nay l))) (total_order.comparable x y)

module _ (ds : List Noted) (m p : ℕ) (r : Reading) where
  -- another place shows what it showed
  pub foremost_other : (i j : ℕ) (o : Option Reading) → (i ≡ m → j ≡ p → ⊥) → Foremost ds i j o → Foremost (ds ++ note m p r ∷ []) i j o
  foremost_other i j None ne h =
      λ q has. ⊎_elim (h q) (λ e. ne (sym (ap (λ d. d.meter) e)) (sym (ap (λ d. d.period) e))) (has_push_cases ds (note m p r) (note i j q) has)
  foremost_other i j (Some x) ne h = (
    has_append_left ds _ _ h.0,
    λ q has. ⊎_elim (h.1 q) (λ e. absurd (ne (sym (ap (λ d. d.meter) e)) (sym (ap (λ d. d.period) e)))) (has_push_cases ds (note m p r) (note i j q) has),
  )

  -- a reading that leads is the foremost
  pub foremost_takes : (o : Option Reading) → Leads r o → Foremost ds m p o → Foremost (ds ++ note m p r ∷ []) m p (Some r)
  foremost_takes None l h = (
    has_push ds (note m p r),
    λ q has a. ⊎_elim (h q) (λ e. total_order.irreflexive r (subst (λ d. Ahead d.reading r) (sym e) a)) (has_push_cases ds (note m p r) (note m p q) has),
  )
  foremost_takes (Some x) l h = (
    has_push ds (note m p r),
    λ q has a. ⊎_elim (λ old. h.1 q old (total_order.transitive q r x a l)) (λ e. total_order.irreflexive r (subst (λ d. Ahead d.reading r) (sym e) a))
        (has_push_cases ds (note m p r) (note m p q) has),
  )

  -- one that does not lead leaves the foremost
  pub foremost_keeps : (o : Option Reading) → (Leads r o → ⊥) → Foremost ds m p o → Foremost (ds ++ note m p r ∷ []) m p o
  foremost_keeps None l h = absurd (l tt)
  foremost_keeps (Some x) l h = (
    has_append_left ds _ _ h.0,
    λ q has a. ⊎_elim (λ old. h.1 q old a) (λ e. l (subst (λ d. Ahead d.reading x) (sym e) a)) (has_push_cases ds (note m p r) (note m p q) has),
  )

  -- a reading that leads is overtaken by none, and one that does not is
  pub leads_free : (o : Option Reading) → Leads r o → Foremost ds m p o → Overtaken ds m p r → ⊥
  leads_free None l h t = h t.0 t.1.0
  leads_free (Some x) l h t = ⊎_elim
      (λ (e : x ≡ t.0). t.1.1 (subst (λ y. Ahead r y) e l))
      (λ (b : Ahead x t.0). t.1.1 (total_order.transitive r x t.0 l b))
      (ahead_or x t.0 (h.1 t.0 t.1.0))

  pub led_behind : (o : Option Reading) → (Leads r o → ⊥) → Foremost ds m p o → Overtaken ds m p r
  led_behind None l h = absurd (l tt)
  led_behind (Some x) l h = (x, (h.0, l))

-- the foremost reading is one
foremost_one : (ds : List Noted) (m p : ℕ) (a b : Option Reading) → Foremost ds m p a → Foremost ds m p b → a ≡ b
foremost_one ds m p None None h k = refl
foremost_one ds m p None (Some y) h k = absurd (h y k.0)
foremost_one ds m p (Some x) None h k = absurd (k x h.0)
foremost_one ds m p (Some x) (Some y) h k = ⊎_elim (λ e. ap Some e) (λ l. absurd (k.1 x h.0 l)) (ahead_or x y (h.1 y k.0))

-- two grids that show the same book are one
pub shows_one : (b : Book) (g h : Grid) → Shows b g → Shows b h → g ≡ h
shows_one b g h x y = λ i m p. foremost_one b.delivered m p (g m p) (h m p) (x m p) (y m p) i
