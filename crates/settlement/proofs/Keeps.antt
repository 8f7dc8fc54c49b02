-- One call more keeps what a run has.
use Rattle.std.proofs.Common.{◌≡◌, ℕ, ◌-◌, ◌≤◌, Bool, true, false, List, [], ◌∷◌, ◌++◌, length, is_err, Some, None, Ok, Err, sym, refl, ap, ◌∙◌, subst, inl, inr, ⊎_elim, arith, length-set}
use Rattle.std.specs.List.{ContainsAt as Has}
use Rattle.market.specs.Lowest.{Lowest}
use Rattle.readings.specs.declared.reading.Reading.{Reading}
use Rattle.readings.specs.declared.delivery.Delivery.{Delivery}
use Rattle.readings.specs.Delivery.{Reads}
use Rattle.readings.specs.Numbers.{reading_of}
use Rattle.readings.proofs.Numbers.{reading_back}
use Rattle.meters.specs.declared.row.MeterRow.{MeterRow}
use Rattle.stores.specs.Grid.{Grid, with_place}
use Rattle.totals.specs.Exactness.{ExactTotals}
use Rattle.rules.specs.declared.state.State.{State}
use Rattle.rules.specs.declared.state.State.TheVariants.{New, Settled, Final}
use Rattle.rules.specs.States.{next_state}
use Rattle.rules.specs.Tables.{with_row}
use Rattle.engine.specs.Revision.{with_entry}
use Rattle.rules.specs.Asked.{Asked, settle, deliver, amend, factor, shape, close, Deed, settles, delivers, amends, refactors, reshapes, closes}
use Rattle.rules.specs.Standing.{Standing, standing}
use Rattle.rules.specs.Rules.{Fault, Judged}
use Rattle.settlement.specs.declared.day.Outcome.{Outcome}
use Rattle.settlement.specs.declared.day.Outcome.TheVariants.{Done, Superseded}
use Rattle.settlement.specs.World.{ReportMeaning, Setting, World, sizes_of, standing_of}
use Rattle.settlement.specs.Steps.{Answer, event_of_deed, rows_after, factors_after, shapes_after, Right, Acted, Answered, Step}
use Rattle.settlement.specs.Book.{note, Book, History, noted, recorded, entered, advanced, Foremost, Shows, Superseding}
use Rattle.settlement.specs.Runs.{Fair, Kept, Moved, BookTotals, BookExact, Sound, book_standing}
use Rattle.settlement.proofs.Places.{place_cases}
use Rattle.settlement.proofs.Foremosts.{foremost_other, foremost_takes, foremost_keeps, leads_free, led_behind, shows_one}
use Rattle.settlement.proofs.Rights.{right_same, right_book, right_exact}
use Rattle.settlement.proofs.Sounds.{stored_in, rows_in, tables_in, sound_same, sound_settled, sound_delivered, sound_amended, sound_factored, sound_shaped}

-- what the loop keeps: all is as the book has it, and unless the day is new the totals are right for what is there
pub record Good {X M N : Type 0} (t : Setting X M N) (from : World X M N) (b : Book) (s : State) (w : World X M N) : Type 0 where
  pub state : w.day.state ≡ s
  pub sizes : sizes_of t w ≡ sizes_of t from
  pub stored_meters : t.store.meters w.store ≡ t.store.meters from.store
  pub stored_periods : t.store.periods w.store ≡ t.store.periods from.store
  pub fixed : t.store.fixed w.store ≡ t.store.fixed from.store
  pub rows : w.rows ≡ b.rows
  pub factors : w.factors ≡ b.factors
  pub shapes : w.shapes ≡ b.shapes
  pub shows : Shows b (t.store.grid w.store)
  pub first : (s ≡ New → ⊥) → Right t.first (standing_of t w) w.first
  pub second : (s ≡ New → ⊥) → Right t.second (standing_of t w) w.second
  pub sound : (s ≡ New → ⊥) → Sound (standing_of t w)
  pub few : (s ≡ New → ⊥) → length w.rows ≤ t.store.meters w.store

-- what the reports and the store vouch for: totals of at most 4,096 meters lose nothing, and there are no more
pub record Vouched {X M N : Type 0} (t : Setting X M N) (from : World X M N) : Type 0 where
  pub first : ExactTotals t.first.algebra t.first.rules t.first.figure
  pub second : ExactTotals t.second.algebra t.second.rules t.second.figure
  pub meters : t.store.meters from.store ≤ 4096

-- a state that is neither new nor final
settled_left : (s : State) → (s ≡ Final → ⊥) → (s ≡ New → ⊥) → s ≡ Settled
settled_left New h ne = absurd (ne refl)
settled_left Settled h ne = refl
settled_left Final h ne = absurd (h refl)

-- a call that was not turned down met no final day, and a close no new one
not_final : (x : Standing) (c : Asked) → Lowest (Fault x c) None → x.state ≡ Final → ⊥
not_final x c ok e = ok 2 (inl (inr (inl (refl, inl e))))

not_new : (x : Standing) → Lowest (Fault x close) None → x.state ≡ New → ⊥
not_new x ok e = ok 2 (inl (inr (inl (refl, inr (e, refl)))))

-- the reading of the numbers given is the one that was accepted
reads_one : (d : Delivery) (r : Reading) → Reads d r → reading_of d.stamp d.volume d.quality ≡ Some r
reads_one d r h =
    ap (λ n. reading_of n d.volume d.quality) (sym h.0) ∙ ap (λ n. reading_of r.stamp n d.quality) (sym h.1)
    ∙ ap (reading_of r.stamp r.volume) (sym h.2) ∙ reading_back r

-- neither settled nor final is new
pub state_unlike : (Settled ≡ New → ⊥) × (Final ≡ New → ⊥)
state_unlike = (λ e. let z : ◌≡◌ {A = ℕ} 0 1 = cc in omega arith, λ e. let z : ◌≡◌ {A = ℕ} 0 1 = cc in omega arith)

false_true : {A : Type 0} → ◌≡◌ {A = Bool} false true → A
false_true e = let z : ◌≡◌ {A = ℕ} 0 1 = cc in absurd (omega arith)

-- there are as many records as before
rows_long : (rows : List MeterRow) (k : Deed) → length (rows_after rows k) ≡ length rows
rows_long rows settles = refl
rows_long rows (delivers m p r) = refl
rows_long rows (amends m row) = length-set rows (m - 1) row
rows_long rows (refactors k p f) = refl
rows_long rows (reshapes k p v) = refl
rows_long rows closes = refl

-- what was done for each call
module _ {X M N : Type 0} (t : Setting X M N) (w v : World X M N) where
  acted_settle : (o : Outcome) → Answered t w settle (Ok o) v → Acted t w settles o v
  acted_settle o (settles, (e, acted)) = acted
  acted_settle o (delivers i j r, (e, acted)) = absurd e
  acted_settle o (amends i new, (e, acted)) = absurd e
  acted_settle o (refactors i j g, (e, acted)) = absurd e
  acted_settle o (reshapes i j u, (e, acted)) = absurd e
  acted_settle o (closes, (e, acted)) = absurd e

  acted_deliver : (m p : ℕ) (d : Delivery) (o : Outcome) → Answered t w (deliver m p d) (Ok o) v → (r : Reading) × (Reads d r × Acted t w (delivers m p r) o v)
  acted_deliver m p d o (settles, (e, acted)) = absurd e
  acted_deliver m p d o (delivers i j r, (e, acted)) =
      (r, (e.2, subst (λ n. Acted t w (delivers n p r) o v) e.0 (subst (λ n. Acted t w (delivers i n r) o v) e.1 acted)))
  acted_deliver m p d o (amends i new, (e, acted)) = absurd e
  acted_deliver m p d o (refactors i j g, (e, acted)) = absurd e
  acted_deliver m p d o (reshapes i j u, (e, acted)) = absurd e
  acted_deliver m p d o (closes, (e, acted)) = absurd e

  acted_amend : (m : ℕ) (row : MeterRow) (o : Outcome) → Answered t w (amend m row) (Ok o) v → Acted t w (amends m row) o v
  acted_amend m row o (settles, (e, acted)) = absurd e
  acted_amend m row o (delivers i j r, (e, acted)) = absurd e
  acted_amend m row o (amends i new, (e, acted)) =
      subst (λ n. Acted t w (amends n row) o v) e.0 (subst (λ n. Acted t w (amends i n) o v) e.1 acted)
  acted_amend m row o (refactors i j g, (e, acted)) = absurd e
  acted_amend m row o (reshapes i j u, (e, acted)) = absurd e
  acted_amend m row o (closes, (e, acted)) = absurd e

  acted_factor : (k p f : ℕ) (o : Outcome) → Answered t w (factor k p f) (Ok o) v → Acted t w (refactors k p f) o v
  acted_factor k p f o (settles, (e, acted)) = absurd e
  acted_factor k p f o (delivers i j r, (e, acted)) = absurd e
  acted_factor k p f o (amends i new, (e, acted)) = absurd e
  acted_factor k p f o (refactors i j g, (e, acted)) =
      subst (λ n. Acted t w (refactors n p f) o v) e.0 (subst (λ n. Acted t w (refactors i n f) o v) e.1 (subst (λ n. Acted t w (refactors i j n) o v) e.2 acted))
  acted_factor k p f o (reshapes i j u, (e, acted)) = absurd e
  acted_factor k p f o (closes, (e, acted)) = absurd e

  acted_shape : (k p u' : ℕ) (o : Outcome) → Answered t w (shape k p u') (Ok o) v → Acted t w (reshapes k p u') o v
  acted_shape k p u' o (settles, (e, acted)) = absurd e
  acted_shape k p u' o (delivers i j r, (e, acted)) = absurd e
  acted_shape k p u' o (amends i new, (e, acted)) = absurd e
  acted_shape k p u' o (refactors i j g, (e, acted)) = absurd e
  acted_shape k p u' o (reshapes i j u, (e, acted)) =
      subst (λ n. Acted t w (reshapes n p u') o v) e.0 (subst (λ n. Acted t w (reshapes i n u') o v) e.1 (subst (λ n. Acted t w (reshapes i j n) o v) e.2 acted))
  acted_shape k p u' o (closes, (e, acted)) = absurd e

  acted_close : (o : Outcome) → Answered t w close (Ok o) v → Acted t w closes o v
  acted_close o (settles, (e, acted)) = absurd e
  acted_close o (delivers i j r, (e, acted)) = absurd e
  acted_close o (amends i new, (e, acted)) = absurd e
  acted_close o (refactors i j g, (e, acted)) = absurd e
  acted_close o (reshapes i j u, (e, acted)) = absurd e
  acted_close o (closes, (e, acted)) = acted

module _ {X M N : Type 0} (t : Setting X M N) (from : World X M N) (b : Book) (s : State) where
  -- what is there is what the book has
  standing_is : (w : World X M N) → Good t from b s w → (grid : Grid) → Shows b grid → standing_of t w ≡ book_standing t from b s grid
  standing_is w g grid shows = λ i.
      standing (g.state i) (g.sizes i) (g.stored_meters i) (g.stored_periods i) (shows_one b (t.store.grid w.store) grid g.shows shows i) (g.rows i) (g.factors i) (g.shapes i)

  -- what is kept, in the words of the promise
  pub good_kept : (h : History) (w : World X M N) → Vouched t from → (Has h (settle, Ok Done) → s ≡ New → ⊥) → Good t from b s w → Kept t from h b s w
  good_kept h w vouched settled g = record {
    state = g.state;
    sizes = g.sizes;
    stored_meters = g.stored_meters;
    stored_periods = g.stored_periods;
    fixed = g.fixed;
    rows = g.rows;
    factors = g.factors;
    shapes = g.shapes;
    shows = g.shows;
    first = λ has. subst (λ z. BookTotals t.first z.periods b w.first) g.sizes
        (right_book t.first b (standing_of t w) w.first g.rows g.factors g.shapes g.shows (g.first (settled has)));
    second = λ has. subst (λ z. BookTotals t.second z.periods b w.second) g.sizes
        (right_book t.second b (standing_of t w) w.second g.rows g.factors g.shapes g.shows (g.second (settled has)));
    first_exact = λ has. subst (λ z. BookExact t.first z.periods b w.first) g.sizes
        (right_exact t.first b (standing_of t w) w.first vouched.first (g.sound (settled has)) (few (settled has)) g.rows g.factors g.shapes g.shows (g.first (settled has)));
    second_exact = λ has. subst (λ z. BookExact t.second z.periods b w.second) g.sizes
        (right_exact t.second b (standing_of t w) w.second vouched.second (g.sound (settled has)) (few (settled has)) g.rows g.factors g.shapes g.shows (g.second (settled has)));
    sound = λ has grid shows. subst (λ (z : Standing). Sound z) (standing_is w g grid shows) (g.sound (settled has));
  }
    where
      few : (s ≡ New → ⊥) → length w.rows ≤ 4096
      few ne = let some = g.few ne in let same = g.stored_meters in let most = vouched.meters in omega arith

  module _ (w v : World X M N) where
    -- superseded exactly where a reading at least as foremost was delivered
    superseding : (c : Asked) (r : Answer) → Good t from b s w → Step t w c r v → Superseding b c r
    superseding c (Err e) g step = tt
    superseding settle (Ok Done) g step = tt
    superseding settle (Ok Superseded) g step = (acted_settle t w v Superseded step.answered).led
    superseding (deliver m p d) (Ok Done) g step =
        let done = acted_deliver t w v m p d Done step.answered in
        (done.0, (done.1.0, leads_free b.delivered m p done.0 (t.store.grid w.store m p) done.1.1.led (g.shows m p)))
    superseding (deliver m p d) (Ok Superseded) g step =
        let done = acted_deliver t w v m p d Superseded step.answered in
        (done.0, (done.1.0, led_behind b.delivered m p done.0 (t.store.grid w.store m p) done.1.1.led (g.shows m p)))
    superseding (amend m row) (Ok Done) g step = tt
    superseding (amend m row) (Ok Superseded) g step = (acted_amend t w v m row Superseded step.answered).led
    superseding (factor k p f) (Ok Done) g step = tt
    superseding (factor k p f) (Ok Superseded) g step = (acted_factor t w v k p f Superseded step.answered).led
    superseding (shape k p u) (Ok Done) g step = tt
    superseding (shape k p u) (Ok Superseded) g step = (acted_shape t w v k p u Superseded step.answered).led
    superseding close (Ok Done) g step = tt
    superseding close (Ok Superseded) g step = (acted_close t w v Superseded step.answered).led

    -- which totals of either report moved
    first_moved : (c : Asked) (r : Answer) → Step t w c r v → Moved t.first w.day.periods w.day.state c r w.first v.first
    first_moved c (Err e) step = ap (λ u. u.first) step.answered
    first_moved settle (Ok o) step = tt
    first_moved (deliver m p d) (Ok Done) step = (acted_deliver t w v m p d Done step.answered).1.1.first_moves
    first_moved (deliver m p d) (Ok Superseded) step = (acted_deliver t w v m p d Superseded step.answered).1.1.first_moves
    first_moved (amend m row) (Ok o) step = (acted_amend t w v m row o step.answered).first_moves
    first_moved (factor k p x) (Ok o) step = (acted_factor t w v k p x o step.answered).first_moves
    first_moved (shape k p u) (Ok o) step = (acted_shape t w v k p u o step.answered).first_moves
    first_moved close (Ok o) step = (acted_close t w v o step.answered).first_moves

    second_moved : (c : Asked) (r : Answer) → Step t w c r v → Moved t.second w.day.periods w.day.state c r w.second v.second
    second_moved c (Err e) step = ap (λ u. u.second) step.answered
    second_moved settle (Ok o) step = tt
    second_moved (deliver m p d) (Ok Done) step = (acted_deliver t w v m p d Done step.answered).1.1.second_moves
    second_moved (deliver m p d) (Ok Superseded) step = (acted_deliver t w v m p d Superseded step.answered).1.1.second_moves
    second_moved (amend m row) (Ok o) step = (acted_amend t w v m row o step.answered).second_moves
    second_moved (factor k p x) (Ok o) step = (acted_factor t w v k p x o step.answered).second_moves
    second_moved (shape k p u) (Ok o) step = (acted_shape t w v k p u o step.answered).second_moves
    second_moved close (Ok o) step = (acted_close t w v o step.answered).second_moves

    -- turned down, nothing changed
    untouched : (c : Asked) (r : Answer) → Step t w c r v → is_err r ≡ true → v ≡ w
    untouched c (Ok o) step e = false_true e
    untouched c (Err x) step e = step.answered

    -- what holds of one call
    pub keeps_fair : (c : Asked) (r : Answer) → Good t from b s w → Step t w c r v → Fair t from b s c r w v
    keeps_fair c r g step = record {
      judged = λ grid shows. subst (λ x. Judged x c r) (standing_is w g grid shows) step.judged;
      superseding = superseding c r g step;
      first = subst (λ z. Moved t.first z.periods s c r w.first v.first) g.sizes
          (subst (λ z. Moved t.first w.day.periods z c r w.first v.first) g.state (first_moved c r step));
      second = subst (λ z. Moved t.second z.periods s c r w.second v.second) g.sizes
          (subst (λ z. Moved t.second w.day.periods z c r w.second v.second) g.state (second_moved c r step));
      untouched = untouched c r step;
    }

    -- the sizes stay
    same_sizes : (k : Deed) (o : Outcome) → Acted t w k o v → sizes_of t v ≡ sizes_of t w
    same_sizes k o acted = λ i. record {
      periods = acted.periods i;
      limit = acted.limit i;
      first = record { totals = acted.first_size i; places = t.first.rules.places };
      second = record { totals = acted.second_size i; places = t.second.rules.places };
    }

    -- what a deed leaves as the book has it, whatever it does to the totals and to what is stored
    good_acted : (k : Deed) (o : Outcome) (b' : Book) (s' : State) → Good t from b s w → Acted t w k o v → s' ≡ next_state s (event_of_deed k) →
        rows_after b.rows k ≡ b'.rows → factors_after b.factors k ≡ b'.factors → shapes_after b.shapes k ≡ b'.shapes → Shows b' (t.store.grid v.store) →
        ((s' ≡ New → ⊥) → Right t.first (standing_of t v) v.first) → ((s' ≡ New → ⊥) → Right t.second (standing_of t v) v.second) →
        ((s' ≡ New → ⊥) → Sound (standing_of t v)) → ((s' ≡ New → ⊥) → length w.rows ≤ t.store.meters w.store) → Good t from b' s' v
    good_acted k o b' s' g acted next rows factors shapes shows first second sound few = record {
      state = acted.state ∙ ap (λ z. next_state z (event_of_deed k)) g.state ∙ sym next;
      sizes = same_sizes k o acted ∙ g.sizes;
      stored_meters = acted.stored_meters ∙ g.stored_meters;
      stored_periods = acted.stored_periods ∙ g.stored_periods;
      fixed = acted.fixed ∙ g.fixed;
      rows = acted.rows ∙ ap (λ z. rows_after z k) g.rows ∙ rows;
      factors = acted.factors ∙ ap (λ z. factors_after z k) g.factors ∙ factors;
      shapes = acted.shapes ∙ ap (λ z. shapes_after z k) g.shapes ∙ shapes;
      shows = shows;
      first = first;
      second = second;
      sound = sound;
      few = λ ne. let old = few ne in let long = ap length acted.rows ∙ rows_long w.rows k in let same = acted.stored_meters in omega arith;
    }

    -- what settling would find is the same over the same things
    still_sound : (x : Standing) (k : Deed) (o : Outcome) → Acted t w k o v → x.sizes ≡ sizes_of t w → ((i j : ℕ) → t.store.grid v.store i j ≡ x.grid i j) →
        v.rows ≡ x.rows → v.factors ≡ x.factors → v.shapes ≡ x.shapes → Sound x → Sound (standing_of t v)
    still_sound x k o acted sizes grid rows factors shapes = sound_same x (standing_of t v) (same_sizes k o acted ∙ sym sizes) grid rows factors shapes

    -- where the store shows what it showed and no total moved, totals that were right are right
    still_right : {L : Type 0} (r : ReportMeaning L) (k : Deed) (o : Outcome) (cells next : List L) → Acted t w k o v →
        ((i j : ℕ) → t.store.grid v.store i j ≡ t.store.grid w.store i j) → v.rows ≡ w.rows → v.factors ≡ w.factors → v.shapes ≡ w.shapes → next ≡ cells →
        Right r (standing_of t w) cells → Right r (standing_of t v) next
    still_right r k o cells next acted grid rows factors shapes same =
        right_same r (standing_of t w) (standing_of t v) cells next (same_sizes k o acted) grid rows factors shapes same

    now_settled : (c : Asked) → Good t from b s w → Lowest (Fault (standing_of t w) c) None → (s ≡ New → ⊥) → w.day.state ≡ Settled
    now_settled c g ok ne = settled_left w.day.state (not_final (standing_of t w) c ok) (λ e. ne (sym g.state ∙ e))

    -- a delivery that came to stand
    put_shows : (m p : ℕ) (r : Reading) → Good t from b s w → Acted t w (delivers m p r) Done v → (i j : ℕ) →
        Foremost (b.delivered ++ note m p r ∷ []) i j (t.store.grid v.store i j)
    put_shows m p r g acted i j = subst (Foremost (b.delivered ++ note m p r ∷ []) i j) (sym (acted.grid i j)) (⊎_elim
        (λ (x : (i ≡ m) × (j ≡ p) × (with_place (t.store.grid w.store) m p r i j ≡ Some r)).
        subst (Foremost (b.delivered ++ note m p r ∷ []) i j) (sym x.2)
        (subst (λ n. Foremost (b.delivered ++ note m p r ∷ []) i n (Some r)) (sym x.1)
        (subst (λ n. Foremost (b.delivered ++ note m p r ∷ []) n p (Some r)) (sym x.0)
        (foremost_takes b.delivered m p r (t.store.grid w.store m p) acted.led (g.shows m p)))))
        (λ (x : (i ≡ m → j ≡ p → ⊥) × (with_place (t.store.grid w.store) m p r i j ≡ t.store.grid w.store i j)).
        subst (Foremost (b.delivered ++ note m p r ∷ []) i j) (sym x.1) (foremost_other b.delivered m p r i j (t.store.grid w.store i j) x.0 (g.shows i j)))
        (place_cases (t.store.grid w.store) m p r i j))

    -- one that was superseded
    left_shows : (m p : ℕ) (r : Reading) → Good t from b s w → Acted t w (delivers m p r) Superseded v → (i j : ℕ) →
        Foremost (b.delivered ++ note m p r ∷ []) i j (t.store.grid v.store i j)
    left_shows m p r g acted i j = subst (Foremost (b.delivered ++ note m p r ∷ []) i j) (sym (acted.grid i j)) (⊎_elim
        (λ (x : (i ≡ m) × (j ≡ p) × (with_place (t.store.grid w.store) m p r i j ≡ Some r)).
        subst (λ n. Foremost (b.delivered ++ note m p r ∷ []) i n (t.store.grid w.store i n)) (sym x.1)
        (subst (λ n. Foremost (b.delivered ++ note m p r ∷ []) n p (t.store.grid w.store n p)) (sym x.0)
        (foremost_keeps b.delivered m p r (t.store.grid w.store m p) acted.led (g.shows m p))))
        (λ (x : (i ≡ m → j ≡ p → ⊥) × (with_place (t.store.grid w.store) m p r i j ≡ t.store.grid w.store i j)).
        foremost_other b.delivered m p r i j (t.store.grid w.store i j) x.0 (g.shows i j))
        (place_cases (t.store.grid w.store) m p r i j))

    -- the book with the reading that was given
    with_reading : (m p : ℕ) (d : Delivery) (r : Reading) → Reads d r → noted b.delivered m p (reading_of d.stamp d.volume d.quality) ≡ b.delivered ++ note m p r ∷ []
    with_reading m p d r e = ap (noted b.delivered m p) (reads_one d r e)

    -- one call more keeps it
    pub keeps_good : (c : Asked) (r : Answer) → Good t from b s w → Step t w c r v → Good t from (entered b c r) (advanced s c r) v
    keeps_good c (Err e) g step = subst (Good t from b s) (sym step.answered) g
    keeps_good settle (Ok Superseded) g step = absurd (acted_settle t w v Superseded step.answered).led
    keeps_good settle (Ok Done) g step =
        let acted = acted_settle t w v Done step.answered in
        good_acted settles Done b Settled g acted refl refl refl refl (λ m p. subst (Foremost b.delivered m p) (sym (acted.grid m p)) (g.shows m p))
        (λ _. acted.first_follows) (λ _. acted.second_follows)
        (λ _. still_sound (standing_of t w) settles Done acted refl acted.grid acted.rows acted.factors acted.shapes (sound_settled (standing_of t w) step.judged))
        (λ _. step.ready.0.few_meters)
    keeps_good (deliver m p d) (Ok Done) g step =
        let done = acted_deliver t w v m p d Done step.answered in
        let acted = done.1.1 in
        good_acted (delivers m p done.0) Done (recorded b (deliver m p d)) s g acted refl refl refl refl
        (λ i j. subst (λ ds. Foremost ds i j (t.store.grid v.store i j)) (sym (with_reading m p d done.0 done.1.0)) (put_shows m p done.0 g acted i j))
        (λ ne. acted.first_follows (now_settled (deliver m p d) g step.judged ne) (g.first ne))
        (λ ne. acted.second_follows (now_settled (deliver m p d) g step.judged ne) (g.second ne))
        (λ ne. still_sound (stored_in (standing_of t w) (with_place (t.store.grid w.store) m p done.0)) (delivers m p done.0) Done acted refl acted.grid acted.rows acted.factors acted.shapes
        (sound_delivered (standing_of t w) (g.sound ne) m p d done.0 done.1.0 step.judged))
        g.few
    keeps_good (deliver m p d) (Ok Superseded) g step =
        let done = acted_deliver t w v m p d Superseded step.answered in
        let acted = done.1.1 in
        good_acted (delivers m p done.0) Superseded (recorded b (deliver m p d)) s g acted refl refl refl refl
        (λ i j. subst (λ ds. Foremost ds i j (t.store.grid v.store i j)) (sym (with_reading m p d done.0 done.1.0)) (left_shows m p done.0 g acted i j))
        (λ ne. still_right t.first (delivers m p done.0) Superseded w.first v.first acted acted.grid acted.rows acted.factors acted.shapes acted.first_moves (g.first ne))
        (λ ne. still_right t.second (delivers m p done.0) Superseded w.second v.second acted acted.grid acted.rows acted.factors acted.shapes acted.second_moves (g.second ne))
        (λ ne. still_sound (standing_of t w) (delivers m p done.0) Superseded acted refl acted.grid acted.rows acted.factors acted.shapes (g.sound ne))
        g.few
    keeps_good (amend m row) (Ok Superseded) g step = absurd (acted_amend t w v m row Superseded step.answered).led
    keeps_good (amend m row) (Ok Done) g step =
        let acted = acted_amend t w v m row Done step.answered in
        good_acted (amends m row) Done (recorded b (amend m row)) s g acted refl refl refl refl (λ i j. subst (Foremost b.delivered i j) (sym (acted.grid i j)) (g.shows i j))
        (λ ne. acted.first_follows (now_settled (amend m row) g step.judged ne) (g.first ne))
        (λ ne. acted.second_follows (now_settled (amend m row) g step.judged ne) (g.second ne))
        (λ ne. still_sound (rows_in (standing_of t w) (with_row w.rows m row)) (amends m row) Done acted refl acted.grid acted.rows acted.factors acted.shapes (sound_amended (standing_of t w) (g.sound ne) m row (now_settled (amend m row) g step.judged ne) step.ready step.judged))
        g.few
    keeps_good (factor k p f) (Ok Superseded) g step = absurd (acted_factor t w v k p f Superseded step.answered).led
    keeps_good (factor k p f) (Ok Done) g step =
        let acted = acted_factor t w v k p f Done step.answered in
        good_acted (refactors k p f) Done (recorded b (factor k p f)) s g acted refl refl refl refl (λ i j. subst (Foremost b.delivered i j) (sym (acted.grid i j)) (g.shows i j))
        (λ ne. acted.first_follows (now_settled (factor k p f) g step.judged ne) (g.first ne))
        (λ ne. acted.second_follows (now_settled (factor k p f) g step.judged ne) (g.second ne))
        (λ ne. still_sound (tables_in (standing_of t w) (with_entry 40 w.factors k p f) w.shapes) (refactors k p f) Done acted refl acted.grid acted.rows acted.factors acted.shapes (sound_factored (standing_of t w) (g.sound ne) k p f step.ready step.judged))
        g.few
    keeps_good (shape k p u) (Ok Superseded) g step = absurd (acted_shape t w v k p u Superseded step.answered).led
    keeps_good (shape k p u) (Ok Done) g step =
        let acted = acted_shape t w v k p u Done step.answered in
        good_acted (reshapes k p u) Done (recorded b (shape k p u)) s g acted refl refl refl refl (λ i j. subst (Foremost b.delivered i j) (sym (acted.grid i j)) (g.shows i j))
        (λ ne. acted.first_follows (now_settled (shape k p u) g step.judged ne) (g.first ne))
        (λ ne. acted.second_follows (now_settled (shape k p u) g step.judged ne) (g.second ne))
        (λ ne. still_sound (tables_in (standing_of t w) w.factors (with_entry 32 w.shapes k p u)) (reshapes k p u) Done acted refl acted.grid acted.rows acted.factors acted.shapes (sound_shaped (standing_of t w) (g.sound ne) k p u step.ready step.judged))
        g.few
    keeps_good close (Ok Superseded) g step = absurd (acted_close t w v Superseded step.answered).led
    keeps_good close (Ok Done) g step =
        let acted = acted_close t w v Done step.answered in
        let ripe : s ≡ New → ⊥ = λ e. not_new (standing_of t w) step.judged (g.state ∙ e) in
        good_acted closes Done b Final g acted refl refl refl refl (λ m p. subst (Foremost b.delivered m p) (sym (acted.grid m p)) (g.shows m p))
        (λ _. still_right t.first closes Done w.first v.first acted acted.grid acted.rows acted.factors acted.shapes acted.first_moves (g.first ripe))
        (λ _. still_right t.second closes Done w.second v.second acted acted.grid acted.rows acted.factors acted.shapes acted.second_moves (g.second ripe))
        (λ _. still_sound (standing_of t w) closes Done acted refl acted.grid acted.rows acted.factors acted.shapes (g.sound ripe))
        (λ _. g.few ripe)
