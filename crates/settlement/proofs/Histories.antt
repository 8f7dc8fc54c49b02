-- A history with one call more, and the run over it.
use Rattle.std.proofs.Common.{◌≡◌, ℕ, ◌+◌, ◌<◌, List, [], ◌∷◌, ◌++◌, length, get_or, take, Ok, Err, sym, refl, ap, ◌∙◌, subst, ⊎_elim, arith}
use Rattle.std.specs.List.{ContainsAt as Has}
use Rattle.std.proofs.lemmas.List.{take_more, take_all, length-take-le}
use Rattle.std.proofs.ByRecursion.{has_push_cases}
use Rattle.std.proofs.lemmas.List.Sums.{fold_push}
use Rattle.readings.specs.declared.delivery.Delivery.{Delivery}
use Rattle.rules.specs.declared.call.Call.{Call}
use Rattle.rules.specs.declared.state.State.{State}
use Rattle.rules.specs.declared.state.State.TheVariants.{New}
use Rattle.rules.specs.Asked.{Asked, settle, deliver, amend, factor, shape, close, asked}
use Rattle.settlement.specs.declared.day.Outcome.TheVariants.{Done}
use Rattle.settlement.specs.World.{Setting, World}
use Rattle.settlement.specs.Steps.{Answer, Step}
use Rattle.settlement.specs.Book.{History, Book, entered, advanced, state_after, Foremost}
use Rattle.settlement.specs.Runs.{book_from, Fresh, SettlementRun, NoDrift, history_of}
use Rattle.settlement.specs.Runs.SettlementRun.{start, and_then}
use Rattle.settlement.proofs.Keeps.{Good, Vouched, good_kept, keeps_good, keeps_fair, state_unlike}

module _ {P : Type 0} (number : P → ℕ) where
  -- the history of one call more
  history_push : (cs : List (Call P Delivery)) (rs : List Answer) (c : Call P Delivery) (r : Answer) → length cs ≡ length rs →
      history_of number (cs ++ c ∷ []) (rs ++ r ∷ []) ≡ history_of number cs rs ++ (asked number c, r) ∷ []
  history_push [] [] c r e = refl
  history_push [] (x ∷ rs) c r e = absurd (omega arith)
  history_push (y ∷ cs) [] c r e = absurd (omega arith)
  history_push (y ∷ cs) (x ∷ rs) c r e = ap (λ h. (asked number y, x) ∷ h) (history_push cs rs c r (omega arith))

  history_more : (cs : List (Call P Delivery)) (rs : List Answer) (i : ℕ) (c : Call P Delivery) (r : Answer) → i < length cs → length rs ≡ i → c ≡ get_or cs i c →
      history_of number (take (i + 1) cs) (rs ++ r ∷ []) ≡ history_of number (take i cs) rs ++ (asked number c, r) ∷ []
  history_more cs rs i c r l e here =
      ap (λ t. history_of number t (rs ++ r ∷ [])) (take_more cs i c l)
      ∙ ap (λ d. history_of number (take i cs ++ d ∷ []) (rs ++ r ∷ [])) (sym here)
      ∙ history_push (take i cs) rs c r (length-take-le i cs (omega arith) ∙ sym e)

-- a state that is not new stays so, and settling makes it so
state_kept : (s : State) (c : Asked) (r : Answer) → (s ≡ New → ⊥) → advanced s c r ≡ New → ⊥
state_kept s c (Err e) ne = ne
state_kept s settle (Ok o) ne = state_unlike.0
state_kept s (deliver m p d) (Ok o) ne = ne
state_kept s (amend m row) (Ok o) ne = ne
state_kept s (factor k p f) (Ok o) ne = ne
state_kept s (shape k p v) (Ok o) ne = ne
state_kept s close (Ok o) ne = state_unlike.1

module _ {X M N : Type 0} (t : Setting X M N) where
  -- what the loop has: the facts of the present, and the run so far
  pub record Ran (from : World X M N) (h : History) (w : World X M N) : Type 0 where
    pub good : Good t from (book_from from h) (state_after New h) w
    pub settled : Has h (settle, Ok Done) → state_after New h ≡ New → ⊥
    pub run : SettlementRun t from h w

  book_push : (from : World X M N) (h : History) (c : Asked) (r : Answer) → book_from from (h ++ (c, r) ∷ []) ≡ entered (book_from from h) c r
  book_push from h c r = fold_push _ _ h (c, r)

  state_push : (h : History) (c : Asked) (r : Answer) → state_after New (h ++ (c, r) ∷ []) ≡ advanced (state_after New h) c r
  state_push h c r = fold_push _ _ h (c, r)

  settled_push : (h : History) (c : Asked) (r : Answer) → (Has h (settle, Ok Done) → state_after New h ≡ New → ⊥) → Has (h ++ (c, r) ∷ []) (settle, Ok Done) →
      state_after New (h ++ (c, r) ∷ []) ≡ New → ⊥
  settled_push h c r before has = subst (λ s. s ≡ New → ⊥) (sym (state_push h c r)) (⊎_elim
      (λ old. state_kept (state_after New h) c r (before old))
      (λ e. subst (λ line. advanced (state_after New h) line.0 line.1 ≡ New → ⊥) (sym e) state_unlike.0)
      (has_push_cases h (c, r) (settle, Ok Done) has))

  -- one call more
  ran_push : (from : World X M N) (h : History) (w v : World X M N) (c : Asked) (r : Answer) → Vouched t from → Ran from h w → Step t w c r v → Ran from (h ++ (c, r) ∷ []) v
  ran_push from h w v c r vouched ran step =
      let b : Book = book_from from h in
      let s : State = state_after New h in
      let good : Good t from (book_from from (h ++ (c, r) ∷ [])) (state_after New (h ++ (c, r) ∷ [])) v =
      subst (λ k. Good t from k (state_after New (h ++ (c, r) ∷ [])) v) (sym (book_push from h c r))
      (subst (λ z. Good t from (entered b c r) z v) (sym (state_push h c r)) (keeps_good t from b s w v c r ran.good step)) in
      let settled = settled_push h c r ran.settled in
      record {
        good = good;
        settled = settled;
        run = and_then c r ran.run (keeps_fair t from b s w v c r ran.good step)
            (good_kept t from (book_from from (h ++ (c, r) ∷ [])) (state_after New (h ++ (c, r) ∷ [])) (h ++ (c, r) ∷ []) v vouched settled good);
      }

  -- the same, from a fresh day
  abbrev pub RanFrom : World X M N → History → World X M N → Type 0
  RanFrom from h w = Vouched t from → Fresh t from → Ran from h w

  pub ran_none : (w : World X M N) → RanFrom w [] w
  ran_none w vouched fresh = record {
    good = record {
      state = fresh.new;
      sizes = refl;
      stored_meters = refl;
      stored_periods = refl;
      fixed = refl;
      rows = refl;
      factors = refl;
      shapes = refl;
      shows = λ m p. subst (Foremost [] m p) (sym (fresh.bare m p)) (λ r has. let l : has.0 < 0 = has.1 in omega arith);
      first = λ ne. absurd (ne refl);
      second = λ ne. absurd (ne refl);
      sound = λ ne. absurd (ne refl);
      few = λ ne. absurd (ne refl);
    };
    settled = λ has. let l : has.0 < 0 = has.1 in absurd (omega arith);
    run = start;
  }

  -- one turn of the loop
  pub ran_more : {P : Type 0} (number : P → ℕ) (from : World X M N) (cs : List (Call P Delivery)) (rs : List Answer) (i : ℕ) (c : Call P Delivery) (r : Answer) (w v : World X M N) →
      i < length cs → length rs ≡ i → c ≡ get_or cs i c → RanFrom from (history_of number (take i cs) rs) w → Step t w (asked number c) r v →
      RanFrom from (history_of number (take (i + 1) cs) (rs ++ r ∷ [])) v
  ran_more number from cs rs i c r w v l e here ran step vouched fresh =
      subst (λ h. Ran from h v) (sym (history_more number cs rs i c r l e here))
      (ran_push from (history_of number (take i cs) rs) w v (asked number c) r vouched (ran vouched fresh) step)

  -- the end of the loop
  pub ran_all : {P : Type 0} (number : P → ℕ) (from : World X M N) (cs : List (Call P Delivery)) (rs : List Answer) (i : ℕ) (w : World X M N) → i ≡ length cs → Vouched t from →
      RanFrom from (history_of number (take i cs) rs) w → NoDrift t from (history_of number cs rs) w
  ran_all number from cs rs i w e vouched ran fresh =
      subst (λ h. SettlementRun t from h w) (ap (λ l. history_of number l rs) (take_all i cs (omega arith))) (ran vouched fresh).run
