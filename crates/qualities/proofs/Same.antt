-- Qualities and their numbers: each tells the other.
use Rattle.std.proofs.Common.{◌≡◌, ◌≢◌, ℕ, ◌<◌, Bool, true, eqb, ltb, List, length, get_or, Some, None, Option, Bor, sym, refl, ap, subst, arith}
use Rattle.std.specs.List.{AllWithin, HoldsAt}
use Rattle.std.specs.Slice.{IsItemAt}
use Rattle.std.specs.Option.{MatchOption, ok_or, option_copied}
use Rattle.std.proofs.lemmas.Bool.{eqb-true, ltb-true, agree_below_at}
use Rattle.std.proofs.lemmas.Option.{cond_some}
use Rattle.std.proofs.lemmas.Bool.Decides.{nat_tests}
use Rattle.qualities.specs.declared.quality.Quality.{Quality}
use Rattle.qualities.specs.declared.quality.UnknownQuality.{UnknownQuality}
use Rattle.qualities.specs.declared.quality.UnknownName.{UnknownName}
use Rattle.qualities.specs.declared.quality.Quality.TheVariants.{A, A1, A2, A3, AAE1, AAE2, AAE3, E, E1, E2, E3, E4, E5, E6, E7, E8, EA1, EA2, EA3, EA4, EA5, EA6, EA7, EA8, EA9, EA10, EA11, EA12, EAE1, EAE2, EAE3, ZE, ZE1, ZE2, ZE3}
use Rattle.qualities.specs.Quality.{number_of, text_of, qualities, quality_of, ByNumber, ByText}

pub quality_of_number : (q : Quality) → quality_of (number_of q) ≡ Some q
quality_of_number A = refl
quality_of_number A1 = refl
quality_of_number A2 = refl
quality_of_number A3 = refl
quality_of_number AAE1 = refl
quality_of_number AAE2 = refl
quality_of_number AAE3 = refl
quality_of_number E = refl
quality_of_number E1 = refl
quality_of_number E2 = refl
quality_of_number E3 = refl
quality_of_number E4 = refl
quality_of_number E5 = refl
quality_of_number E6 = refl
quality_of_number E7 = refl
quality_of_number E8 = refl
quality_of_number EA1 = refl
quality_of_number EA2 = refl
quality_of_number EA3 = refl
quality_of_number EA4 = refl
quality_of_number EA5 = refl
quality_of_number EA6 = refl
quality_of_number EA7 = refl
quality_of_number EA8 = refl
quality_of_number EA9 = refl
quality_of_number EA10 = refl
quality_of_number EA11 = refl
quality_of_number EA12 = refl
quality_of_number EAE1 = refl
quality_of_number EAE2 = refl
quality_of_number EAE3 = refl
quality_of_number ZE = refl
quality_of_number ZE1 = refl
quality_of_number ZE2 = refl
quality_of_number ZE3 = refl

-- qualities of one number are the same
pub same_quality : (p q : Quality) → number_of p ≡ number_of q → p ≡ q
same_quality p q e =
    let a = quality_of_number p in
    let b = quality_of_number q in
    let c = ap quality_of e in
    cc

-- a quality stands in the list at its number
placed : (q : Quality) → (number_of q < 35) × (get_or qualities (number_of q) A ≡ q)
placed q =
    let both = cond_some (ltb (number_of q) 35) (get_or qualities (number_of q) A) q (quality_of_number q) in
    (ltb-true (number_of q) 35 both.0, both.1)

-- whether the list has at a number the quality of that number
abbrev in_place : Quality → ℕ → Bool
in_place d n = eqb (number_of (get_or qualities n d)) n

number_at : (n : ℕ) (d : Quality) → n < 35 → number_of (get_or qualities n d) ≡ n
number_at n d h = eqb-true (number_of (get_or qualities n d)) n (agree_below_at (in_place d) (λ _. true) 35 n refl h)

-- a quality that was found by a number has that number
pub number_of_quality : (n : ℕ) (q : Quality) → quality_of n ≡ Some q → number_of q ≡ n
number_of_quality n q e =
    let both = cond_some (ltb n 35) (get_or qualities n A) q e in
    subst (λ (p : Quality). number_of p ≡ n) both.1 (number_at n A (ltb-true n 35 both.0))

-- what the list has at a number is the quality of that number, or nothing
pub by_number : (n : ℕ) (o : Option (Bor Quality)) (e : UnknownQuality) → IsItemAt qualities n o → ByNumber n (ok_or (option_copied o) e)
by_number n (Some x) e h =
    let small : n < 35 = grind (arith, nat_tests) in
    subst (λ (p : Quality). number_of p ≡ n) (sym h.1) (number_at n x.now small)
by_number n None e h = grind (arith, nat_tests)

-- the first quality of the list that is written so is the one, or none is
pub by_text : (text : List ℕ) (o : Option (Bor Quality)) (e : UnknownName) →
    MatchOption o (AllWithin (λ q. text ≢ text_of q) qualities 0 (length qualities))
    (λ x. (text ≡ text_of x.now) × (i : ℕ) × (i < length qualities) × HoldsAt (λ y. y ≡ x.now) qualities i × AllWithin (λ q. text ≢ text_of q) qualities 0 i) →
    ByText text (ok_or (option_copied o) e)
by_text text (Some x) e h = h.0
by_text text None e h = λ q.
    let at = placed q in
    subst (λ (p : Quality). text ≢ text_of p) at.1 (h (number_of q) A (omega arith) at.0)
