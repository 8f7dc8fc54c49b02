-- The quality indicators: their numbers and their names.
use Rattle.std.specs.Prelude.{◌≡◌, ℕ, ◌≤◌, cond, List, [], ◌∷◌, Some, None, Ok, Err, codes, Option, Result, ◌≢◌, nat_lt, slice_index_or}
use Rattle.qualities.specs.declared.quality.Quality.{Quality}
use Rattle.qualities.specs.declared.quality.UnknownQuality.{UnknownQuality}
use Rattle.qualities.specs.declared.quality.UnknownName.{UnknownName}
use Rattle.qualities.specs.declared.quality.Quality.TheVariants.{A, A1, A2, A3, AAE1, AAE2, AAE3, E, E1, E2, E3, E4, E5, E6, E7, E8, EA1, EA2, EA3, EA4, EA5, EA6, EA7, EA8, EA9, EA10, EA11, EA12, EAE1, EAE2, EAE3, ZE, ZE1, ZE2, ZE3}

-- the number of a quality
abbrev pub number_of : Quality → ℕ
number_of A = 0
number_of A1 = 1
number_of A2 = 2
number_of A3 = 3
number_of AAE1 = 4
number_of AAE2 = 5
number_of AAE3 = 6
number_of E = 7
number_of E1 = 8
number_of E2 = 9
number_of E3 = 10
number_of E4 = 11
number_of E5 = 12
number_of E6 = 13
number_of E7 = 14
number_of E8 = 15
number_of EA1 = 16
number_of EA2 = 17
number_of EA3 = 18
number_of EA4 = 19
number_of EA5 = 20
number_of EA6 = 21
number_of EA7 = 22
number_of EA8 = 23
number_of EA9 = 24
number_of EA10 = 25
number_of EA11 = 26
number_of EA12 = 27
number_of EAE1 = 28
number_of EAE2 = 29
number_of EAE3 = 30
number_of ZE = 31
number_of ZE1 = 32
number_of ZE2 = 33
number_of ZE3 = 34

-- the name of a quality
abbrev pub text_of : Quality → List ℕ
text_of A = codes "A"
text_of A1 = codes "A1"
text_of A2 = codes "A2"
text_of A3 = codes "A3"
text_of AAE1 = codes "AAE1"
text_of AAE2 = codes "AAE2"
text_of AAE3 = codes "AAE3"
text_of E = codes "E"
text_of E1 = codes "E1"
text_of E2 = codes "E2"
text_of E3 = codes "E3"
text_of E4 = codes "E4"
text_of E5 = codes "E5"
text_of E6 = codes "E6"
text_of E7 = codes "E7"
text_of E8 = codes "E8"
text_of EA1 = codes "EA1"
text_of EA2 = codes "EA2"
text_of EA3 = codes "EA3"
text_of EA4 = codes "EA4"
text_of EA5 = codes "EA5"
text_of EA6 = codes "EA6"
text_of EA7 = codes "EA7"
text_of EA8 = codes "EA8"
text_of EA9 = codes "EA9"
text_of EA10 = codes "EA10"
text_of EA11 = codes "EA11"
text_of EA12 = codes "EA12"
text_of EAE1 = codes "EAE1"
text_of EAE2 = codes "EAE2"
text_of EAE3 = codes "EAE3"
text_of ZE = codes "ZE"
text_of ZE1 = codes "ZE1"
text_of ZE2 = codes "ZE2"
text_of ZE3 = codes "ZE3"

-- the qualities in the order of their numbers
abbrev pub qualities : List Quality
qualities = A ∷ A1 ∷ A2 ∷ A3 ∷ AAE1 ∷ AAE2 ∷ AAE3 ∷ E ∷ E1 ∷ E2 ∷ E3 ∷ E4 ∷ E5 ∷ E6 ∷ E7 ∷ E8 ∷ EA1 ∷ EA2 ∷ EA3 ∷ EA4 ∷ EA5 ∷ EA6 ∷ EA7 ∷ EA8 ∷ EA9 ∷ EA10 ∷ EA11 ∷ EA12 ∷ EAE1 ∷ EAE2 ∷ EAE3 ∷ ZE ∷ ZE1 ∷ ZE2 ∷ ZE3 ∷ []

-- the quality of a number, as a function
abbrev pub quality_of : ℕ → Option Quality
quality_of n = cond (nat_lt n 35) (Some (slice_index_or qualities n A)) None

-- the quality of a number; there is none from 35 on
abbrev pub ByNumber : ℕ → Result Quality UnknownQuality → Type 0
ByNumber n (Ok q) = number_of q ≡ n
ByNumber n (Err e) = 35 ≤ n

-- the quality that is written so, or none is
abbrev pub ByText : List ℕ → Result Quality UnknownName → Type 0
ByText text (Ok q) = text ≡ text_of q
ByText text (Err e) = (q : Quality) → text ≢ text_of q

-- the qualities that say that nothing was used, by number: ZE, ZE1, ZE2 and ZE3 are the last four
abbrev pub IsZero : ℕ → Type 0
IsZero n = 31 ≤ n
