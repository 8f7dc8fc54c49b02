-- The refusals of the engine: the number of each case, and what it means.
use Rattle.std.specs.Prelude.{ℕ}
use Rattle.market.specs.declared.refusal.Refusal.{Refusal}
use Rattle.market.specs.declared.refusal.Refusal.TheVariants.{Sizes, State, NoSuch, UnlawfulRecord, UnclassedReading, AboveLimit, BlankFactor, BlankShape, StampOrQuality, VolumeNotZero, VolumeTooLarge, Deenergised, NoClass, NoSuchDate, Layout, Mpan, TooFewBytes}

abbrev pub number_of : Refusal → ℕ
-- a day's periods or volume limit, or the size of a table, is wrong
number_of Sizes = 1
-- the day's state does not take the call
number_of State = 2
-- a meter, period, class or place does not exist
number_of NoSuch = 3
-- a meter record that the call reads is unlawful
number_of UnlawfulRecord = 4
-- a stored reading that the call reads has no class
number_of UnclassedReading = 5
-- a factor or a shape is above its limit
number_of AboveLimit = 6
-- the loss class of a meter has no factor in a period where the call reads the meter
number_of BlankFactor = 7
-- the shape class of an import meter has no shape in a period where the call reads the meter
number_of BlankShape = 8
-- a stamp outside its limits, or a quality number that does not exist
number_of StampOrQuality = 9
-- a zero quality with a volume
number_of VolumeNotZero = 10
-- a volume above the day's limit
number_of VolumeTooLarge = 11
-- a quality that a de-energised meter does not take
number_of Deenergised = 12
-- a reading that has no class at its meter
number_of NoClass = 13
-- a date that does not exist, or lies outside the years 2024 to 2055
number_of NoSuchDate = 14
-- a line of a day file that breaks the layout
number_of Layout = 15
-- an MPAN that is unknown, repeated, or the seventeenth
number_of Mpan = 16
-- too few bytes for a line
number_of TooFewBytes = 17
