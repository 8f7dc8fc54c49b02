-- How the state of a day advances.
use Rattle.std.specs.Prelude.{◌≡◌, ◌⊎◌, Ok, Err, Result}
use Rattle.market.specs.declared.refusal.Refusal.{Refusal}
use Rattle.market.specs.Refusal.{number_of}
use Rattle.rules.specs.declared.state.State.{State}
use Rattle.rules.specs.declared.state.State.TheVariants.{New, Settled, Final}
use Rattle.rules.specs.declared.state.Event.{Event}
use Rattle.rules.specs.declared.state.Event.TheVariants.{Settle, Deliver, Amend, Factor, Shape, Close}

-- a final day takes no event, and a new day is not closed
abbrev pub Untimely : State → Event → Type 0
Untimely s e = (s ≡ Final) ⊎ ((s ≡ New) × (e ≡ Close))

-- the state after an event: settling leaves a day settled, closing makes it final, and nothing else changes it
abbrev pub next_state : State → Event → State
next_state s Settle = Settled
next_state s Deliver = s
next_state s Amend = s
next_state s Factor = s
next_state s Shape = s
next_state s Close = Final

-- the state advanced; or the event is untimely, which gets 2, and the state stays
abbrev pub Advanced : State → Event → State → Result (Unit {0}) Refusal → Type 0
Advanced before e after (Ok done) = (Untimely before e → ⊥) × (after ≡ next_state before e)
Advanced before e after (Err r) = Untimely before e × (number_of r ≡ 2) × (after ≡ before)
