use Rattle.std.proofs.Common.{◌≡◌, ◌≤◌, length, take, vec_items, vec_len, vec_capacity}
use Rattle.settlement.specs.World.{setting_of, world_of, SameLent}
use Rattle.settlement.specs.Runs.{history_of}
use Rattle.settlement.proofs.Histories.{RanFrom}
use Rattle.settlement.proofs.replay.run_all.Given as goal

abbrev pub invariant-loop-call : goal.invariant-loop-call
invariant-loop-call g l =
    RanFrom (setting_of g.S.Store g.Q.Report g.Q.Amount.Amount g.R.Report g.R.Amount.Amount l.initial.first l.initial.second)
    (world_of l.initial.day l.initial.inputs l.initial.first l.initial.second)
    (history_of g.S.Period.Period.number (take l.call-index l.calls) (vec_items l.answers))
    (world_of l.day l.inputs l.first l.second)
    × SameLent l.initial.inputs l.initial.first l.initial.second l.inputs l.first l.second
    × (length (vec_items l.answers) ≡ l.call-index)
    × (vec_len l.answers ≡ l.call-index)
    × (length l.calls ≤ vec_capacity l.answers)
