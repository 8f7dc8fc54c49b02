use Rattle.std.proofs.Common.{◌+◌, List, take, vec_items, sym, subst, arith, rules}
use Rattle.std.proofs.lemmas.List.{length_push}
use Rattle.rules.specs.Asked.{asked}
use Rattle.settlement.specs.World.{Setting, setting_of, world_of}
use Rattle.settlement.specs.Steps.{Answer, Step}
use Rattle.settlement.specs.Runs.{history_of}
use Rattle.settlement.proofs.Lents.{lent_then, setting_same}
use Rattle.settlement.proofs.Histories.{RanFrom, ran_none, ran_more}
use Rattle.settlement.proofs.replay.run_all.Goals as goal

pub loop-call-init : goal.loop-call-init
loop-call-init g c =
    (ran_none (setting_of g.S.Store g.Q.Report g.Q.Amount.Amount g.R.Report g.R.Amount.Amount c.args.first.now c.args.second.now) _, search rules, search rules, search rules, search rules)

pub loop-call-preserved : goal.loop-call-preserved
loop-call-preserved g c =
    let s = g.S.Store in
    let number = g.S.Period.Period.number in
    let x = world_of c.args.day.now c.args.inputs.now c.args.first.now c.args.second.now in
    let y = world_of c.loop-call.day c.loop-call.inputs c.loop-call.first c.loop-call.second in
    let made = c.perform-answer.new in
    let z = world_of made.day made.inputs made.first made.second in
    let t = setting_of s g.Q.Report g.Q.Amount.Amount g.R.Report g.R.Amount.Amount c.args.first.now c.args.second.now in
    let same = c.loop-call.invariant.1 in
    let step : Step t y (asked number c.call-item.result) c.perform-answer.result z =
    subst (λ (u : Setting g.row.S.Denot g.row.Q-Amount.Denot g.row.R-Amount.Denot). Step u y (asked number c.call-item.result) c.perform-answer.result z)
    (setting_same s g.Q.Report g.Q.Amount.Amount g.R.Report g.R.Amount.Amount c.args.inputs.now c.loop-call.inputs c.args.first.now c.loop-call.first c.args.second.now c.loop-call.second same) c.perform-answer.ensures.step in (
      subst (λ (items : List Answer). RanFrom t x (history_of number (take (c.loop-call.call-index + 1) c.args.calls.now) items) z) (sym c.push_reserved.ensures.items)
          (ran_more t number x c.args.calls.now (vec_items c.loop-call.answers) c.loop-call.call-index c.call-item.result c.perform-answer.result y z
          (omega arith) c.loop-call.invariant.2 c.call-item.is c.loop-call.invariant.0 step),
      lent_then c.args.inputs.now c.loop-call.inputs made.inputs c.args.first.now c.loop-call.first made.first c.args.second.now c.loop-call.second made.second same c.perform-answer.ensures.lent,
      search (rules, length_push),
      search rules,
      search rules,
    )
