use Rattle.std.proofs.Common.{◌≡◌, ℕ, Some, rules}
use Rattle.stores.specs.Grid.{Grid, with_place}
use Rattle.totals.specs.Moving.{Move}
use Rattle.rules.specs.declared.state.State.TheVariants.{Settled}
use Rattle.rules.specs.Tables.{row_of}
use Rattle.engine.specs.Entries.{entry_by}
use Rattle.settlement.specs.World.{ReportMeaning}
use Rattle.settlement.proofs.Delivers.{moved_fits, delivered_right}
use Rattle.settlement.proofs.acts.act_deliver.Goals as goal

pub returns-then-eq-clause-acted : goal.returns-then-eq-clause-acted
returns-then-eq-clause-acted g c =
    let first : ReportMeaning g.row.Q-Amount.Denot = record { algebra = g.Q.Amount.Amount.algebra; figure = g.Q.Amount.Amount.figure; rules = g.Q.Report.rules c.args.first.now.report.now } in
    let second : ReportMeaning g.row.R-Amount.Denot = record { algebra = g.R.Amount.Amount.algebra; figure = g.R.Amount.Amount.figure; rules = g.R.Report.rules c.args.second.now.report.now } in
    let m = c.args.meter in
    let p = g.S.Period.Period.number c.args.period in
    let P = c.args.day.now.periods in
    let rows = c.args.inputs.now.rows.now in
    let fs = c.args.inputs.now.factors.now in
    let sh = c.args.inputs.now.shapes.now in
    let before : Grid = g.S.Store.grid c.args.inputs.now.store.now in
    let after : Grid = g.S.Store.grid c.put.new.self in
    let put : (i j : ℕ) → after i j ≡ with_place before m p c.args.reading i j = (c.put.ensures.taken (search rules)).1 in
    let number : c.number_of-number.result ≡ p = c.number_of-number.ensures in
    let was : c.entry_of-old.result ≡ entry_by fs sh (row_of rows m) (before m p) p = search rules in
    let is : c.entry_of-new.result ≡ entry_by fs sh (row_of rows m) (Some c.args.reading) p = search rules in
    let one : Move first.algebra first.rules P p c.entry_of-old.result c.entry_of-new.result c.args.first.now.totals.now c.replace.new.self.totals.now =
    moved_fits first P c.number_of-number.result p c.entry_of-old.result c.entry_of-new.result c.args.first.now.totals.now c.replace.new.self.totals.now c.replace.result number (search rules) c.replace.ensures.moved in
    let two : Move second.algebra second.rules P p c.entry_of-old.result c.entry_of-new.result c.args.second.now.totals.now c.replace-then-eq.new.self.totals.now =
    moved_fits second P c.number_of-number.result p c.entry_of-old.result c.entry_of-new.result c.args.second.now.totals.now c.replace-then-eq.new.self.totals.now c.replace-then-eq.result number (search rules) c.replace-then-eq.ensures.moved in
    let settled : c.args.day.now.state ≡ Settled = search rules in
    record {
      led = search rules;
      state = search rules;
      periods = search rules;
      limit = search rules;
      stored_meters = search rules;
      stored_periods = search rules;
      fixed = search rules;
      grid = put;
      rows = search rules;
      factors = search rules;
      shapes = search rules;
      first_size = search rules;
      second_size = search rules;
      first_moves = (λ _. one.two, λ ne. absurd (ne settled));
      second_moves = (λ _. two.two, λ ne. absurd (ne settled));
      first_follows = λ _. delivered_right first P rows fs sh m p c.args.reading before after c.entry_of-old.result c.entry_of-new.result c.args.first.now.totals.now c.replace.new.self.totals.now (search rules) (search rules) put was is one;
      second_follows = λ _. delivered_right second P rows fs sh m p c.args.reading before after c.entry_of-old.result c.entry_of-new.result c.args.second.now.totals.now c.replace-then-eq.new.self.totals.now (search rules) (search rules) put was is two;
    }
