use Rattle.std.proofs.Common.{◌≡◌, ℕ, List, length, Option, sym, refl, subst, arith, rules}
use Rattle.stores.specs.Grid.{Grid}
use Rattle.totals.specs.Holds.{Holds}
use Rattle.rules.specs.Tables.{HasEntry}
use Rattle.rules.specs.declared.revision.Revision.{Revision}
use Rattle.rules.specs.declared.revision.Revision.TheVariants.{Factor}
use Rattle.engine.specs.Entries.{entries_of}
use Rattle.engine.specs.Revision.{with_entry, Reaches}
use Rattle.settlement.specs.World.{ReportMeaning}
use Rattle.settlement.proofs.Revisions.{revised_fits, entry_set}
use Rattle.settlement.proofs.changes.act_factor.Goals as goal

pub returns-in-Settled-clause-acted : goal.returns-in-Settled-clause-acted
returns-in-Settled-clause-acted g c =
    let first : ReportMeaning g.row.Q-Amount.Denot = record { algebra = g.Q.Amount.Amount.algebra; figure = g.Q.Amount.Amount.figure; rules = g.Q.Report.rules c.args.first.now.report.now } in
    let second : ReportMeaning g.row.R-Amount.Denot = record { algebra = g.R.Amount.Amount.algebra; figure = g.R.Amount.Amount.figure; rules = g.R.Report.rules c.args.second.now.report.now } in
    let k = c.args.class in
    let p = g.S.Period.Period.number c.args.period in
    let value = c.args.factor in
    let rows = c.args.inputs.now.rows.now in
    let fs = c.args.inputs.now.factors.now in
    let sh = c.args.inputs.now.shapes.now in
    let P = c.args.day.now.periods in
    let grid : Grid = g.S.Store.grid c.args.inputs.now.store.now in
    let revision : Revision = Factor k value in
    let number : c.number_of-number.result ≡ p = c.number_of-number.ensures in
    let reach : Reaches revision fs sh p = (search rules, search rules, search rules, search rules) in
    let has : HasEntry 40 fs k p = (search rules, search rules, search rules, omega arith) in
    let set : c.set_entry.new.table ≡ with_entry 40 fs k p value =
    entry_set 40 fs k c.number_of-number.result p value c.set_entry.new.table c.set_entry.result number has c.set_entry.ensures in
    let one = revised_fits first P grid rows fs sh revision c.number_of-number.result p c.args.first.now.totals.now c.revise_totals.new.account.totals.now c.revise_totals.result number (search rules) (search rules) in
    let two = revised_fits second P grid rows fs sh revision c.number_of-number.result p c.args.second.now.totals.now c.revise_totals-in-Settled.new.account.totals.now c.revise_totals-in-Settled.result number (search rules) (search rules) in
    record {
      led = tt;
      state = search rules;
      periods = refl;
      limit = refl;
      stored_meters = refl;
      stored_periods = refl;
      fixed = refl;
      grid = λ i j. refl;
      rows = refl;
      factors = set;
      shapes = refl;
      first_size = search rules;
      second_size = search rules;
      first_moves = (λ _. one.1, λ ne. absurd (ne c.in-Settled.is));
      second_moves = (λ _. two.1, λ ne. absurd (ne c.in-Settled.is));
      first_follows = λ _ right. subst (λ (table : List (Option ℕ)). Holds first.algebra first.rules (entries_of grid rows table sh) (length rows) P c.revise_totals.new.account.totals.now) (sym set) (one.0 reach right);
      second_follows = λ _ right. subst (λ (table : List (Option ℕ)). Holds second.algebra second.rules (entries_of grid rows table sh) (length rows) P c.revise_totals-in-Settled.new.account.totals.now) (sym set) (two.0 reach right);
    }
