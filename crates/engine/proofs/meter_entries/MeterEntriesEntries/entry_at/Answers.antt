use Rattle.std.proofs.Common.{◌∙◌, arith}
use Rattle.engine.proofs.Nobody.{nobody}
use Rattle.engine.proofs.meter_entries.MeterEntriesEntries.entry_at.Goals as goal

pub returns-else-index-sources : goal.returns-else-index-sources
returns-else-index-sources g c =
    let s = c.args.self.now.sources.now in
    c.entry_of-else-index-sources.ensures ∙ nobody (g.S.Store.grid s.store.now) s.rows.now s.factors.now s.shapes.now c.args.index c.args.period (omega arith)
