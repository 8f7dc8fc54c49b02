use Rattle.reports.proofs.Small.{units_small}
use Rattle.reports.proofs.bm_unit.BmUnitReportReport.vouch.Goals as goal

pub returns : goal.returns
returns c m u f k h l = units_small u f k h l
