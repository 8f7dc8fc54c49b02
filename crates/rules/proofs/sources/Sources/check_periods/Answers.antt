use Rattle.std.proofs.Common.{of_calls}
use Rattle.rules.proofs.Lowests.{lowest_of}
use Rattle.rules.proofs.sources.Sources.check_periods.Goals as goal

pub returns : goal.returns
returns g c = search (lowest_of, of_calls) parts 8
