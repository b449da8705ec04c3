use Rattle.worked.proofs.Circling.{worked_orders}
use Rattle.worked.proofs.Computed.{worked_records}
use Rattle.worked.proofs.Replied.{worked_runs}
use Rattle.worked.proofs.pipeline.Goals as goal

pub returns-clause-worked : goal.returns-clause-worked
returns-clause-worked c = record { records = worked_records; orders = worked_orders; runs = worked_runs }
