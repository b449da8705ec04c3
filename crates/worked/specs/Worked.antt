-- The worked examples, as one statement.
use Rattle.worked.specs.Records.{WorkedRecords}
use Rattle.worked.specs.Orders.{WorkedOrders}
use Rattle.worked.specs.Runs.{WorkedRuns}

pub record WorkedExamples : Type 0 where
  pub records : WorkedRecords
  pub orders : WorkedOrders
  pub runs : WorkedRuns
