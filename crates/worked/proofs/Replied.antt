-- The worked runs, computed from the definitions.
use Rattle.std.proofs.Common.{refl}
use Rattle.bits.specs.Bits.{bits}
use Rattle.plans.specs.Words.{tuples, count}
use Rattle.plans.specs.Targets.{quotient}
use Rattle.plans.specs.Record.{checked}
use Rattle.runs.specs.Order.{same_word, chain, events_from, events, links_to, rests, rests_on}
use Rattle.runs.specs.Calls.{nothing, with, without, post_check, take_back_check, after, is_ready, ready, is_done, is_running, phase, shown, entry, table_from, table, plays, remaining, verdict_check, reply, replies_from, replies}
use Rattle.worked.specs.Runs.{WorkedRuns}

pub worked_runs : WorkedRuns
unfolding checked bits count tuples quotient same_word chain events_from events links_to rests rests_on nothing with without post_check take_back_check after is_ready ready is_done is_running phase shown entry table_from table plays remaining verdict_check reply replies_from replies
worked_runs = record { pipeline = refl; circle = refl }
