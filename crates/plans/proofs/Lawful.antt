-- The laws of the definitions, together.
use Rattle.plans.specs.Laws.{LawsOfRecords}
use Rattle.plans.specs.Orders.{LawsOfPlans}
use Rattle.plans.proofs.Words.{length_words, words_differ, values_of_word_of}
use Rattle.plans.proofs.Filled.{unused_are_zero}
use Rattle.plans.proofs.Quotient.{quotient_pos, quotient_mono}
use Rattle.plans.proofs.Ordering.{order_is_tested}
use Rattle.plans.proofs.Restricting.{describes}
use Rattle.plans.proofs.Conditions.{rules_needed}
use Rattle.plans.proofs.Predecessors.{precede, rest}

pub laws_of_records : LawsOfRecords
laws_of_records =
    record {
      counted = length_words;
      differ = words_differ;
      unused = unused_are_zero;
      told = values_of_word_of;
      dropped = quotient_pos;
      rises = quotient_mono;
      tested = order_is_tested;
    }

pub laws_of_plans : LawsOfPlans
laws_of_plans = record { enough = describes; needed = rules_needed; precede = precede; rest = rest }
