-- The laws of runs, together.
use Rattle.runs.specs.Calls.{remaining, standing}
use Rattle.runs.specs.Laws.{LawsHold}
use Rattle.runs.proofs.Stands.{always_a_configuration, posted_by_the_order, all_reached, ends_same, lists_the_ready}
use Rattle.runs.proofs.Executed.{from_nothing, posts_are_steps, take_backs_undo, unchanged}
use Rattle.runs.proofs.Ways.{remaining_way, verdict_of, one_word}
use Rattle.runs.proofs.Tables.{tables_tell, same_tables}

pub laws_hold : LawsHold
laws_hold p kp =
    record {
      from_nothing = from_nothing p;
      posts_are_steps = λ cs e h. posts_are_steps p kp cs e h;
      take_backs_undo = λ cs e h. take_backs_undo p kp cs e h;
      unchanged = unchanged p;
      configurations = always_a_configuration p;
      posts = λ cs e o w. posted_by_the_order p (standing p cs) e o w;
      tables = λ cs ds. (tables_tell p kp cs ds, same_tables p (standing p cs) (standing p ds));
      reached = all_reached p;
      one_end = λ cs ds m n. ends_same p (standing p cs) (standing p ds) (always_a_configuration p cs) (always_a_configuration p ds) m n;
      lists_the_ready = lists_the_ready p;
      ways_end = λ cs. (remaining p (standing p cs), remaining_way p (standing p cs) (always_a_configuration p cs));
      verdicts = λ cs ds w budget. verdict_of p (standing p cs) (always_a_configuration p cs) ds w budget;
      one_word = one_word p;
    }
