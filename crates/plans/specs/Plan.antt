-- What a plan is, the rules that it keeps, and what each question about it is answered with.
use Rattle.std.specs.Prelude.{◌≡◌, ℕ, ◌^◌, ◌<◌, ◌≤◌, true, List, [], length, is_some, Some, None, Option, ◌≢◌, slice_index_or}
use base.Stored.{Coded-set, coded_ℕ, coded_bool}
use Rattle.std.proofs.Math.Logic.{∥∥₁_elim}
use std.HLevel.{⊥_prop}
use Rattle.std.proofs.Math.Bridge.{le_prop}
use Rattle.std.specs.List.{slice_get}
use Rattle.std.specs.Option.{option_map, option_flatten}
use Rattle.plans.specs.declared.ends.Ends.{Ends}
use Rattle.plans.specs.Lists.{and_then, place_in, after}

-- A link joins two event types, each a task and a side. `targets` has its replies, word by word of the task that it
-- comes from.
pub record Link : Type 0 where
  pub ends : Ends
  pub targets : List (Option ℕ)

-- A plan: for each task its words in order, and the links.
pub record Plan : Type 0 where
  pub tasks : List (List ℕ)
  pub links : List Link

-- the eight questions: what is unknown is answered with nothing
abbrev pub task_count : Plan → ℕ
task_count p = length p.tasks

abbrev pub words_of : Plan → ℕ → List ℕ
words_of p t = slice_index_or p.tasks t []

abbrev pub word_count : Plan → ℕ → Option ℕ
word_count p t = option_map length (slice_get p.tasks t)

abbrev pub word_at : Plan → ℕ → ℕ → Option ℕ
word_at p t i = slice_get (words_of p t) i

abbrev pub place_of : Plan → ℕ → ℕ → Option ℕ
place_of p t w = place_in (words_of p t) w

abbrev pub next_word : Plan → ℕ → ℕ → Option ℕ
next_word p t w = after (words_of p t) w

abbrev pub link_count : Plan → ℕ
link_count p = length p.links

abbrev pub link_ends : Plan → ℕ → Option Ends
link_ends p l = option_map (λ k. k.ends) (slice_get p.links l)

-- what a link gives at a word of its from task
abbrev pub gives : Plan → Link → ℕ → Option ℕ
gives p k w = and_then (place_of p k.ends.from.task w) (λ i. option_flatten (slice_get k.targets i))

abbrev pub target : Plan → ℕ → ℕ → Option ℕ
target p l w = and_then (slice_get p.links l) (λ k. gives p k w)

-- the rules of a link of a plan
pub record KeepsLink (p : Plan) (k : Link) : Type 0 where
  pub from_known : k.ends.from.task < task_count p
  pub to_known : k.ends.to.task < task_count p
  pub apart : k.ends.from.task ≡ k.ends.to.task → ⊥
  pub replies : length k.targets ≡ length (words_of p k.ends.from.task)
  -- each target is a word of the to task
  pub lands : (i w : ℕ) → slice_get k.targets i ≡ Some (Some w) → is_some (place_of p k.ends.to.task w) ≡ true
  -- where a word has no target, no later word has one
  pub first_ones : (i j w : ℕ) → i ≤ j → slice_get k.targets i ≡ Some None → slice_get k.targets j ≢ Some (Some w)
  -- from word to word the targets never go back
  pub in_order : (i j v w a b : ℕ) → i ≤ j → slice_get k.targets i ≡ Some (Some v) → slice_get k.targets j ≡ Some (Some w)
      → place_of p k.ends.to.task v ≡ Some a → place_of p k.ends.to.task w ≡ Some b → a ≤ b

pub record Keeps (p : Plan) : Type 0 where
  pub few_tasks : task_count p ≤ 64
  pub some_words : (t : ℕ) → t < task_count p → 1 ≤ length (words_of p t)
  pub few_words : (t : ℕ) → length (words_of p t) ≤ 65536
  pub narrow : (t i w : ℕ) → word_at p t i ≡ Some w → w < 2 ^ 32
  pub differ : (t i j w : ℕ) → word_at p t i ≡ Some w → word_at p t j ≡ Some w → i ≡ j
  pub few_links : link_count p ≤ 4096
  pub links_keep : (l : ℕ) (k : Link) → slice_get p.links l ≡ Some k → KeepsLink p k
  pub ends_differ : (l m : ℕ) (j k : Link) → slice_get p.links l ≡ Some j → slice_get p.links m ≡ Some k → j.ends ≡ k.ends → l ≡ m

-- there is at most one proof that a plan keeps them
link_prop : (p : Plan) (k : Link) → IsProp (KeepsLink p k)
link_prop p k x y =
    λ e. record {
      from_known = le_prop x.from_known y.from_known e;
      to_known = le_prop x.to_known y.to_known e;
      apart = λ h. ⊥_prop (x.apart h) (y.apart h) e;
      replies = Coded-set coded_ℕ _ _ x.replies y.replies e;
      lands = λ i w h. Coded-set coded_bool _ _ (x.lands i w h) (y.lands i w h) e;
      first_ones = λ i j w l g h. ⊥_prop (x.first_ones i j w l g h) (y.first_ones i j w l g h) e;
      in_order = λ i j v w a b l g h m n. le_prop (x.in_order i j v w a b l g h m n) (y.in_order i j v w a b l g h m n) e;
    }

pub keeps_prop : (p : Plan) → IsProp (Keeps p)
keeps_prop p x y =
    λ e. record {
      few_tasks = le_prop x.few_tasks y.few_tasks e;
      some_words = λ t h. le_prop (x.some_words t h) (y.some_words t h) e;
      few_words = λ t. le_prop (x.few_words t) (y.few_words t) e;
      narrow = λ t i w h. le_prop (x.narrow t i w h) (y.narrow t i w h) e;
      differ = λ t i j w g h. Coded-set coded_ℕ _ _ (x.differ t i j w g h) (y.differ t i j w g h) e;
      few_links = le_prop x.few_links y.few_links e;
      links_keep = λ l k h. link_prop p k (x.links_keep l k h) (y.links_keep l k h) e;
      ends_differ = λ l m j k g h d. Coded-set coded_ℕ _ _ (x.ends_differ l m j k g h d) (y.ends_differ l m j k g h d) e;
    }

-- the proof, where one is known to exist
abbrev pub kept : {p : Plan} → ∥ Keeps p ∥₁ → Keeps p
kept {p} t = ∥∥₁_elim t (keeps_prop p) (λ x. x)
