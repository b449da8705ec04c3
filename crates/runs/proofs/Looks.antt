-- What the slots tell of ready lists, state tables and a new run.
use Rattle.std.proofs.Common.{◌≡◌, ℕ, zero, suc, ◌+◌, ◌-◌, ◌*◌, ◌/◌, ◌%◌, ◌^◌, ◌<◌, ◌≤◌, Bool, false, cond, ltb, List, [], ◌∷◌, ◌++◌, length, get_or, drop, is_ok, Some, None, Ok, Err, Option, Result, unwrap_or, sym, refl, ap, ◌∙◌, subst, ap₂, ⊎_elim, append_assoc, append-nil, arith}
use mathlib.Core.Path.{fun_ext}
use lib.Seq.{paste}
use Rattle.std.proofs.lemmas.List.{at_drop_more, at_drop_all}
use Rattle.std.proofs.lemmas.Option.{slice_get_past, gets}
use Rattle.std.proofs.lemmas.Bool.{lt-ltb, le-ltb, eq-eqb, ne_eqb, cond-true, cond-false, cases_lt}
use Rattle.std.specs.List.{slice_get}
use Rattle.std.specs.Result.{IsErrAnd}
use Rattle.plans.specs.declared.event.Event.{Event}
use Rattle.plans.specs.declared.row.Full.{Full}
use Rattle.plans.specs.declared.ends.Side.{Side}
use Rattle.plans.specs.declared.ends.Side.TheVariants.{Start, Finish}
use Rattle.plans.specs.Plan.{Plan, Keeps, words_of, word_at, place_of, task_count}
use Rattle.plans.specs.Events.{Configuration}
use Rattle.runs.specs.Order.{event, event_type}
use Rattle.runs.specs.declared.calls.Answer.{Answer}
use Rattle.runs.specs.declared.calls.Call.{Call}
use Rattle.runs.specs.declared.calls.Call.TheVariants.{ReadyList, StateTable, Verdict}
use Rattle.runs.specs.declared.refusal.Refusal.{Refusal}
use Rattle.runs.specs.declared.refusal.Refusal.TheVariants.{NoRoom}
use Rattle.runs.specs.declared.table.Slot.{Slot}
use Rattle.runs.specs.Calls.{Reply, refused, lists, fills, nothing, standing, standing_from, after, reply, ready, bytes, entry, table_from, table}
use Rattle.runs.specs.Slots.{maybe, rank, held, fresh, blank, slot_of, progress, SlotFits, TableFits, slot_count, counts, opened, post_by, gathered, row, rows, ready_of, ready_to}
use Rattle.runs.proofs.Counting.{side_of_lem, links_met, next_ready, ready_from}
use Rattle.runs.specs.declared.lent.List as lent
use Rattle.runs.specs.Lent.{Holds, added}
use Rattle.runs.specs.declared.run.Run.{Run}
use Rattle.runs.specs.Shows.{Shows, Answers, Performs, written, said}
use Rattle.runs.proofs.Places.{place_word}
use Rattle.runs.proofs.Readies.{ready_by_counts}
use Rattle.runs.proofs.Slots.{Flags, flags, now_done, now_running, now_waiting, few, all_met, is_at, reading, count_at, slot_unknown}
use Rattle.runs.proofs.Facts.{opened_length, opened_at}
use Rattle.runs.proofs.Limits.{post_links}
use Rattle.runs.proofs.Rows.{listed_new}
use Rattle.runs.proofs.Answered.{shown_conf}
use Rattle.runs.proofs.Stands.{standing_more}
use Rattle.std.proofs.lemmas.Bool.Decides.{nat_tests}
use Rattle.std.proofs.lemmas.Grind.{common_steps}

-- What is gathered up to the end of a list of tasks, against a walk over the list.
module _ {A : Type 0} (g : ℕ → List A) (f : ℕ → List ℕ → List A) (from : ℕ → List (List ℕ) → List A)
    (none : (t : ℕ) → from t [] ≡ []) (more : (t : ℕ) (ws : List ℕ) (wss : List (List ℕ)) → from t (ws ∷ wss) ≡ f t ws ++ from (suc t) wss)
    (wss : List (List ℕ)) (same : (t : ℕ) → t < length wss → g t ≡ f t (get_or wss t [])) where
  part : (n : ℕ) → n ≤ length wss → gathered g n ++ from n (drop n wss) ≡ from 0 wss
  part zero h = refl
  part (suc n) h =
      let next : from n (drop n wss) ≡ g n ++ from (suc n) (drop (suc n) wss) =
      at_drop_more (from n) wss n [] (omega arith) ∙ more n (get_or wss n []) (drop (n + 1) wss)
      ∙ ap₂ (λ (x : List A) (m : ℕ). x ++ from (suc n) (drop m wss)) (sym (same n (omega arith))) (let e : n + 1 ≡ suc n = omega arith in e) in
      append_assoc (gathered g n) (g n) (from (suc n) (drop (suc n) wss)) ∙ ap (λ (x : List A). gathered g n ++ x) (sym next) ∙ part n (omega arith)

  pub gathers : gathered g (length wss) ≡ from 0 wss
  gathers =
      sym (append-nil (gathered g (length wss)))
      ∙ ap (λ (x : List A). gathered g (length wss) ++ x) (sym (at_drop_all (from (length wss)) wss (length wss) (omega arith) ∙ none (length wss)))
      ∙ part (length wss) (omega arith)

side_even : (n i : ℕ) → n ≡ 2 * i → side_of_lem n ≡ Start
side_even n i h = ap (λ (b : Bool). cond b Start Finish) (eq-eqb (n % 2) 0 (omega arith))

side_odd : (n i : ℕ) → n ≡ 2 * i + 1 → side_of_lem n ≡ Finish
side_odd n i h = ap (λ (b : Bool). cond b Start Finish) (ne_eqb (n % 2) 0 (λ q. omega arith))

once : (b : Bool) (e : Event) → maybe (cond b (Some e) None) [] (λ x. x ∷ []) ≡ cond b (e ∷ []) []
once b e = grind (arith, nat_tests)

module _ (p : Plan) (kp : Keeps p) (slots : List Slot) (fits : TableFits p slots) where
  module _ (t : ℕ) (known : t < task_count p) where
    fit : SlotFits p t (slot_of slots t)
    fit = fits.slot t known

    at_count : counts p slots t ≡ 2 * fit.at + progress (slot_of slots t)
    at_count = is_at p kp slots fits t (slot_of slots t) refl known fit

    word_there : slice_get (words_of p t) fit.at ≡ Some (slot_of slots t).word
    word_there = place_word p t fit.at (slot_of slots t).word fit.at_place

    -- the event to come, of a side
    coming : (d : Side) → cond (slot_of slots t).running Finish Start ≡ d → side_of_lem (counts p slots t) ≡ d → counts p slots t / 2 ≡ fit.at → (slot_of slots t).done ≡ false
        → maybe (ready_of p slots t) [] (λ e. e ∷ []) ≡ next_ready p (counts p slots) t (words_of p t)
    unfolding next_ready
    coming d s q h e =
        ap (λ (o : Option Event). maybe (maybe o None (λ x. cond (is_ok (post_by p slots x)) (Some x) None)) [] (λ x. x ∷ [])) (cond-false (slot_of slots t).done None (Some (event t (cond (slot_of slots t).running Finish Start) (slot_of slots t).word)) e)
        ∙ once _ _
        ∙ ap (λ (b : Bool). cond b (event t (cond (slot_of slots t).running Finish Start) (slot_of slots t).word ∷ []) [])
        (post_links p slots (event t (cond (slot_of slots t).running Finish Start) (slot_of slots t).word) fit.at known refl refl e (sym fit.at_place)
        ∙ sym (all_met p kp slots fits (event_type t (cond (slot_of slots t).running Finish Start)) fit.at))
        ∙ ap (λ (x : Side). cond (links_met p (counts p slots) (event_type t x) fit.at) (event t x (slot_of slots t).word ∷ []) []) (s ∙ sym q)
        ∙ sym (rw (h, word_there) refl)

    next_is : maybe (ready_of p slots t) [] (λ e. e ∷ []) ≡ next_ready p (counts p slots) t (words_of p t)
    unfolding next_ready
    next_is = go (flags (slot_of slots t))
      where
        go : Flags (slot_of slots t) → maybe (ready_of p slots t) [] (λ e. e ∷ []) ≡ next_ready p (counts p slots) t (words_of p t)
        go (now_done d q) =
            ap (λ (o : Option Event). maybe (maybe o None (λ x. cond (is_ok (post_by p slots x)) (Some x) None)) [] (λ x. x ∷ [])) (cond-true (slot_of slots t).done None _ d)
            ∙ sym (rw (slice_get_past (words_of p t) (counts p slots t / 2) (omega (arith, at_count, fit.last d))) refl)
        go (now_running d r q) = coming Finish (ap (λ (b : Bool). cond b Finish Start) r) (side_odd (counts p slots t) fit.at (omega (arith, at_count))) (omega (arith, at_count)) d
        go (now_waiting d r q) = coming Start (ap (λ (b : Bool). cond b Finish Start) r) (side_even (counts p slots t) fit.at (omega (arith, at_count))) (omega (arith, at_count)) d

    small_word : (slot_of slots t).word < 2 ^ 32
    small_word = kp.narrow t fit.at (slot_of slots t).word word_there

    row_is : row (slot_of slots t) ≡ entry (held p (counts p slots)) t (words_of p t)
    unfolding entry
    row_is =
        let r = reading p kp slots fits t (slot_of slots t) refl known fit in
        let a : (slot_of slots t).word / 16777216 % 256 ≡ (slot_of slots t).word / 2 ^ 24 = omega (arith, small_word) in
        ap (λ (x : ℕ). x ∷ ((slot_of slots t).word / 65536 % 256) ∷ ((slot_of slots t).word / 256 % 256) ∷ ((slot_of slots t).word % 256) ∷ progress (slot_of slots t) ∷ []) a
        ∙ ap₂ (λ (w f : ℕ). bytes w ++ (f ∷ [])) (sym r.0) (sym r.1)

  pub ready_is : Configuration p (held p (counts p slots)) → ready_to p slots (task_count p) ≡ ready p (held p (counts p slots))
  unfolding ready_from
  ready_is conf =
      gathers (λ t. maybe (ready_of p slots t) [] (λ e. e ∷ [])) (next_ready p (counts p slots)) (ready_from p (counts p slots)) (λ t. refl) (λ t ws wss. refl) p.tasks (λ t l. next_is t l)
      ∙ sym (ready_by_counts p kp (counts p slots) (few p kp slots fits) conf)

  pub table_is : rows slots (task_count p) ≡ table p (held p (counts p slots))
  unfolding table_from table
  table_is = gathers (λ t. row (slot_of slots t)) (entry (held p (counts p slots))) (table_from (held p (counts p slots))) (λ t. refl) (λ t ws wss. refl) p.tasks (λ t l. row_is t l)

-- A call that leaves the slots and what stands.
pub looked : (p : Plan) (slots : List Slot) (c : Call) (r : Reply) → ((has : Event → Bool) → after p has c ≡ has)
    → ((cs : List Call) (s : Shows p slots (standing p cs)) → r ≡ reply p (held p (counts p slots)) c) → Answers p slots c r slots
looked p slots c r same h =
    record {
      replied = λ cs s. subst (λ (has : Event → Bool). r ≡ reply p has c) (sym s.same) (h cs s);
      stands = λ cs s. subst (Shows p slots) (sym (standing_more p cs c ∙ same (standing p cs))) s;
    }

pub table_left : (p : Plan) (n : ℕ) (has : Event → Bool) → after p has (StateTable n) ≡ has
unfolding after
table_left p n has = refl

pub ready_left : (p : Plan) (n : ℕ) (has : Event → Bool) → after p has (ReadyList n) ≡ has
unfolding after
ready_left p n has = refl

pub verdict_left : (p : Plan) (n : ℕ) (has : Event → Bool) → after p has (Verdict n) ≡ has
unfolding after
verdict_left p n has = refl

module _ (p : Plan) (kp : Keeps p) (slots : List Slot) where
  pub table_answers : (n : ℕ) (xs : List ℕ) → 5 * task_count p ≤ n → xs ≡ rows slots (task_count p) → Answers p slots (StateTable n) (fills xs) slots
  unfolding reply
  table_answers n xs h is = looked p slots (StateTable n) (fills xs) (table_left p n)
      (λ cs s. ap fills (is ∙ table_is p kp slots s.fit) ∙ sym (cond-false (ltb n (5 * task_count p)) _ _ (le-ltb n (5 * task_count p) h)))

  pub table_refused : (n : ℕ) → n < 5 * task_count p → Answers p slots (StateTable n) (refused NoRoom) slots
  unfolding reply
  table_refused n h = looked p slots (StateTable n) (refused NoRoom) (table_left p n)
      (λ cs s. sym (cond-true (ltb n (5 * task_count p)) _ _ (lt-ltb n (5 * task_count p) h)))

  pub ready_answers : (n : ℕ) (xs : List Event) → length xs ≤ n → xs ≡ ready_to p slots (task_count p) → Answers p slots (ReadyList n) (lists xs) slots
  unfolding reply
  ready_answers n xs h is = looked p slots (ReadyList n) (lists xs) (ready_left p n)
      (λ cs s.
      let e = is ∙ ready_is p kp slots s.fit (shown_conf p slots cs s) in
      ap lists e ∙ sym (cond-false (ltb n (length (ready p (held p (counts p slots))))) _ _ (le-ltb n _ (omega (arith, ap length e)))))

  pub ready_refused : (n : ℕ) → n < length (ready_to p slots (task_count p)) → Answers p slots (ReadyList n) (refused NoRoom) slots
  unfolding reply
  ready_refused n h = looked p slots (ReadyList n) (refused NoRoom) (ready_left p n)
      (λ cs s.
      let e = ready_is p kp slots s.fit (shown_conf p slots cs s) in
      sym (cond-true (ltb n (length (ready p (held p (counts p slots))))) _ _ (lt-ltb n _ (omega (arith, ap length e)))))

-- a call that leaves the run
pub performs : {S : Type 0} {plan : S → Plan} {old new : Run S} {call : Call} {r : Reply} → new ≡ old → Answers (plan old.source) old.table.slots call r old.table.slots → Performs plan old call r new
performs {plan = plan} {old = old} {call = call} {r = r} same a =
    subst (λ (run : Run _). Performs plan old call r run) (sym same) (record { answers = a; source = refl; unchanged = λ x e. refl })

-- the same call by another name
pub as_call : {p : Plan} {slots : List Slot} {r : Reply} {left : List Slot} (x y : Call) → y ≡ x → Answers p slots x r left → Answers p slots y r left
as_call {p} {slots} {r} {left} x y e a = subst (λ (z : Call). Answers p slots z r left) (sym e) a

-- With room enough, the reply is the same as with any other room that is enough.
pub other_room : (p : Plan) (slots : List Slot) (a b : ℕ) (r : Reply) → 5 * task_count p ≤ a → 5 * task_count p ≤ b → Answers p slots (StateTable a) r slots → Answers p slots (StateTable b) r slots
unfolding reply
other_room p slots a b r l m x = looked p slots (StateTable b) r (table_left p b) (λ cs s.
    subst (λ (has : Event → Bool). r ≡ reply p has (StateTable b)) s.same
    (x.replied cs s ∙ cond-false (ltb a (5 * task_count p)) _ _ (le-ltb a _ l) ∙ sym (cond-false (ltb b (5 * task_count p)) _ _ (le-ltb b _ m))))

-- The ready events as they are added to a list.
module _ (p : Plan) (kp : Keeps p) (slots : List Slot) (old new : lent.List Event) (xs : List Event) (r : Result (Unit {0}) Full)
    (full : length old.room.now < old.len + length xs → (r ≡ Err (record {})) × Holds new old.len old.room.now)
    (appended : old.len + length xs ≤ length old.room.now → (r ≡ Ok tt) × Holds new (old.len + length xs) (paste old.room.now old.len xs (length xs)))
    (is : xs ≡ ready_to p slots (task_count p)) where
  pub ready_added : r ≡ Ok tt → Answers p slots (ReadyList (length old.room.now - old.len)) (lists (added old new)) slots
  ready_added q =
      ⊎_elim (λ l. let e = (full l).0 in absurd cc)
      (λ l.
      let a = (appended l).1 in
      let fresh : added old new ≡ xs = rw (a.0, a.1) (listed_new old.room.now xs old.len (length xs) l refl) in
      ready_answers p kp slots (length old.room.now - old.len) (added old new) (omega (arith, ap length fresh)) (fresh ∙ is))
      (cases_lt (length old.room.now) (old.len + length xs))

  pub ready_kept : (f : Full) → r ≡ Err f → Answers p slots (ReadyList (length old.room.now - old.len)) (refused NoRoom) slots
  ready_kept f q =
      ⊎_elim (λ l. ready_refused p kp slots (length old.room.now - old.len) (omega (arith, ap length is, old.fits)))
      (λ l. let e = (appended l).0 in absurd cc)
      (cases_lt (length old.room.now) (old.len + length xs))

-- what was added is not refused
pub not_full : (r : Result (Unit {0}) Full) (full : Full) → r ≡ Ok tt → r ≡ Err full → ⊥
not_full r full ok err = cc

-- the reply where there is no room
pub no_room : (r : Result (Unit {0}) Refusal) (x : Reply) → IsErrAnd r (λ e. e ≡ NoRoom) → written r x ≡ refused NoRoom
no_room (Ok v) x h = absurd h
no_room (Err e) x h = ap refused h

-- the reply where a refusal is passed on
pub passed_on : (r : Result Answer Refusal) (x : Refusal) → IsErrAnd r (λ e. e ≡ x) → said r ≡ refused x
passed_on (Ok v) x h = absurd h
passed_on (Err e) x h = ap refused h

-- A new run shows that nothing stands.
module _ (p : Plan) (kp : Keeps p) where
  opened_slot : (t : ℕ) → t < 64 → slot_of (opened p) t ≡ fresh (unwrap_or (word_at p t 0) 0)
  opened_slot t h = opened_at p 0 64 t blank h ∙ ap (λ (u : ℕ). fresh (unwrap_or (word_at p u 0) 0)) (let e : 0 + t ≡ t = omega arith in e)

  first_word : (t : ℕ) → t < task_count p → place_of p t (unwrap_or (word_at p t 0) 0) ≡ Some 0
  first_word t h = grind (arith, common_steps, gets)

  opened_fits : TableFits p (opened p)
  opened_fits =
      record {
        room = omega (arith, opened_length p 0 64, kp.few_tasks);
        slot = λ t l.
            subst (SlotFits p t) (sym (opened_slot t (omega (arith, kp.few_tasks))))
            (record { at = 0; at_place = first_word t l; last = λ e. absurd (let z : ◌≡◌ {A = ℕ} 0 1 = ap (λ (b : Bool). cond b 1 0) e in omega arith); one_flag = λ e. refl });
      }

  none_counted : (t : ℕ) → counts p (opened p) t ≡ 0
  unfolding counts
  none_counted t =
      ⊎_elim
      (λ l. ap (slot_count p t) (opened_slot t (omega (arith, kp.few_tasks))) ∙ count_at p t 0 (fresh (unwrap_or (word_at p t 0) 0)) (first_word t l))
      (λ l. slot_unknown p kp t (slot_of (opened p) t) l)
      (cases_lt t (task_count p))

  pub opened_shows : Shows p (opened p) (standing p [])
  unfolding standing standing_from nothing held
  opened_shows =
      record {
        fit = opened_fits;
        same = fun_ext (λ e. go e (place_of p e.task e.word) refl) ∙ ap (held p) (sym (fun_ext none_counted));
      }
    where
      go : (e : Event) (o : Option ℕ) → place_of p e.task e.word ≡ o → false ≡ held p (λ t. 0) e
      go e None q = rw q refl
      go e (Some i) q = rw q (sym (le-ltb (rank i e.side) 0 (omega arith)))
