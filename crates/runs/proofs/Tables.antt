-- State tables tell which events stand.
use Rattle.std.proofs.Common.{◌≡◌, ℕ, zero, suc, ◌+◌, ◌-◌, ◌*◌, ◌/◌, ◌%◌, ◌^◌, ◌<◌, ◌≤◌, Bool, true, false, ltb, List, [], ◌∷◌, ◌++◌, length, get_or, Some, sym, refl, ap, ◌∙◌, subst, ⊎_elim, arith}
use Rattle.std.proofs.lemmas.Option.{slice_get_within, same_Some, none-some}
use mathlib.Core.Path.{fun_ext}
use Rattle.std.proofs.lemmas.Bool.{ltb-true, ltb-false, lt-ltb, le-ltb, cases_lt, and_parts, and_from, both_ways, not-true, not_from_true, not_from_false, false_from_ne_true}
use Rattle.std.specs.List.{slice_get}
use Rattle.plans.specs.declared.event.Event.{Event}
use Rattle.plans.specs.declared.ends.Side.{Side}
use Rattle.plans.specs.declared.ends.Side.TheVariants.{Start, Finish}
use Rattle.plans.specs.Plan.{Plan, Keeps, words_of, place_of, task_count}
use Rattle.runs.specs.Order.{event, chain}
use Rattle.runs.specs.declared.calls.Call.{Call}
use Rattle.runs.specs.Calls.{bytes, first, last, runs_at, waits_at, is_done, is_running, phase, shown, entry, table_from, table, standing}
use Rattle.runs.specs.Laws.{Same}
use Rattle.runs.specs.Slots.{rank, held}
use Rattle.runs.proofs.Counting.{Fits, EntryTells, EntriesTell}
use Rattle.runs.proofs.Tests.{same_bool, any_at, any_from, all_among, among_all}
use Rattle.plans.proofs.Walking.{word_known}
use Rattle.runs.proofs.Places.{place_word, chain_among, among_chain}
use Rattle.runs.proofs.Counts.{front, held_told, bit_small}
use Rattle.runs.proofs.ByCounts.{held_at, held_place}
use Rattle.runs.proofs.Stands.{always_a_configuration}
use Rattle.plans.proofs.Places.{slice_get_some}
use Rattle.plans.proofs.Predecessors.{word_place}

first_is : (f : ℕ → Bool) (ws : List ℕ) (i w d : ℕ) → slice_get ws i ≡ Some w → f w ≡ true → ((j v : ℕ) → j < i → slice_get ws j ≡ Some v → f v ≡ false) → first f ws d ≡ w
first_is f [] i w d h k n = absurd (none-some w h)
first_is f (v ∷ vs) zero w d h k n = let z = same_Some v w h in rw (z, k)
first_is f (v ∷ vs) (suc i) w d h k n = rw (n 0 v (omega arith) refl) (first_is f vs i w d h k (λ j u l e. n (suc j) u (omega arith) e))

last_is : (ws : List ℕ) (i w d : ℕ) → slice_get ws i ≡ Some w → suc i ≡ length ws → last ws d ≡ w
last_is [] i w d h k = absurd (none-some w h)
last_is (v ∷ []) zero w d h k = same_Some v w h
last_is (v ∷ u ∷ us) zero w d h k = absurd (omega arith)
last_is (v ∷ []) (suc i) w d h k = absurd (none-some w h)
last_is (v ∷ u ∷ us) (suc i) w d h k = last_is (u ∷ us) i w v h (omega arith)

-- The phase and the word of a task of which n events stand.
module _ (has : Event → Bool) (t n : ℕ) (ws : List ℕ) (told : (i w : ℕ) (s : Side) → slice_get ws i ≡ Some w → has (event t s w) ≡ ltb (rank i s) n) where
  whole_done : 2 * length ws ≤ n → is_done has t ws ≡ true
  unfolding is_done
  whole_done h = among_all has (chain t ws) (λ d k.
      let r = among_chain t ws d k in
      let b = slice_get_within ws r.1 d.word r.2 in
      let f = bit_small d.side in
      subst (λ (x : ℕ). has (event x d.side d.word) ≡ true) (sym r.0) (told r.1 d.word d.side r.2 ∙ lt-ltb _ _ (omega arith)))

  not_done : (i w : ℕ) → slice_get ws i ≡ Some w → n ≤ rank i Finish → is_done has t ws ≡ false
  unfolding is_done
  not_done i w h l = false_from_ne_true _ (λ k. both_ways _ (told i w Finish h ∙ le-ltb _ _ l) (all_among has (chain t ws) (event t Finish w) k (chain_among t ws i w Finish h)))

  runs_here : (i w : ℕ) → slice_get ws i ≡ Some w → n ≡ rank i Finish → runs_at has t w ≡ true
  runs_here i w h l = and_from _ _ (told i w Start h ∙ lt-ltb _ _ (omega arith)) (not_from_false _ (told i w Finish h ∙ le-ltb _ _ (omega arith)))

  runs_only : (i w : ℕ) → slice_get ws i ≡ Some w → runs_at has t w ≡ true → n ≡ rank i Finish
  runs_only i w h k =
      let a = and_parts _ _ k in
      let b = ltb-true _ _ (sym (told i w Start h) ∙ a.0) in
      let c = ltb-false _ _ (sym (told i w Finish h) ∙ not-true _ a.1) in
      omega arith

  running : (i w : ℕ) → slice_get ws i ≡ Some w → n ≡ rank i Finish → is_running has t ws ≡ true
  unfolding is_running
  running i w h l = any_at (runs_at has t) ws i w h (runs_here i w h l)

  not_running : (i : ℕ) → n ≡ rank i Start → is_running has t ws ≡ false
  unfolding is_running
  not_running i l = false_from_ne_true _ (λ k. let r = any_from (runs_at has t) ws k in let q = runs_only r.0 r.1 r.2 r.3 in absurd (omega arith))

  waiting_entry : (i w : ℕ) → slice_get ws i ≡ Some w → n ≡ rank i Start → (phase has t ws ≡ 0) × (shown has t ws ≡ w)
  unfolding phase shown
  waiting_entry i w h l =
      let a = not_done i w h (omega arith) in
      let b = not_running i l in (
        rw (a, b),
        rw (a, b) (first_is (waits_at has t) ws i w 0 h (not_from_false _ (told i w Start h ∙ le-ltb _ _ (omega arith)))
            (λ j v m e. not_from_true _ (told j v Start e ∙ lt-ltb _ _ (omega arith)))),
      )

  running_entry : (i w : ℕ) → slice_get ws i ≡ Some w → n ≡ rank i Finish → (phase has t ws ≡ 1) × (shown has t ws ≡ w)
  unfolding phase shown
  running_entry i w h l =
      let a = not_done i w h (omega arith) in
      let b = running i w h l in (
        rw (a, b),
        rw (a, b) (first_is (runs_at has t) ws i w 0 h (runs_here i w h l) (λ j v m e. false_from_ne_true _ (λ k. let q = runs_only j v e k in absurd (omega arith)))),
      )

  done_entry : (i w : ℕ) → slice_get ws i ≡ Some w → suc i ≡ length ws → 2 * length ws ≤ n → (phase has t ws ≡ 2) × (shown has t ws ≡ w)
  unfolding phase shown
  done_entry i w h k l = let a = whole_done l in (rw a, rw a (last_is ws i w 0 h k))

pub entries_tell : EntriesTell
entries_tell p kp counts fits t h = ⊎_elim inside whole (cases_lt (counts t) (2 * length (words_of p t)))
  where
    told : (i w : ℕ) (r : Side) → slice_get (words_of p t) i ≡ Some w → held p counts (event t r w) ≡ ltb (rank i r) (counts t)
    told = held_told p kp counts t

    tells : (i w f : ℕ) → slice_get (words_of p t) i ≡ Some w → counts t ≡ 2 * i + f → (f ≡ 2 → suc i ≡ length (words_of p t)) → f ≤ 2
        → (phase (held p counts) t (words_of p t) ≡ f) × (shown (held p counts) t (words_of p t) ≡ w) → EntryTells p counts t
    tells i w f wd n d l r =
        record {
          at = i;
          at_place = rw r.1 (word_place p kp t i w wd);
          stand = rw r.0 n;
          done_last = rw r.0 d;
          three = rw r.0 l;
        }

    inside : counts t < 2 * length (words_of p t) → EntryTells p counts t
    inside l =
        let i = counts t / 2 in
        let v = slice_get_some (words_of p t) i (omega arith) in
        ⊎_elim
        (λ e. tells i v.0 0 v.1 (omega arith) (λ q. absurd (omega arith)) (omega arith) (waiting_entry (held p counts) t (counts t) (words_of p t) told i v.0 v.1 (omega arith)))
        (λ e. tells i v.0 1 v.1 (omega arith) (λ q. absurd (omega arith)) (omega arith) (running_entry (held p counts) t (counts t) (words_of p t) told i v.0 v.1 (omega arith)))
        (cases_lt (counts t % 2) 1)

    whole : 2 * length (words_of p t) ≤ counts t → EntryTells p counts t
    whole l =
        let b = fits t in
        let m = kp.some_words t h in
        let i = length (words_of p t) - 1 in
        let v = slice_get_some (words_of p t) i (omega arith) in
        tells i v.0 2 v.1 (omega arith) (λ q. omega arith) (omega arith) (done_entry (held p counts) t (counts t) (words_of p t) told i v.0 v.1 (omega arith) l)

-- Tables with equal bytes have equal entries.
same_bytes : (w v : ℕ) → w / 2 ^ 24 ≡ v / 2 ^ 24 → w / 2 ^ 16 % 256 ≡ v / 2 ^ 16 % 256 → w / 2 ^ 8 % 256 ≡ v / 2 ^ 8 % 256 → w % 256 ≡ v % 256 → w ≡ v
same_bytes w v a b c d = omega arith

same_rows : (w v f g : ℕ) (xs ys : List ℕ) → (bytes w ++ (f ∷ [])) ++ xs ≡ (bytes v ++ (g ∷ [])) ++ ys → (w ≡ v) × (f ≡ g) × (xs ≡ ys)
same_rows w v f g xs ys h = (same_bytes w v (cc) (cc) (cc) (cc), cc, cc)

same_entries : (f g : Event → Bool) (u : ℕ) (wss : List (List ℕ)) → table_from f u wss ≡ table_from g u wss → (t : ℕ) → t < length wss
    → (phase f (u + t) (get_or wss t []) ≡ phase g (u + t) (get_or wss t [])) × (shown f (u + t) (get_or wss t []) ≡ shown g (u + t) (get_or wss t []))
unfolding table_from entry
same_entries f g u [] h t l = absurd (omega arith)
same_entries f g u (ws ∷ wss) h zero l =
    let r = same_rows (shown f u ws) (shown g u ws) (phase f u ws) (phase g u ws) _ _ h in
    let z : u + 0 ≡ u = omega arith in
    rw z (r.1, r.0)
same_entries f g u (ws ∷ wss) h (suc t) l =
    let r = same_rows (shown f u ws) (shown g u ws) (phase f u ws) (phase g u ws) _ _ h in
    let z : u + suc t ≡ suc u + t = omega arith in
    rw z (same_entries f g (suc u) wss r.2 t (omega arith))

same_counts : (p : Plan) → Keeps p → (c d : ℕ → ℕ) → Fits p c → Fits p d → table p (held p c) ≡ table p (held p d) → (t : ℕ) → t < task_count p → c t ≡ d t
unfolding table
same_counts p kp c d m n h t l =
    let e = entries_tell p kp c m t l in
    let f = entries_tell p kp d n t l in
    let q = same_entries (held p c) (held p d) 0 p.tasks h t l in
    let z : 0 + t ≡ t = omega arith in
    let a : phase (held p c) t (words_of p t) ≡ phase (held p d) t (words_of p t) = rw z at q.0 in
    let b : shown (held p c) t (words_of p t) ≡ shown (held p d) t (words_of p t) = rw z at q.1 in
    let g = same_Some e.at f.at (sym e.at_place ∙ ap (place_of p t) b ∙ f.at_place) in
    let x = e.stand in
    let y = f.stand in
    omega arith

same_held : (p : Plan) (c d : ℕ → ℕ) → ((t : ℕ) → t < task_count p → c t ≡ d t) → (e : Event) → held p c e ≡ true → held p d e ≡ true
same_held p c d h e k =
    let r = held_place p c e k in
    held_at p d e r.0 r.1 ∙ lt-ltb _ _ (omega (arith, r.2, h e.task (word_known p _ _ _ (place_word p _ _ _ r.1))))

pub tables_tell : (p : Plan) → Keeps p → (cs ds : List Call) → table p (standing p cs) ≡ table p (standing p ds) → Same (standing p cs) (standing p ds)
tables_tell p kp cs ds h e =
    let a = front p kp (standing p cs) (always_a_configuration p cs) in
    let b = front p kp (standing p ds) (always_a_configuration p ds) in
    let q : table p (held p a.0) ≡ table p (held p b.0) = ap (table p) (sym a.2) ∙ h ∙ ap (table p) b.2 in
    let c = same_counts p kp a.0 b.0 a.1 b.1 q in
    let x : held p a.0 e ≡ held p b.0 e = same_bool _ _ (same_held p a.0 b.0 c e) (same_held p b.0 a.0 (λ t l. sym (c t l)) e) in
    ap (λ (f : Event → Bool). f e) a.2 ∙ x ∙ sym (ap (λ (f : Event → Bool). f e) b.2)

pub same_tables : (p : Plan) (f g : Event → Bool) → Same f g → table p f ≡ table p g
same_tables p f g h = ap (table p) (fun_ext h)
