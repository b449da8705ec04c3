-- What the rules of a plan give of its replies, and the steps of the loops over links and tasks.
use Rattle.std.proofs.Common.{◌≡◌, ℕ, zero, suc, ◌+◌, ◌<◌, ◌≤◌, Bool, true, false, ◌&&◌, List, [], ◌∷◌, ◌++◌, length, get_or, Some, unwrap_or, sym, refl, ap, ◌∙◌, subst, add-one, arith, rules, set, ◌≢◌, get_or-set_other}
use Rattle.std.proofs.lemmas.List.Folds.{list_all-append}
use Rattle.std.proofs.lemmas.List.{get_or_past, same_lists}
use Rattle.std.proofs.lemmas.Option.{slice_get_within}
use Rattle.std.proofs.lemmas.Bool.{and_from}
use Rattle.std.specs.Array.{IsFromFnResult, IsFromFnResultFrom}
use Rattle.std.specs.Fn.{Called}
use denote.Param.Members.{Mut}
use Rattle.std.specs.List.{slice_get, list_all, range_with_len}
use Rattle.plans.specs.declared.ends.Ends.{Ends}
use Rattle.plans.specs.Plan.{Plan, Keeps, words_of, word_at, task_count, place_of, link_ends}
use Rattle.runs.specs.declared.table.Slot.{Slot}
use Rattle.runs.specs.Slots.{fresh, blank, opened_from, opened}
use Rattle.runs.proofs.Places.{place_word}
use Rattle.plans.proofs.Places.{option_map_some}

module _ (p : Plan) (keeps : Keeps p) where
  pub place_known : (t w i : ℕ) → Some i ≡ place_of p t w → i < 65536
  place_known t w i e = omega (arith, slice_get_within (words_of p t) i w (place_word p t i w (sym e)), keeps.few_words t)

  pub to_small : (l : ℕ) (e : Ends) → Some e ≡ link_ends p l → e.to.task < 64
  to_small l e q =
      let r = option_map_some (λ k. k.ends) (slice_get p.links l) e (sym q) in
      let k = (keeps.links_keep l r.0 r.1).to_known in
      let s : r.0.ends.to.task ≡ e.to.task = ap (λ (x : Ends). x.to.task) r.2 in
      let t : task_count p ≤ 64 = keeps.few_tasks in
      omega (arith, k, s, t)

  pub from_small : (l : ℕ) (e : Ends) → Some e ≡ link_ends p l → e.from.task < 64
  from_small l e q =
      let r = option_map_some (λ k. k.ends) (slice_get p.links l) e (sym q) in
      let k = (keeps.links_keep l r.0 r.1).from_known in
      let s : r.0.ends.from.task ≡ e.from.task = ap (λ (x : Ends). x.from.task) r.2 in
      let t : task_count p ≤ 64 = keeps.few_tasks in
      omega (arith, k, s, t)

  pub ends_apart : (l : ℕ) (e : Ends) → Some e ≡ link_ends p l → e.from.task ≡ e.to.task → ⊥
  ends_apart l e q h =
      let r = option_map_some (λ k. k.ends) (slice_get p.links l) e (sym q) in
      let k = (keeps.links_keep l r.0 r.1).apart in
      k (subst (λ (x : Ends). x.from.task ≡ x.to.task) (sym r.2) h)

-- What fails at one number below n fails of all below n; what holds of all below l and of l holds of all below l + 1.
module _ (one : ℕ → Bool) (all : ℕ → Bool) (more : (l : ℕ) → all (suc l) ≡ (one l && all l)) where
  pub none_below : (l n : ℕ) → l < n → false ≡ one l → false ≡ all n
  none_below l zero h e = absurd (omega arith)
  none_below l (suc n) h e = grind (arith, more n, none_below l n)

  pub all_more : (l : ℕ) → true ≡ one l → all l ≡ true → all (l + 1) ≡ true
  all_more l h k = rw add-one (more l ∙ and_from (one l) (all l) (sym h) k)

range_more : (a n : ℕ) → range_with_len a (suc n) ≡ range_with_len a n ++ ((a + n) ∷ [])
range_more a zero = let e : a ≡ a + 0 = omega arith in ap (λ (x : ℕ). x ∷ []) e
range_more a (suc n) =
    let e : (a + 1) + n ≡ a + suc n = omega arith in
    ap (λ (xs : List ℕ). a ∷ xs) (range_more (a + 1) n ∙ ap (λ (x : ℕ). range_with_len (a + 1) n ++ (x ∷ [])) e)

-- a test of the numbers below n, from the first on, against one from the last on
pub all_below : (one : ℕ → Bool) (all : ℕ → Bool) → all 0 ≡ true → ((l : ℕ) → all (suc l) ≡ (one l && all l)) → (n : ℕ) → list_all one (range_with_len 0 n) ≡ all n
all_below one all none more zero = sym none
all_below one all none more (suc n) =
    let e : 0 + n ≡ n = omega arith in
    ap (list_all one) (range_more 0 n ∙ ap (λ (x : ℕ). range_with_len 0 n ++ (x ∷ [])) e)
    ∙ list_all-append one (range_with_len 0 n) (n ∷ [])
    ∙ last (list_all one (range_with_len 0 n)) (all n) (one n) (all_below one all none more n)
    ∙ sym (more n)
  where
    last : (x y z : Bool) → x ≡ y → (x && (z && true)) ≡ (z && y)
    last x y true h = grind rules
    last x y false h = grind rules

-- What an array is made of, where each call of the closure leaves it as it is and gives the value at the index.
module _ {F X : Type 0} (g : Mut F (ℕ × Unit {0}) X) (f : F) (value : ℕ → X) (gives : (i : ℕ) (y : X) (q : F) → Called g f (i, tt) y q → (q ≡ f) × (y ≡ value i)) (xs : List X) where
  made_from : (i n : ℕ) → IsFromFnResultFrom g f xs i n → (k : ℕ) → k < n → (d : X) → get_or xs (i + k) d ≡ value (i + k)
  made_from i zero made k h d = absurd (omega arith)
  made_from i (suc n) made zero h d =
      let here : i + 0 ≡ i = omega arith in
      rw here (made.2.1 d ∙ (gives i made.1 made.0 made.3).1)
  made_from i (suc n) made (suc k) h d =
      let on : i + suc k ≡ (i + 1) + k = omega arith in
      rw on (made_from (i + 1) n (subst (λ (q : F). IsFromFnResultFrom g q xs (i + 1) n) (gives i made.1 made.0 made.3).0 made.4) k (omega arith) d)

  pub made_at : (n : ℕ) → IsFromFnResult g f xs n → (k : ℕ) → k < n → (d : X) → get_or xs k d ≡ value k
  made_at n made k h d = let here : 0 + k ≡ k = omega arith in rw here at (made_from 0 n made.each k h d)

pub first_past : (p : Plan) (t : ℕ) → task_count p ≤ t → fresh (unwrap_or (word_at p t 0) 0) ≡ blank
first_past p t h = let e : words_of p t ≡ [] = get_or_past p.tasks t [] h in ap (λ (ws : List ℕ). fresh (unwrap_or (slice_get ws 0) 0)) e

pub opened_length : (p : Plan) (t n : ℕ) → length (opened_from p t n) ≡ n
opened_length p t zero = refl
opened_length p t (suc n) = ap suc (opened_length p (suc t) n)

pub opened_at : (p : Plan) (t n i : ℕ) (d : Slot) → i < n → get_or (opened_from p t n) i d ≡ fresh (unwrap_or (word_at p (t + i) 0) 0)
opened_at p t zero i d h = absurd (omega arith)
opened_at p t (suc n) zero d h = ap (λ (u : ℕ). fresh (unwrap_or (word_at p u 0) 0)) (let e : t ≡ t + 0 = omega arith in e)
opened_at p t (suc n) (suc i) d h = opened_at p (suc t) n i d (omega arith) ∙ ap (λ (u : ℕ). fresh (unwrap_or (word_at p u 0) 0)) (let e : suc t + i ≡ t + suc i = omega arith in e)

pub is_opened : (p : Plan) (ss : List Slot) → length ss ≡ 64 → ((t : ℕ) → t < 64 → (d : Slot) → get_or ss t d ≡ fresh (unwrap_or (word_at p t 0) 0)) → ss ≡ opened p
is_opened p ss long at =
    same_lists ss (opened p) (long ∙ sym (opened_length p 0 64))
    (λ k d h. at k (omega (arith, long)) d ∙ ap (λ (u : ℕ). fresh (unwrap_or (word_at p u 0) 0)) (let e : k ≡ 0 + k = omega arith in e) ∙ sym (opened_at p 0 64 k d (omega (arith, long))))

pub rest_more : {X : Type 0} (xs : List X) (d e : X) (i : ℕ) (x : X) → ((t : ℕ) → i ≤ t → get_or xs t d ≡ e) → (t : ℕ) → i + 1 ≤ t → get_or (set xs i x) t d ≡ e
rest_more xs d e i x all t l = let ne : t ≢ i = omega arith in rw get_or-set_other (all t (omega arith))
