-- The valuations of parameters: they are the tuples, each has a word of its own, and the rules give the same at either.
use Rattle.std.proofs.Common.{◌≡◌, ℕ, zero, suc, ◌+◌, ◌-◌, ◌*◌, ◌/◌, ◌%◌, ◌<◌, ◌≤◌, cond, ltb, List, [], ◌∷◌, ◌++◌, map, length, get_or, take, replicate, ℤ, pos, ◌+ℤ◌, Some, None, Option, sym, refl, ap, ◌∙◌, subst, mod-lt, arith}
use Rattle.std.proofs.lemmas.Option.{slice_get-map, slice_get_within}
use Rattle.std.specs.Option.{option_map}
use Rattle.std.specs.List.{AllByRecursion, slice_get}
use Rattle.std.specs.Int.Digits.{AllBelowBase}
use Rattle.std.proofs.ByRecursion.{All-append}
use Rattle.std.proofs.lemmas.List.{length-append, length-replicate, take_at}
use Rattle.std.proofs.lemmas.Bool.{or_from, le-ltb}
use Rattle.std.proofs.lemmas.Bool.Decides.{nat_tests}
use Rattle.plans.specs.declared.param.Param.{Param}
use Rattle.plans.specs.declared.rule.Rule.{Rule}
use Rattle.plans.specs.Lists.{and_then}
use Rattle.plans.specs.Words.{base, size, count, tuples, words, word_of, values_of, value_at, turn_of}
use Rattle.plans.specs.Targets.{quotient, picked, sum, in_range, value_for, values_for, target_at}
use Rattle.plans.specs.Layout.{no_param, filled, filled_by, no_rule}
use Rattle.plans.specs.Ppo.{Valued}
use Rattle.plans.specs.Description.{Range}
use Rattle.plans.specs.Terms.{Domain, domains_of, Ruled, word_for}
use Rattle.plans.proofs.Places.{place_in_found, option_map_some, and_then_some, get_or_replicate_same}
use Rattle.plans.proofs.Mixed.{tuple_at, place_from, left_positive, right_positive, length_tuples, slice_get-tuples, tuple_of_place}
use Rattle.plans.proofs.Words.{values_of_word_of}
use Rattle.plans.proofs.Filled.{unused_are_zero}
use Rattle.plans.proofs.Targets.{target_at_word}
use Rattle.plans.proofs.Quotient.{quotient_pos}

-- the tuples are the valuations
value_in : (p : Param) (t : ℕ) → t < size p → Domain p (value_at p t)
value_in p t h = (grind (arith, nat_tests), grind (arith, nat_tests))

turn_in : (p : Param) (v : ℕ) → Domain p v → turn_of p v ≡ Some (cond p.down (p.high - v) (v - p.low))
turn_in p v h = ap (λ b. cond b None (Some (cond p.down (p.high - v) (v - p.low)))) (or_from (ltb v p.low) (ltb p.high v) (le-ltb v p.low h.0) (le-ltb p.high v h.1))

tuple_valued : (ps : List Param) (i : ℕ) → 0 < count ps → Valued (domains_of ps) (tuple_at ps i)
unfolding count
tuple_valued [] i some = tt
tuple_valued (p ∷ ps) i some =
    (value_in p (i / count ps % size p) (mod-lt (i / count ps) (left_positive (size p) (count ps) some)), tuple_valued ps i (right_positive (size p) (count ps) some))

valued_place : (acc : ℕ) (ps : List Param) (v : List ℕ) → Valued (domains_of ps) v → (k : ℕ) × (place_from acc ps v ≡ Some k)
valued_place acc [] [] h = (acc, refl)
valued_place acc [] (v ∷ vs) h = absurd h
valued_place acc (p ∷ ps) [] h = absurd h
valued_place acc (p ∷ ps) (v ∷ vs) h =
    let t = cond p.down (p.high - v) (v - p.low) in
    let r = valued_place (acc * size p + t) ps vs h.1 in
    (r.0, ap (λ o. and_then o (λ n. place_from (acc * size p + n) ps vs)) (turn_in p v h.0) ∙ r.1)

pub valued_at : (ps : List Param) (v : List ℕ) → Valued (domains_of ps) v → (i : ℕ) × (slice_get (tuples ps) i ≡ Some v)
valued_at ps v h =
    let k = valued_place 0 ps v h in
    let t = tuple_of_place 0 ps v k.0 k.1 in
    (t.0, slice_get-tuples ps t.0 t.1 ∙ ap Some (sym t.3))

tuple_is : (ps : List Param) (v : List ℕ) (i : ℕ) → slice_get (tuples ps) i ≡ Some v → (i < count ps) × (tuple_at ps i ≡ v)
tuple_is ps v i e =
    let h : i < count ps = omega (arith, slice_get_within (tuples ps) i v e, length_tuples ps) in
    (h, (let n = slice_get-tuples ps i h in cc))

pub valued_of : (ps : List Param) (v : List ℕ) (i : ℕ) → slice_get (tuples ps) i ≡ Some v → Valued (domains_of ps) v
valued_of ps v i e = let t = tuple_is ps v i e in subst (Valued (domains_of ps)) t.1 (tuple_valued ps i (omega (arith, t.0)))

-- the word of a valuation, and back
valued_length : (ps : List Param) (v : List ℕ) → Valued (domains_of ps) v → length v ≡ length ps
valued_length [] [] h = refl
valued_length [] (v ∷ vs) h = absurd h
valued_length (p ∷ ps) [] h = absurd h
valued_length (p ∷ ps) (v ∷ vs) h = ap suc (valued_length ps vs h.1)

valued_under : (ps : List Param) (v : List ℕ) → AllByRecursion Range ps → Valued (domains_of ps) v → AllBelowBase base v
valued_under [] [] r h = tt
valued_under [] (v ∷ vs) r h = absurd h
valued_under (p ∷ ps) [] r h = absurd h
valued_under (p ∷ ps) (v ∷ vs) r h = (omega (arith, r.0.1, h.0.1), valued_under ps vs r.1 h.1)

zeros_under : (k : ℕ) → AllBelowBase base (replicate k 0)
zeros_under zero = tt
zeros_under (suc k) = (omega arith, zeros_under k)

abbrev pub zeros : List Param → List ℕ
zeros ps = replicate (4 - length ps) 0

pub filled_word : (ps : List Param) (v : List ℕ) → Valued (domains_of ps) v → word_for v ≡ word_of (v ++ zeros ps)
filled_word ps v h = ap (λ n. word_of (v ++ replicate (4 - n) 0)) (valued_length ps v h)

pub values_told : (ps : List Param) (v : List ℕ) → length ps ≤ 4 → AllByRecursion Range ps → Valued (domains_of ps) v → values_of (word_for v) ≡ v ++ zeros ps
values_told ps v few r h =
    ap values_of (filled_word ps v h)
    ∙ values_of_word_of (v ++ zeros ps) (omega (arith, length-append v (zeros ps), length-replicate {A = ℕ} (4 - length ps) 0, valued_length ps v h))
    (All-append (λ d. d < base) v (zeros ps) (valued_under ps v r h) (zeros_under (4 - length ps)))

pub word_told : (ps : List Param) (v : List ℕ) → length ps ≤ 4 → AllByRecursion Range ps → Valued (domains_of ps) v → take (length ps) (values_of (word_for v)) ≡ v
word_told ps v few r h = ap (take (length ps)) (values_told ps v few r h) ∙ take_at v (zeros ps) (length ps) (valued_length ps v h)

pub one_word : (ps : List Param) (v w : List ℕ) → length ps ≤ 4 → AllByRecursion Range ps → Valued (domains_of ps) v → Valued (domains_of ps) w → word_for v ≡ word_for w → v ≡ w
one_word ps v w few r h k e = sym (word_told ps v few r h) ∙ ap (λ n. take (length ps) (values_of n)) e ∙ word_told ps w few r k

same_map : {X Y : Type 0} (f g : X → Y) (xs : List X) → ((i : ℕ) (x : X) → slice_get xs i ≡ Some x → f x ≡ g x) → map f xs ≡ map g xs
same_map f g [] h = refl
same_map f g (x ∷ xs) h = λ i. h 0 x refl i ∷ same_map f g xs (λ n y e. h (suc n) y e) i

pub words_filled : (ps : List Param) → words (filled ps) ≡ map word_for (tuples ps)
words_filled ps =
    unused_are_zero ps
    ∙ same_map (λ v. word_of (v ++ zeros ps)) word_for (tuples ps) (λ i v e. sym (filled_word ps v (valued_of ps v i e)))

-- a rule reads the same from a valuation and from one that is filled up
get_or_filled : (v : List ℕ) (k i : ℕ) → get_or (v ++ replicate k 0) i 0 ≡ get_or v i 0
get_or_filled [] k i = get_or_replicate_same {X = ℕ} k 0 0 refl i
get_or_filled (x ∷ v) k zero = refl
get_or_filled (x ∷ v) k (suc i) = get_or_filled v k i

picked_filled : (o : Option ℕ) (v : List ℕ) (k : ℕ) → picked o (v ++ replicate k 0) ≡ picked o v
picked_filled None v k = refl
picked_filled (Some i) v k = get_or_filled v k i

sum_filled : (r : Rule) (v : List ℕ) (k : ℕ) → sum r (v ++ replicate k 0) ≡ sum r v
sum_filled r v k = ap (λ n. pos n +ℤ r.add) (picked_filled r.pick v k)

pub ruled_filled : (rs : List Rule) (v w : List ℕ) (k : ℕ) → Ruled rs v w → Ruled rs (v ++ replicate k 0) w
ruled_filled [] v [] k h = tt
ruled_filled [] v (w ∷ ws) k h = absurd h
ruled_filled (r ∷ rs) v [] k h = absurd h
ruled_filled (r ∷ rs) v (w ∷ ws) k h = (ap (λ z. quotient z r.divisor) (sum_filled r v k) ∙ h.0, ruled_filled rs v ws k h.1)

pub ruled_bare : (rs : List Rule) (v w : List ℕ) (k : ℕ) → Ruled rs (v ++ replicate k 0) w → Ruled rs v w
ruled_bare [] v [] k h = tt
ruled_bare [] v (w ∷ ws) k h = absurd h
ruled_bare (r ∷ rs) v [] k h = absurd h
ruled_bare (r ∷ rs) v (w ∷ ws) k h = (ap (λ z. quotient z r.divisor) (sym (sum_filled r v k)) ∙ h.0, ruled_bare rs v ws k h.1)

-- the values that rules give are those in the domains
in_range_lem : (p : Param) (n : ℕ) → Domain p n → in_range p (pos n) ≡ Some n
in_range_lem p n h = ap (λ b. cond b None (Some n)) (or_from (ltb n p.low) (ltb p.high n) (le-ltb n p.low h.0) (le-ltb p.high n h.1))

range_in : (p : Param) (z : ℤ) (n : ℕ) → in_range p z ≡ Some n → (z ≡ pos n) × Domain p n
range_in p z n e = grind (arith, nat_tests)

no_value : (vs : List ℕ) → value_for no_rule no_param vs ≡ Some 0
no_value vs = ap (in_range no_param) (quotient_pos 0 1)

unruled : (k : ℕ) (vs : List ℕ) → values_for (replicate k no_rule) (replicate k no_param) vs ≡ Some (replicate k 0)
unruled zero vs = refl
unruled (suc k) vs =
    (λ i. and_then (no_value vs i) (λ v. option_map (λ us. v ∷ us) (unruled k vs i)))

pub values_given : (k : ℕ) (rs : List Rule) (ps : List Param) (vs w : List ℕ) → Ruled rs vs w → Valued (domains_of ps) w
    → values_for (rs ++ replicate k no_rule) (ps ++ replicate k no_param) vs ≡ Some (w ++ replicate k 0)
values_given k [] [] vs [] r h = unruled k vs
values_given k [] (p ∷ ps) vs [] r h = absurd h
values_given k [] ps vs (w ∷ ws) r h = absurd r
values_given k (x ∷ rs) ps vs [] r h = absurd r
values_given k (x ∷ rs) [] vs (w ∷ ws) r h = absurd h
values_given k (x ∷ rs) (p ∷ ps) vs (w ∷ ws) r h =
    let here : value_for x p vs ≡ Some w = ap (in_range p) r.0 ∙ in_range_lem p w h.0 in
    (λ i. and_then (here i) (λ v. option_map (λ us. v ∷ us) (values_given k rs ps vs ws r.1 h.1 i)))

pub given_values : (k : ℕ) (rs : List Rule) (ps : List Param) (vs u : List ℕ) → length rs ≡ length ps
    → values_for (rs ++ replicate k no_rule) (ps ++ replicate k no_param) vs ≡ Some u
    → (w : List ℕ) × (u ≡ w ++ replicate k 0) × Ruled rs vs w × Valued (domains_of ps) w
given_values k [] [] vs u n e = ([], (let z = unruled k vs in cc), tt, tt)
given_values k [] (p ∷ ps) vs u n e = absurd (omega arith)
given_values k (r ∷ rs) [] vs u n e = absurd (omega arith)
given_values k (r ∷ rs) (p ∷ ps) vs u n e =
    let rest = values_for (rs ++ replicate k no_rule) (ps ++ replicate k no_param) vs in
    let a = and_then_some (value_for r p vs) (λ v. option_map (λ us. v ∷ us) rest) u e in
    let b = option_map_some (λ us. a.0 ∷ us) rest u a.2 in
    let x = range_in p (quotient (sum r vs) r.divisor) a.0 a.1 in
    let w = given_values k rs ps vs b.0 (omega arith) b.1 in
    (a.0 ∷ w.0, sym b.2 ∙ ap (λ us. a.0 ∷ us) w.1, (x.0, w.2), (x.1, w.3))

-- what a link gives at the word of a valuation
module _ (ps ts : List Param) (rs : List Rule) (few : length ps ≤ 4) (ranges : AllByRecursion Range ps) (ruled : length rs ≡ length ts) where
  at_word : (v : List ℕ) → Valued (domains_of ps) v → target_at (filled ps) (filled ts) (filled_by no_rule rs) (word_for v)
      ≡ option_map word_of (values_for (rs ++ replicate (4 - length ts) no_rule) (filled ts) (v ++ zeros ps))
  at_word v h =
      let i = valued_at ps v h in
      let word : slice_get (words (filled ps)) i.0 ≡ Some (word_for v) = ap (λ ws. slice_get ws i.0) (words_filled ps) ∙ slice_get-map word_for (tuples ps) i.0 ∙ ap (option_map word_for) i.1 in
      let found = place_in_found (words (filled ps)) (word_for v) i.0 word in
      target_at_word (filled ps) (filled ts) (filled_by no_rule rs) (word_for v) found.0 found.1
      ∙ (λ i. option_map word_of (values_for (rs ++ replicate (4 - ruled i) no_rule) (filled ts) (values_told ps v few ranges h i)))

  pub target_given : (v w : List ℕ) → Valued (domains_of ps) v → Valued (domains_of ts) w → Ruled rs v w
      → target_at (filled ps) (filled ts) (filled_by no_rule rs) (word_for v) ≡ Some (word_for w)
  target_given v w h k r =
      at_word v h
      ∙ ap (option_map word_of) (values_given (4 - length ts) rs ts (v ++ zeros ps) w (ruled_filled rs v w (4 - length ps) r) k)
      ∙ ap Some (sym (filled_word ts w k))

  pub given_target : (v : List ℕ) (n : ℕ) → Valued (domains_of ps) v → target_at (filled ps) (filled ts) (filled_by no_rule rs) (word_for v) ≡ Some n
      → (w : List ℕ) × Valued (domains_of ts) w × Ruled rs v w × (word_for w ≡ n)
  given_target v n h e =
      let rest = values_for (rs ++ replicate (4 - length ts) no_rule) (filled ts) (v ++ zeros ps) in
      let m = option_map_some word_of rest n (sym (at_word v h) ∙ e) in
      let w = given_values (4 - length ts) rs ts (v ++ zeros ps) m.0 ruled m.1 in
      (w.0, w.3, ruled_bare rs v w.0 (4 - length ps) w.2, filled_word ts w.0 w.3 ∙ ap word_of (sym w.1) ∙ m.2)
