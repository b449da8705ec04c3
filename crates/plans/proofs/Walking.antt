-- Steps along the words of a plan's tasks, in the order that the plan describes.
use Rattle.std.proofs.Common.{◌≡◌, ℕ, zero, suc, ◌+◌, ◌-◌, ◌<◌, ◌≤◌, List, [], ◌∷◌, length, get_or, Some, sym, refl, ap, ◌∙◌, arith}
use Rattle.std.specs.List.{slice_get}
use Rattle.std.proofs.lemmas.Option.{slice_get-get_or, slice_get_within, same_Some, gets}
use Rattle.plans.specs.declared.ends.Side.TheVariants.{Start, Finish}
use Rattle.plans.specs.Plan.{Plan, Link, task_count, link_count, words_of, word_at}
use Rattle.plans.specs.Ppo.{Next, Steps, Upto}
use Rattle.plans.specs.Orders.{turn, link_of, no_reply, Turns, Single, order_of}
use Rattle.std.proofs.lemmas.Grind.{common_steps}
use Rattle.std.proofs.lemmas.Bool.Decides.{nat_tests}

pub single_eq : (v w : ℕ) → v ∷ [] ≡ w ∷ [] → v ≡ w
single_eq v w e = cc

-- a task that has a word is known
pub word_known : (p : Plan) (t i w : ℕ) → word_at p t i ≡ Some w → t < task_count p
word_known p t i w e = grind (arith, common_steps, gets)

-- the word at a place
pub word_at_lem : (p : Plan) (t i : ℕ) → i < length (words_of p t) → word_at p t i ≡ Some (get_or (words_of p t) i 0)
word_at_lem p t i h = slice_get-get_or (words_of p t) i 0 h

-- a link by its number
pub link_at_lem : (p : Plan) (l : ℕ) → l < link_count p → slice_get p.links l ≡ Some (link_of p l)
link_at_lem p l h = slice_get-get_or p.links l no_reply h

pub link_is : (p : Plan) (l : ℕ) (k : Link) → slice_get p.links l ≡ Some k → (l < link_count p) × (link_of p l ≡ k)
link_is p l k e = grind (arith, common_steps, gets)

-- from a word to the next one
pub next_from : (p : Plan) (t i v w : ℕ) → word_at p t i ≡ Some v → word_at p t (i + 1) ≡ Some w → Next (order_of p) t (v ∷ []) (w ∷ [])
next_from p t i v w e f =
    (record { edge = turn t Finish; has = word_known p t i v e; from = refl; to = refl }, (v, w, refl, refl, (i, e, f)))

pub walk : (p : Plan) (t n i v w : ℕ) → word_at p t i ≡ Some v → word_at p t (i + n) ≡ Some w → Steps (order_of p) t n (v ∷ []) (w ∷ [])
walk p t zero i v w e f =
    let same : i ≡ i + 0 = omega arith in
    ap (λ x. x ∷ []) (same_Some v w (sym e ∙ ap (slice_get (words_of p t)) same ∙ f))
walk p t (suc n) i v w e f =
    let room : i + 1 < length (words_of p t) = omega (arith, slice_get_within (words_of p t) (i + suc n) w f) in
    let x = get_or (words_of p t) (i + 1) 0 in
    let there = word_at_lem p t (i + 1) room in
    let same : i + 1 + n ≡ i + suc n = omega arith in
    (x ∷ [], next_from p t i v x e there, walk p t n (i + 1) x w there (ap (slice_get (words_of p t)) same ∙ f))

pub upto : (p : Plan) (t i j v w : ℕ) → i ≤ j → word_at p t i ≡ Some v → word_at p t j ≡ Some w → Upto (order_of p) t (v ∷ []) (w ∷ [])
upto p t i j v w le e f =
    let same : i + (j - i) ≡ j = omega arith in
    (j - i, walk p t (j - i) i v w e (ap (slice_get (words_of p t)) same ∙ f))

-- where no link joins a task to itself
abbrev pub Alone : Plan → Type 0
Alone p = (l : ℕ) → l < link_count p → (link_of p l).ends.from.task ≡ (link_of p l).ends.to.task → ⊥

abbrev pub Differ : Plan → Type 0
Differ p = (t i j w : ℕ) → word_at p t i ≡ Some w → word_at p t j ≡ Some w → i ≡ j

pub next_is : (p : Plan) → Alone p → (t : ℕ) (vs ws : List ℕ) → Next (order_of p) t vs ws → Single (Turns p t Finish) vs ws
next_is p alone t vs ws h5 = grind (arith, nat_tests)

-- the place of the word that a walk sets out from
pub walked : (p : Plan) → Alone p → Differ p → (t n j w : ℕ) (vs : List ℕ) → Steps (order_of p) t n vs (w ∷ []) → word_at p t j ≡ Some w
    → (v : ℕ) × (vs ≡ v ∷ []) × ((i : ℕ) × (word_at p t i ≡ Some v) × (i + n ≡ j))
walked p alone differ t zero j w vs s e = (w, s, (j, e, omega arith))
walked p alone differ t (suc n) j w vs (xs, nx, rest) e =
    let (x, is, (i, at, on)) = walked p alone differ t n j w xs rest e in
    let (v, y, isv, isy, (k, here, there)) = next_is p alone t vs xs nx in
    let same = single_eq x y (sym is ∙ isy) in
    let place = differ t (k + 1) i x (there ∙ ap Some (sym same)) at in
    (v, isv, (k, here, omega arith))

pub start_end : Start ≡ Finish → ⊥
start_end e = let z : ◌≡◌ {A = ℕ} 0 1 = cc in omega arith
