-- Reads of parts one after another, and the writing of the parts: back from what is read, and forth from what stands there.
use Rattle.std.proofs.Common.{◌≡◌, ℕ, zero, suc, ◌+◌, List, [], ◌∷◌, ◌++◌, map, length, Ok, sym, refl, ap, ◌∙◌, subst, arith}
use Rattle.std.specs.List.{flat_map, AllByRecursion}
use Rattle.std.proofs.lemmas.List.{append_assoc}
use Rattle.plans.specs.Reads.{Read, times}
use Rattle.plans.proofs.Fields.{on_ok_ok}
use Rattle.plans.proofs.Naming.{ok_is}
use Rattle.plans.proofs.Spelling.{Spells, spells_none, spells_then, spells_first, spells_rest, on_ok_from}

-- what is read, seen by g, is what a good value is, seen by f, and that value's writing stands there
abbrev pub Back : {A Y C : Type 0} → List ℕ → Read A → (Y → List ℕ) → (Y → Type 0) → (Y → C) → (A → C) → Type 0
Back {A} {Y} s m w Good f g = (at : ℕ) (x : A × ℕ) → m at ≡ Ok x → (y : Y) × Good y × (f y ≡ g x.0) × Spells s at (w y) x.1

-- where a good value's writing stands, it is read
abbrev pub Forth : {A Y C : Type 0} → List ℕ → Read A → (Y → List ℕ) → (Y → Type 0) → (Y → C) → (A → C) → Type 0
Forth {A} {Y} s m w Good f g = (at end : ℕ) (y : Y) → Good y → Spells s at (w y) end → (x : A) × (m at ≡ Ok (x, end)) × (f y ≡ g x)

-- good values that have the same view, since their writings begin the same row
abbrev pub Once : {Y C : Type 0} → (Y → List ℕ) → (Y → Type 0) → (Y → C) → Type 0
Once {Y} w Good f = (y z : Y) (r s : List ℕ) → Good y → Good z → w y ++ r ≡ w z ++ s → (f y ≡ f z) × (r ≡ s)

module _ {A Y C : Type 0} (s : List ℕ) (m : Read A) (w : Y → List ℕ) (Good : Y → Type 0) (f : Y → C) (g : A → C) where
  pub times_back : Back s m w Good f g → (n at : ℕ) (x : List A × ℕ) → times n m at ≡ Ok x
      → (ys : List Y) × (length ys ≡ n) × AllByRecursion Good ys × (map f ys ≡ map g x.0) × Spells s at (flat_map w ys) x.1
  times_back each zero at x h =
      let whole = ok_is ([], at) x h in
      ([], refl, tt, ap (λ q. map g q.0) whole, subst (λ q. Spells s at [] q.1) whole (spells_none s at))
  times_back each (suc n) at x h =
      let a = on_ok_ok (m at) _ x h in
      let b = on_ok_ok (times n m a.0.1) _ x a.2 in
      let one = each at a.0 a.1 in
      let rest = times_back each n a.0.1 b.0 b.1 in
      let whole = ok_is (a.0.0 ∷ b.0.0, b.0.1) x b.2 in (
        one.0 ∷ rest.0,
        ap suc rest.1,
        (one.1, rest.2),
        (λ i. one.2 i ∷ rest.3 i) ∙ ap (λ q. map g q.0) whole,
        subst (λ q. Spells s at (w one.0 ++ flat_map w rest.0) q.1) whole (spells_then s (w one.0) (flat_map w rest.0) at a.0.1 b.0.1 one.3 rest.4),
      )

  pub times_forth : Forth s m w Good f g → (at end : ℕ) (ys : List Y) → AllByRecursion Good ys → Spells s at (flat_map w ys) end
      → (xs : List A) × (times (length ys) m at ≡ Ok (xs, end)) × (map f ys ≡ map g xs)
  times_forth each at end [] all sp = ([], ap (λ e. Ok ([], e)) (let e : at ≡ end = omega (arith, sp.ends) in e), refl)
  times_forth each at end (y ∷ ys) all sp =
      let mid = at + length (w y) in
      let a = each at mid y all.0 (spells_first s (w y) (flat_map w ys) at end sp) in
      let b = times_forth each mid end ys all.1 (spells_rest s (w y) (flat_map w ys) at end sp) in
      (a.0 ∷ b.0, on_ok_from (m at) _ (a.0, mid) _ a.1 (on_ok_from (times (length ys) m mid) _ (b.0, end) _ b.1 refl), λ i. a.2 i ∷ b.2 i)

pub flat_map_once : {Y C : Type 0} (w : Y → List ℕ) (Good : Y → Type 0) (f : Y → C) → Once w Good f
    → (ys zs : List Y) (r s : List ℕ) → length ys ≡ length zs → AllByRecursion Good ys → AllByRecursion Good zs → flat_map w ys ++ r ≡ flat_map w zs ++ s → (map f ys ≡ map f zs) × (r ≡ s)
flat_map_once w Good f each [] [] r s long a b e = (refl, e)
flat_map_once w Good f each [] (z ∷ zs) r s long a b e = absurd (omega arith)
flat_map_once w Good f each (y ∷ ys) [] r s long a b e = absurd (omega arith)
flat_map_once w Good f each (y ∷ ys) (z ∷ zs) r s long a b e =
    let one = each y z (flat_map w ys ++ r) (flat_map w zs ++ s) a.0 b.0 (sym (append_assoc (w y) (flat_map w ys) r) ∙ e ∙ append_assoc (w z) (flat_map w zs) s) in
    let rest = flat_map_once w Good f each ys zs r s (omega arith) a.1 b.1 one.1 in
    ((λ i. one.0 i ∷ rest.0 i), rest.1)
