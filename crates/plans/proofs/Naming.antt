-- The names of a record: they lie within it, and are names.
use Rattle.std.proofs.Common.{◌≡◌, ℕ, zero, suc, ◌+◌, ◌*◌, ◌/◌, ◌%◌, ◌<◌, ◌≤◌, Bool, true, ◌&&◌, ltb, leb, List, [], ◌∷◌, length, get_or, take, drop, Ok, Err, Result, sym, refl, ap, ◌∙◌, subst, inl, inr, arith}
use Rattle.std.specs.List.{AllByRecursion}
use Rattle.std.proofs.lemmas.List.{length-take-le, length-drop, get_or_read, drop_more}
use Rattle.std.proofs.lemmas.Bool.{cases_Bool, and_from, and_parts, le-leb, leb-true, ltb-true, ltb-false}
use Rattle.bits.specs.Bits.{bits, field, spelled}
use Rattle.bits.proofs.Bits.{length_bits, spelled_byte}
use Rattle.plans.specs.declared.fault.Fault.{Fault}
use Rattle.plans.specs.declared.fault.Kind.{Kind}
use Rattle.plans.specs.declared.fault.Kind.TheVariants as kind
use Rattle.plans.specs.declared.shapes.Letter.{Letter}
use Rattle.plans.specs.declared.shapes.Name.{Name}
use Rattle.plans.specs.declared.shapes.Counts.{Counts}
use Rattle.plans.specs.Reads.{next, unless, give, times, number, number_that}
use Rattle.plans.specs.Layout.{Parts, letter, name, task, link, padding, body, counts, ended, parts, fields}
use Rattle.plans.specs.Record.{checked}
use Rattle.plans.specs.Accepted.{inside_all, is_letter, are_letters, good_name, good_names}
use Rattle.plans.specs.Names.{no_name, name_at, name_in, IsName}
use Rattle.plans.specs.Meaning.{parts_or}
use Rattle.plans.proofs.Fields.{on_ok_ok, times_ok, times_from}
use Rattle.plans.proofs.Keeping.{checked_ok}
use Rattle.std.proofs.lemmas.List.Recursion.{and_at}
use Rattle.std.proofs.lemmas.Bool.Decides.{nat_tests}

pub ok_is : {A : Type 0} (x y : A) → ◌≡◌ {A = Result A Fault} (Ok x) (Ok y) → x ≡ y
ok_is x y e = cc

-- a field that was read: its number, and its end within the bytes
record Field (bs : List ℕ) (width at : ℕ) (x : ℕ × ℕ) : Type 0 where
  value : spelled (field bs at width) ≡ x.0
  ends : x.1 ≡ at + width
  within : x.1 ≤ 8 * length bs

field_read : (bs : List ℕ) (width at : ℕ) (x : ℕ × ℕ) → number bs width at ≡ Ok x → Field bs width at x
field_read bs width at x e =
    elim (cases_Bool (ltb (length (bits bs)) (at + width))) [
      | inl t ↦ absurd (let f = rw t at e in cc)
      | inr t ↦
          (let whole = ok_is (spelled (field bs at width), at + width) x (rw t at e) in
          let ends : at + width ≡ x.1 = ap (λ q. q.1) whole in
          let low = ltb-false (length (bits bs)) (at + width) t in
          record { value = ap (λ q. q.0) whole; ends = sym ends; within = omega (arith, ends, low, length_bits bs) })
    ]

that_read : (bs : List ℕ) (width : ℕ) (test : ℕ → Bool) (k : Kind) (at : ℕ) (x : ℕ × ℕ) → number_that bs width test k at ≡ Ok x → (test x.0 ≡ true) × Field bs width at x
that_read bs width test k at x h =
    let a = on_ok_ok (number bs width at) (λ r. next (unless (test r.0) k at) (λ _. give r.0) r.1) x h in
    let is = field_read bs width at a.0 a.1 in
    elim (cases_Bool (test a.0.0)) [
      | inl t ↦ (let whole = ok_is (a.0.0, a.0.1) x (rw t at a.2) in subst (λ q. (test q.0 ≡ true) × Field bs width at q) whole (t, is))
      | inr t ↦ absurd (let f = rw t at a.2 in cc)
    ]

-- the names begin with a byte
padding_ends : (bs : List ℕ) (at : ℕ) (x : Unit {0} × ℕ) → padding bs at ≡ Ok x → x.1 % 8 ≡ 0
padding_ends bs at x h = grind (arith, nat_tests)

-- the numbers of a row are bytes
abbrev pub Narrow : List ℕ → Type 0
Narrow bs = (k : ℕ) → k < length bs → get_or bs k 0 < 256

module _ (bs : List ℕ) (narrow : Narrow bs) where
  -- a letter is a byte of the record
  letter_read : (k : ℕ) (x : Letter × ℕ) → letter bs (8 * k) ≡ Ok x → (k < length bs) × (is_letter (get_or bs k 0) ≡ true) × (x.1 ≡ 8 * (k + 1))
  letter_read k x h =
      let a = on_ok_ok (number_that bs 8 is_letter kind.Text (8 * k)) _ x h in
      let same : a.0.1 ≡ x.1 = ap (λ q. q.1) (ok_is (record { code = a.0.0 }, a.0.1) x a.2) in
      let r = that_read bs 8 is_letter kind.Text (8 * k) a.0 a.1 in
      let f = r.1 in
      let below : k < length bs = omega (arith, f.ends, f.within) in
      let byte : a.0.0 ≡ get_or bs k 0 = omega (arith, f.value, spelled_byte bs k below, narrow k below) in
      (below, subst (λ b. is_letter b ≡ true) byte r.0, omega (arith, same, f.ends))

  letters_read : (n k : ℕ) (x : List Letter × ℕ) → k ≤ length bs → times n (letter bs) (8 * k) ≡ Ok x
      → (k + n ≤ length bs) × (are_letters (take n (drop k bs)) ≡ true) × (x.1 ≡ 8 * (k + n))
  letters_read zero k x low h = let same : 8 * k ≡ x.1 = ap (λ q. q.1) (ok_is ([], 8 * k) x h) in (omega arith, refl, omega (arith, same))
  letters_read (suc n) k x low h =
      let a = on_ok_ok (letter bs (8 * k)) _ x h in
      let b = on_ok_ok (times n (letter bs) a.0.1) _ x a.2 in
      let one = letter_read k a.0 a.1 in
      let rest = letters_read n (k + 1) b.0 (omega (arith, one.0)) (subst (λ at. times n (letter bs) at ≡ Ok b.0) one.2 b.1) in
      let same : b.0.1 ≡ x.1 = ap (λ q. q.1) (ok_is (a.0.0 ∷ b.0.0, b.0.1) x b.2) in (
        omega (arith, rest.0),
        ap (λ l. are_letters (take (suc n) l)) (drop_more bs k 0 one.0) ∙ and_from (is_letter (get_or bs k 0)) (are_letters (take n (drop (k + 1) bs))) one.1 rest.1,
        omega (arith, same, rest.2),
      )

  -- a name that begins with a byte is good, and ends with one
  name_read : (at : ℕ) (x : Name × ℕ) → at % 8 ≡ 0 → name bs at ≡ Ok x → (good_name bs x.0 ≡ true) × (x.1 % 8 ≡ 0)
  name_read at x from h =
      let test = λ (n : ℕ). leb 1 n && leb n 15 in
      let a = on_ok_ok (number_that bs 8 test kind.Text at) _ x h in
      let n = a.0.0 in
      let mid = a.0.1 in
      let b = on_ok_ok (times n (letter bs) mid) _ x a.2 in
      let r = that_read bs 8 test kind.Text at a.0 a.1 in
      let f = r.1 in
      let k = mid / 8 in
      let begins : mid ≡ 8 * k = omega (arith, f.ends) in
      let all = letters_read n k b.0 (omega (arith, f.within)) (subst (λ at. times n (letter bs) at ≡ Ok b.0) begins b.1) in
      let size = and_parts (leb 1 n) (leb n 15) r.0 in
      let whole = ok_is (record { at = k; length = n }, b.0.1) x b.2 in
      subst (λ q. (good_name bs q.0 ≡ true) × (q.1 % 8 ≡ 0)) whole (
        and_from (leb (k + n) (length bs)) _ (le-leb (k + n) (length bs) all.0) (and_from (leb 1 n) _ size.0 (and_from (leb n 15) _ size.1 all.1)),
        omega (arith, all.2),
      )

  names_all : (xs : List Name) → AllByRecursion (λ x. good_name bs x ≡ true) xs → good_names bs xs ≡ true
  names_all [] all = refl
  names_all (x ∷ xs) all = and_from (good_name bs x) (good_names bs xs) all.0 (names_all xs all.1)

-- what fields in order have shown of the names: one a task, and good
abbrev NamesRead : List ℕ → Parts → Type 0
NamesRead bs p = (length p.names ≡ length p.tasks) × (Narrow bs → good_names bs p.names ≡ true)

body_names : (bs : List ℕ) (n : Counts) (at : ℕ) (x : Parts × ℕ) → body bs n at ≡ Ok x → NamesRead bs x.0
body_names bs n at x h =
    let ts = on_ok_ok (times n.tasks (task bs) at) _ x h in
    let ls = on_ok_ok (times n.links (link bs ts.0.0) ts.0.1) _ x ts.2 in
    let pd = on_ok_ok (padding bs ls.0.1) _ x ls.2 in
    let ns = on_ok_ok (times n.tasks (name bs) pd.0.1) _ x pd.2 in
    let whole = ok_is (record { tasks = ts.0.0; links = ls.0.0; names = ns.0.0 }, ns.0.1) x ns.2 in
    let tasks = (times_ok (λ _. Unit {0}) (task bs) (λ _ _ _. tt) n.tasks at ts.0 ts.1).0 in
    let names = (times_ok (λ _. Unit {0}) (name bs) (λ _ _ _. tt) n.tasks pd.0.1 ns.0 ns.1).0 in
    let begins = padding_ends bs ls.0.1 pd.0 pd.1 in
    subst (λ q. NamesRead bs q.0) whole (
      names ∙ sym tasks,
      λ narrow. names_all bs narrow ns.0.0 (times_from (λ at. at % 8 ≡ 0) (λ x. good_name bs x ≡ true) (name bs) (name_read bs narrow) n.tasks pd.0.1 ns.0 begins ns.1).1,
    )

names_read : (bs : List ℕ) (p : Parts) → fields bs ≡ Ok p → NamesRead bs p
names_read bs p h =
    let w = on_ok_ok (parts bs 0) (λ r. Ok r.0) p h in
    let c = on_ok_ok (counts bs 0) _ w.0 w.1 in
    let b = on_ok_ok (body bs c.0.0 c.0.1) _ w.0 c.2 in
    let e = on_ok_ok (ended bs b.0.1) _ w.0 b.2 in
    let last = ok_is (b.0.0, e.0.1) w.0 e.2 in
    let out = ok_is w.0.0 p w.2 in
    subst (NamesRead bs) (ap (λ x. x.0) last ∙ out) (body_names bs c.0.0 c.0.1 b.0 b.1)

-- the names of the parts that any bytes are taken to have
pub names_held : (bs : List ℕ) → NamesRead bs (parts_or (checked bs))
names_held bs = by (checked bs) refl
  where
    by : (m : Result Parts Fault) → checked bs ≡ m → NamesRead bs (parts_or m)
    by (Ok q) e = names_read bs q (checked_ok bs q e).0
    by (Err f) e = (refl, λ _. refl)

letters_are : (bs : List ℕ) → are_letters bs ≡ true → AllByRecursion (λ b. (33 ≤ b) × (b ≤ 126)) bs
letters_are [] h = tt
letters_are (b ∷ bs) h =
    let all = and_parts (is_letter b) (are_letters bs) h in
    let one = and_parts (leb 33 b) (leb b 126) all.0 in
    ((leb-true 33 b one.0, leb-true b 126 one.1), letters_are bs all.1)

-- a good name lies within the bytes, and is a name
name_is : (bs : List ℕ) (x : Name) → good_name bs x ≡ true → (x.at + x.length ≤ length bs) × IsName (take x.length (drop x.at bs))
name_is bs x h =
    let a = and_parts (leb (x.at + x.length) (length bs)) _ h in
    let b = and_parts (leb 1 x.length) _ a.1 in
    let c = and_parts (leb x.length 15) _ b.1 in
    let inside = leb-true (x.at + x.length) (length bs) a.0 in
    let long = length-take-le x.length (drop x.at bs) (omega (arith, inside, length-drop x.at bs)) in
    let some = leb-true 1 x.length b.0 in
    let short = leb-true x.length 15 c.0 in
    (inside, record { some = omega (arith, long); short = omega (arith, long); letters = letters_are (take x.length (drop x.at bs)) c.1 })

pub name_at_lem : (bs : List ℕ) (xs : List Name) (t : ℕ) → good_names bs xs ≡ true → t < length xs → ((get_or xs t no_name).at + (get_or xs t no_name).length ≤ length bs) × IsName (name_in bs xs t)
name_at_lem bs xs t h l = name_is bs (get_or xs t no_name) (and_at (good_names bs) (good_name bs) refl (λ _ _. refl) xs t no_name l h)

-- good names lie within the bytes
pub inside_good : (bs : List ℕ) (xs : List Name) → good_names bs xs ≡ true → inside_all (length bs) xs ≡ true
inside_good bs [] h = refl
inside_good bs (x ∷ xs) h =
    let all = and_parts (good_name bs x) (good_names bs xs) h in
    let one = and_parts (leb (x.at + x.length) (length bs)) _ all.0 in
    and_from (leb (x.at + x.length) (length bs)) (inside_all (length bs) xs) one.0 (inside_good bs xs all.1)

-- a good name among others, and what is known of it
pub record Known (bs : List ℕ) (xs : List Name) (t : ℕ) (x : Name) : Type 0 where
  pub below : t < length xs
  pub is : name_at xs t ≡ x
  pub inside : x.at + x.length ≤ length bs
  pub long : length (take x.length (drop x.at bs)) ≡ x.length
  pub formed : IsName (take x.length (drop x.at bs))

pub known : (bs : List ℕ) (xs ys : List Name) (t : ℕ) (x : Name) → good_names bs xs ≡ true → ys ≡ xs → true ≡ ltb t (length ys) → x ≡ get_or ys t x → Known bs xs t x
known bs xs ys t x good same test here =
    let low = ltb-true t (length ys) (sym test) in
    let below : t < length xs = subst (λ us. t < length us) same low in
    let is : name_at xs t ≡ x = ap (λ us. get_or us t no_name) (sym same) ∙ sym (get_or_read ys t x low here no_name) in
    let named = name_at_lem bs xs t good below in
    let inside = subst (λ y. y.at + y.length ≤ length bs) is named.0 in
    record {
      below = below;
      is = is;
      inside = inside;
      long = length-take-le x.length (drop x.at bs) (omega (arith, inside, length-drop x.at bs));
      formed = subst (λ y. IsName (take y.length (drop y.at bs))) is named.1;
    }
