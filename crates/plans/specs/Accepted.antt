-- What holds of the parts of a record whose fields are in order: invariants of the tables that hold them.
use Rattle.std.specs.Prelude.{◌≡◌, ℕ, ◌+◌, Bool, true, ◌&&◌, List, [], ◌∷◌, length, take, drop, ◌==◌, nat_le, nat_lt}
use Rattle.plans.specs.declared.shapes.Params.{Params}
use Rattle.plans.specs.declared.shapes.Link.{Link}
use Rattle.plans.specs.declared.shapes.Name.{Name}
use Rattle.plans.specs.Words.{count, hold_bytes, most_words}
use Rattle.plans.specs.Targets.{divide_all}
use Rattle.plans.specs.Layout.{join}

-- a task: four ranges of values, of which it uses some, and a number of words that is allowed
abbrev pub good_task : Params → Bool
good_task p =
    nat_le p.used 4 && (length p.each == 4 && (hold_bytes p.each && (nat_lt 0 (count p.each) && nat_le (count p.each) most_words)))

abbrev pub good_tasks : List Params → Bool
good_tasks [] = true
good_tasks (p ∷ ps) = good_task p && good_tasks ps

abbrev pub Good : List Params → Type 0
Good ps = good_tasks ps ≡ true

-- a link among n tasks: it joins two of them, and has four rules that divide
abbrev pub good_link : ℕ → Link → Bool
good_link n l = join n l.ends && (length l.rules == 4 && divide_all l.rules)

abbrev pub good_links : ℕ → List Link → Bool
good_links n [] = true
good_links n (l ∷ ls) = good_link n l && good_links n ls

-- each name lies within so many bytes
abbrev pub inside_all : ℕ → List Name → Bool
inside_all n [] = true
inside_all n (x ∷ xs) = nat_le (x.at + x.length) n && inside_all n xs

-- a byte that a name may have
abbrev pub is_letter : ℕ → Bool
is_letter b = nat_le 33 b && nat_le b 126

abbrev pub are_letters : List ℕ → Bool
are_letters [] = true
are_letters (b ∷ bs) = is_letter b && are_letters bs

-- a name among bytes: it lies within them, and is 1 to 15 letters
abbrev pub good_name : List ℕ → Name → Bool
good_name bs x =
    nat_le (x.at + x.length) (length bs) && (nat_le 1 x.length && (nat_le x.length 15 && are_letters (take x.length (drop x.at bs))))

abbrev pub good_names : List ℕ → List Name → Bool
good_names bs [] = true
good_names bs (x ∷ xs) = good_name bs x && good_names bs xs
