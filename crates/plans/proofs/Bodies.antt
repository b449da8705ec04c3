-- A record read part by part.
use Rattle.std.proofs.Common.{◌≡◌, ℕ, List, Ok, Err, ap, ◌∙◌}
use Rattle.plans.specs.declared.fault.Fault.{Fault}
use Rattle.plans.specs.declared.shapes.Params.{Params}
use Rattle.plans.specs.declared.shapes.Link.{Link}
use Rattle.plans.specs.declared.shapes.Name.{Name}
use Rattle.plans.specs.declared.shapes.Counts.{Counts}
use Rattle.plans.specs.Reads.{Read, on_ok, next, times, give}
use Rattle.plans.specs.Layout.{task, link, padding, name, body, counts, ended, fields, Parts}

pub next_ok : {A B : Type 0} (m : Read A) (f : A → Read B) (at : ℕ) (x : A) (mid : ℕ) → m at ≡ Ok (x, mid) → next m f at ≡ f x mid
next_ok m f at x mid h = ap (λ r. on_ok r (λ q. f q.0 q.1)) h

pub body_read : (bs : List ℕ) (n : Counts) (at a b c d : ℕ) (ts : List Params) (ls : List Link) (ns : List Name) (u : Unit {0})
    → times n.tasks (task bs) at ≡ Ok (ts, a) → times n.links (link bs ts) a ≡ Ok (ls, b) → padding bs b ≡ Ok (u, c) → times n.tasks (name bs) c ≡ Ok (ns, d)
    → body bs n at ≡ Ok (record { tasks = ts; links = ls; names = ns }, d)
body_read bs n at a b c d ts ls ns u rt rl rp rn =
    next_ok (times n.tasks (task bs)) (λ ts. next (times n.links (link bs ts)) (λ ls.
    next (padding bs) (λ _. next (times n.tasks (name bs)) (λ ns. give (record { tasks = ts; links = ls; names = ns }))))) at ts a rt
    ∙ next_ok (times n.links (link bs ts)) (λ ls.
    next (padding bs) (λ _. next (times n.tasks (name bs)) (λ ns. give (record { tasks = ts; links = ls; names = ns })))) a ls b rl
    ∙ next_ok (padding bs) (λ _. next (times n.tasks (name bs)) (λ ns. give (record { tasks = ts; links = ls; names = ns }))) b u c rp
    ∙ next_ok (times n.tasks (name bs)) (λ ns. give (record { tasks = ts; links = ls; names = ns })) c ns d rn

-- the whole, of fields that are read from a first bit that is 0
module _ (bs bs1 bs2 : List ℕ) (at a b : ℕ) (s1 : bs1 ≡ bs) (first : at ≡ 0) (s2 : bs2 ≡ bs) where
  pub fault_in_counts : (e : Fault) → counts bs1 at ≡ Err e → fields bs ≡ Err e
  fault_in_counts e h = let f = rw (s1, first) at h in ap (λ r. on_ok (on_ok r (λ q. next (body bs q.0) (λ p. next (ended bs) (λ _. give p)) q.1)) (λ r. Ok r.0)) f

  pub after_counts : (n : Counts) → counts bs1 at ≡ Ok (n, a) → fields bs ≡ on_ok (next (body bs n) (λ p. next (ended bs) (λ _. give p)) a) (λ r. Ok r.0)
  after_counts n h = let f = rw (s1, first) at h in ap (λ r. on_ok (on_ok r (λ q. next (body bs q.0) (λ p. next (ended bs) (λ _. give p)) q.1)) (λ r. Ok r.0)) f

  pub fault_in_body : (n : Counts) (e : Fault) → counts bs1 at ≡ Ok (n, a) → body bs2 n a ≡ Err e → fields bs ≡ Err e
  fault_in_body n e h i = let f = rw s2 at i in after_counts n h ∙ ap (λ r. on_ok (on_ok r (λ q. next (ended bs) (λ _. give q.0) q.1)) (λ r. Ok r.0)) f

  pub after_body : (n : Counts) (p : Parts) → counts bs1 at ≡ Ok (n, a) → body bs2 n a ≡ Ok (p, b) → fields bs ≡ on_ok (next (ended bs) (λ _. give p) b) (λ r. Ok r.0)
  after_body n p h i = let f = rw s2 at i in after_counts n h ∙ ap (λ r. on_ok (on_ok r (λ q. next (ended bs) (λ _. give q.0) q.1)) (λ r. Ok r.0)) f
