-- Structures that differ in the coding of their valuations alone: one is a restricted parametrized partial order if the
-- other is.
use Rattle.std.proofs.Common.{◌≡◌, ℕ, zero, suc, ◌<◌, List, [], ◌∷◌, sym, refl, subst, arith}
use Rattle.plans.specs.declared.ends.EventType.{EventType}
use Rattle.plans.specs.Ppo.{start, end, Structure, Valued, Inhabited, Valuation, Joins, Ppo, Next, Steps, Upto, Restricted, Precedes}
use Rattle.std.proofs.lemmas.Bool.Decides.{nat_tests}

-- the domains of a structure, and what its edges give
abbrev pub Domains : Type 1
Domains = ℕ → List (ℕ → Type 0)

abbrev pub Relation : Structure → Type 1
Relation a = a.Edge → List ℕ → List ℕ → Type 0

-- a structure with other domains, and precedence functions on them
abbrev pub recoded : (a : Structure) → Domains → Relation a → Structure
recoded a D G = record { tasks = a.tasks; domains = D; Edge = a.Edge; Has = a.Has; from = a.from; to = a.to; Gives = G }

-- A coding: each valuation of a task has one code, which is a valuation of it in the other structure, each valuation there
-- is the code of one, and the edges give the same.
pub record Coding (a : Structure) (D : Domains) (G : Relation a) : Type 1 where
  pub Code : ℕ → List ℕ → List ℕ → Type 0
  pub code : ℕ → List ℕ → List ℕ
  pub decode : ℕ → List ℕ → List ℕ
  pub coded : (t : ℕ) (v : List ℕ) → t < a.tasks → Valuation a t v → Code t v (code t v)
  pub decoded : (t : ℕ) (w : List ℕ) → t < a.tasks → Valued (D t) w → Code t (decode t w) w
  pub valued : (t : ℕ) (v w : List ℕ) → t < a.tasks → Code t v w → Valuation a t v
  pub code_valued : (t : ℕ) (v w : List ℕ) → t < a.tasks → Code t v w → Valued (D t) w
  pub one_code : (t : ℕ) (v w u : List ℕ) → t < a.tasks → Code t v w → Code t v u → w ≡ u
  pub one_valuation : (t : ℕ) (v u w : List ℕ) → t < a.tasks → Code t v w → Code t u w → v ≡ u
  pub typed : (e : a.Edge) (v w : List ℕ) → a.Has e → a.Gives e v w → Valuation a (a.from e).task v × Valuation a (a.to e).task w
  pub code_typed : (e : a.Edge) (v w : List ℕ) → a.Has e → G e v w → Valued (D (a.from e).task) v × Valued (D (a.to e).task) w
  pub gives : (e : a.Edge) (v w x y : List ℕ) → a.Has e → Code (a.from e).task v x → Code (a.to e).task w y → a.Gives e v w → G e x y
  pub given : (e : a.Edge) (v w x y : List ℕ) → a.Has e → Code (a.from e).task v x → Code (a.to e).task w y → G e x y → a.Gives e v w

abbrev pub flip : (a : Structure) (D : Domains) (G : Relation a) → Coding a D G → Coding (recoded a D G) a.domains a.Gives
flip a D G c =
    record {
      Code = λ t w v. c.Code t v w;
      code = c.decode;
      decode = c.code;
      coded = c.decoded;
      decoded = c.coded;
      valued = λ t w v. c.code_valued t v w;
      code_valued = λ t w v. c.valued t v w;
      one_code = λ t w v u. c.one_valuation t v u w;
      one_valuation = λ t w u v. c.one_code t v w u;
      typed = c.code_typed;
      code_typed = c.typed;
      gives = λ e x y v w. c.given e v w x y;
      given = λ e x y v w. c.gives e v w x y;
    }

-- each domain has a value where there is a valuation
chosen : (Ds : List (ℕ → Type 0)) → Inhabited Ds → (v : List ℕ) × Valued Ds v
chosen [] i = ([], tt)
chosen (D ∷ Ds) i = let r = chosen Ds i.1 in (i.0.0 ∷ r.0, (i.0.1, r.1))

inhabited_by : (Ds : List (ℕ → Type 0)) (v : List ℕ) → Valued Ds v → Inhabited Ds
inhabited_by [] [] h = tt
inhabited_by [] (v ∷ vs) h = absurd h
inhabited_by (D ∷ Ds) [] h = absurd h
inhabited_by (D ∷ Ds) (v ∷ vs) h = ((v, h.0), inhabited_by Ds vs h.1)

module _ (a : Structure) (D : Domains) (G : Relation a) (c : Coding a D G) where
  abbrev joins : (x y : EventType) → Joins a x y → Joins (recoded a D G) x y
  joins x y j = record { edge = j.edge; has = j.has; from = j.from; to = j.to }

  abbrev pub precedes : (x y : EventType) (v w v' w' : List ℕ) → c.Code x.task v v' → c.Code y.task w w' → Precedes a x v y w → Precedes (recoded a D G) x v' y w'
  precedes x y v w v' w' cv cw p =
      let j = p.0 in (
        joins x y j,
        c.gives j.edge v w v' w' j.has (subst (λ z. c.Code z.task v v') (sym j.from) cv) (subst (λ z. c.Code z.task w w') (sym j.to) cw) p.1,
      )

  next_typed : (t : ℕ) (v w : List ℕ) → Next a t v w → Valuation a t v × Valuation a t w
  next_typed t v w n = grind (arith, nat_tests)

  steps_typed : (t n : ℕ) (v w : List ℕ) → Steps a t n v w → Valuation a t w → Valuation a t v
  steps_typed t n v w s h = grind (arith, nat_tests)

  steps : (t n : ℕ) (v w v' w' : List ℕ) → t < a.tasks → c.Code t v v' → c.Code t w w' → Steps a t n v w → Steps (recoded a D G) t n v' w'
  steps t zero v w v' w' h cv cw s = c.one_code t v v' w' h cv (subst (λ u. c.Code t u w') (sym s) cw)
  steps t (suc n) v w v' w' h cv cw s =
      let x = s.0 in
      let cx = c.coded t x h (next_typed t v x s.1).1 in
      (c.code t x, precedes (end t) (start t) v x v' (c.code t x) cv cx s.1, steps t n x w (c.code t x) w' h cx cw s.2)

module _ (a : Structure) (D : Domains) (G : Relation a) (c : Coding a D G) (p : Ppo a) where
  abbrev other : Structure
  other = recoded a D G

  abbrev back : Coding other a.domains a.Gives
  back = flip a D G c

  pub ppo_recoded : Ppo (recoded a D G)
  ppo_recoded =
      record {
        inhabited = λ t h. (let v = chosen (a.domains t) (p.inhabited t h) in inhabited_by (D t) (c.code t v.0) (c.code_valued t v.0 (c.code t v.0) h (c.coded t v.0 h v.1)));
        known = p.known;
        once = p.once;
        typed = c.code_typed;
        function = λ e v w u h f g. (
            let k = p.known e h in
            let s = (a.from e).task in
            let t = (a.to e).task in
            let cv = c.decoded s v k.0 (c.code_typed e v w h f).0 in
            let cw = c.decoded t w k.1 (c.code_typed e v w h f).1 in
            let cu = c.decoded t u k.1 (c.code_typed e v u h g).1 in
            let same = p.function e (c.decode s v) (c.decode t w) (c.decode t u) h (c.given e (c.decode s v) (c.decode t w) v w h cv cw f) (c.given e (c.decode s v) (c.decode t u) v u h cv cu g) in
            c.one_code t (c.decode t u) w u k.1 (subst (λ x. c.Code t x w) same cw) cu);
        begins = λ t h. (
            let j = p.begins t h in (
              joins a D G c (start t) (end t) j.0,
              λ v val. (
                  let cv = c.decoded t v h val in
                  (precedes a D G c (start t) (end t) (c.decode t v) (c.decode t v) v v cv cv (j.0, j.1 (c.decode t v) (c.valued t (c.decode t v) v h cv))).1),
            ));
      }

  next_back : (t : ℕ) (v w v' w' : List ℕ) → c.Code t v v' → c.Code t w w' → Next other t v' w' → Next a t v w
  next_back t v w v' w' cv cw n = precedes other a.domains a.Gives back (end t) (start t) v' w' v w cv cw n

  module _ (r : Restricted a) where
    abbrev first : ℕ → List ℕ
    first t = c.code t (r.initial t)

    first_code : (t : ℕ) → t < a.tasks → c.Code t (r.initial t) (first t)
    first_code t h = c.coded t (r.initial t) h (r.valued t h)

    -- what comes next, back in the first structure
    pulled : (t : ℕ) (v w u : List ℕ) → t < a.tasks → c.Code t u w → Next other t v w → c.Code t (c.decode t v) v × Next a t (c.decode t v) u
    pulled t v w u h cu n =
        let cv = c.decoded t v h (next_typed other a.domains a.Gives back t v w n).0 in
        (cv, next_back t (c.decode t v) u v w cv cu n)

    foremost : (t : ℕ) (v : List ℕ) → t < a.tasks → Next other t v (first t) → ⊥
    foremost t v h n = r.foremost t (c.decode t v) h (pulled t v (first t) (r.initial t) h (first_code t h) n).1

    alone : (t : ℕ) (w : List ℕ) → t < a.tasks → Valuation other t w → ((v : List ℕ) → Next other t v w → ⊥) → w ≡ first t
    alone t w h val none =
        let u = c.decode t w in
        let cw = c.decoded t w h val in
        let same = r.alone t u h (c.valued t u w h cw) (λ v n.
        none (c.code t v) (precedes a D G c (end t) (start t) v u (c.code t v) w (c.coded t v h (next_typed a D G c t v u n).0) cw n)) in
        c.one_code t (r.initial t) w (first t) h (subst (λ x. c.Code t x w) same cw) (first_code t h)

    injective : (t : ℕ) (v w u : List ℕ) → t < a.tasks → Next other t v u → Next other t w u → v ≡ w
    injective t v w u h m n =
        let x = c.decode t u in
        let cu = c.decoded t u h (next_typed other a.domains a.Gives back t v u m).1 in
        let pv = pulled t v u x h cu m in
        let pw = pulled t w u x h cu n in
        let same = r.injective t (c.decode t v) (c.decode t w) x h pv.1 pw.1 in
        c.one_code t (c.decode t w) v w h (subst (λ y. c.Code t y v) same pv.0) pw.0

    reachable : (e : a.Edge) (v w : List ℕ) → a.Has e → G e v w → Upto other (a.from e).task (first (a.from e).task) v
    reachable e v w h g =
        let k = p.known e h in
        let s = (a.from e).task in
        let t = (a.to e).task in
        let cv = c.decoded s v k.0 (c.code_typed e v w h g).0 in
        let cw = c.decoded t w k.1 (c.code_typed e v w h g).1 in
        let n = r.reachable e (c.decode s v) (c.decode t w) h (c.given e (c.decode s v) (c.decode t w) v w h cv cw g) in
        (n.0, steps a D G c s n.0 (r.initial s) (c.decode s v) (first s) v k.0 (first_code s k.0) cv n.1)

    monotonic : (e : a.Edge) (v w u : List ℕ) → a.Has e → Upto other (a.from e).task v w → G e w u → (z : List ℕ) × G e v z × Upto other (a.to e).task z u
    monotonic e v w u h n g =
        let k = p.known e h in
        let s = (a.from e).task in
        let t = (a.to e).task in
        let val = c.code_typed e w u h g in
        let cv = c.decoded s v k.0 (steps_typed other a.domains a.Gives back s n.0 v w n.1 val.0) in
        let cw = c.decoded s w k.0 val.0 in
        let cu = c.decoded t u k.1 val.1 in
        let up = steps other a.domains a.Gives back s n.0 v w (c.decode s v) (c.decode s w) k.0 cv cw n.1 in
        let m = r.monotonic e (c.decode s v) (c.decode s w) (c.decode t u) h (n.0, up) (c.given e (c.decode s w) (c.decode t u) w u h cw cu g) in
        let z = c.code t m.0 in
        let cz = c.coded t m.0 k.1 (c.typed e (c.decode s v) m.0 h m.1).1 in
        (z, c.gives e (c.decode s v) m.0 v z h cv cz m.1, (m.2.0, steps a D G c t m.2.0 m.0 (c.decode t u) z u k.1 cz cu m.2.1))

    pub restricted_recoded : Restricted (recoded a D G)
    restricted_recoded =
        record {
          apart = r.apart;
          back = λ t h. joins a D G c (end t) (start t) (r.back t h);
          initial = first;
          valued = λ t h. c.code_valued t (r.initial t) (first t) h (first_code t h);
          foremost = foremost;
          alone = alone;
          injective = injective;
          reachable = reachable;
          monotonic = monotonic;
        }

-- two structures that differ in a coding alone
pub record Alike (a b : Structure) : Type 1 where
  pub domains : Domains
  pub Gives : Relation a
  pub same : recoded a domains Gives ≡ b
  pub coding : Coding a domains Gives

pub alike_back : (a b : Structure) → Alike a b → Alike b a
alike_back a b l =
    subst (λ x. Alike x a) l.same
    (record { domains = a.domains; Gives = a.Gives; same = refl; coding = flip a l.domains l.Gives l.coding })

pub ppo_alike : (a b : Structure) → Alike a b → Ppo a → Ppo b
ppo_alike a b l p = subst Ppo l.same (ppo_recoded a l.domains l.Gives l.coding p)

pub restricted_alike : (a b : Structure) → Alike a b → Ppo a → Restricted a → Restricted b
restricted_alike a b l p r = subst Restricted l.same (restricted_recoded a l.domains l.Gives l.coding p r)
