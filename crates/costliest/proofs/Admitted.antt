-- When a costliest register is refused: the test and the conditions say the same.
use Prim.Native.Nat.{ℕ, ◌*◌, ◌≤◌, ◌<◌}
use native.Mathlib.Omega.{arith}
use native.Mathlib.Decide.{ℕ_discrete, dec_lt}
use mathlib.Core.Path.{◌≡◌, refl}
use mathlib.Core.Logic.{◌⊎◌, inl, inr}
use mathlib.Core.Bool.{Bool, true, false, ◌||◌, false≢true}
use lib.Dec.{eqb, ltb}
use borrow.Author.Tests.{eq-eqb, ne_eqb, lt-ltb, le-ltb, ltb-false}
use Rattle.integers.proofs.Lists.{or_none}
use Rattle.costliest.specs.Limits.{min_degree, max_named}
use Rattle.costliest.specs.Costliest.{is_refused, Outside, Admitted}

module _ (m d : ℕ) where
  or_last : (a b : Bool) → b ≡ true → (a || b) ≡ true
  or_last true b e = refl
  or_last false b e = e

  pub refused_when : Outside m d → is_refused m d ≡ true
  unfolding is_refused
  refused_when (inl e) = rw (eq-eqb m 0 e) refl
  refused_when (inr (inl l)) = rw (or_last (eqb m 0) (ltb d min_degree) (lt-ltb d min_degree l)) refl
  refused_when (inr (inr (inl l))) = rw (or_last (eqb m 0 || ltb d min_degree) (ltb max_named d) (lt-ltb max_named d l)) refl
  refused_when (inr (inr (inr l))) = or_last (eqb m 0 || ltb d min_degree || ltb max_named d) (ltb max_named (m * d)) (lt-ltb max_named (m * d) l)

  pub admitted_when : is_refused m d ≡ false → Admitted m d
  unfolding is_refused
  admitted_when e =
      let a = or_none (eqb m 0 || ltb d min_degree || ltb max_named d) (ltb max_named (m * d)) e in
      let b = or_none (eqb m 0 || ltb d min_degree) (ltb max_named d) a.0 in
      let c = or_none (eqb m 0) (ltb d min_degree) b.0 in
      record {
        some_term = some c.0;
        deep = ltb-false d min_degree c.1;
        narrow = ltb-false max_named d b.1;
        small = ltb-false max_named (m * d) a.1;
      }
    where
      some : eqb m 0 ≡ false → 1 ≤ m
      some q = go (ℕ_discrete m 0)
        where
          go : Dec (m ≡ 0) → 1 ≤ m
          go (yes z) = let o = eq-eqb m 0 z in let w : ◌≡◌ {A = Bool} false true = cc in absurd (false≢true w)
          go (no z) = omega (arith, z)

  pub not_refused : Admitted m d → is_refused m d ≡ false
  unfolding is_refused
  not_refused a = rw (ne_eqb m 0 (λ e. omega (arith, a.some_term)), le-ltb d min_degree a.deep, le-ltb max_named d a.narrow, le-ltb max_named (m * d) a.small) refl

  pub decided : Outside m d ⊎ Admitted m d
  decided = go (ℕ_discrete m 0) (dec_lt d min_degree) (dec_lt max_named d) (dec_lt max_named (m * d))
    where
      go : Dec (m ≡ 0) → Dec (d < min_degree) → Dec (max_named < d) → Dec (max_named < m * d) → Outside m d ⊎ Admitted m d
      go (yes e) b c f = inl (inl e)
      go (no e) (yes l) c f = inl (inr (inl l))
      go (no e) (no k) (yes l) f = inl (inr (inr (inl l)))
      go (no e) (no k) (no h) (yes l) = inl (inr (inr (inr l)))
      go (no e) (no k) (no h) (no l) = inr (record { some_term = omega (arith, e); deep = omega arith; narrow = omega arith; small = omega arith })
