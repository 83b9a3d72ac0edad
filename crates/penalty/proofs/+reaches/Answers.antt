-- A product is followed down to its operands, which are there and smaller.
use mathlib.Core.Path.{◌≡◌, refl, sym, ◌∙◌, ap}
use mathlib.Core.Bool.{Bool, true, false, ◌||◌}
use native.Mathlib.Omega.{arith}
use Prim.Native.Nat.{ℕ, ◌≤◌, ◌<◌}
use borrow.Author.Tests.{eq-eqb, ne_eqb}
use Rattle.scheme.specs.declared.Scheme.{Scheme}
use Rattle.scheme.specs.Scheme.{left, right, variables}
use Rattle.scheme.specs.Valid.{Products}
use Rattle.penalty.specs.Weights.{reaches as defined}
use Rattle.penalty.proofs.Weights.{reaches_choice, reaches_product, reaches_below as no_later}
use Rattle.penalty.proofs.+reaches.Goals as goal
use Rattle.penalty.proofs.+reaches.Goals.{then-v-n-via-then-v-n, then-v-n-via-else-v-n+then-v-k}

-- by what its operands reach
module _ (n : ℕ) (s : Scheme) (products : Products n s) (k v : ℕ) (l : n ≤ v) (m : v < variables n s) where
  found : v ≡ k → true ≡ defined n s k v
  found e = sym (rw (reaches_product n s products k v l m, eq-eqb v k e))

  followed : (v ≡ k → ⊥) → (a b : Bool) → a ≡ defined n s k (left n s v) → b ≡ defined n s k (right n s v) → (a || b) ≡ defined n s k v
  followed d a b x y = sym (rw (reaches_product n s products k v l m, ne_eqb v k d, ← x, ← y))

  first : (v ≡ k → ⊥) → (a : Bool) → a ≡ true → a ≡ defined n s k (left n s v) → a ≡ defined n s k v
  first d a t x = t ∙ followed d true (defined n s k (right n s v)) (sym t ∙ x) refl

  second : (v ≡ k → ⊥) → (a b : Bool) → a ≡ false → a ≡ defined n s k (left n s v) → b ≡ defined n s k (right n s v) → b ≡ defined n s k v
  second d a b f x y = followed d false b (sym f ∙ x) y

pub returns-then-v-n : goal.returns-then-v-n
returns-then-v-n t c =
    let q = c.args.quadratization.now in
    elim c.then-v-n.branch [
      | then-v-n-via-then-v-n w ↦ sym (reaches_choice q.register.choices q.scheme c.args.k c.args.v w.if-v-n.true)
      | then-v-n-via-else-v-n+then-v-k w ↦ sym (no_later q.register.choices q.scheme q.scheme_valid.within.products c.args.k c.args.v c.requires w.if-v-k.true)
    ]

pub returns-then-v-k-2 : goal.returns-then-v-k-2
returns-then-v-k-2 t c =
    let q = c.args.quadratization.now in
    found q.register.choices q.scheme q.scheme_valid.within.products c.args.k c.args.v (omega arith) c.requires c.if-v-k-2.true

pub returns-then-reaches : goal.returns-then-reaches
returns-then-reaches t c =
    let q = c.args.quadratization.now in
    first q.register.choices q.scheme q.scheme_valid.within.products c.args.k c.args.v (omega arith) c.requires c.if-v-k-2.false _ c.if-reaches.true (c.reaches.ensures ∙ ap (defined q.register.choices q.scheme c.args.k) c.from.ensures)

pub returns-else-reaches : goal.returns-else-reaches
returns-else-reaches t c =
    let q = c.args.quadratization.now in
    second q.register.choices q.scheme q.scheme_valid.within.products c.args.k c.args.v (omega arith) c.requires c.if-v-k-2.false _ _ c.if-reaches.false (c.reaches.ensures ∙ ap (defined q.register.choices q.scheme c.args.k) c.from.ensures) (c.reaches-else-reaches.ensures ∙ ap (defined q.register.choices q.scheme c.args.k) c.from-else-reaches.ensures)
