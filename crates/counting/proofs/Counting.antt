-- How many products the builder forms, proved; and what the terms add up to where they name at most d choices, or each d.
use mathlib.Core.Path.{◌≡◌}
use Prim.Native.Nat.{ℕ, zero, suc, ◌*◌, ◌-◌, ◌≤◌}
use native.Mathlib.Nat.{mul-le-mul}
use native.Mathlib.Omega.{arith}
use Rattle.register.specs.declared.Register.{Register}
use Rattle.counting.specs.Counting.{Bounded, Apart, products_below, most_products, Counting}
use Rattle.counting.proofs.AtMost.{term_at_most, term_room, at_most, room}
use Rattle.counting.proofs.Unions.{no_union_there}
use Rattle.counting.proofs.Exactly.{term_made, exactly}

bounded_below : (m d : ℕ) (r : Register) → Bounded m d r → (t : ℕ) → t ≤ r.terms → products_below r t ≤ most_products t d
bounded_below m d r b zero l = omega arith
bounded_below m d r b (suc t) l = omega (arith, bounded_below m d r b t (omega arith), b.degrees t (omega arith))

bounded : (m d : ℕ) (r : Register) → Bounded m d r → products_below r r.terms ≤ most_products m d
bounded m d r b = let l : r.terms * (d - 2) ≤ m * (d - 2) = mul-le-mul b.few (omega arith) in omega (arith, bounded_below m d r b r.terms (omega arith))

apart_below : (d : ℕ) (r : Register) → Apart d r → (t : ℕ) → t ≤ r.terms → products_below r t ≡ most_products t d
apart_below d r a zero l = omega arith
apart_below d r a (suc t) l = omega (arith, apart_below d r a t (omega arith), a.degrees t (omega arith))

pub counting : Counting
counting = record {
  term_at_most = term_at_most;
  term_exactly = λ n sch after m lengths names none e. omega (arith, (term_made n m sch after lengths names none e).exact);
  no_union_there = no_union_there;
  term_room = term_room;
  at_most = at_most;
  exactly = exactly;
  room = λ r few narrow. room r few (omega arith);
  bounded = bounded;
  apart = λ d r a. apart_below d r a r.terms (omega arith);
}
