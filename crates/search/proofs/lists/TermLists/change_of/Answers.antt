-- `search::lists::TermLists::change_of` meets its contract.
use Prim.Native.Nat.{ℕ, ◌+◌, ◌*◌, ◌≤◌, ◌<◌}
use mathlib.Core.Path.{◌≡◌, sym}
use mathlib.Core.List.{List}
use lib.IntN.{ℤ, pos, nat_abs, ◌+ℤ◌}
use lib.ListN.{get_or}
use mir.Syntax.{w32}
use mir.Val.{SFits, to_z, of_z}
use mir.Facts.{to_z-of_z}
use Rattle.std.proofs.Common.{arith}
use Rattle.std.proofs.lemmas.Int.{ints}
use Rattle.integers.proofs.Machine.{fits_signed}
use Rattle.register.specs.Limits.{max_terms, max_coefficient}
use Rattle.search.specs.Lent.{term_lost, term_gained, change_to}
use Rattle.search.proofs.Sums.{lost_small, gained_small, change_to-zero, change_to-next, change_to_small}
use Rattle.search.proofs.lists.TermLists.change_of.Goals as goal

-- what is lost and what is gained alike: a total over the first places fits
fits : (adds : ℤ → ℕ → ℕ → ℤ) → ((c : ℤ) (m s : ℕ) → nat_abs (adds c m s) ≤ nat_abs c) → (masks : List ℕ) (coefficients : List ℤ) (from set count : ℕ) → count ≤ max_terms →
    ((j : ℕ) → j < count → nat_abs (get_or coefficients (from + j) (pos 0)) ≤ max_coefficient) → (j : ℕ) → j < count → SFits w32 (change_to adds masks coefficients from set (j + 1))
fits adds small masks coefficients from set count few within j l =
    fits_signed w32 (change_to adds masks coefficients from set (j + 1)) (omega (arith, change_to_small adds masks coefficients from set small count within (j + 1) (omega arith)))

pub loop-j-init : goal.loop-j-init
loop-j-init c = record { lost = sym (change_to-zero _ _ _ _ _); gained = sym (change_to-zero _ _ _ _ _) }

pub overflow_add-lost : goal.overflow_add-lost
overflow_add-lost c =
    let s = c.args.self.now in
    let from = c.args.k * max_terms in
    let e : to_z w32 c.loop-j.lost-bits +ℤ to_z w32 (of_z w32 c.lost_by-lost.result) ≡ change_to term_lost s.masks s.coefficients from c.args.possible (c.loop-j.j + 1) = grind (arith, ints, to_z-of_z, change_to-next) in
    rw e (fits term_lost lost_small s.masks s.coefficients from c.args.possible _ c.requires.count_within c.requires.small c.loop-j.j c.loop-j-test.true)

pub overflow_add-gained : goal.overflow_add-gained
overflow_add-gained c =
    let s = c.args.self.now in
    let from = c.args.k * max_terms in
    let e : to_z w32 c.loop-j.gained-bits +ℤ to_z w32 (of_z w32 c.gained_by-gained.result) ≡ change_to term_gained s.masks s.coefficients from c.args.fed (c.loop-j.j + 1) = grind (arith, ints, to_z-of_z, change_to-next) in
    rw e (fits term_gained gained_small s.masks s.coefficients from c.args.fed _ c.requires.count_within c.requires.small c.loop-j.j c.loop-j-test.true)

pub loop-j-preserved : goal.loop-j-preserved
loop-j-preserved c =
    let s = c.args.self.now in
    let from = c.args.k * max_terms in
    let e : to_z w32 c.loop-j.lost-bits +ℤ to_z w32 (of_z w32 c.lost_by-lost.result) ≡ change_to term_lost s.masks s.coefficients from c.args.possible (c.loop-j.j + 1) = grind (arith, ints, to_z-of_z, change_to-next) in
    let f : to_z w32 c.loop-j.gained-bits +ℤ to_z w32 (of_z w32 c.gained_by-gained.result) ≡ change_to term_gained s.masks s.coefficients from c.args.fed (c.loop-j.j + 1) = grind (arith, ints, to_z-of_z, change_to-next) in
    record {
      lost = rw e (to_z-of_z (fits term_lost lost_small s.masks s.coefficients from c.args.possible _ c.requires.count_within c.requires.small c.loop-j.j c.loop-j-test.true));
      gained = rw f (to_z-of_z (fits term_gained gained_small s.masks s.coefficients from c.args.fed _ c.requires.count_within c.requires.small c.loop-j.j c.loop-j-test.true));
    }
