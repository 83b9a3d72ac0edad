-- `search::walk` meets its contract. The number of undecided choices falls at each call.
use Prim.Native.Nat.{ℕ, ◌+◌, ◌-◌, ◌*◌, ◌%◌, ◌^◌, ◌≤◌}
use native.Mathlib.Omega.{arith}
use mathlib.Core.Path.{◌≡◌, refl, sym, ◌∙◌, ap}
use mathlib.Core.Bool.{Bool, true, false}
use mathlib.Core.List.{List}
use lib.IntN.{ℤ}
use lib.ListN.{get_or}
use lib.Pow.{pow_pos}
use mir.Syntax.{w64}
use mir.Val.{to_z, of_z}
use Rattle.std.proofs.Common.{Some}
use Rattle.std.proofs.lemmas.Result.{err_from_is_err_and}
use Rattle.register.specs.Limits.{max_terms}
use Rattle.search.specs.declared.lists.Change.{Change}
use Rattle.search.specs.declared.Walked.{Walked}
use Rattle.search.specs.Walk.{Best, visited, is_left, walk as defined}
use Rattle.search.specs.Lent.{lent_sum, change_of, At, is_left_by, walked_of, UpTo}
use Rattle.search.proofs.Going.{shifted, own, halves, lost_said, gained_said, unfed_fits, fed_fits, unfed_next, fed_next}
use Rattle.search.proofs.Walks.{up_to_first, up_to_left, up_to_full, up_to_unfit, up_to_unfed, up_to_same, up_to_fed, left_held}
use Rattle.search.proofs.+walk.Goals as goal

-- one visit more
visit : (w : Best) {walked : Walked} → walked ≡ walked_of w → record { best = walked.best; visits = walked.visits + 1 } ≡ walked_of (visited w)
visit w e = rw e

-- where choice n − 1 is decided, with n undecided before: what is known where the code has come to this below the unfed choice
module _ (S : ℕ → ℕ → ℤ) (F : ℕ → Bool) (limit n fed : ℕ) (w : Best) (walked : Walked) (ok : Bool) (l : 1 ≤ n) (e : is_left (S n fed) w ≡ false)
    (h : UpTo limit (defined S F (n - 1) fed (visited w)) walked ok) where
  stops : ok ≡ false → UpTo limit (defined S F n fed w) walked ok
  stops z = let f = (halves n l).0 in rw (← f) (up_to_unfed S F limit (n - 1) fed w walked ok (rw f e) h z)

  same : ok ≡ true → walked ≡ walked_of (defined S F (n - 1) fed (visited w))
  same z = let f = (halves n l).0 in up_to_same S F limit (n - 1) fed w walked ok (rw f e) h z

  goes_on : (walked' : Walked) (ok' : Bool) → UpTo limit (defined S F (n - 1) (fed + 2 ^ (n - 1)) (defined S F (n - 1) fed (visited w))) walked' ok' → UpTo limit (defined S F n fed w) walked' ok'
  goes_on walked' ok' k = let f = (halves n l).0 in rw (← f) (up_to_fed S F limit (n - 1) fed w walked ok (rw f e) h walked' ok' k)

-- a full plan
full : (S : ℕ → ℕ → ℤ) (F : ℕ → Bool) (limit n fed : ℕ) (w : Best) {z : ℤ} → w.visits + 1 ≤ limit → n ≡ 0 → z ≡ S n fed → is_left (S n fed) w ≡ false → F fed ≡ true →
    UpTo limit (defined S F n fed w) (record { best = Some (record { plan = fed; cost = z }); visits = w.visits + 1 }) true
full S F limit n fed w l m e f t = rw (e, m) (up_to_full S F limit fed w l (rw m at f) t)

-- one that does not fit
unfit : (S : ℕ → ℕ → ℤ) (F : ℕ → Bool) (limit n fed : ℕ) (w : Best) → w.visits + 1 ≤ limit → n ≡ 0 → F fed ≡ false → UpTo limit (defined S F n fed w) (walked_of (visited w)) true
unfit S F limit n fed w l m t = rw m (up_to_unfit S F limit fed w l t)

module _ {masks : List ℕ} {coefficients : List ℤ} {counts : List ℕ} {n fed : ℕ} {s : ℤ} (a : At masks coefficients counts n fed s) where
  -- the test for leaving is that of the sum at the partial plan
  left_is : (w : Best) {walked : Walked} → walked ≡ walked_of w → is_left_by walked.best (to_z w64 (of_z w64 s)) ≡ is_left (lent_sum a.base a.terms n fed) w
  left_is w e = rw (e, own a) (left_held w s ∙ ap (λ x. is_left x w) a.sum_is)

  -- how the sum changes, as the code computes it
  change_is : 1 ≤ n → {change : Change} → change ≡ change_of masks coefficients ((n - 1) * max_terms) (get_or counts (n - 1) 0) (fed + 1 * 2 ^ (n - 1) % 18446744073709551616 + (1 * 2 ^ (n - 1) % 18446744073709551616 - 1)) (fed + 1 * 2 ^ (n - 1) % 18446744073709551616) →
      change ≡ change_of masks coefficients ((n - 1) * max_terms) (get_or counts (n - 1) 0) (fed + 2 ^ (n - 1) + (2 ^ (n - 1) - 1)) (fed + 2 ^ (n - 1))
  change_is l e = rw (shifted (n - 1) (omega (arith, a.few))) at e

pub returns-then-limit-walked-clause-reached : goal.returns-then-limit-walked-clause-reached
returns-then-limit-walked-clause-reached t c =
    λ a w e.
    let v = ap (λ (x : Walked). x.visits) e in
    rw e (up_to_first _ _ c.args.limit c.args.undecided c.args.fed w (omega arith) (omega arith))

pub returns-then-is_left-clause-reached : goal.returns-then-is_left-clause-reached
returns-then-is_left-clause-reached t c =
    λ a w e.
    let v = ap (λ (x : Walked). x.visits) e in
    rw e (up_to_left _ _ c.args.limit c.args.undecided c.args.fed w (omega arith) (sym (left_is a w e) ∙ sym c.is_left.ensures ∙ c.if-is_left.true))

pub returns-else-fits_rows-clause-reached : goal.returns-else-fits_rows-clause-reached
returns-else-fits_rows-clause-reached t c =
    λ a w e.
    let v = ap (λ (x : Walked). x.visits) e in
    rw e (unfit _ _ c.args.limit c.args.undecided c.args.fed w (omega arith) c.if-undecided-eq0.true (sym c.fits_rows.ensures ∙ c.if-fits_rows.false))

pub returns-then-fits_rows-clause-reached : goal.returns-then-fits_rows-clause-reached
returns-then-fits_rows-clause-reached t c =
    λ a w e.
    let v = ap (λ (x : Walked). x.visits) e in
    rw v (full _ _ c.args.limit c.args.undecided c.args.fed w (omega arith) c.if-undecided-eq0.true (own a ∙ a.sum_is) (sym (left_is a w e) ∙ sym c.is_left.ensures ∙ c.if-is_left.false) (sym c.fits_rows.ensures ∙ c.if-fits_rows.true))

pub overflow_add-more : goal.overflow_add-more
overflow_add-more t c =
    let n = c.args.undecided in
    let l : 1 ≤ n = omega arith in
    let f = c.requires.at.few in
    rw (shifted (n - 1) (omega arith)) (record { fits = omega (arith, c.requires.at.inside, (halves n l).1, pow_pos (n - 1)) })

pub overflow_add-possible : goal.overflow_add-possible
overflow_add-possible t c =
    let n = c.args.undecided in
    let l : 1 ≤ n = omega arith in
    let f = c.requires.at.few in
    rw (shifted (n - 1) (omega arith)) (record { fits = omega (arith, c.requires.at.inside, (halves n l).1, pow_pos (n - 1)) })

pub overflow_sub-unfed_sum : goal.overflow_sub-unfed_sum
overflow_sub-unfed_sum t c =
    let a = c.requires.at in
    let l : 1 ≤ c.args.undecided = omega arith in
    unfed_fits a l (lost_said a l c.change_of-change.result (change_is a l c.change_of-change.ensures) c.from.ensures)

pub overflow_add-fed_sum : goal.overflow_add-fed_sum
overflow_add-fed_sum t c =
    let a = c.requires.at in
    let l : 1 ≤ c.args.undecided = omega arith in
    fed_fits a l (gained_said a l c.change_of-change.result (change_is a l c.change_of-change.ensures) c.from-2.ensures)

pub walk-requires : goal.walk-requires
walk-requires t c =
    let a = c.requires.at in
    let q = c.requires in
    let l : 1 ≤ c.args.undecided = omega arith in
    let x = lost_said a l c.change_of-change.result (change_is a l c.change_of-change.ensures) c.from.ensures in
    (omega arith, (unfed_next a l x, (q.choices_within, (q.rows_within, (c.if-limit-walked.false, q.limit_bound)))))

pub returns-in_err-walk-clause-reached : goal.returns-in_err-walk-clause-reached
returns-in_err-walk-clause-reached t c =
    λ a w e.
    let l : 1 ≤ c.args.undecided = omega arith in
    let x = lost_said a l c.change_of-change.result (change_is a l c.change_of-change.ensures) c.from.ensures in
    let below = c.in_err-walk.ensures.reached (unfed_next a l x) (visited w) (visit w e) in
    let p = err_from_is_err_and c.from_residual.result c.from_residual.ensures.1 in
    rw p.1
    (stops _ _ c.args.limit c.args.undecided c.args.fed w _ _ l (sym (left_is a w e) ∙ sym c.is_left.ensures ∙ c.if-is_left.false) below refl)

pub walk-requires-2 : goal.walk-requires-2
walk-requires-2 t c =
    let a = c.requires.at in
    let q = c.requires in
    let f = a.few in
    let l : 1 ≤ c.args.undecided = omega arith in
    let x = gained_said a l c.change_of-change.result (change_is a l c.change_of-change.ensures) c.from-2.ensures in
    (omega arith, (rw (shifted (c.args.undecided - 1) (omega arith)) (fed_next a l x), (q.choices_within, (q.rows_within, (c.in_ok-walk.ensures.within, q.limit_bound)))))

pub returns-clause-reached : goal.returns-clause-reached
returns-clause-reached t c =
    λ a w e.
    let f = a.few in
    let l : 1 ≤ c.args.undecided = omega arith in
    let i = change_is a l c.change_of-change.ensures in
    let x = lost_said a l c.change_of-change.result i c.from.ensures in
    let y = gained_said a l c.change_of-change.result i c.from-2.ensures in
    let stays = sym (left_is a w e) ∙ sym c.is_left.ensures ∙ c.if-is_left.false in
    let below = c.in_ok-walk.ensures.reached (unfed_next a l x) (visited w) (visit w e) in
    let held = same _ _ c.args.limit c.args.undecided c.args.fed w _ _ l stays below refl in
    goes_on _ _ c.args.limit c.args.undecided c.args.fed w _ _ l stays below _ _
    ((rw (shifted (c.args.undecided - 1) (omega arith)) at c.walk-2.ensures.reached) (fed_next a l y) _ held)
