-- The walk: where it goes on, how many partial plans it visits, and where the code's walk stops.
use mathlib.Core.Path.{◌≡◌, refl, sym, ◌∙◌}
use mathlib.Core.Bool.{Bool, true, false, true≢false, or-true}
use Prim.Native.Nat.{ℕ, zero, suc, ◌+◌, ◌^◌, ◌≤◌, ◌<◌}
use native.Mathlib.Nat.{pow-suc}
use native.Mathlib.Omega.{arith}
use lib.Pow.{pow_pos}
use native.Mathlib.Decide.{dec_le}
use lib.IntN.{ℤ}
use Rattle.integers.proofs.Lists.{flag}
use Rattle.search.specs.Walk.{Best, visited, better, is_left, walk}
use Rattle.search.specs.declared.Walked.{Walked}
use Rattle.search.specs.Lent.{walked_of, is_left_by, UpTo}

module _ (sum : ℕ → ℕ → ℤ) (fits : ℕ → Bool) where
  -- by the test for leaving, and at a full plan the test of full plans

  pub walk_left : (d fed : ℕ) (w : Best) → is_left (sum d fed) w ≡ true → walk sum fits d fed w ≡ visited w
  unfolding walk
  walk_left zero fed w e = rw e
  walk_left (suc d) fed w e = rw e

  pub walk_full : (fed : ℕ) (w : Best) → is_left (sum 0 fed) w ≡ false → fits fed ≡ true → walk sum fits 0 fed w ≡ better fed (sum 0 fed) (visited w)
  unfolding walk
  walk_full fed w e f = rw (e, f)

  pub walk_unfit : (fed : ℕ) (w : Best) → fits fed ≡ false → walk sum fits 0 fed w ≡ visited w
  unfolding walk
  walk_unfit fed w f = rw (f, or-true)

  pub walk_on : (d fed : ℕ) (w : Best) → is_left (sum (suc d) fed) w ≡ false → walk sum fits (suc d) fed w ≡ walk sum fits d (fed + 2 ^ d) (walk sum fits d fed (visited w))
  unfolding walk
  walk_on d fed w e = rw e

  -- at least one visit, and at most 2 to the power (d + 1), less 1
  pub walk_visits : (d fed : ℕ) (w : Best) → (w.visits + 1 ≤ (walk sum fits d fed w).visits) × ((walk sum fits d fed w).visits + 1 ≤ w.visits + 2 ^ suc d)
  walk_visits zero fed w = flag (is_left (sum 0 fed) w)
      (λ e. rw (walk_left 0 fed w e) (omega arith, omega arith))
      (λ e. flag (fits fed)
      (λ f. rw (walk_full fed w e f) (omega arith, omega arith))
      (λ f. rw (walk_unfit fed w f) (omega arith, omega arith)))
  walk_visits (suc d) fed w = flag (is_left (sum (suc d) fed) w)
      (λ e. rw (walk_left (suc d) fed w e) (omega arith, omega (arith, pow-suc 2 d, pow-suc 2 (suc d), pow_pos d)))
      (λ e.
      let u = walk sum fits d fed (visited w) in
      let a = walk_visits d fed (visited w) in
      let b = walk_visits d (fed + 2 ^ d) u in
      rw (walk_on d fed w e) (omega arith, omega (arith, pow-suc 2 (suc d))))

  -- where no full plan that fits has been met, none was met before, and nothing was left: the most visits

  pub unmet : (d fed : ℕ) (w : Best) → (walk sum fits d fed w).met ≡ false → w.met ≡ false
  unmet d fed w e = flag w.met (λ m. absurd (true≢false (sym (stays d fed w m) ∙ e))) (λ m. m)
    where
      stays : (d fed : ℕ) (w : Best) → w.met ≡ true → (walk sum fits d fed w).met ≡ true
      stays zero fed w m = flag (is_left (sum 0 fed) w)
          (λ e. rw (walk_left 0 fed w e) m)
          (λ e. flag (fits fed) (λ f. rw (walk_full fed w e f)) (λ f. rw (walk_unfit fed w f) m))
      stays (suc d) fed w m = flag (is_left (sum (suc d) fed) w)
          (λ e. rw (walk_left (suc d) fed w e) m)
          (λ e. rw (walk_on d fed w e) (stays d (fed + 2 ^ d) _ (stays d fed (visited w) m)))

  not_left : (s : ℤ) (w : Best) → w.met ≡ false → is_left s w ≡ false
  not_left s w m = rw m

  pub unmet_visits : (d fed : ℕ) (w : Best) → (walk sum fits d fed w).met ≡ false → (walk sum fits d fed w).visits + 1 ≡ w.visits + 2 ^ suc d
  unmet_visits zero fed w m =
      let e = not_left (sum 0 fed) w (unmet 0 fed w m) in
      flag (fits fed) (λ f. absurd (true≢false (rw (walk_full fed w e f) at m))) (λ f. rw (walk_unfit fed w f) (omega arith))
  unmet_visits (suc d) fed w m =
      let e = not_left (sum (suc d) fed) w (unmet (suc d) fed w m) in
      let n = rw (walk_on d fed w e) at m in
      let u = walk sum fits d fed (visited w) in
      rw (walk_on d fed w e) (omega (arith, pow-suc 2 (suc d), unmet_visits d (fed + 2 ^ d) u n, unmet_visits d fed (visited w) (unmet d (fed + 2 ^ d) u n)))

  -- ---- where the code stops, with the plan, the cost and the visits that it keeps

  module _ (limit : ℕ) where
    -- the first visit passes the limit
    pub up_to_first : (d fed : ℕ) (w : Best) → w.visits ≤ limit → limit < w.visits + 1 → UpTo limit (walk sum fits d fed w) (walked_of (visited w)) false
    up_to_first d fed w k l = record { same = λ m. absurd (omega (arith, walk_visits d fed w)); passed = λ m. (refl, omega arith); stops = omega arith }

    pub up_to_left : (d fed : ℕ) (w : Best) → w.visits + 1 ≤ limit → is_left (sum d fed) w ≡ true → UpTo limit (walk sum fits d fed w) (walked_of (visited w)) true
    up_to_left d fed w l e = rw (walk_left d fed w e) (record { same = λ m. (refl, refl); passed = λ m. absurd (omega arith); stops = omega arith })

    pub up_to_full : (fed : ℕ) (w : Best) → w.visits + 1 ≤ limit → is_left (sum 0 fed) w ≡ false → fits fed ≡ true →
        UpTo limit (walk sum fits 0 fed w) (walked_of (better fed (sum 0 fed) (visited w))) true
    up_to_full fed w l e f = rw (walk_full fed w e f) (record { same = λ m. (refl, refl); passed = λ m. absurd (omega arith); stops = omega arith })

    -- a full plan that does not fit changes nothing
    pub up_to_unfit : (fed : ℕ) (w : Best) → w.visits + 1 ≤ limit → fits fed ≡ false → UpTo limit (walk sum fits 0 fed w) (walked_of (visited w)) true
    up_to_unfit fed w l f = rw (walk_unfit fed w f) (record { same = λ m. (refl, refl); passed = λ m. absurd (omega arith); stops = omega arith })

    -- below the unfed choice the code has come to this
    module _ (d fed : ℕ) (w : Best) (walked : Walked) (ok : Bool) (e : is_left (sum (suc d) fed) w ≡ false) (h : UpTo limit (walk sum fits d fed (visited w)) walked ok) where
      abbrev pub u : Best
      u = walk sum fits d fed (visited w)

      -- a walk that stops has passed the limit
      past : ok ≡ false → limit < walked.visits
      past f = go (dec_le u.visits limit)
        where
          go : Dec (u.visits ≤ limit) → limit < walked.visits
          go (yes m) = absurd (true≢false (sym (h.same m).1 ∙ f))
          go (no m) = (h.passed (omega arith)).1

      pub up_to_unfed : ok ≡ false → UpTo limit (walk sum fits (suc d) fed w) walked ok
      up_to_unfed f = rw (walk_on d fed w e) (record {
        same = λ m. let k = walk_visits d (fed + 2 ^ d) u in absurd (true≢false (sym (h.same (omega arith)).1 ∙ f));
        passed = λ m. (f, past f);
        stops = h.stops;
      })

      -- it goes on from there
      pub up_to_same : ok ≡ true → walked ≡ walked_of u
      up_to_same z = go (dec_le u.visits limit)
        where
          go : Dec (u.visits ≤ limit) → walked ≡ walked_of u
          go (yes m) = (h.same m).0
          go (no m) = absurd (true≢false (sym z ∙ (h.passed (omega arith)).0))

      pub up_to_fed : (walked' : Walked) (ok' : Bool) → UpTo limit (walk sum fits d (fed + 2 ^ d) u) walked' ok' → UpTo limit (walk sum fits (suc d) fed w) walked' ok'
      up_to_fed walked' ok' k = rw (walk_on d fed w e) k

-- the test for leaving, by what the code keeps
pub left_held : (w : Best) (s : ℤ) → is_left_by (walked_of w).best s ≡ is_left s w
left_held w s = flag w.met (λ e. rw e) (λ e. rw e)
