-- A job whose scheme has another factor leads to the same, but for that factor and for where parts 3 and 4 stand, in which alone it may be
-- refused.
use Prim.Native.Nat.{ℕ, ◌+◌, ◌≤◌}
use native.Mathlib.Omega.{arith}
use mathlib.Core.Path.{◌≡◌, refl, sym, ap, ◌∙◌}
use mathlib.Core.Bool.{Bool, true, false, cond}
use mathlib.Core.List.{List, [], ◌∷◌}
use lib.Dec.{ltb}
use lib.IntN.{ℤ}
use lib.ListN.{length, drop}
use borrow.Author.Tests.{ltb-true, ltb-false, lt-ltb, le-ltb}
use Rattle.integers.specs.Lists.{All}
use Rattle.integers.proofs.Lists.{flag, ◌▹◌}
use Rattle.wire.specs.Part.{Reading, refused, accepted}
use Rattle.wire.specs.Rows.{Progress}
use Rattle.wire.specs.Outcome.{Outcome, refuses, accepts, next, and_then, starting_at}
use Rattle.register.specs.declared.Register.{Register}
use Rattle.register.specs.Register.{has_range}
use Rattle.register.specs.Format.{register_in_job}
use Rattle.scheme.specs.declared.Scheme.{Scheme}
use Rattle.scheme.specs.Scheme.{with_factor}
use Rattle.scheme.specs.Format.{scheme_in_job}
use Rattle.scheme.specs.Valid.{Factor}
use Rattle.scheme.proofs.OtherFactor.{valid_with_factor}
use Rattle.bound.specs.Format.{certificate_in_job}
use Rattle.bound.proofs.OtherFactor.{certificate_in_job_with_factor, residual_with_factor, carried_with_factor}
use Rattle.plan.specs.Format.{plan_in_job}
use Rattle.job.specs.Outcome.{Parts, JobPart, with_scheme, with_certificate, with_plan, coefficients, part_three, part_four, before, in_turn, ended, last_of, outcome, table_after}
use Rattle.job.specs.Rest.{rest, table_of_rest, first_two}
use Rattle.job.specs.Valid.{Valid}
use Rattle.job.proofs.Changed.{ReadAlike, added_alike, alike_before, changed, after_changed, table_changed}
use Rattle.job.proofs.Moved.{moved, after_moved, table_moved}
use Rattle.job.proofs.FirstTwo.{later}

-- parts whose scheme has this factor
abbrev pub parts_with_factor : ℕ → Parts → Parts
parts_with_factor f p = with_scheme p (with_factor p.scheme f)

module _ (f : ℕ) where
  -- they are valid as well
  pub parts_valid : Factor f → (p : Parts) → Valid p → Valid (parts_with_factor f p)
  parts_valid h p v = record {
    register = v.register;
    scheme = valid_with_factor p.scheme f p.register h v.scheme;
    certificate = carried_with_factor (coefficients p) p.register p.scheme f p.certificate v.certificate;
    plan = v.plan;
  }

  -- ---- the parts after part 2 are read alike

  alike_three : ReadAlike (parts_with_factor f) part_three
  alike_three p t =
      added_alike (parts_with_factor f) (with_certificate p) (with_certificate (parts_with_factor f p)) (λ a. refl)
      (certificate_in_job (coefficients p) p.register p.scheme t) _ (certificate_in_job_with_factor (coefficients p) p.register p.scheme f t)

  alike_four : ReadAlike (parts_with_factor f) part_four
  alike_four p t = added_alike (parts_with_factor f) (with_plan p) (with_plan (parts_with_factor f p)) (λ a. refl) (plan_in_job p.register t) _ refl

  later_alike : (reg : Register) → All (ReadAlike (parts_with_factor f)) (later reg)
  later_alike reg = flag (has_range reg) (λ t. rw t (alike_four ▹ alike_three ▹ tt)) (λ t. rw t (alike_three ▹ alike_four ▹ tt))

-- ---- these are parts 3 and 4, and so is each part in which a job is refused from there on

abbrev LatePart : JobPart → Type 0
LatePart k = 3 ≤ k.number

later_late : (reg : Register) → All LatePart (later reg) × (3 ≤ last_of 1 (later reg))
later_late reg = flag (has_range reg) (λ t. rw t ((omega arith ▹ omega arith ▹ tt), omega arith)) (λ t. rw t ((omega arith ▹ omega arith ▹ tt), omega arith))

abbrev pub Late : {A : Type 0} → Outcome A → Type 0
Late (refuses number part at) = 3 ≤ part
Late (accepts a) = Unit {0}

module _ (s : List ℕ) where
  turn_late : (ks : List JobPart) → All LatePart ks → (p : Parts) (from : ℕ) → Late (in_turn ks s p from)
  turn_late [] h p from = tt
  turn_late (k ∷ ks) h p from = go (k.reads p (drop from s)) (turn_late ks h.1)
    where
      go : (x : Reading Parts) → ((p : Parts) (from : ℕ) → Late (in_turn ks s p from)) → Late (next k.number (starting_at from x) (in_turn ks s))
      go (refused number at) after = h.0
      go (accepted read end) after = after read (from + end)

  rest_late : (ks : List JobPart) → All LatePart ks × (3 ≤ last_of 1 ks) → (p : Parts) (from : ℕ) → Late (rest s ks p from)
  rest_late ks h p from = go (in_turn ks s p from) (turn_late ks h.0 p from)
    where
      close : (b : Bool) (p : Parts) (end : ℕ) → Late (cond b (refuses 12 (last_of 1 ks) end) (accepts p))
      close true p end = h.1
      close false p end = tt

      go : (x : Outcome (Parts × ℕ)) → Late x → Late (and_then x (ended (last_of 1 ks) s))
      go (refuses number part at) l = l
      go (accepts (p, end)) l = close (ltb end (length s)) p end

-- ---- a job by its first two parts

module _ (s : List ℕ) (one : Progress Register) (n₁ : ℕ) (register : register_in_job s ≡ accepted one n₁) (two : Progress Scheme) (n₂ : ℕ) (scheme : scheme_in_job one.parsed (drop n₁ s) ≡ accepted two n₂) where
  then_outcome : outcome s ≡ rest s (later one.parsed) (first_two one.parsed two.parsed) (n₁ + n₂)
  unfolding outcome
  then_outcome = rw register (flag (has_range one.parsed) (λ t. rw (t, scheme) refl) (λ t. rw (t, scheme) refl))

  then_table : (lent : List ℤ) → table_after s lent ≡ table_of_rest s (later one.parsed) (first_two one.parsed two.parsed) (n₁ + n₂) lent
  unfolding table_after
  then_table lent = rw register (flag (has_range one.parsed) (λ t. rw (t, scheme) refl) (λ t. rw (t, scheme) refl))

-- ---- two jobs with the same part 1, with schemes that differ in the factor, and with the same bytes after these, d bytes further on in the other

pub record Alike (s s' : List ℕ) (f d : ℕ) : Type 0 where
  pub one : Progress Register
  pub n₁ : ℕ
  pub register : register_in_job s ≡ accepted one n₁
  pub register' : register_in_job s' ≡ accepted one n₁
  pub two : Progress Scheme
  pub two' : Progress Scheme
  pub n₂ : ℕ
  pub scheme : scheme_in_job one.parsed (drop n₁ s) ≡ accepted two n₂
  pub scheme' : scheme_in_job one.parsed (drop n₁ s') ≡ accepted two' (n₂ + d)
  pub factor : two'.parsed ≡ with_factor two.parsed f
  pub long : length s' ≡ length s + d
  pub after : drop (n₁ + n₂ + d) s' ≡ drop (n₁ + n₂) s

module _ (s s' : List ℕ) (f d : ℕ) (a : Alike s s' f d) where
  abbrev reg : Register
  reg = a.one.parsed

  abbrev p : Parts
  p = first_two reg a.two.parsed

  abbrev from : ℕ
  from = a.n₁ + a.n₂

  further : (from end : ℕ) → (from + end) + d ≡ (from + d) + end
  further from end = omega arith

  past_end : (end : ℕ) → ltb (end + d) (length s') ≡ ltb end (length s)
  past_end end =
      flag (ltb end (length s))
      (λ t. lt-ltb (end + d) (length s') (omega (arith, a.long, ltb-true end (length s) t)) ∙ sym t)
      (λ t. le-ltb (end + d) (length s') (omega (arith, a.long, ltb-false end (length s) t)) ∙ sym t)

  starts : first_two reg a.two'.parsed ≡ parts_with_factor f p
  starts = ap (first_two reg) a.factor

  place_is : a.n₁ + (a.n₂ + d) ≡ from + d
  place_is = omega arith

  pub outcome_with_factor : outcome s' ≡ moved (λ at. at + d) (changed (parts_with_factor f) (outcome s))
  outcome_with_factor =
      then_outcome s' a.one a.n₁ a.register' a.two' (a.n₂ + d) a.scheme'
      ∙ rw (starts, place_is) (after_moved s s' (λ at. at + d) further past_end (later reg) (parts_with_factor f p) from (last_of 1 (later reg)) a.after)
      ∙ ap (moved (λ at. at + d)) (after_changed (parts_with_factor f) s (later reg) (later_alike f reg) p from (last_of 1 (later reg)))
      ∙ ap (λ x. moved (λ at. at + d) (changed (parts_with_factor f) x)) (sym (then_outcome s a.one a.n₁ a.register a.two a.n₂ a.scheme))

  pub table_with_factor : (lent : List ℤ) → table_after s' lent ≡ table_after s lent
  table_with_factor lent =
      let ks = before 3 (later reg) in
      then_table s' a.one a.n₁ a.register' a.two' (a.n₂ + d) a.scheme' lent
      ∙ rw (starts, place_is) (table_moved s s' (λ at. at + d) further past_end ks (parts_with_factor f p) from lent a.after)
      ∙ table_changed (parts_with_factor f) s lent (λ p from. residual_with_factor (coefficients p) p.register p.scheme f (drop from s) lent) ks (alike_before (parts_with_factor f) 3 (later reg) (later_alike f reg)) p from
      ∙ sym (then_table s a.one a.n₁ a.register a.two a.n₂ a.scheme lent)

  pub late_with_factor : Late (outcome s)
  late_with_factor = rw (then_outcome s a.one a.n₁ a.register a.two a.n₂ a.scheme) (rest_late s (later reg) (later_late reg) p from)
