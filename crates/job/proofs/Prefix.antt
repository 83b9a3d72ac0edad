-- What a job leads to stands in its first bytes, and an accepted job has so many at most.
use Prim.Native.Nat.{ℕ, ◌+◌, ◌-◌, ◌*◌, ◌≤◌, ◌<◌}
use native.Mathlib.Omega.{arith}
use mathlib.Core.Path.{◌≡◌, refl, ◌∙◌, ap}
use mathlib.Core.List.{List, [], ◌∷◌}
use lib.Dec.{ltb, leb}
use lib.ListN.{length, take, drop}
use lib.Seq.{take_all, length-take-le}
use borrow.Author.Tests.{leb-true, leb-false, lt-ltb}
use Rattle.integers.proofs.Lists.{flag}
use Rattle.wire.specs.Part.{Reading, refused, accepted, total}
use Rattle.wire.specs.Rows.{Progress, size_of}
use Rattle.wire.specs.Outcome.{accepts, next, and_then, starting_at, added_by}
use Rattle.wire.proofs.Prefix.{drop-take}
use Rattle.wire.proofs.Outcome.{next_same}
use Rattle.register.specs.declared.Register.{Register}
use Rattle.register.specs.Register.{fresh, has_range}
use Rattle.register.specs.Limits.{max_choices}
use Rattle.register.specs.Format.{choice_row, register_in_job}
use Rattle.register.specs.Valid.{Valid}
use Rattle.register.proofs.Accept.{valid_accepted}
use Rattle.register.proofs.Prefix.{register_longest, register_reach, register_prefix, register_end}
use Rattle.scheme.specs.declared.Scheme.{Scheme}
use Rattle.scheme.specs.Scheme.{max_products, max_variables}
use Rattle.scheme.specs.Format.{product_row, scheme_in_job}
use Rattle.scheme.proofs.Accept as SA
use Rattle.scheme.proofs.Prefix.{scheme_longest, scheme_reach, scheme_prefix, scheme_end}
use Rattle.certificate.specs.Certificate.{Certificate}
use Rattle.certificate.specs.Rules.{arity, by_key}
use Rattle.certificate.specs.Format.{command_size}
use Rattle.certificate.proofs.Prefix.{certificate_longest, certificate_reach}
use Rattle.bound.specs.Format.{certificate_in_job}
use Rattle.bound.proofs.Prefix.{certificate_prefix, certificate_end}
use Rattle.plan.specs.Format.{plan_in_job}
use Rattle.plan.proofs.Prefix.{plan_longest, plan_prefix, plan_end}
use Rattle.job.specs.Outcome.{Parts, coefficients, of_register, with_scheme, with_certificate, with_plan, JobPart, part_two, part_three, part_four, order, last_of, in_turn, ended, outcome}
use Rattle.job.proofs.Turn.{follow}
use Rattle.job.proofs.EachRead.{all_read}

-- the longest parts 1 and 2 together. A choice has more bytes than a product, so they have as many choices as there may be, and so many
-- products fewer than there may be as there are no variables left for
abbrev two_longest : ℕ
two_longest = register_longest + scheme_longest - size_of (product_row fresh) * (max_choices + max_products - max_variables)

-- the longest job
unfoldable pub job_longest : ℕ
job_longest = two_longest + certificate_longest + plan_longest

-- the bytes that can matter: after the longest register, the longest scheme and a plan, those of a certificate with a square too many.
-- Where the plan comes last, they are fewer
unfoldable pub job_reach : ℕ
job_reach = two_longest + plan_longest + certificate_reach

pub longest_is : job_longest ≡ 27_100
unfolding job_longest register_longest scheme_longest certificate_longest plan_longest command_size total arity by_key
longest_is = refl

pub reach_is : job_reach ≡ 27_234
unfolding job_reach register_longest scheme_longest certificate_reach plan_longest command_size total arity by_key
reach_is = refl

-- where parts 1 and 2 are accepted, they end there at most
two_within : (reg : Register) → Valid reg → (s : List ℕ) {q : Progress Scheme} {end : ℕ} → scheme_in_job reg s ≡ accepted q end → (from : ℕ) → from + size_of choice_row * (max_choices - reg.choices) ≤ register_longest → from + end ≤ two_longest
unfolding register_longest scheme_longest total
two_within reg v s {q} {end} e from l =
    let w = (SA.valid_accepted reg v s q end e).0.within in
    omega (arith, l, scheme_end reg v.within.terms.few s e, w.products_within, w.variables_within, v.within.choices.few)

module _ (K : ℕ) (s : List ℕ) where
  -- bytes after the end
  pub past_prefix : (end : ℕ) → end < K → ltb end (length (take K s)) ≡ ltb end (length s)
  past_prefix end l =
      flag (leb (length s) K) (λ t. rw (take_all K s (leb-true (length s) K t))) λ t.
      let long : K < length s = leb-false (length s) K t in
      rw (length-take-le K s (omega arith), lt-ltb end K l, lt-ltb end (length s) (omega arith))

  -- a part is read of the first bytes as of all, and what follows it agrees where it is accepted
  module _ (last : ℕ) where
    -- with any parts after it
    abbrev Same : List JobPart → Parts → ℕ → Type 0
    Same ks p from = follow (take K s) last ks p from ≡ follow s last ks p from

    -- a part that starts at a position
    part_same : {A : Type 0} (part from : ℕ) (add : A → Parts) (x : List ℕ → Reading (Progress A)) (reach : ℕ) → ((K : ℕ) (s : List ℕ) → reach ≤ K → x (take K s) ≡ x s) → from + reach ≤ K → (ks : List JobPart) →
        ((read : Progress A) (end : ℕ) → x (drop from s) ≡ accepted read end → Same ks (add read.parsed) (from + end)) →
        and_then (next part (starting_at from (added_by add (x (drop from (take K s))))) (in_turn ks (take K s))) (ended last (take K s))
        ≡ and_then (next part (starting_at from (added_by add (x (drop from s)))) (in_turn ks s)) (ended last s)
    part_same {A} part from add x reach h l ks later = rw (ap x (drop-take from K s) ∙ h (K - from) (drop from s) (omega arith)) (go (x (drop from s)) later)
      where
        go : (y : Reading (Progress A)) → ((read : Progress A) (end : ℕ) → y ≡ accepted read end → Same ks (add read.parsed) (from + end)) →
            and_then (next part (starting_at from (added_by add y)) (in_turn ks (take K s))) (ended last (take K s)) ≡ and_then (next part (starting_at from (added_by add y)) (in_turn ks s)) (ended last s)
        go (refused n at) f = refl
        go (accepted read end) f = f read end refl

    module _ (p : Parts) (from : ℕ) (ks : List JobPart) where
      scheme_same : Valid p.register → from + size_of choice_row * (max_choices - p.register.choices) ≤ register_longest → from + scheme_reach ≤ K → ((sch : Scheme) (end : ℕ) → end ≤ two_longest → Same ks (with_scheme p sch) end) → Same (part_two ∷ ks) p from
      scheme_same v h l later = part_same 2 from (with_scheme p) (scheme_in_job p.register) scheme_reach (scheme_prefix p.register v.within.terms.few) l ks λ read end e.
          later read.parsed (from + end) (two_within p.register v _ e from h)

      certificate_same : from + certificate_reach ≤ K → ((cert : Certificate) (end : ℕ) → end ≤ from + certificate_longest → Same ks (with_certificate p cert) end) → Same (part_three ∷ ks) p from
      certificate_same l later =
          part_same 3 from (with_certificate p) (certificate_in_job (coefficients p) p.register p.scheme) certificate_reach (certificate_prefix p.register p.scheme (coefficients p)) l ks λ read end e.
          let m = certificate_end p.register p.scheme (coefficients p) _ e in later read.parsed (from + end) (omega arith)

      plan_same : from + plan_longest ≤ K → ((plan end : ℕ) → end ≤ from + plan_longest → Same ks (with_plan p plan) end) → Same (part_four ∷ ks) p from
      plan_same l later = part_same 4 from (with_plan p) (plan_in_job p.register) plan_longest (plan_prefix p.register) l ks λ read end e.
          let m = plan_end p.register _ e in later read.parsed (from + end) (omega arith)

    end_same : (p : Parts) (end : ℕ) → end < K → Same [] p end
    end_same p end l = rw (past_prefix end l)

  -- so number, part and position of a job are those of its first bytes
  pub outcome_prefix : job_reach ≤ K → outcome (take K s) ≡ outcome s
  unfolding outcome job_reach register_longest register_reach scheme_longest scheme_reach certificate_longest certificate_reach plan_longest command_size total arity by_key
  outcome_prefix k =
      next_same 1 (register_in_job (take K s)) (register_in_job s)
      (λ one end. let reg = one.parsed in follow (take K s) (last_of 1 (order reg)) (order reg) (of_register reg) end)
      (λ one end. let reg = one.parsed in follow s (last_of 1 (order reg)) (order reg) (of_register reg) end)
      (register_prefix K s (omega arith)) λ one n₁ e₁.
      let reg = one.parsed in
      let v = (valid_accepted s one n₁ e₁).0 in
      let l₁ = register_end s e₁ in
      flag (has_range reg)
      (λ t. rw t (
      scheme_same 3 (of_register reg) n₁ (part_four ∷ part_three ∷ []) v l₁ (omega arith) λ sch n₂ l₂.
      let q₂ = with_scheme (of_register reg) sch in
      plan_same 3 q₂ n₂ (part_three ∷ []) (omega arith) λ plan n₄ l₄.
      let q₄ = with_plan q₂ plan in
      certificate_same 3 q₄ n₄ [] (omega arith) λ cert n₃ l₃.
      end_same 3 (with_certificate q₄ cert) n₃ (omega arith)))
      (λ t. rw t (
      scheme_same 4 (of_register reg) n₁ (part_three ∷ part_four ∷ []) v l₁ (omega arith) λ sch n₂ l₂.
      let q₂ = with_scheme (of_register reg) sch in
      certificate_same 4 q₂ n₂ (part_four ∷ []) (omega arith) λ cert n₃ l₃.
      let q₃ = with_certificate q₂ cert in
      plan_same 4 q₃ n₃ [] (omega arith) λ plan n₄ l₄.
      end_same 4 (with_plan q₃ plan) n₄ (omega arith)))

pub accepted_length : (s : List ℕ) (p : Parts) → outcome s ≡ accepts p → length s ≤ job_longest
unfolding job_longest
accepted_length s p e =
    let a = all_read s p e in
    let v = (valid_accepted s _ _ a.register.is).0 in
    let l₂ = two_within p.register v _ a.scheme.is _ (register_end s a.register.is) in
    let l₃ = certificate_end p.register p.scheme (coefficients p) _ a.certificate.is in
    let l₄ = plan_end p.register _ a.plan.is in
    omega (arith, a.ends)
