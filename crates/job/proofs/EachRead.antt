-- An accepted job: each part is read where it stands, in whichever order, the certificate with the coefficients that the plan chooses.
use Prim.Native.Nat.{ℕ, ◌+◌, ◌≤◌}
use native.Mathlib.Omega.{arith}
use mathlib.Core.Path.{◌≡◌, subst}
use mathlib.Core.Bool.{true, false, cond}
use mathlib.Core.List.{List, [], ◌∷◌}
use lib.IntN.{ℤ}
use lib.ListN.{length, drop}
use borrow.Author.Tests.{le-ltb}
use Rattle.integers.proofs.Lists.{flag}
use Rattle.wire.specs.Part.{Reading, accepted}
use Rattle.wire.specs.Rows.{Progress}
use Rattle.wire.specs.Outcome.{accepts}
use Rattle.wire.proofs.Accepting.{reached}
use Rattle.wire.proofs.Outcome.{next_by, not_both}
use Rattle.register.specs.declared.Register.{Register}
use Rattle.register.specs.Register.{has_range}
use Rattle.register.specs.Format.{register_in_job}
use Rattle.register.proofs.Accept.{valid_accepted}
use Rattle.scheme.specs.declared.Scheme.{Scheme}
use Rattle.scheme.specs.Format.{scheme_in_job}
use Rattle.certificate.specs.Certificate.{Certificate}
use Rattle.bound.specs.Format.{certificate_in_job}
use Rattle.bound.proofs.Same.{certificate_same}
use Rattle.plan.specs.Chosen.{chosen}
use Rattle.plan.specs.Format.{plan_in_job}
use Rattle.job.specs.Outcome.{Parts, coefficients, of_register, with_scheme, with_certificate, with_plan, JobPart, part_two, part_three, part_four, order, last_of, outcome}
use Rattle.job.proofs.Turn.{same_chosen, follow, accepts_at, accepts_end}

-- what a part gives, and how many bytes it takes
pub record Reads {A : Type 0} (x : Reading (Progress A)) (value : A) (size : ℕ) : Type 0 where
  pub previous : ℕ
  pub is : x ≡ accepted (reached previous value) size

-- each part of a job, by the sizes of all four: where a term has a range, the plan stands before the certificate
pub record AllRead (s : List ℕ) (p : Parts) : Type 0 where
  pub one : ℕ
  pub two : ℕ
  pub three : ℕ
  pub four : ℕ
  pub register : Reads (register_in_job s) p.register one
  pub scheme : Reads (scheme_in_job p.register (drop one s)) p.scheme two
  pub certificate : Reads (certificate_in_job (coefficients p) p.register p.scheme (drop (cond (has_range p.register) (one + two + four) (one + two)) s)) p.certificate three
  pub plan : Reads (plan_in_job p.register (drop (cond (has_range p.register) (one + two) (one + two + three)) s)) p.plan four
  pub ends : length s ≤ one + two + three + four

abbrev reads : {A : Type 0} {x : Reading (Progress A)} (read : Progress A) (size : ℕ) → x ≡ accepted read size → Reads x read.parsed size
reads read size e = record { previous = read.previous; is = e }

-- ---- from the outcome

-- a part of an accepted job, wherever it stands
module _ {G : Type 0} (s : List ℕ) (last : ℕ) (ks : List JobPart) (q p : Parts) (from : ℕ) where
  scheme_there : follow s last (part_two ∷ ks) q from ≡ accepts p →
      ((sch : Scheme) (n : ℕ) → Reads (scheme_in_job q.register (drop from s)) sch n → follow s last ks (with_scheme q sch) (from + n) ≡ accepts p → G) → G
  scheme_there e h = accepts_at s last 2 from (with_scheme q) (scheme_in_job q.register (drop from s)) ks p e λ read n r. h read.parsed n (reads read n r)

  certificate_there : follow s last (part_three ∷ ks) q from ≡ accepts p →
      ((cert : Certificate) (n : ℕ) → Reads (certificate_in_job (coefficients q) q.register q.scheme (drop from s)) cert n → follow s last ks (with_certificate q cert) (from + n) ≡ accepts p → G) → G
  certificate_there e h =
      accepts_at s last 3 from (with_certificate q) (certificate_in_job (coefficients q) q.register q.scheme (drop from s)) ks p e λ read n r. h read.parsed n (reads read n r)

  plan_there : follow s last (part_four ∷ ks) q from ≡ accepts p →
      ((plan n : ℕ) → Reads (plan_in_job q.register (drop from s)) plan n → follow s last ks (with_plan q plan) (from + n) ≡ accepts p → G) → G
  plan_there e h = accepts_at s last 4 from (with_plan q) (plan_in_job q.register (drop from s)) ks p e λ read n r. h read.parsed n (reads read n r)

-- part 3 read with coefficients that are the same
certificate_with : (c d : ℕ → ℤ) (reg : Register) (sch : Scheme) (t : List ℕ) {cert : Certificate} {n : ℕ} → ((i : ℕ) → c i ≡ d i) → Reads (certificate_in_job c reg sch t) cert n → Reads (certificate_in_job d reg sch t) cert n
certificate_with c d reg sch t h r = rw (← (certificate_same c d reg sch (λ i l. h i) t)) r

module _ (s : List ℕ) (p : Parts) (one : Progress Register) (n₁ : ℕ) (e₁ : register_in_job s ≡ accepted one n₁) where
  abbrev reg : Register
  reg = one.parsed

  plan_first_read : has_range reg ≡ true → follow s 3 (part_two ∷ part_four ∷ part_three ∷ []) (of_register reg) n₁ ≡ accepts p → AllRead s p
  plan_first_read t e =
      scheme_there s 3 (part_four ∷ part_three ∷ []) (of_register reg) p n₁ e λ sch n₂ r₂ e.
      plan_there s 3 (part_three ∷ []) (with_scheme (of_register reg) sch) p (n₁ + n₂) e λ plan n₄ r₄ e.
      certificate_there s 3 [] (with_plan (with_scheme (of_register reg) sch) plan) p (n₁ + n₂ + n₄) e λ cert n₃ r₃ e.
      let (l, k) = accepts_end s 3 (record { register = reg; scheme = sch; certificate = cert; plan = plan }) p (n₁ + n₂ + n₄ + n₃) e in
      subst (AllRead s) k (record { one = n₁; two = n₂; three = n₃; four = n₄; register = reads one n₁ e₁; scheme = r₂; certificate = rw t r₃; plan = rw t r₄; ends = omega (arith, l) })

  plan_last_read : has_range reg ≡ false → follow s 4 (part_two ∷ part_three ∷ part_four ∷ []) (of_register reg) n₁ ≡ accepts p → AllRead s p
  plan_last_read t e =
      scheme_there s 4 (part_three ∷ part_four ∷ []) (of_register reg) p n₁ e λ sch n₂ r₂ e.
      certificate_there s 4 (part_four ∷ []) (with_scheme (of_register reg) sch) p (n₁ + n₂) e λ cert n₃ r₃ e.
      plan_there s 4 [] (with_certificate (with_scheme (of_register reg) sch) cert) p (n₁ + n₂ + n₃) e λ plan n₄ r₄ e.
      let (l, k) = accepts_end s 4 (record { register = reg; scheme = sch; certificate = cert; plan = plan }) p (n₁ + n₂ + n₃ + n₄) e in
      let chosen_read = certificate_with (chosen reg 0) (chosen reg plan) reg sch (drop (n₁ + n₂) s) (same_chosen reg (valid_accepted s one n₁ e₁).0.within t 0 plan) r₃ in
      subst (AllRead s) k (record { one = n₁; two = n₂; three = n₃; four = n₄; register = reads one n₁ e₁; scheme = r₂; certificate = rw t chosen_read; plan = rw t r₄; ends = omega (arith, l) })

  in_order : follow s (last_of 1 (order reg)) (order reg) (of_register reg) n₁ ≡ accepts p → AllRead s p
  in_order e = flag (has_range reg) (λ t. plan_first_read t (rw t at e)) (λ t. plan_last_read t (rw t at e))

pub all_read : (s : List ℕ) (p : Parts) → outcome s ≡ accepts p → AllRead s p
unfolding outcome
all_read s p =
    next_by (λ o. o ≡ accepts p → AllRead s p) 1 (register_in_job s) (λ one end. let reg = one.parsed in follow s (last_of 1 (order reg)) (order reg) (of_register reg) end)
    (λ n at x q. absurd (not_both q)) (in_order s p)

-- ---- to the outcome

pub read_all : (s : List ℕ) (p : Parts) → AllRead s p → outcome s ≡ accepts p
unfolding outcome
read_all s p a = rw a.register.is (flag (has_range p.register) (λ t. rw t (plan_first_given t)) (λ t. rw t (plan_last_given t)))
  where
    plan_first_given : has_range p.register ≡ true → follow s 3 (part_two ∷ part_four ∷ part_three ∷ []) (of_register p.register) a.one ≡ accepts p
    plan_first_given t =
        let k = rw t at a.plan.is in
        let c = rw t at a.certificate.is in
        rw (a.scheme.is, k, c, le-ltb (a.one + a.two + a.four + a.three) (length s) (omega (arith, a.ends)))

    plan_last_given : has_range p.register ≡ false → follow s 4 (part_two ∷ part_three ∷ part_four ∷ []) (of_register p.register) a.one ≡ accepts p
    plan_last_given t =
        let same = same_chosen p.register (valid_accepted s _ _ a.register.is).0.within t p.plan 0 in
        let k = rw t at a.plan.is in
        let c = (certificate_with (coefficients p) (chosen p.register 0) p.register p.scheme (drop (a.one + a.two) s) same (rw t at a.certificate)).is in
        rw (a.scheme.is, c, k, le-ltb (a.one + a.two + a.three + a.four) (length s) (omega (arith, a.ends)))
