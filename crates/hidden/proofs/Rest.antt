-- The parts of a job after the register, and the table: they ask for nothing of the register that is hidden, and they are the same
-- where the bytes after the register are.
use Prim.Native.Nat.{ℕ}
use mathlib.Core.Path.{◌≡◌, refl, ◌∙◌}
use mathlib.Core.Bool.{Bool, true, false, cond}
use mathlib.Core.List.{List, [], ◌∷◌}
use lib.Dec.{ltb}
use lib.IntN.{ℤ}
use lib.ListN.{length, drop}
use Rattle.integers.specs.Lists.{All}
use Rattle.integers.proofs.Lists.{◌▹◌}
use Rattle.wire.specs.Outcome.{Outcome, refuses, accepts, and_then}
use Rattle.register.specs.declared.Register.{Register}
use Rattle.register.specs.Register.{has_range}
use Rattle.scheme.specs.declared.Scheme.{Scheme}
use Rattle.scheme.specs.Function.{g}
use Rattle.scheme.specs.Format.{scheme_in_job}
use Rattle.certificate.specs.Certificate.{Certificate}
use Rattle.certificate.specs.Rules.{rule_of}
use Rattle.certificate.specs.Format.{commands_in_job}
use Rattle.residual.specs.Residual.{null_part, subtracted_part, null_forms, subtracted_forms, reformulated, shifted, R}
use Rattle.bound.specs.Format.{certificate_in_job}
use Rattle.bound.proofs.Same.{certificate_alike, residual_alike}
use Rattle.plan.specs.Format.{plan_in_job}
use Rattle.plan.specs.Chosen.{chosen}
use Rattle.job.specs.Outcome.{Parts, with_scheme, with_certificate, with_plan, coefficients, JobPart, part_two, part_three, part_four, order, in_turn, ended, table_from_certificate, table_by}
use Rattle.job.proofs.Changed.{ReadAlike, added_alike, changed, after_changed, table_changed}
use Rattle.job.proofs.Moved.{moved, after_moved, table_moved}
use Rattle.hidden.specs.Alike.{blank}

abbrev pub blank_parts : Parts → Parts
blank_parts p = record { register = blank p.register; scheme = p.scheme; certificate = p.certificate; plan = p.plan }

-- ---- nothing that is hidden is asked for

abbrev Blind : JobPart → Type 0
Blind = ReadAlike blank_parts

scheme_same : (r : Register) (t : List ℕ) → scheme_in_job (blank r) t ≡ scheme_in_job r t
unfolding scheme_in_job
scheme_same r t = refl

commands_same : (r : Register) (sch : Scheme) (t : List ℕ) → commands_in_job (blank r) sch t ≡ commands_in_job r sch t
unfolding commands_in_job rule_of
commands_same r sch t = refl

residual_same : (r : Register) (plan : ℕ) (sch : Scheme) (cert : Certificate) → R (chosen (blank r) plan) (blank r) sch cert ≡ R (chosen r plan) r sch cert
unfolding R shifted reformulated null_forms subtracted_forms null_part subtracted_part rule_of g
residual_same r plan sch cert = refl

certificate_same : (r : Register) (plan : ℕ) (sch : Scheme) (t : List ℕ) → certificate_in_job (chosen (blank r) plan) (blank r) sch t ≡ certificate_in_job (chosen r plan) r sch t
certificate_same r plan sch = certificate_alike (chosen (blank r) plan) (chosen r plan) r (blank r) sch sch refl (commands_same r sch) (residual_same r plan sch)

plan_same : (r : Register) (t : List ℕ) → plan_in_job (blank r) t ≡ plan_in_job r t
unfolding plan_in_job
plan_same r t = refl

blind_two : Blind part_two
blind_two p t = added_alike blank_parts (with_scheme p) (with_scheme (blank_parts p)) (λ a. refl) (scheme_in_job p.register t) _ (scheme_same p.register t)

blind_three : Blind part_three
blind_three p t =
    added_alike blank_parts (with_certificate p) (with_certificate (blank_parts p)) (λ a. refl) (certificate_in_job (coefficients p) p.register p.scheme t) _ (certificate_same p.register p.plan p.scheme t)

blind_four : Blind part_four
blind_four p t = added_alike blank_parts (with_plan p) (with_plan (blank_parts p)) (λ a. refl) (plan_in_job p.register t) _ (plan_same p.register t)

-- in either order
pub blind : (r : Register) → All Blind (order r)
blind r = by (has_range r)
  where
    by : (b : Bool) → All Blind (cond b (part_two ∷ part_four ∷ part_three ∷ []) (part_two ∷ part_three ∷ part_four ∷ []))
    by true = blind_two ▹ blind_four ▹ blind_three ▹ tt
    by false = blind_two ▹ blind_three ▹ blind_four ▹ tt

module _ (s : List ℕ) where
  -- so what follows the register, with it blank
  pub after_blank : (r : Register) (p : Parts) (from last : ℕ) → and_then (in_turn (order r) s (blank_parts p) from) (ended last s) ≡ changed blank_parts (and_then (in_turn (order r) s p from) (ended last s))
  after_blank r = after_changed blank_parts s (order r) (blind r)

  table_certificate : (lent : List ℤ) (p : Parts) (from : ℕ) → table_from_certificate s (blank_parts p) from lent ≡ table_from_certificate s p from lent
  table_certificate lent p from =
      residual_alike (coefficients (blank_parts p)) (coefficients p) p.register (blank p.register) p.scheme p.scheme refl (commands_same p.register p.scheme) (residual_same p.register p.plan p.scheme) (drop from s) lent

  pub table_blank : (ks : List JobPart) → All Blind ks → (p : Parts) (from : ℕ) (lent : List ℤ) → table_by s lent (in_turn ks s (blank_parts p) from) ≡ table_by s lent (in_turn ks s p from)
  table_blank ks h p from lent = table_changed blank_parts s lent (table_certificate lent) ks h p from

-- ---- the bytes after the register, and the job's length, are all that is read

module _ (s s' : List ℕ) (l : length s ≡ length s') where
  ends : (end : ℕ) → ltb end (length s) ≡ ltb end (length s')
  ends end = rw l

  pub after_same : (ks : List JobPart) (p : Parts) (from last : ℕ) → drop from s ≡ drop from s' → and_then (in_turn ks s p from) (ended last s) ≡ and_then (in_turn ks s' p from) (ended last s')
  after_same ks p from last d = after_moved s' s (λ at. at) (λ from end. refl) ends ks p from last d ∙ unmoved (and_then (in_turn ks s' p from) (ended last s'))
    where
      unmoved : (x : Outcome Parts) → moved (λ at. at) x ≡ x
      unmoved (refuses number part at) = refl
      unmoved (accepts p) = refl

  pub table_same : (ks : List JobPart) (p : Parts) (from : ℕ) (lent : List ℤ) → drop from s ≡ drop from s' → table_by s lent (in_turn ks s p from) ≡ table_by s' lent (in_turn ks s' p from)
  table_same = table_moved s' s (λ at. at) (λ from end. refl) ends
