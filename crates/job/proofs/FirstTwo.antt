-- Parts 1 and 2 of a job, by what reading them leads to, and the parts after them in a register's order.
use Prim.Native.Nat.{ℕ, ◌≤◌}
use mathlib.Core.Path.{◌≡◌, ◌∙◌, ap}
use mathlib.Core.Bool.{cond}
use mathlib.Core.List.{List, ◌∷◌}
use native.Mathlib.Nat.{zero-add}
use native.Mathlib.Omega.{arith}
use lib.IntN.{ℤ}
use lib.ListN.{length, drop}
use Rattle.integers.proofs.Lists.{flag}
use Rattle.wire.specs.declared.refusals.Read.{Read}
use Rattle.wire.specs.Part.{Reading, refused, accepted}
use Rattle.wire.specs.Rows.{Progress}
use Rattle.wire.specs.Outcome.{Outcome, refuses, accepts, next, and_then, starting_at, added_by}
use Rattle.register.specs.declared.Register.{Register}
use Rattle.register.specs.Register.{has_range}
use Rattle.register.specs.Format.{register_part, register_in_job}
use Rattle.register.specs.Valid as R
use Rattle.register.proofs.Accept as RA
use Rattle.scheme.specs.declared.Scheme.{Scheme}
use Rattle.scheme.specs.Format.{scheme_part, scheme_in_job}
use Rattle.scheme.specs.Valid as S
use Rattle.scheme.proofs.Accept as SA
use Rattle.job.specs.Outcome.{Parts, of_register, with_scheme, JobPart, part_two, order, in_turn, last_of, ended, before, outcome, table_by, table_after}
use Rattle.job.specs.Rest.{rest, table_of_rest, first_two, plan_last, plan_first}
use Rattle.job.proofs.Positions.{part_within}
use Rattle.job.proofs.Turn.{follow}
use Rattle.job.proofs.Answers.{at_position, gives, given_within, refused_first, given_first}

-- a part at the start of a job
at_start : {A D : Type 0} (part : ℕ) (x : Reading (Progress A)) (later : A → ℕ → Outcome D) → next part (starting_at 0 (added_by (λ a. a) x)) later ≡ next part x λ p end. later p.parsed end
at_start part (refused n at) later = rw (zero-add at)
at_start part (accepted p end) later = rw (zero-add end)

-- the parts after part 2
abbrev pub later : Register → List JobPart
later reg = cond (has_range reg) plan_first plan_last

module _ (reg : Register) (s : List ℕ) (p : Parts) (from : ℕ) where
  in_order : follow s (last_of 1 (later reg)) (part_two ∷ later reg) p from ≡ follow s (last_of 1 (order reg)) (order reg) p from
  in_order = flag (has_range reg) (λ t. rw t) (λ t. rw t)

  table_in_order : (lent : List ℤ) → table_by s lent (in_turn (part_two ∷ before 3 (later reg)) s p from) ≡ table_by s lent (in_turn (before 3 (order reg)) s p from)
  table_in_order lent = flag (has_range reg) (λ t. rw t) (λ t. rw t)

-- what a job leads to, and the table after it
pub record Comes (s : List ℕ) (x : Outcome Parts) (table : List ℤ → List ℤ) : Type 0 where
  pub leads : x ≡ outcome s
  pub holds : (lent : List ℤ) → table lent ≡ table_after s lent

module _ (s : List ℕ) where
  -- ---- part 1

  pub register_refused : {n k at : ℕ} → refuses n k at ≡ at_position (λ r. r) 1 0 (register_in_job s) → Comes s (refuses n k at) (λ lent. lent)
  unfolding outcome table_after
  register_refused q = record {
    leads = refused_first (λ r. r) 1 0 (register_in_job s) q (λ r. r) (λ reg end. follow s (last_of 1 (order reg)) (order reg) (of_register reg) end) ∙ at_start 1 (register_in_job s) _;
    holds = λ lent. ap (table_by s lent) (refused_first (λ r. r) 1 0 (register_in_job s) q (λ r. r) (λ reg end. in_turn (before 3 (order reg)) s (of_register reg) end) ∙ at_start 1 (register_in_job s) _);
  }

  pub record RegisterRead (reg : Register) (end : ℕ) : Type 0 where
    pub valid : R.Valid reg
    pub inside : end ≤ length s
    pub comes : Comes s (follow s (last_of 1 (later reg)) (part_two ∷ later reg) (of_register reg) end) (λ lent. table_by s lent (in_turn (part_two ∷ before 3 (later reg)) s (of_register reg) end))

  pub register_read : (r : Read Register) → accepts r ≡ at_position (λ r. r) 1 0 (register_in_job s) → RegisterRead r.value r.end
  unfolding outcome table_after register_in_job
  register_read r q =
      let g = gives (λ r. r) 1 0 (register_in_job s) r q in
      record {
        valid = rw (← g.value_is) (RA.valid_accepted s _ _ g.reads).0;
        inside = given_within (λ r. r) 1 0 s (register_in_job s) g (omega arith) (part_within register_part s);
        comes = rw (← g.value_is) (record {
          leads =
              in_order g.progress.parsed s (of_register g.progress.parsed) r.end
              ∙ given_first (λ r. r) 1 0 (register_in_job s) g (λ r. r) (λ reg end. follow s (last_of 1 (order reg)) (order reg) (of_register reg) end)
              ∙ at_start 1 (register_in_job s) _;
          holds = λ lent.
              table_in_order g.progress.parsed s (of_register g.progress.parsed) r.end lent
              ∙ ap (table_by s lent) (given_first (λ r. r) 1 0 (register_in_job s) g (λ r. r) (λ reg end. in_turn (before 3 (order reg)) s (of_register reg) end) ∙ at_start 1 (register_in_job s) _);
        });
      }

  -- ---- part 2

  module _ (reg : Register) (end₁ : ℕ) (one : RegisterRead reg end₁) where
    abbrev second : Reading (Progress Scheme)
    second = scheme_in_job reg (drop end₁ s)

    -- where part 2 leads, with the parts after it, the job comes to
    comes_by : (x : List JobPart → Outcome (Parts × ℕ)) → ((ks : List JobPart) → x ks ≡ in_turn (part_two ∷ ks) s (of_register reg) end₁) →
        Comes s (and_then (x (later reg)) (ended (last_of 1 (later reg)) s)) (λ lent. table_by s lent (x (before 3 (later reg))))
    comes_by x e = record {
      leads = ap (λ y. and_then y (ended (last_of 1 (later reg)) s)) (e (later reg)) ∙ one.comes.leads;
      holds = λ lent. ap (table_by s lent) (e (before 3 (later reg))) ∙ one.comes.holds lent;
    }

    pub scheme_refused : {n k at : ℕ} → refuses n k at ≡ at_position (λ sch. sch) 2 end₁ second → Comes s (refuses n k at) (λ lent. lent)
    scheme_refused {n} {k} {at} q = comes_by (λ ks. refuses n k at) (λ ks. refused_first (λ sch. sch) 2 end₁ second q (with_scheme (of_register reg)) (in_turn ks s))

    pub record SchemeRead (sch : Scheme) (end : ℕ) : Type 0 where
      pub valid : S.Valid reg sch
      pub inside : end ≤ length s
      pub comes : Comes s (rest s (later reg) (first_two reg sch) end) (table_of_rest s (later reg) (first_two reg sch) end)

    pub scheme_read : (r : Read Scheme) → accepts r ≡ at_position (λ sch. sch) 2 end₁ second → SchemeRead r.value r.end
    unfolding scheme_in_job
    scheme_read r q =
        let g = gives (λ sch. sch) 2 end₁ second r q in
        record {
          valid = rw (← g.value_is) (SA.valid_accepted reg one.valid (drop end₁ s) _ _ g.reads).0;
          inside = given_within (λ sch. sch) 2 end₁ s second g one.inside (part_within (scheme_part reg) (drop end₁ s));
          comes = rw (← g.value_is) (comes_by (λ ks. in_turn ks s (first_two reg g.progress.parsed) r.end) (λ ks. given_first (λ sch. sch) 2 end₁ second g (with_scheme (of_register reg)) (in_turn ks s)));
        }
