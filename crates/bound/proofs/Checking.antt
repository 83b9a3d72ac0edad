-- What the check comes to: by the commands' reading, the table that holds R, and the first row that falls short.
use Prim.Native.Nat.{ℕ, ◌-◌, ◌≤◌, ◌<◌}
use mathlib.Core.Path.{◌≡◌, sym, ◌∙◌}
use mathlib.Core.Bool.{Bool, true, false, cond}
use mathlib.Core.List.{List}
use native.Mathlib.Omega.{arith}
use lib.Dec.{eqb}
use lib.IntN.{ℤ}
use lib.ListN.{length}
use borrow.Author.Tests.{eqb-true, eqb-false}
use Rattle.integers.proofs.Lists.{flag}
use Rattle.wire.specs.Part.{Reading, refused, accepted, read_part}
use Rattle.wire.specs.Rows.{Progress}
use Rattle.wire.specs.Outcome.{added_by}
use Rattle.wire.proofs.Part.{read_from_end}
use Rattle.forms.specs.Table.{table_numbers}
use Rattle.forms.specs.Store.{Bounded}
use Rattle.forms.proofs.Table.{with_table_at}
use Rattle.register.specs.declared.Register.{Register}
use Rattle.register.specs.Register.{coefficient}
use Rattle.register.specs.Valid as Reg
use Rattle.scheme.specs.declared.Scheme.{Scheme}
use Rattle.scheme.specs.Scheme.{side}
use Rattle.scheme.specs.Valid.{Valid}
use Rattle.penalty.proofs.Bounds.{side_square}
use Rattle.certificate.specs.Limits.{square_entries}
use Rattle.residual.specs.Limits.{max_r}
use Rattle.certificate.specs.Certificate.{Certificate}
use Rattle.residual.specs.Residual.{R}
use Rattle.bound.specs.Bound.{carries, bound}
use Rattle.certificate.specs.Format.{certificate_part, commands_in_job}
use Rattle.bound.specs.Format.{dominance_checked, certificate_in_job}
use Rattle.certificate.specs.Within.{Within}
use Rattle.residual.specs.Built.{cells}
use Rattle.bound.specs.Check.{with_residual}
use Rattle.bound.specs.Dominance.{FirstShort}
use Rattle.certificate.proofs.Accept.{within_accepted}
use Rattle.residual.proofs.Bounds.{small}
use Rattle.residual.proofs.RowBounds.{side_within}
use Rattle.residual.proofs.ByCommand.{holds_r, bounded_R}
use Rattle.bound.proofs.FirstShort.{first_short_cong, first_all}

module _ (reg : Register) (sch : Scheme) (s : List ℕ) where
  abbrev c : ℕ → ℤ
  c = coefficient reg

  -- the certificate's reading, by what it gives
  abbrev checked : Reading ℤ
  checked = added_by bound (certificate_in_job c reg sch s)

  -- commands that are refused
  pub commands_refused : {n at : ℕ} → commands_in_job reg sch s ≡ refused n at → (lent : List ℤ) → (refused n at ≡ checked) × (lent ≡ with_residual c reg sch (commands_in_job reg sch s) lent)
  unfolding certificate_in_job dominance_checked
  commands_refused e lent = (rw e, rw e)

  -- and commands that are not
  module _ (p : Progress Certificate) (end : ℕ) (e : commands_in_job reg sch s ≡ accepted p end) where
    dominance_at : (b : Bool) → carries c reg sch p.parsed ≡ b → checked ≡ added_by bound (cond b (accepted p end) (refused 9 (end - 1)))
    unfolding certificate_in_job dominance_checked
    dominance_at b d = rw (e, d)

    pub within : Within reg sch p.parsed
    within = (within_accepted reg sch s p end e).0

    pub past_0 : 1 ≤ end
    unfolding commands_in_job read_part
    past_0 = omega (arith, (read_from_end (certificate_part reg sch) s (certificate_part reg sch).start 0 e).0)

    -- the table t after it was filled
    module _ (register : Reg.Within reg) (scheme : Valid reg sch) (lent t : List ℤ) (l : table_numbers ≤ length lent) (filled : t ≡ holds_r c reg sch p.parsed lent) where
      abbrev n : ℕ
      n = side reg.choices sch

      pub table_after : t ≡ with_residual c reg sch (commands_in_job reg sch s) lent
      table_after = filled ∙ rw e

      pub side_small : n ≤ square_entries
      side_small = side_within reg sch scheme.within

      pub bounded_after : Bounded n max_r t
      bounded_after =
          rw filled
          (bounded_R c reg sch p.parsed lent (omega (arith, side_square reg sch scheme)) (small reg register) scheme.within within)

      -- and the first row that falls short
      module _ (row : ℕ) (first : FirstShort n (cells n t) row) where
        carried : eqb row n ≡ carries c reg sch p.parsed
        unfolding carries
        carried = first_all (first_short_cong same first)
          where
            same : (i j : ℕ) → i < n → j < n → cells n t i j ≡ R c reg sch p.parsed i j
            same i j a b =
                rw filled (with_table_at n (R c reg sch p.parsed) lent i j a b)

        pub falls_short : row < n → refused 9 (end - 1) ≡ checked
        falls_short h =
            flag (eqb row n)
            (λ b. absurd (omega (arith, eqb-true row n b)))
            (λ b. sym (dominance_at false (sym carried ∙ b)))

        pub holds_all : n ≤ row → accepted (bound p.parsed) end ≡ checked
        holds_all h =
            flag (eqb row n)
            (λ b. sym (dominance_at true (sym carried ∙ b)))
            (λ b. absurd (omega (arith, first.within, eqb-false row n b)))
