-- By the commands' reading, then by the first row that falls short.
use Prim.Native.Nat.{ℕ, ◌≤◌, ◌<◌}
use mathlib.Core.Path.{◌≡◌, sym, ◌∙◌, ap}
use mathlib.Core.Bool.{true, false}
use mathlib.Core.List.{List}
use native.Mathlib.Omega.{arith}
use lib.IntN.{nat_abs}
use mir.Syntax.{w64}
use mir.Val.{to_z, of_z}
use mir.Facts.{to_z-of_z}
use borrow.Author.Rules.{rules}
use Rattle.std.proofs.Common.{Option, Some, None}
use Rattle.std.specs.Option.{is_some, unwrap_or, IfSome}
use Rattle.integers.specs.CeilDiv.{ceil_div}
use Rattle.integers.proofs.Machine.{read_signed}
use Rattle.wire.specs.declared.refusals.Read.{Read}
use Rattle.wire.specs.Part.{refused, accepted}
use Rattle.wire.specs.Rows.{Progress}
use Rattle.wire.specs.Results.{number_of, reading_of}
use Rattle.wire.proofs.Results.{read_ok, read_err}
use Rattle.forms.specs.Store.{Bounded}
use Rattle.register.specs.declared.Register.{Register}
use Rattle.register.specs.Register.{coefficient}
use Rattle.register.specs.Valid as R
use Rattle.scheme.specs.declared.Scheme.{Scheme}
use Rattle.scheme.specs.Scheme.{side}
use Rattle.certificate.specs.declared.Certificate.{Certificate as Counts}
use Rattle.certificate.specs.Certificate.{Certificate}
use Rattle.certificate.specs.Limits.{max_scale, max_target}
use Rattle.certificate.specs.Answer.{counts_of}
use Rattle.certificate.specs.Format.{commands_in_job}
use Rattle.residual.specs.Limits.{max_r}
use Rattle.residual.proofs.ByCommand.{holds_r}
use Rattle.bound.specs.Bound.{bound}
use Rattle.bound.specs.Check.{with_residual}
use Rattle.scheme.proofs.Truncated.{valid_register}
use Rattle.bound.proofs.Checking.{commands_refused, within, past_0, table_after, bounded_after, falls_short, holds_all}
use Rattle.bound.proofs.check.check_certificate.Goals as goal
use Rattle.bound.proofs.check.check_certificate.Goals.{After-put_residual}

pub returns-in_err-commands-clause-value : goal.returns-in_err-commands-clause-value
returns-in_err-commands-clause-value c =
    let q = c.args.quadratization.now in
    let f = c.in_err-commands.field-0.0 in
    let e = read_err counts_of (commands_in_job q.register q.scheme c.args.bytes.now) c.read_commands.ensures c.in_err-commands.was in
    let said : reading_of c.from_residual.result ≡ refused (number_of f.refusal) f.position = search rules in
    said ∙ (commands_refused q.register q.scheme c.args.bytes.now e c.args.table.now).0

-- the row that falls short, or none
some_row : (o : Option ℕ) (n : ℕ) → is_some o ≡ true → IfSome o (λ row. row < n) → unwrap_or o n < n
some_row None n e h = cc
some_row (Some row) n e h = h

no_row : (o : Option ℕ) (n : ℕ) → is_some o ≡ false → n ≤ unwrap_or o n
no_row None n e = omega arith
no_row (Some row) n e = cc

-- the commands that were read, and the table that was filled by them
module _ (c : After-put_residual) where
  abbrev reg : Register
  reg = c.args.quadratization.now.register

  abbrev sch : Scheme
  sch = c.args.quadratization.now.scheme

  abbrev s : List ℕ
  s = c.args.bytes.now

  abbrev read : Read Counts
  read = c.in_ok-commands.commands

  whole : (p : Progress Certificate) × ((commands_in_job reg sch s ≡ accepted p read.end) × (counts_of p.parsed ≡ read.value))
  whole = read_ok counts_of (commands_in_job reg sch s) c.read_commands.ensures c.in_ok-commands.was

  abbrev reads : commands_in_job reg sch s ≡ accepted whole.0 read.end
  reads = whole.1.0

  reg_within : R.Within reg
  reg_within = (valid_register c.args.quadratization.now.register_valid).within

  filled : c.put_residual.new.table ≡ holds_r (coefficient reg) reg sch whole.0.parsed c.args.table.now
  filled = c.put_residual.ensures whole.0 read.end reads

  in_range : (nat_abs read.value.target ≤ max_target) × ((1 ≤ read.value.scale) × (read.value.scale ≤ max_scale))
  in_range = let w = within reg sch s whole.0 read.end reads in rw (← whole.1.1) (w.target_within, (w.scale_above, w.scale_within))

  after : c.put_residual.new.table ≡ with_residual (coefficient reg) reg sch (commands_in_job reg sch s) c.args.table.now
  after = table_after reg sch s whole.0 read.end reads reg_within c.args.quadratization.now.scheme_valid c.args.table.now c.put_residual.new.table c.requires.table_numbers_in_bounds filled

  bounded : Bounded (side reg.choices sch) max_r c.put_residual.new.table
  bounded = bounded_after reg sch s whole.0 read.end reads reg_within c.args.quadratization.now.scheme_valid c.args.table.now c.put_residual.new.table c.requires.table_numbers_in_bounds filled

pub put_residual-requires-clause-reads : goal.put_residual-requires-clause-reads
put_residual-requires-clause-reads c =
    let q = c.args.quadratization.now in
    let (p, r) = read_ok counts_of (commands_in_job q.register q.scheme c.args.bytes.now) c.read_commands.ensures c.in_ok-commands.was in
    record { progress = p; end = c.in_ok-commands.commands.end; reads = r.0 }

pub first_short-requires-clause-side_le_square_entries : goal.first_short-requires-clause-side_le_square_entries
first_short-requires-clause-side_le_square_entries c =
    let k = (goal.at.first_short-requires-clause-side_le_square_entries c).After-put_residual in
    omega (arith, k.args.quadratization.now.scheme_valid.within.variables_within, c.side.ensures)

pub first_short-requires-clause-bounded : goal.first_short-requires-clause-bounded
first_short-requires-clause-bounded c = rw c.side.ensures (bounded (goal.at.first_short-requires-clause-bounded c).After-put_residual)

pub overflow_sub-result : goal.overflow_sub-result
overflow_sub-result c = let k = (goal.at.overflow_sub-result c).After-put_residual in past_0 (reg k) (sch k) (s k) (whole k).0 (read k).end (reads k)

pub returns-then-is_some-clause-value : goal.returns-then-is_some-clause-value
returns-then-is_some-clause-value c =
    let k = (goal.at.returns-then-is_some-clause-value c).After-put_residual in
    let n = c.side.result in
    let first = rw c.side.ensures at c.first_short.ensures.first in
    let short = rw c.side.ensures at (some_row c.first_short.result n (sym c.is_some.ensures ∙ c.if-is_some.true) c.first_short.ensures.row_lt_side) in
    falls_short (reg k) (sch k) (s k) (whole k).0 (read k).end (reads k) (reg_within k) k.args.quadratization.now.scheme_valid k.args.table.now _ k.requires.table_numbers_in_bounds (filled k) _ first short

pub returns-then-is_some-clause-table_after : goal.returns-then-is_some-clause-table_after
returns-then-is_some-clause-table_after c = after (goal.at.returns-then-is_some-clause-table_after c).After-put_residual

pub ceil_div-requires-clause-t_bound : goal.ceil_div-requires-clause-t_bound
ceil_div-requires-clause-t_bound c =
    let k = (goal.at.ceil_div-requires-clause-t_bound c).After-put_residual in
    rw (read_signed w64 (read k).value.target (omega (arith, (in_range k).0))) (in_range k).0

pub ceil_div-requires-clause-le_s : goal.ceil_div-requires-clause-le_s
ceil_div-requires-clause-le_s c = (in_range (goal.at.ceil_div-requires-clause-le_s c).After-put_residual).1

pub returns-clause-value : goal.returns-clause-value
unfolding bound
returns-clause-value c =
    let k = (goal.at.returns-clause-value c).After-put_residual in
    let n = c.side.result in
    let first = rw c.side.ensures at c.first_short.ensures.first in
    let none = rw c.side.ensures at (no_row c.first_short.result n (sym c.is_some.ensures ∙ c.if-is_some.false)) in
    let b : to_z w64 (of_z w64 c.ceil_div.result) ≡ bound (whole k).0.parsed =
    to_z-of_z {w = w64} (record { sfits = c.ceil_div.type_inv })
    ∙ c.ceil_div.ensures
    ∙ ap (λ t. ceil_div t (read k).value.scale) (read_signed w64 (read k).value.target (omega (arith, (in_range k).0)))
    ∙ ap (λ (r : Counts). ceil_div r.target r.scale) (sym (whole k).1.1) in
    ap (λ b. accepted b (read k).end) b
    ∙ holds_all (reg k) (sch k) (s k) (whole k).0 (read k).end (reads k) (reg_within k) k.args.quadratization.now.scheme_valid k.args.table.now _ k.requires.table_numbers_in_bounds (filled k) _ first none

pub returns-clause-table_after : goal.returns-clause-table_after
returns-clause-table_after c = after (goal.at.returns-clause-table_after c).After-put_residual
