use Prim.Native.Nat.{ℕ, ◌+◌, ◌-◌, ◌<◌}
use native.Mathlib.Omega.{arith}
use native.Mathlib.Numerals.{add-one}
use mir.Facts.{to_z-of_z}
use mathlib.Core.Path.{◌≡◌, refl, sym, ◌∙◌, ap}
use mathlib.Core.List.{List, [], ◌∷◌}
use lib.IntN.{pos}
use lib.ListN.{get_or}
use Rattle.integers.proofs.Lists.{◌▹◌}
use Rattle.std.proofs.Common.{rules}
use Rattle.wire.specs.Number.{nat_at, int_at}
use Rattle.wire.specs.Checks.{refusal}
use Rattle.wire.specs.Part.{refused, operands_at, total, checks_at}
use Rattle.wire.specs.Outcome.{added_by}
use Rattle.wire.specs.Results.{number_of, number_in}
use Rattle.wire.specs.Rows.{Progress, row_of}
use Rattle.wire.proofs.Rest.{only_last}
use Rattle.wire.proofs.Results.{numbered}
use Rattle.wire.proofs.Accepting.{reached}
use Rattle.wire.proofs.Loop.{Here, here_at, going_starts, going_missing, going_refused, going_on, going_ends}
use Rattle.register.specs.declared.Register.{Register}
use Rattle.register.specs.Limits.{max_choices, max_terms, max_windows, max_rows}
use Rattle.register.specs.Register.{tank, minute, fresh}
use Rattle.register.specs.Format.{base_row, choice_row, term_row, window_row, row_row, entries_of, wide_term_row, range_row, length_row, end_row, register_rows, register_part, register_in_job}
use Rattle.register.specs.Valid.{Within, window_at}
use Rattle.register.specs.Answer.{Given, filled_of}
use Rattle.register.proofs.Passes.{NextChoice, choice_iff, term_iff, window_iff, row_iff, range_iff}
use Rattle.register.proofs.RowOperands.{entries_read, entries_at_lem}
use Rattle.register.proofs.Entries.{term_at, still_unranged, windows_no_fall}
use Rattle.register.proofs.Passed.{Passed, passed_starts, passed_base, passed_length, passed_choice, passed_terms, passed_window, passed_rows}
use Rattle.register.proofs.Laws.{laws}
use Rattle.register.proofs.fill_register.Goals.{In_ok-map_err}
use Rattle.register.proofs.fill_register.Goals as goal

given_is : (r : Register) {k : ℕ} → Within r → Passed r k → Given r k
given_is r w p = record { few_choices = w.choices.few; few_terms = w.terms.few; few_windows = w.windows.few; within = p.within; no_fall = windows_no_fall r w; earlier = p.earlier }

-- once its command is not refused
module _ (c : In_ok-map_err) where
  abbrev bytes : List ℕ
  bytes = c.args.bytes.now

  abbrev r : Register
  r = c.loop-at.register

  abbrev p : Progress Register
  p = reached c.loop-at.previous r

  abbrev at : ℕ
  at = c.loop-at.at

  within : Within r
  within = c.loop-at.invariant.going.so_far.holds.within

  judged : refusal (checks_at register_part bytes p at) ≡ 0
  judged = let passed : number_in c.refusal_at.result ≡ 0 = search rules in sym c.refusal_at.ensures ∙ passed

  here : (b : ℕ) → get_or bytes at 0 ≡ b → Here fresh register_rows bytes p at b
  here b e = here_at fresh register_rows bytes p at b e c.loop-at-test.true judged

  few : get_or bytes at 0 ≡ 0x11 → r.choices < max_choices
  unfolding row_of
  few e = ((choice_iff _ _ _ _ _ _ _).0 (here 0x11 e).allowed).0.few

  few_terms : get_or bytes at 0 ≡ 0x12 → r.terms < max_terms
  unfolding row_of
  few_terms e = ((term_iff _ _ (term_at r (r.terms - 1)) _ _).0 (here 0x12 e).allowed).few

  few_wide : get_or bytes at 0 ≡ 0x15 → r.terms < max_terms
  unfolding row_of
  few_wide e = ((term_iff _ _ (term_at r (r.terms - 1)) _ _).0 (here 0x15 e).allowed).few

  few_with_range : get_or bytes at 0 ≡ 0x16 → r.terms < max_terms
  unfolding row_of
  few_with_range e = ((range_iff _ _ (term_at r (r.terms - 1)) _ _ _).0 (here 0x16 e).allowed).few

  few_windows : get_or bytes at 0 ≡ 0x13 → r.windows < max_windows
  unfolding row_of
  few_windows e = ((window_iff _ _ (window_at r (r.windows - 1)) _ _ _).0 (here 0x13 e).allowed).few

  few_rows : get_or bytes at 0 ≡ 0x14 → r.rows < max_rows
  unfolding row_of
  few_rows e = ((row_iff r.choices r.rows _ (λ j. get_or (entries_of (operands_at row_row.widths bytes (at + 1))) j (pos 0)) (λ j l. entries_read (operands_at row_row.widths bytes (at + 1)) j)).0 (here 0x14 e).allowed).few

  next_choice : get_or bytes at 0 ≡ 0x11 → NextChoice r.day_length r.choices (tank r (r.choices - 1)) (minute r (r.choices - 1)) (nat_at 2 bytes (at + 1)) (nat_at 2 bytes (at + 1 + 2))
  unfolding row_of operands_at
  next_choice e = ((choice_iff _ _ _ _ _ _ _).0 (here 0x11 e).allowed).0

pub loop-at-init : goal.loop-at-init
loop-at-init c = rw c.requires.starts (record { going = going_starts fresh register_rows laws _; lower = passed_starts })

pub refusal_at-requires-clause-given : goal.refusal_at-requires-clause-given
refusal_at-requires-clause-given c = let i = c.loop-at.invariant in given_is c.loop-at.register i.going.so_far.holds.within i.lower

pub returns-in_err-map_err : goal.returns-in_err-map_err
unfolding register_in_job
returns-in_err-map_err c =
    let refusal = c.in_err-map_err.field-0.0.refusal in
    let said : filled_of c.from_residual.result c.loop-at.register ≡ refused (number_of refusal) c.loop-at.at = search rules in
    let n : number_of refusal ≡ number_in c.refusal_at.result = search rules in
    said ∙ ap (added_by (λ r. r)) (sym (going_refused fresh register_rows laws c.loop-at.invariant.going _ c.loop-at-test.true (n ∙ c.refusal_at.ensures) (numbered refusal)))

pub read-register-requires : goal.read-register-requires
unfolding row_of total
read-register-requires c = omega (arith, (here (goal.at.read-register-requires c).In_ok-map_err 0x10 c.in-16.is).room)

pub loop-at-preserved-in-16 : goal.loop-at-preserved-in-16
unfolding row_of total operands_at int_at
loop-at-preserved-in-16 c =
    let e = (goal.at.loop-at-preserved-in-16 c).In_ok-map_err in record {
      going = rw (to_z-of_z (record { sfits = c.read-register.type_inv }), c.read-register.ensures) (going_on fresh register_rows laws c.loop-at.invariant.going c.loop-at-test.true (judged e) 0x10 c.in-16.is refl);
      lower = passed_base c.loop-at.register (within e) c.loop-at.invariant.lower _;
    }

pub read-tank-requires : goal.read-tank-requires
unfolding row_of total
read-tank-requires c = omega (arith, (here (goal.at.read-tank-requires c).In_ok-map_err 0x11 c.in-17.is).room)

pub bounds-register-n : goal.bounds-register-n
bounds-register-n c = few (goal.at.bounds-register-n c).In_ok-map_err c.in-17.is

pub read-requires : goal.read-requires
unfolding row_of total
read-requires c = omega (arith, (here (goal.at.read-requires c).In_ok-map_err 0x11 c.in-17.is).room)

pub bounds-register-n-in-17 : goal.bounds-register-n-in-17
bounds-register-n-in-17 c = few (goal.at.bounds-register-n-in-17 c).In_ok-map_err c.in-17.is

pub loop-at-preserved-in-17 : goal.loop-at-preserved-in-17
unfolding row_of total operands_at
loop-at-preserved-in-17 c =
    let e = (goal.at.loop-at-preserved-in-17 c).In_ok-map_err in
    let w = c.pass_windows-passed.ensures in record {
      going = rw (c.read.ensures, c.read-tank.ensures, add-one) (going_on fresh register_rows laws c.loop-at.invariant.going c.loop-at-test.true (judged e) 0x11 c.in-17.is refl);
      lower = rw add-one (passed_choice c.loop-at.register (within e) c.loop-at.invariant.lower _ _ (rw (c.read.ensures, c.read-tank.ensures) (next_choice e c.in-17.is)) _ w.within.1 w.lower);
    }

pub read-coefficient-requires : goal.read-coefficient-requires
unfolding row_of total
read-coefficient-requires c = omega (arith, (here (goal.at.read-coefficient-requires c).In_ok-map_err 0x12 c.in-18.is).room)

pub read-requires-in-18 : goal.read-requires-in-18
unfolding row_of total
read-requires-in-18 c = omega (arith, (here (goal.at.read-requires-in-18 c).In_ok-map_err 0x12 c.in-18.is).room)

pub bounds-register-m : goal.bounds-register-m
bounds-register-m c = few_terms (goal.at.bounds-register-m c).In_ok-map_err c.in-18.is

pub bounds-register-m-in-18 : goal.bounds-register-m-in-18
bounds-register-m-in-18 c = few_terms (goal.at.bounds-register-m-in-18 c).In_ok-map_err c.in-18.is

pub bounds-register-m-in-18-2 : goal.bounds-register-m-in-18-2
bounds-register-m-in-18-2 c = few_terms (goal.at.bounds-register-m-in-18-2 c).In_ok-map_err c.in-18.is

pub loop-at-preserved-in-18 : goal.loop-at-preserved-in-18
unfolding row_of total operands_at int_at
loop-at-preserved-in-18 c =
    let e = (goal.at.loop-at-preserved-in-18 c).In_ok-map_err in record {
      going = rw (to_z-of_z (record { sfits = c.read-coefficient.type_inv }), c.read-coefficient.ensures, c.from.ensures, c.read-in-18.ensures, add-one, ← still_unranged c.loop-at.register (within e)) (going_on fresh register_rows laws c.loop-at.invariant.going c.loop-at-test.true (judged e) 0x12 c.in-18.is refl);
      lower = rw add-one (passed_terms c.loop-at.register (within e) c.loop-at.invariant.lower _ _ _ _ _);
    }

pub read-requires-in-19 : goal.read-requires-in-19
unfolding row_of total
read-requires-in-19 c = omega (arith, (here (goal.at.read-requires-in-19 c).In_ok-map_err 0x13 c.in-19.is).room)

pub bounds-register-k : goal.bounds-register-k
bounds-register-k c = few_windows (goal.at.bounds-register-k c).In_ok-map_err c.in-19.is

pub read-requires-in-19-2 : goal.read-requires-in-19-2
unfolding row_of total
read-requires-in-19-2 c = omega (arith, (here (goal.at.read-requires-in-19-2 c).In_ok-map_err 0x13 c.in-19.is).room)

pub bounds-register-k-in-19 : goal.bounds-register-k-in-19
bounds-register-k-in-19 c = few_windows (goal.at.bounds-register-k-in-19 c).In_ok-map_err c.in-19.is

pub read-requires-in-19-3 : goal.read-requires-in-19-3
unfolding row_of total
read-requires-in-19-3 c = omega (arith, (here (goal.at.read-requires-in-19-3 c).In_ok-map_err 0x13 c.in-19.is).room)

pub bounds-register-k-in-19-2 : goal.bounds-register-k-in-19-2
bounds-register-k-in-19-2 c = few_windows (goal.at.bounds-register-k-in-19-2 c).In_ok-map_err c.in-19.is

pub loop-at-preserved-in-19 : goal.loop-at-preserved-in-19
unfolding row_of total operands_at
loop-at-preserved-in-19 c =
    let e = (goal.at.loop-at-preserved-in-19 c).In_ok-map_err in record {
      going = rw (c.read-in-19-3.ensures, c.read-in-19-2.ensures, c.read-in-19.ensures, add-one) (going_on fresh register_rows laws c.loop-at.invariant.going c.loop-at-test.true (judged e) 0x13 c.in-19.is refl);
      lower = rw add-one (passed_window c.loop-at.register (within e) c.loop-at.invariant.lower _ _ _);
    }

pub read-requires-in-20 : goal.read-requires-in-20
unfolding row_of total
read-requires-in-20 c = omega (arith, (here (goal.at.read-requires-in-20 c).In_ok-map_err 0x14 c.in-20.is).room)

pub bounds-register-row : goal.bounds-register-row
bounds-register-row c = few_rows (goal.at.bounds-register-row c).In_ok-map_err c.in-20.is

pub put_entries-requires-clause-place_within : goal.put_entries-requires-clause-place_within
put_entries-requires-clause-place_within c = omega (arith, few_rows (goal.at.put_entries-requires-clause-place_within c).In_ok-map_err c.in-20.is)

pub put_entries-requires-clause-bytes_there : goal.put_entries-requires-clause-bytes_there
unfolding row_of total
put_entries-requires-clause-bytes_there c = omega (arith, (here (goal.at.put_entries-requires-clause-bytes_there c).In_ok-map_err 0x14 c.in-20.is).room)

pub loop-at-preserved-in-20 : goal.loop-at-preserved-in-20
unfolding row_of total operands_at int_at
loop-at-preserved-in-20 c =
    let e = (goal.at.loop-at-preserved-in-20 c).In_ok-map_err in record {
      going = rw (to_z-of_z (record { sfits = c.read-in-20.type_inv }), c.read-in-20.ensures, c.put_entries.ensures, ← entries_at_lem c.args.bytes.now (c.loop-at.at + 1), add-one) (going_on fresh register_rows laws c.loop-at.invariant.going c.loop-at-test.true (judged e) 0x14 c.in-20.is refl);
      lower = passed_rows c.loop-at.register (within e) c.loop-at.invariant.lower _ _ _;
    }

pub read-coefficient-requires-in-21 : goal.read-coefficient-requires-in-21
unfolding row_of total
read-coefficient-requires-in-21 c = omega (arith, (here (goal.at.read-coefficient-requires-in-21 c).In_ok-map_err 0x15 c.in-21.is).room)

pub read-requires-in-21 : goal.read-requires-in-21
unfolding row_of total
read-requires-in-21 c = omega (arith, (here (goal.at.read-requires-in-21 c).In_ok-map_err 0x15 c.in-21.is).room)

pub bounds-register-m-in-21 : goal.bounds-register-m-in-21
bounds-register-m-in-21 c = few_wide (goal.at.bounds-register-m-in-21 c).In_ok-map_err c.in-21.is

pub bounds-register-m-in-21-2 : goal.bounds-register-m-in-21-2
bounds-register-m-in-21-2 c = few_wide (goal.at.bounds-register-m-in-21-2 c).In_ok-map_err c.in-21.is

pub bounds-register-m-in-21-3 : goal.bounds-register-m-in-21-3
bounds-register-m-in-21-3 c = few_wide (goal.at.bounds-register-m-in-21-3 c).In_ok-map_err c.in-21.is

pub loop-at-preserved-in-21 : goal.loop-at-preserved-in-21
unfolding row_of total operands_at int_at
loop-at-preserved-in-21 c =
    let e = (goal.at.loop-at-preserved-in-21 c).In_ok-map_err in record {
      going = rw (to_z-of_z (record { sfits = c.read-coefficient-in-21.type_inv }), c.read-coefficient-in-21.ensures, c.read-in-21.ensures, add-one, ← still_unranged c.loop-at.register (within e)) (going_on fresh register_rows laws c.loop-at.invariant.going c.loop-at-test.true (judged e) 0x15 c.in-21.is refl);
      lower = rw add-one (passed_terms c.loop-at.register (within e) c.loop-at.invariant.lower _ _ _ _ _);
    }

pub read-requires-in-22 : goal.read-requires-in-22
unfolding row_of total
read-requires-in-22 c = omega (arith, (here (goal.at.read-requires-in-22 c).In_ok-map_err 0x16 c.in-22.is).room)

pub bounds-register-m-in-22 : goal.bounds-register-m-in-22
bounds-register-m-in-22 c = few_with_range (goal.at.bounds-register-m-in-22 c).In_ok-map_err c.in-22.is

pub read-requires-in-22-2 : goal.read-requires-in-22-2
unfolding row_of total
read-requires-in-22-2 c = omega (arith, (here (goal.at.read-requires-in-22-2 c).In_ok-map_err 0x16 c.in-22.is).room)

pub bounds-register-m-in-22-2 : goal.bounds-register-m-in-22-2
bounds-register-m-in-22-2 c = few_with_range (goal.at.bounds-register-m-in-22-2 c).In_ok-map_err c.in-22.is

pub read-requires-in-22-3 : goal.read-requires-in-22-3
unfolding row_of total
read-requires-in-22-3 c = omega (arith, (here (goal.at.read-requires-in-22-3 c).In_ok-map_err 0x16 c.in-22.is).room)

pub bounds-register-m-in-22-3 : goal.bounds-register-m-in-22-3
bounds-register-m-in-22-3 c = few_with_range (goal.at.bounds-register-m-in-22-3 c).In_ok-map_err c.in-22.is

pub bounds-register-m-in-22-4 : goal.bounds-register-m-in-22-4
bounds-register-m-in-22-4 c = few_with_range (goal.at.bounds-register-m-in-22-4 c).In_ok-map_err c.in-22.is

pub loop-at-preserved-in-22 : goal.loop-at-preserved-in-22
unfolding row_of total operands_at int_at
loop-at-preserved-in-22 c =
    let e = (goal.at.loop-at-preserved-in-22 c).In_ok-map_err in record {
      going = rw (to_z-of_z (record { sfits = c.read-in-22-2.type_inv }), to_z-of_z (record { sfits = c.read-in-22-3.type_inv }), c.read-in-22-3.ensures, c.read-in-22-2.ensures, c.from-in-22.ensures, c.read-in-22.ensures, add-one) (going_on fresh register_rows laws c.loop-at.invariant.going c.loop-at-test.true (judged e) 0x16 c.in-22.is refl);
      lower = rw add-one (passed_terms c.loop-at.register (within e) c.loop-at.invariant.lower _ _ _ _ _);
    }

pub read-register-requires-in-24 : goal.read-register-requires-in-24
unfolding row_of total
read-register-requires-in-24 c = omega (arith, (here (goal.at.read-register-requires-in-24 c).In_ok-map_err 0x18 c.in-24.is).room)

pub loop-at-preserved : goal.loop-at-preserved
unfolding row_of total operands_at
loop-at-preserved c =
    let e = (goal.at.loop-at-preserved c).In_ok-map_err in record {
      going = rw c.read-register-in-24.ensures (going_on fresh register_rows laws c.loop-at.invariant.going c.loop-at-test.true (judged e) 0x18 c.in-24.is refl);
      lower = passed_length c.loop-at.register (within e) c.loop-at.invariant.lower _;
    }

pub returns-in_default : goal.returns-in_default
unfolding register_in_job row_of total operands_at
returns-in_default c =
    let e = (goal.at.returns-in_default c).In_ok-map_err in
    let f : get_or c.args.bytes.now c.loop-at.at 0 ≡ 0x1F = only_last end_row (get_or c.args.bytes.now c.loop-at.at 0) (base_row ∷ choice_row ∷ term_row ∷ window_row ∷ row_row ∷ wide_term_row ∷ range_row ∷ length_row ∷ []) ((λ e. omega arith) ▹ (λ e. omega arith) ▹ (λ e. omega arith) ▹ (λ e. omega arith) ▹ (λ e. omega arith) ▹ (λ e. omega arith) ▹ (λ e. omega arith) ▹ (λ e. omega arith) ▹ tt) _ (here e _ refl).place in
    ap (added_by (λ r. r)) (sym (going_ends fresh register_rows laws c.loop-at.invariant.going c.loop-at-test.true (judged e) 0x1F f refl))

pub returns : goal.returns
unfolding register_in_job
returns c = ap (added_by (λ r. r)) (sym (going_missing fresh register_rows laws c.loop-at.invariant.going c.loop-at-test.false))
