-- Rows, of our calls.
use Prim.Native.Nat.{ℕ, ◌^◌, ◌<◌}
use native.Mathlib.Omega.{arith}
use mathlib.Core.Path.{◌≡◌, refl, sym, ap}
use mathlib.Core.Logic.{inr}
use mathlib.Core.List.{List, ◌++◌, append-nil}
use lib.IntN.{ℤ}
use lib.ListN.{length}
use Rattle.integers.specs.Lists.{join_below}
use Rattle.wire.specs.Part.{Reading, refused, accepted}
use Rattle.wire.specs.Rows.{Progress}
use Rattle.wire.proofs.Accepting.{reached}
use Rattle.register.specs.declared.Register.{Register}
use Rattle.register.specs.Register.{fresh, set_rows}
use Rattle.register.specs.Format.{register_by_itself}
use Rattle.register.specs.Answer.{register_answer}
use Rattle.register.specs.Valid.{Valid}
use Rattle.register.specs.Encoding.{encode_register, SaysRow}
use Rattle.register.proofs.Canonical.{canonical, encodes_ranges}
use Rattle.register.proofs.Entries.{rows_none, in_rows}
use Rattle.register.proofs.Accept as R
use Rattle.register.proofs.Opened.{opened}
use Rattle.register.proofs.SaysRow.{said_in_job, said_by_itself, no_rows}
use Rattle.register.proofs.BeforeRows.{row_byte, as_before_rows_in_job, as_before_rows}
use Rattle.plan.specs.Valid as P
use Rattle.plan.proofs.Answers.{cost_encodings}
use Rattle.plan.proofs.Fits.{every_fits}
use Rattle.plan.proofs.BeforeRows.{plan_as_before_rows_in_job, plan_as_before_rows}
use Rattle.soundness.specs.Calls.{register_call, cost_call, check_call, job_call, listing_call}
use Rattle.soundness.specs.BeforeRanges.{without_ranges}
use Rattle.soundness.specs.Windows.{without_rows}
use Rattle.soundness.specs.Rows.{RowsRight, ValidBeforeRows, after_before_rows, RowsKept, AsBeforeRows}
use Rattle.soundness.specs.PriceRanges.{after_before_ranges}
use Rattle.soundness.proofs.Written.{after_same}
use Rattle.soundness.proofs.BeforeRanges.{terms_before, forms_before}
use Rattle.soundness.proofs.Windows.{register_valid, accepted_valid, windows_kept}
use Rattle.soundness.proofs.RowForms.{rows_named}
use Rattle.soundness.proofs.Misfit.{misfit, names_first, misfit_in_job, only_misfit, only_misfit_in_job}
use Rattle.soundness.proofs.RowAbsent.{row_absent_lem}
use Rattle.soundness.proofs.Feedings.{job_fits}

-- ---- the same register with other rows

module _ (r : Register) (v : Valid r) (k : ℕ) (totals entries : List ℤ) where
  with_rows : RowsRight (set_rows r k totals entries) → Valid (set_rows r k totals entries)
  with_rows w = record { within = in_rows r v.within w; day_length = v.day_length; some_choice = v.some_choice }

module _ (r : Register) where
  -- without its rows, and with them again

  none_valid : Valid r → Valid (without_rows r)
  none_valid v = with_rows r v 0 _ _ (rows_none r.choices)

  own_valid : Valid (without_rows r) → RowsRight r → Valid r
  own_valid v = with_rows (without_rows r) v r.rows r.row_totals r.row_entries

  -- the conditions before there were rows and ranges

  before_none : Valid (without_rows (without_ranges r)) → ValidBeforeRows r
  before_none v = record {
    base = v.within.base;
    choices = v.within.choices;
    terms = (terms_before r.choices r.terms r.masks r.coefficients).0 v.within.terms;
    windows = v.within.windows;
    may_feed = v.within.may_feed;
    day_length = v.day_length;
    some_choice = v.some_choice;
  }

  with_none : ValidBeforeRows r → Valid (without_rows (without_ranges r))
  with_none b = record {
    within = record {
      base = b.base;
      day = inr b.day_length;
      choices = b.choices;
      terms = (terms_before r.choices r.terms r.masks r.coefficients).1 b.terms;
      windows = b.windows;
      rows = rows_none r.choices;
      may_feed = b.may_feed;
    };
    day_length = b.day_length;
    some_choice = b.some_choice;
  }

  -- and the bytes

  bytes_none : (header : List ℕ) → after_before_ranges header (without_rows r) ≡ after_before_rows header r
  unfolding join_below
  bytes_none header = simp append-nil

-- ---- bytes that say no row

module _ (s : List ℕ) (none : SaysRow s → ⊥) where
  answered_without : without_rows (register_call s).register ≡ (register_call s).register
  unfolding fresh
  answered_without = go (register_by_itself s) refl
    where
      go : (x : Reading (Progress Register)) → register_by_itself s ≡ x → without_rows (register_answer x).register ≡ (register_answer x).register
      go (refused n at) e = refl
      go (accepted p end) e = ap (λ w. set_rows p.parsed w.0 w.1 w.2) (sym (no_rows s none e))

-- ---- plans of a register without rows

every_valid : (reg : Register) → reg.rows ≡ 0 → (fed : ℕ) → fed < 2 ^ reg.choices → P.Valid reg fed
every_valid reg none fed l = record { inside = l; fits = every_fits reg none fed }

-- ---- the promises

pub rows_kept : RowsKept register_call cost_call check_call job_call listing_call
rows_kept = record {
  of_register = λ register z. (register_valid register z).within.rows;
  nothing_more = λ register reg x.
      let own = accepted_valid register reg x in
      let none = accepted_valid (encode_register (without_rows reg)) (without_rows reg) (canonical (without_rows reg) (encodes_ranges reg x)) in (
        (λ e. let v = own.0 e in (none.1 (none_valid reg v), v.within.rows)),
        (λ (e, w). own.1 (own_valid reg (none.0 e) w)),
      );
  of_plan = λ register plan b z. let w = windows_kept.of_plan register plan b z in (w.0, w.1, w.2, w.2.conditions.fits);
  of_job = job_fits;
  misfit = misfit;
  misfit_in_job = misfit_in_job;
  only_misfit = only_misfit;
  only_misfit_in_job = only_misfit_in_job;
  names_first = names_first;
  row_absent = row_absent_lem;
  rows_named = rows_named;
  every_plan = every_fits;
  none_said = λ register none. sym (ap (λ r. r.rows) (answered_without register none));
  cost_every = λ register plan reg fed p none l e. cost_encodings register plan reg fed p.conditions p.bytes (every_valid reg none fed l) e;
  says_row = λ register z.
      let o = opened register (register_call register) refl z in
      said_by_itself register (reached 0x1F (register_call register).register) (length register) o.reads;
  read_as_before = λ register none no_range. (ap register_answer (as_before_rows register none no_range), answered_without register none);
}

pub kept_before_rows : AsBeforeRows
kept_before_rows = record {
  row_byte = row_byte;
  says_row = λ register rest reg p. said_in_job (register ++ rest) (reached 0x1F reg) (length register) (R.register_accepted reg register rest p.conditions p.bytes);
  in_job = as_before_rows_in_job;
  by_itself = as_before_rows;
  part_1 = λ register reg none.
      let bytes = λ (v : Valid (without_rows (without_ranges reg))). forms_before (without_rows reg) register v none in (
        (λ p. let (narrow, e) = (bytes p.conditions).0 p.bytes in (before_none reg p.conditions, narrow, after_same reg (bytes_none reg) register e)),
        (λ (b, narrow, e). let v = with_none reg b in record { conditions = v; bytes = (bytes v).1 (narrow, after_same reg (λ header. sym (bytes_none reg header)) register e) }),
      );
  part_4_in_job = plan_as_before_rows_in_job;
  part_4_by_itself = plan_as_before_rows;
  part_4 = λ reg plan fed none. (
    (λ p. let l = p.conditions.inside in (omega arith, p.bytes)),
    (λ (l, e). record { conditions = every_valid reg none fed (omega arith); bytes = e }),
  );
}
