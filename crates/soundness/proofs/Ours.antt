-- Demand 3 holds of our calls.
use Prim.Native.Nat.{ℕ, ◌≤◌}
use mathlib.Core.Path.{◌≡◌, refl, sym, ◌∙◌, ap, subst}
use mathlib.Core.List.{List}
use lib.IntN.{ℤ, pos}
use lib.ListN.{length}
use lib.Signed.{◌≤ℤ◌}
use Rattle.integers.proofs.Order.{≤ℤ_antisym}
use Rattle.wire.specs.Number.{Bytes}
use Rattle.forms.specs.Table.{table_numbers}
use Rattle.scheme.specs.Filling.{Filling}
use Rattle.scheme.proofs.Opened.{Opened, opens, opened_encodings, register_bytes, scheme_bytes, answer_opened}
use Rattle.penalty.specs.Answer.{penalty_table}
use Rattle.penalty.specs.Demand.{Holds}
use Rattle.penalty.specs.Least.{LeastWhere}
use Rattle.penalty.specs.Carried.{carried}
use Rattle.penalty.proofs.Sets.{carried_below}
use Rattle.penalty.proofs.Answers as Penalty
use Rattle.penalty.proofs.Demand.{made_answer, made_holds}
use Rattle.bound.specs.declared.CheckAnswer.{CheckAnswer}
use Rattle.bound.proofs.Accept.{encoding_accepted}
use Rattle.bound.proofs.Opening.{Chosen}
use Rattle.bound.proofs.SecondOrder.{second_order_lem}
use Rattle.plain.proofs.ReadBack.{plain_encodes, handed_back, enough, own_accepted}
use Rattle.soundness.specs.Calls.{penalty_call, check_call, plain_call, job_call}
use Rattle.soundness.specs.Parts.{Choosing}
use Rattle.soundness.specs.Demand3.{register_of, chosen_by, scheme_of, Accepted, Plan, cost, cost_with, FitsPlan, FitsFilling, CarriesAt, value_read, EqualLeastWhere, Certified, second_order_of, table_back, checked, own_back, AsWritten, AsWrittenWith, Demand3With, Demand3}
use Rattle.soundness.proofs.Choosing.{chosen_of}
use Rattle.soundness.proofs.Relaxation.{reads_accepted, bound_read, read_part_3, relaxation, plans_bounded, checked_chooses}

-- a function has one least value where P holds
least_one : {A : Type 0} (P : A → Type 0) (f : A → ℤ) (m m' : ℤ) → LeastWhere P f m → LeastWhere P f m' → m ≡ m'
least_one P f m m' a b =
    ≤ℤ_antisym m m' (rw (← b.reached) (a.lowest b.witness b.holds)) (rw (← a.reached) (b.lowest a.witness a.holds))

-- ---- the demand, of accepted parts 1 and 2 and a table long enough

module _ (t s : List ℕ) (z : Accepted t s) (lent : List ℤ) (l : table_numbers ≤ length lent) where
  o : Opened t s (register_of t) (scheme_of t s)
  o = answer_opened t s z

  pub holds : Holds (register_of t) (scheme_of t s) lent (penalty_table t s lent)
  holds = made_holds t s lent l (register_of t) (scheme_of t s) o

  -- the table of our call
  abbrev back : List ℤ
  back = table_back penalty_call check_call plain_call t s lent

  -- (a)
  least : (some : Plan t) → FitsPlan t some → EqualLeastWhere (FitsFilling t) (value_read t s back) (FitsPlan t) (cost t)
  least some f = let m = holds.least some f in record { least = m.least; of_first = m.over_fillings; of_second = m.over_plans }

  -- (b)
  minimisers : (m : ℤ) → LeastWhere (FitsFilling t) (value_read t s back) m → (z : Filling) → FitsFilling t z → value_read t s back z ≡ m → CarriesAt t z m
  minimisers m h z f e =
      let n = (register_of t).choices in
      let plan : Plan t = record { fed = carried n z; inside = carried_below n z } in
      let same = holds.least plan f in
      let one = least_one (FitsFilling t) (value_read t s back) m same.least h same.over_fillings in
      record { plan = plan; carries = refl; fits = f; costs = same.minimisers z f (e ∙ one) ∙ sym one }

  as_written : Bytes t → AsWritten penalty_call check_call plain_call t s lent
  as_written b = record {
    part_1 = record { conditions = o.register_valid; bytes = register_bytes t s (register_of t) (scheme_of t s) o b };
    part_2 = λ b'. record { conditions = o.scheme_valid; bytes = scheme_bytes t s (register_of t) (scheme_of t s) o b' };
    penalty_accepted = made_answer t s lent l (register_of t) (scheme_of t s) o;
    penalty_form = sym (Penalty.parts_accepted t s lent l (register_of t) (scheme_of t s) o).holds;
  }

  -- ---- with a plan that chooses

  module _ (q : List ℕ) (fed : ℕ) (chooses : Choosing (register_of t) q fed) where
    with_q : Chosen t s q (register_of t) (scheme_of t s) fed
    with_q = chosen_of o chooses

    -- the check and our own bytes of our calls

    abbrev check : List ℕ → CheckAnswer
    check certificate = checked penalty_call check_call plain_call t s certificate q lent

    abbrev ours : List ℕ → List ℕ
    ours buffer = own_back penalty_call check_call plain_call t s q buffer

    -- (c), a case of the bound in the relaxation
    bounds : (certificate : List ℕ) → (check certificate).number ≡ 0 → (other : Plan t) → FitsPlan t other → (check certificate).bound ≤ℤ cost_with (chosen_by t fed) t other
    bounds certificate e other fits =
        subst (λ p. (check certificate).bound ≤ℤ cost_with (chosen_by t p) t other) (checked_chooses t s certificate q lent e fed with_q)
        (plans_bounded check_call job_call relaxation t s certificate q lent e other fits)

    -- (d)
    second_order_part : (certificate : List ℕ) (k : Certified (chosen_by t fed) t s certificate) (x : ℕ → ℤ) → pos 0 ≤ℤ second_order_of (chosen_by t fed) t s k.cert x
    second_order_part certificate k = second_order_lem (chosen_by t fed) (register_of t) (scheme_of t s) k.cert k.part_3.conditions.carried

    -- (e)
    own_checked : (buffer : List ℕ) → (plain_call t s q buffer).0.number ≡ 0 → (check (ours buffer)).number ≡ 0
    own_checked buffer m =
        ap (λ k. (check k).number) (handed_back t s q _ _ fed with_q buffer m).front ∙ ap (λ a. a.number) (own_accepted t s q _ _ fed with_q lent l)

    chosen_as_written : AsWrittenWith penalty_call check_call plain_call (chosen_by t fed) t s q lent
    chosen_as_written = record {
      certificates = λ certificate b e. let r = reads_accepted t s q _ _ fed with_q lent l certificate e in record { cert = r.read.parsed; part_3 = read_part_3 _ _ _ certificate r b };
      certified = λ certificate k.
          bound_read t s q _ _ fed with_q lent l certificate _ _
          (encoding_accepted (register_of t) o.register_valid (scheme_of t s) o.scheme_valid (chosen_by t fed) k.cert certificate k.part_3.conditions k.part_3.bytes);
      own_certificate = λ buffer m. rw (handed_back t s q _ _ fed with_q buffer m).front (plain_encodes (chosen_by t fed) (register_of t) (scheme_of t s));
      own_enough = enough t s q _ _ fed with_q;
    }

    of_chosen : Demand3With penalty_call check_call plain_call (chosen_by t fed) t s q lent
    of_chosen = record { bounds = bounds; second_order = second_order_part; own_accepted = own_checked; as_written = chosen_as_written }

-- demand 3
pub demand3 : Demand3 penalty_call check_call plain_call
demand3 = record {
  of_accepted = λ t s b z lent l. record {
    least = least t s z lent l;
    minimisers = minimisers t s z lent l;
    as_written = as_written t s z lent l b;
    with_plan = of_chosen t s z lent l;
  };
  all_accepted = λ t s reg sch p q.
      let o = opened_encodings t s reg sch p.conditions p.bytes q.conditions q.bytes in
      rw (opens o);
}
