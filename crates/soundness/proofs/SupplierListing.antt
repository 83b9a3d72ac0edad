-- The promises on what a supplier may read hold of our calls.
use native.Mathlib.Omega.{arith}
use Prim.Native.Nat.{ℕ}
use mathlib.Core.Path.{◌≡◌, refl, sym, ap, ap₂, ◌∙◌}
use mathlib.Core.Bool.{cond}
use mathlib.Core.List.{List, ◌++◌}
use lib.Dec.{ltb}
use lib.IntN.{ℤ, pos}
use lib.ListN.{length, take, drop, replicate, length-replicate}
use lib.Seq.{take_at}
use Rattle.integers.proofs.Lists.{flag}
use Rattle.sets.specs.Sets.{is_member}
use Rattle.sets.proofs.Sets.{set_of_members}
use Rattle.wire.specs.Outcome.{Outcome, refuses, accepts}
use Rattle.wire.specs.Writer.{bytes_answer}
use Rattle.forms.specs.Table.{table_numbers}
use Rattle.plan.specs.Plan.{cost}
use Rattle.register.specs.declared.Register.{Register}
use Rattle.job.specs.declared.Tally.{Tally}
use Rattle.job.specs.declared.JobAnswer.{JobAnswer}
use Rattle.job.specs.Outcome.{Parts, outcome}
use Rattle.job.specs.Tally.{fresh}
use Rattle.job.specs.Answer.{job_answer}
use Rattle.job.proofs.Suppliers.{table_enough}
use Rattle.job.proofs.Accept as Job
use Rattle.listing.specs.declared.Reader.TheVariants.{Supplier}
use Rattle.listing.specs.Listing.{plan_lines, supplier_lines, bound_line, accepted_lines, listed, supplier_listing}
use Rattle.listing.specs.Answer.{lent_answer, lent_buffer, answer_with, buffer_with, listing_table}
use Rattle.listing.proofs.Outcome.{listing_short}
use Rattle.listing.proofs.Answers.{enough, handed_back}
use Rattle.listing.proofs.SupplierLines.{same_fed, fed_lines}
use Rattle.hidden.specs.Alike.{SameButHidden}
use Rattle.hidden.proofs.Rest.{blank_parts}
use Rattle.hidden.proofs.Jobs.{hidden_laws}
use Rattle.soundness.specs.Calls.{job_call, listing_call, supplier_listing_call}
use Rattle.soundness.specs.SupplierListing.{SupplierJob, SameResult, IsAccepted, Hides, SupplierListing}
use Rattle.soundness.proofs.Jobs.{accepted_job, accepted_leads, accepted_numbers, refusal_shown}

-- ---- what is told

same_line : {b b' c c' g g' : ℤ} → (b ≡ b') × ((c ≡ c') × (g ≡ g')) → bound_line b c g ≡ bound_line b' c' g'
same_line (b, (c, g)) = rw (b, c, g) refl

supplier_job : (job : List ℕ) (table : List ℤ) (supplier : ℕ) (tally : Tally) → (job_answer job table supplier tally).number ≡ 0 → SupplierJob job_call listing_call supplier_listing_call job table supplier tally
unfolding listed accepted_lines
supplier_job job table supplier tally z =
    let j = accepted_job job table supplier tally z in
    record {
      accepted = j;
      lines = λ lent buffer h. (handed_back supplier_lines job lent buffer h).front ∙ ap (listed supplier_lines) (accepted_leads job table supplier tally z)
          ∙ ap (λ x. supplier_lines j.parts.register j.parts.plan ++ x) (same_line (accepted_numbers job table supplier tally z));
    }

module _ {job job' : List ℕ} {table table' : List ℤ} {supplier supplier' : ℕ} {tally tally' : Tally}
    (j : SupplierJob job_call listing_call supplier_listing_call job table supplier tally) (j' : SupplierJob job_call listing_call supplier_listing_call job' table' supplier' tally') where
  abbrev a : JobAnswer
  a = job_answer job table supplier tally

  abbrev a' : JobAnswer
  a' = job_answer job' table' supplier' tally'

  abbrev r : Register
  r = j.accepted.parts.register

  abbrev r' : Register
  r' = j'.accepted.parts.register

  same_result : supplier_lines r j.accepted.parts.plan ++ bound_line a.bound a.cost a.gap ≡ supplier_lines r' j'.accepted.parts.plan ++ bound_line a'.bound a'.cost a'.gap → SameResult job_call listing_call supplier_listing_call j j'
  same_result e =
      let plan = j.accepted.parts.plan in
      let plan' = j'.accepted.parts.plan in
      let (f, (b, (c, g))) = same_fed r r' plan plan' a.bound a.cost a.gap a'.bound a'.cost a'.gap e in
      record {
        choices = f.choices;
        plan =
            sym (set_of_members r.choices (λ i. is_member i plan) plan j.accepted.conditions.plan.inside (λ i l. refl))
            ∙ set_of_members r.choices (λ i. is_member i plan) plan' (rw f.choices j'.accepted.conditions.plan.inside) f.fed;
        bound = b;
        cost = c;
        gap = g;
      }

  same_shown : SameResult job_call listing_call supplier_listing_call j j' → supplier_lines r j.accepted.parts.plan ++ bound_line a.bound a.cost a.gap ≡ supplier_lines r' j'.accepted.parts.plan ++ bound_line a'.bound a'.cost a'.gap
  same_shown f = ap₂ ◌++◌ (fed_lines r r' _ _ (record { choices = f.choices; fed = λ i l. ap (is_member i) f.plan })) (same_line (f.bound, (f.cost, f.gap)))

-- ---- what is hidden

-- the lines ask for nothing that is hidden
lines_blank : (p : Parts) → supplier_listing (accepts p) ≡ supplier_listing (accepts (blank_parts p))
unfolding listed accepted_lines supplier_lines cost
lines_blank p = refl

lines_alike : (p p' : Parts) → SameButHidden p p' → supplier_listing (accepts p) ≡ supplier_listing (accepts p')
lines_alike p p' s =
    let q : blank_parts p ≡ blank_parts p' = rw (s.register, s.scheme, s.certificate, s.plan) refl in
    lines_blank p ∙ ap (λ q. supplier_listing (accepts q)) q ∙ sym (lines_blank p')

-- one text, for tables and buffers of equal lengths

module _ (text : List ℕ) (table table' : List ℤ) (buffer buffer' : List ℕ) (l : length table ≡ length table') (k : length buffer ≡ length buffer') where
  answer_same : lent_answer text table buffer ≡ lent_answer text table' buffer'
  unfolding bytes_answer
  answer_same = rw (l, k)

  written_same : take (lent_answer text table buffer).count (lent_buffer text table buffer) ≡ take (lent_answer text table' buffer').count (lent_buffer text table' buffer')
  unfolding bytes_answer
  written_same =
      flag (ltb (length table) table_numbers) (λ t. rw (← l, t)) λ f.
      flag (ltb (length buffer) (length text)) (λ t. rw (← l, f, ← k, t)) λ h.
      rw (← l, f, ← k, h) (take_at text (drop (length text) buffer) (length text) refl ∙ sym (take_at text (drop (length text) buffer') (length text) refl))

leads : (job : List ℕ) → IsAccepted job_call job → (p : Parts) × (outcome job ≡ accepts p)
leads job a = let r = Job.answered job a.table a.supplier a.tally a.accepted in (r.parts_are, r.leads)

hides : Hides job_call supplier_listing_call
unfolding answer_with buffer_with listing_table
hides job job' table table' buffer buffer' b b' x x' a l k =
    let (p, e) = leads job x in
    let (p', e') = leads job' x' in
    let same : supplier_listing (outcome job) ≡ supplier_listing (outcome job') =
    ap supplier_listing e ∙ lines_alike p p' (hidden_laws.same_parts job job' p p' b b' e e' a) ∙ sym (ap supplier_listing e') in
    let text = supplier_listing (outcome job) in
    record {
      answers = answer_same text table table' buffer buffer' l k ∙ ap (λ t. lent_answer t table' buffer') same;
      written = written_same text table table' buffer buffer' l k ∙ ap (λ t. take (lent_answer t table' buffer').count (lent_buffer t table' buffer')) same;
      numbers = λ d. rw d (ap (cond (ltb (length table') table_numbers) table') (hidden_laws.same_table job job' p p' b b' e e' a table'));
      bytes = λ d. ap₂ (λ t x. lent_buffer t table x) same d ∙ rw l;
    }

-- ---- a refused job

refused_lines : (number part at : ℕ) → listed supplier_lines (refuses number part at) ≡ listed plan_lines (refuses number part at)
unfolding listed
refused_lines number part at = refl

pub accepted_is : (job : List ℕ) (p : Parts) → outcome job ≡ accepts p → IsAccepted job_call job
accepted_is job p e = record {
  table = zeros;
  supplier = 0;
  tally = fresh;
  accepted = ap (λ a. a.number) ((table_enough job zeros 0 fresh (omega arith) (omega (arith, length-replicate table_numbers (pos 0)))).0) ∙ rw e refl;
}
  where
    zeros : List ℤ
    zeros = replicate table_numbers (pos 0)

refused_same : (job : List ℕ) → (IsAccepted job_call job → ⊥) → (table : List ℤ) (buffer : List ℕ) → supplier_listing_call job table buffer ≡ listing_call job table buffer
unfolding answer_with buffer_with
refused_same job d table buffer = rw (go (outcome job) refl)
  where
    go : (x : Outcome Parts) → outcome job ≡ x → listed supplier_lines x ≡ listed plan_lines x
    go (refuses number part at) e = refused_lines number part at
    go (accepts p) e = absurd (d (accepted_is job p e))

pub supplier_listing_holds : SupplierListing job_call listing_call supplier_listing_call
supplier_listing_holds = record {
  accepted = supplier_job;
  refused = λ job table supplier tally k l d lent buffer h. (handed_back supplier_lines job lent buffer h).front ∙ refusal_shown supplier_lines job table supplier tally k l d;
  refused_same = refused_same;
  room = λ job lent buffer l m. ap (λ a. a.number) (enough supplier_lines job lent buffer l m (listing_short Supplier job)).0;
  table_back = λ job table buffer buffer'. refl;
  tells = λ job job' table table' supplier supplier' tally tally' j j' lent lent' buffer buffer' h h'.
      let e = j.lines lent buffer h in
      let e' = j'.lines lent' buffer' h' in
      ((λ q. same_result j j' (sym e ∙ q ∙ e')), (λ f. e ∙ same_shown j j' f ∙ sym e'));
  hides = hides;
}
