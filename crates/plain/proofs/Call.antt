-- What the call hands back: the bytes of our own certificate, which read back as it was written and which the check accepts, and all
-- else as it was.
use Prim.Native.Nat.{ℕ, ◌≤◌}
use mathlib.Core.Path.{◌≡◌, refl, ◌∙◌, ap}
use mathlib.Core.List.{List}
use lib.IntN.{ℤ}
use lib.ListN.{length, take, drop}
use Rattle.wire.specs.Part.{accepted}
use Rattle.wire.specs.Outcome.{Outcome, refuses, accepts, answer_by}
use Rattle.wire.specs.Writer.{refused_answer, bytes_answer, with_front}
use Rattle.wire.proofs.Outcome.{Numbered}
use Rattle.wire.proofs.Writer.{HandedBack, bytes_keep}
use Rattle.wire.proofs.Accepting.{reached}
use Rattle.forms.specs.Table.{table_numbers}
use Rattle.register.specs.declared.Register.{Register}
use Rattle.plan.specs.Chosen.{chosen}
use Rattle.scheme.specs.declared.Scheme.{Scheme}
use Rattle.bound.specs.Opening.{open_chosen}
use Rattle.bound.specs.Format.{certificate_by_itself}
use Rattle.bound.specs.Check.{check_answer}
use Rattle.bound.proofs.Opening.{Chosen, chosen_opened, chosen_numbered}
use Rattle.plain.specs.Plain.{plain}
use Rattle.plain.specs.Answer.{own_bytes, own_room, plain_answer, plain_buffer}
use Rattle.plain.proofs.ReadBack.{own_reads, handed_back, own_accepted}
use Rattle.plain.proofs.ReadBack as B

module _ (t s q lent : List ℕ) where
  -- the bytes handed back
  abbrev back : List ℕ
  back = take (plain_answer t s q lent).count (plain_buffer t s q lent)

  -- the parts were accepted, and our own certificate for them, with the coefficients that the plan chooses, reads back from the bytes
  -- handed back, and is accepted beside the plan
  pub record Wrote : Type 0 where
    pub reg : Register
    pub sch : Scheme
    pub plan : ℕ
    pub opens : Chosen t s q reg sch plan
    pub hands_back : HandedBack (own_bytes reg sch plan) lent (plain_answer t s q lent) (plain_buffer t s q lent)
    pub reads : certificate_by_itself (chosen reg plan) reg sch back ≡ accepted (reached 0x3F (plain (chosen reg plan) reg sch)) (length back)
    pub accepts : (table : List ℤ) → table_numbers ≤ length table →
        check_answer t s back q table ≡ record { number = 0; part = 0; position = 0; bound = (plain (chosen reg plan) reg sch).target }

  wrote : (reg : Register) (sch : Scheme) (plan : ℕ) → Chosen t s q reg sch plan → (plain_answer t s q lent).number ≡ 0 → Wrote
  wrote reg sch plan o z = record {
    reg = reg;
    sch = sch;
    plan = plan;
    opens = o;
    hands_back = h;
    reads = rw h.front (own_reads t s q reg sch plan o);
    accepts = λ table l. ap (λ x. check_answer t s x q table) h.front ∙ own_accepted t s q reg sch plan o table l;
  }
    where
      h : HandedBack (own_bytes reg sch plan) lent (plain_answer t s q lent) (plain_buffer t s q lent)
      h = handed_back t s q reg sch plan o lent z

  -- where the call answers 0
  pub call_reads : (plain_answer t s q lent).number ≡ 0 → Wrote
  unfolding plain_answer
  call_reads z = go (open_chosen t s q) refl (chosen_numbered t s q) z
    where
      go : (x : Outcome (Register × Scheme × ℕ)) → open_chosen t s q ≡ x → Numbered x → (answer_by refused_answer (λ (reg, sch, p). bytes_answer (own_bytes reg sch p) lent) x).number ≡ 0 → Wrote
      go (refuses n part at) e d a = absurd (d a)
      go (accepts (reg, sch, plan)) e d a = wrote reg sch plan (chosen_opened t s q reg sch plan e) z

  -- it does where the parts are accepted and there is room for the longest
  pub enough : (reg : Register) (sch : Scheme) (plan : ℕ) → open_chosen t s q ≡ accepts (reg, sch, plan) → own_room ≤ length lent → (plain_answer t s q lent).number ≡ 0
  enough reg sch plan e = B.enough t s q reg sch plan (chosen_opened t s q reg sch plan e) lent

  -- bytes past the count are as they were: all of them where the call is refused
  pub call_keeps : drop (plain_answer t s q lent).count (plain_buffer t s q lent) ≡ drop (plain_answer t s q lent).count lent
  unfolding plain_answer plain_buffer
  call_keeps = go (open_chosen t s q)
    where
      go : (x : Outcome (Register × Scheme × ℕ)) → let n = (answer_by refused_answer (λ (reg, sch, p). bytes_answer (own_bytes reg sch p) lent) x).count in
          drop n (answer_by (λ number part at. lent) (λ (reg, sch, p). with_front (own_bytes reg sch p) lent) x) ≡ drop n lent
      go (refuses n part at) = refl
      go (accepts (reg, sch, p)) = bytes_keep (own_bytes reg sch p) lent
