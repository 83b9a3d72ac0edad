-- The answer of the call and its buffer, by what opening the parts leads to.
use Prim.Native.Nat.{ℕ}
use mathlib.Core.Path.{◌≡◌, sym, ◌∙◌, ap}
use mathlib.Core.List.{List}
use Rattle.wire.specs.Outcome.{refuses, accepts}
use Rattle.wire.specs.Writer.{refused_answer, bytes_answer, with_front}
use Rattle.register.specs.declared.Register.{Register}
use Rattle.register.specs.Register.{coefficient}
use Rattle.scheme.specs.declared.Scheme.{Scheme}
use Rattle.bound.specs.Opening.{open_chosen, opened_under}
use Rattle.bound.proofs.Opening.{Chosen, opens_chosen, under_refused, under_accepted}
use Rattle.plain.specs.Encoding.{encode_plain}
use Rattle.plain.specs.Answer.{own_bytes, plain_answer, plain_buffer}
use Rattle.plain.proofs.Same.{plain_under}

module _ (t s q lent : List ℕ) where
  pub part_refused : (n part at : ℕ) → open_chosen t s q ≡ refuses n part at → (refused_answer n part at ≡ plain_answer t s q lent) × (lent ≡ plain_buffer t s q lent)
  unfolding plain_answer plain_buffer
  part_refused n part at e = (rw e, rw e)

  pub parts_accepted : (reg : Register) (sch : Scheme) (plan : ℕ) → Chosen t s q reg sch plan →
      (plain_answer t s q lent ≡ bytes_answer (own_bytes reg sch plan) lent) × (plain_buffer t s q lent ≡ with_front (own_bytes reg sch plan) lent)
  unfolding plain_answer plain_buffer
  parts_accepted reg sch plan o = (rw (opens_chosen o), rw (opens_chosen o))

  -- ---- with the register that the code makes for the plan

  pub opening_refused : {n part at : ℕ} → refuses n part at ≡ opened_under t s q → (refused_answer n part at ≡ plain_answer t s q lent) × (lent ≡ plain_buffer t s q lent)
  opening_refused e = part_refused _ _ _ (under_refused t s q e)

  -- the bytes for it are written
  abbrev Written : Register → Scheme → Type 0
  Written made sch =
      let bytes = encode_plain (coefficient made) made sch in
      (bytes_answer bytes lent ≡ plain_answer t s q lent) × (with_front bytes lent ≡ plain_buffer t s q lent)

  pub opening_accepted : {made : Register} {sch : Scheme} → accepts (made, sch) ≡ opened_under t s q → Written made sch
  opening_accepted e =
      under_accepted t s q Written e λ reg sch plan o.
      let y = parts_accepted reg sch plan o in
      let same = plain_under reg o.parts.register_valid.within sch plan in
      (ap (λ b. bytes_answer b lent) same ∙ sym y.0, ap (λ b. with_front b lent) same ∙ sym y.1)
