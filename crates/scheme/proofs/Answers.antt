-- What parts 1 and 2 by themselves lead to, from the register that is opened and the scheme that is read.
use Prim.Native.Nat.{ℕ}
use mathlib.Core.Path.{◌≡◌, ◌∙◌, ap}
use mathlib.Core.List.{List}
use Rattle.std.specs.Prelude.{Result}
use Rattle.wire.specs.declared.refusals.Refused.{Refused}
use Rattle.wire.specs.declared.refusals.Read.{Read}
use Rattle.wire.specs.Part.{by_itself}
use Rattle.wire.specs.Outcome.{Outcome, accepts, given, and_then, added_by}
use Rattle.wire.specs.Results.{reading_of, whole_of}
use Rattle.wire.proofs.Results.{whole_added}
use Rattle.register.specs.declared.Register.{Register}
use Rattle.register.specs.Opening.{open_register}
use Rattle.scheme.specs.declared.Scheme.{Scheme}
use Rattle.scheme.specs.Format.{scheme_in_job, scheme_by_itself}
use Rattle.scheme.specs.Answer.{open_parts}

-- both parts, from a register that is opened and the scheme that is read with it
pub parts_opened : (t s : List ℕ) (reg : Register) (read : Result (Read Scheme) Refused) (x : Outcome Scheme) →
    accepts reg ≡ open_register t → reading_of read ≡ added_by (λ sch. sch) (scheme_in_job reg s) → x ≡ whole_of 2 (by_itself s (reading_of read)) →
    and_then x (λ sch. accepts (reg, sch)) ≡ open_parts t s
unfolding scheme_by_itself
parts_opened t s reg read x e d f =
    let g : x ≡ given 2 (by_itself s (scheme_in_job reg s)) = f ∙ ap (λ r. whole_of 2 (by_itself s r)) d ∙ whole_added 2 s (scheme_in_job reg s) in
    ap (λ y. and_then y (λ sch. accepts (reg, sch))) g ∙ ap (λ a. and_then a (λ reg. and_then (given 2 (scheme_by_itself reg s)) (λ sch. accepts (reg, sch)))) e
