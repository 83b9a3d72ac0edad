-- The laws of hidden bytes hold: which these are, and what is the same of two accepted jobs that agree in all others.
use Prim.Native.Nat.{ℕ}
use native.Mathlib.Omega.{arith}
use mathlib.Core.Path.{◌≡◌, refl, sym, ap, ◌∙◌}
use mathlib.Core.Bool.{false, cond}
use mathlib.Core.List.{List, ◌++◌}
use lib.IntN.{ℤ}
use lib.ListN.{length, get_or, drop, length-append}
use lib.Seq.{drop_at}
use Rattle.wire.specs.Number.{Bytes}
use Rattle.wire.specs.Part.{accepted}
use Rattle.wire.specs.Outcome.{accepts, and_then}
use Rattle.wire.specs.Encoding.{Command, encode, Accepts}
use Rattle.wire.proofs.Grammar.{last_from}
use Rattle.wire.proofs.Accepting.{reached}
use Rattle.wire.proofs.Walk.{accepts_sized}
use Rattle.wire.proofs.Outcome.{accepts_one}
use Rattle.register.specs.declared.Register.{Register}
use Rattle.register.specs.Register.{has_range}
use Rattle.register.specs.Format.{register_part, register_in_job}
use Rattle.register.proofs.Accept.{commands_accepted, register_accepted}
use Rattle.job.specs.Outcome.{Parts, of_register, order, before, in_turn, last_of, ended, outcome, table_by, table_after}
use Rattle.job.specs.Valid.{Valid, Encodes}
use Rattle.job.proofs.Sound.{accepted_valid}
use Rattle.job.proofs.Accept.{accepted_iff}
use Rattle.hidden.specs.Hidden.{hides, is_hidden, Agree}
use Rattle.hidden.specs.Alike.{SameButHidden, HiddenLaws}
use Rattle.hidden.proofs.Commands.{Ends}
use Rattle.hidden.proofs.Marks.{marks_of, walk_marks, places_only, places_all}
use Rattle.hidden.proofs.Blank.{Like, registers_alike}
use Rattle.job.proofs.Changed.{changed, alike_before}
use Rattle.hidden.proofs.Rest.{blank_parts, blind, after_blank, table_blank, after_same, table_same}

-- ---- an accepted job: the commands of its part 1, and what stands after them

record Opened (job : List ℕ) (p : Parts) : Type 0 where
  commands : List Command
  rest : List ℕ
  bytes : job ≡ encode register_part commands ++ rest
  accepts_them : Accepts register_part register_part.start commands (reached (last_from 0 commands) p.register)
  reads : register_in_job job ≡ accepted (reached 0x1F p.register) (length (encode register_part commands))

abbrev open_job : (job : List ℕ) (p : Parts) → Valid p → Encodes p job → Opened job p
open_job job p v k =
    let e = k.register in
    let rest = k.second ++ cond (has_range p.register) (k.fourth ++ k.third) (k.third ++ k.fourth) in
    record {
      commands = e.commands;
      rest = rest;
      bytes = k.bytes ∙ ap (λ x. x ++ rest) e.bytes;
      accepts_them = commands_accepted p.register e.commands v.register e.are;
      reads = ap register_in_job k.bytes ∙ register_accepted p.register k.first rest v.register e ∙ ap (λ x. accepted (reached 0x1F p.register) (length x)) e.bytes;
    }

module _ (job : List ℕ) (p : Parts) (o : Opened job p) where
  abbrev end : ℕ
  end = length (encode register_part o.commands)

  hidden_is : (at : ℕ) → is_hidden job at ≡ get_or (marks_of o.commands) at false
  unfolding is_hidden
  hidden_is at = rw o.bytes (ap (λ m. get_or m at false) (walk_marks o.rest o.commands register_part.start _ _ o.accepts_them (omega arith)))

  left : drop end job ≡ o.rest
  left = ap (drop end) o.bytes ∙ drop_at (encode register_part o.commands) o.rest end refl

  then_outcome : outcome job ≡ and_then (in_turn (order p.register) job (of_register p.register) end) (ended (last_of 1 (order p.register)) job)
  unfolding outcome
  then_outcome = rw o.reads

  then_table : (lent : List ℤ) → table_after job lent ≡ table_by job lent (in_turn (before 3 (order p.register)) job (of_register p.register) end)
  unfolding table_after
  then_table lent = rw o.reads

-- ---- two of them

module _ (job job' : List ℕ) (p p' : Parts) (o : Opened job p) (o' : Opened job' p') (a : Agree job job') where
  abbrev r : Register
  r = p.register

  abbrev r' : Register
  r' = p'.register

  alike : Ends register_part hides Like o.commands o'.commands (reached (last_from 0 o.commands) r) (reached (last_from 0 o'.commands) r') o.rest o'.rest
  alike = registers_alike o.commands o'.commands _ _ o.rest o'.rest o.accepts_them o'.accepts_them (record {
    lengths = sym (ap length o.bytes) ∙ a.lengths ∙ ap length o'.bytes;
    bytes = λ at h h'. sym (ap (λ s. get_or s at 0) o.bytes) ∙ a.bytes at (hidden_is job p o at ∙ h) (hidden_is job' p' o' at ∙ h') ∙ ap (λ s. get_or s at 0) o'.bytes;
  })

  same_places : (at : ℕ) → is_hidden job at ≡ is_hidden job' at
  same_places at = hidden_is job p o at ∙ ap (λ m. get_or m at false) alike.marked ∙ sym (hidden_is job' p' o' at)

  ends : end job p o ≡ end job' p' o'
  ends = omega (
    arith,
    a.lengths,
    ap length o.bytes ∙ length-append (encode register_part o.commands) o.rest,
    ap length o'.bytes ∙ length-append (encode register_part o'.commands) o'.rest,
    ap length alike.after,
  )

  after : drop (end job p o) job ≡ drop (end job p o) job'
  after = left job p o ∙ alike.after ∙ sym (left job' p' o') ∙ ap (λ n. drop n job') (sym ends)

  outcomes : changed blank_parts (outcome job) ≡ changed blank_parts (outcome job')
  outcomes =
      let n = end job p o in
      ap (changed blank_parts) (then_outcome job p o)
      ∙ sym (after_blank job r (of_register r) n (last_of 1 (order r)))
      ∙ after_same job job' a.lengths (order r) (blank_parts (of_register r)) n (last_of 1 (order r)) after
      ∙ ap (λ x. and_then (in_turn (order x) job' (of_register x) n) (ended (last_of 1 (order x)) job')) alike.like
      ∙ ap (λ k. and_then (in_turn (order r') job' (blank_parts (of_register r')) k) (ended (last_of 1 (order r')) job')) ends
      ∙ after_blank job' r' (of_register r') (end job' p' o') (last_of 1 (order r'))
      ∙ sym (ap (changed blank_parts) (then_outcome job' p' o'))

  same_parts : outcome job ≡ accepts p → outcome job' ≡ accepts p' → SameButHidden p p'
  same_parts e e' =
      let q : blank_parts p ≡ blank_parts p' = accepts_one (sym (ap (changed blank_parts) e) ∙ outcomes ∙ ap (changed blank_parts) e') in
      record {
        register = ap (λ (p : Parts). p.register) q;
        scheme = ap (λ (p : Parts). p.scheme) q;
        certificate = ap (λ (p : Parts). p.certificate) q;
        plan = ap (λ (p : Parts). p.plan) q;
      }

  same_table : (lent : List ℤ) → table_after job lent ≡ table_after job' lent
  same_table lent =
      let n = end job p o in
      then_table job p o lent
      ∙ sym (table_blank job (before 3 (order r)) (alike_before blank_parts 3 (order r) (blind r)) (of_register r) n lent)
      ∙ table_same job job' a.lengths (before 3 (order r)) (blank_parts (of_register r)) n lent after
      ∙ ap (λ x. table_by job' lent (in_turn (before 3 (order x)) job' (of_register x) n)) alike.like
      ∙ ap (λ k. table_by job' lent (in_turn (before 3 (order r')) job' (blank_parts (of_register r')) k)) ends
      ∙ table_blank job' (before 3 (order r')) (alike_before blank_parts 3 (order r') (blind r')) (of_register r') (end job' p' o') lent
      ∙ sym (then_table job' p' o' lent)

open_accepted : (job : List ℕ) (p : Parts) → Bytes job → outcome job ≡ accepts p → Opened job p
open_accepted job p b e = let (v, k) = (accepted_iff job p b).0 e in open_job job p v k

pub hidden_laws : HiddenLaws
hidden_laws = record {
  places = λ job p e k at.
      let o = open_job job p (accepted_valid job p e) k in
      let h = accepts_sized register_part o.commands _ _ o.accepts_them in
      let i = hidden_is job p o at in
      ((λ t. places_only o.commands h at (sym i ∙ t)), (λ q. i ∙ places_all o.commands h at q));
  same_places = λ job job' p p' b b' e e' a. same_places job job' p p' (open_accepted job p b e) (open_accepted job' p' b' e') a;
  same_parts = λ job job' p p' b b' e e' a. same_parts job job' p p' (open_accepted job p b e) (open_accepted job' p' b' e') a e e';
  same_table = λ job job' p p' b b' e e' a. same_table job job' p p' (open_accepted job p b e) (open_accepted job' p' b' e') a;
}
