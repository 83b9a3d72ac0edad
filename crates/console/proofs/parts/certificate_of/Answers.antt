-- From what the plain call answers to the parts.
use Prim.Native.Nat.{ℕ, ◌≤◌, ◌+◌, ◌-◌, ◌<◌, ◌^◌}
use mathlib.Core.Bool.{true, false, cond}
use lib.Dec.{eqb}
use native.Mathlib.Omega.{arith}
use mathlib.Core.Path.{◌≡◌, refl, ◌∙◌, sym, ap, subst}
use mathlib.Core.List.{List, ◌++◌}
use lib.ListN.{length, take, drop, length-drop}
use borrow.Author.Rules.{rules}
use Rattle.wire.specs.Outcome.{Outcome}
use Rattle.wire.specs.declared.WriterAnswer.{WriterAnswer}
use Rattle.plain.specs.Answer.{plain_answer, plain_buffer}
use Rattle.listing.specs.Answer.{listing_room}
use Rattle.job.proofs.Answers.{of_rest}
use Rattle.console.specs.declared.parts.Made.{Made}
use Rattle.console.specs.Parts.{made, printed, register_end, scheme_end, own_certificate, counted_from, certificate_after, line_in, answer_from}
use Rattle.console.proofs.Made.{Within, answer_in, text_in, end_within, scheme_end_within, after_within, own_is, counted_is, counted_text, counted_near, near, few, made_is, text_is}
use Rattle.console.proofs.parts.certificate_of.Goals as goal

-- what stands from part 2 on, as the code lends it
abbrev rest_of : List ℕ → ℕ → List ℕ
rest_of s two = take (length s - two) (drop two s)

rest_is : (s : List ℕ) (two : ℕ) → rest_of s two ≡ drop two s
rest_is s two = of_rest s two (λ r. r) refl

module _ (s text : List ℕ) (room : listing_room ≤ length text) (two : ℕ) (h : two ≡ register_end s) (end : ℕ) (g : end ≡ scheme_end (take two s) (rest_of s two)) where
  abbrev rest : List ℕ
  rest = rest_of s two

  -- what is made of all parts, and what it is of each by itself

  abbrev of_all : Outcome (List ℕ)
  of_all = certificate_after s

  abbrev of_each : Outcome (List ℕ)
  of_each = own_certificate (take two s) (take end rest) (drop end rest)

  all : of_all ≡ counted_from two (two + end) of_each
  unfolding certificate_after
  all = rw (g, rest_is s two, h)

  within : Within (length s) (counted_from two (two + end) of_each)
  within = subst (Within (length s)) all (after_within s)

  ends : two + end ≤ length s
  ends = omega (arith, h, end_within s, ap length (rest_is s two), length-drop two s, g, scheme_end_within (take two s) rest)

  -- of what the call answers to the parts, which are lent as slices, and leaves in the text
  module _ (answer : WriterAnswer) (out : List ℕ) (a : answer ≡ plain_answer (take two s) (take end rest) (take (length rest - end) (drop end rest)) text) (b : out ≡ plain_buffer (take two s) (take end rest) (take (length rest - end) (drop end rest)) text) where
    is : (answer ≡ answer_in of_each) × (out ≡ text_in of_each text)
    is =
        let (x, y) = own_is text room (take two s) (take end rest) (drop end rest) two (two + end) (length s) within in
        (of_rest rest end (λ k. plain_answer (take two s) (take end rest) k text) a ∙ x, of_rest rest end (λ k. plain_buffer (take two s) (take end rest) k text) b ∙ y)

    positions_near : length s < 2 ^ 63 → (two + answer.position < 2 ^ 64) × (two + end + answer.position < 2 ^ 64)
    positions_near l =
        let near : answer.position ≤ length s = omega (arith, ap (λ a. a.position) is.0, counted_near two (two + end) (length s) of_each within) in
        (omega (arith, ends), omega (arith, ends))

    module _ (from : WriterAnswer) (f : from ≡ answer_from two (two + end) answer) where
      counted : from ≡ answer_in of_all
      counted = f ∙ ap (answer_from two (two + end)) is.0 ∙ counted_is two (two + end) of_each ∙ ap answer_in (sym all)

      made_near : length s < 2 ^ 63 → (from.position < 2 ^ 63) × (from.count ≤ listing_room)
      made_near l =
          (omega (arith, ap (λ a. a.position) counted, near (length s) of_all (after_within s)), omega (arith, ap (λ a. a.count) counted, few (length s) of_all (after_within s)))

      text_all : out ≡ text_in of_all text
      text_all = is.1 ∙ counted_text two (two + end) of_each text ∙ ap (λ x. text_in x text) (sym all)

      value : (x : Made) → x ≡ record { count = cond (eqb from.number 0) from.count (length (line_in from)); refused = cond (eqb from.number 0) false true } → x ≡ made of_all
      value x v = v ∙ rw counted (made_is (length s) of_all (after_within s))

      text_after : (x : Made) (after : List ℕ) → x ≡ made of_all → after ≡ line_in from ++ drop (length (line_in from)) out → after ≡ printed of_all ++ drop x.count text
      text_after x after v t = t ∙ rw (counted, text_all, v) (text_is (length s) of_all (after_within s) text)

pub counted_from-requires : goal.counted_from-requires
counted_from-requires c =
    let l : length c.args.parts.now < 2 ^ 63 = search rules in
    let call = c.feedcheck_plain-answer.ensures in
    positions_near c.args.parts.now c.args.text.now c.requires _ c.end_of_register-two.ensures.value _ c.end_of_scheme-end.ensures.value _ _ call.value call.out_after l

pub made_of-requires-clause-position_bound : goal.made_of-requires-clause-position_bound
made_of-requires-clause-position_bound c =
    let l : length c.args.parts.now < 2 ^ 63 = search rules in
    let call = c.feedcheck_plain-answer.ensures in
    (made_near c.args.parts.now c.args.text.now c.requires _ c.end_of_register-two.ensures.value _ c.end_of_scheme-end.ensures.value _ _ call.value call.out_after _ c.counted_from.ensures l).0

pub made_of-requires-clause-written : goal.made_of-requires-clause-written
made_of-requires-clause-written c =
    let l : length c.args.parts.now < 2 ^ 63 = search rules in
    let call = c.feedcheck_plain-answer.ensures in
    (made_near c.args.parts.now c.args.text.now c.requires _ c.end_of_register-two.ensures.value _ c.end_of_scheme-end.ensures.value _ _ call.value call.out_after _ c.counted_from.ensures l).1

pub returns-clause-value : goal.returns-clause-value
returns-clause-value c =
    let call = c.feedcheck_plain-answer.ensures in
    value c.args.parts.now c.args.text.now c.requires _ c.end_of_register-two.ensures.value _ c.end_of_scheme-end.ensures.value _ _ call.value call.out_after _ c.counted_from.ensures _ c.made_of.ensures.value

pub returns-clause-text_after : goal.returns-clause-text_after
returns-clause-text_after c =
    let call = c.feedcheck_plain-answer.ensures in
    let v = value c.args.parts.now c.args.text.now c.requires _ c.end_of_register-two.ensures.value _ c.end_of_scheme-end.ensures.value _ _ call.value call.out_after _ c.counted_from.ensures _ c.made_of.ensures.value in
    text_after c.args.parts.now c.args.text.now c.requires _ c.end_of_register-two.ensures.value _ c.end_of_scheme-end.ensures.value _ _ call.value call.out_after _ c.counted_from.ensures _ _ v c.made_of.ensures.text_after
