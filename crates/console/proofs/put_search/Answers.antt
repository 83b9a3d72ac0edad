-- By the answer's number: the `F` lines and then the `S` line, or the line of a refusal.
use Prim.Native.Nat.{ℕ, ◌+◌, ◌<◌, ◌^◌}
use native.Mathlib.Omega.{arith}
use mathlib.Core.Path.{◌≡◌, sym, ap, ◌∙◌}
use mathlib.Core.List.{[], ◌∷◌, ◌++◌, append_assoc}
use lib.IntN.{ℤ, pos}
use lib.ListN.{length, length-append}
use lib.Signed.{mag}
use mir.Facts.{to_z-of_z}
use mir.Syntax.{w64}
use mir.Val.{SFits, to_z, of_z}
use borrow.Author.Rules.{rules}
use Rattle.text.specs.Text.{line}
use Rattle.register.specs.declared.Register.{Register}
use Rattle.search.specs.declared.SearchAnswer.{SearchAnswer}
use Rattle.listing.specs.Listing.{fed_lines}
use Rattle.listing.proofs.Bits.{signed}
use Rattle.console.specs.Cheapest.{search_line, search_lines}
use Rattle.console.proofs.Lengths.{found_is, refused_is}
use Rattle.console.proofs.put_search.Goals as goal

-- the last line, of numbers that were passed as bits
bits : (cost : ℤ) (visits : ℕ) (v : ℤ) → SFits w64 cost → v ≡ pos visits → mag v < 2 ^ 63 → line 0x53 (to_z w64 (of_z w64 cost) ∷ to_z w64 (of_z w64 v) ∷ []) ≡ search_line cost visits
bits cost visits v c e l = rw (to_z-of_z c, signed v visits e l)

-- how many bytes there are
total : (r : Register) (a : SearchAnswer) → a.number ≡ 0 → length (fed_lines r a.plan) + length (search_line a.cost a.visits) ≡ length (search_lines r a)
total r a h = sym (length-append (fed_lines r a.plan) (search_line a.cost a.visits)) ∙ ap length (found_is r a h)

pub put_fed-requires-clause-room : goal.put_fed-requires-clause-room
put_fed-requires-clause-room c = omega (arith, total c.args.register c.args.answer c.if-answer-eq0.true)

pub put_line-requires : goal.put_line-requires
put_line-requires c =
    let r = c.args.register in
    let a = c.args.answer in
    let fed = c.put_fed in
    let cost : SFits w64 a.cost = search rules in
    rw (bits a.cost a.visits c.from.result cost c.from.ensures c.from.type_inv)
    (omega (arith, total r a c.if-answer-eq0.true, ap length fed.ensures, length-append c.args.listing.now (fed_lines r a.plan)))

pub returns-then-answer-eq0 : goal.returns-then-answer-eq0
returns-then-answer-eq0 c =
    let r = c.args.register in
    let a = c.args.answer in
    let before = c.args.listing.now in
    let first = c.put_fed in
    let cost : SFits w64 a.cost = search rules in
    c.put_line.ensures
    ∙ ap (λ l. first.new.self ++ l) (bits a.cost a.visits c.from.result cost c.from.ensures c.from.type_inv)
    ∙ ap (λ l. l ++ search_line a.cost a.visits) first.ensures
    ∙ append_assoc before (fed_lines r a.plan) (search_line a.cost a.visits)
    ∙ ap (λ l. before ++ l) (found_is r a c.if-answer-eq0.true)

pub put_refusal-requires-clause-room : goal.put_refusal-requires-clause-room
put_refusal-requires-clause-room c = omega (arith, ap length (refused_is c.args.register c.args.answer c.if-answer-eq0.false))

pub returns-else-answer-eq0 : goal.returns-else-answer-eq0
returns-else-answer-eq0 c = c.put_refusal.ensures ∙ ap (λ l. c.args.listing.now ++ l) (refused_is c.args.register c.args.answer c.if-answer-eq0.false)
