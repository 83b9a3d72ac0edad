-- The reader's loop: what is read from here on is what the whole is, by the command that stands here.
use mathlib.Core.Path.{◌≡◌, sym, ◌∙◌, ap}
use Prim.Native.Nat.{◌+◌, ◌≤◌}
use mathlib.Core.Logic.{inl, inr}
use native.Mathlib.Omega.{arith}
use lib.ListN.{length, get_or}
use mir.Facts.{to_z-of_z}
use Rattle.std.proofs.Common.{rules}
use Rattle.wire.specs.Checks.{refusal}
use Rattle.wire.specs.Part.{refused, accepted, checks_at}
use Rattle.wire.specs.Outcome.{added_by}
use Rattle.wire.specs.Results.{number_of, number_in, reading_of}
use Rattle.wire.specs.Rows.{Progress}
use Rattle.wire.proofs.Accepting.{reached}
use Rattle.wire.proofs.Results.{numbered}
use Rattle.wire.proofs.Loop.{going_missing, going_refused}
use Rattle.certificate.specs.Certificate.{Certificate, fresh}
use Rattle.certificate.specs.Format.{command_size, certificate_part, commands_in_job}
use Rattle.certificate.specs.Answer.{IsMultiplier, counts_of}
use Rattle.certificate.proofs.Sizes.{size_above, size_scale}
use Rattle.certificate.proofs.Laws.{laws}
use Rattle.certificate.proofs.Going.{room, ends, counted_starts, seen, scale_counted, multiplier_counted, square_counted}
use Rattle.certificate.proofs.read_with_sets.Goals as goal
use Rattle.certificate.proofs.read_with_sets.Goals.{In_ok-map_err, in-59-1, in_default+else-command-lt48+then-command-lt58}

-- once the command here is not refused
module _ (c : In_ok-map_err) where
  abbrev p : Progress Certificate
  p = reached c.loop-at.previous c.loop-at.invariant.parsed

  unrefused : refusal (checks_at (certificate_part c.args.quadratization.now.register c.args.quadratization.now.scheme) c.args.bytes.now p c.loop-at.at) ≡ 0
  unrefused =
      let none : number_in c.refusal_at.result ≡ 0 = search rules in
      sym (c.refusal_at.ensures c.args.quadratization.now.register c.args.quadratization.now.scheme p (seen c.args.quadratization.now.register c.args.quadratization.now.scheme c.loop-at.invariant) c.requires) ∙ none

  within : c.loop-at.at + command_size (get_or c.args.bytes.now c.loop-at.at 0) ≤ length c.args.bytes.now
  within = room _ _ c.loop-at.invariant.going c.loop-at-test.true unrefused

  -- no other byte is left than the end's
  over : (0x30 ≤ get_or c.args.bytes.now c.loop-at.at 0 → get_or c.args.bytes.now c.loop-at.at 0 ≤ 0x3B → ⊥)
      → accepted c.loop-at.certificate (c.loop-at.at + command_size (get_or c.args.bytes.now c.loop-at.at 0)) ≡ added_by counts_of (commands_in_job c.args.quadratization.now.register c.args.quadratization.now.scheme c.args.bytes.now)
  over none = rw c.loop-at.invariant.counts_are (ap (added_by counts_of) (sym (ends _ _ c.loop-at.invariant.going c.loop-at-test.true unrefused none)))

pub loop-at-init : goal.loop-at-init
loop-at-init c = rw c.fresh-certificate.ensures (counted_starts _ _ _)

pub returns-in_err-map_err : goal.returns-in_err-map_err
unfolding commands_in_job
returns-in_err-map_err c =
    let i = c.loop-at in
    let r = c.in_err-map_err.field-0.0 in
    let answer : reading_of c.from_residual.result ≡ refused (number_of r.refusal) r.position = search rules in
    let place : r.position ≡ i.at = search rules in
    let judged : number_of r.refusal ≡ number_in c.refusal_at.result = search rules in
    let number_is = judged ∙ c.refusal_at.ensures c.args.quadratization.now.register c.args.quadratization.now.scheme _ (seen c.args.quadratization.now.register c.args.quadratization.now.scheme i.invariant) c.requires in
    answer ∙ ap (refused (number_of r.refusal)) place ∙ ap (added_by counts_of) (sym (going_refused fresh _ (laws _ _) i.invariant.going _ c.loop-at-test.true number_is (numbered r.refusal)))

pub overflow_add-end : goal.overflow_add-end
overflow_add-end c = record { fits = omega (arith, within (goal.at.overflow_add-end c).In_ok-map_err) }

-- scale and target

pub read-requires : goal.read-requires
read-requires c = omega (arith, size_scale, rw c.in-48.is at (within (goal.at.read-requires c).In_ok-map_err))

pub read-requires-in-48 : goal.read-requires-in-48
read-requires-in-48 c = omega (arith, size_scale, rw c.in-48.is at (within (goal.at.read-requires-in-48 c).In_ok-map_err))

pub loop-at-smaller-in-48 : goal.loop-at-smaller-in-48
loop-at-smaller-in-48 c = omega (arith, size_above (get_or c.args.bytes.now c.loop-at.at 0), within (goal.at.loop-at-smaller-in-48 c).In_ok-map_err)

pub loop-at-preserved-in-48 : goal.loop-at-preserved-in-48
loop-at-preserved-in-48 c =
    let e = (goal.at.loop-at-preserved-in-48 c).In_ok-map_err in
    rw (c.command_size.ensures, to_z-of_z (record { sfits = c.read-in-48.type_inv }), c.read-in-48.ensures, c.read.ensures)
    (scale_counted _ _ c.loop-at.invariant c.loop-at-test.true (unrefused e) c.in-48.is)

-- a square

pub loop-at-smaller-in-58 : goal.loop-at-smaller-in-58
loop-at-smaller-in-58 c = omega (arith, size_above (get_or c.args.bytes.now c.loop-at.at 0), within (goal.at.loop-at-smaller-in-58 c).In_ok-map_err)

pub loop-at-preserved-in-58 : goal.loop-at-preserved-in-58
loop-at-preserved-in-58 c =
    let e = (goal.at.loop-at-preserved-in-58 c).In_ok-map_err in
    rw c.command_size.ensures (square_counted _ _ c.loop-at.invariant c.loop-at-test.true (unrefused e) c.in-58.is)

-- a multiplier command

pub loop-at-smaller : goal.loop-at-smaller
loop-at-smaller c = omega (arith, size_above (get_or c.args.bytes.now c.loop-at.at 0), within (goal.at.loop-at-smaller c).In_ok-map_err)

pub loop-at-preserved : goal.loop-at-preserved
loop-at-preserved c =
    let e = (goal.at.loop-at-preserved c).In_ok-map_err in
    let kind : IsMultiplier (get_or c.args.bytes.now c.loop-at.at 0) = elim c.in-49-to-57-1.branch [
      | in-59-1 w ↦ inr (omega arith)
      | in_default+else-command-lt48+then-command-lt58 w ↦ inl (omega arith, omega arith)
    ] in
    rw c.command_size.ensures (multiplier_counted _ _ c.loop-at.invariant c.loop-at-test.true (unrefused e) kind)

-- the end

pub returns-in_default : goal.returns-in_default
returns-in_default c = rw c.command_size.ensures (over (goal.at.returns-in_default c).In_ok-map_err (λ p q. omega arith))

pub returns-in_default-2 : goal.returns-in_default-2
returns-in_default-2 c = rw c.command_size.ensures (over (goal.at.returns-in_default-2 c).In_ok-map_err (λ p q. omega arith))

pub returns : goal.returns
unfolding commands_in_job
returns c = ap (added_by counts_of) (sym (going_missing fresh _ (laws _ _) c.loop-at.invariant.going c.loop-at-test.false))
