use Prim.Native.Nat.{ℕ, ◌+◌, ◌*◌, ◌≤◌}
use mathlib.Core.Path.{◌≡◌, refl, sym, ◌∙◌, ap}
use mathlib.Core.List.{List}
use native.Mathlib.Omega.{arith}
use lib.IntN.{ℤ, pos}
use lib.ListN.{length, replicate, length-replicate}
use mir.Syntax.{w32, w64}
use mir.Val.{SFits, to_z, of_z}
use Rattle.integers.proofs.Machine.{fits_signed, cast_fits, cast_read}
use Rattle.forms.specs.Form.{entry}
use Rattle.forms.specs.Table.{table_numbers, with_table}
use Rattle.register.specs.declared.Register.{Register}
use Rattle.register.specs.Register.{coefficient}
use Rattle.register.specs.Valid as R
use Rattle.scheme.specs.declared.Scheme.{Scheme}
use Rattle.scheme.specs.Scheme.{variables, side}
use Rattle.scheme.specs.Function.{g}
use Rattle.scheme.specs.Valid.{Valid}
use Rattle.scheme.proofs.Truncated.{valid_register}
use Rattle.penalty.proofs.Bounds.{side_square}
use Rattle.wire.specs.Number.{written}
use Rattle.wire.specs.Results.{number_of}
use Rattle.wire.specs.Writer.{refused_answer, written_answer}
use Rattle.wire.proofs.Writer.{bytes_short, bytes_fit}
use Rattle.plain.specs.InTable.{Small, commands_in, encode_in}
use Rattle.plain.specs.Encoding.{encode_plain}
use Rattle.plain.specs.Answer.{own_room}
use Rattle.plain.proofs.InTable.{table_small, commands_are, encode_is}
use Rattle.plain.proofs.Encoded.{length-plain, plain_bytes, room_small}
use Rattle.plain.proofs.plain_certificate.Goals as goal

-- t is the table of g
module _ (r : Register) (s : Scheme) (register : R.Valid r) (scheme : Valid r s) (t : List ℤ) (e : t ≡ with_table (side r.choices s) (entry (g (coefficient r) r s)) (replicate table_numbers (pos 0))) where
  abbrev N : ℕ
  N = variables r.choices s

  -- those that are written
  abbrev bytes : List ℕ
  bytes = encode_plain (coefficient r) r s

  fits : side r.choices s * side r.choices s ≤ length (replicate table_numbers (pos 0))
  fits = rw length-replicate (side_square r s scheme)

  small : Small N t
  small = table_small (coefficient r) r s t _ e register scheme refl fits

  -- the count of bytes
  counted : 14 + 10 * length (commands_in N t) ≡ length bytes
  counted = ap (λ l. 14 + 10 * length l) (commands_are (coefficient r) r s t _ e) ∙ sym (length-plain (coefficient r) r s)

  -- x is how many commands there are
  module _ (x : ℕ) (f : x ≡ length (commands_in N t)) where
    bytes_total : 14 + 10 * x ≡ length bytes
    bytes_total = ap (λ y. 14 + 10 * y) f ∙ counted

    total_few : 14 + 10 * x ≤ own_room
    total_few = rw bytes_total (plain_bytes (coefficient r) r s scheme)

  -- the base cost as the code passes it
  base_fits : SFits w64 (to_z w32 (of_z w32 r.base))
  base_fits = cast_fits w32 w64 r.base (omega arith) (fits_signed w32 r.base (omega (arith, register.within.base)))

  base_same : to_z w64 (of_z w64 (to_z w32 (of_z w32 r.base))) ≡ r.base
  base_same = cast_read w32 w64 r.base (omega arith) (fits_signed w32 r.base (omega (arith, register.within.base)))

  encoded : (b : ℤ) → b ≡ r.base → encode_in N b t ≡ bytes
  encoded b d = ap (λ x. encode_in N x t) d ∙ encode_is (coefficient r) r s t _ e

pub invariant_of-table : goal.invariant_of-table
invariant_of-table c =
    let q = c.args.quadratization.now in
    record { small = small q.register q.scheme (valid_register q.register_valid) q.scheme_valid _ c.function_table-numbers.ensures }

pub overflow_mul-count : goal.overflow_mul-count
overflow_mul-count c =
    let q = c.args.quadratization.now in
    omega (arith, total_few q.register q.scheme (valid_register q.register_valid) q.scheme_valid _ c.function_table-numbers.ensures _ c.command_count.ensures, room_small)

pub overflow_add-count : goal.overflow_add-count
overflow_add-count c =
    let q = c.args.quadratization.now in
    omega (arith, total_few q.register q.scheme (valid_register q.register_valid) q.scheme_valid _ c.function_table-numbers.ensures _ c.command_count.ensures, room_small)

pub returns-then-out-count : goal.returns-then-out-count
returns-then-out-count c =
    let q = c.args.quadratization.now in
    let e = bytes_total q.register q.scheme (valid_register q.register_valid) q.scheme_valid _ c.function_table-numbers.ensures _ c.command_count.ensures in
    let y = bytes_short (encode_plain (coefficient q.register) q.register q.scheme) c.args.out.now (rw (← e) c.if-out-count.true) in
    record { value = ap (λ f. refused_answer (number_of f.refusal) f.part f.position) c.nowhere.ensures ∙ y.0; out_after = y.1 }

pub put_certificate-requires : goal.put_certificate-requires
put_certificate-requires c =
    let q = c.args.quadratization.now in
    let v = valid_register q.register_valid in
    let f = c.function_table-numbers.ensures in
    let same = ap (λ z. to_z w64 (of_z w64 z)) c.from.ensures ∙ base_same q.register q.scheme v q.scheme_valid _ f in
    record {
      base_bound = rw same v.within.base;
      out_in_bounds = omega (arith, ap length (encoded q.register q.scheme v q.scheme_valid _ f _ same), bytes_total q.register q.scheme v q.scheme_valid _ f _ c.command_count.ensures, c.if-out-count.false);
    }

pub returns : goal.returns
returns c =
    let q = c.args.quadratization.now in
    let v = valid_register q.register_valid in
    let f = c.function_table-numbers.ensures in
    let same = ap (λ z. to_z w64 (of_z w64 z)) c.from.ensures ∙ base_same q.register q.scheme v q.scheme_valid _ f in
    let e = bytes_total q.register q.scheme v q.scheme_valid _ f _ c.command_count.ensures in
    let y = bytes_fit (encode_plain (coefficient q.register) q.register q.scheme) c.args.out.now (rw (← e) c.if-out-count.false) in
    record {
      value = ap written_answer e ∙ y.0;
      out_after = c.put_certificate.ensures ∙ ap (written c.args.out.now 0) (encoded q.register q.scheme v q.scheme_valid _ f _ same) ∙ y.1;
    }
