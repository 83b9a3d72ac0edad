-- What reads put into a buffer one after the other.
use Prim.Native.Nat.{ℕ, ◌+◌, ◌≤◌}
use mathlib.Core.Path.{◌≡◌, sym, ◌∙◌, ap, ap₂, subst}
use mathlib.Core.List.{List, ◌++◌}
use lib.ListN.{length, take, drop}
use lib.Seq.{take-add, drop_at, take-append-le, length-take-le}
use borrow.Rule.Slice.PartMut.{put_mid, take_put}
use Rattle.std.specs.Prelude.{Option}
use Rattle.std.specs.Io.KnownBytes.{Consumes}
use Rattle.std.proofs.KnownBytes.{Consumes-trans}

-- the front of a buffer with n bytes more, after a read into what stands past the front
pub read_after : (a b c : Option (List ℕ)) (done n room : ℕ) (buffer part : List ℕ) → done ≤ length buffer → n ≤ length part →
    Consumes a b (take done buffer) → Consumes b c (take n part) → Consumes a c (take (done + n) (put_mid done room buffer part))
read_after a b c done n room buffer part l m before read =
    let all = put_mid done room buffer part in
    let rest : take n (drop done all) ≡ take n part = ap (take n) (drop_at (take done buffer) _ done (length-take-le done buffer l)) ∙ take-append-le n part _ m in
    let joined : take (done + n) all ≡ take done buffer ++ take n part = take-add done n all ∙ ap₂ (λ x y. x ++ y) (take_put done room buffer part l) rest in
    subst (Consumes a c) (sym joined) (Consumes-trans a b c _ _ before read)
