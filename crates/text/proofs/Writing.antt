-- One writer's call after another.
use Prim.Native.Nat.{ℕ}
use mathlib.Core.Path.{◌≡◌, refl, ◌∙◌, ap}
use mathlib.Core.List.{List, [], ◌++◌}
use lib.ListN.{length}
use Rattle.wire.proofs.Written.{Wrote, and_then, same, nothing, length-written}
use Rattle.text.specs.declared.Writer.{Writer}
use Rattle.text.specs.Writing.{Writes}

wrote : {bytes : List ℕ} {t u : Writer} → Writes bytes t u → Wrote t.out.now t.at bytes u.at u.out.now
wrote w = (w.value, w.out_after)

pub writes_then : {a b : List ℕ} {t u v : Writer} → Writes a t u → Writes b u v → Writes (a ++ b) t v
writes_then {a} {b} {t} x y =
    let w = and_then t.out.now t.at a b (wrote x) (wrote y) in
    record { same_reference = y.same_reference ∙ x.same_reference; value = w.0; out_after = w.1 }

pub writes_same : {a b : List ℕ} {t u : Writer} → Writes a t u → a ≡ b → Writes b t u
writes_same {a} {b} {t} x e =
    let w = same t.out.now t.at e (wrote x) in
    record { same_reference = x.same_reference; value = w.0; out_after = w.1 }

pub writes_nothing : (t : Writer) → Writes [] t t
writes_nothing t = let w = nothing t.out.now t.at in record { same_reference = refl; value = w.0; out_after = w.1 }

-- the buffer keeps its length
pub length_kept : {a : List ℕ} {t u : Writer} → Writes a t u → length u.out.now ≡ length t.out.now
length_kept {a} {t} x = ap length x.out_after ∙ length-written t.out.now t.at a
