-- The bytes of commands, and which lists of commands a part accepts.
use Rattle.std.specs.Prelude.{ℕ, ◌^◌, ◌<◌, ◌≡◌, true, cond}
use mathlib.Core.List.{List, [], ◌∷◌, ◌++◌, flat_map}
use Rattle.wire.specs.Number.{bytes_of}
use Rattle.wire.specs.Checks.{refusal}
use Rattle.wire.specs.Part.{Part}

-- a command: its byte, and its operands as unsigned numbers
pub record Command : Type 0 where
  pub byte : ℕ
  pub operands : List ℕ

-- the bytes of operands of these widths
unfoldable pub fields : List ℕ → List ℕ → List ℕ
fields [] xs = []
fields (w ∷ ws) [] = []
fields (w ∷ ws) (x ∷ xs) = bytes_of w x ++ fields ws xs

-- one operand for each width, that fits it
abbrev pub Fit : List ℕ → List ℕ → Type 0
Fit [] [] = Unit {0}
Fit [] (x ∷ xs) = ⊥
Fit (w ∷ ws) [] = ⊥
Fit (w ∷ ws) (x ∷ xs) = (x < 256 ^ w) × Fit ws xs

module _ {S : Type 0} (P : Part S) where
  unfoldable pub encode_command : Command → List ℕ
  encode_command c = c.byte ∷ fields (P.widths c.byte) c.operands

  -- commands one after the other
  unfoldable pub encode : List Command → List ℕ
  encode cs = flat_map encode_command cs

  -- a command that is not refused
  pub record Allowed (read : S) (c : Command) : Type 0 where
    pub byte : c.byte < 256
    pub here : P.here read c.byte ≡ true
    pub operands : Fit (P.widths c.byte) c.operands
    pub passes : refusal (P.checks read c.byte c.operands) ≡ 0

  abbrev pub after_command : S → Command → S
  after_command read c = P.after read c.byte c.operands

  -- the commands are allowed one after the other, the last of them and no other ends the part, and lead from what has been
  -- read to what is read in the end
  abbrev pub Accepts : S → List Command → S → Type 0
  Accepts read [] end = ⊥
  Accepts read (c ∷ cs) end =
      Allowed read c × cond (P.last c.byte) ((cs ≡ []) × (after_command read c ≡ end)) (Accepts (after_command read c) cs end)
