-- What a certificate says.
use Rattle.std.specs.Prelude.{ℕ, List, [], ◌∷◌, ◌++◌, ℤ, pos}

-- a multiplier command: its byte, the variables that it names, for `3B` a row and a variable, and the multiplier m
pub record Multiplier : Type 0 where
  pub kind : ℕ
  pub names : List ℕ
  pub m : ℤ

-- a square (the paper's own term), w times the square of a linear form: its weight w, and the linear form's coefficients v,
-- place by place
pub record Square : Type 0 where
  pub w : ℕ
  pub v : List ℤ

-- scale s, target T, multipliers and squares, in the order of their commands
pub record Certificate : Type 0 where
  pub scale : ℕ
  pub target : ℤ
  pub multipliers : List Multiplier
  pub squares : List Square

-- nothing read yet
abbrev pub fresh : Certificate
fresh = record { scale = 0; target = pos 0; multipliers = []; squares = [] }

-- with other multipliers, and with other squares

abbrev pub set_multipliers : Certificate → List Multiplier → Certificate
set_multipliers k ts = record k { multipliers = ts }

abbrev pub set_squares : Certificate → List Square → Certificate
set_squares k qs = record k { squares = qs }

-- one multiplier more, and one square more

abbrev pub with_multiplier : Certificate → Multiplier → Certificate
with_multiplier k t = set_multipliers k (k.multipliers ++ (t ∷ []))

abbrev pub with_square : Certificate → Square → Certificate
with_square k q = set_squares k (k.squares ++ (q ∷ []))
