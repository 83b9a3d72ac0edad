-- Which lists of commands say a record: commands of some kinds one after the other, each entry in one of its forms. Written
-- without the reader.
use Rattle.std.specs.Prelude.{ℕ, zero, suc, ◌≡◌, ◌⊎◌, List, [], ◌∷◌, ◌++◌}
use Rattle.wire.specs.Part.{Part}
use Rattle.wire.specs.Encoding.{Command, encode}

-- one command, that is F
pub record Only (F : Command → Type 0) (cs : List Command) : Type 0 where
  pub command : Command
  pub form : F command
  pub whole : cs ≡ command ∷ []

-- one command that is F, or none, which D allows
abbrev pub Optional : Type 0 → (Command → Type 0) → List Command → Type 0
Optional D F cs = (D × (cs ≡ [])) ⊎ Only F cs

-- commands that are X, and then commands that are Y
pub record Then (X Y : List Command → Type 0) (cs : List Command) : Type 0 where
  pub first : List Command
  pub second : List Command
  pub is_first : X first
  pub is_second : Y second
  pub whole : cs ≡ first ++ second

-- a command for each i below n: F i c, that c is a form of entry i
abbrev pub Each : (ℕ → Command → Type 0) → ℕ → List Command → Type 0
Each F zero cs = cs ≡ []
Each F (suc n) cs = Then (Each F n) (Only (F n)) cs

-- the number is one of the list
abbrev pub Among : ℕ → List ℕ → Type 0
Among b [] = ⊥
Among b (c ∷ cs) = (b ≡ c) ⊎ Among b cs

-- a kind of entry of a record: the bytes of the commands that say one, how many entries there are, and that a command says
-- entry i
pub record Kind (R : Type 0) : Type 1 where
  pub bytes : List ℕ
  pub count : R → ℕ
  pub says : R → ℕ → Command → Type 0

-- a command is a form of entry i: its byte is one of the kind's, and it says the entry
abbrev pub Form : {R : Type 0} → Kind R → R → ℕ → Command → Type 0
Form k r i c = Among c.byte k.bytes × k.says r i c

-- the entries of each kind in turn, after commands that are X
abbrev pub Kinds : {R : Type 0} → R → (List Command → Type 0) → List (Kind R) → List Command → Type 0
Kinds r X [] = X
Kinds r X (k ∷ ks) = Kinds r (Then X (Each (Form k r) (k.count r))) ks

-- a run of bytes is an encoding of a record: the bytes of commands that say it; of the part only the widths of operands are used
pub record Encodes {R S : Type 0} (P : Part S) (Says : R → List Command → Type 0) (r : R) (s : List ℕ) : Type 0 where
  pub commands : List Command
  pub are : Says r commands
  pub bytes : s ≡ encode P commands
