-- Done for a part that says a record by the entries of some kinds, after a header, and then by one end command: what that means.
use mathlib.Core.Path.{◌≡◌, ◌∙◌, ap}
use mathlib.Core.List.{List, [], ◌∷◌, ◌++◌}
use Rattle.wire.specs.Encoding.{Command}
use Rattle.wire.specs.Grammar.{Only, Then, Kind, Kinds}
use Rattle.wire.proofs.Grammar.{last_from, last_from_one, under_all, kinds_said, said_kinds}
use Rattle.wire.proofs.Acceptance.{Means}

module _ {R : Type 0} (Valid : R → Type 0) (HeaderWhere : Type 0 → R → List Command → Type 0) (kinds : List (Kind R)) (end : Command) where
  -- what commands say of the record is known where B holds
  pub record Ends (B : Type 0) (r : R) (cs : List Command) : Type 0 where
    pub valid : Valid r
    pub body : Then (Kinds r (HeaderWhere B r) (under_all B kinds)) (Only (λ c. (c.byte ≡ end.byte) × (B → c ≡ end))) cs

  module _ (Header : R → List Command → Type 0) (said : (B : Type 0) (r : R) (cs : List Command) → B → HeaderWhere B r cs → Header r cs)
      (says : (B : Type 0) (r : R) (cs : List Command) → Header r cs → HeaderWhere B r cs) where
    ends_last : (B : Type 0) (r : R) (cs : List Command) → Ends B r cs → last_from 0 cs ≡ end.byte
    ends_last B r cs d =
        let e = d.body.is_second in
        let q : cs ≡ d.body.first ++ (e.command ∷ []) = d.body.whole ∙ rw e.whole in
        ap (last_from 0) q ∙ last_from_one 0 d.body.first e.command ∙ e.form.0

    pub ends_means : Means Ends Valid (λ r. Then (Kinds r (Header r) kinds) (Only (λ c. c ≡ end))) (λ b. b ≡ end.byte)
    ends_means = record {
      valid = λ B r cs d. (d.valid, ends_last B r cs d);
      said = λ B r cs b d.
          let t = d.body in
          record {
            first = t.first;
            second = t.second;
            is_first = kinds_said r B b (HeaderWhere B r) (Header r) kinds t.first (λ ds. said B r ds b) t.is_first;
            is_second = record { command = t.is_second.command; form = t.is_second.form.1 b; whole = t.is_second.whole };
            whole = t.whole;
          };
      done = λ r cs v t. record {
        valid = v;
        body = record {
          first = t.first;
          second = t.second;
          is_first = said_kinds r (Unit {0}) (Header r) (HeaderWhere (Unit {0}) r) kinds t.first (says (Unit {0}) r) t.is_first;
          is_second = record { command = t.is_second.command; form = (rw t.is_second.form, λ b. t.is_second.form); whole = t.is_second.whole };
          whole = t.whole;
        };
      };
    }
