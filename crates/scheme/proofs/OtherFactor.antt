-- A scheme with another factor has the same sets and the same function g, and it is valid as well.
use mathlib.Core.Path.{◌≡◌, refl, ap, fun_ext}
use Prim.Native.Nat.{ℕ, suc}
use lib.ListN.{get_or}
use lib.IntN.{ℤ}
use Rattle.sets.specs.Sets.{is_subset}
use Rattle.register.specs.declared.Register.{Register}
use Rattle.scheme.specs.declared.Scheme.{Scheme}
use Rattle.scheme.specs.Scheme.{with_factor}
use Rattle.scheme.specs.Variables.{upward, E}
use Rattle.scheme.specs.Function.{g}
use Rattle.scheme.specs.Filling.{induced}
use Rattle.scheme.specs.Valid.{Factor, Within, Valid}
use Rattle.scheme.proofs.Variables.{up_to_same}

module _ (s : Scheme) (f : ℕ) where
  -- what the variables are given depends on the operands alone
  pub upward_with_factor : {A : Type 0} (n : ℕ) (choice : ℕ → A) (product : ℕ → A → A → A) → upward n (with_factor s f) choice product ≡ upward n s choice product
  unfolding upward
  upward_with_factor n choice product = fun_ext (λ v. ap (λ below. get_or below v (choice 0)) (up_to_same n (with_factor s f) s choice product (suc v) (λ w l m. (refl, refl))))

  pub E_with_factor : (n : ℕ) → E n (with_factor s f) ≡ E n s
  unfolding E
  E_with_factor n = upward_with_factor n _ _

  pub g_with_factor : (c : ℕ → ℤ) (r : Register) → g c r (with_factor s f) ≡ g c r s
  unfolding g
  g_with_factor c r = refl

  -- the conditions on the products and the splits are on operands and sets
  module _ (r : Register) where
    within_with_factor : Factor f → Within r s → Within r (with_factor s f)
    within_with_factor h w = record {
      factor = h;
      lefts = w.lefts;
      rights = w.rights;
      products_within = w.products_within;
      variables_within = w.variables_within;
      products = λ k l m. rw (E_with_factor r.choices) (w.products k l m);
      split_lefts = w.split_lefts;
      split_rights = w.split_rights;
      splits_within = w.splits_within;
      splits = λ t l. rw (E_with_factor r.choices) (w.splits t l);
    }

    pub valid_with_factor : Factor f → Valid r s → Valid r (with_factor s f)
    valid_with_factor h v = record { within = within_with_factor h v.within; all_split = v.all_split }
