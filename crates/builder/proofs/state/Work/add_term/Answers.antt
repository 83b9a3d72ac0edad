-- By what the passes over the term's choices lead to.
use Rattle.std.proofs.Common.{rules}
use mathlib.Core.Path.{◌≡◌, ◌∙◌}
use Prim.Native.Nat.{suc, ◌≤◌}
use Rattle.scheme.specs.declared.Scheme.{Scheme}
use Rattle.builder.specs.declared.list.Members.{Members}
use Rattle.builder.specs.declared.state.Work.{Work}
use Rattle.builder.specs.Builder.{full, next, choices_of, split_of, build_term}
use Rattle.builder.specs.Work.{listed, scheme_step}
use Rattle.builder.proofs.Reducing.{reduced_step}
use Rattle.builder.proofs.Terms.{choices_inside, term_full, term_splits, term_count, term_ends, term_more}
use Rattle.builder.proofs.state.Work.add_term.Goals.{In_ok-reduce}
use Rattle.builder.proofs.state.Work.add_term.Goals as goal

pub reduce-requires : goal.reduce-requires
reduce-requires c = rw c.choices_of-members.ensures (choices_inside c.args.self.now.choices c.args.mask c.args.self.now.scheme)

pub returns-in_err-reduce-clause-same : goal.returns-in_err-reduce-clause-same
returns-in_err-reduce-clause-same c =
    let answer : scheme_step c.reduce.new.self c.from_residual.result ≡ full = search rules in
    answer ∙ term_full _ _ _ (rw c.choices_of-members.ensures at (c.in_err-reduce.ensures.same))

-- once the list is reduced
module _ (c : In_ok-reduce) where
  abbrev w : Work
  w = c.args.self.now

  abbrev short : Work
  short = c.reduce.new.self

  abbrev members : Members
  members = c.reduce.new.members

  came : next (record { scheme = short.scheme; members = listed members }) ≡ reduced_step w.choices w.scheme (choices_of w.choices c.args.mask)
  came = rw c.choices_of-members.ensures at (c.in_ok-reduce.ensures.same)

  splits : short.scheme.splits ≡ w.scheme.splits
  splits = term_splits w.choices c.args.mask w.scheme c.requires.le_mask c.requires.mask_bound short.scheme members came

  count : (1 ≤ members.count) × (members.count ≤ 2)
  count = term_count w.choices c.args.mask w.scheme c.requires.le_mask c.requires.mask_bound short.scheme members came

  ends : (made : Scheme) → made ≡ split_of short.scheme (listed members) → next made ≡ build_term w.choices w.scheme c.args.mask
  ends = term_ends w.choices c.args.mask w.scheme c.requires.le_mask c.requires.mask_bound short.scheme members came

  more : (made : Scheme) → made ≡ split_of short.scheme (listed members) → made.splits ≡ suc w.scheme.splits
  more = term_more w.choices c.args.mask w.scheme c.requires.le_mask c.requires.mask_bound short.scheme members came

pub split-requires-clause-splits_lt_max_terms : goal.split-requires-clause-splits_lt_max_terms
split-requires-clause-splits_lt_max_terms c = rw (splits (goal.at.split-requires-clause-splits_lt_max_terms c).In_ok-reduce) c.requires.splits_lt_max_terms

pub split-requires-clause-le_count : goal.split-requires-clause-le_count
split-requires-clause-le_count c = (count (goal.at.split-requires-clause-le_count c).In_ok-reduce).0

pub split-requires-clause-count_bound : goal.split-requires-clause-count_bound
split-requires-clause-count_bound c = (count (goal.at.split-requires-clause-count_bound c).In_ok-reduce).1

pub returns-clause-same : goal.returns-clause-same
returns-clause-same c = ends (goal.at.returns-clause-same c).In_ok-reduce c.split.new.self.scheme c.split.ensures.scheme

pub returns-clause-splits : goal.returns-clause-splits
returns-clause-splits c = more (goal.at.returns-clause-splits c).In_ok-reduce c.split.new.self.scheme c.split.ensures.scheme
