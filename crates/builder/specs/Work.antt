-- What the builder's functions lead to, by the builder's definition.
use Rattle.std.specs.Prelude.{ℕ, ◌<◌, List, take, Result, Ok, Err}
use Rattle.integers.specs.Lists.{All}
use Rattle.scheme.specs.declared.Scheme.{Scheme}
use Rattle.scheme.specs.Scheme.{variables}
use Rattle.builder.specs.declared.list.Members.{Members}
use Rattle.builder.specs.declared.state.Full.{Full}
use Rattle.builder.specs.declared.state.Work.{Work}
use Rattle.builder.specs.Builder.{Step, full, next, WithVariable, WithList, Built, stopped, built}

-- the list that the array begins with
abbrev pub listed : Members → List ℕ
listed m = take m.count m.entries

-- these are variables
abbrev pub Inside : ℕ → Scheme → List ℕ → Type 0
Inside n sch members = All (λ v. v < variables n sch) members

-- the step that the code has come to: what it keeps, and what it answers

abbrev pub joined_step : Work → Result ℕ Full → Step WithVariable
joined_step w (Ok v) = next (record { scheme = w.scheme; variable = v })
joined_step w (Err e) = full

abbrev pub list_step : Work → Members → Result (Unit {0}) Full → Step WithList
list_step w m (Ok u) = next (record { scheme = w.scheme; members = listed m })
list_step w m (Err e) = full

abbrev pub scheme_step : Work → Result (Unit {0}) Full → Step Scheme
scheme_step w (Ok u) = next w.scheme
scheme_step w (Err e) = full

abbrev pub built_of : Result Scheme ℕ → Built
built_of (Ok sch) = built sch
built_of (Err t) = stopped t
