use Rattle.std.proofs.Common.{length, rules, arith, ap}
use Rattle.vectors.proofs.Line.{first_at, first_at_end}
use Rattle.vectors.proofs.fields.FieldsIterator.next.Goals as goal

pub returns-in-Some-clause-steps : goal.returns-in-Some-clause-steps
returns-in-Some-clause-steps c =
    first_at c.args.self.now.left c.in_ok-left.left c.in_ok-left.was c.in-Some.space (search rules) (search rules) (search rules)

pub returns-in-Some-clause-goes : goal.returns-in-Some-clause-goes
returns-in-Some-clause-goes c =
    let cut = first_at c.args.self.now.left c.in_ok-left.left c.in_ok-left.was c.in-Some.space (search rules) (search rules) (search rules) in
    record { on = λ _. (tt, tt, omega (arith, ap length cut)); keeps = tt; rests = λ _. tt }

pub returns-in-None-clause-steps : goal.returns-in-None-clause-steps
returns-in-None-clause-steps c = first_at_end c.args.self.now.left c.in_ok-left.left c.in_ok-left.was (search rules)

pub returns-in-None-clause-goes : goal.returns-in-None-clause-goes
returns-in-None-clause-goes c =
    let cut = first_at_end c.args.self.now.left c.in_ok-left.left c.in_ok-left.was (search rules) in
    record { on = λ _. (tt, tt, omega (arith, ap length cut)); keeps = tt; rests = λ _. tt }
