use mathlib.Core.Path.{◌∙◌, ap}
use Rattle.wire.specs.Part.{by_itself}
use Rattle.wire.specs.Results.{whole_of}
use Rattle.wire.proofs.Results.{whole_added}
use Rattle.register.specs.Format.{register_in_job, register_by_itself}
use Rattle.register.proofs.open_register.Goals as goal

pub returns : goal.returns
unfolding register_by_itself
returns c = let s = c.args.bytes.now in c.by_itself.ensures ∙ ap (λ x. whole_of 1 (by_itself s x)) c.read_register.ensures ∙ whole_added 1 s (register_in_job s)
