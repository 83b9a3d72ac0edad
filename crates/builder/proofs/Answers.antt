-- What the builder's call answers, from what opening the register leads to.
use mathlib.Core.Path.{◌≡◌, ◌∙◌, ap}
use mathlib.Core.List.{List}
use Prim.Native.Nat.{ℕ}
use Rattle.wire.specs.Outcome.{Outcome, accepts, answer_by}
use Rattle.wire.specs.Writer.{refused_answer, bytes_answer, with_front}
use Rattle.register.specs.declared.Register.{Register}
use Rattle.register.specs.Opening.{open_register}
use Rattle.register.specs.Position.{term_position}
use Rattle.scheme.specs.declared.Scheme.{Scheme}
use Rattle.builder.specs.Builder.{stopped, built, build}
use Rattle.scheme.specs.Encoding.{encode_scheme}
use Rattle.builder.specs.Answer.{built_answer, built_buffer, build_answer, build_buffer}

module _ (s buffer : List ℕ) where
  answer_from : (x : Outcome Register) → x ≡ open_register s → answer_by refused_answer (λ reg. built_answer s reg buffer (build reg)) x ≡ build_answer s buffer
  answer_from x e = ap (answer_by refused_answer (λ reg. built_answer s reg buffer (build reg))) e

  buffer_from : (x : Outcome Register) → x ≡ open_register s → answer_by (λ number part at. buffer) (λ reg. built_buffer reg buffer (build reg)) x ≡ build_buffer s buffer
  buffer_from x e = ap (answer_by (λ number part at. buffer) (λ reg. built_buffer reg buffer (build reg))) e

  -- it is accepted
  module _ (reg : Register) (e : accepts reg ≡ open_register s) where
    -- a product past a limit is needed
    pub build_full : (t : ℕ) → stopped t ≡ build reg → (refused_answer 10 1 (term_position s t) ≡ build_answer s buffer) × (buffer ≡ build_buffer s buffer)
    build_full t d = (ap (built_answer s reg buffer) d ∙ answer_from (accepts reg) e, ap (built_buffer reg buffer) d ∙ buffer_from (accepts reg) e)

    -- a scheme is built
    pub build_whole : (sch : Scheme) → built sch ≡ build reg →
        (bytes_answer (encode_scheme reg.choices sch) buffer ≡ build_answer s buffer) × (with_front (encode_scheme reg.choices sch) buffer ≡ build_buffer s buffer)
    build_whole sch d = (ap (built_answer s reg buffer) d ∙ answer_from (accepts reg) e, ap (built_buffer reg buffer) d ∙ buffer_from (accepts reg) e)
