-- The same programs as those of the meaning, whose code computes the same.
use Rattle.std.proofs.Common.{◌≡◌, ℕ, zero, suc, List, [], length, Option, Some, None, refl, subst, arith, codes}
use Rattle.std.specs.Prelude.{map, slice_get}
use Rattle.std.specs.Int.{int_wrap}
use Rattle.std.specs.Fmt.{digits}
use Rattle.styx_msg.specs.declared.message.Rmsg.TheVariants as r
use Rattle.process_model.specs.Process.{Went, Asks, Ends}
use Rattle.limbo_values.specs.declared.number.Kind.TheVariants as kind
use Rattle.limbo_typed.specs.Typed as typed
use Rattle.limbo_typed.specs.Typed.{Module}
use Rattle.system_model.specs.Ending.{Ended, Broken}
use Rattle.typed_meaning.specs.Runs.{first_world}
use Rattle.typed_meaning.proofs.Examples.{Outcome, in_front, written, steps_within, counting, read_first, loops, lazily, later_loop}
use Rattle.slot_code.specs.Code.{Function}
use Rattle.slot_code.specs.Machine.{Process, Does}
use Rattle.slot_code.specs.Step.{step, answer}
use Rattle.slot_code.specs.Rules.{first_process}
use Rattle.typed_lower.specs.Statements.{functions_code}
use Rattle.typed_lower.specs.Stands.{AllHandled}
use Rattle.typed_lower.specs.Keeps.{HasCode}

abbrev opening : Option Function → Process
opening (Some g) = first_process 0 g
opening None = first_process 0 (record { name = []; variables = []; parameters = 0; answer = kind.Int; code = [] })

-- At most so many instructions; each request is answered at once, with all that it asks.
abbrev mutual
  run : ℕ → List Function → Does → Option Outcome
  run zero fs d = None
  run (suc n) fs (Went w p) = run n fs (step 10000 fs w p)
  run (suc n) fs (Asks w m p) = in_front (written m) (run n fs (answer (r.Write (length (written m))) w p))
  run (suc n) fs (Ends w how) = Some (record { bytes = []; how = how })
  run (suc n) fs d = None

abbrev outcome : ℕ → Module → Option Outcome
outcome n m = run n (functions_code m) (Went (first_world m) (opening (slice_get (functions_code m) 0)))

abbrev Prints : ℕ → Module → List ℕ → Type 0
Prints n m text = outcome n m ≡ Some (record { bytes = text; how = Ended })

steps_print : Prints 30 steps_within (codes "4")
unfolding steps_within int_wrap digits lib.Utf8.encode
steps_print = refl

counts : Prints 60 counting (codes "14")
unfolding counting int_wrap digits lib.Utf8.encode
counts = refl

reads_first : Prints 40 read_first (codes "7")
unfolding read_first int_wrap digits lib.Utf8.encode
reads_first = refl

loops_print : Prints 200 loops (codes "00")
unfolding loops int_wrap digits lib.Utf8.encode
loops_print = refl

breaks_at_last : outcome 100 lazily ≡ Some (record { bytes = codes "1"; how = Broken (codes "zero divide") })
unfolding lazily int_wrap digits lib.Utf8.encode
breaks_at_last = refl

later_loop_prints : Prints 60 later_loop (codes "1")
unfolding later_loop int_wrap digits lib.Utf8.encode
later_loop_prints = refl

-- ---- the law is of such modules: all that stands in these has code

abbrev Handles : Option typed.Function → Type 0
Handles None = Unit {0}
Handles (Some f) = AllHandled (map (λ v. v.ty) f.variables) 0 f.body

has_code : (m : Module) → ((n : ℕ) → Handles (slice_get m.functions n)) → HasCode m
has_code m all n f e = subst Handles e (all n)

counting_all : (n : ℕ) → Handles (slice_get counting.functions n)
unfolding counting
counting_all zero = (tt, (((tt, (((tt, (tt, tt)), tt), tt)), tt, refl), (((tt, (tt, tt)), tt, refl), ((tt, tt), tt))))
counting_all (suc zero) = (((tt, (tt, tt)), tt), (tt, tt))
counting_all (suc (suc n)) = tt

counting_has_code : HasCode counting
counting_has_code = has_code counting counting_all

loops_all : (n : ℕ) → Handles (slice_get loops.functions n)
unfolding loops
loops_all zero = (
  (
    (tt, refl),
    ((tt, (tt, tt)), tt),
    (((tt, tt), tt, refl), refl),
    (
      (
        (tt, refl),
        tt,
        (((tt, tt), tt, refl), refl),
        (
          (((tt, (tt, tt)), tt), (omega arith, tt), tt),
          ((((tt, (tt, tt)), tt), (omega arith, tt), tt), ((tt, tt), (omega arith, tt))),
        ),
      ),
      tt,
    ),
  ),
  ((tt, tt), tt),
)
loops_all (suc n) = tt

loops_have_code : HasCode loops
loops_have_code = has_code loops loops_all
