-- Where a part of a tree stands that is evaluated next: while it isn't evaluated, its step is that of the whole.
use Rattle.std.proofs.Common.{◌≡◌, ℕ, List, ◌++◌, Option, refl, ap, ◌∙◌}
use Rattle.std.specs.Prelude.{slice_get}
use Rattle.process_model.specs.Process.{Went, Ends}
use Rattle.system_model.specs.Prints.{print}
use Rattle.system_model.specs.Ending.{Broken}
use Rattle.limbo_types.specs.Types.{Ty}
use Rattle.limbo_meaning.specs.Values.{Value}
use Rattle.limbo_meaning.specs.Memory.{Memory}
use Rattle.limbo_meaning.specs.Operations.{holds}
use Rattle.limbo_meaning.specs.Trees.{Term, Block, Over, Eval, If, While, Return, Loop, Then, join, entered}
use Rattle.limbo_meaning.specs.Evaluation.{Progress, Stepped, Calls, Prints, Raises, after, next, fill, fill_block}
use Rattle.limbo_meaning.specs.Program.{Program}
use Rattle.limbo_meaning.specs.Process as source
use Rattle.limbo_meaning.specs.Process.{Shared, shared_with}
use Rattle.limbo_meaning.specs.Step.{evaluate, chosen}
use Rattle.core_code.specs.Machine.{Frame, memory_of}
use Rattle.core_follows.specs.Stands.{beside, sourced, sstep}

-- The program's frame with these variables, this held and this to do.
abbrev pub made : Frame → List Value → List (Option ℕ) → Block → source.Frame
made g variables held todo = record { instance = g.instance; variables = variables; held = held; answer = g.answer; todo = todo }

module _ (limit : ℕ) (program : Program) where
  pub record Carries {R T : Type 0} (nx : Memory → T → Progress R T) (fl : Value → T → T) (C : T → Block) : Type 0 where
    pub steps : (w : Shared) (g : Frame) (held : List (Option ℕ)) (n : ℕ) (below : List source.Frame) (m : Memory)
        (got : List (Option ℕ)) (t t' : T) → nx (memory_of w g) t ≡ Stepped m got t'
        → sstep limit program w (sourced n (beside g held (C t)) below)
        ≡ Went (shared_with w m) (sourced n (made g m.variables (held ++ got) (C t')) below)
    pub calls : (w : Shared) (g : Frame) (held : List (Option ℕ)) (n : ℕ) (below : List source.Frame) (a : Ty) (f : ℕ)
        (args : List Value) (t t' : T) → nx (memory_of w g) t ≡ Calls a f args t'
        → sstep limit program w (sourced n (beside g held (C t)) below)
        ≡ source.calls program.adts limit w (sourced n (beside g held (C t)) below) (C t') a (slice_get program.routines f) args
    pub prints : (w : Shared) (g : Frame) (held : List (Option ℕ)) (n : ℕ) (below : List source.Frame) (text : List ℕ) (t t' : T)
        → nx (memory_of w g) t ≡ Prints text t'
        → sstep limit program w (sourced n (beside g held (C t)) below)
        ≡ source.prints w (sourced n (beside g held (C t)) below) (C t') (print w.outside text)
    pub raises : (w : Shared) (g : Frame) (held : List (Option ℕ)) (n : ℕ) (below : List source.Frame) (text : List ℕ) (t : T)
        → nx (memory_of w g) t ≡ Raises text
        → sstep limit program w (sourced n (beside g held (C t)) below) ≡ Ends w (Broken text)
    pub fills : (v : Value) (t : T) → fill_block v (C t) ≡ C (fl v t)

  -- A part of a part.
  pub carry : {R S T U : Type 0} (nx : Memory → T → Progress R T) (fl : Value → T → T) (ny : Memory → U → Progress S U)
      (fk : Value → U → U) (C : U → Block) → Carries ny fk C → (K : T → U) (go : Memory → R → Progress S U)
      → ((m : Memory) (t : T) → ny m (K t) ≡ after (nx m t) (go m) K) → ((v : Value) (t : T) → fk v (K t) ≡ K (fl v t))
      → Carries nx fl (λ t. C (K t))
  carry nx fl ny fk C c K go h k = record {
    steps = λ w g held n below m got t t' e. c.steps w g held n below m got (K t) (K t')
        (h (memory_of w g) t ∙ ap (λ p. after p (go (memory_of w g)) K) e);
    calls = λ w g held n below a f args t t' e. c.calls w g held n below a f args (K t) (K t')
        (h (memory_of w g) t ∙ ap (λ p. after p (go (memory_of w g)) K) e);
    prints = λ w g held n below text t t' e. c.prints w g held n below text (K t) (K t')
        (h (memory_of w g) t ∙ ap (λ p. after p (go (memory_of w g)) K) e);
    raises = λ w g held n below text t e. c.raises w g held n below text (K t)
        (h (memory_of w g) t ∙ ap (λ p. after p (go (memory_of w g)) K) e);
    fills = λ v t. c.fills v (K t) ∙ ap C (k v t);
  }

  -- ---- the expressions of statements

  pub in_eval : (rest : Block) → Carries (next program.adts) fill (λ t. Then (Eval t) rest)
  in_eval rest = record {
    steps = λ w g held n below m got t t' e. ap (λ p. evaluate limit program w (sourced n (beside g held (Then (Eval t) rest)) below)
        rest p Eval (λ v.
        source.drops w (sourced n (beside g held (Then (Eval t) rest)) below) held
        (source.goes w (sourced n (beside g held (Then (Eval t) rest)) below) rest))) e;
    calls = λ w g held n below a f args t t' e. ap (λ p. evaluate limit program w (sourced n (beside g held (Then (Eval t) rest)) below)
        rest p Eval (λ v.
        source.drops w (sourced n (beside g held (Then (Eval t) rest)) below) held
        (source.goes w (sourced n (beside g held (Then (Eval t) rest)) below) rest))) e;
    prints = λ w g held n below text t t' e. ap (λ p. evaluate limit program w (sourced n (beside g held (Then (Eval t) rest)) below)
        rest p Eval (λ v.
        source.drops w (sourced n (beside g held (Then (Eval t) rest)) below) held
        (source.goes w (sourced n (beside g held (Then (Eval t) rest)) below) rest))) e;
    raises = λ w g held n below text t e. ap (λ p. evaluate limit program w (sourced n (beside g held (Then (Eval t) rest)) below) rest p
        Eval (λ v.
        source.drops w (sourced n (beside g held (Then (Eval t) rest)) below) held
        (source.goes w (sourced n (beside g held (Then (Eval t) rest)) below) rest))) e;
    fills = λ v t. refl;
  }

  abbrev if_does : (a b rest : Block) → Shared → Frame → List (Option ℕ) → ℕ → List source.Frame → Term → Progress Value Term → source.Does
  if_does a b rest w g held n below t p =
      let q = sourced n (beside g held (Then (If t a b) rest)) below in
      evaluate limit program w q rest p (λ t. If t a b)
      (λ v. source.drops w q held (source.goes w q (Then Over (join (chosen (holds v) a b) (Then Over rest)))))

  pub in_if : (a b rest : Block) → Carries (next program.adts) fill (λ t. Then (If t a b) rest)
  in_if a b rest = record {
    steps = λ w g held n below m got t t' e. ap (λ p. if_does a b rest w g held n below t p) e;
    calls = λ w g held n below x f args t t' e. ap (λ p. if_does a b rest w g held n below t p) e;
    prints = λ w g held n below text t t' e. ap (λ p. if_does a b rest w g held n below t p) e;
    raises = λ w g held n below text t e. ap (λ p. if_does a b rest w g held n below t p) e;
    fills = λ v t. refl;
  }

  abbrev while_does : (l : Loop) (rest : Block) → Shared → Frame → List (Option ℕ) → ℕ → List source.Frame → Term → Progress Value Term
      → source.Does
  while_does l rest w g held n below t p =
      let q = sourced n (beside g held (Then (While t l) rest)) below in
      evaluate limit program w q rest p (λ t. While t l)
      (λ v. source.drops w q held (source.goes w q (Then Over (chosen (holds v) (entered l rest) rest))))

  pub in_while : (l : Loop) (rest : Block) → Carries (next program.adts) fill (λ t. Then (While t l) rest)
  in_while l rest = record {
    steps = λ w g held n below m got t t' e. ap (λ p. while_does l rest w g held n below t p) e;
    calls = λ w g held n below x f args t t' e. ap (λ p. while_does l rest w g held n below t p) e;
    prints = λ w g held n below text t t' e. ap (λ p. while_does l rest w g held n below t p) e;
    raises = λ w g held n below text t e. ap (λ p. while_does l rest w g held n below t p) e;
    fills = λ v t. refl;
  }

  abbrev return_does : (rest : Block) → Shared → Frame → List (Option ℕ) → ℕ → List source.Frame → Term → Progress Value Term → source.Does
  return_does rest w g held n below t p =
      let q = sourced n (beside g held (Then (Return t) rest)) below in
      evaluate limit program w q rest p Return (λ v. source.returns program.adts w q below v)

  pub in_return : (rest : Block) → Carries (next program.adts) fill (λ t. Then (Return t) rest)
  in_return rest = record {
    steps = λ w g held n below m got t t' e. ap (λ p. return_does rest w g held n below t p) e;
    calls = λ w g held n below x f args t t' e. ap (λ p. return_does rest w g held n below t p) e;
    prints = λ w g held n below text t t' e. ap (λ p. return_does rest w g held n below t p) e;
    raises = λ w g held n below text t e. ap (λ p. return_does rest w g held n below t p) e;
    fills = λ v t. refl;
  }
