-- A function of its parts.
use Rattle.std.proofs.Common.{◌≡◌, ◌<◌, ◌⊎◌, ℕ, List, [], ◌∷◌, length, ap, ◌∙◌, subst, arith, Result, Ok, Err}
use Rattle.std.specs.Prelude.{IfOk}
use Rattle.limbo_types.specs.Types.{Nothing}
use Rattle.limbo_typed.specs.Typed.{Function, Stmts}
use Rattle.limbo_scope.specs.Scopes.{Scope, entered, left}
use Rattle.limbo_context.specs.Context.{Context, Callee}
use Rattle.limbo_paths.specs.Paths.{Answers}
use Rattle.limbo_stmt_values.specs.limbo_local.Points.{Point}
use Rattle.limbo_stmt_values.specs.limbo_stating.Reasons.{Reason}
use Rattle.limbo_stmt_values.specs.limbo_stating.Stating.{StatesBlock}
use Rattle.limbo_stmt_values.specs.limbo_stating.Functions as functions
use Rattle.limbo_stmt_values.specs.limbo_stating.Functions.{Definition, parameter_names, parameter_meanings, outside, begins, IsFunction, FailsFunction}
use Rattle.limbo_stated_sound.specs.Growing.{around}
use Rattle.limbo_stated_sound.proofs.Moving.{around_all}
use Rattle.limbo_stated_sound.proofs.Rows.{block_leads}
use Rattle.limbo_stmt_values.specs.declared.fault.Why.{Why}
use Rattle.limbo_stmt_values.specs.Whys.{FailsFor}
use Rattle.limbo_stmt_values.proofs.Told.{reasons_weaker}
use Rattle.limbo_functions.specs.Headings as headings
use Rattle.limbo_functions.specs.Headings.{Begins, FailsHeading}
use Rattle.limbo_functions.specs.Bodies as bodies
use Rattle.limbo_functions.specs.Bodies.{IsBody, FailsBody, function_of}

pub whatever : {A E : Type 0} → (r : Result A E) (P : Type 0) → P → IfOk r (λ _. P)
whatever (Ok a) P h = h
whatever (Err e) P h = tt

-- Who leaves the innermost scope has those around it, if there are any.
left_around : (inner outer : List Scope) → around inner ≡ outer → 0 < length outer → left inner ≡ outer
left_around [] outer e l = e
left_around (s ∷ []) outer e l = absurd (no_more outer e l)
  where
    no_more : (outer : List Scope) → [] ≡ outer → 0 < length outer → ⊥
    no_more [] e l = omega arith
    no_more (s ∷ outer) e l = cc
left_around (s ∷ t ∷ inner) outer e l = e

module _ (m : List ℕ) (scopes : List Scope) (f : Callee) (d : Definition) (c : Context) where
  abbrev Starts : Point → Type 0
  Starts p = Begins c scopes d f.of p

  abbrev HasBody : Point → Stmts → Point → Type 0
  HasBody p zs q = IsBody (functions.around m f.of) p d.block zs q

  -- ---- scopes

  pub left_again : (p q : Point) (zs : Stmts) → Starts p → HasBody p zs q → left q.body.scopes ≡ scopes
  left_again p q zs s h =
      let l = block_leads (functions.around m f.of) p d.block h.stmt q h.states in
      let e : around p.body.scopes ≡ scopes =
      ap (λ (z : Point). around z.body.scopes) s.here
      ∙ around_all (parameter_meanings 0 (parameter_names d.of.params)) (entered scopes) in
      left_around q.body.scopes scopes (l.scopes ∙ e) s.there

  -- ---- the function

  pub is_function : (p q : Point) (zs : Stmts) (g : Function) (e : Context) → Starts p → HasBody p zs q
      → g ≡ function_of f d zs q
      → e ≡ q.context → IsFunction m scopes f d c g e
  is_function p q zs g e s h made on = record {
    once = s.once;
    header = s.header;
    stmt = h.stmt;
    behind = q;
    states = subst (λ (z : Point). StatesBlock (functions.around m f.of) z d.block h.stmt q) s.here h.states;
    answers = subst (λ (ss : Stmts). (f.of.answer ≡ Nothing) ⊎ Answers q.context.adts ss) h.are h.answers;
    gives = made ∙ ap (λ (ss : Stmts). function_of f d ss q) h.are;
    goes_on = on;
  }

  -- ---- refusals

  pub heading_fails : (w : Why) → FailsFor w (FailsHeading c (outside scopes) d.of f.of) → FailsFor w (FailsFunction m scopes f d c)
  heading_fails w h = reasons_weaker w _ _ go h
    where
      go : (k : Reason) → FailsHeading c (outside scopes) d.of f.of k → FailsFunction m scopes f d c k
      go _ (headings.again n) = functions.again n
      go _ (headings.a_type k x) = functions.a_type k x
      go _ (headings.unlike other x n) = functions.unlike other x n

  pub body_fails : (w : Why) (p : Point) → Starts p → FailsFor w (FailsBody (functions.around m f.of) p d.block)
      → FailsFor w (FailsFunction m scopes f d c)
  body_fails w p s h =
      reasons_weaker w _ _ (λ k x. go k (subst (λ (z : Point). FailsBody (functions.around m f.of) z d.block k) s.here x)) h
    where
      go : (k : Reason) → FailsBody (functions.around m f.of) (begins c scopes d f.of) d.block k → FailsFunction m scopes f d c k
      go _ (bodies.in_block k x) = functions.in_block k x
      go _ (bodies.no_answer z q n x a) = functions.no_answer z q n x a
