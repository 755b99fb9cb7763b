-- Functions are sound, and all of a module.
use Rattle.std.proofs.Common.{◌≡◌, ◌<◌, ◌⊎◌, inl, inr, ℕ, suc, List, [], ◌∷◌, ◌++◌, length, map, take, Option, None, Some}
use Rattle.std.proofs.Common.{refl, sym, ap, subst, ◌∙◌, arith}
use Rattle.std.specs.Prelude.{slice_get}
use Rattle.std.proofs.lemmas.Option.{none-some, same_Some}
use Rattle.limbo_types.specs.Types.{Ty, FnTy}
use Rattle.limbo_tree.specs.Types as written
use Rattle.limbo_tree.specs.Decls as decls
use Rattle.limbo_typed.specs.Typed as typed
use Rattle.limbo_typed.specs.Typed.{Var, Function, Stmt, Module}
use Rattle.limbo_typed.specs.Sound.{Each, IsNamed, NamesAll, HasOwner, SoundStmt, SoundStmts, SoundFunction}
use Rattle.limbo_scope.specs.declared.meaning.Meaning.{Meaning}
use Rattle.limbo_scope.specs.declared.meaning.Meaning.TheVariants as meaning
use Rattle.limbo_scope.specs.Scopes.{Scope, seen, entered, declared}
use Rattle.limbo_scope.specs.Laws.{declared_all}
use Rattle.limbo_scope.proofs.Stacks.{innermost_counts}
use Rattle.limbo_context.specs.declared.context.Imported.{Imported}
use Rattle.limbo_context.specs.declared.context.Origin.TheVariants as origin
use Rattle.limbo_context.specs.Context.{Context, Body, Callee}
use Rattle.limbo_typed_sound.specs.limbo_written.Written.{MeansPermitted}
use Rattle.limbo_stating.specs.limbo_local.Local.{argument_types, ArePermitted, IsAnswer, IsHeader}
use Rattle.limbo_stating.specs.Functions.{Definition, parameter_names, parameters, parameter_meanings, outside, begins, around}
use Rattle.limbo_stating.specs.Functions.{body_of, function, IsFunction, AreFunctions}
use Rattle.limbo_typed_sound.specs.Describing.{Describes}
use Rattle.limbo_typed_sound.proofs.Bodies.{permitted_named}
use Rattle.limbo_typed_sound.proofs.More.{means_settled}
use Rattle.limbo_stated_sound.specs.Growing.{Extends}
use Rattle.limbo_stated_sound.specs.Proper.{IsProperBlock}
use Rattle.limbo_stated_sound.specs.Standing.{HasAllTypes, Covers, IsAround, Reaches, IsOutside, Opens}
use Rattle.limbo_stated_sound.proofs.Lists.{begins_itself, as_long}
use Rattle.limbo_stated_sound.proofs.Before.{covered_before}
use Rattle.limbo_stated_sound.proofs.Over.{item_at}
use Rattle.limbo_stated_sound.proofs.Leading.{extends_itself, extends_on}
use Rattle.limbo_stated_sound.proofs.Rows.{block_leads}
use Rattle.limbo_stated_sound.proofs.Knowing.{seen_declared}
use Rattle.limbo_stated_sound.proofs.Staying.{KnownAt}
use Rattle.limbo_stated_sound.proofs.Standing.{describes_of}
use Rattle.limbo_stated_sound.proofs.Going.{go_block}
use Rattle.limbo_stated_sound.proofs.Stated.{block}

-- ---- parameters

-- A name means a parameter, or what it means around the function.
abbrev IsSeen : List ℕ → List Scope → Meaning → Type 0
IsSeen other scopes j = ((x : ℕ) × (j ≡ meaning.Variable x)) ⊎ (seen other scopes ≡ Some j)

seen_parameters : (k : ℕ) (names : List (Option (List ℕ))) (other : List ℕ) (j : Meaning) (scopes : List Scope)
    → seen other (declared_all (parameter_meanings k names) scopes) ≡ Some j → IsSeen other scopes j
seen_parameters k [] other j scopes h = inr h
seen_parameters k (None ∷ names) other j scopes h = seen_parameters (suc k) names other j scopes h
seen_parameters k (Some n ∷ names) other j scopes h =
    go (seen_parameters (suc k) names other j (declared n (meaning.Variable k) scopes) h)
  where
    at : (j ≡ meaning.Variable k) ⊎ (seen other scopes ≡ Some j) → IsSeen other scopes j
    at (inl e) = inl (k, e)
    at (inr e) = inr e

    go : IsSeen other (declared n (meaning.Variable k) scopes) j → IsSeen other scopes j
    go (inl e) = inl e
    go (inr e) = at (seen_declared n other (meaning.Variable k) j scopes e)

seen_around : (d : Definition) (scopes : List Scope) (name : List ℕ) (j : Meaning)
    → seen name (declared_all (parameter_meanings 0 (parameter_names d.of.params)) (entered scopes)) ≡ Some j → IsSeen name scopes j
seen_around d scopes name j h = go (seen_parameters 0 (parameter_names d.of.params) name j (entered scopes) h)
  where
    go : IsSeen name (entered scopes) j → IsSeen name scopes j
    go (inl e) = inl e
    go (inr e) = inr (sym (innermost_counts.fresh name scopes) ∙ e)

as_many_names : (ps : List decls.Param) → length (argument_types ps) ≡ length (parameter_names ps)
as_many_names [] = refl
as_many_names (p ∷ ps) = one_more p.of p.names (argument_types ps) (parameter_names ps) (as_many_names ps)
  where
    one_more : (t : written.Ty) (ns : List (Option (List ℕ))) (ts : List written.Ty) (os : List (Option (List ℕ))) → length ts ≡ length os
        → length (map (λ n. t) ns ++ ts) ≡ length (ns ++ os)
    one_more t [] ts os e = e
    one_more t (n ∷ ns) ts os e = ap suc (one_more t ns ts os e)

as_many_types : (c : Context) (b : Body) (ts : List written.Ty) (us : List Ty) → ArePermitted c b ts us → length us ≡ length ts
as_many_types c b [] [] h = refl
as_many_types c b [] (u ∷ us) h = absurd h
as_many_types c b (t ∷ ts) [] h = absurd h
as_many_types c b (t ∷ ts) (u ∷ us) h = ap suc (as_many_types c b ts us h.1)

first_types : (ns : List (Option (List ℕ))) (ts : List Ty) (more : List Var) → length ts ≡ length ns
    → take (length ts) (map (λ v. v.ty) (parameters ns ts ++ more)) ≡ ts
first_types ns [] more e = refl
first_types [] (t ∷ ts) more e = absurd (omega arith)
first_types (n ∷ ns) (t ∷ ts) more e = ap (λ (z : List Ty). t ∷ z) (first_types ns ts more (omega arith))

module _ (m : Module) where
  parameters_named : (ns : List (Option (List ℕ))) (ts : List Ty) → NamesAll m ts → Each (λ v. IsNamed m v.ty) (parameters ns ts)
  parameters_named [] ts h = tt
  parameters_named (n ∷ ns) [] h = tt
  parameters_named (n ∷ ns) (t ∷ ts) h = (h.0, parameters_named ns ts h.1)

  module _ (c : Context) (describes : Describes m c) (b : Body) where
    meant_named : (t : written.Ty) (u : Ty) → MeansPermitted c b t u → IsNamed m u
    meant_named t u h = permitted_named m c describes u h.permitted (means_settled c describes.types b t u h.means)

    arguments_named : (ts : List written.Ty) (us : List Ty) → ArePermitted c b ts us → NamesAll m us
    arguments_named [] [] h = tt
    arguments_named [] (u ∷ us) h = absurd h
    arguments_named (t ∷ ts) [] h = absurd h
    arguments_named (t ∷ ts) (u ∷ us) h = (meant_named t u h.0, arguments_named ts us h.1)

    answer_named : (t : Option written.Ty) (u : Ty) → IsAnswer c b t u → IsNamed m u
    answer_named None u h = subst (IsNamed m) (sym h) (tt, tt)
    answer_named (Some t) u h = meant_named t u h.0

  -- ---- where a function begins

  begins_known : (scopes : List Scope) (c : Context) (d : Definition) (of : FnTy) → Opens m scopes c → IsHeader c (outside scopes) d.of of
      → KnownAt m (begins c scopes d of)
  begins_known scopes c d of o h = record {
    globals = o.describes.globals;
    functions = o.describes.functions;
    system = o.describes.system;
    fd = o.describes.fd;
    constants = o.describes.constants;
    types = o.describes.types;
    imports = o.describes.imports;
    named =
        parameters_named (parameter_names d.of.params) of.args
        (arguments_named c o.describes (outside scopes) (argument_types d.of.params) of.args h.args);
    imported = λ name n x i s e g. absurd (import name n x i e g (seen_around d scopes name (meaning.Import n) s));
    raises = λ name n s. raise name n (seen_around d scopes name (meaning.Exception n) s);
  }
    where
      import : (name : List ℕ) (n x : ℕ) (i : Imported) → slice_get c.imports n ≡ Some i → i.origin ≡ origin.Local x
          → IsSeen name scopes (meaning.Import n) → ⊥
      import name n x i e g (inl s) = let q = s.1 in cc
      import name n x i e g (inr s) = o.outside.imported name n x i s e g

      raise : (name : List ℕ) (n : ℕ) → IsSeen name scopes (meaning.Exception n) → n < length c.exceptions
      raise name n (inl s) = let q = s.1 in absurd cc
      raise name n (inr s) = o.outside.raises name n s

  -- ---- behind it

  outside_stays : (scopes : List Scope) (c e : Context) → Extends c e → IsOutside c scopes → IsOutside e scopes
  outside_stays scopes c e g o = record {
    known = λ name n s. let l = o.known name n s in let a = as_long c.imports e.imports g.imports in omega arith;
    imported = λ name n x i s q r.
        let j = item_at c.imports n (o.known name n s) in
        let p : j.0 ≡ i = same_Some j.0 i (sym (g.imports n j.0 j.1) ∙ q) in
        o.imported name n x i s (j.1 ∙ ap (λ (z : Imported). Some z) p) r;
    raises = λ name n s. let l = o.raises name n s in let a = as_long c.exceptions e.exceptions g.exceptions in omega arith;
  }

  stmts_sound : (f : Function) (z : Stmt) → SoundStmt m f [] z → SoundStmts m f [] (body_of z)
  stmts_sound f (typed.Block zs) h = h
  stmts_sound f _ h = (h, tt)

  pub function_sound : (name : List ℕ) (scopes : List Scope) (f : Callee) (d : Definition) (c e : Context) (g : Function) → HasAllTypes m
      → Opens m scopes c → Covers m e → HasOwner m f.owner → IsProperBlock d.block → IsFunction name scopes f d c g e
      → SoundFunction m g × Opens m scopes e
  function_sound name scopes f d c e g all o cover owner proper h =
      let p = begins c scopes d f.of in
      let v = around name f.of in
      let w = function f d h.stmt h.behind in
      let q : Covers m h.behind.context = subst (Covers m) h.goes_on cover in
      let k = begins_known scopes c d f.of o h.header in
      let l = block_leads v p d.block h.stmt h.behind h.states in
      let b = go_block m all v p d.block h.stmt h.behind q k proper h.states in
      let n = answer_named c o.describes (outside scopes) d.of.answer f.of.answer h.header.answer in
      let r : IsAround m w v = record { answer = refl; named = n; caught = λ i x. absurd (none-some i x) } in
      let t : Reaches w h.behind = record { variables = begins_itself h.behind.body.variables; catches = omega arith } in
      let s = block m all w v p d.block h.stmt h.behind q k r t proper h.states in
      let ns = parameter_names d.of.params in
      let a = as_many_types c (outside scopes) (argument_types d.of.params) f.of.args h.header.args ∙ as_many_names d.of.params in
      let x : SoundFunction m w = record {
        parameters =
            ap (λ (vs : List Var). take (length f.of.args) (map (λ v. v.ty) vs)) l.variables.1
            ∙ first_types ns f.of.args l.variables.0 a;
        named = b.named;
        answer = n;
        owner = owner;
        body = stmts_sound w h.stmt s;
      } in (
        subst (SoundFunction m) (sym h.gives) x,
        subst (Opens m scopes) (sym h.goes_on)
            (record {
              describes = describes_of m h.behind.context h.behind.body q b;
              outside = outside_stays scopes c h.behind.context l.context
                  o.outside;
            }),
      )

-- ---- all functions

function_extends : (name : List ℕ) (scopes : List Scope) (f : Callee) (d : Definition) (c e : Context) (g : Function)
    → IsFunction name scopes f d c g e → Extends c e
function_extends name scopes f d c e g h =
    subst (Extends c) (sym h.goes_on)
    (block_leads (around name f.of) (begins c scopes d f.of) d.block h.stmt h.behind h.states).context

pub functions_extend : (name : List ℕ) (scopes : List Scope) (fs : List Callee) (ds : List Definition) (c e : Context) (gs : List Function)
    → AreFunctions name scopes fs ds c gs e → Extends c e
functions_extend name scopes [] [] c e [] h = subst (Extends c) (sym h) (extends_itself c)
functions_extend name scopes [] [] c e (g ∷ gs) h = absurd h
functions_extend name scopes [] (d ∷ ds) c e gs h = absurd h
functions_extend name scopes (f ∷ fs) [] c e gs h = absurd h
functions_extend name scopes (f ∷ fs) (d ∷ ds) c e [] h = absurd h
functions_extend name scopes (f ∷ fs) (d ∷ ds) c e (g ∷ gs) h =
    extends_on c h.0 e (function_extends name scopes f d c h.0 g h.1) (functions_extend name scopes fs ds h.0 e gs h.2)

pub functions_sound : (m : Module) (name : List ℕ) (scopes : List Scope) (fs : List Callee) (ds : List Definition) (c e : Context)
    (gs : List Function) → HasAllTypes m → Opens m scopes c → Covers m e → Each (λ f. HasOwner m f.owner) fs
    → Each (λ d. IsProperBlock d.block) ds → AreFunctions name scopes fs ds c gs e → Each (SoundFunction m) gs × Opens m scopes e
functions_sound m name scopes [] [] c e [] all o q owners proper h = (tt, subst (Opens m scopes) (sym h) o)
functions_sound m name scopes [] [] c e (g ∷ gs) all o q owners proper h = absurd h
functions_sound m name scopes [] (d ∷ ds) c e gs all o q owners proper h = absurd h
functions_sound m name scopes (f ∷ fs) [] c e gs all o q owners proper h = absurd h
functions_sound m name scopes (f ∷ fs) (d ∷ ds) c e [] all o q owners proper h = absurd h
functions_sound m name scopes (f ∷ fs) (d ∷ ds) c e (g ∷ gs) all o q owners proper h =
    let x = functions_extend name scopes fs ds h.0 e gs h.2 in
    let a = function_sound m name scopes f d c h.0 g all o (covered_before m h.0 e x q) owners.0 proper.0 h.1 in
    let b = functions_sound m name scopes fs ds h.0 e gs all a.1 q owners.1 proper.1 h.2 in
    ((a.0, b.0), b.1)
