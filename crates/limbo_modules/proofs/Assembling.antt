-- A module, put together.
use Rattle.std.proofs.Common.{◌≡◌, ◌<◌, ℕ, List, length, map, Result, Ok, Err, refl, sym, ap, subst, ◌∙◌}
use Rattle.std.proofs.lemmas.List.{length-map}
use Rattle.std.specs.Prelude.{IfOk, IfErr, Vec}
use Rattle.std.specs.Global.{Global}
use Rattle.limbo_typed.specs.declared.module.Declared as code_declared
use Rattle.limbo_typed.specs.declared.module.Initial.{Initial}
use Rattle.limbo_typed.specs.declared.module.TypedModule.{TypedModule}
use Rattle.limbo_typed.specs.Typed.{Declared}
use Rattle.limbo_typed.specs.View.{view_declared, view_function, view_module}
use Rattle.limbo_top.specs.Tops.{Placed}
use Rattle.limbo_entries.specs.Entries.{Entry}
use Rattle.limbo_context.specs.Context.{Context, Callee}
use Rattle.limbo_context.specs.View.{view_context, view_callee}
use Rattle.limbo_stmt_values.specs.limbo_stating.Functions.{Definition, AreFunctions, FailsSomeFunction}
use Rattle.limbo_stmt_values.specs.limbo_stating.Reasons.{ByPart}
use Rattle.limbo_functions.specs.limbo_stated_sound.Named.{IsMadeOf}
use Rattle.limbo_causes.specs.Causes.{Unknown}
use Rattle.limbo_causes.specs.declared.fault.Cause.TheVariants as told_cause
use Rattle.limbo_stmt_values.specs.declared.fault.Why.TheVariants.{Part}
use Rattle.limbo_source_context.specs.Beginning.{AreBeginnings}
use Rattle.limbo_source_context.specs.declared.source.SourceContext as code_known
use Rattle.limbo_modules.specs.declared.fault.ModuleFault.{ModuleFault}
use Rattle.limbo_modules.specs.declared.finding.Found as code_found
use Rattle.limbo_modules.specs.Declaring.{AreDeclared}
use Rattle.limbo_modules.specs.Definitions.{HasNone, AreDefinitions}
use Rattle.limbo_modules.specs.Found.{view_found}
use Rattle.limbo_modules.specs.Known.{IsKnown}
use Rattle.limbo_modules.specs.Modules.{IsModule}
use Rattle.limbo_modules.specs.Faults.{FailsWith, Tells}
use Rattle.limbo_modules.specs.Failing.{FailsModule, undefined, in_function}
use Rattle.limbo_modules.proofs.Telling.{tells_part, weaker}

module _ (es : List Entry) (m : ℕ) (name : List ℕ) (tops : List Placed) (k : code_known.SourceContext) (known : IsKnown es m name k) where
  pub undefined_fails : (many n : ℕ) (f : ModuleFault) → many ≡ length k.context.functions.items → n < many → HasNone es m tops n
      → Tells (Part told_cause.Unknown) f → FailsWith f (FailsModule name tops es m)
  undefined_fails many n f is l none t =
      let p : many ≡ length (map view_callee k.context.functions.items) = is ∙ sym (length-map k.context.functions.items view_callee) in
      tells_part (FailsModule name tops es m) told_cause.Unknown f t
      (undefined (view_context k.context) n known.around.context (subst (λ (z : ℕ). n < z) p l) none)

  module _ (many : ℕ) (found : List code_found.Found) (is_many : many ≡ length k.context.functions.items)
      (defined : AreDefinitions es m tops many (view_found found))
      (called : List ℕ) (callees : List Callee) (ds : List Definition)
      (is_name : called ≡ name) (are_callees : callees ≡ map view_callee k.context.functions.items)
      (are_found : ds ≡ view_found found) where
    pub definitions : AreDefinitions es m tops (length (map view_callee k.context.functions.items)) (view_found found)
    definitions =
        subst (λ (z : ℕ). AreDefinitions es m tops z (view_found found))
        (is_many ∙ sym (length-map k.context.functions.items view_callee)) defined

    pub one_each : length callees ≡ length ds
    one_each = ap length are_callees ∙ sym definitions.as_many ∙ ap length (sym are_found)

    module _ (fs : Vec code_declared.Declared Global)
        (declared : AreDeclared es m (map view_callee k.context.functions.items) (map view_declared fs.items)) where
      assembled : (x : TypedModule) → x.name ≡ called → x.initials.items ≡ k.initials.items → x.declared ≡ fs
          → (c : Context) × AreFunctions called k.scopes callees ds (view_context k.context) (map view_function x.functions.items) c
          × IsMadeOf (view_module x) c (map view_function x.functions.items) → IsModule name tops es m (view_module x)
      assembled x n i d made =
          let a = subst (λ (z : List Definition). AreFunctions called k.scopes callees z (view_context k.context)
          (map view_function x.functions.items) made.0) are_found made.1 in
          let b = subst (λ (z : List Callee). AreFunctions called k.scopes z (view_found found) (view_context k.context)
          (map view_function x.functions.items) made.0) are_callees a in
          record {
            context = view_context k.context;
            scopes = k.scopes;
            around = known.around;
            definitions = view_found found;
            are_definitions = definitions;
            behind = made.0;
            functions = subst (λ (z : List ℕ). AreFunctions z k.scopes (map view_callee k.context.functions.items) (view_found found)
                (view_context k.context) (map view_function x.functions.items) made.0) is_name b;
            declared = subst (λ (z : Vec code_declared.Declared Global). AreDeclared es m (map view_callee k.context.functions.items)
                (map view_declared z.items)) (sym d) declared;
            initials = subst (λ (z : List Initial). AreBeginnings es m z) (sym i) known.initials;
            named = n ∙ is_name;
            made = made.2;
          }

      pub is_module : (r : Result TypedModule ModuleFault) → IfOk r (λ x. x.name ≡ called) → IfOk r (λ x. x.initials ≡ k.initials)
          → IfOk r (λ x. x.declared ≡ fs)
          → IfOk r (λ x. (c : Context) × AreFunctions called k.scopes callees ds (view_context k.context)
          (map view_function x.functions.items) c × IsMadeOf (view_module x) c (map view_function x.functions.items))
          → IfOk r (λ x. IsModule name tops es m (view_module x))
      is_module (Ok x) n i d made = assembled x n (ap (λ z. z.items) i) d made
      is_module (Err f) n i d made = tt

    pub function_fails : (r : Result TypedModule ModuleFault)
        → IfErr r (λ f. FailsWith f (FailsSomeFunction called k.scopes callees ds (view_context k.context)))
        → IfErr r (λ f. FailsWith f (FailsModule name tops es m))
    function_fails (Ok x) h = tt
    function_fails (Err f) h =
        let a = subst (λ (z : List Definition). FailsWith f (FailsSomeFunction called k.scopes callees z (view_context k.context)))
        are_found h in
        let b = subst (λ (z : List Callee). FailsWith f (FailsSomeFunction called k.scopes z (view_found found) (view_context k.context)))
        are_callees a in
        let c = subst (λ (z : List ℕ). FailsWith f (FailsSomeFunction z k.scopes (map view_callee k.context.functions.items)
        (view_found found) (view_context k.context))) is_name b in
        weaker f _ (FailsModule name tops es m)
        (λ r bad. in_function (view_context k.context) k.scopes (view_found found) r known.around definitions bad) c
