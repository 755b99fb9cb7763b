-- What is told of sources that are no typed modules, and of what they declare.
use Rattle.std.proofs.Common.{◌≡◌, ◌+◌, ℕ, zero, suc, true, false, List, [], ◌∷◌, ◌++◌, map, length, Option, None, Some, refl, sym, ap}
use Rattle.std.proofs.Common.{◌∙◌, subst}
use Rattle.std.specs.Prelude.{slice_get}
use Rattle.limbo_types.specs.Types.{FnTy}
use Rattle.limbo_typed.specs.Typed.{Declared}
use Rattle.limbo_refusals.specs.declared.fault.ExprFault.{ExprFault}
use Rattle.limbo_refusals.specs.Refusals.{Refusal, Refuses}
use Rattle.limbo_causes.specs.declared.fault.Cause as code
use Rattle.limbo_causes.specs.declared.fault.Cause.TheVariants as told_cause
use Rattle.limbo_causes.specs.Causes.{Cause, Refused, FailsBy, told}
use Rattle.limbo_causes.proofs.Telling.{fails_weaker, refused_by}
use Rattle.limbo_top.specs.Tops.{Placed}
use Rattle.limbo_entries.specs.declared.entry.Entry as code_entry
use Rattle.limbo_entries.specs.Entries.{Entry, IsEntry}
use Rattle.limbo_entries.specs.View.{entries_of}
use Rattle.limbo_type_names.specs.declared.fault.TypesFault.{TypesFault}
use Rattle.limbo_type_names.specs.Refusals.{FailsAt}
use Rattle.limbo_scope.specs.declared.meaning.Meaning.{Meaning}
use Rattle.limbo_scope.specs.declared.meaning.Meaning.TheVariants as meaning
use Rattle.limbo_meanings.specs.Meanings.{AreMeanings, meaning_of}
use Rattle.limbo_meanings.proofs.Lists.{table_yes, table_no}
use Rattle.limbo_exports.specs.Exports.{is_called}
use Rattle.limbo_context.specs.declared.context.Callee as code_callee
use Rattle.limbo_context.specs.Context.{Context, Callee}
use Rattle.limbo_context.specs.View.{view_callee}
use Rattle.limbo_source_context.specs.declared.fault.ContextFault.{ContextFault}
use Rattle.limbo_source_context.specs.SourceContext as source
use Rattle.limbo_stmt_values.specs.limbo_stating.Reasons.{Reason, ByPart}
use Rattle.limbo_stmt_values.specs.declared.fault.Why.{Why}
use Rattle.limbo_stmt_values.specs.declared.fault.Why.TheVariants.{Part}
use Rattle.limbo_stmt_values.specs.Whys.{FailsFor}
use Rattle.limbo_stmt_values.proofs.Told.{reasons_weaker, part_told}
use Rattle.limbo_modules.specs.declared.fault.ModuleFault.{ModuleFault}
use Rattle.limbo_modules.specs.declared.fault.ModuleFault.TheVariants as fault
use Rattle.limbo_modules.specs.Declaring.{IsDeclared, DeclaredTo}
use Rattle.limbo_modules.specs.Failing.{FailsModule, by_type, by_context, type_cause, context_cause}
use Rattle.limbo_modules.specs.Faults.{FailsWith, Tells}

-- ---- faults

pub tells : (P : Reason → Type 0) (w : Why) (f : ModuleFault) → Tells w f → FailsFor w P → FailsWith f P
tells P w fault.NoMemory t h = tt
tells P w (fault.Refused v path at) t h = subst (λ (z : Why). FailsFor z P) (sym t) h

pub tells_part : (P : Reason → Type 0) (c : code.Cause) (f : ModuleFault) → Tells (Part c) f → FailsBy c (λ k. P (ByPart k)) → FailsWith f P
tells_part P c f t h = tells P (Part c) f t (part_told c (Part c) P refl h)

pub weaker : (f : ModuleFault) (P Q : Reason → Type 0) → ((k : Reason) → P k → Q k) → FailsWith f P → FailsWith f Q
weaker fault.NoMemory P Q g h = tt
weaker (fault.Refused w path at) P Q g h = reasons_weaker w P Q g h

pub tells_refused : (P : Reason → Type 0) (Q : Refusal → Type 0) (e : ExprFault) (f : ModuleFault) → Tells (Part (told_cause.Refused e)) f
    → ((r : Refusal) → Q r → P (ByPart (Refused r))) → Refuses e Q → FailsWith f P
tells_refused P Q e f t g h =
    tells_part P (told_cause.Refused e) f t
    (fails_weaker (told_cause.Refused e) _ _ (λ k x. subst (λ (z : Cause). P (ByPart z)) (sym x.1) (g x.0 x.2))
    (refused_by e (told_cause.Refused e) Q refl h))

module _ (all : List code_entry.Entry) (m : ℕ) (name : List ℕ) (tops : List Placed) where
  pub type_fails : (f : TypesFault) (c : code.Cause) (e : ModuleFault) → FailsAt all m f → FailsBy c (λ k. type_cause f ≡ Some k)
      → Tells (Part c) e → FailsWith e (FailsModule name tops (entries_of all) m)
  type_fails f c e h g t =
      tells_part (FailsModule name tops (entries_of all) m) c e t
      (fails_weaker c _ _ (λ k is. by_type all f k refl h is) g)

  pub context_fails : (f : ContextFault) (c : code.Cause) (e : ModuleFault) → source.Fails all m f
      → FailsBy c (λ k. context_cause f ≡ Some k) → Tells (Part c) e → FailsWith e (FailsModule name tops (entries_of all) m)
  context_fails f c e h g t =
      tells_part (FailsModule name tops (entries_of all) m) c e t
      (fails_weaker c _ _ (λ k is. by_context all f k refl h is) g)

-- ---- what is declared

callee_at : (fs : List code_callee.Callee) (n : ℕ) (f : code_callee.Callee) → slice_get fs n ≡ Some f
    → slice_get (map view_callee fs) n ≡ Some (view_callee f)
callee_at [] n f h = absurd cc
callee_at (g ∷ fs) zero f h = let e : g ≡ f = cc in ap (λ z. Some (view_callee z)) e
callee_at (g ∷ fs) (suc n) f h = callee_at fs n f h

same_Some : {A : Type 0} (x y : A) → Some x ≡ Some y → x ≡ y
same_Some x y e = cc

module _ (es : List Entry) (m : ℕ) (fs : List code_callee.Callee) where
  pub declared_no : (k : ℕ) (e : Entry) (xs : List Declared) → IsEntry es k e → is_called None (Some m) e ≡ false
      → DeclaredTo es m (map view_callee fs) k xs → DeclaredTo es m (map view_callee fs) (k + 1) xs
  declared_no k e xs i t listed = table_no (is_called None (Some m)) (IsDeclared es m (map view_callee fs)) es k xs e listed i t

  pub declared_yes : (means : List (Option Meaning)) (k n : ℕ) (e : Entry) (f : code_callee.Callee) (d : Declared) (xs : List Declared)
      → AreMeanings es m means → IsEntry es k e → is_called None (Some m) e ≡ true
      → slice_get means k ≡ Some (Some (meaning.Function n)) → slice_get fs n ≡ Some f
      → d ≡ record { name = e.row.name; of = (view_callee f).of; function = n }
      → DeclaredTo es m (map view_callee fs) k xs → DeclaredTo es m (map view_callee fs) (k + 1) (xs ++ d ∷ [])
  declared_yes means k n e f d xs meant i t at there is listed =
      let own : Declared = record { name = e.row.name; of = (view_callee f).of; function = n } in
      let w : IsDeclared es m (map view_callee fs) k e own = record {
        named = refl;
        means = sym (same_Some (Some (meaning.Function n)) (meaning_of es m k e) (sym at ∙ meant k e i));
        callee = view_callee f;
        there = callee_at fs n f there;
        of = refl;
      } in
      table_yes (is_called None (Some m)) (IsDeclared es m (map view_callee fs)) es k xs e d listed i t
      (subst (λ (z : Declared). IsDeclared es m (map view_callee fs) k e z) (sym is) w)
