-- What the lists of a source's context speak of is named in it.
use Rattle.std.proofs.Common.{◌≡◌, ◌++◌, ◌∷◌, [], ℕ, suc, Bool, true, false, if◌then◌else◌, List, Option, Some, map, refl, sym, ap, ◌∙◌}
use Rattle.limbo_tree.specs.Types as tree
use Rattle.limbo_types.specs.Types.{Ty, FnTy}
use Rattle.limbo_constants.specs.declared.constant.Constant as source
use Rattle.limbo_constants.specs.declared.constant.Constant.TheVariants as known
use Rattle.limbo_values.specs.declared.number.Number.TheVariants as number
use Rattle.limbo_declarations.specs.Rows.{Row}
use Rattle.limbo_entries.specs.Entries.{Entry, IsTable}
use Rattle.limbo_naming.specs.Naming.{is_module}
use Rattle.limbo_typed.specs.Typed.{Interface, Signature, Exception}
use Rattle.limbo_typed.specs.Sound.{Each, IsSettled}
use Rattle.limbo_context.specs.Context.{Context}
use Rattle.limbo_headers.specs.Headers as headers
use Rattle.limbo_headers.specs.Headers.{AnswerMeans, IsHeader, argument_types}
use Rattle.limbo_tree.specs.View as view
use Rattle.limbo_tree.specs.Decls as decls
use Rattle.limbo_type_names.specs.Means.{Means}
use Rattle.limbo_source_adts.specs.Modules.{modules_of}
use Rattle.limbo_meanings.specs.declared.kind.Kind.TheVariants as kind
use Rattle.limbo_meanings.specs.Kinds.{place, has_kind}
use Rattle.limbo_meanings.specs.Listed.{Listed, none_left, one_told, none_told}
use Rattle.limbo_exports.specs.Exports.{is_called}
use Rattle.limbo_outline.specs.Outline as outline
use Rattle.limbo_outline.specs.Outline.{HasType, IsGlobal, IsFunction, IsException, IsType, type_of_constant}
use Rattle.limbo_outline_members.specs.Members.{IsInterface, IsSignature}
use Rattle.limbo_source_context.specs.SourceContext.{IsContext}
use Rattle.limbo_stated_sound.specs.Named.{IsNamedIn, OfFunction, HoldsOf, IsNamedThroughout}
use Rattle.limbo_source_sound.proofs.Alike.{module_kind}
use Rattle.limbo_source_sound.proofs.Listing.{listed_each}
use Rattle.limbo_source_sound.proofs.Types.{means_in, stands_in, all_in, adts_hold}

-- ---- names of module types

one_name : (b : Bool) (e : Entry) (rest : List (List ℕ)) → b ≡ true → (if b then e.row.name ∷ [] else []) ++ rest ≡ e.row.name ∷ rest
one_name true e rest h = refl
one_name false e rest h = absurd cc

no_name : (b : Bool) (e : Entry) (rest : List (List ℕ)) → b ≡ false → (if b then e.row.name ∷ [] else []) ++ rest ≡ rest
no_name true e rest h = absurd cc
no_name false e rest h = refl

module _ (all : List Entry) (m : ℕ) (system : Option ℕ) where
  names_listed : (k : ℕ) (es : List Entry) (xs : List Interface)
      → Listed (has_kind all m (place kind.Module)) (IsInterface all m system) k es xs → map (λ i. i.name) xs ≡ modules_of es
  names_listed _ _ _ (none_left k) = refl
  names_listed _ _ _ (one_told k e a es xs t h rest) =
      ap (λ z. z ∷ map (λ i. i.name) xs) h.named ∙ ap (λ z. e.row.name ∷ z) (names_listed (suc k) es xs rest)
      ∙ sym (one_name (is_module e.row.means) e (modules_of es) (sym (module_kind all m e) ∙ t))
  names_listed _ _ _ (none_told k e es xs t rest) =
      names_listed (suc k) es xs rest ∙ sym (no_name (is_module e.row.means) e (modules_of es) (sym (module_kind all m e) ∙ t))

pub module_names : (es : List Entry) (m : ℕ) (name : List ℕ) (c : Context) → IsContext es m name c
    → map (λ i. i.name) c.interfaces ≡ c.modules
module_names es m name c k = names_listed es m k.system 0 es c.interfaces k.interfaces ∙ sym k.modules

-- ---- types

module _ (top : List Row) (es : List Entry) (m : ℕ) (name : List ℕ) (c : Context) (table : IsTable top es) (k : IsContext es m name c) where
  means_here : (scope : Option ℕ) (t : tree.Ty) (u : Ty) → Means es m scope t u → IsNamedIn c u
  means_here = means_in top es m c table k.adts k.modules

  constant_named : (a : source.Constant) → IsNamedIn c (type_of_constant a)
  constant_named (known.Number (number.Byte a)) = (tt, tt)
  constant_named (known.Number (number.Int a)) = (tt, tt)
  constant_named (known.Number (number.Big a)) = (tt, tt)
  constant_named (known.Chars s) = (tt, tt)

  typed_named : (e : Entry) (t : Ty) → HasType es m e t → IsNamedIn c t
  typed_named e _ (outline.written t value u is w) = means_here e.within t u w
  typed_named e _ (outline.inferred expr a is w) = constant_named a

  answer_named : (scope : Option ℕ) (o : Option tree.Ty) (u : Ty) → AnswerMeans es m scope o u → IsNamedIn c u
  answer_named scope _ _ headers.no_answer = (tt, tt)
  answer_named scope _ _ (headers.an_answer t u w) = means_here scope t u w

  header_named : (scope : Option ℕ) (f : decls.FnType) (of : FnTy) (s : Bool) → IsHeader es m scope f of s → OfFunction (IsNamedIn c) of
  header_named scope f of s h = (
    all_in top es m c table k.adts k.modules scope (view.tys_of (argument_types f.params)) of.args h.args,
    answer_named scope f.answer of.answer h.answer,
  )

  signature_named : (i : ℕ) (e : Entry) (s : Signature) → IsSignature es m i e s → OfFunction (IsNamedIn c) s.of
  signature_named i e s h = header_named e.within h.of s.of h.self_first h.header

  interface_named : (i : ℕ) (e : Entry) (x : Interface) → IsInterface es m k.system i e x
      → Each (λ s. OfFunction (IsNamedIn c) s.of) x.functions
  interface_named i e x h =
      listed_each (is_called k.system (Some i)) (IsSignature es m) (λ s. OfFunction (IsNamedIn c) s.of) signature_named
      0 es x.functions h.functions

  exception_named : (i : ℕ) (e : Entry) (x : Exception) → IsException es m name i e x → Each (IsNamedIn c) x.values
  exception_named i e x h = all_in top es m c table k.adts k.modules e.within h.values x.values h.mean

  lists_named : HoldsOf (IsNamedIn c) c.globals c.functions c.interfaces c.exceptions
  lists_named = record {
    globals =
        listed_each (has_kind es m (place kind.Global)) (IsGlobal es m) (λ v. IsNamedIn c v.ty) (λ i e v h. typed_named e v.ty h.typed)
        0 es c.globals k.globals;
    functions =
        listed_each (has_kind es m (place kind.Function)) (IsFunction es m) (λ f. OfFunction (IsNamedIn c) f.of)
        (λ i e f h. header_named e.within h.of f.of f.takes_self h.header)
        0 es c.functions k.functions;
    interfaces =
        listed_each (has_kind es m (place kind.Module)) (IsInterface es m k.system)
        (λ x. Each (λ s. OfFunction (IsNamedIn c) s.of) x.functions) interface_named
        0 es c.interfaces k.interfaces;
    exceptions =
        listed_each (has_kind es m (place kind.Exception)) (IsException es m name) (λ x. Each (IsNamedIn c) x.values) exception_named
        0 es c.exceptions k.exceptions;
  }

  pub named_throughout : IsNamedThroughout c
  named_throughout = record {
    modules = module_names es m name c k;
    fields = adts_hold es m (IsNamedIn c) means_here c.adts k.adts;
    lists = lists_named;
    types =
        listed_each (has_kind es m (place kind.Type)) (IsType es m) IsSettled
        (λ i e t h. (stands_in top es m c table k.adts k.modules i t h).1)
        0 es c.types k.types;
  }
