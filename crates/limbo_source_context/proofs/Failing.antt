-- A source that is refused has no context.
use Rattle.std.proofs.Common.{◌≡◌, ◌<◌, ℕ, zero, suc, Bool, true, false, ◌&&◌, List, [], ◌∷◌, ◌++◌, Option, None, Some, length, map, get_or}
use Rattle.std.specs.Prelude.{option_map}
use Rattle.std.proofs.Common.{slice_get, refl, sym, ap, subst, ◌∙◌, arith}
use Rattle.std.proofs.lemmas.Option.{slice_get_within}
use Rattle.inf_text.specs.declared.span.Span.{Span}
use Rattle.limbo_tree.specs.declared.types.TypeTree as code_type
use Rattle.limbo_tree.specs.declared.decl.FnType as code_fn
use Rattle.limbo_tree.specs.declared.decl.Param as code_param
use Rattle.limbo_tree.specs.Types as tree
use Rattle.limbo_tree.specs.Types.{is_ty}
use Rattle.limbo_tree.specs.Exprs.{Expr}
use Rattle.limbo_tree.specs.Decls as decls
use Rattle.limbo_tree.specs.Decls.{are_params}
use Rattle.limbo_tree.specs.Tokens.{is_some}
use Rattle.limbo_tree.specs.View as view
use Rattle.limbo_tree.specs.View.{view_type, view_types, view_fn, view_param, view_boxed_type}
use Rattle.limbo_types.specs.Types.{Ty, Tys, Adt}
use Rattle.limbo_types.specs.View as types
use Rattle.limbo_types.specs.View.{view_ty, view_tys, tys_of}
use Rattle.limbo_layout.specs.Adts.{Def}
use Rattle.limbo_layout.specs.Layout.{Fits}
use Rattle.limbo_typed.specs.Typed.{Var}
use Rattle.limbo_constants.specs.declared.constant.Constant as source
use Rattle.limbo_constant_values.specs.Values.{Comes}
use Rattle.limbo_constant_values.proofs.Filling.{names_there}
use Rattle.limbo_declarations.specs.Rows as rows
use Rattle.limbo_declarations.specs.Rows.{Declared}
use Rattle.limbo_declarations.specs.View.{view_declared}
use Rattle.limbo_entries.specs.declared.entry.Entry as code_entry
use Rattle.limbo_entries.specs.Entries.{Entry, IsEntry, AreOnce}
use Rattle.limbo_entries.specs.View.{view_entry, entries_of}
use Rattle.limbo_naming.specs.Qualified.{Simple}
use Rattle.limbo_naming.proofs.Lists.{filled}
use Rattle.limbo_type_names.specs.declared.fault.TypeFault.{TypeFault}
use Rattle.limbo_type_names.specs.declared.fault.TypeFault.TheVariants as type_fault
use Rattle.limbo_type_names.specs.Means.{Means, AllMean}
use Rattle.limbo_type_names.specs.Writes.{Fails}
use Rattle.limbo_type_names.proofs.Unique.{from_more}
use Rattle.limbo_type_names.proofs.Failing.{fails_or_means}
use Rattle.limbo_headers.specs.declared.header.Heading.{Heading}
use Rattle.limbo_headers.specs.declared.header.Heading.TheVariants as heading
use Rattle.limbo_headers.specs.Headers.{Heads, IsHeader, AnswerMeans, no_answer, an_answer, argument_types, each_name, has_heading}
use Rattle.limbo_headers.specs.Refusals as refusals
use Rattle.limbo_headers.specs.Refusals.{FailsHeading, IsParamType, IsAnswerType, IsTypeOf, Writes}
use Rattle.limbo_source_adts.specs.Definitions.{AdtsAre, AreHeaded}
use Rattle.limbo_scope.specs.declared.meaning.Meaning.{Meaning}
use Rattle.limbo_context.specs.declared.context.Imported.{Imported}
use Rattle.limbo_meanings.specs.declared.kind.Kind.TheVariants as kind
use Rattle.limbo_meanings.specs.Kinds.{place, is_at, is_own, is_outermost, kind_in, has_kind}
use Rattle.limbo_meanings.specs.Meanings.{meaning_of}
use Rattle.limbo_meanings.proofs.Lists.{listed_at}
use Rattle.limbo_exports.specs.System.{is_system, module_in}
use Rattle.limbo_exports.specs.Exports.{export_of}
use Rattle.limbo_outline.specs.Outline.{HasType, written, inferred, IsGlobal, GlobalsAre}
use Rattle.limbo_outline.proofs.Numbers.{global_of}
use Rattle.limbo_imports.specs.Imports.{origin_of, IsImported, IsImport, ImportsAre}
use Rattle.limbo_source_context.specs.SourceContext.{AreMeant, HasNoType, HasNoImport, HasNoLayout, AllFit, HaveParams}
use Rattle.limbo_source_context.specs.Beginning.{MayBegin, AllBeginSo, BeginsOtherwise}
use Rattle.limbo_source_context.specs.Laws.{FailsOrContext}
use Rattle.limbo_source_context.specs.declared.fault.ContextFault.TheVariants as fault
use Rattle.limbo_source_context.proofs.Suiting.{mapped_at}
use Rattle.limbo_source_context.proofs.Ones.{never, one_first, one_has_type, one_adts}
use Rattle.limbo_source_context.proofs.Contexts.{Agree, same_at, found_entry}

-- ---- the types that a declaration writes

and_last : (a b c : Bool) → (a && b && c) ≡ true → c ≡ true
and_last true true c h = h
and_last true false c h = absurd cc
and_last false b c h = absurd cc

module _ (es : List Entry) (m : ℕ) (scope : Option ℕ) where
  -- of types that mean something each does
  one_of_all : (ts : List code_type.TypeTree) (us : Tys) (i : ℕ) (t : code_type.TypeTree) → i < length ts → get_or ts i t ≡ t
      → AllMean es m scope (view.tys_of (map view_type ts)) us → (v : Ty) × Means es m scope (view_type t) v
  one_of_all [] us i t l e a = absurd (omega arith)
  one_of_all (s ∷ ts) us zero t l e a =
      let x = from_more es m scope (view_type s) (view.tys_of (map view_type ts)) us a in
      (x.0, subst (λ (z : code_type.TypeTree). Means es m scope (view_type z) x.0) e x.3)
  one_of_all (s ∷ ts) us (suc i) t l e a =
      let x = from_more es m scope (view_type s) (view.tys_of (map view_type ts)) us a in
      one_of_all ts x.1 i t (omega arith) e x.4

  -- the first of types that are written for names, and those behind them
  for_names : (ns : List (Option (List ℕ))) (t : tree.Ty) (more : List tree.Ty) (us : Tys) (b c : Bool) → (is_some ns && b && c) ≡ true
      → AllMean es m scope (view.tys_of (each_name ns t ++ more)) us → (v : Ty) × Means es m scope t v
  for_names [] t more us b c h a = absurd cc
  for_names (n ∷ ns) t more us b c h a =
      let x = from_more es m scope t (view.tys_of (each_name ns t ++ more)) us a in
      (x.0, x.3)

  behind_names : (ns : List (Option (List ℕ))) (t : tree.Ty) (more : List tree.Ty) (us : Tys)
      → AllMean es m scope (view.tys_of (each_name ns t ++ more)) us → (vs : Tys) × AllMean es m scope (view.tys_of more) vs
  behind_names [] t more us a = (us, a)
  behind_names (n ∷ ns) t more us a =
      let x = from_more es m scope t (view.tys_of (each_name ns t ++ more)) us a in
      behind_names ns t more x.1 x.4

  param_means : (ps : List code_param.Param) (us : Tys) (i : ℕ) (p : code_param.Param) → i < length ps → get_or ps i p ≡ p
      → are_params (map view_param ps) ≡ true → AllMean es m scope (view.tys_of (argument_types (map view_param ps))) us
      → (v : Ty) × Means es m scope (view_type p.of.value) v
  param_means [] us i p l e h a = absurd (omega arith)
  param_means (q ∷ ps) us zero p l e h a =
      let w = view_param q in
      let x = for_names w.names w.of (argument_types (map view_param ps)) us (is_ty w.of) (are_params (map view_param ps)) h a in
      (x.0, subst (λ (z : code_param.Param). Means es m scope (view_type z.of.value) x.0) e x.1)
  param_means (q ∷ ps) us (suc i) p l e h a =
      let w = view_param q in
      let x = behind_names w.names w.of (argument_types (map view_param ps)) us a in
      param_means ps x.0 i p (omega arith) e (and_last (is_some w.names) (is_ty w.of) (are_params (map view_param ps)) h) x.1

  answer_means : (o : Option tree.Ty) (t : tree.Ty) (u : Ty) → o ≡ Some t → AnswerMeans es m scope o u → (v : Ty) × Means es m scope t v
  answer_means _ t _ e no_answer = absurd cc
  answer_means _ t _ e (an_answer s u w) = let p : s ≡ t = cc in (u, subst (λ (z : tree.Ty). Means es m scope z u) p w)

  in_function : (f : code_fn.FnType) (t : code_type.TypeTree) (us : Tys) (u : Ty) → IsTypeOf f t → are_params (view_fn f).params ≡ true
      → AllMean es m scope (view.tys_of (argument_types (view_fn f).params)) us → AnswerMeans es m scope (view_fn f).answer u
      → (v : Ty) × Means es m scope (view_type t) v
  in_function f t us u (refusals.of_param w) h a b =
      let c = w.1 in
      let x = param_means f.params.items us c.0 w.0 c.1 c.2 h a in
      (x.0, subst (λ (z : code_type.TypeTree). Means es m scope (view_type z) x.0) w.2 x.1)
  in_function f t us u (refusals.of_answer w) h a b =
      let x = answer_means (view_boxed_type f.answer) (view_type w.0.value) u (ap view_boxed_type w.1) b in
      (x.0, subst (λ (z : code_type.TypeTree). Means es m scope (view_type z) x.0) w.2 x.1)

viewed : (ts : List code_type.TypeTree) → view_types ts ≡ view.tys_of (map view_type ts)
unfolding view.view_types
viewed ts = refl

-- ---- what is told of a declaration

module _ (es : List Entry) (m : ℕ) (e : code_entry.Entry) where
  of_variable : (h : Heading) (t : tree.Ty) (value : Option Expr) → (view_entry e).row.means ≡ rows.Variable t value
      → Heads es m (view_entry e) h → (v : Ty) × Means es m e.within t v
  of_variable (heading.Variable u) t value p w =
      let q : rows.Variable w.0 w.1 ≡ rows.Variable t value = sym w.2 ∙ p in
      let r : w.0 ≡ t = cc in
      (view_ty u.value, subst (λ (z : tree.Ty). Means es m e.within z (view_ty u.value)) r w.3)
  of_variable (heading.Function h) t value p w = let q : rows.Function w.0 ≡ rows.Variable t value = sym w.1 ∙ p in absurd cc
  of_variable (heading.Exception us) t value p w = let q : rows.Exception w.0 ≡ rows.Variable t value = sym w.1 ∙ p in absurd cc
  of_variable heading.Other t value p w = absurd (never (ap has_heading p) w)

  of_function : (h : Heading) (f : decls.FnType) → (view_entry e).row.means ≡ rows.Function f → Heads es m (view_entry e) h
      → (us : Tys) × (u : Ty) × AllMean es m e.within (view.tys_of (argument_types f.params)) us × AnswerMeans es m e.within f.answer u
  of_function (heading.Variable u) f p w = let q : rows.Variable w.0 w.1 ≡ rows.Function f = sym w.2 ∙ p in absurd cc
  of_function (heading.Function h) f p w =
      let q : rows.Function w.0 ≡ rows.Function f = sym w.1 ∙ p in
      let r : w.0 ≡ f = cc in
      let of = types.view_fn h.value.of in
      let i : IsHeader es m e.within f of h.value.takes_self =
      subst (λ (z : decls.FnType). IsHeader es m e.within z of h.value.takes_self) r w.2 in
      (tys_of of.args, of.answer, i.args, i.answer)
  of_function (heading.Exception us) f p w = let q : rows.Exception w.0 ≡ rows.Function f = sym w.1 ∙ p in absurd cc
  of_function heading.Other f p w = absurd (never (ap has_heading p) w)

  of_exception : (h : Heading) (ts : tree.Tys) → (view_entry e).row.means ≡ rows.Exception ts → Heads es m (view_entry e) h
      → (us : Tys) × AllMean es m e.within ts us
  of_exception (heading.Variable u) ts p w = let q : rows.Variable w.0 w.1 ≡ rows.Exception ts = sym w.2 ∙ p in absurd cc
  of_exception (heading.Function h) ts p w = let q : rows.Function w.0 ≡ rows.Exception ts = sym w.1 ∙ p in absurd cc
  of_exception (heading.Exception us) ts p w =
      let q : rows.Exception w.0 ≡ rows.Exception ts = sym w.1 ∙ p in
      let r : w.0 ≡ ts = cc in
      (view_tys us.items, subst (λ (z : tree.Tys). AllMean es m e.within z (view_tys us.items)) r w.2)
  of_exception heading.Other ts p w = absurd (never (ap has_heading p) w)

  -- each type that it writes means something
  written_means : (h : Heading) (t : code_type.TypeTree)
      → ((f : decls.FnType) → (view_entry e).row.means ≡ rows.Function f → are_params f.params ≡ true)
      → Heads es m (view_entry e) h → Writes e.row.declared t → (v : Ty) × Means es m e.within (view_type t) v
  written_means h _ formed w (refusals.of_variable t value is) =
      let value' = option_map (λ z. view.view_expr z.now) value in
      of_variable h (view_type t.now) value' (ap view_declared is) w
  written_means h _ formed w (refusals.of_function f t is x) =
      let p : (view_entry e).row.means ≡ rows.Function (view_fn f.now) = ap view_declared is in
      let r = of_function h (view_fn f.now) p w in
      in_function es m e.within f.now t r.0 r.1 x (formed (view_fn f.now) p) r.2 r.3
  written_means h _ formed w (refusals.of_exception ts t is c) =
      let p : (view_entry e).row.means ≡ rows.Exception (view_types ts.now) = ap view_declared is in
      let r = of_exception h (view_types ts.now) p w in
      one_of_all es m e.within ts.now r.0 c.0 t c.1 c.2 (subst (λ (z : tree.Tys). AllMean es m e.within z r.0) (viewed ts.now) r.1)

-- ---- each cause

-- a type that a declaration writes fails
fails_written : (all : List code_entry.Entry) (m k : ℕ) (e : code_entry.Entry) (t : code_type.TypeTree) (f : TypeFault)
    (headings : List Heading) → AreOnce (entries_of all) → HaveParams (entries_of all) → slice_get all k ≡ Some e
    → Writes e.row.declared t → (f ≡ type_fault.NoMemory → ⊥) → Fails (entries_of all) m e.within t f
    → AreHeaded (entries_of all) m headings → length headings ≡ length (entries_of all) → ⊥
fails_written all m k e t f headings once formed i w never f' headed many =
    let es = entries_of all in
    let at : IsEntry es k (view_entry e) = mapped_at view_entry all k e i in
    let l = slice_get_within es k (view_entry e) at in
    let h = filled headings k (omega arith) in
    let r = written_means es m e h.0 t (λ g p. formed k (view_entry e) g at p) (headed k (view_entry e) h.0 at h.1) w in
    fails_or_means es m e.within once t f r.0 never f' r.1

unknown_is : (at : Span) → type_fault.Unknown at ≡ type_fault.NoMemory → ⊥
unknown_is at e = absurd cc

no_type_is : (at : Span) → type_fault.NotAType at ≡ type_fault.NoMemory → ⊥
no_type_is at e = absurd cc

-- an adt has no layout
fails_layout : (es : List Entry) (m n : ℕ) (defs : List Def) → AreOnce es → AdtsAre es m 0 es defs → HasNoLayout es m n → AllFit defs → ⊥
fails_layout es m n defs once are f fit =
    let e = one_adts es m once 0 es f.defs defs f.adts are in
    f.unfit (subst (λ (z : List Def). Fits z (Adt n)) (sym e) (fit n (subst (λ (z : List Def). n < length z) e f.there)))

-- a variable has no type
never_inferred : (es : List Entry) (m : ℕ) (e : Entry) (expr : Expr) (t : Ty) → e.row.means ≡ rows.Inferred expr
    → ((c : source.Constant) → Comes es m e.within None expr c → ⊥) → HasType es m e t → ⊥
never_inferred es m e expr _ is none (written t v u or w) = let p : rows.Variable t v ≡ rows.Inferred expr = sym or ∙ is in absurd cc
never_inferred es m e expr _ is none (inferred x c or w) =
    let p : rows.Inferred x ≡ rows.Inferred expr = sym or ∙ is in
    let q : x ≡ expr = cc in
    none c (subst (λ (z : Expr). Comes es m e.within None z c) q w)

fails_type : (es : List Entry) (m k : ℕ) (globals : List Var) → GlobalsAre es m globals → HasNoType es m k → ⊥
fails_type es m k globals are f =
    let r = listed_at (has_kind es m (place kind.Global)) (IsGlobal es m) es globals k f.entry are f.there f.global in
    never_inferred es m f.entry f.expr r.0.ty f.is f.no_constant r.2.typed

-- a variable begins with a value of another type
fails_beginning : (es : List Entry) (m k : ℕ) (globals : List Var) → AreOnce es → GlobalsAre es m globals → AllBeginSo es m globals
    → BeginsOtherwise es m k → ⊥
fails_beginning es m k globals once are so f =
    let r = global_of es m k f.number f.entry globals are f.there f.is in
    let e : r.0.ty ≡ f.ty = one_has_type es m once f.entry r.0.ty f.ty r.2.typed f.typed in
    f.otherwise (subst (λ (z : Ty). MayBegin es m f.entry z) e (so k f.number f.entry r.0 f.there f.is r.1))

-- ---- imports

module _ (es : List Entry) (m : ℕ) (xs ys others more : List (Option Meaning)) (agree : Agree es xs ys)
    (further : Agree es others more) where
  imported_too : (scope : Option ℕ) (source name : List ℕ) (x : Imported) → IsImported es m xs others scope source name x
      → IsImported es m ys more scope source name x
  imported_too scope source name x i =
      let f = found_entry es m source scope i.from i.finds in
      let g = filled es i.outer (names_there es m scope (Simple source) i.outer i.names) in
      record {
        from = i.from;
        finds = i.finds;
        origin = i.origin ∙ ap origin_of (same_at es xs ys agree i.from f.0 f.1);
        outer = i.outer;
        names = i.names;
        interface = ap module_in (sym (same_at es xs ys agree i.outer g.0 g.1)) ∙ i.interface;
        number = i.number;
        member = i.member;
        exported = sym (same_at es others more further i.number i.member.entry i.member.there) ∙ i.exported;
      }

imports_kind : (es : List Entry) (m : ℕ) (e : Entry) (source : List ℕ) → e.row.means ≡ rows.Imported source
    → has_kind es m (place kind.Import) e ≡ true
imports_kind es m e source is =
    ap (λ (d : Declared). is_at 6 (kind_in (is_own es m e.within) (is_outermost m e.within) d)) is

-- what is imported isn't there
fails_import : (es : List Entry) (m k : ℕ) (means others : List (Option Meaning)) (system fd : Option ℕ) (imports : List Imported)
    → AreMeant es m means others system fd → ImportsAre es m means others imports → HasNoImport es m k → ⊥
fails_import es m k means others system fd imports meant are f =
    let i = f.missing in
    let s : f.system ≡ system = one_first is_system es f.system system f.meant.system_is meant.system_is in
    let agree : Agree es means f.means = λ j e at. (meaning_of es m j e, meant.meanings j e at, f.meant.meanings j e at) in
    let further : Agree es others f.others =
    λ j e at. (export_of es m system j e, meant.exports j e at, f.meant.exports j e at ∙ ap (λ z. Some (export_of es m z j e)) s) in
    let r = listed_at (has_kind es m (place kind.Import)) (IsImport es m means others) es imports k i.entry are i.there
    (imports_kind es m i.entry i.source i.is) in
    let p : rows.Imported r.2.source ≡ rows.Imported i.source = sym r.2.is ∙ i.is in
    let q : r.2.source ≡ i.source = cc in
    let x : IsImported es m means others i.entry.within i.source i.entry.row.name r.0 =
    subst (λ (z : List ℕ). IsImported es m means others i.entry.within z i.entry.row.name r.0) q r.2.imported in
    i.missing r.0 (imported_too es m means f.means others f.others agree further i.entry.within i.source i.entry.row.name r.0 x)

-- ---- all causes

pub fails_or_context : FailsOrContext
fails_or_context all m name fault.NoMemory c hs once formed other f is so headed many fit = other refl
fails_or_context all m name (fault.Unknown k at) c hs once formed other f is so headed many fit =
    fails_written all m k f.0 f.2.0 (type_fault.Unknown at) hs once formed f.1 f.2.1 (unknown_is at) f.2.2 headed many
fails_or_context all m name (fault.NotAType k at) c hs once formed other f is so headed many fit =
    fails_written all m k f.0 f.2.0 (type_fault.NotAType at) hs once formed f.1 f.2.1 (no_type_is at) f.2.2 headed many
fails_or_context all m name (fault.TooLarge n) c hs once formed other f is so headed many fit =
    fails_layout (entries_of all) m n c.adts once is.adts f fit
fails_or_context all m name (fault.NoType k) c hs once formed other f is so headed many fit =
    fails_type (entries_of all) m k c.globals is.globals f
fails_or_context all m name (fault.NotThere k) c hs once formed other f is so headed many fit =
    fails_import (entries_of all) m k is.means is.others is.system is.fd c.imports is.meant is.imports f
fails_or_context all m name (fault.BadInitial k) c hs once formed other f is so headed many fit =
    fails_beginning (entries_of all) m k c.globals once is.globals so f
