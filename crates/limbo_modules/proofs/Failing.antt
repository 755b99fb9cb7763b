-- What fails is no typed module.
use Rattle.std.proofs.Common.{◌≡◌, ◌≢◌, ◌<◌, ℕ, zero, suc, List, [], ◌∷◌, length, take, Option, None, Some, true, refl, sym, ap}
use Rattle.std.proofs.Common.{subst, ◌∙◌, ◌≤◌, arith, count_by}
use Rattle.std.specs.Prelude.{slice_get}
use Rattle.limbo_tree.specs.Types as tree
use Rattle.limbo_tree.specs.View.{view_type}
use Rattle.limbo_tree.specs.declared.types.TypeTree as code_type
use Rattle.limbo_types.specs.Types.{Ty, Tys, Tuple}
use Rattle.limbo_types.specs.View.{tys_of}
use Rattle.limbo_layout.specs.Adts.{Def, parts, listed}
use Rattle.limbo_layout.specs.Layout.{Room, Laid, AllLaid, is_alone, of_tuple, of_adt, in_order, alone}
use Rattle.limbo_causes.specs.Causes.{Cause}
use Rattle.limbo_declarations.specs.Rows as rows
use Rattle.limbo_declarations.specs.Rows.{Row}
use Rattle.limbo_top.specs.Tops.{Placed}
use Rattle.limbo_entries.specs.declared.entry.Entry as code_entry
use Rattle.limbo_entries.specs.Entries.{Entry, IsEntry, IsTable, AreOnce}
use Rattle.limbo_entries.specs.View.{entries_of, view_entry}
use Rattle.limbo_naming.specs.Naming.{is_adt}
use Rattle.limbo_type_names.specs.declared.fault.TypesFault.{TypesFault}
use Rattle.limbo_type_names.specs.declared.fault.TypesFault.TheVariants as types
use Rattle.limbo_type_names.specs.declared.fault.TypeFault.{TypeFault}
use Rattle.limbo_type_names.specs.declared.fault.TypeFault.TheVariants as type
use Rattle.limbo_type_names.specs.Writes.{Fails}
use Rattle.limbo_declarations.specs.View.{view_declared}
use Rattle.limbo_source_context.specs.Beginning.{AllBeginSo}
use Rattle.limbo_source_adts.specs.Definitions.{AreHeaded}
use Rattle.limbo_type_names.specs.Refusals.{FailsAt, IsByType}
use Rattle.limbo_type_names.specs.Counts.{is_adt_entry}
use Rattle.limbo_type_names.specs.Numbers.{number_of}
use Rattle.limbo_type_names.specs.Means.{Means, Stands}
use Rattle.limbo_type_names.specs.Means as means
use Rattle.limbo_type_names.specs.Laws.{NoneCircular, FailsOrMeans}
use Rattle.limbo_type_names.proofs.Filling.{entry_there}
use Rattle.limbo_source_adts.specs.Definitions.{AdtsAre, no_adts, an_adt, no_adt}
use Rattle.limbo_source_adts.proofs.Counts.{adt_counts, count_yes, count_no}
use Rattle.limbo_scope.specs.Scopes.{Scope}
use Rattle.limbo_meanings.specs.Kinds.{has_kind}
use Rattle.limbo_meanings.proofs.Lists.{listed_at}
use Rattle.limbo_source_context.specs.limbo_outline.Outline.{IsType, TypesAre}
use Rattle.limbo_context.specs.Context.{Context}
use Rattle.limbo_source_context.specs.SourceContext.{IsContext, AllFit, HaveParams}
use Rattle.limbo_source_context.specs.declared.fault.ContextFault.{ContextFault}
use Rattle.limbo_source_context.specs.declared.fault.ContextFault.TheVariants as fault
use Rattle.limbo_source_context.specs.Laws.{OneContext, FailsOrContext}
use Rattle.limbo_declared_types.specs.Permitted.{AllPermitted, IsForbiddenAt}
use Rattle.limbo_declared_types.specs.Laws.{ForbiddenOrAllPermitted}
use Rattle.limbo_stmt_values.specs.limbo_stating.Functions.{Definition, FailsSomeFunction}
use Rattle.limbo_stmt_values.specs.limbo_stating.Laws as stating
use Rattle.limbo_modules.specs.Definitions.{HasNone, AreDefinitions}
use Rattle.limbo_modules.specs.Failing.{by_type, by_context, forbidden, undefined, in_function, type_cause, context_cause}
use Rattle.limbo_modules.specs.Laws.{FailsOrModule}
use Rattle.limbo_modules.proofs.Circles.{alias_in}
use Rattle.limbo_modules.proofs.Single.{same_around, one_row}

same_Some : {A : Type 0} (x y : A) → Some x ≡ Some y → x ≡ y
same_Some x y e = cc

-- ---- layouts of adts

adt_place : (es : List Entry) (m k : ℕ) (xs : List Entry) (ds : List Def) (n : ℕ) (d : Def) → AdtsAre es m k xs ds
    → slice_get ds n ≡ Some d
    → (i : ℕ) × (e : Entry) × (slice_get xs i ≡ Some e) × (is_adt e.row.means ≡ true) × (count_by is_adt_entry (take i xs) ≡ n)
adt_place es m _ _ _ n d (no_adts k) h = absurd (let e : None ≡ Some d = h in cc)
adt_place es m _ _ _ zero d (an_adt k e d' xs ds v is rest) h = (0, e, refl, v, refl)
adt_place es m _ _ _ (suc n) d (an_adt k e d' xs ds v is rest) h =
    let r = adt_place es m (suc k) xs ds n d rest h in
    (suc r.0, r.1, r.2, r.3, count_yes is_adt_entry e (take r.0 xs) v ∙ ap suc r.4)
adt_place es m _ _ _ n d (no_adt k e xs ds v rest) h =
    let r = adt_place es m (suc k) xs ds n d rest h in
    (suc r.0, r.1, r.2, r.3, count_no is_adt_entry e (take r.0 xs) v ∙ r.4)

laid_parts : (defs : List Def) (t : Ty) (r : Room) → Laid defs t r → (ts : Tys) → t ≡ Tuple ts
    → (rs : List Room) × AllLaid defs (listed ts) rs × (r ≡ in_order rs)
laid_parts defs _ _ (is_alone t r a) ts e =
    absurd (let bad : None ≡ Some r = ap alone (sym e) ∙ a in cc)
laid_parts defs _ _ (of_tuple us rs l) ts e =
    let p : us ≡ ts = cc in (rs, subst (λ (z : Tys). AllLaid defs (listed z) rs) p l, refl)
laid_parts defs _ _ (of_adt n d rs at l) ts e = absurd cc

same_list : (ts : List Ty) → listed (tys_of ts) ≡ ts
same_list [] = refl
same_list (t ∷ ts) = ap (λ zs. t ∷ zs) (same_list ts)

there : {A : Type 0} (xs : List A) (k : ℕ) → k < length xs → (x : A) × (slice_get xs k ≡ Some x)
there [] k l = absurd (omega arith)
there (x ∷ xs) zero l = (x, refl)
there (x ∷ xs) (suc k) l = there xs k (omega arith)

all_fit : (es : List Entry) (m : ℕ) (c : Context) → AdtsAre es m 0 es c.adts → AllPermitted es m c → AllFit c.adts
all_fit es m c are all n l =
    let d = there c.adts n l in
    let r = adt_place es m 0 es c.adts n d.0 are d.1 in
    let num : number_of es r.0 r.1 ≡ n = adt_counts es r.0 r.1 r.3 ∙ r.4 in
    let p = all r.0 r.1 r.2 in
    let a = p.adt d.0 r.3 (ap (slice_get c.adts) num ∙ d.1) in
    let f = a.fits in
    let s = laid_parts c.adts (Tuple (tys_of (parts d.0))) f.0 f.1 (tys_of (parts d.0)) refl in (
      in_order s.0,
      of_adt n d.0 s.0 d.1 (subst (λ (z : List Ty). AllLaid c.adts z s.0) (same_list (parts d.0)) s.1),
      subst (λ (z : Room). z.size ≤ 65536) {y = in_order s.0} s.2 f.2,
    )

-- ---- names by `type`

alias_stands : (es : List Entry) (m : ℕ) (xs : List Ty) (k : ℕ) (e : Entry) (t : tree.Ty) → TypesAre es m xs → IsEntry es k e
    → e.row.means ≡ rows.Alias t → (u : Ty) × Stands es m k u
alias_stands es m xs k e t are at is =
    let yes : has_kind es m 2 e ≡ true = alias_kind is in
    let r = listed_at (has_kind es m 2) (IsType es m) es xs k e are at yes in
    (r.0, r.2)
  where
    alias_kind : e.row.means ≡ rows.Alias t → has_kind es m 2 e ≡ true
    alias_kind h = rw h refl

stands_as : (es : List Entry) (m k : ℕ) (u : Ty) → Stands es m k u → (e : Entry) (t : tree.Ty) → IsEntry es k e
    → e.row.means ≡ rows.Alias t → Means es m e.within t u
stands_as es m _ _ (means.adt k f at is) e t there h =
    absurd (let s : f ≡ e = same_Some f e (sym at ∙ there) in
    let bad : is_adt (rows.Alias t) ≡ true = ap is_adt (sym h) ∙ ap (λ (z : Entry). is_adt z.row.means) (sym s) ∙ is in cc)
stands_as es m _ _ (means.module_type k f at is) e t there h = absurd (let s : f ≡ e = same_Some f e (sym at ∙ there) in cc)
stands_as es m _ _ (means.by_type k f t' u at is w) e t there h =
    let s : f ≡ e = same_Some f e (sym at ∙ there) in
    let p : rows.Alias t' ≡ rows.Alias t = sym is ∙ ap (λ (z : Entry). z.row.means) s ∙ h in
    let q : t' ≡ t = cc in
    subst (λ (z : tree.Ty). Means es m e.within z u) q (subst (λ (z : Entry). Means es m z.within t' u) s w)
stands_as es m _ _ (means.imported k f source j u at is d w) e t there h =
    absurd (let s : f ≡ e = same_Some f e (sym at ∙ there) in
    let bad : rows.Imported source ≡ rows.Alias t = sym is ∙ ap (λ (z : Entry). z.row.means) s ∙ h in cc)

module _ (circles : NoneCircular) (fails : FailsOrMeans) (top : List Row) (all : List code_entry.Entry) (m : ℕ)
    (table : IsTable top (entries_of all)) (once : AreOnce (entries_of all)) (c : Context) (name : List ℕ)
    (is : IsContext (entries_of all) m name c) where
  -- what is written of a name by `type` means something
  written : (k : ℕ) (scope : Option ℕ) (t : code_type.TypeTree) → IsByType all k scope t
      → (u : Ty) × Means (entries_of all) m scope (view_type t) u
  written k scope t b =
      let at = entry_there all k b.entry b.there in
      let w : (view_entry b.entry).row.means ≡ rows.Alias (view_type t) =
      ap view_declared b.is ∙ ap (λ (z : code_type.TypeTree). rows.Alias (view_type z)) b.writes in
      let s = alias_stands (entries_of all) m c.types k (view_entry b.entry) (view_type t) is.types at w in (
        s.0,
        subst (λ (z : Option ℕ). Means (entries_of all) m z (view_type t) s.0) b.within
            (stands_as (entries_of all) m k s.0 s.1 (view_entry b.entry) (view_type t) at w),
      )

  not_written : (k : ℕ) (scope : Option ℕ) (t : code_type.TypeTree) → IsByType all k scope t → (f : TypeFault) → f ≢ type.NoMemory
      → Fails (entries_of all) m scope t f → ⊥
  not_written k scope t b f n h =
      let w = written k scope t b in
      fails (entries_of all) m scope t f w.0 once n h w.1

  pub no_type_fails : (f : TypesFault) (k : Cause) → type_cause f ≡ Some k → FailsAt all m f → ⊥
  no_type_fails types.NoMemory k e h = absurd (let bad : None ≡ Some k = e in cc)
  no_type_fails (types.Unknown n at) k e h = not_written n h.0 h.1 h.2 (type.Unknown at) (λ z. absurd cc) h.3
  no_type_fails (types.NotAType n at) k e h = not_written n h.0 h.1 h.2 (type.NotAType at) (λ z. absurd cc) h.3
  no_type_fails (types.TypeTooLarge n) k e h =
      let a = alias_in top (entries_of all) m table n h in
      let s = alias_stands (entries_of all) m c.types a.0 a.1.0 a.1.1 is.types a.1.2 a.1.3 in
      circles (entries_of all) m a.0 s.0 once a.2 s.1

-- ---- the whole

named_cause : (f : ContextFault) (k : Cause) → context_cause f ≡ Some k → f ≢ fault.NoMemory
named_cause f k e bad = absurd (let w : None ≡ Some k = sym (ap context_cause bad) ∙ e in cc)

none_defines : (es : List Entry) (m : ℕ) (tops : List Placed) (many n : ℕ) (ds : List Definition) → AreDefinitions es m tops many ds
    → n < many → HasNone es m tops n → ⊥
none_defines es m tops many n ds h l none =
    let k : n < length ds = let e : length ds ≡ many = h.as_many in omega (arith, e, l) in
    let d = there ds n k in
    let f = h.each n d.0 d.1 in
    none f.place f.standing d.0 f.there f.defines

pub fails_or_module : NoneCircular → FailsOrMeans → OneContext → FailsOrContext → ForbiddenOrAllPermitted → stating.FailsOrModule
    → FailsOrModule
fails_or_module circles fails contexts no_context permits functions name tops top es m k x table once params (by_type all f c same h e) i =
    let q = subst (λ (z : List Entry). IsContext z m name i.context) (sym same) i.around.context in
    no_type_fails circles fails top all m (subst (λ (z : List Entry). IsTable top z) (sym same) table)
    (subst AreOnce (sym same) once) i.context name q f c e h
fails_or_module circles fails contexts no_context permits functions name tops top es m k x table once params
    (by_context all f c same h e) i =
    let a = i.around in
    let fit = all_fit es m i.context a.context.adts a.permitted in
    no_context all m name f i.context a.headings (subst AreOnce (sym same) once) (subst HaveParams (sym same) params)
    (named_cause f c e) h
    (subst (λ (z : List Entry). IsContext z m name i.context) (sym same) a.context)
    (subst (λ (z : List Entry). AllBeginSo z m i.context.globals) (sym same) a.begin)
    (subst (λ (z : List Entry). AreHeaded z m a.headings) (sym same) a.headed)
    (a.many ∙ ap length (sym same)) fit
fails_or_module circles fails contexts no_context permits functions name tops top es m k x table once params (forbidden c n r is bad) i =
    let e = contexts es m name c i.context once is i.around.context in
    permits es m i.context n r i.around.permitted (subst (λ (z : Context). IsForbiddenAt es m z n r) e bad)
fails_or_module circles fails contexts no_context permits functions name tops top es m k x table once params (undefined c n is l none) i =
    let e = contexts es m name c i.context once is i.around.context in
    none_defines es m tops (length i.context.functions) n i.definitions i.are_definitions
    (subst (λ (z : Context). n < length z.functions) e l) none
fails_or_module circles fails contexts no_context permits functions name tops top es m k x table once params
    (in_function c scopes ds r around are bad) i =
    let a = same_around contexts es m name c i.context scopes i.scopes once around i.around in
    let fs : length c.functions ≡ length i.context.functions = ap (λ (z : Context). length z.functions) a.0 in
    let d = one_row es m tops (length i.context.functions) ds i.definitions
    (subst (λ (z : ℕ). AreDefinitions es m tops z ds) fs are) i.are_definitions in
    let b : FailsSomeFunction name i.scopes i.context.functions i.definitions i.context r =
    subst (λ (z : Context). FailsSomeFunction name i.scopes z.functions i.definitions z r) a.0
    (subst (λ (z : List Scope). FailsSomeFunction name z c.functions i.definitions c r) a.1
    (subst (λ (z : List Definition). FailsSomeFunction name scopes c.functions z c r) d bad)) in
    functions name i.scopes i.context.functions i.definitions i.context i.behind r x.functions b i.functions
