-- A source gives one context at most.
use Rattle.std.proofs.Common.{◌≡◌, ℕ, suc, Bool, List, [], ◌∷◌, ◌++◌, Option, None, Some, slice_get, refl, sym, ap, subst, ◌∙◌}
use Rattle.limbo_types.specs.Types.{Ty}
use Rattle.limbo_typed.specs.Typed.{Var, Interface, Exception}
use Rattle.limbo_layout.specs.Adts.{Def}
use Rattle.limbo_declarations.specs.Rows as rows
use Rattle.limbo_entries.specs.Entries as entries
use Rattle.limbo_entries.specs.Entries.{Entry, IsEntry, IsMember, AreOnce, Finds}
use Rattle.limbo_naming.specs.Qualified.{Simple}
use Rattle.limbo_naming.proofs.Unique.{one_found, one_named}
use Rattle.limbo_naming.proofs.Lists.{filled}
use Rattle.limbo_constant_values.proofs.Filling.{names_there}
use Rattle.limbo_scope.specs.declared.meaning.Meaning.{Meaning}
use Rattle.limbo_scope.specs.Scopes.{Scope, entered}
use Rattle.limbo_scope.specs.Laws.{declared_all}
use Rattle.limbo_context.specs.declared.context.Imported.{Imported}
use Rattle.limbo_context.specs.declared.context.Origin.{Origin}
use Rattle.limbo_context.specs.Context.{Context, Valued, Callee}
use Rattle.limbo_meanings.specs.Kinds.{has_kind}
use Rattle.limbo_meanings.specs.Meanings.{meaning_of}
use Rattle.limbo_meanings.specs.Names.{here, names_in}
use Rattle.limbo_exports.specs.System.{is_system, is_fd, module_in, adt_in, number_at}
use Rattle.limbo_exports.specs.Exports.{export_of}
use Rattle.limbo_outline.specs.Outline.{IsConstant, IsType, IsGlobal, IsFunction, IsException, IsScopeOf}
use Rattle.limbo_outline_members.specs.Members.{IsInterface, InterfacesAre}
use Rattle.limbo_imports.specs.Imports.{meaning_at, origin_of, IsImported, IsImport}
use Rattle.limbo_source_context.specs.SourceContext.{IsFound}
use Rattle.limbo_source_context.specs.Laws.{OneContext}
use Rattle.limbo_source_context.proofs.Beginnings.{meant_at}
use Rattle.limbo_source_context.proofs.Ones.{one_list, one_first, one_constant, one_name, one_global, one_function, one_exception}
use Rattle.limbo_source_context.proofs.Ones.{one_interface, one_adts}

-- ---- meanings that agree at each declaration

abbrev pub Agree : List Entry → (xs ys : List (Option Meaning)) → Type 0
Agree es xs ys = (k : ℕ) (e : Entry) → IsEntry es k e → (x : Option Meaning) × (slice_get xs k ≡ Some x) × (slice_get ys k ≡ Some x)

names_same : (s : Option ℕ) (es : List Entry) (xs ys : List (Option Meaning)) → Agree es xs ys → names_in s xs es ≡ names_in s ys es
names_same s [] [] [] f = refl
names_same s [] [] (y ∷ ys) f = refl
names_same s [] (x ∷ xs) [] f = refl
names_same s [] (x ∷ xs) (y ∷ ys) f = refl
names_same s (e ∷ es) [] ys f = let r = f 0 e refl in let h = r.1 in absurd cc
names_same s (e ∷ es) (x ∷ xs) [] f = let r = f 0 e refl in let h = r.2 in absurd cc
names_same s (e ∷ es) (x ∷ xs) (y ∷ ys) f =
    let r = f 0 e refl in
    let h : Some x ≡ Some r.0 = r.1 in
    let i : Some y ≡ Some r.0 = r.2 in
    let p : x ≡ y = cc in
    ap (λ z. here s e z ++ names_in s xs es) p ∙ ap (λ zs. here s e y ++ zs) (names_same s es xs ys (λ k g at. f (suc k) g at))

module _ (es : List Entry) (xs ys : List (Option Meaning)) (agree : Agree es xs ys) where
  one_scope : (k : ℕ) (e : Entry) (a b : List Scope) → IsScopeOf xs es k e a → IsScopeOf ys es k e b → a ≡ b
  one_scope k e a b h i = h ∙ ap (λ ds. declared_all ds (entered [])) (names_same (Some k) es xs ys agree) ∙ sym i

  pub same_at : (k : ℕ) (e : Entry) → IsEntry es k e → meaning_at xs k ≡ meaning_at ys k
  same_at k e at = let r = agree k e at in meant_at xs k r.0 r.1 ∙ sym (meant_at ys k r.0 r.2)

  same_number : (told : Option Meaning → Option ℕ) (test : Entry → Bool) (o : Option ℕ) → IsFound test es o → number_at told xs o ≡
      number_at told ys o
  same_number told test None f = refl
  same_number told test (Some k) f =
      let r = agree k f.entry f.there in
      ap (λ (z : Option (Option Meaning)). elim z [ None ↦ None | Some x ↦ told x ]) (r.1 ∙ sym r.2)

-- ---- imports

pub found_entry : (es : List Entry) (m : ℕ) (name : List ℕ) (s : Option ℕ) (k : ℕ) → Finds es m name s k → (e : Entry) × IsEntry es k e
found_entry es m name _ _ (entries.here s k w) = (w.entry, w.there)
found_entry es m name _ _ (entries.in_module k none w) = (w.entry, w.there)
found_entry es m name _ _ (entries.further j outer k none i f) = found_entry es m name outer.within k f

module _ (es : List Entry) (m : ℕ) (once : AreOnce es) (xs ys others more : List (Option Meaning)) (agree : Agree es xs ys)
    (further : Agree es others more) where
  one_imported : (scope : Option ℕ) (source name : List ℕ) (a b : Imported) → IsImported es m xs others scope source name a
      → IsImported es m ys more scope source name b → a ≡ b
  one_imported scope source name a b h i =
      let p : i.from ≡ h.from = one_found es m once source scope i.from h.from i.finds h.finds in
      let f = found_entry es m source scope h.from h.finds in
      let o : a.origin ≡ b.origin =
      h.origin ∙ ap origin_of (same_at es xs ys agree h.from f.0 f.1) ∙ ap (λ z. origin_of (meaning_at ys z)) (sym p) ∙ sym i.origin in
      let q : i.outer ≡ h.outer = one_named es m once scope (Simple source) i.outer h.outer i.names h.names in
      let g = filled es h.outer (names_there es m scope (Simple source) h.outer h.names) in
      let v : Some a.interface ≡ Some b.interface =
      sym h.interface ∙ ap module_in (same_at es xs ys agree h.outer g.0 g.1) ∙ ap (λ z. module_in (meaning_at ys z)) (sym q) ∙
      i.interface in
      let w : a.interface ≡ b.interface = cc in
      let n : i.number ≡ h.number =
      once (Some h.outer) name i.number h.number (subst (λ (z : ℕ). IsMember es (Some z) name i.number) q i.member) h.member in
      let x : Some a.member ≡ Some b.member =
      sym h.exported ∙ same_at es others more further h.number h.member.entry h.member.there ∙ ap (meaning_at more) (sym n) ∙ i.exported in
      let y : a.member ≡ b.member = cc in
      ap (λ (z : Origin). let r : Imported = record { origin = z; interface = a.interface; member = a.member } in r) o
      ∙ ap (λ (z : ℕ). let r : Imported = record { origin = b.origin; interface = z; member = a.member } in r) w
      ∙ ap (λ (z : Meaning). let r : Imported = record { origin = b.origin; interface = b.interface; member = z } in r) y

  one_import : (k : ℕ) (e : Entry) (a b : Imported) → IsImport es m xs others k e a → IsImport es m ys more k e b → a ≡ b
  one_import k e a b h i =
      let p : rows.Imported i.source ≡ rows.Imported h.source = sym i.is ∙ h.is in
      let q : i.source ≡ h.source = cc in
      one_imported e.within h.source e.row.name a b h.imported
      (subst (λ (z : List ℕ). IsImported es m ys more e.within z e.row.name b) q i.imported)

-- ---- the context

module _ (c d : Context) where
  same_context : c.adts ≡ d.adts → c.modules ≡ d.modules → c.members ≡ d.members → c.interfaces ≡ d.interfaces → c.exports ≡ d.exports
      → c.globals ≡ d.globals → c.constants ≡ d.constants → c.types ≡ d.types → c.functions ≡ d.functions → c.imports ≡ d.imports
      → c.exceptions ≡ d.exceptions → c.system ≡ d.system → c.fd ≡ d.fd → c ≡ d
  same_context p1 p2 p3 p4 p5 p6 p7 p8 p9 p10 p11 p12 p13 =
      ap (λ (z : List Def). make z c.modules c.members c.interfaces c.exports c.globals c.constants c.types c.functions c.imports
      c.exceptions c.system c.fd) p1
      ∙ ap (λ (z : List (List ℕ)). make d.adts z c.members c.interfaces c.exports c.globals c.constants c.types c.functions c.imports
      c.exceptions c.system c.fd) p2
      ∙ ap (λ (z : List (List Scope)). make d.adts d.modules z c.interfaces c.exports c.globals c.constants c.types c.functions c.imports
      c.exceptions c.system c.fd) p3
      ∙ ap (λ (z : List Interface). make d.adts d.modules d.members z c.exports c.globals c.constants c.types c.functions c.imports
      c.exceptions c.system c.fd) p4
      ∙ ap (λ (z : List (List Scope)). make d.adts d.modules d.members d.interfaces z c.globals c.constants c.types c.functions c.imports
      c.exceptions c.system c.fd) p5
      ∙ ap (λ (z : List Var). make d.adts d.modules d.members d.interfaces d.exports z c.constants c.types c.functions c.imports
      c.exceptions c.system c.fd) p6
      ∙ ap (λ (z : List Valued). make d.adts d.modules d.members d.interfaces d.exports d.globals z c.types c.functions c.imports
      c.exceptions c.system c.fd) p7
      ∙ ap (λ (z : List Ty). make d.adts d.modules d.members d.interfaces d.exports d.globals d.constants z c.functions c.imports
      c.exceptions c.system c.fd) p8
      ∙ ap (λ (z : List Callee). make d.adts d.modules d.members d.interfaces d.exports d.globals d.constants d.types z c.imports
      c.exceptions c.system c.fd) p9
      ∙ ap (λ (z : List Imported). make d.adts d.modules d.members d.interfaces d.exports d.globals d.constants d.types d.functions z
      c.exceptions c.system c.fd) p10
      ∙ ap (λ (z : List Exception). make d.adts d.modules d.members d.interfaces d.exports d.globals d.constants d.types d.functions
      d.imports z c.system c.fd) p11
      ∙ ap (λ (z : Option ℕ). make d.adts d.modules d.members d.interfaces d.exports d.globals d.constants d.types d.functions d.imports
      d.exceptions z c.fd) p12
      ∙ ap (λ (z : Option ℕ). make d.adts d.modules d.members d.interfaces d.exports d.globals d.constants d.types d.functions d.imports
      d.exceptions d.system z) p13
    where
      make : List Def → List (List ℕ) → List (List Scope) → List Interface → List (List Scope) → List Var → List Valued → List Ty → List
          Callee
          → List Imported → List Exception → Option ℕ → Option ℕ → Context
      make a b c d e f g h i j k l m = record {
        adts = a;
        modules = b;
        members = c;
        interfaces = d;
        exports = e;
        globals = f;
        constants = g;
        types = h;
        functions = i;
        imports = j;
        exceptions = k;
        system = l;
        fd = m;
      }

pub one : OneContext
one es m module_name c d once a b =
    let s : b.system ≡ a.system = one_first is_system es b.system a.system b.meant.system_is a.meant.system_is in
    let fd_is : IsFound (is_fd a.system) es b.fd = subst (λ (z : Option ℕ). IsFound (is_fd z) es b.fd) s b.meant.fd_is in
    let f : b.fd ≡ a.fd = one_first (is_fd a.system) es b.fd a.fd fd_is a.meant.fd_is in
    let agree : Agree es a.means b.means = λ k e at. (meaning_of es m k e, a.meant.meanings k e at, b.meant.meanings k e at) in
    let further : Agree es a.others b.others =
    λ k e at. (export_of es m a.system k e, a.meant.exports k e at, b.meant.exports k e at ∙ ap (λ z. Some (export_of es m z k e)) s) in
    same_context c d
    (one_adts es m once 0 es c.adts d.adts a.adts b.adts)
    (a.modules ∙ sym b.modules)
    (one_list (has_kind es m 3) (IsScopeOf a.means es) (IsScopeOf b.means es) (one_scope es a.means b.means agree) 0 es c.members
    d.members a.members b.members)
    (one_list (has_kind es m 4) (IsInterface es m a.system) (IsInterface es m a.system) (one_interface es m once a.system) 0 es
    c.interfaces d.interfaces
    a.interfaces (subst (λ (z : Option ℕ). InterfacesAre es m z d.interfaces) s b.interfaces))
    (one_list (has_kind es m 4) (IsScopeOf a.others es) (IsScopeOf b.others es) (one_scope es a.others b.others further) 0 es c.exports
    d.exports a.exports b.exports)
    (one_list (has_kind es m 0) (IsGlobal es m) (IsGlobal es m) (one_global es m once) 0 es c.globals d.globals a.globals b.globals)
    (one_list (has_kind es m 1) (IsConstant es m) (IsConstant es m) (one_constant es m once) 0 es c.constants d.constants a.constants
    b.constants)
    (one_list (has_kind es m 2) (IsType es m) (IsType es m) (one_name es m once) 0 es c.types d.types a.types b.types)
    (one_list (has_kind es m 5) (IsFunction es m) (IsFunction es m) (one_function es m once) 0 es c.functions d.functions a.functions
    b.functions)
    (one_list (has_kind es m 6) (IsImport es m a.means a.others) (IsImport es m b.means b.others)
    (one_import es m once a.means b.means a.others b.others agree further) 0 es c.imports d.imports a.imports b.imports)
    (one_list (has_kind es m 7) (IsException es m module_name) (IsException es m module_name) (one_exception es m once module_name) 0 es
    c.exceptions d.exceptions
    a.exceptions b.exceptions)
    (a.is_system ∙ same_number es a.means b.means agree module_in is_system a.system a.meant.system_is ∙ ap (number_at module_in b.means)
    (sym s) ∙ sym b.is_system)
    (a.is_fd ∙ same_number es a.means b.means agree adt_in (is_fd a.system) a.fd a.meant.fd_is ∙ ap (number_at adt_in b.means) (sym f) ∙
    sym b.is_fd)
