-- Points behind modules and declarations: what only grows.
use Rattle.std.proofs.Common.{◌≡◌, ◌≤◌, ◌<◌, ℕ, zero, suc, true, false, List, [], ◌∷◌, ◌++◌, length, None, Some, refl}
use Rattle.std.proofs.Common.{sym, subst, ◌∙◌, arith}
use Rattle.std.specs.Prelude.{slice_get}
use Rattle.std.proofs.lemmas.Option.{slice_get_within}
use Rattle.limbo_tree.specs.Decls as decls
use Rattle.limbo_tree.specs.Decls.{Decl, Member, VarMember, FnMember, ConMember, TypeMember, AdtMember, Members, NoMembers, MoreMembers}
use Rattle.limbo_types.specs.Types.{FnTy}
use Rattle.limbo_layout.specs.Adts.{listed}
use Rattle.limbo_typed.specs.Typed.{Stmt, Interface}
use Rattle.limbo_typed.specs.Sound.{type_of}
use Rattle.limbo_scope.specs.declared.meaning.Meaning.TheVariants as meaning
use Rattle.limbo_scope.specs.Scopes.{entered}
use Rattle.limbo_stating.specs.limbo_local.Points.{Point, enter, leave, leading, meaning_from, with_variables}
use Rattle.limbo_stating.specs.limbo_local.Local.{with_constants, with_types}
use Rattle.limbo_stating.specs.limbo_local.Local.{with_imports, with_exceptions}
use Rattle.limbo_stating.specs.limbo_local.Members.{changed, functions_at, showing_module}
use Rattle.limbo_stating.specs.limbo_local.Members.{open_module, with_functions, with_signatures, AddsToModule, AllAddToModule}
use Rattle.limbo_stating.specs.limbo_local.Declaring.{Declares}
use Rattle.limbo_typed_sound.specs.Describing.{Begins}
use Rattle.limbo_typed_sound.specs.Laws.{Grows}
use Rattle.limbo_typed_sound.proofs.Bodies as bodies
use Rattle.limbo_typed_sound.proofs.Lists.{begins_with}
use Rattle.limbo_stated_sound.specs.Growing.{around, AreThrough, LeadsTo}
use Rattle.limbo_stated_sound.proofs.Lists.{begins_itself, begins_on}
use Rattle.limbo_stated_sound.proofs.Moving.{around_all, around_left}
use Rattle.limbo_stated_sound.proofs.Imports.{same_imports, imports_on, new_imports, imported_through}
use Rattle.limbo_stated_sound.proofs.Leading.{adt_leads, constants_lead, leads_at, leads_on, leads_to_itself, names_lead, value_leads}
use Rattle.limbo_stated_sound.proofs.Leading.{variables_lead, with_constants_leads, with_exceptions_leads, with_imports_leads}
use Rattle.limbo_stated_sound.proofs.Leading.{with_types_leads}

-- ---- modules

-- the module types before this one are kept
abbrev pub Below : ℕ → List Interface → List Interface → Type 0
Below k xs ys = (n : ℕ) (x : Interface) → n < k → slice_get xs n ≡ Some x → slice_get ys n ≡ Some x

-- What leads from a point to another where a module is open: its own module type may change.
pub record LeadsIn (k : ℕ) (p q : Point) : Type 0 where
  pub variables : Grows p.body q.body
  pub catches : p.catches ≤ q.catches
  pub adts : Begins p.context.adts q.context.adts
  pub modules : Begins p.context.modules q.context.modules
  pub interfaces : Below k p.context.interfaces q.context.interfaces
  pub globals : q.context.globals ≡ p.context.globals
  pub constants : Begins p.context.constants q.context.constants
  pub types : Begins p.context.types q.context.types
  pub functions : q.context.functions ≡ p.context.functions
  pub imports : Begins p.context.imports q.context.imports
  pub exceptions : Begins p.context.exceptions q.context.exceptions
  pub system : q.context.system ≡ p.context.system
  pub fd : q.context.fd ≡ p.context.fd
  pub scopes : around q.body.scopes ≡ around p.body.scopes
  pub imported : AreThrough p.context.imports q.context.imports q.body.variables

pub in_on : (k : ℕ) (p q r : Point) → LeadsIn k p q → LeadsIn k q r → LeadsIn k p r
in_on k p q r g h = record {
  variables = bodies.goes_on p.body q.body r.body g.variables h.variables;
  catches = let a = g.catches in let b = h.catches in omega arith;
  adts = begins_on p.context.adts q.context.adts r.context.adts g.adts h.adts;
  modules = begins_on p.context.modules q.context.modules r.context.modules g.modules h.modules;
  interfaces = λ n x l e. h.interfaces n x l (g.interfaces n x l e);
  globals = h.globals ∙ g.globals;
  constants = begins_on p.context.constants q.context.constants r.context.constants g.constants h.constants;
  types = begins_on p.context.types q.context.types r.context.types g.types h.types;
  functions = h.functions ∙ g.functions;
  imports = begins_on p.context.imports q.context.imports r.context.imports g.imports h.imports;
  exceptions = begins_on p.context.exceptions q.context.exceptions r.context.exceptions g.exceptions h.exceptions;
  system = h.system ∙ g.system;
  fd = h.fd ∙ g.fd;
  scopes = h.scopes ∙ g.scopes;
  imported = imports_on p.context.imports q.body r.body q.context.imports r.context.imports h.variables g.imported h.imported h.imports;
}

pub in_module : (k : ℕ) (p q : Point) → LeadsTo p q → LeadsIn k p q
in_module k p q h = record {
  variables = h.variables;
  catches = h.catches;
  adts = h.context.adts;
  modules = h.context.modules;
  interfaces = λ n x l e. h.context.interfaces n x e;
  globals = h.context.globals;
  constants = h.context.constants;
  types = h.context.types;
  functions = h.context.functions;
  imports = h.context.imports;
  exceptions = h.context.exceptions;
  system = h.context.system;
  fd = h.context.fd;
  scopes = h.scopes;
  imported = h.imported;
}

-- behind a module whose type is the next
pub out_of_module : (p q : Point) → LeadsIn (length p.context.interfaces) p q → LeadsTo p q
out_of_module p q h = record {
  variables = h.variables;
  catches = h.catches;
  context = record {
    adts = h.adts;
    modules = h.modules;
    interfaces = λ n x e. h.interfaces n x (slice_get_within p.context.interfaces n x e) e;
    globals = h.globals;
    constants = h.constants;
    types = h.types;
    functions = h.functions;
    imports = h.imports;
    exceptions = h.exceptions;
    system = h.system;
    fd = h.fd;
  };
  scopes = h.scopes;
  imported = h.imported;
}

-- those before a changed one are the same
pub below_changed : (k : ℕ) (f : Interface → Interface) (xs : List Interface) → Below k xs (changed k f xs)
below_changed k f [] n x l e = e
below_changed zero f (y ∷ ys) n x l e = absurd (omega arith)
below_changed (suc k) f (y ∷ ys) zero x l e = e
below_changed (suc k) f (y ∷ ys) (suc n) x l e = below_changed k f ys n x (omega arith) e

pub functions_lead : (i : ℕ) (ns : List (List ℕ)) (of : FnTy) (p : Point) → LeadsIn i p (with_functions i ns of p)
functions_lead i ns of p = record {
  variables = bodies.stays p.body;
  catches = omega arith;
  adts = begins_itself p.context.adts;
  modules = begins_itself p.context.modules;
  interfaces = below_changed i (with_signatures ns of) p.context.interfaces;
  globals = refl;
  constants = begins_itself p.context.constants;
  types = begins_itself p.context.types;
  functions = refl;
  imports = begins_itself p.context.imports;
  exceptions = begins_itself p.context.exceptions;
  system = refl;
  fd = refl;
  scopes = around_all (meaning_from meaning.Function (functions_at p.context.interfaces i) ns) p.body.scopes;
  imported = same_imports p.context.imports p.body.variables;
}

pub showing_module_leads : (i : ℕ) (p : Point) → LeadsTo p (showing_module i p)
showing_module_leads i p = record {
  variables = bodies.stays p.body;
  catches = omega arith;
  context = record {
    adts = begins_itself p.context.adts;
    modules = begins_itself p.context.modules;
    interfaces = begins_itself p.context.interfaces;
    globals = refl;
    constants = begins_itself p.context.constants;
    types = begins_itself p.context.types;
    functions = refl;
    imports = begins_itself p.context.imports;
    exceptions = begins_itself p.context.exceptions;
    system = refl;
    fd = refl;
  };
  scopes = refl;
  imported = same_imports p.context.imports p.body.variables;
}

pub in_at : (k : ℕ) (p q r : Point) → q ≡ r → LeadsIn k p r → LeadsIn k p q
in_at k p q r e h = subst (λ (z : Point). LeadsIn k p z) (sym e) h

pub member_leads : (i : ℕ) (x : Member) (p q : Point) → AddsToModule i x p q → LeadsIn i p q
member_leads i (VarMember ns t) p q h = in_at i p q p h.2 (in_module i p p (leads_to_itself p))
member_leads i (FnMember ns f) p q h = in_at i p q (with_functions i ns h.0 p) h.2 (functions_lead i ns h.0 p)
member_leads i (ConMember ns e) p q h =
    in_at i p q (with_constants ns h.0 h.1) h.3
    (in_module i p (with_constants ns h.0 h.1)
    (leads_on p h.1 (with_constants ns h.0 h.1) (constants_lead e 0 ns h.0 p h.1 h.2) (with_constants_leads ns h.0 h.1)))
member_leads i (TypeMember ns t) p q h =
    in_at i p q (with_types ns h.0 p) h.2 (in_module i p (with_types ns h.0 p) (with_types_leads ns h.0 p))
member_leads i (AdtMember n ms pick) p q h = in_module i p q (adt_leads true n ms pick p q h)

pub members_lead : (i : ℕ) (xs : Members) (p q : Point) → AllAddToModule i xs p q → LeadsIn i p q
members_lead i NoMembers p q h = in_at i p q p h (in_module i p p (leads_to_itself p))
members_lead i (MoreMembers x xs) p q h =
    in_on i p h.0 q (member_leads i x p h.0 h.1)
    (in_on i h.0 (showing_module i h.0) q (in_module i h.0 (showing_module i h.0) (showing_module_leads i h.0))
    (members_lead i xs (showing_module i h.0) q h.2))

-- where a module begins: its members' scope has begun
abbrev pub named_module : List ℕ → Point → Point
named_module n p =
    leading
    (record p.context {
      modules = p.context.modules ++ n ∷ [];
      interfaces = p.context.interfaces ++ (record { name = n; functions = [] }) ∷ [];
      exports = p.context.exports ++ entered [] ∷ [];
    })
    meaning.Module (length p.context.interfaces) (n ∷ []) p

pub named_module_leads : (n : List ℕ) (p : Point) → LeadsTo p (named_module n p)
named_module_leads n p =
    let i : Interface = record { name = n; functions = [] } in
    names_lead (named_module n p).context meaning.Module (length p.context.interfaces) (n ∷ []) p
    (record {
      adts = begins_itself p.context.adts;
      modules = begins_with p.context.modules (n ∷ []);
      interfaces = begins_with p.context.interfaces (i ∷ []);
      globals = refl;
      constants = begins_itself p.context.constants;
      types = begins_itself p.context.types;
      functions = refl;
      imports = begins_itself p.context.imports;
      exceptions = begins_itself p.context.exceptions;
      system = refl;
      fd = refl;
    }) (same_imports p.context.imports p.body.variables)

pub scope_in : (k : ℕ) (p r : Point) → LeadsIn k (enter p) r → LeadsIn k p (leave r)
scope_in k p r h = record {
  variables = h.variables;
  catches = h.catches;
  adts = h.adts;
  modules = h.modules;
  interfaces = h.interfaces;
  globals = h.globals;
  constants = h.constants;
  types = h.types;
  functions = h.functions;
  imports = h.imports;
  exceptions = h.exceptions;
  system = h.system;
  fd = h.fd;
  scopes = around_left r.body.scopes p.body.scopes h.scopes;
  imported = h.imported;
}

pub module_leads : (n : List ℕ) (ms : Members) (p r : Point) → AllAddToModule (length p.context.interfaces) ms (open_module n p) r
    → LeadsTo p (leave r)
module_leads n ms p r h =
    let k = length p.context.interfaces in
    let o = named_module n p in
    out_of_module p (leave r)
    (in_on k p o (leave r) (in_module k p o (named_module_leads n p)) (scope_in k o r (members_lead k ms (enter o) r h)))

-- ---- declarations

pub declared_leads : (m : List ℕ) (d : Decl) (p q : Point) (z : Stmt) → Declares m d p z q → LeadsTo p q
declared_leads m (decls.Con ns e) p q z h =
    leads_at p q (with_constants ns h.0 h.1) h.5
    (leads_on p h.1 (with_constants ns h.0 h.1) (constants_lead e 0 ns h.0 p h.1 h.2) (with_constants_leads ns h.0 h.1))
declared_leads m (decls.TypeName ns t) p q z h = leads_at p q (with_types ns h.0 p) h.4 (with_types_leads ns h.0 p)
declared_leads m (decls.Var ns t None) p q z h = leads_at p q (with_variables ns h.0 p) h.4 (variables_lead ns h.0 p)
declared_leads m (decls.Var ns t (Some e)) p q z h =
    leads_at p q (with_variables ns h.0 h.3) h.9
    (leads_on p h.3 (with_variables ns h.0 h.3) (value_leads p e h.1 h.3 h.5) (variables_lead ns h.0 h.3))
declared_leads m (decls.Define ns e) p q z h =
    let t = type_of h.0 in
    leads_at p q (with_variables ns t h.1) h.6
    (leads_on p h.1 (with_variables ns t h.1) (value_leads p e h.0 h.1 h.2) (variables_lead ns t h.1))
declared_leads m (decls.Import ns n) p q z h = leads_at p q (with_imports ns h.2 p) h.7
    (with_imports_leads ns h.2 p (new_imports p.context.imports h.2 p.body.variables (imported_through p n h.0 h.1 ns h.2 h.3 h.4)))
declared_leads m (decls.Exception ns ts) p q z h =
    leads_at p q (with_exceptions m ns (listed h.0) p) h.4 (with_exceptions_leads m ns (listed h.0) p)
declared_leads m (decls.Module n ms) p q z h = leads_at p q (leave h.0) h.5 (module_leads n ms p h.0 h.3)
declared_leads m (decls.Adt n ms pick) p q z h = adt_leads false n ms pick p q h.2
