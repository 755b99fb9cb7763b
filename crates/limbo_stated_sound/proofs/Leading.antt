-- Points behind constants, types and adts: what only grows.
use Rattle.std.proofs.Common.{◌≡◌, ℕ, suc, Bool, List, [], ◌∷◌, ◌++◌, length, map, Option, refl}
use Rattle.std.proofs.Common.{sym, subst, ◌∙◌, arith}
use Rattle.limbo_tree.specs.Exprs as tree
use Rattle.limbo_tree.specs.Decls as decls
use Rattle.limbo_tree.specs.Decls.{Decl, Member, VarMember, FnMember, ConMember, TypeMember, AdtMember, Members, NoMembers, MoreMembers}
use Rattle.limbo_types.specs.Types.{Ty}
use Rattle.limbo_layout.specs.Adts.{Def}
use Rattle.limbo_typed.specs.Typed.{Expr, Exception}
use Rattle.limbo_scope.specs.declared.meaning.Meaning.{Meaning}
use Rattle.limbo_scope.specs.declared.meaning.Meaning.TheVariants as meaning
use Rattle.limbo_scope.specs.Scopes.{seen, entered}
use Rattle.limbo_context.specs.declared.context.Imported.{Imported}
use Rattle.limbo_context.specs.Context.{Context, Body, Valued}
use Rattle.limbo_stating.specs.limbo_local.Points.{Point, with_body, ValueAt, enter, leave, leading, meaning_from, with_variables}
use Rattle.limbo_stating.specs.limbo_local.Local.{iota, counting, seeing_iota, without_iota, IsConstant, AreConstants, with_constants, with_types}
use Rattle.limbo_stating.specs.limbo_local.Local.{with_imports, with_exceptions}
use Rattle.limbo_stating.specs.limbo_local.Members.{Inside, variants_in, bare, showing_adt, AddsToAdt, AllAddToAdt}
use Rattle.limbo_stating.specs.limbo_local.Members.{with_adts, IsAdt}
use Rattle.limbo_typed_sound.proofs.Bodies as bodies
use Rattle.limbo_typed_sound.proofs.Lists.{begins_with}
use Rattle.limbo_stated_sound.specs.Growing.{Extends, AreThrough, LeadsTo}
use Rattle.limbo_stated_sound.proofs.Lists.{begins_itself, begins_on, taken}
use Rattle.limbo_stated_sound.proofs.Moving.{Moves, around_all, around_left, by_value, behind_iota}
use Rattle.limbo_stated_sound.proofs.Imports.{same_imports, imports_on}

-- ---- one after the other

pub extends_itself : (c : Context) → Extends c c
extends_itself c = record {
  adts = begins_itself c.adts;
  modules = begins_itself c.modules;
  interfaces = begins_itself c.interfaces;
  globals = refl;
  constants = begins_itself c.constants;
  types = begins_itself c.types;
  functions = refl;
  imports = begins_itself c.imports;
  exceptions = begins_itself c.exceptions;
  system = refl;
  fd = refl;
}

pub extends_on : (c d e : Context) → Extends c d → Extends d e → Extends c e
extends_on c d e g h = record {
  adts = begins_on c.adts d.adts e.adts g.adts h.adts;
  modules = begins_on c.modules d.modules e.modules g.modules h.modules;
  interfaces = begins_on c.interfaces d.interfaces e.interfaces g.interfaces h.interfaces;
  globals = h.globals ∙ g.globals;
  constants = begins_on c.constants d.constants e.constants g.constants h.constants;
  types = begins_on c.types d.types e.types g.types h.types;
  functions = h.functions ∙ g.functions;
  imports = begins_on c.imports d.imports e.imports g.imports h.imports;
  exceptions = begins_on c.exceptions d.exceptions e.exceptions g.exceptions h.exceptions;
  system = h.system ∙ g.system;
  fd = h.fd ∙ g.fd;
}

pub leads_to_itself : (p : Point) → LeadsTo p p
leads_to_itself p = record {
  variables = bodies.stays p.body;
  catches = omega arith;
  context = extends_itself p.context;
  scopes = refl;
  imported = same_imports p.context.imports p.body.variables;
}

pub leads_on : (p q r : Point) → LeadsTo p q → LeadsTo q r → LeadsTo p r
leads_on p q r g h = record {
  variables = bodies.goes_on p.body q.body r.body g.variables h.variables;
  catches = let a = g.catches in let b = h.catches in omega arith;
  context = extends_on p.context q.context r.context g.context h.context;
  scopes = h.scopes ∙ g.scopes;
  imported = imports_on p.context.imports q.body r.body q.context.imports r.context.imports h.variables g.imported h.imported
      h.context.imports;
}

pub leads_at : (p q r : Point) → q ≡ r → LeadsTo p r → LeadsTo p q
leads_at p q r e h = subst (λ (z : Point). LeadsTo p z) (sym e) h

-- ---- bodies and names

pub by_body : (p : Point) (b : Body) → Moves p.body b → LeadsTo p (with_body b p)
by_body p b h = record {
  variables = h.variables;
  catches = omega arith;
  context = extends_itself p.context;
  scopes = h.scopes;
  imported = same_imports p.context.imports b.variables;
}

pub value_leads : (p : Point) (e : tree.Expr) (x : Expr) (q : Point) → ValueAt p e x q → LeadsTo p q
value_leads p e x q h = leads_at p q (with_body h.behind p) h.goes_on (by_body p h.behind (by_value p.context p.body e x h.behind h.has))

pub names_lead : (c : Context) (means : ℕ → Meaning) (n : ℕ) (names : List (List ℕ)) (p : Point) → Extends p.context c
    → AreThrough p.context.imports c.imports p.body.variables → LeadsTo p (leading c means n names p)
names_lead c means n names p e h = record {
  variables = bodies.stays p.body;
  catches = omega arith;
  context = e;
  scopes = around_all (meaning_from means n names) p.body.scopes;
  imported = h;
}

pub variables_lead : (names : List (List ℕ)) (t : Ty) (p : Point) → LeadsTo p (with_variables names t p)
variables_lead names t p = record {
  variables = (map (λ n. record { name = n; ty = t }) names, refl);
  catches = omega arith;
  context = extends_itself p.context;
  scopes = around_all (meaning_from meaning.Variable (length p.body.variables) names) p.body.scopes;
  imported = same_imports p.context.imports (with_variables names t p).body.variables;
}

-- ---- scopes that begin and end

-- what leads from the beginning of a scope to its end, leads from before it to behind it
pub scope_leads : (p r : Point) → LeadsTo (enter p) r → LeadsTo p (leave r)
scope_leads p r h = record {
  variables = h.variables;
  catches = h.catches;
  context = h.context;
  scopes = around_left r.body.scopes p.body.scopes h.scopes;
  imported = h.imported;
}

-- ---- constants, types, imported names and exceptions

pub constant_leads : (e : tree.Expr) (k : ℕ) (v : Valued) (p q : Point) → IsConstant p e k v q → LeadsTo p q
constant_leads e k v p q h =
    let m = by_value (counting k p.context) (seeing_iota p.context p.body) e h.value h.behind h.has in
    leads_at p q (with_body (without_iota p.body h.behind) p) h.goes_on
    (by_body p (without_iota p.body h.behind) (behind_iota (seen iota p.body.scopes) p.context p.body h.behind m))

pub constants_lead : (e : tree.Expr) (k : ℕ) (ns : List (List ℕ)) (vs : List Valued) (p q : Point) → AreConstants e k ns vs p q
    → LeadsTo p q
constants_lead e k [] [] p q h = leads_at p q p h (leads_to_itself p)
constants_lead e k [] (v ∷ vs) p q h = absurd h
constants_lead e k (n ∷ ns) [] p q h = absurd h
constants_lead e k (n ∷ ns) (v ∷ vs) p q h =
    leads_on p h.0 q (constant_leads e k v p h.0 h.1) (constants_lead e (suc k) ns vs h.0 q h.2)

-- a context with longer lists
pub constants_longer : (c : Context) (xs : List Valued) → Extends c (record c { constants = c.constants ++ xs })
constants_longer c xs = record {
  adts = begins_itself c.adts;
  modules = begins_itself c.modules;
  interfaces = begins_itself c.interfaces;
  globals = refl;
  constants = begins_with c.constants xs;
  types = begins_itself c.types;
  functions = refl;
  imports = begins_itself c.imports;
  exceptions = begins_itself c.exceptions;
  system = refl;
  fd = refl;
}

pub types_longer : (c : Context) (xs : List Ty) → Extends c (record c { types = c.types ++ xs })
types_longer c xs = record {
  adts = begins_itself c.adts;
  modules = begins_itself c.modules;
  interfaces = begins_itself c.interfaces;
  globals = refl;
  constants = begins_itself c.constants;
  types = begins_with c.types xs;
  functions = refl;
  imports = begins_itself c.imports;
  exceptions = begins_itself c.exceptions;
  system = refl;
  fd = refl;
}

pub imports_longer : (c : Context) (xs : List Imported) → Extends c (record c { imports = c.imports ++ xs })
imports_longer c xs = record {
  adts = begins_itself c.adts;
  modules = begins_itself c.modules;
  interfaces = begins_itself c.interfaces;
  globals = refl;
  constants = begins_itself c.constants;
  types = begins_itself c.types;
  functions = refl;
  imports = begins_with c.imports xs;
  exceptions = begins_itself c.exceptions;
  system = refl;
  fd = refl;
}

pub exceptions_longer : (c : Context) (xs : List Exception) → Extends c (record c { exceptions = c.exceptions ++ xs })
exceptions_longer c xs = record {
  adts = begins_itself c.adts;
  modules = begins_itself c.modules;
  interfaces = begins_itself c.interfaces;
  globals = refl;
  constants = begins_itself c.constants;
  types = begins_itself c.types;
  functions = refl;
  imports = begins_itself c.imports;
  exceptions = begins_with c.exceptions xs;
  system = refl;
  fd = refl;
}

pub with_constants_leads : (ns : List (List ℕ)) (vs : List Valued) (p : Point) → LeadsTo p (with_constants ns vs p)
with_constants_leads ns vs p =
    names_lead (record p.context { constants = p.context.constants ++ vs }) meaning.Constant (length p.context.constants) ns p
    (constants_longer p.context vs) (same_imports p.context.imports p.body.variables)

pub with_types_leads : (ns : List (List ℕ)) (t : Ty) (p : Point) → LeadsTo p (with_types ns t p)
with_types_leads ns t p =
    names_lead (record p.context { types = p.context.types ++ map (λ n. t) ns }) meaning.Type (length p.context.types) ns p
    (types_longer p.context (map (λ n. t) ns)) (same_imports p.context.imports p.body.variables)

pub with_imports_leads : (ns : List (List ℕ)) (xs : List Imported) (p : Point) → AreThrough p.context.imports (p.context.imports ++ xs)
    p.body.variables → LeadsTo p (with_imports ns xs p)
with_imports_leads ns xs p h =
    names_lead (record p.context { imports = p.context.imports ++ xs }) meaning.Import (length p.context.imports) ns p
    (imports_longer p.context xs) h

abbrev pub exceptions_of : (module_name : List ℕ) → List (List ℕ) → List Ty → List Exception
exceptions_of m ns ts = map (λ n. record { module_name = m; name = n; values = ts }) ns

pub with_exceptions_leads : (m : List ℕ) (ns : List (List ℕ)) (ts : List Ty) (p : Point) → LeadsTo p (with_exceptions m ns ts p)
with_exceptions_leads m ns ts p =
    names_lead (record p.context { exceptions = p.context.exceptions ++ exceptions_of m ns ts }) meaning.Exception
    (length p.context.exceptions) ns p (exceptions_longer p.context (exceptions_of m ns ts))
    (same_imports p.context.imports p.body.variables)

-- ---- adts

-- where an adt begins: its members' scope has begun
abbrev pub named_adt : List ℕ → List decls.Variant → Point → Point
named_adt n vs p =
    leading
    (record p.context {
      adts = p.context.adts ++ (record { name = n; fields = []; picks = bare vs }) ∷ [];
      members = p.context.members ++ entered [] ∷ [];
    })
    meaning.Adt (length p.context.adts) (n ∷ []) p

pub named_adt_leads : (n : List ℕ) (vs : List decls.Variant) (p : Point) → LeadsTo p (named_adt n vs p)
named_adt_leads n vs p =
    let d : Def = record { name = n; fields = []; picks = bare vs } in
    names_lead (named_adt n vs p).context meaning.Adt (length p.context.adts) (n ∷ []) p
    (record {
      adts = begins_with p.context.adts (d ∷ []);
      modules = begins_itself p.context.modules;
      interfaces = begins_itself p.context.interfaces;
      globals = refl;
      constants = begins_itself p.context.constants;
      types = begins_itself p.context.types;
      functions = refl;
      imports = begins_itself p.context.imports;
      exceptions = begins_itself p.context.exceptions;
      system = refl;
      fd = refl;
    }) (same_imports p.context.imports p.body.variables)

pub showing_leads : (a : ℕ) (p : Point) → LeadsTo p (showing_adt a p)
showing_leads a p = record {
  variables = bodies.stays p.body;
  catches = omega arith;
  context = record {
    adts = begins_itself p.context.adts;
    modules = begins_itself p.context.modules;
    interfaces = begins_itself p.context.interfaces;
    globals = refl;
    constants = begins_itself p.context.constants;
    types = begins_itself p.context.types;
    functions = refl;
    imports = begins_itself p.context.imports;
    exceptions = begins_itself p.context.exceptions;
    system = refl;
    fd = refl;
  };
  scopes = refl;
  imported = same_imports p.context.imports p.body.variables;
}

mutual
  pub adds_leads : (m : Bool) (x : Member) (p q : Point) (g : Inside) → AddsToAdt m x p g q → LeadsTo p q
  adds_leads m (VarMember ns t) p q g h = leads_at p q p h.3 (leads_to_itself p)
  adds_leads m (FnMember ns f) p q g h = leads_at p q p h.4 (leads_to_itself p)
  adds_leads m (ConMember ns e) p q g h =
      leads_at p q (with_constants ns h.0 h.1) h.4
      (leads_on p h.1 (with_constants ns h.0 h.1) (constants_lead e 0 ns h.0 p h.1 h.2) (with_constants_leads ns h.0 h.1))
  adds_leads m (TypeMember ns t) p q g h = leads_at p q (with_types ns h.0 p) h.3 (with_types_leads ns h.0 p)
  adds_leads m (AdtMember n ms pick) p q g h =
      let o = named_adt n (variants_in pick) p in
      leads_at p q (leave h.2) h.6
      (leads_on p o (leave h.2) (named_adt_leads n (variants_in pick) p)
      (scope_leads o h.2 (all_add_leads m (length p.context.adts) ms (enter o) h.2 h.0 h.3)))

  pub all_add_leads : (m : Bool) (a : ℕ) (xs : Members) (p q : Point) (g : Inside) → AllAddToAdt m a xs p g q → LeadsTo p q
  all_add_leads m a NoMembers p q g h = leads_at p q p h.1 (leads_to_itself p)
  all_add_leads m a (MoreMembers x xs) p q g h =
      leads_on p h.2 q (adds_leads m x p h.2 h.0 h.3)
      (leads_on h.2 (showing_adt a h.2) q (showing_leads a h.2) (all_add_leads m a xs (showing_adt a h.2) q h.1 h.4))

-- An adt that stands in no other is complete.
pub complete_leads : (p b : Point) (ds : List Def) → LeadsTo p b → LeadsTo p (with_adts (length p.context.adts) ds b)
complete_leads p b ds h = record {
  variables = h.variables;
  catches = h.catches;
  context = record {
    adts = taken p.context.adts b.context.adts ds h.context.adts;
    modules = h.context.modules;
    interfaces = h.context.interfaces;
    globals = h.context.globals;
    constants = h.context.constants;
    types = h.context.types;
    functions = h.context.functions;
    imports = h.context.imports;
    exceptions = h.context.exceptions;
    system = h.context.system;
    fd = h.context.fd;
  };
  scopes = h.scopes;
  imported = h.imported;
}

pub adt_leads : (m : Bool) (n : List ℕ) (ms : Members) (pick : Option (List decls.Variant)) (p q : Point) → IsAdt m n ms pick p q
    → LeadsTo p q
adt_leads m n ms pick p q h =
    leads_at p q (with_adts (length p.context.adts) h.inside.adts h.behind) h.goes_on
    (complete_leads p h.behind h.inside.adts (adds_leads m (AdtMember n ms pick) p h.behind h.inside h.adds))
