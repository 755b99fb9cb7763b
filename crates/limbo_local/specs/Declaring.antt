-- Declarations in bodies (Limbo Language Reference, declarations and scope). A name is seen behind its declaration, and not in the value
-- that the declaration gives it.
use Rattle.std.specs.Prelude.{◌≡◌, ℕ, false, List, [], ◌∷◌, length, None, Some}
use Rattle.limbo_tree.specs.Decls as decls
use Rattle.limbo_tree.specs.Decls.{Decl}
use Rattle.limbo_tree.specs.Types as written
use Rattle.limbo_types.specs.Types.{Ty, Tys, Tuple}
use Rattle.limbo_layout.specs.Adts.{listed}
use Rattle.limbo_typed.specs.Typed.{Expr, Stmt, Empty, Declare}
use Rattle.limbo_typed.specs.Sound.{type_of, IsSettled}
use Rattle.limbo_standing.specs.Standing.{Settles}
use Rattle.limbo_declarations.specs.Scopes.{AdtIsOnce, ModuleIsOnce}
use Rattle.limbo_context.specs.declared.context.Imported.{Imported}
use Rattle.limbo_context.specs.declared.context.Origin.{Origin}
use Rattle.limbo_context.specs.Context.{Valued}
use Rattle.limbo_typing.specs.limbo_written.Written.{MeansPermitted}
use Rattle.limbo_local.specs.Points.{Point, ValueAt, AreNew, next_numbers, with_variables, leave}
use Rattle.limbo_local.specs.Local.{AreConstants, with_constants, with_types, NamesModule, AreImported, with_imports, with_exceptions}
use Rattle.limbo_local.specs.Members.{IsAdt, AllAddToModule, open_module}

-- Where the checking has come to, a declaration is this statement, and leads there: variables begin, with zero or `nil`, or each with the
-- one value; anything else does nothing when it runs.
abbrev pub Declares : (module_name : List ℕ) → Decl → Point → Stmt → Point → Type 0
Declares m (decls.Con ns e) p z q =
    (vs : List Valued) × (r : Point) × AreConstants e 0 ns vs p r × AreNew ns r.body × (z ≡ Empty) × (q ≡ with_constants ns vs r)
Declares m (decls.TypeName ns t) p z q =
    (u : Ty) × MeansPermitted p.context p.body t u × AreNew ns p.body × (z ≡ Empty) × (q ≡ with_types ns u p)
Declares m (decls.Var ns t None) p z q =
    (u : Ty) × MeansPermitted p.context p.body t u × AreNew ns p.body × (z ≡ Declare (next_numbers ns p) None)
    × (q ≡ with_variables ns u p)
Declares m (decls.Var ns t (Some e)) p z q =
    (u : Ty) × (x : Expr) × (y : Expr) × (r : Point) × MeansPermitted p.context p.body t u × ValueAt p e x r × Settles u x y
    × AreNew ns r.body × (z ≡ Declare (next_numbers ns r) (Some y)) × (q ≡ with_variables ns u r)
Declares m (decls.Define ns e) p z q =
    (x : Expr) × (r : Point) × ValueAt p e x r × IsSettled (type_of x) × AreNew ns r.body
    × (z ≡ Declare (next_numbers ns r) (Some x)) × (q ≡ with_variables ns (type_of x) r)
Declares m (decls.Import ns name) p z q =
    (from : Origin) × (i : ℕ) × (xs : List Imported) × NamesModule p name from i × AreImported p.context from i ns xs
    × AreNew ns p.body × (z ≡ Empty) × (q ≡ with_imports ns xs p)
Declares m (decls.Exception ns ts) p z q =
    (us : Tys) × MeansPermitted p.context p.body (written.Tuple ts) (Tuple us) × AreNew ns p.body × (z ≡ Empty)
    × (q ≡ with_exceptions m ns (listed us) p)
Declares m (decls.Module n ms) p z q =
    (r : Point) × ModuleIsOnce ms × AreNew (n ∷ []) p.body × AllAddToModule (length p.context.interfaces) ms (open_module n p) r
    × (z ≡ Empty) × (q ≡ leave r)
Declares m (decls.Adt n ms pick) p z q = AdtIsOnce ms pick × AreNew (n ∷ []) p.body × IsAdt false n ms pick p q × (z ≡ Empty)
