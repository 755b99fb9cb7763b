-- Reading declarations, from left to right, with the first fault that is met. Each choice is made by the next tokens. A
-- budget bounds the nesting of the trees inside.
use Rattle.std.specs.Prelude.{ℕ, zero, suc, List, [], ◌∷◌, length, Bool, true, false, not, Option, Some, None, Result, Ok, Err}
use Rattle.limbo_lexer.specs.declared.token.Kind.{Kind}
use Rattle.limbo_lexer.specs.declared.token.Mark.TheVariants as mark
use Rattle.limbo_lexer.specs.declared.token.Key.TheVariants as key
use Rattle.limbo_reading.specs.declared.fault.Fault.{Fault}
use Rattle.limbo_reading.specs.declared.fault.Fault.TheVariants.{Syntax, TooDeep}
use Rattle.limbo_reading.specs.Reading.{◌>>=◌, Reader, choose, after_mark, after_key, after_name, expect_mark, expect_key, expect_name}
use Rattle.limbo_reading.specs.Lists.{items, until, names_at, choices_at}
use Rattle.limbo_tree.specs.Types.{Ty, Tys, NoTys}
use Rattle.limbo_tree.specs.Exprs.{Expr}
use Rattle.limbo_tree.specs.Decls.{Param, Raises, One, Several, FnType, Field, Variant, Member, VarMember, FnMember, ConMember, TypeMember, AdtMember, Members, Decl, Con, TypeName, Var, Define, Import, Exception, Module, Adt}
use Rattle.limbo_tree.specs.View.{tys_of, members_of}
use Rattle.limbo_expr_parts.specs.Types.{ty_at}
use Rattle.limbo_expr_parser.specs.Exprs.{readers}

-- a thing and the ";" behind it
abbrev pub ended : {A : Type 0} → Reader A → Reader A
ended r ts = do
  x ← r ts
  us ← expect_mark mark.Semicolon x.1
  Ok (x.0, us)

abbrev pub expr_at : ℕ → Reader Expr
expr_at b ts = (readers b).expr ts

-- ---- function types

-- pname = ID | "nil"
abbrev pub pname_at : Reader (Option (List ℕ))
pname_at ts = choose (after_key key.Nil ts) (do
  n ← expect_name ts
  Ok (Some n.0, n.1)) λ us. Ok (None, us)

-- pname {"," pname}
abbrev pub pnames_at : Reader (List (Option (List ℕ)))
pnames_at ts = items pname_at (after_mark mark.Comma) ts

-- ["self"]
abbrev pub self_at : Reader Bool
self_at ts = choose (after_key key.SelfWord ts) (Ok (false, ts)) λ us. Ok (true, us)

-- param = pname {"," pname} ":" ["self"] type
unfoldable pub param_at : ℕ → Reader Param
param_at b ts = do
  ns ← pnames_at ts
  us ← expect_mark mark.Colon ns.1
  s ← self_at us
  t ← ty_at b s.1
  Ok (record { names = ns.0; is_self = s.0; of = t.0 }, t.1)

-- [param {"," param}] ")"
unfoldable pub params_at : ℕ → Reader (List Param)
params_at b ts = choose (after_mark mark.CloseParen ts) (do
  ps ← items (param_at b) (after_mark mark.Comma) ts
  us ← expect_mark mark.CloseParen ps.1
  Ok (ps.0, us)) λ us. Ok ([], us)

-- [":" type]
unfoldable pub answer_at : ℕ → Reader (Option Ty)
answer_at b ts = choose (after_mark mark.Colon ts) (Ok (None, ts)) λ us. do
  t ← ty_at b us
  Ok (Some t.0, t.1)

-- ["raises" (ID | "(" ids ")")]
unfoldable pub raises_at : Reader (Option Raises)
raises_at ts = choose (after_key key.Raises ts) (Ok (None, ts)) λ us. choose (after_mark mark.OpenParen us) (do
  n ← expect_name us
  Ok (Some (One n.0), n.1)) λ vs. do
    ns ← names_at vs
    ws ← expect_mark mark.CloseParen ns.1
    Ok (Some (Several ns.0), ws)

-- what stands behind a function's name: "(" [params] ")" [":" type] [raises]
unfoldable pub fn_at : ℕ → Reader FnType
fn_at b ts = do
  us ← expect_mark mark.OpenParen ts
  ps ← params_at b us
  t ← answer_at b ps.1
  r ← raises_at t.1
  Ok (record { params = ps.0; answer = t.0; raises = r.0 }, r.1)

-- ---- variants

-- ids ":" type ";"
unfoldable pub field_at : ℕ → Reader Field
field_at b ts = do
  ns ← names_at ts
  us ← expect_mark mark.Colon ns.1
  t ← ended (ty_at b) us
  Ok (record { names = ns.0; of = t.0 }, t.1)

-- a name with "," or ":" behind it
abbrev pub begins_field : List Kind → Bool
begins_field ts = choose (after_name ts) false λ n. choose (after_mark mark.Comma n.1)
    (choose (after_mark mark.Colon n.1) false (λ us. true)) λ us. true

abbrev pub fields_end : List Kind → Result Bool Fault
fields_end ts = Ok (not (begins_field ts))

-- {ids ":" type ";"}
abbrev pub fields_at : ℕ → Reader (List Field)
fields_at b ts = until (field_at b) fields_end (suc (length ts)) ts

-- variant = ID {"or" ID} "=>" {ids ":" type ";"}
unfoldable pub variant_at : ℕ → Reader Variant
variant_at b ts = do
  ns ← choices_at ts
  us ← expect_mark mark.FatArrow ns.1
  fs ← fields_at b us
  Ok (record { names = ns.0; fields = fs.0 }, fs.1)

-- "}"
abbrev pub is_closed : List Kind → Bool
is_closed ts = choose (after_mark mark.CloseBrace ts) false λ us. true

abbrev pub variants_end : List Kind → Result Bool Fault
variants_end ts = Ok (is_closed ts)

-- {variant}
abbrev pub variants_at : ℕ → Reader (List Variant)
variants_at b ts = until (variant_at b) variants_end (suc (length ts)) ts

-- ["pick" "{" {variant} "}"]
unfoldable pub pick_at : ℕ → Reader (Option (List Variant))
pick_at b ts = choose (after_key key.Pick ts) (Ok (None, ts)) λ us. do
  vs ← expect_mark mark.OpenBrace us
  xs ← variants_at b vs
  ws ← expect_mark mark.CloseBrace xs.1
  Ok (Some xs.0, ws)

-- ---- members

-- what stands between the braces of an adt
pub record Inside : Type 0 where
  pub members : Members
  pub pick : Option (List Variant)

-- "}" or "pick"
abbrev pub ends_members : List Kind → Bool
ends_members ts = choose (after_key key.Pick ts) (is_closed ts) λ us. true

abbrev pub members_end : List Kind → Result Bool Fault
members_end ts = Ok (ends_members ts)

-- {member}
unfoldable pub members_of_at : Reader Member → Reader (List Member)
members_of_at r ts = until r members_end (suc (length ts)) ts

-- the name, where it is the only one
abbrev pub only : List (List ℕ) → Option (List ℕ)
only [] = None
only (n ∷ []) = Some n
only (n ∷ m ∷ ns) = None

-- "adt" "{" {member} ["pick" "{" {variant} "}"] "}" ";", whose members r reads
unfoldable pub adt_of_at : Reader Member → ℕ → Reader Inside
adt_of_at r b ts = do
  us ← expect_key key.Adt ts
  vs ← expect_mark mark.OpenBrace us
  ms ← members_of_at r vs
  p ← pick_at b ms.1
  ws ← expect_mark mark.CloseBrace p.1
  xs ← expect_mark mark.Semicolon ws
  Ok (record { members = members_of ms.0; pick = p.0 }, xs)

-- what stands behind "fn" in a member
abbrev pub fn_member : ℕ → List (List ℕ) → Reader Member
fn_member b ns ts = do
  f ← ended (fn_at b) ts
  Ok (FnMember ns f.0, f.1)

-- what stands behind "con" in a member
abbrev pub con_member : ℕ → List (List ℕ) → Reader Member
con_member b ns ts = do
  e ← ended (expr_at b) ts
  Ok (ConMember ns e.0, e.1)

-- what stands behind "type" in a member
abbrev pub type_member : ℕ → List (List ℕ) → Reader Member
type_member b ns ts = do
  t ← ended (ty_at b) ts
  Ok (TypeMember ns t.0, t.1)

-- a member from its "adt" on, whose inside r reads
abbrev pub adt_member : Reader Inside → List (List ℕ) → Reader Member
adt_member r ns ts = choose (only ns) (Err (Syntax (length ts))) λ n. do
  x ← r ts
  Ok (AdtMember n x.0.members x.0.pick, x.1)

abbrev pub var_member : ℕ → List (List ℕ) → Reader Member
var_member b ns ts = do
  t ← ended (ty_at b) ts
  Ok (VarMember ns t.0, t.1)

-- what stands behind the ":" of a member; r reads an adt
unfoldable pub member_behind : Reader Inside → ℕ → List (List ℕ) → Reader Member
member_behind r b ns ts =
    choose (after_key key.Fn ts)
    (choose (after_key key.Con ts)
    (choose (after_key key.TypeWord ts)
    (choose (after_key key.Adt ts) (var_member b ns ts) λ us. adt_member r ns ts)
    λ us. type_member b ns us)
    λ us. con_member b ns us)
    λ us. fn_member b ns us

-- a member; r reads an adt
unfoldable pub member_of_at : Reader Inside → ℕ → Reader Member
member_of_at r b ts = do
  ns ← names_at ts
  us ← expect_mark mark.Colon ns.1
  member_behind r b ns.0 us

-- an adt of nesting up to a limit, from its "adt" on
unfoldable pub adt_at : ℕ → Reader Inside
adt_at zero ts = Err (TooDeep (length ts))
adt_at (suc b) ts = adt_of_at (member_of_at (adt_at b) b) b ts

-- a member, its last ";" included
unfoldable pub member_at : ℕ → Reader Member
member_at b ts = member_of_at (adt_at b) b ts

-- {member}
abbrev pub members_at : ℕ → Reader (List Member)
members_at b ts = members_of_at (member_at b) ts

-- ---- declarations

-- ["=" expr]
unfoldable pub value_at : ℕ → Reader (Option Expr)
value_at b ts = choose (after_mark mark.Assign ts) (Ok (None, ts)) λ us. do
  e ← expr_at b us
  Ok (Some e.0, e.1)

-- ["(" type {"," type} ")"]
unfoldable pub values_at : ℕ → Reader Tys
values_at b ts = choose (after_mark mark.OpenParen ts) (Ok (NoTys, ts)) λ us. do
  tys ← items (ty_at b) (after_mark mark.Comma) us
  vs ← expect_mark mark.CloseParen tys.1
  Ok (tys_of tys.0, vs)

-- "{" {member} "}" ";"
unfoldable pub module_at : ℕ → Reader Members
module_at b ts = do
  us ← expect_mark mark.OpenBrace ts
  ms ← members_at b us
  vs ← expect_mark mark.CloseBrace ms.1
  ws ← expect_mark mark.Semicolon vs
  Ok (members_of ms.0, ws)

-- what stands behind "con" in a declaration
abbrev pub con_decl : ℕ → List (List ℕ) → Reader Decl
con_decl b ns ts = do
  e ← ended (expr_at b) ts
  Ok (Con ns e.0, e.1)

-- what stands behind "type" in a declaration
abbrev pub type_decl : ℕ → List (List ℕ) → Reader Decl
type_decl b ns ts = do
  t ← ended (ty_at b) ts
  Ok (TypeName ns t.0, t.1)

-- what stands behind "import" in a declaration
abbrev pub import_decl : List (List ℕ) → Reader Decl
import_decl ns ts = do
  m ← ended expect_name ts
  Ok (Import ns m.0, m.1)

-- what stands behind "exception" in a declaration
abbrev pub exception_decl : ℕ → List (List ℕ) → Reader Decl
exception_decl b ns ts = do
  tys ← ended (values_at b) ts
  Ok (Exception ns tys.0, tys.1)

-- a declaration from its "module" on; us stands behind it
abbrev pub module_decl : ℕ → List (List ℕ) → List Kind → Reader Decl
module_decl b ns us ts = choose (only ns) (Err (Syntax (length ts))) λ n. do
  ms ← module_at b us
  Ok (Module n ms.0, ms.1)

-- a declaration from its "adt" on
abbrev pub adt_decl : ℕ → List (List ℕ) → Reader Decl
adt_decl b ns ts = choose (only ns) (Err (Syntax (length ts))) λ n. do
  x ← adt_at b ts
  Ok (Adt n x.0.members x.0.pick, x.1)

-- type ["=" expr] ";"
abbrev pub var_decl : ℕ → List (List ℕ) → Reader Decl
var_decl b ns ts = do
  t ← ty_at b ts
  v ← ended (value_at b) t.1
  Ok (Var ns t.0 v.0, v.1)

-- what stands behind the ":" of a declaration that has a body in braces, or a type
unfoldable pub decl_of_type : ℕ → List (List ℕ) → Reader Decl
decl_of_type b ns ts =
    choose (after_key key.Module ts)
    (choose (after_key key.Adt ts) (var_decl b ns ts) λ us. adt_decl b ns ts)
    λ us. module_decl b ns us ts

-- what stands behind the ":" of a declaration
unfoldable pub decl_behind : ℕ → List (List ℕ) → Reader Decl
decl_behind b ns ts =
    choose (after_key key.Con ts)
    (choose (after_key key.TypeWord ts)
    (choose (after_key key.Import ts)
    (choose (after_key key.Exception ts) (decl_of_type b ns ts) λ us. exception_decl b ns us)
    λ us. import_decl ns us)
    λ us. type_decl b ns us)
    λ us. con_decl b ns us

-- what stands behind ":="
abbrev pub define_decl : ℕ → List (List ℕ) → Reader Decl
define_decl b ns ts = do
  e ← ended (expr_at b) ts
  Ok (Define ns e.0, e.1)

-- a declaration, its last ";" included
unfoldable pub decl_at : ℕ → Reader Decl
decl_at b ts = do
  ns ← names_at ts
  choose (after_mark mark.Define ns.1) (do
    us ← expect_mark mark.Colon ns.1
    decl_behind b ns.0 us) λ us. define_decl b ns.0 us
