-- The trees of the code without where they stand in a source.
use Rattle.std.specs.Prelude.{ℕ, List, [], ◌∷◌, map, Option, None, Some, option_map, Box}
use Rattle.std.specs.Global.{Global}
use Rattle.limbo_tree.specs.declared.name.Name as code_name
use Rattle.limbo_tree.specs.declared.name.Qual as code_qual
use Rattle.limbo_tree.specs.declared.types.TypeTree as code_type
use Rattle.limbo_tree.specs.declared.types.TypeTree.{TypeTree-F, fold-TypeTree}
use Rattle.limbo_tree.specs.declared.expr.Expr as code_expr
use Rattle.limbo_tree.specs.declared.expr.Expr.{Expr-F, fold-Expr}
use Rattle.limbo_tree.specs.declared.expr.Init as code_init
use Rattle.limbo_tree.specs.declared.expr.Init.{Init-F, fold-Init}
use Rattle.limbo_tree.specs.declared.decl.Decl as code_decl
use Rattle.limbo_tree.specs.declared.decl.Decl.TheVariants as decl
use Rattle.limbo_tree.specs.declared.decl.Member as code_member
use Rattle.limbo_tree.specs.declared.decl.Member.{Member-F, fold-Member}
use Rattle.limbo_tree.specs.declared.decl.Variant as code_variant
use Rattle.limbo_tree.specs.declared.decl.Field as code_field
use Rattle.limbo_tree.specs.declared.decl.FnType as code_fn
use Rattle.limbo_tree.specs.declared.decl.Param as code_param
use Rattle.limbo_tree.specs.declared.decl.Raises as code_raises
use Rattle.limbo_tree.specs.declared.decl.Raises.TheVariants as raises
use Rattle.limbo_tree.specs.declared.stmt.Stmt as code_stmt
use Rattle.limbo_tree.specs.declared.stmt.Stmt.{Stmt-F, fold-Stmt}
use Rattle.limbo_tree.specs.declared.stmt.Block as code_block
use Rattle.limbo_tree.specs.declared.stmt.Block.{Block-F, fold-Block}
use Rattle.limbo_tree.specs.declared.stmt.Handler.{Handler-F}
use Rattle.limbo_tree.specs.declared.stmt.HandlerArm as code_handler_arm
use Rattle.limbo_tree.specs.declared.stmt.HandlerArm.{HandlerArm-F, fold-HandlerArm}
use Rattle.limbo_tree.specs.declared.stmt.CaseArm as code_case_arm
use Rattle.limbo_tree.specs.declared.stmt.CaseArm.{CaseArm-F, fold-CaseArm}
use Rattle.limbo_tree.specs.declared.stmt.AltArm as code_alt_arm
use Rattle.limbo_tree.specs.declared.stmt.AltArm.{AltArm-F, fold-AltArm}
use Rattle.limbo_tree.specs.declared.stmt.PickArm as code_pick_arm
use Rattle.limbo_tree.specs.declared.stmt.PickArm.{PickArm-F, fold-PickArm}
use Rattle.limbo_tree.specs.declared.stmt.Pattern as code_pattern
use Rattle.limbo_tree.specs.declared.stmt.Pattern.TheVariants as pattern
use Rattle.limbo_tree.specs.declared.stmt.HandlerPattern as code_handler_pattern
use Rattle.limbo_tree.specs.declared.stmt.HandlerPattern.TheVariants as handler_pattern
use Rattle.limbo_tree.specs.declared.source.Source as code_source
use Rattle.limbo_tree.specs.declared.source.Top as code_top
use Rattle.limbo_tree.specs.declared.source.Top.TheVariants as top
use Rattle.limbo_tree.specs.Decls as decls
use Rattle.limbo_tree.specs.Stmts as stmts
use Rattle.limbo_tree.specs.Sources as sources
use Rattle.limbo_tree.specs.Types.{Qual, Ty, Tys, Byte, Int, Big, String, ArrayOf, ListOf, ChanOf, RefTo, Named, Tuple, NoTys, MoreTys}
use Rattle.limbo_tree.specs.Exprs.{Expr, Part, Exprs, Init, Inits, Assign, Load, Binary, Unary, Bytes, Filled, Sized, Channel, Listed, Call, Index, Slice, Dot, Arrow, Postfix, Number, Chars, Name, Nil, Group, Absent, Present, NoExprs, MoreExprs, Next, At, Rest, NoInits, MoreInits}

abbrev pub view_name : code_name.Name → List ℕ
view_name n = n.text

abbrev pub view_qual : code_qual.Qual → Qual
view_qual q = record { first = q.first.text; member = option_map view_name q.member; part = option_map view_name q.part }

abbrev pub tys_of : List Ty → Tys
tys_of [] = NoTys
tys_of (t ∷ ts) = MoreTys t (tys_of ts)

abbrev pub type_step : TypeTree-F Ty → Ty
type_step (TypeTree-F.Byte s) = Byte
type_step (TypeTree-F.Int s) = Int
type_step (TypeTree-F.Big s) = Big
type_step (TypeTree-F.String s) = String
type_step (TypeTree-F.Array t s) = ArrayOf t.value
type_step (TypeTree-F.List t s) = ListOf t.value
type_step (TypeTree-F.Chan t s) = ChanOf t.value
type_step (TypeTree-F.Ref q s) = RefTo (view_qual q)
type_step (TypeTree-F.Named q s) = Named (view_qual q)
type_step (TypeTree-F.Tuple ts s) = Tuple (tys_of ts.items)

unfoldable pub view_type : code_type.TypeTree → Ty
view_type = fold-TypeTree Ty type_step

unfoldable pub view_types : List code_type.TypeTree → Tys
view_types ts = tys_of (map view_type ts)

abbrev pub exprs_of : List Expr → Exprs
exprs_of [] = NoExprs
exprs_of (e ∷ es) = MoreExprs e (exprs_of es)

abbrev pub inits_of : List Init → Inits
inits_of [] = NoInits
inits_of (i ∷ is) = MoreInits i (inits_of is)

abbrev pub part_of : Option Expr → Part
part_of None = Absent
part_of (Some e) = Present e

abbrev pub init_step : Init-F Expr Init → Init
init_step (Init-F.Next e) = Next e.value
init_step (Init-F.At i e) = At i.value e.value
init_step (Init-F.Rest e) = Rest e.value

abbrev pub expr_step : Expr-F Expr Init → Expr
expr_step (Expr-F.Assign o l r s) = Assign o l.value r.value
expr_step (Expr-F.Load n e s) = Load n.text e.value
expr_step (Expr-F.Binary o l r s) = Binary o l.value r.value
expr_step (Expr-F.Unary o e s) = Unary o e.value
expr_step (Expr-F.Bytes e s) = Bytes e.value
expr_step (Expr-F.Filled n is comma s) = Filled (part_of (option_map (λ e. e.value) n)) (inits_of is.items) comma
expr_step (Expr-F.Sized e t s) = Sized e.value (view_type t.value)
expr_step (Expr-F.Channel n t s) = Channel (part_of (option_map (λ e. e.value) n)) (view_type t.value)
expr_step (Expr-F.Listed es s) = Listed (exprs_of es.items)
expr_step (Expr-F.Call f es s) = Call f.value (exprs_of es.items)
expr_step (Expr-F.Index e i s) = Index e.value i.value
expr_step (Expr-F.Slice e i j s) = Slice e.value (part_of (option_map (λ e. e.value) i)) (part_of (option_map (λ e. e.value) j))
expr_step (Expr-F.Dot e n s) = Dot e.value n.text
expr_step (Expr-F.Arrow e n s) = Arrow e.value n.text
expr_step (Expr-F.Postfix o e s) = Postfix o e.value
expr_step (Expr-F.Number v wide s) = Number v wide
expr_step (Expr-F.Chars t s) = Chars t
expr_step (Expr-F.Name n s) = Name n
expr_step (Expr-F.Nil s) = Nil
expr_step (Expr-F.Group es s) = Group (exprs_of es.items)

unfoldable pub view_expr : code_expr.Expr → Expr
view_expr = fold-Expr Expr Init expr_step init_step

unfoldable pub view_init : code_init.Init → Init
view_init = fold-Init Expr Init expr_step init_step

-- the type in a box, if there is one
abbrev pub view_boxed_type : Option (Box code_type.TypeTree Global) → Option Ty
view_boxed_type t = option_map (λ b. view_type b.value) t

-- the expression in a box, if there is one
abbrev pub view_boxed : Option (Box code_expr.Expr Global) → Option Expr
view_boxed e = option_map (λ b. view_expr b.value) e

-- the same, as a part that may be absent: [expr]
abbrev pub view_part : Option (Box code_expr.Expr Global) → Part
view_part None = Absent
view_part (Some e) = Present (view_expr e.value)

-- names, without where they stand
abbrev pub names_of : List code_name.Name → List (List ℕ)
names_of ns = map view_name ns

abbrev pub name_of : Option code_name.Name → Option (List ℕ)
name_of n = option_map view_name n

-- ---- declarations

abbrev pub view_param : code_param.Param → decls.Param
view_param p = record { names = map name_of p.names.items; is_self = p.is_self; of = view_type p.of.value }

abbrev pub view_raises : code_raises.Raises → decls.Raises
view_raises (raises.One n) = decls.One n.text
view_raises (raises.Several ns) = decls.Several (names_of ns.items)

abbrev pub view_fn : code_fn.FnType → decls.FnType
view_fn f = record {
  params = map view_param f.params.items;
  answer = view_boxed_type f.answer;
  raises = option_map view_raises f.raises;
}

abbrev pub view_field : code_field.Field → decls.Field
view_field f = record { names = names_of f.names.items; of = view_type f.of.value }

abbrev pub view_variant : code_variant.Variant → decls.Variant
view_variant v = record { names = names_of v.names.items; fields = map view_field v.fields.items }

abbrev pub members_of : List decls.Member → decls.Members
members_of [] = decls.NoMembers
members_of (m ∷ ms) = decls.MoreMembers m (members_of ms)

abbrev pub member_step : Member-F decls.Member → decls.Member
member_step (Member-F.Var ns t s) = decls.VarMember (names_of ns.items) (view_type t.value)
member_step (Member-F.Function ns f s) = decls.FnMember (names_of ns.items) (view_fn f.value)
member_step (Member-F.Con ns e s) = decls.ConMember (names_of ns.items) (view_expr e.value)
member_step (Member-F.Type ns t s) = decls.TypeMember (names_of ns.items) (view_type t.value)
member_step (Member-F.Adt n ms pick s) =
    decls.AdtMember n.text (members_of ms.items) (option_map (λ vs. map view_variant vs.items) pick)

unfoldable pub view_member : code_member.Member → decls.Member
view_member = fold-Member decls.Member member_step

unfoldable pub view_members : List code_member.Member → decls.Members
view_members ms = members_of (map view_member ms)

abbrev pub view_decl : code_decl.Decl → decls.Decl
view_decl (decl.Con ns e s) = decls.Con (names_of ns.items) (view_expr e.value)
view_decl (decl.Type ns t s) = decls.TypeName (names_of ns.items) (view_type t.value)
view_decl (decl.Var ns t v s) = decls.Var (names_of ns.items) (view_type t.value) (view_boxed v)
view_decl (decl.Define ns e s) = decls.Define (names_of ns.items) (view_expr e.value)
view_decl (decl.Import ns m s) = decls.Import (names_of ns.items) m.text
view_decl (decl.Exception ns ts s) = decls.Exception (names_of ns.items) (view_types ts.items)
view_decl (decl.Module n ms s) = decls.Module n.text (view_members ms.items)
view_decl (decl.Adt n ms pick s) =
    decls.Adt n.text (view_members ms.items) (option_map (λ vs. map view_variant vs.items) pick)

-- ---- statements

abbrev pub view_pattern : code_pattern.Pattern → stmts.Pattern
view_pattern (pattern.One e) = stmts.Value (view_expr e.value)
view_pattern (pattern.Range e f) = stmts.Range (view_expr e.value) (view_expr f.value)
view_pattern (pattern.Any s) = stmts.AnyValue

abbrev pub view_handler_pattern : code_handler_pattern.HandlerPattern → stmts.HandlerPattern
view_handler_pattern (handler_pattern.Chars t s) = stmts.Text t
view_handler_pattern (handler_pattern.Name n s) = stmts.Declared n
view_handler_pattern (handler_pattern.Any s) = stmts.AnyException

abbrev pub stmts_of : List stmts.Stmt → stmts.Stmts
stmts_of [] = stmts.NoStmts
stmts_of (s ∷ ss) = stmts.MoreStmts s (stmts_of ss)

-- an arm, and what stands behind a block
pub record Arm : Type 0 where
  pub head : stmts.Head
  pub body : stmts.Stmts

pub record Handler : Type 0 where
  pub name : Option (List ℕ)
  pub arms : stmts.Arms

abbrev pub arms_of : List Arm → stmts.Arms
arms_of [] = stmts.NoArms
arms_of (a ∷ arms) = stmts.MoreArms a.head a.body (arms_of arms)

abbrev pub alt_arm_step : AltArm-F stmts.Stmt Arm stmts.Block Arm Handler Arm Arm → Arm
alt_arm_step a = record { head = stmts.AltHead (view_boxed a.head); body = stmts_of a.body.items }

abbrev pub case_arm_step : CaseArm-F stmts.Stmt Arm stmts.Block Arm Handler Arm Arm → Arm
case_arm_step a = record { head = stmts.CaseHead (map view_pattern a.patterns.items); body = stmts_of a.body.items }

abbrev pub handler_arm_step : HandlerArm-F stmts.Stmt Arm stmts.Block Arm Handler Arm Arm → Arm
handler_arm_step a = record { head = stmts.HandlerHead (map view_handler_pattern a.patterns.items); body = stmts_of a.body.items }

abbrev pub pick_arm_step : PickArm-F stmts.Stmt Arm stmts.Block Arm Handler Arm Arm → Arm
pick_arm_step a = record { head = stmts.PickHead (names_of a.names.items); body = stmts_of a.body.items }

abbrev pub handler_step : Handler-F stmts.Stmt Arm stmts.Block Arm Handler Arm Arm → Handler
handler_step h = record { name = name_of h.name; arms = arms_of h.arms.items }

-- a block by its statements and what handles their exceptions
abbrev pub block_of : stmts.Stmts → Option Handler → stmts.Block
block_of ss None = stmts.Plain ss
block_of ss (Some h) = stmts.Handled ss h.name h.arms

abbrev pub block_step : Block-F stmts.Stmt Arm stmts.Block Arm Handler Arm Arm → stmts.Block
block_step b = block_of (stmts_of b.statements.items) b.handler

-- an `if` by what stands behind its `else`
abbrev pub if_of : Expr → stmts.Stmt → Option stmts.Stmt → stmts.Stmt
if_of c s None = stmts.If c s
if_of c s (Some t) = stmts.IfElse c s t

abbrev pub stmt_step : Stmt-F stmts.Stmt Arm stmts.Block Arm Handler Arm Arm → stmts.Stmt
stmt_step (Stmt-F.Empty s) = stmts.Empty
stmt_step (Stmt-F.Block b s) = stmts.Nested b
stmt_step (Stmt-F.Declare d s) = stmts.Declare (view_decl d.value)
stmt_step (Stmt-F.Eval e s) = stmts.Eval (view_expr e.value)
stmt_step (Stmt-F.If c then other s) = if_of (view_expr c.value) then.value (option_map (λ t. t.value) other)
stmt_step (Stmt-F.While l c body s) = stmts.While (name_of l) (view_boxed c) body.value
stmt_step (Stmt-F.Do l body c s) = stmts.Do (name_of l) body.value (view_boxed c)
stmt_step (Stmt-F.For l a c b body s) =
    stmts.For (name_of l) (view_boxed a) (view_boxed c) (view_boxed b) body.value
stmt_step (Stmt-F.Case l e arms s) = stmts.Case (name_of l) (view_expr e.value) (arms_of arms.items)
stmt_step (Stmt-F.Alt l arms s) = stmts.Alt (name_of l) (arms_of arms.items)
stmt_step (Stmt-F.Pick l n e arms s) = stmts.Pick (name_of l) n.text (view_expr e.value) (arms_of arms.items)
stmt_step (Stmt-F.Break l s) = stmts.Break (name_of l)
stmt_step (Stmt-F.Continue l s) = stmts.Continue (name_of l)
stmt_step (Stmt-F.Return e s) = stmts.Return (view_boxed e)
stmt_step (Stmt-F.Exit s) = stmts.Exit
stmt_step (Stmt-F.Spawn e s) = stmts.Spawn (view_expr e.value)
stmt_step (Stmt-F.Raise e s) = stmts.Raise (view_boxed e)

unfoldable pub view_stmt : code_stmt.Stmt → stmts.Stmt
view_stmt = fold-Stmt stmts.Stmt Arm stmts.Block Arm Handler Arm Arm stmt_step alt_arm_step block_step case_arm_step handler_step handler_arm_step pick_arm_step

unfoldable pub view_stmts : List code_stmt.Stmt → stmts.Stmts
view_stmts ss = stmts_of (map view_stmt ss)

unfoldable pub view_block : code_block.Block → stmts.Block
view_block = fold-Block stmts.Stmt Arm stmts.Block Arm Handler Arm Arm stmt_step alt_arm_step block_step case_arm_step handler_step handler_arm_step pick_arm_step

unfoldable pub view_case_arm : code_case_arm.CaseArm → Arm
view_case_arm = fold-CaseArm stmts.Stmt Arm stmts.Block Arm Handler Arm Arm stmt_step alt_arm_step block_step case_arm_step handler_step handler_arm_step pick_arm_step

unfoldable pub view_alt_arm : code_alt_arm.AltArm → Arm
view_alt_arm = fold-AltArm stmts.Stmt Arm stmts.Block Arm Handler Arm Arm stmt_step alt_arm_step block_step case_arm_step handler_step handler_arm_step pick_arm_step

unfoldable pub view_pick_arm : code_pick_arm.PickArm → Arm
view_pick_arm = fold-PickArm stmts.Stmt Arm stmts.Block Arm Handler Arm Arm stmt_step alt_arm_step block_step case_arm_step handler_step handler_arm_step pick_arm_step

unfoldable pub view_handler_arm : code_handler_arm.HandlerArm → Arm
view_handler_arm = fold-HandlerArm stmts.Stmt Arm stmts.Block Arm Handler Arm Arm stmt_step alt_arm_step block_step case_arm_step handler_step handler_arm_step pick_arm_step

-- ---- sources

abbrev pub view_top : code_top.Top → sources.Top
view_top (top.Include path s) = sources.Include path
view_top (top.Declare d) = sources.Declared (view_decl d.value)
view_top (top.Define f) = sources.Defined f.value.name.text (name_of f.value.part) (view_fn f.value.of) (view_block f.value.body)

abbrev pub view_source : code_source.Source → sources.Source
view_source s = record { implements = name_of s.implements; tops = map view_top s.tops.items }
