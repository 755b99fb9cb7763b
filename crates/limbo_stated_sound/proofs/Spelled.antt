-- Blocks that are spelled by proper tokens, not too many, are proper.
use Rattle.std.proofs.Common.{◌≤◌, ◌<◌, ℕ, Bool, true, false, List, [], ◌∷◌, length, Option, None, Some, arith}
use Rattle.limbo_lexer.specs.declared.token.Kind.{Kind}
use Rattle.limbo_tree.specs.Tokens.{spell_label, spell_mark_label, spell_more_names, spell_names, spell_other_names, spell_choices}
use Rattle.limbo_tree.specs.Types as types
use Rattle.limbo_tree.specs.Types.{spell_ty, spell_tys, spell_more_tys, spell_qual}
use Rattle.limbo_tree.specs.Exprs as exprs
use Rattle.limbo_tree.specs.Exprs.{spell, spell_exprs, spell_more_exprs, spell_init, spell_inits, spell_more_inits, spell_comma}
use Rattle.limbo_tree.specs.Decls as decls
use Rattle.limbo_tree.specs.Decls.{Decl, Member, Members, spell_pname, spell_more_pnames, spell_pnames, spell_self, spell_param}
use Rattle.limbo_tree.specs.Decls.{spell_more_params, spell_params, spell_answer, spell_raises, spell_fn, spell_field, spell_fields}
use Rattle.limbo_tree.specs.Decls.{spell_variant, spell_variants, spell_pick, spell_member, spell_members, spell_value, spell_values}
use Rattle.limbo_tree.specs.Decls.{spell_decl}
use Rattle.limbo_tree.specs.Stmts as tree
use Rattle.limbo_tree.specs.Stmts.{Stmt, Stmts, Block, Arms, Head, Pattern, HandlerPattern, spell_pattern, spell_other_patterns}
use Rattle.limbo_tree.specs.Stmts.{spell_patterns}
use Rattle.limbo_tree.specs.Stmts.{spell_handler_pattern, spell_other_handler_patterns, spell_handler_patterns, spell_head, spell_option}
use Rattle.limbo_tree.specs.Stmts.{spell_stmt, spell_stmts, spell_block, spell_arms}
use Rattle.limbo_typed.specs.Sound.{Each}
use Rattle.limbo_typed_sound.specs.Proper.{TokenInRange}
use Rattle.limbo_typed_sound.proofs.Spelled.{spelled}
use Rattle.limbo_stated_sound.specs.Proper.{IsProper, AreCounted, InOption, InPattern, InPatterns, InHead, InMember, InMembers}
use Rattle.limbo_stated_sound.specs.Proper.{IsProperDecl}
use Rattle.limbo_stated_sound.specs.Proper.{IsProperStmt, AreProperStmts, IsProperBlock, AreProperArms}

-- Each token is in range, and those behind it aren't too many.
abbrev pub Good : List Kind → Type 0
Good [] = Unit {0}
Good (t ∷ ts) = (TokenInRange t × (length ts < 2147483648)) × Good ts

pub good_tokens : (ts : List Kind) → Each TokenInRange ts → length ts ≤ 2147483648 → Good ts
good_tokens [] h l = tt
good_tokens (t ∷ ts) h l = ((h.0, omega arith), good_tokens ts h.1 (omega arith))

all_in_range : (ts : List Kind) → Good ts → Each TokenInRange ts
all_in_range [] h = tt
all_in_range (t ∷ ts) h = (h.0.0, all_in_range ts h.1)

-- ---- names

more_names : (ns : List (List ℕ)) (ts : List Kind) → Good (spell_more_names ns ts) → Good ts
more_names [] ts h = h
more_names (n ∷ ns) ts h = more_names ns ts h.1.1

names : (ns : List (List ℕ)) (ts : List Kind) → Good (spell_names ns ts) → Good ts
names [] ts h = h
names (n ∷ ns) ts h = more_names ns ts h.1

as_many : (ns : List (List ℕ)) (ts : List Kind) → length ns ≤ length (spell_more_names ns ts)
as_many [] ts = omega arith
as_many (n ∷ ns) ts = let h = as_many ns ts in omega arith

counted : (ns : List (List ℕ)) (ts : List Kind) → Good (spell_names ns ts) → AreCounted ns
counted [] ts h = omega arith
counted (n ∷ ns) ts h = let l = as_many ns ts in let k = h.0.1 in omega arith

other_names : (ns : List (List ℕ)) (ts : List Kind) → Good (spell_other_names ns ts) → Good ts
other_names [] ts h = h
other_names (n ∷ ns) ts h = other_names ns ts h.1.1

choices : (ns : List (List ℕ)) (ts : List Kind) → Good (spell_choices ns ts) → Good ts
choices [] ts h = h
choices (n ∷ ns) ts h = other_names ns ts h.1

label : (l : Option (List ℕ)) (ts : List Kind) → Good (spell_label l ts) → Good ts
label None ts h = h
label (Some n) ts h = h.1

mark_label : (l : Option (List ℕ)) (ts : List Kind) → Good (spell_mark_label l ts) → Good ts
mark_label None ts h = h
mark_label (Some n) ts h = h.1.1

-- ---- types

part : (o : Option (List ℕ)) (ts : List Kind) → Good (types.spell_part o ts) → Good ts
part None ts h = h
part (Some n) ts h = h.1.1

member_name : (o : Option (List ℕ)) (ts : List Kind) → Good (types.spell_member o ts) → Good ts
member_name None ts h = h
member_name (Some n) ts h = h.1.1

qualified : (q : types.Qual) (ts : List Kind) → Good (spell_qual q ts) → Good ts
qualified q ts h = part q.part ts (member_name q.member (types.spell_part q.part ts) h.1)

mutual
  type : (t : types.Ty) (ts : List Kind) → Good (spell_ty t ts) → Good ts
  type types.Byte ts h = h.1
  type types.Int ts h = h.1
  type types.Big ts h = h.1
  type types.String ts h = h.1
  type (types.ArrayOf t) ts h = type t ts h.1.1
  type (types.ListOf t) ts h = type t ts h.1.1
  type (types.ChanOf t) ts h = type t ts h.1.1
  type (types.RefTo q) ts h = qualified q ts h.1
  type (types.Named q) ts h = qualified q ts h
  type (types.Tuple us) ts h = (types_in us _ h.1).1

  types_in : (us : types.Tys) (ts : List Kind) → Good (spell_tys us ts) → Good ts
  types_in types.NoTys ts h = h
  types_in (types.MoreTys t us) ts h = more_types us ts (type t (spell_more_tys us ts) h)

  more_types : (us : types.Tys) (ts : List Kind) → Good (spell_more_tys us ts) → Good ts
  more_types types.NoTys ts h = h
  more_types (types.MoreTys t us) ts h = more_types us ts (type t (spell_more_tys us ts) h.1)

-- ---- expressions

comma : (c : Bool) (ts : List Kind) → Good (spell_comma c ts) → Good ts
comma true ts h = h.1
comma false ts h = h

mutual
  behind : (e : exprs.Expr) (ts : List Kind) → Good (spell e ts) → Good ts
  behind (exprs.Assign o l r) ts h = behind r ts (behind l _ h).1
  behind (exprs.Load n e) ts h = behind e ts h.1.1
  behind (exprs.Binary o l r) ts h = behind r ts (behind l _ h).1
  behind (exprs.Unary o e) ts h = behind e ts h.1
  behind (exprs.Bytes e) ts h = behind e ts h.1.1.1
  behind (exprs.Filled n is c) ts h = (comma c _ (behind_inits is _ (behind_part n _ h.1.1).1.1.1)).1
  behind (exprs.Sized e t) ts h = type t ts (behind e _ h.1.1).1.1
  behind (exprs.Channel n t) ts h = type t ts h.1.1
  behind (exprs.Listed es) ts h = (behind_exprs es _ h.1.1.1).1
  behind (exprs.Call f es) ts h = (behind_exprs es _ (behind f _ h).1).1
  behind (exprs.Index e i) ts h = (behind i _ (behind e _ h).1).1
  behind (exprs.Slice e i j) ts h = (behind_part j _ (behind_part i _ (behind e _ h).1).1).1
  behind (exprs.Dot e n) ts h = (behind e _ h).1.1
  behind (exprs.Arrow e n) ts h = (behind e _ h).1.1
  behind (exprs.Postfix o e) ts h = (behind e _ h).1
  behind (exprs.Number v wide) ts h = h.1
  behind (exprs.Chars s) ts h = h.1
  behind (exprs.Name n) ts h = h.1
  behind exprs.Nil ts h = h.1
  behind (exprs.Group es) ts h = (behind_exprs es _ h.1).1

  behind_part : (n : exprs.Part) (ts : List Kind) → Good (exprs.spell_part n ts) → Good ts
  behind_part exprs.Absent ts h = h
  behind_part (exprs.Present e) ts h = behind e ts h

  behind_exprs : (es : exprs.Exprs) (ts : List Kind) → Good (spell_exprs es ts) → Good ts
  behind_exprs exprs.NoExprs ts h = h
  behind_exprs (exprs.MoreExprs e es) ts h = behind_more es ts (behind e _ h)

  behind_more : (es : exprs.Exprs) (ts : List Kind) → Good (spell_more_exprs es ts) → Good ts
  behind_more exprs.NoExprs ts h = h
  behind_more (exprs.MoreExprs e es) ts h = behind_more es ts (behind e _ h.1)

  behind_init : (i : exprs.Init) (ts : List Kind) → Good (spell_init i ts) → Good ts
  behind_init (exprs.Next e) ts h = behind e ts h
  behind_init (exprs.At i e) ts h = behind e ts (behind i _ h).1
  behind_init (exprs.Rest e) ts h = behind e ts h.1.1

  behind_inits : (is : exprs.Inits) (ts : List Kind) → Good (spell_inits is ts) → Good ts
  behind_inits exprs.NoInits ts h = h
  behind_inits (exprs.MoreInits i is) ts h = behind_more_inits is ts (behind_init i _ h)

  behind_more_inits : (is : exprs.Inits) (ts : List Kind) → Good (spell_more_inits is ts) → Good ts
  behind_more_inits exprs.NoInits ts h = h
  behind_more_inits (exprs.MoreInits i is) ts h = behind_more_inits is ts (behind_init i _ h.1)

expr : (e : exprs.Expr) (ts : List Kind) → Good (spell e ts) → IsProper e × Good ts
expr e ts h = ((spelled e ts (all_in_range (spell e ts) h)).0, behind e ts h)

option : (e : Option exprs.Expr) (ts : List Kind) → Good (spell_option e ts) → InOption IsProper e × Good ts
option None ts h = (tt, h)
option (Some e) ts h = expr e ts h

-- ---- functions, fields and variants

pname : (n : Option (List ℕ)) (ts : List Kind) → Good (spell_pname n ts) → Good ts
pname None ts h = h.1
pname (Some n) ts h = h.1

more_pnames : (ns : List (Option (List ℕ))) (ts : List Kind) → Good (spell_more_pnames ns ts) → Good ts
more_pnames [] ts h = h
more_pnames (n ∷ ns) ts h = more_pnames ns ts (pname n _ h.1)

pnames : (ns : List (Option (List ℕ))) (ts : List Kind) → Good (spell_pnames ns ts) → Good ts
pnames [] ts h = h
pnames (n ∷ ns) ts h = more_pnames ns ts (pname n _ h)

self_word : (b : Bool) (ts : List Kind) → Good (spell_self b ts) → Good ts
self_word true ts h = h.1
self_word false ts h = h

param : (p : decls.Param) (ts : List Kind) → Good (spell_param p ts) → Good ts
param p ts h = type p.of ts (self_word p.is_self _ (pnames p.names _ h).1)

more_params : (ps : List decls.Param) (ts : List Kind) → Good (spell_more_params ps ts) → Good ts
more_params [] ts h = h
more_params (p ∷ ps) ts h = more_params ps ts (param p _ h.1)

params : (ps : List decls.Param) (ts : List Kind) → Good (spell_params ps ts) → Good ts
params [] ts h = h
params (p ∷ ps) ts h = more_params ps ts (param p _ h)

answer : (t : Option types.Ty) (ts : List Kind) → Good (spell_answer t ts) → Good ts
answer None ts h = h
answer (Some t) ts h = type t ts h.1

raises : (r : Option decls.Raises) (ts : List Kind) → Good (spell_raises r ts) → Good ts
raises None ts h = h
raises (Some (decls.One n)) ts h = h.1.1
raises (Some (decls.Several ns)) ts h = (names ns _ h.1.1).1

function : (f : decls.FnType) (ts : List Kind) → Good (spell_fn f ts) → Good ts
function f ts h = raises f.raises ts (answer f.answer _ (params f.params _ h.1).1)

field : (f : decls.Field) (ts : List Kind) → Good (spell_field f ts) → Good ts
field f ts h = (type f.of _ (names f.names _ h).1).1

fields : (fs : List decls.Field) (ts : List Kind) → Good (spell_fields fs ts) → Good ts
fields [] ts h = h
fields (f ∷ fs) ts h = fields fs ts (field f _ h)

variant : (v : decls.Variant) (ts : List Kind) → Good (spell_variant v ts) → Good ts
variant v ts h = fields v.fields ts (choices v.names _ h).1

variants : (vs : List decls.Variant) (ts : List Kind) → Good (spell_variants vs ts) → Good ts
variants [] ts h = h
variants (v ∷ vs) ts h = variants vs ts (variant v _ h)

pick : (p : Option (List decls.Variant)) (ts : List Kind) → Good (spell_pick p ts) → Good ts
pick None ts h = h
pick (Some vs) ts h = (variants vs _ h.1.1).1

-- ---- declarations

mutual
  member : (x : Member) (ts : List Kind) → Good (spell_member x ts) → InMember IsProper x × Good ts
  member (decls.VarMember ns t) ts h = (tt, (type t _ (names ns _ h).1).1)
  member (decls.FnMember ns f) ts h = (tt, (function f _ (names ns _ h).1.1).1)
  member (decls.ConMember ns e) ts h = let a = expr e _ (names ns _ h).1.1 in ((counted ns _ h, a.0), a.1.1)
  member (decls.TypeMember ns t) ts h = (tt, (type t _ (names ns _ h).1.1).1)
  member (decls.AdtMember n ms p) ts h = let a = members ms _ h.1.1.1.1 in (a.0, (pick p _ a.1).1.1)

  members : (xs : Members) (ts : List Kind) → Good (spell_members xs ts) → InMembers IsProper xs × Good ts
  members decls.NoMembers ts h = (tt, h)
  members (decls.MoreMembers x xs) ts h =
      let a = member x _ h in
      let b = members xs ts a.1 in
      ((a.0, b.0), b.1)

value : (e : Option exprs.Expr) (ts : List Kind) → Good (spell_value e ts) → InOption IsProper e × Good ts
value None ts h = (tt, h)
value (Some e) ts h = expr e ts h.1

values : (us : types.Tys) (ts : List Kind) → Good (spell_values us ts) → Good ts
values types.NoTys ts h = h
values (types.MoreTys t us) ts h = (types_in (types.MoreTys t us) _ h.1).1

decl : (d : Decl) (ts : List Kind) → Good (spell_decl d ts) → IsProperDecl d × Good ts
decl (decls.Con ns e) ts h = let a = expr e _ (names ns _ h).1.1 in ((counted ns _ h, a.0), a.1.1)
decl (decls.TypeName ns t) ts h = (tt, (type t _ (names ns _ h).1.1).1)
decl (decls.Var ns t v) ts h = let a = value v _ (type t _ (names ns _ h).1) in (a.0, a.1.1)
decl (decls.Define ns e) ts h = let a = expr e _ (names ns _ h).1 in (a.0, a.1.1)
decl (decls.Import ns m) ts h = (tt, (names ns _ h).1.1.1.1)
decl (decls.Exception ns us) ts h = (tt, (values us _ (names ns _ h).1.1).1)
decl (decls.Module n ms) ts h = let a = members ms _ h.1.1.1.1 in (a.0, a.1.1.1)
decl (decls.Adt n ms p) ts h = let a = members ms _ h.1.1.1.1 in (a.0, (pick p _ a.1).1.1)

-- ---- heads of arms

pattern : (p : Pattern) (ts : List Kind) → Good (spell_pattern p ts) → InPattern IsProper p × Good ts
pattern tree.AnyValue ts h = (tt, h.1)
pattern (tree.Value e) ts h = expr e ts h
pattern (tree.Range e f) ts h =
    let a = expr e _ h in
    let b = expr f ts a.1.1 in
    ((a.0, b.0), b.1)

other_patterns : (ps : List Pattern) (ts : List Kind) → Good (spell_other_patterns ps ts) → InPatterns IsProper ps × Good ts
other_patterns [] ts h = (tt, h)
other_patterns (p ∷ ps) ts h =
    let a = pattern p _ h.1 in
    let b = other_patterns ps ts a.1 in
    ((a.0, b.0), b.1)

patterns : (ps : List Pattern) (ts : List Kind) → Good (spell_patterns ps ts) → InPatterns IsProper ps × Good ts
patterns [] ts h = (tt, h)
patterns (p ∷ ps) ts h =
    let a = pattern p _ h in
    let b = other_patterns ps ts a.1 in
    ((a.0, b.0), b.1)

handler_pattern : (p : HandlerPattern) (ts : List Kind) → Good (spell_handler_pattern p ts) → Good ts
handler_pattern (tree.Text s) ts h = h.1
handler_pattern (tree.Declared n) ts h = h.1
handler_pattern tree.AnyException ts h = h.1

other_handlers : (ps : List HandlerPattern) (ts : List Kind) → Good (spell_other_handler_patterns ps ts) → Good ts
other_handlers [] ts h = h
other_handlers (p ∷ ps) ts h = other_handlers ps ts (handler_pattern p _ h.1)

handlers : (ps : List HandlerPattern) (ts : List Kind) → Good (spell_handler_patterns ps ts) → Good ts
handlers [] ts h = h
handlers (p ∷ ps) ts h = other_handlers ps ts (handler_pattern p _ h)

head : (x : Head) (ts : List Kind) → Good (spell_head x ts) → InHead IsProper x × Good ts
head (tree.CaseHead ps) ts h = patterns ps ts h
head (tree.AltHead None) ts h = (tt, h.1)
head (tree.AltHead (Some e)) ts h = expr e ts h
head (tree.PickHead []) ts h = (tt, h.1)
head (tree.PickHead (n ∷ ns)) ts h = (tt, choices (n ∷ ns) ts h)
head (tree.HandlerHead ps) ts h = (tt, handlers ps ts h)

-- ---- statements

mutual
  stmt : (s : Stmt) (ts : List Kind) → Good (spell_stmt s ts) → IsProperStmt s × Good ts
  stmt tree.Empty ts h = (tt, h.1)
  stmt (tree.Nested b) ts h = block b ts h
  stmt (tree.Declare d) ts h = decl d ts h
  stmt (tree.Eval e) ts h = let a = expr e _ h in (a.0, a.1.1)
  stmt (tree.If c s) ts h =
      let a = expr c _ h.1.1 in
      let b = stmt s ts a.1.1 in
      ((a.0, b.0), b.1)
  stmt (tree.IfElse c s t) ts h =
      let a = expr c _ h.1.1 in
      let b = stmt s _ a.1.1 in
      let d = stmt t ts b.1.1 in
      ((a.0, b.0, d.0), d.1)
  stmt (tree.While l c s) ts h =
      let a = option c _ (mark_label l _ h).1.1 in
      let b = stmt s ts a.1.1 in
      ((a.0, b.0), b.1)
  stmt (tree.Do l s c) ts h =
      let a = stmt s _ (mark_label l _ h).1 in
      let b = option c _ a.1.1.1 in
      ((a.0, b.0), b.1.1.1)
  stmt (tree.For l x c n s) ts h =
      let a = option x _ (mark_label l _ h).1.1 in
      let b = option c _ a.1.1 in
      let d = option n _ b.1.1 in
      let e = stmt s ts d.1.1 in
      ((a.0, b.0, d.0, e.0), e.1)
  stmt (tree.Case l e xs) ts h =
      let a = expr e _ (mark_label l _ h).1 in
      let b = arms xs _ a.1.1 in
      ((a.0, b.0), b.1.1)
  stmt (tree.Alt l xs) ts h = let b = arms xs _ (mark_label l _ h).1.1 in (b.0, b.1.1)
  stmt (tree.Pick l n e xs) ts h =
      let a = expr e _ (mark_label l _ h).1.1.1 in
      let b = arms xs _ a.1.1 in
      ((a.0, b.0), b.1.1)
  stmt (tree.Break l) ts h = (tt, (label l _ h.1).1)
  stmt (tree.Continue l) ts h = (tt, (label l _ h.1).1)
  stmt (tree.Return e) ts h = let a = option e _ h.1 in (a.0, a.1.1)
  stmt tree.Exit ts h = (tt, h.1.1)
  stmt (tree.Spawn e) ts h = let a = expr e _ h.1 in (a.0, a.1.1)
  stmt (tree.Raise e) ts h = let a = option e _ h.1 in (a.0, a.1.1)

  stmts : (ss : Stmts) (ts : List Kind) → Good (spell_stmts ss ts) → AreProperStmts ss × Good ts
  stmts tree.NoStmts ts h = (tt, h)
  stmts (tree.MoreStmts s ss) ts h =
      let a = stmt s _ h in
      let b = stmts ss ts a.1 in
      ((a.0, b.0), b.1)

  pub block : (b : Block) (ts : List Kind) → Good (spell_block b ts) → IsProperBlock b × Good ts
  block (tree.Plain ss) ts h = let a = stmts ss _ h.1 in (a.0, a.1.1)
  block (tree.Handled ss n xs) ts h =
      let a = stmts ss _ h.1 in
      let b = arms xs _ (label n _ a.1.1.1).1 in
      ((a.0, b.0), b.1.1)

  arms : (xs : Arms) (ts : List Kind) → Good (spell_arms xs ts) → AreProperArms xs × Good ts
  arms tree.NoArms ts h = (tt, h)
  arms (tree.MoreArms x ss xs) ts h =
      let a = head x _ h in
      let b = stmts ss _ a.1.1 in
      let c = arms xs ts b.1 in
      ((a.0, b.0, c.0), c.1)
