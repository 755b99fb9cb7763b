-- Statements (Limbo Language Reference, statements): their trees, the spelling of each, how deep each nests, and which are
-- well formed, with the rules of choice.
use Rattle.std.specs.Prelude.{◌≡◌, ℕ, ◌+◌, max, List, [], ◌∷◌, Bool, true, false, ◌&&◌, Option, None, Some}
use Rattle.limbo_lexer.specs.declared.token.Kind.{Kind}
use Rattle.limbo_lexer.specs.declared.token.Kind.TheVariants as kind
use Rattle.limbo_lexer.specs.declared.token.Mark.TheVariants as mark
use Rattle.limbo_lexer.specs.declared.token.Key.TheVariants as key
use Rattle.limbo_tree.specs.declared.operators.AssignOp.{AssignOp}
use Rattle.limbo_tree.specs.declared.operators.AssignOp.TheVariants as assign
use Rattle.limbo_tree.specs.Tokens.{◌▸◌, ◌▹◌, spell_label, spell_mark_label, spell_choices, is_some}
use Rattle.limbo_tree.specs.Exprs.{Expr, Assign, Name, spell, nesting, is_postfix, IsAt}
use Rattle.limbo_tree.specs.Decls.{Decl, spell_decl, decl_nesting, option_nesting, IsDecl, IsOption}

-- cpat = "*" | expr ["to" expr]
pub data Pattern : Type 0 where
  AnyValue : Pattern
  Value : Expr → Pattern
  Range : Expr → Expr → Pattern

-- epat = STR | ID | "*"
pub data HandlerPattern : Type 0 where
  Text : List ℕ → HandlerPattern
  Declared : List ℕ → HandlerPattern
  AnyException : HandlerPattern

-- What stands before the "=>" of an arm: in a case cpat {"or" cpat}, in an alt ("*" | expr), in a pick
-- ("*" | ID {"or" ID}), in a handler epat {"or" epat}.
pub data Head : Type 0 where
  CaseHead : List Pattern → Head
  AltHead : Option Expr → Head
  PickHead : List (List ℕ) → Head
  HandlerHead : List HandlerPattern → Head

mutual
  pub data Stmt : Type 0 where
    Empty : Stmt
    Nested : Block → Stmt
    Declare : Decl → Stmt
    Eval : Expr → Stmt
    If : Expr → Stmt → Stmt
    IfElse : Expr → Stmt → Stmt → Stmt
    While : Option (List ℕ) → Option Expr → Stmt → Stmt
    Do : Option (List ℕ) → Stmt → Option Expr → Stmt
    For : Option (List ℕ) → Option Expr → Option Expr → Option Expr → Stmt → Stmt
    Case : Option (List ℕ) → Expr → Arms → Stmt
    Alt : Option (List ℕ) → Arms → Stmt
    Pick : Option (List ℕ) → List ℕ → Expr → Arms → Stmt
    Break : Option (List ℕ) → Stmt
    Continue : Option (List ℕ) → Stmt
    Return : Option Expr → Stmt
    Exit : Stmt
    Spawn : Expr → Stmt
    Raise : Option Expr → Stmt

  pub data Stmts : Type 0 where
    NoStmts : Stmts
    MoreStmts : Stmt → Stmts → Stmts

  -- block = "{" {stmt} "}" ["exception" [ID] "{" {earm} "}"]
  pub data Block : Type 0 where
    Plain : Stmts → Block
    Handled : Stmts → Option (List ℕ) → Arms → Block

  -- arms, each a head, "=>" and {stmt}
  pub data Arms : Type 0 where
    NoArms : Arms
    MoreArms : Head → Stmts → Arms → Arms

-- ---- spelling

abbrev pub spell_pattern : Pattern → List Kind → List Kind
spell_pattern AnyValue ts = mark.Star ▸ ts
spell_pattern (Value e) ts = spell e ts
spell_pattern (Range e f) ts = spell e (key.To ▹ spell f ts)

abbrev pub spell_other_patterns : List Pattern → List Kind → List Kind
spell_other_patterns [] ts = ts
spell_other_patterns (p ∷ ps) ts = key.Or ▹ spell_pattern p (spell_other_patterns ps ts)

abbrev pub spell_patterns : List Pattern → List Kind → List Kind
spell_patterns [] ts = ts
spell_patterns (p ∷ ps) ts = spell_pattern p (spell_other_patterns ps ts)

abbrev pub spell_handler_pattern : HandlerPattern → List Kind → List Kind
spell_handler_pattern (Text s) ts = kind.Chars s ∷ ts
spell_handler_pattern (Declared n) ts = kind.Name n ∷ ts
spell_handler_pattern AnyException ts = mark.Star ▸ ts

abbrev pub spell_other_handler_patterns : List HandlerPattern → List Kind → List Kind
spell_other_handler_patterns [] ts = ts
spell_other_handler_patterns (p ∷ ps) ts = key.Or ▹ spell_handler_pattern p (spell_other_handler_patterns ps ts)

abbrev pub spell_handler_patterns : List HandlerPattern → List Kind → List Kind
spell_handler_patterns [] ts = ts
spell_handler_patterns (p ∷ ps) ts = spell_handler_pattern p (spell_other_handler_patterns ps ts)

abbrev pub spell_head : Head → List Kind → List Kind
spell_head (CaseHead ps) ts = spell_patterns ps ts
spell_head (AltHead None) ts = mark.Star ▸ ts
spell_head (AltHead (Some e)) ts = spell e ts
spell_head (PickHead []) ts = mark.Star ▸ ts
spell_head (PickHead (n ∷ ns)) ts = spell_choices (n ∷ ns) ts
spell_head (HandlerHead ps) ts = spell_handler_patterns ps ts

-- [expr]
abbrev pub spell_option : Option Expr → List Kind → List Kind
spell_option None ts = ts
spell_option (Some e) ts = spell e ts

abbrev mutual
  pub spell_stmt : Stmt → List Kind → List Kind
  spell_stmt Empty ts = mark.Semicolon ▸ ts
  spell_stmt (Nested b) ts = spell_block b ts
  spell_stmt (Declare d) ts = spell_decl d ts
  spell_stmt (Eval e) ts = spell e (mark.Semicolon ▸ ts)
  spell_stmt (If c s) ts = key.If ▹ mark.OpenParen ▸ spell c (mark.CloseParen ▸ spell_stmt s ts)
  spell_stmt (IfElse c s t) ts =
      key.If ▹ mark.OpenParen ▸ spell c (mark.CloseParen ▸ spell_stmt s (key.Else ▹ spell_stmt t ts))
  spell_stmt (While l c s) ts =
      spell_mark_label l (key.While ▹ mark.OpenParen ▸ spell_option c (mark.CloseParen ▸ spell_stmt s ts))
  spell_stmt (Do l s c) ts =
      spell_mark_label l (key.Do ▹ spell_stmt s (key.While ▹ mark.OpenParen ▸
      spell_option c (mark.CloseParen ▸ mark.Semicolon ▸ ts)))
  spell_stmt (For l a c b s) ts =
      spell_mark_label l (key.For ▹ mark.OpenParen ▸ spell_option a (mark.Semicolon ▸
      spell_option c (mark.Semicolon ▸ spell_option b (mark.CloseParen ▸ spell_stmt s ts))))
  spell_stmt (Case l e arms) ts =
      spell_mark_label l (key.Case ▹ spell e (mark.OpenBrace ▸ spell_arms arms (mark.CloseBrace ▸ ts)))
  spell_stmt (Alt l arms) ts =
      spell_mark_label l (key.Alt ▹ mark.OpenBrace ▸ spell_arms arms (mark.CloseBrace ▸ ts))
  spell_stmt (Pick l n e arms) ts =
      spell_mark_label l (key.Pick ▹ kind.Name n ∷ (mark.Define ▸ spell e (mark.OpenBrace ▸
      spell_arms arms (mark.CloseBrace ▸ ts))))
  spell_stmt (Break l) ts = key.Break ▹ spell_label l (mark.Semicolon ▸ ts)
  spell_stmt (Continue l) ts = key.Continue ▹ spell_label l (mark.Semicolon ▸ ts)
  spell_stmt (Return e) ts = key.Return ▹ spell_option e (mark.Semicolon ▸ ts)
  spell_stmt Exit ts = key.Exit ▹ mark.Semicolon ▸ ts
  spell_stmt (Spawn e) ts = key.Spawn ▹ spell e (mark.Semicolon ▸ ts)
  spell_stmt (Raise e) ts = key.Raise ▹ spell_option e (mark.Semicolon ▸ ts)

  pub spell_stmts : Stmts → List Kind → List Kind
  spell_stmts NoStmts ts = ts
  spell_stmts (MoreStmts s ss) ts = spell_stmt s (spell_stmts ss ts)

  pub spell_block : Block → List Kind → List Kind
  spell_block (Plain ss) ts = mark.OpenBrace ▸ spell_stmts ss (mark.CloseBrace ▸ ts)
  spell_block (Handled ss n arms) ts =
      mark.OpenBrace ▸ spell_stmts ss (mark.CloseBrace ▸ key.Exception ▹ spell_label n (mark.OpenBrace ▸
      spell_arms arms (mark.CloseBrace ▸ ts)))

  pub spell_arms : Arms → List Kind → List Kind
  spell_arms NoArms ts = ts
  spell_arms (MoreArms h ss arms) ts = spell_head h (mark.FatArrow ▸ spell_stmts ss (spell_arms arms ts))

-- ---- nesting: the greatest number of statements, expressions and types on one path from the root. A function's own
-- block, arms and patterns aren't statements.

abbrev pub pattern_nesting : Pattern → ℕ
pattern_nesting AnyValue = 0
pattern_nesting (Value e) = nesting e
pattern_nesting (Range e f) = max (nesting e) (nesting f)

abbrev pub patterns_nesting : List Pattern → ℕ
patterns_nesting [] = 0
patterns_nesting (p ∷ ps) = max (pattern_nesting p) (patterns_nesting ps)

abbrev pub head_nesting : Head → ℕ
head_nesting (CaseHead ps) = patterns_nesting ps
head_nesting (AltHead e) = option_nesting e
head_nesting (PickHead ns) = 0
head_nesting (HandlerHead ps) = 0

abbrev mutual
  pub stmt_nesting : Stmt → ℕ
  stmt_nesting Empty = 1
  stmt_nesting (Nested b) = 1 + block_nesting b
  stmt_nesting (Declare d) = 1 + decl_nesting d
  stmt_nesting (Eval e) = 1 + nesting e
  stmt_nesting (If c s) = 1 + max (nesting c) (stmt_nesting s)
  stmt_nesting (IfElse c s t) = 1 + max (nesting c) (max (stmt_nesting s) (stmt_nesting t))
  stmt_nesting (While l c s) = 1 + max (option_nesting c) (stmt_nesting s)
  stmt_nesting (Do l s c) = 1 + max (stmt_nesting s) (option_nesting c)
  stmt_nesting (For l a c b s) =
      1 + max (option_nesting a) (max (option_nesting c) (max (option_nesting b) (stmt_nesting s)))
  stmt_nesting (Case l e arms) = 1 + max (nesting e) (arms_nesting arms)
  stmt_nesting (Alt l arms) = 1 + arms_nesting arms
  stmt_nesting (Pick l n e arms) = 1 + max (nesting e) (arms_nesting arms)
  stmt_nesting (Break l) = 1
  stmt_nesting (Continue l) = 1
  stmt_nesting (Return e) = 1 + option_nesting e
  stmt_nesting Exit = 1
  stmt_nesting (Spawn e) = 1 + nesting e
  stmt_nesting (Raise e) = 1 + option_nesting e

  pub stmts_nesting : Stmts → ℕ
  stmts_nesting NoStmts = 0
  stmts_nesting (MoreStmts s ss) = max (stmt_nesting s) (stmts_nesting ss)

  pub block_nesting : Block → ℕ
  block_nesting (Plain ss) = stmts_nesting ss
  block_nesting (Handled ss n arms) = max (stmts_nesting ss) (arms_nesting arms)

  pub arms_nesting : Arms → ℕ
  arms_nesting NoArms = 0
  arms_nesting (MoreArms h ss arms) = max (head_nesting h) (max (stmts_nesting ss) (arms_nesting arms))

-- ---- well-formed trees

-- which heads stand in which statement
pub data Place : Type 0 where
  InCase : Place
  InAlt : Place
  InPick : Place
  InHandler : Place

abbrev pub IsPattern : Pattern → Type 0
IsPattern AnyValue = Unit {0}
IsPattern (Value e) = IsAt 13 e
IsPattern (Range e f) = IsAt 13 e × IsAt 13 f

abbrev pub ArePatterns : List Pattern → Type 0
ArePatterns [] = Unit {0}
ArePatterns (p ∷ ps) = IsPattern p × ArePatterns ps

abbrev pub IsHead : Place → Head → Type 0
IsHead InCase (CaseHead ps) = (is_some ps ≡ true) × ArePatterns ps
IsHead InAlt (AltHead e) = IsOption e
IsHead InPick (PickHead ns) = Unit {0}
IsHead InHandler (HandlerHead ps) = is_some ps ≡ true
IsHead _ _ = ⊥

-- An `else` behind the statement would belong to it, or to one inside.
abbrev pub ends_open : Stmt → Bool
ends_open (If c s) = true
ends_open (IfElse c s t) = ends_open t
ends_open (While l c s) = ends_open s
ends_open (For l a c b s) = ends_open s
ends_open _ = false

abbrev pub is_name : Expr → Bool
is_name (Name n) = true
is_name _ = false

abbrev pub is_define : AssignOp → Bool
is_define assign.Define = true
is_define _ = false

-- An expression statement that can also be read as a declaration: a name, `:=` and a value.
abbrev pub is_declaration : Expr → Bool
is_declaration (Assign o l r) = is_define o && is_name l
is_declaration _ = false

abbrev mutual
  pub IsStmt : Stmt → Type 0
  IsStmt Empty = Unit {0}
  IsStmt (Nested b) = IsBlock b
  IsStmt (Declare d) = IsDecl d
  IsStmt (Eval e) = IsAt 13 e × (is_declaration e ≡ false)
  IsStmt (If c s) = IsAt 13 c × IsStmt s
  IsStmt (IfElse c s t) = IsAt 13 c × IsStmt s × (ends_open s ≡ false) × IsStmt t
  IsStmt (While l c s) = IsOption c × IsStmt s
  IsStmt (Do l s c) = IsStmt s × IsOption c
  IsStmt (For l a c b s) = IsOption a × IsOption c × IsOption b × IsStmt s
  IsStmt (Case l e arms) = IsAt 13 e × AreArms InCase arms
  IsStmt (Alt l arms) = AreArms InAlt arms
  IsStmt (Pick l n e arms) = IsAt 13 e × AreArms InPick arms
  IsStmt (Break l) = Unit {0}
  IsStmt (Continue l) = Unit {0}
  IsStmt (Return e) = IsOption e
  IsStmt Exit = Unit {0}
  IsStmt (Spawn e) = IsAt 0 e × (is_postfix e ≡ true)
  IsStmt (Raise e) = IsOption e

  pub AreStmts : Stmts → Type 0
  AreStmts NoStmts = Unit {0}
  AreStmts (MoreStmts s ss) = IsStmt s × AreStmts ss

  pub IsBlock : Block → Type 0
  IsBlock (Plain ss) = AreStmts ss
  IsBlock (Handled ss n arms) = AreStmts ss × AreArms InHandler arms

  pub AreArms : Place → Arms → Type 0
  AreArms p NoArms = Unit {0}
  AreArms p (MoreArms h ss arms) = IsHead p h × AreStmts ss × AreArms p arms
