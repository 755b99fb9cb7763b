-- Lists of trees as the spellings have them, and as they are read.
use Rattle.std.proofs.Common.{◌≡◌, ℕ, ◌≤◌, List, [], ◌∷◌, refl, ap, arith}
use Rattle.limbo_lexer.specs.declared.token.Kind.{Kind}
use Rattle.limbo_lexer.specs.declared.token.Kind.TheVariants as kind
use Rattle.limbo_lexer.specs.declared.token.Mark.TheVariants as mark
use Rattle.limbo_lexer.specs.declared.token.Key.TheVariants as key
use Rattle.limbo_tree.specs.Tokens.{◌▸◌, ◌▹◌, spell_name, spell_other_names}
use Rattle.limbo_tree.specs.Stmts.{Head, Pattern, HandlerPattern, Stmt, Stmts, Arms, NoStmts, MoreStmts, NoArms, MoreArms, Place, InCase, InAlt, InPick, InHandler, spell_pattern, spell_other_patterns, spell_handler_pattern, spell_other_handler_patterns, spell_head, spell_stmt, spell_stmts, spell_arms, pattern_nesting, patterns_nesting, head_nesting, stmt_nesting, stmts_nesting, arms_nesting, IsPattern, ArePatterns, IsHead, IsStmt, AreStmts, AreArms}
use Rattle.limbo_tree.specs.Sources.{Top, spell_top, spell_tops, top_nesting, tops_nesting, IsTop, AreTops}
use Rattle.limbo_tree.specs.View.{Arm, stmts_of, arms_of}
use Rattle.limbo_reading.proofs.Lists.{spell_others, spell_all, Each}
use Rattle.limbo_stmt_parts.specs.declared.start.Region.{Region}
use Rattle.limbo_stmt_parts.specs.declared.start.Region.TheVariants as region

-- where the heads of a region stand
abbrev pub place : Region → Place
place region.Case = InCase
place region.Alt = InAlt
place region.Pick = InPick
place _ = InHandler

-- ---- patterns

pub patterns_spelled : (ps : List Pattern) (ts : List Kind) → spell_others spell_pattern (kind.Key key.Or) ps ts ≡ spell_other_patterns ps ts
patterns_spelled [] ts = refl
patterns_spelled (p ∷ ps) ts = ap (λ (us : List Kind). key.Or ▹ spell_pattern p us) (patterns_spelled ps ts)

pub handler_patterns_spelled : (ps : List HandlerPattern) (ts : List Kind) → spell_others spell_handler_pattern (kind.Key key.Or) ps ts ≡ spell_other_handler_patterns ps ts
handler_patterns_spelled [] ts = refl
handler_patterns_spelled (p ∷ ps) ts = ap (λ (us : List Kind). key.Or ▹ spell_handler_pattern p us) (handler_patterns_spelled ps ts)

pub names_spelled : (ns : List (List ℕ)) (ts : List Kind) → spell_others spell_name (kind.Key key.Or) ns ts ≡ spell_other_names ns ts
names_spelled [] ts = refl
names_spelled (n ∷ ns) ts = ap (λ (us : List Kind). key.Or ▹ kind.Name n ∷ us) (names_spelled ns ts)

abbrev pub GoodPattern : ℕ → Pattern → Type 0
GoodPattern b p = IsPattern p × (pattern_nesting p ≤ b)

pub patterns_are : (b : ℕ) (ps : List Pattern) → Each (GoodPattern b) ps → ArePatterns ps × (patterns_nesting ps ≤ b)
patterns_are b [] h = (tt, omega arith)
patterns_are b (p ∷ ps) h = let q = patterns_are b ps h.1 in ((h.0.0, q.0), omega (arith, h.0.1, q.1))

pub patterns_each : (b : ℕ) (ps : List Pattern) → ArePatterns ps → patterns_nesting ps ≤ b → Each (GoodPattern b) ps
patterns_each b [] h d = tt
patterns_each b (p ∷ ps) h d = ((h.0, omega arith), patterns_each b ps h.1 (omega arith))

pub each_any : {A : Type 0} (xs : List A) → Each (λ (x : A). Unit {0}) xs
each_any [] = tt
each_any (x ∷ xs) = (tt, each_any xs)

-- ---- heads

abbrev pub spell_front : Head → List Kind → List Kind
spell_front h ts = spell_head h (mark.FatArrow ▸ ts)

abbrev pub GoodHead : ℕ → Region → Head → Type 0
GoodHead b r h = IsHead (place r) h × (head_nesting h ≤ b)

-- ---- statements

abbrev pub GoodStmt : ℕ → Stmt → Type 0
GoodStmt b x = IsStmt x × (stmt_nesting x ≤ b)

pub stmts_spelled : (xs : List Stmt) (ts : List Kind) → spell_all spell_stmt xs ts ≡ spell_stmts (stmts_of xs) ts
stmts_spelled [] ts = refl
stmts_spelled (x ∷ xs) ts = ap (spell_stmt x) (stmts_spelled xs ts)

pub stmts_are : (b : ℕ) (xs : List Stmt) → Each (GoodStmt b) xs → AreStmts (stmts_of xs) × (stmts_nesting (stmts_of xs) ≤ b)
stmts_are b [] h = (tt, omega arith)
stmts_are b (x ∷ xs) h = let q = stmts_are b xs h.1 in ((h.0.0, q.0), omega (arith, h.0.1, q.1))

abbrev pub stmt_list : Stmts → List Stmt
stmt_list NoStmts = []
stmt_list (MoreStmts x xs) = x ∷ stmt_list xs

pub stmts_back : (xs : Stmts) → stmts_of (stmt_list xs) ≡ xs
stmts_back NoStmts = refl
stmts_back (MoreStmts x xs) = ap (MoreStmts x) (stmts_back xs)

pub stmts_each : (b : ℕ) (xs : Stmts) → AreStmts xs → stmts_nesting xs ≤ b → Each (GoodStmt b) (stmt_list xs)
stmts_each b NoStmts h d = tt
stmts_each b (MoreStmts x xs) h d = ((h.0, omega arith), stmts_each b xs h.1 (omega arith))

-- ---- arms

abbrev pub spell_arm : Arm → List Kind → List Kind
spell_arm a ts = spell_head a.head (mark.FatArrow ▸ spell_stmts a.body ts)

abbrev pub GoodArm : ℕ → Region → Arm → Type 0
GoodArm b r a = GoodHead b r a.head × AreStmts a.body × (stmts_nesting a.body ≤ b)

pub arms_spelled : (xs : List Arm) (ts : List Kind) → spell_all spell_arm xs ts ≡ spell_arms (arms_of xs) ts
arms_spelled [] ts = refl
arms_spelled (x ∷ xs) ts = ap (spell_arm x) (arms_spelled xs ts)

pub arms_are : (b : ℕ) (r : Region) (xs : List Arm) → Each (GoodArm b r) xs → AreArms (place r) (arms_of xs) × (arms_nesting (arms_of xs) ≤ b)
arms_are b r [] h = (tt, omega arith)
arms_are b r (x ∷ xs) h = let q = arms_are b r xs h.1 in ((h.0.0.0, h.0.1, q.0), omega (arith, h.0.0.1, h.0.2, q.1))

abbrev pub arm_list : Arms → List Arm
arm_list NoArms = []
arm_list (MoreArms h ss arms) = record { head = h; body = ss } ∷ arm_list arms

pub arms_back : (xs : Arms) → arms_of (arm_list xs) ≡ xs
arms_back NoArms = refl
arms_back (MoreArms h ss xs) = ap (MoreArms h ss) (arms_back xs)

pub arms_each : (b : ℕ) (r : Region) (xs : Arms) → AreArms (place r) xs → arms_nesting xs ≤ b → Each (GoodArm b r) (arm_list xs)
arms_each b r NoArms h d = tt
arms_each b r (MoreArms k ss xs) h d = (((h.0, omega arith), h.1, omega arith), arms_each b r xs h.2 (omega arith))

-- ---- tops

abbrev pub GoodTop : ℕ → Top → Type 0
GoodTop b t = IsTop t × (top_nesting t ≤ b)

pub tops_spelled : (xs : List Top) (ts : List Kind) → spell_all spell_top xs ts ≡ spell_tops xs ts
tops_spelled [] ts = refl
tops_spelled (x ∷ xs) ts = ap (spell_top x) (tops_spelled xs ts)

pub tops_are : (b : ℕ) (xs : List Top) → Each (GoodTop b) xs → AreTops xs × (tops_nesting xs ≤ b)
tops_are b [] h = (tt, omega arith)
tops_are b (x ∷ xs) h = let q = tops_are b xs h.1 in ((h.0.0, q.0), omega (arith, h.0.1, q.1))

pub tops_each : (b : ℕ) (xs : List Top) → AreTops xs → tops_nesting xs ≤ b → Each (GoodTop b) xs
tops_each b [] h d = tt
tops_each b (x ∷ xs) h d = ((h.0, omega arith), tops_each b xs h.1 (omega arith))
