-- Heads that are spelled so are read, and statements are told from them.
use Rattle.std.proofs.Common.{◌≡◌, ℕ, zero, suc, ◌+◌, ◌≤◌, ◌<◌, true, false, List, [], ◌∷◌, length, Option, Some, None, Ok, refl, sym, ap, ◌∙◌, arith}
use Rattle.limbo_lexer.specs.declared.token.Kind.{Kind}
use Rattle.limbo_lexer.specs.declared.token.Kind.TheVariants as kind
use Rattle.limbo_lexer.specs.declared.token.Mark.TheVariants as mark
use Rattle.limbo_lexer.specs.declared.token.Key.TheVariants as key
use Rattle.limbo_tree.specs.declared.operators.AssignOp.TheVariants as assign
use Rattle.limbo_tree.specs.Tokens.{◌▸◌, ◌▹◌, spell_name, spell_names, is_some}
use Rattle.limbo_tree.specs.Exprs.{Expr, Assign, Name, spell, nesting, IsAt}
use Rattle.limbo_tree.specs.Decls.{Decl, Con, TypeName, Var, Define, Import, Exception, Module, Adt, spell_decl, decl_nesting, IsDecl}
use Rattle.limbo_tree.specs.Stmts.{Head, CaseHead, AltHead, PickHead, HandlerHead, Pattern, AnyValue, Value, Range, HandlerPattern, Text, Declared, AnyException, spell_pattern, spell_handler_pattern, spell_head, IsHead}
use Rattle.limbo_reading.specs.Reading.{Reader, after_mark, after_key, expect_name}
use Rattle.limbo_reading.specs.Lists.{others, items}
use Rattle.limbo_reading.proofs.Steps.{kept_shorter}
use Rattle.limbo_reading.proofs.Lists.{spell_others, Each, others_again, items_again}
use Rattle.limbo_expr_parts.specs.Strength.{strength, Stops}
use Rattle.limbo_stmt_parts.specs.declared.start.Region.{Region}
use Rattle.limbo_stmt_parts.specs.declared.start.Region.TheVariants as region
use Rattle.limbo_stmt_parts.specs.Heads.{arrow_or, case_pattern_at, handler_pattern_at, head_at, front_at, is_read}
use Rattle.limbo_expr_parts.specs.Strength.{begins_expr}
use Rattle.limbo_expr_parser.proofs.Laws.{spell_begins, expr_again}
use Rattle.limbo_stmt_parts.proofs.Patterns.{pattern_keeps}
use Rattle.limbo_parser.proofs.Shapes.{place, patterns_spelled, handler_patterns_spelled, names_spelled, GoodPattern, patterns_each, each_any, spell_front, GoodHead}
use Rattle.limbo_parser.proofs.Begins.{nesting_pos, expr_not_star, expr_not_lone, lone}

-- ---- lists, where an item takes a token before what may follow it

others_long : {A : Type 0} (spell : A → List Kind → List Kind) (k : Kind) (Good : A → Type 0) (follows : List Kind → Type 0)
    → ((us : List Kind) → follows (k ∷ us))
    → ((x : A) (us : List Kind) → Good x → follows us → length us ≤ length (spell x us))
    → (xs : List A) (ts : List Kind) → Each Good xs → follows ts → length xs + length ts ≤ length (spell_others spell k xs ts)
others_long spell k Good follows sf grows [] ts g f = omega arith
others_long spell k Good follows sf grows (x ∷ []) ts g f = omega (arith, grows x ts g.0 f)
others_long spell k Good follows sf grows (x ∷ y ∷ ys) ts g f =
    omega (arith, grows x (spell_others spell k (y ∷ ys) ts) g.0 (sf _), others_long spell k Good follows sf grows (y ∷ ys) ts g.1 f)

pub list_again : {A : Type 0} (r : Reader A) (separator : List Kind → Option (List Kind)) (spell : A → List Kind → List Kind) (k : Kind) (Good : A → Type 0) (follows : List Kind → Type 0)
    → ((x : A) (us : List Kind) → Good x → separator (k ∷ spell x us) ≡ Some (spell x us))
    → ((us : List Kind) → follows (k ∷ us))
    → ((x : A) (us : List Kind) → Good x → follows us → length us ≤ length (spell x us))
    → ((x : A) (us : List Kind) → Good x → follows us → r (spell x us) ≡ Ok (x, us))
    → (x : A) (xs : List A) (ts : List Kind) → Good x → Each Good xs → follows ts → separator ts ≡ None
    → items r separator (spell x (spell_others spell k xs ts)) ≡ Ok (x ∷ xs, ts)
unfolding items
list_again r separator spell k Good follows sep sf grows one x [] ts g gs f e =
    rw (one x ts g f, others_again r separator spell k Good follows sep sf one [] (length ts) ts tt f e (omega arith)) refl
list_again r separator spell k Good follows sep sf grows one x (y ∷ ys) ts g gs f e =
    rw (one x (spell_others spell k (y ∷ ys) ts) g (sf _), others_again r separator spell k Good follows sep sf one (y ∷ ys) (length (spell_others spell k (y ∷ ys) ts)) ts gs f e (omega (arith, others_long spell k Good follows sf grows (y ∷ ys) ts gs f))) refl

none_more : {A : Type 0} (r : Reader A) (separator : List Kind → Option (List Kind)) (n : ℕ) (ts : List Kind) → separator ts ≡ None → others r separator n ts ≡ Ok ([], ts)
unfolding others
none_more r separator zero ts e = rw e refl
none_more r separator (suc n) ts e = rw e refl

-- one item and no separator
only_one : {A : Type 0} (r : Reader A) (separator : List Kind → Option (List Kind)) (ts us : List Kind) (x : A) → r ts ≡ Ok (x, us) → separator us ≡ None → items r separator ts ≡ Ok (x ∷ [], us)
unfolding items
only_one r separator ts us x e s = rw (e, none_more r separator (length us) us s) refl

-- ---- what is a head is read

-- what follows a pattern
abbrev PatternEnds : List Kind → Type 0
PatternEnds us = (13 < strength us) × (after_key key.To us ≡ None) × (arrow_or us ≡ true)

pattern_again : (b : ℕ) (p : Pattern) (us : List Kind) → GoodPattern b p → PatternEnds us → case_pattern_at b (spell_pattern p us) ≡ Ok (p, us)
pattern_again b AnyValue us g f = rw f.2 refl
pattern_again b (Value e) us g f = rw (expr_not_star e us, expr_again b e us g.0 g.1 f.0, f.1) refl
pattern_again b (Range e h) us g f =
    rw (expr_not_star e (key.To ▹ spell h us), expr_again b e (key.To ▹ spell h us) g.0.0 (omega (arith, g.1)) (omega arith), expr_again b h us g.0.1 (omega (arith, g.1)) f.0) refl

pattern_long : (b : ℕ) (p : Pattern) (us : List Kind) → GoodPattern b p → PatternEnds us → length us ≤ length (spell_pattern p us)
pattern_long b p us g f =
    omega (arith, kept_shorter b 1 (length (spell_pattern p us)) (case_pattern_at b (spell_pattern p us)) p us (pattern_keeps b (spell_pattern p us)) (pattern_again b p us g f))

handler_pattern_again : (p : HandlerPattern) (us : List Kind) → handler_pattern_at (spell_handler_pattern p us) ≡ Ok (p, us)
handler_pattern_again (Text s) us = refl
handler_pattern_again (Declared n) us = refl
handler_pattern_again AnyException us = refl

handler_pattern_long : (p : HandlerPattern) (us : List Kind) → length us ≤ length (spell_handler_pattern p us)
handler_pattern_long (Text s) us = omega arith
handler_pattern_long (Declared n) us = omega arith
handler_pattern_long AnyException us = omega arith

-- the regions that have heads
abbrev pub HasHeads : Region → Type 0
HasHeads region.Block = ⊥
HasHeads _ = Unit {0}

head_again : (b : ℕ) (r : Region) (h : Head) (ts : List Kind) → HasHeads r → GoodHead b r h → head_at b r (spell_front h ts) ≡ Ok (h, mark.FatArrow ▸ ts)
head_again b region.Block h ts a g = absurd a
head_again b region.Case (CaseHead []) ts a g = absurd (let e : false ≡ true = g.0.0 in cc)
head_again b region.Case (CaseHead (p ∷ ps)) ts a g =
    let each = patterns_each b (p ∷ ps) g.0.1 g.1 in
    let e : items (case_pattern_at b) (after_key key.Or) (spell_pattern p (spell_others spell_pattern (kind.Key key.Or) ps (mark.FatArrow ▸ ts))) ≡ Ok (p ∷ ps, mark.FatArrow ▸ ts) =
    list_again (case_pattern_at b) (after_key key.Or) spell_pattern (kind.Key key.Or) (GoodPattern b) PatternEnds (λ x us i. refl) (λ us. (omega arith, refl, refl)) (pattern_long b) (pattern_again b) p ps (mark.FatArrow ▸ ts) each.0 each.1 (omega arith, refl, refl) refl in
    rw (ap (λ (v : List Kind). items (case_pattern_at b) (after_key key.Or) (spell_pattern p v)) (sym (patterns_spelled ps (mark.FatArrow ▸ ts))) ∙ e) refl
head_again b region.Alt (AltHead None) ts a g = refl
head_again b region.Alt (AltHead (Some e)) ts a g =
    rw (expr_not_star e (mark.FatArrow ▸ ts), expr_again b e (mark.FatArrow ▸ ts) g.0 g.1 (omega arith)) refl
head_again b region.Pick (PickHead []) ts a g = refl
head_again b region.Pick (PickHead (n ∷ ns)) ts a g =
    let e : items expect_name (after_key key.Or) (spell_name n (spell_others spell_name (kind.Key key.Or) ns (mark.FatArrow ▸ ts))) ≡ Ok (n ∷ ns, mark.FatArrow ▸ ts) =
    items_again expect_name (after_key key.Or) spell_name (kind.Key key.Or) (λ (m : List ℕ). Unit {0}) (λ (us : List Kind). Unit {0}) (λ x us i. refl) (λ us. tt) (λ x us. omega arith) (λ x us i f. refl) n ns (mark.FatArrow ▸ ts) tt (each_any ns) tt refl in
    rw (ap (λ (v : List Kind). items expect_name (after_key key.Or) (spell_name n v)) (sym (names_spelled ns (mark.FatArrow ▸ ts))) ∙ e) refl
head_again b region.Handler (HandlerHead []) ts a g = absurd (let e : false ≡ true = g.0 in cc)
head_again b region.Handler (HandlerHead (p ∷ ps)) ts a g =
    let e : items handler_pattern_at (after_key key.Or) (spell_handler_pattern p (spell_others spell_handler_pattern (kind.Key key.Or) ps (mark.FatArrow ▸ ts))) ≡ Ok (p ∷ ps, mark.FatArrow ▸ ts) =
    items_again handler_pattern_at (after_key key.Or) spell_handler_pattern (kind.Key key.Or) (λ (q : HandlerPattern). Unit {0}) (λ (us : List Kind). Unit {0}) (λ x us i. refl) (λ us. tt) handler_pattern_long (λ x us i f. handler_pattern_again x us) p ps (mark.FatArrow ▸ ts) tt (each_any ps) tt refl in
    rw (ap (λ (v : List Kind). items handler_pattern_at (after_key key.Or) (spell_handler_pattern p v)) (sym (handler_patterns_spelled ps (mark.FatArrow ▸ ts))) ∙ e) refl
head_again b _ _ ts a g = absurd g.0

pub front_again : (b : ℕ) (r : Region) (h : Head) (ts : List Kind) → HasHeads r → GoodHead b r h → front_at b r (spell_front h ts) ≡ Ok (h, ts)
unfolding front_at
front_again b r h ts a g = rw (head_again b r h ts a g) refl

-- a head begins as an expression does
pub head_begins : (r : Region) (h : Head) (ts : List Kind) → HasHeads r → IsHead (place r) h → begins_expr (spell_head h ts) ≡ true
head_begins region.Block h ts a i = absurd a
head_begins region.Case (CaseHead []) ts a i = absurd (let e : false ≡ true = i.0 in cc)
head_begins region.Case (CaseHead (AnyValue ∷ ps)) ts a i = refl
head_begins region.Case (CaseHead (Value e ∷ ps)) ts a i = spell_begins e _
head_begins region.Case (CaseHead (Range e f ∷ ps)) ts a i = spell_begins e _
head_begins region.Alt (AltHead None) ts a i = refl
head_begins region.Alt (AltHead (Some e)) ts a i = spell_begins e _
head_begins region.Pick (PickHead []) ts a i = refl
head_begins region.Pick (PickHead (n ∷ ns)) ts a i = refl
head_begins region.Handler (HandlerHead []) ts a i = absurd (let e : false ≡ true = i in cc)
head_begins region.Handler (HandlerHead (Text s ∷ ps)) ts a i = refl
head_begins region.Handler (HandlerHead (Declared n ∷ ps)) ts a i = refl
head_begins region.Handler (HandlerHead (AnyException ∷ ps)) ts a i = refl
head_begins _ _ ts a i = absurd i

-- ---- what is no head isn't read as one

-- a head without its "=>"
no_arrow : (b : ℕ) (r : Region) (ts us : List Kind) (h : Head) → head_at b r ts ≡ Ok (h, us) → after_mark mark.FatArrow us ≡ None → is_read (front_at b r ts) ≡ Ok false
unfolding front_at
no_arrow b r ts us h e n = rw (e, n) refl

no_ends : (ts : List Kind) → arrow_or ts ≡ false → (after_key key.Or ts ≡ None) × (after_mark mark.FatArrow ts ≡ None)
no_ends [] h = (refl, refl)
no_ends (kind.Key key.Or ∷ ts) h = absurd (let e : true ≡ false = h in cc)
no_ends (kind.Key _ ∷ ts) h = (refl, refl)
no_ends (kind.Mark mark.FatArrow ∷ ts) h = absurd (let e : true ≡ false = h in cc)
no_ends (kind.Mark _ ∷ ts) h = (refl, refl)
no_ends (_ ∷ ts) h = (refl, refl)

handler_unread : (b : ℕ) (ts : List Kind) → lone ts ≡ false → is_read (front_at b region.Handler ts) ≡ Ok false
unfolding front_at items
handler_unread b [] h = refl
handler_unread b (kind.Name n ∷ ts) h =
    let p = no_ends ts h in
    rw (none_more handler_pattern_at (after_key key.Or) (length ts) ts p.0, p.1) refl
handler_unread b (kind.Chars s ∷ ts) h =
    let p = no_ends ts h in
    rw (none_more handler_pattern_at (after_key key.Or) (length ts) ts p.0, p.1) refl
handler_unread b (kind.Mark mark.Star ∷ ts) h =
    let p = no_ends ts h in
    rw (none_more handler_pattern_at (after_key key.Or) (length ts) ts p.0, p.1) refl
handler_unread b (kind.Mark _ ∷ ts) h = refl
handler_unread b (_ ∷ ts) h = refl

pick_unread : (b : ℕ) (ts : List Kind) → lone ts ≡ false → is_read (front_at b region.Pick ts) ≡ Ok false
unfolding front_at items
pick_unread b [] h = refl
pick_unread b (kind.Name n ∷ ts) h =
    let p = no_ends ts h in
    rw (none_more expect_name (after_key key.Or) (length ts) ts p.0, p.1) refl
pick_unread b (kind.Mark mark.Star ∷ ts) h = let p = no_ends ts h in rw p.1 refl
pick_unread b (kind.Mark _ ∷ ts) h = refl
pick_unread b (_ ∷ ts) h = refl

-- an expression before what neither goes on with it nor ends a pattern
pub unread : (b : ℕ) (r : Region) (e : Expr) (us : List Kind) → IsAt 13 e → nesting e ≤ b → Stops 13 us → after_key key.To us ≡ None → arrow_or us ≡ false → is_read (front_at b r (spell e us)) ≡ Ok false
unfolding front_at
unread b region.Block e us h d s t a = refl
unread b region.Case e us h d s t a =
    let p = no_ends us a in
    no_arrow b region.Case (spell e us) us (CaseHead (Value e ∷ [])) (rw (only_one (case_pattern_at b) (after_key key.Or) (spell e us) us (Value e) (rw (expr_not_star e us, expr_again b e us h d s, t) refl) p.0) refl) p.1
unread b region.Alt e us h d s t a =
    let p = no_ends us a in
    no_arrow b region.Alt (spell e us) us (AltHead (Some e)) (rw (expr_not_star e us, expr_again b e us h d s) refl) p.1
unread b region.Pick e us h d s t a = pick_unread b (spell e us) (expr_not_lone e us a)
unread b region.Handler e us h d s t a = handler_unread b (spell e us) (expr_not_lone e us a)

-- a name alone
pub name_unread : (b : ℕ) (r : Region) (n : List ℕ) (us : List Kind) → 1 ≤ b → Stops 13 us → after_key key.To us ≡ None → arrow_or us ≡ false → is_read (front_at b r (kind.Name n ∷ us)) ≡ Ok false
name_unread b r n us le s t a = unread b r (Name n) us tt le s t a

typed_unread : (b : ℕ) (r : Region) (ns : List (List ℕ)) (ts : List Kind) → is_some ns ≡ true → 1 ≤ b → is_read (front_at b r (spell_names ns (mark.Colon ▸ ts))) ≡ Ok false
typed_unread b r [] ts h le = absurd (let e : false ≡ true = h in cc)
typed_unread b r (n ∷ []) ts h le = name_unread b r n (mark.Colon ▸ ts) le (omega arith) refl refl
typed_unread b r (n ∷ m ∷ ns) ts h le = name_unread b r n _ le (omega arith) refl refl

-- a declaration isn't read as a head: what is before its `;` may be an expression, and no "=>" stands behind that
pub decl_unread : (b : ℕ) (r : Region) (d : Decl) (ts : List Kind) → IsDecl d → 1 + decl_nesting d ≤ b → is_read (front_at b r (spell_decl d ts)) ≡ Ok false
decl_unread b r (Con ns e) ts h le = typed_unread b r ns _ h.0 (omega arith)
decl_unread b r (TypeName ns t) ts h le = typed_unread b r ns _ h.0 (omega arith)
decl_unread b r (Var ns t v) ts h le = typed_unread b r ns _ h.0 (omega arith)
decl_unread b r (Define [] e) ts h le = absurd (let i : false ≡ true = h.0 in cc)
decl_unread b r (Define (n ∷ []) e) ts h le =
    unread b r (Assign assign.Define (Name n) e) (mark.Semicolon ▸ ts) (omega arith, tt, h.1) (omega (arith, nesting_pos e)) (omega arith) refl refl
decl_unread b r (Define (n ∷ m ∷ ns) e) ts h le = name_unread b r n _ (omega arith) (omega arith) refl refl
decl_unread b r (Import ns m) ts h le = typed_unread b r ns _ h (omega arith)
decl_unread b r (Exception ns tys) ts h le = typed_unread b r ns _ h.0 (omega arith)
decl_unread b r (Module n ms) ts h le = name_unread b r n _ (omega arith) (omega arith) refl refl
decl_unread b r (Adt n ms pick) ts h le = name_unread b r n _ (omega arith) (omega arith) refl refl
