-- The trees of a sound module have the form that its code needs.
use Rattle.std.proofs.Common.{◌≡◌, ℕ, zero, suc, Bool, true, List, [], ◌∷◌, map, Option, Some, None, refl, sym, ap, subst, ◌∙◌}
use Rattle.std.proofs.Common.{inl, inr}
use Rattle.std.specs.Prelude.{slice_get}
use Rattle.limbo_types.specs.Types as ty
use Rattle.limbo_types.specs.Types.{Ty}
use Rattle.limbo_layout.specs.Adts.{listed}
use Rattle.limbo_values.specs.declared.number.Kind.TheVariants as kind
use Rattle.limbo_typed.specs.declared.operation.Operation.{Operation}
use Rattle.limbo_typed.specs.declared.operation.Operation.TheVariants as operation
use Rattle.limbo_typed.specs.declared.print.Printed.TheVariants as printed
use Rattle.limbo_typed.specs.declared.print.Hole.TheVariants as hole
use Rattle.limbo_typed.specs.declared.print.Piece.{Piece}
use Rattle.limbo_typed.specs.declared.print.Piece.TheVariants as piece
use Rattle.limbo_typed.specs.Fitting.{Stands}
use Rattle.limbo_typed.specs.Sound.{SoundNode, SoundExprs, SoundInt, SoundOptional, SoundItems, SoundPlaceNode, SoundPattern, SoundPatterns}
use Rattle.limbo_typed.specs.Sound.{IsNamed, SoundStmt, SoundStmts, SoundDeclared, SoundCondition, SoundOption, SoundFunction, Each}
use Rattle.limbo_typed.specs.Sound.{types_of, holes}
use Rattle.limbo_typed.specs.Typed as typed
use Rattle.limbo_typed.specs.Typed.{Expr, Of, Exprs, NoExprs, MoreExprs, Optional, Absent, Present, PlaceNode, At, Pattern, Patterns}
use Rattle.limbo_typed.specs.Typed.{Stmt, Stmts, Var, Module}
use Rattle.limbo_meaning.specs.Trees.{Aim, Work, Assign, Term, Evaluated, Node, Terms, NoTerms, MoreTerms, Stm, Over, Eval, Looping}
use Rattle.limbo_meaning.specs.Trees.{Block, Done}
use Rattle.limbo_meaning.specs.Trees.{Then, tested}
use Rattle.limbo_meaning.specs.Program.{terms_before, only_term, aims_in, node_of, terms_of, terms_if, length_term, items_of, printed_of}
use Rattle.limbo_meaning.specs.Program.{as_printed, operands_at, operands_to, operands_among, operating, evaluated, optional}
use Rattle.limbo_meaning.specs.Program.{local, declared_value, before, all_before, Routine, routine_of, program_of}
use Rattle.limbo_kept.specs.Permitting.{Anything}
use Rattle.limbo_kept.specs.Trees.{Signature, Scope}
use Rattle.limbo_kept.specs.Processes.{scope_of, ProgramIs}
use Rattle.limbo_kept.specs.Modules.{AdtsAreLaid, signature_of, outline_of}
use Rattle.limbo_kept.proofs.Modules.{declares_all}
use Rattle.limbo_kept.proofs.Opening.{modules_keep_types}
use Rattle.core_code.specs.Terms.{type_of}
use Rattle.core_code.specs.Terms.{types_in}
use Rattle.core_follows.specs.Modules.{IsPart, AllPart, ItemsPart, PartIf, StmPart, BlockPart}
use Rattle.core_follows.proofs.Modules.{part_front, part_back, node_type, operated_part, printed_part, load_or, modules_are_handled}
use Rattle.core_typing.specs.Needs.{printed}
use Rattle.core_typing.specs.Trees.{LengthSo, HasValue, DeclaresSo, Formed, AllFormed, ItemsFormed, FormedIf, TestFormed}
use Rattle.core_typing.specs.Trees.{StmFormed, BlockFormed}
use Rattle.core_typing.specs.Functions.{TreesGoWell, ValuesGoWell, SoundModulesGoWell}
use Rattle.core_typing.proofs.Functions.{functions_go_well}

-- ---- trees of expressions are no values yet

abbrev Begins : Term → Type 0
Begins (Evaluated v) = ⊥
Begins t = Unit {0}

operated_begins : (t : Ty) (o : Operation) (ts : Terms) → Begins (Node t (operating o) ts)
operated_begins t o ts = tt

node_begins : (t : Ty) (n : typed.Node) → Begins (node_of t n)
node_begins t (typed.Number n) = tt
node_begins t (typed.Chars x) = tt
node_begins t typed.Nil = tt
node_begins t (typed.Read (At u p)) = tt
node_begins t (typed.Part e n) = tt
node_begins t (typed.Apply o es) = tt
node_begins t (typed.Lazy c l r) = tt
node_begins t (typed.Assign p e) = tt
node_begins t (typed.Update o (At u p) e) = tt
node_begins t (typed.Step o g (At u p)) = tt
node_begins t (typed.Copy a i e) = tt
node_begins t (typed.Filled l is rest) = tt
node_begins t (typed.Channel Absent) = tt
node_begins t (typed.Call f es) = tt
node_begins t (typed.Print printed.Print e Absent ps es) = tt
node_begins t (typed.Print printed.Sprint e Absent ps es) = tt
node_begins t (typed.Print printed.Fprint e Absent ps es) = tt
node_begins t (typed.Print w e (Present x) ps es) = tt
node_begins t _ = tt

length_so : (t : Term) → Begins t → HasValue t → LengthSo t
length_so (Evaluated v) b h = absurd b
length_so _ b h = h

-- ---- so each has a value

two_assigned : (t : Ty) (aims : List Aim) (x y : Term) (ts : Terms) → HasValue (Node t (Assign aims) (MoreTerms x (MoreTerms y ts)))
two_assigned t aims (Evaluated v) y ts = tt
two_assigned t aims _ y ts = tt

one_assigned : (t : Ty) (aims : List Aim) (x : Term) → Begins x → HasValue (Node t (Assign aims) (only_term x))
one_assigned t aims (Evaluated v) b = absurd b
one_assigned t aims _ b = tt

assigned : (t : Ty) (aims : List Aim) (ts : Terms) (x : Term) → Begins x → HasValue (Node t (Assign aims) (terms_before ts (only_term x)))
assigned t aims NoTerms x b = one_assigned t aims x b
assigned t aims (MoreTerms y NoTerms) x b = two_assigned t aims y x NoTerms
assigned t aims (MoreTerms y (MoreTerms z ts)) x b = two_assigned t aims y z (terms_before ts (only_term x))

operated_value : (t : Ty) (o : Operation) (ts : Terms) → HasValue (Node t (operating o) ts)
operated_value t operation.List ts = tt
operated_value t _ ts = tt

node_value : (t : Ty) (n : typed.Node) → HasValue (node_of t n)
node_value t (typed.Number n) = tt
node_value t (typed.Chars x) = tt
node_value t typed.Nil = tt
node_value t (typed.Read (At u p)) = tt
node_value t (typed.Part e n) = tt
node_value t (typed.Apply o es) = operated_value t o (terms_of es)
node_value t (typed.Lazy c l r) = tt
node_value t (typed.Assign p (Of u n)) = assigned t (aims_in [] p) (operands_to p) (node_of u n) (node_begins u n)
node_value t (typed.Update o (At u p) e) = tt
node_value t (typed.Step o g (At u p)) = tt
node_value t (typed.Copy a i e) = tt
node_value t (typed.Filled l is rest) = tt
node_value t (typed.Channel Absent) = tt
node_value t (typed.Call f es) = tt
node_value t (typed.Print printed.Print e Absent ps es) = tt
node_value t (typed.Print printed.Sprint e Absent ps es) = tt
node_value t (typed.Print printed.Fprint e Absent ps es) = tt
node_value t (typed.Print w e (Present x) ps es) = tt
node_value t _ = tt

printed_value : (t : Ty) (u : Term) → HasValue u → HasValue (as_printed t u)
printed_value ty.Byte u h = tt
printed_value _ u h = h

-- ---- what is printed

abbrev told : Ty → Ty
told ty.Byte = ty.Int
told t = t

abbrev NoAdt : Ty → Type 0
NoAdt t = (n : ℕ) → t ≡ ty.RefAdt n → ⊥

plain_same : (u t : Ty) → Stands u t → NoAdt t → u ≡ t
plain_same u t (inl e) plain = e
plain_same (ty.RefPick n v) t (inr e) plain = absurd (plain n e)
plain_same _ t (inr e) plain = absurd e

module _ (m : Module) (laid : AdtsAreLaid m.adts) (variables : List Var) where
  abbrev s : Scope
  s = scope_of (outline_of m) (map (λ (v : Var). v.ty) variables)

  printed_type : (t : Ty) (n : typed.Node) → SoundNode m variables t n → IsPart (as_printed t (node_of t n)) → NoAdt t
      → type_of m.adts (as_printed t (node_of t n)) ≡ told t
  printed_type ty.Byte n x h plain = refl
  printed_type t n x h plain = plain_same (type_of m.adts (node_of t n)) t (node_type m laid variables t n x h) plain

  -- one argument of a type, and those behind it
  one_printed : (t u : Ty) (n : typed.Node) (es : Exprs) (us : List Ty) → SoundNode m variables t n → IsPart (as_printed t (node_of t n))
      → t ≡ u → NoAdt u → types_in m.adts (printed_of es) ≡ us
      → types_in m.adts (printed_of (MoreExprs (Of t n) es)) ≡ told u ∷ us
  one_printed t u n es us x h e plain k =
      let plain' : NoAdt t = λ j f. plain j (sym e ∙ f) in
      let a : type_of m.adts (as_printed t (node_of t n)) ≡ told u = printed_type t n x h plain' ∙ ap told e in
      cc

  prints_so : (ps : List Piece) (es : Exprs) → SoundExprs m variables es → AllPart (printed_of es) → types_of es ≡ holes ps
      → types_in m.adts (printed_of es) ≡ printed ps
  prints_so [] NoExprs x h e = refl
  prints_so [] (MoreExprs (Of t n) es) x h e = absurd cc
  prints_so (piece.Chars c ∷ ps) es x h e = prints_so ps es x h e
  prints_so (piece.Hole hole.Error ∷ ps) es x h e = prints_so ps es x h e
  prints_so (piece.Hole (hole.Decimal k) ∷ ps) NoExprs x h e = absurd cc
  prints_so (piece.Hole (hole.Decimal kind.Byte) ∷ ps) (MoreExprs (Of t n) es) x h e =
      one_printed t ty.Byte n es (printed ps) x.0.1 h.0 (let f : t ≡ ty.Byte = cc in f) (λ j f. absurd cc)
      (prints_so ps es x.1 h.1 (let f : types_of es ≡ holes ps = cc in f))
  prints_so (piece.Hole (hole.Decimal kind.Int) ∷ ps) (MoreExprs (Of t n) es) x h e =
      one_printed t ty.Int n es (printed ps) x.0.1 h.0 (let f : t ≡ ty.Int = cc in f) (λ j f. absurd cc)
      (prints_so ps es x.1 h.1 (let f : types_of es ≡ holes ps = cc in f))
  prints_so (piece.Hole (hole.Decimal kind.Big) ∷ ps) (MoreExprs (Of t n) es) x h e =
      one_printed t ty.Big n es (printed ps) x.0.1 h.0 (let f : t ≡ ty.Big = cc in f) (λ j f. absurd cc)
      (prints_so ps es x.1 h.1 (let f : types_of es ≡ holes ps = cc in f))
  prints_so (piece.Hole hole.Chars ∷ ps) NoExprs x h e = absurd cc
  prints_so (piece.Hole hole.Chars ∷ ps) (MoreExprs (Of t n) es) x h e =
      one_printed t ty.Chars n es (printed ps) x.0.1 h.0 (let f : t ≡ ty.Chars = cc in f) (λ j f. absurd cc)
      (prints_so ps es x.1 h.1 (let f : types_of es ≡ holes ps = cc in f))
  prints_so (piece.Hole hole.Character ∷ ps) NoExprs x h e = absurd cc
  prints_so (piece.Hole hole.Character ∷ ps) (MoreExprs (Of t n) es) x h e =
      one_printed t ty.Int n es (printed ps) x.0.1 h.0 (let f : t ≡ ty.Int = cc in f) (λ j f. absurd cc)
      (prints_so ps es x.1 h.1 (let f : types_of es ≡ holes ps = cc in f))
  prints_so (piece.Hole hole.Hexadecimal ∷ ps) NoExprs x h e = absurd cc
  prints_so (piece.Hole hole.Hexadecimal ∷ ps) (MoreExprs (Of t n) es) x h e =
      one_printed t ty.Int n es (printed ps) x.0.1 h.0 (let f : t ≡ ty.Int = cc in f) (λ j f. absurd cc)
      (prints_so ps es x.1 h.1 (let f : types_of es ≡ holes ps = cc in f))

  -- where a copy begins
  begins_at_int : (t : Ty) (n : typed.Node) → SoundInt m variables (Of t n) → IsPart (node_of t n)
      → Some (type_of m.adts (node_of t n)) ≡ Some ty.Int
  begins_at_int t n x h =
      ap (λ (y : Ty). Some y)
      (plain_same (type_of m.adts (node_of t n)) t (node_type m laid variables t n x.1 h) (λ j f. let e = x.0 in absurd cc) ∙ x.0)

  -- ---- expressions

  declares_so : (t : Ty) (o : Work) (ts : Terms) → HasValue (Node t o ts) → DeclaresSo s o ts
  declares_so t (Assign aims) (MoreTerms (Evaluated v) NoTerms) h = absurd h
  declares_so t _ _ h = tt

  formed_before : (ts us : Terms) → AllFormed s ts → AllFormed s us → AllFormed s (terms_before ts us)
  formed_before NoTerms us h k = k
  formed_before (MoreTerms t ts) us h k = (h.0, h.1, formed_before ts us h.2 k)

  operated_formed : (t : Ty) (o : Operation) (ts : Terms) → AllFormed s ts → Formed s (Node t (operating o) ts)
  operated_formed t operation.List ts h = (tt, tt, h)
  operated_formed t _ ts h = (tt, tt, h)

  printed_formed : (t : Ty) (u : Term) → HasValue u → Formed s u → Formed s (as_printed t u)
  printed_formed ty.Byte u v h = (tt, tt, (v, h, tt))
  printed_formed _ u v h = h

  mutual
    node_formed : (t : Ty) (n : typed.Node) → SoundNode m variables t n → IsPart (node_of t n) → Formed s (node_of t n)
    node_formed t (typed.Number n) x h = (tt, tt, tt)
    node_formed t (typed.Chars c) x h = (tt, tt, tt)
    node_formed t typed.Nil x h = (tt, tt, tt)
    node_formed t (typed.Read (At u p)) x h = (tt, tt, place_formed u p x.0.1 h)
    node_formed t (typed.Part (Of u e) n) x h = (tt, tt, (node_value u e, node_formed u e x.0.1 h.0, tt))
    node_formed t (typed.Apply o es) x h =
        operated_formed t o (terms_of es)
        (exprs_formed es x.0 (operated_part m laid variables o t (terms_of es) h))
    node_formed t (typed.Lazy c (Of u l) (Of w r)) x h =
        (node_value u l, node_formed u l x.0.1 h.0, node_value w r, node_formed w r x.1.1 h.1)
    node_formed t (typed.Assign p (Of u n)) x h = (
      tt,
      declares_so t (Assign (aims_in [] p)) (terms_before (operands_to p) (only_term (node_of u n)))
          (node_value t (typed.Assign p (Of u n))),
      formed_before (operands_to p) (only_term (node_of u n))
          (pattern_formed p u x.1 (part_front (operands_to p) (only_term (node_of u n)) h)) (
            node_value u n,
            node_formed u n x.0.1 (part_back (operands_to p) (only_term (node_of u n)) h).0,
            tt,
          ),
    )
    node_formed t (typed.Update o (At u p) (Of w e)) x h =
        (place_formed u p x.0.1 h.0, (node_value w e, node_formed w e x.1.1 h.1.0, tt))
    node_formed t (typed.Step o g (At u p)) x h = (place_formed u p x.0.1 h.0, tt)
    node_formed t (typed.Copy (Of u a) (Of v i) (Of w e)) x h = (
      begins_at_int v i x.1 h.1.0,
      tt,
      (
        node_value u a,
        node_formed u a x.0.1 h.0,
        (node_value v i, node_formed v i x.1.1 h.1.0, (node_value w e, node_formed w e x.2.1 h.1.1.0, tt)),
      ),
    )
    node_formed t (typed.Filled l items rest) x h =
        let n = length_formed l items x.2 h.0 in
        (n.0, n.1, items_formed items x.0 x.3 h.1, rest_formed rest x.0 x.4 h.2)
    node_formed t (typed.Channel Absent) x h = (tt, tt, tt)
    node_formed t (typed.Call f es) x h = (tt, tt, exprs_formed es x.0 h)
    node_formed t (typed.Print printed.Print e Absent ps es) x h = (prints_so ps es x.3 h x.4, tt, prints_formed es x.3 h)
    node_formed t (typed.Print printed.Sprint e Absent ps es) x h = (tt, tt, prints_formed es x.3 h)
    node_formed t (typed.Print printed.Fprint e Absent ps es) x h = absurd h
    node_formed t (typed.Print w e (Present y) ps es) x h = absurd h
    node_formed t _ x h = absurd h

    exprs_formed : (es : Exprs) → SoundExprs m variables es → AllPart (terms_of es) → AllFormed s (terms_of es)
    exprs_formed NoExprs x h = tt
    exprs_formed (MoreExprs (Of t n) es) x h = (node_value t n, node_formed t n x.0.1 h.0, exprs_formed es x.1 h.1)

    prints_formed : (es : Exprs) → SoundExprs m variables es → AllPart (printed_of es) → AllFormed s (printed_of es)
    prints_formed NoExprs x h = tt
    prints_formed (MoreExprs (Of t n) es) x h = (
      printed_value t (node_of t n) (node_value t n),
      printed_formed t (node_of t n) (node_value t n) (node_formed t n x.0.1 (printed_part m laid variables t (node_of t n) h.0)),
      prints_formed es x.1 h.1,
    )

    length_formed : (l : Optional) (items : typed.Items) → SoundOptional m variables l ty.Int → IsPart (length_term l items)
        → LengthSo (length_term l items) × Formed s (length_term l items)
    length_formed Absent items x h = (tt, tt)
    length_formed (Present (Of t n)) items x h = (length_so (node_of t n) (node_begins t n) (node_value t n), node_formed t n x.0.1 h)

    items_formed : (items : typed.Items) (t : Ty) → SoundItems m variables items t → ItemsPart (items_of items)
        → ItemsFormed s (items_of items)
    items_formed typed.NoItems t x h = tt
    items_formed (typed.MoreItems i (Of u n) items) t x h =
        (node_value u n, node_formed u n x.0.1 h.0, items_formed items t x.2 h.1)

    rest_formed : (e : Optional) (t : Ty) → SoundOptional m variables e t → AllPart (terms_if e) → AllFormed s (terms_if e)
    rest_formed Absent t x h = tt
    rest_formed (Present (Of u n)) t x h = (node_value u n, node_formed u n x.0.1 h.0, tt)

    place_formed : (t : Ty) (p : PlaceNode) → SoundPlaceNode m variables t p → AllPart (operands_at p) → AllFormed s (operands_at p)
    place_formed t (typed.Local i) x h = tt
    place_formed t (typed.Global i) x h = tt
    place_formed t (typed.Field (At u p) n) x h = place_formed u p x.0.1 h
    place_formed t (typed.Element (Of u a) (Of v i)) x h =
        (node_value u a, node_formed u a x.0.1 h.0, (node_value v i, node_formed v i x.1.1 h.1.0, tt))
    place_formed t (typed.Character (At u p) (Of v i)) x h =
        formed_before (operands_at p) (only_term (node_of v i))
        (place_formed u p x.0.1 (part_front (operands_at p) (only_term (node_of v i)) h))
        (node_value v i, node_formed v i x.1.1 (part_back (operands_at p) (only_term (node_of v i)) h).0, tt)
    place_formed t (typed.Target (Of u e)) x h = (node_value u e, node_formed u e x.0.1 h.0, tt)

    pattern_formed : (p : Pattern) (t : Ty) → SoundPattern m variables p t → AllPart (operands_to p) → AllFormed s (operands_to p)
    pattern_formed (typed.ToPlace (At u p)) t x h = place_formed u p x.0.1 h
    pattern_formed typed.ToNothing t x h = tt
    pattern_formed (typed.ToParts ps) t x h = patterns_formed ps (listed x.0) x.2 h

    patterns_formed : (ps : Patterns) (ts : List Ty) → SoundPatterns m variables ps ts → AllPart (operands_among ps)
        → AllFormed s (operands_among ps)
    patterns_formed typed.NoPatterns ts x h = tt
    patterns_formed (typed.MorePatterns p ps) [] x h = absurd x
    patterns_formed (typed.MorePatterns p ps) (t ∷ ts) x h =
        formed_before (operands_to p) (operands_among ps)
        (pattern_formed p t x.0 (part_front (operands_to p) (operands_among ps) h))
        (patterns_formed ps ts x.1 (part_back (operands_to p) (operands_among ps) h))

-- ---- statements

begins_so : (s : Scope) (o : Work) (t : Term) → Begins t → DeclaresSo s o (only_term t)
begins_so s (Assign aims) (Evaluated v) h = absurd h
begins_so s _ _ h = tt

module _ (m : Module) (laid : AdtsAreLaid m.adts) (f : typed.Function) (named : Each (λ (v : Var). IsNamed m v.ty) f.variables) where
  abbrev types : List Ty
  types = map (λ (v : Var). v.ty) f.variables

  abbrev here : Scope
  here = scope_of (outline_of m) types

  abbrev Fine : Block → Type 0
  Fine b = BlockFormed here b

  eval_formed : (t : Ty) (n : typed.Node) → SoundNode m f.variables t n → StmPart (evaluated (Of t n)) → StmFormed here (evaluated (Of t n))
  eval_formed t n x = elim (load_or n) [
    | inl e ↦ subst (λ (o : Option Stm). StmPart (elim o [ None ↦ Eval (node_of t n) | Some y ↦ y ])
        → StmFormed here (elim o [ None ↦ Eval (node_of t n) | Some y ↦ y ])) (sym e) (λ h. node_formed m laid f.variables t n x h.0)
    | inr e ↦ subst (λ (o : Option Stm). StmPart (elim o [ None ↦ Eval (node_of t n) | Some y ↦ y ])
        → StmFormed here (elim o [ None ↦ Eval (node_of t n) | Some y ↦ y ])) (sym e) (λ h. tt)
  ]

  declared_formed : (xs : List ℕ) (e : Option Expr) → SoundDeclared m f.variables xs e
      → StmPart (Eval (Node ty.Int (Assign (map (local types) xs)) (only_term (declared_value types e))))
      → Formed here (Node ty.Int (Assign (map (local types) xs)) (only_term (declared_value types e)))
  declared_formed xs None x h = (tt, declares_all Anything m laid f named xs x, (tt, tt, tt))
  declared_formed xs (Some (Of t n)) x h = (
    tt,
    begins_so here (Assign (map (local types) xs)) (node_of t n) (node_begins t n),
    (node_value t n, node_formed m laid f.variables t n x.0.1 h.0.0, tt),
  )

  condition_formed : (c : Option Expr) → SoundCondition m f.variables c → PartIf (optional c) → TestFormed here (optional c)
  condition_formed None x h = tt
  condition_formed (Some (Of t n)) x h = (node_value t n, node_formed m laid f.variables t n x.1 h)

  option_formed : (c : Option Expr) → SoundOption m f.variables c → PartIf (optional c) → FormedIf here (optional c)
  option_formed None x h = tt
  option_formed (Some (Of t n)) x h = node_formed m laid f.variables t n x.1 h

  tested_formed : (c : Option Expr) (n : Option Term) (body rest : Block) → BlockPart (tested (Looping (optional c) n body) rest)
      → SoundCondition m f.variables c → (PartIf n → FormedIf here n) → (BlockPart body → Fine body)
      → (BlockPart rest → Fine rest) → Fine (tested (Looping (optional c) n body) rest)
  tested_formed None n body rest h x hn hb hr = ((tt, hn h.0.1, hb h.0.2), hr h.1)
  tested_formed (Some (Of t e)) n body rest h x hn hb hr =
      let c = node_formed m laid f.variables t e x.1 h.0.0 in
      ((node_value t e, c, ((node_value t e, c), hn h.0.1, hb h.0.2)), hr h.1)

  mutual
    stmt_formed : (around : List Bool) (y : Stmt) (rest : Block) → SoundStmt m f around y → BlockPart (before types y rest)
        → (BlockPart rest → Fine rest) → Fine (before types y rest)
    stmt_formed a typed.Empty rest x h k = (tt, k h.1)
    stmt_formed a (typed.Block ss) rest x h k = stmts_formed a ss (Then Over rest) x h (λ p. (tt, k p.1))
    stmt_formed a (typed.Declare xs e) rest x h k = (declared_formed xs e x h.0, k h.1)
    stmt_formed a (typed.Eval (Of t n)) rest x h k = (eval_formed t n x.1 h.0, k h.1)
    stmt_formed a (typed.If (Of t c) ss others) rest x h k = (
      (
        node_value t c,
        node_formed m laid f.variables t c x.0.1 h.0.0,
        stmts_formed a ss Done x.1 h.0.1 (λ p. tt),
        stmts_formed a others Done x.2 h.0.2 (λ p. tt),
      ),
      k h.1,
    )
    stmt_formed a (typed.While c ss) rest x h k =
        tested_formed c None (all_before types ss Done) (Then Over rest) h x.0 (λ p. tt)
        (λ p. stmts_formed (true ∷ a) ss Done x.1 p (λ q. tt)) (λ p. (tt, k p.1))
    stmt_formed a (typed.Do ss c) rest x h k =
        ((condition_formed c x.1 h.0.0, tt, stmts_formed (true ∷ a) ss Done x.0 h.0.2 (λ p. tt)), (tt, k h.1.1))
    stmt_formed a (typed.For None c n ss) rest x h k =
        tested_formed c (optional n) (all_before types ss Done) (Then Over rest) h x.1 (option_formed n x.2)
        (λ p. stmts_formed (true ∷ a) ss Done x.3 p (λ q. tt)) (λ p. (tt, k p.1))
    stmt_formed a (typed.For (Some (Of t e)) c n ss) rest x h k = (
      eval_formed t e x.0.1 h.0,
      tested_formed c (optional n) (all_before types ss Done) (Then Over rest) h.1 x.1 (option_formed n x.2)
          (λ p. stmts_formed (true ∷ a) ss Done x.3 p (λ q. tt)) (λ p. (tt, k p.1)),
    )
    stmt_formed a (typed.Break n) rest x h k = (tt, k h.1)
    stmt_formed a (typed.Continue n) rest x h k = (tt, k h.1)
    stmt_formed a (typed.Return None) rest x h k = (tt, k h.1)
    stmt_formed a (typed.Return (Some (Of t n))) rest x h k =
        ((node_value t n, node_formed m laid f.variables t n x.0.1 h.0), k h.1)
    stmt_formed a _ rest x h k = absurd h.0.0

    stmts_formed : (around : List Bool) (ss : Stmts) (rest : Block) → SoundStmts m f around ss → BlockPart (all_before types ss rest)
        → (BlockPart rest → Fine rest) → Fine (all_before types ss rest)
    stmts_formed a typed.NoStmts rest x h k = k h
    stmts_formed a (typed.MoreStmts y ss) rest x h k =
        stmt_formed a y (all_before types ss rest) x.0 h (λ p. stmts_formed a ss rest x.1 p k)

-- ---- modules

functions_formed : (m : Module) (laid : AdtsAreLaid m.adts) (fs : List typed.Function) → Each (SoundFunction m) fs → (k : ℕ) (r : Routine)
    → slice_get (map routine_of fs) k ≡ Some r → BlockPart r.body → BlockFormed (scope_of (outline_of m) r.variables) r.body
functions_formed m laid [] x k r e h = absurd cc
functions_formed m laid (f ∷ fs) x zero r e h =
    let same : routine_of f ≡ r = cc in
    subst (λ (y : Routine). BlockPart y.body → BlockFormed (scope_of (outline_of m) y.variables) y.body) same
    (λ p. stmts_formed m laid f x.0.named [] f.body Done x.0.body p (λ q. tt)) h
functions_formed m laid (f ∷ fs) x (suc k) r e h = functions_formed m laid fs x.1 k r e h

routine_there : (fs : List typed.Function) (k : ℕ) (g : Signature) → slice_get (map signature_of fs) k ≡ Some g
    → (r : Routine) × (slice_get (map routine_of fs) k ≡ Some r)
routine_there [] k g e = absurd cc
routine_there (f ∷ fs) zero g e = (routine_of f, refl)
routine_there (f ∷ fs) (suc k) g e = routine_there fs k g e

pub sound_modules_go_well : TreesGoWell → ValuesGoWell → SoundModulesGoWell
sound_modules_go_well trees values m x laid few written part runs f g r there e n =
    let is : ProgramIs (outline_of m) (program_of m) =
    modules_keep_types.programs Anything m x laid written (modules_keep_types.anything m) in
    functions_go_well trees values (outline_of m) g r (is.routines f g r there e) (modules_are_handled m x laid part f r e)
    (functions_formed m laid m.functions x.functions f r e (part f r e)) (runs f r e)
    (λ k h q. let a = routine_there m.functions k h q in (is.routines k h a.0 q a.1).answer) few n
