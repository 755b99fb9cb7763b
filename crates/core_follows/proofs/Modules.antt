-- The trees of a checked module are such as the law speaks of.
use Rattle.std.proofs.Common.{◌≡◌, ℕ, zero, suc, ◌+◌, ◌<◌, Bool, true, false, List, [], ◌∷◌, ◌++◌, length, Option, Some, None}
use Rattle.std.proofs.Common.{refl, sym, ap, subst, ◌∙◌, arith, inl, inr, ◌⊎◌}
use Rattle.std.specs.Prelude.{slice_get, map, if◌then◌else◌}
use Rattle.limbo_types.specs.Types as ty
use Rattle.limbo_types.specs.Types.{Ty, Tys}
use Rattle.limbo_layout.specs.Adts.{Def, listed, types_of}
use Rattle.limbo_typed.specs.declared.operation.Operation.{Operation}
use Rattle.limbo_typed.specs.declared.operation.Operation.TheVariants as operation
use Rattle.limbo_typed.specs.declared.print.Printed.TheVariants as printed
use Rattle.limbo_typed.specs.Fitting as fits
use Rattle.limbo_typed.specs.Fitting.{Stands, AllStand, Gives, HasPart}
use Rattle.limbo_typed.specs.Sound as sound
use Rattle.limbo_typed.specs.Sound.{SoundExpr, SoundNode, SoundExprs, SoundInt, SoundOptional, SoundItems, SoundPlaceNode, SoundPattern}
use Rattle.limbo_typed.specs.Sound.{SoundPatterns, SoundStmt, SoundStmts}
use Rattle.limbo_typed.specs.Typed as typed
use Rattle.limbo_typed.specs.Typed.{Expr, Of, Exprs, NoExprs, MoreExprs, Optional, Absent, Present, PlaceNode, At, Pattern, Patterns}
use Rattle.limbo_typed.specs.Typed.{Stmt, Stmts}
use Rattle.limbo_typed.specs.Typed.{Var, Module}
use Rattle.limbo_meaning.specs.Places.{operands_of, count_of}
use Rattle.limbo_meaning.specs.Trees.{Aim, Operate, Assign, Term, Node, Terms, NoTerms, MoreTerms, Block, Done}
use Rattle.limbo_meaning.specs.Trees as tree
use Rattle.limbo_meaning.specs.Evaluation.{operands_for}
use Rattle.limbo_meaning.specs.Operations.{item_of}
use Rattle.limbo_meaning.specs.Program.{terms_before, only_term, way_of, aims_in, aims_among, term_of, node_of, terms_of, terms_if}
use Rattle.limbo_meaning.specs.Program.{length_term}
use Rattle.limbo_meaning.specs.Program.{items_of, printed_of, as_printed, operands_at, operands_to, operands_among, operating}
use Rattle.core_code.specs.Terms.{type_of, type_at}
use Rattle.core_code.specs.Terms.{types_in}
use Rattle.core_follows.specs.Handled.{count, Suits, Handled, AllHandled, HandledItems, HandledRest, HasLayout, Takes}
use Rattle.core_follows.specs.Handled.{IsKnown, IsChannel}
use Rattle.core_follows.specs.Modules.{IsPart, AllPart, ItemsPart, AdtsAreLaid, PartIf, StmPart, BlockPart, ProgramPart, ModulesKeep}
use Rattle.core_follows.specs.Follows.{HandledProgram}
use Rattle.core_follows.proofs.Follows.{code_keeps}
use Rattle.core_follows.specs.Handled.{HandledIf, HandledStm, HandledBlock}
use Rattle.limbo_typed.specs.Sound.{SoundDeclared, SoundCondition, SoundOption, SoundFunction, Each}
use Rattle.limbo_meaning.specs.Program.{is_load, evaluated, optional, local, declared_value, before, all_before, Routine, routine_of}
use Rattle.limbo_meaning.specs.Program.{program_of}
use Rattle.limbo_meaning.specs.Trees.{Stm, Over, Eval, Looping, Then, tested}
use Rattle.core_follows.proofs.Fitting.{makes_so, takes_so}
use Rattle.core_follows.proofs.Updates.{not_passed}

-- ---- operands

count_before : (ts us : Terms) → count (terms_before ts us) ≡ count ts + count us
count_before NoTerms us = omega arith
count_before (MoreTerms t ts) us = let e = count_before ts us in omega arith

pub part_front : (ts us : Terms) → AllPart (terms_before ts us) → AllPart ts
part_front NoTerms us h = tt
part_front (MoreTerms t ts) us h = (h.0, part_front ts us h.1)

pub part_back : (ts us : Terms) → AllPart (terms_before ts us) → AllPart us
part_back NoTerms us h = h
part_back (MoreTerms t ts) us h = part_back ts us h.1

aims_more : (xs ys : List Aim) → operands_for (xs ++ ys) ≡ operands_for xs + operands_for ys
aims_more [] ys = omega arith
aims_more (a ∷ xs) ys = let e = aims_more xs ys in omega arith

-- what stands for what stands for a third
stands_on : (s t u : Ty) → Stands s t → Stands t u → Stands s u
stands_on s t u (inl e) h = subst (λ (x : Ty). Stands x u) (sym e) h
stands_on (ty.RefPick n k) t u (inr e) h =
    let f : Stands (ty.RefAdt n) u = subst (λ (x : Ty). Stands x u) e h in
    elim f [ inl g ↦ inr (sym g) | inr g ↦ absurd g ]
stands_on _ t u (inr e) h = absurd e

module _ (defs : List Def) where
  handled_before : (ts us : Terms) → AllHandled defs ts → AllHandled defs us → AllHandled defs (terms_before ts us)
  handled_before NoTerms us h k = k
  handled_before (MoreTerms t ts) us h k = (h.0, handled_before ts us h.1 k)

  type_behind : (ts : Terms) (t : Term) → type_at defs (count ts) (terms_before ts (only_term t)) ≡ type_of defs t
  type_behind NoTerms t = refl
  type_behind (MoreTerms u ts) t = type_behind ts t

  -- a type that has parts is the tree's own
  whole_type : (s t : Ty) (n : ℕ) (u : Ty) → Stands s t → HasPart defs t n u → s ≡ t
  whole_type s t n u (inl e) h = e
  whole_type (ty.RefPick k j) t n u (inr e) h = absurd (subst (λ (x : Ty). HasPart defs x n u) e h)
  whole_type _ t n u (inr e) h = absurd e

  layout_of : AdtsAreLaid defs → (t : Ty) (n : ℕ) (u : Ty) → HasPart defs t n u → HasLayout defs t
  layout_of laid (ty.Tuple us) n u h = tt
  layout_of laid (ty.Adt k) n u h = (h.0, h.1, laid k h.0 h.1)
  layout_of laid _ n u h = absurd h

  all_stand_on : (ss ts us : List Ty) → AllStand ss ts → AllStand ts us → AllStand ss us
  all_stand_on [] [] us h k = k
  all_stand_on [] (t ∷ ts) us h k = absurd h
  all_stand_on (s ∷ ss) [] us h k = absurd h
  all_stand_on (s ∷ ss) (t ∷ ts) [] h k = absurd k
  all_stand_on (s ∷ ss) (t ∷ ts) (u ∷ us) h k = (stands_on s t u h.0 k.0, all_stand_on ss ts us h.1 k.1)

  fields_on : (d : Def) (v : Option ℕ) (ss ts : List Ty) → AllStand ss ts → fits.TakesFields d v ts → fits.TakesFields d v ss
  fields_on d None ss ts h k = (k.0, all_stand_on ss ts (types_of d.fields) h k.1)
  fields_on d (Some v) ss ts h k = (k.0, k.1, all_stand_on ss ts (types_of d.fields ++ types_of k.0.fields) h k.2)

  -- a node of an operation behind its operands
  applied : AdtsAreLaid defs → (o : Operation) (t : Ty) (ts : Terms) (us : List Ty) → Gives defs o us t → AllStand (types_in defs ts) us
      → Suits defs t (operating o) ts
  applied laid operation.List t ts us g h = subst (λ (x : Ty). Suits defs x tree.Link ts) (sym g.1) tt
  applied laid operation.Tuple t ts us g h =
      inr (
        refl,
        makes_so defs operation.Tuple (types_in defs ts) t refl (subst (HasLayout defs) (sym g.1) tt)
            (g.0, g.1, all_stand_on (types_in defs ts) us (listed g.0) h g.2),
      )
  applied laid (operation.Adt n v) t ts us g h =
      inr (
        refl,
        makes_so defs (operation.Adt n v) (types_in defs ts) t refl
            (subst (HasLayout defs) (sym g.result) (g.def, g.there, laid n g.def g.there))
            (record { def = g.def; there = g.there; fields = fields_on g.def v (types_in defs ts) us h g.fields; result = g.result }),
      )
  applied laid _ t ts us g h = inl refl

module _ (m : Module) (laid : AdtsAreLaid m.adts) (variables : List Var) where
  -- ---- places

  no_character : (t : Ty) (p : PlaceNode) → SoundPlaceNode m variables t p → ((way_of p).character ≡ false) ⊎ (t ≡ ty.Int)
  no_character t (typed.Local x) s = inl refl
  no_character t (typed.Global x) s = inl refl
  no_character t (typed.Field (At u p) n) s =
      elim (no_character u p s.0.1) [ inl e ↦ inl e | inr e ↦ absurd (subst (λ (x : Ty). HasPart m.adts x n t) e s.1) ]
  no_character t (typed.Element a i) s = inl refl
  no_character t (typed.Character (At u p) i) s = inr s.3
  no_character t (typed.Target e) s = inl refl

  counts_place : (t : Ty) (p : PlaceNode) → SoundPlaceNode m variables t p → count (operands_at p) ≡ operands_of (way_of p)
  counts_place t (typed.Local x) s = refl
  counts_place t (typed.Global x) s = refl
  counts_place t (typed.Field (At u p) n) s = counts_place u p s.0.1
  counts_place t (typed.Element a i) s = refl
  counts_place t (typed.Character (At u p) i) s =
      let w = way_of p in
      let e1 = count_before (operands_at p) (only_term (term_of i)) in
      let e2 = counts_place u p s.0.1 in
      let e3 : w.character ≡ false = elim (no_character u p s.0.1) [ inl e ↦ e | inr e ↦ absurd (let f : u ≡ ty.Chars = s.2 in cc) ] in
      let e4 = ap (λ (b : Bool). if b then count_of w.root + 1 else count_of w.root) e3 in
      omega arith
  counts_place t (typed.Target e) s = refl

  mutual
    counts_pattern : (p : Pattern) (t : Ty) (ns : List ℕ) → SoundPattern m variables p t
        → count (operands_to p) ≡ operands_for (aims_in ns p)
    counts_pattern (typed.ToPlace (At u p)) t ns s = let e = counts_place u p s.0.1 in omega arith
    counts_pattern typed.ToNothing t ns s = refl
    counts_pattern (typed.ToParts ps) t ns s = counts_patterns ps (listed s.0) ns 0 s.2

    counts_patterns : (ps : Patterns) (ts : List Ty) (ns : List ℕ) (k : ℕ) → SoundPatterns m variables ps ts
        → count (operands_among ps) ≡ operands_for (aims_among ns k ps)
    counts_patterns typed.NoPatterns [] ns k s = refl
    counts_patterns typed.NoPatterns (t ∷ ts) ns k s = absurd s
    counts_patterns (typed.MorePatterns p ps) [] ns k s = absurd s
    counts_patterns (typed.MorePatterns p ps) (t ∷ ts) ns k s =
        let e1 = count_before (operands_to p) (operands_among ps) in
        let e2 = counts_pattern p t (ns ++ (k ∷ [])) s.0 in
        let e3 = counts_patterns ps ts ns (suc k) s.1 in
        let e4 = aims_more (aims_in (ns ++ (k ∷ [])) p) (aims_among ns (suc k) ps) in
        omega arith

  -- ---- expressions

  operated : (o : Operation) (t : Ty) (ts : Terms) → Stands (type_of m.adts (Node t (operating o) ts)) t
  operated operation.List t ts = inl refl
  operated _ t ts = inl refl

  pub operated_part : (o : Operation) (t : Ty) (ts : Terms) → IsPart (Node t (operating o) ts) → AllPart ts
  operated_part o t ts h = h

  mutual
    pub node_type : (t : Ty) (n : typed.Node) → SoundNode m variables t n → IsPart (node_of t n) → Stands (type_of m.adts (node_of t n)) t
    node_type t (typed.Number n) s h = inl refl
    node_type t (typed.Chars x) s h = inl refl
    node_type t typed.Nil s h = inl refl
    node_type t (typed.Read (At u p)) s h = inl s.1
    node_type t (typed.Part e n) s h = inl refl
    node_type t (typed.Apply o es) s h = operated o t (terms_of es)
    node_type t (typed.Lazy c l r) s h = inl (sym s.2)
    node_type t (typed.Assign p (Of u n)) s h =
        subst (λ (x : Ty). Stands x t)
        (sym (ap (λ (k : ℕ). type_at m.adts k (terms_before (operands_to p) (only_term (node_of u n)))) (sym (counts_pattern p u [] s.1))
        ∙ type_behind m.adts (operands_to p) (node_of u n)))
        (stands_on (type_of m.adts (node_of u n)) u t
        (node_type u n s.0.1 (part_back (operands_to p) (only_term (node_of u n)) h).0) s.2)
    node_type t (typed.Update o (At u p) e) s h = inl s.3
    node_type t (typed.Step o g (At u p)) s h = inl s.2
    node_type t (typed.Copy a i (Of u n)) s h =
        subst (λ (x : Ty). Stands (type_of m.adts (node_of u n)) x) s.5 (node_type u n s.2.1 h.1.1.0)
    node_type t (typed.Filled l is rest) s h = subst (λ (x : Ty). Stands (ty.ArrayOf (item_of x)) x) (sym s.1) (inl refl)
    node_type t (typed.Channel Absent) s h = inl refl
    node_type t (typed.Call f es) s h = inl refl
    node_type t (typed.Print printed.Print e Absent ps es) s h = inl refl
    node_type t (typed.Print printed.Sprint e Absent ps es) s h = inl refl
    node_type t (typed.Print printed.Fprint e Absent ps es) s h = absurd h
    node_type t (typed.Print w e (Present x) ps es) s h = absurd h
    node_type t _ s h = absurd h

  types_stand : (es : Exprs) → SoundExprs m variables es → AllPart (terms_of es) → AllStand (types_in m.adts (terms_of es))
      (sound.types_of es)
  types_stand NoExprs s h = tt
  types_stand (MoreExprs (Of t n) es) s h = (node_type t n s.0.1 h.0, types_stand es s.1 h.1)

  -- what a byte is printed as
  printed_handled : (t : Ty) (u : Term) → Handled m.adts u → Handled m.adts (as_printed t u)
  printed_handled ty.Byte u h = inl (inl refl, (h, tt))
  printed_handled _ u h = h

  pub printed_part : (t : Ty) (u : Term) → IsPart (as_printed t u) → IsPart u
  printed_part ty.Byte u h = h.0
  printed_part _ u h = h

  applied_handled : (o : Operation) (t : Ty) (ts : Terms) → Suits m.adts t (operating o) ts → AllHandled m.adts ts
      → Handled m.adts (Node t (operating o) ts)
  applied_handled o t ts s h = inl (s, h)

  channel : (t : Ty) → sound.IsChannel t → IsChannel t
  channel (ty.ChanOf t) h = tt
  channel _ h = absurd h

  mutual
    node_handled : (t : Ty) (n : typed.Node) → SoundNode m variables t n → IsPart (node_of t n) → Handled m.adts (node_of t n)
    node_handled t (typed.Number n) s h = inl (tt, tt)
    node_handled t (typed.Chars x) s h = inl (tt, tt)
    node_handled t typed.Nil s h = inl (tt, tt)
    node_handled t (typed.Read (At u p)) s h = inl (tt, place_handled u p s.0.1 h)
    node_handled t (typed.Part (Of u e) n) s h =
        let same : type_of m.adts (node_of u e) ≡ u = whole_type m.adts (type_of m.adts (node_of u e)) u n t (node_type u e s.0.1 h.0)
        s.1 in
        inl (
          subst (λ (x : Ty). Takes m.adts x n t) (sym same) (takes_so m.adts u n t (layout_of m.adts laid u n t s.1) s.1),
          (node_handled u e s.0.1 h.0, tt),
        )
    node_handled t (typed.Apply o es) s h =
        applied_handled o t (terms_of es)
        (applied m.adts laid o t (terms_of es) (sound.types_of es) s.1 (types_stand es s.0 (operated_part o t (terms_of es) h)))
        (exprs_handled es s.0 (operated_part o t (terms_of es) h))
    node_handled t (typed.Lazy c (Of u l) (Of w r)) s h = (node_handled u l s.0.1 h.0, node_handled w r s.1.1 h.1)
    node_handled t (typed.Assign p (Of u n)) s h =
        let x = node_handled u n s.0.1 (part_back (operands_to p) (only_term (node_of u n)) h).0 in
        inl (
          (let e1 = counts_pattern p u [] s.1 in let e2 = count_before (operands_to p) (only_term (node_of u n)) in omega arith),
          handled_before m.adts (operands_to p) (only_term (node_of u n))
              (pattern_handled p u s.1 (part_front (operands_to p) (only_term (node_of u n)) h)) (x, tt),
        )
    node_handled t (typed.Update o (At u p) (Of w e)) s h =
        (not_passed m.adts laid o u (sound.type_of (Of w e) ∷ []) s.2, place_handled u p s.0.1 h.0, (node_handled w e s.1.1 h.1.0, tt))
    node_handled t (typed.Step o g (At u p)) s h = (not_passed m.adts laid o u [] s.1, place_handled u p s.0.1 h.0, tt)
    node_handled t (typed.Copy (Of u a) (Of v i) (Of w e)) s h =
        inl (omega arith, (node_handled u a s.0.1 h.0, (node_handled v i s.1.1 h.1.0, (node_handled w e s.2.1 h.1.1.0, tt))))
    node_handled t (typed.Filled l is rest) s h =
        (length_handled l is s.2 h.0, items_handled is s.0 s.3 h.1, rest_handled rest s.0 s.4 h.2)
    node_handled t (typed.Channel Absent) s h = inl (channel t s.0, tt)
    node_handled t (typed.Call f es) s h = inl (tt, exprs_handled es s.0 h)
    node_handled t (typed.Print printed.Print e Absent ps es) s h = inl (s.5, prints_handled es s.3 h)
    node_handled t (typed.Print printed.Sprint e Absent ps es) s h = inl (tt, prints_handled es s.3 h)
    node_handled t (typed.Print printed.Fprint e Absent ps es) s h = absurd h
    node_handled t (typed.Print w e (Present x) ps es) s h = absurd h
    node_handled t _ s h = absurd h

    exprs_handled : (es : Exprs) → SoundExprs m variables es → AllPart (terms_of es) → AllHandled m.adts (terms_of es)
    exprs_handled NoExprs s h = tt
    exprs_handled (MoreExprs (Of t n) es) s h = (node_handled t n s.0.1 h.0, exprs_handled es s.1 h.1)

    prints_handled : (es : Exprs) → SoundExprs m variables es → AllPart (printed_of es) → AllHandled m.adts (printed_of es)
    prints_handled NoExprs s h = tt
    prints_handled (MoreExprs (Of t n) es) s h =
        (printed_handled t (node_of t n) (node_handled t n s.0.1 (printed_part t (node_of t n) h.0)), prints_handled es s.1 h.1)

    length_handled : (l : Optional) (is : typed.Items) → SoundOptional m variables l ty.Int → IsPart (length_term l is)
        → IsKnown (length_term l is) ⊎ Handled m.adts (length_term l is)
    length_handled Absent is s h = inl refl
    length_handled (Present (Of t n)) is s h = inr (node_handled t n s.0.1 h)

    items_handled : (is : typed.Items) (t : Ty) → SoundItems m variables is t → ItemsPart (items_of is) → HandledItems m.adts (items_of is)
    items_handled typed.NoItems t s h = tt
    items_handled (typed.MoreItems i (Of u n) is) t s h = (node_handled u n s.0.1 h.0, items_handled is t s.2 h.1)

    rest_handled : (e : Optional) (t : Ty) → SoundOptional m variables e t → AllPart (terms_if e) → HandledRest m.adts (terms_if e)
    rest_handled Absent t s h = tt
    rest_handled (Present (Of u n)) t s h = node_handled u n s.0.1 h.0

    place_handled : (t : Ty) (p : PlaceNode) → SoundPlaceNode m variables t p → AllPart (operands_at p) → AllHandled m.adts (operands_at p)
    place_handled t (typed.Local x) s h = tt
    place_handled t (typed.Global x) s h = tt
    place_handled t (typed.Field (At u p) n) s h = place_handled u p s.0.1 h
    place_handled t (typed.Element (Of u a) (Of v i)) s h = (node_handled u a s.0.1 h.0, (node_handled v i s.1.1 h.1.0, tt))
    place_handled t (typed.Character (At u p) (Of v i)) s h =
        handled_before m.adts (operands_at p) (only_term (node_of v i))
        (place_handled u p s.0.1 (part_front (operands_at p) (only_term (node_of v i)) h))
        (node_handled v i s.1.1 (part_back (operands_at p) (only_term (node_of v i)) h).0, tt)
    place_handled t (typed.Target (Of u e)) s h = (node_handled u e s.0.1 h.0, tt)

    pattern_handled : (p : Pattern) (t : Ty) → SoundPattern m variables p t → AllPart (operands_to p) → AllHandled m.adts (operands_to p)
    pattern_handled (typed.ToPlace (At u p)) t s h = place_handled u p s.0.1 h
    pattern_handled typed.ToNothing t s h = tt
    pattern_handled (typed.ToParts ps) t s h = patterns_handled ps (listed s.0) s.2 h

    patterns_handled : (ps : Patterns) (ts : List Ty) → SoundPatterns m variables ps ts → AllPart (operands_among ps)
        → AllHandled m.adts (operands_among ps)
    patterns_handled typed.NoPatterns ts s h = tt
    patterns_handled (typed.MorePatterns p ps) [] s h = absurd s
    patterns_handled (typed.MorePatterns p ps) (t ∷ ts) s h =
        handled_before m.adts (operands_to p) (operands_among ps)
        (pattern_handled p t s.0 (part_front (operands_to p) (operands_among ps) h))
        (patterns_handled ps ts s.1 (part_back (operands_to p) (operands_among ps) h))

-- ---- statements

below : (bs : List Bool) (n : ℕ) (b : Bool) → slice_get bs n ≡ Some b → n < length bs
below [] zero b e = absurd cc
below [] (suc n) b e = absurd cc
below (c ∷ bs) zero b e = omega arith
below (c ∷ bs) (suc n) b e = let l = below bs n b e in omega arith

pub load_or : (n : typed.Node) → (is_load n ≡ None) ⊎ (is_load n ≡ Some Over)
load_or (typed.Assign p (Of t (typed.Load i e))) = inr refl
load_or _ = inl refl

locals_none : (types : List Ty) (xs : List ℕ) → operands_for (map (local types) xs) ≡ 0
locals_none types [] = refl
locals_none types (x ∷ xs) = let e = locals_none types xs in omega arith

module _ (m : Module) (laid : AdtsAreLaid m.adts) (f : typed.Function) where
  abbrev types : List Ty
  types = map (λ (v : Var). v.ty) f.variables

  eval_handled : (k : ℕ) (t : Ty) (n : typed.Node) → SoundNode m f.variables t n → StmPart (evaluated (Of t n))
      → HandledStm m.adts k (evaluated (Of t n))
  eval_handled k t n s = elim (load_or n) [
    | inl e ↦ subst (λ (o : Option Stm). StmPart (elim o [ None ↦ Eval (node_of t n) | Some x ↦ x ])
        → HandledStm m.adts k (elim o [ None ↦ Eval (node_of t n) | Some x ↦ x ])) (sym e) (λ h. node_handled m laid f.variables t n s h.0)
    | inr e ↦ subst (λ (o : Option Stm). StmPart (elim o [ None ↦ Eval (node_of t n) | Some x ↦ x ])
        → HandledStm m.adts k (elim o [ None ↦ Eval (node_of t n) | Some x ↦ x ])) (sym e) (λ h. tt)
  ]

  declared_handled : (xs : List ℕ) (e : Option Expr) → SoundDeclared m f.variables xs e
      → StmPart (Eval (Node ty.Int (Assign (map (local types) xs)) (only_term (declared_value types e))))
      → Handled m.adts (Node ty.Int (Assign (map (local types) xs)) (only_term (declared_value types e)))
  declared_handled [] None s h = absurd h.1
  declared_handled (x ∷ xs) None s h = inr (locals_none types (x ∷ xs), refl)
  declared_handled xs (Some (Of t n)) s h =
      inl ((let e = locals_none types xs in omega arith), (node_handled m laid f.variables t n s.0.1 h.0.0, tt))

  condition_handled : (c : Option Expr) → SoundCondition m f.variables c → PartIf (optional c) → HandledIf m.adts (optional c)
  condition_handled None s h = tt
  condition_handled (Some (Of t n)) s h = node_handled m laid f.variables t n s.1 h

  option_handled : (c : Option Expr) → SoundOption m f.variables c → PartIf (optional c) → HandledIf m.adts (optional c)
  option_handled None s h = tt
  option_handled (Some (Of t n)) s h = node_handled m laid f.variables t n s.1 h

  tested_handled : (k : ℕ) (c : Option Expr) (n : Option Term) (body rest : Block) → BlockPart (tested (Looping (optional c) n body) rest)
      → SoundCondition m f.variables c → (PartIf n → HandledIf m.adts n) → (BlockPart body → HandledBlock m.adts (suc k) body)
      → (BlockPart rest → HandledBlock m.adts k rest) → HandledBlock m.adts k (tested (Looping (optional c) n body) rest)
  tested_handled k None n body rest h s hn hb hr = ((tt, hn h.0.1, hb h.0.2), hr h.1)
  tested_handled k (Some (Of t e)) n body rest h s hn hb hr =
      ((refl, (node_handled m laid f.variables t e s.1 h.0.0, hn h.0.1, hb h.0.2)), hr h.1)

  mutual
    stmt_handled : (around : List Bool) (s : Stmt) (rest : Block) → SoundStmt m f around s → BlockPart (before types s rest)
        → (BlockPart rest → HandledBlock m.adts (length around) rest) → HandledBlock m.adts (length around) (before types s rest)
    stmt_handled a typed.Empty rest s h k = (tt, k h.1)
    stmt_handled a (typed.Block ss) rest s h k = stmts_handled a ss (Then Over rest) s h (λ p. (tt, k p.1))
    stmt_handled a (typed.Declare xs e) rest s h k = (declared_handled xs e s h.0, k h.1)
    stmt_handled a (typed.Eval (Of t n)) rest s h k = (eval_handled (length a) t n s.1 h.0, k h.1)
    stmt_handled a (typed.If (Of t c) ss others) rest s h k = (
      (
        node_handled m laid f.variables t c s.0.1 h.0.0,
        stmts_handled a ss Done s.1 h.0.1 (λ p. tt),
        stmts_handled a others Done s.2 h.0.2 (λ p. tt),
      ),
      k h.1,
    )
    stmt_handled a (typed.While c ss) rest s h k =
        tested_handled (length a) c None (all_before types ss Done) (Then Over rest) h s.0 (λ p. tt)
        (λ p. stmts_handled (true ∷ a) ss Done s.1 p (λ q. tt)) (λ p. (tt, k p.1))
    stmt_handled a (typed.Do ss c) rest s h k =
        ((condition_handled c s.1 h.0.0, tt, stmts_handled (true ∷ a) ss Done s.0 h.0.2 (λ p. tt)), (tt, k h.1.1))
    stmt_handled a (typed.For None c n ss) rest s h k =
        tested_handled (length a) c (optional n) (all_before types ss Done) (Then Over rest) h s.1 (option_handled n s.2)
        (λ p. stmts_handled (true ∷ a) ss Done s.3 p (λ q. tt)) (λ p. (tt, k p.1))
    stmt_handled a (typed.For (Some (Of t e)) c n ss) rest s h k = (
      eval_handled (length a) t e s.0.1 h.0,
      tested_handled (length a) c (optional n) (all_before types ss Done) (Then Over rest) h.1 s.1 (option_handled n s.2)
          (λ p. stmts_handled (true ∷ a) ss Done s.3 p (λ q. tt)) (λ p. (tt, k p.1)),
    )
    stmt_handled a (typed.Break n) rest s h k = (s, k h.1)
    stmt_handled a (typed.Continue n) rest s h k = (below a n true s, k h.1)
    stmt_handled a (typed.Return None) rest s h k = (tt, k h.1)
    stmt_handled a (typed.Return (Some (Of t n))) rest s h k = (node_handled m laid f.variables t n s.0.1 h.0, k h.1)
    stmt_handled a _ rest s h k = absurd h.0.0

    stmts_handled : (around : List Bool) (ss : Stmts) (rest : Block) → SoundStmts m f around ss → BlockPart (all_before types ss rest)
        → (BlockPart rest → HandledBlock m.adts (length around) rest) → HandledBlock m.adts (length around) (all_before types ss rest)
    stmts_handled a typed.NoStmts rest s h k = k h
    stmts_handled a (typed.MoreStmts x ss) rest s h k =
        stmt_handled a x (all_before types ss rest) s.0 h (λ p. stmts_handled a ss rest s.1 p k)

-- ---- modules

functions_handled : (m : Module) (laid : AdtsAreLaid m.adts) (fs : List typed.Function) → Each (SoundFunction m) fs → (k : ℕ) (r : Routine)
    → slice_get (map routine_of fs) k ≡ Some r → BlockPart r.body → HandledBlock m.adts 0 r.body
functions_handled m laid [] s zero r e h = absurd cc
functions_handled m laid [] s (suc k) r e h = absurd cc
functions_handled m laid (f ∷ fs) s zero r e h =
    let same : routine_of f ≡ r = cc in
    subst (λ (x : Routine). BlockPart x.body → HandledBlock m.adts 0 x.body) same
    (λ p. stmts_handled m laid f [] f.body Done s.0.body p (λ q. tt)) h
functions_handled m laid (f ∷ fs) s (suc k) r e h = functions_handled m laid fs s.1 k r e h

pub modules_are_handled : (m : Module) → sound.IsSound m → AdtsAreLaid m.adts → ProgramPart (program_of m) → HandledProgram (program_of m)
modules_are_handled m s laid part f r e = functions_handled m laid m.functions s.functions f r e (part f r e)

pub modules_keep : ModulesKeep
modules_keep limit m s laid part = code_keeps limit (program_of m) (modules_are_handled m s laid part)
