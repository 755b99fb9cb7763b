-- The code of a tree begins with an instruction that an operand may move in front of.
use Rattle.std.proofs.Common.{◌≡◌, ℕ, ◌<◌, Bool, true, false, List, [], ◌∷◌, ◌++◌, length, Option, None}
use Rattle.std.proofs.Common.{refl, sym, subst, arith, inl, inr, ◌⊎◌}
use Rattle.std.proofs.lemmas.List.{length-reverse}
use Rattle.std.specs.Prelude.{slice_get, reverse, if◌then◌else◌}
use Rattle.limbo_types.specs.Types as ty
use Rattle.limbo_types.specs.Types.{Ty}
use Rattle.limbo_types.specs.View.{tys_of}
use Rattle.limbo_layout.specs.Adts.{Def}
use Rattle.limbo_meaning.specs.Operations.{item_of}
use Rattle.limbo_meaning.specs.Trees as tree
use Rattle.limbo_meaning.specs.Trees.{Work, Operate, Term, Evaluated, Node, Lazy, Update, Fill, Terms, NoTerms, MoreTerms}
use Rattle.limbo_meaning.specs.Evaluation.{passes_on}
use Rattle.core_code.specs.Code.{Instr}
use Rattle.core_code.specs.Terms.{LoweredAll, gives, gathers, placed, variant_of, numbers_from, part_numbers, cells}
use Rattle.core_code.specs.Terms.{list_code, node, types_in, lower, lower_all}
use Rattle.core_follows.specs.Drops.{HasAt}
use Rattle.core_follows.specs.Stands.{place, place_at}
use Rattle.core_follows.specs.Handled.{Suits, IsKnown, Handled, AllHandled}

abbrev pub Begins : List Instr → Type 0
Begins [] = ⊥
Begins (i ∷ is) = 0 < place i

abbrev pub EachBegins : List (List Instr) → Type 0
EachBegins [] = Unit {0}
EachBegins (c ∷ cs) = Begins c × EachBegins cs

pub begins_front : (is js : List Instr) → Begins is → Begins (is ++ js)
begins_front [] js h = absurd h
begins_front (i ∷ is) js h = h

pub begins_at : (code : List Instr) (pc : ℕ) (is : List Instr) → HasAt code pc is → Begins is → 0 < place_at (slice_get code pc)
begins_at code pc [] h b = absurd b
begins_at code pc (i ∷ is) h b = subst (λ (o : Option Instr). 0 < place_at o) (sym h.0) b

pub record AllBegin (l : LoweredAll) : Type 0 where
  pub each : EachBegins l.each
  pub code : (is : List Instr) → Begins is → Begins (l.code ++ is)

module _ (defs : List Def) where
  pub placed_begins : (t : Ty) (v : Option ℕ) (into n : ℕ) (ks : List ℕ) (cs : List (List Instr)) (ss : List ℕ) (is : List Instr)
      → EachBegins cs → Begins is → Begins (placed defs t v into n ks cs ss ++ is)
  placed_begins t v into n (k ∷ ks) (c ∷ cs) (s ∷ ss) is h b = begins_front _ is (begins_front c _ h.0)
  placed_begins t v into n ks cs ss is h b = b

  cells_begin : (t : Ty) (ss : List ℕ) (behind : Option ℕ) (free : ℕ) → 0 < length ss → Begins (cells defs t ss behind free)
  cells_begin t [] behind free l = absurd (omega arith)
  cells_begin t (s ∷ ss) behind free l = omega arith

  list_begins : (t : Ty) (ss : List ℕ) (free : ℕ) → Begins (list_code defs t ss free)
  list_begins t [] free = omega arith
  list_begins t (s ∷ ss) free = cells_begin t (reverse (s ∷ ss)) None free (let e = length-reverse (s ∷ ss) in omega arith)

  node_begins : (us : List Ty) (t : Ty) (o : Work) (ts : Terms) (l : LoweredAll) → AllBegin l
      → ((aims : List tree.Aim) → o ≡ tree.Assign aims → Begins l.code) → Begins (node defs us t o l).code
  node_begins us t (Operate o) ts l a f = go (passes_on o)
    where
      go : (b : Bool) → Begins (if b then gathers defs t o l else gives defs t (Operate o) l).code
      go true = placed_begins t (variant_of defs o) l.free 0 (part_numbers defs o (length l.values)) l.each l.values _ a.each (omega arith)
      go false = a.code _ (omega arith)
  node_begins us t (tree.Assign aims) ts l a f = begins_front l.code _ (f aims refl)
  node_begins us t (tree.TakePart k) ts l a f = a.code _ (omega arith)
  node_begins us t tree.Copy ts l a f = a.code _ (omega arith)
  node_begins us t tree.Link ts l a f = a.code _ (list_begins (item_of t) l.values l.free)
  node_begins us t (tree.Call g) ts l a f =
      placed_begins (ty.Tuple (tys_of us)) None l.free 0 (numbers_from defs 0 (length l.values)) l.each l.values _ a.each (omega arith)
  node_begins us t (tree.Print ps) ts l a f =
      placed_begins (ty.Tuple (tys_of (ty.Chars ∷ us))) None l.free 0 (numbers_from defs 1 (length l.values)) l.each l.values _ a.each
      (omega arith)
  node_begins us t tree.NewChannel ts l a f = a.code _ (omega arith)
  node_begins us t (tree.Literal c) ts l a f = a.code _ (omega arith)
  node_begins us t tree.Nil ts l a f = a.code _ (omega arith)
  node_begins us t (tree.Read w) ts l a f = a.code _ (omega arith)
  node_begins us t (tree.Sprint ps) ts l a f = a.code _ (omega arith)

  length_begins : (t : Term) (lo : ℕ) → (IsKnown t) ⊎ (Handled defs t) → (Handled defs t → Begins (lower defs lo t).code)
      → Begins (lower defs lo t).code
  length_begins t lo (inr h) f = f h
  length_begins (Evaluated v) lo (inl h) f = omega arith
  length_begins _ lo (inl h) f = absurd h

  mutual
    pub code_begins : (t : Term) → Handled defs t → (lo : ℕ) → Begins (lower defs lo t).code
    code_begins (Node t o ts) (inl h) lo =
        node_begins (types_in defs ts) t o ts (lower_all defs lo ts) (all_begin ts h.1 lo) (λ aims e. assigns aims t ts
        (subst (λ (w : Work). Suits defs t w ts) e h.0) h.1 lo)
    code_begins (Node t (tree.Assign (a ∷ aims)) (MoreTerms (Evaluated v) NoTerms)) (inr d) lo = omega arith
    code_begins (Node t _ _) (inr d) lo = absurd d
    code_begins (Lazy c l r) h lo = begins_front _ _ (begins_front (lower defs lo l).code _ (code_begins l h.0 lo))
    code_begins (Update o g t w ts us) h lo = begins_front _ _ ((all_begin ts h.1 lo).code _ (omega arith))
    code_begins (Fill t l is rest) h lo =
        begins_front _ _ (begins_front (lower defs lo l).code _ (length_begins l lo h.0 (λ x. code_begins l x lo)))
    code_begins _ h lo = absurd h

    assigns : (aims : List tree.Aim) (t : Ty) (ts : Terms) → Suits defs t (tree.Assign aims) ts → AllHandled defs ts → (lo : ℕ)
        → Begins (lower_all defs lo ts).code
    assigns aims t NoTerms s h lo = absurd (omega (arith, s))
    assigns aims t (MoreTerms u us) s h lo = begins_front (lower defs lo u).code _ (code_begins u h.0 lo)

    pub all_begin : (ts : Terms) → AllHandled defs ts → (lo : ℕ) → AllBegin (lower_all defs lo ts)
    all_begin NoTerms h lo = record { each = tt; code = λ is b. b }
    all_begin (MoreTerms t ts) h lo =
        let a = lower defs lo t in
        let b = all_begin ts h.1 a.free in
        let c = code_begins t h.0 lo in
        record { each = (c, b.each); code = λ is d. begins_front (a.code ++ (lower_all defs a.free ts).code) is (begins_front a.code _ c) }
