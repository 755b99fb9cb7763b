-- What statements on expressions and declarations write.
use Rattle.std.proofs.Common.{◌≡◌, ℕ, ℤ, Bool, true, false, List, [], ◌∷◌, ◌++◌, Option, None, Some, map, refl, sym, ap, ◌∙◌}
use Rattle.limbo_types.specs.Types.{Ty}
use Rattle.limbo_typed.specs.declared.operation.Operation.{Operation}
use Rattle.limbo_typed.specs.declared.operation.Given.{Given}
use Rattle.limbo_typed.specs.Typed as typed
use Rattle.system_model.specs.Values.{Num}
use Rattle.typed_meaning.specs.Program.{term_of, node_of, evaluated, local, is_load}
use Rattle.typed_meaning.specs.Trees.{Place, Stm, Over, Eval}
use Rattle.typed_meaning.specs.Trees as tree
use Rattle.slot_code.specs.Code.{Operand, Inst, Temporary, In}
use Rattle.typed_lower.specs.Kinds.{kind_in}
use Rattle.typed_lower.specs.Terms.{code_of}
use Rattle.typed_lower.specs.Statements.{effects, done, moves, sets}
use Rattle.slot_writing.specs.declared.terms.Variable.{Variable}
use Rattle.slot_writing.specs.declared.terms.Term.{Term}
use Rattle.slot_writing.specs.declared.terms.Term.TheVariants as form
use Rattle.slot_writing.specs.Loops.{loads, is_some, IsNotOne}
use Rattle.slot_writing.specs.Terms.{view_term}

pub other_effects : (t : Term) → ((v : Variable) (e : _) → t ≡ form.Store v e → ⊥)
    → ((o : Operation) (v : Variable) (e : _) → t ≡ form.Update o v e → ⊥)
    → ((o : Operation) (g : Given) (v : Variable) → t ≡ form.Step o g v → ⊥)
    → code_of 1 (view_term t) (Temporary (kind_in (view_term t)) 0) ≡ effects (view_term t)
other_effects form.Missing p q r = refl
other_effects (form.Literal t n) p q r = refl
other_effects (form.Read v) p q r = refl
other_effects (form.Apply o es) p q r = refl
other_effects (form.Widened e) p q r = refl
other_effects (form.Lazy c a b) p q r = refl
other_effects (form.Store v e) p q r = absurd (p v e refl)
other_effects (form.Update o v e) p q r = absurd (q o v e refl)
other_effects (form.Step o g v) p q r = absurd (r o g v refl)
other_effects (form.Call t f es) p q r = refl
other_effects (form.Print ps es) p q r = refl

-- ---- expressions as statements

abbrev over : Option Stm → tree.Term → Stm
over o t = elim o [ None ↦ Eval t | Some s ↦ s ]

-- what is done where nothing is
load_over : (n : typed.Node) (s : Stm) → is_load n ≡ Some s → s ≡ Over
load_over (typed.Assign p (typed.Of t (typed.Load i e))) s h = let same : Over ≡ s = cc in sym same
load_over (typed.Assign p (typed.Of t n)) s h = assigned n h
  where
    assigned : (m : typed.Node) → is_load (typed.Assign p (typed.Of t m)) ≡ Some s → s ≡ Over
    assigned (typed.Load i e) h = let same : Over ≡ s = cc in sym same
    assigned _ h = absurd cc
load_over n s h = absurd cc

done_over : (o : Option Stm) (t : tree.Term) → ((s : Stm) → o ≡ Some s → s ≡ Over) → (b : Bool) → is_some o ≡ b
    → done (over o t) ≡ (elim b as (λ x. List Inst) [ true ↦ [] | false ↦ effects t ])
done_over None t p true e = absurd cc
done_over None t p false e = refl
done_over (Some s) t p true e = ap done (p s refl)
done_over (Some s) t p false e = absurd cc

pub loaded : (e : typed.Expr) (b : Bool) → b ≡ true → b ≡ loads e → [] ≡ done (evaluated e)
loaded (typed.Of t n) b h l = sym (done_over (is_load n) (node_of t n) (load_over n) true (sym l ∙ h))

pub not_loaded : (e : typed.Expr) (b : Bool) → b ≡ false → b ≡ loads e → effects (term_of e) ≡ done (evaluated e)
not_loaded (typed.Of t n) b h l = sym (done_over (is_load n) (node_of t n) (load_over n) false (sym l ∙ h))

-- ---- declarations

module _ (types : List Ty) where
  pub literal_sets : (xs : List ℕ) (t : Ty) (z : ℤ) (u : tree.Term) (o : Option Operand) (x : Operand) → IsNotOne xs
      → u ≡ tree.Literal t (Num z) → Some x ≡ o → moves (map (local types) xs) x ≡ sets (map (local types) xs) u o
  literal_sets [] t z u o x h e f = rw (e, sym f) refl
  literal_sets (y ∷ []) t z u o x h e f = absurd h
  literal_sets (y ∷ w ∷ zs) t z u o x h e f = rw (e, sym f) refl

  none_sets : (t : Term) (o : Option Operand) → ((ty : _) (n : ℤ) → t ≡ form.Literal ty n → ⊥)
      → code_of 1 (view_term t) (Temporary (kind_in (view_term t)) 0) ++ [] ≡ sets [] (view_term t) o
  none_sets form.Missing o p = refl
  none_sets (form.Literal t n) o p = absurd (p t n refl)
  none_sets (form.Read v) o p = refl
  none_sets (form.Apply a es) o p = refl
  none_sets (form.Widened e) o p = refl
  none_sets (form.Lazy c a b) o p = refl
  none_sets (form.Store v e) o p = refl
  none_sets (form.Update a v e) o p = refl
  none_sets (form.Step a g v) o p = refl
  none_sets (form.Call t f es) o p = refl
  none_sets (form.Print ps es) o p = refl

  more_sets : (x y : Place) (ps : List Place) (t : Term) (o : Option Operand) → ((ty : _) (n : ℤ) → t ≡ form.Literal ty n → ⊥)
      → code_of 1 (view_term t) (Temporary (kind_in (view_term t)) 0) ++ moves (x ∷ y ∷ ps) (In (Temporary (kind_in (view_term t)) 0))
      ≡ sets (x ∷ y ∷ ps) (view_term t) o
  more_sets x y ps form.Missing o p = refl
  more_sets x y ps (form.Literal t n) o p = absurd (p t n refl)
  more_sets x y ps (form.Read v) o p = refl
  more_sets x y ps (form.Apply a es) o p = refl
  more_sets x y ps (form.Widened e) o p = refl
  more_sets x y ps (form.Lazy c a b) o p = refl
  more_sets x y ps (form.Store v e) o p = refl
  more_sets x y ps (form.Update a v e) o p = refl
  more_sets x y ps (form.Step a g v) o p = refl
  more_sets x y ps (form.Call t f es) o p = refl
  more_sets x y ps (form.Print fs es) o p = refl

  pub other_sets : (xs : List ℕ) (t : Term) (o : Option Operand) → IsNotOne xs → ((ty : _) (n : ℤ) → t ≡ form.Literal ty n → ⊥)
      → code_of 1 (view_term t) (Temporary (kind_in (view_term t)) 0)
      ++ moves (map (local types) xs) (In (Temporary (kind_in (view_term t)) 0))
      ≡ sets (map (local types) xs) (view_term t) o
  other_sets [] t o h p = none_sets t o p
  other_sets (y ∷ []) t o h p = absurd h
  other_sets (y ∷ z ∷ zs) t o h p = more_sets (local types y) (local types z) (map (local types) zs) t o p
