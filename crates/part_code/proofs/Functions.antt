-- The code of functions and modules of the part is proper.
use Rattle.std.proofs.Common.{◌≡◌, ℕ, zero, suc, ◌+◌, true, List, [], ◌∷◌, ◌++◌, length, map, Option, Some, None, refl, sym, ap}
use Rattle.std.proofs.Common.{◌∙◌, subst, arith}
use Rattle.std.specs.Prelude.{slice_get, option_map}
use Rattle.std.proofs.lemmas.Option.{none-some, same_Some, slice_get-map}
use Rattle.std.proofs.lemmas.List.{length-append}
use Rattle.limbo_typed.specs.declared.module.Initial.{Initial}
use Rattle.limbo_typed.specs.Typed as typed
use Rattle.system_model.specs.Values.{Value, Num}
use Rattle.limbo_types.specs.Types.{Ty, Byte, Int, Big}
use Rattle.limbo_values.specs.declared.number.Kind.{Kind}
use Rattle.limbo_values.specs.Numbers.{InRange, wrapped}
use Rattle.limbo_values.proofs.Ranges.{always}
use Rattle.typed_meaning.specs.Values.{kind_of, fitted}
use Rattle.typed_meaning.specs.Program.{initial_of, initials_from}
use Rattle.slot_code.specs.Code.{Inst, Leave, Function, Module, GlobalVariable}
use Rattle.dis_objects.specs.Frames.{Callee, made_by, made_from}
use Rattle.dis_objects.specs.Proper.{ProperInst, ProperFunction}
use Rattle.typed_lower.specs.Statements.{number_kind, stmts_code, function_code, functions_code, global_code, globals_code, module_code}
use Rattle.typed_lower.specs.Stands.{HasAt}
use Rattle.typed_part.specs.Part as part
use Rattle.typed_part.proofs.Tests.{left, right, all_at}
use Rattle.part_code.specs.Laws.{PartIsProper}
use Rattle.part_code.proofs.Level.{At, All, all_both, front_has}
use Rattle.part_code.proofs.Expressions.{Knows}
use Rattle.part_code.proofs.Statements.{ProperStmt, stmts_proper}

-- ---- whole code

has_by : (codes : List Inst) (pc : ℕ) (is : List Inst)
    → ((n : ℕ) (i : Inst) → slice_get is n ≡ Some i → slice_get codes (pc + n) ≡ Some i) → HasAt codes pc is
has_by codes pc [] h = tt
has_by codes pc (i ∷ is) h = (
  subst (λ l. slice_get codes l ≡ Some i) (omega arith) (h 0 i refl),
  has_by codes (suc pc) is (λ n j e. subst (λ l. slice_get codes l ≡ Some j) (omega arith) (h (suc n) j e)),
)

has_all : (is : List Inst) → HasAt is 0 is
has_all is = has_by is 0 is (λ n i e. subst (λ l. slice_get is l ≡ Some i) (omega arith) e)

module _ (m : Module) (f : Function) where
  one_of : (cs : List Callee) (pc : ℕ) (is : List Inst) → All m f cs pc is → (n : ℕ) (i : Inst) → slice_get is n ≡ Some i
      → ProperInst m f (made_from cs is n) (pc + n) i
  one_of cs pc [] h n i e = absurd (none-some i e)
  one_of cs pc (j ∷ is) h zero i e =
      let at : pc ≡ pc + 0 = omega arith in subst (λ p. ProperInst m f cs p i) at (subst (ProperInst m f cs pc) (same_Some j i e) h.0)
  one_of cs pc (j ∷ is) h (suc n) i e =
      let at : suc pc + n ≡ pc + suc n = omega arith in
      subst (λ p. ProperInst m f (made_from (made_by cs j) is n) p i) at (one_of (made_by cs j) (suc pc) is h.1 n i e)

  -- A body, and the end of the function.
  with_leave : (body : List Inst) → f.code ≡ body ++ Leave ∷ [] → ProperStmt m f [] body → ProperFunction m f
  with_leave body e p =
      let its = body ++ Leave ∷ [] in
      let l : length f.code ≡ length body + 1 = ap length e ∙ length-append body (Leave ∷ []) in
      let h : At m f [] body 0 = record {
        has = front_has f.code 0 body (Leave ∷ []) (subst (λ c. HasAt c 0 its) (sym e) (has_all its));
        made = nothing f.code;
        within = omega (arith, l);
      } in
      let a : All m f [] 0 body = p.each 0 h (λ n x k. absurd (none-some x k)) in
      let b : All m f [] 0 its = all_both m f [] 0 body (Leave ∷ []) a (p.level, tt) in
      record {
        some = omega (arith, l);
        each = λ pc i k.
            let at : 0 + pc ≡ pc = omega arith in
            let q : ProperInst m f (made_from [] its pc) (0 + pc) i = one_of [] 0 its b pc i (subst (λ c. slice_get c pc ≡ Some i) e k) in
            subst (λ c. ProperInst m f (made_from [] c pc) pc i) (sym e) (subst (λ n. ProperInst m f (made_from [] its pc) n i) at q);
      }
    where
      nothing : (is : List Inst) → made_from [] is 0 ≡ []
      nothing [] = refl
      nothing (i ∷ is) = refl

-- ---- variables of the module

global_kind : (v : typed.Var) (x : Value) → (global_code v x).kind ≡ number_kind v.ty
global_kind v (Num z) = refl

global_there : (n : ℕ) (vs : List typed.Var) (is : List Initial) (x : ℕ) (v : typed.Var) → slice_get vs x ≡ Some v
    → (g : GlobalVariable) × (slice_get (globals_code vs (initials_from n vs is)) x ≡ Some g) × (g.kind ≡ number_kind v.ty)
global_there n [] is x v e = absurd (none-some v e)
global_there n (u ∷ vs) is zero v e =
    let y = fitted u.ty (initial_of n is) in
    (global_code u y, refl, global_kind u y ∙ ap (λ (w : typed.Var). number_kind w.ty) (same_Some u v e))
global_there n (u ∷ vs) is (suc x) v e = global_there (suc n) vs is x v e

-- The kind of a number's type.
kind_is : (t : Ty) (k : Kind) → number_kind t ≡ Some k → kind_of t ≡ k
kind_is Byte k e = cc
kind_is Int k e = cc
kind_is Big k e = cc
kind_is _ k e = absurd cc

initial_fits : (v : typed.Var) (x : Value) (k : Kind) → number_kind v.ty ≡ Some k → InRange k (global_code v (fitted v.ty x)).initial
initial_fits v (Num z) k e = subst (λ j. InRange j (wrapped (kind_of v.ty) z)) (kind_is v.ty k e) (always (kind_of v.ty) z)

-- Each begins with a number of its kind.
initials_fit : (vs : List typed.Var) (n : ℕ) (is : List Initial) (x : ℕ) (g : GlobalVariable) (k : Kind)
    → slice_get (globals_code vs (initials_from n vs is)) x ≡ Some g → g.kind ≡ Some k → InRange k g.initial
initials_fit [] n is x g k e kind = absurd (none-some g e)
initials_fit (v ∷ vs) n is zero g k e kind =
    let y = fitted v.ty (initial_of n is) in
    let same = same_Some (global_code v y) g e in
    subst (λ (h : GlobalVariable). InRange k h.initial) same
    (initial_fits v (initial_of n is) k (sym (global_kind v y) ∙ ap (λ (h : GlobalVariable). h.kind) same ∙ kind))
initials_fit (v ∷ vs) n is (suc x) g k e kind = initials_fit vs (suc n) is x g k e kind

-- ---- functions

module _ (m : typed.Module) (h : part.is_part m ≡ true) where
  pub each_function : (n : ℕ) (f : typed.Function) → slice_get m.functions n ≡ Some f → part.is_function m f ≡ true
  each_function n f e = all_at (part.is_function m) m.functions n f e (right _ _ h)

  callee_there : (n : ℕ) (g : typed.Function) → slice_get m.functions n ≡ Some g
      → (slice_get (functions_code m) n ≡ Some (function_code g)) × (part.begin_with g.of.args (part.types_in g.variables) ≡ true)
  callee_there n g e =
      let plain : part.is_plain g ≡ true = left _ _ (each_function n g e) in
      (slice_get-map function_code m.functions n ∙ ap (option_map function_code) e, right _ _ (left _ _ plain))

  pub known : (f : typed.Function) → Knows (module_code m) (function_code f) (part.inside m f)
  known f = record {
    local = λ x v e. slice_get-map (λ (u : typed.Var). number_kind u.ty) f.variables x
        ∙ ap (option_map (λ (u : typed.Var). number_kind u.ty)) e;
    global = λ x v e. global_there 0 m.globals m.initials x v e;
    callee = λ n g e. callee_there n g e;
    answer = refl;
  }

  function_proper : (n : ℕ) (f : typed.Function) → slice_get m.functions n ≡ Some f → ProperFunction (module_code m) (function_code f)
  function_proper n f e =
      with_leave (module_code m) (function_code f) (stmts_code (map (λ v. v.ty) f.variables) [] f.body) refl
      (stmts_proper (module_code m) (function_code f) (part.inside m f) (known f) f.body [] (right _ _ (each_function n f e)))

  coded_proper : (n : ℕ) (g : Function) → slice_get (functions_code m) n ≡ Some g → (o : Option typed.Function)
      → slice_get m.functions n ≡ o → ProperFunction (module_code m) g
  coded_proper n g e None none =
      absurd (none-some g (sym (slice_get-map function_code m.functions n ∙ ap (option_map function_code) none) ∙ e))
  coded_proper n g e (Some f) there =
      let same : function_code f ≡ g =
      same_Some (function_code f) g (sym (slice_get-map function_code m.functions n ∙ ap (option_map function_code) there) ∙ e) in
      subst (ProperFunction (module_code m)) same (function_proper n f there)

pub part_is_proper : PartIsProper
part_is_proper m h = record {
  functions = λ n f e. coded_proper m h n f e (slice_get m.functions n) refl;
  variables = λ x g k e kind. initials_fit m.globals 0 m.initials x g k e kind;
}
