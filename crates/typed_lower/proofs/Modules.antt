-- The code of a module's functions does what they mean.
use Rattle.std.proofs.Common.{◌≡◌, ℕ, suc, ◌+◌, ◌-◌, List, [], ◌∷◌, ◌++◌, length, map, Option, Some, None, refl, sym, ap, ◌∙◌, subst, arith}
use Rattle.std.proofs.Common.{length-append}
use Rattle.std.proofs.lemmas.List.{length-map}
use Rattle.std.proofs.lemmas.Option.{none-some, same_Some, slice_get-map}
use Rattle.std.specs.Prelude.{slice_get, option_map, replicate}
use Rattle.limbo_typed.specs.Typed as typed
use Rattle.limbo_typed.specs.Typed.{Module}
use Rattle.system_model.specs.Values.{zero_value}
use Rattle.typed_meaning.specs.Trees.{Done}
use Rattle.typed_meaning.specs.Program.{Routine, routine_of, routines_of}
use Rattle.typed_meaning.specs.Runs.{first_process}
use Rattle.slot_code.specs.Code.{Inst, Leave, Function}
use Rattle.slot_code.specs.Rules as code_rules
use Rattle.typed_lower.specs.Statements.{number_kind, stmts_code, function_code, functions_code}
use Rattle.typed_lower.specs.Stands as stands
use Rattle.typed_lower.specs.Stands.{AllHandled, HasAt, Does, Ready, Compiled}
use Rattle.typed_lower.specs.Keeps.{HasCode}
use Rattle.typed_lower.proofs.Places.{has_front, has_back, has_at}
use Rattle.typed_lower.proofs.Bodies.{does_stmts}

-- ---- code in itself

found_behind : (front : List Inst) (i : Inst) (is : List Inst) → slice_get (front ++ i ∷ is) (length front) ≡ Some i
found_behind [] i is = refl
found_behind (j ∷ front) i is = found_behind front i is

one_more : (front : List Inst) (i : Inst) (is : List Inst) → (front ++ i ∷ []) ++ is ≡ front ++ i ∷ is
one_more [] i is = refl
one_more (j ∷ front) i is = ap (λ xs. j ∷ xs) (one_more front i is)

has_behind : (front is : List Inst) → HasAt (front ++ is) (length front) is
has_behind front [] = tt
has_behind front (i ∷ is) = (
  found_behind front i is,
  subst (λ c. HasAt c (suc (length front)) is) (one_more front i is)
      (has_at ((front ++ i ∷ []) ++ is) (length (front ++ i ∷ [])) (suc (length front)) is (omega (arith, length-append front (i ∷ [])))
      (has_behind (front ++ i ∷ []) is)),
)

pub has_all : (is : List Inst) → HasAt is 0 is
has_all is = has_behind [] is

-- ---- functions

module _ (routines : List Routine) (functions : List Function) where
  body_code_does : (f : typed.Function) → AllHandled (map (λ v. v.ty) f.variables) 0 f.body
      → Does routines functions (function_code f).code 0 (routine_of f).body
  body_code_does f handled =
      let types = map (λ v. v.ty) f.variables in
      let B = stmts_code types [] f.body in
      let all : HasAt (B ++ Leave ∷ []) 0 (B ++ Leave ∷ []) = has_all (B ++ Leave ∷ []) in
      let last : Does routines functions (B ++ Leave ∷ []) (0 + length B) Done =
      stands.ends (0 + length B) (has_back (B ++ Leave ∷ []) 0 B (Leave ∷ []) all).0 in
      does_stmts routines functions (B ++ Leave ∷ []) types f.body [] handled 0 Done (has_front (B ++ Leave ∷ []) 0 B (Leave ∷ []) all) last
      (stands.exits (0 + length B) [] Done (λ n a e. absurd (none-some a e)) (λ n a e. absurd (none-some a e)))

compiled_by : (m : Module) → HasCode m → (n : ℕ) → (o : Option typed.Function) → slice_get m.functions n ≡ o
    → Compiled (routines_of m) (functions_code m) n
compiled_by m has n None e =
    stands.missing (slice_get-map routine_of m.functions n ∙ ap (option_map routine_of) e)
    (slice_get-map function_code m.functions n ∙ ap (option_map function_code) e)
compiled_by m has n (Some f) e =
    stands.there (routine_of f) (function_code f) (slice_get-map routine_of m.functions n ∙ ap (option_map routine_of) e)
    (slice_get-map function_code m.functions n ∙ ap (option_map function_code) e)
    (sym (length-map f.variables (λ v. number_kind v.ty)))
    (body_code_does (routines_of m) (functions_code m) f (has n f e))

pub compiled : (m : Module) → HasCode m → (n : ℕ) → Compiled (routines_of m) (functions_code m) n
compiled m has n = compiled_by m has n (slice_get m.functions n) refl

-- ---- the beginning

begins_by : (routines : List Routine) (functions : List Function) (n : ℕ) (first : Routine) (h : Function)
    → slice_get routines n ≡ Some first → slice_get functions n ≡ Some h → Compiled routines functions n
    → Ready routines functions (first_process first) (code_rules.first_process n h)
begins_by routines functions n first h e f (stands.missing a b) = absurd (none-some h (sym b ∙ f))
begins_by routines functions n first h e f (stands.there r g a b variables does) =
    let same_r : r ≡ first = same_Some r first (sym a ∙ e) in
    let same_g : g ≡ h = same_Some g h (sym b ∙ f) in
    let many : first.variables ≡ length h.variables =
    ap (λ (x : Routine). x.variables) (sym same_r) ∙ variables ∙ ap (λ (x : Function). length x.variables) same_g in
    let its : Does routines functions h.code 0 first.body =
    subst (λ (x : Routine). Does routines functions h.code 0 x.body) same_r
    (subst (λ (x : Function). Does routines functions x.code 0 r.body) same_g does) in
    record {
      todo = first.body;
      same = ap (λ (c : ℕ). stands.sourced 1 (record { instance = 0; variables = [] ++ replicate (c - 0) zero_value; todo = first.body })
          []) many;
      runs = record { function = h; found = f };
      stands = stands.outside (code_rules.first_process n h).frame first.body refl its;
      below = tt;
    }

pub begins : (m : Module) → HasCode m → (n : ℕ) (first : Routine) (h : Function) → slice_get (routines_of m) n ≡ Some first
    → slice_get (functions_code m) n ≡ Some h → Ready (routines_of m) (functions_code m) (first_process first)
    (code_rules.first_process n h)
begins m has n first h e f = begins_by (routines_of m) (functions_code m) n first h e f (compiled m has n)
